use Rattle.std.proofs.Common.{◌≡◌, ℕ, ◌+◌, ◌*◌, ◌^◌, ◌<◌, ◌≤◌, [], refl, sym, ◌∙◌, subst, arith}
use Rattle.std.proofs.lemmas.Result.{err_from_is_err_and}
use Rattle.pepa_model.specs.PepaModel.{PepaModel}
use Rattle.sim_space.specs.LoadedLists.{IsChoiceList}
use Rattle.sim_replication.specs.declared.passages.Passages.{Passages}
use Rattle.sim_replication.specs.Jumps.{JumpsTo, StopsBy, HaltsBy}
use Rattle.sim_replication.proofs.UnderWay.{IsUnderWay, under_way, under_way_more, run_halted, run_dead, said_before}
use Rattle.sim_replication.proofs.replication.replicate_over.Goals as goal

pub loop-jump-init : goal.loop-jump-init
loop-jump-init g c =
    let first = c.in_ok-at.ensures.stands in
    let space = c.first.new.self in
    let P : Passages → Type 0 = λ p. IsUnderWay (g.S.Space.model c.args.space.now) c.args.order.now (g.N.Numbers.at c.args.from.now) (g.S.Space.stands space c.in_ok-at.at) (g.S.Space.seen space)
    (g.S.Space.kept space) p 0 (g.N.Numbers.place c.args.from.now) 0 in
    record {
      later = c.first.ensures.later;
      same = refl;
      place = omega (arith, c.requires.start);
      in_time = omega arith;
      under_way = subst P (sym c.new-passages.ensures) (under_way _ _ _ (g.S.Space.stands space c.in_ok-at.at) (g.S.Space.seen space) (g.S.Space.kept space) first.0 _ c.requires.start first.1 first.2 first.3);
    }

pub one_jump-requires-clause-wanted : goal.one_jump-requires-clause-wanted
one_jump-requires-clause-wanted g c =
    let inv = c.loop-jump.invariant in
    let u = inv.under_way in
    let wants = g.met.S.Space.later_wants _ _ u.state inv.later in
    (u.state, u.stands, wants.0 (c.requires.wanted u.taken _ u.begins))

pub returns-in_err-reached-clause-run : goal.returns-in_err-reached-clause-run
returns-in_err-reached-clause-run g c =
    let inv = c.loop-jump.invariant in
    let u = inv.under_way in
    let m = g.S.Space.model c.args.space.now in
    let at = g.N.Numbers.at c.args.from.now in
    let later = c.one_jump.ensures.later in
    let p = err_from_is_err_and c.from_residual-in_err-reached.result c.from_residual-in_err-reached.ensures.1 in
    let P : PepaModel → (ℕ → ℕ) → Type 0 = λ x f. HaltsBy (StopsBy x f (record { state = u.state; time = c.loop-jump.time; place = g.N.Numbers.place c.loop-jump.from })) c.in_err-reached.field-0.0 in
    let halts = said_before m _ at _ (g.met.S.Space.later_model _ _ inv.later) inv.same P (c.in_err-reached.ensures.jump u.state u.stands) in
    let ends = run_halted m c.args.order.now at _ _ _ _ _ _ _ u (g.S.Space.seen c.one_jump.new.space) (g.S.Space.kept c.one_jump.new.space) (omega arith) (omega arith)
    (λ q. g.met.S.Space.later_seen _ _ q later) (λ q. g.met.S.Space.later_kept _ _ q later) c.in_err-reached.field-0.0 halts in
    rw (p.1, p.2) ends

pub returns-in_default-clause-run : goal.returns-in_default-clause-run
returns-in_default-clause-run g c =
    let inv = c.loop-jump.invariant in
    let u = inv.under_way in
    let m = g.S.Space.model c.args.space.now in
    let at = g.N.Numbers.at c.args.from.now in
    let later = c.one_jump.ensures.later in
    let P : PepaModel → (ℕ → ℕ) → Type 0 = λ x f. IsChoiceList x u.state [] in
    let dead = said_before m _ at _ (g.met.S.Space.later_model _ _ inv.later) inv.same P (rw c.in_default.is at (c.in_ok-reached.ensures.jump u.state u.stands)) in
    run_dead m c.args.order.now at _ _ _ _ _ _ _ u (g.S.Space.seen c.one_jump.new.space) (g.S.Space.kept c.one_jump.new.space) (omega arith) (omega arith)
    (λ q. g.met.S.Space.later_seen _ _ q later) (λ q. g.met.S.Space.later_kept _ _ q later) dead _ c.ended-in_default.ensures

pub loop-jump-preserved : goal.loop-jump-preserved
loop-jump-preserved g c =
    let inv = c.loop-jump.invariant in
    let u = inv.under_way in
    let m = g.S.Space.model c.args.space.now in
    let at = g.N.Numbers.at c.args.from.now in
    let later = c.one_jump.ensures.later in
    let j = rw c.in-Some.is at (c.in_ok-reached.ensures.jump u.state u.stands) in
    let P : PepaModel → (ℕ → ℕ) → Type 0 = λ x f. JumpsTo x f (record { state = u.state; time = c.loop-jump.time; place = g.N.Numbers.place c.loop-jump.from })
    (record { from = u.state; signals = c.in-Some.reached.signals; time = c.in-Some.reached.time })
    (record { state = j.0; time = c.in-Some.reached.time; place = g.N.Numbers.place c.one_jump.new.from }) in
    let jump = said_before m _ at _ (g.met.S.Space.later_model _ _ inv.later) inv.same P j.1 in
    record {
      later = g.met.S.Space.later_than_later _ _ _ inv.later later;
      same = c.one_jump.ensures.same ∙ inv.same;
      place = omega (arith, c.one_jump.ensures.within, inv.place);
      in_time = rw c.in-Some.is at c.in_ok-reached.ensures.in_time;
      under_way = under_way_more m c.args.order.now at _ _ _ _ _ _ _ u (g.S.Space.stands c.one_jump.new.space c.in-Some.reached.state) (g.S.Space.seen c.one_jump.new.space) (g.S.Space.kept c.one_jump.new.space)
          _ _ _ j.0 _ (omega arith) (omega arith) jump j.2 j.3 j.4 (λ q. g.met.S.Space.later_seen _ _ q later) (λ q. g.met.S.Space.later_kept _ _ q later) c.in_ok-hear.ensures;
    }
