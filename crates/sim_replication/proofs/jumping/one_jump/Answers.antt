use Rattle.std.proofs.Common.{◌≡◌, ℕ, ◌+◌, ◌-◌, ◌*◌, ◌/◌, ◌^◌, ◌<◌, ◌≤◌, ap, sym, ◌∙◌, subst, arith, refl}
use Rattle.std.proofs.lemmas.Result.{err_from_is_err_and}
use Rattle.pepa_model.specs.PepaModel.{PepaModel}
use Rattle.pepa_steps.specs.ListAnswers.{IsTransitionAt}
use Rattle.sim_replication.specs.Signals.{TakenJump}
use Rattle.sim_replication.specs.Jumps.{Point, JumpsTo, IsOutOfNumbers, NoTime, NoChoice, time_after}
use Rattle.sim_replication.proofs.ListsLoaded.{some_entries, time_same, whole_same, numbers_after, none_same, below_same, transition_at, full_since}
use Rattle.sim_replication.proofs.jumping.one_jump.Goals as goal

pub returns-in_default-below-clause-jump : goal.returns-in_default-below-clause-jump
returns-in_default-below-clause-jump g c q s =
    let l = c.in_ok-loaded.ensures.list q s in
    let known = c.in_ok-loaded.ensures.loaded.same in
    let P : ℕ → Type 0 = λ n. n < 2 ^ 63 in
    let fits = subst P (c.in-Some.ensures.0 ∙ time_same _ _ c.args.time c.in-Ok.draw known) c.in-Some.ensures.1 in (
      _,
      (l, some_entries _ _ known c.if-loaded-eq0.false),
      NoChoice c.in-Ok.draw _ c.in-Ok.ensures.draw fits
          (none_same _ _ _ _ (numbers_after (g.N.Numbers.at c.args.from.now) _ _ _ c.exponential.ensures.same c.exponential.ensures.forward)
          (whole_same _ _ known) c.in_default-below.ensures.draw),
    )

pub returns-in_err-state-clause-full : goal.returns-in_err-state-clause-full
returns-in_err-state-clause-full g c =
    let p = err_from_is_err_and c.from_residual-in_err-state.result c.from_residual-in_err-state.ensures.1 in
    let grew = g.met.S.Space.later_fulls _ _ c.load.ensures.later in
    rw (p.1, p.2) (full_since _ _ _ _ grew c.in_err-state.ensures.full)

pub returns-in_err-state-clause-later : goal.returns-in_err-state-clause-later
returns-in_err-state-clause-later g c = g.met.S.Space.later_than_later _ _ _ c.load.ensures.later c.go.ensures.later

pub returns-clause-later : goal.returns-clause-later
returns-clause-later g c = g.met.S.Space.later_than_later _ _ _ c.load.ensures.later c.go.ensures.later

pub returns-clause-jump : goal.returns-clause-jump
returns-clause-jump g c q s =
    let m = g.S.Space.model c.args.space.now in
    let at = g.N.Numbers.at c.args.from.now in
    let l = c.in_ok-loaded.ensures.list q s in
    let known = c.in_ok-loaded.ensures.loaded.same in
    let answered = c.step-signals.ensures in
    let t = transition_at m.bodies q _ l.transitions c.choose-index.result answered.0 c.step-signals.result l.listed l.same answered.1 answered.2 in
    let later = c.load.ensures.later in
    let P : PepaModel → Type 0 = λ x. IsTransitionAt x.bodies q c.choose-index.result t.0 in
    let there : P (g.S.Space.model c.load.new.self) = subst P (sym (g.met.S.Space.later_model _ _ later)) t.1 in
    let gone = c.in_ok-state.ensures.stands q t.0 (g.met.S.Space.later_stands _ _ _ q later s) there in
    let first = c.exponential.ensures.forward in
    let second = c.below.ensures.forward in
    let same_signals : (let x : TakenJump = record { from = q; signals = c.step-signals.result.signals; time = c.in-Some.after } in
    let y : TakenJump = record { from = q; signals = t.0.signals; time = c.in-Some.after } in x ≡ y)
    = ap (λ (n : ℕ). let x : TakenJump = record { from = q; signals = n; time = c.in-Some.after } in x) t.2 in
    let jump : JumpsTo m at (record { state = q; time = c.args.time; place = g.N.Numbers.place c.args.from.now })
    (record { from = q; signals = c.step-signals.result.signals; time = c.in-Some.after })
    (record { state = t.0.target; time = c.in-Some.after; place = g.N.Numbers.place c.below.new.from })
    = record {
      entries = _;
      listed = l;
      draw = c.in-Ok.draw;
      draw_used = _;
      drawn = c.in-Ok.ensures.draw;
      time_is = c.in-Some.ensures.0 ∙ time_same _ _ _ c.in-Ok.draw known;
      in_time = c.in-Some.ensures.1;
      choice = c.in-Ok-below.choice;
      choice_used = _;
      choosing = below_same _ _ _ _ _ _ (numbers_after at _ _ _ c.exponential.ensures.same first) (whole_same _ _ known) c.in-Ok-below.ensures.draw;
      index = c.choose-index.result;
      chosen = c.choose-index.ensures;
      transition = t.0;
      transition_is = t.1;
      target_is = refl;
      place_is = omega arith;
      taken_is = same_signals;
    } in
    (t.0.target, jump, gone.0, gone.1, g.met.S.Space.later_kept _ _ q c.go.ensures.later (c.in_ok-loaded.ensures.kept q s))
