-- Each step of the call, and what is left once it has ended.
use Rattle.std.proofs.Common.{◌≡◌, [], ◌≤◌, ◌+◌, ◌*◌, ⊎_elim, refl, sym, ap, ◌∙◌, subst, subst₂, ◌<◌}
use Rattle.intern_core.specs.declared.seat.Seat.{Seat}
use Rattle.intern_core.specs.declared.seat.Phase.{Phase}
use Rattle.intern_core.specs.declared.seat.Phase.TheVariants.{Idle}
use Rattle.intern_core.specs.Pace.{answer_in, pace, known_beside}
use Rattle.chain_rule.specs.Pacing.{IsPaced}
use Rattle.chain_rule.specs.Told.{phase_begun}
use Rattle.chain_rule.specs.Stepping.{ask_phase, asking}
use Rattle.term_table.specs.Calls.{HasAnswered, IsGoing, steps_left}
use Rattle.term_table.proofs.Calling.{HasCome, first_step, next_step, left_falls, going_busy}
use Rattle.term_table.proofs.interning.walk.Goals as goal

pub loop-last-init : goal.loop-last-init
loop-last-init g c =
    let key = c.args.table.now.setting in
    let u = c.args.pass.now.view in
    let w = c.step.new.pass.view in
    let t = c.step.ensures.step in
    let begins = ask_phase c.args.key u.seat in
    let last_is : c.begun_at-last.result ≡ asking c.args.key u.seat = c.begun_at-last.ensures ∙ ap (asking c.args.key) c.seat.ensures.same in
    let reply : answer_in c.begun_at-last.result.spare c.begun_at-last.result.phase ≡ answer_in u.seat.spare begins =
    ap (λ (s : Seat). answer_in s.spare s.phase) last_is ∙ ap (λ (ph : Phase). answer_in u.seat.spare (phase_begun begins [] ph)) c.requires.idle in
    record {
      own = c.step.ensures.own;
      seat_is = c.seat-seat.ensures.same;
      paced = c.seat-seat.ensures.paced key c.step.ensures.own.1;
      so = subst (λ r. HasCome key.shape c.args.key r c.args.steps.now c.step.new.steps u w) (sym reply)
          (first_step g.M.Meaning.lawful g.M.Meaning.allowed g.M.Meaning.stands key c.args.key t.0 w u begins c.args.steps.now c.step.new.steps c.requires.idle refl c.step.ensures.count t.1);
    }

pub loop-last-preserved : goal.loop-last-preserved
loop-last-preserved g c =
    let key = c.args.table.now.setting in
    let inv = c.loop-last.invariant in
    let u = c.args.pass.now.view in
    let v = c.loop-last.pass.view in
    let w = c.step-in-loop-last.new.pass.view in
    let t = c.step-in-loop-last.ensures.step in
    let going : IsGoing c.args.key u v × (c.loop-last.steps ≤ c.args.steps.now + pace v.seat.marked v.seat.phase) = ⊎_elim
    (λ a. absurd (c.loop-last-test.ensures (ap (λ (s : Seat). s.phase) inv.seat_is ∙ a.0.idle)))
    (λ b. b) inv.so in
    let next = next_step g.M.Meaning.lawful g.M.Meaning.allowed g.M.Meaning.stands key c.args.key t.0 w u v (ask_phase c.args.key v.seat) c.args.steps.now c.loop-last.steps c.step-in-loop-last.new.steps
    going.0 going.1 c.step-in-loop-last.ensures.count (subst (IsPaced key.shape.nodes) inv.seat_is inv.paced) t.1 in
    record {
      own = c.step-in-loop-last.ensures.own;
      seat_is = c.seat-seat-in-loop-last.ensures.same;
      paced = c.seat-seat-in-loop-last.ensures.paced key c.step-in-loop-last.ensures.own.1;
      so = subst (λ (s : Seat). HasCome key.shape c.args.key (answer_in s.spare s.phase) c.args.steps.now c.step-in-loop-last.new.steps u w) (sym inv.seat_is) next.0;
    }

pub loop-last-smaller : goal.loop-last-smaller
loop-last-smaller g c =
    let key = c.args.table.now.setting in
    let inv = c.loop-last.invariant in
    let u = c.args.pass.now.view in
    let v = c.loop-last.pass.view in
    let w = c.step-in-loop-last.new.pass.view in
    let t = c.step-in-loop-last.ensures.step in
    let going : IsGoing c.args.key u v × (c.loop-last.steps ≤ c.args.steps.now + pace v.seat.marked v.seat.phase) = ⊎_elim
    (λ a. absurd (c.loop-last-test.ensures (ap (λ (s : Seat). s.phase) inv.seat_is ∙ a.0.idle)))
    (λ b. b) inv.so in
    let now : IsPaced key.shape.nodes v.seat = subst (IsPaced key.shape.nodes) inv.seat_is inv.paced in
    let next = next_step g.M.Meaning.lawful g.M.Meaning.allowed g.M.Meaning.stands key c.args.key t.0 w u v (ask_phase c.args.key v.seat) c.args.steps.now c.loop-last.steps c.step-in-loop-last.new.steps
    going.0 going.1 c.step-in-loop-last.ensures.count now t.1 in
    let then = subst (IsPaced key.shape.nodes) c.seat-seat-in-loop-last.ensures.same (c.seat-seat-in-loop-last.ensures.paced key c.step-in-loop-last.ensures.own.1) in
    let falls = left_falls key.shape.nodes v.seat.marked w.seat.marked v.seat.phase w.seat.phase c.args.key going.0.call now.low next.1 then.low in
    subst₂ (λ (a b : Seat). steps_left key.shape.nodes a.marked a.phase < steps_left key.shape.nodes b.marked b.phase) (sym c.seat-seat-in-loop-last.ensures.same) (sym inv.seat_is) falls

pub returns : goal.returns
returns g c =
    let inv = c.loop-last.invariant in
    let u = c.args.pass.now.view in
    let v = c.loop-last.pass.view in
    let idle : v.seat.phase ≡ Idle = ap (λ (s : Seat). s.phase) (sym inv.seat_is) ∙ c.loop-last-test.ensures in
    let ended : HasAnswered c.args.key (answer_in c.loop-last.last.spare c.loop-last.last.phase) u v
    × (c.loop-last.steps ≤ c.args.steps.now + (4 * known_beside c.args.table.now.setting.shape v.front c.args.key + 3)) = ⊎_elim
    (λ a. a)
    (λ b. absurd (going_busy c.args.key u v b.0 idle)) inv.so in
    record {
      own = inv.own;
      answered = subst (λ r. HasAnswered c.args.key r u v) (sym c.answer.ensures) ended.0;
      count = ended.1;
    }
