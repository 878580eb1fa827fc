use Rattle.std.proofs.Common.{◌≡◌, ℕ, [], sym, ap, ◌∙◌, subst, rules, replicate}
use Rattle.intern_core.specs.Layout.{word_count}
use Rattle.intern_core.specs.Machine.{idle_seats, IsKept}
use Rattle.intern_core.proofs.Machines.{kept_fresh, machine_of}
use Rattle.intern_core.proofs.machine.Core.make.Goals as goal

pub invariant_of-result : goal.invariant_of-result
invariant_of-result c =
    let zeros : c.in_ok-words.words.items ≡ replicate c.word_count.result 0 = search rules in
    let all : c.in_ok-words.words.items ≡ replicate (word_count c.args.shape) 0 = zeros ∙ ap (λ (n : ℕ). replicate {A = ℕ} n 0) c.word_count.ensures in
    let idle : c.in_ok-seats.seats.items ≡ idle_seats c.args.shape.passes = search rules in
    let none : c.new.result.items ≡ [] = search rules in
    subst (λ l. IsKept (machine_of c.args.shape c.in_ok-words.words.items c.in_ok-seats.seats.items l)) (sym none)
    (subst (λ l. IsKept (machine_of c.args.shape c.in_ok-words.words.items l [])) (sym idle)
    (subst (λ l. IsKept (machine_of c.args.shape l (idle_seats c.args.shape.passes) [])) (sym all) (kept_fresh c.args.shape c.requires)))
