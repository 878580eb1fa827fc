-- A position has one letter with its guards.
use Rattle.std.proofs.Common.{◌≡◌, ℕ, ◌+◌, inl, inr, sym, ap, arith, ◌∙◌, subst}
use Rattle.probe_words.specs.MarkedLetters.{GuardedLetter, guard_added}
use Rattle.probe_words.specs.Core.{Core, Epsilon, Symbol, Sequence, Alternative, LastLabelled, Repeated, Restarted, FirstGuarded, size_of, IsLetterAt, firsts}
use Rattle.probe_words.proofs.PlaceLists.{copy_one}
use Rattle.probe_words.proofs.Ranges.{at_within, copy_within}

pub at_one : (r : Core) (at i : ℕ) (m n : GuardedLetter) → IsLetterAt r at i m → IsLetterAt r at i n → m ≡ n
at_one Epsilon at i m n g h = absurd g
at_one (Symbol a) at i m n g h = g.1 ∙ sym h.1
at_one (Sequence r s) at i m n (inl g) (inl h) = at_one r at i m n g h
at_one (Sequence r s) at i m n (inl g) (inr h) = absurd (let p = at_within r at i m g in let q = at_within s (at + size_of r) i n h in omega arith)
at_one (Sequence r s) at i m n (inr g) (inl h) = absurd (let p = at_within r at i n h in let q = at_within s (at + size_of r) i m g in omega arith)
at_one (Sequence r s) at i m n (inr g) (inr h) = at_one s (at + size_of r) i m n g h
at_one (Alternative r s) at i m n (inl g) (inl h) = at_one r at i m n g h
at_one (Alternative r s) at i m n (inl g) (inr h) = absurd (let p = at_within r at i m g in let q = at_within s (at + size_of r) i n h in omega arith)
at_one (Alternative r s) at i m n (inr g) (inl h) = absurd (let p = at_within r at i n h in let q = at_within s (at + size_of r) i m g in omega arith)
at_one (Alternative r s) at i m n (inr g) (inr h) = at_one s (at + size_of r) i m n g h
at_one (LastLabelled r l) at i m n g h = at_one r at i m n g h
at_one (Repeated r) at i m n g h = at_one r at i m n g h
at_one (Restarted r a) at i m n (inl g) (inl h) = at_one r at i m n g h
at_one (Restarted r a) at i m n (inl g) (inr h) = absurd (let p = at_within r at i m g in let q = h.0 in omega arith)
at_one (Restarted r a) at i m n (inr g) (inl h) = absurd (let p = at_within r at i n h in let q = g.0 in omega arith)
at_one (Restarted r a) at i m n (inr g) (inr h) = g.1 ∙ sym h.1
at_one (FirstGuarded c r) at i m n (inl g) (inl h) = at_one r at i m n g h
at_one (FirstGuarded c r) at i m n (inl g) (inr (x, k, o, h, e)) = absurd (let p = at_within r at i m g in let q = copy_within r at i x o in omega arith)
at_one (FirstGuarded c r) at i m n (inr (x, k, o, g, e)) (inl h) = absurd (let p = at_within r at i n h in let q = copy_within r at i x o in omega arith)
at_one (FirstGuarded c r) at i m n (inr (x, k, o, g, e)) (inr (y, j, u, h, d)) =
    let s = copy_one (firsts r at) (at + size_of r) i x y o u in
    let t = at_one r at y k j (subst (λ (z : ℕ). IsLetterAt r at z k) s g) h in
    e ∙ ap (λ (z : GuardedLetter). guard_added c z) t ∙ sym d
