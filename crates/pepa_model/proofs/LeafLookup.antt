-- Looking for a leaf among the leaves.
use Rattle.std.proofs.Common.{◌≡◌, ℕ, ◌+◌, ◌<◌, ◌≤◌, Bool, true, false, List, length, Some, slice_get, inl, inr, sym, ap, subst, ◌∙◌, ◌⊎◌, arith}
use Rattle.std.proofs.Math.Nat.{eq-or-lt_of_le}
use Rattle.std.proofs.lemmas.Option.{slice_get_within, same_Some}
use Rattle.pepa_model.specs.Expression.{Expression}
use Rattle.pepa_model.specs.Leaves.{same_expression}
use Rattle.pepa_model.proofs.DistinctLeaves.{same_expression-Decides}

pub found : (leaves : List Expression) (number : ℕ) (leaf e : Expression) (same : Bool) → slice_get leaves number ≡ Some leaf → same ≡ same_expression leaf e → same ≡ true → slice_get leaves number ≡ Some e
found leaves number leaf e same at is t = at ∙ ap (λ (x : Expression). Some x) ((same_expression-Decides leaf e).0 (sym is ∙ t))

-- the leaf isn't at the next number
not_here : (leaves : List Expression) (number : ℕ) (leaf e : Expression) (same : Bool) → slice_get leaves number ≡ Some leaf → same ≡ same_expression leaf e → same ≡ false → ¬ (slice_get leaves number ≡ Some e)
not_here leaves number leaf e same at is f here =
    let equal : leaf ≡ e = same_Some leaf e (sym at ∙ here) in
    let t : same_expression leaf e ≡ true = (same_expression-Decides leaf e).1 equal in
    absurd cc

pub not_yet : (leaves : List Expression) (number : ℕ) (leaf e : Expression) (same : Bool) → slice_get leaves number ≡ Some leaf → same ≡ same_expression leaf e → same ≡ false
    → ((before : ℕ) → before < number → ¬ (slice_get leaves before ≡ Some e)) → (before : ℕ) → before < number + 1 → ¬ (slice_get leaves before ≡ Some e)
not_yet leaves number leaf e same at is f so_far before below here = by_order (eq-or-lt_of_le (omega arith))
  where
    by_order : (before ≡ number) ⊎ (before < number) → ⊥
    by_order (inl last) = not_here leaves number leaf e same at is f (subst (λ (n : ℕ). slice_get leaves n ≡ Some e) last here)
    by_order (inr earlier) = so_far before earlier here

pub nowhere : (leaves : List Expression) (end : ℕ) (e : Expression) → ((number : ℕ) × (slice_get leaves number ≡ Some e)) → ((before : ℕ) → before < end → ¬ (slice_get leaves before ≡ Some e)) → length leaves ≤ end → ⊥
nowhere leaves end e (number, at) none whole = let within = slice_get_within leaves number e at in none number (omega arith) at
