-- The parts of a text, and what holds of each.
use Rattle.std.proofs.Common.{ℕ, zero, suc, List, [], ◌∷◌, ◌<◌, length, get_or, map, arith}
use Rattle.std.specs.List.{AllByRecursion}

-- what holds of each holds of the one at a place
pub each_at : {X : Type 0} (P : List ℕ → Type 0) (f : X → List ℕ) (xs : List X) (i : ℕ) (d : X) → i < length xs → AllByRecursion P (map f xs) → P (f (get_or xs i d))
each_at P f [] i d less h = absurd (omega (arith, less))
each_at P f (x ∷ xs) zero d less h = h.0
each_at P f (x ∷ xs) (suc i) d less h = each_at P f xs i d (omega (arith, less)) h.1
