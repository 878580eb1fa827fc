-- Numbers at places.
use Rattle.std.specs.Prelude.{ℕ, zero, suc, ◌+◌, List, [], ◌∷◌}

-- so many numbers, from a place on
unfoldable pub next_numbers : (ℕ → ℕ) → ℕ → ℕ → List ℕ
next_numbers at place zero = []
next_numbers at place (suc n) = at place ∷ next_numbers at (place + 1) n
