-- The draw of a number below a bound from a list of numbers below 2^64, each as often as any other: by rejection
-- (J. von Neumann, Various Techniques Used in Connection With Random Digits, 1951).
use Rattle.std.specs.Prelude.{◌≡◌, ℕ, ◌+◌, ◌*◌, ◌/◌, ◌%◌, ◌^◌, ◌<◌, ◌≤◌, List, length, slice_index}

-- the greatest multiple of the bound that is at most 2^64
abbrev pub fair_limit : ℕ → ℕ
fair_limit bound = 2 ^ 64 / bound * bound

-- the first number below the limit has this draw as its remainder; it and those before it are used
pub record IsDrawBelow (xs : List ℕ) (bound draw used : ℕ) : Type 0 where
  pub index : ℕ
  pub in_list : index < length xs
  pub fair : slice_index xs index < fair_limit bound
  pub first : (k : ℕ) → k < index → fair_limit bound ≤ slice_index xs k
  pub value : draw ≡ slice_index xs index % bound
  pub taken : used ≡ index + 1

-- no number is below the limit
abbrev pub NoDrawBelow : List ℕ → ℕ → Type 0
NoDrawBelow xs bound = (k : ℕ) → k < length xs → fair_limit bound ≤ slice_index xs k
