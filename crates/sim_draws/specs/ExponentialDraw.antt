-- The exponential draw of a list of numbers, in units of 2^-32, after J. von Neumann (Various Techniques Used in
-- Connection With Random Digits, 1951): a search for the first round whose run has odd length.
use Rattle.std.specs.Prelude.{◌≡◌, ℕ, zero, suc, ◌+◌, ◌*◌, ◌/◌, ◌%◌, ◌^◌, ◌<◌, nat_lt, if◌then◌else◌, List, [], ◌∷◌, length, drop, slice_index}

-- how many numbers in front fall, each below the one before it, and the first of them below x
abbrev pub falls_below : ℕ → List ℕ → ℕ
falls_below x [] = 0
falls_below x (y ∷ ys) = if nat_lt y x then suc (falls_below y ys) else 0

-- the length of the run in front: the longest one that falls strictly
abbrev pub run_length : List ℕ → ℕ
run_length [] = 0
run_length (x ∷ xs) = suc (falls_below x xs)

-- what so many rounds leave: a round takes its run and the one number after it
unfoldable pub after_rounds : ℕ → List ℕ → List ℕ
after_rounds zero xs = xs
after_rounds (suc n) xs = drop (suc (run_length (after_rounds n xs))) (after_rounds n xs)

-- round n, from 0, is whole: there is a number after its run; and the run has odd length
abbrev pub RoundDecides : List ℕ → ℕ → Type 0
RoundDecides xs n =
    (run_length (after_rounds n xs) < length (after_rounds n xs))
    × (run_length (after_rounds n xs) % 2 ≡ 1)

-- the first round that decides has this draw: its own number in whole units, and the high half of its first number
-- below them; so many numbers of the list are used by it and the rounds before it
pub record IsExponentialDraw (xs : List ℕ) (draw used : ℕ) : Type 0 where
  pub round : ℕ
  pub decides : RoundDecides xs round
  pub first : (n : ℕ) → n < round → RoundDecides xs n → ⊥
  pub value : draw ≡ round * 2 ^ 32 + slice_index (after_rounds round xs) 0 / 2 ^ 32
  pub taken : used + length (after_rounds (suc round) xs) ≡ length xs

-- no round decides
abbrev pub NoExponentialDraw : List ℕ → Type 0
NoExponentialDraw xs = (n : ℕ) → RoundDecides xs n → ⊥
