-- The text of a time. A tick is 2^-32 of a time unit.
use Rattle.std.specs.Prelude.{ℕ, ◌-◌, ◌*◌, ◌/◌, ◌%◌, ◌^◌, List, ◌∷◌, ◌++◌, length, replicate, decimal}

-- the decimal digits of a number, with zeros before them up to six digits
abbrev pub six_digits : ℕ → List ℕ
six_digits n = replicate (6 - length (decimal n)) 48 ++ decimal n

-- whole time units, a point, and the millionths that are left, rounded down
abbrev pub ticks_text : ℕ → List ℕ
ticks_text ticks = decimal (ticks / 2 ^ 32) ++ 46 ∷ six_digits (ticks % 2 ^ 32 * 10 ^ 6 / 2 ^ 32)
