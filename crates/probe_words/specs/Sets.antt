-- Sets of small numbers, as whole numbers.
use Rattle.std.specs.Prelude.{◌≡◌, ℕ}
use Rattle.std.specs.Int.{bit_at}

-- the set has the member i: its bit i is 1
abbrev pub HasMember : ℕ → ℕ → Type 0
HasMember set i = bit_at set i ≡ 1
