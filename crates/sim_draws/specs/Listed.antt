-- Numbers that are listed, and a place among them.
use Rattle.std.specs.Prelude.{ℕ, List}

-- the numbers, and the place of the next one, from 0
pub record NumberList : Type 0 where
  pub numbers : List ℕ
  pub place : ℕ
