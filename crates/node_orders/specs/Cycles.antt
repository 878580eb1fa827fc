-- Ways along edges from one number to another, and numbers that reach themselves.
use Rattle.std.specs.Prelude.{◌≡◌, ℕ, zero, suc, ◌<◌}

-- so many edges lead from one to the other
abbrev pub ReachesIn : (ℕ → ℕ → Type 0) → ℕ → ℕ → ℕ → Type 0
ReachesIn Edge zero c d = c ≡ d
ReachesIn Edge (suc n) c d = (next : ℕ) × Edge c next × ReachesIn Edge n next d

-- one edge or more lead back
abbrev pub ReachesItself : (ℕ → ℕ → Type 0) → ℕ → Type 0
ReachesItself Edge c = (n : ℕ) × ReachesIn Edge (suc n) c c

-- the least node that reaches itself
pub record IsFirstCycle (Edge : ℕ → ℕ → Type 0) (c : ℕ) : Type 0 where
  pub cycle : ReachesItself Edge c
  pub first : (other : ℕ) → other < c → ¬ ReachesItself Edge other

abbrev pub HasNoCycle : (ℕ → ℕ → Type 0) → Type 0
HasNoCycle Edge = (c : ℕ) → ¬ ReachesItself Edge c
