-- A language is a predicate of lists of terminals, which says which of them are its texts. Where can't terminals be continued?
use Rattle.std.specs.Prelude.{◌≡◌, ℕ, ◌+◌, ◌<◌, ◌⊎◌, List, ◌++◌, length, take, slice_get, Some}
use Rattle.token_grammar.specs.declared.terminal.Terminal.{Terminal}

-- the terminal at an index
abbrev pub StandsAt : List Terminal → ℕ → Terminal → Type 0
StandsAt terminals i terminal = slice_get terminals i ≡ Some terminal

-- the terminals can be continued to a text of the language
abbrev pub CanGoOn : (List Terminal → Type 0) → List Terminal → Type 0
CanGoOn IsText front = (more : List Terminal) × IsText (front ++ more)

-- the first terminal that can't follow: what stands before it can be continued to a text, and with it nothing can
pub record CantFollow (IsText : List Terminal → Type 0) (terminals : List Terminal) (i : ℕ) : Type 0 where
  pub within : i < length terminals
  pub before : CanGoOn IsText (take i terminals)
  pub behind : ¬ CanGoOn IsText (take (i + 1) terminals)

-- the first index from which the terminals can't be continued to a text: that of the first one that can't follow, or their
-- end, where all of them can
abbrev pub GoesOnTo : (List Terminal → Type 0) → List Terminal → ℕ → Type 0
GoesOnTo IsText terminals i = CantFollow IsText terminals i ⊎ ((i ≡ length terminals) × CanGoOn IsText terminals)
