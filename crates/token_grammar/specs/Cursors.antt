-- What stands at an index of a text's terminals.
use Rattle.std.specs.Prelude.{◌≡◌, ℕ, ◌+◌, ◌<◌, Bool, MatchBool, List, [], ◌∷◌, ◌++◌, length, drop, Option, MatchOption, Result, Ok, Err}
use Rattle.token_grammar.specs.declared.terminal.Terminal.{Terminal}
use Rattle.token_grammar.specs.declared.cursor.Text.{Text}
use Rattle.fault_ends.specs.declared.end.End.{End}
use Rattle.fault_ends.specs.declared.end.End.TheVariants.{Fault, Memory}
use Rattle.token_grammar.specs.Terminals.{terminals}

-- the terminals of a text
unfoldable pub kinds_of : Text → List Terminal
kinds_of text = terminals text.input.now text.tokens.now

-- the first of the terminals is this one
abbrev pub Begins : List Terminal → Terminal → Type 0
Begins [] terminal = ⊥
Begins (first ∷ more) terminal = first ≡ terminal

-- from the index on these terminals are spelled, and `next` is the index after them
pub record IsSpelledFrom (kinds : List Terminal) (at next : ℕ) (text : List Terminal) : Type 0 where
  pub whole : drop at kinds ≡ text ++ drop next kinds
  pub index : next ≡ at + length text

-- one terminal is spelled from the index on
pub record IsAt (kinds : List Terminal) (at next : ℕ) (terminal : Terminal) : Type 0 where
  pub spelled : IsSpelledFrom kinds at next (terminal ∷ [])
  pub within : at < length kinds

-- whether a terminal stands at the index
abbrev pub TellsWhether : List Terminal → ℕ → Terminal → Bool → Type 0
TellsWhether kinds at terminal answer = MatchBool answer (Begins (drop at kinds) terminal) (¬ Begins (drop at kinds) terminal)

-- the index after a terminal, if it stands at the index
abbrev pub IsIndexAfter : List Terminal → ℕ → Terminal → Option ℕ → Type 0
IsIndexAfter kinds at terminal answer = MatchOption answer (¬ Begins (drop at kinds) terminal) (λ next. IsAt kinds at next terminal)

-- why a part of a text was not read: the index at which nothing can follow, or want of memory
abbrev pub PartEnd : Type 0
PartEnd = End ℕ

-- the index after a terminal that is wanted, or that it doesn't stand there
abbrev pub Expects : List Terminal → ℕ → Terminal → Result ℕ PartEnd → Type 0
Expects kinds at terminal (Ok next) = IsAt kinds at next terminal
Expects kinds at terminal (Err (Fault i)) = (i ≡ at) × (¬ Begins (drop at kinds) terminal)
Expects kinds at terminal (Err Memory) = ⊥
