-- Machines that read terminals one by one. They are devices of proofs: a state shows which terminals can follow.
use Rattle.std.specs.Prelude.{◌≡◌, ℕ, List, [], ◌∷◌, drop, Option, Some, None, option_and_then}
use Rattle.token_grammar.specs.declared.terminal.Terminal.{Terminal}
use Rattle.token_grammar.specs.Cursors.{IsSpelledFrom}

-- the state after terminals, if they can follow; `step` gives the state after one
unfoldable pub runs : {S : Type 0} → (S → Terminal → Option S) → S → List Terminal → Option S
runs step state [] = Some state
runs step state (terminal ∷ more) = option_and_then (λ next. runs step next more) (step state terminal)

-- what stands there can't follow, if anything stands there
abbrev pub IsRefusedBy : {S : Type 0} → (S → Terminal → Option S) → S → List Terminal → Type 0
IsRefusedBy step state [] = Unit {0}
IsRefusedBy step state (terminal ∷ more) = step state terminal ≡ None

-- from the index on the machine comes to the index i, where the text isn't whole, and no further
pub record HaltsAt {S : Type 0} (step : S → Terminal → Option S) (IsUndone : S → Type 0) (kinds : List Terminal) (at i : ℕ) (from : S) : Type 0 where
  pub state : S
  pub text : List Terminal
  pub spelled : IsSpelledFrom kinds at i text
  pub ran : runs step from text ≡ Some state
  pub undone : IsUndone state
  pub refused : IsRefusedBy step state (drop i kinds)
