-- Names that begin with a small letter, and where they are.
use Rattle.std.specs.Prelude.{ℕ, List, drop, Option, MatchOption}
use Rattle.token_grammar.specs.declared.terminal.Terminal.{Terminal}
use Rattle.token_grammar.specs.declared.terminal.Terminal.TheVariants.{Small, Probe}
use Rattle.token_grammar.specs.Cursors.{Begins, IsAt}

-- small: a name that begins with a small letter; `probe` is one
pub data SmallName : Type 0 where
  Plain : SmallName
  Probing : SmallName

abbrev pub small_spelled : SmallName → Terminal
small_spelled Plain = Small
small_spelled Probing = Probe

-- no small name is in front
abbrev pub NoSmall : List Terminal → Type 0
NoSmall rest = (¬ Begins rest Small) × (¬ Begins rest Probe)

-- the index after a small name, if one is at the index
abbrev pub FindsSmall : List Terminal → ℕ → Option ℕ → Type 0
FindsSmall kinds at answer =
    MatchOption answer (NoSmall (drop at kinds)) (λ next. (name : SmallName) × IsAt kinds at next (small_spelled name))
