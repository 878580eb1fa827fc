-- What the checks of limits, names, sets and rates answer.
use Rattle.std.specs.Prelude.{ℕ, List}
use Rattle.pepa_lexer.specs.declared.kinds.Token.{Token}
use Rattle.token_grammar.specs.Terminals.{terminals, name_at}
use Rattle.token_grammar.specs.declared.terminal.Terminal.TheVariants.{Tau}
use Rattle.token_grammar.specs.Languages.{StandsAt}
use Rattle.pepa_reader.specs.Trees.{FileNode}
use Rattle.pepa_resolver.specs.declared.refusal.ResolveCause.{ResolveCause}
use Rattle.pepa_resolver.specs.declared.refusal.ResolveCause.TheVariants.{Twice, UnknownName, TauInSet, BadRate, TooManyLines}
use Rattle.pepa_resolver.specs.Faults.{HasNone, IsLeast, TooManyAt, TwiceAt, UnknownAt, TauAt}
use Rattle.pepa_resolver.specs.Outcomes.{IsBadRateOf}

abbrev pub IsTau : List ℕ → List Token → ℕ → Type 0
IsTau input tokens i = StandsAt (terminals input tokens) i Tau

-- the phases, in order: a later one is judged only where no earlier one has a fault
abbrev pub FineLimits : List ℕ → List Token → FileNode → Type 0
FineLimits input tokens file = HasNone (TooManyAt file)

abbrev pub FineNames : List ℕ → List Token → FileNode → Type 0
FineNames input tokens file = FineLimits input tokens file × HasNone (TwiceAt (name_at input tokens) file)

abbrev pub KnownNames : List ℕ → List Token → FileNode → Type 0
KnownNames input tokens file = FineNames input tokens file × HasNone (UnknownAt (name_at input tokens) file)

abbrev pub FineSets : List ℕ → List Token → FileNode → Type 0
FineSets input tokens file = KnownNames input tokens file × HasNone (TauAt (IsTau input tokens) file)

-- the file is refused for the cause at the index, one of these five
abbrev pub IsNamesRefusedFor : List ℕ → List Token → FileNode → ResolveCause → ℕ → Type 0
IsNamesRefusedFor input tokens file TooManyLines i = IsLeast (TooManyAt file) i
IsNamesRefusedFor input tokens file Twice i = FineLimits input tokens file × IsLeast (TwiceAt (name_at input tokens) file) i
IsNamesRefusedFor input tokens file UnknownName i = FineNames input tokens file × IsLeast (UnknownAt (name_at input tokens) file) i
IsNamesRefusedFor input tokens file TauInSet i = KnownNames input tokens file × IsLeast (TauAt (IsTau input tokens) file) i
IsNamesRefusedFor input tokens file BadRate i = FineSets input tokens file × IsBadRateOf tokens (name_at input tokens) file i
