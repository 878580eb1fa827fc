-- What checking limits, names and sets answers.
use Rattle.std.specs.Prelude.{◌≡◌, ℕ, List, map, Option, Some, None, Result, Ok, Err}
use Rattle.indexmap.specs.IndexMap.{keys}
use Rattle.pepa_lexer.specs.declared.kinds.Token.{Token}
use Rattle.pepa_reader.specs.Trees.{FileNode}
use Rattle.token_grammar.specs.Terminals.{name_at}
use Rattle.pepa_resolver.specs.Parts.{rate_ats, process_ats}
use Rattle.pepa_resolver.specs.NamesAnswers.{FineNames, FineSets, IsNamesRefusedFor}
use Rattle.pepa_resolver.specs.declared.refusal.ResolveCause.{ResolveCause}
use Rattle.pepa_resolver.specs.declared.names.Names.{Names}
use Rattle.pepa_resolver.specs.declared.refusal.ResolveEnd.{ResolveEnd}
use Rattle.pepa_resolver.specs.declared.refusal.ResolveEnd.TheVariants.{Refused, Memory}

-- refused for a cause at an index, if there is one
abbrev pub refused_at : ResolveCause → Option ℕ → Result (Unit {0}) ResolveEnd
refused_at cause None = Ok tt
refused_at cause (Some i) = Err (Refused cause i)

-- the names of the file's lines, in order
pub record AreNamesOf (input : List ℕ) (tokens : List Token) (file : FileNode) (names : Names) : Type 0 where
  pub rates_are : keys names.rates ≡ map (name_at input tokens) (rate_ats file.rates)
  pub constants_are : keys names.constants ≡ map (name_at input tokens) (process_ats file.processes)

-- what an end without names says of the file: its first fault; want of memory says nothing
abbrev pub EndsNames : List ℕ → List Token → FileNode → ResolveEnd → Type 0
EndsNames input tokens file (Refused cause i) = IsNamesRefusedFor input tokens file cause i
EndsNames input tokens file Memory = Unit {0}

-- the names of a file that has no fault of its limits, and of which no name stands twice
abbrev pub NamesLines : List ℕ → List Token → FileNode → Result Names ResolveEnd → Type 0
NamesLines input tokens file (Ok names) = FineNames input tokens file × AreNamesOf input tokens file names
NamesLines input tokens file (Err end) = EndsNames input tokens file end

-- the names of a file that has no fault of its limits, names and sets
abbrev pub ChecksNames : List ℕ → List Token → FileNode → Result Names ResolveEnd → Type 0
ChecksNames input tokens file (Ok names) = FineSets input tokens file × AreNamesOf input tokens file names
ChecksNames input tokens file (Err end) = EndsNames input tokens file end
