-- What resolving the names, sets and rates of a file answers.
use Rattle.std.specs.Prelude.{◌≡◌, ℕ, ◌≤◌, List, length, Result, Ok, Err}
use Rattle.std.specs.List.{Contains}
use Rattle.indexmap.specs.IndexMap.{keys}
use Rattle.pepa_rates.specs.declared.rate.Rate.{Rate}
use Rattle.pepa_lexer.specs.declared.kinds.Token.{Token}
use Rattle.pepa_reader.specs.Trees.{FileNode}
use Rattle.pepa_resolver.specs.declared.named.NumberedFile.{NumberedFile}
use Rattle.pepa_resolver.specs.declared.naming.NamedFile.{NamedFile}
use Rattle.pepa_resolver.specs.declared.refusal.ResolveEnd.{ResolveEnd}
use Rattle.token_grammar.specs.Terminals.{name_at}
use Rattle.pepa_resolver.specs.NamesAnswers.{FineSets}
use Rattle.pepa_resolver.specs.NamesChecks.{EndsNames}
use Rattle.pepa_resolver.specs.CheckedRates.{AreRates}
use Rattle.pepa_resolver.specs.Named.{Named}
use Rattle.pepa_resolver.specs.NamedTypes.{named_of, bodies_of}
use Rattle.pepa_resolver.specs.Numbers.{constants_of, actions_of, naming_of, named_bodies, named_system, IsInRange, IsNamedFile}

-- a file without a fault of its limits, names, sets and rates, with numbers in place of its names: what its constants stand
-- for, and its system
pub record IsNumberedFile (input : List ℕ) (tokens : List Token) (file : FileNode) (values : List Rate) (bodies : List Named) (system : Named) : Type 0 where
  pub fine : FineSets input tokens file
  pub rates : AreRates tokens (name_at input tokens) file values
  pub bodies_are : bodies ≡ named_bodies (naming_of (name_at input tokens) tokens file values) file
  pub system_is : system ≡ named_system (naming_of (name_at input tokens) tokens file values) file

-- the numbers in a file's processes are those of its constants and of its action types, and the constants are few
pub record HasNumbersInRange (found : NumberedFile) : Type 0 where
  pub few : length found.bodies ≤ 1024
  pub bodies_in_range : (body : Named) → Contains (bodies_of found.bodies) body → IsInRange (length found.bodies) (length (keys found.actions)) body
  pub system_in_range : IsInRange (length found.bodies) (length (keys found.actions)) (named_of found.system)

-- the file without a fault of these kinds, with numbers in place of its names
pub record IsResolvedFile (input : List ℕ) (tokens : List Token) (file : FileNode) (found : NumberedFile) : Type 0 where
  pub constants_are : keys found.constants ≡ constants_of (name_at input tokens) file
  pub actions_are : keys found.actions ≡ actions_of (name_at input tokens) file
  pub values : List Rate
  pub numbered : IsNumberedFile input tokens file values (bodies_of found.bodies) (named_of found.system)
  pub in_range : HasNumbersInRange found

-- what may be answered: the file with numbers, its first fault, or that memory ran out
abbrev pub Resolves : List ℕ → List Token → FileNode → Result NumberedFile ResolveEnd → Type 0
Resolves input tokens file (Ok found) = IsResolvedFile input tokens file found
Resolves input tokens file (Err end) = EndsNames input tokens file end

-- the numbers of a file, where no rate is refused and its rate lines have these values
pub record IsValuedFile (input : List ℕ) (tokens : List Token) (file : FileNode) (named : NamedFile) : Type 0 where
  pub values : List Rate
  pub rates : AreRates tokens (name_at input tokens) file values
  pub is_named : IsNamedFile input tokens file values named
