-- How many constants a file has, and the file that is resolved.
use Rattle.std.proofs.Common.{◌≡◌, ℕ, ◌<◌, ◌≤◌, List, length, map, refl, sym, ap, ◌∙◌, get_or, Some, slice_get, arith, inr}
use Rattle.std.proofs.lemmas.Option.{slice_get-get_or}
use Rattle.std.proofs.lemmas.List.{length-map}
use Rattle.pepa_rates.specs.declared.rate.Rate.{Rate}
use Rattle.pepa_lexer.specs.declared.kinds.Token.{Token}
use Rattle.pepa_reader.specs.Trees.{FileNode}
use Rattle.pepa_resolver.specs.declared.naming.NamedFile.{NamedFile}
use Rattle.pepa_resolver.specs.declared.names.Names.{Names}
use Rattle.pepa_resolver.specs.declared.named.NumberedFile.{NumberedFile}
use Rattle.token_grammar.specs.Terminals.{name_at}
use Rattle.pepa_resolver.specs.Parts.{process_ats}
use Rattle.pepa_resolver.specs.NamesAnswers.{FineSets}
use Rattle.pepa_resolver.specs.NamesChecks.{AreNamesOf}
use Rattle.pepa_resolver.specs.ResolvedFiles.{IsValuedFile, IsResolvedFile}
use Rattle.pepa_resolver.specs.Named.{named}
use Rattle.pepa_resolver.specs.NamedTypes.{named_of}
use Rattle.pepa_resolver.specs.Numbers.{IsNamedFile, naming_of}

pub same_count : (input : List ℕ) (tokens : List Token) (file : FileNode) (values : List Rate) (numbered : NamedFile) → IsNamedFile input tokens file values numbered → length numbered.bodies ≡ length file.processes
same_count input tokens file values numbered is =
    sym (length-map numbered.bodies named_of) ∙ ap length is.bodies_are ∙ length-map file.processes (λ line. named (naming_of (name_at input tokens) tokens file values) line.body)

few_lines : (file : FileNode) → ((i : ℕ) → ¬ (slice_get (process_ats file.processes) 1024 ≡ Some i)) → length (process_ats file.processes) ≤ 1024
few_lines file none = by (length (process_ats file.processes)) refl
  where
    past : 1024 < length (process_ats file.processes) → ⊥
    past more = none (get_or (process_ats file.processes) 1024 0) (slice_get-get_or (process_ats file.processes) 1024 0 more)

    by : (n : ℕ) → length (process_ats file.processes) ≡ n → length (process_ats file.processes) ≤ 1024
    by n e = omega (arith, past)

pub few_bodies : (input : List ℕ) (tokens : List Token) (file : FileNode) (values : List Rate) (numbered : NamedFile) → FineSets input tokens file → IsNamedFile input tokens file values numbered → length numbered.bodies ≤ 1024
few_bodies input tokens file values numbered fine is =
    let few = few_lines file (λ i e. fine.0.0.0 i (inr e)) in
    let lines = length-map file.processes (λ line. line.line_at) in
    let count = same_count input tokens file values numbered is in
    omega arith

of_parts : (input : List ℕ) (tokens : List Token) (file : FileNode) (names : Names) (numbered : NamedFile) → FineSets input tokens file → AreNamesOf input tokens file names → IsValuedFile input tokens file numbered → IsResolvedFile input tokens file (record { constants = names.constants; actions = numbered.actions; bodies = numbered.bodies; system = numbered.system })
of_parts input tokens file names numbered fine are is = record {
  constants_are = are.constants_are;
  actions_are = is.is_named.actions_are;
  values = is.values;
  numbered = record { fine = fine; rates = is.rates; bodies_are = is.is_named.bodies_are; system_is = is.is_named.system_is };
  in_range = record {
    few = few_bodies input tokens file is.values numbered fine is.is_named;
    bodies_in_range = is.is_named.bodies_in_range;
    system_in_range = is.is_named.system_in_range;
  };
}

pub resolved : (input : List ℕ) (tokens : List Token) (file : FileNode) (names : Names) (numbered : NamedFile) (found : NumberedFile) → FineSets input tokens file → AreNamesOf input tokens file names → IsValuedFile input tokens file numbered → found ≡ record { constants = names.constants; actions = numbered.actions; bodies = numbered.bodies; system = numbered.system } → IsResolvedFile input tokens file found
resolved input tokens file names numbered found fine are is same = rw same (of_parts input tokens file names numbered fine are is)
