-- Numbers in place of a file's names. A constant's number is the place of its line among the process lines, from 0. `tau` is
-- action 0, and the other action types are numbered from 1 by their first place in the text behind the `=` of the process
-- lines, in order, and then in the system. `name` gives the name at an index.
use Rattle.std.specs.Prelude.{◌≡◌, ℕ, ◌+◌, List, [], ◌∷◌, ◌++◌, map, flat_map, length, codes, bytes_eq}
use Rattle.std.specs.List.{Contains}
use Rattle.indexmap.specs.IndexMap.{keys}
use Rattle.pepa_rates.specs.declared.rate.Rate.{Rate}
use Rattle.pepa_rates.specs.declared.rate.Rate.TheVariants.{Passive}
use Rattle.pepa_lexer.specs.declared.kinds.Token.{Token}
use Rattle.pepa_model.specs.Leaves.{each_once, position_of}
use Rattle.pepa_reader.specs.Trees.{ProcessNode, ConstantAt, PrefixAt, ChoiceOf, CoopAt, HideOf, FileNode}
use Rattle.pepa_resolver.specs.declared.naming.NamedFile.{NamedFile}
use Rattle.token_grammar.specs.Terminals.{name_at}
use Rattle.pepa_resolver.specs.Parts.{process_ats, processes_of}
use Rattle.pepa_resolver.specs.Outcomes.{Outcome, Good, NoValue, BadAt, looked_up, rate_outcome}
use Rattle.pepa_resolver.specs.Named.{Named, NamedConstant, NamedPrefix, NamedChoice, NamedCoop, NamedHide, Naming, named, constants_named}
use Rattle.pepa_resolver.specs.NamedTypes.{named_of}
use Rattle.node_orders.specs.Graphs.{AreBelow}

-- ---- names and their places

-- each name once, at its first place
abbrev pub first_places : List (List ℕ) → List (List ℕ)
first_places names = each_once bytes_eq names

-- a name's place, or 0 if it has none
abbrev pub place_in : List (List ℕ) → List ℕ → ℕ
place_in names name = position_of bytes_eq names name

-- ---- the numbers of a file

-- the words of a process, of its activities and of its sets, in the order of the text
abbrev pub words_in : ProcessNode → List ℕ
words_in (ConstantAt at) = []
words_in (PrefixAt at rate next) = (at + 1) ∷ words_in next
words_in (ChoiceOf left right) = words_in left ++ words_in right
words_in (CoopAt at left right set) = words_in left ++ (set ++ words_in right)
words_in (HideOf inner set) = words_in inner ++ set

-- the action types, by number
abbrev pub actions_of : (ℕ → List ℕ) → FileNode → List (List ℕ)
actions_of name file = first_places (codes "tau" ∷ map name (flat_map words_in (processes_of file)))

-- the constants, by number
abbrev pub constants_of : (ℕ → List ℕ) → FileNode → List (List ℕ)
constants_of name file = map name (process_ats file.processes)

-- the rate that an outcome is. In a checked file every rate of an activity has a value, so it doesn't matter what stands for
-- the other outcomes.
abbrev pub rate_of_outcome : Outcome Rate → Rate
rate_of_outcome (Good rate) = rate
rate_of_outcome NoValue = Passive (record { num = 1; den = 1 })
rate_of_outcome (BadAt i) = Passive (record { num = 1; den = 1 })

-- what stands for the names of a file whose rate lines have these values
abbrev pub naming_of : (ℕ → List ℕ) → List Token → FileNode → List Rate → Naming
naming_of name tokens file values = record {
  constant = λ i. place_in (constants_of name file) (name i);
  action = λ i. place_in (actions_of name file) (name i);
  rate_of = λ rate. rate_of_outcome (rate_outcome tokens (looked_up name file.rates (map Good values)) rate);
}

-- what the constants stand for, by number, and the system
abbrev pub named_bodies : Naming → FileNode → List Named
named_bodies naming file = map (λ line. named naming line.body) file.processes

abbrev pub named_system : Naming → FileNode → Named
named_system naming file = named naming file.system

-- ---- numbers in range

-- the action types in a process
abbrev pub actions_named : Named → List ℕ
actions_named (NamedConstant at constant) = []
actions_named (NamedPrefix at action rate next) = action ∷ actions_named next
actions_named (NamedChoice left right) = actions_named left ++ actions_named right
actions_named (NamedCoop left right set) = actions_named left ++ (set ++ actions_named right)
actions_named (NamedHide inner set) = actions_named inner ++ set

-- the numbers in a process, where there are so many constants and action types
pub record IsInRange (constants actions : ℕ) (process : Named) : Type 0 where
  pub constants_below : AreBelow constants (constants_named process)
  pub actions_below : AreBelow actions (actions_named process)

-- a file with numbers in place of its names
pub record IsNamedFile (input : List ℕ) (tokens : List Token) (file : FileNode) (values : List Rate) (numbered : NamedFile) : Type 0 where
  pub actions_are : keys numbered.actions ≡ actions_of (name_at input tokens) file
  pub bodies_are : map named_of numbered.bodies ≡ named_bodies (naming_of (name_at input tokens) tokens file values) file
  pub system_is : named_of numbered.system ≡ named_system (naming_of (name_at input tokens) tokens file values) file
  pub bodies_in_range : (body : Named) → Contains (map named_of numbered.bodies) body → IsInRange (length numbered.bodies) (length (keys numbered.actions)) body
  pub system_in_range : IsInRange (length numbered.bodies) (length (keys numbered.actions)) (named_of numbered.system)
