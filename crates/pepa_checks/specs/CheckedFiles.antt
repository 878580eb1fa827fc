-- What checking a file answers: its model, or its first fault.
use Rattle.std.specs.Prelude.{◌≡◌, ℕ, ◌^◌, ◌≤◌, ◌⊎◌, Bool, List, [], ◌∷◌, length, Some, slice_get, Result, Ok, Err}
use Rattle.std.specs.List.{AllZip}
use Rattle.pepa_rates.specs.declared.rate.Rate.{Rate}
use Rattle.pepa_lexer.specs.declared.kinds.Token.{Token}
use Rattle.pepa_lexer.specs.declared.kinds.Place.{Place}
use Rattle.pepa_lexer.specs.TokenLists.{IsTokens}
use Rattle.pepa_reader.specs.Grammar.{File, System, item_spelled, file_spelled}
use Rattle.token_grammar.specs.Terminals.{terminals, name_at}
use Rattle.pepa_reader.specs.Trees.{ProbeLineNode, FileNode, file_tree}
use Rattle.pepa_reader.specs.FileAnswers.{AreShort, most_tokens}
use Rattle.pepa_model.specs.PepaModel.{PepaModel}
use Rattle.pepa_checks.specs.declared.cause.CheckCause.{CheckCause}
use Rattle.pepa_checks.specs.declared.cause.CheckCause.TheVariants.{Unsupported, TooMany, MixedChoice}
use Rattle.pepa_checks.specs.declared.cause.CheckEnd.{CheckEnd}
use Rattle.pepa_checks.specs.declared.cause.CheckEnd.TheVariants.{Refused, Memory}
use Rattle.pepa_resolver.specs.Named.{Named, first_at}
use Rattle.pepa_resolver.specs.Numbers.{constants_of, actions_of}
use Rattle.pepa_checks.specs.Structure.{IsCompoundConstant}
use Rattle.node_orders.specs.Graphs.{IsTableOf}
use Rattle.pepa_checks.specs.StructureAnswers.{IsStructured}
use Rattle.pepa_resolver.specs.ResolvedFiles.{IsNumberedFile}
use Rattle.pepa_checks.specs.StructuredFiles.{IsStoppedFor}
use Rattle.pepa_checks.specs.Outline.{Outline, outline_of}
use Rattle.pepa_checks.specs.Activities.{AreActivitiesOf, HasNoMixed, IsFirstMixed, written_leaves}
use Rattle.pepa_checks.specs.Limits.{PassesLimit}

-- a file without a fault up to its structure: its rates, what its constants stand for and its system, with numbers in place
-- of names, and which constants are compound
pub record Sound (input : List ℕ) (tokens : List Token) (file : FileNode) : Type 0 where
  pub values : List Rate
  pub bodies : List Named
  pub system : Named
  pub numbered : IsNumberedFile input tokens file values bodies system
  pub structured : IsStructured bodies system
  pub compounds : List Bool
  pub one_each : length compounds ≡ length bodies
  pub table : IsTableOf (IsCompoundConstant bodies) compounds

abbrev pub outline : {input : List ℕ} {tokens : List Token} {file : FileNode} → Sound input tokens file → Outline
outline sound = outline_of sound.compounds sound.bodies sound.system

-- the limits that are counted behind the structure
abbrev pub IsOverLimit : {input : List ℕ} {tokens : List Token} {file : FileNode} → Sound input tokens file → Type 0
IsOverLimit {input} {tokens} {file} sound = PassesLimit (actions_of (name_at input tokens) file) (outline sound)

-- a file without probe lines has this fault first, at the index
abbrev pub IsAtFaultFor : List ℕ → List Token → FileNode → CheckCause → ℕ → Type 0
IsAtFaultFor input tokens file TooMany i =
    IsStoppedFor input tokens file TooMany i
    ⊎ ((sound : Sound input tokens file) × IsOverLimit sound × (i ≡ first_at sound.system))
IsAtFaultFor input tokens file MixedChoice i =
    (sound : Sound input tokens file) × (¬ IsOverLimit sound)
    × IsFirstMixed (outline sound) sound.bodies (written_leaves sound.compounds sound.bodies sound.system) i
IsAtFaultFor input tokens file cause i = IsStoppedFor input tokens file cause i

-- the first of these probe lines begins at the index
abbrev pub IsFirstProbe : List ProbeLineNode → ℕ → Type 0
IsFirstProbe lines i = (line : ProbeLineNode) × (more : List ProbeLineNode) × (lines ≡ line ∷ more) × (i ≡ line.line_at)

-- the file is refused for the cause at the index: for its first probe line, or else for its first fault
abbrev pub IsRefusedFor : List ℕ → List Token → FileNode → CheckCause → ℕ → Type 0
IsRefusedFor input tokens file Unsupported i = IsFirstProbe file.probes i
IsRefusedFor input tokens file cause i = (file.probes ≡ []) × IsAtFaultFor input tokens file cause i

-- at the place of the token at the index
pub record IsRefused (input : List ℕ) (tokens : List Token) (file : FileNode) (cause : CheckCause) (place : Place) : Type 0 where
  pub i : ℕ
  pub refused : IsRefusedFor input tokens file cause i
  pub token : Token
  pub is_token : slice_get tokens i ≡ Some token
  pub place_is : place ≡ token.place

-- the model of a file without a fault and without probes: its names, its outline, and the activities of its leaves
pub record IsModelOf (input : List ℕ) (tokens : List Token) (file : FileNode) (m : PepaModel) : Type 0 where
  pub no_probes : file.probes ≡ []
  pub sound : Sound input tokens file
  pub within : ¬ IsOverLimit sound
  pub unmixed : HasNoMixed (outline sound)
  pub constants_are : m.constants ≡ constants_of (name_at input tokens) file
  pub actions_are : m.actions ≡ actions_of (name_at input tokens) file
  pub bodies_are : m.bodies ≡ (outline sound).definitions
  pub sets_are : m.sets ≡ (outline sound).sets
  pub leaves_are : m.leaves ≡ (outline sound).leaves
  pub system_is : m.system ≡ (outline sound).system
  pub activities_are : AllZip (AreActivitiesOf (outline sound)) m.leaves m.activities

-- what may be answered: the model, the first fault, or that memory ran out
abbrev pub Checks : List ℕ → List Token → FileNode → Result PepaModel CheckEnd → Type 0
Checks input tokens file (Ok m) = IsModelOf input tokens file m
Checks input tokens file (Err (Refused cause place)) = IsRefused input tokens file cause place
Checks input tokens file (Err Memory) = Unit {0}

-- a text of a model, however long: it has tokens, these are a file, and the file has this model
pub record IsTextOf (input : List ℕ) (m : PepaModel) : Type 0 where
  pub tokens : List Token
  pub are_tokens : IsTokens input tokens
  pub file : File
  pub spelled : terminals input tokens ≡ file_spelled file
  pub is_model : IsModelOf input tokens (file_tree file) m

-- a text of a model that is short enough to be read, as each of its items is
pub record IsShortTextOf (input : List ℕ) (m : PepaModel) : Type 0 where
  pub text : IsTextOf input m
  pub short : length input ≤ 2 ^ 20
  pub short_lines : AreShort text.file.lines
  pub short_system : length (item_spelled (System text.file.system text.file.ending)) ≤ most_tokens
