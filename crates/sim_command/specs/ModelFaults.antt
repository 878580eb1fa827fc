-- Why an input has no model: its first fault, with its place and its name.
use Rattle.std.specs.Prelude.{◌≡◌, ℕ, List, ◌⊎◌, Result, Ok, Err}
use Rattle.pepa_lexer.specs.declared.kinds.Place.{Place}
use Rattle.pepa_lexer.specs.declared.kinds.Token.{Token}
use Rattle.pepa_lexer.specs.declared.kinds.LexFault.{LexFault}
use Rattle.pepa_lexer.specs.declared.kinds.LexFault.TheVariants as lexer
use Rattle.pepa_lexer.specs.TokenLists.{IsTokens}
use Rattle.pepa_lexer.specs.Faults.{IsLexFaultOf}
use Rattle.pepa_reader.specs.declared.trees.FileTree.{FileTree}
use Rattle.pepa_reader.specs.declared.fault.FileFault.{FileFault}
use Rattle.pepa_reader.specs.declared.fault.FileFault.TheVariants as reader
use Rattle.token_grammar.specs.Terminals.{terminals}
use Rattle.pepa_reader.specs.Trees.{file_node_of}
use Rattle.pepa_reader.specs.FileAnswers.{IsFileTree, IsFileFault}
use Rattle.pepa_checks.specs.declared.cause.CheckCause.{CheckCause}
use Rattle.pepa_checks.specs.declared.cause.CheckCause.TheVariants as causes
use Rattle.pepa_checks.specs.declared.cause.CheckEnd.{CheckEnd}
use Rattle.pepa_checks.specs.declared.cause.CheckEnd.TheVariants as ends
use Rattle.pepa_model.specs.PepaModel.{PepaModel}
use Rattle.pepa_checks.specs.CheckedFiles.{IsShortTextOf, IsRefused}
use Rattle.sim_report.specs.declared.fault.FaultName.{FaultName}
use Rattle.sim_report.specs.declared.fault.FaultName.TheVariants as names
use Rattle.sim_command.specs.declared.model_reading.ModelFault.{ModelFault}
use Rattle.sim_command.specs.declared.model_reading.ModelFault.TheVariants.{Refused, Memory}

-- ---- places and names

-- the fault of an input whose tokens have this one
abbrev pub fault_from_tokens : LexFault → ModelFault
fault_from_tokens (lexer.BadByte place) = Refused place names.BadByte
fault_from_tokens (lexer.BadNumber place) = Refused place names.BadNumber
fault_from_tokens (lexer.LongName place) = Refused place names.LongName
fault_from_tokens (lexer.OpenComment place) = Refused place names.OpenComment
fault_from_tokens lexer.Memory = Memory

-- the fault of an input whose tokens are no file, for this one
abbrev pub fault_from_file : FileFault → ModelFault
fault_from_file (reader.Expected place) = Refused place names.Expected
fault_from_file (reader.TooDeep place) = Refused place names.TooDeep
fault_from_file (reader.Array place) = Refused place names.Array
fault_from_file (reader.Wildcard place) = Refused place names.Wildcard
fault_from_file reader.Memory = Memory

-- the name of each cause for which the check refuses a file
abbrev pub cause_name : CheckCause → FaultName
cause_name causes.Unsupported = names.Unsupported
cause_name causes.Twice = names.Twice
cause_name causes.UnknownName = names.UnknownName
cause_name causes.TauInSet = names.TauInSet
cause_name causes.BadRate = names.BadRate
cause_name causes.NotSequential = names.NotSequential
cause_name causes.ModelCycle = names.ModelCycle
cause_name causes.Unguarded = names.Unguarded
cause_name causes.TooMany = names.TooMany
cause_name causes.MixedChoice = names.MixedChoice

-- the fault of an input whose file the check refuses
abbrev pub fault_from_check : CheckEnd → ModelFault
fault_from_check (ends.Refused cause place) = Refused place (cause_name cause)
fault_from_check ends.Memory = Memory

-- ---- faults

-- the input has no tokens, for the fault of this name at this place
pub record IsTokensFault (input : List ℕ) (place : Place) (name : FaultName) : Type 0 where
  pub fault : LexFault
  pub is_fault : IsLexFaultOf input fault
  pub named : fault_from_tokens fault ≡ Refused place name

-- it has tokens, and they are no file, for the fault of this name at this place
pub record IsGrammarFault (input : List ℕ) (place : Place) (name : FaultName) : Type 0 where
  pub tokens : List Token
  pub are_tokens : IsTokens input tokens
  pub fault : FileFault
  pub is_fault : IsFileFault input tokens fault
  pub named : fault_from_file fault ≡ Refused place name

-- its tokens are a file, which the check refuses at this place, for the cause of this name
pub record IsCheckFault (input : List ℕ) (place : Place) (name : FaultName) : Type 0 where
  pub tokens : List Token
  pub are_tokens : IsTokens input tokens
  pub tree : FileTree
  pub is_tree : IsFileTree (terminals input tokens) tree
  pub cause : CheckCause
  pub refused : IsRefused input tokens (file_node_of tree) cause place
  pub name_is : name ≡ cause_name cause

-- the input's first fault: of its tokens, else of the file that they would be, else of the check of the file
abbrev pub IsModelFault : List ℕ → Place → FaultName → Type 0
IsModelFault input place name = IsTokensFault input place name ⊎ (IsGrammarFault input place name ⊎ IsCheckFault input place name)

-- what may be answered: the model, the first fault, or that memory ran out
abbrev pub ReadsModel : List ℕ → Result PepaModel ModelFault → Type 0
ReadsModel input (Ok m) = IsShortTextOf input m
ReadsModel input (Err (Refused place name)) = IsModelFault input place name
ReadsModel input (Err Memory) = Unit {0}
