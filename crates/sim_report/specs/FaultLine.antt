-- The line of a fault.
use Rattle.std.specs.Prelude.{ℕ, List, [], ◌∷◌, ◌++◌, codes, decimal}
use Rattle.pepa_lexer.specs.declared.kinds.Place.{Place}
use Rattle.sim_report.specs.declared.fault.FaultName.{FaultName}
use Rattle.sim_report.specs.declared.fault.FaultName.TheVariants.{BadByte, BadNumber, LongName, OpenComment, TooDeep, Array, Wildcard, Expected, TooMany, Twice, UnknownName, TauInSet, BadRate, NotSequential, ModelCycle, Unguarded, MixedChoice, Unsupported}
use Rattle.sim_space.specs.declared.stop.Stop.{Stop}
use Rattle.sim_space.specs.declared.stop.Stop.TheVariants.{Mixed, Overflow, ListTooLong, PassiveLeft, WeightOverflow, TimeOverflow, DrawLimit}
use Rattle.sim_report.specs.declared.fault.Fault.{Fault}
use Rattle.sim_report.specs.declared.fault.Fault.TheVariants.{Memory, Usage, TooLong, Model, ReadFault, WriteFault, RunStopped, StepsStopped, TableFull}

-- what is wrong with a text that is no model
abbrev pub name_text : FaultName → List ℕ
name_text BadByte = codes "bad byte"
name_text BadNumber = codes "bad number"
name_text LongName = codes "long name"
name_text OpenComment = codes "open comment"
name_text TooDeep = codes "too deep"
name_text Array = codes "array"
name_text Wildcard = codes "wildcard"
name_text Expected = codes "expected"
name_text TooMany = codes "too many"
name_text Twice = codes "defined twice"
name_text UnknownName = codes "unknown name"
name_text TauInSet = codes "tau in set"
name_text BadRate = codes "bad rate"
name_text NotSequential = codes "not sequential"
name_text ModelCycle = codes "model cycle"
name_text Unguarded = codes "unguarded"
name_text MixedChoice = codes "mixed choice"
name_text Unsupported = codes "unsupported"

-- why the work on a model stopped
abbrev pub stop_text : Stop → List ℕ
stop_text Mixed = codes "mixed"
stop_text Overflow = codes "overflow"
stop_text ListTooLong = codes "list too long"
stop_text PassiveLeft = codes "passive left"
stop_text WeightOverflow = codes "weight overflow"
stop_text TimeOverflow = codes "time overflow"
stop_text DrawLimit = codes "draw limit"

-- a place as its line and its column
abbrev pub place_text : Place → List ℕ
place_text place = decimal place.line ++ codes ":" ++ decimal place.column

-- the words of a fault: of a model's fault with its place, of a stop with its name
abbrev pub fault_words : Fault → List ℕ
fault_words Memory = codes "memory"
fault_words Usage = codes "usage"
fault_words TooLong = codes "model too long"
fault_words (Model place name) = codes "model " ++ place_text place ++ codes " " ++ name_text name
fault_words ReadFault = codes "read fault"
fault_words WriteFault = codes "write fault"
fault_words (RunStopped number stop) = codes "replication " ++ decimal number ++ codes " stopped: " ++ stop_text stop
fault_words (StepsStopped stop) = codes "stopped: " ++ stop_text stop
fault_words TableFull = codes "table full"

-- the words, and a line feed
abbrev pub fault_text : Fault → List ℕ
fault_text fault = fault_words fault ++ 10 ∷ []
