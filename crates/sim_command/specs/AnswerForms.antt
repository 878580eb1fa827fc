-- Two forms of answers: a fault's line, or a text.
use Rattle.std.specs.Prelude.{◌≡◌, ℕ, List, []}
use Rattle.sim_report.specs.declared.fault.Fault.{Fault}
use Rattle.sim_report.specs.FaultLine.{fault_text}
use Rattle.sim_command.specs.declared.answered.Answered.{Answered}

-- a status other than 0, with nothing for the output and the fault's line
pub record IsRefusalAnswer (answered : Answered) (status : ℕ) (fault : Fault) : Type 0 where
  pub status_is : answered.status ≡ status
  pub out_is : answered.out ≡ []
  pub line_is : answered.line ≡ fault_text fault

-- status 0, with this text for the output
pub record IsFineAnswer (answered : Answered) (text : List ℕ) : Type 0 where
  pub status_is : answered.status ≡ 0
  pub out_is : answered.out ≡ text
  pub line_is : answered.line ≡ []
