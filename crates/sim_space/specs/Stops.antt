-- The stops that name what a state is refused for.
use Rattle.pepa_steps.specs.StepsAnswers.{fault_name}
use Rattle.pepa_steps.specs.WholeVerdict.{StateStop, OfPart, OfPassive, OfWeights}
use Rattle.pepa_steps.specs.declared.transitions.StepFault.{StepFault}
use Rattle.pepa_steps.specs.declared.transitions.StepFault.TheVariants as named
use Rattle.sim_space.specs.declared.stop.Stop.{Stop}
use Rattle.sim_space.specs.declared.stop.Stop.TheVariants.{Mixed, Overflow, ListTooLong, PassiveLeft, WeightOverflow}

-- the stop that names the fault of a part
abbrev pub stop_of : StepFault → Stop
stop_of named.Mixed = Mixed
stop_of named.Overflow = Overflow
stop_of named.ListTooLong = ListTooLong

-- the stop that names a state's verdict
abbrev pub stop_of_verdict : StateStop → Stop
stop_of_verdict (OfPart fault) = stop_of (fault_name fault)
stop_of_verdict OfPassive = PassiveLeft
stop_of_verdict OfWeights = WeightOverflow
