-- How faults of rates and of joint steps are named.
use Rattle.fault_ends.specs.declared.end.End.{End}
use Rattle.fault_ends.specs.declared.end.End.TheVariants as ends
use Rattle.pepa_rates.specs.declared.frac.RateOverflow.{RateOverflow}
use Rattle.pepa_rates.specs.declared.rate.RateFault.{RateFault}
use Rattle.pepa_rates.specs.declared.rate.RateFault.TheVariants as fault
use Rattle.pepa_steps.specs.declared.transitions.StepFault.TheVariants.{Mixed, Overflow}
use Rattle.pepa_steps.specs.declared.transitions.StepsEnd.{StepsEnd}
use Rattle.pepa_steps.specs.declared.transitions.StepsEnd.TheVariants.{Fault, Memory}

abbrev pub rates_end : End RateFault → StepsEnd
rates_end (ends.Fault fault.Mixed) = Fault Mixed
rates_end (ends.Fault fault.Overflow) = Fault Overflow
rates_end ends.Memory = Memory

abbrev pub joint_end : End RateOverflow → StepsEnd
joint_end (ends.Fault overflow) = Fault Overflow
joint_end ends.Memory = Memory
