use Rattle.std.proofs.Common.{◌≡◌, take}
use Rattle.std.specs.List.{flat_map}
use Rattle.sim_report.specs.StepsText.{step_text}
use Rattle.sim_report.proofs.transition_text.steps_text.Given as goal

abbrev pub invariant-loop-step : goal.invariant-loop-step
invariant-loop-step l = l.text.items ≡ flat_map (step_text l.model) (take l.step-index l.steps)
