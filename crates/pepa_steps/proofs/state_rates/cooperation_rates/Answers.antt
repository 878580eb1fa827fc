-- The left side's rates with the right side's added are those of the cooperation.
use Rattle.pepa_steps.proofs.OutsideRates.{of_both}
use Rattle.pepa_steps.proofs.state_rates.cooperation_rates.Goals as goal

pub returns : goal.returns
returns c = of_both _ _ _ _ c.in_ok-first.ensures.1 _ c.add_outside.ensures
