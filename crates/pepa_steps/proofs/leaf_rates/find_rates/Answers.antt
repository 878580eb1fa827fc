use Rattle.pepa_steps.proofs.Opening.{leaf_can_open}
use Rattle.pepa_steps.proofs.leaf_rates.find_rates.Goals as goal

pub component_rates-requires : goal.component_rates-requires
component_rates-requires c = leaf_can_open c.args.model.now c.recall_invariant.ensures _ _ c.leaf.ensures
