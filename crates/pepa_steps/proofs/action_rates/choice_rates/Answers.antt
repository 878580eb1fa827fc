use Rattle.pepa_steps.proofs.EitherOrder.{other_order}
use Rattle.pepa_steps.proofs.action_rates.choice_rates.Goals as goal

pub returns-then-len : goal.returns-then-len
returns-then-len c = other_order c.args.left.entries c.args.right.entries c.add_rates.result c.add_rates.ensures
