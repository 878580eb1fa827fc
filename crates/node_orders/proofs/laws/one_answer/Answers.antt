use Rattle.node_orders.specs.Graphs.{EdgeOf}
use Rattle.node_orders.proofs.AlongOrders.{order_no_cycle, one_first}
use Rattle.node_orders.proofs.laws.one_answer.Goals as goal

pub returns-clause-first : goal.returns-clause-first
returns-clause-first c = λ edges a b. one_first (EdgeOf edges) a b

pub returns-clause-none : goal.returns-clause-none
returns-clause-none c = order_no_cycle
