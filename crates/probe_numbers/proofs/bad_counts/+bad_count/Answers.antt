use Rattle.std.proofs.Common.{ap}
use Rattle.probe_reader.specs.ProbeTrees.{probe_node_of}
use Rattle.probe_numbers.proofs.FirstIndices.{first_of_times, first_of_between}
use Rattle.probe_numbers.proofs.bad_counts.+bad_count.Goals as goal

pub returns-in-Times : goal.returns-in-Times
returns-in-Times t c =
    first_of_times c.args.tokens.now c.args.tree.now (probe_node_of c.in-Times.inner.value) c.in-Times.number c.bad_count-in-Times.result c.bad_number.result c.earlier-in-Times.result
    (ap probe_node_of c.in-Times.is) (rw c.deref-in-Times.ensures at c.bad_count-in-Times.ensures) c.bad_number.ensures c.earlier-in-Times.ensures

pub returns-in-Between : goal.returns-in-Between
returns-in-Between t c =
    first_of_between c.args.tokens.now c.args.tree.now (probe_node_of c.in-Between.inner.value) c.in-Between.least c.in-Between.most c.bad_count-in-Between.result c.bad_range.result c.earlier-in-Between.result
    (ap probe_node_of c.in-Between.is) (rw c.deref-in-Between.ensures at c.bad_count-in-Between.ensures) c.bad_range.ensures c.earlier-in-Between.ensures
