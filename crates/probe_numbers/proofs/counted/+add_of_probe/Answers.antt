use Rattle.probe_reader.specs.ProbeTrees.{guard_node_of, probe_node_of}
use Rattle.probe_numbers.specs.NumberedProbes.{constant_number, constants_in_guard, constants_in_probe}
use Rattle.probe_numbers.proofs.CountedConstants.{first_places_on_ok}
use Rattle.probe_numbers.proofs.counted.+add_of_probe.Goals as goal

pub returns-in_ok-add_of_probe-in-Then : goal.returns-in_ok-add_of_probe-in-Then
returns-in_ok-add_of_probe-in-Then g t c =
    rw c.in-Then.is (first_places_on_ok c.add_of_probe-in-Then.result (constant_number (g.N.ProbeNames.meanings c.args.names.now)) c.args.counted.now c.add_of_probe.new.counted c.add_of_probe-in-Then.new.counted
    (constants_in_probe (probe_node_of c.in-Then.left.value)) (constants_in_probe (probe_node_of c.in-Then.right.value))
    (rw c.deref.ensures at c.in_ok-add_of_probe-in-Then.ensures) (rw c.deref-in-Then.ensures at c.add_of_probe-in-Then.ensures))

pub returns-in_ok-add_of_probe-in-Or : goal.returns-in_ok-add_of_probe-in-Or
returns-in_ok-add_of_probe-in-Or g t c =
    rw c.in-Or.is (first_places_on_ok c.add_of_probe-in-Or-2.result (constant_number (g.N.ProbeNames.meanings c.args.names.now)) c.args.counted.now c.add_of_probe-in-Or.new.counted c.add_of_probe-in-Or-2.new.counted
    (constants_in_probe (probe_node_of c.in-Or.left.value)) (constants_in_probe (probe_node_of c.in-Or.right.value))
    (rw c.deref-in-Or.ensures at c.in_ok-add_of_probe-in-Or.ensures) (rw c.deref-in-Or-2.ensures at c.add_of_probe-in-Or-2.ensures))

pub returns-in_ok-add_of_guard-in-Guarded : goal.returns-in_ok-add_of_guard-in-Guarded
returns-in_ok-add_of_guard-in-Guarded g t c =
    rw c.in-Guarded.is (first_places_on_ok c.add_of_probe-in-Guarded.result (constant_number (g.N.ProbeNames.meanings c.args.names.now)) c.args.counted.now c.add_of_guard.new.counted c.add_of_probe-in-Guarded.new.counted
    (constants_in_guard (guard_node_of c.in-Guarded.guard)) (constants_in_probe (probe_node_of c.in-Guarded.inner.value))
    c.in_ok-add_of_guard-in-Guarded.ensures (rw c.deref-in-Guarded.ensures at c.add_of_probe-in-Guarded.ensures))
