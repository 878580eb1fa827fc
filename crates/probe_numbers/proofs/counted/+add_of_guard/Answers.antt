use Rattle.probe_reader.specs.ProbeTrees.{guard_node_of}
use Rattle.probe_numbers.specs.NumberedProbes.{constant_number, constants_in_guard}
use Rattle.probe_numbers.proofs.CountedConstants.{first_places_on_ok}
use Rattle.probe_numbers.proofs.counted.+add_of_guard.Goals as goal

pub returns-in_ok-add_of_guard-in-Both : goal.returns-in_ok-add_of_guard-in-Both
returns-in_ok-add_of_guard-in-Both g t c =
    rw c.in-Both.is (first_places_on_ok c.add_of_guard-in-Both.result (constant_number (g.N.ProbeNames.meanings c.args.names.now)) c.args.counted.now c.add_of_guard.new.counted c.add_of_guard-in-Both.new.counted
    (constants_in_guard (guard_node_of c.in-Both.left.value)) (constants_in_guard (guard_node_of c.in-Both.right.value))
    (rw c.deref.ensures at c.in_ok-add_of_guard-in-Both.ensures) (rw c.deref-in-Both.ensures at c.add_of_guard-in-Both.ensures))

pub returns-in_ok-add_of_guard-in-Either : goal.returns-in_ok-add_of_guard-in-Either
returns-in_ok-add_of_guard-in-Either g t c =
    rw c.in-Either.is (first_places_on_ok c.add_of_guard-in-Either-2.result (constant_number (g.N.ProbeNames.meanings c.args.names.now)) c.args.counted.now c.add_of_guard-in-Either.new.counted c.add_of_guard-in-Either-2.new.counted
    (constants_in_guard (guard_node_of c.in-Either.left.value)) (constants_in_guard (guard_node_of c.in-Either.right.value))
    (rw c.deref-in-Either.ensures at c.in_ok-add_of_guard-in-Either.ensures) (rw c.deref-in-Either-2.ensures at c.add_of_guard-in-Either-2.ensures))
