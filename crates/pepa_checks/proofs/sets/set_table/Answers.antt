use Rattle.std.proofs.Common.{flat_map}
use Rattle.std.proofs.lemmas.List.{take_all}
use Rattle.indexmap.specs.IndexMap.{keys}
use Rattle.pepa_resolver.specs.NamedTypes.{named_of, bodies_of}
use Rattle.pepa_checks.specs.Outline.{sets_written}
use Rattle.pepa_checks.proofs.SetTables.{sets_together}
use Rattle.pepa_checks.proofs.sets.set_table.Goals as goal

pub returns : goal.returns
returns c =
    sets_together (keys c.loop-body.sets) (keys c.add_sets-2.new.sets) (flat_map sets_written (bodies_of c.args.file.bodies.now)) (sets_written (named_of c.args.file.system.now))
    (rw (take_all c.loop-body.body-index c.args.file.bodies.now c.loop-body-test.false) at c.loop-body.invariant)
    c.in_ok-add_sets-2.ensures
