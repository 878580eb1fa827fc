use Rattle.indexmap.specs.IndexMap.{keys}
use Rattle.pepa_resolver.specs.NamedTypes.{named_of, bodies_of}
use Rattle.pepa_checks.specs.Outline.{outline_of}
use Rattle.pepa_checks.specs.Activities.{written_leaves}
use Rattle.pepa_checks.proofs.Counted.{no_mixed, first_mixed_leaf}
use Rattle.pepa_checks.proofs.Countings.{each_opens}
use Rattle.pepa_checks.proofs.file_check.judge.Goals as goal

pub returns-in-Some : goal.returns-in-Some
returns-in-Some c =
    let file = c.args.file.now in
    let bodies = bodies_of file.numbered.bodies in
    let system = named_of file.numbered.system in
    let counted = c.in-Ok.ensures in
    let opens = each_opens (keys file.numbered.actions) file.structure.compounds bodies system file.structure.compound_order file.structure.sequential_order c.requires.built c.requires.compounds c.requires.sequential in
    let first = rw (c.as_slice.ensures, c.in-Some.is) at c.in_ok-at.ensures in
    (counted.within, first_mixed_leaf (outline_of file.structure.compounds bodies system) bodies (written_leaves file.structure.compounds bodies system) c.in-Ok.counted.performed counted.performed_are opens c.in-Some.at first)

pub returns-in-None : goal.returns-in-None
returns-in-None c =
    let file = c.args.file.now in
    let bodies = bodies_of file.numbered.bodies in
    let system = named_of file.numbered.system in
    let counted = c.in-Ok.ensures in
    let none = rw (c.as_slice.ensures, c.in-None.is) at c.in_ok-at.ensures in
    (counted, no_mixed (outline_of file.structure.compounds bodies system) bodies (written_leaves file.structure.compounds bodies system) c.in-Ok.counted.performed counted.performed_are none)
