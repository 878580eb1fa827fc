use Rattle.pepa_reader.specs.Trees.{file_node_of}
use Rattle.pepa_resolver.specs.NamedTypes.{named_of, bodies_of}
use Rattle.pepa_checks.proofs.Stops.{told_stops, has_line, misbuilt_stops}
use Rattle.pepa_checks.proofs.structured_file.structured_file.Goals as goal

pub returns-in-Err-Refused : goal.returns-in-Err-Refused
returns-in-Err-Refused c =
    rw (c.told_cause-cause.ensures, c.in-Err-Refused.field-0-is) (told_stops c.args.input.now c.args.tokens.now (file_node_of c.args.tree.now) c.in-Err-Refused.cause c.in-Err-Refused.at (rw c.in-Err-Refused.field-0-is at c.in-Err-Refused.ensures))

pub misbuilt-requires : goal.misbuilt-requires
misbuilt-requires c =
    rw c.as_slice.ensures (has_line c.args.input.now c.args.tokens.now (file_node_of c.args.tree.now) c.in-Ok.ensures.values (bodies_of c.in-Ok.numbered.bodies) (named_of c.in-Ok.numbered.system) c.in-Ok.ensures.numbered
    c.in-Err-Fault.fault (rw c.in-Err-Fault.field-0-is at c.in-Err-Fault.ensures))

pub returns-in-Err-Fault : goal.returns-in-Err-Fault
returns-in-Err-Fault c =
    misbuilt_stops c.args.input.now c.args.tokens.now (file_node_of c.args.tree.now) c.in-Ok.ensures.values (bodies_of c.in-Ok.numbered.bodies) (named_of c.in-Ok.numbered.system) c.in-Ok.ensures.numbered
    c.in-Err-Fault.fault c.misbuilt.result.cause c.misbuilt.result.at (rw c.in-Err-Fault.field-0-is at c.in-Err-Fault.ensures) (rw c.as_slice.ensures at c.misbuilt.ensures)
