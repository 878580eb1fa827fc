use Rattle.std.proofs.Common.{◌∙◌, sym}
use Rattle.std.proofs.lemmas.List.{length-map}
use Rattle.pepa_resolver.specs.NamedTypes.{named_of, bodies_of}
use Rattle.pepa_checks.proofs.Bodies.{users_below, systems_below, compounds_reached}
use Rattle.pepa_checks.proofs.compounds.compound_table.Goals as goal

pub reached-requires-clause-edges_within : goal.reached-requires-clause-edges_within
reached-requires-clause-edges_within c =
    let sizes = c.in_ok-users.ensures.lists ∙ sym (length-map c.args.bodies.now named_of) in
    rw c.as_slice.ensures.value (users_below (bodies_of c.args.bodies.now) c.in_ok-users.users.items sizes c.in_ok-users.ensures.users)

pub reached-requires-clause-from_within : goal.reached-requires-clause-from_within
reached-requires-clause-from_within c =
    let sizes = c.in_ok-users.ensures.lists ∙ sym (length-map c.args.bodies.now named_of) in
    rw (c.as_slice.ensures.value, c.as_slice-2.ensures, sizes) (systems_below (bodies_of c.args.bodies.now) c.in_ok-systems.systems c.in_ok-systems.ensures)

pub returns : goal.returns
returns c =
    let told = rw (c.as_slice.ensures.value, c.as_slice-2.ensures) at c.in_ok-table.ensures in
    (told.0 ∙ c.in_ok-users.ensures.lists, compounds_reached (bodies_of c.args.bodies.now) c.in_ok-users.users.items c.in_ok-systems.systems c.in_ok-table.table c.in_ok-users.ensures.users c.in_ok-systems.ensures told.1)
