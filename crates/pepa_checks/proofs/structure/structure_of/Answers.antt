use Rattle.pepa_checks.proofs.structure.structure_of.Goals as goal

pub check_structure-requires-clause-below : goal.check_structure-requires-clause-below
check_structure-requires-clause-below c = rw c.as_slice.ensures (λ process among. (c.requires.bodies_in_range process among).constants_below)
