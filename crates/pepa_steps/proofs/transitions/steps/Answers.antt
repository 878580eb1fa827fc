use Rattle.pepa_steps.proofs.transitions.steps.Goals as goal

pub returns : goal.returns
returns c = λ state stands.
    let h = c.in_ok-load.ensures.list state stands in
    rw c.from_vec.ensures (h.0, (h.1.0, h.1.1, c.in_ok-steps_listed.ensures state h.1.0 stands h.1.1))
