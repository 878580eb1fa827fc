-- Each state of a term opens into a tree, for which its rate is answered.
use Rattle.pepa_model.specs.Terms.{term_of}
use Rattle.pepa_steps.proofs.StateOpens.{state_opens}
use Rattle.pepa_steps.proofs.StateApparent.{of_tree}
use Rattle.pepa_steps.proofs.apparent_rate.apparent.Goals as goal

pub returns : goal.returns
returns c = λ state stands.
    let tree = state_opens c.args.model.now c.recall_invariant.ensures state (term_of c.args.term.now) stands in
    of_tree c.args.action c.args.model.now (term_of c.args.term.now) c.term_rate.result c.term_rate.ensures state tree.0 stands tree.1
