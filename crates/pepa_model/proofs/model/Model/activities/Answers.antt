use Rattle.std.proofs.lemmas.Grind.{common_steps}
use Rattle.std.proofs.lemmas.Option.{gets}
use Rattle.std.proofs.Common.{arith, ◌≡◌, Some, List, slice_get, subst}
use Rattle.std.specs.List.{AllZip}
use Rattle.pepa_model.specs.Expression.{Expression}
use Rattle.pepa_model.specs.PepaModel.{PepaModel, IsModel, AreTransitionsOf, StandsForTransition}
use Rattle.pepa_model.specs.Opened.{moves}
use Rattle.pepa_model.specs.declared.term.Activity.{Activity}
use Rattle.pepa_model.proofs.TransitionLists.{transition_list}
use Rattle.pepa_model.proofs.model.Model.activities.Goals as goal

stored_list : (m : PepaModel) → IsModel m → (number : _) (e : Expression) (activities : List Activity) → slice_get m.leaves number ≡ Some e → slice_get m.activities number ≡ Some activities → AreTransitionsOf m e activities
stored_list m sound number e activities at stored =
    let leaf = sound.leaves number e at in
    let same : leaf.activities ≡ activities = cc (leaf.stored) in
    (moves leaf.opened, transition_list m.bodies e leaf.opened leaf.opens, subst (λ (list : List Activity). AllZip (StandsForTransition m.leaves) list (moves leaf.opened)) same leaf.stand)

pub returns-clause-transitions : goal.returns-clause-transitions
returns-clause-transitions c = λ e at.
    let sound = c.self.invariant in
    stored_list c.args.self.now (subst IsModel c.self.view_is sound) c.args.leaf e c.as_slice-2.result.now at (grind (arith, common_steps, gets))
