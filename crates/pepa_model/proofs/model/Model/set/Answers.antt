use Rattle.std.proofs.lemmas.Grind.{common_steps}
use Rattle.std.proofs.lemmas.Option.{gets}
use Rattle.std.proofs.lemmas.List.Elements.{All-from_recursion}
use Rattle.std.proofs.Common.{arith, ◌≡◌, ◌<◌, List, ℕ, Some, slice_get, length, subst}
use Rattle.pepa_model.specs.PepaModel.{PepaModel, IsModel, IsActionSet}
use Rattle.pepa_model.proofs.model.Model.set.Goals as goal

action_set : (m : PepaModel) → IsModel m → (number : ℕ) (set : List ℕ) → slice_get m.sets number ≡ Some set → IsActionSet m set
action_set m sound number set at = sound.sets number set at

pub returns-clause-ascends : goal.returns-clause-ascends
returns-clause-ascends c =
    let sound = subst IsModel c.self.view_is c.self.invariant in
    (action_set c.args.self.now sound c.args.set c.as_slice-2.result.now (grind (arith, common_steps, gets))).ascends

pub returns-clause-known : goal.returns-clause-known
returns-clause-known c =
    let sound = subst IsModel c.self.view_is c.self.invariant in
    All-from_recursion (λ a. a < length c.args.self.now.actions) c.as_slice-2.result.now (action_set c.args.self.now sound c.args.set c.as_slice-2.result.now (grind (arith, common_steps, gets))).known
