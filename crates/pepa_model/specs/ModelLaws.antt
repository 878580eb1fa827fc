-- What the layers above need of a model: its leaves as states, and trees to recur on.
use Rattle.std.specs.Prelude.{◌≡◌, ℕ, ◌^◌, ◌<◌, ◌≤◌, List, Some, slice_get, length}
use Rattle.std.specs.List.{AllByRecursion}
use Rattle.pepa_model.specs.Expression.{Expression}
use Rattle.pepa_model.specs.Opened.{Opened, Opens, height}
use Rattle.pepa_model.specs.PepaModel.{PepaModel, AreTransitionsOf}
use Rattle.pepa_model.specs.declared.term.Activity.{Activity}

-- the activities at this number are the leaf's transitions, are of the model's action types, and each leads to a leaf
pub record HasActivities (m : PepaModel) (number : ℕ) (e : Expression) : Type 0 where
  pub activities : List Activity
  pub stored : slice_get m.activities number ≡ Some activities
  pub transitions : AreTransitionsOf m e activities
  pub actions : AllByRecursion (λ a. a.action < length m.actions) activities
  pub targets : AllByRecursion (λ a. a.target < length m.leaves) activities

-- the component's constants open into a finite tree, not too high
pub record OpensLow (m : PepaModel) (e : Expression) : Type 0 where
  pub opened : Opened
  pub opens : Opens m.bodies e opened
  pub shallow : height opened ≤ 2 ^ 21
