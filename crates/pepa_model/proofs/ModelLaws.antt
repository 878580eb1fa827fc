-- What the layers above need of a model.
use Rattle.std.proofs.Common.{◌≡◌, ℕ, ◌<◌, List, [], ◌∷◌, length, Some, slice_get}
use Rattle.std.specs.List.{AllByRecursion, AllZip}
use Rattle.std.proofs.lemmas.Option.{slice_get_within}
use Rattle.pepa_model.specs.Expression.{Expression, Shape, IsCompound}
use Rattle.pepa_model.specs.Derivation.{Transition}
use Rattle.pepa_model.specs.Opened.{moves}
use Rattle.pepa_model.specs.PepaModel.{PepaModel, StandsForTransition, HasTree, IsModel}
use Rattle.pepa_model.specs.ModelLaws.{HasActivities, OpensLow}
use Rattle.pepa_model.specs.declared.term.Activity.{Activity}
use Rattle.pepa_model.proofs.TransitionLists.{transition_list}

targets_within : (leaves : List Expression) (activities : List Activity) (transitions : List Transition) → AllZip (StandsForTransition leaves) activities transitions → AllByRecursion (λ a. a.target < length leaves) activities
targets_within leaves [] transitions stand = tt
targets_within leaves (a ∷ activities) [] stand = absurd stand
targets_within leaves (a ∷ activities) (t ∷ transitions) stand =
    (slice_get_within leaves a.target stand.0.next stand.0.numbered, targets_within leaves activities transitions stand.1)

pub has_activities : (m : PepaModel) → IsModel m → (number : ℕ) (e : Expression) → slice_get m.leaves number ≡ Some e → HasActivities m number e
has_activities m sound number e at =
    let leaf = sound.leaves number e at in
    record {
      activities = leaf.activities;
      stored = leaf.stored;
      transitions = (moves leaf.opened, transition_list m.bodies e leaf.opened leaf.opens, leaf.stand);
      actions = leaf.known;
      targets = targets_within m.leaves leaf.activities (moves leaf.opened) leaf.stand;
    }

pub leaf_opens : (m : PepaModel) → IsModel m → (number : ℕ) (e : Expression) → slice_get m.leaves number ≡ Some e → OpensLow m e
leaf_opens m sound number e at =
    let leaf = sound.leaves number e at in
    record { opened = leaf.opened; opens = leaf.opens; shallow = leaf.shallow }

pub system_expands : (m : PepaModel) → IsModel m → HasTree m m.system
system_expands m sound = sound.small_tree.expanded

pub compound_expands : (m : PepaModel) → IsModel m → (c : ℕ) (shape : Shape) → IsCompound m.bodies c shape → HasTree m shape
compound_expands m sound c shape is = (sound.compounds c shape is).expanded
