-- The outline of a model passes no limit, has no mixed choice, and has the model's activities.
use Rattle.std.proofs.Common.{◌≡◌, ℕ, List, [], ◌∷◌, map, length, sum_by, Some, slice_get, inl, inr, refl, sym, ap, ◌∙◌, subst, arith}
use Rattle.std.specs.List.{AllZip}
use Rattle.std.proofs.lemmas.List.{length-map}
use Rattle.std.proofs.lemmas.List.Sums.{sum_by-cons}
use Rattle.std.proofs.lemmas.Option.{same_Some}
use Rattle.pepa_rates.specs.declared.rate.Rate.{Rate}
use Rattle.pepa_model.specs.Expression.{Expression}
use Rattle.pepa_model.specs.Derivation.{Transition}
use Rattle.pepa_model.specs.Opened.{Opened, Opens, moves}
use Rattle.pepa_model.specs.Expanded.{leaves_in, nodes_in}
use Rattle.pepa_model.specs.PepaModel.{PepaModel, IsModel, IsMixedAt, StandsForTransition}
use Rattle.pepa_model.specs.declared.term.Activity.{Activity}
use Rattle.pepa_model.proofs.DistinctLeaves.{one_number}
use Rattle.node_orders.proofs.Elements.{contains_from_get}
use Rattle.pepa_checks.specs.Outline.{Outline}
use Rattle.pepa_checks.specs.Activities.{leaf_number, activity_in, activities_in, AreActivitiesOf, HasNoMixed}
use Rattle.pepa_checks.specs.Limits.{PassesLimit}
use Rattle.pepa_checks.proofs.LeafNumbers.{leaf_stands}
use Rattle.pepa_checks.proofs.OneTree.{one_opening, one_expansion}
use Rattle.pepa_printer.proofs.Shown.{model_outline}
use Rattle.pepa_printer.proofs.Zips.{zip_from}

-- ---- activities that stand for transitions are the transitions with numbers

abbrev made : ℕ → Rate → ℕ → Activity
made action rate target = record { action = action; rate = rate; target = target }

module _ (m : PepaModel) (sound : IsModel m) where
  activity_is : (a : Activity) (t : Transition) → StandsForTransition m.leaves a t → a ≡ activity_in m.leaves t
  activity_is a t stands =
      let there : slice_get m.leaves (leaf_number m.leaves stands.next) ≡ Some stands.next = leaf_stands m.leaves stands.next (contains_from_get m.leaves a.target stands.next stands.numbered) in
      let same : a.target ≡ leaf_number m.leaves stands.next = one_number m sound a.target (leaf_number m.leaves stands.next) stands.next stands.numbered there in
      let target : a.target ≡ leaf_number m.leaves t.target = same ∙ ap (leaf_number m.leaves) (sym stands.target) in
      ap (λ (n : ℕ). made n a.rate a.target) (sym stands.action)
      ∙ ap (λ (r : Rate). made t.action r a.target) (sym stands.rate)
      ∙ ap (λ (n : ℕ). made t.action t.rate n) target

  activities_are : (activities : List Activity) (ts : List Transition) → AllZip (StandsForTransition m.leaves) activities ts → activities ≡ map (activity_in m.leaves) ts
  activities_are [] [] h = refl
  activities_are [] (t ∷ ts) h = absurd h
  activities_are (a ∷ activities) [] h = absurd h
  activities_are (a ∷ activities) (t ∷ ts) h =
      ap (λ (b : Activity). b ∷ activities) (activity_is a t h.0) ∙ ap (λ (l : List Activity). activity_in m.leaves t ∷ l) (activities_are activities ts h.1)

  -- the list at a leaf's number is that of the leaf's activities
  leaf_has : (number : ℕ) (e : Expression) → slice_get m.leaves number ≡ Some e → (list : List Activity) × (slice_get m.activities number ≡ Some list) × AreActivitiesOf (model_outline m) e list
  leaf_has number e at =
      let leaf = sound.leaves number e at in
      (leaf.activities, leaf.stored, (leaf.opened, leaf.opens, activities_are leaf.activities (moves leaf.opened) leaf.stand))

-- ---- the number of activities

sums : (o : Outline) (leaves : List Expression) (opened : List Opened) (activities : List (List Activity)) → AllZip (Opens o.definitions) leaves opened
    → AllZip (AreActivitiesOf o) leaves activities → sum_by (λ tree. length (moves tree)) opened ≡ sum_by length activities
sums o [] [] [] opens has = refl
sums o [] [] (a ∷ activities) opens has = absurd has
sums o [] (p ∷ opened) activities opens has = absurd opens
sums o (e ∷ leaves) [] activities opens has = absurd opens
sums o (e ∷ leaves) (p ∷ opened) [] opens has = absurd has
sums o (e ∷ leaves) (p ∷ opened) (a ∷ activities) opens has =
    let rest = sums o leaves opened activities opens.1 has.1 in
    let same : length (moves has.0.0) ≡ length (moves p) = ap (λ (tree : Opened). length (moves tree)) (one_opening o.definitions e has.0.0 p has.0.1 opens.0) in
    let long : length a ≡ length (moves has.0.0) = ap length has.0.2 ∙ length-map (moves has.0.0) (activity_in o.leaves) in
    let left = sum_by-cons (λ (tree : Opened). length (moves tree)) p opened in
    let right = sum_by-cons length a activities in
    omega arith

-- ---- the model's outline

pub has_activities : (m : PepaModel) → IsModel m → AllZip (AreActivitiesOf (model_outline m)) m.leaves m.activities
has_activities m is =
    zip_from (AreActivitiesOf (model_outline m)) m.leaves m.activities is.activities (λ n e list at_e at_list.
    let found = leaf_has m is n e at_e in
    subst (λ (l : List Activity). AreActivitiesOf (model_outline m) e l) (same_Some found.0 list (sym found.1 ∙ at_list)) found.2)

pub has_no_mixed : (m : PepaModel) → IsModel m → HasNoMixed (model_outline m)
has_no_mixed m is number leaf at (opened, opens, (place, mixed)) =
    let (list, stored, (tree, opens_tree, list_is)) = leaf_has m is number leaf at in
    let same : opened ≡ tree = one_opening m.bodies leaf opened tree opens opens_tree in
    let list_too : activities_in m.leaves opened ≡ list = ap (λ (o : Opened). activities_in m.leaves o) same ∙ sym list_is in
    is.unmixed number list stored place (subst (λ (l : List Activity). IsMixedAt l place) list_too mixed)

pub within_limits : (m : PepaModel) → IsModel m → ¬ PassesLimit m.actions (model_outline m)
within_limits m is (inl lt) = let few = is.limits.actions in omega arith
within_limits m is (inr (inl lt)) = let few = is.limits.sets in omega arith
within_limits m is (inr (inr (inl lt))) = let few = is.limits.leaves in omega arith
within_limits m is (inr (inr (inr (inl (opened, opens, lt))))) =
    let few = is.limits.activities in
    let total = sums (model_outline m) m.leaves opened m.activities opens (has_activities m is) in
    omega arith
within_limits m is (inr (inr (inr (inr (inl (tree, expands, lt)))))) =
    let few = is.small_tree.leaves in
    let same : leaves_in tree ≡ leaves_in is.small_tree.expanded.tree = ap leaves_in (one_expansion m.bodies m.system tree is.small_tree.expanded.tree expands is.small_tree.expanded.expands) in
    omega arith
within_limits m is (inr (inr (inr (inr (inr (tree, expands, lt)))))) =
    let few = is.small_tree.nodes in
    let same : nodes_in tree ≡ nodes_in is.small_tree.expanded.tree = ap nodes_in (one_expansion m.bodies m.system tree is.small_tree.expanded.tree expands is.small_tree.expanded.expands) in
    omega arith
