-- Terms and states of a model: each state that a term stands for opens into a tree; and the parts of a tree.
use Rattle.std.proofs.Common.{List, [], ◌∷◌, ◌++◌, map, slice_index_or, refl}
use Rattle.std.specs.List.{AllByRecursion}
use Rattle.std.proofs.lemmas.Option.{slice_get-get_or, slice_get_within}
use Rattle.pepa_model.specs.Expression.{Const}
use Rattle.pepa_model.specs.Opened.{parts}
use Rattle.pepa_model.specs.PepaModel.{PepaModel, IsModel}
use Rattle.pepa_model.specs.Terms.{TermNode, LeafNode, CoopNode, HideNode, IsNodeOf}
use Rattle.pepa_steps.specs.States.{State, AtLeaf, Cooperating, Hiding, NodeStandsFor}
use Rattle.pepa_steps.specs.OpenStates.{OpenState, LeafOpen, CoopOpen, HideOpen, OpensState, parts_in}
use Rattle.pepa_steps.proofs.Faults.{all_front, whole_from_parts}

-- a term of the model stands for a state
pub stands_for_one : (m : PepaModel) (node : TermNode) → IsNodeOf m node → (state : State) × NodeStandsFor m state node
stands_for_one m (LeafNode number) within = (AtLeaf (slice_index_or m.leaves number (Const 0)), slice_get-get_or m.leaves number (Const 0) within)
stands_for_one m (CoopNode x y set) of_model =
    let left = stands_for_one m x of_model.0 in
    let right = stands_for_one m y of_model.1 in
    (Cooperating left.0 right.0 (slice_index_or m.sets set []), (left.1, right.1, slice_get-get_or m.sets set [] of_model.2))
stands_for_one m (HideNode x set) of_model =
    let inner = stands_for_one m x of_model.0 in
    (Hiding inner.0 (slice_index_or m.sets set []), (inner.1, slice_get-get_or m.sets set [] of_model.1))

-- what stands for a state is of the model
pub node_of_model : (m : PepaModel) (state : State) (node : TermNode) → NodeStandsFor m state node → IsNodeOf m node
node_of_model m (AtLeaf e) (LeafNode number) stands = slice_get_within m.leaves number e stands
node_of_model m (Cooperating p q set) (CoopNode x y number) (of_x, of_y, is) = (node_of_model m p x of_x, node_of_model m q y of_y, slice_get_within m.sets number set is)
node_of_model m (Hiding p set) (HideNode x number) (of_x, is) = (node_of_model m p x of_x, slice_get_within m.sets number set is)
node_of_model m state node stands = absurd stands

-- each state that a term stands for opens
pub state_opens : (m : PepaModel) → IsModel m → (state : State) (node : TermNode) → NodeStandsFor m state node → (tree : OpenState) × OpensState m.bodies state tree
state_opens m sound (AtLeaf e) (LeafNode number) stands =
    let leaf = sound.leaves number e stands in
    (LeafOpen leaf.opened, leaf.opens)
state_opens m sound (Cooperating p q set) (CoopNode x y number) (of_x, of_y, is) =
    let left = state_opens m sound p x of_x in
    let right = state_opens m sound q y of_y in
    (CoopOpen left.0 right.0 set, (left.1, right.1, refl))
state_opens m sound (Hiding p set) (HideNode x number) (of_x, is) =
    let inner = state_opens m sound p x of_x in
    (HideOpen inner.0 set, (inner.1, refl))
state_opens m sound state node stands = absurd stands

-- ---- all parts of a leaf are those of its component

pub all_map : {P Q : Type 0} (Fine : P → Type 0) (f : Q → P) (xs : List Q) → AllByRecursion (λ x. Fine (f x)) xs → AllByRecursion Fine (map f xs)
all_map Fine f [] h = tt
all_map Fine f (x ∷ xs) h = (h.0, all_map Fine f xs h.1)

pub all_from_map : {P Q : Type 0} (Fine : P → Type 0) (f : Q → P) (xs : List Q) → AllByRecursion Fine (map f xs) → AllByRecursion (λ x. Fine (f x)) xs
all_from_map Fine f [] h = tt
all_from_map Fine f (x ∷ xs) h = (h.0, all_from_map Fine f xs h.1)

-- the whole is the last of its parts
pub state_from_parts : (Fine : OpenState → Type 0) (tree : OpenState) → AllByRecursion Fine (parts_in tree) → Fine tree
state_from_parts Fine (LeafOpen o) h = whole_from_parts (λ p. Fine (LeafOpen p)) o (all_from_map Fine LeafOpen (parts o) h)
state_from_parts Fine (CoopOpen s t set) h = (all_front Fine (parts_in s ++ parts_in t) (CoopOpen s t set ∷ []) h).0
state_from_parts Fine (HideOpen s set) h = (all_front Fine (parts_in s) (HideOpen s set ∷ []) h).0
