-- A model as contracts see it, and what holds of each.
use Rattle.std.specs.Prelude.{◌≡◌, ℕ, ◌^◌, ◌<◌, ◌≤◌, ⊤, List, [], ◌∷◌, Some, slice_get, length, sum_by, nat_eq, codes}
use Rattle.std.specs.List.{AllByRecursion, AllZip, range_with_len}
use Rattle.std.specs.List.Sorted.{IsStrictlyIncreasing}
use Rattle.pepa_rates.specs.declared.rate.Rate.{Rate}
use Rattle.pepa_rates.specs.declared.rate.Rate.TheVariants.{Active, Passive}
use Rattle.pepa_model.specs.Expression.{Expression, Const, Prefixed, Chosen, Shape, LeafShape, ConstShape, CoopShape, HideShape, Definition, IsCompound}
use Rattle.pepa_model.specs.Derivation.{Transition, IsComponentTransitionList, Among}
use Rattle.pepa_model.specs.Opened.{Opened, Opens, moves, height}
use Rattle.pepa_model.specs.Expanded.{Expanded, Expands, leaves_in, nodes_in, height_of}
use Rattle.pepa_model.specs.Leaves.{each_once, leaves_of, set_numbers, action_numbers}
use Rattle.pepa_model.specs.Spelling.{IsConstantName, IsActionName, HasWrittenShape, HasWrittenDefinition}
use Rattle.pepa_model.specs.declared.term.Activity.{Activity}

-- the parts of a model: the names of its constants and of its action types, whose places are their numbers; what each
-- constant stands for; its leaves and the activities of each; its sets of action types; and its system
pub record PepaModel : Type 0 where
  pub constants : List (List ℕ)
  pub actions : List (List ℕ)
  pub bodies : List Definition
  pub leaves : List Expression
  pub activities : List (List Activity)
  pub sets : List (List ℕ)
  pub system : Shape

-- the activity is the transition of a leaf, with a leaf's number for what follows
pub record StandsForTransition (leaves : List Expression) (activity : Activity) (transition : Transition) : Type 0 where
  pub action : transition.action ≡ activity.action
  pub signals : transition.signals ≡ 0
  pub rate : transition.rate ≡ activity.rate
  pub next : Expression
  pub numbered : slice_get leaves activity.target ≡ Some next
  pub target : transition.target ≡ next

-- the activities are the transition list of this leaf
abbrev pub AreTransitionsOf : PepaModel → Expression → List Activity → Type 0
AreTransitionsOf m e activities = (transitions : List Transition) × IsComponentTransitionList m.bodies e transitions × AllZip (StandsForTransition m.leaves) activities transitions

-- the constants and action types of an expression are numbers of the model
abbrev pub IsNamed : PepaModel → Expression → Type 0
IsNamed m (Const c) = c < length m.constants
IsNamed m (Prefixed a r next) = (a < length m.actions) × IsNamed m next
IsNamed m (Chosen x y) = IsNamed m x × IsNamed m y

-- what holds of each leaf: its constants open, not too deep, and its activities are those of the opened expression
pub record IsSoundLeaf (m : PepaModel) (number : ℕ) (e : Expression) : Type 0 where
  pub opened : Opened
  pub opens : Opens m.bodies e opened
  pub shallow : height opened ≤ 2 ^ 21
  pub activities : List Activity
  pub stored : slice_get m.activities number ≡ Some activities
  pub stand : AllZip (StandsForTransition m.leaves) activities (moves opened)
  pub few : length activities ≤ 65535
  pub known : AllByRecursion (λ a. a.action < length m.actions) activities
  pub named : IsNamed m e

-- one rate is active and the other passive
abbrev pub IsOtherKind : Rate → Rate → Type 0
IsOtherKind (Active p) (Active q) = ⊥
IsOtherKind (Active p) (Passive q) = ⊤
IsOtherKind (Passive p) (Active q) = ⊤
IsOtherKind (Passive p) (Passive q) = ⊥

-- among a leaf's activities, the one at this place has an earlier one of the same type with the other kind of rate
pub record IsMixedAt (activities : List Activity) (place : ℕ) : Type 0 where
  pub later : Activity
  pub later_is : slice_get activities place ≡ Some later
  pub before : ℕ
  pub is_before : before < place
  pub earlier : Activity
  pub earlier_is : slice_get activities before ≡ Some earlier
  pub same_action : earlier.action ≡ later.action
  pub other_kind : IsOtherKind earlier.rate later.rate

-- none of them has
abbrev pub AreUnmixed : List Activity → Type 0
AreUnmixed activities = (place : ℕ) → ¬ IsMixedAt activities place

-- what holds of each set: its action types ascend, and they are the model's, without `tau`
pub record IsActionSet (m : PepaModel) (set : List ℕ) : Type 0 where
  pub ascends : IsStrictlyIncreasing set
  pub no_tau : AllByRecursion (λ a. 0 < a) set
  pub known : AllByRecursion (λ a. a < length m.actions) set

-- what holds of the system and of each compound constant's: its components are leaves, its constants are compound, and
-- its sets are the model's
abbrev pub IsShapeOf : PepaModel → Shape → Type 0
IsShapeOf m (LeafShape e) = (number : ℕ) × (slice_get m.leaves number ≡ Some e)
IsShapeOf m (ConstShape c) = (shape : Shape) × IsCompound m.bodies c shape
IsShapeOf m (CoopShape x y set) = IsShapeOf m x × IsShapeOf m y × (set < length m.sets)
IsShapeOf m (HideShape x set) = IsShapeOf m x × (set < length m.sets)

-- it isn't one sequential component
abbrev pub IsNoLeaf : Shape → Type 0
IsNoLeaf shape = (e : Expression) → ¬ (shape ≡ LeafShape e)

-- the system expands, not too deep
pub record HasTree (m : PepaModel) (shape : Shape) : Type 0 where
  pub tree : Expanded
  pub expands : Expands m.bodies shape tree
  pub shallow : height_of tree ≤ 2 ^ 21

-- the model's system expands into at most 255 leaves and 1,023 nodes
pub record HasSmallTree (m : PepaModel) : Type 0 where
  pub expanded : HasTree m m.system
  pub leaves : leaves_in expanded.tree ≤ 255
  pub nodes : nodes_in expanded.tree ≤ 1023

-- what a compound constant stands for: a system that is no leaf, and that expands
pub record IsCompoundBody (m : PepaModel) (shape : Shape) : Type 0 where
  pub no_leaf : IsNoLeaf shape
  pub is_shape : IsShapeOf m shape
  pub expanded : HasTree m shape

-- no element stands twice
abbrev pub AreDistinct : {X : Type 0} → List X → Type 0
AreDistinct [] = ⊤
AreDistinct (x ∷ xs) = (¬ Among x xs) × AreDistinct xs

-- the numbers are each one at its first place from 0 on, so many
abbrev pub AreByFirstPlaces : List ℕ → ℕ → Type 0
AreByFirstPlaces numbers count = each_once nat_eq numbers ≡ range_with_len 0 count

-- no two that are numbered are equal; sets, leaves and action types are numbered by their first places
pub record IsNumbered (m : PepaModel) : Type 0 where
  pub constants : AreDistinct m.constants
  pub actions : AreDistinct m.actions
  pub sets : AreDistinct m.sets
  pub actions_by_place : AreByFirstPlaces (action_numbers m.sets m.bodies m.system) (length m.actions)
  pub sets_by_place : AreByFirstPlaces (set_numbers m.bodies m.system) (length m.sets)
  pub leaves_by_place : m.leaves ≡ leaves_of m.bodies m.system

-- there are not too many; 1,024 action types beside `tau`
pub record IsWithinLimits (m : PepaModel) : Type 0 where
  pub constants : length m.constants ≤ 1024
  pub actions : length m.actions ≤ 1025
  pub sets : length m.sets ≤ 1024
  pub leaves : length m.leaves ≤ 65535
  pub activities : sum_by length m.activities ≤ 65535

-- its names are spelled as those of a text, and its rates can be written; action 0 is `tau`
pub record IsSpelled (m : PepaModel) : Type 0 where
  pub constants : (c : ℕ) (name : List ℕ) → slice_get m.constants c ≡ Some name → IsConstantName name
  pub actions : (a : ℕ) (name : List ℕ) → 0 < a → slice_get m.actions a ≡ Some name → IsActionName name
  pub bodies : (c : ℕ) (definition : Definition) → slice_get m.bodies c ≡ Some definition → HasWrittenDefinition definition
  pub system : HasWrittenShape m.system

-- what holds of each model
pub record IsModel (m : PepaModel) : Type 0 where
  pub bodies : length m.bodies ≡ length m.constants
  pub tau : slice_get m.actions 0 ≡ Some (codes "tau")
  pub leaves : (number : ℕ) (e : Expression) → slice_get m.leaves number ≡ Some e → IsSoundLeaf m number e
  pub activities : length m.activities ≡ length m.leaves
  pub unmixed : (number : ℕ) (activities : List Activity) → slice_get m.activities number ≡ Some activities → AreUnmixed activities
  pub sets : (number : ℕ) (set : List ℕ) → slice_get m.sets number ≡ Some set → IsActionSet m set
  pub compounds : (c : ℕ) (shape : Shape) → IsCompound m.bodies c shape → IsCompoundBody m shape
  pub system : IsShapeOf m m.system
  pub small_tree : HasSmallTree m
  pub numbered : IsNumbered m
  pub spelled : IsSpelled m
  pub limits : IsWithinLimits m
