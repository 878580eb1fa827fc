-- The numbers of a model's leaves, sets and action types, by their first places in its text: the right sides of its constants
-- in order, and then its system. The sequential constants stand before the other leaves.
use Rattle.std.specs.Prelude.{ℕ, suc, ◌==◌, Bool, false, not, ◌&&◌, List, [], ◌∷◌, ◌++◌, filter, flat_map, position, unwrap_or, slice_index_or}
use Rattle.pepa_rates.specs.declared.rate.Rate.{Rate}
use Rattle.pepa_rates.specs.declared.rate.Rate.TheVariants.{Active, Passive}
use Rattle.pepa_model.specs.Expression.{Expression, Const, Prefixed, Chosen, Shape, LeafShape, ConstShape, CoopShape, HideShape, Definition, Sequentially, Compoundly}

-- ---- each thing once

-- what is not the same as this
abbrev pub without : {X : Type 0} → (X → X → Bool) → X → List X → List X
without same x ys = filter (λ y. not (same x y)) ys

-- each element once, at its first place
abbrev pub each_once : {X : Type 0} → (X → X → Bool) → List X → List X
each_once same [] = []
each_once same (x ∷ xs) = x ∷ without same x (each_once same xs)

-- an element's place, or 0 if it has none
abbrev pub position_of : {X : Type 0} → (X → X → Bool) → List X → X → ℕ
position_of same xs x = unwrap_or (position (same x) xs) 0

-- whether two rates are equal
abbrev pub same_rate : Rate → Rate → Bool
same_rate (Active p) (Active q) = (p.num == q.num) && (p.den == q.den)
same_rate (Passive p) (Passive q) = (p.num == q.num) && (p.den == q.den)
same_rate _ _ = false

-- whether two expressions are equal
abbrev pub same_expression : Expression → Expression → Bool
same_expression (Const c) (Const d) = c == d
same_expression (Prefixed a r x) (Prefixed b s y) = (a == b) && (same_rate r s && same_expression x y)
same_expression (Chosen x y) (Chosen v w) = same_expression x v && same_expression y w
same_expression _ _ = false

-- ---- leaves

-- what follows the activities of an expression
abbrev pub followers : Expression → List Expression
followers (Const c) = []
followers (Prefixed a r next) = next ∷ followers next
followers (Chosen x y) = followers x ++ followers y

-- the sequential components of a system, each with what follows its activities
abbrev pub components : Shape → List Expression
components (LeafShape e) = e ∷ followers e
components (ConstShape c) = []
components (CoopShape x y set) = components x ++ components y
components (HideShape x set) = components x

-- a right side that is sequential is no leaf by that alone
abbrev pub components_defined : Definition → List Expression
components_defined (Sequentially e) = followers e
components_defined (Compoundly shape) = components shape

-- the sequential constants among the constants from this number on
abbrev pub sequential_constants : ℕ → List Definition → List Expression
sequential_constants c [] = []
sequential_constants c (Sequentially e ∷ definitions) = Const c ∷ sequential_constants (suc c) definitions
sequential_constants c (Compoundly shape ∷ definitions) = sequential_constants (suc c) definitions

-- the leaves: the sequential constants, and then each other component and each expression that follows an activity
abbrev pub leaves_of : List Definition → Shape → List Expression
leaves_of definitions system =
    each_once same_expression (sequential_constants 0 definitions ++ (flat_map components_defined definitions ++ components system))

-- ---- sets

-- the numbers of the sets of a system
abbrev pub sets_in : Shape → List ℕ
sets_in (LeafShape e) = []
sets_in (ConstShape c) = []
sets_in (CoopShape x y set) = sets_in x ++ (set ∷ sets_in y)
sets_in (HideShape x set) = sets_in x ++ set ∷ []

abbrev pub sets_defined : Definition → List ℕ
sets_defined (Sequentially e) = []
sets_defined (Compoundly shape) = sets_in shape

-- the numbers of the sets of a model, as they are written
abbrev pub set_numbers : List Definition → Shape → List ℕ
set_numbers definitions system = flat_map sets_defined definitions ++ sets_in system

-- ---- action types

-- the numbers of the action types of an expression
abbrev pub actions_in : Expression → List ℕ
actions_in (Const c) = []
actions_in (Prefixed a r next) = a ∷ actions_in next
actions_in (Chosen x y) = actions_in x ++ actions_in y

-- of a system, with those in its sets
abbrev pub actions_of_shape : List (List ℕ) → Shape → List ℕ
actions_of_shape sets (LeafShape e) = actions_in e
actions_of_shape sets (ConstShape c) = []
actions_of_shape sets (CoopShape x y set) = actions_of_shape sets x ++ (slice_index_or sets set [] ++ actions_of_shape sets y)
actions_of_shape sets (HideShape x set) = actions_of_shape sets x ++ slice_index_or sets set []

abbrev pub actions_defined : List (List ℕ) → Definition → List ℕ
actions_defined sets (Sequentially e) = actions_in e
actions_defined sets (Compoundly shape) = actions_of_shape sets shape

-- the numbers of the action types of a model, as they are written, behind `tau`
abbrev pub action_numbers : List (List ℕ) → List Definition → Shape → List ℕ
action_numbers sets definitions system = 0 ∷ (flat_map (actions_defined sets) definitions ++ actions_of_shape sets system)
