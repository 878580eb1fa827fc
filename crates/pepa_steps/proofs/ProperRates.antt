-- The rates in the opened states of a model are fractions of the program.
use Rattle.std.proofs.Common.{◌≡◌, ℕ, zero, suc, Bool, List, [], ◌∷◌, ◌++◌, flat_map, Some, slice_get, get_or, refl, sym, subst}
use Rattle.std.specs.List.{AllByRecursion}
use Rattle.std.proofs.lemmas.Option.{get_or_from_slice_get}
use Rattle.pepa_rates.specs.Fraction.{IsProper}
use Rattle.pepa_rates.specs.Sum.{fraction_of}
use Rattle.pepa_rates.specs.declared.rate.Rate.{Rate}
use Rattle.pepa_rates.specs.declared.rate.Rate.TheVariants.{Active, Passive}
use Rattle.pepa_model.specs.Expression.{Expression, Const, Prefixed, Chosen, Shape, LeafShape, ConstShape, CoopShape, HideShape, Definition, Sequentially, Compoundly}
use Rattle.pepa_model.specs.Opened.{Opened, OpenPrefix, OpenChoice, OpenConst, Opens}
use Rattle.pepa_model.specs.Spelling.{IsWrittenRate, HasWrittenRates, HasWrittenShape, HasWrittenDefinition}
use Rattle.pepa_model.specs.Leaves.{each_once, same_expression, followers, components, components_defined, sequential_constants, leaves_of}
use Rattle.pepa_model.specs.PepaModel.{PepaModel, IsModel}
use Rattle.pepa_model.specs.Terms.{TermNode, LeafNode, CoopNode, HideNode}
use Rattle.pepa_steps.specs.States.{State, AtLeaf, Cooperating, Hiding, NodeStandsFor}
use Rattle.pepa_steps.specs.OpenStates.{OpenState, LeafOpen, CoopOpen, HideOpen, OpensState}
use Rattle.pepa_steps.proofs.Faults.{all_append}
use Rattle.pepa_steps.proofs.NodeLists.{all_filter, all_flat_map}

-- the rates of the activities are fractions of the program
abbrev pub HasProperPrefixes : Opened → Type 0
HasProperPrefixes (OpenPrefix a r next) = IsProper (fraction_of r)
HasProperPrefixes (OpenChoice p q) = HasProperPrefixes p × HasProperPrefixes q
HasProperPrefixes (OpenConst c p) = HasProperPrefixes p

abbrev pub HasProperRates : OpenState → Type 0
HasProperRates (LeafOpen o) = HasProperPrefixes o
HasProperRates (CoopOpen s t set) = HasProperRates s × HasProperRates t
HasProperRates (HideOpen s set) = HasProperRates s

-- ---- lists

module _ {X : Type 0} (P : X → Type 0) where
  all_from_slice : (xs : List X) → ((i : ℕ) (x : X) → slice_get xs i ≡ Some x → P x) → AllByRecursion P xs
  all_from_slice [] each = tt
  all_from_slice (x ∷ xs) each = (each 0 x refl, all_from_slice xs (λ i y is. each (suc i) y is))

  or_default : (xs : List X) (d : X) → AllByRecursion P xs → P d → (i : ℕ) → P (get_or xs i d)
  or_default [] d h k i = k
  or_default (x ∷ xs) d h k zero = h.0
  or_default (x ∷ xs) d h k (suc i) = or_default xs d h.1 k i

  all_once : (same : X → X → Bool) (xs : List X) → AllByRecursion P xs → AllByRecursion P (each_once same xs)
  all_once same [] h = tt
  all_once same (x ∷ xs) h = (h.0, all_filter P _ (each_once same xs) (all_once same xs h.1))

-- ---- the leaves of a model are written as its bodies are

followers_written : (e : Expression) → HasWrittenRates e → AllByRecursion HasWrittenRates (followers e)
followers_written (Const c) h = tt
followers_written (Prefixed a r next) h = (h.1, followers_written next h.1)
followers_written (Chosen x y) h = all_append HasWrittenRates (followers x) (followers y) (followers_written x h.0) (followers_written y h.1)

components_written : (shape : Shape) → HasWrittenShape shape → AllByRecursion HasWrittenRates (components shape)
components_written (LeafShape e) h = (h, followers_written e h)
components_written (ConstShape c) h = tt
components_written (CoopShape x y set) h = all_append HasWrittenRates (components x) (components y) (components_written x h.0) (components_written y h.1)
components_written (HideShape x set) h = components_written x h

defined_written : (definition : Definition) → HasWrittenDefinition definition → AllByRecursion HasWrittenRates (components_defined definition)
defined_written (Sequentially e) h = followers_written e h
defined_written (Compoundly shape) h = components_written shape h

constants_written : (c : ℕ) (definitions : List Definition) → AllByRecursion HasWrittenRates (sequential_constants c definitions)
constants_written c [] = tt
constants_written c (Sequentially e ∷ definitions) = (tt, constants_written (suc c) definitions)
constants_written c (Compoundly shape ∷ definitions) = constants_written (suc c) definitions

leaves_written : (definitions : List Definition) (system : Shape) → AllByRecursion HasWrittenDefinition definitions → HasWrittenShape system
    → AllByRecursion HasWrittenRates (leaves_of definitions system)
leaves_written definitions system h k =
    let constants : List Expression = sequential_constants 0 definitions in
    let bodies : List Expression = flat_map components_defined definitions in
    all_once HasWrittenRates same_expression (constants ++ (bodies ++ components system))
    (all_append HasWrittenRates constants (bodies ++ components system) (constants_written 0 definitions)
    (all_append HasWrittenRates bodies (components system) (all_flat_map HasWrittenRates HasWrittenDefinition components_defined defined_written definitions h) (components_written system k)))

leaf_written : (m : PepaModel) → IsModel m → (number : ℕ) (e : Expression) → slice_get m.leaves number ≡ Some e → HasWrittenRates e
leaf_written m sound number e is =
    subst HasWrittenRates (get_or_from_slice_get m.leaves number e (Const 0) is)
    (or_default HasWrittenRates m.leaves (Const 0)
    (subst (AllByRecursion HasWrittenRates) (sym sound.numbered.leaves_by_place)
    (leaves_written m.bodies m.system (all_from_slice HasWrittenDefinition m.bodies sound.spelled.bodies) sound.spelled.system))
    tt number)

-- ---- opened leaves and states

written_proper : (r : Rate) → IsWrittenRate r → IsProper (fraction_of r)
written_proper (Active q) h = h
written_proper (Passive q) h = h.0

module _ (m : PepaModel) (sound : IsModel m) where
  proper_opened : (e : Expression) (o : Opened) → HasWrittenRates e → Opens m.bodies e o → HasProperPrefixes o
  proper_opened e (OpenPrefix a r next) h is = written_proper r (subst HasWrittenRates is h).0
  proper_opened e (OpenChoice p q) h (x, y, is, opens_x, opens_y) =
      let both : HasWrittenRates x × HasWrittenRates y = subst HasWrittenRates is h in
      (proper_opened x p both.0 opens_x, proper_opened y q both.1 opens_y)
  proper_opened e (OpenConst c p) h (is, (body, defined, opens)) = proper_opened body p (sound.spelled.bodies c (Sequentially body) defined) opens

  pub proper_state : (state : State) (x : TermNode) (tree : OpenState) → NodeStandsFor m state x → OpensState m.bodies state tree → HasProperRates tree
  proper_state (AtLeaf e) (LeafNode number) (LeafOpen o) stands opens = proper_opened e o (leaf_written m sound number e stands) opens
  proper_state (Cooperating p q set) (CoopNode x y number) (CoopOpen s t other) (of_x, of_y, is) (opens_s, opens_t, same) = (proper_state p x s of_x opens_s, proper_state q y t of_y opens_t)
  proper_state (Hiding p set) (HideNode x number) (HideOpen s other) (of_x, is) (opens_s, same) = proper_state p x s of_x opens_s
  proper_state (AtLeaf e) (LeafNode number) (CoopOpen s t other) stands opens = absurd opens
  proper_state (AtLeaf e) (LeafNode number) (HideOpen s other) stands opens = absurd opens
  proper_state (Cooperating p q set) (CoopNode x y number) (LeafOpen o) stands opens = absurd opens
  proper_state (Cooperating p q set) (CoopNode x y number) (HideOpen s other) stands opens = absurd opens
  proper_state (Hiding p set) (HideNode x number) (LeafOpen o) stands opens = absurd opens
  proper_state (Hiding p set) (HideNode x number) (CoopOpen s t other) stands opens = absurd opens
  proper_state state x tree stands opens = absurd stands
