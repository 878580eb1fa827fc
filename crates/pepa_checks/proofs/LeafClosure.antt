-- What follows a leaf's activities is a leaf, and what holds of the expressions of a model holds of its leaves.
use Rattle.std.proofs.Common.{◌≡◌, ℕ, zero, suc, ◌+◌, ◌<◌, List, [], ◌∷◌, ◌++◌, map, flat_map, length, Some, slice_get, inl, inr, refl, sym, ap, ◌∙◌, subst, arith}
use Rattle.std.specs.List.{Contains, AllByRecursion, AllZip}
use Rattle.std.proofs.lemmas.List.Elements.{Contains-append_left, Contains-append_right, Contains-append_cases}
use Rattle.pepa_model.specs.Expression.{Expression, Const, Prefixed, Chosen, Shape, LeafShape, ConstShape, CoopShape, HideShape, Definition, Sequentially, Compoundly}
use Rattle.pepa_model.specs.Derivation.{Transition}
use Rattle.pepa_model.specs.Opened.{Opened, OpenPrefix, OpenChoice, OpenConst, Opens, moves}
use Rattle.pepa_model.specs.Leaves.{same_expression, followers, components, components_defined, sequential_constants, leaves_of}
use Rattle.pepa_model.specs.PepaModel.{PepaModel, StandsForTransition, IsNamed}
use Rattle.pepa_model.specs.declared.term.Activity.{Activity}
use Rattle.node_orders.proofs.Elements.{no_element, contains_here, contains_there, contains_cases, contains_from_get}
use Rattle.pepa_checks.specs.Activities.{leaf_number, activity_in, activities_in}
use Rattle.pepa_checks.proofs.LeafProcesses.{once_from}
use Rattle.pepa_model.proofs.DistinctLeaves.{same_expression-Decides}
use Rattle.pepa_checks.proofs.LeafNumbers.{once_keeps, leaf_stands}

-- ---- what follows what follows

followers_closed : (e f g : Expression) → Contains (followers e) f → Contains (followers f) g → Contains (followers e) g
followers_closed (Const c) f g h k = absurd (no_element f h)
followers_closed (Prefixed a r next) f g h k =
    elim (contains_cases next (followers next) f h) [
      | inl e ↦ contains_there next (followers next) g (subst (λ (x : Expression). Contains (followers x) g) (sym e) k)
      | inr there ↦ contains_there next (followers next) g (followers_closed next f g there k)
    ]
followers_closed (Chosen x y) f g h k =
    elim (Contains-append_cases (followers x) (followers y) f h) [
      | inl there ↦ Contains-append_left (followers x) (followers y) g (followers_closed x f g there k)
      | inr there ↦ Contains-append_right (followers x) (followers y) g (followers_closed y f g there k)
    ]

components_closed : (shape : Shape) (f g : Expression) → Contains (components shape) f → Contains (followers f) g → Contains (components shape) g
components_closed (LeafShape e) f g h k =
    elim (contains_cases e (followers e) f h) [
      | inl is ↦ contains_there e (followers e) g (subst (λ (x : Expression). Contains (followers x) g) (sym is) k)
      | inr there ↦ contains_there e (followers e) g (followers_closed e f g there k)
    ]
components_closed (ConstShape c) f g h k = absurd (no_element f h)
components_closed (CoopShape x y set) f g h k =
    elim (Contains-append_cases (components x) (components y) f h) [
      | inl there ↦ Contains-append_left (components x) (components y) g (components_closed x f g there k)
      | inr there ↦ Contains-append_right (components x) (components y) g (components_closed y f g there k)
    ]
components_closed (HideShape x set) f g h k = components_closed x f g h k

defined_closed : (definition : Definition) (f g : Expression) → Contains (components_defined definition) f → Contains (followers f) g → Contains (components_defined definition) g
defined_closed (Sequentially e) f g h k = followers_closed e f g h k
defined_closed (Compoundly shape) f g h k = components_closed shape f g h k

all_closed : (definitions : List Definition) (f g : Expression) → Contains (flat_map components_defined definitions) f → Contains (followers f) g → Contains (flat_map components_defined definitions) g
all_closed [] f g h k = absurd (no_element f h)
all_closed (d ∷ definitions) f g h k =
    elim (Contains-append_cases (components_defined d) (flat_map components_defined definitions) f h) [
      | inl there ↦ Contains-append_left (components_defined d) (flat_map components_defined definitions) g (defined_closed d f g there k)
      | inr there ↦ Contains-append_right (components_defined d) (flat_map components_defined definitions) g (all_closed definitions f g there k)
    ]

-- nothing follows a constant
constants_end : (n : ℕ) (definitions : List Definition) (f g : Expression) → Contains (sequential_constants n definitions) f → Contains (followers f) g → ⊥
constants_end n [] f g h k = no_element f h
constants_end n (Sequentially e ∷ definitions) f g h k =
    elim (contains_cases (Const n) (sequential_constants (suc n) definitions) f h) [
      | inl is ↦ no_element g (subst (λ (x : Expression). Contains (followers x) g) (sym is) k)
      | inr there ↦ constants_end (suc n) definitions f g there k
    ]
constants_end n (Compoundly shape ∷ definitions) f g h k = constants_end (suc n) definitions f g h k

-- ---- leaves

-- the leaves, each as often as it is written
abbrev pub all_leaves : List Definition → Shape → List Expression
all_leaves definitions system = sequential_constants 0 definitions ++ (flat_map components_defined definitions ++ components system)

module _ (definitions : List Definition) (system : Shape) where
  abbrev leaves : List Expression
  leaves = leaves_of definitions system

  pub leaf_from : (e : Expression) → Contains leaves e → Contains (all_leaves definitions system) e
  leaf_from e h = once_from same_expression (all_leaves definitions system) e h

  pub leaf_to : (e : Expression) → Contains (all_leaves definitions system) e → Contains leaves e
  leaf_to e h = once_keeps same_expression same_expression-Decides (all_leaves definitions system) e h

  pub component_leaf : (e : Expression) → Contains (components system) e → Contains leaves e
  component_leaf e h = leaf_to e (Contains-append_right (sequential_constants 0 definitions) (flat_map components_defined definitions ++ components system) e (Contains-append_right (flat_map components_defined definitions) (components system) e h))

  pub defined_leaf : (definition : Definition) (c : ℕ) (e : Expression) → slice_get definitions c ≡ Some definition → Contains (components_defined definition) e → Contains leaves e
  defined_leaf definition c e is h =
      leaf_to e (Contains-append_right (sequential_constants 0 definitions) (flat_map components_defined definitions ++ components system) e
      (Contains-append_left (flat_map components_defined definitions) (components system) e (among definitions c is)))
    where
      among : (ds : List Definition) (c : ℕ) → slice_get ds c ≡ Some definition → Contains (flat_map components_defined ds) e
      among [] c is = absurd cc
      among (d ∷ ds) zero is =
          let same : d ≡ definition = cc in
          Contains-append_left (components_defined d) (flat_map components_defined ds) e (subst (λ (x : Definition). Contains (components_defined x) e) (sym same) h)
      among (d ∷ ds) (suc c) is = Contains-append_right (components_defined d) (flat_map components_defined ds) e (among ds c is)

  -- what follows a leaf's activities is a leaf
  pub leaves_closed : (f g : Expression) → Contains leaves f → Contains (followers f) g → Contains leaves g
  leaves_closed f g h k =
      let rest = flat_map components_defined definitions ++ components system in
      leaf_to g (elim (Contains-append_cases (sequential_constants 0 definitions) rest f (leaf_from f h)) [
        | inl constant ↦ absurd (constants_end 0 definitions f g constant k)
        | inr other ↦ Contains-append_right (sequential_constants 0 definitions) rest g
            (elim (Contains-append_cases (flat_map components_defined definitions) (components system) f other) [
              | inl there ↦ Contains-append_left (flat_map components_defined definitions) (components system) g (all_closed definitions f g there k)
              | inr there ↦ Contains-append_right (flat_map components_defined definitions) (components system) g (components_closed system f g there k)
            ])
      ])

  -- ---- the transitions of a leaf lead to leaves

  record LeadsToLeaf (t : Transition) : Type 0 where
    no_signals : t.signals ≡ 0
    next : Expression
    target : t.target ≡ next
    is_leaf : Contains leaves next

  moves_append : (P : Transition → Type 0) (ts us : List Transition) → AllByRecursion P ts → AllByRecursion P us → AllByRecursion P (ts ++ us)
  moves_append P [] us h k = k
  moves_append P (t ∷ ts) us h k = (h.0, moves_append P ts us h.1 k)

  lead_to_leaves : (e : Expression) (opened : Opened) → Opens definitions e opened → ((f : Expression) → Contains (followers e) f → Contains leaves f) → AllByRecursion LeadsToLeaf (moves opened)
  lead_to_leaves e (OpenPrefix a r next) opens each =
      (record { no_signals = refl; next = next; target = refl; is_leaf = each next (subst (λ (x : Expression). Contains (followers x) next) (sym opens) (contains_here next (followers next))) }, tt)
  lead_to_leaves e (OpenChoice p q) opens each =
      let x = opens.0 in
      let y = opens.1 in
      moves_append LeadsToLeaf (moves p) (moves q)
      (lead_to_leaves x p opens.3 (λ f h. each f (subst (λ (z : Expression). Contains (followers z) f) (sym opens.2) (Contains-append_left (followers x) (followers y) f h))))
      (lead_to_leaves y q opens.4 (λ f h. each f (subst (λ (z : Expression). Contains (followers z) f) (sym opens.2) (Contains-append_right (followers x) (followers y) f h))))
  lead_to_leaves e (OpenConst c p) opens each =
      lead_to_leaves opens.1.0 p opens.1.2 (λ f h. defined_leaf (Sequentially opens.1.0) c f opens.1.1 h)

  stands_for : (t : Transition) → LeadsToLeaf t → StandsForTransition leaves (activity_in leaves t) t
  stands_for t leads = record {
    action = refl;
    signals = leads.no_signals;
    rate = refl;
    next = leads.next;
    numbered = ap (λ (x : Expression). slice_get leaves (leaf_number leaves x)) leads.target ∙ leaf_stands leaves leads.next leads.is_leaf;
    target = leads.target;
  }

  stand_all : (ts : List Transition) → AllByRecursion LeadsToLeaf ts → AllZip (StandsForTransition leaves) (map (activity_in leaves) ts) ts
  stand_all [] h = tt
  stand_all (t ∷ ts) h = (stands_for t h.0, stand_all ts h.1)

  -- the activities of a leaf stand for its transitions
  pub activities_stand : (number : ℕ) (e : Expression) (opened : Opened) → slice_get leaves number ≡ Some e → Opens definitions e opened → AllZip (StandsForTransition leaves) (activities_in leaves opened) (moves opened)
  activities_stand number e opened is opens =
      stand_all (moves opened) (lead_to_leaves e opened opens (λ f h. leaves_closed e f (contains_from_get leaves number e is) h))

-- ---- the numbers in leaves are the model's

module _ (m : PepaModel) where
  followers_named : (e f : Expression) → IsNamed m e → Contains (followers e) f → IsNamed m f
  followers_named (Const c) f named h = absurd (no_element f h)
  followers_named (Prefixed a r next) f named h =
      elim (contains_cases next (followers next) f h) [
        | inl is ↦ subst (IsNamed m) is named.1
        | inr there ↦ followers_named next f named.1 there
      ]
  followers_named (Chosen x y) f named h =
      elim (Contains-append_cases (followers x) (followers y) f h) [
        | inl there ↦ followers_named x f named.0 there
        | inr there ↦ followers_named y f named.1 there
      ]

  -- the numbers in a system's components are the model's
  abbrev pub IsNamedShape : Shape → Type 0
  IsNamedShape (LeafShape e) = IsNamed m e
  IsNamedShape (ConstShape c) = Unit {0}
  IsNamedShape (CoopShape x y set) = IsNamedShape x × IsNamedShape y
  IsNamedShape (HideShape x set) = IsNamedShape x

  components_named : (shape : Shape) (f : Expression) → IsNamedShape shape → Contains (components shape) f → IsNamed m f
  components_named (LeafShape e) f named h =
      elim (contains_cases e (followers e) f h) [ inl is ↦ subst (IsNamed m) is named | inr there ↦ followers_named e f named there ]
  components_named (ConstShape c) f named h = absurd (no_element f h)
  components_named (CoopShape x y set) f named h =
      elim (Contains-append_cases (components x) (components y) f h) [
        | inl there ↦ components_named x f named.0 there
        | inr there ↦ components_named y f named.1 there
      ]
  components_named (HideShape x set) f named h = components_named x f named h

  abbrev pub IsNamedDefinition : Definition → Type 0
  IsNamedDefinition (Sequentially e) = IsNamed m e
  IsNamedDefinition (Compoundly shape) = IsNamedShape shape

  defined_named : (definition : Definition) (f : Expression) → IsNamedDefinition definition → Contains (components_defined definition) f → IsNamed m f
  defined_named (Sequentially e) f named h = followers_named e f named h
  defined_named (Compoundly shape) f named h = components_named shape f named h

  all_named : (definitions : List Definition) (f : Expression) → ((d : Definition) → Contains definitions d → IsNamedDefinition d) → Contains (flat_map components_defined definitions) f → IsNamed m f
  all_named [] f named h = absurd (no_element f h)
  all_named (d ∷ definitions) f named h =
      elim (Contains-append_cases (components_defined d) (flat_map components_defined definitions) f h) [
        | inl there ↦ defined_named d f (named d (contains_here d definitions)) there
        | inr there ↦ all_named definitions f (λ x among. named x (contains_there d definitions x among)) there
      ]

  constants_named : (n : ℕ) (definitions : List Definition) (f : Expression) → ((c : ℕ) → c < length definitions → IsNamed m (Const (n + c))) → Contains (sequential_constants n definitions) f → IsNamed m f
  constants_named n [] f named h = absurd (no_element f h)
  constants_named n (Sequentially e ∷ definitions) f named h =
      let zero_more : n + 0 ≡ n = omega arith in
      elim (contains_cases (Const n) (sequential_constants (suc n) definitions) f h) [
        | inl is ↦ subst (IsNamed m) is (subst (λ (k : ℕ). IsNamed m (Const k)) zero_more (named 0 (omega arith)))
        | inr there ↦ constants_named (suc n) definitions f (λ c lt. let e : n + suc c ≡ suc n + c = omega arith in subst (λ (k : ℕ). IsNamed m (Const k)) e (named (suc c) (omega arith))) there
      ]
  constants_named n (Compoundly shape ∷ definitions) f named h =
      constants_named (suc n) definitions f (λ c lt. let e : n + suc c ≡ suc n + c = omega arith in subst (λ (k : ℕ). IsNamed m (Const k)) e (named (suc c) (omega arith))) h

  module _ (definitions : List Definition) (system : Shape) (one_each : length definitions ≡ length m.constants) (named : (d : Definition) → Contains definitions d → IsNamedDefinition d) (named_system : IsNamedShape system) where
    pub leaf_named : (e : Expression) → Contains (leaves_of definitions system) e → IsNamed m e
    leaf_named e h =
        let rest = flat_map components_defined definitions ++ components system in
        elim (Contains-append_cases (sequential_constants 0 definitions) rest e (leaf_from definitions system e h)) [
          | inl there ↦ constants_named 0 definitions e (λ c lt. let k : 0 + c ≡ c = omega arith in subst (λ (n : ℕ). n < length m.constants) (sym k) (omega arith)) there
          | inr other ↦ elim (Contains-append_cases (flat_map components_defined definitions) (components system) e other) [
            | inl there ↦ all_named definitions e named there
            | inr there ↦ components_named system e named_system there
          ]
        ]

    -- so are the action types of its transitions
    moves_known : (e : Expression) (opened : Opened) → Opens definitions e opened → IsNamed m e → AllByRecursion (λ (t : Transition). t.action < length m.actions) (moves opened)
    moves_known e (OpenPrefix a r next) opens is = ((subst (IsNamed m) opens is).0, tt)
    moves_known e (OpenChoice p q) opens is =
        let both = subst (IsNamed m) opens.2 is in
        moves_append definitions system (λ (t : Transition). t.action < length m.actions) (moves p) (moves q) (moves_known opens.0 p opens.3 both.0) (moves_known opens.1 q opens.4 both.1)
    moves_known e (OpenConst c p) opens is =
        moves_known opens.1.0 p opens.1.2 (named (Sequentially opens.1.0) (contains_from_get definitions c (Sequentially opens.1.0) opens.1.1))

    known_map : (all : List Expression) (ts : List Transition) → AllByRecursion (λ (t : Transition). t.action < length m.actions) ts → AllByRecursion (λ (a : Activity). a.action < length m.actions) (map (activity_in all) ts)
    known_map all [] h = tt
    known_map all (t ∷ ts) h = (h.0, known_map all ts h.1)

    pub activities_known : (e : Expression) (opened : Opened) → Contains (leaves_of definitions system) e → Opens definitions e opened → AllByRecursion (λ (a : Activity). a.action < length m.actions) (activities_in (leaves_of definitions system) opened)
    activities_known e opened among opens = known_map (leaves_of definitions system) (moves opened) (moves_known e opened opens (leaf_named e among))
