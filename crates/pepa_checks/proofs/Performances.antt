-- What leaves perform is what their opened expressions do.
use Rattle.std.proofs.Common.{◌≡◌, ℕ, ◌<◌, Bool, true, false, ◌||◌, List, [], ◌∷◌, ◌++◌, map, length, get_or, set, refl, sym, ◌∙◌, ap, subst, arith, Some, append-nil}
use Rattle.std.specs.Prelude.{slice_get, slice_index_or}
use Rattle.std.specs.List.{Contains}
use Rattle.std.proofs.lemmas.Bool.{false≢true}
use Rattle.std.proofs.lemmas.List.{map-append, get_or_default}
use Rattle.std.proofs.lemmas.List.Concat.{flat_map-append}
use Rattle.std.proofs.lemmas.List.Elements.{Contains-append_left, Contains-append_right, Contains-push}
use Rattle.std.proofs.lemmas.Option.{slice_get_within, slice_get-get_or, get_or_from_slice_get}
use Rattle.pepa_rates.specs.declared.rate.Rate.{Rate}
use Rattle.pepa_model.specs.declared.term.Activity.{Activity}
use Rattle.pepa_model.specs.Expression.{Expression, Const, Prefixed, Chosen, Sequentially, Defines}
use Rattle.pepa_model.specs.Opened.{Opened, OpenPrefix, OpenChoice, OpenConst, Opens, moves}
use Rattle.pepa_resolver.specs.Named.{Named, NamedConstant, NamedPrefix, NamedChoice, NamedCoop, NamedHide, unguarded}
use Rattle.pepa_checks.specs.Structure.{has_system}
use Rattle.node_orders.specs.Graphs.{SaysYes}
use Rattle.pepa_checks.specs.declared.summand.Performed.{Performed}
use Rattle.pepa_checks.specs.declared.summand.Summand.{Summand}
use Rattle.pepa_checks.specs.Outline.{Outline, expression_in, definition_in, definitions_in}
use Rattle.pepa_checks.specs.Activities.{leaf_number, activity_in, activities_in, sites, IsFirstWritten}
use Rattle.pepa_checks.specs.Summands.{summands_in, leaf_summands, IsPerformed, IsPerformedBy}
use Rattle.pepa_checks.specs.ActivityLists.{LeafChoices, choices_outline, written, constant_list, performed_by, performed_in}
use Rattle.pepa_checks.proofs.SizeCounting.{defined_by}
use Rattle.pepa_checks.proofs.ProcessKinds.{plain_written, plain_body}

abbrev act : Performed → Activity
act p = p.activity

abbrev at_of : Performed → ℕ
at_of p = p.at

or_left : (a b : Bool) → (a || b) ≡ false → a ≡ false
or_left true b h = absurd (false≢true (sym h))
or_left false b h = refl

or_right : (a b : Bool) → (a || b) ≡ false → b ≡ false
or_right true b h = absurd (false≢true (sym h))
or_right false b h = h

-- ---- a process

-- the process whose operands a leaf has
abbrev pub chooser : List Named → Named → Named
chooser bodies (NamedConstant at c) = slice_index_or bodies c (NamedConstant at c)
chooser bodies process = process

chooser_summands : (leaves : List Expression) (bodies : List Named) (process : Named) → leaf_summands leaves bodies process ≡ summands_in leaves (chooser bodies process)
chooser_summands leaves bodies (NamedConstant at c) = refl
chooser_summands leaves bodies (NamedPrefix at action rate next) = refl
chooser_summands leaves bodies (NamedChoice left right) = refl
chooser_summands leaves bodies (NamedCoop left right set) = refl
chooser_summands leaves bodies (NamedHide inner set) = refl

abbrev activity_of : ℕ → Rate → ℕ → Activity
activity_of a r n = record { action = a; rate = r; target = n }

chooser_other : (bodies : List Named) (process : Named) → ((c : ℕ) → expression_in process ≡ Const c → ⊥) → chooser bodies process ≡ process
chooser_other bodies (NamedConstant at c) other = absurd (other c refl)
chooser_other bodies (NamedPrefix at action rate next) other = refl
chooser_other bodies (NamedChoice left right) other = refl
chooser_other bodies (NamedCoop left right set) other = absurd (other 0 refl)
chooser_other bodies (NamedHide inner set) other = absurd (other 0 refl)

-- an activity of a prefix
same_activity : (leaves : List Expression) (a b : ℕ) (r s : Rate) (x y : Expression) → Prefixed a r x ≡ Prefixed b s y
    → activity_of a r (leaf_number leaves x) ≡ activity_in leaves (record { action = b; signals = 0; rate = s; target = y })
same_activity leaves a b r s x y is =
    let e1 : a ≡ b = cc in
    let e2 : r ≡ s = cc in
    let e3 : x ≡ y = cc in
    ap (λ n. activity_of n r (leaf_number leaves x)) e1 ∙ (ap (λ q. activity_of b q (leaf_number leaves x)) e2 ∙ ap (λ z. activity_of b s (leaf_number leaves z)) e3)

module _ (choices_outline : Outline) (bodies : List Named) (within : (c : ℕ) (e : Expression) → Defines choices_outline.definitions c e → c < length bodies) (constants : List ℕ) (lists : List (List Performed)) where
  -- the list of the constant is what it performs
  record Answers (d : ℕ) (opened : Opened) : Type 0 where
    activities : map act (constant_list constants lists d) ≡ activities_in choices_outline.leaves opened
    places : map at_of (constant_list constants lists d) ≡ sites bodies (NamedConstant 0 d) opened

  same_sites : (at d : ℕ) (opened : Opened) → Opens choices_outline.definitions (Const d) opened → sites bodies (NamedConstant 0 d) opened ≡ sites bodies (NamedConstant at d) opened
  same_sites at d (OpenPrefix a r next) is = absurd cc
  same_sites at d (OpenChoice p q) (x, y, is, first, second) = absurd cc
  same_sites at d (OpenConst e p) (is, (body, defined, rest)) =
      let same : d ≡ e = cc in
      let low : d < length bodies = subst (λ n. n < length bodies) (sym same) (within e body defined) in
      ap (λ (b : Named). sites bodies b p) (get_or_default bodies d (NamedConstant 0 d) (NamedConstant at d) low)

  answered : (process : Named) (opened : Opened) → has_system process ≡ false → Opens choices_outline.definitions (expression_in process) opened
      → ((d : ℕ) (q : Opened) → Contains (unguarded process) d → Opens choices_outline.definitions (Const d) q → Answers d q)
      → IsPerformed choices_outline bodies process opened (performed_in constants lists (summands_in choices_outline.leaves process))
  answered (NamedConstant at c) opened plain opens answers =
      let list = constant_list constants lists c in
      let known = answers c opened (Contains-push [] c) opens in
      record {
        activities = ap (map act) (append-nil list) ∙ known.activities;
        places = ap (map at_of) (append-nil list) ∙ (known.places ∙ same_sites at c opened opens);
      }
  answered (NamedPrefix at action rate next) (OpenPrefix a r e) plain is answers = record {
    activities = ap (λ (x : Activity). x ∷ []) (same_activity choices_outline.leaves action a rate r (expression_in next) e is);
    places = refl;
  }
  answered (NamedPrefix at action rate next) (OpenChoice p q) plain (x, y, is, first, second) answers = absurd cc
  answered (NamedPrefix at action rate next) (OpenConst c p) plain (is, rest) answers = absurd cc
  answered (NamedChoice left right) (OpenPrefix a r e) plain is answers = absurd cc
  answered (NamedChoice left right) (OpenChoice p q) plain (x, y, is, first, second) answers =
      let f = performed_by constants lists in
      let leaves = choices_outline.leaves in
      let e1 : x ≡ expression_in left = cc in
      let e2 : y ≡ expression_in right = cc in
      let before = answered left p (or_left (has_system left) (has_system right) plain) (subst (λ z. Opens choices_outline.definitions z p) e1 first)
      (λ d o among. answers d o (Contains-append_left (unguarded left) (unguarded right) d among)) in
      let behind = answered right q (or_right (has_system left) (has_system right) plain) (subst (λ z. Opens choices_outline.definitions z q) e2 second)
      (λ d o among. answers d o (Contains-append_right (unguarded left) (unguarded right) d among)) in
      let split = flat_map-append f (summands_in leaves left) (summands_in leaves right) in
      let one = performed_in constants lists (summands_in leaves left) in
      let two = performed_in constants lists (summands_in leaves right) in
      record {
        activities = ap (map act) split ∙ (map-append act one two ∙ (ap (λ (xs : List Activity). xs ++ map act two) before.activities
            ∙ (ap (λ (xs : List Activity). activities_in leaves p ++ xs) behind.activities ∙ sym (map-append (activity_in leaves) (moves p) (moves q)))));
        places = ap (map at_of) split ∙ (map-append at_of one two ∙ (ap (λ (xs : List ℕ). xs ++ map at_of two) before.places
            ∙ ap (λ (xs : List ℕ). sites bodies left p ++ xs) behind.places));
      }
  answered (NamedChoice left right) (OpenConst c p) plain (is, rest) answers = absurd cc
  answered (NamedCoop left right set) opened plain opens answers = absurd (false≢true (sym plain))
  answered (NamedHide inner set) opened plain opens answers = absurd (false≢true (sym plain))

-- ---- sequential constants

-- what a sequential constant stands for
record IsDefined (compounds : List Bool) (bodies : List Named) (c : ℕ) (e : Expression) : Type 0 where
  flag_is : slice_get compounds c ≡ Some false
  body : Named
  body_is : slice_get bodies c ≡ Some body
  expression_is : e ≡ expression_in body

sequential_definition : (compounds : List Bool) (sets : List (List ℕ)) (flag : Bool) (body : Named) (e : Expression) → Sequentially e ≡ definition_in compounds sets flag body → (flag ≡ false) × (e ≡ expression_in body)
sequential_definition compounds sets true body e is = absurd cc
sequential_definition compounds sets false body e is = (refl, cc)

is_defined : (compounds : List Bool) (sets : List (List ℕ)) (bodies : List Named) (c : ℕ) (e : Expression) → Defines (definitions_in compounds sets compounds bodies) c e → IsDefined compounds bodies c e
is_defined compounds sets bodies c e defined =
    let by = defined_by compounds sets compounds bodies c (Sequentially e) defined in
    let (flag_is, expression_is) = sequential_definition compounds sets by.flag by.body e by.definition_is in
    record { flag_is = by.flag_is ∙ ap Some flag_is; body = by.body; body_is = by.body_is; expression_is = expression_is }

-- ---- lists of leaves

module _ (compounds : List Bool) (order constants : List ℕ) (leaves : List (List Summand)) (choices : LeafChoices compounds order constants leaves) where
  abbrev file : Outline
  file = choices_outline choices

  -- the list of the leaf is what it performs
  abbrev pub IsSoundAt : List (List Performed) → ℕ → Type 0
  IsSoundAt lists number = (leaf : Expression) (list : List Performed) → slice_get file.leaves number ≡ Some leaf → slice_get lists number ≡ Some list
      → IsPerformedBy file choices.bodies (written choices) leaf list

  abbrev pub AreSound : List Bool → List (List Performed) → Type 0
  AreSound made lists = (number : ℕ) → SaysYes made number → IsSoundAt lists number

  within_bodies : (c : ℕ) (e : Expression) → Defines file.definitions c e → c < length choices.bodies
  within_bodies c e defined =
      let by = is_defined compounds choices.sets choices.bodies c e defined in
      slice_get_within choices.bodies c by.body by.body_is

  pub constant_leaf : (d : ℕ) → slice_get compounds d ≡ Some false → slice_get file.leaves (get_or constants d 0) ≡ Some (Const d)
  constant_leaf d flag_is =
      let low : d < length constants = let h = slice_get_within compounds d false flag_is in let e = choices.constant_leaves.one_each in omega arith in
      choices.constant_leaves.each d (get_or constants d 0) flag_is (slice_get-get_or constants d 0 low)

  -- a constant whose list is made
  answers_made : (made : List Bool) (lists : List (List Performed)) → AreSound made lists → length lists ≡ length leaves
      → (d : ℕ) (q : Opened) → Opens file.definitions (Const d) q → (slice_get compounds d ≡ Some false → SaysYes made (get_or constants d 0))
      → Answers file choices.bodies within_bodies constants lists d q
  answers_made made lists sound sizes d (OpenPrefix a r next) is ready = absurd cc
  answers_made made lists sound sizes d (OpenChoice p q) (x, y, is, first, second) ready = absurd cc
  answers_made made lists sound sizes d (OpenConst c p) (is, (e, defined, rest)) ready =
      let same : d ≡ c = cc in
      let defined_here = subst (λ n. Defines file.definitions n e) (sym same) defined in
      let by = is_defined compounds choices.sets choices.bodies d e defined_here in
      let number = get_or constants d 0 in
      let leaf_is = constant_leaf d by.flag_is in
      let low : number < length lists = let h = slice_get_within file.leaves number (Const d) leaf_is in let e1 = choices.operands.one_each in omega arith in
      let performed = sound number (ready by.flag_is) (Const d) (get_or lists number []) leaf_is (slice_get-get_or lists number [] low) in
      let known = performed.performed (OpenConst c p) (is, (e, defined, rest)) in
      record {
        activities = known.activities;
        places = known.places ∙ ap (λ (b : Named). sites choices.bodies b (OpenConst c p)) performed.first_written;
      }

  -- the constants that stand in what the leaf chooses between are made
  abbrev pub IsReadyFor : List Bool → Expression → Type 0
  IsReadyFor made leaf = (process : Named) → IsFirstWritten (written choices) leaf process → (d : ℕ) → Contains (unguarded (chooser choices.bodies process)) d
      → slice_get compounds d ≡ Some false → SaysYes made (get_or constants d 0)

  module _ (made : List Bool) (lists : List (List Performed)) (sound : AreSound made lists) (sizes : length lists ≡ length leaves) where
    -- a leaf that is a constant
    constant_performs : (c : ℕ) (process : Named) (opened : Opened) → process ≡ NamedConstant 0 c → Opens file.definitions (Const c) opened
        → ((d : ℕ) → Contains (unguarded (chooser choices.bodies process)) d → slice_get compounds d ≡ Some false → SaysYes made (get_or constants d 0))
        → IsPerformed file choices.bodies process opened (performed_in constants lists (leaf_summands file.leaves choices.bodies process))
    constant_performs c process (OpenPrefix a r next) process_is is ready = absurd cc
    constant_performs c process (OpenChoice p q) process_is (x, y, is, first, second) ready = absurd cc
    constant_performs c process (OpenConst b p) process_is (is, (e, defined, rest)) ready =
        let same : c ≡ b = cc in
        let defined_here = subst (λ n. Defines file.definitions n e) (sym same) defined in
        let by = is_defined compounds choices.sets choices.bodies c e defined_here in
        let body_read : get_or choices.bodies c (NamedConstant 0 c) ≡ by.body = get_or_from_slice_get choices.bodies c by.body (NamedConstant 0 c) by.body_is in
        let chosen : chooser choices.bodies process ≡ by.body = ap (chooser choices.bodies) process_is ∙ body_read in
        let plain = plain_body compounds choices.bodies c by.body choices.table by.flag_is by.body_is in
        let known = answered file choices.bodies within_bodies constants lists by.body p plain (subst (λ z. Opens file.definitions z p) by.expression_is rest)
        (λ d q among opens. answers_made made lists sound sizes d q opens (λ flag_is. ready d (subst (λ (x : Named). Contains (unguarded x) d) (sym chosen) among) flag_is)) in
        let operands = ap (performed_in constants lists) (chooser_summands file.leaves choices.bodies process ∙ ap (summands_in file.leaves) chosen) in
        record {
          activities = ap (map act) operands ∙ known.activities;
          places = ap (map at_of) operands ∙ (known.places ∙ sym (ap (λ (x : Named). sites choices.bodies x (OpenConst b p)) process_is ∙ ap (λ (x : Named). sites choices.bodies x p) body_read));
        }

    -- another leaf
    process_performs : (process : Named) (opened : Opened) → ((c : ℕ) → expression_in process ≡ Const c → ⊥) → Contains (written choices) process → Opens file.definitions (expression_in process) opened
        → ((d : ℕ) → Contains (unguarded (chooser choices.bodies process)) d → slice_get compounds d ≡ Some false → SaysYes made (get_or constants d 0))
        → IsPerformed file choices.bodies process opened (performed_in constants lists (leaf_summands file.leaves choices.bodies process))
    process_performs process opened other among opens ready =
        let plain = plain_written compounds choices.bodies choices.system choices.sequential process among in
        let chosen = chooser_other choices.bodies process other in
        let known = answered file choices.bodies within_bodies constants lists process opened plain opens
        (λ d q inside opens_d. answers_made made lists sound sizes d q opens_d (λ flag_is. ready d (subst (λ (x : Named). Contains (unguarded x) d) (sym chosen) inside) flag_is)) in
        let operands = ap (performed_in constants lists) (chooser_summands file.leaves choices.bodies process ∙ ap (summands_in file.leaves) chosen) in
        record {
          activities = ap (map act) operands ∙ known.activities;
          places = ap (map at_of) operands ∙ known.places;
        }

    contains_between : (before behind whole : List Named) (process : Named) → whole ≡ before ++ process ∷ behind → Contains whole process
    contains_between before behind whole process is =
        subst (λ xs. Contains xs process) (sym is) (Contains-append_right before (process ∷ behind) process (Contains-append_left (process ∷ []) behind process (Contains-push [] process)))

    leaf_performs : (leaf : Expression) (process : Named) (opened : Opened) → IsFirstWritten (written choices) leaf process → Opens file.definitions leaf opened
        → ((d : ℕ) → Contains (unguarded (chooser choices.bodies process)) d → slice_get compounds d ≡ Some false → SaysYes made (get_or constants d 0))
        → IsPerformed file choices.bodies process opened (performed_in constants lists (leaf_summands file.leaves choices.bodies process))
    leaf_performs (Const c) process opened process_is opens ready = constant_performs c process opened process_is opens ready
    leaf_performs (Prefixed a r next) process opened (before, behind, whole, is, first) opens ready =
        process_performs process opened (λ c constant. let e = is in absurd cc) (contains_between before behind (written choices) process whole) (subst (λ z. Opens file.definitions z opened) (sym is) opens) ready
    leaf_performs (Chosen x y) process opened (before, behind, whole, is, first) opens ready =
        process_performs process opened (λ c constant. let e = is in absurd cc) (contains_between before behind (written choices) process whole) (subst (λ z. Opens file.definitions z opened) (sym is) opens) ready

    -- the list of a leaf from its operands
    pub performs : (number : ℕ) (leaf : Expression) (operands : List Summand) → slice_get file.leaves number ≡ Some leaf → slice_get leaves number ≡ Some operands → IsReadyFor made leaf
        → IsPerformedBy file choices.bodies (written choices) leaf (performed_in constants lists operands)
    performs number leaf operands leaf_is operands_are ready =
        let known = choices.operands.each number leaf operands leaf_is operands_are in
        record {
          process = known.process;
          first_written = known.first_written;
          performed = λ opened opens. subst (λ (xs : List Summand). IsPerformed file choices.bodies known.process opened (performed_in constants lists xs)) (sym known.are)
              (leaf_performs leaf known.process opened known.first_written opens (ready known.process known.first_written));
        }
