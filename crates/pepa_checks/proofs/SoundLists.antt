-- The lists of leaves stay what the leaves perform, as one after another is made.
use Rattle.std.proofs.Common.{◌≡◌, ℕ, zero, suc, ◌+◌, ◌<◌, ◌≤◌, inl, inr, Bool, true, false, List, [], ◌∷◌, ◌++◌, length, get_or, set, take, drop, refl, sym, ◌∙◌, ap, subst, arith, Some, length-set, get_or-set_same, get_or-set_other, take-append-drop, Err}
use Rattle.std.specs.Prelude.{slice_get, sum_by}
use Rattle.std.specs.List.{Contains, AllZip}
use Rattle.std.proofs.lemmas.Bool.{cases_eq, false≢true}
use Rattle.std.proofs.lemmas.List.{drop_more, take_more, length-map}
use Rattle.std.proofs.lemmas.List.Elements.{Contains-push_cases}
use Rattle.std.proofs.lemmas.List.Sums.{sum_by-cons}
use Rattle.std.proofs.lemmas.Option.{slice_get_within, slice_get-get_or, slice_get_read, get_or_from_slice_get, same_Some}
use Rattle.pepa_model.specs.Expression.{Expression, Const}
use Rattle.pepa_model.specs.Opened.{Opened, Opens, moves}
use Rattle.pepa_resolver.specs.Named.{Named, NamedConstant, unguarded}
use Rattle.pepa_checks.specs.Structure.{UnguardedEdge}
use Rattle.node_orders.specs.Graphs.{SaysYes}
use Rattle.node_orders.proofs.Marks.{marked_at, marked_set, marked_kept, marked_before}
use Rattle.pepa_checks.specs.declared.summand.Performed.{Performed}
use Rattle.pepa_checks.specs.declared.summand.Summand.{Summand}
use Rattle.pepa_checks.specs.declared.activities.Lists.{Lists}
use Rattle.fault_ends.specs.declared.end.End.{End}
use Rattle.fault_ends.specs.declared.end.End.TheVariants.{Fault, Memory}
use Rattle.fault_ends.specs.Answers.{OkOrFault}
use Rattle.pepa_checks.specs.declared.over_limit.OverLimit.{OverLimit}
use Rattle.pepa_checks.specs.Outline.{Outline}
use Rattle.pepa_checks.specs.Activities.{activity_in}
use Rattle.pepa_checks.specs.Summands.{IsPerformed, IsPerformedBy, ArePerformed}
use Rattle.pepa_checks.specs.ActivityLists.{LeafChoices, choices_outline, written, OpensIntoMany, performed_in, AreSoFar, MakesList, PassesMost}
use Rattle.pepa_checks.proofs.ListsMaking.{marked_read}
use Rattle.pepa_checks.proofs.Performances.{chooser, AreSound, IsReadyFor, performs, constant_leaf}

-- ---- sums

pub sum_pointwise : {X Y : Type 0} (f : X → ℕ) (g : Y → ℕ) (xs : List X) (ys : List Y) → length xs ≡ length ys
    → ((n : ℕ) (x : X) (y : Y) → slice_get xs n ≡ Some x → slice_get ys n ≡ Some y → f x ≤ g y) → sum_by f xs ≤ sum_by g ys
sum_pointwise f g [] [] sizes each = omega arith
sum_pointwise f g [] (y ∷ ys) sizes each = absurd (omega arith)
sum_pointwise f g (x ∷ xs) [] sizes each = absurd (omega arith)
sum_pointwise f g (x ∷ xs) (y ∷ ys) sizes each =
    let first = each zero x y refl refl in
    let rest = sum_pointwise f g xs ys (omega arith) (λ n v w v_is w_is. each (suc n) v w v_is w_is) in
    let e = sum_by-cons f x xs in
    let e1 = sum_by-cons g y ys in
    omega arith

pub zip_length : {X Y : Type 0} (R : X → Y → Type 0) (xs : List X) (ys : List Y) → AllZip R xs ys → length xs ≡ length ys
zip_length R [] [] zip = refl
zip_length R [] (y ∷ ys) zip = absurd zip
zip_length R (x ∷ xs) [] zip = absurd zip
zip_length R (x ∷ xs) (y ∷ ys) zip = ap suc (zip_length R xs ys zip.1)

pub zip_at : {X Y : Type 0} (R : X → Y → Type 0) (xs : List X) (ys : List Y) (n : ℕ) (x : X) (y : Y) → AllZip R xs ys → slice_get xs n ≡ Some x → slice_get ys n ≡ Some y → R x y
zip_at R [] ys n x y zip x_is y_is = absurd cc
zip_at R (v ∷ xs) [] n x y zip x_is y_is = absurd zip
zip_at R (v ∷ xs) (w ∷ ys) zero x y zip x_is y_is =
    let e : v ≡ x = cc in
    let e1 : w ≡ y = cc in
    subst (λ z. R z y) e (subst (λ z. R v z) e1 zip.0)
zip_at R (v ∷ xs) (w ∷ ys) (suc n) x y zip x_is y_is = zip_at R xs ys n x y zip.1 x_is y_is

-- as many activities as the opened expression has
pub same_count : (file : Outline) (bodies : List Named) (process : Named) (opened : Opened) (list : List Performed) → IsPerformed file bodies process opened list → length list ≡ length (moves opened)
same_count file bodies process opened list performed =
    sym (length-map list (λ (p : Performed). p.activity)) ∙ (ap length performed.activities ∙ length-map (moves opened) (activity_in file.leaves))

-- ---- what making a list changes

module _ (constants : List ℕ) (operands : List Summand) (number : ℕ) (before after : Lists) where
  pub sizes_after : MakesList constants operands number before after → length after.lists ≡ length before.lists
  sizes_after (inl (marked, made_is, lists_is)) = ap length lists_is
  sizes_after (inr (made_is, lists_is)) = ap length lists_is ∙ length-set before.lists number (performed_in constants before.lists operands)

  pub marked_after : number < length before.made → MakesList constants operands number before after → SaysYes after.made number
  marked_after low (inl (marked, made_is, lists_is)) = subst (λ (xs : List Bool). SaysYes xs number) (sym made_is) marked
  marked_after low (inr (made_is, lists_is)) = subst (λ (xs : List Bool). SaysYes xs number) (sym made_is) (marked_set before.made number low)

  pub still_after : (n : ℕ) → MakesList constants operands number before after → SaysYes before.made n → SaysYes after.made n
  still_after n (inl (marked, made_is, lists_is)) known = subst (λ (xs : List Bool). SaysYes xs n) (sym made_is) known
  still_after n (inr (made_is, lists_is)) known = subst (λ (xs : List Bool). SaysYes xs n) (sym made_is) (marked_kept before.made number n known)

set_same : {X : Type 0} (xs : List X) (n : ℕ) (x y d : X) → n < length xs → slice_get (set xs n x) n ≡ Some y → y ≡ x
set_same xs n x y d low is = sym (get_or_from_slice_get (set xs n x) n y d is) ∙ get_or-set_same xs n x d low

set_apart : {X : Type 0} (xs : List X) (n m : ℕ) (x y d : X) → (m ≡ n → ⊥) → slice_get (set xs n x) m ≡ Some y → slice_get xs m ≡ Some y
set_apart xs n m x y d apart is =
    let low : m < length xs = let h = slice_get_within (set xs n x) m y is in omega (arith, length-set xs n x) in
    slice_get-get_or xs m d low ∙ ap Some (sym (get_or-set_other xs n m x d apart) ∙ get_or_from_slice_get (set xs n x) m y d is)

module _ (compounds : List Bool) (order constants : List ℕ) (leaves : List (List Summand)) (choices : LeafChoices compounds order constants leaves) where
  abbrev file : Outline
  file = choices_outline choices

  abbrev Sound : List Bool → List (List Performed) → Type 0
  Sound made lists = AreSound compounds order constants leaves choices made lists

  -- the leaf of this number can be made
  abbrev pub IsReadyAt : List Bool → ℕ → Type 0
  IsReadyAt made number = (leaf : Expression) → slice_get file.leaves number ≡ Some leaf → IsReadyFor compounds order constants leaves choices made leaf

  sound_set : (made : List Bool) (lists : List (List Performed)) (number : ℕ) (operands : List Summand) → length lists ≡ length leaves → length made ≡ length lists → slice_get leaves number ≡ Some operands
      → IsReadyAt made number → Sound made lists → Sound (set made number true) (set lists number (performed_in constants lists operands))
  sound_set made lists number operands sizes marks operands_are ready sound n marked leaf list leaf_is list_is = elim (cases_eq n number) [
    | inl same ↦
        let low : n < length lists = let h = slice_get_within leaves number operands operands_are in omega arith in
        let made_list = performed_in constants lists operands in
        let list_same : list ≡ made_list = set_same lists n made_list list [] low (subst (λ m. slice_get (set lists m made_list) n ≡ Some list) (sym same) list_is) in
        let leaf_here : slice_get file.leaves number ≡ Some leaf = ap (slice_get file.leaves) (sym same) ∙ leaf_is in
        subst (λ (l : List Performed). IsPerformedBy file choices.bodies (written choices) leaf l) (sym list_same)
        (performs compounds order constants leaves choices made lists sound sizes number leaf operands leaf_here operands_are (ready leaf leaf_here))
    | inr apart ↦
        let marked_too : SaysYes made n = elim (marked_before made number n marked) [ inl known ↦ known | inr same ↦ absurd (apart (sym same)) ] in
        sound n marked_too leaf list leaf_is (set_apart lists number n (performed_in constants lists operands) list [] apart list_is)
  ]

  pub sound_after : (before after : Lists) (number : ℕ) (operands : List Summand) → AreSoFar before → length before.lists ≡ length leaves → slice_get leaves number ≡ Some operands
      → IsReadyAt before.made number → Sound before.made before.lists → MakesList constants operands number before after → Sound after.made after.lists
  sound_after before after number operands kept sizes operands_are ready sound (inl (marked, made_is, lists_is)) =
      subst (λ xs. Sound xs after.lists) (sym made_is) (subst (λ xs. Sound before.made xs) (sym lists_is) sound)
  sound_after before after number operands kept sizes operands_are ready sound (inr (made_is, lists_is)) =
      subst (λ xs. Sound xs after.lists) (sym made_is) (subst (λ xs. Sound (set before.made number true) xs) (sym lists_is)
      (sound_set before.made before.lists number operands sizes kept.sizes operands_are ready sound))

  -- no more activities than the opened expressions have
  bounded : (made : List Bool) (lists : List (List Performed)) → Sound made lists → length lists ≡ length leaves → length made ≡ length lists
      → ((n : ℕ) → ¬ SaysYes made n → get_or lists n [] ≡ [])
      → (opened : List Opened) → AllZip (Opens file.definitions) file.leaves opened → sum_by length lists ≤ sum_by (λ tree. length (moves tree)) opened
  bounded made lists sound sizes marks empty opened zip =
      let e = zip_length (Opens file.definitions) file.leaves opened zip in
      let e1 = choices.operands.one_each in
      sum_pointwise length (λ (tree : Opened). length (moves tree)) lists opened (omega arith) at
    where
      at : (n : ℕ) (list : List Performed) (tree : Opened) → slice_get lists n ≡ Some list → slice_get opened n ≡ Some tree → length list ≤ length (moves tree)
      at n list tree list_is tree_is = by_mark (get_or made n false) refl
        where
          low : n < length file.leaves
          low = let h = slice_get_within opened n tree tree_is in let e = zip_length (Opens file.definitions) file.leaves opened zip in omega arith

          by_mark : (mark : Bool) → get_or made n false ≡ mark → length list ≤ length (moves tree)
          by_mark true marked =
              let leaf = get_or file.leaves n (Const 0) in
              let leaf_is = slice_get-get_or file.leaves n (Const 0) low in
              let here : n < length made = let h = slice_get_within lists n list list_is in omega arith in
              let performed = sound n (marked_at made n here marked) leaf list leaf_is list_is in
              let opens = zip_at (Opens file.definitions) file.leaves opened n leaf tree zip leaf_is tree_is in
              let e = same_count file choices.bodies performed.process tree list (performed.performed tree opens) in
              omega arith
          by_mark false unmarked =
              let none = sym (get_or_from_slice_get lists n list [] list_is) ∙ empty n (λ marked. false≢true (sym unmarked ∙ marked_read made n marked)) in
              let e = ap length none in
              omega arith

  pub end_after : {T U : Type 0} (P : T → Type 0) (Q : U → Type 0) (before : Lists) (number : ℕ) (operands : List Summand) (end : End OverLimit) → AreSoFar before → length before.lists ≡ length leaves → slice_get leaves number ≡ Some operands
      → IsReadyAt before.made number → Sound before.made before.lists → OkOrFault (Err end) P (λ _. PassesMost constants operands number before) → OkOrFault (Err end) Q (λ _. OpensIntoMany (choices_outline choices))
  end_after P Q before number operands Memory kept sizes operands_are ready sound passes = tt
  end_after P Q before number operands (Fault over) kept sizes operands_are ready sound passes = λ opened zip.
      let lists = performed_in constants before.lists operands in
      let sound_too = sound_set before.made before.lists number operands sizes kept.sizes operands_are ready sound in
      let e = length-set before.lists number lists in
      let e1 = length-set before.made number true in
      let e2 = kept.sizes in
      let most = bounded (set before.made number true) (set before.lists number lists) sound_too (omega arith) (omega arith) empty opened zip in
      omega arith
    where
      empty : (n : ℕ) → ¬ SaysYes (set before.made number true) n → get_or (set before.lists number (performed_in constants before.lists operands)) n [] ≡ []
      empty n unmade = elim (cases_eq n number) [
        | inl same ↦
            let low : number < length before.made = let h = slice_get_within leaves number operands operands_are in let e = kept.sizes in omega arith in
            absurd (unmade (subst (λ m. SaysYes (set before.made number true) m) (sym same) (marked_set before.made number low)))
        | inr apart ↦ get_or-set_other before.lists number n (performed_in constants before.lists operands) [] apart ∙ kept.empty n (λ marked. unmade (marked_kept before.made number n marked))
      ]

  -- ---- the order

  pub ready_in_order : (made : List Bool) (k at : ℕ) → k < length order → at ≡ get_or order k 0 → slice_get compounds at ≡ Some false
      → ((d : ℕ) → Contains (take k order) d → slice_get compounds d ≡ Some false → SaysYes made (get_or constants d 0)) → IsReadyAt made (get_or constants at 0)
  ready_in_order made k at low at_is flag_is made_before leaf leaf_is =
      let same : leaf ≡ Const at = same_Some leaf (Const at) (sym leaf_is ∙ constant_leaf compounds order constants leaves choices at flag_is) in
      subst (IsReadyFor compounds order constants leaves choices made) (sym same) ready
    where
      ready : IsReadyFor compounds order constants leaves choices made (Const at)
      ready process process_is d among flag =
          let body = get_or choices.bodies at (NamedConstant 0 at) in
          let within : at < length choices.bodies = let h = slice_get_within compounds at false flag_is in let e = choices.one_each in omega arith in
          let body_is = slice_get-get_or choices.bodies at (NamedConstant 0 at) within in
          let chosen : chooser choices.bodies process ≡ body = ap (chooser choices.bodies) process_is in
          let split : order ≡ take k order ++ at ∷ drop (k + 1) order =
          sym (take-append-drop k order) ∙ (ap (λ xs. take k order ++ xs) (drop_more order k 0 low) ∙ ap (λ x. take k order ++ x ∷ drop (k + 1) order) (sym at_is)) in
          let edge : UnguardedEdge choices.bodies at d =
          (λ compound. some_apart (sym flag_is ∙ choices.table.complete at compound), (body, body_is, subst (λ (x : Named). Contains (unguarded x) d) chosen among)) in
          made_before d (choices.in_order.behind (take k order) (drop (k + 1) order) at d split edge) flag
        where
          some_apart : Some false ≡ Some true → ⊥
          some_apart e = cc

  -- behind the order every leaf can be made
  pub ready_behind : (made : List Bool) (number : ℕ) → ((d : ℕ) → slice_get compounds d ≡ Some false → SaysYes made (get_or constants d 0)) → IsReadyAt made number
  ready_behind made number all leaf leaf_is process process_is d among flag = all d flag

  pub all_in_order : (d : ℕ) → slice_get compounds d ≡ Some false → Contains order d
  all_in_order d flag_is =
      let within : d < length choices.bodies = let h = slice_get_within compounds d false flag_is in let e = choices.one_each in omega arith in
      choices.in_order.each d within

  pub are_performed : (made : List Bool) (lists : List (List Performed)) → Sound made lists → length lists ≡ length leaves → ((n : ℕ) → n < length leaves → SaysYes made n)
      → ArePerformed file choices.bodies (written choices) lists
  are_performed made lists sound sizes all = record {
    one_each = sizes ∙ choices.operands.one_each;
    each = λ number leaf list leaf_is list_is.
        let low : number < length leaves = let h = slice_get_within lists number list list_is in omega arith in
        sound number (all number low) leaf list leaf_is list_is;
  }

-- ---- what the order reads

pub operands_at : (leaves : List (List Summand)) (number : ℕ) (item seen : List Summand) → number < length leaves → item ≡ get_or leaves number item → seen ≡ item → slice_get leaves number ≡ Some seen
operands_at leaves number item seen low is same = slice_get_read leaves (length leaves) number item refl low is ∙ ap Some (sym same)

pub unset_at : (compounds : List Bool) (at : ℕ) → at < length compounds → get_or compounds at false ≡ false → slice_get compounds at ≡ Some false
unset_at compounds at low unset = slice_get-get_or compounds at false low ∙ ap Some unset

-- the constants so far and one more
pub ready_more : (compounds : List Bool) (order constants : List ℕ) (made made2 : List Bool) (k : ℕ) → k < length order
    → ((n : ℕ) → SaysYes made n → SaysYes made2 n) → (slice_get compounds (get_or order k 0) ≡ Some false → SaysYes made2 (get_or constants (get_or order k 0) 0))
    → ((d : ℕ) → Contains (take k order) d → slice_get compounds d ≡ Some false → SaysYes made (get_or constants d 0))
    → (d : ℕ) → Contains (take (k + 1) order) d → slice_get compounds d ≡ Some false → SaysYes made2 (get_or constants d 0)
ready_more compounds order constants made made2 k low still here before d among flag_is =
    elim (Contains-push_cases (take k order) (get_or order k 0) d (subst (λ xs. Contains xs d) (take_more order k 0 low) among)) [
      | inl there ↦ still (get_or constants d 0) (before d there flag_is)
      | inr same ↦ subst (λ n. SaysYes made2 (get_or constants n 0)) same (here (ap (slice_get compounds) same ∙ flag_is))
    ]

pub set_apart_from : (compounds : List Bool) (at : ℕ) → get_or compounds at false ≡ true → slice_get compounds at ≡ Some false → ⊥
set_apart_from compounds at marked flag_is = false≢true (sym (get_or_from_slice_get compounds at false false flag_is) ∙ marked)

pub made_more : (made made2 : List Bool) (number : ℕ) → ((n : ℕ) → SaysYes made n → SaysYes made2 n) → SaysYes made2 number → ((n : ℕ) → n < number → SaysYes made n) → (n : ℕ) → n < number + 1 → SaysYes made2 n
made_more made made2 number still here before n low = elim (cases_eq n number) [
  | inl same ↦ subst (SaysYes made2) (sym same) here
  | inr apart ↦ still n (before n (omega arith))
]
