-- The lists of leaves, as one after another is made.
use Rattle.std.proofs.Common.{◌≡◌, ℕ, zero, suc, ◌+◌, ◌-◌, ◌<◌, ◌≤◌, inl, inr, Bool, true, false, List, [], ◌∷◌, ◌++◌, length, get_or, set, take, replicate, refl, sym, ◌∙◌, ap, subst, arith, append-nil, length-append, length-set, get_or-set_other, Err}
use Rattle.std.specs.Prelude.{flat_map, sum_by}
use Rattle.std.proofs.lemmas.Bool.{cases_eq, false≢true}
use Rattle.std.proofs.lemmas.List.{take_more, length-replicate}
use Rattle.std.proofs.lemmas.List.Concat.{flat_map-append, length-flat_map}
use Rattle.std.proofs.lemmas.List.Sums.{sum_by-set, sum_by_more_le, sum_by-cons}
use Rattle.std.proofs.lemmas.Option.{get_or_from_slice_get}
use Rattle.node_orders.specs.Graphs.{SaysYes}
use Rattle.pepa_checks.specs.declared.summand.Summand.{Summand}
use Rattle.pepa_checks.specs.declared.summand.Performed.{Performed}
use Rattle.pepa_checks.specs.declared.activities.Lists.{Lists}
use Rattle.fault_ends.specs.declared.end.End.{End}
use Rattle.fault_ends.specs.declared.end.End.TheVariants.{Fault, Memory}
use Rattle.fault_ends.specs.Answers.{OkOrFault}
use Rattle.pepa_checks.specs.declared.over_limit.OverLimit.{OverLimit}
use Rattle.node_orders.proofs.Marks.{marked_set, marked_kept}
use Rattle.pepa_checks.specs.ActivityLists.{performed_by, performed_in, AreSoFar, PassesMost}

-- ---- one operand after another

module _ (constants : List ℕ) (lists : List (List Performed)) (operands : List Summand) (k : ℕ) (operand : Summand) (low : k < length operands) (is : operand ≡ get_or operands k operand) where
  pub one_operand_more : performed_in constants lists (take (k + 1) operands) ≡ performed_in constants lists (take k operands) ++ performed_by constants lists operand
  one_operand_more =
      let f = performed_by constants lists in
      ap (flat_map f) (take_more operands k operand low)
      ∙ (flat_map-append f (take k operands) (get_or operands k operand ∷ [])
      ∙ (ap (λ xs. flat_map f (take k operands) ++ xs) (append-nil (f (get_or operands k operand)))
      ∙ ap (λ (x : Summand). flat_map f (take k operands) ++ f x) (sym is)))

  pub operand_fits : (list : List Performed) (room : ℕ) → list ≡ performed_in constants lists (take k operands) → length list + length (performed_by constants lists operand) ≤ room
      → length (list ++ performed_by constants lists operand) ≤ room
  operand_fits list room list_is fits = rw length-append fits

  pub out_of_room : (list : List Performed) (room : ℕ) → list ≡ performed_in constants lists (take k operands) → room < length list + length (performed_by constants lists operand)
      → room < length (performed_in constants lists operands)
  out_of_room list room list_is full =
      let f = performed_by constants lists in
      let part = sum_by_more_le (λ x. length (f x)) operands k operand low in
      let e1 = ap length list_is ∙ length-flat_map f (take k operands) in
      let e2 = length-flat_map f operands in
      let e3 = ap (λ (x : Summand). length (f x)) is in
      omega arith

-- ---- marks

pub marked_read : (made : List Bool) (n : ℕ) → SaysYes made n → get_or made n false ≡ true
marked_read made n marked = get_or_from_slice_get made n true false marked

-- ---- one list more

pub sum_with : (lists : List (List Performed)) (number : ℕ) (list : List Performed) → number < length lists → get_or lists number [] ≡ [] → sum_by length (set lists number list) ≡ sum_by length lists + length list
sum_with lists number list low empty =
    let e = sum_by-set length lists number list [] low in
    let e1 = ap length empty in
    omega arith

pub kept_more : (before : Lists) (number : ℕ) (list : List Performed) → AreSoFar before → number < length before.lists → get_or before.made number false ≡ false → before.total + length list ≤ 65535
    → AreSoFar record { made = set before.made number true; lists = set before.lists number list; total = before.total + length list }
kept_more before number list kept low unmarked fits =
    let none = kept.empty number (λ marked. false≢true (sym unmarked ∙ marked_read before.made number marked)) in
    record {
      sizes = length-set before.made number true ∙ (kept.sizes ∙ sym (length-set before.lists number list));
      total = ap (λ n. n + length list) kept.total ∙ sym (sum_with before.lists number list low none);
      few = fits;
      empty = λ n unmade. elim (cases_eq n number) [
        | inl same ↦ absurd (unmade (subst (λ m. SaysYes (set before.made number true) m) (sym same) (marked_set before.made number (omega (arith, kept.sizes)))))
        | inr apart ↦ get_or-set_other before.lists number n list [] apart ∙ kept.empty n (λ marked. unmade (marked_kept before.made number n marked))
      ];
    }

pub too_many : (before : Lists) (number : ℕ) (list : List Performed) → AreSoFar before → number < length before.lists → get_or before.made number false ≡ false → 65535 - before.total < length list
    → 65535 < sum_by length (set before.lists number list)
too_many before number list kept low unmarked full =
    let none = kept.empty number (λ marked. false≢true (sym unmarked ∙ marked_read before.made number marked)) in
    let e = sum_with before.lists number list low none in
    let few = kept.few in
    let total = kept.total in
    omega arith

-- why it wasn't made
pub passes_most : {T U : Type 0} (P : T → Type 0) (Q : U → Type 0) (before : Lists) (constants : List ℕ) (operands : List Summand) (number : ℕ) (lists : List (List Performed)) (end : End OverLimit) → AreSoFar before → number < length before.lists → get_or before.made number false ≡ false
    → lists ≡ before.lists → OkOrFault (Err end) P (λ _. 65535 - before.total < length (performed_in constants lists operands)) → OkOrFault (Err end) Q (λ _. PassesMost constants operands number before)
passes_most P Q before constants operands number lists (Fault over) kept low unmarked is full =
    too_many before number (performed_in constants before.lists operands) kept low unmarked (subst (λ (l : List (List Performed)). 65535 - before.total < length (performed_in constants l operands)) is full)
passes_most P Q before constants operands number lists Memory kept low unmarked is full = tt

-- ---- none yet

abbrev none : List Performed
none = []

no_sum : (count : ℕ) → sum_by length (replicate count none) ≡ 0
no_sum zero = refl
no_sum (suc count) = let e = sum_by-cons (λ (x : List Performed). length x) none (replicate count none) in let e1 = no_sum count in omega arith

unmarked_none : (count n : ℕ) → SaysYes (replicate count false) n → ⊥
unmarked_none zero n marked = cc
unmarked_none (suc count) zero marked = cc
unmarked_none (suc count) (suc n) marked = unmarked_none count n marked

empty_none : (count n : ℕ) → get_or (replicate count none) n [] ≡ []
empty_none zero n = refl
empty_none (suc count) zero = refl
empty_none (suc count) (suc n) = empty_none count n

pub kept_none : (lists : Lists) (count : ℕ) → lists.made ≡ replicate count false → lists.lists ≡ replicate count [] → lists.total ≡ 0 → AreSoFar lists
kept_none lists count made_is lists_is total_is = record {
  sizes = ap length made_is ∙ (length-replicate count false ∙ sym (ap length lists_is ∙ length-replicate count []));
  total = total_is ∙ sym (ap (sum_by length) lists_is ∙ no_sum count);
  few = omega arith;
  empty = λ n unmarked. ap (λ (xs : List (List Performed)). get_or xs n []) lists_is ∙ empty_none count n;
}

pub none_marked : (made : List Bool) (count n : ℕ) → made ≡ replicate count false → ¬ SaysYes made n
none_marked made count n is marked = unmarked_none count n (subst (λ xs. SaysYes xs n) is marked)
