-- What the counts of activities and of leaves, and the first mixed activity, say of a file's outline.
use Rattle.std.proofs.Common.{◌≡◌, ℕ, zero, suc, ◌<◌, ◌≤◌, Bool, false, List, [], ◌∷◌, length, refl, sym, ◌∙◌, ap, subst, arith, Some, get_or, option_map}
use Rattle.std.specs.Prelude.{◌↔◌, IsTrue, slice_get, sum_by}
use Rattle.std.specs.List.{AllZip}
use Rattle.std.proofs.lemmas.Bool.{false≢true}
use Rattle.std.proofs.lemmas.Option.{slice_get_within, slice_get-get_or, slice_get-map}
use Rattle.pepa_model.specs.Expression.{Expression, Const, Definition}
use Rattle.pepa_model.specs.Opened.{Opened, Opens, moves}
use Rattle.pepa_model.specs.Expanded.{Expanded, Expands}
use Rattle.pepa_model.specs.PepaModel.{IsMixedAt, AreUnmixed}
use Rattle.pepa_model.specs.declared.term.Activity.{Activity}
use Rattle.pepa_resolver.specs.Named.{Named}
use Rattle.pepa_checks.specs.declared.summand.Performed.{Performed}
use Rattle.pepa_checks.specs.Outline.{Outline}
use Rattle.pepa_checks.specs.Activities.{HasMixed, HasNoMixed, IsMixedLeaf, IsFirstMixed}
use Rattle.pepa_checks.specs.Summands.{IsPerformedBy, ArePerformed}
use Rattle.pepa_checks.specs.declared.system_size.Measure.{Measure}
use Rattle.pepa_checks.specs.declared.system_size.Measure.TheVariants.{Leaves, Nodes}
use Rattle.pepa_checks.specs.SystemSizes.{measured, most_of}
use Rattle.pepa_checks.specs.Limits.{HasManyActivities, HasManyLeaves, HasManyNodes}
use Rattle.pepa_checks.specs.ActivityLists.{OpensIntoMany}
use Rattle.pepa_checks.specs.MixedLists.{activities, IsFirstMixedOf, HaveNoMixed, IsFirstMixedIn}
use Rattle.pepa_checks.proofs.SoundLists.{sum_pointwise, zip_length, zip_at, same_count}

-- each leaf opens
abbrev pub EachOpens : Outline → Type 0
EachOpens outline = (number : ℕ) (leaf : Expression) → slice_get outline.leaves number ≡ Some leaf → (opened : Opened) × Opens outline.definitions leaf opened

-- ---- how many activities

module _ (outline : Outline) (bodies written : List Named) (lists : List (List Performed)) (performed : ArePerformed outline bodies written lists) where
  -- the activities are as many as the lists have
  pub few_activities : sum_by length lists ≤ 65535 → ¬ HasManyActivities outline
  few_activities few (opened, zip, many) =
      let e = zip_length (Opens outline.definitions) outline.leaves opened zip in
      let e1 = performed.one_each in
      let most = sum_pointwise (λ (tree : Opened). length (moves tree)) length opened lists (sym e ∙ sym e1) at in
      omega arith
    where
      at : (n : ℕ) (tree : Opened) (list : List Performed) → slice_get opened n ≡ Some tree → slice_get lists n ≡ Some list → length (moves tree) ≤ length list
      at n tree list tree_is list_is =
          let leaf = get_or outline.leaves n (Const 0) in
          let low : n < length outline.leaves = let h = slice_get_within lists n list list_is in let e = performed.one_each in omega arith in
          let leaf_is = slice_get-get_or outline.leaves n (Const 0) low in
          let known = performed.each n leaf list leaf_is list_is in
          let opens = zip_at (Opens outline.definitions) outline.leaves opened n leaf tree zip leaf_is tree_is in
          let e = same_count outline bodies known.process tree list (known.performed tree opens) in
          omega arith

opened_leaves : (definitions : List Definition) (leaves : List Expression) → ((number : ℕ) (leaf : Expression) → slice_get leaves number ≡ Some leaf → (opened : Opened) × Opens definitions leaf opened)
    → (opened : List Opened) × AllZip (Opens definitions) leaves opened
opened_leaves definitions [] each = ([], tt)
opened_leaves definitions (leaf ∷ leaves) each =
    let first = each zero leaf refl in
    let rest = opened_leaves definitions leaves (λ n e is. each (suc n) e is) in
    (first.0 ∷ rest.0, (first.1, rest.1))

pub many_activities : (outline : Outline) → EachOpens outline → OpensIntoMany outline → HasManyActivities outline
many_activities outline each many =
    let all = opened_leaves outline.definitions outline.leaves each in
    (all.0, all.1, many all.0 all.1)

-- ---- how large the system is

-- the answer tells of each tree that the system expands into whether it is too large
abbrev pub TellsSize : Measure → Outline → Bool → Type 0
TellsSize measure outline large = (tree : Expanded) → Expands outline.definitions outline.system tree → (IsTrue large ↔ (most_of measure < measured measure tree))

pub many_leaves : (outline : Outline) (large : Bool) → TellsSize Leaves outline large → (tree : Expanded) → Expands outline.definitions outline.system tree → IsTrue large → HasManyLeaves outline
many_leaves outline large tells tree expands is = (tree, expands, (tells tree expands).0 is)

pub few_leaves : (outline : Outline) (large : Bool) → TellsSize Leaves outline large → large ≡ false → ¬ HasManyLeaves outline
few_leaves outline large tells is (tree, expands, more) = false≢true (sym is ∙ (tells tree expands).1 more)

pub many_nodes : (outline : Outline) (large : Bool) → TellsSize Nodes outline large → (tree : Expanded) → Expands outline.definitions outline.system tree → IsTrue large → HasManyNodes outline
many_nodes outline large tells tree expands is = (tree, expands, (tells tree expands).0 is)

pub few_nodes : (outline : Outline) (large : Bool) → TellsSize Nodes outline large → large ≡ false → ¬ HasManyNodes outline
few_nodes outline large tells is (tree, expands, more) = false≢true (sym is ∙ (tells tree expands).1 more)

-- ---- the first mixed activity

module _ (outline : Outline) (bodies written : List Named) (lists : List (List Performed)) (performed : ArePerformed outline bodies written lists) where
  -- a mixed leaf has a mixed list
  mixed_list : (number : ℕ) (leaf : Expression) (list : List Performed) → slice_get outline.leaves number ≡ Some leaf → slice_get lists number ≡ Some list → HasMixed outline leaf → ¬ AreUnmixed (activities list)
  mixed_list number leaf list leaf_is list_is (opened, opens, (place, mixed)) unmixed =
      let known = (performed.each number leaf list leaf_is list_is).performed opened opens in
      unmixed place (subst (λ (xs : List Activity). IsMixedAt xs place) (sym known.activities) mixed)

  list_of : (number : ℕ) (leaf : Expression) → slice_get outline.leaves number ≡ Some leaf → (list : List Performed) × (slice_get lists number ≡ Some list)
  list_of number leaf leaf_is =
      let low : number < length lists = let h = slice_get_within outline.leaves number leaf leaf_is in let e = performed.one_each in omega arith in
      (get_or lists number [], slice_get-get_or lists number [] low)

  pub no_mixed : HaveNoMixed lists → HasNoMixed outline
  no_mixed none number leaf leaf_is mixed =
      let (list, list_is) = list_of number leaf leaf_is in
      mixed_list number leaf list leaf_is list_is mixed (none number list list_is)

  mixed_leaf : (leaf : Expression) (list : List Performed) (i : ℕ) → IsPerformedBy outline bodies written leaf list → (opened : Opened) → Opens outline.definitions leaf opened → IsFirstMixedOf list i → IsMixedLeaf outline bodies written leaf i
  mixed_leaf leaf list i by opened opens first =
      let known = by.performed opened opens in
      record {
        opened = opened;
        opens = opens;
        place = first.place;
        mixed = subst (λ (xs : List Activity). IsMixedAt xs first.place) known.activities first.mixed;
        first = λ other low mixed. first.first other low (subst (λ (xs : List Activity). IsMixedAt xs other) (sym known.activities) mixed);
        process = by.process;
        first_written = by.first_written;
        site = ap (λ (xs : List ℕ). slice_get xs first.place) (sym known.places)
            ∙ (slice_get-map (λ (p : Performed). p.at) list first.place ∙ (ap (option_map (λ (p : Performed). p.at)) first.stands ∙ ap Some first.site));
      }

  pub first_mixed_leaf : EachOpens outline → (i : ℕ) → IsFirstMixedIn lists i → IsFirstMixed outline bodies written i
  first_mixed_leaf each i found =
      let low : found.number < length outline.leaves = let h = slice_get_within lists found.number found.list found.is_list in let e = performed.one_each in omega arith in
      let leaf = get_or outline.leaves found.number (Const 0) in
      let leaf_is = slice_get-get_or outline.leaves found.number (Const 0) low in
      let (opened, opens) = each found.number leaf leaf_is in
      record {
        number = found.number;
        leaf = leaf;
        is_leaf = leaf_is;
        mixed = mixed_leaf leaf found.list i (performed.each found.number leaf found.list leaf_is found.is_list) opened opens found.mixed;
        first = λ other earlier before earlier_is mixed.
            let (list, list_is) = list_of other earlier earlier_is in
            mixed_list other earlier list earlier_is list_is mixed (found.first other list before list_is);
      }
