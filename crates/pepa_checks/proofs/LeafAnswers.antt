-- The table at the end, as the leaves of the outline.
use Rattle.std.proofs.Common.{◌≡◌, ℕ, zero, suc, ◌+◌, ◌≤◌, Bool, true, false, ◌||◌, ◌==◌, List, [], ◌∷◌, ◌++◌, map, reverse, length, Some, inl, inr, refl, sym, ap, ◌∙◌, subst, slice_get, append_assoc, true≢false, arith}
use Rattle.std.specs.List.{AllZip, list_any}
use Rattle.std.specs.Cmp.{unsigned_Decides}
use Rattle.std.proofs.lemmas.List.{map-append, append-nil, reverse-append, length-map}
use Rattle.pepa_model.specs.Expression.{Expression, Const, expression_of}
use Rattle.pepa_model.specs.Leaves.{same_expression}
use Rattle.pepa_resolver.specs.Named.{Named, NamedConstant, NamedPrefix, NamedChoice, NamedCoop, NamedHide}
use Rattle.pepa_checks.specs.declared.summand.Summand.{Summand}
use Rattle.pepa_checks.specs.declared.summand.Summand.TheVariants.{Activity}
use Rattle.pepa_checks.specs.declared.expressions.Candidate.{Candidate}
use Rattle.pepa_checks.specs.declared.leaf_table.LeafTable.{LeafTable}
use Rattle.pepa_checks.specs.declared.leaves.Leaves.{Leaves}
use Rattle.pepa_checks.specs.Outline.{expression_in, outline_with, Outline}
use Rattle.pepa_checks.specs.Activities.{written_leaves}
use Rattle.pepa_checks.specs.Summands.{summands_in, leaf_summands, AreConstantLeaves}
use Rattle.pepa_checks.specs.Candidates.{AreOperands, IsCandidate, sequential_lines}
use Rattle.pepa_checks.specs.LeafTables.{with_expression, with_expressions, Text, chooser, IsChoiceOf, IsNodeAt, IsLeafTable, renumbered}
use Rattle.pepa_checks.specs.LeavesAnswers.{AreLeaves, numbers_from}
use Rattle.pepa_checks.proofs.ListReads.{true_or_false, some_same, some_none, read_more}
use Rattle.pepa_checks.proofs.LeafSteps.{place_agree}
use Rattle.pepa_checks.proofs.OutlineLeaves.{line_const, listed, with_new, with_expressions-append, all_grow, leaves_are}
use Rattle.pepa_checks.proofs.LeafLoops.{AddsCandidates, text, zip_none, zip_long}

-- ---- operands

module _ (here : Text) (numbers : List ℕ) (leaves : List Expression) (zipped : AllZip (IsNodeAt here.nodes) numbers leaves) where
  operands_turned : (process : Named) (operands : List Summand) → AreOperands here.nodes process operands → renumbered numbers operands ≡ summands_in leaves process
  operands_turned (NamedConstant at c) operands h = ap (renumbered numbers) h
  operands_turned (NamedPrefix at action rate next) operands h =
      ap (renumbered numbers) h.2 ∙ ap (λ n. Activity at action rate n ∷ []) (place_agree here h.0 (expression_in next) h.1 numbers leaves zipped)
  operands_turned (NamedChoice left right) operands h =
      ap (renumbered numbers) h.4
      ∙ ap reverse (map-append _ h.1 h.0)
      ∙ reverse-append (map _ h.1) (map _ h.0)
      ∙ (λ i. operands_turned left h.0 h.2 i ++ operands_turned right h.1 h.3 i)
  operands_turned (NamedCoop left right set) operands h = ap (renumbered numbers) h
  operands_turned (NamedHide inner set) operands h = ap (renumbered numbers) h

chosen_summands : (leaves : List Expression) (bodies : List Named) (process : Named) → leaf_summands leaves bodies process ≡ summands_in leaves (chooser bodies process)
chosen_summands leaves bodies (NamedConstant at c) = refl
chosen_summands leaves bodies (NamedPrefix at action rate next) = refl
chosen_summands leaves bodies (NamedChoice left right) = refl
chosen_summands leaves bodies (NamedCoop left right set) = refl
chosen_summands leaves bodies (NamedHide inner set) = refl

zip_read : {X Y : Type 0} (R : X → Y → Type 0) (xs : List X) (ys : List Y) (i : ℕ) (x : X) (y : Y) → AllZip R xs ys → slice_get xs i ≡ Some x → slice_get ys i ≡ Some y → R x y
zip_read R [] ys i x y h p q = absurd (some_none x p)
zip_read R (z ∷ xs) [] i x y h p q = absurd h
zip_read R (z ∷ xs) (w ∷ ys) zero x y h p q = subst (λ v. R v y) (some_same z x p) (subst (λ v. R z v) (some_same w y q) h.0)
zip_read R (z ∷ xs) (w ∷ ys) (suc i) x y h p q = zip_read R xs ys i x y h.1 p q

map_read : {X Y : Type 0} (f : X → Y) (xs : List X) (i : ℕ) (y : Y) → slice_get (map f xs) i ≡ Some y → (x : X) × (slice_get xs i ≡ Some x) × (f x ≡ y)
map_read f [] i y e = absurd (some_none y e)
map_read f (x ∷ xs) zero y e = (x, refl, some_same (f x) y e)
map_read f (x ∷ xs) (suc i) y e = map_read f xs i y e

-- ---- sequential constants

numbers_long : (n : ℕ) (flags : List Bool) → length (numbers_from n flags) ≡ length flags
numbers_long n [] = refl
numbers_long n (true ∷ flags) = ap suc (numbers_long n flags)
numbers_long n (false ∷ flags) = ap suc (numbers_long (suc n) flags)

consts_read : (k n : ℕ) (flags : List Bool) (bodies : List Named) (c number : ℕ) → length flags ≡ length bodies → slice_get flags c ≡ Some false → slice_get (numbers_from n flags) c ≡ Some number
    → (j : ℕ) × (number ≡ j + n) × (slice_get (map line_const (sequential_lines k flags bodies)) j ≡ Some (Const (c + k)))
consts_read k n [] bodies c number sizes e told = absurd (some_none false e)
consts_read k n (flag ∷ flags) [] c number sizes e told = absurd (omega (arith, sizes))
consts_read k n (true ∷ flags) (body ∷ bodies) zero number sizes e told = absurd (true≢false (some_same true false e))
consts_read k n (true ∷ flags) (body ∷ bodies) (suc c) number sizes e told =
    let rest = consts_read (suc k) n flags bodies c number (omega (arith, sizes)) e told in
    let same : c + suc k ≡ suc c + k = omega arith in
    (rest.0, rest.1, rest.2 ∙ ap (λ m. Some (Const m)) same)
consts_read k n (false ∷ flags) (body ∷ bodies) zero number sizes e told =
    let is : n ≡ number = some_same n number told in
    let same : k ≡ 0 + k = omega arith in
    (0, omega (arith, is), ap (λ m. Some (Const m)) same)
consts_read k n (false ∷ flags) (body ∷ bodies) (suc c) number sizes e told =
    let rest = consts_read (suc k) (suc n) flags bodies c number (omega (arith, sizes)) e told in
    let same : c + suc k ≡ suc c + k = omega arith in
    (suc rest.0, omega (arith, rest.1), rest.2 ∙ ap (λ m. Some (Const m)) same)

any_push : (test : Expression → Bool) (es : List Expression) (e : Expression) → list_any test es ≡ false → test e ≡ false → list_any test (es ++ e ∷ []) ≡ false
any_push test [] e h k = λ i. k i || false
any_push test (f ∷ es) e h k = by (test f) (list_any test es) (list_any test (es ++ e ∷ [])) h (λ g. any_push test es e g k)
  where
    by : (b c d : Bool) → (b || c) ≡ false → (c ≡ false → d ≡ false) → (b || d) ≡ false
    by true c d p q = absurd (true≢false p)
    by false c d p q = q p

-- constants from a number on are new where those so far are below it
consts_new : (k : ℕ) (flags : List Bool) (bodies : List Named) (es : List Expression) → ((c : ℕ) → k ≤ c → list_any (same_expression (Const c)) es ≡ false) → with_expressions es (map line_const (sequential_lines k flags bodies)) ≡ es ++ map line_const (sequential_lines k flags bodies)
consts_new k [] bodies es fresh = sym (append-nil es)
consts_new k (flag ∷ flags) [] es fresh = sym (append-nil es)
consts_new k (true ∷ flags) (body ∷ bodies) es fresh = consts_new (suc k) flags bodies es (λ c low. fresh c (omega (arith, low)))
consts_new k (false ∷ flags) (body ∷ bodies) es fresh =
    let first : with_expression es (Const k) ≡ es ++ Const k ∷ [] = with_new es (Const k) (fresh k (omega arith)) in
    ap (λ l. with_expressions l (map line_const (sequential_lines (suc k) flags bodies))) first
    ∙ consts_new (suc k) flags bodies (es ++ Const k ∷ []) (λ c low. any_push (same_expression (Const c)) es (Const k) (fresh c (omega (arith, low))) (other c low))
    ∙ append_assoc es (Const k ∷ []) (map line_const (sequential_lines (suc k) flags bodies))
  where
    other : (c : ℕ) → suc k ≤ c → (c == k) ≡ false
    other c low = elim (true_or_false (c == k)) [
      | inl same ↦ let is : c ≡ k = (unsigned_Decides c k).0 same in absurd (omega (arith, is, low))
      | inr apart ↦ apart
    ]

module _ (compounds : List Bool) (bodies : List Named) (system : Named) (sets : List (List ℕ)) where
  abbrev whole : Outline
  whole = outline_with sets compounds bodies system

  constants_answer : length compounds ≡ length bodies → AreConstantLeaves whole compounds (numbers_from 0 compounds)
  constants_answer sizes = record {
    one_each = numbers_long 0 compounds;
    each = λ c number flag told.
        let written = written_leaves compounds bodies system in
        let consts = map line_const (sequential_lines 0 compounds bodies) in
        let read = consts_read 0 0 compounds bodies c number sizes flag told in
        let number_is : read.0 ≡ number = omega (arith, read.1) in
        let constant_is : c + 0 ≡ c = omega arith in
        let here : slice_get consts number ≡ Some (Const c) = subst (λ n. slice_get consts n ≡ Some (Const c)) number_is (read.2 ∙ ap (λ m. Some (Const m)) constant_is) in
        let grown = all_grow consts (map expression_in written) in
        let all : whole.leaves ≡ consts ++ grown.0 =
        leaves_are compounds sets bodies system
        ∙ with_expressions-append [] consts (map expression_in written)
        ∙ ap (λ l. with_expressions l (map expression_in written)) (consts_new 0 compounds bodies [] (λ d low. refl))
        ∙ grown.1 in
        subst (λ l. slice_get l number ≡ Some (Const c)) (sym all) (read_more consts grown.0 number (Const c) here);
  }

  -- ---- all of it

  pub leaves_found : (table : LeafTable) (candidates : List Candidate) (found : Leaves) → length compounds ≡ length bodies → AddsCandidates compounds bodies system table candidates → candidates ≡ [] → length table.numbers.keys ≤ 65535
      → found.expressions ≡ table.expressions
      → found.summands ≡ map (renumbered table.numbers.keys) table.operands
      → found.constants ≡ numbers_from 0 compounds
      → AreLeaves whole compounds bodies (written_leaves compounds bodies system) found
  leaves_found table candidates found sizes so_far none few expressions summands constants =
      let written = written_leaves compounds bodies system in
      let no_rest = zip_none (IsCandidate so_far.nodes) so_far.rest candidates so_far.candidates_are none in
      let all : so_far.before ≡ written = sym (so_far.written_are ∙ ap (λ l. so_far.before ++ l) no_rest ∙ append-nil so_far.before) in
      let here = text compounds bodies system so_far.nodes so_far.apart in
      let are : with_expressions [] (listed compounds bodies so_far.before) ≡ whole.leaves =
      ap (λ l. with_expressions [] (listed compounds bodies l)) all ∙ sym (leaves_are compounds sets bodies system) in
      let end : IsLeafTable here whole.leaves table = subst (λ l. IsLeafTable here l table) are so_far.table_is in
      let long : length table.numbers.keys ≡ length whole.leaves = zip_long compounds bodies system (IsNodeAt so_far.nodes) table.numbers.keys whole.leaves end.numbers_are in
      record {
        expressions_are = ap (map expression_of) expressions ∙ end.expressions_are;
        summands_are = record {
          one_each = ap length summands ∙ length-map table.operands (renumbered table.numbers.keys) ∙ sym (zip_long compounds bodies system (IsChoiceOf here) whole.leaves table.operands end.operands_are);
          each = λ number leaf list leaf_is list_is.
              let read = map_read (renumbered table.numbers.keys) table.operands number list (subst (λ l. slice_get l number ≡ Some list) summands list_is) in
              let choice = zip_read (IsChoiceOf here) whole.leaves table.operands number leaf read.0 end.operands_are leaf_is read.1 in
              record {
                process = choice.process;
                first_written = choice.first_written;
                are = sym read.2 ∙ operands_turned here table.numbers.keys whole.leaves end.numbers_are (chooser bodies choice.process) read.0 choice.operands_are ∙ sym (chosen_summands whole.leaves bodies choice.process);
              };
        };
        constants_are = subst (λ l. AreConstantLeaves whole compounds l) (sym constants) (constants_answer sizes);
        few = omega (arith, long, few);
      }
