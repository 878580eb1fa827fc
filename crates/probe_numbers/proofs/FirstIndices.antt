-- First indices, put together.
use Rattle.std.proofs.Common.{◌≡◌, ℕ, zero, suc, ◌<◌, ◌≤◌, min, ◌⊎◌, inl, inr, Option, Some, None, refl, sym, ap, subst, arith}
use Rattle.std.specs.Prelude.{List}
use Rattle.pepa_lexer.specs.declared.kinds.Token.{Token}
use Rattle.probe_reader.specs.declared.trees.GuardTree.{GuardTree, Count}
use Rattle.probe_reader.specs.declared.trees.ProbeTree.{ProbeTree}
use Rattle.probe_reader.specs.ProbeTrees.{CountAt, ProbeNode, TimesOf, BetweenOf, guard_node_of, probe_node_of}
use Rattle.probe_numbers.specs.WholeNumbers.{IsWholeAt}
use Rattle.probe_numbers.specs.BadCounts.{IsBadNumber, IsBadRange, IsBadInGuard, BadCountAt, IsFirstIndex, earlier_index}
use Rattle.probe_numbers.proofs.WholeNumbers.{one_whole}

le_cases : (i j : ℕ) → (i ≤ j) ⊎ (j ≤ i)
le_cases zero j = inl (omega arith)
le_cases (suc i) zero = inr (omega arith)
le_cases (suc i) (suc j) = elim (le_cases i j) [ inl a ↦ inl (omega arith) | inr b ↦ inr (omega arith) ]

-- what is in either part
pub first_of_either : (P Q : ℕ → Type 0) (l r o : Option ℕ) → IsFirstIndex P l → IsFirstIndex Q r → o ≡ earlier_index l r → IsFirstIndex (λ i. P i ⊎ Q i) o
first_of_either P Q l r o of_l of_r same = subst (IsFirstIndex (λ i. P i ⊎ Q i)) (sym same) (both l r of_l of_r)
  where
    lesser : (i j : ℕ) → (i ≤ j) ⊎ (j ≤ i) → (min i j ≡ i) ⊎ (min i j ≡ j)
    lesser i j (inl le) = inl (omega arith)
    lesser i j (inr le) = inr (omega arith)

    chosen : (i j : ℕ) → (min i j ≡ i) ⊎ (min i j ≡ j)
    chosen i j = lesser i j (le_cases i j)

    both : (l r : Option ℕ) → IsFirstIndex P l → IsFirstIndex Q r → IsFirstIndex (λ i. P i ⊎ Q i) (earlier_index l r)
    both None None fl fr = λ i h. elim h [ inl p ↦ fl i p | inr q ↦ fr i q ]
    both None (Some j) fl fr = (inr fr.0, λ i h. elim h [ inl p ↦ absurd (fl i p) | inr q ↦ fr.1 i q ])
    both (Some j) None fl fr = (inl fl.0, λ i h. elim h [ inl p ↦ fl.1 i p | inr q ↦ absurd (fr i q) ])
    both (Some i) (Some j) fl fr = (
      elim (chosen i j) [ inl e ↦ subst (λ (z : ℕ). P z ⊎ Q z) (sym e) (inl fl.0) | inr e ↦ subst (λ (z : ℕ). P z ⊎ Q z) (sym e) (inr fr.0) ],
      λ k h. elim h [ inl p ↦ let a : i ≤ k = fl.1 k p in omega arith | inr q ↦ let b : j ≤ k = fr.1 k q in omega arith ],
    )

-- only this index is like this
pub first_alone : (P : ℕ → Type 0) (at : ℕ) → P at → ((i : ℕ) → P i → i ≡ at) → IsFirstIndex P (Some at)
first_alone P at here only = (here, λ i h. let e : i ≡ at = only i h in omega arith)

-- there is one first index, or none
pub one_first : (P : ℕ → Type 0) (a b : Option ℕ) → IsFirstIndex P a → IsFirstIndex P b → a ≡ b
one_first P None None h k = refl
one_first P None (Some j) h k = absurd (h j k.0)
one_first P (Some i) None h k = absurd (k i h.0)
one_first P (Some i) (Some j) h k = let a : i ≤ j = h.1 j k.0 in let b : j ≤ i = k.1 i h.0 in let e : i ≡ j = omega arith in ap Some e

-- two counts of a repeat, the first not above the second
pub no_bad_range : (tokens : List Token) (least most from to : ℕ) → IsWholeAt tokens least from → from ≤ 63 → IsWholeAt tokens most to → to ≤ 63 → from ≤ to → (i : ℕ) → ¬ IsBadRange tokens least most i
no_bad_range tokens least most from to first few second small ordered i (inl bad) = bad.1 (from, first, few)
no_bad_range tokens least most from to first few second small ordered i (inr (inl bad)) = bad.1 (to, second, small)
no_bad_range tokens least most from to first few second small ordered i (inr (inr turned)) =
    let t = turned.1 in
    let a : t.first ≡ from = one_whole tokens least t.first from t.first_is first in
    let b : t.second ≡ to = one_whole tokens most t.second to t.second_is second in
    let c : t.second < t.first = t.turned in
    omega arith

pub first_of_guard_number : (tokens : List Token) (tree : GuardTree) (which relation number : ℕ) (o : Option ℕ) → tree ≡ Count which relation number → IsFirstIndex (IsBadNumber tokens 65535 number) o → IsFirstIndex (IsBadInGuard tokens (guard_node_of tree)) o
first_of_guard_number tokens tree which relation number o same h = subst (λ (z : GuardTree). IsFirstIndex (IsBadInGuard tokens (guard_node_of z)) o) (sym same) (as_guard o h)
  where
    as_guard : (o : Option ℕ) → IsFirstIndex (IsBadNumber tokens 65535 number) o → IsFirstIndex (IsBadInGuard tokens (CountAt which relation number)) o
    as_guard None h = h
    as_guard (Some i) h = h

module _ (tokens : List Token) where
  pub first_of_times : (tree : ProbeTree) (part : ProbeNode) (number : ℕ) (l r o : Option ℕ) → probe_node_of tree ≡ TimesOf part number → IsFirstIndex (BadCountAt tokens part) l → IsFirstIndex (IsBadNumber tokens 63 number) r → o ≡ earlier_index l r → IsFirstIndex (BadCountAt tokens (probe_node_of tree)) o
  first_of_times tree part number l r o same left right is =
      subst (λ (z : ProbeNode). IsFirstIndex (BadCountAt tokens z) o) (sym same) (as_node o (first_of_either (BadCountAt tokens part) (IsBadNumber tokens 63 number) l r o left right is))
    where
      as_node : (o : Option ℕ) → IsFirstIndex (λ i. BadCountAt tokens part i ⊎ IsBadNumber tokens 63 number i) o → IsFirstIndex (BadCountAt tokens (TimesOf part number)) o
      as_node None h = h
      as_node (Some i) h = h

  pub first_of_between : (tree : ProbeTree) (part : ProbeNode) (least most : ℕ) (l r o : Option ℕ) → probe_node_of tree ≡ BetweenOf part least most → IsFirstIndex (BadCountAt tokens part) l → IsFirstIndex (IsBadRange tokens least most) r → o ≡ earlier_index l r → IsFirstIndex (BadCountAt tokens (probe_node_of tree)) o
  first_of_between tree part least most l r o same left right is =
      subst (λ (z : ProbeNode). IsFirstIndex (BadCountAt tokens z) o) (sym same) (as_node o (first_of_either (BadCountAt tokens part) (IsBadRange tokens least most) l r o left right is))
    where
      as_node : (o : Option ℕ) → IsFirstIndex (λ i. BadCountAt tokens part i ⊎ IsBadRange tokens least most i) o → IsFirstIndex (BadCountAt tokens (BetweenOf part least most)) o
      as_node None h = h
      as_node (Some i) h = h
