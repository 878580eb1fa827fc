-- Searches for the least index, put together.
use Rattle.std.proofs.Common.{◌≡◌, ℕ, zero, suc, ◌<◌, ◌≤◌, min, ◌⊎◌, inl, inr, List, [], ◌∷◌, ◌++◌, map, get_or, Option, Some, None, refl, sym, subst, arith}
use Rattle.std.specs.List.{Contains}
use Rattle.std.proofs.lemmas.List.Elements.{Contains-append_left, Contains-append_right, Contains-append_cases}
use Rattle.node_orders.proofs.Elements.{one_element, contains_one}
use Rattle.pepa_resolver.specs.Finding.{FindsLeast, lesser_index, FindsIn}

-- where the same is meant
pub finds_same : (P Q : ℕ → Type 0) (o : Option ℕ) → ((i : ℕ) → P i → Q i) → ((i : ℕ) → Q i → P i) → FindsLeast P o → FindsLeast Q o
finds_same P Q None to from found = λ i h. found i (from i h)
finds_same P Q (Some i) to from found = record { stands = to i found.stands; least = λ j h. found.least j (from j h) }

le_cases : (i j : ℕ) → (i ≤ j) ⊎ (j ≤ i)
le_cases zero j = inl (omega arith)
le_cases (suc i) zero = inr (omega arith)
le_cases (suc i) (suc j) = elim (le_cases i j) [ inl a ↦ inl (omega arith) | inr b ↦ inr (omega arith) ]

-- what stands in either part
pub finds_either : (P Q R : ℕ → Type 0) (l r o : Option ℕ) → ((i : ℕ) → P i → R i) → ((i : ℕ) → Q i → R i) → ((i : ℕ) → R i → P i ⊎ Q i) → FindsLeast P l → FindsLeast Q r → o ≡ lesser_index l r → FindsLeast R o
finds_either P Q R l r o left right parts finds_l finds_r same = subst (FindsLeast R) (sym same) (both l r finds_l finds_r)
  where
    lesser : (i j : ℕ) → (i ≤ j) ⊎ (j ≤ i) → (min i j ≡ i) ⊎ (min i j ≡ j)
    lesser i j (inl le) = inl (omega arith)
    lesser i j (inr le) = inr (omega arith)

    chosen : (i j : ℕ) → (min i j ≡ i) ⊎ (min i j ≡ j)
    chosen i j = lesser i j (le_cases i j)

    both : (l r : Option ℕ) → FindsLeast P l → FindsLeast Q r → FindsLeast R (lesser_index l r)
    both None None fl fr = λ i h. elim (parts i h) [ inl p ↦ fl i p | inr q ↦ fr i q ]
    both None (Some j) fl fr = record { stands = right j fr.stands; least = λ i h. elim (parts i h) [ inl p ↦ absurd (fl i p) | inr q ↦ fr.least i q ] }
    both (Some j) None fl fr = record { stands = left j fl.stands; least = λ i h. elim (parts i h) [ inl p ↦ fl.least i p | inr q ↦ absurd (fr i q) ] }
    both (Some i) (Some j) fl fr = record {
      stands = elim (chosen i j) [ inl e ↦ subst R (sym e) (left i fl.stands) | inr e ↦ subst R (sym e) (right j fr.stands) ];
      least = λ k h. elim (parts k h) [ inl p ↦ let a : i ≤ k = fl.least k p in omega arith | inr q ↦ let b : j ≤ k = fr.least k q in omega arith ];
    }

-- ---- among indices

pub finds_one : (P : ℕ → Type 0) (at : ℕ) → P at → FindsIn P (at ∷ []) (Some at)
finds_one P at p = record { stands = (contains_one at, p); least = λ j h. let e : at ≡ j = one_element at j h.0 in omega arith }

pub finds_none : (P : ℕ → Type 0) (at : ℕ) → ¬ P at → FindsIn P (at ∷ []) None
finds_none P at not i h = let e : at ≡ i = one_element at i h.0 in not (subst P (sym e) h.1)

pub finds_append : (P : ℕ → Type 0) (xs ys : List ℕ) (l r o : Option ℕ) → FindsIn P xs l → FindsIn P ys r → o ≡ lesser_index l r → FindsIn P (xs ++ ys) o
finds_append P xs ys l r o fl fr same =
    finds_either (λ i. Contains xs i × P i) (λ i. Contains ys i × P i) (λ i. Contains (xs ++ ys) i × P i) l r o
    (λ i h. (Contains-append_left xs ys i h.0, h.1)) (λ i h. (Contains-append_right xs ys i h.0, h.1))
    (λ i h. elim (Contains-append_cases xs ys i h.0) [ inl a ↦ inl (a, h.1) | inr b ↦ inr (b, h.1) ])
    fl fr same

least_none : (o : Option ℕ) → o ≡ lesser_index o None
least_none None = refl
least_none (Some i) = refl

-- one more index
pub finds_more : (P : ℕ → Type 0) (xs : List ℕ) (at : ℕ) (found next : Option ℕ) → FindsIn P xs found → P at → next ≡ lesser_index found (Some at) → FindsIn P (xs ++ at ∷ []) next
finds_more P xs at found next h p same = finds_append P xs (at ∷ []) found (Some at) next h (finds_one P at p) same

pub finds_no_more : (P : ℕ → Type 0) (xs : List ℕ) (at : ℕ) (found : Option ℕ) → FindsIn P xs found → ¬ P at → FindsIn P (xs ++ at ∷ []) found
finds_no_more P xs at found h not = finds_append P xs (at ∷ []) found None found h (finds_none P at not) (least_none found)
