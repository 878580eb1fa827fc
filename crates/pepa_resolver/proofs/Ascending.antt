-- Numbers in ascending order, each once.
use Rattle.std.proofs.Common.{◌≡◌, ℕ, zero, suc, ◌+◌, ◌<◌, Bool, true, false, nat_lt, nat_eq, if◌then◌else◌, List, [], ◌∷◌, length, get_or, ◌⊎◌, inl, inr, refl, sym, subst, arith}
use Rattle.std.specs.List.{Contains}
use Rattle.std.specs.List.Sorted.{IsStrictlyIncreasing}
use Rattle.std.proofs.lemmas.Bool.Decides.{nat_tests}
use Rattle.std.proofs.lemmas.List.Kept.{AllPairs-from_increasing}
use Rattle.pepa_resolver.specs.Named.{with_number, ascending_set}
use Rattle.node_orders.proofs.Elements.{no_element, contains_here, contains_there, contains_cases}

abbrev pub Ascends : List ℕ → Type 0
Ascends [] = Unit {0}
Ascends (x ∷ xs) = ((n : ℕ) → Contains xs n → x < n) × Ascends xs

-- ---- ascending lists with the same elements are the same

module _ (x y : ℕ) (xs ys : List ℕ) (up : Ascends (x ∷ xs)) (upper : Ascends (y ∷ ys)) where
  first_same : Contains (y ∷ ys) x → Contains (x ∷ xs) y → x ≡ y
  first_same there back =
      elim (contains_cases y ys x there) [
        | inl e ↦ sym e
        | inr h ↦ elim (contains_cases x xs y back) [ inl e ↦ e | inr k ↦ let a = upper.0 x h in let b = up.0 y k in absurd (omega arith) ]
      ]

  -- what stands behind the first stands behind the other first
  rest_there : x ≡ y → (n : ℕ) → Contains xs n → Contains (y ∷ ys) n → Contains ys n
  rest_there e n h there = elim (contains_cases y ys n there) [ inl k ↦ let lt = up.0 n h in absurd (omega arith) | inr k ↦ k ]

pub same_ascending : (xs ys : List ℕ) → Ascends xs → Ascends ys → ((n : ℕ) → Contains xs n → Contains ys n) → ((n : ℕ) → Contains ys n → Contains xs n) → xs ≡ ys
same_ascending [] [] up upper there back = refl
same_ascending [] (y ∷ ys) up upper there back = absurd (no_element y (back y (contains_here y ys)))
same_ascending (x ∷ xs) [] up upper there back = absurd (no_element x (there x (contains_here x xs)))
same_ascending (x ∷ xs) (y ∷ ys) up upper there back =
    let e = first_same x y xs ys up upper (there x (contains_here x xs)) (back y (contains_here y ys)) in
    let rest = same_ascending xs ys up.1 upper.1
    (λ n h. rest_there x y xs ys up upper e n h (there n (contains_there x xs n h)))
    (λ n h. rest_there y x ys xs upper up (sym e) n h (back n (contains_there y ys n h))) in
    cc

-- ---- what std calls ascending

increasing_rest : (x : ℕ) (xs : List ℕ) → IsStrictlyIncreasing (x ∷ xs) → IsStrictlyIncreasing xs
increasing_rest x xs up k lt =
    let e : suc k + 1 ≡ suc (k + 1) = omega arith in
    subst (λ (j : ℕ). get_or xs k 0 < get_or (x ∷ xs) j 0) e (up (suc k) (omega arith))

pub ascends_from : (xs : List ℕ) → IsStrictlyIncreasing xs → Ascends xs
ascends_from [] up = tt
ascends_from (x ∷ xs) up = (λ n h. first n h.0 h.1 h.2, ascends_from xs (increasing_rest x xs up))
  where
    first : (n k : ℕ) → k < length xs → get_or xs k n ≡ n → x < n
    first n k lt is =
        let below : x < get_or xs k n = AllPairs-from_increasing (x ∷ xs) up 0 (suc k) n (omega arith) (omega arith) in
        omega arith

pub increasing_from : (xs : List ℕ) → Ascends xs → IsStrictlyIncreasing xs
increasing_from [] up k lt = absurd (omega arith)
increasing_from (x ∷ []) up k lt = absurd (omega arith)
increasing_from (x ∷ y ∷ ys) up zero lt = up.0 y (contains_here y ys)
increasing_from (x ∷ y ∷ ys) up (suc k) lt =
    let e : suc (k + 1) ≡ suc k + 1 = omega arith in
    subst (λ (j : ℕ). get_or (y ∷ ys) k 0 < get_or (x ∷ y ∷ ys) j 0) e (increasing_from (y ∷ ys) up.1 k (omega arith))

-- ---- a number put into ascending ones

abbrev placed : ℕ → ℕ → List ℕ → Bool → Bool → List ℕ → List ℕ
placed n m ms below same rest = if below then n ∷ m ∷ ms else (if same then m ∷ ms else m ∷ rest)

put_there : (n : ℕ) (ms : List ℕ) → Contains (with_number n ms) n
put_there n [] = contains_here n []
put_there n (m ∷ ms) = by (nat_lt n m) (nat_eq n m) refl (put_there n ms)
  where
    by : (below same : Bool) → nat_eq n m ≡ same → Contains (with_number n ms) n → Contains (placed n m ms below same (with_number n ms)) n
    by true same e rest = contains_here n (m ∷ ms)
    by false true e rest = let k : n ≡ m = grind (arith, nat_tests) in subst (λ (x : ℕ). Contains (m ∷ ms) x) (sym k) (contains_here m ms)
    by false false e rest = contains_there m (with_number n ms) n rest

kept_there : (n : ℕ) (ms : List ℕ) (x : ℕ) → Contains ms x → Contains (with_number n ms) x
kept_there n [] x h = absurd (no_element x h)
kept_there n (m ∷ ms) x h = by (nat_lt n m) (nat_eq n m) (contains_cases m ms x h) (kept_there n ms x)
  where
    by : (below same : Bool) → (m ≡ x) ⊎ Contains ms x → (Contains ms x → Contains (with_number n ms) x) → Contains (placed n m ms below same (with_number n ms)) x
    by true same either rest = contains_there n (m ∷ ms) x h
    by false true either rest = h
    by false false (inl e) rest = subst (λ (y : ℕ). Contains (m ∷ with_number n ms) y) e (contains_here m (with_number n ms))
    by false false (inr k) rest = contains_there m (with_number n ms) x (rest k)

none_new : (n : ℕ) (ms : List ℕ) (x : ℕ) → Contains (with_number n ms) x → (n ≡ x) ⊎ Contains ms x
none_new n [] x h = contains_cases n [] x h
none_new n (m ∷ ms) x h = by (nat_lt n m) (nat_eq n m) h (none_new n ms x)
  where
    by : (below same : Bool) → Contains (placed n m ms below same (with_number n ms)) x → (Contains (with_number n ms) x → (n ≡ x) ⊎ Contains ms x) → (n ≡ x) ⊎ Contains (m ∷ ms) x
    by true same here rest = contains_cases n (m ∷ ms) x here
    by false true here rest = inr here
    by false false here rest =
        elim (contains_cases m (with_number n ms) x here) [
          | inl e ↦ inr (subst (λ (y : ℕ). Contains (m ∷ ms) y) e (contains_here m ms))
          | inr k ↦ elim (rest k) [ inl e ↦ inl e | inr r ↦ inr (contains_there m ms x r) ]
        ]

put_ascends : (n : ℕ) (ms : List ℕ) → Ascends ms → Ascends (with_number n ms)
put_ascends n [] up = (λ x h. absurd (no_element x h), tt)
put_ascends n (m ∷ ms) up = by (nat_lt n m) (nat_eq n m) refl refl (put_ascends n ms up.1)
  where
    by : (below same : Bool) → nat_lt n m ≡ below → nat_eq n m ≡ same → Ascends (with_number n ms) → Ascends (placed n m ms below same (with_number n ms))
    by true same b s rest =
        let lt : n < m = grind (arith, nat_tests) in
        (λ x h. elim (contains_cases m ms x h) [ inl e ↦ omega arith | inr k ↦ let more = up.0 x k in omega arith ], up)
    by false true b s rest = up
    by false false b s rest =
        let lt : m < n = grind (arith, nat_tests) in
        (λ x h. elim (none_new n ms x h) [ inl e ↦ omega arith | inr k ↦ up.0 x k ], rest)

-- ---- the set of some numbers

pub set_ascends : (xs : List ℕ) → Ascends (ascending_set xs)
set_ascends [] = tt
set_ascends (x ∷ xs) = put_ascends x (ascending_set xs) (set_ascends xs)

pub set_has : (xs : List ℕ) (n : ℕ) → Contains xs n → Contains (ascending_set xs) n
set_has [] n h = absurd (no_element n h)
set_has (x ∷ xs) n h =
    elim (contains_cases x xs n h) [
      | inl e ↦ subst (λ (y : ℕ). Contains (with_number x (ascending_set xs)) y) e (put_there x (ascending_set xs))
      | inr k ↦ kept_there x (ascending_set xs) n (set_has xs n k)
    ]

pub set_no_more : (xs : List ℕ) (n : ℕ) → Contains (ascending_set xs) n → Contains xs n
set_no_more [] n h = absurd (no_element n h)
set_no_more (x ∷ xs) n h =
    elim (none_new x (ascending_set xs) n h) [
      | inl e ↦ subst (λ (y : ℕ). Contains (x ∷ xs) y) e (contains_here x xs)
      | inr k ↦ contains_there x xs n (set_no_more xs n k)
    ]

pub is_set_of : (xs ys : List ℕ) → IsStrictlyIncreasing ys → ((n : ℕ) → Contains xs n → Contains ys n) → ((n : ℕ) → Contains ys n → Contains xs n) → ys ≡ ascending_set xs
is_set_of xs ys up there back =
    same_ascending ys (ascending_set xs) (ascends_from ys up) (set_ascends xs)
    (λ n h. set_has xs n (back n h)) (λ n h. there n (set_no_more xs n h))
