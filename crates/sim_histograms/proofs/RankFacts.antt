-- Ranks by division, and items of a list by their rank.
use Rattle.std.proofs.Common.{◌≡◌, ℕ, zero, suc, ◌+◌, ◌-◌, ◌*◌, ◌/◌, ◌<◌, ◌≤◌, Bool, true, false, List, [], ◌∷◌, length, get_or, take, drop, count_by, nat_lt, nat_le, All, IsPermutation, arith, cond, refl, subst, inl, inr, length-drop}
use Rattle.std.proofs.Math.Nat.{div-lt_iff_lt-mul, mod-add-div', mul-le-mul_right}
use Rattle.std.proofs.lemmas.Bool.{le-ltb, le-leb, cases_order, cases_lt}
use Rattle.std.proofs.lemmas.Bool.Decides.{nat_tests}
use Rattle.std.proofs.lemmas.List.{get_or-take, get_or-drop, get_or_default, length-take-le}
use Rattle.std.proofs.lemmas.List.Sums.{sum_by-cons, sum_by-take-drop, count_by-le-length, sum_by-le-sum_by}
use Rattle.std.proofs.lemmas.List.Sorted.{sum_by-IsPermutation}
use Rattle.std.proofs.lemmas.List.Elements.{All-tail}
use Rattle.std.specs.List.Sorted.{IsNonDecreasing}
use Rattle.sim_histograms.specs.Ranks.{rank_of, IsRank, HasRank, IsQuantile, count_less, count_at_most}

below : (a whole c : ℕ) → 0 < whole → a < c * whole → a / whole < c
below a whole c h less = (div-lt_iff_lt-mul h).1 less

pub rank_is : (part whole n : ℕ) → 0 < whole → IsRank part whole n (rank_of part whole n)
unfolding rank_of
rank_is part whole n h =
    let a : ℕ = part * n + (whole - 1) in
    let split = mod-add-div' a whole in
    record {
      enough = omega arith;
      least = λ r enough. let less = below a whole (r + 1) h (omega arith) in omega arith;
    }

-- the rank for a part of some items is that of one of them
pub rank_within : (part whole n : ℕ) → 0 < n → 1 ≤ part → part ≤ whole
    → (1 ≤ rank_of part whole n) × (rank_of part whole n ≤ n)
rank_within part whole n some one proper =
    let is = rank_is part whole n (omega arith) in
    let le : part * n ≤ n * whole = omega (arith, mul-le-mul_right n proper) in
    let more : n ≤ part * n = omega (arith, mul-le-mul_right n one) in
    (positive (rank_of part whole n) is.enough more some, is.least n le)
  where
    positive : (r : ℕ) → part * n ≤ r * whole → n ≤ part * n → 0 < n → 1 ≤ r
    positive zero e m s = omega arith
    positive (suc r) e m s = omega arith

-- a list of which no element passes, and one of which each does
pub none_counted : {X : Type 0} (p : X → Bool) (xs : List X) → All (λ x. p x ≡ false) xs → count_by p xs ≡ 0
none_counted p [] none = refl
none_counted p (x ∷ xs) none =
    let first : p x ≡ false = none 0 x (omega arith) in
    let rest : count_by p xs ≡ 0 = none_counted p xs (All-tail (λ y. p y ≡ false) x xs none) in
    rw (sum_by-cons (λ y. cond (p y) 1 0) x xs, first, rest) refl

pub each_counted : {X : Type 0} (p : X → Bool) (xs : List X) → All (λ x. p x ≡ true) xs → count_by p xs ≡ length xs
each_counted p [] each = refl
each_counted p (x ∷ xs) each =
    let first : p x ≡ true = each 0 x (omega arith) in
    let rest : count_by p xs ≡ length xs = each_counted p xs (All-tail (λ y. p y ≡ true) x xs each) in
    rw (sum_by-cons (λ y. cond (p y) 1 0) x xs, first, rest) (omega arith)

-- the item at a place of an ascending list has the rank of the place
pub rank_at : (xs : List ℕ) (rank : ℕ) → IsNonDecreasing xs → 1 ≤ rank → rank ≤ length xs
    → HasRank xs rank (get_or xs (rank - 1) 0)
rank_at xs rank ascending one within =
    let x : ℕ = get_or xs (rank - 1) 0 in
    let less : ℕ → Bool = λ y. nat_lt y x in
    let most : ℕ → Bool = λ y. nat_le y x in
    let fewer : count_by less xs ≤ rank - 1 =
    let behind : count_by less (drop (rank - 1) xs) ≡ 0 = none_counted less (drop (rank - 1) xs) (λ k d short.
    let inside : rank - 1 + k < length xs = omega (arith, length-drop (rank - 1) xs) in
    rw (get_or-drop (rank - 1) xs k d, get_or_default xs (rank - 1 + k) d 0 inside)
    (le-ltb (get_or xs (rank - 1 + k) 0) x (ascending (rank - 1) (rank - 1 + k) 0 (omega arith) inside))) in
    omega (
      arith,
      behind,
      sum_by-take-drop (λ y. cond (less y) 1 0) xs (rank - 1),
      count_by-le-length less
          (take (rank - 1) xs),
      length-take-le (rank - 1) xs (omega arith),
    ) in
    let enough : rank ≤ count_by most xs =
    let front : count_by most (take rank xs) ≡ length (take rank xs) =
    each_counted most (take rank xs) (λ k d short.
    let inside : k < rank = omega (arith, length-take-le rank xs within) in
    rw (get_or-take rank xs k d inside, get_or_default xs k d 0 (omega arith))
    (le-leb (get_or xs k 0) x (ascending k (rank - 1) 0 (omega arith) (omega arith)))) in
    omega (arith, front, sum_by-take-drop (λ y. cond (most y) 1 0) xs rank, length-take-le rank xs within) in
    record { fewer = omega arith; enough = enough }

-- ranks don't depend on the order of a list
pub rank_in_any_order : (xs ys : List ℕ) (rank x : ℕ) → IsPermutation xs ys → HasRank ys rank x → HasRank xs rank x
rank_in_any_order xs ys rank x same has = record {
  fewer = subst (λ (n : ℕ). n < rank) (sum_by-IsPermutation (λ y. cond (nat_lt y x) 1 0) xs ys same) has.fewer;
  enough = subst (λ (n : ℕ). rank ≤ n) (sum_by-IsPermutation (λ y. cond (nat_le y x) 1 0) xs ys same) has.enough;
}

-- what is at most one number is less than a greater one
at_most_below : (xs : List ℕ) (x y : ℕ) → x < y → count_at_most x xs ≤ count_less y xs
at_most_below xs x y less = sum_by-le-sum_by (λ z. cond (nat_le z x) 1 0) (λ z. cond (nat_lt z y) 1 0) xs
    (λ z. ordered z)
  where
    ordered : (z : ℕ) → cond (nat_le z x) 1 0 ≤ cond (nat_lt z y) 1 0
    ordered z = grind (arith, nat_tests)

not_less : (xs : List ℕ) (rank x y : ℕ) → HasRank xs rank x → HasRank xs rank y → x < y → ⊥
not_less xs rank x y a b less = omega (arith, at_most_below xs x y less, a.enough, b.fewer)

-- a rank has one number
pub one_of_rank : (xs : List ℕ) (rank x y : ℕ) → HasRank xs rank x → HasRank xs rank y → x ≡ y
one_of_rank xs rank x y a b = elim (cases_order x y) [
  | inl same ↦ same
  | inr (inl less) ↦ absurd (not_less xs rank x y a b less)
  | inr (inr more) ↦ absurd (not_less xs rank y x b a more)
]

-- the number of the rank for a part is its quantile
pub quantile_of_rank : (xs : List ℕ) (part whole x : ℕ) → 0 < whole → HasRank xs (rank_of part whole (length xs)) x
    → IsQuantile xs part whole x
quantile_of_rank xs part whole x positive has =
    let is = rank_is part whole (length xs) positive in
    record {
      enough = omega (arith, is.enough, mul-le-mul_right whole has.enough);
      least = λ y enough. elim (cases_lt y x) [
        | inl less ↦ absurd (omega
            (arith, is.least (count_at_most y xs) enough, at_most_below xs y x less, has.fewer))
        | inr more ↦ more
      ];
    }
