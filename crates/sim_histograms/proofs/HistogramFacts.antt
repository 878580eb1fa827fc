-- Histograms: one passage lies in one bin, or in the tail.
use Rattle.std.proofs.Common.{◌≡◌, ℕ, zero, suc, ◌+◌, ◌*◌, ◌/◌, ◌^◌, ◌<◌, ◌≤◌, Bool, true, false, cond, nat_lt, nat_le, List, [], ◌∷◌, ◌++◌, length, get_or, set, map, take, sum, count_by, replicate, IsPermutation, refl, sym, ap, ◌∙◌, inl, inr, arith, length-set, ◌⊎◌, zero-add, get_or-set_same, get_or-set_other}
use Rattle.std.specs.List.{range_with_len}
use Rattle.std.proofs.Math.Nat.{mul-le-mul_right, mod-add-div', mod-lt}
use Rattle.std.proofs.lemmas.Bool.{le-ltb, lt-ltb, le-leb, lt-leb, and_from, and_left, and_right, cases_eq, cases_lt}
use Rattle.std.proofs.lemmas.List.{get_or-replicate, get_or_default, length-replicate, take_all, take_more}
use Rattle.std.proofs.lemmas.List.FromFn.{fill_by_all, get_or-map-range_with_len, length-map-range_with_len}
use Rattle.std.proofs.lemmas.List.Sums.{sum_by-set, sum_by_push}
use Rattle.std.proofs.lemmas.List.Folds.{sum_by-replicate}
use Rattle.std.proofs.lemmas.List.Sorted.{sum_by-IsPermutation}
use Rattle.sim_histograms.specs.Histograms.{HistogramCounts, histogram_of, with_passage, one_more_if, is_in_bin, is_in_tail, ticks_in}

-- the number of the bin of a length
abbrev pub place_of : ℕ → ℕ → ℕ
place_of bin ticks = ticks / (bin * 2 ^ 32)

-- what is left of a length after whole bins
left_over : (bin ticks : ℕ) → 1 ≤ bin
    → (place_of bin ticks * bin * 2 ^ 32 ≤ ticks) × (ticks < place_of bin ticks * bin * 2 ^ 32 + bin * 2 ^ 32)
left_over bin ticks one =
    let split = mod-add-div' ticks (bin * 2 ^ 32) in
    let less = mod-lt ticks {m = bin * 2 ^ 32} (omega arith) in
    (omega arith, omega arith)

pub in_its_bin : (bin ticks : ℕ) → 1 ≤ bin → is_in_bin bin (place_of bin ticks) ticks ≡ true
in_its_bin bin ticks one =
    let q : ℕ = place_of bin ticks in
    let left = left_over bin ticks one in
    and_from (nat_le (ticks_in (q * bin)) ticks) (nat_lt ticks (ticks_in ((q + 1) * bin)))
    (le-leb (ticks_in (q * bin)) ticks left.0) (lt-ltb ticks (ticks_in ((q + 1) * bin)) (omega arith))

pub in_no_other : (bin ticks number : ℕ) → 1 ≤ bin → (number ≡ place_of bin ticks → ⊥)
    → is_in_bin bin number ticks ≡ false
in_no_other bin ticks number one other =
    let q : ℕ = place_of bin ticks in
    let left = left_over bin ticks one in
    elim (cases_lt number q) [
      | inl less ↦
          let far = mul-le-mul_right {m = number + 1} {n = q} bin (omega arith) in
          and_right (nat_le (ticks_in (number * bin)) ticks) (nat_lt ticks (ticks_in ((number + 1) * bin)))
          (le-ltb ticks (ticks_in ((number + 1) * bin)) (omega arith))
      | inr more ↦
          let far = mul-le-mul_right {m = q + 1} {n = number} bin (omega arith) in
          and_left (nat_le (ticks_in (number * bin)) ticks) (nat_lt ticks (ticks_in ((number + 1) * bin)))
          (lt-leb (ticks_in (number * bin)) ticks (omega arith))
    ]

pub in_tail : (bin bins ticks : ℕ) → 1 ≤ bin → bins ≤ place_of bin ticks → is_in_tail bin bins ticks ≡ true
in_tail bin bins ticks one past =
    let left = left_over bin ticks one in
    let far = mul-le-mul_right {m = bins} {n = place_of bin ticks} bin past in
    le-leb (ticks_in (bins * bin)) ticks (omega arith)

pub not_in_tail : (bin bins ticks : ℕ) → 1 ≤ bin → place_of bin ticks < bins → is_in_tail bin bins ticks ≡ false
not_in_tail bin bins ticks one within =
    let left = left_over bin ticks one in
    let far = mul-le-mul_right {m = place_of bin ticks + 1} {n = bins} bin (omega arith) in
    lt-leb (ticks_in (bins * bin)) ticks (omega arith)

-- a list of counts with one more at a place
abbrev pub bumped : List ℕ → ℕ → List ℕ
bumped each place = set each place (get_or each place 0 + 1)

-- what the counts of the bins are with one passage more
abbrev pub bins_with : ℕ → ℕ → List ℕ → List ℕ
bins_with bin ticks each =
    map (λ number. one_more_if (is_in_bin bin number ticks) (get_or each number 0)) (range_with_len 0 (length each))

pub one_bin_more : (bin ticks : ℕ) (each : List ℕ) → 1 ≤ bin → place_of bin ticks < length each
    → bins_with bin ticks each ≡ bumped each (place_of bin ticks)
one_bin_more bin ticks each one within =
    let q : ℕ = place_of bin ticks in
    sym (fill_by_all (λ k. one_more_if (is_in_bin bin k ticks) (get_or each k 0)) (bumped each q) (length each) 0
    (length-set each q (get_or each q 0 + 1)) (λ k short. at k short (cases_eq k q)))
  where
    at : (k : ℕ) → k < length each → (k ≡ place_of bin ticks) ⊎ (k ≡ place_of bin ticks → ⊥)
        → get_or (bumped each (place_of bin ticks)) k 0 ≡ one_more_if (is_in_bin bin k ticks) (get_or each k 0)
    at k short (inl same) =
        let q : ℕ = place_of bin ticks in
        rw (same, get_or-set_same each q (get_or each q 0 + 1) 0 within, in_its_bin bin ticks one) refl
    at k short (inr other) =
        let q : ℕ = place_of bin ticks in
        rw (get_or-set_other each q k (get_or each q 0 + 1) 0 other, in_no_other bin ticks k one other) refl

pub no_bin_more : (bin ticks : ℕ) (each : List ℕ) → 1 ≤ bin → length each ≤ place_of bin ticks
    → bins_with bin ticks each ≡ each
no_bin_more bin ticks each one past =
    sym (fill_by_all (λ k. one_more_if (is_in_bin bin k ticks) (get_or each k 0)) each (length each) 0 refl
    (λ k short. at k short))
  where
    at : (k : ℕ) → k < length each → get_or each k 0 ≡ one_more_if (is_in_bin bin k ticks) (get_or each k 0)
    at k short = rw (in_no_other bin ticks k one (λ same. omega arith)) refl

-- a histogram of these parts with one passage more: in a bin, and in the tail
pub added_to_bin : (bin ticks tail : ℕ) (each : List ℕ) → 1 ≤ bin → place_of bin ticks < length each
    → with_passage (record { bin = bin; each = each; tail = tail }) ticks
    ≡ record { bin = bin; each = bumped each (place_of bin ticks); tail = tail }
added_to_bin bin ticks tail each one within =
    rw (one_bin_more bin ticks each one within, not_in_tail bin (length each) ticks one within) refl

pub added_to_tail : (bin ticks tail : ℕ) (each : List ℕ) → 1 ≤ bin → length each ≤ place_of bin ticks
    → with_passage (record { bin = bin; each = each; tail = tail }) ticks
    ≡ record { bin = bin; each = each; tail = tail + 1 }
added_to_tail bin ticks tail each one past =
    rw (no_bin_more bin ticks each one past, in_tail bin (length each) ticks one past) refl

-- the same as the code has it, with the width of a bin and the count read from elsewhere
pub bin_set : (bin wide ticks tail count : ℕ) (each : List ℕ) → 1 ≤ bin → wide ≡ bin
    → ticks / (wide * 2 ^ 32) < length each
    → count ≡ get_or each (ticks / (wide * 2 ^ 32)) count
    → record { bin = bin; each = set each (ticks / (wide * 2 ^ 32)) (count + 1); tail = tail }
    ≡ with_passage (record { bin = bin; each = each; tail = tail }) ticks
bin_set bin wide ticks tail count each one same within at =
    let e : count ≡ get_or each (ticks / (wide * 2 ^ 32)) 0 = at
    ∙ get_or_default each (ticks / (wide * 2 ^ 32)) count 0 within in
    let found : place_of bin ticks < length each = rw (sym same) within in
    ap (λ (n : ℕ). record { bin = bin; each = set each (ticks / (wide * 2 ^ 32)) (n + 1); tail = tail }) e
    ∙ ap (λ (w : ℕ). record { bin = bin; each = bumped each (ticks / (w * 2 ^ 32)); tail = tail }) same
    ∙ sym (added_to_bin bin ticks tail each one found)

pub tail_set : (bin wide ticks tail : ℕ) (each : List ℕ) → 1 ≤ bin → wide ≡ bin
    → length each ≤ ticks / (wide * 2 ^ 32)
    → record { bin = bin; each = each; tail = tail + 1 }
    ≡ with_passage (record { bin = bin; each = each; tail = tail }) ticks
tail_set bin wide ticks tail each one same past =
    let found : length each ≤ place_of bin ticks = rw (sym same) past in
    sym (added_to_tail bin ticks tail each one found)

-- all counts together
abbrev pub all_counts : HistogramCounts → ℕ
all_counts h = sum h.each + h.tail

pub one_count_more : (h : HistogramCounts) (ticks : ℕ) → 1 ≤ h.bin
    → all_counts (with_passage h ticks) ≡ all_counts h + 1
one_count_more h ticks one = elim (cases_lt (place_of h.bin ticks) (length h.each)) [
  | inl within ↦
      let q : ℕ = place_of h.bin ticks in
      let more = sum_by-set (λ n. n) h.each q (get_or h.each q 0 + 1) 0 within in
      ap all_counts (added_to_bin h.bin ticks h.tail h.each one within) ∙ omega arith
  | inr past ↦ ap all_counts (added_to_tail h.bin ticks h.tail h.each one past) ∙ omega arith
]

-- no passages
pub empty_bins : (bin bins : ℕ) → histogram_of bin bins [] ≡ record { bin = bin; each = replicate bins 0; tail = 0 }
empty_bins bin bins =
    let none : replicate bins 0 ≡ map (λ number. count_by (is_in_bin bin number) []) (range_with_len 0 bins) =
    fill_by_all (λ number. 0) (replicate bins 0) bins 0 (length-replicate bins 0)
    (λ k short. get_or-replicate bins k 0 0 short) in
    rw (sym none) refl

-- a count with one element more
counted_more : (p : ℕ → Bool) (xs : List ℕ) (x : ℕ) → count_by p (xs ++ x ∷ []) ≡ one_more_if (p x) (count_by p xs)
counted_more p xs x = sum_by_push (λ y. cond (p y) 1 0) xs x ∙ by (p x) (count_by p xs)
  where
    by : (b : Bool) (n : ℕ) → n + cond b 1 0 ≡ one_more_if b n
    by true n = refl
    by false n = omega arith

pub histogram_more : (bin bins ticks : ℕ) (lengths : List ℕ)
    → histogram_of bin bins (lengths ++ ticks ∷ []) ≡ with_passage (histogram_of bin bins lengths) ticks
histogram_more bin bins ticks lengths =
    let before : ℕ → ℕ = λ number. count_by (is_in_bin bin number) lengths in
    let after : ℕ → ℕ = λ number. count_by (is_in_bin bin number) (lengths ++ ticks ∷ []) in
    let each : List ℕ = map before (range_with_len 0 bins) in
    let long : length each ≡ bins = length-map-range_with_len before 0 bins in
    let bins_are : map after (range_with_len 0 bins)
    ≡ map (λ number. one_more_if (is_in_bin bin number ticks) (get_or each number 0)) (range_with_len 0 bins) =
    fill_by_all (λ number. one_more_if (is_in_bin bin number ticks) (get_or each number 0))
    (map after (range_with_len 0 bins)) bins 0 (length-map-range_with_len after 0 bins) (λ k short.
    get_or-map-range_with_len after 0 bins k k 0 short (zero-add k) ∙ counted_more (is_in_bin bin k) lengths ticks
    ∙ ap (λ (n : ℕ). one_more_if (is_in_bin bin k ticks) n)
    (sym (get_or-map-range_with_len before 0 bins k k 0 short (zero-add k)))) in
    rw (long, bins_are, counted_more (is_in_tail bin bins) lengths ticks) refl

-- each passage counts once
pub counted_once : (bin bins : ℕ) (lengths : List ℕ) → 1 ≤ bin
    → all_counts (histogram_of bin bins lengths) ≡ length lengths
counted_once bin bins lengths one =
    ap (λ (xs : List ℕ). all_counts (histogram_of bin bins xs))
    (sym (take_all (length lengths) lengths (omega arith)))
    ∙ first (length lengths) (omega arith)
  where
    first : (i : ℕ) → i ≤ length lengths → all_counts (histogram_of bin bins (take i lengths)) ≡ i
    first zero within = ap all_counts (empty_bins bin bins) ∙ omega (arith, sum_by-replicate (λ n. n) bins 0)
    first (suc i) within =
        let front : List ℕ = take i lengths in
        let ticks : ℕ = get_or lengths i 0 in
        let before : all_counts (histogram_of bin bins front) ≡ i = first i (omega arith) in
        let more : all_counts (histogram_of bin bins (take (i + 1) lengths)) ≡ i + 1 =
        ap (λ (xs : List ℕ). all_counts (histogram_of bin bins xs)) (take_more lengths i 0 (omega arith))
        ∙ ap all_counts (histogram_more bin bins ticks front)
        ∙ one_count_more (histogram_of bin bins front) ticks one
        ∙ ap (λ (n : ℕ). n + 1) before in
        let next : suc i ≡ i + 1 = omega arith in
        rw next more

-- the order of the passages doesn't matter
pub histogram_in_any_order : (bin bins : ℕ) (xs ys : List ℕ) → IsPermutation xs ys
    → histogram_of bin bins ys ≡ histogram_of bin bins xs
histogram_in_any_order bin bins xs ys same =
    let before : ℕ → ℕ = λ number. count_by (is_in_bin bin number) ys in
    let after : ℕ → ℕ = λ number. count_by (is_in_bin bin number) xs in
    let bins_are : map before (range_with_len 0 bins) ≡ map after (range_with_len 0 bins) =
    fill_by_all after (map before (range_with_len 0 bins)) bins 0 (length-map-range_with_len before 0 bins)
    (λ k short.
    get_or-map-range_with_len before 0 bins k k 0 short (zero-add k)
    ∙ sum_by-IsPermutation (λ x. cond (is_in_bin bin k x) 1 0) xs ys same) in
    rw (bins_are, sum_by-IsPermutation (λ x. cond (is_in_tail bin bins x) 1 0) xs ys same) refl
