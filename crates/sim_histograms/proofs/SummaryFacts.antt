-- The parts of a summary, from the sorted lengths.
use Rattle.std.proofs.Common.{◌≡◌, ℕ, ◌-◌, ◌*◌, ◌/◌, ◌^◌, ◌<◌, ◌≤◌, nat_le, List, [], ◌∷◌, length, get_or, sum, Option, None, Some, slice_get, All, IsPermutation, refl, sym, ap, ◌∙◌, subst, arith}
use Rattle.std.specs.List.Sorted.{IsNonDecreasing}
use Rattle.std.proofs.lemmas.Option.{slice_get-get_or}
use Rattle.std.proofs.Math.Nat.{div-lt_iff_lt-mul, mul-le-mul_right}
use Rattle.std.proofs.lemmas.List.Concat.{length-flat_map}
use Rattle.std.specs.List.{sum_by}
use Rattle.sim_replication.specs.Orders.{IsOrderInRange}
use Rattle.std.proofs.lemmas.List.Sums.{count_by-le-length, sum_by-le}
use Rattle.std.proofs.lemmas.List.Sorted.{sum_by-IsPermutation, length_permutation}
use Rattle.sim_replication.specs.declared.order.Order.{Order}
use Rattle.sim_replication.specs.declared.ran.Ran.{Ran}
use Rattle.sim_histograms.specs.Ranks.{HasRank, IsOfRank, rank_of}
use Rattle.sim_histograms.specs.Summaries.{IsSummary, IsTimeOf, HasTimes, mean_of, passage_lengths}
use Rattle.sim_histograms.specs.declared.summaries.Summary.{Summary}
use Rattle.sim_histograms.proofs.RankFacts.{rank_at, rank_in_any_order, rank_within, one_of_rank}

-- a list of the same length as an empty one
empty : {X : Type 0} (xs : List X) → length xs ≡ 0 → xs ≡ []
empty [] none = refl
empty (x ∷ xs) none = absurd (omega arith)

-- an item of the sorted list, for a list in any order
pub item_of_rank : (xs sorted : List ℕ) (rank : ℕ) → IsPermutation xs sorted → IsNonDecreasing sorted
    → (0 < length sorted → (1 ≤ rank) × (rank ≤ length sorted)) → IsOfRank xs rank (slice_get sorted (rank - 1))
item_of_rank xs sorted rank same ascending within = by sorted refl same ascending within
  where
    by : (ys : List ℕ) → sorted ≡ ys → IsPermutation xs ys → IsNonDecreasing ys
        → (0 < length ys → (1 ≤ rank) × (rank ≤ length ys)) → IsOfRank xs rank (slice_get ys (rank - 1))
    by [] is same ascending within = empty xs (sym (length_permutation xs [] same))
    by (y ∷ ys) is same ascending within =
        let inside = within (omega arith) in
        subst (IsOfRank xs rank) (sym (slice_get-get_or (y ∷ ys) (rank - 1) 0 (omega (arith, inside.0, inside.1))))
        (rank_in_any_order xs (y ∷ ys) rank (get_or (y ∷ ys) (rank - 1) 0) same
        (rank_at (y ∷ ys) rank ascending inside.0 inside.1))

-- the mean of a list that isn't empty
pub mean_is : (xs : List ℕ) → 0 < length xs → mean_of xs ≡ Some (sum xs / length xs)
mean_is [] some = absurd (omega arith)
mean_is (x ∷ xs) some = refl

pub mean_in_any_order : (xs ys : List ℕ) → IsPermutation xs ys → mean_of ys ≡ mean_of xs
mean_in_any_order xs ys same = by ys refl same
  where
    by : (zs : List ℕ) → ys ≡ zs → IsPermutation xs zs → mean_of zs ≡ mean_of xs
    by [] is same = rw (empty xs (sym (length_permutation xs [] same))) refl
    by (z ∷ zs) is same =
        let long = length_permutation xs (z ∷ zs) same in
        sym (mean_is xs (omega arith) ∙ rw (sym long, sym (sum_by-IsPermutation (λ n. n) xs (z ∷ zs) same)) refl)

-- an empty list has no ranks
no_rank : (xs : List ℕ) (rank x : ℕ) → xs ≡ [] → HasRank xs rank x → ⊥
no_rank xs rank x none has =
    omega (arith, has.fewer, has.enough, count_by-le-length (λ y. nat_le y x) xs, ap length none)

-- a time is there where there are passages
pub time_of_rank : (xs : List ℕ) (rank : ℕ) (time : Option ℕ) → IsOfRank xs rank time → IsTimeOf (length xs) time
time_of_rank xs rank None none = (λ _. ap length none, λ _. refl)
time_of_rank xs rank (Some x) has =
    (λ is. absurd cc, λ none. absurd (no_rank xs rank x (empty xs none) has))

pub time_of_mean : (xs : List ℕ) → IsTimeOf (length xs) (mean_of xs)
time_of_mean [] = (λ _. refl, λ _. refl)
time_of_mean (x ∷ xs) = (λ is. absurd cc, λ none. absurd (omega arith))

-- one number is of a rank
one_time : (xs : List ℕ) (rank : ℕ) (s t : Option ℕ) → IsOfRank xs rank s → IsOfRank xs rank t → s ≡ t
one_time xs rank None None a b = refl
one_time xs rank None (Some y) a b = absurd (no_rank xs rank y a b)
one_time xs rank (Some x) None a b = absurd (no_rank xs rank x b a)
one_time xs rank (Some x) (Some y) a b = ap (λ (n : ℕ). Some n) (one_of_rank xs rank x y a b)

pub times_there : (order : Order) (ran : List Ran) (s : Summary) → IsSummary order ran s → HasTimes s
times_there order ran s is =
    let xs : List ℕ = passage_lengths ran in
    let at : (n : ℕ) (time : Option ℕ) → n ≡ length xs → IsTimeOf (length xs) time → IsTimeOf n time =
    λ n time e h. subst (λ (m : ℕ). IsTimeOf m time) (sym e) h in
    record {
      mean = at s.passages s.mean is.passages (subst (IsTimeOf (length xs)) (sym is.mean) (time_of_mean xs));
      least = at s.passages s.least is.passages (time_of_rank xs 1 s.least is.least);
      median = at s.passages s.median is.passages (time_of_rank xs (rank_of 1 2 (length xs)) s.median is.median);
      p90 = at s.passages s.p90 is.passages (time_of_rank xs (rank_of 9 10 (length xs)) s.p90 is.p90);
      p99 = at s.passages s.p99 is.passages (time_of_rank xs (rank_of 99 100 (length xs)) s.p99 is.p99);
      greatest = at s.passages s.greatest is.passages (time_of_rank xs (length xs) s.greatest is.greatest);
    }

pub same_summary : (order : Order) (ran : List Ran) (s t : Summary) → IsSummary order ran s → IsSummary order ran t
    → s ≡ t
same_summary order ran s t a b =
    let xs : List ℕ = passage_lengths ran in
    rw (
      a.runs ∙ sym b.runs,
      a.done ∙ sym b.done,
      a.deadlocked ∙ sym b.deadlocked,
      a.unfinished ∙ sym b.unfinished,
      a.passages ∙ sym b.passages,
      a.mean ∙ sym b.mean,
      one_time xs 1 s.least t.least a.least b.least,
      one_time xs (rank_of 1 2 (length xs)) s.median t.median a.median b.median,
      one_time xs (rank_of 9 10 (length xs)) s.p90 t.p90 a.p90 b.p90,
      one_time xs (rank_of 99 100 (length xs)) s.p99 t.p99 a.p99 b.p99,
      one_time xs (length xs) s.greatest t.greatest a.greatest b.greatest,
      a.bins ∙ sym b.bins,
      a.tail ∙ sym b.tail,
    ) refl

-- the mean of numbers of 64 bits has 64 bits
pub mean_fits : (xs : List ℕ) (count total : ℕ) → All (λ x. x < 2 ^ 64) xs → count ≡ length xs → 0 < count
    → total ≡ sum xs → total / count < 2 ^ 64
mean_fits xs count total small long some is =
    let most : sum xs ≤ length xs * (2 ^ 64 - 1) = sum_by-le (λ n. n) (2 ^ 64 - 1) xs
    (λ k d short. let fits = small k d short in omega arith) in
    (div-lt_iff_lt-mul some).1 (omega arith)

-- an order in range has few passages
pub few_passages : (order : Order) (ran : List Ran) → IsOrderInRange order → length ran ≤ order.runs
    → All (λ r. length r.passages ≤ order.passages) ran → length (passage_lengths ran) < 2 ^ 32
few_passages order ran range runs passages =
    let count : Ran → ℕ = λ r. length r.passages in
    let all : length (passage_lengths ran) ≡ sum_by count ran = length-flat_map (λ r. r.passages) ran in
    let each : sum_by count ran ≤ length ran * order.passages = sum_by-le count order.passages ran passages in
    omega (arith, all, each, mul-le-mul_right order.passages runs, range.all_passages)

-- the numbers that are found in the list in ascending order have their ranks in the list in any order
pub rank_found : (xs sorted : List ℕ) (rank : ℕ) (found : Option ℕ) → IsPermutation xs sorted
    → IsNonDecreasing sorted
    → (0 < length sorted → (1 ≤ rank) × (rank ≤ length sorted)) → found ≡ slice_get sorted (rank - 1)
    → IsOfRank xs rank found
rank_found xs sorted rank found same ascending within is = subst (IsOfRank xs rank) (sym is)
    (item_of_rank xs sorted rank same ascending within)

pub least_found : (xs sorted : List ℕ) (found : Option ℕ) → IsPermutation xs sorted → IsNonDecreasing sorted
    → found ≡ slice_get sorted 0 → IsOfRank xs 1 found
least_found xs sorted found same ascending is = rank_found xs sorted 1 found same ascending
    (λ some. (omega arith, omega arith)) is

pub greatest_found : (xs sorted : List ℕ) (found : Option ℕ) → IsPermutation xs sorted → IsNonDecreasing sorted
    → found ≡ slice_get sorted (length sorted - 1) → IsOfRank xs (length xs) found
greatest_found xs sorted found same ascending is =
    rw (sym (length_permutation xs sorted same))
    (rank_found xs sorted (length sorted) found same ascending (λ some. (omega arith, omega arith)) is)

pub quantile_found : (xs sorted : List ℕ) (part whole : ℕ) (found : Option ℕ) → 1 ≤ part → part ≤ whole
    → IsPermutation xs sorted → IsNonDecreasing sorted
    → found ≡ slice_get sorted (rank_of part whole (length sorted) - 1)
    → IsOfRank xs (rank_of part whole (length xs)) found
quantile_found xs sorted part whole found one proper same ascending is =
    rw (sym (length_permutation xs sorted same))
    (rank_found xs sorted (rank_of part whole (length sorted)) found same ascending
    (λ some. rank_within part whole (length sorted) some one proper) is)
