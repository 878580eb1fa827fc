-- Replications have a summary.
use Rattle.std.proofs.Common.{◌≡◌, ◌⊎◌, ℕ, zero, suc, ◌+◌, ◌<◌, ◌≤◌, List, [], ◌∷◌, length, cond, nat_lt, nat_le, Option, None, Some, inl, inr, refl, arith}
use Rattle.std.proofs.lemmas.Bool.{cases_lt}
use Rattle.std.proofs.lemmas.Bool.Decides.{nat_tests}
use Rattle.std.proofs.lemmas.List.Sums.{sum_by-cons, sum_by-le-sum_by}
use Rattle.sim_replication.specs.declared.order.Order.{Order}
use Rattle.sim_replication.specs.declared.ran.Ran.{Ran}
use Rattle.sim_replication.specs.declared.ran.Ending.TheVariants.{Done, Deadlock, JumpLimit}
use Rattle.sim_histograms.specs.Ranks.{HasRank, IsOfRank, rank_of, count_less, count_at_most}
use Rattle.sim_histograms.specs.Histograms.{histogram_of}
use Rattle.sim_histograms.specs.Summaries.{IsSummary, passage_lengths, count_ended, mean_of}
use Rattle.sim_histograms.specs.declared.summaries.Summary.{Summary}
use Rattle.sim_histograms.proofs.RankFacts.{rank_within}

-- none is less than 0, and what is less than the next number is at most this one
none_less : (xs : List ℕ) → count_less 0 xs ≡ 0
none_less [] = refl
none_less (x ∷ xs) =
    let here : ◌≡◌ {A = ℕ} (cond (nat_lt x 0) 1 0) 0 = grind (arith, nat_tests) in
    let rest = none_less xs in
    let split = sum_by-cons (λ y. cond (nat_lt y 0) 1 0) x xs in
    omega (arith, here, rest, split)

less_than_next : (n : ℕ) (xs : List ℕ) → count_less (suc n) xs ≤ count_at_most n xs
less_than_next n xs = sum_by-le-sum_by (λ y. cond (nat_lt y (suc n)) 1 0) (λ y. cond (nat_le y n) 1 0) xs each where
  each : (y : ℕ) → cond (nat_lt y (suc n)) 1 0 ≤ cond (nat_le y n) 1 0
  each y = grind (arith, nat_tests)

-- from some number on each number of the list is counted
abbrev IsBound : List ℕ → ℕ → Type 0
IsBound xs bound = (c : ℕ) → bound ≤ c → length xs ≤ count_at_most c xs

some_bound : (xs : List ℕ) → (bound : ℕ) × IsBound xs bound
some_bound [] = (0, λ c h. omega arith)
some_bound (x ∷ xs) =
    let rest = some_bound xs in (
      x + rest.0,
      λ c h.
          let here : ◌≡◌ {A = ℕ} (cond (nat_le x c) 1 0) 1 = one x c (omega (arith, h)) in
          let more : length xs ≤ count_at_most c xs = rest.1 c (omega (arith, h)) in
          let split = sum_by-cons (λ y. cond (nat_le y c) 1 0) x xs in
          omega (arith, here, more, split),
    )
  where
    one : (x c : ℕ) → x ≤ c → ◌≡◌ {A = ℕ} (cond (nat_le x c) 1 0) 1
    one x c h = grind (arith, nat_tests)

-- the least number at or below which there are so many has this rank
rank_up_to : (xs : List ℕ) (rank n : ℕ) → 1 ≤ rank → rank ≤ count_at_most n xs → (x : ℕ) × HasRank xs rank x
rank_up_to xs rank zero one enough = (0, record { fewer = let none = none_less xs in omega (arith, none, one); enough = enough })
rank_up_to xs rank (suc n) one enough = by (cases_lt (count_at_most n xs) rank) (rank_up_to xs rank n one) where
  by : (count_at_most n xs < rank) ⊎ (rank ≤ count_at_most n xs) → (rank ≤ count_at_most n xs → (x : ℕ) × HasRank xs rank x) → (x : ℕ) × HasRank xs rank x
  by (inl fewer) down = (suc n, record { fewer = let less = less_than_next n xs in omega (arith, less, fewer); enough = enough })
  by (inr more) down = down more

some_of_rank : (xs : List ℕ) (rank : ℕ) → (0 < length xs → (1 ≤ rank) × (rank ≤ length xs)) → (found : Option ℕ) × IsOfRank xs rank found
some_of_rank [] rank within = (None, refl)
some_of_rank (x ∷ xs) rank within =
    let (one, few) = within (omega arith) in
    let bound = some_bound (x ∷ xs) in
    let found = rank_up_to (x ∷ xs) rank bound.0 one (omega (arith, few, bound.1 bound.0 (omega arith))) in
    (Some found.0, found.1)

pub some_summary : (order : Order) (rans : List Ran) → (summary : Summary) × IsSummary order rans summary
some_summary order rans =
    let lengths = passage_lengths rans in
    let n = length lengths in
    let least = some_of_rank lengths 1 (λ some. (omega arith, omega (arith, some))) in
    let median = some_of_rank lengths (rank_of 1 2 n) (λ some. rank_within 1 2 n some (omega arith) (omega arith)) in
    let p90 = some_of_rank lengths (rank_of 9 10 n) (λ some. rank_within 9 10 n some (omega arith) (omega arith)) in
    let p99 = some_of_rank lengths (rank_of 99 100 n) (λ some. rank_within 99 100 n some (omega arith) (omega arith)) in
    let greatest = some_of_rank lengths n (λ some. (omega (arith, some), omega arith)) in
    let bins = histogram_of order.bin order.bins lengths in (
      record {
        runs = length rans;
        done = count_ended Done rans;
        deadlocked = count_ended Deadlock rans;
        unfinished = count_ended JumpLimit rans;
        passages = n;
        mean = mean_of lengths;
        least = least.0;
        median = median.0;
        p90 = p90.0;
        p99 = p99.0;
        greatest = greatest.0;
        bins = bins.each;
        tail = bins.tail;
      },
      record {
        runs = refl;
        done = refl;
        deadlocked = refl;
        unfinished = refl;
        passages = refl;
        mean = refl;
        least = least.1;
        median = median.1;
        p90 = p90.1;
        p99 = p99.1;
        greatest = greatest.1;
        bins = refl;
        tail = refl;
      },
    )
