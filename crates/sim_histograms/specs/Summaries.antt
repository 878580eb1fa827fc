-- Summaries of replications.
use Rattle.std.specs.Prelude.{◌≡◌, ℕ, ◌/◌, ◌↔◌, Bool, true, false, List, [], ◌∷◌, length, sum, count_by, Option, None, Some}
use Rattle.std.specs.List.{flat_map}
use Rattle.sim_replication.specs.declared.order.Order.{Order}
use Rattle.sim_replication.specs.declared.ran.Ran.{Ran}
use Rattle.sim_replication.specs.declared.ran.Ending.{Ending}
use Rattle.sim_replication.specs.declared.ran.Ending.TheVariants.{Done, Deadlock, JumpLimit}
use Rattle.sim_histograms.specs.Ranks.{IsOfRank, rank_of}
use Rattle.sim_histograms.specs.Histograms.{histogram_of}
use Rattle.sim_histograms.specs.declared.summaries.Summary.{Summary}

-- the lengths of the passages of all replications
abbrev pub passage_lengths : List Ran → List ℕ
passage_lengths ran = flat_map (λ r. r.passages) ran

-- two endings are the same
abbrev pub same_ending : Ending → Ending → Bool
same_ending Done Done = true
same_ending Deadlock Deadlock = true
same_ending JumpLimit JumpLimit = true
same_ending _ _ = false

-- how many replications ended so
abbrev pub count_ended : Ending → List Ran → ℕ
count_ended ending ran = count_by (λ r. same_ending r.ending ending) ran

-- the arithmetic mean, rounded down; none of an empty list
abbrev pub mean_of : List ℕ → Option ℕ
mean_of [] = None
mean_of (x ∷ xs) = Some (sum (x ∷ xs) / length (x ∷ xs))

-- the summary of replications of an order: how many there are and how many ended in each way; of the lengths of all
-- their passages how many there are, their mean, the least, three quantiles and the greatest; and their histogram
pub record IsSummary (order : Order) (ran : List Ran) (summary : Summary) : Type 0 where
  pub runs : summary.runs ≡ length ran
  pub done : summary.done ≡ count_ended Done ran
  pub deadlocked : summary.deadlocked ≡ count_ended Deadlock ran
  pub unfinished : summary.unfinished ≡ count_ended JumpLimit ran
  pub passages : summary.passages ≡ length (passage_lengths ran)
  pub mean : summary.mean ≡ mean_of (passage_lengths ran)
  pub least : IsOfRank (passage_lengths ran) 1 summary.least
  pub median : IsOfRank (passage_lengths ran) (rank_of 1 2 (length (passage_lengths ran))) summary.median
  pub p90 : IsOfRank (passage_lengths ran) (rank_of 9 10 (length (passage_lengths ran))) summary.p90
  pub p99 : IsOfRank (passage_lengths ran) (rank_of 99 100 (length (passage_lengths ran))) summary.p99
  pub greatest : IsOfRank (passage_lengths ran) (length (passage_lengths ran)) summary.greatest
  pub bins : summary.bins ≡ (histogram_of order.bin order.bins (passage_lengths ran)).each
  pub tail : summary.tail ≡ (histogram_of order.bin order.bins (passage_lengths ran)).tail

-- a time is there exactly where there are passages
abbrev pub IsTimeOf : ℕ → Option ℕ → Type 0
IsTimeOf passages time = (time ≡ None) ↔ (passages ≡ 0)

-- each of the six times is there exactly where there are passages
pub record HasTimes (summary : Summary) : Type 0 where
  pub mean : IsTimeOf summary.passages summary.mean
  pub least : IsTimeOf summary.passages summary.least
  pub median : IsTimeOf summary.passages summary.median
  pub p90 : IsTimeOf summary.passages summary.p90
  pub p99 : IsTimeOf summary.passages summary.p99
  pub greatest : IsTimeOf summary.passages summary.greatest
