-- Ranks in a list of numbers, and quantiles by rank.
use Rattle.std.specs.Prelude.{◌≡◌, ℕ, ◌+◌, ◌-◌, ◌*◌, ◌/◌, ◌<◌, ◌≤◌, nat_le, nat_lt, List, [], length, count_by, Option, MatchOption}

-- the rank, from 1, for the part of n items that part / whole is: the quotient rounded up
unfoldable pub rank_of : ℕ → ℕ → ℕ → ℕ
rank_of part whole n = (part * n + (whole - 1)) / whole

-- the least rank that is at least such a part of n
pub record IsRank (part whole n rank : ℕ) : Type 0 where
  pub enough : part * n ≤ rank * whole
  pub least : (r : ℕ) → part * n ≤ r * whole → rank ≤ r

-- how many numbers of the list are less than this one
abbrev pub count_less : ℕ → List ℕ → ℕ
count_less x xs = count_by (λ y. nat_lt y x) xs

-- how many numbers of the list are at most this one
abbrev pub count_at_most : ℕ → List ℕ → ℕ
count_at_most x xs = count_by (λ y. nat_le y x) xs

-- the number of this rank, from 1, in a list in any order: so many are at most as great, and fewer are less
pub record HasRank (xs : List ℕ) (rank x : ℕ) : Type 0 where
  pub fewer : count_less x xs < rank
  pub enough : rank ≤ count_at_most x xs

-- the number of this rank, or none where the list is empty
abbrev pub IsOfRank : List ℕ → ℕ → Option ℕ → Type 0
IsOfRank xs rank found = MatchOption found (xs ≡ []) (HasRank xs rank)

-- the quantile for a part: the least number at or below which there is such a part of the list (R. Hyndman and
-- Y. Fan, Sample Quantiles in Statistical Packages, 1996, definition 1)
pub record IsQuantile (xs : List ℕ) (part whole x : ℕ) : Type 0 where
  pub enough : part * length xs ≤ count_at_most x xs * whole
  pub least : (y : ℕ) → part * length xs ≤ count_at_most y xs * whole → x ≤ y
