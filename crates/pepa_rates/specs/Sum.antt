-- Sums of rates (Hillston, A Compositional Approach to Performance Modelling, 1996, chapter 3): two rates of one
-- kind add up, and an active and a passive one have no sum.
use Rattle.std.specs.Prelude.{◌≡◌, ◌+◌, ◌*◌, Result, Ok, Err}
use Rattle.pepa_rates.specs.Fraction.{Fraction, reduced, InRange}
use Rattle.pepa_rates.specs.declared.rate.Rate.{Rate}
use Rattle.pepa_rates.specs.declared.rate.Rate.TheVariants.{Active, Passive}
use Rattle.pepa_rates.specs.declared.rate.RateFault.{RateFault}
use Rattle.pepa_rates.specs.declared.rate.RateFault.TheVariants.{Mixed, Overflow}

-- the exact sum of two fractions
abbrev pub sum_of : Fraction → Fraction → Fraction
sum_of p q = reduced (p.num * q.den + q.num * p.den) (p.den * q.den)

-- two rates of one kind have a sum; two kinds have none
pub data RateSum : Type 0 where
  Adds : Rate → RateSum
  NoSum : RateSum

-- the sum of two rates, however large
abbrev pub rate_sum : Rate → Rate → RateSum
rate_sum (Active p) (Active q) = Adds (Active (sum_of p q))
rate_sum (Passive p) (Passive q) = Adds (Passive (sum_of p q))
rate_sum (Active p) (Passive q) = NoSum
rate_sum (Passive p) (Active q) = NoSum

-- the rate's fraction
abbrev pub fraction_of : Rate → Fraction
fraction_of (Active q) = q
fraction_of (Passive q) = q

-- the result for a sum: the sum itself if it is in range, and why it is refused if not
abbrev pub Gives : RateSum → Result Rate RateFault → Type 0
Gives (Adds rate) (Ok r) = (r ≡ rate) × InRange (fraction_of rate)
Gives (Adds rate) (Err Overflow) = ¬ InRange (fraction_of rate)
Gives (Adds rate) (Err Mixed) = ⊥
Gives NoSum (Ok r) = ⊥
Gives NoSum (Err Mixed) = Unit {0}
Gives NoSum (Err Overflow) = ⊥

-- the result of adding two rates
abbrev pub IsSumOf : Rate → Rate → Result Rate RateFault → Type 0
IsSumOf a b result = Gives (rate_sum a b) result
