-- Apparent rates (Hillston 1996, chapter 3): the total rate at which a component performs an action type.
use Rattle.std.specs.Prelude.{◌≡◌, ◌==◌, ℕ, if◌then◌else◌, ⊤}
use Rattle.pepa_rates.specs.declared.rate.Rate.{Rate}
use Rattle.pepa_rates.specs.declared.rate.RateFault.{RateFault}
use Rattle.pepa_rates.specs.declared.rate.RateFault.TheVariants.{Mixed, Overflow}
use Rattle.pepa_rates.specs.Fraction.{InRange}
use Rattle.pepa_rates.specs.Sum.{RateSum, Adds, NoSum, rate_sum, fraction_of}
use Rattle.pepa_model.specs.Opened.{Opened, OpenPrefix, OpenChoice, OpenConst}

-- a component may not perform the action at all, may perform it at a rate, or have no rate for it, where an active and a
-- passive rate meet
pub data Apparent : Type 0 where
  NoRate : Apparent
  Rated : Rate → Apparent
  Undefined : Apparent

abbrev pub apparent_of_sum : RateSum → Apparent
apparent_of_sum (Adds r) = Rated r
apparent_of_sum NoSum = Undefined

-- the apparent rate of a choice: an operand that doesn't perform the action adds nothing
abbrev pub together : Apparent → Apparent → Apparent
together NoRate y = y
together (Rated r) NoRate = Rated r
together (Rated r) (Rated s) = apparent_of_sum (rate_sum r s)
together (Rated r) Undefined = Undefined
together Undefined y = Undefined

-- a prefix has its rate for its own action type; a constant has its body's
abbrev pub apparent_rate : Opened → ℕ → Apparent
apparent_rate (OpenPrefix a r next) b = if a == b then Rated r else NoRate
apparent_rate (OpenChoice p q) b = together (apparent_rate p b) (apparent_rate q b)
apparent_rate (OpenConst c p) b = apparent_rate p b

-- the apparent rate is defined and in range
abbrev pub IsFine : Apparent → Type 0
IsFine NoRate = ⊤
IsFine (Rated r) = InRange (fraction_of r)
IsFine Undefined = ⊥

-- what is wrong with an apparent rate: two kinds meet, or it isn't in range
abbrev pub HasFault : Apparent → RateFault → Type 0
HasFault NoRate f = ⊥
HasFault (Rated r) f = (f ≡ Overflow) × ¬ (InRange (fraction_of r))
HasFault Undefined f = f ≡ Mixed
