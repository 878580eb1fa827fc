-- The text of rates.
use Rattle.std.specs.Prelude.{◌==◌, ◌&&◌, ℕ, Bool, List, ◌++◌, codes, decimal, if◌then◌else◌}
use Rattle.pepa_rates.specs.Fraction.{Fraction}
use Rattle.pepa_rates.specs.declared.rate.Rate.{Rate}
use Rattle.pepa_rates.specs.declared.rate.Rate.TheVariants.{Active, Passive}

-- `3`, or `3/4`
abbrev pub fraction_text : Fraction → List ℕ
fraction_text q = if q.den == 1 then decimal q.num else decimal q.num ++ codes "/" ++ decimal q.den

-- the fraction is 1
abbrev pub is_one : Fraction → Bool
is_one q = (q.num == 1) && (q.den == 1)

-- a passive rate is a multiple of `infty`: `infty`, or `2*infty`
abbrev pub weight_text : Fraction → List ℕ
weight_text q = if is_one q then codes "infty" else fraction_text q ++ codes "*infty"

-- an active rate is a number
abbrev pub rate_text : Rate → List ℕ
rate_text (Active q) = fraction_text q
rate_text (Passive q) = weight_text q
