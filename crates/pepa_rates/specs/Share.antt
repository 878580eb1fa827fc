-- The lesser of two rates, and the rate of an activity that two components perform together (Hillston, A
-- Compositional Approach to Performance Modelling, 1996, chapter 3).
use Rattle.std.specs.Prelude.{◌≡◌, ◌*◌, Bool, nat_lt, if◌then◌else◌, ◌⊎◌, Result, Ok, Err}
use Rattle.pepa_rates.specs.Fraction.{Fraction, reduced, InRange, SameNumber}
use Rattle.pepa_rates.specs.Sum.{fraction_of}
use Rattle.pepa_rates.specs.declared.rate.Rate.{Rate}
use Rattle.pepa_rates.specs.declared.rate.Rate.TheVariants.{Active, Passive}
use Rattle.pepa_rates.specs.declared.frac.RateOverflow.{RateOverflow}

-- p is a lesser number than q, by the cross products
abbrev pub less : Fraction → Fraction → Bool
less p q = nat_lt (p.num * q.den) (q.num * p.den)

-- the lesser of two fractions; the first where they are one number
abbrev pub lesser_of : Fraction → Fraction → Fraction
lesser_of p q = if less q p then q else p

-- the lesser of two rates: every active rate is below every passive one, and two of one kind compare as numbers
abbrev pub least_of : Rate → Rate → Rate
least_of (Active p) (Active q) = Active (lesser_of p q)
least_of (Passive p) (Passive q) = Passive (lesser_of p q)
least_of (Active p) (Passive q) = Active p
least_of (Passive p) (Active q) = Active q

-- both rates are active, or both are passive
abbrev pub SameKind : Rate → Rate → Type 0
SameKind (Active p) (Active q) = Unit {0}
SameKind (Passive p) (Passive q) = Unit {0}
SameKind (Active p) (Passive q) = ⊥
SameKind (Passive p) (Active q) = ⊥

-- two rates are of one kind and the same number
abbrev pub SameRate : Rate → Rate → Type 0
SameRate a b = SameKind a b × SameNumber (fraction_of a) (fraction_of b)

-- the exact product of two fractions
abbrev pub product_of : Fraction → Fraction → Fraction
product_of p q = reduced (p.num * q.num) (p.den * q.den)

-- the exact quotient of two fractions
abbrev pub quotient_of : Fraction → Fraction → Fraction
quotient_of p q = reduced (p.num * q.den) (p.den * q.num)

-- the rate of this one's kind that has this fraction
abbrev pub with_fraction : Rate → Fraction → Rate
with_fraction (Active p) q = Active q
with_fraction (Passive p) q = Passive q

-- (r1/ra) * (r2/rb) * least(ra, rb), however large, of the kind of least(ra, rb): the rate at which an activity of
-- rate r1 and one of rate r2 happen together, where the apparent rates of their action are ra and rb
abbrev pub share_of : Rate → Rate → Rate → Rate → Rate
share_of r1 ra r2 rb =
    let least = least_of ra rb in
    let first = quotient_of (fraction_of r1) (fraction_of ra) in
    let second = quotient_of (fraction_of r2) (fraction_of rb) in
    with_fraction least (product_of (product_of first second) (fraction_of least))

-- the result for a rate: the rate itself if it is in range, and refused if not
abbrev pub IsRateInRange : Rate → Result Rate RateOverflow → Type 0
IsRateInRange rate (Ok r) = (r ≡ rate) × InRange (fraction_of rate)
IsRateInRange rate (Err e) = ¬ InRange (fraction_of rate)

-- this is the lesser of two rates, and that the other one
abbrev pub IsInOrder : (a b least other : Rate) → Type 0
IsInOrder a b least other = (least ≡ least_of a b) × (((least ≡ a) × (other ≡ b)) ⊎ ((least ≡ b) × (other ≡ a)))
