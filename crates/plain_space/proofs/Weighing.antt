-- Entries whose rates a loop has gone through.
use Rattle.std.proofs.Common.{◌≡◌, ℕ, zero, suc, ◌+◌, ◌<◌, ◌≤◌, List, [], ◌∷◌, ◌++◌, All, map, take, length, get_or, refl, sym, ap, ◌∙◌, subst, arith}
use Rattle.std.proofs.lemmas.List.{length-map, take_all}
use Rattle.std.proofs.lemmas.Simd.{map-map}
use Rattle.pepa_rates.specs.Fraction.{Fraction}
use Rattle.pepa_rates.specs.Sum.{fraction_of}
use Rattle.pepa_rates.specs.declared.rate.Rate.{Rate}
use Rattle.pepa_rates.specs.declared.rate.Rate.TheVariants.{Active}
use Rattle.pepa_steps.specs.WholeVerdict.{IsPassive, HasPassive}
use Rattle.pepa_steps.specs.declared.entries.Entry.{Entry}
use Rattle.sim_space.specs.LoadedLists.{fractions_in}
use Rattle.sim_space.proofs.PassiveRates.{passive_rate, active_rate}
use Rattle.plain_space.specs.PlainLists.{rates_listed}

rate_at : (entries : List Entry) (i : ℕ) (e : Entry) → i < length entries → e ≡ get_or entries i e → e.rate ≡ get_or (rates_listed entries) i e.rate
rate_at [] i e within is = absurd (omega arith)
rate_at (x ∷ entries) zero e within is = ap (λ (y : Entry). y.rate) is
rate_at (x ∷ entries) (suc i) e within is = rate_at entries i e (omega arith) is

rates_long : (entries : List Entry) → length (rates_listed entries) ≡ length entries
rates_long entries = length-map entries (λ (x : Entry). x.rate)

pub passive_entry : (entries : List Entry) (i : ℕ) (e : Entry) → i < length entries → e ≡ get_or entries i e → IsPassive e.rate → HasPassive (rates_listed entries)
passive_entry entries i e within is passive =
    passive_rate (rates_listed entries) i e.rate (omega (arith, rates_long entries, within)) (rate_at entries i e within is) passive

pub active_entry : (entries : List Entry) (i : ℕ) (e : Entry) (q : Fraction) (before after : List Fraction) → i < length entries → e ≡ get_or entries i e → e.rate ≡ Active q
    → before ≡ map fraction_of (take i (rates_listed entries)) → (¬ HasPassive (take i (rates_listed entries))) → after ≡ before ++ q ∷ []
    → (after ≡ map fraction_of (take (i + 1) (rates_listed entries))) × (¬ HasPassive (take (i + 1) (rates_listed entries)))
active_entry entries i e q before after within is active so_far none pushed =
    active_rate (rates_listed entries) i e.rate q before after (omega (arith, rates_long entries, within)) (rate_at entries i e within is) active (so_far, none) pushed

pub all_rates : (entries : List Entry) (i : ℕ) → length entries ≤ i → take i (rates_listed entries) ≡ rates_listed entries
all_rates entries i whole = take_all i (rates_listed entries) (omega (arith, rates_long entries, whole))

pub fractions_are : (entries : List Entry) → map fraction_of (rates_listed entries) ≡ fractions_in entries
fractions_are entries = map-map fraction_of (λ (x : Entry). x.rate) entries
