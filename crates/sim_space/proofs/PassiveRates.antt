-- Whether a passive rate is among those that a loop has gone through.
use Rattle.std.proofs.Common.{◌≡◌, ℕ, zero, suc, ◌+◌, ◌<◌, ◌⊎◌, inl, inr, List, [], ◌∷◌, ◌++◌, map, take, length, get_or, sym, ap, ◌∙◌, subst, arith}
use Rattle.std.proofs.lemmas.List.{map-append, take_more}
use Rattle.pepa_rates.specs.Fraction.{Fraction}
use Rattle.pepa_rates.specs.Sum.{fraction_of}
use Rattle.pepa_rates.specs.declared.rate.Rate.{Rate}
use Rattle.pepa_rates.specs.declared.rate.Rate.TheVariants.{Active}
use Rattle.pepa_model.specs.Derivation.{Among}
use Rattle.pepa_steps.specs.WholeVerdict.{IsPassive, HasPassive}
use Rattle.pepa_steps.proofs.ElementsOf.{from_append}

-- one more active rate at the end
still_active : (rates : List Rate) (rate : Rate) → (¬ HasPassive rates) → (¬ IsPassive rate) → ¬ HasPassive (rates ++ rate ∷ [])
still_active rates rate none active (r, among, passive) = by (from_append r rates (rate ∷ []) among)
  where
    by : Among r rates ⊎ Among r (rate ∷ []) → ⊥
    by (inl h) = none (r, h, passive)
    by (inr (inl e)) = active (subst IsPassive e passive)
    by (inr (inr h)) = absurd h

-- ---- rates, one after the other

pub passive_rate : (rates : List Rate) (i : ℕ) (rate : Rate) → i < length rates → rate ≡ get_or rates i rate → IsPassive rate → HasPassive rates
passive_rate [] i rate within is passive = absurd (omega arith)
passive_rate (r ∷ rates) zero rate within is passive = (rate, inl is, passive)
passive_rate (r ∷ rates) (suc i) rate within is passive =
    let rest = passive_rate rates i rate (omega arith) is passive in
    (rest.0, inr rest.1, rest.2)

-- one more active rate
pub active_rate : (rates : List Rate) (i : ℕ) (rate : Rate) (q : Fraction) (before after : List Fraction) → i < length rates → rate ≡ get_or rates i rate → rate ≡ Active q
    → (before ≡ map fraction_of (take i rates)) × (¬ HasPassive (take i rates)) → after ≡ before ++ q ∷ []
    → (after ≡ map fraction_of (take (i + 1) rates)) × (¬ HasPassive (take (i + 1) rates))
active_rate rates i rate q before after within is active (so_far, none) pushed =
    let more : take (i + 1) rates ≡ take i rates ++ rate ∷ [] = take_more rates i rate within ∙ ap (λ (r : Rate). take i rates ++ r ∷ []) (sym is) in
    let here : fraction_of rate ≡ q = ap fraction_of active in (
      pushed ∙ ap (λ (l : List Fraction). l ++ q ∷ []) so_far ∙ ap (λ (x : Fraction). map fraction_of (take i rates) ++ x ∷ []) (sym here)
          ∙ sym (map-append fraction_of (take i rates) (rate ∷ [])) ∙ ap (map fraction_of) (sym more),
      subst (λ (l : List Rate). ¬ HasPassive l) (sym more) (still_active (take i rates) rate none (λ passive. subst IsPassive active passive)),
    )
