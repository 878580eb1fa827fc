-- What the apparent rates of cooperations are made of.
use Rattle.std.specs.Prelude.{◌≡◌, ◌≢◌, ℕ, not, if◌then◌else◌, List, filter, Result}
use Rattle.std.specs.BTreeMap.{BTreeMap}
use Rattle.pepa_rates.specs.declared.rate.Rate.{Rate}
use Rattle.pepa_model.specs.Apparent.{Apparent, Rated}
use Rattle.pepa_steps.specs.States.{has}
use Rattle.pepa_steps.specs.OpenStates.{least_if_both}
use Rattle.pepa_steps.specs.ActionRates.{rate_in, AllFine}
use Rattle.pepa_rates.specs.declared.rate.RateFault.{RateFault}
use Rattle.fault_ends.specs.Answers.{OkOrFault}
use Rattle.fault_ends.specs.declared.end.End.{End}

-- new is old with this rate for the action, which replaces another one
pub record SetsRate (old new : List (ℕ × Rate)) (action : ℕ) (rate : Rate) : Type 0 where
  pub here : rate_in new action ≡ Rated rate
  pub elsewhere : (other : ℕ) → other ≢ action → rate_in new other ≡ rate_in old other

abbrev pub AnswersSetting : List (ℕ × Rate) → List (ℕ × Rate) → ℕ → Rate → Result (Unit {0}) (End RateFault) → Type 0
AnswersSetting old new action rate result = OkOrFault result (λ _. SetsRate old new action rate) (λ fault. ⊥)

-- the entries are these rates, which have no fault
abbrev pub MakesRates : (ℕ → Apparent) → Result (BTreeMap ℕ Rate) (End RateFault) → Type 0
MakesRates rates result =
    OkOrFault result (λ found. AllFine found.entries × ((action : ℕ) → rate_in found.entries action ≡ rates action)) (λ fault. ⊥)

-- the rate of the left side by a type outside the set, and the lesser of both sides' by one in it
abbrev pub left_rate : List ℕ → List (ℕ × Rate) → ℕ → Apparent → Apparent
left_rate types right action rate = if has types action then least_if_both rate (rate_in right action) else rate

abbrev pub rates_of_left : List ℕ → List (ℕ × Rate) → List (ℕ × Rate) → ℕ → Apparent
rates_of_left types left right action = left_rate types right action (rate_in left action)

-- the entries of the types outside the set
abbrev pub rates_outside : List ℕ → List (ℕ × Rate) → List (ℕ × Rate)
rates_outside types entries = filter (λ e. not (has types e.0)) entries
