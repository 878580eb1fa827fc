-- Lists of transitions that can be chosen from, without their targets, and what is chosen.
use Rattle.std.specs.Prelude.{◌≡◌, ℕ, ◌+◌, ◌<◌, ◌≤◌, ◌^◌, List, map, length, sum, take}
use Rattle.pepa_rates.specs.Fraction.{Fraction}
use Rattle.pepa_rates.specs.Sum.{fraction_of}
use Rattle.pepa_rates.specs.Weights.{common_den, weight_of, weights_of}
use Rattle.pepa_model.specs.PepaModel.{PepaModel}
use Rattle.pepa_steps.specs.States.{State, StateTransition}
use Rattle.pepa_steps.specs.Rules.{IsTransitionList}
use Rattle.pepa_steps.specs.StateVerdict.{IsWithoutFault}
use Rattle.pepa_steps.specs.WholeVerdict.{HasPassive, AreWeighed, rates_of}
use Rattle.pepa_steps.specs.Combined.{entry_of}
use Rattle.pepa_steps.specs.declared.entries.Entry.{Entry}
use Rattle.sim_space.specs.declared.space.Jump.{Jump}
use Rattle.sim_space.specs.declared.space.Loaded.{Loaded}

-- the rates of entries, which are active
abbrev pub fractions_in : List Entry → List Fraction
fractions_in entries = map (λ e. fraction_of e.rate) entries

-- the weight of each: its rate over the least common denominator of all
abbrev pub weights_in : List Entry → List ℕ
weights_in entries = weights_of (fractions_in entries)

-- an entry of the list, with its weight
abbrev pub jump_of : List Entry → Entry → Jump
jump_of entries e = record {
  action = e.action;
  signals = e.signals;
  rate = fraction_of e.rate;
  weight = weight_of (common_den (fractions_in entries)) (fraction_of e.rate);
}

-- the length of the list, the sum of its weights and their denominator
abbrev pub loaded_of : List Entry → Loaded
loaded_of entries = record { len = length entries; whole = sum (weights_in entries); den = common_den (fractions_in entries) }

-- what is told of a list that was loaded, and that these numbers are in range
pub record IsLoaded (entries : List Entry) (loaded : Loaded) : Type 0 where
  pub same : loaded ≡ loaded_of entries
  pub short : loaded.len ≤ 65535
  pub whole_fits : loaded.whole < 2 ^ 62
  pub den_fits : loaded.den < 2 ^ 62
  pub positive : 0 < loaded.len → 0 < loaded.whole

-- the entries are the transitions of a state that no verdict names a stop for: no part of it has a fault, none is passive, and
-- they have weights
pub record IsChoiceList (m : PepaModel) (state : State) (entries : List Entry) : Type 0 where
  pub fine : IsWithoutFault m.bodies state
  pub transitions : List StateTransition
  pub listed : IsTransitionList m.bodies state transitions
  pub active : ¬ HasPassive (rates_of transitions)
  pub weighed : AreWeighed (rates_of transitions)
  pub same : entries ≡ map entry_of transitions

-- the first index whose weight, added to those before it, is above the number
pub record IsChosen (weights : List ℕ) (number index : ℕ) : Type 0 where
  pub in_list : index < length weights
  pub above : number < sum (take (index + 1) weights)
  pub first : (k : ℕ) → k ≤ index → sum (take k weights) ≤ number

-- a list was loaded with this sum of its weights, and the number is below it
abbrev pub CanChooseBy : List Entry → ℕ → Type 0
CanChooseBy entries number = (loaded : Loaded) × IsLoaded entries loaded × (number < loaded.whole)
