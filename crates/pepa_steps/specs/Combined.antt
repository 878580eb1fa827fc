-- Entries of both sides of a cooperation, and the entries of the cooperation with where they come from.
use Rattle.std.specs.Prelude.{◌≡◌, ℕ, ◌+◌, ◌<◌, ◌≤◌, bit_or, true, List, [], ◌∷◌, ◌++◌, map, length, Result, Ok, Err}
use Rattle.std.specs.List.{AllByRecursion, Contains}
use Rattle.fault_ends.specs.Answers.{OkOrFault}
use Rattle.fault_ends.specs.declared.end.End.{End}
use Rattle.pepa_rates.specs.declared.frac.RateOverflow.{RateOverflow}
use Rattle.pepa_rates.specs.declared.rate.Rate.{Rate}
use Rattle.pepa_rates.specs.Fraction.{InRange}
use Rattle.pepa_rates.specs.Share.{SameKind, share_of}
use Rattle.pepa_rates.specs.Sum.{fraction_of}
use Rattle.pepa_model.specs.Apparent.{Rated}
use Rattle.pepa_steps.specs.Moves.{Move, move, has, cooperation}
use Rattle.pepa_steps.specs.OpenStates.{rate_of}
use Rattle.pepa_steps.specs.ActionRates.{rate_in}
use Rattle.pepa_steps.specs.StateVerdict.{PartFault, OfRates, OfLength, OfDerivation}
use Rattle.pepa_steps.specs.StepsAnswers.{fault_name}
use Rattle.pepa_steps.specs.declared.entries.Entry.{Entry}
use Rattle.pepa_steps.specs.declared.entries.Origin.{Origin}
use Rattle.pepa_steps.specs.declared.entries.Origin.TheVariants.{Left, Right, Both}
use Rattle.pepa_steps.specs.declared.entries.Derived.{Derived}
use Rattle.pepa_steps.specs.declared.transitions.StepsEnd.{StepsEnd}
use Rattle.pepa_steps.specs.declared.transitions.StepsEnd.TheVariants.{Fault, Memory}

-- a transition without its target
abbrev pub entry_of : {X : Type 0} → Move X → Entry
entry_of u = record { action = u.action; signals = u.signals; rate = u.rate }

abbrev pub target_of : {X : Type 0} → Move X → X
target_of u = u.target

-- the entries, each leading to its own place, from this place on
abbrev pub numbered : ℕ → List Entry → List (Move ℕ)
numbered at [] = []
numbered at (e ∷ es) = move e.action e.signals e.rate at ∷ numbered (at + 1) es

-- the rate that the entries have for an action; where there is none it doesn't matter what stands for it
abbrev pub rate_at : List (ℕ × Rate) → ℕ → Rate
rate_at rates action = rate_of (rate_in rates action)

-- the entries of a cooperation, each leading to where it comes from, where these are the sides' apparent rates
abbrev pub combined : List ℕ → List (ℕ × Rate) → List (ℕ × Rate) → List Entry → List Entry → List (Move Origin)
combined types l r us vs = cooperation Left Right Both types (rate_at l) (rate_at r) (numbered 0 us) (numbered 0 vs)

-- ---- what is asked of the sides

-- the entry has an apparent rate, of its own kind
abbrev pub IsRatedBy : List (ℕ × Rate) → Entry → Type 0
IsRatedBy rates e = (rate : Rate) × (rate_in rates e.action ≡ Rated rate) × SameKind e.rate rate

-- each entry by a type in the set has one
abbrev pub AreRatedBy : List ℕ → List (ℕ × Rate) → List Entry → Type 0
AreRatedBy types rates es = (e : Entry) → Contains es e → has types e.action ≡ true → IsRatedBy rates e

-- each entry by this action has one
abbrev pub AreRatedFor : ℕ → List (ℕ × Rate) → List Entry → Type 0
AreRatedFor action rates es = (e : Entry) → Contains es e → action ≡ e.action → IsRatedBy rates e

-- the rates of the entries are in range
abbrev pub AreInRangeBy : List Entry → Type 0
AreInRangeBy es = AllByRecursion (λ e. InRange (fraction_of e.rate)) es

-- ---- what is made

abbrev pub AreMovesInRange : {X : Type 0} → List (Move X) → Type 0
AreMovesInRange us = AllByRecursion (λ u. InRange (fraction_of u.rate)) us

-- these are added, with where each comes from
pub record AddsEntries (old new : List Entry) (origins_old origins_new : List Origin) (us : List (Move Origin)) : Type 0 where
  pub entries : new ≡ old ++ map entry_of us
  pub origins : origins_new ≡ origins_old ++ map target_of us

abbrev pub AddsTo : Derived → Derived → List (Move Origin) → Type 0
AddsTo old new us = AddsEntries old.entries.items new.entries.items old.origins.items new.origins.items us

-- and their rates are in range
abbrev pub HasAdded : Derived → Derived → List (Move Origin) → Type 0
HasAdded old new us = AddsTo old new us × AreMovesInRange us

-- they are added, and their rates are in range; else one isn't
abbrev pub AddsJoint : Derived → Derived → List (Move Origin) → Result (Unit {0}) (End RateOverflow) → Type 0
AddsJoint old new us result = OkOrFault result (λ _. HasAdded old new us) (λ overflow. ¬ AreMovesInRange us)

-- the entry of both, whose rate is in range; else that it isn't
abbrev pub IsJointEntry : Entry → Rate → Entry → Rate → Result Entry (End RateOverflow) → Type 0
IsJointEntry u ra v rb result =
    OkOrFault result
    (λ made. (made ≡ record { action = u.action; signals = bit_or u.signals v.signals; rate = share_of u.rate ra v.rate rb }) × InRange (fraction_of (share_of u.rate ra v.rate rb)))
    (λ overflow. ¬ InRange (fraction_of (share_of u.rate ra v.rate rb)))

-- what is wrong with the list of a part whose apparent rates are in order
abbrev pub HasListFault : {X : Type 0} → List (Move X) → PartFault → Type 0
HasListFault us (OfRates fault) = ⊥
HasListFault us OfLength = 65535 < length us
HasListFault us OfDerivation = (length us ≤ 65535) × (¬ AreMovesInRange us)

-- these are added, and nothing is wrong with them; else what is, or that memory ran out
abbrev pub AnswersCombined : Derived → Derived → List (Move Origin) → Result (Unit {0}) StepsEnd → Type 0
AnswersCombined old new us (Ok _) = HasAdded old new us × (length us ≤ 65535)
AnswersCombined old new us (Err (Fault name)) = (fault : PartFault) × HasListFault us fault × (name ≡ fault_name fault)
AnswersCombined old new us (Err Memory) = Unit {0}
