-- The apparent rates of leaves that are kept.
use Rattle.std.specs.Prelude.{◌≡◌, ℕ, ◌⊎◌, Some, List, slice_get, Result, Ok, Err}
use Rattle.std.specs.Ordering.{nat_cmp}
use Rattle.std.specs.BTreeMap.{BTreeMap, is_at}
use Rattle.std.specs.Map.{lookup}
use Rattle.pepa_rates.specs.declared.rate.Rate.{Rate}
use Rattle.pepa_model.specs.Expression.{Expression}
use Rattle.pepa_model.specs.Opened.{Opened, Opens}
use Rattle.pepa_model.specs.PepaModel.{PepaModel}
use Rattle.pepa_steps.specs.ActionRates.{AnswersRates}
use Rattle.pepa_rates.specs.declared.rate.RateFault.{RateFault}
use Rattle.fault_ends.specs.Answers.{OkOrFault}
use Rattle.fault_ends.specs.declared.end.End.{End}
use Rattle.fault_ends.specs.declared.end.End.TheVariants.{Fault, Memory}
use Rattle.pepa_steps.specs.declared.leaf_rates.LeafRates.{LeafRates}
use Rattle.pepa_steps.specs.declared.leaf_rates.LeafRates.TheVariants.{Rated, Faulty}

-- the answer of the leaf of this number: its apparent rates, or the first fault of its parts
abbrev pub AnswersLeaf : PepaModel → ℕ → Result (BTreeMap ℕ Rate) (End RateFault) → Type 0
AnswersLeaf m leaf result = (e : Expression) → slice_get m.leaves leaf ≡ Some e → (o : Opened) → Opens m.bodies e o → AnswersRates o result

-- what is kept, as that answer
abbrev pub kept_of : LeafRates → Result (BTreeMap ℕ Rate) (End RateFault)
kept_of (Rated rates) = Ok rates
kept_of (Faulty fault) = Err (Fault fault)

abbrev pub IsKeptRates : PepaModel → ℕ → LeafRates → Type 0
IsKeptRates m leaf found = AnswersLeaf m leaf (kept_of found)

-- what is kept of each leaf is its own
abbrev pub AreKeptRates : PepaModel → List (ℕ × LeafRates) → Type 0
AreKeptRates m kept = (leaf : ℕ) (found : LeafRates) → lookup (is_at (nat_cmp leaf)) kept ≡ Some found → IsKeptRates m leaf found

abbrev pub IsFoundRates : PepaModel → ℕ → Result LeafRates (End RateFault) → Type 0
IsFoundRates m leaf result = OkOrFault result (IsKeptRates m leaf) (λ fault. ⊥)

-- the same rates, or the fault; or memory ran out
abbrev pub AnswersKept : LeafRates → Result (BTreeMap ℕ Rate) (End RateFault) → Type 0
AnswersKept (Rated rates) (Ok copy) = copy.entries ≡ rates.entries
AnswersKept (Faulty fault) (Ok copy) = ⊥
AnswersKept (Rated rates) (Err (Fault other)) = ⊥
AnswersKept (Faulty fault) (Err (Fault other)) = fault ≡ other
AnswersKept found (Err Memory) = Unit {0}

-- one more is kept, in place of what was kept of the leaf; else nothing is changed
abbrev pub AnswersKeeping : List (ℕ × LeafRates) → List (ℕ × LeafRates) → ℕ → LeafRates → Result (Unit {0}) (End RateFault) → Type 0
AnswersKeeping old new leaf found (Ok _) = (other : ℕ) (kept : LeafRates) → lookup (is_at (nat_cmp other)) new ≡ Some kept → ((other ≡ leaf) × (kept ≡ found)) ⊎ (lookup (is_at (nat_cmp other)) old ≡ Some kept)
AnswersKeeping old new leaf found (Err (Fault fault)) = ⊥
AnswersKeeping old new leaf found (Err Memory) = new ≡ old
