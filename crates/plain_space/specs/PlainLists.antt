-- What a plain space is seen as, and what it finds of a list.
use Rattle.std.specs.Prelude.{◌≡◌, ⊤, ℕ, Option, Some, None, List, [], map, Result, Ok, Err, All}
use Rattle.pepa_rates.specs.Fraction.{Fraction, IsProper}
use Rattle.pepa_rates.specs.Weights.{IsScaleOf, HaveWeights}
use Rattle.pepa_rates.specs.declared.rate.Rate.{Rate}
use Rattle.pepa_rates.specs.declared.weight_list.Scale.{Scale}
use Rattle.pepa_model.specs.PepaModel.{PepaModel, IsModel}
use Rattle.pepa_model.specs.declared.term.Term.{Term}
use Rattle.pepa_steps.specs.Traces.{AreFor, HasList, entries_in}
use Rattle.pepa_steps.specs.WholeVerdict.{HasPassive}
use Rattle.pepa_steps.specs.declared.entries.Entry.{Entry}
use Rattle.pepa_steps.specs.declared.buffers.Buffers.{Buffers}
use Rattle.sim_space.specs.LoadedLists.{fractions_in, weights_in}
use Rattle.sim_space.specs.declared.space.Halt.{Halt}
use Rattle.sim_space.specs.declared.space.Halt.TheVariants.{Memory, Full, Stop}
use Rattle.sim_space.specs.declared.stop.Stop.TheVariants.{PassiveLeft, WeightOverflow}
use Rattle.plain_space.specs.declared.lists.Lists.{Lists}

-- the model, and the buffers where a list is loaded
pub record PlainView : Type 0 where
  pub model : PepaModel
  pub buffers : Option Buffers

-- the entries of the loaded list; none where none is loaded
abbrev pub loaded_entries : Option Buffers → List Entry
loaded_entries None = []
loaded_entries (Some buffers) = entries_in buffers

-- the loaded list is the term's
abbrev pub IsLoadedAt : PlainView → Term → Type 0
IsLoadedAt view term = (buffers : Buffers) × (view.buffers ≡ Some buffers) × HasList view.model term buffers

abbrev pub rates_listed : List Entry → List Rate
rates_listed entries = map (λ e. e.rate) entries

-- the fractions are the rates of the entries, in lowest terms, and the weights are theirs
pub record AreWeighedEntries (entries : List Entry) (rates : List Fraction) (each : List ℕ) : Type 0 where
  pub active : ¬ HasPassive (rates_listed entries)
  pub rates_are : rates ≡ fractions_in entries
  pub each_are : each ≡ weights_in entries
  pub proper : All IsProper rates

-- what weighing answers for the entries; want of memory says nothing
abbrev pub AnswersWeighing : List Entry → List Fraction → List ℕ → Result Scale Halt → Type 0
AnswersWeighing entries rates each (Ok scale) = AreWeighedEntries entries rates each × IsScaleOf (fractions_in entries) (Ok scale)
AnswersWeighing entries rates each (Err (Stop PassiveLeft)) = HasPassive (rates_listed entries)
AnswersWeighing entries rates each (Err (Stop WeightOverflow)) = (¬ HasPassive (rates_listed entries)) × (¬ HaveWeights (fractions_in entries))
AnswersWeighing entries rates each (Err (Stop _)) = ⊥
AnswersWeighing entries rates each (Err Full) = ⊥
AnswersWeighing entries rates each (Err Memory) = ⊤

abbrev pub buffers_of : Lists → Buffers
buffers_of lists = lists.buffers

-- the model is sound, and the loaded list is one of it, with its weights
abbrev pub IsPlainInside : PepaModel → Option Lists → Type 0
IsPlainInside m None = IsModel m
IsPlainInside m (Some lists) = IsModel m × AreFor m lists.buffers × AreWeighedEntries (entries_in lists.buffers) lists.rates.items lists.each.items
