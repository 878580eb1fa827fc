-- What is loaded of a term, and where it leads.
use Rattle.std.proofs.Common.{◌≡◌, ℕ, ◌+◌, ◌<◌, ◌≤◌, ◌^◌, List, map, length, sum, All, Ok, Err, Some, refl, sym, ap, subst, ◌∙◌, arith}
use Rattle.std.specs.List.{AllZip}
use Rattle.std.proofs.lemmas.List.{length-map}
use Rattle.std.proofs.lemmas.Simd.{map-map}
use Rattle.pepa_rates.specs.Fraction.{Fraction, IsProper}
use Rattle.pepa_rates.specs.Sum.{fraction_of}
use Rattle.pepa_rates.specs.Weights.{weights_of, HaveWeights, IsScaleOf}
use Rattle.pepa_rates.specs.declared.rate.Rate.{Rate}
use Rattle.pepa_rates.specs.declared.weight_list.Scale.{Scale}
use Rattle.pepa_model.specs.PepaModel.{PepaModel, IsModel}
use Rattle.pepa_model.specs.Terms.{TermNode, term_of}
use Rattle.pepa_model.specs.declared.term.Term.{Term}
use Rattle.pepa_steps.specs.Alike.{Alike}
use Rattle.pepa_steps.specs.States.{State, StateTransition, StandsFor}
use Rattle.pepa_steps.specs.OpenStates.{moves_in}
use Rattle.pepa_steps.specs.StateVerdict.{IsFinePart}
use Rattle.pepa_steps.specs.WholeVerdict.{HasPassive, rates_of, StateStop, OfPart, OfPassive, OfWeights, IsWholeVerdict}
use Rattle.pepa_steps.specs.Combined.{entry_of}
use Rattle.pepa_steps.specs.PartAnswers.{LeadsTo}
use Rattle.pepa_steps.specs.ListAnswers.{IsListAnswer, IsTransitionAt}
use Rattle.pepa_steps.specs.Traces.{HasList, entries_in}
use Rattle.pepa_steps.specs.declared.entries.Entry.{Entry}
use Rattle.pepa_steps.specs.declared.buffers.Buffers.{Buffers}
use Rattle.pepa_steps.specs.declared.transitions.StepsEnd.{StepsEnd}
use Rattle.pepa_steps.specs.declared.transitions.StepsEnd.TheVariants.{Fault, Memory}
use Rattle.pepa_steps.proofs.Alikes.{zip_count}
use Rattle.pepa_steps.proofs.StateOpens.{state_opens, state_from_parts}
use Rattle.sim_space.specs.LoadedLists.{fractions_in, weights_in, loaded_of, IsLoaded, IsChoiceList}
use Rattle.sim_space.specs.SpaceAnswers.{AnswersSpaceLoad, halt_of}
use Rattle.sim_space.specs.Stops.{stop_of}
use Rattle.sim_space.specs.declared.space.Halt.{Halt}
use Rattle.sim_space.specs.declared.space.Halt.TheVariants as halt
use Rattle.sim_space.specs.declared.space.Loaded.{Loaded}
use Rattle.sim_space.specs.declared.stop.Stop.TheVariants as stop
use Rattle.plain_space.specs.PlainLists.{rates_listed, AreWeighedEntries, AnswersWeighing}
use Rattle.plain_space.proofs.WholeWeights.{whole_positive}

-- a list that was loaded for a state is short
pub short : (m : PepaModel) → IsModel m → (term : Term) (buffers : Buffers) → HasList m term buffers → (state : State) → StandsFor m state term → length (entries_in buffers) ≤ 65535
short m sound term buffers has state stands =
    let (tree, opens) = state_opens m sound state (term_of term) stands in
    let part = has.part state tree stands opens in
    let whole : IsFinePart tree = state_from_parts IsFinePart tree part.fine in
    let count = zip_count (Alike (LeadsTo m)) has.steps (moves_in tree) part.moves in
    let long : length (entries_in buffers) ≡ length has.steps = ap length has.entries ∙ length-map has.steps (entry_of {X = TermNode}) in
    omega (arith, whole.short, count, long)

-- the rates of entries are those of the transitions
rates_same : (transitions : List StateTransition) → rates_listed (map entry_of transitions) ≡ rates_of transitions
rates_same transitions = map-map (λ (e : Entry). e.rate) (entry_of {X = State}) transitions

fractions_same : (transitions : List StateTransition) → fractions_in (map entry_of transitions) ≡ map fraction_of (rates_of transitions)
fractions_same transitions =
    map-map (λ (e : Entry). fraction_of e.rate) (entry_of {X = State}) transitions ∙ sym (map-map fraction_of (λ (t : StateTransition). t.rate) transitions)

-- the fault of a part, as the stop of the whole
pub part_stops : (m : PepaModel) (state : State) (entries list : List Entry) (end : StepsEnd) → IsListAnswer m state entries (Err end) → AnswersSpaceLoad m state list (Err (halt_of end))
part_stops m state entries list (Fault name) (fault, verdict, is) = (OfPart fault, verdict, ap stop_of is)
part_stops m state entries list Memory h = tt

-- what the transitions together are refused for
pub whole_stops : (m : PepaModel) (state : State) (entries list : List Entry) (rates : List Fraction) (each : List ℕ) (end : Halt)
    → IsListAnswer m state entries (Ok tt) → AnswersWeighing entries rates each (Err end) → AnswersSpaceLoad m state list (Err end)
whole_stops m state entries list rates each (halt.Stop stop.PassiveLeft) (fine, (ts, listed, is)) passive =
    (OfPassive, (fine, (ts, listed, subst HasPassive (ap rates_listed is ∙ rates_same ts) passive)), refl)
whole_stops m state entries list rates each (halt.Stop stop.WeightOverflow) (fine, (ts, listed, is)) (active, heavy) = (
  OfWeights,
  (
    fine,
    (
      ts,
      listed,
      (subst (λ (l : List Rate). ¬ HasPassive l) (ap rates_listed is ∙ rates_same ts) active),
      (subst (λ (l : List Fraction). ¬ HaveWeights l) (ap fractions_in is ∙ fractions_same ts) heavy),
    ),
  ),
  refl,
)
whole_stops m state entries list rates each (halt.Stop stop.Mixed) h k = absurd k
whole_stops m state entries list rates each (halt.Stop stop.Overflow) h k = absurd k
whole_stops m state entries list rates each (halt.Stop stop.ListTooLong) h k = absurd k
whole_stops m state entries list rates each (halt.Stop stop.TimeOverflow) h k = absurd k
whole_stops m state entries list rates each (halt.Stop stop.DrawLimit) h k = absurd k
whole_stops m state entries list rates each halt.Full h k = absurd k
whole_stops m state entries list rates each halt.Memory h k = tt

-- the list of a state that can be chosen from
pub can_choose : (m : PepaModel) (state : State) (entries : List Entry) (rates : List Fraction) (each : List ℕ) (scale : Scale)
    → IsListAnswer m state entries (Ok tt) → AnswersWeighing entries rates each (Ok scale) → IsChoiceList m state entries
can_choose m state entries rates each scale (fine, (ts, listed, is)) (weighed, scaled) = record {
  fine = fine;
  transitions = ts;
  listed = listed;
  active = subst (λ (l : List Rate). ¬ HasPassive l) (ap rates_listed is ∙ rates_same ts) weighed.active;
  weighed = subst HaveWeights (ap fractions_in is ∙ fractions_same ts) scaled.1;
  same = is;
}

-- what is told of it
pub told : (entries : List Entry) (rates : List Fraction) (each : List ℕ) (scale : Scale) → AnswersWeighing entries rates each (Ok scale) → length entries ≤ 65535
    → IsLoaded entries (record { len = length entries; whole = scale.whole; den = scale.den })
told entries rates each scale (weighed, scaled) few =
    let whole : scale.whole ≡ sum (weights_in entries) = ap (λ (s : Scale). s.whole) scaled.0 in
    let den = ap (λ (s : Scale). s.den) scaled.0 in
    let proper = subst (λ (l : List Fraction). All IsProper l) weighed.rates_are weighed.proper in
    let long : length (fractions_in entries) ≡ length entries = length-map entries (λ (e : Entry). fraction_of e.rate) in
    record {
      same = ap (λ (s : Scale). let loaded : Loaded = record { len = length entries; whole = s.whole; den = s.den } in loaded) scaled.0;
      short = few;
      whole_fits = omega (arith, whole, scaled.1.1);
      den_fits = omega (arith, den, scaled.1.0);
      positive = λ some. let p = whole_positive (fractions_in entries) proper (omega (arith, long, some)) in omega (arith, whole, p);
    }
