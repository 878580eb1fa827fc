-- Answers.
use Rattle.std.proofs.Common.{◌≡◌, ℕ, Option, None, List, [], ◌∷◌, Result, Ok, Err, IfOk, refl, ap, ◌∙◌, inl, inr, subst}
use Rattle.std.specs.List.{AllZip}
use Rattle.pepa_model.specs.PepaModel.{PepaModel}
use Rattle.pepa_model.specs.declared.term.Step.{Step}
use Rattle.pepa_checks.specs.CheckedFiles.{IsShortTextOf}
use Rattle.pepa_steps.specs.States.{State, StateTransition, StepStandsFor}
use Rattle.pepa_rates.specs.declared.rate.Rate.{Rate}
use Rattle.pepa_steps.specs.StepsAnswers as steps
use Rattle.pepa_steps.specs.WholeVerdict.{HasPassive, AreWeighed, rates_of, OfPart, OfPassive, OfWeights}
use Rattle.pepa_steps.specs.declared.transitions.StepsEnd.TheVariants.{Fault}
use Rattle.pepa_steps.specs.declared.transitions.StepFault.{StepFault}
use Rattle.sim_command.specs.declared.answered.Answered.{Answered}
use Rattle.sim_replication.specs.declared.order.Order.{Order}
use Rattle.sim_replication.specs.declared.ran.Ran.{Ran}
use Rattle.sim_replication.specs.declared.ran.Outcome.TheVariants.{Finished}
use Rattle.sim_workers.specs.AllRuns.{AllRuns}
use Rattle.call_words.specs.declared.command.Command.{Command}
use Rattle.call_words.specs.declared.command.Command.TheVariants.{Run}
use Rattle.sim_report.specs.declared.fault.Fault.TheVariants as faults
use Rattle.sim_space.specs.declared.stop.Stop.{Stop}
use Rattle.sim_space.specs.declared.stop.Stop.TheVariants as stops
use Rattle.pepa_rates.specs.declared.weight_list.Weights.{Weights}
use Rattle.sim_space.specs.Choices.{AnswersWeights}
use Rattle.sim_space.specs.declared.choices.ChoiceEnd.TheVariants as ends
use Rattle.sim_command.specs.FirstSteps.{step_rates, AreStepsOf}
use Rattle.sim_report.specs.TransitionsText.{transitions_text}
use Rattle.probe_attach.specs.FirstStates.{IsFirstState}
use Rattle.sim_command.specs.ModelAnswers.{IsStepsAnswer, IsModelAnswer}
use Rattle.sim_command.specs.AnswerForms.{IsRefusalAnswer}
use Rattle.sim_command.specs.RunAnswers.{IsReportOf, IsRunAnswer}
use Rattle.sim_space.specs.Stops.{stop_of}
use Rattle.sim_command.specs.Answer.{IsTextAnswer}

-- steps have the rates of the transitions that they stand for
same_rates : (m : PepaModel) (list : List Step) (ts : List StateTransition) → AllZip (StepStandsFor m) list ts → step_rates list ≡ rates_of ts
same_rates m [] [] h = refl
same_rates m [] (t ∷ ts) h = absurd h
same_rates m (s ∷ list) [] h = absurd h
same_rates m (s ∷ list) (t ∷ ts) h = ap (λ r. r ∷ step_rates list) h.0.rate ∙ ap (λ l. t.rate ∷ l) (same_rates m list ts h.1)

-- the answer of status 0
pub steps_are_answered : (m : PepaModel) (state : State) (list : List Step) (weights : Weights) (answered : Answered) → IsFirstState m state → AreStepsOf m state list → AnswersWeights (step_rates list) (Ok weights)
    → answered.status ≡ 0 → ((ts : List StateTransition) → AllZip (StepStandsFor m) list ts → answered.out ≡ transitions_text m ts) → answered.line ≡ [] → IsStepsAnswer m answered
steps_are_answered m state list weights answered first (fine, (transitions, derived, stand)) (active, weighed) status out line =
    let same = same_rates m list transitions stand in
    inr (record {
      state = state;
      first = first;
      fine = fine;
      transitions = transitions;
      derived = derived;
      active = subst (λ (l : List Rate). ¬ HasPassive l) same active;
      weighed = subst AreWeighed same weighed.1;
      status_is = status;
      out_is = out transitions stand;
      line_is = line;
    })

-- the answers of status 6
pub part_stops : (m : PepaModel) (state : State) (name : StepFault) (stop : Stop) (answered : Answered) → IsFirstState m state → steps.IsStepsResult m state (Err (Fault name))
    → stop ≡ stop_of name → IsRefusalAnswer answered 6 (faults.StepsStopped stop) → IsStepsAnswer m answered
part_stops m state name stop answered first (fault, verdict, is) named refused =
    let same : stop ≡ stop_of (steps.fault_name fault) = named ∙ ap stop_of is in
    inl (record { state = state; first = first; stop = OfPart fault; verdict = verdict; refused = subst (λ (s : Stop). IsRefusalAnswer answered 6 (faults.StepsStopped s)) same refused })

pub steps_stop : (m : PepaModel) (state : State) (list : List Step) (stop : Stop) (answered : Answered) → IsFirstState m state → AreStepsOf m state list → AnswersWeights (step_rates list) (Err (ends.Stop stop))
    → IsRefusalAnswer answered 6 (faults.StepsStopped stop) → IsStepsAnswer m answered
steps_stop m state list stops.PassiveLeft answered first (fine, (transitions, derived, stand)) passive refused =
    inl (record {
      state = state;
      first = first;
      stop = OfPassive;
      verdict = (fine, (transitions, derived, subst HasPassive (same_rates m list transitions stand) passive));
      refused = refused;
    })
steps_stop m state list stops.WeightOverflow answered first (fine, (transitions, derived, stand)) (active, heavy) refused =
    let same = same_rates m list transitions stand in
    inl (record {
      state = state;
      first = first;
      stop = OfWeights;
      verdict = (fine, (transitions, derived, subst (λ (l : List Rate). ¬ HasPassive l) same active, subst (λ (l : List Rate). ¬ AreWeighed l) same heavy));
      refused = refused;
    })
steps_stop m state list stop answered first h other refused = absurd other

-- the answer for a text's model answers the text
pub text_is_answered : {E : Type 0} (command : Command) (text : List ℕ) (m : PepaModel) (result : Result Answered E) → IsShortTextOf text m → IfOk result (IsModelAnswer command m) → IfOk result (IsTextAnswer command text)
text_is_answered command text m (Ok a) reads is = inr (record { model = m; reads = reads; answer = is })
text_is_answered command text m (Err e) reads is = tt

-- `run` answers a text in one way, whether it was made or not
pub run_of_text : {E : Type 0} (order : Order) (made : Option ℕ) (text : List ℕ) (result : Result Answered E) → IfOk result (IsTextAnswer (Run order None) text) → IfOk result (IsTextAnswer (Run order made) text)
run_of_text order made text (Ok a) (inl unread) = inl unread
run_of_text order made text (Ok a) (inr read) = inr (record { model = read.model; reads = read.reads; answer = read.answer })
run_of_text order made text (Err e) h = tt

-- the report of all replications is the answer of `run`
pub run_is_reported : {E : Type 0} (m : PepaModel) (order : Order) (rans : List Ran) (result : Result Answered E) → AllRuns m order (Finished rans) → IfOk result (IsReportOf order rans) → IfOk result (IsRunAnswer m order)
run_is_reported m order rans (Ok a) outcome report = inr (record { rans = rans; outcome = outcome; report = report })
run_is_reported m order rans (Err e) outcome report = tt
