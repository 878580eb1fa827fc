-- A command has one answer to an input.
use Rattle.std.proofs.Common.{◌≡◌, ℕ, Some, List, [], inl, inr, refl, sym, ap, subst, ◌∙◌, length, ◌-◌}
use Rattle.pepa_lexer.specs.declared.kinds.Place.{Place}
use Rattle.pepa_model.specs.Expanded.{leaves_in}
use Rattle.pepa_model.specs.PepaModel.{PepaModel}
use Rattle.pepa_checks.proofs.OneModel.{one_model}
use Rattle.pepa_model.specs.Expression.{Definition}
use Rattle.pepa_steps.specs.States.{State, StateTransition}
use Rattle.pepa_steps.specs.Rules.{IsTransitionList}
use Rattle.pepa_steps.specs.StateVerdict.{IsWithoutFault}
use Rattle.pepa_steps.specs.WholeVerdict.{HasPassive, AreWeighed, rates_of, StateStop, OfPart, OfPassive, OfWeights, IsWholeVerdict}
use Rattle.pepa_steps.proofs.OneState.{one_list}
use Rattle.pepa_steps.proofs.OneVerdict.{one_verdict, verdict_or_none}
use Rattle.probe_attach.specs.FirstStates.{IsFirstState, expanded_state}
use Rattle.pepa_checks.proofs.OneTree.{one_expansion}
use Rattle.sim_command.specs.declared.answered.Answered.{Answered}
use Rattle.call_words.specs.declared.command.Command.{Command}
use Rattle.call_words.specs.declared.command.Command.TheVariants.{Steps, Check, Print, Probe, Run, Gen}
use Rattle.sim_report.specs.declared.fault.FaultName.{FaultName}
use Rattle.sim_report.specs.declared.fault.Fault.{Fault}
use Rattle.sim_report.specs.declared.fault.Fault.TheVariants as faults
use Rattle.sim_replication.specs.declared.order.Order.{Order}
use Rattle.sim_replication.specs.declared.ran.Ran.{Ran}
use Rattle.sim_replication.specs.declared.ran.Outcome.{Outcome}
use Rattle.sim_replication.specs.declared.ran.Outcome.TheVariants.{Finished, Stopped}
use Rattle.sim_workers.proofs.OneOutcome.{one_outcome}
use Rattle.sim_histograms.specs.Summaries.{IsSummary}
use Rattle.sim_histograms.specs.declared.summaries.Summary.{Summary}
use Rattle.sim_histograms.proofs.SummaryFacts.{same_summary}
use Rattle.sim_report.specs.Report.{report_text_of}
use Rattle.sim_report.specs.TransitionsText.{transitions_text}
use Rattle.probe_attach.specs.Systems.{HasLeaves}
use Rattle.sim_report.specs.CheckText.{counts_text, IsCheckText}
use Rattle.sim_command.specs.AnswerForms.{IsRefusalAnswer, IsFineAnswer}
use Rattle.sim_command.specs.RunAnswers.{IsRunAnswer}
use Rattle.sim_command.specs.ModelAnswers.{IsStopped, IsListed, IsStepsAnswer, IsModelAnswer}
use Rattle.sim_space.specs.Stops.{stop_of_verdict}
use Rattle.sim_command.specs.Answer.{IsUnread, IsTextAnswer, IsAnswer}
use Rattle.sim_command.proofs.OneOutcome.{one_model_fault, model_or_fault}

abbrev answer : ℕ → List ℕ → List ℕ → Answered
answer status out line = record { status = status; out = out; line = line }

same_parts : (x y : Answered) → x.status ≡ y.status → x.out ≡ y.out → x.line ≡ y.line → x ≡ y
same_parts x y status out line =
    ap (λ (s : ℕ). answer s x.out x.line) status ∙ ap (λ (o : List ℕ). answer y.status o x.line) out ∙ ap (λ (l : List ℕ). answer y.status y.out l) line

same_refusal : (x y : Answered) (status : ℕ) (fault : Fault) → IsRefusalAnswer x status fault → IsRefusalAnswer y status fault → x ≡ y
same_refusal x y status fault h k = same_parts x y (h.status_is ∙ sym k.status_is) (h.out_is ∙ sym k.out_is) (h.line_is ∙ sym k.line_is)

same_fine : (x y : Answered) (text : List ℕ) → IsFineAnswer x text → IsFineAnswer y text → x ≡ y
same_fine x y text h k = same_parts x y (h.status_is ∙ sym k.status_is) (h.out_is ∙ sym k.out_is) (h.line_is ∙ sym k.line_is)

-- a model has one first state
one_first : (m : PepaModel) (p q : State) → IsFirstState m p → IsFirstState m q → p ≡ q
one_first m p q h k = h.state_is ∙ ap (expanded_state m) (one_expansion m.bodies m.system h.tree k.tree h.expands k.expands) ∙ sym k.state_is

-- a state has one stop
module _ (definitions : List Definition) (state : State) where
  same_passive : (ts us : List StateTransition) → IsTransitionList definitions state ts → IsTransitionList definitions state us → HasPassive (rates_of ts) → ¬ HasPassive (rates_of us) → ⊥
  same_passive ts us h k passive active = active (subst (λ (l : List StateTransition). HasPassive (rates_of l)) (one_list definitions state ts us h k) passive)

  one_stop : (s t : StateStop) → IsWholeVerdict definitions state s → IsWholeVerdict definitions state t → s ≡ t
  one_stop (OfPart f) (OfPart g) h k = ap OfPart (one_verdict definitions state f g h k)
  one_stop (OfPart f) OfPassive h k = absurd (verdict_or_none definitions state f h k.0)
  one_stop (OfPart f) OfWeights h k = absurd (verdict_or_none definitions state f h k.0)
  one_stop OfPassive (OfPart g) h k = absurd (verdict_or_none definitions state g k h.0)
  one_stop OfWeights (OfPart g) h k = absurd (verdict_or_none definitions state g k h.0)
  one_stop OfPassive OfPassive h k = refl
  one_stop OfWeights OfWeights h k = refl
  one_stop OfPassive OfWeights (fine, (ts, is, passive)) (also, (us, are, active, heavy)) = absurd (same_passive ts us is are passive active)
  one_stop OfWeights OfPassive (fine, (ts, is, active, heavy)) (also, (us, are, passive)) = absurd (same_passive us ts are is passive active)

  no_stop : (s : StateStop) (us : List StateTransition) → IsWholeVerdict definitions state s → IsWithoutFault definitions state → IsTransitionList definitions state us → ¬ HasPassive (rates_of us) → AreWeighed (rates_of us) → ⊥
  no_stop (OfPart f) us h fine are active weighed = verdict_or_none definitions state f h fine
  no_stop OfPassive us (also, (ts, is, passive)) fine are active weighed = same_passive ts us is are passive active
  no_stop OfWeights us (also, (ts, is, light, heavy)) fine are active weighed =
      heavy (subst (λ (l : List StateTransition). AreWeighed (rates_of l)) (one_list definitions state us ts are is) weighed)

module _ (m : PepaModel) (x y : Answered) where
  both_stopped : IsStopped m x → IsStopped m y → x ≡ y
  both_stopped h k =
      let state = one_first m k.state h.state k.first h.first in
      let same : h.stop ≡ k.stop = one_stop m.bodies h.state h.stop k.stop h.verdict (subst (λ (s : State). IsWholeVerdict m.bodies s k.stop) state k.verdict) in
      same_refusal x y 6 (faults.StepsStopped (stop_of_verdict k.stop)) (subst (λ (s : StateStop). IsRefusalAnswer x 6 (faults.StepsStopped (stop_of_verdict s))) same h.refused) k.refused

  both_listed : IsListed m x → IsListed m y → x ≡ y
  both_listed h k =
      let state = one_first m k.state h.state k.first h.first in
      let same = one_list m.bodies h.state h.transitions k.transitions h.derived (subst (λ (s : State). IsTransitionList m.bodies s k.transitions) state k.derived) in
      same_parts x y (h.status_is ∙ sym k.status_is) (h.out_is ∙ ap (transitions_text m) same ∙ sym k.out_is) (h.line_is ∙ sym k.line_is)

  -- a state that is stopped isn't listed
  apart : (a b : Answered) → IsStopped m a → IsListed m b → ⊥
  apart a b h k =
      let state : k.state ≡ h.state = one_first m k.state h.state k.first h.first in
      no_stop m.bodies h.state h.stop k.transitions h.verdict (subst (IsWithoutFault m.bodies) state k.fine) (subst (λ (s : State). IsTransitionList m.bodies s k.transitions) state k.derived) k.active k.weighed

  one_steps_answer : IsStepsAnswer m x → IsStepsAnswer m y → x ≡ y
  one_steps_answer (inl h) (inl k) = both_stopped h k
  one_steps_answer (inl h) (inr k) = absurd (apart x y h k)
  one_steps_answer (inr h) (inl k) = absurd (apart y x k h)
  one_steps_answer (inr h) (inr k) = both_listed h k

one_count : (m : PepaModel) (i j : ℕ) → HasLeaves m i → HasLeaves m j → i ≡ j
one_count m i j h k = h.count_is ∙ ap leaves_in (one_expansion m.bodies m.system h.tree k.tree h.expands k.expands) ∙ sym k.count_is

one_check_text : (m : PepaModel) (x y : List ℕ) → IsCheckText m x → IsCheckText m y → x ≡ y
one_check_text m x y h k = h.text_is ∙ ap (counts_text (length m.constants) (length m.actions - 1)) (one_count m h.leaves k.leaves h.has_leaves k.has_leaves) ∙ sym k.text_is

-- what an outcome is of: its replications, and the fault of the one that stops
abbrev rans_of : Outcome → List Ran
rans_of (Finished rans) = rans
rans_of (Stopped number stop) = []

abbrev stop_fault : Outcome → Fault
stop_fault (Finished rans) = faults.Memory
stop_fault (Stopped number stop) = faults.RunStopped number stop

one_run_answer : (m : PepaModel) (order : Order) (x y : Answered) → IsRunAnswer m order x → IsRunAnswer m order y → x ≡ y
one_run_answer m order x y (inl h) (inl k) =
    let same = ap stop_fault (one_outcome m order (Stopped h.number h.stop) (Stopped k.number k.stop) h.outcome k.outcome) in
    same_refusal x y 6 (faults.RunStopped k.number k.stop) (subst (λ (f : Fault). IsRefusalAnswer x 6 f) same h.refused) k.refused
one_run_answer m order x y (inl h) (inr k) =
    let e = one_outcome m order (Stopped h.number h.stop) (Finished k.rans) h.outcome k.outcome in
    absurd cc
one_run_answer m order x y (inr h) (inl k) =
    let e = one_outcome m order (Finished h.rans) (Stopped k.number k.stop) h.outcome k.outcome in
    absurd cc
one_run_answer m order x y (inr h) (inr k) =
    let same : h.rans ≡ k.rans = ap rans_of (one_outcome m order (Finished h.rans) (Finished k.rans) h.outcome k.outcome) in
    let sums : IsSummary order k.rans h.report.summary = subst (λ (rans : List Ran). IsSummary order rans h.report.summary) same h.report.sums_up in
    let summary = same_summary order k.rans h.report.summary k.report.summary sums k.report.sums_up in
    same_fine x y (report_text_of k.report.summary) (subst (λ (s : Summary). IsFineAnswer x (report_text_of s)) summary h.report.fine) k.report.fine

pub one_model_answer : (command : Command) (m : PepaModel) (x y : Answered) → IsModelAnswer command m x → IsModelAnswer command m y → x ≡ y
one_model_answer Steps m x y h k = one_steps_answer m x y h k
one_model_answer Check m x y h k =
    same_parts x y (h.status_is ∙ sym k.status_is) (one_check_text m x.out y.out h.out_is k.out_is) (h.line_is ∙ sym k.line_is)
one_model_answer Print m x y h k = same_parts x y (h.status_is ∙ sym k.status_is) (h.out_is ∙ sym k.out_is) (h.line_is ∙ sym k.line_is)
one_model_answer (Probe ask) m x y h k = same_fine x y _ h k
one_model_answer (Run order made) m x y h k = one_run_answer m order x y h k
one_model_answer (Gen size) m x y h k = same_fine x y _ h k

both_unread : (input : List ℕ) (x y : Answered) → IsUnread input x → IsUnread input y → x ≡ y
both_unread input x y h k =
    let (place, name) = one_model_fault input h.place k.place h.name k.name h.is_fault k.is_fault in
    let moved : IsRefusalAnswer x 3 (faults.Model k.place h.name) = subst (λ (p : Place). IsRefusalAnswer x 3 (faults.Model p h.name)) place h.refused in
    same_refusal x y 3 (faults.Model k.place k.name) (subst (λ (n : FaultName). IsRefusalAnswer x 3 (faults.Model k.place n)) name moved) k.refused

pub one_text_answer : (command : Command) (input : List ℕ) (x y : Answered) → IsTextAnswer command input x → IsTextAnswer command input y → x ≡ y
one_text_answer command input x y (inl h) (inl k) = both_unread input x y h k
one_text_answer command input x y (inl h) (inr k) = absurd (model_or_fault input k.model h.place h.name k.reads h.is_fault)
one_text_answer command input x y (inr h) (inl k) = absurd (model_or_fault input h.model k.place k.name h.reads k.is_fault)
one_text_answer command input x y (inr h) (inr k) =
    let same = one_model input h.model k.model h.reads k.reads in
    one_model_answer command k.model x y (subst (λ (m : PepaModel). IsModelAnswer command m x) same h.answer) k.answer

pub one_answer : (command : Command) (input : List ℕ) (x y : Answered) → IsAnswer command input x → IsAnswer command input y → x ≡ y
one_answer (Run order (Some size)) input x y h k = one_text_answer (Run order (Some size)) _ x y h k
one_answer (Gen size) input x y h k = same_fine x y _ h k
one_answer command input x y h k = one_text_answer command input x y h k
