-- Each command has an answer for a model.
use Rattle.std.proofs.Common.{◌≡◌, ◌-◌, [], length, inl, inr, refl, sym, ap, ◌∙◌, subst}
use Rattle.std.proofs.lemmas.Option.{slice_get-get_or}
use Rattle.pepa_model.specs.Expression.{Shape}
use Rattle.pepa_model.specs.Expanded.{Expanded, LeafTree, ConstTree, CoopTree, HideTree, Expands, leaves_in}
use Rattle.pepa_model.specs.PepaModel.{PepaModel, IsModel, IsShapeOf}
use Rattle.pepa_model.specs.Terms.{TermNode, LeafNode, CoopNode, HideNode, term_of}
use Rattle.pepa_model.specs.declared.term.Term.{Term, Leaf, Coop', Hide'}
use Rattle.pepa_steps.specs.States.{State, NodeStandsFor}
use Rattle.pepa_steps.specs.Existence.{HasStopOrChoice}
use Rattle.pepa_steps.proofs.Existing.{has_stop_or_choice}
use Rattle.pepa_checks.proofs.SomeTrees.{no_box}
use Rattle.pepa_printer.specs.ModelText.{model_text}
use Rattle.pepa_printer.proofs.ReadsBack.{reads_back}
use Rattle.probe_attach.specs.FirstStates.{expanded_state, IsFirstState}
use Rattle.model_maker.specs.MadeModel.{made_text}
use Rattle.sim_replication.specs.declared.order.Order.{Order}
use Rattle.sim_replication.specs.declared.ran.Outcome.{Outcome}
use Rattle.sim_replication.specs.declared.ran.Outcome.TheVariants.{Finished, Stopped}
use Rattle.sim_workers.specs.AllRuns.{AllRuns}
use Rattle.sim_workers.proofs.SomeOutcome.{some_outcome}
use Rattle.sim_report.specs.declared.fault.Fault.TheVariants as faults
use Rattle.sim_report.specs.ProbeText.{probe_text_of}
use Rattle.sim_report.specs.Report.{report_text_of}
use Rattle.sim_report.specs.CheckText.{counts_text}
use Rattle.sim_report.specs.FaultLine.{fault_text}
use Rattle.sim_report.specs.TransitionsText.{transitions_text}
use Rattle.sim_space.specs.Stops.{stop_of_verdict}
use Rattle.sim_command.specs.declared.answered.Answered.{Answered}
use Rattle.call_words.specs.declared.command.Command.{Command}
use Rattle.call_words.specs.declared.command.Command.TheVariants.{Steps, Check, Print, Probe, Run, Gen}
use Rattle.sim_command.specs.RunAnswers.{IsRunAnswer}
use Rattle.sim_command.specs.ModelAnswers.{IsStepsAnswer}
use Rattle.sim_command.specs.OutcomeLaws.{HasModelAnswer}
use Rattle.sim_command.proofs.SomeSummary.{some_summary}

-- ---- a term for the first state

-- a term of the program with these parts, wherever they lie
term_from : TermNode → Term
term_from (LeafNode number) = Leaf number
term_from (CoopNode x y set) = Coop' no_box (term_from x) no_box (term_from y) set
term_from (HideNode x set) = Hide' no_box (term_from x) set

term_back : (node : TermNode) → term_of (term_from node) ≡ node
unfolding term_from
term_back (LeafNode number) = refl
term_back (CoopNode x y set) = ap (λ (z : TermNode). CoopNode z (term_of (term_from y)) set) (term_back x) ∙ ap (λ (z : TermNode). CoopNode x z set) (term_back y)
term_back (HideNode x set) = ap (λ (z : TermNode). HideNode z set) (term_back x)

module _ (m : PepaModel) (sound : IsModel m) where
  -- a system of the model that expands into a tree
  some_node : (shape : Shape) (tree : Expanded) → IsShapeOf m shape → Expands m.bodies shape tree → (node : TermNode) × NodeStandsFor m (expanded_state m tree) node
  some_node shape (LeafTree e) is expands =
      let leaf = subst (IsShapeOf m) expands is in
      (LeafNode leaf.0, leaf.1)
  some_node shape (ConstTree c p) is (e, (body, compound, expands)) = some_node body p (sound.compounds c body compound).is_shape expands
  some_node shape (CoopTree p q set) is (x, y, e, left, right) =
      let parts = subst (IsShapeOf m) e is in
      let l = some_node x p parts.0 left in
      let r = some_node y q parts.1 right in
      (CoopNode l.0 r.0 set, (l.1, r.1, slice_get-get_or m.sets set [] parts.2))
  some_node shape (HideTree p set) is (x, e, inner) =
      let parts = subst (IsShapeOf m) e is in
      let h = some_node x p parts.0 inner in
      (HideNode h.0 set, (h.1, slice_get-get_or m.sets set [] parts.1))

  abbrev tree : Expanded
  tree = sound.small_tree.expanded.tree

  abbrev first_state : State
  first_state = expanded_state m tree

  is_first : IsFirstState m first_state
  is_first = record { tree = tree; expands = sound.small_tree.expanded.expands; state_is = refl }

  stop_or_choice : HasStopOrChoice m.bodies first_state
  stop_or_choice =
      let node = some_node m.system tree sound.system sound.small_tree.expanded.expands in
      has_stop_or_choice m sound first_state (term_from node.0) (subst (NodeStandsFor m first_state) (sym (term_back node.0)) node.1)

  -- ---- the answers

  steps_answer : HasStopOrChoice m.bodies first_state → (answered : Answered) × IsStepsAnswer m answered
  steps_answer (inl (stop, verdict)) = (
    record { status = 6; out = []; line = fault_text (faults.StepsStopped (stop_of_verdict stop)) },
    inl (record { state = first_state; first = is_first; stop = stop; verdict = verdict; refused = record { status_is = refl; out_is = refl; line_is = refl } }),
  )
  steps_answer (inr (fine, (transitions, derived, active, weighed))) = (
    record { status = 0; out = transitions_text m transitions; line = [] },
    inr (record { state = first_state; first = is_first; fine = fine; transitions = transitions; derived = derived; active = active; weighed = weighed; status_is = refl; out_is = refl; line_is = refl }),
  )

  run_answer : (order : Order) (outcome : Outcome) → AllRuns m order outcome → (answered : Answered) × IsRunAnswer m order answered
  run_answer order (Stopped number stop) h = (
    record { status = 6; out = []; line = fault_text (faults.RunStopped number stop) },
    inl (record { number = number; stop = stop; outcome = h; refused = record { status_is = refl; out_is = refl; line_is = refl } }),
  )
  run_answer order (Finished rans) h =
      let summary = some_summary order rans in (
        record { status = 0; out = report_text_of summary.0; line = [] },
        inr (record { rans = rans; outcome = h; report = record { summary = summary.0; sums_up = summary.1; fine = record { status_is = refl; out_is = refl; line_is = refl } } }),
      )

  model_answer : (command : Command) → HasModelAnswer command m
  model_answer Steps = steps_answer stop_or_choice
  model_answer Check =
      let text = counts_text (length m.constants) (length m.actions - 1) (leaves_in tree) in (
        record { status = 0; out = text; line = [] },
        record { status_is = refl; out_is = record { leaves = leaves_in tree; has_leaves = record { tree = tree; expands = sound.small_tree.expanded.expands; count_is = refl }; text_is = refl }; line_is = refl },
      )
  model_answer Print = (
    record { status = 0; out = model_text m; line = [] },
    record { status_is = refl; out_is = refl; reads_back = reads_back m sound; line_is = refl },
  )
  model_answer (Probe ask) = (
    record { status = 0; out = probe_text_of ask; line = [] },
    record { status_is = refl; out_is = refl; line_is = refl },
  )
  model_answer (Run order made) = let outcome = some_outcome m sound order in run_answer order outcome.0 outcome.1
  model_answer (Gen size) = (
    record { status = 0; out = made_text size; line = [] },
    record { status_is = refl; out_is = refl; line_is = refl },
  )

pub some_model_answer : (command : Command) (m : PepaModel) → IsModel m → HasModelAnswer command m
some_model_answer command m sound = model_answer m sound command
