-- Terms and steps are written as the states and transitions that they stand for.
use Rattle.std.proofs.Common.{◌≡◌, List, [], ◌∷◌, ◌++◌, refl, ap, ◌∙◌}
use Rattle.std.specs.List.{AllZip}
use Rattle.std.proofs.lemmas.Option.{get_or_from_slice_get}
use Rattle.pepa_model.specs.Expression.{Expression, Const}
use Rattle.pepa_model.specs.PepaModel.{PepaModel}
use Rattle.pepa_model.specs.Terms.{TermNode, LeafNode, CoopNode, HideNode, term_of}
use Rattle.pepa_model.specs.declared.term.Step.{Step}
use Rattle.pepa_steps.specs.States.{State, AtLeaf, Cooperating, Hiding, StateTransition, NodeStandsFor, StepStandsFor}
use Rattle.pepa_text.specs.SystemText.{WrittenComponent, written_node}
use Rattle.sim_report.specs.StepsText.{step_text, steps_text_of}
use Rattle.sim_report.specs.TransitionsText.{written_state, transition_text, transitions_text}

-- a term is written as each state for which it stands
node_same : (m : PepaModel) (state : State) (node : TermNode) → NodeStandsFor m state node → written_node m node ≡ written_state state
node_same m (AtLeaf e) (LeafNode number) stands = ap (λ (e : Expression). WrittenComponent e) (get_or_from_slice_get m.leaves number e (Const 0) stands)
node_same m (Cooperating p q set) (CoopNode x y number) (of_x, of_y, is) =
    rw (node_same m p x of_x, node_same m q y of_y, get_or_from_slice_get m.sets number set [] is) refl
node_same m (Hiding p set) (HideNode x number) (of_x, is) = rw (node_same m p x of_x, get_or_from_slice_get m.sets number set [] is) refl
node_same m state node stands = absurd stands

-- steps are written as the transitions that they stand for
same_step : (m : PepaModel) (s : Step) (t : StateTransition) → StepStandsFor m s t → step_text m s ≡ transition_text m t
same_step m s t h = rw (h.action, h.rate, node_same m t.target (term_of s.target) h.target) refl

pub same_text : (m : PepaModel) (list : List Step) (ts : List StateTransition) → AllZip (StepStandsFor m) list ts → steps_text_of m list ≡ transitions_text m ts
same_text m [] [] h = refl
same_text m [] (t ∷ ts) h = absurd h
same_text m (s ∷ list) [] h = absurd h
same_text m (s ∷ list) (t ∷ ts) h = ap (λ l. l ++ steps_text_of m list) (same_step m s t h.0) ∙ ap (λ l. transition_text m t ++ l) (same_text m list ts h.1)
