-- Each term of a model stands for a state, and each such state has what `steps` answers.
use Rattle.std.proofs.Common.{◌≡◌, ℕ, List, [], ◌∷◌, map, Some, slice_get, Ok, Err, inl, inr, refl, sym, ap, subst, ◌∙◌}
use Rattle.std.specs.List.{AllByRecursion, AllZip}
use Rattle.pepa_model.specs.Opened.{moves}
use Rattle.pepa_model.specs.PepaModel.{PepaModel, IsModel}
use Rattle.pepa_model.specs.Terms.{TermNode, LeafNode, CoopNode, HideNode, IsTermOf, term_of}
use Rattle.pepa_model.specs.declared.term.Term.{Term, Leaf, Coop', Hide'}
use Rattle.pepa_model.specs.declared.term.Step.{Step}
use Rattle.pepa_model.specs.declared.term.Activity.{Activity}
use Rattle.pepa_steps.specs.Alike.{Alike}
use Rattle.pepa_steps.specs.Moves.{cooperation, under_hiding}
use Rattle.pepa_steps.specs.States.{State, AtLeaf, Cooperating, Hiding, StateTransition, NodeStandsFor, StandsFor, StepStandsFor}
use Rattle.pepa_steps.specs.OpenStates.{OpenState, LeafOpen, CoopOpen, HideOpen, OpensState, parts_in, apparent_in, closed_state, rate_of, leaf_move, moves_in}
use Rattle.pepa_steps.specs.Rules.{IsTransitionList}
use Rattle.pepa_steps.specs.StateVerdict.{HasFineStateRates, IsFinePart, IsWithoutFault}
use Rattle.pepa_steps.specs.StepsAnswers.{fault_name, IsStepsResult}
use Rattle.pepa_steps.specs.PartAnswers.{StepNode, LeadsTo}
use Rattle.pepa_steps.specs.Traces.{activity_node}
use Rattle.pepa_steps.specs.Existence.{StandsForSome, HasTransitionList, HasVerdictOrNoFault, HasApparentRateOrFault, HasStepsOrFault, HasStopOrChoice}
use Rattle.pepa_steps.specs.WholeVerdict.{OfPart}
use Rattle.pepa_steps.specs.declared.transitions.StepFault.{StepFault}
use Rattle.pepa_steps.specs.declared.transitions.StepsEnd.TheVariants.{Fault}
use Rattle.pepa_steps.proofs.Alikes.{cooperation_alike, hidden_alike}
use Rattle.pepa_steps.proofs.Decisions as decided
use Rattle.pepa_steps.proofs.LeafParts.{leaf_steps}
use Rattle.pepa_steps.proofs.NodeLists.{all_same}
use Rattle.pepa_steps.proofs.OneVerdict as verdicts
use Rattle.pepa_steps.proofs.StateLists.{transition_list, closed_is}
use Rattle.pepa_steps.proofs.StateOpens.{stands_for_one, node_of_model, state_opens}
use Rattle.pepa_steps.proofs.WithoutTau.{state_without_tau}

-- ---- terms and states

pub some_state : (m : PepaModel) (term : Term) → IsTermOf m term → StandsForSome m term
some_state m term of_model = stands_for_one m (term_of term) of_model

pub of_model : (m : PepaModel) (state : State) (term : Term) → StandsFor m state term → IsTermOf m term
of_model m state term stands = node_of_model m state (term_of term) stands

-- a node is that of a term
record HasTerm (node : TermNode) : Type 0 where
  term : Term
  is : term_of term ≡ node

-- two nodes differ in their numbers alone
abbrev IsShapedAs : TermNode → TermNode → Type 0
IsShapedAs (LeafNode n) (LeafNode k) = Unit {0}
IsShapedAs (CoopNode x y n) (CoopNode a b k) = IsShapedAs x a × IsShapedAs y b
IsShapedAs (HideNode x n) (HideNode a k) = IsShapedAs x a
IsShapedAs _ _ = ⊥

own_shape : (node : TermNode) → IsShapedAs node node
own_shape (LeafNode n) = tt
own_shape (CoopNode x y n) = (own_shape x, own_shape y)
own_shape (HideNode x n) = own_shape x

-- the parts of the term lie where those of the first one do
term_with : (first : Term) (node : TermNode) → IsShapedAs (term_of first) node → HasTerm node
term_with (Leaf n) (LeafNode k) h = record { term = Leaf k; is = refl }
term_with (Coop' p t q u n) (CoopNode x y k) h =
    let left = term_with t x h.0 in
    let right = term_with u y h.1 in
    record { term = Coop' p left.term q right.term k; is = ap (λ (z : TermNode). CoopNode z (term_of right.term) k) left.is ∙ ap (λ (z : TermNode). CoopNode x z k) right.is }
term_with (Hide' p t n) (HideNode x k) h =
    let inner = term_with t x h in
    record { term = Hide' p inner.term k; is = ap (λ (z : TermNode). HideNode z k) inner.is }
term_with (Leaf n) (CoopNode x y k) h = absurd h
term_with (Leaf n) (HideNode x k) h = absurd h
term_with (Coop' p t q u n) (LeafNode k) h = absurd h
term_with (Coop' p t q u n) (HideNode x k) h = absurd h
term_with (Hide' p t n) (LeafNode k) h = absurd h
term_with (Hide' p t n) (CoopNode x y k) h = absurd h

-- ---- transitions lead to terms of the model

-- the node that a step leads to stands for the state, and has the shape of this one
abbrev LeadsFrom : PepaModel → TermNode → TermNode → State → Type 0
LeadsFrom m node x p = NodeStandsFor m p x × IsShapedAs node x

-- the transitions are those of some steps of terms
record HasStepNodes (m : PepaModel) (node : TermNode) (tree : OpenState) : Type 0 where
  steps : List StepNode
  moves : AllZip (Alike (LeadsFrom m node)) steps (moves_in tree)

leads_from_leaf : (m : PepaModel) (n : ℕ) (activities : List Activity) (ts : List StateTransition) → AllZip (Alike (LeadsTo m)) (map activity_node activities) ts
    → AllZip (Alike (LeadsFrom m (LeafNode n))) (map activity_node activities) ts
leads_from_leaf m n [] [] h = tt
leads_from_leaf m n [] (t ∷ ts) h = absurd h
leads_from_leaf m n (a ∷ activities) [] h = absurd h
leads_from_leaf m n (a ∷ activities) (t ∷ ts) h =
    (record { action = h.0.action; signals = h.0.signals; rate = h.0.rate; target = (h.0.target, tt) }, leads_from_leaf m n activities ts h.1)

module _ (m : PepaModel) (sound : IsModel m) where
  step_nodes : (state : State) (node : TermNode) (tree : OpenState) → NodeStandsFor m state node → OpensState m.bodies state tree → HasStepNodes m node tree
  step_nodes (AtLeaf e) (LeafNode number) (LeafOpen o) stands opens =
      let leaf = sound.leaves number e stands in
      record {
        steps = map activity_node leaf.activities;
        moves = leads_from_leaf m number leaf.activities (map leaf_move (moves o)) (leaf_steps m sound number e stands leaf.activities leaf.stored o opens);
      }
  step_nodes (Cooperating p q set) (CoopNode x y number) (CoopOpen s t other) (of_x, of_y, is) (opens_s, opens_t, same) =
      let left = step_nodes p x s of_x opens_s in
      let right = step_nodes q y t of_y opens_t in
      let here = subst (λ (z : State). NodeStandsFor m z x) (sym (closed_is m.bodies p s opens_s)) of_x in
      let there = subst (λ (z : State). NodeStandsFor m z y) (sym (closed_is m.bodies q t opens_t)) of_y in
      let at : slice_get m.sets number ≡ Some other = is ∙ ap (λ (l : List ℕ). Some l) (sym same) in
      record {
        steps = cooperation (λ a. CoopNode a y number) (λ b. CoopNode x b number) (λ a b. CoopNode a b number) other (λ a. rate_of (apparent_in s a)) (λ a. rate_of (apparent_in t a)) left.steps right.steps;
        moves = cooperation_alike (LeadsFrom m x) (LeadsFrom m y) (LeadsFrom m (CoopNode x y number))
            (λ a. CoopNode a y number) (λ b. CoopNode x b number) (λ a b. CoopNode a b number)
            (λ a. Cooperating a (closed_state t) other) (λ b. Cooperating (closed_state s) b other) (λ a b. Cooperating a b other)
            (λ a a' h. ((h.0, there, at), (h.1, own_shape y))) (λ b b' h. ((here, h.0, at), (own_shape x, h.1))) (λ a a' b b' h k. ((h.0, k.0, at), (h.1, k.1)))
            other (λ a. rate_of (apparent_in s a)) (λ a. rate_of (apparent_in s a)) (λ a. rate_of (apparent_in t a)) (λ a. rate_of (apparent_in t a))
            (λ a has_it. refl) (λ a has_it. refl)
            left.steps (moves_in s) right.steps (moves_in t) left.moves right.moves;
      }
  step_nodes (Hiding p set) (HideNode x number) (HideOpen s other) (of_x, is) (opens_s, same) =
      let inner = step_nodes p x s of_x opens_s in
      let at : slice_get m.sets number ≡ Some other = is ∙ ap (λ (l : List ℕ). Some l) (sym same) in
      record {
        steps = map (under_hiding (λ a. HideNode a number) other) inner.steps;
        moves = hidden_alike (LeadsFrom m x) (LeadsFrom m (HideNode x number)) (λ a. HideNode a number) (λ a. Hiding a other) (λ a a' h. ((h.0, at), h.1)) other inner.steps (moves_in s) inner.moves;
      }
  step_nodes (AtLeaf e) (LeafNode number) (CoopOpen s t other) stands opens = absurd opens
  step_nodes (AtLeaf e) (LeafNode number) (HideOpen s other) stands opens = absurd opens
  step_nodes (Cooperating p q set) (CoopNode x y number) (LeafOpen o) stands opens = absurd opens
  step_nodes (Cooperating p q set) (CoopNode x y number) (HideOpen s other) stands opens = absurd opens
  step_nodes (Hiding p set) (HideNode x number) (LeafOpen o) stands opens = absurd opens
  step_nodes (Hiding p set) (HideNode x number) (CoopOpen s t other) stands opens = absurd opens
  step_nodes state node tree stands opens = absurd stands

  -- steps of the program that are these transitions
  record HasSteps (transitions : List StateTransition) : Type 0 where
    steps : List Step
    stand : AllZip (StepStandsFor m) steps transitions

  as_steps : (term : Term) (us : List StepNode) (ts : List StateTransition) → AllZip (Alike (LeadsFrom m (term_of term))) us ts → HasSteps ts
  as_steps term [] [] h = record { steps = []; stand = tt }
  as_steps term [] (t ∷ ts) h = absurd h
  as_steps term (u ∷ us) [] h = absurd h
  as_steps term (u ∷ us) (t ∷ ts) h =
      let rest = as_steps term us ts h.1 in
      let target = term_with term u.target h.0.target.1 in
      record {
        steps = record { action = u.action; signals = u.signals; rate = u.rate; target = target.term } ∷ rest.steps;
        stand = (
          record {
            action = h.0.action;
            signals = h.0.signals;
            rate = h.0.rate;
            target = subst (NodeStandsFor m t.target) (sym target.is) h.0.target.0;
          },
          rest.stand,
        );
      }

  -- ---- what each state has

  module _ (state : State) (term : Term) (stands : StandsFor m state term) where
    list_in : (tree : OpenState) → OpensState m.bodies state tree → AllByRecursion IsFinePart (parts_in tree) → IsTransitionList m.bodies state (moves_in tree)
    list_in tree opens fine =
        transition_list m.bodies state tree opens (state_without_tau m sound state (term_of term) tree stands opens) (all_same IsFinePart HasFineStateRates (λ part h. h.rates) (parts_in tree) fine)

    pub has_list : IsWithoutFault m.bodies state → HasTransitionList m.bodies state
    has_list (tree, opens, fine) = (moves_in tree, list_in tree opens fine)

    pub has_verdict_or_no_fault : HasVerdictOrNoFault m.bodies state
    has_verdict_or_no_fault =
        let opened = state_opens m sound state (term_of term) stands in
        decided.verdict_or_none m.bodies state opened.0 opened.1

    pub has_rate_or_fault : (action : ℕ) → HasApparentRateOrFault m.bodies state action
    has_rate_or_fault =
        let opened = state_opens m sound state (term_of term) stands in
        decided.rate_or_fault m.bodies state opened.0 opened.1

    steps_without_fault : IsWithoutFault m.bodies state → HasStepsOrFault m state
    steps_without_fault (tree, opens, fine) =
        let nodes = step_nodes state (term_of term) tree stands opens in
        let list = as_steps term nodes.steps (moves_in tree) nodes.moves in
        inl (list.steps, ((tree, opens, fine), (moves_in tree, list_in tree opens fine, list.stand)))

    pub has_steps_or_fault : HasStepsOrFault m state
    has_steps_or_fault = of_cases has_verdict_or_no_fault
      where
        of_cases : HasVerdictOrNoFault m.bodies state → HasStepsOrFault m state
        of_cases (inl (fault, verdict)) = inr (fault_name fault, (fault, verdict, refl))
        of_cases (inr fine) = steps_without_fault fine

    pub has_stop_or_choice : HasStopOrChoice m.bodies state
    has_stop_or_choice = of_cases has_verdict_or_no_fault
      where
        of_cases : HasVerdictOrNoFault m.bodies state → HasStopOrChoice m.bodies state
        of_cases (inl (fault, verdict)) = inl (OfPart fault, verdict)
        of_cases (inr fine) = let list = has_list fine in decided.stop_or_choice m.bodies state fine list.0 list.1

-- ---- and never both

pub not_both : (m : PepaModel) (state : State) (steps : List Step) (fault : StepFault) → IsStepsResult m state (Ok steps) → ¬ IsStepsResult m state (Err (Fault fault))
not_both m state steps fault listed faulty = verdicts.verdict_or_none m.bodies state faulty.0 faulty.1 listed.0

pub one_fault : (m : PepaModel) (state : State) (f g : StepFault) → IsStepsResult m state (Err (Fault f)) → IsStepsResult m state (Err (Fault g)) → f ≡ g
one_fault m state f g h k = h.2 ∙ ap fault_name (verdicts.one_verdict m.bodies state h.0 k.0 h.1 k.1) ∙ sym k.2
