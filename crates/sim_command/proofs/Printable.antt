-- What `steps` answers can be printed: its numbers are the model's, and it has no signals.
use Rattle.std.proofs.Common.{◌≡◌, ◌==◌, ℕ, ◌<◌, Bool, true, false, not, if◌then◌else◌, bit_or, List, [], ◌∷◌, ◌++◌, map, filter, flat_map, length, codes, refl, sym, ap, ◌∙◌, subst}
use Rattle.std.specs.List.{AllByRecursion, AllZip}
use Rattle.std.proofs.lemmas.Option.{slice_get_within}
use Rattle.std.proofs.lemmas.List.Elements.{All-from_recursion}
use Rattle.pepa_rates.specs.declared.rate.Rate.{Rate}
use Rattle.pepa_model.specs.Derivation.{Transition}
use Rattle.pepa_model.specs.Opened.{Opened, moves}
use Rattle.pepa_model.specs.PepaModel.{PepaModel, IsModel, StandsForTransition}
use Rattle.pepa_model.specs.Terms.{TermNode, LeafNode, CoopNode, HideNode, term_of}
use Rattle.pepa_model.specs.declared.term.Activity.{Activity}
use Rattle.pepa_model.specs.declared.term.Step.{Step}
use Rattle.pepa_model.proofs.OneList.{one_opening}
use Rattle.pepa_steps.specs.States.{State, AtLeaf, Cooperating, Hiding, has, StateTransition, NodeStandsFor, StepStandsFor}
use Rattle.pepa_steps.specs.Moves.{joint_moves}
use Rattle.pepa_steps.specs.OpenStates.{OpenState, LeafOpen, CoopOpen, HideOpen, OpensState, parts_in, moves_in, leaf_move, left_move, right_move, joint_move, hidden_move, closed_state, apparent_in, rate_of}
use Rattle.pepa_steps.specs.StateVerdict.{IsFinePart, HasFineStateRates}
use Rattle.pepa_steps.proofs.Faults.{all_append}
use Rattle.pepa_steps.proofs.NodeLists.{all_same, all_filter, all_map}
use Rattle.pepa_steps.proofs.OneState.{one_list}
use Rattle.pepa_steps.proofs.StateLists.{transition_list}
use Rattle.pepa_steps.proofs.WithoutTau.{state_without_tau}
use Rattle.pepa_steps.proofs.StateOpens.{node_of_model}
use Rattle.sim_command.specs.FirstSteps.{AreStepsOf}
use Rattle.sim_report.specs.StepsText.{CanPrint, CanPrintStep}

-- ---- lists

all_mapped : {X Y : Type 0} (P : X → Type 0) (Q : Y → Type 0) (f : X → Y) → ((x : X) → P x → Q (f x)) → (xs : List X) → AllByRecursion P xs → AllByRecursion Q (map f xs)
all_mapped P Q f each xs h = all_map Q f xs (all_same P (λ x. Q (f x)) each xs h)

all_flat : {X Y : Type 0} (P : X → Type 0) (Q : Y → Type 0) (f : X → List Y) → ((x : X) → P x → AllByRecursion Q (f x)) → (xs : List X) → AllByRecursion P xs → AllByRecursion Q (flat_map f xs)
all_flat P Q f each [] h = tt
all_flat P Q f each (x ∷ xs) h = all_append Q (f x) (flat_map f xs) (each x h.0) (all_flat P Q f each xs h.1)

-- ---- the transitions of a state of a model

module _ (m : PepaModel) (sound : IsModel m) where
  -- its action type is the model's, and it has no signals
  abbrev IsKnown : StateTransition → Type 0
  IsKnown t = (t.action < length m.actions) × (t.signals ≡ 0)

  leaf_known : (activities : List Activity) (ts : List Transition) → AllZip (StandsForTransition m.leaves) activities ts → AllByRecursion (λ a. a.action < length m.actions) activities → AllByRecursion IsKnown (map leaf_move ts)
  leaf_known [] [] h known = tt
  leaf_known [] (t ∷ ts) h known = absurd h
  leaf_known (a ∷ activities) [] h known = absurd h
  leaf_known (a ∷ activities) (t ∷ ts) h known =
      ((subst (λ (n : ℕ). n < length m.actions) (sym h.0.action) known.0, h.0.signals), leaf_known activities ts h.1 known.1)

  tau_known : 0 < length m.actions
  tau_known = slice_get_within m.actions 0 (codes "tau") sound.tau

  joint_known : (set : List ℕ) (ra rb : ℕ → Rate) (us vs : List StateTransition) → AllByRecursion IsKnown us → AllByRecursion IsKnown vs → AllByRecursion IsKnown (joint_moves (λ p q. Cooperating p q set) set ra rb us vs)
  joint_known set ra rb us vs h k =
      all_flat IsKnown IsKnown (λ u. map (joint_move set (ra u.action) (rb u.action) u) (filter (λ v. u.action == v.action) vs))
      (λ u known. all_mapped IsKnown IsKnown (joint_move set (ra u.action) (rb u.action) u) (λ v other. (known.0, united u.signals v.signals known.1 other.1)) (filter (λ v. u.action == v.action) vs) (all_filter IsKnown (λ v. u.action == v.action) vs k))
      (filter (λ u. has set u.action) us) (all_filter IsKnown (λ u. has set u.action) us h)
    where
      united : (x y : ℕ) → x ≡ 0 → y ≡ 0 → bit_or x y ≡ 0
      united x y e f = ap (λ (n : ℕ). bit_or n y) e ∙ ap (λ (n : ℕ). bit_or 0 n) f

  moves_known : (state : State) (node : TermNode) (tree : OpenState) → NodeStandsFor m state node → OpensState m.bodies state tree → AllByRecursion IsKnown (moves_in tree)
  moves_known (AtLeaf e) (LeafNode n) (LeafOpen o) stands opens =
      let leaf = sound.leaves n e stands in
      let same : leaf.opened ≡ o = one_opening m.bodies e e leaf.opened o refl leaf.opens opens in
      subst (λ (p : Opened). AllByRecursion IsKnown (map leaf_move (moves p))) same (leaf_known leaf.activities (moves leaf.opened) leaf.stand leaf.known)
  moves_known (AtLeaf e) (LeafNode n) (CoopOpen s t set) stands opens = absurd opens
  moves_known (AtLeaf e) (LeafNode n) (HideOpen s set) stands opens = absurd opens
  moves_known (Cooperating p q set) (CoopNode x y number) (LeafOpen o) stands opens = absurd opens
  moves_known (Cooperating p q set) (CoopNode x y number) (HideOpen s other) stands opens = absurd opens
  moves_known (Cooperating p q set) (CoopNode x y number) (CoopOpen s t other) (of_x, of_y, at) opens =
      let left = moves_known p x s of_x opens.0 in
      let right = moves_known q y t of_y opens.1 in
      all_append IsKnown
      (map (left_move (closed_state t) other) (filter (λ u. not (has other u.action)) (moves_in s)) ++ map (right_move (closed_state s) other) (filter (λ v. not (has other v.action)) (moves_in t)))
      (joint_moves (λ p q. Cooperating p q other) other (λ a. rate_of (apparent_in s a)) (λ a. rate_of (apparent_in t a)) (moves_in s) (moves_in t))
      (all_append IsKnown
      (map (left_move (closed_state t) other) (filter (λ u. not (has other u.action)) (moves_in s))) (map (right_move (closed_state s) other) (filter (λ v. not (has other v.action)) (moves_in t)))
      (all_mapped IsKnown IsKnown (left_move (closed_state t) other) (λ u known. known) (filter (λ u. not (has other u.action)) (moves_in s)) (all_filter IsKnown (λ u. not (has other u.action)) (moves_in s) left))
      (all_mapped IsKnown IsKnown (right_move (closed_state s) other) (λ v known. known) (filter (λ v. not (has other v.action)) (moves_in t)) (all_filter IsKnown (λ v. not (has other v.action)) (moves_in t) right)))
      (joint_known other (λ a. rate_of (apparent_in s a)) (λ a. rate_of (apparent_in t a)) (moves_in s) (moves_in t) left right)
  moves_known (Hiding p set) (HideNode x number) (LeafOpen o) stands opens = absurd opens
  moves_known (Hiding p set) (HideNode x number) (CoopOpen s t other) stands opens = absurd opens
  moves_known (Hiding p set) (HideNode x number) (HideOpen s other) (of_x, at) opens =
      all_mapped IsKnown IsKnown (hidden_move other) (λ u known. (by (has other u.action) u.action known.0, known.1)) (moves_in s) (moves_known p x s of_x opens.0)
    where
      by : (b : Bool) (a : ℕ) → a < length m.actions → (if b then 0 else a) < length m.actions
      by true a known = tau_known
      by false a known = known
  moves_known state node tree stands opens = absurd stands

  each_can_print : (steps : List Step) (ts : List StateTransition) → AllZip (StepStandsFor m) steps ts → AllByRecursion IsKnown ts → AllByRecursion (CanPrintStep m) steps
  each_can_print [] ts h known = tt
  each_can_print (s ∷ steps) [] h known = absurd h
  each_can_print (s ∷ steps) (t ∷ ts) h known =
      (record { action = subst (λ (n : ℕ). n < length m.actions) (sym h.0.action) known.0.0; signals = h.0.signals ∙ known.0.1; target = node_of_model m t.target (term_of s.target) h.0.target }, each_can_print steps ts h.1 known.1)

  pub steps_can_print : (state : State) (node : TermNode) (steps : List Step) → NodeStandsFor m state node → AreStepsOf m state steps → CanPrint m steps
  steps_can_print state node steps stands ((tree, opens, fine), (transitions, listed, stand)) =
      let moves_list = transition_list m.bodies state tree opens (state_without_tau m sound state node tree stands opens) (rates_of (parts_in tree) fine) in
      let same : transitions ≡ moves_in tree = one_list m.bodies state transitions (moves_in tree) listed moves_list in
      All-from_recursion (CanPrintStep m) steps
      (each_can_print steps (moves_in tree) (subst (λ (ts : List StateTransition). AllZip (StepStandsFor m) steps ts) same stand) (moves_known state node tree stands opens))
    where
      rates_of : (parts : List OpenState) → AllByRecursion IsFinePart parts → AllByRecursion HasFineStateRates parts
      rates_of [] h = tt
      rates_of (p ∷ parts) h = (h.0.rates, rates_of parts h.1)
