-- The transition list of a state that a term stands for, from the list without targets.
use Rattle.std.proofs.Common.{◌≡◌, ℕ, zero, suc, ◌+◌, ◌<◌, ◌≤◌, take, List, [], ◌∷◌, ◌++◌, map, length, slice_get, Some, Ok, Err, refl, sym, ap, subst, ◌∙◌, arith}
use Rattle.std.specs.List.{AllByRecursion, AllZip}
use Rattle.std.proofs.lemmas.List.{length-map}
use Rattle.pepa_rates.specs.declared.rate.Rate.{Rate}
use Rattle.pepa_model.specs.PepaModel.{PepaModel, IsModel}
use Rattle.pepa_model.specs.Terms.{TermNode, IsNodeOf, term_of}
use Rattle.pepa_model.specs.declared.term.Term.{Term}
use Rattle.pepa_model.specs.declared.term.Step.{Step}
use Rattle.pepa_steps.specs.Alike.{Alike}
use Rattle.pepa_steps.specs.States.{State, StateTransition, NodeStandsFor, StandsFor, StepStandsFor}
use Rattle.pepa_steps.specs.OpenStates.{OpenState, OpensState, parts_in, moves_in}
use Rattle.pepa_steps.specs.Rules.{IsTransitionList}
use Rattle.pepa_steps.specs.StateVerdict.{IsWithoutFault, HasFineStateRates, IsFinePart}
use Rattle.pepa_steps.specs.Combined.{entry_of}
use Rattle.pepa_steps.specs.PartAnswers.{StepNode, LeadsTo, IsPartOf}
use Rattle.pepa_steps.specs.Traces.{Traces, AnswersLoad, HasList, IsPartFaultOf}
use Rattle.pepa_steps.specs.ListAnswers.{AreEntries, IsListAnswer, IsTransitionAt}
use Rattle.pepa_steps.specs.declared.entries.Entry.{Entry}
use Rattle.pepa_steps.specs.declared.buffers.Buffers.{Buffers}
use Rattle.pepa_steps.specs.declared.loading.Found.{Found}
use Rattle.pepa_steps.specs.declared.transitions.StepsEnd.{StepsEnd}
use Rattle.pepa_steps.specs.declared.transitions.StepsEnd.TheVariants.{Fault, Memory}
use Rattle.pepa_steps.proofs.Aims.{get_some}
use Rattle.pepa_steps.proofs.Alikes.{zip_count}
use Rattle.pepa_steps.proofs.CoopTargets.{entries_same, zip_right, get_map}
use Rattle.pepa_steps.proofs.NodeLists.{all_same}
use Rattle.pepa_steps.proofs.OneState.{one_list}
use Rattle.pepa_steps.proofs.StateLists.{transition_list}
use Rattle.pepa_steps.proofs.StateOpens.{state_opens}
use Rattle.pepa_steps.proofs.WithoutTau.{state_without_tau}

get_each : {X : Type 0} (P : X → Type 0) (xs : List X) (i : ℕ) (x : X) → AllByRecursion P xs → slice_get xs i ≡ Some x → P x
get_each P [] i x h k = absurd cc
get_each P (y ∷ xs) zero x h k = let same : y ≡ x = cc in subst P same h.0
get_each P (y ∷ xs) (suc i) x h k = get_each P xs i x h.1 k

module _ (m : PepaModel) (sound : IsModel m) (node : TermNode) where
  -- the steps of a part are the transitions of each state
  pub record AreOf (state : State) (steps : List StepNode) : Type 0 where
    pub fine : IsWithoutFault m.bodies state
    pub transitions : List StateTransition
    pub listed : IsTransitionList m.bodies state transitions
    pub moves : AllZip (Alike (LeadsTo m)) steps transitions

  abbrev IsPart : List (ℕ × Rate) → List StepNode → Type 0
  IsPart rates steps = (state : State) (tree : OpenState) → NodeStandsFor m state node → OpensState m.bodies state tree → IsPartOf m tree rates steps

  pub are_of : (rates : List (ℕ × Rate)) (steps : List StepNode) → IsPart rates steps → (state : State) → NodeStandsFor m state node → AreOf state steps
  are_of rates steps part state stands =
      let (tree, opens) = state_opens m sound state node stands in
      let h = part state tree stands opens in
      record {
        fine = (tree, opens, h.fine);
        transitions = moves_in tree;
        listed = transition_list m.bodies state tree opens (state_without_tau m sound state node tree stands opens) (all_same IsFinePart HasFineStateRates (λ part fine. fine.rates) (parts_in tree) h.fine);
        moves = h.moves;
      }

  pub list_found : (old new : Buffers) (found : Found) → AnswersLoad m node old new (Ok found) → old.entries.items ≡ [] → (state : State) → NodeStandsFor m state node → IsWithoutFault m.bodies state × AreEntries m state new.entries.items
  list_found old new found h none state stands =
      let of = are_of found.rates.entries h.steps h.part state stands in
      (of.fine, (of.transitions, of.listed, h.entries ∙ ap (λ (l : List Entry). l ++ map entry_of h.steps) none ∙ entries_same (LeadsTo m) h.steps of.transitions of.moves))

  pub list_end : (end : StepsEnd) → IsPartFaultOf m node end → (state : State) → NodeStandsFor m state node → (entries : List Entry) → IsListAnswer m state entries (Err end)
  list_end (Fault name) answers state stands entries =
      let (tree, opens) = state_opens m sound state node stands in
      let h = answers state tree stands opens in
      (h.0, (tree, opens, h.1), h.2)
  list_end Memory answers state stands entries = tt

take_next : {X : Type 0} (xs : List X) (i : ℕ) (x : X) → slice_get xs i ≡ Some x → take (suc i) xs ≡ take i xs ++ x ∷ []
take_next [] i x h = absurd cc
take_next {X} (y ∷ xs) zero x h = let same : y ≡ x = cc in ap (λ (z : X). z ∷ []) same
take_next (y ∷ xs) (suc i) x h = ap (λ l. y ∷ l) (take_next xs i x h)

take_whole : {X : Type 0} (xs : List X) (n : ℕ) → length xs ≤ n → take n xs ≡ xs
take_whole [] zero h = refl
take_whole [] (suc n) h = refl
take_whole (x ∷ xs) zero h = absurd (omega (arith, h))
take_whole (x ∷ xs) (suc n) h = ap (λ l. x ∷ l) (take_whole xs n (omega (arith, h)))

zip_last : {X Y : Type 0} (R : X → Y → Type 0) (xs : List X) (ys : List Y) (x : X) (y : Y) → AllZip R xs ys → R x y → AllZip R (xs ++ x ∷ []) (ys ++ y ∷ [])
zip_last R [] [] x y h k = (k, tt)
zip_last R [] (v ∷ ys) x y h k = absurd h
zip_last R (u ∷ xs) [] x y h k = absurd h
zip_last R (u ∷ xs) (v ∷ ys) x y h k = (h.0, zip_last R xs ys x y h.1 k)

-- the steps are the first transitions of each state that the term stands for
abbrev pub AreFirst : PepaModel → Term → List Step → ℕ → Type 0
AreFirst m term steps n =
    (state : State) (transitions : List StateTransition) → StandsFor m state term → IsTransitionList m.bodies state transitions → AllZip (StepStandsFor m) steps (take n transitions)

-- the list of a term
module _ (m : PepaModel) (sound : IsModel m) (term : Term) (buffers : Buffers) (has : HasList m term buffers) (index : ℕ) (below : index < length buffers.entries.items) where
  pub within : index < length has.steps
  within = omega (arith, below, ap length has.entries, length-map has.steps (entry_of {X = TermNode}))

  abbrev Leads : Term → Type 0
  Leads made = (steps : List StepNode) → Traces m buffers.marks.items buffers.origins.items (term_of term) buffers.mark steps → (step : StepNode) → slice_get steps index ≡ Some step → term_of made ≡ step.target

  pub target_of_model : (made : Term) → Leads made → IsNodeOf m (term_of made)
  target_of_model made leads =
      let (u, here) = get_some has.steps index within in
      subst (IsNodeOf m) (sym (leads has.steps has.traced u here)) (get_each (λ u. IsNodeOf m u.target) has.steps index u has.targets here)

  pub target_stands : (made : Term) → Leads made → (state : State) (transition : StateTransition) → StandsFor m state term → IsTransitionAt m.bodies state index transition → StandsFor m transition.target made
  target_stands made leads state transition stands there =
      let of = are_of m sound (term_of term) has.rates has.steps has.part state stands in
      let same = one_list m.bodies state there.transitions of.transitions there.listed of.listed in
      let (u, here, alike) = zip_right (Alike (LeadsTo m)) has.steps of.transitions index transition of.moves (subst (λ (ts : List StateTransition). slice_get ts index ≡ Some transition) same there.at) in
      subst (NodeStandsFor m transition.target) (sym (leads has.steps has.traced u here)) alike.target

  abbrev Stands : Term → Type 0
  Stands made = (state : State) (transition : StateTransition) → StandsFor m state term → IsTransitionAt m.bodies state index transition → StandsFor m transition.target made

  -- one more step
  pub one_more : (list : List Step) → AreFirst m term list index → (entry : Entry) → slice_get buffers.entries.items index ≡ Some entry → (made : Term) → Stands made
      → AreFirst m term (list ++ record { action = entry.action; signals = entry.signals; rate = entry.rate; target = made } ∷ []) (index + 1)
  one_more list first entry here made made_stands state transitions stands listed =
      let of = are_of m sound (term_of term) has.rates has.steps has.part state stands in
      let same = one_list m.bodies state transitions of.transitions listed of.listed in
      let moves : AllZip (Alike (LeadsTo m)) has.steps transitions = subst (λ (ts : List StateTransition). AllZip (Alike (LeadsTo m)) has.steps ts) (sym same) of.moves in
      let (t, at) = get_some transitions index (omega (arith, within, zip_count (Alike (LeadsTo m)) has.steps transitions moves)) in
      let (u, at_u, alike) = zip_right (Alike (LeadsTo m)) has.steps transitions index t moves at in
      let is_entry : Some entry ≡ Some (entry_of u) = sym here ∙ ap (λ (l : List Entry). slice_get l index) has.entries ∙ get_map entry_of has.steps index u at_u in
      let entry_is : entry ≡ entry_of u = cc in
      let next : index + 1 ≡ suc index = omega arith in
      subst (λ (ts : List StateTransition). AllZip (StepStandsFor m) (list ++ record { action = entry.action; signals = entry.signals; rate = entry.rate; target = made } ∷ []) ts) (sym (ap (λ (n : ℕ). take n transitions) next ∙ take_next transitions index t at))
      (zip_last (StepStandsFor m) list (take index transitions) _ t (first state transitions stands listed) (record {
        action = ap (λ (e : Entry). e.action) entry_is ∙ alike.action;
        signals = ap (λ (e : Entry). e.signals) entry_is ∙ alike.signals;
        rate = ap (λ (e : Entry). e.rate) entry_is ∙ alike.rate;
        target = made_stands state t stands (record { transitions = transitions; listed = listed; at = at });
      }))

module _ (m : PepaModel) (sound : IsModel m) (term : Term) (buffers : Buffers) (has : HasList m term buffers) where
  pub all_first : (list : List Step) (n : ℕ) → length buffers.entries.items ≤ n → AreFirst m term list n
      → (state : State) (transitions : List StateTransition) → StandsFor m state term → IsTransitionList m.bodies state transitions → AllZip (StepStandsFor m) list transitions
  all_first list n whole first state transitions stands listed =
      let of = are_of m sound (term_of term) has.rates has.steps has.part state stands in
      let same = one_list m.bodies state transitions of.transitions listed of.listed in
      let long : length transitions ≤ n = omega (arith, whole, ap length same, zip_count (Alike (LeadsTo m)) has.steps of.transitions of.moves, ap length has.entries, length-map has.steps (entry_of {X = TermNode})) in
      subst (λ (ts : List StateTransition). AllZip (StepStandsFor m) list ts) (take_whole transitions n long) (first state transitions stands listed)
