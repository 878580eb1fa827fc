-- What is known of a part of a state, from what is found of its rates and steps.
use Rattle.std.proofs.Common.{◌≡◌, ℕ, zero, suc, ◌<◌, ◌≤◌, List, [], ◌∷◌, ◌++◌, length, sym, subst, ◌∙◌, arith}
use Rattle.std.specs.List.{AllByRecursion, AllZip}
use Rattle.pepa_rates.specs.Fraction.{InRange}
use Rattle.pepa_rates.specs.Sum.{fraction_of}
use Rattle.pepa_rates.specs.declared.rate.Rate.{Rate}
use Rattle.pepa_rates.specs.declared.rate.RateFault.{RateFault}
use Rattle.pepa_model.specs.Apparent.{Apparent, NoRate, IsFine, HasFault}
use Rattle.pepa_model.specs.PepaModel.{PepaModel}
use Rattle.pepa_model.specs.Verdict.{IsFirstFault}
use Rattle.pepa_steps.specs.Alike.{Alike}
use Rattle.pepa_steps.specs.States.{StateTransition}
use Rattle.pepa_steps.specs.OpenStates.{OpenState, parts_in, apparent_in, moves_in}
use Rattle.pepa_steps.specs.StateVerdict.{HasFineStateRates, AreInRange, IsFinePart, PartFault, OfRates, OfLength, OfDerivation, HasPartFault}
use Rattle.pepa_steps.specs.Combined.{AreMovesInRange}
use Rattle.pepa_steps.specs.PartAnswers.{StepNode, LeadsTo, IsPartOf, HasFaultOf}
use Rattle.pepa_steps.specs.Traces.{IsFoundBy}
use Rattle.pepa_steps.proofs.Faults.{all_append, first_at_last}
use Rattle.pepa_steps.proofs.Alikes.{zip_count, zip_all, zip_all_back}

-- an action with a fault isn't `tau`, where `tau` has no rate
faulty_positive : (of : ℕ → Apparent) (fault : RateFault) → of 0 ≡ NoRate → (action : ℕ) → HasFault (of action) fault → 0 < action
faulty_positive of fault none zero h = absurd (subst (λ (x : Apparent). HasFault x fault) none h)
faulty_positive of fault none (suc n) h = omega arith

abbrev HasRange : StateTransition → Type 0
HasRange t = InRange (fraction_of t.rate)

module _ (m : PepaModel) where
  -- these are the part's rates and its steps
  pub record Agrees (of : ℕ → Apparent) (us : List StepNode) (part : OpenState) : Type 0 where
    pub each : (action : ℕ) → 0 < action → of action ≡ apparent_in part action
    pub none : of 0 ≡ NoRate
    pub moves : AllZip (Alike (LeadsTo m)) us (moves_in part)

  module _ (of : ℕ → Apparent) (us : List StepNode) (part : OpenState) (agrees : Agrees of us part) where
    fine_each : ((action : ℕ) → IsFine (of action)) → HasFineStateRates part
    fine_each fine action positive = subst IsFine (agrees.each action positive) (fine action)

    same_count : length us ≡ length (moves_in part)
    same_count = zip_count (Alike (LeadsTo m)) us (moves_in part) agrees.moves

    in_range : AreMovesInRange us → AreInRange (moves_in part)
    in_range h = zip_all (Alike (LeadsTo m)) (λ u. InRange (fraction_of u.rate)) HasRange (λ u t a range. subst (λ (r : Rate). InRange (fraction_of r)) a.rate range) us (moves_in part) agrees.moves h

    nodes_in_range : AreInRange (moves_in part) → AreMovesInRange us
    nodes_in_range h = zip_all_back (Alike (LeadsTo m)) (λ u. InRange (fraction_of u.rate)) HasRange (λ u t a range. subst (λ (r : Rate). InRange (fraction_of r)) (sym a.rate) range) us (moves_in part) agrees.moves h

    part_fault : (fault : PartFault) → HasFaultOf of us fault → HasPartFault part fault
    part_fault (OfRates fault) h =
        let positive = faulty_positive of fault agrees.none h.action h.faulty in
        record {
          action = h.action;
          counts = positive;
          faulty = subst (λ (x : Apparent). HasFault x fault) (agrees.each h.action positive) h.faulty;
          least = λ other above less. subst IsFine (agrees.each other above) (h.least other (omega arith) less);
        }
    part_fault OfLength h = (fine_each h.0, omega (arith, h.1, same_count))
    part_fault OfDerivation h = (fine_each h.0, omega (arith, h.1, same_count), λ range. h.2 (nodes_in_range range))

    -- where the parts before it are in order
    pub part_found : (front : List OpenState) → parts_in part ≡ front ++ part ∷ [] → AllByRecursion IsFinePart front → (rates : List (ℕ × Rate)) → IsFoundBy of us rates → IsPartOf m part rates us
    part_found front whole fine rates h =
        let short : length (moves_in part) ≤ 65535 = omega (arith, h.short, same_count) in
        let is_fine : IsFinePart part =
        record { rates = fine_each (λ action. subst IsFine (h.rates_are action) (h.fine action)); short = short; in_range = in_range h.in_range } in
        record {
          fine = subst (AllByRecursion IsFinePart) (sym whole) (all_append IsFinePart front (part ∷ []) fine (is_fine, tt));
          rates_are = record { each = λ action positive. h.rates_are action ∙ agrees.each action positive; no_tau = h.rates_are 0 ∙ agrees.none };
          moves = agrees.moves;
        }

    pub part_ends : (front : List OpenState) → parts_in part ≡ front ++ part ∷ [] → AllByRecursion IsFinePart front → (fault : PartFault) → HasFaultOf of us fault
        → IsFirstFault IsFinePart HasPartFault (parts_in part) fault
    part_ends front whole fine fault h =
        subst (λ all. IsFirstFault IsFinePart HasPartFault all fault) (sym whole) (first_at_last IsFinePart HasPartFault fault front part fine (part_fault fault h))
