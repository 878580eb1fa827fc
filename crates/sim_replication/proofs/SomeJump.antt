-- At a point from which something can be chosen there is a jump, or the replication stops.
use Rattle.std.proofs.Common.{◌≡◌, ℕ, zero, suc, ◌+◌, ◌*◌, ◌/◌, ◌%◌, ◌^◌, ◌<◌, ◌≤◌, ◌⊎◌, inl, inr, List, [], ◌∷◌, length, take, map, sum, Some, slice_get, refl, ap, sym, ◌∙◌, subst, arith}
use Rattle.std.specs.List.{AllZip}
use Rattle.std.proofs.lemmas.Bool.{cases_lt}
use Rattle.std.proofs.lemmas.List.{length-map, take_all}
use Rattle.std.proofs.lemmas.Option.{slice_get_cases}
use Rattle.pepa_model.specs.PepaModel.{PepaModel, IsModel}
use Rattle.pepa_model.specs.declared.term.Step.{Step}
use Rattle.pepa_steps.specs.States.{State, StateTransition, StepStandsFor}
use Rattle.pepa_steps.specs.Combined.{entry_of}
use Rattle.pepa_steps.specs.Existence.{HasStepsOrFault}
use Rattle.pepa_steps.specs.ListAnswers.{IsTransitionAt}
use Rattle.pepa_steps.specs.StateVerdict.{IsWithoutFault, OfRates, OfLength, OfDerivation}
use Rattle.pepa_rates.specs.declared.rate.RateFault.TheVariants as rates
use Rattle.pepa_steps.specs.WholeVerdict.{StateStop, OfPart, OfPassive, OfWeights, IsWholeVerdict}
use Rattle.pepa_steps.specs.declared.entries.Entry.{Entry}
use Rattle.pepa_steps.proofs.Existing.{has_steps_or_fault}
use Rattle.pepa_steps.proofs.OneState.{one_list}
use Rattle.pepa_steps.proofs.OneVerdict.{verdict_or_none}
use Rattle.sim_draws.specs.Numbers.{next_numbers}
use Rattle.sim_draws.specs.FairDraw.{IsDrawBelow}
use Rattle.sim_draws.proofs.OneDraw.{draw_within}
use Rattle.sim_draws.proofs.SomeDraw.{FirstBelow, first_or_none, some_exponential, some_below}
use Rattle.sim_space.specs.LoadedLists.{weights_in, IsChoiceList, IsChosen}
use Rattle.sim_space.specs.declared.stop.Stop.{Stop}
use Rattle.sim_space.specs.declared.stop.Stop.TheVariants.{Mixed, Overflow, ListTooLong, PassiveLeft, WeightOverflow, TimeOverflow, DrawLimit}
use Rattle.sim_space.proofs.WeightSums.{weights_long}
use Rattle.sim_replication.specs.Signals.{TakenJump}
use Rattle.sim_replication.specs.Jumps.{Point, whole_of, time_after, IsTimeDraw, choice_numbers, JumpsTo, NoTime, NoChoice, HasChoice, StopsBy}
use Rattle.sim_replication.proofs.FirstOnes.{HasTerm}

-- ---- what is chosen

by_first : (ws : List ℕ) (c : ℕ) → FirstBelow (λ i. c < sum (take (i + 1) ws)) (length ws) → (i : ℕ) × IsChosen ws c i
by_first ws c f = (f.number, record { in_list = f.within; above = f.holds; first = before })
  where
    before : (k : ℕ) → k ≤ f.number → sum (take k ws) ≤ c
    before zero le = omega arith
    before (suc j) le =
        elim (cases_lt c (sum (take (suc j) ws))) [
          | inl more ↦ let e : suc j ≡ j + 1 = omega arith in absurd (f.first j (omega arith) (subst (λ (n : ℕ). c < sum (take n ws)) e more))
          | inr few ↦ few
        ]

-- a number below the sum chooses an index
pub some_chosen : (ws : List ℕ) (c : ℕ) → c < sum ws → (i : ℕ) × IsChosen ws c i
some_chosen [] c less = absurd (omega arith)
some_chosen (w ∷ ws) c less =
    let P : ℕ → Type 0 = λ i. c < sum (take (i + 1) (w ∷ ws)) in
    let each : (i : ℕ) → P i ⊎ (P i → ⊥) = λ i. elim (cases_lt c (sum (take (i + 1) (w ∷ ws)))) [ inl more ↦ inl more | inr few ↦ inr (λ more. absurd (omega (arith, more, few))) ] in
    elim (first_or_none P each (length (w ∷ ws))) [
      | inl f ↦ by_first (w ∷ ws) c f
      | inr none ↦
          let whole : sum (take (length ws + 1) (w ∷ ws)) ≡ sum (w ∷ ws) = ap sum (take_all (length ws + 1) (w ∷ ws) (omega arith)) in
          absurd (none (length ws) (omega arith) (omega (arith, whole, less)))
    ]

-- ---- the jump

module _ (m : PepaModel) (at : ℕ → ℕ) (p : Point) where
  abbrev pub HasJump : Type 0
  HasJump = (taken : TakenJump) × ((q : Point) × JumpsTo m at p taken q)

  abbrev pub HasStop : Type 0
  HasStop = (s : Stop) × StopsBy m at p s

  at_index : (ts : List StateTransition) (i : ℕ) → i < length ts → (t : StateTransition) × (slice_get ts i ≡ Some t)
  at_index ts i less =
      elim (slice_get_cases ts i).1 [
        | inl (t, within, is, rest) ↦ (t, is)
        | inr (past, none) ↦ absurd (omega arith)
      ]

  jump_by : (entries : List Entry) → IsChoiceList m p.state entries → (draw used : ℕ) → IsTimeDraw at p draw used → time_after entries p.time draw < 2 ^ 63
      → (choice choice_used : ℕ) → IsDrawBelow (choice_numbers at p used) (whole_of entries) choice choice_used → HasJump
  jump_by entries listed draw used drawn fits choice choice_used choosing =
      let chosen = some_chosen (weights_in entries) choice (draw_within _ _ choice choice_used choosing) in
      let long = ap (λ (es : List Entry). length es) listed.same ∙ length-map listed.transitions entry_of in
      let found = at_index listed.transitions chosen.0 (omega (arith, chosen.1.in_list, weights_long entries, long)) in
      let after : Point = record { state = found.0.target; time = time_after entries p.time draw; place = p.place + used + choice_used } in (
        record { from = p.state; signals = found.0.signals; time = after.time },
        (
          after,
          record {
            entries = entries;
            listed = listed;
            draw = draw;
            draw_used = used;
            drawn = drawn;
            time_is = refl;
            in_time = fits;
            choice = choice;
            choice_used = choice_used;
            choosing = choosing;
            index = chosen.0;
            chosen = chosen.1;
            transition = found.0;
            transition_is = record { transitions = listed.transitions; listed = listed.listed; at = found.1 };
            target_is = refl;
            place_is = refl;
            taken_is = refl;
          },
        ),
      )

  pub jump_or_stop : (entries : List Entry) → HasChoice m p.state entries → HasJump ⊎ HasStop
  jump_or_stop entries can =
      elim (some_exponential (next_numbers at p.place 256)) [
        | inr none ↦ inr (DrawLimit, (entries, can, NoTime none))
        | inl (draw, (used, drawn)) ↦ elim (cases_lt (time_after entries p.time draw) (2 ^ 63)) [
          | inr late ↦ inr (TimeOverflow, (entries, can, (draw, (used, drawn, late))))
          | inl fits ↦ elim (some_below (choice_numbers at p used) (whole_of entries)) [
            | inr none ↦ inr (DrawLimit, (entries, can, NoChoice draw used drawn fits none))
            | inl (choice, (choice_used, choosing)) ↦ inl (jump_by entries can.0 draw used drawn fits choice choice_used choosing)
          ]
        ]
      ]

  -- ---- the verdict

  pub verdict_stops : (v : StateStop) → IsWholeVerdict m.bodies p.state v → HasStop
  verdict_stops (OfPart (OfRates rates.Mixed)) h = (Mixed, (OfPart (OfRates rates.Mixed), h, refl))
  verdict_stops (OfPart (OfRates rates.Overflow)) h = (Overflow, (OfPart (OfRates rates.Overflow), h, refl))
  verdict_stops (OfPart OfLength) h = (ListTooLong, (OfPart OfLength, h, refl))
  verdict_stops (OfPart OfDerivation) h = (Overflow, (OfPart OfDerivation, h, refl))
  verdict_stops OfPassive h = (PassiveLeft, (OfPassive, h, refl))
  verdict_stops OfWeights h = (WeightOverflow, (OfWeights, h, refl))

-- ---- a term stands for each state to which a jump leads

module _ (m : PepaModel) (sound : IsModel m) where
  term_at : (steps : List Step) (us : List StateTransition) (i : ℕ) (t : StateTransition) → AllZip (StepStandsFor m) steps us → slice_get us i ≡ Some t → HasTerm m t.target
  term_at [] [] i t h at = absurd cc
  term_at [] (u ∷ us) i t h at = absurd h
  term_at (s ∷ steps) [] i t h at = absurd h
  term_at (s ∷ steps) (u ∷ us) zero t h at = let same : u ≡ t = cc in subst (λ (x : StateTransition). HasTerm m x.target) same (s.target, h.0.target)
  term_at (s ∷ steps) (u ∷ us) (suc i) t h at = term_at steps us i t h.1 at

  pub term_after : (state : State) (i : ℕ) (t : StateTransition) → HasTerm m state → IsWithoutFault m.bodies state → IsTransitionAt m.bodies state i t → HasTerm m t.target
  term_after state i t has fine is = of_cases (has_steps_or_fault m sound state has.0 has.1)
    where
      of_cases : HasStepsOrFault m state → HasTerm m t.target
      of_cases (inl (steps, (also, (us, listed, stand)))) =
          term_at steps us i t stand (subst (λ (l : List StateTransition). slice_get l i ≡ Some t) (one_list m.bodies state is.transitions us is.listed listed) is.at)
      of_cases (inr (name, (fault, verdict, named))) = absurd (verdict_or_none m.bodies state fault verdict fine)
