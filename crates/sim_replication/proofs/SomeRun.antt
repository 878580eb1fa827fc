-- Each model, order and numbers have a replication that ends or one that stops.
use Rattle.std.proofs.Common.{◌≡◌, ℕ, zero, suc, ◌+◌, ◌<◌, ◌≤◌, ◌⊎◌, inl, inr, List, [], ◌∷◌, ◌++◌, length, map, refl, subst, sym, arith, length-append}
use Rattle.std.proofs.lemmas.Bool.{cases_lt}
use Rattle.pepa_model.specs.PepaModel.{PepaModel, IsModel}
use Rattle.pepa_steps.specs.States.{State, StateTransition}
use Rattle.pepa_steps.specs.Rules.{IsTransitionList}
use Rattle.pepa_steps.specs.Combined.{entry_of}
use Rattle.pepa_steps.specs.Existence.{HasStopOrChoice}
use Rattle.pepa_steps.specs.WholeVerdict.{CanChoose}
use Rattle.pepa_steps.specs.declared.entries.Entry.{Entry}
use Rattle.pepa_steps.proofs.Existing.{has_stop_or_choice}
use Rattle.sim_space.specs.LoadedLists.{IsChoiceList}
use Rattle.sim_replication.specs.declared.order.Order.{Order}
use Rattle.sim_replication.specs.declared.ran.Ending.{Ending}
use Rattle.sim_replication.specs.declared.ran.Ending.TheVariants.{Done, Deadlock, JumpLimit}
use Rattle.sim_replication.specs.Signals.{TakenJump, passages_of}
use Rattle.sim_replication.specs.Jumps.{Point, JumpsTo}
use Rattle.sim_replication.specs.Runs.{AsksForMore, BeginsRun, EndsBy, HasRun, begin_at}
use Rattle.sim_replication.proofs.FirstOnes.{HasTerm, some_first}
use Rattle.sim_replication.proofs.SomeJump.{HasJump, HasStop, jump_or_stop, verdict_stops, term_after}
use Rattle.sim_replication.proofs.UnderWay.{begins_more}

module _ (m : PepaModel) (sound : IsModel m) (order : Order) (at : ℕ → ℕ) where
  -- one more jump, which leads to a state for which a term stands
  record GoesOn (taken : List TakenJump) : Type 0 where
    jump : TakenJump
    last : Point
    begins : BeginsRun m order at (taken ++ jump ∷ []) last
    term : HasTerm m last.state

  module _ (taken : List TakenJump) (last : Point) (begins : BeginsRun m order at taken last) where
    ended : (ending : Ending) → EndsBy m order taken last ending → HasRun m order at
    ended ending ends = inl (taken, (last, (record { passages = (passages_of taken).ended; ending = ending }, record { begins = begins; ends = ends; passages = refl })))

    stopped : AsksForMore order taken → HasStop m at last → HasRun m order at
    stopped asks stop = inr (taken, (last, (stop.0, record { begins = begins; asks = asks; stops = stop.1 })))

    module _ (asks : AsksForMore order taken) (term : HasTerm m last.state) where
      jumped : HasJump m at last → GoesOn taken
      jumped (jump, (next, jumps)) = record {
        jump = jump;
        last = next;
        begins = begins_more m order at taken last next jump begins asks jumps;
        term = subst (HasTerm m) (sym jumps.target_is) (term_after m sound last.state jumps.index jumps.transition term jumps.listed.fine jumps.transition_is);
      }

      chosen_from : (ts : List StateTransition) → IsChoiceList m last.state (map entry_of ts) → HasRun m order at ⊎ GoesOn taken
      chosen_from [] list = inl (ended Deadlock (asks, list))
      chosen_from (t ∷ ts) list =
          elim (jump_or_stop m at last (map entry_of (t ∷ ts)) (list, omega arith)) [
            | inl jump ↦ inr (jumped jump)
            | inr stop ↦ inl (stopped asks stop)
          ]

      goes_on : HasRun m order at ⊎ GoesOn taken
      goes_on = of_cases (has_stop_or_choice m sound last.state term.0 term.1)
        where
          of_cases : HasStopOrChoice m.bodies last.state → HasRun m order at ⊎ GoesOn taken
          of_cases (inl (verdict, is)) = inl (stopped asks (verdict_stops m at last verdict is))
          of_cases (inr (fine, (ts, listed, active, weighed))) =
              chosen_from ts (record { fine = fine; transitions = ts; listed = listed; active = active; weighed = weighed; same = refl })

  run_from : (left : ℕ) (taken : List TakenJump) (last : Point) → BeginsRun m order at taken last → HasTerm m last.state → length taken + left ≡ order.jumps → HasRun m order at
  run_from zero taken last begins term e =
      elim (cases_lt (length (passages_of taken).ended) order.passages) [
        | inl few ↦ ended taken last begins JumpLimit (few, omega arith)
        | inr enough ↦ ended taken last begins Done enough
      ]
  run_from (suc left) taken last begins term e =
      elim (cases_lt (length (passages_of taken).ended) order.passages) [
        | inl few ↦ elim (goes_on taken last begins (few, omega arith) term) [
          | inl run ↦ run
          | inr next ↦ (let long = length-append taken (next.jump ∷ []) in run_from left (taken ++ next.jump ∷ []) next.last next.begins next.term (omega arith))
        ]
        | inr enough ↦ ended taken last begins Done enough
      ]

  pub some_run : HasRun m order at
  some_run =
      let first = some_first m sound in
      run_from order.jumps [] (begin_at first.0) (record { start = first.0; is_first = first.1; walk = refl; asks = λ k h. absurd (omega arith) }) first.2 (omega arith)
