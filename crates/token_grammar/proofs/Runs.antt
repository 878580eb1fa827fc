-- Runs of machines, one after the other, and where they halt.
use Rattle.std.proofs.Common.{◌≡◌, ℕ, List, [], ◌∷◌, ◌++◌, drop, Option, Some, None, option_and_then, refl, ap, ◌∙◌}
use Rattle.token_grammar.specs.declared.terminal.Terminal.{Terminal}
use Rattle.token_grammar.specs.Cursors.{IsSpelledFrom}
use Rattle.token_grammar.specs.Machines.{runs, IsRefusedBy, HaltsAt}
use Rattle.token_grammar.proofs.Spelled.{spelled_nothing, spelled_append}

-- what stands after the front is read from the state that the front leads to
pub run-append : {S : Type 0} (step : S → Terminal → Option S) (state : S) (front rest : List Terminal) → runs step state (front ++ rest) ≡ option_and_then (λ next. runs step next rest) (runs step state front)
unfolding runs
run-append step state [] rest = refl
run-append {S = S} step state (terminal ∷ more) rest = after (λ next. run-append step next more rest) (step state terminal)
  where
    after : ((next : S) → runs step next (more ++ rest) ≡ option_and_then (λ last. runs step last rest) (runs step next more)) → (o : Option S) → option_and_then (λ next. runs step next (more ++ rest)) o ≡ option_and_then (λ last. runs step last rest) (option_and_then (λ next. runs step next more) o)
    after each None = refl
    after each (Some next) = each next

-- the same, where the front is known to be readable
pub run_along : {S : Type 0} (step : S → Terminal → Option S) (from mid : S) (front rest : List Terminal) → runs step from front ≡ Some mid → runs step from (front ++ rest) ≡ runs step mid rest
run_along step from mid front rest h = run-append step from front rest ∙ ap (option_and_then (λ next. runs step next rest)) h

-- one step, and then the others
pub run_step : {S : Type 0} (step : S → Terminal → Option S) (from next : S) (terminal : Terminal) (rest : List Terminal) → step from terminal ≡ Some next → runs step from (terminal ∷ rest) ≡ runs step next rest
unfolding runs
run_step step from next terminal rest h = ap (option_and_then (λ next. runs step next rest)) h

-- a machine halts at once where what stands there can't follow
pub halts_here : {S : Type 0} {step : S → Terminal → Option S} {IsUndone : S → Type 0} {kinds : List Terminal} {at : ℕ} {state : S} → IsUndone state → IsRefusedBy step state (drop at kinds) → HaltsAt step IsUndone kinds at at state
unfolding runs
halts_here {kinds = kinds} {at = at} {state = state} undone refused =
    record { state = state; text = []; spelled = spelled_nothing kinds at; ran = refl; undone = undone; refused = refused }

-- and after what it has read before
pub halts_after : {S : Type 0} {step : S → Terminal → Option S} {IsUndone : S → Type 0} {kinds : List Terminal} {at mid i : ℕ} {text : List Terminal} (from to : S) → IsSpelledFrom kinds at mid text → runs step from text ≡ Some to → HaltsAt step IsUndone kinds mid i to → HaltsAt step IsUndone kinds at i from
halts_after {step = step} {text = text} from to spelled ran halts =
    record {
      state = halts.state;
      text = text ++ halts.text;
      spelled = spelled_append spelled halts.spelled;
      ran = run_along step from to text halts.text ran ∙ halts.ran;
      undone = halts.undone;
      refused = halts.refused;
    }
