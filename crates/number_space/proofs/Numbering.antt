-- The term of a number, and the number of the term that is added.
use Rattle.std.specs.Prelude.{⊤}
use Rattle.std.proofs.Common.{◌≡◌, ℕ, Result, Ok, Err, IfOk, Some, List, [], ◌∷◌, ◌++◌, length, slice_get, get_or, refl, sym, ◌∙◌, subst}
use Rattle.std.proofs.lemmas.Option.{get_or_from_slice_get}
use Rattle.pepa_model.specs.PepaModel.{PepaModel}
use Rattle.pepa_model.specs.Terms.{IsTermOf}
use Rattle.pepa_model.specs.declared.term.Term.{Term}
use Rattle.pepa_steps.specs.States.{State, StateTransition, StandsFor}
use Rattle.pepa_steps.specs.ListAnswers.{IsTransitionAt}
use Rattle.sim_space.specs.declared.space.Halt.{Halt}
use Rattle.plain_space.specs.PlainLists.{IsLoadedAt}
use Rattle.number_space.specs.NumberedStates.{NumberView, NumberStandsFor, HasSomeNumber, IsLoadedFor}

-- the list was loaded of this term, which has the number
pub loaded_here : (view : NumberView) (number : ℕ) (term : Term) → IsLoadedFor view number → term ≡ get_or view.known number term → IsLoadedAt view.space term
loaded_here view number term h is =
    let same : term ≡ h.term = is ∙ get_or_from_slice_get view.known number h.term term h.at in
    subst (IsLoadedAt view.space) (sym same) h.loaded

at_end : (xs : List Term) (t : Term) → slice_get (xs ++ t ∷ []) (length xs) ≡ Some t
at_end [] t = refl
at_end (x ∷ xs) t = at_end xs t

-- the number of a term to which a transition leads
pub numbered_after : (result : Result ℕ Halt) (old : List Term) (i number : ℕ) (m : PepaModel) (from made : Term) (going : PepaModel) (after : NumberView)
    → IfOk result (λ n. n ≡ length old) → IfOk result (λ n. after.known ≡ old ++ made ∷ []) → after.space.model ≡ going → from ≡ get_or old number from
    → ((q : State) (t : StateTransition) → IsTermOf m from × StandsFor m q from → IsTransitionAt m.bodies q i t → (IsTermOf going made × StandsFor going t.target made) × ⊤)
    → IfOk result (λ x. (q : State) (t : StateTransition) → NumberStandsFor m old number q → IsTransitionAt m.bodies q i t
    → NumberStandsFor after.space.model after.known x t.target × HasSomeNumber after.space.model after.known t.target)
numbered_after (Err e) old i number m from made going after is more same here leads = tt
numbered_after (Ok x) old i number m from made going after is more same here leads = λ q t h at.
    let known : from ≡ h.term = here ∙ get_or_from_slice_get old number h.term from h.at in
    let led = leads q t (subst (λ (y : Term). IsTermOf m y × StandsFor m q y) (sym known) (h.of_model, h.stands)) at in
    let there = subst (λ (n : PepaModel). IsTermOf n made × StandsFor n t.target made) (sym same) led.0 in
    let place : slice_get after.known x ≡ Some made = rw (more, is) (at_end old made) in
    let one : NumberStandsFor after.space.model after.known x t.target = record { term = made; at = place; of_model = there.0; stands = there.1 } in
    (one, (x, one))
