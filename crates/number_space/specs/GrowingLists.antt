-- What a list of terms that has grown still says.
use Rattle.std.specs.Prelude.{◌≡◌, ℕ, ◌≤◌, Option, Some, None, List, [], ◌∷◌, ◌++◌, slice_get, refl}
use Rattle.std.proofs.Common.{arith, sym, ap, ◌∙◌, subst, append_assoc, zero, suc}
use Rattle.std.proofs.lemmas.List.{append-nil}
use Rattle.pepa_model.specs.PepaModel.{PepaModel}
use Rattle.pepa_model.specs.Terms.{IsTermOf}
use Rattle.pepa_model.specs.declared.term.Term.{Term}
use Rattle.pepa_steps.specs.States.{State, StandsFor}
use Rattle.number_space.specs.NumberedStates.{NumberView, NumberStandsFor, HasSomeNumber, HasGrown}

pub grown_self : (s : NumberView) → HasGrown s s
grown_self s = record { model = refl; more = []; known = sym (append-nil s.known); fulls = omega arith }

pub grown_twice : (a b c : NumberView) → HasGrown a b → HasGrown b c → HasGrown a c
grown_twice a b c h k = record {
  model = k.model ∙ h.model;
  more = h.more ++ k.more;
  known = k.known ∙ ap (λ (l : List Term). l ++ k.more) h.known ∙ append_assoc a.known h.more k.more;
  fulls = omega (arith, h.fulls, k.fulls);
}

in_front : (xs more : List Term) (i : ℕ) (t : Term) → slice_get xs i ≡ Some t → slice_get (xs ++ more) i ≡ Some t
in_front [] more i t h = absurd cc
in_front (y ∷ xs) more zero t h = h
in_front (y ∷ xs) more (suc i) t h = in_front xs more i t h

module _ (a b : NumberView) (grown : HasGrown a b) where
  still_at : (i : ℕ) (t : Term) → slice_get a.known i ≡ Some t → slice_get b.known i ≡ Some t
  still_at i t h =
      let P : List Term → Type 0 = λ l. slice_get l i ≡ Some t in
      subst P (sym grown.known) (in_front a.known grown.more i t h)

  pub still_has : (number : ℕ) (q : State) → NumberStandsFor a.space.model a.known number q → NumberStandsFor b.space.model b.known number q
  still_has number q h =
      let M : PepaModel → Type 0 = λ m. IsTermOf m h.term × StandsFor m q h.term in
      let there = subst M (sym grown.model) (h.of_model, h.stands) in
      record { term = h.term; at = still_at number h.term h.at; of_model = there.0; stands = there.1 }

  pub had_before : (number : ℕ) (q r : State) → NumberStandsFor a.space.model a.known number q → NumberStandsFor b.space.model b.known number r
      → NumberStandsFor a.space.model a.known number r
  had_before number q r h k =
      let some : Some h.term ≡ Some k.term = sym (still_at number h.term h.at) ∙ k.at in
      let same : k.term ≡ h.term = cc in
      let M : PepaModel → Type 0 = λ m. IsTermOf m k.term × StandsFor m r k.term in
      let T : Term → Type 0 = λ t. IsTermOf a.space.model t × StandsFor a.space.model r t in
      let here = subst T same (subst M grown.model (k.of_model, k.stands)) in
      record { term = h.term; at = h.at; of_model = here.0; stands = here.1 }

  pub still_numbered : (q : State) → HasSomeNumber a.space.model a.known q → HasSomeNumber b.space.model b.known q
  still_numbered q h = (h.0, still_has h.0 q h.1)
