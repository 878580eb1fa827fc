-- States by the numbers of terms in a list that grows.
use Rattle.std.specs.Prelude.{◌≡◌, ℕ, ◌≤◌, Some, List, ◌++◌, slice_get}
use Rattle.pepa_model.specs.PepaModel.{PepaModel}
use Rattle.pepa_model.specs.Terms.{IsTermOf}
use Rattle.pepa_model.specs.declared.term.Term.{Term}
use Rattle.pepa_steps.specs.States.{State, StandsFor}
use Rattle.plain_space.specs.PlainLists.{PlainView, IsLoadedAt}

-- the plain space that loads the lists, the terms, and how often there was no room
pub record NumberView : Type 0 where
  pub space : PlainView
  pub known : List Term
  pub fulls : ℕ

-- the term of this number stands for the state
pub record NumberStandsFor (m : PepaModel) (known : List Term) (number : ℕ) (state : State) : Type 0 where
  pub term : Term
  pub at : slice_get known number ≡ Some term
  pub of_model : IsTermOf m term
  pub stands : StandsFor m state term

-- some term stands for the state
abbrev pub HasSomeNumber : PepaModel → List Term → State → Type 0
HasSomeNumber m known state = (number : ℕ) × NumberStandsFor m known number state

-- the list was loaded of the term of this number
pub record IsLoadedFor (view : NumberView) (number : ℕ) : Type 0 where
  pub term : Term
  pub at : slice_get view.known number ≡ Some term
  pub loaded : IsLoadedAt view.space term

-- the model is the same, the terms are the earlier ones and perhaps more, and it was full at least as often
pub record HasGrown (before after : NumberView) : Type 0 where
  pub model : after.space.model ≡ before.space.model
  pub more : List Term
  pub known : after.known ≡ before.known ++ more
  pub fulls : before.fulls ≤ after.fulls
