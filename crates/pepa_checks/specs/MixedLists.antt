-- The first mixed activity among lists of what leaves perform.
use Rattle.std.specs.Prelude.{◌≡◌, ℕ, ◌<◌, Bool, true, false, List, Some, slice_get, map}
use Rattle.pepa_rates.specs.declared.rate.Rate.{Rate}
use Rattle.pepa_rates.specs.declared.rate.Rate.TheVariants.{Active, Passive}
use Rattle.pepa_model.specs.PepaModel.{IsMixedAt, AreUnmixed}
use Rattle.pepa_model.specs.declared.term.Activity.{Activity}
use Rattle.pepa_checks.specs.declared.summand.Performed.{Performed}

-- whether a rate is passive
abbrev pub is_passive : Rate → Bool
is_passive (Active q) = false
is_passive (Passive q) = true

-- the activities of what a leaf performs
abbrev pub activities : List Performed → List Activity
activities list = map (λ p. p.activity) list

-- the first mixed activity of the list is written at the index
pub record IsFirstMixedOf (list : List Performed) (i : ℕ) : Type 0 where
  pub place : ℕ
  pub mixed : IsMixedAt (activities list) place
  pub first : (other : ℕ) → other < place → ¬ IsMixedAt (activities list) other
  pub performed : Performed
  pub stands : slice_get list place ≡ Some performed
  pub site : performed.at ≡ i

-- no list has a mixed activity
abbrev pub HaveNoMixed : List (List Performed) → Type 0
HaveNoMixed lists = (number : ℕ) (list : List Performed) → slice_get lists number ≡ Some list → AreUnmixed (activities list)

-- the first mixed activity of the first list that has one is written at the index
pub record IsFirstMixedIn (lists : List (List Performed)) (i : ℕ) : Type 0 where
  pub number : ℕ
  pub list : List Performed
  pub is_list : slice_get lists number ≡ Some list
  pub mixed : IsFirstMixedOf list i
  pub first : (other : ℕ) (earlier : List Performed) → other < number → slice_get lists other ≡ Some earlier → AreUnmixed (activities earlier)
