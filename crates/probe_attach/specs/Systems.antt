-- The leaves of systems, one compound constant at a time.
use Rattle.std.specs.Prelude.{◌≡◌, ℕ, ◌+◌, List, [], ◌∷◌, ◌++◌}
use Rattle.pepa_model.specs.Expression.{Shape, LeafShape, ConstShape, CoopShape, HideShape}
use Rattle.pepa_model.specs.Expanded.{Expanded, Expands, leaves_in}
use Rattle.pepa_model.specs.PepaModel.{PepaModel}

-- how many leaves a system has outside its compound constants
abbrev pub own_leaves : Shape → ℕ
own_leaves (LeafShape e) = 1
own_leaves (ConstShape c) = 0
own_leaves (CoopShape x y set) = own_leaves x + own_leaves y
own_leaves (HideShape x set) = own_leaves x

-- its compound constants, each as often as it is written
abbrev pub compounds_in : Shape → List ℕ
compounds_in (LeafShape e) = []
compounds_in (ConstShape c) = c ∷ []
compounds_in (CoopShape x y set) = compounds_in x ++ compounds_in y
compounds_in (HideShape x set) = compounds_in x

-- how many leaves the model's system has, with its compound constants expanded
pub record HasLeaves (m : PepaModel) (count : ℕ) : Type 0 where
  pub tree : Expanded
  pub expands : Expands m.bodies m.system tree
  pub count_is : count ≡ leaves_in tree
