-- The activities of leaves, as a model has them, and where they are written.
use Rattle.std.specs.Prelude.{◌≡◌, ℕ, ◌<◌, Bool, if◌then◌else◌, List, [], ◌∷◌, ◌++◌, map, slice_get, Some, slice_index_or}
use Rattle.pepa_model.specs.Expression.{Expression, Const}
use Rattle.pepa_model.specs.Derivation.{Transition, Among}
use Rattle.pepa_model.specs.Opened.{Opened, OpenPrefix, OpenChoice, OpenConst, Opens, moves}
use Rattle.pepa_model.specs.Leaves.{same_expression, position_of}
use Rattle.pepa_model.specs.PepaModel.{IsMixedAt}
use Rattle.pepa_model.specs.declared.term.Activity.{Activity}
use Rattle.pepa_resolver.specs.Named.{Named, NamedConstant, NamedPrefix, NamedChoice, NamedCoop, NamedHide}
use Rattle.pepa_checks.specs.Outline.{is_compound, expression_in, Outline}

-- the number of a leaf
abbrev pub leaf_number : List Expression → Expression → ℕ
leaf_number leaves e = position_of same_expression leaves e

-- a transition as an activity, with the number of the leaf that follows
abbrev pub activity_in : List Expression → Transition → Activity
activity_in leaves t = record { action = t.action; rate = t.rate; target = leaf_number leaves t.target }

-- the activities of an opened expression
abbrev pub activities_in : List Expression → Opened → List Activity
activities_in leaves opened = map (activity_in leaves) (moves opened)

-- the activities of a leaf
abbrev pub AreActivitiesOf : Outline → Expression → List Activity → Type 0
AreActivitiesOf outline e activities = (opened : Opened) × Opens outline.definitions e opened × (activities ≡ activities_in outline.leaves opened)

-- ---- where they are written

-- the indices of the `(` of the activities of a process, whose expression opens into the tree; those that come by a constant
-- stand in the constant's body
abbrev pub sites : List Named → Named → Opened → List ℕ
sites bodies (NamedPrefix at action rate next) (OpenPrefix a r e) = at ∷ []
sites bodies (NamedChoice left right) (OpenChoice p q) = sites bodies left p ++ sites bodies right q
sites bodies (NamedConstant at c) (OpenConst d p) = sites bodies (slice_index_or bodies c (NamedConstant at c)) p
sites bodies _ _ = []

-- what follows the activities of a process
abbrev pub written_followers : Named → List Named
written_followers (NamedConstant at c) = []
written_followers (NamedPrefix at action rate next) = next ∷ written_followers next
written_followers (NamedChoice left right) = written_followers left ++ written_followers right
written_followers (NamedCoop left right set) = []
written_followers (NamedHide inner set) = []

-- the sequential components of a process, each with what follows its activities
abbrev pub written_components : List Bool → Named → List Named
written_components compounds (NamedConstant at c) = if is_compound compounds c then [] else NamedConstant at c ∷ []
written_components compounds (NamedPrefix at action rate next) = NamedPrefix at action rate next ∷ written_followers (NamedPrefix at action rate next)
written_components compounds (NamedChoice left right) = NamedChoice left right ∷ written_followers (NamedChoice left right)
written_components compounds (NamedCoop left right set) = written_components compounds left ++ written_components compounds right
written_components compounds (NamedHide inner set) = written_components compounds inner

-- those of the right sides of lines, where the flags say which constants are compound
abbrev pub written_in : List Bool → List Bool → List Named → List Named
written_in compounds [] bodies = []
written_in compounds (flag ∷ flags) [] = []
written_in compounds (flag ∷ flags) (body ∷ bodies) =
    (if flag then written_components compounds body else written_followers body) ++ written_in compounds flags bodies

-- the processes of a file whose expressions are leaves, in the order of the text
abbrev pub written_leaves : List Bool → List Named → Named → List Named
written_leaves compounds bodies system = written_in compounds compounds bodies ++ written_components compounds system

-- what a leaf is first written as: a sequential constant is its name, and another leaf the first process of its expression.
-- The index of a constant's name doesn't matter, since its activities come by its line.
abbrev pub IsFirstWritten : List Named → Expression → Named → Type 0
IsFirstWritten written (Const c) process = process ≡ NamedConstant 0 c
IsFirstWritten written e process =
    (before : List Named) × (behind : List Named) × (written ≡ before ++ process ∷ behind)
    × (expression_in process ≡ e) × ((other : Named) → Among other before → ¬ (expression_in other ≡ e))

-- ---- mixed choices

-- an activity of this leaf is mixed
abbrev pub HasMixed : Outline → Expression → Type 0
HasMixed outline leaf = (opened : Opened) × Opens outline.definitions leaf opened × ((place : ℕ) × IsMixedAt (activities_in outline.leaves opened) place)

-- no leaf has one
abbrev pub HasNoMixed : Outline → Type 0
HasNoMixed outline = (number : ℕ) (leaf : Expression) → slice_get outline.leaves number ≡ Some leaf → ¬ HasMixed outline leaf

-- the first mixed activity of this leaf is written at the index
pub record IsMixedLeaf (outline : Outline) (bodies written : List Named) (leaf : Expression) (i : ℕ) : Type 0 where
  pub opened : Opened
  pub opens : Opens outline.definitions leaf opened
  pub place : ℕ
  pub mixed : IsMixedAt (activities_in outline.leaves opened) place
  pub first : (other : ℕ) → other < place → ¬ IsMixedAt (activities_in outline.leaves opened) other
  pub process : Named
  pub first_written : IsFirstWritten written leaf process
  pub site : slice_get (sites bodies process opened) place ≡ Some i

-- the first mixed activity of the first leaf that has one is written at the index
pub record IsFirstMixed (outline : Outline) (bodies written : List Named) (i : ℕ) : Type 0 where
  pub number : ℕ
  pub leaf : Expression
  pub is_leaf : slice_get outline.leaves number ≡ Some leaf
  pub mixed : IsMixedLeaf outline bodies written leaf i
  pub first : (other : ℕ) (earlier : Expression) → other < number → slice_get outline.leaves other ≡ Some earlier → ¬ HasMixed outline earlier
