-- What leaves perform, list by list, from the operands of their choices.
use Rattle.std.specs.Prelude.{◌≡◌, ℕ, ◌<◌, ◌≤◌, ◌⊎◌, Bool, true, List, [], ◌∷◌, flat_map, length, sum_by, slice_set, slice_index, slice_index_or}
use Rattle.std.specs.List.{AllZip}
use Rattle.pepa_model.specs.Opened.{Opened, Opens, moves}
use Rattle.pepa_resolver.specs.Named.{Named}
use Rattle.pepa_resolver.specs.Faults.{HasNone}
use Rattle.pepa_checks.specs.Structure.{IsCompoundConstant, NotSequentialAt, UnguardedEdge}
use Rattle.node_orders.specs.Graphs.{IsTableOf, IsOrder, SaysYes}
use Rattle.pepa_checks.specs.declared.summand.Summand.{Summand}
use Rattle.pepa_checks.specs.declared.summand.Summand.TheVariants.{Constant, Activity}
use Rattle.pepa_checks.specs.declared.summand.Performed.{Performed}
use Rattle.pepa_checks.specs.declared.activities.Lists.{Lists}
use Rattle.pepa_checks.specs.Outline.{Outline, outline_with}
use Rattle.pepa_checks.specs.Activities.{written_leaves}
use Rattle.pepa_checks.specs.Summands.{AreLeafSummands, AreConstantLeaves}

-- a file with this order of its constants, these leaves of them, and these operands of the leaves' choices
pub record LeafChoices (compounds : List Bool) (order constants : List ℕ) (leaves : List (List Summand)) : Type 0 where
  pub bodies : List Named
  pub system : Named
  pub sets : List (List ℕ)
  pub one_each : length compounds ≡ length bodies
  pub table : IsTableOf (IsCompoundConstant bodies) compounds
  pub sequential : HasNone (NotSequentialAt bodies system)
  pub in_order : IsOrder (UnguardedEdge bodies) (length bodies) order
  pub constant_leaves : AreConstantLeaves (outline_with sets compounds bodies system) compounds constants
  pub operands : AreLeafSummands (outline_with sets compounds bodies system) bodies (written_leaves compounds bodies system) leaves

-- its outline
abbrev pub choices_outline : {compounds : List Bool} {order constants : List ℕ} {leaves : List (List Summand)} → LeafChoices compounds order constants leaves → Outline
choices_outline {compounds} choices = outline_with choices.sets compounds choices.bodies choices.system

-- its processes whose expressions are leaves
abbrev pub written : {compounds : List Bool} {order constants : List ℕ} {leaves : List (List Summand)} → LeafChoices compounds order constants leaves → List Named
written {compounds} choices = written_leaves compounds choices.bodies choices.system

-- the leaves have too many activities, however they open
abbrev pub OpensIntoMany : Outline → Type 0
OpensIntoMany choices_outline =
    (opened : List Opened) → AllZip (Opens choices_outline.definitions) choices_outline.leaves opened → 65535 < sum_by (λ tree. length (moves tree)) opened

-- ---- list by list

-- the list of a constant, by the number of its leaf
abbrev pub constant_list : List ℕ → List (List Performed) → ℕ → List Performed
constant_list constants lists c = slice_index_or lists (slice_index constants c) []

-- what an operand performs, where the lists of constants are there
abbrev pub performed_by : List ℕ → List (List Performed) → Summand → List Performed
performed_by constants lists (Constant c) = constant_list constants lists c
performed_by constants lists (Activity at action rate target) =
    record { at = at; activity = record { action = action; rate = rate; target = target } } ∷ []

-- what a leaf with these operands performs
abbrev pub performed_in : List ℕ → List (List Performed) → List Summand → List Performed
performed_in constants lists operands = flat_map (performed_by constants lists) operands

-- what holds of the lists while they are made
pub record AreSoFar (lists : Lists) : Type 0 where
  pub sizes : length lists.made ≡ length lists.lists
  pub total : lists.total ≡ sum_by length lists.lists
  pub few : lists.total ≤ 65535
  pub empty : (number : ℕ) → ¬ SaysYes lists.made number → slice_index_or lists.lists number [] ≡ []

-- the list of a leaf is made, unless it was
abbrev pub MakesList : List ℕ → List Summand → ℕ → Lists → Lists → Type 0
MakesList constants operands number before after =
    (SaysYes before.made number × (after.made ≡ before.made) × (after.lists ≡ before.lists))
    ⊎ ((after.made ≡ slice_set before.made number true) × (after.lists ≡ slice_set before.lists number (performed_in constants before.lists operands)))

-- with the list of this leaf there would be too many
abbrev pub PassesMost : List ℕ → List Summand → ℕ → Lists → Type 0
PassesMost constants operands number before = 65535 < sum_by length (slice_set before.lists number (performed_in constants before.lists operands))
