-- A file's processes without a fault of their structure, and the processes that its leaves are written as.
use Rattle.std.specs.Prelude.{◌≡◌, ℕ, suc, ◌≤◌, Bool, true, false, List, [], ◌∷◌, ◌++◌, length}
use Rattle.pepa_resolver.specs.Named.{Named, NamedConstant}
use Rattle.pepa_resolver.specs.NamedTypes.{HasConstantsBelow}
use Rattle.pepa_resolver.specs.Faults.{HasNone}
use Rattle.pepa_checks.specs.Structure.{IsCompoundConstant, NotSequentialAt}
use Rattle.node_orders.specs.Graphs.{IsTableOf}
use Rattle.pepa_checks.specs.Activities.{written_leaves}
use Rattle.pepa_checks.specs.Heights.{AreLow}

-- the sequential constants, where the flags say which constants from this number on are compound
abbrev pub constant_names : ℕ → List Bool → List Named
constant_names c [] = []
constant_names c (true ∷ flags) = constant_names (suc c) flags
constant_names c (false ∷ flags) = NamedConstant 0 c ∷ constant_names (suc c) flags

-- the processes that the leaves are written as, each as often as it is
abbrev pub leaf_processes : List Bool → List Named → Named → List Named
leaf_processes compounds bodies system = constant_names 0 compounds ++ written_leaves compounds bodies system

-- processes without a fault of their structure: which constants are compound, that each constant has a right side, that what
-- has to be sequential is, and that there are not too many, and none too high
pub record IsBuilt (compounds : List Bool) (bodies : List Named) (system : Named) : Type 0 where
  pub one_each : length compounds ≡ length bodies
  pub table : IsTableOf (IsCompoundConstant bodies) compounds
  pub sequential : HasNone (NotSequentialAt bodies system)
  pub known : HasConstantsBelow (length bodies) (bodies ++ system ∷ [])
  pub few : length bodies ≤ 1024
  pub low : AreLow (bodies ++ system ∷ [])
