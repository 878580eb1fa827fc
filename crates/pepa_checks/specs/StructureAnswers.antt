-- What the check of the structure answers.
use Rattle.std.specs.Prelude.{◌≡◌, ℕ, Bool, true, false, cond, Option, Some, List, [], length}
use Rattle.std.specs.List.{Contains}
use Rattle.pepa_checks.specs.declared.structure.Parts.{Parts}
use Rattle.pepa_checks.specs.declared.structure.Structure.{Structure}
use Rattle.pepa_checks.specs.declared.structure.Misbuilt.{Misbuilt}
use Rattle.pepa_checks.specs.declared.structure.Misbuilt.TheVariants as misbuilt
use Rattle.pepa_checks.specs.declared.structure.EdgeKind.{EdgeKind}
use Rattle.pepa_checks.specs.declared.structure.EdgeKind.TheVariants.{Compound, Unguarded}
use Rattle.pepa_resolver.specs.Named.{Named, first_at, sequential_parts, constants_named, unguarded}
use Rattle.pepa_checks.specs.Structure.{has_system, IsSystem, IsCompoundConstant, NotSequentialAt, CompoundEdge, UnguardedEdge}
use Rattle.node_orders.specs.Cycles.{IsFirstCycle, HasNoCycle}
use Rattle.pepa_resolver.specs.Faults.{HasNone, IsLeast}
use Rattle.pepa_resolver.specs.Finding.{FindsLeast, lesser_index}
use Rattle.node_orders.specs.Graphs.{EdgeOf, IsTableOf, IsOrder}

-- a part of one process that has to be sequential and isn't, by its first place
abbrev pub PartAt : List Named → Named → ℕ → Type 0
PartAt bodies process i = (part : Named) × Contains (sequential_parts process) part × IsSystem bodies part × (first_at part ≡ i)

-- what is told of one process
pub record TellsParts (bodies : List Named) (process : Named) (parts : Parts) : Type 0 where
  pub has_system_is : parts.has_system ≡ has_system process
  pub sound : parts.is_system ≡ true → IsSystem bodies process
  pub complete : IsSystem bodies process → parts.is_system ≡ true
  pub first_is : parts.first ≡ first_at process
  pub least_is : FindsLeast (PartAt bodies process) parts.least

-- the least index of what isn't sequential in a process that has to be, with its own
abbrev pub fault_of : Parts → Option ℕ
fault_of parts = cond parts.is_system (lesser_index parts.least (Some parts.first)) parts.least

-- the edges of a kind
abbrev pub ConstantEdge : EdgeKind → List Named → ℕ → ℕ → Type 0
ConstantEdge Compound bodies = CompoundEdge bodies
ConstantEdge Unguarded bodies = UnguardedEdge bodies

-- where they lead from a constant with this body, which is compound or isn't
abbrev pub successors_of : EdgeKind → Bool → Named → List ℕ
successors_of Compound true body = constants_named body
successors_of Compound false body = []
successors_of Unguarded true body = []
successors_of Unguarded false body = unguarded body

-- nothing is wrong
pub record IsStructured (bodies : List Named) (system : Named) : Type 0 where
  pub sequential : HasNone (NotSequentialAt bodies system)
  pub compound : HasNoCycle (CompoundEdge bodies)
  pub guarded : HasNoCycle (UnguardedEdge bodies)

-- nothing is wrong with so many bodies and the system, and what is found of them
pub record IsStructureOf (bodies : List Named) (system : Named) (count : ℕ) (found : Structure) : Type 0 where
  pub structured : IsStructured bodies system
  pub one_each : length found.compounds ≡ count
  pub compounds : IsTableOf (IsCompoundConstant bodies) found.compounds
  pub compound_order : IsOrder (CompoundEdge bodies) count found.compound_order
  pub sequential_order : IsOrder (UnguardedEdge bodies) count found.sequential_order

-- what is wrong first
abbrev pub IsMisbuiltBy : List Named → Named → Misbuilt → Type 0
IsMisbuiltBy bodies system (misbuilt.NotSequential i) = IsLeast (NotSequentialAt bodies system) i
IsMisbuiltBy bodies system (misbuilt.ModelCycle c) = HasNone (NotSequentialAt bodies system) × IsFirstCycle (CompoundEdge bodies) c
IsMisbuiltBy bodies system (misbuilt.Unguarded c) =
    HasNone (NotSequentialAt bodies system) × HasNoCycle (CompoundEdge bodies) × IsFirstCycle (UnguardedEdge bodies) c
