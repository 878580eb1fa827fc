-- A file with its structure, as the definitions speak of it.
use Rattle.std.specs.Prelude.{◌≡◌, ℕ, Bool, List, length}
use Rattle.indexmap.specs.IndexMap.{keys}
use Rattle.node_orders.specs.Graphs.{IsOrder}
use Rattle.pepa_resolver.specs.Named.{Named}
use Rattle.pepa_resolver.specs.NamedTypes.{named_of, bodies_of}
use Rattle.pepa_checks.specs.declared.counting.Counted.{Counted}
use Rattle.pepa_checks.specs.declared.structured_file.StructuredFile.{StructuredFile}
use Rattle.pepa_checks.specs.declared.structured_file.FileView.{FileView}
use Rattle.pepa_checks.specs.Structure.{CompoundEdge, UnguardedEdge}
use Rattle.pepa_checks.specs.Built.{IsBuilt}
use Rattle.pepa_checks.specs.Outline.{Outline, outline_of, outline_with}
use Rattle.pepa_checks.specs.Limits.{PassesLimit}
use Rattle.pepa_checks.specs.CountedFiles.{IsCounted}

-- which of its constants are compound
abbrev pub flags_in : StructuredFile → List Bool
flags_in file = file.structure.compounds

-- what its constants stand for
abbrev pub bodies_in : StructuredFile → List Named
bodies_in file = bodies_of file.numbered.bodies

abbrev pub system_in : StructuredFile → Named
system_in file = named_of file.numbered.system

abbrev pub outline_in : StructuredFile → Outline
outline_in file = outline_of (flags_in file) (bodies_in file) (system_in file)

-- its processes have no fault of their structure, and it has an order of its constants along each kind of edges
pub record IsOrderedFile (file : StructuredFile) : Type 0 where
  pub built : IsBuilt (flags_in file) (bodies_in file) (system_in file)
  pub compounds : IsOrder (CompoundEdge (bodies_in file)) (length (bodies_in file)) file.structure.compound_order
  pub sequential : IsOrder (UnguardedEdge (bodies_in file)) (length (bodies_in file)) file.structure.sequential_order

-- the view has the file's processes and its structure
pub record IsViewOf (file : StructuredFile) (view : FileView) : Type 0 where
  pub compounds_are : view.compounds.now ≡ file.structure.compounds
  pub bodies_are : view.bodies.now ≡ file.numbered.bodies
  pub system_is : view.system.now ≡ file.numbered.system
  pub compound_order_is : view.compound_order.now ≡ file.structure.compound_order
  pub sequential_order_is : view.sequential_order.now ≡ file.structure.sequential_order

-- the processes of the view have no fault of their structure, and it has an order of its constants along each kind of edges
pub record IsOrderedView (view : FileView) : Type 0 where
  pub built : IsBuilt view.compounds.now (bodies_of view.bodies.now) (named_of view.system.now)
  pub compounds : IsOrder (CompoundEdge (bodies_of view.bodies.now)) (length (bodies_of view.bodies.now)) view.compound_order.now
  pub sequential : IsOrder (UnguardedEdge (bodies_of view.bodies.now)) (length (bodies_of view.bodies.now)) view.sequential_order.now

-- the outline of its processes, with these sets
abbrev pub outline_seen : List (List ℕ) → FileView → Outline
outline_seen sets view = outline_with sets view.compounds.now (bodies_of view.bodies.now) (named_of view.system.now)

-- what is counted of the file, which passes no limit
abbrev pub IsCountedFile : StructuredFile → Counted → Type 0
IsCountedFile file counted = IsCounted (keys file.numbered.actions) (flags_in file) (bodies_in file) (system_in file) counted

abbrev pub IsPastLimit : StructuredFile → Type 0
IsPastLimit file = PassesLimit (keys file.numbered.actions) (outline_in file)
