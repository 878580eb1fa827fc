-- What the checks of a file up to its structure answer.
use Rattle.std.specs.Prelude.{◌≡◌, ℕ, ◌<◌, List, length, Some, slice_get}
use Rattle.pepa_rates.specs.declared.rate.Rate.{Rate}
use Rattle.pepa_lexer.specs.declared.kinds.Token.{Token}
use Rattle.pepa_reader.specs.Trees.{FileNode, ProcessLineNode}
use Rattle.node_orders.specs.Cycles.{IsFirstCycle, HasNoCycle}
use Rattle.pepa_resolver.specs.declared.refusal.ResolveCause.{ResolveCause}
use Rattle.pepa_resolver.specs.declared.refusal.ResolveCause.TheVariants as resolver
use Rattle.pepa_resolver.specs.Parts.{process_ats}
use Rattle.pepa_resolver.specs.Faults.{HasNone, IsLeast}
use Rattle.pepa_resolver.specs.NamesAnswers.{IsNamesRefusedFor}
use Rattle.pepa_resolver.specs.Named.{Named}
use Rattle.pepa_resolver.specs.NamedTypes.{named_of, bodies_of}
use Rattle.pepa_resolver.specs.ResolvedFiles.{IsNumberedFile, IsResolvedFile}
use Rattle.pepa_checks.specs.declared.cause.CheckCause.{CheckCause}
use Rattle.pepa_checks.specs.declared.cause.CheckCause.TheVariants.{Unsupported, Twice, UnknownName, TauInSet, BadRate, NotSequential, ModelCycle, Unguarded, TooMany, MixedChoice}
use Rattle.pepa_checks.specs.declared.structure.Misbuilt.{Misbuilt}
use Rattle.pepa_checks.specs.declared.structure.Misbuilt.TheVariants as faults
use Rattle.pepa_checks.specs.declared.structured_file.StructuredFile.{StructuredFile}
use Rattle.pepa_checks.specs.Structure.{NotSequentialAt, CompoundEdge, UnguardedEdge}
use Rattle.pepa_checks.specs.StructureAnswers.{IsStructureOf}

-- the cause that is told for one of names, sets and rates
abbrev pub told_cause_of : ResolveCause → CheckCause
told_cause_of resolver.TooManyLines = TooMany
told_cause_of resolver.Twice = Twice
told_cause_of resolver.UnknownName = UnknownName
told_cause_of resolver.TauInSet = TauInSet
told_cause_of resolver.BadRate = BadRate

-- the name of the line of a constant stands at the index
abbrev pub IsLineAt : FileNode → ℕ → ℕ → Type 0
IsLineAt file c i = slice_get (process_ats file.processes) c ≡ Some i

-- the structure has this fault first, at the index
abbrev pub IsMisbuilt : FileNode → List Named → Named → CheckCause → ℕ → Type 0
IsMisbuilt file bodies system NotSequential i = IsLeast (NotSequentialAt bodies system) i
IsMisbuilt file bodies system ModelCycle i =
    HasNone (NotSequentialAt bodies system) × ((c : ℕ) × IsFirstCycle (CompoundEdge bodies) c × IsLineAt file c i)
IsMisbuilt file bodies system Unguarded i =
    HasNone (NotSequentialAt bodies system) × HasNoCycle (CompoundEdge bodies) × ((c : ℕ) × IsFirstCycle (UnguardedEdge bodies) c × IsLineAt file c i)
IsMisbuilt file bodies system _ i = ⊥

-- a file with numbers whose structure has this fault
pub record IsMisbuiltFile (input : List ℕ) (tokens : List Token) (file : FileNode) (cause : CheckCause) (i : ℕ) : Type 0 where
  pub values : List Rate
  pub bodies : List Named
  pub system : Named
  pub numbered : IsNumberedFile input tokens file values bodies system
  pub misbuilt : IsMisbuilt file bodies system cause i

-- the file is refused for the cause at the index, up to its structure
abbrev pub IsStoppedFor : List ℕ → List Token → FileNode → CheckCause → ℕ → Type 0
IsStoppedFor input tokens file TooMany i = IsNamesRefusedFor input tokens file resolver.TooManyLines i
IsStoppedFor input tokens file Twice i = IsNamesRefusedFor input tokens file resolver.Twice i
IsStoppedFor input tokens file UnknownName i = IsNamesRefusedFor input tokens file resolver.UnknownName i
IsStoppedFor input tokens file TauInSet i = IsNamesRefusedFor input tokens file resolver.TauInSet i
IsStoppedFor input tokens file BadRate i = IsNamesRefusedFor input tokens file resolver.BadRate i
IsStoppedFor input tokens file NotSequential i = IsMisbuiltFile input tokens file NotSequential i
IsStoppedFor input tokens file ModelCycle i = IsMisbuiltFile input tokens file ModelCycle i
IsStoppedFor input tokens file Unguarded i = IsMisbuiltFile input tokens file Unguarded i
IsStoppedFor input tokens file MixedChoice i = ⊥
IsStoppedFor input tokens file Unsupported i = ⊥

-- a file without a fault up to its structure, with numbers in place of names, and its structure
pub record IsStructuredFile (input : List ℕ) (tokens : List Token) (file : FileNode) (found : StructuredFile) : Type 0 where
  pub resolved : IsResolvedFile input tokens file found.numbered
  pub structure : IsStructureOf (bodies_of found.numbered.bodies) (named_of found.numbered.system) (length found.numbered.bodies) found.structure

-- the constant that is at fault has a line
abbrev pub HasItsLine : List ProcessLineNode → Misbuilt → Type 0
HasItsLine lines (faults.NotSequential i) = Unit {0}
HasItsLine lines (faults.ModelCycle c) = c < length lines
HasItsLine lines (faults.Unguarded c) = c < length lines

-- the cause and the index that are told of a fault
abbrev pub IsToldAt : List ProcessLineNode → Misbuilt → CheckCause → ℕ → Type 0
IsToldAt lines (faults.NotSequential i) cause at = (cause ≡ NotSequential) × (at ≡ i)
IsToldAt lines (faults.ModelCycle c) cause at = (cause ≡ ModelCycle) × (slice_get (process_ats lines) c ≡ Some at)
IsToldAt lines (faults.Unguarded c) cause at = (cause ≡ Unguarded) × (slice_get (process_ats lines) c ≡ Some at)
