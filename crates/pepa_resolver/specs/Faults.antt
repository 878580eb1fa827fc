-- The faults of limits, names and sets, each as the set of the indices where it stands. `name` gives the name at an index.
use Rattle.std.specs.Prelude.{◌≡◌, ℕ, ◌≤◌, ◌⊎◌, List, ◌∷◌, ◌++◌, Some, slice_get}
use Rattle.std.specs.List.{Contains}
use Rattle.pepa_reader.specs.Trees.{RateLineNode, FileNode, ProcessNode}
use Rattle.pepa_resolver.specs.Parts.{names_in, constants_in, rates_in, RateSite, set_words_in, rate_ats, process_ats, processes_of}

-- nothing stands anywhere
abbrev pub HasNone : (ℕ → Type 0) → Type 0
HasNone Stands = (i : ℕ) → ¬ Stands i

-- the least index where it stands
pub record IsLeast (Stands : ℕ → Type 0) (i : ℕ) : Type 0 where
  pub stands : Stands i
  pub least : (other : ℕ) → Stands other → i ≤ other

-- the 1,025th rate line, and the 1,025th process line
abbrev pub TooManyAt : FileNode → ℕ → Type 0
TooManyAt file i = (slice_get (rate_ats file.rates) 1024 ≡ Some i) ⊎ (slice_get (process_ats file.processes) 1024 ≡ Some i)

-- a name with an earlier one that is the same
pub record IsRepeated (name : ℕ → List ℕ) (ats : List ℕ) (i : ℕ) : Type 0 where
  pub before : List ℕ
  pub behind : List ℕ
  pub whole : ats ≡ before ++ i ∷ behind
  pub earlier : ℕ
  pub among : Contains before earlier
  pub same : name earlier ≡ name i

abbrev pub TwiceAt : (ℕ → List ℕ) → FileNode → ℕ → Type 0
TwiceAt name file i = IsRepeated name (rate_ats file.rates) i ⊎ IsRepeated name (process_ats file.processes) i

-- one of these is the name at the index
abbrev pub IsKnown : (ℕ → List ℕ) → List ℕ → ℕ → Type 0
IsKnown name ats i = (at : ℕ) × Contains ats at × (name at ≡ name i)

-- a constant that has no process line
abbrev pub IsUnknownConstant : (ℕ → List ℕ) → FileNode → ProcessNode → ℕ → Type 0
IsUnknownConstant name file process i = Contains (constants_in process) i × (¬ IsKnown name (process_ats file.processes) i)

-- a rate name in an activity that has no rate line
abbrev pub IsUnknownRate : (ℕ → List ℕ) → FileNode → ProcessNode → ℕ → Type 0
IsUnknownRate name file process i =
    ((site : RateSite) × Contains (rates_in process) site × Contains (names_in site.rate) i) × (¬ IsKnown name (rate_ats file.rates) i)

-- a rate name in a rate line that has no rate line above it
pub record IsEarlyName (name : ℕ → List ℕ) (lines : List RateLineNode) (i : ℕ) : Type 0 where
  pub above : List RateLineNode
  pub line : RateLineNode
  pub below : List RateLineNode
  pub whole : lines ≡ above ++ line ∷ below
  pub among : Contains (names_in line.rate) i
  pub unknown : ¬ IsKnown name (rate_ats above) i

abbrev pub UnknownAt : (ℕ → List ℕ) → FileNode → ℕ → Type 0
UnknownAt name file i =
    IsEarlyName name file.rates i
    ⊎ ((process : ProcessNode) × Contains (processes_of file) process × (IsUnknownConstant name file process i ⊎ IsUnknownRate name file process i))

-- `tau` in a set
abbrev pub TauAt : (ℕ → Type 0) → FileNode → ℕ → Type 0
TauAt IsTau file i = ((process : ProcessNode) × Contains (processes_of file) process × Contains (set_words_in process) i) × IsTau i
