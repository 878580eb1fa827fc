-- What a search for the least index answers.
use Rattle.std.specs.Prelude.{ℕ, min, ◌⊎◌, Option, Some, None, List}
use Rattle.std.specs.List.{Contains}
use Rattle.pepa_reader.specs.Trees.{ProcessNode}
use Rattle.pepa_resolver.specs.Parts.{constants_in, names_in, rates_in, RateSite}
use Rattle.pepa_resolver.specs.Faults.{HasNone, IsLeast}

-- the least index where it stands, or none where it stands nowhere
abbrev pub FindsLeast : (ℕ → Type 0) → Option ℕ → Type 0
FindsLeast Stands None = HasNone Stands
FindsLeast Stands (Some i) = IsLeast Stands i

-- the lesser of two indices, as far as they are there
abbrev pub lesser_index : Option ℕ → Option ℕ → Option ℕ
lesser_index None right = right
lesser_index (Some i) None = Some i
lesser_index (Some i) (Some j) = Some (min i j)

-- the least of these indices where it stands
abbrev pub FindsIn : (ℕ → Type 0) → List ℕ → Option ℕ → Type 0
FindsIn Stands indices found = FindsLeast (λ i. Contains indices i × Stands i) found

-- the name at an index is none of these
abbrev pub IsUnlisted : (ℕ → List ℕ) → List (List ℕ) → ℕ → Type 0
IsUnlisted name names i = ¬ Contains names (name i)

-- a rate name in an activity of a process
abbrev pub IsRateName : ProcessNode → ℕ → Type 0
IsRateName process i = (site : RateSite) × Contains (rates_in process) site × Contains (names_in site.rate) i

-- a constant of a process that is none of these, or a rate name in it that is none of those
abbrev pub IsUnlistedIn : (ℕ → List ℕ) → List (List ℕ) → List (List ℕ) → ProcessNode → ℕ → Type 0
IsUnlistedIn name constants rates process i =
    (Contains (constants_in process) i × IsUnlisted name constants i) ⊎ (IsRateName process i × IsUnlisted name rates i)

-- it stands in one of these processes
abbrev pub StandsInSome : (ProcessNode → ℕ → Type 0) → List ProcessNode → ℕ → Type 0
StandsInSome Stands processes i = (process : ProcessNode) × Contains processes process × Stands process i
