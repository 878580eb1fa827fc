-- Compound and sequential constants, and constants that reach themselves. `bodies` has the right side of each constant.
use Rattle.std.specs.Prelude.{◌≡◌, ℕ, zero, suc, ◌<◌, ◌⊎◌, Bool, true, false, ◌||◌, List, [], ◌∷◌, ◌++◌, Some, slice_get}
use Rattle.std.specs.List.{Contains}
use Rattle.pepa_resolver.specs.Named.{Named, NamedConstant, NamedPrefix, NamedChoice, NamedCoop, NamedHide, first_at, constants_named, unguarded, sequential_parts}

-- a cooperation or a hiding stands in it
abbrev pub has_system : Named → Bool
has_system (NamedConstant at constant) = false
has_system (NamedPrefix at action rate next) = has_system next
has_system (NamedChoice left right) = has_system left || has_system right
has_system (NamedCoop left right set) = true
has_system (NamedHide inner set) = true

-- the constant stands for a process with a cooperation or a hiding, by so many constants that stand for the next one alone
abbrev pub IsCompoundBy : List Named → ℕ → ℕ → Type 0
IsCompoundBy bodies zero c = (body : Named) × (slice_get bodies c ≡ Some body) × (has_system body ≡ true)
IsCompoundBy bodies (suc n) c = (at : ℕ) × (next : ℕ) × (slice_get bodies c ≡ Some (NamedConstant at next)) × IsCompoundBy bodies n next

-- a compound constant
abbrev pub IsCompoundConstant : List Named → ℕ → Type 0
IsCompoundConstant bodies c = (n : ℕ) × IsCompoundBy bodies n c

-- a process that isn't sequential
abbrev pub IsSystem : List Named → Named → Type 0
IsSystem bodies process = (has_system process ≡ true) ⊎ ((at : ℕ) × (c : ℕ) × (process ≡ NamedConstant at c) × IsCompoundConstant bodies c)

-- a part that has to be sequential and isn't, by its first place
abbrev pub NotSequentialAt : List Named → Named → ℕ → Type 0
NotSequentialAt bodies system i =
    (process : Named) × Contains (bodies ++ system ∷ []) process
    × ((part : Named) × Contains (sequential_parts process) part × IsSystem bodies part × (first_at part ≡ i))

-- a compound constant to the constants in its body
abbrev pub CompoundEdge : List Named → ℕ → ℕ → Type 0
CompoundEdge bodies c d = IsCompoundConstant bodies c × ((body : Named) × (slice_get bodies c ≡ Some body) × Contains (constants_named body) d)

-- a sequential constant to those that stand in its body behind no activity
abbrev pub UnguardedEdge : List Named → ℕ → ℕ → Type 0
UnguardedEdge bodies c d = (¬ IsCompoundConstant bodies c) × ((body : Named) × (slice_get bodies c ≡ Some body) × Contains (unguarded body) d)
