-- How large systems are, counted up to one more than the limit.
use Rattle.std.specs.Prelude.{◌≡◌, ℕ, ◌+◌, min, Bool, List, slice_index}
use Rattle.std.specs.List.{Contains}
use Rattle.pepa_model.specs.Expression.{Shape, Definition, IsCompound}
use Rattle.pepa_model.specs.Expanded.{Expanded, Expands, leaves_in, nodes_in}
use Rattle.pepa_resolver.specs.Named.{Named}
use Rattle.pepa_checks.specs.declared.system_size.Measure.{Measure}
use Rattle.pepa_checks.specs.declared.system_size.Measure.TheVariants.{Leaves, Nodes}
use Rattle.pepa_checks.specs.Outline.{shape_in, definitions_in}

-- how many of them the tree has
abbrev pub measured : Measure → Expanded → ℕ
measured Leaves tree = leaves_in tree
measured Nodes tree = nodes_in tree

-- what a cooperation or a hiding counts by itself
abbrev pub own_count : Measure → ℕ
own_count Leaves = 0
own_count Nodes = 1

-- the limit
abbrev pub most_of : Measure → ℕ
most_of Leaves = 255
most_of Nodes = 1023

-- a count as it is kept: greater ones are not told from the one above the limit
abbrev pub capped_count : Measure → ℕ → ℕ
capped_count measure n = min n (most_of measure + 1)

-- it is the size of the tree that the system expands into
abbrev pub CountsSize : Measure → List Definition → Shape → ℕ → Type 0
CountsSize measure definitions shape count = (tree : Expanded) → Expands definitions shape tree → count ≡ capped_count measure (measured measure tree)

-- the table has the sizes of these constants, as far as they are compound
abbrev pub HasCounts : Measure → List Definition → List ℕ → List ℕ → Type 0
HasCounts measure definitions counts constants =
    (c : ℕ) (shape : Shape) → Contains constants c → IsCompound definitions c shape → CountsSize measure definitions shape (slice_index counts c)

-- the process as a system has this size, where the table has the sizes of its constants
abbrev pub IsCountIn : Measure → List Bool → List ℕ → List ℕ → Named → ℕ → Type 0
IsCountIn measure compounds counts constants process count =
    (sets : List (List ℕ)) (bodies : List Named) → HasCounts measure (definitions_in compounds sets compounds bodies) counts constants
    → CountsSize measure (definitions_in compounds sets compounds bodies) (shape_in compounds sets process) count
