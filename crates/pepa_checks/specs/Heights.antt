-- How high processes are.
use Rattle.std.specs.Prelude.{ℕ, ◌+◌, ◌≤◌, max, List}
use Rattle.std.specs.List.{Contains}
use Rattle.pepa_resolver.specs.Named.{Named, NamedConstant, NamedPrefix, NamedChoice, NamedCoop, NamedHide}

-- how many operators, activities and constants stand above one another
abbrev pub height_in : Named → ℕ
height_in (NamedConstant at c) = 1
height_in (NamedPrefix at action rate next) = height_in next + 1
height_in (NamedChoice left right) = max (height_in left) (height_in right) + 1
height_in (NamedCoop left right set) = max (height_in left) (height_in right) + 1
height_in (NamedHide inner set) = height_in inner + 1

-- how high a process of a file is at most: an item has 2,048 tokens at most, and each step up takes two
abbrev pub most_height : ℕ
most_height = 1024

-- no process is higher
abbrev pub AreLow : List Named → Type 0
AreLow processes = (process : Named) → Contains processes process → height_in process ≤ most_height
