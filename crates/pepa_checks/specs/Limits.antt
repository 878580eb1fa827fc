-- The limits of a model.
use Rattle.std.specs.Prelude.{ℕ, ◌<◌, ◌⊎◌, List, length, sum_by}
use Rattle.std.specs.List.{AllZip}
use Rattle.pepa_model.specs.Opened.{Opened, Opens, moves}
use Rattle.pepa_model.specs.Expanded.{Expanded, Expands, leaves_in, nodes_in}
use Rattle.pepa_checks.specs.Outline.{Outline}

-- the leaves have more than 65,535 activities together
abbrev pub HasManyActivities : Outline → Type 0
HasManyActivities outline =
    (opened : List Opened) × AllZip (Opens outline.definitions) outline.leaves opened × (65535 < sum_by (λ tree. length (moves tree)) opened)

-- the system with its compound constants expanded has more than 255 leaves
abbrev pub HasManyLeaves : Outline → Type 0
HasManyLeaves outline = (tree : Expanded) × Expands outline.definitions outline.system tree × (255 < leaves_in tree)

-- it has more than 1,023 nodes
abbrev pub HasManyNodes : Outline → Type 0
HasManyNodes outline = (tree : Expanded) × Expands outline.definitions outline.system tree × (1023 < nodes_in tree)

-- a limit is passed: on action types, 1,024 beside `tau`, on sets, on leaves, on activities, on the system's leaves, or on its
-- nodes
abbrev pub PassesLimit : List (List ℕ) → Outline → Type 0
PassesLimit actions outline =
    (1025 < length actions) ⊎ ((1024 < length outline.sets) ⊎ ((65535 < length outline.leaves) ⊎ (HasManyActivities outline ⊎ (HasManyLeaves outline ⊎ HasManyNodes outline))))
