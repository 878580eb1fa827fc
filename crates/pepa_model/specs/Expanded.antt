-- Systems with their compound constants expanded. A compound constant stands for its system, so a system in which no
-- compound constant reaches itself expands into a finite tree, and into one only.
use Rattle.std.specs.Prelude.{◌≡◌, ℕ, ◌+◌, max, List}
use Rattle.pepa_model.specs.Expression.{Expression, Shape, LeafShape, ConstShape, CoopShape, HideShape, Definition, IsCompound}

-- a system whose compound constants are expanded down to the leaves
pub data Expanded : Type 0 where
  LeafTree : Expression → Expanded
  ConstTree : ℕ → Expanded → Expanded
  CoopTree : Expanded → Expanded → ℕ → Expanded
  HideTree : Expanded → ℕ → Expanded

-- the system expands into the tree
abbrev pub Expands : List Definition → Shape → Expanded → Type 0
Expands definitions shape (LeafTree e) = shape ≡ LeafShape e
Expands definitions shape (ConstTree c p) = (shape ≡ ConstShape c) × ((body : Shape) × IsCompound definitions c body × Expands definitions body p)
Expands definitions shape (CoopTree p q set) = (x : Shape) × (y : Shape) × (shape ≡ CoopShape x y set) × Expands definitions x p × Expands definitions y q
Expands definitions shape (HideTree p set) = (x : Shape) × (shape ≡ HideShape x set) × Expands definitions x p

-- how many leaves the tree has
abbrev pub leaves_in : Expanded → ℕ
leaves_in (LeafTree e) = 1
leaves_in (ConstTree c p) = leaves_in p
leaves_in (CoopTree p q set) = leaves_in p + leaves_in q
leaves_in (HideTree p set) = leaves_in p

-- how many nodes the tree has: its leaves, cooperations and hidings
abbrev pub nodes_in : Expanded → ℕ
nodes_in (LeafTree e) = 1
nodes_in (ConstTree c p) = nodes_in p
nodes_in (CoopTree p q set) = (nodes_in p + nodes_in q) + 1
nodes_in (HideTree p set) = nodes_in p + 1

-- how many cooperations, hidings and compound constants stand above one another
abbrev pub height_of : Expanded → ℕ
height_of (LeafTree e) = 0
height_of (ConstTree c p) = height_of p + 1
height_of (CoopTree p q set) = max (height_of p) (height_of q) + 1
height_of (HideTree p set) = height_of p + 1
