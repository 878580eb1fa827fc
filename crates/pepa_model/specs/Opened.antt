-- Sequential components with their constants opened. A constant stands for its body, so an expression in which no
-- constant reaches itself without passing a prefix opens into a finite tree, and into one only.
use Rattle.std.specs.Prelude.{◌≡◌, ℕ, ◌+◌, max, List, [], ◌∷◌, ◌++◌}
use Rattle.pepa_rates.specs.declared.rate.Rate.{Rate}
use Rattle.pepa_model.specs.Expression.{Expression, Const, Prefixed, Chosen, Definition, Defines}
use Rattle.pepa_model.specs.Derivation.{Transition, leaf_transition}

-- an expression whose constants are opened down to the prefixes
pub data Opened : Type 0 where
  OpenPrefix : ℕ → Rate → Expression → Opened
  OpenChoice : Opened → Opened → Opened
  OpenConst : ℕ → Opened → Opened

-- the expression opens into the tree
abbrev pub Opens : List Definition → Expression → Opened → Type 0
Opens definitions e (OpenPrefix a r next) = e ≡ Prefixed a r next
Opens definitions e (OpenChoice p q) = (x : Expression) × (y : Expression) × (e ≡ Chosen x y) × Opens definitions x p × Opens definitions y q
Opens definitions e (OpenConst c p) = (e ≡ Const c) × ((body : Expression) × Defines definitions c body × Opens definitions body p)

-- the parts of a component in post-order: a prefix is one part, the operands of a choice stand before the choice, and the
-- body of a constant before the constant
abbrev pub parts : Opened → List Opened
parts (OpenPrefix a r next) = OpenPrefix a r next ∷ []
parts (OpenChoice p q) = (parts p ++ parts q) ++ OpenChoice p q ∷ []
parts (OpenConst c p) = parts p ++ OpenConst c p ∷ []

-- the transitions of a component, its left operand's first
abbrev pub moves : Opened → List Transition
moves (OpenPrefix a r next) = leaf_transition a r next ∷ []
moves (OpenChoice p q) = moves p ++ moves q
moves (OpenConst c p) = moves p

-- how many operators and constants stand above one another
abbrev pub height : Opened → ℕ
height (OpenPrefix a r next) = 0
height (OpenChoice p q) = max (height p) (height q) + 1
height (OpenConst c p) = height p + 1
