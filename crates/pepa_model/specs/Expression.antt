-- The components of PEPA (J. Hillston, A Compositional Approach to Performance Modelling, 1996, chapter 3), as they are
-- written: no leaf numbers, and no pointers.
use Rattle.std.specs.Prelude.{◌≡◌, ℕ, Some, List, slice_get}
use Rattle.pepa_rates.specs.declared.rate.Rate.{Rate}
use Rattle.pepa_model.specs.declared.term.Sequential.{Sequential, Constant, Prefix', Choice'}
use Rattle.pepa_model.specs.declared.term.Shape2.{Shape2}
use Rattle.pepa_model.specs.declared.term.Shape2 as system
use Rattle.pepa_model.specs.declared.term.Body.{Body}
use Rattle.pepa_model.specs.declared.term.Body.TheVariants.{Plain, Compound}

-- a sequential component: a constant, a prefix with its action type, its rate and what follows, or a choice
pub data Expression : Type 0 where
  Const : ℕ → Expression
  Prefixed : ℕ → Rate → Expression → Expression
  Chosen : Expression → Expression → Expression

-- a system as it is written: a sequential component, a constant that stands for a system, a cooperation over the set of
-- this number, or a system that hides the set of this number
pub data Shape : Type 0 where
  LeafShape : Expression → Shape
  ConstShape : ℕ → Shape
  CoopShape : Shape → Shape → ℕ → Shape
  HideShape : Shape → ℕ → Shape

-- what a constant stands for: a sequential component, or a system
pub data Definition : Type 0 where
  Sequentially : Expression → Definition
  Compoundly : Shape → Definition

-- the constant c stands for e
abbrev pub Defines : List Definition → ℕ → Expression → Type 0
Defines definitions c e = slice_get definitions c ≡ Some (Sequentially e)

-- the constant c stands for a sequential component
abbrev pub IsSequential : List Definition → ℕ → Type 0
IsSequential definitions c = (e : Expression) × Defines definitions c e

-- the constant c is compound: it stands for this system
abbrev pub IsCompound : List Definition → ℕ → Shape → Type 0
IsCompound definitions c shape = slice_get definitions c ≡ Some (Compoundly shape)

-- the component that the program holds
abbrev pub expression_of : Sequential → Expression
expression_of (Constant c) = Const c
expression_of (Prefix' a r p next) = Prefixed a r (expression_of next)
expression_of (Choice' p x q y) = Chosen (expression_of x) (expression_of y)

-- the system that the program holds
abbrev pub shape_of : Shape2 → Shape
shape_of (system.Leaf e) = LeafShape (expression_of e)
shape_of (system.Constant c) = ConstShape c
shape_of (system.Coop' p x q y set) = CoopShape (shape_of x) (shape_of y) set
shape_of (system.Hide' p x set) = HideShape (shape_of x) set

-- the definition that the program holds
abbrev pub definition_of : Body → Definition
definition_of (Plain e) = Sequentially (expression_of e)
definition_of (Compound shape) = Compoundly (shape_of shape)
