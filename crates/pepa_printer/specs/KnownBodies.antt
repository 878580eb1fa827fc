-- What constants stand for, with the numbers of a model.
use Rattle.pepa_model.specs.Expression.{Definition, Sequentially, Compoundly}
use Rattle.pepa_model.specs.PepaModel.{PepaModel, IsNamed, IsShapeOf}

-- the constants, the action types, the leaves and the sets in it are the model's
abbrev pub IsBodyOf : PepaModel → Definition → Type 0
IsBodyOf m (Sequentially e) = IsNamed m e
IsBodyOf m (Compoundly shape) = IsShapeOf m shape
