-- How contracts see a model.
use Rattle.std.specs.Prelude.{map}
use Rattle.indexmap.specs.IndexMap.{keys}
use Rattle.pepa_model.specs.Expression.{expression_of, definition_of, shape_of}
use Rattle.pepa_model.specs.PepaModel.{PepaModel, IsModel}
use Rattle.pepa_model.specs.declared.model.Model.TheInside.{Inside}

abbrev pub model_view : Inside → PepaModel
model_view m = record {
  constants = keys m.constants;
  actions = keys m.actions;
  bodies = map definition_of m.bodies;
  leaves = map expression_of m.leaves;
  activities = m.activities;
  sets = m.sets;
  system = shape_of m.system;
}

abbrev pub IsModelInside : Inside → Type 0
IsModelInside m = IsModel (model_view m)
