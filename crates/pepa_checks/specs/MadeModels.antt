-- What making a file's model needs, and what it makes.
use Rattle.std.specs.Prelude.{◌≡◌, ◌≤◌, length, map}
use Rattle.indexmap.specs.IndexMap.{keys}
use Rattle.pepa_model.specs.Expression.{expression_of, definition_of, shape_of}
use Rattle.pepa_model.specs.PepaModel.{PepaModel, IsModel}
use Rattle.pepa_checks.specs.declared.structured_file.StructuredFile.{StructuredFile}
use Rattle.pepa_resolver.specs.NamedTypes.{named_of, bodies_of}
use Rattle.pepa_checks.specs.declared.counting.Counted.{Counted}
use Rattle.pepa_checks.specs.declared.model_making.NewParts.{NewParts}
use Rattle.pepa_checks.specs.Outline.{definitions_in, shape_in}
use Rattle.pepa_checks.specs.Sequences.{HasSequentialParts, AreBodies}

-- the model of these parts
abbrev pub made_of : StructuredFile → Counted → PepaModel
made_of file counted = record {
  constants = keys file.numbered.constants;
  actions = keys file.numbered.actions;
  bodies = definitions_in file.structure.compounds (keys counted.sets) file.structure.compounds (bodies_of file.numbered.bodies);
  leaves = map expression_of counted.leaves.expressions;
  activities = map (map (λ performed. performed.activity)) counted.performed;
  sets = keys counted.sets;
  system = shape_in file.structure.compounds (keys counted.sets) (named_of file.numbered.system);
}

-- a file whose parts make a model
pub record MakesModel (file : StructuredFile) (counted : Counted) : Type 0 where
  pub few_sets : length (keys counted.sets) ≤ 1024
  pub one_each : length file.structure.compounds ≡ length file.numbered.bodies
  pub bodies : AreBodies file.structure.compounds (bodies_of file.numbered.bodies)
  pub system : HasSequentialParts (named_of file.numbered.system)
  pub is_model : IsModel (made_of file counted)

-- the parts of that model that are made anew
pub record AreNewParts (file : StructuredFile) (counted : Counted) (parts : NewParts) : Type 0 where
  pub bodies_are : map definition_of parts.bodies ≡ (made_of file counted).bodies
  pub activities_are : parts.activities ≡ (made_of file counted).activities
  pub sets_are : parts.sets ≡ (made_of file counted).sets
  pub system_is : shape_of parts.system ≡ (made_of file counted).system

-- it is made
abbrev pub IsMade : StructuredFile → Counted → PepaModel → Type 0
IsMade file counted m = m ≡ made_of file counted
