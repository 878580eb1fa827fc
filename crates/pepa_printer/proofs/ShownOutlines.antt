-- Processes that are the parts of a model have no fault of their structure, and the model's outline.
use Rattle.std.proofs.Common.{◌≡◌, Bool, List, length}
use Rattle.pepa_model.specs.PepaModel.{PepaModel, IsModel}
use Rattle.pepa_resolver.specs.Named.{Named}
use Rattle.pepa_checks.specs.Structure.{IsCompoundConstant}
use Rattle.node_orders.specs.Graphs.{IsTableOf}
use Rattle.pepa_checks.specs.StructureAnswers.{IsStructured}
use Rattle.pepa_checks.specs.Outline.{outline_of}
use Rattle.pepa_printer.proofs.Shown.{AreShown, model_outline}
use Rattle.pepa_printer.proofs.ShownCompounds.{flags_of, flags_each, flags_table}
use Rattle.pepa_printer.proofs.ShownShapes as shapes
use Rattle.pepa_printer.proofs.ShownStructures.{shown_structured}

pub record HasOutline (m : PepaModel) (bodies : List Named) (system : Named) : Type 0 where
  pub structured : IsStructured bodies system
  pub compounds : List Bool
  pub one_each : length compounds ≡ length bodies
  pub table : IsTableOf (IsCompoundConstant bodies) compounds
  pub outline_is : outline_of compounds bodies system ≡ model_outline m

pub shown_outline : (m : PepaModel) (bodies : List Named) (system : Named) → IsModel m → AreShown m bodies system → HasOutline m bodies system
shown_outline m bodies system is shown = record {
  structured = shown_structured m is bodies system shown;
  compounds = flags_of m.bodies;
  one_each = flags_each m is bodies system shown;
  table = flags_table m is bodies system shown;
  outline_is = shapes.outline_is m is bodies system shown;
}
