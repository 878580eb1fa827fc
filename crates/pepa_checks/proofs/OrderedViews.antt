-- The view of a file in order is in order.
use Rattle.std.proofs.Common.{ℕ, Bool, List, length, sym, subst}
use Rattle.pepa_resolver.specs.Named.{Named}
use Rattle.pepa_resolver.specs.NamedTypes.{named_of, bodies_of}
use Rattle.pepa_checks.specs.declared.structured_file.StructuredFile.{StructuredFile}
use Rattle.pepa_checks.specs.declared.structured_file.FileView.{FileView}
use Rattle.pepa_checks.specs.FileViews.{IsViewOf, IsOrderedFile, IsOrderedView}

pub ordered_view : (file : StructuredFile) (view : FileView) → IsViewOf file view → IsOrderedFile file → IsOrderedView view
ordered_view file view is ordered = record {
  built = rw (is.compounds_are, is.bodies_are, is.system_is) ordered.built;
  compounds = rw (is.bodies_are, is.compound_order_is) ordered.compounds;
  sequential = rw (is.bodies_are, is.sequential_order_is) ordered.sequential;
}
