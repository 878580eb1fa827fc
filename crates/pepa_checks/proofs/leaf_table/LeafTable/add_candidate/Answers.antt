use Rattle.std.proofs.Common.{refl, sym, ◌∙◌}
use Rattle.pepa_resolver.specs.NamedTypes.{named_of}
use Rattle.pepa_checks.specs.Outline.{expression_in}
use Rattle.pepa_checks.proofs.LeafSteps.{adds_old}
use Rattle.pepa_checks.proofs.leaf_table.LeafTable.add_candidate.Goals as goal

pub returns-then-contains : goal.returns-then-contains
returns-then-contains c =
    adds_old c.args.self.now _ c.args.candidate.number (expression_in (named_of c.args.candidate.process.now)) c.args.candidate.operands (sym c.contains.ensures ∙ c.if-contains.true) refl refl refl
