use Rattle.std.proofs.Common.{◌≡◌, ◌++◌, drop}
use Rattle.pepa_printer.specs.ModelText.{lines_text}
use Rattle.pepa_printer.proofs.lines.push_lines.Given as goal

abbrev pub invariant-loop-constant : goal.invariant-loop-constant
invariant-loop-constant l =
    l.to.items ++ lines_text l.model (drop l.constant l.model.constants) (drop l.constant l.model.bodies)
    ≡ l.initial.to.items ++ lines_text l.model l.model.constants l.model.bodies
