use Rattle.std.proofs.Common.{Some, ap, ◌∙◌}
use Rattle.pepa_reader.specs.declared.trees.ProcessLine.{ProcessLine}
use Rattle.pepa_checks.proofs.Structured.{line_stands}
use Rattle.pepa_checks.proofs.structured_file.line_at.Goals as goal

pub returns : goal.returns
returns c =
    line_stands c.args.lines.now c.args.constant c.index-lines-constant.result c.requires c.index-lines-constant.is
    ∙ ap (λ (line : ProcessLine). Some line.at) c.index-lines-constant.is
