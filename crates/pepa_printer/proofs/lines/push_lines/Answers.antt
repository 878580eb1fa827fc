use Rattle.std.proofs.Common.{ℕ, ◌+◌, ◌<◌, List, ◌++◌, length, drop, ap, ◌∙◌, arith}
use Rattle.pepa_model.specs.Expression.{definition_of}
use Rattle.pepa_printer.specs.ModelText.{lines_text}
use Rattle.pepa_printer.proofs.KnownBodies.{body_known}
use Rattle.pepa_printer.proofs.LineLists.{line_written}
use Rattle.pepa_printer.proofs.lines.push_lines.Goals as goal

pub push_line-requires-clause-body : goal.push_line-requires-clause-body
push_line-requires-clause-body c =
    body_known c.args.model.now c.recall_invariant.ensures c.loop-constant.constant (definition_of c.body.result.now) c.body.ensures

pub loop-constant-preserved : goal.loop-constant-preserved
loop-constant-preserved c =
    let m = c.args.model.now in
    let n = c.loop-constant.constant in
    let within : n < length m.constants = omega (arith, c.loop-constant-test.true, c.constant_count-constant-end.ensures, c.recall_invariant.ensures.bodies) in
    ap (λ (text : List ℕ). text ++ lines_text m (drop (n + 1) m.constants) (drop (n + 1) m.bodies)) c.in_ok-push_line.ensures.text
    ∙ line_written m m.constants m.bodies n (definition_of c.body.result.now) c.loop-constant.to.items
    (c.args.to.now.items ++ lines_text m m.constants m.bodies) within c.body.ensures c.loop-constant.invariant
