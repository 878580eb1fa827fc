use Rattle.std.proofs.Common.{sym, ◌∙◌}
use Rattle.pepa_lexer.proofs.Scanning.{blank_scanned, mark_scanned}
use Rattle.pepa_lexer.proofs.lexeme.lexeme.Goals as goal

pub returns-then-begins_with_space : goal.returns-then-begins_with_space
returns-then-begins_with_space c = blank_scanned c.args.text.now (sym c.begins_with_space.ensures ∙ c.if-begins_with_space.true)

pub returns-in-Some : goal.returns-in-Some
returns-in-Some c = mark_scanned c.args.text.now c.in-Some.sign c.in-Some.len c.in-Some.ensures
