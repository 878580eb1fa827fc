use Rattle.std.proofs.Common.{sym, ◌∙◌}
use Rattle.pepa_lexer.proofs.Scanning.{line_scanned, block_scanned, slash_scanned}
use Rattle.pepa_lexer.proofs.lexeme.slash.Goals as goal

pub returns-then-begins_with : goal.returns-then-begins_with
returns-then-begins_with c =
    line_scanned c.args.text.now c.split_at.result.1.now c.split_at-then-begins_with.result.1.now c.line_len.result c.requires c.split_at.ensures.back (sym c.begins_with.ensures ∙ c.if-begins_with.true) c.split_at-then-begins_with.ensures.back c.line_len.ensures.value c.line_len.ensures.within

pub returns-in-Some : goal.returns-in-Some
returns-in-Some c =
    block_scanned c.args.text.now c.split_at.result.1.now c.split_at-then-begins_with-2.result.1.now c.in-Some.len c.requires c.split_at.ensures.back (sym c.begins_with-2.ensures ∙ c.if-begins_with-2.true) c.split_at-then-begins_with-2.ensures.back c.in-Some.ensures

pub returns : goal.returns
returns c =
    slash_scanned c.args.text.now c.split_at.result.1.now c.requires c.split_at.ensures.back (sym c.begins_with.ensures ∙ c.if-begins_with.false) (sym c.begins_with-2.ensures ∙ c.if-begins_with-2.false)
