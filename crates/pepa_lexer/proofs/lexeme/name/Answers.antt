use Rattle.std.proofs.Common.{true, false, refl, sym, ◌∙◌}
use Rattle.pepa_lexer.proofs.Scanning.{long_name, name_scanned}
use Rattle.pepa_lexer.proofs.lexeme.name.Goals as goal

pub returns-then-len-gt-LONGEST_NAME : goal.returns-then-len-gt-LONGEST_NAME
returns-then-len-gt-LONGEST_NAME c =
    (refl, long_name c.args.text.now c.word_len-len.result c.requires c.word_len-len.ensures.value c.word_len-len.ensures.within c.if-len-gt-LONGEST_NAME.true)

pub returns-then-begins_with_capital : goal.returns-then-begins_with_capital
returns-then-begins_with_capital c =
    name_scanned c.args.text.now c.word_len-len.result true c.requires c.word_len-len.ensures.value c.word_len-len.ensures.within c.if-len-gt-LONGEST_NAME.false (sym c.begins_with_capital.ensures ∙ c.if-begins_with_capital.true)

pub returns-else-begins_with_capital : goal.returns-else-begins_with_capital
returns-else-begins_with_capital c =
    name_scanned c.args.text.now c.word_len-len.result false c.requires c.word_len-len.ensures.value c.word_len-len.ensures.within c.if-len-gt-LONGEST_NAME.false (sym c.begins_with_capital.ensures ∙ c.if-begins_with_capital.false)
