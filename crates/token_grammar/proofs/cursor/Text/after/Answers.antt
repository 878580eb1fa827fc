use Rattle.std.proofs.Common.{refl}
use Rattle.token_grammar.proofs.Spelled.{is_at}
use Rattle.token_grammar.proofs.cursor.Text.after.Goals as goal

pub returns-then-comes : goal.returns-then-comes
returns-then-comes c = is_at c.args.self.now c.args.at c.args.terminal (c.if-comes.ensures.within refl) c.if-comes.ensures.answer
