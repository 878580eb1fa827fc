use Rattle.token_grammar.proofs.Spelled.{begins_cases, begins_nothing, kinds_at, kinds_past}
use Rattle.token_grammar.proofs.cursor.Text.comes.Goals as goal

pub returns-in-Some-clause-answer : goal.returns-in-Some-clause-answer
returns-in-Some-clause-answer c =
    let got = c.in-Some.ensures.lookup in
    begins_cases _ _ _ _ _ (kinds_at c.args.self.now c.args.at c.in-Some.token.now got.3.0 got.1) (rw c.terminal_of.ensures at c.is_same.ensures)

pub returns-in-None-clause-answer : goal.returns-in-None-clause-answer
returns-in-None-clause-answer c = begins_nothing _ _ (kinds_past c.args.self.now c.args.at c.in-None.ensures.lookup.3)
