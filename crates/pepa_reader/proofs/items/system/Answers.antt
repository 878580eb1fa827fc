use Rattle.std.proofs.lemmas.Result.{err_from_is_err_and}
use Rattle.token_grammar.specs.Cursors.{kinds_of}
use Rattle.pepa_reader.proofs.SystemReading.{system_fails, system_stays, is_system}
use Rattle.pepa_reader.proofs.items.system.Goals as goal

pub returns-in_err-tree : goal.returns-in_err-tree
returns-in_err-tree c =
    let p = err_from_is_err_and c.from_residual.result c.from_residual.ensures.1 in
    rw (p.1, p.2) (system_fails (kinds_of c.args.text.now) c.args.at c.in_err-tree.field-0.0 c.requires.small c.in_err-tree.ensures)

pub returns-in_err-next : goal.returns-in_err-next
returns-in_err-next c =
    let p = err_from_is_err_and c.from_residual-in_err-next.result c.from_residual-in_err-next.ensures.1 in
    rw (p.1, p.2) (system_stays (kinds_of c.args.text.now) c.args.at c.in_ok-tree.field-0 c.in_err-next.field-0.0 c.requires.line c.in_ok-tree.ensures.0 c.in_ok-tree.ensures.1 c.in_err-next.ensures)

pub returns : goal.returns
returns c = is_system (kinds_of c.args.text.now) c.args.at c.in_ok-next.next c.in_ok-tree.field-0 c.in_ok-tree.ensures.0 c.in_ok-next.ensures
