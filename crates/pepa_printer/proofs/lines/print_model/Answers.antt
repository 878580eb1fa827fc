use Rattle.pepa_printer.proofs.ReadsBack.{written_back}
use Rattle.pepa_printer.proofs.lines.print_model.Goals as goal

pub returns-clause-reads_back : goal.returns-clause-reads_back
returns-clause-reads_back c = written_back c.args.model.now c.lines_and_system.result c.recall_invariant.ensures c.lines_and_system.ensures
