use Rattle.pepa_printer.proofs.ReadsBack.{reads_back, no_other, one_text_each}
use Rattle.pepa_printer.proofs.laws.printed_texts.Goals as goal

pub returns-clause-reads_back : goal.returns-clause-reads_back
returns-clause-reads_back c = reads_back

pub returns-clause-no_other : goal.returns-clause-no_other
returns-clause-no_other c = no_other

pub returns-clause-one_text_each : goal.returns-clause-one_text_each
returns-clause-one_text_each c = one_text_each
