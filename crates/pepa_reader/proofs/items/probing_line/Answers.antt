use Rattle.token_grammar.specs.SmallNames.{Probing}
use Rattle.token_grammar.proofs.Spelled.{spelled_append}
use Rattle.pepa_reader.proofs.items.probing_line.Goals as goal

pub rate_line-requires : goal.rate_line-requires
rate_line-requires c = (Probing, spelled_append c.requires.spelled c.in-Some.ensures.spelled)
