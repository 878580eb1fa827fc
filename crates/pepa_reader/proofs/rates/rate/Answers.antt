use Rattle.token_grammar.specs.Cursors.{kinds_of}
use Rattle.pepa_reader.proofs.RateReading.{is_computed}
use Rattle.pepa_reader.proofs.rates.rate.Goals as goal

pub returns : goal.returns
returns c = is_computed (kinds_of c.args.text.now) c.args.at c.sum.result c.in_default.ensures c.in_default-weighted.ensures c.sum.ensures
