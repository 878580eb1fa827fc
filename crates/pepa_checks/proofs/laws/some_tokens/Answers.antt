use Rattle.pepa_checks.proofs.SomeTokens.{some_tokens}
use Rattle.pepa_checks.proofs.laws.some_tokens.Goals as goal

pub returns : goal.returns
returns c = some_tokens
