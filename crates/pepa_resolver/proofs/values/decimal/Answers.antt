use Rattle.std.proofs.Common.{◌<◌, sym, subst}
use Rattle.pepa_resolver.proofs.ValueLemmas.{power_some, power_fits}
use Rattle.pepa_resolver.proofs.values.decimal.Goals as goal

pub pow-requires : goal.pow-requires
pow-requires c = power_fits c.args.scale c.requires

pub fine-requires : goal.fine-requires
fine-requires c = subst (λ p. 0 < p) (sym c.pow.ensures) (power_some c.args.scale)
