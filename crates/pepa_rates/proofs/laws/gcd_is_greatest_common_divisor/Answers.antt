use Rattle.pepa_rates.proofs.Divisors.{gcd-IsGcd}
use Rattle.pepa_rates.proofs.laws.gcd_is_greatest_common_divisor.Goals as goal

pub returns : goal.returns
returns c = gcd-IsGcd
