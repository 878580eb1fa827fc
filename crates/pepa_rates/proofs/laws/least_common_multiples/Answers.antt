use Rattle.pepa_rates.proofs.Multiples.{common_den-is, common_den-one, weights-exact}
use Rattle.pepa_rates.proofs.laws.least_common_multiples.Goals as goal

pub returns-clause-is : goal.returns-clause-is
returns-clause-is c = common_den-is

pub returns-clause-one : goal.returns-clause-one
returns-clause-one c = common_den-one

pub returns-clause-whole : goal.returns-clause-whole
returns-clause-whole c = weights-exact
