use Rattle.sim_draws.proofs.OneDraw as draws
use Rattle.sim_draws.proofs.SomeDraw as searches
use Rattle.sim_draws.proofs.laws.one_draw_below.Goals as goal

pub returns-clause-draw : goal.returns-clause-draw
returns-clause-draw c = draws.one_below

pub returns-clause-none : goal.returns-clause-none
returns-clause-none c = draws.none_below

pub returns-clause-some : goal.returns-clause-some
returns-clause-some c = searches.some_below
