use Rattle.std.proofs.Common.{◌≡◌, length}
use Rattle.sim_workers.specs.AllRuns.{AreFirstRuns}
use Rattle.sim_workers.proofs.alone.run_alone.Given as goal

abbrev pub invariant-loop-before : goal.invariant-loop-before
invariant-loop-before l = record {
  model : l.space.model ≡ l.model;
  count : length l.ended ≡ l.before;
  are : AreFirstRuns l.model l.order l.ended;
}
