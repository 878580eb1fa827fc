use Rattle.probe_words.specs.Twins.{condition_of}
use Rattle.probe_words.proofs.LayingCopies.{guards_more}
use Rattle.probe_words.proofs.laying.copy_guarded.Goals as goal

pub loop-other-preserved : goal.loop-other-preserved
loop-other-preserved c = guards_more c.args.guards.now c.loop-other.copy c.push.new.self c.loop-other.other-index c.other-item.result _ (condition_of c.args.guard.now) c.loop-other.found _ _ c.loop-other-test.true c.other-item.is c.loop-other.invariant.copied c.loop-other.invariant.seen c.in_ok-push.ensures.ok c.in_ok-copy.ensures c.is_same-same.ensures c.either_of-found.ensures
