use Rattle.pepa_resolver.specs.NumberSteps.{naming_by, outcome_by}
use Rattle.pepa_resolver.proofs.BodiesMore.{bodies_more, bad_more}
use Rattle.pepa_resolver.proofs.numbers.Numbers.bodies.Goals as goal

pub loop-line-preserved : goal.loop-line-preserved
loop-line-preserved c =
    let lines = c.args.lines.now in
    let i = c.loop-line.line-index in
    let line = c.line-item.result in
    record {
      bodies = rw c.in_ok-push.ensures.ok (bodies_more lines i line c.loop-line-test.true c.line-item.is (naming_by c.args.self.now) c.loop-line.bodies c.in_ok-body.body c.loop-line.invariant.bodies c.in_ok-body.ensures.made);
      bad = bad_more lines i line c.loop-line-test.true c.line-item.is (outcome_by c.args.self.now) c.args.bad.now c.loop-line.bad c.process.new.bad c.loop-line.invariant.bad c.in_ok-body.ensures.bad;
    }
