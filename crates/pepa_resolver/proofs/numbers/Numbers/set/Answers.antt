use Rattle.std.proofs.lemmas.List.{map_more}
use Rattle.pepa_resolver.specs.NumberSteps.{naming_by}
use Rattle.pepa_resolver.proofs.numbers.Numbers.set.Goals as goal

pub loop-word-preserved : goal.loop-word-preserved
loop-word-preserved c =
    let more = map_more (naming_by c.args.self.now).action c.args.words.now c.loop-word.word-index 0 c.loop-word-test.true in
    let so_far = c.loop-word.invariant in
    let here = c.in_ok-action.ensures in
    let pushed = c.in_ok-push.ensures.items in
    cc
