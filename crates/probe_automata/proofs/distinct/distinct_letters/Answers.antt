use Rattle.std.proofs.Common.{[]}
use Rattle.probe_words.specs.declared.position_list.Position.{Position}
use Rattle.probe_words.specs.ProbeTables.{same_letter}
use Rattle.probe_automata.proofs.FirstPlaces.{once_step}
use Rattle.probe_automata.proofs.distinct.distinct_letters.Goals as goal

pub loop-position-preserved : goal.loop-position-preserved
loop-position-preserved c = once_step same_letter (λ (x : Position). x.letter) c.args.each.now c.loop-position.position-index c.position-item.result [] c.loop-position.letters c.add_letter.new.letters c.loop-position-test.true c.position-item.is c.loop-position.invariant c.in_ok-add_letter.ensures
