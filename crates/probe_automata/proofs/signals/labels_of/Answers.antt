use Rattle.std.proofs.Common.{sym, ◌∙◌, eqb-true, eq-eqb}
use Rattle.std.specs.Int.{bit_at}
use Rattle.probe_automata.proofs.SignalSteps.{labels_more, labels_skip, labels_all}
use Rattle.probe_automata.proofs.signals.labels_of.Goals as goal
use Rattle.probe_automata.proofs.signals.labels_of.Goals.{then-has, else-has}

pub loop-at-preserved : goal.loop-at-preserved
loop-at-preserved c =
    elim c.if-has.branch [
      | then-has w ↦ labels_more c.args.each.now c.args.set c.loop-at.at c.loop-at.labels c.if-has.labels c.index-each-at.result c.loop-at-test.true c.index-each-at.is (eqb-true (bit_at c.args.set c.loop-at.at) 1 (sym c.has.ensures ∙ w.if-has.true)) w.labels-is c.loop-at.invariant
      | else-has w ↦ rw w.labels-is (labels_skip c.args.each.now c.args.set c.loop-at.at c.loop-at.labels (λ b. let p = eq-eqb (bit_at c.args.set c.loop-at.at) 1 b in let q = sym c.has.ensures ∙ w.if-has.false in cc) c.loop-at.invariant)
    ]

pub returns : goal.returns
returns c = labels_all c.args.each.now c.args.set c.loop-at.at c.loop-at.labels c.loop-at-test.false c.loop-at.invariant
