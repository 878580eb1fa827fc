use Rattle.std.proofs.Common.{ℕ, List, length, rules, ap, arith}
use Rattle.probe_hearing.specs.TableHearing.{heard_by}
use Rattle.probe_hearing.proofs.LabelLists.{lowest_leads}
use Rattle.probe_hearing.proofs.LabelSteps.{one_label, labels_done}
use Rattle.probe_hearing.proofs.TableLeads.{result_heard}
use Rattle.probe_hearing.proofs.hearing.hear_transition.Goals as goal

pub loop-left-smaller : goal.loop-left-smaller
loop-left-smaller c =
    let lead = lowest_leads c.loop-left.left (omega arith) (search rules) in
    omega (arith, ap (λ (z : List ℕ). length z) lead)

pub loop-left-preserved : goal.loop-left-preserved
loop-left-preserved c = (
  c.hear_letter-heard-in-loop-left.ensures.inside,
  one_label c.args.table.now c.args.valuation c.loop-left.heard c.hear_letter-heard-in-loop-left.result (heard_by c.args.table.now c.args.state c.args.valuation c.args.action c.args.signals) c.loop-left.left (omega arith) (search rules) c.hear_letter-heard-in-loop-left.ensures.answer c.loop-left.invariant.1,
)

pub returns-clause-numbers : goal.returns-clause-numbers
returns-clause-numbers c = labels_done c.args.table.now c.args.valuation c.loop-left.heard (heard_by c.args.table.now c.args.state c.args.valuation c.args.action c.args.signals) c.loop-left.left (omega arith) c.loop-left.invariant.1

pub returns-clause-words : goal.returns-clause-words
returns-clause-words c = λ p h counts is leads v. result_heard p c.args.table.now is counts h c.args.state c.args.valuation c.args.action c.args.signals c.loop-left.heard leads v (returns-clause-numbers c)
