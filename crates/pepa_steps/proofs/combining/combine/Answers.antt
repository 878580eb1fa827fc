use Rattle.std.proofs.Common.{arith}
use Rattle.std.proofs.lemmas.Result.{err_from_is_err_and}
use Rattle.pepa_steps.specs.Combined.{numbered}
use Rattle.pepa_steps.proofs.TakenEntries.{numbered_length}
use Rattle.pepa_steps.proofs.CombinedLists.{few_pairs, few_alone, total, all_combined, joint_fault, too_long}
use Rattle.pepa_steps.proofs.combining.combine.Goals as goal

pub overflow_add-alone : goal.overflow_add-alone
overflow_add-alone c = omega (arith, few_alone c.args.types.now c.args.ours.now c.requires.ours_short, few_alone c.args.types.now c.args.theirs.now c.requires.theirs_short)

pub joint_count-joint-requires-clause-few : goal.joint_count-joint-requires-clause-few
joint_count-joint-requires-clause-few c = (numbered 0 c.args.theirs.now, c.in_ok-partners.ensures, omega (arith, numbered_length 0 c.args.theirs.now, c.requires.theirs_short))

pub overflow_add-alone-2 : goal.overflow_add-alone-2
overflow_add-alone-2 c =
    omega (
      arith,
      few_alone c.args.types.now c.args.ours.now c.requires.ours_short,
      few_alone c.args.types.now c.args.theirs.now c.requires.theirs_short,
      few_pairs c.args.types.now c.args.ours.now c.args.theirs.now c.requires.ours_short c.requires.theirs_short,
      c.joint_count-joint.ensures (numbered 0 c.args.theirs.now) c.in_ok-partners.ensures,
    )

pub returns-then-alone-joint-gt-MOST_STEPS : goal.returns-then-alone-joint-gt-MOST_STEPS
returns-then-alone-joint-gt-MOST_STEPS c =
    let all = total c.args.types.now c.args.our_rates.now.entries c.args.their_rates.now.entries c.args.ours.now c.args.theirs.now _ _ _
    c.alone_count.ensures c.alone_count-2.ensures (c.joint_count-joint.ensures (numbered 0 c.args.theirs.now) c.in_ok-partners.ensures) in
    too_long c.args.types.now c.args.our_rates.now.entries c.args.their_rates.now.entries c.args.ours.now c.args.theirs.now c.args.derived.now c.args.derived.now (omega (arith, all))

pub returns-in_err-push_joint : goal.returns-in_err-push_joint
returns-in_err-push_joint c =
    let all = total c.args.types.now c.args.our_rates.now.entries c.args.their_rates.now.entries c.args.ours.now c.args.theirs.now _ _ _
    c.alone_count.ensures c.alone_count-2.ensures (c.joint_count-joint.ensures (numbered 0 c.args.theirs.now) c.in_ok-partners.ensures) in
    let p = err_from_is_err_and c.from_residual-in_err-push_joint.result c.from_residual-in_err-push_joint.ensures.1 in
    rw (p.1, p.2)
    (joint_fault c.args.types.now c.args.our_rates.now.entries c.args.their_rates.now.entries c.args.ours.now c.args.theirs.now c.push_right.new.derived c.push_joint.new.derived _ (omega (arith, all)) c.in_err-push_joint.ensures c.args.derived.now)

pub returns : goal.returns
returns c =
    let all = total c.args.types.now c.args.our_rates.now.entries c.args.their_rates.now.entries c.args.ours.now c.args.theirs.now _ _ _
    c.alone_count.ensures c.alone_count-2.ensures (c.joint_count-joint.ensures (numbered 0 c.args.theirs.now) c.in_ok-partners.ensures) in (
      all_combined c.args.types.now c.args.our_rates.now.entries c.args.their_rates.now.entries c.args.ours.now c.args.theirs.now c.args.derived.now c.push_left.new.derived c.push_right.new.derived c.push_joint.new.derived
          c.requires.ours_range c.requires.theirs_range c.in_ok-push_left.ensures c.in_ok-push_right.ensures c.in_ok-push_joint.ensures,
      omega (arith, all),
    )
