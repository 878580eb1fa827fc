use Rattle.std.proofs.Common.{refl, ◌≤◌, arith}
use Rattle.std.proofs.Math.Pow.{pow_mono}
use Rattle.std.proofs.lemmas.Nat.{one_shl}
use Rattle.probe_words.proofs.Sets.{range_has}
use Rattle.probe_words.proofs.laying.range.Goals as goal

pub overflow_sub-result : goal.overflow_sub-result
overflow_sub-result c = let l : c.args.from ≤ c.args.to = omega arith in rw (one_shl c.args.to 64 (omega arith), one_shl c.args.from 64 (omega arith)) (pow_mono l)

pub returns : goal.returns
returns c = range_has c.args.from c.args.to _ (rw (one_shl c.args.to 64 (omega arith), one_shl c.args.from 64 (omega arith)) refl)
