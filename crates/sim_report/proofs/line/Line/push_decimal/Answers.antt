use Rattle.std.proofs.Common.{length-append, arith}
use Rattle.std.specs.Fmt.{decimal}
use Rattle.sim_report.proofs.LineLemmas.{few_digits}
use Rattle.sim_report.proofs.line.Line.push_decimal.Goals as goal

pub push_digits-requires : goal.push_digits-requires
push_digits-requires c = omega (arith, few_digits c.args.value (omega arith))

pub returns-clause-few : goal.returns-clause-few
returns-clause-few c =
    let few = few_digits c.args.value (omega arith) in
    rw (c.push_digits.ensures, length-append c.args.self.now (decimal c.args.value)) (omega arith)
