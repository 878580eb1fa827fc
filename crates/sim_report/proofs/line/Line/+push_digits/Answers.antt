use Rattle.std.proofs.Common.{◌+◌, ◌/◌, ◌%◌, [], ◌∷◌, length, length-append, append_assoc, arith, ap}
use Rattle.std.specs.Fmt.{decimal}
use Rattle.sim_report.proofs.LineLemmas.{digits_front, digits_more, digits_one}
use Rattle.sim_report.proofs.line.Line.+push_digits.Goals as goal
use Rattle.sim_report.proofs.line.Line.+push_digits.Goals.{then-value-ge10, else-value-ge10}

pub push_digits-requires : goal.push_digits-requires
push_digits-requires t c =
    let e = digits_front c.args.value c.if-value-ge10.true (omega arith) in
    (omega arith, omega arith)

pub push-requires : goal.push-requires
push-requires t c = elim c.if-value-ge10.branch [
  | then-value-ge10 w ↦
      let e = digits_front c.args.value w.if-value-ge10.true (omega arith) in
      rw (w.self-is, w.push_digits.ensures, length-append c.args.self.now (decimal (c.args.value / 10))) (omega arith)
  | else-value-ge10 w ↦
      let e = ap length (digits_one c.args.value (omega arith)) in
      rw w.self-is (omega arith)
]

pub returns : goal.returns
returns t c = elim c.if-value-ge10.branch [
  | then-value-ge10 w ↦
      rw (c.push.ensures, w.self-is, w.push_digits.ensures, digits_more c.args.value w.if-value-ge10.true (omega arith)) (append_assoc c.args.self.now (decimal (c.args.value / 10)) ((48 + c.args.value % 10) ∷ []))
  | else-value-ge10 w ↦
      rw (c.push.ensures, w.self-is, digits_one c.args.value (omega arith))
]
