use Rattle.std.proofs.Common.{◌≡◌, sym, ap, ◌∙◌, subst}
use Rattle.pepa_rates.specs.Fraction.{Fraction, reduced, InRange}
use Rattle.pepa_rates.proofs.LowestTerms.{proper-reduced}
use Rattle.node_words.proofs.entries.lowest.Goals.{then-fraction-num-via-then-fraction-num, then-fraction-num-via-else-fraction-num+then-fraction-den}
use Rattle.node_words.proofs.entries.lowest.Goals as goal

pub returns-in_default : goal.returns-in_default
returns-in_default c = λ proper.
    let q : Fraction = record { num = c.args.num; den = c.args.den } in
    let e : reduced c.from.result c.from-2.result ≡ q = ap (λ n. reduced n c.from-2.result) c.from.ensures ∙ ap (reduced c.args.num) c.from-2.ensures ∙ proper-reduced q proper in
    c.in_default.ensures (subst InRange (sym e) proper.in_range)

pub returns-then-fraction-num : goal.returns-then-fraction-num
returns-then-fraction-num c = λ proper.
    let q : Fraction = record { num = c.args.num; den = c.args.den } in
    let e : reduced c.from.result c.from-2.result ≡ q = ap (λ n. reduced n c.from-2.result) c.from.ensures ∙ ap (reduced c.args.num) c.from-2.ensures ∙ proper-reduced q proper in
    let is = c.fraction.view_is ∙ c.in-Ok.ensures ∙ e in
    elim c.then-fraction-num.branch [
      | then-fraction-num-via-then-fraction-num w ↦ w.if-fraction-num.true (ap (λ (f : Fraction). f.num) is)
      | then-fraction-num-via-else-fraction-num+then-fraction-den w ↦ w.if-fraction-den.true (ap (λ (f : Fraction). f.den) is)
    ]
