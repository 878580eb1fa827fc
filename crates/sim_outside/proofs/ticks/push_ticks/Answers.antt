use Rattle.std.proofs.Common.{rules, ◌≡◌, ◌∙◌, refl}
use Rattle.std.specs.String.{string_bytes}
use Rattle.std.specs.Fmt.{styled_decimal}
use Rattle.sim_outside.specs.TicksText.{ticks_text, six_digits}
use Rattle.sim_outside.proofs.TicksText.{zeros_before}
use Rattle.sim_outside.proofs.ticks.push_ticks.Goals as goal

pub returns-clause-ok : goal.returns-clause-ok
returns-clause-ok c =
    let six : styled_decimal c.laid_out.result c.millionths.result ≡ six_digits c.millionths.result = rw c.laid_out.ensures (zeros_before c.millionths.result) in
    let text : string_bytes c.in_ok-text.text ≡ ticks_text c.args.ticks = c.in_ok-text.ensures.ok ∙ rw (six, c.whole_units.ensures, c.millionths.ensures) refl in
    let bytes : c.as_bytes.result.now ≡ ticks_text c.args.ticks = c.as_bytes.ensures.value ∙ text in
    search (rules, bytes)
