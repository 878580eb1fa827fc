use Rattle.std.proofs.Common.{map, string_bytes, ap, sym, ◌∙◌}
use Rattle.std.proofs.lemmas.Result.{err_from_is_err_and}
use Rattle.call_words.specs.declared.command.WordsFault.TheVariants.{Usage}
use Rattle.call_words.proofs.GivenValues.{refused_words, no_probe, no_run, no_gen}
use Rattle.call_words.proofs.reading.read_words.Goals as goal

pub returns-in_err-read_ask-in-probe : goal.returns-in_err-read_ask-in-probe
returns-in_err-read_ask-in-probe c =
    let p = err_from_is_err_and c.from_residual.result c.from_residual.ensures.1 in
    rw (p.1, p.2) (refused_words _ _ _ c.in_err-read_ask-in-probe.field-0.0 (ap (map string_bytes) c.in-Some.ensures.cases.0)
    (λ u. no_probe _ _ (sym c.as_str.ensures.value ∙ c.in-probe.is) (c.in_err-read_ask-in-probe.ensures u)))

pub returns-in_err-order-in-run : goal.returns-in_err-order-in-run
returns-in_err-order-in-run c =
    let p = err_from_is_err_and c.from_residual-in_err-order-in-run.result c.from_residual-in_err-order-in-run.ensures.1 in
    rw (p.1, p.2) (refused_words _ _ _ c.in_err-order-in-run.field-0.0 (ap (map string_bytes) c.in-Some.ensures.cases.0)
    (λ u. no_run _ _ (sym c.as_str.ensures.value ∙ c.in-run.is) (c.in_err-order-in-run.ensures u)))

pub returns-in-None : goal.returns-in-None
returns-in-None c =
    refused_words _ _ _ Usage (ap (map string_bytes) c.in-Some.ensures.cases.0)
    (λ u. no_gen _ _ (sym c.as_str.ensures.value ∙ c.in-gen.is) c.in-None.ensures)
