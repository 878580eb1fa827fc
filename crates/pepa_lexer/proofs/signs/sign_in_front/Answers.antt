use Rattle.std.proofs.Common.{sym}
use Rattle.pepa_lexer.proofs.Runs.{first_is}
use Rattle.pepa_lexer.proofs.SignLemmas.{no_sign, byte_longest}
use Rattle.pepa_lexer.proofs.signs.sign_in_front.Goals as goal

pub returns-in_err-sign : goal.returns-in_err-sign
returns-in_err-sign c =
    let first = first_is c.args.text.now c.in_ok-first.field-0.now c.in_ok-first.ensures.value in
    rw c.from_residual-in_err-sign.ensures (λ sign rest. no_sign sign c.args.text.now _ rest c.in_ok-first.field-0.now first (sym c.in_err-sign.ensures.value) c.in_default.ensures)

pub returns : goal.returns
returns c =
    byte_longest c.args.text.now c.in_ok-sign.sign c.in_ok-first.field-0.now _ (first_is c.args.text.now c.in_ok-first.field-0.now c.in_ok-first.ensures.value) c.in_ok-sign.ensures.bytes c.requires c.in_default.ensures
