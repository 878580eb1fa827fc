use Rattle.call_words.proofs.GivenValues.{no_size}
use Rattle.call_words.proofs.orders.run_of.Goals as goal

pub returns-in_err-size-in-Some : goal.returns-in_err-size-in-Some
returns-in_err-size-in-Some c =
    rw c.from_residual-in_err-size-in-Some.ensures
    (λ order made h. no_size _ _ c.in-Some.ensures c.in_err-size-in-Some.ensures made h.1)
