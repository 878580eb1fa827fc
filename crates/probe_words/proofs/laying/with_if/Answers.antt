use Rattle.std.proofs.Common.{inl, inr}
use Rattle.probe_words.proofs.Sets.{has_or, or_left, or_right}
use Rattle.probe_words.proofs.laying.with_if.Goals as goal

pub returns-then-test : goal.returns-then-test
returns-then-test c = λ i. (
  λ q. elim (has_or c.args.set c.args.more i q) [ inl p ↦ inl p | inr p ↦ inr (c.if-test.true, p) ],
  λ q. elim q [ inl p ↦ or_left c.args.set c.args.more i p | inr p ↦ or_right c.args.set c.args.more i p.1 ],
)
