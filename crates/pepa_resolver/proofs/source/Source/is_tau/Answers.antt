use Rattle.std.proofs.Common.{rules, sym}
use Rattle.pepa_resolver.proofs.Taus.{tau_by_bytes, no_tau, none_is_tau}
use Rattle.pepa_resolver.proofs.source.Source.is_tau.Goals as goal

pub returns-in_default : goal.returns-in_default
returns-in_default c = (λ h. absurd cc, λ h. absurd (none_is_tau c.args.self.now.input.now c.args.self.now.tokens.now c.args.at (sym c.in_default.ensures) h))

pub returns-in_default-kind : goal.returns-in_default-kind
returns-in_default-kind c = (λ h. absurd cc, λ h. absurd (no_tau c.args.self.now.input.now c.args.self.now.tokens.now c.args.at c.in-Some.token.now (sym c.in-Some.ensures) c.in_default-kind.not-Small h))

pub returns-in-Small : goal.returns-in-Small
returns-in-Small c = tau_by_bytes c.args.self.now.input.now c.args.self.now.tokens.now c.args.at c.in-Some.token.now c.eq.result (sym c.in-Some.ensures) c.in-Small.is (search rules)
