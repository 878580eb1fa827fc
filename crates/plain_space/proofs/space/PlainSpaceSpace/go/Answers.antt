use Rattle.std.proofs.Common.{◌≡◌, ap, sym, subst}
use Rattle.pepa_model.specs.PepaModel.{PepaModel}
use Rattle.pepa_model.specs.Terms.{IsTermOf}
use Rattle.pepa_steps.specs.States.{StandsFor}
use Rattle.pepa_steps.specs.ListAnswers.{IsTransitionAt}
use Rattle.plain_space.specs.PlainLists.{PlainView}
use Rattle.plain_space.proofs.space.PlainSpaceSpace.go.Goals as goal

pub returns-in-Ok-clause-stands : goal.returns-in-Ok-clause-stands
returns-in-Ok-clause-stands c = λ q t stands at.
    let model : c.self.inside.model.now ≡ c.args.self.now.model = ap (λ (v : PlainView). v.model) c.self.view_is in
    let here = subst (λ (m : PepaModel). StandsFor m q c.args.at.now) (sym model) stands.1 in
    let there = subst (λ (m : PepaModel). IsTransitionAt m.bodies q c.args.i t) (sym model) at in (
      subst (λ (m : PepaModel). IsTermOf m c.in-Ok.term × StandsFor m t.target c.in-Ok.term) model (c.in-Ok.ensures.of_model, c.in-Ok.ensures.stands q t here there),
      tt,
    )
