use Rattle.std.proofs.Common.{◌≡◌, [], List, Ok, Err, length, ap, sym, subst, arith}
use Rattle.std.proofs.lemmas.Result.{err_from_is_err_and}
use Rattle.pepa_model.specs.PepaModel.{PepaModel}
use Rattle.pepa_steps.specs.States.{StandsFor}
use Rattle.pepa_steps.specs.ListAnswers.{IsListAnswer}
use Rattle.pepa_steps.specs.Traces.{entries_in}
use Rattle.pepa_steps.specs.declared.entries.Entry.{Entry}
use Rattle.plain_space.specs.PlainLists.{PlainView, AnswersWeighing}
use Rattle.plain_space.proofs.LoadedTerms.{short, part_stops, whole_stops, can_choose, told}
use Rattle.plain_space.proofs.space.PlainSpaceSpace.load.Goals as goal

pub returns-in_err-load-clause-list : goal.returns-in_err-load-clause-list
returns-in_err-load-clause-list c = λ q stands.
    let p = err_from_is_err_and c.from_residual.result c.from_residual.ensures.1 in
    let model : c.self.inside.model.now ≡ c.args.self.now.model = ap (λ (v : PlainView). v.model) c.self.view_is in
    let here = subst (λ (m : PepaModel). StandsFor m q c.args.at.now) (sym model) stands.1 in
    let answer = subst (λ (m : PepaModel). IsListAnswer m q (entries_in c.load.new.buffers) (Err c.in_err-load.field-0.0)) model (c.in_err-load.ensures.list q here) in
    rw (p.1, p.2) (part_stops c.args.self.now.model q (entries_in c.load.new.buffers) [] c.in_err-load.field-0.0 answer)

pub returns-in_err-scale-clause-list : goal.returns-in_err-scale-clause-list
returns-in_err-scale-clause-list c = λ q stands.
    let p = err_from_is_err_and c.from_residual-in_err-scale.result c.from_residual-in_err-scale.ensures.1 in
    let model : c.self.inside.model.now ≡ c.args.self.now.model = ap (λ (v : PlainView). v.model) c.self.view_is in
    let here = subst (λ (m : PepaModel). StandsFor m q c.args.at.now) (sym model) stands.1 in
    let answer = subst (λ (m : PepaModel). IsListAnswer m q (entries_in c.load.new.buffers) (Ok tt)) model (c.in_ok-load.ensures.list q here) in
    let weighed = subst (λ (es : List Entry). AnswersWeighing es c.weigh.new.rates.items c.weigh.new.each.items (Err c.in_err-scale.field-0.0)) c.entries.ensures c.in_err-scale.ensures in
    rw (p.1, p.2) (whole_stops c.args.self.now.model q (entries_in c.load.new.buffers) [] c.weigh.new.rates.items c.weigh.new.each.items c.in_err-scale.field-0.0 answer weighed)

pub overflow_cast-loaded : goal.overflow_cast-loaded
overflow_cast-loaded c =
    let model : c.self.inside.model.now ≡ c.args.self.now.model = ap (λ (v : PlainView). v.model) c.self.view_is in
    let here = subst (λ (m : PepaModel). StandsFor m c.requires.0 c.args.at.now) (sym model) c.requires.1.1 in
    let few = short c.self.inside.model.now c.recall_invariant.ensures c.args.at.now c.load.new.buffers c.in_ok-load.ensures.loaded c.requires.0 here in
    omega (arith, few, ap (λ (es : List Entry). length es) c.entries-2.ensures)

pub returns-clause-list : goal.returns-clause-list
returns-clause-list c = λ q stands.
    let model : c.self.inside.model.now ≡ c.args.self.now.model = ap (λ (v : PlainView). v.model) c.self.view_is in
    let here = subst (λ (m : PepaModel). StandsFor m q c.args.at.now) (sym model) stands.1 in
    let answer = subst (λ (m : PepaModel). IsListAnswer m q (entries_in c.load.new.buffers) (Ok tt)) model (c.in_ok-load.ensures.list q here) in
    let weighed = subst (λ (es : List Entry). AnswersWeighing es c.weigh.new.rates.items c.weigh.new.each.items (Ok c.in_ok-scale.scale)) c.entries.ensures c.in_ok-scale.ensures in
    can_choose c.args.self.now.model q (entries_in c.load.new.buffers) c.weigh.new.rates.items c.weigh.new.each.items c.in_ok-scale.scale answer weighed

pub returns-clause-loaded : goal.returns-clause-loaded
returns-clause-loaded c =
    let model : c.self.inside.model.now ≡ c.args.self.now.model = ap (λ (v : PlainView). v.model) c.self.view_is in
    let here = subst (λ (m : PepaModel). StandsFor m c.requires.0 c.args.at.now) (sym model) c.requires.1.1 in
    let few = short c.self.inside.model.now c.recall_invariant.ensures c.args.at.now c.load.new.buffers c.in_ok-load.ensures.loaded c.requires.0 here in
    let weighed = subst (λ (es : List Entry). AnswersWeighing es c.weigh.new.rates.items c.weigh.new.each.items (Ok c.in_ok-scale.scale)) c.entries.ensures c.in_ok-scale.ensures in
    rw c.entries-2.ensures (told (entries_in c.load.new.buffers) c.weigh.new.rates.items c.weigh.new.each.items c.in_ok-scale.scale weighed few)
