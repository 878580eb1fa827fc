use Rattle.std.proofs.Common.{IfOk, sym, subst}
use Rattle.pepa_steps.specs.States.{State, StateTransition}
use Rattle.pepa_steps.specs.ListAnswers.{IsTransitionAt}
use Rattle.number_space.specs.NumberedStates.{NumberView, NumberStandsFor, HasSomeNumber, IsLoadedFor}
use Rattle.number_space.proofs.Numbering.{loaded_here, numbered_after}
use Rattle.number_space.proofs.space.NumberSpaceSpace.go.Goals as goal

pub go-requires-clause-at : goal.go-requires-clause-at
go-requires-clause-at c =
    let view : NumberView = record { space = c.self.inside.inner; known = c.self.inside.known.items; fulls = c.self.inside.fulls } in
    loaded_here view c.args.at.now c.index.result.now (subst (λ (v : NumberView). IsLoadedFor v c.args.at.now) (sym c.self.view_is) c.requires.at) c.index.ensures

pub returns-clause-stands : goal.returns-clause-stands
returns-clause-stands c =
    let after = c.number_of.new.self in
    let P : NumberView → Type 0 = λ v. IfOk c.number_of.result (λ x. (q : State) (t : StateTransition) → NumberStandsFor v.space.model v.known c.args.at.now q
    → IsTransitionAt v.space.model.bodies q c.args.i t → NumberStandsFor after.space.model after.known x t.target × HasSomeNumber after.space.model after.known t.target) in
    subst P c.self.view_is
    (numbered_after c.number_of.result c.self.inside.known.items c.args.i c.args.at.now c.self.inside.inner.model c.index.result.now c.in_ok-term.term c.go.new.self.model after
    c.number_of.ensures.number c.number_of.ensures.more c.number_of.ensures.grown.model c.index.ensures c.in_ok-term.ensures.stands)
