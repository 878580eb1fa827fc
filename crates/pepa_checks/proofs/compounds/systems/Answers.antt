use Rattle.std.proofs.Common.{◌∙◌, sym, arith}
use Rattle.std.proofs.lemmas.List.{length-map}
use Rattle.pepa_resolver.specs.NamedTypes.{named_of, bodies_of}
use Rattle.pepa_checks.proofs.Bodies.{body_at, systems_hit, systems_miss, systems_end}
use Rattle.pepa_checks.proofs.compounds.systems.Goals as goal
use Rattle.pepa_checks.proofs.compounds.systems.Goals.{then-has_system+in_ok-push, else-has_system}

pub loop-at-preserved : goal.loop-at-preserved
loop-at-preserved c =
    let body = named_of c.index-bodies-at.result in
    let read = body_at c.args.bodies.now c.loop-at.at c.index-bodies-at.result c.loop-at-test.true c.index-bodies-at.is in
    elim c.if-has_system.branch [
      | then-has_system+in_ok-push w ↦
          rw (w.systems-is, w.in_ok-push.ensures.ok) (systems_hit (bodies_of c.args.bodies.now) c.loop-at.systems c.loop-at.at body c.loop-at.invariant read (sym c.has_system.ensures ∙ w.if-has_system.true))
      | else-has_system w ↦
          rw w.systems-is (systems_miss (bodies_of c.args.bodies.now) c.loop-at.systems c.loop-at.at body c.loop-at.invariant read (sym c.has_system.ensures ∙ w.if-has_system.false))
    ]

pub returns : goal.returns
returns c =
    systems_end (bodies_of c.args.bodies.now) c.loop-at.systems c.loop-at.at (omega (arith, length-map c.args.bodies.now named_of)) c.loop-at.invariant
