use Rattle.std.proofs.Common.{sym, length, arith}
use Rattle.std.proofs.lemmas.List.{length-map}
use Rattle.pepa_resolver.specs.NamedTypes.{named_of, bodies_of}
use Rattle.pepa_checks.proofs.Bodies.{body_at, users_hit, users_miss, users_end, alias_below}
use Rattle.pepa_checks.proofs.compounds.users.Goals as goal
use Rattle.pepa_checks.proofs.compounds.users.Goals.{in-Some+in_ok-add, in_default}

pub add-requires : goal.add-requires
add-requires c =
    let bodies = bodies_of c.args.bodies.now in
    let read = body_at c.args.bodies.now c.loop-user.user c.index-bodies-user.result c.loop-user-test.true c.index-bodies-user.is in
    let low = alias_below (length c.args.bodies.now) bodies c.loop-user.user c.in-Some.constant (named_of c.index-bodies-user.result) c.requires.below read (sym c.in-Some.ensures) in
    omega (arith, c.loop-user.invariant.sizes, length-map c.args.bodies.now named_of)

pub loop-user-preserved : goal.loop-user-preserved
loop-user-preserved c =
    let bodies = bodies_of c.args.bodies.now in
    let body = named_of c.index-bodies-user.result in
    let read = body_at c.args.bodies.now c.loop-user.user c.index-bodies-user.result c.loop-user-test.true c.index-bodies-user.is in
    elim c.match-alone.branch [
      | in-Some+in_ok-add w ↦
          let low = alias_below (length c.args.bodies.now) bodies c.loop-user.user w.in-Some.constant body c.requires.below read (sym w.in-Some.ensures) in
          rw (w.users-is, w.in_ok-add.ensures) (users_hit bodies c.loop-user.users.items c.loop-user.user w.in-Some.constant body c.loop-user.invariant read (sym w.in-Some.ensures) (omega (arith, c.loop-user.invariant.sizes, length-map c.args.bodies.now named_of)))
      | in_default w ↦
          rw w.users-is (users_miss bodies c.loop-user.users.items c.loop-user.user body c.loop-user.invariant read (sym w.in_default.ensures))
    ]

pub returns-clause-users : goal.returns-clause-users
returns-clause-users c =
    users_end (bodies_of c.args.bodies.now) c.loop-user.users.items c.loop-user.user (omega (arith, length-map c.args.bodies.now named_of)) c.loop-user.invariant
