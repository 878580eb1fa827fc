use Rattle.pepa_resolver.specs.NamedTypes.{named_of}
use Rattle.pepa_checks.proofs.Sequentials.{tells_prefix, tells_choice, tells_coop, tells_hide}
use Rattle.pepa_checks.proofs.structure.+parts_of.Goals as goal

pub returns-in-Prefix : goal.returns-in-Prefix
returns-in-Prefix t c = λ bodies given.
    rw (c.in-Prefix.is, c.operator.ensures, c.fault.ensures) (tells_prefix bodies c.in-Prefix.at c.in-Prefix.action c.in-Prefix.rate (named_of c.in-Prefix.next.value) c.parts_of-behind.result (rw c.deref.ensures at c.parts_of-behind.ensures bodies given))

pub returns-in-Choice : goal.returns-in-Choice
returns-in-Choice t c = λ bodies given.
    rw (c.in-Choice.is, c.operator-in-Choice.ensures, c.least-fault.ensures, c.fault-in-Choice.ensures, c.fault-in-Choice-2.ensures) (tells_choice bodies (named_of c.in-Choice.left.value) (named_of c.in-Choice.right.value) c.parts_of-before.result c.parts_of-behind-in-Choice.result (rw c.deref-in-Choice.ensures at c.parts_of-before.ensures bodies given) (rw c.deref-in-Choice-2.ensures at c.parts_of-behind-in-Choice.ensures bodies given))

pub returns-in-Coop : goal.returns-in-Coop
returns-in-Coop t c = λ bodies given.
    rw (c.in-Coop.is, c.operator-in-Coop.ensures, c.least.ensures) (tells_coop bodies (named_of c.in-Coop.left.value) (named_of c.in-Coop.right.value) c.in-Coop.set c.parts_of-before-in-Coop.result c.parts_of-behind-in-Coop.result (rw c.deref-in-Coop.ensures at c.parts_of-before-in-Coop.ensures bodies given) (rw c.deref-in-Coop-2.ensures at c.parts_of-behind-in-Coop.ensures bodies given))

pub returns-in-Hide : goal.returns-in-Hide
returns-in-Hide t c = λ bodies given.
    rw (c.in-Hide.is, c.operator-in-Hide.ensures) (tells_hide bodies (named_of c.in-Hide.inner.value) c.in-Hide.set c.parts_of-inside.result (rw c.deref-in-Hide.ensures at c.parts_of-inside.ensures bodies given))
