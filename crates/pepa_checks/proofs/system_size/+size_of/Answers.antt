use Rattle.std.proofs.Common.{ap, sym, ◌∙◌, subst, refl}
use Rattle.pepa_resolver.specs.Named.{Named, NamedConstant, NamedPrefix, NamedChoice, NamedCoop, NamedHide, constants_named}
use Rattle.pepa_resolver.specs.NamedTypes.{named_of}
use Rattle.pepa_checks.specs.Outline.{expression_in}
use Rattle.pepa_checks.specs.SystemSizes.{IsCountIn}
use Rattle.pepa_checks.proofs.SizeCounting.{counted_as, count_compound, count_sequential, count_leaf, count_coop, count_hide}
use Rattle.pepa_checks.proofs.system_size.+size_of.Goals as goal

pub returns-then-is_compound : goal.returns-then-is_compound
returns-then-is_compound t c =
    let p = named_of c.args.process.now in
    let n = c.in-Constant.number in
    let counted = count_compound c.args.measure c.args.compounds.now c.args.counts.now c.in-Constant.at n (sym c.is_compound.ensures ∙ c.if-is_compound.true) in
    rw c.count_at.ensures (counted_as c.args.measure c.args.compounds.now c.args.counts.now p (NamedConstant c.in-Constant.at n) _ (ap named_of c.in-Constant.is) counted)

pub returns-else-is_compound : goal.returns-else-is_compound
returns-else-is_compound t c =
    let p = named_of c.args.process.now in
    let n = c.in-Constant.number in
    counted_as c.args.measure c.args.compounds.now c.args.counts.now p (NamedConstant c.in-Constant.at n) 1 (ap named_of c.in-Constant.is)
    (count_sequential c.args.measure c.args.compounds.now c.args.counts.now c.in-Constant.at n (sym c.is_compound.ensures ∙ c.if-is_compound.false))

pub returns-in-Prefix : goal.returns-in-Prefix
returns-in-Prefix t c =
    let p = named_of c.args.process.now in
    let q = NamedPrefix c.in-Prefix.at c.in-Prefix.action c.in-Prefix.rate (named_of c.in-Prefix.next.value) in
    counted_as c.args.measure c.args.compounds.now c.args.counts.now p q 1 (ap named_of c.in-Prefix.is)
    (count_leaf c.args.measure c.args.compounds.now c.args.counts.now (constants_named q) q (expression_in q) (λ sets. refl))

pub returns-in-Choice : goal.returns-in-Choice
returns-in-Choice t c =
    let p = named_of c.args.process.now in
    let q = NamedChoice (named_of c.in-Choice.field-0.value) (named_of c.in-Choice.field-1.value) in
    counted_as c.args.measure c.args.compounds.now c.args.counts.now p q 1 (ap named_of c.in-Choice.is)
    (count_leaf c.args.measure c.args.compounds.now c.args.counts.now (constants_named q) q (expression_in q) (λ sets. refl))

pub returns-in-Coop : goal.returns-in-Coop
returns-in-Coop t c =
    let p = named_of c.args.process.now in
    let left = named_of c.in-Coop.left.value in
    let right = named_of c.in-Coop.right.value in
    let first = subst (λ (x : Named). IsCountIn c.args.measure c.args.compounds.now c.args.counts.now (constants_named x) x c.size_of-before.result) (ap named_of c.deref.ensures) c.size_of-before.ensures in
    let second = subst (λ (x : Named). IsCountIn c.args.measure c.args.compounds.now c.args.counts.now (constants_named x) x c.size_of-behind.result) (ap named_of c.deref-in-Coop.ensures) c.size_of-behind.ensures in
    counted_as c.args.measure c.args.compounds.now c.args.counts.now p (NamedCoop left right c.in-Coop.set) c.joined.result (ap named_of c.in-Coop.is)
    (count_coop c.args.measure c.args.compounds.now c.args.counts.now left right c.in-Coop.set c.size_of-before.result c.size_of-behind.result c.joined.result c.joined.ensures first second)

pub returns-in-Hide : goal.returns-in-Hide
returns-in-Hide t c =
    let p = named_of c.args.process.now in
    let inner = named_of c.in-Hide.inner.value in
    let inside = subst (λ (x : Named). IsCountIn c.args.measure c.args.compounds.now c.args.counts.now (constants_named x) x c.size_of.result) (ap named_of c.deref-in-Hide.ensures) c.size_of.ensures in
    counted_as c.args.measure c.args.compounds.now c.args.counts.now p (NamedHide inner c.in-Hide.set) c.joined-in-Hide.result (ap named_of c.in-Hide.is)
    (count_hide c.args.measure c.args.compounds.now c.args.counts.now inner c.in-Hide.set c.size_of.result c.joined-in-Hide.result c.joined-in-Hide.ensures inside)
