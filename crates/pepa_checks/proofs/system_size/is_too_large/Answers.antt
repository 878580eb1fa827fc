use Rattle.std.proofs.Common.{ap, ◌∙◌, subst, refl, ◌<◌, ℕ, List, arith, length, get_or, length-set}
use Rattle.std.proofs.lemmas.List.{length-map}
use Rattle.std.proofs.lemmas.List.Elements.{Contains-push}
use Rattle.pepa_resolver.specs.Named.{constants_named}
use Rattle.pepa_resolver.specs.NamedTypes.{named_of, bodies_of}
use Rattle.node_orders.specs.Graphs.{AreBelow}
use Rattle.pepa_checks.specs.SystemSizes.{IsCountIn}
use Rattle.pepa_checks.specs.FileViews.{IsOrderedView}
use Rattle.pepa_checks.specs.declared.structured_file.FileView.{FileView}
use Rattle.pepa_checks.proofs.SizeCounting.{none_counted, below_at, body_at, body_counted, counted_more, counted_skip, all_counted, is_many}
use Rattle.pepa_checks.proofs.system_size.is_too_large.Goals as goal
use Rattle.pepa_checks.proofs.system_size.is_too_large.Goals.{then-compounds-at, else-compounds-at}

-- a constant of the order has a body
has_body : (file : FileView) → IsOrderedView file → (k : ℕ) → k < length file.compound_order.now → get_or file.compound_order.now k 0 < length file.bodies.now
has_body file ordered k within =
    let low = below_at (length (bodies_of file.bodies.now)) file.compound_order.now k ordered.compounds.below within in
    omega (arith, low, length-map file.bodies.now named_of)

-- and the table says of it whether it is compound
has_flag : (file : FileView) → IsOrderedView file → (k : ℕ) → k < length file.compound_order.now → get_or file.compound_order.now k 0 < length file.compounds.now
has_flag file ordered k within =
    let low = below_at (length (bodies_of file.bodies.now)) file.compound_order.now k ordered.compounds.below within in
    omega (arith, low, ordered.built.one_each)

-- the constants of the system have bodies
system_known : (file : FileView) → IsOrderedView file → AreBelow (length (bodies_of file.bodies.now)) (constants_named (named_of file.system.now))
system_known file ordered = ordered.built.known (named_of file.system.now) (Contains-push (bodies_of file.bodies.now) (named_of file.system.now))

pub loop-constant-init : goal.loop-constant-init
loop-constant-init c = record {
  sizes = omega (arith, ap length c.from_vec-counts.ensures, c.in_ok-vec.ensures.len);
  counted = λ sets. none_counted c.args.measure c.args.file.compounds.now (bodies_of c.args.file.bodies.now) sets c.from_vec-counts.result;
}

pub bounds-compounds-at : goal.bounds-compounds-at
bounds-compounds-at c = has_flag c.args.file c.requires c.loop-constant.constant-index c.loop-constant-test.true

pub bounds-bodies-at : goal.bounds-bodies-at
bounds-bodies-at c = has_body c.args.file c.requires c.loop-constant.constant-index c.loop-constant-test.true

pub set-requires : goal.set-requires
set-requires c =
    let low = has_body c.args.file c.requires c.loop-constant.constant-index c.loop-constant-test.true in
    omega (arith, low, c.loop-constant.invariant.sizes)

pub loop-constant-preserved : goal.loop-constant-preserved
loop-constant-preserved c =
    let compounds = c.args.file.compounds.now in
    let bodies = c.args.file.bodies.now in
    let order = c.args.file.compound_order.now in
    let counts = c.loop-constant.counts in
    let k = c.loop-constant.constant-index in
    let at = get_or order k 0 in
    let low = has_body c.args.file c.requires k c.loop-constant-test.true in
    let within : at < length counts = omega (arith, low, c.loop-constant.invariant.sizes) in
    elim c.if-compounds-at.branch [
      | then-compounds-at w ↦
          let body = named_of w.index-bodies-at.result in
          let body_is = body_at bodies at w.index-bodies-at.result low w.index-bodies-at.is in
          let counted = λ (sets : List (List ℕ)). c.loop-constant.invariant.counted sets in
          let inside = λ (sets : List (List ℕ)). body_counted c.args.measure compounds (bodies_of bodies) sets (length (bodies_of bodies)) order counts k at body c.requires.built.table c.requires.compounds c.loop-constant-test.true refl w.if-compounds-at.true (has_flag c.args.file c.requires k c.loop-constant-test.true) body_is (counted sets) in
          let count = subst (λ (xs : List ℕ). IsCountIn c.args.measure compounds xs (constants_named body) body w.size_of-count.result) w.as_slice.ensures w.size_of-count.ensures in
          rw (w.counts-is, w.set.ensures) record {
            sizes = length-set counts at w.size_of-count.result ∙ c.loop-constant.invariant.sizes;
            counted = λ sets. counted_more c.args.measure compounds (bodies_of bodies) sets order counts k at w.size_of-count.result body c.loop-constant-test.true refl within body_is
                (count sets (bodies_of bodies) (inside sets)) (counted sets);
          }
      | else-compounds-at w ↦ rw w.counts-is record {
        sizes = c.loop-constant.invariant.sizes;
        counted = λ sets. counted_skip c.args.measure compounds (bodies_of bodies) sets order counts k at c.loop-constant-test.true refl w.if-compounds-at.false (c.loop-constant.invariant.counted sets);
      }
    ]

pub returns : goal.returns
returns c =
    let compounds = c.args.file.compounds.now in
    let bodies = bodies_of c.args.file.bodies.now in
    let system = named_of c.args.file.system.now in
    let counts = c.loop-constant.counts in
    let count = subst (λ (xs : List ℕ). IsCountIn c.args.measure compounds xs (constants_named system) system c.size_of-count-2.result) c.as_slice-2.ensures c.size_of-count-2.ensures in
    rw c.most.ensures λ sets tree expands.
    is_many c.args.measure _ c.size_of-count-2.result
    (count sets bodies (all_counted c.args.measure compounds bodies sets (length bodies) c.args.file.compound_order.now counts c.loop-constant.constant-index (constants_named system) c.requires.compounds (system_known c.args.file c.requires) c.loop-constant-test.false (c.loop-constant.invariant.counted sets)) tree expands)
