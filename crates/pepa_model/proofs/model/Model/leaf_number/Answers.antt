use Rattle.std.proofs.Common.{◌≡◌, length, ap, sym, ◌∙◌, arith}
use Rattle.std.proofs.lemmas.List.{length-map}
use Rattle.pepa_model.specs.Expression.{expression_of}
use Rattle.pepa_model.specs.PepaModel.{PepaModel}
use Rattle.pepa_model.proofs.LeafLookup.{found, not_yet, nowhere}
use Rattle.pepa_model.proofs.model.Model.leaf_number.Goals as goal

pub returns-then-is_same : goal.returns-then-is_same
returns-then-is_same c = found c.args.self.now.leaves c.loop-number.number _ _ _ c.leaf.ensures c.is_same.ensures c.if-is_same.true

pub loop-number-preserved : goal.loop-number-preserved
loop-number-preserved c = not_yet c.args.self.now.leaves c.loop-number.number _ _ _ c.leaf.ensures c.is_same.ensures c.if-is_same.false c.loop-number.invariant

pub unreachable-requires : goal.unreachable-requires
unreachable-requires c =
    let whole : length c.self.inside.leaves ≡ length c.args.self.now.leaves =
    sym (length-map c.self.inside.leaves expression_of) ∙ ap (λ (m : PepaModel). length m.leaves) c.self.view_is in
    nowhere c.args.self.now.leaves c.loop-number.number (expression_of c.args.component.now) c.requires c.loop-number.invariant (omega (arith, whole, c.len-number-end.ensures, c.loop-number-test.false))
