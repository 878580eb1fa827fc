-- One pass more.
use Rattle.std.proofs.Common.{◌≡◌, ℕ, ◌+◌, ◌∙◌, ap, sym, subst, arith, length, length-append, [], ◌∷◌, List}
use Rattle.chain_rule.specs.Splits.{giver}
use Rattle.chain_rule.specs.Passes.{Walker, IsNew, NewFrom}
use Rattle.chain_rule.proofs.NewPasses.{new_more, gives_new}
use Rattle.chain_rule.proofs.opening.others.Goals as goal

pub loop-number-preserved : goal.loop-number-preserved
loop-number-preserved g c =
    let inv = c.loop-number.invariant in
    let id = c.args.table.now.table.shared.table_id in
    let key = c.args.table.now.setting in
    let w = c.another-pass.result in
    let items = c.loop-number.passes.items in
    let more = c.in_ok-push.ensures.items in
    let count = inv.count in
    let number : c.loop-number.number ≡ 1 + length items = omega arith in
    let new = gives_new id key c.loop-number.number c.loop-number.first.view w inv.view (c.another-pass.ensures.pass.0 ∙ inv.own) c.another-pass.ensures.pass.1 in
    record {
      own = c.another-pass.ensures.first.0 ∙ inv.own;
      view = c.another-pass.ensures.first.1 ∙ ap giver inv.view;
      most = inv.most;
      low = let t = c.loop-number-test.true in omega arith;
      count = let long = ap (λ (l : List (Walker g.row.M.Denot)). length l) more ∙ length-append items (w ∷ []) in omega arith;
      new = subst (NewFrom id key 1) (sym more) (new_more id key 1 items w inv.new (subst (λ (n : ℕ). IsNew id key n w) number new));
    }
