use Rattle.std.proofs.Common.{◌≡◌, ℕ, suc, ◌<◌, List, ◌∷◌, subst, arith}
use Rattle.std.specs.List.{All}
use Rattle.std.proofs.lemmas.Result.{err_from_is_err_and}
use Rattle.pepa_text.proofs.Kept.{kept_behind, kept_step}
use Rattle.pepa_text.proofs.sets.push_set.Goals as goal

behind : (n first : ℕ) (others list : List ℕ) → list ≡ first ∷ others → All (λ a. a < n) list → All (λ a. a < n) others
behind n first others list e h = λ k d lt. (subst (All (λ a. a < n)) e h) (suc k) d (omega arith)

pub push_action-requires-in-loop-action : goal.push_action-requires-in-loop-action
push_action-requires-in-loop-action c =
    behind _ c.in-Some.first.now c.in-Some.others.now c.args.set.now c.in-Some.ensures.cases.0 c.requires c.loop-action.action-index 0 c.loop-action-test.true

pub returns-in_err-push_text-clause-kept : goal.returns-in_err-push_text-clause-kept
returns-in_err-push_text-clause-kept c =
    let p = err_from_is_err_and c.from_residual-in_err-push_text.result c.from_residual-in_err-push_text.ensures.1 in
    rw p.1 (kept_behind c.args.to.now.items _ c.push_action.new.to.items _ c.loop-action.to.items c.push_text.new.to.items
    c.in_ok-push_action.ensures.text c.loop-action.invariant c.in_err-push_text.ensures.kept)

pub returns-in_err-push_action-2-clause-kept : goal.returns-in_err-push_action-2-clause-kept
returns-in_err-push_action-2-clause-kept c =
    let p = err_from_is_err_and c.from_residual-in_err-push_action-2.result c.from_residual-in_err-push_action-2.ensures.1 in
    let loop = kept_step c.loop-action.to.items _ c.push_text.new.to.items c.push_action-in-loop-action.new.to.items c.in_ok-push_text.ensures.text c.in_err-push_action-2.ensures.kept in
    rw p.1 (kept_behind c.args.to.now.items _ c.push_action.new.to.items _ c.loop-action.to.items c.push_action-in-loop-action.new.to.items
    c.in_ok-push_action.ensures.text c.loop-action.invariant loop)
