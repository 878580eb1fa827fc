-- One new pass after others.
use Rattle.std.proofs.Common.{◌≡◌, ℕ, ◌+◌, List, [], ◌∷◌, ◌++◌, length, subst, ap, arith, false, ◌∙◌, zero, suc, slice_get, Some, None}
use Rattle.atomic_table.specs.Seated.{TableId}
use Rattle.intern_core.specs.declared.seat.Phase.TheVariants.{Idle}
use Rattle.intern_core.specs.Turns.{seat}
use Rattle.chain_rule.specs.declared.meaning.Setting.{Setting}
use Rattle.chain_rule.specs.declared.view.View.{View}
use Rattle.chain_rule.specs.Rule.{fresh_view}
use Rattle.chain_rule.specs.Splits.{newcomer}
use Rattle.chain_rule.specs.Passes.{Walker, IsNew, NewFrom, AreNew}

module _ {M : Type 0} (id : TableId) (key : Setting M) where
  pub new_more : (from : ℕ) (ws : List (Walker M)) (w : Walker M) → NewFrom id key from ws → IsNew id key (from + length ws) w → NewFrom id key from (ws ++ w ∷ [])
  new_more from [] w are new = (let e : from + 0 ≡ from = omega arith in subst (λ (n : ℕ). IsNew id key n w) e new, tt)
  new_more from (x ∷ xs) w are new =
      let e : from + length (x ∷ xs) ≡ from + 1 + length xs = omega arith in
      (are.0, new_more (from + 1) xs w are.1 (subst (λ (n : ℕ). IsNew id key n w) e new))

  new_each : (from : ℕ) (ws : List (Walker M)) → NewFrom id key from ws → (i : ℕ) (w : Walker M) → slice_get ws i ≡ Some w → IsNew id key (from + i) w
  new_each from [] are i w at = absurd cc
  new_each from (x ∷ xs) are zero w at =
      let same : x ≡ w = cc in
      let e : from ≡ from + 0 = omega arith in
      subst (λ (n : ℕ). IsNew id key n w) e (subst (IsNew id key from) same are.0)
  new_each from (x ∷ xs) are (suc i) w at =
      let e : from + 1 + i ≡ from + suc i = omega arith in
      subst (λ (n : ℕ). IsNew id key n w) e (new_each (from + 1) xs are.1 i w at)

  -- passes numbered from 0 on are those at their numbers
  pub new_all : (ws : List (Walker M)) → NewFrom id key 0 ws → AreNew id key ws
  new_all ws are i w at = let e : 0 + i ≡ i = omega arith in subst (λ (n : ℕ). IsNew id key n w) e (new_each 0 ws are i w at)

  -- the pass that pass 0 gives is new
  pub gives_new : (number : ℕ) (v : View M) (w : Walker M) → v ≡ fresh_view key 0 number → w.table_id ≡ id → w.view ≡ newcomer v → IsNew id key number w
  gives_new number v w is own new = record {
    own = (own, ap (λ (x : View M). x.setting) new ∙ ap (λ (x : View M). x.setting) is);
    front = ap (λ (x : View M). x.front) new;
    mine = ap (λ (x : View M). x.mine) new;
    seat_is = ap (λ (x : View M). x.seat) new ∙ ap (λ (x : View M). seat x.made None 0 false Idle) is;
  }
