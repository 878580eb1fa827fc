-- The last of a table's new passes.
use Rattle.std.proofs.Common.{◌≡◌, ℕ, zero, suc, List, [], ◌∷◌, ◌++◌, length, Option, Some, None, slice_get, refl, sym, ap, subst}
use Rattle.std.specs.Prelude.{IfSome, option_to_list}
use Rattle.intern_core.specs.declared.seat.Seat.{Seat}
use Rattle.intern_core.specs.declared.seat.Phase.TheVariants.{Idle}
use Rattle.chain_rule.specs.Passes.{Walker, IsNew, AreNew}
use Rattle.chain_rule.specs.declared.meaning.Setting.{Setting}
use Rattle.atomic_table.specs.Seated.{TableId}

module _ {X : Type 0} where
  at_front : (ys zs : List X) (i : ℕ) (w : X) → slice_get ys i ≡ Some w → slice_get (ys ++ zs) i ≡ Some w
  at_front [] zs i w h = absurd cc
  at_front (y ∷ ys) zs zero w h = h
  at_front (y ∷ ys) zs (suc i) w h = at_front ys zs i w h

  at_end : (ys : List X) (x : X) → slice_get (ys ++ x ∷ []) (length ys) ≡ Some x
  at_end [] x = refl
  at_end (y ∷ ys) x = at_end ys x

module _ {M : Type 0} (id : TableId) (key : Setting M) where
  -- the last one is new
  pub last_is_new : (old new : List (Walker M)) (last : Option (Walker M)) → old ≡ new ++ option_to_list last → AreNew id key old → IfSome last (λ p. (n : ℕ) × IsNew id key n p)
  last_is_new old new (Some p) is are = (length new, are (length new) p (subst (λ (l : List (Walker M)). slice_get l (length new) ≡ Some p) (sym is) (at_end new p)))
  last_is_new old new None is are = tt

  -- and so are the others
  pub others_are_new : (old new : List (Walker M)) (last : Option (Walker M)) → old ≡ new ++ option_to_list last → AreNew id key old → AreNew id key new
  others_are_new old new last is are i w at =
      are i w (subst (λ (l : List (Walker M)). slice_get l i ≡ Some w) (sym is) (at_front new (option_to_list last) i w at))

  pub idle : (last : Option (Walker M)) → IfSome last (λ p. (n : ℕ) × IsNew id key n p) → IfSome last (λ p. p.view.seat.phase ≡ Idle)
  idle (Some p) (n, h) = ap (λ (s : Seat). s.phase) h.seat_is
  idle None h = tt

  pub mine : (last : Option (Walker M)) → IfSome last (λ p. (n : ℕ) × IsNew id key n p) → IfSome last (λ p. p.view.mine ≡ [])
  mine (Some p) (n, h) = h.mine
  mine None h = tt
