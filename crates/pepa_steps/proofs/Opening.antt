-- How the expressions of the program open.
use Rattle.std.proofs.Common.{◌≡◌, ℕ, ◌-◌, ◌≤◌, List, Some, slice_get, ◌^◌, refl, ap, subst, arith}
use Rattle.pepa_model.specs.Expression.{Expression, Const, Prefixed, Chosen, Definition, Defines, IsSequential}
use Rattle.pepa_model.specs.Opened.{Opened, OpenPrefix, OpenChoice, OpenConst, Opens, height}
use Rattle.pepa_model.specs.PepaModel.{PepaModel, IsModel}
use Rattle.pepa_steps.specs.ApparentAnswers.{CanOpen}

pub record OpensAsChoice (definitions : List Definition) (x y : Expression) (o : Opened) : Type 0 where
  pub left : Opened
  pub right : Opened
  pub whole : o ≡ OpenChoice left right
  pub opens_left : Opens definitions x left
  pub opens_right : Opens definitions y right

pub record OpensAsConst (definitions : List Definition) (c : ℕ) (body : Expression) (o : Opened) : Type 0 where
  pub inner : Opened
  pub whole : o ≡ OpenConst c inner
  pub opens : Opens definitions body inner

module _ (definitions : List Definition) where
  pub opens_prefix : (e : Expression) (a : ℕ) (r : _) (next : Expression) → e ≡ Prefixed a r next → (o : Opened) → Opens definitions e o → o ≡ OpenPrefix a r next
  opens_prefix e a r next is (OpenPrefix b s after) h = cc
  opens_prefix e a r next is (OpenChoice p q) (x, y, e_is, opens_x, opens_y) = absurd cc
  opens_prefix e a r next is (OpenConst c p) (e_is, h) = absurd cc

  pub opens_choice : (e x y : Expression) → e ≡ Chosen x y → (o : Opened) → Opens definitions e o → OpensAsChoice definitions x y o
  opens_choice e x y is (OpenPrefix b s after) h = absurd cc
  opens_choice e x y is (OpenChoice p q) (x', y', e_is, opens_x, opens_y) =
      let same_x : x' ≡ x = cc in
      let same_y : y' ≡ y = cc in
      record {
        left = p;
        right = q;
        whole = refl;
        opens_left = subst (λ e. Opens definitions e p) same_x opens_x;
        opens_right = subst (λ e. Opens definitions e q) same_y opens_y;
      }
  opens_choice e x y is (OpenConst c p) (e_is, h) = absurd cc

  pub opens_const : (e : Expression) (c : ℕ) (body : Expression) → e ≡ Const c → Defines definitions c body → (o : Opened) → Opens definitions e o → OpensAsConst definitions c body o
  opens_const e c body is defined (OpenPrefix b s after) h = absurd cc
  opens_const e c body is defined (OpenChoice p q) (x, y, e_is, opens_x, opens_y) = absurd cc
  opens_const e c body is defined (OpenConst d p) (e_is, (other, defined_too, opens)) =
      let same_constant : d ≡ c = cc in
      let again : Defines definitions c other = subst (λ (n : ℕ). Defines definitions n other) same_constant defined_too in
      let same : other ≡ body = cc in
      record {
        inner = p;
        whole = ap (λ (n : ℕ). OpenConst n p) same_constant;
        opens = subst (λ e. Opens definitions e p) same opens;
      }

  -- the constant of an expression that opens stands for a component
  pub has_body : (e : Expression) (c depth : ℕ) → e ≡ Const c → CanOpen definitions e depth → IsSequential definitions c
  has_body e c depth is h = of_opened h.opened h.opens
    where
      of_opened : (o : Opened) → Opens definitions e o → IsSequential definitions c
      of_opened (OpenPrefix b s after) h = absurd cc
      of_opened (OpenChoice p q) (x, y, e_is, opens_x, opens_y) = absurd cc
      of_opened (OpenConst d p) (e_is, (other, defined, opens)) =
          let same_constant : d ≡ c = cc in
          subst (λ (n : ℕ). IsSequential definitions n) same_constant (other, defined)

  pub record ChoiceCanOpen (x y : Expression) (depth : ℕ) : Type 0 where
    pub positive : 1 ≤ depth
    pub left : CanOpen definitions x (depth - 1)
    pub right : CanOpen definitions y (depth - 1)

  pub choice_can_open : (e x y : Expression) (depth : ℕ) → e ≡ Chosen x y → CanOpen definitions e depth → ChoiceCanOpen x y depth
  choice_can_open e x y depth is h =
      let o = opens_choice e x y is h.opened h.opens in
      let tall : height (OpenChoice o.left o.right) ≤ depth = subst (λ (o : Opened). height o ≤ depth) o.whole h.within in
      record {
        positive = omega arith;
        left = record { opened = o.left; opens = o.opens_left; within = omega arith };
        right = record { opened = o.right; opens = o.opens_right; within = omega arith };
      }

  pub record ConstCanOpen (body : Expression) (depth : ℕ) : Type 0 where
    pub positive : 1 ≤ depth
    pub inner : CanOpen definitions body (depth - 1)

  pub const_can_open : (e : Expression) (c : ℕ) (body : Expression) (depth : ℕ) → e ≡ Const c → Defines definitions c body → CanOpen definitions e depth → ConstCanOpen body depth
  const_can_open e c body depth is defined h =
      let o = opens_const e c body is defined h.opened h.opens in
      let tall : height (OpenConst c o.inner) ≤ depth = subst (λ (o : Opened). height o ≤ depth) o.whole h.within in
      record { positive = omega arith; inner = record { opened = o.inner; opens = o.opens; within = omega arith } }

-- each leaf of a model opens
pub leaf_can_open : (m : PepaModel) → IsModel m → (number : ℕ) (e : Expression) → slice_get m.leaves number ≡ Some e → CanOpen m.bodies e (2 ^ 21)
leaf_can_open m sound number e at =
    let leaf = sound.leaves number e at in
    record { opened = leaf.opened; opens = leaf.opens; within = leaf.shallow }
