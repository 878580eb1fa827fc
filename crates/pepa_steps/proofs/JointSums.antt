-- The rates of joint transitions, and their sum.
use Rattle.std.proofs.Common.{◌≡◌, ◌==◌, ℕ, Bool, true, false, if◌then◌else◌, cond, List, [], ◌∷◌, map, inl, refl, sym, ap, subst, ◌∙◌}
use Rattle.std.specs.List.{filter, flat_map}
use Rattle.std.proofs.lemmas.Bool.{eqb-true, eqb-false, eq-eqb, ne_eqb}
use Rattle.pepa_rates.specs.Fraction.{IsPositive}
use Rattle.pepa_rates.specs.Sum.{fraction_of}
use Rattle.pepa_rates.specs.Share.{share_of}
use Rattle.pepa_rates.specs.declared.rate.Rate.{Rate}
use Rattle.pepa_model.specs.Apparent.{Apparent, NoRate, Rated, Undefined, together}
use Rattle.pepa_steps.specs.States.{StateTransition}
use Rattle.pepa_steps.specs.OpenStates.{joint_move, rate_of}
use Rattle.pepa_steps.specs.SumLaw.{sum_of_rates}
use Rattle.pepa_steps.proofs.ElementsOf.{from_map, from_filter, from_flat_map}
use Rattle.pepa_steps.proofs.ShareSums.{share-positive}
use Rattle.pepa_steps.proofs.ApparentSums.{IsDefined, right_defined, scaled, scaled-together, second-additive, in_all, in_all-together, in_all-none}
use Rattle.pepa_steps.proofs.RateSums.{HasPositive, ArePositive, rest_positive, own, own-positive, own_other, own_same, sum-positive, sum-append, sum-other}

-- ---- their rates are positive

module _ (set : List ℕ) (ra rb : ℕ → Rate) (ha : (n : ℕ) → IsPositive (fraction_of (ra n))) (hb : (n : ℕ) → IsPositive (fraction_of (rb n))) (vs : List StateTransition) (k : ArePositive vs) where
  abbrev pub joint_of : StateTransition → List StateTransition
  joint_of u = map (joint_move set (ra u.action) (rb u.action) u) (filter (λ v. u.action == v.action) vs)

  pub joint_of-positive : (u : StateTransition) → HasPositive u → ArePositive (joint_of u)
  joint_of-positive u h w among =
      let (v, kept, is) = from_map (joint_move set (ra u.action) (rb u.action) u) w (filter (λ v. u.action == v.action) vs) among in
      let (found, same) = from_filter (λ (v : StateTransition). u.action == v.action) v vs kept in
      subst HasPositive (sym is) (share-positive u.rate (ra u.action) v.rate (rb u.action) h (ha u.action) (k v found) (hb u.action))

  pub joints-positive : (us : List StateTransition) → ArePositive us → ArePositive (flat_map joint_of us)
  joints-positive us h w among =
      let (u, found, among_u) = from_flat_map joint_of w us among in
      joint_of-positive u (h u found) w among_u

-- ---- the sum of those of one on the left

module _ (set : List ℕ) (a : ℕ) (u : StateTransition) (ra rb : Rate) (h : HasPositive u) (ha : IsPositive (fraction_of ra)) (hb : IsPositive (fraction_of rb)) where
  abbrev f : Rate → Rate
  f r = share_of u.rate ra r rb

  abbrev pairs : List StateTransition → List StateTransition
  pairs vs = map (joint_move set ra rb u) (filter (λ v. u.action == v.action) vs)

  pairs_kept : (b : Bool) (v : StateTransition) (vs : List StateTransition)
      → sum_of_rates a (map (joint_move set ra rb u) (cond b (v ∷ vs) vs))
      ≡ together (if b then own a u.action (f v.rate) else NoRate) (sum_of_rates a (map (joint_move set ra rb u) vs))
  pairs_kept true v vs = refl
  pairs_kept false v vs = refl

  own_pair : (u.action == a) ≡ true → (n : ℕ) (r : Rate) → (if u.action == n then own a u.action (f r) else NoRate) ≡ scaled f (own a n r)
  own_pair mine n r = of_test (n == a) refl
    where
      of_test : (b : Bool) → (n == a) ≡ b → (if u.action == n then own a u.action (f r) else NoRate) ≡ scaled f (own a n r)
      of_test true same =
          ap (λ (b : Bool). if b then own a u.action (f r) else NoRate) (eq-eqb u.action n (eqb-true u.action a mine ∙ sym (eqb-true n a same)))
          ∙ own_same a u.action (f r) mine ∙ sym (ap (scaled f) (own_same a n r same))
      of_test false other =
          ap (λ (b : Bool). if b then own a u.action (f r) else NoRate) (ne_eqb u.action n (λ e. eqb-false n a other (sym e ∙ eqb-true u.action a mine)))
          ∙ sym (ap (scaled f) (own_other a n r other))

  pub sum-pairs : (u.action == a) ≡ true → (vs : List StateTransition) → ArePositive vs → IsDefined (sum_of_rates a vs) → sum_of_rates a (pairs vs) ≡ scaled f (sum_of_rates a vs)
  sum-pairs mine [] k defined = refl
  sum-pairs mine (v ∷ vs) k defined =
      let x : Apparent = own a v.action v.rate in
      let y : Apparent = sum_of_rates a vs in
      pairs_kept (u.action == v.action) v (filter (λ v. u.action == v.action) vs)
      ∙ ap (λ (z : Apparent). together z (sum_of_rates a (pairs vs))) (own_pair mine v.action v.rate)
      ∙ ap (together (scaled f x)) (sum-pairs mine vs (rest_positive v vs k) (right_defined x y defined))
      ∙ sym (scaled-together f (second-additive ra rb ha hb u.rate h) x y (own-positive a v.action v.rate (k v (inl refl))) (sum-positive a vs (rest_positive v vs k)) defined)

-- ---- the sum of all

scaled_in_all : (r1 ra rb : Rate) (y : Apparent) → IsDefined y → rb ≡ rate_of y → scaled (λ r. share_of r1 ra r rb) y ≡ in_all ra y (Rated r1)
scaled_in_all r1 ra rb NoRate defined same = refl
scaled_in_all r1 ra rb (Rated r) defined same = ap (λ (x : Rate). Rated (share_of r1 ra r x)) same
scaled_in_all r1 ra rb Undefined defined same = absurd defined

module _ (set : List ℕ) (a : ℕ) (ra rb : ℕ → Rate) (ha : (n : ℕ) → IsPositive (fraction_of (ra n))) (hb : (n : ℕ) → IsPositive (fraction_of (rb n)))
    (vs : List StateTransition) (k : ArePositive vs) (defined : IsDefined (sum_of_rates a vs)) (right : rb a ≡ rate_of (sum_of_rates a vs)) where
  abbrev mine : StateTransition → List StateTransition
  mine u = joint_of set ra rb ha hb vs k u

  sum_of_one : (u : StateTransition) → HasPositive u → sum_of_rates a (mine u) ≡ in_all (ra a) (sum_of_rates a vs) (own a u.action u.rate)
  sum_of_one u h = of_test (u.action == a) refl
    where
      of_test : (b : Bool) → (u.action == a) ≡ b → sum_of_rates a (mine u) ≡ in_all (ra a) (sum_of_rates a vs) (own a u.action u.rate)
      of_test true same =
          sum-pairs set a u (ra u.action) (rb u.action) h (ha u.action) (hb u.action) same vs k defined
          ∙ ap (λ (n : ℕ). scaled (λ r. share_of u.rate (ra n) r (rb n)) (sum_of_rates a vs)) (eqb-true u.action a same)
          ∙ scaled_in_all u.rate (ra a) (rb a) (sum_of_rates a vs) defined right
          ∙ sym (ap (in_all (ra a) (sum_of_rates a vs)) (own_same a u.action u.rate same))
      of_test false other =
          sum-other a (joint_move set (ra u.action) (rb u.action) u) u.action (λ v. refl) other (filter (λ v. u.action == v.action) vs)
          ∙ sym (ap (in_all (ra a) (sum_of_rates a vs)) (own_other a u.action u.rate other) ∙ in_all-none (ra a) (sum_of_rates a vs))

  pub sum-joints : (us : List StateTransition) → ArePositive us → IsDefined (sum_of_rates a us) → sum_of_rates a (flat_map mine us) ≡ in_all (ra a) (sum_of_rates a vs) (sum_of_rates a us)
  sum-joints [] h is_defined = sym (in_all-none (ra a) (sum_of_rates a vs))
  sum-joints (u ∷ us) h is_defined =
      let x : Apparent = own a u.action u.rate in
      let y : Apparent = sum_of_rates a vs in
      let z : Apparent = sum_of_rates a us in
      let rest : ArePositive us = rest_positive u us h in
      sum-append a (mine u) (flat_map mine us) (joint_of-positive set ra rb ha hb vs k u (h u (inl refl))) (joints-positive set ra rb ha hb vs k us rest)
      ∙ ap (λ (w : Apparent). together w (sum_of_rates a (flat_map mine us))) (sum_of_one u (h u (inl refl)))
      ∙ ap (together (in_all (ra a) y x)) (sum-joints us rest (right_defined x z is_defined))
      ∙ sym (in_all-together (ra a) y x z (ha a) (sum-positive a vs k) (own-positive a u.action u.rate (h u (inl refl))) (sum-positive a us rest) is_defined)
