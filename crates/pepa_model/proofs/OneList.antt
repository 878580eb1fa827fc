-- A component has one transition list and one tree, and an apparent rate one fault.
use Rattle.std.proofs.Common.{◌≡◌, ℕ, List, [], ◌∷◌, ◌⊎◌, inl, inr, refl, sym, ap, subst, ◌∙◌}
use Rattle.std.specs.List.{AllByRecursion, AllZip}
use Rattle.pepa_rates.specs.declared.rate.RateFault.{RateFault}
use Rattle.pepa_model.specs.Expression.{Expression, Const, Prefixed, Chosen, Definition, Defines}
use Rattle.pepa_model.specs.Derivation.{Derivation, ByPrefix, ByLeft, ByRight, ByConstant, Transition, Concludes, Precedes, InDerivationOrder, Among, IsComponentTransitionList}
use Rattle.pepa_model.specs.Opened.{Opened, OpenPrefix, OpenChoice, OpenConst, Opens}
use Rattle.pepa_model.specs.Apparent.{Apparent, NoRate, Rated, Undefined, IsFine, HasFault}

-- ---- derivations

same_body : (definitions : List Definition) (c : ℕ) (x y : Expression) → Defines definitions c x → Defines definitions c y → x ≡ y
same_body definitions c x y h k = cc

-- a derivation concludes one transition of a component
pub same_conclusion : (definitions : List Definition) (d : Derivation) (e : Expression) (s t : Transition) → Concludes definitions d e s → Concludes definitions d e t → s ≡ t
same_conclusion definitions ByPrefix (Prefixed a r next) s t h k = h ∙ sym k
same_conclusion definitions (ByLeft d) (Chosen x y) s t h k = same_conclusion definitions d x s t h k
same_conclusion definitions (ByRight d) (Chosen x y) s t h k = same_conclusion definitions d y s t h k
same_conclusion definitions (ByConstant d) (Const c) s t (e, e_is, h) (f, f_is, k) =
    same_conclusion definitions d e s t h (subst (λ e. Concludes definitions d e t) (same_body definitions c f e f_is e_is) k)
same_conclusion definitions ByPrefix (Const c) s t h k = absurd h
same_conclusion definitions ByPrefix (Chosen x y) s t h k = absurd h
same_conclusion definitions (ByLeft d) (Const c) s t h k = absurd h
same_conclusion definitions (ByLeft d) (Prefixed a r next) s t h k = absurd h
same_conclusion definitions (ByRight d) (Const c) s t h k = absurd h
same_conclusion definitions (ByRight d) (Prefixed a r next) s t h k = absurd h
same_conclusion definitions (ByConstant d) (Prefixed a r next) s t h k = absurd h
same_conclusion definitions (ByConstant d) (Chosen x y) s t h k = absurd h

-- no derivation precedes one that precedes it, and none itself
pub never_both : (d e : Derivation) → Precedes d e → Precedes e d → ⊥
never_both (ByLeft d) (ByLeft e) h k = never_both d e h k
never_both (ByRight d) (ByRight e) h k = never_both d e h k
never_both (ByConstant d) (ByConstant e) h k = never_both d e h k
never_both (ByLeft d) (ByRight e) h k = absurd k
never_both (ByRight d) (ByLeft e) h k = absurd h
never_both ByPrefix e h k = absurd h
never_both (ByLeft d) ByPrefix h k = absurd h
never_both (ByLeft d) (ByConstant e) h k = absurd h
never_both (ByRight d) ByPrefix h k = absurd h
never_both (ByRight d) (ByConstant e) h k = absurd h
never_both (ByConstant d) ByPrefix h k = absurd h
never_both (ByConstant d) (ByLeft e) h k = absurd h
never_both (ByConstant d) (ByRight e) h k = absurd h

pub each_among : {X : Type 0} (P : X → Type 0) (x : X) (xs : List X) → AllByRecursion P xs → Among x xs → P x
each_among P x [] h k = absurd k
each_among P x (y ∷ ys) h (inl e) = subst P (sym e) h.0
each_among P x (y ∷ ys) h (inr k) = each_among P x ys h.1 k

abbrev Within : List Derivation → List Derivation → Type 0
Within ds es = (d : Derivation) → Among d ds → Among d es

-- the first ones of two lists in order with the same elements are the same
same_first : (d e : Derivation) (ds es : List Derivation) → InDerivationOrder (d ∷ ds) → InDerivationOrder (e ∷ es) → Within (d ∷ ds) (e ∷ es) → Within (e ∷ es) (d ∷ ds) → d ≡ e
same_first d e ds es h k to from = of_cases (to d (inl refl)) (from e (inl refl))
  where
    of_cases : (d ≡ e) ⊎ Among d es → (e ≡ d) ⊎ Among e ds → d ≡ e
    of_cases (inl same) other = same
    of_cases (inr later) (inl same) = sym same
    of_cases (inr later) (inr later_too) = absurd (never_both d e (each_among (Precedes d) e ds h.0 later_too) (each_among (Precedes e) d es k.0 later))

within_rest : (d : Derivation) (ds es : List Derivation) → InDerivationOrder (d ∷ ds) → Within (d ∷ ds) (d ∷ es) → Within ds es
within_rest d ds es h to x among = of_cases (to x (inr among))
  where
    of_cases : (x ≡ d) ⊎ Among x es → Among x es
    of_cases (inl same) =
        let before : Precedes d d = subst (λ (y : Derivation). Precedes d y) same (each_among (Precedes d) x ds h.0 among) in
        absurd (never_both d d before before)
    of_cases (inr later) = later

same_derivations : (ds es : List Derivation) → InDerivationOrder ds → InDerivationOrder es → Within ds es → Within es ds → ds ≡ es
same_derivations [] [] h k to from = refl
same_derivations [] (e ∷ es) h k to from = absurd (from e (inl refl))
same_derivations (d ∷ ds) [] h k to from = absurd (to d (inl refl))
same_derivations (d ∷ ds) (e ∷ es) h k to from =
    let same = same_first d e ds es h k to from in
    let k' : InDerivationOrder (d ∷ es) = subst (λ (x : Derivation). InDerivationOrder (x ∷ es)) (sym same) k in
    let to' : Within (d ∷ ds) (d ∷ es) = subst (λ (x : Derivation). Within (d ∷ ds) (x ∷ es)) (sym same) to in
    let from' : Within (d ∷ es) (d ∷ ds) = subst (λ (x : Derivation). Within (x ∷ es) (d ∷ ds)) (sym same) from in
    let rest = same_derivations ds es h.1 k'.1 (within_rest d ds es h to') (within_rest d es ds k' from') in
    ap (λ (l : List Derivation). d ∷ l) rest ∙ ap (λ (x : Derivation). x ∷ es) same

module _ (definitions : List Definition) (e : Expression) where
  abbrev Concluded : Derivation → Transition → Type 0
  Concluded d t = Concludes definitions d e t

  has_conclusion : (d : Derivation) (ds : List Derivation) (ts : List Transition) → AllZip Concluded ds ts → Among d ds → (t : Transition) × Concluded d t
  has_conclusion d [] ts h k = absurd k
  has_conclusion d (x ∷ ds) [] h k = absurd h
  has_conclusion d (x ∷ ds) (t ∷ ts) h (inl same) = (t, subst (λ (x : Derivation). Concluded x t) (sym same) h.0)
  has_conclusion d (x ∷ ds) (t ∷ ts) h (inr k) = has_conclusion d ds ts h.1 k

  within : (ts us : List Transition) (x : IsComponentTransitionList definitions e ts) (y : IsComponentTransitionList definitions e us) → Within x.derivations y.derivations
  within ts us x y d among =
      let (t, concluded) = has_conclusion d x.derivations ts x.conclusions among in
      y.complete d t concluded

  same_conclusions : (ds : List Derivation) (ts us : List Transition) → AllZip Concluded ds ts → AllZip Concluded ds us → ts ≡ us
  same_conclusions [] [] [] h k = refl
  same_conclusions [] [] (u ∷ us) h k = absurd k
  same_conclusions [] (t ∷ ts) us h k = absurd h
  same_conclusions (d ∷ ds) [] us h k = absurd h
  same_conclusions (d ∷ ds) (t ∷ ts) [] h k = absurd k
  same_conclusions (d ∷ ds) (t ∷ ts) (u ∷ us) h k =
      ap (λ (x : Transition). x ∷ ts) (same_conclusion definitions d e t u h.0 k.0) ∙ ap (λ (l : List Transition). u ∷ l) (same_conclusions ds ts us h.1 k.1)

  same_list : (ts us : List Transition) → IsComponentTransitionList definitions e ts → IsComponentTransitionList definitions e us → ts ≡ us
  same_list ts us x y =
      let same = same_derivations x.derivations y.derivations x.in_order y.in_order (within ts us x y) (within us ts y x) in
      same_conclusions x.derivations ts us x.conclusions (subst (λ (ds : List Derivation). AllZip Concluded ds us) (sym same) y.conclusions)

pub one_list : (definitions : List Definition) (e : Expression) (ts us : List Transition) → IsComponentTransitionList definitions e ts → IsComponentTransitionList definitions e us → ts ≡ us
one_list definitions e ts us x y = same_list definitions e ts us x y

-- ---- trees, and faults

pub one_opening : (definitions : List Definition) (e f : Expression) (o p : Opened) → e ≡ f → Opens definitions e o → Opens definitions f p → o ≡ p
one_opening definitions e f (OpenPrefix a r next) (OpenPrefix b s after) is h k = cc
one_opening definitions e f (OpenPrefix a r next) (OpenChoice p q) is h (x, y, k, l, m) = absurd cc
one_opening definitions e f (OpenPrefix a r next) (OpenConst c p) is h (k, l) = absurd cc
one_opening definitions e f (OpenChoice p q) (OpenPrefix b s after) is (x, y, h, l, m) k = absurd cc
one_opening definitions e f (OpenChoice p q) (OpenChoice p' q') is (x, y, h, l, m) (x', y', h', l', m') =
    let left = one_opening definitions x x' p p' (cc) l l' in
    let right = one_opening definitions y y' q q' (cc) m m' in
    ap (λ (o : Opened). OpenChoice o q) left ∙ ap (λ (o : Opened). OpenChoice p' o) right
one_opening definitions e f (OpenChoice p q) (OpenConst c p') is (x, y, h, l, m) (h', l') = absurd cc
one_opening definitions e f (OpenConst c p) (OpenPrefix b s after) is (h, l) k = absurd cc
one_opening definitions e f (OpenConst c p) (OpenChoice p' q') is (h, l) (x', y', h', l', m') = absurd cc
one_opening definitions e f (OpenConst c p) (OpenConst d p') is (h, (x, x_is, l)) (h', (y, y_is, l')) =
    let same : c ≡ d = cc in
    let y_is' : Defines definitions c y = subst (λ (n : ℕ). Defines definitions n y) (sym same) y_is in
    ap (λ (n : ℕ). OpenConst n p) same ∙ ap (λ (o : Opened). OpenConst d o) (one_opening definitions x y p p' (same_body definitions c x y x_is y_is') l l')

pub faulty_not_fine : (x : Apparent) (f : RateFault) → HasFault x f → IsFine x → ⊥
faulty_not_fine NoRate f h k = h
faulty_not_fine (Rated r) f h k = h.1 k
faulty_not_fine Undefined f h k = k

pub same_fault : (x : Apparent) (f g : RateFault) → HasFault x f → HasFault x g → f ≡ g
same_fault NoRate f g h k = absurd h
same_fault (Rated r) f g h k = h.0 ∙ sym k.0
same_fault Undefined f g h k = h ∙ sym k
