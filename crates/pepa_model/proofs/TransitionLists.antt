-- The moves of an opened component are its transition list.
use Rattle.std.proofs.Common.{◌≡◌, ℕ, List, [], ◌∷◌, ◌++◌, map, inl, inr, refl, sym, ap, subst}
use Rattle.std.specs.List.{AllByRecursion, AllZip}
use Rattle.pepa_model.specs.Expression.{Expression, Const, Prefixed, Chosen, Definition, Defines}
use Rattle.pepa_model.specs.Derivation.{Derivation, ByPrefix, ByLeft, ByRight, ByConstant, Transition, leaf_transition, Concludes, Precedes, InDerivationOrder, Among, IsComponentTransitionList}
use Rattle.pepa_model.specs.Opened.{Opened, OpenPrefix, OpenChoice, OpenConst, Opens, moves}

-- lists of derivations

AllZip-append : {A B : Type 0} (R : A → B → Type 0) (xs xs' : List A) (ys ys' : List B) → AllZip R xs ys → AllZip R xs' ys' → AllZip R (xs ++ xs') (ys ++ ys')
AllZip-append R [] xs' [] ys' h h' = h'
AllZip-append R [] xs' (y ∷ ys) ys' h h' = absurd h
AllZip-append R (x ∷ xs) xs' [] ys' h h' = absurd h
AllZip-append R (x ∷ xs) xs' (y ∷ ys) ys' h h' = (h.0, AllZip-append R xs xs' ys ys' h.1 h')

AllZip-map : {A A' B : Type 0} (R : A → B → Type 0) (S : A' → B → Type 0) (f : A → A') → ((x : A) (y : B) → R x y → S (f x) y) → (xs : List A) (ys : List B) → AllZip R xs ys → AllZip S (map f xs) ys
AllZip-map R S f k [] [] h = tt
AllZip-map R S f k [] (y ∷ ys) h = absurd h
AllZip-map R S f k (x ∷ xs) [] h = absurd h
AllZip-map R S f k (x ∷ xs) (y ∷ ys) h = (k x y h.0, AllZip-map R S f k xs ys h.1)

pub Among-front : {X : Type 0} (x : X) (xs ys : List X) → Among x xs → Among x (xs ++ ys)
Among-front x [] ys h = absurd h
Among-front x (y ∷ xs) ys (inl e) = inl e
Among-front x (y ∷ xs) ys (inr h) = inr (Among-front x xs ys h)

pub Among-back : {X : Type 0} (x : X) (xs ys : List X) → Among x ys → Among x (xs ++ ys)
Among-back x [] ys h = h
Among-back x (y ∷ xs) ys h = inr (Among-back x xs ys h)

pub Among-map : {X Y : Type 0} (f : X → Y) (x : X) (xs : List X) → Among x xs → Among (f x) (map f xs)
Among-map f x [] h = absurd h
Among-map f x (y ∷ xs) (inl e) = inl (ap f e)
Among-map f x (y ∷ xs) (inr h) = inr (Among-map f x xs h)

AllByRecursion-append : {X : Type 0} (P : X → Type 0) (xs ys : List X) → AllByRecursion P xs → AllByRecursion P ys → AllByRecursion P (xs ++ ys)
AllByRecursion-append P [] ys h k = k
AllByRecursion-append P (x ∷ xs) ys h k = (h.0, AllByRecursion-append P xs ys h.1 k)

AllByRecursion-map : {X Y : Type 0} (P : X → Type 0) (Q : Y → Type 0) (f : X → Y) → ((x : X) → P x → Q (f x)) → (xs : List X) → AllByRecursion P xs → AllByRecursion Q (map f xs)
AllByRecursion-map P Q f k [] h = tt
AllByRecursion-map P Q f k (x ∷ xs) h = (k x h.0, AllByRecursion-map P Q f k xs h.1)

AllByRecursion-each : {X Y : Type 0} (Q : Y → Type 0) (f : X → Y) → ((x : X) → Q (f x)) → (xs : List X) → AllByRecursion Q (map f xs)
AllByRecursion-each Q f k [] = tt
AllByRecursion-each Q f k (x ∷ xs) = (k x, AllByRecursion-each Q f k xs)

InDerivationOrder-map : (f : Derivation → Derivation) → ((d e : Derivation) → Precedes d e → Precedes (f d) (f e)) → (ds : List Derivation) → InDerivationOrder ds → InDerivationOrder (map f ds)
InDerivationOrder-map f k [] h = tt
InDerivationOrder-map f k (d ∷ ds) h = (AllByRecursion-map (Precedes d) (Precedes (f d)) f (k d) ds h.0, InDerivationOrder-map f k ds h.1)

-- those of the left operand, and then those of the right one
InDerivationOrder-choice : (ds es : List Derivation) → InDerivationOrder ds → InDerivationOrder es → InDerivationOrder (map ByLeft ds ++ map ByRight es)
InDerivationOrder-choice [] es h k = InDerivationOrder-map ByRight (λ d e p. p) es k
InDerivationOrder-choice (d ∷ ds) es h k = (
  AllByRecursion-append (Precedes (ByLeft d)) (map ByLeft ds) (map ByRight es)
      (AllByRecursion-map (Precedes d) (Precedes (ByLeft d)) ByLeft (λ e p. p) ds h.0)
      (AllByRecursion-each (Precedes (ByLeft d)) ByRight (λ e. tt) es),
  InDerivationOrder-choice ds es h.1 k,
)

-- the derivations of an opened component, in order
abbrev derivations_of : Opened → List Derivation
derivations_of (OpenPrefix a r next) = ByPrefix ∷ []
derivations_of (OpenChoice p q) = map ByLeft (derivations_of p) ++ map ByRight (derivations_of q)
derivations_of (OpenConst c p) = map ByConstant (derivations_of p)

in_order : (o : Opened) → InDerivationOrder (derivations_of o)
in_order (OpenPrefix a r next) = (tt, tt)
in_order (OpenChoice p q) = InDerivationOrder-choice (derivations_of p) (derivations_of q) (in_order p) (in_order q)
in_order (OpenConst c p) = InDerivationOrder-map ByConstant (λ d e h. h) (derivations_of p) (in_order p)

module _ (definitions : List Definition) where
  conclusions : (e : Expression) (o : Opened) → Opens definitions e o → AllZip (λ d t. Concludes definitions d e t) (derivations_of o) (moves o)
  conclusions e (OpenPrefix a r next) h =
      subst (λ e. AllZip (λ d t. Concludes definitions d e t) (ByPrefix ∷ []) (leaf_transition a r next ∷ [])) (sym h) (refl, tt)
  conclusions e (OpenChoice p q) (x, y, e_is, opens_x, opens_y) =
      subst (λ e. AllZip (λ d t. Concludes definitions d e t) (map ByLeft (derivations_of p) ++ map ByRight (derivations_of q)) (moves p ++ moves q)) (sym e_is)
      (AllZip-append (λ d t. Concludes definitions d (Chosen x y) t) (map ByLeft (derivations_of p)) (map ByRight (derivations_of q)) (moves p) (moves q)
      (AllZip-map (λ d t. Concludes definitions d x t) (λ d t. Concludes definitions d (Chosen x y) t) ByLeft (λ d t k. k) (derivations_of p) (moves p) (conclusions x p opens_x))
      (AllZip-map (λ d t. Concludes definitions d y t) (λ d t. Concludes definitions d (Chosen x y) t) ByRight (λ d t k. k) (derivations_of q) (moves q) (conclusions y q opens_y)))
  conclusions e (OpenConst c p) (e_is, (body, defined, opens_body)) =
      subst (λ e. AllZip (λ d t. Concludes definitions d e t) (map ByConstant (derivations_of p)) (moves p)) (sym e_is)
      (AllZip-map (λ d t. Concludes definitions d body t) (λ d t. Concludes definitions d (Const c) t) ByConstant (λ d t k. (body, defined, k)) (derivations_of p) (moves p) (conclusions body p opens_body))

  same_body : (c : ℕ) (x y : Expression) → Defines definitions c x → Defines definitions c y → x ≡ y
  same_body c x y h k = cc

  prefix_only : (d : Derivation) (a : ℕ) (r : _) (next : Expression) (t : Transition) → Concludes definitions d (Prefixed a r next) t → Among d (ByPrefix ∷ [])
  prefix_only ByPrefix a r next t k = inl refl
  prefix_only (ByLeft d) a r next t k = absurd k
  prefix_only (ByRight d) a r next t k = absurd k
  prefix_only (ByConstant d) a r next t k = absurd k

  choice_only : (d : Derivation) (x y : Expression) (ds es : List Derivation) (t : Transition)
      → ((d : Derivation) (t : Transition) → Concludes definitions d x t → Among d ds)
      → ((d : Derivation) (t : Transition) → Concludes definitions d y t → Among d es)
      → Concludes definitions d (Chosen x y) t → Among d (map ByLeft ds ++ map ByRight es)
  choice_only ByPrefix x y ds es t left right k = absurd k
  choice_only (ByLeft d) x y ds es t left right k = Among-front (ByLeft d) (map ByLeft ds) (map ByRight es) (Among-map ByLeft d ds (left d t k))
  choice_only (ByRight d) x y ds es t left right k = Among-back (ByRight d) (map ByLeft ds) (map ByRight es) (Among-map ByRight d es (right d t k))
  choice_only (ByConstant d) x y ds es t left right k = absurd k

  constant_only : (d : Derivation) (c : ℕ) (body : Expression) (ds : List Derivation) (t : Transition) → Defines definitions c body
      → ((d : Derivation) (t : Transition) → Concludes definitions d body t → Among d ds)
      → Concludes definitions d (Const c) t → Among d (map ByConstant ds)
  constant_only ByPrefix c body ds t defined inner k = absurd k
  constant_only (ByLeft d) c body ds t defined inner k = absurd k
  constant_only (ByRight d) c body ds t defined inner k = absurd k
  constant_only (ByConstant d) c body ds t defined inner (other, defined_too, k) =
      Among-map ByConstant d ds (inner d t (subst (λ e. Concludes definitions d e t) (same_body c other body defined_too defined) k))

  complete : (e : Expression) (o : Opened) → Opens definitions e o → (d : Derivation) (t : Transition) → Concludes definitions d e t → Among d (derivations_of o)
  complete e (OpenPrefix a r next) h d t k = prefix_only d a r next t (subst (λ e. Concludes definitions d e t) h k)
  complete e (OpenChoice p q) (x, y, e_is, opens_x, opens_y) d t k =
      choice_only d x y (derivations_of p) (derivations_of q) t (complete x p opens_x) (complete y q opens_y) (subst (λ e. Concludes definitions d e t) e_is k)
  complete e (OpenConst c p) (e_is, (body, defined, opens_body)) d t k =
      constant_only d c body (derivations_of p) t defined (complete body p opens_body) (subst (λ e. Concludes definitions d e t) e_is k)

  pub transition_list : (e : Expression) (o : Opened) → Opens definitions e o → IsComponentTransitionList definitions e (moves o)
  transition_list e o opens = record {
    derivations = derivations_of o;
    conclusions = conclusions e o opens;
    complete = complete e o opens;
    in_order = in_order o;
  }
