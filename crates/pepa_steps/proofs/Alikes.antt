-- What a cooperation and a hiding make of alike lists is alike.
use Rattle.std.proofs.Common.{◌≡◌, ◌==◌, ℕ, zero, suc, inl, inr, arith, Bool, true, false, not, cond, bit_or, List, [], ◌∷◌, ◌++◌, map, filter, flat_map, length, refl, ap, subst, ◌∙◌}
use Rattle.std.specs.Prelude.{if◌then◌else◌}
use Rattle.std.specs.List.{AllByRecursion, AllZip, Contains}
use Rattle.pepa_rates.specs.declared.rate.Rate.{Rate}
use Rattle.pepa_rates.specs.Share.{share_of}
use Rattle.pepa_model.specs.Derivation.{Among}
use Rattle.pepa_steps.specs.Alike.{Alike}
use Rattle.pepa_steps.specs.Moves.{Move, has, carry, joint_of, joints_with, cooperation, under_hiding}

-- ---- lists whose elements are related one by one

pub zip_append : {X Y : Type 0} (R : X → Y → Type 0) (xs ys : List X) (us vs : List Y) → AllZip R xs us → AllZip R ys vs → AllZip R (xs ++ ys) (us ++ vs)
zip_append R [] ys [] vs h k = k
zip_append R [] ys (u ∷ us) vs h k = absurd h
zip_append R (x ∷ xs) ys [] vs h k = absurd h
zip_append R (x ∷ xs) ys (u ∷ us) vs h k = (h.0, zip_append R xs ys us vs h.1 k)

pub zip_map : {X Y Z W : Type 0} (R : X → Y → Type 0) (S : Z → W → Type 0) (f : X → Z) (g : Y → W) → ((x : X) (y : Y) → R x y → S (f x) (g y)) → (xs : List X) (ys : List Y) → AllZip R xs ys → AllZip S (map f xs) (map g ys)
zip_map R S f g each [] [] h = tt
zip_map R S f g each [] (y ∷ ys) h = absurd h
zip_map R S f g each (x ∷ xs) [] h = absurd h
zip_map R S f g each (x ∷ xs) (y ∷ ys) h = (each x y h.0, zip_map R S f g each xs ys h.1)

-- what passes a test is related, and passes it
zip_kept : {X Y : Type 0} (R : X → Y → Type 0) (p : X → Bool) (b : Bool) (x : X) (y : Y) (xs : List X) (ys : List Y) → p x ≡ b → R x y
    → AllZip (λ x y. R x y × (p x ≡ true)) xs ys → AllZip (λ x y. R x y × (p x ≡ true)) (cond b (x ∷ xs) xs) (cond b (y ∷ ys) ys)
zip_kept R p true x y xs ys is h rest = ((h, is), rest)
zip_kept R p false x y xs ys is h rest = rest

pub zip_filter : {X Y : Type 0} (R : X → Y → Type 0) (p : X → Bool) (q : Y → Bool) → ((x : X) (y : Y) → R x y → p x ≡ q y) → (xs : List X) (ys : List Y) → AllZip R xs ys
    → AllZip (λ x y. R x y × (p x ≡ true)) (filter p xs) (filter q ys)
zip_filter R p q same [] [] h = tt
zip_filter R p q same [] (y ∷ ys) h = absurd h
zip_filter R p q same (x ∷ xs) [] h = absurd h
zip_filter R p q same (x ∷ xs) (y ∷ ys) h =
    subst (λ (b : Bool). AllZip (λ x y. R x y × (p x ≡ true)) (filter p (x ∷ xs)) (cond b (y ∷ filter q ys) (filter q ys))) (same x y h.0)
    (zip_kept R p (p x) x y (filter p xs) (filter q ys) refl h.0 (zip_filter R p q same xs ys h.1))

pub zip_flat_map : {X Y Z W : Type 0} (R : X → Y → Type 0) (S : Z → W → Type 0) (f : X → List Z) (g : Y → List W) → ((x : X) (y : Y) → R x y → AllZip S (f x) (g y))
    → (xs : List X) (ys : List Y) → AllZip R xs ys → AllZip S (flat_map f xs) (flat_map g ys)
zip_flat_map R S f g each [] [] h = tt
zip_flat_map R S f g each [] (y ∷ ys) h = absurd h
zip_flat_map R S f g each (x ∷ xs) [] h = absurd h
zip_flat_map R S f g each (x ∷ xs) (y ∷ ys) h = zip_append S (f x) (flat_map f xs) (g y) (flat_map g ys) (each x y h.0) (zip_flat_map R S f g each xs ys h.1)

pub zip_count : {X Y : Type 0} (R : X → Y → Type 0) (xs : List X) (ys : List Y) → AllZip R xs ys → length xs ≡ length ys
zip_count R [] [] h = refl
zip_count R [] (y ∷ ys) h = absurd h
zip_count R (x ∷ xs) [] h = absurd h
zip_count R (x ∷ xs) (y ∷ ys) h = ap suc (zip_count R xs ys h.1)

-- what holds of all of one list holds of all of the other
pub zip_all : {X Y : Type 0} (R : X → Y → Type 0) (P : X → Type 0) (Q : Y → Type 0) → ((x : X) (y : Y) → R x y → P x → Q y) → (xs : List X) (ys : List Y) → AllZip R xs ys → AllByRecursion P xs → AllByRecursion Q ys
zip_all R P Q each [] [] h k = tt
zip_all R P Q each [] (y ∷ ys) h k = absurd h
zip_all R P Q each (x ∷ xs) [] h k = absurd h
zip_all R P Q each (x ∷ xs) (y ∷ ys) h k = (each x y h.0 k.0, zip_all R P Q each xs ys h.1 k.1)

pub zip_all_back : {X Y : Type 0} (R : X → Y → Type 0) (P : X → Type 0) (Q : Y → Type 0) → ((x : X) (y : Y) → R x y → Q y → P x) → (xs : List X) (ys : List Y) → AllZip R xs ys → AllByRecursion Q ys → AllByRecursion P xs
zip_all_back R P Q each [] [] h k = tt
zip_all_back R P Q each [] (y ∷ ys) h k = absurd h
zip_all_back R P Q each (x ∷ xs) [] h k = absurd h
zip_all_back R P Q each (x ∷ xs) (y ∷ ys) h k = (each x y h.0 k.0, zip_all_back R P Q each xs ys h.1 k.1)

-- each of one list is related to one of the other
pub zip_among : {X Y : Type 0} (R : X → Y → Type 0) (xs : List X) (ys : List Y) → AllZip R xs ys → (x : X) → Contains xs x → (y : Y) × Among y ys × R x y
zip_among R [] [] h x (k, lt, e) = absurd (omega (arith, lt))
zip_among R [] (y ∷ ys) h x found = absurd h
zip_among R (z ∷ xs) [] h x found = absurd h
zip_among R (z ∷ xs) (y ∷ ys) h x (zero, lt, e) = (y, inl refl, subst (λ w. R w y) e h.0)
zip_among R (z ∷ xs) (y ∷ ys) h x (suc k, lt, e) =
    let (w, among, related) = zip_among R xs ys h.1 x (k, omega (arith, lt), e) in
    (w, inr among, related)

-- ---- cooperations and hidings

same_share : (r r' ra ra' s s' rb rb' : Rate) → r ≡ r' → ra ≡ ra' → s ≡ s' → rb ≡ rb' → share_of r ra s rb ≡ share_of r' ra' s' rb'
same_share r r' ra ra' s s' rb rb' e f g h =
    ap (λ (x : Rate). share_of x ra s rb) e ∙ ap (λ (x : Rate). share_of r' x s rb) f ∙ ap (λ (x : Rate). share_of r' ra' x rb) g ∙ ap (λ (x : Rate). share_of r' ra' s' x) h

module _ {X Y Z X' Y' Z' : Type 0} (R : X → X' → Type 0) (S : Y → Y' → Type 0) (T : Z → Z' → Type 0)
    (left : X → Z) (right : Y → Z) (both : X → Y → Z) (left' : X' → Z') (right' : Y' → Z') (both' : X' → Y' → Z')
    (on_left : (x : X) (x' : X') → R x x' → T (left x) (left' x'))
    (on_right : (y : Y) (y' : Y') → S y y' → T (right y) (right' y'))
    (on_both : (x : X) (x' : X') (y : Y) (y' : Y') → R x x' → S y y' → T (both x y) (both' x' y'))
    (set : List ℕ) (ra ra' rb rb' : ℕ → Rate)
    (same_ra : (a : ℕ) → has set a ≡ true → ra a ≡ ra' a) (same_rb : (a : ℕ) → has set a ≡ true → rb a ≡ rb' a) where
  pub cooperation_alike : (us : List (Move X)) (us' : List (Move X')) (vs : List (Move Y)) (vs' : List (Move Y')) → AllZip (Alike R) us us' → AllZip (Alike S) vs vs'
      → AllZip (Alike T) (cooperation left right both set ra rb us vs) (cooperation left' right' both' set ra' rb' us' vs')
  cooperation_alike us us' vs vs' h k =
      zip_append (Alike T) _ _ _ _
      (zip_append (Alike T) _ _ _ _
      (zip_map (λ u u'. Alike R u u' × (not (has set u.action) ≡ true)) (Alike T) (carry left) (carry left')
      (λ u v a. record { action = a.0.action; signals = a.0.signals; rate = a.0.rate; target = on_left _ _ a.0.target }) _ _
      (zip_filter (Alike R) (λ u. not (has set u.action)) (λ u. not (has set u.action)) (λ u v a. ap (λ (n : ℕ). not (has set n)) a.action) us us' h))
      (zip_map (λ v v'. Alike S v v' × (not (has set v.action) ≡ true)) (Alike T) (carry right) (carry right')
      (λ u v a. record { action = a.0.action; signals = a.0.signals; rate = a.0.rate; target = on_right _ _ a.0.target }) _ _
      (zip_filter (Alike S) (λ u. not (has set u.action)) (λ u. not (has set u.action)) (λ u v a. ap (λ (n : ℕ). not (has set n)) a.action) vs vs' k)))
      (zip_flat_map (λ u u'. Alike R u u' × (has set u.action ≡ true)) (Alike T) (joints_with both ra rb vs) (joints_with both' ra' rb' vs') both_alike _ _
      (zip_filter (Alike R) (λ u. has set u.action) (λ u. has set u.action) (λ u v a. ap (has set) a.action) us us' h))
    where
      both_alike : (u : Move X) (u' : Move X') → Alike R u u' × (has set u.action ≡ true) → AllZip (Alike T) (joints_with both ra rb vs u) (joints_with both' ra' rb' vs' u')
      both_alike u u' (a, within) =
          zip_map (λ v v'. Alike S v v' × ((u.action == v.action) ≡ true)) (Alike T) (joint_of both (ra u.action) (rb u.action) u) (joint_of both' (ra' u'.action) (rb' u'.action) u')
          (λ v v' b. record {
            action = a.action;
            signals = ap (λ (n : ℕ). bit_or n v.signals) a.signals ∙ ap (λ (n : ℕ). bit_or u'.signals n) b.0.signals;
            rate = same_share u.rate u'.rate (ra u.action) (ra' u'.action) v.rate v'.rate (rb u.action) (rb' u'.action) a.rate
                (same_ra u.action within ∙ ap ra' a.action) b.0.rate (same_rb u.action within ∙ ap rb' a.action);
            target = on_both _ _ _ _ a.target b.0.target;
          }) _ _
          (zip_filter (Alike S) (λ v. u.action == v.action) (λ v. u'.action == v.action) (λ v v' b. ap (λ (n : ℕ). n == v.action) a.action ∙ ap (λ (n : ℕ). u'.action == n) b.action) vs vs' k)

module _ {X Y X' Y' : Type 0} (R : X → X' → Type 0) (T : Y → Y' → Type 0) (under : X → Y) (under' : X' → Y') (on_under : (x : X) (x' : X') → R x x' → T (under x) (under' x')) (set : List ℕ) where
  pub hidden_alike : (us : List (Move X)) (us' : List (Move X')) → AllZip (Alike R) us us' → AllZip (Alike T) (map (under_hiding under set) us) (map (under_hiding under' set) us')
  hidden_alike us us' h =
      zip_map (Alike R) (Alike T) (under_hiding under set) (under_hiding under' set)
      (λ u u' a. record {
        action = ap (λ (n : ℕ). if has set n then 0 else n) a.action;
        signals = a.signals;
        rate = a.rate;
        target = on_under _ _ a.target;
      }) us us' h
