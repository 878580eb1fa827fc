-- Lists of steps: what is kept, joined and turned into another of each.
use Rattle.std.proofs.Common.{◌≡◌, ℕ, ◌+◌, ◌<◌, take, drop, get_or, set, length, zero, suc, Bool, true, false, cond, List, [], ◌∷◌, ◌++◌, map, filter, flat_map, refl, sym, ap, subst, ◌∙◌, arith, inl, inr}
use Rattle.std.specs.List.{AllByRecursion, Contains}
use Rattle.std.proofs.lemmas.List.{map-append}
use Rattle.pepa_model.specs.Derivation.{Among}
use Rattle.pepa_steps.proofs.Faults.{all_append}

module _ {X Y Z : Type 0} where
  pub map_twice : (f : Y → Z) (g : X → Y) (xs : List X) → map f (map g xs) ≡ map (λ x. f (g x)) xs
  map_twice f g [] = refl
  map_twice f g (x ∷ xs) = ap (λ l. f (g x) ∷ l) (map_twice f g xs)

  pub map-flat_map : (f : Y → Z) (g : X → List Y) (xs : List X) → map f (flat_map g xs) ≡ flat_map (λ x. map f (g x)) xs
  map-flat_map f g [] = refl
  map-flat_map f g (x ∷ xs) = map-append f (g x) (flat_map g xs) ∙ ap (λ l. map f (g x) ++ l) (map-flat_map f g xs)

  pub flat_map-map : (g : Y → List Z) (f : X → Y) (xs : List X) → flat_map g (map f xs) ≡ flat_map (λ x. g (f x)) xs
  flat_map-map g f [] = refl
  flat_map-map g f (x ∷ xs) = ap (λ l. g (f x) ++ l) (flat_map-map g f xs)

module _ {X Y : Type 0} where
  pub map_same : (f g : X → Y) → ((x : X) → f x ≡ g x) → (xs : List X) → map f xs ≡ map g xs
  map_same f g same [] = refl
  map_same f g same (x ∷ xs) = ap (λ y. y ∷ map f xs) (same x) ∙ ap (λ l. g x ∷ l) (map_same f g same xs)

  pub filter-map : (test : Y → Bool) (f : X → Y) (xs : List X) → filter test (map f xs) ≡ map f (filter (λ x. test (f x)) xs)
  filter-map test f [] = refl
  filter-map test f (x ∷ xs) = of_test (test (f x)) (filter-map test f xs)
    where
      of_test : (b : Bool) → filter test (map f xs) ≡ map f (filter (λ x. test (f x)) xs)
          → cond b (f x ∷ filter test (map f xs)) (filter test (map f xs)) ≡ map f (cond b (x ∷ filter (λ x. test (f x)) xs) (filter (λ x. test (f x)) xs))
      of_test true e = ap (λ l. f x ∷ l) e
      of_test false e = e

  -- the same lists of each element that passes the test
  pub flat_map-filter_same : (f g : X → List Y) (test : X → Bool) → ((x : X) → test x ≡ true → f x ≡ g x) → (xs : List X) → flat_map f (filter test xs) ≡ flat_map g (filter test xs)
  flat_map-filter_same f g test same [] = refl
  flat_map-filter_same f g test same (x ∷ xs) = of_test (test x) refl (flat_map-filter_same f g test same xs)
    where
      of_test : (b : Bool) → test x ≡ b → flat_map f (filter test xs) ≡ flat_map g (filter test xs)
          → flat_map f (cond b (x ∷ filter test xs) (filter test xs)) ≡ flat_map g (cond b (x ∷ filter test xs) (filter test xs))
      of_test true passes e = ap (λ l. l ++ flat_map f (filter test xs)) (same x passes) ∙ ap (λ l. g x ++ l) e
      of_test false passes e = e

  pub all_unmap : (P : Y → Type 0) (f : X → Y) (xs : List X) → AllByRecursion P (map f xs) → AllByRecursion (λ x. P (f x)) xs
  all_unmap P f [] h = tt
  all_unmap P f (x ∷ xs) h = (h.0, all_unmap P f xs h.1)

  pub all_flat_map : (P : Y → Type 0) (Q : X → Type 0) (f : X → List Y) → ((x : X) → Q x → AllByRecursion P (f x)) → (xs : List X) → AllByRecursion Q xs → AllByRecursion P (flat_map f xs)
  all_flat_map P Q f each [] h = tt
  all_flat_map P Q f each (x ∷ xs) h = all_append P (f x) (flat_map f xs) (each x h.0) (all_flat_map P Q f each xs h.1)

  pub among_map : (f : X → Y) (xs : List X) (x : X) → Contains xs x → Among (f x) (map f xs)
  among_map f [] x (k, lt, e) = absurd (omega (arith, lt))
  among_map f (y ∷ ys) x (zero, lt, e) = inl (ap f (sym e))
  among_map f (y ∷ ys) x (suc k, lt, e) = inr (among_map f ys x (k, omega (arith, lt), e))

module _ {X : Type 0} (P : X → Type 0) where
  pub each_from_all : (xs : List X) → AllByRecursion P xs → (x : X) → Contains xs x → P x
  each_from_all [] h x (k, lt, e) = absurd (omega (arith, lt))
  each_from_all (y ∷ ys) h x (zero, lt, e) = subst P e h.0
  each_from_all (y ∷ ys) h x (suc k, lt, e) = each_from_all ys h.1 x (k, omega (arith, lt), e)

  pub all_from_each : (xs : List X) → ((x : X) → Contains xs x → P x) → AllByRecursion P xs
  all_from_each [] each = tt
  all_from_each (y ∷ ys) each = (each y (0, omega arith, refl), all_from_each ys (λ x h. each x (suc h.0, omega (arith, h.1), h.2)))

pub all_same : {X : Type 0} (P Q : X → Type 0) → ((x : X) → P x → Q x) → (xs : List X) → AllByRecursion P xs → AllByRecursion Q xs
all_same P Q f [] h = tt
all_same P Q f (x ∷ xs) h = (f x h.0, all_same P Q f xs h.1)

pub all_filter : {X : Type 0} (P : X → Type 0) (test : X → Bool) (xs : List X) → AllByRecursion P xs → AllByRecursion P (filter test xs)
all_filter P test [] h = tt
all_filter P test (x ∷ xs) h = of_test (test x) (all_filter P test xs h.1)
  where
    of_test : (b : Bool) → AllByRecursion P (filter test xs) → AllByRecursion P (cond b (x ∷ filter test xs) (filter test xs))
    of_test true rest = (h.0, rest)
    of_test false rest = rest

pub all_map : {X Y : Type 0} (P : Y → Type 0) (f : X → Y) (xs : List X) → AllByRecursion (λ x. P (f x)) xs → AllByRecursion P (map f xs)
all_map P f [] h = tt
all_map P f (x ∷ xs) h = (h.0, all_map P f xs h.1)

-- one more element of a list is turned into another, in its place
turned_at : {X : Type 0} (f : X → X) (xs : List X) (i : ℕ) (d y : X) → i < length xs → y ≡ f (get_or (map f (take i xs) ++ drop i xs) i d)
    → set (map f (take i xs) ++ drop i xs) i y ≡ map f (take (i + 1) xs) ++ drop (i + 1) xs
turned_at f [] i d y lt is = absurd (omega (arith, lt))
turned_at f (x ∷ xs) zero d y lt is = ap (λ z. z ∷ xs) is
turned_at f (x ∷ xs) (suc i) d y lt is =
    let one : suc i + 1 ≡ suc (i + 1) = omega arith in
    ap (λ l. f x ∷ l) (turned_at f xs i d y (omega (arith, lt)) is) ∙ ap (λ (n : ℕ). map f (take n (x ∷ xs)) ++ drop n (x ∷ xs)) (sym one)

pub turned : {X : Type 0} (f : X → X) (xs items : List X) (i : ℕ) (d y : X) → i < length xs → items ≡ map f (take i xs) ++ drop i xs → y ≡ f (get_or items i d)
    → set items i y ≡ map f (take (i + 1) xs) ++ drop (i + 1) xs
turned f xs items i d y lt are is =
    ap (λ l. set l i y) are ∙ turned_at f xs i d y lt (is ∙ ap (λ l. f (get_or l i d)) are)
