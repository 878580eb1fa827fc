-- What stands in lists that are put together, mapped and filtered.
use Rattle.std.proofs.Common.{◌≡◌, zero, suc, Bool, true, false, List, [], ◌∷◌, ◌++◌, ◌⊎◌, map, cond, inl, inr, refl, sym, ap, subst, ◌∙◌, arith}
use Rattle.std.specs.List.{AllByRecursion, Contains, filter, flat_map}
use Rattle.std.proofs.lemmas.List.{map-append}
use Rattle.pepa_model.specs.Derivation.{Among}
use Rattle.pepa_model.proofs.TransitionLists.{Among-front, Among-back}

pub from_append : {X : Type 0} (x : X) (xs ys : List X) → Among x (xs ++ ys) → Among x xs ⊎ Among x ys
from_append x [] ys h = inr h
from_append x (y ∷ xs) ys (inl e) = inl (inl e)
from_append x (y ∷ xs) ys (inr h) = later (from_append x xs ys h)
  where
    later : Among x xs ⊎ Among x ys → Among x (y ∷ xs) ⊎ Among x ys
    later (inl k) = inl (inr k)
    later (inr k) = inr k

pub from_map : {X Y : Type 0} (f : X → Y) (y : Y) (xs : List X) → Among y (map f xs) → (x : X) × Among x xs × (y ≡ f x)
from_map f y [] h = absurd h
from_map f y (x ∷ xs) (inl e) = (x, inl refl, e)
from_map f y (x ∷ xs) (inr h) =
    let (z, among, is) = from_map f y xs h in
    (z, inr among, is)

first_kept : {X : Type 0} (b : Bool) (x y : X) (rest : List X) → b ≡ true → x ≡ y → Among x (cond b (y ∷ rest) rest)
first_kept true x y rest is same = inl same
first_kept false x y rest is same = absurd cc

later_kept : {X : Type 0} (b : Bool) (x y : X) (rest : List X) → Among x rest → Among x (cond b (y ∷ rest) rest)
later_kept true x y rest h = inr h
later_kept false x y rest h = h

pub Among-filter : {X : Type 0} (test : X → Bool) (x : X) (xs : List X) → Among x xs → test x ≡ true → Among x (filter test xs)
Among-filter test x [] h passes = absurd h
Among-filter test x (y ∷ ys) (inl e) passes = first_kept (test y) x y (filter test ys) (ap test (sym e) ∙ passes) e
Among-filter test x (y ∷ ys) (inr h) passes = later_kept (test y) x y (filter test ys) (Among-filter test x ys h passes)

from_kept : {X : Type 0} (b : Bool) (x y : X) (rest : List X) → Among x (cond b (y ∷ rest) rest) → ((b ≡ true) × (x ≡ y)) ⊎ Among x rest
from_kept true x y rest (inl e) = inl (refl, e)
from_kept true x y rest (inr h) = inr h
from_kept false x y rest h = inr h

pub from_filter : {X : Type 0} (test : X → Bool) (x : X) (xs : List X) → Among x (filter test xs) → Among x xs × (test x ≡ true)
from_filter test x [] h = absurd h
from_filter test x (y ∷ ys) h = of_cases (from_kept (test y) x y (filter test ys) h) (from_filter test x ys)
  where
    of_cases : ((test y ≡ true) × (x ≡ y)) ⊎ Among x (filter test ys) → (Among x (filter test ys) → Among x ys × (test x ≡ true)) → Among x (y ∷ ys) × (test x ≡ true)
    of_cases (inl (passes, same)) again = (inl same, ap test same ∙ passes)
    of_cases (inr later) again =
        let found = again later in
        (inr found.0, found.1)

pub Among-flat_map : {X Y : Type 0} (f : X → List Y) (y : Y) (x : X) (xs : List X) → Among x xs → Among y (f x) → Among y (flat_map f xs)
Among-flat_map f y x [] h k = absurd h
Among-flat_map f y x (z ∷ xs) (inl e) k = Among-front y (f z) (flat_map f xs) (subst (λ w. Among y (f w)) e k)
Among-flat_map f y x (z ∷ xs) (inr h) k = Among-back y (f z) (flat_map f xs) (Among-flat_map f y x xs h k)

pub from_flat_map : {X Y : Type 0} (f : X → List Y) (y : Y) (xs : List X) → Among y (flat_map f xs) → (x : X) × Among x xs × Among y (f x)
from_flat_map f y [] h = absurd h
from_flat_map f y (x ∷ xs) h = of_cases (from_append y (f x) (flat_map f xs) h) (from_flat_map f y xs)
  where
    of_cases : Among y (f x) ⊎ Among y (flat_map f xs) → (Among y (flat_map f xs) → (z : _) × Among z xs × Among y (f z)) → (z : _) × Among z (x ∷ xs) × Among y (f z)
    of_cases (inl here) again = (x, inl refl, here)
    of_cases (inr later) again =
        let (z, among, is) = again later in
        (z, inr among, is)

pub all_from : {X : Type 0} (P : X → Type 0) (xs : List X) → ((x : X) → Among x xs → P x) → AllByRecursion P xs
all_from P [] h = tt
all_from P (x ∷ xs) h = (h x (inl refl), all_from P xs (λ y among. h y (inr among)))

pub among_from_contains : {X : Type 0} (xs : List X) (x : X) → Contains xs x → Among x xs
among_from_contains [] x (k, below, is) = absurd (omega arith)
among_from_contains (y ∷ ys) x (zero, below, is) = inl (sym is)
among_from_contains (y ∷ ys) x (suc k, below, is) = inr (among_from_contains ys x (k, omega arith, is))

-- ---- a function that goes through

pub map_square : {X X' Y Y' : Type 0} (g : X → Y) (f : X' → X) (f' : Y' → Y) (g' : X' → Y') → ((x : X') → g (f x) ≡ f' (g' x)) → (xs : List X') → map g (map f xs) ≡ map f' (map g' xs)
map_square g f f' g' k [] = refl
map_square g f f' g' k (x ∷ xs) = ap (λ y. y ∷ map g (map f xs)) (k x) ∙ ap (λ l. f' (g' x) ∷ l) (map_square g f f' g' k xs)

map_kept : {X Y : Type 0} (g : X → Y) (b : Bool) (x : X) (rest : List X) → map g (cond b (x ∷ rest) rest) ≡ cond b (g x ∷ map g rest) (map g rest)
map_kept g true x rest = refl
map_kept g false x rest = refl

pub map_filter : {X Y : Type 0} (g : X → Y) (test : Y → Bool) (xs : List X) → map g (filter (λ x. test (g x)) xs) ≡ filter test (map g xs)
map_filter g test [] = refl
map_filter g test (x ∷ xs) =
    map_kept g (test (g x)) x (filter (λ x. test (g x)) xs) ∙ ap (λ l. cond (test (g x)) (g x ∷ l) l) (map_filter g test xs)

pub map_flat_map : {X Y X' Y' : Type 0} (g : Y → Y') (g' : X → X') (f : X → List Y) (f' : X' → List Y')
    → ((x : X) → map g (f x) ≡ f' (g' x)) → (xs : List X) → map g (flat_map f xs) ≡ flat_map f' (map g' xs)
map_flat_map g g' f f' k [] = refl
map_flat_map g g' f f' k (x ∷ xs) =
    map-append g (f x) (flat_map f xs) ∙ ap (λ l. l ++ map g (flat_map f xs)) (k x) ∙ ap (λ l. f' (g' x) ++ l) (map_flat_map g g' f f' k xs)

-- ---- what holds of each element

pub all_of_front : {X : Type 0} (P : X → Type 0) (xs ys : List X) → AllByRecursion P (xs ++ ys) → AllByRecursion P xs
all_of_front P [] ys h = tt
all_of_front P (x ∷ xs) ys h = (h.0, all_of_front P xs ys h.1)

pub all_of_back : {X : Type 0} (P : X → Type 0) (xs ys : List X) → AllByRecursion P (xs ++ ys) → AllByRecursion P ys
all_of_back P [] ys h = h
all_of_back P (x ∷ xs) ys h = all_of_back P xs ys h.1

pub all_of_map : {X Y : Type 0} (P : Y → Type 0) (f : X → Y) (xs : List X) → AllByRecursion P (map f xs) → AllByRecursion (λ x. P (f x)) xs
all_of_map P f [] h = tt
all_of_map P f (x ∷ xs) h = (h.0, all_of_map P f xs h.1)
