-- Elements of lists.
use Rattle.std.proofs.Common.{◌≡◌, ℕ, zero, suc, ◌+◌, ◌<◌, ◌⊎◌, inl, inr, List, [], ◌∷◌, ◌++◌, map, get_or, take, Some, slice_get, refl, ◌∙◌, ap, subst, arith}
use Rattle.std.specs.List.{Contains}
use Rattle.std.proofs.lemmas.List.{take_more}
use Rattle.std.proofs.lemmas.Option.{slice_get_within, get_or_from_slice_get}
use Rattle.std.proofs.lemmas.List.Elements.{Contains-append_left, Contains-append_right, Contains-append_cases}

pub no_element : {X : Type 0} (x : X) → Contains [] x → ⊥
no_element x h = let lt : h.0 < 0 = h.1 in omega arith

pub one_element : {X : Type 0} (y x : X) → Contains (y ∷ []) x → y ≡ x
one_element y x (k, within, is) = by k within is
  where
    by : (k : ℕ) → k < 1 → get_or (y ∷ []) k x ≡ x → y ≡ x
    by zero within is = is
    by (suc k) within is = absurd (omega arith)

pub contains_one : {X : Type 0} (x : X) → Contains (x ∷ []) x
contains_one x = (0, omega arith, refl)

pub contains_here : {X : Type 0} (x : X) (xs : List X) → Contains (x ∷ xs) x
contains_here x xs = Contains-append_left (x ∷ []) xs x (contains_one x)

pub contains_there : {X : Type 0} (x : X) (xs : List X) (y : X) → Contains xs y → Contains (x ∷ xs) y
contains_there x xs y h = Contains-append_right (x ∷ []) xs y h

pub contains_cases : {X : Type 0} (x : X) (xs : List X) (y : X) → Contains (x ∷ xs) y → (x ≡ y) ⊎ Contains xs y
contains_cases x xs y h = elim (Contains-append_cases (x ∷ []) xs y h) [ inl here ↦ inl (one_element x y here) | inr there ↦ inr there ]

pub contains_map_from : {X Y : Type 0} (f : X → Y) (xs : List X) (y : Y) → Contains (map f xs) y → (x : X) × Contains xs x × (f x ≡ y)
contains_map_from f [] y h = absurd (no_element y h)
contains_map_from f (x ∷ xs) y h =
    elim (contains_cases (f x) (map f xs) y h) [
      | inl e ↦ (x, contains_here x xs, e)
      | inr there ↦ let more = contains_map_from f xs y there in (more.0, contains_there x xs more.0 more.1, more.2)
    ]

pub contains_map_to : {X Y : Type 0} (f : X → Y) (xs : List X) (x : X) → Contains xs x → Contains (map f xs) (f x)
contains_map_to {X} {Y} f [] x h = absurd (no_element x h)
contains_map_to {X} {Y} f (z ∷ xs) x h =
    elim (contains_cases z xs x h) [
      | inl e ↦ subst (λ (w : X). Contains (f z ∷ map f xs) (f w)) e (contains_here (f z) (map f xs))
      | inr there ↦ contains_there (f z) (map f xs) (f x) (contains_map_to f xs x there)
    ]

pub contains_from_get : {X : Type 0} → (xs : List X) (k : ℕ) (x : X) → slice_get xs k ≡ Some x → Contains xs x
contains_from_get xs k x is = (k, slice_get_within xs k x is, get_or_from_slice_get xs k x x is)

pub take_next : {X : Type 0} → (xs : List X) (i : ℕ) (x : X) → slice_get xs i ≡ Some x → take (i + 1) xs ≡ take i xs ++ x ∷ []
take_next xs i x read = take_more xs i x (slice_get_within xs i x read) ∙ ap (λ y. take i xs ++ y ∷ []) (get_or_from_slice_get xs i x x read)
