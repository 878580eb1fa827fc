-- Two lists, one element of the one for each of the other.
use Rattle.std.proofs.Common.{◌≡◌, ℕ, zero, suc, List, [], ◌∷◌, length, Some, slice_get, refl, ap, subst, arith}
use Rattle.std.specs.List.{AllZip}

pub zip_at : {A B : Type 0} (R : A → B → Type 0) (xs : List A) (ys : List B) (n : ℕ) (x : A) → AllZip R xs ys → slice_get xs n ≡ Some x → (y : B) × (slice_get ys n ≡ Some y) × R x y
zip_at R [] ys n x h is = absurd cc
zip_at R (a ∷ xs) [] n x h is = absurd h
zip_at R (a ∷ xs) (b ∷ ys) zero x h is = let same : a ≡ x = cc in (b, refl, subst (λ z. R z b) same h.0)
zip_at R (a ∷ xs) (b ∷ ys) (suc n) x h is = zip_at R xs ys n x h.1 is

pub zip_back : {A B : Type 0} (R : A → B → Type 0) (xs : List A) (ys : List B) (n : ℕ) (y : B) → AllZip R xs ys → slice_get ys n ≡ Some y → (x : A) × (slice_get xs n ≡ Some x) × R x y
zip_back R [] [] n y h is = absurd cc
zip_back R [] (b ∷ ys) n y h is = absurd h
zip_back R (a ∷ xs) [] n y h is = absurd h
zip_back R (a ∷ xs) (b ∷ ys) zero y h is = let same : b ≡ y = cc in (a, refl, subst (λ z. R a z) same h.0)
zip_back R (a ∷ xs) (b ∷ ys) (suc n) y h is = zip_back R xs ys n y h.1 is

pub zip_length : {A B : Type 0} (R : A → B → Type 0) (xs : List A) (ys : List B) → AllZip R xs ys → length ys ≡ length xs
zip_length R [] [] h = refl
zip_length R [] (b ∷ ys) h = absurd h
zip_length R (a ∷ xs) [] h = absurd h
zip_length R (a ∷ xs) (b ∷ ys) h = ap suc (zip_length R xs ys h.1)

-- from what holds at each place
pub zip_from : {A B : Type 0} (R : A → B → Type 0) (xs : List A) (ys : List B) → length ys ≡ length xs
    → ((n : ℕ) (x : A) (y : B) → slice_get xs n ≡ Some x → slice_get ys n ≡ Some y → R x y) → AllZip R xs ys
zip_from R [] [] long each = tt
zip_from R [] (b ∷ ys) long each = absurd (omega arith)
zip_from R (a ∷ xs) [] long each = absurd (omega arith)
zip_from R (a ∷ xs) (b ∷ ys) long each = (each zero a b refl refl, zip_from R xs ys (omega arith) (λ n x y at_x at_y. each (suc n) x y at_x at_y))
