-- Reading elements of lists that grow.
use Rattle.std.proofs.Common.{◌≡◌, ℕ, zero, suc, ◌<◌, Bool, true, false, ◌||◌, List, [], ◌∷◌, ◌++◌, length, Option, Some, None, unwrap_or, ◌⊎◌, inl, inr, refl, sym, ap, ◌∙◌, slice_get, slice_index_or, arith}
use Rattle.std.specs.List.{list_any}

pub some_same : {X : Type 0} (x y : X) → Some x ≡ Some y → x ≡ y
some_same x y e = ap (λ o. unwrap_or o x) e

pub some_none : {X : Type 0} (x : X) → None ≡ Some x → ⊥
some_none x e = cc

pub true_or_false : (b : Bool) → (b ≡ true) ⊎ (b ≡ false)
true_or_false true = inl refl
true_or_false false = inr refl

pub one_read : {X : Type 0} (o : Option X) (x y : X) → o ≡ Some x → o ≡ Some y → x ≡ y
one_read o x y p q = some_same x y (sym p ∙ q)

pub read_more : {X : Type 0} (xs ys : List X) (i : ℕ) (x : X) → slice_get xs i ≡ Some x → slice_get (xs ++ ys) i ≡ Some x
read_more [] ys i x e = absurd (some_none x e)
read_more (z ∷ xs) ys zero x e = e
read_more (z ∷ xs) ys (suc i) x e = read_more xs ys i x e

pub read_last : {X : Type 0} (xs : List X) (x : X) → slice_get (xs ++ x ∷ []) (length xs) ≡ Some x
read_last [] x = refl
read_last (z ∷ xs) x = read_last xs x

pub read_cases : {X : Type 0} (xs : List X) (y : X) (i : ℕ) (x : X) → slice_get (xs ++ y ∷ []) i ≡ Some x → (slice_get xs i ≡ Some x) ⊎ ((i ≡ length xs) × (y ≡ x))
read_cases [] y zero x e = inr (refl, some_same y x e)
read_cases [] y (suc i) x e = absurd (some_none x e)
read_cases (z ∷ xs) y zero x e = inl e
read_cases (z ∷ xs) y (suc i) x e = elim (read_cases xs y i x e) [
  | inl before ↦ inl before
  | inr last ↦ inr (ap suc last.0, last.1)
]

pub read_within : {X : Type 0} (xs : List X) (i : ℕ) (x : X) → slice_get xs i ≡ Some x → i < length xs
read_within [] i x e = absurd (some_none x e)
read_within (z ∷ xs) zero x e = omega arith
read_within (z ∷ xs) (suc i) x e = let low = read_within xs i x e in omega arith

pub read_or : {X : Type 0} (xs : List X) (i : ℕ) (x d : X) → slice_get xs i ≡ Some x → slice_index_or xs i d ≡ x
read_or [] i x d e = absurd (some_none x e)
read_or (z ∷ xs) zero x d e = some_same z x e
read_or (z ∷ xs) (suc i) x d e = read_or xs i x d e

pub read_there : {X : Type 0} (xs : List X) (i : ℕ) → i < length xs → (x : X) × (slice_get xs i ≡ Some x)
read_there [] i low = absurd (omega (arith, low))
read_there (z ∷ xs) zero low = (z, refl)
read_there (z ∷ xs) (suc i) low = read_there xs i (omega (arith, low))

pub any_read : {X : Type 0} (test : X → Bool) (xs : List X) (i : ℕ) (x : X) → slice_get xs i ≡ Some x → test x ≡ true → list_any test xs ≡ true
any_read test [] i x e passes = absurd (some_none x e)
any_read test (z ∷ xs) zero x e passes = ap (λ b. b || list_any test xs) (ap test (some_same z x e) ∙ passes)
any_read test (z ∷ xs) (suc i) x e passes = or_true (test z) (list_any test xs) (any_read test xs i x e passes)
  where
    or_true : (b c : Bool) → c ≡ true → (b || c) ≡ true
    or_true true c p = refl
    or_true false c p = p
