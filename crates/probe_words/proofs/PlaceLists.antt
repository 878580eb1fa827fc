-- Elements of lists, and copies.
use Rattle.std.proofs.Common.{◌≡◌, ℕ, zero, suc, ◌+◌, ◌≤◌, ◌<◌, Bool, true, false, List, [], ◌∷◌, ◌++◌, ◌⊎◌, inl, inr, refl, ap, arith, length, get_or, ◌&&◌, ◌||◌}
use Rattle.probe_words.specs.MarkedLetters.{IsAmong}
use Rattle.probe_words.specs.Core.{list_if, count_if, positions_from, IsCopy}

pub among_front : {X : Type 0} (x : X) (xs ys : List X) → IsAmong x xs → IsAmong x (xs ++ ys)
among_front x [] ys h = absurd h
among_front x (y ∷ xs) ys (inl e) = inl e
among_front x (y ∷ xs) ys (inr h) = inr (among_front x xs ys h)

pub among_back : {X : Type 0} (x : X) (xs ys : List X) → IsAmong x ys → IsAmong x (xs ++ ys)
among_back x [] ys h = h
among_back x (y ∷ xs) ys h = inr (among_back x xs ys h)

pub among_either : {X : Type 0} (x : X) (xs ys : List X) → IsAmong x (xs ++ ys) → IsAmong x xs ⊎ IsAmong x ys
among_either x [] ys h = inr h
among_either x (y ∷ xs) ys (inl e) = inl (inl e)
among_either x (y ∷ xs) ys (inr h) = elim (among_either x xs ys h) [ inl a ↦ inl (inr a) | inr b ↦ inr b ]

pub among_only_if : (b : Bool) (x : ℕ) (xs : List ℕ) → IsAmong x (list_if b xs) → (b ≡ true) × IsAmong x xs
among_only_if true x xs h = (refl, h)
among_only_if false x xs h = absurd h

pub only_if_among : (b : Bool) (x : ℕ) (xs : List ℕ) → b ≡ true → IsAmong x xs → IsAmong x (list_if b xs)
only_if_among true x xs e h = h
only_if_among false x xs e h = cc

pub length-only_if : (b : Bool) (xs : List ℕ) → length (list_if b xs) ≡ count_if b (length xs)
length-only_if true xs = refl
length-only_if false xs = refl

pub length-places : (from n : ℕ) → length (positions_from from n) ≡ n
length-places from zero = refl
length-places from (suc n) = ap suc (length-places (suc from) n)

pub among_places : (from n c : ℕ) → IsAmong c (positions_from from n) → (from ≤ c) × (c < from + n)
among_places from zero c h = absurd h
among_places from (suc n) c (inl e) = (omega arith, omega arith)
among_places from (suc n) c (inr h) =
    let p : (suc from ≤ c) × (c < suc from + n) = among_places (suc from) n c h in (omega arith, omega arith)

-- a copy is a copy of an element, and is one of their places
pub copy_original : (xs : List ℕ) (from c x : ℕ) → IsCopy xs from c x → IsAmong x xs
copy_original [] from c x h = h
copy_original (y ∷ ys) from c x (inl e) = inl e.1
copy_original (y ∷ ys) from c x (inr h) = inr (copy_original ys (suc from) c x h)

pub copy_place : (xs : List ℕ) (from n c x : ℕ) → length xs ≡ n → IsCopy xs from c x → IsAmong c (positions_from from n)
copy_place [] from n c x e h = absurd h
copy_place (y ∷ ys) from zero c x e h = absurd (omega arith)
copy_place (y ∷ ys) from (suc n) c x e (inl p) = inl p.0
copy_place (y ∷ ys) from (suc n) c x e (inr h) = inr (copy_place ys (suc from) n c x (omega arith) h)

pub copied_place : (xs : List ℕ) (from n c : ℕ) → length xs ≡ n → IsAmong c (positions_from from n) → (x : ℕ) × IsCopy xs from c x
copied_place xs from zero c e h = absurd h
copied_place [] from (suc n) c e h = absurd (omega arith)
copied_place (y ∷ ys) from (suc n) c e (inl p) = (y, inl (p, refl))
copied_place (y ∷ ys) from (suc n) c e (inr h) =
    let r : (x : ℕ) × IsCopy ys (suc from) c x = copied_place ys (suc from) n c (omega arith) h in (r.0, inr r.1)

pub copied_original : (xs : List ℕ) (from x : ℕ) → IsAmong x xs → (c : ℕ) × IsCopy xs from c x
copied_original [] from x h = absurd h
copied_original (y ∷ ys) from x (inl e) = (from, inl (refl, e))
copied_original (y ∷ ys) from x (inr h) =
    let r : (c : ℕ) × IsCopy ys (suc from) c x = copied_original ys (suc from) x h in (r.0, inr r.1)

pub both_true : (a b : Bool) → (a && b) ≡ true → (a ≡ true) × (b ≡ true)
both_true true true e = (refl, refl)
both_true true false e = cc
both_true false b e = cc

pub true_both : (a b : Bool) → a ≡ true → b ≡ true → (a && b) ≡ true
true_both true b e f = f
true_both false b e f = cc

pub either_true : (a b : Bool) → (a || b) ≡ true → (a ≡ true) ⊎ (b ≡ true)
either_true true b e = inl refl
either_true false b e = inr e

pub true_left : (a b : Bool) → a ≡ true → (a || b) ≡ true
true_left true b e = refl
true_left false b e = cc

pub true_right : (a b : Bool) → b ≡ true → (a || b) ≡ true
true_right true b e = refl
true_right false b e = e

copy_from : (xs : List ℕ) (from c x : ℕ) → IsCopy xs from c x → from ≤ c
copy_from [] from c x h = absurd h
copy_from (y ∷ ys) from c x (inl e) = omega arith
copy_from (y ∷ ys) from c x (inr h) = let p : suc from ≤ c = copy_from ys (suc from) c x h in omega arith

-- a position is the copy of one position
pub copy_one : (xs : List ℕ) (from c x z : ℕ) → IsCopy xs from c x → IsCopy xs from c z → x ≡ z
copy_one [] from c x z g h = absurd g
copy_one (y ∷ ys) from c x z (inl e) (inl d) = cc
copy_one (y ∷ ys) from c x z (inl e) (inr h) = absurd (let p : suc from ≤ c = copy_from ys (suc from) c z h in omega arith)
copy_one (y ∷ ys) from c x z (inr h) (inl e) = absurd (let p : suc from ≤ c = copy_from ys (suc from) c x h in omega arith)
copy_one (y ∷ ys) from c x z (inr g) (inr h) = copy_one ys (suc from) c x z g h

pub among_index : {X : Type 0} (xs : List X) (i : ℕ) (d : X) → i < length xs → IsAmong (get_or xs i d) xs
among_index [] i d h = absurd (omega arith)
among_index (x ∷ xs) zero d h = inl refl
among_index (x ∷ xs) (suc i) d h = inr (among_index xs i d (omega arith))
