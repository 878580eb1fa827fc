-- Distinct things whose numbers stand in the order of their first places are the things that the numbers stand for, each once
-- at its first place.
use Rattle.std.proofs.Common.{◌≡◌, ℕ, zero, suc, ◌+◌, ◌<◌, Bool, true, false, cond, not, nat_eq, List, [], ◌∷◌, map, length, get_or, Some, slice_get, bytes_eq, inl, inr, refl, sym, ap, ◌∙◌, subst, arith}
use Rattle.std.specs.Bool.{Decides}
use Rattle.std.specs.List.{range_with_len}
use Rattle.std.proofs.lemmas.Bool.{false≢true}
use Rattle.std.proofs.lemmas.Bool.Decides.{Decides-eqb}
use Rattle.std.proofs.lemmas.Slice.Eq.{bytes_eq-Decides}
use Rattle.std.proofs.lemmas.Option.{slice_get-get_or}
use Rattle.pepa_model.specs.Derivation.{Among}
use Rattle.pepa_model.specs.Leaves.{without, each_once}
use Rattle.pepa_model.specs.PepaModel.{AreDistinct, AreByFirstPlaces}
use Rattle.pepa_model.proofs.DistinctLeaves.{one_place}
use Rattle.pepa_resolver.specs.Numbers.{first_places, place_in}
use Rattle.node_orders.proofs.Elements.{contains_from_get}
use Rattle.pepa_resolver.proofs.NumberMeanings.{place_stands}

-- ---- each thing once

module _ {X : Type 0} (same : X → X → Bool) (decides : (x y : X) → Decides (same x y) (x ≡ y)) where
  left_among : (x z : X) (ys : List X) → Among z (without same x ys) → Among z ys
  left_among x z [] h = h
  left_among x z (y ∷ ys) h = by (same x y) h (left_among x z ys)
    where
      by : (b : Bool) → Among z (cond (not b) (y ∷ without same x ys) (without same x ys)) → (Among z (without same x ys) → Among z ys) → Among z (y ∷ ys)
      by true h rest = inr (rest h)
      by false (inl is) rest = inl is
      by false (inr h) rest = inr (rest h)

  pub once_among : (z : X) (xs : List X) → Among z (each_once same xs) → Among z xs
  once_among z [] h = h
  once_among z (x ∷ xs) (inl is) = inl is
  once_among z (x ∷ xs) (inr h) = inr (once_among z xs (left_among x z (each_once same xs) h))

  left_keeps : (x z : X) (ys : List X) → ¬ (x ≡ z) → Among z ys → Among z (without same x ys)
  left_keeps x z [] apart h = absurd h
  left_keeps x z (y ∷ ys) apart h = by (same x y) refl h (left_keeps x z ys apart)
    where
      by : (b : Bool) → same x y ≡ b → Among z (y ∷ ys) → (Among z ys → Among z (without same x ys)) → Among z (cond (not b) (y ∷ without same x ys) (without same x ys))
      by true e (inl is) rest = absurd (apart ((decides x y).0 e ∙ sym is))
      by true e (inr h) rest = rest h
      by false e (inl is) rest = inl is
      by false e (inr h) rest = inr (rest h)

  pub among_once : (z : X) (xs : List X) → Among z xs → Among z (each_once same xs)
  among_once z [] h = h
  among_once z (x ∷ xs) (inl is) = inl is
  among_once z (x ∷ xs) (inr h) = by (same x z) refl (among_once z xs h)
    where
      by : (b : Bool) → same x z ≡ b → Among z (each_once same xs) → Among z (x ∷ without same x (each_once same xs))
      by true e there = inl (sym ((decides x z).0 e))
      by false e there = inr (left_keeps x z (each_once same xs) (λ is. false≢true (sym e ∙ (decides x z).1 is)) there)

range_below : (from count a : ℕ) → Among a (range_with_len from count) → a < from + count
range_below from zero a h = absurd h
range_below from (suc count) a (inl is) = omega arith
range_below from (suc count) a (inr h) = let lt = range_below (from + 1) count a h in omega arith

-- numbers that stand by their first places are below so many
pub numbered_below : (numbers : List ℕ) (count a : ℕ) → AreByFirstPlaces numbers count → Among a numbers → a < count
numbered_below numbers count a by_place h =
    let once = among_once nat_eq Decides-eqb a numbers h in
    let below = range_below 0 count a (subst (λ (list : List ℕ). Among a list) by_place once) in
    omega arith

-- ---- things in place of numbers

-- each thing once is each number once, where no two of these numbers stand for one thing
module _ {X : Type 0} (same : X → X → Bool) (decides : (x y : X) → Decides (same x y) (x ≡ y)) (f : ℕ → X) (count : ℕ) (apart : (i j : ℕ) → i < count → j < count → f i ≡ f j → i ≡ j) where
  abbrev AreKnown : List ℕ → Type 0
  AreKnown numbers = (a : ℕ) → Among a numbers → a < count

  same_test : (n k : ℕ) → n < count → k < count → same (f n) (f k) ≡ nat_eq n k
  same_test n k lt less = by (same (f n) (f k)) (nat_eq n k) refl refl
    where
      by : (b c : Bool) → same (f n) (f k) ≡ b → nat_eq n k ≡ c → b ≡ c
      by true true e h = refl
      by false false e h = refl
      by true false e h = sym (sym h ∙ (Decides-eqb n k).1 (apart n k lt less ((decides (f n) (f k)).0 e)))
      by false true e h = sym e ∙ (decides (f n) (f k)).1 (ap f ((Decides-eqb n k).0 h))

  without_mapped : (n : ℕ) (numbers : List ℕ) → n < count → AreKnown numbers → without same (f n) (map f numbers) ≡ map f (without nat_eq n numbers)
  without_mapped n [] lt known = refl
  without_mapped n (k ∷ numbers) lt known =
      by (same (f n) (f k)) (nat_eq n k) (same_test n k lt (known k (inl refl))) (without_mapped n numbers lt (λ a h. known a (inr h)))
    where
      by : (b c : Bool) → b ≡ c → without same (f n) (map f numbers) ≡ map f (without nat_eq n numbers)
          → cond (not b) (f k ∷ without same (f n) (map f numbers)) (without same (f n) (map f numbers)) ≡ map f (cond (not c) (k ∷ without nat_eq n numbers) (without nat_eq n numbers))
      by true true e rest = rest
      by false false e rest = ap (λ (list : List X). f k ∷ list) rest
      by true false e rest = absurd (false≢true (sym e))
      by false true e rest = absurd (false≢true e)

  pub once_mapped : (numbers : List ℕ) → AreKnown numbers → each_once same (map f numbers) ≡ map f (each_once nat_eq numbers)
  once_mapped [] known = refl
  once_mapped (n ∷ numbers) known =
      let lt = known n (inl refl) in
      ap (λ (list : List X). f n ∷ without same (f n) list) (once_mapped numbers (λ a h. known a (inr h)))
      ∙ ap (λ (list : List X). f n ∷ list) (without_mapped n (each_once nat_eq numbers) lt (λ a h. known a (inr (once_among nat_eq Decides-eqb a numbers h))))

-- ---- the elements of a list, by their places

module _ {X : Type 0} where
  range_mapped : (g : ℕ → X) (d : X) (from : ℕ) (xs : List X) → ((i : ℕ) → i < length xs → g (from + i) ≡ get_or xs i d) → map g (range_with_len from (length xs)) ≡ xs
  range_mapped g d from [] is = refl
  range_mapped g d from (x ∷ xs) is =
      ap (λ (y : X). y ∷ map g (range_with_len (from + 1) (length xs))) (first (from + 0) (omega arith) (is 0 (omega arith)))
      ∙ ap (λ (list : List X). x ∷ list) (range_mapped g d (from + 1) xs (λ i lt. next i (from + suc i) (omega arith) (is (suc i) (omega arith))))
    where
      first : (k : ℕ) → k ≡ from → g k ≡ x → g from ≡ x
      first k e h = subst (λ (n : ℕ). g n ≡ x) e h

      next : (i k : ℕ) → k ≡ from + 1 + i → g k ≡ get_or xs i d → g (from + 1 + i) ≡ get_or xs i d
      next i k e h = subst (λ (n : ℕ). g n ≡ get_or xs i d) e h

  -- distinct elements stand at one place each
  pub distinct_places : (xs : List X) (d : X) (i j : ℕ) → AreDistinct xs → i < length xs → j < length xs → get_or xs i d ≡ get_or xs j d → i ≡ j
  distinct_places xs d i j distinct lt less e =
      one_place xs i j (get_or xs i d) distinct (slice_get-get_or xs i d lt) (slice_get-get_or xs j d less ∙ ap (λ (x : X). Some x) (sym e))

  -- numbers that stand by their first places, with the things in place of the numbers: each thing once is the list of them
  pub once_whole : (same : X → X → Bool) (decides : (x y : X) → Decides (same x y) (x ≡ y)) (d : X) (xs : List X) (numbers : List ℕ) → AreDistinct xs → AreByFirstPlaces numbers (length xs)
      → each_once same (map (λ n. get_or xs n d) numbers) ≡ xs
  once_whole same decides d xs numbers distinct by_place =
      once_mapped same decides (λ n. get_or xs n d) (length xs) (λ i j lt less e. distinct_places xs d i j distinct lt less e) numbers (λ a h. numbered_below numbers (length xs) a by_place h)
      ∙ ap (map (λ n. get_or xs n d)) by_place
      ∙ range_mapped (λ n. get_or xs n d) d 0 xs (λ i lt. ap (λ (n : ℕ). get_or xs n d) (plus i))
    where
      plus : (i : ℕ) → 0 + i ≡ i
      plus i = omega arith

-- ---- lists of bytes

-- distinct lists whose numbers stand by their first places are those that stand for the numbers, at their first places
pub first_places_are : (names : List (List ℕ)) (numbers : List ℕ) → AreDistinct names → AreByFirstPlaces numbers (length names) → first_places (map (λ n. get_or names n []) numbers) ≡ names
first_places_are names numbers distinct by_place =
    once_whole bytes_eq bytes_eq-Decides [] names numbers distinct by_place

-- the place of one of them is its number
pub place_at : (names : List (List ℕ)) (n : ℕ) (name : List ℕ) → AreDistinct names → slice_get names n ≡ Some name → place_in names name ≡ n
place_at names n name distinct at = one_place names (place_in names name) n name distinct (place_stands name names (contains_from_get names n name at)) at

pub place_found : (names : List (List ℕ)) (n : ℕ) → AreDistinct names → n < length names → place_in names (get_or names n []) ≡ n
place_found names n distinct lt = place_at names n (get_or names n []) distinct (slice_get-get_or names n [] lt)
