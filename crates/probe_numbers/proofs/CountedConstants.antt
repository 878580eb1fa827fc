-- The counted constants: each once, each there, and the places of them.
use Rattle.std.proofs.Common.{◌≡◌, ℕ, suc, ◌+◌, ◌^◌, ◌<◌, ◌≤◌, ◌||◌, Bool, true, false, cond, if◌then◌else◌, nat_eq, not, get_or, true≢false, ◌≢◌, ◌⊎◌, eqb, eq-eqb, List, [], ◌∷◌, ◌++◌, map, length, Some, None, Result, Ok, Err, OnOk, inl, inr, refl, sym, ap, ◌∙◌, subst, arith}
use Rattle.std.specs.List.{list_any, position_or_len, IsDistinct}
use Rattle.std.specs.Cmp.{nat_eq_equiv}
use Rattle.std.proofs.lemmas.Bool.{lt-ltb, le-ltb}
use Rattle.std.proofs.lemmas.Bool.Decides.{eqb_tells}
use Rattle.std.proofs.lemmas.List.{map-append}
use Rattle.std.proofs.lemmas.List.Sums.{position_or_len_is}
use Rattle.std.proofs.lemmas.Map.Keys.{IsDistinct-push}
use Rattle.std.proofs.lemmas.Map.Steps.{length-le_from_distinct_below}
use Rattle.probe_words.specs.Guards.{AsksBelow}
use Rattle.probe_words.specs.MarkedLetters.{IsAmong}
use Rattle.probe_words.specs.ProbeTables.{is_among_by, with_new_by, by_first_places}
use Rattle.probe_words.proofs.PlaceLists.{among_front, among_back}
use Rattle.probe_automata.proofs.FirstPlaces.{by_first_places-append}
use Rattle.probe_automata.proofs.Hears.{among_once, same_numbers}
use Rattle.pepa_lexer.specs.declared.kinds.Token.{Token}
use Rattle.probe_reader.specs.ProbeTrees.{GuardNode, CountAt, BothOf, EitherOf, NotOf, ProbeNode, OneAt, ThenOf, OrOf, LabelOf, StarOf, PlusOf, MaybeOf, TimesOf, BetweenOf, ResetOf, GuardedOf}
use Rattle.probe_numbers.specs.NumberedProbes.{NameMeanings, number_given, constant_number, constants_in_guard, constants_in_probe, counted_in, place_in_counted, condition_in, pattern_with, GuardsAskBelow}

-- two lists of numbers one after the other
first_places_both : (f : ℕ → ℕ) (start now end left right : List ℕ) → now ≡ by_first_places nat_eq start (map f left) → end ≡ by_first_places nat_eq now (map f right) → end ≡ by_first_places nat_eq start (map f (left ++ right))
first_places_both f start now end left right h m =
    m ∙ ap (λ (z : List ℕ). by_first_places nat_eq z (map f right)) h ∙ sym (by_first_places-append nat_eq start (map f left) (map f right))
    ∙ ap (λ (z : List ℕ). by_first_places nat_eq start z) (sym (map-append f left right))

pub first_places_on_ok : {T E : Type 0} (r : Result T E) (f : ℕ → ℕ) (start now end left right : List ℕ) → now ≡ by_first_places nat_eq start (map f left) → OnOk r (end ≡ by_first_places nat_eq now (map f right)) → OnOk r (end ≡ by_first_places nat_eq start (map f (left ++ right)))
first_places_on_ok (Ok value) f start now end left right h m = first_places_both f start now end left right h m
first_places_on_ok (Err error) f start now end left right h m = m

-- ---- each once

none_distinct : IsDistinct eqb []
unfolding IsDistinct
none_distinct = tt

among_is : (x : ℕ) (xs : List ℕ) → is_among_by nat_eq x xs ≡ list_any (eqb x) xs
among_is x [] = refl
among_is x (y ∷ ys) = ap (λ (b : Bool). eqb x y || b) (among_is x ys)

pub once_each : (done xs : List ℕ) → IsDistinct eqb done → IsDistinct eqb (by_first_places nat_eq done xs)
once_each done [] h = h
once_each done (x ∷ xs) h = once_each (with_new_by nat_eq done x) xs (one_more (is_among_by nat_eq x done) refl)
  where
    one_more : (b : Bool) → is_among_by nat_eq x done ≡ b → IsDistinct eqb (if b then done else done ++ x ∷ [])
    one_more true e = h
    one_more false e = IsDistinct-push nat_eq_equiv done x h (sym (among_is x done) ∙ e)

-- ---- places

among_map : (f : ℕ → ℕ) (xs : List ℕ) (x : ℕ) → IsAmong x xs → IsAmong (f x) (map f xs)
among_map f [] x h = absurd h
among_map f (y ∷ xs) x (inl e) = inl (ap f e)
among_map f (y ∷ xs) x (inr h) = inr (among_map f xs x h)

found_before_end : (x : ℕ) (xs : List ℕ) → IsAmong x xs → position_or_len (nat_eq x) xs < length xs
found_before_end x [] h = absurd h
found_before_end x (y ∷ ys) (inl e) = subst (λ (b : Bool). cond (not b) (1 + position_or_len (nat_eq x) ys) 0 < suc (length ys)) (sym (eq-eqb x y e)) (omega arith)
found_before_end x (y ∷ ys) (inr h) = by_first (nat_eq x y) (found_before_end x ys h)
  where
    by_first : (b : Bool) → position_or_len (nat_eq x) ys < length ys → cond (not b) (1 + position_or_len (nat_eq x) ys) 0 < suc (length ys)
    by_first true l = omega arith
    by_first false l = omega arith

-- a number that passes has the place of the first that passes
pub placed : (x : ℕ) (xs : List ℕ) → position_or_len (nat_eq x) xs < length xs → place_in_counted xs x ≡ position_or_len (nat_eq x) xs
placed x xs l = ap (λ (b : Bool). number_given (cond b (Some (position_or_len (nat_eq x) xs)) None)) (lt-ltb (position_or_len (nat_eq x) xs) (length xs) l)

place_below : (x : ℕ) (xs : List ℕ) → IsAmong x xs → place_in_counted xs x < length xs
place_below x xs h =
    let l : position_or_len (nat_eq x) xs < length xs = found_before_end x xs h in
    let e : place_in_counted xs x ≡ position_or_len (nat_eq x) xs = placed x xs l in
    omega arith

not_like : (x y : ℕ) → ¬ (x ≡ y) → nat_eq x y ≡ false
not_like x y other = elim (eqb_tells x y) [ inl same ↦ absurd (other same.1) | inr apart ↦ apart.0 ]

-- the number at this place is the first that is like it
pub place_here : (x : ℕ) (xs : List ℕ) (at : ℕ) → at < length xs → ((k : ℕ) → k < at → ¬ (x ≡ get_or xs k 0)) → x ≡ get_or xs at 0 → at ≡ place_in_counted xs x
place_here x xs at less before here =
    let e : position_or_len (nat_eq x) xs ≡ at = position_or_len_is (nat_eq x) xs at 0 (omega arith) (λ k l. not_like x (get_or xs k 0) (before k l)) (λ _. eq-eqb x (get_or xs at 0) here) in
    sym e ∙ sym (placed x xs (omega arith))

-- a number that none is like has no place
pub place_nowhere : (x : ℕ) (xs : List ℕ) → ((k : ℕ) → k < length xs → ¬ (x ≡ get_or xs k 0)) → 0 ≡ place_in_counted xs x
place_nowhere x xs none =
    let e : position_or_len (nat_eq x) xs ≡ length xs = position_or_len_is (nat_eq x) xs (length xs) 0 (omega arith) (λ k l. not_like x (get_or xs k 0) (none k l)) (λ l. absurd (omega arith)) in
    ap (λ (b : Bool). number_given (cond b (Some (position_or_len (nat_eq x) xs)) None)) (sym (le-ltb (position_or_len (nat_eq x) xs) (length xs) (omega arith)))

-- ---- guards

guard_asks : (tokens : List Token) (names : NameMeanings) (counted : List ℕ) (g : GuardNode) → ((c : ℕ) → IsAmong c (constants_in_guard g) → place_in_counted counted (constant_number names c) < length counted) → AsksBelow (length counted) (condition_in tokens names counted g)
guard_asks tokens names counted (CountAt which relation number) h = h which (inl refl)
guard_asks tokens names counted (BothOf x y) h = (
  guard_asks tokens names counted x (λ c k. h c (among_front c (constants_in_guard x) (constants_in_guard y) k)),
  guard_asks tokens names counted y (λ c k. h c (among_back c (constants_in_guard x) (constants_in_guard y) k)),
)
guard_asks tokens names counted (EitherOf x y) h = (
  guard_asks tokens names counted x (λ c k. h c (among_front c (constants_in_guard x) (constants_in_guard y) k)),
  guard_asks tokens names counted y (λ c k. h c (among_back c (constants_in_guard x) (constants_in_guard y) k)),
)
guard_asks tokens names counted (NotOf x) h = guard_asks tokens names counted x h

probe_asks : (tokens : List Token) (names : NameMeanings) (counted : List ℕ) (node : ProbeNode) → ((c : ℕ) → IsAmong c (constants_in_probe node) → place_in_counted counted (constant_number names c) < length counted) → GuardsAskBelow (length counted) (pattern_with tokens names counted node)
probe_asks tokens names counted (OneAt at) h = tt
probe_asks tokens names counted (ThenOf x y) h = (
  probe_asks tokens names counted x (λ c k. h c (among_front c (constants_in_probe x) (constants_in_probe y) k)),
  probe_asks tokens names counted y (λ c k. h c (among_back c (constants_in_probe x) (constants_in_probe y) k)),
)
probe_asks tokens names counted (OrOf x y) h = (
  probe_asks tokens names counted x (λ c k. h c (among_front c (constants_in_probe x) (constants_in_probe y) k)),
  probe_asks tokens names counted y (λ c k. h c (among_back c (constants_in_probe x) (constants_in_probe y) k)),
)
probe_asks tokens names counted (LabelOf x name) h = probe_asks tokens names counted x h
probe_asks tokens names counted (StarOf x) h = probe_asks tokens names counted x h
probe_asks tokens names counted (PlusOf x) h = probe_asks tokens names counted x h
probe_asks tokens names counted (MaybeOf x) h = probe_asks tokens names counted x h
probe_asks tokens names counted (TimesOf x number) h = probe_asks tokens names counted x h
probe_asks tokens names counted (BetweenOf x least most) h = probe_asks tokens names counted x h
probe_asks tokens names counted (ResetOf x name) h = probe_asks tokens names counted x h
probe_asks tokens names counted (GuardedOf g x) h = (
  guard_asks tokens names counted g (λ c k. h c (among_front c (constants_in_guard g) (constants_in_probe x) k)),
  probe_asks tokens names counted x (λ c k. h c (among_back c (constants_in_guard g) (constants_in_probe x) k)),
)

-- the guards of a tree ask for the constants that are counted in it
pub asks_for_counted : (tokens : List Token) (names : NameMeanings) (node : ProbeNode) → GuardsAskBelow (length (counted_in names node)) (pattern_with tokens names (counted_in names node) node)
asks_for_counted tokens names node = probe_asks tokens names (counted_in names node) node (λ c k. place_below (constant_number names c) (counted_in names node) (among_once nat_eq same_numbers (map (constant_number names) (constants_in_probe node)) [] (constant_number names c) (among_map (constant_number names) (constants_in_probe node) c k)))

each_small : (xs : List ℕ) → ((k : ℕ) → k < length xs → get_or xs k 0 < 2 ^ 32) → (q : ℕ) → list_any (eqb q) xs ≡ true → q < 2 ^ 32
each_small [] h q e = absurd (true≢false (sym e))
each_small (x ∷ xs) h q e = by_first (eqb_tells q x) (each_small xs (λ k l. h (suc k) (omega arith)) q)
  where
    by_first : ((eqb q x ≡ true) × (q ≡ x)) ⊎ ((eqb q x ≡ false) × (q ≢ x)) → (list_any (eqb q) xs ≡ true → q < 2 ^ 32) → q < 2 ^ 32
    by_first (inl same) rest = subst (λ (z : ℕ). z < 2 ^ 32) (sym same.1) (h 0 (omega arith))
    by_first (inr other) rest = rest (subst (λ (b : Bool). (b || list_any (eqb q) xs) ≡ true) other.0 e)

-- distinct numbers of 32 bits are at most 2^32
pub few_distinct : (counted : List ℕ) → IsDistinct nat_eq counted → ((k : ℕ) → k < length counted → get_or counted k 0 < 2 ^ 32) → length counted ≤ 2 ^ 32
few_distinct counted distinct small = length-le_from_distinct_below counted (2 ^ 32) distinct (λ q there. each_small counted small q there)

-- each constant is counted once
pub counted_once : (names : NameMeanings) (node : ProbeNode) (counted : List ℕ) → counted ≡ counted_in names node → IsDistinct nat_eq counted
counted_once names node counted same = subst (IsDistinct nat_eq) (sym same) (once_each [] (map (constant_number names) (constants_in_probe node)) none_distinct)
