-- Numbers by first places: each new one is the next.
use Rattle.std.proofs.Common.{◌≡◌, ℕ, zero, suc, ◌+◌, ◌-◌, ◌<◌, ◌≤◌, Bool, true, false, cond, not, ◌&&◌, ◌||◌, nat_lt, nat_eq, List, [], ◌∷◌, ◌++◌, map, filter, length, Some, None, unwrap_or, bytes_eq, ◌⊎◌, inl, inr, refl, sym, ap, ◌∙◌, subst, arith, append_assoc, length-append}
use Rattle.std.specs.List.{Contains, list_any, position_or_len, range_with_len}
use Rattle.std.proofs.lemmas.Bool.Decides.{nat_tests}
use Rattle.std.proofs.lemmas.Slice.Eq.{bytes_eq-Decides}
use Rattle.pepa_model.specs.Leaves.{without, each_once}
use Rattle.pepa_resolver.specs.Named.{ascending_set}
use Rattle.pepa_resolver.specs.Numbers.{first_places, place_in}
use Rattle.pepa_resolver.specs.NumberSteps.{with_name, with_names}
use Rattle.node_orders.proofs.Elements.{no_element, contains_here, contains_there, contains_cases}
use Rattle.pepa_resolver.proofs.NumberNames.{with_name-there, with_name-new, append-nothing, names_together}
use Rattle.pepa_resolver.proofs.Ascending.{Ascends, set_ascends, set_has, set_no_more}

-- where the numbers below `from` are known, those of the list make known all below `to`: each is known, or the next one
abbrev pub Grows : ℕ → List ℕ → ℕ → Type 0
Grows from [] to = from ≡ to
Grows from (x ∷ xs) to = ((x < from) × Grows from xs to) ⊎ ((x ≡ from) × Grows (suc from) xs to)

pub grows_append : (from middle to : ℕ) (xs ys : List ℕ) → Grows from xs middle → Grows middle ys to → Grows from (xs ++ ys) to
grows_append from middle to [] ys e h = subst (λ (n : ℕ). Grows n ys to) (sym e) h
grows_append from middle to (x ∷ xs) ys (inl g) h = inl (g.0, grows_append from middle to xs ys g.1 h)
grows_append from middle to (x ∷ xs) ys (inr g) h = inr (g.0, grows_append (suc from) middle to xs ys g.1 h)

pub grows_split : (from to : ℕ) (xs ys : List ℕ) → Grows from (xs ++ ys) to → (middle : ℕ) × Grows from xs middle × Grows middle ys to
grows_split from to [] ys h = (from, refl, h)
grows_split from to (x ∷ xs) ys (inl g) = let rest = grows_split from to xs ys g.1 in (rest.0, inl (g.0, rest.1), rest.2)
grows_split from to (x ∷ xs) ys (inr g) = let rest = grows_split (suc from) to xs ys g.1 in (rest.0, inr (g.0, rest.1), rest.2)

grows_up : (from to : ℕ) (xs : List ℕ) → Grows from xs to → from ≤ to
grows_up from to [] e = omega arith
grows_up from to (x ∷ xs) (inl g) = grows_up from to xs g.1
grows_up from to (x ∷ xs) (inr g) = let le = grows_up (suc from) to xs g.1 in omega arith

pub grows_below : (from to : ℕ) (xs : List ℕ) → Grows from xs to → (x : ℕ) → Contains xs x → x < to
grows_below from to [] g x among = absurd (no_element x among)
grows_below from to (y ∷ xs) (inl g) x among =
    let le = grows_up from to xs g.1 in
    elim (contains_cases y xs x among) [ inl e ↦ omega arith | inr k ↦ grows_below from to xs g.1 x k ]
grows_below from to (y ∷ xs) (inr g) x among =
    let le = grows_up (suc from) to xs g.1 in
    elim (contains_cases y xs x among) [ inl e ↦ omega arith | inr k ↦ grows_below (suc from) to xs g.1 x k ]

-- each new number stands in the list
grows_has : (from to : ℕ) (xs : List ℕ) → Grows from xs to → (x : ℕ) → from ≤ x → x < to → Contains xs x
grows_has from to [] e x low high = absurd (omega arith)
grows_has from to (y ∷ xs) (inl g) x low high = contains_there y xs x (grows_has from to xs g.1 x low high)
grows_has from to (y ∷ xs) (inr g) x low high = by (nat_lt from x) refl (λ lt. grows_has (suc from) to xs g.1 x lt high)
  where
    by : (b : Bool) → nat_lt from x ≡ b → (suc from ≤ x → Contains xs x) → Contains (y ∷ xs) x
    by true e rest = let lt : from < x = grind (arith, nat_tests) in contains_there y xs x (rest (omega arith))
    by false e rest =
        let le : x ≤ from = grind (arith, nat_tests) in
        let same : y ≡ x = omega arith in
        subst (λ (z : ℕ). Contains (y ∷ xs) z) same (contains_here y xs)

-- ---- the numbers of a set in ascending order

ascending_grows : (from to : ℕ) (xs : List ℕ) → Ascends xs → from ≤ to → ((x : ℕ) → Contains xs x → x < to) → ((x : ℕ) → from ≤ x → x < to → Contains xs x) → Grows from xs to
ascending_grows from to [] up le below has = by (nat_lt from to) refl
  where
    by : (b : Bool) → nat_lt from to ≡ b → from ≡ to
    by true e = let lt : from < to = grind (arith, nat_tests) in absurd (no_element from (has from (omega arith) lt))
    by false e = let ge : to ≤ from = grind (arith, nat_tests) in omega arith
ascending_grows from to (x ∷ xs) up le below has = by (nat_lt x from) refl (λ next. ascending_grows next to xs up.1)
  where
    by : (b : Bool) → nat_lt x from ≡ b → ((next : ℕ) → next ≤ to → ((y : ℕ) → Contains xs y → y < to) → ((y : ℕ) → next ≤ y → y < to → Contains xs y) → Grows next xs to) → Grows from (x ∷ xs) to
    by true e rest =
        let lt : x < from = grind (arith, nat_tests) in
        inl (
          lt,
          rest from le (λ y among. below y (contains_there x xs y among))
              (λ y low high. elim (contains_cases x xs y (has y low high)) [ inl same ↦ absurd (omega arith) | inr k ↦ k ]),
        )
    by false e rest =
        let ge : from ≤ x = grind (arith, nat_tests) in
        let high : x < to = below x (contains_here x xs) in
        let same : x ≡ from = elim (contains_cases x xs from (has from (omega arith) (omega arith))) [ inl same ↦ same | inr k ↦ let lt = up.0 from k in absurd (omega arith) ] in
        inr (
          same,
          rest (suc from) (omega arith) (λ y among. below y (contains_there x xs y among))
              (λ y low lt. elim (contains_cases x xs y (has y (omega arith) lt)) [ inl is ↦ absurd (omega arith) | inr k ↦ k ]),
        )

-- a set makes known what its numbers as they are written make known
pub set_grows : (from to : ℕ) (xs : List ℕ) → Grows from xs to → Grows from (ascending_set xs) to
set_grows from to xs g =
    ascending_grows from to (ascending_set xs) (set_ascends xs) (grows_up from to xs g)
    (λ x among. grows_below from to xs g x (set_no_more xs x among))
    (λ x low high. set_has xs x (grows_has from to xs g x low high))

-- ---- each number once

abbrev from_on : ℕ → ℕ → Bool
from_on from y = not (nat_lt y from)

filter_twice : (p q r : ℕ → Bool) → ((y : ℕ) → p y && q y ≡ r y) → (xs : List ℕ) → filter p (filter q xs) ≡ filter r xs
filter_twice p q r same [] = refl
filter_twice p q r same (x ∷ xs) = by (p x) (q x) (r x) refl (same x) (filter_twice p q r same xs)
  where
    by : (a b c : Bool) → p x ≡ a → (a && b) ≡ c → filter p (filter q xs) ≡ filter r xs → filter p (cond b (x ∷ filter q xs) (filter q xs)) ≡ cond c (x ∷ filter r xs) (filter r xs)
    by true false true e h rest = absurd cc
    by true false false e h rest = rest
    by false false true e h rest = absurd cc
    by false false false e h rest = rest
    by true true true e h rest = ap (λ (d : Bool). cond d (x ∷ filter p (filter q xs)) (filter p (filter q xs))) e ∙ ap (λ (l : List ℕ). x ∷ l) rest
    by true true false e h rest = absurd cc
    by false true true e h rest = absurd cc
    by false true false e h rest = ap (λ (d : Bool). cond d (x ∷ filter p (filter q xs)) (filter p (filter q xs))) e ∙ rest

known_apart : (x from y : ℕ) → x < from → from_on from y && not (nat_eq x y) ≡ from_on from y
known_apart x from y lt = by (nat_lt y from) (nat_eq x y) refl refl
  where
    by : (a b : Bool) → nat_lt y from ≡ a → nat_eq x y ≡ b → not a && not b ≡ not a
    by true b e f = refl
    by false true e f = let same : x ≡ y = grind (arith, nat_tests) in let ge : from ≤ y = grind (arith, nat_tests) in absurd (omega arith)
    by false false e f = refl

next_apart : (x from y : ℕ) → x ≡ from → from_on from y && not (nat_eq x y) ≡ from_on (suc from) y
next_apart x from y is = by (nat_lt y from) (nat_eq x y) (nat_lt y (suc from)) refl refl refl
  where
    by : (a b c : Bool) → nat_lt y from ≡ a → nat_eq x y ≡ b → nat_lt y (suc from) ≡ c → not a && not b ≡ not c
    by true b true e f g = refl
    by true b false e f g = let lt : y < from = grind (arith, nat_tests) in let ge : suc from ≤ y = grind (arith, nat_tests) in absurd (omega arith)
    by false true true e f g = refl
    by false true false e f g = let same : x ≡ y = grind (arith, nat_tests) in let ge : suc from ≤ y = grind (arith, nat_tests) in absurd (omega arith)
    by false false true e f g =
        let lt : y < suc from = grind (arith, nat_tests) in
        let ge : from ≤ y = grind (arith, nat_tests) in
        let same : x ≡ y = omega arith in
        absurd (apart same)
      where
        apart : ¬ (x ≡ y)
        apart same = grind (arith, nat_tests)
    by false false false e f g = refl

-- those of the numbers from `from` on, each once, are the new ones in order
once_from : (from to : ℕ) (xs : List ℕ) → Grows from xs to → filter (from_on from) (each_once nat_eq xs) ≡ range_with_len from (to - from)
once_from from to [] e = let none : to - from ≡ zero = omega arith in ap (range_with_len from) (sym none)
once_from from to (x ∷ xs) (inl g) =
    let tested : from_on from x ≡ false = known x from g.0 in
    ap (λ (b : Bool). cond b (x ∷ filter (from_on from) (without nat_eq x (each_once nat_eq xs))) (filter (from_on from) (without nat_eq x (each_once nat_eq xs)))) tested
    ∙ filter_twice (from_on from) (λ y. not (nat_eq x y)) (from_on from) (λ y. known_apart x from y g.0) (each_once nat_eq xs)
    ∙ once_from from to xs g.1
  where
    known : (x from : ℕ) → x < from → from_on from x ≡ false
    known x from lt = let e : nat_lt x from ≡ true = grind (arith, nat_tests) in ap not e
once_from from to (x ∷ xs) (inr g) =
    let le = grows_up (suc from) to xs g.1 in
    let more : to - from ≡ suc (to - suc from) = omega arith in
    let tested : from_on from x ≡ true = next x from g.0 in
    ap (λ (b : Bool). cond b (x ∷ filter (from_on from) (without nat_eq x (each_once nat_eq xs))) (filter (from_on from) (without nat_eq x (each_once nat_eq xs)))) tested
    ∙ ap (λ (l : List ℕ). x ∷ l)
    (filter_twice (from_on from) (λ y. not (nat_eq x y)) (from_on (suc from)) (λ y. next_apart x from y g.0) (each_once nat_eq xs)
    ∙ once_from (suc from) to xs g.1)
    ∙ ap (λ (n : ℕ). n ∷ range_with_len (suc from) (to - suc from)) g.0
    ∙ ap (λ (n : ℕ). from ∷ range_with_len n (to - suc from)) (plus_one from)
    ∙ sym (ap (range_with_len from) more)
  where
    next : (x from : ℕ) → x ≡ from → from_on from x ≡ true
    next x from e = let apart : nat_lt x from ≡ false = grind (arith, nat_tests) in ap not apart

    plus_one : (n : ℕ) → suc n ≡ n + 1
    plus_one n = omega arith

filter_all : (xs : List ℕ) → filter (from_on zero) xs ≡ xs
filter_all [] = refl
filter_all (x ∷ xs) = ap (λ (b : Bool). cond b (x ∷ filter (from_on zero) xs) (filter (from_on zero) xs)) (every x) ∙ ap (λ (l : List ℕ). x ∷ l) (filter_all xs)
  where
    every : (x : ℕ) → from_on zero x ≡ true
    every x = let apart : nat_lt x zero ≡ false = grind (arith, nat_tests) in ap not apart

pub once_grown : (to : ℕ) (xs : List ℕ) → Grows zero xs to → each_once nat_eq xs ≡ range_with_len zero to
once_grown to xs g =
    let same : to - zero ≡ to = omega arith in
    sym (filter_all (each_once nat_eq xs)) ∙ once_from zero to xs g ∙ ap (range_with_len zero) same

-- ---- the places of names

abbrev Names : Type 0
Names = List (List ℕ)

-- names put behind others stand behind them
extends : (names more : Names) → (ext : Names) × (with_names names more ≡ names ++ ext)
extends names [] = ([], sym (append-nothing names))
extends names (name ∷ more) = by (list_any (bytes_eq name) names) refl (extends (with_name names name) more)
  where
    by : (b : Bool) → list_any (bytes_eq name) names ≡ b → (ext : Names) × (with_names (with_name names name) more ≡ with_name names name ++ ext) → (ext : Names) × (with_names (with_name names name) more ≡ names ++ ext)
    by true e rest = (rest.0, rest.1 ∙ ap (λ (l : Names). l ++ rest.0) (with_name-there names name e))
    by false e rest = (name ∷ rest.0, rest.1 ∙ ap (λ (l : Names). l ++ rest.0) (with_name-new names name e) ∙ append_assoc names (name ∷ []) rest.0)

known_before : (p : List ℕ → Bool) (xs ys : Names) → list_any p xs ≡ true → position_or_len p (xs ++ ys) < length xs
known_before p [] ys h = absurd cc
known_before p (x ∷ xs) ys h = step (p x) (list_any p xs) (position_or_len p (xs ++ ys)) (length xs) h (known_before p xs ys)
  where
    step : (b rest : Bool) (n m : ℕ) → (b || rest) ≡ true → (rest ≡ true → n < m) → cond (not b) (1 + n) 0 < suc m
    step true rest n m h k = omega arith
    step false rest n m h k = let l = k h in omega arith

next_behind : (p : List ℕ → Bool) (xs : Names) (name : List ℕ) (ys : Names) → list_any p xs ≡ false → p name ≡ true → position_or_len p (xs ++ name ∷ ys) ≡ length xs
next_behind p [] name ys h is = ap (λ (b : Bool). cond (not b) (1 + position_or_len p ys) 0) is
next_behind p (x ∷ xs) name ys h is = step (p x) (list_any p xs) (position_or_len p (xs ++ name ∷ ys)) (length xs) h (next_behind p xs name ys)
  where
    step : (b rest : Bool) (n m : ℕ) → (b || rest) ≡ false → (rest ≡ false → p name ≡ true → n ≡ m) → cond (not b) (1 + n) 0 ≡ suc m
    step true rest n m h k = absurd cc
    step false rest n m h k = let l = k h is in omega arith

pub placed : (names : Names) (name : List ℕ) (n : ℕ) → position_or_len (bytes_eq name) names ≡ n → n < length names → place_in names name ≡ n
placed names name n e lt =
    let test : nat_lt (position_or_len (bytes_eq name) names) (length names) ≡ true = let below : position_or_len (bytes_eq name) names < length names = omega arith in grind (arith, nat_tests) in
    ap (λ (b : Bool). unwrap_or (cond b (Some (position_or_len (bytes_eq name) names)) None) 0) test ∙ e

place_known : (xs ys : Names) (name : List ℕ) → list_any (bytes_eq name) xs ≡ true → place_in (xs ++ ys) name < length xs
place_known xs ys name h =
    let lt = known_before (bytes_eq name) xs ys h in
    let len = length-append xs ys in
    let is = placed (xs ++ ys) name (position_or_len (bytes_eq name) (xs ++ ys)) refl (omega arith) in
    subst (λ (n : ℕ). n < length xs) (sym is) lt

place_next : (xs ys : Names) (name : List ℕ) → list_any (bytes_eq name) xs ≡ false → place_in (xs ++ name ∷ ys) name ≡ length xs
place_next xs ys name h =
    let len = length-append xs (name ∷ ys) in
    placed (xs ++ name ∷ ys) name (length xs) (next_behind (bytes_eq name) xs name ys h ((bytes_eq-Decides name name).1 refl)) (omega arith)

-- the places of names, where those before have made known all below
pub names_grow : (before more : Names) → Grows (length (first_places before)) (map (place_in (first_places (before ++ more))) more) (length (first_places (before ++ more)))
names_grow before [] = ap (λ (l : Names). length (first_places l)) (sym (append-nothing before))
names_grow before (name ∷ more) =
    let all : Names = first_places (before ++ name ∷ more) in
    let same : first_places ((before ++ name ∷ []) ++ more) ≡ all = ap first_places (append_assoc before (name ∷ []) more) in
    let rest : Grows (length (first_places (before ++ name ∷ []))) (map (place_in all) more) (length all) =
    subst (λ (l : Names). Grows (length (first_places (before ++ name ∷ []))) (map (place_in l) more) (length l)) same (names_grow (before ++ name ∷ []) more) in
    let one : first_places (before ++ name ∷ []) ≡ with_name (first_places before) name = sym (names_together before (name ∷ [])) in
    let whole : all ≡ with_names (with_name (first_places before) name) more = sym (names_together before (name ∷ more)) in
    by all (first_places before) (list_any (bytes_eq name) (first_places before)) refl whole
    (subst (λ (l : Names). Grows (length l) (map (place_in all) more) (length all)) one rest)
  where
    by : (all known : Names) (b : Bool) → list_any (bytes_eq name) known ≡ b → all ≡ with_names (with_name known name) more → Grows (length (with_name known name)) (map (place_in all) more) (length all) → Grows (length known) (place_in all name ∷ map (place_in all) more) (length all)
    by all known true e whole rest =
        let there : with_name known name ≡ known = with_name-there known name e in
        let ext = extends known more in
        let is : all ≡ known ++ ext.0 = whole ∙ ap (λ (l : Names). with_names l more) there ∙ ext.1 in
        inl (
          subst (λ (l : Names). place_in l name < length known) (sym is) (place_known known ext.0 name e),
          subst (λ (l : Names). Grows (length l) (map (place_in all) more) (length all)) there rest,
        )
    by all known false e whole rest =
        let fresh : with_name known name ≡ known ++ name ∷ [] = with_name-new known name e in
        let ext = extends (known ++ name ∷ []) more in
        let is : all ≡ known ++ name ∷ ext.0 = whole ∙ ap (λ (l : Names). with_names l more) fresh ∙ ext.1 ∙ append_assoc known (name ∷ []) ext.0 in
        let len : length (with_name known name) ≡ suc (length known) = ap (λ (l : Names). length l) fresh ∙ length-append known (name ∷ []) ∙ plus_one (length known) in
        inr (
          ap (λ (l : Names). place_in l name) is ∙ place_next known ext.0 name e,
          subst (λ (n : ℕ). Grows n (map (place_in all) more) (length all)) len rest,
        )
      where
        plus_one : (n : ℕ) → n + 1 ≡ suc n
        plus_one n = omega arith

-- the places of names among themselves
pub places_grow : (names : Names) → Grows zero (map (place_in (first_places names)) names) (length (first_places names))
places_grow names = names_grow [] names
