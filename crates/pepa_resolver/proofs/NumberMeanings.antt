-- At a name's number stands the name.
use Rattle.std.proofs.Common.{◌≡◌, ℕ, suc, ◌+◌, ◌<◌, Bool, true, false, cond, not, ◌||◌, List, [], ◌∷◌, map, flat_map, length, Option, Some, None, position, unwrap_or, slice_get, get_or, bytes_eq, codes, nat_lt, ◌⊎◌, inl, inr, refl, sym, ap, ◌∙◌, subst, arith}
use Rattle.std.specs.List.{Contains, list_any, position_or_len}
use Rattle.std.specs.Cmp.Lexicographic.{nat_list_eq_equiv}
use Rattle.std.proofs.lemmas.Bool.Decides.{nat_tests}
use Rattle.std.proofs.lemmas.Slice.Eq.{bytes_eq-Decides}
use Rattle.std.proofs.lemmas.List.Quantifiers.{position-Some}
use Rattle.std.proofs.lemmas.List.Elements.{Contains-append_left, Contains-append_right}
use Rattle.std.proofs.lemmas.Map.Views.{list_any-from_Contains, Contains-from_any}
use Rattle.std.proofs.lemmas.Option.{slice_get-get_or}
use Rattle.pepa_reader.specs.Trees.{ProcessNode, FileNode}
use Rattle.pepa_model.specs.Leaves.{without}
use Rattle.pepa_resolver.specs.Parts.{process_ats, constants_in, processes_of}
use Rattle.pepa_resolver.specs.Faults.{HasNone, UnknownAt}
use Rattle.pepa_resolver.specs.Numbers.{first_places, place_in, words_in, actions_of, constants_of}
use Rattle.node_orders.proofs.Elements.{no_element, contains_here, contains_there, contains_cases, contains_map_to}

-- ---- the place of a name

first_within : (p : List ℕ → Bool) (names : List (List ℕ)) → list_any p names ≡ true → position_or_len p names < length names
first_within p [] h = absurd cc
first_within p (name ∷ names) h = step (p name) (list_any p names) (position_or_len p names) (length names) h (first_within p names)
  where
    step : (b rest : Bool) (n m : ℕ) → (b || rest) ≡ true → (rest ≡ true → n < m) → cond (not b) (1 + n) 0 < suc m
    step true rest n m h k = omega arith
    step false rest n m h k = let l = k h in omega arith

has_place : (name : List ℕ) (names : List (List ℕ)) → Contains names name → position (bytes_eq name) names ≡ None → ⊥
has_place name names there none =
    let lt = first_within (bytes_eq name) names (list_any-from_Contains nat_list_eq_equiv name names there) in
    let test : nat_lt (position_or_len (bytes_eq name) names) (length names) ≡ true = grind (arith, nat_tests) in
    let some : position (bytes_eq name) names ≡ Some (position_or_len (bytes_eq name) names) = ap (λ (b : Bool). cond b (Some (position_or_len (bytes_eq name) names)) None) test in
    absurd cc

pub place_stands : (name : List ℕ) (names : List (List ℕ)) → Contains names name → slice_get names (place_in names name) ≡ Some name
place_stands name names there = by (position (bytes_eq name) names) refl
  where
    by : (o : Option ℕ) → position (bytes_eq name) names ≡ o → slice_get names (unwrap_or o 0) ≡ Some name
    by None e = absurd (has_place name names there e)
    by (Some i) e =
        let at = position-Some (bytes_eq name) names i name e in
        slice_get-get_or names i name at.0 ∙ ap Some (sym ((bytes_eq-Decides name (get_or names i name)).0 at.1))

-- ---- first places lose no name

kept_without : (x name : List ℕ) (names : List (List ℕ)) → bytes_eq x name ≡ false → Contains names name → Contains (without bytes_eq x names) name
kept_without x name [] apart h = absurd (no_element name h)
kept_without x name (y ∷ names) apart h = step (bytes_eq x y) refl (contains_cases y names name h) (kept_without x name names apart)
  where
    step : (b : Bool) → bytes_eq x y ≡ b → (y ≡ name) ⊎ Contains names name → (Contains names name → Contains (without bytes_eq x names) name) → Contains (cond (not b) (y ∷ without bytes_eq x names) (without bytes_eq x names)) name
    step true e (inl k) rest = let same = subst (λ (z : List ℕ). bytes_eq x z ≡ true) k e in absurd cc
    step true e (inr there) rest = rest there
    step false e (inl k) rest = subst (λ (z : List ℕ). Contains (y ∷ without bytes_eq x names) z) k (contains_here y (without bytes_eq x names))
    step false e (inr there) rest = contains_there y (without bytes_eq x names) name (rest there)

pub first_there : (name : List ℕ) (names : List (List ℕ)) → Contains names name → Contains (first_places names) name
first_there name [] h = absurd (no_element name h)
first_there name (x ∷ names) h = step (bytes_eq x name) refl (contains_cases x names name h) (first_there name names)
  where
    step : (b : Bool) → bytes_eq x name ≡ b → (x ≡ name) ⊎ Contains names name → (Contains names name → Contains (first_places names) name) → Contains (first_places (x ∷ names)) name
    step b e (inl k) rest = subst (λ (z : List ℕ). Contains (first_places (x ∷ names)) z) k (contains_here x (without bytes_eq x (first_places names)))
    step true e (inr there) rest = subst (λ (z : List ℕ). Contains (first_places (x ∷ names)) z) ((bytes_eq-Decides x name).0 e) (contains_here x (without bytes_eq x (first_places names)))
    step false e (inr there) rest = contains_there x (without bytes_eq x (first_places names)) name (kept_without x name (first_places names) e (rest there))

-- ---- the names of a file

word_among : (processes : List ProcessNode) (process : ProcessNode) (i : ℕ) → Contains processes process → Contains (words_in process) i → Contains (flat_map words_in processes) i
word_among [] process i among there = absurd (no_element process among)
word_among (first ∷ processes) process i among there =
    elim (contains_cases first processes process among) [
      | inl e ↦ Contains-append_left (words_in first) (flat_map words_in processes) i (subst (λ (p : ProcessNode). Contains (words_in p) i) (sym e) there)
      | inr k ↦ Contains-append_right (words_in first) (flat_map words_in processes) i (word_among processes process i k there)
    ]

module _ (name : ℕ → List ℕ) (file : FileNode) (process : ProcessNode) (i : ℕ) (among : Contains (processes_of file) process) where
  pub action_stands : Contains (words_in process) i → slice_get (actions_of name file) (place_in (actions_of name file) (name i)) ≡ Some (name i)
  action_stands there =
      let words = flat_map words_in (processes_of file) in
      place_stands (name i) (actions_of name file) (first_there (name i) (codes "tau" ∷ map name words) (contains_there (codes "tau") (map name words) (name i) (contains_map_to name words i (word_among (processes_of file) process i among there))))

  pub constant_stands : HasNone (UnknownAt name file) → Contains (constants_in process) i → slice_get (constants_of name file) (place_in (constants_of name file) (name i)) ≡ Some (name i)
  constant_stands known there = place_stands (name i) (constants_of name file) (listed (list_any (bytes_eq (name i)) (constants_of name file)) refl)
    where
      listed : (b : Bool) → list_any (bytes_eq (name i)) (constants_of name file) ≡ b → Contains (constants_of name file) (name i)
      listed true e = Contains-from_any (λ x y k. (bytes_eq-Decides x y).0 k) (name i) (constants_of name file) e
      listed false e =
          absurd (known i (inr (
            process,
            among,
            inl (
              there,
              λ h. let is = subst (λ (n : List ℕ). Contains (constants_of name file) n) h.2 (contains_map_to name (process_ats file.processes) h.0 h.1) in
                  let found = list_any-from_Contains nat_list_eq_equiv (name i) (constants_of name file) is in
                  cc,
            ),
          )))
