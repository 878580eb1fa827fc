-- Names that stand twice, one index after the other.
use Rattle.std.proofs.Common.{◌≡◌, ◌↔◌, ℕ, ◌⊎◌, inl, inr, List, [], ◌∷◌, ◌++◌, map, Option, Some, None, append_assoc, refl, sym, ap, ◌∙◌, subst, arith}
use Rattle.std.specs.List.{Contains}
use Rattle.std.proofs.lemmas.List.{map-append}
use Rattle.std.proofs.lemmas.List.Elements.{Contains-append_left, Contains-append_right, Contains-append_cases}
use Rattle.pepa_resolver.specs.Faults.{IsRepeated, IsKnown}
use Rattle.pepa_resolver.specs.Finding.{FindsLeast, lesser_index}
use Rattle.pepa_resolver.proofs.Findings.{finds_same, finds_either}
use Rattle.node_orders.proofs.Elements.{one_element, contains_map_from, contains_map_to}

-- a name with one behind it is the last, or has it among those behind
pub push_split : {X : Type 0} (xs : List X) (y : X) (before : List X) (i : X) (behind : List X) → xs ++ y ∷ [] ≡ before ++ i ∷ behind → ((xs ≡ before) × (y ≡ i)) ⊎ ((more : List X) × (xs ≡ before ++ i ∷ more))
push_split [] y [] i behind h = inl (refl, cc)
push_split [] y (b ∷ []) i behind h = absurd cc
push_split [] y (b ∷ c ∷ before) i behind h = absurd cc
push_split {X} (x ∷ xs) y [] i behind h = let e : x ≡ i = cc in inr (xs, ap (λ (z : X). z ∷ xs) e)
push_split (x ∷ xs) y (b ∷ before) i behind h =
    let e : x ≡ b = cc in
    let tail : xs ++ y ∷ [] ≡ before ++ i ∷ behind = cc in
    elim (push_split xs y before i behind tail) [
      | inl s ↦ let same : xs ≡ before = s.0 in inl (cc, s.1)
      | inr s ↦ let more : xs ≡ before ++ i ∷ s.0 = s.1 in inr (s.0, cc)
    ]

module _ (name : ℕ → List ℕ) where
  pub known_listed : (ats : List ℕ) (i : ℕ) → IsKnown name ats i → Contains (map name ats) (name i)
  known_listed ats i (at, there, same) = subst (Contains (map name ats)) same (contains_map_to name ats at there)

  pub listed_known : (ats : List ℕ) (i : ℕ) → Contains (map name ats) (name i) → IsKnown name ats i
  listed_known ats i h = contains_map_from name ats (name i) h

  more : (ats : List ℕ) (at i : ℕ) → IsRepeated name ats i → IsRepeated name (ats ++ at ∷ []) i
  more ats at i h = record {
    before = h.before;
    behind = h.behind ++ at ∷ [];
    whole = ap (λ xs. xs ++ at ∷ []) h.whole ∙ append_assoc h.before (i ∷ h.behind) (at ∷ []);
    earlier = h.earlier;
    among = h.among;
    same = h.same;
  }

  here : (ats : List ℕ) (at i : ℕ) → IsKnown name ats at → at ≡ i → IsRepeated name (ats ++ at ∷ []) i
  here ats at i known e = subst (IsRepeated name (ats ++ at ∷ [])) e (record { before = ats; behind = []; whole = refl; earlier = known.0; among = known.1; same = known.2 })

  cases : (ats : List ℕ) (at i : ℕ) → IsRepeated name (ats ++ at ∷ []) i → IsRepeated name ats i ⊎ ((at ≡ i) × IsKnown name ats at)
  cases ats at i h =
      elim (push_split ats at h.before i h.behind h.whole) [
        | inl s ↦ inr (s.1, (h.earlier, subst (λ (xs : List ℕ). Contains xs h.earlier) (sym s.0) h.among, h.same ∙ ap name (sym s.1)))
        | inr s ↦ inl (record { before = h.before; behind = s.0; whole = s.1; earlier = h.earlier; among = h.among; same = h.same })
      ]

  again : (ats : List ℕ) (at : ℕ) (found next : Option ℕ) → FindsLeast (IsRepeated name ats) found → IsKnown name ats at → next ≡ lesser_index found (Some at) → FindsLeast (IsRepeated name (ats ++ at ∷ [])) next
  again ats at found next finds known same =
      finds_either (IsRepeated name ats) (λ i. at ≡ i) (IsRepeated name (ats ++ at ∷ [])) found (Some at) next
      (more ats at) (λ i e. here ats at i known e)
      (λ i h. elim (cases ats at i h) [ inl a ↦ inl a | inr b ↦ inr b.0 ])
      finds (record { stands = refl; least = λ j e. omega arith }) same

  new : (ats : List ℕ) (at : ℕ) (found : Option ℕ) → FindsLeast (IsRepeated name ats) found → ¬ IsKnown name ats at → FindsLeast (IsRepeated name (ats ++ at ∷ [])) found
  new ats at found finds unknown =
      finds_same (IsRepeated name ats) (IsRepeated name (ats ++ at ∷ [])) found (more ats at)
      (λ i h. elim (cases ats at i h) [ inl a ↦ a | inr b ↦ absurd (unknown b.1) ]) finds

  -- what holds of the table and the least repeated name, of the indices so far
  pub record SoFar (ats : List ℕ) (names : List (List ℕ)) (repeated : Option ℕ) : Type 0 where
    pub listed : (x : List ℕ) → Contains names x ↔ Contains (map name ats) x
    pub finds : FindsLeast (IsRepeated name ats) repeated
    pub all : repeated ≡ None → names ≡ map name ats

  pub so_far_new : (ats : List ℕ) (at : ℕ) (names after : List (List ℕ)) (repeated : Option ℕ) → SoFar ats names repeated → (¬ Contains names (name at)) × (after ≡ names ++ name at ∷ []) → SoFar (ats ++ at ∷ []) after repeated
  so_far_new ats at names after repeated h (unlisted, pushed) = record {
    listed = λ x. (
      λ c. to x (Contains-append_cases names (name at ∷ []) x (subst (λ (xs : List (List ℕ)). Contains xs x) pushed c)),
      λ c. from x (Contains-append_cases (map name ats) (name at ∷ []) x (subst (λ (xs : List (List ℕ)). Contains xs x) (map-append name ats (at ∷ [])) c)),
    );
    finds = new ats at repeated h.finds (λ known. unlisted ((h.listed (name at)).1 (known_listed ats at known)));
    all = λ none. pushed ∙ ap (λ (xs : List (List ℕ)). xs ++ name at ∷ []) (h.all none) ∙ sym (map-append name ats (at ∷ []));
  }
    where
      to : (x : List ℕ) → Contains names x ⊎ Contains (name at ∷ []) x → Contains (map name (ats ++ at ∷ [])) x
      to x (inl a) = subst (λ (xs : List (List ℕ)). Contains xs x) (sym (map-append name ats (at ∷ []))) (Contains-append_left (map name ats) (name at ∷ []) x ((h.listed x).0 a))
      to x (inr b) = subst (λ (xs : List (List ℕ)). Contains xs x) (sym (map-append name ats (at ∷ []))) (Contains-append_right (map name ats) (name at ∷ []) x b)

      from : (x : List ℕ) → Contains (map name ats) x ⊎ Contains (name at ∷ []) x → Contains after x
      from x (inl a) = subst (λ (xs : List (List ℕ)). Contains xs x) (sym pushed) (Contains-append_left names (name at ∷ []) x ((h.listed x).1 a))
      from x (inr b) = subst (λ (xs : List (List ℕ)). Contains xs x) (sym pushed) (Contains-append_right names (name at ∷ []) x b)

  some_least : (o : Option ℕ) (at : ℕ) → lesser_index o (Some at) ≡ None → ⊥
  some_least None at e = cc
  some_least (Some i) at e = cc

  pub so_far_again : (ats : List ℕ) (at : ℕ) (names after : List (List ℕ)) (repeated next : Option ℕ) → SoFar ats names repeated → Contains names (name at) × (after ≡ names) → next ≡ lesser_index repeated (Some at) → SoFar (ats ++ at ∷ []) after next
  so_far_again ats at names after repeated next h (there, same) least = record {
    listed = λ x. (
      λ c. subst (λ (xs : List (List ℕ)). Contains xs x) (sym (map-append name ats (at ∷ []))) (Contains-append_left (map name ats) (name at ∷ []) x ((h.listed x).0 (subst (λ (xs : List (List ℕ)). Contains xs x) same c))),
      λ c. from x (Contains-append_cases (map name ats) (name at ∷ []) x (subst (λ (xs : List (List ℕ)). Contains xs x) (map-append name ats (at ∷ [])) c)),
    );
    finds = again ats at repeated next h.finds (listed_known ats at ((h.listed (name at)).0 there)) least;
    all = λ none. absurd (some_least repeated at (sym least ∙ none));
  }
    where
      from : (x : List ℕ) → Contains (map name ats) x ⊎ Contains (name at ∷ []) x → Contains after x
      from x (inl a) = subst (λ (xs : List (List ℕ)). Contains xs x) (sym same) ((h.listed x).1 a)
      from x (inr b) = subst (λ (xs : List (List ℕ)). Contains xs x) (sym same) (subst (Contains names) (one_element (name at) x b) there)

  pub nothing_yet : (names : List (List ℕ)) → names ≡ [] → SoFar [] names None
  nothing_yet names none = record {
    listed = λ x. (λ c. subst (λ (xs : List (List ℕ)). Contains xs x) none c, λ c. subst (λ (xs : List (List ℕ)). Contains xs x) (sym none) c);
    finds = λ i h. no_before h.before i h.behind h.whole;
    all = λ e. none;
  }
    where
      no_before : (before : List ℕ) (i : ℕ) (behind : List ℕ) → [] ≡ before ++ i ∷ behind → ⊥
      no_before [] i behind h = cc
      no_before (b ∷ before) i behind h = cc
