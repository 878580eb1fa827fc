-- Unknown names in a process, from those in its parts.
use Rattle.std.proofs.Common.{◌≡◌, ℕ, inl, inr, List, [], ◌∷◌, Option, sym, subst}
use Rattle.std.specs.List.{Contains}
use Rattle.std.proofs.lemmas.List.Elements.{Contains-append_left, Contains-append_right, Contains-append_cases}
use Rattle.pepa_reader.specs.Trees.{RateNode, ProcessNode, ConstantAt, PrefixAt, ChoiceOf}
use Rattle.pepa_resolver.specs.Parts.{names_in, constants_in, rates_in, RateSite}
use Rattle.pepa_resolver.specs.Finding.{FindsLeast, FindsIn, lesser_index, IsUnlisted, IsUnlistedIn}
use Rattle.pepa_resolver.proofs.Findings.{finds_same, finds_either}
use Rattle.node_orders.proofs.Elements.{no_element, one_element, contains_one}

pub constant_finds : (name : ℕ → List ℕ) (constants rates : List (List ℕ)) (at : ℕ) (o : Option ℕ) → FindsIn (IsUnlisted name constants) (at ∷ []) o → FindsLeast (IsUnlistedIn name constants rates (ConstantAt at)) o
constant_finds name constants rates at o found =
    finds_same (λ i. Contains (at ∷ []) i × IsUnlisted name constants i) (IsUnlistedIn name constants rates (ConstantAt at)) o
    (λ i h. inl h)
    (λ i h. elim h [ inl a ↦ a | inr b ↦ absurd (no_element b.0.0 b.0.1) ])
    found

pub prefix_finds : (name : ℕ → List ℕ) (constants rates : List (List ℕ)) (at : ℕ) (rate : RateNode) (next : ProcessNode) (l r o : Option ℕ) → FindsIn (IsUnlisted name rates) (names_in rate) l → FindsLeast (IsUnlistedIn name constants rates next) r → o ≡ lesser_index l r → FindsLeast (IsUnlistedIn name constants rates (PrefixAt at rate next)) o
prefix_finds name constants rates at rate next l r o fl fr same =
    finds_either (λ i. Contains (names_in rate) i × IsUnlisted name rates i) (IsUnlistedIn name constants rates next) (IsUnlistedIn name constants rates (PrefixAt at rate next)) l r o
    (λ i h. inr ((site, Contains-append_left (site ∷ []) (rates_in next) site (contains_one site), h.0), h.1))
    (λ i h. elim h [ inl a ↦ inl a | inr b ↦ inr ((b.0.0, Contains-append_right (site ∷ []) (rates_in next) b.0.0 b.0.1, b.0.2), b.1) ])
    (λ i h. elim h [
      | inl a ↦ inr (inl a)
      | inr b ↦ elim (Contains-append_cases (site ∷ []) (rates_in next) b.0.0 b.0.1) [
        | inl here ↦ inl (subst (λ (s : RateSite). Contains (names_in s.rate) i) (sym (one_element site b.0.0 here)) b.0.2, b.1)
        | inr there ↦ inr (inr ((b.0.0, there, b.0.2), b.1))
      ]
    ])
    fl fr same
  where
    site : RateSite
    site = record { site_at = at; rate = rate }

-- a choice and a cooperation have the names of both sides
pub sides_find : (name : ℕ → List ℕ) (constants rates : List (List ℕ)) (left right : ProcessNode) (l r o : Option ℕ) → FindsLeast (IsUnlistedIn name constants rates left) l → FindsLeast (IsUnlistedIn name constants rates right) r → o ≡ lesser_index l r → FindsLeast (IsUnlistedIn name constants rates (ChoiceOf left right)) o
sides_find name constants rates left right l r o fl fr same =
    finds_either (IsUnlistedIn name constants rates left) (IsUnlistedIn name constants rates right) (IsUnlistedIn name constants rates (ChoiceOf left right)) l r o
    (λ i h. elim h [
      | inl a ↦ inl (Contains-append_left (constants_in left) (constants_in right) i a.0, a.1)
      | inr b ↦ inr ((b.0.0, Contains-append_left (rates_in left) (rates_in right) b.0.0 b.0.1, b.0.2), b.1)
    ])
    (λ i h. elim h [
      | inl a ↦ inl (Contains-append_right (constants_in left) (constants_in right) i a.0, a.1)
      | inr b ↦ inr ((b.0.0, Contains-append_right (rates_in left) (rates_in right) b.0.0 b.0.1, b.0.2), b.1)
    ])
    (λ i h. elim h [
      | inl a ↦ elim (Contains-append_cases (constants_in left) (constants_in right) i a.0) [ inl x ↦ inl (inl (x, a.1)) | inr y ↦ inr (inl (y, a.1)) ]
      | inr b ↦ elim (Contains-append_cases (rates_in left) (rates_in right) b.0.0 b.0.1) [
        | inl x ↦ inl (inr ((b.0.0, x, b.0.2), b.1))
        | inr y ↦ inr (inr ((b.0.0, y, b.0.2), b.1))
      ]
    ])
    fl fr same
