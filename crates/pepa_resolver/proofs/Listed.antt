-- Names in a table, by their places.
use Rattle.std.proofs.Common.{◌≡◌, ℕ, ◌<◌, ◌≤◌, Bool, true, false, cond, List, [], ◌∷◌, length, take, get_or, min, Some, None, position, bytes_eq, nat_lt, refl, sym, ap, ◌∙◌, subst, arith}
use Rattle.std.specs.List.{Contains, position_or_len}
use Rattle.std.proofs.lemmas.List.{length-take, get_or-take}
use Rattle.std.proofs.lemmas.List.Sums.{fails_before_first}
use Rattle.std.proofs.lemmas.List.Quantifiers.{position-Some}
use Rattle.std.specs.Map.{keys_of}
use Rattle.std.proofs.Math.Seq.{take-length}
use Rattle.std.proofs.lemmas.Map.Entries.{length-keys_of}
use Rattle.std.proofs.lemmas.Bool.Decides.{nat_tests}
use Rattle.std.proofs.lemmas.Slice.Eq.{bytes_eq-Decides}
use Rattle.pepa_resolver.proofs.Findings.{finds_one, finds_none}
use Rattle.pepa_resolver.specs.Finding.{FindsIn, IsUnlisted}

module _ (x : List ℕ) (names : List (List ℕ)) (above : ℕ) where
  -- a name among the first so many has a place there
  place_among : Contains (take above names) x → (k : ℕ) × (k < above) × (k < length names) × (bytes_eq x (get_or names k x) ≡ true)
  place_among (k, within, is) =
      let few : k < min above (length names) = subst (λ n. k < n) (length-take above names) within in
      let lt : k < above = omega arith in
      (k, lt, omega arith, (bytes_eq-Decides x (get_or names k x)).1 (sym is ∙ get_or-take above names k x lt))

  pub listed_above : (place : ℕ) → position (bytes_eq x) names ≡ Some place → place < above → Contains (take above names) x
  listed_above place is lt =
      let at = position-Some (bytes_eq x) names place x is in
      let short : place < min above (length names) = omega arith in
      (place, subst (λ n. place < n) (sym (length-take above names)) short, get_or-take above names place x lt ∙ sym ((bytes_eq-Decides x (get_or names place x)).0 at.1))

  pub listed_below : (place : ℕ) → position (bytes_eq x) names ≡ Some place → above ≤ place → ¬ Contains (take above names) x
  listed_below place is le there =
      let at = position-Some (bytes_eq x) names place x is in
      let among = place_among there in
      let apart : bytes_eq x (get_or names among.0 x) ≡ false = at.2 among.0 (omega arith) in
      let same : bytes_eq x (get_or names among.0 x) ≡ true = among.3 in
      cc

  past : (n m : ℕ) (b : Bool) → b ≡ nat_lt n m → cond b (Some n) None ≡ None → m ≤ n
  past n m true e h = absurd cc
  past n m false e h = grind (arith, nat_tests)

  pub listed_nowhere : position (bytes_eq x) names ≡ None → ¬ Contains (take above names) x
  listed_nowhere none there =
      let among = place_among there in
      let le : length names ≤ position_or_len (bytes_eq x) names = past (position_or_len (bytes_eq x) names) (length names) _ refl none in
      let apart : bytes_eq x (get_or names among.0 x) ≡ false = fails_before_first (bytes_eq x) names among.0 x (omega arith) in
      let same : bytes_eq x (get_or names among.0 x) ≡ true = among.3 in
      cc

module _ (name : ℕ → List ℕ) (names : List (List ℕ)) (above at : ℕ) where
  -- what a look-up by place finds
  pub unlisted_none : (place : ℕ) → position (bytes_eq (name at)) names ≡ Some place → place < above → FindsIn (IsUnlisted name (take above names)) (at ∷ []) None
  unlisted_none place is lt = finds_none (IsUnlisted name (take above names)) at (λ h. h (listed_above (name at) names above place is lt))

  pub unlisted_below : (place : ℕ) → position (bytes_eq (name at)) names ≡ Some place → above ≤ place → FindsIn (IsUnlisted name (take above names)) (at ∷ []) (Some at)
  unlisted_below place is le = finds_one (IsUnlisted name (take above names)) at (listed_below (name at) names above place is le)

  pub unlisted_nowhere : position (bytes_eq (name at)) names ≡ None → FindsIn (IsUnlisted name (take above names)) (at ∷ []) (Some at)
  unlisted_nowhere none = finds_one (IsUnlisted name (take above names)) at (listed_nowhere (name at) names above none)

-- the first so many keys, where there are so many, are all
pub all_keys : {V : Type 0} (entries : List (List ℕ × V)) (n : ℕ) → n ≡ length entries → take n (keys_of entries) ≡ keys_of entries
all_keys entries n e = ap (λ k. take k (keys_of entries)) (e ∙ sym (length-keys_of entries)) ∙ take-length (keys_of entries)
