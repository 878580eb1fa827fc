-- An expression has the words of the core expression to which it comes down.
use Rattle.std.proofs.Common.{◌≡◌, ℕ, zero, suc, ◌+◌, ◌≤◌, List, [], ◌++◌, inl, inr, refl, sym, ap, arith, ◌∙◌, append_assoc, subst, ◌-◌}
use Rattle.probe_words.specs.MarkedLetters.{MarkedLetter}
use Rattle.probe_words.specs.Core.{Core}
use Rattle.probe_words.specs.Words.{IsRow, unmarked, IsPrefixOf, Pattern, Only, Then, Or, Label, Star, Plus, Maybe, Times, Between, Reset, Guarded, IsProbeWord, IsProperPattern}
use Rattle.probe_words.proofs.CoreWords.{CoreWord}
use Rattle.probe_words.specs.CoreForm.{core_of, row_of, tail_of}
use Rattle.probe_words.proofs.KindsOfSequences.{append_nil}
use Rattle.probe_words.proofs.PathsSpellWords.{row_map, fronts_map}

module _ (W : List MarkedLetter → Type 0) where
  pub snoc_row : (n : ℕ) (p z : List MarkedLetter) → IsRow W n p → W z → IsRow W (suc n) (p ++ z)
  snoc_row zero p z e g = (z, [], g, refl, rw e (sym (append_nil z)))
  snoc_row (suc n) p z (a, b, h, r, e) g = (a, b ++ z, h, snoc_row n b z r g, rw e (append_assoc a b z))

  pub row_snoc : (n : ℕ) (w : List MarkedLetter) → IsRow W (suc n) w → (p z : List MarkedLetter) × IsRow W n p × W z × (w ≡ p ++ z)
  row_snoc zero w (u, v, g, r, e) = ([], u, refl, g, e ∙ ap (λ (x : List MarkedLetter). u ++ x) r ∙ append_nil u)
  row_snoc (suc n) w (u, v, g, r, e) =
      let (p, z, q, h, d) = row_snoc n v r in
      (u ++ p, z, (u, p, g, q, refl), h, e ∙ ap (λ (x : List MarkedLetter). u ++ x) d ∙ sym (append_assoc u p z))

  pub join_rows : (n k : ℕ) (u v : List MarkedLetter) → IsRow W n u → IsRow W k v → (t : ℕ) × (t ≡ n + k) × IsRow W t (u ++ v)
  join_rows zero k u v e h = (k, omega arith, rw e h)
  join_rows (suc n) k u v (x, y, h, r, e) g =
      let (t, q, z) = join_rows n k y v r g in
      (suc t, omega arith, (x, y ++ v, h, z, e' x y u v e))
    where
      e' : (x y u v : List MarkedLetter) → u ≡ x ++ y → u ++ v ≡ x ++ (y ++ v)
      e' x y u v e = rw e (append_assoc x y v)

  pub split_rows : (n k : ℕ) (w : List MarkedLetter) (t : ℕ) → t ≡ n + k → IsRow W t w → (u v : List MarkedLetter) × IsRow W n u × IsRow W k v × (w ≡ u ++ v)
  split_rows zero k w t q h = let d : t ≡ k = omega arith in ([], w, refl, subst (λ (x : ℕ). IsRow W x w) d h, refl)
  split_rows (suc n) k w zero q h = absurd (omega arith)
  split_rows (suc n) k w (suc t) q (x, y, h, r, e) =
      let (u, v, i, j, d) = split_rows n k y t (omega arith) r in
      (x ++ u, v, (x, u, h, i, refl), j, e ∙ ap (λ (z : List MarkedLetter). x ++ z) d ∙ sym (append_assoc x u v))

module _ (r : Core) where
  pub row_word : (n : ℕ) (w : List MarkedLetter) → CoreWord (row_of r n) w → IsRow (λ u. CoreWord r u) n w
  row_word zero w e = e
  row_word (suc n) w (u, v, g, h, e) = rw e (snoc_row (λ z. CoreWord r z) n u v (row_word n u g) h)

  pub word_row : (n : ℕ) (w : List MarkedLetter) → IsRow (λ u. CoreWord r u) n w → CoreWord (row_of r n) w
  word_row zero w e = e
  word_row (suc n) w h = let (p, z, q, g, e) = row_snoc (λ z. CoreWord r z) n w h in (p, z, word_row n p q, g, e)

  -- at most n words in a row
  abbrev pub AtMost : ℕ → List MarkedLetter → Type 0
  AtMost n w = (k : ℕ) × (k ≤ n) × IsRow (λ u. CoreWord r u) k w

  pub tail_word : (n : ℕ) (w : List MarkedLetter) → CoreWord (tail_of r n) w → AtMost n w
  tail_word zero w e = (zero, omega arith, e)
  tail_word (suc zero) w (inl e) = (zero, omega arith, e)
  tail_word (suc zero) w (inr h) = (suc zero, omega arith, (w, [], h, refl, sym (append_nil w)))
  tail_word (suc (suc n)) w (inl e) = (zero, omega arith, e)
  tail_word (suc (suc n)) w (inr (u, v, g, h, e)) = let (k, l, q) = tail_word (suc n) v h in (suc k, omega arith, (u, v, g, q, e))

  pub word_tail : (n k : ℕ) (w : List MarkedLetter) → k ≤ n → IsRow (λ u. CoreWord r u) k w → CoreWord (tail_of r n) w
  word_tail zero zero w l e = e
  word_tail zero (suc k) w l h = absurd (omega arith)
  word_tail (suc zero) zero w l e = inl e
  word_tail (suc zero) (suc zero) w l (u, v, g, h, e) = inr (rw (e, h, append_nil) g)
  word_tail (suc zero) (suc (suc k)) w l h = absurd (omega arith)
  word_tail (suc (suc n)) zero w l e = inl e
  word_tail (suc (suc n)) (suc k) w l (u, v, g, h, e) = inr (u, v, g, word_tail (suc n) k v (omega arith) h, e)

-- ---- expressions

pub word_core : (p : Pattern) → IsProperPattern p → (w : List MarkedLetter) → IsProbeWord p w → CoreWord (core_of p) w
word_core (Only a) s w h = h
word_core (Then r t) s w (u, v, g, h, e) = (u, v, word_core r s.0 u g, word_core t s.1 v h, e)
word_core (Or r t) s w (inl h) = inl (word_core r s.0 w h)
word_core (Or r t) s w (inr h) = inr (word_core t s.1 w h)
word_core (Label r l) s w (u, h, e) = (u, word_core r s.0 u h, e)
word_core (Guarded g r) s w (u, h, e) = (u, word_core r s u h, e)
word_core (Star r) s w (zero, e) = inl e
word_core (Star r) s w (suc n, h) = inr (n, row_map (λ u. IsProbeWord r u) (λ u. CoreWord (core_of r) u) (word_core r s) (suc n) w h)
word_core (Plus r) s w (n, h) = (n, row_map (λ u. IsProbeWord r u) (λ u. CoreWord (core_of r) u) (word_core r s) (suc n) w h)
word_core (Maybe r) s w (inl e) = inl e
word_core (Maybe r) s w (inr h) = inr (word_core r s w h)
word_core (Times r n) s w h = word_row (core_of r) n w (row_map (λ u. IsProbeWord r u) (λ u. CoreWord (core_of r) u) (word_core r s.0) n w h)
word_core (Between r m n) s w (k, a, b, h) =
    let q : k ≡ m + (k - m) = omega arith in
    let (u, v, i, j, e) = split_rows (λ z. CoreWord (core_of r) z) m (k - m) w k q (row_map (λ u. IsProbeWord r u) (λ u. CoreWord (core_of r) u) (word_core r s.0) k w h) in
    (u, v, word_row (core_of r) m u i, word_tail (core_of r) (n - m) (k - m) v (omega arith) j, e)
word_core (Reset r a) s w (n, u, v, f, h, e) =
    (n, u, v, fronts_map (IsPrefixOf (λ z. IsProbeWord r z)) (IsPrefixOf (λ z. CoreWord (core_of r) z)) (unmarked a) (λ x p. (p.0, word_core r s (x ++ p.0) p.1)) n u f, word_core r s v h, e)

pub core_word : (p : Pattern) → IsProperPattern p → (w : List MarkedLetter) → CoreWord (core_of p) w → IsProbeWord p w
core_word (Only a) s w h = h
core_word (Then r t) s w (u, v, g, h, e) = (u, v, core_word r s.0 u g, core_word t s.1 v h, e)
core_word (Or r t) s w (inl h) = inl (core_word r s.0 w h)
core_word (Or r t) s w (inr h) = inr (core_word t s.1 w h)
core_word (Label r l) s w (u, h, e) = (u, core_word r s.0 u h, e)
core_word (Guarded g r) s w (u, h, e) = (u, core_word r s u h, e)
core_word (Star r) s w (inl e) = (zero, e)
core_word (Star r) s w (inr (n, h)) = (suc n, row_map (λ u. CoreWord (core_of r) u) (λ u. IsProbeWord r u) (core_word r s) (suc n) w h)
core_word (Plus r) s w (n, h) = (n, row_map (λ u. CoreWord (core_of r) u) (λ u. IsProbeWord r u) (core_word r s) (suc n) w h)
core_word (Maybe r) s w (inl e) = inl e
core_word (Maybe r) s w (inr h) = inr (core_word r s w h)
core_word (Times r n) s w h = row_map (λ u. CoreWord (core_of r) u) (λ u. IsProbeWord r u) (core_word r s.0) n w (row_word (core_of r) n w h)
core_word (Between r m n) s w (u, v, g, h, e) =
    let (k, l, j) = tail_word (core_of r) (n - m) v h in
    let (t, q, z) = join_rows (λ z. CoreWord (core_of r) z) m k u v (row_word (core_of r) m u g) j in
    (t, omega arith, omega arith, rw e (row_map (λ u. CoreWord (core_of r) u) (λ u. IsProbeWord r u) (core_word r s.0) t (u ++ v) z))
core_word (Reset r a) s w (n, u, v, f, h, e) =
    (n, u, v, fronts_map (IsPrefixOf (λ z. CoreWord (core_of r) z)) (IsPrefixOf (λ z. IsProbeWord r z)) (unmarked a) (λ x p. (p.0, core_word r s (x ++ p.0) p.1)) n u f, core_word r s v h, e)
