-- The labels of a set, the lowest one first.
use Rattle.std.proofs.Common.{◌≡◌, ◌≢◌, ◌==◌, ℕ, zero, suc, ◌+◌, ◌≤◌, ◌<◌, Bool, true, false, cond, List, [], ◌∷◌, refl, sym, ap, ◌∙◌, inl, inr, arith}
use Rattle.std.specs.Prelude.{filter, bit_and, ◌^◌, ◌*◌, ◌%◌}
use Rattle.std.specs.Int.{bit_at, bit_not, trailing_zeros, w64}
use Rattle.std.specs.List.{range_with_len}
use Rattle.std.proofs.lemmas.Bool.{cases_eq}
use Rattle.std.proofs.lemmas.Nat.Bits.{bit_at-zero, bit_at-trailing_zeros, bit_at_clear_same, bit_at_clear_other}
use Rattle.probe_hearing.specs.Watching.{label_limit, labels_in}

limit_is : label_limit ≡ 64
unfolding label_limit
limit_is = refl

module _ (P Q : ℕ → Bool) (k : ℕ) where
  -- past k both tests are the same
  past : (a n : ℕ) → k < a → ((i : ℕ) → k < i → i < a + n → P i ≡ Q i) → filter P (range_with_len a n) ≡ filter Q (range_with_len a n)
  past a zero l same = refl
  past a (suc n) l same =
      ap (λ (b : Bool). cond b (a ∷ filter P (range_with_len (a + 1) n)) (filter P (range_with_len (a + 1) n))) (same a l (omega arith))
      ∙ ap (λ (r : List ℕ). cond (Q a) (a ∷ r) r) (past (a + 1) n (omega arith) (λ i m t. same i m (omega arith)))

  -- k is the first that passes P, and none up to k passes Q
  first_passes : (a n : ℕ) → a ≤ k → k < a + n → P k ≡ true → ((i : ℕ) → i < k → P i ≡ false) → ((i : ℕ) → i ≤ k → Q i ≡ false) → ((i : ℕ) → k < i → i < a + n → P i ≡ Q i)
      → filter P (range_with_len a n) ≡ k ∷ filter Q (range_with_len a n)
  first_passes a zero l u here below none same = absurd (omega arith)
  first_passes a (suc n) l u here below none same =
      elim (cases_eq a k) [
        | inl e ↦
            ap (λ (b : Bool). cond b (a ∷ filter P (range_with_len (a + 1) n)) (filter P (range_with_len (a + 1) n))) (ap P e ∙ here)
            ∙ ap (λ (r : List ℕ). a ∷ r) (past (a + 1) n (omega arith) (λ i m t. same i m (omega arith)))
            ∙ ap (λ (x : ℕ). x ∷ filter Q (range_with_len (a + 1) n)) e
            ∙ ap (λ (b : Bool). k ∷ cond b (a ∷ filter Q (range_with_len (a + 1) n)) (filter Q (range_with_len (a + 1) n))) (sym (none a (omega arith)))
        | inr d ↦
            ap (λ (b : Bool). cond b (a ∷ filter P (range_with_len (a + 1) n)) (filter P (range_with_len (a + 1) n))) (below a (omega arith))
            ∙ first_passes (a + 1) n (omega arith) (omega arith) here below none (λ i m t. same i m (omega arith))
            ∙ ap (λ (b : Bool). k ∷ cond b (a ∷ filter Q (range_with_len (a + 1) n)) (filter Q (range_with_len (a + 1) n))) (sym (none a (omega arith)))
      ]

none_of : (a n : ℕ) → filter (λ l. bit_at 0 l == 1) (range_with_len a n) ≡ []
none_of a zero = refl
none_of a (suc n) = ap (λ (b : ℕ). cond (b == 1) (a ∷ filter (λ l. bit_at 0 l == 1) (range_with_len (a + 1) n)) (filter (λ l. bit_at 0 l == 1) (range_with_len (a + 1) n))) (bit_at-zero a) ∙ none_of (a + 1) n

-- the empty set has no labels
pub no_labels : labels_in 0 ≡ []
no_labels = none_of 0 label_limit

-- the lowest label of a set, and then those of the set without it
pub labels_lead : (left rest k : ℕ) → k < 64 → bit_at left k ≡ 1 → ((i : ℕ) → i < k → bit_at left i ≡ 0) → bit_at rest k ≡ 0 → ((i : ℕ) → i < 64 → i ≢ k → bit_at rest i ≡ bit_at left i) → labels_in left ≡ k ∷ labels_in rest
labels_lead left rest k small here below gone same =
    let limit = limit_is in
    first_passes (λ l. bit_at left l == 1) (λ l. bit_at rest l == 1) k 0 label_limit (omega arith) (omega arith) (ap (λ (b : ℕ). b == 1) here) (λ i l. ap (λ (b : ℕ). b == 1) (below i l)) none_up (λ i l u. ap (λ (b : ℕ). b == 1) (sym (same i (omega arith) (λ e. omega arith))))
  where
    none_up : (i : ℕ) → i ≤ k → (bit_at rest i == 1) ≡ false
    none_up i l =
        elim (cases_eq i k) [
          | inl e ↦ ap (λ (x : ℕ). bit_at rest x == 1) e ∙ ap (λ (b : ℕ). b == 1) gone
          | inr d ↦ ap (λ (b : ℕ). b == 1) (same i (omega arith) d ∙ below i (omega arith))
        ]

-- the same with the bit cleared as the code does it
pub lowest_leads : (left : ℕ) → 0 < left → left < 2 ^ 64 → labels_in left ≡ trailing_zeros w64 left ∷ labels_in (bit_and left (bit_not w64 (1 * 2 ^ trailing_zeros w64 left % 2 ^ 64)))
lowest_leads left some fits =
    let (small, here, below) = bit_at-trailing_zeros w64 left some fits in
    labels_lead left (bit_and left (bit_not w64 (1 * 2 ^ trailing_zeros w64 left % 2 ^ 64))) (trailing_zeros w64 left) small here below (bit_at_clear_same w64 left (trailing_zeros w64 left) small) (bit_at_clear_other w64 left (trailing_zeros w64 left) small)
