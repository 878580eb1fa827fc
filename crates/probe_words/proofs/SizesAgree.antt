-- The table of sizes, by the core expression.
use Rattle.std.proofs.Common.{◌≡◌, ℕ, zero, suc, ◌+◌, ◌-◌, ◌*◌, Bool, true, false, ◌&&◌, if◌then◌else◌, refl, sym, arith, ◌∙◌}
use Rattle.probe_words.specs.Core.{Core, empty_of, heads_of, size_of, count_if}
use Rattle.probe_words.specs.Words.{Pattern, Only, Then, Or, Label, Star, Plus, Maybe, Times, Between, Reset, Guarded, IsProperPattern}
use Rattle.probe_words.specs.CoreForm.{core_of, row_of, tail_of}
use Rattle.probe_words.specs.Sizes.{has_empty, heads_of_pattern, size_of_pattern, copies_heads}

module _ (r : Core) where
  pub row_empty : (n : ℕ) → empty_of (row_of r (suc n)) ≡ empty_of r
  row_empty zero = refl
  row_empty (suc n) = rw (row_empty n) (twice (empty_of r))
    where
      twice : (b : Bool) → (b && b) ≡ b
      twice true = refl
      twice false = refl

  pub row_size : (n : ℕ) → size_of (row_of r n) ≡ n * size_of r
  row_size zero = omega arith
  row_size (suc n) = let h = row_size n in let e : suc n * size_of r ≡ n * size_of r + size_of r = omega arith in omega arith

  pub row_heads : (n : ℕ) → heads_of (row_of r (suc n)) ≡ copies_heads (empty_of r) (suc n) (heads_of r)
  row_heads zero = go (empty_of r)
    where
      go : (b : Bool) → 0 + heads_of r ≡ copies_heads b 1 (heads_of r)
      go true = omega arith
      go false = omega arith
  row_heads (suc n) = rw (row_heads n, row_empty n) (go (empty_of r))
    where
      go : (b : Bool) → copies_heads b (suc n) (heads_of r) + count_if b (heads_of r) ≡ copies_heads b (suc (suc n)) (heads_of r)
      go true = omega arith
      go false = omega arith

  pub tail_empty : (n : ℕ) → empty_of (tail_of r n) ≡ true
  tail_empty zero = refl
  tail_empty (suc zero) = refl
  tail_empty (suc (suc n)) = refl

  pub tail_size : (n : ℕ) → size_of (tail_of r n) ≡ n * size_of r
  tail_size zero = omega arith
  tail_size (suc zero) = omega arith
  tail_size (suc (suc n)) = let h = tail_size (suc n) in let e : suc (suc n) * size_of r ≡ suc n * size_of r + size_of r = omega arith in omega arith

  pub tail_heads : (n : ℕ) → heads_of (tail_of r (suc n)) ≡ copies_heads (empty_of r) (suc n) (heads_of r)
  tail_heads zero = go (empty_of r)
    where
      go : (b : Bool) → 0 + heads_of r ≡ copies_heads b 1 (heads_of r)
      go true = omega arith
      go false = omega arith
  tail_heads (suc n) = rw (tail_heads n) (go (empty_of r))
    where
      go : (b : Bool) → 0 + (heads_of r + count_if b (copies_heads b (suc n) (heads_of r))) ≡ copies_heads b (suc (suc n)) (heads_of r)
      go true = omega arith
      go false = omega arith

pub tail_rest : (r : Core) (n : ℕ) → heads_of (tail_of r n) ≡ copies_heads (empty_of r) n (heads_of r)
tail_rest r zero = refl
tail_rest r (suc n) = tail_heads r n

pub tail_heads_any : (r : Core) (n : ℕ) → 0 + heads_of (tail_of r n) ≡ copies_heads (empty_of r) n (heads_of r)
tail_heads_any r n = let h = tail_rest r n in omega arith

pub same_sizes : (p : Pattern) → IsProperPattern p → (size_of (core_of p) ≡ size_of_pattern p) × (heads_of (core_of p) ≡ heads_of_pattern p) × (empty_of (core_of p) ≡ has_empty p)
same_sizes (Only a) s = (refl, refl, refl)
same_sizes (Then r t) s = let (a, b, c) = same_sizes r s.0 in let (d, e, f) = same_sizes t s.1 in (rw (a, d) refl, rw (b, e, c) (go (has_empty r) (heads_of_pattern r) (heads_of_pattern t)), rw (c, f) refl)
  where
    go : (x : Bool) (m n : ℕ) → m + count_if x n ≡ m + (if x then n else 0)
    go true m n = refl
    go false m n = refl
same_sizes (Or r t) s = let (a, b, c) = same_sizes r s.0 in let (d, e, f) = same_sizes t s.1 in (rw (a, d) refl, rw (b, e) refl, rw (c, f) refl)
same_sizes (Label r l) s = same_sizes r s.0
same_sizes (Guarded g r) s = let (a, b, c) = same_sizes r s in (rw (a, b) refl, b, c)
same_sizes (Star r) s = let (a, b, c) = same_sizes r s in (omega arith, omega arith, refl)
same_sizes (Plus r) s = same_sizes r s
same_sizes (Maybe r) s = let (a, b, c) = same_sizes r s in (omega arith, omega arith, refl)
same_sizes (Times r zero) s = (omega arith, refl, refl)
same_sizes (Times r (suc n)) s =
    let (a, b, c) = same_sizes r s.0 in
    (row_size (core_of r) (suc n) ∙ rw a refl, row_heads (core_of r) n ∙ rw (b, c) refl, row_empty (core_of r) n ∙ c)
same_sizes (Between r zero n) s =
    let (a, b, c) = same_sizes r s.0 in
    let e : n - 0 ≡ n = omega arith in
    (rw (e, tail_size (core_of r) n, a) (omega arith), rw e (tail_heads_any (core_of r) n ∙ rw (b, c) refl), rw e (tail_empty (core_of r) n))
same_sizes (Between r (suc m) n) s =
    let (a, b, c) = same_sizes r s.0 in
    let k : ℕ = n - suc m in
    let l = s.1 in (
      rw (row_size (core_of r) (suc m), tail_size (core_of r) k, a) (sizes_apart (suc m) k n (size_of_pattern r) (omega arith)),
      rw (row_heads (core_of r) m, row_empty (core_of r) m, b, c) (rest (has_empty r) m k n (heads_of_pattern r) (heads_of (tail_of (core_of r) k)) (tail_rest (core_of r) k ∙ rw (b, c) refl) (omega arith)),
      rw (row_empty (core_of r) m, tail_empty (core_of r) k, c) (and_true (has_empty r)),
    )
  where
    and_true : (x : Bool) → (x && true) ≡ x
    and_true true = refl
    and_true false = refl

    sizes_apart : (m k n h : ℕ) → n ≡ m + k → m * h + k * h ≡ n * h
    sizes_apart m k n h e = rw e (omega arith)

    rest : (x : Bool) (m k n h t : ℕ) → t ≡ copies_heads x k h → n ≡ suc m + k → copies_heads x (suc m) h + count_if x t ≡ copies_heads x n h
    rest true m zero n h t e d = let q : n ≡ suc m = omega arith in rw (e, q) (omega arith)
    rest true m (suc k) n h t e d = let q : n ≡ suc (m + suc k) = omega arith in let p : suc (m + suc k) * h ≡ suc m * h + suc k * h = omega arith in rw (e, q) (sym p)
    rest false m k n h t e d = let q : n ≡ suc (m + k) = omega arith in rw q (omega arith)
same_sizes (Reset r a) s = let (b, c, d) = same_sizes r s in (rw b refl, rw c refl, d)
