-- What is kept at the start_pace, and once one more seat is there.
use Rattle.std.proofs.Common.{◌≡◌, ℕ, zero, suc, ◌+◌, ◌<◌, ◌≤◌, ◌≢◌, ◌⊎◌, inl, inr, ⊎_elim, false, None, List, [], ◌∷◌, ◌++◌, length, replicate, refl, sym, ap, ◌∙◌, subst, arith, slice_index, length-append}
use mathlib.Core.Option.{some, some-injective, some-ne-none}
use lib.ListN.{get_elem?}
use Rattle.std.proofs.lemmas.Bool.{false≢true, cases_eq, ne_eqb}
use Rattle.std.proofs.lemmas.List.{length-replicate}
use Rattle.std.proofs.lemmas.Bool.Decides.{nat_tests}
use Rattle.intern_core.specs.declared.shape.Shape.{Shape}
use Rattle.intern_core.specs.declared.history.Entry.{Entry}
use Rattle.intern_core.specs.declared.seat.Seat.{Seat}
use Rattle.intern_core.specs.declared.seat.Phase.TheVariants.{Idle}
use Rattle.intern_core.specs.Layout.{claim_at, next_at, list_at, link_at, word_count}
use Rattle.intern_core.specs.History.{known, uses, one_if}
use Rattle.intern_core.specs.Turns.{seat}
use Rattle.intern_core.specs.Kept.{total, is_pass, keeps, has_spare, is_marked, given_out, IsSeat, IsShape, Kept}

pub at_snoc : {A : Type 0} (l : List A) (a b : A) (j : ℕ) → get_elem? (l ++ a ∷ []) j ≡ some b → (get_elem? l j ≡ some b) ⊎ ((j ≡ length l) × (a ≡ b))
at_snoc [] a b zero e = inr (refl, some-injective a b e)
at_snoc [] a b (suc j) e = absurd (some-ne-none b (sym e))
at_snoc (x ∷ xs) a b zero e = inl e
at_snoc (x ∷ xs) a b (suc j) e = ⊎_elim (λ h. inl h) (λ h. let k = h.0 in inr (ap suc k, h.1)) (at_snoc xs a b j e)

pub total-append : {X : Type 0} (f : X → ℕ) (xs : List X) (x : X) → total f (xs ++ x ∷ []) ≡ total f xs + f x
total-append f [] x = omega arith
total-append f (y ∷ xs) x = omega (arith, total-append f xs x)

pub zeros : (n k : ℕ) → ◌≡◌ {A = ℕ} (slice_index (replicate n 0) k) 0
zeros zero k = refl
zeros (suc n) zero = refl
zeros (suc n) (suc k) = zeros n k

-- no seat yet, and no entry
pub kept_opening : (shape : Shape) → IsShape shape → Kept shape (replicate (word_count shape) 0) [] []
kept_opening shape ranges =
    let words : List ℕ = replicate (word_count shape) 0 in
    let empty : slice_index words claim_at ≡ 0 = zeros (word_count shape) claim_at in
    record {
      ranges = ranges;
      long = length-replicate (word_count shape) 0;
      few = omega arith;
      apart = λ n. omega arith;
      legal = tt;
      image = record {
        chains = λ b low. zeros (word_count shape) (link_at shape b 0);
        keys = tt;
        lists = λ n pos le. zeros (word_count shape) (list_at n);
      };
      shared = record {
        each = λ n pos. let low : given_out shape words ≡ 0 = omega arith in grind (arith, nat_tests);
        numbers = refl;
        all = sym empty;
        full = omega arith;
        fresh = λ n pos le none. zeros (word_count shape) (next_at n);
      };
      seat_is = λ i s at. absurd (some-ne-none s (sym at));
    }

-- one more seat
pub kept_joined : (shape : Shape) (words : List ℕ) (seats : List Seat) (history : List Entry) → Kept shape words seats history → length seats < shape.passes
    → (pass : ℕ) → pass < shape.passes → total (is_pass pass) seats ≡ 0 → Kept shape words (seats ++ seat pass None 0 false Idle ∷ []) history
kept_joined shape words seats history k room pass low none_yet =
    let new = seat pass None 0 false Idle in
    let seen = known history in
    let sum : (f : Seat → ℕ) → f new ≡ 0 → total f (seats ++ new ∷ []) ≡ total f seats = λ f e. total-append f seats new ∙ omega arith in
    record {
      ranges = k.ranges;
      long = k.long;
      few = omega (arith, length-append seats (new ∷ []));
      apart = λ n. ⊎_elim
          (λ (e : pass ≡ n).
          let one : is_pass n new ≤ 1 = grind (arith, nat_tests) in
          let none : total (is_pass n) seats ≡ 0 = subst (λ m. total (is_pass m) seats ≡ 0) e none_yet in
          omega (arith, total-append (is_pass n) seats new))
          (λ (ne : pass ≢ n).
          let other : is_pass n new ≡ 0 = ap one_if (ne_eqb pass n ne) in
          let h = k.apart n in
          omega (arith, total-append (is_pass n) seats new))
          (cases_eq pass n);
      legal = k.legal;
      image = k.image;
      shared = record {
        each = λ n pos. let none : keeps n new ≡ 0 = grind (arith, nat_tests) in ap (λ t. uses n seen + t) (sum (keeps n) none) ∙ k.shared.each n pos;
        numbers = k.shared.numbers;
        all = let h = k.shared.all in omega (arith, sum has_spare refl, sum is_marked refl);
        full = ap (λ t. length seen + t) (sum has_spare refl) ∙ k.shared.full;
        fresh = k.shared.fresh;
      };
      seat_is = λ i s at. ⊎_elim (λ h. k.seat_is i s h)
          (λ (h : (i ≡ length seats) × (new ≡ s)). subst (IsSeat shape words seen) h.1 (record { pass = low; mark = λ m. absurd (false≢true m); reached = tt }))
          (at_snoc seats new s i at);
    }
