-- Expressions without positions add nothing.
use Rattle.std.proofs.Common.{◌≡◌, ℕ, zero, suc, ◌+◌, ◌-◌, true, List, [], ◌∷◌, inl, refl, sym, arith, ◌∙◌}
use Rattle.probe_words.specs.declared.work.Work.{Work}
use Rattle.probe_words.specs.declared.work.Part.{Part}
use Rattle.probe_words.specs.MarkedLetters.{IsAmong}
use Rattle.probe_words.specs.Core.{Core, Epsilon, Symbol, Sequence, Alternative, LastLabelled, Repeated, Restarted, FirstGuarded, empty_of, size_of, heads_of, firsts}
use Rattle.probe_words.specs.Words.{Pattern, Only, Then, Or, Label, Star, Plus, Maybe, Times, Between, Reset, Guarded}
use Rattle.probe_words.specs.CoreForm.{core_of, row_of, tail_of}
use Rattle.probe_words.specs.Laying.{has_no_position, LaysPart}
use Rattle.probe_words.proofs.PlaceLists.{both_true, true_both, true_left}
use Rattle.probe_words.proofs.Ranges.{first_within, last_within, label_within, follow_within, length-firsts}
use Rattle.probe_words.proofs.SizesAgree.{row_size, tail_size}

pub void_empty : (r : Core) → size_of r ≡ 0 → empty_of r ≡ true
void_empty Epsilon e = refl
void_empty (Symbol a) e = absurd (omega arith)
void_empty (Sequence r s) e = true_both (empty_of r) (empty_of s) (void_empty r (omega arith)) (void_empty s (omega arith))
void_empty (Alternative r s) e = true_left (empty_of r) (empty_of s) (void_empty r (omega arith))
void_empty (LastLabelled r l) e = void_empty r e
void_empty (Repeated r) e = void_empty r e
void_empty (Restarted r a) e = absurd (omega arith)
void_empty (FirstGuarded g r) e = void_empty r (omega arith)

none : (xs : List ℕ) → ((i : ℕ) → IsAmong i xs → ⊥) → xs ≡ []
none [] h = refl
none (x ∷ xs) h = absurd (h x (inl refl))

pub no_firsts : (r : Core) (at : ℕ) → size_of r ≡ 0 → firsts r at ≡ []
no_firsts r at e = none (firsts r at) (λ i h. let p = first_within r at i h in omega arith)

pub void_adds : (r : Core) (at : ℕ) (work : Work) (part : Part) → size_of r ≡ 0 → LaysPart Epsilon at work work part → LaysPart r at work work part
void_adds r at work part e a = record {
  begin = a.begin;
  count = (let c = a.count in omega arith);
  labels_count = (let c = a.labels_count in omega arith);
  follow_count = (let c = a.follow_count in omega arith);
  kept_places = a.kept_places;
  kept_labels = a.kept_labels;
  kept_follow = a.kept_follow;
  first_is = a.first_is ∙ sym (no_firsts r at e);
  empty_is = a.empty_is ∙ sym (void_empty r e);
  last_is = λ i. (λ h. absurd ((a.last_is i).0 h), λ h. absurd (let p = last_within r at i h in omega arith));
  marks_are = λ i p l q. absurd (a.marks_are i p l q);
  labels_are = λ i k l. (λ h. absurd ((a.labels_are i k l).0 h), λ h. absurd (let p = label_within r at k i h in omega arith));
  follow_are = λ i k l. (λ h. absurd ((a.follow_are i k l).0 h), λ h. absurd (let p = (follow_within r at i k h).0 in omega arith));
}

no_heads : (r : Core) → size_of r ≡ 0 → heads_of r ≡ 0
no_heads r e = sym (length-firsts r 0) ∙ rw (no_firsts r 0 e) refl

between_void : (r : Core) (m n : ℕ) → size_of r ≡ 0 → size_of (row_of r m) + size_of (tail_of r n) ≡ 0
between_void r m n h = rw (row_size r m, tail_size r n, h) (omega arith)

pub void_size : (p : Pattern) → has_no_position p ≡ true → size_of (core_of p) ≡ 0
void_size (Only a) e = cc
void_size (Then r s) e = let (a, b) = both_true (has_no_position r) (has_no_position s) e in let c = void_size r a in let d = void_size s b in omega arith
void_size (Or r s) e = let (a, b) = both_true (has_no_position r) (has_no_position s) e in let c = void_size r a in let d = void_size s b in omega arith
void_size (Label r l) e = void_size r e
void_size (Guarded g r) e = let c = void_size r e in let d = no_heads (core_of r) c in omega arith
void_size (Star r) e = let c = void_size r e in omega arith
void_size (Plus r) e = void_size r e
void_size (Maybe r) e = let c = void_size r e in omega arith
void_size (Times r zero) e = refl
void_size (Times r (suc n)) e = row_void (core_of r) (suc n) (void_size r e)
  where
    row_void : (r : Core) (n : ℕ) → size_of r ≡ 0 → size_of (row_of r n) ≡ 0
    row_void r n h = row_size r n ∙ rw h (omega arith)
void_size (Between r zero zero) e = let h : 0 - 0 ≡ 0 = omega arith in rw h refl
void_size (Between r (suc m) n) e = between_void (core_of r) (suc m) (n - suc m) (void_size r e)
void_size (Between r zero (suc n)) e = between_void (core_of r) zero (suc n - zero) (void_size r e)
void_size (Reset r a) e = cc

pub void_row : (p : Pattern) (n at : ℕ) (work : Work) (part : Part) → has_no_position p ≡ true → LaysPart Epsilon at work work part → LaysPart (row_of (core_of p) n) at work work part
void_row p n at work part e a = void_adds (row_of (core_of p) n) at work part (row_size (core_of p) n ∙ rw (void_size p e) (omega arith)) a

pub void_tail : (p : Pattern) (n at : ℕ) (work : Work) (part : Part) → has_no_position p ≡ true → LaysPart Epsilon at work work part → LaysPart (tail_of (core_of p) n) at work work part
void_tail p n at work part e a = void_adds (tail_of (core_of p) n) at work part (tail_size (core_of p) n ∙ rw (void_size p e) (omega arith)) a
