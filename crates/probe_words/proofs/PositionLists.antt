-- From what was laid to the positions.
use Rattle.std.proofs.Common.{◌≡◌, ℕ, zero, suc, ◌+◌, ◌≤◌, ◌<◌, List, [], ◌∷◌, ◌++◌, map, take, refl, sym, ap, arith, length, get_or, ◌∙◌, subst, Some, ◌↔◌}
use Rattle.std.specs.Prelude.{slice_get, remove}
use Rattle.std.proofs.lemmas.Grind.{take_at_read}
use Rattle.probe_words.specs.declared.work.Placed.{Placed}
use Rattle.probe_words.specs.declared.work.Work.{Work}
use Rattle.probe_words.specs.declared.work.Part.{Part}
use Rattle.probe_words.specs.declared.position_list.Position.{Position}
use Rattle.probe_words.specs.declared.position_list.Positions.{Positions}
use Rattle.probe_words.specs.MarkedLetters.{IsAmong}
use Rattle.std.specs.Prelude.{Ok, Err}
use Rattle.probe_words.specs.declared.position_list.PositionsFault.{PositionsFault}
use Rattle.probe_words.specs.declared.position_list.PositionsFault.TheVariants.{TooManyPositions, Memory}
use Rattle.probe_words.specs.Words.{Pattern, IsProperPattern}
use Rattle.probe_words.specs.CoreForm.{core_of}
use Rattle.probe_words.specs.Core.{Core, size_of, HasLabel}
use Rattle.probe_words.proofs.SizesAgree.{same_sizes}
use Rattle.probe_words.proofs.Ranges.{first_within, last_within, follow_within}
use Rattle.probe_words.specs.Sets.{HasMember}
use Rattle.probe_words.specs.Laying.{LaysPart, AnswersLaying, placed_of, AreLabelled}
use Rattle.probe_words.specs.PositionsOf.{ArePositions, ArePositionSets, IsPositionsAnswer}

-- some of the places have their labels, the others are left
pub record Labels (places : List Placed) (labels : List ℕ) (k : ℕ) (left : List Placed) (each : List Position) : Type 0 where
  pub done : map placed_of each ++ left ≡ places
  pub labels_are : map (λ p. p.labels) each ≡ take k labels
  pub left_count : length left + k ≡ length places

pub labels_step : (places : List Placed) (labels : List ℕ) (k : ℕ) (left rest : List Placed) (each more : List Position) (x : Position) → Labels places labels k left each → k < length labels → x.labels ≡ get_or labels k 0 → slice_get left 0 ≡ Some (placed_of x) → rest ≡ remove left 0 → more ≡ each ++ x ∷ [] → Labels places labels (k + 1) rest more
labels_step places labels k [] rest each more x h l e s r m = cc
labels_step places labels k (y ∷ left) rest each more x h l e s r m =
    let q : y ≡ placed_of x = cc in
    let t : rest ≡ left = r in
    let a = placed-append each x in
    let b = labels-append each x in
    record {
      done = rw (m, t, a, spaced (map placed_of each) (placed_of x) left) (subst (λ (z : Placed). map placed_of each ++ z ∷ left ≡ places) q h.done);
      labels_are = rw (m, b, (take_at_read labels k 0 l).1, h.labels_are, e) refl;
      left_count = (let c = h.left_count in rw t (omega arith));
    }
  where
    placed-append : (each : List Position) (x : Position) → map placed_of (each ++ x ∷ []) ≡ map placed_of each ++ placed_of x ∷ []
    placed-append [] x = refl
    placed-append (z ∷ each) x = ap (λ (v : List Placed). placed_of z ∷ v) (placed-append each x)

    labels-append : (each : List Position) (x : Position) → map (λ p. p.labels) (each ++ x ∷ []) ≡ map (λ p. p.labels) each ++ x.labels ∷ []
    labels-append [] x = refl
    labels-append (z ∷ each) x = ap (λ (v : List ℕ). z.labels ∷ v) (labels-append each x)

    spaced : (a : List Placed) (x : Placed) (b : List Placed) → (a ++ x ∷ []) ++ b ≡ a ++ x ∷ b
    spaced [] x b = refl
    spaced (z ∷ a) x b = ap (λ (v : List Placed). z ∷ v) (spaced a x b)

at_map : (each : List Position) (i : ℕ) (x : Position) → slice_get each i ≡ Some x → (slice_get (map placed_of each) i ≡ Some (placed_of x)) × (get_or (map (λ p. p.labels) each) i 0 ≡ x.labels)
at_map [] i x e = cc
at_map (y ∷ each) zero x e = let h : y ≡ x = cc in rw h (refl, refl)
at_map (y ∷ each) (suc i) x e = at_map each i x e

length_map : (each : List Position) → length (map placed_of each) ≡ length each
length_map [] = refl
length_map (x ∷ each) = ap suc (length_map each)

pub are_positions : (r : Core) (old work : Work) (part : Part) (p : Positions) → LaysPart r 0 old work part → AreLabelled work.places work.labels p.each → p.follow ≡ work.follow → p.empty ≡ part.empty → p.last ≡ part.last → ((i : ℕ) → HasMember p.first i ↔ IsAmong i part.first) → ArePositions r p
are_positions r old work part p a l f e s h = record {
  count = sym (length_map p.each) ∙ ap (λ (z : List Placed). length z) l.places_are ∙ (let c = a.count in omega arith);
  follow_count = ap (λ (z : List ℕ). length z) f ∙ (let c = a.follow_count in omega arith);
  first_is = λ i. subst (λ (z : List ℕ). HasMember p.first i ↔ IsAmong i z) a.first_is (h i);
  empty_is = e ∙ a.empty_is;
  last_is = λ i. rw s (a.last_is i);
  marks_are = λ i x q. a.marks_are i (placed_of x) (omega arith) (ap (λ (z : List Placed). slice_get z i) (sym l.places_are) ∙ (at_map p.each i x q).0);
  labels_are = λ i k x q. subst (λ (z : ℕ). HasMember z k ↔ HasLabel r 0 k i) (ap (λ (z : List ℕ). get_or z i 0) (sym l.labels_are) ∙ (at_map p.each i x q).1) (a.labels_are i k (omega arith));
  follow_are = λ i j. rw f (a.follow_are i j (omega arith));
}

-- the answer, in the words of the table of sizes
pub positions_answer : (r : Pattern) → IsProperPattern r → (p : Positions) → ArePositions (core_of r) p → (n : ℕ) → n ≡ 0 + size_of (core_of r) → n ≤ 63 → IsPositionsAnswer r (Ok p)
positions_answer r s p a n e l = let (b, c, d) = same_sizes r s in (a, omega arith)

pub positions_refused : (r : Pattern) → IsProperPattern r → (at : ℕ) → at ≡ 0 → (e : PositionsFault) → (old new : Work) → length old.places ≡ at → AnswersLaying (core_of r) old new (Err e) → IsPositionsAnswer r (Err e)
positions_refused r s at z TooManyPositions old new q h = let (b, c, d) = same_sizes r s in omega arith
positions_refused r s at z Memory old new q h = tt

pub position_sets : (r : Core) (p : Positions) → ArePositions r p → size_of r ≤ 63 → ArePositionSets p
position_sets r p a l = record {
  few_positions = (let c = a.count in omega arith);
  follow_each = a.follow_count ∙ sym a.count;
  first_inside = λ i h. let w = first_within r 0 i ((a.first_is i).0 h) in let c = a.count in omega arith;
  last_inside = λ i h. let w = last_within r 0 i ((a.last_is i).0 h) in let c = a.count in omega arith;
  follow_inside = λ x i h. let w = (follow_within r 0 x i ((a.follow_are x i).0 h)).1 in let c = a.count in omega arith;
}
