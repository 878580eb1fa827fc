-- The loops that make filters.
use Rattle.std.proofs.Common.{take, append_assoc, length-append, ◌*◌, ◌-◌, ◌≡◌, ◌==◌, ℕ, zero, suc, ◌+◌, ◌^◌, ◌<◌, ◌&&◌, ◌++◌, ◌↔◌, Bool, true, if◌then◌else◌, List, [], ◌∷◌, map, drop, inl, inr, refl, sym, ap, arith, length, get_or, ◌∙◌, subst, Some}
use Rattle.std.specs.Prelude.{slice_get, bit_or}
use Rattle.std.specs.Int.{bit_at}
use Rattle.std.proofs.Math.Seq.{drop-cons}
use Rattle.std.proofs.lemmas.Option.{slice_get_read}
use Rattle.probe_words.specs.declared.guard.Guard.{Guard}
use Rattle.probe_words.specs.declared.letter.Letter.{Letter}
use Rattle.probe_words.specs.declared.position_list.Position.{Position}
use Rattle.probe_words.specs.Guards.{Condition, same_condition}
use Rattle.probe_words.specs.Twins.{condition_of}
use Rattle.probe_words.specs.Sets.{HasMember}
use Rattle.probe_automata.specs.Filters.{is_opened, IsFilterOf, IsFilterRow, AreFilterRows}
use Rattle.std.proofs.lemmas.Grind.{take_at_read}
use Rattle.std.proofs.lemmas.List.{get_or_append_left, get_or-append_right}
use Rattle.probe_words.proofs.KindsOfSequences.{append_nil}
use Rattle.probe_words.proofs.Sets.{split_lt, has_or, or_left, or_right, has_one, one_has}

pub open_at : (guards : List Guard) (x : Guard) (at v : ℕ) (g : Condition) (total : Bool) → at < length guards → x ≡ get_or guards at x → total ≡ is_opened (map condition_of (drop at guards)) at v g → total ≡ (if same_condition (condition_of x) g && (bit_at v at == 1) then true else is_opened (map condition_of (drop (at + 1) guards)) (at + 1) v g)
open_at guards x at v g total l e h =
    let one : at + 1 ≡ suc at = omega arith in
    let d : drop at guards ≡ x ∷ drop (suc at) guards = drop-cons guards at x l ∙ ap (λ (z : Guard). z ∷ drop (suc at) guards) (sym e) in
    rw one (h ∙ ap (λ (z : List Guard). is_opened (map condition_of z) at v g) d)

pub not_yet : (each : List Position) (P : Position → Type 0) (at set : ℕ) (x : Position) → at < length each → x ≡ get_or each at x → (P x → ⊥) → ((i : ℕ) → HasMember set i ↔ ((y : Position) × (slice_get each i ≡ Some y) × P y × (i < at))) → (i : ℕ) → HasMember set i ↔ ((y : Position) × (slice_get each i ≡ Some y) × P y × (i < at + 1))
not_yet each P at set x l e n h i = (
  λ b. let (y, s, p, m) = (h i).0 b in (y, s, p, omega arith),
  λ (y, s, p, m). (h i).1 (
    y,
    s,
    p,
    elim (split_lt i at) [
      | inl q ↦ q
      | inr q ↦ absurd (let z : i ≡ at = omega arith in let t : slice_get each at ≡ Some x = slice_get_read each (length each) at x refl l e in n (subst P (same y z s t) p))
    ],
  ),
)
  where
    same : (y : Position) → i ≡ at → slice_get each i ≡ Some y → slice_get each at ≡ Some x → y ≡ x
    same y z s t = let u : slice_get each i ≡ slice_get each at = ap (λ (k : ℕ). slice_get each k) z in cc

pub one_more : (each : List Position) (P : Position → Type 0) (at set now : ℕ) (x : Position) → at < length each → x ≡ get_or each at x → P x → now ≡ bit_or set (2 ^ at) → ((i : ℕ) → HasMember set i ↔ ((y : Position) × (slice_get each i ≡ Some y) × P y × (i < at))) → (i : ℕ) → HasMember now i ↔ ((y : Position) × (slice_get each i ≡ Some y) × P y × (i < at + 1))
one_more each P at set now x l e p w h i = (
  λ b. elim (has_or set (2 ^ at) i (rw w at b)) [
    | inl q ↦ (let (y, s, r, m) = (h i).0 q in (y, s, r, omega arith))
    | inr q ↦ (let z = has_one at i q in (x, rw z (slice_get_read each (length each) at x refl l e), p, omega arith))
  ],
  λ (y, s, r, m). rw w (elim (split_lt i at) [ inl q ↦ or_left set (2 ^ at) i ((h i).1 (y, s, r, q)) | inr q ↦ or_right set (2 ^ at) i (one_has at i (omega arith)) ]),
)

pub row_start : (each : List Position) (guards : List Guard) (a : Letter) (old : List ℕ) → (row : List ℕ) × (old ≡ old ++ row) × IsFilterRow each guards a 0 row
row_start each guards a old = ([], sym (append_nil old), record { row_length = refl; row_sets = λ v l. absurd (omega arith) })

pub row_step : (each : List Position) (guards : List Guard) (a : Letter) (n : ℕ) (old now more : List ℕ) (f : ℕ) → (row : List ℕ) × (now ≡ old ++ row) × IsFilterRow each guards a n row → IsFilterOf each guards n a f → more ≡ now ++ f ∷ [] → (row : List ℕ) × (more ≡ old ++ row) × IsFilterRow each guards a (n + 1) row
row_step each guards a n old now more f (row, e, r) i m = (
  row ++ f ∷ [],
  m ∙ ap (λ (z : List ℕ). z ++ f ∷ []) e ∙ append_assoc old row (f ∷ []),
  record {
    row_length = length-append row (f ∷ []) ∙ ap (λ (z : ℕ). z + 1) r.row_length;
    row_sets = λ v l. elim (split_lt v n) [
      | inl q ↦ subst (λ (z : ℕ). IsFilterOf each guards v a z) (sym (get_or_append_left row (f ∷ []) 0 v (let k = r.row_length in omega arith))) (r.row_sets v q)
      | inr q ↦ (
          let z : n ≡ v = omega arith in
          let d : v - length row ≡ 0 = let k = r.row_length in omega arith in
          let g : get_or (row ++ f ∷ []) v 0 ≡ f = get_or-append_right row (f ∷ []) (length row) v 0 refl (let k = r.row_length in omega arith) ∙ ap (λ (k : ℕ). get_or (f ∷ []) k 0) d in
          subst (λ (k : ℕ). IsFilterOf each guards v a k) (sym g) (subst (λ (k : ℕ). IsFilterOf each guards k a f) z i))
    ];
  },
)

pub rows_snoc : (each : List Position) (guards : List Guard) (width : ℕ) (letters : List Letter) (a : Letter) (filters row : List ℕ) → AreFilterRows each guards width letters filters → IsFilterRow each guards a width row → AreFilterRows each guards width (letters ++ a ∷ []) (filters ++ row)
rows_snoc each guards width [] a filters row h r = (row, [], r, refl, ap (λ (z : List ℕ). z ++ row) h ∙ sym (append_nil row))
rows_snoc each guards width (b ∷ letters) a filters row (first, rest, f, h, e) r =
    (first, rest ++ row, f, rows_snoc each guards width letters a rest row h r, ap (λ (z : List ℕ). z ++ row) e ∙ append_assoc first rest row)

pub rows_step : (each : List Position) (guards : List Guard) (width : ℕ) (letters : List Letter) (k : ℕ) (a d : Letter) (now more row : List ℕ) → k < length letters → a ≡ get_or letters k d → AreFilterRows each guards width (take k letters) now → more ≡ now ++ row → IsFilterRow each guards a width row → AreFilterRows each guards width (take (k + 1) letters) more
rows_step each guards width letters k a d now more row l e h m r =
    let t : take (k + 1) letters ≡ take k letters ++ a ∷ [] = (take_at_read letters k d l).1 ∙ ap (λ (z : Letter). take k letters ++ z ∷ []) (sym e) in
    rw (t, m) (rows_snoc each guards width (take k letters) a now row h r)

-- the set at the place of a letter and a valuation
pub rows_at : (each : List Position) (guards : List Guard) (width : ℕ) (letters : List Letter) (filters : List ℕ) (a v : ℕ) (letter : Letter) → AreFilterRows each guards width letters filters → slice_get letters a ≡ Some letter → v < width → (a * width + v < length filters) × IsFilterOf each guards v letter (get_or filters (a * width + v) 0)
rows_at each guards width [] filters a v letter h s l = cc
rows_at each guards width (b ∷ letters) filters zero v letter (row, rest, r, h, e) s l =
    let q : b ≡ letter = cc in
    let z : 0 * width + v ≡ v = omega arith in
    let k = r.row_length in
    let c = length-append row rest in
    rw (z, e) (omega arith, subst (λ (n : ℕ). IsFilterOf each guards v letter n) (sym (get_or_append_left row rest 0 v (omega arith))) (subst (λ (d : Letter). IsFilterOf each guards v d (get_or row v 0)) q (r.row_sets v l)))
rows_at each guards width (b ∷ letters) filters (suc a) v letter (row, rest, r, h, e) s l =
    let i = rows_at each guards width letters rest a v letter h s l in
    let z : suc a * width + v ≡ width + (a * width + v) = omega arith in
    let y : width + (a * width + v) - width ≡ a * width + v = omega arith in
    let k = r.row_length in
    let c = length-append row rest in
    rw (z, e) ((let b = i.0 in omega arith), subst (λ (n : ℕ). IsFilterOf each guards v letter n) (sym (get_or-append_right row rest width (width + (a * width + v)) 0 k (omega arith) ∙ ap (λ (n : ℕ). get_or rest n 0) y)) i.1)

pub rows_length : (each : List Position) (guards : List Guard) (width : ℕ) (letters : List Letter) (filters : List ℕ) → AreFilterRows each guards width letters filters → length filters ≡ length letters * width
rows_length each guards width [] filters h = rw h (omega arith)
rows_length each guards width (b ∷ letters) filters (row, rest, r, h, e) =
    let i = rows_length each guards width letters rest h in
    let c = length-append row rest in
    let k = r.row_length in
    let q : suc (length letters) * width ≡ width + length letters * width = omega arith in
    rw e (omega arith)
