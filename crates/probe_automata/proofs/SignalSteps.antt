-- The loops that collect labels.
use Rattle.std.proofs.Common.{◌≡◌, ℕ, ◌+◌, ◌-◌, ◌≤◌, ◌<◌, ◌↔◌, List, [], ◌∷◌, ◌++◌, inl, inr, refl, sym, ap, arith, length, get_or, ◌∙◌, subst, Some, length-append}
use Rattle.std.specs.Prelude.{slice_get, slice_index, bit_or}
use Rattle.std.proofs.lemmas.Option.{slice_get_within, slice_get_read, get_or_from_slice_get}
use Rattle.std.proofs.lemmas.List.{get_or_append_left, get_or-append_right}
use Rattle.probe_words.specs.declared.position_list.Position.{Position}
use Rattle.probe_words.specs.Sets.{HasMember}
use Rattle.probe_words.proofs.Sets.{split_lt, has_or, or_left, or_right}
use Rattle.probe_automata.specs.Signals.{AreLabelsOf, AreSignals}

-- the labels of the sets so far
pub record SignalsSoFar (each : List Position) (sets : List ℕ) (n : ℕ) (signals : List ℕ) : Type 0 where
  pub far : n ≤ length sets
  pub done : length signals ≡ n
  pub of_each : (q : ℕ) → q < n → AreLabelsOf each (slice_index sets q) (slice_index signals q)

abbrev pub HasLabelBefore : List Position → ℕ → ℕ → ℕ → Type 0
HasLabelBefore each set n m = (y : ℕ) × (x : Position) × HasMember set y × (slice_get each y ≡ Some x) × HasMember x.labels m × (y < n)

pub labels_more : (each : List Position) (set at labels now : ℕ) (x : Position) → at < length each → x ≡ get_or each at x → HasMember set at → now ≡ bit_or labels x.labels → ((m : ℕ) → HasMember labels m ↔ HasLabelBefore each set at m) → (m : ℕ) → HasMember now m ↔ HasLabelBefore each set (at + 1) m
labels_more each set at labels now x l e b w h m = (
  λ q. elim (has_or labels x.labels m (rw w at q)) [
    | inl k ↦ (let (y, z, s, g, r, n) = (h m).0 k in (y, z, s, g, r, omega arith))
    | inr k ↦ (at, x, b, slice_get_read each (length each) at x refl l e, k, omega arith)
  ],
  λ (y, z, s, g, r, n). rw w (
      elim (split_lt y at) [
        | inl k ↦ or_left labels x.labels m ((h m).1 (y, z, s, g, r, k))
        | inr k ↦ or_right labels x.labels m (let q : y ≡ at = omega arith in subst (λ (p : Position). HasMember p.labels m) (same y z q g) r)
      ]),
)
  where
    same : (y : ℕ) (z : Position) → y ≡ at → slice_get each y ≡ Some z → z ≡ x
    same y z q g = let t : slice_get each at ≡ Some x = slice_get_read each (length each) at x refl l e in let u : slice_get each y ≡ slice_get each at = ap (λ (k : ℕ). slice_get each k) q in cc

pub labels_skip : (each : List Position) (set at labels : ℕ) → (HasMember set at → ⊥) → ((m : ℕ) → HasMember labels m ↔ HasLabelBefore each set at m) → (m : ℕ) → HasMember labels m ↔ HasLabelBefore each set (at + 1) m
labels_skip each set at labels b h m = (
  λ q. let (y, z, s, g, r, n) = (h m).0 q in (y, z, s, g, r, omega arith),
  λ (y, z, s, g, r, n). (h m).1 (
    y,
    z,
    s,
    g,
    r,
    elim (split_lt y at) [
      | inl k ↦ k
      | inr k ↦ absurd (let q : y ≡ at = omega arith in b (subst (λ (p : ℕ). HasMember set p) q s))
    ],
  ),
)

pub labels_all : (each : List Position) (set at labels : ℕ) → length each ≤ at → ((m : ℕ) → HasMember labels m ↔ HasLabelBefore each set at m) → AreLabelsOf each set labels
labels_all each set at labels l h m = (
  λ q. let (y, z, s, g, r, n) = (h m).0 q in (y, z, s, g, r),
  λ (y, z, s, g, r). (h m).1 (y, z, s, g, r, let w = slice_get_within each y z g in omega arith),
)

pub signals_start : (each : List Position) (sets signals : List ℕ) → signals ≡ [] → SignalsSoFar each sets 0 signals
signals_start each sets signals e = record { far = omega arith; done = rw e refl; of_each = λ q l. absurd (omega arith) }

pub signals_step : (each : List Position) (sets : List ℕ) (n : ℕ) (signals more : List ℕ) (set labels : ℕ) → SignalsSoFar each sets n signals → slice_get sets n ≡ Some set → AreLabelsOf each set labels → more ≡ signals ++ labels ∷ [] → SignalsSoFar each sets (n + 1) more
signals_step each sets n signals more set labels s g a m =
    let w = slice_get_within sets n set g in
    let r : get_or sets n 0 ≡ set = get_or_from_slice_get sets n set 0 g in
    record {
      far = omega arith;
      done = ap (λ (z : List ℕ). length z) m ∙ length-append signals (labels ∷ []) ∙ ap (λ (z : ℕ). z + 1) s.done;
      of_each = λ q l. rw m (elim (split_lt q n) [
        | inl k ↦ subst (λ (z : ℕ). AreLabelsOf each (get_or sets q 0) z) (sym (get_or_append_left signals (labels ∷ []) 0 q (let d = s.done in omega arith))) (s.of_each q k)
        | inr k ↦ (
            let z : n ≡ q = omega arith in
            let d : q - length signals ≡ 0 = let c = s.done in omega arith in
            let f : get_or (signals ++ labels ∷ []) q 0 ≡ labels = get_or-append_right signals (labels ∷ []) (length signals) q 0 refl (let c = s.done in omega arith) ∙ ap (λ (i : ℕ). get_or (labels ∷ []) i 0) d in
            subst (λ (i : ℕ). AreLabelsOf each (get_or sets q 0) i) (sym f) (subst (λ (i : ℕ). AreLabelsOf each i labels) (sym r ∙ ap (λ (i : ℕ). get_or sets i 0) z) a))
      ]);
    }

pub signals_all : (each : List Position) (sets : List ℕ) (n : ℕ) (signals : List ℕ) → SignalsSoFar each sets n signals → length sets ≤ n → AreSignals each sets signals
signals_all each sets n signals s l = record { signals_length = (let a = s.done in let b = s.far in omega arith); signals_of = λ q k. s.of_each q (omega arith) }
