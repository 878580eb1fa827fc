-- All positions of an expression are alike in what a table reads: their letters, guards and labels, and the sets of them.
use Rattle.std.proofs.Common.{◌≡◌, ℕ, suc, ◌+◌, ◌*◌, ◌^◌, ◌<◌, ◌≤◌, ◌⊎◌, ◌↔◌, List, [], ◌∷◌, ◌++◌, map, length, Some, inl, inr, refl, sym, ap, ap₂, ◌∙◌, subst, arith}
use Rattle.std.specs.Prelude.{slice_get, slice_index, flat_map}
use Rattle.std.proofs.lemmas.Nat.Bits.{same_from_bits, bit_at-lt}
use Rattle.std.proofs.lemmas.Bool.{cases_eq}
use Rattle.std.proofs.lemmas.Option.{slice_get_within, slice_get_cases}
use Rattle.std.specs.Int.{bit_at}
use Rattle.probe_words.specs.declared.letter.Letter.{Letter}
use Rattle.probe_words.specs.declared.position_list.Position.{Position}
use Rattle.probe_words.specs.declared.position_list.Positions.{Positions}
use Rattle.probe_words.specs.declared.probe.ProbeTable.{ProbeTable}
use Rattle.probe_words.specs.Guards.{Condition, same_condition}
use Rattle.probe_words.specs.MarkedLetters.{IsAmong, GuardedLetter}
use Rattle.probe_words.specs.Twins.{condition_of}
use Rattle.probe_words.specs.Sets.{HasMember}
use Rattle.probe_words.specs.Core.{Core}
use Rattle.probe_words.specs.PositionsOf.{position_letter, ArePositions}
use Rattle.probe_words.specs.ProbeTables.{same_letter, by_first_places, table_letters, table_guards, leads_each, CanFollow, SaysHolds, IsOpenAt, LeadsToSet, IsReachedSet, at_start, led_to, AreLeads, IsTableWith, ReachesTooMany}
use Rattle.probe_words.proofs.OneLetter.{at_one}

-- sets with the same members are one
pub one_set : (x y : ℕ) → ((i : ℕ) → HasMember x i ↔ HasMember y i) → x ≡ y
one_set x y f = same_from_bits x y (λ i. by_bit i (cases_eq (bit_at x i) 1))
  where
    zeros : (a b : ℕ) → a < 2 → b < 2 → (¬ (a ≡ 1)) → (¬ (b ≡ 1)) → a ≡ b
    zeros a b l m n o = grind arith

    by_bit : (i : ℕ) → (bit_at x i ≡ 1) ⊎ (¬ (bit_at x i ≡ 1)) → bit_at x i ≡ bit_at y i
    by_bit i (inl e) = e ∙ sym ((f i).0 e)
    by_bit i (inr n) = zeros (bit_at x i) (bit_at y i) (bit_at-lt x i) (bit_at-lt y i) n (λ e. n ((f i).1 e))

-- positions that are alike, place by place
abbrev AreAlike : List Position → List Position → Type 0
AreAlike xs ys = (i : ℕ) (x y : Position) → slice_get xs i ≡ Some x → slice_get ys i ≡ Some y → position_letter x ≡ position_letter y

same_letters : (xs ys : List Position) → length xs ≡ length ys → AreAlike xs ys → map (λ x. x.letter) xs ≡ map (λ x. x.letter) ys
same_letters [] [] l h = refl
same_letters [] (y ∷ ys) l h = absurd (omega arith)
same_letters (x ∷ xs) [] l h = absurd (omega arith)
same_letters (x ∷ xs) (y ∷ ys) l h =
    ap₂ (λ (a : Letter) (z : List Letter). a ∷ z) (ap (λ (m : GuardedLetter). m.letter) (h 0 x y refl refl)) (same_letters xs ys (omega arith) (λ i. h (suc i)))

same_guards : (xs ys : List Position) → length xs ≡ length ys → AreAlike xs ys → flat_map (λ x. map condition_of x.guards) xs ≡ flat_map (λ x. map condition_of x.guards) ys
same_guards [] [] l h = refl
same_guards [] (y ∷ ys) l h = absurd (omega arith)
same_guards (x ∷ xs) [] l h = absurd (omega arith)
same_guards (x ∷ xs) (y ∷ ys) l h =
    ap₂ (λ (w z : List Condition). w ++ z) (ap (λ (m : GuardedLetter). m.guards) (h 0 x y refl refl)) (same_guards xs ys (omega arith) (λ i. h (suc i)))

module _ (r : Core) (p q : Positions) (a : ArePositions r p) (b : ArePositions r q) where
  first_same : p.first ≡ q.first
  first_same = one_set p.first q.first (λ i. (λ h. (b.first_is i).1 ((a.first_is i).0 h), λ h. (a.first_is i).1 ((b.first_is i).0 h)))

  last_same : p.last ≡ q.last
  last_same = one_set p.last q.last (λ i. (λ h. (b.last_is i).1 ((a.last_is i).0 h), λ h. (a.last_is i).1 ((b.last_is i).0 h)))

  are_alike : AreAlike p.each q.each
  are_alike i x y e f = at_one r 0 i (position_letter x) (position_letter y) (a.marks_are i x e) (b.marks_are i y f)

  letters_same : table_letters p ≡ table_letters q
  letters_same = ap (λ (z : List Letter). by_first_places same_letter [] z) (same_letters p.each q.each (a.count ∙ sym b.count) are_alike)

  guards_same : table_guards p ≡ table_guards q
  guards_same = ap (λ (z : List Condition). by_first_places same_condition [] z) (same_guards p.each q.each (a.count ∙ sym b.count) are_alike)

  -- the position of the other ones at a place
  other_at : (i : ℕ) (x : Position) → slice_get p.each i ≡ Some x → (y : Position) × (slice_get q.each i ≡ Some y)
  other_at i x e =
      let l : i < length p.each = slice_get_within p.each i x e in
      let n : length p.each ≡ length q.each = a.count ∙ sym b.count in
      elim (slice_get_cases q.each i).1 [
        | inl (y, j, s, d) ↦ (y, s)
        | inr o ↦ absurd (let z = o.0 in omega arith)
      ]

  can_follow : (set y : ℕ) → CanFollow p set y → CanFollow q set y
  can_follow set y (inl (e, h)) = inl (e, subst (λ (z : ℕ). HasMember z y) first_same h)
  can_follow set y (inr (x, m, inl h)) = inr (x, m, inl ((b.follow_are x y).1 ((a.follow_are x y).0 h)))
  can_follow set y (inr (x, m, inr (l, f))) =
      inr (x, m, inr (subst (λ (z : ℕ). HasMember z x) last_same l, subst (λ (z : ℕ). HasMember z y) first_same f))

  open_at : (letter : Letter) (v y : ℕ) → IsOpenAt p letter v y → IsOpenAt q letter v y
  open_at letter v y (x, e, is, holds) =
      let (other, f) = other_at y x e in
      let same : position_letter x ≡ position_letter other = are_alike y x other e f in (
        other,
        f,
        sym (ap (λ (m : GuardedLetter). m.letter) same) ∙ is,
        λ g among. subst (λ (gs : List Condition). SaysHolds gs v g) guards_same (holds g (subst (λ (gs : List Condition). IsAmong g gs) (sym (ap (λ (m : GuardedLetter). m.guards) same)) among)),
      )

  labels_kept : (i l : ℕ) (x y : Position) → slice_get p.each i ≡ Some x → slice_get q.each i ≡ Some y → HasMember x.labels l → HasMember y.labels l
  labels_kept i l x y e f h = (b.labels_are i l y f).1 ((a.labels_are i l x e).0 h)

module _ (r : Core) (p q : Positions) (a : ArePositions r p) (b : ArePositions r q) where
  leads_to : (set : ℕ) (letter : Letter) (v next : ℕ) → LeadsToSet p set letter v next → LeadsToSet q set letter v next
  leads_to set letter v next f = λ y. (
    λ h. let k = (f y).0 h in (can_follow r p q a b set y k.0, open_at r p q a b letter v y k.1),
    λ k. (f y).1 (can_follow r q p b a set y k.0, open_at r q p b a letter v y k.1),
  )

  pub reached : (x : ℕ) → IsReachedSet p x → IsReachedSet q x
  reached _ at_start = at_start
  reached x (led_to {set = set} {v = v} {letter = letter} h i n to) =
      led_to (reached set h) (subst (λ (z : List Letter). IsAmong letter z) (letters_same r p q a b) i)
      (subst (λ (z : List Condition). v < 2 ^ length z) (guards_same r p q a b) n) (leads_to set letter v x to)

  pub too_many : ReachesTooMany p → ReachesTooMany q
  too_many (sets, many, distinct, each) = (sets, many, distinct, λ set among. reached set (each set among))

  pub guards_as_many : length (table_guards p) ≡ length (table_guards q)
  guards_as_many = ap (λ (z : List Condition). length z) (guards_same r p q a b)

  each_same : leads_each p ≡ leads_each q
  each_same = ap₂ (λ (ls : List Letter) (gs : List Condition). length ls * 2 ^ length gs) (letters_same r p q a b) (guards_same r p q a b)

  leads_carried : (sets leads : List ℕ) → AreLeads p sets leads → AreLeads q sets leads
  leads_carried sets leads are = record {
    leads_count = are.leads_count ∙ ap (λ (z : ℕ). length sets * z) each_same;
    each_lead = λ s x v letter less there few.
        let f = are.each_lead s x v letter less (subst (λ (z : List Letter). slice_get z x ≡ Some letter) (sym (letters_same r p q a b)) there) (subst (λ (z : List Condition). v < 2 ^ length z) (sym (guards_same r p q a b)) few) in
        subst (λ (z : ℕ). LeadsToSet q (slice_index sets s) letter v (slice_index leads z)) (place s x v) (leads_to (slice_index sets s) letter v _ f);
  }
    where
      place : (s x v : ℕ) → s * leads_each p + (x * 2 ^ length (table_guards p) + v) ≡ s * leads_each q + (x * 2 ^ length (table_guards q) + v)
      place s x v = ap₂ (λ (m n : ℕ). s * m + (x * 2 ^ n + v)) each_same guards_as_many

  signals_carried : (t : ProbeTable) (sets : List ℕ) (s l : ℕ) → (HasMember (slice_index t.signals s) l ↔ ((y : ℕ) × (x : Position) × HasMember (slice_index sets s) y × (slice_get p.each y ≡ Some x) × HasMember x.labels l)) → HasMember (slice_index t.signals s) l ↔ ((y : ℕ) × (x : Position) × HasMember (slice_index sets s) y × (slice_get q.each y ≡ Some x) × HasMember x.labels l)
  signals_carried t sets s l f = (
    λ h. let (y, x, m, e, k) = f.0 h in let (other, g) = other_at r p q a b y x e in (y, other, m, g, labels_kept r p q a b y l x other e g k),
    λ (y, x, m, e, k). let (other, g) = other_at r q p b a y x e in f.1 (y, other, m, g, labels_kept r q p b a y l x other e g k),
  )

  pub table_carried : (t : ProbeTable) (sets leads : List ℕ) → IsTableWith p t sets leads → IsTableWith q t sets leads
  table_carried t sets leads is = record {
    letters_are = is.letters_are ∙ letters_same r p q a b;
    guards_are = is.guards_are ∙ guards_same r p q a b;
    few_guards = subst (λ (z : ℕ). z ≤ 4) guards_as_many is.few_guards;
    states_are = is.states_are;
    few_states = is.few_states;
    leads_are = leads_carried sets leads is.leads_are;
    sets_are = is.sets_are;
    sets_reached = λ set among. reached set (is.sets_reached set among);
    moves_are = is.moves_are;
    signals_are = λ s l less. signals_carried t sets s l (is.signals_are s l less);
  }
