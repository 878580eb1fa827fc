-- An expression has one table, and none where it is too large.
use Rattle.std.proofs.Common.{◌≡◌, ℕ, suc, ◌+◌, ◌*◌, ◌^◌, ◌<◌, ◌≤◌, ◌⊎◌, List, [], ◌∷◌, length, get_or, inl, inr, refl, sym, ap, ◌∙◌, subst, arith}
use Rattle.std.specs.Prelude.{nat_eq}
use Rattle.std.proofs.lemmas.Option.{slice_get_within, get_or_from_slice_get}
use Rattle.probe_words.specs.declared.position_list.Positions.{Positions}
use Rattle.probe_words.specs.declared.probe.ProbeTable.{ProbeTable}
use Rattle.probe_words.specs.MarkedLetters.{IsAmong}
use Rattle.probe_words.specs.Words.{Pattern}
use Rattle.probe_words.specs.CoreForm.{core_of}
use Rattle.probe_words.specs.ProbeTables.{table_letters, table_guards, leads_each, LeadsToSet, IsReachedSet, at_start, led_to, IsTableWith, AreAllDistinct, ReachesTooMany, SameTable}
use Rattle.probe_automata.proofs.Entries.{entry_inside}
use Rattle.probe_automata.proofs.Hears.{get_among, among_slice, among_once, stays_once, same_numbers}
use Rattle.probe_automata.proofs.OneTable.{tables_same}
use Rattle.probe_numbers.specs.PatternTables.{IsTableOfPattern, IsTooLarge}
use Rattle.probe_numbers.proofs.SamePositions.{one_set, too_many, guards_as_many, table_carried}

-- ---- no more distinct elements than there are places

-- a list without one of its elements
without : (x : ℕ) (ys : List ℕ) → IsAmong x ys → (zs : List ℕ) × (length ys ≡ suc (length zs)) × ((y : ℕ) → IsAmong y ys → (y ≡ x) ⊎ IsAmong y zs)
without x [] h = absurd h
without x (z ∷ ys) (inl e) = (ys, refl, λ y k. elim k [ inl f ↦ inl (f ∙ sym e) | inr g ↦ inr g ])
without x (z ∷ ys) (inr h) =
    let (zs, l, split) = without x ys h in
    (z ∷ zs, ap suc l, λ y k. elim k [ inl f ↦ inr (inl f) | inr g ↦ elim (split y g) [ inl same ↦ inl same | inr other ↦ inr (inr other) ] ])

distinct_fit : (xs ys : List ℕ) → AreAllDistinct xs → ((x : ℕ) → IsAmong x xs → IsAmong x ys) → length xs ≤ length ys
distinct_fit [] ys d f = omega arith
distinct_fit (x ∷ xs) ys d f =
    let (zs, l, split) = without x ys (f x (inl refl)) in
    let m : length xs ≤ length zs = distinct_fit xs zs d.1 (λ y h. elim (split y (f y (inr h))) [ inl e ↦ absurd (d.0 (subst (λ (w : ℕ). IsAmong w xs) e h)) | inr k ↦ k ]) in
    omega arith

-- ---- the sets of a table are all that are reached

reached_among : (p : Positions) (t : ProbeTable) (sets leads : List ℕ) → IsTableWith p t sets leads → (x : ℕ) → IsReachedSet p x → IsAmong x sets
reached_among p t sets leads is _ at_start = subst (λ (z : List ℕ). IsAmong 0 z) (sym is.sets_are) (stays_once nat_eq same_numbers leads (0 ∷ []) 0 (inl refl))
reached_among p t sets leads is x (led_to {set = set} {v = v} {letter = letter} r i n to) =
    let (q, s) = among_slice sets set (reached_among p t sets leads is set r) in
    let w : q < length sets = slice_get_within sets q set s in
    let (a, b) = among_slice (table_letters p) letter i in
    let c = slice_get_within (table_letters p) a letter b in
    let inner : a * 2 ^ length (table_guards p) + v < leads_each p = entry_inside a (length (table_letters p)) (2 ^ length (table_guards p)) v c n in
    let whole : q * leads_each p + (a * 2 ^ length (table_guards p) + v) < length leads = (let f = entry_inside q (length sets) (leads_each p) (a * 2 ^ length (table_guards p) + v) w inner in let d = is.leads_are.leads_count in omega arith) in
    let g : get_or sets q 0 ≡ set = get_or_from_slice_get sets q set 0 s in
    let f = is.leads_are.each_lead q a v letter w b n in
    let h : LeadsToSet p set letter v (get_or leads (q * leads_each p + (a * 2 ^ length (table_guards p) + v)) 0) = subst (λ (z : ℕ). LeadsToSet p z letter v (get_or leads (q * leads_each p + (a * 2 ^ length (table_guards p) + v)) 0)) g f in
    let e : get_or leads (q * leads_each p + (a * 2 ^ length (table_guards p) + v)) 0 ≡ x = one_set _ x (λ y. (λ k. (to y).1 ((h y).0 k), λ k. (h y).1 ((to y).0 k))) in
    subst (λ (z : List ℕ). IsAmong x z) (sym is.sets_are)
    (among_once nat_eq same_numbers leads (0 ∷ []) x (subst (λ (z : ℕ). IsAmong z leads) e (get_among leads (q * leads_each p + (a * 2 ^ length (table_guards p) + v)) whole)))

few_reached : (p : Positions) (t : ProbeTable) (sets leads : List ℕ) → IsTableWith p t sets leads → ¬ ReachesTooMany p
few_reached p t sets leads is (others, many, distinct, each) =
    let l : length others ≤ length sets = distinct_fit others sets distinct (λ x h. reached_among p t sets leads is x (each x h)) in
    let f : length sets ≤ 1024 = is.few_states in
    omega arith

pub one_table : (r : Pattern) (t u : ProbeTable) → IsTableOfPattern r t → IsTableOfPattern r u → SameTable t u
one_table r t u (few, (p, a, (ss, ls, one))) (_, (q, b, (ts, ms, two))) = tables_same p t u ss ls ts ms one (table_carried (core_of r) q p b a u ts ms two)

pub not_too_large : (r : Pattern) (t : ProbeTable) → IsTableOfPattern r t → ¬ IsTooLarge r
not_too_large r t (few, (p, a, (ss, ls, is))) (inl many) = omega arith
not_too_large r t (few, (p, a, (ss, ls, is))) (inr (_, (q, b, inl guards))) =
    let g : length (table_guards p) ≡ length (table_guards q) = guards_as_many (core_of r) p q a b in let f : length (table_guards p) ≤ 4 = is.few_guards in omega arith
not_too_large r t (few, (p, a, (ss, ls, is))) (inr (_, (q, b, inr (some, states)))) = few_reached p t ss ls is (too_many (core_of r) q p b a states)
