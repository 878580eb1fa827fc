-- Some positions have one table.
use Rattle.std.proofs.Common.{◌≡◌, ◌≢◌, ℕ, zero, suc, ◌+◌, ◌*◌, ◌-◌, ◌≤◌, ◌<◌, ◌^◌, if◌then◌else◌, Bool, true, false, List, [], ◌∷◌, ◌++◌, map, take, drop, ◌⊎◌, ◌↔◌, inl, inr, refl, sym, ap, arith, length, get_or, ◌∙◌, subst, length-append, append_assoc, Some}
use Rattle.std.specs.Prelude.{slice_get, nat_eq}
use Rattle.std.specs.Int.{bit_at}
use Rattle.std.proofs.lemmas.Bool.{cases_eq}
use Rattle.std.proofs.lemmas.List.{get_or_append_left}
use Rattle.std.proofs.lemmas.Nat.{mul-le}
use Rattle.std.proofs.lemmas.Nat.Bits.{bit_at-lt, same_from_bits}
use Rattle.std.proofs.lemmas.Option.{slice_get_within, slice_get_cases, get_or_from_slice_get}
use Rattle.probe_words.specs.declared.letter.Letter.{Letter}
use Rattle.probe_words.specs.declared.position_list.Positions.{Positions}
use Rattle.probe_words.specs.declared.probe.ProbeTable.{ProbeTable}
use Rattle.probe_words.specs.MarkedLetters.{IsAmong}
use Rattle.probe_words.specs.Sets.{HasMember}
use Rattle.probe_words.specs.ProbeTables.{is_among_by, with_new_by, by_first_places, table_letters, table_guards, leads_each, LeadsToSet, IsReachedSet, at_start, led_to, state_number_of, IsTableWith, AreAllDistinct, SameTable}
use Rattle.probe_words.proofs.KindsOfSequences.{append_nil}
use Rattle.probe_automata.proofs.Exploration.{all_taken}
use Rattle.probe_automata.proofs.FirstPlaces.{by_first_places-append}
use Rattle.probe_automata.proofs.Tables.{numbering_once, distinct_numbering}
use Rattle.probe_automata.proofs.Entries.{entry_inside}
use Rattle.probe_automata.proofs.Hears.{among_once, stays_once, among_slice, same_numbers}

-- ---- lists

take_same : (n : ℕ) (xs ys : List ℕ) → n ≤ length xs → n ≤ length ys → ((i : ℕ) → i < n → get_or xs i 0 ≡ get_or ys i 0) → take n xs ≡ take n ys
take_same zero xs ys l m f = refl
take_same (suc n) [] ys l m f = absurd (omega arith)
take_same (suc n) (x ∷ xs) [] l m f = absurd (omega arith)
take_same (suc n) (x ∷ xs) (y ∷ ys) l m f =
    let h : x ≡ y = f 0 (omega arith) in
    let t = take_same n xs ys (omega arith) (omega arith) (λ i k. f (suc i) (omega arith)) in
    cc

all_same : (xs ys : List ℕ) → length xs ≡ length ys → ((i : ℕ) → i < length xs → get_or xs i 0 ≡ get_or ys i 0) → xs ≡ ys
all_same xs ys l f = sym (all_taken xs (length xs) (omega arith)) ∙ take_same (length xs) xs ys (omega arith) (omega arith) f ∙ all_taken ys (length xs) (omega arith)

taken_among : (n : ℕ) (xs : List ℕ) (i : ℕ) → i < n → i < length xs → IsAmong (get_or xs i 0) (take n xs)
taken_among zero xs i l m = absurd (omega arith)
taken_among (suc n) [] i l m = absurd (omega arith)
taken_among (suc n) (x ∷ xs) zero l m = inl refl
taken_among (suc n) (x ∷ xs) (suc i) l m = inr (taken_among n xs i (omega arith) (omega arith))

take_drop : (n : ℕ) (xs : List ℕ) → take n xs ++ drop n xs ≡ xs
take_drop zero xs = refl
take_drop (suc n) [] = refl
take_drop (suc n) (x ∷ xs) = ap (λ (z : List ℕ). x ∷ z) (take_drop n xs)

once_grows : (xs done : List ℕ) → (more : List ℕ) × (by_first_places nat_eq done xs ≡ done ++ more)
once_grows [] done = ([], sym (append_nil done))
once_grows (x ∷ xs) done =
    let (more, e) = once_grows xs (with_new_by nat_eq done x) in
    let (new, f) = grows (is_among_by nat_eq x done) in
    (new ++ more, e ∙ ap (λ (z : List ℕ). z ++ more) f ∙ append_assoc done new more)
  where
    grows : (b : Bool) → (new : List ℕ) × ((if b then done else done ++ x ∷ []) ≡ done ++ new)
    grows true = ([], sym (append_nil done))
    grows false = (x ∷ [], refl)

distinct_apart : (xs ys : List ℕ) (y : ℕ) → AreAllDistinct (xs ++ y ∷ ys) → IsAmong y xs → ⊥
distinct_apart [] ys y d h = h
distinct_apart (x ∷ xs) ys y d (inl e) = d.0 (subst (λ (z : ℕ). IsAmong z (xs ++ y ∷ ys)) e (behind xs))
  where
    behind : (zs : List ℕ) → IsAmong y (zs ++ y ∷ ys)
    behind [] = inl refl
    behind (z ∷ zs) = inr (behind zs)
distinct_apart (x ∷ xs) ys y d (inr h) = distinct_apart xs ys y d.1 h

split_lt : (a b : ℕ) → (a < b) ⊎ (b ≤ a)
split_lt a b = grind arith

-- a place within so many rows is one of a row
row_place : (i rows width : ℕ) → i < rows * width → (q : ℕ) × (r : ℕ) × (q < rows) × (r < width) × (i ≡ q * width + r)
row_place i zero width l = absurd (let e : 0 * width ≡ 0 = omega arith in omega arith)
row_place i (suc rows) width l =
    elim (split_lt i (rows * width)) [
      | inl k ↦ (let (q, r, a, b, e) = row_place i rows width k in (q, r, omega arith, b, e))
      | inr k ↦ (rows, i - rows * width, omega arith, (let e : suc rows * width ≡ rows * width + width = omega arith in omega arith), omega arith)
    ]

-- ---- one table

-- two numbers that have i or both don't have equal bits there
member_same : (x y i : ℕ) → HasMember x i ↔ HasMember y i → bit_at x i ≡ bit_at y i
member_same x y i f = go (cases_eq (bit_at x i) 1)
  where
    zeros : (a b : ℕ) → a < 2 → b < 2 → a ≢ 1 → b ≢ 1 → a ≡ b
    zeros a b l m n o = grind arith

    go : (bit_at x i ≡ 1) ⊎ (bit_at x i ≢ 1) → bit_at x i ≡ bit_at y i
    go (inl e) = e ∙ sym (f.0 e)
    go (inr n) = zeros (bit_at x i) (bit_at y i) (bit_at-lt x i) (bit_at-lt y i) n (λ e. n (f.1 e))

same_lead : (p : Positions) (set : ℕ) (letter : Letter) (v x y : ℕ) → LeadsToSet p set letter v x → LeadsToSet p set letter v y → x ≡ y
same_lead p set letter v x y f g = same_from_bits x y (λ i. member_same x y i (λ h. (g i).1 ((f i).0 h), λ h. (f i).1 ((g i).0 h)))

module _ (p : Positions) where
  -- a place in a row is that of a letter and a valuation
  lead_place : (r : ℕ) → r < leads_each p → (a : ℕ) × (v : ℕ) × (letter : Letter) × (slice_get (table_letters p) a ≡ Some letter) × (v < 2 ^ length (table_guards p)) × (r ≡ a * 2 ^ length (table_guards p) + v)
  lead_place r l =
      let (a, v, k, m, e) = row_place r (length (table_letters p)) (2 ^ length (table_guards p)) l in
      elim (slice_get_cases (table_letters p) a).1 [
        | inl (x, j, s, d) ↦ (a, v, x, s, m, e)
        | inr o ↦ absurd (let z = o.0 in omega arith)
      ]

  module _ (t u : ProbeTable) (ss ls ts ms : List ℕ) (one : IsTableWith p t ss ls) (two : IsTableWith p u ts ms) where
    entry_same : (q r : ℕ) → q < length ss → q < length ts → get_or ss q 0 ≡ get_or ts q 0 → r < leads_each p → get_or ls (q * leads_each p + r) 0 ≡ get_or ms (q * leads_each p + r) 0
    entry_same q r k l e m =
        let (a, v, letter, s, n, i) = lead_place r m in
        let f = one.leads_are.each_lead q a v letter k s n in
        let g = two.leads_are.each_lead q a v letter l s n in
        rw i (same_lead p (get_or ss q 0) letter v _ _ f (subst (λ (z : ℕ). LeadsToSet p z letter v (get_or ms (q * leads_each p + (a * 2 ^ length (table_guards p) + v)) 0)) (sym e) g))

    -- as far as the sets agree, the sets to which they lead agree
    leads_same : (k : ℕ) → k ≤ length ss → k ≤ length ts → ((q : ℕ) → q < k → get_or ss q 0 ≡ get_or ts q 0) → take (k * leads_each p) ls ≡ take (k * leads_each p) ms
    leads_same k l m f =
        take_same (k * leads_each p) ls ms (let c = one.leads_are.leads_count in let n = mul-le k (leads_each p) (length ss) (leads_each p) l (omega arith) in omega arith)
        (let c = two.leads_are.leads_count in let n = mul-le k (leads_each p) (length ts) (leads_each p) m (omega arith) in omega arith)
        (λ i n. let (q, r, a, b, e) = row_place i k (leads_each p) n in rw e (entry_same q r (omega arith) (omega arith) (f q a) b))

  -- the sets, numbered through the leads of the first k of them
  abbrev found : ℕ → List ℕ → List ℕ
  found k leads = by_first_places nat_eq (0 ∷ []) (take (k * leads_each p) leads)

  module _ (t : ProbeTable) (sets leads : List ℕ) (is : IsTableWith p t sets leads) where
    sets_found : (k : ℕ) → (more : List ℕ) × (sets ≡ found k leads ++ more)
    sets_found k =
        let (more, e) = once_grows (drop (k * leads_each p) leads) (found k leads) in
        (more, is.sets_are ∙ ap (λ (z : List ℕ). by_first_places nat_eq (0 ∷ []) z) (sym (take_drop (k * leads_each p) leads)) ∙ by_first_places-append nat_eq (0 ∷ []) (take (k * leads_each p) leads) (drop (k * leads_each p) leads) ∙ e)

    set_found : (k q : ℕ) → q < length (found k leads) → get_or sets q 0 ≡ get_or (found k leads) q 0
    set_found k q l = let (more, e) = sets_found k in ap (λ (z : List ℕ). get_or z q 0) e ∙ get_or_append_left (found k leads) more 0 q l

    -- where each set found is among the first k, each set that is reached is found
    reached_found : (k : ℕ) → length (found k leads) ≤ k → k ≤ length sets → (x : ℕ) → IsReachedSet p x → IsAmong x (found k leads)
    reached_found k l m _ at_start = stays_once nat_eq same_numbers (take (k * leads_each p) leads) (0 ∷ []) 0 (inl refl)
    reached_found k l m x (led_to {set = set} {v = v} {letter = letter} r i n to) =
        let (q, s) = among_slice (found k leads) set (reached_found k l m set r) in
        let w = slice_get_within (found k leads) q set s in
        let (a, b) = among_slice (table_letters p) letter i in
        let c = slice_get_within (table_letters p) a letter b in
        let inner : a * 2 ^ length (table_guards p) + v < leads_each p = entry_inside a (length (table_letters p)) (2 ^ length (table_guards p)) v c n in
        let here : q * leads_each p + (a * 2 ^ length (table_guards p) + v) < k * leads_each p = entry_inside q k (leads_each p) (a * 2 ^ length (table_guards p) + v) (omega arith) inner in
        let whole : q * leads_each p + (a * 2 ^ length (table_guards p) + v) < length leads = (let f = entry_inside q (length sets) (leads_each p) (a * 2 ^ length (table_guards p) + v) (omega arith) inner in let d = is.leads_are.leads_count in omega arith) in
        let g : get_or sets q 0 ≡ set = set_found k q w ∙ get_or_from_slice_get (found k leads) q set 0 s in
        let f = is.leads_are.each_lead q a v letter (omega arith) b n in
        let e : get_or leads (q * leads_each p + (a * 2 ^ length (table_guards p) + v)) 0 ≡ x = same_lead p set letter v _ x (subst (λ (z : ℕ). LeadsToSet p z letter v (get_or leads (q * leads_each p + (a * 2 ^ length (table_guards p) + v)) 0)) g f) to in
        among_once nat_eq same_numbers (take (k * leads_each p) leads) (0 ∷ []) x (subst (λ (z : ℕ). IsAmong z (take (k * leads_each p) leads)) e (taken_among (k * leads_each p) leads (q * leads_each p + (a * 2 ^ length (table_guards p) + v)) here whole))

    are_distinct : AreAllDistinct sets
    are_distinct = subst AreAllDistinct (numbering_once (0 ∷ []) leads ∙ sym is.sets_are) (distinct_numbering leads (0 ∷ []) ((λ a. a), tt))

    all_found : (k : ℕ) → length (found k leads) ≤ k → k ≤ length sets → sets ≡ found k leads
    all_found k l m = let (more, e) = sets_found k in go more e
      where
        go : (more : List ℕ) → sets ≡ found k leads ++ more → sets ≡ found k leads
        go [] e = e ∙ append_nil (found k leads)
        go (x ∷ more) e =
            absurd (distinct_apart (found k leads) more x (subst AreAllDistinct e are_distinct)
            (reached_found k l m x (is.sets_reached x (subst (λ (z : List ℕ). IsAmong x z) (sym e) (behind (found k leads))))))
          where
            behind : (zs : List ℕ) → IsAmong x (zs ++ x ∷ more)
            behind [] = inl refl
            behind (z ∷ zs) = inr (behind zs)

  module _ (t u : ProbeTable) (ss ls ts ms : List ℕ) (one : IsTableWith p t ss ls) (two : IsTableWith p u ts ms) where
    sets_same : (fuel k : ℕ) → length ss ≤ k + fuel → k ≤ length ss → k ≤ length ts → ((q : ℕ) → q < k → get_or ss q 0 ≡ get_or ts q 0) → ss ≡ ts
    sets_same zero k b l m f =
        let h : found k ls ≡ found k ms = ap (λ (z : List ℕ). by_first_places nat_eq (0 ∷ []) z) (leads_same t u ss ls ts ms one two k l m f) in
        let (more, e) = sets_found t ss ls one k in
        let c = ap (λ (z : List ℕ). length z) e in
        let d = length-append (found k ls) more in
        let g = ap (λ (z : List ℕ). length z) h in
        all_found t ss ls one k (omega arith) l ∙ h ∙ sym (all_found u ts ms two k (omega arith) m)
    sets_same (suc fuel) k b l m f =
        let h : found k ls ≡ found k ms = ap (λ (z : List ℕ). by_first_places nat_eq (0 ∷ []) z) (leads_same t u ss ls ts ms one two k l m f) in
        let g = ap (λ (z : List ℕ). length z) h in
        elim (split_lt k (length (found k ls))) [
          | inl n ↦ (
              let (more, e) = sets_found t ss ls one k in
              let (rest, d) = sets_found u ts ms two k in
              let x = ap (λ (z : List ℕ). length z) e in
              let y = ap (λ (z : List ℕ). length z) d in
              let v = length-append (found k ls) more in
              let w = length-append (found k ms) rest in
              let here : get_or ss k 0 ≡ get_or ts k 0 = set_found t ss ls one k k n ∙ ap (λ (z : List ℕ). get_or z k 0) h ∙ sym (set_found u ts ms two k k (omega arith)) in
              sets_same fuel (k + 1) (omega arith) (omega arith) (omega arith) (λ q i. elim (split_lt q k) [ inl j ↦ f q j | inr j ↦ (let z : q ≡ k = omega arith in rw z here) ]))
          | inr n ↦ all_found t ss ls one k n l ∙ h ∙ sym (all_found u ts ms two k (omega arith) m)
        ]

    pub tables_same : SameTable t u
    tables_same =
        let s : ss ≡ ts = sets_same (length ss) 0 (omega arith) (omega arith) (omega arith) (λ q i. absurd (omega arith)) in
        let n : length ss ≡ length ts = ap (λ (z : List ℕ). length z) s in
        let c : length ls ≡ length ss * leads_each p = one.leads_are.leads_count in
        let d : length ms ≡ length ss * leads_each p = two.leads_are.leads_count ∙ ap (λ (z : ℕ). z * leads_each p) (sym n) in
        let m : ls ≡ ms = sym (all_taken ls (length ss * leads_each p) (omega arith)) ∙ leads_same t u ss ls ts ms one two (length ss) (omega arith) (omega arith) (λ q i. ap (λ (z : List ℕ). get_or z q 0) s) ∙ all_taken ms (length ss * leads_each p) (omega arith) in
        record {
          same_states = one.states_are ∙ n ∙ sym two.states_are;
          same_letters = one.letters_are ∙ sym two.letters_are;
          same_guards = one.guards_are ∙ sym two.guards_are;
          same_moves = one.moves_are ∙ ap (λ (z : List ℕ). map (λ x. state_number_of z x) ls) s ∙ ap (λ (z : List ℕ). map (λ x. state_number_of ts x) z) m ∙ sym two.moves_are;
          same_signals = all_same t.signals u.signals (t.shape.signals_count ∙ one.states_are ∙ n ∙ sym (u.shape.signals_count ∙ two.states_are)) (λ q i.
              same_from_bits (get_or t.signals q 0) (get_or u.signals q 0) (λ l. member_same (get_or t.signals q 0) (get_or u.signals q 0) l (both q l (let e = t.shape.signals_count in let o = one.states_are in omega arith) n (ap (λ (z : List ℕ). get_or z q 0) s))));
        }
      where
        both : (q l : ℕ) → q < length ss → length ss ≡ length ts → get_or ss q 0 ≡ get_or ts q 0 → HasMember (get_or t.signals q 0) l ↔ HasMember (get_or u.signals q 0) l
        both q l i n e = (
          λ h. let (y, x, m, a, b) = (one.signals_are q l i).0 h in (two.signals_are q l (omega arith)).1 (y, x, subst (λ (z : ℕ). HasMember z y) e m, a, b),
          λ h. let (y, x, m, a, b) = (two.signals_are q l (omega arith)).0 h in (one.signals_are q l i).1 (y, x, subst (λ (z : ℕ). HasMember z y) (sym e) m, a, b),
        )
