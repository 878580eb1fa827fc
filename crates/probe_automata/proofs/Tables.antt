-- What is explored is the table.
use Rattle.std.proofs.Common.{◌≡◌, ◌≢◌, ◌==◌, ℕ, zero, suc, ◌+◌, ◌*◌, ◌-◌, ◌≤◌, ◌<◌, ◌^◌, ◌||◌, if◌then◌else◌, Bool, true, false, List, [], ◌∷◌, ◌++◌, map, ◌⊎◌, inl, inr, refl, sym, ap, arith, length, get_or, ◌∙◌, subst, eqb-true, eq-eqb, Some, Err, length-append}
use Rattle.std.specs.Prelude.{bit_and, slice_get, flat_map, nat_eq}
use Rattle.std.proofs.lemmas.List.{get_or_append_left, get_or-append_right}
use Rattle.probe_words.specs.declared.letter.Letter.{Letter}
use Rattle.probe_words.specs.declared.guard.Guard.{Guard}
use Rattle.probe_words.specs.declared.position_list.Position.{Position}
use Rattle.probe_words.specs.declared.position_list.Positions.{Positions}
use Rattle.probe_words.specs.declared.probe.ProbeTable.{ProbeTable}
use Rattle.probe_words.specs.TableShape.{HasTableShape}
use Rattle.probe_words.specs.Guards.{Condition, same_condition}
use Rattle.probe_words.specs.MarkedLetters.{IsAmong}
use Rattle.probe_words.specs.Twins.{condition_of}
use Rattle.probe_words.specs.ProbeTables.{same_letter, is_among_by, with_new_by, by_first_places, table_letters, table_guards, leads_each, LeadsToSet, IsReachedSet, at_start, led_to, AreLeads, state_number_of, IsProbeTableOf, AreAllDistinct}
use Rattle.probe_automata.specs.declared.build_fault.BuildFault.{BuildFault}
use Rattle.probe_automata.specs.declared.build_fault.BuildFault.TheVariants.{TooManyGuards, TooManyStates, Memory}
use Rattle.probe_automata.specs.Exploring.{is_in, with_new, numbering, candidates_of, row_from, rows_from, Reachable, from_start, next, IsExplored, Explores}
use Rattle.probe_automata.specs.Filters.{IsFilterOf, AreFilterRows}
use Rattle.probe_automata.specs.Signals.{AreSignals}
use Rattle.probe_automata.specs.Builds.{IsBuildAnswer}
use Rattle.probe_automata.proofs.Numbering.{in_grown, new_grows, new_in, found_place, AllIn}
use Rattle.probe_automata.proofs.FilterSteps.{rows_at, rows_length}
use Rattle.probe_automata.proofs.Candidates.{lead_is}

-- ---- lists

pub length_mapped : {X Y : Type 0} (f : X → Y) (xs : List X) → length (map f xs) ≡ length xs
length_mapped f [] = refl
length_mapped f (x ∷ xs) = ap suc (length_mapped f xs)

pub map_index : (f : ℕ → ℕ) (xs : List ℕ) (i : ℕ) → i < length xs → get_or (map f xs) i 0 ≡ f (get_or xs i 0)
map_index f [] i l = absurd (omega arith)
map_index f (x ∷ xs) zero l = refl
map_index f (x ∷ xs) (suc i) l = map_index f xs i (omega arith)

pub is_in_once : (x : ℕ) (ys : List ℕ) → is_in x ys ≡ is_among_by nat_eq x ys
is_in_once x [] = refl
is_in_once x (y ∷ ys) = ap (λ (b : Bool). (x == y) || b) (is_in_once x ys)

new_once : (sets : List ℕ) (x : ℕ) → with_new sets x ≡ with_new_by nat_eq sets x
new_once sets x = ap (λ (b : Bool). if b then sets else sets ++ x ∷ []) (is_in_once x sets)

pub numbering_once : (sets xs : List ℕ) → numbering sets xs ≡ by_first_places nat_eq sets xs
numbering_once sets [] = refl
numbering_once sets (x ∷ xs) = numbering_once (with_new sets x) xs ∙ ap (λ (z : List ℕ). by_first_places nat_eq z xs) (new_once sets x)

or_right : (a : Bool) → (a || true) ≡ true
or_right true = refl
or_right false = refl

pub among_in : (x : ℕ) (ys : List ℕ) → IsAmong x ys → is_in x ys ≡ true
among_in x [] h = absurd h
among_in x (y ∷ ys) (inl e) = rw (eq-eqb x y e) refl
among_in x (y ∷ ys) (inr h) = rw (among_in x ys h) (or_right (x == y))

pub in_among : (x : ℕ) (ys : List ℕ) → is_in x ys ≡ true → IsAmong x ys
in_among x [] e = cc
in_among x (y ∷ ys) e = go (x == y) refl (λ f. in_among x ys f) e
  where
    go : (b : Bool) → (x == y) ≡ b → (is_in x ys ≡ true → IsAmong x ys) → (b || is_in x ys) ≡ true → IsAmong x (y ∷ ys)
    go true h r f = inl (eqb-true x y h)
    go false h r f = inr (r f)

distinct_snoc : (sets : List ℕ) (x : ℕ) → is_in x sets ≡ false → AreAllDistinct sets → AreAllDistinct (sets ++ x ∷ [])
distinct_snoc [] x e d = ((λ h. h), tt)
distinct_snoc (y ∷ sets) x e d = go (x == y) refl (λ f. distinct_snoc sets x f d.1) e
  where
    other : (x == y) ≡ false → IsAmong y (sets ++ x ∷ []) → ⊥
    other h a = elim (split sets a) [ inl b ↦ d.0 b | inr b ↦ (let q = eq-eqb x y (sym b) in cc) ]
      where
        split : (zs : List ℕ) → IsAmong y (zs ++ x ∷ []) → IsAmong y zs ⊎ (y ≡ x)
        split [] (inl e) = inr e
        split [] (inr e) = absurd e
        split (z ∷ zs) (inl e) = inl (inl e)
        split (z ∷ zs) (inr e) = elim (split zs e) [ inl k ↦ inl (inr k) | inr k ↦ inr k ]

    go : (b : Bool) → (x == y) ≡ b → (is_in x sets ≡ false → AreAllDistinct (sets ++ x ∷ [])) → (b || is_in x sets) ≡ false → AreAllDistinct (y ∷ (sets ++ x ∷ []))
    go true h r f = cc
    go false h r f = (other h, r f)

pub distinct_numbering : (xs sets : List ℕ) → AreAllDistinct sets → AreAllDistinct (numbering sets xs)
distinct_numbering [] sets d = d
distinct_numbering (x ∷ xs) sets d = distinct_numbering xs (with_new sets x) (go (is_in x sets) refl)
  where
    go : (b : Bool) → is_in x sets ≡ b → AreAllDistinct (if b then sets else sets ++ x ∷ [])
    go true e = d
    go false e = distinct_snoc sets x e d

all_numbered : (xs sets : List ℕ) → AllIn xs (numbering sets xs)
all_numbered [] sets = tt
all_numbered (x ∷ xs) sets = (stays x xs (with_new sets x) (new_in sets x), all_numbered xs (with_new sets x))
  where
    stays : (x : ℕ) (xs sets : List ℕ) → is_in x sets ≡ true → is_in x (numbering sets xs) ≡ true
    stays x [] sets h = h
    stays x (y ∷ xs) sets h = let w = new_grows sets y in stays x xs (with_new sets y) (rw w.1 (in_grown x sets w.0 h))

in_index : (xs sets : List ℕ) (i : ℕ) → AllIn xs sets → i < length xs → is_in (get_or xs i 0) sets ≡ true
in_index [] sets i h l = absurd (omega arith)
in_index (x ∷ xs) sets zero h l = h.0
in_index (x ∷ xs) sets (suc i) h l = in_index xs sets i h.1 (omega arith)

-- ---- the sets to which sets lead

pub rows_index : (g : Positions) (filters sets : List ℕ) (q i width : ℕ) → length filters ≡ width → q < length sets → i < width → (q * width + i < length (rows_from g filters sets)) × (get_or (rows_from g filters sets) (q * width + i) 0 ≡ bit_and (candidates_of g (get_or sets q 0)) (get_or filters i 0))
rows_index g filters [] q i width w l k = absurd (omega arith)
rows_index g filters (x ∷ sets) zero i width w l k =
    let row : List ℕ = row_from g filters x in
    let rest : List ℕ = rows_from g filters sets in
    let n : length row ≡ width = length_mapped (λ f. bit_and (candidates_of g x) f) filters ∙ w in
    let a = length-append row rest in
    let z : 0 * width + i ≡ i = omega arith in
    rw z (omega arith, get_or_append_left row rest 0 i (omega arith) ∙ map_index (λ f. bit_and (candidates_of g x) f) filters i (omega arith))
rows_index g filters (x ∷ sets) (suc q) i width w l k =
    let row : List ℕ = row_from g filters x in
    let rest : List ℕ = rows_from g filters sets in
    let n : length row ≡ width = length_mapped (λ f. bit_and (candidates_of g x) f) filters ∙ w in
    let a = length-append row rest in
    let h = rows_index g filters sets q i width w (omega arith) k in
    let z : suc q * width + i ≡ width + (q * width + i) = omega arith in
    let y : width + (q * width + i) - width ≡ q * width + i = omega arith in
    rw z (let b = h.0 in omega arith, get_or-append_right row rest width (width + (q * width + i)) 0 n (omega arith) ∙ rw y h.1)

pub rows_count : (g : Positions) (filters sets : List ℕ) → length (rows_from g filters sets) ≡ length sets * length filters
rows_count g filters [] = omega arith
rows_count g filters (x ∷ sets) =
    let row : List ℕ = row_from g filters x in
    let n : length row ≡ length filters = length_mapped (λ f. bit_and (candidates_of g x) f) filters in
    let a = length-append row (rows_from g filters sets) in
    let h = rows_count g filters sets in
    let q : suc (length sets) * length filters ≡ length filters + length sets * length filters = omega arith in
    omega arith

-- each filter is that of a letter and a valuation
filter_from : (each : List Position) (guards : List Guard) (width : ℕ) (letters : List Letter) (filters : List ℕ) (i : ℕ) → AreFilterRows each guards width letters filters → i < length filters → (letter : Letter) × (v : ℕ) × IsAmong letter letters × (v < width) × IsFilterOf each guards v letter (get_or filters i 0)
filter_from each guards width [] filters i h l = absurd (let e = ap (λ (z : List ℕ). length z) h in omega arith)
filter_from each guards width (b ∷ letters) filters i (row, rest, r, h, e) l =
    let k = r.row_length in
    let c = length-append row rest in
    let d = ap (λ (z : List ℕ). length z) e in
    elim (split_at i (length row)) [
      | inl q ↦ (b, i, inl refl, omega arith, subst (λ (z : List ℕ). IsFilterOf each guards i b (get_or z i 0)) (sym e) (subst (λ (n : ℕ). IsFilterOf each guards i b n) (sym (get_or_append_left row rest 0 i q)) (r.row_sets i (omega arith))))
      | inr q ↦ (
          let (letter, v, m, s, f) = filter_from each guards width letters rest (i - length row) h (omega arith) in
          (letter, v, inr m, s, subst (λ (z : List ℕ). IsFilterOf each guards v letter (get_or z i 0)) (sym e) (subst (λ (n : ℕ). IsFilterOf each guards v letter n) (sym (get_or-append_right row rest (length row) i 0 refl q)) f)))
    ]
  where
    split_at : (a b : ℕ) → (a < b) ⊎ (b ≤ a)
    split_at a b = grind arith

-- the parts of a table, over the positions themselves
pub record AreParts (p : Positions) (letters : List Letter) (guards : List Guard) (filters : List ℕ) : Type 0 where
  pub parts_letters : letters ≡ table_letters p
  pub parts_guards : map condition_of guards ≡ table_guards p
  pub parts_rows : AreFilterRows p.each guards (2 ^ length guards) letters filters

pub are_parts : (p : Positions) (each : List Position) (letters ls : List Letter) (guards gs : List Guard) (filters : List ℕ) → each ≡ p.each → ls ≡ letters → gs ≡ guards → letters ≡ by_first_places same_letter [] (map (λ (x : Position). x.letter) each)
    → map condition_of guards ≡ by_first_places same_condition [] (flat_map (λ (x : Position). map condition_of x.guards) each) → AreFilterRows each gs (2 ^ length gs) ls filters → AreParts p letters guards filters
are_parts p each letters ls guards gs filters e f g a b r = record {
  parts_letters = subst (λ (z : List Position). letters ≡ by_first_places same_letter [] (map (λ (x : Position). x.letter) z)) e a;
  parts_guards = subst (λ (z : List Position). map condition_of guards ≡ by_first_places same_condition [] (flat_map (λ (x : Position). map condition_of x.guards) z)) e b;
  parts_rows = subst (λ (z : List Position). AreFilterRows z guards (2 ^ length guards) letters filters) e (subst (λ (z : List Guard). AreFilterRows each z (2 ^ length z) letters filters) g (subst (λ (z : List Letter). AreFilterRows each gs (2 ^ length gs) z filters) f r));
}

module _ (p : Positions) (letters : List Letter) (guards : List Guard) (filters : List ℕ) (letters_are : letters ≡ table_letters p) (guards_are : map condition_of guards ≡ table_guards p) (rows : AreFilterRows p.each guards (2 ^ length guards) letters filters) where
  guards_count : length guards ≡ length (table_guards p)
  guards_count = sym (length_mapped condition_of guards) ∙ ap (λ (z : List Condition). length z) guards_are

  width_is : 2 ^ length guards ≡ 2 ^ length (table_guards p)
  width_is = ap (λ (z : ℕ). 2 ^ z) guards_count

  filters_count : length filters ≡ leads_each p
  filters_count = rows_length p.each guards (2 ^ length guards) letters filters rows ∙ ap (λ (z : List Letter). length z * 2 ^ length guards) letters_are ∙ ap (λ (z : ℕ). length (table_letters p) * z) width_is

  pub are_leads : (sets : List ℕ) → AreLeads p sets (rows_from p filters sets)
  are_leads sets = record {
    leads_count = rows_count p filters sets ∙ ap (λ (z : ℕ). length sets * z) filters_count;
    each_lead = λ q a v letter l s w.
        let i = rows_at p.each guards (2 ^ length guards) letters filters a v letter rows (subst (λ (z : List Letter). slice_get z a ≡ Some letter) (sym letters_are) s) (subst (λ (z : ℕ). v < z) (sym width_is) w) in
        let k : a * 2 ^ length guards + v ≡ a * 2 ^ length (table_guards p) + v = ap (λ (z : ℕ). a * z + v) width_is in
        let f : IsFilterOf p.each guards v letter (get_or filters (a * 2 ^ length (table_guards p) + v) 0) = subst (λ (z : ℕ). IsFilterOf p.each guards v letter (get_or filters z 0)) k i.1 in
        let n : a * 2 ^ length (table_guards p) + v < leads_each p = subst (λ (z : ℕ). a * 2 ^ length (table_guards p) + v < z) filters_count (subst (λ (z : ℕ). z < length filters) k i.0) in
        let r = rows_index p filters sets q (a * 2 ^ length (table_guards p) + v) (leads_each p) filters_count l n in
        subst (λ (z : ℕ). LeadsToSet p (get_or sets q 0) letter v z) (sym r.1) (lead_is p guards guards_are v (get_or sets q 0) letter (get_or filters (a * 2 ^ length (table_guards p) + v) 0) f);
  }

  pub reached_set : (x : ℕ) → Reachable p filters x → IsReachedSet p x
  reached_set _ from_start = at_start
  reached_set _ (next {set = set} r i l) =
      let (letter, v, m, s, f) = filter_from p.each guards (2 ^ length guards) letters filters i rows l in
      led_to (reached_set set r) (subst (λ (z : List Letter). IsAmong letter z) letters_are m) (subst (λ (z : ℕ). v < z) width_is s) (lead_is p guards guards_are v set letter (get_or filters i 0) f)

  pub is_table : (t : ProbeTable) (sets : List ℕ) → IsExplored p filters sets t.moves → AreSignals p.each sets t.signals → t.letters ≡ letters → map condition_of t.guards ≡ map condition_of guards → t.states ≡ length sets → length guards ≤ 4 → IsProbeTableOf p t
  is_table t sets e s tl tg n few = (
    sets,
    rows_from p filters sets,
    record {
      letters_are = tl ∙ letters_are;
      guards_are = tg ∙ guards_are;
      few_guards = (let c = guards_count in omega arith);
      states_are = n;
      few_states = e.few;
      leads_are = are_leads sets;
      sets_are = e.numbered ∙ numbering_once (0 ∷ []) (rows_from p filters sets);
      sets_reached = λ x i. reached_set x (e.reached x (among_in x sets i));
      moves_are = e.moves_are;
      signals_are = λ q l k. s.signals_of q k l;
    },
  )

  pub table_shape : (states : ℕ) (sets moves signals : List ℕ) → IsExplored p filters sets moves → AreSignals p.each sets signals → states ≡ length sets → HasTableShape states (length letters) (length guards) moves signals
  table_shape states sets moves signals e s n = record {
    moves_count = count ∙ rows_count p filters sets ∙ ap (λ (z : ℕ). length sets * z) (rows_length p.each guards (2 ^ length guards) letters filters rows) ∙ ap (λ (z : ℕ). z * (length letters * 2 ^ length guards)) (sym n);
    signals_count = s.signals_length ∙ sym n;
    targets = λ i l k. rw n (go i l k);
  }
    where
      count : length moves ≡ length (rows_from p filters sets)
      count = ap (λ (z : List ℕ). length z) e.moves_are ∙ length_mapped (λ x. state_number_of sets x) (rows_from p filters sets)

      inside : (x : ℕ) → is_in x sets ≡ true → state_number_of sets x ≢ 65535 → state_number_of sets x < length sets
      inside zero h k = absurd (k refl)
      inside (suc x) h k = found_place (suc x) sets h

      go : (i : ℕ) → i < length moves → get_or moves i 0 ≢ 65535 → get_or moves i 0 < length sets
      go i l k =
          let c = count in
          let m : get_or moves i 0 ≡ state_number_of sets (get_or (rows_from p filters sets) i 0) = ap (λ (z : List ℕ). get_or z i 0) e.moves_are ∙ map_index (λ x. state_number_of sets x) (rows_from p filters sets) i (omega arith) in
          let a : is_in (get_or (rows_from p filters sets) i 0) sets ≡ true =
          subst (λ (z : List ℕ). is_in (get_or (rows_from p filters sets) i 0) z ≡ true) (sym e.numbered) (in_index (rows_from p filters sets) (numbering (0 ∷ []) (rows_from p filters sets)) i (all_numbered (rows_from p filters sets) (0 ∷ [])) (omega arith)) in
          rw m (inside (get_or (rows_from p filters sets) i 0) a (λ q. k (m ∙ q)))

  pub explore_fails : (e : BuildFault) → length guards ≤ 4 → Explores p filters (Err e) → IsBuildAnswer p (Err e)
  explore_fails TooManyGuards few h = absurd h
  explore_fails Memory few h = tt
  explore_fails TooManyStates few h = (
    (let c = guards_count in omega arith),
    (
      h.one_more ∷ h.sets,
      (let m = h.many in omega arith),
      ((λ a. let q = among_in h.one_more h.sets a in let f = h.fresh in cc), rw h.numbered (distinct_numbering h.done (0 ∷ []) ((λ a. a), tt))),
      λ x a. reached_set x (h.reached x (among_in x (h.one_more ∷ h.sets) a)),
    ),
  )
