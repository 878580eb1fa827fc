-- The table answers as words do.
use Rattle.std.proofs.Common.{◌≡◌, ◌≢◌, ◌==◌, ℕ, zero, suc, ◌+◌, ◌*◌, ◌/◌, ◌%◌, ◌<◌, ◌^◌, ◌||◌, if◌then◌else◌, Bool, true, false, List, [], ◌∷◌, ◌++◌, map, ◌⊎◌, ◌↔◌, inl, inr, refl, sym, ap, arith, length, get_or, ◌∙◌, subst, eqb-true, eq-eqb, Some, None, Option}
use Rattle.std.specs.Prelude.{slice_get, flat_map, nat_eq}
use Rattle.std.specs.Int.{bit_at}
use Rattle.std.proofs.lemmas.Nat.Bits.{bit_at_lowest, bit_at-suc}
use Rattle.std.proofs.lemmas.Option.{slice_get_within, slice_get_cases}
use Rattle.probe_words.specs.declared.letter.Letter.{Letter}
use Rattle.probe_words.specs.declared.position_list.Position.{Position}
use Rattle.probe_words.specs.declared.position_list.Positions.{Positions}
use Rattle.probe_words.specs.declared.probe.ProbeTable.{ProbeTable}
use Rattle.probe_words.specs.Guards.{Condition, same_condition, holds_for}
use Rattle.probe_words.specs.MarkedLetters.{IsAmong, GuardedLetter}
use Rattle.probe_words.specs.Twins.{condition_of}
use Rattle.probe_words.specs.Sets.{HasMember}
use Rattle.probe_words.specs.Core.{Core, Repeated, Follows, InPart}
use Rattle.probe_words.specs.Paths.{EndsPath}
use Rattle.probe_words.proofs.Ranges.{label_within}
use Rattle.probe_words.specs.WordKinds.{WordKind, WordPrefix, LabelledPrefix}
use Rattle.probe_words.specs.Words.{Pattern, IsProperPattern}
use Rattle.probe_words.specs.CoreForm.{core_of}
use Rattle.probe_words.specs.PositionsOf.{position_letter, ArePositions}
use Rattle.probe_words.specs.Hearing.{ProbeEvent, AllHoldFor, FitsWordKind, IsHeard, Hear, Out}
use Rattle.probe_words.specs.ProbeTables.{same_letter, is_among_by, with_new_by, by_first_places, table_letters, table_guards, leads_each, CanFollow, IsOpenAt, LeadsToSet, place_among, state_number_of, IsTableWith}
use Rattle.probe_words.proofs.PathsInPositions.{letter_in}
use Rattle.probe_words.proofs.Sets.{has_none}
use Rattle.probe_words.proofs.GuardsAlike.{same_equal}
use Rattle.probe_automata.specs.declared.table_move.Move.{Move}
use Rattle.probe_automata.specs.TableMoves.{letter_place, ignored_at, entered_from, move_for, truth_bit, valuation_of, event_move, table_moves, IsEventAnswer, AnswerAsHeard}
use Rattle.probe_automata.proofs.HeardPositions.{Hits, Reached, reached_snoc, heard_reached, reached_heard}
use Rattle.probe_automata.proofs.Candidates.{some_member, letters_equal, equal_letters}
use Rattle.probe_automata.proofs.Tables.{map_index, length_mapped}
use Rattle.probe_automata.proofs.Entries.{entry_inside}

-- ---- elements of lists

pub get_among : (xs : List ℕ) (i : ℕ) → i < length xs → IsAmong (get_or xs i 0) xs
get_among [] i l = absurd (omega arith)
get_among (x ∷ xs) zero l = inl refl
get_among (x ∷ xs) (suc i) l = inr (get_among xs i (omega arith))

slice_among : {X : Type 0} (xs : List X) (i : ℕ) (x : X) → slice_get xs i ≡ Some x → IsAmong x xs
slice_among [] i x e = cc
slice_among (y ∷ xs) zero x e = inl (let q : y ≡ x = cc in sym q)
slice_among (y ∷ xs) (suc i) x e = inr (slice_among xs i x e)

pub among_slice : {X : Type 0} (xs : List X) (x : X) → IsAmong x xs → (i : ℕ) × (slice_get xs i ≡ Some x)
among_slice [] x h = absurd h
among_slice (y ∷ xs) x (inl e) = (zero, ap Some (sym e))
among_slice (y ∷ xs) x (inr h) = let (i, s) = among_slice xs x h in (suc i, s)

among_map : {X Y : Type 0} (f : X → Y) (xs : List X) (x : X) → IsAmong x xs → IsAmong (f x) (map f xs)
among_map f [] x h = absurd h
among_map f (y ∷ xs) x (inl e) = inl (ap f e)
among_map f (y ∷ xs) x (inr h) = inr (among_map f xs x h)

among_left : {X : Type 0} (xs ys : List X) (x : X) → IsAmong x xs → IsAmong x (xs ++ ys)
among_left [] ys x h = absurd h
among_left (y ∷ xs) ys x (inl e) = inl e
among_left (y ∷ xs) ys x (inr h) = inr (among_left xs ys x h)

among_right : {X : Type 0} (xs ys : List X) (x : X) → IsAmong x ys → IsAmong x (xs ++ ys)
among_right [] ys x h = h
among_right (y ∷ xs) ys x h = inr (among_right xs ys x h)

among_flat : {X Y : Type 0} (f : X → List Y) (xs : List X) (x : X) (y : Y) → IsAmong x xs → IsAmong y (f x) → IsAmong y (flat_map f xs)
among_flat f [] x y h g = absurd h
among_flat f (z ∷ xs) x y (inl e) g = among_left (f z) (flat_map f xs) y (subst (λ w. IsAmong y (f w)) e g)
among_flat f (z ∷ xs) x y (inr h) g = among_right (f z) (flat_map f xs) y (among_flat f xs x y h g)

module _ {X : Type 0} (same : X → X → Bool) (sound : (x y : X) → same x y ≡ true → x ≡ y) where
  among_by : (x : X) (xs : List X) → is_among_by same x xs ≡ true → IsAmong x xs
  among_by x [] e = cc
  among_by x (y ∷ xs) e = go (same x y) refl (λ f. among_by x xs f) e
    where
      go : (b : Bool) → same x y ≡ b → (is_among_by same x xs ≡ true → IsAmong x xs) → (b || is_among_by same x xs) ≡ true → IsAmong x (y ∷ xs)
      go true h r f = inl (sound x y h)
      go false h r f = inr (r f)

  new_among : (xs : List X) (x : X) → IsAmong x (with_new_by same xs x)
  new_among xs x = go (is_among_by same x xs) refl
    where
      go : (b : Bool) → is_among_by same x xs ≡ b → IsAmong x (if b then xs else xs ++ x ∷ [])
      go true e = among_by x xs e
      go false e = among_right xs (x ∷ []) x (inl refl)

  old_among : (xs : List X) (x y : X) → IsAmong y xs → IsAmong y (with_new_by same xs x)
  old_among xs x y h = go (is_among_by same x xs)
    where
      go : (b : Bool) → IsAmong y (if b then xs else xs ++ x ∷ [])
      go true = h
      go false = among_left xs (x ∷ []) y h

  pub stays_once : (xs done : List X) (y : X) → IsAmong y done → IsAmong y (by_first_places same done xs)
  stays_once [] done y h = h
  stays_once (x ∷ xs) done y h = stays_once xs (with_new_by same done x) y (old_among done x y h)

  pub among_once : (xs done : List X) (y : X) → IsAmong y xs → IsAmong y (by_first_places same done xs)
  among_once [] done y h = absurd h
  among_once (x ∷ xs) done y (inl e) = stays_once xs (with_new_by same done x) y (subst (λ w. IsAmong w (with_new_by same done x)) (sym e) (new_among done x))
  among_once (x ∷ xs) done y (inr h) = among_once xs (with_new_by same done x) y h

pub first_once : {X : Type 0} (same : X → X → Bool) (x : X) (xs done : List X) → (rest : List X) × (by_first_places same (x ∷ done) xs ≡ x ∷ rest)
first_once same x [] done = (done, refl)
first_once same x (y ∷ xs) done = go (is_among_by same y (x ∷ done)) (first_once same x xs done) (first_once same x xs (done ++ y ∷ []))
  where
    go : (b : Bool) → (rest : List _) × (by_first_places same (x ∷ done) xs ≡ x ∷ rest) → (rest : List _) × (by_first_places same (x ∷ (done ++ y ∷ [])) xs ≡ x ∷ rest) → (rest : List _) × (by_first_places same (if b then x ∷ done else x ∷ (done ++ y ∷ [])) xs ≡ x ∷ rest)
    go true f g = f
    go false f g = g

pub same_numbers : (x y : ℕ) → nat_eq x y ≡ true → x ≡ y
same_numbers x y e = eqb-true x y e

pub place_is : (x : ℕ) (xs : List ℕ) → IsAmong x xs → (place_among x xs < length xs) × (get_or xs (place_among x xs) 0 ≡ x)
place_is x [] h = absurd h
place_is x (y ∷ xs) h = go (x == y) refl (λ k. place_is x xs k) h
  where
    go : (b : Bool) → (x == y) ≡ b → (IsAmong x xs → (place_among x xs < length xs) × (get_or xs (place_among x xs) 0 ≡ x)) → (x ≡ y) ⊎ IsAmong x xs → ((if b then 0 else suc (place_among x xs)) < suc (length xs)) × (get_or (y ∷ xs) (if b then 0 else suc (place_among x xs)) 0 ≡ x)
    go true e r k = (omega arith, sym (eqb-true x y e))
    go false e r (inl k) = absurd (let q = eq-eqb x y k in cc)
    go false e r (inr k) = let q = r k in ((let l = q.0 in omega arith), q.1)

-- ---- letters and valuations

pub place_found : (a : Letter) (i : ℕ) (bs : List Letter) (k : ℕ) → letter_place a i bs ≡ Some k → (j : ℕ) × (k ≡ i + j) × (slice_get bs j ≡ Some a)
place_found a i [] k e = cc
place_found a i (b ∷ bs) k e = go (same_letter b a) refl (λ f. place_found a (suc i) bs k f) e
  where
    go : (c : Bool) → same_letter b a ≡ c → (letter_place a (suc i) bs ≡ Some k → (j : ℕ) × (k ≡ suc i + j) × (slice_get bs j ≡ Some a)) → (if c then Some i else letter_place a (suc i) bs) ≡ Some k → (j : ℕ) × (k ≡ i + j) × (slice_get (b ∷ bs) j ≡ Some a)
    go true h r f = let q : i ≡ k = cc in (zero, omega arith, ap Some (letters_equal b a h))
    go false h r f = let (j, q, s) = r f in (suc j, omega arith, s)

pub place_missing : (a : Letter) (i : ℕ) (bs : List Letter) → letter_place a i bs ≡ None → IsAmong a bs → ⊥
place_missing a i [] e h = h
place_missing a i (b ∷ bs) e h = go (same_letter b a) refl (λ f. place_missing a (suc i) bs f) e h
  where
    go : (c : Bool) → same_letter b a ≡ c → (letter_place a (suc i) bs ≡ None → IsAmong a bs → ⊥) → (if c then Some i else letter_place a (suc i) bs) ≡ None → (a ≡ b) ⊎ IsAmong a bs → ⊥
    go true h r f k = cc
    go false h r f (inl k) = let q : same_letter b a ≡ true = subst (λ (z : Letter). same_letter b z ≡ true) (sym k) (equal_letters b) in cc
    go false h r f (inr k) = r f k

truth_small : (b : Bool) → truth_bit b < 2
truth_small true = omega arith
truth_small false = omega arith

pub valuation_small : (counts : List ℕ) (gs : List Condition) → valuation_of counts gs < 2 ^ length gs
valuation_small counts [] = omega arith
valuation_small counts (g ∷ gs) = let r = valuation_small counts gs in let t = truth_small (holds_for counts g) in let e : 2 ^ suc (length gs) ≡ 2 * 2 ^ length gs = omega arith in omega arith

-- bit j is the truth of guard j
pub valuation_bit : (counts : List ℕ) (gs : List Condition) (j : ℕ) (g : Condition) → slice_get gs j ≡ Some g → bit_at (valuation_of counts gs) j ≡ truth_bit (holds_for counts g)
valuation_bit counts [] j g e = cc
valuation_bit counts (x ∷ gs) zero g e =
    let q : x ≡ g = cc in
    let t = truth_small (holds_for counts x) in
    let m : (truth_bit (holds_for counts x) + 2 * valuation_of counts gs) % 2 ≡ truth_bit (holds_for counts x) = omega arith in
    bit_at_lowest (truth_bit (holds_for counts x) + 2 * valuation_of counts gs) ∙ m ∙ ap (λ (z : Condition). truth_bit (holds_for counts z)) q
valuation_bit counts (x ∷ gs) (suc j) g e =
    let t = truth_small (holds_for counts x) in
    let m : (truth_bit (holds_for counts x) + 2 * valuation_of counts gs) / 2 ≡ valuation_of counts gs = omega arith in
    bit_at-suc (truth_bit (holds_for counts x) + 2 * valuation_of counts gs) j ∙ ap (λ (z : ℕ). bit_at z j) m ∙ valuation_bit counts gs j g e

truth_is : (b : Bool) → truth_bit b ≡ 1 → b ≡ true
truth_is true e = refl
truth_is false e = absurd (omega arith)

-- ---- one event more

abbrev pub StandsForEvents : Core → List ProbeEvent → ℕ → Type 0
StandsForEvents r h set = (y : ℕ) → HasMember set y ↔ Reached r h y

module _ (p : Pattern) (proper : IsProperPattern p) (ps : Positions) (are : ArePositions (core_of p) ps) where
  follow_of : (set y : ℕ) → set ≢ 0 → CanFollow ps set y → (x : ℕ) × HasMember set x × Follows (Repeated (core_of p)) 0 x y
  follow_of set y n (inl h) = absurd (n h.0)
  follow_of set y n (inr (x, h, inl f)) = (x, h, inl ((are.follow_are x y).0 f))
  follow_of set y n (inr (x, h, inr f)) = (x, h, inr ((are.last_is x).0 f.0, (are.first_is y).0 f.1))

  of_follow : (set x y : ℕ) → HasMember set x → Follows (Repeated (core_of p)) 0 x y → CanFollow ps set y
  of_follow set x y h (inl f) = inr (x, h, inl ((are.follow_are x y).1 f))
  of_follow set x y h (inr f) = inr (x, h, inr ((are.last_is x).1 f.0, (are.first_is y).1 f.1))

  all_hold : (counts : List ℕ) (gs : List Condition) → ((g : Condition) → IsAmong g gs → holds_for counts g ≡ true) → AllHoldFor counts gs
  all_hold counts [] f = tt
  all_hold counts (g ∷ gs) f = (f g (inl refl), all_hold counts gs (λ x i. f x (inr i)))

  each_holds : (counts : List ℕ) (gs : List Condition) (g : Condition) → AllHoldFor counts gs → IsAmong g gs → holds_for counts g ≡ true
  each_holds counts [] g h i = absurd i
  each_holds counts (x ∷ gs) g h (inl e) = subst (λ (z : Condition). holds_for counts z ≡ true) (sym e) h.0
  each_holds counts (x ∷ gs) g h (inr i) = each_holds counts gs g h.1 i

  open_hits : (e : ProbeEvent) (y : ℕ) → IsOpenAt ps e.letter (valuation_of e.counts (table_guards ps)) y → Hits (core_of p) e y
  open_hits e y (x, s, l, h) = (
    position_letter x,
    are.marks_are y x s,
    (
      sym l,
      all_hold e.counts (map condition_of x.guards) (λ g i.
          let (j, k, m) = h g i in truth_is (holds_for e.counts g) (sym (valuation_bit e.counts (table_guards ps) j g k) ∙ m)),
    ),
  )

  hits_open : (e : ProbeEvent) (y : ℕ) → Hits (core_of p) e y → IsOpenAt ps e.letter (valuation_of e.counts (table_guards ps)) y
  hits_open e y (m, a, (l, h)) =
      let (x, s, q) = letter_in (core_of p) ps are y m a in
      let u : e.letter ≡ x.letter = l ∙ ap (λ (z : GuardedLetter). z.letter) (sym q) in
      let t : AllHoldFor e.counts (map condition_of x.guards) = subst (λ (z : GuardedLetter). AllHoldFor e.counts z.guards) (sym q) h in (
        x,
        s,
        sym u,
        λ g i.
            let f : IsAmong g (table_guards ps) = among_once same_condition same_equal (flat_map (λ (z : Position). map condition_of z.guards) ps.each) [] g (among_flat (λ (z : Position). map condition_of z.guards) ps.each x g (slice_among ps.each y x s) i) in
            let (j, k) = among_slice (table_guards ps) g f in
            (j, k, valuation_bit e.counts (table_guards ps) j g k ∙ ap truth_bit (each_holds e.counts (map condition_of x.guards) g t i)),
      )

  -- the letter of a position is one of the table
  hits_letter : (e : ProbeEvent) (y : ℕ) → Hits (core_of p) e y → IsAmong e.letter (table_letters ps)
  hits_letter e y (m, a, (l, h)) =
      let (x, s, q) = letter_in (core_of p) ps are y m a in
      let u : e.letter ≡ x.letter = l ∙ ap (λ (z : GuardedLetter). z.letter) (sym q) in
      among_once same_letter letters_equal (map (λ (z : Position). z.letter) ps.each) [] e.letter (subst (λ (z : Letter). IsAmong z (map (λ (z : Position). z.letter) ps.each)) (sym u) (among_map (λ (z : Position). z.letter) ps.each x (slice_among ps.each y x s)))

  -- what is reached with one event more is hit by it
  last_hit : (h : List ProbeEvent) (e : ProbeEvent) (y : ℕ) → Reached (core_of p) (h ++ e ∷ []) y → Hits (core_of p) e y
  last_hit [] e y s = s.1
  last_hit (d ∷ h) e y s = let (x, r, f, k) = subst (λ (z : Type 0). z) (reached_snoc (core_of p) d h e y) s in k

  -- the set for the events heard: the start's, or one that isn't empty
  abbrev pub IsSetFor : List ProbeEvent → ℕ → Type 0
  IsSetFor h set = ((h ≡ []) × (set ≡ 0)) ⊎ ((d : ProbeEvent) × (t : List ProbeEvent) × (h ≡ d ∷ t) × (set ≢ 0) × StandsForEvents (core_of p) h set)

  lead_stands : (h : List ProbeEvent) (e : ProbeEvent) (set lead : ℕ) → IsSetFor h set → LeadsToSet ps set e.letter (valuation_of e.counts (table_guards ps)) lead → StandsForEvents (core_of p) (h ++ e ∷ []) lead
  lead_stands h e set lead (inl (a, z)) to y = rw a (
    λ b. let q = (to y).0 b in (elim q.0 [ inl f ↦ (are.first_is y).0 f.1 | inr (x, k, f) ↦ absurd (has_none x (subst (λ (n : ℕ). HasMember n x) z k)) ], open_hits e y q.1),
    λ r. (to y).1 (inl (z, (are.first_is y).1 r.0), hits_open e y r.1),
  )
  lead_stands h e set lead (inr (d, t, a, n, s)) to y = rw a (rw reached_snoc (
    λ b. let q = (to y).0 b in let (x, k, f) = follow_of set y n q.0 in (x, subst (λ (z : List ProbeEvent). Reached (core_of p) z x) a ((s x).0 k), f, open_hits e y q.1),
    λ (x, r, f, k). (to y).1 (of_follow set x y ((s x).1 (subst (λ (z : List ProbeEvent). Reached (core_of p) z x) (sym a) r)) f, hits_open e y k),
  ))

  some_event : (h : List ProbeEvent) (e : ProbeEvent) → (d : ProbeEvent) × (t : List ProbeEvent) × (h ++ e ∷ [] ≡ d ∷ t)
  some_event [] e = (e, [], refl)
  some_event (d ∷ h) e = (d, h ++ e ∷ [], refl)

  heard_by : (kind : WordKind) (h : List ProbeEvent) (e : ProbeEvent) → FitsWordKind p kind (h ++ e ∷ []) → (y : ℕ) × Reached (core_of p) (h ++ e ∷ []) y × EndsPath (Repeated (core_of p)) 0 kind y
  heard_by kind [] e f = heard_reached p proper kind e [] f
  heard_by kind (d ∷ h) e f = heard_reached p proper kind d (h ++ e ∷ []) f

  by_heard : (kind : WordKind) (h : List ProbeEvent) (e : ProbeEvent) (y : ℕ) → Reached (core_of p) (h ++ e ∷ []) y → EndsPath (Repeated (core_of p)) 0 kind y → FitsWordKind p kind (h ++ e ∷ [])
  by_heard kind [] e y r t = reached_heard p proper kind e [] y r t
  by_heard kind (d ∷ h) e y r t = reached_heard p proper kind d (h ++ e ∷ []) y r t

  out_heard : (h : List ProbeEvent) (e : ProbeEvent) (l : ℕ) → Out p h e l → IsHeard p h e
  out_heard h e l o = let (y, r, t) = heard_by (LabelledPrefix l) h e o in by_heard WordPrefix h e y r tt

  -- an ignored event
  ignored_answers : (h : List ProbeEvent) (e : ProbeEvent) (q : ℕ) → (IsHeard p h e → ⊥) → IsEventAnswer p h e (ignored_at q)
  ignored_answers h e q n = ((λ c. cc, λ k. absurd (n k)), λ l. (λ b. absurd (has_none l b), λ o. absurd (n (out_heard h e l o))))

  module _ (t : ProbeTable) (sets leads : List ℕ) (is : IsTableWith ps t sets leads) where
    -- state q is that of the events heard
    pub record IsStateFor (h : List ProbeEvent) (q : ℕ) : Type 0 where
      pub inside : q < length sets
      pub stands : IsSetFor h (get_or sets q 0)

    abbrev Answered : List ProbeEvent → ProbeEvent → Move → Type 0
    Answered h e m = IsEventAnswer p h e m × ((next : List ProbeEvent) × Hear p h e next × IsStateFor next m.state)

    not_heard_stays : (h : List ProbeEvent) (e : ProbeEvent) (q : ℕ) → IsStateFor h q → (IsHeard p h e → ⊥) → Answered h e (ignored_at q)
    not_heard_stays h e q s n = (ignored_answers h e q n, (h, inr (n, refl), s))

    -- the state of a lead that isn't empty
    heard_moves : (h : List ProbeEvent) (e : ProbeEvent) (lead target : ℕ) → StandsForEvents (core_of p) (h ++ e ∷ []) lead → lead ≢ 0 → target < length sets → get_or sets target 0 ≡ lead
        → Answered h e (record { state = target; signals = get_or t.signals target 0; heard = true })
    heard_moves h e lead target s n l g =
        let heard : IsHeard p h e = (let (y, b) = some_member lead n in by_heard WordPrefix h e y ((s y).0 b) tt) in
        let (d, w, v) = some_event h e in (
          (
            (λ c. heard, λ k. refl),
            λ k. (
              λ b. let (y, x, m, a, q) = (is.signals_are target k l).0 b in by_heard (LabelledPrefix k) h e y ((s y).0 (subst (λ (z : ℕ). HasMember z y) g m)) ((are.labels_are y k x a).0 q),
              λ o. let (y, r, q) = heard_by (LabelledPrefix k) h e o in
                  let (x, a) = some_place y (label_within (core_of p) 0 k y q) in
                  (is.signals_are target k l).1 (y, x, subst (λ (z : ℕ). HasMember z y) (sym g) ((s y).1 r), a, (are.labels_are y k x a).1 q),
            ),
          ),
          (h ++ e ∷ [], inl (heard, refl), record { inside = l; stands = inr (d, w, v, (λ z. n (sym g ∙ z)), subst (λ (z : ℕ). StandsForEvents (core_of p) (h ++ e ∷ []) z) (sym g) s) }),
        )
      where
        some_place : (i : ℕ) → InPart (core_of p) 0 i → (x : Position) × (slice_get ps.each i ≡ Some x)
        some_place i w =
            let n = are.count in
            elim (slice_get_cases ps.each i).1 [
              | inl (x, k, s, d) ↦ (x, s)
              | inr o ↦ absurd (let z = o.0 in omega arith)
            ]

    small_target : (n : ℕ) → n < length sets → (n == 65535) ≡ false
    small_target n l = go (n == 65535) refl
      where
        go : (b : Bool) → (n == 65535) ≡ b → b ≡ false
        go true e = absurd (let q = eqb-true n 65535 e in let f = is.few_states in omega arith)
        go false e = refl

    lead_answers : (h : List ProbeEvent) (e : ProbeEvent) (q lead target : ℕ) → IsStateFor h q → StandsForEvents (core_of p) (h ++ e ∷ []) lead → IsAmong lead sets → target ≡ state_number_of sets lead → Answered h e (entered_from t q target)
    lead_answers h e q zero target s a i m = rw m (not_heard_stays h e q s (λ f. let (y, r, k) = heard_by WordPrefix h e f in has_none y ((a y).1 r)))
    lead_answers h e q (suc lead) target s a i m =
        let b = place_is (suc lead) sets i in
        let l : target < length sets = rw m b.0 in
        let g : get_or sets target 0 ≡ suc lead = rw m b.1 in
        subst (λ (c : Bool). Answered h e (if c then ignored_at q else record { state = target; signals = get_or t.signals target 0; heard = true })) (sym (small_target target l)) (heard_moves h e (suc lead) target a (omega arith) l g)

    event_answers : (h : List ProbeEvent) (e : ProbeEvent) (q : ℕ) → IsStateFor h q → Answered h e (event_move t q e)
    event_answers h e q s = go (letter_place e.letter 0 t.letters) refl
      where
        v : ℕ
        v = valuation_of e.counts (map condition_of t.guards)

        guards_count : length t.guards ≡ length (table_guards ps)
        guards_count = sym (length_mapped condition_of t.guards) ∙ ap (λ (z : List Condition). length z) is.guards_are

        go : (o : Option ℕ) → letter_place e.letter 0 t.letters ≡ o → Answered h e (move_for t q v o)
        go None k = not_heard_stays h e q s (λ f. let (y, r, w) = heard_by WordPrefix h e f in place_missing e.letter 0 t.letters k (subst (λ (z : List Letter). IsAmong e.letter z) (sym is.letters_are) (hits_letter e y (last_hit h e y r))))
        go (Some a) k =
            let (j, z, g) = place_found e.letter 0 t.letters a k in
            let aj : a ≡ j = omega arith in
            let g2 : slice_get (table_letters ps) a ≡ Some e.letter = subst (λ (z : List Letter). slice_get z a ≡ Some e.letter) is.letters_are (subst (λ (i : ℕ). slice_get t.letters i ≡ Some e.letter) (sym aj) g) in
            let vv : v ≡ valuation_of e.counts (table_guards ps) = ap (λ (z : List Condition). valuation_of e.counts z) is.guards_are in
            let small : v < 2 ^ length (table_guards ps) = rw vv (valuation_small e.counts (table_guards ps)) in
            let index : ℕ = q * leads_each ps + (a * 2 ^ length (table_guards ps) + v) in
            let al : a < length (table_letters ps) = slice_get_within (table_letters ps) a e.letter g2 in
            let inner : a * 2 ^ length (table_guards ps) + v < leads_each ps = entry_inside a (length (table_letters ps)) (2 ^ length (table_guards ps)) v al small in
            let whole : index < length leads = (let x = entry_inside q (length sets) (leads_each ps) (a * 2 ^ length (table_guards ps) + v) s.inside inner in let c = is.leads_are.leads_count in omega arith) in
            let lead : ℕ = get_or leads index 0 in
            let to : LeadsToSet ps (get_or sets q 0) e.letter v lead = is.leads_are.each_lead q a v e.letter s.inside g2 small in
            let stands = lead_stands h e (get_or sets q 0) lead s.stands (subst (λ (z : ℕ). LeadsToSet ps (get_or sets q 0) e.letter z lead) vv to) in
            let among : IsAmong lead sets = subst (λ (z : List ℕ). IsAmong lead z) (sym is.sets_are) (among_once nat_eq same_numbers leads (0 ∷ []) lead (get_among leads index whole)) in
            let m : get_or t.moves index 0 ≡ state_number_of sets lead = ap (λ (z : List ℕ). get_or z index 0) is.moves_are ∙ map_index (λ x. state_number_of sets x) leads index whole in
            let w : 2 ^ length t.guards ≡ 2 ^ length (table_guards ps) = ap (λ (z : ℕ). 2 ^ z) guards_count in
            let lw : length t.letters ≡ length (table_letters ps) = ap (λ (z : List Letter). length z) is.letters_are in
            let ix : q * (length t.letters * 2 ^ length t.guards) + (a * 2 ^ length t.guards + v) ≡ index = rw (lw, w) refl in
            lead_answers h e q lead (get_or t.moves (q * (length t.letters * 2 ^ length t.guards) + (a * 2 ^ length t.guards + v)) 0) s stands among (ap (λ (z : ℕ). get_or t.moves z 0) ix ∙ m)

    pub all_answered : (es : List ProbeEvent) (h : List ProbeEvent) (q : ℕ) → IsStateFor h q → AnswerAsHeard p h es (table_moves t q es)
    all_answered [] h q s = tt
    all_answered (e ∷ es) h q s = let (a, (next, r, n)) = event_answers h e q s in (a, (next, r, all_answered es next (event_move t q e).state n))

    pub start_state : IsStateFor [] 0
    start_state =
        let (rest, f) = first_once nat_eq 0 leads [] in
        let g : sets ≡ 0 ∷ rest = is.sets_are ∙ f in
        record { inside = rw g (omega arith); stands = inl (refl, ap (λ (z : List ℕ). get_or z 0 0) g) }
