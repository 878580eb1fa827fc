-- What each constructor adds, from what its parts add.
use Rattle.std.proofs.Common.{◌≡◌, ◌≢◌, ℕ, zero, suc, ◌+◌, ◌≤◌, ◌<◌, true, false, List, [], ◌∷◌, ◌++◌, ◌⊎◌, ◌↔◌, ◌&&◌, ◌||◌, inl, inr, refl, sym, ap, arith, length, get_or, ◌∙◌, subst, length-append, Some}
use Rattle.std.specs.Prelude.{slice_get}
use Rattle.std.specs.Int.{bit_at}
use Rattle.std.proofs.lemmas.List.{get_or_past, get_or_append_left}
use Rattle.std.proofs.lemmas.Option.{slice_get_within}
use Rattle.std.proofs.lemmas.Nat.Bits.{bit_at-lt}
use Rattle.probe_words.specs.declared.work.Placed.{Placed}
use Rattle.probe_words.specs.declared.work.Work.{Work}
use Rattle.probe_words.specs.declared.work.Part.{Part}
use Rattle.probe_words.specs.declared.letter.Letter.{Letter}
use Rattle.probe_words.specs.MarkedLetters.{IsAmong, without_guards}
use Rattle.probe_words.specs.Core.{Core, Epsilon, Symbol, Sequence, Alternative, LastLabelled, Repeated, Restarted, list_if, size_of, Follows}
use Rattle.probe_words.specs.CoreForm.{maybe_of}
use Rattle.probe_words.specs.Twins.{mark_of}
use Rattle.probe_words.specs.Sets.{HasMember}
use Rattle.probe_words.specs.Laying.{IsEven, LaysPart, JoinsEach}
use Rattle.probe_words.proofs.Sets.{split_lt, has_none, joined_has, joined_keeps, joined_more}
use Rattle.probe_words.proofs.Ranges.{first_within, last_within, label_within, follow_within}

-- there is nothing past the end
pub none_past : (xs : List ℕ) (n i j : ℕ) → length xs ≡ n → n ≤ i → HasMember (get_or xs i 0) j → ⊥
none_past xs n i j e l h =
    let p : get_or xs i 0 ≡ 0 = get_or_past xs i 0 (omega arith) in
    has_none j (subst (λ (s : ℕ). HasMember s j) p h)

pub nothing_adds : (work : Work) (part : Part) → IsEven work → part.first ≡ [] → part.empty ≡ true → part.last ≡ 0 → LaysPart Epsilon (length work.places) work work part
nothing_adds work part e f g l = record {
  begin = refl;
  count = omega arith;
  labels_count = omega arith;
  follow_count = omega arith;
  kept_places = λ i h. refl;
  kept_labels = λ i h. refl;
  kept_follow = λ i h. refl;
  first_is = f;
  empty_is = g;
  last_is = λ i. (λ h. has_none i (rw l at h), λ h. absurd h);
  marks_are = λ i p h s. absurd (let w = slice_get_within work.places i p s in omega arith);
  labels_are = λ i l h. (λ b. none_past work.labels (length work.places) i l e.labels_too h b, λ b. absurd b);
  follow_are = λ i j h. (λ b. none_past work.follow (length work.places) i j e.follow_too h b, λ b. absurd b);
}

-- where a set got more: what it has
pub joins_has : (old new : List ℕ) (which more i j : ℕ) → JoinsEach old new which more → HasMember (get_or new i 0) j → HasMember (get_or old i 0) j ⊎ (HasMember which i × HasMember more j)
joins_has old new which more i j e h =
    elim (split_lt i (length old)) [
      | inl l ↦ (
          elim (joined_has (bit_at which i) (get_or old i 0) more j (subst (λ (s : ℕ). HasMember s j) (e.each i l) h)) [
            | inl p ↦ inl p
            | inr p ↦ inr ((let b = bit_at-lt which i in let n : bit_at which i ≢ 0 = p.0 in omega arith), p.1)
          ])
      | inr l ↦ absurd (none_past new (length old) i j e.same_length l h)
    ]

pub joins_keeps : (old new : List ℕ) (which more i j : ℕ) → JoinsEach old new which more → HasMember (get_or old i 0) j → HasMember (get_or new i 0) j
joins_keeps old new which more i j e h =
    elim (split_lt i (length old)) [
      | inl l ↦ rw (e.each i l) (joined_keeps (bit_at which i) (get_or old i 0) more j h)
      | inr l ↦ absurd (none_past old (length old) i j refl l h)
    ]

pub joins_more : (old new : List ℕ) (which more i j : ℕ) → JoinsEach old new which more → i < length old → HasMember which i → HasMember more j → HasMember (get_or new i 0) j
joins_more old new which more i j e l b h = rw (e.each i l) (joined_more (bit_at which i) (get_or old i 0) more j b h)

-- where nothing is united_if
pub joins_not : (old new : List ℕ) (which more i : ℕ) → JoinsEach old new which more → i < length old → (HasMember which i → ⊥) → get_or new i 0 ≡ get_or old i 0
joins_not old new which more i e l n =
    let b = bit_at-lt which i in
    let z : bit_at which i ≡ 0 = (let m : bit_at which i ≢ 1 = n in omega arith) in
    rw (e.each i l, z) refl

module _ (r s : Core) (at : ℕ) (before between old new : Work) (left right part : Part) (more : ℕ) (a : LaysPart r at before between left) (b : LaysPart s (at + size_of r) between old right) (same_places : new.places ≡ old.places) (same_labels : new.labels ≡ old.labels) (j : JoinsEach old.follow new.follow left.last more) (set : (i : ℕ) → HasMember more i ↔ IsAmong i right.first) where
  seq_follow_has : (i k : ℕ) → at ≤ i → HasMember (get_or new.follow i 0) k → Follows (Sequence r s) at i k
  seq_follow_has i k l h =
      elim (joins_has old.follow new.follow left.last more i k j h) [
        | inl p ↦ (
            elim (split_lt i (at + size_of r)) [
              | inl n ↦ inl ((a.follow_are i k l).0 (subst (λ (x : ℕ). HasMember x k) (b.kept_follow i n) p))
              | inr n ↦ inr (inl ((b.follow_are i k n).0 p))
            ])
        | inr p ↦ inr (inr ((a.last_is i).0 p.0, subst (λ (x : List ℕ). IsAmong k x) b.first_is ((set k).0 p.1)))
      ]

  seq_has_follow : (i k : ℕ) → at ≤ i → Follows (Sequence r s) at i k → HasMember (get_or new.follow i 0) k
  seq_has_follow i k l (inl f) =
      let q = (follow_within r at i k f).0 in
      joins_keeps old.follow new.follow left.last more i k j (rw (b.kept_follow i q.1) ((a.follow_are i k l).1 f))
  seq_has_follow i k l (inr (inl f)) =
      let q = (follow_within s (at + size_of r) i k f).0 in
      joins_keeps old.follow new.follow left.last more i k j ((b.follow_are i k q.0).1 f)
  seq_has_follow i k l (inr (inr f)) =
      let q = last_within r at i f.0 in
      let c = b.follow_count in
      joins_more old.follow new.follow left.last more i k j (omega arith) ((a.last_is i).1 f.0) ((set k).1 (rw b.first_is f.1))

  pub seq_adds : part.first ≡ left.first ++ list_if left.empty right.first → part.empty ≡ (left.empty && right.empty) → ((i : ℕ) → HasMember part.last i ↔ (HasMember right.last i ⊎ ((right.empty ≡ true) × HasMember left.last i))) → LaysPart (Sequence r s) at before new part
  seq_adds f g h = record {
    begin = a.begin;
    count = ap (λ (x : List Placed). length x) same_places ∙ (let c = b.count in omega arith);
    labels_count = ap (λ (x : List ℕ). length x) same_labels ∙ (let c = b.labels_count in omega arith);
    follow_count = j.same_length ∙ (let c = b.follow_count in omega arith);
    kept_places = λ i l. ap (λ (x : List Placed). slice_get x i) same_places ∙ b.kept_places i (omega arith) ∙ a.kept_places i l;
    kept_labels = λ i l. ap (λ (x : List ℕ). get_or x i 0) same_labels ∙ b.kept_labels i (omega arith) ∙ a.kept_labels i l;
    kept_follow = λ i l. joins_not old.follow new.follow left.last more i j (let c = b.follow_count in omega arith) (λ q. let p = last_within r at i ((a.last_is i).0 q) in omega arith) ∙ b.kept_follow i (omega arith) ∙ a.kept_follow i l;
    first_is = f ∙ rw (a.first_is, a.empty_is, b.first_is) refl;
    empty_is = g ∙ rw (a.empty_is, b.empty_is) refl;
    last_is = λ i. (
      λ q. elim ((h i).0 q) [ inl p ↦ inr ((b.last_is i).0 p) | inr p ↦ inl ((a.last_is i).0 p.1, sym b.empty_is ∙ p.0) ],
      λ q. (h i).1 (elim q [ inl p ↦ inr (b.empty_is ∙ p.1, (a.last_is i).1 p.0) | inr p ↦ inl ((b.last_is i).1 p) ]),
    );
    marks_are = λ i p l q.
        let k : slice_get old.places i ≡ Some p = ap (λ (x : List Placed). slice_get x i) (sym same_places) ∙ q in
        elim (split_lt i (at + size_of r)) [
          | inl n ↦ inl (a.marks_are i p l (sym (b.kept_places i n) ∙ k))
          | inr n ↦ inr (b.marks_are i p n k)
        ];
    labels_are = λ i k l. (
      λ q. let w : HasMember (get_or old.labels i 0) k = subst (λ (x : List ℕ). HasMember (get_or x i 0) k) same_labels q in
          elim (split_lt i (at + size_of r)) [
            | inl n ↦ inl ((a.labels_are i k l).0 (subst (λ (x : ℕ). HasMember x k) (b.kept_labels i n) w))
            | inr n ↦ inr ((b.labels_are i k n).0 w)
          ],
      λ q. rw same_labels (elim q [
        | inl p ↦ (let n = label_within r at k i p in rw (b.kept_labels i n.1) ((a.labels_are i k l).1 p))
        | inr p ↦ (let n = label_within s (at + size_of r) k i p in (b.labels_are i k n.0).1 p)
      ]),
    );
    follow_are = λ i k l. (seq_follow_has i k l, seq_has_follow i k l);
  }

module _ (r s : Core) (at : ℕ) (before between old : Work) (left right part : Part) (a : LaysPart r at before between left) (b : LaysPart s (at + size_of r) between old right) where
  pub alt_adds : part.first ≡ left.first ++ list_if true right.first → part.empty ≡ (left.empty || right.empty) → ((i : ℕ) → HasMember part.last i ↔ (HasMember left.last i ⊎ ((true ≡ true) × HasMember right.last i))) → LaysPart (Alternative r s) at before old part
  alt_adds f g h = record {
    begin = a.begin;
    count = (let c = b.count in omega arith);
    labels_count = (let c = b.labels_count in omega arith);
    follow_count = (let c = b.follow_count in omega arith);
    kept_places = λ i l. b.kept_places i (omega arith) ∙ a.kept_places i l;
    kept_labels = λ i l. b.kept_labels i (omega arith) ∙ a.kept_labels i l;
    kept_follow = λ i l. b.kept_follow i (omega arith) ∙ a.kept_follow i l;
    first_is = f ∙ rw (a.first_is, b.first_is) refl;
    empty_is = g ∙ rw (a.empty_is, b.empty_is) refl;
    last_is = λ i. (
      λ q. elim ((h i).0 q) [ inl p ↦ inl ((a.last_is i).0 p) | inr p ↦ inr ((b.last_is i).0 p.1) ],
      λ q. (h i).1 (elim q [ inl p ↦ inl ((a.last_is i).1 p) | inr p ↦ inr (refl, (b.last_is i).1 p) ]),
    );
    marks_are = λ i p l q.
        elim (split_lt i (at + size_of r)) [
          | inl n ↦ inl (a.marks_are i p l (sym (b.kept_places i n) ∙ q))
          | inr n ↦ inr (b.marks_are i p n q)
        ];
    labels_are = λ i k l. (
      λ q. elim (split_lt i (at + size_of r)) [
        | inl n ↦ inl ((a.labels_are i k l).0 (subst (λ (x : ℕ). HasMember x k) (b.kept_labels i n) q))
        | inr n ↦ inr ((b.labels_are i k n).0 q)
      ],
      λ q. elim q [
        | inl p ↦ (let n = label_within r at k i p in rw (b.kept_labels i n.1) ((a.labels_are i k l).1 p))
        | inr p ↦ (let n = label_within s (at + size_of r) k i p in (b.labels_are i k n.0).1 p)
      ],
    );
    follow_are = λ i k l. (
      λ q. elim (split_lt i (at + size_of r)) [
        | inl n ↦ inl ((a.follow_are i k l).0 (subst (λ (x : ℕ). HasMember x k) (b.kept_follow i n) q))
        | inr n ↦ inr ((b.follow_are i k n).0 q)
      ],
      λ q. elim q [
        | inl p ↦ (let n = (follow_within r at i k p).0 in rw (b.kept_follow i n.1) ((a.follow_are i k l).1 p))
        | inr p ↦ (let n = (follow_within s (at + size_of r) i k p).0 in (b.follow_are i k n.0).1 p)
      ],
    );
  }

-- ---- labels, repetition, an optional part

pub tag_adds : (r : Core) (at : ℕ) (before old new : Work) (part : Part) (label more : ℕ) → LaysPart r at before old part → new.places ≡ old.places → new.follow ≡ old.follow → JoinsEach old.labels new.labels part.last more → ((i : ℕ) → HasMember more i ↔ (i ≡ label)) → LaysPart (LastLabelled r label) at before new part
tag_adds r at before old new part label more a same_places same_follow j set = record {
  begin = a.begin;
  count = ap (λ (x : List Placed). length x) same_places ∙ a.count;
  labels_count = j.same_length ∙ a.labels_count;
  follow_count = ap (λ (x : List ℕ). length x) same_follow ∙ a.follow_count;
  kept_places = λ i l. ap (λ (x : List Placed). slice_get x i) same_places ∙ a.kept_places i l;
  kept_labels = λ i l. joins_not old.labels new.labels part.last more i j (let c = a.labels_count in omega arith) (λ q. let p = last_within r at i ((a.last_is i).0 q) in omega arith) ∙ a.kept_labels i l;
  kept_follow = λ i l. ap (λ (x : List ℕ). get_or x i 0) same_follow ∙ a.kept_follow i l;
  first_is = a.first_is;
  empty_is = a.empty_is;
  last_is = a.last_is;
  marks_are = λ i p l q. a.marks_are i p l (ap (λ (x : List Placed). slice_get x i) (sym same_places) ∙ q);
  labels_are = λ i k l. (
    λ q. elim (joins_has old.labels new.labels part.last more i k j q) [
      | inl p ↦ inl ((a.labels_are i k l).0 p)
      | inr p ↦ inr ((set k).0 p.1, (a.last_is i).0 p.0)
    ],
    λ q. elim q [
      | inl p ↦ joins_keeps old.labels new.labels part.last more i k j ((a.labels_are i k l).1 p)
      | inr p ↦ (let n = last_within r at i p.1 in joins_more old.labels new.labels part.last more i k j (let c = a.labels_count in omega arith) ((a.last_is i).1 p.1) ((set k).1 p.0))
    ],
  );
  follow_are = λ i k l. (
    λ q. (a.follow_are i k l).0 (subst (λ (x : List ℕ). HasMember (get_or x i 0) k) same_follow q),
    λ q. rw same_follow ((a.follow_are i k l).1 q),
  );
}

pub rep_adds : (r : Core) (at : ℕ) (before old new : Work) (part : Part) (more : ℕ) → LaysPart r at before old part → new.places ≡ old.places → new.labels ≡ old.labels → JoinsEach old.follow new.follow part.last more → ((i : ℕ) → HasMember more i ↔ IsAmong i part.first) → LaysPart (Repeated r) at before new part
rep_adds r at before old new part more a same_places same_labels j set = record {
  begin = a.begin;
  count = ap (λ (x : List Placed). length x) same_places ∙ a.count;
  labels_count = ap (λ (x : List ℕ). length x) same_labels ∙ a.labels_count;
  follow_count = j.same_length ∙ a.follow_count;
  kept_places = λ i l. ap (λ (x : List Placed). slice_get x i) same_places ∙ a.kept_places i l;
  kept_labels = λ i l. ap (λ (x : List ℕ). get_or x i 0) same_labels ∙ a.kept_labels i l;
  kept_follow = λ i l. joins_not old.follow new.follow part.last more i j (let c = a.follow_count in omega arith) (λ q. let p = last_within r at i ((a.last_is i).0 q) in omega arith) ∙ a.kept_follow i l;
  first_is = a.first_is;
  empty_is = a.empty_is;
  last_is = a.last_is;
  marks_are = λ i p l q. a.marks_are i p l (ap (λ (x : List Placed). slice_get x i) (sym same_places) ∙ q);
  labels_are = λ i k l. (
    λ q. (a.labels_are i k l).0 (subst (λ (x : List ℕ). HasMember (get_or x i 0) k) same_labels q),
    λ q. rw same_labels ((a.labels_are i k l).1 q),
  );
  follow_are = λ i k l. (
    λ q. elim (joins_has old.follow new.follow part.last more i k j q) [
      | inl p ↦ inl ((a.follow_are i k l).0 p)
      | inr p ↦ inr ((a.last_is i).0 p.0, subst (λ (x : List ℕ). IsAmong k x) a.first_is ((set k).0 p.1))
    ],
    λ q. elim q [
      | inl p ↦ joins_keeps old.follow new.follow part.last more i k j ((a.follow_are i k l).1 p)
      | inr p ↦ (let n = last_within r at i p.0 in joins_more old.follow new.follow part.last more i k j (let c = a.follow_count in omega arith) ((a.last_is i).1 p.0) ((set k).1 (rw a.first_is p.1)))
    ],
  );
}

-- the same part at a place that is the same number
pub adds_at : (r : Core) (at other : ℕ) (before old : Work) (part : Part) → at ≡ other → LaysPart r at before old part → LaysPart r other before old part
adds_at r at other before old part e a = subst (λ (x : ℕ). LaysPart r x before old part) e a

-- an alternative to nothing
pub maybe_adds : (r : Core) (at : ℕ) (before old : Work) (part whole : Part) → LaysPart r at before old part → whole.first ≡ part.first → whole.last ≡ part.last → whole.empty ≡ true → LaysPart (maybe_of r) at before old whole
maybe_adds r at before old part whole a f g h =
    let e : at + 0 ≡ at = omega arith in
    let b = adds_at r at (at + 0) before old part (sym e) a in
    record {
      begin = a.begin;
      count = let c = a.count in omega arith;
      labels_count = let c = a.labels_count in omega arith;
      follow_count = let c = a.follow_count in omega arith;
      kept_places = a.kept_places;
      kept_labels = a.kept_labels;
      kept_follow = a.kept_follow;
      first_is = f ∙ b.first_is;
      empty_is = h;
      last_is = λ i. (λ q. inr ((b.last_is i).0 (rw g at q)), λ q. rw g (elim q [ inl p ↦ absurd p | inr p ↦ (b.last_is i).1 p ]));
      marks_are = λ i p l q. inr (b.marks_are i p (omega arith) q);
      labels_are = λ i k l. (λ q. inr ((b.labels_are i k (omega arith)).0 q), λ q. elim q [ inl p ↦ absurd p | inr p ↦ (b.labels_are i k (omega arith)).1 p ]);
      follow_are = λ i k l. (λ q. inr ((b.follow_are i k (omega arith)).0 q), λ q. elim q [ inl p ↦ absurd p | inr p ↦ (b.follow_are i k (omega arith)).1 p ]);
    }

-- ---- one position more

pub slice_front : {X : Type 0} (xs ys : List X) (i : ℕ) → i < length xs → slice_get (xs ++ ys) i ≡ slice_get xs i
slice_front [] ys i h = absurd (omega arith)
slice_front (x ∷ xs) ys zero h = refl
slice_front (x ∷ xs) ys (suc i) h = slice_front xs ys i (omega arith)

pub slice_end : {X : Type 0} (xs : List X) (y z : X) (i : ℕ) → length xs ≤ i → slice_get (xs ++ y ∷ []) i ≡ Some z → (i ≡ length xs) × (z ≡ y)
slice_end [] y z zero h e = (refl, cc)
slice_end [] y z (suc i) h e = cc
slice_end (x ∷ xs) y z zero h e = absurd (omega arith)
slice_end (x ∷ xs) y z (suc i) h e = let p = slice_end xs y z i (omega arith) e in (omega arith, p.1)

pub get_end : (xs : List ℕ) (y i : ℕ) → i ≡ length xs → get_or (xs ++ y ∷ []) i 0 ≡ y
get_end [] y i e = rw e refl
get_end (x ∷ xs) y zero e = absurd (omega arith)
get_end (x ∷ xs) y (suc i) e = get_end xs y i (omega arith)

-- new is old with a position at its end
abbrev pub IsPushed : Work → Work → Placed → ℕ → ℕ → Type 0
IsPushed old new place label follow = new ≡ record { places = old.places ++ place ∷ []; labels = old.labels ++ label ∷ []; follow = old.follow ++ follow ∷ [] }

module _ (old new : Work) (place : Placed) (label follow : ℕ) (even : IsEven old) (pushed : IsPushed old new place label follow) where
  pub pushed_length : (length new.places ≡ length old.places + 1) × (length new.labels ≡ length old.places + 1) × (length new.follow ≡ length old.places + 1)
  pushed_length = rw pushed (
    length-append old.places (place ∷ []) ∙ refl,
    length-append old.labels (label ∷ []) ∙ (let e = even.labels_too in omega arith),
    length-append old.follow (follow ∷ []) ∙ (let e = even.follow_too in omega arith),
  )

  pub pushed_kept : (i : ℕ) → i < length old.places → (slice_get new.places i ≡ slice_get old.places i) × (get_or new.labels i 0 ≡ get_or old.labels i 0) × (get_or new.follow i 0 ≡ get_or old.follow i 0)
  pushed_kept i l = rw pushed (
    slice_front old.places (place ∷ []) i l,
    get_or_append_left old.labels (label ∷ []) 0 i (let e = even.labels_too in omega arith),
    get_or_append_left old.follow (follow ∷ []) 0 i (let e = even.follow_too in omega arith),
  )

  pub pushed_place : (i : ℕ) (p : Placed) → length old.places ≤ i → slice_get new.places i ≡ Some p → (i ≡ length old.places) × (p ≡ place)
  pushed_place i p l q = slice_end old.places place p i l (ap (λ (w : Work). slice_get w.places i) (sym pushed) ∙ q)

  pub pushed_label : get_or new.labels (length old.places) 0 ≡ label
  pushed_label = rw pushed (get_end old.labels label (length old.places) (sym even.labels_too))

  pub pushed_follow : get_or new.follow (length old.places) 0 ≡ follow
  pushed_follow = rw pushed (get_end old.follow follow (length old.places) (sym even.follow_too))

  -- after the old ones there is the new one alone
  pub pushed_label_has : (i k : ℕ) → length old.places ≤ i → HasMember (get_or new.labels i 0) k → (i ≡ length old.places) × HasMember label k
  pushed_label_has i k l h =
      elim (split_lt i (length old.places + 1)) [
        | inl n ↦ (let e : i ≡ length old.places = omega arith in (e, subst (λ (x : ℕ). HasMember x k) pushed_label (subst (λ (x : ℕ). HasMember (get_or new.labels x 0) k) e h)))
        | inr n ↦ absurd (none_past new.labels (length old.places + 1) i k pushed_length.1 n h)
      ]

  pub pushed_follow_has : (i k : ℕ) → length old.places ≤ i → HasMember (get_or new.follow i 0) k → (i ≡ length old.places) × HasMember follow k
  pushed_follow_has i k l h =
      elim (split_lt i (length old.places + 1)) [
        | inl n ↦ (let e : i ≡ length old.places = omega arith in (e, subst (λ (x : ℕ). HasMember x k) pushed_follow (subst (λ (x : ℕ). HasMember (get_or new.follow x 0) k) e h)))
        | inr n ↦ absurd (none_past new.follow (length old.places + 1) i k pushed_length.2 n h)
      ]

pub one_adds : (letter : Letter) (old new : Work) (place : Placed) (part : Part) → IsEven old → IsPushed old new place 0 0 → mark_of place ≡ without_guards letter → part.first ≡ length old.places ∷ [] → part.empty ≡ false → ((i : ℕ) → HasMember part.last i ↔ (i ≡ length old.places)) → LaysPart (Symbol letter) (length old.places) old new part
one_adds letter old new place part even pushed m f g h = record {
  begin = refl;
  count = (pushed_length old new place 0 0 even pushed).0;
  labels_count = (pushed_length old new place 0 0 even pushed).1;
  follow_count = (pushed_length old new place 0 0 even pushed).2;
  kept_places = λ i l. (pushed_kept old new place 0 0 even pushed i l).0;
  kept_labels = λ i l. (pushed_kept old new place 0 0 even pushed i l).1;
  kept_follow = λ i l. (pushed_kept old new place 0 0 even pushed i l).2;
  first_is = f;
  empty_is = g;
  last_is = h;
  marks_are = λ i p l q. let e = pushed_place old new place 0 0 even pushed i p l q in (e.0, rw e.1 m);
  labels_are = λ i k l. (λ q. has_none k (pushed_label_has old new place 0 0 even pushed i k l q).1, λ q. absurd q);
  follow_are = λ i k l. (λ q. has_none k (pushed_follow_has old new place 0 0 even pushed i k l q).1, λ q. absurd q);
}

-- ---- a part that can begin anew

-- old has the part, mid the new position too, and in new the part's positions are followed by it
module _ (r : Core) (at : ℕ) (letter : Letter) (before old mid new : Work) (place : Placed) (part whole : Part) (own which more : ℕ) (even : IsEven old) (a : LaysPart r at before old part) (pushed : IsPushed old mid place 0 own) (m : mark_of place ≡ without_guards letter) (same_places : new.places ≡ mid.places) (same_labels : new.labels ≡ mid.labels) (j : JoinsEach mid.follow new.follow which more) (own_set : (i : ℕ) → HasMember own i ↔ (IsAmong i part.first ⊎ (i ≡ at + size_of r))) (which_set : (i : ℕ) → HasMember which i ↔ ((at ≤ i) × (i < at + size_of r))) (more_set : (i : ℕ) → HasMember more i ↔ (i ≡ at + size_of r)) where
  res_length : length old.places ≡ at + size_of r
  res_length = a.count

  res_counts : (length mid.places ≡ length old.places + 1) × (length mid.labels ≡ length old.places + 1) × (length mid.follow ≡ length old.places + 1)
  res_counts = pushed_length old mid place 0 own even pushed

  res_follow_has : (i k : ℕ) → at ≤ i → HasMember (get_or new.follow i 0) k → Follows (Restarted r letter) at i k
  res_follow_has i k l h =
      let c = res_length in
      elim (joins_has mid.follow new.follow which more i k j h) [
        | inl p ↦ (
            elim (split_lt i (at + size_of r)) [
              | inl n ↦ inl ((a.follow_are i k l).0 (subst (λ (x : ℕ). HasMember x k) (pushed_kept old mid place 0 own even pushed i (omega arith)).2 p))
              | inr n ↦ (
                  let q = pushed_follow_has old mid place 0 own even pushed i k (omega arith) p in
                  elim ((own_set k).0 q.1) [
                    | inl f ↦ inr (inr (omega arith, subst (λ (x : List ℕ). IsAmong k x) a.first_is f))
                    | inr e ↦ inr (inl ((omega arith, omega arith), e))
                  ])
            ])
        | inr p ↦ (let w = (which_set i).0 p.0 in inr (inl ((omega arith, omega arith), (more_set k).0 p.1)))
      ]

  own_follow : (i k : ℕ) → i ≡ at + size_of r → HasMember own k → HasMember (get_or new.follow i 0) k
  own_follow i k e h =
      let c = res_length in
      let q : i ≡ length old.places = omega arith in
      joins_keeps mid.follow new.follow which more i k j (rw q (rw (pushed_follow old mid place 0 own even pushed) h))

  res_has_follow : (i k : ℕ) → at ≤ i → Follows (Restarted r letter) at i k → HasMember (get_or new.follow i 0) k
  res_has_follow i k l (inl f) =
      let c = res_length in
      let n = (follow_within r at i k f).0 in
      joins_keeps mid.follow new.follow which more i k j (rw ((pushed_kept old mid place 0 own even pushed i (omega arith)).2) ((a.follow_are i k l).1 f))
  res_has_follow i k l (inr (inl f)) =
      let c = res_length in
      elim (split_lt i (at + size_of r)) [
        | inl n ↦ joins_more mid.follow new.follow which more i k j (let d = res_counts.2 in omega arith) ((which_set i).1 (l, n)) ((more_set k).1 f.1)
        | inr n ↦ (let d = f.0 in own_follow i k (omega arith) ((own_set k).1 (inr f.1)))
      ]
  res_has_follow i k l (inr (inr f)) = own_follow i k f.0 ((own_set k).1 (inl (rw a.first_is f.1)))

  pub res_adds : whole.first ≡ part.first ++ (at + size_of r) ∷ [] → whole.empty ≡ part.empty → ((i : ℕ) → HasMember whole.last i ↔ (HasMember part.last i ⊎ ((part.empty ≡ true) × HasMember more i))) → LaysPart (Restarted r letter) at before new whole
  res_adds f g h =
      let c = res_length in
      record {
        begin = a.begin;
        count = ap (λ (x : List Placed). length x) same_places ∙ (let d = res_counts.0 in omega arith);
        labels_count = ap (λ (x : List ℕ). length x) same_labels ∙ (let d = res_counts.1 in omega arith);
        follow_count = j.same_length ∙ (let d = res_counts.2 in omega arith);
        kept_places = λ i l. ap (λ (x : List Placed). slice_get x i) same_places ∙ (pushed_kept old mid place 0 own even pushed i (omega arith)).0 ∙ a.kept_places i l;
        kept_labels = λ i l. ap (λ (x : List ℕ). get_or x i 0) same_labels ∙ (pushed_kept old mid place 0 own even pushed i (omega arith)).1 ∙ a.kept_labels i l;
        kept_follow = λ i l. joins_not mid.follow new.follow which more i j (let d = res_counts.2 in omega arith) (λ q. let w = (which_set i).0 q in omega arith) ∙ (pushed_kept old mid place 0 own even pushed i (omega arith)).2 ∙ a.kept_follow i l;
        first_is = f ∙ rw a.first_is refl;
        empty_is = g ∙ a.empty_is;
        last_is = λ i. (
          λ q. elim ((h i).0 q) [ inl p ↦ inl ((a.last_is i).0 p) | inr p ↦ inr ((more_set i).0 p.1, sym a.empty_is ∙ p.0) ],
          λ q. (h i).1 (elim q [ inl p ↦ inl ((a.last_is i).1 p) | inr p ↦ inr (a.empty_is ∙ p.1, (more_set i).1 p.0) ]),
        );
        marks_are = λ i p l q.
            let k : slice_get mid.places i ≡ Some p = ap (λ (x : List Placed). slice_get x i) (sym same_places) ∙ q in
            elim (split_lt i (at + size_of r)) [
              | inl n ↦ inl (a.marks_are i p l (sym (pushed_kept old mid place 0 own even pushed i (omega arith)).0 ∙ k))
              | inr n ↦ (let e = pushed_place old mid place 0 own even pushed i p (omega arith) k in inr (omega arith, rw e.1 m))
            ];
        labels_are = λ i k l. (
          λ q. let w : HasMember (get_or mid.labels i 0) k = subst (λ (x : List ℕ). HasMember (get_or x i 0) k) same_labels q in
              elim (split_lt i (at + size_of r)) [
                | inl n ↦ (a.labels_are i k l).0 (subst (λ (x : ℕ). HasMember x k) (pushed_kept old mid place 0 own even pushed i (omega arith)).1 w)
                | inr n ↦ absurd (has_none k (pushed_label_has old mid place 0 own even pushed i k (omega arith) w).1)
              ],
          λ q. rw same_labels (let n = label_within r at k i q in rw ((pushed_kept old mid place 0 own even pushed i (omega arith)).1) ((a.labels_are i k l).1 q)),
        );
        follow_are = λ i k l. (res_follow_has i k l, res_has_follow i k l);
      }

-- the first numbers are below 64
pub small_firsts : (r : Core) (at : ℕ) (before old : Work) (part : Part) → LaysPart r at before old part → length old.places ≤ 63 → (j : ℕ) → IsAmong j part.first → j < 64
small_firsts r at before old part a l j h =
    let w = first_within r at j (subst (λ (x : List ℕ). IsAmong j x) a.first_is h) in
    let c = a.count in
    omega arith

pub is_even : (r : Core) (at : ℕ) (before old : Work) (part : Part) → LaysPart r at before old part → IsEven old
is_even r at before old part a = record { labels_too = a.labels_count ∙ sym a.count; follow_too = a.follow_count ∙ sym a.count }
