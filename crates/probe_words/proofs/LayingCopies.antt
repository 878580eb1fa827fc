-- Copies of first positions, with a guard added.
use Rattle.std.proofs.Common.{◌≡◌, ◌==◌, ℕ, zero, suc, ◌+◌, ◌≤◌, ◌<◌, ◌||◌, Bool, true, false, List, [], ◌∷◌, ◌++◌, map, take, ◌⊎◌, ◌↔◌, inl, inr, refl, sym, ap, arith, length, get_or, ◌∙◌, subst, Some, Err, eqb-true, eq-eqb}
use Rattle.std.specs.Prelude.{slice_get}
use Rattle.std.proofs.lemmas.Grind.{take_at_read}
use Rattle.std.proofs.lemmas.Option.{slice_get_within}
use Rattle.probe_words.specs.declared.guard.Guard.{Guard}
use Rattle.probe_words.specs.declared.work.Placed.{Placed}
use Rattle.probe_words.specs.declared.work.Work.{Work}
use Rattle.probe_words.specs.declared.work.Part.{Part}
use Rattle.probe_words.specs.Guards.{Condition, same_condition}
use Rattle.probe_words.specs.MarkedLetters.{IsAmong, has_guard, guard_added}
use Rattle.probe_words.specs.Core.{Core, FirstGuarded, positions_from, heads_of, size_of, firsts, IsCopy, CopyOf}
use Rattle.probe_words.specs.Twins.{condition_of, mark_of}
use Rattle.std.specs.Int.{bit_at}
use Rattle.probe_words.specs.declared.position_list.PositionsFault.{PositionsFault}
use Rattle.probe_words.specs.declared.position_list.PositionsFault.TheVariants.{TooManyPositions, Memory}
use Rattle.probe_words.specs.Sets.{HasMember}
use Rattle.probe_words.specs.Laying.{IsEven, LaysPart, PushesGuardedCopy, AnswersLayingFrom}
use Rattle.probe_words.proofs.PlaceLists.{copied_place, copy_original}
use Rattle.probe_words.proofs.Ranges.{label_within, follow_within, length-firsts, first_within}
use Rattle.probe_words.proofs.Sets.{split_lt}
use Rattle.probe_words.proofs.LayingParts.{none_past, IsPushed, pushed_length, pushed_kept, pushed_place, pushed_label, pushed_follow}

pub has_guard-append : (xs : List Condition) (x g : Condition) → has_guard (xs ++ x ∷ []) g ≡ (has_guard xs g || same_condition x g)
has_guard-append [] x g = or_false (same_condition x g)
  where
    or_false : (b : Bool) → (b || false) ≡ b
    or_false true = refl
    or_false false = refl
has_guard-append (y ∷ xs) x g = go (same_condition y g) (has_guard (xs ++ x ∷ []) g) (has_guard xs g) (same_condition x g) (has_guard-append xs x g)
  where
    go : (a b c d : Bool) → b ≡ (c || d) → (a || b) ≡ ((a || c) || d)
    go true b c d e = refl
    go false b c d e = e

pub map-append : (xs ys : List Guard) → map condition_of (xs ++ ys) ≡ map condition_of xs ++ map condition_of ys
map-append [] ys = refl
map-append (x ∷ xs) ys = ap (λ (z : List Condition). condition_of x ∷ z) (map-append xs ys)

pub guards_more : (guards copy more : List Guard) (i : ℕ) (x new : Guard) (guard : Condition) (found now same : Bool) → i < length guards → x ≡ get_or guards i x → map condition_of copy ≡ map condition_of (take i guards) → found ≡ has_guard (map condition_of (take i guards)) guard → more ≡ copy ++ new ∷ [] → condition_of new ≡ condition_of x → same ≡ same_condition (condition_of x) guard → now ≡ (found || same)
    → record { copied : map condition_of more ≡ map condition_of (take (i + 1) guards); seen : now ≡ has_guard (map condition_of (take (i + 1) guards)) guard }
guards_more guards copy more i x new guard found now same l e c f m n s w =
    let t : take (i + 1) guards ≡ take i guards ++ x ∷ [] = (take_at_read guards i x l).1 ∙ ap (λ (z : Guard). take i guards ++ z ∷ []) (sym e) in
    let a = map-append (take i guards) (x ∷ []) in
    record {
      copied = rw (m, t, a, map-append copy (new ∷ []), c, n) refl;
      seen = rw (t, a, has_guard-append (map condition_of (take i guards)) (condition_of x) guard, w, f, s) refl;
    }

-- one copy more
pub copy_snoc : (xs : List ℕ) (y from c x : ℕ) → IsCopy (xs ++ y ∷ []) from c x → IsCopy xs from c x ⊎ ((c ≡ from + length xs) × (x ≡ y))
copy_snoc [] y from c x (inl e) = inr (omega arith, e.1)
copy_snoc [] y from c x (inr h) = absurd h
copy_snoc (z ∷ xs) y from c x (inl e) = inl (inl e)
copy_snoc (z ∷ xs) y from c x (inr h) = elim (copy_snoc xs y (suc from) c x h) [ inl p ↦ inl (inr p) | inr p ↦ inr (omega arith, p.1) ]

pub snoc_copy : (xs : List ℕ) (y from c x : ℕ) → IsCopy xs from c x ⊎ ((c ≡ from + length xs) × (x ≡ y)) → IsCopy (xs ++ y ∷ []) from c x
snoc_copy [] y from c x (inl h) = absurd h
snoc_copy [] y from c x (inr e) = inl (omega arith, e.1)
snoc_copy (z ∷ xs) y from c x (inl (inl e)) = inl e
snoc_copy (z ∷ xs) y from c x (inl (inr h)) = inr (snoc_copy xs y (suc from) c x (inl h))
snoc_copy (z ∷ xs) y from c x (inr e) = inr (snoc_copy xs y (suc from) c x (inr (omega arith, e.1)))

places_more : (from n : ℕ) → positions_from from (n + 1) ≡ positions_from from n ++ (from + n) ∷ []
places_more from zero = let e : from + 0 ≡ from = omega arith in rw e refl
places_more from (suc n) = let e : suc n + 1 ≡ suc (n + 1) = omega arith in let d : suc from + n ≡ from + suc n = omega arith in rw e (ap (λ (z : List ℕ). from ∷ z) (places_more (suc from) n ∙ ap (λ (z : ℕ). positions_from (suc from) n ++ z ∷ []) d))

-- what the new position c has of the old position x
pub record IsCopied (g : Condition) (old work : Work) (c x : ℕ) : Type 0 where
  pub label_is : get_or work.labels c 0 ≡ get_or old.labels x 0
  pub follow_is : get_or work.follow c 0 ≡ get_or old.follow x 0
  pub mark_is : (p : Placed) → slice_get work.places c ≡ Some p → (q : Placed) × (slice_get old.places x ≡ Some q) × (mark_of p ≡ guard_added g (mark_of q))

pub record Copies (g : Condition) (numbers : List ℕ) (old_last : ℕ) (old : Work) (k : ℕ) (work : Work) (first : List ℕ) (last : ℕ) : Type 0 where
  pub even : IsEven work
  pub count : length work.places ≡ length old.places + k
  pub room : length work.places ≤ 63
  pub first_is : first ≡ positions_from (length old.places) k
  pub kept : (i : ℕ) → i < length old.places → (slice_get work.places i ≡ slice_get old.places i) × (get_or work.labels i 0 ≡ get_or old.labels i 0) × (get_or work.follow i 0 ≡ get_or old.follow i 0)
  pub copied : (c x : ℕ) → IsCopy (take k numbers) (length old.places) c x → IsCopied g old work c x
  pub last_is : (i : ℕ) → HasMember last i ↔ (HasMember old_last i ⊎ ((x : ℕ) × IsCopy (take k numbers) (length old.places) i x × HasMember old_last x))

pub copies_start : (g : Condition) (numbers : List ℕ) (last : ℕ) (old : Work) → IsEven old → length old.places ≤ 63 → Copies g numbers last old 0 old [] last
copies_start g numbers last old e l = record {
  even = e;
  count = omega arith;
  room = l;
  first_is = refl;
  kept = λ i h. (refl, refl, refl);
  copied = λ c x h. absurd h;
  last_is = λ i. (λ h. inl h, λ h. elim h [ inl p ↦ p | inr p ↦ absurd p.1 ]);
}

pub copies_step : (g : Condition) (numbers : List ℕ) (old_last : ℕ) (old : Work) (k : ℕ) (work new : Work) (first more : List ℕ) (last now : ℕ) (x : ℕ) (p q : Placed) → Copies g numbers old_last old k work first last → k < length numbers → x ≡ get_or numbers k 0 → x < length old.places
    → slice_get work.places x ≡ Some q → mark_of p ≡ guard_added g (mark_of q) → IsPushed work new p (get_or work.labels x 0) (get_or work.follow x 0) → length work.places < 63
    → more ≡ first ++ length work.places ∷ [] → ((i : ℕ) → HasMember now i ↔ (HasMember last i ⊎ (HasMember old_last x × (i ≡ length work.places)))) → Copies g numbers old_last old (k + 1) new more now
copies_step g numbers old_last old k work new first more last now x p q a l e w s m pushed room f h =
    let label : ℕ = get_or work.labels x 0 in
    let follow : ℕ = get_or work.follow x 0 in
    let counts = pushed_length work new p label follow a.even pushed in
    let t : take (k + 1) numbers ≡ take k numbers ++ x ∷ [] = (take_at_read numbers k 0 l).1 ∙ ap (λ (z : ℕ). take k numbers ++ z ∷ []) (sym e) in
    let n : length (take k numbers) ≡ k = taken k numbers l in
    let c = a.count in
    let xs = a.kept x w in
    record {
      even = record { labels_too = counts.1 ∙ sym counts.0; follow_too = counts.2 ∙ sym counts.0 };
      count = (let d = counts.0 in omega arith);
      room = (let d = counts.0 in omega arith);
      first_is = f ∙ rw (a.first_is, places_more (length old.places) k) (ap (λ (z : ℕ). positions_from (length old.places) k ++ z ∷ []) c);
      kept = λ i j. let u = pushed_kept work new p label follow a.even pushed i (omega arith) in let v = a.kept i j in (u.0 ∙ v.0, u.1 ∙ v.1, u.2 ∙ v.2);
      copied = λ d y j. elim (copy_snoc (take k numbers) x (length old.places) d y (rw t at j)) [
        | inl o ↦ (
            let b = within (take k numbers) (length old.places) d y o in
            let u = pushed_kept work new p label follow a.even pushed d (omega arith) in
            let v = a.copied d y o in
            record {
              label_is = u.1 ∙ v.label_is;
              follow_is = u.2 ∙ v.follow_is;
              mark_is = λ r z. v.mark_is r (sym u.0 ∙ z);
            })
        | inr o ↦ (
            let z : d ≡ length work.places = omega arith in
            rw (z, o.1) (record {
              label_is = pushed_label work new p label follow a.even pushed ∙ xs.1;
              follow_is = pushed_follow work new p label follow a.even pushed ∙ xs.2;
              mark_is = λ r y. let b = pushed_place work new p label follow a.even pushed (length work.places) r (omega arith) y in (q, sym xs.0 ∙ s, rw (b.1) m);
            }))
      ];
      last_is = λ i. (
        λ b. elim ((h i).0 b) [
          | inl o ↦ (elim ((a.last_is i).0 o) [ inl r ↦ inl r | inr (y, r, z) ↦ inr (y, rw t (snoc_copy (take k numbers) x (length old.places) i y (inl r)), z) ])
          | inr o ↦ inr (x, rw t (snoc_copy (take k numbers) x (length old.places) i x (inr ((let d = o.1 in omega arith), refl))), o.0)
        ],
        λ b. (h i).1 (elim b [
          | inl o ↦ inl ((a.last_is i).1 (inl o))
          | inr (y, r, z) ↦ (
              elim (copy_snoc (take k numbers) x (length old.places) i y (rw t at r)) [
                | inl o ↦ inl ((a.last_is i).1 (inr (y, o, z)))
                | inr o ↦ inr (subst (λ (v : ℕ). HasMember old_last v) o.1 z, (let d = o.0 in omega arith))
              ])
        ]),
      );
    }
  where
    taken : (k : ℕ) (xs : List ℕ) → k < length xs → length (take k xs) ≡ k
    taken zero xs h = refl
    taken (suc k) [] h = absurd (omega arith)
    taken (suc k) (x ∷ xs) h = ap suc (taken k xs (omega arith))

    within : (xs : List ℕ) (from c x : ℕ) → IsCopy xs from c x → c < from + length xs
    within [] from c x h = absurd h
    within (y ∷ xs) from c x (inl e) = let d = e.0 in omega arith
    within (y ∷ xs) from c x (inr h) = let d = within xs (suc from) c x h in omega arith

pub grd_adds : (g : Condition) (r : Core) (at : ℕ) (before old new : Work) (part whole : Part) (k : ℕ) → LaysPart r at before old part → Copies g part.first part.last old k new whole.first whole.last → take k part.first ≡ part.first → k ≡ length part.first → whole.empty ≡ part.empty → LaysPart (FirstGuarded g r) at before new whole
grd_adds g r at before old new part whole k a b t n e =
    let c = a.count in
    let h : k ≡ heads_of r = n ∙ ap (λ (z : List ℕ). length z) a.first_is ∙ length-firsts r at in
    let d = b.count in
    let ev = b.even in
    record {
      begin = a.begin;
      count = omega arith;
      labels_count = (let x = ev.labels_too in omega arith);
      follow_count = (let x = ev.follow_too in omega arith);
      kept_places = λ i l. (b.kept i (omega arith)).0 ∙ a.kept_places i l;
      kept_labels = λ i l. (b.kept i (omega arith)).1 ∙ a.kept_labels i l;
      kept_follow = λ i l. (b.kept i (omega arith)).2 ∙ a.kept_follow i l;
      first_is = b.first_is ∙ rw (c, h) refl;
      empty_is = e ∙ a.empty_is;
      last_is = λ i. (
        λ q. elim ((b.last_is i).0 q) [ inl p ↦ inl ((a.last_is i).0 p) | inr (x, p, z) ↦ inr (x, to_copy i x p, (a.last_is x).0 z) ],
        λ q. (b.last_is i).1 (elim q [ inl p ↦ inl ((a.last_is i).1 p) | inr (x, p, z) ↦ inr (x, of_copy i x p, (a.last_is x).1 z) ]),
      );
      marks_are = λ i p l q.
          elim (split_lt i (at + size_of r)) [
            | inl m ↦ inl (a.marks_are i p l (sym (b.kept i (omega arith)).0 ∙ q))
            | inr m ↦ (
                let w = slice_get_within new.places i p q in
                let (x, o) = original i m (omega arith) in
                let v = b.copied i x (of_copy i x o) in
                let (z, s, u) = v.mark_is p q in
                inr (x, mark_of z, o, a.marks_are x z (first_within r at x (copy_original (firsts r at) (at + size_of r) i x o)).0 s, u))
          ];
      labels_are = λ i l m. (
        λ q. elim (split_lt i (at + size_of r)) [
          | inl w ↦ inl ((a.labels_are i l m).0 (subst (λ (z : ℕ). HasMember z l) (b.kept i (omega arith)).1 q))
          | inr w ↦ (
              elim (split_lt i (length new.places)) [
                | inl u ↦ (
                    let (x, o) = original i w (omega arith) in
                    let v = b.copied i x (of_copy i x o) in
                    inr (x, o, (a.labels_are x l (first_within r at x (copy_original (firsts r at) (at + size_of r) i x o)).0).0 (subst (λ (z : ℕ). HasMember z l) v.label_is q)))
                | inr u ↦ absurd (none_past new.labels (length new.places) i l ev.labels_too u q)
              ])
        ],
        λ q. elim q [
          | inl p ↦ (let w = label_within r at l i p in subst (λ (z : ℕ). HasMember z l) (sym (b.kept i (omega arith)).1) ((a.labels_are i l m).1 p))
          | inr (x, o, p) ↦ (let v = b.copied i x (of_copy i x o) in subst (λ (z : ℕ). HasMember z l) (sym v.label_is) ((a.labels_are x l (first_within r at x (copy_original (firsts r at) (at + size_of r) i x o)).0).1 p))
        ],
      );
      follow_are = λ i l m. (
        λ q. elim (split_lt i (at + size_of r)) [
          | inl w ↦ inl ((a.follow_are i l m).0 (subst (λ (z : ℕ). HasMember z l) (b.kept i (omega arith)).2 q))
          | inr w ↦ (
              elim (split_lt i (length new.places)) [
                | inl u ↦ (
                    let (x, o) = original i w (omega arith) in
                    let v = b.copied i x (of_copy i x o) in
                    inr (x, o, (a.follow_are x l (first_within r at x (copy_original (firsts r at) (at + size_of r) i x o)).0).0 (subst (λ (z : ℕ). HasMember z l) v.follow_is q)))
                | inr u ↦ absurd (none_past new.follow (length new.places) i l ev.follow_too u q)
              ])
        ],
        λ q. elim q [
          | inl p ↦ (let w = (follow_within r at i l p).0 in subst (λ (z : ℕ). HasMember z l) (sym (b.kept i (omega arith)).2) ((a.follow_are i l m).1 p))
          | inr (x, o, p) ↦ (let v = b.copied i x (of_copy i x o) in subst (λ (z : ℕ). HasMember z l) (sym v.follow_is) ((a.follow_are x l (first_within r at x (copy_original (firsts r at) (at + size_of r) i x o)).0).1 p))
        ],
      );
    }
  where
    to_copy : (i x : ℕ) → IsCopy (take k part.first) (length old.places) i x → CopyOf r at i x
    to_copy i x o = subst (λ (z : List ℕ). IsCopy z (at + size_of r) i x) (t ∙ a.first_is) (subst (λ (z : ℕ). IsCopy (take k part.first) z i x) a.count o)

    of_copy : (i x : ℕ) → CopyOf r at i x → IsCopy (take k part.first) (length old.places) i x
    of_copy i x o = subst (λ (z : ℕ). IsCopy (take k part.first) z i x) (sym a.count) (subst (λ (z : List ℕ). IsCopy z (at + size_of r) i x) (sym (t ∙ a.first_is)) o)

    original : (i : ℕ) → at + size_of r ≤ i → i < at + size_of r + heads_of r → (x : ℕ) × CopyOf r at i x
    original i l m = copied_place (firsts r at) (at + size_of r) (heads_of r) i (length-firsts r at) (in_places (at + size_of r) (heads_of r) i l m)
      where
        in_places : (from n i : ℕ) → from ≤ i → i < from + n → IsAmong i (positions_from from n)
        in_places from zero i l m = absurd (omega arith)
        in_places from (suc n) i l m = elim (split_lt from i) [ inl h ↦ inr (in_places (suc from) n i (omega arith) (omega arith)) | inr h ↦ inl (omega arith) ]

pub copy_fails : (g : Condition) (r : Core) (at : ℕ) (before old work new : Work) (part : Part) (k : ℕ) (first : List ℕ) (last x : ℕ) (e : PositionsFault) → LaysPart r at before old part → Copies g part.first part.last old k work first last → k < length part.first → PushesGuardedCopy x g work new (Err e) → AnswersLayingFrom (FirstGuarded g r) at before new (Err e)
copy_fails g r at before old work new part k first last x TooManyPositions a b l h =
    let c = a.count in
    let d = b.count in
    let n = length-firsts r at in
    let f = ap (λ (z : List ℕ). length z) a.first_is in
    omega arith
copy_fails g r at before old work new part k first last x Memory a b l h = tt

pub last_more : (old_last last now more x at test : ℕ) (t : Bool) → t ≡ (bit_at old_last x == 1) → ((i : ℕ) → HasMember more i ↔ (i ≡ at)) → ((i : ℕ) → HasMember now i ↔ (HasMember last i ⊎ ((t ≡ true) × HasMember more i))) → (i : ℕ) → HasMember now i ↔ (HasMember last i ⊎ (HasMember old_last x × (i ≡ at)))
last_more old_last last now more x at test t e m h i = (
  λ b. elim ((h i).0 b) [ inl p ↦ inl p | inr p ↦ inr (eqb-true (bit_at old_last x) 1 (sym e ∙ p.0), (m i).0 p.1) ],
  λ b. (h i).1 (elim b [ inl p ↦ inl p | inr p ↦ inr (e ∙ eq-eqb (bit_at old_last x) 1 p.0, (m i).1 p.1) ]),
)

pub copied_all : (xs : List ℕ) (k : ℕ) → length xs ≤ k → k ≤ length xs → (take k xs ≡ xs) × (k ≡ length xs)
copied_all [] zero l m = (refl, refl)
copied_all [] (suc k) l m = absurd (omega arith)
copied_all (x ∷ xs) zero l m = absurd (omega arith)
copied_all (x ∷ xs) (suc k) l m = let p = copied_all xs k (omega arith) (omega arith) in (ap (λ (z : List ℕ). x ∷ z) p.0, ap suc p.1)

pub first_before : (r : Core) (at : ℕ) (before old : Work) (part : Part) → LaysPart r at before old part → (j : ℕ) → IsAmong j part.first → j < length old.places
first_before r at before old part a j h =
    let w = first_within r at j (subst (λ (x : List ℕ). IsAmong j x) a.first_is h) in
    let c = a.count in
    omega arith
