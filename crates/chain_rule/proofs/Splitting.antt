-- Passes and notes are made, and notes taken in.
use Rattle.std.proofs.Common.{◌≡◌, ℕ, zero, suc, ◌+◌, ◌<◌, ⊎_elim, Bool, true, false, cond, List, [], ◌∷◌, ◌++◌, length, set, refl, sym, ap, ◌∙◌, subst, arith, append-nil, Some, None, length-append, replicate}
use mathlib.Core.Option.{some, some-injective, some-ne-none}
use lib.ListN.{get_elem?}
use Rattle.std.proofs.lemmas.List.{map-append, length-map}
use Rattle.std.proofs.lemmas.Bool.{true≢false, false≢true, ne_eqb}
use Rattle.atomic_table.specs.Table.{State, Splits, Joins, opening}
use Rattle.atomic_table.proofs.Lists.{at_set, set_again}
use Rattle.intern_core.specs.declared.history.Key.{Key}
use Rattle.intern_core.specs.declared.history.Entry.{Entry}
use Rattle.intern_core.specs.declared.history.EntryWords.{EntryWords}
use Rattle.intern_core.specs.declared.seat.SeatWithOffer.{SeatWithOffer}
use Rattle.intern_core.specs.declared.seat.Phase.TheVariants.{Idle}
use Rattle.intern_core.specs.Turns.{seat}
use Rattle.intern_core.specs.Layout.{word_count}
use Rattle.intern_core.specs.Kept.{Kept, IsShape, total, is_pass}
use Rattle.intern_core.specs.History.{one_if}
use Rattle.intern_core.specs.Blocks.{KeptLists}
use Rattle.intern_core.specs.Machine.{with_offer, seats_of}
use Rattle.intern_core.proofs.Opening.{at_snoc, kept_opening, kept_joined}
use Rattle.intern_core.proofs.Machines.{idle_lists}
use Rattle.intern_core.proofs.Rooms.{lists_joined}
use Rattle.chain_rule.specs.declared.meaning.Setting.{Setting}
use Rattle.chain_rule.specs.declared.view.View.{View}
use Rattle.chain_rule.specs.Rule.{offering_seats, Knows, Counts, Ruled, first_view}
use Rattle.chain_rule.specs.Splits.{noted, giver, newcomer, meets}
use Rattle.chain_rule.proofs.Views.{place_of_pass, front_self}
use Rattle.chain_rule.proofs.Turning.{ruled_set}

module _ {M : Type 0} where
  seats-append : (vs : List (View M)) (x : View M) → offering_seats (vs ++ x ∷ []) ≡ offering_seats vs ++ cond x.walks (with_offer x.seat x.offer ∷ []) []
  seats-append [] x = refl
  seats-append (v ∷ vs) x = ap (λ l. cond v.walks (with_offer v.seat v.offer ∷ l) l) (seats-append vs x) ∙ step v.walks (offering_seats vs) (cond x.walks (with_offer x.seat x.offer ∷ []) []) where
    step : (t : Bool) (a b : List SeatWithOffer) → cond t (with_offer v.seat v.offer ∷ (a ++ b)) (a ++ b) ≡ cond t (with_offer v.seat v.offer ∷ a) a ++ b
    step true a b = refl
    step false a b = refl

  -- no pass has a number that is above all
  none_yet : (vs : List (View M)) (n : ℕ) → ((j : ℕ) (w : View M) → get_elem? vs j ≡ some w → w.walks ≡ true → w.seat.pass < n) → total (is_pass n) (seats_of (offering_seats vs)) ≡ 0
  none_yet [] n low = refl
  none_yet (v ∷ vs) n low = here v.walks refl (none_yet vs n (λ j w at. low (suc j) w at)) where
    here : (t : Bool) → v.walks ≡ t → total (is_pass n) (seats_of (offering_seats vs)) ≡ 0 → total (is_pass n) (seats_of (cond t (with_offer v.seat v.offer ∷ offering_seats vs) (offering_seats vs))) ≡ 0
    here true is rest =
        let h = low 0 v refl is in
        let other : is_pass n v.seat ≡ 0 = ap one_if (ne_eqb v.seat.pass n (λ e. absurd (omega arith))) in
        omega arith
    here false is rest = rest

  seats_rest : (vs : List (View M)) (i : ℕ) (w x : View M) → get_elem? vs i ≡ some w → w.walks ≡ false → x.walks ≡ false → offering_seats (set vs i x) ≡ offering_seats vs
  seats_rest [] i w x at idle idle' = refl
  seats_rest (v ∷ vs) zero w x at idle idle' =
      let e = some-injective v w at in
      ap (λ t. cond t (with_offer x.seat x.offer ∷ offering_seats vs) (offering_seats vs)) idle' ∙ sym (ap (λ t. cond t (with_offer v.seat v.offer ∷ offering_seats vs) (offering_seats vs)) (ap (λ (y : View M). y.walks) e ∙ idle))
  seats_rest (v ∷ vs) (suc i) w x at idle idle' = ap (λ l. cond v.walks (with_offer v.seat v.offer ∷ l) l) (seats_rest vs i w x at idle idle')

module _ {M : Type 0} (lawful : M → List Entry → Key → Type 0) (allowed : M → Key → Type 0) (stands : M → List Entry → ℕ → List EntryWords → Type 0) {S : Type 0} (key : Setting M) where
  -- one more view, which is no pass
  ruled_more : (s : State S (View M)) (r : Ruled lawful allowed stands key s) (x : View M) → x.walks ≡ false → Knows lawful allowed stands key r.history x
      → Ruled lawful allowed stands key record { words = s.words; homes = s.homes; views = s.views ++ x ∷ [] }
  ruled_more s r x idle knows =
      let seats : offering_seats (s.views ++ x ∷ []) ≡ offering_seats s.views = seats-append s.views x ∙ ap (λ t. offering_seats s.views ++ cond t (with_offer x.seat x.offer ∷ []) []) idle ∙ append-nil (offering_seats s.views) in
      let old : (i : ℕ) (v : View M) → get_elem? (s.views ++ x ∷ []) i ≡ some v → v.walks ≡ true → get_elem? s.views i ≡ some v =
      λ i v at walks. ⊎_elim (λ h. h) (λ (h : (i ≡ length s.views) × (x ≡ v)). absurd (true≢false (sym walks ∙ sym (ap (λ (y : View M). y.walks) h.1) ∙ idle))) (at_snoc s.views x v i at) in
      record {
        history = r.history;
        kept = subst (λ l. Kept key.shape s.words (seats_of l) r.history) (sym seats) r.kept;
        lists = subst (λ l. KeptLists key.shape s.words l r.history) (sym seats) r.lists;
        means = r.means;
        views = λ i v at. ⊎_elim (λ h. r.views i v h) (λ (h : (i ≡ length s.views) × (x ≡ v)). subst (Knows lawful allowed stands key r.history) h.1 knows) (at_snoc s.views x v i at);
        apart = λ i j v w hi hj vw ww e. r.apart i j v w (old i v hi vw) (old j w hj ww) vw ww e;
        counts = λ i v at walks zero_is. let c = r.counts i v (old i v at walks) walks zero_is in
            record { many = ap length seats ∙ c.many; below = λ j w there ww. c.below j w (old j w there ww) ww; silent = c.silent };
      }

  -- a view that is no pass gives way to another
  ruled_rest : (s : State S (View M)) (r : Ruled lawful allowed stands key s) (id : ℕ) (w x : View M) → get_elem? s.views id ≡ some w → w.walks ≡ false → x.walks ≡ false
      → Knows lawful allowed stands key r.history x → Ruled lawful allowed stands key record { words = s.words; homes = s.homes; views = set s.views id x }
  ruled_rest s r id w x at rests idle knows =
      let seats : offering_seats (set s.views id x) ≡ offering_seats s.views = seats_rest s.views id w x at rests idle in
      let old : (i : ℕ) (v : View M) → get_elem? (set s.views id x) i ≡ some v → v.walks ≡ true → get_elem? s.views i ≡ some v =
      λ i v there walks. ⊎_elim (λ (h : (i ≡ id) × (x ≡ v)). absurd (true≢false (sym walks ∙ sym (ap (λ (y : View M). y.walks) h.1) ∙ idle))) (λ h. h.1) (at_set s.views id i x v there) in
      record {
        history = r.history;
        kept = subst (λ l. Kept key.shape s.words (seats_of l) r.history) (sym seats) r.kept;
        lists = subst (λ l. KeptLists key.shape s.words l r.history) (sym seats) r.lists;
        means = r.means;
        views = λ i v there. ⊎_elim (λ (h : (i ≡ id) × (x ≡ v)). subst (Knows lawful allowed stands key r.history) h.1 knows) (λ h. r.views i v h.1) (at_set s.views id i x v there);
        apart = λ i j v y hi hj vw yw e. r.apart i j v y (old i v hi vw) (old j y hj yw) vw yw e;
        counts = λ i v there walks zero_is. let c = r.counts i v (old i v there walks) walks zero_is in
            record { many = ap length seats ∙ c.many; below = λ j y h yw. c.below j y (old j y h yw) yw; silent = c.silent };
      }

  pub splits_note : (id : ℕ) (v : View M) → Splits (Ruled lawful allowed stands {S = S} key) id v v (noted v.front)
  splits_note id v s r at =
      subst (λ l. Ruled lawful allowed stands key record { words = s.words; homes = s.homes; views = l ++ noted v.front ∷ [] }) (sym (set_again s.views id v at))
      (ruled_more s r (noted v.front) refl (record { front = (r.views id v at).front; met = (r.history, refl); walker = λ e. absurd (false≢true e) }))

  pub splits_pass : (id : ℕ) (v : View M) → v.walks ≡ true → v.setting ≡ Some key → v.seat.pass ≡ 0 → v.made < key.shape.passes → Splits (Ruled lawful allowed stands {S = S} key) id v (giver v) (newcomer v)
  splits_pass id v walks setting first room s r at =
      let place = place_of_pass s.views id v at walks in
      let x = newcomer v in
      let views = set s.views id (giver v) in
      let g = (r.views id v at).walker walks in
      let c = r.counts id v at walks first in
      let same : offering_seats views ≡ offering_seats s.views = place.changed (giver v) walks ∙ set_again (offering_seats s.views) place.at (with_offer v.seat v.offer) place.seat_there in
      let seats : offering_seats (views ++ x ∷ []) ≡ offering_seats s.views ++ with_offer x.seat x.offer ∷ [] = seats-append views x ∙ ap (λ l. l ++ with_offer x.seat x.offer ∷ []) same in
      let many : length (seats_of (offering_seats s.views)) < key.shape.passes = subst (λ n. n < key.shape.passes) (sym (length-map (offering_seats s.views) (λ (y : SeatWithOffer). y.seat) ∙ c.many)) room in
      let gives : Knows lawful allowed stands key r.history (giver v) = record { front = (r.views id v at).front; met = (r.views id v at).met; walker = λ e. record { setting = g.setting; mine = g.mine; seen = g.seen; call = g.call; block = g.block; crowded = g.crowded } } in
      let comes : Knows lawful allowed stands key r.history x = record {
        front = (r.history, refl);
        met = (r.history, refl);
        walker = λ e. record { setting = setting; mine = c.silent v.made (omega arith); seen = refl; call = tt; block = tt; crowded = λ none. absurd (false≢true none) };
      } in
      -- each view is the new pass, pass 0, or one of before
      let low : (j : ℕ) (w : View M) → get_elem? views j ≡ some w → w.walks ≡ true → w.seat.pass < v.made =
      λ j w there ww. ⊎_elim
      (λ (h : (j ≡ id) × (giver v ≡ w)). subst (λ (y : View M). y.seat.pass < v.made) h.1 (c.below id v at walks))
      (λ h. c.below j w h.1 ww) (at_set s.views id j (giver v) w there) in
      let back : (j : ℕ) (w : View M) → get_elem? views j ≡ some w → (u : View M) × (get_elem? s.views j ≡ some u) × (u.walks ≡ w.walks) × (u.seat.pass ≡ w.seat.pass) =
      λ j w there. ⊎_elim
      (λ (h : (j ≡ id) × (giver v ≡ w)). (v, subst (λ n. get_elem? s.views n ≡ some v) (sym h.0) at, ap (λ (y : View M). y.walks) h.1, ap (λ (y : View M). y.seat.pass) h.1))
      (λ h. (w, h.1, refl, refl)) (at_set s.views id j (giver v) w there) in
      record {
        history = r.history;
        kept = subst (λ l. Kept key.shape s.words l r.history) (sym (ap seats_of seats ∙ map-append (λ (y : SeatWithOffer). y.seat) (offering_seats s.views) (with_offer x.seat x.offer ∷ [])))
            (kept_joined key.shape s.words (seats_of (offering_seats s.views)) r.history r.kept many v.made room (none_yet s.views v.made c.below));
        lists = subst (λ l. KeptLists key.shape s.words l r.history) (sym seats) (lists_joined key.shape s.words (offering_seats s.views) r.history r.lists v.made);
        means = r.means;
        views = λ i w there. ⊎_elim
            (λ h. ⊎_elim (λ (e : (i ≡ id) × (giver v ≡ w)). subst (Knows lawful allowed stands key r.history) e.1 gives) (λ e. r.views i w e.1) (at_set s.views id i (giver v) w h))
            (λ (h : (i ≡ length views) × (x ≡ w)). subst (Knows lawful allowed stands key r.history) h.1 comes)
            (at_snoc views x w i there);
        apart = λ i j y w hi hj yw ww e. ⊎_elim
            (λ a. ⊎_elim
            (λ b. let p = back i y a in let q = back j w b in r.apart i j p.0 q.0 p.1 q.1 (p.2 ∙ yw) (q.2 ∙ ww) (p.3 ∙ e ∙ sym q.3))
            (λ (b : (j ≡ length views) × (x ≡ w)). let l = low i y a yw in let n : w.seat.pass ≡ v.made = sym (ap (λ (z : View M). z.seat.pass) b.1) in absurd (omega arith))
            (at_snoc views x w j hj))
            (λ (a : (i ≡ length views) × (x ≡ y)). ⊎_elim
            (λ b. let l = low j w b ww in let n : y.seat.pass ≡ v.made = sym (ap (λ (z : View M). z.seat.pass) a.1) in absurd (omega arith))
            (λ (b : (j ≡ length views) × (x ≡ w)). a.0 ∙ sym b.0)
            (at_snoc views x w j hj))
            (at_snoc views x y i hi);
        counts = λ i w there ww zero_is.
            let is_zero : w.made ≡ v.made + 1 = ⊎_elim
            (λ h. ⊎_elim (λ (e : (i ≡ id) × (giver v ≡ w)). sym (ap (λ (z : View M). z.made) e.1))
            (λ e. absurd (e.0 (r.apart i id w v e.1 at ww walks (zero_is ∙ sym first))))
            (at_set s.views id i (giver v) w h))
            (λ (h : (i ≡ length views) × (x ≡ w)). let n : v.made ≡ w.seat.pass = ap (λ (z : View M). z.seat.pass) h.1 in let l = c.below id v at walks in absurd (omega arith))
            (at_snoc views x w i there) in
            record {
              many = ap length seats ∙ length-append (offering_seats s.views) (with_offer x.seat x.offer ∷ []) ∙ ap (λ n. n + 1) c.many ∙ sym is_zero;
              below = λ j y h yw. ⊎_elim
                  (λ b. let l = low j y b yw in omega arith)
                  (λ (b : (j ≡ length views) × (x ≡ y)). let n : y.seat.pass ≡ v.made = sym (ap (λ (z : View M). z.seat.pass) b.1) in omega arith)
                  (at_snoc views x y j h);
              silent = λ p high. c.silent p (omega arith);
            };
      }

  pub joins_note : (id other : ℕ) (v w : View M) → v.walks ≡ true → w.walks ≡ false → Joins (Ruled lawful allowed stands {S = S} key) id v other w (meets v w) (noted [])
  joins_note id other v w walks rests s r at ne there =
      let place = place_of_pass s.views id v at walks in
      let k = r.views id v at in
      let g = k.walker walks in
      let before : get_elem? s.views other ≡ some w = ⊎_elim (λ h. absurd (ne h.0)) (λ h. h.1) (at_set s.views id other (meets v w) w there) in
      let t : State S (View M) = record { words = s.words; homes = s.homes; views = set s.views id (meets v w) } in
      let met = ruled_set lawful allowed stands key s r id v (meets v w) at walks walks refl refl place s.words r.history
      (subst (λ l. Kept key.shape s.words (seats_of l) r.history) (sym (set_again (offering_seats s.views) place.at (with_offer v.seat v.offer) place.seat_there)) r.kept)
      (subst (λ l. KeptLists key.shape s.words l r.history) (sym (set_again (offering_seats s.views) place.at (with_offer v.seat v.offer) place.seat_there)) r.lists)
      r.means (front_self r.history)
      (record { front = k.front; met = (r.views other w before).front; walker = λ e. record { setting = g.setting; mine = g.mine; seen = g.seen; call = g.call; block = g.block; crowded = g.crowded } })
      (λ q nq. refl) in
      ruled_rest t met other w (noted []) there rests refl (record { front = (met.history, refl); met = (met.history, refl); walker = λ e. absurd (false≢true e) })

  -- the table at the start
  pub rules_opening : IsShape key.shape → (words : List ℕ) → words ≡ replicate (word_count key.shape) 0 → Ruled lawful allowed stands {S = S} key (opening words [] (first_view key))
  rules_opening ranges words zero_words = record {
    history = [];
    kept = subst (λ ws. Kept key.shape ws (seat 0 None 0 false Idle ∷ []) []) (sym zero_words)
        (kept_joined key.shape (replicate (word_count key.shape) 0) [] [] (kept_opening key.shape ranges) ranges.some_passes 0 ranges.some_passes refl);
    lists = subst (λ ws. KeptLists key.shape ws (with_offer (seat 0 None 0 false Idle) [] ∷ []) []) (sym zero_words) (idle_lists key.shape 1);
    means = tt;
    views = λ i v at. subst (Knows lawful allowed stands key []) (only i v at).1 (record {
      front = ([], refl);
      met = ([], refl);
      walker = λ e. record { setting = refl; mine = refl; seen = refl; call = tt; block = tt; crowded = λ none. absurd (false≢true none) };
    });
    apart = λ i j v w hi hj vw ww e. (only i v hi).0 ∙ sym (only j w hj).0;
    counts = λ i v at walks zero_is. subst (Counts lawful allowed stands [] (first_view key ∷ [])) (only i v at).1 (record {
      many = refl;
      below = λ j w there ww. subst (λ (y : View M). y.seat.pass < 1) (only j w there).1 (omega arith);
      silent = λ p high. refl;
    });
  } where
    only : (i : ℕ) (v : View M) → get_elem? (first_view key ∷ []) i ≡ some v → (i ≡ 0) × (first_view key ≡ v)
    only zero v at = (refl, some-injective (first_view key) v at)
    only (suc i) v at = absurd (some-ne-none v (sym at))
