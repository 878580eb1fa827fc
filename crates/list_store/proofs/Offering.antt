-- The steps of an offer, one after another.
use Rattle.std.proofs.Common.{◌≡◌, ◌≢◌, ℕ, zero, suc, ◌+◌, ◌*◌, ◌<◌, nat_le, nat_lt, inl, inr, Bool, true, false, cond, List, [], ◌∷◌, ◌++◌, length, refl, sym, ap, ◌∙◌, subst, arith, append-nil, append_assoc, Option, Some, None, is_some}
use Rattle.std.proofs.lemmas.Bool.{true≢false, cond-true, cond-false, lt-ltb, ltb-true}
use Rattle.intern_core.specs.declared.shape.Shape.{Shape}
use Rattle.intern_core.specs.declared.history.Key.{Key}
use Rattle.intern_core.specs.declared.history.EntryWords.{EntryWords}
use Rattle.intern_core.specs.declared.history.Entry.{Entry}
use Rattle.intern_core.specs.declared.history.Entry.TheVariants as entry
use Rattle.intern_core.specs.declared.outcome.Published.TheVariants.{First, Already, NoRoom}
use Rattle.intern_core.specs.declared.seat.Seat.{Seat}
use Rattle.intern_core.specs.declared.seat.Phase.{Phase}
use Rattle.intern_core.specs.declared.seat.Phase.TheVariants.{Idle, Offering, ClaimingBlock, StoringWord, SwappingList}
use Rattle.intern_core.specs.History.{listing_in, IsLegal, IsLegalAfter, IsOfAnother, Meets}
use Rattle.intern_core.specs.Turns.{Turn, seat, turn_in, storing, offered, block_claimed, published}
use Rattle.intern_core.proofs.Histories.{listing_more}
use Rattle.intern_core.proofs.ListTurns.{of_another}
use Rattle.chain_rule.specs.declared.meaning.Setting.{Setting}
use Rattle.chain_rule.specs.declared.view.View.{View}
use Rattle.chain_rule.specs.Rule.{IsFront, own, no_room}
use Rattle.chain_rule.specs.Passes.{Stays}
use Rattle.chain_rule.specs.Stepping.{LacksRoom, IsStoringWord, IsSwappingList}
use Rattle.chain_rule.specs.Told.{Turned, TookTurn, TookClaim, phase_begun, offer_begun, view_begun}
use Rattle.list_store.specs.Lists.{HasKept, IsOfferAnswer, IsStoring}
use Rattle.list_store.proofs.ListReads.{front_on, not_by_own, list_word_there}

-- a load that found a list word ends the offer, and one that found none does so where the pass was refused before
offered_ends : (p : ℕ) (r : Option ℕ) (spare : ℕ) (marked : Bool) (number len v : ℕ) → v ≢ 0
    → ((offered p r spare marked number len v).seat ≡ seat p r spare marked Idle) × ((offered p r spare marked number len v).made ≡ [])
offered_ends p r spare marked number len zero some_word = absurd (some_word refl)
offered_ends p None spare marked number len (suc n) some_word = (refl, refl)
offered_ends p (Some q) spare marked number len (suc n) some_word = (refl, refl)

offered_none : (p : ℕ) (r : Option ℕ) (spare : ℕ) (marked : Bool) (number len v : ℕ) → (offered p r spare marked number len v).made ≡ []
offered_none p None spare marked number len zero = refl
offered_none p (Some q) spare marked number len zero = refl
offered_none p None spare marked number len (suc n) = refl
offered_none p (Some q) spare marked number len (suc n) = refl

offered_refused : (p : ℕ) (r : Option ℕ) (spare : ℕ) (marked : Bool) (number len : ℕ) → (is_some (offered p r spare marked number len 0).seat.refused ≡ is_some r)
    × (is_some r ≡ true → (offered p r spare marked number len 0).seat ≡ seat p r spare marked Idle)
    × (is_some r ≡ false → (offered p r spare marked number len 0).seat ≡ seat p None spare marked (ClaimingBlock number len))
offered_refused p None spare marked number len = (refl, (λ e. absurd (true≢false (sym e))), (λ e. refl))
offered_refused p (Some q) spare marked number len = (refl, (λ e. refl), (λ e. absurd (true≢false e)))

-- a claim that fits begins to store, and another ends the offer
claimed_fits : (shape : Shape) (p : ℕ) (r : Option ℕ) (spare : ℕ) (marked : Bool) (number len v : ℕ) (t : Bool) → nat_le (v + len) shape.entries ≡ t
    → ((block_claimed shape p r spare marked number len v).made ≡ [])
    × (t ≡ true → (block_claimed shape p r spare marked number len v).seat ≡ seat p r spare marked (storing number v len 0))
    × (t ≡ false → (block_claimed shape p r spare marked number len v).seat ≡ seat p (Some len) spare marked Idle)
claimed_fits shape p r spare marked number len v true is = (
  ap (λ (t : Turn). t.made) (cond-true (nat_le (v + len) shape.entries) _ _ is),
  (λ e. ap (λ (t : Turn). t.seat) (cond-true (nat_le (v + len) shape.entries) _ _ is)),
  (λ e. absurd (true≢false e)),
)
claimed_fits shape p r spare marked number len v false is = (
  ap (λ (t : Turn). t.made) (cond-false (nat_le (v + len) shape.entries) _ _ is),
  (λ e. absurd (true≢false (sym e))),
  (λ e. ap (λ (t : Turn). t.seat) (cond-false (nat_le (v + len) shape.entries) _ _ is)),
)

pub storing_on : (number start len stored : ℕ) → stored < 3 * len → storing number start len stored ≡ StoringWord number start len stored
storing_on number start len stored low = cond-true (nat_lt stored (3 * len)) _ _ (lt-ltb stored (3 * len) low)

storing_ends : (number start len : ℕ) → storing number start len (3 * len) ≡ SwappingList number start len
storing_ends number start len = by (nat_lt (3 * len) (3 * len)) refl where
  by : (t : Bool) → nat_lt (3 * len) (3 * len) ≡ t → cond t (StoringWord number start len (3 * len)) (SwappingList number start len) ≡ SwappingList number start len
  by true is = absurd (let low = ltb-true (3 * len) (3 * len) is in omega arith)
  by false is = refl

last_meets : (shape : Shape) (before xs : List Entry) (e : Entry) → IsLegalAfter shape before (xs ++ e ∷ []) → Meets shape (before ++ xs) e
last_meets shape before [] e legal = subst (λ l. Meets shape l e) (sym (append-nil before)) legal.0
last_meets shape before (x ∷ xs) e legal = subst (λ l. Meets shape l e) (append_assoc before (x ∷ []) xs) (last_meets shape (before ++ x ∷ []) xs e legal.1)

module _ {M : Type 0} where
  -- next is the store of the next word, while some are left, and then the exchange of the list word
  pub stores_next : (number : ℕ) (words : List EntryWords) (at : ℕ) (v w : View M) → IsStoring number words at v w → at < 3 * length words → IsStoringWord at w.seat.phase
  stores_next number words at v w s low = subst (IsStoringWord at) (sym (ap (λ (x : Seat). x.phase) s.here ∙ storing_on number s.start (length words) at low)) refl

  pub swaps_next : (number : ℕ) (words : List EntryWords) (v w : View M) → IsStoring number words (3 * length words) v w → IsSwappingList number w.seat.phase
  swaps_next number words v w s = subst (IsSwappingList number) (sym (ap (λ (x : Seat). x.phase) s.here ∙ storing_ends number s.start (length words))) refl

  kept_seat : (v w : View M) (r : Option ℕ) → w.seat ≡ seat v.seat.pass r v.seat.spare v.seat.marked Idle → HasKept v.seat w.seat
  kept_seat v w r is = record {
    pass = ap (λ (x : Seat). x.pass) is;
    spare = ap (λ (x : Seat). x.spare) is;
    marked = ap (λ (x : Seat). x.marked) is;
    idle = ap (λ (x : Seat). x.phase) is;
  }

module _ {M : Type 0} (lawful : M → List Entry → Key → Type 0) (allowed : M → Key → Type 0) (stands : M → List Entry → ℕ → List EntryWords → Type 0) (key : Setting M) where
  -- the turn of a seat that is known
  seat_after : (begins : Phase) (told : List EntryWords) (u w : View M) (place found : ℕ) (s : Seat) → u.seat ≡ s → Turned lawful allowed stands key (view_begun begins told u) place found w
      → w.seat ≡ (turn_in key.shape (offer_begun told s.phase u.offer) s.pass s.refused s.spare s.marked (phase_begun begins told s.phase) found).seat
  seat_after begins told u w place found s is t =
      ap (λ (x : View M). x.seat) t.after ∙ ap (λ (x : Seat). (turn_in key.shape (offer_begun told x.phase u.offer) x.pass x.refused x.spare x.marked (phase_begun begins told x.phase) found).seat) is

  made_after : (begins : Phase) (told : List EntryWords) (u : View M) (found : ℕ) (s : Seat) → u.seat ≡ s
      → (turn_in key.shape (offer_begun told u.seat.phase u.offer) u.seat.pass u.seat.refused u.seat.spare u.seat.marked (phase_begun begins told u.seat.phase) found).made
      ≡ (turn_in key.shape (offer_begun told s.phase u.offer) s.pass s.refused s.spare s.marked (phase_begun begins told s.phase) found).made
  made_after begins told u found s is = ap (λ (x : Seat). (turn_in key.shape (offer_begun told x.phase u.offer) x.pass x.refused x.spare x.marked (phase_begun begins told x.phase) found).made) is

  module _ (number : ℕ) (words : List EntryWords) (u : View M) (idle : u.seat.phase ≡ Idle) where
    abbrev at_rest : Seat
    at_rest = seat u.seat.pass u.seat.refused u.seat.spare u.seat.marked Idle

    rests : u.seat ≡ at_rest
    rests = ap (λ (ph : Phase). seat u.seat.pass u.seat.refused u.seat.spare u.seat.marked ph) idle

    begun_mine : (w : View M) (found : ℕ) → TookTurn lawful allowed stands key (Offering number 0) u found w → w.mine ≡ u.mine
    begun_mine w found t =
        ap (λ (x : View M). x.mine) t.after
        ∙ ap (λ l. u.mine ++ l) (made_after (Offering number 0) [] u found at_rest rests ∙ offered_none u.seat.pass u.seat.refused u.seat.spare u.seat.marked number 0 found) ∙ append-nil u.mine

    -- another pass has published a list
    pub offer_already : (w : View M) (found : ℕ) → TookTurn lawful allowed stands key (Offering number 0) u found w → found ≢ 0 → listing_in u.mine number ≡ None
        → Stays lawful allowed stands key w → IsOfferAnswer key.shape number words Already u w × HasKept u.seat w.seat
    offer_already w found t some_word unlisted stays =
        let ends = offered_ends u.seat.pass u.seat.refused u.seat.spare u.seat.marked number 0 found some_word in
        let there = seat_after (Offering number 0) [] u w _ found at_rest rests t ∙ ends.0 in
        let mine = begun_mine w found t in
        let pass : w.seat.pass ≡ u.seat.pass = ap (λ (x : Seat). x.pass) there in
        let word = list_word_there lawful allowed stands key u w (Offering number 0) found number idle t refl (λ ws seen h. h) (offered_none u.seat.pass u.seat.refused u.seat.spare u.seat.marked number 0 found) in
        let none : listing_in (own u.seat.pass w.front) number ≡ None =
        ap (λ p. listing_in (own p w.front) number) (sym pass) ∙ ap (λ l. listing_in l number) (stays.seen ∙ mine) ∙ unlisted in (
          (
            of_another key.shape t.words found u.seat.pass (listing_in w.front number) word (omega arith) (not_by_own u.seat.pass number w.front none),
            inl mine,
            ap no_room there,
          ),
          kept_seat u w u.seat.refused there,
        )

    -- a pass that was refused is so again
    pub offer_refused : (w : View M) (found : ℕ) → TookTurn lawful allowed stands key (Offering number 0) u found w → found ≡ 0 → no_room w.seat ≡ true
        → IsOfferAnswer key.shape number words NoRoom u w × HasKept u.seat w.seat
    offer_refused w found t none refused =
        let after = seat_after (Offering number 0) [] u w _ found at_rest rests t ∙ ap (λ n. (offered u.seat.pass u.seat.refused u.seat.spare u.seat.marked number 0 n).seat) none in
        let cases = offered_refused u.seat.pass u.seat.refused u.seat.spare u.seat.marked number 0 in
        let before : no_room u.seat ≡ true = sym cases.0 ∙ sym (ap no_room after) ∙ refused in
        ((inr before, begun_mine w found t, refused), kept_seat u w u.seat.refused (after ∙ cases.1 before))

    -- else the block is claimed next
    pub claims_next : (w : View M) (found : ℕ) → TookTurn lawful allowed stands key (Offering number 0) u found w → found ≡ 0 → no_room w.seat ≡ false
        → (w.seat ≡ seat u.seat.pass None u.seat.spare u.seat.marked (ClaimingBlock number 0)) × (w.mine ≡ u.mine) × (no_room u.seat ≡ false)
    claims_next w found t none room =
        let after = seat_after (Offering number 0) [] u w _ found at_rest rests t ∙ ap (λ n. (offered u.seat.pass u.seat.refused u.seat.spare u.seat.marked number 0 n).seat) none in
        let cases = offered_refused u.seat.pass u.seat.refused u.seat.spare u.seat.marked number 0 in
        let before : no_room u.seat ≡ false = sym cases.0 ∙ sym (ap no_room after) ∙ room in
        (after ∙ cases.2 before, begun_mine w found t, before)

    module _ (v : View M) (front : IsFront u.front v.front) (here : v.seat ≡ seat u.seat.pass None u.seat.spare u.seat.marked (ClaimingBlock number 0)) (mine : v.mine ≡ u.mine) where
      claim_mine : (w : View M) (found : ℕ) → TookClaim lawful allowed stands key words v found w → w.mine ≡ u.mine
      claim_mine w found t =
          ap (λ (x : View M). x.mine) t.after
          ∙ ap (λ l. v.mine ++ l) (made_after Idle words v found (seat u.seat.pass None u.seat.spare u.seat.marked (ClaimingBlock number 0)) here
          ∙ (claimed_fits key.shape u.seat.pass None u.seat.spare u.seat.marked number (length words) found (nat_le (found + length words) key.shape.entries) refl).0)
          ∙ append-nil v.mine ∙ mine

      -- a block that isn't claimed
      pub claim_refused : (w : View M) (found : ℕ) (t : TookClaim lawful allowed stands key words v found w) → nat_le (found + length words) key.shape.entries ≡ false → LacksRoom key.shape words w.front
          → IsOfferAnswer key.shape number words NoRoom u w × HasKept u.seat w.seat
      claim_refused w found t over lacks =
          let after = seat_after Idle words v w _ found (seat u.seat.pass None u.seat.spare u.seat.marked (ClaimingBlock number 0)) here t
          ∙ (claimed_fits key.shape u.seat.pass None u.seat.spare u.seat.marked number (length words) found false over).2 refl in
          ((inl lacks, claim_mine w found t, ap no_room after), kept_seat u w (Some (length words)) after)

      -- one that is
      pub claim_stores : (w : View M) (found : ℕ) (t : TookClaim lawful allowed stands key words v found w) → nat_le (found + length words) key.shape.entries ≡ true → no_room u.seat ≡ false
          → IsFront v.front w.front → IsStoring number words 0 u w
      claim_stores w found t fits room on = record {
        start = found;
        here = seat_after Idle words v w _ found (seat u.seat.pass None u.seat.spare u.seat.marked (ClaimingBlock number 0)) here t
            ∙ (claimed_fits key.shape u.seat.pass None u.seat.spare u.seat.marked number (length words) found true fits).1 refl;
        offer = ap (λ (x : View M). x.offer) t.after ∙ ap (λ (x : Seat). offer_begun words x.phase v.offer) here;
        front = front_on u.front v.front w.front front on;
        mine = claim_mine w found t;
        room = room;
      }

  -- one word more is stored
  pub stores_on : (number : ℕ) (words : List EntryWords) (at : ℕ) (u v w : View M) (was : ℕ) → IsStoring number words at u v → at < 3 * length words → TookTurn lawful allowed stands key Idle v was w
      → IsFront v.front w.front → IsStoring number words (at + 1) u w
  stores_on number words at u v w was s low t on =
      let now : v.seat ≡ seat u.seat.pass None u.seat.spare u.seat.marked (StoringWord number s.start (length words) at) =
      s.here ∙ ap (λ (ph : Phase). seat u.seat.pass None u.seat.spare u.seat.marked ph) (storing_on number s.start (length words) at low) in
      record {
        start = s.start;
        here = seat_after Idle [] v w _ was (seat u.seat.pass None u.seat.spare u.seat.marked (StoringWord number s.start (length words) at)) now t;
        offer = ap (λ (x : View M). x.offer) t.after ∙ ap (λ (x : Seat). offer_begun [] x.phase v.offer) now ∙ s.offer;
        front = front_on u.front v.front w.front s.front on;
        mine = ap (λ (x : View M). x.mine) t.after
            ∙ ap (λ l. v.mine ++ l) (made_after Idle [] v was (seat u.seat.pass None u.seat.spare u.seat.marked (StoringWord number s.start (length words) at)) now) ∙ append-nil v.mine ∙ s.mine;
        room = s.room;
      }

  -- the list is published, or lost to another
  module _ (number : ℕ) (words : List EntryWords) (u v w : View M) (was : ℕ) (s : IsStoring number words (3 * length words) u v) (t : TookTurn lawful allowed stands key Idle v was w) where
    abbrev last : Seat
    last = seat u.seat.pass None u.seat.spare u.seat.marked (SwappingList number s.start (length words))

    now : v.seat ≡ last
    now = s.here ∙ ap (λ (ph : Phase). seat u.seat.pass None u.seat.spare u.seat.marked ph) (storing_ends number s.start (length words))

    offer_is : (ph : Phase) → ph ≡ SwappingList number s.start (length words) → offer_begun [] ph v.offer ≡ words
    offer_is ph e = ap (λ (x : Phase). offer_begun [] x v.offer) e ∙ s.offer

    swap_made : (turn_in key.shape (offer_begun [] v.seat.phase v.offer) v.seat.pass v.seat.refused v.seat.spare v.seat.marked (phase_begun Idle [] v.seat.phase) was).made
        ≡ (published u.seat.pass None u.seat.spare u.seat.marked words number s.start (length words) was).made
    swap_made = made_after Idle [] v was last now ∙ ap (λ (l : List EntryWords). (published u.seat.pass None u.seat.spare u.seat.marked l number s.start (length words) was).made) s.offer

    swap_seat : w.seat ≡ (published u.seat.pass None u.seat.spare u.seat.marked words number s.start (length words) was).seat
    swap_seat = seat_after Idle [] v w _ was last now t ∙ ap (λ (l : List EntryWords). (published u.seat.pass None u.seat.spare u.seat.marked l number s.start (length words) was).seat) s.offer

    swap_front : w.front ≡ t.history ++ (published u.seat.pass None u.seat.spare u.seat.marked words number s.start (length words) was).made
    swap_front = ap (λ (x : View M). x.front) t.after ∙ ap (λ l. t.history ++ l) swap_made

    swap_mine : w.mine ≡ u.mine ++ (published u.seat.pass None u.seat.spare u.seat.marked words number s.start (length words) was).made
    swap_mine = ap (λ (x : View M). x.mine) t.after ∙ ap (λ l. v.mine ++ l) swap_made ∙ ap (λ l. l ++ (published u.seat.pass None u.seat.spare u.seat.marked words number s.start (length words) was).made) s.mine

    pub swap_first : was ≡ 0 → IsOfferAnswer key.shape number words First u w × HasKept u.seat w.seat
    swap_first won =
        let e = entry.List u.seat.pass number words in
        let made : (published u.seat.pass None u.seat.spare u.seat.marked words number s.start (length words) was).made ≡ e ∷ [] =
        ap (λ n. (published u.seat.pass None u.seat.spare u.seat.marked words number s.start (length words) n).made) won in
        let seat_is : w.seat ≡ seat u.seat.pass None u.seat.spare u.seat.marked Idle =
        swap_seat ∙ ap (λ n. (published u.seat.pass None u.seat.spare u.seat.marked words number s.start (length words) n).seat) won in
        let whole : IsFront u.front t.history = front_on u.front v.front t.history s.front t.front in (
          (
            record {
              between = whole.0;
              front = swap_front ∙ ap (λ l. t.history ++ l) made ∙ ap (λ l. l ++ e ∷ []) whole.1;
              mine = swap_mine ∙ ap (λ l. u.mine ++ l) made;
            },
            s.room,
            ap no_room seat_is,
          ),
          kept_seat u w None seat_is,
        )

    swap_lost : (n : ℕ) → n ≢ 0 → ((published u.seat.pass None u.seat.spare u.seat.marked words number s.start (length words) n).made ≡ entry.Lost u.seat.pass number (length words) ∷ [])
        × ((published u.seat.pass None u.seat.spare u.seat.marked words number s.start (length words) n).seat ≡ seat u.seat.pass None u.seat.spare u.seat.marked Idle)
    swap_lost zero some_word = absurd (some_word refl)
    swap_lost (suc n) some_word = (refl, refl)

    pub swap_already : was ≢ 0 → IsLegal key.shape w.front → IsOfferAnswer key.shape number words Already u w × HasKept u.seat w.seat
    swap_already some_word legal =
        let e = entry.Lost u.seat.pass number (length words) in
        let lost = swap_lost was some_word in
        let front : w.front ≡ t.history ++ e ∷ [] = swap_front ∙ ap (λ l. t.history ++ l) lost.0 in
        let seat_is : w.seat ≡ seat u.seat.pass None u.seat.spare u.seat.marked Idle = swap_seat ∙ lost.1 in
        let meets = last_meets key.shape [] t.history e (subst (IsLegal key.shape) front legal) in
        let same : listing_in w.front number ≡ listing_in t.history number = ap (λ (l : List Entry). listing_in l number) front ∙ listing_more t.history e number refl in (
          (
            subst (IsOfAnother u.seat.pass) (sym same) meets.1,
            inr (swap_mine ∙ ap (λ l. u.mine ++ l) lost.0),
            ap no_room seat_is ∙ sym s.room,
          ),
          kept_seat u w None seat_is,
        )
