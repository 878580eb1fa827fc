-- What the steps of calls on lists find and make.
use Rattle.std.proofs.Common.{◌≡◌, ℕ, zero, suc, ◌+◌, ◌*◌, ◌<◌, ◌≤◌, ◌==◌, nat_le, false, List, [], ◌∷◌, ◌++◌, length, refl, sym, ap, ◌∙◌, subst, arith, append-nil, slice_index}
use mathlib.Core.Option.{some}
use lib.ListN.{get_elem?}
use Rattle.std.proofs.lemmas.Bool.{leb-false, true≢false}
use Rattle.intern_core.specs.declared.shape.Shape.{Shape}
use Rattle.intern_core.specs.declared.history.Key.{Key}
use Rattle.intern_core.specs.declared.history.Entry.{Entry}
use Rattle.intern_core.specs.declared.history.Entry.TheVariants as entry
use Rattle.intern_core.specs.declared.history.EntryWords.{EntryWords}
use Rattle.intern_core.specs.declared.seat.Phase.{Phase}
use Rattle.intern_core.specs.declared.seat.Phase.TheVariants.{Idle, ReadingOne, ReadingTwo, ReadingThree, ClaimingBlock, SwappingList}
use Rattle.intern_core.specs.Layout.{entries_at, list_at, block_at}
use Rattle.intern_core.specs.History.{listing_in}
use Rattle.intern_core.specs.Turns.{seat, turn_of, turn_in, published, next_place_in}
use Rattle.intern_core.specs.Blocks.{taken_by, IsEntryOf}
use Rattle.intern_core.specs.Machine.{with_offer}
use Rattle.intern_core.proofs.Histories.{taken-append}
use Rattle.intern_core.proofs.Fetching.{entry_word}
use Rattle.intern_core.proofs.Rooms.{claim_low}
use Rattle.chain_rule.specs.declared.begins.Begins.{Begins}
use Rattle.chain_rule.specs.declared.begins.Begins.TheVariants.{FetchLen, FetchEntry, Offer}
use Rattle.chain_rule.specs.declared.meaning.Setting.{Setting}
use Rattle.chain_rule.specs.declared.view.View.{View}
use Rattle.chain_rule.specs.Told.{MayTell, TookTurn, TookClaim, IsLoad, Finds, phase_begun, offer_begun, view_begun}
use Rattle.chain_rule.specs.Stepping.{list_phase, IsReading, IsClaimingBlock, IsSwappingList, IsListedWord, LacksRoom}

-- a call on a list begins with a load, of the number's list word
pub list_loads : (number : ℕ) (begins : Begins) (phase : Phase) → phase ≡ Idle → IsLoad (phase_begun (list_phase number begins) [] phase)
list_loads number begins phase idle = subst (λ ph. IsLoad (phase_begun (list_phase number begins) [] ph)) (sym idle) (by begins) where
  by : (b : Begins) → IsLoad (list_phase number b)
  by FetchLen = tt
  by (FetchEntry at) = tt
  by Offer = tt

pub list_place : (shape : Shape) (spare number : ℕ) (begins : Begins) (phase : Phase) → phase ≡ Idle → next_place_in shape spare (phase_begun (list_phase number begins) [] phase) ≡ list_at number
list_place shape spare number begins phase idle = ap (λ ph. next_place_in shape spare (phase_begun (list_phase number begins) [] ph)) idle ∙ by begins where
  by : (b : Begins) → next_place_in shape spare (list_phase number b) ≡ list_at number
  by FetchLen = refl
  by (FetchEntry at) = refl
  by Offer = refl

pub reading_finds : (number at : ℕ) (phase : Phase) → IsReading number at phase → Finds (phase_begun Idle [] phase)
reading_finds number at (ReadingOne n place index) is = tt
reading_finds number at (ReadingTwo n place index one) is = tt
reading_finds number at (ReadingThree n place index one two) is = tt
reading_finds number at other is = absurd is

pub swapping_finds : (number : ℕ) (phase : Phase) → IsSwappingList number phase → Finds (phase_begun Idle [] phase)
swapping_finds number (SwappingList n start len) is = tt
swapping_finds number other is = absurd is

pub claiming_is : (number : ℕ) (phase : Phase) → IsClaimingBlock number phase → (len : ℕ) × (phase ≡ ClaimingBlock number len)
claiming_is number (ClaimingBlock n len) is = (len, ap (λ m. ClaimingBlock m len) is)
claiming_is number other is = absurd is

module _ {M : Type 0} (lawful : M → List Entry → Key → Type 0) (allowed : M → Key → Type 0) (stands : M → List Entry → ℕ → List EntryWords → Type 0) (key : Setting M) where
  -- words that stand for the number may be told
  pub claiming_tells : (front : List Entry) (words : List EntryWords) (number : ℕ) (phase : Phase) → IsClaimingBlock number phase → length words ≤ 4096 → stands key.meaning front number words
      → MayTell lawful allowed stands key front words phase
  claiming_tells front words number (ClaimingBlock n len) is short good = (short, subst (λ m. stands key.meaning front m words) (sym is) good)
  claiming_tells front words number other is short good = absurd is

  -- a block that isn't claimed has no room
  pub claim_lacks : (words : List EntryWords) (v w : View M) (found number : ℕ) → TookClaim lawful allowed stands key words v found w → IsClaimingBlock number v.seat.phase
      → nat_le (found + length words) key.shape.entries ≡ false → LacksRoom key.shape words w.front
  claim_lacks words v w found number t is over =
      let c = claiming_is number v.seat.phase is in
      let there = subst (λ ph. get_elem? t.seats t.index ≡ some (with_offer (seat v.seat.pass v.seat.refused v.seat.spare v.seat.marked (phase_begun Idle words ph)) (offer_begun words ph v.offer))) c.1 t.here in
      let low = claim_low key.shape t.words t.seats t.history t.lists t.kept t.index v.seat.pass v.seat.refused v.seat.spare v.seat.marked words number (length words) there in
      let read : slice_index t.words entries_at ≡ found = ap (λ ph. slice_index t.words (next_place_in key.shape v.seat.spare (phase_begun Idle words ph))) (sym c.1) ∙ t.read in
      let goes = turn_of key.shape (offer_begun words v.seat.phase v.offer) (view_begun Idle words v).seat found in
      let front : w.front ≡ t.history ++ goes.made = ap (λ (x : View M). x.front) t.after in
      let taken = ap taken_by front in
      let claimed = low.0 in
      let high = leb-false (found + length words) key.shape.entries over in
      let passes = t.kept.ranges.some_passes in
      omega (arith, taken-append t.history goes.made)

  -- a word that is read is that of the list
  pub read_word : (v w : View M) (found number at : ℕ) → TookTurn lawful allowed stands key Idle v found w → IsReading number at v.seat.phase → IsListedWord w.front number at found
  read_word v w found number at t is = by v.seat.phase refl is where
    finish : (n place index j : ℕ) → IsEntryOf key.shape t.words t.history n place index → j < 3 → slice_index t.words (block_at key.shape index + j) ≡ found
        → (turn_of key.shape (offer_begun [] v.seat.phase v.offer) (view_begun Idle [] v).seat found).made ≡ [] → n ≡ number → at ≡ 3 * place + j → IsListedWord w.front number at found
    finish n place index j h small read none same is_at =
        let e = entry_word key.shape t.words t.history t.kept.ranges.entries_fit t.kept.image.lists n place index j h small in
        let front : w.front ≡ t.history = ap (λ (x : View M). x.front) t.after ∙ ap (λ l. t.history ++ l) none ∙ append-nil t.history in
        let low = e.2 in (
          e.0,
          ap (λ (l : List Entry). listing_in l number) front ∙ ap (listing_in t.history) (sym same) ∙ e.1,
          omega arith,
          ap (slice_index _) is_at ∙ sym e.3 ∙ read,
        )

    by : (phase : Phase) → v.seat.phase ≡ phase → IsReading number at phase → IsListedWord w.front number at found
    by (ReadingOne n place index) e is' =
        let here = subst (λ ph. get_elem? t.seats t.index ≡ some (with_offer (seat v.seat.pass v.seat.refused v.seat.spare v.seat.marked (phase_begun Idle [] ph)) (offer_begun [] ph v.offer))) e t.here in
        let listed = (t.lists.each t.index (with_offer (seat v.seat.pass v.seat.refused v.seat.spare v.seat.marked (ReadingOne n place index)) v.offer) here).listed in
        let read : slice_index t.words (block_at key.shape index) ≡ found = ap (λ ph. slice_index t.words (next_place_in key.shape v.seat.spare (phase_begun Idle [] ph))) (sym e) ∙ t.read in
        let zero_is : block_at key.shape index + 0 ≡ block_at key.shape index = omega arith in
        finish n place index 0 listed (omega arith) (ap (slice_index t.words) zero_is ∙ read)
        (ap (λ ph. (turn_in key.shape (offer_begun [] ph v.offer) v.seat.pass v.seat.refused v.seat.spare v.seat.marked (phase_begun Idle [] ph) found).made) e) is'.0 (let i = is'.1 in omega arith)
    by (ReadingTwo n place index one) e is' =
        let here = subst (λ ph. get_elem? t.seats t.index ≡ some (with_offer (seat v.seat.pass v.seat.refused v.seat.spare v.seat.marked (phase_begun Idle [] ph)) (offer_begun [] ph v.offer))) e t.here in
        let listed = (t.lists.each t.index (with_offer (seat v.seat.pass v.seat.refused v.seat.spare v.seat.marked (ReadingTwo n place index one)) v.offer) here).listed in
        let read : slice_index t.words (block_at key.shape index + 1) ≡ found = ap (λ ph. slice_index t.words (next_place_in key.shape v.seat.spare (phase_begun Idle [] ph))) (sym e) ∙ t.read in
        finish n place index 1 listed.0 (omega arith) read
        (ap (λ ph. (turn_in key.shape (offer_begun [] ph v.offer) v.seat.pass v.seat.refused v.seat.spare v.seat.marked (phase_begun Idle [] ph) found).made) e) is'.0 is'.1
    by (ReadingThree n place index one two) e is' =
        let here = subst (λ ph. get_elem? t.seats t.index ≡ some (with_offer (seat v.seat.pass v.seat.refused v.seat.spare v.seat.marked (phase_begun Idle [] ph)) (offer_begun [] ph v.offer))) e t.here in
        let listed = (t.lists.each t.index (with_offer (seat v.seat.pass v.seat.refused v.seat.spare v.seat.marked (ReadingThree n place index one two)) v.offer) here).listed in
        let read : slice_index t.words (block_at key.shape index + 2) ≡ found = ap (λ ph. slice_index t.words (next_place_in key.shape v.seat.spare (phase_begun Idle [] ph))) (sym e) ∙ t.read in
        finish n place index 2 listed.0 (omega arith) read
        (ap (λ ph. (turn_in key.shape (offer_begun [] ph v.offer) v.seat.pass v.seat.refused v.seat.spare v.seat.marked (phase_begun Idle [] ph) found).made) e) is'.0 is'.1
    by other e is' = absurd is'

  -- an exchange that found a list makes its entry
  pub swap_loses : (v w : View M) (found number : ℕ) → TookTurn lawful allowed stands key Idle v found w → IsSwappingList number v.seat.phase → (found == 0) ≡ false
      → w.mine ≡ v.mine ++ entry.Lost v.seat.pass number (length v.offer) ∷ []
  swap_loses v w found number t is lost = by v.seat.phase refl is where
    loses : (n start len m : ℕ) → (m == 0) ≡ false → (published v.seat.pass v.seat.refused v.seat.spare v.seat.marked v.offer n start len m).made ≡ entry.Lost v.seat.pass n len ∷ []
    loses n start len zero e = absurd (true≢false e)
    loses n start len (suc m) e = refl

    by : (phase : Phase) → v.seat.phase ≡ phase → IsSwappingList number phase → w.mine ≡ v.mine ++ entry.Lost v.seat.pass number (length v.offer) ∷ []
    by (SwappingList n start len) e is' =
        let here = subst (λ ph. get_elem? t.seats t.index ≡ some (with_offer (seat v.seat.pass v.seat.refused v.seat.spare v.seat.marked (phase_begun Idle [] ph)) (offer_begun [] ph v.offer))) e t.here in
        let listed = (t.lists.each t.index (with_offer (seat v.seat.pass v.seat.refused v.seat.spare v.seat.marked (SwappingList n start len)) v.offer) here).listed in
        let size : length v.offer ≡ len = listed.0.0.0 in
        ap (λ (x : View M). x.mine) t.after
        ∙ ap (λ ph. v.mine ++ (turn_in key.shape (offer_begun [] ph v.offer) v.seat.pass v.seat.refused v.seat.spare v.seat.marked (phase_begun Idle [] ph) found).made) e
        ∙ ap (λ l. v.mine ++ l) (loses n start len found lost ∙ ap (λ m. entry.Lost v.seat.pass m len ∷ []) is' ∙ ap (λ m. entry.Lost v.seat.pass number m ∷ []) (sym size))
    by other e is' = absurd is'
