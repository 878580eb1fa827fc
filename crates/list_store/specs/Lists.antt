-- What a call on lists does to its pass, and what it tells.
use Rattle.std.specs.Prelude.{◌≡◌, ℕ, ◌⊎◌, true, false, List, [], ◌∷◌, ◌++◌, length, Option, None, option_map}
use Rattle.intern_core.specs.declared.history.EntryWords.{EntryWords}
use Rattle.intern_core.specs.declared.history.Entry.{Entry}
use Rattle.intern_core.specs.declared.history.Entry.TheVariants as entry
use Rattle.intern_core.specs.declared.outcome.Published.{Published}
use Rattle.intern_core.specs.declared.outcome.Published.TheVariants.{First, Already, NoRoom}
use Rattle.intern_core.specs.declared.seat.Seat.{Seat}
use Rattle.intern_core.specs.declared.seat.Phase.TheVariants.{Idle}
use Rattle.intern_core.specs.declared.shape.Shape.{Shape}
use Rattle.intern_core.specs.History.{Listing, listing_in, IsOfAnother}
use Rattle.intern_core.specs.Turns.{seat, storing}
use Rattle.chain_rule.specs.declared.view.View.{View}
use Rattle.chain_rule.specs.Rule.{IsFront, no_room}
use Rattle.chain_rule.specs.Stepping.{LacksRoom}

-- the length of the list that a front has for a number, if it has one
abbrev pub length_of_list : List Entry → ℕ → Option ℕ
length_of_list front number = option_map (λ (l : Listing). length l.words) (listing_in front number)

-- the front went on and ends with this entry, which is one more of the pass
pub record EndsWith {M : Type 0} (e : Entry) (v w : View M) : Type 0 where
  pub between : List Entry
  pub front : w.front ≡ (v.front ++ between) ++ e ∷ []
  pub mine : w.mine ≡ v.mine ++ e ∷ []

-- a pass has no call in flight, and has kept its number, its spare and its mark
pub record HasKept (before after : Seat) : Type 0 where
  pub pass : after.pass ≡ before.pass
  pub spare : after.spare ≡ before.spare
  pub marked : after.marked ≡ before.marked
  pub idle : after.phase ≡ Idle

-- What became of an offer of these words for a number. `First`: they are the number's list, and the pass was never answered that there
-- is no room. `Already`: another pass has published one, and at most this offer is one more of the pass's entries, as a lost one.
-- `NoRoom`: there may be no room for them, or the pass was answered so before; it is from then on. No other answer changes that.
abbrev pub IsOfferAnswer : {M : Type 0} → Shape → ℕ → List EntryWords → Published → View M → View M → Type 0
IsOfferAnswer shape number words First v w = EndsWith (entry.List v.seat.pass number words) v w × (no_room v.seat ≡ false) × (no_room w.seat ≡ false)
IsOfferAnswer shape number words Already v w = IsOfAnother v.seat.pass (listing_in w.front number)
    × ((w.mine ≡ v.mine) ⊎ (w.mine ≡ v.mine ++ entry.Lost v.seat.pass number (length words) ∷ []))
    × (no_room w.seat ≡ no_room v.seat)
IsOfferAnswer shape number words NoRoom v w = (LacksRoom shape words w.front ⊎ (no_room v.seat ≡ true)) × (w.mine ≡ v.mine) × (no_room w.seat ≡ true)

-- so many words of an offer are stored in its block; the offer began where the pass was as it is here
pub record IsStoring {M : Type 0} (number : ℕ) (words : List EntryWords) (stored : ℕ) (v w : View M) : Type 0 where
  pub start : ℕ
  pub here : w.seat ≡ seat v.seat.pass None v.seat.spare v.seat.marked (storing number start (length words) stored)
  pub offer : w.offer ≡ words
  pub front : IsFront v.front w.front
  pub mine : w.mine ≡ v.mine
  pub room : no_room v.seat ≡ false
