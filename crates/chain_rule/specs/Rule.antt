-- What holds between any two steps of the words and of all views: there is one history.
use Rattle.std.specs.Prelude.{◌≡◌, ℕ, ◌+◌, ◌*◌, ◌<◌, ◌≤◌, ◌==◌, Bool, true, false, List, [], ◌∷◌, ◌++◌, length, if◌then◌else◌, Option, Some, None, IfSome, is_some}
use mathlib.Core.Option.{some}
use lib.ListN.{get_elem?}
use Rattle.atomic_table.specs.Table.{State}
use Rattle.intern_core.specs.declared.history.Key.{Key}
use Rattle.intern_core.specs.declared.history.EntryWords.{EntryWords}
use Rattle.intern_core.specs.declared.history.Reply.TheVariants.{Num}
use Rattle.intern_core.specs.declared.history.Entry.{Entry}
use Rattle.intern_core.specs.declared.history.Entry.TheVariants.{Call, Lost}
use Rattle.intern_core.specs.declared.history.Entry.TheVariants as entry
use Rattle.intern_core.specs.declared.shape.Shape.{Shape}
use Rattle.intern_core.specs.declared.seat.Seat.{Seat}
use Rattle.intern_core.specs.declared.seat.SeatWithOffer.{SeatWithOffer}
use Rattle.intern_core.specs.declared.seat.Phase.{Phase}
use Rattle.intern_core.specs.declared.seat.Phase.TheVariants.{Idle, StoringWord, SwappingList}
use Rattle.intern_core.specs.History.{known, number_in}
use Rattle.intern_core.specs.Turns.{seat}
use Rattle.intern_core.specs.Kept.{Kept}
use Rattle.intern_core.specs.Blocks.{taken_by, KeptLists}
use Rattle.intern_core.specs.Machine.{with_offer, seats_of}
use Rattle.intern_core.specs.Pace.{key_in}
use Rattle.chain_rule.specs.declared.meaning.Setting.{Setting}
use Rattle.chain_rule.specs.declared.view.View.{View}

-- the second list begins with the first
abbrev pub IsFront : List Entry → List Entry → Type 0
IsFront front whole = (rest : List Entry) × (whole ≡ front ++ rest)

-- the pass that made an entry
abbrev pub pass_of : Entry → ℕ
pass_of (Call pass key answer) = pass
pass_of (entry.List pass number words) = pass
pass_of (Lost pass number len) = pass

-- the entries of one pass, in order
abbrev pub own : ℕ → List Entry → List Entry
own p [] = []
own p (e ∷ es) = if pass_of e == p then e ∷ own p es else own p es

-- the number for which a call in flight has claimed a block
abbrev pub block_in : Phase → Option ℕ
block_in (StoringWord number start len stored) = Some number
block_in (SwappingList number start len) = Some number
block_in other = None

-- a seat was answered that there is no room
abbrev pub no_room : Seat → Bool
no_room s = is_some s.refused

-- A front is crowded where the lengths of its lists, published and lost, and 4,096 for each pass are together above the entries. So
-- without the lists of other passes that it hasn't seen, a list of 4,096 entries may find no room.
abbrev pub IsCrowded : Shape → List Entry → Type 0
IsCrowded shape front = shape.entries < taken_by front + shape.passes * 4096

module _ {M : Type 0} where
  -- the seats of the passes, with what they offer; the views of notes are left out
  abbrev pub offering_seats : List (View M) → List SeatWithOffer
  offering_seats [] = []
  offering_seats (v ∷ vs) = if v.walks then with_offer v.seat v.offer ∷ offering_seats vs else offering_seats vs

  -- the view of a pass that has seen nothing; `made` counts the passes that it has made, itself among them
  abbrev pub fresh_view : Setting M → ℕ → ℕ → View M
  fresh_view key number made = record {
    walks = true;
    setting = Some key;
    front = [];
    met = [];
    mine = [];
    seat = seat number None 0 false Idle;
    offer = [];
    made = made;
  }

  -- the view of pass 0 of a new table
  abbrev pub first_view : Setting M → View M
  first_view key = fresh_view key 0 1

  module _ (lawful : M → List Entry → Key → Type 0) (allowed : M → Key → Type 0) (stands : M → List Entry → ℕ → List EntryWords → Type 0) where
    -- what an entry means after those before it: a key that it makes known is lawful there, and allowed, and the words of a list
    -- stand for its number there
    abbrev pub Means : M → List Entry → Entry → Type 0
    Means m before (Call pass key (Num n)) = number_in (known before) key ≡ None → lawful m before key × allowed m key
    Means m before (entry.List pass number words) = stands m before number words
    Means m before other = Unit {0}

    -- each entry means what it should after those before it
    abbrev pub MeansAfter : M → List Entry → List Entry → Type 0
    MeansAfter m before [] = Unit {0}
    MeansAfter m before (e ∷ es) = Means m before e × MeansAfter m (before ++ e ∷ []) es

    -- what a pass knows of the one history: the shape and the meaning, its own entries, which are all in its front, and that the key
    -- of its call is lawful there and allowed; the words for which it has claimed a block stand for their number; and its front is crowded
    -- once it was answered that there is no room
    pub record Walks (key : Setting M) (history : List Entry) (v : View M) : Type 0 where
      pub setting : v.setting ≡ Some key
      pub mine : own v.seat.pass history ≡ v.mine
      pub seen : own v.seat.pass v.front ≡ v.mine
      pub call : IfSome (key_in v.seat.phase) (λ k. lawful key.meaning v.front k × allowed key.meaning k)
      pub block : IfSome (block_in v.seat.phase) (λ n. stands key.meaning v.front n v.offer)
      pub crowded : no_room v.seat ≡ true → IsCrowded key.shape v.front

    -- the history begins with what a view has seen, and with what a note that was taken in had seen
    pub record Knows (key : Setting M) (history : List Entry) (v : View M) : Type 0 where
      pub front : IsFront v.front history
      pub met : IsFront v.met history
      pub walker : v.walks ≡ true → Walks key history v

    -- what pass 0 knows of the passes made so far: their numbers are those below their count, and no other has made an entry
    pub record Counts (history : List Entry) (views : List (View M)) (v : View M) : Type 0 where
      pub many : length (offering_seats views) ≡ v.made
      pub below : (j : ℕ) (w : View M) → get_elem? views j ≡ some w → w.walks ≡ true → w.seat.pass < v.made
      pub silent : (p : ℕ) → v.made ≤ p → own p history ≡ []

    -- There is one history, which is legal and means what it should; the words, the blocks and the seats are as it has left them; and
    -- every front is a prefix of it.
    pub record Ruled {S : Type 0} (key : Setting M) (s : State S (View M)) : Type 0 where
      pub history : List Entry
      pub kept : Kept key.shape s.words (seats_of (offering_seats s.views)) history
      pub lists : KeptLists key.shape s.words (offering_seats s.views) history
      pub means : MeansAfter key.meaning [] history
      pub views : (i : ℕ) (v : View M) → get_elem? s.views i ≡ some v → Knows key history v
      pub apart : (i j : ℕ) (v w : View M) → get_elem? s.views i ≡ some v → get_elem? s.views j ≡ some w → v.walks ≡ true → w.walks ≡ true → v.seat.pass ≡ w.seat.pass → i ≡ j
      pub counts : (i : ℕ) (v : View M) → get_elem? s.views i ≡ some v → v.walks ≡ true → v.seat.pass ≡ 0 → Counts history s.views v
