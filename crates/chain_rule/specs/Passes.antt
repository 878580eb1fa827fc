-- What a pass is: a view of one table, with its plain fields.
use Rattle.std.specs.Prelude.{◌≡◌, ℕ, ◌+◌, ◌<◌, ◌≤◌, true, false, List, [], ◌∷◌, slice_get, Some, None}
use Rattle.atomic_table.specs.Table.{Me}
use Rattle.atomic_table.specs.Seated.{TableId}
use Rattle.intern_core.specs.declared.history.Key.{Key}
use Rattle.intern_core.specs.declared.history.EntryWords.{EntryWords}
use Rattle.intern_core.specs.declared.history.Entry.{Entry}
use Rattle.intern_core.specs.declared.seat.Seat.{Seat}
use Rattle.intern_core.specs.declared.seat.Phase.TheVariants.{Idle}
use Rattle.intern_core.specs.Layout.{word_count}
use Rattle.intern_core.specs.History.{known, uses, IsLegal}
use Rattle.intern_core.specs.Turns.{seat, next_place}
use Rattle.intern_core.specs.Kept.{IsShape}
use Rattle.chain_rule.specs.Pacing.{IsPaced}
use Rattle.chain_rule.specs.declared.meaning.Setting.{Setting}
use Rattle.chain_rule.specs.declared.view.View.{View}
use Rattle.chain_rule.specs.Rule.{own, MeansAfter, no_room, IsCrowded}

module _ {M : Type 0} (lawful : M → List Entry → Key → Type 0) (allowed : M → Key → Type 0) (stands : M → List Entry → ℕ → List EntryWords → Type 0) where
  -- what a pass keeps between its steps, so that its next step finds a word of the table
  pub record IsPass {S : Type 0} (key : Setting M) (me : Me S (View M)) (s : Seat) : Type 0 where
    pub empty : me.1 ≡ []
    pub walks : me.0.walks ≡ true
    pub seen : own me.0.seat.pass me.0.front ≡ me.0.mine
    pub seat_is : me.0.seat ≡ s
    pub ranges : IsShape key.shape
    pub legal : IsLegal key.shape me.0.front
    pub means : MeansAfter lawful allowed stands key.meaning [] me.0.front
    pub numbers : (n : ℕ) → 0 < uses n (known me.0.front) → n ≤ key.shape.nodes
    pub spare : s.spare ≤ key.shape.nodes
    pub mark : s.marked ≡ true → s.spare ≡ 0
    pub crowded : no_room s ≡ true → IsCrowded key.shape me.0.front
    pub paced : IsPaced key.shape.nodes s
    pub within : next_place key.shape s < word_count key.shape

  -- What every pass has seen: its front is legal, also for the meaning, and the entries of its number there are its own; the front is
  -- crowded once the pass was answered that there is no room. Once the pass is marked full it has no spare.
  pub record Stays (key : Setting M) (v : View M) : Type 0 where
    pub legal : IsLegal key.shape v.front
    pub means : MeansAfter lawful allowed stands key.meaning [] v.front
    pub seen : own v.seat.pass v.front ≡ v.mine
    pub crowded : no_room v.seat ≡ true → IsCrowded key.shape v.front
    pub mark : v.seat.marked ≡ true → v.seat.spare ≡ 0

-- a table as contracts see it
pub record Board (M : Type 0) : Type 0 where
  pub table_id : TableId
  pub setting : Setting M

-- a pass as contracts see it
pub record Walker (M : Type 0) : Type 0 where
  pub table_id : TableId
  pub view : View M

-- the table that a pass belongs to
abbrev pub Belongs : {M : Type 0} → Walker M → TableId → Setting M → Type 0
Belongs w id key = (w.table_id ≡ id) × (w.view.setting ≡ Some key)

-- a note as contracts see it
pub record Noted : Type 0 where
  pub table_id : TableId
  pub front : List Entry

-- a pass in some setting
abbrev pub IsPassOf : {M : Type 0} (lawful : M → List Entry → Key → Type 0) (allowed : M → Key → Type 0) (stands : M → List Entry → ℕ → List EntryWords → Type 0) {S : Type 0} → Me S (View M) → Seat → Type 0
IsPassOf {M = M} lawful allowed stands me s = (key : Setting M) × (me.0.setting ≡ Some key) × IsPass lawful allowed stands key me s

-- a new pass of a table, with this number
pub record IsNew {M : Type 0} (id : TableId) (key : Setting M) (number : ℕ) (w : Walker M) : Type 0 where
  pub own : Belongs w id key
  pub front : w.view.front ≡ []
  pub mine : w.view.mine ≡ []
  pub seat_is : w.view.seat ≡ seat number None 0 false Idle

-- these are a table's new passes, each at its number
abbrev pub AreNew : {M : Type 0} → TableId → Setting M → List (Walker M) → Type 0
AreNew {M = M} id key ws = (i : ℕ) (w : Walker M) → slice_get ws i ≡ Some w → IsNew id key i w

-- the same as a recursion, with numbers from this on
abbrev pub NewFrom : {M : Type 0} → TableId → Setting M → ℕ → List (Walker M) → Type 0
NewFrom id key from [] = Unit {0}
NewFrom id key from (w ∷ ws) = IsNew id key from w × NewFrom id key (from + 1) ws
