-- The word that a step answers is one that the new front allows.
use Rattle.std.proofs.Common.{◌≡◌, ℕ, zero, suc, ◌<◌, Bool, List, [], ◌∷◌, ◌++◌, Option, set, refl, sym, ap, ◌∙◌, subst, subst₂, arith}
use Rattle.std.proofs.lemmas.List.{set-get_or}
use Rattle.intern_core.specs.declared.shape.Shape.{Shape}
use Rattle.intern_core.specs.declared.history.Key.{Key}
use Rattle.intern_core.specs.declared.history.Reply.TheVariants.{Num}
use Rattle.intern_core.specs.declared.history.Entry.{Entry}
use Rattle.intern_core.specs.declared.history.Entry.TheVariants.{Call}
use Rattle.intern_core.specs.declared.history.EntryWords.{EntryWords}
use Rattle.intern_core.specs.declared.seat.Phase.{Phase}
use Rattle.intern_core.specs.declared.seat.Phase.TheVariants.{Idle, Claiming, StoringOne, StoringTwo, Linking, Swapping, AtOne, AtTwo, LookingOne, LookingTwo, MeasuringList, FindingEntry, ReadingOne, ReadingTwo, ReadingThree, Offering, ClaimingBlock, StoringWord, SwappingList}
use Rattle.intern_core.specs.Layout.{two_at}
use Rattle.intern_core.specs.Image.{IsImage}
use Rattle.intern_core.specs.Turns.{turn_of, turn_in, next_place, next_place_in}
use Rattle.intern_core.specs.Kept.{Kept}
use Rattle.intern_core.specs.Machine.{with_offer, seats_of}
use Rattle.intern_core.proofs.BothTurns.{both_turn}
use Rattle.chain_rule.specs.declared.meaning.Setting.{Setting}
use Rattle.chain_rule.specs.declared.view.View.{View}
use Rattle.chain_rule.specs.Told.{MayTell, IsOfferedWord, Turned, TookTurn, IsLoad, Finds, phase_begun, seat_begun, offer_begun, view_begun}
use Rattle.chain_rule.specs.Stepping.{IsLinking, IsSwapping, IsAtOne, IsAtTwo, IsReading, IsSwappingList, MayFind}
use Rattle.chain_rule.proofs.Operations.{load_word}

-- a phase in which no words are told, and none of an offer is stored
abbrev pub IsUntold : Phase → Type 0
IsUntold (ClaimingBlock number len) = ⊥
IsUntold (StoringWord number start len stored) = ⊥
IsUntold other = Unit {0}

begun_untold : (begins phase : Phase) → IsUntold (phase_begun begins [] phase) → IsUntold phase
begun_untold begins (ClaimingBlock number len) is = is
begun_untold begins (StoringWord number start len stored) is = is
begun_untold begins other is = tt

pub untold_word : (offer : List EntryWords) (phase : Phase) (word : ℕ) → IsUntold phase → IsOfferedWord offer phase word
untold_word offer (StoringWord number start len stored) word is = absurd is
untold_word offer other word is = tt

pub claiming_untold : (k : Key) (begins phase : Phase) → phase_begun begins [] phase ≡ Claiming k → IsUntold phase
claiming_untold k begins phase is = begun_untold begins phase (subst IsUntold (sym is) tt)

pub storing_one_untold : (k : Key) (begins phase : Phase) → phase_begun begins [] phase ≡ StoringOne k → IsUntold phase
storing_one_untold k begins phase is = begun_untold begins phase (subst IsUntold (sym is) tt)

pub storing_two_untold : (k : Key) (phase : Phase) → phase ≡ StoringTwo k → IsUntold phase
storing_two_untold k phase is = subst IsUntold (sym is) tt

pub idle_untold : (phase : Phase) → phase ≡ Idle → IsUntold phase
idle_untold phase is = subst IsUntold (sym is) tt

pub linking_untold : (k : Key) (begins phase : Phase) → IsLinking k (phase_begun begins [] phase) → IsUntold phase
linking_untold k begins phase is = begun_untold begins phase (by (phase_begun begins [] phase) is) where
  by : (ph : Phase) → IsLinking k ph → IsUntold ph
  by (Linking x from passed) h = tt
  by other h = absurd h

pub one_untold : (n : ℕ) (begins phase : Phase) → IsAtOne n (phase_begun begins [] phase) → IsUntold phase
one_untold n begins phase is = begun_untold begins phase (by (phase_begun begins [] phase) is) where
  by : (ph : Phase) → IsAtOne n ph → IsUntold ph
  by (AtOne k node passed) h = tt
  by (LookingOne node) h = tt
  by other h = absurd h

pub two_untold : (n : ℕ) (phase : Phase) → IsAtTwo n phase → IsUntold phase
two_untold n (AtTwo k node passed) h = tt
two_untold n (LookingTwo node one) h = tt
two_untold n other h = absurd h

pub swapping_untold : (k : Key) (phase : Phase) → IsSwapping k phase → IsUntold phase
swapping_untold k (Swapping x from passed) h = tt
swapping_untold k other h = absurd h

pub reading_untold : (number at : ℕ) (phase : Phase) → IsReading number at phase → IsUntold phase
reading_untold number at (ReadingOne n e index) h = tt
reading_untold number at (ReadingTwo n e index one) h = tt
reading_untold number at (ReadingThree n e index one two) h = tt
reading_untold number at other h = absurd h

pub swapping_list_untold : (number : ℕ) (phase : Phase) → IsSwappingList number phase → IsUntold phase
swapping_list_untold number (SwappingList n start len) h = tt
swapping_list_untold number other h = absurd h

pub linking_loads : (key : Key) (phase : Phase) → IsLinking key phase → IsLoad phase
linking_loads key (Linking k from passed) is = tt
linking_loads key other is = absurd is

pub one_loads : (n : ℕ) (phase : Phase) → IsAtOne n phase → IsLoad phase
one_loads n (AtOne k from passed) is = tt
one_loads n (LookingOne node) is = tt
one_loads n other is = absurd is

-- a load finds a word
loads_find : (phase : Phase) → IsLoad phase → Finds phase
loads_find Idle is = tt
loads_find (Linking k from passed) is = tt
loads_find (AtOne k from passed) is = tt
loads_find (AtTwo k from passed) is = tt
loads_find (LookingOne n) is = tt
loads_find (LookingTwo n one) is = tt
loads_find (MeasuringList number) is = tt
loads_find (FindingEntry number at) is = tt
loads_find (ReadingOne number at index) is = tt
loads_find (ReadingTwo number at index one) is = tt
loads_find (ReadingThree number at index one two) is = tt
loads_find (Offering number len) is = tt
loads_find other is = absurd is

-- the place of a second key word
pub two_place : (shape : Shape) (n spare : ℕ) (phase : Phase) → IsAtTwo n phase → next_place_in shape spare (phase_begun Idle [] phase) ≡ two_at n
two_place shape n spare (AtTwo k node passed) is = ap two_at is
two_place shape n spare (LookingTwo node one) is = ap two_at is
two_place shape n spare other is = absurd is

pub two_loads_begun : (n : ℕ) (phase : Phase) → IsAtTwo n phase → IsLoad (phase_begun Idle [] phase)
two_loads_begun n (AtTwo k from passed) is = tt
two_loads_begun n (LookingTwo node one) is = tt
two_loads_begun n other is = absurd is

-- no call begins at a seat that is not idle
pub swapping_busy : (key : Key) (phase : Phase) → IsSwapping key phase → phase_begun Idle [] phase ≡ phase
swapping_busy key (Swapping k from passed) is = refl
swapping_busy key other is = absurd is

pub swapping_same : {M : Type 0} (key : Key) (v : View M) → IsSwapping key v.seat.phase → view_begun Idle [] v ≡ v
swapping_same key v is = by v.seat.phase refl is where
  by : (phase : Phase) → v.seat.phase ≡ phase → IsSwapping key phase → view_begun Idle [] v ≡ v
  by (Swapping k from passed) e is' = ap (λ (ph : Phase). record v { seat = record v.seat { phase = phase_begun Idle [] ph }; offer = offer_begun [] ph v.offer }) e
      ∙ ap (λ (ph : Phase). record v { seat = record v.seat { phase = ph } }) (sym e)
  by other e is' = absurd is'

-- an exchange that found a node leaves it
swap_left : (shape : Shape) (offer : List EntryWords) (p : ℕ) (r : Option ℕ) (spare : ℕ) (marked : Bool) (key : Key) (phase : Phase) (v : ℕ) → IsSwapping key phase → 0 < v → (turn_in shape offer p r spare marked phase v).word ≡ v
swap_left shape offer p r spare marked key (Swapping k from passed) zero is pos = absurd (omega arith)
swap_left shape offer p r spare marked key (Swapping k from passed) (suc n) is pos = refl
swap_left shape offer p r spare marked key other v is pos = absurd is

-- an exchange that found 0 makes the call's entry
swap_made : (shape : Shape) (offer : List EntryWords) (p : ℕ) (r : Option ℕ) (spare : ℕ) (marked : Bool) (key : Key) (phase : Phase) → IsSwapping key phase → (turn_in shape offer p r spare marked phase 0).made ≡ Call p key (Num spare) ∷ []
swap_made shape offer p r spare marked key (Swapping k from passed) is = ap (λ (x : Key). Call p x (Num spare) ∷ []) is
swap_made shape offer p r spare marked key other is = absurd is

module _ {M : Type 0} (lawful : M → List Entry → Key → Type 0) (allowed : M → Key → Type 0) (stands : M → List Entry → ℕ → List EntryWords → Type 0) where
  pub untold_tells : (key : Setting M) (front : List Entry) (phase : Phase) → IsUntold phase → MayTell lawful allowed stands key front [] phase
  untold_tells key front (ClaimingBlock number len) is = absurd is
  untold_tells key front other is = tt

module _ {M : Type 0} (lawful : M → List Entry → Key → Type 0) (allowed : M → Key → Type 0) (stands : M → List Entry → ℕ → List EntryWords → Type 0) where
  told_word : (key : Setting M) (v : View M) (found : ℕ) (w : View M) → Turned lawful allowed stands key v (next_place key.shape v.seat) found w → (turn_of key.shape v.offer v.seat found).word ≡ found
      → MayFind key.shape w.front (next_place key.shape v.seat) found
  told_word key v found w t is =
      let place = next_place key.shape v.seat in
      let both = both_turn key.shape t.words t.seats t.history t.kept t.lists t.index v.seat.pass v.seat.refused v.seat.spare v.seat.marked v.offer v.seat.phase t.here in
      let k = subst (λ (n : ℕ). Kept key.shape (set t.words place (turn_of key.shape v.offer v.seat n).word) (seats_of (set t.seats t.index (with_offer (turn_of key.shape v.offer v.seat n).seat v.offer))) (t.history ++ (turn_of key.shape v.offer v.seat n).made))
      t.read both.0 in
      let same : set t.words place (turn_of key.shape v.offer v.seat found).word ≡ t.words = ap (set t.words place) (is ∙ sym t.read) ∙ set-get_or t.words place 0 in
      let front : w.front ≡ t.history ++ (turn_of key.shape v.offer v.seat found).made = ap (λ (x : View M). x.front) t.after in
      (t.words, subst₂ (λ ws h. IsImage key.shape ws h) same (sym front) k.image, t.read)

  pub took_word : (key : Setting M) (begins : Phase) (v : View M) (found : ℕ) (w : View M) → TookTurn lawful allowed stands key begins v found w → IsLoad (phase_begun begins [] v.seat.phase)
      → MayFind key.shape w.front (next_place key.shape (seat_begun begins [] v.seat)) found
  took_word key begins v found w t is =
      told_word key (view_begun begins [] v) found w t (sym (load_word key.shape (offer_begun [] v.seat.phase v.offer) v.seat.pass v.seat.refused v.seat.spare v.seat.marked (phase_begun begins [] v.seat.phase) found is))

  pub lost_word : (key : Setting M) (k : Key) (v : View M) (found : ℕ) (w : View M) → TookTurn lawful allowed stands key Idle v found w → IsSwapping k v.seat.phase → 0 < found
      → MayFind key.shape w.front (next_place key.shape v.seat) found
  lost_word key k v found w t is pos =
      let t' = subst (λ (x : View M). Turned lawful allowed stands key x (next_place key.shape x.seat) found w) (swapping_same k v is) t in
      told_word key v found w t' (swap_left key.shape v.offer v.seat.pass v.seat.refused v.seat.spare v.seat.marked k v.seat.phase found is pos)

  pub won_entry : (key : Setting M) (k : Key) (v : View M) (found : ℕ) (w : View M) → TookTurn lawful allowed stands key Idle v found w → IsSwapping k v.seat.phase → found ≡ 0
      → w.mine ≡ v.mine ++ Call v.seat.pass k (Num v.seat.spare) ∷ []
  won_entry key k v found w t is won =
      let t' = subst (λ (x : View M). Turned lawful allowed stands key x (next_place key.shape x.seat) found w) (swapping_same k v is) t in
      ap (λ (x : View M). x.mine) t'.after ∙ ap (λ (n : ℕ). v.mine ++ (turn_of key.shape v.offer v.seat n).made) won
      ∙ ap (λ l. v.mine ++ l) (swap_made key.shape v.offer v.seat.pass v.seat.refused v.seat.spare v.seat.marked k v.seat.phase is)

  -- a load that was taken at an equal setting and in an equal phase
  pub load_found : (key other : Setting M) (begins phase : Phase) (u w : View M) (was result answer : ℕ) → other ≡ key → phase ≡ begins
      → Turned lawful allowed stands other (view_begun phase [] u) (next_place other.shape (seat_begun phase [] u.seat)) was w → (Finds (seat_begun phase [] u.seat).phase → result ≡ was)
      → IsLoad (phase_begun begins [] u.seat.phase) → answer ≡ result → MayFind key.shape w.front (next_place key.shape (seat_begun begins [] u.seat)) answer
  load_found key other begins phase u w was result answer same at t finds is e =
      let is' = subst (λ (p : Phase). IsLoad (phase_begun p [] u.seat.phase)) (sym at) is in
      let found : answer ≡ was = e ∙ finds (loads_find (phase_begun phase [] u.seat.phase) is') in
      subst (λ n. MayFind key.shape w.front (next_place key.shape (seat_begun begins [] u.seat)) n) (sym found)
      (subst₂ (λ (s : Setting M) (p : Phase). MayFind s.shape w.front (next_place s.shape (seat_begun p [] u.seat)) was) same at (took_word other phase u was w t is'))

  -- the step of such a load
  pub load_took : (key other : Setting M) (begins phase : Phase) (u w : View M) (was result answer : ℕ) → other ≡ key → phase ≡ begins
      → Turned lawful allowed stands other (view_begun phase [] u) (next_place other.shape (seat_begun phase [] u.seat)) was w → (Finds (seat_begun phase [] u.seat).phase → result ≡ was)
      → IsLoad (phase_begun begins [] u.seat.phase) → answer ≡ result → TookTurn lawful allowed stands key begins u answer w
  load_took key other begins phase u w was result answer same at t finds is e =
      let is' = subst (λ (p : Phase). IsLoad (phase_begun p [] u.seat.phase)) (sym at) is in
      let found : answer ≡ was = e ∙ finds (loads_find (phase_begun phase [] u.seat.phase) is') in
      subst (λ n. TookTurn lawful allowed stands key begins u n w) (sym found) (subst₂ (λ (s : Setting M) (p : Phase). TookTurn lawful allowed stands s p u was w) same at t)

  -- the step of a call in flight that found a word
  pub found_took : (key other : Setting M) (u w : View M) (was result : ℕ) → other ≡ key
      → Turned lawful allowed stands other (view_begun Idle [] u) (next_place other.shape (seat_begun Idle [] u.seat)) was w → (Finds (seat_begun Idle [] u.seat).phase → result ≡ was)
      → Finds (phase_begun Idle [] u.seat.phase) → TookTurn lawful allowed stands key Idle u result w
  found_took key other u w was result same t finds is =
      subst (λ n. TookTurn lawful allowed stands key Idle u n w) (sym (finds is)) (subst (λ (s : Setting M). TookTurn lawful allowed stands s Idle u was w) same t)
