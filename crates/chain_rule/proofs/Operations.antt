-- The operations of the table, each as a turn.
use Rattle.std.proofs.Common.{◌≡◌, ℕ, zero, suc, ◌+◌, ◌<◌, ◌≤◌, ◌%◌, ◌^◌, ◌==◌, nat_lt, nat_le, Bool, true, false, List, [], ◌++◌, Option, None, refl, sym, ap, ◌∙◌, subst, arith, slice_index, Some, mod-eq_of_lt}
use mathlib.Core.Option.{some, none}
use lib.ListN.{get_elem?}
use Rattle.std.proofs.lemmas.Bool.{cond_both, ne_eqb}
use Rattle.atomic_table.specs.Table.{Allows, step, Me}
use Rattle.intern_core.specs.declared.shape.Shape.{Shape}
use Rattle.intern_core.specs.declared.history.Key.{Key}
use Rattle.intern_core.specs.declared.history.Entry.{Entry}
use Rattle.intern_core.specs.declared.history.EntryWords.{EntryWords}
use Rattle.intern_core.specs.declared.seat.SeatWithOffer.{SeatWithOffer}
use Rattle.intern_core.specs.declared.seat.Phase.{Phase}
use Rattle.intern_core.specs.declared.seat.Phase.TheVariants.{Idle, Claiming, StoringOne, StoringTwo, Linking, Swapping, AtOne, AtTwo, LookingOne, LookingTwo, MeasuringList, FindingEntry, ReadingOne, ReadingTwo, ReadingThree, Offering, ClaimingBlock, StoringWord, SwappingList}
use Rattle.intern_core.specs.Layout.{claim_at, entries_at}
use Rattle.intern_core.specs.Image.{list_word}
use Rattle.intern_core.specs.Turns.{Turn, seat, turn_in, linked, next_place_in, swapped, offered, published}
use Rattle.intern_core.specs.Kept.{Kept}
use Rattle.intern_core.specs.Blocks.{KeptLists}
use Rattle.intern_core.specs.Machine.{with_offer, seats_of}
use Rattle.intern_core.proofs.Turning.{claim_small}
use Rattle.intern_core.proofs.Fitting.{entries_small}
use Rattle.intern_core.proofs.Rooms.{claim_low}
use Rattle.chain_rule.specs.declared.meaning.Setting.{Setting}
use Rattle.chain_rule.specs.declared.view.View.{View}
use Rattle.chain_rule.specs.Rule.{Ruled}
use Rattle.chain_rule.specs.Told.{seat_begun, offer_begun, view_begun, MayTurn, Turned, Tells, TellsStore, IsLoad, IsClaim, IsStore, IsSwap}
use Rattle.chain_rule.proofs.Turning.{Leaves, allows_turn}
use prog.Atomic.{either}

-- a load leaves what it found
load_linked : (p : ℕ) (r : Option ℕ) (spare : ℕ) (marked : Bool) (key : Key) (from passed v : ℕ) → (linked p r spare marked key from passed v).word ≡ v
load_linked p r spare true key from passed zero = refl
load_linked p r spare false key from passed zero = refl
load_linked p r spare true key from passed (suc n) = refl
load_linked p r spare false key from passed (suc n) = refl

load_offered : (p : ℕ) (r : Option ℕ) (spare : ℕ) (marked : Bool) (number len v : ℕ) → (offered p r spare marked number len v).word ≡ v
load_offered p None spare marked number len zero = refl
load_offered p (Some r) spare marked number len zero = refl
load_offered p None spare marked number len (suc n) = refl
load_offered p (Some r) spare marked number len (suc n) = refl

pub load_word : (shape : Shape) (offer : List EntryWords) (p : ℕ) (r : Option ℕ) (spare : ℕ) (marked : Bool) (phase : Phase) (v : ℕ) → IsLoad phase → v ≡ (turn_in shape offer p r spare marked phase v).word
load_word shape offer p r spare marked (Linking key from passed) v is = sym (load_linked p r spare marked key from passed v)
load_word shape offer p r spare marked (AtOne key node passed) v is = refl
load_word shape offer p r spare marked (AtTwo key node passed) v is = cond_both (v == key.two) _ _ (λ (t : Turn). v ≡ t.word) (λ e. refl) (λ e. refl)
load_word shape offer p r spare marked (LookingOne node) v is = refl
load_word shape offer p r spare marked (LookingTwo node one) v is = refl
load_word shape offer p r spare marked Idle v is = refl
load_word shape offer p r spare marked (MeasuringList number) v is = refl
load_word shape offer p r spare marked (FindingEntry number at) v is = refl
load_word shape offer p r spare marked (ReadingOne number at index) v is = refl
load_word shape offer p r spare marked (ReadingTwo number at index one) v is = refl
load_word shape offer p r spare marked (ReadingThree number at index one two) v is = refl
load_word shape offer p r spare marked (Offering number len) v is = sym (load_offered p r spare marked number len v)
load_word shape offer p r spare marked other v is = absurd is

claim_word : (shape : Shape) (words : List ℕ) (seats : List SeatWithOffer) (history : List Entry) (k : Kept shape words (seats_of seats) history) (b : KeptLists shape words seats history)
    (i : ℕ) (offer : List EntryWords) (p : ℕ) (r : Option ℕ) (spare : ℕ) (marked : Bool) (phase : Phase) (place more : ℕ) → get_elem? seats i ≡ some (with_offer (seat p r spare marked phase) offer)
    → place ≡ next_place_in shape spare phase → IsClaim phase more → (slice_index words place + more) % 2 ^ 64 ≡ (turn_in shape offer p r spare marked phase (slice_index words place)).word
claim_word shape words seats history k b i offer p r spare marked (Claiming key) place more there here is =
    let v = slice_index words place in
    let low : slice_index words claim_at ≤ shape.nodes + shape.passes = claim_small shape words (seats_of seats) history k 0 in
    let at : v ≡ slice_index words claim_at = ap (slice_index words) here in
    let a = k.ranges.nodes_fit in
    let c = k.ranges.passes_fit in
    ap (λ (n : ℕ). (v + n) % 2 ^ 64) is
    ∙ mod-eq_of_lt (let fits : v + 1 < 2 ^ 64 = omega arith in fits) ∙ cond_both (nat_lt v shape.nodes) _ _ (λ (t : Turn). v + 1 ≡ t.word) (λ e. refl) (λ e. refl)
claim_word shape words seats history k b i offer p r spare marked (ClaimingBlock number len) place more there here is =
    let v = slice_index words place in
    let low = entries_small shape words seats history k b i p r spare marked offer in
    let small = (claim_low shape words seats history b k i p r spare marked offer number len there).1 in
    let at : v ≡ slice_index words entries_at = ap (slice_index words) here in
    ap (λ (n : ℕ). (v + n) % 2 ^ 64) is
    ∙ mod-eq_of_lt (let fits : v + len < 2 ^ 64 = omega arith in fits) ∙ cond_both (nat_le (v + len) shape.entries) _ _ (λ (t : Turn). v + len ≡ t.word) (λ e. refl) (λ e. refl)
claim_word shape words seats history k b i offer p r spare marked other place more there here is = absurd is

store_word : (shape : Shape) (offer : List EntryWords) (p : ℕ) (r : Option ℕ) (spare : ℕ) (marked : Bool) (phase : Phase) (v new : ℕ) → IsStore offer phase new → new ≡ (turn_in shape offer p r spare marked phase v).word
store_word shape offer p r spare marked (StoringOne key) v new is = is
store_word shape offer p r spare marked (StoringTwo key) v new is = is
store_word shape offer p r spare marked (StoringWord number start len stored) v new is = is
store_word shape offer p r spare marked other v new is = absurd is

swapped_word : (p : ℕ) (r : Option ℕ) (own new : ℕ) (marked : Bool) (key : Key) (passed v : ℕ) → new ≡ own → either (v == 0) new v ≡ (swapped p r own marked key passed v).word
swapped_word p r own new marked key passed zero e = e
swapped_word p r own new marked key passed (suc n) e = ap (λ b. either b new (suc n)) (ne_eqb (suc n) 0 (λ z. omega arith))

published_word : (p : ℕ) (r : Option ℕ) (spare new : ℕ) (marked : Bool) (offer : List EntryWords) (number start len v : ℕ) → new ≡ list_word start len
    → either (v == 0) new v ≡ (published p r spare marked offer number start len v).word
published_word p r spare new marked offer number start len zero e = e
published_word p r spare new marked offer number start len (suc n) e = ap (λ b. either b new (suc n)) (ne_eqb (suc n) 0 (λ z. omega arith))

swap_word : (shape : Shape) (offer : List EntryWords) (p : ℕ) (r : Option ℕ) (own new : ℕ) (marked : Bool) (phase : Phase) (v : ℕ) → IsSwap own phase new → either (v == 0) new v ≡ (turn_in shape offer p r own marked phase v).word
swap_word shape offer p r own new marked (Swapping key from passed) v is = swapped_word p r own new marked key passed v is
swap_word shape offer p r own new marked (SwappingList number start len) v is = published_word p r own new marked offer number start len v is
swap_word shape offer p r own new marked other v is = absurd is

-- the settings of a view are those of its table
pub one_setting : {M : Type 0} (a b : Setting M) → Some a ≡ Some b → a ≡ b
one_setting a b e = cc

module _ {M : Type 0} (lawful : M → List Entry → Key → Type 0) (allowed : M → Key → Type 0) (stands : M → List Entry → ℕ → List EntryWords → Type 0)
    (stays : (m : M) (h more : List Entry) (k : Key) → lawful m h k → lawful m (h ++ more) k)
    (standing : (m : M) (h more : List Entry) (n : ℕ) (ws : List EntryWords) → stands m h n ws → stands m (h ++ more) n ws) {S : Type 0} where
  module _ (key : Setting M) (slots id place : ℕ) (begins : Phase) (words : List EntryWords) (f : ℕ → ℕ) (me : Me S (View M)) (empty : me.1 ≡ []) (may : MayTurn lawful allowed stands key begins words me.0 place) where
    pub allows_as : Leaves key (view_begun begins words me.0) place f → (then : ℕ → Me S (View M) → Type 0)
        → ((n : ℕ) (w : View M) → Turned lawful allowed stands key (view_begun begins words me.0) place n w → then n (w, []))
        → Allows (Ruled lawful allowed stands key) slots id me place f then
    allows_as leaves then tells =
        subst (λ (c : List (ℕ × S)). Allows (Ruled lawful allowed stands key) slots id (me.0, c) place f then) (sym empty)
        (allows_turn lawful allowed stands stays standing key slots id me.0 begins words place f then may.walks may.setting may.may may.tells may.here leaves tells)

    told : (n : ℕ) (w : View M) (a b : ℕ) → Turned lawful allowed stands key (view_begun begins words me.0) place n w → Tells lawful allowed stands begins words (step slots place a b none) me n (w, [])
    told n w a b t = (sym empty, λ k is walks. subst (λ k. Turned lawful allowed stands k (view_begun begins words me.0) place n w) (one_setting key k (sym may.setting ∙ is)) t)

  pub allows_load : (table_key key : Setting M) → table_key ≡ key → (slots id place : ℕ) (begins : Phase) (words : List EntryWords) (me : Me S (View M)) → me.1 ≡ []
      → MayTurn lawful allowed stands key begins words me.0 place → IsLoad (seat_begun begins words me.0.seat).phase
      → Allows (Ruled lawful allowed stands table_key) slots id me place (λ n. n) (Tells lawful allowed stands begins words (step slots place 0 0 none) me)
  allows_load table_key key same slots id place begins words me empty may is =
      subst (λ k. Allows (Ruled lawful allowed stands k) slots id me place (λ n. n) (Tells lawful allowed stands begins words (step slots place 0 0 none) me)) (sym same)
      (allows_as key slots id place begins words (λ n. n) me empty may
      (λ ws seats history i k b at. load_word key.shape (offer_begun words me.0.seat.phase me.0.offer) me.0.seat.pass me.0.seat.refused me.0.seat.spare me.0.seat.marked (seat_begun begins words me.0.seat).phase (slice_index ws place) is)
      (Tells lawful allowed stands begins words (step slots place 0 0 none) me)
      (λ n w t. told key slots id place begins words (λ n. n) me empty may n w 0 0 t))

  pub allows_claim : (table_key key : Setting M) → table_key ≡ key → (slots id place more : ℕ) (begins : Phase) (words : List EntryWords) (me : Me S (View M)) → me.1 ≡ []
      → MayTurn lawful allowed stands key begins words me.0 place → IsClaim (seat_begun begins words me.0.seat).phase more
      → Allows (Ruled lawful allowed stands table_key) slots id me place (λ n. (n + more) % 2 ^ 64) (Tells lawful allowed stands begins words (step slots place more 0 none) me)
  allows_claim table_key key same slots id place more begins words me empty may is =
      subst (λ k. Allows (Ruled lawful allowed stands k) slots id me place (λ n. (n + more) % 2 ^ 64) (Tells lawful allowed stands begins words (step slots place more 0 none) me)) (sym same)
      (allows_as key slots id place begins words (λ n. (n + more) % 2 ^ 64) me empty may
      (λ ws seats history i k b at. claim_word key.shape ws seats history k b i (offer_begun words me.0.seat.phase me.0.offer) me.0.seat.pass me.0.seat.refused me.0.seat.spare me.0.seat.marked (seat_begun begins words me.0.seat).phase place more at may.here is)
      (Tells lawful allowed stands begins words (step slots place more 0 none) me)
      (λ n w t. told key slots id place begins words (λ n. (n + more) % 2 ^ 64) me empty may n w more 0 t))

  pub allows_store : (table_key key : Setting M) → table_key ≡ key → (slots id place new : ℕ) (begins : Phase) (words : List EntryWords) (me : Me S (View M)) → me.1 ≡ []
      → MayTurn lawful allowed stands key begins words me.0 place → IsStore (offer_begun words me.0.seat.phase me.0.offer) (seat_begun begins words me.0.seat).phase new
      → Allows (Ruled lawful allowed stands table_key) slots id me place (λ _. new) (λ _. TellsStore lawful allowed stands begins words (step slots place new 0 none) me new)
  allows_store table_key key same slots id place new begins words me empty may is =
      subst (λ k. Allows (Ruled lawful allowed stands k) slots id me place (λ _. new) (λ _. TellsStore lawful allowed stands begins words (step slots place new 0 none) me new)) (sym same)
      (allows_as key slots id place begins words (λ _. new) me empty may
      (λ ws seats history i k b at. store_word key.shape (offer_begun words me.0.seat.phase me.0.offer) me.0.seat.pass me.0.seat.refused me.0.seat.spare me.0.seat.marked (seat_begun begins words me.0.seat).phase (slice_index ws place) new is)
      (λ _. TellsStore lawful allowed stands begins words (step slots place new 0 none) me new)
      (λ n w t. (sym empty, λ k set walks. (n, subst (λ k. Turned lawful allowed stands k (view_begun begins words me.0) place n w) (one_setting key k (sym may.setting ∙ set)) t))))

  pub allows_swap : (table_key key : Setting M) → table_key ≡ key → (slots id place new : ℕ) (begins : Phase) (words : List EntryWords) (me : Me S (View M)) → me.1 ≡ []
      → MayTurn lawful allowed stands key begins words me.0 place → IsSwap me.0.seat.spare (seat_begun begins words me.0.seat).phase new
      → Allows (Ruled lawful allowed stands table_key) slots id me place (λ n. either (n == 0) new n) (Tells lawful allowed stands begins words (step slots place 0 new none) me)
  allows_swap table_key key same slots id place new begins words me empty may is =
      subst (λ k. Allows (Ruled lawful allowed stands k) slots id me place (λ n. either (n == 0) new n) (Tells lawful allowed stands begins words (step slots place 0 new none) me)) (sym same)
      (allows_as key slots id place begins words (λ n. either (n == 0) new n) me empty may
      (λ ws seats history i k b at. swap_word key.shape (offer_begun words me.0.seat.phase me.0.offer) me.0.seat.pass me.0.seat.refused me.0.seat.spare new me.0.seat.marked (seat_begun begins words me.0.seat).phase (slice_index ws place) is)
      (Tells lawful allowed stands begins words (step slots place 0 new none) me)
      (λ n w t. told key slots id place begins words (λ n. either (n == 0) new n) me empty may n w 0 new t))
