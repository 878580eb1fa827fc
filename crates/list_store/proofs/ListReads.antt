-- What the steps of a call on a list tell of it.
use Rattle.std.proofs.Common.{◌≡◌, ℕ, ◌+◌, ◌*◌, ◌/◌, ◌%◌, ◌<◌, ◌≤◌, ◌==◌, Bool, true, false, cond, List, [], ◌∷◌, ◌++◌, length, refl, sym, ap, ◌∙◌, subst, arith, append-nil, append_assoc, slice_index, get_or, Option, Some, None, IfSome, option_map}
use mathlib.Core.Option.{some}
use lib.ListN.{get_elem?}
use Rattle.std.proofs.lemmas.Bool.{eqb-false}
use Rattle.intern_core.specs.declared.shape.Shape.{Shape}
use Rattle.intern_core.specs.declared.history.Key.{Key}
use Rattle.intern_core.specs.declared.history.EntryWords.{EntryWords}
use Rattle.intern_core.specs.declared.history.Entry.{Entry}
use Rattle.intern_core.specs.declared.history.Entry.TheVariants as entry
use Rattle.intern_core.specs.declared.seat.Phase.{Phase}
use Rattle.intern_core.specs.declared.seat.Phase.TheVariants.{Idle, MeasuringList}
use Rattle.intern_core.specs.declared.seat.SeatWithOffer.{SeatWithOffer}
use Rattle.intern_core.specs.Layout.{list_at}
use Rattle.intern_core.specs.History.{Listing, listing, listing_in, Known, known, known_after, uses, IsLegal, IsLegalAfter}
use Rattle.intern_core.specs.Image.{flat, IsListWord}
use Rattle.intern_core.specs.Turns.{seat, next_place_in, turn_in, length_in}
use Rattle.intern_core.specs.Kept.{HasReached}
use Rattle.intern_core.specs.Blocks.{IsLongerThan, IsNotBy}
use Rattle.intern_core.specs.Offers.{IsPublished}
use Rattle.intern_core.specs.Machine.{with_offer, seats_of}
use Rattle.intern_core.proofs.Fetching.{length_of_word}
use Rattle.intern_core.proofs.Histories.{known_after-append, uses_after}
use Rattle.intern_core.proofs.Holding.{flat_word}
use Rattle.intern_core.proofs.ListSteps.{at_map}
use Rattle.intern_core.proofs.Machines.{there_is}
use Rattle.intern_core.proofs.Steps.{known_small}
use Rattle.chain_rule.specs.declared.meaning.Setting.{Setting}
use Rattle.chain_rule.specs.declared.view.View.{View}
use Rattle.chain_rule.specs.Rule.{IsFront, own}
use Rattle.chain_rule.specs.Stepping.{IsListedWord}
use Rattle.chain_rule.specs.Told.{TookTurn, phase_begun, offer_begun}
use Rattle.chain_rule.proofs.Views.{listing_front, longer_is}
use Rattle.list_store.specs.Lists.{length_of_list}

pub front_on : (a b c : List Entry) → IsFront a b → IsFront b c → IsFront a c
front_on a b c f g = (f.0 ++ g.0, g.1 ∙ ap (λ l. l ++ g.0) f.1 ∙ append_assoc a f.0 g.0)

-- a list that a front has, a longer one has too
pub listing_on : (f h : List Entry) (n : ℕ) (l : Listing) → IsFront f h → listing_in f n ≡ Some l → listing_in h n ≡ Some l
listing_on f h n l front is = ap (λ (x : List Entry). listing_in x n) front.1 ∙ listing_front f front.0 n l is

pub longer_on : (f h : List Entry) (n at : ℕ) → IsFront f h → IsLongerThan at (listing_in f n) → IsLongerThan at (listing_in h n)
longer_on f h n at front long = let l = longer_is at (listing_in f n) long in subst (IsLongerThan at) (sym (listing_on f h n l.0 front l.1)) l.2

-- a list of a legal history has at most 4,096 entries
short_after : (shape : Shape) (before xs : List Entry) → IsLegalAfter shape before xs → (n : ℕ) (l : Listing) → listing_in xs n ≡ Some l → length l.words ≤ 4096
short_after shape before [] legal n l h = absurd cc
short_after shape before (entry.Call q k a ∷ xs) legal n l h = short_after shape (before ++ entry.Call q k a ∷ []) xs legal.1 n l h
short_after shape before (entry.Lost q m len ∷ xs) legal n l h = short_after shape (before ++ entry.Lost q m len ∷ []) xs legal.1 n l h
short_after shape before (entry.List q m ws ∷ xs) legal n l h = by (m == n) h (λ r. short_after shape (before ++ entry.List q m ws ∷ []) xs legal.1 n l r) where
  by : (t : Bool) → cond t (Some (listing q ws)) (listing_in xs n) ≡ Some l → (listing_in xs n ≡ Some l → length l.words ≤ 4096) → length l.words ≤ 4096
  by true h' rest = let same : listing q ws ≡ l = cc in subst (λ (x : Listing). length x.words ≤ 4096) same legal.0.3
  by false h' rest = rest h'

pub place_small : (shape : Shape) (front : List Entry) (n at : ℕ) → IsLegal shape front → IsLongerThan at (listing_in front n) → at < 4096
place_small shape front n at legal long =
    let l = longer_is at (listing_in front n) long in
    let short = short_after shape [] front legal n l.0 l.1 in
    let low = l.2 in
    omega arith

-- three words are an entry of the list
pub three_words : (f g h : List Entry) (n at one two three : ℕ) → IsFront f g → IsFront g h → IsListedWord f n (3 * at) one → IsListedWord g n (3 * at + 1) two → IsListedWord h n (3 * at + 2) three
    → IsPublished h n at (record { 0 = one ∷ two ∷ three ∷ [] })
three_words f g h n at one two three fg gh a b c =
    let l = c.0 in
    let d : EntryWords = record { 0 = [] } in
    let low = c.2 in
    let x = get_or l.words at d in
    let same_a : a.0 ≡ l = (let e : Some a.0 ≡ Some l = sym (listing_on f h n a.0 (front_on f g h fg gh) a.1) ∙ c.1 in cc) in
    let same_b : b.0 ≡ l = (let e : Some b.0 ≡ Some l = sym (listing_on g h n b.0 gh b.1) ∙ c.1 in cc) in
    let zero_is : 3 * at ≡ 3 * at + 0 = omega arith in
    let first : one ≡ slice_index x.0 0 = sym a.3 ∙ ap (λ (y : Listing). slice_index (flat y.words) (3 * at)) same_a ∙ ap (slice_index (flat l.words)) zero_is ∙ word_at l.words at 0 (omega arith) (omega arith) in
    let second : two ≡ slice_index x.0 1 = sym b.3 ∙ ap (λ (y : Listing). slice_index (flat y.words) (3 * at + 1)) same_b ∙ word_at l.words at 1 (omega arith) (omega arith) in
    let third : three ≡ slice_index x.0 2 = sym c.3 ∙ word_at l.words at 2 (omega arith) (omega arith) in (
      l,
      c.1,
      x,
      there_is l.words at d (omega arith),
      ap (λ y. y ∷ two ∷ three ∷ []) first ∙ ap (λ y. slice_index x.0 0 ∷ y ∷ three ∷ []) second ∙ ap (λ y. slice_index x.0 0 ∷ slice_index x.0 1 ∷ y ∷ []) third,
    ) where
      word_at : (ws : List EntryWords) (k j : ℕ) → k < length ws → j < 3 → slice_index (flat ws) (3 * k + j) ≡ slice_index (get_or ws k (record { 0 = [] })).0 j
      word_at ws k j small low' =
          let quotient : (3 * k + j) / 3 ≡ k = omega arith in
          let rest : (3 * k + j) % 3 ≡ j = omega arith in
          sym (flat_word ws (3 * k + j) (omega arith))
          ∙ ap (λ m. slice_index (get_or ws m (record { 0 = [] })).0 ((3 * k + j) % 3)) quotient
          ∙ ap (λ m. slice_index (get_or ws k (record { 0 = [] })).0 m) rest

-- a list that none of a pass's own entries published is another's
pub not_by_own : (p n : ℕ) (xs : List Entry) → listing_in (own p xs) n ≡ None → IsNotBy p (listing_in xs n)
not_by_own p n [] h = tt
not_by_own p n (entry.Call q k a ∷ xs) h = by (q == p) h (not_by_own p n xs) where
  by : (t : Bool) → listing_in (cond t (entry.Call q k a ∷ own p xs) (own p xs)) n ≡ None → (listing_in (own p xs) n ≡ None → IsNotBy p (listing_in xs n)) → IsNotBy p (listing_in xs n)
  by true h' rest = rest h'
  by false h' rest = rest h'
not_by_own p n (entry.Lost q m len ∷ xs) h = by (q == p) h (not_by_own p n xs) where
  by : (t : Bool) → listing_in (cond t (entry.Lost q m len ∷ own p xs) (own p xs)) n ≡ None → (listing_in (own p xs) n ≡ None → IsNotBy p (listing_in xs n)) → IsNotBy p (listing_in xs n)
  by true h' rest = rest h'
  by false h' rest = rest h'
not_by_own p n (entry.List q m ws ∷ xs) h = by (m == n) (q == p) refl (split (q == p) h) (not_by_own p n xs) where
  split : (t : Bool) → listing_in (cond t (entry.List q m ws ∷ own p xs) (own p xs)) n ≡ None → cond t (cond (m == n) (Some (listing q ws)) (listing_in (own p xs) n)) (listing_in (own p xs) n) ≡ None
  split true e = e
  split false e = e

  by : (s t : Bool) → (q == p) ≡ t → cond t (cond s (Some (listing q ws)) (listing_in (own p xs) n)) (listing_in (own p xs) n) ≡ None
      → (listing_in (own p xs) n ≡ None → IsNotBy p (listing_in xs n)) → IsNotBy p (cond s (Some (listing q ws)) (listing_in xs n))
  by true true is h' rest = absurd cc
  by true false is h' rest = eqb-false q p is
  by false true is h' rest = rest h'
  by false false is h' rest = rest h'

-- a pass has published no list where there is none
pub own_unlisted : (p n : ℕ) (xs : List Entry) → listing_in xs n ≡ None → listing_in (own p xs) n ≡ None
own_unlisted p n [] h = refl
own_unlisted p n (entry.Call q k a ∷ xs) h = by (q == p) (own_unlisted p n xs h) where
  by : (t : Bool) → listing_in (own p xs) n ≡ None → listing_in (cond t (entry.Call q k a ∷ own p xs) (own p xs)) n ≡ None
  by true e = e
  by false e = e
own_unlisted p n (entry.Lost q m len ∷ xs) h = by (q == p) (own_unlisted p n xs h) where
  by : (t : Bool) → listing_in (own p xs) n ≡ None → listing_in (cond t (entry.Lost q m len ∷ own p xs) (own p xs)) n ≡ None
  by true e = e
  by false e = e
own_unlisted p n (entry.List q m ws ∷ xs) h = by (m == n) refl (q == p) h (own_unlisted p n xs) where
  by : (s : Bool) → (m == n) ≡ s → (t : Bool) → cond s (Some (listing q ws)) (listing_in xs n) ≡ None → (listing_in xs n ≡ None → listing_in (own p xs) n ≡ None)
      → listing_in (cond t (entry.List q m ws ∷ own p xs) (own p xs)) n ≡ None
  by true is t h' rest = absurd cc
  by false is true h' rest = ap (λ s. cond s (Some (listing q ws)) (listing_in (own p xs) n)) is ∙ rest h'
  by false is false h' rest = rest h'

-- places below the length are in the list
pub below_length : (front : List Entry) (n at len : ℕ) → length_of_list front n ≡ Some len → at < len → IsLongerThan at (listing_in front n)
below_length front n at len is low = by (listing_in front n) is where
  by : (o : Option Listing) → option_map (λ (l : Listing). length l.words) o ≡ Some len → IsLongerThan at o
  by None e = absurd cc
  by (Some l) e = let same : length l.words ≡ len = cc in omega arith

pub entries_of : (front : List Entry) (n : ℕ) (r : Option ℕ) → r ≡ length_of_list front n → IfSome r (λ len. (at : ℕ) → at < len → IsLongerThan at (listing_in front n))
entries_of front n None is = tt
entries_of front n (Some len) is = λ at low. below_length front n at len (sym is) low

pub none_of : (front : List Entry) (n p : ℕ) → None ≡ length_of_list front n → listing_in (own p front) n ≡ None
none_of front n p is = own_unlisted p n front (by (listing_in front n) refl is) where
  by : (o : Option Listing) → listing_in front n ≡ o → None ≡ option_map (λ (l : Listing). length l.words) o → listing_in front n ≡ None
  by None e h = e
  by (Some l) e h = absurd cc

-- a number that a front knows, a longer one knows too
pub known_on : (f h : List Entry) (n : ℕ) → IsFront f h → 0 < uses n (known f) → 0 < uses n (known h)
known_on f h n front there =
    let e : known h ≡ known_after (known f) front.0 = ap known front.1 ∙ known_after-append [] f front.0 in
    let up = uses_after n (known f) front.0 in
    let same = ap (uses n) e in
    omega arith

module _ {M : Type 0} (lawful : M → List Entry → Key → Type 0) (allowed : M → Key → Type 0) (stands : M → List Entry → ℕ → List EntryWords → Type 0) (key : Setting M) where
  -- the list word that was found at the first step of a call is that of the number's list
  pub list_word_there : (u w : View M) (begins : Phase) (found number : ℕ) → u.seat.phase ≡ Idle → (t : TookTurn lawful allowed stands key begins u found w)
      → next_place_in key.shape u.seat.spare begins ≡ list_at number
      → ((words : List ℕ) (seen : List Known) → HasReached key.shape words seen u.seat.spare u.seat.marked begins → 0 < uses number seen)
      → (turn_in key.shape [] u.seat.pass u.seat.refused u.seat.spare u.seat.marked begins found).made ≡ []
      → IsListWord key.shape t.words found (listing_in w.front number)
  list_word_there u w begins found number idle t place reaches none =
      let p = u.seat.pass in
      let here = subst (λ ph. get_elem? t.seats t.index ≡ some (with_offer (seat u.seat.pass u.seat.refused u.seat.spare u.seat.marked (phase_begun begins [] ph)) (offer_begun [] ph u.offer))) idle t.here in
      let there = at_map (λ (x : SeatWithOffer). x.seat) t.seats t.index (with_offer (seat u.seat.pass u.seat.refused u.seat.spare u.seat.marked begins) []) here in
      let reached = (t.kept.seat_is t.index (seat u.seat.pass u.seat.refused u.seat.spare u.seat.marked begins) there).reached in
      let small = known_small key.shape t.words (seats_of t.seats) t.history t.kept number (reaches t.words (known t.history) reached) in
      let word = t.kept.image.lists number small.0 small.1 in
      let read : slice_index t.words (list_at number) ≡ found =
      ap (slice_index t.words) (sym place) ∙ ap (λ ph. slice_index t.words (next_place_in key.shape u.seat.spare (phase_begun begins [] ph))) (sym idle) ∙ t.read in
      let front : w.front ≡ t.history =
      ap (λ (x : View M). x.front) t.after
      ∙ ap (λ ph. t.history ++ (turn_in key.shape (offer_begun [] ph u.offer) u.seat.pass u.seat.refused u.seat.spare u.seat.marked (phase_begun begins [] ph) found).made) idle
      ∙ ap (λ l. t.history ++ l) none ∙ append-nil t.history in
      subst (λ l. IsListWord key.shape t.words found (listing_in l number)) (sym front) (subst (λ n. IsListWord key.shape t.words n (listing_in t.history number)) read word)

  -- the length that it tells
  pub measured : (u w : View M) (found number : ℕ) → u.seat.phase ≡ Idle → TookTurn lawful allowed stands key (MeasuringList number) u found w → length_in found ≡ length_of_list w.front number
  measured u w found number idle t =
      length_of_word key.shape t.words found (listing_in w.front number) t.kept.ranges.entries_fit
      (list_word_there u w (MeasuringList number) found number idle t refl (λ words seen h. h) refl)
