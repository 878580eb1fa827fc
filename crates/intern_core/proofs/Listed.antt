-- Calls on lists stay what they are while other lists, blocks and entries come.
use Rattle.std.proofs.Common.{◌≡◌, ℕ, ◌+◌, ◌*◌, ◌/◌, ◌%◌, ◌<◌, ◌≤◌, List, [], ◌∷◌, length, take, sym, ap, ◌∙◌, subst, arith, slice_index, Option, None, Some}
use Rattle.std.proofs.lemmas.List.{length-take}
use Rattle.intern_core.specs.declared.shape.Shape.{Shape}
use Rattle.intern_core.specs.declared.history.EntryWords.{EntryWords}
use Rattle.intern_core.specs.declared.history.Entry.{Entry}
use Rattle.intern_core.specs.declared.seat.Phase.{Phase}
use Rattle.intern_core.specs.declared.seat.Phase.TheVariants.{Idle, Claiming, StoringOne, StoringTwo, Linking, Swapping, AtOne, AtTwo, LookingOne, LookingTwo, MeasuringList, FindingEntry, ReadingOne, ReadingTwo, ReadingThree, Offering, ClaimingBlock, StoringWord, SwappingList}
use Rattle.intern_core.specs.Layout.{list_at, block_at}
use Rattle.intern_core.specs.History.{Listing, listing_in}
use Rattle.intern_core.specs.Image.{Holds, flat, IsListWord}
use Rattle.intern_core.specs.Turns.{start_in}
use Rattle.intern_core.specs.Blocks.{covers_in, covers_list, published_with, IsNotBy, IsLongerThan, IsEntryOf, MayPublish, HasListed}
use Rattle.intern_core.proofs.Holding.{length_flat, covered, published_one, start_of_word}

-- the same words, from a place on
pub holds_each : (words words' : List ℕ) (at : ℕ) (vs : List ℕ) → ((k : ℕ) → k < length vs → slice_index words' (at + k) ≡ slice_index words (at + k))
    → Holds words at vs → Holds words' at vs
holds_each words words' at [] same h = tt
holds_each words words' at (x ∷ xs) same h =
    let here : at + 0 ≡ at = omega arith in (
      subst (λ n. slice_index words' n ≡ slice_index words n) here (same 0 (omega arith)) ∙ h.0,
      holds_each words words' (at + 1) xs
          (λ k low. let next : at + (k + 1) ≡ at + 1 + k = omega arith in subst (λ n. slice_index words' n ≡ slice_index words n) next (same (k + 1) (omega arith))) h.1,
    )

module _ (shape : Shape) (words words' : List ℕ) (history history' : List Entry) where
  -- the words of this entry stay
  abbrev pub SameEntry : ℕ → Type 0
  SameEntry index = (c : ℕ) → c < 3 → slice_index words' (block_at shape index + c) ≡ slice_index words (block_at shape index + c)

  -- what pass p knows of lists stays
  pub record Stays (p : ℕ) : Type 0 where
    pub longer : (n at : ℕ) → IsLongerThan at (listing_in history n) → IsLongerThan at (listing_in history' n)
    pub not_by : (n : ℕ) → IsNotBy p (listing_in history n) → IsNotBy p (listing_in history' n)
    pub word : (n at : ℕ) → 0 < n → n ≤ shape.nodes → IsLongerThan at (listing_in history n) → slice_index words' (list_at n) ≡ slice_index words (list_at n)

  pub block_same : (start len : ℕ) (vs : List ℕ) → length vs ≤ 3 * len → ((index : ℕ) → start ≤ index → index < start + len → SameEntry index)
      → Holds words (block_at shape start) vs → Holds words' (block_at shape start) vs
  block_same start len vs short same h = holds_each words words' (block_at shape start) vs
      (λ k low.
      let place : block_at shape (start + k / 3) + k % 3 ≡ block_at shape start + k = omega arith in
      subst (λ n. slice_index words' n ≡ slice_index words n) place (same (start + k / 3) (omega arith) (omega arith) (k % 3) (omega arith)))
      h

  longer_covers : (o : Option Listing) (word at index : ℕ) → IsLongerThan at o → index ≡ start_in word + at → covers_list word o index ≡ 1
  longer_covers None word at index long is = absurd long
  longer_covers (Some l) word at index long is = covered (start_in word) (length l.words) index (omega arith) (omega arith)

  pub entry_published : (number at index : ℕ) → IsEntryOf shape words history number at index → 1 ≤ published_with words history index shape.nodes
  entry_published number at index h =
      let one = longer_covers (listing_in history number) (slice_index words (list_at number)) at index h.2 h.3 in
      omega (arith, published_one words history index shape.nodes number h.0 h.1)

  module _ (p : ℕ) (st : Stays p) where
    entry_stays : (number at index : ℕ) → IsEntryOf shape words history number at index → IsEntryOf shape words' history' number at index
    entry_stays number at index h =
        (h.0, h.1, st.longer number at h.2, h.3 ∙ ap (λ w. start_in w + at) (sym (st.word number at h.0 h.1 h.2)))

    may_stay : (r : Option ℕ) (offer : List EntryWords) (number len : ℕ) → MayPublish history p r offer number len → MayPublish history' p r offer number len
    may_stay r offer number len h = (h.0, h.1, st.not_by number h.2)

    first_word : (index one : ℕ) → SameEntry index → slice_index words (block_at shape index) ≡ one → slice_index words' (block_at shape index) ≡ one
    first_word index one same h =
        let here : block_at shape index + 0 ≡ block_at shape index = omega arith in
        subst (λ n. slice_index words' n ≡ slice_index words n) here (same 0 (omega arith)) ∙ h

    pub listed_stays : (r : Option ℕ) (offer : List EntryWords) (phase : Phase)
        → ((index : ℕ) → 1 ≤ published_with words history index shape.nodes + covers_in phase index → SameEntry index)
        → HasListed shape words history p r offer phase → HasListed shape words' history' p r offer phase
    listed_stays r offer (FindingEntry number at) same h = st.longer number at h
    listed_stays r offer (ReadingOne number at index) same h = entry_stays number at index h
    listed_stays r offer (ReadingTwo number at index one) same h =
        let known = same index (omega (arith, entry_published number at index h.0)) in (entry_stays number at index h.0, first_word index one known h.1)
    listed_stays r offer (ReadingThree number at index one two) same h =
        let known = same index (omega (arith, entry_published number at index h.0)) in
        (entry_stays number at index h.0, first_word index one known h.1, known 1 (omega arith) ∙ h.2)
    listed_stays r offer (Offering number len) same h = h
    listed_stays r offer (ClaimingBlock number len) same h = may_stay r offer number len h
    listed_stays r offer (StoringWord number start len stored) same h =
        let size = h.0.0.0 in
        let short : length (take stored (flat offer)) ≤ 3 * len = omega (arith, length-take stored (flat offer), length_flat offer) in (
          may_stay r offer number len h.0,
          h.1,
          h.2,
          block_same start len (take stored (flat offer)) short (λ index low high. same index (omega (arith, covered start len index low high))) h.3,
        )
    listed_stays r offer (SwappingList number start len) same h =
        let size = h.0.0.0 in
        let short : length (flat offer) ≤ 3 * len = omega (arith, length_flat offer) in
        (may_stay r offer number len h.0, h.1, block_same start len (flat offer) short (λ index low high. same index (omega (arith, covered start len index low high))) h.2)
    listed_stays r offer (MeasuringList number) same h = tt
    listed_stays r offer Idle same h = tt
    listed_stays r offer (Claiming key) same h = tt
    listed_stays r offer (StoringOne key) same h = tt
    listed_stays r offer (StoringTwo key) same h = tt
    listed_stays r offer (Linking key from passed) same h = tt
    listed_stays r offer (Swapping key from passed) same h = tt
    listed_stays r offer (AtOne key node passed) same h = tt
    listed_stays r offer (AtTwo key node passed) same h = tt
    listed_stays r offer (LookingOne node) same h = tt
    listed_stays r offer (LookingTwo node one) same h = tt

  -- a published list stays
  pub list_word_stays : (word : ℕ) (o : Option Listing) → shape.entries ≤ 16777216
      → ((index : ℕ) → covers_list word o index ≡ 1 → SameEntry index) → IsListWord shape words word o → IsListWord shape words' word o
  list_word_stays word None fits same h = h
  list_word_stays word (Some l) fits same h =
      let start_is : start_in word ≡ h.0 = ap start_in h.1 ∙ start_of_word h.0 (length l.words) (let f = h.2 in omega arith) in
      let long : length (flat l.words) ≤ 3 * length l.words = omega (arith, length_flat l.words) in (
        h.0,
        h.1,
        h.2,
        block_same h.0 (length l.words) (flat l.words) long
            (λ index low high. same index (covered (start_in word) (length l.words) index (omega arith) (omega arith))) h.3,
      )
