-- List words and blocks, where another word changes.
use Rattle.std.proofs.Common.{◌≢◌, ℕ, ◌+◌, ◌<◌, ◌≤◌, List, [], ◌∷◌, set, sym, ◌∙◌, subst, arith, slice_index, Option, None, Some}
use Rattle.std.proofs.lemmas.List.{get_or-set_other}
use Rattle.intern_core.specs.declared.shape.Shape.{Shape}
use Rattle.intern_core.specs.declared.history.Entry.{Entry}
use Rattle.intern_core.specs.Layout.{list_at, block_at}
use Rattle.intern_core.specs.History.{Listing, listing_in}
use Rattle.intern_core.specs.Image.{Holds, IsListWord}

-- a word before these
pub holds_after : (words : List ℕ) (place v at : ℕ) (vs : List ℕ) → place < at → Holds words at vs → Holds (set words place v) at vs
holds_after words place v at [] low h = tt
holds_after words place v at (x ∷ xs) low h =
    (get_or-set_other words place at v 0 (λ e. omega arith) ∙ h.0, holds_after words place v (at + 1) xs (omega arith) h.1)

-- a word before all blocks
pub list_word_same : (shape : Shape) (words : List ℕ) (place v word : ℕ) (o : Option Listing) → place < block_at shape 0
    → IsListWord shape words word o → IsListWord shape (set words place v) word o
list_word_same shape words place v word None low h = h
list_word_same shape words place v word (Some l) low h = (h.0, h.1, h.2, holds_after words place v (block_at shape h.0) _ (omega arith) h.3)

-- a word before all blocks that is no list word
pub lists_same : (shape : Shape) (words : List ℕ) (history : List Entry) (place v : ℕ) → place < block_at shape 0
    → ((n : ℕ) → n ≤ shape.nodes → list_at n ≢ place)
    → ((n : ℕ) → 0 < n → n ≤ shape.nodes → IsListWord shape words (slice_index words (list_at n)) (listing_in history n))
    → (n : ℕ) → 0 < n → n ≤ shape.nodes → IsListWord shape (set words place v) (slice_index (set words place v) (list_at n)) (listing_in history n)
lists_same shape words history place v low apart lists n pos le =
    subst (λ w. IsListWord shape (set words place v) w (listing_in history n)) (sym (get_or-set_other words place (list_at n) v 0 (apart n le)))
    (list_word_same shape words place v (slice_index words (list_at n)) (listing_in history n) low (lists n pos le))
