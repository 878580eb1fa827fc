-- Words that are held from a place on, and entries that blocks cover.
use Rattle.std.proofs.Common.{◌≡◌, ◌≢◌, ℕ, zero, suc, ◌+◌, ◌*◌, ◌/◌, ◌%◌, ◌<◌, ◌≤◌, nat_lt, min, List, [], ◌∷◌, ◌++◌, length, set, take, refl, sym, ap, ◌∙◌, subst, arith, slice_index, get_or, ⊎_elim}
use Rattle.std.proofs.lemmas.List.{get_or-set_same, get_or-set_other, take_more, take_all, length-take-le}
use Rattle.std.proofs.lemmas.Bool.{cases_lt}
use Rattle.std.proofs.lemmas.Bool.Decides.{nat_tests}
use Rattle.intern_core.specs.declared.history.EntryWords.{EntryWords}
use Rattle.intern_core.specs.declared.history.Entry.{Entry}
use Rattle.intern_core.specs.Layout.{list_at}
use Rattle.intern_core.specs.History.{listing_in, one_if}
use Rattle.intern_core.specs.Image.{Holds, flat, list_word}
use Rattle.intern_core.specs.Turns.{start_in}
use Rattle.intern_core.specs.Blocks.{covers, covers_list, published_with}

pub holds_apart : (words : List ℕ) (place v at : ℕ) (vs : List ℕ) → ((k : ℕ) → k < length vs → at + k ≢ place) → Holds words at vs → Holds (set words place v) at vs
holds_apart words place v at [] apart h = tt
holds_apart words place v at (x ∷ xs) apart h = (
  get_or-set_other words place at v 0 (λ e. apart 0 (omega arith) (omega arith)) ∙ h.0,
  holds_apart words place v (at + 1) xs (λ k low e. apart (k + 1) (omega arith) (omega arith)) h.1,
)

pub holds_more : (words : List ℕ) (at : ℕ) (vs : List ℕ) (x : ℕ) → Holds words at vs → slice_index words (at + length vs) ≡ x → Holds words at (vs ++ x ∷ [])
holds_more words at [] x h e = let same : at ≡ at + 0 = omega arith in (ap (slice_index words) same ∙ e, tt)
holds_more words at (y ∷ ys) x h e =
    let same : at + 1 + length ys ≡ at + length (y ∷ ys) = omega arith in
    (h.0, holds_more words (at + 1) ys x h.1 (ap (slice_index words) same ∙ e))

pub length_flat : (ws : List EntryWords) → length (flat ws) ≡ 3 * length ws
length_flat [] = refl
length_flat (e ∷ es) = omega (arith, length_flat es)

-- one word more of these is stored
pub holds_stored : (words : List ℕ) (at stored : ℕ) (vs : List ℕ) → stored < length vs → at + stored < length words → Holds words at (take stored vs)
    → Holds (set words (at + stored) (slice_index vs stored)) at (take (stored + 1) vs)
holds_stored words at stored vs low room h =
    let x = slice_index vs stored in
    let long : length (take stored vs) ≡ stored = length-take-le stored vs (omega arith) in
    let before : Holds (set words (at + stored) x) at (take stored vs) = holds_apart words (at + stored) x at (take stored vs) (λ k small e. omega arith) h in
    let here : slice_index (set words (at + stored) x) (at + length (take stored vs)) ≡ x =
    ap (λ n. slice_index (set words (at + stored) x) (at + n)) long ∙ get_or-set_same words (at + stored) x 0 room in
    subst (Holds (set words (at + stored) x) at) (sym (take_more vs stored 0 low)) (holds_more (set words (at + stored) x) at (take stored vs) x before here)

-- all of them are
pub holds_all : (words : List ℕ) (at stored : ℕ) (vs : List ℕ) → length vs ≤ stored → Holds words at (take stored vs) → Holds words at vs
holds_all words at stored vs high h = subst (Holds words at) (take_all stored vs high) h

-- other words, the same from here on
pub holds_same : (words words' : List ℕ) (base at : ℕ) (vs : List ℕ) → base ≤ at → ((n : ℕ) → base ≤ n → slice_index words' n ≡ slice_index words n)
    → Holds words at vs → Holds words' at vs
holds_same words words' base at [] low same h = tt
holds_same words words' base at (x ∷ xs) low same h = (same at low ∙ h.0, holds_same words words' base (at + 1) xs (omega arith) same h.1)

-- entries of a block are covered by it
pub covered : (start len index : ℕ) → start ≤ index → index < start + len → covers start len index ≡ 1
covered start len index low high = grind (arith, nat_tests)

pub covers_most : (start len index : ℕ) → covers start len index ≤ 1
covers_most start len index = grind (arith, nat_tests)

-- the entries of a block that is claimed next are in no block yet
pub covers_next : (claim len index entries : ℕ) → claim + len ≤ entries
    → one_if (nat_lt index (min claim entries)) + covers claim len index ≤ one_if (nat_lt index (min (claim + len) entries))
covers_next claim len index entries fits = grind (arith, nat_tests)

pub given_grows : (claim len index entries : ℕ) → one_if (nat_lt index (min claim entries)) ≤ one_if (nat_lt index (min (claim + len) entries))
given_grows claim len index entries = grind (arith, nat_tests)

pub given_most : (claim index entries : ℕ) → one_if (nat_lt index (min claim entries)) ≤ 1
given_most claim index entries = grind (arith, nat_tests)

-- the start of a list word
pub start_of_word : (start len : ℕ) → len < 4294967296 → start_in (list_word start len) ≡ start
start_of_word start len small = omega arith

pub word_some : (start len : ℕ) → list_word start len ≡ 0 → ⊥
word_some start len e = omega arith

-- the block of a number's list is counted
pub published_one : (words : List ℕ) (history : List Entry) (index count n : ℕ) → 0 < n → n ≤ count
    → covers_list (slice_index words (list_at n)) (listing_in history n) index ≤ published_with words history index count
published_one words history index zero n pos low = absurd (omega arith)
published_one words history index (suc count) n pos low = ⊎_elim
    (λ (h : n < suc count). omega (arith, published_one words history index count n pos (omega arith)))
    (λ (h : suc count ≤ n). let same : suc count ≡ n = omega arith in
    let here : covers_list (slice_index words (list_at (suc count))) (listing_in history (suc count)) index ≡ covers_list (slice_index words (list_at n)) (listing_in history n) index =
    ap (λ m. covers_list (slice_index words (list_at m)) (listing_in history m) index) same in omega arith)
    (cases_lt n (suc count))

-- the same list words and lists have the same blocks
pub published_same : (words words' : List ℕ) (history history' : List Entry) (index count : ℕ)
    → ((n : ℕ) → 0 < n → n ≤ count → covers_list (slice_index words' (list_at n)) (listing_in history' n) index ≡ covers_list (slice_index words (list_at n)) (listing_in history n) index)
    → published_with words' history' index count ≡ published_with words history index count
published_same words words' history history' index zero same = refl
published_same words words' history history' index (suc count) same =
    omega (arith, same (suc count) (omega arith) (omega arith), published_same words words' history history' index count (λ n pos low. same n pos (omega arith)))

-- one more number has a list
pub published_more : (words words' : List ℕ) (history history' : List Entry) (index count number extra : ℕ) → 0 < number → number ≤ count
    → covers_list (slice_index words' (list_at number)) (listing_in history' number) index ≡ covers_list (slice_index words (list_at number)) (listing_in history number) index + extra
    → ((n : ℕ) → 0 < n → n ≤ count → n ≢ number → covers_list (slice_index words' (list_at n)) (listing_in history' n) index ≡ covers_list (slice_index words (list_at n)) (listing_in history n) index)
    → published_with words' history' index count ≡ published_with words history index count + extra
published_more words words' history history' index zero number extra pos low here others = absurd (omega arith)
published_more words words' history history' index (suc count) number extra pos low here others = ⊎_elim
    (λ (h : number < suc count). omega (
      arith,
      others (suc count) (omega arith) (omega arith) (λ e. omega arith),
      published_more words words' history history' index count number extra pos (omega arith) here (λ n p l ne. others n p (omega arith) ne),
    ))
    (λ (h : suc count ≤ number).
    let same : number ≡ suc count = omega arith in
    let own = subst (λ m. covers_list (slice_index words' (list_at m)) (listing_in history' m) index ≡ covers_list (slice_index words (list_at m)) (listing_in history m) index + extra) same here in
    omega (arith, own, published_same words words' history history' index count (λ n p l. others n p (omega arith) (λ e. omega arith))))
    (cases_lt number (suc count))

-- a word of the entries, by its entry
pub flat_word : (ws : List EntryWords) (n : ℕ) → n < 3 * length ws → slice_index (get_or ws (n / 3) (record { 0 = [] })).0 (n % 3) ≡ slice_index (flat ws) n
flat_word [] n low = absurd (omega arith)
flat_word (e ∷ es) zero low = refl
flat_word (e ∷ es) (suc zero) low = refl
flat_word (e ∷ es) (suc (suc zero)) low = refl
flat_word (e ∷ es) (suc (suc (suc n))) low =
    let quotient : suc (suc (suc n)) / 3 ≡ suc (n / 3) = omega arith in
    let rest : suc (suc (suc n)) % 3 ≡ n % 3 = omega arith in
    ap (λ q. slice_index (get_or (e ∷ es) q (record { 0 = [] })).0 (suc (suc (suc n)) % 3)) quotient
    ∙ ap (λ r. slice_index (get_or es (n / 3) (record { 0 = [] })).0 r) rest ∙ flat_word es n (omega arith)
