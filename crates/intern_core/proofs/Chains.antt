-- Chains and key words, where one word changes or one node is put at a chain's end.
use Rattle.std.proofs.Common.{◌≡◌, ◌≢◌, ℕ, zero, suc, ◌+◌, ◌<◌, ◌≤◌, ◌==◌, ◌⊎◌, ⊎_elim, Bool, true, false, cond, List, [], ◌∷◌, ◌++◌, length, filter, set, refl, sym, ◌∙◌, subst, arith, slice_index, ◌*◌, ◌%◌, ◌-◌, ◌^◌, ◌/◌, bit_xor, pow_pos, pow_mono, ap}
use Rattle.std.proofs.lemmas.List.{get_or-set_same, get_or-set_other}
use Rattle.std.proofs.lemmas.Bool.{eqb-true}
use Rattle.std.proofs.lemmas.Bool.Decides.{nat_tests}
use Rattle.std.proofs.lemmas.Nat.{mod_below, pow-add}
use Rattle.std.proofs.Math.Nat.{div-lt_iff_lt-mul}
use Rattle.intern_core.specs.declared.shape.Shape.{Shape}
use Rattle.intern_core.specs.declared.history.Key.{Key}
use Rattle.intern_core.specs.Layout.{one_at, two_at, next_at, list_at, link_at, bucket_with, bucket_of}
use Rattle.intern_core.specs.History.{Known, one_if, uses}
use Rattle.intern_core.specs.Image.{in_bucket, IsChain, HaveKeys}
use Rattle.intern_core.specs.Kept.{last_of}

module _ (shape : Shape) (words : List ℕ) (bucket : ℕ) where
  -- what a walk that has passed some nodes has still to pass
  pub chain_after : (from : ℕ) (ps rest : List Known) → IsChain shape words bucket from (ps ++ rest) → IsChain shape words bucket (last_of from ps) rest
  chain_after from [] rest c = c
  chain_after from (x ∷ ps) rest c = chain_after x.number ps rest c.1

  -- a word that is no link of the chain
  pub chain_same : (place v from : ℕ) (xs : List Known) → place ≢ link_at shape bucket from → ((n : ℕ) → 0 < uses n xs → place ≢ link_at shape bucket n)
      → IsChain shape words bucket from xs → IsChain shape (set words place v) bucket from xs
  chain_same place v from [] ne apart c = get_or-set_other words place (link_at shape bucket from) v 0 (λ e. ne (sym e)) ∙ c
  chain_same place v from (x ∷ xs) ne apart c =
      let here : 0 < uses x.number (x ∷ xs) = grind (arith, nat_tests) in (
        get_or-set_other words place (link_at shape bucket from) v 0 (λ e. ne (sym e)) ∙ c.0,
        chain_same place v x.number xs (apart x.number here) (λ n h. apart n (omega arith)) c.1,
      )

pub last_in : (x : Known) (xs : List Known) → 0 < uses (last_of x.number xs) (x ∷ xs)
last_in x [] = grind (arith, nat_tests)
last_in x (y ∷ xs) = let h = last_in y xs in omega arith

pub last_of-append : (from : ℕ) (xs : List Known) (x : Known) → last_of from (xs ++ x ∷ []) ≡ x.number
last_of-append from [] x = refl
last_of-append from (y ∷ xs) x = last_of-append y.number xs x

-- links of a bucket are different
pub links_apart : (shape : Shape) (bucket n m : ℕ) → n ≤ shape.nodes → m ≤ shape.nodes → n ≢ m → link_at shape bucket n ≢ link_at shape bucket m
links_apart shape bucket zero zero small low ne e = ne refl
links_apart shape bucket zero (suc m) small low ne e = omega arith
links_apart shape bucket (suc n) zero small low ne e = omega arith
links_apart shape bucket (suc n) (suc m) small low ne e = ne (omega arith)

-- links of two buckets are different, but for one from a node of both
pub links_of_two : (shape : Shape) (b c n m : ℕ) → b ≢ c → n ≤ shape.nodes → m ≤ shape.nodes → (0 < n → n ≢ m) → link_at shape b n ≢ link_at shape c m
links_of_two shape b c zero zero ne small low apart e = ne (omega arith)
links_of_two shape b c zero (suc m) ne small low apart e = omega arith
links_of_two shape b c (suc n) zero ne small low apart e = omega arith
links_of_two shape b c (suc n) (suc m) ne small low apart e = apart (omega arith) (omega arith)

-- the chain with one node more, whose number was put into its last link
pub chain_grows : (shape : Shape) (words : List ℕ) (bucket from : ℕ) (xs : List Known) (y : Known)
    → ((n : ℕ) → link_at shape bucket n < length words ⊎ shape.nodes < n)
    → from ≤ shape.nodes → y.number ≤ shape.nodes → y.number ≢ from → uses y.number xs ≡ 0 → uses from xs ≡ 0
    → ((n : ℕ) → uses n xs ≤ 1) → ((n : ℕ) → 0 < uses n xs → n ≤ shape.nodes)
    → slice_index words (link_at shape bucket y.number) ≡ 0
    → IsChain shape words bucket from xs → IsChain shape (set words (link_at shape bucket (last_of from xs)) y.number) bucket from (xs ++ y ∷ [])
chain_grows shape words bucket from [] y within low small ne new alone once known empty c =
    let there : link_at shape bucket from < length words = ⊎_elim (λ h. h) (λ h. absurd (omega arith)) (within from) in (
      get_or-set_same words (link_at shape bucket from) y.number 0 there,
      get_or-set_other words (link_at shape bucket from) (link_at shape bucket y.number) y.number 0 (links_apart shape bucket y.number from small low ne) ∙ empty,
    )
chain_grows shape words bucket from (x ∷ xs) y within low small ne new alone once known empty c =
    let last = last_of x.number xs in
    let in_it = last_in x xs in
    let here : 0 < uses x.number (x ∷ xs) = grind (arith, nat_tests) in
    let apart : from ≢ last = (λ e. let h : 0 < uses from (x ∷ xs) = subst (λ n. 0 < uses n (x ∷ xs)) (sym e) in_it in omega arith) in
    let first_is : one_if (x.number == x.number) ≡ 1 = grind (arith, nat_tests) in
    let rest_alone : uses x.number xs ≡ 0 = let h = once x.number in omega arith in
    let other : y.number ≢ x.number = (λ e. let h : 0 < uses y.number (x ∷ xs) = subst (λ n. 0 < uses n (x ∷ xs)) (sym e) here in omega arith) in (
      get_or-set_other words (link_at shape bucket last) (link_at shape bucket from) y.number 0 (links_apart shape bucket from last low (known last in_it) apart) ∙ c.0,
      chain_grows shape words bucket x.number xs y within (known x.number here) small other (omega arith) rest_alone
          (λ n. let h = once n in omega arith) (λ n h. known n (omega arith)) empty c.1,
    )

pub keys_same : (words : List ℕ) (place v : ℕ) (xs : List Known)
    → ((n : ℕ) → 0 < uses n xs → (one_at n ≢ place) × (two_at n ≢ place))
    → HaveKeys words xs → HaveKeys (set words place v) xs
keys_same words place v [] apart keys = tt
keys_same words place v (x ∷ xs) apart keys =
    let here : 0 < uses x.number (x ∷ xs) = grind (arith, nat_tests) in
    let a = apart x.number here in (
      get_or-set_other words place (one_at x.number) v 0 a.0 ∙ keys.0,
      get_or-set_other words place (two_at x.number) v 0 a.1 ∙ keys.1,
      keys_same words place v xs (λ n h. apart n (omega arith)) keys.2,
    )

pub keys_more : (words : List ℕ) (xs ys : List Known) → HaveKeys words xs → HaveKeys words ys → HaveKeys words (xs ++ ys)
keys_more words [] ys left right = right
keys_more words (x ∷ xs) ys left right = (left.0, left.1, keys_more words xs ys left.2 right)

keys_step : (words : List ℕ) (t : Bool) (x : Known) (xs : List Known) → HaveKeys words (x ∷ []) → HaveKeys words xs → HaveKeys words (cond t (x ∷ xs) xs)
keys_step words true x xs here keys = (here.0, here.1, keys)
keys_step words false x xs here keys = keys

pub keys_filter : (words : List ℕ) (p : Known → Bool) (xs : List Known) → HaveKeys words xs → HaveKeys words (filter p xs)
keys_filter words p [] keys = tt
keys_filter words p (x ∷ xs) keys = keys_step words (p x) x (filter p xs) (keys.0, keys.1, tt) (keys_filter words p xs keys.2)

pub keys_at : (words : List ℕ) (ps : List Known) (x : Known) (rest : List Known) → HaveKeys words (ps ++ x ∷ rest) → HaveKeys words (x ∷ [])
keys_at words [] x rest keys = (keys.0, keys.1, tt)
keys_at words (y ∷ ps) x rest keys = keys_at words ps x rest keys.2

filter_step : (n : ℕ) (t : Bool) (x : Known) (xs ys : List Known) → uses n xs ≤ uses n ys → uses n (cond t (x ∷ xs) xs) ≤ uses n (x ∷ ys)
filter_step n true x xs ys h = omega arith
filter_step n false x xs ys h = omega arith

pub uses_filter : (n : ℕ) (p : Known → Bool) (xs : List Known) → uses n (filter p xs) ≤ uses n xs
uses_filter n p [] = omega arith
uses_filter n p (x ∷ xs) = filter_step n (p x) x (filter p xs) xs (uses_filter n p xs)

both_step : (n : ℕ) (s t : Bool) (x : Known) (xs ys zs : List Known) → (s ≡ true → t ≡ true → ⊥) → uses n xs + uses n ys ≤ uses n zs
    → uses n (cond s (x ∷ xs) xs) + uses n (cond t (x ∷ ys) ys) ≤ uses n (x ∷ zs)
both_step n true true x xs ys zs not_both h = absurd (not_both refl refl)
both_step n true false x xs ys zs not_both h = omega arith
both_step n false true x xs ys zs not_both h = omega arith
both_step n false false x xs ys zs not_both h = omega arith

-- a number is in one bucket
pub uses_of_two : (shape : Shape) (n b c : ℕ) → b ≢ c → (xs : List Known) → uses n (in_bucket shape b xs) + uses n (in_bucket shape c xs) ≤ uses n xs
uses_of_two shape n b c ne [] = omega arith
uses_of_two shape n b c ne (x ∷ xs) =
    both_step n (bucket_of shape x.key == b) (bucket_of shape x.key == c) x (in_bucket shape b xs) (in_bucket shape c xs) xs
    (λ p q. ne (sym (eqb-true (bucket_of shape x.key) b p) ∙ eqb-true (bucket_of shape x.key) c q))
    (uses_of_two shape n b c ne xs)

with_small : (key : Key) (bits : ℕ) → bits ≤ 20 → bucket_with key bits < 2 ^ bits
unfolding bucket_with
with_small key zero h = omega arith
with_small key (suc bits) h =
    let x : ℕ = bit_xor key.one (key.two * 11400714819323198485 % 2 ^ 64) * 11400714819323198485 in
    let sum : 64 ≡ suc bits + (63 - bits) = omega arith in
    let whole : 2 ^ 64 ≡ 2 ^ suc bits * 2 ^ (63 - bits) = ap (λ (n : ℕ). 2 ^ n) sum ∙ pow-add 2 (suc bits) (63 - bits) in
    let pos : 0 < 2 ^ (63 - bits) = pow_pos (63 - bits) in
    let below : x % 2 ^ 64 < 2 ^ 64 = mod_below x (2 ^ 64) (omega arith) in
    (div-lt_iff_lt-mul pos).1 (subst (λ n. x % 2 ^ 64 < n) whole below)

pub with_none : (key : Key) (bits : ℕ) → bits ≡ 0 → 0 ≡ bucket_with key bits
unfolding bucket_with
with_none key zero h = refl
with_none key (suc bits) h = absurd (omega arith)

pub with_some : (key : Key) (bits : ℕ) → bits ≢ 0
    → (bit_xor key.one (key.two * 11400714819323198485 % 2 ^ 64) * 11400714819323198485 % 2 ^ 64) / 2 ^ (64 - bits) ≡ bucket_with key bits
unfolding bucket_with
with_some key zero h = absurd (h refl)
with_some key (suc bits) h =
    let same : 64 - suc bits ≡ 63 - bits = omega arith in
    ap (λ (n : ℕ). (bit_xor key.one (key.two * 11400714819323198485 % 2 ^ 64) * 11400714819323198485 % 2 ^ 64) / 2 ^ n) same

pub with_fits : (key : Key) (bits : ℕ) → bits ≤ 20 → bucket_with key bits ≤ 1048576
with_fits key bits h =
    let low = with_small key bits h in
    let top : 2 ^ bits ≤ 2 ^ 20 = pow_mono h in
    omega arith

pub bucket_small : (shape : Shape) (key : Key) → shape.bucket_bits ≤ 20 → bucket_of shape key < 2 ^ shape.bucket_bits
bucket_small shape key h = with_small key shape.bucket_bits h

pub keys_off_links : (shape : Shape) (b n m : ℕ) → m ≤ shape.nodes → (one_at m ≢ link_at shape b n) × (two_at m ≢ link_at shape b n) × (list_at m ≢ link_at shape b n)
keys_off_links shape b zero m h = ((λ e. omega arith), (λ e. omega arith), (λ e. omega arith))
keys_off_links shape b (suc n) m h = ((λ e. omega arith), (λ e. omega arith), (λ e. omega arith))

pub claim_off_links : (shape : Shape) (b n : ℕ) → 0 ≢ link_at shape b n
claim_off_links shape b zero e = omega arith
claim_off_links shape b (suc n) e = omega arith

pub next_off_links : (shape : Shape) (b n m : ℕ) → m ≤ shape.nodes → 0 < m → n ≢ m → next_at m ≢ link_at shape b n
next_off_links shape b zero m h pos ne e = omega arith
next_off_links shape b (suc n) m h pos ne e = ne (omega arith)

pub link_within : (shape : Shape) (b n : ℕ) → b < 2 ^ shape.bucket_bits → n ≤ shape.nodes
    → link_at shape b n < 4 * shape.nodes + 4 + 2 ^ shape.bucket_bits + 3 * shape.entries
link_within shape b zero low small = omega arith
link_within shape b (suc n) low small = omega arith

-- the link from a node is the same word, whatever the bucket
pub spare_link : (shape : Shape) (b : ℕ) (words : List ℕ) (n : ℕ) → 0 < n → slice_index words (next_at n) ≡ 0 → slice_index words (link_at shape b n) ≡ 0
spare_link shape b words zero pos e = absurd (omega arith)
spare_link shape b words (suc n) pos e = e

module _ {X : Type 0} (p : X → Bool) where
  shorter : (t : Bool) (x : X) (fs ys : List X) → length fs ≤ length ys → length (cond t (x ∷ fs) fs) ≤ length (x ∷ ys)
  shorter true x fs ys h = omega arith
  shorter false x fs ys h = omega arith

  pub length_filter : (xs : List X) → length (filter p xs) ≤ length xs
  length_filter [] = omega arith
  length_filter (x ∷ xs) = shorter (p x) x (filter p xs) xs (length_filter xs)
