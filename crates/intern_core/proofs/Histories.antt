-- What one more entry does to what is known, and to a legal history.
use Rattle.std.proofs.Common.{◌≡◌, ◌≢◌, ℕ, ◌+◌, ◌<◌, ◌==◌, Bool, true, false, ◌&&◌, List, [], ◌∷◌, ◌++◌, filter, refl, sym, ap, ◌∙◌, subst, append-nil, append_assoc, arith, Some, cond, ◌≤◌, Option, None}
use Rattle.std.proofs.lemmas.Bool.{eqb-true, eq-eqb, true≢false, and_parts, cond-true, cond-false, false_from_ne_true, ne_eqb}
use Rattle.intern_core.specs.declared.shape.Shape.{Shape}
use Rattle.intern_core.specs.declared.history.Key.{Key}
use Rattle.intern_core.specs.declared.history.Entry.{Entry}
use Rattle.intern_core.specs.History.{Known, known, known_after, learnt, number_in, is_same_key, uses, Meets, IsLegal, IsLegalAfter, with_key, Listing, listing, listing_in}
use Rattle.intern_core.specs.declared.history.EntryWords.{EntryWords}
use Rattle.intern_core.specs.Blocks.{taken_by}
use Rattle.intern_core.specs.Layout.{bucket_of}
use Rattle.intern_core.specs.Image.{in_bucket}
use Rattle.intern_core.specs.Kept.{AllOther}
use Rattle.intern_core.specs.declared.history.Reply.TheVariants.{Num}
use Rattle.intern_core.specs.declared.history.Entry.TheVariants as entry

pub known_after-append : (seen : List Known) (xs ys : List Entry) → known_after seen (xs ++ ys) ≡ known_after (known_after seen xs) ys
known_after-append seen [] ys = refl
known_after-append seen (x ∷ xs) ys = known_after-append (learnt seen x) xs ys

pub known_more : (xs : List Entry) (e : Entry) → known (xs ++ e ∷ []) ≡ learnt (known xs) e
known_more xs e = known_after-append [] xs (e ∷ [])

legal_after : (shape : Shape) (before xs : List Entry) (e : Entry) → IsLegalAfter shape before xs → Meets shape (before ++ xs) e
    → IsLegalAfter shape before (xs ++ e ∷ [])
legal_after shape before [] e legal meets = (subst (λ l. Meets shape l e) (append-nil before) meets, tt)
legal_after shape before (x ∷ xs) e legal meets =
    (legal.0, legal_after shape (before ++ x ∷ []) xs e legal.1 (subst (λ l. Meets shape l e) (sym (append_assoc before (x ∷ []) xs)) meets))

pub legal_more : (shape : Shape) (xs : List Entry) (e : Entry) → IsLegal shape xs → Meets shape xs e → IsLegal shape (xs ++ e ∷ [])
legal_more shape xs e legal meets = legal_after shape [] xs e legal meets

legal_front_after : (shape : Shape) (before xs ys : List Entry) → IsLegalAfter shape before (xs ++ ys) → IsLegalAfter shape before xs
legal_front_after shape before [] ys legal = tt
legal_front_after shape before (x ∷ xs) ys legal = (legal.0, legal_front_after shape (before ++ x ∷ []) xs ys legal.1)

-- each front of a legal history is legal
pub legal_front : (shape : Shape) (xs ys : List Entry) → IsLegal shape (xs ++ ys) → IsLegal shape xs
legal_front shape xs ys legal = legal_front_after shape [] xs ys legal

-- an entry that is no list changes no number's list
pub listing_more : (xs : List Entry) (e : Entry) (n : ℕ) → listing_in (e ∷ []) n ≡ None → listing_in (xs ++ e ∷ []) n ≡ listing_in xs n
listing_more [] e n none = none
listing_more (entry.Call p k a ∷ xs) e n none = listing_more xs e n none
listing_more (entry.Lost p m len ∷ xs) e n none = listing_more xs e n none
listing_more (entry.List p m ws ∷ xs) e n none = ap (λ o. cond (m == n) (Some (listing p ws)) o) (listing_more xs e n none)

pub uses-append : (n : ℕ) (xs ys : List Known) → uses n (xs ++ ys) ≡ uses n xs + uses n ys
uses-append n [] ys = omega arith
uses-append n (x ∷ xs) ys = omega (arith, uses-append n xs ys)

pub same_key-is : (a b : Key) → is_same_key a b ≡ true → a ≡ b
same_key-is a b same =
    let p = and_parts (a.one == b.one) (a.two == b.two) same in
    let one = eqb-true a.one b.one p.0 in
    let two = eqb-true a.two b.two p.1 in
    λ i. record { one = one i; two = two i }

pub same_key-self : (a b : Key) → a.one ≡ b.one → a.two ≡ b.two → is_same_key a b ≡ true
same_key-self a b one two = ap (λ t. t && (a.two == b.two)) (eq-eqb a.one b.one one) ∙ eq-eqb a.two b.two two

look_step : (key : Key) (x : Known) (fs xs : List Known) (t : Bool) → (is_same_key x.key key ≡ true → t ≡ true) → number_in fs key ≡ number_in xs key
    → number_in (cond t (x ∷ fs) fs) key ≡ number_in (x ∷ xs) key
look_step key x fs xs true h e = ap (λ r. cond (is_same_key x.key key) (Some x.number) r) e
look_step key x fs xs false h e =
    e ∙ sym (cond-false (is_same_key x.key key) (Some x.number) (number_in xs key) (false_from_ne_true (is_same_key x.key key) (λ s. true≢false (sym (h s)))))

look_filter : (key : Key) (p : Known → Bool) → ((x : Known) → is_same_key x.key key ≡ true → p x ≡ true) → (xs : List Known)
    → number_in (filter p xs) key ≡ number_in xs key
look_filter key p here [] = refl
look_filter key p here (x ∷ xs) = look_step key x (filter p xs) xs (p x) (here x) (look_filter key p here xs)

-- a key is looked up in its bucket alone
pub look_in_bucket : (shape : Shape) (key : Key) (seen : List Known) → number_in (in_bucket shape (bucket_of shape key) seen) key ≡ number_in seen key
look_in_bucket shape key seen =
    look_filter key (λ x. bucket_of shape x.key == bucket_of shape key)
    (λ x same. eq-eqb (bucket_of shape x.key) (bucket_of shape key) (ap (bucket_of shape) (same_key-is x.key key same)))
    seen

-- those with other keys don't matter
pub look_past : (key : Key) (ps qs : List Known) → AllOther key ps → number_in (ps ++ qs) key ≡ number_in qs key
look_past key [] qs others = refl
look_past key (x ∷ ps) qs others = cond-false (is_same_key x.key key) (Some x.number) (number_in (ps ++ qs) key) others.0 ∙ look_past key ps qs others.1

pub look_here : (key : Key) (x : Known) (xs : List Known) → is_same_key x.key key ≡ true → number_in (x ∷ xs) key ≡ Some x.number
look_here key x xs same = cond-true (is_same_key x.key key) (Some x.number) (number_in xs key) same

pub AllOther-append : (key : Key) (xs ys : List Known) → AllOther key xs → AllOther key ys → AllOther key (xs ++ ys)
AllOther-append key [] ys left right = right
AllOther-append key (x ∷ xs) ys left right = (left.0, AllOther-append key xs ys left.1 right)

-- what is known stays known
pub uses_learnt : (n : ℕ) (seen : List Known) (e : Entry) → uses n seen ≤ uses n (learnt seen e)
uses_learnt n seen (entry.Call p key (Num m)) = grown (number_in seen key) where
  grown : (o : Option ℕ) → uses n seen ≤ uses n (with_key seen key m o)
  grown (Some k) = omega arith
  grown None = omega (arith, uses-append n seen (record { number = m; key = key } ∷ []))
uses_learnt n seen other = omega arith

pub uses_after : (n : ℕ) (seen : List Known) (es : List Entry) → uses n seen ≤ uses n (known_after seen es)
uses_after n seen [] = omega arith
uses_after n seen (e ∷ es) = omega (arith, uses_learnt n seen e, uses_after n (learnt seen e) es)

-- a list that is published is its number's, and no other's
pub listing_new : (xs : List Entry) (p n : ℕ) (ws : List EntryWords) → listing_in xs n ≡ None → listing_in (xs ++ entry.List p n ws ∷ []) n ≡ Some (listing p ws)
listing_new [] p n ws none = cond-true (n == n) (Some (listing p ws)) None (eq-eqb n n refl)
listing_new (entry.Call q k a ∷ xs) p n ws none = listing_new xs p n ws none
listing_new (entry.Lost q m len ∷ xs) p n ws none = listing_new xs p n ws none
listing_new (entry.List q m vs ∷ xs) p n ws none = by (m == n) none (listing_new xs p n ws) where
  by : (t : Bool) → cond t (Some (listing q vs)) (listing_in xs n) ≡ None → (listing_in xs n ≡ None → listing_in (xs ++ entry.List p n ws ∷ []) n ≡ Some (listing p ws))
      → cond t (Some (listing q vs)) (listing_in (xs ++ entry.List p n ws ∷ []) n) ≡ Some (listing p ws)
  by true h rest = absurd cc
  by false h rest = rest h

pub listing_other : (xs : List Entry) (p n m : ℕ) (ws : List EntryWords) → n ≢ m → listing_in (xs ++ entry.List p n ws ∷ []) m ≡ listing_in xs m
listing_other xs p n m ws ne = listing_more xs (entry.List p n ws) m (cond-false (n == m) (Some (listing p ws)) None (ne_eqb n m ne))

pub taken-append : (xs ys : List Entry) → taken_by (xs ++ ys) ≡ taken_by xs + taken_by ys
taken-append [] ys = omega arith
taken-append (entry.Call q k a ∷ xs) ys = taken-append xs ys
taken-append (entry.Lost q m len ∷ xs) ys = omega (arith, taken-append xs ys)
taken-append (entry.List q m vs ∷ xs) ys = omega (arith, taken-append xs ys)

-- a published list's number is known
listing_known_after : (shape : Shape) (before xs : List Entry) → IsLegalAfter shape before xs → (n : ℕ) (l : Listing) → listing_in xs n ≡ Some l
    → 0 < uses n (known_after (known before) xs)
listing_known_after shape before [] legal n l h = absurd cc
listing_known_after shape before (e ∷ xs) legal n l h = by e refl h (λ rest. subst (λ seen. 0 < uses n (known_after seen xs)) (known_more before e) (listing_known_after shape (before ++ e ∷ []) xs legal.1 n l rest)) where
  by : (d : Entry) → e ≡ d → listing_in (d ∷ xs) n ≡ Some l → (listing_in xs n ≡ Some l → 0 < uses n (known_after (learnt (known before) e) xs))
      → 0 < uses n (known_after (learnt (known before) e) xs)
  by (entry.Call q k a) is h' rest = rest h'
  by (entry.Lost q m len) is h' rest = rest h'
  by (entry.List q m vs) is h' rest = test (m == n) refl h' where
    test : (t : Bool) → m == n ≡ t → cond t (Some (listing q vs)) (listing_in xs n) ≡ Some l → 0 < uses n (known_after (learnt (known before) e) xs)
    test false off h'' = rest h''
    test true on h'' =
        let same : m ≡ n = eqb-true m n on in
        let meets : Meets shape before (entry.List q m vs) = subst (Meets shape before) is legal.0 in
        let there : 0 < uses m (known before) = meets.1 in
        let now : 0 < uses n (known before) = subst (λ x. 0 < uses x (known before)) same there in
        omega (arith, uses_after n (known before) (e ∷ xs))

pub listing_known : (shape : Shape) (history : List Entry) → IsLegal shape history → (n : ℕ) (l : Listing) → listing_in history n ≡ Some l → 0 < uses n (known history)
listing_known shape history legal n l h = listing_known_after shape [] history legal n l h
