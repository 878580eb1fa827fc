-- Two keys of a history are equal exactly where their numbers are.
use Rattle.std.proofs.Common.{◌≡◌, ℕ, zero, suc, ◌<◌, ◌≤◌, ◌==◌, Bool, true, false, cond, List, [], ◌∷◌, ◌++◌, refl, sym, ap, ◌∙◌, subst, arith, Option, None, Some, slice_get}
use Rattle.std.proofs.lemmas.Bool.{eq-eqb, cond-true}
use Rattle.intern_core.specs.declared.shape.Shape.{Shape}
use Rattle.intern_core.specs.declared.history.Key.{Key}
use Rattle.intern_core.specs.declared.history.Entry.{Entry}
use Rattle.intern_core.specs.declared.history.Entry.TheVariants as entry
use Rattle.intern_core.specs.declared.history.Reply.TheVariants.{Num, Full}
use Rattle.intern_core.specs.History.{Known, known, known_after, learnt, with_key, number_in, is_same_key, uses, one_if, Meets, MayAnswer, IsLegal, IsLegalAfter, HasOneNumberPerKey}
use Rattle.intern_core.proofs.Histories.{known_more, same_key-is, same_key-self}

-- a key that has a number keeps it
look_front : (xs ys : List Known) (key : Key) (n : ℕ) → number_in xs key ≡ Some n → number_in (xs ++ ys) key ≡ Some n
look_front [] ys key n h = absurd cc
look_front (x ∷ xs) ys key n h = by (is_same_key x.key key) h (look_front xs ys key n) where
  by : (t : Bool) → cond t (Some x.number) (number_in xs key) ≡ Some n → (number_in xs key ≡ Some n → number_in (xs ++ ys) key ≡ Some n)
      → cond t (Some x.number) (number_in (xs ++ ys) key) ≡ Some n
  by true h rest = h
  by false h rest = rest h

number_stays : (seen : List Known) (e : Entry) (key : Key) (n : ℕ) → number_in seen key ≡ Some n → number_in (learnt seen e) key ≡ Some n
number_stays seen (entry.Call p k (Num m)) key n h = by (number_in seen k) where
  by : (o : Option ℕ) → number_in (with_key seen k m o) key ≡ Some n
  by (Some j) = h
  by None = look_front seen (record { number = m; key = k } ∷ []) key n h
number_stays seen (entry.Call p k Full) key n h = h
number_stays seen (entry.List p m ws) key n h = h
number_stays seen (entry.Lost p m len) key n h = h

number_after : (seen : List Known) (es : List Entry) (key : Key) (n : ℕ) → number_in seen key ≡ Some n → number_in (known_after seen es) key ≡ Some n
number_after seen [] key n h = h
number_after seen (e ∷ es) key n h = number_after (learnt seen e) es key n (number_stays seen e key n h)

look_new : (seen : List Known) (key : Key) (n : ℕ) → number_in seen key ≡ None → number_in (seen ++ record { number = n; key = key } ∷ []) key ≡ Some n
look_new [] key n h = cond-true (is_same_key key key) (Some n) None (same_key-self key key refl refl)
look_new (x ∷ xs) key n h = by (is_same_key x.key key) h (look_new xs key n) where
  by : (t : Bool) → cond t (Some x.number) (number_in xs key) ≡ None → (number_in xs key ≡ None → number_in (xs ++ record { number = n; key = key } ∷ []) key ≡ Some n)
      → cond t (Some x.number) (number_in (xs ++ record { number = n; key = key } ∷ []) key) ≡ Some n
  by true h rest = absurd cc
  by false h rest = rest h

-- a key that is answered a number has it from then on
answered_now : (shape : Shape) (seen : List Known) (p : ℕ) (key : Key) (n : ℕ) → MayAnswer shape seen (number_in seen key) (Num n)
    → number_in (learnt seen (entry.Call p key (Num n))) key ≡ Some n
answered_now shape seen p key n may = by (number_in seen key) refl may where
  by : (o : Option ℕ) → number_in seen key ≡ o → MayAnswer shape seen o (Num n) → number_in (with_key seen key n o) key ≡ Some n
  by (Some m) e h = let same : n ≡ m = cc in e ∙ ap Some (sym same)
  by None e h = look_new seen key n e

answered_after : (shape : Shape) (before xs : List Entry) → IsLegalAfter shape before xs → (i p : ℕ) (key : Key) (n : ℕ)
    → slice_get xs i ≡ Some (entry.Call p key (Num n)) → number_in (known_after (known before) xs) key ≡ Some n
answered_after shape before [] legal i p key n at = absurd cc
answered_after shape before (e ∷ xs) legal zero p key n at =
    let same : e ≡ entry.Call p key (Num n) = cc in
    let may : (p < shape.passes) × MayAnswer shape (known before) (number_in (known before) key) (Num n) = subst (Meets shape before) same legal.0 in
    number_after (learnt (known before) e) xs key n
    (subst (λ x. number_in (learnt (known before) x) key ≡ Some n) (sym same) (answered_now shape (known before) p key n may.1))
answered_after shape before (e ∷ xs) legal (suc i) p key n at =
    subst (λ l. number_in (known_after l xs) key ≡ Some n) (known_more before e) (answered_after shape (before ++ e ∷ []) xs legal.1 i p key n at)

number_used : (xs : List Known) (key : Key) (n : ℕ) → number_in xs key ≡ Some n → 1 ≤ uses n xs
number_used [] key n h = absurd cc
number_used (x ∷ xs) key n h = by (is_same_key x.key key) h (number_used xs key n) where
  by : (t : Bool) → cond t (Some x.number) (number_in xs key) ≡ Some n → (number_in xs key ≡ Some n → 1 ≤ uses n xs) → 1 ≤ uses n (x ∷ xs)
  by true h rest = let e : x.number ≡ n = cc in let one : one_if (x.number == n) ≡ 1 = ap one_if (eq-eqb x.number n e) in omega arith
  by false h rest = omega (arith, rest h)

-- a number that is known once has one key
one_key : (xs : List Known) (a b : Key) (n : ℕ) → uses n xs ≤ 1 → number_in xs a ≡ Some n → number_in xs b ≡ Some n → a ≡ b
one_key [] a b n once g h = absurd cc
one_key (x ∷ xs) a b n once g h = by (is_same_key x.key a) (is_same_key x.key b) refl refl g h (one_key xs a b n) where
  here : cond true (Some x.number) None ≡ Some n → one_if (x.number == n) ≡ 1
  here e = let same : x.number ≡ n = cc in ap one_if (eq-eqb x.number n same)

  by : (s t : Bool) → is_same_key x.key a ≡ s → is_same_key x.key b ≡ t → cond s (Some x.number) (number_in xs a) ≡ Some n → cond t (Some x.number) (number_in xs b) ≡ Some n
      → (uses n xs ≤ 1 → number_in xs a ≡ Some n → number_in xs b ≡ Some n → a ≡ b) → a ≡ b
  by true true c d e f rest = sym (same_key-is x.key a c) ∙ same_key-is x.key b d
  by true false c d e f rest = absurd (let one = here e in let used = number_used xs b n f in omega arith)
  by false true c d e f rest = absurd (let one = here f in let used = number_used xs a n e in omega arith)
  by false false c d e f rest = rest (omega arith) e f

pub one_number_per_key : (shape : Shape) (history : List Entry) → IsLegal shape history → ((n : ℕ) → uses n (known history) ≤ 1) → HasOneNumberPerKey history
one_number_per_key shape history legal once i j p q a b n m at there =
    let first = answered_after shape [] history legal i p a n at in
    let second = answered_after shape [] history legal j q b m there in (
      (λ same. let e : Some n ≡ Some m = sym first ∙ ap (λ x. number_in (known history) x) same ∙ second in cc),
      (λ same. one_key (known history) a b n (once n) first (second ∙ ap Some (sym same))),
    )
