-- Runs of bytes of one kind, in front of a list.
use Rattle.std.proofs.Common.{◌≡◌, ℕ, suc, ◌+◌, ◌<◌, ◌≤◌, ◌==◌, Bool, true, false, ◌||◌, List, [], ◌∷◌, ◌++◌, length, take, drop, Some, None, refl, sym, ap, ◌∙◌, arith}
use Rattle.std.specs.List.{list_all, prefix_len, slice_get}
use Rattle.std.proofs.lemmas.Bool.Decides.{nat_tests}
use Rattle.std.proofs.lemmas.List.{length-take-le}
use Rattle.pepa_lexer.specs.Bytes.{is_letter, is_capital, is_word_byte, is_digit, begins}
use Rattle.pepa_lexer.specs.Lexemes.{IsWord, AreDigits}

take-one-more : (byte : ℕ) (text : List ℕ) (n : ℕ) → take (1 + n) (byte ∷ text) ≡ byte ∷ take n text
take-one-more byte text n = let e : 1 + n ≡ suc n = omega arith in rw e refl

drop-one-more : (byte : ℕ) (text : List ℕ) (n : ℕ) → drop (1 + n) (byte ∷ text) ≡ drop n text
drop-one-more byte text n = let e : 1 + n ≡ suc n = omega arith in rw e refl

-- the bytes are those of a kind, and what stands behind them
pub record IsRun (is_kind : ℕ → Bool) (text front rest : List ℕ) : Type 0 where
  pub whole : text ≡ front ++ rest
  pub all : list_all is_kind front ≡ true
  pub stops : begins is_kind rest ≡ false

pub run_is : (is_kind : ℕ → Bool) (text : List ℕ) → IsRun is_kind text (take (prefix_len is_kind text) text) (drop (prefix_len is_kind text) text)
run_is is_kind [] = record { whole = refl; all = refl; stops = refl }
run_is is_kind (byte ∷ text) = after (is_kind byte) refl (run_is is_kind text)
  where
    after : (b : Bool) → is_kind byte ≡ b → IsRun is_kind text (take (prefix_len is_kind text) text) (drop (prefix_len is_kind text) text) → IsRun is_kind (byte ∷ text) (take (prefix_len is_kind (byte ∷ text)) (byte ∷ text)) (drop (prefix_len is_kind (byte ∷ text)) (byte ∷ text))
    after true h run = rw (h, take-one-more byte text (prefix_len is_kind text), drop-one-more byte text (prefix_len is_kind text)) (record { whole = ap (λ (x : List ℕ). byte ∷ x) run.whole; all = rw h run.all; stops = run.stops })
    after false h run = rw h (record { whole = refl; all = refl; stops = h })

-- the same of what a split gave
pub run_of : (is_kind : ℕ → Bool) (text front rest : List ℕ) (n : ℕ) → n ≡ prefix_len is_kind text → front ≡ take n text → rest ≡ drop n text → IsRun is_kind text front rest
run_of is_kind text front rest n len f r = rw (f, r, len) (run_is is_kind text)

pub begins_front : (is_kind : ℕ → Bool) (front rest : List ℕ) → 0 < length front → begins is_kind (front ++ rest) ≡ begins is_kind front
begins_front is_kind [] rest some = absurd (omega arith)
begins_front is_kind (byte ∷ front) rest some = refl

-- a run is not empty where the text begins with one of its kind
pub run_some : (is_kind : ℕ → Bool) (text front rest : List ℕ) → IsRun is_kind text front rest → begins is_kind text ≡ true → 0 < length front
run_some is_kind text [] rest run h = let e : begins is_kind rest ≡ true = rw run.whole at h in let f = run.stops in absurd cc
run_some is_kind text (byte ∷ front) rest run h = omega arith

pub all_begins : (is_kind : ℕ → Bool) (bytes : List ℕ) → list_all is_kind bytes ≡ true → 0 < length bytes → begins is_kind bytes ≡ true
all_begins is_kind [] all some = absurd (omega arith)
all_begins is_kind (byte ∷ bytes) all some = after (is_kind byte) refl all
  where
    after : (b : Bool) → is_kind byte ≡ b → list_all is_kind (byte ∷ bytes) ≡ true → is_kind byte ≡ true
    after true h all = h
    after false h all = let e : false ≡ true = rw h at all in absurd cc

pub begins_either : (first second : ℕ → Bool) (bytes : List ℕ) → begins first bytes ≡ false → begins second bytes ≡ false → begins (λ byte. first byte || second byte) bytes ≡ false
begins_either first second [] h k = refl
begins_either first second (byte ∷ bytes) h k = rw (h, k) refl

pub same_byte : (byte code : ℕ) → (byte == code) ≡ true → byte ≡ code
same_byte byte code h = grind (arith, nat_tests)

-- the byte that a text begins with
pub begins_byte : (code : ℕ) (text rest : List ℕ) → begins (λ byte. byte == code) text ≡ true → rest ≡ drop 1 text → text ≡ code ∷ rest
begins_byte code [] rest h e = absurd cc
begins_byte code (byte ∷ text) rest h e = let same = same_byte byte code h in rw (same, e) refl

letter_is_word_byte : (text : List ℕ) → begins is_letter text ≡ true → begins is_word_byte text ≡ true
letter_is_word_byte [] h = absurd cc
letter_is_word_byte (byte ∷ text) h = word (is_letter byte) _ _ h
  where
    word : (a b c : Bool) → a ≡ true → ((a || b) || c) ≡ true
    word a b c h = rw h refl

-- the name that a text begins with
pub record IsNameRun (text : List ℕ) (n : ℕ) : Type 0 where
  pub whole : text ≡ take n text ++ drop n text
  pub word : IsWord (take n text)
  pub stops : begins is_word_byte (drop n text) ≡ false
  pub len : n ≤ length text → length (take n text) ≡ n
  pub capital : begins is_capital (take n text) ≡ begins is_capital text

pub name_run : (text : List ℕ) (n : ℕ) → begins is_letter text ≡ true → n ≡ prefix_len is_word_byte text → IsNameRun text n
name_run text n h len =
    let run = run_of is_word_byte text (take n text) (drop n text) n len refl refl in
    let some = run_some is_word_byte text (take n text) (drop n text) run (letter_is_word_byte text h) in
    let letter : begins is_letter (take n text) ≡ true = sym (begins_front is_letter (take n text) (drop n text) some) ∙ ap (begins is_letter) (sym run.whole) ∙ h in
    record {
      whole = run.whole;
      word = (letter, run.all);
      stops = run.stops;
      len = λ within. length-take-le n text within;
      capital = sym (begins_front is_capital (take n text) (drop n text) some) ∙ ap (begins is_capital) (sym run.whole);
    }

-- the digits that a text begins with
pub digits_are : (text digits rest : List ℕ) → IsRun is_digit text digits rest → begins is_digit text ≡ true → AreDigits digits
digits_are text digits rest run h = (all_begins is_digit digits run.all (run_some is_digit text digits rest run h), run.all)

-- what an empty list's length says, and another's
pub none_left : (n : ℕ) → (n == 0) ≡ true → n ≡ 0
none_left n h = same_byte n 0 h

pub some_left : (n : ℕ) → (n == 0) ≡ false → 0 < n
some_left n h = grind (arith, nat_tests)

pub first_is : (text : List ℕ) (byte : ℕ) → Some byte ≡ slice_get text 0 → text ≡ byte ∷ drop 1 text
first_is [] byte e = absurd cc
first_is (first ∷ text) byte e = let same : first ≡ byte = cc in rw same refl

pub first_none : (text : List ℕ) → None ≡ slice_get text 0 → text ≡ []
first_none [] e = refl
first_none (first ∷ text) e = absurd cc
