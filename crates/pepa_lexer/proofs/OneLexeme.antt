-- A text has one first lexeme, or one cause why it has none.
use Rattle.std.proofs.Common.{◌≡◌, ℕ, suc, ◌+◌, ◌<◌, ◌≤◌, ◌==◌, Bool, true, false, not, ◌&&◌, ◌||◌, List, [], ◌∷◌, ◌++◌, length, refl, sym, ap, subst, ◌∙◌, arith, inl, inr, append_assoc}
use Rattle.std.specs.List.{list_all}
use Rattle.std.proofs.lemmas.List.{append_cancel_left}
use Rattle.pepa_lexer.specs.Bytes.{is_digit, is_letter, is_word_byte, is_line_feed, begins}
use Rattle.pepa_lexer.specs.Signs.{sign_bytes}
use Rattle.pepa_lexer.specs.Lexemes.{Lexeme, Blank, LineComment, BlockComment, Word, Whole, Pointed, Mark, spelled, IsLexeme, EndsBefore, IsOpen}
use Rattle.pepa_lexer.specs.Faults.{BeginsNothing, BeginsBadNumber, BeginsLongName, BeginsOpenComment, Refuses}
use Rattle.pepa_lexer.specs.declared.kinds.Place.{Place}
use Rattle.pepa_lexer.specs.declared.kinds.LexFault.{LexFault}
use Rattle.pepa_lexer.specs.declared.kinds.LexFault.TheVariants.{BadByte, BadNumber, LongName, OpenComment, Memory}
use Rattle.pepa_lexer.specs.declared.kinds.Sign.{Sign}
use Rattle.pepa_lexer.specs.declared.kinds.Sign.TheVariants.{Slash}
use Rattle.pepa_lexer.proofs.Runs.{begins_front, same_byte}
use Rattle.pepa_lexer.proofs.Classes.{class, first_sign, first_sign_is, class-sign, class-line, class-block, class-space, class-letter, class-digit, class-other, class-nil}

pub record IsFirst (bytes : List ℕ) (lexeme : Lexeme) (rest : List ℕ) : Type 0 where
  pub whole : bytes ≡ spelled lexeme ++ rest
  pub form : IsLexeme lexeme
  pub ends : EndsBefore lexeme rest

-- ---- runs

both : (a b : Bool) → (a && b) ≡ true → (a ≡ true) × (b ≡ true)
both true true e = (refl, refl)
both true false e = absurd cc
both false b e = absurd cc

-- two runs of one kind in front of the same bytes
one_run : (is_kind : ℕ → Bool) (front other rest left : List ℕ) → list_all is_kind front ≡ true → list_all is_kind other ≡ true → begins is_kind rest ≡ false → begins is_kind left ≡ false → front ++ rest ≡ other ++ left → (front ≡ other) × (rest ≡ left)
one_run is_kind [] [] rest left all also ends stops e = (refl, e)
one_run is_kind [] (byte ∷ other) rest left all also ends stops e =
    let h = (both (is_kind byte) (list_all is_kind other) also).0 in
    let k : begins is_kind rest ≡ is_kind byte = ap (begins is_kind) e in
    absurd cc
one_run is_kind (byte ∷ front) [] rest left all also ends stops e =
    let h = (both (is_kind byte) (list_all is_kind front) all).0 in
    let k : is_kind byte ≡ begins is_kind left = ap (begins is_kind) e in
    absurd cc
one_run is_kind (byte ∷ front) (same ∷ other) rest left all also ends stops e =
    let first : byte ≡ same = cc in
    let more : front ++ rest ≡ other ++ left = cc in
    let inner = one_run is_kind front other rest left (both (is_kind byte) (list_all is_kind front) all).1 (both (is_kind same) (list_all is_kind other) also).1 ends stops more in
    (cc, inner.1)

-- a run that stops is no shorter than what is all of its kind
longest_run : (is_kind : ℕ → Bool) (front other rest left : List ℕ) → list_all is_kind other ≡ true → begins is_kind rest ≡ false → front ++ rest ≡ other ++ left → length other ≤ length front
longest_run is_kind front [] rest left also ends e = omega arith
longest_run is_kind [] (byte ∷ other) rest left also ends e =
    let h = (both (is_kind byte) (list_all is_kind other) also).0 in
    let k : begins is_kind rest ≡ is_kind byte = ap (begins is_kind) e in
    absurd cc
longest_run is_kind (byte ∷ front) (same ∷ other) rest left also ends e =
    let more : front ++ rest ≡ other ++ left = cc in
    let inner = longest_run is_kind front other rest left (both (is_kind same) (list_all is_kind other) also).1 ends more in
    omega arith

-- ---- what ends a number

either_of : (a b : Bool) → (a || b) ≡ false → (a ≡ false) × (b ≡ false)
either_of true b e = absurd cc
either_of false true e = absurd cc
either_of false false e = (refl, refl)

word_part : (is_kind : ℕ → Bool) (rest : List ℕ) → begins (λ byte. is_word_byte byte || is_kind byte) rest ≡ false → (begins is_word_byte rest ≡ false) × (begins is_kind rest ≡ false)
word_part is_kind [] h = (refl, refl)
word_part is_kind (byte ∷ rest) h = either_of (is_word_byte byte) (is_kind byte) h

no_word_no_digit : (rest : List ℕ) → begins is_word_byte rest ≡ false → begins is_digit rest ≡ false
no_word_no_digit [] h = refl
no_word_no_digit (byte ∷ rest) h = (either_of (is_letter byte) (is_digit byte) (either_of (is_letter byte || is_digit byte) (byte == 95) h).0).1

whole_ends : (rest : List ℕ) → begins (λ byte. is_word_byte byte || byte == 46) rest ≡ false → begins is_digit rest ≡ false
whole_ends rest h = no_word_no_digit rest (word_part (λ byte. byte == 46) rest h).0

-- ---- the first `*/`

open_behind : (byte : ℕ) (bytes : List ℕ) → IsOpen (byte ∷ bytes) → IsOpen bytes
open_behind byte bytes closed at close = let e : suc at + 1 ≡ suc (at + 1) = omega arith in closed (suc at) (close.0, rw e close.1)

not_empty : (byte : ℕ) (other rest left : List ℕ) → IsOpen (byte ∷ other) → 42 ∷ 47 ∷ rest ≡ byte ∷ (other ++ (42 ∷ 47 ∷ left)) → ⊥
not_empty byte [] rest left closed e = let bad : ◌≡◌ {A = ℕ} 47 42 = cc in absurd (omega arith)
not_empty byte (next ∷ other) rest left closed e =
    let star : byte ≡ 42 = cc in
    let slash : next ≡ 47 = cc in
    closed 0 (star, slash)

no_shorter : (body other rest left : List ℕ) → IsOpen other → body ++ (42 ∷ 47 ∷ rest) ≡ other ++ (42 ∷ 47 ∷ left) → length other ≤ length body
no_shorter body [] rest left closed e = omega arith
no_shorter [] (byte ∷ other) rest left closed e = absurd (not_empty byte other rest left closed e)
no_shorter (first ∷ body) (byte ∷ other) rest left closed e = more (no_shorter body other rest left (open_behind byte other closed)) e
  where
    more : (body ++ (42 ∷ 47 ∷ rest) ≡ other ++ (42 ∷ 47 ∷ left) → length other ≤ length body) → first ∷ (body ++ (42 ∷ 47 ∷ rest)) ≡ byte ∷ (other ++ (42 ∷ 47 ∷ left)) → length (byte ∷ other) ≤ length (first ∷ body)
    more inner e = let tail : body ++ (42 ∷ 47 ∷ rest) ≡ other ++ (42 ∷ 47 ∷ left) = cc in let l = inner tail in omega arith

same_front : (front other rest left : List ℕ) → length front ≡ length other → front ++ rest ≡ other ++ left → front ≡ other
same_front [] [] rest left len e = refl
same_front [] (byte ∷ other) rest left len e = absurd (omega arith)
same_front (byte ∷ front) [] rest left len e = absurd (omega arith)
same_front (byte ∷ front) (same ∷ other) rest left len e =
    let first : byte ≡ same = cc in
    let more : front ++ rest ≡ other ++ left = cc in
    let inner = same_front front other rest left (omega arith) more in
    cc

one_body : (body other rest left : List ℕ) → IsOpen body → IsOpen other → body ++ (42 ∷ 47 ∷ rest) ≡ other ++ (42 ∷ 47 ∷ left) → body ≡ other
one_body body other rest left closed also e =
    let a = no_shorter body other rest left also e in
    let b = no_shorter other body left rest closed (sym e) in
    same_front body other (42 ∷ 47 ∷ rest) (42 ∷ 47 ∷ left) (omega arith) e

-- ---- each lexeme and each cause shows its class

class_of : Lexeme → ℕ
class_of (Blank byte) = 1
class_of (Word bytes) = 2
class_of (Whole digits) = 3
class_of (Pointed digits behind) = 3
class_of (LineComment body) = 4
class_of (BlockComment body) = 5
class_of (Mark sign) = 6

first_class : (bytes : List ℕ) (lexeme : Lexeme) (rest : List ℕ) → IsFirst bytes lexeme rest → class bytes ≡ class_of lexeme
unfolding class_of
first_class bytes (Blank byte) rest is = ap class is.whole ∙ class-space byte rest is.form
first_class bytes (LineComment body) rest is = ap class is.whole ∙ class-line (body ++ rest)
first_class bytes (BlockComment body) rest is = ap class is.whole ∙ class-block ((body ++ 42 ∷ 47 ∷ []) ++ rest)
first_class bytes (Word name) rest is = ap class is.whole ∙ class-letter name rest is.form.0.0
first_class bytes (Whole digits) rest is = ap class is.whole ∙ class-digit digits rest is.form.0.0
first_class bytes (Pointed digits behind) rest is = ap class (is.whole ∙ append_assoc digits (46 ∷ behind) rest) ∙ class-digit digits (46 ∷ (behind ++ rest)) is.form.0.0
first_class bytes (Mark sign) rest is = ap class is.whole ∙ class-sign sign rest is.ends

number_class : (bytes : List ℕ) → BeginsBadNumber bytes → class bytes ≡ 3
number_class bytes bad = ap class bad.2 ∙ class-digit bad.0 bad.1 bad.3.0

name_class : (bytes : List ℕ) → BeginsLongName bytes → class bytes ≡ 2
name_class bytes long = ap class long.2 ∙ class-letter long.0 long.1 long.3.0

comment_class : (bytes : List ℕ) → BeginsOpenComment bytes → class bytes ≡ 5
comment_class bytes left = ap class left.1 ∙ class-block left.0

no_slash : (byte : ℕ) (more bytes : List ℕ) → bytes ≡ byte ∷ more → ((rest : List ℕ) → bytes ≡ 47 ∷ rest → ⊥) → (b : Bool) → (byte == 47) ≡ b → (byte == 47) ≡ false
no_slash byte more bytes whole none true h = let e = same_byte byte 47 h in absurd (none more (whole ∙ ap (λ (x : ℕ). x ∷ more) e))
no_slash byte more bytes whole none false h = h

nothing_class : (bytes : List ℕ) → BeginsNothing bytes → class bytes ≡ 6
nothing_class bytes is = ap class is.whole ∙ class-other is.byte is.more is.no_space is.no_letter is.no_digit (no_slash is.byte is.more bytes is.whole (is.no_sign Slash) (is.byte == 47) refl)

-- ---- one first lexeme

one_blank : (bytes : List ℕ) (a b : ℕ) (r s : List ℕ) → IsFirst bytes (Blank a) r → IsFirst bytes (Blank b) s → Blank a ≡ Blank b
one_blank bytes a b r s x y = let e : a ∷ r ≡ b ∷ s = sym x.whole ∙ y.whole in let same : a ≡ b = cc in ap Blank same

one_line : (bytes a b r s : List ℕ) → IsFirst bytes (LineComment a) r → IsFirst bytes (LineComment b) s → LineComment a ≡ LineComment b
one_line bytes a b r s x y =
    let e : 47 ∷ 47 ∷ (a ++ r) ≡ 47 ∷ 47 ∷ (b ++ s) = sym x.whole ∙ y.whole in
    let inner : a ++ r ≡ b ++ s = cc in
    ap LineComment (one_run (λ byte. not (is_line_feed byte)) a b r s x.form y.form x.ends y.ends inner).0

one_block : (bytes a b r s : List ℕ) → IsFirst bytes (BlockComment a) r → IsFirst bytes (BlockComment b) s → BlockComment a ≡ BlockComment b
one_block bytes a b r s x y =
    let e : 47 ∷ 42 ∷ ((a ++ 42 ∷ 47 ∷ []) ++ r) ≡ 47 ∷ 42 ∷ ((b ++ 42 ∷ 47 ∷ []) ++ s) = sym x.whole ∙ y.whole in
    let inner : (a ++ 42 ∷ 47 ∷ []) ++ r ≡ (b ++ 42 ∷ 47 ∷ []) ++ s = cc in
    ap BlockComment (one_body a b r s x.form y.form (sym (append_assoc a (42 ∷ 47 ∷ []) r) ∙ inner ∙ append_assoc b (42 ∷ 47 ∷ []) s))

one_word : (bytes a b r s : List ℕ) → IsFirst bytes (Word a) r → IsFirst bytes (Word b) s → Word a ≡ Word b
one_word bytes a b r s x y = ap Word (one_run is_word_byte a b r s x.form.0.1 y.form.0.1 x.ends y.ends (sym x.whole ∙ y.whole)).0

one_whole : (bytes a b r s : List ℕ) → IsFirst bytes (Whole a) r → IsFirst bytes (Whole b) s → Whole a ≡ Whole b
one_whole bytes a b r s x y = ap Whole (one_run is_digit a b r s x.form.0.1 y.form.0.1 (whole_ends r x.ends) (whole_ends s y.ends) (sym x.whole ∙ y.whole)).0

pointed_whole : (bytes a b r : List ℕ) → IsFirst bytes (Pointed a b) r → bytes ≡ a ++ (46 ∷ (b ++ r))
pointed_whole bytes a b r x = x.whole ∙ append_assoc a (46 ∷ b) r

no_point : (digits a b r s bytes : List ℕ) → IsFirst bytes (Whole digits) r → IsFirst bytes (Pointed a b) s → ⊥
no_point digits a b r s bytes x y =
    let run = one_run is_digit digits a r (46 ∷ (b ++ s)) x.form.0.1 y.form.0.1 (whole_ends r x.ends) refl (sym x.whole ∙ pointed_whole bytes a b s y) in
    let point = (word_part (λ byte. byte == 46) r x.ends).1 in
    let e : begins (λ byte. byte == 46) r ≡ true = ap (begins (λ byte. byte == 46)) run.1 in
    absurd cc

one_pointed : (bytes a b c d r s : List ℕ) → IsFirst bytes (Pointed a b) r → IsFirst bytes (Pointed c d) s → Pointed a b ≡ Pointed c d
one_pointed bytes a b c d r s x y =
    let run = one_run is_digit a c (46 ∷ (b ++ r)) (46 ∷ (d ++ s)) x.form.0.1 y.form.0.1 refl refl (sym (pointed_whole bytes a b r x) ∙ pointed_whole bytes c d s y) in
    let e = run.1 in
    let inner : b ++ r ≡ d ++ s = cc in
    let more = one_run is_digit b d r s x.form.1.1 y.form.1.1 (no_word_no_digit r x.ends) (no_word_no_digit s y.ends) inner in
    ap (λ (z : List ℕ). Pointed z b) run.0 ∙ ap (Pointed c) more.0

one_mark : (bytes : List ℕ) (a b : Sign) (r s : List ℕ) → IsFirst bytes (Mark a) r → IsFirst bytes (Mark b) s → Mark a ≡ Mark b
one_mark bytes a b r s x y =
    let e = first_sign_is a r x.ends in
    let f = first_sign_is b s y.ends in
    let g : first_sign (sign_bytes a ++ r) ≡ first_sign (sign_bytes b ++ s) = ap first_sign (sym x.whole ∙ y.whole) in
    let same : a ≡ b = cc in
    ap Mark same

same_lexeme : (x y : Lexeme) (bytes r s : List ℕ) → IsFirst bytes x r → IsFirst bytes y s → class_of x ≡ class_of y → x ≡ y
unfolding class_of
same_lexeme (Blank a) (Blank b) bytes r s x y e = one_blank bytes a b r s x y
same_lexeme (LineComment a) (LineComment b) bytes r s x y e = one_line bytes a b r s x y
same_lexeme (BlockComment a) (BlockComment b) bytes r s x y e = one_block bytes a b r s x y
same_lexeme (Word a) (Word b) bytes r s x y e = one_word bytes a b r s x y
same_lexeme (Whole a) (Whole b) bytes r s x y e = one_whole bytes a b r s x y
same_lexeme (Whole digits) (Pointed a b) bytes r s x y e = absurd (no_point digits a b r s bytes x y)
same_lexeme (Pointed a b) (Whole digits) bytes r s x y e = absurd (no_point digits a b s r bytes y x)
same_lexeme (Pointed a b) (Pointed c d) bytes r s x y e = one_pointed bytes a b c d r s x y
same_lexeme (Mark a) (Mark b) bytes r s x y e = one_mark bytes a b r s x y
same_lexeme _ _ bytes r s x y e = absurd (omega arith)

pub one_lexeme : (x y : Lexeme) (bytes r s : List ℕ) → IsFirst bytes x r → IsFirst bytes y s → (x ≡ y) × (r ≡ s)
one_lexeme x y bytes r s a b =
    let same = same_lexeme x y bytes r s a b (sym (first_class bytes x r a) ∙ first_class bytes y s b) in
    (same, append_cancel_left (spelled x) r s (sym a.whole ∙ b.whole ∙ ap (λ (z : Lexeme). spelled z ++ s) (sym same)))

-- ---- no lexeme begins where a fault's cause stands, nor at the end

abbrev pub Stops : List ℕ → Type 0
Stops bytes = (lexeme : Lexeme) (rest : List ℕ) → IsFirst bytes lexeme rest → ⊥

class_some : (lexeme : Lexeme) → 0 < class_of lexeme
unfolding class_of
class_some (Blank byte) = omega arith
class_some (LineComment body) = omega arith
class_some (BlockComment body) = omega arith
class_some (Word name) = omega arith
class_some (Whole digits) = omega arith
class_some (Pointed digits behind) = omega arith
class_some (Mark sign) = omega arith

pub end_stops : Stops []
end_stops lexeme rest is = let a = first_class [] lexeme rest is in let b = class-nil in let c = class_some lexeme in omega arith

other_class : (lexeme : Lexeme) (bytes rest : List ℕ) (n : ℕ) → class bytes ≡ n → IsFirst bytes lexeme rest → class_of lexeme ≡ n
other_class lexeme bytes rest n e is = sym (first_class bytes lexeme rest is) ∙ e

nothing_stops : (bytes : List ℕ) → BeginsNothing bytes → (lexeme : Lexeme) (rest : List ℕ) → IsFirst bytes lexeme rest → class_of lexeme ≡ 6 → ⊥
unfolding class_of
nothing_stops bytes nothing (Mark sign) rest is e = nothing.no_sign sign rest is.whole
nothing_stops bytes nothing _ rest is e = omega arith

name_stops : (bytes : List ℕ) → BeginsLongName bytes → (lexeme : Lexeme) (rest : List ℕ) → IsFirst bytes lexeme rest → class_of lexeme ≡ 2 → ⊥
unfolding class_of
name_stops bytes long (Word name) rest is e =
    let l = longest_run is_word_byte name long.0 rest long.1 long.3.1 is.ends (sym is.whole ∙ long.2) in
    let short = is.form.1 in
    let many = long.4 in
    omega arith
name_stops bytes long _ rest is e = omega arith

digits_some : (digits : List ℕ) → begins is_digit digits ≡ true → 0 < length digits
digits_some [] h = absurd cc
digits_some (byte ∷ digits) h = omega arith

no_close : (body rest : List ℕ) → IsOpen (body ++ (42 ∷ 47 ∷ rest)) → ⊥
no_close [] rest closed = closed 0 (refl, refl)
no_close (byte ∷ body) rest closed = no_close body rest (open_behind byte (body ++ (42 ∷ 47 ∷ rest)) closed)

comment_stops : (bytes : List ℕ) → BeginsOpenComment bytes → (lexeme : Lexeme) (rest : List ℕ) → IsFirst bytes lexeme rest → class_of lexeme ≡ 5 → ⊥
unfolding class_of
comment_stops bytes left (BlockComment body) rest is e =
    let both_are : 47 ∷ 42 ∷ left.0 ≡ 47 ∷ 42 ∷ ((body ++ 42 ∷ 47 ∷ []) ++ rest) = sym left.1 ∙ is.whole in
    let behind : left.0 ≡ (body ++ 42 ∷ 47 ∷ []) ++ rest = cc in
    let moved : left.0 ≡ body ++ (42 ∷ 47 ∷ rest) = behind ∙ append_assoc body (42 ∷ 47 ∷ []) rest in
    no_close body rest (subst IsOpen moved left.2)
comment_stops bytes left _ rest is e = omega arith

whole_stops : (bytes digits rest : List ℕ) → BeginsBadNumber bytes → IsFirst bytes (Whole digits) rest → ⊥
whole_stops bytes digits rest bad is =
    let run = one_run is_digit digits bad.0 rest bad.1 is.form.0.1 bad.3.1 (whole_ends rest is.ends) bad.4 (sym is.whole ∙ bad.2) in
    let few = is.form.1 in
    let len = ap length run.0 in
    let parts = word_part (λ byte. byte == 46) rest is.ends in
    let word : begins is_word_byte rest ≡ begins is_word_byte bad.1 = ap (begins is_word_byte) run.1 in
    elim bad.5 [
      | inl many ↦ omega arith
      | inr more ↦ elim more [
        | inl letter ↦ let no : false ≡ true = sym parts.0 ∙ word ∙ letter in absurd cc
        | inr point ↦ let no : false ≡ true = sym parts.1 ∙ ap (begins (λ byte. byte == 46)) (run.1 ∙ point.1) in absurd cc
      ]
    ]

pointed_stops : (bytes digits behind rest : List ℕ) → BeginsBadNumber bytes → IsFirst bytes (Pointed digits behind) rest → ⊥
pointed_stops bytes digits behind rest bad is =
    let run = one_run is_digit digits bad.0 (46 ∷ (behind ++ rest)) bad.1 is.form.0.1 bad.3.1 refl bad.4 (sym (pointed_whole bytes digits behind rest is) ∙ bad.2) in
    let few = is.form.2 in
    let len = ap length run.0 in
    elim bad.5 [
      | inl many ↦ omega arith
      | inr more ↦ elim more [
        | inl letter ↦ let no : false ≡ true = ap (begins is_word_byte) run.1 ∙ letter in absurd cc
        | inr point ↦
            let tails : 46 ∷ (behind ++ rest) ≡ 46 ∷ point.0 = run.1 ∙ point.1 in
            let tail : behind ++ rest ≡ point.0 = cc in
            elim point.2 [
              | inl none ↦ let some : 0 < length behind = digits_some behind is.form.1.0 in let no : true ≡ false = sym is.form.1.0 ∙ sym (begins_front is_digit behind rest some) ∙ ap (begins is_digit) tail ∙ none in absurd cc
              | inr some ↦
                  let inner = one_run is_digit behind some.0 rest some.1 is.form.1.1 some.3.1 (no_word_no_digit rest is.ends) some.4 (tail ∙ some.2) in
                  let len_too = ap length inner.0 in
                  elim some.5 [
                    | inl many ↦ omega arith
                    | inr letter ↦ let no : false ≡ true = sym is.ends ∙ ap (begins is_word_byte) inner.1 ∙ letter in absurd cc
                  ]
            ]
      ]
    ]

number_stops : (bytes : List ℕ) → BeginsBadNumber bytes → (lexeme : Lexeme) (rest : List ℕ) → IsFirst bytes lexeme rest → class_of lexeme ≡ 3 → ⊥
unfolding class_of
number_stops bytes bad (Whole digits) rest is e = whole_stops bytes digits rest bad is
number_stops bytes bad (Pointed digits behind) rest is e = pointed_stops bytes digits behind rest bad is
number_stops bytes bad _ rest is e = omega arith

pub refused_stops : (fault : LexFault) (bytes : List ℕ) (here : Place) → Refuses bytes here fault → Stops bytes
refused_stops (BadByte place) bytes here refusal lexeme rest is = nothing_stops bytes refusal.1 lexeme rest is (other_class lexeme bytes rest 6 (nothing_class bytes refusal.1) is)
refused_stops (BadNumber place) bytes here refusal lexeme rest is = number_stops bytes refusal.1 lexeme rest is (other_class lexeme bytes rest 3 (number_class bytes refusal.1) is)
refused_stops (LongName place) bytes here refusal lexeme rest is = name_stops bytes refusal.1 lexeme rest is (other_class lexeme bytes rest 2 (name_class bytes refusal.1) is)
refused_stops (OpenComment place) bytes here refusal lexeme rest is = comment_stops bytes refusal.1 lexeme rest is (other_class lexeme bytes rest 5 (comment_class bytes refusal.1) is)
refused_stops Memory bytes here refusal lexeme rest is = absurd refusal

-- ---- one fault

fault_class : LexFault → ℕ
fault_class (BadByte place) = 6
fault_class (BadNumber place) = 3
fault_class (LongName place) = 2
fault_class (OpenComment place) = 5
fault_class Memory = 1

refused_class : (fault : LexFault) (bytes : List ℕ) (here : Place) → Refuses bytes here fault → class bytes ≡ fault_class fault
unfolding fault_class
refused_class (BadByte place) bytes here refusal = nothing_class bytes refusal.1
refused_class (BadNumber place) bytes here refusal = number_class bytes refusal.1
refused_class (LongName place) bytes here refusal = name_class bytes refusal.1
refused_class (OpenComment place) bytes here refusal = comment_class bytes refusal.1
refused_class Memory bytes here refusal = absurd refusal

fault_class_some : (fault : LexFault) → 0 < fault_class fault
unfolding fault_class
fault_class_some (BadByte place) = omega arith
fault_class_some (BadNumber place) = omega arith
fault_class_some (LongName place) = omega arith
fault_class_some (OpenComment place) = omega arith
fault_class_some Memory = omega arith

pub refused_some : (fault : LexFault) (bytes : List ℕ) (here : Place) → Refuses bytes here fault → bytes ≡ [] → ⊥
refused_some fault bytes here refusal e =
    let a = refused_class fault bytes here refusal in
    let b : class bytes ≡ 0 = ap class e ∙ class-nil in
    let c = fault_class_some fault in
    omega arith

by_class : (first second : LexFault) (bytes : List ℕ) (here : Place) → Refuses bytes here first → Refuses bytes here second → fault_class first ≡ fault_class second → first ≡ second
unfolding fault_class
by_class (BadByte p) (BadByte q) bytes here refusal too e = ap BadByte (refusal.0 ∙ sym too.0)
by_class (BadNumber p) (BadNumber q) bytes here refusal too e = ap BadNumber (refusal.0 ∙ sym too.0)
by_class (LongName p) (LongName q) bytes here refusal too e = ap LongName (refusal.0 ∙ sym too.0)
by_class (OpenComment p) (OpenComment q) bytes here refusal too e = ap OpenComment (refusal.0 ∙ sym too.0)
by_class Memory second bytes here refusal too e = absurd refusal
by_class _ _ bytes here refusal too e = absurd (omega arith)

pub one_refusal : (first second : LexFault) (bytes : List ℕ) (here : Place) → Refuses bytes here first → Refuses bytes here second → first ≡ second
one_refusal first second bytes here refusal too = by_class first second bytes here refusal too (sym (refused_class first bytes here refusal) ∙ refused_class second bytes here too)
