-- A number among the tokens of a text has at most 30 digits.
use Rattle.std.proofs.Common.{◌≡◌, ℕ, zero, suc, ◌+◌, ◌*◌, ◌^◌, ◌<◌, ◌≤◌, Bool, true, false, ◌&&◌, if◌then◌else◌, List, [], ◌∷◌, ◌++◌, length, slice_get, Option, Some, None, refl, sym, subst, arith, length-append}
use Rattle.std.specs.List.{list_all}
use Rattle.std.specs.Char.{digit_value}
use Rattle.std.specs.Str.Parse.{digits_value, digits_value_after}
use Rattle.std.proofs.Math.Nat.{pow-suc, pow-le-pow_right}
use Rattle.std.proofs.lemmas.Bool.Decides.{nat_tests}
use Rattle.std.proofs.lemmas.Option.{same_Some}
use Rattle.pepa_lexer.specs.Bytes.{is_digit}
use Rattle.pepa_lexer.specs.Lexemes.{Lexeme, Blank, LineComment, BlockComment, Word, Whole, Pointed, Mark, spelled, IsLexeme, StartsWithLexemes}
use Rattle.pepa_lexer.specs.TokenLists.{place_of, kind_of, token_at, tokens_along, end_of, IsTokens}
use Rattle.pepa_lexer.specs.declared.kinds.Place.{Place}
use Rattle.pepa_lexer.specs.declared.kinds.Token.{Token}
use Rattle.pepa_lexer.specs.declared.kinds.Kind.{Kind}
use Rattle.pepa_lexer.specs.declared.kinds.Kind.TheVariants as kinds
use Rattle.pepa_lexer.specs.Bytes.{is_capital, begins}
use Rattle.pepa_resolver.specs.Values.{AreSmall}

-- ---- the value of digits

digit_small : (byte : ℕ) → is_digit byte ≡ true → digit_value byte ≤ 9
digit_small byte h = grind (arith, nat_tests)

both_true : (a b : Bool) → (a && b) ≡ true → (a ≡ true) × (b ≡ true)
both_true true b h = (refl, h)
both_true false b h = absurd (cc)

after_small : (digits : List ℕ) (start n : ℕ) → list_all is_digit digits ≡ true → start < 10 ^ n → digits_value_after 10 start digits < 10 ^ (n + length digits)
after_small [] start n all lt = let e : n + 0 ≡ n = omega arith in rw e lt
after_small (digit ∷ digits) start n all lt =
    let split = both_true (is_digit digit) (list_all is_digit digits) all in
    let nine = digit_small digit split.0 in
    let power = pow-suc 10 n in
    let more : start * 10 + digit_value digit < 10 ^ suc n = omega arith in
    let e : n + suc (length digits) ≡ suc n + length digits = omega arith in
    rw e (after_small digits (start * 10 + digit_value digit) (suc n) split.1 more)

digits_small : (digits : List ℕ) → list_all is_digit digits ≡ true → length digits ≤ 30 → digits_value 10 digits < 10 ^ 30
digits_small digits all few =
    let small = after_small digits 0 0 all (omega arith) in
    let ten : 0 < 10 = omega arith in
    let e : 0 + length digits ≡ length digits = omega arith in
    let small' = rw e at small in
    let le : 10 ^ length digits ≤ 10 ^ 30 = pow-le-pow_right ten few in
    omega arith

all_append : (front more : List ℕ) → list_all is_digit front ≡ true → list_all is_digit more ≡ true → list_all is_digit (front ++ more) ≡ true
all_append [] more h k = k
all_append (byte ∷ front) more h k =
    let split = both_true (is_digit byte) (list_all is_digit front) h in
    rw (split.0, all_append front more split.1 k) refl

-- ---- the numbers among the tokens

abbrev IsSmallKind : Kind → Type 0
IsSmallKind kinds.Small = Unit {0}
IsSmallKind kinds.Capital = Unit {0}
IsSmallKind (kinds.Number digits scale) = (digits < 10 ^ 30) × (scale ≤ 30)
IsSmallKind (kinds.Sign sign) = Unit {0}
IsSmallKind kinds.End = Unit {0}

abbrev IsSmallOption : Option Kind → Type 0
IsSmallOption None = Unit {0}
IsSmallOption (Some kind) = IsSmallKind kind

name_small : (b : Bool) → IsSmallKind (if b then kinds.Capital else kinds.Small)
name_small true = tt
name_small false = tt

lexeme_small : (lexeme : Lexeme) → IsLexeme lexeme → IsSmallOption (kind_of lexeme)
lexeme_small (Blank byte) is = tt
lexeme_small (LineComment body) is = tt
lexeme_small (BlockComment body) is = tt
lexeme_small (Word bytes) is = name_small (begins is_capital bytes)
lexeme_small (Whole digits) is = (digits_small digits is.0.1 is.1, omega arith)
lexeme_small (Pointed digits behind) is =
    let few = is.2 in
    let long = length-append digits behind in
    (digits_small (digits ++ behind) (all_append digits behind is.0.1 is.1.1) (omega arith), omega arith)
lexeme_small (Mark sign) is = tt

abbrev HaveSmall : List Token → Type 0
HaveSmall tokens = (i : ℕ) (token : Token) → slice_get tokens i ≡ Some token → IsSmallKind token.kind

small_append : (front more : List Token) → HaveSmall front → HaveSmall more → HaveSmall (front ++ more)
small_append [] more h k i token at = k i token at
small_append (first ∷ front) more h k zero token at = h 0 token at
small_append (first ∷ front) more h k (suc i) token at = small_append front more (λ j other there. h (suc j) other there) k i token at

token_small : (kind : Option Kind) (place : Place) (from to : ℕ) → IsSmallOption kind → HaveSmall (token_at kind place from to)
token_small None place from to small i token at = absurd (cc)
token_small (Some kind) place from to small zero token at = subst (λ (t : Token). IsSmallKind t.kind) (same_Some (record { kind = kind; place = place; from = from; to = to }) token at) small
token_small (Some kind) place from to small (suc i) token at = absurd (cc)

nothing_small : HaveSmall []
nothing_small i token there = absurd (cc)

along_small : (input : List ℕ) (at : ℕ) (lexemes : List Lexeme) (bytes : List ℕ) → StartsWithLexemes lexemes bytes [] → HaveSmall (tokens_along input at lexemes)
along_small input at [] bytes leads = nothing_small
along_small input at (lexeme ∷ lexemes) bytes leads =
    small_append (token_at (kind_of lexeme) (place_of input at) at (at + length (spelled lexeme))) (tokens_along input (at + length (spelled lexeme)) lexemes)
    (token_small (kind_of lexeme) (place_of input at) at (at + length (spelled lexeme)) (lexeme_small lexeme leads.2))
    (along_small input (at + length (spelled lexeme)) lexemes leads.0 leads.4)

-- a law: the numbers of a text are small
pub numbers_small : (input : List ℕ) (tokens : List Token) → IsTokens input tokens → AreSmall tokens
numbers_small input tokens is i token digits scale at kind =
    let all = small_append (tokens_along input 0 is.0) (end_of input) (along_small input 0 is.0 input is.1) (token_small (Some kinds.End) (place_of input (length input)) (length input) (length input) tt) in
    subst IsSmallKind kind (subst HaveSmall (sym is.2) all i token at)
