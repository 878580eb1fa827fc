-- A text has one first sign, and what kind of lexeme it begins with shows in its first two bytes.
use Rattle.std.proofs.Common.{◌≡◌, ℕ, ◌==◌, Bool, true, false, cond, ◌||◌, List, [], ◌∷◌, ◌++◌, Option, Some, None, refl, arith}
use Rattle.std.proofs.lemmas.Bool.Decides.{nat_tests}
use Rattle.pepa_lexer.specs.Bytes.{is_space, is_letter, is_digit, begins}
use Rattle.pepa_lexer.specs.Signs.{sign_bytes, goes_on, sign_of_pair, sign_of_byte}
use Rattle.pepa_lexer.specs.declared.kinds.Sign.{Sign}
use Rattle.pepa_lexer.specs.declared.kinds.Sign.TheVariants.{Equals, Semicolon, Opening, Closing, Comma, Dot, Plus, Minus, Star, Slash, Less, Greater, LessOrEqual, GreaterOrEqual, EqualTo, NotEqualTo, Not, And, Or, Bar, OpeningBrace, ClosingBrace, OpeningBracket, ClosingBracket, Colon, DoubleColon, Question}

pair_or_byte : Option Sign → Option Sign → Option Sign
pair_or_byte (Some sign) other = Some sign
pair_or_byte None other = other

-- the longest sign in front
pub first_sign : List ℕ → Option Sign
first_sign [] = None
first_sign (first ∷ []) = sign_of_byte first
first_sign (first ∷ second ∷ bytes) = pair_or_byte (sign_of_pair first second) (sign_of_byte first)

pub first_sign_is : (sign : Sign) (rest : List ℕ) → begins (goes_on sign) rest ≡ false → first_sign (sign_bytes sign ++ rest) ≡ Some sign
unfolding first_sign pair_or_byte
first_sign_is Equals [] ends = refl
first_sign_is Equals (next ∷ rest) ends = rw ends refl
first_sign_is Semicolon [] ends = refl
first_sign_is Semicolon (next ∷ rest) ends = refl
first_sign_is Opening [] ends = refl
first_sign_is Opening (next ∷ rest) ends = refl
first_sign_is Closing [] ends = refl
first_sign_is Closing (next ∷ rest) ends = refl
first_sign_is Comma [] ends = refl
first_sign_is Comma (next ∷ rest) ends = refl
first_sign_is Dot [] ends = refl
first_sign_is Dot (next ∷ rest) ends = refl
first_sign_is Plus [] ends = refl
first_sign_is Plus (next ∷ rest) ends = refl
first_sign_is Minus [] ends = refl
first_sign_is Minus (next ∷ rest) ends = refl
first_sign_is Star [] ends = refl
first_sign_is Star (next ∷ rest) ends = refl
first_sign_is Slash [] ends = refl
first_sign_is Slash (next ∷ rest) ends = refl
first_sign_is Less [] ends = refl
first_sign_is Less (next ∷ rest) ends = rw ends refl
first_sign_is Greater [] ends = refl
first_sign_is Greater (next ∷ rest) ends = rw ends refl
first_sign_is Not [] ends = refl
first_sign_is Not (next ∷ rest) ends = rw ends refl
first_sign_is Bar [] ends = refl
first_sign_is Bar (next ∷ rest) ends = rw ends refl
first_sign_is OpeningBrace [] ends = refl
first_sign_is OpeningBrace (next ∷ rest) ends = refl
first_sign_is ClosingBrace [] ends = refl
first_sign_is ClosingBrace (next ∷ rest) ends = refl
first_sign_is OpeningBracket [] ends = refl
first_sign_is OpeningBracket (next ∷ rest) ends = refl
first_sign_is ClosingBracket [] ends = refl
first_sign_is ClosingBracket (next ∷ rest) ends = refl
first_sign_is Colon [] ends = refl
first_sign_is Colon (next ∷ rest) ends = rw ends refl
first_sign_is Question [] ends = refl
first_sign_is Question (next ∷ rest) ends = refl
first_sign_is LessOrEqual rest ends = refl
first_sign_is GreaterOrEqual rest ends = refl
first_sign_is EqualTo rest ends = refl
first_sign_is NotEqualTo rest ends = refl
first_sign_is And rest ends = refl
first_sign_is Or rest ends = refl
first_sign_is DoubleColon rest ends = refl

slash_class : List ℕ → ℕ
slash_class [] = 6
slash_class (next ∷ bytes) = cond (next == 47) 4 (cond (next == 42) 5 6)

-- white space 1, a name 2, a number 3, comments 4 and 5, and other bytes 6
pub class : List ℕ → ℕ
class [] = 0
class (byte ∷ bytes) = cond (is_space byte) 1 (cond (is_letter byte) 2 (cond (is_digit byte) 3 (cond (byte == 47) (slash_class bytes) 6)))

pub class-sign : (sign : Sign) (rest : List ℕ) → begins (goes_on sign) rest ≡ false → class (sign_bytes sign ++ rest) ≡ 6
unfolding class slash_class
class-sign Slash [] ends = refl
class-sign Slash (next ∷ rest) ends = slash (next == 47) (next == 42) ends
  where
    slash : (a b : Bool) → (a || b) ≡ false → ◌≡◌ {A = ℕ} (cond a 4 (cond b 5 6)) 6
    slash true b e = absurd cc
    slash false true e = absurd cc
    slash false false e = refl
class-sign _ rest ends = refl

pub class-line : (body : List ℕ) → class (47 ∷ 47 ∷ body) ≡ 4
unfolding class slash_class
class-line body = refl

pub class-block : (body : List ℕ) → class (47 ∷ 42 ∷ body) ≡ 5
unfolding class slash_class
class-block body = refl

pub class-space : (byte : ℕ) (rest : List ℕ) → is_space byte ≡ true → class (byte ∷ rest) ≡ 1
unfolding class
class-space byte rest h = rw h refl

letter_no_space : (byte : ℕ) → is_letter byte ≡ true → is_space byte ≡ false
letter_no_space byte h = grind (arith, nat_tests)

digit_no_space : (byte : ℕ) → is_digit byte ≡ true → is_space byte ≡ false
digit_no_space byte h = grind (arith, nat_tests)

digit_no_letter : (byte : ℕ) → is_digit byte ≡ true → is_letter byte ≡ false
digit_no_letter byte h = grind (arith, nat_tests)

pub class-letter : (front rest : List ℕ) → begins is_letter front ≡ true → class (front ++ rest) ≡ 2
unfolding class
class-letter [] rest h = absurd cc
class-letter (byte ∷ front) rest h = rw (letter_no_space byte h, h) refl

pub class-digit : (front rest : List ℕ) → begins is_digit front ≡ true → class (front ++ rest) ≡ 3
unfolding class
class-digit [] rest h = absurd cc
class-digit (byte ∷ front) rest h = rw (digit_no_space byte h, digit_no_letter byte h, h) refl

pub class-other : (byte : ℕ) (rest : List ℕ) → is_space byte ≡ false → is_letter byte ≡ false → is_digit byte ≡ false → (byte == 47) ≡ false → class (byte ∷ rest) ≡ 6
unfolding class
class-other byte rest h k l m = rw (h, k, l, m) refl

pub class-nil : class [] ≡ 0
unfolding class
class-nil = refl
