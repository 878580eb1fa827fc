-- The longest sign in front of a text.
use Rattle.std.proofs.Common.{◌≡◌, ◌≢◌, ℕ, ◌==◌, Bool, true, false, cond, List, [], ◌∷◌, ◌++◌, length, Some, None, refl, sym, ap, ◌∙◌}
use Rattle.pepa_lexer.specs.Bytes.{begins}
use Rattle.pepa_lexer.specs.Signs.{sign_bytes, goes_on, sign_of_pair, sign_of_byte, IsLongestSign}
use Rattle.pepa_lexer.specs.declared.kinds.Sign.{Sign}
use Rattle.pepa_lexer.specs.declared.kinds.Sign.TheVariants.{Equals, Semicolon, Opening, Closing, Comma, Dot, Plus, Minus, Star, Slash, Less, Greater, LessOrEqual, GreaterOrEqual, EqualTo, NotEqualTo, Not, And, Or, Bar, OpeningBrace, ClosingBrace, OpeningBracket, ClosingBracket, Colon, DoubleColon, Question}

-- ---- no sign

no : (code first : ℕ) (sign : Sign) → code ≡ first → sign_of_byte code ≡ Some sign → sign_of_byte first ≡ None → ⊥
no code first sign e is none = let k : sign_of_byte code ≡ sign_of_byte first = ap sign_of_byte e in absurd cc

-- each sign but `&&` begins with a sign of one byte
pub no_sign : (sign : Sign) (text more rest : List ℕ) (first : ℕ) → text ≡ first ∷ more → sign_of_byte first ≡ None → ((a b : ℕ) (ms : List ℕ) → text ≡ a ∷ b ∷ ms → sign_of_pair a b ≡ None) → text ≢ sign_bytes sign ++ rest
no_sign Equals text more rest first e none pair is = no 61 first Equals (cc) refl none
no_sign Semicolon text more rest first e none pair is = no 59 first Semicolon (cc) refl none
no_sign Opening text more rest first e none pair is = no 40 first Opening (cc) refl none
no_sign Closing text more rest first e none pair is = no 41 first Closing (cc) refl none
no_sign Comma text more rest first e none pair is = no 44 first Comma (cc) refl none
no_sign Dot text more rest first e none pair is = no 46 first Dot (cc) refl none
no_sign Plus text more rest first e none pair is = no 43 first Plus (cc) refl none
no_sign Minus text more rest first e none pair is = no 45 first Minus (cc) refl none
no_sign Star text more rest first e none pair is = no 42 first Star (cc) refl none
no_sign Slash text more rest first e none pair is = no 47 first Slash (cc) refl none
no_sign Less text more rest first e none pair is = no 60 first Less (cc) refl none
no_sign Greater text more rest first e none pair is = no 62 first Greater (cc) refl none
no_sign Not text more rest first e none pair is = no 33 first Not (cc) refl none
no_sign Bar text more rest first e none pair is = no 124 first Bar (cc) refl none
no_sign OpeningBrace text more rest first e none pair is = no 123 first OpeningBrace (cc) refl none
no_sign ClosingBrace text more rest first e none pair is = no 125 first ClosingBrace (cc) refl none
no_sign OpeningBracket text more rest first e none pair is = no 91 first OpeningBracket (cc) refl none
no_sign ClosingBracket text more rest first e none pair is = no 93 first ClosingBracket (cc) refl none
no_sign Colon text more rest first e none pair is = no 58 first Colon (cc) refl none
no_sign Question text more rest first e none pair is = no 63 first Question (cc) refl none
no_sign LessOrEqual text more rest first e none pair is = no 60 first Less (cc) refl none
no_sign GreaterOrEqual text more rest first e none pair is = no 62 first Greater (cc) refl none
no_sign EqualTo text more rest first e none pair is = no 61 first Equals (cc) refl none
no_sign NotEqualTo text more rest first e none pair is = no 33 first Not (cc) refl none
no_sign And text more rest first e none pair is = let p = pair 38 38 rest is in absurd cc
no_sign Or text more rest first e none pair is = no 124 first Bar (cc) refl none
no_sign DoubleColon text more rest first e none pair is = no 58 first Colon (cc) refl none

-- ---- a sign of one byte, that no second byte makes longer

none_if : (b : Bool) (sign : Sign) → cond b (Some sign) None ≡ None → b ≡ false
none_if true sign e = absurd cc
none_if false sign e = refl

pub byte_ends : (sign : Sign) (first second : ℕ) → sign_bytes sign ≡ first ∷ [] → sign_of_pair first second ≡ None → (first == 47) ≡ false → goes_on sign second ≡ false
byte_ends Equals first second is none ne = let e : first ≡ 61 = cc in let n : sign_of_pair 61 second ≡ None = rw e at none in none_if (second == 61) EqualTo n
byte_ends Less first second is none ne = let e : first ≡ 60 = cc in let n : sign_of_pair 60 second ≡ None = rw e at none in none_if (second == 61) LessOrEqual n
byte_ends Greater first second is none ne = let e : first ≡ 62 = cc in let n : sign_of_pair 62 second ≡ None = rw e at none in none_if (second == 61) GreaterOrEqual n
byte_ends Not first second is none ne = let e : first ≡ 33 = cc in let n : sign_of_pair 33 second ≡ None = rw e at none in none_if (second == 61) NotEqualTo n
byte_ends Bar first second is none ne = let e : first ≡ 124 = cc in let n : sign_of_pair 124 second ≡ None = rw e at none in none_if (second == 124) Or n
byte_ends Colon first second is none ne = let e : first ≡ 58 = cc in let n : sign_of_pair 58 second ≡ None = rw e at none in none_if (second == 58) DoubleColon n
byte_ends Slash first second is none ne = let e : first ≡ 47 = cc in let n : true ≡ false = rw e at ne in absurd cc
byte_ends _ first second is none ne = refl

-- a sign of two bytes is never longer
pub pair_ends : (sign : Sign) (first second : ℕ) → sign_bytes sign ≡ first ∷ second ∷ [] → (next : ℕ) → goes_on sign next ≡ false
pair_ends Equals first second is next = absurd cc
pair_ends Less first second is next = absurd cc
pair_ends Greater first second is next = absurd cc
pair_ends Not first second is next = absurd cc
pair_ends Bar first second is next = absurd cc
pair_ends Colon first second is next = absurd cc
pair_ends Slash first second is next = absurd cc
pair_ends _ first second is next = refl

begins_none : (sign : Sign) (rest : List ℕ) → ((next : ℕ) → goes_on sign next ≡ false) → begins (goes_on sign) rest ≡ false
begins_none sign [] none = refl
begins_none sign (next ∷ rest) none = none next

pub pair_longest : (text more : List ℕ) (sign : Sign) (first second : ℕ) → text ≡ sign_bytes sign ++ more → sign_bytes sign ≡ first ∷ second ∷ [] → IsLongestSign text sign 2
pair_longest text more sign first second e is =
    record { rest = more; whole = e; len_is = sym (ap length is); ends = begins_none sign more (pair_ends sign first second is) }

byte_ends_before : (text more : List ℕ) (sign : Sign) (first : ℕ) → text ≡ first ∷ more → sign_bytes sign ≡ first ∷ [] → (first == 47) ≡ false → ((a b : ℕ) (ms : List ℕ) → text ≡ a ∷ b ∷ ms → sign_of_pair a b ≡ None) → begins (goes_on sign) more ≡ false
byte_ends_before text [] sign first e is ne pair = refl
byte_ends_before text (second ∷ more) sign first e is ne pair = byte_ends sign first second is (pair first second more e) ne

pub byte_longest : (text : List ℕ) (sign : Sign) (first : ℕ) (more : List ℕ) → text ≡ first ∷ more → sign_bytes sign ≡ first ∷ [] → begins (λ byte. byte == 47) text ≡ false → ((a b : ℕ) (ms : List ℕ) → text ≡ a ∷ b ∷ ms → sign_of_pair a b ≡ None) → IsLongestSign text sign 1
byte_longest text sign first more e is ne pair =
    let first_ne : (first == 47) ≡ false = rw e at ne in
    record {
      rest = more;
      whole = e ∙ ap (λ (x : List ℕ). x ++ more) (sym is);
      len_is = sym (ap length is);
      ends = byte_ends_before text more sign first e is first_ne pair;
    }
