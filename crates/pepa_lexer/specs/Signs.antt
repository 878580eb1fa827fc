-- The signs, as bytes.
use Rattle.std.specs.Prelude.{◌≡◌, ◌≢◌, ℕ, Bool, false, ◌&&◌, ◌||◌, List, [], ◌∷◌, ◌++◌, MatchOption, length, ◌==◌, if◌then◌else◌, codes, Option, Some, None}
use Rattle.pepa_lexer.specs.Bytes.{begins}
use Rattle.pepa_lexer.specs.declared.kinds.Sign.{Sign}
use Rattle.pepa_lexer.specs.declared.kinds.Sign.TheVariants.{Equals, Semicolon, Opening, Closing, Comma, Dot, Plus, Minus, Star, Slash, Less, Greater, LessOrEqual, GreaterOrEqual, EqualTo, NotEqualTo, Not, And, Or, Bar, OpeningBrace, ClosingBrace, OpeningBracket, ClosingBracket, Colon, DoubleColon, Question}

-- how each sign is written
abbrev pub sign_bytes : Sign → List ℕ
sign_bytes Equals = codes "="
sign_bytes Semicolon = codes ";"
sign_bytes Opening = codes "("
sign_bytes Closing = codes ")"
sign_bytes Comma = codes ","
sign_bytes Dot = codes "."
sign_bytes Plus = codes "+"
sign_bytes Minus = codes "-"
sign_bytes Star = codes "*"
sign_bytes Slash = codes "/"
sign_bytes Less = codes "<"
sign_bytes Greater = codes ">"
sign_bytes LessOrEqual = codes "<="
sign_bytes GreaterOrEqual = codes ">="
sign_bytes EqualTo = codes "=="
sign_bytes NotEqualTo = codes "!="
sign_bytes Not = codes "!"
sign_bytes And = codes "&&"
sign_bytes Or = codes "||"
sign_bytes Bar = codes "|"
sign_bytes OpeningBrace = codes "{"
sign_bytes ClosingBrace = codes "}"
sign_bytes OpeningBracket = codes "["
sign_bytes ClosingBracket = codes "]"
sign_bytes Colon = codes ":"
sign_bytes DoubleColon = codes "::"
sign_bytes Question = codes "?"

-- whether the sign and this byte begin a longer sign, or a comment
abbrev pub goes_on : Sign → ℕ → Bool
goes_on Equals byte = byte == 61
goes_on Less byte = byte == 61
goes_on Greater byte = byte == 61
goes_on Not byte = byte == 61
goes_on Bar byte = byte == 124
goes_on Colon byte = byte == 58
goes_on Slash byte = byte == 47 || byte == 42
goes_on _ byte = false

-- the sign of two bytes, if they are one
abbrev pub sign_of_pair : ℕ → ℕ → Option Sign
sign_of_pair first second =
    if first == 38 && second == 38 then Some And
    else (if first == 124 && second == 124 then Some Or
    else (if first == 58 && second == 58 then Some DoubleColon
    else (if first == 60 && second == 61 then Some LessOrEqual
    else (if first == 62 && second == 61 then Some GreaterOrEqual
    else (if first == 61 && second == 61 then Some EqualTo
    else (if first == 33 && second == 61 then Some NotEqualTo
    else None))))))

-- the sign of one byte, if it is one
abbrev pub sign_of_byte : ℕ → Option Sign
sign_of_byte byte =
    if byte == 61 then Some Equals
    else (if byte == 59 then Some Semicolon
    else (if byte == 40 then Some Opening
    else (if byte == 41 then Some Closing
    else (if byte == 44 then Some Comma
    else (if byte == 46 then Some Dot
    else (if byte == 43 then Some Plus
    else (if byte == 45 then Some Minus
    else (if byte == 42 then Some Star
    else (if byte == 47 then Some Slash
    else (if byte == 60 then Some Less
    else (if byte == 62 then Some Greater
    else (if byte == 33 then Some Not
    else (if byte == 124 then Some Bar
    else (if byte == 123 then Some OpeningBrace
    else (if byte == 125 then Some ClosingBrace
    else (if byte == 91 then Some OpeningBracket
    else (if byte == 93 then Some ClosingBracket
    else (if byte == 58 then Some Colon
    else (if byte == 63 then Some Question
    else None)))))))))))))))))))

-- the longest sign in front of bytes, and its length
pub record IsLongestSign (bytes : List ℕ) (sign : Sign) (len : ℕ) : Type 0 where
  pub rest : List ℕ
  pub whole : bytes ≡ sign_bytes sign ++ rest
  pub len_is : len ≡ length (sign_bytes sign)
  pub ends : begins (goes_on sign) rest ≡ false

-- whether a sign of two bytes stands in front of bytes
abbrev pub FindsPair : List ℕ → Option Sign → Type 0
FindsPair bytes answer =
    MatchOption answer ((first second : ℕ) (more : List ℕ) → bytes ≡ first ∷ second ∷ more → sign_of_pair first second ≡ None)
    (λ sign. (more : List ℕ) × (bytes ≡ sign_bytes sign ++ more) × ((first second : ℕ) × (sign_bytes sign ≡ first ∷ second ∷ [])))

-- the longest sign in front of bytes, with its length, or that no sign stands there
abbrev pub FindsLongestSign : List ℕ → Option (Sign × ℕ) → Type 0
FindsLongestSign bytes answer =
    MatchOption answer ((sign : Sign) (rest : List ℕ) → bytes ≢ sign_bytes sign ++ rest) (λ found. IsLongestSign bytes found.0 found.1)
