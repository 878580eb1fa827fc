-- An input has tokens or a fault: in front of each text stands a lexeme, or what is refused.
use Rattle.std.proofs.Common.{◌≡◌, ◌≢◌, ℕ, zero, suc, ◌+◌, ◌<◌, ◌≤◌, ◌==◌, ◌⊎◌, inl, inr, Bool, true, false, not, ◌&&◌, if◌then◌else◌, List, [], ◌∷◌, ◌++◌, length, take, drop, slice_index, Option, Some, None, refl, sym, ◌∙◌, ap, subst, arith, append-nil, length-append, length-drop}
use Rattle.std.specs.List.{prefix_len}
use Rattle.std.specs.Str.Parse.{digits_value_after}
use Rattle.std.proofs.lemmas.Bool.{cases_lt}
use Rattle.std.proofs.lemmas.List.{drop_at, drop-drop}
use Rattle.std.proofs.lemmas.List.Sums.{prefix_len-le-length}
use Rattle.pepa_lexer.specs.Bytes.{is_space, is_digit, is_letter, is_word_byte, is_capital, is_line_feed, begins}
use Rattle.pepa_lexer.specs.Signs.{sign_bytes, sign_of_pair, sign_of_byte, IsLongestSign}
use Rattle.pepa_lexer.specs.Lexemes.{Lexeme, Blank, LineComment, BlockComment, Word, Whole, Pointed, Mark, spelled, IsCloseAt, IsOpen, IsLexeme, EndsBefore, StartsWithLexemes}
use Rattle.pepa_lexer.specs.Faults.{Refuses}
use Rattle.pepa_lexer.specs.Scans.{IsScanned, IsBlockBody}
use Rattle.pepa_lexer.specs.TokenLists.{kind_of, place_of, token_at, end_of}
use Rattle.pepa_lexer.specs.declared.kinds.Place.{Place}
use Rattle.pepa_lexer.specs.declared.kinds.Token.{Token}
use Rattle.pepa_lexer.specs.declared.kinds.LexFault.{LexFault}
use Rattle.pepa_lexer.specs.declared.kinds.LexFault.TheVariants.{BadByte, BadNumber, LongName, OpenComment}
use Rattle.pepa_lexer.specs.declared.kinds.Sign.{Sign}
use Rattle.pepa_lexer.specs.declared.kinds.Sign.TheVariants.{Equals, Semicolon, Opening, Closing, Comma, Dot, Plus, Minus, Star, Slash, Less, Greater, LessOrEqual, GreaterOrEqual, EqualTo, NotEqualTo, Not, And, Or, Bar, OpeningBrace, ClosingBrace, OpeningBracket, ClosingBracket, Colon, DoubleColon, Question}
use Rattle.pepa_lexer.proofs.Classes.{class, class-sign, class-nil}
use Rattle.pepa_lexer.proofs.Lexing.{IsDone, done_more}
use Rattle.pepa_lexer.proofs.Runs.{IsRun, run_of, same_byte, begins_byte, digits_are}
use Rattle.pepa_lexer.proofs.Scanning.{blank_scanned, mark_scanned, long_name, name_scanned, line_scanned, block_scanned, slash_scanned, digits_of, many_digits, letter_behind_digits, whole_scanned, pointed_is, no_fraction, many_fraction, letter_behind_fraction, pointed_scanned}
use Rattle.pepa_lexer.proofs.SignLemmas.{no_sign, pair_longest, byte_longest}
use Rattle.pepa_checks.specs.Existence.{HasTokensOrFault}

test : (b : Bool) → (b ≡ true) ⊎ (b ≡ false)
test true = inl refl
test false = inr refl

-- ---- signs

module _ (want : List ℕ) where
  -- the sign that a test picks is written as wanted
  abbrev IsWritten : Option Sign → Type 0
  IsWritten found = (sign : Sign) → found ≡ Some sign → sign_bytes sign ≡ want

  pick : (b : Bool) (sign : Sign) (rest : Option Sign) → (b ≡ true → sign_bytes sign ≡ want) → IsWritten rest → IsWritten (if b then Some sign else rest)
  pick true sign rest here there s e = let same : sign ≡ s = cc in subst (λ (x : Sign). sign_bytes x ≡ want) same (here refl)
  pick false sign rest here there s e = there s e

  pick_none : IsWritten None
  pick_none s e = absurd cc

one : (byte code : ℕ) → (byte == code) ≡ true → code ∷ [] ≡ byte ∷ []
one byte code e = ap (λ (x : ℕ). x ∷ []) (sym (same_byte byte code e))

both : (a b : Bool) → (a && b) ≡ true → (a ≡ true) × (b ≡ true)
both true true e = (refl, refl)
both true false e = absurd cc
both false b e = absurd cc

two : (first second a b : ℕ) → (first == a && second == b) ≡ true → a ∷ b ∷ [] ≡ first ∷ second ∷ []
two first second a b e =
    let parts = both (first == a) (second == b) e in
    ap (λ (x : ℕ). x ∷ b ∷ []) (sym (same_byte first a parts.0)) ∙ ap (λ (x : ℕ). first ∷ x ∷ []) (sym (same_byte second b parts.1))

byte_written : (byte : ℕ) → IsWritten (byte ∷ []) (sign_of_byte byte)
byte_written byte =
    pick w (byte == 61) Equals _ (one byte 61)
    (pick w (byte == 59) Semicolon _ (one byte 59)
    (pick w (byte == 40) Opening _ (one byte 40)
    (pick w (byte == 41) Closing _ (one byte 41)
    (pick w (byte == 44) Comma _ (one byte 44)
    (pick w (byte == 46) Dot _ (one byte 46)
    (pick w (byte == 43) Plus _ (one byte 43)
    (pick w (byte == 45) Minus _ (one byte 45)
    (pick w (byte == 42) Star _ (one byte 42)
    (pick w (byte == 47) Slash _ (one byte 47)
    (pick w (byte == 60) Less _ (one byte 60)
    (pick w (byte == 62) Greater _ (one byte 62)
    (pick w (byte == 33) Not _ (one byte 33)
    (pick w (byte == 124) Bar _ (one byte 124)
    (pick w (byte == 123) OpeningBrace _ (one byte 123)
    (pick w (byte == 125) ClosingBrace _ (one byte 125)
    (pick w (byte == 91) OpeningBracket _ (one byte 91)
    (pick w (byte == 93) ClosingBracket _ (one byte 93)
    (pick w (byte == 58) Colon _ (one byte 58)
    (pick w (byte == 63) Question _ (one byte 63) (pick_none w))))))))))))))))))))
  where
    w : List ℕ
    w = byte ∷ []

pair_written : (first second : ℕ) → IsWritten (first ∷ second ∷ []) (sign_of_pair first second)
pair_written first second =
    pick w (first == 38 && second == 38) And _ (two first second 38 38)
    (pick w (first == 124 && second == 124) Or _ (two first second 124 124)
    (pick w (first == 58 && second == 58) DoubleColon _ (two first second 58 58)
    (pick w (first == 60 && second == 61) LessOrEqual _ (two first second 60 61)
    (pick w (first == 62 && second == 61) GreaterOrEqual _ (two first second 62 61)
    (pick w (first == 61 && second == 61) EqualTo _ (two first second 61 61)
    (pick w (first == 33 && second == 61) NotEqualTo _ (two first second 33 61) (pick_none w)))))))
  where
    w : List ℕ
    w = first ∷ second ∷ []

-- ---- the first `*/`

found_block : (body : List ℕ) → IsOpen body ⊎ ((n : ℕ) × IsBlockBody body n)
found_block [] = inl (λ at close. let star : 0 ≡ 42 = close.0 in absurd (omega arith))
found_block (byte ∷ body) = by (byte == 42 && begins (λ b. b == 47) body) refl (found_block body)
  where
    opened : (byte == 42 && begins (λ b. b == 47) body) ≡ false → (front more : List ℕ) → body ≡ front ++ more → IsOpen front → IsOpen (byte ∷ front)
    opened none front more whole open_front zero close = absurd (clash front whole close.1)
      where
        clash : (front : List ℕ) → body ≡ front ++ more → slice_index front 0 ≡ 47 → ⊥
        clash [] e slash = absurd (omega arith)
        clash (next ∷ front) e slash =
            let star : byte ≡ 42 = close.0 in
            let same : next ≡ 47 = slash in
            let f : (byte == 42 && begins (λ b. b == 47) (next ∷ (front ++ more))) ≡ false = rw e at none in
            let g : (42 == 42 && begins (λ b. b == 47) (47 ∷ (front ++ more))) ≡ false = rw (star, same) at f in
            absurd cc
    opened none front more whole open_front (suc at) close = let e : suc at + 1 ≡ suc (at + 1) = omega arith in open_front at (close.0, rw e at close.1)

    by : (b : Bool) → (byte == 42 && begins (λ b. b == 47) body) ≡ b → IsOpen body ⊎ ((n : ℕ) × IsBlockBody body n) → IsOpen (byte ∷ body) ⊎ ((n : ℕ) × IsBlockBody (byte ∷ body) n)
    by true e rest =
        let parts = both (byte == 42) (begins (λ b. b == 47) body) e in
        inr (
          0,
          record {
            body = [];
            rest = drop 1 body;
            whole = ap (λ (x : ℕ). x ∷ body) (same_byte byte 42 parts.0) ∙ ap (λ (x : List ℕ). 42 ∷ x) (begins_byte 47 body (drop 1 body) parts.1 refl);
            open_body = λ at close. let star : 0 ≡ 42 = close.0 in absurd (omega arith);
            len_is = refl;
          },
        )
    by false e (inl open_body) = inl (opened e body [] (sym (append-nil body)) open_body)
    by false e (inr (n, is)) = inr (
      suc n,
      record {
        body = byte ∷ is.body;
        rest = is.rest;
        whole = ap (λ (x : List ℕ). byte ∷ x) is.whole;
        open_body = opened e is.body (42 ∷ 47 ∷ is.rest) is.whole is.open_body;
        len_is = ap suc is.len_is;
      },
    )

-- ---- what stands in front of a text

-- a lexeme, and what stands behind it
record IsInFront (text : List ℕ) : Type 0 where
  lexeme : Lexeme
  rest : List ℕ
  whole : text ≡ spelled lexeme ++ rest
  form : IsLexeme lexeme
  ends : EndsBefore lexeme rest

front_from : (text : List ℕ) (scanned : _) → IsScanned text scanned → IsInFront text
front_from text scanned is = record { lexeme = is.lexeme; rest = is.rest; whole = is.whole; form = is.form; ends = is.ends }

module _ (text : List ℕ) (place : Place) where
  -- a lexeme, or what is refused
  abbrev FrontOrFault : Type 0
  FrontOrFault = IsInFront text ⊎ ((fault : LexFault) × Refuses text place fault)

  front : {scanned : _} → IsScanned text scanned → FrontOrFault
  front {scanned} is = inl (front_from text scanned is)

  some_name : begins is_letter text ≡ true → FrontOrFault
  some_name h =
      let within = prefix_len-le-length is_word_byte text in
      elim (cases_lt 64 (prefix_len is_word_byte text)) [
        | inl long ↦ inr (LongName place, (refl, long_name text (prefix_len is_word_byte text) h refl within long))
        | inr short ↦ front (name_scanned text (prefix_len is_word_byte text) (begins is_capital text) h refl within short refl)
      ]

  run : (is_kind : ℕ → Bool) (bytes : List ℕ) → IsRun is_kind bytes (take (prefix_len is_kind bytes) bytes) (drop (prefix_len is_kind bytes) bytes)
  run is_kind bytes = run_of is_kind bytes (take (prefix_len is_kind bytes) bytes) (drop (prefix_len is_kind bytes) bytes) (prefix_len is_kind bytes) refl refl refl

  some_fraction : (digits more behind rest : List ℕ) → begins is_digit text ≡ true → IsRun is_digit text digits (46 ∷ more) → IsRun is_digit more behind rest → FrontOrFault
  some_fraction digits more behind rest h before run_behind =
      let is = pointed_is text digits (46 ∷ more) more before h refl refl in
      elim (cases_lt 0 (length behind)) [
        | inr none ↦ inr (BadNumber place, (refl, no_fraction text digits more behind rest is run_behind (omega arith)))
        | inl some ↦ elim (cases_lt 30 (length digits + length behind)) [
          | inl many ↦ inr (BadNumber place, (refl, many_fraction text digits more behind rest is run_behind some many))
          | inr few ↦ elim (test (begins is_word_byte rest)) [
            | inl word ↦ inr (BadNumber place, (refl, letter_behind_fraction text digits more behind rest is run_behind some word))
            | inr ends ↦ front (pointed_scanned text digits more behind rest (digits_value_after 10 0 digits) (digits_value_after 10 (digits_value_after 10 0 digits) behind) is run_behind some few ends refl refl)
          ]
        ]
      ]

  some_number : begins is_digit text ≡ true → FrontOrFault
  some_number h =
      let n = prefix_len is_digit text in
      let digits = take n text in
      let rest = drop n text in
      let before = run is_digit text in
      elim (cases_lt 30 (length digits)) [
        | inl many ↦ inr (BadNumber place, (refl, many_digits text digits rest before h many))
        | inr few ↦ elim (test (begins is_word_byte rest)) [
          | inl word ↦ inr (BadNumber place, (refl, letter_behind_digits text digits rest before h word))
          | inr ends ↦ elim (test (begins (λ byte. byte == 46) rest)) [
            | inr no_point ↦ front (whole_scanned text digits rest (digits_value_after 10 0 digits) before h few ends no_point refl)
            | inl point ↦
                let more = drop 1 rest in
                let with_point : IsRun is_digit text digits (46 ∷ more) = subst (IsRun is_digit text digits) (begins_byte 46 rest more point refl) before in
                some_fraction digits more (take (prefix_len is_digit more) more) (drop (prefix_len is_digit more) more) h with_point (run is_digit more)
          ]
        ]
      ]

  some_slash : begins (λ byte. byte == 47) text ≡ true → FrontOrFault
  some_slash first =
      let behind = drop 1 text in
      elim (test (begins (λ byte. byte == 47) behind)) [
        | inl slash ↦
            let body = drop 1 behind in
            front (line_scanned text behind body (prefix_len (λ byte. not (is_line_feed byte)) body) first refl slash refl refl (prefix_len-le-length (λ byte. not (is_line_feed byte)) body))
        | inr no_slash ↦ elim (test (begins (λ byte. byte == 42) behind)) [
          | inl star ↦
              let body = drop 1 behind in
              elim (found_block body) [
                | inl open_body ↦ inr (OpenComment place, (refl, (body, begins_byte 47 text behind first refl ∙ ap (λ (x : List ℕ). 47 ∷ x) (begins_byte 42 behind body star refl), open_body)))
                | inr block ↦ front (block_scanned text behind body block.0 first refl star refl block.1)
              ]
          | inr no_star ↦ front (slash_scanned text behind first refl no_slash no_star)
        ]
      ]

abbrev NoPair : List ℕ → Type 0
NoPair text = (a b : ℕ) (more : List ℕ) → text ≡ a ∷ b ∷ more → sign_of_pair a b ≡ None

-- a sign of two bytes, or none
some_pair : (text : List ℕ) → ((sign : Sign) × IsLongestSign text sign 2) ⊎ NoPair text
some_pair [] = inr (λ a b more e. absurd cc)
some_pair (first ∷ []) = inr (λ a b more e. absurd cc)
some_pair (first ∷ second ∷ rest) = by (sign_of_pair first second) refl
  where
    by : (found : Option Sign) → sign_of_pair first second ≡ found → ((sign : Sign) × IsLongestSign (first ∷ second ∷ rest) sign 2) ⊎ ((a b : ℕ) (more : List ℕ) → first ∷ second ∷ rest ≡ a ∷ b ∷ more → sign_of_pair a b ≡ None)
    by (Some sign) e =
        let written : sign_bytes sign ≡ first ∷ second ∷ [] = pair_written first second sign e in
        inl (sign, pair_longest (first ∷ second ∷ rest) rest sign first second (ap (λ (x : List ℕ). x ++ rest) (sym written)) written)
    by None e = inr (λ a b more same. let x : first ≡ a = cc in let y : second ≡ b = cc in subst (λ (n : ℕ). sign_of_pair n b ≡ None) x (subst (λ (n : ℕ). sign_of_pair first n ≡ None) y e))

some_front : (byte : ℕ) (text : List ℕ) (place : Place) → FrontOrFault (byte ∷ text) place
some_front byte text place =
    elim (test (is_space byte)) [
      | inl space ↦ front (byte ∷ text) place (blank_scanned (byte ∷ text) space)
      | inr no_space ↦ elim (test (is_letter byte)) [
        | inl letter ↦ some_name (byte ∷ text) place letter
        | inr no_letter ↦ elim (test (is_digit byte)) [
          | inl digit ↦ some_number (byte ∷ text) place digit
          | inr no_digit ↦ elim (test (byte == 47)) [
            | inl slash ↦ some_slash (byte ∷ text) place slash
            | inr no_slash ↦ elim (some_pair (byte ∷ text)) [
              | inl pair ↦ front (byte ∷ text) place (mark_scanned (byte ∷ text) pair.0 2 pair.1)
              | inr no_pair ↦ by_byte no_space no_letter no_digit no_slash no_pair (sign_of_byte byte) refl
            ]
          ]
        ]
      ]
    ]
  where
    by_byte : is_space byte ≡ false → is_letter byte ≡ false → is_digit byte ≡ false → (byte == 47) ≡ false → NoPair (byte ∷ text) → (found : Option Sign) → sign_of_byte byte ≡ found → FrontOrFault (byte ∷ text) place
    by_byte no_space no_letter no_digit no_slash no_pair (Some sign) e =
        front (byte ∷ text) place (mark_scanned (byte ∷ text) sign 1 (byte_longest (byte ∷ text) sign byte text refl (byte_written byte sign e) no_slash no_pair))
    by_byte no_space no_letter no_digit no_slash no_pair None e =
        inr (
          BadByte place,
          (
            refl,
            record {
              byte = byte;
              more = text;
              whole = refl;
              no_space = no_space;
              no_letter = no_letter;
              no_digit = no_digit;
              no_sign = λ sign rest. no_sign sign (byte ∷ text) text rest byte refl e no_pair;
            },
          ),
        )

-- ---- the whole input

mark_some : (sign : Sign) → 0 < length (sign_bytes sign)
mark_some sign = some (sign_bytes sign) (class-sign sign [] refl)
  where
    some : (bytes : List ℕ) → class (bytes ++ []) ≡ 6 → 0 < length bytes
    some [] e = absurd (omega (arith, e, class-nil))
    some (byte ∷ bytes) e = omega arith

begins_some : (is_kind : ℕ → Bool) (bytes : List ℕ) → begins is_kind bytes ≡ true → 0 < length bytes
begins_some is_kind [] e = absurd cc
begins_some is_kind (byte ∷ bytes) e = omega arith

some_bytes : (lexeme : Lexeme) → IsLexeme lexeme → 0 < length (spelled lexeme)
some_bytes (Blank byte) h = omega arith
some_bytes (LineComment body) h = omega arith
some_bytes (BlockComment body) h = omega arith
some_bytes (Word bytes) h = begins_some is_letter bytes h.0.0
some_bytes (Whole digits) h = begins_some is_digit digits h.0.0
some_bytes (Pointed digits behind) h = let len = length-append digits (46 ∷ behind) in omega arith
some_bytes (Mark sign) h = mark_some sign

module _ (input : List ℕ) where
  along : (n from : ℕ) (rest : List ℕ) (tokens : List Token) → length rest ≤ n → from ≤ length input → rest ≡ drop from input → IsDone input rest tokens → HasTokensOrFault input
  along n from [] tokens few within left done = inl (tokens ++ end_of input, (done.0, done.1, ap (λ (l : List Token). l ++ end_of input) done.2))
  along zero from (byte ∷ rest) tokens few within left done = absurd (omega arith)
  along (suc n) from (byte ∷ rest) tokens few within left done =
      elim (some_front byte rest (place_of input from)) [
        | inr refused ↦ inr (
          refused.0,
          record {
            at = from;
            lexemes = done.0;
            leads = subst (λ (l : List ℕ). StartsWithLexemes done.0 input l) left done.1;
            refuses = subst (λ (l : List ℕ). Refuses l (place_of input from) refused.0) left refused.1;
          },
        )
        | inl is ↦ next is (λ more after behind few within left done. along n more after behind few within left done)
      ]
    where
      next : IsInFront (byte ∷ rest) → ((from : ℕ) (rest : List ℕ) (tokens : List Token) → length rest ≤ n → from ≤ length input → rest ≡ drop from input → IsDone input rest tokens → HasTokensOrFault input) → HasTokensOrFault input
      next is further =
          let len = length (spelled is.lexeme) in
          let some = some_bytes is.lexeme is.form in
          let whole = ap length is.whole in
          let sizes = length-append (spelled is.lexeme) is.rest in
          let behind = length-drop from input in
          let size = ap length left in
          let after : is.rest ≡ drop (from + len) input =
          sym (drop_at (spelled is.lexeme) is.rest len refl) ∙ ap (λ (l : List ℕ). drop len l) (sym is.whole ∙ left) ∙ drop-drop len from input in
          further (from + len) is.rest (tokens ++ token_at (kind_of is.lexeme) (place_of input from) from (from + len)) (omega arith) (omega arith) after
          (done_more input (byte ∷ rest) is.rest from (from + len) tokens is.lexeme within left done is.whole is.form is.ends refl)

  pub some_tokens : HasTokensOrFault input
  some_tokens = along (length input) 0 input [] (omega arith) (omega arith) refl ([], refl, refl)
