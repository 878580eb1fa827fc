-- What stands in front of a text, as a lexeme.
use Rattle.std.proofs.Common.{◌≡◌, ℕ, ◌+◌, ◌<◌, ◌≤◌, ◌==◌, Bool, true, false, not, cond, List, [], ◌∷◌, ◌++◌, length, take, drop, Some, None, refl, sym, ap, ◌∙◌, arith, inl, inr, append_assoc, length-append}
use Rattle.std.specs.List.{prefix_len}
use Rattle.std.proofs.lemmas.List.{length-take-le}
use Rattle.std.specs.Str.Parse.{digits_value_after}
use Rattle.pepa_lexer.specs.Bytes.{is_space, is_digit, is_letter, is_capital, is_word_byte, is_line_feed, begins}
use Rattle.pepa_lexer.specs.Signs.{IsLongestSign}
use Rattle.pepa_lexer.specs.Lexemes.{Blank, LineComment, BlockComment, Word, Whole, Pointed, Mark}
use Rattle.pepa_lexer.specs.Faults.{BeginsBadNumber, BeginsLongName}
use Rattle.pepa_lexer.specs.Scans.{IsScanned, IsBlockBody}
use Rattle.pepa_lexer.specs.declared.kinds.Kind.TheVariants.{Small, Capital, Number, Sign}
use Rattle.pepa_lexer.specs.declared.kinds.Sign.TheVariants.{Slash}
use Rattle.pepa_lexer.specs.declared.kinds.Sign as S
use Rattle.pepa_lexer.proofs.Runs.{IsRun, run_of, begins_either, begins_byte, name_run, digits_are, all_begins}
use Rattle.pepa_lexer.proofs.Numbers.{digits_value_after-append}

pub blank_scanned : (text : List ℕ) → begins is_space text ≡ true → IsScanned text (record { kind = None; len = 1 })
blank_scanned [] h = absurd cc
blank_scanned (byte ∷ text) h = record { lexeme = Blank byte; rest = text; whole = refl; form = h; ends = tt; kind = refl; len = refl }

pub mark_scanned : (text : List ℕ) (sign : S.Sign) (len : ℕ) → IsLongestSign text sign len → IsScanned text (record { kind = Some (Sign sign); len = len })
mark_scanned text sign len is = record { lexeme = Mark sign; rest = is.rest; whole = is.whole; form = tt; ends = is.ends; kind = refl; len = is.len_is }

-- ---- names

pub long_name : (text : List ℕ) (n : ℕ) → begins is_letter text ≡ true → n ≡ prefix_len is_word_byte text → n ≤ length text → 64 < n → BeginsLongName text
long_name text n h len within long =
    let run = name_run text n h len in
    (take n text, drop n text, run.whole, run.word, rw (run.len within) long)

pub name_scanned : (text : List ℕ) (n : ℕ) (b : Bool) → begins is_letter text ≡ true → n ≡ prefix_len is_word_byte text → n ≤ length text → n ≤ 64 → begins is_capital text ≡ b → IsScanned text (record { kind = Some (cond b Capital Small); len = n })
name_scanned text n b h len within short capital =
    let run = name_run text n h len in
    record {
      lexeme = Word (take n text);
      rest = drop n text;
      whole = run.whole;
      form = (run.word, rw (run.len within) short);
      ends = run.stops;
      kind = ap (λ (x : Bool). Some (cond x Capital Small)) (sym (run.capital ∙ capital));
      len = sym (run.len within);
    }

-- ---- comments and `/`

pub line_scanned : (text behind body : List ℕ) (n : ℕ) → begins (λ byte. byte == 47) text ≡ true → behind ≡ drop 1 text → begins (λ byte. byte == 47) behind ≡ true → body ≡ drop 1 behind → n ≡ prefix_len (λ byte. not (is_line_feed byte)) body → n ≤ length body → IsScanned text (record { kind = None; len = 2 + n })
line_scanned text behind body n first e second f len within =
    let a = begins_byte 47 text behind first e in
    let b = begins_byte 47 behind body second f in
    let run = run_of (λ byte. not (is_line_feed byte)) body (take n body) (drop n body) n len refl refl in
    record {
      lexeme = LineComment (take n body);
      rest = drop n body;
      whole = a ∙ ap (λ (x : List ℕ). 47 ∷ x) b ∙ ap (λ (x : List ℕ). 47 ∷ 47 ∷ x) run.whole;
      form = run.all;
      ends = run.stops;
      kind = refl;
      len = let l = length-take-le n body within in omega arith;
    }

pub block_scanned : (text behind body : List ℕ) (n : ℕ) → begins (λ byte. byte == 47) text ≡ true → behind ≡ drop 1 text → begins (λ byte. byte == 42) behind ≡ true → body ≡ drop 1 behind → IsBlockBody body n → IsScanned text (record { kind = None; len = n + 4 })
block_scanned text behind body n first e second f is =
    let a = begins_byte 47 text behind first e in
    let b = begins_byte 42 behind body second f in
    let c : body ≡ (is.body ++ (42 ∷ 47 ∷ [])) ++ is.rest = is.whole ∙ sym (append_assoc is.body (42 ∷ 47 ∷ []) is.rest) in
    record {
      lexeme = BlockComment is.body;
      rest = is.rest;
      whole = a ∙ ap (λ (x : List ℕ). 47 ∷ x) b ∙ ap (λ (x : List ℕ). 47 ∷ 42 ∷ x) c;
      form = is.open_body;
      ends = tt;
      kind = refl;
      len = let l = length-append is.body (42 ∷ 47 ∷ []) in let m = is.len_is in omega arith;
    }

pub slash_scanned : (text behind : List ℕ) → begins (λ byte. byte == 47) text ≡ true → behind ≡ drop 1 text → begins (λ byte. byte == 47) behind ≡ false → begins (λ byte. byte == 42) behind ≡ false → IsScanned text (record { kind = Some (Sign Slash); len = 1 })
slash_scanned text behind first e slash star =
    record {
      lexeme = Mark Slash;
      rest = behind;
      whole = begins_byte 47 text behind first e;
      form = tt;
      ends = begins_either (λ byte. byte == 47) (λ byte. byte == 42) behind slash star;
      kind = refl;
      len = refl;
    }

-- ---- numbers

pub digits_of : (text digits rest : List ℕ) (n : ℕ) → n ≡ prefix_len is_digit text → digits ≡ take n text → rest ≡ drop n text → IsRun is_digit text digits rest
digits_of text digits rest n len front back = run_of is_digit text digits rest n len front back

pub many_digits : (text digits rest : List ℕ) → IsRun is_digit text digits rest → begins is_digit text ≡ true → 30 < length digits → BeginsBadNumber text
many_digits text digits rest run h many = (digits, rest, run.whole, digits_are text digits rest run h, run.stops, inl many)

pub letter_behind_digits : (text digits rest : List ℕ) → IsRun is_digit text digits rest → begins is_digit text ≡ true → begins is_word_byte rest ≡ true → BeginsBadNumber text
letter_behind_digits text digits rest run h word = (digits, rest, run.whole, digits_are text digits rest run h, run.stops, inr (inl word))

pub whole_scanned : (text digits rest : List ℕ) (value : ℕ) → IsRun is_digit text digits rest → begins is_digit text ≡ true → length digits ≤ 30 → begins is_word_byte rest ≡ false → begins (λ byte. byte == 46) rest ≡ false → value ≡ digits_value_after 10 0 digits → IsScanned text (record { kind = Some (Number value 0); len = length digits })
whole_scanned text digits rest value run h few word point is =
    record {
      lexeme = Whole digits;
      rest = rest;
      whole = run.whole;
      form = (digits_are text digits rest run h, few);
      ends = begins_either is_word_byte (λ byte. byte == 46) rest word point;
      kind = ap (λ (x : ℕ). Some (Number x 0)) is;
      len = refl;
    }

-- the digits before the point, and the bytes behind it
pub record IsPointed (text digits more : List ℕ) : Type 0 where
  pub whole : text ≡ digits ++ (46 ∷ more)
  pub digits_is : IsRun is_digit text digits (46 ∷ more)
  pub first : begins is_digit text ≡ true

pub pointed_is : (text digits rest more : List ℕ) → IsRun is_digit text digits rest → begins is_digit text ≡ true → begins (λ byte. byte == 46) rest ≡ true → more ≡ drop 1 rest → IsPointed text digits more
pointed_is text digits rest more run h point e =
    let p = begins_byte 46 rest more point e in
    let r : IsRun is_digit text digits (46 ∷ more) = rw p at run in
    record { whole = r.whole; digits_is = r; first = h }

pub no_fraction : (text digits more behind rest : List ℕ) → IsPointed text digits more → IsRun is_digit more behind rest → length behind ≡ 0 → BeginsBadNumber text
no_fraction text digits more [] rest is run none =
    let stops : begins is_digit more ≡ false = rw run.whole run.stops in
    (digits, 46 ∷ more, is.whole, digits_are text digits (46 ∷ more) is.digits_is is.first, is.digits_is.stops, inr (inr (more, refl, inl stops)))
no_fraction text digits more (byte ∷ behind) rest is run none = absurd (omega arith)

pub many_fraction : (text digits more behind rest : List ℕ) → IsPointed text digits more → IsRun is_digit more behind rest → 0 < length behind → 30 < length digits + length behind → BeginsBadNumber text
many_fraction text digits more behind rest is run some many =
    (digits, 46 ∷ more, is.whole, digits_are text digits (46 ∷ more) is.digits_is is.first, is.digits_is.stops, inr (inr (more, refl, inr (behind, rest, run.whole, (all_begins is_digit behind run.all some, run.all), run.stops, inl many))))

pub letter_behind_fraction : (text digits more behind rest : List ℕ) → IsPointed text digits more → IsRun is_digit more behind rest → 0 < length behind → begins is_word_byte rest ≡ true → BeginsBadNumber text
letter_behind_fraction text digits more behind rest is run some word =
    (digits, 46 ∷ more, is.whole, digits_are text digits (46 ∷ more) is.digits_is is.first, is.digits_is.stops, inr (inr (more, refl, inr (behind, rest, run.whole, (all_begins is_digit behind run.all some, run.all), run.stops, inr word))))

pub pointed_scanned : (text digits more behind rest : List ℕ) (whole value : ℕ) → IsPointed text digits more → IsRun is_digit more behind rest → 0 < length behind → length digits + length behind ≤ 30 → begins is_word_byte rest ≡ false → whole ≡ digits_value_after 10 0 digits → value ≡ digits_value_after 10 whole behind → IsScanned text (record { kind = Some (Number value (length behind)); len = length digits + 1 + length behind })
pointed_scanned text digits more behind rest whole value is run some few word first second =
    let joined : value ≡ digits_value_after 10 0 (digits ++ behind) = second ∙ ap (λ (x : ℕ). digits_value_after 10 x behind) first ∙ sym (digits_value_after-append 0 digits behind) in
    record {
      lexeme = Pointed digits behind;
      rest = rest;
      whole = is.whole ∙ ap (λ (x : List ℕ). digits ++ (46 ∷ x)) run.whole ∙ sym (append_assoc digits (46 ∷ behind) rest);
      form = (digits_are text digits (46 ∷ more) is.digits_is is.first, (all_begins is_digit behind run.all some, run.all), few);
      ends = word;
      kind = ap (λ (x : ℕ). Some (Number x (length behind))) joined;
      len = let l = length-append digits (46 ∷ behind) in omega arith;
    }
