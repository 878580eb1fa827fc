-- The lexemes of what a model's text is made of: names, rates, components and sets, each before any text that has lexemes.
use Rattle.std.proofs.Common.{◌≡◌, ℕ, zero, suc, ◌<◌, ◌==◌, ◌||◌, Bool, true, false, if◌then◌else◌, List, [], ◌∷◌, ◌++◌, length, flat_map, codes, decimal, refl, sym, ◌∙◌, subst, arith, append_assoc}
use Rattle.std.specs.List.{AllByRecursion}
use Rattle.std.proofs.lemmas.Bool.Decides.{nat_tests}
use Rattle.std.proofs.lemmas.Option.{slice_get-get_or, same_Some}
use Rattle.pepa_rates.specs.Fraction.{Fraction, IsProper}
use Rattle.pepa_rates.specs.declared.rate.Rate.{Rate}
use Rattle.pepa_rates.specs.declared.rate.Rate.TheVariants.{Active, Passive}
use Rattle.pepa_lexer.specs.Bytes.{is_capital, is_letter, is_digit, is_word_byte, begins}
use Rattle.pepa_lexer.specs.Signs.{goes_on}
use Rattle.pepa_lexer.specs.declared.kinds.Sign.TheVariants.{Opening, Closing, Comma, Dot, Plus, Star, Slash, Less, Greater, Or, OpeningBrace, ClosingBrace}
use Rattle.pepa_model.specs.Expression.{Expression, Const, Prefixed, Chosen}
use Rattle.pepa_model.specs.PepaModel.{PepaModel, IsModel, IsNamed, IsSpelled}
use Rattle.pepa_text.specs.RateText.{fraction_text, is_one, rate_text}
use Rattle.pepa_text.specs.ComponentText.{operand_text, name_of, is_choice, prefix_text, expression_text}
use Rattle.pepa_text.specs.SetText.{further_text, set_text, sign_text, hiding_text}
use Rattle.pepa_model.specs.Spelling.{IsShortWord, IsWrittenRate, HasWrittenRates}
use Rattle.pepa_printer.proofs.Pieces.{Piece, sign_piece, number_piece, small_piece, capital_piece, fraction_pieces, rate_pieces, operand_pieces, prefix_pieces, expression_pieces, further_pieces, set_pieces, coop_pieces, hiding_pieces}
use Rattle.pepa_printer.proofs.DecimalDigits.{decimal_text}
use Rattle.pepa_printer.proofs.Lexed.{Lexes, as_written, after_sign, after_lone, after_space, after_small, after_capital, after_number}

-- before each text with lexemes that doesn't begin with a letter, a digit or `_`, the text is these pieces
abbrev pub Prints : List ℕ → List Piece → Type 0
Prints text pieces = (rest : List ℕ) (behind : List Piece) → begins is_word_byte rest ≡ false → Lexes rest behind → Lexes (text ++ rest) (pieces ++ behind)

pub after_both : (s t rest : List ℕ) (ps qs behind : List Piece) → Lexes (s ++ (t ++ rest)) (ps ++ (qs ++ behind)) → Lexes ((s ++ t) ++ rest) ((ps ++ qs) ++ behind)
after_both s t rest ps qs behind is =
    as_written (s ++ (t ++ rest)) ((s ++ t) ++ rest) (ps ++ (qs ++ behind)) ((ps ++ qs) ++ behind) (append_assoc s t rest) (append_assoc ps qs behind) is

-- ---- `/` before a number is no comment, and `<` before a name is not `<=`

digit_apart : (d : ℕ) → is_digit d ≡ true → goes_on Slash d ≡ false
digit_apart d h = grind (arith, nat_tests)

no_comment : (digits rest : List ℕ) → begins is_digit digits ≡ true → begins (goes_on Slash) (digits ++ rest) ≡ false
no_comment [] rest h = absurd cc
no_comment (d ∷ digits) rest h = digit_apart d h

letter_apart : (d : ℕ) → is_letter d ≡ true → goes_on Less d ≡ false
letter_apart d h = grind (arith, nat_tests)

no_order : (name rest : List ℕ) → begins is_letter name ≡ true → begins (goes_on Less) (name ++ rest) ≡ false
no_order [] rest h = absurd cc
no_order (d ∷ name) rest h = letter_apart d h

-- ---- rates

fraction_by : (b : Bool) (q : Fraction) (rest : List ℕ) (behind : List Piece) → IsProper q → begins (λ byte. is_word_byte byte || byte == 46) rest ≡ false → Lexes rest behind
    → Lexes ((if b then decimal q.num else decimal q.num ++ codes "/" ++ decimal q.den) ++ rest)
    ((if b then number_piece q.num ∷ [] else number_piece q.num ∷ sign_piece Slash ∷ number_piece q.den ∷ []) ++ behind)
fraction_by true q rest behind proper ends is = after_number q.num rest behind proper.in_range.0 ends is
fraction_by false q rest behind proper ends is =
    let text = decimal_text q.den proper.in_range.1 in
    as_written (decimal q.num ++ (47 ∷ (decimal q.den ++ rest))) ((decimal q.num ++ codes "/" ++ decimal q.den) ++ rest)
    (number_piece q.num ∷ sign_piece Slash ∷ number_piece q.den ∷ behind) (number_piece q.num ∷ sign_piece Slash ∷ number_piece q.den ∷ behind) (simp append_assoc) refl
    (after_number q.num (47 ∷ (decimal q.den ++ rest)) (sign_piece Slash ∷ number_piece q.den ∷ behind) proper.in_range.0 refl
    (after_sign Slash (decimal q.den ++ rest) (number_piece q.den ∷ behind) (no_comment (decimal q.den) rest text.digit)
    (after_number q.den rest behind proper.in_range.1 ends is)))

after_fraction : (q : Fraction) (rest : List ℕ) (behind : List Piece) → IsProper q → begins (λ byte. is_word_byte byte || byte == 46) rest ≡ false → Lexes rest behind
    → Lexes (fraction_text q ++ rest) (fraction_pieces q ++ behind)
after_fraction q rest behind proper ends is = fraction_by (q.den == 1) q rest behind proper ends is

infty_word : IsShortWord (codes "infty")
infty_word = ((refl, refl), omega arith)

weight_by : (b : Bool) (q : Fraction) (rest : List ℕ) (behind : List Piece) → IsProper q → Lexes (41 ∷ rest) behind
    → Lexes ((if b then codes "infty" else fraction_text q ++ codes "*infty") ++ 41 ∷ rest)
    ((if b then small_piece (codes "infty") ∷ [] else fraction_pieces q ++ sign_piece Star ∷ small_piece (codes "infty") ∷ []) ++ behind)
weight_by true q rest behind proper is = after_small (codes "infty") (41 ∷ rest) behind infty_word refl refl is
weight_by false q rest behind proper is =
    let unit = codes "infty" ++ (41 ∷ rest) in
    after_both (fraction_text q) (codes "*infty") (41 ∷ rest) (fraction_pieces q) (sign_piece Star ∷ small_piece (codes "infty") ∷ []) behind
    (after_fraction q (42 ∷ unit) (sign_piece Star ∷ small_piece (codes "infty") ∷ behind) proper refl
    (after_lone Star unit (small_piece (codes "infty") ∷ behind) (λ byte. refl) (after_small (codes "infty") (41 ∷ rest) behind infty_word refl refl is)))

-- a rate, before `)`
after_rate : (r : Rate) (rest : List ℕ) (behind : List Piece) → IsWrittenRate r → Lexes (41 ∷ rest) behind → Lexes (rate_text r ++ 41 ∷ rest) (rate_pieces r ++ behind)
after_rate (Active q) rest behind written is = after_fraction q (41 ∷ rest) behind written refl is
after_rate (Passive q) rest behind written is = weight_by (is_one q) q rest behind written.0 is

-- ---- brackets

pub after_operand : (b : Bool) (text : List ℕ) (pieces : List Piece) → Prints text pieces → Prints (operand_text b text) (operand_pieces b pieces)
after_operand false text pieces prints = prints
after_operand true text pieces prints = λ rest behind ends is.
    after_lone Opening ((text ++ codes ")") ++ rest) ((pieces ++ sign_piece Closing ∷ []) ++ behind) (λ byte. refl)
    (after_both text (codes ")") rest pieces (sign_piece Closing ∷ []) behind
    (prints (41 ∷ rest) (sign_piece Closing ∷ behind) refl (after_lone Closing rest behind (λ byte. refl) is)))

module _ (m : PepaModel) (sound : IsModel m) (words : IsSpelled m) where
  -- ---- names

  -- the name of a constant or an action type is a word, `tau` too, and its first letter says which of them it is of
  constant_word : (c : ℕ) → c < length m.constants → IsShortWord (name_of m.constants c) × (begins is_capital (name_of m.constants c) ≡ true)
  constant_word c within =
      let name = words.constants c (name_of m.constants c) (slice_get-get_or m.constants c [] within) in
      (name.0, name.1)

  action_word : (a : ℕ) → a < length m.actions → IsShortWord (name_of m.actions a) × (begins is_capital (name_of m.actions a) ≡ false)
  action_word zero within =
      let is : codes "tau" ≡ name_of m.actions 0 = sym (same_Some (name_of m.actions 0) (codes "tau") (sym (slice_get-get_or m.actions 0 [] within) ∙ sound.tau)) in
      subst (λ (name : List ℕ). IsShortWord name × (begins is_capital name ≡ false)) is (((refl, refl), omega arith), refl)
  action_word (suc a) within =
      let name = words.actions (suc a) (name_of m.actions (suc a)) (omega arith) (slice_get-get_or m.actions (suc a) [] within) in
      (name.0, name.1)

  pub prints_constant : (c : ℕ) → c < length m.constants → Prints (name_of m.constants c) (capital_piece (name_of m.constants c) ∷ [])
  prints_constant c within = λ rest behind ends is.
      let word = constant_word c within in
      after_capital (name_of m.constants c) rest behind word.0 word.1 ends is

  prints_action : (a : ℕ) → a < length m.actions → Prints (name_of m.actions a) (small_piece (name_of m.actions a) ∷ [])
  prints_action a within = λ rest behind ends is.
      let word = action_word a within in
      after_small (name_of m.actions a) rest behind word.0 word.1 ends is

  -- ---- components

  after_prefix : (a : ℕ) (r : Rate) (rest : List ℕ) (behind : List Piece) → a < length m.actions → IsWrittenRate r → Lexes rest behind
      → Lexes (prefix_text m a r ++ rest) (prefix_pieces m a r ++ behind)
  after_prefix a r rest behind within written is =
      let name = name_of m.actions a in
      let closed = sign_piece Closing ∷ sign_piece Dot ∷ behind in
      as_written (40 ∷ (name ++ (44 ∷ 32 ∷ (rate_text r ++ (41 ∷ 46 ∷ rest))))) (prefix_text m a r ++ rest)
      (sign_piece Opening ∷ small_piece name ∷ sign_piece Comma ∷ (rate_pieces r ++ closed)) (prefix_pieces m a r ++ behind)
      (simp append_assoc) (simp append_assoc)
      (after_lone Opening (name ++ (44 ∷ 32 ∷ (rate_text r ++ (41 ∷ 46 ∷ rest)))) (small_piece name ∷ sign_piece Comma ∷ (rate_pieces r ++ closed)) (λ byte. refl)
      (prints_action a within (44 ∷ 32 ∷ (rate_text r ++ (41 ∷ 46 ∷ rest))) (sign_piece Comma ∷ (rate_pieces r ++ closed)) refl
      (after_lone Comma (32 ∷ (rate_text r ++ (41 ∷ 46 ∷ rest))) (rate_pieces r ++ closed) (λ byte. refl)
      (after_space (rate_text r ++ (41 ∷ 46 ∷ rest)) (rate_pieces r ++ closed)
      (after_rate r (46 ∷ rest) closed written
      (after_lone Closing (46 ∷ rest) (sign_piece Dot ∷ behind) (λ byte. refl) (after_lone Dot rest behind (λ byte. refl) is)))))))

  pub prints_expression : (e : Expression) → IsNamed m e → HasWrittenRates e → Prints (expression_text m e) (expression_pieces m e)
  prints_expression (Const c) named rates = prints_constant c named
  prints_expression (Prefixed a r next) named rates = λ rest behind ends is.
      let text = operand_text (is_choice next) (expression_text m next) in
      let pieces = operand_pieces (is_choice next) (expression_pieces m next) in
      let inner = after_operand (is_choice next) (expression_text m next) (expression_pieces m next) (prints_expression next named.1 rates.1) rest behind ends is in
      after_both (prefix_text m a r) text rest (prefix_pieces m a r) pieces behind (after_prefix a r (text ++ rest) (pieces ++ behind) named.0 rates.0 inner)
  prints_expression (Chosen x y) named rates = λ rest behind ends is.
      let text = operand_text (is_choice y) (expression_text m y) in
      let pieces = operand_pieces (is_choice y) (expression_pieces m y) in
      let right = after_operand (is_choice y) (expression_text m y) (expression_pieces m y) (prints_expression y named.1 rates.1) rest behind ends is in
      as_written (expression_text m x ++ (32 ∷ 43 ∷ 32 ∷ (text ++ rest))) (expression_text m (Chosen x y) ++ rest)
      (expression_pieces m x ++ (sign_piece Plus ∷ (pieces ++ behind))) (expression_pieces m (Chosen x y) ++ behind)
      (simp append_assoc) (simp append_assoc)
      (prints_expression x named.0 rates.0 (32 ∷ 43 ∷ 32 ∷ (text ++ rest)) (sign_piece Plus ∷ (pieces ++ behind)) refl
      (after_space (43 ∷ 32 ∷ (text ++ rest)) (sign_piece Plus ∷ (pieces ++ behind))
      (after_lone Plus (32 ∷ (text ++ rest)) (pieces ++ behind) (λ byte. refl) (after_space (text ++ rest) (pieces ++ behind) right))))

  -- ---- sets

  -- behind a set's first name stands a comma, or what stands behind the set
  further_ends : (set rest : List ℕ) → begins is_word_byte rest ≡ false → begins is_word_byte (flat_map (further_text m) set ++ rest) ≡ false
  further_ends [] rest h = h
  further_ends (a ∷ set) rest h = refl

  prints_further : (set : List ℕ) → AllByRecursion (λ a. a < length m.actions) set → Prints (flat_map (further_text m) set) (flat_map (further_pieces m) set)
  prints_further [] known = λ rest behind ends is. is
  prints_further (a ∷ set) known = λ rest behind ends is.
      let texts = flat_map (further_text m) set in
      let pieces = flat_map (further_pieces m) set in
      after_both (further_text m a) texts rest (further_pieces m a) pieces behind
      (after_lone Comma (name_of m.actions a ++ (texts ++ rest)) (small_piece (name_of m.actions a) ∷ (pieces ++ behind)) (λ byte. refl)
      (prints_action a known.0 (texts ++ rest) (pieces ++ behind) (further_ends set rest ends) (prints_further set known.1 rest behind ends is)))

  prints_set : (set : List ℕ) → AllByRecursion (λ a. a < length m.actions) set → Prints (set_text m set) (set_pieces m set)
  prints_set [] known = λ rest behind ends is. is
  prints_set (a ∷ set) known = λ rest behind ends is.
      let texts = flat_map (further_text m) set in
      let pieces = flat_map (further_pieces m) set in
      after_both (name_of m.actions a) texts rest (small_piece (name_of m.actions a) ∷ []) pieces behind
      (prints_action a known.0 (texts ++ rest) (pieces ++ behind) (further_ends set rest ends) (prints_further set known.1 rest behind ends is))

  -- the sign of a cooperation, before a space
  pub after_coop : (set rest : List ℕ) (behind : List Piece) → AllByRecursion (λ a. a < length m.actions) set → Lexes (32 ∷ rest) behind
      → Lexes (sign_text m set ++ 32 ∷ rest) (coop_pieces m set ++ behind)
  after_coop [] rest behind known is = after_lone Or (32 ∷ rest) behind (λ byte. refl) is
  after_coop (a ∷ set) rest behind known is =
      let text = set_text m (a ∷ set) in
      let pieces = set_pieces m (a ∷ set) in
      let texts = flat_map (further_text m) set in
      let first = append_assoc (name_of m.actions a) texts (62 ∷ 32 ∷ rest) in
      let word = action_word a known.0 in
      let apart = subst (λ (l : List ℕ). begins (goes_on Less) l ≡ false) (sym first) (no_order (name_of m.actions a) (texts ++ (62 ∷ 32 ∷ rest)) word.0.0.0) in
      as_written (60 ∷ (text ++ (62 ∷ 32 ∷ rest))) (sign_text m (a ∷ set) ++ 32 ∷ rest)
      (sign_piece Less ∷ (pieces ++ (sign_piece Greater ∷ behind))) (coop_pieces m (a ∷ set) ++ behind)
      (simp append_assoc) (simp append_assoc)
      (after_sign Less (text ++ (62 ∷ 32 ∷ rest)) (pieces ++ (sign_piece Greater ∷ behind)) apart
      (prints_set (a ∷ set) known (62 ∷ 32 ∷ rest) (sign_piece Greater ∷ behind) refl (after_sign Greater (32 ∷ rest) behind refl is)))

  pub after_hiding : (set rest : List ℕ) (behind : List Piece) → AllByRecursion (λ a. a < length m.actions) set → Lexes rest behind
      → Lexes (hiding_text m set ++ rest) (hiding_pieces m set ++ behind)
  after_hiding set rest behind known is =
      let text = set_text m set in
      let pieces = set_pieces m set in
      as_written (47 ∷ 123 ∷ (text ++ (125 ∷ rest))) (hiding_text m set ++ rest)
      (sign_piece Slash ∷ sign_piece OpeningBrace ∷ (pieces ++ (sign_piece ClosingBrace ∷ behind))) (hiding_pieces m set ++ behind)
      (simp append_assoc) (simp append_assoc)
      (after_sign Slash (123 ∷ (text ++ (125 ∷ rest))) (sign_piece OpeningBrace ∷ (pieces ++ (sign_piece ClosingBrace ∷ behind))) refl
      (after_lone OpeningBrace (text ++ (125 ∷ rest)) (pieces ++ (sign_piece ClosingBrace ∷ behind)) (λ byte. refl)
      (prints_set set known (125 ∷ rest) (sign_piece ClosingBrace ∷ behind) refl (after_lone ClosingBrace rest behind (λ byte. refl) is))))
