-- What `clap` sees in a word: an option, or no option.
use Rattle.std.proofs.Common.{◌≡◌, ◌≢◌, zero, suc, ℕ, List, [], ◌∷◌, Option, None, Some, Bool, true, false, not, eqb, refl, ap, arith}
use Rattle.std.proofs.lemmas.Bool.{ne_eqb, eqb-false, or_parts}
use Rattle.std.specs.Str.{bytes_eq}
use Rattle.clap.specs.Lexer.{long_of, short_of, has_byte}
use Rattle.clap.specs.Words.{Text}
use Rattle.clap.proofs.CutLemmas.{Lacks}
use Rattle.clap.proofs.LexerLemmas.{name_and_value-at, name_and_value-without}
use Rattle.call_words.specs.OptionUses.{BeginsWithHyphen, name_word, joined_word}
use Rattle.call_words.specs.OptionsApp.{is_option_name}

-- the word is an option with this name, and this value if one is joined to it
pub record IsLong (word name : Text) (value : Option Text) : Type 0 where
  pub other : bytes_eq word (45 ∷ 45 ∷ []) ≡ false
  pub parts : long_of word ≡ Some (name, value)

lacks_more : (c x : ℕ) (xs : List ℕ) → x ≢ c → Lacks c xs → Lacks c (x ∷ xs)
lacks_more c x xs other rest zero less = other
lacks_more c x xs other rest (suc i) less = rest i (omega (arith, less))

lacks : (c : ℕ) (xs : List ℕ) → has_byte c xs ≡ false → Lacks c xs
lacks c [] h = λ i less. absurd (omega arith)
lacks c (x ∷ xs) h =
    let parts = or_parts (eqb x c) (has_byte c xs) h in
    lacks_more c x xs (eqb-false x c parts.0) (lacks c xs parts.1)

not_true : (b : Bool) → not b ≡ true → b ≡ false
not_true true h = absurd cc
not_true false h = refl

pub joined_is_long : (name value : Text) → is_option_name name ≡ true → IsLong (joined_word name value) name (Some value)
joined_is_long [] value h = absurd cc
joined_is_long (x ∷ xs) value h = record {
  other = refl;
  parts = ap (λ (p : Text × Option Text). Some p) (name_and_value-at (x ∷ xs) value (lacks 61 (x ∷ xs) (not_true _ h)));
}

pub name_is_long : (name : Text) → is_option_name name ≡ true → IsLong (name_word name) name None
name_is_long [] h = absurd cc
name_is_long (x ∷ xs) h = record {
  other = refl;
  parts = ap (λ (p : Text × Option Text). Some p) (name_and_value-without (x ∷ xs) (lacks 61 (x ∷ xs) (not_true _ h)));
}

-- the word is no option
pub record IsPlain (word : Text) : Type 0 where
  pub other : bytes_eq word (45 ∷ 45 ∷ []) ≡ false
  pub not_long : long_of word ≡ None
  pub not_short : short_of word ≡ None

pub is_plain : (word : Text) → (BeginsWithHyphen word → ⊥) → IsPlain word
is_plain [] h = record { other = refl; not_long = refl; not_short = refl }
is_plain (x ∷ xs) h =
    let e = ne_eqb x 45 h in
    record { other = rw e refl; not_long = rw e refl; not_short = rw e refl }
