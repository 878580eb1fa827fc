-- The names among the tokens of a text are spelled as names are.
use Rattle.std.proofs.Common.{◌≡◌, ℕ, zero, suc, ◌+◌, ◌-◌, ◌⊎◌, inl, inr, Bool, true, false, if◌then◌else◌, List, [], ◌∷◌, ◌++◌, length, drop, nat_eq, Option, Some, None, slice_get, option_map, codes, refl, sym, ap, ◌∙◌, subst, arith}
use Rattle.std.specs.Prelude.{slice_range}
use Rattle.std.specs.List.{AllByRecursion}
use Rattle.std.specs.Cmp.Lexicographic.{pointwise, bytes_decides}
use Rattle.std.proofs.lemmas.List.{take_at, drop_at, drop-drop}
use Rattle.std.proofs.lemmas.Option.{slice_get-map, same_Some}
use Rattle.pepa_lexer.specs.Bytes.{is_capital, begins}
use Rattle.pepa_lexer.specs.Lexemes.{Lexeme, Blank, LineComment, BlockComment, Word, Whole, Pointed, Mark, spelled, IsLexeme, StartsWithLexemes}
use Rattle.pepa_lexer.specs.TokenLists.{place_of, kind_of, token_at, tokens_along, end_of, IsTokens}
use Rattle.pepa_lexer.specs.declared.kinds.Kind.{Kind}
use Rattle.pepa_lexer.specs.declared.kinds.Kind.TheVariants as kinds
use Rattle.pepa_lexer.specs.declared.kinds.Token.{Token}
use Rattle.token_grammar.specs.SmallNames.{Plain, Probing}
use Rattle.pepa_reader.specs.Grammar as g
use Rattle.pepa_reader.specs.Grammar.{word_spelled}
use Rattle.token_grammar.specs.declared.terminal.Terminal.{Terminal}
use Rattle.token_grammar.specs.declared.terminal.Terminal.TheVariants as terminal
use Rattle.token_grammar.specs.Terminals.{text_of, terminal_from, terminal_of, terminals, bytes_of, name_at}
use Rattle.pepa_model.specs.Spelling.{IsShortWord, IsConstantName, IsActionName}

-- ---- tokens as lexemes

-- a token is a lexeme of its kind, with its bytes
record IsLexed (input : List ℕ) (token : Token) : Type 0 where
  lexeme : Lexeme
  form : IsLexeme lexeme
  kind : kind_of lexeme ≡ Some token.kind
  text : text_of input token ≡ spelled lexeme

-- or the end
abbrev IsLexedOrEnd : List ℕ → Token → Type 0
IsLexedOrEnd input token = IsLexed input token ⊎ (token.kind ≡ kinds.End)

text_at : (input front more : List ℕ) (at : ℕ) → drop at input ≡ front ++ more → slice_range input at (at + length front) ≡ front
text_at input front more at e =
    let len : at + length front - at ≡ length front = omega arith in
    rw (len, e) (take_at front more (length front) refl)

rest_at : (input front more : List ℕ) (at : ℕ) → drop at input ≡ front ++ more → drop (at + length front) input ≡ more
rest_at input front more at e = sym (drop-drop (length front) at input) ∙ ap (drop (length front)) e ∙ drop_at front more (length front) refl

all_lexed : (input : List ℕ) (lexemes : List Lexeme) (bytes : List ℕ) (at : ℕ) → drop at input ≡ bytes → StartsWithLexemes lexemes bytes [] → AllByRecursion (IsLexedOrEnd input) (tokens_along input at lexemes ++ end_of input)
all_lexed input [] bytes at e leads = (inr refl, tt)
all_lexed input (lexeme ∷ lexemes) bytes at e leads =
    let whole : drop at input ≡ spelled lexeme ++ leads.0 = e ∙ leads.1 in
    by (kind_of lexeme) refl (text_at input (spelled lexeme) leads.0 at whole)
    (all_lexed input lexemes leads.0 (at + length (spelled lexeme)) (rest_at input (spelled lexeme) leads.0 at whole) leads.4)
  where
    by : (kind : Option Kind) → kind_of lexeme ≡ kind → slice_range input at (at + length (spelled lexeme)) ≡ spelled lexeme
        → AllByRecursion (IsLexedOrEnd input) (tokens_along input (at + length (spelled lexeme)) lexemes ++ end_of input)
        → AllByRecursion (IsLexedOrEnd input) ((token_at kind (place_of input at) at (at + length (spelled lexeme)) ++ tokens_along input (at + length (spelled lexeme)) lexemes) ++ end_of input)
    by None k text rest = rest
    by (Some kind) k text rest = (inl (record { lexeme = lexeme; form = leads.2; kind = k; text = text }), rest)

at_index : {X : Type 0} (P : X → Type 0) (xs : List X) (i : ℕ) (x : X) → AllByRecursion P xs → slice_get xs i ≡ Some x → P x
at_index P [] i x h is = absurd cc
at_index P (y ∷ xs) zero x h is = subst P (same_Some y x is) h.0
at_index P (y ∷ xs) (suc i) x h is = at_index P xs i x h.1 is

token_lexed : (input : List ℕ) (tokens : List Token) (i : ℕ) (token : Token) → IsTokens input tokens → slice_get tokens i ≡ Some token → IsLexedOrEnd input token
token_lexed input tokens i token are is =
    at_index (IsLexedOrEnd input) tokens i token (subst (AllByRecursion (IsLexedOrEnd input)) (sym are.2) (all_lexed input are.0 input 0 refl are.1)) is

-- ---- the names of constants

not_same : (bytes other : List ℕ) → pointwise nat_eq bytes other ≡ false → ¬ (bytes ≡ other)
not_same bytes other test same = let yes = (bytes_decides bytes other).1 same in absurd cc

capital_word : (bytes : List ℕ) (b : Bool) → IsShortWord bytes → begins is_capital bytes ≡ b → terminal_from (if b then kinds.Capital else kinds.Small) bytes ≡ terminal.Capital → IsConstantName bytes
capital_word bytes true short is e = by (pointwise nat_eq bytes (codes "T")) refl e
  where
    by : (b : Bool) → pointwise nat_eq bytes (codes "T") ≡ b → (if b then terminal.Top else terminal.Capital) ≡ terminal.Capital → IsConstantName bytes
    by true test h = absurd cc
    by false test h = (short, is, not_same bytes (codes "T") test)
capital_word bytes false short is e = absurd (by (pointwise nat_eq bytes (codes "infty")) (pointwise nat_eq bytes (codes "tau")) (pointwise nat_eq bytes (codes "probe")) e)
  where
    by : (a b c : Bool) → (if a then terminal.Top else (if b then terminal.Tau else (if c then terminal.Probe else terminal.Small))) ≡ terminal.Capital → ⊥
    by true b c h = cc
    by false true c h = cc
    by false false true h = cc
    by false false false h = cc

capital_lexeme : (lexeme : Lexeme) (kind : Kind) → IsLexeme lexeme → kind_of lexeme ≡ Some kind → terminal_from kind (spelled lexeme) ≡ terminal.Capital → IsConstantName (spelled lexeme)
capital_lexeme (Blank byte) kind form is e = absurd cc
capital_lexeme (LineComment body) kind form is e = absurd cc
capital_lexeme (BlockComment body) kind form is e = absurd cc
capital_lexeme (Word bytes) kind form is e =
    let same : (if begins is_capital bytes then kinds.Capital else kinds.Small) ≡ kind = same_Some _ kind is in
    capital_word bytes (begins is_capital bytes) form refl (ap (λ (k : Kind). terminal_from k bytes) same ∙ e)
capital_lexeme (Whole digits) kind form is e = let same = same_Some _ kind is in let k = ap (λ (k : Kind). terminal_from k digits) same ∙ e in absurd cc
capital_lexeme (Pointed digits behind) kind form is e = let same = same_Some _ kind is in let k = ap (λ (k : Kind). terminal_from k (spelled (Pointed digits behind))) same ∙ e in absurd cc
capital_lexeme (Mark sign) kind form is e = let same = same_Some _ kind is in let k = ap (λ (k : Kind). terminal_from k (spelled (Mark sign))) same ∙ e in absurd cc

-- ---- the names of action types

abbrev IsTauOrAction : List ℕ → Type 0
IsTauOrAction bytes = (bytes ≡ codes "tau") ⊎ IsActionName bytes

no_top : (word : g.Word) → ¬ (terminal.Top ≡ word_spelled word)
no_top (g.Named Plain) h = cc
no_top (g.Named Probing) h = cc
no_top g.Internal h = cc

no_capital : (word : g.Word) → ¬ (terminal.Capital ≡ word_spelled word)
no_capital (g.Named Plain) h = cc
no_capital (g.Named Probing) h = cc
no_capital g.Internal h = cc

no_number : (word : g.Word) → ¬ (terminal.Number ≡ word_spelled word)
no_number (g.Named Plain) h = cc
no_number (g.Named Probing) h = cc
no_number g.Internal h = cc

no_end : (word : g.Word) → ¬ (terminal.End ≡ word_spelled word)
no_end (g.Named Plain) h = cc
no_end (g.Named Probing) h = cc
no_end g.Internal h = cc

module _ (word : g.Word) where
  small_word : (bytes : List ℕ) (b : Bool) → IsShortWord bytes → begins is_capital bytes ≡ b → terminal_from (if b then kinds.Capital else kinds.Small) bytes ≡ word_spelled word → IsTauOrAction bytes
  small_word bytes true short is e = absurd (by (pointwise nat_eq bytes (codes "T")) e)
    where
      by : (b : Bool) → (if b then terminal.Top else terminal.Capital) ≡ word_spelled word → ⊥
      by true h = no_top word h
      by false h = no_capital word h
  small_word bytes false short is e = by (pointwise nat_eq bytes (codes "infty")) (pointwise nat_eq bytes (codes "tau")) (pointwise nat_eq bytes (codes "probe")) refl refl e
    where
      by : (a b c : Bool) → pointwise nat_eq bytes (codes "infty") ≡ a → pointwise nat_eq bytes (codes "tau") ≡ b → (if a then terminal.Top else (if b then terminal.Tau else (if c then terminal.Probe else terminal.Small))) ≡ word_spelled word → (bytes ≡ codes "tau") ⊎ IsActionName bytes
      by true b c infty tau h = absurd (no_top word h)
      by false true c infty tau h = inl ((bytes_decides bytes (codes "tau")).0 tau)
      by false false c infty tau h = inr (short, is, not_same bytes (codes "infty") infty, not_same bytes (codes "tau") tau)

  small_lexeme : (lexeme : Lexeme) (kind : Kind) → IsLexeme lexeme → kind_of lexeme ≡ Some kind → terminal_from kind (spelled lexeme) ≡ word_spelled word → IsTauOrAction (spelled lexeme)
  small_lexeme (Blank byte) kind form is e = absurd cc
  small_lexeme (LineComment body) kind form is e = absurd cc
  small_lexeme (BlockComment body) kind form is e = absurd cc
  small_lexeme (Word bytes) kind form is e =
      let same : (if begins is_capital bytes then kinds.Capital else kinds.Small) ≡ kind = same_Some _ kind is in
      small_word bytes (begins is_capital bytes) form refl (ap (λ (k : Kind). terminal_from k bytes) same ∙ e)
  small_lexeme (Whole digits) kind form is e = let same = same_Some _ kind is in absurd (no_number word (ap (λ (k : Kind). terminal_from k digits) same ∙ e))
  small_lexeme (Pointed digits behind) kind form is e = let same = same_Some _ kind is in absurd (no_number word (ap (λ (k : Kind). terminal_from k (spelled (Pointed digits behind))) same ∙ e))
  small_lexeme (Mark sign) kind form is e = let same = same_Some _ kind is in absurd (no_mark (ap (λ (k : Kind). terminal_from k (spelled (Mark sign))) same ∙ e))
    where
      no_mark : ¬ (terminal.Mark sign ≡ word_spelled word)
      no_mark h = by word h
        where
          by : (w : g.Word) → ¬ (terminal.Mark sign ≡ word_spelled w)
          by (g.Named Plain) h = cc
          by (g.Named Probing) h = cc
          by g.Internal h = cc

-- ---- at an index

module _ (input : List ℕ) (tokens : List Token) (i : ℕ) (are : IsTokens input tokens) where
  terminal_there : (token : Token) (t : Terminal) → slice_get tokens i ≡ Some token → slice_get (terminals input tokens) i ≡ Some t → terminal_of input token ≡ t
  terminal_there token t is at = same_Some (terminal_of input token) t (sym (slice_get-map (terminal_of input) tokens i ∙ ap (option_map (terminal_of input)) is) ∙ at)

  none_there : (t : Terminal) → slice_get tokens i ≡ None → slice_get (terminals input tokens) i ≡ Some t → ⊥
  none_there t none at = let e : slice_get (terminals input tokens) i ≡ None = slice_get-map (terminal_of input) tokens i ∙ ap (option_map (terminal_of input)) none in absurd cc

  pub constant_name : slice_get (terminals input tokens) i ≡ Some terminal.Capital → IsConstantName (name_at input tokens i)
  constant_name at = by (slice_get tokens i) refl
    where
      of_token : (token : Token) → terminal_of input token ≡ terminal.Capital → IsLexedOrEnd input token → IsConstantName (text_of input token)
      of_token token e (inl lexed) =
          subst IsConstantName (sym lexed.text) (capital_lexeme lexed.lexeme token.kind lexed.form lexed.kind (ap (terminal_from token.kind) (sym lexed.text) ∙ e))
      of_token token e (inr end) = let k = ap (λ (k : Kind). terminal_from k (text_of input token)) (sym end) ∙ e in absurd cc

      by : (o : Option Token) → slice_get tokens i ≡ o → IsConstantName (bytes_of input o)
      by None is = absurd (none_there terminal.Capital is at)
      by (Some token) is = of_token token (terminal_there token terminal.Capital is at) (token_lexed input tokens i token are is)

  pub action_name : (word : g.Word) → slice_get (terminals input tokens) i ≡ Some (word_spelled word) → (name_at input tokens i ≡ codes "tau") ⊎ IsActionName (name_at input tokens i)
  action_name word at = by (slice_get tokens i) refl
    where
      of_token : (token : Token) → terminal_of input token ≡ word_spelled word → IsLexedOrEnd input token → (text_of input token ≡ codes "tau") ⊎ IsActionName (text_of input token)
      of_token token e (inl lexed) =
          subst (λ (bytes : List ℕ). (bytes ≡ codes "tau") ⊎ IsActionName bytes) (sym lexed.text)
          (small_lexeme word lexed.lexeme token.kind lexed.form lexed.kind (ap (terminal_from token.kind) (sym lexed.text) ∙ e))
      of_token token e (inr end) = absurd (no_end word (ap (λ (k : Kind). terminal_from k (text_of input token)) (sym end) ∙ e))

      by : (o : Option Token) → slice_get tokens i ≡ o → (bytes_of input o ≡ codes "tau") ⊎ IsActionName (bytes_of input o)
      by None is = absurd (none_there (word_spelled word) is at)
      by (Some token) is = of_token token (terminal_there token (word_spelled word) is at) (token_lexed input tokens i token are is)
