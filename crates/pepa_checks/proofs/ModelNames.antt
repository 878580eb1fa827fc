-- Names that are listed once, and the name `tau`.
use Rattle.std.proofs.Common.{◌≡◌, ℕ, zero, suc, Bool, true, false, cond, not, nat_eq, List, [], ◌∷◌, ◌++◌, map, bytes_eq, Option, Some, None, slice_get, codes, inl, inr, refl, sym, ap, subst}
use Rattle.std.specs.List.{Contains, AllByRecursion}
use Rattle.std.specs.Cmp.Lexicographic.{pointwise, bytes_decides}
use Rattle.std.proofs.lemmas.Slice.Eq.{bytes_eq-Decides}
use Rattle.pepa_lexer.specs.Bytes.{is_digit, begins}
use Rattle.pepa_lexer.specs.Signs.{sign_bytes}
use Rattle.pepa_lexer.specs.TokenLists.{IsTokens}
use Rattle.pepa_lexer.specs.TokenTexts.{IsTokenText, AreInOrder}
use Rattle.pepa_lexer.specs.declared.kinds.Token.{Token}
use Rattle.pepa_lexer.specs.declared.kinds.Kind.{Kind}
use Rattle.pepa_lexer.specs.declared.kinds.Kind.TheVariants as kinds
use Rattle.pepa_lexer.specs.declared.kinds.Sign.{Sign}
use Rattle.pepa_lexer.specs.declared.kinds.Sign.TheVariants.{Equals, Semicolon, Opening, Closing, Comma, Dot, Plus, Minus, Star, Slash, Less, Greater, LessOrEqual, GreaterOrEqual, EqualTo, NotEqualTo, Not, And, Or, Bar, OpeningBrace, ClosingBrace, OpeningBracket, ClosingBracket, Colon, DoubleColon, Question}
use Rattle.pepa_lexer.proofs.TextsInOrder.{texts_in_order}
use Rattle.token_grammar.specs.Terminals.{text_of, bytes_of, name_at}
use Rattle.pepa_model.specs.Derivation.{Among}
use Rattle.pepa_model.specs.Leaves.{without}
use Rattle.pepa_model.specs.PepaModel.{AreDistinct}
use Rattle.pepa_model.proofs.DistinctLeaves.{once_distinct}
use Rattle.pepa_resolver.specs.Faults.{IsRepeated}
use Rattle.pepa_resolver.specs.NamesAnswers.{IsTau}
use Rattle.pepa_resolver.specs.Numbers.{first_places}
use Rattle.node_orders.proofs.Elements.{contains_here, contains_there, contains_cases}
use Rattle.pepa_resolver.proofs.Taus.{tau_by_bytes}

-- ---- lists

pub all_from : {X : Type 0} (P : X → Type 0) (xs : List X) → ((x : X) → Contains xs x → P x) → AllByRecursion P xs
all_from P [] each = tt
all_from P (x ∷ xs) each = (each x (contains_here x xs), all_from P xs (λ y among. each y (contains_there x xs y among)))

-- ---- each name once

pub distinct_places : (names : List (List ℕ)) → AreDistinct (first_places names)
distinct_places names = once_distinct bytes_eq bytes_eq-Decides names

kept_from : (x y : List ℕ) (names : List (List ℕ)) → Contains (without bytes_eq x names) y → Contains names y
kept_from x y [] h = h
kept_from x y (z ∷ names) h = by (bytes_eq x z) h (kept_from x y names)
  where
    by : (b : Bool) → Contains (cond (not b) (z ∷ without bytes_eq x names) (without bytes_eq x names)) y → (Contains (without bytes_eq x names) y → Contains names y) → Contains (z ∷ names) y
    by true h rest = contains_there z names y (rest h)
    by false h rest = elim (contains_cases z (without bytes_eq x names) y h) [ inl e ↦ subst (λ (n : List ℕ). Contains (z ∷ names) n) e (contains_here z names) | inr k ↦ contains_there z names y (rest k) ]

pub first_no_more : (name : List ℕ) (names : List (List ℕ)) → Contains (first_places names) name → Contains names name
first_no_more name [] h = h
first_no_more name (x ∷ names) h =
    elim (contains_cases x (without bytes_eq x (first_places names)) name h) [
      | inl e ↦ subst (λ (n : List ℕ). Contains (x ∷ names) n) e (contains_here x names)
      | inr k ↦ contains_there x names name (first_no_more name names (kept_from x name (first_places names) k))
    ]

-- ---- names of lines, none of which is repeated

record AmongNames (name : ℕ → List ℕ) (x : List ℕ) (ats : List ℕ) : Type 0 where
  at : ℕ
  before : List ℕ
  behind : List ℕ
  whole : ats ≡ before ++ at ∷ behind
  same : x ≡ name at

among_names : (name : ℕ → List ℕ) (x : List ℕ) (ats : List ℕ) → Among x (map name ats) → AmongNames name x ats
among_names name x [] h = absurd h
among_names name x (at ∷ ats) (inl e) = record { at = at; before = []; behind = ats; whole = refl; same = e }
among_names name x (at ∷ ats) (inr h) =
    let rest = among_names name x ats h in
    record { at = rest.at; before = at ∷ rest.before; behind = rest.behind; whole = ap (λ (l : List ℕ). at ∷ l) rest.whole; same = rest.same }

pub distinct_lines : (name : ℕ → List ℕ) (ats : List ℕ) → ((i : ℕ) → ¬ IsRepeated name ats i) → AreDistinct (map name ats)
distinct_lines name [] apart = tt
distinct_lines name (at ∷ ats) apart = (
  λ among. let found = among_names name (name at) ats among in
      apart found.at (record {
        before = at ∷ found.before;
        behind = found.behind;
        whole = ap (λ (l : List ℕ). at ∷ l) found.whole;
        earlier = at;
        among = contains_here at found.before;
        same = found.same;
      }),
  distinct_lines name ats (λ i repeated. apart i (record {
    before = at ∷ repeated.before;
    behind = repeated.behind;
    whole = ap (λ (l : List ℕ). at ∷ l) repeated.whole;
    earlier = repeated.earlier;
    among = contains_there at repeated.before repeated.earlier repeated.among;
    same = repeated.same;
  })),
)

-- ---- the name `tau` is the word `tau`

text_at : (input : List ℕ) (low : ℕ) (tokens : List Token) (i : ℕ) (token : Token) → AreInOrder input low tokens → slice_get tokens i ≡ Some token → IsTokenText token.kind (text_of input token)
text_at input low [] i token order is = absurd cc
text_at input low (first ∷ tokens) zero token order is =
    let same : first ≡ token = cc in
    subst (λ (t : Token). IsTokenText t.kind (text_of input t)) same order.2
text_at input low (first ∷ tokens) (suc i) token order is = text_at input first.to tokens i token order.4 is

no_sign : (sign : Sign) → ¬ (codes "tau" ≡ sign_bytes sign)
no_sign Equals h = cc
no_sign Semicolon h = cc
no_sign Opening h = cc
no_sign Closing h = cc
no_sign Comma h = cc
no_sign Dot h = cc
no_sign Plus h = cc
no_sign Minus h = cc
no_sign Star h = cc
no_sign Slash h = cc
no_sign Less h = cc
no_sign Greater h = cc
no_sign LessOrEqual h = cc
no_sign GreaterOrEqual h = cc
no_sign EqualTo h = cc
no_sign NotEqualTo h = cc
no_sign Not h = cc
no_sign And h = cc
no_sign Or h = cc
no_sign Bar h = cc
no_sign OpeningBrace h = cc
no_sign ClosingBrace h = cc
no_sign OpeningBracket h = cc
no_sign ClosingBracket h = cc
no_sign Colon h = cc
no_sign DoubleColon h = cc
no_sign Question h = cc

begins_front : (before behind : List ℕ) → begins is_digit before ≡ true → begins is_digit (before ++ behind) ≡ true
begins_front [] behind h = absurd cc
begins_front (byte ∷ before) behind h = h

small_kind : (kind : Kind) → IsTokenText kind (codes "tau") → kind ≡ kinds.Small
small_kind kinds.Small h = refl
small_kind kinds.Capital h = let e : false ≡ true = h.1 in absurd cc
small_kind (kinds.Number digits scale) (inl h) = let e : false ≡ true = h.1.0 in absurd cc
small_kind (kinds.Number digits scale) (inr h) =
    let front = begins_front h.before (46 ∷ h.behind) h.are_before.0 in
    let e : false ≡ true = subst (λ (l : List ℕ). begins is_digit l ≡ true) (sym h.whole) front in
    absurd cc
small_kind (kinds.Sign sign) h = absurd (no_sign sign h)
small_kind kinds.End h = absurd cc

pub tau_stands : (input : List ℕ) (tokens : List Token) (i : ℕ) → IsTokens input tokens → name_at input tokens i ≡ codes "tau" → IsTau input tokens i
tau_stands input tokens i are named = by (slice_get tokens i) refl named
  where
    by : (o : Option Token) → slice_get tokens i ≡ o → bytes_of input o ≡ codes "tau" → IsTau input tokens i
    by None e h = absurd cc
    by (Some token) e h =
        let text = text_at input 0 tokens i token (texts_in_order input tokens are) e in
        let small : token.kind ≡ kinds.Small = small_kind token.kind (subst (IsTokenText token.kind) h text) in
        let test : true ≡ pointwise nat_eq (text_of input token) (codes "tau") = sym ((bytes_decides (text_of input token) (codes "tau")).1 h) in
        (tau_by_bytes input tokens i token true e small test).0 refl
