-- A text has one list of tokens, or one fault.
use Rattle.std.proofs.Common.{◌≡◌, ℕ, zero, suc, ◌<◌, List, [], ◌∷◌, ◌++◌, length, drop, refl, sym, ap, ◌∙◌, arith, length-drop}
use Rattle.std.proofs.lemmas.List.{nil_from_length}
use Rattle.pepa_lexer.specs.Lexemes.{Lexeme, StartsWithLexemes}
use Rattle.pepa_lexer.specs.TokenLists.{place_of, tokens_along, end_of, IsTokens}
use Rattle.pepa_lexer.specs.Faults.{Refuses, IsLexFaultOf}
use Rattle.pepa_lexer.specs.declared.kinds.Token.{Token}
use Rattle.pepa_lexer.specs.declared.kinds.LexFault.{LexFault}
use Rattle.pepa_lexer.proofs.OneLexeme.{one_lexeme, Stops, end_stops, refused_stops, refused_some, one_refusal}

leads_one : (lexemes others : List Lexeme) (bytes rest left : List ℕ) → StartsWithLexemes lexemes bytes rest → StartsWithLexemes others bytes left → Stops rest → Stops left → (lexemes ≡ others) × (rest ≡ left)
leads_one [] [] bytes rest left a b stops ends = (refl, sym a ∙ b)
leads_one [] (other ∷ others) bytes rest left a b stops ends = absurd (stops other b.0 (record { whole = sym a ∙ b.1; form = b.2; ends = b.3 }))
leads_one (lexeme ∷ lexemes) [] bytes rest left a b stops ends = absurd (ends lexeme a.0 (record { whole = sym b ∙ a.1; form = a.2; ends = a.3 }))
leads_one (lexeme ∷ lexemes) (other ∷ others) bytes rest left a b stops ends =
    let one = one_lexeme lexeme other bytes a.0 b.0 (record { whole = a.1; form = a.2; ends = a.3 }) (record { whole = b.1; form = b.2; ends = b.3 }) in
    let inner = leads_one lexemes others a.0 rest left a.4 (rw one.1 b.4) stops ends in
    (ap (λ (x : Lexeme). x ∷ lexemes) one.0 ∙ ap (λ (xs : List Lexeme). other ∷ xs) inner.0, inner.1)

pub one_list : (input : List ℕ) (first second : List Token) → IsTokens input first → IsTokens input second → first ≡ second
one_list input first second a b =
    let one = leads_one a.0 b.0 input [] [] a.1 b.1 end_stops end_stops in
    a.2 ∙ ap (λ (xs : List Lexeme). tokens_along input 0 xs ++ end_of input) one.0 ∙ sym b.2

pub no_fault : (input : List ℕ) (list : List Token) (fault : LexFault) → IsTokens input list → IsLexFaultOf input fault → ⊥
no_fault input list fault a b =
    let one = leads_one a.0 b.lexemes input [] (drop b.at input) a.1 b.leads end_stops (refused_stops fault (drop b.at input) (place_of input b.at) b.refuses) in
    refused_some fault (drop b.at input) (place_of input b.at) b.refuses (sym one.1)

some_rest : (fault : LexFault) (input : List ℕ) (at : ℕ) → Refuses (drop at input) (place_of input at) fault → (n : ℕ) → length (drop at input) ≡ n → 0 < length (drop at input)
some_rest fault input at refusal zero len = absurd (refused_some fault (drop at input) (place_of input at) refusal (nil_from_length (drop at input) len))
some_rest fault input at refusal (suc n) len = omega arith

pub one_fault : (input : List ℕ) (first second : LexFault) → IsLexFaultOf input first → IsLexFaultOf input second → first ≡ second
one_fault input first second a b =
    let one = leads_one a.lexemes b.lexemes input (drop a.at input) (drop b.at input) a.leads b.leads (refused_stops first (drop a.at input) (place_of input a.at) a.refuses) (refused_stops second (drop b.at input) (place_of input b.at) b.refuses) in
    let len = ap length one.1 in
    let some = some_rest first input a.at a.refuses (length (drop a.at input)) refl in
    let l = length-drop a.at input in
    let m = length-drop b.at input in
    let same : b.at ≡ a.at = omega arith in
    one_refusal first second (drop a.at input) (place_of input a.at) a.refuses (rw same at b.refuses)
