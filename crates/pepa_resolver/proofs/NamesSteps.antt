-- The phases of checking names, one after the other.
use Rattle.std.proofs.Common.{◌≡◌, ℕ, ◌⊎◌, inl, inr, List, [], ◌∷◌, map, Option, Some, None, slice_get, Ok, Err, refl, sym, ap, ◌∙◌, subst}
use Rattle.pepa_lexer.specs.declared.kinds.Token.{Token}
use Rattle.pepa_reader.specs.declared.trees.RateLine.{RateLine}
use Rattle.pepa_reader.specs.declared.trees.ProcessLine.{ProcessLine}
use Rattle.pepa_reader.specs.Trees.{FileNode, rate_line_of, process_line_of}
use Rattle.pepa_resolver.specs.declared.refusal.ResolveCause.{ResolveCause}
use Rattle.pepa_resolver.specs.declared.refusal.ResolveCause.TheVariants.{Twice, UnknownName, TauInSet, TooManyLines}
use Rattle.pepa_resolver.specs.declared.refusal.ResolveEnd.{ResolveEnd}
use Rattle.pepa_resolver.specs.declared.refusal.ResolveEnd.TheVariants.{Refused}
use Rattle.token_grammar.specs.Terminals.{name_at}
use Rattle.pepa_resolver.specs.Parts.{rate_ats, process_ats}
use Rattle.pepa_resolver.specs.Faults.{HasNone, IsRepeated, TooManyAt, TwiceAt, UnknownAt, TauAt}
use Rattle.pepa_resolver.specs.NamesAnswers.{IsTau, FineNames, KnownNames, FineSets, IsNamesRefusedFor}
use Rattle.pepa_resolver.specs.NamesChecks.{refused_at, EndsNames}
use Rattle.pepa_resolver.specs.Finding.{FindsLeast, lesser_index}
use Rattle.pepa_resolver.proofs.Findings.{finds_either}

pub rate_ats_are : (lines : List RateLine) → map (λ line. line.at) lines ≡ rate_ats (map rate_line_of lines)
rate_ats_are [] = refl
rate_ats_are (line ∷ lines) = ap (λ ats. line.at ∷ ats) (rate_ats_are lines)

pub process_ats_are : (lines : List ProcessLine) → map (λ line. line.at) lines ≡ process_ats (map process_line_of lines)
process_ats_are [] = refl
process_ats_are (line ∷ lines) = ap (λ ats. line.at ∷ ats) (process_ats_are lines)

pub rates_at_are : (taken ats : List ℕ) (given lines : List RateLine) → taken ≡ ats → ats ≡ map (λ line. line.at) given → given ≡ lines → taken ≡ rate_ats (map rate_line_of lines)
rates_at_are taken ats given lines a b c = a ∙ b ∙ ap (map (λ (line : RateLine). line.at)) c ∙ rate_ats_are lines

pub constants_at_are : (taken ats : List ℕ) (given lines : List ProcessLine) → taken ≡ ats → ats ≡ map (λ line. line.at) given → given ≡ lines → taken ≡ process_ats (map process_line_of lines)
constants_at_are taken ats given lines a b c = a ∙ b ∙ ap (map (λ (line : ProcessLine). line.at)) c ∙ process_ats_are lines

pub passed : (cause : ResolveCause) (found : Option ℕ) (u : Unit {0}) → Ok u ≡ refused_at cause found → found ≡ None
passed cause None u h = refl
passed cause (Some i) u h = absurd cc

pub nowhere : (Stands : ℕ → Type 0) (found : Option ℕ) → FindsLeast Stands found → found ≡ None → HasNone Stands
nowhere Stands found finds none = subst (FindsLeast Stands) none finds

pub neither : (l r o : Option ℕ) → o ≡ lesser_index l r → o ≡ None → (l ≡ None) × (r ≡ None)
neither None r o least none = (refl, sym least ∙ none)
neither (Some i) None o least none = absurd cc
neither (Some i) (Some j) o least none = absurd cc

module _ (input : List ℕ) (tokens : List Token) (file : FileNode) where
  stopped : (cause : ResolveCause) (found : Option ℕ) (e : ResolveEnd) → Err e ≡ refused_at cause found → ((i : ℕ) → found ≡ Some i → IsNamesRefusedFor input tokens file cause i) → EndsNames input tokens file e
  stopped cause None e h is = absurd cc
  stopped cause (Some i) e h is =
      let same : e ≡ Refused cause i = cc in
      subst (λ (x : ResolveEnd). EndsNames input tokens file x) (sym same) (is i refl)

  pub twice_in : (rates_at constants_at : List ℕ) (l r o : Option ℕ) → rates_at ≡ rate_ats file.rates → constants_at ≡ process_ats file.processes → FindsLeast (IsRepeated (name_at input tokens) rates_at) l → FindsLeast (IsRepeated (name_at input tokens) constants_at) r → o ≡ lesser_index l r → FindsLeast (TwiceAt (name_at input tokens) file) o
  twice_in rates_at constants_at l r o rates_are constants_are fl fr same =
      finds_either (IsRepeated name (rate_ats file.rates)) (IsRepeated name (process_ats file.processes)) (TwiceAt name file) l r o
      (λ i h. inl h) (λ i h. inr h) (λ i h. h)
      (subst (λ (ats : List ℕ). FindsLeast (IsRepeated name ats) l) rates_are fl) (subst (λ (ats : List ℕ). FindsLeast (IsRepeated name ats) r) constants_are fr) same
    where
      name : ℕ → List ℕ
      name = name_at input tokens

  pub stops_at_limits : (too : Option ℕ) (e : ResolveEnd) → FindsLeast (TooManyAt file) too → Err e ≡ refused_at TooManyLines too → EndsNames input tokens file e
  stops_at_limits too e f1 h = stopped TooManyLines too e h (λ i is. subst (FindsLeast (TooManyAt file)) is f1)

  pub stops_at_twice : (too twice : Option ℕ) (e : ResolveEnd) → FindsLeast (TooManyAt file) too → too ≡ None → FindsLeast (TwiceAt (name_at input tokens) file) twice → Err e ≡ refused_at Twice twice → EndsNames input tokens file e
  stops_at_twice too twice e f1 none f2 h = stopped Twice twice e h (λ i is. (nowhere (TooManyAt file) too f1 none, subst (FindsLeast (TwiceAt (name_at input tokens) file)) is f2))

  pub fine_names : (too twice : Option ℕ) → FindsLeast (TooManyAt file) too → too ≡ None → FindsLeast (TwiceAt (name_at input tokens) file) twice → twice ≡ None → FineNames input tokens file
  fine_names too twice f1 n1 f2 n2 = (nowhere (TooManyAt file) too f1 n1, nowhere (TwiceAt (name_at input tokens) file) twice f2 n2)

  pub stops_at_unknown : (unknown : Option ℕ) (e : ResolveEnd) → FineNames input tokens file → FindsLeast (UnknownAt (name_at input tokens) file) unknown → Err e ≡ refused_at UnknownName unknown → EndsNames input tokens file e
  stops_at_unknown unknown e fine f3 h = stopped UnknownName unknown e h (λ i is. (fine, subst (FindsLeast (UnknownAt (name_at input tokens) file)) is f3))

  pub known_names : (unknown : Option ℕ) → FineNames input tokens file → FindsLeast (UnknownAt (name_at input tokens) file) unknown → unknown ≡ None → KnownNames input tokens file
  known_names unknown fine f3 none = (fine, nowhere (UnknownAt (name_at input tokens) file) unknown f3 none)

  pub stops_at_tau : (tau : Option ℕ) (e : ResolveEnd) → KnownNames input tokens file → FindsLeast (TauAt (IsTau input tokens) file) tau → Err e ≡ refused_at TauInSet tau → EndsNames input tokens file e
  stops_at_tau tau e known f4 h = stopped TauInSet tau e h (λ i is. (known, subst (FindsLeast (TauAt (IsTau input tokens) file)) is f4))

  pub fine_sets : (tau : Option ℕ) → KnownNames input tokens file → FindsLeast (TauAt (IsTau input tokens) file) tau → tau ≡ None → FineSets input tokens file
  fine_sets tau known f4 none = (known, nowhere (TauAt (IsTau input tokens) file) tau f4 none)

  -- the 1,025th lines, by their indices
  pub limits : (rates_at constants_at : List ℕ) (too : Option ℕ) → rates_at ≡ rate_ats file.rates → constants_at ≡ process_ats file.processes → FindsLeast (λ i. (slice_get rates_at 1024 ≡ Some i) ⊎ (slice_get constants_at 1024 ≡ Some i)) too → FindsLeast (TooManyAt file) too
  limits rates_at constants_at too rates_are constants_are finds =
      let one : FindsLeast (λ i. (slice_get (rate_ats file.rates) 1024 ≡ Some i) ⊎ (slice_get constants_at 1024 ≡ Some i)) too = subst (λ (ats : List ℕ). FindsLeast (λ i. (slice_get ats 1024 ≡ Some i) ⊎ (slice_get constants_at 1024 ≡ Some i)) too) rates_are finds in
      subst (λ (ats : List ℕ). FindsLeast (λ i. (slice_get (rate_ats file.rates) 1024 ≡ Some i) ⊎ (slice_get ats 1024 ≡ Some i)) too) constants_are one
