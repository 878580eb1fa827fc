-- A file that is written as the parts of a model are has no fault of its limits, names, sets and rates.
use Rattle.std.proofs.Common.{◌≡◌, ℕ, ◌<◌, ◌≤◌, true, List, [], ◌∷◌, ◌++◌, map, length, nat_eq, codes, Option, Some, None, slice_get, inl, inr, refl, sym, ap, ◌∙◌, subst, arith}
use Rattle.std.specs.List.{Contains}
use Rattle.std.specs.Cmp.Lexicographic.{pointwise, bytes_decides}
use Rattle.std.proofs.lemmas.List.{length-map}
use Rattle.std.proofs.lemmas.Option.{slice_get_within, slice_get-get_or}
use Rattle.std.proofs.lemmas.List.Elements.{All-contains, Contains-get_or}
use Rattle.pepa_rates.specs.declared.rate.Rate.{Rate}
use Rattle.pepa_lexer.specs.declared.kinds.Kind.{Kind}
use Rattle.pepa_lexer.specs.declared.kinds.Kind.TheVariants as kinds
use Rattle.pepa_lexer.specs.declared.kinds.Token.{Token}
use Rattle.token_grammar.specs.Terminals.{text_of, bytes_of, name_at}
use Rattle.pepa_reader.specs.Trees.{RateLineNode, ProcessNode, FileNode}
use Rattle.pepa_model.specs.Derivation.{Among}
use Rattle.pepa_model.specs.PepaModel.{PepaModel, IsModel, AreDistinct, IsSpelled}
use Rattle.pepa_resolver.specs.Parts.{names_in, constants_in, RateSite, rates_in, set_words_in, rate_ats, process_ats, processes_of}
use Rattle.pepa_resolver.specs.Faults.{HasNone, TooManyAt, IsRepeated, TwiceAt, IsKnown, UnknownAt, TauAt}
use Rattle.pepa_resolver.specs.Outcomes.{Outcome, Good, BadAt, rate_outcome, looked_up, AreOutcomes, BadRateAt}
use Rattle.pepa_resolver.specs.NamesAnswers.{IsTau, FineSets}
use Rattle.pepa_resolver.specs.CheckedRates.{AreRates}
use Rattle.node_orders.proofs.Elements.{no_element, contains_cases}
use Rattle.pepa_resolver.proofs.Repeated.{listed_known}
use Rattle.pepa_resolver.proofs.Taus.{tau_by_bytes, no_tau, none_is_tau}
use Rattle.pepa_text.specs.ComponentText.{name_of}
use Rattle.pepa_printer.proofs.PrintedFiles.{IsPrintedFile}
use Rattle.pepa_printer.proofs.PrintedNames.{printed_constants}
use Rattle.pepa_printer.proofs.PrintedRates.{rate_good, rate_no_names}
use Rattle.pepa_printer.proofs.KnownProcesses.{IsConstantAt, IsActionAt, IsSiteOf, IsKnownProcess, processes_known}

-- ---- names that stand once

module _ (name : ℕ → List ℕ) where
  name_among : (before behind : List ℕ) (i : ℕ) → Among (name i) (map name (before ++ i ∷ behind))
  name_among [] behind i = inl refl
  name_among (at ∷ before) behind i = inr (name_among before behind i)

  not_repeated : (before behind : List ℕ) (i earlier : ℕ) → AreDistinct (map name (before ++ i ∷ behind)) → Contains before earlier → ¬ (name earlier ≡ name i)
  not_repeated [] behind i earlier distinct among same = no_element earlier among
  not_repeated (at ∷ before) behind i earlier distinct among same =
      elim (contains_cases at before earlier among) [
        | inl e ↦ distinct.0 (subst (λ (x : List ℕ). Among x (map name (before ++ i ∷ behind))) (sym (ap name e ∙ same)) (name_among before behind i))
        | inr h ↦ not_repeated before behind i earlier distinct.1 h same
      ]

  none_repeated : (ats : List ℕ) → AreDistinct (map name ats) → HasNone (IsRepeated name ats)
  none_repeated ats distinct i h =
      not_repeated h.before h.behind i h.earlier (subst (λ (list : List ℕ). AreDistinct (map name list)) h.whole distinct) h.among h.same

-- ---- words other than `tau`

no_word : (input : List ℕ) (tokens : List Token) (i : ℕ) → ¬ (name_at input tokens i ≡ codes "tau") → ¬ IsTau input tokens i
no_word input tokens i apart = by (slice_get tokens i) refl apart
  where
    by_kind : (token : Token) (kind : Kind) → slice_get tokens i ≡ Some token → token.kind ≡ kind → ¬ (text_of input token ≡ codes "tau") → ¬ IsTau input tokens i
    by_kind token kinds.Small at is apart h =
        let test : true ≡ pointwise nat_eq (text_of input token) (codes "tau") = sym ((tau_by_bytes input tokens i token (pointwise nat_eq (text_of input token) (codes "tau")) at is refl).1 h) in
        apart ((bytes_decides (text_of input token) (codes "tau")).0 (sym test))
    by_kind token kinds.Capital at is apart h = no_tau input tokens i token at (λ e. cc) h
    by_kind token (kinds.Number digits scale) at is apart h = no_tau input tokens i token at (λ e. cc) h
    by_kind token (kinds.Sign sign) at is apart h = no_tau input tokens i token at (λ e. cc) h
    by_kind token kinds.End at is apart h = no_tau input tokens i token at (λ e. cc) h

    by : (o : Option Token) → slice_get tokens i ≡ o → ¬ (bytes_of input o ≡ codes "tau") → ¬ IsTau input tokens i
    by None at apart h = none_is_tau input tokens i at h
    by (Some token) at apart h = by_kind token token.kind at refl apart h

-- ---- no fault

no_line : (lines : List RateLineNode) (k : ℕ) (line : RateLineNode) → lines ≡ [] → slice_get lines k ≡ Some line → ⊥
no_line [] k line none at = cc
no_line (first ∷ lines) k line none at = cc

no_early : (lines above below : List RateLineNode) (line : RateLineNode) → lines ≡ [] → lines ≡ above ++ line ∷ below → ⊥
no_early lines [] below line none whole = cc
no_early lines (first ∷ above) below line none whole = cc

module _ (input : List ℕ) (tokens : List Token) (m : PepaModel) (file : FileNode) (is : IsModel m) (spelled : IsSpelled m) (printed : IsPrintedFile input tokens m file) where
  abbrev name : ℕ → List ℕ
  name = name_at input tokens

  names_are : map name (process_ats file.processes) ≡ m.constants
  names_are = printed_constants input tokens m file is printed

  known : (process : ProcessNode) → Contains (processes_of file) process → IsKnownProcess input tokens m process
  known process among = All-contains (IsKnownProcess input tokens m) (processes_of file) process (processes_known input tokens m is spelled file printed) among

  few_lines : HasNone (TooManyAt file)
  few_lines i (inl h) =
      let none : slice_get (rate_ats []) 1024 ≡ Some i = subst (λ (lines : List RateLineNode). slice_get (rate_ats lines) 1024 ≡ Some i) printed.no_rates h in
      cc
  few_lines i (inr h) =
      let within : 1024 < length (process_ats file.processes) = slice_get_within (process_ats file.processes) 1024 i h in
      let count : length (process_ats file.processes) ≡ length m.constants = sym (length-map (process_ats file.processes) name) ∙ ap (λ (names : List (List ℕ)). length names) names_are in
      let few : length m.constants ≤ 1024 = is.limits.constants in
      omega arith

  once : HasNone (TwiceAt name file)
  once i (inl h) = by (subst (λ (lines : List RateLineNode). IsRepeated name (rate_ats lines) i) printed.no_rates h)
    where
      by : IsRepeated name [] i → ⊥
      by h = empty h.before h.behind h.whole
        where
          empty : (before behind : List ℕ) → [] ≡ before ++ i ∷ behind → ⊥
          empty [] behind e = cc
          empty (at ∷ before) behind e = cc
  once i (inr h) = none_repeated name (process_ats file.processes) (subst AreDistinct (sym names_are) is.numbered.constants) i h

  line_known : (i : ℕ) → IsConstantAt input tokens m i → IsKnown name (process_ats file.processes) i
  line_known i (c, lt, e) =
      listed_known name (process_ats file.processes) i
      (subst (λ (names : List (List ℕ)). Contains names (name i)) (sym names_are) (subst (Contains m.constants) (sym e) (Contains-get_or m.constants c [] lt)))

  no_rate_name : (site : RateSite) (i : ℕ) → IsSiteOf input tokens m site → Contains (names_in site.rate) i → ⊥
  no_rate_name site i (r, at, written) among =
      no_element i (subst (λ (list : List ℕ). Contains list i) (rate_no_names tokens r site.rate at) among)

  all_known : HasNone (UnknownAt name file)
  all_known i (inl h) = no_early file.rates h.above h.below h.line printed.no_rates h.whole
  all_known i (inr (process, among, inl (there, unknown))) =
      unknown (line_known i (All-contains (IsConstantAt input tokens m) (constants_in process) i (known process among).constants there))
  all_known i (inr (process, among, inr ((site, there, inside), unknown))) =
      no_rate_name site i (All-contains (IsSiteOf input tokens m) (rates_in process) site (known process among).rates there) inside

  no_tau_name : (i : ℕ) → IsActionAt input tokens m i → ¬ (name i ≡ codes "tau")
  no_tau_name i (a, some, lt, e) h =
      (spelled.actions a (name_of m.actions a) some (slice_get-get_or m.actions a [] lt)).3 (sym e ∙ h)

  no_taus : HasNone (TauAt (IsTau input tokens) file)
  no_taus i ((process, among, there), stands) =
      no_word input tokens i (no_tau_name i (All-contains (IsActionAt input tokens m) (set_words_in process) i (known process among).words there)) stands

  pub printed_fine : FineSets input tokens file
  printed_fine = (((few_lines, once), all_known), no_taus)

  -- ---- rates

  no_lines : AreOutcomes tokens name file.rates []
  no_lines = record {
    count = sym (ap (λ (lines : List RateLineNode). length lines) printed.no_rates);
    each = λ k line at. absurd (no_line file.rates k line printed.no_rates at);
  }

  site_good : (site : RateSite) (i : ℕ) → IsSiteOf input tokens m site → rate_outcome tokens (looked_up name file.rates []) site.rate ≡ BadAt i → ⊥
  site_good site i (r, at, written) bad = clash r (sym (rate_good tokens (looked_up name file.rates []) r site.rate at written) ∙ bad)
    where
      clash : (r : Rate) → ◌≡◌ {A = Outcome Rate} (Good r) (BadAt i) → ⊥
      clash r e = cc

  pub printed_rates : AreRates tokens name file []
  printed_rates = record {
    lines = no_lines;
    fine = fine;
  }
    where
      fine : (start i : ℕ) → ¬ BadRateAt tokens name file [] start i
      fine start i (inl (k, line, at, begins, bad)) = no_line file.rates k line printed.no_rates at
      fine start i (inr (process, among, (site, there, begins, bad))) =
          site_good site i (All-contains (IsSiteOf input tokens m) (rates_in process) site (known process among).rates there) bad
