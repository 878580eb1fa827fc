-- What stands in the lines of a file, one line after the other.
use Rattle.std.proofs.Common.{◌≡◌, ℕ, ◌+◌, ◌<◌, inl, inr, List, [], ◌∷◌, ◌++◌, map, take, length, get_or, Option, None, append_assoc, refl, sym, ap, ◌∙◌, subst}
use Rattle.std.specs.List.{Contains}
use Rattle.std.proofs.lemmas.List.{take-map, take_more, map-append}
use Rattle.std.proofs.lemmas.List.Elements.{Contains-append_left, Contains-append_right, Contains-append_cases}
use Rattle.pepa_reader.specs.declared.trees.RateLine.{RateLine}
use Rattle.pepa_reader.specs.declared.trees.ProcessLine.{ProcessLine}
use Rattle.pepa_reader.specs.Trees.{RateLineNode, ProcessLineNode, ProcessNode, FileNode, rate_line_of, process_line_of, process_node_of}
use Rattle.pepa_resolver.specs.Parts.{names_in, set_words_in, rate_ats, process_ats, processes_of}
use Rattle.pepa_resolver.specs.Faults.{IsKnown, IsEarlyName, UnknownAt, TauAt}
use Rattle.pepa_resolver.specs.Finding.{FindsLeast, FindsIn, lesser_index, IsUnlisted, IsUnlistedIn, StandsInSome}
use Rattle.pepa_resolver.proofs.Findings.{finds_same, finds_either}
use Rattle.node_orders.proofs.Elements.{no_element, one_element, contains_one}
use Rattle.pepa_resolver.proofs.Repeated.{push_split, known_listed, listed_known}

-- ---- processes

module _ (Stands : ProcessNode → ℕ → Type 0) where
  pub some_none : FindsLeast (StandsInSome Stands []) None
  some_none i h = no_element h.0 h.1

  pub some_more : (processes : List ProcessNode) (process : ProcessNode) (found here next : Option ℕ) → FindsLeast (StandsInSome Stands processes) found → FindsLeast (Stands process) here → next ≡ lesser_index found here → FindsLeast (StandsInSome Stands (processes ++ process ∷ [])) next
  some_more processes process found here next ff fh same =
      finds_either (StandsInSome Stands processes) (Stands process) (StandsInSome Stands (processes ++ process ∷ [])) found here next
      (λ i h. (h.0, Contains-append_left processes (process ∷ []) h.0 h.1, h.2))
      (λ i h. (process, Contains-append_right processes (process ∷ []) process (contains_one process), h))
      (λ i h. elim (Contains-append_cases processes (process ∷ []) h.0 h.1) [
        | inl a ↦ inl (h.0, a, h.2)
        | inr b ↦ inr (subst (λ (p : ProcessNode). Stands p i) (sym (one_element process h.0 b)) h.2)
      ])
      ff fh same

abbrev pub bodies_of : List ProcessLine → List ProcessNode
bodies_of lines = map (λ line. line.body) (map process_line_of lines)

pub bodies_more : (lines : List ProcessLine) (i : ℕ) (line : ProcessLine) → i < length lines → line ≡ get_or lines i line → bodies_of (take (i + 1) lines) ≡ bodies_of (take i lines) ++ process_node_of line.body ∷ []
bodies_more lines i line within is =
    ap bodies_of (take_more lines i line within ∙ ap (λ (x : ProcessLine). take i lines ++ x ∷ []) (sym is))
    ∙ ap (map (λ (l : ProcessLineNode). l.body)) (map-append process_line_of (take i lines) (line ∷ []))
    ∙ map-append (λ (l : ProcessLineNode). l.body) (map process_line_of (take i lines)) (process_line_of line ∷ [])

-- ---- rate lines

pub rate_lines_more : (lines : List RateLine) (i : ℕ) (line : RateLine) → i < length lines → line ≡ get_or lines i line → map rate_line_of (take (i + 1) lines) ≡ map rate_line_of (take i lines) ++ rate_line_of line ∷ []
rate_lines_more lines i line within is =
    ap (map rate_line_of) (take_more lines i line within ∙ ap (λ (x : RateLine). take i lines ++ x ∷ []) (sym is))
    ∙ map-append rate_line_of (take i lines) (line ∷ [])

module _ (name : ℕ → List ℕ) where
  -- the names of the first lines are the first names
  pub names_above : (lines : List RateLine) (names : List (List ℕ)) (i : ℕ) → names ≡ map name (rate_ats (map rate_line_of lines)) → take i names ≡ map name (rate_ats (map rate_line_of (take i lines)))
  names_above lines names i are =
      ap (take i) are ∙ take-map name i (rate_ats (map rate_line_of lines))
      ∙ ap (map name) (take-map (λ (l : RateLineNode). l.line_at) i (map rate_line_of lines) ∙ ap rate_ats (take-map rate_line_of i lines))

  pub early_none : FindsLeast (IsEarlyName name []) None
  early_none i h = no_line h.above h.line h.below h.whole
    where
      no_line : (above : List RateLineNode) (line : RateLineNode) (below : List RateLineNode) → [] ≡ above ++ line ∷ below → ⊥
      no_line [] line below h = cc
      no_line (x ∷ above) line below h = cc

  pub early_more : (lines : List RateLineNode) (line : RateLineNode) (listed : List (List ℕ)) (found here next : Option ℕ) → listed ≡ map name (rate_ats lines) → FindsLeast (IsEarlyName name lines) found → FindsIn (IsUnlisted name listed) (names_in line.rate) here → next ≡ lesser_index found here → FindsLeast (IsEarlyName name (lines ++ line ∷ [])) next
  early_more lines line listed found here next are ff fh same =
      finds_either (IsEarlyName name lines) (λ i. Contains (names_in line.rate) i × IsUnlisted name listed i) (IsEarlyName name (lines ++ line ∷ [])) found here next
      (λ i h. record {
        above = h.above;
        line = h.line;
        below = h.below ++ line ∷ [];
        whole = ap (λ xs. xs ++ line ∷ []) h.whole ∙ append_assoc h.above (h.line ∷ h.below) (line ∷ []);
        among = h.among;
        unknown = h.unknown;
      })
      (λ i h. record {
        above = lines;
        line = line;
        below = [];
        whole = refl;
        among = h.0;
        unknown = λ known. h.1 (subst (λ (xs : List (List ℕ)). Contains xs (name i)) (sym are) (known_listed name (rate_ats lines) i known));
      })
      (λ i h. elim (push_split lines line h.above h.line h.below h.whole) [
        | inl s ↦ inr (
          subst (λ (l : RateLineNode). Contains (names_in l.rate) i) (sym s.1) h.among,
          λ there. h.unknown (subst (λ (ls : List RateLineNode). IsKnown name (rate_ats ls) i) s.0 (listed_known name (rate_ats lines) i (subst (λ (xs : List (List ℕ)). Contains xs (name i)) are there))),
        )
        | inr s ↦ inl (record { above = h.above; line = h.line; below = s.0; whole = s.1; among = h.among; unknown = h.unknown })
      ])
      ff fh same

  -- ---- the whole file

  pub unknown_in_file : (file : FileNode) (constants rates : List (List ℕ)) (early here found : Option ℕ) → constants ≡ map name (process_ats file.processes) → rates ≡ map name (rate_ats file.rates) → FindsLeast (IsEarlyName name file.rates) early → FindsLeast (StandsInSome (IsUnlistedIn name constants rates) (processes_of file)) here → found ≡ lesser_index early here → FindsLeast (UnknownAt name file) found
  unknown_in_file file constants rates early here found constants_are rates_are fe fh same =
      finds_either (IsEarlyName name file.rates) (StandsInSome (IsUnlistedIn name constants rates) (processes_of file)) (UnknownAt name file) early here found
      (λ i h. inl h)
      (λ i h. inr (
        h.0,
        h.1,
        elim h.2 [
          | inl a ↦ inl (a.0, λ known. a.1 (subst (λ (xs : List (List ℕ)). Contains xs (name i)) (sym constants_are) (known_listed name (process_ats file.processes) i known)))
          | inr b ↦ inr (b.0, λ known. b.1 (subst (λ (xs : List (List ℕ)). Contains xs (name i)) (sym rates_are) (known_listed name (rate_ats file.rates) i known)))
        ],
      ))
      (λ i h. elim h [
        | inl e ↦ inl e
        | inr p ↦ inr (
          p.0,
          p.1,
          elim p.2 [
            | inl a ↦ inl (a.0, λ there. a.1 (listed_known name (process_ats file.processes) i (subst (λ (xs : List (List ℕ)). Contains xs (name i)) constants_are there)))
            | inr b ↦ inr (b.0, λ there. b.1 (listed_known name (rate_ats file.rates) i (subst (λ (xs : List (List ℕ)). Contains xs (name i)) rates_are there)))
          ],
        )
      ])
      fe fh same

pub tau_in_file : (IsTau : ℕ → Type 0) (file : FileNode) (found : Option ℕ) → FindsLeast (StandsInSome (λ process i. Contains (set_words_in process) i × IsTau i) (processes_of file)) found → FindsLeast (TauAt IsTau file) found
tau_in_file IsTau file found h =
    finds_same (StandsInSome (λ process i. Contains (set_words_in process) i × IsTau i) (processes_of file)) (TauAt IsTau file) found
    (λ i s. ((s.0, s.1, s.2.0), s.2.1)) (λ i s. (s.0.0, s.0.1, (s.0.2, s.1))) h
