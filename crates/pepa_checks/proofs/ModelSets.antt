-- The sets of a file's model: their action types ascend, are the model's, and `tau` is none of them.
use Rattle.std.proofs.Common.{◌≡◌, ℕ, zero, suc, ◌+◌, ◌<◌, List, [], ◌∷◌, ◌++◌, map, flat_map, length, Some, slice_get, codes, inl, inr, refl, sym, ◌∙◌, subst, arith}
use Rattle.std.specs.List.{Contains, AllByRecursion}
use Rattle.std.specs.List.Sorted.{IsStrictlyIncreasing}
use Rattle.std.proofs.lemmas.List.Elements.{Contains-append_left, Contains-append_right, Contains-append_cases}
use Rattle.pepa_lexer.specs.declared.kinds.Token.{Token}
use Rattle.pepa_lexer.specs.TokenLists.{IsTokens}
use Rattle.pepa_reader.specs.Trees.{ProcessNode, ConstantAt, PrefixAt, ChoiceOf, CoopAt, HideOf, ProcessLineNode, FileNode}
use Rattle.token_grammar.specs.Terminals.{name_at}
use Rattle.pepa_resolver.specs.Parts.{set_words_in, processes_of}
use Rattle.pepa_resolver.specs.Faults.{HasNone, TauAt}
use Rattle.pepa_resolver.specs.NamesAnswers.{IsTau}
use Rattle.pepa_resolver.specs.Named.{Naming, named, ascending_set}
use Rattle.pepa_resolver.specs.Numbers.{words_in, first_places, place_in, actions_of, named_bodies, named_system}
use Rattle.node_orders.proofs.Elements.{no_element, contains_here, contains_there, contains_cases, contains_map_from, contains_from_get}
use Rattle.pepa_resolver.proofs.NumberNames.{place_within}
use Rattle.pepa_resolver.proofs.NumberMeanings.{action_stands}
use Rattle.pepa_resolver.proofs.Ascending.{set_ascends, set_no_more, increasing_from}
use Rattle.pepa_checks.specs.Outline.{sets_written, sets_of}
use Rattle.pepa_checks.proofs.ModelNames.{all_from, first_no_more, tau_stands}

-- ---- the words of a set

pub words_of_sets : (process : ProcessNode) (i : ℕ) → Contains (set_words_in process) i → Contains (words_in process) i
words_of_sets (ConstantAt at) i h = absurd (no_element i h)
words_of_sets (PrefixAt at rate next) i h = contains_there (at + 1) (words_in next) i (words_of_sets next i h)
words_of_sets (ChoiceOf left right) i h =
    elim (Contains-append_cases (set_words_in left) (set_words_in right) i h) [
      | inl k ↦ Contains-append_left (words_in left) (words_in right) i (words_of_sets left i k)
      | inr k ↦ Contains-append_right (words_in left) (words_in right) i (words_of_sets right i k)
    ]
words_of_sets (CoopAt at left right set) i h =
    elim (Contains-append_cases (set_words_in left) (set ++ set_words_in right) i h) [
      | inl k ↦ Contains-append_left (words_in left) (set ++ words_in right) i (words_of_sets left i k)
      | inr k ↦ Contains-append_right (words_in left) (set ++ words_in right) i
          (elim (Contains-append_cases set (set_words_in right) i k) [
            | inl m ↦ Contains-append_left set (words_in right) i m
            | inr m ↦ Contains-append_right set (words_in right) i (words_of_sets right i m)
          ])
    ]
words_of_sets (HideOf inner set) i h =
    elim (Contains-append_cases (set_words_in inner) set i h) [
      | inl k ↦ Contains-append_left (words_in inner) set i (words_of_sets inner i k)
      | inr k ↦ Contains-append_right (words_in inner) set i k
    ]

-- a set of a process is that of some of its words
record IsSetOf (naming : Naming) (process : ProcessNode) (set : List ℕ) : Type 0 where
  words : List ℕ
  is_set : set ≡ ascending_set (map naming.action words)
  among : (i : ℕ) → Contains words i → Contains (set_words_in process) i

module _ (naming : Naming) where
  set_of_words : (process : ProcessNode) (set : List ℕ) → Contains (sets_written (named naming process)) set → IsSetOf naming process set
  set_of_words (ConstantAt at) set h = absurd (no_element set h)
  set_of_words (PrefixAt at rate next) set h = let found = set_of_words next set h in record { words = found.words; is_set = found.is_set; among = found.among }
  set_of_words (ChoiceOf left right) set h =
      elim (Contains-append_cases (sets_written (named naming left)) (sets_written (named naming right)) set h) [
        | inl k ↦ let found = set_of_words left set k in record { words = found.words; is_set = found.is_set; among = λ i m. Contains-append_left (set_words_in left) (set_words_in right) i (found.among i m) }
        | inr k ↦ let found = set_of_words right set k in record { words = found.words; is_set = found.is_set; among = λ i m. Contains-append_right (set_words_in left) (set_words_in right) i (found.among i m) }
      ]
  set_of_words (CoopAt at left right words) set h =
      elim (Contains-append_cases (sets_written (named naming left)) (ascending_set (map naming.action words) ∷ sets_written (named naming right)) set h) [
        | inl k ↦ let found = set_of_words left set k in record { words = found.words; is_set = found.is_set; among = λ i m. Contains-append_left (set_words_in left) (words ++ set_words_in right) i (found.among i m) }
        | inr k ↦ elim (contains_cases (ascending_set (map naming.action words)) (sets_written (named naming right)) set k) [
          | inl e ↦ record { words = words; is_set = sym e; among = λ i m. Contains-append_right (set_words_in left) (words ++ set_words_in right) i (Contains-append_left words (set_words_in right) i m) }
          | inr m ↦ let found = set_of_words right set m in record { words = found.words; is_set = found.is_set; among = λ i n. Contains-append_right (set_words_in left) (words ++ set_words_in right) i (Contains-append_right words (set_words_in right) i (found.among i n)) }
        ]
      ]
  set_of_words (HideOf inner words) set h =
      elim (Contains-append_cases (sets_written (named naming inner)) (ascending_set (map naming.action words) ∷ []) set h) [
        | inl k ↦ let found = set_of_words inner set k in record { words = found.words; is_set = found.is_set; among = λ i m. Contains-append_left (set_words_in inner) words i (found.among i m) }
        | inr k ↦ elim (contains_cases (ascending_set (map naming.action words)) [] set k) [
          | inl e ↦ record { words = words; is_set = sym e; among = λ i m. Contains-append_right (set_words_in inner) words i m }
          | inr m ↦ absurd (no_element set m)
        ]
      ]

  -- a set of a file
  record IsSetIn (file : FileNode) (set : List ℕ) : Type 0 where
    process : ProcessNode
    inside : Contains (processes_of file) process
    is_set : IsSetOf naming process set

  set_in_lines : (lines : List ProcessLineNode) (set : List ℕ) → Contains (flat_map sets_written (map (λ (line : ProcessLineNode). named naming line.body) lines)) set → (process : ProcessNode) × Contains (map (λ (line : ProcessLineNode). line.body) lines) process × IsSetOf naming process set
  set_in_lines [] set h = absurd (no_element set h)
  set_in_lines (line ∷ lines) set h =
      let bodies = map (λ (l : ProcessLineNode). l.body) lines in
      elim (Contains-append_cases (sets_written (named naming line.body)) (flat_map sets_written (map (λ (l : ProcessLineNode). named naming l.body) lines)) set h) [
        | inl k ↦ (line.body, contains_here line.body bodies, set_of_words line.body set k)
        | inr k ↦ let rest = set_in_lines lines set k in (rest.0, contains_there line.body bodies rest.0 rest.1, rest.2)
      ]

  set_in_file : (file : FileNode) (set : List ℕ) → Contains (flat_map sets_written (named_bodies naming file) ++ sets_written (named_system naming file)) set → IsSetIn file set
  set_in_file file set h =
      let bodies = map (λ (line : ProcessLineNode). line.body) file.processes in
      elim (Contains-append_cases (flat_map sets_written (named_bodies naming file)) (sets_written (named_system naming file)) set h) [
        | inl k ↦ let found = set_in_lines file.processes set k in record { process = found.0; inside = Contains-append_left bodies (file.system ∷ []) found.0 found.1; is_set = found.2 }
        | inr k ↦ record { process = file.system; inside = Contains-append_right bodies (file.system ∷ []) file.system (contains_here file.system []); is_set = set_of_words file.system set k }
      ]

-- ---- what holds of a set

pub record IsSound (count : ℕ) (set : List ℕ) : Type 0 where
  pub ascends : IsStrictlyIncreasing set
  pub no_tau : AllByRecursion (λ a. 0 < a) set
  pub known : AllByRecursion (λ a. a < count) set

positive : (n : ℕ) → ¬ (n ≡ 0) → 0 < n
positive zero apart = absurd (apart refl)
positive (suc n) apart = omega arith

module _ (input : List ℕ) (tokens : List Token) (file : FileNode) (naming : Naming) (are : IsTokens input tokens) (apart : HasNone (TauAt (IsTau input tokens) file)) (acts : (i : ℕ) → naming.action i ≡ place_in (actions_of (name_at input tokens) file) (name_at input tokens i)) where
  abbrev names : List (List ℕ)
  names = actions_of (name_at input tokens) file

  some_names : 0 < length names
  some_names = omega arith

  number_known : (i : ℕ) → naming.action i < length names
  number_known i = subst (λ (n : ℕ). n < length names) (sym (acts i)) (place_within names (name_at input tokens i) some_names)

  number_positive : (process : ProcessNode) (i : ℕ) → Contains (processes_of file) process → Contains (set_words_in process) i → 0 < naming.action i
  number_positive process i inside among = positive (naming.action i) (λ e.
      let stands = action_stands (name_at input tokens) file process i inside (words_of_sets process i among) in
      let place : place_in names (name_at input tokens i) ≡ 0 = sym (acts i) ∙ e in
      let first : slice_get names 0 ≡ Some (name_at input tokens i) = subst (λ (n : ℕ). slice_get names n ≡ Some (name_at input tokens i)) place stands in
      let tau : codes "tau" ≡ name_at input tokens i = same_some (codes "tau") (name_at input tokens i) first in
      apart i ((process, inside, among), tau_stands input tokens i are (sym tau)))
    where
      same_some : (x y : List ℕ) → Some x ≡ Some y → x ≡ y
      same_some x y e = cc

  pub sound_set : (number : ℕ) (set : List ℕ) → slice_get (sets_of (named_bodies naming file) (named_system naming file)) number ≡ Some set → IsSound (length names) set
  sound_set number set is =
      let written = flat_map sets_written (named_bodies naming file) ++ sets_written (named_system naming file) in
      let found = set_in_file naming file set (first_no_more set written (contains_from_get (first_places written) number set is)) in
      let words = found.is_set.words in
      let number_of : (a : ℕ) → Contains set a → (i : ℕ) × Contains words i × (naming.action i ≡ a) =
      λ a among. contains_map_from naming.action words a (set_no_more (map naming.action words) a (subst (λ (s : List ℕ). Contains s a) found.is_set.is_set among)) in
      record {
        ascends = subst IsStrictlyIncreasing (sym found.is_set.is_set) (increasing_from (ascending_set (map naming.action words)) (set_ascends (map naming.action words)));
        no_tau = all_from (λ a. 0 < a) set (λ a among. let n = number_of a among in subst (λ (x : ℕ). 0 < x) n.2 (number_positive found.process n.0 found.inside (found.is_set.among n.0 n.1)));
        known = all_from (λ a. a < length names) set (λ a among. let n = number_of a among in subst (λ (x : ℕ). x < length names) n.2 (number_known n.0));
      }
