-- The indices at which a file's limits and mixed choices are told are those of its tokens.
use Rattle.std.proofs.Common.{◌≡◌, ℕ, zero, suc, ◌<◌, Bool, true, false, if◌then◌else◌, List, [], ◌∷◌, ◌++◌, map, length, get_or, Some, slice_get, sym, subst}
use Rattle.std.specs.List.{AllByRecursion}
use Rattle.pepa_rates.specs.declared.rate.Rate.{Rate}
use Rattle.pepa_lexer.specs.declared.kinds.Token.{Token}
use Rattle.pepa_reader.specs.declared.trees.FileTree.{FileTree}
use Rattle.token_grammar.specs.Terminals.{terminals, name_at}
use Rattle.pepa_reader.specs.Trees.{ProcessNode, ConstantAt, PrefixAt, ChoiceOf, CoopAt, HideOf, ProcessLineNode, file_node_of}
use Rattle.pepa_reader.specs.FileAnswers.{IsFileTree}
use Rattle.pepa_model.specs.Expression.{Expression, Const, Prefixed, Chosen}
use Rattle.pepa_model.specs.Opened.{Opened, OpenPrefix, OpenChoice, OpenConst}
use Rattle.pepa_resolver.specs.Named.{Named, NamedConstant, NamedPrefix, NamedChoice, NamedCoop, NamedHide, Naming, named, first_at}
use Rattle.pepa_resolver.specs.Numbers.{naming_of}
use Rattle.pepa_resolver.specs.ResolvedFiles.{IsNumberedFile}
use Rattle.pepa_resolver.proofs.Within.{EachInProcess, EachInFile, Inside}
use Rattle.pepa_checks.proofs.Structured.{each_inside, first_each}
use Rattle.pepa_checks.specs.Outline.{is_compound}
use Rattle.pepa_checks.specs.Activities.{sites, written_followers, written_components, written_in, written_leaves, IsFirstWritten}

-- ---- the activities of a process

-- it holds of the index of each activity
abbrev pub EachActivity : (ℕ → Type 0) → Named → Type 0
EachActivity P (NamedConstant at c) = Unit {0}
EachActivity P (NamedPrefix at action rate next) = P at × EachActivity P next
EachActivity P (NamedChoice left right) = EachActivity P left × EachActivity P right
EachActivity P (NamedCoop left right set) = EachActivity P left × EachActivity P right
EachActivity P (NamedHide inner set) = EachActivity P inner

module _ (P : ℕ → Type 0) where
  named_each : (naming : Naming) (process : ProcessNode) → EachInProcess P process → EachActivity P (named naming process)
  named_each naming (ConstantAt at) each = tt
  named_each naming (PrefixAt at rate next) each = (each.0, named_each naming next each.2)
  named_each naming (ChoiceOf left right) each = (named_each naming left each.0, named_each naming right each.1)
  named_each naming (CoopAt at left right set) each = (named_each naming left each.1, named_each naming right each.2)
  named_each naming (HideOf inner set) each = named_each naming inner each.0

  bodies_each : (naming : Naming) (lines : List ProcessLineNode) → AllByRecursion (λ line. P line.line_at × EachInProcess P line.body) lines → AllByRecursion (EachActivity P) (map (λ (line : ProcessLineNode). named naming line.body) lines)
  bodies_each naming [] each = tt
  bodies_each naming (line ∷ lines) each = (named_each naming line.body each.0.1, bodies_each naming lines each.1)

  -- ---- the processes that leaves are written as

  all_append : (xs ys : List Named) → AllByRecursion (EachActivity P) xs → AllByRecursion (EachActivity P) ys → AllByRecursion (EachActivity P) (xs ++ ys)
  all_append [] ys h k = k
  all_append (x ∷ xs) ys h k = (h.0, all_append xs ys h.1 k)

  followers_each : (process : Named) → EachActivity P process → AllByRecursion (EachActivity P) (written_followers process)
  followers_each (NamedConstant at c) each = tt
  followers_each (NamedPrefix at action rate next) each = (each.1, followers_each next each.1)
  followers_each (NamedChoice left right) each = all_append (written_followers left) (written_followers right) (followers_each left each.0) (followers_each right each.1)
  followers_each (NamedCoop left right set) each = tt
  followers_each (NamedHide inner set) each = tt

  module _ (compounds : List Bool) where
    components_each : (process : Named) → EachActivity P process → AllByRecursion (EachActivity P) (written_components compounds process)
    components_each (NamedConstant at c) each = by (is_compound compounds c)
      where
        by : (b : Bool) → AllByRecursion (EachActivity P) (if b then [] else NamedConstant at c ∷ [])
        by true = tt
        by false = (tt, tt)
    components_each (NamedPrefix at action rate next) each = (each, followers_each (NamedPrefix at action rate next) each)
    components_each (NamedChoice left right) each = (each, followers_each (NamedChoice left right) each)
    components_each (NamedCoop left right set) each = all_append (written_components compounds left) (written_components compounds right) (components_each left each.0) (components_each right each.1)
    components_each (NamedHide inner set) each = components_each inner each

    body_each : (flag : Bool) (body : Named) → EachActivity P body → AllByRecursion (EachActivity P) (if flag then written_components compounds body else written_followers body)
    body_each true body each = components_each body each
    body_each false body each = followers_each body each

    written_each : (flags : List Bool) (bodies : List Named) → AllByRecursion (EachActivity P) bodies → AllByRecursion (EachActivity P) (written_in compounds flags bodies)
    written_each [] bodies each = tt
    written_each (flag ∷ flags) [] each = tt
    written_each (flag ∷ flags) (body ∷ bodies) each =
        all_append (if flag then written_components compounds body else written_followers body) (written_in compounds flags bodies) (body_each flag body each.0) (written_each flags bodies each.1)

  all_at : (xs : List Named) (before : List Named) (x : Named) (behind : List Named) → AllByRecursion (EachActivity P) xs → xs ≡ before ++ x ∷ behind → EachActivity P x
  all_at xs before x behind each e = middle before (subst (AllByRecursion (EachActivity P)) e each)
    where
      middle : (before : List Named) → AllByRecursion (EachActivity P) (before ++ x ∷ behind) → EachActivity P x
      middle [] h = h.0
      middle (y ∷ before) h = middle before h.1

  first_written_each : (written : List Named) (leaf : Expression) (process : Named) → AllByRecursion (EachActivity P) written → IsFirstWritten written leaf process → EachActivity P process
  first_written_each written (Const c) process each is = subst (EachActivity P) (sym is) tt
  first_written_each written (Prefixed a r next) process each is = all_at written is.0 process is.1 each is.2
  first_written_each written (Chosen x y) process each is = all_at written is.0 process is.1 each is.2

  -- ---- the sites of activities

  module _ (bodies : List Named) (all : AllByRecursion (EachActivity P) bodies) where
    got_each : (bs : List Named) (c : ℕ) (d : Named) → AllByRecursion (EachActivity P) bs → EachActivity P d → EachActivity P (get_or bs c d)
    got_each [] c d h k = k
    got_each (b ∷ bs) zero d h k = h.0
    got_each (b ∷ bs) (suc c) d h k = got_each bs c d h.1 k

    each_append : (xs ys : List ℕ) → AllByRecursion P xs → AllByRecursion P ys → AllByRecursion P (xs ++ ys)
    each_append [] ys h k = k
    each_append (x ∷ xs) ys h k = (h.0, each_append xs ys h.1 k)

    sites_each : (process : Named) (opened : Opened) → EachActivity P process → AllByRecursion P (sites bodies process opened)
    sites_each (NamedPrefix at action rate next) (OpenPrefix a r e) each = (each.0, tt)
    sites_each (NamedPrefix at action rate next) (OpenChoice p q) each = tt
    sites_each (NamedPrefix at action rate next) (OpenConst c p) each = tt
    sites_each (NamedChoice left right) (OpenPrefix a r e) each = tt
    sites_each (NamedChoice left right) (OpenChoice p q) each = each_append (sites bodies left p) (sites bodies right q) (sites_each left p each.0) (sites_each right q each.1)
    sites_each (NamedChoice left right) (OpenConst c p) each = tt
    sites_each (NamedConstant at c) (OpenPrefix a r e) each = tt
    sites_each (NamedConstant at c) (OpenChoice p q) each = tt
    sites_each (NamedConstant at c) (OpenConst d p) each = sites_each (get_or bodies c (NamedConstant at c)) p (got_each bodies c (NamedConstant at c) all tt)
    sites_each (NamedCoop left right set) (OpenPrefix a r e) each = tt
    sites_each (NamedCoop left right set) (OpenChoice p q) each = tt
    sites_each (NamedCoop left right set) (OpenConst c p) each = tt
    sites_each (NamedHide inner set) (OpenPrefix a r e) each = tt
    sites_each (NamedHide inner set) (OpenChoice p q) each = tt
    sites_each (NamedHide inner set) (OpenConst c p) each = tt

at_index : (P : ℕ → Type 0) (xs : List ℕ) (k i : ℕ) → AllByRecursion P xs → slice_get xs k ≡ Some i → P i
at_index P [] k i h is = absurd cc
at_index P (x ∷ xs) zero i h is = let same : x ≡ i = cc in subst P same h.0
at_index P (x ∷ xs) (suc k) i h is = at_index P xs k i h.1 is

-- ---- in a file

module _ (input : List ℕ) (tokens : List Token) (tree : FileTree) (values : List Rate) (bodies : List Named) (system : Named) (is_tree : IsFileTree (terminals input tokens) tree) (numbered : IsNumberedFile input tokens (file_node_of tree) values bodies system) where
  abbrev naming : Naming
  naming = naming_of (name_at input tokens) tokens (file_node_of tree) values

  abbrev Within : ℕ → Type 0
  Within = Inside 0 (length tokens)

  each : EachInFile Within (file_node_of tree)
  each = each_inside input tokens tree is_tree

  pub system_within : first_at system < length tokens
  system_within = (subst (λ (s : Named). Within (first_at s)) (sym numbered.system_is) (first_each Within naming (file_node_of tree).system each.system)).1

  all_bodies : AllByRecursion (EachActivity Within) bodies
  all_bodies = subst (AllByRecursion (EachActivity Within)) (sym numbered.bodies_are) (bodies_each Within naming (file_node_of tree).processes each.processes)

  last : EachActivity Within system
  last = subst (EachActivity Within) (sym numbered.system_is) (named_each Within naming (file_node_of tree).system each.system)

  pub site_within : (compounds : List Bool) (leaf : Expression) (process : Named) (opened : Opened) (place i : ℕ) → IsFirstWritten (written_leaves compounds bodies system) leaf process → slice_get (sites bodies process opened) place ≡ Some i → i < length tokens
  site_within compounds leaf process opened place i first is =
      let written = all_append Within (written_in compounds compounds bodies) (written_components compounds system) (written_each Within compounds compounds bodies all_bodies) (components_each Within compounds system last) in
      let here = first_written_each Within (written_leaves compounds bodies system) leaf process written first in
      (at_index Within (sites bodies process opened) place i (sites_each Within bodies all_bodies process opened here) is).1
