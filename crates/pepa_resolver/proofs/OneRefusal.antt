-- A file is refused for at most one of the causes of names, sets and rates, at one index, and then it has no numbers.
use Rattle.std.proofs.Common.{◌≡◌, ℕ, ◌≤◌, ◌<◌, inl, inr, List, map, refl, sym, ◌∙◌, subst, arith}
use Rattle.std.proofs.lemmas.Option.{same_Some}
use Rattle.pepa_rates.specs.declared.rate.Rate.{Rate}
use Rattle.pepa_lexer.specs.declared.kinds.Token.{Token}
use Rattle.pepa_reader.specs.declared.trees.FileTree.{FileTree}
use Rattle.token_grammar.specs.Terminals.{terminals, name_at}
use Rattle.pepa_reader.specs.Trees.{FileNode, file_node_of}
use Rattle.pepa_reader.specs.FileAnswers.{IsFileTree}
use Rattle.pepa_resolver.specs.declared.refusal.ResolveCause.{ResolveCause}
use Rattle.pepa_resolver.specs.declared.refusal.ResolveCause.TheVariants.{TooManyLines, Twice, UnknownName, TauInSet, BadRate}
use Rattle.pepa_resolver.specs.Faults.{HasNone, IsLeast, TooManyAt, TwiceAt, UnknownAt, TauAt}
use Rattle.pepa_resolver.specs.Outcomes.{Outcome, Good, BadRateAt, IsFirstBadRate, IsBadRateOf}
use Rattle.pepa_resolver.specs.CheckedRates.{AreRates}
use Rattle.pepa_resolver.specs.NamesAnswers.{IsTau, IsNamesRefusedFor}
use Rattle.pepa_resolver.specs.Named.{Named}
use Rattle.pepa_resolver.specs.ResolvedFiles.{IsNumberedFile}
use Rattle.pepa_resolver.proofs.Judges.{Judges, For, for_one, Behind, behind, fewer}
use Rattle.pepa_resolver.proofs.OneNumbering.{one_outcomes}
use Rattle.pepa_resolver.proofs.Starts.{one_first_bad}

-- ---- the checks, each alone

pub least_judges : {C : Type 0} (cause : C) (At : ℕ → Type 0) → Judges (For cause (IsLeast At)) (HasNone At)
least_judges cause At =
    for_one cause (IsLeast At) (HasNone At)
    (λ i j h k. let a : i ≤ j = h.least j k.stands in let b : j ≤ i = k.least i h.stands in omega arith)
    (λ i h none. none i h.stands)

-- ---- a whole file

-- a file with numbers in place of its names
pub record Numbering (input : List ℕ) (tokens : List Token) (file : FileNode) : Type 0 where
  pub values : List Rate
  pub bodies : List Named
  pub system : Named
  pub numbered : IsNumberedFile input tokens file values bodies system

module _ (input : List ℕ) (tokens : List Token) (file : FileNode) where
  abbrev name : ℕ → List ℕ
  name = name_at input tokens

  abbrev FirstBad : ℕ → Type 0
  FirstBad i = IsBadRateOf tokens name file i

  abbrev HasRates : Type 0
  HasRates = (values : List Rate) × AreRates tokens name file values

  abbrev FromRates : ResolveCause → ℕ → Type 0
  FromRates = For BadRate FirstBad

  abbrev FromSets : ResolveCause → ℕ → Type 0
  FromSets = Behind (For TauInSet (IsLeast (TauAt (IsTau input tokens) file))) (HasNone (TauAt (IsTau input tokens) file)) FromRates

  abbrev FromKnown : ResolveCause → ℕ → Type 0
  FromKnown = Behind (For UnknownName (IsLeast (UnknownAt name file))) (HasNone (UnknownAt name file)) FromSets

  abbrev FromNames : ResolveCause → ℕ → Type 0
  FromNames = Behind (For Twice (IsLeast (TwiceAt name file))) (HasNone (TwiceAt name file)) FromKnown

  abbrev FromLimits : ResolveCause → ℕ → Type 0
  FromLimits = Behind (For TooManyLines (IsLeast (TooManyAt file))) (HasNone (TooManyAt file)) FromNames

  in_order : (cause : ResolveCause) (i : ℕ) → IsNamesRefusedFor input tokens file cause i → FromLimits cause i
  in_order TooManyLines i h = inl (refl, h)
  in_order Twice i h = inr (h.0, inl (refl, h.1))
  in_order UnknownName i h = inr (h.0.0, inr (h.0.1, inl (refl, h.1)))
  in_order TauInSet i h = inr (h.0.0.0, inr (h.0.0.1, inr (h.0.1, inl (refl, h.1))))
  in_order BadRate i h = inr (h.0.0.0.0, inr (h.0.0.0.1, inr (h.0.0.1, inr (h.0.1, (refl, h.1)))))

  module _ (one_rate : (outcomes : List (Outcome Rate)) (i j : ℕ) → IsFirstBadRate tokens name file outcomes i → IsFirstBadRate tokens name file outcomes j → i ≡ j) where
    rates_judge : Judges (For BadRate FirstBad) HasRates
    rates_judge =
        for_one BadRate FirstBad HasRates
        (λ i j h k. one_rate k.0 i j (subst (λ outcomes. IsFirstBadRate tokens name file outcomes i) (one_outcomes tokens name file.rates h.0 k.0 h.1 k.1) h.2) k.2)
        (λ i h fine. none i h fine)
      where
        none : (i : ℕ) → FirstBad i → HasRates → ⊥
        none i (outcomes, are, bad) (values, rates) =
            let same = one_outcomes tokens name file.rates outcomes (map Good values) are rates.lines in
            rates.fine bad.start i (subst (λ os. BadRateAt tokens name file os bad.start i) same bad.bad)

    node_judges : Judges (IsNamesRefusedFor input tokens file) (Numbering input tokens file)
    node_judges =
        fewer FromLimits (IsNamesRefusedFor input tokens file)
        (HasNone (TooManyAt file) × (HasNone (TwiceAt name file) × (HasNone (UnknownAt name file) × (HasNone (TauAt (IsTau input tokens) file) × HasRates)))) (Numbering input tokens file)
        in_order
        (λ fine. let sets = fine.numbered.fine in (sets.0.0.0, (sets.0.0.1, (sets.0.1, (sets.1, (fine.values, fine.numbered.rates))))))
        (behind _ FromNames _ _ (least_judges TooManyLines (TooManyAt file))
        (behind _ FromKnown _ _ (least_judges Twice (TwiceAt name file))
        (behind _ FromSets _ _ (least_judges UnknownName (UnknownAt name file))
        (behind _ FromRates _ _ (least_judges TauInSet (TauAt (IsTau input tokens) file))
        rates_judge))))

-- what refuses a file is one, and is not there where it has numbers in place of its names
pub file_judges : (input : List ℕ) (tokens : List Token) (tree : FileTree) → IsFileTree (terminals input tokens) tree → Judges (IsNamesRefusedFor input tokens (file_node_of tree)) (Numbering input tokens (file_node_of tree))
file_judges input tokens tree is =
    node_judges input tokens (file_node_of tree)
    (subst (λ (file : FileNode). (outcomes : List (Outcome Rate)) (i j : ℕ) → IsFirstBadRate tokens (name_at input tokens) file outcomes i → IsFirstBadRate tokens (name_at input tokens) file outcomes j → i ≡ j)
    (sym is.tree_is) (one_first_bad tokens (name_at input tokens) is.file))

pub one_refusal : (input : List ℕ) (tokens : List Token) (tree : FileTree) (cause other : ResolveCause) (i j : ℕ) → IsFileTree (terminals input tokens) tree → IsNamesRefusedFor input tokens (file_node_of tree) cause i → IsNamesRefusedFor input tokens (file_node_of tree) other j → (cause ≡ other) × (i ≡ j)
one_refusal input tokens tree cause other i j is h k =
    ((file_judges input tokens tree is).same_cause cause other i j h k, (file_judges input tokens tree is).same_index cause other i j h k)

pub refused_or_numbered : (input : List ℕ) (tokens : List Token) (tree : FileTree) (cause : ResolveCause) (i : ℕ) (values : List Rate) (bodies : List Named) (system : Named) → IsFileTree (terminals input tokens) tree → IsNamesRefusedFor input tokens (file_node_of tree) cause i → ¬ IsNumberedFile input tokens (file_node_of tree) values bodies system
refused_or_numbered input tokens tree cause i values bodies system is h numbered =
    (file_judges input tokens tree is).apart cause i h (record { values = values; bodies = bodies; system = system; numbered = numbered })
