-- A file has numbers in place of its names, or a first fault of its limits, names, sets and rates.
use Rattle.std.proofs.Common.{◌≡◌, ℕ, zero, suc, ◌<◌, ◌≤◌, ◌⊎◌, inl, inr, List, [], ◌∷◌, ◌++◌, map, length, Some, slice_get, refl, sym, ◌∙◌, ap, subst, arith, append_assoc, append-nil}
use Rattle.std.proofs.lemmas.Option.{same_Some}
use Rattle.pepa_rates.specs.declared.rate.Rate.{Rate}
use Rattle.pepa_lexer.specs.declared.kinds.Token.{Token}
use Rattle.token_grammar.specs.Terminals.{name_at}
use Rattle.pepa_reader.specs.Trees.{RateLineNode, FileNode}
use Rattle.pepa_resolver.specs.declared.refusal.ResolveCause.{ResolveCause}
use Rattle.pepa_resolver.specs.declared.refusal.ResolveCause.TheVariants.{TooManyLines, Twice, UnknownName, TauInSet, BadRate}
use Rattle.pepa_resolver.specs.Faults.{HasNone, IsLeast, TooManyAt, TwiceAt, UnknownAt, TauAt}
use Rattle.pepa_resolver.specs.Outcomes.{Outcome, Good, looked_up, rate_outcome, AreOutcomes, BadRateAt}
use Rattle.pepa_resolver.specs.CheckedRates.{AreGood, AreRates}
use Rattle.pepa_resolver.specs.NamesAnswers.{IsTau, FineSets, IsNamesRefusedFor}
use Rattle.pepa_resolver.specs.Numbers.{naming_of, named_bodies, named_system}
use Rattle.pepa_resolver.proofs.GoodRates.{lines_good}
use Rattle.pepa_resolver.proofs.OutcomeLists.{outcomes_more}
use Rattle.pepa_resolver.proofs.OneRefusal.{Numbering}
use Rattle.pepa_checks.proofs.Unavoidable.{not_both, some_least}

-- ---- the outcomes of rate lines

module _ (tokens : List Token) (name : ℕ → List ℕ) where
  outcomes_along : (rest front : List RateLineNode) (outcomes : List (Outcome Rate)) → AreOutcomes tokens name front outcomes → (all : List (Outcome Rate)) × AreOutcomes tokens name (front ++ rest) all
  outcomes_along [] front outcomes are = (outcomes, subst (λ (l : List RateLineNode). AreOutcomes tokens name l outcomes) (sym (append-nil front)) are)
  outcomes_along (line ∷ rest) front outcomes are =
      let outcome = rate_outcome tokens (looked_up name front outcomes) line.rate in
      let more = outcomes_along rest (front ++ line ∷ []) (outcomes ++ outcome ∷ []) (outcomes_more tokens name front outcomes line outcome are refl) in
      (more.0, subst (λ (l : List RateLineNode). AreOutcomes tokens name l more.0) (append_assoc front (line ∷ []) rest) more.1)

  some_outcomes : (lines : List RateLineNode) → (outcomes : List (Outcome Rate)) × AreOutcomes tokens name lines outcomes
  some_outcomes lines = outcomes_along lines [] [] (record { count = refl; each = λ k line at. absurd cc })

good_values : (outcomes : List (Outcome Rate)) → AreGood outcomes → (values : List Rate) × (outcomes ≡ map Good values)
good_values [] good = ([], refl)
good_values (outcome ∷ outcomes) good =
    let first = good zero outcome refl in
    let rest = good_values outcomes (λ k o at. good (suc k) o at) in
    (first.0 ∷ rest.0, ap (λ (o : Outcome Rate). o ∷ outcomes) first.1 ∙ ap (λ (l : List (Outcome Rate)). Good first.0 ∷ l) rest.1)

-- ---- the whole file

module _ (input : List ℕ) (tokens : List Token) (file : FileNode) where
  abbrev name : ℕ → List ℕ
  name = name_at input tokens

  -- numbers, or a fault
  abbrev pub NumbersOrFault : Type 0
  NumbersOrFault = Numbering input tokens file ⊎ ((cause : ResolveCause) × (i : ℕ) × IsNamesRefusedFor input tokens file cause i)

  numbers_from : (values : List Rate) → FineSets input tokens file → AreRates tokens name file values → Numbering input tokens file
  numbers_from values fine rates = record {
    values = values;
    bodies = named_bodies (naming_of name tokens file values) file;
    system = named_system (naming_of name tokens file values) file;
    numbered = record { fine = fine; rates = rates; bodies_are = refl; system_is = refl };
  }

  from_rates : FineSets input tokens file → (NumbersOrFault → ⊥) → ⊥
  from_rates fine apart =
      let (outcomes, are) = some_outcomes tokens name file.rates in
      some_least (λ start. (i : ℕ) × BadRateAt tokens name file outcomes start i) (λ found. elim found [
        | inl none ↦
            let good = lines_good tokens name file.rates outcomes are (λ start at bad. none start (at, inl bad)) (λ i early. fine.0.1 i (inl early)) in
            let (values, same) = good_values outcomes good in
            apart (inl (numbers_from values fine (record {
              lines = subst (AreOutcomes tokens name file.rates) same are;
              fine = λ start i bad. none start (i, subst (λ (os : List (Outcome Rate)). BadRateAt tokens name file os start i) (sym same) bad);
            })))
        | inr first ↦ apart (inr (
          BadRate,
          first.1.stands.0,
          (
            fine,
            (
              outcomes,
              are,
              record {
                start = first.0;
                bad = first.1.stands.1;
                first = λ other j bad less. not_both other first.0 less (first.1.least other (j, bad));
              },
            ),
          ),
        ))
      ])

  pub some_numbers : (NumbersOrFault → ⊥) → ⊥
  some_numbers apart =
      some_least (TooManyAt file) (λ limits. elim limits [
        | inr first ↦ apart (inr (TooManyLines, first.0, first.1))
        | inl few ↦ some_least (TwiceAt name file) (λ names. elim names [
          | inr first ↦ apart (inr (Twice, first.0, (few, first.1)))
          | inl once ↦ some_least (UnknownAt name file) (λ unknown. elim unknown [
            | inr first ↦ apart (inr (UnknownName, first.0, ((few, once), first.1)))
            | inl known ↦ some_least (TauAt (IsTau input tokens) file) (λ sets. elim sets [
              | inr first ↦ apart (inr (TauInSet, first.0, (((few, once), known), first.1)))
              | inl fine ↦ from_rates (((few, once), known), fine) apart
            ])
          ])
        ])
      ])
