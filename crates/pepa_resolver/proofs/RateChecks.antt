-- What the check of the rates answers.
use Rattle.std.proofs.Common.{◌≡◌, ℕ, suc, List, [], ◌∷◌, map, Option, Some, None, ◌⊎◌, inl, inr, refl, sym, ap, ◌∙◌, subst}
use Rattle.std.proofs.Math.Path.{fun_ext}
use Rattle.pepa_rates.specs.declared.rate.Rate.{Rate}
use Rattle.pepa_lexer.specs.declared.kinds.Token.{Token}
use Rattle.pepa_reader.specs.Trees.{RateNode, FileNode}
use Rattle.pepa_resolver.specs.declared.bad_rates.BadRate.{BadRate}
use Rattle.pepa_resolver.specs.Parts.{rate_ats, rates_in, processes_of}
use Rattle.pepa_resolver.specs.Faults.{HasNone, UnknownAt}
use Rattle.pepa_resolver.specs.Outcomes.{Outcome, Good, rate_outcome, AreOutcomes, BadRateAt, IsBadRateOf}
use Rattle.pepa_resolver.specs.Values.{named_in}
use Rattle.pepa_resolver.specs.FirstBad.{IsEarliest, earliest_in, line_sites, BadLine, BadSite, BadProcess}
use Rattle.pepa_resolver.specs.CheckedRates.{AreGood, AreRates}
use Rattle.pepa_resolver.proofs.FirstBads.{relabelled, earliest_is, site_cases, process_cases}
use Rattle.pepa_resolver.proofs.OutcomeLists.{looked_named}
use Rattle.pepa_resolver.proofs.GoodRates.{lines_good}

-- outcomes that are values, as these values
rates_of : (outcomes : List (Outcome Rate)) → AreGood outcomes → (rates : List Rate) × (outcomes ≡ map Good rates)
rates_of [] good = ([], refl)
rates_of (outcome ∷ outcomes) good =
    let here = good 0 outcome refl in
    let more = rates_of outcomes (λ k o at. good (suc k) o at) in
    (here.0 ∷ more.0, ap (λ o. o ∷ outcomes) here.1 ∙ ap (λ os. Good here.0 ∷ os) more.1)

module _ (tokens : List Token) (name : ℕ → List ℕ) (file : FileNode) (keys : List (List ℕ)) (outcomes : List (Outcome Rate)) (keys_are : keys ≡ map name (rate_ats file.rates)) (are : AreOutcomes tokens name file.rates outcomes) where
  -- the answer for the whole file
  abbrev pub Judges : Option BadRate → Type 0
  Judges bad = IsEarliest (λ start at. BadLine file.rates outcomes start at ⊎ BadProcess tokens (λ i. named_in keys outcomes (name i)) (processes_of file) start at) bad

  by_lines : (bad : Option BadRate) → Judges bad → IsEarliest (BadRateAt tokens name file outcomes) bad
  by_lines bad is =
      let named = fun_ext (λ (i : ℕ). ap (λ names. named_in names outcomes (name i)) keys_are ∙ sym (looked_named name file.rates outcomes i)) in
      subst (λ (named : ℕ → Outcome Rate). IsEarliest (λ start at. BadLine file.rates outcomes start at ⊎ BadProcess tokens named (processes_of file) start at) bad) named is

  abbrev named : ℕ → Outcome Rate
  named i = named_in keys outcomes (name i)

  abbrev outcome : RateNode → Outcome Rate
  outcome rate = rate_outcome tokens named rate

  -- the lines first, then the activities of the process lines and those of the system
  pub judged : (bad : Option BadRate) → IsEarliest (BadLine file.rates outcomes) bad → Judges (earliest_in outcome (earliest_in outcome bad (line_sites file.processes)) (rates_in file.system))
  judged bad is =
      let Lines = λ (start at : ℕ). BadLine file.rates outcomes start at in
      let InLines = λ (start at : ℕ). BadSite tokens named (line_sites file.processes) start at in
      let InSystem = λ (start at : ℕ). BadSite tokens named (rates_in file.system) start at in
      relabelled (λ start at. (Lines start at ⊎ InLines start at) ⊎ InSystem start at) (λ start at. Lines start at ⊎ BadProcess tokens named (processes_of file) start at)
      (earliest_in outcome (earliest_in outcome bad (line_sites file.processes)) (rates_in file.system))
      (λ start at h. to start at h) (λ start at h. from start at h)
      (earliest_is tokens named (λ start at. Lines start at ⊎ InLines start at) (earliest_in outcome bad (line_sites file.processes)) (rates_in file.system)
      (earliest_is tokens named Lines bad (line_sites file.processes) is))
    where
      to : (start at : ℕ) → (BadLine file.rates outcomes start at ⊎ BadSite tokens named (line_sites file.processes) start at) ⊎ BadSite tokens named (rates_in file.system) start at → BadLine file.rates outcomes start at ⊎ BadProcess tokens named (processes_of file) start at
      to start at (inl (inl line)) = inl line
      to start at (inl (inr site)) = inr (site_cases tokens named file.processes file.system start at (inl site))
      to start at (inr site) = inr (site_cases tokens named file.processes file.system start at (inr site))

      from : (start at : ℕ) → BadLine file.rates outcomes start at ⊎ BadProcess tokens named (processes_of file) start at → (BadLine file.rates outcomes start at ⊎ BadSite tokens named (line_sites file.processes) start at) ⊎ BadSite tokens named (rates_in file.system) start at
      from start at (inl line) = inl (inl line)
      from start at (inr process) = elim (process_cases tokens named file.processes file.system start at process) [ inl site ↦ inl (inr site) | inr site ↦ inr site ]

  pub refused_rates : (bad : BadRate) → Judges (Some bad) → IsBadRateOf tokens name file bad.at
  refused_rates bad is =
      let first = by_lines (Some bad) is in
      (outcomes, are, record { start = bad.start; bad = first.0; first = first.1 })

  -- the values of the lines, where none is refused and each name is known
  pub fine_rates : Judges None → HasNone (UnknownAt name file) → (rates : List Rate) × (outcomes ≡ map Good rates) × AreRates tokens name file rates
  fine_rates is known =
      let good = lines_good tokens name file.rates outcomes are (λ start at h. is start at (inl h)) (λ i h. known i (inl h)) in
      let found = rates_of outcomes good in (
        found.0,
        found.1,
        record {
          lines = subst (AreOutcomes tokens name file.rates) found.1 are;
          fine = subst (λ (os : List (Outcome Rate)). (start i : ℕ) → ¬ BadRateAt tokens name file os start i) found.1 (by_lines None is);
        },
      )
