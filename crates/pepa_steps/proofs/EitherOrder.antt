-- The rates of a choice don't mind the order of its operands.
use Rattle.std.proofs.Common.{◌≡◌, ℕ, List, Result, Ok, Err, refl, ap, subst, ◌∙◌}
use Rattle.std.specs.BTreeMap.{BTreeMap}
use Rattle.pepa_rates.specs.declared.rate.Rate.{Rate}
use Rattle.pepa_rates.specs.declared.rate.Rate.TheVariants.{Active, Passive}
use Rattle.pepa_rates.proofs.Sums.{sum_of-comm}
use Rattle.pepa_model.specs.Apparent.{Apparent, NoRate, Rated, Undefined, together, IsFine, HasFault}
use Rattle.pepa_rates.specs.declared.rate.RateFault.{RateFault}
use Rattle.fault_ends.specs.declared.end.End.{End}
use Rattle.fault_ends.specs.declared.end.End.TheVariants.{Fault, Memory}
use Rattle.pepa_steps.specs.ActionRates.{rate_in, AnswersChoice, rates_of_choice}

same_sum : (r s : Rate) → together (Rated r) (Rated s) ≡ together (Rated s) (Rated r)
same_sum (Active p) (Active q) = ap (λ f. Rated (Active f)) (sum_of-comm p q)
same_sum (Passive p) (Passive q) = ap (λ f. Rated (Passive f)) (sum_of-comm p q)
same_sum (Active p) (Passive q) = refl
same_sum (Passive p) (Active q) = refl

together-comm : (x y : Apparent) → together x y ≡ together y x
together-comm NoRate NoRate = refl
together-comm NoRate (Rated s) = refl
together-comm NoRate Undefined = refl
together-comm (Rated r) NoRate = refl
together-comm (Rated r) (Rated s) = same_sum r s
together-comm (Rated r) Undefined = refl
together-comm Undefined NoRate = refl
together-comm Undefined (Rated s) = refl
together-comm Undefined Undefined = refl

module _ (left right : List (ℕ × Rate)) where
  same : (action : ℕ) → rates_of_choice right left action ≡ rates_of_choice left right action
  same action = together-comm (rate_in right action) (rate_in left action)

  pub other_order : (result : Result (BTreeMap ℕ Rate) (End RateFault)) → AnswersChoice right left result → AnswersChoice left right result
  other_order (Ok rates) h = (h.0, λ action. h.1 action ∙ same action)
  other_order (Err (Fault fault)) h = record {
    action = h.action;
    counts = h.counts;
    faulty = subst (λ (x : Apparent). HasFault x fault) (same h.action) h.faulty;
    least = λ other counts less. subst IsFine (same other) (h.least other counts less);
  }
  other_order (Err Memory) h = tt
