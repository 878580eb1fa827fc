-- The apparent rate of one action, from a component's parts.
use Rattle.std.proofs.Common.{◌≡◌, ◌==◌, ℕ, List, [], ◌∷◌, ◌++◌, Option, Result, Ok, Err, sym, ap, ◌∙◌, subst, if◌then◌else◌, Bool, true, false}
use Rattle.pepa_rates.specs.declared.rate.Rate.{Rate}
use Rattle.pepa_rates.specs.declared.rate.RateFault.{RateFault}
use Rattle.pepa_rates.specs.Fraction.{InRange}
use Rattle.pepa_rates.specs.Sum.{fraction_of}
use Rattle.pepa_model.specs.Expression.{Expression, Const, Prefixed, Chosen, Definition, Defines}
use Rattle.pepa_model.specs.Opened.{Opened, OpenChoice, OpenConst, Opens, parts}
use Rattle.pepa_model.specs.Apparent.{Apparent, NoRate, Rated, apparent_rate, together, IsFine, HasFault}
use Rattle.pepa_steps.specs.ApparentAnswers.{apparent_of, AnswersOpened, IsTogether}
use Rattle.pepa_steps.proofs.Faults.{all_append, whole_from_parts, first_in_front, first_in_back, first_at_last}
use Rattle.pepa_steps.proofs.Opening.{opens_prefix, opens_choice, opens_const}

module _ (definitions : List Definition) (action : ℕ) where
  abbrev Fine : Opened → Type 0
  Fine p = IsFine (apparent_rate p action)

  abbrev Faulty : Opened → RateFault → Type 0
  Faulty p f = HasFault (apparent_rate p action) f

  abbrev pub Answers : Expression → Result (Option Rate) RateFault → Type 0
  Answers e result = (o : Opened) → Opens definitions e o → AnswersOpened o action result

  pub prefix_answers : (e : Expression) (a : ℕ) (r : Rate) (next : Expression) (rate : Option Rate) → e ≡ Prefixed a r next → InRange (fraction_of r)
      → (if a == action then Rated r else NoRate) ≡ apparent_of rate → Answers e (Ok rate)
  prefix_answers e a r next rate is in_range same o opens =
      subst (λ (o : Opened). AnswersOpened o action (Ok rate)) (sym (opens_prefix definitions e a r next is o opens))
      ((own (a == action), tt), same)
    where
      own : (b : Bool) → IsFine (if b then Rated r else NoRate)
      own true = in_range
      own false = tt

  pub left_fault : (e x y : Expression) (fault : RateFault) → e ≡ Chosen x y → Answers x (Err fault) → Answers e (Err fault)
  left_fault e x y fault is left o opens =
      let c = opens_choice definitions e x y is o opens in
      subst (λ (o : Opened). AnswersOpened o action (Err fault)) (sym c.whole)
      (first_in_front Fine Faulty fault (parts c.left ++ parts c.right) (OpenChoice c.left c.right ∷ [])
      (first_in_front Fine Faulty fault (parts c.left) (parts c.right) (left c.left c.opens_left)))

  pub right_fault : (e x y : Expression) (rate : Option Rate) (fault : RateFault) → e ≡ Chosen x y → Answers x (Ok rate) → Answers y (Err fault) → Answers e (Err fault)
  right_fault e x y rate fault is left right o opens =
      let c = opens_choice definitions e x y is o opens in
      subst (λ (o : Opened). AnswersOpened o action (Err fault)) (sym c.whole)
      (first_in_front Fine Faulty fault (parts c.left ++ parts c.right) (OpenChoice c.left c.right ∷ [])
      (first_in_back Fine Faulty fault (parts c.left) (parts c.right) (left c.left c.opens_left).0 (right c.right c.opens_right)))

  joined : (p q : Opened) (l r : Option Rate) (result : Result (Option Rate) RateFault) → AnswersOpened p action (Ok l) → AnswersOpened q action (Ok r) → IsTogether l r result → AnswersOpened (OpenChoice p q) action result
  joined p q l r (Ok rate) left right both =
      let same : together (apparent_rate p action) (apparent_rate q action) ≡ together (apparent_of l) (apparent_of r) =
      ap (λ (v : Apparent). together v (apparent_rate q action)) left.1 ∙ ap (λ (v : Apparent). together (apparent_of l) v) right.1 in
      let fine_left : IsFine (apparent_of l) = subst IsFine left.1 (whole_from_parts Fine p left.0) in
      let fine_right : IsFine (apparent_of r) = subst IsFine right.1 (whole_from_parts Fine q right.0) in
      let total : together (apparent_rate p action) (apparent_rate q action) ≡ apparent_of rate = same ∙ both.0 in
      (all_append Fine (parts p ++ parts q) (OpenChoice p q ∷ []) (all_append Fine (parts p) (parts q) left.0 right.0) (subst IsFine (sym total) (both.1 fine_left fine_right), tt), total)
  joined p q l r (Err fault) left right both =
      let same : together (apparent_rate p action) (apparent_rate q action) ≡ together (apparent_of l) (apparent_of r) =
      ap (λ (v : Apparent). together v (apparent_rate q action)) left.1 ∙ ap (λ (v : Apparent). together (apparent_of l) v) right.1 in
      first_at_last Fine Faulty fault (parts p ++ parts q) (OpenChoice p q) (all_append Fine (parts p) (parts q) left.0 right.0)
      (subst (λ (v : Apparent). HasFault v fault) (sym same) both)

  pub choice_answers : (e x y : Expression) (l r : Option Rate) (result : Result (Option Rate) RateFault) → e ≡ Chosen x y
      → Answers x (Ok l) → Answers y (Ok r) → IsTogether l r result → Answers e result
  choice_answers e x y l r result is left right both o opens =
      let c = opens_choice definitions e x y is o opens in
      subst (λ (o : Opened). AnswersOpened o action result) (sym c.whole)
      (joined c.left c.right l r result (left c.left c.opens_left) (right c.right c.opens_right) both)

  above : (c : ℕ) (p : Opened) (result : Result (Option Rate) RateFault) → AnswersOpened p action result → AnswersOpened (OpenConst c p) action result
  above c p (Ok rate) h = (all_append Fine (parts p) (OpenConst c p ∷ []) h.0 (whole_from_parts Fine p h.0, tt), h.1)
  above c p (Err fault) h = first_in_front Fine Faulty fault (parts p) (OpenConst c p ∷ []) h

  pub const_answers : (e : Expression) (c : ℕ) (body : Expression) (result : Result (Option Rate) RateFault) → e ≡ Const c → Defines definitions c body → Answers body result → Answers e result
  const_answers e c body result is defined inner o opens =
      let k = opens_const definitions e c body is defined o opens in
      subst (λ (o : Opened). AnswersOpened o action result) (sym k.whole) (above c k.inner result (inner k.inner k.opens))
