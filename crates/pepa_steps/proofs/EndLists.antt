-- Lists that end with those of both sides of a cooperation.
use Rattle.std.proofs.Common.{◌≡◌, ℕ, zero, suc, ◌+◌, ◌-◌, ◌<◌, ◌≤◌, List, [], ◌∷◌, ◌++◌, map, length, take, drop, Ok, Err, refl, sym, ap, subst, ◌∙◌, append_assoc, append-nil, inl, arith}
use Rattle.std.specs.BTreeMap.{BTreeMap}
use Rattle.std.proofs.lemmas.List.{length-append, length-map}
use Rattle.pepa_rates.specs.Fraction.{InRange}
use Rattle.pepa_rates.specs.Sum.{fraction_of}
use Rattle.pepa_rates.specs.declared.rate.Rate.{Rate}
use Rattle.pepa_rates.specs.declared.rate.RateFault.TheVariants.{Mixed, Overflow}
use Rattle.pepa_model.specs.Apparent.{IsFine}
use Rattle.pepa_steps.specs.Moves.{Move}
use Rattle.pepa_steps.specs.StateVerdict.{OfRates, OfLength}
use Rattle.pepa_steps.specs.ActionRates.{AnswersChoice}
use Rattle.pepa_steps.specs.StateRates.{AnswersRatesBy, rates_of_cooperation}
use Rattle.pepa_steps.specs.Combined.{entry_of, target_of, combined, AreInRangeBy, AreMovesInRange, HasAdded, HasListFault, AnswersCombined}
use Rattle.pepa_steps.specs.Traces.{Ends, EndsReady, MakesCoop, AnswersCoop, AnswersReplaced}
use Rattle.pepa_steps.specs.EndNames.{rates_end}
use Rattle.pepa_steps.specs.declared.entries.Entry.{Entry}
use Rattle.pepa_steps.specs.declared.entries.Origin.{Origin}
use Rattle.pepa_steps.specs.declared.entries.Derived.{Derived}
use Rattle.pepa_steps.specs.declared.buffers.Mark.TheVariants as mark
use Rattle.pepa_steps.specs.declared.buffers.Buffers.{Buffers}
use Rattle.pepa_steps.specs.declared.loading.Found.{Found}
use Rattle.pepa_rates.specs.declared.rate.RateFault.{RateFault}
use Rattle.fault_ends.specs.declared.end.End.{End}
use Rattle.fault_ends.specs.declared.end.End.TheVariants as rates
use Rattle.pepa_steps.specs.declared.transitions.StepFault.TheVariants.{ListTooLong}
use Rattle.pepa_steps.specs.declared.transitions.StepsEnd.{StepsEnd}
use Rattle.pepa_steps.specs.declared.transitions.StepsEnd.TheVariants.{Fault, Memory}
use Rattle.pepa_steps.proofs.Faults.{all_append}
use Rattle.pepa_steps.proofs.NodeLists.{all_unmap}
use Rattle.pepa_steps.proofs.CoopTargets.{beside_entries}

take_front : {X : Type 0} (xs ys : List X) (n : ℕ) → length xs ≡ n → take n (xs ++ ys) ≡ xs
take_front [] ys zero e = refl
take_front [] ys (suc n) e = absurd (omega (arith, e))
take_front (x ∷ xs) ys zero e = absurd (omega (arith, e))
take_front (x ∷ xs) ys (suc n) e = ap (λ l. x ∷ l) (take_front xs ys n (omega (arith, e)))

drop_front : {X : Type 0} (xs ys : List X) (n : ℕ) → length xs ≡ n → drop n (xs ++ ys) ≡ ys
drop_front [] ys zero e = refl
drop_front [] ys (suc n) e = absurd (omega (arith, e))
drop_front (x ∷ xs) ys zero e = absurd (omega (arith, e))
drop_front (x ∷ xs) ys (suc n) e = drop_front xs ys n (omega (arith, e))

module _ (list front us vs : List Entry) (a b : ℕ) (ends : Ends list front us vs a b) where
  pub ends_front : take a list ≡ front
  ends_front = ap (take a) (ends.is ∙ append_assoc front us vs) ∙ take_front front (us ++ vs) a ends.first_is

  pub ends_theirs : drop b list ≡ vs
  ends_theirs = ap (drop b) ends.is ∙ drop_front (front ++ us) vs b ends.second_is

  pub ends_taken : take (length list - b) (drop b list) ≡ vs
  ends_taken =
      let long : length vs ≡ length list - b = omega (arith, ap length ends.is, length-append (front ++ us) vs, ends.second_is) in
      ap (take (length list - b)) ends_theirs ∙ ap (λ (l : List Entry). take (length list - b) l) (sym (append-nil vs)) ∙ take_front vs [] (length list - b) long

  pub ends_ours : take (b - a) (drop a list) ≡ us
  ends_ours =
      let long : length us ≡ b - a = omega (arith, ends.first_is, ends.second_is, length-append front us) in
      ap (λ (l : List Entry). take (b - a) (drop a l)) (ends.is ∙ append_assoc front us vs)
      ∙ ap (take (b - a)) (drop_front front (us ++ vs) a ends.first_is)
      ∙ take_front us vs (b - a) long

  pub ends_count : length list ≡ (a + length us) + length vs
  ends_count = omega (arith, ap length ends.is, length-append (front ++ us) vs, length-append front us, ends.first_is)

-- ---- what replaces them

pub replaced : (types : List ℕ) (l r : List (ℕ × Rate)) (list front us vs ours theirs : List Entry) (a b : ℕ) → Ends list front us vs a b → ours ≡ us → theirs ≡ vs
    → (old new : Derived) → old.entries.items ≡ [] → old.origins.items ≡ [] → HasAdded old new (combined types l r ours theirs) × (length (combined types l r ours theirs) ≤ 65535)
    → (kept extended : List Entry) → kept ≡ take a list → extended ≡ kept ++ new.entries.items → (before after : List Origin) → after ≡ before ++ new.origins.items
    → (extended ≡ front ++ map entry_of (combined types l r us vs)) × (after ≡ before ++ map target_of (combined types l r us vs)) × (length (combined types l r us vs) ≤ 65535)
    × AreMovesInRange (combined types l r us vs)
replaced types l r list front us vs ours theirs a b ends same_ours same_theirs old new none none_too (added, short) kept extended kept_is extended_is before after after_is =
    let all : combined types l r ours theirs ≡ combined types l r us vs = ap (λ (x : List Entry). combined types l r x theirs) same_ours ∙ ap (combined types l r us) same_theirs in
    let entries : new.entries.items ≡ map entry_of (combined types l r us vs) = added.0.entries ∙ ap (λ (x : List Entry). x ++ map entry_of (combined types l r ours theirs)) none ∙ ap (map entry_of) all in
    let origins : new.origins.items ≡ map target_of (combined types l r us vs) = added.0.origins ∙ ap (λ (x : List Origin). x ++ map target_of (combined types l r ours theirs)) none_too ∙ ap (map target_of) all in (
      extended_is ∙ ap (λ (x : List Entry). x ++ new.entries.items) (kept_is ∙ ends_front list front us vs a b ends) ∙ ap (λ (x : List Entry). front ++ x) entries,
      after_is ∙ ap (λ (x : List Origin). before ++ x) origins,
      subst (λ (ms : List (Move Origin)). length ms ≤ 65535) all short,
      subst (λ (ms : List (Move Origin)). AreMovesInRange ms) all added.1,
    )

pub replaced_end : (types : List ℕ) (l r : List (ℕ × Rate)) (list front us vs ours theirs : List Entry) (a b : ℕ) → Ends list front us vs a b → ours ≡ us → theirs ≡ vs
    → (old new : Derived) (end : StepsEnd) → AnswersCombined old new (combined types l r ours theirs) (Err end) → (entries : List Entry) (before after : List Origin)
    → AnswersReplaced front entries before after (combined types l r us vs) (Err end)
replaced_end types l r list front us vs ours theirs a b ends same_ours same_theirs old new (Fault name) h entries before after =
    let all : combined types l r ours theirs ≡ combined types l r us vs = ap (λ (x : List Entry). combined types l r x theirs) same_ours ∙ ap (combined types l r us) same_theirs in
    (h.0, subst (λ (ms : List (Move Origin)). HasListFault ms h.0) all h.1, h.2)
replaced_end types l r list front us vs ours theirs a b ends same_ours same_theirs old new Memory h entries before after = tt

-- ---- the end of the rates

pub coop_rates_end : (types : List ℕ) (front us vs : List Entry) (l r : Found) (old new : Buffers) (end : End RateFault) → AnswersRatesBy (rates_of_cooperation types l.rates.entries r.rates.entries) (Err end)
    → AnswersCoop types front us vs l r old new (Err (rates_end end))
coop_rates_end types front us vs l r old new (rates.Fault Mixed) h = (OfRates Mixed, h, refl)
coop_rates_end types front us vs l r old new (rates.Fault Overflow) h = (OfRates Overflow, h, refl)
coop_rates_end types front us vs l r old new rates.Memory h = tt

choice_end : (l r : List (ℕ × Rate)) (end : End RateFault) → AnswersChoice l r (Err end) → AnswersRatesBy (rates_of_cooperation [] l r) (Err end)
choice_end l r (rates.Fault fault) h = h
choice_end l r rates.Memory h = tt

-- ---- over no types

pub beside_rates_end : (front us vs : List Entry) (l r : Found) (old new : Buffers) (end : End RateFault) → AnswersChoice l.rates.entries r.rates.entries (Err end)
    → AnswersCoop [] front us vs l r old new (Err (rates_end end))
beside_rates_end front us vs l r old new end h = coop_rates_end [] front us vs l r old new end (choice_end l.rates.entries r.rates.entries end h)

module _ (front us vs : List Entry) (l r : Found) (old : Buffers) (ends : Ends old.entries.items front us vs l.start r.start) (found : BTreeMap ℕ Rate) (h : AnswersChoice l.rates.entries r.rates.entries (Ok found)) where
  abbrev made : List (Move Origin)
  made = combined [] l.rates.entries r.rates.entries us vs

  fine : (action : ℕ) → IsFine (rates_of_cooperation [] l.rates.entries r.rates.entries action)
  fine action = subst IsFine (h.1 action) (h.0 action)

  count : length made ≡ length us + length vs
  count = omega (arith, length-map made (entry_of {X = Origin}), ap length (beside_entries l.rates.entries r.rates.entries us vs), length-append us vs)

  pub beside_long : (new : Buffers) → 65535 < length old.entries.items - l.start → AnswersCoop [] front us vs l r old new (Err (Fault ListTooLong))
  beside_long new long = (OfLength, (fine, omega (arith, long, count, ends_count old.entries.items front us vs l.start r.start ends)), refl)

  pub beside_makes : (ready : EndsReady [] old.entries.items l r) (new : Buffers) (at : ℕ) → length old.entries.items - l.start ≤ 65535 → new.entries.items ≡ old.entries.items → new.origins.items ≡ old.origins.items
      → at ≡ length old.marks.items → new.marks.items ≡ old.marks.items ++ mark.Beside l.mark r.mark (r.start - l.start) ∷ []
      → MakesCoop [] front us vs l r old new (record { start = l.start; mark = at; rates = found })
  beside_makes ready new at short entries origins place marks = record {
    found_by = record {
      fine = h.0;
      rates_are = h.1;
      short = omega (arith, short, count, ends_count old.entries.items front us vs l.start r.start ends);
      in_range = all_unmap (λ e. InRange (fraction_of e.rate)) entry_of made (subst (λ (es : List Entry). AreInRangeBy es) (sym (beside_entries l.rates.entries r.rates.entries us vs))
          (all_append (λ e. InRange (fraction_of e.rate)) us vs range_us range_vs));
    };
    start = refl;
    entries = entries ∙ ends.is ∙ append_assoc front us vs ∙ ap (λ (x : List Entry). front ++ x) (sym (beside_entries l.rates.entries r.rates.entries us vs));
    place = place;
    marked = inl (refl, marks, origins);
  }
    where
      range_us : AreInRangeBy us
      range_us = subst (λ (es : List Entry). AreInRangeBy es) (sym (ends_ours old.entries.items ready.front ready.us ready.vs l.start r.start ready.ends) ∙ ends_ours old.entries.items front us vs l.start r.start ends) ready.left.in_range

      range_vs : AreInRangeBy vs
      range_vs = subst (λ (es : List Entry). AreInRangeBy es) (sym (ends_theirs old.entries.items ready.front ready.us ready.vs l.start r.start ready.ends) ∙ ends_theirs old.entries.items front us vs l.start r.start ends) ready.right.in_range
