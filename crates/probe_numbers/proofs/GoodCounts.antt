-- What follows where no count is bad and each name is known.
use Rattle.std.proofs.Common.{◌≡◌, ℕ, ◌<◌, ◌≤◌, ◌⊎◌, inl, inr, List, length, refl, sym, ap, ◌∙◌, subst, arith}
use Rattle.pepa_lexer.specs.declared.kinds.Token.{Token}
use Rattle.probe_words.specs.Words.{Pattern, IsProperPattern}
use Rattle.probe_words.specs.Twins.{pattern_of}
use Rattle.probe_reader.specs.ProbeTrees.{GuardNode, CountAt, BothOf, EitherOf, NotOf, ProbeNode, OneAt, ThenOf, OrOf, LabelOf, StarOf, PlusOf, MaybeOf, TimesOf, BetweenOf, ResetOf, GuardedOf}
use Rattle.probe_numbers.specs.WholeNumbers.{IsCountAt, whole_at}
use Rattle.probe_numbers.specs.BadCounts.{IsBadInGuard, IsBadRange, BadCountAt}
use Rattle.probe_numbers.specs.NumberedProbes.{NameMeanings, number_given, pattern_with, HasGoodGuardCounts, IsRepeatRange, HasGoodCounts, HasKnownNames, GuardsAskBelow, counted_in, pattern_in, IsNumberedProbe}
use Rattle.probe_numbers.specs.declared.numbered.NumberedProbe.{NumberedProbe}
use Rattle.probe_numbers.proofs.CountedConstants.{asks_for_counted}
use Rattle.probe_numbers.proofs.WholeNumbers.{whole_at_is, count_stays, le_or_lt}

guard_counts : (tokens : List Token) (g : GuardNode) → ((i : ℕ) → ¬ IsBadInGuard tokens g i) → HasGoodGuardCounts tokens g
guard_counts tokens (CountAt which relation number) none = count_stays tokens 65535 number (λ not. none number (refl, not))
guard_counts tokens (BothOf x y) none = (guard_counts tokens x (λ i h. none i (inl h)), guard_counts tokens y (λ i h. none i (inr h)))
guard_counts tokens (EitherOf x y) none = (guard_counts tokens x (λ i h. none i (inl h)), guard_counts tokens y (λ i h. none i (inr h)))
guard_counts tokens (NotOf x) none = guard_counts tokens x none

-- a repeat from one number to another without a bad count
repeat_range : (tokens : List Token) (least most : ℕ) → ((i : ℕ) → ¬ IsBadRange tokens least most i) → IsRepeatRange tokens least most
repeat_range tokens least most none = record { least_is = first; most_is = second; in_order = ordered (le_or_lt (whole_at tokens least) (whole_at tokens most)) }
  where
    first : IsCountAt tokens 63 least
    first = count_stays tokens 63 least (λ not. none least (inl (refl, not)))

    second : IsCountAt tokens 63 most
    second = count_stays tokens 63 most (λ not. none most (inr (inl (refl, not))))

    ordered : (whole_at tokens least ≤ whole_at tokens most) ⊎ (whole_at tokens most < whole_at tokens least) → whole_at tokens least ≤ whole_at tokens most
    ordered (inl le) = le
    ordered (inr lt) =
        let a : whole_at tokens least ≡ first.0 = whole_at_is tokens least first.0 first.1 in
        let b : whole_at tokens most ≡ second.0 = whole_at_is tokens most second.0 second.1 in
        absurd (none most (inr (inr (refl, record { first = first.0; second = second.0; first_is = first.1; second_is = second.1; few = first.2; turned = omega arith }))))

-- no index is a bad count: each count is good
pub has_counts : (tokens : List Token) (node : ProbeNode) → ((i : ℕ) → ¬ BadCountAt tokens node i) → HasGoodCounts tokens node
has_counts tokens (OneAt at) none = tt
has_counts tokens (ThenOf x y) none = (has_counts tokens x (λ i h. none i (inl h)), has_counts tokens y (λ i h. none i (inr h)))
has_counts tokens (OrOf x y) none = (has_counts tokens x (λ i h. none i (inl h)), has_counts tokens y (λ i h. none i (inr h)))
has_counts tokens (LabelOf x name) none = has_counts tokens x none
has_counts tokens (StarOf x) none = has_counts tokens x none
has_counts tokens (PlusOf x) none = has_counts tokens x none
has_counts tokens (MaybeOf x) none = has_counts tokens x none
has_counts tokens (TimesOf x number) none =
    (has_counts tokens x (λ i h. none i (inl h)), count_stays tokens 63 number (λ not. none number (inr (refl, not))))
has_counts tokens (BetweenOf x least most) none =
    (has_counts tokens x (λ i h. none i (inl h)), repeat_range tokens least most (λ i h. none i (inr h)))
has_counts tokens (ResetOf x name) none = has_counts tokens x none
has_counts tokens (GuardedOf g x) none = (guard_counts tokens g (λ i h. none i (inl h)), has_counts tokens x (λ i h. none i (inr h)))

count_below : (tokens : List Token) (at : ℕ) → IsCountAt tokens 63 at → whole_at tokens at < 64
count_below tokens at (n, whole, few) = let e : whole_at tokens at ≡ n = whole_at_is tokens at n whole in omega arith

-- the expression is proper
pub is_proper : (tokens : List Token) (names : NameMeanings) (counted : List ℕ) (node : ProbeNode) → HasGoodCounts tokens node → HasKnownNames names node → IsProperPattern (pattern_with tokens names counted node)
is_proper tokens names counted (OneAt at) h k = tt
is_proper tokens names counted (ThenOf x y) h k = (is_proper tokens names counted x h.0 k.0, is_proper tokens names counted y h.1 k.1)
is_proper tokens names counted (OrOf x y) h k = (is_proper tokens names counted x h.0 k.0, is_proper tokens names counted y h.1 k.1)
is_proper tokens names counted (LabelOf x name) h k =
    (is_proper tokens names counted x h k.0, let e : number_given (names.label name) ≡ k.1.0 = ap number_given k.1.1 in let l : k.1.0 < 64 = k.1.2 in omega arith)
is_proper tokens names counted (StarOf x) h k = is_proper tokens names counted x h k
is_proper tokens names counted (PlusOf x) h k = is_proper tokens names counted x h k
is_proper tokens names counted (MaybeOf x) h k = is_proper tokens names counted x h k
is_proper tokens names counted (TimesOf x number) h k = (is_proper tokens names counted x h.0 k, count_below tokens number h.1)
is_proper tokens names counted (BetweenOf x least most) h k = (is_proper tokens names counted x h.0 k, h.1.in_order, count_below tokens most h.1.most_is)
is_proper tokens names counted (ResetOf x name) h k = is_proper tokens names counted x h k.0
is_proper tokens names counted (GuardedOf g x) h k = is_proper tokens names counted x h.1 k.1

-- the expression and the constants as they are counted are what is promised
pub is_numbered : (tokens : List Token) (names : NameMeanings) (node : ProbeNode) (probe : NumberedProbe) (counted : List ℕ) → counted ≡ probe.counted → ((i : ℕ) → ¬ BadCountAt tokens node i) → HasKnownNames names node → probe.counted ≡ counted_in names node → pattern_of probe.expr ≡ pattern_with tokens names counted node → IsNumberedProbe tokens names node probe
is_numbered tokens names node probe counted same none known is pattern =
    let all : counted ≡ counted_in names node = same ∙ is in
    let e : pattern_of probe.expr ≡ pattern_in tokens names node = pattern ∙ ap (λ (z : List ℕ). pattern_with tokens names z node) all in
    record {
      pattern_is = e;
      counted_is = is;
      proper = subst IsProperPattern (sym e) (is_proper tokens names (counted_in names node) node (has_counts tokens node none) known);
      asks = subst (λ (z : List ℕ). GuardsAskBelow (length z) (pattern_of probe.expr)) (sym is) (subst (λ (z : Pattern). GuardsAskBelow (length (counted_in names node)) z) (sym e) (asks_for_counted tokens names node));
    }
