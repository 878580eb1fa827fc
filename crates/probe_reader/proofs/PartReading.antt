-- What the readers of the parts of expressions answer.
use Rattle.std.proofs.Common.{◌≡◌, ℕ, ◌+◌, List, [], ◌∷◌, length, drop, refl, ap, ◌∙◌, Option, Some, None, Result, Ok, Err, arith}
use Rattle.pepa_lexer.specs.declared.kinds.Sign.TheVariants.{Opening, Closing, Comma, Plus, Star, Slash, Bar, OpeningBrace, ClosingBrace, Colon, Question}
use Rattle.token_grammar.specs.declared.terminal.Terminal.{Terminal}
use Rattle.token_grammar.specs.declared.terminal.Terminal.TheVariants.{Small, Probe, Number, Mark}
use Rattle.fault_ends.specs.declared.end.End.TheVariants.{Fault, Memory}
use Rattle.token_grammar.specs.Cursors.{Begins, IsAt, Expects, PartEnd}
use Rattle.token_grammar.specs.Machines.{runs}
use Rattle.token_grammar.specs.SmallNames.{NoSmall}
use Rattle.token_grammar.proofs.Runs.{halts_here, halts_after, run_step}
use Rattle.token_grammar.proofs.Spelled.{spelled_append}
use Rattle.probe_reader.specs.declared.guards.GuardRead.{GuardRead}
use Rattle.probe_reader.specs.declared.suffixes.SuffixRead.{SuffixRead}
use Rattle.probe_reader.specs.declared.trees.ProbeRead.{ProbeRead}
use Rattle.probe_reader.specs.ProbeGrammar.{Disjunction, Alternatives, OneSequence, Alternated, Sequence, OneGuarded, Sequenced, GuardedPart, OnePostfixed, WithGuard, Postfixed, OneAtom, Suffixed, Enclosed, disjunction_spelled, alternatives_spelled, sequence_spelled, postfixed_spelled}
use Rattle.probe_reader.specs.ProbeTrees.{ThenOf, OrOf, GuardedOf, guard_node_of, probe_node_of, disjunction_tree, suffix_tree, alternatives_tree, sequence_tree, guarded_tree}
use Rattle.probe_reader.specs.ProbeMachine.{ProbeOuter, Outermost, InParentheses, InBraces, WantAtom, AfterPart, WantNegation, whole_alternatives, closes_alternatives, probe_step, probe_run, IsPartial, behind_guard, behind_part, behind_sequence, behind_alternatives}
use Rattle.probe_reader.specs.ProbeReading.{IsRefusedInProbe, HaltsInProbe, IsGuard, EndsGuard, ReadsGuard, with_suffix, IsSuffixRead, ReadsSuffix, ReadsAtom, IsAtom, IsPostfixed, ReadsPostfixed, IsGuardedPart, ReadsGuardedPart, IsSequence, ReadsSequence, AreAlternatives, EndsAlternatives, ReadsAlternatives}
use Rattle.probe_reader.proofs.ProbeRuns.{guard_closes, comma_behind_sequence, bar_behind_alternatives, guard_runs, postfixed_runs, sequence_runs, alternatives_run}
use Rattle.probe_reader.proofs.GuardReading.{refuses_behind_guard, partial_behind_guard}

-- ---- what can't follow

refuses_atom : (guards : List Disjunction) (sequence : Option Sequence) (alternatives : Option Alternatives) (outer : ProbeOuter) (rest : List Terminal) → NoSmall rest → ¬ Begins rest (Mark Opening) → ¬ Begins rest (Mark OpeningBrace) → IsRefusedInProbe (WantAtom guards sequence alternatives outer) rest
unfolding probe_step
refuses_atom guards sequence alternatives outer [] small opening brace = tt
refuses_atom guards sequence alternatives outer (Small ∷ more) small opening brace = absurd (small.0 refl)
refuses_atom guards sequence alternatives outer (Probe ∷ more) small opening brace = absurd (small.1 refl)
refuses_atom guards sequence alternatives outer (Mark Opening ∷ more) small opening brace = absurd (opening refl)
refuses_atom guards sequence alternatives outer (Mark OpeningBrace ∷ more) small opening brace = absurd (brace refl)
refuses_atom guards sequence alternatives outer (_ ∷ more) small opening brace = refl

-- what is there doesn't close the alternatives
abbrev pub StaysInside : ProbeOuter → List Terminal → Type 0
StaysInside Outermost rest = Unit {0}
StaysInside (InParentheses guards sequence alternatives outer) rest = ¬ Begins rest (Mark Closing)

stays_inside : (whole : Alternatives) (outer : ProbeOuter) (terminal : Terminal) (more : List Terminal) → StaysInside outer (terminal ∷ more) → closes_alternatives whole outer terminal ≡ None
stays_inside whole Outermost terminal more stays = refl
stays_inside whole (InParentheses guards sequence alternatives outer) (Mark Closing) more stays = absurd (stays refl)
stays_inside whole (InParentheses guards sequence alternatives outer) _ more stays = refl

refuses_after_part : (postfixed : Postfixed) (guards : List Disjunction) (sequence : Option Sequence) (alternatives : Option Alternatives) (outer : ProbeOuter) (rest : List Terminal) → EndsAlternatives rest → StaysInside outer rest → IsRefusedInProbe (AfterPart postfixed guards sequence alternatives outer) rest
unfolding probe_step
refuses_after_part postfixed guards sequence alternatives outer [] ends stays = tt
refuses_after_part postfixed guards sequence alternatives outer (Mark Star ∷ more) ends stays = absurd (ends.0.0.0.0 refl)
refuses_after_part postfixed guards sequence alternatives outer (Mark Plus ∷ more) ends stays = absurd (ends.0.0.0.1 refl)
refuses_after_part postfixed guards sequence alternatives outer (Mark Question ∷ more) ends stays = absurd (ends.0.0.0.2 refl)
refuses_after_part postfixed guards sequence alternatives outer (Number ∷ more) ends stays = absurd (ends.0.0.0.3 refl)
refuses_after_part postfixed guards sequence alternatives outer (Mark Colon ∷ more) ends stays = absurd (ends.0.0.1.0 refl)
refuses_after_part postfixed guards sequence alternatives outer (Mark Slash ∷ more) ends stays = absurd (ends.0.0.1.1 refl)
refuses_after_part postfixed guards sequence alternatives outer (Mark OpeningBrace ∷ more) ends stays = absurd (ends.0.0.1.2 refl)
refuses_after_part postfixed guards sequence alternatives outer (Mark Comma ∷ more) ends stays = absurd (ends.0.1 refl)
refuses_after_part postfixed guards sequence alternatives outer (Mark Bar ∷ more) ends stays = absurd (ends.1 refl)
refuses_after_part postfixed guards sequence alternatives outer (terminal ∷ more) ends stays = stays_inside (whole_alternatives postfixed guards sequence alternatives) outer terminal more stays

refuses_behind_part : (part : GuardedPart) (guards : List Disjunction) (sequence : Option Sequence) (alternatives : Option Alternatives) (outer : ProbeOuter) (rest : List Terminal) → EndsAlternatives rest → StaysInside outer rest → IsRefusedInProbe (behind_part part guards sequence alternatives outer) rest
refuses_behind_part (OnePostfixed postfixed) guards sequence alternatives outer rest ends stays = refuses_after_part postfixed guards sequence alternatives outer rest ends stays
refuses_behind_part (WithGuard guard part) guards sequence alternatives outer rest ends stays = refuses_behind_part part (guard ∷ guards) sequence alternatives outer rest ends stays

-- after alternatives is nothing that goes on with them, nor closes them
pub refuses_behind_alternatives : (whole : Alternatives) (outer : ProbeOuter) (rest : List Terminal) → EndsAlternatives rest → StaysInside outer rest → IsRefusedInProbe (behind_alternatives whole outer) rest
refuses_behind_alternatives (OneSequence (OneGuarded part)) outer rest ends stays = refuses_behind_part part [] None None outer rest ends stays
refuses_behind_alternatives (OneSequence (Sequenced sequence part)) outer rest ends stays = refuses_behind_part part [] (Some sequence) None outer rest ends stays
refuses_behind_alternatives (Alternated alternatives (OneGuarded part)) outer rest ends stays = refuses_behind_part part [] None (Some alternatives) outer rest ends stays
refuses_behind_alternatives (Alternated alternatives (Sequenced sequence part)) outer rest ends stays = refuses_behind_part part [] (Some sequence) (Some alternatives) outer rest ends stays

-- in brackets they are no whole expression
partial_behind_part : (part : GuardedPart) (before : List Disjunction) (first : Option Sequence) (others : Option Alternatives) (guards : List Disjunction) (sequence : Option Sequence) (alternatives : Option Alternatives) (outer : ProbeOuter) → IsPartial (behind_part part before first others (InParentheses guards sequence alternatives outer))
partial_behind_part (OnePostfixed postfixed) before first others guards sequence alternatives outer = tt
partial_behind_part (WithGuard guard part) before first others guards sequence alternatives outer = partial_behind_part part (guard ∷ before) first others guards sequence alternatives outer

partial_in_brackets : (whole : Alternatives) (guards : List Disjunction) (sequence : Option Sequence) (alternatives : Option Alternatives) (outer : ProbeOuter) → IsPartial (behind_alternatives whole (InParentheses guards sequence alternatives outer))
partial_in_brackets (OneSequence (OneGuarded part)) guards sequence alternatives outer = partial_behind_part part [] None None guards sequence alternatives outer
partial_in_brackets (OneSequence (Sequenced first part)) guards sequence alternatives outer = partial_behind_part part [] (Some first) None guards sequence alternatives outer
partial_in_brackets (Alternated others (OneGuarded part)) guards sequence alternatives outer = partial_behind_part part [] None (Some others) guards sequence alternatives outer
partial_in_brackets (Alternated others (Sequenced first part)) guards sequence alternatives outer = partial_behind_part part [] (Some first) (Some others) guards sequence alternatives outer

-- ---- atoms

opening_runs : (guards : List Disjunction) (sequence : Option Sequence) (alternatives : Option Alternatives) (outer : ProbeOuter) → probe_run (WantAtom guards sequence alternatives outer) (Mark Opening ∷ []) ≡ Some (WantAtom [] None None (InParentheses guards sequence alternatives outer))
unfolding runs probe_step
opening_runs guards sequence alternatives outer = refl

pub no_atom : (kinds : List Terminal) (at : ℕ) (fault : PartEnd) → NoSmall (drop at kinds) → Expects kinds at (Mark Opening) (Err fault) → ReadsAtom kinds at (Err fault)
no_atom kinds at (Fault i) small e = rw e.0 (λ brace guards sequence alternatives outer. halts_here tt (refuses_atom guards sequence alternatives outer (drop at kinds) small e.1 brace))
no_atom kinds at Memory small e = tt

pub brackets_fail : (kinds : List Terminal) (at inside : ℕ) (fault : PartEnd) → IsAt kinds at inside (Mark Opening) → ReadsAlternatives kinds inside (Err fault) → ReadsAtom kinds at (Err fault)
brackets_fail kinds at inside (Fault i) opening inner = λ brace guards sequence alternatives outer.
    halts_after (WantAtom guards sequence alternatives outer) (WantAtom [] None None (InParentheses guards sequence alternatives outer)) opening.spelled (opening_runs guards sequence alternatives outer) (inner (InParentheses guards sequence alternatives outer))
brackets_fail kinds at inside Memory opening inner = tt

pub brackets_stay_open : (kinds : List Terminal) (at inside : ℕ) (read : ProbeRead) (fault : PartEnd) → IsAt kinds at inside (Mark Opening) → AreAlternatives kinds inside read → EndsAlternatives (drop read.next kinds) → Expects kinds read.next (Mark Closing) (Err fault) → ReadsAtom kinds at (Err fault)
brackets_stay_open kinds at inside read (Fault i) opening are ends e =
    rw e.0 (λ brace guards sequence alternatives outer.
    let brackets : ProbeOuter = InParentheses guards sequence alternatives outer in
    halts_after (WantAtom guards sequence alternatives outer) (WantAtom [] None None brackets) opening.spelled (opening_runs guards sequence alternatives outer)
    (halts_after (WantAtom [] None None brackets) (behind_alternatives are.alternatives brackets) are.spelled (alternatives_run are.alternatives brackets)
    (halts_here (partial_in_brackets are.alternatives guards sequence alternatives outer) (refuses_behind_alternatives are.alternatives brackets (drop read.next kinds) ends e.1))))
brackets_stay_open kinds at inside read Memory opening are ends e = tt

pub are_enclosed : (kinds : List Terminal) (at inside : ℕ) (inner read : ProbeRead) → IsAt kinds at inside (Mark Opening) → AreAlternatives kinds inside inner → IsAt kinds inner.next read.next (Mark Closing) → probe_node_of read.tree ≡ probe_node_of inner.tree → IsAtom kinds at read
are_enclosed kinds at inside inner read opening are closing tree =
    record {
      atom = Enclosed are.alternatives;
      spelled = spelled_append opening.spelled (spelled_append are.spelled closing.spelled);
      tree = tree ∙ are.tree ∙ ap (λ n. alternatives_tree n are.alternatives) opening.spelled.index;
    }

-- ---- suffixes

pub is_one_atom : (kinds : List Terminal) (at : ℕ) (read : ProbeRead) → IsAtom kinds at read → IsPostfixed kinds at read
is_one_atom kinds at read is = record { postfixed = OneAtom is.atom; spelled = is.spelled; tree = is.tree }

pub suffix_stops : (kinds : List Terminal) (at : ℕ) (read : ProbeRead) (fault : PartEnd) → IsPostfixed kinds at read → ReadsSuffix kinds read.next (Err fault) → ReadsPostfixed kinds at (Err fault)
suffix_stops kinds at read (Fault i) is suffix = λ brace guards sequence alternatives outer.
    halts_after (WantAtom guards sequence alternatives outer) (AfterPart is.postfixed guards sequence alternatives outer) is.spelled (postfixed_runs is.postfixed guards sequence alternatives outer)
    (suffix is.postfixed guards sequence alternatives outer)
suffix_stops kinds at read Memory is suffix = tt

-- a suffix that was found is one
pub suffix_found : (kinds : List Terminal) (at : ℕ) (found : Option SuffixRead) (suffix : SuffixRead) → found ≡ Some suffix → ReadsSuffix kinds at (Ok found) → IsSuffixRead kinds at suffix
suffix_found kinds at found suffix e h = rw e at h

pub is_suffixed : (kinds : List Terminal) (at : ℕ) (inner read : ProbeRead) (suffix : SuffixRead) → IsPostfixed kinds at inner → IsSuffixRead kinds inner.next suffix → probe_node_of read.tree ≡ with_suffix suffix.suffix (probe_node_of inner.tree) → read.next ≡ suffix.next → IsPostfixed kinds at read
is_suffixed kinds at inner read suffix is means tree next =
    record {
      postfixed = Suffixed is.postfixed means.suffix;
      spelled = rw next (spelled_append is.spelled means.spelled);
      tree = tree ∙ means.means (probe_node_of inner.tree) ∙ ap (λ n. suffix_tree n means.suffix (probe_node_of inner.tree)) is.spelled.index ∙ ap (suffix_tree (at + length (postfixed_spelled is.postfixed)) means.suffix) is.tree;
    }

-- ---- guards

brace_runs : (guards : List Disjunction) (sequence : Option Sequence) (alternatives : Option Alternatives) (outer : ProbeOuter) → probe_run (WantAtom guards sequence alternatives outer) (Mark OpeningBrace ∷ []) ≡ Some (WantNegation 0 None None (InBraces guards sequence alternatives outer))
unfolding runs probe_step
brace_runs guards sequence alternatives outer = refl

closing_brace_runs : (guard : Disjunction) (guards : List Disjunction) (sequence : Option Sequence) (alternatives : Option Alternatives) (outer : ProbeOuter) → probe_run (behind_guard guard (InBraces guards sequence alternatives outer)) (Mark ClosingBrace ∷ []) ≡ Some (WantAtom (guard ∷ guards) sequence alternatives outer)
unfolding runs
closing_brace_runs guard guards sequence alternatives outer =
    run_step probe_step (behind_guard guard (InBraces guards sequence alternatives outer)) (WantAtom (guard ∷ guards) sequence alternatives outer) (Mark ClosingBrace) [] (guard_closes guard (InBraces guards sequence alternatives outer) (Mark ClosingBrace) (WantAtom (guard ∷ guards) sequence alternatives outer) refl)

-- without a guard it is the part itself
pub is_unguarded : (kinds : List Terminal) (at : ℕ) (result : Result ProbeRead PartEnd) → ¬ Begins (drop at kinds) (Mark OpeningBrace) → ReadsPostfixed kinds at result → ReadsGuardedPart kinds at result
is_unguarded kinds at (Ok read) brace is = (record { part = OnePostfixed is.0.postfixed; spelled = is.0.spelled; tree = is.0.tree }, is.1)
is_unguarded kinds at (Err (Fault i)) brace is = is brace
is_unguarded kinds at (Err Memory) brace is = tt

pub condition_fails : (kinds : List Terminal) (at inside : ℕ) (fault : PartEnd) → IsAt kinds at inside (Mark OpeningBrace) → ReadsGuard kinds inside (Err fault) → ReadsGuardedPart kinds at (Err fault)
condition_fails kinds at inside (Fault i) brace guard = λ guards sequence alternatives outer.
    halts_after (WantAtom guards sequence alternatives outer) (WantNegation 0 None None (InBraces guards sequence alternatives outer)) brace.spelled (brace_runs guards sequence alternatives outer) (guard (InBraces guards sequence alternatives outer))
condition_fails kinds at inside Memory brace guard = tt

-- a guard and what stops after it
halts_after_guard : (kinds : List Terminal) (at inside i : ℕ) (condition : GuardRead) (is : IsGuard kinds inside condition) (guards : List Disjunction) (sequence : Option Sequence) (alternatives : Option Alternatives) (outer : ProbeOuter) → IsAt kinds at inside (Mark OpeningBrace) → HaltsInProbe kinds condition.next i (behind_guard is.guard (InBraces guards sequence alternatives outer)) → HaltsInProbe kinds at i (WantAtom guards sequence alternatives outer)
halts_after_guard kinds at inside i condition is guards sequence alternatives outer brace halts =
    halts_after (WantAtom guards sequence alternatives outer) (WantNegation 0 None None (InBraces guards sequence alternatives outer)) brace.spelled (brace_runs guards sequence alternatives outer)
    (halts_after (WantNegation 0 None None (InBraces guards sequence alternatives outer)) (behind_guard is.guard (InBraces guards sequence alternatives outer)) is.spelled (guard_runs is.guard (InBraces guards sequence alternatives outer)) halts)

pub condition_stays_open : (kinds : List Terminal) (at inside : ℕ) (condition : GuardRead) (fault : PartEnd) → IsAt kinds at inside (Mark OpeningBrace) → IsGuard kinds inside condition → EndsGuard (drop condition.next kinds) → Expects kinds condition.next (Mark ClosingBrace) (Err fault) → ReadsGuardedPart kinds at (Err fault)
condition_stays_open kinds at inside condition (Fault i) brace is ends e =
    rw e.0 (λ guards sequence alternatives outer.
    halts_after_guard kinds at inside condition.next condition is guards sequence alternatives outer brace
    (halts_here (partial_behind_guard is.guard (InBraces guards sequence alternatives outer)) (refuses_behind_guard is.guard (InBraces guards sequence alternatives outer) (drop condition.next kinds) ends e.1)))
condition_stays_open kinds at inside condition Memory brace is ends e = tt

pub guarded_fails : (kinds : List Terminal) (at inside behind : ℕ) (condition : GuardRead) (fault : PartEnd) → IsAt kinds at inside (Mark OpeningBrace) → IsGuard kinds inside condition → IsAt kinds condition.next behind (Mark ClosingBrace) → ReadsGuardedPart kinds behind (Err fault) → ReadsGuardedPart kinds at (Err fault)
guarded_fails kinds at inside behind condition (Fault i) brace is closing inner = λ guards sequence alternatives outer.
    halts_after_guard kinds at inside i condition is guards sequence alternatives outer brace
    (halts_after (behind_guard is.guard (InBraces guards sequence alternatives outer)) (WantAtom (is.guard ∷ guards) sequence alternatives outer) closing.spelled (closing_brace_runs is.guard guards sequence alternatives outer) (inner (is.guard ∷ guards) sequence alternatives outer))
guarded_fails kinds at inside behind condition Memory brace is closing inner = tt

pub is_guarded : (kinds : List Terminal) (at inside behind : ℕ) (condition : GuardRead) (inner read : ProbeRead) → IsAt kinds at inside (Mark OpeningBrace) → IsGuard kinds inside condition → IsAt kinds condition.next behind (Mark ClosingBrace) → IsGuardedPart kinds behind inner → probe_node_of read.tree ≡ GuardedOf (guard_node_of condition.tree) (probe_node_of inner.tree) → read.next ≡ inner.next → IsGuardedPart kinds at read
is_guarded kinds at inside behind condition inner read brace is closing part tree next =
    let front : inside ≡ at + 1 = brace.spelled.index in
    let e : behind ≡ at + 1 + length (disjunction_spelled is.guard) + 1 = omega (arith, brace.spelled.index, is.spelled.index, closing.spelled.index) in
    record {
      part = WithGuard is.guard part.part;
      spelled = rw next (spelled_append brace.spelled (spelled_append is.spelled (spelled_append closing.spelled part.spelled)));
      tree = tree ∙ ap (λ n. GuardedOf n (probe_node_of inner.tree)) (is.tree ∙ ap (λ n. disjunction_tree n is.guard) front) ∙ ap (GuardedOf (disjunction_tree (at + 1) is.guard)) (part.tree ∙ ap (λ n. guarded_tree n part.part) e);
    }

-- ---- sequences

comma_runs : (sequence : Sequence) (alternatives : Option Alternatives) (outer : ProbeOuter) → probe_run (behind_sequence sequence alternatives outer) (Mark Comma ∷ []) ≡ Some (WantAtom [] (Some sequence) alternatives outer)
unfolding runs
comma_runs sequence alternatives outer = run_step probe_step (behind_sequence sequence alternatives outer) (WantAtom [] (Some sequence) alternatives outer) (Mark Comma) [] (comma_behind_sequence sequence alternatives outer)

pub is_one_part : (kinds : List Terminal) (at : ℕ) (read : ProbeRead) → IsGuardedPart kinds at read → IsSequence kinds at read
is_one_part kinds at read is = record { sequence = OneGuarded is.part; spelled = is.spelled; tree = is.tree }

pub sequence_fails : (kinds : List Terminal) (at behind : ℕ) (read : ProbeRead) (fault : PartEnd) → IsSequence kinds at read → IsAt kinds read.next behind (Mark Comma) → ReadsGuardedPart kinds behind (Err fault) → ReadsSequence kinds at (Err fault)
sequence_fails kinds at behind read (Fault i) is comma part = λ alternatives outer.
    halts_after (WantAtom [] None alternatives outer) (behind_sequence is.sequence alternatives outer) is.spelled (sequence_runs is.sequence alternatives outer)
    (halts_after (behind_sequence is.sequence alternatives outer) (WantAtom [] (Some is.sequence) alternatives outer) comma.spelled (comma_runs is.sequence alternatives outer)
    (part [] (Some is.sequence) alternatives outer))
sequence_fails kinds at behind read Memory is comma part = tt

pub is_sequenced : (kinds : List Terminal) (at behind : ℕ) (left right read : ProbeRead) → IsSequence kinds at left → IsAt kinds left.next behind (Mark Comma) → IsGuardedPart kinds behind right → probe_node_of read.tree ≡ ThenOf (probe_node_of left.tree) (probe_node_of right.tree) → read.next ≡ right.next → IsSequence kinds at read
is_sequenced kinds at behind left right read is comma part tree next =
    let e : behind ≡ at + length (sequence_spelled is.sequence) + 1 = omega (arith, is.spelled.index, comma.spelled.index) in
    record {
      sequence = Sequenced is.sequence part.part;
      spelled = rw next (spelled_append is.spelled (spelled_append comma.spelled part.spelled));
      tree = tree ∙ ap (λ n. ThenOf n (probe_node_of right.tree)) is.tree ∙ ap (λ n. ThenOf (sequence_tree at is.sequence) n) (part.tree ∙ ap (λ n. guarded_tree n part.part) e);
    }

-- ---- alternatives

bar_runs : (whole : Alternatives) (outer : ProbeOuter) → probe_run (behind_alternatives whole outer) (Mark Bar ∷ []) ≡ Some (WantAtom [] None (Some whole) outer)
unfolding runs
bar_runs whole outer = run_step probe_step (behind_alternatives whole outer) (WantAtom [] None (Some whole) outer) (Mark Bar) [] (bar_behind_alternatives whole outer)

pub is_one_sequence : (kinds : List Terminal) (at : ℕ) (read : ProbeRead) → IsSequence kinds at read → AreAlternatives kinds at read
is_one_sequence kinds at read is = record { alternatives = OneSequence is.sequence; spelled = is.spelled; tree = is.tree }

pub alternatives_fail : (kinds : List Terminal) (at behind : ℕ) (read : ProbeRead) (fault : PartEnd) → AreAlternatives kinds at read → IsAt kinds read.next behind (Mark Bar) → ReadsSequence kinds behind (Err fault) → ReadsAlternatives kinds at (Err fault)
alternatives_fail kinds at behind read (Fault i) are bar sequence = λ outer.
    halts_after (WantAtom [] None None outer) (behind_alternatives are.alternatives outer) are.spelled (alternatives_run are.alternatives outer)
    (halts_after (behind_alternatives are.alternatives outer) (WantAtom [] None (Some are.alternatives) outer) bar.spelled (bar_runs are.alternatives outer)
    (sequence (Some are.alternatives) outer))
alternatives_fail kinds at behind read Memory are bar sequence = tt

pub are_alternated : (kinds : List Terminal) (at behind : ℕ) (left right read : ProbeRead) → AreAlternatives kinds at left → IsAt kinds left.next behind (Mark Bar) → IsSequence kinds behind right → probe_node_of read.tree ≡ OrOf (probe_node_of left.tree) (probe_node_of right.tree) → read.next ≡ right.next → AreAlternatives kinds at read
are_alternated kinds at behind left right read are bar sequence tree next =
    let e : behind ≡ at + length (alternatives_spelled are.alternatives) + 1 = omega (arith, are.spelled.index, bar.spelled.index) in
    record {
      alternatives = Alternated are.alternatives sequence.sequence;
      spelled = rw next (spelled_append are.spelled (spelled_append bar.spelled sequence.spelled));
      tree = tree ∙ ap (λ n. OrOf n (probe_node_of right.tree)) are.tree ∙ ap (λ n. OrOf (alternatives_tree at are.alternatives) n) (sequence.tree ∙ ap (λ n. sequence_tree n sequence.sequence) e);
    }
