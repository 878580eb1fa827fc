-- What the readers of guards answer.
use Rattle.std.proofs.Common.{◌≡◌, ◌≢◌, ℕ, suc, ◌+◌, List, [], ◌∷◌, length, drop, refl, ap, ◌∙◌, Option, Some, None, Err, arith}
use Rattle.pepa_lexer.specs.declared.kinds.Sign.TheVariants.{Opening, Closing, Less, Greater, LessOrEqual, GreaterOrEqual, EqualTo, NotEqualTo, Not, And, Or, ClosingBrace}
use Rattle.token_grammar.specs.declared.terminal.Terminal.{Terminal}
use Rattle.token_grammar.specs.declared.terminal.Terminal.TheVariants.{Capital, Number, Mark}
use Rattle.fault_ends.specs.declared.end.End.TheVariants.{Fault, Memory}
use Rattle.token_grammar.specs.Cursors.{Begins, IsAt, Expects, PartEnd}
use Rattle.token_grammar.specs.Machines.{runs}
use Rattle.token_grammar.proofs.Runs.{halts_here, halts_after, run_step}
use Rattle.token_grammar.proofs.Spelled.{spelled_append}
use Rattle.probe_reader.specs.declared.guards.GuardRead.{GuardRead}
use Rattle.probe_reader.specs.ProbeGrammar.{RelationSign, Below, BelowOrEqual, Above, AboveOrEqual, Same, Different, relation_spelled, Disjunction, OneConjunction, Disjoined, Conjunction, OneNegation, Conjoined, Negation, Negated, EnclosedGuard, Comparison, disjunction_spelled, conjunction_spelled}
use Rattle.probe_reader.specs.ProbeTrees.{CountAt, BothOf, EitherOf, NotOf, guard_node_of, disjunction_tree, conjunction_tree, negation_tree}
use Rattle.probe_reader.specs.ProbeMachine.{GuardOuter, InBraces, InGuardParentheses, WantNegation, WantRelation, WantBound, AfterNegation, whole_guard, closes_guard, probe_step, probe_run, IsPartial, behind_conjunction, behind_guard}
use Rattle.probe_reader.specs.ProbeReading.{IsRefusedInProbe, NoRelation, ExpectsRelation, IsNegation, ReadsNegation, IsConjunction, ReadsConjunction, IsGuard, EndsGuard, ReadsGuard}
use Rattle.probe_reader.proofs.ProbeRuns.{and_behind_conjunction, or_behind_guard, relation_begins, guard_runs, conjunction_runs}

-- ---- what can't follow

refuses_negation : (count : ℕ) (conjunction : Option Conjunction) (disjunction : Option Disjunction) (outer : GuardOuter) (rest : List Terminal) → ¬ Begins rest (Mark Not) → ¬ Begins rest (Mark Opening) → ¬ Begins rest Capital → IsRefusedInProbe (WantNegation count conjunction disjunction outer) rest
unfolding probe_step
refuses_negation count conjunction disjunction outer [] bang opening capital = tt
refuses_negation count conjunction disjunction outer (Mark Not ∷ more) bang opening capital = absurd (bang refl)
refuses_negation count conjunction disjunction outer (Mark Opening ∷ more) bang opening capital = absurd (opening refl)
refuses_negation count conjunction disjunction outer (Capital ∷ more) bang opening capital = absurd (capital refl)
refuses_negation count conjunction disjunction outer (_ ∷ more) bang opening capital = refl

refuses_relation : (count : ℕ) (conjunction : Option Conjunction) (disjunction : Option Disjunction) (outer : GuardOuter) (rest : List Terminal) → NoRelation rest → IsRefusedInProbe (WantRelation count conjunction disjunction outer) rest
unfolding probe_step
refuses_relation count conjunction disjunction outer [] none = tt
refuses_relation count conjunction disjunction outer (Mark Less ∷ more) none = absurd (none Below refl)
refuses_relation count conjunction disjunction outer (Mark LessOrEqual ∷ more) none = absurd (none BelowOrEqual refl)
refuses_relation count conjunction disjunction outer (Mark Greater ∷ more) none = absurd (none Above refl)
refuses_relation count conjunction disjunction outer (Mark GreaterOrEqual ∷ more) none = absurd (none AboveOrEqual refl)
refuses_relation count conjunction disjunction outer (Mark EqualTo ∷ more) none = absurd (none Same refl)
refuses_relation count conjunction disjunction outer (Mark NotEqualTo ∷ more) none = absurd (none Different refl)
refuses_relation count conjunction disjunction outer (_ ∷ more) none = refl

refuses_bound : (sign : RelationSign) (count : ℕ) (conjunction : Option Conjunction) (disjunction : Option Disjunction) (outer : GuardOuter) (rest : List Terminal) → ¬ Begins rest Number → IsRefusedInProbe (WantBound sign count conjunction disjunction outer) rest
unfolding probe_step
refuses_bound sign count conjunction disjunction outer [] number = tt
refuses_bound sign count conjunction disjunction outer (Number ∷ more) number = absurd (number refl)
refuses_bound sign count conjunction disjunction outer (_ ∷ more) number = refl

-- the sign that closes a guard
abbrev pub guard_closer : GuardOuter → Terminal
guard_closer (InBraces guards sequence alternatives outer) = Mark ClosingBrace
guard_closer (InGuardParentheses count conjunction disjunction outer) = Mark Closing

guard_stays : (guard : Disjunction) (outer : GuardOuter) (terminal : Terminal) → terminal ≢ guard_closer outer → closes_guard guard outer terminal ≡ None
guard_stays guard (InBraces guards sequence alternatives outer) (Mark ClosingBrace) other = absurd (other refl)
guard_stays guard (InBraces guards sequence alternatives outer) _ other = refl
guard_stays guard (InGuardParentheses count conjunction disjunction outer) (Mark Closing) other = absurd (other refl)
guard_stays guard (InGuardParentheses count conjunction disjunction outer) _ other = refl

refuses_after_negation : (negation : Negation) (conjunction : Option Conjunction) (disjunction : Option Disjunction) (outer : GuardOuter) (rest : List Terminal) → EndsGuard rest → ¬ Begins rest (guard_closer outer) → IsRefusedInProbe (AfterNegation negation conjunction disjunction outer) rest
unfolding probe_step
refuses_after_negation negation conjunction disjunction outer [] ends other = tt
refuses_after_negation negation conjunction disjunction outer (Mark And ∷ more) ends other = absurd (ends.0 refl)
refuses_after_negation negation conjunction disjunction outer (Mark Or ∷ more) ends other = absurd (ends.1 refl)
refuses_after_negation negation conjunction disjunction outer (terminal ∷ more) ends other = guard_stays (whole_guard negation conjunction disjunction) outer terminal other

-- after a guard is neither `&&`, nor `||`, nor what closes it
pub refuses_behind_guard : (guard : Disjunction) (outer : GuardOuter) (rest : List Terminal) → EndsGuard rest → ¬ Begins rest (guard_closer outer) → IsRefusedInProbe (behind_guard guard outer) rest
refuses_behind_guard (OneConjunction (OneNegation negation)) outer rest ends other = refuses_after_negation negation None None outer rest ends other
refuses_behind_guard (OneConjunction (Conjoined conjunction negation)) outer rest ends other = refuses_after_negation negation (Some conjunction) None outer rest ends other
refuses_behind_guard (Disjoined disjunction (OneNegation negation)) outer rest ends other = refuses_after_negation negation None (Some disjunction) outer rest ends other
refuses_behind_guard (Disjoined disjunction (Conjoined conjunction negation)) outer rest ends other = refuses_after_negation negation (Some conjunction) (Some disjunction) outer rest ends other

pub partial_behind_guard : (guard : Disjunction) (outer : GuardOuter) → IsPartial (behind_guard guard outer)
partial_behind_guard (OneConjunction (OneNegation negation)) outer = tt
partial_behind_guard (OneConjunction (Conjoined conjunction negation)) outer = tt
partial_behind_guard (Disjoined disjunction (OneNegation negation)) outer = tt
partial_behind_guard (Disjoined disjunction (Conjoined conjunction negation)) outer = tt

-- ---- negations

not_runs : (count : ℕ) (conjunction : Option Conjunction) (disjunction : Option Disjunction) (outer : GuardOuter) → probe_run (WantNegation count conjunction disjunction outer) (Mark Not ∷ []) ≡ Some (WantNegation (suc count) conjunction disjunction outer)
unfolding runs probe_step
not_runs count conjunction disjunction outer = refl

opening_runs : (count : ℕ) (conjunction : Option Conjunction) (disjunction : Option Disjunction) (outer : GuardOuter) → probe_run (WantNegation count conjunction disjunction outer) (Mark Opening ∷ []) ≡ Some (WantNegation 0 None None (InGuardParentheses count conjunction disjunction outer))
unfolding runs probe_step
opening_runs count conjunction disjunction outer = refl

constant_runs : (count : ℕ) (conjunction : Option Conjunction) (disjunction : Option Disjunction) (outer : GuardOuter) → probe_run (WantNegation count conjunction disjunction outer) (Capital ∷ []) ≡ Some (WantRelation count conjunction disjunction outer)
unfolding runs probe_step
constant_runs count conjunction disjunction outer = refl

relation_runs : (sign : RelationSign) (count : ℕ) (conjunction : Option Conjunction) (disjunction : Option Disjunction) (outer : GuardOuter) → probe_run (WantRelation count conjunction disjunction outer) (relation_spelled sign ∷ []) ≡ Some (WantBound sign count conjunction disjunction outer)
unfolding runs
relation_runs sign count conjunction disjunction outer = run_step probe_step (WantRelation count conjunction disjunction outer) (WantBound sign count conjunction disjunction outer) (relation_spelled sign) [] (relation_begins sign count conjunction disjunction outer)

-- what stops after a `!` stops in the negation
pub negated_fails : (kinds : List Terminal) (at inside : ℕ) (fault : PartEnd) → IsAt kinds at inside (Mark Not) → ReadsNegation kinds inside (Err fault) → ReadsNegation kinds at (Err fault)
negated_fails kinds at inside (Fault i) bang inner = λ count conjunction disjunction outer.
    halts_after (WantNegation count conjunction disjunction outer) (WantNegation (suc count) conjunction disjunction outer) bang.spelled (not_runs count conjunction disjunction outer) (inner (suc count) conjunction disjunction outer)
negated_fails kinds at inside Memory bang inner = tt

pub is_negated : (kinds : List Terminal) (at inside : ℕ) (inner read : GuardRead) → IsAt kinds at inside (Mark Not) → IsNegation kinds inside inner → guard_node_of read.tree ≡ NotOf (guard_node_of inner.tree) → read.next ≡ inner.next → IsNegation kinds at read
is_negated kinds at inside inner read bang is tree next =
    record {
      negation = Negated is.negation;
      spelled = rw next (spelled_append bang.spelled is.spelled);
      tree = tree ∙ ap NotOf (is.tree ∙ ap (λ n. negation_tree n is.negation) bang.spelled.index);
    }

-- what stops in brackets stops in the negation
pub enclosed_fails : (kinds : List Terminal) (at inside : ℕ) (fault : PartEnd) → IsAt kinds at inside (Mark Opening) → ReadsGuard kinds inside (Err fault) → ReadsNegation kinds at (Err fault)
enclosed_fails kinds at inside (Fault i) opening guard = λ count conjunction disjunction outer.
    let brackets : GuardOuter = InGuardParentheses count conjunction disjunction outer in
    halts_after (WantNegation count conjunction disjunction outer) (WantNegation 0 None None brackets) opening.spelled (opening_runs count conjunction disjunction outer) (guard brackets)
enclosed_fails kinds at inside Memory opening guard = tt

pub enclosed_stays_open : (kinds : List Terminal) (at inside : ℕ) (read : GuardRead) (fault : PartEnd) → IsAt kinds at inside (Mark Opening) → IsGuard kinds inside read → EndsGuard (drop read.next kinds) → Expects kinds read.next (Mark Closing) (Err fault) → ReadsNegation kinds at (Err fault)
enclosed_stays_open kinds at inside read (Fault i) opening guard ends e =
    rw e.0 (λ count conjunction disjunction outer.
    let brackets : GuardOuter = InGuardParentheses count conjunction disjunction outer in
    halts_after (WantNegation count conjunction disjunction outer) (WantNegation 0 None None brackets) opening.spelled (opening_runs count conjunction disjunction outer)
    (halts_after (WantNegation 0 None None brackets) (behind_guard guard.guard brackets) guard.spelled (guard_runs guard.guard brackets)
    (halts_here (partial_behind_guard guard.guard brackets) (refuses_behind_guard guard.guard brackets (drop read.next kinds) ends e.1))))
enclosed_stays_open kinds at inside read Memory opening guard ends e = tt

pub is_enclosed : (kinds : List Terminal) (at inside : ℕ) (inner read : GuardRead) → IsAt kinds at inside (Mark Opening) → IsGuard kinds inside inner → IsAt kinds inner.next read.next (Mark Closing) → guard_node_of read.tree ≡ guard_node_of inner.tree → IsNegation kinds at read
is_enclosed kinds at inside inner read opening is closing tree =
    record {
      negation = EnclosedGuard is.guard;
      spelled = spelled_append opening.spelled (spelled_append is.spelled closing.spelled);
      tree = tree ∙ is.tree ∙ ap (λ n. disjunction_tree n is.guard) opening.spelled.index;
    }

-- no constant, no relation, or no number
pub no_constant : (kinds : List Terminal) (at : ℕ) (fault : PartEnd) → ¬ Begins (drop at kinds) (Mark Not) → ¬ Begins (drop at kinds) (Mark Opening) → Expects kinds at Capital (Err fault) → ReadsNegation kinds at (Err fault)
no_constant kinds at (Fault i) bang opening e = rw e.0 (λ count conjunction disjunction outer. halts_here tt (refuses_negation count conjunction disjunction outer (drop at kinds) bang opening e.1))
no_constant kinds at Memory bang opening e = tt

pub no_relation : (kinds : List Terminal) (at sign : ℕ) (fault : PartEnd) → IsAt kinds at sign Capital → ExpectsRelation kinds sign (Err fault) → ReadsNegation kinds at (Err fault)
no_relation kinds at sign (Fault i) constant e =
    rw e.0 (λ count conjunction disjunction outer.
    halts_after (WantNegation count conjunction disjunction outer) (WantRelation count conjunction disjunction outer) constant.spelled (constant_runs count conjunction disjunction outer)
    (halts_here tt (refuses_relation count conjunction disjunction outer (drop sign kinds) e.1)))
no_relation kinds at sign Memory constant e = tt

pub no_bound : (kinds : List Terminal) (at sign number : ℕ) (relation : RelationSign) (fault : PartEnd) → IsAt kinds at sign Capital → IsAt kinds sign number (relation_spelled relation) → Expects kinds number Number (Err fault) → ReadsNegation kinds at (Err fault)
no_bound kinds at sign number relation (Fault i) constant is e =
    rw e.0 (λ count conjunction disjunction outer.
    halts_after (WantNegation count conjunction disjunction outer) (WantRelation count conjunction disjunction outer) constant.spelled (constant_runs count conjunction disjunction outer)
    (halts_after (WantRelation count conjunction disjunction outer) (WantBound relation count conjunction disjunction outer) is.spelled (relation_runs relation count conjunction disjunction outer)
    (halts_here tt (refuses_bound relation count conjunction disjunction outer (drop number kinds) e.1))))
no_bound kinds at sign number relation Memory constant is e = tt

pub is_comparison : (kinds : List Terminal) (at sign number : ℕ) (relation : RelationSign) (read : GuardRead) → IsAt kinds at sign Capital → IsAt kinds sign number (relation_spelled relation) → IsAt kinds number read.next Number → guard_node_of read.tree ≡ CountAt at sign number → IsNegation kinds at read
is_comparison kinds at sign number relation read constant is bound tree =
    let first : sign ≡ at + 1 = constant.spelled.index in
    let second : number ≡ at + 2 = omega (arith, constant.spelled.index, is.spelled.index) in
    record {
      negation = Comparison relation;
      spelled = spelled_append constant.spelled (spelled_append is.spelled bound.spelled);
      tree = tree ∙ ap (λ n. CountAt at n number) first ∙ ap (CountAt at (at + 1)) second;
    }

-- ---- conjunctions

and_runs : (whole : Conjunction) (disjunction : Option Disjunction) (outer : GuardOuter) → probe_run (behind_conjunction whole disjunction outer) (Mark And ∷ []) ≡ Some (WantNegation 0 (Some whole) disjunction outer)
unfolding runs
and_runs whole disjunction outer = run_step probe_step (behind_conjunction whole disjunction outer) (WantNegation 0 (Some whole) disjunction outer) (Mark And) [] (and_behind_conjunction whole disjunction outer)

pub is_one_negation : (kinds : List Terminal) (at : ℕ) (read : GuardRead) → IsNegation kinds at read → IsConjunction kinds at read
is_one_negation kinds at read is = record { conjunction = OneNegation is.negation; spelled = is.spelled; tree = is.tree }

pub conjunction_fails : (kinds : List Terminal) (at behind : ℕ) (read : GuardRead) (fault : PartEnd) → IsConjunction kinds at read → IsAt kinds read.next behind (Mark And) → ReadsNegation kinds behind (Err fault) → ReadsConjunction kinds at (Err fault)
conjunction_fails kinds at behind read (Fault i) is sign negation = λ disjunction outer.
    halts_after (WantNegation 0 None disjunction outer) (behind_conjunction is.conjunction disjunction outer) is.spelled (conjunction_runs is.conjunction disjunction outer)
    (halts_after (behind_conjunction is.conjunction disjunction outer) (WantNegation 0 (Some is.conjunction) disjunction outer) sign.spelled (and_runs is.conjunction disjunction outer)
    (negation 0 (Some is.conjunction) disjunction outer))
conjunction_fails kinds at behind read Memory is sign negation = tt

pub is_conjoined : (kinds : List Terminal) (at behind : ℕ) (left right read : GuardRead) → IsConjunction kinds at left → IsAt kinds left.next behind (Mark And) → IsNegation kinds behind right → guard_node_of read.tree ≡ BothOf (guard_node_of left.tree) (guard_node_of right.tree) → read.next ≡ right.next → IsConjunction kinds at read
is_conjoined kinds at behind left right read is sign negation tree next =
    let e : behind ≡ at + length (conjunction_spelled is.conjunction) + 1 = omega (arith, is.spelled.index, sign.spelled.index) in
    record {
      conjunction = Conjoined is.conjunction negation.negation;
      spelled = rw next (spelled_append is.spelled (spelled_append sign.spelled negation.spelled));
      tree = tree ∙ ap (λ n. BothOf n (guard_node_of right.tree)) is.tree ∙ ap (λ n. BothOf (conjunction_tree at is.conjunction) n) (negation.tree ∙ ap (λ n. negation_tree n negation.negation) e);
    }

-- ---- guards

or_runs : (guard : Disjunction) (outer : GuardOuter) → probe_run (behind_guard guard outer) (Mark Or ∷ []) ≡ Some (WantNegation 0 None (Some guard) outer)
unfolding runs
or_runs guard outer = run_step probe_step (behind_guard guard outer) (WantNegation 0 None (Some guard) outer) (Mark Or) [] (or_behind_guard guard outer)

pub is_one_conjunction : (kinds : List Terminal) (at : ℕ) (read : GuardRead) → IsConjunction kinds at read → IsGuard kinds at read
is_one_conjunction kinds at read is = record { guard = OneConjunction is.conjunction; spelled = is.spelled; tree = is.tree }

pub guard_fails : (kinds : List Terminal) (at behind : ℕ) (read : GuardRead) (fault : PartEnd) → IsGuard kinds at read → IsAt kinds read.next behind (Mark Or) → ReadsConjunction kinds behind (Err fault) → ReadsGuard kinds at (Err fault)
guard_fails kinds at behind read (Fault i) is sign conjunction = λ outer.
    halts_after (WantNegation 0 None None outer) (behind_guard is.guard outer) is.spelled (guard_runs is.guard outer)
    (halts_after (behind_guard is.guard outer) (WantNegation 0 None (Some is.guard) outer) sign.spelled (or_runs is.guard outer)
    (conjunction (Some is.guard) outer))
guard_fails kinds at behind read Memory is sign conjunction = tt

pub is_disjoined : (kinds : List Terminal) (at behind : ℕ) (left right read : GuardRead) → IsGuard kinds at left → IsAt kinds left.next behind (Mark Or) → IsConjunction kinds behind right → guard_node_of read.tree ≡ EitherOf (guard_node_of left.tree) (guard_node_of right.tree) → read.next ≡ right.next → IsGuard kinds at read
is_disjoined kinds at behind left right read is sign conjunction tree next =
    let e : behind ≡ at + length (disjunction_spelled is.guard) + 1 = omega (arith, is.spelled.index, sign.spelled.index) in
    record {
      guard = Disjoined is.guard conjunction.conjunction;
      spelled = rw next (spelled_append is.spelled (spelled_append sign.spelled conjunction.spelled));
      tree = tree ∙ ap (λ n. EitherOf n (guard_node_of right.tree)) is.tree ∙ ap (λ n. EitherOf (disjunction_tree at is.guard) n) (conjunction.tree ∙ ap (λ n. conjunction_tree n conjunction.conjunction) e);
    }
