-- What the readers of probe lines answer.
use Rattle.std.proofs.Common.{◌≡◌, ◌≢◌, ℕ, ◌+◌, List, [], ◌∷◌, length, take, drop, refl, sym, ap, subst, ◌∙◌, Some, None, Err, arith}
use Rattle.std.proofs.lemmas.List.{length-map}
use Rattle.std.proofs.lemmas.Option.{same_Some}
use Rattle.std.proofs.Math.Seq.{take-length}
use Rattle.pepa_lexer.specs.declared.kinds.Token.{Token}
use Rattle.pepa_lexer.specs.declared.kinds.Sign.TheVariants.{Equals, Semicolon, DoubleColon}
use Rattle.token_grammar.specs.declared.terminal.Terminal.{Terminal}
use Rattle.token_grammar.specs.declared.terminal.Terminal.TheVariants.{Probe, Capital, Mark}
use Rattle.fault_ends.specs.declared.end.End.TheVariants.{Fault, Memory}
use Rattle.token_grammar.specs.Terminals.{terminals, terminal_of}
use Rattle.token_grammar.specs.Cursors.{Begins, IsSpelledFrom, IsAt, Expects, PartEnd}
use Rattle.token_grammar.specs.SmallNames.{Probing}
use Rattle.token_grammar.specs.Machines.{runs}
use Rattle.token_grammar.proofs.Runs.{halts_here, halts_after}
use Rattle.token_grammar.proofs.Spelled.{spelled_append}
use Rattle.probe_reader.specs.declared.trees.ProbeRead.{ProbeRead}
use Rattle.probe_reader.specs.ProbeTrees.{alternatives_tree}
use Rattle.probe_reader.specs.ProbeMachine.{ProbeState, AfterPart, Outermost, IsPartial, probe_run, probe_start, behind_alternatives}
use Rattle.probe_reader.specs.ProbeReading.{IsRefusedInProbe, HaltsInProbe, HasExpression}
use Rattle.probe_reader.specs.ProbeAnswers.{IsProbeRead, IsNoProbe}
use Rattle.probe_reader.proofs.ProbeHalts.{halts_without, has_read}
use Rattle.pepa_reader.specs.declared.items.TargetRead.{TargetRead}
use Rattle.pepa_reader.specs.declared.items.Item.TheVariants as items
use Rattle.pepa_reader.specs.Grammar.{ProbeTarget, Overall, OnConstant, ProbeWritten, target_spelled, OneLine}
use Rattle.pepa_reader.specs.Trees.{target_at}
use Rattle.pepa_reader.specs.Machine.{WantEquals, WantColons, InProbe, closes_probe, probe_goes_on_or, step, run, start}
use Rattle.pepa_reader.specs.Reading.{CannotGoOn, Stops}
use Rattle.pepa_reader.specs.ItemReading.{IsTargetRead, ReadsTarget, ReadsExpression, ReadsItem, IsItemRead}
use Rattle.pepa_reader.proofs.MachineProbes.{runs_inside, some_runs_overall, before_expression, target_runs, expression_in_line}

-- ---- expressions

-- all tokens are those up to their end
all_kinds : (input : List ℕ) (tokens : List Token) → take (length tokens) (terminals input tokens) ≡ terminals input tokens
all_kinds input tokens = ap (λ n. take n (terminals input tokens)) (sym (length-map tokens (terminal_of input))) ∙ take-length (terminals input tokens)

pub expression_is_read : (input : List ℕ) (tokens : List Token) (at : ℕ) (read : ProbeRead) → IsProbeRead (terminals input tokens) at (length tokens) read → HasExpression (terminals input tokens) at read
expression_is_read input tokens at read is = subst (λ kinds. HasExpression kinds at read) (all_kinds input tokens) (has_read (terminals input tokens) at (length tokens) read is)

pub expression_halts : (input : List ℕ) (tokens : List Token) (at i : ℕ) → IsNoProbe (terminals input tokens) at (length tokens) i → HaltsInProbe (terminals input tokens) at i probe_start
expression_halts input tokens at i missing = subst (λ kinds. HaltsInProbe kinds at i probe_start) (all_kinds input tokens) (halts_without (terminals input tokens) at (length tokens) i missing)

-- ---- what the machine does with them

-- after the word `probe`
probe_runs : run start (Probe ∷ []) ≡ Some (WantEquals Probing)
unfolding runs step
probe_runs = refl

-- a partial expression isn't closed
stays_partial : (target : ProbeTarget) (state : ProbeState) (terminal : Terminal) → IsPartial state → closes_probe target state terminal ≡ None
stays_partial target (AfterPart postfixed guards sequence alternatives Outermost) terminal partial = absurd partial
stays_partial target _ terminal partial = refl

-- what the expression refuses, the line refuses, where the expression isn't whole
refuses_inside : (target : ProbeTarget) (state : ProbeState) (rest : List Terminal) → IsPartial state → IsRefusedInProbe state rest → CannotGoOn (InProbe target state) rest
unfolding step
refuses_inside target state [] partial refused = tt
refuses_inside target state (terminal ∷ more) partial refused = ap (probe_goes_on_or target (closes_probe target state terminal)) refused ∙ stays_partial target state terminal partial

-- and where it is whole, but for a `;`
stays_whole : (target : ProbeTarget) (state : ProbeState) (terminal : Terminal) → terminal ≢ Mark Semicolon → closes_probe target state terminal ≡ None
stays_whole target (AfterPart postfixed guards sequence alternatives Outermost) (Mark Semicolon) other = absurd (other refl)
stays_whole target _ _ other = refl

refuses_whole : (target : ProbeTarget) (state : ProbeState) (rest : List Terminal) → IsRefusedInProbe state rest → ¬ Begins rest (Mark Semicolon) → CannotGoOn (InProbe target state) rest
unfolding step
refuses_whole target state [] refused other = tt
refuses_whole target state (terminal ∷ more) refused other = ap (probe_goes_on_or target (closes_probe target state terminal)) refused ∙ stays_whole target state terminal other

-- directly after `probe` neither `=`, nor a constant, nor an expression
refuses_overall : (rest : List Terminal) → ¬ Begins rest (Mark Equals) → ¬ Begins rest Capital → IsRefusedInProbe probe_start rest → CannotGoOn (WantEquals Probing) rest
unfolding step
refuses_overall [] equals constant refused = tt
refuses_overall (Mark Equals ∷ more) equals constant refused = absurd (equals refl)
refuses_overall (Capital ∷ more) equals constant refused = absurd (constant refl)
refuses_overall (terminal ∷ more) equals constant refused = ap (probe_goes_on_or Overall None) refused

-- ---- where a probe line isn't read

halts_overall : (kinds : List Terminal) (at i : ℕ) (text : List Terminal) (state : ProbeState) → IsSpelledFrom kinds at i text → probe_run probe_start text ≡ Some state → IsPartial state → IsRefusedInProbe state (drop i kinds) → ¬ Begins (drop at kinds) (Mark Equals) → ¬ Begins (drop at kinds) Capital → Stops kinds at i (WantEquals Probing)
unfolding runs
halts_overall kinds at i [] state spelled ran partial refused equals constant =
    let here : i ≡ at = omega (arith, spelled.index) in
    let first : IsRefusedInProbe probe_start (drop i kinds) = subst (λ s. IsRefusedInProbe s (drop i kinds)) (sym (same_Some probe_start state ran)) refused in
    subst (λ n. Stops kinds at n (WantEquals Probing)) (sym here) (halts_here tt (refuses_overall (drop at kinds) equals constant (subst (λ n. IsRefusedInProbe probe_start (drop n kinds)) here first)))
halts_overall kinds at i (terminal ∷ more) state spelled ran partial refused equals constant =
    record { state = InProbe Overall state; text = terminal ∷ more; spelled = spelled; ran = some_runs_overall terminal more state ran; undone = tt; refused = refuses_inside Overall state (drop i kinds) partial refused }

-- where an expression is wanted directly after `probe`, neither a `=` nor a constant is
abbrev pub NoStart : ProbeTarget → List Terminal → Type 0
NoStart Overall rest = (¬ Begins rest (Mark Equals)) × (¬ Begins rest Capital)
NoStart OnConstant rest = Unit {0}

-- there is no expression where one begins
halts_in_expression : (kinds : List Terminal) (at i : ℕ) (target : ProbeTarget) → NoStart target (drop at kinds) → HaltsInProbe kinds at i probe_start → Stops kinds at i (before_expression target)
halts_in_expression kinds at i Overall none halts = halts_overall kinds at i halts.text halts.state halts.spelled halts.ran halts.undone halts.refused none.0 none.1
halts_in_expression kinds at i OnConstant none halts =
    record { state = InProbe OnConstant halts.state; text = halts.text; spelled = halts.spelled; ran = runs_inside OnConstant halts.text probe_start halts.state halts.ran; undone = tt; refused = refuses_inside OnConstant halts.state (drop i kinds) halts.undone halts.refused }

-- after the constant of a target only `::` can follow
constant_runs : run (WantEquals Probing) (Capital ∷ []) ≡ Some WantColons
unfolding runs step
constant_runs = refl

refuses_colons : (rest : List Terminal) → ¬ Begins rest (Mark DoubleColon) → CannotGoOn WantColons rest
unfolding step
refuses_colons [] other = tt
refuses_colons (Mark DoubleColon ∷ more) other = absurd (other refl)
refuses_colons (_ ∷ more) other = refl

pub no_colons : (kinds : List Terminal) (at colons : ℕ) (fault : PartEnd) → IsAt kinds at colons Capital → Expects kinds colons (Mark DoubleColon) (Err fault) → ReadsTarget kinds at (Err fault)
no_colons kinds at colons (Fault i) constant e = rw e.0 (constant, e.1)
no_colons kinds at colons Memory constant e = e

-- a constant without `::`
pub target_fails : (kinds : List Terminal) (at from : ℕ) (fault : PartEnd) → IsAt kinds at from Probe → ReadsTarget kinds from (Err fault) → ReadsItem kinds at (Err fault)
target_fails kinds at from (Fault i) probe e =
    halts_after start (WantEquals Probing) probe.spelled probe_runs
    (halts_after (WantEquals Probing) WantColons e.0.spelled constant_runs (halts_here tt (refuses_colons (drop i kinds) e.1)))
target_fails kinds at from Memory probe e = tt

-- where the expression begins, neither a `=` nor a constant is directly after `probe`
no_start : (kinds : List Terminal) (from : ℕ) (read : TargetRead) (target : ProbeTarget) → ¬ Begins (drop from kinds) (Mark Equals) → IsTargetRead kinds from read target → NoStart target (drop read.next kinds)
no_start kinds from read Overall equals is =
    let here : read.next ≡ from = omega (arith, is.0.index) in
    (subst (λ n. ¬ Begins (drop n kinds) (Mark Equals)) (sym here) equals, is.2)
no_start kinds from read OnConstant equals is = tt

-- the word `probe` and a target, and what stops after them
halts_after_target : (kinds : List Terminal) (at from i : ℕ) (read : TargetRead) (target : ProbeTarget) → IsAt kinds at from Probe → IsTargetRead kinds from read target → Stops kinds read.next i (before_expression target) → Stops kinds at i start
halts_after_target kinds at from i read target probe is stops =
    halts_after start (WantEquals Probing) probe.spelled probe_runs
    (halts_after (WantEquals Probing) (before_expression target) is.0 (target_runs target) stops)

-- no expression
pub expression_fails : (kinds : List Terminal) (at from : ℕ) (read : TargetRead) (target : ProbeTarget) (fault : PartEnd) → IsAt kinds at from Probe → ¬ Begins (drop from kinds) (Mark Equals) → IsTargetRead kinds from read target → ReadsExpression kinds read.next (Err fault) → ReadsItem kinds at (Err fault)
expression_fails kinds at from read target (Fault i) probe equals is halts = halts_after_target kinds at from i read target probe is (halts_in_expression kinds read.next i target (no_start kinds from read target equals is) halts)
expression_fails kinds at from read target Memory probe equals is halts = tt

-- no `;` after the expression
pub probe_line_stays : (kinds : List Terminal) (at from : ℕ) (read : TargetRead) (target : ProbeTarget) (expr : ProbeRead) (fault : PartEnd) → IsAt kinds at from Probe → IsTargetRead kinds from read target → HasExpression kinds read.next expr → Expects kinds expr.next (Mark Semicolon) (Err fault) → ReadsItem kinds at (Err fault)
probe_line_stays kinds at from read target expr (Fault i) probe is has e =
    rw e.0 (halts_after_target kinds at from expr.next read target probe is
    (halts_after (before_expression target) (InProbe target (behind_alternatives has.alternatives Outermost)) has.spelled (expression_in_line target has.alternatives)
    (halts_here tt (refuses_whole target (behind_alternatives has.alternatives Outermost) (drop expr.next kinds) has.refused e.1))))
probe_line_stays kinds at from read target expr Memory probe is has e = tt

-- a whole probe line
pub is_probe_line : (kinds : List Terminal) (at from next : ℕ) (read : TargetRead) (target : ProbeTarget) (expr : ProbeRead) → IsAt kinds at from Probe → IsTargetRead kinds from read target → HasExpression kinds read.next expr → IsAt kinds expr.next next (Mark Semicolon) → IsItemRead kinds at (record { item = items.Probe (record { at = at; target = read.target; expr = expr.tree }); next = next })
is_probe_line kinds at from next read target expr probe is has closing =
    let first : from ≡ at + 1 = probe.spelled.index in
    let front : read.next ≡ at + 1 + length (target_spelled target) = omega (arith, probe.spelled.index, is.0.index) in
    record {
      item = OneLine (ProbeWritten target has.alternatives);
      spelled = spelled_append probe.spelled (spelled_append is.0 (spelled_append has.spelled closing.spelled));
      tree = (refl, is.1 ∙ ap (λ n. target_at n target) first, has.tree ∙ ap (λ n. alternatives_tree n has.alternatives) front);
    }
