-- What is read of the tokens up to the limit is the answer.
use Rattle.std.proofs.Common.{◌≡◌, ℕ, List, take, drop, subst, Ok, Err}
use Rattle.pepa_lexer.specs.declared.kinds.Token.{Token}
use Rattle.fault_ends.specs.declared.end.End.TheVariants.{Fault}
use Rattle.token_grammar.specs.declared.terminal.Terminal.{Terminal}
use Rattle.token_grammar.specs.Terminals.{terminals}
use Rattle.token_grammar.proofs.Places.{front_kinds}
use Rattle.probe_reader.specs.declared.trees.ProbeRead.{ProbeRead}
use Rattle.probe_reader.specs.ProbeMachine.{Outermost}
use Rattle.probe_reader.specs.ProbeReading.{AreAlternatives, EndsAlternatives, HaltsInProbe, ReadsAlternatives}
use Rattle.probe_reader.specs.ProbeMachine.{probe_start}
use Rattle.probe_reader.specs.ProbeAnswers.{IsProbeRead, IsNoProbe}
use Rattle.probe_reader.proofs.ProbeLaws.{is_probe, no_probe}
use Rattle.probe_reader.proofs.PartReading.{refuses_behind_alternatives}

read_before : (kinds : List Terminal) (at limit : ℕ) (read : ProbeRead) → AreAlternatives (take limit kinds) at read → EndsAlternatives (drop read.next (take limit kinds)) → IsProbeRead kinds at limit read
read_before kinds at limit read are ends =
    let rest : List Terminal = drop read.next (take limit kinds) in
    let found = is_probe kinds at limit read.next are.alternatives rest are.spelled.whole are.spelled.index (refuses_behind_alternatives are.alternatives Outermost rest ends tt) in
    record { stop = found.0; alternatives = are.alternatives; spelled = found.1; tree_is = are.tree }

missing_before : (kinds : List Terminal) (at limit i : ℕ) → HaltsInProbe (take limit kinds) at i probe_start → IsNoProbe kinds at limit i
missing_before kinds at limit i halts = no_probe kinds at limit i halts.text (drop i (take limit kinds)) halts.state halts.spelled.whole halts.spelled.index halts.ran halts.undone halts.refused

-- an expression was read
pub expression_read : (input : List ℕ) (tokens few : List Token) (at limit : ℕ) (read : ProbeRead) → few ≡ take limit tokens → ReadsAlternatives (terminals input few) at (Ok read) → IsProbeRead (terminals input tokens) at limit read
expression_read input tokens few at limit read e h =
    let all = subst (λ kinds. ReadsAlternatives kinds at (Ok read)) (front_kinds input tokens few limit e) h in
    read_before (terminals input tokens) at limit read all.0 all.1

-- none was
pub expression_missing : (input : List ℕ) (tokens few : List Token) (at limit i : ℕ) → few ≡ take limit tokens → ReadsAlternatives (terminals input few) at (Err (Fault i)) → IsNoProbe (terminals input tokens) at limit i
expression_missing input tokens few at limit i e h = missing_before (terminals input tokens) at limit i (subst (λ kinds. ReadsAlternatives kinds at (Err (Fault i))) (front_kinds input tokens few limit e) h Outermost)
