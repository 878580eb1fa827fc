-- What the readers of lines answer.
use Rattle.std.proofs.Common.{◌≡◌, ℕ, ◌+◌, List, [], ◌∷◌, drop, refl, ap, ◌∙◌, Some, None, Err, arith}
use Rattle.pepa_lexer.specs.declared.kinds.Sign.TheVariants.{Equals, Semicolon}
use Rattle.token_grammar.specs.declared.terminal.Terminal.{Terminal}
use Rattle.token_grammar.specs.declared.terminal.Terminal.TheVariants.{Small, Capital, Mark}
use Rattle.fault_ends.specs.declared.end.End.TheVariants.{Fault, Memory}
use Rattle.token_grammar.proofs.Runs.{halts_here, halts_after}
use Rattle.token_grammar.specs.Machines.{runs}
use Rattle.token_grammar.specs.SmallNames.{SmallName, Plain, Probing, small_spelled}
use Rattle.pepa_reader.specs.declared.rates.RateRead.{RateRead}
use Rattle.pepa_reader.specs.declared.items.Item.TheVariants.{Rate}
use Rattle.pepa_reader.specs.declared.items.Item.TheVariants as items
use Rattle.pepa_reader.specs.declared.processes.ProcessRead.{ProcessRead}
use Rattle.pepa_reader.specs.Grammar.{OneLine, RateNamed, ProcessNamed}
use Rattle.pepa_reader.specs.Trees.{rate_tree, process_tree}
use Rattle.pepa_reader.specs.Machine.{InLine, Whole, OfLine, Want, WantEquals, WantFactor, step, run, start, behind_rate, behind_process}
use Rattle.token_grammar.specs.Cursors.{Begins, IsAt, Expects, PartEnd}
use Rattle.pepa_reader.specs.Reading.{CannotGoOn, IsRate, ReadsRate, EndsProcess, IsProcess, ReadsProcess}
use Rattle.pepa_reader.specs.ItemReading.{IsRateHead, IsLineHead, ReadsItem, IsItemRead}
use Rattle.token_grammar.proofs.Spelled.{spelled_append}
use Rattle.pepa_reader.proofs.MachineRuns.{rate_runs, process_runs}
use Rattle.pepa_reader.proofs.RateReading.{refuses_behind_rate, undone_behind_rate}
use Rattle.pepa_reader.proofs.ProcessStates.{refuses_behind_process, undone_behind_process}

-- ---- rate lines

-- a small name begins a rate line, and after its `=` a rate is wanted
rate_head_runs : (name : SmallName) → run start (small_spelled name ∷ Mark Equals ∷ []) ≡ Some (WantFactor None None (Whole (OfLine name)))
unfolding runs step
rate_head_runs Plain = refl
rate_head_runs Probing = refl

-- after a name that isn't `probe` only `=` can follow
name_runs : run start (Small ∷ []) ≡ Some (WantEquals Plain)
unfolding runs step
name_runs = refl

refuses_behind_name : (rest : List Terminal) → ¬ Begins rest (Mark Equals) → CannotGoOn (WantEquals Plain) rest
unfolding step
refuses_behind_name [] other = tt
refuses_behind_name (Mark Equals ∷ more) other = absurd (other refl)
refuses_behind_name (_ ∷ more) other = refl

-- no `=` behind the name
pub no_equals : (kinds : List Terminal) (at equals : ℕ) (fault : PartEnd) → IsAt kinds at equals Small → Expects kinds equals (Mark Equals) (Err fault) → ReadsItem kinds at (Err fault)
no_equals kinds at equals (Fault i) named e = rw e.0 (halts_after start (WantEquals Plain) named.spelled name_runs (halts_here tt (refuses_behind_name (drop equals kinds) e.1)))
no_equals kinds at equals Memory named e = tt

-- no rate behind the `=`
pub line_rate_fails : (kinds : List Terminal) (at from : ℕ) (name : SmallName) (fault : PartEnd) → IsRateHead kinds at from name → ReadsRate kinds from (Err fault) → ReadsItem kinds at (Err fault)
line_rate_fails kinds at from name (Fault i) head rate = halts_after start (WantFactor None None (Whole (OfLine name))) head (rate_head_runs name) (rate (OfLine name))
line_rate_fails kinds at from name Memory head rate = tt

-- no `;` behind the rate
pub rate_line_stays : (kinds : List Terminal) (at from : ℕ) (name : SmallName) (read : RateRead) (fault : PartEnd) → IsRateHead kinds at from name → IsRate kinds from read → Expects kinds read.next (Mark Semicolon) (Err fault) → ReadsItem kinds at (Err fault)
rate_line_stays kinds at from name read (Fault i) head rate e =
    let place = OfLine name in
    rw e.0 (halts_after start (WantFactor None None (Whole place)) head (rate_head_runs name)
    (halts_after (WantFactor None None (Whole place)) (behind_rate rate.rate place) rate.spelled (rate_runs rate.rate place)
    (halts_here (undone_behind_rate rate.rate place) (refuses_behind_rate rate.rate place (drop read.next kinds) rate.ends e.1))))
rate_line_stays kinds at from name read Memory head rate e = tt

-- a whole rate line
pub is_rate_line : (kinds : List Terminal) (at from next : ℕ) (name : SmallName) (read : RateRead) → IsRateHead kinds at from name → IsRate kinds from read → IsAt kinds read.next next (Mark Semicolon) → IsItemRead kinds at (record { item = Rate (record { at = at; rate = read.tree }); next = next })
is_rate_line kinds at from next name read head rate closing =
    let front : from ≡ at + 2 = omega (arith, head.index) in
    record {
      item = OneLine (RateNamed name rate.rate);
      spelled = spelled_append head (spelled_append rate.spelled closing.spelled);
      tree = (refl, rate.tree ∙ ap (λ n. rate_tree n rate.rate) front);
    }

-- ---- process lines

-- behind a constant and a `=` a process is wanted
head_runs : run start (Capital ∷ Mark Equals ∷ []) ≡ Some (Want [] None None InLine)
unfolding runs step
head_runs = refl

-- no process behind the `=`
pub line_process_fails : (kinds : List Terminal) (at from : ℕ) (fault : PartEnd) → IsLineHead kinds at from → ReadsProcess kinds from (Err fault) → ReadsItem kinds at (Err fault)
line_process_fails kinds at from (Fault i) head process = halts_after start (Want [] None None InLine) head head_runs (process InLine tt)
line_process_fails kinds at from Memory head process = tt

-- no `;` behind the process
pub process_line_stays : (kinds : List Terminal) (at from : ℕ) (read : ProcessRead) (fault : PartEnd) → IsLineHead kinds at from → IsProcess kinds from read → EndsProcess (drop read.next kinds) → Expects kinds read.next (Mark Semicolon) (Err fault) → ReadsItem kinds at (Err fault)
process_line_stays kinds at from read (Fault i) head process ends e =
    rw e.0 (halts_after start (Want [] None None InLine) head head_runs
    (halts_after (Want [] None None InLine) (behind_process process.process InLine) process.spelled (process_runs process.process InLine)
    (halts_here (undone_behind_process process.process InLine) (refuses_behind_process process.process InLine (drop read.next kinds) ends e.1))))
process_line_stays kinds at from read Memory head process ends e = tt

-- a whole process line
pub is_process_line : (kinds : List Terminal) (at from next : ℕ) (read : ProcessRead) → IsLineHead kinds at from → IsProcess kinds from read → IsAt kinds read.next next (Mark Semicolon) → IsItemRead kinds at (record { item = items.Process (record { at = at; body = read.tree }); next = next })
is_process_line kinds at from next read head process closing =
    let front : from ≡ at + 2 = omega (arith, head.index) in
    record {
      item = OneLine (ProcessNamed process.process);
      spelled = spelled_append head (spelled_append process.spelled closing.spelled);
      tree = (refl, process.tree ∙ ap (λ n. process_tree n process.process) front);
    }
