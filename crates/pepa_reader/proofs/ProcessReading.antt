-- What the readers of processes answer.
use Rattle.std.proofs.Common.{◌≡◌, ℕ, ◌+◌, List, [], ◌∷◌, ◌++◌, length, drop, refl, ap, ◌∙◌, append_assoc, length-append, Option, Some, None, Ok, Err, arith}
use Rattle.pepa_lexer.specs.declared.kinds.Sign.TheVariants.{Opening, Closing, Comma, Dot, Plus, Slash, Less, Greater, Or, OpeningBrace, ClosingBrace}
use Rattle.token_grammar.specs.declared.terminal.Terminal.{Terminal}
use Rattle.token_grammar.specs.declared.terminal.Terminal.TheVariants.{Capital, Mark}
use Rattle.fault_ends.specs.declared.end.End.TheVariants.{Fault, Memory}
use Rattle.token_grammar.proofs.Runs.{halts_here, halts_after, run_along, run_step}
use Rattle.token_grammar.specs.Machines.{runs}
use Rattle.token_grammar.specs.SmallNames.{Plain, Probing}
use Rattle.pepa_reader.specs.declared.rates.RateRead.{RateRead}
use Rattle.pepa_reader.specs.declared.words.WordsRead.{WordsRead}
use Rattle.pepa_reader.specs.declared.processes.ActivityRead.{ActivityRead}
use Rattle.pepa_reader.specs.declared.processes.ProcessRead.{ProcessRead}
use Rattle.pepa_reader.specs.Grammar.{Word, Named, Internal, word_spelled, words_spelled, Rate, rate_spelled, Cooperation, Parallel, Sharing, cooperation_spelled, Process, OneChoice, Cooperating, Choice, OneHidden, Chosen, Hidden, OnePrefix, Hiding, Prefix, Activity, Grouped, process_spelled, choice_spelled, hidden_spelled, prefix_spelled}
use Rattle.pepa_reader.specs.Trees.{ProcessNode, PrefixAt, ChoiceOf, CoopAt, HideOf, rate_node_of, process_node_of, rate_tree, word_indices, cooperation_indices, process_tree, choice_tree, hidden_tree, prefix_tree}
use Rattle.pepa_reader.specs.Machine.{Pending, ChosenSoFar, Joining, Outer, InBrackets, RatePlace, OfActivity, Whole, OfHiding, OfCooperation, ParserState, Want, After, WantComma, WantFactor, WantDot, WantBrace, AtSet, run, step, behind_rate, behind_choice, behind_process}
use Rattle.token_grammar.specs.Cursors.{Begins, IsSpelledFrom, IsAt, Expects, PartEnd}
use Rattle.pepa_reader.specs.Reading.{NoWord, Stops, IsRate, ReadsRate, AreWords, ReadsSet, IsCooperation, ReadsCooperation, activity_spelled, IsActivity, ReadsActivity, IsPrefix, ReadsPrefix, IsHidden, ReadsHidden, IsChoice, ReadsChoice, IsProcess, EndsProcess, ReadsProcess}
use Rattle.token_grammar.proofs.Spelled.{spelled_append, spelled_as}
use Rattle.pepa_reader.proofs.MachineRuns.{rate_closes, rate_runs, words_run, plus_behind_choice, or_behind_process, less_behind_process, hidden_runs, choice_runs, process_runs}
use Rattle.pepa_reader.proofs.RateReading.{refuses_behind_rate, undone_behind_rate}
use Rattle.pepa_reader.proofs.ProcessStates.{refuses_prefix, refuses_comma, refuses_dot, refuses_brace, refuses_behind_process, undone_behind_process}

-- ---- activities

-- the bracket and the word of an activity
opening_word_runs : (word : Word) (pending : List Pending) (chosen : ChosenSoFar) (joining : Option Joining) (outer : Outer) → run (Want pending chosen joining outer) (Mark Opening ∷ word_spelled word ∷ []) ≡ Some (WantComma word pending chosen joining outer)
unfolding runs step
opening_word_runs (Named Plain) pending chosen joining outer = refl
opening_word_runs (Named Probing) pending chosen joining outer = refl
opening_word_runs Internal pending chosen joining outer = refl

comma_runs : (word : Word) (pending : List Pending) (chosen : ChosenSoFar) (joining : Option Joining) (outer : Outer) → run (WantComma word pending chosen joining outer) (Mark Comma ∷ []) ≡ Some (WantFactor None None (Whole (OfActivity word pending chosen joining outer)))
unfolding runs step
comma_runs word pending chosen joining outer = refl

closing_runs : (word : Word) (rate : Rate) (pending : List Pending) (chosen : ChosenSoFar) (joining : Option Joining) (outer : Outer) → run (behind_rate rate (OfActivity word pending chosen joining outer)) (Mark Closing ∷ []) ≡ Some (WantDot word rate pending chosen joining outer)
unfolding runs
closing_runs word rate pending chosen joining outer =
    let place : RatePlace = OfActivity word pending chosen joining outer in
    let next : ParserState = WantDot word rate pending chosen joining outer in
    run_step step (behind_rate rate place) next (Mark Closing) [] (rate_closes rate place (Mark Closing) next refl)

dot_runs : (word : Word) (rate : Rate) (pending : List Pending) (chosen : ChosenSoFar) (joining : Option Joining) (outer : Outer) → run (WantDot word rate pending chosen joining outer) (Mark Dot ∷ []) ≡ Some (Want (record { word = word; rate = rate } ∷ pending) chosen joining outer)
unfolding runs step
dot_runs word rate pending chosen joining outer = refl

pub no_comma : (kinds : List Terminal) (at comma : ℕ) (word : Word) (fault : PartEnd) → IsSpelledFrom kinds at comma (Mark Opening ∷ word_spelled word ∷ []) → Expects kinds comma (Mark Comma) (Err fault) → ReadsActivity kinds at (Err fault)
no_comma kinds at comma word (Fault i) front e =
    rw e.0 (λ pending chosen joining outer.
    halts_after (Want pending chosen joining outer) (WantComma word pending chosen joining outer) front (opening_word_runs word pending chosen joining outer)
    (halts_here tt (refuses_comma word pending chosen joining outer (drop comma kinds) e.1)))
no_comma kinds at comma word Memory front e = tt

-- what stops in the rate of an activity stops in the activity
stops_in_rate : (kinds : List Terminal) (at comma start i : ℕ) (word : Word) (pending : List Pending) (chosen : ChosenSoFar) (joining : Option Joining) (outer : Outer) → IsSpelledFrom kinds at comma (Mark Opening ∷ word_spelled word ∷ []) → IsAt kinds comma start (Mark Comma) → Stops kinds start i (WantFactor None None (Whole (OfActivity word pending chosen joining outer))) → Stops kinds at i (Want pending chosen joining outer)
stops_in_rate kinds at comma start i word pending chosen joining outer front is_comma stops =
    halts_after (Want pending chosen joining outer) (WantComma word pending chosen joining outer) front (opening_word_runs word pending chosen joining outer)
    (halts_after (WantComma word pending chosen joining outer) (WantFactor None None (Whole (OfActivity word pending chosen joining outer))) is_comma.spelled (comma_runs word pending chosen joining outer) stops)

pub activity_rate_fails : (kinds : List Terminal) (at comma start : ℕ) (word : Word) (fault : PartEnd) → IsSpelledFrom kinds at comma (Mark Opening ∷ word_spelled word ∷ []) → IsAt kinds comma start (Mark Comma) → ReadsRate kinds start (Err fault) → ReadsActivity kinds at (Err fault)
activity_rate_fails kinds at comma start word (Fault i) front is_comma rate = λ pending chosen joining outer.
    stops_in_rate kinds at comma start i word pending chosen joining outer front is_comma (rate (OfActivity word pending chosen joining outer))
activity_rate_fails kinds at comma start word Memory front is_comma rate = tt

pub activity_stays_open : (kinds : List Terminal) (at comma start : ℕ) (word : Word) (read : RateRead) (fault : PartEnd) → IsSpelledFrom kinds at comma (Mark Opening ∷ word_spelled word ∷ []) → IsAt kinds comma start (Mark Comma) → IsRate kinds start read → Expects kinds read.next (Mark Closing) (Err fault) → ReadsActivity kinds at (Err fault)
activity_stays_open kinds at comma start word read (Fault i) front is_comma rate e =
    rw e.0 (λ pending chosen joining outer.
    let place : RatePlace = OfActivity word pending chosen joining outer in
    stops_in_rate kinds at comma start read.next word pending chosen joining outer front is_comma
    (halts_after (WantFactor None None (Whole place)) (behind_rate rate.rate place) rate.spelled (rate_runs rate.rate place)
    (halts_here (undone_behind_rate rate.rate place) (refuses_behind_rate rate.rate place (drop read.next kinds) rate.ends e.1))))
activity_stays_open kinds at comma start word read Memory front is_comma rate e = tt

pub no_dot : (kinds : List Terminal) (at comma start dot : ℕ) (word : Word) (read : RateRead) (fault : PartEnd) → IsSpelledFrom kinds at comma (Mark Opening ∷ word_spelled word ∷ []) → IsAt kinds comma start (Mark Comma) → IsRate kinds start read → IsAt kinds read.next dot (Mark Closing) → Expects kinds dot (Mark Dot) (Err fault) → ReadsActivity kinds at (Err fault)
no_dot kinds at comma start dot word read (Fault i) front is_comma rate closing e =
    rw e.0 (λ pending chosen joining outer.
    let place : RatePlace = OfActivity word pending chosen joining outer in
    stops_in_rate kinds at comma start dot word pending chosen joining outer front is_comma
    (halts_after (WantFactor None None (Whole place)) (behind_rate rate.rate place) rate.spelled (rate_runs rate.rate place)
    (halts_after (behind_rate rate.rate place) (WantDot word rate.rate pending chosen joining outer) closing.spelled (closing_runs word rate.rate pending chosen joining outer)
    (halts_here tt (refuses_dot word rate.rate pending chosen joining outer (drop dot kinds) e.1)))))
no_dot kinds at comma start dot word read Memory front is_comma rate closing e = tt

-- ---- prefixes

-- an activity is one more that waits
activity_runs : (word : Word) (rate : Rate) (pending : List Pending) (chosen : ChosenSoFar) (joining : Option Joining) (outer : Outer) → run (Want pending chosen joining outer) (activity_spelled word rate) ≡ Some (Want (record { word = word; rate = rate } ∷ pending) chosen joining outer)
activity_runs word rate pending chosen joining outer =
    let place : RatePlace = OfActivity word pending chosen joining outer in
    run_along step (Want pending chosen joining outer) (WantComma word pending chosen joining outer) (Mark Opening ∷ word_spelled word ∷ []) (Mark Comma ∷ (rate_spelled rate ++ Mark Closing ∷ Mark Dot ∷ [])) (opening_word_runs word pending chosen joining outer)
    ∙ run_along step (WantComma word pending chosen joining outer) (WantFactor None None (Whole place)) (Mark Comma ∷ []) (rate_spelled rate ++ Mark Closing ∷ Mark Dot ∷ []) (comma_runs word pending chosen joining outer)
    ∙ run_along step (WantFactor None None (Whole place)) (behind_rate rate place) (rate_spelled rate) (Mark Closing ∷ Mark Dot ∷ []) (rate_runs rate place)
    ∙ run_along step (behind_rate rate place) (WantDot word rate pending chosen joining outer) (Mark Closing ∷ []) (Mark Dot ∷ []) (closing_runs word rate pending chosen joining outer)
    ∙ dot_runs word rate pending chosen joining outer

opening_runs : (pending : List Pending) (chosen : ChosenSoFar) (joining : Option Joining) (outer : Outer) → run (Want pending chosen joining outer) (Mark Opening ∷ []) ≡ Some (Want [] None None (InBrackets pending chosen joining outer))
unfolding runs step
opening_runs pending chosen joining outer = refl

pub no_prefix : (kinds : List Terminal) (at : ℕ) (fault : PartEnd) → ¬ Begins (drop at kinds) Capital → Expects kinds at (Mark Opening) (Err fault) → ReadsPrefix kinds at (Err fault)
no_prefix kinds at (Fault i) capital e =
    rw e.0 (λ pending chosen joining outer admits. halts_here tt (refuses_prefix pending chosen joining outer (drop at kinds) capital e.1 admits))
no_prefix kinds at Memory capital e = tt

-- what stops behind an activity stops in the prefix
pub rest_fails : (kinds : List Terminal) (at : ℕ) (read : ActivityRead) (fault : PartEnd) → IsActivity kinds at read → ReadsPrefix kinds read.next (Err fault) → ReadsPrefix kinds at (Err fault)
rest_fails kinds at read (Fault i) activity prefix = λ pending chosen joining outer admits.
    let next : List Pending = record { word = activity.word; rate = activity.rate } ∷ pending in
    halts_after (Want pending chosen joining outer) (Want next chosen joining outer) activity.spelled (activity_runs activity.word activity.rate pending chosen joining outer)
    (prefix next chosen joining outer tt)
rest_fails kinds at read Memory activity prefix = tt

activity_prefix_spelled : (word : Word) (rate : Rate) (prefix : Prefix) → activity_spelled word rate ++ prefix_spelled prefix ≡ prefix_spelled (Activity word rate prefix)
activity_prefix_spelled word rate prefix = ap (λ l. Mark Opening ∷ word_spelled word ∷ Mark Comma ∷ l) (append_assoc (rate_spelled rate) (Mark Closing ∷ Mark Dot ∷ []) (prefix_spelled prefix))

behind_activity : (at next : ℕ) (word : Word) (rate : Rate) → next ≡ at + length (activity_spelled word rate) → next ≡ at + 3 + length (rate_spelled rate) + 2
behind_activity at next word rate e = omega (arith, e, length-append (rate_spelled rate) (Mark Closing ∷ Mark Dot ∷ []))

pub is_performing : (kinds : List Terminal) (at : ℕ) (activity : ActivityRead) (rest read : ProcessRead) → IsActivity kinds at activity → IsPrefix kinds activity.next rest → process_node_of read.tree ≡ PrefixAt at (rate_node_of activity.rate) (process_node_of rest.tree) → read.next ≡ rest.next → IsPrefix kinds at read
is_performing kinds at activity rest read is prefix tree next =
    let e : activity.next ≡ at + 3 + length (rate_spelled is.rate) + 2 = behind_activity at activity.next is.word is.rate is.spelled.index in
    record {
      prefix = Activity is.word is.rate prefix.prefix;
      spelled = rw next (spelled_as (activity_prefix_spelled is.word is.rate prefix.prefix) (spelled_append is.spelled prefix.spelled));
      tree = tree ∙ ap (λ n. PrefixAt at n (process_node_of rest.tree)) is.tree ∙ ap (λ n. PrefixAt at (rate_tree (at + 3) is.rate) n) (prefix.tree ∙ ap (λ n. prefix_tree n prefix.prefix) e);
    }

-- what stops in brackets stops in the prefix
pub group_fails : (kinds : List Terminal) (at inside : ℕ) (fault : PartEnd) → IsAt kinds at inside (Mark Opening) → NoWord (drop inside kinds) → ReadsProcess kinds inside (Err fault) → ReadsPrefix kinds at (Err fault)
group_fails kinds at inside (Fault i) opening none process = λ pending chosen joining outer admits.
    let brackets : Outer = InBrackets pending chosen joining outer in
    halts_after (Want pending chosen joining outer) (Want [] None None brackets) opening.spelled (opening_runs pending chosen joining outer) (process brackets none)
group_fails kinds at inside Memory opening none process = tt

pub group_stays_open : (kinds : List Terminal) (at inside : ℕ) (read : ProcessRead) (fault : PartEnd) → IsAt kinds at inside (Mark Opening) → IsProcess kinds inside read → EndsProcess (drop read.next kinds) → Expects kinds read.next (Mark Closing) (Err fault) → ReadsPrefix kinds at (Err fault)
group_stays_open kinds at inside read (Fault i) opening process ends e =
    rw e.0 (λ pending chosen joining outer admits.
    let brackets : Outer = InBrackets pending chosen joining outer in
    halts_after (Want pending chosen joining outer) (Want [] None None brackets) opening.spelled (opening_runs pending chosen joining outer)
    (halts_after (Want [] None None brackets) (behind_process process.process brackets) process.spelled (process_runs process.process brackets)
    (halts_here (undone_behind_process process.process brackets) (refuses_behind_process process.process brackets (drop read.next kinds) ends e.1))))
group_stays_open kinds at inside read Memory opening process ends e = tt

pub is_group : (kinds : List Terminal) (at inside : ℕ) (inner read : ProcessRead) → IsAt kinds at inside (Mark Opening) → IsProcess kinds inside inner → IsAt kinds inner.next read.next (Mark Closing) → process_node_of read.tree ≡ process_node_of inner.tree → IsPrefix kinds at read
is_group kinds at inside inner read opening process closing tree =
    record {
      prefix = Grouped process.process;
      spelled = spelled_append opening.spelled (spelled_append process.spelled closing.spelled);
      tree = tree ∙ process.tree ∙ ap (λ n. process_tree n process.process) opening.spelled.index;
    }

-- ---- hidings

slash_runs : (hidden : Hidden) (chosen : ChosenSoFar) (joining : Option Joining) (outer : Outer) → run (After hidden chosen joining outer) (Mark Slash ∷ []) ≡ Some (WantBrace hidden chosen joining outer)
unfolding runs step
slash_runs hidden chosen joining outer = refl

brace_runs : (hidden : Hidden) (chosen : ChosenSoFar) (joining : Option Joining) (outer : Outer) → run (WantBrace hidden chosen joining outer) (Mark OpeningBrace ∷ []) ≡ Some (AtSet (OfHiding hidden chosen joining outer))
unfolding runs step
brace_runs hidden chosen joining outer = refl

pub is_one_prefix : (kinds : List Terminal) (at : ℕ) (read : ProcessRead) → IsPrefix kinds at read → IsHidden kinds at read
is_one_prefix kinds at read prefix = record { hidden = OnePrefix prefix.prefix; spelled = prefix.spelled; tree = prefix.tree }

-- what stops behind the `/` of a hiding stops in the part
halts_after_slash : (kinds : List Terminal) (at brace i : ℕ) (read : ProcessRead) (is : IsHidden kinds at read) (chosen : ChosenSoFar) (joining : Option Joining) (outer : Outer) → IsAt kinds read.next brace (Mark Slash) → Stops kinds brace i (WantBrace is.hidden chosen joining outer) → Stops kinds at i (Want [] chosen joining outer)
halts_after_slash kinds at brace i read is chosen joining outer slash stops =
    halts_after (Want [] chosen joining outer) (After is.hidden chosen joining outer) is.spelled (hidden_runs is.hidden chosen joining outer)
    (halts_after (After is.hidden chosen joining outer) (WantBrace is.hidden chosen joining outer) slash.spelled (slash_runs is.hidden chosen joining outer) stops)

pub no_brace : (kinds : List Terminal) (at brace : ℕ) (read : ProcessRead) (fault : PartEnd) → IsHidden kinds at read → IsAt kinds read.next brace (Mark Slash) → Expects kinds brace (Mark OpeningBrace) (Err fault) → ReadsHidden kinds at (Err fault)
no_brace kinds at brace read (Fault i) is slash e =
    rw e.0 (λ chosen joining outer admits. halts_after_slash kinds at brace brace read is chosen joining outer slash (halts_here tt (refuses_brace is.hidden chosen joining outer (drop brace kinds) e.1)))
no_brace kinds at brace read Memory is slash e = tt

pub hiding_fails : (kinds : List Terminal) (at brace inside : ℕ) (read : ProcessRead) (fault : PartEnd) → IsHidden kinds at read → IsAt kinds read.next brace (Mark Slash) → IsAt kinds brace inside (Mark OpeningBrace) → ReadsSet kinds inside (Mark ClosingBrace) (Err fault) → ReadsHidden kinds at (Err fault)
hiding_fails kinds at brace inside read (Fault i) is slash is_brace words = λ chosen joining outer admits.
    halts_after_slash kinds at brace i read is chosen joining outer slash
    (halts_after (WantBrace is.hidden chosen joining outer) (AtSet (OfHiding is.hidden chosen joining outer)) is_brace.spelled (brace_runs is.hidden chosen joining outer)
    (words (OfHiding is.hidden chosen joining outer) refl))
hiding_fails kinds at brace inside read Memory is slash is_brace words = tt

pub is_hiding : (kinds : List Terminal) (at brace inside : ℕ) (left read : ProcessRead) (words : WordsRead) → IsHidden kinds at left → IsAt kinds left.next brace (Mark Slash) → IsAt kinds brace inside (Mark OpeningBrace) → AreWords kinds inside (Mark ClosingBrace) words → process_node_of read.tree ≡ HideOf (process_node_of left.tree) words.set → read.next ≡ words.next → IsHidden kinds at read
is_hiding kinds at brace inside left read words is slash is_brace are tree next =
    let e : inside ≡ at + length (hidden_spelled is.hidden) + 2 = omega (arith, is.spelled.index, slash.spelled.index, is_brace.spelled.index) in
    record {
      hidden = Hiding is.hidden are.words;
      spelled = rw next (spelled_append is.spelled (spelled_append slash.spelled (spelled_append is_brace.spelled are.spelled)));
      tree = tree ∙ ap (λ n. HideOf n words.set) is.tree ∙ ap (λ n. HideOf (hidden_tree at is.hidden) n) (are.set ∙ ap (λ n. word_indices n are.words) e);
    }

-- ---- choices

plus_runs : (choice : Choice) (joining : Option Joining) (outer : Outer) → run (behind_choice choice joining outer) (Mark Plus ∷ []) ≡ Some (Want [] (Some choice) joining outer)
unfolding runs
plus_runs choice joining outer = run_step step (behind_choice choice joining outer) (Want [] (Some choice) joining outer) (Mark Plus) [] (plus_behind_choice choice joining outer)

pub is_one_hidden : (kinds : List Terminal) (at : ℕ) (read : ProcessRead) → IsHidden kinds at read → IsChoice kinds at read
is_one_hidden kinds at read hidden = record { choice = OneHidden hidden.hidden; spelled = hidden.spelled; tree = hidden.tree }

pub choice_fails : (kinds : List Terminal) (at behind : ℕ) (read : ProcessRead) (fault : PartEnd) → IsChoice kinds at read → IsAt kinds read.next behind (Mark Plus) → ReadsHidden kinds behind (Err fault) → ReadsChoice kinds at (Err fault)
choice_fails kinds at behind read (Fault i) is plus hidden = λ joining outer admits.
    halts_after (Want [] None joining outer) (behind_choice is.choice joining outer) is.spelled (choice_runs is.choice joining outer)
    (halts_after (behind_choice is.choice joining outer) (Want [] (Some is.choice) joining outer) plus.spelled (plus_runs is.choice joining outer)
    (hidden (Some is.choice) joining outer tt))
choice_fails kinds at behind read Memory is plus hidden = tt

pub is_chosen : (kinds : List Terminal) (at behind : ℕ) (left right read : ProcessRead) → IsChoice kinds at left → IsAt kinds left.next behind (Mark Plus) → IsHidden kinds behind right → process_node_of read.tree ≡ ChoiceOf (process_node_of left.tree) (process_node_of right.tree) → read.next ≡ right.next → IsChoice kinds at read
is_chosen kinds at behind left right read is plus hidden tree next =
    let e : behind ≡ at + length (choice_spelled is.choice) + 1 = omega (arith, is.spelled.index, plus.spelled.index) in
    record {
      choice = Chosen is.choice hidden.hidden;
      spelled = rw next (spelled_append is.spelled (spelled_append plus.spelled hidden.spelled));
      tree = tree ∙ ap (λ n. ChoiceOf n (process_node_of right.tree)) is.tree ∙ ap (λ n. ChoiceOf (choice_tree at is.choice) n) (hidden.tree ∙ ap (λ n. hidden_tree n hidden.hidden) e);
    }

-- ---- processes

cooperation_runs : (process : Process) (coop : Cooperation) (outer : Outer) → run (behind_process process outer) (cooperation_spelled coop) ≡ Some (Want [] None (Some (record { process = process; coop = coop })) outer)
unfolding runs
cooperation_runs process Parallel outer = run_step step (behind_process process outer) (Want [] None (Some (record { process = process; coop = Parallel })) outer) (Mark Or) [] (or_behind_process process outer)
cooperation_runs process (Sharing words) outer =
    run_step step (behind_process process outer) (AtSet (OfCooperation process outer)) (Mark Less) (words_spelled words ++ Mark Greater ∷ []) (less_behind_process process outer)
    ∙ words_run (OfCooperation process outer) words (Mark Greater) refl

pub is_one_choice : (kinds : List Terminal) (at : ℕ) (read : ProcessRead) → IsChoice kinds at read → IsProcess kinds at read
is_one_choice kinds at read choice = record { process = OneChoice choice.choice; spelled = choice.spelled; tree = choice.tree }

pub cooperation_fails : (kinds : List Terminal) (at : ℕ) (read : ProcessRead) (fault : PartEnd) → IsProcess kinds at read → ReadsCooperation kinds read.next (Err fault) → ReadsProcess kinds at (Err fault)
cooperation_fails kinds at read (Fault i) is cooperation = λ outer admits.
    halts_after (Want [] None None outer) (behind_process is.process outer) is.spelled (process_runs is.process outer) (cooperation is.process outer)
cooperation_fails kinds at read Memory is cooperation = tt

-- a cooperation that was found is one
pub cooperation_found : (kinds : List Terminal) (at : ℕ) (found : Option WordsRead) (words : WordsRead) → found ≡ Some words → ReadsCooperation kinds at (Ok found) → IsCooperation kinds at words
cooperation_found kinds at found words e h = rw e at h

pub right_fails : (kinds : List Terminal) (at : ℕ) (read : ProcessRead) (words : WordsRead) (fault : PartEnd) → IsProcess kinds at read → IsCooperation kinds read.next words → ReadsChoice kinds words.next (Err fault) → ReadsProcess kinds at (Err fault)
right_fails kinds at read words (Fault i) is cooperation choice = λ outer admits.
    let next : Option Joining = Some (record { process = is.process; coop = cooperation.coop }) in
    halts_after (Want [] None None outer) (behind_process is.process outer) is.spelled (process_runs is.process outer)
    (halts_after (behind_process is.process outer) (Want [] None next outer) cooperation.spelled (cooperation_runs is.process cooperation.coop outer)
    (choice next outer tt))
right_fails kinds at read words Memory is cooperation choice = tt

-- the tree of a cooperation, from what its parts are
coop_tree : (at next behind : ℕ) (tree left right : ProcessNode) (set : List ℕ) (process : Process) (coop : Cooperation) (choice : Choice) → tree ≡ CoopAt next left right set → next ≡ at + length (process_spelled process) → behind ≡ next + length (cooperation_spelled coop) → left ≡ process_tree at process → right ≡ choice_tree behind choice → set ≡ cooperation_indices next coop → tree ≡ process_tree at (Cooperating process coop choice)
coop_tree at next behind tree left right set process coop choice t n b l r s =
    let front : behind ≡ at + length (process_spelled process) + length (cooperation_spelled coop) = b ∙ ap (λ m. m + length (cooperation_spelled coop)) n in
    t ∙ rw (l, r, s, front, n) refl

pub is_cooperating : (kinds : List Terminal) (at : ℕ) (left right read : ProcessRead) (words : WordsRead) → IsProcess kinds at left → IsCooperation kinds left.next words → IsChoice kinds words.next right → process_node_of read.tree ≡ CoopAt left.next (process_node_of left.tree) (process_node_of right.tree) words.set → read.next ≡ right.next → IsProcess kinds at read
is_cooperating kinds at left right read words is cooperation choice tree next =
    record {
      process = Cooperating is.process cooperation.coop choice.choice;
      spelled = rw next (spelled_append is.spelled (spelled_append cooperation.spelled choice.spelled));
      tree = coop_tree at left.next words.next (process_node_of read.tree) (process_node_of left.tree) (process_node_of right.tree) words.set is.process cooperation.coop choice.choice tree is.spelled.index cooperation.spelled.index is.tree choice.tree cooperation.set;
    }
