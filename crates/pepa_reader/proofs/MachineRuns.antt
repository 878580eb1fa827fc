-- The machine reads what the grammar spells: from the state that wants a part, the part's terminals lead to the state behind it.
use Rattle.std.proofs.Common.{◌≡◌, List, [], ◌∷◌, ◌++◌, Option, Some, None, refl, ap, sym, subst, ◌∙◌, append_assoc, append-nil}
use Rattle.pepa_lexer.specs.declared.kinds.Sign.TheVariants.{Semicolon, Closing, Comma, Dot, Plus, Minus, Star, Slash, Less, Greater, Or, OpeningBrace, ClosingBrace}
use Rattle.token_grammar.specs.declared.terminal.Terminal.{Terminal}
use Rattle.token_grammar.specs.declared.terminal.Terminal.TheVariants.{Mark, End}
use Rattle.token_grammar.proofs.Runs.{run_step}
use Rattle.token_grammar.specs.Machines.{runs}
use Rattle.token_grammar.specs.SmallNames.{Plain, Probing}
use Rattle.pepa_reader.specs.Grammar.{Word, Named, Internal, Added, Subtracted, Multiplied, Divided, Sum, OneProduct, Summed, Product, OneFactor, Produced, Factor, Amount, Naming, Bracketed, Rate, Passive, Weighted, Computed, Cooperation, Parallel, Sharing, Process, OneChoice, Cooperating, Choice, OneHidden, Chosen, Hidden, OnePrefix, Hiding, Prefix, Activity, Constant, Grouped, Line, RateNamed, ProcessNamed, ProbeWritten, Open, Closed, Item, OneLine, System, word_spelled, further_words, words_spelled, sum_spelled, product_spelled, factor_spelled, rate_spelled, cooperation_spelled, process_spelled, choice_spelled, hidden_spelled, prefix_spelled, line_spelled, item_spelled}
use Rattle.pepa_reader.specs.Machine.{Pending, ChosenSoFar, Joining, Outer, InLine, InSystem, InBrackets, RatePlace, OfLine, OfActivity, Summing, Multiplying, RateOuter, Whole, InRateBrackets, SetPlace, OfCooperation, OfHiding, ParserState, Want, After, WantComma, WantFactor, AfterFactor, WantDot, AtSet, AfterWord, WantWord, WantEnd, Done, whole_process, whole_sum, after, set_read, closes, closes_rate, closes_set, step, run, start, behind_product, behind_sum, behind_rate, behind_choice, behind_process}
use Rattle.pepa_reader.proofs.MachineProbes.{probe_line_runs}

-- ---- steps behind whole parts

-- a `+` makes a whole choice the left side of the next
pub plus_behind_choice : (choice : Choice) (joining : Option Joining) (outer : Outer) → step (behind_choice choice joining outer) (Mark Plus) ≡ Some (Want [] (Some choice) joining outer)
unfolding step
plus_behind_choice (OneHidden hidden) joining outer = refl
plus_behind_choice (Chosen choice hidden) joining outer = refl

-- a `||` makes a whole process the left side of a cooperation
pub or_behind_process : (process : Process) (outer : Outer) → step (behind_process process outer) (Mark Or) ≡ Some (Want [] None (Some (record { process = process; coop = Parallel })) outer)
unfolding step
or_behind_process (OneChoice (OneHidden hidden)) outer = refl
or_behind_process (OneChoice (Chosen choice hidden)) outer = refl
or_behind_process (Cooperating process coop (OneHidden hidden)) outer = refl
or_behind_process (Cooperating process coop (Chosen choice hidden)) outer = refl

-- so does a `<`, and the words of the set come next
pub less_behind_process : (process : Process) (outer : Outer) → step (behind_process process outer) (Mark Less) ≡ Some (AtSet (OfCooperation process outer))
unfolding step
less_behind_process (OneChoice (OneHidden hidden)) outer = refl
less_behind_process (OneChoice (Chosen choice hidden)) outer = refl
less_behind_process (Cooperating process coop (OneHidden hidden)) outer = refl
less_behind_process (Cooperating process coop (Chosen choice hidden)) outer = refl

-- a `*` makes a whole product the left side of the next
pub star_behind_product : (product : Product) (summing : Option Summing) (outer : RateOuter) → step (behind_product product summing outer) (Mark Star) ≡ Some (WantFactor summing (Some (record { product = product; sign = Multiplied })) outer)
unfolding step
star_behind_product (OneFactor factor) summing outer = refl
star_behind_product (Produced product sign factor) summing outer = refl

-- a `/` does as a `*` does
pub slash_behind_product : (product : Product) (summing : Option Summing) (outer : RateOuter) → step (behind_product product summing outer) (Mark Slash) ≡ Some (WantFactor summing (Some (record { product = product; sign = Divided })) outer)
unfolding step
slash_behind_product (OneFactor factor) summing outer = refl
slash_behind_product (Produced product sign factor) summing outer = refl

-- a `+` makes a whole sum the left side of the next
pub plus_behind_sum : (sum : Sum) (outer : RateOuter) → step (behind_sum sum outer) (Mark Plus) ≡ Some (WantFactor (Some (record { sum = sum; sign = Added })) None outer)
unfolding step
plus_behind_sum (OneProduct (OneFactor factor)) outer = refl
plus_behind_sum (OneProduct (Produced product sign factor)) outer = refl
plus_behind_sum (Summed sum sign (OneFactor factor)) outer = refl
plus_behind_sum (Summed sum sign (Produced product times factor)) outer = refl

-- a `-` does as a `+` does
pub minus_behind_sum : (sum : Sum) (outer : RateOuter) → step (behind_sum sum outer) (Mark Minus) ≡ Some (WantFactor (Some (record { sum = sum; sign = Subtracted })) None outer)
unfolding step
minus_behind_sum (OneProduct (OneFactor factor)) outer = refl
minus_behind_sum (OneProduct (Produced product sign factor)) outer = refl
minus_behind_sum (Summed sum sign (OneFactor factor)) outer = refl
minus_behind_sum (Summed sum sign (Produced product times factor)) outer = refl

-- a `)` makes a sum in brackets a factor
pub closing_behind_sum : (sum : Sum) (summing : Option Summing) (multiplying : Option Multiplying) (outer : RateOuter) → step (behind_sum sum (InRateBrackets summing multiplying outer)) (Mark Closing) ≡ Some (AfterFactor (Bracketed sum) summing multiplying outer)
unfolding step
closing_behind_sum (OneProduct (OneFactor factor)) summing multiplying outer = refl
closing_behind_sum (OneProduct (Produced product sign factor)) summing multiplying outer = refl
closing_behind_sum (Summed sum sign (OneFactor factor)) summing multiplying outer = refl
closing_behind_sum (Summed sum sign (Produced product times factor)) summing multiplying outer = refl

-- only `;` and `)` close a rate, and behind a factor they do nothing else
pub closes_after_factor : (factor : Factor) (summing : Option Summing) (multiplying : Option Multiplying) (place : RatePlace) (terminal : Terminal) (next : ParserState) → closes_rate (Computed (whole_sum summing multiplying factor)) place terminal ≡ Some next → step (AfterFactor factor summing multiplying (Whole place)) terminal ≡ Some next
unfolding step
closes_after_factor factor summing multiplying (OfLine name) (Mark Semicolon) next h = h
closes_after_factor factor summing multiplying (OfActivity word pending chosen joining outer) (Mark Closing) next h = h
closes_after_factor factor summing multiplying _ _ next h = cc

-- what closes a rate can stand behind it
pub rate_closes : (rate : Rate) (place : RatePlace) (terminal : Terminal) (next : ParserState) → closes_rate rate place terminal ≡ Some next → step (behind_rate rate place) terminal ≡ Some next
unfolding step
rate_closes Passive place terminal next h = h
rate_closes Weighted place terminal next h = h
rate_closes (Computed (OneProduct (OneFactor factor))) place terminal next h = closes_after_factor factor None None place terminal next h
rate_closes (Computed (OneProduct (Produced product sign factor))) place terminal next h = closes_after_factor factor None (Some (record { product = product; sign = sign })) place terminal next h
rate_closes (Computed (Summed sum sign (OneFactor factor))) place terminal next h = closes_after_factor factor (Some (record { sum = sum; sign = sign })) None place terminal next h
rate_closes (Computed (Summed sum sign (Produced product times factor))) place terminal next h = closes_after_factor factor (Some (record { sum = sum; sign = sign })) (Some (record { product = product; sign = times })) place terminal next h

-- only `;`, `)` and the end close a process, and behind a prefix they do nothing else
closes_after : (hidden : Hidden) (chosen : ChosenSoFar) (joining : Option Joining) (outer : Outer) (terminal : Terminal) (next : ParserState) → closes (whole_process joining chosen hidden) outer terminal ≡ Some next → step (After hidden chosen joining outer) terminal ≡ Some next
unfolding step
closes_after hidden chosen joining InLine (Mark Semicolon) next h = h
closes_after hidden chosen joining InSystem (Mark Semicolon) next h = h
closes_after hidden chosen joining InSystem End next h = h
closes_after hidden chosen joining (InBrackets pending chosen' joining' outer) (Mark Closing) next h = h
closes_after hidden chosen joining _ _ next h = cc

-- what closes a process can stand behind it
pub process_closes : (process : Process) (outer : Outer) (terminal : Terminal) (next : ParserState) → closes process outer terminal ≡ Some next → step (behind_process process outer) terminal ≡ Some next
process_closes (OneChoice (OneHidden hidden)) outer terminal next h = closes_after hidden None None outer terminal next h
process_closes (OneChoice (Chosen choice hidden)) outer terminal next h = closes_after hidden (Some choice) None outer terminal next h
process_closes (Cooperating process coop (OneHidden hidden)) outer terminal next h = closes_after hidden None (Some (record { process = process; coop = coop })) outer terminal next h
process_closes (Cooperating process coop (Chosen choice hidden)) outer terminal next h = closes_after hidden (Some choice) (Some (record { process = process; coop = coop })) outer terminal next h

-- a `)` makes a process in brackets a prefix
pub closing_behind_process : (process : Process) (pending : List Pending) (chosen : ChosenSoFar) (joining : Option Joining) (outer : Outer) → step (behind_process process (InBrackets pending chosen joining outer)) (Mark Closing) ≡ Some (after pending (Grouped process) chosen joining outer)
closing_behind_process process pending chosen joining outer = process_closes process (InBrackets pending chosen joining outer) (Mark Closing) (after pending (Grouped process) chosen joining outer) refl

-- ---- rates

mutual
  unfolding step runs

  -- a factor leads to the state behind it, whatever stands behind; likewise for the others below
  factor_onward : (factor : Factor) (summing : Option Summing) (multiplying : Option Multiplying) (outer : RateOuter) (rest : List Terminal) → run (WantFactor summing multiplying outer) (factor_spelled factor ++ rest) ≡ run (AfterFactor factor summing multiplying outer) rest
  factor_onward Amount summing multiplying outer rest = refl
  factor_onward (Naming Plain) summing multiplying outer rest = refl
  factor_onward (Naming Probing) summing multiplying outer rest = refl
  factor_onward (Bracketed sum) summing multiplying outer rest =
      ap (run (WantFactor None None (InRateBrackets summing multiplying outer))) (append_assoc (sum_spelled sum) (Mark Closing ∷ []) rest)
      ∙ sum_onward sum (InRateBrackets summing multiplying outer) (Mark Closing ∷ rest)
      ∙ run_step step _ _ (Mark Closing) rest (closing_behind_sum sum summing multiplying outer)

  product_onward : (product : Product) (summing : Option Summing) (outer : RateOuter) (rest : List Terminal) → run (WantFactor summing None outer) (product_spelled product ++ rest) ≡ run (behind_product product summing outer) rest
  product_onward (OneFactor factor) summing outer rest = factor_onward factor summing None outer rest
  product_onward (Produced product Multiplied factor) summing outer rest =
      ap (run (WantFactor summing None outer)) (append_assoc (product_spelled product) (Mark Star ∷ factor_spelled factor) rest)
      ∙ product_onward product summing outer (Mark Star ∷ (factor_spelled factor ++ rest))
      ∙ run_step step _ _ (Mark Star) (factor_spelled factor ++ rest) (star_behind_product product summing outer)
      ∙ factor_onward factor summing (Some (record { product = product; sign = Multiplied })) outer rest
  product_onward (Produced product Divided factor) summing outer rest =
      ap (run (WantFactor summing None outer)) (append_assoc (product_spelled product) (Mark Slash ∷ factor_spelled factor) rest)
      ∙ product_onward product summing outer (Mark Slash ∷ (factor_spelled factor ++ rest))
      ∙ run_step step _ _ (Mark Slash) (factor_spelled factor ++ rest) (slash_behind_product product summing outer)
      ∙ factor_onward factor summing (Some (record { product = product; sign = Divided })) outer rest

  sum_onward : (sum : Sum) (outer : RateOuter) (rest : List Terminal) → run (WantFactor None None outer) (sum_spelled sum ++ rest) ≡ run (behind_sum sum outer) rest
  sum_onward (OneProduct product) outer rest = product_onward product None outer rest
  sum_onward (Summed sum Added product) outer rest =
      ap (run (WantFactor None None outer)) (append_assoc (sum_spelled sum) (Mark Plus ∷ product_spelled product) rest)
      ∙ sum_onward sum outer (Mark Plus ∷ (product_spelled product ++ rest))
      ∙ run_step step _ _ (Mark Plus) (product_spelled product ++ rest) (plus_behind_sum sum outer)
      ∙ product_onward product (Some (record { sum = sum; sign = Added })) outer rest
  sum_onward (Summed sum Subtracted product) outer rest =
      ap (run (WantFactor None None outer)) (append_assoc (sum_spelled sum) (Mark Minus ∷ product_spelled product) rest)
      ∙ sum_onward sum outer (Mark Minus ∷ (product_spelled product ++ rest))
      ∙ run_step step _ _ (Mark Minus) (product_spelled product ++ rest) (minus_behind_sum sum outer)
      ∙ product_onward product (Some (record { sum = sum; sign = Subtracted })) outer rest

-- a rate stands where a sum does, but for the two forms with `infty`
rate_onward : (rate : Rate) (place : RatePlace) (rest : List Terminal) → run (WantFactor None None (Whole place)) (rate_spelled rate ++ rest) ≡ run (behind_rate rate place) rest
unfolding step runs
rate_onward Passive place rest = refl
rate_onward Weighted place rest = refl
rate_onward (Computed sum) place rest = sum_onward sum (Whole place) rest

-- ---- sets of words

-- a word is added at the end of those that were read
takes_one : (place : SetPlace) (words : List Word) (word : Word) → step (WantWord place words) (word_spelled word) ≡ Some (AfterWord place (words ++ word ∷ []))
unfolding step
takes_one place words (Named Plain) = refl
takes_one place words (Named Probing) = refl
takes_one place words Internal = refl

-- the first word of a set
first_one : (place : SetPlace) (word : Word) → step (AtSet place) (word_spelled word) ≡ Some (AfterWord place (word ∷ []))
unfolding step
first_one place (Named Plain) = refl
first_one place (Named Probing) = refl
first_one place Internal = refl

-- only `>` and `}` close a set
pub closes_words : (place : SetPlace) (words : List Word) (close : Terminal) (next : ParserState) → closes_set place words close ≡ Some next → step (AfterWord place words) close ≡ Some next
unfolding step
closes_words (OfCooperation process outer) words (Mark Greater) next h = h
closes_words (OfHiding hidden chosen joining outer) words (Mark ClosingBrace) next h = h
closes_words _ words _ next h = cc

-- the same where the set has no words
pub closes_no_words : (place : SetPlace) (close : Terminal) (next : ParserState) → closes_set place [] close ≡ Some next → step (AtSet place) close ≡ Some next
unfolding step
closes_no_words (OfCooperation process outer) (Mark Greater) next h = h
closes_no_words (OfHiding hidden chosen joining outer) (Mark ClosingBrace) next h = h
closes_no_words _ _ next h = cc

-- the words that are left are added to those that were read, and then the set is closed
further_onward : (place : SetPlace) (more read : List Word) (close : Terminal) (rest : List Terminal) → closes_set place (read ++ more) close ≡ Some (set_read place (read ++ more)) → run (AfterWord place read) (further_words more ++ close ∷ rest) ≡ run (set_read place (read ++ more)) rest
unfolding step runs
further_onward place [] read close rest h =
    run_step step (AfterWord place read) (set_read place read) close rest (closes_words place read close (set_read place read) (subst (λ words. closes_set place words close ≡ Some (set_read place words)) (append-nil read) h))
    ∙ ap (λ words. run (set_read place words) rest) (sym (append-nil read))
further_onward place (word ∷ more) read close rest h =
    run_step step (WantWord place read) (AfterWord place (read ++ word ∷ [])) (word_spelled word) (further_words more ++ close ∷ rest) (takes_one place read word)
    ∙ further_onward place more (read ++ word ∷ []) close rest (subst (λ words. closes_set place words close ≡ Some (set_read place words)) (sym (append_assoc read (word ∷ []) more)) h)
    ∙ ap (λ words. run (set_read place words) rest) (append_assoc read (word ∷ []) more)

-- all words of a set, and what closes it
words_onward : (place : SetPlace) (words : List Word) (close : Terminal) (rest : List Terminal) → closes_set place words close ≡ Some (set_read place words) → run (AtSet place) (words_spelled words ++ close ∷ rest) ≡ run (set_read place words) rest
words_onward place [] close rest h = run_step step _ _ close rest (closes_no_words place close (set_read place []) h)
words_onward place (word ∷ words) close rest h =
    run_step step _ _ (word_spelled word) (further_words words ++ close ∷ rest) (first_one place word)
    ∙ further_onward place words (word ∷ []) close rest h

-- ---- processes

-- the word of an activity, behind its bracket
word_begins : (word : Word) (pending : List Pending) (chosen : ChosenSoFar) (joining : Option Joining) (outer : Outer) → step (Want [] None None (InBrackets pending chosen joining outer)) (word_spelled word) ≡ Some (WantComma word pending chosen joining outer)
unfolding step
word_begins (Named Plain) pending chosen joining outer = refl
word_begins (Named Probing) pending chosen joining outer = refl
word_begins Internal pending chosen joining outer = refl

-- a sign or a set between two sides of a cooperation
cooperation_onward : (process : Process) (coop : Cooperation) (outer : Outer) (rest : List Terminal) → run (behind_process process outer) (cooperation_spelled coop ++ rest) ≡ run (Want [] None (Some (record { process = process; coop = coop })) outer) rest
cooperation_onward process Parallel outer rest = run_step step _ _ (Mark Or) rest (or_behind_process process outer)
cooperation_onward process (Sharing words) outer rest =
    run_step step _ _ (Mark Less) ((words_spelled words ++ Mark Greater ∷ []) ++ rest) (less_behind_process process outer)
    ∙ ap (run (AtSet (OfCooperation process outer))) (append_assoc (words_spelled words) (Mark Greater ∷ []) rest)
    ∙ words_onward (OfCooperation process outer) words (Mark Greater) rest refl

mutual
  unfolding step runs

  -- a prefix is what the pending activities wait for; an activity is one more of them
  prefix_onward : (prefix : Prefix) (pending : List Pending) (chosen : ChosenSoFar) (joining : Option Joining) (outer : Outer) (rest : List Terminal) → run (Want pending chosen joining outer) (prefix_spelled prefix ++ rest) ≡ run (after pending prefix chosen joining outer) rest
  prefix_onward (Activity word rate prefix) pending chosen joining outer rest =
      run_step step (Want [] None None (InBrackets pending chosen joining outer)) (WantComma word pending chosen joining outer) (word_spelled word) (Mark Comma ∷ ((rate_spelled rate ++ Mark Closing ∷ Mark Dot ∷ prefix_spelled prefix) ++ rest)) (word_begins word pending chosen joining outer)
      ∙ ap (run (WantFactor None None (Whole (OfActivity word pending chosen joining outer)))) (append_assoc (rate_spelled rate) (Mark Closing ∷ Mark Dot ∷ prefix_spelled prefix) rest)
      ∙ rate_onward rate (OfActivity word pending chosen joining outer) (Mark Closing ∷ Mark Dot ∷ (prefix_spelled prefix ++ rest))
      ∙ run_step step (behind_rate rate (OfActivity word pending chosen joining outer)) (WantDot word rate pending chosen joining outer) (Mark Closing) (Mark Dot ∷ (prefix_spelled prefix ++ rest)) (rate_closes rate (OfActivity word pending chosen joining outer) (Mark Closing) (WantDot word rate pending chosen joining outer) refl)
      ∙ prefix_onward prefix (record { word = word; rate = rate } ∷ pending) chosen joining outer rest
  prefix_onward Constant pending chosen joining outer rest = refl
  prefix_onward (Grouped process) pending chosen joining outer rest =
      ap (run (Want [] None None (InBrackets pending chosen joining outer))) (append_assoc (process_spelled process) (Mark Closing ∷ []) rest)
      ∙ process_onward process (InBrackets pending chosen joining outer) (Mark Closing ∷ rest)
      ∙ run_step step _ _ (Mark Closing) rest (closing_behind_process process pending chosen joining outer)

  hidden_onward : (hidden : Hidden) (chosen : ChosenSoFar) (joining : Option Joining) (outer : Outer) (rest : List Terminal) → run (Want [] chosen joining outer) (hidden_spelled hidden ++ rest) ≡ run (After hidden chosen joining outer) rest
  hidden_onward (OnePrefix prefix) chosen joining outer rest = prefix_onward prefix [] chosen joining outer rest
  hidden_onward (Hiding hidden words) chosen joining outer rest =
      ap (run (Want [] chosen joining outer)) (append_assoc (hidden_spelled hidden) (Mark Slash ∷ Mark OpeningBrace ∷ (words_spelled words ++ Mark ClosingBrace ∷ [])) rest)
      ∙ hidden_onward hidden chosen joining outer (Mark Slash ∷ Mark OpeningBrace ∷ ((words_spelled words ++ Mark ClosingBrace ∷ []) ++ rest))
      ∙ ap (run (AtSet (OfHiding hidden chosen joining outer))) (append_assoc (words_spelled words) (Mark ClosingBrace ∷ []) rest)
      ∙ words_onward (OfHiding hidden chosen joining outer) words (Mark ClosingBrace) rest refl

  choice_onward : (choice : Choice) (joining : Option Joining) (outer : Outer) (rest : List Terminal) → run (Want [] None joining outer) (choice_spelled choice ++ rest) ≡ run (behind_choice choice joining outer) rest
  choice_onward (OneHidden hidden) joining outer rest = hidden_onward hidden None joining outer rest
  choice_onward (Chosen choice hidden) joining outer rest =
      ap (run (Want [] None joining outer)) (append_assoc (choice_spelled choice) (Mark Plus ∷ hidden_spelled hidden) rest)
      ∙ choice_onward choice joining outer (Mark Plus ∷ (hidden_spelled hidden ++ rest))
      ∙ run_step step _ _ (Mark Plus) (hidden_spelled hidden ++ rest) (plus_behind_choice choice joining outer)
      ∙ hidden_onward hidden (Some choice) joining outer rest

  process_onward : (process : Process) (outer : Outer) (rest : List Terminal) → run (Want [] None None outer) (process_spelled process ++ rest) ≡ run (behind_process process outer) rest
  process_onward (OneChoice choice) outer rest = choice_onward choice None outer rest
  process_onward (Cooperating process coop choice) outer rest =
      ap (run (Want [] None None outer)) (append_assoc (process_spelled process) (cooperation_spelled coop ++ choice_spelled choice) rest ∙ ap (λ l. process_spelled process ++ l) (append_assoc (cooperation_spelled coop) (choice_spelled choice) rest))
      ∙ process_onward process outer (cooperation_spelled coop ++ (choice_spelled choice ++ rest))
      ∙ cooperation_onward process coop outer (choice_spelled choice ++ rest)
      ∙ choice_onward choice (Some (record { process = process; coop = coop })) outer rest

-- ---- the same with nothing behind

pub factor_runs : (factor : Factor) (summing : Option Summing) (multiplying : Option Multiplying) (outer : RateOuter) → run (WantFactor summing multiplying outer) (factor_spelled factor) ≡ Some (AfterFactor factor summing multiplying outer)
unfolding runs
factor_runs factor summing multiplying outer = ap (run (WantFactor summing multiplying outer)) (sym (append-nil (factor_spelled factor))) ∙ factor_onward factor summing multiplying outer []

pub product_runs : (product : Product) (summing : Option Summing) (outer : RateOuter) → run (WantFactor summing None outer) (product_spelled product) ≡ Some (behind_product product summing outer)
unfolding runs
product_runs product summing outer = ap (run (WantFactor summing None outer)) (sym (append-nil (product_spelled product))) ∙ product_onward product summing outer []

pub sum_runs : (sum : Sum) (outer : RateOuter) → run (WantFactor None None outer) (sum_spelled sum) ≡ Some (behind_sum sum outer)
unfolding runs
sum_runs sum outer = ap (run (WantFactor None None outer)) (sym (append-nil (sum_spelled sum))) ∙ sum_onward sum outer []

pub rate_runs : (rate : Rate) (place : RatePlace) → run (WantFactor None None (Whole place)) (rate_spelled rate) ≡ Some (behind_rate rate place)
unfolding runs
rate_runs rate place = ap (run (WantFactor None None (Whole place))) (sym (append-nil (rate_spelled rate))) ∙ rate_onward rate place []

pub words_run : (place : SetPlace) (words : List Word) (close : Terminal) → closes_set place words close ≡ Some (set_read place words) → run (AtSet place) (words_spelled words ++ close ∷ []) ≡ Some (set_read place words)
unfolding runs
words_run place words close h = words_onward place words close [] h

pub prefix_runs : (prefix : Prefix) (pending : List Pending) (chosen : ChosenSoFar) (joining : Option Joining) (outer : Outer) → run (Want pending chosen joining outer) (prefix_spelled prefix) ≡ Some (after pending prefix chosen joining outer)
unfolding runs
prefix_runs prefix pending chosen joining outer = ap (run (Want pending chosen joining outer)) (sym (append-nil (prefix_spelled prefix))) ∙ prefix_onward prefix pending chosen joining outer []

pub hidden_runs : (hidden : Hidden) (chosen : ChosenSoFar) (joining : Option Joining) (outer : Outer) → run (Want [] chosen joining outer) (hidden_spelled hidden) ≡ Some (After hidden chosen joining outer)
unfolding runs
hidden_runs hidden chosen joining outer = ap (run (Want [] chosen joining outer)) (sym (append-nil (hidden_spelled hidden))) ∙ hidden_onward hidden chosen joining outer []

pub choice_runs : (choice : Choice) (joining : Option Joining) (outer : Outer) → run (Want [] None joining outer) (choice_spelled choice) ≡ Some (behind_choice choice joining outer)
unfolding runs
choice_runs choice joining outer = ap (run (Want [] None joining outer)) (sym (append-nil (choice_spelled choice))) ∙ choice_onward choice joining outer []

pub process_runs : (process : Process) (outer : Outer) → run (Want [] None None outer) (process_spelled process) ≡ Some (behind_process process outer)
unfolding runs
process_runs process outer = ap (run (Want [] None None outer)) (sym (append-nil (process_spelled process))) ∙ process_onward process outer []

-- ---- items

-- a line is read to its end
pub line_runs : (line : Line) → run start (line_spelled line) ≡ Some (Done (OneLine line))
unfolding step runs
line_runs (RateNamed Plain rate) =
    rate_onward rate (OfLine Plain) (Mark Semicolon ∷ [])
    ∙ run_step step (behind_rate rate (OfLine Plain)) (Done (OneLine (RateNamed Plain rate))) (Mark Semicolon) [] (rate_closes rate (OfLine Plain) (Mark Semicolon) (Done (OneLine (RateNamed Plain rate))) refl)
line_runs (RateNamed Probing rate) =
    rate_onward rate (OfLine Probing) (Mark Semicolon ∷ [])
    ∙ run_step step (behind_rate rate (OfLine Probing)) (Done (OneLine (RateNamed Probing rate))) (Mark Semicolon) [] (rate_closes rate (OfLine Probing) (Mark Semicolon) (Done (OneLine (RateNamed Probing rate))) refl)
line_runs (ProcessNamed process) =
    process_onward process InLine (Mark Semicolon ∷ [])
    ∙ run_step step (behind_process process InLine) (Done (OneLine (ProcessNamed process))) (Mark Semicolon) [] (process_closes process InLine (Mark Semicolon) (Done (OneLine (ProcessNamed process))) refl)
line_runs (ProbeWritten target alternatives) = probe_line_runs target alternatives

-- an item is read to its end
pub item_runs : (item : Item) → run start (item_spelled item) ≡ Some (Done item)
unfolding step runs
item_runs (OneLine line) = line_runs line
item_runs (System process Open) =
    process_onward process InSystem (End ∷ [])
    ∙ run_step step (behind_process process InSystem) (Done (System process Open)) End [] (process_closes process InSystem End (Done (System process Open)) refl)
item_runs (System process Closed) =
    process_onward process InSystem (Mark Semicolon ∷ End ∷ [])
    ∙ run_step step (behind_process process InSystem) (WantEnd process) (Mark Semicolon) (End ∷ []) (process_closes process InSystem (Mark Semicolon) (WantEnd process) refl)
