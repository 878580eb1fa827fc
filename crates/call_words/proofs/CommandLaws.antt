-- Words give a command or none, at most one, and an order in range.
use Rattle.std.proofs.Common.{◌≡◌, ◌≤◌, ℕ, List, [], ◌∷◌, Option, None, Some, codes, sym, ap, ap₂, ◌∙◌, subst, refl, arith}
use Rattle.std.specs.Str.Parse.{digits_value, without_leading_plus}
use Rattle.pepa_lexer.specs.AtMost.{AtMostOne}
use Rattle.sim_replication.specs.Orders.{IsOrderInRange}
use Rattle.sim_replication.specs.declared.order.Order.{Order}
use Rattle.sim_report.specs.declared.probe_ask.ProbeAsk.TheVariants.{All, Events}
use Rattle.call_words.specs.declared.command.Command.{Command}
use Rattle.call_words.specs.declared.command.Command.TheVariants.{Steps, Check, Print, Probe, Run, Gen}
use Rattle.call_words.specs.OptionTable.{IsMadeOption, NumberOption, run_names, probe_names, IsOptionNumber, seed_option, runs_option, passages_option, jumps_option, workers_option, table_option, entries_option, bin_option, bins_option}
use Rattle.call_words.specs.CommandWords.{IsRunOf, GivesSize, IsOrderOf, AreEventsIn, IsAskOfBoth, IsAskOf, GivesAsk, GivesRun, GivesCommand}
use Rattle.call_words.proofs.GivenValues.{same_values, apart, name_of, first_is}

-- ---- at most one command

pub same_number : (option : NumberOption) (text : Option (List ℕ)) (n m : ℕ) → IsOptionNumber option text n → IsOptionNumber option text m → n ≡ m
same_number option None n m h k = h ∙ sym k
same_number option (Some text) n m h k = h.number ∙ sym k.number

one_order : (value : List ℕ → Option (List ℕ)) → AtMostOne (IsOrderOf value)
one_order value x y h k =
    let same = λ (option : NumberOption). same_number option (value option.name) in
    λ i. record {
      seed = same seed_option x.seed y.seed h.seed k.seed i;
      runs = same runs_option x.runs y.runs h.runs k.runs i;
      passages = same passages_option x.passages y.passages h.passages k.passages i;
      jumps = same jumps_option x.jumps y.jumps h.jumps k.jumps i;
      workers = same workers_option x.workers y.workers h.workers k.workers i;
      table = same table_option x.table y.table h.table k.table i;
      entries = same entries_option x.entries y.entries h.entries k.entries i;
      bin = same bin_option x.bin y.bin h.bin k.bin i;
      bins = same bins_option x.bins y.bins h.bins k.bins i;
    }

one_events : (number events : List ℕ) → AtMostOne (AreEventsIn number events)
one_events number events All y h k = absurd h
one_events number events (Events n ns) All h k = absurd k
one_events number events (Events n ns) (Events m ms) h k = ap₂ Events (h.0.number ∙ sym k.0.number) (h.1.0 ∙ sym k.1.0)

one_ask_of_both : (number events : Option (List ℕ)) → AtMostOne (IsAskOfBoth number events)
one_ask_of_both None None x y h k = h ∙ sym k
one_ask_of_both (Some number) (Some events) x y h k = one_events number events x y h k
one_ask_of_both None (Some events) x y h k = absurd h
one_ask_of_both (Some number) None x y h k = absurd h

one_ask : (words : List (List ℕ)) → AtMostOne (GivesAsk words)
one_ask words x y h k =
    let same = same_values probe_names refl words h.0 k.0 h.1 k.1 in
    one_ask_of_both (k.0 (codes "number")) (k.0 (codes "events")) x y (subst (λ value. IsAskOf value x) same h.2) k.2

one_made : (text : Option (List ℕ)) → AtMostOne (IsMadeOption text)
one_made None x y h k = h ∙ sym k
one_made (Some text) None y h k = absurd h
one_made (Some text) (Some n) None h k = absurd k
one_made (Some text) (Some n) (Some m) h k = ap (λ size. Some size) (h.number ∙ sym k.number)

one_run : (words : List (List ℕ)) (x y : Order) (a b : Option ℕ) → GivesRun words x a → GivesRun words y b → Run x a ≡ Run y b
one_run words x y a b h k =
    let same = same_values run_names refl words h.0 k.0 h.1 k.1 in
    let is = subst (λ value. IsRunOf value x a) same h.2 in
    ap₂ (λ order made. Run order made) (one_order k.0 x y is.0 k.2.0) (one_made (k.0 (codes "made")) a b is.1 k.2.1)

one_size : (words : List (List ℕ)) → AtMostOne (GivesSize words)
one_size words x y h k =
    let same : h.0 ≡ k.0 = ap first_word (sym h.1 ∙ k.1) in
    h.2.number ∙ ap (λ text. digits_value 10 (without_leading_plus text)) same ∙ sym k.2.number
  where
    first_word : List (List ℕ) → List ℕ
    first_word [] = []
    first_word (w ∷ ws) = w

one_after : (first : List ℕ) (others : List (List ℕ)) (x y : Command) → GivesCommand (first ∷ others) x → GivesCommand (first ∷ others) y → x ≡ y
one_after first others Steps Steps h k = refl
one_after first others Check Check h k = refl
one_after first others Print Print h k = refl
one_after first others (Probe a) (Probe b) h k = ap (λ ask. Probe ask) (one_ask others a b h.1 k.1)
one_after first others (Run x a) (Run y b) h k = one_run others x y a b h.1 k.1
one_after first others (Gen a) (Gen b) h k = ap (λ size. Gen size) (one_size others a b h.1 k.1)
one_after first others x y h k = absurd (apart first (name_of x) (name_of y) refl (first_is first others x h) (first_is first others y k))

pub one_command : (words : List (List ℕ)) → AtMostOne (GivesCommand words)
one_command [] x y h k = absurd h
one_command (first ∷ others) x y h k = one_after first others x y h k

-- ---- an order in range

below : (option : NumberOption) (text : Option (List ℕ)) (n : ℕ) → option.least ≤ option.default → option.default ≤ option.most → IsOptionNumber option text n
    → (option.least ≤ n) × (n ≤ option.most)
below option None n low high h = (subst (λ k. option.least ≤ k) (sym h) low, subst (λ k. k ≤ option.most) (sym h) high)
below option (Some text) n low high h = (h.at_least, h.at_most)

pub order_in_range : (words : List (List ℕ)) (order : Order) (made : Option ℕ) → GivesCommand words (Run order made) → IsOrderInRange order
order_in_range [] order made h = absurd h
order_in_range (first ∷ others) order made h =
    let value = h.1.0 in
    let is = h.1.2.0 in
    let seed = below seed_option (value seed_option.name) order.seed (omega arith) (omega arith) is.seed in
    record {
      seed = omega (arith, seed.1);
      runs = below runs_option (value runs_option.name) order.runs (omega arith) (omega arith) is.runs;
      passages = below passages_option (value passages_option.name) order.passages (omega arith) (omega arith) is.passages;
      jumps = below jumps_option (value jumps_option.name) order.jumps (omega arith) (omega arith) is.jumps;
      workers = below workers_option (value workers_option.name) order.workers (omega arith) (omega arith) is.workers;
      table = below table_option (value table_option.name) order.table (omega arith) (omega arith) is.table;
      entries = below entries_option (value entries_option.name) order.entries (omega arith) (omega arith) is.entries;
      bin = below bin_option (value bin_option.name) order.bin (omega arith) (omega arith) is.bin;
      bins = below bins_option (value bins_option.name) order.bins (omega arith) (omega arith) is.bins;
      all_passages = is.all_passages;
    }
