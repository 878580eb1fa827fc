-- Words give a command, or they give none.
use Rattle.std.proofs.Common.{◌≡◌, ◌≤◌, ◌<◌, ◌+◌, ◌*◌, ℕ, Bool, true, false, List, [], ◌∷◌, ◌⊎◌, inl, inr, Option, None, Some, codes, length, sym, ap, ◌∙◌, subst, refl, arith}
use Rattle.std.specs.Bool.{Decides}
use Rattle.std.specs.List.{AllByRecursion, slice_split, list_all}
use Rattle.std.specs.Prelude.{nat_lt, ◌==◌}
use Rattle.std.specs.Char.{digit_value}
use Rattle.std.specs.Str.{bytes_eq}
use Rattle.std.specs.Str.Parse.{AllDigits, IsNumeral, digits_value, without_leading_plus}
use Rattle.std.proofs.lemmas.Bool.{ltb-true, ltb-false}
use Rattle.std.proofs.lemmas.Slice.Eq.{bytes_eq-Decides}
use Rattle.clap.specs.Words.{fault_of, first_of, matches_of}
use Rattle.clap.specs.Kinds.{Kinds}
use Rattle.pepa_lexer.specs.Bytes.{begins, is_letter, is_capital, is_word_byte}
use Rattle.pepa_model.specs.Spelling.{IsActionName}
use Rattle.sim_replication.specs.declared.order.Order.{Order}
use Rattle.sim_report.specs.declared.probe_ask.ProbeAsk.{ProbeAsk}
use Rattle.sim_report.specs.declared.probe_ask.ProbeAsk.TheVariants.{All, Events}
use Rattle.call_words.specs.declared.command.Command.{Command}
use Rattle.call_words.specs.declared.command.Command.TheVariants.{Steps, Check, Print, Probe, Run, Gen}
use Rattle.call_words.specs.OptionUses.{GiveValues}
use Rattle.call_words.specs.OptionTable.{IsMadeOption, NumberOption, run_names, probe_names, IsNumberText, IsOptionNumber, AreEventNames, seed_option, runs_option, passages_option, jumps_option, workers_option, table_option, entries_option, bin_option, bins_option}
use Rattle.call_words.specs.OptionsApp.{options_app}
use Rattle.call_words.specs.HyphenTest.{AreOptionsOrPlain, is_option_or_plain}
use Rattle.call_words.specs.CommandWords.{IsOrderOf, AreEventsIn, IsAskOfBoth, IsAskOf, GivesAsk, IsRunOf, GivesRun, GivesSize, GivesCommand, HasCommandOrNone}
use Rattle.call_words.proofs.UsesTaken.{AreNames, uses_are_taken, fresh_uses}
use Rattle.call_words.proofs.TakenUses.{taken_give_values, uses_are_tested}
use Rattle.call_words.proofs.SpelledOptions.{test_from, test_to}
use Rattle.call_words.proofs.GivenValues.{same_values, apart, name_of, first_is, no_probe, no_run, no_gen}
use Rattle.call_words.proofs.CommandLaws.{same_number}

-- it holds, or it doesn't
abbrev Either : Type 0 → Type 0
Either P = P ⊎ (P → ⊥)

-- one is like this, or none is
abbrev OneOrNone : {X : Type 0} → (X → Type 0) → Type 0
OneOrNone {X = X} P = ((x : X) × P x) ⊎ ((x : X) → P x → ⊥)

by_test : (b : Bool) (P : Type 0) → Decides b P → Either P
by_test true P d = inl (d.0 refl)
by_test false P d = inr (λ p. let bad : false ≡ true = d.1 p in absurd cc)

is_true : (b : Bool) → Either (b ≡ true)
is_true true = inl refl
is_true false = inr (λ e. absurd cc)

is_false : (b : Bool) → Either (b ≡ false)
is_false false = inl refl
is_false true = inr (λ e. absurd cc)

is_word : (a b : List ℕ) → Either (a ≡ b)
is_word a b = by_test (bytes_eq a b) (a ≡ b) (bytes_eq-Decides a b)

is_below : (a b : ℕ) → Either (a < b)
is_below a b = go (nat_lt a b) refl where
  go : (t : Bool) → nat_lt a b ≡ t → Either (a < b)
  go true e = inl (ltb-true a b e)
  go false e = inr (λ h. let k = ltb-false a b e in absurd (omega (arith, h, k)))

is_at_most : (a b : ℕ) → Either (a ≤ b)
is_at_most a b = go (is_below b a) where
  go : Either (b < a) → Either (a ≤ b)
  go (inl h) = inr (λ k. absurd (omega (arith, h, k)))
  go (inr h) = inl (elim (is_below a (b + 1)) [ inl k ↦ omega (arith, k) | inr k ↦ absurd (h (omega (arith, k))) ])

both : (P Q : Type 0) → Either P → Either Q → Either (P × Q)
both P Q (inl p) (inl q) = inl (p, q)
both P Q (inl p) (inr q) = inr (λ h. q h.1)
both P Q (inr p) q = inr (λ h. p h.0)

not_so : (P : Type 0) → Either P → Either (P → ⊥)
not_so P (inl p) = inr (λ h. h p)
not_so P (inr p) = inl p

each : {X : Type 0} (P : X → Type 0) → ((x : X) → Either (P x)) → (xs : List X) → Either (AllByRecursion P xs)
each P d [] = inl tt
each P d (x ∷ xs) = both (P x) (AllByRecursion P xs) (d x) (each P d xs)

-- ---- values

are_tested : (names ws : List (List ℕ)) → Either (AreOptionsOrPlain names ws)
are_tested names [] = inl tt
are_tested names (w ∷ ws) = go (is_true (is_option_or_plain names w)) (are_tested names ws) where
  go : Either (is_option_or_plain names w ≡ true) → Either (AreOptionsOrPlain names ws) → Either (AreOptionsOrPlain names (w ∷ ws))
  go (inl e) (inl h) = inl (test_to names w e, h)
  go (inl e) (inr h) = inr (λ k. h k.1)
  go (inr e) h = inr (λ k. e (test_from names w k.0))

values_or_none : (names : List (List ℕ)) → AreNames names → (ws : List (List ℕ)) → OneOrNone (GiveValues names ws)
values_or_none names good ws = go (are_tested names ws) (fault_of (options_app names) ws) refl where
  go : Either (AreOptionsOrPlain names ws) → (ks : Kinds) → fault_of (options_app names) ws ≡ ks → OneOrNone (GiveValues names ws)
  go (inl t) [] e = inl ((λ name. first_of name (matches_of (options_app names) ws)), taken_give_values names good ws t e)
  go (inl t) (k ∷ ks) e = inr (λ v g.
      let bad : k ∷ ks ≡ [] = sym e ∙ uses_are_taken names good ws g.uses g.are_uses (fresh_uses [] g.uses g.are_once) in absurd cc)
  go (inr t) ks e = inr (λ v g. t (uses_are_tested names ws g.uses g.are_uses))

-- ---- numbers

all_digits : (ds : List ℕ) → Either (AllDigits 10 ds)
all_digits [] = inl tt
all_digits (c ∷ cs) = both (digit_value c < 10) (AllDigits 10 cs) (is_below (digit_value c) 10) (all_digits cs)

number_or_none : (least most : ℕ) (text : List ℕ) → OneOrNone (IsNumberText least most text)
number_or_none least most text =
    let ds = without_leading_plus text in
    go (both (0 < length ds) (AllDigits 10 ds) (is_below 0 (length ds)) (all_digits ds)) (is_at_most least (digits_value 10 ds)) (is_at_most (digits_value 10 ds) most) where
      go : Either (IsNumeral 10 (without_leading_plus text)) → Either (least ≤ digits_value 10 (without_leading_plus text))
          → Either (digits_value 10 (without_leading_plus text) ≤ most) → OneOrNone (IsNumberText least most text)
      go (inl d) (inl l) (inl m) = inl (digits_value 10 (without_leading_plus text), record { digits = d; number = refl; at_least = l; at_most = m })
      go (inl d) (inl l) (inr m) = inr (λ n h. m (subst (λ k. k ≤ most) h.number h.at_most))
      go (inl d) (inr l) m = inr (λ n h. l (subst (λ k. least ≤ k) h.number h.at_least))
      go (inr d) l m = inr (λ n h. d h.digits)

option_number : (option : NumberOption) (text : Option (List ℕ)) → OneOrNone (IsOptionNumber option text)
option_number option None = inl (option.default, refl)
option_number option (Some text) = number_or_none option.least option.most text

-- ---- an order

with_number : (value : List ℕ → Option (List ℕ)) (option : NumberOption) → ((order : Order) → IsOrderOf value order → (n : ℕ) × IsOptionNumber option (value option.name) n)
    → ((n : ℕ) → IsOptionNumber option (value option.name) n → OneOrNone (IsOrderOf value)) → OneOrNone (IsOrderOf value)
with_number value option has next = go (option_number option (value option.name)) where
  go : OneOrNone (IsOptionNumber option (value option.name)) → OneOrNone (IsOrderOf value)
  go (inl p) = next p.0 p.1
  go (inr none) = inr (λ order h. let p = has order h in none p.0 p.1)

order_or_none : (value : List ℕ → Option (List ℕ)) → OneOrNone (IsOrderOf value)
order_or_none value =
    with_number value seed_option (λ o h. (o.seed, h.seed)) (λ a ha.
    with_number value runs_option (λ o h. (o.runs, h.runs)) (λ b hb.
    with_number value passages_option (λ o h. (o.passages, h.passages)) (λ c hc.
    with_number value jumps_option (λ o h. (o.jumps, h.jumps)) (λ d hd.
    with_number value workers_option (λ o h. (o.workers, h.workers)) (λ e he.
    with_number value table_option (λ o h. (o.table, h.table)) (λ f hf.
    with_number value entries_option (λ o h. (o.entries, h.entries)) (λ g hg.
    with_number value bin_option (λ o h. (o.bin, h.bin)) (λ i hi.
    with_number value bins_option (λ o h. (o.bins, h.bins)) (λ j hj.
    elim (is_at_most (b * c) 10000000) [
      | inl all ↦ inl (
        record { seed = a; runs = b; passages = c; jumps = d; workers = e; table = f; entries = g; bin = i; bins = j },
        record { seed = ha; runs = hb; passages = hc; jumps = hd; workers = he; table = hf; entries = hg; bin = hi; bins = hj; all_passages = all },
      )
      | inr more ↦ inr (λ o h.
          let runs = same_number runs_option (value runs_option.name) o.runs b h.runs hb in
          let passages = same_number passages_option (value passages_option.name) o.passages c h.passages hc in
          more (subst (λ n. b * n ≤ 10000000) passages (subst (λ n. n * o.passages ≤ 10000000) runs h.all_passages)))
    ])))))))))

made_or_none : (text : Option (List ℕ)) → OneOrNone (IsMadeOption text)
made_or_none None = inl (None, refl)
made_or_none (Some text) = go (number_or_none 1 100 text) where
  go : OneOrNone (IsNumberText 1 100 text) → OneOrNone (IsMadeOption (Some text))
  go (inl n) = inl (Some n.0, n.1)
  go (inr none) = inr no_size where
    no_size : (made : Option ℕ) → IsMadeOption (Some text) made → ⊥
    no_size None h = h
    no_size (Some n) h = none n h

-- an order and the size of a made model
abbrev IsRunPair : (List ℕ → Option (List ℕ)) → Order × Option ℕ → Type 0
IsRunPair value run = IsRunOf value run.0 run.1

run_or_none : (value : List ℕ → Option (List ℕ)) → OneOrNone (IsRunPair value)
run_or_none value = go (order_or_none value) (made_or_none (value (codes "made"))) where
  go : OneOrNone (IsOrderOf value) → OneOrNone (IsMadeOption (value (codes "made"))) → OneOrNone (IsRunPair value)
  go (inl order) (inl made) = inl ((order.0, made.0), (order.1, made.1))
  go (inl order) (inr none) = inr (λ run h. none run.1 h.1)
  go (inr none) made = inr (λ run h. none run.0 h.0)

-- ---- what is asked

is_action_name : (name : List ℕ) → Either (IsActionName name)
is_action_name name =
    go (is_true (begins is_letter name)) (is_true (list_all is_word_byte name)) (is_at_most (length name) 64) (is_false (begins is_capital name))
    (is_word name (codes "infty")) (is_word name (codes "tau")) where
      go : Either (begins is_letter name ≡ true) → Either (list_all is_word_byte name ≡ true) → Either (length name ≤ 64) → Either (begins is_capital name ≡ false)
          → Either (name ≡ codes "infty") → Either (name ≡ codes "tau") → Either (IsActionName name)
      go (inl a) (inl b) (inl c) (inl d) (inr e) (inr f) = inl (((a, b), c), d, e, f)
      go (inr a) b c d e f = inr (λ h. a h.0.0.0)
      go (inl a) (inr b) c d e f = inr (λ h. b h.0.0.1)
      go (inl a) (inl b) (inr c) d e f = inr (λ h. c h.0.1)
      go (inl a) (inl b) (inl c) (inr d) e f = inr (λ h. d h.1)
      go (inl a) (inl b) (inl c) (inl d) (inl e) f = inr (λ h. h.2 e)
      go (inl a) (inl b) (inl c) (inl d) (inr e) (inl f) = inr (λ h. h.3 f)

names_or_none : (text : List ℕ) → OneOrNone (AreEventNames text)
names_or_none text = go (each IsActionName is_action_name (slice_split (λ byte. byte == 44) text)) where
  go : Either (AllByRecursion IsActionName (slice_split (λ byte. byte == 44) text)) → OneOrNone (AreEventNames text)
  go (inl h) = inl (slice_split (λ byte. byte == 44) text, (refl, h))
  go (inr none) = inr (λ names h. none (subst (AllByRecursion IsActionName) h.0 h.1))

events_parts : (number events : List ℕ) (ask : ProbeAsk) → AreEventsIn number events ask
    → ((n : ℕ) × IsNumberText 1 16 number n) × ((names : List (List ℕ)) × AreEventNames events names)
events_parts number events All h = absurd h
events_parts number events (Events n names) h = ((n, h.0), (names, h.1))

ask_or_none : (number events : Option (List ℕ)) → OneOrNone (IsAskOfBoth number events)
ask_or_none None None = inl (All, refl)
ask_or_none None (Some events) = inr (λ ask h. h)
ask_or_none (Some number) None = inr (λ ask h. h)
ask_or_none (Some number) (Some events) = go (number_or_none 1 16 number) (names_or_none events) where
  go : OneOrNone (IsNumberText 1 16 number) → OneOrNone (AreEventNames events) → OneOrNone (IsAskOfBoth (Some number) (Some events))
  go (inl n) (inl names) = inl (Events n.0 names.0, (n.1, names.1))
  go (inl n) (inr none) = inr (λ ask h. let p = (events_parts number events ask h).1 in none p.0 p.1)
  go (inr none) names = inr (λ ask h. let p = (events_parts number events ask h).0 in none p.0 p.1)

-- ---- what the words after the first one give

given_or_none : {X : Type 0} (Is : (List ℕ → Option (List ℕ)) → X → Type 0) (names : List (List ℕ)) → AreNames names → (ws : List (List ℕ))
    → ((value : List ℕ → Option (List ℕ)) → OneOrNone (Is value))
    → OneOrNone (λ (x : X). (value : List ℕ → Option (List ℕ)) × GiveValues names ws value × Is value x)
given_or_none {X} Is names good ws outcome = go (values_or_none names good ws) where
  go : OneOrNone (GiveValues names ws) → OneOrNone (λ (x : X). (value : List ℕ → Option (List ℕ)) × GiveValues names ws value × Is value x)
  go (inr none) = inr (λ x k. none k.0 k.1)
  go (inl g) = elim (outcome g.0) [
    | inl p ↦ inl (p.0, (g.0, g.1, p.1))
    | inr none ↦ inr (λ x k. none x (subst (λ value. Is value x) (same_values names good ws k.0 g.0 k.1 g.1) k.2))
  ]

is_none : (ws : List (List ℕ)) → Either (ws ≡ [])
is_none [] = inl refl
is_none (w ∷ ws) = inr (λ e. absurd cc)

size_or_none : (ws : List (List ℕ)) → OneOrNone (GivesSize ws)
size_or_none [] = inr (λ n h. let bad = h.1 in absurd cc)
size_or_none (v ∷ w ∷ ws) = inr (λ n h. let bad = h.1 in absurd cc)
size_or_none (w ∷ []) = go (number_or_none 1 100 w) where
  go : OneOrNone (IsNumberText 1 100 w) → OneOrNone (GivesSize (w ∷ []))
  go (inl n) = inl (n.0, (w, refl, n.1))
  go (inr none) = inr (λ n h. none n (subst (λ text. IsNumberText 1 100 text n) (ap first_word (sym h.1)) h.2)) where
    first_word : List (List ℕ) → List ℕ
    first_word [] = []
    first_word (x ∷ xs) = x

no_steps : (first : List ℕ) (others : List (List ℕ)) → first ≡ codes "steps" → (others ≡ [] → ⊥) → (command : Command) → ¬ GivesCommand (first ∷ others) command
no_steps first others e none Steps h = none h.1
no_steps first others e none command h = apart first (codes "steps") (name_of command) refl e (first_is first others command h)

no_check : (first : List ℕ) (others : List (List ℕ)) → first ≡ codes "check" → (others ≡ [] → ⊥) → (command : Command) → ¬ GivesCommand (first ∷ others) command
no_check first others e none Check h = none h.1
no_check first others e none command h = apart first (codes "check") (name_of command) refl e (first_is first others command h)

no_print : (first : List ℕ) (others : List (List ℕ)) → first ≡ codes "print" → (others ≡ [] → ⊥) → (command : Command) → ¬ GivesCommand (first ∷ others) command
no_print first others e none Print h = none h.1
no_print first others e none command h = apart first (codes "print") (name_of command) refl e (first_is first others command h)

-- a command, where the first word is its name and the others give it or don't
with_others : {X : Type 0} (words : List (List ℕ)) (P : X → Type 0) (command : X → Command) → ((x : X) → P x → GivesCommand words (command x))
    → (((x : X) → P x → ⊥) → (c : Command) → ¬ GivesCommand words c) → OneOrNone P → HasCommandOrNone words
with_others words P command gives none (inl p) = inl (command p.0, gives p.0 p.1)
with_others words P command gives none (inr n) = inr (none n)

with_no_others : (words others : List (List ℕ)) (command : Command) → (others ≡ [] → GivesCommand words command)
    → ((others ≡ [] → ⊥) → (c : Command) → ¬ GivesCommand words c) → Either (others ≡ []) → HasCommandOrNone words
with_no_others words others command gives none (inl e) = inl (command, gives e)
with_no_others words others command gives none (inr n) = inr (none n)

pub command_or_none : (words : List (List ℕ)) → HasCommandOrNone words
command_or_none [] = inr (λ command h. h)
command_or_none (first ∷ others) =
    go (is_word first (codes "steps")) (is_word first (codes "check")) (is_word first (codes "print")) (is_word first (codes "probe")) (is_word first (codes "run"))
    (is_word first (codes "gen")) where
      go : Either (first ≡ codes "steps") → Either (first ≡ codes "check") → Either (first ≡ codes "print") → Either (first ≡ codes "probe") → Either (first ≡ codes "run")
          → Either (first ≡ codes "gen") → HasCommandOrNone (first ∷ others)
      go (inl e) b c d f g = with_no_others (first ∷ others) others Steps (λ h. (e, h)) (no_steps first others e) (is_none others)
      go (inr a) (inl e) c d f g = with_no_others (first ∷ others) others Check (λ h. (e, h)) (no_check first others e) (is_none others)
      go (inr a) (inr b) (inl e) d f g = with_no_others (first ∷ others) others Print (λ h. (e, h)) (no_print first others e) (is_none others)
      go (inr a) (inr b) (inr c) (inl e) f g =
          with_others (first ∷ others) (GivesAsk others) (λ ask. Probe ask) (λ ask h. (e, h)) (no_probe first others e)
          (given_or_none IsAskOf probe_names refl others (λ value. ask_or_none (value (codes "number")) (value (codes "events"))))
      go (inr a) (inr b) (inr c) (inr d) (inl e) g =
          with_others (first ∷ others) (λ (run : Order × Option ℕ). GivesRun others run.0 run.1) (λ run. Run run.0 run.1) (λ run h. (e, h))
          (λ none. no_run first others e (λ order made. none (order, made)))
          (given_or_none IsRunPair run_names refl others run_or_none)
      go (inr a) (inr b) (inr c) (inr d) (inr f) (inl e) =
          with_others (first ∷ others) (GivesSize others) (λ size. Gen size) (λ size h. (e, h)) (no_gen first others e) (size_or_none others)
      go (inr a) (inr b) (inr c) (inr d) (inr f) (inr g) = inr (λ command h. none command h) where
        none : (command : Command) → ¬ GivesCommand (first ∷ others) command
        none Steps h = a h.0
        none Check h = b h.0
        none Print h = c h.0
        none (Probe ask) h = d h.0
        none (Run order made) h = f h.0
        none (Gen size) h = g h.0
