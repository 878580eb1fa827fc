-- What follows from the values that words give.
use Rattle.std.proofs.Common.{◌≡◌, ℕ, List, ◌∷◌, Option, None, Some, Result, Ok, Err, true, false, sym, ap, ◌∙◌, subst, refl, codes}
use Rattle.std.proofs.Math.Path.{fun_ext}
use Rattle.std.specs.Prelude.{MatchResult}
use Rattle.sim_replication.specs.declared.order.Order.{Order}
use Rattle.sim_report.specs.declared.probe_ask.ProbeAsk.{ProbeAsk}
use Rattle.call_words.specs.declared.command.Command.{Command}
use Rattle.call_words.specs.declared.command.Command.TheVariants.{Steps, Check, Print, Probe, Run, Gen}
use Rattle.call_words.specs.declared.command.WordsFault.{WordsFault}
use Rattle.call_words.specs.declared.command.WordsFault.TheVariants.{Usage, Memory}
use Rattle.call_words.specs.OptionUses.{GiveValues}
use Rattle.call_words.specs.OptionTable.{run_names, probe_names, IsNumberText, IsMadeOption}
use Rattle.call_words.specs.CommandWords.{IsAskOf, IsRunOf, GivesAsk, GivesRun, GivesSize, GivesCommand, AnswersWords}
use Rattle.call_words.proofs.OptionRules.{same_text}
use Rattle.call_words.proofs.UsesTaken.{AreNames, values_are}
use Rattle.std.specs.Str.{bytes_eq}

-- words give each name at most one value
pub same_values : (names : List (List ℕ)) → AreNames names → (words : List (List ℕ)) (v w : List ℕ → Option (List ℕ))
    → GiveValues names words v → GiveValues names words w → v ≡ w
same_values names good words v w g h = fun_ext (λ name.
    g.values name ∙ sym (values_are names good words g.uses g.are_uses g.are_once name)
    ∙ values_are names good words h.uses h.are_uses h.are_once name ∙ sym (h.values name))

pub no_ask : (names : List (List ℕ)) → names ≡ probe_names → (words : List (List ℕ)) → ((v : List ℕ → Option (List ℕ)) → ¬ GiveValues names words v)
    → (ask : ProbeAsk) → ¬ GivesAsk words ask
no_ask names e words none ask h = none h.0 (subst (λ ns. GiveValues ns words h.0) (sym e) h.1)

pub ask_answers : (names : List (List ℕ)) → names ≡ probe_names → (words : List (List ℕ)) (v : List ℕ → Option (List ℕ)) → GiveValues names words v
    → (r : Result ProbeAsk WordsFault) → MatchResult r (IsAskOf v) (λ fault. fault ≡ Usage → (ask : ProbeAsk) → ¬ IsAskOf v ask)
    → MatchResult r (GivesAsk words) (λ fault. fault ≡ Usage → (ask : ProbeAsk) → ¬ GivesAsk words ask)
ask_answers names e words v g (Ok ask) h = (v, subst (λ ns. GiveValues ns words v) e g, h)
ask_answers names e words v g (Err fault) h = λ u ask k.
    h u ask (subst (λ w. IsAskOf w ask) (same_values probe_names refl words k.0 v k.1 (subst (λ ns. GiveValues ns words v) e g)) k.2)

pub no_options : (names : List (List ℕ)) → names ≡ run_names → (words : List (List ℕ)) → ((v : List ℕ → Option (List ℕ)) → ¬ GiveValues names words v)
    → (order : Order) (made : Option ℕ) → ¬ GivesRun words order made
no_options names e words none order made h = none h.0 (subst (λ ns. GiveValues ns words h.0) (sym e) h.1)

pub no_order : (names : List (List ℕ)) → names ≡ run_names → (words : List (List ℕ)) (v : List ℕ → Option (List ℕ)) → GiveValues names words v
    → ((order : Order) (made : Option ℕ) → ¬ IsRunOf v order made) → (order : Order) (made : Option ℕ) → ¬ GivesRun words order made
no_order names e words v g h order made k =
    h order made (subst (λ w. IsRunOf w order made) (same_values run_names refl words k.0 v k.1 (subst (λ ns. GiveValues ns words v) e g)) k.2)

pub no_size : (text : List ℕ) (value : Option (List ℕ)) → Some text ≡ value → ((n : ℕ) → ¬ IsNumberText 1 100 text n) → (made : Option ℕ) → ¬ IsMadeOption value made
no_size text value e none made h = go made (subst (λ given. IsMadeOption given made) (sym e) h) where
  go : (size : Option ℕ) → IsMadeOption (Some text) size → ⊥
  go None k = k
  go (Some n) k = none n k

-- ---- the first word

pub apart : (word : List ℕ) (a b : List ℕ) → bytes_eq a b ≡ false → word ≡ a → word ≡ b → ⊥
apart word a b e h k = let bad : true ≡ false = sym (same_text a) ∙ ap (bytes_eq a) (sym h ∙ k) ∙ e in absurd cc

abbrev pub name_of : Command → List ℕ
name_of Steps = codes "steps"
name_of Check = codes "check"
name_of Print = codes "print"
name_of (Probe ask) = codes "probe"
name_of (Run order made) = codes "run"
name_of (Gen size) = codes "gen"

pub first_is : (first : List ℕ) (others : List (List ℕ)) (command : Command) → GivesCommand (first ∷ others) command → first ≡ name_of command
first_is first others Steps h = h.0
first_is first others Check h = h.0
first_is first others Print h = h.0
first_is first others (Probe ask) h = h.0
first_is first others (Run order made) h = h.0
first_is first others (Gen size) h = h.0

pub refused_words : (words : List (List ℕ)) (first : List ℕ) (others : List (List ℕ)) (fault : WordsFault) → words ≡ first ∷ others
    → (fault ≡ Usage → (command : Command) → ¬ GivesCommand (first ∷ others) command) → AnswersWords words (Err fault)
refused_words words first others Usage e h = λ command. subst (λ ws. ¬ GivesCommand ws command) (sym e) (h refl command)
refused_words words first others Memory e h = tt

pub no_probe : (first : List ℕ) (others : List (List ℕ)) → first ≡ codes "probe" → ((ask : ProbeAsk) → ¬ GivesAsk others ask)
    → (command : Command) → ¬ GivesCommand (first ∷ others) command
no_probe first others e none (Probe ask) h = none ask h.1
no_probe first others e none command h = apart first (codes "probe") (name_of command) refl e (first_is first others command h)

pub no_gen : (first : List ℕ) (others : List (List ℕ)) → first ≡ codes "gen" → ((size : ℕ) → ¬ GivesSize others size)
    → (command : Command) → ¬ GivesCommand (first ∷ others) command
no_gen first others e none (Gen size) h = none size h.1
no_gen first others e none command h = apart first (codes "gen") (name_of command) refl e (first_is first others command h)

pub no_run : (first : List ℕ) (others : List (List ℕ)) → first ≡ codes "run" → ((order : Order) (made : Option ℕ) → ¬ GivesRun others order made)
    → (command : Command) → ¬ GivesCommand (first ∷ others) command
no_run first others e none (Run order made) h = none order made h.1
no_run first others e none command h = apart first (codes "run") (name_of command) refl e (first_is first others command h)
