-- What the machine refuses where a process begins, and behind one.
use Rattle.std.proofs.Common.{◌≡◌, List, [], ◌∷◌, refl, Option, Some, None}
use Rattle.pepa_lexer.specs.declared.kinds.Sign.TheVariants.{Equals, Semicolon, Opening, Closing, Comma, Dot, Plus, Slash, Less, Or, OpeningBrace}
use Rattle.token_grammar.specs.declared.terminal.Terminal.{Terminal}
use Rattle.token_grammar.specs.declared.terminal.Terminal.TheVariants.{Small, Probe, Tau, Capital, Mark, End}
use Rattle.token_grammar.specs.SmallNames.{Plain, Probing}
use Rattle.pepa_reader.specs.Grammar.{Word, Named, Internal, word_spelled, Rate, Process, OneChoice, Cooperating, OneHidden, Chosen, Hidden, OnePrefix, Constant}
use Rattle.pepa_reader.specs.Machine.{Pending, ChosenSoFar, Joining, Outer, InLine, InSystem, InBrackets, Want, After, WantComma, WantDot, WantBrace, IsUndone, step, whole_process, starts, names_line, closes, behind_process}
use Rattle.token_grammar.specs.Cursors.{Begins}
use Rattle.pepa_reader.specs.Reading.{CannotGoOn, AdmitsPrefix, EndsProcess}

-- ---- where a process begins

-- no word stands where the start of an item or of an activity may
no_start : (pending : List Pending) (chosen : ChosenSoFar) (joining : Option Joining) (outer : Outer) (word : Word) (more : List Terminal) → AdmitsPrefix pending chosen joining outer (word_spelled word ∷ more) → starts pending chosen joining outer word ≡ None
no_start [] None None InSystem (Named Plain) more admits = absurd (admits.0 refl)
no_start [] None None InSystem (Named Probing) more admits = absurd (admits.1 refl)
no_start [] None None (InBrackets pending chosen joining outer) (Named Plain) more admits = absurd (admits.0 refl)
no_start [] None None (InBrackets pending chosen joining outer) (Named Probing) more admits = absurd (admits.1 refl)
no_start [] None None (InBrackets pending chosen joining outer) Internal more admits = absurd (admits.2 refl)
no_start _ _ _ _ _ more admits = refl

-- where neither a constant nor a bracket stands, no prefix can follow
pub refuses_prefix : (pending : List Pending) (chosen : ChosenSoFar) (joining : Option Joining) (outer : Outer) (rest : List Terminal) → ¬ Begins rest Capital → ¬ Begins rest (Mark Opening) → AdmitsPrefix pending chosen joining outer rest → CannotGoOn (Want pending chosen joining outer) rest
unfolding step
refuses_prefix pending chosen joining outer [] capital opening admits = tt
refuses_prefix pending chosen joining outer (Capital ∷ more) capital opening admits = absurd (capital refl)
refuses_prefix pending chosen joining outer (Mark Opening ∷ more) capital opening admits = absurd (opening refl)
refuses_prefix pending chosen joining outer (Small ∷ more) capital opening admits = no_start pending chosen joining outer (Named Plain) more admits
refuses_prefix pending chosen joining outer (Probe ∷ more) capital opening admits = no_start pending chosen joining outer (Named Probing) more admits
refuses_prefix pending chosen joining outer (Tau ∷ more) capital opening admits = no_start pending chosen joining outer Internal more admits
refuses_prefix pending chosen joining outer (_ ∷ more) capital opening admits = refl

-- ---- in a prefix, and before a set

-- each of these waits for one sign, which doesn't stand there
pub refuses_comma : (word : Word) (pending : List Pending) (chosen : ChosenSoFar) (joining : Option Joining) (outer : Outer) (rest : List Terminal) → ¬ Begins rest (Mark Comma) → CannotGoOn (WantComma word pending chosen joining outer) rest
unfolding step
refuses_comma word pending chosen joining outer [] comma = tt
refuses_comma word pending chosen joining outer (Mark Comma ∷ more) comma = absurd (comma refl)
refuses_comma word pending chosen joining outer (_ ∷ more) comma = refl

pub refuses_dot : (word : Word) (rate : Rate) (pending : List Pending) (chosen : ChosenSoFar) (joining : Option Joining) (outer : Outer) (rest : List Terminal) → ¬ Begins rest (Mark Dot) → CannotGoOn (WantDot word rate pending chosen joining outer) rest
unfolding step
refuses_dot word rate pending chosen joining outer [] dot = tt
refuses_dot word rate pending chosen joining outer (Mark Dot ∷ more) dot = absurd (dot refl)
refuses_dot word rate pending chosen joining outer (_ ∷ more) dot = refl

pub refuses_brace : (hidden : Hidden) (chosen : ChosenSoFar) (joining : Option Joining) (outer : Outer) (rest : List Terminal) → ¬ Begins rest (Mark OpeningBrace) → CannotGoOn (WantBrace hidden chosen joining outer) rest
unfolding step
refuses_brace hidden chosen joining outer [] brace = tt
refuses_brace hidden chosen joining outer (Mark OpeningBrace ∷ more) brace = absurd (brace refl)
refuses_brace hidden chosen joining outer (_ ∷ more) brace = refl

-- ---- behind a process

-- a process that is one constant isn't the name of a line
abbrev pub NoName : Process → List Terminal → Type 0
NoName (OneChoice (OneHidden (OnePrefix Constant))) rest = ¬ Begins rest (Mark Equals)
NoName _ rest = Unit {0}

-- what stands there doesn't close the process
abbrev pub StaysOpen : Process → Outer → List Terminal → Type 0
StaysOpen process InLine rest = ¬ Begins rest (Mark Semicolon)
StaysOpen process InSystem rest = (¬ Begins rest (Mark Semicolon)) × (¬ Begins rest End) × NoName process rest
StaysOpen process (InBrackets pending chosen joining outer) rest = ¬ Begins rest (Mark Closing)

-- a `=` makes nothing but the first constant of an item the name of a line
no_line : (hidden : Hidden) (chosen : ChosenSoFar) (joining : Option Joining) (outer : Outer) (more : List Terminal) → StaysOpen (whole_process joining chosen hidden) outer (Mark Equals ∷ more) → names_line hidden chosen joining outer ≡ None
no_line (OnePrefix Constant) None None InSystem more stays = absurd (stays.2 refl)
no_line _ _ _ _ more stays = refl

-- only `;`, `)` and the end close a process
stays_open : (process : Process) (outer : Outer) (terminal : Terminal) (more : List Terminal) → StaysOpen process outer (terminal ∷ more) → closes process outer terminal ≡ None
stays_open process InLine (Mark Semicolon) more stays = absurd (stays refl)
stays_open process InLine _ more stays = refl
stays_open process InSystem (Mark Semicolon) more stays = absurd (stays.0 refl)
stays_open process InSystem End more stays = absurd (stays.1 refl)
stays_open process InSystem _ more stays = refl
stays_open process (InBrackets pending chosen joining outer) (Mark Closing) more stays = absurd (stays refl)
stays_open process (InBrackets pending chosen joining outer) _ more stays = refl

-- behind a part of a process stands nothing that goes on with it, nor closes it
refuses_after : (hidden : Hidden) (chosen : ChosenSoFar) (joining : Option Joining) (outer : Outer) (rest : List Terminal) → EndsProcess rest → StaysOpen (whole_process joining chosen hidden) outer rest → CannotGoOn (After hidden chosen joining outer) rest
unfolding step
refuses_after hidden chosen joining outer [] ends stays = tt
refuses_after hidden chosen joining outer (Mark Slash ∷ more) ends stays = absurd (ends.0.0 refl)
refuses_after hidden chosen joining outer (Mark Plus ∷ more) ends stays = absurd (ends.0.1 refl)
refuses_after hidden chosen joining outer (Mark Or ∷ more) ends stays = absurd (ends.1.0 refl)
refuses_after hidden chosen joining outer (Mark Less ∷ more) ends stays = absurd (ends.1.1 refl)
refuses_after hidden chosen joining outer (Mark Equals ∷ more) ends stays = no_line hidden chosen joining outer more stays
refuses_after hidden chosen joining outer (terminal ∷ more) ends stays = stays_open (whole_process joining chosen hidden) outer terminal more stays

-- the same behind a whole process
pub refuses_behind_process : (process : Process) (outer : Outer) (rest : List Terminal) → EndsProcess rest → StaysOpen process outer rest → CannotGoOn (behind_process process outer) rest
refuses_behind_process (OneChoice (OneHidden hidden)) outer rest ends stays = refuses_after hidden None None outer rest ends stays
refuses_behind_process (OneChoice (Chosen choice hidden)) outer rest ends stays = refuses_after hidden (Some choice) None outer rest ends stays
refuses_behind_process (Cooperating process coop (OneHidden hidden)) outer rest ends stays = refuses_after hidden None (Some (record { process = process; coop = coop })) outer rest ends stays
refuses_behind_process (Cooperating process coop (Chosen choice hidden)) outer rest ends stays = refuses_after hidden (Some choice) (Some (record { process = process; coop = coop })) outer rest ends stays

pub undone_behind_process : (process : Process) (outer : Outer) → IsUndone (behind_process process outer)
undone_behind_process (OneChoice (OneHidden hidden)) outer = tt
undone_behind_process (OneChoice (Chosen choice hidden)) outer = tt
undone_behind_process (Cooperating process coop (OneHidden hidden)) outer = tt
undone_behind_process (Cooperating process coop (Chosen choice hidden)) outer = tt
