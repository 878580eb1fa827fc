-- The table of an expression, what it makes of one transition, and the state to which it leads by the events heard.
use Rattle.std.specs.Prelude.{◌≡◌, ℕ, bit_or, List, [], ◌∷◌}
use Rattle.probe_words.specs.declared.letter.Letter.{Letter}
use Rattle.probe_words.specs.declared.position_list.Positions.{Positions}
use Rattle.probe_words.specs.declared.probe.ProbeTable.{ProbeTable}
use Rattle.probe_words.specs.WordKinds.{WordPrefix}
use Rattle.probe_words.specs.Words.{Pattern, IsProperPattern}
use Rattle.probe_words.specs.CoreForm.{core_of}
use Rattle.probe_words.specs.PositionsOf.{ArePositions}
use Rattle.probe_words.specs.ProbeTables.{IsProbeTableOf}
use Rattle.probe_words.specs.Hearing.{ProbeEvent, FitsWordKind, Hear}
use Rattle.probe_automata.specs.TableMoves.{table_move, event_move, IsEventAnswer}
use Rattle.probe_hearing.specs.declared.hearing.Heard.{Heard}
use Rattle.probe_hearing.specs.Watching.{letters_of}

-- ---- words and tables

-- the table is that of the expression's positions
abbrev pub IsTableOfExpression : Pattern → ProbeTable → Type 0
IsTableOfExpression p t = IsProperPattern p × ((ps : Positions) × ArePositions (core_of p) ps × IsProbeTableOf ps t)

-- the events can be those that the probe has heard: they fit a prefix of a word of the repeated expression, so each was heard in its turn
abbrev pub HasHeard : Pattern → List ProbeEvent → Type 0
HasHeard p h = FitsWordKind p WordPrefix h

-- the state to which the table leads from q by these events
abbrev pub state_by : ProbeTable → ℕ → List ProbeEvent → ℕ
state_by t q [] = q
state_by t q (e ∷ es) = state_by t (event_move t q e).state es

-- the probe has heard these events, and by them the table leads from its start to the state
abbrev pub TableLeadsTo : Pattern → ProbeTable → List ProbeEvent → ℕ → Type 0
TableLeadsTo p t h q = HasHeard p h × (state_by t 0 h ≡ q)

-- the table's answer at the state q to the event is right after the events h, and leads by the events then heard
abbrev pub AnswersAfter : Pattern → ProbeTable → List ProbeEvent → ℕ → ProbeEvent → Type 0
AnswersAfter p t h q e = IsEventAnswer p h e (event_move t q e)
    × ((next : List ProbeEvent) × Hear p h e next × TableLeadsTo p t next (event_move t q e).state)

-- ---- what the table makes of one transition, by numbers alone

-- after one letter more: the state of the table's answer, and its signals added
abbrev pub heard_letter : ProbeTable → ℕ → Heard → Letter → Heard
heard_letter t v before letter =
    record { state = (table_move t before.state letter v).state; signals = bit_or before.signals (table_move t before.state letter v).signals }

-- after these letters, one after another
abbrev pub heard_letters : ProbeTable → ℕ → Heard → List Letter → Heard
heard_letters t v before [] = before
heard_letters t v before (letter ∷ letters) = heard_letters t v (heard_letter t v before letter) letters

-- what the table makes at the state q of a transition with this action and these signals, under this valuation of its guards
abbrev pub heard_by : ProbeTable → ℕ → ℕ → ℕ → ℕ → Heard
heard_by t q v action signals = heard_letters t v (record { state = q; signals = signals }) (letters_of action signals)
