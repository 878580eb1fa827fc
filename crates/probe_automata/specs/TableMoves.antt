-- What a table answers to an event, and to a list of events.
use Rattle.std.proofs.Common.{suc}
use Rattle.std.specs.Prelude.{◌≡◌, ◌==◌, ℕ, ◌+◌, ◌*◌, ◌^◌, ◌↔◌, Bool, true, false, if◌then◌else◌, List, [], ◌∷◌, map, length, slice_index, Option, Some, None}
use Rattle.probe_words.specs.declared.letter.Letter.{Letter}
use Rattle.probe_words.specs.declared.probe.ProbeTable.{ProbeTable}
use Rattle.probe_words.specs.Guards.{Condition, holds_for}
use Rattle.probe_words.specs.Twins.{condition_of}
use Rattle.probe_words.specs.Words.{Pattern}
use Rattle.probe_words.specs.Sets.{HasMember}
use Rattle.probe_words.specs.ProbeTables.{same_letter}
use Rattle.probe_words.specs.Hearing.{ProbeEvent, IsHeard, Hear, Out}
use Rattle.probe_automata.specs.declared.table_move.Move.{Move}

-- the place of the letter, where i is that of the first of these
abbrev pub letter_place : Letter → ℕ → List Letter → Option ℕ
letter_place a i [] = None
letter_place a i (b ∷ bs) = if same_letter b a then Some i else letter_place a (suc i) bs

-- the event is ignored
abbrev pub ignored_at : ℕ → Move
ignored_at q = record { state = q; signals = 0; heard = false }

-- the target, or 65,535: then the event is ignored
abbrev pub entered_from : ProbeTable → ℕ → ℕ → Move
entered_from t q target = if target == 65535 then ignored_at q else record { state = target; signals = slice_index t.signals target; heard = true }

-- the entry for a state, a letter's place and a valuation; a letter that the table lacks is ignored
abbrev pub move_for : ProbeTable → ℕ → ℕ → Option ℕ → Move
move_for t q v None = ignored_at q
move_for t q v (Some a) = entered_from t q (slice_index t.moves (q * (length t.letters * 2 ^ length t.guards) + (a * 2 ^ length t.guards + v)))

-- the table's answer at a state to a letter under a valuation
abbrev pub table_move : ProbeTable → ℕ → Letter → ℕ → Move
table_move t q letter v = move_for t q v (letter_place letter 0 t.letters)

abbrev pub truth_bit : Bool → ℕ
truth_bit true = 1
truth_bit false = 0

-- the valuation of these guards for these counts: bit j is the truth of guard j
abbrev pub valuation_of : List ℕ → List Condition → ℕ
valuation_of counts [] = 0
valuation_of counts (g ∷ gs) = truth_bit (holds_for counts g) + 2 * valuation_of counts gs

-- the answer to an event at a state
abbrev pub event_move : ProbeTable → ℕ → ProbeEvent → Move
event_move t q e = table_move t q e.letter (valuation_of e.counts (map condition_of t.guards))

-- the answers to a list of events, each at the state after the one before it
abbrev pub table_moves : ProbeTable → ℕ → List ProbeEvent → List Move
table_moves t q [] = []
table_moves t q (e ∷ es) = event_move t q e ∷ table_moves t (event_move t q e).state es

-- after the events heard the answer says whether the event is heard, and which labels are sent
abbrev pub IsEventAnswer : Pattern → List ProbeEvent → ProbeEvent → Move → Type 0
IsEventAnswer p h e m = ((m.heard ≡ true) ↔ IsHeard p h e) × ((l : ℕ) → HasMember m.signals l ↔ Out p h e l)

-- after the events heard these are the answers to the events, one after another, as hearing says without states
abbrev pub AnswerAsHeard : Pattern → List ProbeEvent → List ProbeEvent → List Move → Type 0
AnswerAsHeard p h [] [] = Unit {0}
AnswerAsHeard p h (e ∷ es) (m ∷ ms) = IsEventAnswer p h e m × ((next : List ProbeEvent) × Hear p h e next × AnswerAsHeard p next es ms)
AnswerAsHeard p h [] (m ∷ ms) = ⊥
AnswerAsHeard p h (e ∷ es) [] = ⊥
