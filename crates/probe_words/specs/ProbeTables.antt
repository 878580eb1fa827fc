-- The table of some positions.
use Rattle.std.proofs.Common.{zero, suc}
use Rattle.std.specs.Prelude.{◌≡◌, ◌==◌, ℕ, ◌+◌, ◌*◌, ◌^◌, ◌≤◌, ◌<◌, ◌↔◌, ◌⊎◌, ◌||◌, Bool, false, if◌then◌else◌, List, [], ◌∷◌, ◌++◌, map, nat_eq, length, flat_map, slice_get, slice_index, Some}
use Rattle.probe_words.specs.declared.letter.Letter.{Letter}
use Rattle.probe_words.specs.declared.letter.Letter.TheVariants.{Action, Signal}
use Rattle.probe_words.specs.declared.position_list.Position.{Position}
use Rattle.probe_words.specs.declared.position_list.Positions.{Positions}
use Rattle.probe_words.specs.declared.probe.ProbeTable.{ProbeTable}
use Rattle.probe_words.specs.declared.probe.Probe.{Probe}
use Rattle.probe_words.specs.Guards.{Condition, same_condition}
use Rattle.probe_words.specs.MarkedLetters.{IsAmong}
use Rattle.probe_words.specs.Twins.{condition_of, pattern_of}
use Rattle.probe_words.specs.Sets.{HasMember}

-- ---- letters and guards of a table

abbrev pub same_letter : Letter → Letter → Bool
same_letter (Action a) (Action b) = a == b
same_letter (Signal a) (Signal b) = a == b
same_letter _ _ = false

-- x is the same as one of these
abbrev pub is_among_by : {X : Type 0} → (X → X → Bool) → X → List X → Bool
is_among_by same x [] = false
is_among_by same x (y ∷ ys) = same x y || is_among_by same x ys

-- the elements so far, with one more at the end where it is new
abbrev pub with_new_by : {X : Type 0} → (X → X → Bool) → List X → X → List X
with_new_by same xs x = if is_among_by same x xs then xs else xs ++ x ∷ []

-- the elements so far, and then each new one of these once, in the order of their first places
abbrev pub by_first_places : {X : Type 0} → (X → X → Bool) → List X → List X → List X
by_first_places same done [] = done
by_first_places same done (x ∷ xs) = by_first_places same (with_new_by same done x) xs

-- the distinct letters, in the order of the positions
abbrev pub table_letters : Positions → List Letter
table_letters p = by_first_places same_letter [] (map (λ x. x.letter) p.each)

-- the distinct guards, position by position
abbrev pub table_guards : Positions → List Condition
table_guards p = by_first_places same_condition [] (flat_map (λ x. map condition_of x.guards) p.each)

-- ---- sets of positions that are reached. The empty set is that of the start: no other state's is empty

-- y is first, from the start; else y follows a member of the set, or is first where a member is last
abbrev pub CanFollow : Positions → ℕ → ℕ → Type 0
CanFollow p set y = ((set ≡ 0) × HasMember p.first y)
    ⊎ ((x : ℕ) × HasMember set x × (HasMember (slice_index p.follow x) y ⊎ (HasMember p.last x × HasMember p.first y)))

-- the valuation says that this guard holds: its bit for the guard's number is 1
abbrev pub SaysHolds : List Condition → ℕ → Condition → Type 0
SaysHolds guards v g = (j : ℕ) × (slice_get guards j ≡ Some g) × HasMember v j

-- position y has the letter, and its guards hold by the valuation
abbrev pub IsOpenAt : Positions → Letter → ℕ → ℕ → Type 0
IsOpenAt p letter v y = (x : Position) × (slice_get p.each y ≡ Some x) × (x.letter ≡ letter)
    × ((g : Condition) → IsAmong g (map condition_of x.guards) → SaysHolds (table_guards p) v g)

-- from the set the letter and the valuation lead to this set
abbrev pub LeadsToSet : Positions → ℕ → Letter → ℕ → ℕ → Type 0
LeadsToSet p set letter v next = (y : ℕ) → HasMember next y ↔ (CanFollow p set y × IsOpenAt p letter v y)

-- the set is the start's, or reached from it
pub data IsReachedSet (p : Positions) : ℕ → Type 0 where
  at_start : IsReachedSet p 0
  led_to : {set next v : ℕ} {letter : Letter} → IsReachedSet p set → IsAmong letter (table_letters p) → v < 2 ^ length (table_guards p) → LeadsToSet p set letter v next → IsReachedSet p next

-- how many sets a set leads to: one for each letter and each valuation
abbrev pub leads_each : Positions → ℕ
leads_each p = length (table_letters p) * 2 ^ length (table_guards p)

-- the sets to which these sets lead, for each through the letters in order, and for each of these through the valuations from 0 up
pub record AreLeads (p : Positions) (sets leads : List ℕ) : Type 0 where
  pub leads_count : length leads ≡ length sets * leads_each p
  pub each_lead : (q a v : ℕ) (letter : Letter) → q < length sets → slice_get (table_letters p) a ≡ Some letter → v < 2 ^ length (table_guards p)
      → LeadsToSet p (slice_index sets q) letter v (slice_index leads (q * leads_each p + (a * 2 ^ length (table_guards p) + v)))

-- the place of the set among these
abbrev pub place_among : ℕ → List ℕ → ℕ
place_among x [] = 0
place_among x (y ∷ ys) = if x == y then 0 else suc (place_among x ys)

-- the number of the set as a state, or 65,535 for the empty set: the event is ignored
abbrev pub state_number_of : List ℕ → ℕ → ℕ
state_number_of sets zero = 65535
state_number_of sets (suc n) = place_among (suc n) sets

-- ---- tables

-- the table of these positions: `sets` are the sets of its states, which are numbered as they are first reached
pub record IsTableWith (p : Positions) (t : ProbeTable) (sets leads : List ℕ) : Type 0 where
  pub letters_are : t.letters ≡ table_letters p
  pub guards_are : map condition_of t.guards ≡ table_guards p
  pub few_guards : length (table_guards p) ≤ 4
  pub states_are : t.states ≡ length sets
  pub few_states : length sets ≤ 1024
  pub leads_are : AreLeads p sets leads
  pub sets_are : sets ≡ by_first_places nat_eq (0 ∷ []) leads
  pub sets_reached : (set : ℕ) → IsAmong set sets → IsReachedSet p set
  pub moves_are : t.moves ≡ map (λ lead. state_number_of sets lead) leads
  pub signals_are : (q l : ℕ) → q < length sets → HasMember (slice_index t.signals q) l
      ↔ ((y : ℕ) × (x : Position) × HasMember (slice_index sets q) y × (slice_get p.each y ≡ Some x) × HasMember x.labels l)

-- the table of these positions
abbrev pub IsProbeTableOf : Positions → ProbeTable → Type 0
IsProbeTableOf p t = (sets leads : List ℕ) × IsTableWith p t sets leads

-- no two are equal
abbrev pub AreAllDistinct : List ℕ → Type 0
AreAllDistinct [] = Unit {0}
AreAllDistinct (x ∷ xs) = (IsAmong x xs → ⊥) × AreAllDistinct xs

-- more than 1,024 sets are reached, the start among them
abbrev pub ReachesTooMany : Positions → Type 0
ReachesTooMany p = (sets : List ℕ) × (1024 < length sets) × AreAllDistinct sets × ((set : ℕ) → IsAmong set sets → IsReachedSet p set)

-- two tables are the same, part by part
pub record SameTable (a b : ProbeTable) : Type 0 where
  pub same_states : a.states ≡ b.states
  pub same_letters : a.letters ≡ b.letters
  pub same_guards : map condition_of a.guards ≡ map condition_of b.guards
  pub same_moves : a.moves ≡ b.moves
  pub same_signals : a.signals ≡ b.signals

-- two probes are the same, part by part
pub record SameProbe (a b : Probe) : Type 0 where
  pub same_target : a.target ≡ b.target
  pub same_copy : a.copy ≡ b.copy
  pub same_expression : pattern_of a.expr ≡ pattern_of b.expr
  pub same_counted : a.counted ≡ b.counted
  pub same_table : SameTable a.table b.table
