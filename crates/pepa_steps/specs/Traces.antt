-- What the buffers hold of a term.
use Rattle.std.specs.Prelude.{◌≡◌, ℕ, ◌+◌, ◌-◌, ◌≤◌, ◌⊎◌, Some, List, [], ◌∷◌, ◌++◌, map, length, slice_get, slice_index_or, Result, Ok, Err}
use Rattle.std.specs.List.{AllByRecursion}
use Rattle.pepa_rates.specs.declared.rate.Rate.{Rate}
use Rattle.pepa_rates.specs.declared.rate.RateFault.{RateFault}
use Rattle.pepa_model.specs.Apparent.{Apparent}
use Rattle.pepa_model.specs.PepaModel.{PepaModel}
use Rattle.pepa_model.specs.Terms.{TermNode, LeafNode, CoopNode, HideNode, IsNodeOf, term_of}
use Rattle.pepa_model.specs.declared.term.Term.{Term}
use Rattle.pepa_model.specs.declared.term.Activity.{Activity}
use Rattle.pepa_model.specs.Verdict.{IsFirstFault, IsLeastFault}
use Rattle.pepa_steps.specs.Moves.{Move, move, carry, under_hiding}
use Rattle.pepa_steps.specs.States.{State, NodeStandsFor}
use Rattle.pepa_steps.specs.OpenStates.{OpenState, OpensState, parts_in}
use Rattle.pepa_steps.specs.StateVerdict.{PartFault, OfRates, IsFinePart, HasPartFault}
use Rattle.pepa_steps.specs.StepsAnswers.{fault_name}
use Rattle.pepa_steps.specs.ActionRates.{rate_in, AllFine}
use Rattle.pepa_steps.specs.StateRates.{rates_of_cooperation, rates_of_hiding}
use Rattle.pepa_steps.specs.Combined.{entry_of, target_of, combined, AreRatedBy, AreInRangeBy, AreMovesInRange, HasListFault}
use Rattle.pepa_steps.specs.Hidings.{hidden_entry}
use Rattle.pepa_steps.specs.KeptRates.{AreKeptRates}
use Rattle.pepa_steps.specs.PartAnswers.{StepNode, IsPartOf, HasFaultOf}
use Rattle.pepa_steps.specs.declared.entries.Entry.{Entry}
use Rattle.pepa_steps.specs.declared.entries.Origin.{Origin}
use Rattle.pepa_steps.specs.declared.entries.Origin.TheVariants.{Left, Right, Both}
use Rattle.pepa_steps.specs.declared.buffers.Mark.{Mark}
use Rattle.pepa_steps.specs.declared.buffers.Mark.TheVariants as mark
use Rattle.pepa_steps.specs.declared.buffers.Buffers.{Buffers}
use Rattle.pepa_steps.specs.declared.loading.Found.{Found}
use Rattle.pepa_steps.specs.declared.transitions.StepsEnd.{StepsEnd}
use Rattle.pepa_steps.specs.declared.transitions.StepsEnd.TheVariants.{Fault, Memory}

-- the entries of the list
abbrev pub entries_in : Buffers → List Entry
entries_in buffers = buffers.entries.items

-- what is kept of leaves is the model's
abbrev pub AreFor : PepaModel → Buffers → Type 0
AreFor m buffers = AreKeptRates m buffers.kept.entries

-- ---- where the steps of a term come from

-- what an activity of a leaf does
abbrev pub activity_node : Activity → StepNode
activity_node a = move a.action 0 a.rate (LeafNode a.target)

-- what an origin says of the target of a cooperation's step, where these are the steps of its sides
abbrev pub IsTargetOf : TermNode → TermNode → ℕ → List StepNode → List StepNode → Origin → TermNode → Type 0
IsTargetOf x y set us vs (Left i) z = (u : StepNode) × (slice_get us i ≡ Some u) × (z ≡ CoopNode u.target y set)
IsTargetOf x y set us vs (Right j) z = (v : StepNode) × (slice_get vs j ≡ Some v) × (z ≡ CoopNode x v.target set)
IsTargetOf x y set us vs (Both i j) z = (u : StepNode) × (v : StepNode) × (slice_get us i ≡ Some u) × (slice_get vs j ≡ Some v) × (z ≡ CoopNode u.target v.target set)

-- the origins from this place on say this of these steps, one by one
abbrev pub OriginsTell : List Origin → ℕ → TermNode → TermNode → ℕ → List StepNode → List StepNode → List StepNode → Type 0
OriginsTell origins start x y set us vs ws =
    (i : ℕ) (w : StepNode) → slice_get ws i ≡ Some w → (o : Origin) × (slice_get origins (start + i) ≡ Some o) × IsTargetOf x y set us vs o w.target

-- the steps of a cooperation over no types: those of the left side, and after them those of the right side
abbrev pub steps_side_by_side : TermNode → TermNode → ℕ → List StepNode → List StepNode → List StepNode
steps_side_by_side x y set us vs = map (carry (λ a. CoopNode a y set)) us ++ map (carry (λ b. CoopNode x b set)) vs

-- from the mark at this place each step of the term can be traced to the activities of its leaves
abbrev pub Traces : PepaModel → List Mark → List Origin → TermNode → ℕ → List StepNode → Type 0
Traces m marks origins (LeafNode n) at ws = ws ≡ map activity_node (slice_index_or m.activities n [])
Traces m marks origins (CoopNode x y set) at ws =
    (l : ℕ) × (r : ℕ) × (n : ℕ) × (us : List StepNode) × (vs : List StepNode) × Traces m marks origins x l us × Traces m marks origins y r vs
    × (((slice_get marks at ≡ Some (mark.Beside l r n)) × (n ≡ length us) × (ws ≡ steps_side_by_side x y set us vs))
    ⊎ ((slice_get marks at ≡ Some (mark.Joined l r n)) × OriginsTell origins n x y set us vs ws))
Traces m marks origins (HideNode x set) at ws =
    (us : List StepNode) × Traces m marks origins x at us × (ws ≡ map (under_hiding (λ a. HideNode a set) (slice_index_or m.sets set [])) us)

-- the same of the marks and origins in the buffers
abbrev pub TracesIn : PepaModel → Buffers → TermNode → ℕ → List StepNode → Type 0
TracesIn m buffers node at steps = Traces m buffers.marks.items buffers.origins.items node at steps

-- new is old, and more after it
pub record Extends {X : Type 0} (old new : List X) : Type 0 where
  pub more : List X
  pub is : new ≡ old ++ more

-- the term's entries stand behind the old ones, can be traced, and are those of each state that it stands for
pub record Loaded (m : PepaModel) (node : TermNode) (old new : Buffers) (found : Found) : Type 0 where
  pub steps : List StepNode
  pub start : found.start ≡ length old.entries.items
  pub entries : new.entries.items ≡ old.entries.items ++ map entry_of steps
  pub more_marks : Extends old.marks.items new.marks.items
  pub more_origins : Extends old.origins.items new.origins.items
  pub traced : Traces m new.marks.items new.origins.items node found.mark steps
  pub targets : AllByRecursion (λ u. IsNodeOf m u.target) steps
  pub part : (state : State) (tree : OpenState) → NodeStandsFor m state node → OpensState m.bodies state tree → IsPartOf m tree found.rates.entries steps

-- the first fault of the parts of each state that the term stands for
abbrev pub IsPartFaultOf : PepaModel → TermNode → StepsEnd → Type 0
IsPartFaultOf m node (Fault name) = (state : State) (tree : OpenState) → NodeStandsFor m state node → OpensState m.bodies state tree
    → (fault : PartFault) × IsFirstFault IsFinePart HasPartFault (parts_in tree) fault × (name ≡ fault_name fault)
IsPartFaultOf m node Memory = Unit {0}

abbrev pub AnswersLoad : PepaModel → TermNode → Buffers → Buffers → Result Found StepsEnd → Type 0
AnswersLoad m node old new (Ok found) = Loaded m node old new found
AnswersLoad m node old new (Err end) = IsPartFaultOf m node end

-- the buffers have the list of this term
pub record HasList (m : PepaModel) (term : Term) (buffers : Buffers) : Type 0 where
  pub of_model : IsNodeOf m (term_of term)
  pub steps : List StepNode
  pub entries : buffers.entries.items ≡ map entry_of steps
  pub traced : TracesIn m buffers (term_of term) buffers.mark steps
  pub targets : AllByRecursion (λ u. IsNodeOf m u.target) steps
  pub rates : List (ℕ × Rate)
  pub part : (state : State) (tree : OpenState) → NodeStandsFor m state (term_of term) → OpensState m.bodies state tree → IsPartOf m tree rates steps

-- ---- cooperations and hidings, from what the list ends with

-- the list ends with those of both sides, which begin at these places
pub record Ends (list front us vs : List Entry) (first second : ℕ) : Type 0 where
  pub is : list ≡ (front ++ us) ++ vs
  pub first_is : length front ≡ first
  pub second_is : length (front ++ us) ≡ second

-- what a cooperation over these types asks of a side
pub record IsReadySide (types : List ℕ) (rates : List (ℕ × Rate)) (es : List Entry) : Type 0 where
  pub fine : AllFine rates
  pub rated : AreRatedBy types rates es
  pub short : length es ≤ 65535
  pub in_range : AreInRangeBy es

-- the list ends with two that are ready
pub record EndsReady (types : List ℕ) (list : List Entry) (l r : Found) : Type 0 where
  pub front : List Entry
  pub us : List Entry
  pub vs : List Entry
  pub ends : Ends list front us vs l.start r.start
  pub left : IsReadySide types l.rates.entries us
  pub right : IsReadySide types r.rates.entries vs

-- nothing is wrong with these rates, and with a part that has them and these steps
pub record IsFoundBy {X : Type 0} (rates : ℕ → Apparent) (us : List (Move X)) (found : List (ℕ × Rate)) : Type 0 where
  pub fine : AllFine found
  pub rates_are : (action : ℕ) → rate_in found action ≡ rates action
  pub short : length us ≤ 65535
  pub in_range : AreMovesInRange us

-- one more mark and the origins, or neither
abbrev pub AddsMark : List ℕ → Found → Found → List (Move Origin) → Buffers → Buffers → Type 0
AddsMark types l r made old new =
    ((types ≡ []) × (new.marks.items ≡ old.marks.items ++ mark.Beside l.mark r.mark (r.start - l.start) ∷ []) × (new.origins.items ≡ old.origins.items))
    ⊎ ((new.marks.items ≡ old.marks.items ++ mark.Joined l.mark r.mark (length old.origins.items) ∷ []) × (new.origins.items ≡ old.origins.items ++ map target_of made))

-- the cooperation's entries replace those of its sides
pub record MakesCoop (types : List ℕ) (front us vs : List Entry) (l r : Found) (old new : Buffers) (found : Found) : Type 0 where
  pub found_by : IsFoundBy (rates_of_cooperation types l.rates.entries r.rates.entries) (combined types l.rates.entries r.rates.entries us vs) found.rates.entries
  pub start : found.start ≡ l.start
  pub entries : new.entries.items ≡ front ++ map entry_of (combined types l.rates.entries r.rates.entries us vs)
  pub place : found.mark ≡ length old.marks.items
  pub marked : AddsMark types l r (combined types l.rates.entries r.rates.entries us vs) old new

abbrev pub AnswersCoop : List ℕ → List Entry → List Entry → List Entry → Found → Found → Buffers → Buffers → Result Found StepsEnd → Type 0
AnswersCoop types front us vs l r old new (Ok found) = MakesCoop types front us vs l r old new found
AnswersCoop types front us vs l r old new (Err (Fault name)) =
    (fault : PartFault) × HasFaultOf (rates_of_cooperation types l.rates.entries r.rates.entries) (combined types l.rates.entries r.rates.entries us vs) fault × (name ≡ fault_name fault)
AnswersCoop types front us vs l r old new (Err Memory) = Unit {0}

-- the entries of a cooperation come after the front, and where they come from after the other origins
abbrev pub AnswersReplaced : List Entry → List Entry → List Origin → List Origin → List (Move Origin) → Result (Unit {0}) StepsEnd → Type 0
AnswersReplaced front entries old new made (Ok _) = (entries ≡ front ++ map entry_of made) × (new ≡ old ++ map target_of made) × (length made ≤ 65535) × AreMovesInRange made
AnswersReplaced front entries old new made (Err (Fault name)) = (fault : PartFault) × HasListFault made fault × (name ≡ fault_name fault)
AnswersReplaced front entries old new made (Err Memory) = Unit {0}

-- the entries from where those of what is hidden begin are hidden, and nothing else changes
pub record MakesHiding (types : List ℕ) (inner : Found) (old new : Buffers) (found : Found) : Type 0 where
  pub fine : AllFine found.rates.entries
  pub rates_are : (action : ℕ) → rate_in found.rates.entries action ≡ rates_of_hiding types inner.rates.entries action
  pub start : found.start ≡ inner.start
  pub mark_is : found.mark ≡ inner.mark
  pub entries : (front us : List Entry) → old.entries.items ≡ front ++ us → length front ≡ inner.start → new.entries.items ≡ front ++ map (hidden_entry types) us
  pub marks : new.marks.items ≡ old.marks.items
  pub origins : new.origins.items ≡ old.origins.items

abbrev pub AnswersHiding : List ℕ → Found → Buffers → Buffers → Result Found StepsEnd → Type 0
AnswersHiding types inner old new (Ok found) = MakesHiding types inner old new found
AnswersHiding types inner old new (Err (Fault name)) = (fault : RateFault) × IsLeastFault (rates_of_hiding types inner.rates.entries) 0 fault × (name ≡ fault_name (OfRates fault))
AnswersHiding types inner old new (Err Memory) = Unit {0}
