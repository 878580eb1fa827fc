-- From what a space answers of a list to what is said of the state.
use Rattle.std.proofs.Common.{◌≡◌, ℕ, ◌+◌, ◌-◌, ◌*◌, ◌/◌, ◌^◌, ◌<◌, ◌≤◌, ◌⊎◌, inl, inr, List, [], ◌∷◌, length, map, Option, Some, None, option_map, slice_get, refl, ap, sym, ◌∙◌, subst, arith}
use Rattle.std.proofs.lemmas.Option.{slice_get-map}
use Rattle.pepa_model.specs.Expression.{Definition}
use Rattle.pepa_steps.specs.States.{State, StateTransition}
use Rattle.pepa_steps.specs.Rules.{IsTransitionList}
use Rattle.pepa_steps.specs.ListAnswers.{IsTransitionAt}
use Rattle.pepa_steps.specs.Combined.{entry_of}
use Rattle.pepa_steps.specs.declared.entries.Entry.{Entry}
use Rattle.sim_draws.specs.Numbers.{next_numbers}
use Rattle.sim_draws.specs.FairDraw.{IsDrawBelow, NoDrawBelow}
use Rattle.sim_space.specs.LoadedLists.{jump_of, loaded_of}
use Rattle.sim_space.specs.SpaceAnswers.{IsFullBy}
use Rattle.sim_space.specs.declared.space.Loaded.{Loaded}
use Rattle.sim_space.specs.declared.space.Jump.{Jump}
use Rattle.sim_space.specs.declared.space.Halt.{Halt}
use Rattle.sim_space.specs.declared.space.Halt.TheVariants.{Memory, Full, Stop}
use Rattle.sim_replication.specs.Jumps.{time_after, whole_of}

pub some_entries : (entries : List Entry) (loaded : Loaded) → loaded ≡ loaded_of entries → (loaded.len ≡ 0 → ⊥) → 0 < length entries
some_entries entries loaded k some =
    let len : loaded.len ≡ length entries = ap (λ (l : Loaded). l.len) k in
    omega arith

pub time_same : (entries : List Entry) (loaded : Loaded) (time draw : ℕ) → loaded ≡ loaded_of entries
    → time + draw * loaded.den / loaded.whole ≡ time_after entries time draw
time_same entries loaded time draw k = ap (λ (l : Loaded). time + draw * l.den / l.whole) k

pub whole_same : (entries : List Entry) (loaded : Loaded) → loaded ≡ loaded_of entries → loaded.whole ≡ whole_of entries
whole_same entries loaded k = ap (λ (l : Loaded). l.whole) k

-- the numbers after the first draw
pub numbers_after : (at after : ℕ → ℕ) (p q : ℕ) → after ≡ at → p ≤ q → next_numbers after q 64 ≡ next_numbers at (p + (q - p)) 64
numbers_after at after p q e h =
    let f : q ≡ p + (q - p) = omega arith in
    ap (λ (a : ℕ → ℕ). next_numbers a q 64) e ∙ ap (λ (n : ℕ). next_numbers at n 64) f

pub none_same : (xs ys : List ℕ) (bound whole : ℕ) → xs ≡ ys → bound ≡ whole → NoDrawBelow xs bound → NoDrawBelow ys whole
none_same xs ys bound whole e f h =
    let P : ℕ → Type 0 = λ b. NoDrawBelow ys b in
    let Q : List ℕ → Type 0 = λ zs. NoDrawBelow zs bound in
    subst P f (subst Q e h)

pub below_same : (xs ys : List ℕ) (bound whole draw used : ℕ) → xs ≡ ys → bound ≡ whole → IsDrawBelow xs bound draw used → IsDrawBelow ys whole draw used
below_same xs ys bound whole draw used e f h =
    let P : ℕ → Type 0 = λ b. IsDrawBelow ys b draw used in
    let Q : List ℕ → Type 0 = λ zs. IsDrawBelow zs bound draw used in
    subst P f (subst Q e h)

from_option : (o : Option StateTransition) (e : Entry) → option_map entry_of o ≡ Some e → (t : StateTransition) × (o ≡ Some t) × (e ≡ entry_of t)
from_option (Some t) e h = (t, refl, cc)
from_option None e h = absurd cc

-- the transition at an index, by what the space answers of its entry
pub transition_at : (definitions : List Definition) (q : State) (entries : List Entry) (ts : List StateTransition) (i : ℕ) (e : Entry) (jump : Jump)
    → IsTransitionList definitions q ts → entries ≡ map entry_of ts → slice_get entries i ≡ Some e → jump ≡ jump_of entries e
    → (t : StateTransition) × IsTransitionAt definitions q i t × (jump.signals ≡ t.signals)
transition_at definitions q entries ts i e jump listed same at is =
    let P : List Entry → Type 0 = λ xs. slice_get xs i ≡ Some e in
    let found = from_option (slice_get ts i) e (sym (slice_get-map entry_of ts i) ∙ subst P same at) in (
      found.0,
      record { transitions = ts; listed = listed; at = found.1 },
      ap (λ (j : Jump). j.signals) is ∙ ap (λ (x : Entry). x.signals) found.2,
    )

-- a count that rose rose since any earlier moment
pub full_since : (a b c : ℕ) (e : Halt) → a ≤ b → IsFullBy b c e → IsFullBy a c e
full_since a b c Memory h f = tt
full_since a b c (Stop s) h f = tt
full_since a b c Full h f = elim f [ inl rose ↦ inl (omega arith) | inr top ↦ inr top ]
