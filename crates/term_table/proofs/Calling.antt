-- The steps of a call, one after another.
use Rattle.std.proofs.Common.{◌≡◌, ◌≢◌, ◌==◌, ℕ, zero, suc, ◌+◌, ◌-◌, ◌*◌, ◌<◌, ◌≤◌, ◌⊎◌, inl, inr, ⊎_elim, Bool, true, false, List, [], ◌∷◌, ◌++◌, refl, sym, ap, ◌∙◌, subst, arith, slice_index, Some, append_assoc, append-nil, Result, Ok, Err, IfErr, Option, None, length, cond, IfOk, nat_lt}
use Rattle.std.proofs.lemmas.Bool.{cases_eq, cond_both, ne_eqb, eq-eqb}
use lib.ListN.{get_elem?}
use mathlib.Core.Option.{some}
use Rattle.intern_core.specs.declared.history.Key.{Key}
use Rattle.intern_core.specs.declared.history.EntryWords.{EntryWords}
use Rattle.intern_core.specs.declared.history.Reply.{Reply}
use Rattle.intern_core.specs.declared.history.Reply.TheVariants.{Num, Full}
use Rattle.intern_core.specs.declared.history.Entry.{Entry}
use Rattle.intern_core.specs.declared.history.Entry.TheVariants.{Call}
use Rattle.intern_core.specs.declared.seat.Seat.{Seat}
use Rattle.intern_core.specs.declared.seat.Phase.{Phase}
use Rattle.intern_core.specs.declared.seat.SeatWithOffer.{SeatWithOffer}
use Rattle.intern_core.specs.declared.seat.Phase.TheVariants.{Idle, Claiming, StoringOne, StoringTwo, Linking, Swapping, AtOne, AtTwo, LookingOne, LookingTwo, ClaimingBlock}
use Rattle.intern_core.specs.declared.shape.Shape.{Shape}
use Rattle.intern_core.specs.Layout.{one_at, two_at}
use Rattle.intern_core.specs.History.{Known, known, uses, number_in, is_same_key, with_key, MayAnswer, Meets, IsLegal, IsLegalAfter, one_if}
use Rattle.intern_core.specs.Image.{HaveKeys}
use Rattle.intern_core.specs.Turns.{Turn, seat, turn_of, first_phase, next_place, turn_in}
use Rattle.intern_core.specs.Machine.{with_offer, seats_of}
use Rattle.intern_core.proofs.ListSteps.{at_map}
use Rattle.intern_core.specs.Pace.{key_in, answer_in, pace, known_beside}
use Rattle.intern_core.proofs.Pacing.{Ends, GoesOn, turn_goes, answered_in_time}
use Rattle.intern_core.proofs.Histories.{known_more, same_key-self}
use Rattle.chain_rule.specs.declared.meaning.Setting.{Setting}
use Rattle.chain_rule.specs.declared.view.View.{View}
use Rattle.chain_rule.specs.Told.{seat_begun, phase_begun, offer_begun, view_begun, Turned, TookTurn}
use Rattle.chain_rule.specs.Pacing.{IsPaced}
use Rattle.chain_rule.proofs.MadeEntries.{turn_made, turn_pass}
use Rattle.term_table.specs.Calls.{HasAnswered, IsGoing, steps_left, HasKey, IsNumberOf, WasFull, reply_of}

-- a step of a call ended it, in time, or took it on
pub record Comes {M : Type 0} (shape : Shape) (k : Key) (v w : View M) : Type 0 where
  pub so : (HasAnswered k (answer_in v.seat.spare v.seat.phase) v w × (pace v.seat.marked v.seat.phase + 1 ≤ 4 * known_beside shape w.front k + 3))
      ⊎ (IsGoing k v w × (pace v.seat.marked v.seat.phase + 1 ≤ pace w.seat.marked w.seat.phase))

-- a call for a key is refused no block
call_refused : (shape : Shape) (r now : Option ℕ) (phase : Phase) (v : ℕ) (k : Key) → key_in phase ≡ Some k
    → (now ≡ r) ⊎ ((number len : ℕ) × (phase ≡ ClaimingBlock number len) × (shape.entries < v + len)) → now ≡ r
call_refused shape r now phase v k call (inl e) = e
call_refused shape r now phase v k call (inr h) = let none : key_in (ClaimingBlock h.0 h.1) ≡ Some k = sym (ap key_in h.2) ∙ call in absurd cc

-- a pass that is answered that the table is full is marked
full_marked : (shape : Shape) (offer : List EntryWords) (p : ℕ) (r : Option ℕ) (spare : ℕ) (marked : Bool) (phase : Phase) (v : ℕ) (k : Key) → key_in phase ≡ Some k → answer_in spare phase ≡ Full
    → (turn_in shape offer p r spare marked phase v).made ≡ Call p k (answer_in spare phase) ∷ [] → (turn_in shape offer p r spare marked phase v).seat.marked ≡ true
full_marked shape offer p r spare marked (Claiming key) v k call full made =
    absurd (cond_both (nat_lt v shape.nodes) _ _ (λ (t : Turn). t.made ≡ Call p k Full ∷ [] → ⊥) (λ e h. cc) (λ e h. cc) made)
full_marked shape offer p r spare marked (StoringOne key) v k call full made = absurd cc
full_marked shape offer p r spare marked (StoringTwo key) v k call full made = absurd cc
full_marked shape offer p r spare true (Linking key from passed) zero k call full made = refl
full_marked shape offer p r spare false (Linking key from passed) zero k call full made = absurd cc
full_marked shape offer p r spare true (Linking key from passed) (suc n) k call full made = refl
full_marked shape offer p r spare false (Linking key from passed) (suc n) k call full made = absurd cc
full_marked shape offer p r spare marked (Swapping key from passed) v k call full made = absurd cc
full_marked shape offer p r spare marked (AtOne key node passed) v k call full made = absurd cc
full_marked shape offer p r spare marked (AtTwo key node passed) v k call full made = absurd cc
full_marked shape offer p r spare marked other v k call full made = absurd cc

module _ {M : Type 0} (lawful : M → List Entry → Key → Type 0) (allowed : M → Key → Type 0) (stands : M → List Entry → ℕ → List EntryWords → Type 0) where
  pub turn_comes : (key : Setting M) (v : View M) (place was : ℕ) (w : View M) (k : Key) → Turned lawful allowed stands key v place was w → key_in v.seat.phase ≡ Some k
      → place ≡ next_place key.shape v.seat → IsPaced key.shape.nodes v.seat → Comes key.shape k v w
  turn_comes key v place was w k t call here paced =
      let goes = turn_of key.shape v.offer v.seat was in
      let long : w.front ≡ (v.front ++ t.front.0) ++ goes.made = ap (λ (x : View M). x.front) t.after ∙ ap (λ l. l ++ goes.made) t.front.1 in
      let own : w.mine ≡ v.mine ++ goes.made = ap (λ (x : View M). x.mine) t.after in
      let seat_is : w.seat ≡ goes.seat = ap (λ (x : View M). x.seat) t.after in
      let number : w.seat.pass ≡ v.seat.pass = ap (λ (x : Seat). x.pass) seat_is ∙ turn_pass key.shape v.offer v.seat.pass v.seat.refused v.seat.spare v.seat.marked v.seat.phase was in
      let found : slice_index t.words (next_place key.shape v.seat) ≡ was = ap (slice_index t.words) (sym here) ∙ t.read in
      let here_seat = at_map (λ (x : SeatWithOffer). x.seat) t.seats t.index (with_offer v.seat v.offer) t.here in
      let m = turn_made key.shape v.offer v.seat.pass v.seat.refused v.seat.spare v.seat.marked v.seat.phase was in
      let refused : w.seat.refused ≡ v.seat.refused = ap (λ (x : Seat). x.refused) seat_is ∙ call_refused key.shape v.seat.refused goes.seat.refused v.seat.phase was k call m.refused in
      let mark : v.seat.marked ≡ true → w.seat.marked ≡ true = λ h. ap (λ (x : Seat). x.marked) seat_is ∙ m.mark h in
      ⊎_elim
      (λ (e : Ends v.seat.pass v.seat.spare v.seat.phase k goes).
      let whole : w.front ≡ t.history ++ Call v.seat.pass k (answer_in v.seat.spare v.seat.phase) ∷ [] = ap (λ (x : View M). x.front) t.after ∙ ap (λ l. t.history ++ l) e.made in
      let idle : (turn_of key.shape v.offer v.seat (slice_index t.words (next_place key.shape v.seat))).seat.phase ≡ Idle = ap (λ (n : ℕ). (turn_of key.shape v.offer v.seat n).seat.phase) found ∙ e.idle in
      record {
        so = inl (
          record {
            between = t.front.0;
            front = long ∙ ap (λ l. (v.front ++ t.front.0) ++ l) e.made;
            mine = own ∙ ap (λ l. v.mine ++ l) e.made;
            number = number;
            refused = refused;
            mark = mark;
            full = λ h. ap (λ (x : Seat). x.marked) seat_is ∙ full_marked key.shape v.offer v.seat.pass v.seat.refused v.seat.spare v.seat.marked v.seat.phase was k call h e.made;
            idle = ap (λ (x : Seat). x.phase) seat_is ∙ e.idle;
          },
          subst (λ l. pace v.seat.marked v.seat.phase + 1 ≤ 4 * known_beside key.shape l k + 3) (sym whole)
              (answered_in_time key.shape t.words (seats_of t.seats) t.history t.kept t.index v.offer v.seat.pass v.seat.refused v.seat.spare v.seat.marked v.seat.phase k here_seat call idle),
        );
      })
      (λ (e : GoesOn v.seat.spare v.seat.marked v.seat.phase k goes). record {
        so = inr (
          record {
            between = t.front.0;
            front = long ∙ ap (λ l. (v.front ++ t.front.0) ++ l) e.none ∙ append-nil (v.front ++ t.front.0);
            mine = own ∙ ap (λ l. v.mine ++ l) e.none ∙ append-nil v.mine;
            number = number;
            refused = refused;
            mark = mark;
            call = ap (λ (x : Seat). key_in x.phase) seat_is ∙ e.key;
          },
          subst (λ (x : Seat). pace v.seat.marked v.seat.phase + 1 ≤ pace x.marked x.phase) (sym seat_is) e.later,
        );
      })
      (turn_goes key.shape v.offer v.seat.pass v.seat.refused v.seat.spare k v.seat.marked v.seat.phase was call (paced.claims k) (paced.stores k))

module _ {M : Type 0} where
  pub going_on : (k : Key) (u v w : View M) → IsGoing k u v → IsGoing k v w → IsGoing k u w
  going_on k u v w a b = record {
    between = a.between ++ b.between;
    front = b.front ∙ ap (λ l. l ++ b.between) a.front ∙ append_assoc u.front a.between b.between;
    mine = b.mine ∙ a.mine;
    number = b.number ∙ a.number;
    refused = b.refused ∙ a.refused;
    mark = λ h. b.mark (a.mark h);
    call = b.call;
  }

  pub going_ends : (k : Key) (r : Reply) (u v w : View M) → IsGoing k u v → HasAnswered k r v w → HasAnswered k r u w
  going_ends k r u v w a b = record {
    between = a.between ++ b.between;
    front = b.front ∙ ap (λ (l : List Entry). (l ++ b.between) ++ Call v.seat.pass k r ∷ []) a.front
        ∙ ap (λ (l : List Entry). l ++ Call v.seat.pass k r ∷ []) (append_assoc u.front a.between b.between)
        ∙ ap (λ (n : ℕ). (u.front ++ (a.between ++ b.between)) ++ Call n k r ∷ []) a.number;
    mine = b.mine ∙ ap (λ (l : List Entry). l ++ Call v.seat.pass k r ∷ []) a.mine ∙ ap (λ (n : ℕ). u.mine ++ Call n k r ∷ []) a.number;
    number = b.number ∙ a.number;
    refused = b.refused ∙ a.refused;
    mark = λ h. b.mark (a.mark h);
    full = b.full;
    idle = b.idle;
  }

-- a call that goes on is nearer to its end
pub left_falls : (nodes : ℕ) (m n : Bool) (before after : Phase) (k : Key) → key_in before ≡ Some k → pace m before ≤ 4 * nodes + 6
    → (after ≡ Idle) ⊎ ((key_in after ≡ Some k) × (pace m before + 1 ≤ pace n after)) → pace n after ≤ 4 * nodes + 6 → steps_left nodes n after < steps_left nodes m before
left_falls nodes m n before after k call low (inl idle) low' = subst (λ ph. steps_left nodes n ph < steps_left nodes m before) (sym idle) (some_left before call low) where
  some_left : (ph : Phase) → key_in ph ≡ Some k → pace m ph ≤ 4 * nodes + 6 → 0 < steps_left nodes m ph
  some_left (Claiming q) e h = omega arith
  some_left (StoringOne q) e h = omega arith
  some_left (StoringTwo q) e h = omega arith
  some_left (Linking q f s) e h = omega arith
  some_left (Swapping q f s) e h = omega arith
  some_left (AtOne q f s) e h = omega arith
  some_left (AtTwo q f s) e h = omega arith
  some_left other e h = absurd cc
left_falls nodes m n before after k call low (inr more) low' =
    let b = busy before call m in
    let a = busy after more.0 n in
    let up = more.1 in
    omega arith where
      busy : (ph : Phase) → key_in ph ≡ Some k → (b : Bool) → steps_left nodes b ph ≡ 4 * nodes + 7 - pace b ph
      busy (Claiming q) e b = refl
      busy (StoringOne q) e b = refl
      busy (StoringTwo q) e b = refl
      busy (Linking q f s) e b = refl
      busy (Swapping q f s) e b = refl
      busy (AtOne q f s) e b = refl
      busy (AtTwo q f s) e b = refl
      busy other e b = absurd cc

-- a call in flight begins nothing
pub begun_busy : (begins phase : Phase) (k : Key) → key_in phase ≡ Some k → phase_begun begins [] phase ≡ phase
begun_busy begins Idle k e = absurd cc
begun_busy begins (ClaimingBlock number len) k e = absurd cc
begun_busy begins other k e = refl

offer_busy : (phase : Phase) (k : Key) (offer : List EntryWords) → key_in phase ≡ Some k → offer_begun [] phase offer ≡ offer
offer_busy Idle k offer e = absurd cc
offer_busy (ClaimingBlock number len) k offer e = absurd cc
offer_busy other k offer e = refl

pub view_busy : {M : Type 0} (begins : Phase) (v : View M) (k : Key) → key_in v.seat.phase ≡ Some k → view_begun begins [] v ≡ v
view_busy begins v k e =
    ap (λ (ph : Phase). record v { seat = seat v.seat.pass v.seat.refused v.seat.spare v.seat.marked ph; offer = offer_begun [] v.seat.phase v.offer }) (begun_busy begins v.seat.phase k e)
    ∙ ap (λ (l : List EntryWords). record v { offer = l }) (offer_busy v.seat.phase k v.offer e)

pub first_call : (spare : ℕ) (marked : Bool) (key : Key) → key_in (first_phase spare marked key) ≡ Some key
first_call spare true key = refl
first_call zero false key = refl
first_call (suc n) false key = refl

pub first_paced : (nodes p : ℕ) (r : Option ℕ) (spare : ℕ) (marked : Bool) (key : Key) → IsPaced nodes (seat p r spare marked (first_phase spare marked key))
first_paced nodes p r spare true key = record { low = omega arith; stores = λ q e. absurd cc; claims = λ q e. absurd cc; block = tt }
first_paced nodes p r zero false key = record { low = omega arith; stores = λ q e. absurd cc; claims = λ q e. refl; block = tt }
first_paced nodes p r (suc n) false key = record { low = omega arith; stores = λ q e. absurd cc; claims = λ q e. absurd cc; block = tt }

-- a call has ended in time, or it is in flight and has taken no more steps than it has come far
abbrev pub HasCome : {M : Type 0} → Shape → Key → Reply → ℕ → ℕ → View M → View M → Type 0
HasCome shape k reply before now u w =
    (HasAnswered k reply u w × (now ≤ before + (4 * known_beside shape w.front k + 3))) ⊎ (IsGoing k u w × (now ≤ before + pace w.seat.marked w.seat.phase))

module _ {M : Type 0} (lawful : M → List Entry → Key → Type 0) (allowed : M → Key → Type 0) (stands : M → List Entry → ℕ → List EntryWords → Type 0) (key : Setting M) (k : Key) (was : ℕ) (w : View M) where
  -- the first step of a call
  pub first_step : (u : View M) (begins : Phase) (before now : ℕ) → u.seat.phase ≡ Idle → begins ≡ first_phase u.seat.spare u.seat.marked k → now ≡ before + 1
      → Turned lawful allowed stands key (view_begun begins [] u) (next_place key.shape (seat_begun begins [] u.seat)) was w → HasCome key.shape k (answer_in u.seat.spare begins) before now u w
  first_step u begins before now idle first one t =
      let phase : phase_begun begins [] u.seat.phase ≡ begins = ap (phase_begun begins []) idle in
      let call : key_in (phase_begun begins [] u.seat.phase) ≡ Some k = ap key_in (phase ∙ first) ∙ first_call u.seat.spare u.seat.marked k in
      let paced = subst (λ ph. IsPaced key.shape.nodes (seat u.seat.pass u.seat.refused u.seat.spare u.seat.marked ph)) (sym (phase ∙ first)) (first_paced key.shape.nodes u.seat.pass u.seat.refused u.seat.spare u.seat.marked k) in
      let comes = turn_comes lawful allowed stands key (view_begun begins [] u) (next_place key.shape (seat_begun begins [] u.seat)) was w k t call refl paced in
      ⊎_elim
      (λ (a : HasAnswered k (answer_in u.seat.spare (phase_begun begins [] u.seat.phase)) (view_begun begins [] u) w
      × (pace u.seat.marked (phase_begun begins [] u.seat.phase) + 1 ≤ 4 * known_beside key.shape w.front k + 3)).
      inl (
        record {
          between = a.0.between;
          front = a.0.front ∙ ap (λ ph. (u.front ++ a.0.between) ++ Call u.seat.pass k (answer_in u.seat.spare ph) ∷ []) phase;
          mine = a.0.mine ∙ ap (λ ph. u.mine ++ Call u.seat.pass k (answer_in u.seat.spare ph) ∷ []) phase;
          number = a.0.number;
          refused = a.0.refused;
          mark = a.0.mark;
          full = λ h. a.0.full (ap (answer_in u.seat.spare) phase ∙ h);
          idle = a.0.idle;
        },
        (let bound = a.1 in omega arith),
      ))
      (λ (b : IsGoing k (view_begun begins [] u) w × (pace u.seat.marked (phase_begun begins [] u.seat.phase) + 1 ≤ pace w.seat.marked w.seat.phase)).
      inr (record { between = b.0.between; front = b.0.front; mine = b.0.mine; number = b.0.number; refused = b.0.refused; mark = b.0.mark; call = b.0.call }, (let up = b.1 in omega arith)))
      comes.so

  -- a further one
  pub next_step : (u v : View M) (begins : Phase) (before then now : ℕ) → IsGoing k u v → then ≤ before + pace v.seat.marked v.seat.phase → now ≡ then + 1 → IsPaced key.shape.nodes v.seat
      → Turned lawful allowed stands key (view_begun begins [] v) (next_place key.shape (seat_begun begins [] v.seat)) was w
      → HasCome key.shape k (answer_in v.seat.spare v.seat.phase) before now u w
      × ((w.seat.phase ≡ Idle) ⊎ ((key_in w.seat.phase ≡ Some k) × (pace v.seat.marked v.seat.phase + 1 ≤ pace w.seat.marked w.seat.phase)))
  next_step u v begins before then now going few one paced t =
      let same : view_begun begins [] v ≡ v = view_busy begins v k going.call in
      let comes = turn_comes lawful allowed stands key v (next_place key.shape v.seat) was w k
      (subst (λ (x : View M). Turned lawful allowed stands key x (next_place key.shape x.seat) was w) same t) going.call refl paced in
      ⊎_elim
      (λ (a : HasAnswered k (answer_in v.seat.spare v.seat.phase) v w × (pace v.seat.marked v.seat.phase + 1 ≤ 4 * known_beside key.shape w.front k + 3)).
      (inl (going_ends k (answer_in v.seat.spare v.seat.phase) u v w going a.0, (let bound = a.1 in omega arith)), inl a.0.idle))
      (λ (b : IsGoing k v w × (pace v.seat.marked v.seat.phase + 1 ≤ pace w.seat.marked w.seat.phase)).
      (inr (going_on k u v w going b.0, (let up = b.1 in omega arith)), inr (b.0.call, b.1)))
      comes.so

-- a call in flight isn't idle
pub going_busy : {M : Type 0} (k : Key) (u v : View M) → IsGoing k u v → v.seat.phase ≡ Idle → ⊥
going_busy k u v going idle = let h : key_in Idle ≡ Some k = sym (ap key_in idle) ∙ going.call in absurd cc

last_meets : (shape : Shape) (before xs : List Entry) (e : Entry) → IsLegalAfter shape before (xs ++ e ∷ []) → Meets shape (before ++ xs) e
last_meets shape before [] e legal = subst (λ l. Meets shape l e) (sym (append-nil before)) legal.0
last_meets shape before (x ∷ xs) e legal = subst (λ l. Meets shape l e) (append_assoc before (x ∷ []) xs) (last_meets shape (before ++ x ∷ []) xs e legal.1)

unknown_full : (shape : Shape) (seen : List Known) (o : Option ℕ) → MayAnswer shape seen o Full → (o ≡ None) × (shape.nodes ≤ length seen + shape.passes)
unknown_full shape seen (Some n) h = absurd cc
unknown_full shape seen None h = (refl, h)

-- what `Full` says, by the legality of the front
pub was_full : {M : Type 0} {E : Type 0} (shape : Shape) (key : Key) (v w : View M) (r : Result ℕ E) → HasAnswered key (reply_of r) v w → IsLegal shape w.front
    → IfErr r (λ _. WasFull shape key v w)
was_full shape key v w (Ok n) a legal = tt
was_full shape key v w (Err e) a legal =
    let before = v.front ++ a.between in
    let meets = last_meets shape [] before (Call v.seat.pass key Full) (subst (IsLegal shape) a.front legal) in
    let h = unknown_full shape (known before) (number_in (known before) key) meets.1 in
    record { before = before; front = a.front; unknown = h.0; many = h.1; marked = a.full refl }

-- a known number whose node has these key words has this key
has_key : (words : List ℕ) (n a b : ℕ) (seen : List Known) → HaveKeys words seen → slice_index words (one_at n) ≡ a → slice_index words (two_at n) ≡ b
    → 0 < uses n seen → HasKey n (record { one = a; two = b }) seen
has_key words n a b [] keys one two pos = absurd (omega arith)
has_key words n a b (x ∷ xs) keys one two pos = ⊎_elim
    (λ (e : x.number ≡ n).
    let first : x.key.one ≡ a = sym keys.0 ∙ ap (λ (m : ℕ). slice_index words (one_at m)) e ∙ one in
    let second : x.key.two ≡ b = sym keys.1 ∙ ap (λ (m : ℕ). slice_index words (two_at m)) e ∙ two in
    let same : x ≡ record { number = n; key = record { one = a; two = b } } = λ i. record { number = e i; key = record { one = first i; two = second i } } in
    record { before = []; rest = xs; is = ap (λ (y : Known). y ∷ xs) same })
    (λ (ne : x.number ≢ n).
    let other : one_if (x.number == n) ≡ 0 = ap one_if (ne_eqb x.number n ne) in
    let r = has_key words n a b xs keys.2 one two (omega arith) in
    record { before = x ∷ r.before; rest = r.rest; is = ap (λ l. x ∷ l) r.is })
    (cases_eq x.number n)

-- two looks at a number's words tell its key
pub looks_tell : {M : Type 0} (lawful : M → List Entry → Key → Type 0) (allowed : M → Key → Type 0) (stands : M → List Entry → ℕ → List EntryWords → Type 0) (key : Setting M) (u v w : View M) (n one two : ℕ)
    → u.seat.phase ≡ Idle → TookTurn lawful allowed stands key (LookingOne n) u one v → TookTurn lawful allowed stands key Idle v two w → HasKey n (record { one = one; two = two }) (known w.front)
looks_tell {M = M} lawful allowed stands key u v w n one two idle t t' =
    let phase : phase_begun (LookingOne n) [] u.seat.phase ≡ LookingOne n = ap (phase_begun (LookingOne n) []) idle in
    let after : v.seat ≡ seat u.seat.pass u.seat.refused u.seat.spare u.seat.marked (LookingTwo n one) =
    ap (λ (x : View M). x.seat) t.after
    ∙ ap (λ (ph : Phase). (turn_in key.shape (offer_begun [] u.seat.phase u.offer) u.seat.pass u.seat.refused u.seat.spare u.seat.marked ph one).seat) phase in
    let next : seat_begun Idle [] v.seat ≡ seat u.seat.pass u.seat.refused u.seat.spare u.seat.marked (LookingTwo n one) = ap (seat_begun Idle []) after in
    let there = subst (λ (x : Seat). get_elem? (seats_of t'.seats) t'.index ≡ some x) next
    (at_map (λ (x : SeatWithOffer). x.seat) t'.seats t'.index (with_offer (seat_begun Idle [] v.seat) (offer_begun [] v.seat.phase v.offer)) t'.here) in
    let reached = (t'.kept.seat_is t'.index (seat u.seat.pass u.seat.refused u.seat.spare u.seat.marked (LookingTwo n one)) there).reached in
    let at : next_place key.shape (seat_begun Idle [] v.seat) ≡ two_at n = ap (next_place key.shape) next in
    let front : w.front ≡ t'.history = ap (λ (x : View M). x.front) t'.after ∙ ap (λ (x : Seat). t'.history ++ (turn_of key.shape (offer_begun [] v.seat.phase v.offer) x two).made) next ∙ append-nil t'.history in
    subst (λ l. HasKey n (record { one = one; two = two }) (known l)) (sym front)
    (has_key t'.words n one two (known t'.history) t'.kept.image.keys reached.1 (ap (slice_index t'.words) (sym at) ∙ t'.read) reached.0)

-- the number of a key is used
number_used : (n : ℕ) (seen : List Known) (key : Key) → number_in seen key ≡ Some n → 0 < uses n seen
number_used n [] key e = absurd cc
number_used n (x ∷ xs) key e = by (is_same_key x.key key) e (λ h. number_used n xs key h) where
  by : (t : Bool) → cond t (Some x.number) (number_in xs key) ≡ Some n → (number_in xs key ≡ Some n → 0 < uses n xs) → 0 < uses n (x ∷ xs)
  by true e rest =
      let same : x.number ≡ n = cc in
      let one : one_if (x.number == n) ≡ 1 = ap one_if (eq-eqb x.number n same) in
      omega arith
  by false e rest = let r = rest e in omega arith

-- an unknown key that becomes known has its number
number_new : (seen : List Known) (n : ℕ) (key : Key) → number_in seen key ≡ None → number_in (seen ++ record { number = n; key = key } ∷ []) key ≡ Some n
number_new [] n key e = ap (λ t. cond t (Some n) None) (same_key-self key key refl refl)
number_new (x ∷ xs) n key e = by (is_same_key x.key key) e (λ h. number_new xs n key h) where
  by : (t : Bool) → cond t (Some x.number) (number_in xs key) ≡ None → (number_in xs key ≡ None → number_in (xs ++ record { number = n; key = key } ∷ []) key ≡ Some n)
      → cond t (Some x.number) (number_in (xs ++ record { number = n; key = key } ∷ []) key) ≡ Some n
  by true e rest = absurd cc
  by false e rest = rest e

number_answered : (shape : Shape) (seen : List Known) (n : ℕ) (key : Key) (o : Option ℕ) → number_in seen key ≡ o → MayAnswer shape seen o (Num n) → number_in (with_key seen key n o) key ≡ Some n
number_answered shape seen n key (Some m) is h = let same : n ≡ m = cc in is ∙ ap (λ (k : ℕ). Some k) (sym same)
number_answered shape seen n key None is h = number_new seen n key is

-- what a number says, by the legality of the front
pub was_known : {M : Type 0} {E : Type 0} (shape : Shape) (key : Key) (v w : View M) (r : Result ℕ E) → HasAnswered key (reply_of r) v w → IsLegal shape w.front
    → IfOk r (λ n. IsNumberOf key n w.front)
was_known shape key v w (Err e) a legal = tt
was_known shape key v w (Ok n) a legal =
    let before = v.front ++ a.between in
    let e = Call v.seat.pass key (Num n) in
    let meets = last_meets shape [] before e (subst (IsLegal shape) a.front legal) in
    let now : number_in (known w.front) key ≡ Some n = ap (λ l. number_in (known l) key) a.front ∙ ap (λ l. number_in l key) (known_more before e)
    ∙ number_answered shape (known before) n key (number_in (known before) key) refl meets.1 in
    (now, number_used n (known w.front) key now)
