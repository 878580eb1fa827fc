-- Each event keeps what is kept.
use Rattle.std.proofs.Common.{◌≡◌, ℕ, zero, suc, ◌+◌, ◌<◌, ◌≤◌, false, List, [], ◌∷◌, ◌++◌, length, replicate, refl, sym, ap, ◌∙◌, subst, arith, append-nil, length-append, nat_le, nat_lt, ◌==◌, ◌⊎◌, ◌%◌, ◌^◌, ⊎_elim, ◌||◌, not, Bool, true, ◌≢◌, Option, Some, None, slice_get, slice_index, slice_set, take, get_or}
use mathlib.Core.Option.{some, some-ne-none}
use lib.ListN.{get_elem?}
use Rattle.std.proofs.lemmas.Bool.{ne_eqb, true≢false, cond_both}
use Rattle.std.proofs.lemmas.Bool.Decides.{nat_tests}
use Rattle.std.proofs.lemmas.List.{take_more, map-set, map-append}
use Rattle.intern_core.specs.declared.shape.Shape.{Shape}
use Rattle.intern_core.specs.declared.seat.Seat.{Seat}
use Rattle.intern_core.specs.declared.seat.Phase.{Phase}
use Rattle.intern_core.specs.declared.seat.Phase.TheVariants.{Idle, Claiming, StoringOne, StoringTwo, Linking, Swapping, AtOne, AtTwo, LookingOne, LookingTwo, MeasuringList, FindingEntry, ReadingOne, ReadingTwo, ReadingThree, Offering, ClaimingBlock, StoringWord, SwappingList}
use Rattle.intern_core.specs.Layout.{word_count, claim_at, entries_at, list_at}
use Rattle.intern_core.specs.History.{Listing, known, uses, one_if, listing_in}
use Rattle.intern_core.specs.Image.{IsListWord}
use Rattle.intern_core.proofs.Histories.{listing_known}
use Rattle.intern_core.proofs.ListTurns.{no_list}
use Rattle.intern_core.proofs.Steps.{known_small}
use Rattle.intern_core.specs.Turns.{Turn, seat, next_place, turn_in, FitsTurn}
use Rattle.intern_core.specs.declared.history.EntryWords.{EntryWords}
use Rattle.intern_core.specs.declared.seat.SeatWithOffer.{SeatWithOffer}
use Rattle.intern_core.specs.Nexts.{IsPut, MayBegin}
use Rattle.intern_core.specs.Blocks.{claimed_in, held, length_of, refused_length, covers_in, holds_entry, published_with, HasListed, KeptLists}
use Rattle.intern_core.specs.Kept.{Kept, IsShape, total, is_pass, keeps, given_out}
use Rattle.intern_core.specs.Machine.{Machine, Happened, fresh, begun, taken, next_turn, idle_seats, some_keeps, is_known, is_longer, with_offer, seats_of, IsKept, after_event, after_all, after_first}
use Rattle.intern_core.proofs.ListSteps.{at_map, quiet_both}
use Rattle.intern_core.proofs.BothTurns.{both_turn}
use Rattle.intern_core.proofs.Fitting.{both_fit}
use Rattle.intern_core.proofs.Opening.{kept_opening, kept_joined, total-append, at_snoc, zeros}
use Rattle.intern_core.proofs.Sums.{at_set}
use Rattle.intern_core.specs.declared.history.Entry.{Entry}
use Rattle.intern_core.specs.declared.event.Event.{Event}

pub got : {A : Type 0} (xs : List A) (i : ℕ) (x : A) → slice_get xs i ≡ Some x → get_elem? xs i ≡ some x
got [] i x e = absurd cc
got (y ∷ xs) zero x e = let same : y ≡ x = cc in ap (λ z. some z) same
got (y ∷ xs) (suc i) x e = got xs i x e

pub got_low : {A : Type 0} (xs : List A) (i : ℕ) (x : A) → slice_get xs i ≡ Some x → i < length xs
got_low [] i x e = absurd cc
got_low (y ∷ xs) zero x e = omega arith
got_low (y ∷ xs) (suc i) x e = omega (arith, got_low xs i x e)

pub there_is : {A : Type 0} (xs : List A) (k : ℕ) (d : A) → k < length xs → slice_get xs k ≡ Some (get_or xs k d)
there_is [] k d low = absurd (omega arith)
there_is (x ∷ xs) zero d low = refl
there_is (x ∷ xs) (suc k) d low = there_is xs k d (omega arith)

module _ (seats : List SeatWithOffer) (i : ℕ) (s t : SeatWithOffer) (at : slice_get seats i ≡ Some s) (same : t.seat.pass ≡ s.seat.pass) where
  -- a seat that changes keeps its pass
  numbered_set : ((j : ℕ) (u : Seat) → get_elem? (seats_of seats) j ≡ some u → u.pass ≡ j)
      → (j : ℕ) (u : Seat) → get_elem? (seats_of (slice_set seats i t)) j ≡ some u → u.pass ≡ j
  numbered_set each j u there =
      let moved : get_elem? (slice_set (seats_of seats) i t.seat) j ≡ some u = subst (λ l. get_elem? l j ≡ some u) (map-set (λ (x : SeatWithOffer). x.seat) seats i t) there in
      ⊎_elim (λ (h : (j ≡ i) × (t.seat ≡ u)). ap (λ (x : Seat). x.pass) (sym h.1) ∙ same ∙ each i s.seat (at_map (λ (x : SeatWithOffer). x.seat) seats i s (got seats i s at)) ∙ sym h.0)
      (λ h. each j u h.1) (at_set (seats_of seats) i j t.seat u moved)

pass_of_turn : (shape : Shape) (offer : List EntryWords) (p : ℕ) (r : Option ℕ) (spare : ℕ) (marked : Bool) (phase : Phase) (v : ℕ) → (turn_in shape offer p r spare marked phase v).seat.pass ≡ p
pass_of_turn shape offer p r spare marked Idle v = refl
pass_of_turn shape offer p r spare marked (Claiming key) v = cond_both (nat_lt v shape.nodes) _ _ (λ (t : Turn). t.seat.pass ≡ p) (λ h. refl) (λ h. refl)
pass_of_turn shape offer p r spare marked (StoringOne key) v = refl
pass_of_turn shape offer p r spare marked (StoringTwo key) v = refl
pass_of_turn shape offer p r spare true (Linking key from passed) zero = refl
pass_of_turn shape offer p r spare false (Linking key from passed) zero = refl
pass_of_turn shape offer p r spare true (Linking key from passed) (suc n) = refl
pass_of_turn shape offer p r spare false (Linking key from passed) (suc n) = refl
pass_of_turn shape offer p r spare marked (Swapping key from passed) zero = refl
pass_of_turn shape offer p r spare marked (Swapping key from passed) (suc n) = refl
pass_of_turn shape offer p r spare marked (AtOne key node passed) v = refl
pass_of_turn shape offer p r spare marked (AtTwo key node passed) v = cond_both (v == key.two) _ _ (λ (t : Turn). t.seat.pass ≡ p) (λ h. refl) (λ h. refl)
pass_of_turn shape offer p r spare marked (LookingOne node) v = refl
pass_of_turn shape offer p r spare marked (LookingTwo node one) v = refl
pass_of_turn shape offer p r spare marked (MeasuringList number) v = refl
pass_of_turn shape offer p r spare marked (FindingEntry number at) v = refl
pass_of_turn shape offer p r spare marked (ReadingOne number at index) v = refl
pass_of_turn shape offer p r spare marked (ReadingTwo number at index one) v = refl
pass_of_turn shape offer p r spare marked (ReadingThree number at index one two) v = refl
pass_of_turn shape offer p r spare marked (StoringWord number start len stored) v = refl
pass_of_turn shape offer p None spare marked (Offering number len) zero = refl
pass_of_turn shape offer p (Some q) spare marked (Offering number len) zero = refl
pass_of_turn shape offer p None spare marked (Offering number len) (suc n) = refl
pass_of_turn shape offer p (Some q) spare marked (Offering number len) (suc n) = refl
pass_of_turn shape offer p r spare marked (ClaimingBlock number len) v = cond_both (nat_le (v + len) shape.entries) _ _ (λ (t : Turn). t.seat.pass ≡ p) (λ h. refl) (λ h. refl)
pass_of_turn shape offer p r spare marked (SwappingList number start len) zero = refl
pass_of_turn shape offer p r spare marked (SwappingList number start len) (suc n) = refl

pub kept_turns : (m : Machine) → IsKept m → (i : ℕ) (s : SeatWithOffer) → slice_get m.seats i ≡ Some s → IsKept (taken m i s (next_turn m s))
kept_turns m k i s at =
    let q = s.seat in
    let both = both_turn m.shape m.words m.seats m.history k.kept k.lists i q.pass q.refused q.spare q.marked s.offer q.phase (got m.seats i s at) in
    record {
      kept = both.0;
      lists = both.1;
      numbered = numbered_set m.seats i s (with_offer (next_turn m s).seat s.offer) at
          (pass_of_turn m.shape s.offer q.pass q.refused q.spare q.marked q.phase (slice_index m.words (next_place m.shape q))) k.numbered;
    }

pub kept_begun : (m : Machine) → IsKept m → (i : ℕ) (s : SeatWithOffer) (phase : Phase) (offer : List EntryWords) → slice_get m.seats i ≡ Some s → MayBegin m s phase offer
    → IsKept (begun m i s phase offer)
kept_begun m k i s phase offer at may =
    let q = s.seat in
    let there : get_elem? m.seats i ≡ some (with_offer (seat q.pass q.refused q.spare q.marked Idle) s.offer) =
    got m.seats i s at ∙ ap (λ (ph : Phase). some (with_offer (seat q.pass q.refused q.spare q.marked ph) s.offer)) may.idle in
    let both = quiet_both m.shape m.words m.seats m.history k.kept k.lists i q.pass q.refused q.spare q.marked s.offer offer Idle phase there refl may.none (λ n. refl) may.free may.reached may.listed in
    record {
      kept = subst (Kept m.shape m.words (seats_of (begun m i s phase offer).seats)) (append-nil m.history) both.0;
      lists = subst (KeptLists m.shape m.words (begun m i s phase offer).seats) (append-nil m.history) both.1;
      numbered = numbered_set m.seats i s (with_offer (seat q.pass q.refused q.spare q.marked phase) offer) at refl k.numbered;
    }

-- the seats of the passes below n
idle_seat : ℕ → SeatWithOffer
idle_seat n = with_offer (seat n None 0 false Idle) []

seats_more : (n : ℕ) → seats_of (idle_seats (suc n)) ≡ seats_of (idle_seats n) ++ seat n None 0 false Idle ∷ []
seats_more n = map-append (λ (x : SeatWithOffer). x.seat) (idle_seats n) (with_offer (seat n None 0 false Idle) [] ∷ [])

not_yet : (n m : ℕ) → n ≤ m → total (is_pass m) (seats_of (idle_seats n)) ≡ 0
not_yet zero m h = refl
not_yet (suc n) m h =
    let new = seat n None 0 false Idle in
    let other : is_pass m new ≡ 0 = ap one_if (ne_eqb n m (λ e. omega arith)) in
    let before = not_yet n m (omega arith) in
    omega (arith, ap (total (is_pass m)) (seats_more n), total-append (is_pass m) (seats_of (idle_seats n)) new)

length-idle_seats : (n : ℕ) → length (seats_of (idle_seats n)) ≡ n
length-idle_seats zero = refl
length-idle_seats (suc n) = omega (arith, ap (λ (l : List Seat). length l) (seats_more n), length-append (seats_of (idle_seats n)) (seat n None 0 false Idle ∷ []), length-idle_seats n)

kept_seats : (shape : Shape) → IsShape shape → (n : ℕ) → n ≤ shape.passes → Kept shape (replicate (word_count shape) 0) (seats_of (idle_seats n)) []
kept_seats shape ranges zero h = kept_opening shape ranges
kept_seats shape ranges (suc n) h =
    let all = length-idle_seats n in
    subst (λ l. Kept shape (replicate (word_count shape) 0) l []) (sym (seats_more n))
    (kept_joined shape (replicate (word_count shape) 0) (seats_of (idle_seats n)) [] (kept_seats shape ranges n (omega arith)) (omega arith) n (omega arith) (not_yet n n (omega arith)))

numbered_seats : (n i : ℕ) (s : Seat) → get_elem? (seats_of (idle_seats n)) i ≡ some s → s.pass ≡ i
numbered_seats zero i s at = absurd (some-ne-none s (sym at))
numbered_seats (suc n) i s at =
    let new = seat n None 0 false Idle in
    let moved : get_elem? (seats_of (idle_seats n) ++ new ∷ []) i ≡ some s = subst (λ l. get_elem? l i ≡ some s) (seats_more n) at in
    ⊎_elim (λ h. numbered_seats n i s h) (λ (h : (i ≡ length (seats_of (idle_seats n))) × (new ≡ s)). ap (λ (x : Seat). x.pass) (sym h.1) ∙ sym (length-idle_seats n) ∙ sym h.0)
    (at_snoc (seats_of (idle_seats n)) new s i moved)

-- no lists yet
all_idle : (n i : ℕ) (s : SeatWithOffer) → get_elem? (idle_seats n) i ≡ some s → (s.seat.phase ≡ Idle) × (s.seat.refused ≡ None)
all_idle zero i s at = absurd (some-ne-none s (sym at))
all_idle (suc n) i s at =
    ⊎_elim (λ h. all_idle n i s h)
    (λ (h : (i ≡ length (idle_seats n)) × (with_offer (seat n None 0 false Idle) [] ≡ s)). (ap (λ (x : SeatWithOffer). x.seat.phase) (sym h.1), ap (λ (x : SeatWithOffer). x.seat.refused) (sym h.1)))
    (at_snoc (idle_seats n) (with_offer (seat n None 0 false Idle) []) s i at)

total_none : {X : Type 0} (f : X → ℕ) (xs : List X) → ((i : ℕ) (x : X) → get_elem? xs i ≡ some x → f x ≡ 0) → total f xs ≡ 0
total_none f [] each = refl
total_none f (x ∷ xs) each = omega (arith, each 0 x refl, total_none f xs (λ i y at. each (suc i) y at))

none_published : (words : List ℕ) (index count : ℕ) → published_with words [] index count ≡ 0
none_published words index zero = refl
none_published words index (suc count) = omega (arith, none_published words index count)

pub idle_lists : (shape : Shape) (n : ℕ) → KeptLists shape (replicate (word_count shape) 0) (idle_seats n) []
idle_lists shape n =
    let words : List ℕ = replicate (word_count shape) 0 in
    let holding : total held (idle_seats n) ≡ 0 = total_none held (idle_seats n) (λ i s at. ap claimed_in (all_idle n i s at).0) in
    let refusing : total refused_length (idle_seats n) ≡ 0 = total_none refused_length (idle_seats n) (λ i s at. ap length_of (all_idle n i s at).1) in
    let covering : (index : ℕ) → total (holds_entry index) (idle_seats n) ≡ 0 = λ index. total_none (holds_entry index) (idle_seats n) (λ i s at. ap (λ ph. covers_in ph index) (all_idle n i s at).0) in
    let empty : slice_index words entries_at ≡ 0 = zeros (word_count shape) entries_at in
    record {
      sum = omega arith;
      room = omega arith;
      blocks = λ index. omega (arith, covering index, none_published words index shape.nodes);
      each = λ i s at. record {
        small = let e = ap length_of (all_idle n i s at).1 in omega arith;
        listed = subst (λ ph. HasListed shape words [] s.seat.pass s.seat.refused s.offer ph) (sym (all_idle n i s at).0) tt;
      };
    }

pub kept_fresh : (shape : Shape) → IsShape shape → IsKept (fresh shape)
kept_fresh shape ranges = record { kept = kept_seats shape ranges shape.passes (omega arith); lists = idle_lists shape shape.passes; numbered = numbered_seats shape.passes }

-- the next word of a seat is in the table, and its turn can go on
pub turn_there : (m : Machine) → IsKept m → (i : ℕ) (s : SeatWithOffer) → slice_get m.seats i ≡ Some s
    → (next_place m.shape s.seat < length m.words) × FitsTurn m.shape s.offer s.seat.phase (slice_index m.words (next_place m.shape s.seat))
turn_there m k i s at =
    let q = s.seat in
    let fits = both_fit m.shape m.words m.seats m.history k.kept k.lists i q.pass q.refused q.spare q.marked s.offer q.phase (got m.seats i s at) in
    (subst (λ n. next_place m.shape q < n) (sym k.kept.long) fits.0, fits.1)

-- the machine with these parts
abbrev pub machine_of : Shape → List ℕ → List SeatWithOffer → List Entry → Machine
machine_of shape words seats history = record { shape = shape; words = words; seats = seats; history = history }

-- a turn that makes these entries
pub kept_made : (m : Machine) → IsKept m → (i : ℕ) (s : SeatWithOffer) (place word : ℕ) (now : Seat) (es : List Entry) → slice_get m.seats i ≡ Some s → IsPut m s place word now es
    → IsKept (machine_of m.shape (slice_set m.words place word) (slice_set m.seats i (with_offer now s.offer)) (m.history ++ es))
kept_made m k i s place word now es at is =
    let p = next_place m.shape s.seat in
    let t = next_turn m s in
    let all = kept_turns m k i s at in
    let made = subst (λ l. IsKept (machine_of m.shape (slice_set m.words p t.word) (slice_set m.seats i (with_offer t.seat s.offer)) (m.history ++ l))) is.made_is all in
    subst (λ (x : Seat). IsKept (machine_of m.shape (slice_set m.words place word) (slice_set m.seats i (with_offer x s.offer)) (m.history ++ es))) (sym is.seat)
    (subst (λ (n : ℕ). IsKept (machine_of m.shape (slice_set m.words n word) (slice_set m.seats i (with_offer t.seat s.offer)) (m.history ++ es))) (sym is.at)
    (subst (λ (n : ℕ). IsKept (machine_of m.shape (slice_set m.words p n) (slice_set m.seats i (with_offer t.seat s.offer)) (m.history ++ es))) (sym is.word) made))

-- a turn that makes no entry
pub kept_put : (m : Machine) → IsKept m → (i : ℕ) (s : SeatWithOffer) (place word : ℕ) (now : Seat) → slice_get m.seats i ≡ Some s → IsPut m s place word now []
    → IsKept (machine_of m.shape (slice_set m.words place word) (slice_set m.seats i (with_offer now s.offer)) m.history)
kept_put m k i s place word now at is =
    subst (λ l. IsKept (machine_of m.shape (slice_set m.words place word) (slice_set m.seats i (with_offer now s.offer)) l)) (append-nil m.history)
    (kept_made m k i s place word now [] at is)

-- it is the machine after the turn
pub put_is : (m : Machine) (i : ℕ) (s : SeatWithOffer) (place word : ℕ) (now : Seat) (es : List Entry) → IsPut m s place word now es
    → machine_of m.shape (slice_set m.words place word) (slice_set m.seats i (with_offer now s.offer)) (m.history ++ es) ≡ taken m i s (next_turn m s)
put_is m i s place word now es is =
    ap (λ (x : Seat). machine_of m.shape (slice_set m.words place word) (slice_set m.seats i (with_offer x s.offer)) (m.history ++ es)) is.seat
    ∙ ap (λ (n : ℕ). machine_of m.shape (slice_set m.words n word) (slice_set m.seats i (with_offer (next_turn m s).seat s.offer)) (m.history ++ es)) is.at
    ∙ ap (λ (n : ℕ). machine_of m.shape (slice_set m.words (next_place m.shape s.seat) n) (slice_set m.seats i (with_offer (next_turn m s).seat s.offer)) (m.history ++ es)) is.word
    ∙ ap (λ (l : List Entry). machine_of m.shape (slice_set m.words (next_place m.shape s.seat) (next_turn m s).word) (slice_set m.seats i (with_offer (next_turn m s).seat s.offer)) (m.history ++ l)) (sym is.made_is)

-- a call that begins, with the parts of the running code
pub begun_is : (m : Machine) (i : ℕ) (s : SeatWithOffer) (phase : Phase) (offer : List EntryWords) (now : Seat) → now ≡ seat s.seat.pass s.seat.refused s.seat.spare s.seat.marked phase
    → machine_of m.shape m.words (slice_set m.seats i (with_offer now offer)) m.history ≡ begun m i s phase offer
begun_is m i s phase offer now is = ap (λ (x : Seat). machine_of m.shape m.words (slice_set m.seats i (with_offer x offer)) m.history) is

-- an element that is there is the one that is read
pub same_there : {A : Type 0} (xs : List A) (i : ℕ) (x y : A) → slice_get xs i ≡ Some x → slice_get xs i ≡ Some y → x ≡ y
same_there xs i x y at there = let both : Some x ≡ Some y = sym at ∙ there in cc

pub read_there : {A : Type 0} (xs : List A) (i : ℕ) (x : A) → i < length xs → x ≡ get_or xs i x → slice_get xs i ≡ Some x
read_there [] i x low is = absurd (omega arith)
read_there (y ∷ xs) zero x low is = ap Some (sym is)
read_there (y ∷ xs) (suc i) x low is = read_there xs i x (omega arith) is

-- a turn's word is in the table
pub put_low : (m : Machine) → IsKept m → (i place word : ℕ) (now : Seat) (es : List Entry) → i < length m.seats
    → ((s : SeatWithOffer) → slice_get m.seats i ≡ Some s → IsPut m s place word now es) → place < length m.words
put_low m k i place word now es low next =
    let d = with_offer (seat 0 None 0 false Idle) [] in
    let s = get_or m.seats i d in
    let at : slice_get m.seats i ≡ Some s = there_is m.seats i d low in
    subst (λ n. n < length m.words) (sym (next s at).at) (turn_there m k i s at).0

-- all these events after others
abbrev pub then_all : Option Machine → List Event → Option Machine
then_all None es = None
then_all (Some m) es = after_all m es

joined : (o : Option Happened) (es ys : List Event) → ((n : Machine) → after_all n (es ++ ys) ≡ then_all (after_all n es) ys)
    → after_first o (λ n. after_all n (es ++ ys)) ≡ then_all (after_first o (λ n. after_all n es)) ys
joined None es ys h = refl
joined (Some n) es ys h = h n.machine

-- one list of events after another
pub after_all-append : (m : Machine) (xs ys : List Event) → after_all m (xs ++ ys) ≡ then_all (after_all m xs) ys
after_all-append m [] ys = refl
after_all-append m (e ∷ es) ys = joined (after_event m e) es ys (λ n. after_all-append n es ys)

pub after_one_more : (m n : Machine) (o : Happened) (events : List Event) (k : ℕ) (e d : Event) → after_all m (take k events) ≡ Some n → k < length events
    → e ≡ get_or events k d → after_event n e ≡ Some o → after_all m (take (k + 1) events) ≡ Some o.machine
after_one_more m n o events k e d so_far low is next =
    ap (after_all m) (take_more events k d low) ∙ after_all-append m (take k events) (get_or events k d ∷ [])
    ∙ ap (λ (x : Option Machine). then_all x (get_or events k d ∷ [])) so_far
    ∙ ap (λ (x : Event). after_first (after_event n x) (λ (y : Machine). Some y)) (sym is) ∙ ap (λ (x : Option Happened). after_first x (λ (y : Machine). Some y)) next

keeps_none : (n : ℕ) (seats : List SeatWithOffer) → some_keeps n seats ≡ false → total (keeps n) (seats_of seats) ≡ 0
keeps_none n [] none = refl
keeps_none n (s ∷ seats) none = by (s.seat.spare == n) refl none (keeps_none n seats) where
  by : (t : Bool) → s.seat.spare == n ≡ t → (t || some_keeps n seats) ≡ false → (some_keeps n seats ≡ false → total (keeps n) (seats_of seats) ≡ 0) → total (keeps n) (seats_of (s ∷ seats)) ≡ 0
  by true e h rest = absurd (true≢false h)
  by false e h rest = let own : keeps n s.seat ≡ 0 = ap one_if e in omega (arith, rest h)

keeps_some : (n : ℕ) (seats : List SeatWithOffer) → some_keeps n seats ≡ true → 1 ≤ total (keeps n) (seats_of seats)
keeps_some n [] some' = absurd (true≢false (sym some'))
keeps_some n (s ∷ seats) some' = by (s.seat.spare == n) refl some' (keeps_some n seats) where
  by : (t : Bool) → s.seat.spare == n ≡ t → (t || some_keeps n seats) ≡ true → (some_keeps n seats ≡ true → 1 ≤ total (keeps n) (seats_of seats)) → 1 ≤ total (keeps n) (seats_of (s ∷ seats))
  by true e h rest = let own : keeps n s.seat ≡ 1 = ap one_if e in omega arith
  by false e h rest = omega (arith, rest h)

module _ (m : Machine) (k : IsKept m) (n : ℕ) where
  -- a number of the table that the claim word has given out, and that is no spare, is known
  pub known_given : n ≢ 0 → n ≤ m.shape.nodes → n ≤ slice_index m.words claim_at → some_keeps n m.seats ≡ false → is_known n m.history ≡ true
  known_given some_n low given none =
      let e = k.kept.shared.each n (omega arith) in
      let spares = keeps_none n m.seats none in
      let one : one_if (nat_le n (given_out m.shape m.words)) ≡ 1 = grind (arith, nat_tests) in
      let pos : 0 < uses n (known m.history) = omega arith in
      grind (arith, nat_tests)

  -- and no other is
  pub unknown_zero : n ≡ 0 → is_known n m.history ≡ false
  unknown_zero e = let z : uses n (known m.history) ≡ 0 = ap (λ i. uses i (known m.history)) e ∙ k.kept.shared.numbers in grind (arith, nat_tests)

  pub unknown_above : m.shape.nodes < n → is_known n m.history ≡ false
  unknown_above high =
      let e = k.kept.shared.each n (omega arith) in
      let none : one_if (nat_le n (given_out m.shape m.words)) ≡ 0 = grind (arith, nat_tests) in
      let z : uses n (known m.history) ≡ 0 = omega arith in
      grind (arith, nat_tests)

  pub unknown_later : slice_index m.words claim_at < n → is_known n m.history ≡ false
  unknown_later high =
      let e = k.kept.shared.each n (omega arith) in
      let none : one_if (nat_le n (given_out m.shape m.words)) ≡ 0 = grind (arith, nat_tests) in
      let z : uses n (known m.history) ≡ 0 = omega arith in
      grind (arith, nat_tests)

  pub unknown_spare : n ≢ 0 → some_keeps n m.seats ≡ true → is_known n m.history ≡ false
  unknown_spare some_n kept =
      let e = k.kept.shared.each n (omega arith) in
      let spares = keeps_some n m.seats kept in
      let most : one_if (nat_le n (given_out m.shape m.words)) ≤ 1 = grind (arith, nat_tests) in
      let z : uses n (known m.history) ≡ 0 = omega arith in
      grind (arith, nat_tests)

  pub known_unless_spare : n ≢ 0 → n ≤ m.shape.nodes → n ≤ slice_index m.words claim_at → (t : Bool) → t ≡ some_keeps n m.seats → not t ≡ is_known n m.history
  known_unless_spare some_n low given true e = sym (unknown_spare some_n (sym e))
  known_unless_spare some_n low given false e = sym (known_given some_n low given (sym e))

module _ (m : Machine) (k : IsKept m) (n at : ℕ) where
  -- no number has a list but those of the table
  pub no_listing : (n ≡ 0) ⊎ (m.shape.nodes < n) → false ≡ is_longer at (listing_in m.history n)
  no_listing out = by (listing_in m.history n) refl where
    by : (o : Option Listing) → listing_in m.history n ≡ o → false ≡ is_longer at o
    by None e = refl
    by (Some l) e =
        let there = listing_known m.shape m.history k.kept.legal n l e in
        let small = known_small m.shape m.words (seats_of m.seats) m.history k.kept n there in
        let pos = small.0 in
        let low = small.1 in
        absurd (⊎_elim (λ (z : n ≡ 0). omega arith) (λ (h : m.shape.nodes < n). omega arith) out)

  -- a list word of 0 is no list's
  pub no_list_word : 0 < n → n ≤ m.shape.nodes → slice_index m.words (list_at n) ≡ 0 → false ≡ is_longer at (listing_in m.history n)
  no_list_word pos low empty = ap (is_longer at) (sym (no_list m.shape m.words (slice_index m.words (list_at n)) (listing_in m.history n) (k.kept.image.lists n pos low) empty))

  -- and another has the list's length
  pub list_word_length : 0 < n → n ≤ m.shape.nodes → slice_index m.words (list_at n) ≢ 0
      → nat_lt at (slice_index m.words (list_at n) % 2 ^ 32) ≡ is_longer at (listing_in m.history n)
  list_word_length pos low some_list = by (listing_in m.history n) (k.kept.image.lists n pos low) where
    by : (o : Option Listing) → IsListWord m.shape m.words (slice_index m.words (list_at n)) o → nat_lt at (slice_index m.words (list_at n) % 2 ^ 32) ≡ is_longer at o
    by None h = absurd (some_list h)
    by (Some l) h =
        let is = h.1 in
        let fits = h.2 in
        let few = k.kept.ranges.entries_fit in
        let same : slice_index m.words (list_at n) % 2 ^ 32 ≡ length l.words = omega arith in
        ap (nat_lt at) same
