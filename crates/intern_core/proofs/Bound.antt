-- Two seats ask for one key, and the second takes as many events as the bound allows.
use Rattle.std.proofs.Common.{◌≡◌, ℕ, ◌+◌, ◌*◌, ◌||◌, Bool, false, true, List, [], ◌∷◌, ◌++◌, length, refl, sym, ap, ◌∙◌, None}
use Rattle.std.proofs.lemmas.Bool.{true≢false}
use Rattle.intern_core.specs.declared.shape.Shape.{Shape}
use Rattle.intern_core.specs.declared.history.Key.{Key}
use Rattle.intern_core.specs.declared.history.Reply.TheVariants.{Num}
use Rattle.intern_core.specs.declared.history.Entry.TheVariants.{Call}
use Rattle.intern_core.specs.declared.seat.Phase.TheVariants.{Idle, AtTwo}
use Rattle.intern_core.specs.declared.event.Act.{Act}
use Rattle.intern_core.specs.declared.event.Act.TheVariants.{Ask, Claim, StoreOne, StoreTwo, LoadLink, LoadOne, LoadTwo, SwapLink}
use Rattle.intern_core.specs.declared.event.Event.{Event}
use Rattle.intern_core.specs.Layout.{bucket_with}
use Rattle.intern_core.specs.Turns.{seat}
use Rattle.intern_core.specs.Machine.{Machine, with_offer}
use Rattle.intern_core.specs.Pace.{asks, own_events, known_beside, BeginsNoAsk, IsAnsweredAsk}

abbrev begins_ask : Act → Bool
begins_ask (Ask key) = true
begins_ask other = false

abbrev some_ask : List Event → Bool
some_ask [] = false
some_ask (e ∷ es) = begins_ask e.act || some_ask es

ask_among : (first rest : List Event) (i : ℕ) (key : Key) → some_ask (first ++ asks i key ∷ rest) ≡ true
ask_among [] rest i key = refl
ask_among (e ∷ first) rest i key = by (begins_ask e.act) (ask_among first rest i key) where
  by : (t : Bool) → some_ask (first ++ asks i key ∷ rest) ≡ true → (t || some_ask (first ++ asks i key ∷ rest)) ≡ true
  by true h = refl
  by false h = h

no_ask : (es : List Event) (i : ℕ) → some_ask es ≡ false → BeginsNoAsk i es
no_ask es i none first rest key is = true≢false (sym (ask_among first rest i key) ∙ ap some_ask (sym is) ∙ none)

abbrev does : ℕ → Act → Event
does i act = record { seat = i; act = act }

abbrev key_asked : Key
key_asked = record { one = 4; two = 0 }

abbrev two_seats : Shape
two_seats = record { nodes = 2; bucket_bits = 0; entries = 0; passes = 2 }

abbrev first_ask : List Event
first_ask = asks 0 key_asked ∷ []

abbrev then_both : List Event
then_both =
    does 0 Claim ∷ does 1 Claim ∷ does 0 StoreOne ∷ does 0 StoreTwo ∷ does 1 StoreOne ∷ does 1 StoreTwo ∷ does 0 LoadLink ∷ does 1 LoadLink
    ∷ does 0 SwapLink ∷ does 1 SwapLink ∷ does 1 LoadOne ∷ []

abbrev words_then : List ℕ
words_then = 2 ∷ 0 ∷ 0 ∷ 0 ∷ 4 ∷ 0 ∷ 0 ∷ 0 ∷ 4 ∷ 0 ∷ 0 ∷ 0 ∷ 1 ∷ []

abbrev machine_before : Machine
machine_before = record {
  shape = two_seats;
  words = words_then;
  seats = with_offer (seat 0 None 0 false Idle) [] ∷ with_offer (seat 1 None 2 false (AtTwo key_asked 1 0)) [] ∷ [];
  history = Call 0 key_asked (Num 1) ∷ [];
}

abbrev pub machine_after : Machine
machine_after = record {
  shape = two_seats;
  words = words_then;
  seats = with_offer (seat 0 None 0 false Idle) [] ∷ with_offer (seat 1 None 2 false Idle) [] ∷ [];
  history = Call 0 key_asked (Num 1) ∷ Call 1 key_asked (Num 1) ∷ [];
}

reaches : IsAnsweredAsk two_seats first_ask then_both 1 key_asked (does 1 LoadTwo) machine_after
unfolding bucket_with
reaches = record { own = refl; once = no_ask then_both 1 refl; earlier = machine_before; runs = refl; reply = Num 1; answered = refl }

seven : length (own_events 1 (then_both ++ does 1 LoadTwo ∷ [])) ≡ 4 * known_beside two_seats machine_after.history key_asked + 3
unfolding bucket_with
seven = refl

pub reached : (shape : Shape) × (before between : List Event) × (key : Key) × (last : Event) × (m : Machine)
    × IsAnsweredAsk shape before between 1 key last m × (length (own_events 1 (between ++ last ∷ [])) ≡ 4 * known_beside shape m.history key + 3)
reached = (two_seats, first_ask, then_both, key_asked, does 1 LoadTwo, machine_after, reaches, seven)
