-- The table of an expression, after events that were heard.
use Rattle.std.proofs.Common.{◌≡◌, ◌==◌, ◌<◌, ℕ, zero, eq-eqb, arith, if◌then◌else◌, Bool, true, false, List, [], ◌∷◌, ◌++◌, map, ◌⊎◌, ◌↔◌, inl, inr, refl, sym, ap, ◌∙◌, subst, append_assoc, Option, Some, None}
use Rattle.std.specs.Prelude.{bit_or, length, ◌+◌, ◌*◌, ◌^◌, slice_index}
use Rattle.std.proofs.lemmas.List.{append-nil, get_or_past}
use Rattle.probe_words.specs.declared.letter.Letter.{Letter}
use Rattle.probe_words.specs.declared.probe.ProbeTable.{ProbeTable}
use Rattle.probe_words.specs.Sets.{HasMember}
use Rattle.probe_words.specs.Twins.{condition_of}
use Rattle.probe_words.specs.Words.{Pattern}
use Rattle.probe_words.specs.Hearing.{ProbeEvent, IsHeard, Hear}
use Rattle.probe_words.proofs.Sets.{split_lt, has_none, has_or, or_left, or_right}
use Rattle.probe_automata.specs.TableMoves.{letter_place, ignored_at, move_for, valuation_of, event_move, table_moves, IsEventAnswer, AnswerAsHeard}
use Rattle.probe_automata.proofs.Hears.{all_answered, start_state}
use Rattle.probe_hearing.specs.declared.hearing.Heard.{Heard}
use Rattle.probe_hearing.specs.Watching.{event_of, letters_of, HearsAll, IsWatched}
use Rattle.probe_hearing.specs.TableHearing.{IsTableOfExpression, HasHeard, state_by, TableLeadsTo, AnswersAfter, heard_letter, heard_letters, heard_by}
use Rattle.probe_hearing.proofs.WordsHeard.{heard_next, shorter}

pub at_start : (p : Pattern) (t : ProbeTable) → TableLeadsTo p t [] 0
at_start p t = (([], ([], [], (zero, refl), refl, tt), tt), refl)

state_more : (t : ProbeTable) (q : ℕ) (h : List ProbeEvent) (e : ProbeEvent) → state_by t q (h ++ e ∷ []) ≡ (event_move t (state_by t q h) e).state
state_more t q [] e = refl
state_more t q (d ∷ h) e = state_more t (event_move t q d).state h e

-- an ignored event leaves the state
ignored_stays : (t : ProbeTable) (q : ℕ) (e : ProbeEvent) → (event_move t q e).heard ≡ false → (event_move t q e).state ≡ q
ignored_stays t q e = go (letter_place e.letter 0 t.letters)
  where
    at_target : (target : ℕ) (b : Bool) → (if b then ignored_at q else record { state = target; signals = slice_index t.signals target; heard = true }).heard ≡ false → (if b then ignored_at q else record { state = target; signals = slice_index t.signals target; heard = true }).state ≡ q
    at_target target true n = refl
    at_target target false n = absurd cc

    go : (o : Option ℕ) → (move_for t q (valuation_of e.counts (map condition_of t.guards)) o).heard ≡ false → (move_for t q (valuation_of e.counts (map condition_of t.guards)) o).state ≡ q
    go None n = refl
    go (Some a) n =
        let target : ℕ = slice_index t.moves (q * (length t.letters * 2 ^ length t.guards) + (a * 2 ^ length t.guards + valuation_of e.counts (map condition_of t.guards))) in
        at_target target (target == 65535) n

-- the state of an answer is one of the table's
move_inside : (t : ProbeTable) (q : ℕ) (e : ProbeEvent) → q < t.states → (event_move t q e).state < t.states
move_inside t q e l = go (letter_place e.letter 0 t.letters)
  where
    at_target : (i : ℕ) (b : Bool) → (slice_index t.moves i == 65535) ≡ b → (if b then ignored_at q else record { state = slice_index t.moves i; signals = slice_index t.signals (slice_index t.moves i); heard = true }).state < t.states
    at_target i true k = l
    at_target i false k =
        elim (split_lt i (length t.moves)) [
          | inl w ↦ t.shape.targets i w (λ same. let r = eq-eqb (slice_index t.moves i) 65535 same in cc)
          | inr w ↦ (let none = get_or_past t.moves i 0 w in omega arith)
        ]

    go : (o : Option ℕ) → (move_for t q (valuation_of e.counts (map condition_of t.guards)) o).state < t.states
    go None = l
    go (Some a) =
        let i : ℕ = q * (length t.letters * 2 ^ length t.guards) + (a * 2 ^ length t.guards + valuation_of e.counts (map condition_of t.guards)) in
        at_target i (slice_index t.moves i == 65535) refl

state_inside : (t : ProbeTable) (q : ℕ) (h : List ProbeEvent) → q < t.states → state_by t q h < t.states
state_inside t q [] l = l
state_inside t q (e ∷ h) l = state_inside t (event_move t q e).state h (move_inside t q e l)

-- each state to which the table leads is one of its own
pub leads_inside : (p : Pattern) (t : ProbeTable) (h : List ProbeEvent) (q : ℕ) → IsTableOfExpression p t → TableLeadsTo p t h q → q < t.states
leads_inside p t h q (proper, (ps, are, (sets, leads, is))) (f, s) =
    let start = start_state p proper ps are t sets leads is in
    let some : 0 < t.states = (let a = start.inside in let b = is.states_are in omega arith) in
    subst (λ (z : ℕ). z < t.states) s (state_inside t 0 h some)

-- the answer after some events, of the answers to them all
along : (p : Pattern) (t : ProbeTable) (h done : List ProbeEvent) (q : ℕ) (e : ProbeEvent) → HasHeard p (done ++ h) → AnswerAsHeard p done (h ++ e ∷ []) (table_moves t q (h ++ e ∷ [])) → IsEventAnswer p (done ++ h) e (event_move t (state_by t q h) e)
along p t [] done q e f a = subst (λ (z : List ProbeEvent). IsEventAnswer p z e (event_move t q e)) (sym (append-nil done)) a.0
along p t (d ∷ h) done q e f (a, (next, hear, rest)) =
    let moved : (done ++ d ∷ []) ++ h ≡ done ++ d ∷ h = append_assoc done (d ∷ []) h in
    let whole : HasHeard p ((done ++ d ∷ []) ++ h) = subst (λ (z : List ProbeEvent). HasHeard p z) (sym moved) f in
    let is : next ≡ done ++ d ∷ [] = heard_next p done d next hear (shorter p (done ++ d ∷ []) h whole) in
    subst (λ (z : List ProbeEvent). IsEventAnswer p z e (event_move t (state_by t (event_move t q d).state h) e)) moved
    (along p t h (done ++ d ∷ []) (event_move t q d).state e whole (subst (λ (z : List ProbeEvent). AnswerAsHeard p z (h ++ e ∷ []) (table_moves t (event_move t q d).state (h ++ e ∷ []))) is rest))

pub answers_after : (p : Pattern) (t : ProbeTable) (h : List ProbeEvent) (q : ℕ) (e : ProbeEvent) → IsTableOfExpression p t → TableLeadsTo p t h q → AnswersAfter p t h q e
answers_after p t h q e (proper, (ps, are, (sets, leads, is))) (f, s) =
    let all = all_answered p proper ps are t sets leads is (h ++ e ∷ []) [] 0 (start_state p proper ps are t sets leads is) in
    let right : IsEventAnswer p h e (event_move t q e) = subst (λ (z : ℕ). IsEventAnswer p h e (event_move t z e)) s (along p t h [] 0 e f all) in
    (right, by_bit (event_move t q e).heard refl right.0)
  where
    by_bit : (b : Bool) → (event_move t q e).heard ≡ b → ((event_move t q e).heard ≡ true) ↔ IsHeard p h e → (next : List ProbeEvent) × Hear p h e next × TableLeadsTo p t next (event_move t q e).state
    by_bit true k w = (h ++ e ∷ [], inl (w.0 k, refl), (w.0 k, state_more t 0 h e ∙ ap (λ (z : ℕ). (event_move t z e).state) s))
    by_bit false k w = (h, inr ((λ g. let r = w.1 g in cc), refl), (f, s ∙ sym (ignored_stays t q e k)))

module _ (p : Pattern) (t : ProbeTable) (is : IsTableOfExpression p t) where
  -- there is a result after each list that was heard
  pub some_end : (es h : List ProbeEvent) (q : ℕ) → TableLeadsTo p t h q → (next : List ProbeEvent) × (sent : ℕ) × HearsAll p h es next sent × TableLeadsTo p t next (state_by t q es)
  some_end [] h q leads = (h, 0, (refl, λ l. has_none l), leads)
  some_end (e ∷ es) h q leads =
      let (right, (mid, hear, lead)) = answers_after p t h q e is leads in
      let (next, later, all, ends) = some_end es mid (event_move t q e).state lead in (
        next,
        bit_or (event_move t q e).signals later,
        (
          mid,
          later,
          hear,
          all,
          λ l. (
            λ m. elim (has_or (event_move t q e).signals later l m) [ inl k ↦ inl ((right.1 l).0 k) | inr k ↦ inr k ],
            λ s. elim s [ inl o ↦ or_left (event_move t q e).signals later l ((right.1 l).1 o) | inr k ↦ or_right (event_move t q e).signals later l k ],
          ),
        ),
        ends,
      )

  module _ (counts : List ℕ) where
    abbrev v : ℕ
    v = valuation_of counts (map condition_of t.guards)

    -- the letters of one moment, one after another
    letters_heard : (letters : List Letter) (h : List ProbeEvent) (before : Heard) → TableLeadsTo p t h before.state
        → (next : List ProbeEvent) × (sent : ℕ) × HearsAll p h (map (event_of counts) letters) next sent × ((l : ℕ) → HasMember (heard_letters t v before letters).signals l ↔ (HasMember before.signals l ⊎ HasMember sent l)) × TableLeadsTo p t next (heard_letters t v before letters).state
    letters_heard [] h before leads = (h, 0, (refl, λ l. has_none l), λ l. (λ m. inl m, λ s. elim s [ inl m ↦ m | inr m ↦ absurd (has_none l m) ]), leads)
    letters_heard (a ∷ letters) h before leads =
        let e : ProbeEvent = event_of counts a in
        let here : ℕ = (event_move t before.state e).signals in
        let (right, (mid, hear, lead)) = answers_after p t h before.state e is leads in
        let (next, later, all, members, ends) = letters_heard letters mid (heard_letter t v before a) lead in (
          next,
          bit_or here later,
          (
            mid,
            later,
            hear,
            all,
            λ l. (
              λ m. elim (has_or here later l m) [ inl k ↦ inl ((right.1 l).0 k) | inr k ↦ inr k ],
              λ s. elim s [ inl o ↦ or_left here later l ((right.1 l).1 o) | inr k ↦ or_right here later l k ],
            ),
          ),
          λ l. (
            λ m. elim ((members l).0 m) [
              | inl k ↦ (elim (has_or before.signals here l k) [ inl j ↦ inl j | inr j ↦ inr (or_left here later l j) ])
              | inr k ↦ inr (or_right here later l k)
            ],
            λ s. (members l).1 (elim s [
              | inl k ↦ inl (or_left before.signals here l k)
              | inr k ↦ (elim (has_or here later l k) [ inl j ↦ inl (or_right before.signals here l j) | inr j ↦ inr j ])
            ]),
          ),
          ends,
        )

    pub transition_heard : (h : List ProbeEvent) (q action signals : ℕ) → TableLeadsTo p t h q
        → (next : List ProbeEvent) × IsWatched p h action signals counts next (heard_by t q v action signals).signals × TableLeadsTo p t next (heard_by t q v action signals).state
    transition_heard h q action signals leads =
        let (next, sent, all, members, ends) = letters_heard (letters_of action signals) h (record { state = q; signals = signals }) leads in
        (next, (sent, all, members), ends)

    -- the same of a result that is the table's under this valuation
    pub result_heard : (h : List ProbeEvent) (q w action signals : ℕ) (result : Heard) → TableLeadsTo p t h q → w ≡ valuation_of counts (map condition_of t.guards) → result ≡ heard_by t q w action signals
        → (next : List ProbeEvent) × IsWatched p h action signals counts next result.signals × TableLeadsTo p t next result.state
    result_heard h q w action signals result leads is_valuation is_result =
        let e : heard_by t q v action signals ≡ result = sym (is_result ∙ ap (λ (z : ℕ). heard_by t q z action signals) is_valuation) in
        subst (λ (z : Heard). (next : List ProbeEvent) × IsWatched p h action signals counts next z.signals × TableLeadsTo p t next z.state) e (transition_heard h q action signals leads)
