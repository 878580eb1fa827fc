-- In a legal history each number is of one key.
use Rattle.std.proofs.Common.{◌≡◌, ◌≢◌, ◌==◌, ℕ, ◌+◌, ◌≤◌, ⊎_elim, List, [], ◌∷◌, ◌++◌, sym, ap, ◌∙◌, subst, arith, append_assoc, append-nil, Option, Some, None}
use Rattle.std.proofs.lemmas.Bool.{cases_eq, ne_eqb, eq-eqb}
use Rattle.intern_core.specs.declared.shape.Shape.{Shape}
use Rattle.intern_core.specs.declared.history.Key.{Key}
use Rattle.intern_core.specs.declared.history.Reply.TheVariants.{Num, Full}
use Rattle.intern_core.specs.declared.history.Entry.{Entry}
use Rattle.intern_core.specs.declared.history.Entry.TheVariants as entry
use Rattle.intern_core.specs.History.{Known, known, uses, one_if, learnt, with_key, number_in, MayAnswer, Meets, IsLegal, IsLegalAfter, HasOneNumberPerKey}
use Rattle.intern_core.proofs.Histories.{known_more, uses-append}
use Rattle.intern_core.proofs.Numbers.{one_number_per_key}

once_with : (shape : Shape) (seen : List Known) (key : Key) (m : ℕ) (o : Option ℕ) → MayAnswer shape seen o (Num m) → ((n : ℕ) → uses n seen ≤ 1)
    → (n : ℕ) → uses n (with_key seen key m o) ≤ 1
once_with shape seen key m (Some k) may once n = once n
once_with shape seen key m None may once n =
    let x : Known = record { number = m; key = key } in
    let split : uses n (seen ++ x ∷ []) ≡ uses n seen + uses n (x ∷ []) = uses-append n seen (x ∷ []) in
    ⊎_elim
    (λ (e : m ≡ n).
    let one : one_if (m == n) ≡ 1 = ap one_if (eq-eqb m n e) in
    let none : uses n seen ≡ 0 = ap (λ (k : ℕ). uses k seen) (sym e) ∙ may.2 in
    omega arith)
    (λ (ne : m ≢ n).
    let zero : one_if (m == n) ≡ 0 = ap one_if (ne_eqb m n ne) in
    let low = once n in
    omega arith)
    (cases_eq m n)

once_more : (shape : Shape) (before : List Entry) (e : Entry) → Meets shape before e → ((n : ℕ) → uses n (known before) ≤ 1) → (n : ℕ) → uses n (learnt (known before) e) ≤ 1
once_more shape before (entry.Call pass key (Num m)) meets once n = once_with shape (known before) key m (number_in (known before) key) meets.1 once n
once_more shape before (entry.Call pass key Full) meets once n = once n
once_more shape before (entry.List pass number words) meets once n = once n
once_more shape before (entry.Lost pass number len) meets once n = once n

legal_once : (shape : Shape) (before xs : List Entry) → ((n : ℕ) → uses n (known before) ≤ 1) → IsLegalAfter shape before xs → (n : ℕ) → uses n (known (before ++ xs)) ≤ 1
legal_once shape before [] once legal n = subst (λ l. uses n (known l) ≤ 1) (sym (append-nil before)) (once n)
legal_once shape before (x ∷ xs) once legal n =
    let more : (k : ℕ) → uses k (known (before ++ x ∷ [])) ≤ 1 = λ k. subst (λ l. uses k l ≤ 1) (sym (known_more before x)) (once_more shape before x legal.0 once k) in
    subst (λ l. uses n (known l) ≤ 1) (append_assoc before (x ∷ []) xs) (legal_once shape (before ++ x ∷ []) xs more legal.1 n)

pub one_number_each : (shape : Shape) (history : List Entry) → IsLegal shape history → HasOneNumberPerKey history
one_number_each shape history legal = one_number_per_key shape history legal (legal_once shape [] history (λ n. omega arith) legal)
