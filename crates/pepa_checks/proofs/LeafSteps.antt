-- An expression that is put into the table of leaves.
use Rattle.std.proofs.Common.{◌≡◌, ℕ, suc, ◌+◌, nat_lt, Bool, true, false, not, cond, ◌&&◌, ◌||◌, ◌==◌, if◌then◌else◌, List, [], ◌∷◌, ◌++◌, map, length, unwrap_or, nat_eq, Some, None, refl, sym, ap, ◌∙◌, subst, slice_get, true≢false}
use Rattle.std.specs.List.{AllZip, list_any, prefix_len}
use Rattle.std.specs.Cmp.{both_ways, first_so, second_so, unsigned_Decides}
use Rattle.std.proofs.lemmas.List.{map-append}
use Rattle.indexmap.specs.IndexSet.{insert_key}
use Rattle.pepa_rates.specs.Fraction.{Fraction}
use Rattle.pepa_rates.specs.declared.rate.Rate.{Rate}
use Rattle.pepa_rates.specs.declared.rate.Rate.TheVariants.{Active, Passive}
use Rattle.pepa_model.specs.declared.term.Sequential.{Sequential}
use Rattle.pepa_model.specs.Expression.{Expression, Const, Prefixed, Chosen, expression_of}
use Rattle.pepa_model.specs.Leaves.{same_rate, same_expression, position_of}
use Rattle.pepa_checks.specs.declared.summand.Summand.{Summand}
use Rattle.pepa_checks.specs.declared.leaf_table.LeafTable.{LeafTable}
use Rattle.pepa_checks.specs.LeafTables.{with_expression, Text, IsChoiceOf, IsNodeAt, IsLeafTable, AddsNode, place_by}
use Rattle.pepa_checks.proofs.ListReads.{one_read}

-- ---- the test of expressions holds where they are the same

both : (b c : Bool) → b ≡ true → c ≡ true → (b && c) ≡ true
both b c p q = λ i. p i && q i

number_itself : (n : ℕ) → (n == n) ≡ true
number_itself n = (unsigned_Decides n n).1 refl

fraction_same : (p q : Fraction) → ((p.num == q.num) && (p.den == q.den)) ≡ true → p ≡ q
fraction_same p q h =
    let nums : p.num ≡ q.num = (unsigned_Decides p.num q.num).0 (first_so (p.num == q.num) (p.den == q.den) h) in
    let dens : p.den ≡ q.den = (unsigned_Decides p.den q.den).0 (second_so (p.num == q.num) (p.den == q.den) h) in
    λ i. record { num = nums i; den = dens i }

rate_same : (r s : Rate) → same_rate r s ≡ true → r ≡ s
rate_same (Active p) (Active q) h = ap Active (fraction_same p q h)
rate_same (Passive p) (Passive q) h = ap Passive (fraction_same p q h)
rate_same (Active p) (Passive q) h = absurd (true≢false (sym h))
rate_same (Passive p) (Active q) h = absurd (true≢false (sym h))

rate_itself : (r : Rate) → same_rate r r ≡ true
rate_itself (Active p) = both (p.num == p.num) (p.den == p.den) (number_itself p.num) (number_itself p.den)
rate_itself (Passive p) = both (p.num == p.num) (p.den == p.den) (number_itself p.num) (number_itself p.den)

pub expression_same : (e f : Expression) → same_expression e f ≡ true → e ≡ f
expression_same (Const c) (Const d) h = ap Const ((unsigned_Decides c d).0 h)
expression_same (Prefixed a r x) (Prefixed b s y) h =
    let rest = second_so (a == b) (same_rate r s && same_expression x y) h in
    let actions : a ≡ b = (unsigned_Decides a b).0 (first_so (a == b) (same_rate r s && same_expression x y) h) in
    let rates : r ≡ s = rate_same r s (first_so (same_rate r s) (same_expression x y) rest) in
    let nexts : x ≡ y = expression_same x y (second_so (same_rate r s) (same_expression x y) rest) in
    λ i. Prefixed (actions i) (rates i) (nexts i)
expression_same (Chosen x y) (Chosen v w) h =
    let lefts : x ≡ v = expression_same x v (first_so (same_expression x v) (same_expression y w) h) in
    let rights : y ≡ w = expression_same y w (second_so (same_expression x v) (same_expression y w) h) in
    λ i. Chosen (lefts i) (rights i)
expression_same (Const c) (Prefixed b s y) h = absurd (true≢false (sym h))
expression_same (Const c) (Chosen v w) h = absurd (true≢false (sym h))
expression_same (Prefixed a r x) (Const d) h = absurd (true≢false (sym h))
expression_same (Prefixed a r x) (Chosen v w) h = absurd (true≢false (sym h))
expression_same (Chosen x y) (Const d) h = absurd (true≢false (sym h))
expression_same (Chosen x y) (Prefixed b s z) h = absurd (true≢false (sym h))

pub expression_itself : (e : Expression) → same_expression e e ≡ true
expression_itself (Const c) = number_itself c
expression_itself (Prefixed a r x) = both (a == a) (same_rate r r && same_expression x x) (number_itself a) (both (same_rate r r) (same_expression x x) (rate_itself r) (expression_itself x))
expression_itself (Chosen x y) = both (same_expression x x) (same_expression y y) (expression_itself x) (expression_itself y)

pub expression_equal : (e f : Expression) → e ≡ f → same_expression e f ≡ true
expression_equal e f is = subst (λ g. same_expression e g ≡ true) is (expression_itself e)

-- ---- nodes in place of expressions

module _ (text : Text) (number : ℕ) (e : Expression) (is : IsNodeAt text.nodes number e) where
  agree : (n : ℕ) (f : Expression) → IsNodeAt text.nodes n f → nat_eq number n ≡ same_expression e f
  agree n f other =
      both_ways (nat_eq number n) (same_expression e f)
      (λ same. expression_equal e f (one_read (slice_get text.nodes n) e f (subst (λ k. slice_get text.nodes k ≡ Some e) ((unsigned_Decides number n).0 same) is) other))
      (λ same. (unsigned_Decides number n).1 (text.apart number n f (is ∙ ap Some (expression_same e f same)) other))

  pub any_agree : (numbers : List ℕ) (leaves : List Expression) → AllZip (IsNodeAt text.nodes) numbers leaves → list_any (nat_eq number) numbers ≡ list_any (same_expression e) leaves
  any_agree [] [] h = refl
  any_agree [] (f ∷ leaves) h = absurd h
  any_agree (n ∷ numbers) [] h = absurd h
  any_agree (n ∷ numbers) (f ∷ leaves) h = λ i. agree n f h.0 i || any_agree numbers leaves h.1 i

  prefix_agree : (numbers : List ℕ) (leaves : List Expression) → AllZip (IsNodeAt text.nodes) numbers leaves → prefix_len (λ n. not (nat_eq number n)) numbers ≡ prefix_len (λ f. not (same_expression e f)) leaves
  prefix_agree [] [] h = refl
  prefix_agree [] (f ∷ leaves) h = absurd h
  prefix_agree (n ∷ numbers) [] h = absurd h
  prefix_agree (n ∷ numbers) (f ∷ leaves) h = λ i. cond (not (agree n f h.0 i)) (1 + prefix_agree numbers leaves h.1 i) 0

  pub place_agree : (numbers : List ℕ) (leaves : List Expression) → AllZip (IsNodeAt text.nodes) numbers leaves → place_by numbers number ≡ position_of same_expression leaves e
  place_agree numbers leaves h =
      λ i. unwrap_or (cond (nat_lt (prefix_agree numbers leaves h i) (as_long numbers leaves h i)) (Some (prefix_agree numbers leaves h i)) None) 0
    where
      as_long : (ns : List ℕ) (fs : List Expression) → AllZip (IsNodeAt text.nodes) ns fs → length ns ≡ length fs
      as_long [] [] g = refl
      as_long [] (f ∷ fs) g = absurd g
      as_long (n ∷ ns) [] g = absurd g
      as_long (n ∷ ns) (f ∷ fs) g = ap suc (as_long ns fs g.1)

-- ---- an expression more

zip_push : {X Y : Type 0} (R : X → Y → Type 0) (xs : List X) (ys : List Y) (x : X) (y : Y) → AllZip R xs ys → R x y → AllZip R (xs ++ x ∷ []) (ys ++ y ∷ [])
zip_push R [] [] x y h r = (r, tt)
zip_push R [] (z ∷ ys) x y h r = absurd h
zip_push R (z ∷ xs) [] x y h r = absurd h
zip_push R (z ∷ xs) (w ∷ ys) x y h r = (h.0, zip_push R xs ys x y h.1 r)

not_true : (b : Bool) → not b ≡ true → b ≡ false
not_true true e = sym e
not_true false e = refl

not_false : (b : Bool) → not b ≡ false → b ≡ true
not_false true e = refl
not_false false e = sym e

pub adds_new : (old new : LeafTable) (number : ℕ) (expression : Sequential) (operands : List Summand) (added : Bool)
    → added ≡ not (list_any (nat_eq number) old.numbers.keys)
    → added ≡ true
    → new.numbers.keys ≡ insert_key nat_eq old.numbers.keys number
    → new.expressions ≡ old.expressions ++ expression ∷ []
    → new.operands ≡ old.operands ++ operands ∷ []
    → AddsNode old new number (expression_of expression) operands
adds_new old new number expression operands added told is_new keys longer more = λ text leaves is table chosen.
    let e = expression_of expression in
    let fresh : list_any (nat_eq number) old.numbers.keys ≡ false = not_true (list_any (nat_eq number) old.numbers.keys) (sym told ∙ is_new) in
    let unlisted : list_any (same_expression e) leaves ≡ false = sym (any_agree text number e is old.numbers.keys leaves table.numbers_are) ∙ fresh in
    let keys_are : new.numbers.keys ≡ old.numbers.keys ++ number ∷ [] = keys ∙ ap (λ b. if b then old.numbers.keys else old.numbers.keys ++ number ∷ []) fresh in
    let leaves_are : with_expression leaves e ≡ leaves ++ e ∷ [] = ap (λ b. if b then leaves else leaves ++ e ∷ []) unlisted in
    subst (λ l. IsLeafTable text l new) (sym leaves_are) (record {
      numbers_are = subst (λ k. AllZip (IsNodeAt text.nodes) k (leaves ++ e ∷ [])) (sym keys_are) (zip_push (IsNodeAt text.nodes) old.numbers.keys leaves number e table.numbers_are is);
      expressions_are = ap (map expression_of) longer ∙ map-append expression_of old.expressions (expression ∷ []) ∙ ap (λ l. l ++ e ∷ []) table.expressions_are;
      operands_are = subst (λ l. AllZip (IsChoiceOf text) (leaves ++ e ∷ []) l) (sym more) (zip_push (IsChoiceOf text) leaves old.operands e operands table.operands_are (chosen unlisted));
    })

pub adds_old : (old new : LeafTable) (number : ℕ) (e : Expression) (operands : List Summand)
    → list_any (nat_eq number) old.numbers.keys ≡ true
    → new.numbers.keys ≡ old.numbers.keys
    → new.expressions ≡ old.expressions
    → new.operands ≡ old.operands
    → AddsNode old new number e operands
adds_old old new number e operands there keys same kept = λ text leaves is table chosen.
    let listed : list_any (same_expression e) leaves ≡ true = sym (any_agree text number e is old.numbers.keys leaves table.numbers_are) ∙ there in
    let leaves_are : with_expression leaves e ≡ leaves = ap (λ b. if b then leaves else leaves ++ e ∷ []) listed in
    subst (λ l. IsLeafTable text l new) (sym leaves_are) (record {
      numbers_are = subst (λ k. AllZip (IsNodeAt text.nodes) k leaves) (sym keys) table.numbers_are;
      expressions_are = ap (map expression_of) same ∙ table.expressions_are;
      operands_are = subst (λ l. AllZip (IsChoiceOf text) leaves l) (sym kept) table.operands_are;
    })

pub adds_again : (old new : LeafTable) (number : ℕ) (e : Expression) (operands : List Summand) (added : Bool)
    → added ≡ not (list_any (nat_eq number) old.numbers.keys)
    → added ≡ false
    → new.numbers.keys ≡ insert_key nat_eq old.numbers.keys number
    → new.expressions ≡ old.expressions
    → new.operands ≡ old.operands
    → AddsNode old new number e operands
adds_again old new number e operands added told no_more keys same kept =
    let there : list_any (nat_eq number) old.numbers.keys ≡ true = not_false (list_any (nat_eq number) old.numbers.keys) (sym told ∙ no_more) in
    adds_old old new number e operands there (keys ∙ ap (λ b. if b then old.numbers.keys else old.numbers.keys ++ number ∷ []) there) same kept
