-- The rates of a file have one list of values, its processes one form with numbers, and a table of flags is one.
use Rattle.std.proofs.Common.{◌≡◌, ℕ, zero, suc, ◌+◌, ◌≤◌, Bool, true, false, List, [], ◌∷◌, ◌++◌, map, length, take, get_or, Option, Some, slice_get, refl, sym, ap, ◌∙◌, subst, arith}
use Rattle.std.proofs.lemmas.Option.{slice_get-get_or}
use Rattle.pepa_rates.specs.declared.rate.Rate.{Rate}
use Rattle.pepa_lexer.specs.declared.kinds.Token.{Token}
use Rattle.pepa_reader.specs.Trees.{NumberAt, RateLineNode, FileNode}
use Rattle.token_grammar.specs.Terminals.{name_at}
use Rattle.pepa_resolver.specs.Outcomes.{Outcome, Good, AreOutcomes, looked_up, rate_outcome}
use Rattle.pepa_resolver.specs.Named.{Named}
use Rattle.pepa_resolver.specs.Numbers.{naming_of, named_bodies, named_system}
use Rattle.node_orders.specs.Graphs.{IsTableOf}
use Rattle.pepa_resolver.specs.ResolvedFiles.{IsNumberedFile}
use Rattle.node_orders.proofs.Elements.{take_next}

-- ---- the values of rates

module _ (tokens : List Token) (name : ℕ → List ℕ) (lines : List RateLineNode) where
  abbrev any_line : RateLineNode
  any_line = record { line_at = 0; rate = NumberAt 0 }

  same_front : (os ps : List (Outcome Rate)) → AreOutcomes tokens name lines os → AreOutcomes tokens name lines ps → (n : ℕ) → n ≤ length lines → take n os ≡ take n ps
  same_front os ps a b zero le = refl
  same_front os ps a b (suc n) le =
      let before : take n os ≡ take n ps = same_front os ps a b n (omega arith) in
      let line = get_or lines n any_line in
      let at : slice_get lines n ≡ Some line = slice_get-get_or lines n any_line (omega arith) in
      let outcome : List (Outcome Rate) → Outcome Rate = λ front. rate_outcome tokens (looked_up name (take n lines) front) line.rate in
      let next : suc n ≡ n + 1 = omega arith in
      ap (λ (k : ℕ). take k os) next ∙ take_next os n (outcome (take n os)) (a.each n line at)
      ∙ ap (λ (front : List (Outcome Rate)). front ++ outcome front ∷ []) before
      ∙ sym (take_next ps n (outcome (take n ps)) (b.each n line at)) ∙ sym (ap (λ (k : ℕ). take k ps) next)

  pub one_outcomes : (os ps : List (Outcome Rate)) → AreOutcomes tokens name lines os → AreOutcomes tokens name lines ps → os ≡ ps
  one_outcomes os ps a b =
      let all : (xs : List (Outcome Rate)) → length xs ≡ length lines → length xs ≤ length lines = λ xs e. omega arith in
      sym (whole os a.count) ∙ same_front os ps a b (length lines) (omega arith) ∙ whole ps b.count
    where
      whole : (xs : List (Outcome Rate)) → length xs ≡ length lines → take (length lines) xs ≡ xs
      whole xs e = subst (λ (n : ℕ). take n xs ≡ xs) e (every xs)
        where
          every : (ys : List (Outcome Rate)) → take (length ys) ys ≡ ys
          every [] = refl
          every (y ∷ ys) = ap (λ (l : List (Outcome Rate)). y ∷ l) (every ys)

same_good : (xs ys : List Rate) → map Good xs ≡ map Good ys → xs ≡ ys
same_good [] [] e = refl
same_good [] (y ∷ ys) e = absurd cc
same_good (x ∷ xs) [] e = absurd cc
same_good (x ∷ xs) (y ∷ ys) e =
    let first : x ≡ y = cc in
    let rest : map Good xs ≡ map Good ys = cc in
    ap (λ (z : Rate). z ∷ xs) first ∙ ap (λ (l : List Rate). y ∷ l) (same_good xs ys rest)

-- ---- tables

same_flags : (xs ys : List Bool) → length xs ≡ length ys → ((k : ℕ) → slice_get xs k ≡ Some true → slice_get ys k ≡ Some true) → ((k : ℕ) → slice_get ys k ≡ Some true → slice_get xs k ≡ Some true) → xs ≡ ys
same_flags [] [] e to from = refl
same_flags [] (y ∷ ys) e to from = absurd (omega arith)
same_flags (x ∷ xs) [] e to from = absurd (omega arith)
same_flags (x ∷ xs) (y ∷ ys) e to from =
    ap (λ (b : Bool). b ∷ xs) (first x y (to zero) (from zero))
    ∙ ap (λ (l : List Bool). y ∷ l) (same_flags xs ys (omega arith) (λ k. to (suc k)) (λ k. from (suc k)))
  where
    first : (a b : Bool) → (◌≡◌ {A = Option Bool} (Some a) (Some true) → ◌≡◌ {A = Option Bool} (Some b) (Some true)) → (◌≡◌ {A = Option Bool} (Some b) (Some true) → ◌≡◌ {A = Option Bool} (Some a) (Some true)) → a ≡ b
    first true b to from = let h = to refl in cc
    first false true to from = let h = from refl in cc
    first false false to from = refl

pub one_table : (Holds : ℕ → Type 0) (xs ys : List Bool) → length xs ≡ length ys → IsTableOf Holds xs → IsTableOf Holds ys → xs ≡ ys
one_table Holds xs ys e a b = same_flags xs ys e (λ k marked. b.complete k (a.sound k marked)) (λ k marked. a.complete k (b.sound k marked))

-- ---- numbers in place of names

module _ (input : List ℕ) (tokens : List Token) (file : FileNode) (values values' : List Rate) (bodies bodies' : List Named) (system system' : Named) (s : IsNumberedFile input tokens file values bodies system) (t : IsNumberedFile input tokens file values' bodies' system') where
  one_value_list : values ≡ values'
  one_value_list = same_good values values' (one_outcomes tokens (name_at input tokens) file.rates (map Good values) (map Good values') s.rates.lines t.rates.lines)

  pub one_list_of_bodies : bodies ≡ bodies'
  one_list_of_bodies =
      s.bodies_are ∙ ap (λ (v : List Rate). named_bodies (naming_of (name_at input tokens) tokens file v) file) one_value_list ∙ sym t.bodies_are

  pub one_named_system : system ≡ system'
  one_named_system =
      s.system_is ∙ ap (λ (v : List Rate). named_system (naming_of (name_at input tokens) tokens file v) file) one_value_list ∙ sym t.system_is
