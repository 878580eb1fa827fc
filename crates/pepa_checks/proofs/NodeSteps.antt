-- A node that is put into a table.
use Rattle.std.proofs.Common.{◌≡◌, ℕ, ◌+◌, true, false, if◌then◌else◌, List, [], ◌∷◌, ◌++◌, Some, inl, inr, refl, sym, ap, ◌∙◌, subst, slice_get, true≢false, arith, append_assoc}
use Rattle.std.specs.List.{list_any}
use Rattle.std.proofs.lemmas.List.{append-nil, length-append}
use Rattle.indexmap.specs.IndexSet.{insert_key}
use Rattle.pepa_rates.specs.declared.rate.Rate.{Rate}
use Rattle.pepa_rates.specs.declared.rate.Rate.TheVariants as rate
use Rattle.pepa_model.specs.Expression.{Expression, Const, Prefixed, Chosen}
use Rattle.pepa_checks.specs.declared.nodes.RateKey.{RateKey}
use Rattle.pepa_checks.specs.declared.nodes.RateKey.TheVariants.{Active, Passive}
use Rattle.pepa_checks.specs.declared.nodes.Node.{Node}
use Rattle.pepa_checks.specs.declared.nodes.Node.TheVariants.{Constant, Activity, Choice}
use Rattle.pepa_checks.proofs.NodeEquality.{same_node, node_same, node_decides}
use Rattle.pepa_checks.specs.NodeTables.{rate_by, built, built_on, expressions_by, Builds, AreNodes, IsNodeTable, ExtendsNodes, Has}
use Rattle.pepa_checks.proofs.ListReads.{true_or_false, read_more, read_last, read_cases, read_within, read_or, read_there, any_read}

-- ---- what a list with more in it still builds

pub builds_more : (es more : List Expression) (node : Node) (e : Expression) → Builds es node e → Builds (es ++ more) node e
builds_more es more (Constant c) e h = h
builds_more es more (Activity a r n) e h = (h.0, read_more es more n h.0 h.1, h.2)
builds_more es more (Choice m n) e h = (h.0, h.1, read_more es more m h.0 h.2, read_more es more n h.1 h.3, h.4)

built_same : (es : List Expression) (node : Node) (e : Expression) → Builds es node e → built es node ≡ e
built_same es (Constant c) e h = sym h
built_same es (Activity a r n) e h = ap (Prefixed a (rate_by r)) (read_or es n h.0 (Const 0) h.1) ∙ sym h.2
built_same es (Choice m n) e h = (λ i. Chosen (read_or es m h.0 (Const 0) h.2 i) (read_or es n h.1 (Const 0) h.3 i)) ∙ sym h.4

built_push : (es : List Expression) (nodes : List Node) (node : Node) → built_on es (nodes ++ node ∷ []) ≡ built_on es nodes ++ built (built_on es nodes) node ∷ []
built_push es [] node = refl
built_push es (other ∷ nodes) node = built_push (es ++ built es other ∷ []) nodes node

-- ---- one node for each expression

num_of : Rate → ℕ
num_of (rate.Active p) = p.num
num_of (rate.Passive p) = p.num

den_of : Rate → ℕ
den_of (rate.Active p) = p.den
den_of (rate.Passive p) = p.den

prefix_parts : (a b : ℕ) (r s : Rate) (x y : Expression) → Prefixed a r x ≡ Prefixed b s y → (a ≡ b) × (r ≡ s) × (x ≡ y)
prefix_parts a b r s x y e = (cc, cc, cc)

choice_parts : (x y v w : Expression) → Chosen x y ≡ Chosen v w → (x ≡ v) × (y ≡ w)
choice_parts x y v w e = (cc, cc)

const_same : (c d : ℕ) → Const c ≡ Const d → c ≡ d
const_same c d e = cc

one_key : (r s : RateKey) → rate_by r ≡ rate_by s → r ≡ s
unfolding num_of den_of
one_key (Active m d) (Active n e) same = let nums : m ≡ n = ap num_of same in let dens : d ≡ e = ap den_of same in λ i. Active (nums i) (dens i)
one_key (Passive m d) (Passive n e) same = let nums : m ≡ n = ap num_of same in let dens : d ≡ e = ap den_of same in λ i. Passive (nums i) (dens i)
one_key (Active m d) (Passive n e) same = absurd cc
one_key (Passive m d) (Active n e) same = absurd cc

one_node : (es : List Expression) → ((m n : ℕ) (e : Expression) → slice_get es m ≡ Some e → slice_get es n ≡ Some e → m ≡ n) → (x y : Node) (e : Expression) → Builds es x e → Builds es y e → x ≡ y
one_node es apart (Constant c) (Constant d) e h k = ap Constant (const_same c d (sym h ∙ k))
one_node es apart (Activity a r m) (Activity b s n) e h k =
    let parts = prefix_parts a b (rate_by r) (rate_by s) h.0 k.0 (sym h.2 ∙ k.2) in
    let rates : r ≡ s = one_key r s parts.1 in
    let numbers : m ≡ n = apart m n k.0 (h.1 ∙ ap Some parts.2) k.1 in
    λ i. Activity (parts.0 i) (rates i) (numbers i)
one_node es apart (Choice m n) (Choice k l) e g h =
    let parts = choice_parts g.0 g.1 h.0 h.1 (sym g.4 ∙ h.4) in
    let lefts : m ≡ k = apart m k h.0 (g.2 ∙ ap Some parts.0) h.2 in
    let rights : n ≡ l = apart n l h.1 (g.3 ∙ ap Some parts.1) h.3 in
    λ i. Choice (lefts i) (rights i)
one_node es apart (Constant c) (Activity b s n) e h k = let both : Const c ≡ Prefixed b (rate_by s) k.0 = sym h ∙ k.2 in absurd cc
one_node es apart (Constant c) (Choice k l) e h g = let both : Const c ≡ Chosen g.0 g.1 = sym h ∙ g.4 in absurd cc
one_node es apart (Activity a r m) (Constant d) e h k = let both : Const d ≡ Prefixed a (rate_by r) h.0 = sym k ∙ h.2 in absurd cc
one_node es apart (Activity a r m) (Choice k l) e h g = let both : Prefixed a (rate_by r) h.0 ≡ Chosen g.0 g.1 = sym h.2 ∙ g.4 in absurd cc
one_node es apart (Choice m n) (Constant d) e g h = let both : Const d ≡ Chosen g.0 g.1 = sym h ∙ g.4 in absurd cc
one_node es apart (Choice m n) (Activity b s k) e g h = let both : Prefixed b (rate_by s) h.0 ≡ Chosen g.0 g.1 = sym h.2 ∙ g.4 in absurd cc

-- ---- a new node

module _ (nodes : List Node) (es : List Expression) (node : Node) (e : Expression) (table : AreNodes nodes es) (builds : Builds es node e) (fresh : list_any (same_node node) nodes ≡ false) where
  absent : (n : ℕ) (other : Node) → slice_get nodes n ≡ Some other → node ≡ other → ⊥
  absent n other read same = true≢false (sym (any_read (same_node node) nodes n other read ((node_decides node other).1 same)) ∙ fresh)

  not_old : (n : ℕ) → slice_get es n ≡ Some e → ⊥
  not_old n read =
      let there = read_there nodes n (omega (arith, read_within es n e read, table.one_each)) in
      absent n there.0 there.1 (one_node es table.apart node there.0 e builds (table.each n there.0 e there.1 read))

  each_more : (n : ℕ) (other : Node) (f : Expression) → slice_get (nodes ++ node ∷ []) n ≡ Some other → slice_get (es ++ e ∷ []) n ≡ Some f → Builds (es ++ e ∷ []) other f
  each_more n other f read told = elim (read_cases nodes node n other read) [
    | inl before ↦ elim (read_cases es e n f told) [
      | inl old ↦ builds_more es (e ∷ []) other f (table.each n other f before old)
      | inr last ↦ absurd (omega (arith, read_within nodes n other before, last.0, table.one_each))
    ]
    | inr last ↦ elim (read_cases es e n f told) [
      | inl old ↦ absurd (omega (arith, read_within es n f old, last.0, table.one_each))
      | inr same ↦ subst (λ x. Builds (es ++ e ∷ []) x f) last.1 (subst (λ g. Builds (es ++ e ∷ []) node g) same.1 (builds_more es (e ∷ []) node e builds))
    ]
  ]

  apart_more : (m n : ℕ) (f : Expression) → slice_get (es ++ e ∷ []) m ≡ Some f → slice_get (es ++ e ∷ []) n ≡ Some f → m ≡ n
  apart_more m n f p q = elim (read_cases es e m f p) [
    | inl old ↦ elim (read_cases es e n f q) [
      | inl too ↦ table.apart m n f old too
      | inr last ↦ absurd (not_old m (old ∙ ap Some (sym last.1)))
    ]
    | inr last ↦ elim (read_cases es e n f q) [
      | inl old ↦ absurd (not_old n (old ∙ ap Some (sym last.1)))
      | inr too ↦ last.0 ∙ sym too.0
    ]
  ]

  pub nodes_more : AreNodes (nodes ++ node ∷ []) (es ++ e ∷ [])
  nodes_more = record {
    one_each = length-append es (e ∷ []) ∙ ap (λ n. n + 1) table.one_each ∙ sym (length-append nodes (node ∷ []));
    each = each_more;
    apart = apart_more;
  }

  pub last_number : (number : ℕ) → slice_get (nodes ++ node ∷ []) number ≡ Some node → slice_get (es ++ e ∷ []) number ≡ Some e
  last_number number read = elim (read_cases nodes node number node read) [
    | inl before ↦ absurd (absent number node before refl)
    | inr last ↦ subst (λ n. slice_get (es ++ e ∷ []) n ≡ Some e) (sym (last.0 ∙ sym table.one_each)) (read_last es e)
  ]

-- ---- the table behind it

pub grows_itself : (es : List Expression) → ExtendsNodes es es
grows_itself es = ([], sym (append-nil es))

pub grows_again : (es fs gs : List Expression) → ExtendsNodes es fs → ExtendsNodes fs gs → ExtendsNodes es gs
grows_again es fs gs g h = (g.0 ++ h.0, h.1 ∙ ap (λ l. l ++ h.0) g.1 ∙ append_assoc es g.0 h.0)

new_node : (nodes : List Node) (node : Node) (e : Expression) (number : ℕ) → IsNodeTable nodes → Builds (expressions_by nodes) node e → list_any (same_node node) nodes ≡ false → slice_get (nodes ++ node ∷ []) number ≡ Some node → Has nodes (nodes ++ node ∷ []) number e
new_node nodes node e number table builds fresh read =
    let es = expressions_by nodes in
    let are : expressions_by (nodes ++ node ∷ []) ≡ es ++ e ∷ [] = built_push [] nodes node ∙ ap (λ f. es ++ f ∷ []) (built_same es node e builds) in
    record {
      table = subst (AreNodes (nodes ++ node ∷ [])) (sym are) (nodes_more nodes es node e table builds fresh);
      grows = (e ∷ [], are);
      number_is = subst (λ l. slice_get l number ≡ Some e) (sym are) (last_number nodes es node e table builds fresh number read);
    }

old_node : (nodes : List Node) (node : Node) (e : Expression) (number : ℕ) → IsNodeTable nodes → Builds (expressions_by nodes) node e → slice_get nodes number ≡ Some node → Has nodes nodes number e
old_node nodes node e number table builds read =
    let es = expressions_by nodes in
    let there = read_there es number (omega (arith, read_within nodes number node read, table.one_each)) in
    let same : there.0 ≡ e = sym (built_same es node there.0 (table.each number node there.0 read there.1)) ∙ built_same es node e builds in
    record {
      table = table;
      grows = grows_itself es;
      number_is = there.1 ∙ ap Some same;
    }

pub node_added : (old new : List Node) (node stored : Node) (e : Expression) (number : ℕ) → new ≡ insert_key same_node old node → slice_get new number ≡ Some stored → same_node node stored ≡ true → IsNodeTable old → Builds (expressions_by old) node e → Has old new number e
node_added old new node stored e number keys read same table builds =
    let stored_is : stored ≡ node = sym (node_same node stored same) in
    elim (true_or_false (list_any (same_node node) old)) [
      | inl there ↦
          let unchanged : new ≡ old = keys ∙ ap (λ b. if b then old else old ++ node ∷ []) there in
          subst (λ l. Has old l number e) (sym unchanged) (old_node old node e number table builds (subst (λ l. slice_get l number ≡ Some node) unchanged (read ∙ ap Some stored_is)))
      | inr fresh ↦
          let longer : new ≡ old ++ node ∷ [] = keys ∙ ap (λ b. if b then old else old ++ node ∷ []) fresh in
          subst (λ l. Has old l number e) (sym longer) (new_node old node e number table builds fresh (subst (λ l. slice_get l number ≡ Some node) longer (read ∙ ap Some stored_is)))
    ]
