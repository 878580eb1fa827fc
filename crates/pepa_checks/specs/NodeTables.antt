-- Nodes in a table, which stand for expressions by the places of their parts.
use Rattle.std.specs.Prelude.{◌≡◌, ℕ, List, [], ◌∷◌, ◌++◌, length, Some, slice_get, slice_index_or}
use Rattle.pepa_model.specs.Expression.{Expression, Const, Prefixed, Chosen}
use Rattle.pepa_rates.specs.declared.rate.Rate.{Rate}
use Rattle.pepa_rates.specs.declared.rate.Rate.TheVariants as rate
use Rattle.pepa_checks.specs.declared.nodes.RateKey.{RateKey}
use Rattle.pepa_checks.specs.declared.nodes.RateKey.TheVariants.{Active, Passive}
use Rattle.pepa_checks.specs.declared.nodes.Node.{Node}
use Rattle.pepa_checks.specs.declared.nodes.Node.TheVariants.{Constant, Activity, Choice}

-- the rate of these numbers
abbrev pub rate_by : RateKey → Rate
rate_by (Active n d) = rate.Active (record { num = n; den = d })
rate_by (Passive n d) = rate.Passive (record { num = n; den = d })

-- an expression of a list; behind its end it doesn't matter what stands for one
abbrev pub expression_at : List Expression → ℕ → Expression
expression_at es n = slice_index_or es n (Const 0)

-- the expression of a node whose parts are in the list
abbrev pub built : List Expression → Node → Expression
built es (Constant c) = Const c
built es (Activity a r n) = Prefixed a (rate_by r) (expression_at es n)
built es (Choice m n) = Chosen (expression_at es m) (expression_at es n)

-- the expressions, and behind them those of the nodes, each of which may have what stands in front of it as its parts
abbrev pub built_on : List Expression → List Node → List Expression
built_on es [] = es
built_on es (node ∷ nodes) = built_on (es ++ built es node ∷ []) nodes

-- the expressions that the nodes of a table stand for
abbrev pub expressions_by : List Node → List Expression
expressions_by nodes = built_on [] nodes

-- the node's parts are in the list, and make this expression
abbrev pub Builds : List Expression → Node → Expression → Type 0
Builds es (Constant c) e = e ≡ Const c
Builds es (Activity a r n) e = (next : Expression) × (slice_get es n ≡ Some next) × (e ≡ Prefixed a (rate_by r) next)
Builds es (Choice m n) e =
    (left : Expression) × (right : Expression) × (slice_get es m ≡ Some left) × (slice_get es n ≡ Some right) × (e ≡ Chosen left right)

-- the nodes stand for these expressions, each of them once
pub record AreNodes (nodes : List Node) (es : List Expression) : Type 0 where
  pub one_each : length es ≡ length nodes
  pub each : (n : ℕ) (node : Node) (e : Expression) → slice_get nodes n ≡ Some node → slice_get es n ≡ Some e → Builds es node e
  pub apart : (m n : ℕ) (e : Expression) → slice_get es m ≡ Some e → slice_get es n ≡ Some e → m ≡ n

abbrev pub IsNodeTable : List Node → Type 0
IsNodeTable nodes = AreNodes nodes (expressions_by nodes)

-- the expressions stay where they were
abbrev pub ExtendsNodes : List Expression → List Expression → Type 0
ExtendsNodes old new = (more : List Expression) × (new ≡ old ++ more)

-- a table that has an expression at this number, and all that it had
pub record Has (old new : List Node) (number : ℕ) (e : Expression) : Type 0 where
  pub table : IsNodeTable new
  pub grows : ExtendsNodes (expressions_by old) (expressions_by new)
  pub number_is : slice_get (expressions_by new) number ≡ Some e
