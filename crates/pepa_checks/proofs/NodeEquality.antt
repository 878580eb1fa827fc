-- Nodes are equal exactly where their test says so.
use Rattle.std.specs.Prelude.{◌≡◌, ℕ, Bool, true, ◌&&◌, ◌==◌, refl}
use Rattle.std.specs.Bool.{Decides}
use Rattle.std.specs.Cmp.{first_so, second_so, unsigned_Decides}
use Rattle.std.proofs.Common.{ap, sym, subst, true≢false}
use Rattle.pepa_checks.specs.declared.nodes.RateKey.{RateKey}
use Rattle.pepa_checks.specs.declared.nodes.RateKey.TheVariants.{Active, Passive}
use Rattle.pepa_checks.specs.declared.nodes.Node.{Node}
use Rattle.pepa_checks.specs.declared.nodes.Node.TheVariants.{Constant, Activity, Choice}
use Rattle.pepa_checks.specs.contracts.nodes.RateKeyPartialEq.TheImpl as key_equality
use Rattle.pepa_checks.specs.contracts.nodes.NodePartialEq.TheImpl as node_equality

-- whether two rates have the same numbers and are of the same kind
abbrev same_key : RateKey → RateKey → Bool
same_key = key_equality.ghosts.eq

-- whether two nodes are equal
abbrev pub same_node : Node → Node → Bool
same_node = node_equality.ghosts.eq

number_same : (m n : ℕ) → (m == n) ≡ true → m ≡ n
number_same m n = (unsigned_Decides m n).0

number_itself : (n : ℕ) → (n == n) ≡ true
number_itself n = (unsigned_Decides n n).1 refl

both : (b c : Bool) → b ≡ true → c ≡ true → (b && c) ≡ true
both b c p q = λ i. p i && q i

pair_same : (m n d e : ℕ) → ((m == n) && (d == e)) ≡ true → (m ≡ n) × (d ≡ e)
pair_same m n d e h = (number_same m n (first_so (m == n) (d == e) h), number_same d e (second_so (m == n) (d == e) h))

key_same : (r s : RateKey) → same_key r s ≡ true → r ≡ s
key_same (Active m d) (Active n e) h = let parts = pair_same m n d e h in λ i. Active (parts.0 i) (parts.1 i)
key_same (Passive m d) (Passive n e) h = let parts = pair_same m n d e h in λ i. Passive (parts.0 i) (parts.1 i)
key_same (Active m d) (Passive n e) h = absurd (true≢false (sym h))
key_same (Passive m d) (Active n e) h = absurd (true≢false (sym h))

key_itself : (r : RateKey) → same_key r r ≡ true
key_itself (Active n d) = both (n == n) (d == d) (number_itself n) (number_itself d)
key_itself (Passive n d) = both (n == n) (d == d) (number_itself n) (number_itself d)

pub node_same : (x y : Node) → same_node x y ≡ true → x ≡ y
node_same (Constant c) (Constant d) h = ap Constant (number_same c d h)
node_same (Activity a r m) (Activity b s n) h =
    let rest = second_so (a == b) (same_key r s && (m == n)) h in
    let actions : a ≡ b = number_same a b (first_so (a == b) (same_key r s && (m == n)) h) in
    let rates : r ≡ s = key_same r s (first_so (same_key r s) (m == n) rest) in
    let nexts : m ≡ n = number_same m n (second_so (same_key r s) (m == n) rest) in
    λ i. Activity (actions i) (rates i) (nexts i)
node_same (Choice m n) (Choice k l) h =
    let lefts : m ≡ k = number_same m k (first_so (m == k) (n == l) h) in
    let rights : n ≡ l = number_same n l (second_so (m == k) (n == l) h) in
    λ i. Choice (lefts i) (rights i)
node_same (Constant c) (Activity b s n) h = absurd (true≢false (sym h))
node_same (Constant c) (Choice k l) h = absurd (true≢false (sym h))
node_same (Activity a r m) (Constant d) h = absurd (true≢false (sym h))
node_same (Activity a r m) (Choice k l) h = absurd (true≢false (sym h))
node_same (Choice m n) (Constant d) h = absurd (true≢false (sym h))
node_same (Choice m n) (Activity b s k) h = absurd (true≢false (sym h))

pub node_itself : (x : Node) → same_node x x ≡ true
node_itself (Constant c) = number_itself c
node_itself (Activity a r n) = both (a == a) (same_key r r && (n == n)) (number_itself a) (both (same_key r r) (n == n) (key_itself r) (number_itself n))
node_itself (Choice m n) = both (m == m) (n == n) (number_itself m) (number_itself n)

pub node_decides : (x y : Node) → Decides (same_node x y) (x ≡ y)
node_decides x y = (node_same x y, λ e. subst (λ z. same_node x z ≡ true) e (node_itself x))
