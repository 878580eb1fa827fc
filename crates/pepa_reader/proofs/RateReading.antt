-- What the readers of rates answer.
use Rattle.std.proofs.Common.{◌≡◌, ◌≢◌, ℕ, ◌+◌, List, [], ◌∷◌, length, drop, refl, ap, ◌∙◌, Option, Some, None, Result, Ok, Err}
use Rattle.pepa_lexer.specs.declared.kinds.Sign.TheVariants.{Semicolon, Opening, Closing, Star, Slash, Plus, Minus}
use Rattle.token_grammar.specs.declared.terminal.Terminal.{Terminal}
use Rattle.token_grammar.specs.declared.terminal.Terminal.TheVariants.{Small, Probe, Top, Number, Mark}
use Rattle.fault_ends.specs.declared.end.End.TheVariants.{Fault, Memory}
use Rattle.token_grammar.proofs.Runs.{halts_here, halts_after}
use Rattle.token_grammar.specs.Machines.{runs}
use Rattle.token_grammar.specs.SmallNames.{NoSmall}
use Rattle.pepa_reader.specs.declared.trees.RateTree.{RateTree}
use Rattle.pepa_reader.specs.declared.rates.RateRead.{RateRead}
use Rattle.pepa_reader.specs.Grammar.{SumSign, Added, Subtracted, ProductSign, Multiplied, Divided, sum_sign_spelled, product_sign_spelled, Sum, OneProduct, Summed, Product, OneFactor, Produced, Factor, Amount, Bracketed, sum_spelled, product_spelled, Rate, Passive, Weighted, Computed}
use Rattle.pepa_reader.specs.Trees.{RateNode, OpAt, BracketOf, rate_node_of, sum_tree, product_tree, factor_tree}
use Rattle.pepa_reader.specs.Machine.{Summing, Multiplying, RatePlace, OfLine, OfActivity, RateOuter, Whole, InRateBrackets, WantFactor, AfterFactor, AfterTop, IsUndone, step, run, whole_sum, closes_sum, closes_rate, top_step, weighted_step, behind_sum, behind_product, behind_rate}
use Rattle.token_grammar.specs.Cursors.{Begins, IsSpelledFrom, IsAt, Expects, PartEnd}
use Rattle.pepa_reader.specs.Reading.{CannotGoOn, BeginsWeighted, IsNoWeight, AdmitsFactor, IsFactor, ReadsFactor, EndsSum, IsProduct, ReadsProduct, IsSum, ReadsSum, EndsRate, ReadsRate}
use Rattle.token_grammar.proofs.Spelled.{spelled_append}
use Rattle.pepa_reader.proofs.MachineRuns.{sum_runs, product_runs, star_behind_product, slash_behind_product, plus_behind_sum, minus_behind_sum}

-- ---- what can't follow

no_weight : (product : Product) (sign : ProductSign) (place : RatePlace) (more : List Terminal) → IsNoWeight product sign (Top ∷ more) → weighted_step product sign place ≡ None
no_weight (OneFactor Amount) Multiplied place more d = absurd (d refl)
no_weight _ _ place more d = refl

no_top : (summing : Option Summing) (multiplying : Option Multiplying) (outer : RateOuter) (more : List Terminal) → AdmitsFactor summing multiplying outer (Top ∷ more) → top_step summing multiplying outer ≡ None
no_top None None (Whole place) more d = absurd (d.0 refl)
no_top None (Some multiplying) (Whole place) more d = no_weight multiplying.product multiplying.sign place more d
no_top _ _ _ more d = refl

-- where no factor stands, none can follow
refuses_factor : (summing : Option Summing) (multiplying : Option Multiplying) (outer : RateOuter) (rest : List Terminal) → ¬ Begins rest Number → NoSmall rest → ¬ Begins rest (Mark Opening) → AdmitsFactor summing multiplying outer rest → CannotGoOn (WantFactor summing multiplying outer) rest
unfolding step
refuses_factor summing multiplying outer [] number small opening admits = tt
refuses_factor summing multiplying outer (Number ∷ more) number small opening admits = absurd (number refl)
refuses_factor summing multiplying outer (Small ∷ more) number small opening admits = absurd (small.0 refl)
refuses_factor summing multiplying outer (Probe ∷ more) number small opening admits = absurd (small.1 refl)
refuses_factor summing multiplying outer (Mark Opening ∷ more) number small opening admits = absurd (opening refl)
refuses_factor summing multiplying outer (Top ∷ more) number small opening admits = no_top summing multiplying outer more admits
refuses_factor summing multiplying outer (_ ∷ more) number small opening admits = refl

-- the sign that closes a whole rate, or a sum
abbrev pub rate_closer : RatePlace → Terminal
rate_closer (OfLine name) = Mark Semicolon
rate_closer (OfActivity word pending chosen joining outer) = Mark Closing

abbrev pub sum_closer : RateOuter → Terminal
sum_closer (Whole place) = rate_closer place
sum_closer (InRateBrackets summing multiplying outer) = Mark Closing

rate_stays : (rate : Rate) (place : RatePlace) (terminal : Terminal) → terminal ≢ rate_closer place → closes_rate rate place terminal ≡ None
rate_stays rate (OfLine name) (Mark Semicolon) other = absurd (other refl)
rate_stays rate (OfLine name) _ other = refl
rate_stays rate (OfActivity word pending chosen joining outer) (Mark Closing) other = absurd (other refl)
rate_stays rate (OfActivity word pending chosen joining outer) _ other = refl

sum_stays : (sum : Sum) (outer : RateOuter) (terminal : Terminal) → terminal ≢ sum_closer outer → closes_sum sum outer terminal ≡ None
sum_stays sum (Whole place) terminal other = rate_stays (Computed sum) place terminal other
sum_stays sum (InRateBrackets summing multiplying outer) (Mark Closing) other = absurd (other refl)
sum_stays sum (InRateBrackets summing multiplying outer) _ other = refl

refuses_behind_factor : (factor : Factor) (summing : Option Summing) (multiplying : Option Multiplying) (outer : RateOuter) (rest : List Terminal) → EndsSum rest → ¬ Begins rest (sum_closer outer) → CannotGoOn (AfterFactor factor summing multiplying outer) rest
unfolding step
refuses_behind_factor factor summing multiplying outer [] ends other = tt
refuses_behind_factor factor summing multiplying outer (Mark Star ∷ more) ends other = absurd (ends.0.0 refl)
refuses_behind_factor factor summing multiplying outer (Mark Slash ∷ more) ends other = absurd (ends.0.1 refl)
refuses_behind_factor factor summing multiplying outer (Mark Plus ∷ more) ends other = absurd (ends.1.0 refl)
refuses_behind_factor factor summing multiplying outer (Mark Minus ∷ more) ends other = absurd (ends.1.1 refl)
refuses_behind_factor factor summing multiplying outer (terminal ∷ more) ends other = sum_stays (whole_sum summing multiplying factor) outer terminal other

-- behind a sum stands neither an operator nor what closes it
pub refuses_behind_sum : (sum : Sum) (outer : RateOuter) (rest : List Terminal) → EndsSum rest → ¬ Begins rest (sum_closer outer) → CannotGoOn (behind_sum sum outer) rest
refuses_behind_sum (OneProduct (OneFactor factor)) outer rest ends other = refuses_behind_factor factor None None outer rest ends other
refuses_behind_sum (OneProduct (Produced product sign factor)) outer rest ends other = refuses_behind_factor factor None (Some (record { product = product; sign = sign })) outer rest ends other
refuses_behind_sum (Summed sum sum_sign (OneFactor factor)) outer rest ends other = refuses_behind_factor factor (Some (record { sum = sum; sign = sum_sign })) None outer rest ends other
refuses_behind_sum (Summed sum sum_sign (Produced product sign factor)) outer rest ends other = refuses_behind_factor factor (Some (record { sum = sum; sign = sum_sign })) (Some (record { product = product; sign = sign })) outer rest ends other

pub undone_behind_sum : (sum : Sum) (outer : RateOuter) → IsUndone (behind_sum sum outer)
undone_behind_sum (OneProduct (OneFactor factor)) outer = tt
undone_behind_sum (OneProduct (Produced product sign factor)) outer = tt
undone_behind_sum (Summed sum sum_sign (OneFactor factor)) outer = tt
undone_behind_sum (Summed sum sum_sign (Produced product sign factor)) outer = tt

refuses_behind_top : (rate : Rate) (place : RatePlace) (rest : List Terminal) → ¬ Begins rest (rate_closer place) → CannotGoOn (AfterTop rate place) rest
unfolding step
refuses_behind_top rate place [] other = tt
refuses_behind_top rate place (terminal ∷ more) other = rate_stays rate place terminal other

pub refuses_behind_rate : (rate : Rate) (place : RatePlace) (rest : List Terminal) → EndsRate rate rest → ¬ Begins rest (rate_closer place) → CannotGoOn (behind_rate rate place) rest
refuses_behind_rate Passive place rest ends other = refuses_behind_top Passive place rest other
refuses_behind_rate Weighted place rest ends other = refuses_behind_top Weighted place rest other
refuses_behind_rate (Computed sum) place rest ends other = refuses_behind_sum sum (Whole place) rest ends other

pub undone_behind_rate : (rate : Rate) (place : RatePlace) → IsUndone (behind_rate rate place)
undone_behind_rate Passive place = tt
undone_behind_rate Weighted place = tt
undone_behind_rate (Computed sum) place = undone_behind_sum sum (Whole place)

-- ---- factors

pub no_factor : (kinds : List Terminal) (at : ℕ) (fault : PartEnd) → ¬ Begins (drop at kinds) Number → NoSmall (drop at kinds) → Expects kinds at (Mark Opening) (Err fault) → ReadsFactor kinds at (Err fault)
no_factor kinds at (Fault i) number small e =
    rw e.0 (λ summing multiplying outer admits. halts_here tt (refuses_factor summing multiplying outer (drop at kinds) number small e.1 admits))
no_factor kinds at Memory number small e = tt

opening_runs : (summing : Option Summing) (multiplying : Option Multiplying) (outer : RateOuter) → run (WantFactor summing multiplying outer) (Mark Opening ∷ []) ≡ Some (WantFactor None None (InRateBrackets summing multiplying outer))
unfolding runs step
opening_runs summing multiplying outer = refl

pub bracket_fails : (kinds : List Terminal) (at inside : ℕ) (fault : PartEnd) → IsAt kinds at inside (Mark Opening) → ReadsSum kinds inside (Err fault) → ReadsFactor kinds at (Err fault)
bracket_fails kinds at inside (Fault i) opening sum = λ summing multiplying outer admits.
    halts_after (WantFactor summing multiplying outer) (WantFactor None None (InRateBrackets summing multiplying outer)) opening.spelled (opening_runs summing multiplying outer) (sum (InRateBrackets summing multiplying outer) tt)
bracket_fails kinds at inside Memory opening sum = tt

pub bracket_stays_open : (kinds : List Terminal) (at inside : ℕ) (read : RateRead) (fault : PartEnd) → IsAt kinds at inside (Mark Opening) → IsSum kinds inside read → EndsSum (drop read.next kinds) → Expects kinds read.next (Mark Closing) (Err fault) → ReadsFactor kinds at (Err fault)
bracket_stays_open kinds at inside read (Fault i) opening sum ends e =
    rw e.0 (λ summing multiplying outer admits.
    let brackets = InRateBrackets summing multiplying outer in
    halts_after (WantFactor summing multiplying outer) (WantFactor None None brackets) opening.spelled (opening_runs summing multiplying outer)
    (halts_after (WantFactor None None brackets) (behind_sum sum.sum brackets) sum.spelled (sum_runs sum.sum brackets)
    (halts_here (undone_behind_sum sum.sum brackets) (refuses_behind_sum sum.sum brackets (drop read.next kinds) ends e.1))))
bracket_stays_open kinds at inside read Memory opening sum ends e = tt

pub is_bracketed : (kinds : List Terminal) (at inside next : ℕ) (inner : RateRead) (tree : RateTree) → IsAt kinds at inside (Mark Opening) → IsSum kinds inside inner → IsAt kinds inner.next next (Mark Closing) → rate_node_of tree ≡ BracketOf (rate_node_of inner.tree) → IsFactor kinds at (record { tree = tree; next = next })
is_bracketed kinds at inside next inner tree opening sum closing e =
    record {
      factor = Bracketed sum.sum;
      spelled = spelled_append opening.spelled (spelled_append sum.spelled closing.spelled);
      tree = e ∙ ap BracketOf (sum.tree ∙ ap (λ n. sum_tree n sum.sum) opening.spelled.index);
    }

-- ---- products

sign_behind_product : (product : Product) (sign : ProductSign) (summing : Option Summing) (outer : RateOuter) → run (behind_product product summing outer) (product_sign_spelled sign ∷ []) ≡ Some (WantFactor summing (Some (record { product = product; sign = sign })) outer)
unfolding runs
sign_behind_product product Multiplied summing outer = rw (star_behind_product product summing outer) refl
sign_behind_product product Divided summing outer = rw (slash_behind_product product summing outer) refl

weighted_in_front : (rest more last : List Terminal) → rest ≡ Number ∷ more → more ≡ Mark Star ∷ last → Begins last Top → BeginsWeighted rest
weighted_in_front rest more [] e f b = absurd b
weighted_in_front rest more (top ∷ last) e f b = rw (e, f, b) tt

no_later_weight : (kinds : List Terminal) (at next behind : ℕ) (product : Product) (sign : ProductSign) → IsSpelledFrom kinds at next (product_spelled product) → IsAt kinds next behind (product_sign_spelled sign) → ¬ BeginsWeighted (drop at kinds) → IsNoWeight product sign (drop behind kinds)
no_later_weight kinds at next behind (OneFactor Amount) Multiplied spelled star weighted = λ top. weighted (weighted_in_front (drop at kinds) (drop next kinds) (drop behind kinds) spelled.whole star.spelled.whole top)
no_later_weight kinds at next behind _ _ spelled star weighted = tt

-- where the first factor of a product may be no weight, no later one is a passive rate
admits_next : (kinds : List Terminal) (at next behind : ℕ) (product : Product) (sign : ProductSign) (summing : Option Summing) (outer : RateOuter) → IsSpelledFrom kinds at next (product_spelled product) → IsAt kinds next behind (product_sign_spelled sign) → AdmitsFactor summing None outer (drop at kinds) → AdmitsFactor summing (Some (record { product = product; sign = sign })) outer (drop behind kinds)
admits_next kinds at next behind product sign None (Whole place) spelled star admits = no_later_weight kinds at next behind product sign spelled star admits.1
admits_next kinds at next behind product sign _ _ spelled star admits = tt

pub product_fails : (kinds : List Terminal) (at behind : ℕ) (read : RateRead) (sign : ProductSign) (fault : PartEnd) → IsProduct kinds at read → IsAt kinds read.next behind (product_sign_spelled sign) → ReadsFactor kinds behind (Err fault) → ReadsProduct kinds at (Err fault)
product_fails kinds at behind read sign (Fault i) product is_sign factor = λ summing outer admits.
    let next : Option Multiplying = Some (record { product = product.product; sign = sign }) in
    halts_after (WantFactor summing None outer) (behind_product product.product summing outer) product.spelled (product_runs product.product summing outer)
    (halts_after (behind_product product.product summing outer) (WantFactor summing next outer) is_sign.spelled (sign_behind_product product.product sign summing outer)
    (factor summing next outer (admits_next kinds at read.next behind product.product sign summing outer product.spelled is_sign admits)))
product_fails kinds at behind read sign Memory product is_sign factor = tt

pub one_factor_fails : (kinds : List Terminal) (at : ℕ) (fault : PartEnd) → ReadsFactor kinds at (Err fault) → ReadsProduct kinds at (Err fault)
one_factor_fails kinds at (Fault i) factor = λ summing outer admits. factor summing None outer admits
one_factor_fails kinds at Memory factor = tt

pub is_one_factor : (kinds : List Terminal) (at : ℕ) (read : RateRead) → IsFactor kinds at read → IsProduct kinds at read
is_one_factor kinds at read factor = record { product = OneFactor factor.factor; spelled = factor.spelled; tree = factor.tree }

-- the tree of an operator, from what its sides are
op_tree : {X Y : Type 0} (tree left right : RateNode) (at next behind : ℕ) (x : X) (y : Y) (left_tree : ℕ → X → RateNode) (right_tree : ℕ → Y → RateNode) (len : ℕ) → tree ≡ OpAt next left right → next ≡ at + len → behind ≡ next + 1 → left ≡ left_tree at x → right ≡ right_tree behind y → tree ≡ OpAt (at + len) (left_tree at x) (right_tree (at + len + 1) y)
op_tree tree left right at next behind x y left_tree right_tree len t n b l r =
    let front : behind ≡ at + len + 1 = b ∙ ap (λ m. m + 1) n in
    t ∙ rw (l, r, front, n) refl

pub is_produced : (kinds : List Terminal) (at behind : ℕ) (left right read : RateRead) (sign : ProductSign) → IsProduct kinds at left → IsAt kinds left.next behind (product_sign_spelled sign) → IsFactor kinds behind right → rate_node_of read.tree ≡ OpAt left.next (rate_node_of left.tree) (rate_node_of right.tree) → read.next ≡ right.next → IsProduct kinds at read
is_produced kinds at behind left right read sign product is_sign factor tree next =
    record {
      product = Produced product.product sign factor.factor;
      spelled = rw next (spelled_append product.spelled (spelled_append is_sign.spelled factor.spelled));
      tree = op_tree (rate_node_of read.tree) (rate_node_of left.tree) (rate_node_of right.tree) at left.next behind product.product factor.factor product_tree factor_tree (length (product_spelled product.product)) tree product.spelled.index is_sign.spelled.index product.tree factor.tree;
    }

-- ---- sums

sign_behind_sum : (sum : Sum) (sign : SumSign) (outer : RateOuter) → run (behind_sum sum outer) (sum_sign_spelled sign ∷ []) ≡ Some (WantFactor (Some (record { sum = sum; sign = sign })) None outer)
unfolding runs
sign_behind_sum sum Added outer = rw (plus_behind_sum sum outer) refl
sign_behind_sum sum Subtracted outer = rw (minus_behind_sum sum outer) refl

pub sum_fails : (kinds : List Terminal) (at behind : ℕ) (read : RateRead) (sign : SumSign) (fault : PartEnd) → IsSum kinds at read → IsAt kinds read.next behind (sum_sign_spelled sign) → ReadsProduct kinds behind (Err fault) → ReadsSum kinds at (Err fault)
sum_fails kinds at behind read sign (Fault i) sum is_sign product = λ outer admits.
    let next : Option Summing = Some (record { sum = sum.sum; sign = sign }) in
    halts_after (WantFactor None None outer) (behind_sum sum.sum outer) sum.spelled (sum_runs sum.sum outer)
    (halts_after (behind_sum sum.sum outer) (WantFactor next None outer) is_sign.spelled (sign_behind_sum sum.sum sign outer)
    (product next outer tt))
sum_fails kinds at behind read sign Memory sum is_sign product = tt

pub is_one_product : (kinds : List Terminal) (at : ℕ) (read : RateRead) → IsProduct kinds at read → IsSum kinds at read
is_one_product kinds at read product = record { sum = OneProduct product.product; spelled = product.spelled; tree = product.tree }

pub is_summed : (kinds : List Terminal) (at behind : ℕ) (left right read : RateRead) (sign : SumSign) → IsSum kinds at left → IsAt kinds left.next behind (sum_sign_spelled sign) → IsProduct kinds behind right → rate_node_of read.tree ≡ OpAt left.next (rate_node_of left.tree) (rate_node_of right.tree) → read.next ≡ right.next → IsSum kinds at read
is_summed kinds at behind left right read sign sum is_sign product tree next =
    record {
      sum = Summed sum.sum sign product.product;
      spelled = rw next (spelled_append sum.spelled (spelled_append is_sign.spelled product.spelled));
      tree = op_tree (rate_node_of read.tree) (rate_node_of left.tree) (rate_node_of right.tree) at left.next behind sum.sum product.product sum_tree product_tree (length (sum_spelled sum.sum)) tree sum.spelled.index is_sign.spelled.index sum.tree product.tree;
    }

-- ---- whole rates

pub is_computed : (kinds : List Terminal) (at : ℕ) (result : Result RateRead PartEnd) → ¬ Begins (drop at kinds) Top → ¬ BeginsWeighted (drop at kinds) → ReadsSum kinds at result → ReadsRate kinds at result
is_computed kinds at (Ok read) top weighted sum = record { rate = Computed sum.0.sum; spelled = sum.0.spelled; tree = sum.0.tree; ends = sum.1 }
is_computed kinds at (Err (Fault i)) top weighted sum = λ place. sum (Whole place) (top, weighted)
is_computed kinds at (Err Memory) top weighted sum = tt
