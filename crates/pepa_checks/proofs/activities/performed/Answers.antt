use Rattle.std.proofs.Common.{◌≡◌, ◌<◌, ℕ, Bool, List, false, length, get_or, refl, sym, ap, ◌∙◌, subst, arith}
use Rattle.std.specs.List.{Contains}
use Rattle.std.proofs.lemmas.List.{take_all}
use Rattle.std.proofs.lemmas.List.{length-replicate}
use Rattle.std.proofs.lemmas.Option.{slice_get_within}
use Rattle.std.proofs.lemmas.Result.{err_from_is_err_and}
use Rattle.node_orders.specs.Graphs.{SaysYes}
use Rattle.pepa_checks.specs.ActivityLists.{LeafChoices, choices_outline}
use Rattle.pepa_checks.proofs.SizeCounting.{below_at}
use Rattle.pepa_checks.proofs.ListsMaking.{kept_none, none_marked}
use Rattle.pepa_checks.proofs.Performances.{constant_leaf}
use Rattle.pepa_checks.proofs.SoundLists.{sizes_after, marked_after, still_after, sound_after, end_after, ready_in_order, ready_behind, all_in_order, are_performed, operands_at, unset_at, ready_more, set_apart_from, made_more}
use Rattle.pepa_checks.proofs.activities.performed.Goals as goal
use Rattle.pepa_checks.proofs.activities.performed.Goals.{then-not-compounds-constant+in_ok-make, else-not-compounds-constant}

-- a constant of the order is one of the file
in_file : (compounds : List Bool) (order constants : List ℕ) (leaves : _) (choices : LeafChoices compounds order constants leaves) (k : ℕ) → k < length order → get_or order k 0 < length compounds
in_file compounds order constants leaves choices k low =
    let below = below_at (length choices.bodies) order k choices.in_order.below low in
    let e = choices.one_each in
    omega arith

has_leaf : (compounds : List Bool) (order constants : List ℕ) (leaves : _) (choices : LeafChoices compounds order constants leaves) (at : ℕ) → at < length compounds → get_or compounds at false ≡ false → get_or constants at 0 < length leaves
has_leaf compounds order constants leaves choices at low unset =
    let h = slice_get_within (choices_outline choices).leaves (get_or constants at 0) _ (constant_leaf compounds order constants leaves choices at (unset_at compounds at low unset)) in
    let e = choices.operands.one_each in
    omega arith

pub loop-constant-init : goal.loop-constant-init
loop-constant-init c = record {
  kept = kept_none c.in_ok-lists.lists (length c.args.leaves.now) c.in_ok-lists.ensures.0 c.in_ok-lists.ensures.1 c.in_ok-lists.ensures.2;
  sizes = ap length c.in_ok-lists.ensures.1 ∙ length-replicate (length c.args.leaves.now) _;
  sound = λ choices number marked. absurd (none_marked c.in_ok-lists.lists.made (length c.args.leaves.now) number c.in_ok-lists.ensures.0 marked);
  ready = λ d among. absurd (omega (arith, among.1));
}

pub bounds-compounds-constant : goal.bounds-compounds-constant
bounds-compounds-constant c = in_file c.args.file.compounds.now c.args.file.sequential_order.now c.args.constants.now c.args.leaves.now c.requires c.loop-constant.constant-index c.loop-constant-test.true

pub bounds-constants-constant : goal.bounds-constants-constant
bounds-constants-constant c =
    let low = in_file c.args.file.compounds.now c.args.file.sequential_order.now c.args.constants.now c.args.leaves.now c.requires c.loop-constant.constant-index c.loop-constant-test.true in
    let e = c.requires.constant_leaves.one_each in
    omega arith

pub bounds-leaves-number : goal.bounds-leaves-number
bounds-leaves-number c =
    let low = in_file c.args.file.compounds.now c.args.file.sequential_order.now c.args.constants.now c.args.leaves.now c.requires c.loop-constant.constant-index c.loop-constant-test.true in
    has_leaf c.args.file.compounds.now c.args.file.sequential_order.now c.args.constants.now c.args.leaves.now c.requires (get_or c.args.file.sequential_order.now c.loop-constant.constant-index 0) low c.if-not-compounds-constant.true

pub make-requires-clause-within : goal.make-requires-clause-within
make-requires-clause-within c =
    let low = in_file c.args.file.compounds.now c.args.file.sequential_order.now c.args.constants.now c.args.leaves.now c.requires c.loop-constant.constant-index c.loop-constant-test.true in
    let h = has_leaf c.args.file.compounds.now c.args.file.sequential_order.now c.args.constants.now c.args.leaves.now c.requires (get_or c.args.file.sequential_order.now c.loop-constant.constant-index 0) low c.if-not-compounds-constant.true in
    let e = c.loop-constant.invariant.sizes in
    omega arith

pub returns-in_err-make-clause-performed : goal.returns-in_err-make-clause-performed
returns-in_err-make-clause-performed c =
    let p = err_from_is_err_and c.from_residual-in_err-make.result c.from_residual-in_err-make.ensures.1 in
    let compounds = c.args.file.compounds.now in
    let order = c.args.file.sequential_order.now in
    let constants = c.args.constants.now in
    let leaves = c.args.leaves.now in
    let k = c.loop-constant.constant-index in
    let at = get_or order k 0 in
    let before = c.loop-constant.lists in
    let so_far = c.loop-constant.invariant in
    let low = in_file compounds order constants leaves c.requires k c.loop-constant-test.true in
    let flag_is = unset_at compounds at low c.if-not-compounds-constant.true in
    let within = has_leaf compounds order constants leaves c.requires at low c.if-not-compounds-constant.true in
    let operands_are = operands_at leaves (get_or constants at 0) c.index-leaves-number.result c.as_slice.result.now within c.index-leaves-number.is c.as_slice.ensures in
    λ choices.
    rw (p.1, p.2) (end_after compounds order constants leaves choices _ _ before (get_or constants at 0) c.as_slice.result.now c.in_err-make.field-0.0 so_far.kept so_far.sizes operands_are
    (ready_in_order compounds order constants leaves choices before.made k at c.loop-constant-test.true refl flag_is so_far.ready) (so_far.sound choices) c.in_err-make.ensures)

pub loop-constant-preserved : goal.loop-constant-preserved
loop-constant-preserved c =
    let compounds = c.args.file.compounds.now in
    let order = c.args.file.sequential_order.now in
    let constants = c.args.constants.now in
    let leaves = c.args.leaves.now in
    let k = c.loop-constant.constant-index in
    let at = get_or order k 0 in
    let number = get_or constants at 0 in
    let before = c.loop-constant.lists in
    let so_far = c.loop-constant.invariant in
    let low = in_file compounds order constants leaves c.requires k c.loop-constant-test.true in
    elim c.if-not-compounds-constant.branch [
      | then-not-compounds-constant+in_ok-make w ↦
          let flag_is = unset_at compounds at low w.if-not-compounds-constant.true in
          let within = has_leaf compounds order constants leaves c.requires at low w.if-not-compounds-constant.true in
          let operands = w.as_slice.result.now in
          let operands_are = operands_at leaves number w.index-leaves-number.result operands within w.index-leaves-number.is w.as_slice.ensures in
          let after = w.make.new.self in
          let makes = w.in_ok-make.ensures.1 in
          let marked = marked_after constants operands number before after (omega (arith, so_far.kept.sizes, so_far.sizes)) makes in
          rw w.lists-is record {
            kept = w.in_ok-make.ensures.0;
            sizes = sizes_after constants operands number before after makes ∙ so_far.sizes;
            sound = λ choices. sound_after compounds order constants leaves choices before after number operands so_far.kept so_far.sizes operands_are
                (ready_in_order compounds order constants leaves choices before.made k at c.loop-constant-test.true refl flag_is so_far.ready) (so_far.sound choices) makes;
            ready = ready_more compounds order constants before.made after.made k c.loop-constant-test.true (λ n known. still_after constants operands number before after n makes known) (λ flag. marked) so_far.ready;
          }
      | else-not-compounds-constant w ↦
          rw w.lists-is record {
            kept = so_far.kept;
            sizes = so_far.sizes;
            sound = so_far.sound;
            ready = ready_more compounds order constants before.made before.made k c.loop-constant-test.true (λ n known. known) (λ flag. absurd (set_apart_from compounds at w.if-not-compounds-constant.false flag)) so_far.ready;
          }
    ]

pub loop-number-init : goal.loop-number-init
loop-number-init c =
    let order = c.args.file.sequential_order.now in
    let so_far = c.loop-constant.invariant in
    record {
      kept = so_far.kept;
      sizes = so_far.sizes;
      sound = so_far.sound;
      ready = λ d flag_is.
          let among = all_in_order c.args.file.compounds.now order c.args.constants.now c.args.leaves.now c.requires d flag_is in
          so_far.ready d (subst (λ (xs : List ℕ). Contains xs d) (sym (take_all c.loop-constant.constant-index order c.loop-constant-test.false)) among) flag_is;
      made = λ n none. absurd (omega arith);
    }

pub returns-in_err-make-2-clause-performed : goal.returns-in_err-make-2-clause-performed
returns-in_err-make-2-clause-performed c =
    let p = err_from_is_err_and c.from_residual-in_err-make-2.result c.from_residual-in_err-make-2.ensures.1 in
    let compounds = c.args.file.compounds.now in
    let order = c.args.file.sequential_order.now in
    let constants = c.args.constants.now in
    let leaves = c.args.leaves.now in
    let number = c.loop-number.number in
    let before = c.loop-number.lists in
    let so_far = c.loop-number.invariant in
    let operands = c.as_slice-in-loop-number.result.now in
    let operands_are = operands_at leaves number c.index-leaves-number-in-loop-number.result operands c.loop-number-test.true c.index-leaves-number-in-loop-number.is c.as_slice-in-loop-number.ensures in
    λ choices.
    rw (p.1, p.2) (end_after compounds order constants leaves choices _ _ before number operands c.in_err-make-2.field-0.0 so_far.kept so_far.sizes operands_are
    (ready_behind compounds order constants leaves choices before.made number so_far.ready) (so_far.sound choices) c.in_err-make-2.ensures)

pub loop-number-preserved : goal.loop-number-preserved
loop-number-preserved c =
    let compounds = c.args.file.compounds.now in
    let order = c.args.file.sequential_order.now in
    let constants = c.args.constants.now in
    let leaves = c.args.leaves.now in
    let number = c.loop-number.number in
    let before = c.loop-number.lists in
    let so_far = c.loop-number.invariant in
    let operands = c.as_slice-in-loop-number.result.now in
    let operands_are = operands_at leaves number c.index-leaves-number-in-loop-number.result operands c.loop-number-test.true c.index-leaves-number-in-loop-number.is c.as_slice-in-loop-number.ensures in
    let after = c.make-in-loop-number.new.self in
    let makes = c.in_ok-make-2.ensures.1 in
    let marked = marked_after constants operands number before after (omega (arith, so_far.kept.sizes, so_far.sizes)) makes in
    let still = λ (n : ℕ) (known : SaysYes before.made n). still_after constants operands number before after n makes known in
    record {
      kept = c.in_ok-make-2.ensures.0;
      sizes = sizes_after constants operands number before after makes ∙ so_far.sizes;
      sound = λ choices. sound_after compounds order constants leaves choices before after number operands so_far.kept so_far.sizes operands_are
          (ready_behind compounds order constants leaves choices before.made number so_far.ready) (so_far.sound choices) makes;
      ready = λ d flag_is. still (get_or constants d 0) (so_far.ready d flag_is);
      made = made_more before.made after.made number still marked so_far.made;
    }

pub returns-clause-performed : goal.returns-clause-performed
returns-clause-performed c =
    let so_far = c.loop-number.invariant in
    λ choices.
    are_performed c.args.file.compounds.now c.args.file.sequential_order.now c.args.constants.now c.args.leaves.now choices c.loop-number.lists.made c.loop-number.lists.lists (so_far.sound choices) so_far.sizes
    (λ n low. so_far.made n (omega arith))
