-- `heads::join_columns` meets its contract. Assumes nothing.
use mathlib.Core.Path.{refl, sym}
use Rattle.refusals.proofs.First.{at_err}
use Rattle.heads.proofs.Calling.{stored, whole, denied, left_asks, left_refused, right_asks, right_refused, Done, both_joined, output_short, copy_room, written}
use Rattle.heads.proofs.join_columns.Goals as goal
use Rattle.heads.proofs.join_columns.Goals.{In_ok-count}

-- both sides are joined
done : (c : In_ok-count) → Done (whole c.args.nullable c.args.left_name.now c.args.left.now c.args.right_name.now c.args.right.now c.args.text.now c.args.out.now c.args.used) (stored c.args.nullable c.args.left_name.now c.args.left.now c.args.right_name.now c.args.right.now c.args.text.now c.args.out.now c.args.used) c.args.out.now c.join_side-2.new.text c.join_side-2.new.words c.in_ok-count.count c.in_ok-count.top
done c = both_joined c.args.nullable c.args.left_name.now c.args.left.now c.args.right_name.now c.args.right.now c.args.text.now c.args.out.now c.args.used (sym c.in_ok-check_sides.ensures) _ _ _ _ c.in_ok-middle.ensures _ _ refl c.join_side.auto.text c.join_side.auto.words _ _ _ c.in_ok-count.ensures _ _ refl c.join_side-2.auto.text c.join_side-2.auto.words

pub returns-in_err-check_sides : goal.returns-in_err-check_sides
returns-in_err-check_sides c = rw (at_err c.from_residual.ensures.1) (denied c.args.nullable c.args.left_name.now c.args.left.now c.args.right_name.now c.args.right.now c.args.text.now c.args.out.now c.args.used _ (sym c.in_err-check_sides.ensures))

pub join_side-requires : goal.join_side-requires
join_side-requires c = left_asks c.args.nullable c.args.left_name.now c.args.left.now c.args.right_name.now c.args.right.now c.args.text.now c.args.out.now c.args.used (sym c.in_ok-check_sides.ensures) _ refl

pub returns-in_err-middle : goal.returns-in_err-middle
returns-in_err-middle c = rw (at_err c.from_residual-in_err-middle.ensures.1) (left_refused c.args.nullable c.args.left_name.now c.args.left.now c.args.right_name.now c.args.right.now c.args.text.now c.args.out.now c.args.used (sym c.in_ok-check_sides.ensures) _ _ _ _ c.in_err-middle.ensures _ refl)

pub join_side-requires-2 : goal.join_side-requires-2
join_side-requires-2 c = right_asks c.args.nullable c.args.left_name.now c.args.left.now c.args.right_name.now c.args.right.now c.args.text.now c.args.out.now c.args.used (sym c.in_ok-check_sides.ensures) _ _ _ _ c.in_ok-middle.ensures _ _ refl c.join_side.auto.text c.join_side.auto.words

pub returns-in_err-count : goal.returns-in_err-count
returns-in_err-count c = rw (at_err c.from_residual-in_err-count.ensures.1) (right_refused c.args.nullable c.args.left_name.now c.args.left.now c.args.right_name.now c.args.right.now c.args.text.now c.args.out.now c.args.used (sym c.in_ok-check_sides.ensures) _ _ _ _ c.in_ok-middle.ensures _ _ refl c.join_side.auto.text c.join_side.auto.words _ _ _ c.in_err-count.ensures _ refl)

pub returns-then-out-count : goal.returns-then-out-count
returns-then-out-count c = output_short (done (goal.at.returns-then-out-count c).In_ok-count) c.if-out-count.true

pub slice_bounds-words-end : goal.slice_bounds-words-end
slice_bounds-words-end c = (done (goal.at.slice_bounds-words-end c).In_ok-count).small

pub slice_bounds-copy-end : goal.slice_bounds-copy-end
slice_bounds-copy-end c = sym (done (goal.at.slice_bounds-copy-end c).In_ok-count).counted

pub copy-requires : goal.copy-requires
copy-requires c = copy_room (done (goal.at.copy-requires c).In_ok-count) c.if-out-count.false

pub returns : goal.returns
returns c = written (done (goal.at.returns c).In_ok-count) c.if-out-count.false _ _ c.copy.ensures
