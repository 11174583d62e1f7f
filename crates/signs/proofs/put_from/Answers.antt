-- `signs::put_from` meets its contract. Assumes nothing.
use mathlib.Core.Path.{subst}
use Prim.Native.Nat.{◌/◌, ◌%◌}
use Rattle.puts.specs.Put.{Puts}
use Rattle.signs.proofs.Placing.{ends_inside, sign_part}
use Rattle.signs.proofs.put_from.Goals as goal

pub slice_bounds-put_bytes-end : goal.slice_bounds-put_bytes-end
slice_bounds-put_bytes-end c = ends_inside _ _ _ c.requires.0 c.sign_place-place.ensures.1

pub returns : goal.returns
returns c = let start = c in
    let placed = c.sign_place-place in
    let put = c.put_bytes in
    let r = placed.result in
    subst (λ b. Puts start.args.out.now start.args.at b put.result put.new.out) (sign_part start.args.text.now (r / 8) (r % 8) start.args.op start.requires.0 placed.ensures.0) put.ensures
