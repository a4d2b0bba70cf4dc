use native.Mathlib.Omega.{arith}
use lib.ListN.{take}
use lib.Seq.{length-take-le}
use Rattle.lent.proofs.Puts.{put_nothing}
use Rattle.listing.specs.Text.{spaced}
use Rattle.listing.proofs.Texts.{spaced_length, numbers_next}
use Rattle.listing.proofs.numbers.put_numbers.Goals as goal

pub loop-x-init : goal.loop-x-init
unfolding spaced
loop-x-init c = (put_nothing _ _ (omega arith), omega arith)

pub put_number-to-requires : goal.put_number-to-requires
put_number-to-requires c =
    let i = c.loop-x.x-index in
    let l = c.args.list.now in
    omega (arith, spaced_length (take i l), length-take-le i l (omega arith))

pub loop-x-preserved : goal.loop-x-preserved
loop-x-preserved c = numbers_next _ _ _ c.args.list.now _ _ _ c.loop-x.x-index c.loop-x-test.true c.loop-x.invariant c.put_number-to.ensures
