use native.Mathlib.Omega.{arith}
use native.Mathlib.Numerals.{add-one}
use lib.Seq.{length-take-le, take-suc, take_all}
use Rattle.lent.proofs.Puts.{put_nothing, put_next, put_length}
use Rattle.readoff.proofs.bytes.put_front.Goals as goal

pub loop-i-init : goal.loop-i-init
loop-i-init c = put_nothing _ 0 (omega arith)

pub bounds-out-i : goal.bounds-out-i
bounds-out-i c = omega (arith, put_length _ _ _ 0 c.loop-i.invariant)

pub loop-i-preserved : goal.loop-i-preserved
loop-i-preserved c =
    let l = c.loop-i in
    let s = c.args.bytes.now in
    let e = length-take-le l.i s (omega arith) in
    rw (add-one l.i, take-suc s l.i 0 (omega arith)) (put_next _ _ _ 0 l.i _ l.invariant (omega arith) (omega arith))

pub returns : goal.returns
returns c = rw (take_all c.loop-i.i c.args.bytes.now (omega arith)) at c.loop-i.invariant
