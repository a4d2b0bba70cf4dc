use Prim.Native.Nat.{ℕ, ◌+◌, ◌%◌, ◌<◌}
use native.Mathlib.Omega.{arith}
use lib.ListN.{length, length-set}
use lib.Seq.{take_all}
use Rattle.listing.proofs.Texts.{powers, powers_above, digits_upto, digits_none, digits_next, decimal_digits, to_then, to_byte}
use Rattle.listing.proofs.numbers.put_number.Goals as goal

pub loop-p-init : goal.loop-p-init
loop-p-init c = digits_none _ _ _ (omega (arith, length-set {A = ℕ}))

pub put_digit-to-requires : goal.put_digit-to-requires
put_digit-to-requires c =
    let i = c.loop-p.p-index in
    let t = c.loop-p-test.true in
    (powers_above i t, omega (arith, digits_upto i c.args.x (omega arith), length-set {A = ℕ}))

pub loop-p-preserved : goal.loop-p-preserved
loop-p-preserved c = digits_next _ _ _ powers _ _ _ c.loop-p.p-index _ c.loop-p-test.true c.loop-p.invariant c.put_digit-to.ensures

pub bounds-out-to : goal.bounds-out-to
bounds-out-to c =
    let i = c.loop-p.p-index in
    omega (arith, digits_upto i c.args.x (omega arith), length-set {A = ℕ})

pub returns : goal.returns
returns c =
    let a = c.args in
    let i = c.loop-p.p-index in
    let l = c.loop-p in
    let last : l.to < length l.out = omega (arith, digits_upto i a.x (omega arith), length-set {A = ℕ}) in
    rw (decimal_digits a.x) (to_then _ _ _ _ _ _ _ _ (to_byte a.out.now a.at 32 (omega arith))
    (to_then _ _ _ _ _ _ _ _ (rw (take_all i powers (omega arith)) at l.invariant) (to_byte l.out l.to (48 + a.x % 10) last)))
