use native.Mathlib.Omega.{arith}
use Rattle.listing.proofs.Texts.{decimal_length, spaced_length, to_then}
use Rattle.listing.proofs.Lines.{verdict_parts}
use Rattle.listing.proofs.listing.put_verdict.Goals as goal

pub put_word-c-requires : goal.put_word-c-requires
put_word-c-requires c = omega (arith, decimal_length)

pub put_numbers-d-requires : goal.put_numbers-d-requires
put_numbers-d-requires c = omega (arith, decimal_length)

pub put_word-requires : goal.put_word-requires
put_word-requires c = omega (arith, decimal_length, spaced_length c.args.ev.now)

pub returns : goal.returns
returns c =
    let a = c.args in
    rw (verdict_parts a.answer a.ev.now)
    (to_then _ _ _ _ _ _ _ _ c.put_word-a.ensures
    (to_then _ _ _ _ _ _ _ _ c.put_number-b.ensures
    (to_then _ _ _ _ _ _ _ _ c.put_word-c.ensures (to_then _ _ _ _ _ _ _ _ c.put_numbers-d.ensures c.put_word.ensures))))
