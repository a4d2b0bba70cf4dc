use native.Mathlib.Omega.{arith}
use Rattle.order.proofs.Judgements.{given_next}
use Rattle.structure.proofs.Judging.{show_ready, held_of, shown_11, kept_11, given_from}
use Rattle.structure.proofs.rules.from_eleven.Goals as goal

pub show-requires : goal.show-requires
show-requires c = let a = c.args in
    let p = c.requires in
    show_ready _ p.0.right _ p.0.laid _ (held_of _ p.0.right _ _ p.2.0 p.2.1 c.put_causes.ensures) a.ev.now p.3

pub returns-in-Some : goal.returns-in-Some
returns-in-Some c = let p = c.requires in
    let h = held_of _ p.0.right _ _ p.2.0 p.2.1 c.put_causes.ensures in
    record { held = h; given = shown_11 _ p.0.right _ h _ p.0.laid.events _ _ _ c.in-Some.ensures _ }

pub from_twelve-requires : goal.from_twelve-requires
from_twelve-requires c = let p = c.requires in
    let k = c.show.auto in
    let b = p.3 in
    (p.0, p.1, held_of _ p.0.right _ _ p.2.0 p.2.1 c.put_causes.ensures, omega arith)

pub returns : goal.returns
returns c = let p = c.requires in
    let h = held_of _ p.0.right _ _ p.2.0 p.2.1 c.put_causes.ensures in
    let k = kept_11 _ p.0.right _ h _ p.0.laid.events _ _ c.in_default.ensures in
    record { held = h; given = given_next _ _ _ _ _ _ k.0 (given_from _ _ _ _ _ _ k.1 c.from_twelve.ensures) }
