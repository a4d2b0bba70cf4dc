use native.Mathlib.Omega.{arith}
use Rattle.rows.proofs.Table.{zeros_rel}
use Rattle.facts.proofs.places.place.Goals as goal

pub put_slots-requires : goal.put_slots-requires
put_slots-requires c = let p = c.requires in
    (p.0, p.1, omega arith, zeros_rel 64)

pub put_places-requires : goal.put_places-requires
put_places-requires c = let p = c.requires in
    (p.0, p.1, p.2, c.put_slots.ensures, p.3, p.4)

pub returns : goal.returns
returns c = c.put_places.ensures
