use native.Mathlib.Omega.{arith}
use Rattle.order.proofs.Judgements.{given_next}
use Rattle.order.proofs.Searches.{found_hit, one_shown}
use Rattle.rows.proofs.Table.{zeros_rel}
use Rattle.record.specs.Says.{execution_of}
use Rattle.record.proofs.Formings.{formed}
use Rattle.replay.proofs.Narrowings.{front_listed, table_ordered, wrong_least, event_kept, table_lined}
use Rattle.sequences.specs.Sequence.{WrongEvent}
use Rattle.replay.proofs.sequence.from_thirty.Goals as goal

pub full-all-requires : goal.full-all-requires
full-all-requires c = let p = c.requires.right in
    let w = (formed _ p.0).events.within in
    let e = p.1.events in
    omega arith

pub misplaced-requires : goal.misplaced-requires
misplaced-requires c = let p = c.requires.right in
    let (i, narrowed, size) = c.requires.by_index in
    front_listed (execution_of c.args.s.now) (formed _ p.0).events.within i _ narrowed size _ p.1.events

pub returns-in-Some-clause-by_index_2 : goal.returns-in-Some-clause-by_index_2
returns-in-Some-clause-by_index_2 c i narrowed size = let p = c.requires.right in
    let b = p.5 in
    let z = execution_of c.args.s.now in
    let f = wrong_least z (formed _ p.0).events.within i _ narrowed size _ p.1.events _ c.full-all.ensures _ c.in-Some.ensures in
    one_shown 30 64 (WrongEvent z i) _ (found_hit 64 _ _ f) f.0 _ c.args.ev.now (omega arith)

pub mate-requires : goal.mate-requires
mate-requires c = let p = c.requires.right in
    (p.0, p.1.locks, p.2, omega arith, zeros_rel 64)

pub put_order-requires : goal.put_order-requires
put_order-requires c = let p = c.requires.right in
    let (i, narrowed, size) = c.requires.by_index in
    (front_listed (execution_of c.args.s.now) (formed _ p.0).events.within i _ narrowed size _ p.1.events, p.4.0)

pub from_thirtyone-requires-clause-by_index : goal.from_thirtyone-requires-clause-by_index
from_thirtyone-requires-clause-by_index c = let p = c.requires.right in
    let (i, narrowed, size) = c.requires.by_index in
    let z = execution_of c.args.s.now in
    let w = (formed _ p.0).events.within in
    let order = table_ordered z w i _ narrowed size _ p.1.events _ _ p.4 c.put_order.ensures in
    let line = table_lined z w i _ narrowed size _ p.1.events _ c.full-all.ensures c.in_default.ensures _ order in
    (z, i, line, c.mate.ensures, p.3)

pub returns : goal.returns
returns c = let p = c.requires.right in
    let z = execution_of c.args.s.now in
    let w = (formed _ p.0).events.within in record {
      by_index_2 = λ i narrowed size.
          let order = table_ordered z w i _ narrowed size _ p.1.events _ _ p.4 c.put_order.ensures in
          let line = table_lined z w i _ narrowed size _ p.1.events _ c.full-all.ensures c.in_default.ensures _ order in
          let kept = event_kept z w i _ narrowed size _ p.1.events _ c.full-all.ensures c.in_default.ensures in
          given_next _ _ _ _ _ _ kept (c.from_thirtyone.ensures z i line c.mate.ensures p.3);
      by_index_3 = λ i narrowed size q. table_ordered z w i _ narrowed size _ p.1.events _ _ p.4 c.put_order.ensures;
    }
