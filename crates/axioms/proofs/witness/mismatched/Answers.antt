use Rattle.order.proofs.Searches.{none_next}
use Rattle.axioms.proofs.Pairings.{from_low, to_low, pair_within, wrong_pair, right_pair}
use Rattle.axioms.proofs.witness.mismatched.Goals as goal

pub paired-requires : goal.paired-requires
paired-requires c =
    let p = c.requires in
    let l = c.loop-i-test.true in
    record {
      facts = (p.0, p.2, p.3);
      events = (from_low _ p.0 _ p.1 _ l _ c.source_of-w.ensures, to_low _ p.0 _ p.1 _ l _ c.reader_of-r.ensures);
    }

pub returns-then-not-paired : goal.returns-then-not-paired
returns-then-not-paired c =
    let p = c.requires in
    let l = c.loop-i-test.true in
    (l, (wrong_pair _ _ _ _ c.source_of-w.ensures c.reader_of-r.ensures (pair_within _ p.0 _ p.1 _ l) (c.paired.ensures.fails c.if-not-paired.true), c.loop-i.invariant))

pub loop-i-preserved : goal.loop-i-preserved
loop-i-preserved c = none_next _ _ c.loop-i.invariant (right_pair _ _ _ _ c.source_of-w.ensures c.reader_of-r.ensures (c.paired.ensures.holds c.if-not-paired.false))
