use native.Mathlib.Omega.{arith}
use Rattle.rows.proofs.Table.{zeros_rel}
use Rattle.judge.proofs.Orderings.{sources_of}
use Rattle.judge.proofs.check.ordered.Goals as goal

pub mate-requires : goal.mate-requires
mate-requires c = let g = c.requires.0 in
    (g.ready.right, g.ready.laid.locks, g.entered, omega arith, zeros_rel 64)

pub from_twentyfour-requires : goal.from_twentyfour-requires
from_twentyfour-requires c = let p = c.requires in
    let g = p.0 in (
      record {
        ready = g.ready;
        mated = c.mate.ensures;
        sources = sources_of _ _ c.put_sources.ensures;
        sourced = c.sourced.ensures;
        before = c.put_happens_before.ensures;
        witness = p.2;
      },
      g.sorted,
      p.3,
    )
