use Rattle.record.specs.Says.{execution_of}
use Rattle.orders.proofs.Programs.{run_here, run_less, run_one, run_more, run_done, earliest_first, earliest_fewer}
use Rattle.orders.proofs.preserved.put_unordered.Goals as goal

pub loop-c-smaller : goal.loop-c-smaller
loop-c-smaller c = earliest_fewer (execution_of c.args.s.now) _ _ _ c.earliest-here.ensures c.sub-rest.ensures (c.any.ensures.holds c.loop-c-test.true)

pub loop-c-preserved : goal.loop-c-preserved
loop-c-preserved c = let p = c.requires in
    let i = c.earliest-here.ensures in
    let k = c.sub-rest.ensures in
    let v = c.loop-c.invariant in
    run_more _ _ p.3 _ _ _ v _ _ i.says k (earliest_first (execution_of c.args.s.now) _ _ _ i k) _
    (c.put_instruction.ensures _ p.1 p.2 (run_here _ _ p.3 _ _ _ v _ _ i.says k) (run_less _ _ p.3 _ _ _ v _ _ i.says k) (run_one _ _ p.3 _ _ _ v _ _ i.says k))

pub returns : goal.returns
returns c = run_done _ _ c.requires.3 _ _ _ c.loop-c.invariant (λ a b m n l. c.any.ensures.fails c.loop-c-test.false (a, m))
