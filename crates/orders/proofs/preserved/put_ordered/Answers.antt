use mathlib.Core.Path.{refl, ◌∙◌}
use native.Mathlib.Omega.{arith}
use Rattle.rows.proofs.Members.{in_low}
use Rattle.orders.proofs.Programs.{run_begin, run_here, run_less, run_one, run_more, run_done}
use Rattle.orders.proofs.Headings.{ahead_begin, ahead_here, ahead_first, ahead_more, ahead_done}
use Rattle.orders.proofs.preserved.put_ordered.Goals as goal

pub loop-h-init : goal.loop-h-init
loop-h-init c = rw c.into_iter-h-iterator.ensures.into_iter_gives (refl, λ z a b p h. (ahead_begin z _ _ h, run_begin z _ p _))

pub full-requires : goal.full-requires
full-requires c = let h = in_low _ _ c.in-Some.ensures.steps.0.0 in omega arith

pub loop-h-preserved : goal.loop-h-preserved
loop-h-preserved c = let (f, k) = c.in-Some.ensures.steps in (
  c.put_instruction.auto.t ∙ c.loop-h.invariant.0,
  λ z a b p h.
      let (v, r) = c.loop-h.invariant.1 z a b p h in
      let l = c.sub-rest.ensures in
      let n = ahead_here z _ _ h _ _ v _ f _ k _ _ _ c.full.ensures c.bitand-here.ensures l in
      let m = ahead_first z _ _ h _ _ v _ f _ k _ _ _ c.full.ensures c.bitand-here.ensures l in (
        ahead_more z _ _ h _ _ v _ f _ k _ _ _ c.full.ensures c.bitand-here.ensures l,
        run_more _ _ p _ _ _ r _ _ n l m _ (c.put_instruction.ensures z a b (run_here _ _ p _ _ _ r _ _ n l) (run_less _ _ p _ _ _ r _ _ n l) (run_one _ _ p _ _ _ r _ _ n l)),
      ),
)

pub returns : goal.returns
returns c = λ z a b p h. let (i, r) = c.loop-h.invariant.1 z a b p h in
    run_done _ _ p _ _ _ r (ahead_done _ _ _ h _ _ i c.in-None.ensures.steps)
