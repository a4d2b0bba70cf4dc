use Rattle.rows.proofs.Members.{in_low}
use Rattle.cycles.proofs.Layers.{near_begin, near_found, near_more, near_none, near_limit}
use Rattle.cycles.proofs.steps.Goals as goal

pub one-front-requires : goal.one-front-requires
one-front-requires c = in_low _ _ c.requires.1

pub loop-k-init : goal.loop-k-init
loop-k-init c = near_begin _ _ (λ x y r. r.1) _ _ c.requires.1 _ _ c.none-seen.ensures c.one-front.ensures

pub has-requires : goal.has-requires
has-requires c = in_low _ _ c.requires.1

pub returns-then-has : goal.returns-then-has
returns-then-has c = near_found _ _ (λ x y r. r.1) _ _ _ _ _ c.loop-k.invariant _ _ c.onward.ensures c.sub-front.ensures _ c.loop-k-test.true (c.has.ensures.holds c.if-has.true)

pub returns-then-not-any : goal.returns-then-not-any
returns-then-not-any c = near_none _ _ (λ x y r. r.1) _ _ _ _ _ c.loop-k.invariant _ _ c.onward.ensures c.sub-front.ensures (c.any.ensures.fails c.if-not-any.true) _

pub loop-k-preserved : goal.loop-k-preserved
loop-k-preserved c = near_more _ _ (λ x y r. r.1) _ _ _ _ _ c.loop-k.invariant _ _ c.onward.ensures c.sub-front.ensures (c.has.ensures.fails c.if-has.false) _ c.bitor-seen.ensures

pub returns : goal.returns
returns c = near_limit _ _ (λ x y r. r.1) _ _ _ _ _ _ c.loop-k.invariant c.loop-k-test.false
