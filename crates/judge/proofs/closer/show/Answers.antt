use mathlib.Core.Path.{ap}
use Rattle.record.specs.Says.{execution_of}
use Rattle.judge.specs.Later.{place}
use Rattle.judge.proofs.Closings.{ruled_case}
use Rattle.judge.proofs.Lookings.{processor_low, arrange_ready, looked_scene}
use Rattle.judge.proofs.closer.show.Goals as goal

pub arrange-requires : goal.arrange-requires
arrange-requires c = let o = c.requires.ordered.0 in
    let (l, v, i, n) = c.requires.p_bound in
    arrange_ready _ _ _ _ _ _ o _ l _ v

pub show_overwritten-requires : goal.show_overwritten-requires
show_overwritten-requires c = let o = c.requires.ordered.0 in
    let (l, v, i, n) = c.requires.p_bound in
    ((execution_of c.args.s.now, (looked_scene _ _ _ _ _ _ o _ l _ v _ c.arrange.ensures _ i n, o.sources)), processor_low _ _ _ _ _ _ o _ l, c.requires.ordered.1)

pub show_uninitial-requires : goal.show_uninitial-requires
show_uninitial-requires c = let o = c.requires.ordered.0 in
    let (l, v, i, n) = c.requires.p_bound in
    record { right = (o.ready.right, o.ready.laid, o.sourced); scene = (looked_scene _ _ _ _ _ _ o _ l _ v _ c.arrange.ensures _ i n, processor_low _ _ _ _ _ _ o _ l, c.requires.ordered.1) }

pub show_torn-requires : goal.show_torn-requires
show_torn-requires c = let o = c.requires.ordered.0 in
    let (l, v, i, n) = c.requires.p_bound in
    ((execution_of c.args.s.now, ((looked_scene _ _ _ _ _ _ o _ l _ v _ c.arrange.ensures _ i n).view, (o.mated, o.ready.classed))), processor_low _ _ _ _ _ _ o _ l, c.requires.ordered.1)

pub returns-in-Overwritten : goal.returns-in-Overwritten
returns-in-Overwritten c = let o = c.requires.ordered.0 in
    let (l, v, i, n) = c.requires.p_bound in
    ruled_case (execution_of c.args.s.now) _ 0 _ _ _ _ (ap place c.in-Overwritten.is) (c.show_overwritten.ensures (execution_of c.args.s.now) (looked_scene _ _ _ _ _ _ o _ l _ v _ c.arrange.ensures _ i n) o.sources)

pub returns-in-Uninitial : goal.returns-in-Uninitial
returns-in-Uninitial c = ruled_case (execution_of c.args.s.now) _ 1 _ _ _ _ (ap place c.in-Uninitial.is) c.show_uninitial.ensures

pub returns-in-Torn : goal.returns-in-Torn
returns-in-Torn c = let o = c.requires.ordered.0 in
    let (l, v, i, n) = c.requires.p_bound in
    ruled_case (execution_of c.args.s.now) _ 2 _ _ _ _ (ap place c.in-Torn.is) (c.show_torn.ensures (execution_of c.args.s.now) (looked_scene _ _ _ _ _ _ o _ l _ v _ c.arrange.ensures _ i n).view o.mated o.ready.classed)
