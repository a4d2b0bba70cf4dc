use Rattle.judge.proofs.Calms.{calm_quiet, none_found}
use Rattle.judge.proofs.views.calm.Goals.{then-is_none, else-is_none}
use Rattle.judge.proofs.views.calm.Goals as goal

pub returns-then-is_none-2 : goal.returns-then-is_none-2
returns-then-is_none-2 c = λ p g e.
    let m = c.requires in
    let t = c.if-is_none-2.true in
    elim c.if-is_none.branch [
      | then-is_none w ↦
          calm_quiet _ p _ _ _ _ g
          (none_found _ _ _ _ (c.overwritten.ensures _ p g m.sources.0) c.is_none.ensures w.if-is_none.true)
          (none_found _ _ _ _ (w.uninitial.ensures p g) w.is_none-then-is_none.ensures (cc))
          (none_found _ _ _ _ (c.torn.ensures _ _ g.view.line m.sources.1 g.classes.locked) c.is_none-then-is_none-2.ensures e)
      | else-is_none w ↦ absurd (cc)
    ]

pub returns-else-is_none-2 : goal.returns-else-is_none-2
returns-else-is_none-2 c = λ p g e. let f = c.if-is_none-2.false in absurd (cc)
