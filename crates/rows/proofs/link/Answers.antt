use Rattle.rows.proofs.Table.{adds_as}
use Rattle.rows.proofs.link.Goals as goal

pub returns : goal.returns
returns c = adds_as _ _ _ _ (λ x y r. (r.0, c.one.ensures.says y r.1)) (λ x y r. (r.0, c.one.ensures.has y r.1)) c.add.ensures
