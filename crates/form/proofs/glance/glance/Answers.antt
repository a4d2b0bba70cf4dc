use Rattle.form.proofs.Seeing.{seen_pairs, seen_numbers, seen_locks}
use Rattle.form.proofs.glance.glance.Goals as goal

pub returns-in-3 : goal.returns-in-3
returns-in-3 c = seen_pairs _ _ _ _ _ c.requires.0 c.in-3.is _ c.below.ensures

pub returns-in-6 : goal.returns-in-6
returns-in-6 c = seen_numbers _ _ _ _ _ c.requires.0 c.in-6.is _ c.below-in-6.ensures

pub returns-in-7 : goal.returns-in-7
returns-in-7 c = seen_locks _ _ _ _ _ c.requires.0 c.in-7.is _ c.below-in-7.ensures
