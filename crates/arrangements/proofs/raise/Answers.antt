use Rattle.arrangements.proofs.Arrangements.{raised_found, raised_none}
use Rattle.arrangements.proofs.raise.Goals as goal

pub returns-in-Some : goal.returns-in-Some
returns-in-Some c = rw c.swap.ensures.after (raised_found c.args.l.now c.in-Some.i c.in-Some.ensures.1 c.in-Some.ensures.0)

pub returns-in-None : goal.returns-in-None
returns-in-None c = rw c.rotate_left.ensures.after (raised_none c.args.l.now c.in-None.ensures c.requires)
