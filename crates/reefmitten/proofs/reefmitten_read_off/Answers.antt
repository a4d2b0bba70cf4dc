use Rattle.reefmitten.proofs.reefmitten_read_off.Goals as goal

pub returns : goal.returns
returns c = c.read_off-written_off.ensures
