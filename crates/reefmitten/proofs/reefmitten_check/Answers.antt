use Rattle.reefmitten.proofs.reefmitten_check.Goals as goal

pub returns : goal.returns
returns c = c.check-checked.ensures
