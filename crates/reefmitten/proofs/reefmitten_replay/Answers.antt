use Rattle.reefmitten.proofs.reefmitten_replay.Goals as goal

pub returns : goal.returns
returns c = c.replay-replayed.ensures
