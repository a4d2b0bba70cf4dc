-- What the replay hands back.
use Rattle.std.specs.Prelude.{ℕ, List}
use Rattle.structure.specs.Examined.{Answered}
use Rattle.record.specs.Says.{execution_of}
use Rattle.sequences.specs.Sequence.{replay_rules}

-- the judgement by the form and structure rules and the rules 28 to 33
abbrev pub Replayed : List ℕ → List ℕ → List ℕ → List ℕ → ℕ → ℕ → Type 0
Replayed s l = Answered s (replay_rules (execution_of s) l)
