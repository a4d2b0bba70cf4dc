-- What the read-off hands back.
use Rattle.std.specs.Prelude.{ℕ, ◌<◌, ◌≤◌, ◌≡◌, ◌⊎◌, List, length, Result, Ok, Err}
use Rattle.order.specs.Evidence.{Written}
use Rattle.structure.specs.Examined.{examination}
use Rattle.record.specs.Says.{execution_of}
use Rattle.record.specs.declared.refusal.Refusal.{Refusal}
use Rattle.sequences.specs.Sequence.{sequence_rules}
use Rattle.readoff.specs.Bytes.{bytes_of}

-- how many bytes are written: none on a refusal
abbrev pub written_of : Result ℕ Refusal → ℕ
written_of (Ok k) = k
written_of (Err r) = 0

-- on 0 the record that is read off and its length, and not one byte more; on a refusal no byte
abbrev pub WrittenOff : List ℕ → List ℕ → List ℕ → List ℕ → ℕ → ℕ → Type 0
WrittenOff s l before after a k =
    ((a ≡ 0) × Written (bytes_of s l) before after k) ⊎ ((a ≡ 0 → ⊥) × (k ≡ 0) × (after ≡ before))

-- a buffer of fewer than 2,346 bytes: answer 1; else the judgement by the rules up to 31, whose evidence is not handed out
abbrev pub ReadOff : List ℕ → List ℕ → List ℕ → List ℕ → ℕ → ℕ → Type 0
ReadOff s l before after a k =
    ((length before < 2346) × (a ≡ 1) × (k ≡ 0) × (after ≡ before))
    ⊎ ((2346 ≤ length before)
    × ((e : List ℕ) × examination s (sequence_rules (execution_of s) l) a e × WrittenOff s l before after a k))
