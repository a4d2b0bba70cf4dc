-- The record that is read off from a sequence, byte by byte.
use Rattle.std.specs.Prelude.{ℕ, zero, suc, List, [], ◌∷◌, ◌++◌, length, take}
use Rattle.form.specs.Bytes.{two_bytes, counted}
use Rattle.form.specs.Place.{start}
use Rattle.record.specs.Execution.{Pair, Execution}
use Rattle.record.specs.Says.{execution_of}
use Rattle.sequences.specs.ReadOff.{stores_of, locks_from, sources_from, view_of}

-- each pair in two bytes
unfoldable pub pairs : List Pair → List ℕ
pairs [] = []
pairs (p ∷ l) = p.from ∷ p.to ∷ pairs l

-- the views of the first m processors, one after the other
unfoldable pub views : Execution → List ℕ → ℕ → List ℕ
views z l zero = []
views z l (suc m) = views z l m ++ counted (view_of z m l)

-- sections 6 to 9
abbrev pub witness : Execution → List ℕ → List ℕ
witness z l =
    counted (stores_of z l)
    ++ (counted (locks_from z [] l)
    ++ ((two_bytes (length (sources_from z [] l)) ++ pairs (sources_from z [] l))
    ++ (two_bytes z.processors ++ views z l z.processors)))

-- sections 0 to 5 as they stand, then the witness
unfoldable pub bytes_of : List ℕ → List ℕ → List ℕ
bytes_of s l = take (start s 6) s ++ witness (execution_of s) l
