-- Where the sections of a record stand: numbers of any list of bytes, in the form or not.
use Rattle.std.specs.Prelude.{ℕ, zero, suc, ◌+◌, ◌*◌, List}
use Rattle.form.specs.Bytes.{num}
use Rattle.form.specs.Form.{width}
use Rattle.form.specs.declared.Counts.{Counts}

-- where section k starts: sections 0 and 1 are one byte each, then each is a two-byte count and its entries
unfoldable pub start : List ℕ → ℕ → ℕ
start s zero = 0
start s (suc zero) = 1
start s (suc (suc zero)) = 2
start s (suc (suc (suc j))) = let at = start s (suc (suc j)) in at + 2 + num 2 s at * width (suc (suc j))

-- how many entries section k has
unfoldable pub count : List ℕ → ℕ → ℕ
count s k = num 2 s (start s k)

-- where entry i of section k starts
unfoldable pub entry_at : List ℕ → ℕ → ℕ → ℕ
entry_at s k i = start s k + 2 + i * width k

-- where the view of processor p starts, its count included
unfoldable pub view_start : List ℕ → ℕ → ℕ
view_start s zero = start s 9 + 2
view_start s (suc p) = let at = view_start s p in at + 2 + num 2 s at * width 9

unfoldable pub counts : List ℕ → Counts
unfolding count
counts s = record { processors = num 1 s 1; events = count s 2; locks = count s 4 }
