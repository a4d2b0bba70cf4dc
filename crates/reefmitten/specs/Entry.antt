-- An entry of a record as numbers: its section, place and length; 0 where there is none.
use Rattle.std.specs.Prelude.{ℕ, Some, None}
use Rattle.reader.specs.Entries.{Item}

abbrev pub section_of : Item → ℕ
section_of (Some e) = e.section
section_of None = 0

abbrev pub place_of : Item → ℕ
place_of (Some e) = e.at
place_of None = 0

abbrev pub length_of : Item → ℕ
length_of (Some e) = e.len
length_of None = 0
