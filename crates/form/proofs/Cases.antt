-- Worked cases, computed by the definitions: S1 is 102 bytes and has the form; 18 bytes, a 1 and seventeen zeros, have it; no bytes are 2, section 0.
use Prim.Native.Nat.{ℕ}
use mathlib.Core.Path.{◌≡◌, refl}
use mathlib.Core.List.{List, [], ◌∷◌}
use lib.ListN.{replicate}
use Rattle.std.specs.Prelude.{Ok}
use Rattle.form.specs.Bytes.{num}
use Rattle.form.specs.Steps.{stop, run, upto}
use Rattle.form.specs.Form.{width, limit, due, place_right, owner_right, event_fields, pair_fields, lock_fields, initial_fields, one_field, fields, entry, entries, block, sections, views}
use Rattle.form.specs.Place.{start, count, counts}
use Rattle.form.specs.Whole.{head, tail, body, whole}

-- slot case S1
unfoldable pub s1 : List ℕ
s1 =
    1 ∷ 2 ∷ 4 ∷ 0
    ∷ 0 ∷ 1 ∷ 0 ∷ 0 ∷ 100 ∷ 0 ∷ 0 ∷ 0 ∷ 1 ∷ 0 ∷ 0 ∷ 0
    ∷ 0 ∷ 0 ∷ 1 ∷ 0 ∷ 200 ∷ 0 ∷ 0 ∷ 0 ∷ 0 ∷ 0 ∷ 0 ∷ 0
    ∷ 1 ∷ 1 ∷ 0 ∷ 0 ∷ 200 ∷ 0 ∷ 0 ∷ 0 ∷ 1 ∷ 0 ∷ 0 ∷ 0
    ∷ 1 ∷ 0 ∷ 1 ∷ 0 ∷ 100 ∷ 0 ∷ 0 ∷ 0 ∷ 0 ∷ 0 ∷ 0 ∷ 0
    ∷ 0 ∷ 0 ∷ 0 ∷ 0 ∷ 2 ∷ 0
    ∷ 0 ∷ 0 ∷ 0 ∷ 0 ∷ 100 ∷ 0 ∷ 0 ∷ 0 ∷ 0 ∷ 0 ∷ 0 ∷ 0
    ∷ 0 ∷ 0 ∷ 0 ∷ 0 ∷ 200 ∷ 0 ∷ 0 ∷ 0 ∷ 0 ∷ 0 ∷ 0 ∷ 0
    ∷ 2 ∷ 0 ∷ 0 ∷ 2 ∷ 0 ∷ 0 ∷ 0 ∷ 0
    ∷ 2 ∷ 0 ∷ 3 ∷ 0 ∷ 0 ∷ 1 ∷ 2 ∷ 3 ∷ 0 ∷ 2 ∷ 3 ∷ 0
    ∷ []

pub s1_reads : whole s1 ≡ Ok 102
unfolding s1 num run upto width limit due place_right owner_right event_fields pair_fields lock_fields initial_fields one_field fields entry entries block sections views start count counts head tail body whole
s1_reads = refl

pub zeros_read : whole (1 ∷ replicate 17 0) ≡ Ok 18
unfolding num run upto width limit due place_right owner_right event_fields pair_fields lock_fields initial_fields one_field fields entry entries block sections views start count counts head tail body whole
zeros_read = refl

pub none_refused : whole [] ≡ stop 2 0 0
unfolding num run upto width limit due place_right owner_right event_fields pair_fields lock_fields initial_fields one_field fields entry entries block sections views start count counts head tail body whole
none_refused = refl
