-- All entries of a record in order, and what a reader gives that goes on from each entry to its end: for any list of bytes.
use Rattle.std.specs.Prelude.{ℕ, zero, suc, ◌+◌, ◌≤◌, ◌<◌, ◌≡◌, List, [], ◌∷◌, ◌++◌, Some, None}
use Rattle.form.specs.Bytes.{num}
use Rattle.form.specs.Place.{count}
use Rattle.reader.specs.Entries.{Item, entry_of, view_of, item_at}

-- f i, f (i + 1), .., m of them
unfoldable pub list_of : (ℕ → Item) → ℕ → ℕ → List Item
list_of f i zero = []
list_of f i (suc m) = f i ∷ list_of f (i + 1) m

-- the entries of section k
unfoldable pub entries_of : List ℕ → ℕ → List Item
entries_of s k = list_of (entry_of s k) 0 (count s k)

-- the entries of m sections, from section k on
unfoldable pub sections_of : List ℕ → ℕ → ℕ → List Item
sections_of s k zero = []
sections_of s k (suc m) = entries_of s k ++ sections_of s (k + 1) m

-- the views of the processors
unfoldable pub views_of : List ℕ → List Item
views_of s = list_of (view_of s) 0 (num 1 s 1)

-- every entry: of sections 2 to 8, then the views
unfoldable pub all_entries : List ℕ → List Item
all_entries s = sections_of s 2 7 ++ views_of s

-- reading from `at` on, each time from the end of the entry before, gives the entries of the list and then none
unfoldable pub Walks : List ℕ → ℕ → List Item → Type 0
Walks s at [] = item_at s at ≡ None
Walks s at (Some e ∷ l) = (item_at s at ≡ Some e) × Walks s (e.at + e.len) l
Walks s at (None ∷ l) = ⊥

-- entries that stand from `at` to `end`, none empty and none before the end of the one before it
unfoldable pub Apart : ℕ → List Item → ℕ → Type 0
Apart at [] end = at ≤ end
Apart at (Some e ∷ l) end = (at ≤ e.at) × (0 < e.len) × Apart (e.at + e.len) l end
Apart at (None ∷ l) end = ⊥
