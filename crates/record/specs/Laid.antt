-- Where the sections of a record stand.
use Rattle.std.specs.Prelude.{ℕ, ◌+◌, ◌≡◌, List}
use Rattle.form.specs.Bytes.{num}
use Rattle.form.specs.Place.{start, count, view_start}
use Rattle.record.specs.declared.Layout.{Layout}
use Rattle.record.specs.declared.Part.{Part}

-- p has the entries of section k
pub record Stands (s : List ℕ) (k : ℕ) (p : Part) : Type 0 where
  pub place : p.at ≡ start s k + 2
  pub number : p.count ≡ count s k

pub record Laid (s : List ℕ) (l : Layout) : Type 0 where
  pub processors : l.processors ≡ num 1 s 1
  pub events : l.events ≡ count s 2
  pub causes : Stands s 3 l.causes
  pub locks : Stands s 4 l.locks
  pub initials : Stands s 5 l.initials
  pub stores : Stands s 6 l.stores
  pub lockorder : Stands s 7 l.lockorder
  pub sources : Stands s 8 l.sources
  pub views : l.views ≡ view_start s 0

-- v has the events of processor p's view
pub record Views (s : List ℕ) (p : ℕ) (v : Part) : Type 0 where
  pub place : v.at ≡ view_start s p + 2
  pub number : v.count ≡ num 2 s (view_start s p)
