-- A relation as a table of rows: row a has the events to which a has a step.
use Rattle.std.specs.Prelude.{ℕ, ◌<◌, ◌≤◌, ◌≡◌, ◌⊎◌, ◌↔◌, List, length, get_or}
use Rattle.order.specs.Relation.{Rel, within}
use Rattle.rows.specs.Members.{In}
use Rattle.rows.specs.declared.Set.{Set}

-- the table has row a
abbrev pub HasRow : List ℕ → ℕ → Type 0
HasRow t a = a < length t

-- the table has n rows or more
abbrev pub HasRows : List ℕ → ℕ → Type 0
HasRows t n = n ≤ length t

abbrev pub row_of : List ℕ → ℕ → Set
row_of t a = record { word = get_or t a 0 }

unfoldable pub rel : List ℕ → Rel
rel t a b = In (row_of t a) b

-- the relation of the first n rows, on the events below n
abbrev pub on : ℕ → List ℕ → Rel
on n t = within n (rel t)

-- u is t with the steps of R besides; a row that gets none is as it was
pub record Adds (t u : List ℕ) (R : Rel) : Type 0 where
  pub same : length u ≡ length t
  pub pairs : (a b : ℕ) → rel u a b ↔ (rel t a b ⊎ R a b)
  pub rest : (a : ℕ) → ((b : ℕ) → R a b → ⊥) → row_of u a ≡ row_of t a
