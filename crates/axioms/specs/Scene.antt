-- What is known of a processor's view when the rules after 24 are judged.
use Rattle.std.specs.Prelude.{ℕ, ◌<◌, ◌≡◌, ◌⊎◌, ◌↔◌, List}
use Rattle.rows.specs.Members.{In, Is}
use Rattle.rows.specs.Table.{HasRows, rel}
use Rattle.rows.specs.declared.Set.{Set}
use Rattle.record.specs.Execution.{Items, Execution}
use Rattle.facts.specs.Facts.{Placed, Classed}
use Rattle.facts.specs.declared.Classes.{Classes}
use Rattle.model.specs.Model.{Before, Source, Sees}
use Rattle.model.specs.Rules.{WriteAndRead}

-- the table has the list's order among the events of the set, each of which the list has once
pub record Lined (z : Execution) (l : Items ℕ) (t : List ℕ) (all : Set) : Type 0 where
  pub low : (a : ℕ) → In all a → a < z.events.size
  pub rows : HasRows t 64
  pub order : (a b : ℕ) → In all a → In all b → rel t a b ↔ Before l a b
  pub within : (a b : ℕ) → Before l a b → In all a × In all b
  pub once : (a : ℕ) → Before l a a → ⊥
  pub opposite : (a b : ℕ) → Before l a b → Before l b a → ⊥
  pub total : (a b : ℕ) → In all a → In all b → (a ≡ b → ⊥) → Before l a b ⊎ Before l b a

-- the table has p's view order among the events that p sees
pub record Viewed (z : Execution) (p : ℕ) (t : List ℕ) (seen : Set) : Type 0 where
  pub processor : p < z.processors
  pub sees : Is seen (Sees z p)
  pub line : Lined z (z.view p) t seen

-- a table of the section 8 pairs
pub record Sources (z : Execution) (u : List ℕ) : Type 0 where
  pub rows : HasRows u 64
  pub pairs : (w r : ℕ) → rel u w r ↔ Source z w r

-- every section 8 pair is a write and a read of one place and value
abbrev pub Paired : Execution → Type 0
Paired z = (w r : ℕ) → Source z w r → WriteAndRead (z.events.item w) (z.events.item r)

-- a view, with the facts of the events
pub record Scene (z : Execution) (p : ℕ) (t q : List ℕ) (c : Classes) (seen : Set) : Type 0 where
  pub view : Viewed z p t seen
  pub places : Placed z q
  pub classes : Classed z c
  pub paired : Paired z
