-- The listing of a record.
use Rattle.std.specs.Prelude.{ℕ, suc, ◌<◌, ◌≤◌, ◌≡◌, ◌⊎◌, List, [], ◌∷◌, ◌++◌, length, get_or}
use Rattle.order.specs.Least.{Counted}
use Rattle.order.specs.Evidence.{Written}
use Rattle.record.specs.Execution.{Execution}
use Rattle.record.specs.Says.{execution_of}
use Rattle.model.specs.Model.{HappensBefore}
use Rattle.model.specs.Validity.{Answers}
use Rattle.listing.specs.Text.{answer, evidence, event, line}

-- answer and evidence
unfoldable pub verdict : ℕ → List ℕ → List ℕ
verdict a e = line answer (a ∷ []) ++ line evidence e

-- one line per event: its number, and how many events it happens directly before
unfoldable pub event_lines : ℕ → List ℕ → List ℕ
event_lines e [] = []
event_lines e (c ∷ cs) = line event (e ∷ c ∷ []) ++ event_lines (suc e) cs

-- how many events each event happens directly before
pub record Counts (z : Execution) (cs : List ℕ) : Type 0 where
  pub size : length cs ≡ z.events.size
  pub each : (e : ℕ) → e < z.events.size → Counted z.events.size (HappensBefore z e) (get_or cs e 0)

-- the answer is 0 or 24 to 27
abbrev pub Ordered : ℕ → Type 0
Ordered a = (a ≡ 0) ⊎ ((24 ≤ a) × (a ≤ 27))

pub record Listing (s text : List ℕ) : Type 0 where
  pub a : ℕ
  pub e : List ℕ
  pub answers : Answers s a e
  pub is : (Ordered a × ((cs : List ℕ) × Counts (execution_of s) cs × (text ≡ verdict a e ++ event_lines 0 cs))) ⊎ ((Ordered a → ⊥) × (text ≡ verdict a e))

-- a buffer of fewer than 2,048 bytes: no text, and it is untouched; else the listing, and not one byte more
abbrev pub Listed : List ℕ → List ℕ → List ℕ → ℕ → Type 0
Listed s before after k =
    ((length before < 2048) × (k ≡ 0) × (after ≡ before))
    ⊎ ((2048 ≤ length before) × ((text : List ℕ) × Listing s text × Written text before after k))
