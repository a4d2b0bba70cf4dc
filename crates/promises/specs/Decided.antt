-- Every public operation is decided by its contract: two results that it allows for one input are the same, the answer, the length and
-- every entry of the lent buffer. There is no exception.
use Rattle.std.specs.Prelude.{ℕ, ◌≡◌, List, Result, MatchResult}
use Rattle.std.specs.Borrow.{Bor}
use Rattle.form.specs.Results.{Same}
use Rattle.form.specs.declared.Fault.{Fault}
use Rattle.record.specs.View.{view_answer, view_part, Located, Seen}
use Rattle.record.specs.View as asking
use Rattle.record.specs.declared.Part.{Part}
use Rattle.record.specs.declared.Unseen.{Unseen}
use Rattle.judge.specs.Checked.{Checked}
use Rattle.table.specs.Tabled.{Tabled, Words}
use Rattle.replay.specs.Replayed.{Replayed}
use Rattle.readoff.specs.Written.{ReadOff}
use Rattle.reader.specs.Entries.{Item, item_at, open_answer, open_part, Opened}
use Rattle.reader.specs.Entries as reading
use Rattle.reader.specs.declared.Reader.{Reader}
use Rattle.listing.specs.Listing.{Listed}

pub record Decided : Type 0 where
  pub check : (s before x y : List ℕ) (a b k m : ℕ) → Checked s before x a k → Checked s before y b m → (a ≡ b) × (k ≡ m) × (x ≡ y)
  pub replay : (s l before x y : List ℕ) (a b k m : ℕ) → Replayed s l before x a k → Replayed s l before y b m → (a ≡ b) × (k ≡ m) × (x ≡ y)
  pub read_off : (s l before x y : List ℕ) (a b k m : ℕ) → ReadOff s l before x a k → ReadOff s l before y b m → (a ≡ b) × (k ≡ m) × (x ≡ y)
  -- a lent table has 64-bit words: its definition speaks of bits
  pub order_table : (s before x y : List ℕ) (a b : ℕ) → Words x → Words y → Tabled s before x a → Tabled s before y b → (a ≡ b) × (x ≡ y)
  -- of the view question and of the reader, the answer and the part, and the entry: the exported functions' contracts say these by equations
  pub view : (s : List ℕ) (p a b : ℕ) (x y : List ℕ) → a ≡ view_answer s p → b ≡ view_answer s p → x ≡ view_part s p → y ≡ view_part s p → (a ≡ b) × (x ≡ y)
  pub opening : (s x y : List ℕ) (a b : ℕ) → (a ≡ open_answer s) × (x ≡ open_part s) → (b ≡ open_answer s) × (y ≡ open_part s) → (a ≡ b) × (x ≡ y)
  -- what the view question, opening and the reader hand back: one refusal, or the same place and length, or the same bytes
  pub located : (s : List ℕ) (p : ℕ) (x y : Result Part Unseen) → MatchResult x (Located s p) (asking.Refused s p) → MatchResult y (Located s p) (asking.Refused s p)
      → Same (λ v w. (v.at ≡ w.at) × (v.count ≡ w.count)) x y
  pub seen : (s : Bor (List ℕ)) (p : ℕ) (x y : Result (Bor (List ℕ)) Unseen) → MatchResult x (Seen s p) (asking.Refused s.now p) → MatchResult y (Seen s p) (asking.Refused s.now p)
      → Same (λ v w. v.now ≡ w.now) x y
  pub opened : (s : Bor (List ℕ)) (x y : Result (Bor (List ℕ)) Fault) → MatchResult x (Opened s) (reading.Refused s.now) → MatchResult y (Opened s) (reading.Refused s.now)
      → Same (λ v w. v.now ≡ w.now) x y
  pub reader : (s : Bor (List ℕ)) (x y : Result Reader Fault) → MatchResult x (λ r. Opened s r.src × (r.at ≡ 0)) (reading.Refused s.now)
      → MatchResult y (λ r. Opened s r.src × (r.at ≡ 0)) (reading.Refused s.now) → Same (λ r t. (r.src.now ≡ t.src.now) × (r.at ≡ t.at)) x y
  pub entry : (s : List ℕ) (at : ℕ) (i j : Item) → i ≡ item_at s at → j ≡ item_at s at → i ≡ j
  pub listing : (s before x y : List ℕ) (k m : ℕ) → Listed s before x k → Listed s before y m → (k ≡ m) × (x ≡ y)
