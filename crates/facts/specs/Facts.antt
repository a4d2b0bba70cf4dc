-- What the tables and sets of facts have, of an execution.
use Rattle.std.specs.Prelude.{ℕ, ◌+◌, ◌%◌, ◌<◌, ◌≡◌, ◌⊎◌, ◌↔◌, List}
use Rattle.order.specs.Least.{Some}
use Rattle.rows.specs.Members.{Is}
use Rattle.rows.specs.Table.{HasRows, rel}
use Rattle.form.specs.Right.{Right}
use Rattle.record.specs.Execution.{Execution}
use Rattle.record.specs.Says.{execution_of}
use Rattle.record.specs.Laid.{Laid}
use Rattle.record.specs.declared.Layout.{Layout}
use Rattle.record.specs.Words.{Memory, Register, SamePlace, OfLock}
use Rattle.facts.specs.declared.Classes.{Classes}

-- a table without steps
abbrev pub Blank : List ℕ → Type 0
Blank t = (a b : ℕ) → rel t a b → ⊥

-- row p has the events of processor p, row 4 + k those of kind k
pub record Sorted (x : Execution) (f : List ℕ) : Type 0 where
  pub rows : HasRows f 8
  pub own : (p e : ℕ) → p < 4 → rel f p e ↔ ((e < x.events.size) × ((x.events.item e).processor ≡ p))
  pub kind : (k e : ℕ) → k < 4 → rel f (4 + k) e ↔ ((e < x.events.size) × ((x.events.item e).kind ≡ k))

-- row v has the events whose place is v modulo 64
pub record Slotted (x : Execution) (t : List ℕ) : Type 0 where
  pub rows : HasRows t 64
  pub pairs : (v e : ℕ) → rel t v e ↔ ((e < x.events.size) × (v ≡ (x.events.item e).place % 64))

-- k is a memory event as e is, or a register event of its processor
abbrev pub Peers : Execution → ℕ → ℕ → Type 0
Peers x e k =
    (k < x.events.size)
    × ((Memory (x.events.item e) × Memory (x.events.item k))
    ⊎ (Register (x.events.item e) × (Register (x.events.item k) × ((x.events.item e).processor ≡ (x.events.item k).processor))))

-- row a has the events at a's place
pub record Placed (x : Execution) (q : List ℕ) : Type 0 where
  pub rows : HasRows q 64
  pub pairs : (a b : ℕ) → rel q a b ↔ ((a < x.events.size) × (b < x.events.size) × SamePlace (x.events.item a) (x.events.item b))

-- row i has the events of entry i, row 16 those of all entries
pub record Entered (x : Execution) (k : List ℕ) : Type 0 where
  pub rows : HasRows k 17
  pub entry : (i e : ℕ) → i < x.locks.size → rel k i e ↔ OfLock x i e
  pub all : (e : ℕ) → rel k 16 e ↔ Some x.locks.size (λ i. OfLock x i e)

-- row a has the events of the locked instruction of a
pub record Mated (x : Execution) (m : List ℕ) : Type 0 where
  pub rows : HasRows m 64
  pub pairs : (a b : ℕ) → rel m a b ↔ Some x.locks.size (λ i. OfLock x i a × OfLock x i b)

pub record Classed (x : Execution) (c : Classes) : Type 0 where
  pub loads : Is c.loads (λ e. (e < x.events.size) × ((x.events.item e).kind ≡ 0))
  pub stores : Is c.stores (λ e. (e < x.events.size) × ((x.events.item e).kind ≡ 1))
  pub gets : Is c.gets (λ e. (e < x.events.size) × ((x.events.item e).kind ≡ 2))
  pub puts : Is c.puts (λ e. (e < x.events.size) × ((x.events.item e).kind ≡ 3))
  pub locked : Is c.locked (λ e. Some x.locks.size (λ i. OfLock x i e))

-- a record that has the form, where its sections stand, its events by place and by class
pub record Ready (s : List ℕ) (l : Layout) (q : List ℕ) (c : Classes) : Type 0 where
  pub right : Right s
  pub laid : Laid s l
  pub placed : Placed (execution_of s) q
  pub classed : Classed (execution_of s) c

-- and by processor and locked entry
pub record Gathered (s : List ℕ) (l : Layout) (f q k : List ℕ) (c : Classes) : Type 0 where
  pub ready : Ready s l q c
  pub sorted : Sorted (execution_of s) f
  pub entered : Entered (execution_of s) k
