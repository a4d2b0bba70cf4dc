-- The model as the HOL specification has it: its types (part II, iid of part I), its axioms (part IV) and the well-formedness of part XIII.
-- The names are its own; location_reg and location_mem are LOCATION_REG and LOCATION_MEM there. Its valid_execution has neither fences nor final states: nothing of it is left out.
-- An event is its number, and this serves as its eiid: HOL's eiid tells events apart within an instruction only, so this is a renumbering.
-- Where it matches on an action, the action is said to be of that form.
-- A set is a predicate; finite is that a number bounds it; restrict is its `|`; bigunion and strict_linearisations are written out where they
-- are used. linear_order, strict_linear_order, strict, acyclic and PER are words of its library.
use Rattle.std.specs.Prelude.{ℕ, ◌<◌, ◌≡◌, ◌⊎◌, ◌↔◌}
use Rattle.order.specs.Relation.{Rel, Chain}

-- ---- types

pub data Dirn : Type 0 where
  R W : Dirn

-- a register is its number, 0 to 14
pub data Location : Type 0 where
  location_reg : (proc reg : ℕ) → Location
  location_mem : (address : ℕ) → Location

pub data Action : Type 0 where
  ACCESS : Dirn → Location → (value : ℕ) → Action

pub record Iid : Type 0 where
  pub proc : ℕ
  pub program_order_index : ℕ

abbrev pub Set : Type 1
Set = ℕ → Type 0

-- a set of sets is a family: which numbers name one, and the members of each; without PER one set may have two names, under it each has one
pub record EventStructure : Type 1 where
  pub procs : Set
  pub events : Set
  pub iid : ℕ → Iid
  pub action : ℕ → Action
  pub intra_causality : Rel
  pub atoms : Set
  pub atomicity : ℕ → Set

-- initial_state l v: the initial state of l is SOME v. In HOL it is a partial function, here a relation; of what a record says, no l has two
-- values (`initial_one` in proofs/Sources.antt)
pub record ExecutionWitness : Type 1 where
  pub initial_state : Location → ℕ → Type 0
  pub vo : ℕ → Rel
  pub write_serialization : Rel
  pub lock_serialization : Rel
  pub rfmap : Rel

-- ---- sets and relations

-- some number is above every member
abbrev pub finite : Set → Type 0
finite s = (n : ℕ) × ((e : ℕ) → s e → e < n)

-- r between members of s alone
abbrev pub restrict : Rel → Set → Rel
restrict r s a b = r a b × s a × s b

abbrev pub union : Rel → Rel → Rel
union r q a b = r a b ⊎ q a b

abbrev pub strict : Rel → Rel
strict r a b = r a b × (a ≡ b → ⊥)

-- no chain of one step or more comes back
abbrev pub acyclic : Rel → Type 0
acyclic r = (a : ℕ) → Chain r a a → ⊥

pub record linear_order (r : Rel) (s : Set) : Type 0 where
  pub domain : (a b : ℕ) → r a b → s a
  pub range : (a b : ℕ) → r a b → s b
  pub transitive : (a b c : ℕ) → r a b → r b c → r a c
  pub antisymmetric : (a b : ℕ) → r a b → r b a → a ≡ b
  pub total : (a b : ℕ) → s a → s b → r a b ⊎ r b a

pub record strict_linear_order (r : Rel) (s : Set) : Type 0 where
  pub domain : (a b : ℕ) → r a b → s a
  pub range : (a b : ℕ) → r a b → s b
  pub transitive : (a b c : ℕ) → r a b → r b c → r a c
  pub irreflexive : (a : ℕ) → r a a → ⊥
  pub total : (a b : ℕ) → s a → s b → (a ≡ b → ⊥) → r a b ⊎ r b a

-- ---- events

-- every action is an ACCESS
abbrev pub location_of : Action → Location
location_of (ACCESS d l v) = l

module _ (E : EventStructure) where
  abbrev pub eiid : ℕ → ℕ
  eiid e = e

  abbrev pub proc : ℕ → ℕ
  proc e = (E.iid e).proc

  abbrev pub loc : ℕ → Location
  loc e = location_of (E.action e)

  abbrev pub mem_load : Set
  mem_load e = (a : ℕ) × (v : ℕ) × (E.action e ≡ ACCESS R (location_mem a) v)

  abbrev pub mem_store : Set
  mem_store e = (a : ℕ) × (v : ℕ) × (E.action e ≡ ACCESS W (location_mem a) v)

  abbrev pub writes : Set
  writes e = E.events e × ((l : Location) × (v : ℕ) × (E.action e ≡ ACCESS W l v))

  abbrev pub reads : Set
  reads e = E.events e × ((l : Location) × (v : ℕ) × (E.action e ≡ ACCESS R l v))

  abbrev pub locked : Set
  locked e = (i : ℕ) × E.atoms i × E.atomicity i e

  abbrev pub po_strict : Rel
  po_strict a b =
      ((E.iid a).proc ≡ (E.iid b).proc)
      × ((E.iid a).program_order_index < (E.iid b).program_order_index)
      × E.events a
      × E.events b

  -- a and b are at one location, a register
  abbrev pub at_one_register : Rel
  at_one_register a b = (p : ℕ) × (r : ℕ) × (loc a ≡ loc b) × (loc a ≡ location_reg p r)

  abbrev pub preserved_program_order : Rel
  preserved_program_order a b =
      po_strict a b
      × (at_one_register a b
      ⊎ (mem_load a × mem_load b)
      ⊎ (mem_store a × mem_store b)
      ⊎ (mem_load a × mem_store b)
      ⊎ (mem_store a × mem_load b × (loc a ≡ loc b))
      ⊎ ((mem_load a ⊎ mem_store a) × locked b)
      ⊎ (locked a × (mem_load b ⊎ mem_store b)))

  abbrev pub viewed_events : ℕ → Set
  viewed_events p e = E.events e × ((proc e ≡ p) ⊎ mem_store e)

  abbrev pub get_l_stores : Location → Set
  get_l_stores l e = E.events e × mem_store e × (loc e ≡ l)

-- ---- the witness

-- each view orders the events viewed, and finitely many stand before each; other processors have none
pub record view_orders_well_formed (E : EventStructure) (vo : ℕ → Rel) : Type 0 where
  pub linear : (p : ℕ) → E.procs p → linear_order (vo p) (viewed_events E p)
  pub founded : (p : ℕ) → E.procs p → (e : ℕ) → viewed_events E p e → finite (λ a. vo p a e)
  pub others : (p : ℕ) → (E.procs p → ⊥) → (a b : ℕ) → vo p a b → ⊥

pub record write_serialization_candidates (E : EventStructure) (cand : Rel) : Type 0 where
  pub stores : (a b : ℕ) → cand a b → (l : Location) × get_l_stores E l a × get_l_stores E l b
  pub linear : (l : Location) → strict_linear_order (restrict cand (get_l_stores E l)) (get_l_stores E l)

-- cand puts every event of an earlier atomic set before every event of a later one, in some order of these sets
pub record lock_serialization_candidates (E : EventStructure) (cand : Rel) : Type 1 where
  pub lin : Rel
  pub linear : strict_linear_order lin E.atoms
  pub is : (a b : ℕ) → cand a b ↔ ((i : ℕ) × (j : ℕ) × lin i j × E.atomicity i a × E.atomicity j b)

abbrev pub reads_from_map_candidates : EventStructure → Rel → Type 0
reads_from_map_candidates E rfmap =
    (ew er : ℕ) → rfmap ew er
    → E.events er
    × E.events ew
    × ((l : Location) × (v : ℕ) × (E.action er ≡ ACCESS R l v) × (E.action ew ≡ ACCESS W l v))

-- ---- the axioms

abbrev pub happens_before : EventStructure → ExecutionWitness → Rel
happens_before E X a b =
    E.intra_causality a b
    ⊎ preserved_program_order E a b
    ⊎ X.write_serialization a b
    ⊎ X.lock_serialization a b
    ⊎ X.rfmap a b

abbrev pub check_causality : EventStructure → (ℕ → Rel) → Rel → Type 0
check_causality E vo happensbefore = (p : ℕ) → E.procs p → acyclic (union (strict (vo p)) happensbefore)

abbrev pub check_rfmap_written : EventStructure → (ℕ → Rel) → Rel → Type 0
check_rfmap_written E vo rfmap =
    (p : ℕ) → E.procs p
    → (ew er : ℕ) → restrict rfmap (viewed_events E p) ew er
    → (ew' : ℕ) → writes E ew'
    → (ew ≡ ew' → ⊥) × vo p ew ew' × vo p ew' er
    → loc E ew ≡ loc E ew' → ⊥

abbrev pub check_rfmap_initial : EventStructure → (ℕ → Rel) → Rel → (Location → ℕ → Type 0) → Type 0
check_rfmap_initial E vo rfmap initial_state =
    (p : ℕ) → E.procs p
    → (er : ℕ) → reads E er → ((ew : ℕ) → rfmap ew er → ⊥) → viewed_events E p er
    → (l : Location) × (v : ℕ)
    × (E.action er ≡ ACCESS R l v)
    × initial_state l v
    × ((ew' : ℕ) → writes E ew' → vo p ew' er → loc E ew' ≡ loc E er → ⊥)

abbrev pub check_atomicity : EventStructure → (ℕ → Rel) → Type 0
check_atomicity E vo =
    (p : ℕ) → E.procs p
    → (i : ℕ) → E.atoms i
    → (a b : ℕ) → E.atomicity i a → E.atomicity i b → vo p a b
    → (e : ℕ) → vo p a e → vo p e b → E.atomicity i e

pub record valid_execution (E : EventStructure) (X : ExecutionWitness) : Type 1 where
  pub views : view_orders_well_formed E X.vo
  pub stores : write_serialization_candidates E X.write_serialization
  pub locks : lock_serialization_candidates E X.lock_serialization
  pub sources : reads_from_map_candidates E X.rfmap
  pub causality : check_causality E X.vo (happens_before E X)
  pub written : check_rfmap_written E X.vo X.rfmap
  pub initial : check_rfmap_initial E X.vo X.rfmap X.initial_state
  pub atomicity : check_atomicity E X.vo

-- ---- well-formed event structures

-- the sets of the family are sets of members of s, none is empty, and two of them have no member in common
pub record PER (s : Set) (atoms : Set) (family : ℕ → Set) : Type 0 where
  pub within : (i : ℕ) → atoms i → (e : ℕ) → family i e → s e
  pub inhabited : (i : ℕ) → atoms i → (e : ℕ) × family i e
  pub disjoint : (i j : ℕ) → atoms i → atoms j → (i ≡ j → ⊥) → (e : ℕ) → family i e → family j e → ⊥

pub record wfes (E : EventStructure) : Type 0 where
  pub instructions : (i : Iid) → finite (λ n. (e : ℕ) × E.events e × (E.iid e ≡ i) × (eiid E e ≡ n))
  pub processors : finite E.procs
  pub owned : (e : ℕ) → E.events e → E.procs (proc E e)
  pub told_apart : (a b : ℕ) → E.events a → E.events b → eiid E a ≡ eiid E b → E.iid a ≡ E.iid b → a ≡ b
  pub domain : (a b : ℕ) → E.intra_causality a b → E.events a
  pub range : (a b : ℕ) → E.intra_causality a b → E.events b
  pub acyclic_causality : acyclic E.intra_causality
  pub one_instruction : (a b : ℕ) → E.intra_causality a b → E.iid a ≡ E.iid b
  -- a register's write is ordered with every other access of it in the instruction
  pub registers : (a b : ℕ) → writes E a → (a ≡ b → ⊥) → writes E b ⊎ reads E b → E.iid a ≡ E.iid b → at_one_register E a b
      → Chain E.intra_causality a b ⊎ Chain E.intra_causality b a
  pub atoms : PER E.events E.atoms E.atomicity
  pub atom_one : (i : ℕ) → E.atoms i → (a b : ℕ) → E.atomicity i a → E.atomicity i b → E.iid a ≡ E.iid b
  pub atom_whole : (i : ℕ) → E.atoms i → (a b : ℕ) → E.atomicity i a → E.events b → E.iid a ≡ E.iid b → E.atomicity i b
  pub own_registers : (e : ℕ) → E.events e → (p r : ℕ) → loc E e ≡ location_reg p r → p ≡ proc E e
