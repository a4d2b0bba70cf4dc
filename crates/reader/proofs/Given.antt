-- What is given is decided: a contract is an equation or a set of them, so two results that it allows are equal. And worked facts, computed by the definitions.
-- Assumes nothing.
use Prim.Native.Nat.{ℕ}
use mathlib.Core.Path.{◌≡◌, refl, ◌∙◌}
use mathlib.Core.List.{List, [], ◌∷◌}
use native.Mathlib.Omega.{arith}
use denote.Ref.{Bor}
use Rattle.std.specs.Prelude.{None, Result, Ok, Err, MatchResult}
use Rattle.form.specs.Bytes.{num}
use Rattle.form.specs.Form.{width, limit, due, place_right, owner_right, event_fields, pair_fields, lock_fields, initial_fields, one_field, fields, entry, entries, block, sections, views}
use Rattle.form.specs.Place.{start, count, entry_at, view_start, counts}
use Rattle.form.specs.Results.{Same}
use Rattle.form.specs.Steps.{run, upto}
use Rattle.form.specs.Whole.{head, tail, body, whole}
use Rattle.form.specs.declared.Fault.{Fault}
use Rattle.form.proofs.Answers.{Fair, fair_whole}
use Rattle.reader.specs.Entries.{Item, first_of, entry_of, view_of, entry_from, view_from, item_at, open_answer, open_part, Opened, Refused}
use Rattle.reader.specs.Walk.{list_of, entries_of, sections_of, views_of, all_entries}
use Rattle.reader.specs.declared.Reader.{Reader}
use Rattle.reader.proofs.Firsts.{found}

-- `item_at` and `Reader::next`
pub item_decided : (s : List ℕ) (at : ℕ) (i j : Item) → i ≡ item_at s at → j ≡ item_at s at → i ≡ j
item_decided s at i j e f = cc

abbrev made : Bor (List ℕ) → ℕ → Reader
made b at = record { src = b; at = at }

-- `Reader::new` and `moved`
pub reader_decided : (b : Bor (List ℕ)) (at : ℕ) (r t : Reader) → (r.src ≡ b) × (r.at ≡ at) → (t.src ≡ b) × (t.at ≡ at) → r ≡ t
reader_decided b at r t e f = let m : made r.src r.at ≡ made t.src t.at = cc in m

-- the answer of opening and the bytes
pub opened_decided : (s p p' : List ℕ) (a a' : ℕ) → (a ≡ open_answer s) × (p ≡ open_part s) → (a' ≡ open_answer s) × (p' ≡ open_part s) → (a ≡ a') × (p ≡ p')
opened_decided s p p' a a' e f = (cc, cc)

module _ (s : Bor (List ℕ)) where
  never_both : (p : Bor (List ℕ)) (f : Fault) → Opened s p → Refused s.now f → ⊥
  never_both p f h g =
      let t : Fair (Err f) = rw g.0 at (fair_whole s.now) in
      let z : f.answer ≡ 0 = g.1 ∙ h.0 in
      absurd (omega arith)

  -- `opened`
  pub part_decided : (x y : Result (Bor (List ℕ)) Fault) → MatchResult x (Opened s) (Refused s.now) → MatchResult y (Opened s) (Refused s.now) → Same (λ p q. p.now ≡ q.now) x y
  part_decided (Ok p) (Ok q) h g = cc
  part_decided (Err e) (Err f) h g = cc
  part_decided (Ok p) (Err f) h g = never_both p f h g
  part_decided (Err e) (Ok q) h g = never_both q e g h

  -- `Reader::open`
  pub open_decided : (x y : Result Reader Fault) → MatchResult x (λ r. Opened s r.src × (r.at ≡ 0)) (Refused s.now) → MatchResult y (λ r. Opened s r.src × (r.at ≡ 0)) (Refused s.now)
      → Same (λ r t. (r.src.now ≡ t.src.now) × (r.at ≡ t.at)) x y
  open_decided (Ok r) (Ok t) h g = (cc, cc)
  open_decided (Err e) (Err f) h g = cc
  open_decided (Ok r) (Err f) h g = never_both r.src f h.0 g
  open_decided (Err e) (Ok t) h g = never_both t.src e g.0 h

-- no bytes hold no entry
pub none_none : (at : ℕ) → item_at [] at ≡ None
unfolding num width start count first_of entry_from view_from item_at
none_none at = refl

-- a reader over a refused record gives none
pub refused_none : (s : List ℕ) (f : Fault) → whole s ≡ Err f → (at : ℕ) → item_at (open_part s) at ≡ None
unfolding open_part
refused_none s f e at = rw e (none_none at)

-- S1: four events from byte 4 on, two initial values, two stores, two views of three events
s1 : List ℕ
s1 =
    1 ∷ 2
    ∷ 4 ∷ 0
    ∷ 0 ∷ 1 ∷ 0 ∷ 0 ∷ 100 ∷ 0 ∷ 0 ∷ 0 ∷ 1 ∷ 0 ∷ 0 ∷ 0
    ∷ 0 ∷ 0 ∷ 1 ∷ 0 ∷ 200 ∷ 0 ∷ 0 ∷ 0 ∷ 0 ∷ 0 ∷ 0 ∷ 0
    ∷ 1 ∷ 1 ∷ 0 ∷ 0 ∷ 200 ∷ 0 ∷ 0 ∷ 0 ∷ 1 ∷ 0 ∷ 0 ∷ 0
    ∷ 1 ∷ 0 ∷ 1 ∷ 0 ∷ 100 ∷ 0 ∷ 0 ∷ 0 ∷ 0 ∷ 0 ∷ 0 ∷ 0
    ∷ 0 ∷ 0 ∷ 0 ∷ 0
    ∷ 2 ∷ 0
    ∷ 0 ∷ 0 ∷ 0 ∷ 0 ∷ 100 ∷ 0 ∷ 0 ∷ 0 ∷ 0 ∷ 0 ∷ 0 ∷ 0
    ∷ 0 ∷ 0 ∷ 0 ∷ 0 ∷ 200 ∷ 0 ∷ 0 ∷ 0 ∷ 0 ∷ 0 ∷ 0 ∷ 0
    ∷ 2 ∷ 0 ∷ 0 ∷ 2
    ∷ 0 ∷ 0 ∷ 0 ∷ 0
    ∷ 2 ∷ 0 ∷ 3 ∷ 0 ∷ 0 ∷ 1 ∷ 2 ∷ 3 ∷ 0 ∷ 2 ∷ 3 ∷ 0 ∷ []

s1_opens : (open_answer s1 ≡ 0) × (open_part s1 ≡ s1)
unfolding s1 num run upto width limit due place_right owner_right event_fields pair_fields lock_fields initial_fields one_field fields entry entries block sections views start count counts head tail body whole open_answer open_part
s1_opens = (refl, refl)

-- the first event; from the second byte of the last event on, the first initial value; the stores; the views, each of 2 + 3 bytes
s1_entries : (item_at s1 0 ≡ found 2 4 12) × (item_at s1 41 ≡ found 5 58 12) × (item_at s1 85 ≡ found 6 85 1) × (item_at s1 90 ≡ found 9 92 5) × (item_at s1 97 ≡ found 9 97 5)
unfolding s1 num width start count entry_at view_start first_of entry_of view_of entry_from view_from item_at
s1_entries = (refl, refl, refl, refl, refl)

s1_ends : (item_at s1 98 ≡ None) × (item_at s1 102 ≡ None)
unfolding s1 num width start count entry_at view_start first_of entry_of view_of entry_from view_from item_at
s1_ends = (refl, refl)

-- all of them
s1_all : all_entries s1 ≡ found 2 4 12 ∷ found 2 16 12 ∷ found 2 28 12 ∷ found 2 40 12 ∷ found 5 58 12 ∷ found 5 70 12 ∷ found 6 84 1 ∷ found 6 85 1 ∷ found 9 92 5 ∷ found 9 97 5 ∷ []
unfolding s1 num width start count entry_at view_start entry_of view_of list_of entries_of sections_of views_of all_entries
s1_all = refl

-- no bytes are refused by 2, which leaves no bytes
none_refused : (open_answer [] ≡ 2) × (open_part [] ≡ [])
unfolding num run upto width limit due place_right owner_right event_fields pair_fields lock_fields initial_fields one_field fields entry entries block sections views start count counts head tail body whole open_answer open_part
none_refused = (refl, refl)
