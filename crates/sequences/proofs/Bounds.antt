-- What is read off: no list is longer than it may be, and its entries are numbers of events and of locked entries.
use Prim.Native.Nat.{ℕ, suc, ◌<◌, ◌≤◌}
use mathlib.Core.Path.{◌≡◌, refl}
use mathlib.Core.Bool.{Bool, true, false, ◌&&◌}
use mathlib.Core.List.{List, [], ◌∷◌}
use lib.ListN.{length, get_or, length-append}
use native.Mathlib.Omega.{arith}
use native.Mathlib.Decide.{ℕ_discrete, dec_lt}
use Rattle.order.specs.Least.{Some}
use Rattle.order.specs.Rule.{AllKept}
use Rattle.order.proofs.Numbers.{Twice, pigeon}
use Rattle.record.specs.Execution.{Execution}
use Rattle.record.specs.Formed.{PairFormed, Formed}
use Rattle.structure.specs.Structure.{Eventless, structure_rules}
use Rattle.model.specs.Model.{Store, Source, Sees}
use Rattle.model.proofs.Decisions.{certain}
use Rattle.model.proofs.Lists.{Single, Proper}
use Rattle.sequences.specs.Sequence.{steps, once_rules, sequence_rules}
use Rattle.sequences.specs.ReadOff.{is_read, is_write, same_place, choose, picked, pairs_to, event, last_writer, sources_from, locks_from, stores_of, view_of, read_off}
use Rattle.sequences.proofs.Locking.{locks_proper}
use Rattle.sequences.proofs.Members.{each_once}
use Rattle.sequences.proofs.Picking.{picked_proper}
use Rattle.sequences.proofs.Sourcing.{SourceAt, source_at}
use Rattle.sequences.proofs.Tests.{store_decides, sees_decides}

pub picked_short : (test : ℕ → Bool) (l : List ℕ) → length (picked test l) ≤ length l
unfolding picked
picked_short test [] = omega arith
picked_short test (e ∷ l) = go (test e) (picked_short test l)
  where
    go : (b : Bool) → length (picked test l) ≤ length l → length (choose b (e ∷ picked test l) (picked test l)) ≤ suc (length l)
    go true h = omega arith
    go false h = omega arith

-- a list of numbers below n, none twice
low_short : (n : ℕ) (l : List ℕ) → Single (steps l) → ((i : ℕ) → i < length l → get_or l i 0 < n) → length l ≤ n
low_short n l single low = go (dec_lt n (length l))
  where
    twice : n < length l → Twice n (λ i. get_or l i 0) → ⊥
    twice h (i, j, a, b, e) = single (get_or l j 0) (j, omega arith, (i, a, (e, refl)))

    go : Dec (n < length l) → length l ≤ n
    go (yes h) = absurd (twice h (pigeon n (λ i. get_or l i 0) (λ i a. low i (omega arith))))
    go (no h) = omega arith

pairs_length : (r : ℕ) (l : List ℕ) → length (pairs_to r l) ≡ length l
pairs_length r [] = refl
pairs_length r (w ∷ l) = let h = pairs_length r l in omega arith

module _ (z : Execution) where
  writers_short : (e : List ℕ) (r : ℕ) → length (last_writer z e r) ≤ 1
  unfolding last_writer
  writers_short [] r = omega arith
  writers_short (w ∷ e) r = go (is_write (event z w) && same_place (event z w) (event z r)) (writers_short e r)
    where
      go : (b : Bool) → length (last_writer z e r) ≤ 1 → length (choose b (w ∷ []) (last_writer z e r)) ≤ 1
      go true h = omega arith
      go false h = h

  sources_from_lem : (e l : List ℕ) → length (sources_from z e l) ≤ length l
  unfolding sources_from
  sources_from_lem e [] = omega arith
  sources_from_lem e (x ∷ l) =
      let h = sources_from_lem (x ∷ e) l in
      let g = one (is_read (event z x)) in
      omega (arith, length-append (choose (is_read (event z x)) (pairs_to x (last_writer z e x)) []) (sources_from z (x ∷ e) l))
    where
      one : (b : Bool) → length (choose b (pairs_to x (last_writer z e x)) []) ≤ 1
      one true = let h = writers_short e x in let g = pairs_length x (last_writer z e x) in omega arith
      one false = omega arith

module _ (z : Execution) (l : List ℕ) where
  pub once_kept : AllKept (sequence_rules z l) → AllKept (once_rules z l)
  once_kept k = (k.0, (k.1.0, (k.1.1.0, tt)))

  pub sequence_length : AllKept (once_rules z l) → length l ≡ z.events.size
  sequence_length k = certain (ℕ_discrete _ _) (k.0 [])

  pub stores_short : length (stores_of z l) ≤ length l
  stores_short = picked_short _ l

  pub views_short : (p : ℕ) → length (view_of z p l) ≤ length l
  views_short p = picked_short _ l

  pub sources_short : length (sources_from z [] l) ≤ length l
  sources_short = sources_from_lem z [] l

module _ (z : Execution) (l : List ℕ) (full : Proper (steps l) (λ e. e < z.events.size)) where
  -- section 6 is the memory stores, each view what is seen, each once
  pub stores_proper : Proper (read_off z l).stores (λ e. (e < z.events.size) × Store (event z e))
  stores_proper = picked_proper _ _ (λ e. store_decides (event z e)) l _ full

  pub views_proper : (p : ℕ) → Proper ((read_off z l).view p) (Sees z p)
  views_proper p = picked_proper _ _ (sees_decides z p) l _ full

  pub stores_low : (i : ℕ) → i < length (stores_of z l) → get_or (stores_of z l) i 0 < z.events.size
  stores_low i h = (stores_proper.due _ (i, h, refl)).0

  pub views_low : (p i : ℕ) → i < length (view_of z p l) → get_or (view_of z p l) i 0 < z.events.size
  views_low p i h = ((views_proper p).due _ (i, h, refl)).0

  source_low : (w r : ℕ) → Source (read_off z l) w r → (w < z.events.size) × (r < z.events.size)
  source_low w r s = go (source_at z l w r s)
    where
      go : Some (length l) (SourceAt z l w r) → (w < z.events.size) × (r < z.events.size)
      go (i, h, (e, d, (j, u, c))) = let g = u.0 in (full.due w (j, omega arith, c), full.due r (i, h, e))

  pub sources_low : (i : ℕ) → i < length (sources_from z [] l) → PairFormed z.events.size (get_or (sources_from z [] l) i (record { from = 0; to = 0 }))
  unfolding Source
  sources_low i h = source_low _ _ (i, h, (refl, refl))

  module _ (some : (i : ℕ) → Eventless z i → ⊥) where
    pub locks_low : (i : ℕ) → i < length (locks_from z [] l) → get_or (locks_from z [] l) i 0 < z.locks.size
    locks_low i h = (locks_proper z l full some).due _ (i, h, refl)

    pub locks_short : length (locks_from z [] l) ≤ z.locks.size
    locks_short = low_short _ (locks_from z [] l) (locks_proper z l full some).single locks_low

-- so what is read off has the form
pub off_formed : (z : Execution) (l : List ℕ) → Formed z → AllKept (structure_rules z) → AllKept (once_rules z l) → Formed (read_off z l)
off_formed z l f s k = record {
  processors = f.processors;
  events = f.events;
  causes = f.causes;
  locks = f.locks;
  stores = record { within = short (stores_short z l); each = stores_low z l full };
  lock_order = record { within = let h = locks_short z l full some in let m = f.locks.within in omega arith; each = locks_low z l full some };
  sources = record { within = short (sources_short z l); each = sources_low z l full };
  view = λ p h. record { within = short (views_short z l p); each = views_low z l full p };
}
  where
    full : Proper (steps l) (λ e. e < z.events.size)
    full = each_once z l k.1.1.0

    some : (i : ℕ) → Eventless z i → ⊥
    some i q = s.1.1.1.0 (i ∷ []) q

    short : {n : ℕ} → n ≤ length l → n ≤ 64
    short h = let e = sequence_length z l k in let m = f.events.within in omega arith
