-- A list of numbers below n becomes the first bytes of a buffer, and says there what it said.
use Prim.Native.Nat.{ℕ, ◌+◌, ◌<◌, ◌≤◌}
use mathlib.Core.Path.{◌≡◌, sym, ap, ◌∙◌}
use mathlib.Core.Logic.{◌↔◌, inl, inr}
use mathlib.Core.List.{List}
use native.Mathlib.Omega.{arith}
use native.Mathlib.Nat.{zero-add}
use lib.ListN.{length, get_or}
use Rattle.order.specs.Least.{None, Least}
use Rattle.order.specs.Rule.{Kept, rule}
use Rattle.order.proofs.Searches.{none_hit, found_as, none_as, one_kept}
use Rattle.rows.specs.Members.{In, Is}
use Rattle.rows.specs.Table.{HasRows, rel, Adds}
use Rattle.rows.specs.declared.Set.{Set}
use Rattle.form.proofs.Numbers.{num_one}
use Rattle.record.specs.Execution.{Execution}
use Rattle.record.specs.declared.Part.{Part}
use Rattle.facts.specs.Facts.{Blank}
use Rattle.facts.specs.Lists.{list_of, Listed}
use Rattle.facts.proofs.Counting.{blank_adds}
use Rattle.model.specs.Agree.{Alike}
use Rattle.model.specs.Model.{Before}
use Rattle.model.specs.Rules.{Stands, Misplaced}
use Rattle.model.proofs.Agreeing.{alike_sym, before_alike, misplaced_alike}
use Rattle.model.proofs.Lists.{Proper, before_ends, before_or, before_trans}
use Rattle.axioms.specs.Scene.{Lined}
use Rattle.sequences.specs.Sequence.{steps, WrongEvent}
use Rattle.replay.specs.Known.{Narrowed}
use Rattle.sequences.proofs.Members.{each_once}

-- the number at i is not below n
abbrev pub Large : ℕ → List ℕ → ℕ → Type 0
Large n l i = (i < length l) × (n ≤ (steps l).item i)

-- the bytes as a list
abbrev pub front : ℕ → Part
front m = record { at = 0; count = m }

module _ (z : Execution) (small : z.events.size ≤ 64) (l b : List ℕ) (s : Narrowed z.events.size l b) (full : length l ≡ z.events.size)
    (m : ℕ) (size : m ≡ z.events.size) where
  byte : (i : ℕ) → i < m → (list_of b (front m)).item i ≡ (steps l).item i
  byte i h = num_one b (0 + i) ∙ ap (λ (k : ℕ). get_or b k 0) (zero-add i) ∙ s.same i (omega arith)

  pub front_listed : Listed b 64 (front m)
  front_listed = record {
    fits = let f = s.fits in omega arith;
    short = omega arith;
    low = λ i h. let e = byte i h in let g = s.low i (omega arith) in omega arith;
  }

  front_alike : Alike (list_of b (front m)) (steps l)
  front_alike = record { size = size ∙ sym full; item = byte }

  alike_front : Alike (steps l) (list_of b (front m))
  alike_front = alike_sym _ _ front_alike

  -- the table that got the order of the bytes has the order of the list
  pub table_ordered : (t u : List ℕ) → HasRows t 64 × Blank t → Adds t u (Before (list_of b (front m)))
      → HasRows u 64 × ((x y : ℕ) → rel u x y ↔ Before (steps l) x y)
  table_ordered t u (rows, blank) d = (
    let e = d.same in omega arith,
    λ x y. let (there, back) = blank_adds t u _ blank d x y in (
      λ q. before_alike _ _ front_alike x y (there q),
      λ q. back (before_alike _ _ alike_front x y q),
    ),
  )

  -- ---- 30
  stands_low : (e : ℕ) → Stands (steps l) e → e < 64
  stands_low e (i, h, q) = let g = s.low i h in omega arith

  wrong_low : (e : ℕ) → WrongEvent z l e → e < 64
  unfolding WrongEvent Misplaced
  wrong_low e (inl (h, n)) = omega arith
  wrong_low e (inr (inl (n, q))) = stands_low e q
  wrong_low e (inr (inr q)) = stands_low e (before_ends (steps l) e e q).0

  module _ (all : Set) (i : Is all (λ k. k < m)) where
    due : (e : ℕ) → In all e → e < z.events.size
    due e q = let h = i.says e q in omega arith

    member : (e : ℕ) → e < z.events.size → In all e
    member e q = i.has e (omega arith)

    abbrev Wrong : ℕ → Type 0
    Wrong e = Misplaced (In all e) (list_of b (front m)) e

    to_wrong : (e : ℕ) → Wrong e → WrongEvent z l e
    unfolding WrongEvent
    to_wrong e = misplaced_alike _ _ _ _ e (due e) (member e) front_alike

    from_wrong : (e : ℕ) → WrongEvent z l e → Wrong e
    unfolding WrongEvent
    from_wrong e = misplaced_alike _ _ _ _ e (member e) (due e) alike_front

    pub wrong_least : (r : ℕ) → (r < 64) × Least Wrong r → (r < 64) × Least (WrongEvent z l) r
    wrong_least = found_as 64 Wrong (WrongEvent z l) to_wrong from_wrong

    module _ (h : None 64 Wrong) where
      pub event_kept : Kept (rule 30 1 (WrongEvent z l))
      event_kept = one_kept 30 64 (WrongEvent z l) 64 (none_hit 64 _ (none_as 64 Wrong (WrongEvent z l) to_wrong from_wrong h)) (omega arith) wrong_low

      once : Proper (steps l) (λ e. e < z.events.size)
      once = each_once z l event_kept

      -- the table has the order of a list with each event once
      pub table_lined : (u : List ℕ) → HasRows u 64 × ((x y : ℕ) → rel u x y ↔ Before (steps l) x y) → Lined z (steps l) u all
      table_lined u (rows, order) = record {
        low = due;
        rows = rows;
        order = λ x y hx hy. order x y;
        within = λ x y q. let (e, f) = before_ends (steps l) x y q in (member x (once.due x e), member y (once.due y f));
        once = once.single;
        opposite = λ x y p q. once.single x (before_trans (steps l) once.single x y x p q);
        total = λ x y hx hy. before_or (steps l) x y (once.stands x (due x hx)) (once.stands y (due y hy));
      }
