-- The lists of a record: store order, locked order and views, each as a list of numbers that stands in it.
use Prim.Native.Nat.{ℕ, ◌+◌, ◌*◌, ◌<◌, ◌≤◌}
use mathlib.Core.Path.{◌≡◌, refl, sym, ap, ap₂, ◌∙◌, subst, fun_ext}
use mathlib.Core.List.{List}
use native.Mathlib.Omega.{arith}
use native.Mathlib.Nat.{one-mul, mul-one}
use lib.ListN.{length}
use Rattle.form.specs.Bytes.{num}
use Rattle.form.specs.Form.{width}
use Rattle.form.specs.Place.{start, count, entry_at}
use Rattle.form.specs.Right.{Right}
use Rattle.form.proofs.Starts.{view_start_next}
use Rattle.record.specs.Execution.{Items}
use Rattle.record.specs.Says.{execution_of}
use Rattle.record.specs.Laid.{Laid, Stands, Views}
use Rattle.record.specs.declared.Layout.{Layout}
use Rattle.record.specs.declared.Part.{Part}
use Rattle.record.proofs.Formings.{formed}
use Rattle.record.proofs.Lengths.{length_low}
use Rattle.record.proofs.Places.{entry_place}
use Rattle.record.proofs.Reading.{item_is}
use Rattle.facts.specs.Lists.{list_of, Listed}

-- two lists of one length, with the same numbers
items_same : (m n : ℕ) (f g : ℕ → ℕ) → m ≡ n → ((i : ℕ) → f i ≡ g i) → ◌≡◌ {A = Items ℕ} (record { size = m; item = f }) (record { size = n; item = g })
items_same m n f g e h = ap₂ (λ (k : ℕ) (l : ℕ → ℕ). record { size = k; item = l }) e (fun_ext h)

-- numbers below m are below n
pub listed_more : (s : List ℕ) (m n : ℕ) (p : Part) → m ≤ n → Listed s m p → Listed s n p
listed_more s m n p h l = record { fits = l.fits; short = l.short; low = λ i k. let a = l.low i k in omega arith }

-- a section of one-byte entries
module _ (s : List ℕ) (r : Right s) (k : ℕ) (a : 2 ≤ k) (b : k < 9) (one : 1 ≡ width k) (p : Part) (q : Stands s k p) where
  section_item : (i : ℕ) → num 1 s (p.at + i) ≡ num 1 s (entry_at s k i)
  section_item i = ap (num 1 s) (ap (λ (x : ℕ). p.at + x) (sym (one-mul i)) ∙ entry_place s r k a b p q 1 one i)

  section_list : list_of s p ≡ record { size = count s k; item = λ i. num 1 s (entry_at s k i) }
  section_list = items_same _ _ _ _ q.number section_item

  section_fits : p.at + p.count ≤ length s
  unfolding count
  section_fits =
      let f = (r.section k a b).fits in
      let e = (r.section k a b).ends in
      let w : num 2 s (start s k) * width k ≡ num 2 s (start s k) = ap (λ (x : ℕ). num 2 s (start s k) * x) (sym one) ∙ mul-one _ in
      let c = q.place in
      let d = q.number in
      omega arith

  section_listed : (n : ℕ) → ((i : ℕ) → i < count s k → num 1 s (entry_at s k i) < n) → Listed s n p
  section_listed n f = record {
    fits = section_fits;
    short = let g = section_fits in let h = length_low s r in omega arith;
    low = λ i l. let c = f i (subst (λ (x : ℕ). i < x) q.number l) in let d = section_item i in omega arith;
  }

-- ---- laws for the crates above

module _ (s : List ℕ) (r : Right s) (l : Layout) (d : Laid s l) where
  pub stores_list : list_of s l.stores ≡ (execution_of s).stores
  unfolding width
  stores_list = section_list s r 6 (omega arith) (omega arith) refl l.stores d.stores

  pub stores_listed : Listed s (execution_of s).events.size l.stores
  unfolding width
  stores_listed = section_listed s r 6 (omega arith) (omega arith) refl l.stores d.stores _ (formed s r).stores.each

  pub locks_list : list_of s l.lockorder ≡ (execution_of s).lock_order
  unfolding width
  locks_list = section_list s r 7 (omega arith) (omega arith) refl l.lockorder d.lockorder

  pub locks_listed : Listed s (execution_of s).locks.size l.lockorder
  unfolding width
  locks_listed = section_listed s r 7 (omega arith) (omega arith) refl l.lockorder d.lockorder _ (formed s r).lock_order.each

pub view_list : (s : List ℕ) (p : ℕ) (v : Part) → Views s p v → list_of s v ≡ (execution_of s).view p
view_list s p v q = items_same _ _ _ _ q.number (λ i. item_is s p v i q)

pub view_listed : (s : List ℕ) → Right s → (p : ℕ) → p < (execution_of s).processors → (v : Part) → Views s p v → Listed s (execution_of s).events.size v
view_listed s r p h v q = record {
  fits = fits;
  short = let g = fits in let k = length_low s r in omega arith;
  low = λ i l. let c = ((formed s r).view p h).each i (subst (λ (x : ℕ). i < x) q.number l) in let d = item_is s p v i q in omega arith;
}
  where
    fits : v.at + v.count ≤ length s
    fits = let f = (r.view p h).fits in let e = view_start_next s p in let a = q.place in let b = q.number in omega arith
