-- What holds of a record where reading went well.
use Prim.Native.Nat.{ℕ, zero, suc, ◌+◌, ◌*◌, ◌≤◌, ◌<◌}
use mathlib.Core.Path.{◌≡◌, refl, sym, ◌∙◌}
use mathlib.Core.List.{List, [], ◌∷◌}
use native.Mathlib.Nat.{add-zero, zero-mul, add_assoc, suc-mul}
use native.Mathlib.Numerals.{add-one}
use native.Mathlib.Omega.{arith}
use lib.ListN.{length}
use lib.Dec.{leb, ltb, eqb}
use borrow.Author.Tests.{leb-true, ltb-false, eqb-true}
use Rattle.std.specs.Prelude.{Ok}
use Rattle.form.specs.Bytes.{num}
use Rattle.form.specs.Steps.{upto}
use Rattle.form.specs.Right.{Block, Right}
use Rattle.form.proofs.Runs.{then_next, on_next, pick_next, pick_other, upto_well}
use Rattle.form.specs.Form.{Section, Field, width, limit, due, fields_from, fields, event_fields, pair_fields, lock_fields, initial_fields, one_field, entry, entries, block, sections, views}
use Rattle.form.specs.Place.{start, view_start, counts}
use Rattle.form.proofs.Starts.{start_more, view_start_more}
use Rattle.form.specs.Whole.{head, tail, body, whole}
use Rattle.form.specs.declared.Counts.{Counts}

pub due_well : (s : List ℕ) (k w at z : ℕ) → due s k w at ≡ Ok z → (at + w ≤ length s) × (z ≡ at + w)
unfolding due
due_well s k w at z h = let (b, e) = pick_next (leb (at + w) (length s)) (Ok (at + w)) _ z h in (leb-true _ _ b, (cc))

pub sizes : List Field → ℕ
sizes [] = 0
sizes (f ∷ fs) = f.size + sizes fs

pub fields_end : (k : ℕ) (fs : List Field) (at z : ℕ) → fields_from k fs at ≡ Ok z → z ≡ at + sizes fs
unfolding sizes
fields_end k [] at z h = rw add-zero (cc)
fields_end k (f ∷ fs) at z h =
    let (b, e) = pick_next f.right (fields_from k fs (at + f.size)) _ z h in
    let ih = fields_end k fs (at + f.size) z e in
    omega arith

-- the table's widths are the fields' sizes
pub sizes_width : (c : Counts) (s : List ℕ) (k at : ℕ) → Section k → sizes (fields c s k at) ≡ width k
unfolding sizes fields width event_fields pair_fields lock_fields initial_fields one_field
sizes_width c s zero at b = let h = b.from in omega arith
sizes_width c s (suc zero) at b = let h = b.from in omega arith
sizes_width c s (suc (suc zero)) at b = refl
sizes_width c s (suc (suc (suc zero))) at b = refl
sizes_width c s (suc (suc (suc (suc zero)))) at b = refl
sizes_width c s (suc (suc (suc (suc (suc zero))))) at b = refl
sizes_width c s (suc (suc (suc (suc (suc (suc zero)))))) at b = refl
sizes_width c s (suc (suc (suc (suc (suc (suc (suc zero))))))) at b = refl
sizes_width c s (suc (suc (suc (suc (suc (suc (suc (suc zero)))))))) at b = refl
sizes_width c s (suc (suc (suc (suc (suc (suc (suc (suc (suc zero))))))))) at b = refl
sizes_width c s (suc (suc (suc (suc (suc (suc (suc (suc (suc (suc j)))))))))) at b = let h = b.to in omega arith

pub entry_well : (c : Counts) (s : List ℕ) (k at z : ℕ) → Section k → entry c s k at ≡ Ok z
    → (at + width k ≤ length s) × (fields_from k (fields c s k at) at ≡ Ok z) × (z ≡ at + width k)
unfolding entry
entry_well c s k at z b h =
    let (q, d, e) = then_next (due s k (width k) at) _ z h in
    let w = due_well s k (width k) at q d in
    let n = fields_end k (fields c s k at) at z e in
    let m = sizes_width c s k at b in
    (w.0, e, omega arith)

next : (at j w : ℕ) → at + j * w + w ≡ at + (j + 1) * w
next at j w = simp (add-one, suc-mul, add_assoc)

-- entries that went well: each stands a width after the one before it
pub entries_well : (c : Counts) (s : List ℕ) (k m at z : ℕ) → Section k → entries c s k m at ≡ Ok z
    → (z ≡ at + m * width k) × ((i : ℕ) → i < m → entry c s k (at + i * width k) ≡ Ok (at + (i + 1) * width k))
unfolding entries
entries_well c s k m at z b h =
    let P : ℕ → ℕ = λ i. at + i * width k in
    let h0 : upto (λ i a. entry c s k a) 0 m (P 0) ≡ Ok z = rw (zero-mul, add-zero) h in
    let w = upto_well (λ i a. entry c s k a) P 0 m z (omega arith)
    (λ j q x y e. let n = (entry_well c s k (P j) q b e).2 in n ∙ next at j (width k)) h0 in
    (w.0, λ i x. w.1 i (omega arith) x)

-- entries that went well end within the record
pub entries_fit : (c : Counts) (s : List ℕ) (k m at z : ℕ) → Section k → at ≤ length s → entries c s k m at ≡ Ok z → z ≤ length s
entries_fit c s k zero at z b l h =
    let n = (entries_well c s k zero at z b h).0 in
    let o : zero * width k ≡ 0 = zero-mul _ in
    omega arith
entries_fit c s k (suc m) at z b l h =
    let w = entries_well c s k (suc m) at z b h in
    let n = w.0 in
    let e = (entry_well c s k _ _ b (w.1 m (omega arith))).0 in
    let o : suc m * width k ≡ m * width k + width k = suc-mul _ _ in
    omega arith

pub block_well : (c : Counts) (s : List ℕ) (k at z : ℕ) → Section k → block c s k at ≡ Ok z → Block c s k at z
unfolding block
block_well c s k at z b h =
    let (q, d, e) = then_next (due s k 2 at) _ z h in
    let w = due_well s k 2 at q d in
    let (t, g) = pick_next (leb (num 2 s at) (limit k)) (entries c s k (num 2 s at) q) _ z e in
    let g2 : entries c s k (num 2 s at) (at + 2) ≡ Ok z = rw w.1 at g in
    let v = entries_well c s k (num 2 s at) (at + 2) z b g2 in
    record { within = leb-true _ _ t; ends = v.0; fits = entries_fit c s k _ (at + 2) z b w.0 g2; each = v.1 }

head_well : (s : List ℕ) (z : ℕ) → head s ≡ Ok z → (num 1 s 0 ≡ 1) × (num 1 s 1 ≤ 4) × (z ≡ 2)
unfolding head
head_well s z h =
    let (q, d, e) = then_next (due s 0 1 0) _ z h in
    let (t, g) = pick_next (eqb (num 1 s 0) 1) _ _ z e in
    let (q2, d2, e2) = then_next (due s 1 1 1) _ z g in
    let (t2, g2) = pick_next (leb (num 1 s 1) 4) (Ok q2) _ z e2 in
    let w : q2 ≡ 2 = (due_well s 1 1 1 q2 d2).1 in
    (eqb-true _ _ t, leb-true _ _ t2, (cc))

pub section_of_lem : (k : ℕ) → 2 ≤ k → k ≤ 9 → Section k
section_of_lem k a b = record { from = a; to = b }

sections_well : (s : List ℕ) (z : ℕ) → sections (counts s) s 2 ≡ Ok z
    → (z ≡ start s 9) × ((k : ℕ) → 2 ≤ k → k < 9 → block (counts s) s k (start s k) ≡ Ok (start s (k + 1)))
unfolding sections start
sections_well s z h =
    upto_well (block (counts s) s) (start s) 2 9 z (omega arith)
    (λ k q x y e. (block_well (counts s) s k (start s k) q (section_of_lem k x (omega arith)) e).ends ∙ sym (start_more s k x)) h

-- sections 0 to 8 that went well end where section 9 starts
pub sections_end : (s : List ℕ) (a z : ℕ) → head s ≡ Ok a → sections (counts s) s a ≡ Ok z → z ≡ start s 9
sections_end s a z h e = (sections_well s z (rw (head_well s a h).2 at e)).0

views_well : (s : List ℕ) (m z : ℕ) → views (counts s) s m (view_start s 0) ≡ Ok z
    → (z ≡ view_start s m) × ((p : ℕ) → p < m → block (counts s) s 9 (view_start s p) ≡ Ok (view_start s (p + 1)))
unfolding views
views_well s m z h =
    let w = upto_well (λ i a. block (counts s) s 9 a) (view_start s) 0 m z (omega arith)
    (λ p q x y e. (block_well (counts s) s 9 (view_start s p) q (section_of_lem 9 (omega arith) (omega arith)) e).ends ∙ sym (view_start_more s p)) h in
    (w.0, λ p x. w.1 p (omega arith) x)

-- section 9 where it starts
tail_well : (s : List ℕ) (z : ℕ) → tail (counts s) s (start s 9) ≡ Ok z
    → (num 2 s (start s 9) ≡ num 1 s 1) × (views (counts s) s (num 1 s 1) (view_start s 0) ≡ Ok z) × (length s ≤ z) × (start s 9 + 2 ≤ length s)
unfolding tail counts view_start
tail_well s z h =
    on_next (due s 9 2 (start s 9)) _ z h
    (λ q d e.
    let w = due_well s 9 2 (start s 9) q d in
    let (t, g) = pick_next (eqb (num 2 s (start s 9)) (num 1 s 1)) _ _ z e in
    on_next (views (counts s) s (num 1 s 1) q) _ z g
    (λ b v r.
    let (o, n) = pick_other (ltb b (length s)) _ (Ok b) z r in
    let m : b ≡ z = cc in
    let l : length s ≤ b = ltb-false _ _ o in
    (eqb-true _ _ t, rw (w.1, m) at v, (omega arith), w.0)))

views_fit : (s : List ℕ) (m : ℕ) → start s 9 + 2 ≤ length s
    → ((p : ℕ) → p < m → Block (counts s) s 9 (view_start s p) (view_start s (p + 1))) → view_start s m ≤ length s
unfolding view_start
views_fit s zero l f = l
views_fit s (suc p) l f = rw add-one at (f p (omega arith)).fits

pub whole_well : (s : List ℕ) (z : ℕ) → whole s ≡ Ok z → Right s
unfolding whole body
whole_well s z h =
    on_next (head s) _ z h
    (λ q d e.
    let w = head_well s q d in
    on_next (sections (counts s) s q) (λ x. tail (counts s) s x) z e
    (λ a f g.
    let v = sections_well s a (rw w.2 at f) in
    let u = tail_well s z (rw v.0 at g) in
    let x = views_well s (num 1 s 1) z u.1 in
    let view : (p : ℕ) → p < num 1 s 1 → Block (counts s) s 9 (view_start s p) (view_start s (p + 1)) =
    λ p l. block_well (counts s) s 9 _ _ (section_of_lem 9 (omega arith) (omega arith)) (x.1 p l) in
    let fit = views_fit s (num 1 s 1) u.3 view in
    let last : z ≡ view_start s (num 1 s 1) = x.0 in
    let over : length s ≤ z = u.2 in
    record {
      form = w.0;
      processors = w.1;
      section = λ k l m. block_well (counts s) s k _ _ (section_of_lem k l (omega arith)) (v.1 k l m);
      views = u.0;
      view = view;
      ends = omega arith;
    }))
