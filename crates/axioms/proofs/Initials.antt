-- Rule 26: the initial value of a read's place, the writes before it, and the search for a read that breaks the rule.
use Prim.Native.Nat.{ℕ, ◌<◌}
use mathlib.Core.Path.{◌≡◌, refl, sym, ap, ◌∙◌}
use mathlib.Core.Logic.{◌⊎◌, inl, inr, ⊎_elim}
use mathlib.Core.List.{List, [], ◌∷◌}
use native.Mathlib.Omega.{arith}
use Rattle.order.specs.Least.{None, Least}
use Rattle.order.proofs.Numbers.{least_unique}
use Rattle.rows.specs.Members.{In, Is, Member}
use Rattle.rows.specs.Table.{rel}
use Rattle.rows.specs.declared.Set.{Set}
use Rattle.rows.proofs.Members.{in_low}
use Rattle.record.specs.Execution.{Execution}
use Rattle.record.specs.Words.{InitialFor}
use Rattle.record.specs.declared.Event.{Event}
use Rattle.facts.specs.declared.Classes.{Classes}
use Rattle.model.specs.Model.{Reads, Writes, Source, Sourced}
use Rattle.model.specs.Rules.{Unsourced, Initially, WrongInitial}
use Rattle.axioms.specs.Scene.{Scene}
use Rattle.axioms.specs.Faults.{WrongFrom, Coded, code, Precedes}
use Rattle.axioms.specs.declared.initial.Start.{Start}
use Rattle.axioms.specs.declared.initial.Start.TheVariants.{Absent, Other, Same}
use Rattle.facts.proofs.Placing.{place_sym}
use Rattle.axioms.proofs.Sorts.{reads_not, writes_is, reads_is}

-- a place has one initial value
pub initially_unique : (z : Execution) (x : Event) (v w : ℕ) → Initially z x v → Initially z x w → v ≡ w
initially_unique z x v w (i, l, (a, b, c)) (j, k, (d, e, f)) =
    let g : i ≡ j = least_unique (λ n. InitialFor x (z.initials.item n)) i j (a, b) (d, e) in
    sym c ∙ ap (λ (n : ℕ). (z.initials.item n).value) g ∙ f

-- ---- the writes of r's place before r

module _ (z : Execution) (p : ℕ) (t q : List ℕ) (c : Classes) (seen : Set) (scene : Scene z p t q c seen) (r : ℕ) (sr : In seen r)
    (reads : Reads (z.events.item r)) where
  pub preceding_is : (writes row near both after x : Set) → Is writes (λ e. In c.stores e ⊎ In c.puts e) → Is row (rel q r)
      → Is near (λ e. In writes e × In row e) → Is both (λ e. In near e × In seen e) → Is after (rel t r)
      → Is x (λ e. In both e × (In after e → ⊥)) → Is x (Precedes z p r)
  preceding_is writes row near both after x iw ir inear ib ia ix = record { says = says; has = has }
    where
      kinds : Is writes (λ e. (e < z.events.size) × Writes (z.events.item e))
      kinds = writes_is z c scene.classes writes iw

      says : (k : ℕ) → In x k → Precedes z p r k
      says k m =
          let a = ix.says k m in
          let b = ib.says k a.0 in
          let d = inear.says k b.0 in
          let w = (kinds.says k d.0).1 in
          let s = ((scene.places.pairs r k).0 (ir.says k d.1)).2 in (
            (w, place_sym (z.events.item r) (z.events.item k) s),
            ⊎_elim
                (λ o. absurd (a.1 (ia.has k ((scene.view.line.order r k sr b.1).1 o))))
                (λ o. o)
                (scene.view.line.total r k sr b.1 (λ (e : r ≡ k). reads_not (z.events.item r) reads (rw e w))),
          )

      has : (k : ℕ) → Precedes z p r k → In x k
      has k ((w, s), o) =
          let n = scene.view.line.within k r o in
          let lk = scene.view.line.low k n.0 in
          let lr = scene.view.line.low r sr in
          let near = inear.has k (kinds.has k (lk, w), ir.has k ((scene.places.pairs r k).1 (lr, lk, place_sym (z.events.item k) (z.events.item r) s))) in
          ix.has k (ib.has k (near, n.0), λ a. scene.view.line.opposite k r o ((scene.view.line.order r k sr n.0).0 (ia.says k a)))

-- ---- what breaks the rule

module _ (z : Execution) (p r : ℕ) where
  pub wrong_unsourced : WrongFrom z p r → Unsourced z p r
  unfolding WrongInitial
  wrong_unsourced ([], h) = absurd h
  wrong_unsourced (a ∷ [], h) = h.0
  wrong_unsourced (a ∷ x ∷ [], h) = h.0
  wrong_unsourced (a ∷ x ∷ y ∷ w, h) = absurd h

  pub wrong_code : Unsourced z p r → (k : Start) → Coded z r (code k) → (k ≡ Same → ⊥) → WrongFrom z p r
  unfolding WrongInitial
  wrong_code u Absent (inl q) g = (0 ∷ [], (u, inl q))
  wrong_code u Absent (inr (inl q)) g = (0 ∷ [], (u, inr q))
  wrong_code u Absent (inr (inr q)) g = let e = q.0 in absurd (omega arith)
  wrong_code u Other (inl q) g = (1 ∷ [], (u, inl q))
  wrong_code u Other (inr (inl q)) g = (1 ∷ [], (u, inr q))
  wrong_code u Other (inr (inr q)) g = let e = q.0 in absurd (omega arith)
  wrong_code u Same d g = absurd (g refl)

  pub wrong_before : Unsourced z p r → (x : ℕ) → Precedes z p r x → WrongFrom z p r
  unfolding WrongInitial
  wrong_before u x o = (2 ∷ x ∷ [], (u, refl, o.0, o.1))

  -- the initial value is r's, and no write stands before r
  coded_right : (k : Start) → Coded z r (code k) → k ≡ Same → Initially z (z.events.item r) (z.events.item r).value
  coded_right Absent d e = cc
  coded_right Other d e = cc
  coded_right Same (inl q) e = let e = q.0 in absurd (omega arith)
  coded_right Same (inr (inl q)) e = let e = q.0 in absurd (omega arith)
  coded_right Same (inr (inr q)) e = q.1

  pub wrong_not : (k : Start) → Coded z r (code k) → k ≡ Same → ((x : ℕ) → Precedes z p r x → ⊥) → WrongFrom z p r → ⊥
  unfolding WrongInitial
  wrong_not k d g f ([], h) = h
  wrong_not k d g f (a ∷ [], (u, inl q)) = let i = coded_right k d g in q.1 i.0 i.1 i.2.0
  wrong_not k d g f (a ∷ [], (u, inr (e, (v, i, n)))) = n (initially_unique z (z.events.item r) _ _ i (coded_right k d g))
  wrong_not k d g f (a ∷ x ∷ [], (u, e, w, o)) = f x (w, o)
  wrong_not k d g f (a ∷ x ∷ y ∷ w, h) = h

-- ---- the search

-- who is left in `from` is a read that is seen and has no source, and every read that breaks the rule is left
pub record Unread (z : Execution) (t q : List ℕ) (c : Classes) (seen from : Set) : Type 0 where
  pub low : (r : ℕ) → In from r → r < z.events.size
  pub reads : (r : ℕ) → In from r → Reads (z.events.item r)
  pub sees : (r : ℕ) → In from r → In seen r
  pub free : (r : ℕ) → In from r → (w : ℕ) → Source z w r → ⊥
  pub all : (p r : ℕ) → Scene z p t q c seen → WrongFrom z p r → In from r

module _ (z : Execution) (t q : List ℕ) (c : Classes) (seen : Set) where
  pub unread_begin : (p : ℕ) → Scene z p t q c seen → (sourced : Set) → Is sourced (Sourced z) → (reads near from : Set)
      → Is reads (λ e. In c.loads e ⊎ In c.gets e) → Is near (λ e. In reads e × In seen e) → Is from (λ e. In near e × (In sourced e → ⊥))
      → Unread z t q c seen from
  unread_begin p scene sourced is reads near from ir inear f = record {
    low = λ r m. (kinds.says r (inear.says r (f.says r m).0).0).0;
    reads = λ r m. (kinds.says r (inear.says r (f.says r m).0).0).1;
    sees = λ r m. (inear.says r (f.says r m).0).1;
    free = λ r m w s. (f.says r m).1 (is.has r (w, s));
    all = λ k r v h. let (l, s, d, g) = wrong_unsourced z k r h in
        f.has r (inear.has r (kinds.has r (s.0, d), v.view.sees.has r s), λ n. let y = is.says r n in g y.0 y.1);
  }
    where
      kinds : Is reads (λ e. (e < z.events.size) × Reads (z.events.item e))
      kinds = reads_is z c scene.classes reads ir

  -- r is taken, whose code is known
  module _ (from : Set) (u : Unread z t q c seen from) (r : ℕ) (f : Least (In from) r) (k : Start) (d : Coded z r (code k)) where
    un : (p : ℕ) → Scene z p t q c seen → Unsourced z p r
    un p scene = (scene.view.processor, scene.view.sees.says r (u.sees r f.0), u.reads r f.0, u.free r f.0)

    least : (p : ℕ) → Scene z p t q c seen → WrongFrom z p r → (r < 64) × Least (WrongFrom z p) r
    least p scene w = (in_low from r f.0, (w, (λ k l h. f.1 k l (u.all p k scene h))))

    pub unread_coded : (k ≡ Same → ⊥) → (p : ℕ) → Scene z p t q c seen → (r < 64) × Least (WrongFrom z p) r
    unread_coded g p scene = least p scene (wrong_code z p r (un p scene) k d g)

    -- the writes before it
    module _ (x : Set) (before : (p : ℕ) → Scene z p t q c seen → In seen r → Reads (z.events.item r) → Is x (Precedes z p r)) where
      here : (p : ℕ) → Scene z p t q c seen → Is x (Precedes z p r)
      here p scene = before p scene (u.sees r f.0) (u.reads r f.0)

      pub unread_before : Member x → (p : ℕ) → Scene z p t q c seen → (r < 64) × Least (WrongFrom z p) r
      unread_before (y, n) p scene = least p scene (wrong_before z p r (un p scene) y ((here p scene).says y n))

      pub unread_more : k ≡ Same → (Member x → ⊥) → (rest : Set) → Is rest (λ j. In from j × (j ≡ r → ⊥)) → Unread z t q c seen rest
      unread_more e g rest i = record {
        low = λ a n. u.low a (i.says a n).0;
        reads = λ a n. u.reads a (i.says a n).0;
        sees = λ a n. u.sees a (i.says a n).0;
        free = λ a n. u.free a (i.says a n).0;
        all = λ p a scene h. i.has a (u.all p a scene h, λ b. right p scene (rw b at h));
      }
        where
          right : (p : ℕ) → Scene z p t q c seen → WrongFrom z p r → ⊥
          right p scene = wrong_not z p r k d e (λ y o. g (y, (here p scene).has y o))

  pub unread_done : (from : Set) → Unread z t q c seen from → (Member from → ⊥) → (p : ℕ) → Scene z p t q c seen → None 64 (WrongFrom z p)
  unread_done from u g p scene a l h = g (a, u.all p a scene h)
