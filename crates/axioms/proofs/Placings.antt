-- The numbers of a list, counted into two sets: those that stand in it, and those that stand in it twice.
use Rattle.std.specs.Prelude.{Option, Some as Just, None as Nothing}
use Prim.Native.Nat.{ℕ, ◌+◌, ◌<◌, ◌≤◌}
use mathlib.Core.Path.{◌≡◌, sym, ap, ◌∙◌}
use mathlib.Core.Logic.{◌⊎◌, inl, inr, ⊎_elim}
use native.Mathlib.Omega.{arith}
use Rattle.order.specs.Least.{Some, Found}
use Rattle.order.proofs.Numbers.{last_or}
use Rattle.order.proofs.Searches.{found_as, none_as}
use Rattle.rows.specs.Members.{In, Is}
use Rattle.rows.specs.declared.Set.{Set}
use Rattle.record.specs.Execution.{Items}
use Rattle.model.specs.Rules.{Misplaced}

-- what is found under another name for its property
pub found_by : (n : ℕ) (P Q : ℕ → Type 0) → ((k : ℕ) → P k → Q k) → ((k : ℕ) → Q k → P k) → (r : Option ℕ) → Found n P r → Found n Q r
found_by n P Q f g Nothing h = none_as n P Q f g h
found_by n P Q f g (Just r) h = found_as n P Q f g r h

-- the first i numbers are counted
pub record Placing (l : Items ℕ) (i : ℕ) (x y : Set) : Type 0 where
  pub upto : i ≤ l.size
  pub once : Is x (λ e. Some i (λ j. l.item j ≡ e))
  pub twice : Is y (λ e. Some i (λ j. Some j (λ k. (l.item k ≡ e) × (l.item j ≡ e))))

module _ (l : Items ℕ) where
  module _ (i : ℕ) (x y : Set) (p : Placing l i x y) where
    pub placing_more : i < l.size → (v : ℕ) → v ≡ l.item i → (here both y' x' : Set) → Is here (λ e. e ≡ v) → Is both (λ e. In x e × In here e)
        → Is y' (λ e. In y e ⊎ In both e) → Is x' (λ e. In x e ⊎ In here e) → Placing l (i + 1) x' y'
    placing_more h v f here both y' x' o b u w = record {
      upto = omega arith;
      once = record {
        says = λ e m. ⊎_elim (λ n. let q = p.once.says e n in (q.0, omega arith, q.2)) (λ n. (i, omega arith, at e n)) (w.says e m);
        has = λ e q. w.has e (⊎_elim
            (λ (g : q.0 ≡ i). inr (to e (ap l.item (sym g) ∙ q.2)))
            (λ k. inl (p.once.has e (q.0, k, q.2)))
            (last_or i q.0 (omega arith)));
      };
      twice = record {
        says = λ e m. ⊎_elim
            (λ n. let q = p.twice.says e n in (q.0, omega arith, q.2))
            (λ n. let d = b.says e n in let q = p.once.says e d.0 in (i, omega arith, (q.0, q.1, (q.2, at e d.1))))
            (u.says e m);
        has = λ e (j, k, (n, g, (a, d))). u.has e (⊎_elim
            (λ (r : j ≡ i). inr (b.has e (p.once.has e (n, omega arith, a), to e (ap l.item (sym r) ∙ d))))
            (λ r. inl (p.twice.has e (j, r, (n, g, (a, d)))))
            (last_or i j (omega arith)));
      };
    }
      where
        at : (e : ℕ) → In here e → l.item i ≡ e
        at e n = sym f ∙ sym (o.says e n)

        to : (e : ℕ) → l.item i ≡ e → In here e
        to e q = o.has e (sym q ∙ sym f)

    pub placing_done : l.size ≤ i → (due a b c all : Set) → Is a (λ e. In x e × (In due e → ⊥)) → Is b (λ e. In due e × (In x e → ⊥))
        → Is c (λ e. In a e ⊎ In b e) → Is all (λ e. In y e ⊎ In c e) → (r : Option ℕ) → Found 64 (In all) r → Found 64 (λ e. Misplaced (In due e) l e) r
    unfolding Misplaced
    placing_done h due a b c all ia ib ic is r f = found_by 64 (In all) _ says has r f
      where
        whole : Placing l l.size x y
        whole = let g = p.upto in let e : i ≡ l.size = omega arith in rw e at p

        says : (e : ℕ) → In all e → Misplaced (In due e) l e
        says e m = ⊎_elim
            (λ n. inr (inr (whole.twice.says e n)))
            (λ n. ⊎_elim
            (λ k. let d = ia.says e k in inr (inl (d.1, whole.once.says e d.0)))
            (λ k. let d = ib.says e k in inl (d.0, λ q. d.1 (whole.once.has e q)))
            (ic.says e n))
            (is.says e m)

        has : (e : ℕ) → Misplaced (In due e) l e → In all e
        has e (inl (d, g)) = is.has e (inr (ic.has e (inr (ib.has e (d, λ n. g (whole.once.says e n))))))
        has e (inr (inl (g, q))) = is.has e (inr (ic.has e (inl (ia.has e (whole.once.has e q, g)))))
        has e (inr (inr q)) = is.has e (inl (whole.twice.has e q))
