-- Rules 27 and 31: the events that stand in a locked instruction that they are not of.
use Prim.Native.Nat.{ℕ}
use mathlib.Core.Path.{◌≡◌, sym, ◌∙◌}
use mathlib.Core.Logic.{⊎_elim}
use mathlib.Core.Bool.{Bool, true, false}
use mathlib.Core.List.{List}
use Rattle.order.specs.Decides.{Decides}
use Rattle.order.specs.Least.{Some}
use Rattle.order.specs.Rule.{Any}
use Rattle.order.proofs.Tests.{by_as}
use Rattle.rows.specs.Members.{In, Is, Member}
use Rattle.rows.specs.Table.{rel}
use Rattle.rows.specs.declared.Set.{Set}
use Rattle.record.specs.Execution.{Items, Execution}
use Rattle.record.specs.Words.{SameInstruction, OfLock}
use Rattle.facts.specs.Facts.{Mated}
use Rattle.model.specs.Model.{Locked, Before}
use Rattle.model.specs.Rules.{BreaksUp}
use Rattle.model.proofs.Lists.{before_trans}
use Rattle.axioms.specs.Scene.{Lined}

-- b is one of all, and one of others is not after b
abbrev pub Split : List ℕ → Set → Set → ℕ → Type 0
Split t others all b = In all b × ((x : ℕ) × In others x × (rel t b x → ⊥))

pub split_tested : (t : List ℕ) (others all : Set) (b : ℕ) (row rest : Set) → Is row (rel t b) → Is rest (λ k. In others k × (In row k → ⊥))
    → In all b → (g : Bool) → Decides g (Member rest) → Decides g (Split t others all b)
split_tested t others all b row rest i j m g d =
    by_as g
    (λ (x, q). let (o, n) = j.says x q in (m, (x, o, λ r. n (i.has x r))))
    (λ (k, (x, o, n)). (x, j.has x (o, λ r. n (i.says x r))))
    d

module _ (z : Execution) (l : Items ℕ) (t : List ℕ) (all : Set) (v : Lined z l t all) where
  -- what the numbers of the evidence have
  pub broken_locked : (a x b : ℕ) → BreaksUp z l a x b → Locked z a
  unfolding BreaksUp
  broken_locked a x b h = h.0

  pub broken_in : (a x b : ℕ) → BreaksUp z l a x b → In all a × In all x × In all b
  unfolding BreaksUp
  broken_in a x b h = let (i, j) = v.within a x h.3 in (i, j, (v.within x b h.4).1)

  -- the parts that do not speak of b
  pub broken_is : (a x b : ℕ) → BreaksUp z l a x b → (out : Set)
      → Is out (λ b. In all b × (SameInstruction (z.events.item a) (z.events.item b) × Before l x b)) → Is out (BreaksUp z l a x)
  unfolding BreaksUp
  broken_is a x b h out i = record {
    says = λ k m. let (n, (e, o)) = i.says k m in (h.0, e, h.2, h.3, o);
    has = λ k m. i.has k ((v.within x k m.4).1, (m.1, m.4));
  }

  -- the events of locked instructions; the search for a
  module _ (locked from : Set) (i : Is locked (λ e. Some z.locks.size (λ i. OfLock z i e))) (j : Is from (λ k. In locked k × In all k)) where
    pub torn_in : (a : ℕ) → Any 2 (BreaksUp z l a) → In from a
    unfolding BreaksUp Locked
    torn_in a (x, (b, ((k, h, o), same, other, after, before))) =
        let n = (v.within a x after).0 in j.has a (i.has a (k, h, (v.low a n, o)), n)

    pub torn_found : (a : ℕ) (g : Bool) → (Locked z a → In all a → Decides g (Any 2 (BreaksUp z l a)))
        → In from a → g ≡ true → Any 2 (BreaksUp z l a)
    unfolding Locked
    torn_found a g d m e = let (k, n) = j.says a m in let (x, y, (h, q)) = i.says a k in (d (x, y, q) n).holds e

  pub torn_not : (a : ℕ) (g : Bool) → (Locked z a → In all a → Decides g (Any 2 (BreaksUp z l a))) → g ≡ false → Any 2 (BreaksUp z l a) → ⊥
  torn_not a g d e (x, (b, q)) = (d (broken_locked a x b q) (broken_in a x b q).0).fails e (x, (b, q))

  module _ (m : List ℕ) (n : Mated z m) (a : ℕ) (lock : Locked z a) (ia : In all a) (mates : Set) (im : Is mates (rel m a)) where
    mate_in : (b : ℕ) → In all b → SameInstruction (z.events.item a) (z.events.item b) → In mates b
    unfolding Locked
    mate_in b i (e, f) =
        let (k, o, (g, h)) = lock in
        im.has b ((n.pairs a b).1 (k, o, ((v.low a ia, (g, h)), (v.low b i, (sym e ∙ g, sym f ∙ h)))))

    mate_of : (b : ℕ) → In mates b → SameInstruction (z.events.item a) (z.events.item b)
    mate_of b i = let (k, o, ((hp, (e, f)), (hq, (g, h)))) = (n.pairs a b).0 (im.says b i) in (e ∙ sym g, f ∙ sym h)

    -- the events of the instruction after x
    pub torn_from_is : (x : ℕ) → In all x → (row after out : Set) → Is row (rel t x) → Is after (λ k. In row k × In all k)
        → Is out (λ k. In after k × In mates k)
        → Is out (λ b. In all b × (SameInstruction (z.events.item a) (z.events.item b) × Before l x b))
    torn_from_is x ix row after out ir i j = record {
      says = λ b k. let (f, q) = j.says b k in let (r, s) = i.says b f in (s, (mate_of b q, (v.order x b ix s).0 (ir.says b r)));
      has = λ b (s, (e, o)). j.has b (i.has b (ir.has b ((v.order x b ix s).1 o), s), mate_in b s e);
    }

    -- the others after a
    module _ (row after others : Set) (ir : Is row (rel t a)) (i : Is after (λ k. In row k × In all k))
        (io : Is others (λ k. In after k × (In mates k → ⊥))) where
      behind : (x : ℕ) → Before l a x → In after x
      behind x o = let s = (v.within a x o).1 in i.has x (ir.has x ((v.order a x ia s).1 o), s)

      behind_of : (x : ℕ) → In after x → In all x × Before l a x
      behind_of x k = let (r, s) = i.says x k in (s, (v.order a x ia s).0 (ir.says x r))

      other_in : (x : ℕ) → Before l a x → (SameInstruction (z.events.item a) (z.events.item x) → ⊥) → In others x
      other_in x o g = io.has x (behind x o, λ k. g (mate_of x k))

      other_of : (x : ℕ) → In others x → (SameInstruction (z.events.item a) (z.events.item x) → ⊥)
      other_of x k e = let (f, g) = io.says x k in g (mate_in x (behind_of x f).0 e)

      -- the search for x
      pub tearing_in : (x : ℕ) → Any 1 (BreaksUp z l a x) → In others x
      unfolding BreaksUp
      tearing_in x (b, (hl, same, other, after, before)) = other_in x after other

      pub tearing_tested : (x : ℕ) → In others x → (out : Set)
          → (In all x → Is out (λ b. In all b × (SameInstruction (z.events.item a) (z.events.item b) × Before l x b)))
          → (g : Bool) → Decides g (Member out) → Decides g (Any 1 (BreaksUp z l a x))
      unfolding BreaksUp
      tearing_tested x k out f g d =
          let (s, o) = behind_of x (io.says x k).0 in
          let h = f s in
          by_as g
          (λ (b, q). let (sb, (e, w)) = h.says b q in (b, (lock, e, other_of x k, o, w)))
          (λ (b, (hl, same, other, after, before)). (b, h.has b ((v.within x b before).1, (same, before))))
          d

      -- the test of a
      module _ (from : Set) (j : Is from (λ k. In after k × In mates k)) where
        pub split_torn : (b : ℕ) → Split t others from b → Any 2 (BreaksUp z l a)
        unfolding BreaksUp
        split_torn b (k, (x, o, g)) =
            let (f, q) = j.says b k in
            let (sb, ob) = behind_of b f in
            let (h, w) = io.says x o in
            let (sx, ox) = behind_of x h in
            let early = ⊎_elim (λ y. y) (λ y. absurd (g ((v.order b x sb sx).1 y))) (v.total x b sx sb (λ e. w (rw e q))) in
            (x, (b, (lock, mate_of b q, other_of x o, ox, early)))

        pub torn_split : Any 2 (BreaksUp z l a) → (b : ℕ) × Split t others from b
        unfolding BreaksUp
        torn_split (x, (b, (hl, same, other, after, before))) =
            let (sx, sb) = v.within x b before in (
              b,
              (
                j.has b (behind b (before_trans l v.once a x b after before), mate_in b sb same),
                (x, other_in x after other, λ r. v.opposite x b before ((v.order b x sb sx).0 r)),
              ),
            )
