-- The members of a set with the least index: found member by member, and there are some where there is a member.
use Prim.Native.Nat.{ℕ, ◌+◌, ◌<◌, ◌≤◌}
use mathlib.Core.Path.{◌≡◌, refl, ap, ◌∙◌}
use mathlib.Core.Logic.{◌⊎◌, inl, inr, ⊎_elim}
use mathlib.Core.List.{List}
use native.Mathlib.Omega.{arith}
use native.Mathlib.Decide.{ℕ_discrete, dec_lt}
use lib.ListN.{get_or}
use Rattle.order.specs.Least.{Some}
use Rattle.order.proofs.Numbers.{dec_some, least}
use Rattle.rows.specs.Members.{In, Is, Member}
use Rattle.rows.specs.declared.Set.{Set}
use Rattle.rows.proofs.Members.{in_low, dec_in}
use Rattle.rows.proofs.Filters.{Filtering, filter_skip}
use Rattle.form.specs.Place.{entry_at}
use Rattle.form.proofs.Numbers.{num_one, num_two}
use Rattle.record.specs.Execution.{Execution}
use Rattle.record.specs.Says.{execution_of}
use Rattle.record.specs.declared.Event.{Event}
use Rattle.orders.specs.Programs.{Earliest}

-- r has the members of all that are not in `from` any more and whose index is the least of theirs
pub record Seeking (z : Execution) (all from : Set) (low : ℕ) (r : Set) : Type 0 where
  pub kept : Filtering (λ a. (z.events.item a).index ≡ low) all from r
  pub above : (a : ℕ) → In all a → (In from a → ⊥) → low ≤ (z.events.item a).index
  pub got : (low ≡ 65535) ⊎ Member r

module _ (z : Execution) (all : Set) where
  module _ (from : Set) (low : ℕ) (r : Set) (p : Seeking z all from low r) (a : ℕ) (m : In from a) (x : Event) (e : x ≡ z.events.item a)
      (less : Set) (k : Is less (λ j. In from j × (j ≡ a → ⊥))) where
    same : x.index ≡ (z.events.item a).index
    same = ap (λ (y : Event). y.index) e

    -- out of what is left: it was before, or it is a
    out : (b : ℕ) → (In less b → ⊥) → (In from b → ⊥) ⊎ (b ≡ a)
    out b g = go (ℕ_discrete b a)
      where
        go : Dec (b ≡ a) → (In from b → ⊥) ⊎ (b ≡ a)
        go (yes q) = inr q
        go (no q) = inl (λ h. g (k.has b (h, q)))

    lowered : (l : ℕ) → l ≤ low → l ≤ x.index → (b : ℕ) → In all b → (In less b → ⊥) → l ≤ (z.events.item b).index
    lowered l h f b n g =
        ⊎_elim (λ o. let q = p.above b n o in omega arith) (λ (o : b ≡ a). rw o (let q = same in omega arith)) (out b g)

    pub seek_skip : low ≤ x.index → (x.index ≡ low → ⊥) → Seeking z all less low r
    seek_skip h g = record {
      kept = filter_skip _ all from r p.kept a m less k (λ q. g (same ∙ q));
      above = lowered low (omega arith) h;
      got = p.got;
    }

  pub seek_done : ((e : ℕ) → (z.events.item e).index < 65536) → (from : Set) (low : ℕ) (r : Set) → Seeking z all from low r → (Member from → ⊥)
      → Is r (Earliest z all)
  seek_done small from low r p g = record {
    says = λ e i. let (n, o, q) = p.kept.is.says e i in (n, λ b m. let w = above b m in omega arith);
    has = λ e (m, f). p.kept.is.has e (m, out e, at e m f p.got);
  }
    where
      out : (b : ℕ) → In from b → ⊥
      out b i = g (b, i)

      above : (b : ℕ) → In all b → low ≤ (z.events.item b).index
      above b m = p.above b m (out b)

      at : (e : ℕ) → In all e → ((b : ℕ) → In all b → (z.events.item e).index ≤ (z.events.item b).index)
          → (low ≡ 65535) ⊎ Member r → (z.events.item e).index ≡ low
      at e m f (inl q) = let h = small e in let w = above e m in omega arith
      at e m f (inr (b, i)) = let (n, o, q) = p.kept.is.says b i in let h = f b n in let w = above e m in omega arith

-- an index is spelt by two bytes
pub index_small : (s : List ℕ) → ((i : ℕ) → get_or s i 0 < 256) → (e : ℕ) → ((execution_of s).events.item e).index < 65536
index_small s f e =
    let at = entry_at s 2 e + 2 in
    let a = num_two s at in
    let b = num_one s at in
    let c = num_one s (at + 1) in
    let d = f at in
    let g = f (at + 1) in
    omega arith

-- a set with a member has one with the least index
pub some_earliest : (z : Execution) (all : Set) → Member all → (e : ℕ) × (Earliest z all e)
some_earliest z all (a, m) =
    let (n, l, (p, f)) = least (λ n. Some 64 (λ b. In all b × ((z.events.item b).index ≡ n))) (λ n. dec_some _ (dec n) 64) (z.events.item a).index (a, in_low all a m, (m, refl)) in
    (p.0, (p.2.0, λ b i. low n p.0 p.2.1 f b i (dec_lt (z.events.item b).index n)))
  where
    dec : (n b : ℕ) → Dec (In all b × ((z.events.item b).index ≡ n))
    dec n b = go (dec_in all b) (ℕ_discrete (z.events.item b).index n)
      where
        go : Dec (In all b) → Dec ((z.events.item b).index ≡ n) → Dec (In all b × ((z.events.item b).index ≡ n))
        go (yes i) (yes q) = yes (i, q)
        go (yes i) (no g) = no (λ h. g h.1)
        go (no g) d = no (λ h. g h.0)

    low : (n e : ℕ) → (z.events.item e).index ≡ n → ((k : ℕ) → k < n → Some 64 (λ b. In all b × ((z.events.item b).index ≡ k)) → ⊥)
        → (b : ℕ) → In all b → Dec ((z.events.item b).index < n) → (z.events.item e).index ≤ (z.events.item b).index
    low n e q f b i (yes l) = absurd (f _ l (b, in_low all b i, (i, refl)))
    low n e q f b i (no l) = omega arith
