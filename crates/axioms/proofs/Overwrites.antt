-- Rule 25: the writes that stand between a read and its source.
use Rattle.std.specs.Prelude.{Option, Some as Just, None as Nothing}
use Rattle.std.specs.Option.{is_some}
use Prim.Native.Nat.{ℕ, ◌<◌}
use mathlib.Core.Path.{◌≡◌, ap}
use mathlib.Core.Bool.{Bool, true, false}
use mathlib.Core.Logic.{◌⊎◌, inl, inr, ⊎_elim}
use mathlib.Core.List.{List}
use native.Mathlib.Omega.{arith}
use Rattle.order.specs.Decides.{Decides}
use Rattle.order.specs.Least.{Found}
use Rattle.order.specs.Rule.{Any}
use Rattle.order.proofs.Tests.{by_as}
use Rattle.rows.specs.Members.{In, Is, Member}
use Rattle.rows.specs.Table.{rel}
use Rattle.rows.specs.declared.Set.{Set}
use Rattle.rows.proofs.Members.{in_low}
use Rattle.record.specs.Execution.{Execution}
use Rattle.record.specs.declared.Event.{Event}
use Rattle.facts.specs.declared.Classes.{Classes}
use Rattle.facts.proofs.Placing.{place_sym}
use Rattle.model.specs.Model.{Reads, Writes, Source, ViewOrder}
use Rattle.model.specs.Rules.{Overwritten}
use Rattle.axioms.specs.Scene.{Sources, Scene}
use Rattle.axioms.proofs.Sorts.{writes_is}

apart : (x y : Event) → Writes x → Reads y → x.kind ≡ y.kind → ⊥
apart x y (inl w) (inl r) e = omega arith
apart x y (inl w) (inr r) e = omega arith
apart x y (inr w) (inl r) e = omega arith
apart x y (inr w) (inr r) e = omega arith

module _ (z : Execution) (p : ℕ) (t q : List ℕ) (c : Classes) (seen : Set) (s : Scene z p t q c seen) where
  module _ (either : Set) (u : Is either (λ k. In c.stores k ⊎ In c.puts k)) where
    writes : (k : ℕ) → In either k → Writes (z.events.item k)
    writes k i = ((writes_is z c s.classes either u).says k i).1

    write_in : (k : ℕ) → k < z.events.size → Writes (z.events.item k) → In either k
    write_in k l h = (writes_is z c s.classes either u).has k (l, h)

    module _ (w r : ℕ) (o : Source z w r) (iw : In seen w) (ir : In seen r) (place own behind late both past out : Set)
        (ip : Is place (rel q r)) (io : Is own (λ k. In either k × In place k)) (ib : Is behind (rel t w)) (il : Is late (λ k. In behind k × In seen k))
        (im : Is both (λ k. In own k × In late k)) (iq : Is past (rel t r)) (i : Is out (λ k. In both k × (In past k → ⊥))) where
      between : (k : ℕ) → In out k → Overwritten z p w r k
      unfolding Overwritten
      between k m =
          let (b, g) = i.says k m in
          let (f, l) = im.says k b in
          let (e, h) = io.says k f in
          let (a, v) = il.says k l in
          let after : ViewOrder z p w k = (s.view.line.order w k iw v).0 (ib.says k a) in
          let kind = writes k e in
          let other : k ≡ r → ⊥ = λ d. apart (z.events.item k) (z.events.item r) kind (s.paired w r o).1.0 (ap (λ (e : ℕ). (z.events.item e).kind) d) in (
            s.view.processor,
            o,
            (s.view.sees.says w iw, s.view.sees.says r ir),
            (λ d. s.view.line.once w (rw d at after)),
            (kind, place_sym (z.events.item r) (z.events.item k) ((s.places.pairs r k).0 (ip.says k h)).2),
            after,
            ⊎_elim (λ y. y) (λ y. absurd (g (iq.has k ((s.view.line.order r k ir v).1 y)))) (s.view.line.total k r v ir other),
          )

      held : (k : ℕ) → Overwritten z p w r k → In out k
      unfolding Overwritten
      held k (hp, ho, hs, d, (kind, place), after, before) =
          let v = (s.view.line.within w k after).1 in
          let l = s.view.line.low k v in
          i.has k (
            im.has k (
              io.has k (write_in k l kind, ip.has k ((s.places.pairs r k).1 (s.view.line.low r ir, l, place_sym (z.events.item k) (z.events.item r) place))),
              il.has k (ib.has k ((s.view.line.order w k iw v).1 after), v),
            ),
            λ y. s.view.line.opposite k r before ((s.view.line.order r k ir v).0 (iq.says k y)),
          )

      pub overwriting_is : Is out (Overwritten z p w r)
      overwriting_is = record { says = between; has = held }

    -- the sources of reads
    module _ (all : Set) (i : Is all (λ k. In either k × In seen k)) (w : ℕ) where
      pub source_in : Any 2 (Overwritten z p w) → In all w
      unfolding Overwritten
      source_in (r, (x, (hp, o, hs, d, k, after, before))) = i.has w (write_in w hs.0.0 (s.paired w r o).0, s.view.sees.has w hs.0)

      -- what the search for its reads gave
      module _ (m : In all w) (r : Option ℕ) (f : In seen w → Found 64 (λ e. Any 1 (Overwritten z p w e)) r) where
        pub source_found : is_some r ≡ true → Any 2 (Overwritten z p w)
        source_found = go r f
          where
            go : (r : Option ℕ) → (In seen w → Found 64 (λ e. Any 1 (Overwritten z p w e)) r) → is_some r ≡ true → Any 2 (Overwritten z p w)
            go Nothing f e = cc
            go (Just r) f e = (r, (f (i.says w m).1).1.0)

        pub source_not : is_some r ≡ false → Any 2 (Overwritten z p w) → ⊥
        unfolding Overwritten
        source_not = go r f
          where
            go : (r : Option ℕ) → (In seen w → Found 64 (λ e. Any 1 (Overwritten z p w e)) r) → is_some r ≡ false → Any 2 (Overwritten z p w) → ⊥
            go Nothing f e (k, (x, q)) = f (i.says w m).1 k (in_low seen k (s.view.sees.has k q.2.1)) (x, q)
            go (Just r) f e q = cc

  -- the reads from w
  module _ (u : List ℕ) (v : Sources z u) (w : ℕ) (row all : Set) (ir : Is row (rel u w)) (ia : Is all (λ k. In row k × In seen k)) (r : ℕ) where
    pub read_in : Any 1 (Overwritten z p w r) → In all r
    unfolding Overwritten
    read_in (x, (hp, o, hs, d, k, after, before)) = ia.has r (ir.has r ((v.pairs w r).1 o), s.view.sees.has r hs.1)

    pub read_tested : In all r → In seen w → (out : Set) → (Source z w r → In seen w → In seen r → Is out (Overwritten z p w r))
        → (g : Bool) → Decides g (Member out) → Decides g (Any 1 (Overwritten z p w r))
    read_tested m iw out f g d =
        let (a, b) = ia.says r m in
        let h = f ((v.pairs w r).0 (ir.says r a)) iw b in
        by_as g (λ (k, q). (k, h.says k q)) (λ (k, q). (k, h.has k q)) d
