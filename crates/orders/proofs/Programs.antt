-- Preserved order of a program, instruction by instruction, and of all programs, one after the other.
use Prim.Native.Nat.{ℕ, ◌+◌, ◌<◌, ◌≤◌}
use mathlib.Core.Path.{◌≡◌, sym, ◌∙◌}
use mathlib.Core.Logic.{◌⊎◌, inl, inr, ⊎_elim}
use mathlib.Core.List.{List}
use native.Mathlib.Omega.{arith}
use native.Mathlib.Decide.{dec_lt}
use Rattle.order.proofs.Numbers.{last_or}
use Rattle.rows.specs.Members.{In, Is, Member}
use Rattle.rows.specs.Table.{rel, Adds}
use Rattle.rows.specs.declared.Set.{Set}
use Rattle.rows.proofs.Members.{value, dec_in, subset_less}
use Rattle.rows.proofs.Table.{adds_none, adds_as, adds_then}
use Rattle.form.specs.Right.{Right}
use Rattle.record.specs.Execution.{Execution}
use Rattle.record.specs.Says.{execution_of}
use Rattle.record.proofs.Formings.{formed}
use Rattle.facts.specs.Facts.{Sorted}
use Rattle.model.specs.Model.{KeepsOrder, Preserved}
use Rattle.orders.specs.Programs.{Program, Earliest, OneInstruction}
use Rattle.orders.proofs.Earliest.{some_earliest}

-- a part of a program
pub program_part : (z : Execution) (own part : Set) → ((e : ℕ) → In part e → In own e) → Program z own → Program z part
program_part z own part f p = record { low = λ e i. p.low e (f e i); one = λ a b i j. p.one a b (f a i) (f b j) }

-- u is t with preserved order from the members of own that are not in rest any more, which come before those that are
pub record Running (z : Execution) (own rest : Set) (t u : List ℕ) : Type 0 where
  pub part : (e : ℕ) → In rest e → In own e
  pub after : (a b : ℕ) → In own a → (In rest a → ⊥) → In rest b → (z.events.item a).index < (z.events.item b).index
  pub adds : Adds t u (λ a b. In own a × (In rest a → ⊥) × (In own b × Preserved z a b))

module _ (z : Execution) (own : Set) (prog : Program z own) (t : List ℕ) where
  pub run_begin : Running z own own t t
  run_begin = record { part = λ e i. i; after = λ a b i g j. absurd (g i); adds = adds_none t _ (λ a b q. q.1 q.0) }

  module _ (rest : Set) (u : List ℕ) (p : Running z own rest t u) (here less : Set)
      (ih : (e : ℕ) → In here e → Earliest z rest e) (il : Is less (λ k. In rest k × (In here k → ⊥))) where
    pub run_rest : Program z rest
    run_rest = program_part z own rest p.part prog

    pub run_here : Program z here
    run_here = program_part z rest here (λ e i. (ih e i).0) run_rest

    pub run_less : Program z less
    run_less = program_part z rest less (λ e i. (il.says e i).0) run_rest

    pub run_one : OneInstruction z here
    run_one a b i j =
        let (m, f) = ih a i in
        let (n, g) = ih b j in
        let x = f b n in
        let y = g a m in
        (run_rest.one a b m n, omega arith)

    -- out of what is left: it was before, or it is of this instruction
    out : (a : ℕ) → (In less a → ⊥) → (In rest a → ⊥) ⊎ In here a
    out a g = go (dec_in here a)
      where
        go : Dec (In here a) → (In rest a → ⊥) ⊎ In here a
        go (yes i) = inr i
        go (no h) = inl (λ i. g (il.has a (i, h)))

    -- this instruction comes before what is left
    module _ (first : (a b : ℕ) → In here a → In less b → (z.events.item a).index < (z.events.item b).index) where
      after : (a b : ℕ) → In own a → (In less a → ⊥) → In less b → (z.events.item a).index < (z.events.item b).index
      after a b m g j = ⊎_elim (λ h. p.after a b m h (il.says b j).0) (λ i. first a b i j) (out a g)

      module _ (v : List ℕ) (d : Adds u v (λ a b. In here a × (In less b × KeepsOrder z a b))) where
        there : (a b : ℕ) → (In own a × (In rest a → ⊥) × (In own b × Preserved z a b)) ⊎ (In here a × (In less b × KeepsOrder z a b))
            → In own a × (In less a → ⊥) × (In own b × Preserved z a b)
        there a b (inl q) = (q.0, (λ l. q.1 (il.says a l).0), q.2)
        there a b (inr (i, (j, k))) =
            let m = p.part a (ih a i).0 in
            let n = p.part b (il.says b j).0 in
            (m, (λ l. (il.says a l).1 i), (n, (prog.low a m, prog.low b n, ((prog.one a b m n, first a b i j), k))))

        back : (a b : ℕ) → In own a × (In less a → ⊥) × (In own b × Preserved z a b)
            → (In own a × (In rest a → ⊥) × (In own b × Preserved z a b)) ⊎ (In here a × (In less b × KeepsOrder z a b))
        back a b (m, g, (n, q)) = ⊎_elim (λ h. inl (m, h, (n, q))) (λ i. inr (i, (left i (dec_in less b), q.2.1))) (out a g)
          where
            left : In here a → Dec (In less b) → In less b
            left i (yes j) = j
            left i (no h) =
                let l = q.2.0.1 in
                absurd (⊎_elim
                (λ o. let f = p.after b a n o (ih a i).0 in let w : ⊥ = omega arith in w)
                (λ j. let f = (ih b j).1 a (ih a i).0 in let w : ⊥ = omega arith in w)
                (out b h))

        pub run_more : Running z own less t v
        run_more = record {
          part = λ e i. p.part e (il.says e i).0;
          after = after;
          adds = adds_as t v _ _ there back (adds_then t u v _ _ p.adds d);
        }

  pub run_done : (rest : Set) (u : List ℕ) → Running z own rest t u
      → ((a b : ℕ) → In rest a → In own b → (z.events.item a).index < (z.events.item b).index → ⊥) → Adds t u (λ a b. In own a × (In own b × Preserved z a b))
  run_done rest u p g = adds_as t u _ _ (λ a b q. (q.0, q.2)) (λ a b (i, (j, q)). (i, (λ m. g a b m j q.2.0.1), (j, q))) p.adds

-- an instruction that is all events of the least index comes before what is left, of which there is less
module _ (z : Execution) (rest here less : Set) (ih : Is here (Earliest z rest)) (il : Is less (λ k. In rest k × (In here k → ⊥))) where
  pub earliest_first : (a b : ℕ) → In here a → In less b → (z.events.item a).index < (z.events.item b).index
  earliest_first a b i j = go (dec_lt (z.events.item a).index (z.events.item b).index)
    where
      go : Dec ((z.events.item a).index < (z.events.item b).index) → (z.events.item a).index < (z.events.item b).index
      go (yes l) = l
      go (no g) =
          let (m, h) = il.says b j in
          let (n, f) = ih.says a i in
          absurd (h (ih.has b (m, λ k o. let x = f k o in omega arith)))

  pub earliest_fewer : Member rest → value less < value rest
  earliest_fewer m =
      let (e, q) = some_earliest z rest m in
      subset_less rest less (λ k i. (il.says k i).0) e q.0 (λ i. (il.says e i).1 (ih.has e q))

-- ---- the programs, one after the other

module _ (z : Execution) (t : List ℕ) where
  pub programs_more : (f : List ℕ) → Sorted z f → (p : ℕ) → p < 4 → (own : Set) → Is own (rel f p) → (u v : List ℕ)
      → Adds t u (λ a b. ((z.events.item a).processor < p) × Preserved z a b) → Adds u v (λ a b. In own a × (In own b × Preserved z a b))
      → Adds t v (λ a b. ((z.events.item a).processor < p + 1) × Preserved z a b)
  programs_more f s p l own i u v d e =
      adds_as t v _ _
      (λ a b q. ⊎_elim (λ w. (omega arith, w.1)) (λ w. let x = ((s.own p a l).0 (i.says a w.0)).1 in (omega arith, w.1.1)) q)
      (λ a b q. ⊎_elim (λ (x : (z.events.item a).processor ≡ p). inr (there a b q.1 x)) (λ x. inl (x, q.1)) (last_or p (z.events.item a).processor (omega arith)))
      (adds_then t u v _ _ d e)
    where
      there : (a b : ℕ) → Preserved z a b → (z.events.item a).processor ≡ p → In own a × (In own b × Preserved z a b)
      there a b q x = (
        i.has a ((s.own p a l).1 (q.0, x)),
        (i.has b ((s.own p b l).1 (q.1, sym q.2.0.0 ∙ x)), q),
      )

-- there are four processors at most
pub programs_all : (s : List ℕ) → Right s → (t u : List ℕ) (p : ℕ) → 4 ≤ p
    → Adds t u (λ a b. (((execution_of s).events.item a).processor < p) × Preserved (execution_of s) a b) → Adds t u (Preserved (execution_of s))
programs_all s r t u p l d = adds_as t u _ _ (λ a b q. q.1) (λ a b q. (low a q.0, q)) d
  where
    low : (a : ℕ) → a < (execution_of s).events.size → ((execution_of s).events.item a).processor < p
    low a h = let g = formed s r in let o = (g.events.each a h).own in let w = g.processors in omega arith
