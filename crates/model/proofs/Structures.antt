-- Of a record that has the form, the structure rules are that what it says is a well-formed event structure, and rule 12.
use Prim.Native.Nat.{ℕ, ◌<◌}
use mathlib.Core.Path.{◌≡◌, refl, sym, ap₂, ◌∙◌}
use mathlib.Core.Logic.Dec
use mathlib.Core.Logic.{◌⊎◌, inl, inr, ⊎_elim, ◌↔◌}
use mathlib.Core.List.{[], ◌∷◌}
use native.Mathlib.Omega.{arith}
use native.Mathlib.Decide.{ℕ_discrete}
use Rattle.order.specs.Relation.{Chain}
use Rattle.order.specs.Rule.{Kept, rule, entry_rule, AllKept}
use Rattle.order.proofs.Numbers.{dec_some}
use Rattle.order.proofs.Searches.{of_any}
use Rattle.record.specs.Execution.{Instruction, Execution}
use Rattle.record.specs.Formed.{Formed}
use Rattle.structure.specs.Structure.{Joining, pair_of, Unordered, Eventless, Repeated, structure_rules}
use Rattle.record.specs.Words.{SameInstruction, SameRegister, RegisterWrite, Belongs, Causes, OfLock}
use Rattle.record.specs.declared.Event.{Event}
use Rattle.model.specs.Hol.{PER, wfes}
use Rattle.model.specs.Model.{Writes}
use Rattle.model.specs.Says.{structure_of}
use Rattle.order.proofs.Rules.{cycle_kept, kept_cycle}
use Rattle.model.proofs.Bounds.{causes_low}
use Rattle.model.proofs.Cycles.{acyclic_not, not_acyclic}
use Rattle.model.proofs.Decisions.{certain, below_or, dec_instruction}
use Rattle.model.proofs.Words.{writes_is, register_is, instruction_is, location_register}

-- an event of two locked instructions makes them one
one_lock : (x : Event) (i j : Instruction) → Belongs x i → Belongs x j → i ≡ j
one_lock x i j (p, q) (r, s) = ap₂ (λ (a b : ℕ). make a b) (sym p ∙ r) (sym q ∙ s)
  where
    make : ℕ → ℕ → Instruction
    make a b = record { processor = a; index = b }

module _ (z : Execution) (f : Formed z) (k : AllKept (structure_rules z)) where
  dec_causes : (a b : ℕ) → Dec (Causes z a b)
  unfolding Causes
  dec_causes a b = dec_some _ (λ i. Dec.and (ℕ_discrete _ _) (ℕ_discrete _ _)) _

  pub causes_one : (a b : ℕ) → Causes z a b → SameInstruction (z.events.item a) (z.events.item b)
  unfolding Causes Joining
  causes_one a b (i, h, (d, e)) = certain (dec_instruction (z.events.item a) (z.events.item b)) (λ g. k.0 (i ∷ []) (h, λ q. g (rw (d, e) at q)))

  -- two events of one instruction at one register, of which one writes, are a pair of section 3
  ordered : (a b : ℕ) → a < b → b < z.events.size → SameInstruction (z.events.item a) (z.events.item b)
      → SameRegister (z.events.item a) (z.events.item b) → RegisterWrite (z.events.item a) ⊎ RegisterWrite (z.events.item b)
      → Causes z a b ⊎ Causes z b a
  unfolding Unordered
  ordered a b l h i r w = go (dec_causes a b) (dec_causes b a)
    where
      go : Dec (Causes z a b) → Dec (Causes z b a) → Causes z a b ⊎ Causes z b a
      go (yes q) d = inl q
      go (no g) (yes q) = inr q
      go (no g) (no m) = absurd (k.1.1.0 (a ∷ b ∷ []) (l, h, i, r, w, g, m))

  registers : (a b : ℕ) → a < z.events.size → b < z.events.size → Writes (z.events.item a) → (a ≡ b → ⊥)
      → SameInstruction (z.events.item a) (z.events.item b) → SameRegister (z.events.item a) (z.events.item b)
      → Chain (Causes z) a b ⊎ Chain (Causes z) b a
  registers a b ha hb w n i r = go (below_or a b n)
    where
      writing : Writes (z.events.item a) → RegisterWrite (z.events.item a)
      writing (inl q) = let g = r.0 in absurd (omega arith)
      writing (inr q) = q

      chain : (c d : ℕ) → Causes z c d → Chain (Causes z) c d
      chain c d q = ([], q)

      go : (a < b) ⊎ (b < a) → Chain (Causes z) a b ⊎ Chain (Causes z) b a
      go (inl l) = ⊎_elim (λ q. inl (chain a b q)) (λ q. inr (chain b a q)) (ordered a b l hb i r (inl (writing w)))
      go (inr l) =
          ⊎_elim
          (λ q. inr (chain b a q))
          (λ q. inl (chain a b q))
          (ordered b a l ha (sym i.0, sym i.1) (r.1.0, (r.0, (sym r.1.1.0, sym r.1.1.1))) (inr (writing w)))

  -- an entry of section 4 is repeated by none
  apart : (i j e : ℕ) → j < z.locks.size → i < j → OfLock z i e → OfLock z j e → ⊥
  unfolding Repeated
  apart i j e h l x y = k.1.1.1.1.0 (j ∷ []) (h, (i, l, one_lock (z.events.item e) _ _ x.1 y.1))

  atoms : PER (structure_of z).events (structure_of z).atoms (structure_of z).atomicity
  unfolding Eventless
  atoms = record { within = λ i h e q. q.0; inhabited = inhabited; disjoint = disjoint }
    where
      inhabited : (i : ℕ) → i < z.locks.size → (e : ℕ) × OfLock z i e
      inhabited i h =
          let (e, l, q) = certain (dec_some (λ e. Belongs (z.events.item e) (z.locks.item i)) (λ e. Dec.and (ℕ_discrete _ _) (ℕ_discrete _ _)) z.events.size)
          (λ g. k.1.1.1.0 (i ∷ []) (h, λ e l q. g (e, l, q))) in
          (e, (l, q))

      disjoint : (i j : ℕ) → i < z.locks.size → j < z.locks.size → (i ≡ j → ⊥) → (e : ℕ) → OfLock z i e → OfLock z j e → ⊥
      disjoint i j h g n e x y = ⊎_elim (λ l. apart i j e g l x y) (λ l. apart j i e h l y x) (below_or i j n)

  pub structure_formed : wfes (structure_of z)
  structure_formed = record {
    instructions = λ i. (z.events.size, λ n (e, h, q, d). rw d at h);
    processors = (z.processors, λ p h. h);
    owned = λ e h. (f.events.each e h).own;
    told_apart = λ a b h g d e. d;
    domain = λ a b q. (causes_low z f a b q).0;
    range = λ a b q. (causes_low z f a b q).1;
    acyclic_causality = not_acyclic _ (kept_cycle _ 11 k.1.0);
    one_instruction = λ a b q. (instruction_is z f a b).1 (causes_one a b q);
    registers = λ a b w n o i r.
        let v = (writes_is z f a).0 w in
        registers a b v.0 (⊎_elim (λ q. q.0) (λ q. q.0) o) v.1 n ((instruction_is z f a b).0 i) ((register_is z f a b).0 r);
    atoms = atoms;
    atom_one = λ i h a b x y. (instruction_is z f a b).1 (x.1.0 ∙ sym y.1.0, x.1.1 ∙ sym y.1.1);
    atom_whole = λ i h a b x g e. let s = (instruction_is z f a b).0 e in (g, (sym s.0 ∙ x.1.0, sym s.1 ∙ x.1.1));
    own_registers = λ e h p r d. sym (location_register (z.events.item e) p r d).1;
  }

-- ---- and the other way

module _ (z : Execution) (f : Formed z) (c : wfes (structure_of z)) where
  -- 10
  one_joining : Kept (entry_rule 10 (Joining z) (pair_of z))
  unfolding Joining Causes
  one_joining w q =
      let (i, (h, g)) = of_any 1 (Joining z) w q in
      g ((instruction_is z f _ _).0 (c.one_instruction _ _ (i, h, (refl, refl))))

  -- 13
  one_eventless : Kept (rule 13 1 (Eventless z))
  unfolding Eventless
  one_eventless w q =
      let (i, (h, n)) = of_any 1 (Eventless z) w q in
      let (e, (l, b)) = c.atoms.inhabited i h in
      n e l b

  -- 14: an entry and one that it repeats have an event in common
  one_repeated : Kept (rule 14 1 (Repeated z))
  unfolding Repeated
  one_repeated w q =
      let (i, (h, (j, l, d))) = of_any 1 (Repeated z) w q in
      let (e, o) = c.atoms.inhabited j (omega arith) in
      c.atoms.disjoint j i (omega arith) h (λ s. omega arith) e o (rw d at o)

  pub formed_structure : Kept (rule 12 2 (Unordered z)) → AllKept (structure_rules z)
  formed_structure k = (one_joining, (cycle_kept _ 11 (acyclic_not _ c.acyclic_causality), (k, (one_eventless, (one_repeated, tt)))))

pub structure_is : (z : Execution) → Formed z → AllKept (structure_rules z) ↔ (wfes (structure_of z) × Kept (rule 12 2 (Unordered z)))
structure_is z f = (λ k. (structure_formed z f k, k.1.1.0), λ (c, k). formed_structure z f c k)
