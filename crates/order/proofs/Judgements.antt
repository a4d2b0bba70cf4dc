-- The judgement of a list of rules: two that it allows are one, it is 0 exactly if every rule is kept, and it is made rule after rule.
use Prim.Native.Nat.{ℕ, ◌≤◌}
use mathlib.Core.Path.{◌≡◌, refl, sym, ap, ap₂, ◌∙◌, subst}
use mathlib.Core.Logic.{inl, inr}
use mathlib.Core.List.{List, [], ◌∷◌, ◌++◌}
use native.Mathlib.Omega.{arith}
use lib.ListN.{length, drop}
use Rattle.std.specs.Prelude.{Some}
use Rattle.order.specs.Rule.{Rule, Shows, Kept, Judged, AllKept, Numbered}
use Rattle.order.specs.Evidence.{Written, Ruled, Given}
use Rattle.order.proofs.Dictionaries.{firstly_unique}

pub shows_unique : (q : Rule) (d e : List ℕ) → Shows q d → Shows q e → d ≡ e
shows_unique q d e (v, p, x) (w, r, y) = x ∙ ap q.shown (firstly_unique q.Breaks v w p r) ∙ sym y

-- two judgements that a list of rules allows are one
pub judged_unique : (qs : List Rule) (a b : ℕ) (d e : List ℕ) → Judged qs a d → Judged qs b e → (a ≡ b) × (d ≡ e)
unfolding Judged
judged_unique [] a b d e p q = (p.0 ∙ sym q.0, p.1 ∙ sym q.1)
judged_unique (r ∷ rs) a b d e (inl p) (inl q) = (p.1 ∙ sym q.1, shows_unique r d e p.0 q.0)
judged_unique (r ∷ rs) a b d e (inl p) (inr q) = absurd (q.0 p.0.0 p.0.1.has)
judged_unique (r ∷ rs) a b d e (inr p) (inl q) = absurd (p.0 q.0.0 q.0.1.has)
judged_unique (r ∷ rs) a b d e (inr p) (inr q) = judged_unique rs a b d e p.1 q.1

-- answer 0: every rule is kept
pub judged_zero : (qs : List Rule) (e : List ℕ) → Numbered qs → Judged qs 0 e → AllKept qs
unfolding Judged
judged_zero [] e n p = tt
judged_zero (q ∷ qs) e n (inl p) = let z = p.1 in let o = n.0 in absurd (omega arith)
judged_zero (q ∷ qs) e n (inr p) = (p.0, judged_zero qs e n.1 p.1)

pub zero_judged : (qs : List Rule) (a : ℕ) (e : List ℕ) → AllKept qs → Judged qs a e → (a ≡ 0) × (e ≡ [])
unfolding Judged
zero_judged [] a e k p = p
zero_judged (q ∷ qs) a e k (inl p) = absurd (k.0 p.0.0 p.0.1.has)
zero_judged (q ∷ qs) a e k (inr p) = zero_judged qs a e k.1 p.1

-- rules after others: where one of the first is broken, the judgement is theirs; where all are kept, that of the rest
pub judged_more : (qs rs : List Rule) (a : ℕ) (e : List ℕ) → (a ≡ 0 → ⊥) → Judged qs a e → Judged (qs ++ rs) a e
unfolding Judged
judged_more [] rs a e g p = absurd (g p.0)
judged_more (q ∷ qs) rs a e g (inl p) = inl p
judged_more (q ∷ qs) rs a e g (inr p) = inr (p.0, judged_more qs rs a e g p.1)

pub judged_then : (qs rs : List Rule) (a : ℕ) (e : List ℕ) → AllKept qs → Judged rs a e → Judged (qs ++ rs) a e
unfolding Judged
judged_then [] rs a e k p = p
judged_then (q ∷ qs) rs a e k p = inr (k.0, judged_then qs rs a e k.1 p)

-- the judgement goes on behind rules that are kept
pub judged_behind : (qs rs : List Rule) (a : ℕ) (e : List ℕ) → AllKept qs → Judged (qs ++ rs) a e → Judged rs a e
unfolding Judged
judged_behind [] rs a e k j = j
judged_behind (q ∷ qs) rs a e k (inl s) = absurd (k.0 s.0.0 s.0.1.has)
judged_behind (q ∷ qs) rs a e k (inr j) = judged_behind qs rs a e k.1 j.1

-- no rule has the number a
abbrev pub Otherwise : ℕ → List Rule → Type 0
Otherwise a [] = Unit {0}
Otherwise a (q ∷ qs) = (a ≡ q.number → ⊥) × Otherwise a qs

-- rules that do not have the number of the answer are kept
pub judged_kept : (qs rs : List Rule) (a : ℕ) (e : List ℕ) → Otherwise a qs → Judged (qs ++ rs) a e → AllKept qs
unfolding Judged
judged_kept [] rs a e o j = tt
judged_kept (q ∷ qs) rs a e o (inl j) = absurd (o.0 j.1)
judged_kept (q ∷ qs) rs a e o (inr j) = (j.0, judged_kept qs rs a e o.1 j.1)

-- ---- a check, rule after rule
pub rule_shown : (q : Rule) (qs : List Rule) (b a : List ℕ) (k : ℕ) → Ruled q b a (Some k) → Given (Judged (q ∷ qs)) b a q.number k
unfolding Judged
rule_shown q qs b a k (e, s, l, w) = (e, inl (s, refl), w)

pub given_next : (q : Rule) (qs : List Rule) (b a : List ℕ) (n k : ℕ) → Kept q → Given (Judged qs) b a n k → Given (Judged (q ∷ qs)) b a n k
unfolding Judged
given_next q qs b a n k f (e, j, w) = (e, inr (f, j), w)

pub given_none : (b : List ℕ) → Given (Judged []) b b 0 0
unfolding Judged
given_none b = ([], (refl, refl), (refl, refl))

-- two results that a judgement allows are one
pub given_unique : (J : ℕ → List ℕ → Type 0) → ((a b : ℕ) (d e : List ℕ) → J a d → J b e → (a ≡ b) × (d ≡ e))
    → (before x y : List ℕ) (a b k l : ℕ) → Given J before x a k → Given J before y b l → (a ≡ b) × (k ≡ l) × (x ≡ y)
given_unique J u before x y a b k l (d, p, (kd, xd)) (e, q, (le, ye)) =
    let (ab, de) = u a b d e p q in
    let kl : k ≡ l = kd ∙ ap length de ∙ sym le in
    (ab, kl, xd ∙ ap₂ ◌++◌ de (ap (λ (z : ℕ). drop z before) kl) ∙ sym ye)

-- no evidence: nothing is written
written_none : (e b a : List ℕ) (k : ℕ) → e ≡ [] → Written e b a k → a ≡ b
written_none [] b a k q (x, y) = y ∙ ap (λ (j : ℕ). drop j b) x
written_none (n ∷ e) b a k q w = let l : length (n ∷ e) ≡ 0 = ap length q in absurd (omega arith)

-- a buffer that is as it was has room as before
pub long_from : (b c : List ℕ) → c ≡ b → 65 ≤ length b → 65 ≤ length c
long_from b c e h = rw e h

-- ---- rules after others
module _ (qs rs : List Rule) (b a : List ℕ) where
  -- one of the first is broken
  pub given_stop : (n k : ℕ) → (n ≡ 0 → ⊥) → Given (Judged qs) b a n k → Given (Judged (qs ++ rs)) b a n k
  given_stop n k g (e, j, w) = (e, judged_more qs rs n e g j, w)

  -- all of the first are kept, and nothing is written
  module _ (numbered : Numbered qs) (n k : ℕ) (z : n ≡ 0) (g : Given (Judged qs) b a n k) where
    pub given_kept : AllKept qs
    given_kept = judged_zero qs g.0 numbered (subst (λ (x : ℕ). Judged qs x g.0) z g.1)

    pub given_same : a ≡ b
    given_same = written_none g.0 b a k (zero_judged qs n g.0 given_kept g.1).1 g.2

    pub given_on : (c : List ℕ) (m l : ℕ) → Given (Judged rs) a c m l → Given (Judged (qs ++ rs)) b c m l
    given_on c m l h = go (subst (λ (x : List ℕ). Given (Judged rs) x c m l) given_same h)
      where
        go : Given (Judged rs) b c m l → Given (Judged (qs ++ rs)) b c m l
        go (e, j, w) = (e, judged_then qs rs m e given_kept j, w)
