-- The listing as it is written: the verdict, and behind it, where the answer is 0 or 24 to 27, a line for each event.
use Prim.Native.Nat.{ℕ, zero, suc, ◌+◌, ◌*◌, ◌<◌, ◌≤◌}
use mathlib.Core.Path.{◌≡◌, refl, sym, ap, ◌∙◌}
use mathlib.Core.Logic.{inl, inr}
use mathlib.Core.List.{List, [], ◌∷◌, ◌++◌}
use native.Mathlib.Omega.{arith}
use lib.ListN.{length, take, get_or}
use lib.Seq.{length-take-le}
use Rattle.order.specs.Least.{Counted}
use Rattle.order.proofs.Numbers.{counted_some}
use Rattle.rows.specs.Table.{HasRows, rel}
use Rattle.rows.proofs.Table.{dec_rel}
use Rattle.lent.specs.Put.{PutTo}
use Rattle.lent.proofs.Puts.{put_length, to_written}
use Rattle.form.specs.Bytes.{num}
use Rattle.form.specs.Place.{start, count}
use Rattle.record.specs.Says.{execution_of}
use Rattle.record.proofs.Formings.{formed}
use Rattle.model.specs.Validity.{Answers}
use Rattle.judge.specs.Checked.{Checked}
use Rattle.table.specs.Tabled.{Filled, Tabled}
use Rattle.listing.specs.Listing.{verdict, event_lines, Ordered, Listed}
use Rattle.listing.proofs.Texts.{to_then}
use Rattle.listing.proofs.Lines.{verdict_length}
use Rattle.listing.proofs.Telling.{ordered_right, table_filled, evidence_front, counts_of}

-- ---- the counts of the rows of a table

each_of : (P : ℕ → ℕ → Type 0) → ((j : ℕ) → (r : ℕ) × P j r) → (n : ℕ) → (cs : List ℕ) × (length cs ≡ n) × ((j : ℕ) → j < n → P j (get_or cs j 0))
each_of P f zero = ([], refl, λ j l. absurd (omega arith))
each_of P f (suc n) = go (each_of (λ j. P (suc j)) (λ j. f (suc j)) n)
  where
    go : (cs : List ℕ) × (length cs ≡ n) × ((j : ℕ) → j < n → P (suc j) (get_or cs j 0))
        → (cs : List ℕ) × (length cs ≡ suc n) × ((j : ℕ) → j < suc n → P j (get_or cs j 0))
    go (cs, e, g) = ((f 0).0 ∷ cs, ap suc e, pick)
      where
        pick : (j : ℕ) → j < suc n → P j (get_or ((f 0).0 ∷ cs) j 0)
        pick zero l = (f 0).1
        pick (suc j) l = g j (omega arith)

row_counts : (t : List ℕ) (n : ℕ) → (cs : List ℕ) × (length cs ≡ n) × ((e : ℕ) → e < n → Counted 64 (rel t e) (get_or cs e 0))
row_counts t n = each_of (λ e r. Counted 64 (rel t e) r) (λ e. counted_some 64 (rel t e) (dec_rel t e)) n

-- the verdict of s stands at the front of a buffer, and ends at z
pub record Told (s b m : List ℕ) (a z : ℕ) : Type 0 where
  pub e : List ℕ
  pub answers : Answers s a e
  pub few : length e ≤ 65
  pub long : 2048 ≤ length b
  pub put : PutTo b 0 (verdict a e) m z

-- the check has left its evidence in a buffer of 65 entries, and the verdict is written
module _ (s v w : List ℕ) (a k : ℕ) (lv : length v ≡ 65) (lw : length w ≡ 65) where
  evidence_told : Checked s v w a k → (k ≤ 65) × Answers s a (take k w)
  evidence_told (inl c) = let l = c.0 in absurd (omega arith)
  evidence_told (inr (l, (e, j, h))) = let (f, i) = evidence_front e v w k lv lw h in (f, rw i j)

  pub verdict_told : Checked s v w a k → (b m : List ℕ) (z : ℕ) → 2048 ≤ length b → PutTo b 0 (verdict a (take k w)) m z → Told s b m a z
  verdict_told h b m z long put =
      let (l, j) = evidence_told h in
      record { e = take k w; answers = j; few = omega (arith, length-take-le k w (omega arith)); long = long; put = put }

module _ (s b m : List ℕ) (a at : ℕ) (v : Told s b m a at) where
  abbrev front : List ℕ
  front = verdict a v.e

  -- no lines of events
  pub listed_short : (Ordered a → ⊥) → Listed s b m at
  listed_short g =
      inr (v.long, (front, record { a = a; e = v.e; answers = v.answers; is = inr (g, refl) }, to_written b m front at v.put))

  -- the order table is written, of n events
  module _ (o : Ordered a) (t u : List ℕ) (d n : ℕ) (lt : length t ≡ 64) (tabled : Tabled s t u d) (is : n ≡ num 2 s 2) where
    size_is : n ≡ (execution_of s).events.size
    unfolding count start
    size_is = is

    filled : Filled (execution_of s) t u
    filled = table_filled s a v.e v.answers o t u d (omega arith) tabled

    pub events_room : HasRows u n × (n ≤ 64) × (at + 18 * n ≤ length m)
    events_room =
        let i = size_is in
        let h = (formed s (ordered_right s a v.e v.answers o)).events.within in
        let e = filled.same in
        let (p, z) = v.put in
        let f = v.few in
        let l = v.long in
        (omega arith, omega arith, omega (arith, verdict_length a v.e, put_length b m front 0 p))

    pub listed_whole : (c : List ℕ) (z : ℕ)
        → ((cs : List ℕ) → n ≡ length cs → ((e : ℕ) → e < n → Counted 64 (rel u e) (get_or cs e 0)) → PutTo m at (event_lines 0 cs) c z) → Listed s b c z
    listed_whole c z f =
        let (cs, e, g) = row_counts u n in
        let p = to_then b m c front (event_lines 0 cs) 0 at z v.put (f cs (sym e) g) in
        let j = counts_of (execution_of s) (formed s (ordered_right s a v.e v.answers o)) t u cs filled (e ∙ size_is) (λ x l. g x (rw size_is l)) in
        inr (
          v.long,
          (
            front ++ event_lines 0 cs,
            record { a = a; e = v.e; answers = v.answers; is = inl (o, (cs, j, refl)) },
            to_written b c (front ++ event_lines 0 cs) z p,
          ),
        )
