-- A list walked from its end, where each item stands for a set.
use Rattle.std.specs.Prelude.{ℕ, ◌<◌, ◌≡◌, List}
use Rattle.order.specs.Least.{Some}
use Rattle.rows.specs.Members.{In, Is}
use Rattle.rows.specs.Table.{Adds}
use Rattle.rows.specs.declared.Set.{Set}
use Rattle.record.specs.Execution.{Items}

-- the set of an event alone
abbrev pub Itself : ℕ → Set → Type 0
Itself e s = Is s (λ b. b ≡ e)

-- each item has a set by Of and a second one by To; u is t with the steps from an item's set to the later items', as far as its second has them
pub record Walked (Of To : ℕ → Set → Type 0) (l : Items ℕ) (t u : List ℕ) : Type 0 where
  pub here : ℕ → Set
  pub into : ℕ → Set
  pub said : (i : ℕ) → i < l.size → Of (l.item i) (here i) × To (l.item i) (into i)
  pub adds : Adds t u (λ a b. Some l.size (λ j. Some j (λ i. In (here i) a × (In (here j) b × In (into i) b))))
