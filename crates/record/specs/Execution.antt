-- An execution with its witness. Nothing here knows of bytes.
use Rattle.std.specs.Prelude.{ℕ}
use Rattle.record.specs.declared.Event.{Event}

-- so many items, and which each is
pub record Items (A : Type 0) : Type 0 where
  pub size : ℕ
  pub item : ℕ → A

pub record Pair : Type 0 where
  pub from : ℕ
  pub to : ℕ

pub record Instruction : Type 0 where
  pub processor : ℕ
  pub index : ℕ

-- class 0 is memory, class 1 a register
pub record Initial : Type 0 where
  pub processor : ℕ
  pub class : ℕ
  pub place : ℕ
  pub value : ℕ

pub record Execution : Type 0 where
  pub processors : ℕ
  pub events : Items Event
  pub causes : Items Pair
  pub locks : Items Instruction
  pub initials : Items Initial
  pub stores : Items ℕ
  pub lock_order : Items ℕ
  pub sources : Items Pair
  pub view : ℕ → Items ℕ
