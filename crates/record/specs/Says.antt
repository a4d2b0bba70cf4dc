-- What a record says: the execution that its bytes spell, section by section.
use Rattle.std.specs.Prelude.{ℕ, ◌+◌, List}
use Rattle.form.specs.Bytes.{num}
use Rattle.form.specs.Place.{count, entry_at, view_start}
use Rattle.record.specs.Execution.{Items, Pair, Instruction, Initial, Execution}
use Rattle.record.specs.declared.Event.{Event}

-- processor, kind, instruction index, place, value
abbrev pub event_at : List ℕ → ℕ → Event
event_at s at = record {
  processor = num 1 s at;
  kind = num 1 s (at + 1);
  index = num 2 s (at + 2);
  place = num 4 s (at + 4);
  value = num 4 s (at + 8);
}

abbrev pub pair_at : List ℕ → ℕ → Pair
pair_at s at = record { from = num 1 s at; to = num 1 s (at + 1) }

-- processor, zero, instruction index
abbrev pub instruction_at : List ℕ → ℕ → Instruction
instruction_at s at = record { processor = num 1 s at; index = num 2 s (at + 2) }

-- processor, class, zero, place, value
abbrev pub initial_at : List ℕ → ℕ → Initial
initial_at s at = record { processor = num 1 s at; class = num 1 s (at + 1); place = num 4 s (at + 4); value = num 4 s (at + 8) }

-- the entries of section k
abbrev pub entries_of : {A : Type 0} → List ℕ → ℕ → (ℕ → A) → Items A
entries_of s k read = record { size = count s k; item = λ i. read (entry_at s k i) }

abbrev pub execution_of : List ℕ → Execution
execution_of s = record {
  processors = num 1 s 1;
  events = entries_of s 2 (event_at s);
  causes = entries_of s 3 (pair_at s);
  locks = entries_of s 4 (instruction_at s);
  initials = entries_of s 5 (initial_at s);
  stores = entries_of s 6 (num 1 s);
  lock_order = entries_of s 7 (num 1 s);
  sources = entries_of s 8 (pair_at s);
  view = λ p. record { size = num 2 s (view_start s p); item = λ i. num 1 s (view_start s p + 2 + i) };
}
