-- What the walks over a reader share: the reader's type and laws at a lifetime, and the machine value of the bytes that it holds.
-- Assumes nothing.
use Prim.Native.Nat.{ℕ}
use mathlib.Core.List.{List}
use lib.ListN.{length}
use mir.Val.{Val}
use contract.Lifetimes.{Lfts}
use denote.RattleType.{RattleType}
use denote.Ref.{Bor, NamedLft}
use denote.Signature.{named_lft}
use denote.Slice.{slice_val}
use denote.Struct.Declared.{Declared}
use denote.Struct.Laws as LL
use denote.Struct.Values.{Values}
use Rattle.reader.specs.declared.Reader.{Reader}
use Rattle.reader.specs.contracts.Reader as reader
use Rattle.reader.proofs.Reader.TheLaws as reader-laws

-- the one lifetime of a function over a reader
abbrev pub only : Lfts 1 → NamedLft
only κs = named_lft 1 0 tt κs

abbrev pub Held : NamedLft → Declared
Held α = reader.the_type α

abbrev pub held : (α : NamedLft) → LL.Laws (Held α)
held α = reader-laws.the_laws α

abbrev pub Row : Lfts 1 → RattleType
Row κs = reader.the_row (only κs)

-- the fields' values, in their order
abbrev pub fields : (α : NamedLft) → Reader → Values (Held α).parts
fields α r = (r.src, (r.at, tt))

-- a lent slice as the machine has it: where it begins, and how long it is
abbrev pub word : Bor (List ℕ) → Val
word s = slice_val s.ref_ptr (length s.now)
