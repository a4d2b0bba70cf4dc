use Rattle.std.proofs.Common.{◌≡◌, ◌+◌, min, length}
use Rattle.candidates.specs.Buffer.{Same}
use Rattle.candidates.proofs.draft.Draft.write.Given as goal

abbrev pub invariant-loop-byte : goal.invariant-loop-byte
invariant-loop-byte l = record {
  end : l.end ≡ min (length l.initial.self.bytes.now) (l.initial.self.len + l.byte-index);
  len : l.self.len ≡ l.initial.self.len;
  buffer : Same l.initial.self.bytes l.self.bytes;
}
