use Rattle.std.proofs.Common.{◌≤◌, length}
use Rattle.candidates.specs.Buffer.{Same}
use Rattle.candidates.proofs.draft.Draft.write_list.Given as goal

abbrev pub invariant-loop-item : goal.invariant-loop-item
invariant-loop-item g l = record {
  to : (l.from ≤ l.to) × (l.to ≤ length l.self.bytes.now);
  buffer : Same l.initial.self.bytes l.self.bytes;
}

abbrev pub invariant-loop-byte : goal.invariant-loop-byte
invariant-loop-byte g l = record {
  to : (l.from ≤ l.to) × (l.to ≤ length l.self.bytes.now);
  buffer : Same l.initial.self.bytes l.self.bytes;
}
