use Rattle.std.proofs.Common.{◌≡◌, drop}
use Rattle.lines.specs.Lines.{Prints}
use Rattle.lines.proofs.Line.put_word.Given as goal

abbrev pub invariant-loop-byte : goal.invariant-loop-byte
invariant-loop-byte l = record {
  same : l.self.out.ghost_name ≡ l.initial.self.out.ghost_name;
  prints : Prints l.initial.self.out.now l.initial.self.at l.w l.self.out.now l.self.at (drop l.byte-index l.w);
}
