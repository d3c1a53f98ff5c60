use Rattle.calls.specs.Sides.{side_of}
use Rattle.entries.specs.Usable.{WordsTo}
use Rattle.entries.proofs.usable.fill_words.Given as goal

abbrev pub invariant-loop-f : goal.invariant-loop-f
invariant-loop-f l = WordsTo (side_of l.side) l.of.list.now l.f l.words
