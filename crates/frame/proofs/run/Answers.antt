use Rattle.std.proofs.Common.{rules, arith, refl}
use Rattle.std.proofs.lemmas.Result.{IfOk-at_ok}
use Rattle.std.specs.Io.KnownBytes.{Appends}
use Rattle.frame.specs.Streams.{AppendsFront}
use Rattle.frame.proofs.Longest.{whole_sheet}
use Rattle.frame.proofs.Passed.{passed_ok, on_ok, on_err}
use Rattle.frame.proofs.run.Goals as goal

pub returns-clause-whole : goal.returns-clause-whole
returns-clause-whole g c =
    whole_sheet _ _ _ (Appends (g.W.Write.contents c.args.output.now) (g.W.Write.contents c.answer.new.output))
    (omega arith) (IfOk-at_ok _ (passed_ok _ _ _ _ c.in_ok-n.ensures.cases refl c.in_ok-n.ensures.variant) c.take_sheet.ensures.bytes)
    (on_ok _ _ c.in_ok-map_err.ensures.variant c.answer.ensures.whole)

pub returns-in_err-map_err-clause-left : goal.returns-in_err-map_err-clause-left
returns-in_err-map_err-clause-left g c =
    let front = whole_sheet _ _ _ (AppendsFront (g.W.Write.contents c.args.output.now) (g.W.Write.contents c.answer.new.output))
    (omega arith) (IfOk-at_ok _ (passed_ok _ _ _ _ c.in_ok-n.ensures.cases refl c.in_ok-n.ensures.variant) c.take_sheet.ensures.bytes)
    (on_err _ _ c.in_err-map_err.ensures.variant c.answer.ensures.front) in
    search rules
