use Rattle.std.proofs.Common.{arith}
use Rattle.frame.proofs.Moves.{takes_more}
use Rattle.frame.proofs.take_sheet.Goals as goal

pub returns-in_err-skip_rest-clause-most : goal.returns-in_err-skip_rest-clause-most
returns-in_err-skip_rest-clause-most g c = takes_more _ _ _ _ _ _ c.fill.ensures.most c.skip_rest.ensures (omega arith)

pub returns-in_ok-skip_rest-clause-most : goal.returns-in_ok-skip_rest-clause-most
returns-in_ok-skip_rest-clause-most g c = takes_more _ _ _ _ _ _ c.fill.ensures.most c.skip_rest.ensures (omega arith)
