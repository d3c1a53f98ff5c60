use Rattle.sheet.proofs.Responses.{whole}
use Rattle.std.proofs.Common.{rules}
use Rattle.sheet.proofs.respond.Goals as goal

pub returns : goal.returns
returns c = whole _ _ _ c.read_sheet-answer.ensures _ _ _ c.put_answer.ensures (search rules)
