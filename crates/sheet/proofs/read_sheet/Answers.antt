use Rattle.std.proofs.Common.{rules}
use Rattle.sheet.proofs.Responses.{sheet_long, sheet_refused, sheet_built}
use Rattle.sheet.proofs.read_sheet.Goals as goal

pub returns-then-sheet-gt-SHEET_MOST : goal.returns-then-sheet-gt-SHEET_MOST
returns-then-sheet-gt-SHEET_MOST c = search (rules, sheet_long)

pub returns-in_err-asked : goal.returns-in_err-asked
returns-in_err-asked c = sheet_refused _ _ _ _ c.if-sheet-gt-SHEET_MOST.false c.in_err-asked.ensures.asked (search rules)

pub returns : goal.returns
returns c = sheet_built _ _ _ _ _ _ _ c.if-sheet-gt-SHEET_MOST.false c.in_ok-asked.ensures.asked c.build_loads.ensures
