use Rattle.std.proofs.Common.{rules}
use Rattle.sheet.proofs.Responses.{built_yes, built_no}
use Rattle.sheet.proofs.build_loads.Goals as goal

pub returns-in_err-build : goal.returns-in_err-build
returns-in_err-build c = built_no _ _ _ _ _ c.requires c.in_err-build.field-0.0 _ _ (search rules) (search rules)

pub returns : goal.returns
returns c = built_yes _ _ _ _ _ c.requires _ c.in_ok-build.field-0 (search rules) (search rules) (search rules)
