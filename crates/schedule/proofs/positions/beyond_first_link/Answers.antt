use native.Mathlib.Omega.{arith}
use borrow.Author.Tests.{eq-eqb, ne_eqb}
use Rattle.schedule.proofs.positions.beyond_first_link.Goals as goal

pub returns-then-link-eq0 : goal.returns-then-link-eq0
returns-then-link-eq0 c = (rw (eq-eqb _ _ c.if-link-eq0.true), omega arith)

pub returns-else-link-eq0 : goal.returns-else-link-eq0
returns-else-link-eq0 c = (rw (ne_eqb _ _ c.if-link-eq0.false), omega arith)
