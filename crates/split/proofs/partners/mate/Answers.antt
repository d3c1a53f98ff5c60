use Rattle.std.proofs.Common.{rules}
use mathlib.Core.Path.{◌≡◌}
use Rattle.split.proofs.Mated.{all_free}
use Rattle.split.proofs.Joined.{rest_start, rest_low, rest_on, rest_end}
use Rattle.split.proofs.partners.mate.Goals as goal

pub mate_all-pending-requires : goal.mate_all-pending-requires
mate_all-pending-requires c = (c.requires.0, c.requires.1, all_free)

pub loop-o-init : goal.loop-o-init
loop-o-init c =
    let same : c.into_iter-o-iterator.result.word ≡ c.args.table.now.multi_link = search rules in rw same (rest_start c.mate_all-pending.ensures.len)

pub mate_singles-requires : goal.mate_singles-requires
mate_singles-requires c = (rest_low c.loop-o.invariant _ c.in-Some.ensures.steps c.requires.2, c.mate_all-pending.ensures.pends.known)

pub loop-o-preserved : goal.loop-o-preserved
loop-o-preserved c = search (rules, rest_on c.loop-o.invariant c.next.new.self.word c.in-Some.ensures.steps c.requires.0 c.mate_all-pending.ensures c.requires.2)

pub returns : goal.returns
returns c = rest_end c.requires.0 c.mate_all-pending.ensures c.loop-o.invariant c.requires.2 c.in-None.ensures.steps.0
