use Rattle.std.proofs.Common.{rules}
use Rattle.view.proofs.Checks.{end_inside, end_fits, offset_fits}
use Rattle.view.proofs.slot_view.Goals as goal

pub overflow_add-end : goal.overflow_add-end
overflow_add-end c = end_fits c.args.ports c.args.slots c.args.frame.now c.args.slot c.in-Ok.ensures.start c.in-Ok.ensures.size

pub offset_bounds-frame-part : goal.offset_bounds-frame-part
offset_bounds-frame-part c = offset_fits c.args.ports c.args.slots c.args.frame.now c.args.slot c.in-Ok.ensures.start c.in-Ok.ensures.size

pub slice_bounds-result-end : goal.slice_bounds-result-end
slice_bounds-result-end c = let inside = end_inside c.args.ports c.args.slots c.args.frame.now c.args.slot c.in-Ok.ensures.start c.in-Ok.ensures.size in search rules
