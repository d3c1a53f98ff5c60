use Rattle.std.proofs.Common.{rules}
use mathlib.Core.Path.{◌≡◌}
use lib.ListN.{replicate}
use Rattle.planes.proofs.Halves.{none_settled}
use Rattle.planes.specs.Favours.{favour_numbers}
use Rattle.planes.specs.declared.favours.Favour.TheVariants.{Unsettled}
use Rattle.split.proofs.Divided.{odds_listed, ends_low, reaches, splits}
use Rattle.split.proofs.split.Goals as goal

pub mate-requires : goal.mate-requires
mate-requires c = (odds_listed c.gather-k.ensures c.args.planes.ends.few, ends_low c.gather-k.ensures c.requires, c.requires.few)

pub settle-requires : goal.settle-requires
settle-requires c = (reaches c.gather-k.ensures c.mate.ensures c.requires c.args.planes.ends.few, none_settled 528)

pub returns : goal.returns
returns c =
    let zeros : favour_numbers (replicate 528 Unsettled) ≡ replicate 528 0 = none_settled 528 in
    let left = splits c.gather-k.ensures c.mate.ensures c.requires c.args.planes.ends.few (rw zeros at c.settle.ensures) c.mark.ensures in
    search rules
