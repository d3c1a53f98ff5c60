use native.Mathlib.Omega.{arith}
use mathlib.Core.Path.{refl}
use Rattle.planes.proofs.Stored.{blank}
use Rattle.planes.proofs.Counts.{block_ends}
use Rattle.schedule.proofs.Tabled.{tables_of}
use Rattle.schedule.proofs.Filled.{levels_low, levels_told, levels_is, cells_room, loaded_block, frame_blank, all_are_settled, all_filled}
use Rattle.schedule.proofs.fill.Goals as goal

pub unwrap-m-requires : goal.unwrap-m-requires
unwrap-m-requires c = rw (levels_told c.requires c.levels_of.ensures) refl

pub store_list-requires : goal.store_list-requires
store_list-requires c = let few = c.requires.listed.few in (omega arith, blank, cells_room c.requires)

pub invariant_of-planes : goal.invariant_of-planes
invariant_of-planes c =
    let level = levels_is c.requires c.levels_of.ensures c.unwrap-m.ensures in
    record { ends = block_ends (loaded_block c.requires level c.flows.ensures c.store_list.ensures) }

pub block-requires : goal.block-requires
block-requires c =
    let level = levels_is c.requires c.levels_of.ensures c.unwrap-m.ensures in
    let table = c.tabulate.ensures in
    let low = levels_low c.requires in (
      omega (arith, level),
      tables_of c.requires.listed table.0 table.1 c.flows.ensures,
      loaded_block c.requires level c.flows.ensures c.store_list.ensures,
      frame_blank c.requires level (c.fill.ensures.after (λ y e. e)),
    )

pub returns : goal.returns
returns c =
    let level = levels_is c.requires c.levels_of.ensures c.unwrap-m.ensures in (
      all_are_settled c.requires level c.flows.ensures c.store_list.ensures c.block.ensures.0,
      all_filled c.requires level c.flows.ensures c.store_list.ensures c.tabulate.ensures.0 c.block.ensures.1,
    )
