-- The side of a frame, as a call is told it.
use Rattle.rules.specs.Flows.{Side, input, output}
use Rattle.calls.specs.declared.Side as told
use Rattle.calls.specs.declared.Side.TheVariants.{Input, Output}

abbrev pub side_of : told.Side → Side
side_of Input = input
side_of Output = output
