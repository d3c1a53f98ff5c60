use mathlib.Core.Path.{◌∙◌}
use Rattle.std.proofs.Common.{rules}
use Rattle.checks.proofs.Links.{input_least, output_least, link_least, input_told, output_told, link_told, low_told}
use Rattle.checks.proofs.reservations.Reservations.flow.Goals as goal

pub overflow_sub-output : goal.overflow_sub-output
overflow_sub-output c = output_least c.args.self.now.fits c.requires (c.from-output.ensures ∙ c.numbers_of-numbers.ensures.output)

pub overflow_sub-result : goal.overflow_sub-result
overflow_sub-result c = input_least c.args.self.now.fits c.requires (c.from.ensures ∙ c.numbers_of-numbers.ensures.input)

pub overflow_sub-result-2 : goal.overflow_sub-result-2
overflow_sub-result-2 c = link_least c.args.self.now.fits c.requires (c.from-2.ensures ∙ c.numbers_of-numbers.ensures.link)

pub returns-clause-input : goal.returns-clause-input
returns-clause-input c = let told = input_told c.args.self.now.list.now c.args.f (c.from.ensures ∙ c.numbers_of-numbers.ensures.input) in search rules

pub returns-clause-output : goal.returns-clause-output
returns-clause-output c = output_told c.args.self.now.fits c.requires (c.from-output.ensures ∙ c.numbers_of-numbers.ensures.output)

pub returns-clause-link : goal.returns-clause-link
returns-clause-link c =
    let told = link_told c.args.self.now.list.now c.args.f (c.from-output.ensures ∙ c.numbers_of-numbers.ensures.output) (c.from-2.ensures ∙ c.numbers_of-numbers.ensures.link) in search rules

pub returns-clause-low : goal.returns-clause-low
returns-clause-low c =
    let numbers = c.numbers_of-numbers.ensures in
    let low = low_told c.args.self.now.fits c.requires (c.from.ensures ∙ numbers.input) (c.from-output.ensures ∙ numbers.output) (c.from-2.ensures ∙ numbers.link) in
    search rules
