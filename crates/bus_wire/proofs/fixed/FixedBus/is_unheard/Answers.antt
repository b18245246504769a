use Rattle.std.proofs.Common.{◌==◌, ◌∙◌, ap, rules, length}
use Rattle.std.specs.List.{list_any}
use Rattle.std.proofs.lemmas.Option.{slice_get_read, slice_get_past}
use Rattle.bus_wire.proofs.Unheard.{numbers_tell, numbers_there}
use Rattle.bus_wire.proofs.fixed.FixedBus.is_unheard.Goals as goal

pub returns-then-asked-numbers : goal.returns-then-asked-numbers
returns-then-asked-numbers c =
    c.has.ensures
    ∙ ap (λ k. list_any (λ n. n == k) c.index-numbers-asked.result) c.steps_later.ensures
    ∙ numbers_tell c.args.self.now.fates c.args.below c.args.self.now.seats c.args.asked.now c.numbers-numbers.result.now c.index-numbers-asked.result _ c.numbers-numbers.ensures c.requires
    (slice_get_read c.numbers-numbers.result.now (length c.numbers-numbers.result.now) c.args.asked.now.place c.index-numbers-asked.result (search rules) c.if-asked-numbers.true c.index-numbers-asked.is)

pub returns-else-asked-numbers : goal.returns-else-asked-numbers
returns-else-asked-numbers c =
    absurd (numbers_there c.args.self.now.fates c.args.below c.args.self.now.seats c.args.asked.now c.numbers-numbers.result.now c.numbers-numbers.ensures c.requires
    (slice_get_past c.numbers-numbers.result.now c.args.asked.now.place (search rules)))
