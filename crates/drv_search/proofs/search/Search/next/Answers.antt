use Rattle.drv_search.proofs.Steps.{deeper}
use Rattle.drv_search.proofs.search.Search.next.Goals as goal

pub next_place-requires-in-AtClass-clause-phase : goal.next_place-requires-in-AtClass-clause-phase
next_place-requires-in-AtClass-clause-phase g c = deeper c.args.self.now.phase c.args.self.now.level c.first_found-met.result.level c.first_found-met.ensures.not_above c.requires.phase
