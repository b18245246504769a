-- While a get, a put or a request is lent and published, each event of the driver leaves its world one with endpoints of every kind.
use Rattle.std.proofs.Common.{◌≡◌, ℕ, ◌≤◌, List, Option, Some, subst, ⊎_elim}
use Rattle.drv_table.specs.declared.content.Command.{Command}
use Rattle.drv_table.specs.declared.content.Command.TheVariants as unfinished
use Rattle.law_queues.specs.fed_lends.ToLend.{IsToBeLent}
use Rattle.law_driver.specs.queued_drivers.Queued.{queued}
use Rattle.bus_world.specs.World.{World, driver_next}
use Rattle.law_world.specs.memory.Mixed.{IsUnderWay, Standing, IsMixedAt}
use Rattle.law_world.specs.memory.Steps.{IsMixedNext}
use Rattle.law_world.proofs.lemmas.memory.PublishLent.{publish_lent}
use Rattle.law_world.proofs.lemmas.memory.PublishStored.{publish_stored}

pub publish_mixed : (s : Standing) (w : World) (b : ℕ) (words : List ℕ) → IsMixedAt s w → w.driver.command ≡ Some (unfinished.Publish b words) → IsMixedNext s w (driver_next w)
publish_mixed s w b words k command =
    ⊎_elim (λ (get : IsToBeLent (queued w.driver) w.memory b words). publish_lent s w b words k command get)
    (λ (made : 1 ≤ w.driver.made). publish_stored s w b words k command made)
    (subst (λ (c : Option Command). IsUnderWay w.driver w.memory s.member s.recent s.parts c) command k.under_way)
