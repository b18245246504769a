-- An open in the ring goes on, in a world with endpoints of every kind: its structures are lent, and the head of the ring leads to its queue head then.
use Rattle.std.proofs.Common.{◌≡◌, ℕ, Option, Some, subst, ⊎_elim}
use Rattle.drv_table.specs.declared.content.Command.{Command}
use Rattle.drv_table.specs.declared.content.Command.TheVariants as unfinished
use Rattle.law_queues.specs.open_laws.Lends.{IsOpenReady}
use Rattle.law_queues.specs.open_laws.Opens.{IsOpenLent}
use Rattle.bus_world.specs.World.{World, driver_next}
use Rattle.law_world.specs.memory.Mixed.{IsUnderWay, Standing, IsMixedAt}
use Rattle.law_world.specs.memory.Steps.{IsMixedNext}
use Rattle.law_world.proofs.lemmas.memory.RingLending.{lent_next}
use Rattle.law_world.proofs.lemmas.memory.RingLinking.{linked_next}

pub opening_mixed : (s : Standing) (w : World) (queue : ℕ) → IsMixedAt s w → w.driver.command ≡ Some (unfinished.Open queue) → IsMixedNext s w (driver_next w)
opening_mixed s w queue k opens =
    ⊎_elim (λ (r : IsOpenReady w.driver w.memory). lent_next s w k r) (λ (l : IsOpenLent w.driver s.member s.parts). linked_next s w k l)
    (subst (λ (c : Option Command). IsUnderWay w.driver w.memory s.member s.recent s.parts c) opens k.under_way)
