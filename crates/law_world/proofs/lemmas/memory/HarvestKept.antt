-- A row of a queue leaves a world mixed, where no command is unfinished: what it leaves of memory and of the queues, as they tell it.
use Rattle.std.proofs.Common.{◌≡◌, ◌*◌, None, sym, subst, ◌∙◌}
use Rattle.law_world.proofs.Common.{none_some}
use Rattle.drv_table.specs.declared.content.Command.TheVariants as unfinished
use Rattle.drv_table.specs.DriverContent.{DriverContent}
use Rattle.claims_driver.specs.Owners.{views_of}
use Rattle.claims_driver.specs.Leaving.{HasOwners}
use Rattle.claims_driver.specs.LentRuns.{AreLent}
use Rattle.law_structures.specs.lent_structures.Structures.{Tells}
use Rattle.law_driver_ring.specs.Inventory.{sorts_of, IsDriven}
use Rattle.law_driver_ring.specs.Extents.{AreInRuns}
use Rattle.claims_base.specs.Controller.{opening_base}
use Rattle.law_driver.specs.in_place.InPlace.{IsInPlace}
use Rattle.law_driver_ring.specs.fed_queues.Places.{AreMet}
use Rattle.law_queues.specs.fed_lends.Commands.{QueuesStand}
use Rattle.law_queues.specs.released_queues.Fronts.{FrontsStand}
use Rattle.law_queues.specs.standing_fronts.Reaching.{Reaches}
use Rattle.law_queues.specs.standing_fronts.Tails.{TailsStand}
use Rattle.law_queues.proofs.lemmas.idle_tails.Reaching.{sound_queues_reach}
use Rattle.law_world.specs.steps.control_queues.Controls.{ControlsStand}
use Rattle.law_driver.specs.queued_drivers.Queued.{queued, QueuesTakeTurns}
use Rattle.law_driver.proofs.lemmas.queued_drivers.RowOwners.{queued_has_owners, queued_are_lent}
use Rattle.law_driver.proofs.lemmas.queued_drivers.RowTurns.{rows_keep_queues}
use Rattle.law_driver.proofs.lemmas.queued_drivers.RowEvents.{idle_told}
use Rattle.law_descriptors.specs.queue_events.Events.{PartsStand}
use Rattle.law_descriptors.specs.PartLaws.{IsDescribing}
use Rattle.law_world.specs.memory.framed_memory.Now.{IsFramedNow}
use Rattle.bus_world.specs.World.{World, controller_parts, driver_parts, driver_next}
use Rattle.law_world.specs.memory.Mixed.{Standing, IsUnderWay, IsMixedAt}
use Rattle.law_world.specs.memory.Steps.{QueueStep, IsMixedNext}
use Rattle.law_world.proofs.lemmas.memory.Next.{mixed_next}
use Rattle.law_world.proofs.lemmas.memory.QueueViews.{queued_driven, queued_runs, queues_told}
use Rattle.law_world.proofs.lemmas.memory.CommandTails.{idle_tail}

-- ---- no command is unfinished

pub idle_lent : (d : DriverContent) → d.command ≡ None → AreLent d → AreLent (queued d)
idle_lent d idle lent = queued_are_lent d lent (λ e t count is. absurd (none_some (unfinished.Iso e t count) (sym idle ∙ is)))

-- ---- what is known before the row

module _ (s : Standing) (w : World) (k : IsMixedAt s w) where
  pub owners_of : HasOwners (queued w.driver)
  owners_of = queued_has_owners w.driver k.now.framed.place.sound.owners k.turns

  pub describes : IsDescribing w.driver s.descs s.parts
  describes = record { owners = k.now.framed.place.sound.owners; driven = k.now.framed.driven; described = k.now.framed.described }

  pub tells_of : Tells w.memory s.parts
  tells_of = queues_told w.driver w.memory s.descs s.parts describes k.now.framed.runs.ring.tells

  pub driven_of : IsDriven (views_of (queued w.driver)) (sorts_of s.parts)
  driven_of = queued_driven w.driver (sorts_of s.parts) k.now.framed.driven

  pub runs_of : AreInRuns (views_of (queued w.driver)) s.parts
  runs_of = queued_runs w.driver s.parts k.now.framed.extents

  pub fronts_of : FrontsStand (queued w.driver) s.parts s.order s.out
  fronts_of e x here met = (k.queues.tails e x here met).stands

-- ---- what it leaves

pub record IsIdleNext (s t : Standing) (w : World) : Type 0 where
  pub step : QueueStep s w (driver_next w) t
  pub idle : (driver_next w).driver.command ≡ None
  pub now : IsFramedNow opening_base t.member t.recent t.descs t.parts t.hand t.frame (controller_parts (driver_next w)) (driver_next w).driver
  pub ring : AreMet (driver_next w).driver t.member
  pub queues : QueuesStand (queued (driver_next w).driver) t.near t.streams t.ends t.parts t.order t.out
  pub sound : PartsStand (queued (driver_next w).driver) t.parts
  pub fronts : FrontsStand (queued (driver_next w).driver) t.parts t.order t.out
  pub controls : ControlsStand (queued (driver_next w).driver) t.parts t.order t.out

module _ (s t : Standing) (w : World) (k : IsMixedAt s w) (n : IsIdleNext s t w) where
  abbrev new : DriverContent
  new = (driver_next w).driver

  turns : QueuesTakeTurns new
  turns = rows_keep_queues (driver_parts w) k.now.framed.place.sound.owners k.turns

  place : IsInPlace (driver_next w).memory new
  place = n.now.framed.place

  idle : (queued new).command ≡ None
  idle = idle_told new n.idle

  tails : TailsStand (queued new) t.parts t.order t.out
  tails e x here met =
      subst (Reaches (queued new) (t.parts (32 * x.queue)) (t.order (32 * x.queue)) (t.out (32 * x.queue)) e x) (sym (idle_tail (queued new) e x idle))
      (sound_queues_reach (queued new) t.parts t.order t.out idle (queued_has_owners new place.sound.owners turns) (idle_lent new n.idle place.lent) turns.turns n.queues.fed n.queues.last n.queues.out_are n.fronts e x here met
      (n.sound e x here met))

  under_way : IsUnderWay new (driver_next w).memory t.member t.recent t.parts new.command
  under_way = subst (IsUnderWay new (driver_next w).memory t.member t.recent t.parts) (sym n.idle) tt

  pub idle_mixed : IsMixedNext s w (driver_next w)
  idle_mixed = mixed_next s w k t n.step n.now n.ring (record { queues = n.queues; sound = n.sound; tails = tails; controls = n.controls }) under_way
