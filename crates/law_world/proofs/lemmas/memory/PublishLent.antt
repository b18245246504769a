-- A transfer of any queue is lent, in a world with endpoints of every kind.
use Rattle.std.proofs.Common.{◌≡◌, ◌≢◌, ℕ, suc, ◌*◌, ◌≤◌, nat_lt, if◌then◌else◌, List, length, Option, Some, ap, sym, subst, ◌∙◌, ⊎_elim, inr, arith}
use Rattle.std.proofs.lemmas.Bool.{cases_eq}
use Rattle.word_mem.specs.Memory.{Mem}
use Rattle.drv_table.specs.declared.content.Endpoint.{Endpoint}
use Rattle.drv_table.specs.declared.content.Command.{Command}
use Rattle.drv_table.specs.declared.content.Command.TheVariants as unfinished
use Rattle.drv_table.specs.declared.rows.DriverRow.{DriverRow}
use Rattle.drv_table.specs.declared.rows.DriverRow.TheVariants as rows
use Rattle.drv_table.specs.DriverContent.{DriverContent}
use Rattle.drv_table.specs.Parts.{Parts as DriverParts}
use Rattle.drv_table.specs.Commands.{events_of, links, command_row, linked_on, finished, advanced_by, advance}
use Rattle.drv_table.specs.Rows.{row_for, driver_row, after_driver_row}
use Rattle.claims_driver.specs.Leaving.{HasOwners}
use Rattle.claims_driver.specs.Owners.{runs_of_endpoint, runs_of_transfer}
use Rattle.law_structures.specs.lent_structures.Structures.{Structures, StructureSets}
use Rattle.law_ring.proofs.Joining.{all_beside}
use Rattle.law_driver_ring.specs.Inventory.{sorts_of}
use Rattle.claims_base.specs.Controller.{opening_base}
use Rattle.law_driver_ring.specs.TransferLaws.{lent_driver, items_of}
use Rattle.law_frames.specs.Met.{IsQueuePart}
use Rattle.law_queues.specs.fed_lends.ToLend.{IsToBeLent, lent_now}
use Rattle.law_queues.proofs.lemmas.fed_lends.Reports.{it_is_met}
use Rattle.law_queues.proofs.lemmas.fed_lends.Row.{lend_is, met_on}
use Rattle.law_driver_ring.specs.fed_queues.Places.{IsMet, AreMet}
use Rattle.law_queues.specs.lent_fronts.Stands.{parts_with, LeavesQueues}
use Rattle.law_queues.proofs.lemmas.lent_fronts.Row.{lend_stands, lend_is_asked}
use Rattle.law_world.proofs.lemmas.steps.lemmas.control_queues.Lends.{lend_keeps_queues}
use Rattle.law_descriptors.specs.queue_events.Events.{PartsStand}
use Rattle.law_queues.specs.released_queues.Fronts.{FrontsStand}
use Rattle.law_world.specs.memory.framed_memory.Now.{IsFramedNow}
use Rattle.law_world.proofs.lemmas.memory.lemmas.framed_memory.TransferLends.{lend_transfer_keeps_now}
use Rattle.law_driver.specs.queued_drivers.Queued.{queued, queued_parts, queued_made}
use Rattle.law_driver.specs.queued_drivers.Rows.{IsToldAlike}
use Rattle.law_driver.proofs.lemmas.queued_drivers.RowOwners.{queued_has_owners, queued_are_lent}
use Rattle.bus_world.specs.World.{World, driver_parts, controller_parts, driver_next}
use Rattle.law_world.specs.memory.Mixed.{QueuesGoOn, IsUnderWay, Standing, IsMixedAt}
use Rattle.law_world.specs.memory.Steps.{QueueStep, lends, IsMixedNext}
use Rattle.law_world.proofs.lemmas.memory.Next.{mixed_next}
use Rattle.law_world.proofs.lemmas.memory.QueueViews.{queued_driven, queued_runs, awaits_back}
use Rattle.law_world.proofs.lemmas.memory.RingBasis.{row_alike, told_row}

pub not_described : (d : DriverContent) (b : ℕ) (words : List ℕ) (e t count : ℕ) → d.command ≡ Some (unfinished.Publish b words) → d.command ≡ Some (unfinished.Iso e t count) → ⊥
not_described d b words e t count command is = never (sym command ∙ is)
  where
    never : ◌≡◌ {A = Option Command} (Some (unfinished.Publish b words)) (Some (unfinished.Iso e t count)) → ⊥
    never same = cc

not_chained : (d : DriverContent) (b : ℕ) (words : List ℕ) → d.command ≡ Some (unfinished.Publish b words) → d.command ≢ Some unfinished.Chain
not_chained d b words command is = never (sym command ∙ is)
  where
    never : ◌≡◌ {A = Option Command} (Some (unfinished.Publish b words)) (Some unfinished.Chain) → ⊥
    never same = cc

module _ (s : Standing) (w : World) (b : ℕ) (words : List ℕ) (k : IsMixedAt s w) (command : w.driver.command ≡ Some (unfinished.Publish b words)) (get : IsToBeLent (queued w.driver) w.memory b words) where
  abbrev p : DriverParts
  p = driver_parts w

  abbrev q : DriverParts
  q = queued_parts (driver_parts w)

  abbrev m : Mem
  m = w.memory

  abbrev told : DriverContent
  told = queued w.driver

  owners : HasOwners w.driver
  owners = k.now.framed.place.sound.owners

  none_made : w.driver.made ≡ 0
  none_made = sym (ap (λ (c : Option Command). queued_made c w.driver.made) command) ∙ get.made

  abbrev n : ℕ
  n = 32 * get.endpoint.queue

  abbrev now : StructureSets
  now = parts_with get s.parts

  -- ---- the row

  row_here : driver_row p ≡ rows.Lend
  row_here = ap (row_for p) command ∙ ap (command_row (unfinished.Publish b words)) none_made

  alike : IsToldAlike p rows.Lend
  alike = row_alike s w k rows.Lend row_here (not_chained w.driver b words command)

  -- its queues tell the same lend
  same : queued (driver_next w).driver ≡ lent_now told m
  same =
      ap (λ (row : DriverRow). queued (after_driver_row row p).driver) row_here ∙ ap (λ (r : DriverParts). r.driver) alike.same
      ∙ ap (λ (r : DriverParts). r.driver) (lend_is q b words get)

  -- ---- memory

  framed_then : IsFramedNow opening_base s.member s.recent s.descs now s.hand s.frame (controller_parts (driver_next w)) (driver_next w).driver
  framed_then =
      let asked = lend_is_asked told m b words s.parts get k.queues.queues.fed (queued_driven w.driver (sorts_of s.parts) k.now.framed.driven) in
      lend_transfer_keeps_now opening_base s.member s.recent s.descs s.parts s.hand s.frame (controller_parts w) w.driver get.number (runs_of_transfer get.transfer) (runs_of_endpoint get.endpoint) get.stage get.further k.now row_here
      (awaits_back w.driver m get.number (runs_of_transfer get.transfer) (runs_of_endpoint get.endpoint) get.stage get.further asked.0) asked.1

  -- ---- the queues

  fronts : FrontsStand told s.parts s.order s.out
  fronts e x here met = (k.queues.tails e x here met).stands

  head : IsQueuePart n (s.parts n)
  head = k.queues.sound get.transfer.endpoint get.endpoint get.here (it_is_met told m b words k.turns.turns.asynchronous get)

  leaves : LeavesQueues told m n s.near s.streams s.ends s.parts now s.order s.out
  leaves =
      lend_stands told m b words s.near s.streams s.ends s.parts s.order s.out get (queued_has_owners w.driver owners k.turns) k.now.framed.place.sound.stands k.now.framed.place.sound.shape
      k.turns.turns.asynchronous k.turns.turns.turns
      (queued_are_lent w.driver k.now.framed.place.lent (λ e t count is. absurd (not_described w.driver b words e t count command is)))
      (queued_driven w.driver (sorts_of s.parts) k.now.framed.driven) (queued_runs w.driver s.parts k.now.framed.extents) k.queues.queues fronts
      (λ e x here met. k.queues.controls.sorted e x here met.there) head

  part_then : (j : ℕ) → IsQueuePart j (s.parts j) → IsQueuePart j (now j)
  part_then j was =
      ⊎_elim (λ (own : j ≡ n). subst (λ (l : ℕ). IsQueuePart l (now l)) (sym own) leaves.stands.part)
      (λ (differs : j ≢ n).
      subst (λ (part : Structures). IsQueuePart j part)
      (sym (all_beside s.parts n (items_of told m (runs_of_transfer get.transfer) (runs_of_endpoint get.endpoint) get.stage get.further) j differs)) was) (cases_eq j n)

  met_before : (e : ℕ) (x : Endpoint) → IsMet (lent_now told m) e x → IsMet told e x
  met_before e x met = record { there = record { linked = met.there.linked; kept = met.there.kept }; near = met.near }

  sound_then : PartsStand (lent_now told m) now
  sound_then e x here met = part_then (32 * x.queue) (k.queues.sound e x here (met_before e x met))

  go_on : QueuesGoOn (lent_now told m) s.near s.streams s.ends now leaves.order leaves.out
  go_on = record {
    queues = leaves.stands.queues;
    sound = sound_then;
    tails = leaves.stands.tails k.queues.tails;
    controls =
        lend_keeps_queues told m b words s.near s.streams s.ends s.parts now s.order leaves.order s.out leaves.out get k.turns.turns.asynchronous head k.queues.queues leaves.stands.queues leaves.stands.behind
        k.queues.controls;
  }

  -- ---- the driver's content

  advance_is : advance (lent_driver w.driver m) ≡ lent_now w.driver m
  advance_is =
      let e = lent_driver w.driver m in
      let c : Command = unfinished.Publish b words in
      ap (advanced_by e) command
      ∙ ap (λ (i : ℕ). if nat_lt (suc i) (length (events_of c)) then record e { made = suc i } else (if links c then linked_on e c else finished e c)) none_made

  driver_is : (driver_next w).driver ≡ lent_now w.driver m
  driver_is = ap (λ (row : DriverRow). (after_driver_row row p).driver) row_here ∙ advance_is

  under_way_then : (after : Mem) → IsUnderWay (driver_next w).driver after s.member s.recent now (driver_next w).driver.command
  under_way_then after =
      let one : 1 ≤ 1 = omega arith in
      subst (λ (f : DriverContent). IsUnderWay f after s.member s.recent now f.command) (sym driver_is)
      (subst (λ (c : Option Command). IsUnderWay (lent_now w.driver m) after s.member s.recent now c) (sym command) (inr one))

  -- ---- the whole

  abbrev after_lend : Standing
  after_lend = record s { parts = now; order = leaves.order; out = leaves.out }

  its_step : QueueStep s w (driver_next w) after_lend
  its_step =
      let l = leaves.stands in
      lends b words get leaves.order leaves.out (told_row s w k rows.Lend row_here (not_chained w.driver b words command))
      (record { behind = l.behind; still = l.still; heads = l.heads; elements = l.elements })

  pub publish_lent : IsMixedNext s w (driver_next w)
  publish_lent =
      mixed_next s w k after_lend its_step framed_then (subst (λ (f : DriverContent). AreMet f s.member) (sym driver_is) (met_on w.driver m s.member k.ring))
      (subst (λ (f : DriverContent). QueuesGoOn f s.near s.streams s.ends now leaves.order leaves.out) (sym same) go_on) (under_way_then (driver_next w).memory)
