-- The structures of an accepted open of an interrupt endpoint are lent: the world goes on, and the open waits for its first store.
use Rattle.std.proofs.Common.{◌≡◌, ◌≢◌, ℕ, ◌*◌, false, Option, Some, ap, sym, subst, ◌∙◌, inr}
use Rattle.law_common.proofs.Numbers.{same_blocks}
use Rattle.law_world.proofs.Common.{none_some}
use Rattle.mem_runs.specs.Book.{Book, holding, lend_taken}
use Rattle.drv_table.specs.declared.content.Command.{Command}
use Rattle.drv_table.specs.declared.content.Command.TheVariants as unfinished
use Rattle.drv_table.specs.declared.rows.DriverRow.{DriverRow}
use Rattle.drv_table.specs.declared.rows.DriverRow.TheVariants as rows
use Rattle.drv_table.specs.DriverContent.{DriverContent}
use Rattle.drv_table.specs.Words.{dummy_qtd}
use Rattle.drv_table.specs.Parts.{Parts}
use Rattle.drv_table.specs.Rows.{driver_row, after_driver_row}
use Rattle.law_driver.specs.run_owners.Due.{IsDue}
use Rattle.claims_driver.specs.Leaving.{HasOwners}
use Rattle.law_driver.proofs.lemmas.run_owners.Reasons.{each_event_is_due}
use Rattle.law_structures.specs.lent_structures.Structures.{StructureSets, QueueHead, Element, put}
use Rattle.law_structures.proofs.lemmas.lent_structures.Names.{put_beside}
use Rattle.law_driver_ring.specs.Inventory.{sorts_of}
use Rattle.claims_base.specs.Controller.{opening_base}
use Rattle.law_driver_ring.specs.fed_queues.Places.{AreMet}
use Rattle.law_frames.specs.Met.{IsQueuePart}
use Rattle.law_descriptors.specs.queue_events.Events.{PartsStand}
use Rattle.law_world.specs.memory.framed_memory.Chained.{chained_queue, chained_parts, IsChainLent, ChainIsLent}
use Rattle.law_world.proofs.lemmas.memory.lemmas.framed_memory.ChainedLent.{driver_begun, chain_lends}
use Rattle.law_queues.specs.open_laws.Queues.{IsOpenToLend, IsOpenThere, open_lent}
use Rattle.law_queues.proofs.lemmas.open_laws.LentQueues.{open_lend_is_made}
use Rattle.law_world.specs.steps.control_queues.Queues.{IsOpenLentWhole}
use Rattle.law_world.proofs.lemmas.steps.lemmas.control_queues.OpenLends.{open_lend_is_whole}
use Rattle.law_driver.specs.queued_drivers.Queued.{queued, queued_parts}
use Rattle.law_driver.specs.queued_drivers.Rows.{QueuesAlike, LinksOn, IsLentAlike}
use Rattle.law_driver.proofs.lemmas.queued_drivers.RowFrames.{chain_lends_agree as lends_alike}
use Rattle.law_driver.proofs.lemmas.queued_drivers.RowOwners.{queued_has_owners}
use Rattle.bus_world.specs.World.{World, driver_parts, controller_parts, driver_next}
use Rattle.law_world.specs.memory.Mixed.{QueuesGoOn, IsChainToLend, IsChainThere, IsUnderWay, Standing, IsMixedAt}
use Rattle.law_world.specs.memory.Steps.{QueueStep, begins, IsMixedNext}
use Rattle.law_world.proofs.lemmas.memory.Next.{mixed_next}
use Rattle.law_world.proofs.lemmas.memory.QueueViews.{queued_driven}
use Rattle.law_world.proofs.lemmas.memory.Alike.{same_lent, goes_on_alike, there_alike}
use Rattle.law_world.proofs.lemmas.memory.ChainReady.{off_ring, queue, kept, frames, to_lend}
use Rattle.law_world.proofs.lemmas.memory.ChainSteps.{AfterChain, after_chain, chain_stays, ring_on}

module _ (s : Standing) (w : World) (k : IsMixedAt s w) (t : IsChainToLend w.driver w.memory) where
  abbrev d : DriverContent
  d = w.driver

  abbrev p : Parts
  p = driver_parts w

  abbrev f : DriverContent
  f = (after_driver_row rows.Lend (driver_parts w)).driver

  abbrev book : Book
  book = (lend_taken (holding w.driver.book w.memory)).book

  abbrev parts : StructureSets
  parts = chained_parts s.parts t.ready

  owners : HasOwners w.driver
  owners = k.now.framed.place.sound.owners

  lends : ChainIsLent opening_base s.member s.recent s.descs s.parts s.hand s.frame (controller_parts w) w.driver t.ready
  lends = chain_lends opening_base s.member s.recent s.descs s.parts s.hand s.frame (controller_parts w) w.driver k.now t.ready

  row_is : driver_row (driver_parts w) ≡ rows.Lend
  row_is = lends.row

  due : IsDue (driver_parts w) rows.Lend
  due = subst (IsDue p) row_is (each_event_is_due p)

  driver_is : (driver_next w).driver ≡ f
  driver_is = ap (λ (row : DriverRow). (after_driver_row row p).driver) row_is

  after : AfterChain (record w.driver { book = book }) f
  after = after_chain (record w.driver { book = book }) t.ready.command

  -- ---- the queues once it is lent

  abbrev lent : DriverContent
  lent = open_lent (queued w.driver) w.memory

  told_owners : HasOwners (queued w.driver)
  told_owners = queued_has_owners w.driver owners k.turns

  abbrev lending : IsOpenToLend (queued w.driver) w.memory
  lending = to_lend w.driver w.memory owners t.ready t.newest

  whole : IsOpenLentWhole (queued w.driver) w.memory (32 * t.ready.endpoint.queue) s.near s.streams s.ends s.parts parts s.order s.out
  whole = open_lend_is_whole (queued w.driver) w.memory s.near s.streams s.ends s.parts s.order s.out told_owners k.turns.turns (queued_driven w.driver (sorts_of s.parts) k.now.framed.driven) k.queues.queues lending

  -- all others are as they were
  stays : (n : ℕ) → n ≢ 32 * t.ready.endpoint.queue → parts n ≡ s.parts n
  stays n differs =
      let at = 32 * t.ready.endpoint.queue in
      let head = QueueHead (chained_queue t.ready.endpoint t.ready.place t.ready.link) in
      put_beside (put s.parts at at head) at (32 * t.ready.endpoint.dummy) (Element dummy_qtd) n differs ∙ put_beside s.parts at at head n differs

  lent_sound : PartsStand lent parts
  lent_sound e x here m =
      let differs : 32 * x.queue ≢ 32 * t.ready.endpoint.queue =
      λ same. m.there.linked (lending.command ∙ ap (λ (q : ℕ). Some (unfinished.Open q)) (sym (same_blocks x.queue t.ready.endpoint.queue same))) in
      subst (IsQueuePart (32 * x.queue)) (sym (stays (32 * x.queue) differs)) (k.queues.sound e x here (record { there = record { linked = m.there.linked; kept = m.there.kept }; near = m.near }))

  lent_goes : QueuesGoOn lent s.near s.streams s.ends parts s.order s.out
  lent_goes = record { queues = whole.queues; sound = lent_sound; tails = whole.tails k.queues.tails; controls = whole.controls k.queues.controls }

  -- .. and the driver of its queues had this event
  made_is : (after_driver_row rows.Lend (queued_parts (driver_parts w))).driver ≡ lent
  made_is = open_lend_is_made (queued_parts p) lending

  -- ---- the driver then

  ring : AreMet (driver_next w).driver s.member
  ring =
      let same = after.ring in
      subst (λ (g : DriverContent). AreMet g s.member) (sym driver_is)
      (ring_on d f t.ready.command (record { endpoints = same.endpoints; waiting = same.waiting; rung = same.rung; command = same.command }) s.member k.ring)

  -- the open waits for its first store
  on : f.command ≡ Some unfinished.Chain
  on =
      ap (λ (g : DriverContent). g.command) (sym driver_is)
      ∙ ap (λ (g : DriverContent). g.command) (driver_begun opening_base s.member s.recent s.descs s.parts s.hand s.frame (controller_parts w) w.driver k.now t.ready)
      ∙ chain_stays (record d { book = book }) d.periodic t.work t.begun ∙ t.ready.command

  links_on : LinksOn (driver_parts w) rows.Lend
  links_on = record { chain = t.ready.command; unfinished = λ none. none_some unfinished.Chain (sym none ∙ on) }

  like : IsLentAlike (driver_parts w)
  like = lends_alike p due links_on

  queues_on : QueuesAlike lent (queued f)
  queues_on = subst (λ (g : DriverContent). QueuesAlike g (queued f)) made_is like.queues

  goes_on : QueuesGoOn (queued f) s.near s.streams s.ends parts s.order s.out
  goes_on = goes_on_alike lent (queued f) s.near s.streams s.ends parts s.order s.out queues_on (same_lent lent (queued f) (like.book ∙ ap (λ (g : DriverContent). g.book) made_is)) lent_goes

  there_on : IsOpenThere (queued f) parts
  there_on = there_alike lent (queued f) parts queues_on whole.there

  -- what was opened is what is told of it
  its_queue : there_on.endpoint.queue ≡ t.ready.endpoint.queue
  its_queue = open_queue (sym there_on.command ∙ queues_on.command ∙ lending.command)
    where
      open_queue : {a b : ℕ} → ◌≡◌ {A = Option Command} (Some (unfinished.Open a)) (Some (unfinished.Open b)) → a ≡ b
      open_queue same = cc

  unmet : s.member (32 * there_on.endpoint.queue) ≡ false
  unmet =
      ap (λ (q : ℕ). s.member (32 * q)) its_queue
      ∙ off_ring d s.member t.ready.number t.ready.endpoint owners k.ring t.ready.here (queue d w.memory owners t.ready t.newest) (frames d w.memory owners t.ready t.newest) (kept d w.memory owners t.ready t.newest)

  next_there : IsChainThere (driver_next w).driver s.member s.recent parts
  next_there =
      subst (λ (g : DriverContent). IsChainThere g s.member s.recent parts) (sym driver_is)
      (record { lent = subst (λ (g : DriverContent). IsChainLent g s.member s.recent parts) driver_is (lends.lent t.work t.begun); there = there_on; unmet = unmet })

  way_on : IsUnderWay (driver_next w).driver (driver_next w).memory s.member s.recent parts (driver_next w).driver.command
  way_on =
      subst (IsUnderWay (driver_next w).driver (driver_next w).memory s.member s.recent parts) (sym (ap (λ (g : DriverContent). g.command) driver_is ∙ on)) (inr next_there)

  step_on : QueueStep s w (driver_next w) (record s { parts = parts })
  step_on = begins lending row_is (subst (λ (g : DriverContent). QueuesAlike lent (queued g)) (sym driver_is) queues_on)

  pub lend_world : IsMixedNext s w (driver_next w)
  lend_world =
      mixed_next s w k (record s { parts = parts }) step_on lends.framed ring
      (subst (λ (g : DriverContent). QueuesGoOn (queued g) s.near s.streams s.ends parts s.order s.out) (sym driver_is) goes_on) way_on
