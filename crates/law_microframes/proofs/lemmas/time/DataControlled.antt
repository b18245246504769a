-- Each event of the controller leaves the queues of interrupt endpoints with data alone: it ends a qTD, and makes none active.
use Rattle.std.proofs.Common.{◌≡◌, ℕ, ◌+◌, ◌*◌, ◌/◌, ◌<◌, true, false, slice_get, Some, ap, refl, sym, subst, ◌∙◌, arith}
use Rattle.bus_wire.specs.Bus.{Fixed}
use Rattle.usb_base.specs.declared.packets.Dir.{Dir}
use Rattle.usb_base.specs.declared.packets.EpKind.TheVariants.{Interrupt}
use Rattle.word_mem.specs.Memory.{is_lent, reaches, word_at}
use Rattle.word_mem.specs.Runs.{Run}
use Rattle.mem_runs.specs.declared.slots.Slot.{Slot}
use Rattle.mem_runs.specs.declared.slots.Slot.TheVariants as slots
use Rattle.mem_runs.specs.Book.{holding, slot_of}
use Rattle.mem_runs.proofs.Standing.{keeps_at, keeps_all}
use Rattle.qh_qtd.specs.declared.qtd.Qtd.{Qtd}
use Rattle.qh_qtd.specs.declared.token.Token.{Token}
use Rattle.drv_table.specs.declared.content.Endpoint.{Endpoint}
use Rattle.drv_table.specs.declared.content.Transfer.{Transfer}
use Rattle.drv_table.specs.DriverContent.{DriverContent}
use Rattle.claims_driver.specs.Owners.{HasRun, is_descriptor, note_in}
use Rattle.claims_base.specs.Controller.{opening_base}
use Rattle.law_driver.specs.chained_transfers.Chains.{piece_at}
use Rattle.law_driver_ring.specs.Inventory.{IsLent}
use Rattle.law_structures.specs.lent_structures.Structures.{StructureSets, Tells}
use Rattle.law_structures.specs.lent_structures.Alters.{IsAfter, HasElementAfter}
use Rattle.law_structures.specs.lent_structures.Sound.{IsElement}
use Rattle.law_ring.specs.walk_writes.Writes.{WritesLent}
use Rattle.law_controller.proofs.lemmas.lent_writes.Controlling.{each_event_of_the_controller_writes_lent_words}
use Rattle.law_controller.proofs.lemmas.aligned_copies.Controlling.{aligned_placed}
use Rattle.law_controller.specs.controlled_streams.Kept.{KeepsEach}
use Rattle.law_descriptors.specs.Both.{parts_now}
use Rattle.law_descriptors.specs.Meeting.{met}
use Rattle.law_descriptors.proofs.lemmas.queue_events.Events.{both_keeps_structures}
use Rattle.law_world.specs.steps.Streaming.{begins_by, transacts_by, wired}
use Rattle.law_world.proofs.lemmas.steps.StreamTurning.{world_has_row}
use Rattle.law_world.proofs.lemmas.steps.lemmas.world_bytes.Hearing.{a_bus_of_bytes_is_heard_as_bytes}
use Rattle.bus_world.specs.World.{World, controller_parts, controller_row, controller_next}
use Rattle.law_world.specs.memory.framed_memory.Now.{recent_then, FramedNowAfter}
use Rattle.law_world.proofs.lemmas.memory.lemmas.framed_memory.NowControlled.{controller_keeps_now}
use Rattle.law_world.proofs.lemmas.memory.QueueViews.{queues_told}
use Rattle.law_world.specs.memory.Mixed.{Standing, IsMixedAt}
use Rattle.law_microframes.specs.time.DataQueues.{qtd_in, pid_of, way_of, SendsData, NewQueuesSendData, ControllerKeepsData}
use Rattle.law_microframes.proofs.lemmas.time.DataWords.{told_qtd, same_sends}
use Rattle.law_microframes.proofs.lemmas.time.DataTold.{piece_run, element_there}

-- before the first line there is none
pub new_queues_send_data : NewQueuesSendData
new_queues_send_data s t i y x there sort held here kind below on = absurd (cc)

-- what is active after it was so before
after_sends : (dir : Dir) (t u : Qtd) → IsAfter t u → SendsData dir t → SendsData dir u
after_sends dir t u a sends on =
    let active : a.token.active ≡ true = ap (λ (q : Qtd). q.token.active) (sym a.is) ∙ on in
    let same : u.token ≡ t.token = ap (λ (q : Qtd). q.token) a.is ∙ a.active active in
    subst (λ (k : Token). k.pid ≡ pid_of dir) (sym same) (sends (ap (λ (k : Token). k.active) (sym same) ∙ on))

module _ (fixed : Fixed) (s : Standing) (w : World) (k : IsMixedAt s w) where
  abbrev d : DriverContent
  d = w.driver

  abbrev new : World
  new = controller_next fixed w

  after_event : FramedNowAfter begins_by transacts_by opening_base s.member (recent_then (controller_row w) s.recent) s.descs s.parts s.hand s.frame (controller_parts w) w.driver (wired fixed w)
      (wired fixed (controller_next fixed w)) (controller_parts (controller_next fixed w))
  after_event =
      controller_keeps_now begins_by transacts_by opening_base s.member s.recent s.descs s.parts s.hand s.frame (controller_parts w) d (wired fixed w) (controller_parts new) (wired fixed new) k.now
      (a_bus_of_bytes_is_heard_as_bytes fixed w k.bytes (wired fixed new)) (world_has_row fixed w)

  writes : WritesLent w.memory (controller_next fixed w).memory
  writes =
      each_event_of_the_controller_writes_lent_words begins_by transacts_by (controller_parts w) (wired fixed w) (controller_parts new)
      (wired fixed new)
      (aligned_placed (controller_parts w) k.now.framed.aligned) (world_has_row fixed w)

  -- in a run that isn't lent
  kept_stays : (b : ℕ) (r : Run) → slot_of w.driver.book.slots b ≡ slots.Keeps r → word_at (controller_next fixed w).memory (32 * b + 8) ≡ word_at w.memory (32 * b + 8)
  kept_stays b r is =
      let h = holding d.book w.memory in
      let stands = k.now.framed.place.sound.stands in
      let at = keeps_at h b r stands is in
      let first = at.0 in
      let some = at.1 in
      let off : reaches w.memory (32 * b + 8) ≡ false = ap is_lent (keeps_all h b r stands is ((32 * b + 8) / 32) (omega (arith, first)) (omega (arith, first, some))) in
      writes.words (32 * b + 8) off

  tells_before : Tells w.memory s.parts
  tells_before =
      let f = k.now.framed in
      queues_told d w.memory s.descs s.parts (record { owners = f.place.sound.owners; driven = f.driven; described = f.described }) f.runs.ring.tells

  -- in one that is
  lent_sends : (dir : Dir) (n b : ℕ) → IsElement (s.parts n) (32 * b) → SendsData dir (qtd_in w.memory b)
      → SendsData dir (qtd_in (controller_next fixed w).memory b)
  lent_sends dir n b e sends =
      let a = after_event in
      let now : StructureSets = parts_now s.descs s.parts a.now in
      let keeps : KeepsEach s.parts now =
      both_keeps_structures begins_by transacts_by opening_base s.member (met d s.recent) s.descs s.parts s.hand s.frame (controller_parts w) (wired fixed w) (wired fixed new) a.now a.later a.frame_later
      k.now.framed.runs a.effect in
      let then : HasElementAfter (now n) (32 * b) e.qtd = (keeps n).alters.element (32 * b) e.qtd e.here in
      let f = a.framed.framed in
      let tells : Tells new.memory now = queues_told d new.memory _ now (record { owners = f.place.sound.owners; driven = f.driven; described = f.described }) f.runs.ring.tells in
      subst (SendsData dir) (sym (told_qtd new.memory b then.qtd (tells.each n (32 * b) _ then.here)))
      (after_sends dir e.qtd then.qtd then.after
      (subst (SendsData dir) (told_qtd w.memory b e.qtd (tells_before.each n (32 * b) _ e.here)) sends))

  stays : (t i : ℕ) (y : Transfer) (x : Endpoint) → slice_get w.driver.transfers t ≡ Some y → is_descriptor y.sort ≡ false → y.released ≡ false → slice_get w.driver.endpoints y.endpoint ≡ Some x
      → x.desc.kind ≡ Interrupt → i < y.qtds → SendsData (way_of x) (qtd_in w.memory (piece_at (note_in w.driver.notes) y.first i))
      → SendsData (way_of x) (qtd_in (controller_next fixed w).memory (piece_at (note_in w.driver.notes) y.first i))
  stays t i y x there sort held here kind below sends = by (slot_of d.book.slots (piece_at (note_in d.notes) y.first i)) refl
    where
      by : (c : Slot) → slot_of w.driver.book.slots (piece_at (note_in w.driver.notes) y.first i) ≡ c
          → SendsData (way_of x) (qtd_in (controller_next fixed w).memory (piece_at (note_in w.driver.notes) y.first i))
      by slots.Empty is = absurd (subst HasRun is (piece_run d k.now.framed.place.sound.owners t i y there held below))
      by (slots.Keeps r) is = let b = piece_at (note_in d.notes) y.first i in
          same_sends (way_of x) w.memory new.memory b (kept_stays b r is) sends
      by (slots.Lends r) is =
          lent_sends (way_of x) (32 * x.queue) (piece_at (note_in d.notes) y.first i)
          (element_there d k.turns t y x there sort held here kind s.parts i k.now.framed.driven below (subst IsLent (sym is) tt)) sends

pub controller_keeps_data : ControllerKeepsData
controller_keeps_data fixed w mixed old t i y x there sort held here kind below =
    stays fixed mixed.standing w mixed.mixed t i y x there sort held here kind below (old t i y x there sort held here kind below)
