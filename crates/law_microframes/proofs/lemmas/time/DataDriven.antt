-- Each event of the driver leaves the queues of interrupt endpoints with data alone: what it publishes is a qTD of a get or a put.
use Rattle.std.proofs.Common.{◌≡◌, ◌≢◌, ℕ, ◌+◌, ◌*◌, ◌<◌, false, slice_get, slice_index, Some, option_map, ap, sym, subst, ◌∙◌, ⊎_elim}
use Rattle.std.proofs.lemmas.Bool.{cases_eq}
use Rattle.std.proofs.lemmas.Option.{same_Some}
use Rattle.usb_base.specs.declared.packets.EpKind.TheVariants.{Interrupt}
use Rattle.word_mem.specs.Memory.{word_at}
use Rattle.mem_runs.specs.Book.{slot_of}
use Rattle.drv_periodic_table.specs.Periodic.{dir_of}
use Rattle.drv_table.specs.declared.content.Endpoint.{Endpoint}
use Rattle.drv_table.specs.declared.content.Transfer.{Transfer}
use Rattle.drv_table.specs.declared.content.Sort.{Sort}
use Rattle.drv_table.specs.DriverContent.{DriverContent}
use Rattle.drv_table.specs.Parts.{Parts}
use Rattle.drv_table.specs.Rows.{driver_row}
use Rattle.claims_driver.specs.Owners.{Element, HasRun, IsPlaced, is_descriptor, runs_of_transfer, note_in}
use Rattle.claims_driver.specs.Leaving.{HasOwners}
use Rattle.law_driver.specs.chained_transfers.Bulk.{pid_by}
use Rattle.law_driver.specs.chained_transfers.Chains.{piece_at}
use Rattle.law_driver_ring.specs.fed_queues.Fed.{IsPublished}
use Rattle.law_driver.proofs.lemmas.chained_transfers.Chained.{piece_same}
use Rattle.law_driver.proofs.lemmas.in_place.Laws.{events_keep_all_in_place}
use Rattle.law_driver.proofs.lemmas.ring_members.Aside.{list_apart}
use Rattle.law_driver.proofs.lemmas.run_owners.Reasons.{each_event_is_due}
use Rattle.law_queues.proofs.lemmas.publish_laws.Apart.{piece_placed, pieces_apart}
use Rattle.law_driver.specs.queued_drivers.Queued.{with_queue, queued_command, queued}
use Rattle.law_driver.proofs.lemmas.queued_drivers.RowOwners.{queued_has_owners}
use Rattle.bus_world.specs.World.{World, driver_parts, driver_next}
use Rattle.law_world.specs.memory.Mixed.{Standing, IsMixedAt}
use Rattle.law_microframes.proofs.lemmas.visits.BelongSeen.{Seen, IsSeenIn, seen_there, row_seen}
use Rattle.law_microframes.specs.time.DataQueues.{qtd_in, way_of, SendsData, DriverKeepsData}
use Rattle.law_microframes.proofs.lemmas.time.DataWords.{same_sends, word_sends}
use Rattle.law_microframes.proofs.lemmas.time.DataRows.{IsTokenStored, row_leaves}
use Rattle.law_microframes.proofs.lemmas.time.DataTransfers.{WasThere, row_were, row_notes}
use Rattle.law_microframes.proofs.lemmas.time.DataTold.{pid_is, token_in, piece_run, there_queued, here_queued}

module _ (s : Standing) (w : World) (k : IsMixedAt s w) where
  abbrev d : DriverContent
  d = w.driver

  abbrev p : Parts
  p = driver_parts w

  abbrev then : DriverContent
  then = (driver_next w).driver

  owners : HasOwners w.driver
  owners = k.now.framed.place.sound.owners

  module _ (t i : ℕ) (y : Transfer) (x : Endpoint) (there : slice_get w.driver.transfers t ≡ Some y) (sort : is_descriptor y.sort ≡ false) (held : y.released ≡ false)
      (here : slice_get w.driver.endpoints y.endpoint ≡ Some x) (kind : x.desc.kind ≡ Interrupt) (below : i < y.qtds) where
    abbrev b : ℕ
    b = piece_at (note_in w.driver.notes) y.first i

    placed : IsPlaced (slot_of w.driver.book.slots) owners.owner (piece_at (note_in w.driver.notes) y.first i) (Element t)
    placed = piece_placed d owners t i y there held below

    -- the one that is published is of the same transfer
    published_sends : IsTokenStored (driver_parts w) (driver_next w).memory (piece_at (note_in w.driver.notes) y.first i)
        → SendsData (way_of x) (qtd_in (driver_next w).memory (piece_at (note_in w.driver.notes) y.first i))
    published_sends stored =
        let g : IsPublished (queued d) s.parts b stored.words = k.queues.queues.fed.publishes b stored.words (ap (queued_command d.endpoints) stored.command) in
        let q : HasOwners (queued d) = queued_has_owners d owners k.turns in
        let some : 0 < g.transfer.qtds = k.turns.turns.chained.some g.number (runs_of_transfer g.transfer) (ap (option_map runs_of_transfer) g.there) g.fresh.1 in
        let first : IsPlaced (slot_of d.book.slots) q.owner g.transfer.first (Element g.number) = piece_placed (queued d) q g.number 0 g.transfer g.there g.fresh.1 some in
        let there_too = there_queued d k.turns t y x there sort held here kind in
        let this : IsPlaced (slot_of d.book.slots) q.owner b (Element t) = piece_placed (queued d) q t i y there_too held below in
        let own : g.number ≡ t =
        ⊎_elim (λ (same : g.number ≡ t). same)
        (λ (differs : g.number ≢ t). absurd (pieces_apart g.transfer.first b g.number t differs first this g.place.0)) (cases_eq g.number t) in
        let same : g.transfer ≡ y = same_Some g.transfer y (sym g.there ∙ ap (slice_get (queued d).transfers) own ∙ there_too) in
        let of : g.endpoint ≡ with_queue x = same_Some g.endpoint (with_queue x) (sym g.here ∙ ap (λ (z : Transfer). slice_get (queued d).endpoints z.endpoint) same ∙ here_queued d k.turns t y x there sort held here kind) in
        let pid : g.qtd.token.pid ≡ pid_by x.desc.name.way = g.pid ∙ ap (λ (z : Endpoint). pid_by z.desc.name.way) of in
        word_sends (way_of x) (driver_next w).memory b g.qtd g.range (stored.word ∙ ap (λ ws. slice_index ws 2) g.are)
        (pid ∙ pid_is x.desc.name.way x.desc.kind (k.turns.kinds_fit y.endpoint x here) kind)

    -- it is there after the event
    module _ (z : Transfer) (there_then : slice_get (driver_next w).driver.transfers t ≡ Some z) (held_then : z.released ≡ false) (below_then : i < z.qtds)
        (at : piece_at (note_in (driver_next w).driver.notes) z.first i ≡ piece_at (note_in w.driver.notes) y.first i) where
      sends_then : SendsData (way_of x) (qtd_in w.memory (piece_at (note_in w.driver.notes) y.first i))
          → SendsData (way_of x) (qtd_in (driver_next w).memory (piece_at (note_in w.driver.notes) y.first i))
      unfolding owners
      sends_then old =
          let sound = k.now.framed.place.sound in
          let later = (events_keep_all_in_place p k.now.framed.place).sound in
          let run = piece_run then later.owners t i z there_then held_then below_then in
          let there_still = token_in then (driver_next w).memory b later.stands (subst (λ (c : ℕ). HasRun (slot_of (driver_next w).driver.book.slots c)) at run) in
          ⊎_elim (λ (same : word_at (driver_next w).memory (32 * b + 8) ≡ word_at w.memory (32 * b + 8)). same_sends (way_of x) w.memory
          (driver_next w).memory b same old) published_sends
          (row_leaves p b t sound.stands sound.shape sound.owners sound.ring (list_apart d w.memory sound.stands sound.shape sound.owners sound.listed) placed
          (token_in d w.memory b sound.stands (piece_run d owners t i y there held below)) (driver_row p) (each_event_is_due p) there_still)

pub driver_keeps_data : DriverKeepsData
driver_keeps_data w mixed old t i z x there sort held here kind below =
    let d = w.driver in
    let p = driver_parts w in
    let row = driver_row p in
    let b : WasThere d.transfers t z = row_were row p t z there in
    let y = b.before in
    let of : IsSeenIn d.endpoints z.endpoint x = seen_there (driver_next w).driver.endpoints d.endpoints z.endpoint x (sym (row_seen z.endpoint row p)) here in
    let at : piece_at (note_in (driver_next w).driver.notes) z.first i ≡ piece_at (note_in d.notes) y.first i =
    piece_same (note_in d.notes) (note_in (driver_next w).driver.notes) z.first i (row_notes row p) ∙ ap (λ (c : ℕ). piece_at (note_in d.notes) c i) b.was.first in
    let sort_before : is_descriptor y.sort ≡ false = ap (λ (o : Sort). is_descriptor o) (sym b.was.sort) ∙ sort in
    let held_before : y.released ≡ false = b.was.held held in
    let here_before : slice_get d.endpoints y.endpoint ≡ Some of.endpoint = ap (slice_get d.endpoints) (sym b.was.endpoint) ∙ of.here in
    let kind_before : of.endpoint.desc.kind ≡ Interrupt = ap (λ (e : Seen). e.desc.kind) of.same ∙ kind in
    let below_before : i < y.qtds = subst (λ (n : ℕ). i < n) b.was.qtds below in
    subst (λ (e : Seen). SendsData (dir_of e.desc.name.way)
    (qtd_in (driver_next w).memory (piece_at (note_in (driver_next w).driver.notes) z.first i))) of.same
    (subst (λ (c : ℕ). SendsData (way_of of.endpoint) (qtd_in (driver_next w).memory c)) (sym at)
    (sends_then mixed.standing w mixed.mixed t i y of.endpoint b.there sort_before held_before here_before kind_before below_before z there held below at
    (old t i y of.endpoint b.there sort_before held_before here_before kind_before below_before)))
