-- The queue head and the inactive qTD of an open are lent: the requests of all others stand as they did.
use Rattle.std.proofs.Common.{◌≡◌, ◌≢◌, ℕ, ◌*◌, Bool, true, slice_get, Some, None, ap, refl, sym, ◌∙◌, false, ⊎_elim}
use Rattle.law_common.proofs.Numbers.{same_blocks}
use Rattle.law_controller.proofs.Common.{same_hand}
use Rattle.bus_wire.specs.Bus.{Fixed}
use Rattle.drv_table.specs.declared.content.Endpoint.{Endpoint}
use Rattle.drv_table.specs.declared.content.Transfer.{Transfer}
use Rattle.drv_table.specs.Harvests.{note_at}
use Rattle.law_driver.specs.endpoint_lives.Lives.{told_end}
use Rattle.mem_runs.specs.Book.{holding, lend_taken}
use Rattle.law_structures.specs.lent_structures.Structures.{Structures, StructureSets, put, QueueHead, Element}
use Rattle.claims_report.specs.Requests.{Request}
use Rattle.law_devices.specs.Controls.{control_of}
use Rattle.law_driver_ring.proofs.lemmas.told_harvests.Keeping.{spared_is_done}
use Rattle.bus_world.specs.World.{World}
use Rattle.law_world.specs.steps.Streaming.{Streams, Standing}
use Rattle.claims_world.specs.Requests.{wired, Windows}
use Rattle.law_reports.specs.requests.Courses.{have_queues, CoursesStand}
use Rattle.law_reports.proofs.lemmas.requests.Writing.{same_side}
use Rattle.law_reports.specs.requests.Asking.{Sides, Asking, IsMetControl, IsReadTo, IsAskingWorld, AsksIn}
use Rattle.law_reports.proofs.lemmas.requests.Beside.{HasOwner, owner_of, stand_beside}
use Rattle.law_reports.proofs.lemmas.requests.Leaving.{open_quiet}
use Rattle.law_reports.proofs.lemmas.requests.Missed.{writing_misses_none}
use Rattle.drv_table.specs.Words.{dummy_qtd, head_block}
use Rattle.std.proofs.lemmas.Bool.{false≢true}
use Rattle.law_controller.proofs.Common.{heads_stay, elements_stay}
use Rattle.word_mem.specs.Memory.{Mem}
use Rattle.law_driver.proofs.lemmas.chained_transfers.Staying.{linked_stands_alive}
use Rattle.law_driver_ring.specs.fed_queues.Places.{HasHead}
use Rattle.law_structures.proofs.lemmas.lent_structures.Names.{put_beside}
use Rattle.law_queues.specs.open_laws.Queues.{IsOpenToLend, parts_opened, open_lent}
use Rattle.law_world.proofs.lemmas.streams.Heads.{not_head}
use Rattle.law_reports.specs.requests.Footing.{IsFooting}
use Rattle.law_reports.specs.requests.Missed.{NoneMissed}
use Rattle.law_reports.proofs.lemmas.requests.Inside.{goes_on}
use Rattle.drv_table.specs.declared.content.Command.TheVariants as unfinished

module _ (g : Sides) (fixed : Fixed) (member : ℕ → Bool) (x : Streams) (s : Standing) (a : Asking) (v : Windows) (asks : ℕ → Request)
    (w : World) (k : IsFooting member x s w) (z : IsAskingWorld g fixed member s a v asks w)
    (ready : IsOpenToLend w.driver w.memory) (more : Mem) where
  abbrev n : ℕ
  n = 32 * ready.endpoint.queue

  abbrev now : StructureSets
  now = parts_opened ready s.parts

  -- no queue of requests stands there yet
  beside : (j : ℕ) → have_queues a.courses j ≡ true → j ≢ 32 * ready.endpoint.queue
  beside j has same =
      let o : HasOwner g w a j = owner_of g fixed member x s a v asks w k z j has in
      o.control.met.there.linked (ready.command ∙ ap (λ (b : ℕ). Some (unfinished.Open b)) (sym (same_blocks o.endpoint.queue ready.endpoint.queue (sym o.at ∙ same))))

  alive : ready.endpoint.gone ≡ false
  alive = linked_stands_alive ready.endpoint (k.turns.asynchronous.endpoints ready.number ready.endpoint ready.here) ready.fresh

  -- the walk doesn't meet it
  unmet : (j : ℕ) → member j ≡ true → j ≢ 32 * ready.endpoint.queue
  unmet j met same =
      ⊎_elim {C = ⊥} (λ (head : j ≡ 32 * head_block). not_head w.driver ready.number ready.endpoint k.owners k.turns.asynchronous ready.here alive (sym same ∙ head))
      (λ (h : HasHead w.driver j).
      h.met.there.linked (ready.command ∙ ap (λ (b : ℕ). Some (unfinished.Open b)) (sym (same_blocks h.endpoint.queue ready.endpoint.queue (sym h.at ∙ same)))))
      (k.queues.met.only j met)

  part_same : (j : ℕ) → j ≢ 32 * ready.endpoint.queue → parts_opened ready s.parts j ≡ s.parts j
  part_same j differs =
      put_beside (put s.parts n n (QueueHead ready.queue)) n (32 * ready.endpoint.dummy) (Element dummy_qtd) j differs
      ∙ put_beside s.parts n n (QueueHead ready.queue) j differs

  stand : CoursesStand control_of member a.courses (parts_opened ready s.parts) s.hand (wired fixed w)
  stand =
      stand_beside control_of s.parts now s.hand s.hand (wired fixed w) (λ j. same_side s.hand j) (same_hand s.hand) member a.courses (λ j has. part_same j (beside j has))
      (λ j own met has. record { queue = has.queue; head = ap (λ (part : Structures). part j) (part_same j (unmet j met)) ∙ has.head; is = has.is }) z.stand

  reads : (e t : ℕ) (y : Endpoint) (u : Transfer) → IsMetControl g w.driver e y → told_end y ≡ None → y.next ≡ Some t
      → slice_get w.driver.transfers t ≡ Some u
      → IsReadTo s.hand (parts_opened ready s.parts) (32 * y.queue) (note_at w.driver.notes) u ((a.numbers (32 * y.queue)).requests.requests 0)
  reads e t y u m going next there =
      let r : IsReadTo s.hand s.parts (32 * y.queue) (note_at w.driver.notes) u ((a.numbers (32 * y.queue)).requests.requests 0) = z.read e t y u m going next there in
      let same : now (32 * y.queue) ≡ s.parts (32 * y.queue) = part_same (32 * y.queue) (beside (32 * y.queue) (z.each e y m).queue) in
      record {
        setup = r.setup;
        data_at = λ has one.
            let d = r.data_at has one in
            record {
              bytes = d.bytes;
              done = spared_is_done s.hand s.hand s.parts now (32 * y.queue) _ _ d.bytes (same_hand s.hand) (heads_stay s.parts now (32 * y.queue) same) (elements_stay s.parts now (32 * y.queue) _ same) d.done;
            };
        rest = r.rest;
      }

  -- none of those that are asked is new
  never : (P : Type 0) → have_queues a.courses n ≡ true → P
  never P on = absurd (beside n on refl)

  unmissed_then : NoneMissed (have_queues a.courses) (parts_opened ready s.parts)
  unmissed_then =
      writing_misses_none (have_queues a.courses) (put s.parts n n (QueueHead ready.queue)) n (32 * ready.endpoint.dummy) (Element dummy_qtd) (never _)
      (writing_misses_none (have_queues a.courses) s.parts n n (QueueHead ready.queue) (never _) z.unmissed.structures)

  pub open_lent_asks : AsksIn g member (parts_opened ready s.parts) s.hand a v asks (open_lent w.driver w.memory) more (wired fixed w)
  open_lent_asks =
      goes_on g member s.parts now s.hand a v asks w.driver w.memory more (wired fixed w) (lend_taken (holding w.driver.book w.memory)).book 1 z
      (record { structures = unmissed_then; in_hand = z.unmissed.in_hand; first = (open_quiet (open_lent w.driver w.memory) ready.endpoint.queue ready.command).first }) stand
      (λ e y m next. absurd (false≢true (sym ((open_quiet w.driver ready.endpoint.queue ready.command).none e) ∙ next))) reads
