-- The overlay of each interrupt endpoint's queue head is that of an IN or of an OUT while it is active, whether the queue head is linked yet or not.
use Rattle.std.proofs.Common.{◌≡◌, ◌≢◌, ℕ, ◌+◌, ◌-◌, ◌*◌, ◌/◌, ◌⊎◌, ◌||◌, Bool, true, false, not, if◌then◌else◌, length, slice_get, Option, Some, None, option_map, ap, refl, sym, subst, ◌∙◌, ⊎_elim, arith}
use Rattle.std.specs.Prelude.{◌==◌, ◌&&◌}
use Rattle.std.specs.Result.{result_ok}
use Rattle.std.proofs.lemmas.Bool.{cases_eq, false≢true}
use Rattle.std.proofs.lemmas.Option.{same_Some}
use Rattle.law_world.proofs.Common.{same_queue}
use Rattle.usb_base.specs.declared.packets.EpKind.{EpKind}
use Rattle.usb_base.specs.declared.packets.EpKind.TheVariants.{Interrupt}
use Rattle.word_mem.specs.Memory.{is_lent, reaches}
use Rattle.word_mem.specs.Views.{words_at}
use Rattle.mem_runs.specs.declared.slots.Slot.{Slot}
use Rattle.mem_runs.specs.declared.slots.Slot.TheVariants as slots
use Rattle.mem_runs.specs.Book.{holding, slot_of}
use Rattle.mem_runs.proofs.Standing.{keeps_at, keeps_all}
use Rattle.qh_qtd.specs.declared.queue_head.Qh.{Qh}
use Rattle.qh_qtd.specs.QueueHead.{qh_read}
use Rattle.mem_queues.specs.Structures.{queue_head_at_address}
use Rattle.drv_periodic_table.specs.Periodic.{is_periodic}
use Rattle.drv_table.specs.declared.content.Command.{Command}
use Rattle.drv_table.specs.declared.content.Command.TheVariants as unfinished
use Rattle.drv_table.specs.declared.content.Endpoint.{Endpoint}
use Rattle.drv_table.specs.DriverContent.{DriverContent}
use Rattle.drv_table.specs.Kinds.{is_iso}
use Rattle.drv_table.specs.Words.{dummy_qtd}
use Rattle.claims_driver.specs.Owners.{EndpointRuns, HasRun, QueueHead as HeadOf, runs_of_endpoint}
use Rattle.claims_driver.specs.Leaving.{HasOwners}
use Rattle.law_driver.specs.endpoint_lives.Lives.{is_one_of}
use Rattle.law_driver_ring.specs.Inventory.{OfQueueHead, IsLent, sort_of}
use Rattle.law_driver_ring.specs.LendOpened.{IsKept}
use Rattle.law_driver_ring.specs.Linked.{opened_part}
use Rattle.law_driver_ring.specs.fed_queues.Places.{IsMet}
use Rattle.law_driver.proofs.lemmas.run_owners.Runs.{placed_run}
use Rattle.law_structures.specs.lent_structures.Structures.{Structure, QueueHead, Element, Tells}
use Rattle.law_structures.specs.lent_structures.Sound.{IsWorking}
use Rattle.law_structures.proofs.lemmas.lent_structures.Altering.{found_queue}
use Rattle.law_structures.proofs.lemmas.lent_structures.Reading.{head_read}
use Rattle.law_queues.proofs.lemmas.mended_heads.Lent.{queued_in, queue_placed}
use Rattle.law_queues.specs.open_laws.Lends.{IsOpenReady}
use Rattle.law_queues.specs.open_laws.Opens.{IsOpenLent}
use Rattle.law_driver.specs.queued_drivers.Queued.{with_queue, queue_of, queued_command, queued}
use Rattle.law_driver.proofs.lemmas.queued_drivers.RowLists.{queue_at}
use Rattle.law_frames.specs.Met.{IsQueuePart}
use Rattle.bus_world.specs.World.{World}
use Rattle.bus_world.specs.Budgets.{moment}
use Rattle.law_world.specs.memory.Mixed.{IsChainToLend, IsChainThere, IsUnderWay, Standing, IsMixedAt}
use Rattle.law_world.proofs.lemmas.memory.QueueViews.{queues_told}
use Rattle.law_world.proofs.lemmas.memory.Together.{scripts_stay_mixed}
use Rattle.law_microframes.specs.visits.Belonging.{a_queue}
use Rattle.law_microframes.proofs.lemmas.visits.BelongQueues.{belongs_by}
use Rattle.law_microframes.specs.time.DataQueues.{pid_of, way_of, GoesBy, QueuesSendData, MixedWorldsReadData, ScriptsReadData}
use Rattle.law_microframes.proofs.lemmas.time.DataMoments.{scripts_send_data}
use Rattle.law_microframes.proofs.lemmas.time.DataReads.{element_sends, copies_send_data, takes_send_data}

head_by : (o : Option Structure) → option_map sort_of o ≡ Some OfQueueHead → (q : Qh) × (o ≡ Some (QueueHead q))
head_by (Some (QueueHead q)) is = (q, refl)
head_by _ is = absurd (cc)

-- of a part that was just lent
opened_head : (r : EndpointRuns) (new q : Qh) (b : ℕ) → opened_part r new b ≡ Some (QueueHead q) → q.token.active ≡ new.token.active
opened_head r new q b is = by (b == 32 * r.dummy) (b == 32 * r.queue) is
  where
    by : (one two : Bool) → (if one then Some (Element dummy_qtd) else (if two then Some (QueueHead new) else None)) ≡ Some (QueueHead q) → q.token.active ≡ new.token.active
    by true two is = absurd (cc)
    by false true is = let same : new ≡ q = cc in ap (λ (z : Qh). z.token.active) (sym same)
    by false false is = absurd (cc)

module _ (s : Standing) (w : World) (k : IsMixedAt s w) (all : QueuesSendData w.driver w.memory) (e : ℕ) (x : Endpoint) (here : slice_get w.driver.endpoints e ≡ Some x)
    (kind : x.desc.kind ≡ Interrupt) (kept : x.gone ≡ false) where
  abbrev d : DriverContent
  d = w.driver

  abbrev n : ℕ
  n = 32 * x.queue

  owners : HasOwners w.driver
  owners = k.now.framed.place.sound.owners

  no_iso : is_iso x.desc.kind ≡ false
  no_iso = ap is_iso kind

  tells : Tells w.memory s.parts
  tells =
      let f = k.now.framed in
      queues_told d w.memory s.descs s.parts (record { owners = f.place.sound.owners; driven = f.driven; described = f.described }) f.runs.ring.tells

  at : GoesBy w.driver (32 * x.queue) (way_of x)
  at = record {
    at = record {
      belongs = belongs_by d owners k.now.planned n e x here kept (ap is_periodic kind) (a_queue kind refl);
      kind =
          kind;
      name = refl;
    };
    way = refl;
  }

  run : HasRun (slot_of w.driver.book.slots x.queue)
  run = placed_run x.queue (HeadOf e) (queue_placed d owners e x here no_iso kept)

  module _ (q : Qh) (part : s.parts (32 * x.queue) (32 * x.queue) ≡ Some (QueueHead q)) where
    -- while it is still to be linked it rests
    module _ (lent : IsLent (slot_of w.driver.book.slots x.queue)) where
      not_kept : (b : ℕ) → b ≡ x.queue → IsKept (slot_of w.driver.book.slots b) → ⊥
      not_kept b same is = let k : IsKept (slot_of w.driver.book.slots x.queue) = subst (λ (c : ℕ). IsKept (slot_of w.driver.book.slots c)) same is in subst IsLent k.is lent

      open_rests : (queue : ℕ) → w.driver.command ≡ Some (unfinished.Open queue) → queue ≡ x.queue → IsOpenReady w.driver w.memory ⊎ IsOpenLent w.driver s.member s.parts → q.token.active ≡ false
      open_rests queue command same =
          ⊎_elim
          (λ (r : IsOpenReady w.driver w.memory). absurd (not_kept r.endpoint.queue (same_queue r.endpoint.queue queue (sym r.command ∙ command) ∙ same) r.opened.queue_kept))
          (λ (r : IsOpenLent w.driver s.member s.parts).
          let own : r.endpoint.queue ≡ x.queue = same_queue r.endpoint.queue queue (sym r.command ∙ command) ∙ same in
          opened_head (runs_of_endpoint r.endpoint) _ q n (sym (r.part n) ∙ ap (λ (b : ℕ). s.parts (32 * b) n) own ∙ part))

      chain_rests : w.driver.command ≡ Some unfinished.Chain → queued_command w.driver.endpoints (Some unfinished.Chain) ≡ Some (unfinished.Open x.queue)
          → IsChainToLend w.driver w.memory ⊎ IsChainThere w.driver s.member s.recent s.parts → q.token.active ≡ false
      chain_rests command is =
          ⊎_elim
          (λ (t : IsChainToLend w.driver w.memory).
          let r = t.ready in
          let newest = t.newest in
          let number : length d.endpoints - 1 ≡ r.number = omega (arith, newest) in
          let own : queue_of (slice_get d.endpoints (length d.endpoints - 1)) ≡ r.endpoint.queue = ap (λ (i : ℕ). queue_of (slice_get d.endpoints i)) number ∙ ap queue_of r.here in
          absurd (not_kept r.endpoint.queue (sym own ∙ same_queue (queue_of (slice_get d.endpoints (length d.endpoints - 1))) x.queue is) r.opened.queue_kept))
          (λ (t : IsChainThere w.driver s.member s.recent s.parts).
          let r = t.there in
          let own : r.endpoint.queue ≡ x.queue = same_queue r.endpoint.queue x.queue (sym r.command ∙ ap (queued_command d.endpoints) command ∙ is) in
          let same : r.part.queue ≡ q = found_queue (s.parts n n) r.part.queue q (subst (λ (b : ℕ). s.parts (32 * b) (32 * b) ≡ Some (QueueHead r.part.queue)) own r.part.here) part in
          ap (λ (z : Qh). z.token.active) (sym same) ∙ r.part.rests.idle)

      opening_rests : (c : Option Command) → w.driver.command ≡ c → queued_command w.driver.endpoints c ≡ Some (unfinished.Open x.queue) → IsUnderWay w.driver w.memory s.member s.recent s.parts c
          → q.token.active ≡ false
      opening_rests (Some (unfinished.Open queue)) command is under = open_rests queue command (same_queue queue x.queue is) under
      opening_rests (Some unfinished.Chain) command is under = chain_rests command is under
      opening_rests _ command is under = absurd (cc)

      -- else it works on a qTD of its queue
      is_met : (queued w.driver).command ≢ Some (unfinished.Open x.queue) → IsMet (queued w.driver) e (with_queue x)
      is_met other =
          let on : (if is_periodic x.desc.kind then not x.gone else x.linked) ≡ true = ap (λ (b : EpKind). if is_periodic b then not x.gone else x.linked) kind ∙ ap not kept in
          record {
            there = record { linked = other; kept = kept };
            near = ap (λ (b : Bool). b || (is_one_of e d.waiting || is_one_of e d.rung)) on;
          }

      working_sends : (queued w.driver).command ≢ Some (unfinished.Open x.queue) → q.token.active ≡ true → q.token.pid ≡ pid_of (way_of x)
      working_sends other on =
          let sound : IsQueuePart n (s.parts n) = k.queues.sound e (with_queue x) (queue_at d.endpoints e x here no_iso) (is_met other) in
          let same : sound.queue ≡ q = found_queue (s.parts n n) sound.queue q sound.here part in
          let v : IsWorking (s.parts n) sound.queue = sound.sound.work (ap (λ (z : Qh). z.token.active) same ∙ on) in
          subst (λ (i : ℕ). i ≡ pid_of (way_of x)) (sym v.pid ∙ ap (λ (z : Qh). z.token.pid) same)
          (element_sends s w k all n (way_of x) at sound.queue.current v.element v.here v.published)

      by_command : (c : Option Command) → (queued w.driver).command ≡ c → q.token.active ≡ true → q.token.pid ≡ pid_of (way_of x)
      by_command (Some (unfinished.Open f)) is on =
          ⊎_elim {C = q.token.pid ≡ pid_of (way_of x)}
          (λ (own : f ≡ x.queue).
          absurd (false≢true (sym (opening_rests d.command refl (is ∙ ap (λ (b : ℕ). Some (unfinished.Open b)) own) k.under_way) ∙ on)))
          (λ (other : f ≢ x.queue). working_sends (λ same. other (same_queue f x.queue (sym is ∙ same))) on) (cases_eq f x.queue)
      by_command _ is on = working_sends (λ same. let e = sym is ∙ same in cc) on

  -- only what is lent is read
  none_read : (q : Qh) (b : Bool) → (if b && reaches w.memory (32 * x.queue + 32) then result_ok (qh_read (words_at w.memory (32 * x.queue) 12)) else None) ≡ Some q → b ≡ false → ⊥
  none_read q false read off = cc
  none_read q true read off = absurd (false≢true (sym off))

  head_sends : (q : Qh) → queue_head_at_address w.memory (32 * x.queue) ≡ Some q → q.token.active ≡ true → q.token.pid ≡ pid_of (way_of x)
  head_sends q read on = by (slot_of d.book.slots x.queue) refl
    where
      by : (c : Slot) → slot_of w.driver.book.slots x.queue ≡ c → q.token.pid ≡ pid_of (way_of x)
      by slots.Empty is = absurd (subst HasRun is run)
      by (slots.Keeps r) is =
          let h = holding d.book w.memory in
          let stands = k.now.framed.place.sound.stands in
          let place = keeps_at h x.queue r stands is in
          let first = place.0 in
          let some = place.1 in
          absurd (none_read q (reaches w.memory n) read (ap is_lent (keeps_all h x.queue r stands is (n / 32) (omega (arith, first)) (omega (arith, first, some)))))
      by (slots.Lends r) is =
          let lent : IsLent (slot_of d.book.slots x.queue) = subst IsLent (sym is) tt in
          let found = head_by (s.parts n n) (k.now.framed.driven.queue e (runs_of_endpoint x) (queued_in d e x here no_iso kept) lent) in
          let same : found.0 ≡ q = same_Some found.0 q (sym (head_read w.memory s.parts n n found.0 tells found.1) ∙ read) in
          by_command q (found.1 ∙ ap (λ (z : Qh). Some (QueueHead z)) same) lent (queued d).command refl on

-- ---- the laws

pub mixed_worlds_read_data : MixedWorldsReadData
mixed_worlds_read_data w mixed all = record {
  heads = λ e x q here kind kept read on. head_sends mixed.standing w mixed.mixed all e x here kind kept q read on;
  copies = λ h dir by periodic held on. copies_send_data mixed.standing w h dir by mixed.mixed all periodic held on;
  takes = λ h a t dir by periodic held row. takes_send_data mixed.standing w h a t dir by mixed.mixed all periodic held row;
}

pub scripts_read_data : ScriptsReadData
scripts_read_data s fits bytes opens k = mixed_worlds_read_data (moment s k).world (scripts_stay_mixed s fits bytes opens k) (scripts_send_data s fits bytes opens k)
