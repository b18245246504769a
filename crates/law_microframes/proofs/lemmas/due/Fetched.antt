-- The walk of the frames comes to the queue head of an endpoint of which a transaction is due (EHCI 1.0, 3.6.2, 4.10.1).
use Rattle.std.proofs.Common.{◌≡◌, ℕ, ◌+◌, ◌*◌, Bool, true, false, if◌then◌else◌, Option, Some, None, ap, refl, sym, subst, ◌∙◌}
use Rattle.std.specs.Result.{result_ok}
use Rattle.std.proofs.lemmas.Option.{same_Some}
use Rattle.word_mem.specs.Memory.{Mem, refused, word_at}
use Rattle.word_mem.specs.Views.{words_at}
use Rattle.link_words.specs.declared.kinds.Link.{Link}
use Rattle.link_words.specs.declared.kinds.Link.TheVariants as links
use Rattle.link_words.specs.declared.kinds.QtdLink.TheVariants as qtd_links
use Rattle.link_words.specs.Layout.{bits}
use Rattle.link_words.specs.Links.{qtd_link_of}
use Rattle.itd_sitd.specs.declared.itd.Itd.{Itd}
use Rattle.itd_sitd.specs.declared.sitd.Sitd.{Sitd}
use Rattle.qh_qtd.specs.declared.queue_head.Qh.{Qh}
use Rattle.qh_qtd.specs.declared.token.Token.{Token}
use Rattle.qh_qtd.specs.QueueHead.{qh_read}
use Rattle.mem_queues.specs.Structures.{reaches_queue_head, qtd_at_address, queue_head_at_address, queue_head_was_read}
use Rattle.mem_descriptors.specs.Descriptors.{itd_at_address, sitd_at_address}
use Rattle.drv_periodic_table.specs.Periodic.{is_periodic}
use Rattle.drv_table.specs.declared.content.Endpoint.{Endpoint}
use Rattle.drv_table.specs.Kinds.{is_iso}
use Rattle.drv_table.specs.Words.{speed_field}
use Rattle.hc_masks.specs.Masks.{has}
use Rattle.hc_copy.specs.Visits.{next_pointer}
use Rattle.hc_interrupt.specs.declared.turns.Turn.TheVariants as turns
use Rattle.hc_interrupt.specs.Turns.{microframe_of, turn_of}
use Rattle.async_walk.specs.declared.state.WalkStep.TheVariants as walks
use Rattle.periodic_walk.specs.declared.chain.ChainRow.{ChainRow}
use Rattle.periodic_walk.specs.declared.chain.ChainRow.TheVariants as chains
use Rattle.periodic_walk.specs.declared.state.Hand.TheVariants as hands
use Rattle.periodic_walk.specs.declared.state.HeldQueue.{HeldQueue}
use Rattle.periodic_walk.specs.Chain.{queue_fetch, itd_fetch, sitd_fetch, chain_row, chain_read, chain_after, chain_step}
use Rattle.periodic_walk.specs.Place.{FramePlace, reading, Effect}
use Rattle.periodic_walk.specs.Place.Effect.{Leaves}
use Rattle.periodic_walk.specs.Rows.{step_at, effect_at}
use Rattle.hc_core.specs.declared.controller.ControllerRow.TheVariants as rows
use Rattle.hc_core.specs.declared.controller.MicroframePart.TheVariants.{Periodic}
use Rattle.hc_core.specs.Controller.{part_after, frame_place, frame_step}
use Rattle.bus_wire.specs.Bus.{Bus, Fixed, is_held as may_not_be_used}
use Rattle.bus_world.specs.World.{World, frame_by, framed, controller_parts, with_turned, controller_row, controller_next}
use Rattle.law_world.specs.memory.Mixed.{IsMixedWorld}
use Rattle.law_microframes.specs.visits.Belonging.{a_queue, HaveFields, HeadsHaveFields}
use Rattle.law_microframes.proofs.lemmas.visits.BelongQueues.{alive, belongs_by}
use Rattle.law_microframes.proofs.lemmas.visits.BelongReads.{read_fields}
use Rattle.law_world.proofs.lemmas.memory.Controller.{controller_keeps_mixed}
use Rattle.law_microframes.specs.time.DataQueues.{pid_of, way_of, QueuesSendData, GoesBy, ReadsData}
use Rattle.law_microframes.proofs.lemmas.time.DataControlled.{controller_keeps_data}
use Rattle.law_microframes.proofs.lemmas.time.DataHeads.{mixed_worlds_read_data}
use Rattle.claims_world.specs.Due.{ComesTo, goes_on, takes, bytes_moved, IsDueNow}
use Rattle.law_microframes.proofs.lemmas.due.Fields.{its_token, element_aligned, head_first, address_in, number_in}
use Rattle.law_microframes.proofs.lemmas.due.Held.{GoesTo, to_itself, to_qtd, IsItsQueue, IsHeldAt, advanced_token, ready_as}
use Rattle.law_microframes.proofs.lemmas.due.Turning.{walked_to}
use Rattle.law_microframes.proofs.lemmas.due.Visiting.{takes_row, turn_is}

-- ---- what was fetched

head_by : (a : ℕ) (o : Option Qh) (c : ℕ) (q : Qh) → queue_fetch a o ≡ chains.Queue c q → (a ≡ c) × (o ≡ Some q)
head_by a None c q is = absurd cc
head_by a (Some x) c q is = (cc, cc)

itd_by : (a : ℕ) (o : Option Itd) (c : ℕ) (q : Qh) → itd_fetch a o ≡ chains.Queue c q → ⊥
itd_by a None c q is = cc
itd_by a (Some x) c q is = cc

sitd_by : (a : ℕ) (o : Option Sitd) (c : ℕ) (q : Qh) → sitd_fetch a o ≡ chains.Queue c q → ⊥
sitd_by a None c q is = cc
sitd_by a (Some x) c q is = cc

pub chain_by : (m : Mem) (link : Link) (c : ℕ) (q : Qh) → chain_row m link ≡ chains.Queue c q
    → (link ≡ links.Qh c) × (queue_head_at_address m c ≡ Some q)
chain_by m links.End c q is = absurd cc
chain_by m (links.Itd a) c q is = absurd (itd_by a (itd_at_address m a) c q is)
chain_by m (links.Qh a) c q is =
    let both : (a ≡ c) × (queue_head_at_address m a ≡ Some q) = head_by a (queue_head_at_address m a) c q is in
    (ap links.Qh both.0, ap (queue_head_at_address m) (sym both.0) ∙ both.1)
chain_by m (links.Sitd a) c q is = absurd (sitd_by a (sitd_at_address m a) c q is)
chain_by m (links.Fstn a) c q is = absurd cc

read_at : (m : Mem) (b : Bool) (o : Option Qh) (q : Qh) → (if b then o else None) ≡ Some q → (if b then m else refused m) ≡ m
read_at m true o q is = refl
read_at m false o q is = absurd cc

pub head_read_same : (m : Mem) (a : ℕ) (q : Qh) → queue_head_at_address m a ≡ Some q → queue_head_was_read m a ≡ m
head_read_same m a q is = read_at m (reaches_queue_head m a) (result_ok (qh_read (words_at m a 12))) q is

pub comes_goes : (m : Mem) (n : ℕ) (q v : Qh) → queue_head_at_address m n ≡ Some q → ComesTo m q v → GoesTo m q v
comes_goes m n q _ read (goes_on work) = to_itself work
comes_goes m n q _ read (takes a t idle unhalted leads here work) =
    to_qtd a t idle unhalted leads (element_aligned m n q a read leads) (its_token m a t here) work

-- ---- what the fetch of a queue head leaves

pub record HasFetched (w later : World) (a : ℕ) (q : Qh) : Type 0 where
  pub read : queue_head_at_address w.memory a ≡ Some q
  pub memory : later.memory ≡ w.memory
  pub bus : later.bus ≡ w.bus
  pub part : later.control.part ≡ Periodic
  pub hand : later.control.frame.hand
      ≡ Some (hands.Queue (record { copy = record { at = a; queue_head = q; settled = None }; made = 0 }))
  pub index : later.control.frame.index ≡ w.control.frame.index

module _ (fixed : Fixed) (w : World) (row : controller_row w ≡ rows.Frame) (none : w.control.frame.hand ≡ None) (a : ℕ) (q : Qh)
    (chain : chain_row w.memory w.control.frame.cursor ≡ chains.Queue a q) where
  abbrev p : FramePlace
  p = frame_place (controller_parts w)

  link : (w.control.frame.cursor ≡ links.Qh a) × (queue_head_at_address w.memory a ≡ Some q)
  link = chain_by w.memory w.control.frame.cursor a q chain

  abbrev place : FramePlace
  place = chain_after (chains.Queue a q) (reading (chain_read w.memory w.control.frame.cursor) p)

  fetches : frame_step (controller_parts w) ≡ walks.Fetch
  fetches = ap (step_at p) none ∙ ap chain_step chain

  next : controller_next fixed w ≡ with_turned w (framed (controller_parts w) (record { place = place; bus = w.bus }))
  next =
      walked_to fixed w row (record { place = place; bus = w.bus })
      (ap (λ (f : Effect). frame_by fixed f w.bus)
      (ap (effect_at p) none
      ∙ ap (λ (r : ChainRow). Leaves (chain_after r (reading (chain_read w.memory w.control.frame.cursor) p))) chain))

  pub has_fetched : HasFetched w (controller_next fixed w) a q
  has_fetched = record {
    read = link.1;
    memory = ap (λ (v : World). v.memory) next ∙ ap (chain_read w.memory) link.0 ∙ head_read_same w.memory a q link.1;
    bus = ap (λ (v : World). v.bus) next;
    part = ap (λ (v : World). v.control.part) next ∙ ap (part_after Periodic) fetches;
    hand = ap (λ (v : World). v.control.frame.hand) next;
    index = ap (λ (v : World). v.control.frame.index) next;
  }

-- ---- it is the queue head of its endpoint

module _ (fixed : Fixed) (w : World) (k : IsMixedWorld w) (heads : HeadsHaveFields w.driver w.memory)
    (sends : QueuesSendData w.driver w.memory) (e b : ℕ) (due : IsDueNow fixed w e b) where
  abbrev x : Endpoint
  x = due.there.endpoint

  kept : due.there.endpoint.gone ≡ false
  kept = alive w.driver k.mixed.now.framed.place.sound.owners e due.there.endpoint due.there.here due.there.chained

  fields : HaveFields (word_at w.memory (32 * b + 4)) (word_at w.memory (32 * b + 8)) due.there.endpoint.desc due.placement
  fields =
      subst (λ (q : ℕ). HaveFields (word_at w.memory (32 * q + 4)) (word_at w.memory (32 * q + 8)) due.there.endpoint.desc due.placement)
      due.there.queue
      (heads e due.there.endpoint due.placement due.there.here (ap is_iso due.there.kind) kept due.there.placed)

  its_queue : (q : Qh) → queue_head_at_address w.memory (32 * b) ≡ Some q
      → IsItsQueue q (microframe_of w.control.frame.index) due.there.endpoint.desc.name
  its_queue q is =
      let r = read_fields w.memory (32 * b) q is in
      let first = head_first w.memory (32 * b) q is in
      let fit = k.mixed.numbers e due.there.endpoint due.there.here in
      record {
        high = r.eps ∙ fields.speed ∙ ap speed_field due.high;
        bit = subst (λ (mask : ℕ). has mask (microframe_of w.control.frame.index) ≡ true) (sym (r.smask ∙ fields.smask)) due.bit;
        addr = first.0 ∙ ap (bits 6 0) fields.characteristics ∙ address_in due.there.endpoint.desc fit.addr;
        number = first.1 ∙ ap (bits 11 8) fields.characteristics ∙ number_in due.there.endpoint.desc fit.addr fit.num;
      }

  -- ---- its fetch

  module _ (row : controller_row w ≡ rows.Frame) (none : w.control.frame.hand ≡ None) (a : ℕ) (q : Qh)
      (chain : chain_row w.memory w.control.frame.cursor ≡ chains.Queue a q) (at : a ≡ 32 * b) where
    fetched : HasFetched w (controller_next fixed w) a q
    fetched = has_fetched fixed w row none a q chain

    memory_same : (controller_next fixed w).memory ≡ w.memory
    memory_same = fetched.memory

    head_there : queue_head_at_address w.memory (32 * b) ≡ Some q
    head_there = ap (queue_head_at_address w.memory) (sym at) ∙ fetched.read

    same_head : due.transfer.queue ≡ q
    same_head = same_Some due.transfer.queue q (sym due.transfer.read ∙ head_there)

    abbrev held : HeldQueue
    held = record { copy = record { at = a; queue_head = q; settled = None }; made = 0 }

    part_is : (controller_next fixed w).control.part ≡ Periodic
    part_is = fetched.part

    hand_is : (controller_next fixed w).control.frame.hand ≡ Some (hands.Queue held)
    hand_is = fetched.hand

    index_is : (controller_next fixed w).control.frame.index ≡ w.control.frame.index
    index_is = fetched.index

    -- its PID is that of its endpoint's way, and so is that of the qTD to which it goes on
    goes_by : GoesBy (controller_next fixed w).driver held.copy.at (way_of due.there.endpoint)
    goes_by = record {
      at = record {
        belongs = belongs_by w.driver k.mixed.now.framed.place.sound.owners k.mixed.now.planned a e due.there.endpoint due.there.here kept
            (ap is_periodic due.there.kind) (a_queue due.there.kind (at ∙ ap (λ (i : ℕ). 32 * i) (sym due.there.queue)));
        kind = due.there.kind;
        name = at ∙ ap (λ (i : ℕ). 32 * i) (sym due.there.queue);
      };
      way = refl;
    }

    later_reads : ReadsData (controller_next fixed w)
    later_reads = mixed_worlds_read_data (controller_next fixed w) (controller_keeps_mixed fixed w k)
        (controller_keeps_data fixed w k sends)

    turned : (c : ℕ) → q.token.active ≡ false → q.token.halted ≡ false → qtd_link_of (next_pointer q) ≡ qtd_links.To c
        → turn_of (controller_next fixed w).control.frame.index q ≡ turns.Take (qtd_links.To c)
    turned c idle unhalted leads =
        let k : IsItsQueue q (microframe_of w.control.frame.index) due.there.endpoint.desc.name = its_queue q head_there in
        turn_is (controller_next fixed w).control.frame.index q false k.high
        (ap (λ (i : ℕ). has q.smask (microframe_of i)) index_is ∙ k.bit) unhalted idle
        ∙ ap turns.Take leads

    pid_by : (v : Qh) → ComesTo w.memory q v → v.token.pid ≡ pid_of (way_of due.there.endpoint)
    pid_by _ (goes_on work) =
        (mixed_worlds_read_data w k sends).heads e due.there.endpoint q due.there.here due.there.kind kept
        (ap (λ (i : ℕ). queue_head_at_address w.memory (32 * i)) due.there.queue ∙ head_there) work.active
    pid_by _ (takes c t idle unhalted leads here work) =
        ap (λ (x : Token). x.pid) (advanced_token q c t)
        ∙ later_reads.takes held c t (way_of due.there.endpoint) goes_by part_is hand_is
        (takes_row (frame_place (controller_parts (controller_next fixed w))) held c t refl (turned c idle unhalted leads)
        (ap (λ (m : Mem). qtd_at_address m c) memory_same ∙ here) work.active)

    its_transfer : ComesTo w.memory q due.transfer.works
    its_transfer = subst (λ (z : Qh). ComesTo w.memory z due.transfer.works) same_head due.transfer.next

    pub is_found : IsHeldAt fixed (controller_next fixed w) (32 * b) (microframe_of w.control.frame.index) due.there.endpoint.desc.name
        (bytes_moved due.transfer.ready.answers)
    is_found = record {
      periodic = part_is;
      index = ap microframe_of index_is;
      held = held;
      hand = hand_is;
      at = at;
      fresh = refl;
      queue = its_queue q head_there;
      free = ap (λ (c : Bus). may_not_be_used fixed.holds c.microframe) fetched.bus ∙ due.free;
      works = due.transfer.works;
      goes = subst (λ (m : Mem). GoesTo m q due.transfer.works) (sym memory_same)
          (comes_goes w.memory (32 * b) q due.transfer.works head_there its_transfer);
      can = ready_as fixed w.bus (controller_next fixed w).bus due.there.endpoint.desc.name due.transfer.works due.transfer.works
          (bytes_moved due.transfer.ready.answers) (sym fetched.bus) refl refl
          (record { ready = due.transfer.ready; moves = refl });
      pid = pid_by due.transfer.works its_transfer;
    }
