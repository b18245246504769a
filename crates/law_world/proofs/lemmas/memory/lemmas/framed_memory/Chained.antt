-- An accepted open of an interrupt endpoint, beside both walks: it takes runs that are kept, writes in these alone, and begins to link its queue head.
use Rattle.std.proofs.Common.{◌≡◌, ℕ, ◌*◌, ◌/◌, ◌<◌, Bool, List, [], ◌∷◌, length, drop, get_or, slice_get, slice_index, Option, Some, Ok, ap, refl, sym, subst, ◌∙◌, ⊎_elim, arith}
use Rattle.law_world.proofs.Common2.{linking_led}
use Rattle.law_frame_list.proofs.Common.{has_run}
use Rattle.law_common.proofs.Lists.{drop_first, pushed_there}
use Rattle.usb_base.specs.declared.endpoints.EpDesc.{EpDesc}
use Rattle.word_mem.specs.Memory.{Mem, IsShaped}
use Rattle.qh_qtd.specs.Qtd.{qtd_words}
use Rattle.qh_qtd.specs.QueueHead.{qh_words}
use Rattle.qh_qtd.specs.declared.queue_head.Qh.{Qh}
use Rattle.mem_runs.specs.declared.slots.Slot.{Slot}
use Rattle.mem_runs.specs.Book.{Holding, holding, slot_of, store_words, Stands}
use Rattle.bandwidth.specs.declared.placements.Placement.{Placement}
use Rattle.drv_chains.specs.Chains.{Schedule}
use Rattle.drv_periodic_table.specs.Periodic.{queue_member}
use Rattle.drv_periodic_table.specs.Linking.{new_link}
use Rattle.drv_table.specs.declared.content.Endpoint.{Endpoint}
use Rattle.drv_table.specs.DriverContent.{DriverContent}
use Rattle.drv_table.specs.Words.{interrupt_head, dummy_qtd}
use Rattle.drv_table.specs.Accepting.{Offered, take_runs}
use Rattle.drv_table.specs.Offers.{placed_endpoint, accepted_chain}
use Rattle.law_driver.specs.run_owners.Accepts.{Chains, chains}
use Rattle.claims_driver.specs.Owners.{SlotHas, EndpointRuns, TransferRuns, Views, runs_of_endpoint, views_of}
use Rattle.claims_driver.specs.Leaving.{HasOwners}
use Rattle.law_driver.proofs.lemmas.run_owners.Taking.{AreTaken, AreTakenSome, runs_taken}
use Rattle.law_driver.proofs.lemmas.run_owners.Accepted.{fresh_differs, push_case}
use Rattle.law_driver.proofs.lemmas.ring_members.Stores.{slots_apart, words_elsewhere}
use Rattle.hc_core.specs.Controller.{Content}
use Rattle.law_structures.specs.lent_structures.Structures.{StructureSets}
use Rattle.law_structures.specs.lent_structures.Changes.{Leaves}
use Rattle.law_ring.specs.Hand.{Hand}
use Rattle.claims_base.specs.Controller.{Base}
use Rattle.law_driver_ring.specs.Inventory.{sorts_of, IsTransferIn, IsDriven}
use Rattle.law_driver_ring.specs.Extents.{AreInRuns}
use Rattle.law_driver_ring.proofs.PartAccepting.{IsAsLarge, words_large}
use Rattle.law_driver_ring.proofs.PartSlots.{taken_leaves}
use Rattle.law_driver_ring.proofs.Taken.{takes_on, new_not_lent}
use Rattle.law_driver_ring.proofs.Opens.{OneMore, driven_more, open_one_more}
use Rattle.law_frames.specs.Met.{Kind}
use Rattle.law_frames.specs.FrameHand.{FrameHand}
use Rattle.law_descriptors.specs.Meeting.{standing, kind_at}
use Rattle.law_descriptors.proofs.Others.{commands_describe}
use Rattle.law_world.specs.memory.framed_memory.Now.{IsFramedNow}
use Rattle.law_world.proofs.lemmas.memory.lemmas.framed_memory.StillStanding.{IsThereStill, pushed_still, recent_still}
use Rattle.law_world.specs.memory.framed_memory.Chained.{ChainKeepsNow}
use Rattle.law_world.proofs.lemmas.memory.lemmas.framed_memory.QueueAccepting.{AcceptsBeside, accepted}

-- ---- memory

pub chain_leaves : (d : DriverContent) (m : Mem) (x : EpDesc) (p : Placement) (g : Holding) (bs : List ℕ) → Stands (holding d.book m) → IsShaped m → AreTaken (holding d.book m) g (2 ∷ 1 ∷ []) bs → Leaves m (accepted_chain d x p g (get_or bs 0 0) (get_or bs 1 0)).memory
chain_leaves d m x p g bs stands shape taken =
    let queue = get_or bs 0 0 in
    let dummy = get_or bs 1 0 in
    let head : Qh = interrupt_head x p.smask p.cmask (new_link d.periodic.list (queue_member queue p)) dummy in
    let mid = store_words g.book g.memory queue (32 * queue) (qh_words head) in
    let after = store_words g.book mid dummy (32 * dummy) (qtd_words dummy_qtd) in
    let one : IsAsLarge g.memory mid = words_large g.book g.memory queue (32 * queue) (qh_words head) in
    let other : IsAsLarge mid after = words_large g.book mid dummy (32 * dummy) (qtd_words dummy_qtd) in
    let two : 1 < length bs = omega (arith, taken.long) in
    let apart = slots_apart g taken.stands in
    taken_leaves after stands shape taken (other.size ∙ one.size) (other.states ∙ one.states)
    (λ c other there here.
    words_elsewhere g.book mid dummy c (32 * dummy) other (qtd_words dummy_qtd) apart (λ is. fresh_differs 1 c taken two there (sym is)) here
    ∙ words_elsewhere g.book g.memory queue c (32 * queue) other (qh_words head) apart (λ is. fresh_differs 0 c taken (omega (arith, two)) there (sym is)) here
    ∙ ap (λ ws. slice_index ws (other / 4)) taken.words)

-- ---- one endpoint more, of which nothing is lent

chain_one_more : (d : DriverContent) (m : Mem) (x : EpDesc) (p : Placement) (g : Holding) (bs : List ℕ) → HasOwners d → take_runs (holding d.book m) (2 ∷ 1 ∷ []) ≡ Ok g → AreTaken (holding d.book m) g (2 ∷ 1 ∷ []) bs
    → OneMore (views_of d) (views_of (accepted_chain d x p g (get_or bs 0 0) (get_or bs 1 0)).driver) (runs_of_endpoint (placed_endpoint x p (get_or bs 0 0) (get_or bs 1 0))) (length d.endpoints)
chain_one_more d m x p g bs has runs taken =
    let two : 1 < length bs = omega (arith, taken.long) in
    let y : Endpoint = placed_endpoint x p (get_or bs 0 0) (get_or bs 1 0) in
    record {
      takes = takes_on (holding d.book m) g (2 ∷ 1 ∷ []) bs runs taken;
      old = λ e z there. pushed_there runs_of_endpoint d.endpoints y e z there;
      endpoints = λ e z there. push_case runs_of_endpoint d.endpoints y e z there;
      queue = λ lent. new_not_lent 0 runs taken (omega (arith, two)) lent;
      dummy = λ lent. new_not_lent 1 runs taken two lent;
      transfers = λ t. refl;
      notes = λ b. refl;
      within = (open_one_more d m x g bs has runs taken).within;
    }

-- ---- how far the structures reach

slots_still : (h g : Holding) (ns bs : List ℕ) → AreTaken h g ns bs → (c k : ℕ) → SlotHas (slot_of h.book.slots c) k → SlotHas (slot_of g.book.slots c) k
slots_still h g ns bs taken c k has = subst (λ (s : Slot). SlotHas s k) (sym (taken.old c (has_run (slot_of h.book.slots c) k has))) has

transfer_before : (v w : Views) (y : EndpointRuns) (count t : ℕ) (z : TransferRuns) (x : EndpointRuns) → OneMore v w y count → IsTransferIn w t z x → IsTransferIn v t z x
transfer_before v w y count t z x more is =
    let there = sym (more.transfers t) ∙ is.here in
    record {
      here = there;
      held = is.held;
      qtds = is.qtds;
      queue = record {
        here = ⊎_elim (λ (old : v.endpoint z.endpoint ≡ Some x). old) (λ (new : (z.endpoint ≡ count) × (x ≡ y)). absurd (more.within t z there new.0)) (more.endpoints z.endpoint x is.queue.here);
        queued = is.queue.queued;
      };
    }

chain_extents : (d : DriverContent) (m : Mem) (x : EpDesc) (p : Placement) (g : Holding) (bs : List ℕ) (parts : StructureSets) → HasOwners d → take_runs (holding d.book m) (2 ∷ 1 ∷ []) ≡ Ok g → AreTaken (holding d.book m) g (2 ∷ 1 ∷ []) bs
    → AreInRuns (views_of d) parts → AreInRuns (views_of (accepted_chain d x p g (get_or bs 0 0) (get_or bs 1 0)).driver) parts
chain_extents d m x p g bs parts has runs taken lies =
    let w : Views = views_of (accepted_chain d x p g (get_or bs 0 0) (get_or bs 1 0)).driver in
    let y : EndpointRuns = runs_of_endpoint (placed_endpoint x p (get_or bs 0 0) (get_or bs 1 0)) in
    let more : OneMore (views_of d) w y (length d.endpoints) = chain_one_more d m x p g bs has runs taken in
    record {
      list = lies.list;
      buffers = λ t b c cs z r pages k vs is piece first here j inside.
          let was = lies.buffers t b c cs z r pages k vs (transfer_before (views_of d) w y (length d.endpoints) t z r more is) piece first here j inside in
          record { at = was.at; among = was.among; has = slots_still (holding d.book m) g (2 ∷ 1 ∷ []) bs taken was.at j was.has };
    }

-- ---- the law

module _ (base : Base) (member : ℕ → Bool) (recent : ℕ → Option Kind) (descs parts : StructureSets) (hand : Hand) (frame : FrameHand) (c : Content) (d : DriverContent) (o : Offered) (k : IsFramedNow base member recent descs parts hand frame c d) (why : Chains d c.memory o) where
  abbrev g : Holding
  g = why.holding_after

  taken : AreTakenSome (holding d.book c.memory) g (2 ∷ 1 ∷ [])
  taken = runs_taken (holding d.book c.memory) g (2 ∷ 1 ∷ []) k.framed.place.sound.stands why.runs

  abbrev now : List ℕ → Offered
  now bs = accepted_chain d why.desc why.placement g (get_or bs 0 0) (get_or bs 1 0)

  is : o ≡ now taken.blocks
  is = why.is ∙ ap now (ap (drop (length d.book.taken)) taken.are.taken ∙ drop_first d.book.taken taken.blocks)

  -- its linking has made no store
  same : (n : ℕ) → standing o.driver n ≡ standing d n
  same n =
      ap (λ (f : Offered). standing f.driver n) is
      ∙ ap (λ (s : Schedule). kind_at d.periodic s n) (linking_led d.periodic.list (queue_member (get_or taken.blocks 0 0) why.placement) k.framed.list.list.order.kept)

  chained : AcceptsBeside d c.memory o descs parts recent c.registers.frame_index
  chained =
      let owners : HasOwners d = k.framed.place.sound.owners in
      let bs : List ℕ = taken.blocks in
      let new : Endpoint = placed_endpoint why.desc why.placement (get_or bs 0 0) (get_or bs 1 0) in
      record {
        leaves = subst (λ (f : Offered). Leaves c.memory f.memory) (sym is)
            (chain_leaves d c.memory why.desc why.placement g bs k.framed.place.sound.stands k.framed.place.sound.shape taken.are);
        told = record {
          driven = subst (λ (f : Offered). IsDriven (views_of f.driver) (sorts_of parts)) (sym is)
              (driven_more (views_of d) (views_of (now bs).driver) (runs_of_endpoint new) (length d.endpoints) (sorts_of parts)
              (chain_one_more d c.memory why.desc why.placement g bs owners why.runs taken.are) k.framed.driven);
          extents = subst (λ (f : Offered). AreInRuns (views_of f.driver) parts) (sym is)
              (chain_extents d c.memory why.desc why.placement g bs parts owners why.runs taken.are k.framed.extents);
          described = commands_describe d c.memory o descs (chains why) k.framed.place.sound.stands k.framed.described;
        };
        same = same;
        recent_are = recent_still d o.driver recent c.registers.frame_index why.idle
            (λ e x at. subst (λ (f : Offered). IsThereStill f.driver.endpoints e x) (sym is) (pushed_still d.endpoints (new ∷ []) e x at))
            (λ t y at. ap (λ (f : Offered). slice_get f.driver.transfers t) is ∙ at) (ap (λ (f : Offered). f.driver.periodic.removals) is) k.recent_are;
      }

pub chain_keeps_now : ChainKeepsNow
chain_keeps_now base member recent descs parts hand frame c d cmd o k why room is =
    accepted base member recent descs parts hand frame c d cmd o k (chained base member recent descs parts hand frame c d o k why) room is
