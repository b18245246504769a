-- Each accepted command keeps the ring standing for the driver's content.
use Rattle.std.proofs.Common.{Bool, append_assoc, length-take, ◌||◌, ◌≡◌, ◌≢◌, ℕ, zero, suc, ◌+◌, ◌-◌, ◌*◌, ◌/◌, ◌%◌, ◌<◌, ◌≤◌, true, false, cond, List, [], ◌∷◌, ◌++◌, length, take, drop, replicate, get_or, set, slice_get, slice_index, Option, Some, None, option_map, ap, sym, subst, ◌∙◌, ⊎_elim, refl, arith, length-append, length-drop}
use Rattle.std.specs.Prelude.{is_some}
use Rattle.std.proofs.lemmas.Bool.{cases_eq, false≢true}
use Rattle.std.proofs.lemmas.Option.{same_Some}
use Rattle.std.proofs.lemmas.List.{length-replicate, get_or-take, get_or-drop}
use Rattle.law_driver.proofs.Common.{drop_old, blocks_run, iso_frames}
use Rattle.law_common.proofs.Lists.{all_at, set_here, set_there, drop_first, push_which}
use Rattle.usb_base.specs.declared.endpoints.EpDesc.{EpDesc}
use Rattle.word_mem.specs.Memory.{Mem, IsShaped, word_at}
use Rattle.qh_qtd.specs.QueueHead.{qh_words}
use Rattle.qh_qtd.specs.Qtd.{qtd_words}
use Rattle.mem_runs.specs.Book.{Book, Holding, holding, Stands, slot_of, store, store_words}
use Rattle.drv_table.specs.declared.content.Endpoint.{Endpoint}
use Rattle.drv_table.specs.declared.content.Transfer.{Transfer}
use Rattle.drv_table.specs.declared.content.QtdNote.{QtdNote}
use Rattle.drv_table.specs.declared.content.Stage.{Stage}
use Rattle.drv_table.specs.declared.content.Command.{Command}
use Rattle.bandwidth.specs.declared.placements.Placement.{Placement}
use Rattle.drv_periodic_table.specs.declared.content.DescriptorNote.{DescriptorNote}
use Rattle.drv_periodic_table.specs.Periodic.{is_periodic, queue_member}
use Rattle.drv_periodic_table.specs.Linking.{new_link}
use Rattle.drv_periodic_table.specs.Descriptors.{buffer_address as descriptor_address, is_in, descriptor_words, seeded_word, write_seeded}
use Rattle.drv_table.specs.declared.content.Slots.{Slots}
use Rattle.drv_table.specs.declared.content.Command.TheVariants as unfinished
use Rattle.drv_table.specs.Kinds.{is_iso}
use Rattle.drv_table.specs.DriverContent.{DriverContent}
use Rattle.drv_table.specs.Words.{head_block, queue_head_link, queue_head, interrupt_head, dummy_qtd, needs, pieces}
use Rattle.drv_table.specs.Harvests.{note_at}
use Rattle.drv_table.specs.Accepting.{Offered, new_runs, newest_of, oldest_of, first_waiting}
use Rattle.drv_table.specs.Offers.{Asked, new_endpoint, placed_endpoint, note_stages, write_stages, send_stages, with_queued, new_transfer, accepted_open, accepted_chain, accepted_transfer}
use Rattle.drv_table.specs.IsoOffers.{Descriptors, total_of, slot_runs, iso_needs, descriptor_note, descriptor_transfer, one_descriptor, all_descriptors, entered_iso}
use Rattle.drv_table.specs.CancelOffers.{accepted_cancel, endpoint_members, with_cancel, first_end}
use Rattle.law_driver.specs.run_owners.Accepts.{Accepts, opens, chains, places, transfers, describes, cancels, unchains, Describes}
use Rattle.claims_driver.specs.Owners.{Owner, FrameList, Head, QueueHead, Dummy, Element, Described, Buffer, HasRun, SlotHas, IsPlaced, runs_of_endpoint, is_descriptor}
use Rattle.claims_driver.specs.Leaving.{HasOwners}
use Rattle.law_driver.proofs.lemmas.run_owners.Runs.{placed_run}
use Rattle.law_driver.proofs.lemmas.run_owners.Orders.{times_both, set_case}
use Rattle.law_driver.proofs.lemmas.run_owners.Taking.{AreTaken, runs_taken}
use Rattle.law_driver.proofs.lemmas.run_owners.Chains.{buffers_of}
use Rattle.law_driver.proofs.lemmas.run_owners.Accepted.{fresh_differs, within_slots}
use Rattle.law_driver.proofs.lemmas.run_owners.Transferred.{are_new, goes_on_alive}
use Rattle.claims_driver.specs.Ring.{link_in}
use Rattle.law_driver.specs.ring_members.Words.{step_to, LeadsFrom, AreLinked, AreLeaving, IsDescribing, StandsFor, IsRing}
use Rattle.law_driver.proofs.lemmas.ring_members.Links.{linked_kept, linked_same}
use Rattle.law_driver.proofs.lemmas.ring_members.Stores.{AreNotAt, AreApart, slots_apart, store_elsewhere, words_elsewhere, stages_elsewhere, sends_elsewhere, first_stored}
use Rattle.law_driver.proofs.lemmas.ring_members.Leaving.{GoOn, same_go_on, leaving_kept}
use Rattle.law_driver.proofs.lemmas.ring_members.Placed.{has_word, has_queue, can_begin, in_ring_alive, queue_placed, head_run_there, left_alive, word_inside}
use Rattle.law_driver.proofs.lemmas.ring_members.Harvests.{endpoint_set}
use Rattle.law_driver.proofs.lemmas.ring_members.Noted.{noted_apart}
use Rattle.law_driver.proofs.lemmas.ring_members.Events.{kept_still, or_finished_ring}

-- ---- the words that were there

-- the first words of the queue heads and of the head, by their owners
abbrev KeepsQueues : DriverContent → (ℕ → Owner) → (ℕ → ℕ) → (ℕ → ℕ) → Type 0
KeepsQueues d owner word now = ((c e : ℕ) → IsPlaced (slot_of d.book.slots) owner c (QueueHead e) → now c ≡ word c) × (now head_block ≡ word head_block)

linked_through : (word now : ℕ → ℕ) (d : DriverContent) → (has : HasOwners d) → KeepsQueues d has.owner word now → (b : ℕ) → AreLinked word b d.endpoints → AreLinked now b d.endpoints
linked_through word now d has keeps b linked =
    linked_kept word now b d.endpoints (λ i x here on. keeps.0 x.queue i (queue_placed d i x has here (in_ring_alive d i x has.orderly here on))) keeps.1 linked

leaving_through : (word now : ℕ → ℕ) (d : DriverContent) (ys : List Endpoint) → (has : HasOwners d) → KeepsQueues d has.owner word now → GoOn d.endpoints ys → AreLeaving word d.endpoints (d.rung ++ d.waiting) → AreLeaving now ys (d.rung ++ d.waiting)
leaving_through word now d ys has keeps on all =
    leaving_kept word now d.endpoints ys (d.rung ++ d.waiting) on
    (λ f y among here.
    let l = left_alive d f y (d.rung ++ d.waiting) has.orderly (omega (arith, times_both f d.rung d.waiting)) among here in
    keeps.0 y.queue f (queue_placed d f y has here l.0)) all

idle_linked : (word : ℕ → ℕ) (d : DriverContent) → d.command ≡ None → IsRing word d → AreLinked word head_block d.endpoints
idle_linked word d idle old = subst (λ (o : Option Command). StandsFor word d.endpoints d.transfers o) idle old.ring

-- ---- an open

link_first : (x : EpDesc) (link dummy : ℕ) → (ws : List ℕ) × (qh_words (queue_head x link dummy) ≡ queue_head_link link ∷ ws)
unfolding qh_words
link_first x link dummy =
    let e : 32 * link + (1 * 2 + 0) ≡ queue_head_link link = omega arith in
    (drop 1 (qh_words (queue_head x link dummy)), ap (λ w. w ∷ drop 1 (qh_words (queue_head x link dummy))) e)

pub one_more_on : (xs : List Endpoint) (y : Endpoint) → GoOn xs (xs ++ y ∷ [])
one_more_on xs y f z here = record { endpoint = z; here = more xs f here; queue = refl; linked = λ on. on }
  where
    more : (xs : List Endpoint) (f : ℕ) → slice_get xs f ≡ Some z → slice_get (xs ++ y ∷ []) f ≡ Some z
    more [] f here = absurd (cc)
    more (x ∷ xs) zero here = here
    more (x ∷ xs) (suc f) here = more xs f here

open_ring : (d : DriverContent) (m : Mem) (desc : EpDesc) (g : Holding) (bs : List ℕ) → Stands (holding d.book m) → IsShaped g.memory → AreTaken (holding d.book m) g (2 ∷ 1 ∷ []) bs → d.command ≡ None → HasOwners d → IsRing (link_in m) d → IsRing (link_in (accepted_open d desc g (get_or bs 0 0) (get_or bs 1 0)).memory) (accepted_open d desc g (get_or bs 0 0) (get_or bs 1 0)).driver
open_ring d m desc g bs stands shape taken idle has old =
    let queue = get_or bs 0 0 in
    let dummy = get_or bs 1 0 in
    let k = g.book in
    let apart = slots_apart g taken.stands in
    let head = queue_head desc (newest_of d.endpoints) dummy in
    let mid = store_words k g.memory queue (32 * queue) (qh_words head) in
    let now = link_in (store_words k mid dummy (32 * dummy) (qtd_words dummy_qtd)) in
    let two : 1 < length bs = omega (arith, taken.long) in
    let run : (c : ℕ) → HasRun (slot_of d.book.slots c) → SlotHas (slot_of k.slots c) (32 * c / 32) = λ c there. has_word g c taken.stands (subst HasRun (sym (taken.old c there)) there) in
    let same : (c : ℕ) → HasRun (slot_of d.book.slots c) → now c ≡ link_in m c = λ c there.
    words_elsewhere k mid dummy c (32 * dummy) (32 * c) (qtd_words dummy_qtd) apart (λ is. fresh_differs 1 c taken two there (sym is)) (run c there)
    ∙ words_elsewhere k g.memory queue c (32 * queue) (32 * c) (qh_words head) apart (λ is. fresh_differs 0 c taken (omega (arith, two)) there (sym is)) (run c there)
    ∙ ap (λ ws. slice_index ws (32 * c / 4)) taken.words in
    let new_run = blocks_run 2 (slot_of k.slots queue) (taken.new 0 (omega (arith, two))) in
    let f = link_first desc (newest_of d.endpoints) dummy in
    let link : now queue ≡ queue_head_link (newest_of d.endpoints) =
    words_elsewhere k mid dummy queue (32 * dummy) (32 * queue) (qtd_words dummy_qtd) apart (λ is. taken.distinct 0 1 (omega arith) two (sym is)) (has_word g queue taken.stands new_run)
    ∙ ap (λ ws. word_at (store_words k g.memory queue (32 * queue) ws) (32 * queue)) f.1
    ∙ first_stored k g.memory queue (32 * queue) (queue_head_link (newest_of d.endpoints)) f.0 (can_begin g queue taken.stands new_run) (word_inside g queue taken.stands shape new_run) in
    let keeps : KeepsQueues d has.owner (link_in m) now = (λ c e p. same c (placed_run c (QueueHead e) p), same head_block (head_run_there d has)) in
    record {
      ring = record {
        older = d.endpoints;
        new = new_endpoint desc queue dummy;
        all = refl;
        linked = refl;
        here = refl;
        ring = linked_through (link_in m) now d has keeps head_block (idle_linked (link_in m) d idle old);
        link = link;
      };
      leaving = leaving_through (link_in m) now d (d.endpoints ++ new_endpoint desc queue dummy ∷ []) has keeps (one_more_on d.endpoints (new_endpoint desc queue dummy)) old.leaving;
      mends = old.mends;
      kept = λ e x there ring fresh.
          ⊎_elim (λ (w : slice_get d.endpoints e ≡ Some x). old.kept e x w ring fresh)
          (λ (w : (e ≡ length d.endpoints) × (x ≡ new_endpoint desc queue dummy)). ap (λ (z : Endpoint). z.linked) w.1)
          (push_which d.endpoints (new_endpoint desc queue dummy) e x there);
    }

pub shaped_taken : {h g : Holding} {ns bs : List ℕ} → AreTaken h g ns bs → Stands h → IsShaped h.memory → IsShaped g.memory
shaped_taken taken stands shape =
    let words = ap length taken.words in
    record {
      at_least = omega (arith, words, shape.at_least);
      at_most = omega (arith, words, shape.at_most);
      whole_pages = subst (λ (ws : List ℕ). length ws % 1024 ≡ 0) (sym taken.words) shape.whole_pages;
      eight_each = omega (arith, words, shape.eight_each, taken.stands.sizes, taken.many, stands.sizes);
    }

-- ---- an open of a periodic endpoint, which isn't in the ring

outside_ring : (word : ℕ → ℕ) (b : ℕ) (xs : List Endpoint) (y : Endpoint) → y.linked ≡ false → AreLinked word b xs → AreLinked word b (xs ++ y ∷ [])
outside_ring word b [] y off linked = (
  subst (λ (t : Bool). LeadsFrom word t y.queue b) (sym off) tt,
  subst (λ (t : Bool). word head_block ≡ queue_head_link (cond t y.queue b)) (sym off) linked,
)
outside_ring word b (x ∷ xs) y off linked = (linked.0, outside_ring word (step_to b x) xs y off linked.1)

outside_kept : (d : DriverContent) (y : Endpoint) → is_periodic y.desc.kind ≡ true → ((e : ℕ) (x : Endpoint) → slice_get d.endpoints e ≡ Some x → is_periodic x.desc.kind ≡ false → x.cancelled ≡ false → x.linked ≡ true) → (e : ℕ) (x : Endpoint) → slice_get (d.endpoints ++ y ∷ []) e ≡ Some x → is_periodic x.desc.kind ≡ false → x.cancelled ≡ false → x.linked ≡ true
outside_kept d y frames old e x there ring fresh =
    ⊎_elim (λ (w : slice_get d.endpoints e ≡ Some x). old e x w ring fresh)
    (λ (w : (e ≡ length d.endpoints) × (x ≡ y)). absurd (false≢true (sym ring ∙ ap (λ (z : Endpoint). is_periodic z.desc.kind) w.1 ∙ frames)))
    (push_which d.endpoints y e x there)

chain_ring : (d : DriverContent) (m : Mem) (desc : EpDesc) (p : Placement) (g : Holding) (bs : List ℕ) → AreTaken (holding d.book m) g (2 ∷ 1 ∷ []) bs → is_periodic desc.kind ≡ true → d.command ≡ None → HasOwners d → IsRing (link_in m) d → IsRing (link_in (accepted_chain d desc p g (get_or bs 0 0) (get_or bs 1 0)).memory) (accepted_chain d desc p g (get_or bs 0 0) (get_or bs 1 0)).driver
chain_ring d m desc p g bs taken frames idle has old =
    let queue = get_or bs 0 0 in
    let dummy = get_or bs 1 0 in
    let k = g.book in
    let apart = slots_apart g taken.stands in
    let ws = qh_words (interrupt_head desc p.smask p.cmask (new_link d.periodic.list (queue_member queue p)) dummy) in
    let mid = store_words k g.memory queue (32 * queue) ws in
    let now = link_in (store_words k mid dummy (32 * dummy) (qtd_words dummy_qtd)) in
    let two : 1 < length bs = omega (arith, taken.long) in
    let y = placed_endpoint desc p queue dummy in
    let run : (c : ℕ) → HasRun (slot_of d.book.slots c) → SlotHas (slot_of k.slots c) (32 * c / 32) = λ c there. has_word g c taken.stands (subst HasRun (sym (taken.old c there)) there) in
    let same : (c : ℕ) → HasRun (slot_of d.book.slots c) → now c ≡ link_in m c = λ c there.
    words_elsewhere k mid dummy c (32 * dummy) (32 * c) (qtd_words dummy_qtd) apart (λ is. fresh_differs 1 c taken two there (sym is)) (run c there)
    ∙ words_elsewhere k g.memory queue c (32 * queue) (32 * c) ws apart (λ is. fresh_differs 0 c taken (omega (arith, two)) there (sym is)) (run c there)
    ∙ ap (λ vs. slice_index vs (32 * c / 4)) taken.words in
    let keeps : KeepsQueues d has.owner (link_in m) now = (λ c e q. same c (placed_run c (QueueHead e) q), same head_block (head_run_there d has)) in
    record {
      ring = outside_ring now head_block d.endpoints y refl (linked_through (link_in m) now d has keeps head_block (idle_linked (link_in m) d idle old));
      leaving = leaving_through (link_in m) now d (d.endpoints ++ y ∷ []) has keeps (one_more_on d.endpoints y) old.leaving;
      mends = old.mends;
      kept = outside_kept d y frames old.kept;
    }

-- ---- a transfer

unfoldable pub owner_kind : Owner → ℕ
owner_kind FrameList = 0
owner_kind Head = 1
owner_kind (QueueHead e) = 2
owner_kind (Dummy e) = 3
owner_kind (Element t) = 4
owner_kind (Described split t) = 6
owner_kind (Buffer t) = 5

pub other_kind : (owner : ℕ → Owner) (b c : ℕ) (o q : Owner) → owner b ≡ o → owner c ≡ q → owner_kind o ≢ owner_kind q → c ≢ b
other_kind owner b c o q one two differ = λ same. differ (ap owner_kind (sym one) ∙ ap (λ k. owner_kind (owner k)) (sym same) ∙ ap owner_kind two)

-- the stages after the first, from the block after it on
tail_not : (notes : List QtdNote) (c b : ℕ) (ss : List Stage) → 1 ≤ length ss → AreNotAt notes c b (length ss) → AreNotAt notes c (note_at notes b).next (length (drop 1 ss))
tail_not notes c b [] some all = absurd (omega arith)
tail_not notes c b (s ∷ ss) some all = all.1

-- a block of the book that is none of the new ones keeps its words
pub transfer_word : (d : DriverContent) (m : Mem) (a : Asked) (g : Holding) (bs : List ℕ) (owner : ℕ → Owner) (e b c other : ℕ) → AreTaken (holding d.book m) g (needs a.stages) bs → 1 ≤ length a.stages → length d.notes ≡ length d.book.slots → IsPlaced (slot_of d.book.slots) owner b (Dummy e) → HasRun (slot_of d.book.slots c) → c ≢ b → c ≢ 0 → SlotHas (slot_of g.book.slots c) (other / 32)
    → word_at (send_stages g.book (store_words g.book (write_stages g.book g.memory (note_stages d.notes a.stages b (take (length a.stages) bs) (drop (length a.stages) bs)) (get_or (take (length a.stages) bs) (length a.stages - 1) 0) (drop 1 a.stages) (note_at (note_stages d.notes a.stages b (take (length a.stages) bs) (drop (length a.stages) bs)) b).next) (get_or (take (length a.stages) bs) (length a.stages - 1) 0) (32 * get_or (take (length a.stages) bs) (length a.stages - 1) 0) (qtd_words dummy_qtd)) (note_stages d.notes a.stages b (take (length a.stages) bs) (drop (length a.stages) bs)) a.stages b a.bytes) other ≡ word_at m other
transfer_word d m a g bs owner e b c other taken some sizes was run differs not_list at =
    let ss = a.stages in
    let n = length ss in
    let qtds = take n bs in
    let runs = drop n bs in
    let dummy = get_or qtds (n - 1) 0 in
    let notes = note_stages d.notes ss b qtds runs in
    let k = g.book in
    let apart = slots_apart g taken.stands in
    let new = are_new ss owner b e 0 some taken was in
    let long : length bs ≡ n + length (buffers_of ss) = taken.long ∙ length-append (replicate n 1) (buffers_of ss) ∙ ap (λ j. j + length (buffers_of ss)) (length-replicate {A = ℕ} n 1) in
    let rest : length runs + n ≡ length bs = omega (arith, length-drop n bs, long) in
    let away = new.apart c run differs in
    let out = noted_apart c d.notes ss b qtds runs not_list away
    (λ i below. omega (arith, within_slots (get_or (b ∷ qtds) i 0) taken (placed_run (get_or (b ∷ qtds) i 0) (Element 0) (new.elements i below)), taken.many, sizes))
    new.distinct
    (all_at (λ x. c ≢ x) runs (λ i below same. fresh_differs (n + i) c taken (omega (arith, below, rest)) run (sym (get_or-drop n bs i 0) ∙ sym same))) in
    let mid = write_stages k g.memory notes dummy (drop 1 ss) (note_at notes b).next in
    let mid2 = store_words k mid dummy (32 * dummy) (qtd_words dummy_qtd) in
    let last : c ≢ dummy = λ same. fresh_differs (n - 1) c taken (omega (arith, some, long)) run (sym (get_or-take n bs (n - 1) 0 (omega (arith, some))) ∙ sym same) in
    sends_elsewhere k mid2 notes ss b a.bytes c other apart at out.1
    ∙ words_elsewhere k mid dummy c (32 * dummy) other (qtd_words dummy_qtd) apart last at
    ∙ stages_elsewhere k g.memory notes dummy (drop 1 ss) (note_at notes b).next c other apart at (tail_not notes c b ss some out.0)
    ∙ ap (λ ws. slice_index ws (other / 4)) taken.words

transfer_ring : (d : DriverContent) (m : Mem) (e : ℕ) (x : Endpoint) (a : Asked) (g : Holding) (bs : List ℕ) → AreTaken (holding d.book m) g (needs a.stages) bs → 1 ≤ length a.stages → slice_get d.endpoints e ≡ Some x → is_iso x.desc.kind || x.gone ≡ false → d.command ≡ None → HasOwners d → IsRing (link_in m) d
    → IsRing (link_in (accepted_transfer d e x a g (get_or (take (length a.stages) bs) (length a.stages - 1) 0) (note_stages d.notes a.stages x.dummy (take (length a.stages) bs) (drop (length a.stages) bs))).memory) (accepted_transfer d e x a g (get_or (take (length a.stages) bs) (length a.stages - 1) 0) (note_stages d.notes a.stages x.dummy (take (length a.stages) bs) (drop (length a.stages) bs))).driver
unfolding owner_kind
transfer_ring d m e x a g bs taken some here alive idle has old =
    let dummy = get_or (take (length a.stages) bs) (length a.stages - 1) 0 in
    let notes = note_stages d.notes a.stages x.dummy (take (length a.stages) bs) (drop (length a.stages) bs) in
    let now = link_in (accepted_transfer d e x a g dummy notes).memory in
    let was = has.owned.each.dummy e (runs_of_endpoint x) (ap (option_map runs_of_endpoint) here) alive in
    let list = has.owned.each.list in
    let same : (c : ℕ) (o : Owner) → IsPlaced (slot_of d.book.slots) has.owner c o → owner_kind o ≢ 3 → owner_kind o ≢ 0 → now c ≡ link_in m c = λ c o p one two.
    transfer_word d m a g bs has.owner e x.dummy c (32 * c) taken some has.owned.sizes was (placed_run c o p)
    (other_kind has.owner x.dummy c (Dummy e) o was.owned p.owned (λ k. one (sym k)))
    (other_kind has.owner 0 c FrameList o list.owned p.owned (λ k. two (sym k)))
    (has_word g c taken.stands (subst HasRun (sym (taken.old c (placed_run c o p))) (placed_run c o p))) in
    let keeps : KeepsQueues d has.owner (link_in m) now =
    (λ c f p. same c (QueueHead f) p (λ k. omega (arith, k)) (λ k. omega (arith, k)), same head_block Head has.owned.each.head (λ k. omega (arith, k)) (λ k. omega (arith, k))) in
    let y = with_queued x dummy (length d.transfers) in
    let same_ring = endpoint_set d.endpoints e x y here refl in
    record {
      ring = record {
        ring = linked_same now head_block d.endpoints (set d.endpoints e y) same_ring (linked_through (link_in m) now d has keeps head_block (idle_linked (link_in m) d idle old));
        number = length d.transfers;
        transfer = new_transfer e a x.dummy;
        there = last_pushed d.transfers (new_transfer e a x.dummy);
        first = refl;
        released = refl;
        some = some;
      };
      leaving = leaving_through (link_in m) now d (set d.endpoints e y) has keeps (same_go_on d.endpoints (set d.endpoints e y) same_ring) old.leaving;
      mends = old.mends;
      kept = kept_still d.endpoints (set d.endpoints e y) same_ring old.kept;
    }
  where
    last_pushed : (ts : List Transfer) (t : Transfer) → slice_get (ts ++ t ∷ []) (length ts) ≡ Some t
    last_pushed [] t = refl
    last_pushed (u ∷ ts) t = last_pushed ts t

-- ---- descriptors

-- the words of an OUT's bytes go to the runs of its buffer
seeded_elsewhere : (k : Book) (m : Mem) (runs : List ℕ) (seed total i n c other : ℕ) → AreApart k.slots → SlotHas (slot_of k.slots c) (other / 32) → ((j : ℕ) → c ≢ get_or runs j 0) → word_at (write_seeded k m runs seed total i n) other ≡ word_at m other
seeded_elsewhere k m runs seed total i zero c other apart here not = refl
seeded_elsewhere k m runs seed total i (suc n) c other apart here not =
    seeded_elsewhere k (store k m (get_or runs (i / 4096) 0) (descriptor_address runs i) (seeded_word seed total i)) runs seed total (i + 4) n c other apart here not
    ∙ store_elsewhere k m (get_or runs (i / 4096) 0) c (descriptor_address runs i) (seeded_word seed total i) other apart (not (i / 4096)) here

get_any : (c : ℕ) (xs : List ℕ) (j : ℕ) → c ≢ 0 → ((i : ℕ) → i < length xs → c ≢ get_or xs i 0) → c ≢ get_or xs j 0
get_any c [] j none each = none
get_any c (x ∷ xs) zero none each = each 0 (omega arith)
get_any c (x ∷ xs) (suc j) none each = get_any c xs j none (λ i below. each (suc i) (omega arith))

note_any : (c n : ℕ) (xs : List ℕ) (j : ℕ) → c ≢ 0 → ((i : ℕ) → c ≢ get_or xs i 0) → c ≢ get_or (take 6 (take n xs ++ replicate 6 0)) j 0
note_any c n xs j none each =
    get_any c (take 6 (take n xs ++ replicate 6 0)) j none
    (λ i below.
    ap_differs c (get_or-take 6 (take n xs ++ replicate 6 0) i 0 (omega (arith, length-take 6 (take n xs ++ replicate 6 0), below)))
    (both_any c (take n xs) (replicate 6 0) i none (take_any c n xs none each) (λ k. zeros_any c 6 k none)))
  where
    ap_differs : (c : ℕ) {a b : ℕ} → a ≡ b → c ≢ b → c ≢ a
    ap_differs c same differs is = differs (is ∙ same)

    take_any : (c n : ℕ) (xs : List ℕ) → c ≢ 0 → ((i : ℕ) → c ≢ get_or xs i 0) → (i : ℕ) → c ≢ get_or (take n xs) i 0
    take_any c zero xs none each i = none
    take_any c (suc n) [] none each i = none
    take_any c (suc n) (x ∷ xs) none each zero = each 0
    take_any c (suc n) (x ∷ xs) none each (suc i) = take_any c n xs none (λ j. each (suc j)) i

    both_any : (c : ℕ) (xs ys : List ℕ) (i : ℕ) → c ≢ 0 → ((j : ℕ) → c ≢ get_or xs j 0) → ((j : ℕ) → c ≢ get_or ys j 0) → c ≢ get_or (xs ++ ys) i 0
    both_any c [] ys i none one two = two i
    both_any c (x ∷ xs) ys zero none one two = one 0
    both_any c (x ∷ xs) ys (suc i) none one two = both_any c xs ys i none (λ j. one (suc j)) two

    zeros_any : (c n k : ℕ) → c ≢ 0 → c ≢ get_or (replicate n 0) k 0
    zeros_any c zero k none = none
    zeros_any c (suc n) zero none = none
    zeros_any c (suc n) (suc k) none = zeros_any c n k none

get_dropped : (n : ℕ) (xs : List ℕ) (i : ℕ) → get_or (drop n xs) i 0 ≡ get_or xs (n + i) 0
get_dropped n xs i = get_or-drop n xs i 0

-- what is written of descriptors leaves each block that isn't one of the runs
descriptors_elsewhere : (k : Book) (e : ℕ) (x : EpDesc) (s : Slots) (n seed : ℕ) (rs : List ℕ) (a : Descriptors) (c other : ℕ) → AreApart k.slots → SlotHas (slot_of k.slots c) (other / 32) → c ≢ 0 → ((i : ℕ) → c ≢ get_or rs i 0) → word_at (all_descriptors k e x s n seed rs a).memory other ≡ word_at a.memory other
unfolding all_descriptors
descriptors_elsewhere k e x s zero seed rs a c other apart here none not = refl
descriptors_elsewhere k e x s (suc n) seed rs a c other apart here none not =
    let b = get_or rs 0 0 in
    let note = descriptor_note s (drop 1 rs) in
    let ws = descriptor_words x note in
    let mid = store_words k a.memory b (32 * b) ws in
    descriptors_elsewhere k e x s n ((seed + total_of s) % 256) (drop (suc (slot_runs s)) rs) (one_descriptor k e x s seed rs a) c other apart here none
    (λ i same. not (suc (slot_runs s) + i) (same ∙ get_dropped (suc (slot_runs s)) rs i))
    ∙ written (is_in x.name.way) b note mid (λ j. note_any c (slot_runs s) (drop 1 rs) j none (λ i same. not (1 + i) (same ∙ get_dropped 1 rs i)))
    ∙ words_elsewhere k a.memory b c (32 * b) other ws apart (not 0) here
  where
    written : (in_way : Bool) (b : ℕ) (note : DescriptorNote) (mid : Mem) → ((j : ℕ) → c ≢ get_or note.buffer j 0) → word_at (cond in_way mid (write_seeded k mid note.buffer seed (total_of s) 0 (pieces (total_of s) 4))) other ≡ word_at mid other
    written true b note mid away = refl
    written false b note mid away = seeded_elsewhere k mid note.buffer seed (total_of s) 0 (pieces (total_of s) 4) c other apart here away

-- the new transfers, behind the old ones
pub record AreAdded (a b : List Transfer) (n : ℕ) : Type 0 where
  pub new : List Transfer
  pub all : b ≡ a ++ new
  pub each : (i : ℕ) (y : Transfer) → slice_get new i ≡ Some y → (is_descriptor y.sort ≡ true) × (y.released ≡ false)

descriptors_added : (k : Book) (e : ℕ) (x : EpDesc) (s : Slots) (n seed : ℕ) (rs : List ℕ) (a : Descriptors) → AreAdded a.transfers (all_descriptors k e x s n seed rs a).transfers n
unfolding all_descriptors
descriptors_added k e x s zero seed rs a = record { new = []; all = sym (append_none a.transfers); each = λ i y there. absurd (cc) }
  where
    append_none : (ts : List Transfer) → ts ++ [] ≡ ts
    append_none [] = refl
    append_none (t ∷ ts) = ap (λ us. t ∷ us) (append_none ts)
descriptors_added k e x s (suc n) seed rs a =
    let t = descriptor_transfer e s (get_or rs 0 0) in
    let rest = descriptors_added k e x s n ((seed + total_of s) % 256) (drop (suc (slot_runs s)) rs) (one_descriptor k e x s seed rs a) in
    record { new = t ∷ rest.new; all = rest.all ∙ append_assoc a.transfers (t ∷ []) rest.new; each = λ i y there. first_or i y t rest.new there (refl, refl) rest.each }
  where
    first_or : (i : ℕ) (y t : Transfer) (us : List Transfer) → slice_get (t ∷ us) i ≡ Some y → (is_descriptor t.sort ≡ true) × (t.released ≡ false) → ((i : ℕ) (y : Transfer) → slice_get us i ≡ Some y → (is_descriptor y.sort ≡ true) × (y.released ≡ false)) → (is_descriptor y.sort ≡ true) × (y.released ≡ false)
    first_or zero y t us there one each =
        let same = same_Some t y there in
        subst (λ (z : Transfer). (is_descriptor z.sort ≡ true) × (z.released ≡ false)) same one
    first_or (suc i) y t us there one each = each i y there

take_get : (n : ℕ) (ts : List Transfer) (i : ℕ) (y : Transfer) → slice_get (take n ts) i ≡ Some y → slice_get ts i ≡ Some y
take_get zero ts i y there = absurd (cc)
take_get (suc n) [] i y there = absurd (cc)
take_get (suc n) (t ∷ ts) zero y there = there
take_get (suc n) (t ∷ ts) (suc i) y there = take_get n ts i y there

describing : (word : ℕ → ℕ) (xs : List Endpoint) (us vs : List Transfer) (n : ℕ) → AreLinked word head_block xs → AreAdded us vs n → IsDescribing word xs vs (length us) n
describing word xs us vs n ring added = record {
  ring = ring;
  described = λ i y there. added.each i y (sym (ap (λ (ws : List Transfer). slice_get ws i) (ap (drop (length us)) added.all ∙ drop_old us added.new)) ∙ take_get n (drop (length us) vs) i y there);
}

-- a block of the book keeps its words, but for the frame list's
pub described_word : (d : DriverContent) (m : Mem) (e : ℕ) (x : Endpoint) (s : Slots) (n seed : ℕ) (g : Holding) (bs : List ℕ) (owner : ℕ → Owner) (c : ℕ) (o : Owner) (other : ℕ) → AreTaken (holding d.book m) g (iso_needs s n) bs → IsPlaced (slot_of d.book.slots) owner 0 FrameList → IsPlaced (slot_of d.book.slots) owner c o → owner_kind o ≢ 0 → SlotHas (slot_of g.book.slots c) (other / 32)
    → word_at (all_descriptors g.book e x.desc s n seed bs (record { notes = d.periodic.notes; transfers = d.transfers; memory = g.memory })).memory other ≡ word_at m other
unfolding owner_kind
described_word d m e x s n seed g bs owner c o other taken list p differs at =
    let a : Descriptors = record { notes = d.periodic.notes; transfers = d.transfers; memory = g.memory } in
    let none : c ≢ 0 = other_kind owner 0 c FrameList o list.owned p.owned (λ k. differs (sym k)) in
    descriptors_elsewhere g.book e x.desc s n seed bs a c other (slots_apart g taken.stands) at none
    (λ i. get_any c bs i none (λ j below is. fresh_differs j c taken below (placed_run c o p) (sym is)))
    ∙ ap (λ ws. slice_index ws (other / 4)) taken.words

describe_at : (d : DriverContent) (m : Mem) (e : ℕ) (x : Endpoint) (s : Slots) (n seed : ℕ) (g : Holding) (bs : List ℕ) → AreTaken (holding d.book m) g (iso_needs s n) bs → slice_get d.endpoints e ≡ Some x → d.command ≡ None → HasOwners d → IsRing (link_in m) d
    → IsRing (link_in (entered_iso d e x n (total_of s) g.book (all_descriptors g.book e x.desc s n seed bs (record { notes = d.periodic.notes; transfers = d.transfers; memory = g.memory }))).memory) (entered_iso d e x n (total_of s) g.book (all_descriptors g.book e x.desc s n seed bs (record { notes = d.periodic.notes; transfers = d.transfers; memory = g.memory }))).driver
unfolding owner_kind
describe_at d m e x s n seed g bs taken here idle has old =
    let a : Descriptors = record { notes = d.periodic.notes; transfers = d.transfers; memory = g.memory } in
    let r = all_descriptors g.book e x.desc s n seed bs a in
    let now = link_in r.memory in
    let same : (c : ℕ) (o : Owner) → IsPlaced (slot_of d.book.slots) has.owner c o → owner_kind o ≢ 0 → now c ≡ link_in m c = λ c o p differs.
    described_word d m e x s n seed g bs has.owner c o (32 * c) taken has.owned.each.list p differs (has_word g c taken.stands (subst HasRun (sym (taken.old c (placed_run c o p))) (placed_run c o p))) in
    let keeps : KeepsQueues d has.owner (link_in m) now = (λ c f p. same c (QueueHead f) p (λ k. omega (arith, k)), same head_block Head has.owned.each.head (λ k. omega (arith, k))) in
    let y : Endpoint = record x { next = first_waiting x.next (length d.transfers) } in
    let same_ring = endpoint_set d.endpoints e x y here refl in
    record {
      ring = describing now (set d.endpoints e y) d.transfers r.transfers n
          (linked_same now head_block d.endpoints (set d.endpoints e y) same_ring (linked_through (link_in m) now d has keeps head_block (idle_linked (link_in m) d idle old)))
          (descriptors_added g.book e x.desc s n seed bs a);
      leaving = leaving_through (link_in m) now d (set d.endpoints e y) has keeps (same_go_on d.endpoints (set d.endpoints e y) same_ring) old.leaving;
      mends = old.mends;
      kept = kept_still d.endpoints (set d.endpoints e y) same_ring old.kept;
    }

describe_ring : (d : DriverContent) (m : Mem) (o : Offered) → Stands (holding d.book m) → Describes d m o → HasOwners d → IsRing (link_in m) d → IsRing (link_in o.memory) o.driver
describe_ring d m o stands why has old =
    let h = why.holding_after in
    let all = runs_taken (holding d.book m) h (iso_needs why.slots why.count) stands why.runs in
    let bs = all.blocks in
    let a : Descriptors = record { notes = d.periodic.notes; transfers = d.transfers; memory = h.memory } in
    let new : new_runs d h ≡ bs = ap (drop (length d.book.taken)) all.are.taken ∙ drop_first d.book.taken bs in
    subst (λ (f : Offered). IsRing (link_in f.memory) f.driver) (sym why.is)
    (subst (λ (rs : List ℕ). IsRing (link_in (entered_iso d why.number why.endpoint why.count (total_of why.slots) h.book (all_descriptors h.book why.number why.endpoint.desc why.slots why.count why.seed rs a)).memory) (entered_iso d why.number why.endpoint why.count (total_of why.slots) h.book (all_descriptors h.book why.number why.endpoint.desc why.slots why.count why.seed rs a)).driver) (sym new)
    (describe_at d m why.number why.endpoint why.slots why.count why.seed h bs all.are why.here why.idle has old))

-- ---- a cancel

drop_set : {X : Type 0} (xs : List X) (e : ℕ) (y : X) → drop (suc e) (set xs e y) ≡ drop (suc e) xs
drop_set [] e y = refl
drop_set (x ∷ xs) zero y = refl
drop_set (x ∷ xs) (suc e) y = drop_set xs e y

take_set : {X : Type 0} (xs : List X) (e : ℕ) (y : X) → take e (set xs e y) ≡ take e xs
take_set xs zero y = refl
take_set [] (suc e) y = refl
take_set (x ∷ xs) (suc e) y = ap (λ ys. x ∷ ys) (take_set xs e y)

linked_set : (word : ℕ → ℕ) (b : ℕ) (xs : List Endpoint) (e : ℕ) (x y : Endpoint) → slice_get xs e ≡ Some x → y.queue ≡ x.queue → y.linked ≡ x.linked → AreLinked word b xs → AreLinked word b (set xs e y)
linked_set word b [] e x y here queue on linked = absurd (cc)
linked_set word b (z ∷ xs) zero x y here queue on linked =
    let same : z ≡ x = cc in
    let q : y.queue ≡ z.queue = queue ∙ ap (λ (v : Endpoint). v.queue) (sym same) in
    let l : y.linked ≡ z.linked = on ∙ ap (λ (v : Endpoint). v.linked) (sym same) in (
      subst (λ t. LeadsFrom word t y.queue b) (sym l) (subst (λ k. LeadsFrom word z.linked k b) (sym q) linked.0),
      subst (λ t. AreLinked word (cond t y.queue b) xs) (sym l) (subst (λ k. AreLinked word (cond z.linked k b) xs) (sym q) linked.1),
    )
linked_set word b (z ∷ xs) (suc e) x y here queue on linked = (linked.0, linked_set word (step_to b z) xs e x y here queue on linked.1)

set_goes : (xs : List Endpoint) (e : ℕ) (x y : Endpoint) → slice_get xs e ≡ Some x → y.queue ≡ x.queue → y.linked ≡ x.linked → GoOn xs (set xs e y)
set_goes xs e x y here queue on = λ f z at.
    ⊎_elim
    (λ (same : f ≡ e).
    let is = same_Some z x (sym at ∙ ap (slice_get xs) same ∙ here) in
    record { endpoint = y; here = ap (slice_get (set xs e y)) same ∙ set_here xs e x y here; queue = queue ∙ ap (λ (v : Endpoint). v.queue) (sym is); linked = λ l. on ∙ ap (λ (v : Endpoint). v.linked) (sym is) ∙ l })
    (λ (differs : f ≢ e). record { endpoint = z; here = set_there xs e f y differs ∙ at; queue = refl; linked = λ l. l }) (cases_eq f e)

cancel_ring : (d : DriverContent) (m : Mem) (e : ℕ) (x : Endpoint) → slice_get d.endpoints e ≡ Some x → is_periodic x.desc.kind ≡ false → x.cancelled ≡ false → d.command ≡ None → IsRing (link_in m) d → IsRing (link_in m) (accepted_cancel d e x)
cancel_ring d m e x here ring fresh idle old =
    let y : Endpoint = record x { cancelled = true; ended = first_end x.ended } in
    let ys = set d.endpoints e y in
    record {
      ring = record {
        ring = linked_set (link_in m) head_block d.endpoints e x y here refl refl (idle_linked (link_in m) d idle old);
        endpoint = y;
        here = set_here d.endpoints e x y here;
        linked = old.kept e x here ring fresh;
        cancelled = refl;
        from = ap oldest_of (sym (drop_set d.endpoints e y));
        over = ap (λ (xs : List Endpoint). queue_head_link (newest_of xs)) (sym (take_set d.endpoints e y));
      };
      leaving = leaving_kept (link_in m) (link_in m) d.endpoints ys (d.rung ++ d.waiting) (set_goes d.endpoints e x y here refl refl) (λ f z among at. refl) old.leaving;
      mends = old.mends;
      kept = λ f z there on off.
          set_case (λ j (v : Endpoint). is_periodic v.desc.kind ≡ false → v.cancelled ≡ false → v.linked ≡ true) d.endpoints e f x y z here there
          (λ none cancel. absurd (false≢true (sym cancel)))
          (λ differs was none cancel. old.kept f z was none cancel) on off;
    }

-- ---- any command

pub accepted_ring : (d : DriverContent) (m : Mem) (o : Offered) → Accepts d m o → Stands (holding d.book m) → IsShaped m → HasOwners d → IsRing (link_in m) d → IsRing (link_in o.memory) o.driver
accepted_ring d m o (opens why) stands shape has old =
    let all = runs_taken (holding d.book m) why.holding_after (2 ∷ 1 ∷ []) stands why.runs in
    let bs = all.blocks in
    let new : new_runs d why.holding_after ≡ bs = ap (drop (length d.book.taken)) all.are.taken ∙ drop_first d.book.taken bs in
    subst (λ (f : Offered). IsRing (link_in f.memory) f.driver) (sym why.is)
    (subst (λ (rs : List ℕ). IsRing (link_in (accepted_open d why.desc why.holding_after (get_or rs 0 0) (get_or rs 1 0)).memory) (accepted_open d why.desc why.holding_after (get_or rs 0 0) (get_or rs 1 0)).driver) (sym new)
    (open_ring d m why.desc why.holding_after bs stands (shaped_taken all.are stands shape) all.are why.idle has old))
accepted_ring d m o (transfers why) stands shape has old =
    let n = length why.asked.stages in
    let x = why.endpoint in
    let all = runs_taken (holding d.book m) why.holding_after (needs why.asked.stages) stands why.runs in
    let bs = all.blocks in
    let new : new_runs d why.holding_after ≡ bs = ap (drop (length d.book.taken)) all.are.taken ∙ drop_first d.book.taken bs in
    let alive = has_queue x why.queued (goes_on_alive x why.goes_on (has.orderly.steady why.number x why.here)) in
    subst (λ (f : Offered). IsRing (link_in f.memory) f.driver) (sym why.is)
    (subst (λ (rs : List ℕ). IsRing (link_in (accepted_transfer d why.number x why.asked why.holding_after (get_or (take n rs) (n - 1) 0) (note_stages d.notes why.asked.stages x.dummy (take n rs) (drop n rs))).memory) (accepted_transfer d why.number x why.asked why.holding_after (get_or (take n rs) (n - 1) 0) (note_stages d.notes why.asked.stages x.dummy (take n rs) (drop n rs))).driver) (sym new)
    (transfer_ring d m why.number x why.asked why.holding_after bs all.are why.some why.here alive why.idle has old))
accepted_ring d m o (cancels why) stands shape has old =
    let ring : is_periodic why.endpoint.desc.kind ≡ false = sym (has.orderly.steady why.number why.endpoint why.here).placed ∙ ap (λ (p : Option Placement). is_some p) why.ring in
    subst (λ (f : Offered). IsRing (link_in f.memory) f.driver) (sym why.is) (cancel_ring d m why.number why.endpoint why.here ring why.fresh why.idle old)
accepted_ring d m o (chains why) stands shape has old =
    let all = runs_taken (holding d.book m) why.holding_after (2 ∷ 1 ∷ []) stands why.runs in
    let bs = all.blocks in
    let new : new_runs d why.holding_after ≡ bs = ap (drop (length d.book.taken)) all.are.taken ∙ drop_first d.book.taken bs in
    subst (λ (f : Offered). IsRing (link_in f.memory) f.driver) (sym why.is)
    (subst (λ (rs : List ℕ). IsRing (link_in (accepted_chain d why.desc why.placement why.holding_after (get_or rs 0 0) (get_or rs 1 0)).memory) (accepted_chain d why.desc why.placement why.holding_after (get_or rs 0 0) (get_or rs 1 0)).driver) (sym new)
    (chain_ring d m why.desc why.placement why.holding_after bs all.are why.periodic why.idle has old))
accepted_ring d m o (places why) stands shape has old =
    let y = placed_endpoint why.desc why.placement 0 0 in
    subst (λ (f : Offered). IsRing (link_in f.memory) f.driver) (sym why.is)
    (record {
      ring = subst (λ (c : Option Command). StandsFor (link_in m) (d.endpoints ++ y ∷ []) d.transfers c) (sym why.idle) (outside_ring (link_in m) head_block d.endpoints y refl (idle_linked (link_in m) d why.idle old));
      leaving = leaving_kept (link_in m) (link_in m) d.endpoints (d.endpoints ++ y ∷ []) (d.rung ++ d.waiting) (one_more_on d.endpoints y) (λ f z among here. refl) old.leaving;
      mends = old.mends;
      kept = outside_kept d y (iso_frames why.desc.kind why.isochronous) old.kept;
    })
accepted_ring d m o (describes why) stands shape has old = describe_ring d m o stands why has old
accepted_ring d m o (unchains why) stands shape has old =
    let x = why.endpoint in
    let y : Endpoint = record x { cancelled = true; ended = first_end x.ended } in
    let members = endpoint_members d why.number x why.placement in
    let frames : is_periodic x.desc.kind ≡ true = sym (has.orderly.steady why.number x why.here).placed ∙ ap (λ (p : Option Placement). is_some p) why.placed in
    let e = with_cancel d why.number x members in
    subst (λ (f : Offered). IsRing (link_in f.memory) f.driver) (sym why.is)
    (or_finished_ring (link_in m) e (unfinished.Unchain why.number) refl refl
    (record {
      ring = linked_set (link_in m) head_block d.endpoints why.number x y why.here refl refl (idle_linked (link_in m) d why.idle old);
      leaving = leaving_kept (link_in m) (link_in m) d.endpoints (set d.endpoints why.number y) (d.rung ++ d.waiting) (set_goes d.endpoints why.number x y why.here refl refl) (λ f z among at. refl) old.leaving;
      mends = old.mends;
      kept = λ f z there ring fresh.
          set_case (λ j (v : Endpoint). is_periodic v.desc.kind ≡ false → v.cancelled ≡ false → v.linked ≡ true) d.endpoints why.number f x y z why.here there
          (λ off cancel. absurd (false≢true (sym off ∙ frames)))
          (λ differs was off cancel. old.kept f z was off cancel) ring fresh;
    }))
