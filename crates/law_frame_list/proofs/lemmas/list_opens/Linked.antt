-- The accepted open of an interrupt endpoint writes the link of its queue head, and begins to link it.
use Rattle.std.proofs.Common.{◌≡◌, ℕ, ◌+◌, ◌*◌, ◌/◌, ◌%◌, ◌<◌, Bool, true, false, if◌then◌else◌, List, [], ◌∷◌, length, drop, get_or, slice_index, Option, Some, None, ap, sym, subst, ◌∙◌, arith}
use Rattle.std.specs.Prelude.{is_none, not, ◌&&◌, option_map}
use Rattle.std.specs.List.{AllByRecursion, find}
use Rattle.std.proofs.lemmas.Bool.{and_parts}
use Rattle.law_common.proofs.Booleans.{not_on, either_if}
use Rattle.law_frame_list.proofs.Common.{has_run, link_again}
use Rattle.law_driver.proofs.Common.{blocks_run}
use Rattle.law_common.proofs.Lists.{drop_first, all_more}
use Rattle.usb_base.specs.declared.endpoints.EpDesc.{EpDesc}
use Rattle.word_mem.specs.Memory.{Mem, IsShaped, word_at}
use Rattle.qh_qtd.specs.QueueHead.{qh_words}
use Rattle.qh_qtd.specs.Qtd.{qtd_words}
use Rattle.mem_runs.specs.declared.slots.Slot.{Slot}
use Rattle.mem_runs.specs.Book.{Holding, holding, Stands, slot_of, store_words}
use Rattle.bandwidth.specs.declared.placements.Placement.{Placement}
use Rattle.drv_chains.specs.declared.members.QueueHead.{QueueHead as Queue}
use Rattle.drv_chains.specs.declared.members.Member.{Member}
use Rattle.drv_chains.specs.declared.members.Member.TheVariants.{Each}
use Rattle.drv_chains.specs.declared.members.Predecessor.TheVariants.{After}
use Rattle.drv_chains.specs.Chains.{Schedule, has_name, id_of, is_active, successor}
use Rattle.drv_chains.proofs.Words.{all_kept}
use Rattle.drv_members.specs.Ranks.{rank_of}
use Rattle.drv_members.specs.Members.{is_member, takes, has_room, with_member, frame_of, is_up_to}
use Rattle.drv_members.proofs.Around.{behind_new_queue}
use Rattle.drv_periodic.specs.declared.work.Work.{Work}
use Rattle.drv_periodic.specs.Periodic.{Periodic, link_to, address_of}
use Rattle.drv_periodic_table.specs.Periodic.{PeriodicContent, queue_member}
use Rattle.drv_periodic_table.specs.Linking.{may_link, linking, new_link, with_first, begun_next}
use Rattle.claims_driver.specs.FrameWords.{IsInOrder, ListStands}
use Rattle.drv_table.specs.DriverContent.{DriverContent}
use Rattle.drv_table.specs.Words.{interrupt_head, dummy_qtd}
use Rattle.drv_table.specs.Accepting.{Offered, new_runs}
use Rattle.drv_table.specs.Offers.{written_chain, accepted_chain}
use Rattle.law_driver.specs.run_owners.Accepts.{Chains}
use Rattle.claims_driver.specs.Owners.{HasRun, SlotHas}
use Rattle.claims_driver.specs.Leaving.{HasOwners}
use Rattle.law_driver.proofs.lemmas.run_owners.Taking.{AreTaken, runs_taken}
use Rattle.law_driver.proofs.lemmas.run_owners.Accepted.{fresh_differs}
use Rattle.law_driver.proofs.lemmas.ring_members.Stores.{slots_apart, words_elsewhere, first_stored}
use Rattle.law_driver.proofs.lemmas.ring_members.Placed.{has_word, can_begin, word_inside}
use Rattle.law_driver.proofs.lemmas.ring_members.Accepted.{shaped_taken}
use Rattle.law_driver.specs.listed_members.Members.{IsQueueOf, IsUnderWay, IsListed}
use Rattle.law_frame_words.specs.list_words.Spared.{LeavesList}
use Rattle.law_frame_list.proofs.lemmas.list_stands.Listing.{it_stands_where_its_words_are_left}
use Rattle.law_frame_list.proofs.lemmas.list_steps.Stepping.{PeriodicStands, next_stands}
use Rattle.law_frame_list.proofs.lemmas.list_aside.Aside.{rest_leaves}

-- ---- a link word is written from its fields as it was, where its bits 3 and 4 are 0

link_first : (x : EpDesc) (smask cmask link dummy : ℕ) → link % 32 < 8 → (ws : List ℕ) × (qh_words (interrupt_head x smask cmask link dummy) ≡ link ∷ ws)
unfolding qh_words
link_first x smask cmask link dummy small = (drop 1 (qh_words (interrupt_head x smask cmask link dummy)), ap (λ w. w ∷ drop 1 (qh_words (interrupt_head x smask cmask link dummy))) (link_again link small))

-- ---- so are those of the list: a member's name is its block and its type

small_queue : (d : DriverContent) (q : Queue) → IsQueueOf d q → q.id % 32 < 8
small_queue d q s = let e : q.id ≡ 32 * s.framed.queue + 2 = ap id_of s.is in omega (arith, e)

small_found : (p : Queue → Bool) (qs : List Queue) → AllByRecursion (λ q. q.id % 32 < 8) qs → link_to (option_map Each (find p qs)) % 32 < 8
small_found p [] all = omega arith
small_found p (q ∷ qs) all = either_if (λ (o : Option Queue). link_to (option_map Each o) % 32 < 8) (p q) (Some q) (find p qs) (λ on. all.0) (λ none. small_found p qs all.1)

pub small_link : (d : DriverContent) (b : ℕ) (p : Placement) → IsListed d → IsInOrder d.periodic.list → new_link d.periodic.list (queue_member b p) % 32 < 8
small_link d b p listed order =
    let l : Periodic = d.periodic.list in
    let s : Schedule = l.members.schedule in
    let q : Queue = record { id = 32 * b + 2; period = p.period; phase = p.phase } in
    either_if (λ (n : ℕ). n % 32 < 8) (may_link l (Each q)) (link_to (successor (with_member s (Each q)) (Each q) (frame_of (Each q)))) 1
    (λ may.
    let both = and_parts (is_none l.work) (takes l.members (Each q)) may in
    let one = and_parts (is_member (Each q)) (not (has_name s q.id) && has_room l.members (Each q)) both.1 in
    let new = and_parts (not (has_name s q.id)) (has_room l.members (Each q)) one.1 in
    subst (λ (o : Option Member). link_to o % 32 < 8) (sym (behind_new_queue s q order.kept one.0 (not_on (has_name s q.id) new.0)))
    (small_found (is_active q.phase) _ (all_kept (λ (x : Queue). x.id % 32 < 8) (λ x. not (is_up_to (rank_of q) x)) s.queues (all_more (IsQueueOf d) (λ (x : Queue). x.id % 32 < 8) s.queues (small_queue d) listed.list.members.queues))))
    (λ none. omega arith)

-- ---- what is written

-- a block of the book that is none of the new ones has its run as before
pub run_there : {h g : Holding} {ns bs : List ℕ} (c k : ℕ) → AreTaken h g ns bs → SlotHas (slot_of h.book.slots c) k → HasRun (slot_of h.book.slots c) × SlotHas (slot_of g.book.slots c) k
run_there {h = h} c k taken here =
    let run : HasRun (slot_of h.book.slots c) = has_run (slot_of h.book.slots c) k here in (
      run,
      subst (λ (s : Slot). SlotHas s k) (sym (taken.old c run)) here,
    )

chain_leaves : (d : DriverContent) (m : Mem) (x : EpDesc) (p : Placement) (link : ℕ) (g : Holding) (bs : List ℕ) → Stands (holding d.book m) → AreTaken (holding d.book m) g (2 ∷ 1 ∷ []) bs → HasOwners d → IsListed d
    → LeavesList d.periodic.list (word_at m) (word_at (written_chain g.book g.memory x p link (get_or bs 0 0) (get_or bs 1 0)))
chain_leaves d m x p link g bs stands taken has listed =
    let queue = get_or bs 0 0 in
    let dummy = get_or bs 1 0 in
    let two : 1 < length bs = omega (arith, taken.long) in
    let apart = slots_apart g taken.stands in
    let head = qh_words (interrupt_head x p.smask p.cmask link dummy) in
    let mid : Mem = store_words g.book g.memory queue (32 * queue) head in
    rest_leaves d m (written_chain g.book g.memory x p link queue dummy)
    (λ c at here.
    let r = run_there c (at / 32) taken here in
    words_elsewhere g.book mid dummy c (32 * dummy) at (qtd_words dummy_qtd) apart (λ is. fresh_differs 1 c taken two r.0 (sym is)) r.1
    ∙ words_elsewhere g.book g.memory queue c (32 * queue) at head apart (λ is. fresh_differs 0 c taken (omega (arith, two)) r.0 (sym is)) r.1
    ∙ ap (λ (ws : List ℕ). slice_index ws (at / 4)) taken.words)
    stands.placed has listed

own_word : (h : Holding) (x : EpDesc) (p : Placement) (link : ℕ) (g : Holding) (bs : List ℕ) → IsShaped g.memory → AreTaken h g (2 ∷ 1 ∷ []) bs → link % 32 < 8
    → word_at (written_chain g.book g.memory x p link (get_or bs 0 0) (get_or bs 1 0)) (32 * get_or bs 0 0) ≡ link
own_word h x p link g bs shape taken small =
    let queue = get_or bs 0 0 in
    let dummy = get_or bs 1 0 in
    let two : 1 < length bs = omega (arith, taken.long) in
    let apart = slots_apart g taken.stands in
    let head = qh_words (interrupt_head x p.smask p.cmask link dummy) in
    let mid : Mem = store_words g.book g.memory queue (32 * queue) head in
    let new_run = blocks_run 2 (slot_of g.book.slots queue) (taken.new 0 (omega (arith, two))) in
    let f = link_first x p.smask p.cmask link dummy small in
    words_elsewhere g.book mid dummy queue (32 * dummy) (32 * queue) (qtd_words dummy_qtd) apart (λ is. taken.distinct 0 1 (omega arith) two (sym is)) (has_word g queue taken.stands new_run)
    ∙ ap (λ ws. word_at (store_words g.book g.memory queue (32 * queue) ws) (32 * queue)) f.1
    ∙ first_stored g.book g.memory queue (32 * queue) link f.0 (can_begin g queue taken.stands new_run) (word_inside g queue taken.stands shape new_run)

-- ---- its linking begins

abbrev Leads : (ℕ → ℕ) → Periodic → Member → Type 0
Leads word p x = may_link p x ≡ true → word (address_of p.list (After x)) ≡ link_to (successor (with_member p.members.schedule x) x (frame_of x))

begun_list : (q : PeriodicContent) (x : Member) → q.list.work ≡ None → (begun_next false (record q { queued = x ∷ [] })).list ≡ linking q.list x
begun_list q x none = ap (λ (o : Option Work). (if is_none o then with_first false (record q { queued = x ∷ [] }) (x ∷ []) else record q { queued = x ∷ [] }).list) none

own_leads : (word : ℕ → ℕ) (p : Periodic) (b : ℕ) (place : Placement) → word (32 * b) ≡ new_link p (queue_member b place) → Leads word p (queue_member b place)
own_leads word p b place own may =
    let at : address_of p.list (After (queue_member b place)) ≡ 32 * b = omega arith in
    ap word at ∙ own ∙ ap (λ (t : Bool). if t then link_to (successor (with_member p.members.schedule (queue_member b place)) (queue_member b place) (frame_of (queue_member b place))) else 1) may

linked_stands : (word : ℕ → ℕ) (q : PeriodicContent) (x : Member) → q.list.work ≡ None → PeriodicStands word q.list → Leads word q.list x → PeriodicStands word (linking q.list x)
linked_stands word q x none old own =
    subst (PeriodicStands word) (begun_list q x none)
    (next_stands word false (record q { queued = x ∷ [] }) (record { order = old.order; words = old.words })
    (λ y ys queued adds may. let same : x ≡ y = cc in subst (Leads word q.list) same own may))

chain_at : (d : DriverContent) (m : Mem) (x : EpDesc) (p : Placement) (g : Holding) (bs : List ℕ) → Stands (holding d.book m) → IsShaped m → AreTaken (holding d.book m) g (2 ∷ 1 ∷ []) bs → d.command ≡ None → HasOwners d → IsListed d → ListStands m d
    → ListStands (accepted_chain d x p g (get_or bs 0 0) (get_or bs 1 0)).memory (accepted_chain d x p g (get_or bs 0 0) (get_or bs 1 0)).driver
chain_at d m x p g bs stands shape taken idle has listed old =
    let queue = get_or bs 0 0 in
    let link = new_link d.periodic.list (queue_member queue p) in
    let new : Mem = written_chain g.book g.memory x p link queue (get_or bs 1 0) in
    let left : ListStands new d = it_stands_where_its_words_are_left d m new (chain_leaves d m x p link g bs stands taken has listed) old in
    let none : d.periodic.list.work ≡ None = (subst (IsUnderWay d) idle listed.way).work in
    let own : word_at new (32 * queue) ≡ link = own_word (holding d.book m) x p link g bs (shaped_taken taken stands shape) taken (small_link d queue p listed old.order) in
    let now : PeriodicStands (word_at new) (linking d.periodic.list (queue_member queue p)) =
    linked_stands (word_at new) d.periodic (queue_member queue p) none (record { order = left.order; words = left.words }) (own_leads (word_at new) d.periodic.list queue p own) in
    record { order = now.order; words = now.words }

pub opens_of_interrupt_endpoints_keep_it_standing : (d : DriverContent) (m : Mem) (o : Offered) → Chains d m o → Stands (holding d.book m) → IsShaped m → HasOwners d → IsListed d → ListStands m d → ListStands o.memory o.driver
opens_of_interrupt_endpoints_keep_it_standing d m o why stands shape has listed old =
    let h = why.holding_after in
    let all = runs_taken (holding d.book m) h (2 ∷ 1 ∷ []) stands why.runs in
    let bs = all.blocks in
    let new : new_runs d h ≡ bs = ap (drop (length d.book.taken)) all.are.taken ∙ drop_first d.book.taken bs in
    subst (λ (f : Offered). ListStands f.memory f.driver) (sym why.is)
    (subst (λ (rs : List ℕ). ListStands (accepted_chain d why.desc why.placement h (get_or rs 0 0) (get_or rs 1 0)).memory (accepted_chain d why.desc why.placement h (get_or rs 0 0) (get_or rs 1 0)).driver) (sym new)
    (chain_at d m why.desc why.placement h bs stands shape all.are why.idle has listed old))
