-- Each accepted command leaves the fixed words of queue heads, and those of a new one stand.
use Rattle.std.proofs.Common.{◌≡◌, ◌≢◌, ℕ, ◌+◌, ◌-◌, ◌*◌, ◌/◌, ◌<◌, ◌≤◌, true, false, ◌||◌, List, [], ◌∷◌, ◌++◌, length, take, drop, get_or, slice_get, slice_index, Some, option_map, ap, sym, subst, ◌∙◌, ⊎_elim, refl, arith}
use Rattle.std.specs.Prelude.{◌⊎◌}
use Rattle.std.proofs.lemmas.Option.{slice_get_past}
use Rattle.std.proofs.lemmas.Bool.{false≢true}
use Rattle.std.proofs.lemmas.Bool.Decides.{nat_tests}
use Rattle.law_driver.proofs.Common.{stored_many, blocks_run}
use Rattle.law_common.proofs.Lists.{drop_first, push_which}
use Rattle.usb_base.specs.declared.endpoints.EpDesc.{EpDesc}
use Rattle.word_mem.specs.Memory.{Mem, IsShaped, word_at}
use Rattle.qh_qtd.specs.QueueHead.{qh_words}
use Rattle.qh_qtd.specs.Qtd.{qtd_words}
use Rattle.mem_runs.specs.Book.{Book, Holding, holding, Stands, IsAt, slot_of, can_store, store, store_words}
use Rattle.mem_runs.specs.declared.slots.Slot.{Slot}
use Rattle.mem_runs.specs.declared.slots.Slot.TheVariants.{Empty, Keeps, Lends}
use Rattle.drv_table.specs.declared.content.Endpoint.{Endpoint}
use Rattle.bandwidth.specs.declared.placements.Placement.{Placement}
use Rattle.drv_periodic_table.specs.Periodic.{queue_member}
use Rattle.drv_periodic_table.specs.Linking.{new_link}
use Rattle.drv_table.specs.declared.content.Slots.{Slots}
use Rattle.drv_table.specs.declared.content.Command.TheVariants as unfinished
use Rattle.drv_table.specs.Kinds.{is_iso}
use Rattle.drv_table.specs.DriverContent.{DriverContent}
use Rattle.drv_table.specs.Words.{head_block, queue_head, interrupt_head, dummy_qtd, needs}
use Rattle.drv_table.specs.Accepting.{Offered, new_runs, newest_of, first_waiting}
use Rattle.drv_table.specs.Offers.{Asked, new_endpoint, placed_endpoint, note_stages, with_queued, accepted_open, accepted_chain, accepted_iso, accepted_transfer}
use Rattle.drv_table.specs.IsoOffers.{Descriptors, total_of, iso_needs, all_descriptors, entered_iso}
use Rattle.drv_table.specs.CancelOffers.{accepted_cancel, endpoint_members, with_cancel, accepted_unchain, first_end}
use Rattle.law_driver.specs.run_owners.Accepts.{Accepts, opens, chains, places, transfers, describes, cancels, unchains, Describes}
use Rattle.claims_driver.specs.Owners.{Owner, FrameList, Head, QueueHead, Dummy, HasRun, IsPlaced, runs_of_endpoint}
use Rattle.claims_driver.specs.Leaving.{HasOwners, leaves_ring}
use Rattle.law_driver.proofs.lemmas.run_owners.Runs.{placed_run}
use Rattle.law_driver.proofs.lemmas.run_owners.Orders.{times_both, set_case}
use Rattle.law_driver.proofs.lemmas.run_owners.Transferred.{goes_on_alive}
use Rattle.claims_driver.specs.Ring.{IsAmong}
use Rattle.law_driver.proofs.lemmas.ring_members.Leaving.{among_times}
use Rattle.law_driver.proofs.lemmas.run_owners.Taking.{AreTaken, runs_taken}
use Rattle.law_driver.proofs.lemmas.run_owners.Accepted.{fresh_differs}
use Rattle.law_driver.proofs.lemmas.run_owners.Apart.{has_within}
use Rattle.law_driver.proofs.lemmas.ring_members.Stores.{slots_apart, words_elsewhere, first_stored}
use Rattle.law_driver.proofs.lemmas.ring_members.Placed.{has_first, has_queue, queue_placed, queue_run, head_run_there}
use Rattle.law_driver.proofs.lemmas.ring_members.Accepted.{transfer_word, described_word, owner_kind, other_kind, shaped_taken}
use Rattle.claims_driver.specs.InPlace.{characteristics, capabilities, IsMet, IsFixed, AreFixed}
use Rattle.law_driver.proofs.lemmas.queue_head_words.Events.{FixedStay, has_fixed, fixed_kept, fixed_by, goes_or_done, met_alive}

-- ---- a new queue head

record ThreeWords (ws : List ℕ) (second third : ℕ) : Type 0 where
  first : ℕ
  rest : List ℕ
  are : ws ≡ first ∷ second ∷ third ∷ rest

three_words : (x : EpDesc) (link dummy : ℕ) → ThreeWords (qh_words (queue_head x link dummy)) (characteristics x) (capabilities x)
unfolding qh_words
three_words x link dummy = record { first = get_or (qh_words (queue_head x link dummy)) 0 0; rest = drop 3 (qh_words (queue_head x link dummy)); are = refl }

can_at : (s : Slot) (b k : ℕ) → k < 32 → IsAt b s → HasRun s → can_store s (32 * b + k) ≡ true
can_at Empty b k small at run = absurd run
can_at (Keeps r) b k small at run = let low : 32 * r.first ≤ 32 * b + k = omega (arith, at.0) in let high : 32 * b + k < 32 * (r.first + r.blocks) = omega (arith, at.0, at.1, small) in grind (arith, nat_tests)
can_at (Lends r) b k small at run = let low : 32 * r.first ≤ 32 * b + k = omega (arith, at.0) in let high : 32 * b + k < 32 * (r.first + r.blocks) = omega (arith, at.0, at.1, small) in grind (arith, nat_tests)

second_stored : (k : Book) (m : Mem) (b at u v : ℕ) (vs : List ℕ) → can_store (slot_of k.slots b) (at + 4) ≡ true → (at + 4) / 4 < length m.words → word_at (store_words k m b at (u ∷ v ∷ vs)) (at + 4) ≡ v
unfolding store_words
second_stored k m b at u v vs can inside = first_stored k (store k m b at u) b (at + 4) v vs can (let n = stored_many k m b at u in omega (arith, n, inside))

third_stored : (k : Book) (m : Mem) (b at t u v : ℕ) (vs : List ℕ) → can_store (slot_of k.slots b) (at + 4 + 4) ≡ true → (at + 4 + 4) / 4 < length m.words → word_at (store_words k m b at (t ∷ u ∷ v ∷ vs)) (at + 4 + 4) ≡ v
unfolding store_words
third_stored k m b at t u v vs can inside = second_stored k (store k m b at t) b (at + 4) u v vs can (let n = stored_many k m b at t in omega (arith, n, inside))

new_fixed : (g : Holding) (b : ℕ) (x : EpDesc) (link dummy : ℕ) → Stands g → IsShaped g.memory → HasRun (slot_of g.book.slots b) → IsFixed (store_words g.book g.memory b (32 * b) (qh_words (queue_head x link dummy))) b (characteristics x) (capabilities x)
new_fixed g b x link dummy stands shape run =
    let w = three_words x link dummy in
    let within = has_within g b b stands (has_first g b stands run) in
    let e : 32 * b + 4 + 4 ≡ 32 * b + 8 = omega arith in
    record {
      characteristics = ap (λ ws. word_at (store_words g.book g.memory b (32 * b) ws) (32 * b + 4)) w.are
          ∙ second_stored g.book g.memory b (32 * b) w.first (characteristics x) (capabilities x ∷ w.rest) (can_at (slot_of g.book.slots b) b 4 (omega arith) (stands.placed b) run) (omega (arith, within, shape.eight_each));
      capabilities = ap (λ ws. word_at (store_words g.book g.memory b (32 * b) ws) (32 * b + 8)) w.are
          ∙ subst (λ at. word_at (store_words g.book g.memory b (32 * b) (w.first ∷ characteristics x ∷ capabilities x ∷ w.rest)) at ≡ capabilities x) e
          (third_stored g.book g.memory b (32 * b) w.first (characteristics x) (capabilities x) w.rest (subst (λ at. can_store (slot_of g.book.slots b) at ≡ true) (sym e) (can_at (slot_of g.book.slots b) b 8 (omega arith) (stands.placed b) run)) (omega (arith, within, shape.eight_each)));
    }

open_fixed : (d : DriverContent) (m : Mem) (desc : EpDesc) (g : Holding) (bs : List ℕ) → Stands (holding d.book m) → IsShaped g.memory → AreTaken (holding d.book m) g (2 ∷ 1 ∷ []) bs → HasOwners d → AreFixed m d → AreFixed (accepted_open d desc g (get_or bs 0 0) (get_or bs 1 0)).memory (accepted_open d desc g (get_or bs 0 0) (get_or bs 1 0)).driver
open_fixed d m desc g bs stands shape taken has old =
    let queue = get_or bs 0 0 in
    let dummy = get_or bs 1 0 in
    let k = g.book in
    let apart = slots_apart g taken.stands in
    let link = newest_of d.endpoints in
    let head = queue_head desc link dummy in
    let mid = store_words k g.memory queue (32 * queue) (qh_words head) in
    let now = store_words k mid dummy (32 * dummy) (qtd_words dummy_qtd) in
    let two : 1 < length bs = omega (arith, taken.long) in
    let same : (c n : ℕ) → n < 32 → HasRun (slot_of d.book.slots c) → word_at now (32 * c + n) ≡ word_at m (32 * c + n) = λ c n small there.
    let at = has_fixed g c n small taken.stands (subst HasRun (sym (taken.old c there)) there) in
    words_elsewhere k mid dummy c (32 * dummy) (32 * c + n) (qtd_words dummy_qtd) apart (λ is. fresh_differs 1 c taken two there (sym is)) at
    ∙ words_elsewhere k g.memory queue c (32 * queue) (32 * c + n) (qh_words head) apart (λ is. fresh_differs 0 c taken (omega (arith, two)) there (sym is)) at
    ∙ ap (λ ws. slice_index ws ((32 * c + n) / 4)) taken.words in
    let new_run = blocks_run 2 (slot_of k.slots queue) (taken.new 0 (omega (arith, two))) in
    let made = new_fixed g queue desc link dummy taken.stands shape new_run in
    let after : (n : ℕ) → n < 32 → word_at now (32 * queue + n) ≡ word_at mid (32 * queue + n) = λ n small.
    words_elsewhere k mid dummy queue (32 * dummy) (32 * queue + n) (qtd_words dummy_qtd) apart (λ is. taken.distinct 0 1 (omega arith) two (sym is)) (has_fixed g queue n small taken.stands new_run) in
    let y = new_endpoint desc queue dummy in
    record {
      each = λ e x there met.
          ⊎_elim
          (λ (w : slice_get d.endpoints e ≡ Some x).
          let f = old.each e x w met in
          let run = queue_run d e x has w (met_alive d e x has w met) in
          record { characteristics = same x.queue 4 (omega arith) run ∙ f.characteristics; capabilities = same x.queue 8 (omega arith) run ∙ f.capabilities })
          (λ (w : (e ≡ length d.endpoints) × (x ≡ y)).
          subst (λ (z : Endpoint). IsFixed now z.queue (characteristics z.desc) (capabilities z.desc)) (sym w.1)
          (record { characteristics = after 4 (omega arith) ∙ made.characteristics; capabilities = after 8 (omega arith) ∙ made.capabilities }))
          (push_which d.endpoints y e x there);
      head = record {
        characteristics = same head_block 4 (omega arith) (head_run_there d has) ∙ old.head.characteristics;
        capabilities = same head_block 8 (omega arith) (head_run_there d has) ∙ old.head.capabilities;
      };
    }

-- ---- a transfer

transfer_fixed : (d : DriverContent) (m : Mem) (e : ℕ) (x : Endpoint) (a : Asked) (g : Holding) (bs : List ℕ) → AreTaken (holding d.book m) g (needs a.stages) bs → 1 ≤ length a.stages → slice_get d.endpoints e ≡ Some x → is_iso x.desc.kind || x.gone ≡ false → HasOwners d → AreFixed m d
    → AreFixed (accepted_transfer d e x a g (get_or (take (length a.stages) bs) (length a.stages - 1) 0) (note_stages d.notes a.stages x.dummy (take (length a.stages) bs) (drop (length a.stages) bs))).memory (accepted_transfer d e x a g (get_or (take (length a.stages) bs) (length a.stages - 1) 0) (note_stages d.notes a.stages x.dummy (take (length a.stages) bs) (drop (length a.stages) bs))).driver
unfolding owner_kind
transfer_fixed d m e x a g bs taken some here alive has old =
    let dummy = get_or (take (length a.stages) bs) (length a.stages - 1) 0 in
    let notes = note_stages d.notes a.stages x.dummy (take (length a.stages) bs) (drop (length a.stages) bs) in
    let now = (accepted_transfer d e x a g dummy notes).memory in
    let was = has.owned.each.dummy e (runs_of_endpoint x) (ap (option_map runs_of_endpoint) here) alive in
    let list = has.owned.each.list in
    let same : (c n : ℕ) (o : Owner) → n < 32 → IsPlaced (slot_of d.book.slots) has.owner c o → owner_kind o ≢ 3 → owner_kind o ≢ 0 → word_at now (32 * c + n) ≡ word_at m (32 * c + n) = λ c n o small p one two.
    transfer_word d m a g bs has.owner e x.dummy c (32 * c + n) taken some has.owned.sizes was (placed_run c o p)
    (other_kind has.owner x.dummy c (Dummy e) o was.owned p.owned (λ k. one (sym k)))
    (other_kind has.owner 0 c FrameList o list.owned p.owned (λ k. two (sym k)))
    (has_fixed g c n small taken.stands (subst HasRun (sym (taken.old c (placed_run c o p))) (placed_run c o p))) in
    let stay : (c : ℕ) (o : Owner) → IsPlaced (slot_of d.book.slots) has.owner c o → owner_kind o ≢ 3 → owner_kind o ≢ 0 → FixedStay m now c = λ c o p one two.
    record { first = same c 4 o (omega arith) p one two; second = same c 8 o (omega arith) p one two } in
    let y = with_queued x dummy (length d.transfers) in
    fixed_kept m now d (accepted_transfer d e x a g dummy notes).driver
    (λ f z there met.
    set_case (λ j (v : Endpoint). IsMet d j v → (u : Endpoint) × (slice_get d.endpoints j ≡ Some u) × IsMet d j u × (u.queue ≡ v.queue) × (u.desc ≡ v.desc) × FixedStay m now v.queue) d.endpoints e f x y z here there
    (λ m2. (x, here, m2, refl, refl, stay x.queue (QueueHead e) (queue_placed d e x has here alive) (λ k. omega (arith, k)) (λ k. omega (arith, k))))
    (λ differs was2 m2. (z, was2, m2, refl, refl, stay z.queue (QueueHead f) (queue_placed d f z has was2 (met_alive d f z has was2 m2)) (λ k. omega (arith, k)) (λ k. omega (arith, k)))) met)
    (stay head_block Head has.owned.each.head (λ k. omega (arith, k)) (λ k. omega (arith, k)))
    old

-- ---- a cancel

cancel_fixed : (d : DriverContent) (m : Mem) (e : ℕ) (x : Endpoint) → slice_get d.endpoints e ≡ Some x → AreFixed m d → AreFixed m (accepted_cancel d e x)
cancel_fixed d m e x here old =
    let y : Endpoint = record x { cancelled = true; ended = first_end x.ended } in
    fixed_kept m m d (accepted_cancel d e x)
    (λ f z there met.
    set_case (λ j (v : Endpoint). IsMet d j v → (u : Endpoint) × (slice_get d.endpoints j ≡ Some u) × IsMet d j u × (u.queue ≡ v.queue) × (u.desc ≡ v.desc) × FixedStay m m v.queue) d.endpoints e f x y z here there
    (λ m2. (x, here, m2, refl, refl, record { first = refl; second = refl }))
    (λ differs was m2. (z, was, m2, refl, refl, record { first = refl; second = refl })) met)
    (record { first = refl; second = refl }) old

-- ---- an open of a periodic endpoint

-- one that isn't in the ring, and hasn't left it
outside_met : (d : DriverContent) (ys : DriverContent) (y : Endpoint) (m n : Mem) → ys.endpoints ≡ d.endpoints ++ y ∷ [] → ys.rung ≡ d.rung → ys.waiting ≡ d.waiting → y.linked ≡ false → HasOwners d → ((c : ℕ) (o : Owner) → HasRun (slot_of d.book.slots c) → FixedStay m n c) → AreFixed m d → AreFixed n ys
outside_met d ys y m n all rung waiting off has same old =
    fixed_kept m n d ys
    (λ e x here met.
    ⊎_elim
    (λ (w : slice_get d.endpoints e ≡ Some x).
    let was : IsMet d e x = subst (λ (vs : List ℕ). (x.linked ≡ true) ⊎ IsAmong e (d.rung ++ vs)) waiting (subst (λ (vs : List ℕ). (x.linked ≡ true) ⊎ IsAmong e (vs ++ ys.waiting)) rung met) in
    (x, w, was, refl, refl, same x.queue Head (queue_run d e x has w (met_alive d e x has w was))))
    (λ (w : (e ≡ length d.endpoints) × (x ≡ y)).
    absurd
    (⊎_elim (λ (on : x.linked ≡ true). false≢true (sym off ∙ ap (λ (z : Endpoint). z.linked) (sym w.1) ∙ on))
    (λ (among : IsAmong e (ys.rung ++ ys.waiting)).
    let a = subst (λ (vs : List ℕ). IsAmong e (d.rung ++ vs)) waiting (subst (λ (vs : List ℕ). IsAmong e (vs ++ ys.waiting)) rung among) in
    let none = ap leaves_ring (slice_get_past d.endpoints e (omega (arith, w.0))) in
    omega (arith, none, among_times e (d.rung ++ d.waiting) a, times_both e d.rung d.waiting, has.orderly.leaving e)) met))
    (push_which d.endpoints y e x (sym (ap (λ (xs : List Endpoint). slice_get xs e) all) ∙ here)))
    (same head_block Head (head_run_there d has)) old

chain_fixed : (d : DriverContent) (m : Mem) (desc : EpDesc) (p : Placement) (g : Holding) (bs : List ℕ) → AreTaken (holding d.book m) g (2 ∷ 1 ∷ []) bs → HasOwners d → AreFixed m d → AreFixed (accepted_chain d desc p g (get_or bs 0 0) (get_or bs 1 0)).memory (accepted_chain d desc p g (get_or bs 0 0) (get_or bs 1 0)).driver
chain_fixed d m desc p g bs taken has old =
    let queue = get_or bs 0 0 in
    let dummy = get_or bs 1 0 in
    let k = g.book in
    let apart = slots_apart g taken.stands in
    let ws = qh_words (interrupt_head desc p.smask p.cmask (new_link d.periodic.list (queue_member queue p)) dummy) in
    let mid = store_words k g.memory queue (32 * queue) ws in
    let now = store_words k mid dummy (32 * dummy) (qtd_words dummy_qtd) in
    let two : 1 < length bs = omega (arith, taken.long) in
    let same : (c n : ℕ) → n < 32 → HasRun (slot_of d.book.slots c) → word_at now (32 * c + n) ≡ word_at m (32 * c + n) = λ c n small there.
    let at = has_fixed g c n small taken.stands (subst HasRun (sym (taken.old c there)) there) in
    words_elsewhere k mid dummy c (32 * dummy) (32 * c + n) (qtd_words dummy_qtd) apart (λ is. fresh_differs 1 c taken two there (sym is)) at
    ∙ words_elsewhere k g.memory queue c (32 * queue) (32 * c + n) ws apart (λ is. fresh_differs 0 c taken (omega (arith, two)) there (sym is)) at
    ∙ ap (λ vs. slice_index vs ((32 * c + n) / 4)) taken.words in
    outside_met d (accepted_chain d desc p g queue dummy).driver (placed_endpoint desc p queue dummy) m now refl refl refl refl has
    (λ c o run. record { first = same c 4 (omega arith) run; second = same c 8 (omega arith) run }) old

-- ---- descriptors

describe_at : (d : DriverContent) (m : Mem) (e : ℕ) (x : Endpoint) (s : Slots) (n seed : ℕ) (g : Holding) (bs : List ℕ) → AreTaken (holding d.book m) g (iso_needs s n) bs → slice_get d.endpoints e ≡ Some x → HasOwners d → AreFixed m d
    → AreFixed (entered_iso d e x n (total_of s) g.book (all_descriptors g.book e x.desc s n seed bs (record { notes = d.periodic.notes; transfers = d.transfers; memory = g.memory }))).memory (entered_iso d e x n (total_of s) g.book (all_descriptors g.book e x.desc s n seed bs (record { notes = d.periodic.notes; transfers = d.transfers; memory = g.memory }))).driver
unfolding owner_kind
describe_at d m e x s n seed g bs taken here has old =
    let a : Descriptors = record { notes = d.periodic.notes; transfers = d.transfers; memory = g.memory } in
    let r = all_descriptors g.book e x.desc s n seed bs a in
    let stay : (c : ℕ) (o : Owner) → IsPlaced (slot_of d.book.slots) has.owner c o → owner_kind o ≢ 0 → FixedStay m r.memory c = λ c o p differs. record {
      first = described_word d m e x s n seed g bs has.owner c o (32 * c + 4) taken has.owned.each.list p differs (has_fixed g c 4 (omega arith) taken.stands (subst HasRun (sym (taken.old c (placed_run c o p))) (placed_run c o p)));
      second = described_word d m e x s n seed g bs has.owner c o (32 * c + 8) taken has.owned.each.list p differs (has_fixed g c 8 (omega arith) taken.stands (subst HasRun (sym (taken.old c (placed_run c o p))) (placed_run c o p)));
    } in
    let y : Endpoint = record x { next = first_waiting x.next (length d.transfers) } in
    fixed_kept m r.memory d (entered_iso d e x n (total_of s) g.book r).driver
    (λ f z there met.
    set_case (λ j (v : Endpoint). IsMet d j v → (u : Endpoint) × (slice_get d.endpoints j ≡ Some u) × IsMet d j u × (u.queue ≡ v.queue) × (u.desc ≡ v.desc) × FixedStay m r.memory v.queue) d.endpoints e f x y z here there
    (λ m2. (x, here, m2, refl, refl, stay x.queue (QueueHead e) (queue_placed d e x has here (met_alive d e x has here m2)) (λ k. omega (arith, k))))
    (λ differs was m2. (z, was, m2, refl, refl, stay z.queue (QueueHead f) (queue_placed d f z has was (met_alive d f z has was m2)) (λ k. omega (arith, k)))) met)
    (stay head_block Head has.owned.each.head (λ k. omega (arith, k)))
    old

describe_fixed : (d : DriverContent) (m : Mem) (o : Offered) → Stands (holding d.book m) → Describes d m o → HasOwners d → AreFixed m d → AreFixed o.memory o.driver
describe_fixed d m o stands why has old =
    let h = why.holding_after in
    let all = runs_taken (holding d.book m) h (iso_needs why.slots why.count) stands why.runs in
    let bs = all.blocks in
    let a : Descriptors = record { notes = d.periodic.notes; transfers = d.transfers; memory = h.memory } in
    let new : new_runs d h ≡ bs = ap (drop (length d.book.taken)) all.are.taken ∙ drop_first d.book.taken bs in
    subst (λ (f : Offered). AreFixed f.memory f.driver) (sym why.is)
    (subst (λ (rs : List ℕ). AreFixed (entered_iso d why.number why.endpoint why.count (total_of why.slots) h.book (all_descriptors h.book why.number why.endpoint.desc why.slots why.count why.seed rs a)).memory (entered_iso d why.number why.endpoint why.count (total_of why.slots) h.book (all_descriptors h.book why.number why.endpoint.desc why.slots why.count why.seed rs a)).driver) (sym new)
    (describe_at d m why.number why.endpoint why.slots why.count why.seed h bs all.are why.here has old))

-- ---- any command

pub accepted_fixed : (d : DriverContent) (m : Mem) (o : Offered) → Accepts d m o → Stands (holding d.book m) → IsShaped m → HasOwners d → AreFixed m d → AreFixed o.memory o.driver
accepted_fixed d m o (opens why) stands shape has old =
    let all = runs_taken (holding d.book m) why.holding_after (2 ∷ 1 ∷ []) stands why.runs in
    let bs = all.blocks in
    let new : new_runs d why.holding_after ≡ bs = ap (drop (length d.book.taken)) all.are.taken ∙ drop_first d.book.taken bs in
    subst (λ (f : Offered). AreFixed f.memory f.driver) (sym why.is)
    (subst (λ (rs : List ℕ). AreFixed (accepted_open d why.desc why.holding_after (get_or rs 0 0) (get_or rs 1 0)).memory (accepted_open d why.desc why.holding_after (get_or rs 0 0) (get_or rs 1 0)).driver) (sym new)
    (open_fixed d m why.desc why.holding_after bs stands (shaped_taken all.are stands shape) all.are has old))
accepted_fixed d m o (transfers why) stands shape has old =
    let n = length why.asked.stages in
    let x = why.endpoint in
    let all = runs_taken (holding d.book m) why.holding_after (needs why.asked.stages) stands why.runs in
    let bs = all.blocks in
    let new : new_runs d why.holding_after ≡ bs = ap (drop (length d.book.taken)) all.are.taken ∙ drop_first d.book.taken bs in
    let alive = has_queue x why.queued (goes_on_alive x why.goes_on (has.orderly.steady why.number x why.here)) in
    subst (λ (f : Offered). AreFixed f.memory f.driver) (sym why.is)
    (subst (λ (rs : List ℕ). AreFixed (accepted_transfer d why.number x why.asked why.holding_after (get_or (take n rs) (n - 1) 0) (note_stages d.notes why.asked.stages x.dummy (take n rs) (drop n rs))).memory (accepted_transfer d why.number x why.asked why.holding_after (get_or (take n rs) (n - 1) 0) (note_stages d.notes why.asked.stages x.dummy (take n rs) (drop n rs))).driver) (sym new)
    (transfer_fixed d m why.number x why.asked why.holding_after bs all.are why.some why.here alive has old))
accepted_fixed d m o (cancels why) stands shape has old =
    subst (λ (f : Offered). AreFixed f.memory f.driver) (sym why.is) (cancel_fixed d m why.number why.endpoint why.here old)
accepted_fixed d m o (chains why) stands shape has old =
    let all = runs_taken (holding d.book m) why.holding_after (2 ∷ 1 ∷ []) stands why.runs in
    let bs = all.blocks in
    let new : new_runs d why.holding_after ≡ bs = ap (drop (length d.book.taken)) all.are.taken ∙ drop_first d.book.taken bs in
    subst (λ (f : Offered). AreFixed f.memory f.driver) (sym why.is)
    (subst (λ (rs : List ℕ). AreFixed (accepted_chain d why.desc why.placement why.holding_after (get_or rs 0 0) (get_or rs 1 0)).memory (accepted_chain d why.desc why.placement why.holding_after (get_or rs 0 0) (get_or rs 1 0)).driver) (sym new)
    (chain_fixed d m why.desc why.placement why.holding_after bs all.are has old))
accepted_fixed d m o (places why) stands shape has old =
    subst (λ (f : Offered). AreFixed f.memory f.driver) (sym why.is)
    (outside_met d (accepted_iso d why.desc why.placement) (placed_endpoint why.desc why.placement 0 0) m m refl refl refl refl has (λ c o run. record { first = refl; second = refl }) old)
accepted_fixed d m o (describes why) stands shape has old = describe_fixed d m o stands why has old
accepted_fixed d m o (unchains why) stands shape has old =
    let x = why.endpoint in
    let y : Endpoint = record x { cancelled = true; ended = first_end x.ended } in
    let e = with_cancel d why.number x (endpoint_members d why.number x why.placement) in
    let one : AreFixed m e =
    fixed_kept m m d e
    (λ f z there met.
    set_case (λ j (v : Endpoint). IsMet d j v → (u : Endpoint) × (slice_get d.endpoints j ≡ Some u) × IsMet d j u × (u.queue ≡ v.queue) × (u.desc ≡ v.desc) × FixedStay m m v.queue) d.endpoints why.number f x y z why.here there
    (λ m2. (x, why.here, m2, refl, refl, record { first = refl; second = refl }))
    (λ differs was m2. (z, was, m2, refl, refl, record { first = refl; second = refl })) met)
    (record { first = refl; second = refl }) old in
    subst (λ (f : Offered). AreFixed f.memory f.driver) (sym why.is)
    (fixed_by m m e (accepted_unchain d why.number x (endpoint_members d why.number x why.placement)) (goes_or_done e (unfinished.Unchain why.number)) (λ f z there met. record { first = refl; second = refl }) (record { first = refl; second = refl }) one)
