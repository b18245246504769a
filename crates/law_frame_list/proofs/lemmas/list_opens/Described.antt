-- Accepted isochronous descriptors are written into runs that are none of the frame list's.
use Rattle.std.proofs.Common.{◌≡◌, ◌≢◌, ℕ, zero, suc, ◌+◌, ◌*◌, ◌/◌, ◌%◌, ◌<◌, ◌≤◌, Bool, true, false, cond, List, length, drop, get_or, slice_index, ap, refl, sym, subst, ◌∙◌, arith, length-append, length-drop}
use Rattle.std.proofs.lemmas.List.{get_or-drop}
use Rattle.law_common.proofs.Numbers.{other_than}
use Rattle.law_common.proofs.Lists.{drop_first}
use Rattle.law_driver_ring.proofs.Common.{has_room}
use Rattle.usb_base.specs.declared.endpoints.EpDesc.{EpDesc}
use Rattle.word_mem.specs.Memory.{Mem, IsShaped, word_at}
use Rattle.mem_runs.specs.Book.{Book, Holding, holding, Stands, slot_of, store_words}
use Rattle.drv_periodic_table.specs.declared.content.DescriptorNote.{DescriptorNote}
use Rattle.drv_periodic_table.specs.Descriptors.{is_in, descriptor_words, write_seeded}
use Rattle.drv_table.specs.declared.content.Endpoint.{Endpoint}
use Rattle.drv_table.specs.declared.content.Slots.{Slots}
use Rattle.drv_table.specs.DriverContent.{DriverContent}
use Rattle.drv_table.specs.Words.{pieces, buffer_needs}
use Rattle.drv_table.specs.Accepting.{Offered, new_runs}
use Rattle.drv_table.specs.IsoOffers.{Descriptors, total_of, slot_runs, iso_needs, descriptor_note, one_descriptor, all_descriptors, entered_iso}
use Rattle.law_driver.specs.run_owners.Accepts.{Describes}
use Rattle.claims_driver.specs.Owners.{SlotHas}
use Rattle.claims_driver.specs.Leaving.{HasOwners}
use Rattle.law_driver.proofs.lemmas.run_owners.Taking.{AreTaken, runs_taken}
use Rattle.law_driver.proofs.lemmas.run_owners.Chains.{few_runs}
use Rattle.law_driver.proofs.lemmas.run_owners.Accepted.{fresh_differs}
use Rattle.law_driver.proofs.lemmas.ring_members.Stores.{AreApart, slots_apart, words_elsewhere}
use Rattle.law_driver.specs.listed_members.Members.{IsListed}
use Rattle.claims_driver.specs.FrameWords.{ListStands}
use Rattle.law_frame_list.proofs.lemmas.list_stands.Listing.{it_stands_where_its_words_are_left}
use Rattle.law_frame_list.proofs.lemmas.list_aside.Aside.{rest_leaves}
use Rattle.law_frame_list.proofs.lemmas.list_opens.Linked.{run_there}
use Rattle.law_frame_list.proofs.lemmas.list_opens.Noted.{filled, seeded_apart}

descriptors_apart : (k : Book) (e : ℕ) (x : EpDesc) (s : Slots) (n seed : ℕ) (rs : List ℕ) (a : Descriptors) (c other : ℕ) → AreApart k.slots → SlotHas (slot_of k.slots c) (other / 32) → slot_runs s ≤ 6 → length (iso_needs s n) ≤ length rs
    → ((i : ℕ) → i < length rs → c ≢ get_or rs i 0) → word_at (all_descriptors k e x s n seed rs a).memory other ≡ word_at a.memory other
unfolding all_descriptors
descriptors_apart k e x s zero seed rs a c other apart here few enough not = refl
descriptors_apart k e x s (suc n) seed rs a c other apart here few enough not =
    let b = get_or rs 0 0 in
    let r = slot_runs s in
    let note = descriptor_note s (drop 1 rs) in
    let ws = descriptor_words x note in
    let mid = store_words k a.memory b (32 * b) ws in
    let long = length-append (buffer_needs (total_of s)) (iso_needs s n) in
    let left = length-drop (suc r) rs in
    let less = length-drop 1 rs in
    descriptors_apart k e x s n ((seed + total_of s) % 256) (drop (suc r) rs) (one_descriptor k e x s seed rs a) c other apart here few (omega (arith, enough, long, left))
    (λ i below. other_than c (get_or (drop (suc r) rs) i 0) (get_or rs (suc r + i) 0) (get_or-drop (suc r) rs i 0) (not (suc r + i) (omega (arith, below, left))))
    ∙ written (is_in x.name.way) note mid
    (λ j below.
    other_than c (get_or note.buffer j 0) (get_or rs (1 + j) 0) (filled 6 r (drop 1 rs) j below few (omega (arith, enough, long, less)) ∙ get_or-drop 1 rs j 0) (not (1 + j) (omega (arith, below, enough, long))))
    ∙ words_elsewhere k a.memory b c (32 * b) other ws apart (not 0 (omega (arith, enough))) here
  where
    room : 0 + 4 * pieces (total_of s) 4 ≤ 4096 * slot_runs s + 3
    room = let most = has_room (total_of s) in omega (arith, most)

    written : (in_way : Bool) (note : DescriptorNote) (mid : Mem) → ((j : ℕ) → j < slot_runs s → c ≢ get_or note.buffer j 0) → word_at (cond in_way mid (write_seeded k mid note.buffer seed (total_of s) 0 (pieces (total_of s) 4))) other ≡ word_at mid other
    written true note mid away = refl
    written false note mid away = seeded_apart k mid note.buffer seed (total_of s) 0 (pieces (total_of s) 4) (slot_runs s) c other apart here away room

describe_at : (d : DriverContent) (m : Mem) (e : ℕ) (x : Endpoint) (s : Slots) (n seed : ℕ) (g : Holding) (bs : List ℕ) → Stands (holding d.book m) → AreTaken (holding d.book m) g (iso_needs s n) bs → total_of s ≤ 24576 → HasOwners d → IsListed d → ListStands m d
    → ListStands (entered_iso d e x n (total_of s) g.book (all_descriptors g.book e x.desc s n seed bs (record { notes = d.periodic.notes; transfers = d.transfers; memory = g.memory }))).memory (entered_iso d e x n (total_of s) g.book (all_descriptors g.book e x.desc s n seed bs (record { notes = d.periodic.notes; transfers = d.transfers; memory = g.memory }))).driver
describe_at d m e x s n seed g bs stands taken short has listed old =
    let a : Descriptors = record { notes = d.periodic.notes; transfers = d.transfers; memory = g.memory } in
    let new : Mem = (all_descriptors g.book e x.desc s n seed bs a).memory in
    let now : ListStands new d =
    it_stands_where_its_words_are_left d m new
    (rest_leaves d m new
    (λ c at there.
    let r = run_there c (at / 32) taken there in
    let long = taken.long in
    descriptors_apart g.book e x.desc s n seed bs a c at (slots_apart g taken.stands) r.1 (few_runs 6 (total_of s) (omega (arith, short)) (omega arith)) (omega (arith, long))
    (λ i below is. fresh_differs i c taken below r.0 (sym is))
    ∙ ap (λ (ws : List ℕ). slice_index ws (at / 4)) taken.words)
    stands.placed has listed) old
    in record { order = now.order; words = now.words }

pub descriptors_keep_it_standing : (d : DriverContent) (m : Mem) (o : Offered) → Describes d m o → Stands (holding d.book m) → IsShaped m → HasOwners d → IsListed d → ListStands m d → ListStands o.memory o.driver
descriptors_keep_it_standing d m o why stands shape has listed old =
    let h = why.holding_after in
    let all = runs_taken (holding d.book m) h (iso_needs why.slots why.count) stands why.runs in
    let bs = all.blocks in
    let a : Descriptors = record { notes = d.periodic.notes; transfers = d.transfers; memory = h.memory } in
    let new : new_runs d h ≡ bs = ap (drop (length d.book.taken)) all.are.taken ∙ drop_first d.book.taken bs in
    subst (λ (f : Offered). ListStands f.memory f.driver) (sym why.is)
    (subst (λ (rs : List ℕ). ListStands (entered_iso d why.number why.endpoint why.count (total_of why.slots) h.book (all_descriptors h.book why.number why.endpoint.desc why.slots why.count why.seed rs a)).memory (entered_iso d why.number why.endpoint why.count (total_of why.slots) h.book (all_descriptors h.book why.number why.endpoint.desc why.slots why.count why.seed rs a)).driver) (sym new)
    (describe_at d m why.number why.endpoint why.slots why.count why.seed h bs stands all.are why.short has listed old))
