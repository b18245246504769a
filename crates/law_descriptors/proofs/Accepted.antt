-- Once isochronous descriptors were accepted, each is written, in its own runs.
use Rattle.std.proofs.Common.{◌≡◌, ◌≢◌, ℕ, zero, suc, ◌+◌, ◌*◌, ◌/◌, ◌%◌, ◌<◌, ◌≤◌, Bool, true, false, cond, List, [], ◌∷◌, ◌++◌, length, take, drop, get_or, replicate, slice_get, Option, Some, None, ap, refl, sym, subst, ◌∙◌, arith, length-append, length-drop, append_assoc}
use Rattle.std.proofs.lemmas.Option.{same_Some}
use Rattle.std.proofs.lemmas.List.{get_or-set_same, get_or-set_other, length-set, take-append-drop}
use Rattle.law_driver.proofs.Common.{drop_old}
use Rattle.law_common.proofs.Lists.{drop_first, filled, shorter}
use Rattle.law_driver_ring.proofs.Common.{has_room}
use Rattle.usb_base.specs.declared.endpoints.EpDesc.{EpDesc}
use Rattle.word_mem.specs.Runs.{Run}
use Rattle.word_mem.specs.Memory.{Mem, IsShaped, word_at}
use Rattle.word_mem.specs.Views.{words_at}
use Rattle.word_mem.specs.declared.blocks.BlockState.TheVariants.{Kept}
use Rattle.word_mem.proofs.Words.{words_in_same}
use Rattle.word_mem.proofs.Frames.{run_within}
use Rattle.word_mem.proofs.Holders.{has_block_from}
use Rattle.mem_runs.specs.declared.slots.Slot.{Slot}
use Rattle.mem_runs.specs.declared.slots.Slot.TheVariants.{Keeps}
use Rattle.mem_runs.specs.Book.{Book, Holding, holding, slot_of, store_words, Stands}
use Rattle.mem_runs.proofs.Standing.{keeps_within, keeps_at, keeps_all}
use Rattle.itd_sitd.proofs.ItdLaws.{itd_words-length}
use Rattle.itd_sitd.proofs.SitdLaws.{sitd_words-length}
use Rattle.itd_sitd.specs.Itd.{itd_words}
use Rattle.itd_sitd.specs.Sitd.{sitd_words}
use Rattle.drv_periodic_table.specs.declared.content.DescriptorNote.{DescriptorNote}
use Rattle.drv_periodic_table.specs.Periodic.{no_descriptor, note_at}
use Rattle.drv_periodic_table.specs.Descriptors.{new_itd, new_sitd, descriptor_words}
use Rattle.drv_table.specs.declared.content.Endpoint.{Endpoint}
use Rattle.drv_table.specs.declared.content.Slots.{Slots}
use Rattle.drv_table.specs.declared.content.Transfer.{Transfer}
use Rattle.drv_table.specs.declared.content.Command.{Command}
use Rattle.drv_table.specs.DriverContent.{DriverContent}
use Rattle.drv_table.specs.Words.{buffer_needs}
use Rattle.drv_table.specs.Accepting.{Offered, new_runs}
use Rattle.drv_table.specs.IsoOffers.{Descriptors, total_of, slot_runs, descriptor_blocks, iso_needs, descriptor_note, descriptor_transfer, one_descriptor, all_descriptors, entered_iso}
use Rattle.claims_driver.specs.Owners.{SlotHas}
use Rattle.claims_driver.specs.Leaving.{HasOwners}
use Rattle.law_driver.proofs.lemmas.run_owners.Taking.{AreTaken, runs_taken}
use Rattle.law_driver.proofs.lemmas.run_owners.Chains.{few_runs}
use Rattle.claims_driver.specs.LentRuns.{AreLent, still_lends}
use Rattle.law_driver.proofs.lemmas.ring_members.Stores.{AreApart, slots_apart, words_elsewhere}
use Rattle.law_driver.proofs.lemmas.ring_members.Accepted.{shaped_taken}
use Rattle.law_driver_ring.specs.Written.{IsPageRun, AreRuns, AreAllApart}
use Rattle.law_driver_ring.proofs.Lists.{IsOneOf, at_one, each_of, apart_by_place}
use Rattle.law_driver_ring.proofs.Buffers.{runs_at, runs_keep}
use Rattle.law_driver_ring.proofs.Paged.{runs_paged, runs_left, runs_right, runs_many}
use Rattle.law_descriptors.specs.Written.{blocks_in, words_in, HasFields, IsDescriptorNoted, IsWrittenDescriptor, runs_of, IsToLend, DescriptorsAwaitLend}
use Rattle.law_descriptors.specs.LendLaws.{HasSlots, AcceptedAwaitLend}
use Rattle.law_descriptors.proofs.LendAccepting.{filled_at, past_zeros, one_dropped, size_written, seeds_apart, stored_there}

append_none : (ts : List Transfer) → ts ++ [] ≡ ts
append_none [] = refl
append_none (t ∷ ts) = ap (λ (us : List Transfer). t ∷ us) (append_none ts)

apart_dropped : (k : ℕ) (xs : List ℕ) → AreAllApart xs → AreAllApart (drop k xs)
apart_dropped zero xs apart = apart
apart_dropped (suc k) [] apart = apart
apart_dropped (suc k) (x ∷ xs) apart = apart_dropped k xs apart.1

-- the first isn't one of those behind it
first_apart : (k : ℕ) (xs : List ℕ) → AreAllApart xs → IsOneOf (get_or xs 0 0) (drop (suc k) xs) → ⊥
first_apart k [] apart one = one
first_apart k (x ∷ xs) apart one = each_of (λ (c : ℕ). c ≢ x) x xs apart.0 (one_dropped k x xs one) refl

-- ---- the transfers that are made

abbrev pub made : ℕ → Slots → ℕ → List ℕ → List Transfer
made e s zero rs = []
made e s (suc n) rs = descriptor_transfer e s (get_or rs 0 0) ∷ made e s n (drop (suc (slot_runs s)) rs)

pub made_many : (e : ℕ) (s : Slots) (n : ℕ) (rs : List ℕ) → length (made e s n rs) ≡ n
made_many e s zero rs = refl
made_many e s (suc n) rs = ap suc (made_many e s n (drop (suc (slot_runs s)) rs))

module _ (k : Book) (e : ℕ) (x : EpDesc) (s : Slots) where
  abbrev slot : ℕ → Slot
  slot = slot_of k.slots

  abbrev r : ℕ
  r = slot_runs s

  abbrev all : ℕ → ℕ → List ℕ → Descriptors → Descriptors
  all n seed rs a = all_descriptors k e x s n seed rs a

  abbrev one : ℕ → List ℕ → Descriptors → Descriptors
  one seed rs a = one_descriptor k e x s seed rs a

  abbrev later : ℕ → ℕ
  later seed = (seed + total_of s) % 256

  abbrev note_for : List ℕ → DescriptorNote
  note_for rs = descriptor_note s (drop 1 rs)

  pub all_transfers : (n seed : ℕ) (rs : List ℕ) (a : Descriptors) → (all n seed rs a).transfers ≡ a.transfers ++ made e s n rs
  unfolding all_descriptors
  all_transfers zero seed rs a = sym (append_none a.transfers)
  all_transfers (suc n) seed rs a =
      all_transfers n (later seed) (drop (suc r) rs) (one seed rs a) ∙ append_assoc a.transfers (descriptor_transfer e s (get_or rs 0 0) ∷ []) (made e s n (drop (suc r) rs))

  -- how many runs there are
  enough_for : (n : ℕ) (rs : List ℕ) → length (iso_needs s (suc n)) ≤ length rs → (0 < length rs) × (r ≤ length (drop 1 rs)) × (length (iso_needs s n) ≤ length (drop (suc r) rs))
  enough_for n rs enough =
      let long = length-append (buffer_needs (total_of s)) (iso_needs s n) in
      let left = length-drop (suc r) rs in
      let less = length-drop 1 rs in
      (omega (arith, enough), omega (arith, enough, long, less), omega (arith, enough, long, left))

  pub notes_other : (n seed : ℕ) (rs : List ℕ) (a : Descriptors) (b : ℕ) → length (iso_needs s n) ≤ length rs → (IsOneOf b rs → ⊥) → note_at (all n seed rs a).notes b ≡ note_at a.notes b
  unfolding all_descriptors
  notes_other zero seed rs a b enough none = refl
  notes_other (suc n) seed rs a b enough none =
      let long = enough_for n rs enough in
      notes_other n (later seed) (drop (suc r) rs) (one seed rs a) b long.2 (λ there. none (one_dropped (suc r) b rs there))
      ∙ get_or-set_other a.notes (get_or rs 0 0) b (note_for rs) no_descriptor (λ same. none (subst (λ (c : ℕ). IsOneOf c rs) (sym same) (at_one rs 0 long.0)))

  module _ (short : total_of s ≤ 24576) (apart : AreApart k.slots) where
    few : r ≤ 6
    few = few_runs 6 (total_of s) (omega (arith, short)) (omega arith)

    -- the buffer of a new note begins in these runs
    buffer_other : (n : ℕ) (rs : List ℕ) (c : ℕ) → length (iso_needs s (suc n)) ≤ length rs → (IsOneOf c (drop 1 rs) → ⊥) → (j : ℕ) → j < r → c ≢ get_or (note_for rs).buffer j 0
    buffer_other n rs c enough none j below same =
        let long = enough_for n rs enough in
        let room = long.1 in
        none (subst (λ (i : ℕ). IsOneOf i (drop 1 rs)) (sym (same ∙ filled_at r 6 (drop 1 rs) (replicate 6 0) j below few room)) (at_one (drop 1 rs) j (omega (arith, below, room))))

    pub words_other : (n seed : ℕ) (rs : List ℕ) (a : Descriptors) (c other : ℕ) → SlotHas (slot c) (other / 32) → length (iso_needs s n) ≤ length rs → (IsOneOf c rs → ⊥) → word_at (all n seed rs a).memory other ≡ word_at a.memory other
    unfolding all_descriptors
    words_other zero seed rs a c other here enough none = refl
    words_other (suc n) seed rs a c other here enough none =
        let long = enough_for n rs enough in
        let b = get_or rs 0 0 in
        let ws = descriptor_words x (note_for rs) in
        words_other n (later seed) (drop (suc r) rs) (one seed rs a) c other here long.2 (λ there. none (one_dropped (suc r) c rs there))
        ∙ seeds_apart k x (note_for rs) (store_words k a.memory b (32 * b) ws) seed (total_of s) r c other apart here (buffer_other n rs c enough (λ there. none (one_dropped 1 c rs there))) (has_room (total_of s))
        ∙ words_elsewhere k a.memory b c (32 * b) other ws apart (λ same. none (subst (λ (i : ℕ). IsOneOf i rs) (sym same) (at_one rs 0 long.0))) here

    -- ---- what stands before so many are written

    pub record IsReady (n : ℕ) (rs : List ℕ) (a : Descriptors) : Type 0 where
      pub runs : AreRuns slot (iso_needs s n) rs
      pub separate : AreAllApart rs
      pub within : (c : ℕ) → IsOneOf c rs → c < length a.notes
      pub room : (c : ℕ) (q : Run) → IsOneOf c rs → slot c ≡ Keeps q → (q.first ≡ c) × (8 * (c + q.blocks) ≤ length a.memory.words)

    all_runs : (n : ℕ) (rs : List ℕ) (a : Descriptors) → IsReady n rs a → length (iso_needs s n) ≤ length rs
    all_runs n rs a ready = let many = runs_many slot (iso_needs s n) rs ready.runs in omega (arith, many)

    next_ready : (n seed : ℕ) (rs : List ℕ) (a : Descriptors) → IsReady (suc n) rs a → IsReady n (drop (suc r) rs) (one seed rs a)
    next_ready n seed rs a ready = record {
      runs = runs_right slot (descriptor_blocks s ∷ buffer_needs (total_of s)) (iso_needs s n) rs ready.runs;
      separate = apart_dropped (suc r) rs ready.separate;
      within = λ c there. let w = ready.within c (one_dropped (suc r) c rs there) in let same = length-set a.notes (get_or rs 0 0) (note_for rs) in omega (arith, w, same);
      room = λ c q there is.
          let w = ready.room c q (one_dropped (suc r) c rs there) is in
          let below = w.1 in
          let size = size_written k a.memory x (note_for rs) (get_or rs 0 0) seed (total_of s) in
          (w.0, omega (arith, below, size));
    }

    -- ---- the first of them

    words_long : (note : DescriptorNote) → length (descriptor_words x note) ≡ words_in note.split
    words_long note = by note.split
      where
        by : (split : Bool) → length (cond split (sitd_words (new_sitd x note.smask note.cmask note.slot note.buffer)) (itd_words (new_itd x note.smask note.slot note.buffer))) ≡ words_in split
        by true = sitd_words-length (new_sitd x note.smask note.cmask note.slot note.buffer)
        by false = itd_words-length (new_itd x note.smask note.slot note.buffer)

    words_few : (split : Bool) → words_in split ≤ 8 * blocks_in split
    words_few true = omega arith
    words_few false = omega arith

    first_run : (n : ℕ) (rs : List ℕ) (a : Descriptors) → IsReady (suc n) rs a → IsPageRun (slot (get_or rs 0 0)) (descriptor_blocks s)
    first_run n rs a ready = (runs_at slot (iso_needs s (suc n)) rs 0 ready.runs (omega arith)).run

    buffer_cut : (n : ℕ) (rs : List ℕ) → length (iso_needs s (suc n)) ≤ length rs → take (note_for rs).runs (note_for rs).buffer ≡ take r (drop 1 rs)
    buffer_cut n rs enough = filled r 6 (drop 1 rs) (replicate 6 0) few (enough_for n rs enough).1

    first_noted : (n : ℕ) (rs : List ℕ) (a : Descriptors) → HasSlots s → IsReady (suc n) rs a → IsDescriptorNoted slot (note_for rs)
    first_noted n rs a fit ready = record {
      runs = subst (AreRuns slot (buffer_needs (total_of s))) (sym (buffer_cut n rs (all_runs (suc n) rs a ready)))
          (runs_left slot (buffer_needs (total_of s)) (iso_needs s n) (drop 1 rs) (runs_right slot (descriptor_blocks s ∷ []) (buffer_needs (total_of s) ++ iso_needs s n) rs ready.runs));
      rest = λ i from. past_zeros 6 6 (take r (drop 1 rs)) i (let short = shorter r (drop 1 rs) in omega (arith, short, from));
      smask = fit.smask;
      cmask = fit.cmask;
      few = fit.few;
    }

    first_words : (n seed : ℕ) (rs : List ℕ) (a : Descriptors) → IsReady (suc n) rs a
        → words_at (all n (later seed) (drop (suc r) rs) (one seed rs a)).memory (32 * get_or rs 0 0) (words_in s.split) ≡ descriptor_words x (note_for rs)
    first_words n seed rs a ready =
        let b = get_or rs 0 0 in
        let w = words_in s.split in
        let enough = all_runs (suc n) rs a ready in
        let long = enough_for n rs enough in
        let run = first_run n rs a ready in
        let q = run.run in
        let blocks = run.blocks in
        let fits = words_few s.split in
        let room = ready.room b q (at_one rs 0 long.0) run.is in
        let first = room.0 in
        let inside = room.1 in
        let ws = descriptor_words x (note_for rs) in
        let mid = store_words k a.memory b (32 * b) ws in
        let here : (i : ℕ) → i < w → SlotHas (slot b) ((32 * b + 4 * i) / 32) = λ i below. subst (λ (t : Slot). SlotHas t ((32 * b + 4 * i) / 32)) (sym run.is)
        (has_block_from q ((32 * b + 4 * i) / 32) (omega (arith, first)) (omega (arith, first, blocks, fits, below))) in
        words_in_same (one seed rs a).memory.words (all n (later seed) (drop (suc r) rs) (one seed rs a)).memory.words (32 * b) w
        (λ i below. words_other n (later seed) (drop (suc r) rs) (one seed rs a) b (32 * b + 4 * i) (here i below) long.2 (first_apart r rs ready.separate))
        ∙ words_in_same mid.words (one seed rs a).memory.words (32 * b) w
        (λ i below.
        seeds_apart k x (note_for rs) mid seed (total_of s) r b (32 * b + 4 * i) apart (here i below) (buffer_other n rs b enough (first_apart 0 rs ready.separate)) (has_room (total_of s)))
        ∙ stored_there k a.memory b w ws q run.is first (words_long (note_for rs)) (omega (arith, blocks, fits)) (omega (arith, inside, blocks, fits))

    first_note : (n seed : ℕ) (rs : List ℕ) (a : Descriptors) → IsReady (suc n) rs a → note_at (all n (later seed) (drop (suc r) rs) (one seed rs a)).notes (get_or rs 0 0) ≡ note_for rs
    first_note n seed rs a ready =
        let long = enough_for n rs (all_runs (suc n) rs a ready) in
        notes_other n (later seed) (drop (suc r) rs) (one seed rs a) (get_or rs 0 0) long.2 (first_apart r rs ready.separate)
        ∙ get_or-set_same a.notes (get_or rs 0 0) (note_for rs) no_descriptor (ready.within (get_or rs 0 0) (at_one rs 0 long.0))

    -- ---- each of them

    pub each_made : (n seed : ℕ) (rs : List ℕ) (a : Descriptors) → HasSlots s → IsReady n rs a → (i : ℕ) (y : Transfer) → slice_get (made e s n rs) i ≡ Some y → IsToLend slot (all n seed rs a).memory x (all n seed rs a).notes y
    unfolding all_descriptors
    each_made zero seed rs a fit ready i y there = absurd (cc)
    each_made (suc n) seed rs a fit ready (suc i) y there = each_made n (later seed) (drop (suc r) rs) (one seed rs a) fit (next_ready n seed rs a ready) i y there
    each_made (suc n) seed rs a fit ready zero y there =
        let b = get_or rs 0 0 in
        let f = all n (later seed) (drop (suc r) rs) (one seed rs a) in
        let written : IsWrittenDescriptor slot f.memory x (note_for rs) b = record { run = first_run n rs a ready; noted = first_noted n rs a fit ready; words = first_words n seed rs a ready } in
        subst (λ (t : Transfer). IsToLend slot f.memory x f.notes t) (same_Some (descriptor_transfer e s b) y there)
        (record { sort = refl; held = refl; written = subst (λ (note : DescriptorNote). IsWrittenDescriptor slot f.memory x note b) (sym (first_note n seed rs a ready)) written })

    pub runs_made : (n seed : ℕ) (rs : List ℕ) (a : Descriptors) → IsReady n rs a → runs_of (all n seed rs a).notes (made e s n rs) ≡ rs
    unfolding all_descriptors
    runs_made zero seed [] a ready = refl
    runs_made zero seed (c ∷ cs) a ready = absurd (ready.runs)
    runs_made (suc n) seed [] a ready = absurd (ready.runs)
    runs_made (suc n) seed (c ∷ cs) a ready =
        let f = all n (later seed) (drop r cs) (one seed (c ∷ cs) a) in
        ap (λ (note : DescriptorNote). c ∷ (take note.runs note.buffer ++ runs_of f.notes (made e s n (drop r cs)))) (first_note n seed (c ∷ cs) a ready)
        ∙ ap (λ (bs : List ℕ). c ∷ (bs ++ runs_of f.notes (made e s n (drop r cs)))) (buffer_cut n (c ∷ cs) (all_runs (suc n) (c ∷ cs) a ready))
        ∙ ap (λ (bs : List ℕ). c ∷ (take r cs ++ bs)) (runs_made n (later seed) (drop r cs) (one seed (c ∷ cs) a) (next_ready n seed (c ∷ cs) a ready))
        ∙ ap (λ (bs : List ℕ). c ∷ bs) (take-append-drop r cs)

-- ---- the command is accepted

entered_await : (d : DriverContent) (m : Mem) (e : ℕ) (x : Endpoint) (s : Slots) (n seed : ℕ) (g : Holding) (bs : List ℕ) → HasFields x.desc → HasSlots s → HasOwners d → AreLent d → d.command ≡ None → Stands (holding d.book m) → IsShaped m → total_of s ≤ 24576
    → AreTaken (holding d.book m) g (iso_needs s n) bs → AreRuns (slot_of g.book.slots) (iso_needs s n) bs
    → DescriptorsAwaitLend (entered_iso d e x n (total_of s) g.book (all_descriptors g.book e x.desc s n seed bs (record { notes = d.periodic.notes; transfers = d.transfers; memory = g.memory }))).driver
    (entered_iso d e x n (total_of s) g.book (all_descriptors g.book e x.desc s n seed bs (record { notes = d.periodic.notes; transfers = d.transfers; memory = g.memory }))).memory (length d.transfers) x.desc
entered_await d m e x s n seed g bs fields fit has lent idle stands shape short taken runs =
    let k = g.book in
    let a : Descriptors = record { notes = d.periodic.notes; transfers = d.transfers; memory = g.memory } in
    let f = all_descriptors k e x.desc s n seed bs a in
    let apart = slots_apart g taken.stands in
    let shaped = shaped_taken taken stands shape in
    let none : d.book.taken ≡ [] = lent.lent (ap (λ (c : Option Command). still_lends c d.made) idle) in
    let ready : IsReady k e x.desc s short apart n bs a = record {
      runs = runs;
      separate = apart_by_place bs taken.distinct;
      within = within_notes;
      room = λ c q there is.
          let at = keeps_at g c q taken.stands is in
          let first = at.0 in
          let some = at.1 in
          let inside = run_within g.memory Kept q (keeps_all g c q taken.stands is) some in
          let each = shaped.eight_each in
          (first, omega (arith, first, inside, each));
    } in
    let all : f.transfers ≡ d.transfers ++ made e s n bs = all_transfers k e x.desc s n seed bs a in
    let new : drop (length d.transfers) f.transfers ≡ made e s n bs = ap (drop (length d.transfers)) all ∙ drop_old d.transfers (made e s n bs) in
    record {
      number = e;
      count = n;
      command = refl;
      last = ap length new ∙ made_many e s n bs;
      fields = fields;
      each = λ i y there. each_made k e x.desc s short apart n seed bs a fit ready i y (ap (λ (ts : List Transfer). slice_get ts i) (sym new) ∙ there);
      taken = taken.taken ∙ ap (λ (ts : List ℕ). ts ++ bs) none ∙ sym (ap (runs_of f.notes) new ∙ runs_made k e x.desc s short apart n seed bs a ready);
      apart = subst AreAllApart (sym (taken.taken ∙ ap (λ (ts : List ℕ). ts ++ bs) none)) (apart_by_place bs taken.distinct);
    }
  where
    within_notes : (c : ℕ) → IsOneOf c bs → c < length d.periodic.notes
    within_notes c there =
        let kept = runs_keep (slot_of g.book.slots) (iso_needs s n) bs c runs there in
        let below = keeps_within g.book.slots c kept.run kept.is in
        let many = taken.many in
        let as_many = has.owned.as_many in
        omega (arith, below, many, as_many)

pub accepted_await_lend : AcceptedAwaitLend
accepted_await_lend d m o why fields fit has lent stands shape =
    let g = why.holding_after in
    let ns = iso_needs why.slots why.count in
    let all = runs_taken (holding d.book m) g ns stands why.runs in
    let bs = all.blocks in
    let paged = runs_paged ns (holding d.book m) g stands why.runs in
    let none : d.book.taken ≡ [] = lent.lent (ap (λ (c : Option Command). still_lends c d.made) why.idle) in
    let same : paged.blocks ≡ bs = sym (ap (λ (ts : List ℕ). ts ++ paged.blocks) none) ∙ sym paged.taken ∙ all.are.taken ∙ ap (λ (ts : List ℕ). ts ++ bs) none in
    let new : new_runs d g ≡ bs = ap (drop (length d.book.taken)) all.are.taken ∙ drop_first d.book.taken bs in
    let a : Descriptors = record { notes = d.periodic.notes; transfers = d.transfers; memory = g.memory } in
    subst (λ (f : Offered). DescriptorsAwaitLend f.driver f.memory (length d.transfers) why.endpoint.desc) (sym why.is)
    (subst (λ (rs : List ℕ). DescriptorsAwaitLend (entered_iso d why.number why.endpoint why.count (total_of why.slots) g.book (all_descriptors g.book why.number why.endpoint.desc why.slots why.count why.seed rs a)).driver
    (entered_iso d why.number why.endpoint why.count (total_of why.slots) g.book (all_descriptors g.book why.number why.endpoint.desc why.slots why.count why.seed rs a)).memory (length d.transfers) why.endpoint.desc) (sym new)
    (entered_await d m why.number why.endpoint why.slots why.count why.seed g bs fields fit has lent why.idle stands shape why.short all.are (subst (AreRuns (slot_of g.book.slots) ns) same paged.runs)))
