-- Descriptors that are to be lent get their frames, and the controller leaves them.
use Rattle.std.proofs.Common.{◌≡◌, ℕ, zero, suc, ◌+◌, ◌*◌, ◌/◌, false, List, [], ◌∷◌, ◌++◌, take, drop, set, Option, Some, None, ap, refl, sym, subst, ◌∙◌, arith}
use Rattle.law_driver_ring.proofs.Common.{not_reached}
use Rattle.law_descriptors.proofs.Common.{words_few}
use Rattle.usb_base.specs.declared.endpoints.EpDesc.{EpDesc}
use Rattle.word_mem.specs.Memory.{Mem, word_at, reaches}
use Rattle.word_mem.proofs.Words.{words_in_same}
use Rattle.mem_runs.specs.declared.slots.Slot.{Slot}
use Rattle.mem_runs.specs.Book.{Holding, holding, slot_of, Stands}
use Rattle.mem_runs.proofs.Standing.{keeps_at, keeps_all}
use Rattle.bandwidth.specs.declared.placements.Placement.{Placement}
use Rattle.drv_periodic_table.specs.declared.content.DescriptorNote.{DescriptorNote}
use Rattle.drv_periodic_table.specs.Periodic.{note_at}
use Rattle.drv_periodic_table.specs.Frames.{first_frame, frames_from}
use Rattle.drv_table.specs.declared.content.Transfer.{Transfer}
use Rattle.drv_table.specs.declared.content.Command.{Command}
use Rattle.drv_table.specs.declared.content.Command.TheVariants as unfinished
use Rattle.drv_table.specs.DriverContent.{DriverContent}
use Rattle.drv_table.specs.Commands.{advance, advanced_by}
use Rattle.drv_table.specs.FrameChoice.{with_frames, last_frame, framed_notes, with_notes, placement_at, framed_by}
use Rattle.claims_driver.specs.Owners.{SlotHas, views_of}
use Rattle.law_driver.proofs.lemmas.run_owners.Stays.{framed}
use Rattle.law_driver_ring.proofs.Viewing.{advance_views}
use Rattle.law_driver_ring.specs.Inventory.{IsLent}
use Rattle.law_descriptors.proofs.Stays.{described_follow}
use Rattle.law_descriptors.specs.Written.{words_in, IsWrittenDescriptor, runs_of, DescriptorsAwaitLend}
use Rattle.law_descriptors.specs.LendLaws.{FramesAwaitLend, WrittenStay, FramesDescribe}

-- ---- the controller leaves them

written_stays : (h : Holding) (new : Mem) (x : EpDesc) (note : DescriptorNote) (b : ℕ) → Stands h → ((at : ℕ) → reaches h.memory at ≡ false → word_at new at ≡ word_at h.memory at) → IsWrittenDescriptor (slot_of h.book.slots) h.memory x note b
    → IsWrittenDescriptor (slot_of h.book.slots) new x note b
written_stays h new x note b stands same k =
    let first = (keeps_at h b k.run.run stands k.run.is).0 in
    let blocks = k.run.blocks in
    let few = words_few note.split in
    record {
      run = k.run;
      noted = k.noted;
      words = words_in_same h.memory.words new.words (32 * b) (words_in note.split)
          (λ i below. same (32 * b + 4 * i) (not_reached h.memory (32 * b + 4 * i) (keeps_all h b k.run.run stands k.run.is ((32 * b + 4 * i) / 32) (omega (arith, first)) (omega (arith, first, blocks, below, few)))))
          ∙ k.words;
    }

pub written_stay : WrittenStay
written_stay d m new t x k stands same = record {
  number = k.number;
  count = k.count;
  command = k.command;
  last = k.last;
  fields = k.fields;
  each = λ i y there.
      let its = k.each i y there in
      record { sort = its.sort; held = its.held; written = written_stays (holding d.book m) new x (note_at d.periodic.notes y.first) y.first stands same its.written };
  taken = k.taken;
  apart = k.apart;
}

-- ---- they get their frames

-- all of a note but its frame
abbrev unframed : DescriptorNote → DescriptorNote
unframed n = record n { frame = 0 }

-- what is stored in a list is there, or the list is as it was
set_note : (notes : List DescriptorNote) (a b f : ℕ) → unframed (note_at (set notes a (record (note_at notes a) { frame = f })) b) ≡ unframed (note_at notes b)
set_note [] a b f = refl
set_note (n ∷ notes) zero zero f = refl
set_note (n ∷ notes) zero (suc b) f = refl
set_note (n ∷ notes) (suc a) zero f = refl
set_note (n ∷ notes) (suc a) (suc b) f = set_note notes a b f

frames_note : (p : Placement) (ts : List Transfer) (f : ℕ) (notes : List DescriptorNote) (b : ℕ) → unframed (note_at (with_frames p ts f notes) b) ≡ unframed (note_at notes b)
unfolding with_frames
frames_note p [] f notes b = refl
frames_note p (t ∷ ts) f notes b = frames_note p ts (frames_from p f 1) (set notes t.first (record (note_at notes t.first) { frame = f })) b ∙ set_note notes t.first b f

framed_note : (d : DriverContent) (n e t count : ℕ) (o : Option Placement) (b : ℕ) → unframed (note_at (framed_notes d n e t count o) b) ≡ unframed (note_at d.periodic.notes b)
framed_note d n e t count None b = refl
framed_note d n e t count (Some p) b = frames_note p (take count (drop t d.transfers)) (first_frame p n (last_frame d e t)) d.periodic.notes b

-- its frame is written nowhere
written_unframed : (slot : ℕ → Slot) (m : Mem) (x : EpDesc) (note : DescriptorNote) (b : ℕ) → IsWrittenDescriptor slot m x note b → IsWrittenDescriptor slot m x (unframed note) b
written_unframed slot m x note b k = record {
  run = k.run;
  noted = record { runs = k.noted.runs; rest = k.noted.rest; smask = k.noted.smask; cmask = k.noted.cmask; few = k.noted.few };
  words = k.words;
}

written_framed : (slot : ℕ → Slot) (m : Mem) (x : EpDesc) (note : DescriptorNote) (b : ℕ) → IsWrittenDescriptor slot m x (unframed note) b → IsWrittenDescriptor slot m x note b
written_framed slot m x note b k = record {
  run = k.run;
  noted = record { runs = k.noted.runs; rest = k.noted.rest; smask = k.noted.smask; cmask = k.noted.cmask; few = k.noted.few };
  words = k.words;
}

written_again : (slot : ℕ → Slot) (m : Mem) (x : EpDesc) (note new : DescriptorNote) (b : ℕ) → unframed new ≡ unframed note → IsWrittenDescriptor slot m x note b → IsWrittenDescriptor slot m x new b
written_again slot m x note new b same k = written_framed slot m x new b (subst (λ (n : DescriptorNote). IsWrittenDescriptor slot m x n b) (sym same) (written_unframed slot m x note b k))

runs_again : (notes new : List DescriptorNote) (ys : List Transfer) → ((b : ℕ) → unframed (note_at new b) ≡ unframed (note_at notes b)) → runs_of new ys ≡ runs_of notes ys
runs_again notes new [] same = refl
runs_again notes new (y ∷ ys) same =
    ap (λ (n : DescriptorNote). y.first ∷ (take n.runs n.buffer ++ runs_of new ys)) (same y.first)
    ∙ ap (λ (cs : List ℕ). y.first ∷ (take (note_at notes y.first).runs (note_at notes y.first).buffer ++ cs)) (runs_again notes new ys same)

-- the first of the command's events
first_event : (d : DriverContent) (e t count : ℕ) → d.command ≡ Some (unfinished.Iso e t count) → d.made ≡ 0 → advance d ≡ record d { made = 1 }
first_event d e t count is at = ap (λ (o : Option Command). advanced_by d o) is ∙ by d.made at
  where
    by : (n : ℕ) → n ≡ 0 → advanced_by (record d { made = n }) (Some (unfinished.Iso e t count)) ≡ record d { made = 1 }
    by zero is = refl
    by (suc n) is = absurd (cc)

pub frames_await_lend : FramesAwaitLend
frames_await_lend p t x k at =
    let d : DriverContent = p.driver in
    let n : ℕ = p.registers.frame_index in
    let ts : List Transfer = take k.count (drop t d.transfers) in
    let notes : List DescriptorNote = framed_notes d n k.number t k.count (placement_at d k.number) in
    let mid : DriverContent = with_notes d n ts notes in
    let same : (b : ℕ) → unframed (note_at notes b) ≡ unframed (note_at d.periodic.notes b) = framed_note d n k.number t k.count (placement_at d k.number) in
    let now : framed_by d n d.command ≡ record mid { made = 1 } = ap (λ (o : Option Command). framed_by d n o) k.command ∙ first_event mid k.number t k.count k.command at in
    subst (λ (e : DriverContent). DescriptorsAwaitLend e p.memory t x) (sym now)
    (record {
      number = k.number;
      count = k.count;
      command = k.command;
      last = k.last;
      fields = k.fields;
      each = λ i y there.
          let its = k.each i y there in
          record { sort = its.sort; held = its.held; written = written_again (slot_of d.book.slots) p.memory x (note_at d.periodic.notes y.first) (note_at notes y.first) y.first (same y.first) its.written };
      taken = k.taken ∙ sym (runs_again d.periodic.notes notes (drop t d.transfers) same);
      apart = k.apart;
    })

-- ---- those that were lent before

pub framed_slots : (d : DriverContent) (n : ℕ) (o : Option Command) (c : ℕ) → slot_of (framed_by d n o).book.slots c ≡ slot_of d.book.slots c
framed_slots d n (Some (unfinished.Iso e t count)) c = (advance_views (with_notes d n (take count (drop t d.transfers)) (framed_notes d n e t count (placement_at d e)))).slot c
framed_slots d n _ c = refl

pub frames_describe : FramesDescribe
frames_describe p descs old =
    let d : DriverContent = p.driver in
    let e : DriverContent = framed_by d p.registers.frame_index d.command in
    let same = (framed d p.registers.frame_index d.command).same in
    let slots : (c : ℕ) → slot_of e.book.slots c ≡ slot_of d.book.slots c = framed_slots d p.registers.frame_index d.command in
    described_follow (views_of d) (views_of e) descs
    (record {
      slots = λ c j has. subst (λ (s : Slot). SlotHas s j) (sym (slots c)) has;
      stay = λ t y is. record { here = same.transfers t ∙ is.here; held = is.held; isochronous = is.isochronous; lent = subst IsLent (sym (slots y.first)) is.lent };
      were = λ t y is. record { here = sym (same.transfers t) ∙ is.here; held = is.held; isochronous = is.isochronous; lent = subst IsLent (slots y.first) is.lent };
      notes = λ t y is. same.buffers y.first;
    }) old
