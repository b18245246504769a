-- A transaction of an iTD in hand sends the bytes of its buffer, and its write-back is refused nothing.
use Rattle.std.proofs.Common.{◌≡◌, ◌≢◌, ℕ, suc, ◌+◌, ◌-◌, ◌*◌, ◌<◌, ◌≤◌, Bool, true, false, List, if◌then◌else◌, Option, Some, ap, sym, subst, ◌∙◌, ⊎_elim, arith}
use Rattle.std.proofs.lemmas.Bool.{cases_eq, true≢false}
use Rattle.law_frames.proofs.Common.{received_else, itd_is_no_buffer, slot_same}
use Rattle.law_ring.proofs.Common.{received_beside}
use Rattle.word_mem.specs.Memory.{Mem, refused, with_word}
use Rattle.mem_bytes.specs.Bytes.{with_bytes}
use Rattle.itd_sitd.specs.declared.itd.Itd.{Itd}
use Rattle.itd_sitd.specs.declared.slot.ItdSlot.{ItdSlot}
use Rattle.itd_sitd.specs.Slot.{slot_word}
use Rattle.itd_sitd.specs.Itd.{slot_of}
use Rattle.itd_sitd.proofs.ItdLaws.{itd_words-slot, IsItdInRange-slot}
use Rattle.mem_descriptors.specs.Descriptors.{slot_address}
use Rattle.hc_copy.specs.Buffer.{Writing}
use Rattle.hc_copy.specs.WriteBack.{then_write}
use Rattle.hc_iso.specs.declared.held.HeldItd.{HeldItd}
use Rattle.hc_iso.specs.Itd.{itd_in, itd_out, itd_transaction}
use Rattle.hc_iso.specs.WriteBack.{itd_pages, slot_place, done_slot, slot_back, itd_written}
use Rattle.hc_iso.proofs.Pages.{done_in_range}
use Rattle.law_structures.specs.lent_structures.Structures.{Isochronous, HoldsIsochronous, StructureSets, Tells}
use Rattle.law_structures.proofs.lemmas.lent_structures.Names.{put_same, put_beside}
use Rattle.law_structures.proofs.lemmas.lent_structures.Writing.{word_put_isochronous}
use Rattle.law_structures.specs.lent_structures.WriteBack.{received_parts}
use Rattle.link_words.specs.Links.{link_of}
use Rattle.law_frames.specs.Met.{Kind, IsBuffered, LeadsTo, IsMetItd}
use Rattle.law_frames.specs.FrameHand.{ItdCopy}
use Rattle.law_frames.specs.Frame.{received_of, IsCopiedItd}
use Rattle.law_frames.specs.FrameEffects.{itd_back, itd_parts}
use Rattle.law_frames.specs.ItdBacks.{IsItdSent, IsItdBack}
use Rattle.law_frames.proofs.Buffered.{part_buffered, IsRead, all_read, IsPut, all_put, received_alters, altered_buffered, buffered_beside}
use Rattle.law_frames.proofs.Slots.{here_same, slots_buffered, slot_buffered, next_within, got_buffered, slot_reached, back_slot, done_counts, done_rests, place_small}

-- ---- what goes out

-- no more than are left of the microframe
bytes_at_most : (h : HeldItd) (b : Bool) → (if b then itd_in h else itd_out h).bytes ≤ h.slot.length - h.moved
bytes_at_most h true = omega arith
bytes_at_most h false = omega arith

pub itd_is_sent : (met : ℕ → Option Kind) (parts : StructureSets) (m : Mem) (got : List ℕ) (c : ItdCopy) → Tells m parts → IsMetItd met c.held.at (parts c.held.at) → IsCopiedItd met parts got c → c.held.slot.active ≡ true → IsItdSent parts m c
itd_is_sent met parts m got c told mine copied on =
    let h : HeldItd = c.held in
    let count : ℕ = (itd_transaction h).bytes in
    let few : count ≤ h.slot.length - h.moved = bytes_at_most h h.itd.dir_in in
    let r : IsRead m (parts h.at) (itd_pages h.itd) (slot_place h.slot + h.moved) count =
    all_read m parts h.at (itd_pages h.itd) (slot_place h.slot + h.moved) count told (next_within met parts m got c told mine copied)
    (λ some. part_buffered (parts h.at) (itd_pages h.itd) (slot_place h.slot) h.slot.length (slot_place h.slot + h.moved) count
    (slot_buffered met parts m got c told mine copied on (omega (arith, some, few))) (omega arith) (omega (arith, some, few))) in
    record { out = r.out; sent = r.are; read = r.read }

-- ---- the write-back

module _ (met : ℕ → Option Kind) (parts : StructureSets) (m : Mem) (got : List ℕ) (c : ItdCopy) (told : Tells m parts) (mine : IsMetItd met c.held.at (parts c.held.at)) (copied : IsCopiedItd met parts got c) where
  put_there : IsPut m parts c.held.at (itd_pages c.held.itd) (slot_place c.held.slot) got
  put_there =
      let low = place_small c.held copied.held in
      all_put m parts c.held.at (itd_pages c.held.itd) (slot_place c.held.slot) got told (omega (arith, low)) (got_buffered met parts m got c told mine copied) copied.small

  abbrev bytes_there : Mem
  bytes_there = with_bytes m (itd_pages c.held.itd) (slot_place c.held.slot) got

  abbrev mid : StructureSets
  mid = received_parts parts c.held.at got put_there.into

  itd_there : mid c.held.at c.held.at ≡ Some (Isochronous c.itd)
  itd_there = received_else parts c.held.at (itd_pages c.held.itd) (slot_place c.held.slot) got put_there.into c.held.at (Isochronous c.itd) put_there.are copied.here (itd_is_no_buffer c.itd)

  itd_holds_there : HoldsIsochronous bytes_there c.held.at c.itd
  itd_holds_there = put_there.tells.each c.held.at c.held.at (Isochronous c.itd) itd_there

  abbrev written_there : Mem
  written_there = with_word bytes_there (slot_address c.held.at c.held.number) (slot_word (done_slot c.held))

  written_whole : itd_written c.held got m ≡ record { memory = written_there; all = true }
  unfolding itd_written
  written_whole =
      ap (λ (w : Writing). then_write w (slot_back c.held)) put_there.written
      ∙ ap (λ (b : Bool). record { memory = if b then written_there else refused bytes_there; all = b }) (slot_reached bytes_there c.held.at c.itd c.held.number itd_holds_there copied.held.number)

  written_told : Tells written_there (itd_parts parts c got put_there.into)
  written_told =
      let e : c.held.at + 4 * suc c.held.number ≡ slot_address c.held.at c.held.number = omega arith in
      let below = copied.held.number in
      subst (λ (at : ℕ). Tells (with_word bytes_there at (slot_word (done_slot c.held))) (itd_parts parts c got put_there.into)) e
      (word_put_isochronous bytes_there mid c.held.at c.held.at c.itd (itd_back c) (suc c.held.number) (slot_word (done_slot c.held)) put_there.tells itd_there (omega (arith, below))
      (itd_words-slot c.itd (done_slot c.held) c.held.number itd_holds_there.range.eight below) (IsItdInRange-slot c.itd (done_slot c.held) c.held.number itd_holds_there.range below (done_in_range c.held copied.held)))

  -- a microframe that is active is another one, and still has its bytes
  other_buffered : (u : ℕ) → u < 8 → u ≢ c.held.number → (slot_of u (itd_back c)).active ≡ true → 0 < (slot_of u (itd_back c)).length → IsBuffered (itd_parts parts c got put_there.into c.held.at) (itd_pages c.itd) (slot_place (slot_of u (itd_back c))) (slot_of u (itd_back c)).length
  other_buffered u below differs =
      subst (λ (s : ItdSlot). s.active ≡ true → 0 < s.length → IsBuffered (itd_parts parts c got put_there.into c.held.at) (itd_pages c.itd) (slot_place s) s.length) (sym (slot_same c u differs))
      (λ on some.
      buffered_beside mid c.held.at c.held.at (Isochronous c.itd) (Isochronous (itd_back c)) (itd_pages c.itd) (slot_place (slot_of u c.itd)) (slot_of u c.itd).length itd_there (itd_is_no_buffer c.itd)
      (altered_buffered (parts c.held.at) (mid c.held.at) (itd_pages c.itd) (slot_place (slot_of u c.itd)) (slot_of u c.itd).length
      (received_alters parts c.held.at (itd_pages c.held.itd) (slot_place c.held.slot) got put_there.into put_there.are)
      (slots_buffered met parts m got c told mine copied u below on some)))

  still_met : IsMetItd met c.held.at (itd_parts parts c got put_there.into c.held.at)
  still_met = record {
    itd = itd_back c;
    here = put_same mid c.held.at c.held.at (Isochronous (itd_back c));
    link = subst (λ (v : Itd). LeadsTo met (link_of v.link)) (here_same met parts m got c told mine copied) mine.link;
    slots = λ u below on some.
        ⊎_elim (λ (same : u ≡ c.held.number).
        absurd (true≢false (sym on ∙ ap (λ (i : ℕ). (slot_of i (itd_back c)).active) same ∙ ap (λ (s : ItdSlot). s.active) (back_slot c itd_holds_there.range.eight copied.held.number) ∙ done_rests c.held)))
        (λ (differs : u ≢ c.held.number). other_buffered u below differs on some) (cases_eq u c.held.number);
  }

  pub itd_back_is : IsItdBack met parts m got c
  itd_back_is = record {
    into = put_there.into;
    received_is = put_there.are;
    count = copied.count ∙ ap (received_of c.held.itd.dir_in) (sym (ap (λ (s : ItdSlot). s.length) (back_slot c itd_holds_there.range.eight copied.held.number) ∙ done_counts c.held));
    all = ap (λ (w : Writing). w.all) written_whole;
    tells = subst (λ (w : Writing). Tells w.memory (itd_parts parts c got put_there.into)) (sym written_whole) written_told;
    met_is = still_met;
    beside = λ n differs. put_beside mid c.held.at c.held.at (Isochronous (itd_back c)) n differs ∙ received_beside parts c.held.at got put_there.into n differs;
  }
