-- The microframe of a copy in hand: its place, its bytes, and the iTD once it is written back.
use Rattle.std.proofs.Common.{◌≡◌, ◌≢◌, ℕ, suc, ◌+◌, ◌*◌, ◌/◌, ◌<◌, ◌≤◌, true, false, List, length, Option, Some, ap, refl, sym, subst, ◌∙◌, ⊎_elim, arith}
use Rattle.std.proofs.lemmas.Bool.{cases_eq}
use Rattle.std.proofs.lemmas.List.{get_or-set_same}
use Rattle.std.proofs.lemmas.Option.{same_Some}
use Rattle.word_mem.specs.Memory.{Mem, reaches}
use Rattle.itd_sitd.specs.declared.itd.Itd.{Itd}
use Rattle.itd_sitd.specs.Slot.{no_slot}
use Rattle.itd_sitd.specs.Itd.{slot_of}
use Rattle.mem_descriptors.specs.Descriptors.{slot_address}
use Rattle.hc_copy.specs.Buffer.{size_of}
use Rattle.hc_iso.specs.declared.held.HeldItd.{HeldItd}
use Rattle.hc_iso.specs.Itd.{IsItdHeld}
use Rattle.hc_iso.specs.WriteBack.{itd_pages, slot_place, done_slot}
use Rattle.law_structures.specs.lent_structures.Structures.{Structure, Isochronous, HoldsIsochronous, StructureSets, Tells}
use Rattle.law_structures.proofs.lemmas.lent_structures.Standing.{holds_lent, reaches_if, in_two}
use Rattle.law_frames.specs.Met.{Kind, IsBuffered, IsMetItd}
use Rattle.law_frames.specs.FrameHand.{ItdCopy}
use Rattle.law_frames.specs.Frame.{IsCopiedItd}
use Rattle.law_frames.specs.FrameEffects.{itd_back}
use Rattle.law_frames.proofs.Counted.{in_few}
use Rattle.law_frames.proofs.Buffered.{part_buffered, buffered_within}

abbrev as_itd : Structure → Itd → Itd
as_itd (Isochronous v) other = v
as_itd s other = other

same_itd : (v w : Itd) → Isochronous v ≡ Isochronous w → v ≡ w
same_itd v w e = ap (λ (s : Structure). as_itd s v) e

pub found_itd : (o : Option Structure) (v w : Itd) → o ≡ Some (Isochronous v) → o ≡ Some (Isochronous w) → v ≡ w
found_itd o v w one other = same_itd v w (same_Some (Isochronous v) (Isochronous w) (sym one ∙ other))

-- ---- where its bytes are

-- the first byte lies in the seven pages
pub place_small : (h : HeldItd) → IsItdHeld h → slot_place h.slot < 28672
place_small h held =
    let (size, (page, (offset, _))) = held.slot in
    omega (arith, page, offset)

module _ (met : ℕ → Option Kind) (parts : StructureSets) (m : Mem) (got : List ℕ) (c : ItdCopy) (told : Tells m parts) (mine : IsMetItd met c.held.at (parts c.held.at)) (copied : IsCopiedItd met parts got c) where
  -- what stands there is what the copy was made of, but for its link
  pub here_same : mine.itd ≡ c.itd
  here_same = found_itd (parts c.held.at c.held.at) mine.itd c.itd mine.here copied.here

  pub pages_same : itd_pages c.held.itd ≡ itd_pages c.itd
  pages_same = ap itd_pages copied.same

  -- each active microframe of what stands there has its bytes
  pub slots_buffered : (u : ℕ) → u < 8 → (slot_of u c.itd).active ≡ true → 0 < (slot_of u c.itd).length → IsBuffered (parts c.held.at) (itd_pages c.itd) (slot_place (slot_of u c.itd)) (slot_of u c.itd).length
  slots_buffered = subst (λ (v : Itd). (u : ℕ) → u < 8 → (slot_of u v).active ≡ true → 0 < (slot_of u v).length → IsBuffered (parts c.held.at) (itd_pages v) (slot_place (slot_of u v)) (slot_of u v).length) here_same mine.slots

  -- so has the microframe in hand
  pub slot_buffered : c.held.slot.active ≡ true → 0 < c.held.slot.length → IsBuffered (parts c.held.at) (itd_pages c.held.itd) (slot_place c.held.slot) c.held.slot.length
  slot_buffered on some =
      let v = slot_of c.held.number c.itd in
      let size : c.held.slot.length ≡ v.length = copied.slot.length in
      let at : slot_place c.held.slot ≡ slot_place v = ap (λ (p : ℕ). p * 4096 + c.held.slot.offset) copied.slot.page ∙ ap (λ (o : ℕ). v.pg * 4096 + o) copied.slot.offset in
      subst (λ (pages : List ℕ). IsBuffered (parts c.held.at) pages (slot_place c.held.slot) c.held.slot.length) (sym pages_same)
      (subst (λ (from : ℕ). IsBuffered (parts c.held.at) (itd_pages c.itd) from c.held.slot.length) (sym at)
      (subst (λ (n : ℕ). IsBuffered (parts c.held.at) (itd_pages c.itd) (slot_place v) n) (sym size)
      (slots_buffered c.held.number copied.held.number (sym copied.slot.active ∙ on) (omega (arith, size, some)))))

  -- the next byte lies in the pages, or is the one past them
  pub next_within : slot_place c.held.slot + c.held.moved ≤ size_of (itd_pages c.held.itd)
  next_within =
      let low = place_small c.held copied.held in
      ⊎_elim (λ (none : c.held.moved ≡ 0). omega (arith, low, none))
      (λ (some : c.held.moved ≢ 0).
      let within = copied.held.within in
      let more : 0 < c.held.moved = omega (arith, some) in
      let room = buffered_within m parts c.held.at (itd_pages c.held.itd) (slot_place c.held.slot) c.held.slot.length told (slot_buffered (copied.begun more) (omega (arith, more, within))) in
      omega (arith, room, within)) (cases_eq c.held.moved 0)

  -- the bytes that were received have their place in the buffer
  pub got_buffered : 0 < length got → IsBuffered (parts c.held.at) (itd_pages c.held.itd) (slot_place c.held.slot) (length got)
  got_buffered some =
      let few : length got ≤ c.held.moved = subst (λ (n : ℕ). n ≤ c.held.moved) (sym copied.count) (in_few c.held.itd.dir_in c.held.moved) in
      let within = copied.held.within in
      let more : 0 < c.held.moved = omega (arith, some, few) in
      part_buffered (parts c.held.at) (itd_pages c.held.itd) (slot_place c.held.slot) c.held.slot.length (slot_place c.held.slot) (length got)
      (slot_buffered (copied.begun more) (omega (arith, more, within))) (omega arith) (omega (arith, few, within))

  -- ---- the iTD in memory

  pub itd_holds : HoldsIsochronous m c.held.at c.itd
  itd_holds = told.each c.held.at c.held.at (Isochronous c.itd) copied.here

-- the word of a microframe lies in a block of the iTD
pub slot_reached : (m : Mem) (a : ℕ) (v : Itd) (k : ℕ) → HoldsIsochronous m a v → k < 8 → reaches m (slot_address a k) ≡ true
slot_reached m a v k h below =
    let e : a + 4 * suc k ≡ slot_address a k = omega arith in
    subst (λ (at : ℕ). reaches m at ≡ true) e
    (reaches_if m (a + 4 * suc k) (holds_lent m a (Isochronous v) ((a + 4 * suc k) / 32) h (in_two a (suc k) h.aligned (omega (arith, below)))))

-- the microframe in hand isn't active once it is written back, and each other one is as it was
pub back_slot : (c : ItdCopy) → length c.itd.slots ≡ 8 → c.held.number < 8 → slot_of c.held.number (itd_back c) ≡ done_slot c.held
back_slot c eight below = get_or-set_same c.itd.slots c.held.number (done_slot c.held) no_slot (omega (arith, eight, below))

pub done_counts : (h : HeldItd) → (done_slot h).length ≡ h.moved
unfolding done_slot
done_counts h = refl

pub done_rests : (h : HeldItd) → (done_slot h).active ≡ false
unfolding done_slot
done_rests h = refl
