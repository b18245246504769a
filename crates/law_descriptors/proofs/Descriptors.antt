-- A descriptor that is lent stands in memory with its slots and its buffer.
use Rattle.std.proofs.Common.{◌≡◌, ◌≢◌, ℕ, zero, suc, ◌+◌, ◌*◌, ◌/◌, ◌%◌, ◌<◌, ◌≤◌, ◌==◌, Bool, true, false, List, [], ◌∷◌, length, take, get_or, set, Some, None, if◌then◌else◌, ap, refl, sym, subst, ◌∙◌, inl, inr, arith}
use Rattle.std.proofs.lemmas.Bool.{eq-eqb, eqb-true}
use Rattle.std.proofs.lemmas.Option.{same_Some}
use Rattle.std.proofs.lemmas.Nat.{mul-le}
use Rattle.law_frame_list.proofs.Common.{link_again}
use Rattle.law_descriptors.proofs.Common.{among_at}
use Rattle.law_common.proofs.Booleans.{both_true}
use Rattle.law_common.proofs.Numbers.{other_number}
use Rattle.usb_base.specs.declared.endpoints.EpDesc.{EpDesc}
use Rattle.word_mem.specs.Runs.{Run}
use Rattle.word_mem.specs.Memory.{Mem, IsShaped, reaches}
use Rattle.word_mem.specs.Views.{words_at}
use Rattle.word_mem.proofs.Holders.{has_block_from}
use Rattle.mem_bytes.specs.Bytes.{bytes_at}
use Rattle.mem_bytes.proofs.Loads.{length-bytes_at}
use Rattle.link_words.specs.Fields.{link_at}
use Rattle.mem_runs.specs.declared.slots.Slot.{Slot}
use Rattle.mem_runs.specs.declared.slots.Slot.TheVariants.{Keeps, Lends}
use Rattle.mem_runs.specs.Book.{Holding, slot_of, Stands}
use Rattle.mem_runs.proofs.Standing.{keeps_at}
use Rattle.itd_sitd.specs.declared.slot.ItdSlot.{ItdSlot}
use Rattle.itd_sitd.specs.declared.itd.Itd.{Itd}
use Rattle.itd_sitd.specs.declared.sitd.Sitd.{Sitd}
use Rattle.itd_sitd.specs.Itd.{itd_words, slot_of as slot_in}
use Rattle.itd_sitd.specs.Sitd.{sitd_words}
use Rattle.itd_sitd.proofs.ItdLaws.{itd_words-link}
use Rattle.itd_sitd.proofs.SitdLaws.{sitd_words-link}
use Rattle.hc_iso.specs.Sitd.{sitd_place}
use Rattle.hc_iso.specs.WriteBack.{slot_place}
use Rattle.bandwidth.specs.Placements.{has}
use Rattle.drv_periodic_table.specs.declared.content.DescriptorNote.{DescriptorNote}
use Rattle.drv_periodic_table.specs.Descriptors.{slots_before, slots_in, slot_limit, new_itd, new_sitd, descriptor_words, buffer_address}
use Rattle.drv_table.specs.Words.{buffer_needs}
use Rattle.claims_driver.specs.Owners.{SlotHas, IsOneOf as IsAmong}
use Rattle.law_structures.specs.lent_structures.Structures.{Structure, Buffer, Isochronous, SplitIsochronous, Structures, Holds}
use Rattle.law_structures.proofs.lemmas.lent_structures.Standing.{reaches_if}
use Rattle.law_frames.specs.Met.{IsBuffered}
use Rattle.law_descriptors.specs.Described.{HasItd, HasSitd, HasDescriptor, HasItsBuffer}
use Rattle.law_driver_ring.specs.Written.{AreAllApart, IsPageRun}
use Rattle.law_driver_ring.proofs.Lists.{IsOneOf, at_one, each_of}
use Rattle.law_driver_ring.proofs.Buffers.{take_same, first_run}
use Rattle.law_driver_ring.proofs.Holding.{LendsRuns}
use Rattle.law_driver_ring.proofs.Paged.{runs_many}
use Rattle.law_descriptors.specs.Written.{bytes_in, blocks_in, words_in, HasFields, IsDescriptorNoted}
use Rattle.law_descriptors.specs.Lent.{descriptor_with, split_pages, whole_pages, pages_in, start_in, buffer_part, descriptor_part}
use Rattle.law_descriptors.proofs.Bytes.{ArePages, LiesIn, lies_in, name_at, buffer_holds, blocks_low}
use Rattle.law_descriptors.proofs.Fields.{slot_within, slots_few, before_few, itd_range, sitd_range, IsSlotOf, active_is}

-- ---- pages

split_are : (buffer : List ℕ) → ArePages buffer (split_pages buffer) 1
split_are buffer = record { each = each; many = omega arith; some = omega arith }
  where
    each : (j : ℕ) → j < 1 → get_or (split_pages buffer) j 0 ≡ get_or buffer j 0 / 128
    each zero below = refl
    each (suc j) below = absurd (omega (arith, below))

whole_are : (buffer : List ℕ) → ArePages buffer (whole_pages buffer) 6
whole_are buffer = record { each = each; many = omega arith; some = omega arith }
  where
    each : (j : ℕ) → j < 6 → get_or (whole_pages buffer) j 0 ≡ get_or buffer j 0 / 128
    each zero below = refl
    each (suc zero) below = refl
    each (suc (suc zero)) below = refl
    each (suc (suc (suc zero))) below = refl
    each (suc (suc (suc (suc zero)))) below = refl
    each (suc (suc (suc (suc (suc zero))))) below = refl
    each (suc (suc (suc (suc (suc (suc j)))))) below = absurd (omega (arith, below))

-- so many pages at most, and the bytes fit in them
pub record HasPages (note : DescriptorNote) : Type 0 where
  pub few : ℕ
  pub are : ArePages note.buffer (pages_in note) few
  pub fit : bytes_in note ≤ 4096 * few

few_slots : (slot : ℕ → Slot) (note : DescriptorNote) → IsDescriptorNoted slot note → note.split ≡ false → note.slot ≤ 3072
few_slots slot note noted e = let few = noted.few in let limit = ap slot_limit e in omega (arith, few, limit)

slots_most : (smask : ℕ) → slots_in smask ≤ 8
slots_most smask = slots_few smask

pub has_pages : (slot : ℕ → Slot) (note : DescriptorNote) → IsDescriptorNoted slot note → HasPages note
has_pages slot note noted = by note.split refl
  where
    by : (split : Bool) → note.split ≡ split → HasPages note
    by true e = record {
      few = 1;
      are = subst (λ (pages : List ℕ). ArePages note.buffer pages 1) (sym (ap (λ (b : Bool). if b then split_pages note.buffer else whole_pages note.buffer) e)) (split_are note.buffer);
      fit = let few = noted.few in let limit = ap slot_limit e in let all = ap (λ (b : Bool). if b then note.slot else slots_in note.smask * note.slot) e in omega (arith, few, limit, all);
    }
    by false e = record {
      few = 6;
      are = subst (λ (pages : List ℕ). ArePages note.buffer pages 6) (sym (ap (λ (b : Bool). if b then split_pages note.buffer else whole_pages note.buffer) e)) (whole_are note.buffer);
      fit = let most = mul-le (slots_in note.smask) note.slot 8 3072 (slots_most note.smask) (few_slots slot note noted e) in let all = ap (λ (b : Bool). if b then note.slot else slots_in note.smask * note.slot) e in omega (arith, most, all);
    }

-- ---- lists of runs

abbrev buffer_for : Mem → DescriptorNote → Structure
buffer_for m note = Buffer (pages_in note) (start_in note) (bytes_at m (pages_in note) (start_in note) (bytes_in note))

buffer_first : (m : Mem) (note : DescriptorNote) (cs : List ℕ) → 0 < length cs → buffer_part m note cs (32 * get_or cs 0 0) ≡ Some (buffer_for m note)
buffer_first m note [] some = absurd (omega (arith, some))
buffer_first m note (c ∷ cs) some = ap (λ (b : Bool). if b then Some (buffer_for m note) else None) (eq-eqb (32 * c) (32 * c) refl)

-- what is there is the buffer, which begins in the first run
pub record IsBufferAt (m : Mem) (note : DescriptorNote) (cs : List ℕ) (a : ℕ) (s : Structure) : Type 0 where
  pub some : 0 < length cs
  pub name : a ≡ 32 * get_or cs 0 0
  pub is : s ≡ buffer_for m note

at_name : (m : Mem) (note : DescriptorNote) (c a : ℕ) (cs : List ℕ) (s : Structure) (b : Bool) → (a == 32 * c) ≡ b → (if b then Some (buffer_for m note) else None) ≡ Some s → IsBufferAt m note (c ∷ cs) a s
at_name m note c a cs s true e found = record { some = omega arith; name = eqb-true a (32 * c) e; is = sym (same_Some (buffer_for m note) s found) }
at_name m note c a cs s false e found = absurd (cc)

pub buffer_found : (m : Mem) (note : DescriptorNote) (cs : List ℕ) (a : ℕ) (s : Structure) → buffer_part m note cs a ≡ Some s → IsBufferAt m note cs a s
buffer_found m note [] a s found = absurd (cc)
buffer_found m note (c ∷ cs) a s found = at_name m note c a cs s (a == 32 * c) refl found

-- ---- the whole

-- what is known of a descriptor once it is lent
pub record IsLentNow (h : Holding) (after : Mem) (x : EpDesc) (note : DescriptorNote) (b l : ℕ) : Type 0 where
  pub stands : Stands h
  pub shape : IsShaped h.memory
  pub fits : HasFields x
  pub run : IsPageRun (slot_of h.book.slots b) (blocks_in note.split)
  pub noted : IsDescriptorNoted (slot_of h.book.slots) note
  pub apart : AreAllApart (b ∷ take note.runs note.buffer)
  pub lends : LendsRuns (slot_of h.book.slots) (b ∷ take note.runs note.buffer) after
  pub words : words_at after (32 * b) (words_in note.split) ≡ set (descriptor_words x note) 0 l
  pub link : l % 32 < 8

module _ (h : Holding) (after : Mem) (x : EpDesc) (note : DescriptorNote) (b l : ℕ) (k : IsLentNow h after x note b l) where
  abbrev slot : ℕ → Slot
  slot = slot_of h.book.slots

  abbrev cs : List ℕ
  cs = take note.runs note.buffer

  abbrev part : Structures
  part = descriptor_part after x note b l

  pages : HasPages note
  pages = has_pages slot note k.noted

  lends_buffer : LendsRuns slot cs after
  lends_buffer c r one is = k.lends c r (inr one) is

  low : (i : ℕ) → get_or note.buffer i 0 < 32768
  low = blocks_low h note.buffer (pages_in note) note.runs pages.few k.stands pages.are (bytes_in note) k.shape k.noted.runs k.noted.rest

  -- ---- the words

  abbrev its_sitd : Sitd
  its_sitd = record (new_sitd x note.smask note.cmask note.slot note.buffer) { link = link_at l }

  abbrev its_itd : Itd
  its_itd = record (new_itd x note.smask note.slot note.buffer) { link = link_at l }

  is_sitd : note.split ≡ true → descriptor_with x note l ≡ SplitIsochronous its_sitd
  is_sitd e = ap (λ (s : Bool). if s then SplitIsochronous its_sitd else Isochronous its_itd) e

  is_itd : note.split ≡ false → descriptor_with x note l ≡ Isochronous its_itd
  is_itd e = ap (λ (s : Bool). if s then SplitIsochronous its_sitd else Isochronous its_itd) e

  sitd_there : note.split ≡ true → words_at after (32 * b) 7 ≡ sitd_words its_sitd
  sitd_there e =
      ap (λ (s : Bool). words_at after (32 * b) (if s then 7 else 16)) (sym e) ∙ k.words
      ∙ ap (λ (s : Bool). set (if s then sitd_words (new_sitd x note.smask note.cmask note.slot note.buffer) else itd_words (new_itd x note.smask note.slot note.buffer)) 0 l) e
      ∙ ap (λ (v : ℕ). set (sitd_words (new_sitd x note.smask note.cmask note.slot note.buffer)) 0 v) (sym (link_again l k.link)) ∙ sitd_words-link (new_sitd x note.smask note.cmask note.slot note.buffer) (link_at l)

  itd_there : note.split ≡ false → words_at after (32 * b) 16 ≡ itd_words its_itd
  itd_there e =
      ap (λ (s : Bool). words_at after (32 * b) (if s then 7 else 16)) (sym e) ∙ k.words
      ∙ ap (λ (s : Bool). set (if s then sitd_words (new_sitd x note.smask note.cmask note.slot note.buffer) else itd_words (new_itd x note.smask note.slot note.buffer)) 0 l) e
      ∙ ap (λ (v : ℕ). set (itd_words (new_itd x note.smask note.slot note.buffer)) 0 v) (sym (link_again l k.link)) ∙ itd_words-link (new_itd x note.smask note.slot note.buffer) (link_at l)

  -- ---- it stands in memory

  at_first : (k.run.run.first ≡ b) × (1 ≤ k.run.run.blocks)
  at_first = keeps_at h b k.run.run k.stands k.run.is

  reached : (i : ℕ) → i < k.run.run.blocks → reaches after (32 * b + 32 * i) ≡ true
  reached i below =
      let first = at_first.0 in
      reaches_if after (32 * b + 32 * i) (k.lends b k.run.run (inl refl) k.run.is ((32 * b + 32 * i) / 32) (omega (arith, first)) (omega (arith, first, below)))

  before_low : note.split ≡ false → (u : ℕ) → u < 8 → slots_before note.smask u * note.slot ≤ 24576
  before_low e u small = mul-le (slots_before note.smask u) note.slot 8 3072 (before_few note.smask u small) (few_slots slot note k.noted e)

  pub descriptor_holds : Holds after (32 * b) (descriptor_with x note l)
  descriptor_holds = by note.split refl
    where
      by : (split : Bool) → note.split ≡ split → Holds after (32 * b) (descriptor_with x note l)
      by true e =
          let one = ap blocks_in e in
          let blocks = k.run.blocks in
          let few = k.noted.few in
          let limit = ap slot_limit e in
          subst (Holds after (32 * b)) (sym (is_sitd e))
          (record {
            aligned = omega arith;
            lent = ap (reaches after) (let f : 32 * b ≡ 32 * b + 32 * 0 = omega arith in f) ∙ reached 0 (omega (arith, one, blocks));
            words = sitd_there e;
            range = sitd_range x note.smask note.cmask note.slot note.buffer l k.fits k.noted.smask k.noted.cmask (omega (arith, few, limit)) low;
          })
      by false e =
          let two = ap blocks_in e in
          let blocks = k.run.blocks in
          subst (Holds after (32 * b)) (sym (is_itd e))
          (record {
            aligned = omega arith;
            lent = both_true (reaches after (32 * b)) (reaches after (32 * b + 32))
                (ap (reaches after) (let f : 32 * b ≡ 32 * b + 32 * 0 = omega arith in f) ∙ reached 0 (omega (arith, two, blocks)))
                (ap (reaches after) (let f : 32 * b + 32 ≡ 32 * b + 32 * 1 = omega arith in f) ∙ reached 1 (omega (arith, two, blocks)));
            words = itd_there e;
            range = itd_range x note.smask note.slot note.buffer l k.fits (few_slots slot note k.noted e) (before_low e) low;
          })

  -- ---- the buffer

  some_runs : 0 < bytes_in note → 0 < length cs
  some_runs some = first_run slot (bytes_in note) cs k.noted.runs some

  first_same : 0 < length cs → get_or cs 0 0 ≡ get_or note.buffer 0 0
  first_same some = take_same note.runs note.buffer 0 some

  buffer_needed : 0 < length cs → 0 < bytes_in note
  buffer_needed some = by (bytes_in note) refl
    where
      by : (n : ℕ) → bytes_in note ≡ n → 0 < bytes_in note
      by zero is =
          let many : length cs ≡ length (buffer_needs (bytes_in note)) = runs_many slot (buffer_needs (bytes_in note)) cs k.noted.runs in
          let none = ap (λ (i : ℕ). length (buffer_needs i)) is in
          absurd (omega (arith, many, none, some))
      by (suc n) is = omega (arith, is)

  pub buffer_stands : (a : ℕ) (s : Structure) → buffer_part after note cs a ≡ Some s → Holds after a s
  buffer_stands a s found =
      let at : IsBufferAt after note cs a s = buffer_found after note cs a s found in
      subst (λ (u : Structure). Holds after a u) (sym at.is)
      (subst (λ (i : ℕ). Holds after i (buffer_for after note)) (sym (at.name ∙ ap (λ (c : ℕ). 32 * c) (first_same at.some)))
      (buffer_holds h note.buffer (pages_in note) note.runs pages.few k.stands pages.are after (bytes_in note) lends_buffer k.apart.1 k.noted.runs pages.fit (buffer_needed at.some)))

  -- ---- its structures

  part_first : part (32 * b) ≡ Some (descriptor_with x note l)
  part_first = ap (λ (t : Bool). if t then Some (descriptor_with x note l) else buffer_part after note cs (32 * b)) (eq-eqb (32 * b) (32 * b) refl)

  part_buffer : 0 < length cs → part (32 * get_or cs 0 0) ≡ Some (buffer_for after note)
  part_buffer some =
      ap (λ (t : Bool). if t then Some (descriptor_with x note l) else buffer_part after note cs (32 * get_or cs 0 0))
      (other_number (32 * get_or cs 0 0) (32 * b) (λ same. each_of (λ (i : ℕ). i ≢ b) (get_or cs 0 0) cs k.apart.0 (at_one cs 0 some)
      (let e : get_or cs 0 0 ≡ b = omega (arith, same) in e)))
      ∙ buffer_first after note cs some

  -- bytes of the buffer lie in it
  buffered : (from n : ℕ) → 0 < bytes_in note → start_in note ≤ from → from + n ≤ start_in note + bytes_in note → IsBuffered part (pages_in note) from n
  buffered from n some after_start within =
      let cs_some = some_runs some in
      let many = length-bytes_at after (pages_in note) (start_in note) (bytes_in note) in
      record {
        start = start_in note;
        bytes = bytes_at after (pages_in note) (start_in note) (bytes_in note);
        here = ap part (name_at h note.buffer (pages_in note) note.runs pages.few k.stands pages.are ∙ ap (λ (c : ℕ). 32 * c) (sym (first_same cs_some))) ∙ part_buffer cs_some;
        after = after_start;
        within = omega (arith, within, many);
      }

  lies : (i : ℕ) → i < bytes_in note → LiesIn slot cs note.buffer (pages_in note) i
  lies i inside = lies_in h note.buffer (pages_in note) note.runs pages.few k.stands pages.are (bytes_in note) i k.noted.runs pages.fit inside

  sitd_has : note.split ≡ true → HasSitd part (32 * b)
  sitd_has e = record {
    sitd = its_sitd;
    here = part_first ∙ ap Some (is_sitd e);
    bytes = λ active some.
        let all : bytes_in note ≡ note.slot = ap (λ (s : Bool). if s then note.slot else slots_in note.smask * note.slot) e in
        let named : pages_in note ≡ split_pages note.buffer = ap (λ (s : Bool). if s then split_pages note.buffer else whole_pages note.buffer) e in
        let at : 0 / 4096 * 4096 + buffer_address note.buffer 0 % 4096 ≡ start_in note + 0 = (lies 0 (omega (arith, all, some))).at in
        subst (λ (ps : List ℕ). IsBuffered part ps (sitd_place its_sitd) note.slot) named
        (buffered (sitd_place its_sitd) note.slot (omega (arith, all, some)) (omega (arith, at)) (omega (arith, at, all)));
  }

  itd_has : note.split ≡ false → HasItd part (32 * b)
  itd_has e = record {
    itd = its_itd;
    here = part_first ∙ ap Some (is_itd e);
    slots = λ u small active some.
        let s : ItdSlot = slot_in u its_itd in
        let all : bytes_in note ≡ slots_in note.smask * note.slot = ap (λ (t : Bool). if t then note.slot else slots_in note.smask * note.slot) e in
        let named : pages_in note ≡ whole_pages note.buffer = ap (λ (t : Bool). if t then split_pages note.buffer else whole_pages note.buffer) e in
        let its : IsSlotOf note.smask note.slot note.buffer u s = active_is x note.smask note.slot note.buffer l u small active in
        let j : ℕ = slots_before note.smask u * note.slot in
        let long : s.length ≡ note.slot = ap (λ (t : ItdSlot). t.length) its.is in
        let inside : j + note.slot ≤ bytes_in note = slot_inside u small its.on all in
        let at : j / 4096 * 4096 + buffer_address note.buffer j % 4096 ≡ start_in note + j = (lies j (omega (arith, inside, long, some))).at in
        let place_is : slot_place s ≡ start_in note + j = ap slot_place its.is ∙ at in
        subst (λ (ps : List ℕ). IsBuffered part ps (slot_place s) s.length) named
        (buffered (slot_place s) s.length (omega (arith, inside, long, some)) (omega (arith, place_is)) (omega (arith, place_is, long, inside)));
  }
    where
      slot_inside : (u : ℕ) → u < 8 → has note.smask u ≡ true → bytes_in note ≡ slots_in note.smask * note.slot → slots_before note.smask u * note.slot + note.slot ≤ bytes_in note
      slot_inside u small on all =
          let most : (slots_before note.smask u + 1) * note.slot ≤ slots_in note.smask * note.slot = mul-le (slots_before note.smask u + 1) note.slot (slots_in note.smask) note.slot (slot_within note.smask u small on) (omega arith) in
          let sum : (slots_before note.smask u + 1) * note.slot ≡ slots_before note.smask u * note.slot + note.slot = omega arith in
          omega (arith, most, sum, all)

  pub descriptor_has : HasDescriptor note.split part (32 * b)
  descriptor_has = by note.split refl
    where
      by : (split : Bool) → note.split ≡ split → HasDescriptor note.split part (32 * b)
      by true e = subst (λ (s : Bool). HasDescriptor s part (32 * b)) (sym e) (sitd_has e)
      by false e = subst (λ (s : Bool). HasDescriptor s part (32 * b)) (sym e) (itd_has e)

  -- ---- its buffer reaches no further than its runs

  module _ (lent : ℕ → Slot) (now : (c : ℕ) (r : Run) → IsOneOf c cs → slot c ≡ Keeps r → lent c ≡ Lends r) where
    buffer_in : (ds : List ℕ) → cs ≡ ds → HasItsBuffer lent part ds
    buffer_in [] is = tt
    buffer_in (d ∷ ds) is =
        let some : 0 < length cs = (let e = ap length is in omega (arith, e)) in
        let first : get_or cs 0 0 ≡ d = ap (λ (es : List ℕ). get_or es 0 0) is in
        let many = length-bytes_at after (pages_in note) (start_in note) (bytes_in note) in
        record {
          pages = pages_in note;
          start = start_in note;
          bytes = bytes_at after (pages_in note) (start_in note) (bytes_in note);
          here = ap (λ (c : ℕ). part (32 * c)) (sym first) ∙ part_buffer some;
          runs = λ j inside.
              let i : ℕ = inside.0 in
              let below = inside.1 in
              let at = inside.2 in
              let l : LiesIn slot cs note.buffer (pages_in note) i = lies i (omega (arith, below, many)) in
              let n : ℕ = (start_in note + i) / 4096 in
              let from = l.inside.from in
              let under = l.inside.below in
              record {
                at = get_or cs n 0;
                among = subst (IsAmong (get_or cs n 0)) is (among_at cs n l.below);
                has = subst (λ (s : Slot). SlotHas s j) (sym (now (get_or cs n 0) l.run (at_one cs n l.below) l.is)) (has_block_from l.run j (omega (arith, from, at)) (omega (arith, under, at)));
              };
        }

    pub has_buffer : HasItsBuffer lent part cs
    has_buffer = buffer_in cs refl
