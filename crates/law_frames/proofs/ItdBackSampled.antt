-- The worked iTD, with its two bytes, is written back.
use Rattle.std.proofs.Common.{◌≡◌, ℕ, zero, suc, ◌<◌, true, [], ◌∷◌, refl, arith}
use Rattle.std.specs.Prelude.{slice_index}
use Rattle.word_mem.specs.Memory.{word_at}
use Rattle.mem_bytes.specs.Bytes.{places, put_byte, put_bytes, all_reached, stored}
use Rattle.itd_sitd.specs.Slot.{slot_word}
use Rattle.itd_sitd.specs.Itd.{itd_words}
use Rattle.qh_qtd.specs.QueueHead.{qh_words}
use Rattle.hc_iso.specs.Itd.{fetched_itd, after_in}
use Rattle.hc_iso.specs.WriteBack.{done_slot, itd_written}
use Rattle.hc_iso.proofs.Ranges.{in_held}
use Rattle.law_structures.specs.lent_structures.Structures.{Tells}
use Rattle.law_frames.specs.Met.{AnItd, IsMetItd}
use Rattle.law_frames.specs.Frame.{IsCopiedItd}
use Rattle.law_frames.specs.PartSamples.{met, memory, parts, in_hand, heard, moved}
use Rattle.law_frames.proofs.PartSampled.{before_it, after_it}

pub told : Tells memory parts
told = before_it.tells

pub itd_met : IsMetItd met 64 (parts 64)
itd_met = before_it.members 64 AnItd refl

two_small : (i : ℕ) → slice_index (5 ∷ 6 ∷ []) i < 256
two_small (suc zero) = omega arith
two_small _ = omega arith

pub copied : IsCopiedItd met parts (5 ∷ 6 ∷ []) moved
unfolding fetched_itd after_in
copied = record {
  on = refl;
  here = refl;
  link = refl;
  same = refl;
  held = in_held in_hand.held heard after_it.walk.in_hand.held refl;
  slot = record { page = refl; offset = refl; length = refl; active = refl };
  count = refl;
  small = two_small;
  begun = λ some. refl;
}

-- ---- the words that are written

pub all_written : (itd_written moved.held (5 ∷ 6 ∷ []) memory).all ≡ true
unfolding fetched_itd after_in done_slot slot_word itd_words qh_words itd_written places all_reached stored put_byte put_bytes
all_written = refl

pub bytes_written : word_at (itd_written moved.held (5 ∷ 6 ∷ []) memory).memory 192 ≡ 0x605
unfolding fetched_itd after_in done_slot slot_word itd_words qh_words itd_written places all_reached stored put_byte put_bytes
bytes_written = refl

pub word_written : word_at (itd_written moved.held (5 ∷ 6 ∷ []) memory).memory 76 ≡ 0x200C0
unfolding fetched_itd after_in done_slot slot_word itd_words qh_words itd_written places all_reached stored put_byte put_bytes
word_written = refl

pub link_left : word_at (itd_written moved.held (5 ∷ 6 ∷ []) memory).memory 64 ≡ 130
unfolding fetched_itd after_in done_slot slot_word itd_words qh_words itd_written places all_reached stored put_byte put_bytes
link_left = refl

pub next_left : word_at (itd_written moved.held (5 ∷ 6 ∷ []) memory).memory 80 ≡ 0
unfolding fetched_itd after_in done_slot slot_word itd_words qh_words itd_written places all_reached stored put_byte put_bytes
next_left = refl
