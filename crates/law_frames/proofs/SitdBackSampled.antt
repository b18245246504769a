-- The worked siTD is in hand, before its transaction, after it, and where a microframe was missed.
use Rattle.std.proofs.Common.{◌≡◌, ℕ, zero, suc, ◌<◌, [], ◌∷◌, Some, slice_index, refl, subst, ⊎_elim, arith}
use Rattle.usb_base.specs.declared.packets.Reply.TheVariants.{Silent}
use Rattle.word_mem.specs.Memory.{IsShaped}
use Rattle.word_mem.specs.Views.{words_in}
use Rattle.mem_bytes.specs.Bytes.{places, bytes_at, AreReached}
use Rattle.itd_sitd.specs.Sitd.{sitd_words, IsSitdInRange}
use Rattle.hc_iso.specs.declared.held.SplitOutcome.TheVariants.{Moved}
use Rattle.hc_masks.specs.Masks.{lacks}
use Rattle.hc_iso.specs.Sitd.{after_complete}
use Rattle.law_structures.specs.lent_structures.Structures.{Structure, Buffer, SplitIsochronous, HoldsBuffer, HoldsSplitIsochronous, put, Has, AreSeparate, Tells}
use Rattle.law_structures.proofs.lemmas.lent_structures.Names.{put_found}
use Rattle.law_structures.proofs.lemmas.lent_structures.Telling.{another_is_told}
use Rattle.law_frames.specs.Met.{IsMetSitd}
use Rattle.law_frames.specs.Frame.{IsCopiedSitd}
use Rattle.law_frames.specs.SitdBacks.{IsSitdInHand, missed, AreReceivedBy}
use Rattle.law_frames.specs.SitdBackSamples.{sitd, pages, bytes, met, memory, nothing, parts, fetched, heard, moved, into}
use Rattle.law_frames.proofs.Turned.{transacted_is_in_hand, missed_is_in_hand}

shaped : IsShaped memory
unfolding sitd_words
shaped = record { at_least = omega arith; at_most = omega arith; whole_pages = refl; eight_each = refl }

range : IsSitdInRange sitd
range = (
  (refl, (omega arith, tt)),
  (
    (omega arith, (omega arith, (omega arith, (omega arith, tt)))),
    (
      (omega arith, (omega arith, tt)),
      (
        (omega arith, (omega arith, tt)),
        (
          (omega arith, (omega arith, tt)),
          (
            (omega arith, (omega arith, (omega arith, tt))),
            ((refl, tt), tt),
          ),
        ),
      ),
    ),
  ),
)

sitd_there : HoldsSplitIsochronous memory 64 sitd
unfolding sitd_words words_in
sitd_there = record { aligned = refl; lent = refl; words = refl; range = range }

both_reached : AreReached memory pages 96 2
unfolding sitd_words
both_reached (suc (suc i)) below = absurd (omega (arith, below))
both_reached _ below = refl

both_separate : AreSeparate pages 96 2
both_separate zero zero one other same = refl
both_separate (suc zero) (suc zero) one other same = refl
both_separate zero (suc zero) one other same = absurd (omega (arith, same))
both_separate (suc zero) zero one other same = absurd (omega (arith, same))
both_separate (suc (suc i)) j one other same = absurd (omega (arith, one))
both_separate i (suc (suc j)) one other same = absurd (omega (arith, other))

buffer_there : HoldsBuffer memory 96 pages 96 bytes
unfolding sitd_words places bytes_at
buffer_there = record { name = refl; within = omega arith; separate = both_separate; lent = both_reached; bytes = refl }

none_told : Tells memory nothing
none_told = record { shape = shaped; each = λ n a s found. cc; alone = λ n a k c s t b found other has also. cc }

in_block_three : (b : ℕ) → Has 96 (Buffer pages 96 bytes) b → b ≡ 3
in_block_three b (zero, below, is) = is
in_block_three b (suc zero, below, is) = is
in_block_three b (suc (suc i), below, is) = absurd (omega (arith, below))

one_told : Tells memory (put nothing 64 64 (SplitIsochronous sitd))
one_told = another_is_told memory nothing 64 64 (SplitIsochronous sitd) none_told sitd_there (λ b k c u has found also. cc)

apart : (b k c : ℕ) (u : Structure) → Has 96 (Buffer pages 96 bytes) b → put nothing 64 64 (SplitIsochronous sitd) k c ≡ Some u → Has c u b → ⊥
apart b k c u has found also =
    ⊎_elim (λ (is : (k ≡ 64) × (c ≡ 64) × (u ≡ SplitIsochronous sitd)).
    let here : Has 64 (SplitIsochronous sitd) b = subst (λ (i : ℕ). Has i (SplitIsochronous sitd) b) is.1 (subst (λ (v : Structure). Has c v b) is.2 also) in
    let three = in_block_three b has in
    omega (arith, here, three))
    (λ (there : nothing k c ≡ Some u). cc) (put_found nothing 64 64 (SplitIsochronous sitd) k c u found)

told : Tells memory parts
told = another_is_told memory (put nothing 64 64 (SplitIsochronous sitd)) 64 96 (Buffer pages 96 bytes) one_told buffer_there apart

sitd_met : IsMetSitd met 64 (parts 64)
sitd_met = record { sitd = sitd; here = refl; link = tt; bytes = λ works some. record { start = 96; bytes = bytes; here = refl; after = omega arith; within = omega arith } }

copied : IsCopiedSitd met parts Silent fetched
copied = record { on = refl; here = refl; link = tt; range = range; turn = refl }

pub before : IsSitdInHand met parts memory Silent fetched
before = record { tells = told; is_met = sitd_met; copied = copied }

small : (i : ℕ) → slice_index (5 ∷ 6 ∷ []) i < 256
small (suc zero) = omega arith
small _ = omega arith

pub after : IsSitdInHand met parts memory heard moved
unfolding lacks
after = transacted_is_in_hand met parts memory Silent heard fetched 2 before refl refl (omega arith) small

pub miss : IsSitdInHand met parts memory Silent (missed fetched)
unfolding lacks
miss = missed_is_in_hand met parts memory Silent Silent fetched 3 before refl refl

pub received : AreReceivedBy parts moved (Moved 2) heard into
unfolding after_complete
received = record { pages_are = refl; buffer = refl; place_is = refl; fits = omega arith; bytes = small }
