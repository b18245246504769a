-- The worked memory is told by its structures.
use Rattle.std.proofs.Common.{◌≡◌, ℕ, zero, suc, ◌+◌, ◌/◌, ◌<◌, Some, refl, subst, ⊎_elim, arith}
use Rattle.word_mem.specs.Memory.{IsShaped}
use Rattle.word_mem.specs.Views.{words_in}
use Rattle.mem_bytes.specs.Bytes.{places, bytes_at, AreReached}
use Rattle.qh_qtd.specs.Qtd.{qtd_words, IsQtdInRange}
use Rattle.qh_qtd.specs.QueueHead.{qh_words, IsQhInRange}
use Rattle.law_structures.specs.lent_structures.Structures.{Structure, QueueHead, Element, Buffer, HoldsQueueHead, HoldsElement, HoldsBuffer, StructureSets, put, Has, AreSeparate, Tells}
use Rattle.law_structures.specs.lent_structures.StructureSamples.{queue, element, bytes, pages, memory, nothing, parts}
use Rattle.law_structures.proofs.lemmas.lent_structures.Names.{put_found}
use Rattle.law_structures.proofs.lemmas.lent_structures.Telling.{another_is_told}

shaped : IsShaped memory
unfolding qh_words qtd_words
shaped = record { at_least = omega arith; at_most = omega arith; whole_pages = refl; eight_each = refl }

pub queue_range : IsQhInRange queue
queue_range = (
  (refl, (omega arith, tt)),
  (
    (omega arith, (omega arith, (omega arith, (omega arith, (omega arith, tt))))),
    (
      (omega arith, (omega arith, (omega arith, (omega arith, (omega arith, tt))))),
      (
        (refl, tt),
        (
          (refl, tt),
          (
            (refl, (omega arith, tt)),
            (
              (omega arith, (omega arith, (omega arith, (omega arith, tt)))),
              (
                (omega arith, (omega arith, tt)),
                (
                  (omega arith, (omega arith, tt)),
                  (
                    (omega arith, (omega arith, (omega arith, tt))),
                    (
                      (omega arith, tt),
                      ((omega arith, tt), tt),
                    ),
                  ),
                ),
              ),
            ),
          ),
        ),
      ),
    ),
  ),
)

element_range : IsQtdInRange element
element_range =
    ((refl, tt), ((refl, tt), ((omega arith, (omega arith, (omega arith, (omega arith, tt)))), ((omega arith, (omega arith, tt)), ((omega arith, tt), ((omega arith, tt), ((omega arith, tt), ((omega arith, tt), tt))))))))

queue_there : HoldsQueueHead memory 0 queue
unfolding qh_words qtd_words words_in
queue_there = record { aligned = refl; lent = refl; words = refl; range = queue_range }

element_there : HoldsElement memory 64 element
unfolding qh_words qtd_words words_in
element_there = record { aligned = refl; lent = refl; words = refl; range = element_range }

both_reached : AreReached memory pages 100 2
unfolding qh_words qtd_words
both_reached (suc (suc i)) below = absurd (omega (arith, below))
both_reached _ below = refl

both_separate : AreSeparate pages 100 2
both_separate zero zero one other same = refl
both_separate (suc zero) (suc zero) one other same = refl
both_separate zero (suc zero) one other same = absurd (omega (arith, same))
both_separate (suc zero) zero one other same = absurd (omega (arith, same))
both_separate (suc (suc i)) j one other same = absurd (omega (arith, one))
both_separate i (suc (suc j)) one other same = absurd (omega (arith, other))

buffer_there : HoldsBuffer memory 100 pages 100 bytes
unfolding qh_words qtd_words places bytes_at
buffer_there = record { name = refl; within = omega arith; separate = both_separate; lent = both_reached; bytes = refl }

-- ---- one after the other

none_told : Tells memory nothing
none_told = record { shape = shaped; each = λ n a s found. cc; alone = λ n a k c s t b found other has also. cc }

abbrev head_parts : StructureSets
head_parts = put nothing 0 0 (QueueHead queue)

head_told : Tells memory head_parts
head_told = another_is_told memory nothing 0 0 (QueueHead queue) none_told queue_there (λ b k c u has found also. cc)

-- the queue head lies below block 2
below_two : (k c : ℕ) (u : Structure) (b : ℕ) → head_parts k c ≡ Some u → Has c u b → b < 2
below_two k c u b found has =
    ⊎_elim (λ (is : (k ≡ 0) × (c ≡ 0) × (u ≡ QueueHead queue)).
    let at : Has 0 (QueueHead queue) b = subst (λ (i : ℕ). Has i (QueueHead queue) b) is.1 (subst (λ (v : Structure). Has c v b) is.2 has) in
    ⊎_elim (λ (first : b ≡ 0 / 32). omega (arith, first)) (λ (second : b ≡ 0 / 32 + 1). omega (arith, second)) at)
    (λ (there : nothing k c ≡ Some u). cc) (put_found nothing 0 0 (QueueHead queue) k c u found)

abbrev two_parts : StructureSets
two_parts = put head_parts 0 64 (Element element)

two_told : Tells memory two_parts
two_told = another_is_told memory head_parts 0 64 (Element element) head_told element_there
    (λ b k c u has found also. let low = below_two k c u b found also in omega (arith, low, has))

-- and the qTD below block 3
below_three : (k c : ℕ) (u : Structure) (b : ℕ) → two_parts k c ≡ Some u → Has c u b → b < 3
below_three k c u b found has =
    ⊎_elim (λ (is : (k ≡ 0) × (c ≡ 64) × (u ≡ Element element)).
    let at : Has 64 (Element element) b = subst (λ (i : ℕ). Has i (Element element) b) is.1 (subst (λ (v : Structure). Has c v b) is.2 has) in
    omega (arith, at))
    (λ (there : head_parts k c ≡ Some u). let low = below_two k c u b there has in omega (arith, low)) (put_found head_parts 0 64 (Element element) k c u found)

in_block_three : (b : ℕ) → Has 100 (Buffer pages 100 bytes) b → b ≡ 3
in_block_three b (zero, below, is) = is
in_block_three b (suc zero, below, is) = is
in_block_three b (suc (suc i), below, is) = absurd (omega (arith, below))

pub sample_told : Tells memory parts
sample_told = another_is_told memory two_parts 0 100 (Buffer pages 100 bytes) two_told buffer_there
    (λ b k c u has found also. let low = below_three k c u b found also in let at = in_block_three b has in omega (arith, low, at))
