-- The worked ring is one.
use Rattle.std.proofs.Common.{◌≡◌, ◌≢◌, ℕ, zero, suc, ◌+◌, ◌<◌, ◌≤◌, ◌⊎◌, Bool, true, false, ◌||◌, ◌==◌, Some, None, refl, sym, subst, ◌∙◌, ⊎_elim, inl, inr, arith}
use Rattle.std.proofs.lemmas.Bool.{eqb-true, true≢false}
use Rattle.law_structures.proofs.Common.{element_is}
use Rattle.word_mem.specs.Memory.{Mem, IsShaped}
use Rattle.word_mem.specs.Views.{words_in}
use Rattle.mem_bytes.specs.Bytes.{places, bytes_at, AreReached}
use Rattle.qh_qtd.specs.declared.qtd.Qtd.{Qtd}
use Rattle.qh_qtd.specs.Qtd.{qtd_words, IsQtdInRange}
use Rattle.qh_qtd.specs.QueueHead.{qh_words, IsQhInRange}
use Rattle.law_structures.specs.lent_structures.Structures.{Structure, QueueHead, Element, Buffer, HoldsQueueHead, HoldsElement, HoldsBuffer, Holds, Structures, StructureSets, with_structure, put, Has, AreSeparate, Tells}
use Rattle.law_structures.proofs.lemmas.lent_structures.Names.{put_found}
use Rattle.law_structures.proofs.lemmas.lent_structures.Telling.{another_is_told}
use Rattle.law_structures.specs.lent_structures.Sound.{IsSoundElement, IsMember}
use Rattle.law_ring.specs.Hand.{Empty}
use Rattle.law_ring.specs.Ring.{IsRing}
use Rattle.law_ring.specs.StoreSamples.{head, queue, element, bytes, pages, memory, nothing, parts, member, base, ring}
use Rattle.law_ring.proofs.Parting.{found_with}

shaped : IsShaped memory
unfolding qh_words qtd_words
shaped = record { at_least = omega arith; at_most = omega arith; whole_pages = refl; eight_each = refl }

head_range : IsQhInRange head
head_range = (
  (refl, (omega arith, tt)),
  (
    (omega arith, (omega arith, (omega arith, (omega arith, (omega arith, tt))))),
    (
      (omega arith, (omega arith, (omega arith, (omega arith, (omega arith, tt))))),
      (
        (refl, tt),
        (
          (refl, tt),
          (
            (refl, (omega arith, tt)),
            (
              (omega arith, (omega arith, (omega arith, (omega arith, tt)))),
              (
                (omega arith, (omega arith, tt)),
                (
                  (omega arith, (omega arith, tt)),
                  (
                    (omega arith, (omega arith, (omega arith, tt))),
                    (
                      (omega arith, tt),
                      ((omega arith, tt), tt),
                    ),
                  ),
                ),
              ),
            ),
          ),
        ),
      ),
    ),
  ),
)

queue_range : IsQhInRange queue
queue_range = (
  (refl, (omega arith, tt)),
  (
    (omega arith, (omega arith, (omega arith, (omega arith, (omega arith, tt))))),
    (
      (omega arith, (omega arith, (omega arith, (omega arith, (omega arith, tt))))),
      (
        (refl, tt),
        (
          (refl, tt),
          (
            (refl, (omega arith, tt)),
            (
              (omega arith, (omega arith, (omega arith, (omega arith, tt)))),
              (
                (omega arith, (omega arith, tt)),
                (
                  (omega arith, (omega arith, tt)),
                  (
                    (omega arith, (omega arith, (omega arith, tt))),
                    (
                      (omega arith, tt),
                      ((omega arith, tt), tt),
                    ),
                  ),
                ),
              ),
            ),
          ),
        ),
      ),
    ),
  ),
)

element_range : IsQtdInRange element
element_range =
    ((refl, tt), ((refl, tt), ((omega arith, (omega arith, (omega arith, (omega arith, tt)))), ((omega arith, (omega arith, tt)), ((omega arith, tt), ((omega arith, tt), ((omega arith, tt), ((omega arith, tt), tt))))))))

head_there : HoldsQueueHead memory 0 head
unfolding qh_words qtd_words words_in
head_there = record { aligned = refl; lent = refl; words = refl; range = head_range }

queue_there : HoldsQueueHead memory 64 queue
unfolding qh_words qtd_words words_in
queue_there = record { aligned = refl; lent = refl; words = refl; range = queue_range }

element_there : HoldsElement memory 128 element
unfolding qh_words qtd_words words_in
element_there = record { aligned = refl; lent = refl; words = refl; range = element_range }

both_reached : AreReached memory pages 160 2
unfolding qh_words qtd_words
both_reached (suc (suc i)) below = absurd (omega (arith, below))
both_reached _ below = refl

both_separate : AreSeparate pages 160 2
both_separate zero zero one other same = refl
both_separate (suc zero) (suc zero) one other same = refl
both_separate zero (suc zero) one other same = absurd (omega (arith, same))
both_separate (suc zero) zero one other same = absurd (omega (arith, same))
both_separate (suc (suc i)) j one other same = absurd (omega (arith, one))
both_separate i (suc (suc j)) one other same = absurd (omega (arith, other))

buffer_there : HoldsBuffer memory 160 pages 160 bytes
unfolding qh_words qtd_words places bytes_at
buffer_there = record { name = refl; within = omega arith; separate = both_separate; lent = both_reached; bytes = refl }

-- ---- one after the other

-- told, and below a block
pub record ToldBelow (m : Mem) (parts : StructureSets) (limit : ℕ) : Type 0 where
  pub told : Tells m parts
  pub below : (n a : ℕ) (s : Structure) (b : ℕ) → parts n a ≡ Some s → Has a s b → b < limit

pub told_above : (m : Mem) (parts : StructureSets) (low high n a : ℕ) (s : Structure) → ToldBelow m parts low → Holds m a s → ((b : ℕ) → Has a s b → (low ≤ b) × (b < high)) → low ≤ high → ToldBelow m (put parts n a s) high
told_above m parts low high n a s t holds between order = record {
  told = another_is_told m parts n a s t.told holds (λ b k c u has found also. let from = (between b has).0 in let below = t.below k c u b found also in omega (arith, from, below));
  below = λ k c u b found has.
      ⊎_elim (λ (is : (k ≡ n) × (c ≡ a) × (u ≡ s)).
      (between b (subst (λ (i : ℕ). Has i s b) is.1 (subst (λ (v : Structure). Has c v b) is.2 has))).1)
      (λ (there : parts k c ≡ Some u). let before = t.below k c u b there has in omega (arith, before, order)) (put_found parts n a s k c u found);
}

none_told : ToldBelow memory nothing 0
none_told = record {
  told = record { shape = shaped; each = λ n a s found. cc; alone = λ n a k c s t b found other has also. cc };
  below = λ n a s b found has. cc;
}

two_blocks : (k b : ℕ) → (b ≡ k) ⊎ (b ≡ k + 1) → (k ≤ b) × (b < k + 2)
two_blocks k b (inl is) = (omega (arith, is), omega (arith, is))
two_blocks k b (inr is) = (omega (arith, is), omega (arith, is))

in_block_five : (b : ℕ) → Has 160 (Buffer pages 160 bytes) b → (5 ≤ b) × (b < 6)
in_block_five b (zero, below, is) = (omega (arith, is), omega (arith, is))
in_block_five b (suc zero, below, is) = (omega (arith, is), omega (arith, is))
in_block_five b (suc (suc i), below, is) = absurd (omega (arith, below))

all_told : ToldBelow memory parts 6
all_told =
    told_above memory (put (put (put nothing 0 0 (QueueHead head)) 64 64 (QueueHead queue)) 64 128 (Element element)) 5 6 64 160 (Buffer pages 160 bytes)
    (told_above memory (put (put nothing 0 0 (QueueHead head)) 64 64 (QueueHead queue)) 4 5 64 128 (Element element)
    (told_above memory (put nothing 0 0 (QueueHead head)) 2 4 64 64 (QueueHead queue)
    (told_above memory nothing 0 2 0 0 (QueueHead head) none_told head_there (two_blocks 0) (omega arith))
    queue_there (two_blocks 2) (omega arith))
    element_there (λ b is. (omega (arith, is), omega (arith, is))) (omega arith))
    buffer_there in_block_five (omega arith)

-- ---- the members

abbrev no_part : Structures
no_part a = None

none_there : (a : ℕ) (t : Qtd) → no_part a ≡ Some (Element t) → ⊥
none_there a t there = cc

abbrev head_part : Structures
head_part = with_structure no_part 0 (QueueHead head)

abbrev queue_part : Structures
queue_part = with_structure (with_structure (with_structure no_part 64 (QueueHead queue)) 128 (Element element)) 160 (Buffer pages 160 bytes)

no_element : (a : ℕ) (t : Qtd) → head_part a ≡ Some (Element t) → ⊥
no_element a t found =
    ⊎_elim (λ (is : (a ≡ 0) × (QueueHead head ≡ Element t)). cc) (λ (there : (a ≢ 0) × (no_part a ≡ Some (Element t))). none_there a t there.1)
    (found_with no_part 0 a (QueueHead head) (Element t) found)

pub one_element : (a : ℕ) (t : Qtd) → queue_part a ≡ Some (Element t) → (a ≡ 128) × (element ≡ t)
one_element a t found =
    ⊎_elim (λ (is : (a ≡ 160) × (Buffer pages 160 bytes ≡ Element t)). cc)
    (λ (second : (a ≢ 160) × (with_structure (with_structure no_part 64 (QueueHead queue)) 128 (Element element) a ≡ Some (Element t))).
    ⊎_elim (λ (is : (a ≡ 128) × (Element element ≡ Element t)). (is.0, element_is element t is.1))
    (λ (first : (a ≢ 128) × (with_structure no_part 64 (QueueHead queue) a ≡ Some (Element t))).
    ⊎_elim (λ (is : (a ≡ 64) × (QueueHead queue ≡ Element t)). cc) (λ (there : (a ≢ 64) × (no_part a ≡ Some (Element t))). absurd (none_there a t there.1))
    (found_with no_part 64 a (QueueHead queue) (Element t) first.1))
    (found_with (with_structure no_part 64 (QueueHead queue)) 128 a (Element element) (Element t) second.1))
    (found_with (with_structure (with_structure no_part 64 (QueueHead queue)) 128 (Element element)) 160 a (Buffer pages 160 bytes) (Element t) found)

head_member : IsMember member 0 head_part
head_member = record {
  queue = head;
  here = refl;
  link = record { to = 64; leads = refl; on = refl };
  sound = record { rest = λ off idle. tt; work = λ on. absurd (true≢false (sym on)) };
  elements = λ a t found. absurd (no_element a t found);
  own = λ a b t u ps k bs one other same there. absurd (no_element a t one);
}

element_sound : IsSoundElement queue_part element
element_sound = record {
  next = tt;
  alternate = tt;
  work = λ on. record { goes_on = refl; start = refl; buffer = λ some. record { bytes = bytes; here = refl; size = refl } };
}

queue_member : IsMember member 64 queue_part
queue_member = record {
  queue = queue;
  here = refl;
  link = record { to = 0; leads = refl; on = refl };
  sound = record {
    rest = λ off idle. tt;
    work = λ on. record { element = element; here = refl; published = refl; goes_on = refl; pid = refl; pages = refl; next = refl; alternate = refl; fewer = omega arith; place = refl };
  };
  elements = λ a t found. subst (IsSoundElement queue_part) (one_element a t found).1 element_sound;
  own = λ a b t u ps k bs one other same there. (one_element a t one).0 ∙ sym (one_element b u other).0;
}

members_at : (b c : Bool) (n : ℕ) → (n == 0) ≡ b → (n == 64) ≡ c → (b || c) ≡ true → IsMember member n (parts n)
members_at true c n zero_is c_is on = subst (λ (i : ℕ). IsMember member i (parts i)) (sym (eqb-true n 0 zero_is)) head_member
members_at false true n zero_is c_is on = subst (λ (i : ℕ). IsMember member i (parts i)) (sym (eqb-true n 64 c_is)) queue_member
members_at false false n zero_is c_is on = absurd (true≢false (sym on))

pub ring_at_work : IsRing base member parts Empty ring
ring_at_work = record {
  tells = all_told.told;
  members = λ n on. members_at (n == 0) (n == 64) n refl refl on;
  registers = refl;
  start = refl;
  cursor = record { to = 0; leads = refl; on = refl };
  held = refl;
  in_hand = tt;
}
