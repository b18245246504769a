-- The worked frame is one, before its iTD is read and after it.
use Rattle.std.proofs.Common.{◌≡◌, ℕ, zero, suc, ◌+◌, ◌<◌, ◌≤◌, ◌⊎◌, Bool, true, false, ◌==◌, Option, Some, None, if◌then◌else◌, refl, sym, subst, ⊎_elim, inl, inr, arith}
use Rattle.std.proofs.lemmas.Bool.{eqb-true, true≢false}
use Rattle.std.proofs.lemmas.Option.{same_Some}
use Rattle.word_mem.specs.Memory.{Mem, IsShaped}
use Rattle.word_mem.specs.Views.{words_in}
use Rattle.mem_bytes.specs.Bytes.{places, bytes_at, AreReached}
use Rattle.qh_qtd.specs.declared.qtd.Qtd.{Qtd}
use Rattle.qh_qtd.specs.QueueHead.{qh_words, IsQhInRange}
use Rattle.itd_sitd.specs.Itd.{slot_of, itd_words, IsItdInRange}
use Rattle.hc_iso.specs.Itd.{fetched_itd}
use Rattle.hc_iso.specs.WriteBack.{itd_pages, slot_place}
use Rattle.hc_iso.proofs.Ranges.{fetched_held}
use Rattle.law_structures.specs.lent_structures.Structures.{Structure, QueueHead, Element, Buffer, Isochronous, HoldsQueueHead, HoldsBuffer, HoldsIsochronous, Holds, StructureSets, put, Has, AreSeparate, Tells}
use Rattle.law_structures.proofs.lemmas.lent_structures.Names.{put_found}
use Rattle.law_structures.proofs.lemmas.lent_structures.Telling.{another_is_told}
use Rattle.law_frames.specs.Met.{Kind, AQueue, AnItd, IsBuffered, IsMetQueue, IsMetItd, IsMetAs}
use Rattle.law_frames.specs.FrameHand.{Nothing, OfItd}
use Rattle.law_frames.specs.Frame.{IsCopiedItd, IsFrame}
use Rattle.law_frames.specs.FrameEffects.{Fetches, of_itd}
use Rattle.law_frames.specs.PartSamples.{itd, queue, bytes, pages, met, memory, nothing, parts, begun, at, in_hand, fetched}

-- ---- the structures stand in memory

shaped : IsShaped memory
unfolding qh_words itd_words
shaped = record { at_least = omega arith; at_most = omega arith; whole_pages = refl; eight_each = refl }

queue_range : IsQhInRange queue
queue_range = (
  (refl, (omega arith, tt)),
  (
    (omega arith, (omega arith, (omega arith, (omega arith, (omega arith, tt))))),
    (
      (omega arith, (omega arith, (omega arith, (omega arith, (omega arith, tt))))),
      (
        (refl, tt),
        (
          (refl, tt),
          (
            (refl, (omega arith, tt)),
            (
              (omega arith, (omega arith, (omega arith, (omega arith, tt)))),
              (
                (omega arith, (omega arith, tt)),
                (
                  (omega arith, (omega arith, tt)),
                  (
                    (omega arith, (omega arith, (omega arith, tt))),
                    (
                      (omega arith, tt),
                      ((omega arith, tt), tt),
                    ),
                  ),
                ),
              ),
            ),
          ),
        ),
      ),
    ),
  ),
)

itd_range : IsItdInRange itd
itd_range = record {
  eight = refl;
  fields = (
    (refl, (omega arith, tt)),
    (
      (omega arith, (omega arith, (omega arith, tt))),
      (
        (omega arith, (omega arith, (omega arith, tt))),
        (
          (omega arith, (omega arith, (omega arith, tt))),
          (
            (omega arith, (omega arith, (omega arith, tt))),
            (
              (omega arith, (omega arith, (omega arith, tt))),
              (
                (omega arith, (omega arith, (omega arith, tt))),
                (
                  (omega arith, (omega arith, (omega arith, tt))),
                  (
                    (omega arith, (omega arith, (omega arith, tt))),
                    (
                      (omega arith, (omega arith, (omega arith, tt))),
                      (
                        (omega arith, (omega arith, tt)),
                        (
                          (omega arith, ((omega arith, omega arith), tt)),
                          ((omega arith, tt), ((omega arith, tt), ((omega arith, tt), ((omega arith, tt), tt)))),
                        ),
                      ),
                    ),
                  ),
                ),
              ),
            ),
          ),
        ),
      ),
    ),
  );
}

queue_there : HoldsQueueHead memory 128 queue
unfolding qh_words itd_words words_in
queue_there = record { aligned = refl; lent = refl; words = refl; range = queue_range }

itd_there : HoldsIsochronous memory 64 itd
unfolding qh_words itd_words words_in
itd_there = record { aligned = refl; lent = refl; words = refl; range = itd_range }

both_reached : AreReached memory pages 192 2
unfolding qh_words itd_words
both_reached (suc (suc i)) below = absurd (omega (arith, below))
both_reached _ below = refl

both_separate : AreSeparate pages 192 2
both_separate zero zero one other same = refl
both_separate (suc zero) (suc zero) one other same = refl
both_separate zero (suc zero) one other same = absurd (omega (arith, same))
both_separate (suc zero) zero one other same = absurd (omega (arith, same))
both_separate (suc (suc i)) j one other same = absurd (omega (arith, one))
both_separate i (suc (suc j)) one other same = absurd (omega (arith, other))

buffer_there : HoldsBuffer memory 192 pages 192 bytes
unfolding qh_words itd_words places bytes_at
buffer_there = record { name = refl; within = omega arith; separate = both_separate; lent = both_reached; bytes = refl }

-- ---- one after the other

-- told, and below a block
record ToldBelow (m : Mem) (parts : StructureSets) (limit : ℕ) : Type 0 where
  told : Tells m parts
  below : (n a : ℕ) (s : Structure) (b : ℕ) → parts n a ≡ Some s → Has a s b → b < limit

told_above : (m : Mem) (parts : StructureSets) (low high n a : ℕ) (s : Structure) → ToldBelow m parts low → Holds m a s → ((b : ℕ) → Has a s b → (low ≤ b) × (b < high)) → low ≤ high → ToldBelow m (put parts n a s) high
told_above m parts low high n a s t holds between order = record {
  told = another_is_told m parts n a s t.told holds (λ b k c u has found also. let from = (between b has).0 in let below = t.below k c u b found also in omega (arith, from, below));
  below = λ k c u b found has.
      ⊎_elim (λ (is : (k ≡ n) × (c ≡ a) × (u ≡ s)).
      (between b (subst (λ (i : ℕ). Has i s b) is.1 (subst (λ (v : Structure). Has c v b) is.2 has))).1)
      (λ (there : parts k c ≡ Some u). let before = t.below k c u b there has in omega (arith, before, order)) (put_found parts n a s k c u found);
}

none_told : ToldBelow memory nothing 2
none_told = record {
  told = record { shape = shaped; each = λ n a s found. cc; alone = λ n a k c s t b found other has also. cc };
  below = λ n a s b found has. cc;
}

two_blocks : (k b : ℕ) → (b ≡ k) ⊎ (b ≡ k + 1) → (k ≤ b) × (b < k + 2)
two_blocks k b (inl is) = (omega (arith, is), omega (arith, is))
two_blocks k b (inr is) = (omega (arith, is), omega (arith, is))

in_block_six : (b : ℕ) → Has 192 (Buffer pages 192 bytes) b → (6 ≤ b) × (b < 7)
in_block_six b (zero, below, is) = (omega (arith, is), omega (arith, is))
in_block_six b (suc zero, below, is) = (omega (arith, is), omega (arith, is))
in_block_six b (suc (suc i), below, is) = absurd (omega (arith, below))

all_told : ToldBelow memory parts 7
all_told =
    told_above memory (put (put nothing 64 64 (Isochronous itd)) 128 128 (QueueHead queue)) 6 7 64 192 (Buffer pages 192 bytes)
    (told_above memory (put nothing 64 64 (Isochronous itd)) 4 6 128 128 (QueueHead queue)
    (told_above memory nothing 2 4 64 64 (Isochronous itd) none_told itd_there (two_blocks 2) (omega arith))
    queue_there (two_blocks 4) (omega arith))
    buffer_there in_block_six (omega arith)

-- ---- those that are met

none_there : (n a : ℕ) (t : Qtd) → nothing n a ≡ Some (Element t) → ⊥
none_there n a t there = cc

no_element : (n a : ℕ) (t : Qtd) → parts n a ≡ Some (Element t) → ⊥
no_element n a t found =
    ⊎_elim (λ (is : (n ≡ 64) × (a ≡ 192) × (Element t ≡ Buffer pages 192 bytes)). cc)
    (λ (second : put (put nothing 64 64 (Isochronous itd)) 128 128 (QueueHead queue) n a ≡ Some (Element t)).
    ⊎_elim (λ (is : (n ≡ 128) × (a ≡ 128) × (Element t ≡ QueueHead queue)). cc)
    (λ (first : put nothing 64 64 (Isochronous itd) n a ≡ Some (Element t)).
    ⊎_elim (λ (is : (n ≡ 64) × (a ≡ 64) × (Element t ≡ Isochronous itd)). cc) (λ (there : nothing n a ≡ Some (Element t)). none_there n a t there)
    (put_found nothing 64 64 (Isochronous itd) n a (Element t) first))
    (put_found (put nothing 64 64 (Isochronous itd)) 128 128 (QueueHead queue) n a (Element t) second))
    (put_found (put (put nothing 64 64 (Isochronous itd)) 128 128 (QueueHead queue)) 64 192 (Buffer pages 192 bytes) n a (Element t) found)

queue_met : IsMetQueue met 128 (parts 128)
queue_met = record {
  part_is = record {
    queue = queue;
    here = refl;
    sound = record { rest = λ off idle. tt; work = λ on. absurd (true≢false (sym on)) };
    elements = λ a t found. absurd (no_element 128 a t found);
    own = λ a b t u ps k bs one other same there. absurd (no_element 128 a t one);
  };
  link = tt;
}

slots_there : (u : ℕ) → u < 8 → (slot_of u itd).active ≡ true → 0 < (slot_of u itd).length → IsBuffered (parts 64) (itd_pages itd) (slot_place (slot_of u itd)) (slot_of u itd).length
slots_there (suc (suc zero)) below on some = record { start = 192; bytes = bytes; here = refl; after = omega arith; within = omega arith }
slots_there (suc (suc (suc (suc (suc (suc (suc (suc u)))))))) below on some = absurd (omega (arith, below))
slots_there _ below on some = absurd (true≢false (sym on))

itd_met : IsMetItd met 64 (parts 64)
itd_met = record { itd = itd; here = refl; link = refl; slots = slots_there }

abbrev kind_at : Bool → Bool → Option Kind
kind_at b c = if b then Some AnItd else if c then Some AQueue else None

members_at : (b c : Bool) (n : ℕ) (k : Kind) → (n == 64) ≡ b → (n == 128) ≡ c → kind_at b c ≡ Some k → IsMetAs met n (parts n) k
members_at true c n k b_is c_is on =
    subst (λ (kind : Kind). IsMetAs met n (parts n) kind) (same_Some AnItd k on) (subst (λ (i : ℕ). IsMetItd met i (parts i)) (sym (eqb-true n 64 b_is)) itd_met)
members_at false true n k b_is c_is on =
    subst (λ (kind : Kind). IsMetAs met n (parts n) kind) (same_Some AQueue k on) (subst (λ (i : ℕ). IsMetQueue met i (parts i)) (sym (eqb-true n 128 c_is)) queue_met)
members_at false false n k b_is c_is on = cc

-- ---- the frame

pub before_it : IsFrame met parts Nothing at
before_it = record { tells = all_told.told; members = λ n k on. members_at (n == 64) (n == 128) n k refl refl on; walk = record { cursor = refl; held = refl; in_hand = tt } }

copied : IsCopiedItd met parts fetched.walk.got in_hand
unfolding fetched_itd
copied = record {
  on = refl;
  here = refl;
  link = refl;
  same = refl;
  held = fetched_held 64 2 itd refl (omega arith) itd_range;
  slot = record { page = refl; offset = refl; length = refl; active = refl };
  count = refl;
  small = λ i. omega arith;
  begun = λ some. absurd (omega (arith, some));
}

pub after_it : IsFrame met parts (OfItd in_hand) fetched
after_it = record { tells = all_told.told; members = λ n k on. members_at (n == 64) (n == 128) n k refl refl on; walk = record { cursor = refl; held = refl; in_hand = copied } }

pub fetches_it : Fetches parts begun (OfItd in_hand)
fetches_it = of_itd (record { at = 64; itd = itd; here = refl; in_hand = refl })
