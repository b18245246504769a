-- The worked controller runs over both.
use Rattle.std.proofs.Common.{◌≡◌, ℕ, zero, suc, ◌+◌, ◌-◌, ◌*◌, ◌/◌, ◌<◌, ◌≤◌, ◌⊎◌, Bool, true, false, ◌==◌, length, replicate, get_or, slice_get, Some, None, if◌then◌else◌, ap, refl, sym, subst, ◌∙◌, ⊎_elim, inl, inr, arith}
use Rattle.std.proofs.lemmas.Bool.{eqb-true, true≢false}
use Rattle.std.proofs.lemmas.List.{get_or-append_right, get_or-replicate}
use Rattle.std.proofs.lemmas.Option.{same_Some}
use Rattle.word_mem.specs.Memory.{Mem, IsShaped, is_lent}
use Rattle.word_mem.specs.declared.blocks.BlockState.TheVariants.{Lent}
use Rattle.word_mem.specs.Views.{words_in, StandsAt}
use Rattle.word_mem.proofs.Words.{words_in_is}
use Rattle.link_words.specs.Links.{link_read}
use Rattle.qh_qtd.specs.declared.qtd.Qtd.{Qtd}
use Rattle.qh_qtd.specs.QueueHead.{qh_words, IsQhInRange}
use Rattle.hc_core.specs.declared.controller.MicroframePart.TheVariants.{Over, Periodic}
use Rattle.law_structures.specs.lent_structures.Structures.{Structure, QueueHead, Element, Table, HoldsQueueHead, HoldsTable, Holds, StructureSets, put, Has, Tells}
use Rattle.law_structures.proofs.lemmas.lent_structures.Names.{put_found}
use Rattle.law_structures.proofs.lemmas.lent_structures.Telling.{another_is_told}
use Rattle.law_structures.specs.lent_structures.Sound.{IsMember}
use Rattle.law_ring.specs.Hand.{Empty}
use Rattle.law_frames.specs.Met.{Kind, AQueue, LeadsTo, IsMetQueue, IsMetAs}
use Rattle.law_frames.specs.FrameHand.{Nothing}
use Rattle.law_frames.specs.FrameStreams.{IsIsoAsk}
use Rattle.law_controller.specs.controlled_streams.Control.{a_microframe}
use Rattle.law_controller.specs.frame_control.Both.{LeadToMet, RunsBoth, BothEffect, of_ring}
use Rattle.law_controller.specs.frame_control.Joined.{BothStreamEffect}
use Rattle.law_controller.specs.frame_control.Samples.{head, queue, elements, front, memory, nothing, parts, member, met, base, opening, steps_on, is_deaf}
use Rattle.law_controller.proofs.lemmas.frame_control.Joining.{walks_move_streams}

-- ---- the structures stand in memory

shaped : IsShaped memory
unfolding qh_words
shaped = record { at_least = omega arith; at_most = omega arith; whole_pages = refl; eight_each = refl }

head_range : IsQhInRange head
head_range = (
  (refl, (omega arith, tt)),
  (
    (omega arith, (omega arith, (omega arith, (omega arith, (omega arith, tt))))),
    (
      (omega arith, (omega arith, (omega arith, (omega arith, (omega arith, tt))))),
      (
        (refl, tt),
        (
          (refl, tt),
          (
            (refl, (omega arith, tt)),
            (
              (omega arith, (omega arith, (omega arith, (omega arith, tt)))),
              (
                (omega arith, (omega arith, tt)),
                (
                  (omega arith, (omega arith, tt)),
                  (
                    (omega arith, (omega arith, (omega arith, tt))),
                    (
                      (omega arith, tt),
                      ((omega arith, tt), tt),
                    ),
                  ),
                ),
              ),
            ),
          ),
        ),
      ),
    ),
  ),
)

queue_range : IsQhInRange queue
queue_range = (
  (refl, (omega arith, tt)),
  (
    (omega arith, (omega arith, (omega arith, (omega arith, (omega arith, tt))))),
    (
      (omega arith, (omega arith, (omega arith, (omega arith, (omega arith, tt))))),
      (
        (refl, tt),
        (
          (refl, tt),
          (
            (refl, (omega arith, tt)),
            (
              (omega arith, (omega arith, (omega arith, (omega arith, tt)))),
              (
                (omega arith, (omega arith, tt)),
                (
                  (omega arith, (omega arith, tt)),
                  (
                    (omega arith, (omega arith, (omega arith, tt))),
                    (
                      (omega arith, tt),
                      ((omega arith, tt), tt),
                    ),
                  ),
                ),
              ),
            ),
          ),
        ),
      ),
    ),
  ),
)

head_there : HoldsQueueHead memory 0 head
unfolding qh_words words_in
head_there = record { aligned = refl; lent = refl; words = refl; range = head_range }

queue_there : HoldsQueueHead memory 64 queue
unfolding qh_words words_in
queue_there = record { aligned = refl; lent = refl; words = refl; range = queue_range }

all_lent_there : (n b : ℕ) → b < n → slice_get (replicate n Lent) b ≡ Some Lent
all_lent_there zero b below = absurd (omega (arith, below))
all_lent_there (suc n) zero below = refl
all_lent_there (suc n) (suc b) below = all_lent_there n b (omega (arith, below))

front_long : length front ≡ 1024
unfolding qh_words
front_long = refl

element_there : (k : ℕ) → k < 1024 → get_or elements k 0 ≡ get_or memory.words ((4096 + 4 * k) / 4) 0
element_there k below =
    let place : (4096 + 4 * k) / 4 ≡ 1024 + k = omega arith in
    let far : 1024 + k - 1024 ≡ k = omega arith in
    sym (ap (λ (i : ℕ). get_or memory.words i 0) place ∙ get_or-append_right front elements 1024 (1024 + k) 0 front_long (omega arith) ∙ ap (λ (i : ℕ). get_or elements i 0) far)

table_stands : StandsAt memory 4096 elements
table_stands = sym (words_in_is memory.words 4096 1024 elements refl element_there)

table_there : HoldsTable memory 4096 elements
table_there = record {
  aligned = refl;
  lent = λ i below. ap is_lent (all_lent_there 256 ((4096 + 4 * i) / 32) (omega (arith, below)));
  words = table_stands;
}

-- ---- one after the other

-- told, and below a block
record ToldBelow (m : Mem) (parts : StructureSets) (limit : ℕ) : Type 0 where
  told : Tells m parts
  below : (n a : ℕ) (s : Structure) (b : ℕ) → parts n a ≡ Some s → Has a s b → b < limit

told_above : (m : Mem) (parts : StructureSets) (low high n a : ℕ) (s : Structure) → ToldBelow m parts low → Holds m a s → ((b : ℕ) → Has a s b → (low ≤ b) × (b < high)) → low ≤ high → ToldBelow m (put parts n a s) high
told_above m parts low high n a s t holds between order = record {
  told = another_is_told m parts n a s t.told holds (λ b k c u has found also. let from = (between b has).0 in let below = t.below k c u b found also in omega (arith, from, below));
  below = λ k c u b found has.
      ⊎_elim (λ (is : (k ≡ n) × (c ≡ a) × (u ≡ s)).
      (between b (subst (λ (i : ℕ). Has i s b) is.1 (subst (λ (v : Structure). Has c v b) is.2 has))).1)
      (λ (there : parts k c ≡ Some u). let before = t.below k c u b there has in omega (arith, before, order)) (put_found parts n a s k c u found);
}

none_told : ToldBelow memory nothing 0
none_told = record {
  told = record { shape = shaped; each = λ n a s found. cc; alone = λ n a k c s t b found other has also. cc };
  below = λ n a s b found has. cc;
}

two_blocks : (k b : ℕ) → (b ≡ k) ⊎ (b ≡ k + 1) → (k ≤ b) × (b < k + 2)
two_blocks k b (inl is) = (omega (arith, is), omega (arith, is))
two_blocks k b (inr is) = (omega (arith, is), omega (arith, is))

in_table : (b : ℕ) → Has 4096 (Table elements) b → (4 ≤ b) × (b < 256)
in_table b (i, below, is) = (omega (arith, is), let few : i < 1024 = below in omega (arith, is, few))

all_told : ToldBelow memory parts 256
all_told =
    told_above memory (put (put nothing 0 0 (QueueHead head)) 64 64 (QueueHead queue)) 4 256 4096 4096 (Table elements)
    (told_above memory (put nothing 0 0 (QueueHead head)) 2 4 64 64 (QueueHead queue)
    (told_above memory nothing 0 2 0 0 (QueueHead head) none_told head_there (two_blocks 0) (omega arith))
    queue_there (two_blocks 2) (omega arith))
    table_there in_table (omega arith)

-- ---- the queue heads

no_element : (n a : ℕ) (t : Qtd) → parts n a ≡ Some (Element t) → ⊥
no_element n a t found =
    ⊎_elim (λ (is : (n ≡ 4096) × (a ≡ 4096) × (Element t ≡ Table elements)). cc)
    (λ (second : put (put nothing 0 0 (QueueHead head)) 64 64 (QueueHead queue) n a ≡ Some (Element t)).
    ⊎_elim (λ (is : (n ≡ 64) × (a ≡ 64) × (Element t ≡ QueueHead queue)). cc)
    (λ (first : put nothing 0 0 (QueueHead head) n a ≡ Some (Element t)).
    ⊎_elim (λ (is : (n ≡ 0) × (a ≡ 0) × (Element t ≡ QueueHead head)). cc) (λ (there : nothing n a ≡ Some (Element t)). cc)
    (put_found nothing 0 0 (QueueHead head) n a (Element t) first))
    (put_found (put nothing 0 0 (QueueHead head)) 64 64 (QueueHead queue) n a (Element t) second))
    (put_found (put (put nothing 0 0 (QueueHead head)) 64 64 (QueueHead queue)) 4096 4096 (Table elements) n a (Element t) found)

head_member : IsMember member 0 (parts 0)
head_member = record {
  queue = head;
  here = refl;
  link = record { to = 0; leads = refl; on = refl };
  sound = record { rest = λ off idle. tt; work = λ on. absurd (true≢false (sym on)) };
  elements = λ a t found. absurd (no_element 0 a t found);
  own = λ a b t u ps k bs one other same there. absurd (no_element 0 a t one);
}

queue_met : IsMetQueue met 64 (parts 64)
queue_met = record {
  part_is = record {
    queue = queue;
    here = refl;
    sound = record { rest = λ off idle. tt; work = λ on. absurd (true≢false (sym on)) };
    elements = λ a t found. absurd (no_element 64 a t found);
    own = λ a b t u ps k bs one other same there. absurd (no_element 64 a t one);
  };
  link = tt;
}

ring_there : (n : ℕ) → member n ≡ true → IsMember member n (parts n)
ring_there n on = subst (λ (i : ℕ). IsMember member i (parts i)) (sym (eqb-true n 0 on)) head_member

met_at : (b : Bool) (n : ℕ) (k : Kind) → (n == 64) ≡ b → (if b then Some AQueue else None) ≡ Some k → IsMetAs met n (parts n) k
met_at true n k b_is on = subst (λ (kind : Kind). IsMetAs met n (parts n) kind) (same_Some AQueue k on) (subst (λ (i : ℕ). IsMetQueue met i (parts i)) (sym (eqb-true n 64 b_is)) queue_met)
met_at false n k b_is on = cc

none_some : (k : Kind) → None ≡ Some k → ⊥
none_some k e = cc

apart_at : (b : Bool) (n : ℕ) (k : Kind) → (n == 64) ≡ b → (if b then Some AQueue else None) ≡ Some k → member n ≡ false
apart_at true n k b_is on = ap member (eqb-true n 64 b_is)
apart_at false n k b_is on = absurd (none_some k on)

-- ---- both

elements_lead : LeadToMet met elements
unfolding link_read
elements_lead i below = subst (λ (w : ℕ). LeadsTo met (link_read w)) (sym (get_or-replicate 1024 i 66 0 below)) refl

over_not_periodic : Over ≡ Periodic → ⊥
over_not_periodic same = cc

pub both_run : RunsBoth base member met parts Empty Nothing opening
both_run = record {
  ring = record { tells = all_told.told; members = ring_there; registers = refl; start = refl; cursor = record { to = 0; leads = refl; on = refl }; held = refl; in_hand = tt };
  between = λ differs. refl;
  list = record { words = elements; here = refl; size = refl };
  elements = elements_lead;
  members = λ n k on. met_at (n == 64) n k refl on;
  apart = λ n k on. apart_at (n == 64) n k refl on;
  walk = λ part. absurd (over_not_periodic part);
  outside = λ part. refl;
}

-- ---- its first microframe begins

pub begins_so : BothEffect steps_on is_deaf parts opening.control Empty Nothing 0 1 parts Empty Nothing
begins_so = of_ring (a_microframe (record { index = 0; allowed = true; asked = refl; parts_stay = refl; hand_stays = refl })) (refl, refl)

pub begun_streams : BothStreamEffect steps_on (IsIsoAsk parts) is_deaf parts Empty 0 1 parts Empty
begun_streams = walks_move_streams steps_on is_deaf base member met parts Empty Nothing opening 0 1 parts Empty Nothing both_run begins_so
