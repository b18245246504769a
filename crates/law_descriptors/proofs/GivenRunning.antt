-- The worked driver beside a ring and the frames: its iTD is lent, and is given back.
use Rattle.std.proofs.Common.{◌≡◌, ◌≢◌, ℕ, ◌+◌, ◌-◌, ◌*◌, ◌/◌, ◌<◌, ◌≤◌, true, List, [], length, replicate, set, get_or, Some, None, ⊎_elim, inl, inr, ap, refl, sym, subst, ◌∙◌, arith}
use Rattle.std.specs.Prelude.{◌&&◌, is_some}
use Rattle.std.proofs.lemmas.Bool.{false≢true, cases_eq, cases_lt}
use Rattle.std.proofs.lemmas.List.{get_or-set_same, get_or-set_other, get_or-replicate, length-replicate, set-set}
use Rattle.law_driver.proofs.Common.{not_both}
use Rattle.word_mem.specs.Memory.{Mem, IsShaped, word_at, state_at, reaches, is_lent, with_states, filled}
use Rattle.word_mem.specs.Views.{words_at}
use Rattle.word_mem.specs.declared.blocks.BlockState.{BlockState}
use Rattle.word_mem.specs.declared.blocks.BlockState.TheVariants.{Free, Kept, Lent}
use Rattle.word_mem.proofs.Words.{words_in_is}
use Rattle.word_mem.proofs.Frames.{shaped_word, shaped_states, state_at-with_states_inside, state_at-with_states_before, state_at-with_states_after}
use Rattle.mem_runs.specs.Book.{Holding, holding, Stands, with_run, none_taken, kept_in}
use Rattle.mem_runs.proofs.Standing.{stands_taken, stands_lent, stands_word, lent_not_free, lends_all}
use Rattle.link_words.specs.Links.{link_read}
use Rattle.itd_sitd.specs.Itd.{itd_words}
use Rattle.drv_table.specs.Opening.{opening_memory, list_run, head_run}
use Rattle.law_driver.specs.in_place.InPlace.{IsInPlace}
use Rattle.law_driver.proofs.lemmas.in_place.Opened.{opening_is_in_place}
use Rattle.law_structures.specs.lent_structures.Structures.{Isochronous, Structures, StructureSets, put, Has, Holds}
use Rattle.law_structures.specs.lent_structures.Changes.{Leaves, IsNew}
use Rattle.law_descriptors.specs.Written.{HasFields}
use Rattle.law_descriptors.proofs.Fields.{itd_range}
use Rattle.mem_runs.specs.declared.slots.Slot.{Slot}
use Rattle.mem_runs.specs.declared.slots.Slot.TheVariants.{Keeps, Lends}
use Rattle.word_mem.specs.Free.{IsTaken}
use Rattle.law_structures.proofs.lemmas.lent_structures.Names.{put_beside}
use Rattle.hc_core.specs.declared.controller.MicroframePart.TheVariants.{Over, Periodic}
use Rattle.law_ring.specs.Hand.{Empty}
use Rattle.law_controller.specs.controlled_streams.Control.{AreEmpty, empty}
use Rattle.law_driver_ring.specs.PartOpened.{no_parts, empty_list, opening_parts, is_head}
use Rattle.claims_base.specs.Controller.{opening_base}
use Rattle.law_driver_ring.proofs.PartOpening.{opening_drives}
use Rattle.law_frames.specs.FrameHand.{Nothing}
use Rattle.law_controller.specs.frame_control.Both.{RunsBoth}
use Rattle.law_controller.proofs.lemmas.frame_control.Frameless.{a_frameless_list_has_nothing_met}
use Rattle.law_controller.proofs.lemmas.frame_stores.Beside.{lend_leaves_both}
use Rattle.law_descriptors.specs.Both.{both}
use Rattle.law_descriptors.specs.Meeting.{no_recent, met}
use Rattle.law_descriptors.proofs.Standing.{both_off}
use Rattle.law_descriptors.specs.GivenWorked.{room, desc, itd, run, new, driver, memory, before, controller, descs}

abbrev first : Mem
first = opening_memory 2048

abbrev lent : Mem
lent = with_states first run Lent

in_place : IsInPlace first new
in_place = opening_is_in_place 2048 room (omega arith) (omega arith) refl

stood : Stands (holding new.book first)
stood = in_place.sound.stands

shape_before : IsShaped first
shape_before = in_place.sound.shape

free_at : state_at first 130 ≡ Some Free
unfolding filled
free_at = refl

free_behind : state_at first 131 ≡ Some Free
unfolding filled
free_behind = refl

states_many : length first.states ≡ 256
unfolding filled
states_many = refl

-- ---- its run

free_run : (b : ℕ) → 130 ≤ b → b < 132 → state_at first b ≡ Some Free
free_run b low high =
    ⊎_elim (λ (is : b < 131). let e : b ≡ 130 = omega (arith, low, is) in ap (state_at first) e ∙ free_at)
    (λ (is : 131 ≤ b). let e : b ≡ 131 = omega (arith, high, is) in ap (state_at first) e ∙ free_behind) (cases_lt b 131)

no_lower : (other : ℕ) → state_at first other ≡ Some Free → 130 ≤ other
no_lower other free =
    ⊎_elim (λ (low : other < 128). absurd (not_both (sym (lends_all (holding new.book first) 0 list_run stood refl other (omega arith) (omega (arith, low))) ∙ free)))
    (λ (from : 128 ≤ other).
    ⊎_elim (λ (low : other < 130). absurd (not_both (sym (lends_all (holding new.book first) 128 head_run stood refl other from (omega (arith, low))) ∙ free)))
    (λ (high : 130 ≤ other). high) (cases_lt other 130)) (cases_lt other 128)

taken : IsTaken first.states 2 (Some run)
taken = (
  refl,
  record {
    free_run = record { some = omega arith; one_page = omega arith; free = λ b low high. free_run b low (omega (arith, high)) };
    lowest = λ other is. no_lower other (is.free other (omega arith) (omega arith));
  },
)

abbrev kept : Holding
kept = none_taken (with_run (holding new.book first) run)

stands_kept : Stands kept
stands_kept =
    let k : Stands (with_run (holding new.book first) run) = stands_taken (holding new.book first) 2 run stood taken in
    record { held = k.held; placed = k.placed; clean = k.clean; sizes = k.sizes; few = omega arith }

one_kept : length (kept_in kept.book.slots) ≡ 1
one_kept = refl

same_states : filled (filled first.states 130 2 Kept) 130 2 Lent ≡ filled first.states 130 2 Lent
unfolding filled
same_states = refl

stands_then : Stands (holding driver.book lent)
stands_then =
    let one = one_kept in
    subst (λ (ss : List BlockState). Stands (holding driver.book (record first { states = ss }))) same_states
    (subst (λ (ss : List Slot). Stands (holding (record { slots = ss; taken = [] }) (record first { states = filled (filled first.states 130 2 Kept) 130 2 Lent })))
    (set-set new.book.slots 130 (Keeps run) (Lends run))
    (stands_lent kept 130 run stands_kept refl (omega (arith, one))))

pub stands_now : Stands (holding driver.book memory)
stands_now =
    stands_word (holding driver.book lent) run Lent 4204 1 stands_then lent_not_free (lends_all (holding driver.book lent) 130 run stands_then refl) (record { from = omega arith; below = omega arith })

shape_now : IsShaped memory
shape_now = let many = states_many in shaped_word lent 4204 1 (shaped_states first run Lent (omega (arith, many)) shape_before)

-- ---- its words

unset : (i : ℕ) → i < 16 → get_or first.words (1040 + i) 0 ≡ 0
unset i below =
    ⊎_elim (λ (low : i < 8). stood.clean 130 i free_at low)
    (λ (high : 8 ≤ i).
    let e : 8 * 131 + (i - 8) ≡ 1040 + i = omega (arith, high) in
    ap (λ (n : ℕ). get_or first.words n 0) (sym e) ∙ stood.clean 131 (i - 8) free_behind (omega (arith, below))) (cases_lt i 8)

words_are : itd_words itd ≡ set (replicate 16 0) 11 1
unfolding itd_words
words_are = refl

long_enough : 1051 < length first.words
long_enough = let eight = shape_before.eight_each in let many = states_many in omega (arith, eight, many)

each_word : (k : ℕ) → k < 16 → get_or (set (replicate 16 0) 11 1) k 0 ≡ get_or memory.words ((4160 + 4 * k) / 4) 0
each_word k below =
    let at : 1040 + k ≡ (4160 + 4 * k) / 4 = omega arith in
    ⊎_elim
    (λ (same : k ≡ 11).
    ap (λ (n : ℕ). get_or (set (replicate 16 0) 11 1) n 0) same ∙ sym (get_or-set_same first.words 1051 1 0 long_enough)
    ∙ ap (λ (n : ℕ). get_or memory.words n 0) (let e : 1051 ≡ (4160 + 4 * k) / 4 = omega (arith, same) in e))
    (λ (differs : k ≢ 11).
    get_or-set_other (replicate 16 0) 11 k 1 0 differs ∙ get_or-replicate 16 k 0 0 below ∙ sym (unset k below)
    ∙ sym (get_or-set_other first.words 1051 (1040 + k) 1 0 (λ same. differs (let e : k ≡ 11 = omega (arith, same) in e))) ∙ ap (λ (n : ℕ). get_or memory.words n 0) at)
    (cases_eq k 11)

words_there : words_at memory 4160 16 ≡ itd_words itd
words_there = sym (words_in_is memory.words 4160 16 (set (replicate 16 0) 11 1) refl each_word) ∙ sym words_are

fits : HasFields desc
fits = record { addr = omega arith; num = omega arith; max = omega arith; multi_least = omega arith; multi_most = omega arith; hub = omega arith; port = omega arith }

reached : (reaches memory 4160 && reaches memory 4192) ≡ true
unfolding filled
reached = refl

holds : Holds memory 4160 (Isochronous itd)
holds = record {
  aligned = refl;
  lent = reached;
  words = words_there;
  range = itd_range desc 0 0 [] 0 fits (omega arith) (λ u below. omega arith) (λ i. omega arith);
}

-- ---- it is lent beside what was there

lent_stays : (b : ℕ) → state_at first b ≡ Some Lent → state_at memory b ≡ Some Lent
lent_stays b is =
    let many = states_many in
    ⊎_elim (λ (low : b < 130). state_at-with_states_before first run Lent b (omega (arith, many)) low ∙ is)
    (λ (from : 130 ≤ b).
    ⊎_elim (λ (below : b < 132). state_at-with_states_inside first run Lent b (omega (arith, many)) (record { from = from; below = below }))
    (λ (high : 132 ≤ b). state_at-with_states_after first run Lent b (omega (arith, many)) high ∙ is) (cases_lt b 132)) (cases_lt b 130)

words_stay : (other : ℕ) → reaches first other ≡ true → word_at memory other ≡ word_at first other
words_stay other on =
    get_or-set_other first.words 1051 (other / 4) 1 0
    (λ same. let e : other / 32 ≡ 131 = omega (arith, same) in false≢true (sym (ap is_lent (ap (state_at first) e ∙ free_behind)) ∙ on))

leaves : Leaves first memory
leaves = record { shape = shape_now; lent = lent_stays; words = words_stay }

is_new : IsNew first memory 4160 (Isochronous itd)
is_new = record { holds = holds; fresh = fresh }
  where
    fresh : (b : ℕ) → Has 4160 (Isochronous itd) b → state_at first b ≡ Some Lent → ⊥
    fresh b (inl is) on = not_both (sym on ∙ ap (state_at first) is ∙ free_at)
    fresh b (inr is) on = not_both (sym on ∙ ap (state_at first) is ∙ free_behind)

all_end : AreEmpty empty_list
unfolding link_read
all_end i below = ap link_read (get_or-replicate 1024 i 1 0 below)

runs_before : RunsBoth opening_base is_head (λ n. None) opening_parts Empty Nothing before
runs_before = a_frameless_list_has_nothing_met opening_base is_head opening_parts Empty before refl (record {
  ring = (opening_drives 2048 room (omega arith) (omega arith) refl).ring;
  between = λ part. refl;
  list = record { words = empty_list; here = refl; size = length-replicate {A = ℕ} 1024 1 };
  frameless = empty all_end (λ part. absurd (over_is_not_periodic part));
})
  where
    over_is_not_periodic : Over ≡ Periodic → ⊥
    over_is_not_periodic same = cc

runs_put : RunsBoth opening_base is_head (λ n. None) (put opening_parts 4160 4160 (Isochronous itd)) Empty Nothing controller
runs_put = lend_leaves_both opening_base is_head (λ n. None) opening_parts Empty Nothing before 4160 4160 (Isochronous itd) memory runs_before leaves is_new refl refl refl

same_part : (n : ℕ) → put opening_parts 4160 4160 (Isochronous itd) n ≡ both descs opening_parts n
same_part n =
    ⊎_elim (λ (same : n ≡ 4160). subst (λ (i : ℕ). put opening_parts 4160 4160 (Isochronous itd) i ≡ both descs opening_parts i) (sym same) refl)
    (λ (differs : n ≢ 4160).
    put_beside opening_parts 4160 4160 (Isochronous itd) n differs
    ∙ sym (both_off descs opening_parts n (ap (λ (part : Structures). is_some (part n)) (put_beside no_parts 4160 4160 (Isochronous itd) n differs)))) (cases_eq n 4160)

same_parts : put opening_parts 4160 4160 (Isochronous itd) ≡ both descs opening_parts
same_parts = λ i n. same_part n i

pub runs_now : RunsBoth opening_base is_head (met driver no_recent) (both descs opening_parts) Empty Nothing controller
runs_now = subst (λ (parts : StructureSets). RunsBoth opening_base is_head (met driver no_recent) parts Empty Nothing controller) same_parts runs_put
