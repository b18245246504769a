-- The ring of a driver that was just built.
use Rattle.std.proofs.Common.{◌≡◌, ◌≢◌, ℕ, ◌+◌, ◌*◌, ◌/◌, ◌%◌, ◌<◌, ◌≤◌, List, length, Option, Some, None, option_map, ap, refl, sym, subst, ◌∙◌, ⊎_elim, inl, inr, arith}
use Rattle.std.proofs.lemmas.Bool.{eqb-true, true≢false}
use Rattle.std.proofs.lemmas.Option.{same_Some}
use Rattle.std.proofs.lemmas.List.{length-replicate}
use Rattle.law_common.proofs.Booleans.{both_true}
use Rattle.word_mem.specs.Memory.{Mem, IsShaped, reaches, is_lent, fresh, AreAll, with_states}
use Rattle.word_mem.specs.Views.{words_in, with_words_in}
use Rattle.word_mem.specs.declared.blocks.BlockState.TheVariants.{Free, Lent}
use Rattle.word_mem.proofs.Frames.{AreAll-with_states, AreAll-with_states_apart, shaped_fresh, shaped_states, shaped_same}
use Rattle.word_mem.proofs.Words.{length-with_words_in, words_in-with_words_in_same, words_in-with_words_in_apart}
use Rattle.qh_qtd.specs.declared.qtd.Qtd.{Qtd}
use Rattle.qh_qtd.specs.QueueHead.{qh_words, IsQhInRange}
use Rattle.qh_qtd.proofs.QhLaws.{qh_words-length}
use Rattle.async_walk.specs.Walk.{new_walk}
use Rattle.async_walk.specs.Rows.{place}
use Rattle.drv_table.specs.declared.content.Reserve.{Reserve}
use Rattle.drv_table.specs.Words.{opening_head}
use Rattle.drv_table.specs.Opening.{list_run, head_run, opening_memory, opening_registers, opening}
use Rattle.claims_driver.specs.Owners.{EndpointRuns, Views, views_of, IsQueueIn}
use Rattle.law_structures.specs.lent_structures.Structures.{Structure, QueueHead, Element, Table, HoldsQueueHead, HoldsTable, Structures, with_structure, Has, Tells}
use Rattle.law_structures.proofs.lemmas.lent_structures.Names.{put_found}
use Rattle.law_structures.proofs.lemmas.lent_structures.Telling.{another_is_told}
use Rattle.law_structures.specs.lent_structures.Sound.{IsMember}
use Rattle.law_ring.specs.Hand.{Empty}
use Rattle.law_ring.specs.Ring.{IsRing}
use Rattle.law_ring.proofs.Parting.{found_with}
use Rattle.law_driver_ring.specs.Inventory.{Sort, sort_of, OfQueueHead, OfTable, IsDriverOwned, the_list, the_head}
use Rattle.law_driver_ring.specs.Driven.{DrivesRing}
use Rattle.law_driver_ring.specs.PartOpened.{no_parts, empty_list, list_parts, opening_parts, is_head}
use Rattle.claims_base.specs.Controller.{opening_base}

-- ---- memory

long_list : length empty_list ≡ 1024
long_list = length-replicate {A = ℕ} 1024 1

states_list : ℕ → Mem
states_list n = with_states (fresh n) list_run Lent

states_both : ℕ → Mem
states_both n = with_states (states_list n) head_run Lent

fresh_states : (n : ℕ) → length (fresh n).states ≡ n / 8
fresh_states n = length-replicate (n / 8) Free

shaped_list : (n : ℕ) → 2048 ≤ n → n ≤ 262144 → n % 1024 ≡ 0 → IsShaped (states_list n)
unfolding states_list
shaped_list n low high whole = shaped_states (fresh n) list_run Lent (let s = fresh_states n in omega (arith, s, low)) (shaped_fresh n (omega (arith, low)) high whole)

many_list : (n : ℕ) → 2048 ≤ n → n ≤ 262144 → n % 1024 ≡ 0 → 256 ≤ length (states_list n).states
unfolding states_list
many_list n low high whole =
    let s = shaped_list n low high whole in
    let e = s.eight_each in
    let w : length (states_list n).words ≡ n = length-replicate {A = ℕ} n 0 in
    omega (arith, e, w, low)

shaped_both : (n : ℕ) → 2048 ≤ n → n ≤ 262144 → n % 1024 ≡ 0 → IsShaped (states_both n)
unfolding states_both
shaped_both n low high whole = shaped_states (states_list n) head_run Lent (let m = many_list n low high whole in omega (arith, m)) (shaped_list n low high whole)

head_lent : (n : ℕ) → 2048 ≤ n → n ≤ 262144 → n % 1024 ≡ 0 → AreAll (states_both n) Lent head_run
unfolding states_both
head_lent n low high whole = AreAll-with_states (states_list n) head_run Lent (let m = many_list n low high whole in omega (arith, m))

list_lent : (n : ℕ) → 2048 ≤ n → n ≤ 262144 → n % 1024 ≡ 0 → AreAll (states_both n) Lent list_run
unfolding states_both states_list
list_lent n low high whole =
    AreAll-with_states_apart (states_list n) head_run Lent list_run Lent (let m = many_list n low high whole in omega (arith, m)) (inl (omega arith))
    (AreAll-with_states (fresh n) list_run Lent (let s = fresh_states n in omega (arith, s, low)))

-- two rows of words, one after the other, that share none
first_row : (ws list head : List ℕ) → length list ≡ 1024 → length head ≡ 12 → 2048 ≤ length ws → words_in (with_words_in (with_words_in ws 0 list) 4096 head) 0 (length list) ≡ list
first_row ws list head long short room =
    let size = length-with_words_in ws 0 list in
    words_in-with_words_in_apart (with_words_in ws 0 list) 0 (length list) 4096 head (omega arith) (omega (arith, size, short, room)) (inl (omega (arith, long)))
    ∙ words_in-with_words_in_same ws 0 list (omega arith) (omega (arith, long, room))

second_row : (ws list head : List ℕ) → length head ≡ 12 → 2048 ≤ length ws → words_in (with_words_in (with_words_in ws 0 list) 4096 head) 4096 12 ≡ head
second_row ws list head short room =
    let size = length-with_words_in ws 0 list in
    ap (words_in (with_words_in (with_words_in ws 0 list) 4096 head) 4096) (sym short)
    ∙ words_in-with_words_in_same (with_words_in ws 0 list) 4096 head (omega arith) (omega (arith, size, short, room))

rows_size : (ws list head : List ℕ) → length (with_words_in (with_words_in ws 0 list) 4096 head) ≡ length ws
rows_size ws list head = length-with_words_in (with_words_in ws 0 list) 4096 head ∙ length-with_words_in ws 0 list

zeros : (n : ℕ) → length (states_both n).words ≡ n
unfolding states_both states_list
zeros n = length-replicate {A = ℕ} n 0

opened_shape : (n : ℕ) → 2048 ≤ n → n ≤ 262144 → n % 1024 ≡ 0 → IsShaped (opening_memory n)
unfolding states_both states_list
opened_shape n low high whole = shaped_same (states_both n) (opening_memory n) (rows_size (states_both n).words empty_list (qh_words opening_head)) refl (shaped_both n low high whole)

list_there : (n : ℕ) → 2048 ≤ n → n ≤ 262144 → n % 1024 ≡ 0 → HoldsTable (opening_memory n) 0 empty_list
unfolding states_both states_list
list_there n low high whole = record {
  aligned = refl;
  lent = λ i below. ap is_lent (list_lent n low high whole ((0 + 4 * i) / 32) (omega arith) (let l = long_list in omega (arith, below, l)));
  words = first_row (states_both n).words empty_list (qh_words opening_head) long_list (qh_words-length opening_head) (let z = zeros n in omega (arith, z, low));
}

head_range : IsQhInRange opening_head
head_range = (
  (refl, (omega arith, tt)),
  (
    (omega arith, (omega arith, (omega arith, (omega arith, (omega arith, tt))))),
    (
      (omega arith, (omega arith, (omega arith, (omega arith, (omega arith, tt))))),
      (
        (refl, tt),
        (
          (refl, tt),
          (
            (refl, (omega arith, tt)),
            (
              (omega arith, (omega arith, (omega arith, (omega arith, tt)))),
              (
                (omega arith, (omega arith, tt)),
                (
                  (omega arith, (omega arith, tt)),
                  (
                    (omega arith, (omega arith, (omega arith, tt))),
                    (
                      (omega arith, tt),
                      ((omega arith, tt), tt),
                    ),
                  ),
                ),
              ),
            ),
          ),
        ),
      ),
    ),
  ),
)

head_there : (n : ℕ) → 2048 ≤ n → n ≤ 262144 → n % 1024 ≡ 0 → HoldsQueueHead (opening_memory n) 4096 opening_head
unfolding states_both states_list
head_there n low high whole =
    let lent = head_lent n low high whole in
    record {
      aligned = refl;
      lent = both_true (reaches (opening_memory n) 4096) (reaches (opening_memory n) 4128) (ap is_lent (lent 128 (omega arith) (omega arith))) (ap is_lent (lent 129 (omega arith) (omega arith)));
      words = second_row (states_both n).words empty_list (qh_words opening_head) (qh_words-length opening_head) (let z = zeros n in omega (arith, z, low));
      range = head_range;
    }

-- ---- the two structures

nothing_told : (n : ℕ) → IsShaped (opening_memory n) → Tells (opening_memory n) no_parts
nothing_told n shape = record { shape = shape; each = λ k a s found. cc; alone = λ k a j c s t b found other has also. cc }

list_told : (n : ℕ) → 2048 ≤ n → n ≤ 262144 → n % 1024 ≡ 0 → Tells (opening_memory n) list_parts
list_told n low high whole = another_is_told (opening_memory n) no_parts 0 0 (Table empty_list) (nothing_told n (opened_shape n low high whole)) (list_there n low high whole) (λ b k c u has found also. cc)

-- the list has the first page
list_below : (k c : ℕ) (u : Structure) (b : ℕ) → list_parts k c ≡ Some u → Has c u b → b < 128
list_below k c u b found has =
    ⊎_elim (λ (is : (k ≡ 0) × (c ≡ 0) × (u ≡ Table empty_list)). in_first b (subst (λ (i : ℕ). Has i (Table empty_list) b) is.1 (subst (λ (v : Structure). Has c v b) is.2 has)))
    (λ (there : no_parts k c ≡ Some u). cc) (put_found no_parts 0 0 (Table empty_list) k c u found)
  where
    in_first : (b : ℕ) → Has 0 (Table empty_list) b → b < 128
    in_first b (i, below, is) = let l = long_list in omega (arith, below, is, l)

head_above : (b : ℕ) → Has 4096 (QueueHead opening_head) b → 128 ≤ b
head_above b (inl is) = omega (arith, is)
head_above b (inr is) = omega (arith, is)

opening_told : (n : ℕ) → 2048 ≤ n → n ≤ 262144 → n % 1024 ≡ 0 → Tells (opening_memory n) opening_parts
opening_told n low high whole =
    another_is_told (opening_memory n) list_parts 4096 4096 (QueueHead opening_head) (list_told n low high whole)
    (head_there n low high whole)
    (λ b k c u has found also. let first = list_below k c u b found also in let second = head_above b has in omega (arith, first, second))

-- ---- the member

abbrev head_part : Structures
head_part = with_structure (λ (a : ℕ). None) 4096 (QueueHead opening_head)

only_head : (a : ℕ) (t : Qtd) → head_part a ≡ Some (Element t) → ⊥
only_head a t found =
    ⊎_elim (λ (is : (a ≡ 4096) × (QueueHead opening_head ≡ Element t)). cc) (λ (there : (a ≢ 4096) × (None ≡ Some (Element t))). empty_there t there.1)
    (found_with (λ (b : ℕ). None) 4096 a (QueueHead opening_head) (Element t) found)
  where
    empty_there : (t : Qtd) → ◌≡◌ {A = Option Structure} None (Some (Element t)) → ⊥
    empty_there t there = cc

head_member : IsMember is_head 4096 head_part
head_member = record {
  queue = opening_head;
  here = refl;
  link = record { to = 4096; leads = refl; on = refl };
  sound = record { rest = λ off idle. tt; work = λ on. absurd (true≢false (sym on)) };
  elements = λ a t found. absurd (only_head a t found);
  own = λ a b t u ps k bs one other same there. absurd (only_head a t one);
}

pub opening_ring : (n : ℕ) → 2048 ≤ n → n ≤ 262144 → n % 1024 ≡ 0 → IsRing opening_base is_head opening_parts Empty (place new_walk opening_registers (opening_memory n))
opening_ring n low high whole = record {
  tells = opening_told n low high whole;
  members = λ k on. subst (λ (i : ℕ). IsMember is_head i (opening_parts i)) (sym (eqb-true k 4096 on)) head_member;
  registers = refl;
  start = refl;
  cursor = record { to = 4096; leads = refl; on = refl };
  held = refl;
  in_hand = tt;
}

-- ---- the inventory

sorted : (v : Views) (n a : ℕ) (k : Sort) (o : Option Structure) → opening_parts n a ≡ o → option_map sort_of o ≡ Some k → IsDriverOwned v n a k
sorted v n a k None is sort = absurd (cc)
sorted v n a k (Some s) is sort =
    let same : sort_of s ≡ k = same_Some (sort_of s) k sort in
    ⊎_elim (λ (at : (n ≡ 4096) × (a ≡ 4096) × (s ≡ QueueHead opening_head)).
    subst (IsDriverOwned v n a) (ap sort_of (sym at.2) ∙ same) (subst (λ (i : ℕ). IsDriverOwned v i a OfQueueHead) (sym at.0) (subst (λ (i : ℕ). IsDriverOwned v 4096 i OfQueueHead) (sym at.1) the_head)))
    (λ (there : list_parts n a ≡ Some s).
    ⊎_elim (λ (at : (n ≡ 0) × (a ≡ 0) × (s ≡ Table empty_list)).
    subst (IsDriverOwned v n a) (ap sort_of (sym at.2) ∙ same) (subst (λ (i : ℕ). IsDriverOwned v i a OfTable) (sym at.0) (subst (λ (i : ℕ). IsDriverOwned v 0 i OfTable) (sym at.1) the_list)))
    (λ (none : no_parts n a ≡ Some s). cc) (put_found no_parts 0 0 (Table empty_list) n a s there))
    (put_found list_parts 4096 4096 (QueueHead opening_head) n a s is)

no_queue : (n : ℕ) (room : Reserve) (e : ℕ) (x : EndpointRuns) → IsQueueIn (views_of (opening n room).driver) e x → ⊥
no_queue n room e x is = let there : ◌≡◌ {A = Option EndpointRuns} None (Some x) = is.here in cc

pub opening_drives : (n : ℕ) (room : Reserve) → 2048 ≤ n → n ≤ 262144 → n % 1024 ≡ 0 → DrivesRing opening_base is_head opening_parts Empty (place new_walk opening_registers (opening_memory n)) (opening n room).driver
opening_drives n room low high whole = record {
  ring = opening_ring n low high whole;
  driven = record {
    list = refl;
    head = refl;
    queue = λ e x is lent. absurd (no_queue n room e x is);
    dummy = λ e x is lent. absurd (no_queue n room e x is);
    pieces = λ t y x is. absurd (no_queue n room y.endpoint x is.queue);
    only = λ k a s there. sorted (views_of (opening n room).driver) k a s (opening_parts k a) refl there;
  };
}
