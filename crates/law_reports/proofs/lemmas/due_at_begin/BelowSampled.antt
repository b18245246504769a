-- The keyboard behind its hub in microframe 2, for worked rows.
use Rattle.std.proofs.Common.{◌≡◌, ◌≢◌, ℕ, zero, suc, List, slice_get, Option, Some, ap, refl, sym, ◌∙◌}
use Rattle.std.proofs.lemmas.Option.{same_Some}
use Rattle.bus_wire.specs.declared.seats.Owner.{Owner}
use Rattle.bus_wire.specs.declared.seats.Owner.TheVariants as owners
use Rattle.bus_wire.specs.declared.seats.Seat.{Seat}
use Rattle.bus_wire.specs.Bus.{fixed_of}
use Rattle.word_mem.specs.Memory.{filled}
use Rattle.word_mem.specs.Views.{words_in, with_words_in}
use Rattle.word_mem.specs.Free.{lowest_run}
use Rattle.link_words.specs.Links.{link_word, qtd_link_word, link_read, qtd_link_read}
use Rattle.link_words.specs.Layout.{first_bad_bit}
use Rattle.drv_chains.specs.Chains.{word_after, before_the, behind_the, predecessors}
use Rattle.drv_chains.specs.Order.{frames}
use Rattle.qh_qtd.specs.Token.{token_word, token_at}
use Rattle.qh_qtd.specs.Qtd.{qtd_words, qtd_read, qtd_bad, qtd_at}
use Rattle.qh_qtd.specs.QueueHead.{qh_words, qh_read, qh_bad, qh_at}
use Rattle.mem_bytes.specs.Bytes.{places, all_reached, reached, stored, words_from, put_byte, put_bytes}
use Rattle.mem_runs.specs.Book.{lend_runs, store_words}
use Rattle.hc_masks.specs.Masks.{lacks}
use Rattle.hc_copy.specs.Overlay.{advanced, moved, settled_queue}
use Rattle.hc_copy.specs.WriteBack.{overlay_after, written_back, raised}
use Rattle.hc_interrupt.specs.Copies.{with_split, missed_queue}
use Rattle.bus_world.specs.Orders.{ticks}
use Rattle.claims_world.specs.Carried.{carried_from}
use Rattle.law_world.specs.memory.Samples.{keyboard_and_disk}
use Rattle.law_microframes.specs.due.repeats.Samples.{pressed}
use Rattle.law_reports.specs.due_at_begin.BelowStays.{IsNotHigh, StaysBelow}
use Rattle.law_reports.specs.due_at_begin.SplitSamples.{started_in}

-- ---- whose the endpoints are

hub_apart : (p n : ℕ) → owners.Hub p ≡ owners.High n → ⊥
hub_apart p n is = cc

below_apart : (p hub port stuff n : ℕ) → owners.Below p hub port stuff ≡ owners.High n → ⊥
below_apart p hub port stuff n is = cc

owner_is : (place : ℕ) (seat : Seat) → slice_get (fixed_of keyboard_and_disk).seats place ≡ Some seat → seat.owner ≢ owners.High 0
owner_is zero seat here is = hub_apart 0 0 (ap (λ (x : Seat). x.owner) (same_Some _ seat here) ∙ is)
owner_is (suc zero) seat here is = below_apart 0 9 1 0 0 (ap (λ (x : Seat). x.owner) (same_Some _ seat here) ∙ is)
owner_is (suc (suc zero)) seat here is = other_apart (ap (λ (x : Seat). x.owner) (same_Some _ seat here) ∙ is)
  where
    other_apart : owners.High 1 ≡ owners.High 0 → ⊥
    other_apart is = cc
owner_is (suc (suc (suc place))) seat here is = let none = here in cc

pub keyboard_is_below : IsNotHigh (fixed_of keyboard_and_disk) 0
keyboard_is_below = owner_is

pub disk_is_high : IsNotHigh (fixed_of keyboard_and_disk) 1 → ⊥
disk_is_high off = off 2 _ refl refl

-- ---- it stays

numbers_then : slice_get (started_in pressed 4).bus.below 1 ≡ Some 3
unfolding ticks carried_from lowest_run filled with_words_in store_words lend_runs qh_words qtd_words token_word token_at link_word
    qtd_link_word
    predecessors frames word_after before_the behind_the link_read qtd_link_read qh_read qh_bad qh_at qtd_read qtd_bad qtd_at
    first_bad_bit words_in advanced lacks with_split settled_queue moved missed_queue written_back raised overlay_after
    stored put_bytes put_byte places words_from all_reached reached
numbers_then = refl

-- the Begin before counted three packets of it: a token, its data and the acknowledgement
below_then : slice_get (started_in pressed 1).bus.below 1 ≡ Some 3
unfolding ticks carried_from lowest_run filled with_words_in store_words lend_runs qh_words qtd_words token_word token_at link_word
    qtd_link_word
    predecessors frames word_after before_the behind_the link_read qtd_link_read qh_read qh_bad qh_at qtd_read qtd_bad qtd_at
    first_bad_bit words_in advanced lacks with_split settled_queue moved missed_queue written_back raised overlay_after
    stored put_bytes put_byte places words_from all_reached reached
below_then = refl

below_before : slice_get pressed.bus.below 1 ≡ Some 0
unfolding ticks carried_from lowest_run filled with_words_in store_words lend_runs qh_words qtd_words token_word token_at link_word
    qtd_link_word
    predecessors frames word_after before_the behind_the link_read qtd_link_read qh_read qh_bad qh_at qtd_read qtd_bad qtd_at
    first_bad_bit words_in advanced lacks with_split settled_queue moved missed_queue written_back raised overlay_after
    stored put_bytes put_byte places words_from all_reached reached
below_before = refl

pub numbers_stay : slice_get (started_in pressed 4).bus.below 1 ≡ slice_get (started_in pressed 1).bus.below 1
numbers_stay = numbers_then ∙ sym below_then

three_apart : ◌≡◌ {A = Option ℕ} (Some 3) (Some 0) → ⊥
three_apart is = cc

pub begin_counts : StaysBelow 0 pressed.bus (started_in pressed 1).bus → ⊥
begin_counts k = three_apart (sym below_then ∙ ap (λ (ns : List ℕ). slice_get ns 1) k.numbers ∙ below_before)
