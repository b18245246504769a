-- The worked walk.
use Rattle.std.proofs.Common.{◌≡◌, ℕ, zero, suc, ◌<◌, [], ◌∷◌, ap, refl, subst, sym, arith}
use Rattle.std.specs.Prelude.{List, slice_index}
use Rattle.word_mem.specs.Memory.{word_at}
use Rattle.word_mem.specs.Views.{words_in}
use Rattle.mem_bytes.specs.Bytes.{places, put_byte, put_bytes, all_reached, bytes_at, stored}
use Rattle.link_words.specs.Links.{link_read}
use Rattle.link_words.specs.Layout.{first_bad_bit}
use Rattle.qh_qtd.specs.Token.{token_at, token_word}
use Rattle.qh_qtd.specs.QueueHead.{qh_words, qh_read, qh_bad, qh_at}
use Rattle.itd_sitd.specs.Slot.{slot_at, slot_word}
use Rattle.itd_sitd.specs.Itd.{itd_read, itd_bad, itd_at, itd_words}
use Rattle.hc_masks.specs.Masks.{lacks}
use Rattle.hc_iso.specs.Itd.{fetched_itd, after_in}
use Rattle.hc_iso.specs.WriteBack.{bytes_of, iso_raised, done_slot, itd_written as words_written}
use Rattle.async_walk.specs.declared.state.WalkStep.TheVariants as steps
use Rattle.periodic_walk.specs.Rows.{step_of, Leads}
use Rattle.law_frames.specs.FrameHand.{Nothing}
use Rattle.law_frames.specs.Frame.{IsFrame}
use Rattle.law_frames.specs.PartSamples.{met, parts, heard}
use Rattle.law_frames.proofs.PartSampled.{before_it}
use Rattle.law_frames.specs.Walks.{HearsBytes, Walks, over, and_then}
use Rattle.law_frames.specs.WalkSamples.{hears, first, itd_read as itd_in_hand, itd_moved, itd_written, queue_read, queue_passed, done}

pub frame_first : IsFrame met parts Nothing first
frame_first = record { tells = before_it.tells; members = before_it.members; walk = record { cursor = refl; held = refl; in_hand = tt } }

two_small : (i : ℕ) → slice_index (5 ∷ 6 ∷ []) i < 256
two_small (suc zero) = omega arith
two_small _ = omega arith

pub bytes_heard : HearsBytes hears
bytes_heard before after ask out pid bs made = subst (λ (got : List ℕ). (i : ℕ) → slice_index got i < 256) (sym (ap bytes_of made.0)) two_small

fetch_itd : step_of first ≡ steps.Fetch
unfolding words_in link_read first_bad_bit qh_words slot_at slot_word itd_read itd_bad itd_at itd_words
fetch_itd = refl

itd_led : Leads hears first 0 itd_in_hand 0
unfolding fetched_itd words_in link_read first_bad_bit qh_words slot_at slot_word itd_read itd_bad itd_at itd_words
itd_led = (refl, refl)

transact : step_of itd_in_hand ≡ steps.Transact
unfolding fetched_itd places all_reached itd_words qh_words
transact = refl

transact_led : Leads hears itd_in_hand 0 itd_moved 1
unfolding fetched_itd places all_reached bytes_at itd_words qh_words
transact_led = record { reply = heard; made = (refl, refl); place = refl }

write_back : step_of itd_moved ≡ steps.WriteBack
unfolding fetched_itd after_in done_slot slot_word itd_words qh_words words_written places all_reached stored put_byte put_bytes
write_back = refl

write_led : Leads hears itd_moved 1 itd_written 1
unfolding fetched_itd after_in done_slot slot_word itd_words qh_words words_written places all_reached stored put_byte put_bytes
write_led = (refl, refl)

fetch_queue : step_of itd_written ≡ steps.Fetch
unfolding words_in link_read first_bad_bit token_at token_word qh_read qh_bad qh_at fetched_itd after_in done_slot slot_word itd_words qh_words words_written places all_reached stored put_byte put_bytes iso_raised
fetch_queue = refl

queue_led : Leads hears itd_written 1 queue_read 1
unfolding words_in link_read first_bad_bit token_at token_word qh_read qh_bad qh_at fetched_itd after_in done_slot slot_word itd_words qh_words words_written places all_reached stored put_byte put_bytes iso_raised
queue_led = (refl, refl)

skip : step_of queue_read ≡ steps.Skip
unfolding lacks fetched_itd after_in itd_words qh_words words_written places all_reached stored
skip = refl

skip_led : Leads hears queue_read 1 queue_passed 1
unfolding lacks fetched_itd after_in itd_words qh_words words_written places all_reached stored
skip_led = (refl, refl)

pub walk : Walks hears done 1 (steps.Fetch ∷ steps.Transact ∷ steps.WriteBack ∷ steps.Fetch ∷ steps.Skip ∷ steps.Ended ∷ []) first 0
walk =
    and_then steps.Fetch (steps.Transact ∷ steps.WriteBack ∷ steps.Fetch ∷ steps.Skip ∷ steps.Ended ∷ []) first itd_in_hand 0 0 fetch_itd itd_led
    (and_then steps.Transact (steps.WriteBack ∷ steps.Fetch ∷ steps.Skip ∷ steps.Ended ∷ []) itd_in_hand itd_moved 0 1 transact transact_led
    (and_then steps.WriteBack (steps.Fetch ∷ steps.Skip ∷ steps.Ended ∷ []) itd_moved itd_written 1 1 write_back write_led
    (and_then steps.Fetch (steps.Skip ∷ steps.Ended ∷ []) itd_written queue_read 1 1 fetch_queue queue_led
    (and_then steps.Skip (steps.Ended ∷ []) queue_read queue_passed 1 1 skip skip_led
    (and_then steps.Ended [] queue_passed done 1 1 refl (refl, refl) over)))))

pub bytes_there : word_at done.memory 192 ≡ 0x605
unfolding fetched_itd after_in done_slot slot_word itd_words qh_words words_written places all_reached stored put_byte put_bytes
bytes_there = refl

pub word_there : word_at done.memory 76 ≡ 0x200C0
unfolding fetched_itd after_in done_slot slot_word itd_words qh_words words_written places all_reached stored put_byte put_bytes
word_there = refl
