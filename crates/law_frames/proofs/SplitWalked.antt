-- The worked split transaction is walked in both of its microframes.
use Rattle.std.proofs.Common.{◌≡◌, [], ◌∷◌, refl, subst}
use Rattle.word_mem.specs.Memory.{word_at}
use Rattle.word_mem.specs.Views.{words_in, with_words_in}
use Rattle.mem_bytes.specs.Bytes.{places, put_byte, put_bytes, all_reached, bytes_at, stored}
use Rattle.link_words.specs.Links.{link_read}
use Rattle.link_words.specs.Layout.{first_bad_bit}
use Rattle.qh_qtd.specs.Token.{token_at, token_word}
use Rattle.qh_qtd.specs.Qtd.{qtd_words}
use Rattle.qh_qtd.specs.QueueHead.{qh_words, qh_read, qh_bad, qh_at}
use Rattle.hc_masks.specs.Masks.{lacks}
use Rattle.hc_copy.specs.Overlay.{settled_queue, moved}
use Rattle.hc_copy.specs.WriteBack.{overlay_after, written_back, raised}
use Rattle.hc_interrupt.specs.Copies.{with_split}
use Rattle.async_walk.specs.declared.state.WalkStep.TheVariants as steps
use Rattle.periodic_walk.specs.Rows.{step_of, Leads}
use Rattle.usb_base.specs.declared.packets.Reply.TheVariants.{Silent}
use Rattle.law_frames.specs.FrameHand.{Nothing}
use Rattle.law_frames.specs.Frame.{IsFrame}
use Rattle.law_frames.specs.QueueVisitSamples.{met}
use Rattle.law_frames.specs.SplitSamples.{parts, heard, is_silent, hears, first, first_read, first_made, first_written, first_done, second, second_read, second_made, second_written, second_done}
use Rattle.law_frames.specs.Walks.{Walks, over, and_then}
use Rattle.law_frames.proofs.SplitSampled.{before_it}

pub frame_first : IsFrame met parts Nothing first
frame_first = record { tells = before_it.tells; members = before_it.members; walk = record { cursor = refl; held = refl; in_hand = tt } }

-- ---- microframe 0

read : step_of first ≡ steps.Fetch
unfolding words_in link_read first_bad_bit token_at token_word qh_words qh_read qh_bad qh_at qtd_words
read = refl

read_led : Leads is_silent first 0 first_read 0
unfolding words_in link_read first_bad_bit token_at token_word qh_words qh_read qh_bad qh_at qtd_words
read_led = (refl, refl)

made : step_of first_read ≡ steps.Transact
unfolding lacks places all_reached qh_words qtd_words
made = refl

made_led : Leads is_silent first_read 0 first_made 1
unfolding lacks places all_reached bytes_at qh_words qtd_words
made_led = record { reply = Silent; made = (refl, refl); place = refl }

written : step_of first_made ≡ steps.WriteBack
unfolding with_split settled_queue moved overlay_after written_back places all_reached stored put_byte put_bytes qh_words qtd_words token_word
written = refl

written_led : Leads is_silent first_made 1 first_written 1
unfolding with_split settled_queue moved overlay_after written_back raised places all_reached stored put_byte put_bytes qh_words qtd_words token_word
written_led = (refl, refl)

ended : step_of first_written ≡ steps.Ended
unfolding with_split settled_queue moved overlay_after written_back raised places all_reached stored put_byte put_bytes qh_words qtd_words token_word
ended = refl

ended_led : Leads is_silent first_written 1 first_done 1
unfolding with_split settled_queue moved overlay_after written_back raised places all_reached stored put_byte put_bytes qh_words qtd_words token_word
ended_led = (refl, refl)

pub starts : Walks is_silent first_done 1 (steps.Fetch ∷ steps.Transact ∷ steps.WriteBack ∷ steps.Ended ∷ []) first 0
starts =
    and_then steps.Fetch (steps.Transact ∷ steps.WriteBack ∷ steps.Ended ∷ []) first first_read 0 0 read read_led
    (and_then steps.Transact (steps.WriteBack ∷ steps.Ended ∷ []) first_read first_made 0 1 made made_led
    (and_then steps.WriteBack (steps.Ended ∷ []) first_made first_written 1 1 written written_led (and_then steps.Ended [] first_written first_done 1 1 ended ended_led over)))

pub token_there : word_at first_done.memory 24 ≡ 0x20D82
unfolding with_split settled_queue moved overlay_after written_back raised places all_reached stored put_byte put_bytes qh_words qtd_words token_word with_words_in
token_there = refl

pub tag_there : word_at first_done.memory 36 ≡ 5
unfolding with_split settled_queue moved overlay_after written_back raised places all_reached stored put_byte put_bytes qh_words qtd_words token_word with_words_in
tag_there = refl

-- ---- microframe 2

read_again : step_of second ≡ steps.Fetch
unfolding words_in link_read first_bad_bit token_at qh_read qh_bad qh_at with_split settled_queue moved overlay_after written_back raised lacks places all_reached bytes_at stored put_byte put_bytes qh_words qtd_words token_word with_words_in
read_again = refl

read_again_led : Leads hears second 1 second_read 1
unfolding words_in link_read first_bad_bit token_at qh_read qh_bad qh_at with_split settled_queue moved overlay_after written_back raised lacks places all_reached bytes_at stored put_byte put_bytes qh_words qtd_words token_word with_words_in
read_again_led = (refl, refl)

made_again : step_of second_read ≡ steps.Transact
unfolding words_in link_read first_bad_bit token_at qh_read qh_bad qh_at with_split settled_queue moved overlay_after written_back raised lacks places all_reached bytes_at stored put_byte put_bytes qh_words qtd_words token_word with_words_in
made_again = refl

made_again_led : Leads hears second_read 1 second_made 2
unfolding words_in link_read first_bad_bit token_at qh_read qh_bad qh_at with_split settled_queue moved overlay_after written_back raised lacks places all_reached bytes_at stored put_byte put_bytes qh_words qtd_words token_word with_words_in
made_again_led = record { reply = heard; made = (refl, refl); place = refl }

written_again : step_of second_made ≡ steps.WriteBack
unfolding words_in link_read first_bad_bit token_at qh_read qh_bad qh_at with_split settled_queue moved overlay_after written_back raised lacks places all_reached bytes_at stored put_byte put_bytes qh_words qtd_words token_word with_words_in
written_again = refl

written_again_led : Leads hears second_made 2 second_written 2
unfolding words_in link_read first_bad_bit token_at qh_read qh_bad qh_at with_split settled_queue moved overlay_after written_back raised lacks places all_reached bytes_at stored put_byte put_bytes qh_words qtd_words token_word with_words_in
written_again_led = (refl, refl)

ended_again : step_of second_written ≡ steps.Ended
unfolding words_in link_read first_bad_bit token_at qh_read qh_bad qh_at with_split settled_queue moved overlay_after written_back raised lacks places all_reached bytes_at stored put_byte put_bytes qh_words qtd_words token_word with_words_in
ended_again = refl

ended_again_led : Leads hears second_written 2 second_done 2
unfolding words_in link_read first_bad_bit token_at qh_read qh_bad qh_at with_split settled_queue moved overlay_after written_back raised lacks places all_reached bytes_at stored put_byte put_bytes qh_words qtd_words token_word with_words_in
ended_again_led = (refl, refl)

pub completes : Walks hears second_done 2 (steps.Fetch ∷ steps.Transact ∷ steps.WriteBack ∷ steps.Ended ∷ []) second 1
completes =
    and_then steps.Fetch (steps.Transact ∷ steps.WriteBack ∷ steps.Ended ∷ []) second second_read 1 1 read_again read_again_led
    (and_then steps.Transact (steps.WriteBack ∷ steps.Ended ∷ []) second_read second_made 1 2 made_again made_again_led
    (and_then steps.WriteBack (steps.Ended ∷ []) second_made second_written 2 2 written_again written_again_led (and_then steps.Ended [] second_written second_done 2 2 ended_again ended_again_led over)))

pub bytes_there : word_at second_done.memory 100 ≡ 0x201
unfolding words_in link_read first_bad_bit token_at qh_read qh_bad qh_at with_split settled_queue moved overlay_after written_back raised lacks places all_reached bytes_at stored put_byte put_bytes qh_words qtd_words token_word with_words_in
bytes_there = refl

pub done_there : word_at second_done.memory 72 ≡ 0x80000D00
unfolding words_in link_read first_bad_bit token_at qh_read qh_bad qh_at with_split settled_queue moved overlay_after written_back raised lacks places all_reached bytes_at stored put_byte put_bytes qh_words qtd_words token_word with_words_in
done_there = refl

pub prog_there : word_at second_done.memory 32 ≡ 4
unfolding words_in link_read first_bad_bit token_at qh_read qh_bad qh_at with_split settled_queue moved overlay_after written_back raised lacks places all_reached bytes_at stored put_byte put_bytes qh_words qtd_words token_word with_words_in
prog_there = refl
