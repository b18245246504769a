-- What a write at an address changes, and that it is read there (EHCI 1.0, 3.5, 3.6 and 4.10).
--     OverlayChangesNoMore  no word but the nine of the overlay is changed
--     OverlayIsRead         a queue head whose first three words stand in memory is there once its overlay is written
--     StepIsRead            the same where those are the words of the queue head that was there
--     TokenIsRead           of a qTD that is there a written token changes that field alone
use Rattle.std.specs.Prelude.{◌≡◌, ℕ, ◌+◌, ◌%◌, ◌<◌, ◌≤◌, ◌⊎◌, ◌^◌, List, length, take, slice_index, Some, true}
use Rattle.word_mem.specs.Memory.{Mem, IsShaped, word_at}
use Rattle.word_mem.specs.Views.{words_at}
use Rattle.link_words.specs.Layout.{IsWordInRange}
use Rattle.qh_qtd.specs.declared.token.Token.{Token}
use Rattle.qh_qtd.specs.declared.qtd.Qtd.{Qtd}
use Rattle.qh_qtd.specs.declared.queue_head.Qh.{Qh}
use Rattle.qh_qtd.specs.Token.{token_rows}
use Rattle.qh_qtd.specs.QueueHead.{IsQhInRange, qh_words}
use Rattle.mem_queues.specs.Structures.{qtd_at_address, reaches_queue_head, queue_head_at_address, overlay_words, overlay_written, token_written}

-- each word has 32 bits
abbrev pub AreWords : Mem → Type 0
AreWords m = (i : ℕ) → slice_index m.words i < 2 ^ 32

abbrev pub OverlayChangesNoMore : Type 0
OverlayChangesNoMore = (m : Mem) (a : ℕ) (ws : List ℕ) (other : ℕ) → a % 4 ≡ 0 → length ws ≡ 9
    → (other < a + 12) ⊎ (a + 48 ≤ other) → word_at (overlay_written m a ws) other ≡ word_at m other

abbrev pub OverlayIsRead : Type 0
OverlayIsRead = (m : Mem) (a : ℕ) (q : Qh) → IsShaped m → a % 32 ≡ 0 → IsQhInRange q
    → reaches_queue_head m a ≡ true → words_at m a 3 ≡ take 3 (qh_words q)
    → queue_head_at_address (overlay_written m a (overlay_words q)) a ≡ Some q

abbrev pub StepIsRead : Type 0
StepIsRead = (m : Mem) (a : ℕ) (before q : Qh) → IsShaped m → AreWords m → a % 32 ≡ 0 → IsQhInRange q
    → queue_head_at_address m a ≡ Some before → take 3 (qh_words q) ≡ take 3 (qh_words before)
    → queue_head_at_address (overlay_written m a (overlay_words q)) a ≡ Some q

abbrev pub TokenIsRead : Type 0
TokenIsRead = (m : Mem) (a : ℕ) (t : Token) (d : Qtd) → IsShaped m → AreWords m → a % 32 ≡ 0 → IsWordInRange token_rows t
    → qtd_at_address m a ≡ Some d → qtd_at_address (token_written m a t) a ≡ Some (record d { token = t })
