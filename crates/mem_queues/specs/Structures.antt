-- What the controller reads at an address, and what it writes back (EHCI 1.0, 3.5, 3.6 and 4.10). A queue head has 12 words and so
-- lies in two blocks of 8 words, a qTD has 8 and lies in one. Addresses are byte addresses, multiples of 32.
--     qtd_at_address m a              the qTD at a; None where its block isn't Lent or its words have a reserved bit
--     queue_head_at_address m a       the queue head at a; None where one of its blocks isn't Lent or its words have a reserved bit
--     qtd_was_read m a                memory after the read: where the block isn't Lent one more refusal is counted
--     queue_head_was_read m a         the same for a queue head
--     overlay_words q                 words 3 to 11 of a queue head
--     overlay_written m a ws          these words are written there: those of the first block, then those of the second, up to the
--                                     first block that isn't Lent
--     token_written m a t             the token of the qTD at a
use Rattle.std.specs.Prelude.{ℕ, ◌+◌, Bool, ◌&&◌, List, take, drop, Option, None, if◌then◌else◌}
use Rattle.std.specs.Result.{result_ok}
use Rattle.word_mem.specs.Memory.{Mem, reaches, refused, with_word}
use Rattle.word_mem.specs.Views.{words_at, with_words}
use Rattle.qh_qtd.specs.declared.token.Token.{Token}
use Rattle.qh_qtd.specs.declared.qtd.Qtd.{Qtd}
use Rattle.qh_qtd.specs.declared.queue_head.Qh.{Qh}
use Rattle.qh_qtd.specs.Token.{token_word}
use Rattle.qh_qtd.specs.Qtd.{qtd_read}
use Rattle.qh_qtd.specs.QueueHead.{qh_read, qh_words}

-- ---- reading

abbrev pub qtd_at_address : Mem → ℕ → Option Qtd
qtd_at_address m a = if reaches m a then result_ok (qtd_read (words_at m a 8)) else None

abbrev pub qtd_was_read : Mem → ℕ → Mem
qtd_was_read m a = if reaches m a then m else refused m

-- the controller may touch both blocks of a queue head
abbrev pub reaches_queue_head : Mem → ℕ → Bool
reaches_queue_head m a = reaches m a && reaches m (a + 32)

abbrev pub queue_head_at_address : Mem → ℕ → Option Qh
queue_head_at_address m a = if reaches_queue_head m a then result_ok (qh_read (words_at m a 12)) else None

abbrev pub queue_head_was_read : Mem → ℕ → Mem
queue_head_was_read m a = if reaches_queue_head m a then m else refused m

-- ---- writing

abbrev pub overlay_words : Qh → List ℕ
overlay_words q = drop 3 (qh_words q)

-- five of the nine words lie in the first block, four in the second
abbrev pub overlay_written : Mem → ℕ → List ℕ → Mem
overlay_written m a ws =
    if reaches m a then
    (if reaches m (a + 32) then with_words m (a + 12) ws else refused (with_words m (a + 12) (take 5 ws)))
    else refused m

abbrev pub token_written : Mem → ℕ → Token → Mem
token_written m a t = if reaches m a then with_word m (a + 8) (token_word t) else refused m
