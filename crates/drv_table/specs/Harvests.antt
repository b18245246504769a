-- What a token that is read tells, and the bytes of a report (EHCI 1.0, 4.10 and 4.15).
--     note_at notes b                  what the driver knows of the qTD in block b
--     token_in m b                     the token of that qTD
--     found_in sort last note t        what the token t tells
--     moved_bytes notes m b n          the bytes that were moved in n qTDs from block b on
--     bytes_now notes m q b n left     the same of a transfer of which `left` qTDs aren't read, of the endpoint with its queue head at q
--     reported d what name bytes       one more line of the report
use Rattle.std.specs.Prelude.{ℕ, zero, suc, ◌+◌, ◌-◌, ◌*◌, ◌/◌, ◌%◌, Bool, true, false, not, ◌&&◌, ◌||◌, nat_eq, nat_le, nat_lt, List, [], ◌∷◌, ◌++◌, length, map, slice_index, slice_index_or, slice_set, Option, Some, None, if◌then◌else◌}
use Rattle.std.specs.List.{range_with_len}
use Rattle.usb_base.specs.declared.endpoints.EpName.{EpName}
use Rattle.usb_base.specs.declared.endpoints.EndCause.{EndCause}
use Rattle.usb_base.specs.declared.endpoints.EndCause.TheVariants as causes
use Rattle.usb_base.specs.declared.packets.EpKind.{EpKind}
use Rattle.usb_base.specs.declared.reports.What.{What}
use Rattle.usb_base.specs.declared.reports.What.TheVariants as lines
use Rattle.word_mem.specs.Memory.{Mem, word_at}
use Rattle.word_mem.specs.Views.{byte_at}
use Rattle.link_words.specs.Layout.{high_bits}
use Rattle.qh_qtd.specs.declared.token.Token.{Token}
use Rattle.qh_qtd.specs.Token.{token_at}
use Rattle.drv_table.specs.declared.content.Sort.{Sort}
use Rattle.drv_table.specs.declared.content.Sort.TheVariants as sorts
use Rattle.drv_table.specs.declared.content.QtdNote.{QtdNote}
use Rattle.drv_table.specs.declared.rows.Found.{Found}
use Rattle.drv_table.specs.declared.rows.Found.TheVariants as founds
use Rattle.drv_table.specs.DriverContent.{DriverContent, no_note}
use Rattle.drv_table.specs.Words.{is_control}

abbrev pub note_at : List QtdNote → ℕ → QtdNote
note_at notes b = slice_index_or notes b no_note

-- ---- tokens

-- the token is word 2 of a qTD
abbrev pub token_in : Mem → ℕ → Token
token_in m b = token_at (word_at m (32 * b + 8))

-- A miss stands before a babble, a babble before an error, and where none of them is told the device answered STALL (4.15.1).
abbrev pub halt_of : Token → What
halt_of t =
    if t.missed then lines.Miss
    else if t.babble then lines.Halt causes.Babble
    else if nat_eq t.cerr 0 then lines.Halt causes.Error
    else lines.Halt causes.Stall

-- a token that tells more bytes left than the buffer has counts none
abbrev pub moved_of : ℕ → ℕ → ℕ
moved_of told left = if nat_le left told then told - left else 0

-- the transfer is a get, whose data come to the host (USB 2.0, 8.5.2)
abbrev pub is_get : Sort → Bool
is_get sorts.Get = true
is_get sorts.Put = false
is_get sorts.Request = false
is_get sorts.Descriptor = false

-- a qTD that is done: the last ends its transfer, and so does a short one of a get
abbrev pub done_of : Bool → ℕ → Found
done_of true moved = founds.Ended moved lines.Done
done_of false moved = founds.Moved moved

-- the qTD ends its transfer: it is the last one, or one of a get that was short (USB 2.0, 5.8.3)
abbrev pub ends_by : Sort → Bool → ℕ → Bool
ends_by sort last left = last || (is_get sort && not (nat_eq left 0))

abbrev pub found_in : Sort → Bool → QtdNote → Token → Found
found_in sort last note t =
    if t.active then founds.Active
    else if t.halted then founds.Ended (moved_of note.told t.total) (halt_of t)
    else done_of (ends_by sort last t.total) (moved_of note.told t.total)

-- the cause by which an endpoint of this kind ends; a control endpoint goes on after a STALL (USB 2.0, 8.5.3.4)
abbrev pub end_of : EpKind → What → Option EndCause
end_of kind lines.Miss = Some causes.Miss
end_of kind (lines.Halt causes.Stall) = if is_control kind then None else Some causes.Stall
end_of kind (lines.Halt cause) = Some cause
end_of kind _ = None

-- the line tells that the endpoint answered STALL (3.5.3; USB 2.0, 8.4.5)
abbrev pub is_stall : What → Bool
is_stall (lines.Halt causes.Stall) = true
is_stall _ = false

-- ---- bytes

-- where byte j of its buffer stands: in the one run, or in the pages
abbrev pub buffer_address : QtdNote → ℕ → ℕ
buffer_address note j = 32 * slice_index note.buffer (j / 4096) + j % 4096

-- the first bytes of a qTD's buffer (3.5.4)
unfoldable pub buffer_bytes : Mem → QtdNote → ℕ → List ℕ
buffer_bytes m note n = map (λ j. byte_at m (buffer_address note j)) (range_with_len 0 n)

unfoldable pub moved_bytes : List QtdNote → Mem → ℕ → ℕ → List ℕ
moved_bytes notes m b zero = []
moved_bytes notes m b (suc n) =
    buffer_bytes m (note_at notes b) (note_at notes b).moved ++ moved_bytes notes m (note_at notes b).next n

-- The bytes left of the qTD in block b, under the queue head in block q: while it is the current one of an active overlay, the overlay
-- tells them (3.6.3).
abbrev pub is_current : Mem → ℕ → ℕ → Bool
is_current m q b = (token_at (word_at m (32 * q + 24))).active && nat_eq (high_bits 5 (word_at m (32 * q + 12))) (32 * b)

-- how many bytes are left of the qTD at work: those of the overlay, if it is the queue head's current one (3.6.3), else its own
abbrev pub left_now : Mem → ℕ → ℕ → ℕ
left_now m q b = if is_current m q b then (token_at (word_at m (32 * q + 24))).total else (token_in m b).total

-- how many bytes of the qTD were moved until now
abbrev pub moved_now : Mem → ℕ → ℕ → QtdNote → Bool → ℕ
moved_now m q b note true = note.moved
moved_now m q b note false = moved_of note.told (left_now m q b)

unfoldable pub bytes_now : List QtdNote → Mem → ℕ → ℕ → ℕ → ℕ → List ℕ
bytes_now notes m q b zero left = []
bytes_now notes m q b (suc n) left =
    buffer_bytes m (note_at notes b) (moved_now m q b (note_at notes b) (nat_lt left (suc n)))
    ++ bytes_now notes m q (note_at notes b).next n left

-- ---- the report

abbrev pub reported : DriverContent → What → EpName → List ℕ → DriverContent
reported d what name bytes =
    record d {
      reports = d.reports ++ (record { name = name; what = what; from = length d.store; len = length bytes }) ∷ [];
      store = d.store ++ bytes;
    }

-- what was moved of the qTD in a block is noted
abbrev pub noted : List QtdNote → ℕ → ℕ → List QtdNote
noted notes b moved = slice_set notes b (record (note_at notes b) { moved = moved })
