-- Why a line of the report tells what it tells (EHCI 1.0, 3.3.2, 3.4.3, 3.5.3, 3.6.3, 4.10 and 4.15; USB 2.0, 8.5.3): by the words of
-- memory that the driver reads, with as many bytes as were moved.
--     HasReason get last t what   the token t of a qTD tells this of its transfer
--     less long left         a buffer of so many bytes of which so many are left
--     qtds_of notes b n      the blocks of n qTDs from block b on
--     bytes_in m blocks n    the bytes of a buffer
--     bytes_read ..          the bytes that were moved in qTDs whose tokens were read
--     left_in m q b          how many bytes are left of the qTD in block b, of the queue head in block q, until now
--     bytes_now ..           the bytes that were moved until now in qTDs of which the first were read
--     Reason p notes line bytes   why the line tells these bytes
--     AreTold p notes reports store   lines with reasons stand behind those of before
use Rattle.std.specs.Prelude.{◌≡◌, ◌≢◌, ℕ, zero, suc, ◌+◌, ◌-◌, ◌*◌, ◌/◌, ◌%◌, ◌<◌, ◌⊎◌, ◌==◌, Bool, true, false, not, ◌&&◌, nat_eq, nat_le}
use Rattle.std.specs.Prelude.{List, [], ◌∷◌, ◌++◌, length, map, take, drop, slice_get, slice_index, Some, None, if◌then◌else◌}
use Rattle.std.specs.List.{flat_map, range_with_len}
use Rattle.usb_base.specs.declared.endpoints.EndCause.TheVariants as causes
use Rattle.usb_base.specs.declared.reports.Report.{Report}
use Rattle.usb_base.specs.declared.reports.What.{What}
use Rattle.usb_base.specs.declared.reports.What.TheVariants as lines
use Rattle.word_mem.specs.Memory.{Mem, word_at}
use Rattle.word_mem.specs.Views.{byte_at}
use Rattle.link_words.specs.Layout.{high_bits}
use Rattle.qh_qtd.specs.declared.token.Token.{Token}
use Rattle.qh_qtd.specs.Token.{token_at}
use Rattle.drv_periodic_table.specs.Periodic.{note_at as descriptor_at}
use Rattle.drv_table.specs.declared.content.Endpoint.{Endpoint}
use Rattle.drv_table.specs.declared.content.QtdNote.{QtdNote}
use Rattle.drv_table.specs.declared.content.Sort.{Sort}
use Rattle.drv_table.specs.declared.content.Sort.TheVariants as sorts
use Rattle.drv_table.specs.declared.content.Transfer.{Transfer}
use Rattle.drv_table.specs.Harvests.{note_at}
use Rattle.drv_table.specs.Parts.{Parts}
use Rattle.drv_table.specs.Words.{is_control}
use Rattle.claims_driver.specs.Owners.{is_descriptor}
use Rattle.claims_answers.specs.Slots.{is_done, bad_slots, bytes_of_slots}

-- ---- the token of a qTD (3.5.3 and 4.15.1)

-- word 2 of the qTD in block b
abbrev pub token_of : Mem → ℕ → Token
token_of m b = token_at (word_at m (32 * b + 8))

abbrev pub is_get : Sort → Bool
is_get sorts.Get = true
is_get _ = false

-- It is done with its last qTD, and a get with a short one. Else the qTD is halted: a complete-split was missed, the device sent too much,
-- errors used up CERR, and where none of these stands it answered STALL.
pub data HasReason (get last : Bool) (t : Token) : What → Type 0 where
  done : t.active ≡ false → t.halted ≡ false → (last ≡ true) ⊎ ((get ≡ true) × (t.total ≢ 0)) → HasReason get last t lines.Done
  missed : t.active ≡ false → t.halted ≡ true → t.missed ≡ true → HasReason get last t lines.Miss
  babbled : t.active ≡ false → t.halted ≡ true → t.missed ≡ false → t.babble ≡ true → HasReason get last t (lines.Halt causes.Babble)
  failed : t.active ≡ false → t.halted ≡ true → t.missed ≡ false → t.babble ≡ false → t.cerr ≡ 0
      → HasReason get last t (lines.Halt causes.Error)
  stalled : t.active ≡ false → t.halted ≡ true → t.missed ≡ false → t.babble ≡ false → t.cerr ≢ 0
      → HasReason get last t (lines.Halt causes.Stall)

-- ---- bytes

-- one that tells more bytes left than there are counts none
abbrev pub less : ℕ → ℕ → ℕ
less long left = if nat_le left long then long - left else 0

abbrev pub qtds_of : List QtdNote → ℕ → ℕ → List ℕ
qtds_of notes b zero = []
qtds_of notes b (suc n) = b ∷ qtds_of notes (note_at notes b).next n

-- the first n bytes of a buffer, which begins in these blocks, each with 4,096 bytes of it but for the last (3.5.4)
abbrev pub bytes_in : Mem → List ℕ → ℕ → List ℕ
bytes_in m blocks n = map (λ j. byte_at m (32 * slice_index blocks (j / 4096) + j % 4096)) (range_with_len 0 n)

-- as many as were noted when their tokens were read
abbrev pub bytes_read : List QtdNote → Mem → List ℕ → List ℕ
bytes_read notes m blocks = flat_map (λ b. bytes_in m (note_at notes b).buffer (note_at notes b).moved) blocks

-- while the overlay of the queue head is active, its total stands for that of its current qTD (3.6.3)
abbrev pub overlay_of : Mem → ℕ → Token
overlay_of m q = token_at (word_at m (32 * q + 24))

abbrev pub left_in : Mem → ℕ → ℕ → ℕ
left_in m q b =
    if (overlay_of m q).active && nat_eq (high_bits 5 (word_at m (32 * q + 12))) (32 * b) then (overlay_of m q).total else
    (token_of m b).total

abbrev pub bytes_under_way : List QtdNote → Mem → ℕ → List ℕ → List ℕ
bytes_under_way notes m q blocks =
    flat_map (λ b. bytes_in m (note_at notes b).buffer (less (note_at notes b).told (left_in m q b))) blocks

-- `left` of the n qTDs from block b on aren't read yet
abbrev pub bytes_until_now : List QtdNote → Mem → ℕ → ℕ → ℕ → ℕ → List ℕ
bytes_until_now notes m q b n left =
    bytes_read notes m (take (n - left) (qtds_of notes b n)) ++ bytes_under_way notes m q (drop (n - left) (qtds_of notes b n))

-- ---- why a line tells what it tells

-- a transfer of an endpoint, which has no line yet
pub record IsUntold (p : Parts) (line : Report) : Type 0 where
  pub number : ℕ
  pub transfer : Transfer
  pub there : slice_get p.driver.transfers number ≡ Some transfer
  pub untold : transfer.reported ≡ false
  pub endpoint : Endpoint
  pub here : slice_get p.driver.endpoints transfer.endpoint ≡ Some endpoint
  pub going : endpoint.ended ≡ None
  pub name : line.name ≡ endpoint.desc.name

-- a transfer with qTDs, whose next token is read
pub record IsToldByToken (p : Parts) (notes : List QtdNote) (line : Report) (bytes : List ℕ) : Type 0 where
  pub of : IsUntold p line
  pub qtds : is_descriptor of.transfer.sort ≡ false
  pub reason : HasReason (is_get of.transfer.sort) (nat_le of.transfer.left 1) (token_of p.memory of.transfer.place) line.what
  pub noted :
      of.transfer.place < length p.driver.notes
      → (note_at notes of.transfer.place).moved ≡ less (note_at p.driver.notes of.transfer.place).told
      (token_of p.memory of.transfer.place).total
  pub others : (b : ℕ) → b ≢ of.transfer.place → note_at notes b ≡ note_at p.driver.notes b
  pub bytes_are : bytes ≡ take of.transfer.most (bytes_read notes p.memory (qtds_of notes of.transfer.first of.transfer.qtds))

-- a request behind one that its device answered with STALL (USB 2.0, 8.5.3.4)
pub record IsToldBehind (p : Parts) (line : Report) (bytes : List ℕ) : Type 0 where
  pub of : IsUntold p line
  pub control : is_control of.endpoint.desc.kind ≡ true
  pub first : ℕ
  pub stalled : Transfer
  pub there : slice_get p.driver.transfers first ≡ Some stalled
  pub before : first < of.number
  pub same : stalled.endpoint ≡ of.transfer.endpoint
  pub untold : stalled.reported ≡ false
  pub reason : HasReason (is_get stalled.sort) (nat_le stalled.left 1) (token_of p.memory stalled.place) (lines.Halt causes.Stall)
  pub what : line.what ≡ lines.Halt causes.Stall
  pub bytes_are : bytes ≡ []

-- an isochronous descriptor none of whose slots is active any more: the bytes of its slots, and how many have an error bit (3.3.2
-- and 3.4.3)
pub record IsToldBySlots (p : Parts) (line : Report) (bytes : List ℕ) : Type 0 where
  pub of : IsUntold p line
  pub descriptor : is_descriptor of.transfer.sort ≡ true
  pub served : is_done (descriptor_at p.driver.periodic.notes of.transfer.first) p.memory of.transfer.first ≡ true
  pub what : line.what ≡ lines.Iso (bad_slots (descriptor_at p.driver.periodic.notes of.transfer.first) p.memory of.transfer.first)
  pub bytes_are : bytes ≡ take of.transfer.most
      (bytes_of_slots (descriptor_at p.driver.periodic.notes of.transfer.first) p.memory of.transfer.first)

-- what was moved until now of a transfer of endpoint e that has no line
abbrev pub bytes_of_untold : Parts → ℕ → ℕ → Transfer → List ℕ
bytes_of_untold p e q y =
    if y.endpoint == e && not y.reported then take y.most (bytes_until_now p.driver.notes p.memory q y.first y.qtds y.left) else []

-- a cancelled endpoint is given back that hadn't ended before
pub record IsToldByCancel (p : Parts) (line : Report) (bytes : List ℕ) : Type 0 where
  pub number : ℕ
  pub endpoint : Endpoint
  pub here : slice_get p.driver.endpoints number ≡ Some endpoint
  pub cancelled : endpoint.cancelled ≡ true
  pub ended : endpoint.ended ≡ Some causes.Cancel
  pub kept : endpoint.gone ≡ false
  pub name : line.name ≡ endpoint.desc.name
  pub what : line.what ≡ lines.Cancel
  pub bytes_are : bytes ≡ flat_map (bytes_of_untold p number endpoint.queue) p.driver.transfers

pub data Reason (p : Parts) (notes : List QtdNote) (line : Report) (bytes : List ℕ) : Type 0 where
  by_token : IsToldByToken p notes line bytes → Reason p notes line bytes
  behind : IsToldBehind p line bytes → Reason p notes line bytes
  by_slots : IsToldBySlots p line bytes → Reason p notes line bytes
  by_cancel : IsToldByCancel p line bytes → Reason p notes line bytes

-- the bytes of each line stand behind those of the lines before
pub data AreTold (p : Parts) (notes : List QtdNote) : List Report → List ℕ → Type 0 where
  nothing : AreTold p notes p.driver.reports p.driver.store
  one_more :
      (reports : List Report) (store bytes : List ℕ) (line : Report) → AreTold p notes reports store → Reason p notes line bytes
      → line.from ≡ length store → line.len ≡ length bytes → AreTold p notes (reports ++ line ∷ []) (store ++ bytes)
