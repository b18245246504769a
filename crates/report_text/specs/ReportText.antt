-- The lines of a report as text.
use Rattle.std.specs.Prelude.{ℕ, ◌+◌, ◌/◌, ◌%◌, ◌≤◌, Bool, true, false, List, [], ◌∷◌, ◌++◌, length, take, drop, Option, Some, None, codes}
use Rattle.std.specs.List.{flat_map, join_with_byte, AllByRecursion}
use Rattle.std.specs.Fmt.{decimal}
use Rattle.hex.specs.Hex.{encode_lower}
use Rattle.usb_base.specs.declared.packets.Way.{Way}
use Rattle.usb_base.specs.declared.packets.Way.TheVariants.{In, Out, Ctl}
use Rattle.usb_base.specs.declared.endpoints.EpName.{EpName}
use Rattle.usb_base.specs.declared.endpoints.EndCause.{EndCause}
use Rattle.usb_base.specs.declared.endpoints.EndCause.TheVariants.{Stall, Error, Babble, Miss, Cancel}
use Rattle.usb_base.specs.declared.reports.OfferError.{OfferError}
use Rattle.usb_base.specs.declared.reports.OfferError.TheVariants.{Busy, NoEndpoint, Closed, AlreadyOpen, TooLong, NoPlacement, NoBlocks, NotEnded, HubClosed}
use Rattle.usb_base.specs.declared.reports.What.{What}
use Rattle.usb_base.specs.declared.reports.What.TheVariants.{Done, Halt, Miss as Missed, Cancel as Cancelled, Iso, Refused, Clear, ClearFailed, Port, Disk, DiskReset}
use Rattle.usb_base.specs.declared.reports.Report.{Report}

-- a line of words
abbrev pub Line : Type 0
Line = List (List ℕ)

-- words with one space between two of them, and a line feed at the end
abbrev pub line_text : Line → List ℕ
line_text words = join_with_byte 32 words ++ 10 ∷ []

abbrev pub way_word : Way → List ℕ
way_word In = codes "in"
way_word Out = codes "out"
way_word Ctl = codes "ctl"

-- `<addr>.<num>.<way>`
abbrev pub ep_word : EpName → List ℕ
ep_word name = decimal name.addr ++ (46 ∷ decimal name.num) ++ (46 ∷ way_word name.way)

-- how many bytes there are
abbrev pub size_word : List ℕ → List ℕ
size_word bytes = decimal (length bytes)

-- the bytes as two digits each, or `-` for none
abbrev pub hex_word : List ℕ → List ℕ
hex_word [] = codes "-"
hex_word (b ∷ bs) = encode_lower (b ∷ bs)

abbrev pub cause_word : EndCause → List ℕ
cause_word Stall = codes "stall"
cause_word Error = codes "error"
cause_word Babble = codes "babble"
cause_word Miss = codes "miss"
cause_word Cancel = codes "cancel"

-- the cause behind a space, if there is one
abbrev pub after_cause : Option EndCause → List ℕ
after_cause None = []
after_cause (Some cause) = 32 ∷ cause_word cause

abbrev pub why_words : OfferError → Line
why_words Busy = codes "busy" ∷ []
why_words NoEndpoint = codes "no-endpoint" ∷ []
why_words (Closed cause) = codes "closed" ∷ cause_word cause ∷ []
why_words AlreadyOpen = codes "already-open" ∷ []
why_words TooLong = codes "too-long" ∷ []
why_words NoPlacement = codes "no-placement" ∷ []
why_words NotEnded = codes "not-ended" ∷ []
why_words HubClosed = codes "hub-closed" ∷ []
why_words (NoBlocks need largest) = codes "no-blocks" ∷ decimal need ∷ decimal largest ∷ []

-- the four bytes of a register, the highest first
abbrev pub value_bytes : ℕ → List ℕ
value_bytes v = v / 16777216 ∷ v / 65536 % 256 ∷ v / 256 % 256 ∷ v % 256 ∷ []

-- a command of a disk passed or failed
abbrev pub passed_word : Bool → List ℕ
passed_word true = codes "passed"
passed_word false = codes "failed"

-- what is told of an endpoint and its bytes
abbrev pub told : What → EpName → List ℕ → Line
told Done name bytes = codes "done" ∷ ep_word name ∷ size_word bytes ∷ hex_word bytes ∷ []
told (Halt cause) name bytes = codes "halt" ∷ ep_word name ∷ cause_word cause ∷ size_word bytes ∷ hex_word bytes ∷ []
told Missed name bytes = codes "miss" ∷ ep_word name ∷ size_word bytes ∷ hex_word bytes ∷ []
told Cancelled name bytes = codes "cancel" ∷ ep_word name ∷ size_word bytes ∷ hex_word bytes ∷ []
told (Iso errors) name bytes = codes "iso" ∷ ep_word name ∷ size_word bytes ∷ hex_word bytes ∷ codes "errors" ∷ decimal errors ∷ []
told Clear name bytes = codes "clear" ∷ ep_word name ∷ []
told (ClearFailed cause) name bytes = codes "clear" ∷ ep_word name ∷ codes "failed" ∷ cause_word cause ∷ []
told (Port port value) name bytes = codes "port" ∷ decimal port ∷ hex_word (value_bytes value) ∷ []
told (Disk tag passed) name bytes = codes "disk" ∷ decimal name.addr ∷ decimal tag ∷ passed_word passed ∷ size_word bytes ∷ hex_word bytes ∷ []
told DiskReset name bytes = codes "reset" ∷ decimal name.addr ∷ []
told (Refused line why) name bytes = codes "line" ∷ (decimal line ++ codes ":") ∷ codes "refused" ∷ why_words why

-- the bytes of a line of the report in the store
abbrev pub bytes_of : Report → List ℕ → List ℕ
bytes_of report store = take report.len (drop report.from store)

-- one line of the report
abbrev pub report_line : List ℕ → Report → List ℕ
report_line store report = line_text (told report.what report.name (bytes_of report store))

-- the lines of the report
abbrev pub report_text : List Report → List ℕ → List ℕ
report_text reports store = flat_map (report_line store) reports

-- k transfers, requests or descriptors weren't reported, at the end: `pending <ep> <k>`
abbrev pub pending_line : EpName → ℕ → List ℕ
pending_line name k = line_text (codes "pending" ∷ ep_word name ∷ decimal k ∷ [])

-- what the device of a bulk or interrupt OUT endpoint took, at the end: `taken <ep> <bytes>`
abbrev pub taken_line : EpName → List ℕ → List ℕ
taken_line name bytes = line_text (codes "taken" ∷ ep_word name ∷ size_word bytes ∷ hex_word bytes ∷ [])

-- how often the device of a control endpoint acted on a request, at the end: `acted <ep> <k>`
abbrev pub acted_line : EpName → ℕ → List ℕ
acted_line name k = line_text (codes "acted" ∷ ep_word name ∷ decimal k ∷ [])

-- the bytes of each line stand in a store of this size
abbrev pub AreStored : List Report → ℕ → Type 0
AreStored reports size = AllByRecursion (λ report. report.from + report.len ≤ size) reports
