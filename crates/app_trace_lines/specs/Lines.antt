-- The line of an event: its moment, what happened, and what translators did below. Two packets of a transaction have a comma between them.
--     packets_text x         the packets of a transaction, in the order in which they went (USB 2.0, 8.5)
--     happening_text h       what happened
--     entry_line e works passed   the line, with its line feed
use Rattle.std.specs.Prelude.{ℕ, ◌/◌, ◌%◌, Bool, true, false, List, [], ◌∷◌, ◌++◌, Option, Some, None, if◌then◌else◌, codes, decimal}
use Rattle.std.specs.List.{flat_map, join_with_byte}
use Rattle.usb_base.specs.declared.packets.DataPart.{DataPart}
use Rattle.usb_base.specs.declared.packets.Pid.{Pid}
use Rattle.usb_base.specs.declared.packets.Split.{Split}
use Rattle.usb_base.specs.declared.packets.Split.TheVariants as splits
use Rattle.usb_base.specs.declared.endpoints.EpName.{EpName}
use Rattle.usb_base.specs.declared.reports.OfferError.{OfferError}
use Rattle.report_text.specs.ReportText.{ep_word, why_words}
use Rattle.hc_core.specs.declared.controller.HcStep.{HcStep}
use Rattle.drv_jobs.specs.declared.jobs.JobRow.{JobRow}
use Rattle.drv_jobs.specs.declared.jobs.JobRow.TheVariants as rows
use Rattle.drv_jobs.specs.Jobs.{step_of_job}
use Rattle.bus_packets.specs.declared.exchanges.Answer.{Answer}
use Rattle.bus_packets.specs.declared.exchanges.Answer.TheVariants as answers
use Rattle.bus_packets.specs.declared.exchanges.Exchange.{Exchange}
use Rattle.bus_packets.specs.declared.exchanges.Passed.{Passed}
use Rattle.bus_packets.specs.Heard.{sends_data, has_answer, is_heard, is_acknowledged}
use Rattle.app_trace_lines.specs.declared.entries.Work.{Work}
use Rattle.app_trace_lines.specs.declared.entries.Happening.{Happening}
use Rattle.app_trace_lines.specs.declared.entries.Happening.TheVariants as happenings
use Rattle.app_trace_lines.specs.declared.entries.Entry.{Entry}
use Rattle.app_trace_lines.specs.Words.{hex, pid_word, fate_word, part_word, step_word, driver_word}

-- ---- packets

-- the hub and the port of a SPLIT packet (8.4.2)
unfoldable pub port_text : ℕ → ℕ → List ℕ
port_text hub port = decimal hub ++ codes "." ++ decimal port ++ codes " "

unfoldable pub part_text : DataPart → Pid → List ℕ
part_text part pid = part_word part ++ pid_word pid

unfoldable pub start_text : ℕ → ℕ → DataPart → Pid → List ℕ
start_text hub port part pid = codes "start-split " ++ port_text hub port ++ part_text part pid

unfoldable pub complete_text : ℕ → ℕ → Pid → List ℕ
complete_text hub port pid = codes "complete-split " ++ port_text hub port ++ pid_word pid

-- the token, with the SPLIT before it
unfoldable pub token_text : Split → Pid → List ℕ
token_text splits.Plain pid = pid_word pid
token_text (splits.Start hub port part) pid = start_text hub port part pid
token_text (splits.Complete hub port) pid = complete_text hub port pid

-- a data packet
unfoldable pub packet_text : Pid → ℕ → List ℕ
packet_text pid n = pid_word pid ++ codes " " ++ decimal n

unfoldable pub data_text : Exchange → List ℕ
data_text x = if sends_data x.ask.split x.ask.pid then codes ", " ++ packet_text x.ask.toggle x.sent ++ fate_word x.fates.data else []

unfoldable pub answer_text : Answer → List ℕ
answer_text answers.Nothing = codes "nothing"
answer_text (answers.Data pid n) = packet_text pid n
answer_text (answers.Handshake pid) = pid_word pid

unfoldable pub reply_text : Exchange → List ℕ
reply_text x = if has_answer x.told.row then codes ", " ++ answer_text x.answer ++ fate_word x.fates.answer else []

unfoldable pub acknowledgement_text : Exchange → List ℕ
acknowledgement_text x = if is_acknowledged x.told.row then codes ", ack" ++ fate_word x.fates.acknowledgement else []

unfoldable pub packets_text : Exchange → List ℕ
packets_text x = token_text x.ask.split x.ask.pid ++ fate_word x.fates.token ++ data_text x ++ reply_text x ++ acknowledgement_text x

-- ---- a transaction

-- what the host heard of the answer
unfoldable pub heard_text : Exchange → List ℕ
heard_text x = codes "; heard " ++ (if is_heard x.told.row then answer_text x.answer else codes "nothing")

unfoldable pub exchange_text : Exchange → List ℕ
exchange_text x = codes " " ++ ep_word x.told.asked.name ++ codes ": " ++ packets_text x ++ heard_text x

unfoldable pub time_text : ℕ → ℕ → List ℕ
time_text price left = codes "; price " ++ decimal price ++ codes "; left " ++ decimal left

unfoldable pub made_text : Option Exchange → ℕ → ℕ → List ℕ
made_text None price left = []
made_text (Some x) price left = exchange_text x ++ time_text price left

-- ---- what happened

unfoldable pub address_text : ℕ → List ℕ
address_text at = codes " " ++ hex 8 at

unfoldable pub at_text : Option ℕ → List ℕ
at_text None = []
at_text (Some at) = address_text at

unfoldable pub word_stored_text : ℕ → ℕ → List ℕ
word_stored_text at value = address_text at ++ codes " becomes" ++ address_text value

-- the word that a store changed, if it changed one
unfoldable pub stored_text : Option (ℕ × ℕ) → List ℕ
stored_text None = []
stored_text (Some s) = word_stored_text s.0 s.1

unfoldable pub name_text : EpName → List ℕ
name_text name = codes " " ++ ep_word name

-- the endpoint that is reset, if one is
unfoldable pub reset_text : JobRow → List ℕ
reset_text (rows.Resets name) = name_text name
reset_text _ = []

unfoldable pub driver_line : JobRow → Option (ℕ × ℕ) → List ℕ
driver_line row stored = codes "driver " ++ driver_word (step_of_job row) ++ reset_text row ++ stored_text stored

unfoldable pub refusal_text : Option OfferError → List ℕ
refusal_text None = codes " accepted"
refusal_text (Some why) = codes " refused " ++ join_with_byte 32 (why_words why)

unfoldable pub offered_text : ℕ → Option OfferError → List ℕ
offered_text line refused = codes "command of line " ++ decimal line ++ refusal_text refused

-- a microframe began; held: the bus may not be used in it
unfoldable pub began_text : Bool → List ℕ
began_text true = codes "controller begin"
began_text false = codes "controller begin held"

-- the structure and the transaction of an event
unfoldable pub subject_text : Option ℕ → Option Exchange → ℕ → ℕ → List ℕ
subject_text at exchange price left = at_text at ++ made_text exchange price left

unfoldable pub controller_text : HcStep → Option ℕ → Option Exchange → ℕ → ℕ → List ℕ
controller_text step at exchange price left = codes "controller " ++ step_word step ++ subject_text at exchange price left

unfoldable pub happening_text : Happening → List ℕ
happening_text (happenings.Began allowed) = began_text allowed
happening_text (happenings.Controller step at exchange price left) = controller_text step at exchange price left
happening_text (happenings.Driver row stored) = driver_line row stored
happening_text (happenings.Offered line refused) = offered_text line refused

-- the number of the microframe, and FRINDEX as frame and microframe
unfoldable pub moment_text : ℕ → ℕ → List ℕ
moment_text microframe index = decimal microframe ++ codes " " ++ decimal (index / 8) ++ codes "." ++ decimal (index % 8) ++ codes " "

unfoldable pub unheard_text : ℕ → List ℕ
unheard_text unheard = codes ", unheard " ++ decimal unheard

unfoldable pub end_text : ℕ → ℕ → List ℕ
end_text end unheard = codes " to before " ++ decimal end ++ unheard_text unheard

-- packets from the first to before the end, and how many of them were unheard
unfoldable pub span_text : ℕ → ℕ → ℕ → List ℕ
span_text first end unheard = codes " packets from " ++ decimal first ++ end_text end unheard

-- the packets of an endpoint below a translator
unfoldable pub work_text : Work → List ℕ
work_text w = codes "; below " ++ ep_word w.name ++ span_text w.first w.end w.unheard

-- a transaction below a translator, with its time from the begin of the microframe that ended
unfoldable pub passed_text : Passed → List ℕ
passed_text p = codes "; below at " ++ decimal p.time ++ exchange_text p.exchange

-- what translators did below
unfoldable pub below_text : List Work → List Passed → List ℕ
below_text works passed = flat_map work_text works ++ flat_map passed_text passed

unfoldable pub entry_line : Entry → List Work → List Passed → List ℕ
entry_line e works passed = moment_text e.microframe e.frame_index ++ happening_text e.happening ++ below_text works passed ++ 10 ∷ []
