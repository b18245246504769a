-- Which packets of a transaction were sent, and which of them the host heard (USB 2.0, 8.5).
--     sends_data split pid     the host sends data right behind the token: not behind that of a complete-split
--     has_answer row           a packet came in answer
--     is_heard row             the host heard it
--     is_acknowledged row      the host sent an acknowledgement
use Rattle.std.specs.Prelude.{Bool, true, false}
use Rattle.usb_base.specs.declared.packets.Pid.{Pid}
use Rattle.usb_base.specs.declared.packets.Pid.TheVariants as pids
use Rattle.usb_base.specs.declared.packets.Split.{Split}
use Rattle.usb_base.specs.declared.packets.Split.TheVariants as splits
use Rattle.bus_wire.specs.declared.who_heard.WhoHeard.{WhoHeard}
use Rattle.bus_wire.specs.declared.who_heard.WhoHeard.TheVariants as rows

abbrev pub is_sending : Pid → Bool
is_sending pids.Out = true
is_sending pids.Setup = true
is_sending _ = false

abbrev pub sends_data : Split → Pid → Bool
sends_data splits.Plain pid = is_sending pid
sends_data (splits.Start hub port part) pid = is_sending pid
sends_data (splits.Complete hub port) pid = false

abbrev pub has_answer : WhoHeard → Bool
has_answer rows.SentUnheard = false
has_answer rows.NoAnswer = false
has_answer rows.AnswerUnheard = true
has_answer rows.AnswerHeard = true
has_answer rows.AckUnheard = true
has_answer rows.AckHeard = true

abbrev pub is_heard : WhoHeard → Bool
is_heard rows.SentUnheard = false
is_heard rows.NoAnswer = false
is_heard rows.AnswerUnheard = false
is_heard rows.AnswerHeard = true
is_heard rows.AckUnheard = true
is_heard rows.AckHeard = true

abbrev pub is_acknowledged : WhoHeard → Bool
is_acknowledged rows.SentUnheard = false
is_acknowledged rows.NoAnswer = false
is_acknowledged rows.AnswerUnheard = false
is_acknowledged rows.AnswerHeard = false
is_acknowledged rows.AckUnheard = true
is_acknowledged rows.AckHeard = true
