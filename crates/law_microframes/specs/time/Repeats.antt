-- What a translator tells of an interrupt transaction, and what a host makes of it: of all that it can hear at a complete-split only silence,
-- or what no translator says, has it make the complete-split again at once (EHCI 1.0, 4.12.2.4.2; USB 2.0, 8.5.4, 11.20 and 11.21).
--     is_told inward pid      a device answers an IN, or an OUT, with this handshake
--     is_said inward reply    so says a device to the classic transaction: data with a toggle, or a handshake; or it is silent
--     is_split_word inward reply    so says its translator to a complete-split: NYET, ERR, or what the device said
--     IsSaidTo inward e       the entry is of an interrupt endpoint, and what was made of it is what a device says
--     asks_again ask sent last reply host    after this reply the split still waits, and its errors are left: it is asked again at once
--     TranslatorsSayWords     what the translator tells of such an entry is such a word
--     WordsEndVisits          after such a word the host doesn't ask again at once
--     SilenceAsksAgain        after silence it does, while an error is left
use Rattle.std.specs.Prelude.{◌≡◌, ℕ, Bool, true, false, ◌&&◌, ◌==◌, if◌then◌else◌}
use Rattle.usb_base.specs.declared.packets.Ask.{Ask}
use Rattle.usb_base.specs.declared.packets.EpKind.TheVariants.{Interrupt}
use Rattle.usb_base.specs.declared.packets.Pid.{Pid}
use Rattle.usb_base.specs.declared.packets.Pid.TheVariants as pids
use Rattle.usb_base.specs.declared.packets.Reply.{Reply}
use Rattle.usb_base.specs.declared.packets.Reply.TheVariants.{Silent, Bytes, Hand}
use Rattle.usb_base.specs.declared.packets.Split.TheVariants.{Complete}
use Rattle.toggle_error.specs.declared.host.HostSide.{HostSide}
use Rattle.toggle_error.specs.Settle.{outcome_of, settled}
use Rattle.hc_interrupt.specs.Copies.{failed}
use Rattle.tt_pipeline.specs.declared.entry.Entry.{Entry}
use Rattle.tt_pipeline.specs.declared.entry.Exchange.{Exchange}
use Rattle.tt_pipeline.specs.declared.entry.Exchange.TheVariants.{Ahead, Made}
use Rattle.tt_pipeline.specs.Answers.{answer_of}

-- ---- what is said

abbrev pub is_data : Pid → Bool
is_data pids.Data0 = true
is_data pids.Data1 = true
is_data _ = false

abbrev pub is_told : Bool → Pid → Bool
is_told inward pids.Nak = true
is_told inward pids.Stall = true
is_told false pids.Ack = true
is_told _ _ = false

abbrev pub is_said : Bool → Reply → Bool
is_said inward Silent = true
is_said inward (Bytes pid bytes) = inward && is_data pid
is_said inward (Hand pid) = is_told inward pid

abbrev pub is_split_hand : Bool → Pid → Bool
is_split_hand inward pids.Nyet = true
is_split_hand inward pids.Err = true
is_split_hand inward pid = is_told inward pid

abbrev pub is_split_word : Bool → Reply → Bool
is_split_word inward Silent = false
is_split_word inward (Bytes pid bytes) = inward && is_data pid
is_split_word inward (Hand pid) = is_split_hand inward pid

-- ---- an entry of a translator's pipeline

abbrev pub IsSaidBy : Bool → Exchange → Type 0
IsSaidBy inward (Ahead bytes) = Unit {0}
IsSaidBy inward (Made reply) = is_said inward reply ≡ true

pub record IsSaidTo (inward : Bool) (e : Entry) : Type 0 where
  pub kind : e.ask.kind ≡ Interrupt
  pub said : IsSaidBy inward e.exchange

-- ---- a complete-split at the host

abbrev pub asked_pid : Bool → Pid
asked_pid inward = if inward then pids.In else pids.Out

pub record IsCompleteOf (inward : Bool) (ask : Ask) : Type 0 where
  pub hub : ℕ
  pub port : ℕ
  pub split : ask.split ≡ Complete hub port
  pub kind : ask.kind ≡ Interrupt
  pub pid : ask.pid ≡ asked_pid inward

abbrev pub asks_again : Ask → ℕ → Bool → Reply → HostSide → Bool
asks_again ask sent last reply host = failed (outcome_of ask sent last reply host) && (settled ask sent last reply host).waiting

-- ---- the laws

abbrev pub TranslatorsSayWords : Type 0
TranslatorsSayWords = (inward : Bool) (e : Entry) → IsSaidTo inward e → is_split_word inward (answer_of e) ≡ true

abbrev pub WordsEndVisits : Type 0
WordsEndVisits = (inward : Bool) (ask : Ask) (sent : ℕ) (last : Bool) (reply : Reply) (host : HostSide) → IsCompleteOf inward ask
    → is_split_word inward reply ≡ true → asks_again ask sent last reply host ≡ false

abbrev pub SilenceAsksAgain : Type 0
SilenceAsksAgain = (inward : Bool) (ask : Ask) (sent : ℕ) (last : Bool) (host : HostSide) → IsCompleteOf inward ask → (host.cerr == 1) ≡ false
    → host.waiting ≡ true → asks_again ask sent last Silent host ≡ true
