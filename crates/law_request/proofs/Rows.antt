-- The device's rows that leave both sides as they stand, and the stage at which a token finds it.
use Rattle.std.proofs.Common.{◌≡◌, ℕ, ◌-◌, ◌==◌, Bool, true, false, if◌then◌else◌, List, length, Option, Some, None, refl, sym, subst}
use Rattle.std.proofs.Math.Bool.{false≢true}
use Rattle.std.specs.Prelude.{nat_lt}
use Rattle.usb_base.specs.declared.packets.Pid.TheVariants as Pids
use Rattle.usb_base.specs.declared.packets.Reply.TheVariants.{Silent, Hand}
use Rattle.dev_control.specs.declared.control.Request.{Request as UnderWay}
use Rattle.dev_control.specs.declared.rows.Stage.{Stage as DeviceStage}
use Rattle.dev_control.specs.declared.rows.Stage.TheVariants.{Refusing, Reading, AllRead, Writing, AllWritten, NoData}
use Rattle.dev_control.specs.declared.rows.StageRow.{StageRow}
use Rattle.dev_control.specs.declared.rows.StageRow.TheVariants.{Naks, Stalls, HasRoom, Ignores}
use Rattle.dev_control.specs.Stages.{Stages, is_read, wanted_of, sent_of, has_packet, stage_at, stage_of, acked_with, ping_row}
use Rattle.transactions.specs.Calls.{Call}
use Rattle.claims_report.specs.Requests.{Request}
use Rattle.law_request.specs.Host.{Endpoint, Host, heard_by}
use Rattle.law_request.specs.Line.{reply_under, acked}
use Rattle.law_request.specs.Standing.{Stands, under_way}
use Rattle.law_request.proofs.Hearing.{line, IsKept, IsQuiet, stands_quiet}

-- ---- rows

pub ignores_kept : (e : Endpoint) (r : Request) (call : Call) (h : Host) (c : Stages) (a : List (List ℕ)) → Stands e r (line h c a)
    → IsQuiet h (heard_by r call Silent h) → IsKept e r call h c a Ignores
ignores_kept e r call h c a s silent = record {
  unheard = stands_quiet e r h _ c a silent s;
  heard = stands_quiet e r h _ c a silent s;
  told = λ k. absurd (false≢true k);
}

pub naks_kept : (e : Endpoint) (r : Request) (call : Call) (h : Host) (c : Stages) (a : List (List ℕ)) → Stands e r (line h c a)
    → IsQuiet h (heard_by r call Silent h) → IsQuiet h (heard_by r call (Hand Pids.Nak) h) → IsKept e r call h c a Naks
naks_kept e r call h c a s silent nak =
    let t : Stands e r (line h (record c { naks = c.naks - 1 }) a) = record { host_max = s.host_max; device_max = s.device_max; stage = s.stage } in
    record {
      unheard = stands_quiet e r h _ (record c { naks = c.naks - 1 }) a silent t;
      heard = stands_quiet e r h _ (record c { naks = c.naks - 1 }) a nak t;
      told = λ k. absurd (false≢true k);
    }

pub stalls_kept : (e : Endpoint) (r : Request) (call : Call) (h : Host) (c : Stages) (a : List (List ℕ)) → Stands e r (line h c a)
    → IsQuiet h (heard_by r call Silent h) → IsQuiet h (heard_by r call (Hand Pids.Stall) h) → IsKept e r call h c a Stalls
stalls_kept e r call h c a s silent stall = record {
  unheard = stands_quiet e r h _ c a silent s;
  heard = stands_quiet e r h _ c a stall s;
  told = λ k. absurd (false≢true k);
}

pub room_kept : (e : Endpoint) (r : Request) (call : Call) (h : Host) (c : Stages) (a : List (List ℕ)) → Stands e r (line h c a)
    → IsQuiet h (heard_by r call Silent h) → IsQuiet h (heard_by r call (Hand Pids.Ack) h) → IsKept e r call h c a HasRoom
room_kept e r call h c a s silent room = record {
  unheard = stands_quiet e r h _ c a silent s;
  heard = stands_quiet e r h _ c a room s;
  told = λ k. absurd (false≢true k);
}

pub unless_kept : (e : Endpoint) (r : Request) (call : Call) (h : Host) (c : Stages) (a : List (List ℕ)) (none : Bool) (row : StageRow)
    → IsKept e r call h c a Naks → IsKept e r call h c a row → IsKept e r call h c a (if none then row else Naks)
unless_kept e r call h c a true row naks kept = kept
unless_kept e r call h c a false row naks kept = naks

pub ping_kept : (e : Endpoint) (r : Request) (call : Call) (h : Host) (c : Stages) (a : List (List ℕ)) (stage : DeviceStage)
    → IsKept e r call h c a Stalls → IsKept e r call h c a HasRoom → IsKept e r call h c a (ping_row stage)
ping_kept e r call h c a Refusing stalls room = stalls
ping_kept e r call h c a _ stalls room = room

-- ---- the stage of the device

-- the stage of a request that it has a reply to or not, with a wLength of 0 or not, and that is a read or a write
pub data IsStage (known : Option (List ℕ)) (empty read : Bool) : DeviceStage → Type 0 where
  IsRefusing : IsStage known empty read Refusing
  IsNoData : empty ≡ true → IsStage known empty read NoData
  IsReading : (reply : List ℕ) → known ≡ Some reply → empty ≡ false → read ≡ true → IsStage known empty read Reading
  IsAllRead : empty ≡ false → read ≡ true → IsStage known empty read AllRead
  IsWriting : empty ≡ false → read ≡ false → IsStage known empty read Writing
  IsAllWritten : empty ≡ false → read ≡ false → IsStage known empty read AllWritten

read_is : (known : Option (List ℕ)) (reply : List ℕ) (empty read more : Bool) → known ≡ Some reply → empty ≡ false → read ≡ true
    → IsStage known empty read (if more then Reading else AllRead)
read_is known reply empty read true k h i = IsReading reply k h i
read_is known reply empty read false k h i = IsAllRead h i

write_is : (known : Option (List ℕ)) (empty read more : Bool) → empty ≡ false → read ≡ false → IsStage known empty read (if more then Writing else AllWritten)
write_is known empty read true h i = IsWriting h i
write_is known empty read false h i = IsAllWritten h i

data_is : (known : Option (List ℕ)) (reply : List ℕ) (empty read b more less : Bool) → known ≡ Some reply → empty ≡ false → read ≡ b
    → IsStage known empty read (if b then (if more then Reading else AllRead) else (if less then Writing else AllWritten))
data_is known reply empty read true more less k h i = read_is known reply empty read more k h i
data_is known reply empty read false more less k h i = write_is known empty read less h i

with_is : (known : Option (List ℕ)) (reply : List ℕ) (empty read b more less : Bool) → known ≡ Some reply → empty ≡ b
    → IsStage known empty read (if b then NoData else (if read then (if more then Reading else AllRead) else (if less then Writing else AllWritten)))
with_is known reply empty read true more less k h = IsNoData h
with_is known reply empty read false more less k h = data_is known reply empty read read more less k h refl

at_is : (known : Option (List ℕ)) (u : UnderWay) → IsStage known (wanted_of u.setup == 0) (is_read u.setup) (stage_at known (Some u))
at_is None u = IsRefusing
at_is (Some reply) u =
    with_is (Some reply) reply (wanted_of u.setup == 0) (is_read u.setup) (wanted_of u.setup == 0)
    (has_packet (wanted_of u.setup) (length (sent_of u.setup reply)) u.moved) (nat_lt u.moved (wanted_of u.setup)) refl refl

-- the stage of a device that has this request under way
pub device_stage : (e : Endpoint) (r : Request) (c : Stages) (at : ℕ) (turn done : Bool) → c.request ≡ under_way r at turn done
    → IsStage (e.known r.setup) (wanted_of r.setup == 0) (is_read r.setup) (stage_of (reply_under e.known c.request) c)
device_stage e r c at turn done under =
    subst (λ q. IsStage (e.known r.setup) (wanted_of r.setup == 0) (is_read r.setup) (stage_at (reply_under e.known q) q)) (sym under)
    (at_is (e.known r.setup) (record { setup = r.setup; moved = at; toggle = turn; done = done }))

-- the maximum packet size stays
acked_max_with : (stage : DeviceStage) (q : Option UnderWay) (c : Stages) → (acked_with stage q c).max ≡ c.max
acked_max_with Reading (Some u) c = refl
acked_max_with Reading None c = refl
acked_max_with Refusing q c = refl
acked_max_with AllRead q c = refl
acked_max_with Writing q c = refl
acked_max_with AllWritten q c = refl
acked_max_with NoData q c = refl

pub acked_max : (e : Endpoint) (c : Stages) → (acked e c).max ≡ c.max
acked_max e c = acked_max_with (stage_of (reply_under e.known c.request) c) c.request c
