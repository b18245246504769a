-- The host of a bulk or interrupt IN endpoint below a hub, the device, and what the hub has of their key (EHCI 1.0, 4.10 and 4.12; USB
-- 2.0, 8.6, 11.17 and 11.18): each transaction of the host, and the work of the hubs where a microframe begins, leaves them as they must
-- stand.
--     IsWait waiting u       whether the host waits, by its split state; what it waits for may be gone from the hub
--     IsTimely kind timely u      .. but not where the host of an interrupt endpoint is in time: no frame began while it waited
--     InSide ..              host, hub and device stand as they must, where these bytes came
--     IsOver s               no answer is to come of what the hub has; FindsNoneToCome: so it is of whatever its pipeline has of the key
--     IsResult e             something of the entry is worked, and where its start came whole its result is there
--     HasResult ..           so it is of what a translator's pipeline has of the key; ResultIsOver: then no answer is to come
--     IsInTime ..            a start of a pipeline, which has no handshake, finds nothing that was told; at the last complete-split of a
--                            frame the host is in time, and no answer is to come
--     OwnInGoesOn            the host's transactions
--     OthersLeaveIn          those of all other hosts, but for requests to a hub that clear its buffers
--     begun_timely ..        whether the host is in time once a microframe began: a frame's answers go where the next one begins
--     BeginLeavesIn          the work of the hubs
--     RestedIsTimely, HaltedIsTimely     a host that doesn't wait, or has halted, is in time
--     InBegins               what came begins the device's packets
use Rattle.std.specs.Prelude.{◌≡◌, ◌≢◌, ℕ, ◌%◌, ◌==◌, Bool, true, false, not, List, ◌++◌, slice_get, Some, if◌then◌else◌}
use Rattle.std.specs.List.{concat, find}
use Rattle.usb_base.specs.declared.packets.Ask.{Ask}
use Rattle.usb_base.specs.declared.packets.Dir.TheVariants as Directions
use Rattle.usb_base.specs.declared.packets.EpKind.{EpKind}
use Rattle.usb_base.specs.declared.packets.EpKind.TheVariants as Kinds
use Rattle.usb_base.specs.declared.packets.Reply.{Reply}
use Rattle.usb_base.specs.declared.packets.Split.TheVariants.{Plain}
use Rattle.hub_keys.specs.declared.key.Key.{Key}
use Rattle.tt_pipeline.specs.declared.entry.Entry.{Entry}
use Rattle.tt_pipeline.specs.declared.rows.AnswerRow.TheVariants.{Result}
use Rattle.tt_pipeline.specs.Answers.{answer_row}
use Rattle.tt_pipeline.specs.Starting.{has_key}
use Rattle.tt_pipeline.specs.Work.{nothing_brought}
use Rattle.multi_tt.specs.Translators.{Translator}
use Rattle.hub_class.specs.HubContent.{HubContent}
use Rattle.bus_wire.specs.Bus.{Wired, begin_after}
use Rattle.claims_base.specs.Prefix.{IsPrefix}
use Rattle.claims_report.specs.Streams.{has_stream}
use Rattle.qh_qtd.specs.declared.queue_head.Qh.{Qh}
use Rattle.hc_copy.specs.Planning.{transaction_of}
use Rattle.hc_copy.specs.Transacting.{call_in}
use Rattle.law_structures.specs.lent_structures.Structures.{Structures}
use Rattle.law_ring.specs.Effects.{buffer_of, AreSent, settlement_as}
use Rattle.law_ring.specs.Streams.{moved_bytes}
use Rattle.law_devices.specs.scripted_requests.Controls.{transacts_by}
use Rattle.law_translated.specs.Lift.{Piped, Wait, Empty, Asked, Hidden, Holds, Idle, Waits, Late}
use Rattle.law_translated.specs.InPipes.{Line, in_halves, in_claims, InSplit}
use Rattle.law_translated.specs.KeySlots.{KeySlot}
use Rattle.law_translated.specs.KeyEvents.{with_slot}
use Rattle.law_below_hubs.specs.Seated.{sender_at}
use Rattle.law_below_hubs.specs.HubsKeys.{HubsHave, IsOfKind, AreRightHubs}
use Rattle.law_below_hubs.specs.HostOuts.{its_way, queue_key, FindsNoneTold, IsOfOther}
use Rattle.law_below_hubs.specs.InWork.{in_asked, in_answer, sender_of_line}
use Rattle.law_below_hubs.specs.Splits.{IsAtHub}

abbrev pub in_key : EpKind → Qh → Key
in_key kind q = queue_key kind Directions.In q

-- ---- how they stand

-- Do-Start, or Do-Complete (EHCI 1.0, 4.12)
pub data IsWait : Bool → Wait → Type 0 where
  starts : IsWait false Idle
  completes : IsWait true Waits
  too_late : IsWait true Late

-- a buffer's answer may go whenever another key takes the buffer
abbrev pub IsTimely : EpKind → Bool → Wait → Type 0
IsTimely kind timely u = kind ≡ Kinds.Interrupt → timely ≡ true → u ≢ Late

abbrev pub in_split : Line → Wait → KeySlot → InSplit
in_split l u s = with_slot in_halves in_asked in_answer l u s Empty

-- `going`: the host hasn't halted
pub record InSide (packets : List (List ℕ)) (k : Key) (i place : ℕ) (w : Wired) (h waiting going timely : Bool) (known : List ℕ)
    : Type 0 where
  pub line : Line
  pub wait : Wait
  pub slot : KeySlot
  pub is_wait : IsWait waiting wait
  pub in_time : IsTimely k.kind timely wait
  pub knows : concat line.accepted ≡ known
  pub expects : line.expects ≡ h
  pub goes : going ≡ true → line.going ≡ true
  pub has : HubsHave (its_way k.kind) k i place w.bus.hubs slot
  pub right : AreRightHubs (IsOfKind k) w.bus.hubs
  pub sender : sender_at w k.addr k.ep ≡ Some (sender_of_line line)
  pub holds : Holds in_halves (in_claims packets) (its_way k.kind) (in_split line wait slot)

-- ---- what is there at the last complete-split of a frame

abbrev pub IsOver : KeySlot → Type 0
IsOver (Asked a) = ⊥
IsOver (Hidden a r) = ⊥
IsOver _ = Unit {0}

abbrev pub FindsNoneToCome : Key → ℕ → ℕ → Wired → Type 0
FindsNoneToCome k i place w = (s : KeySlot) → HubsHave Piped k i place w.bus.hubs s → IsOver s

pub record IsResult (e : Entry) : Type 0 where
  pub worked : e.heard ≡ nothing_brought → ⊥
  pub there : e.ask.kind ≡ Kinds.Interrupt → e.heard.whole ≡ true → answer_row e ≡ Result

abbrev pub HasResult : Key → ℕ → ℕ → Wired → Type 0
HasResult k i place w = (h : HubContent) (t : Translator) (e : Entry) → slice_get w.bus.hubs i ≡ Some h
    → slice_get h.translators.all place ≡ Some t → find (has_key k) t.pipeline ≡ Some e → IsResult e

abbrev pub ResultIsOver : Type 0
ResultIsOver = (k : Key) (i place : ℕ) (w : Wired) → HasResult k i place w → FindsNoneToCome k i place w

-- of a queue head of an interrupt endpoint below high speed, by its split state
pub record IsInTime (k : Key) (i place : ℕ) (w : Wired) (waits last timely : Bool) : Type 0 where
  pub starts : waits ≡ false → FindsNoneTold k i place w
  pub completes : waits ≡ true → last ≡ true → timely ≡ true
  pub over : waits ≡ true → last ≡ true → FindsNoneToCome k i place w

-- ---- the host's transactions

-- the queue head works on a qTD of an IN endpoint below a hub
pub record IsInBelow (q : Qh) : Type 0 where
  pub below : (q.eps == 2) ≡ false
  pub inward : q.token.pid ≡ 1
  pub goes_on : q.token.halted ≡ false

abbrev pub OwnInGoesOn : Type 0
OwnInGoesOn = (kind : EpKind) (last : Bool) (packets : List (List ℕ)) (part : Structures) (q : Qh) (i place : ℕ) (w v : Wired)
    (timely : Bool) (known out : List ℕ) (reply : Reply) → has_stream kind ≡ true → IsInBelow q → IsAtHub w.bus.hubs q.hub q.port i place
    → (sent : AreSent part q (transaction_of kind q).bytes out)
    → transacts_by w (call_in (transaction_of kind q) out last).ask (call_in (transaction_of kind q) out last).out reply v
    → (kind ≡ Kinds.Interrupt → IsInTime (in_key kind q) i place w q.token.split_state last timely)
    → InSide packets (in_key kind q) i place w q.token.toggle q.token.split_state (not q.token.halted) timely known
    → InSide packets (in_key kind q) i place v (settlement_as kind q out last reply).host.toggle
    (settlement_as kind q out last reply).host.waiting (not (settlement_as kind q out last reply).host.halted) timely
    (known ++ moved_bytes q sent.element (settlement_as kind q out last reply) (buffer_of part sent.element))

-- ---- all other transactions

-- it is no request that takes the key from a hub
abbrev pub SparesKey : Key → ℕ → ℕ → Wired → Ask → Wired → Type 0
SparesKey k i place w ask v = ask.split ≡ Plain → (s : KeySlot) → HubsHave (its_way k.kind) k i place w.bus.hubs s
    → HubsHave (its_way k.kind) k i place v.bus.hubs s

abbrev pub OthersLeaveIn : Type 0
OthersLeaveIn = (packets : List (List ℕ)) (k : Key) (i place : ℕ) (w : Wired) (ask : Ask) (out : List ℕ) (reply : Reply) (v : Wired)
    (h waiting going timely : Bool) (known : List ℕ) → k.dir ≡ Directions.In → has_stream k.kind ≡ true → IsOfOther k ask
    → SparesKey k i place w ask v
    → transacts_by w ask out reply v → InSide packets k i place w h waiting going timely known
    → InSide packets k i place v h waiting going timely known

-- ---- where a microframe begins

abbrev pub begun_timely : ℕ → Bool → Bool → Bool
begun_timely frindex waiting timely = if frindex % 8 == 0 then not waiting else timely

abbrev pub BeginLeavesIn : Type 0
BeginLeavesIn = (packets : List (List ℕ)) (k : Key) (i place frindex : ℕ) (w : Wired) (h waiting going timely : Bool) (known : List ℕ)
    → k.dir ≡ Directions.In → has_stream k.kind ≡ true → InSide packets k i place w h waiting going timely known
    → InSide packets k i place (record w { bus = begin_after w.fixed frindex w.bus }) h waiting going (begun_timely frindex waiting timely)
    known

-- ---- who is in time

abbrev pub RestedIsTimely : Type 0
RestedIsTimely = (packets : List (List ℕ)) (k : Key) (i place : ℕ) (w : Wired) (h going timely later : Bool) (known : List ℕ)
    → InSide packets k i place w h false going timely known → InSide packets k i place w h false going later known

abbrev pub HaltedIsTimely : Type 0
HaltedIsTimely = (packets : List (List ℕ)) (k : Key) (i place : ℕ) (w : Wired) (h waiting timely later : Bool) (known : List ℕ)
    → InSide packets k i place w h waiting false timely known → InSide packets k i place w h waiting false later known

-- ---- what came

abbrev pub InBegins : Type 0
InBegins = (packets : List (List ℕ)) (k : Key) (i place : ℕ) (w : Wired) (h waiting going timely : Bool) (known : List ℕ)
    → InSide packets k i place w h waiting going timely known → IsPrefix known (concat packets)
