-- The host of a bulk or interrupt OUT endpoint below a hub, the device, and what the hub has of their key (EHCI 1.0, 4.10 and 4.12; USB
-- 2.0, 8.6, 11.17 and 11.18): each transaction of the host, and the work of the hubs where a microframe begins, leaves them as they must
-- stand.
--     its_way kind           how transactions of this kind go: an interrupt's through the pipeline, a bulk endpoint's through a buffer
--     queue_key kind dir q   the key of the endpoint of a queue head; out_key: of an OUT
--     shadow h known next    a device that took all packets of which it was asked: the one that was sent may be on its way
--     OutAt s waiting l      how the line stands, by what the hub has of the key and whether the host waits for its answer: what a host
--                            that doesn't wait left there is of the packet that it sends next, unless it was told
--     IsUntold s             no complete-split was answered with what the hub has
--     FindsNoneTold ..       so it is of whatever its pipeline has of the key
--     IsUnworked ..          no byte-time of it is worked; UnworkedIsUntold: then it wasn't told
--     OutSide ..             host, hub and device stand as they must, where the host knows these bytes to be taken
--     OutHost ..             .. and the packet that was sent is the one that the overlay sends next, or the host has halted
--     OwnOutGoesOn           the host's transactions; a start of a pipeline, which has no handshake, must find nothing that was told
--     OthersLeaveOut         those of all other hosts
--     BeginLeavesOut         the work of the hubs
--     IsTakenBetween ..      a device took these bytes at least, and at most those
--     OutIsTaken             so it is of what the host knows to be taken, and of that with the packet on its way: after the host's end too
use Rattle.std.specs.Prelude.{◌≡◌, ℕ, ◌==◌, Bool, true, false, not, List, [], ◌∷◌, ◌++◌, slice_get, Option, Some, None}
use Rattle.std.specs.List.{concat, find}
use Rattle.usb_base.specs.declared.packets.EpKind.{EpKind}
use Rattle.usb_base.specs.declared.packets.Ask.{Ask}
use Rattle.usb_base.specs.declared.packets.Dir.{Dir}
use Rattle.usb_base.specs.declared.packets.Dir.TheVariants as Directions
use Rattle.usb_base.specs.declared.packets.EpKind.TheVariants as Kinds
use Rattle.usb_base.specs.declared.packets.Reply.{Reply}
use Rattle.hub_keys.specs.Keys.{direction_of}
use Rattle.hub_keys.specs.declared.key.Key.{Key}
use Rattle.tt_pipeline.specs.declared.entry.Entry.{Entry}
use Rattle.tt_pipeline.specs.Starting.{has_key}
use Rattle.tt_pipeline.specs.Work.{nothing_brought}
use Rattle.multi_tt.specs.Translators.{Translator}
use Rattle.hub_class.specs.HubContent.{HubContent}
use Rattle.bus_wire.specs.Bus.{Wired, begin_after}
use Rattle.claims_base.specs.Prefix.{IsPrefix}
use Rattle.claims_report.specs.Streams.{has_stream}
use Rattle.qh_qtd.specs.declared.queue_head.Qh.{Qh}
use Rattle.hc_copy.specs.Planning.{transaction_of}
use Rattle.hc_copy.specs.Transacting.{call_in}
use Rattle.law_structures.specs.lent_structures.Structures.{Structures}
use Rattle.law_ring.specs.Hand.{Copy, Hand, Settled}
use Rattle.law_ring.specs.Effects.{buffer_of, AreSent, settlement_as}
use Rattle.law_ring.specs.Streams.{moved_bytes}
use Rattle.law_ring.specs.OutBus.{Taker}
use Rattle.law_ring.specs.OutPipes.{OutAgrees}
use Rattle.law_devices.specs.scripted_requests.Controls.{transacts_by}
use Rattle.law_translated.specs.Lift.{Way, Buffered, Piped, Slot, Empty, Asked, Hidden, There, Told}
use Rattle.law_translated.specs.OutPipes.{Line, Agrees, Answered, Ask as Sent, Reply as Heard, Is}
use Rattle.law_translated.specs.KeySlots.{KeySlot}
use Rattle.law_translated.specs.KeyEvents.{mapped}
use Rattle.law_below_hubs.specs.Seated.{taker_at}
use Rattle.law_below_hubs.specs.HubsKeys.{HubsHave, AreRightHubs}
use Rattle.law_below_hubs.specs.OutWork.{IsPut, out_asked, out_answer, taker_of_line}
use Rattle.law_below_hubs.specs.Splits.{IsAtHub}

abbrev pub its_way : EpKind → Way
its_way Kinds.Interrupt = Piped
its_way _ = Buffered

abbrev pub queue_key : EpKind → Dir → Qh → Key
queue_key kind dir q = record { addr = q.addr; ep = q.ep; dir = dir; kind = kind }

abbrev pub out_key : EpKind → Qh → Key
out_key kind q = queue_key kind Directions.Out q

-- ---- how they stand

abbrev pub listed : Option (List ℕ) → List (List ℕ)
listed None = []
listed (Some x) = x ∷ []

abbrev pub shadow : Bool → List ℕ → Option (List ℕ) → Taker
shadow h known None = record { taken = known; expects = h }
shadow h known (Some x) = record { taken = known ++ x; expects = not h }

-- A pipeline's answer that comes after the last complete-split is left: the host sends its packet again, and the device drops it.
abbrev pub OutAt : Slot Sent Heard → Bool → Line → Type 0
OutAt Empty waiting l = Agrees l
OutAt (Asked a) waiting l = Is l a × Agrees l
OutAt (Hidden a r) waiting l = Answered l a r
OutAt (There a r) waiting l = Answered l a r
OutAt (Told a r) true l = Answered l a r
OutAt (Told a r) false l = Agrees l

abbrev pub out_slot : KeySlot → Slot Sent Heard
out_slot s = mapped out_asked out_answer s

abbrev pub IsUntold : KeySlot → Type 0
IsUntold (Told a r) = ⊥
IsUntold _ = Unit {0}

abbrev pub FindsNoneTold : Key → ℕ → ℕ → Wired → Type 0
FindsNoneTold k i place w = (s : KeySlot) → HubsHave Piped k i place w.bus.hubs s → IsUntold s

-- of what a translator's pipeline has of the key nothing is worked
abbrev pub IsUnworked : Key → ℕ → ℕ → Wired → Type 0
IsUnworked k i place w = (h : HubContent) (t : Translator) (e : Entry) → slice_get w.bus.hubs i ≡ Some h
    → slice_get h.translators.all place ≡ Some t → find (has_key k) t.pipeline ≡ Some e → e.heard ≡ nothing_brought

abbrev pub UnworkedIsUntold : Type 0
UnworkedIsUntold = (k : Key) (i place : ℕ) (w : Wired) → IsUnworked k i place w → FindsNoneTold k i place w

pub record OutSide (k : Key) (i place : ℕ) (w : Wired) (h waiting : Bool) (known : List ℕ) (next : Option (List ℕ)) : Type 0 where
  pub line : Line
  pub slot : KeySlot
  pub knows : concat line.known ≡ known
  pub sends : line.sends ≡ h
  pub rest : line.rest ≡ listed next
  pub has : HubsHave (its_way k.kind) k i place w.bus.hubs slot
  pub right : AreRightHubs (IsPut k) w.bus.hubs
  pub taker : taker_at w k.addr k.ep ≡ Some (taker_of_line line)
  pub holds : OutAt (out_slot slot) waiting line

pub record OutHost (kind : EpKind) (part : Structures) (hand : Hand) (n : ℕ) (q : Qh) (i place : ℕ) (w : Wired) (h waiting : Bool)
    (known : List ℕ) : Type 0 where
  pub next : Option (List ℕ)
  pub side : OutSide (out_key kind q) i place w h waiting known next
  pub agrees : OutAgrees part hand n q h known (shadow h known next)

-- ---- the host's transactions

-- the queue head works on a qTD of an OUT endpoint below a hub
pub record IsOutBelow (q : Qh) : Type 0 where
  pub below : (q.eps == 2) ≡ false
  pub out : q.token.pid ≡ 0
  pub works : q.token.active ≡ true

abbrev pub OwnOutGoesOn : Type 0
OwnOutGoesOn = (kind : EpKind) (last : Bool) (part : Structures) (hand later : Hand) (n : ℕ) (c : Copy) (q : Qh) (i place : ℕ)
    (w v : Wired) (known out : List ℕ) (reply : Reply) → has_stream kind ≡ true → IsOutBelow q → IsAtHub w.bus.hubs q.hub q.port i place
    → (sent : AreSent part q (transaction_of kind q).bytes out)
    → transacts_by w (call_in (transaction_of kind q) out last).ask (call_in (transaction_of kind q) out last).out reply v
    → later ≡ Settled c (settlement_as kind q out last reply)
    → (kind ≡ Kinds.Interrupt → q.token.split_state ≡ false → FindsNoneTold (out_key kind q) i place w)
    → OutHost kind part hand n q i place w q.token.toggle q.token.split_state known
    → OutHost kind part later n q i place v (settlement_as kind q out last reply).host.toggle
    (settlement_as kind q out last reply).host.waiting
    (known ++ moved_bytes q sent.element (settlement_as kind q out last reply) (buffer_of part sent.element))

-- ---- all other transactions

-- it asks another endpoint, or in the other direction
abbrev pub IsOfOther : Key → Ask → Type 0
IsOfOther k ask = direction_of ask.pid ≡ k.dir → ask.addr ≡ k.addr → ask.ep ≡ k.ep → ⊥

-- requests to a hub among them that clear its buffers
abbrev pub OthersLeaveOut : Type 0
OthersLeaveOut = (k : Key) (i place : ℕ) (w : Wired) (ask : Ask) (out : List ℕ) (reply : Reply) (v : Wired) (h waiting : Bool)
    (known : List ℕ) (next : Option (List ℕ)) → k.dir ≡ Directions.Out → has_stream k.kind ≡ true → IsOfOther k ask
    → transacts_by w ask out reply v → OutSide k i place w h waiting known next → OutSide k i place v h waiting known next

-- ---- where a microframe begins

abbrev pub BeginLeavesOut : Type 0
BeginLeavesOut = (k : Key) (i place frindex : ℕ) (w : Wired) (h waiting : Bool) (known : List ℕ) (next : Option (List ℕ))
    → k.dir ≡ Directions.Out → OutSide k i place w h waiting known next
    → OutSide k i place (record w { bus = begin_after w.fixed frindex w.bus }) h waiting known next

-- ---- what the device took

pub record IsTakenBetween (o : Option Taker) (least most : List ℕ) : Type 0 where
  pub taker : Taker
  pub is : o ≡ Some taker
  pub all_known : IsPrefix least taker.taken
  pub all_sent : IsPrefix taker.taken most

abbrev pub OutIsTaken : Type 0
OutIsTaken = (k : Key) (i place : ℕ) (w : Wired) (h waiting : Bool) (known : List ℕ) (next : Option (List ℕ))
    → OutSide k i place w h waiting known next → IsTakenBetween (taker_at w k.addr k.ep) known (known ++ concat (listed next))
