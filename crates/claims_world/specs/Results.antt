-- A result that a translator has for the host is taken (EHCI 1.0, 4.10.3 and 4.12.2.4.2; USB 2.0, 8.6, 11.18.4 and 11.20): where a
-- complete-split of an interrupt endpoint below a hub is due as a microframe begins, the host hears what the translator has for it then.
--     NextAreHeard fixed name n k    none of so many packets of the endpoint on the high-speed bus is lost or damaged, from number n on
--     IsNextHeard fixed b x          neither the next complete-split of endpoint x is lost, nor its answer
--     HasAnswer fixed b x reply      nor is it, and the translator of the hub and port of endpoint x answers it so
--     HasEntry b x entry             this is the entry of endpoint x in the pipeline of its translator, of which the whole start-split is
--                                    worked
--     MovesBy q way reply n          this answer moves n bytes of the queue head q: data with its toggle that it has room for, or an
--                                    acknowledgement of the bytes that its start-split sent
--     IsAnswerDue fixed b e q        a complete-split of endpoint e is due as the microframe begins that left the world b, and its
--                                    translator has an answer
--     IsResultDue fixed b e q        .. which moves bytes
--     IsLastIn mask u                u is the last microframe of this mask
--     IsLastDue fixed b e q          the last complete-split of its frame is due so, and the endpoint has its entry
--     IsAnswered n reply m           the transaction m is that of the queue head at n, in which the host heard this
--     IsToldBy n entry m             .. in which it heard what the device answered: its transaction is made
--     IsTaken q n moved m            .. it moved so many bytes of the queue head q: so many fewer are left, the toggle is the other one,
--                                    and a start-split comes next
--     AnswersAreHeard s, ResultsAreTaken s, LastAnswersAreThere s
--                                    at each moment of the run of a script at which the walk of the frames is over: so it was in this
--                                    microframe, and the queue head was written back, unless the endpoint was cancelled since, where no
--                                    more than 4 microseconds went for complete-splits that were made again
--     KeepsAnswers s                 all of this
use Rattle.std.specs.Prelude.{◌≡◌, ℕ, ◌-◌, ◌*◌, ◌≤◌, ◌<◌, not, true, false, List, length, slice_get, Some}
use Rattle.std.specs.List.{find}
use Rattle.usb_base.specs.declared.endpoints.EpDesc.{EpDesc}
use Rattle.usb_base.specs.declared.endpoints.EpName.{EpName}
use Rattle.usb_base.specs.declared.packets.EpKind.TheVariants.{Interrupt}
use Rattle.usb_base.specs.declared.packets.Pid.TheVariants.{Ack}
use Rattle.usb_base.specs.declared.packets.Reply.{Reply}
use Rattle.usb_base.specs.declared.packets.Reply.TheVariants.{Bytes, Hand}
use Rattle.usb_base.specs.declared.packets.Way.{Way}
use Rattle.usb_base.specs.declared.packets.Way.TheVariants as ways
use Rattle.script_types.specs.declared.scripts.Script.{Script}
use Rattle.bandwidth.specs.Placements.{has}
use Rattle.qh_qtd.specs.declared.queue_head.Qh.{Qh}
use Rattle.toggle_error.specs.declared.host.Outcome.TheVariants.{Moved}
use Rattle.toggle_error.specs.Columns.{expected_pid}
use Rattle.tt_pipeline.specs.declared.entry.Entry.{Entry}
use Rattle.tt_pipeline.specs.declared.entry.Exchange.TheVariants.{Made}
use Rattle.tt_pipeline.specs.Answers.{complete_answer, result_of}
use Rattle.tt_pipeline.specs.Starting.{has_key}
use Rattle.hc_interrupt.specs.Turns.{microframe_of}
use Rattle.bus_wire.specs.declared.seats.Seat.{Seat}
use Rattle.bus_wire.specs.Bus.{Bus, Fixed, fixed_of}
use Rattle.bus_wire.specs.Fates.{is_unheard}
use Rattle.bus_wire.specs.Seats.{place_for}
use Rattle.bus_wire.specs.WhoHeard.{later}
use Rattle.bus_world.specs.Budgets.{moment}
use Rattle.bus_world.specs.World.{World}
use Rattle.claims_world.specs.Due.{token_by}
use Rattle.claims_world.specs.DueAtBegin.{begun, IsUncancelled}
use Rattle.claims_world.specs.Prices.{left_bytes}
use Rattle.claims_world.specs.QueuesMade.{QueueMade, queues_made, HasMade}
use Rattle.claims_world.specs.SplitsAtBegin.{IsCompleteDue}
use Rattle.claims_world.specs.Visits.{IsPastFrames}
use Rattle.claims_world.specs.WithinLoad.{repeats}
use Rattle.claims_world.specs.Behind.{key_for, pipeline_for}

-- ---- what the translator has

abbrev pub NextAreHeard : Fixed → EpName → ℕ → ℕ → Type 0
NextAreHeard fixed name n k = (i : ℕ) → i < k → is_unheard fixed.fates name false (later n i) ≡ false

pub record IsNextHeard (fixed : Fixed) (b : Bus) (x : EpDesc) : Type 0 where
  pub place : ℕ
  pub asked : place_for fixed.seats x.name.addr x.name.num (token_by x.name.way) ≡ Some place
  pub seat : Seat
  pub seated : slice_get fixed.seats place ≡ Some seat
  pub named : seat.name ≡ x.name
  pub packet : ℕ
  pub next : slice_get b.high place ≡ Some packet
  pub none_lost : NextAreHeard fixed x.name packet 2

pub record HasAnswer (fixed : Fixed) (b : Bus) (x : EpDesc) (reply : Reply) : Type 0 where
  pub hub : ℕ
  pub behind : x.hub ≡ Some hub
  pub answer : complete_answer (key_for x) (pipeline_for b.hubs hub x.port) ≡ reply
  pub heard : IsNextHeard fixed b x

pub record HasEntry (b : Bus) (x : EpDesc) (entry : Entry) : Type 0 where
  pub hub : ℕ
  pub behind : x.hub ≡ Some hub
  pub there : find (has_key (key_for x)) (pipeline_for b.hubs hub x.port) ≡ Some entry
  pub kind : entry.ask.kind ≡ Interrupt
  pub whole : entry.heard.whole ≡ true

-- an acknowledgement is of as many bytes as an OUT sends
pub data MovesBy (q : Qh) : Way → Reply → ℕ → Type 0 where
  by_data : (bytes : List ℕ) → length bytes ≤ left_bytes q
      → MovesBy q ways.In (Bytes (expected_pid q.token.toggle) bytes) (length bytes)
  by_ack : MovesBy q ways.Out (Hand Ack) (left_bytes q)

-- ---- due

pub record IsAnswerDue (fixed : Fixed) (b : World) (e q : ℕ) : Type 0 where
  pub complete : IsCompleteDue fixed b e q
  pub reply : Reply
  pub has : HasAnswer fixed b.bus complete.split.there.endpoint.desc reply

pub record IsResultDue (fixed : Fixed) (b : World) (e q : ℕ) : Type 0 where
  pub due : IsAnswerDue fixed b e q
  pub bytes : ℕ
  pub moves : MovesBy due.complete.split.queue due.complete.split.there.endpoint.desc.name.way due.reply bytes

pub record IsLastIn (mask u : ℕ) : Type 0 where
  pub low : u < 8
  pub here : has mask u ≡ true
  pub none : (v : ℕ) → u < v → v < 8 → has mask v ≡ false

pub record IsLastDue (fixed : Fixed) (b : World) (e q : ℕ) : Type 0 where
  pub complete : IsCompleteDue fixed b e q
  pub last : IsLastIn complete.split.placement.cmask (microframe_of b.registers.frame_index)
  pub entry : Entry
  pub has : HasEntry b.bus complete.split.there.endpoint.desc entry
  pub heard : IsNextHeard fixed b.bus complete.split.there.endpoint.desc

-- ---- done

pub record IsAnswered (n : ℕ) (reply : Reply) (m : QueueMade) : Type 0 where
  pub at : m.at ≡ n
  pub heard : m.heard ≡ reply

pub record IsToldBy (n : ℕ) (entry : Entry) (m : QueueMade) : Type 0 where
  pub reply : Reply
  pub made : entry.exchange ≡ Made reply
  pub answered : IsAnswered n (result_of reply) m

pub record IsTaken (q : Qh) (n bytes : ℕ) (m : QueueMade) : Type 0 where
  pub at : m.at ≡ n
  pub outcome : m.outcome ≡ Moved bytes
  pub left : m.queue.token.total ≡ q.token.total - bytes
  pub toggle : m.queue.token.toggle ≡ not q.token.toggle
  pub starts : m.queue.token.split_state ≡ false

-- ---- at each moment

abbrev pub AnswersAreHeard : Script → Type 0
AnswersAreHeard s = (k e q : ℕ) → IsPastFrames (moment s k).world → repeats s k ≤ 4000000
    → (due : IsAnswerDue (fixed_of s) (begun s k) e q) → IsUncancelled (moment s k).world.driver e
    → HasMade (IsAnswered (32 * q) due.reply) (queues_made s k)

abbrev pub ResultsAreTaken : Script → Type 0
ResultsAreTaken s = (k e q : ℕ) → IsPastFrames (moment s k).world → repeats s k ≤ 4000000
    → (due : IsResultDue (fixed_of s) (begun s k) e q) → IsUncancelled (moment s k).world.driver e
    → HasMade (IsTaken due.due.complete.split.queue (32 * q) due.bytes) (queues_made s k)

-- so the last complete-split of a frame is never answered NYET where the start-split came
abbrev pub LastAnswersAreThere : Script → Type 0
LastAnswersAreThere s = (k e q : ℕ) → IsPastFrames (moment s k).world → repeats s k ≤ 4000000
    → (due : IsLastDue (fixed_of s) (begun s k) e q) → IsUncancelled (moment s k).world.driver e
    → HasMade (IsToldBy (32 * q) due.entry) (queues_made s k)

pub record KeepsAnswers (s : Script) : Type 0 where
  pub answers : AnswersAreHeard s
  pub results : ResultsAreTaken s
  pub last : LastAnswersAreThere s
