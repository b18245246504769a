-- What the start-split of an interrupt endpoint finds in the pipeline of its translator (EHCI 1.0, 4.12.2.4; USB 2.0, 11.18): where the
-- pipeline has an entry of its key at all, that came in this microframe, and nothing of it is worked.
--     IsStarting w h          the walk of the frames comes to a start-split of the queue head in hand
--     key_started q           the key of a start-split of this queue head
--     StartsFindNoneWorked    so it is of each script that a text spells: one start comes in a frame, and entries go where it begins
use Rattle.std.specs.Prelude.{◌≡◌, ℕ, ◌==◌, false, List, position, slice_get, Some, None}
use Rattle.std.specs.List.{find}
use Rattle.usb_base.specs.declared.packets.EpKind.TheVariants as kinds
use Rattle.script_types.specs.declared.scripts.Script.{Script}
use Rattle.script_text.specs.Faults.{Spells}
use Rattle.hub_keys.specs.Keys.{direction_of}
use Rattle.hub_keys.specs.declared.key.Key.{Key}
use Rattle.qh_qtd.specs.declared.queue_head.Qh.{Qh}
use Rattle.tt_pipeline.specs.declared.entry.Entry.{Entry}
use Rattle.tt_pipeline.specs.Starting.{has_key}
use Rattle.tt_pipeline.specs.Work.{nothing_brought}
use Rattle.multi_tt.specs.Translators.{Translator, place_of}
use Rattle.hub_class.specs.HubContent.{HubContent}
use Rattle.hc_copy.specs.Planning.{pid_at}
use Rattle.hc_core.specs.declared.controller.MicroframePart.TheVariants.{Periodic}
use Rattle.hc_interrupt.specs.declared.turns.Turn.TheVariants as turns
use Rattle.hc_interrupt.specs.Turns.{turn_of}
use Rattle.periodic_walk.specs.declared.state.Hand.TheVariants as hands
use Rattle.periodic_walk.specs.declared.state.HeldQueue.{HeldQueue}
use Rattle.bus_world.specs.Budgets.{moment}
use Rattle.bus_world.specs.World.{World}

-- below high speed, in Do-Start (4.12.2.4)
pub record IsStarting (w : World) (h : HeldQueue) : Type 0 where
  pub part : w.control.part ≡ Periodic
  pub held : w.control.frame.hand ≡ Some (hands.Queue h)
  pub unsettled : h.copy.settled ≡ None
  pub turn : turn_of w.control.frame.index h.copy.queue_head ≡ turns.Work
  pub below : (h.copy.queue_head.eps == 2) ≡ false
  pub first : h.copy.queue_head.token.split_state ≡ false

abbrev pub key_started : Qh → Key
key_started q = record { addr = q.addr; ep = q.ep; dir = direction_of (pid_at q.token.pid); kind = kinds.Interrupt }

abbrev pub StartsFindNoneWorked : Type 0
StartsFindNoneWorked = (text : List ℕ) (s : Script) → Spells text s → (k : ℕ) (h : HeldQueue) → IsStarting (moment s k).world h
    → (i place : ℕ) (hub : HubContent) (t : Translator) (e : Entry)
    → position (λ x. x.address == h.copy.queue_head.hub) (moment s k).world.bus.hubs ≡ Some i
    → slice_get (moment s k).world.bus.hubs i ≡ Some hub → place_of hub.translators.multi h.copy.queue_head.port ≡ Some place
    → slice_get hub.translators.all place ≡ Some t → find (has_key (key_started h.copy.queue_head)) t.pipeline ≡ Some e
    → e.heard ≡ nothing_brought
