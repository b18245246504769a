-- What is due of an interrupt endpoint at high speed, told by its transfers (EHCI 1.0, 3.5, 3.6, 4.7 and 4.10.2; USB 2.0, 5.7.4 and 8.6).
--     HasUnfinished fixed b e q
--                                as the microframe begins that left the world b: endpoint e is in the frame list, its queue head in block
--                                q; its placement has the frame, its S-mask the microframe, which isn't held; its queue head isn't halted,
--                                and it goes on; a transfer of it is stored and unfinished; and its device is ready for what comes next
--     UnfinishedIsDue s          as each microframe of the run of a script begins a transaction of it is due then
--     TextsHaveUnfinishedDue     so it is of each script that a text spells
use Rattle.std.specs.Prelude.{◌≡◌, ℕ, ◌*◌, true, false, List, None, Some}
use Rattle.usb_base.specs.declared.packets.Speed.TheVariants.{High}
use Rattle.script_types.specs.declared.scripts.Script.{Script}
use Rattle.script_text.specs.Faults.{Spells}
use Rattle.qh_qtd.specs.declared.queue_head.Qh.{Qh}
use Rattle.mem_queues.specs.Structures.{queue_head_at_address}
use Rattle.bandwidth.specs.declared.placements.Placement.{Placement}
use Rattle.bandwidth.specs.Placements.{has}
use Rattle.bandwidth.specs.Sums.{is_active}
use Rattle.hc_interrupt.specs.Turns.{microframe_of}
use Rattle.bus_wire.specs.Bus.{Fixed, fixed_of}
use Rattle.bus_world.specs.World.{World}
use Rattle.claims_world.specs.Coming.{IsInItsFrames}
use Rattle.claims_world.specs.Due.{ComesTo, CanMove}
use Rattle.claims_world.specs.DueAtBegin.{begun, IsDueAtBegin}
use Rattle.claims_world.specs.Unfinished.{IsUnfinished}
use Rattle.claims_world.specs.Visits.{frame_in, is_held_now}

pub record HasUnfinished (fixed : Fixed) (b : World) (e q : ℕ) : Type 0 where
  pub placement : Placement
  pub there : IsInItsFrames b.driver e q placement
  pub active : is_active placement (frame_in b.control.frame.index) ≡ true
  pub high : there.endpoint.desc.speed ≡ High
  pub bit : has placement.smask (microframe_of b.control.frame.index) ≡ true
  pub free : is_held_now fixed b ≡ false
  pub queue : Qh
  pub read : queue_head_at_address b.memory (32 * q) ≡ Some queue
  pub unhalted : queue.token.halted ≡ false
  pub goes_on : there.endpoint.ended ≡ None
  pub unfinished : IsUnfinished b.driver b.memory e
  pub ready : (v : Qh) → ComesTo b.memory queue v → CanMove fixed b.bus there.endpoint.desc.name v

abbrev pub UnfinishedIsDue : Script → Type 0
UnfinishedIsDue s = (k e q : ℕ) → HasUnfinished (fixed_of s) (begun s k) e q → IsDueAtBegin (fixed_of s) (begun s k) e q

abbrev pub TextsHaveUnfinishedDue : Type 0
TextsHaveUnfinishedDue = (text : List ℕ) (s : Script) → Spells text s → UnfinishedIsDue s
