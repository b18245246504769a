-- A keyboard behind a hub at its complete-split, for worked rows.
--     waiting                the world of a keyboard and a disk 25 events and commands after the keyboard was opened, but that FRINDEX
--                            is 1,025, and the overlay of the keyboard's queue head has eight bytes to receive and waits for its
--                            complete-splits (3.6, 4.12.2)
--     waits_in w             then five events of the controller: microframe 2 of frame 128 begins
--     answer_lost            the bus of the script, on which the second packet of the keyboard is lost, the answer to its first
--                            complete-split
--     lost_in, again_in      how many transactions lost a packet in the microframe, and the price of what was made again, after k of them
--     without_hub            the same world without its hub
--     its_start              the ask of its start-split: eight bytes at most, of DATA0
--     pressed                the same world where the translator of the hub has had that since microframe 0, and a key is down
use Rattle.std.specs.Prelude.{ℕ, false, [], ◌∷◌, map, slice_set}
use Rattle.usb_base.specs.declared.packets.Ask.{Ask}
use Rattle.usb_base.specs.declared.packets.DataPart.TheVariants as parts
use Rattle.usb_base.specs.declared.packets.EpKind.TheVariants as kinds
use Rattle.usb_base.specs.declared.packets.Fate.TheVariants.{Lost}
use Rattle.usb_base.specs.declared.packets.Pid.TheVariants as pids
use Rattle.usb_base.specs.declared.packets.Speed.TheVariants as speeds
use Rattle.usb_base.specs.declared.packets.Split.TheVariants as splits
use Rattle.script_types.specs.declared.scripts.Event.TheVariants as events
use Rattle.tt_pipeline.specs.declared.entry.Entry.{Entry}
use Rattle.tt_pipeline.specs.Work.{fresh}
use Rattle.multi_tt.specs.Translators.{Translator}
use Rattle.hub_class.specs.HubContent.{HubContent}
use Rattle.word_mem.specs.Memory.{Mem}
use Rattle.bus_wire.specs.Bus.{Fixed, fixed_of}
use Rattle.bus_world.specs.World.{World}
use Rattle.bus_world.specs.Orders.{OrderedWorld, Events, at_place}
use Rattle.claims_world.specs.Carried.{carried_from}
use Rattle.claims_world.specs.WithinLoad.{repeats_next}
use Rattle.law_world.specs.memory.Samples.{keyboard, keyboard_and_disk, typed_at}
use Rattle.claims_world.specs.Losses.{losses_next}

-- bytes 24 to 27 of the queue head: active, to receive, with three errors left, in Do-Complete
abbrev pub waiting_memory : Mem
waiting_memory = record (typed_at 25).memory { words = slice_set (typed_at 25).memory.words 1046 0x80D82 }

abbrev pub waiting : World
waiting = record (typed_at 25) { registers = record (typed_at 25).registers { frame_index = 1025 }; memory = waiting_memory }

abbrev pub waits_in : World → OrderedWorld
waits_in w = at_place w (Events events.C 5 ∷ [])

abbrev pub answer_lost : Fixed
answer_lost = record (fixed_of keyboard_and_disk) { fates = record { name = keyboard.name; down = false; k = 1; fate = Lost } ∷ [] }

abbrev pub lost_in : Fixed → World → ℕ → ℕ
lost_in fixed w k = carried_from losses_next fixed (waits_in w) 0 k

abbrev pub again_in : Fixed → World → ℕ → ℕ
again_in fixed w k = carried_from repeats_next fixed (waits_in w) 0 k

abbrev pub without_hub : World
without_hub = record waiting { bus = record waiting.bus { hubs = [] } }

abbrev pub its_start : Ask
its_start = record {
  split = splits.Start 9 1 parts.All;
  pid = pids.In;
  addr = 4;
  ep = 1;
  speed = speeds.Full;
  kind = kinds.Interrupt;
  toggle = pids.Data0;
  limit = 8;
}

abbrev pub its_entry : Entry
its_entry = record (fresh its_start [] 0) { before = (fresh its_start [] 0).came }

abbrev pub started : Translator → Translator
started t = record t { pipeline = its_entry ∷ [] }

abbrev pub with_start : HubContent → HubContent
with_start h = record h { translators = record h.translators { all = map started h.translators.all } }

abbrev pub pressed : World
pressed = record waiting { bus = record waiting.bus { hubs = map with_start waiting.bus.hubs } }
