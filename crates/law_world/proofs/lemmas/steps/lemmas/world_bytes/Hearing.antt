-- What is heard of a bus that says bytes.
use Rattle.std.proofs.Common.{ℕ, ◌<◌, List, slice_index, sym, subst}
use Rattle.usb_base.specs.declared.packets.Ask.{Ask}
use Rattle.usb_base.specs.declared.packets.Pid.{Pid}
use Rattle.usb_base.specs.declared.packets.Reply.TheVariants.{Bytes}
use Rattle.script_types.specs.declared.scripts.Script.{Script}
use Rattle.script_text.specs.Faults.{Spells}
use Rattle.bus_wire.specs.Bus.{Fixed, Wired, fixed_of}
use Rattle.law_scripts.specs.byte_answers.Bytes.{IsByteReply, IsByteScript, IsByteBus}
use Rattle.law_scripts.proofs.lemmas.byte_answers.Lists.{byte_at}
use Rattle.law_scripts.proofs.lemmas.byte_answers.Buses.{reply_bytes}
use Rattle.law_scripts.proofs.lemmas.script_bytes.Texts.{a_text_spells_bytes}
use Rattle.bus_world.specs.World.{World}
use Rattle.bus_world.specs.Opening.{opening_world}
use Rattle.bus_world.specs.Orders.{at_place, orders_of}
use Rattle.bus_world.specs.Budgets.{moment}
use Rattle.law_world.specs.steps.Streaming.{transacts_by, wired, HearsBytesNow}
use Rattle.law_world.proofs.lemmas.steps.lemmas.world_bytes.Turning.{run_bytes, opened_bytes}

told_bytes : (fixed : Fixed) (w : World) (after : Wired) (ask : Ask) (out : List ℕ) (pid : Pid) (bs : List ℕ) → IsByteBus w.bus → transacts_by (wired fixed w) ask out (Bytes pid bs) after → (i : ℕ) → slice_index bs i < 256
told_bytes fixed w after ask out pid bs h t i = byte_at bs (subst IsByteReply (sym t.0) (reply_bytes fixed w.bus ask out h)) i

pub a_bus_of_bytes_is_heard_as_bytes : (fixed : Fixed) (w : World) → IsByteBus w.bus → HearsBytesNow fixed w
a_bus_of_bytes_is_heard_as_bytes fixed w h = λ after ask out pid bs t i. told_bytes fixed w after ask out pid bs h t i

pub moment_hears : (s : Script) (k : ℕ) → IsByteScript s → HearsBytesNow (fixed_of s) (moment s k).world
moment_hears s k h = a_bus_of_bytes_is_heard_as_bytes (fixed_of s) (moment s k).world (run_bytes (fixed_of s) (at_place (opening_world s) (orders_of s.lines)) k (opened_bytes s h))

pub text_hears : (text : List ℕ) (s : Script) (k : ℕ) → Spells text s → HearsBytesNow (fixed_of s) (moment s k).world
text_hears text s k e = moment_hears s k (a_text_spells_bytes text s e)
