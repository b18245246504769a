-- Numbers that are bytes, in all that a bus can be heard to say (USB 2.0, 8.3.4): the data that a script gives its endpoints, and those that a
-- device, a hub and its translators hold.
--     IsByteReply, IsByteAnswer       an answer's data are bytes
--     IsByteItem, IsByteText          what a script gives an endpoint to say is bytes
--     IsByteCommand, IsByteLine       what the host is told to send is bytes
--     IsByteScript s                  .. and so for every endpoint and line of the script
--     IsByteRole, IsByteEndpoint, IsByteDevice     what a device has left to say is bytes
--     IsByteBuffer, AreByteBuffers, IsByteEntry    what a translator heard below, and still holds, is bytes
--     IsByteTranslator                .. and all that it holds is bytes
--     IsByteHub, IsByteBus            all that a hub, and a bus, holds to be said is bytes
use Rattle.std.specs.List.{AllByRecursion}
use Rattle.usb_base.specs.declared.commands.Cmd.{Cmd}
use Rattle.usb_base.specs.declared.commands.Cmd.TheVariants as commands
use Rattle.usb_base.specs.declared.packets.Reply.{Reply}
use Rattle.usb_base.specs.declared.packets.Reply.TheVariants as replies
use Rattle.script_types.specs.declared.devices.Item.{Item}
use Rattle.script_types.specs.declared.devices.Item.TheVariants as items
use Rattle.script_types.specs.declared.devices.EpText.{EpText}
use Rattle.script_types.specs.declared.devices.DeviceText.{DeviceText}
use Rattle.script_types.specs.declared.scripts.Line.{Line}
use Rattle.script_types.specs.declared.scripts.Line.TheVariants as lines
use Rattle.script_types.specs.declared.scripts.Script.{Script}
use Rattle.law_scripts.specs.script_spelling.Spelling.{AreBytes}
use Rattle.endpoint_script.specs.declared.control_endpoint.KnownRequest.{KnownRequest}
use Rattle.endpoint_script.specs.declared.endpoint.Endpoint.{Endpoint}
use Rattle.endpoint_script.specs.declared.endpoint.Role.{Role}
use Rattle.endpoint_script.specs.declared.endpoint.Role.TheVariants.{Sends, Takes, Controls, Streams, Hears}
use Rattle.endpoint_script.specs.Device.{Device}
use Rattle.tt_bulk.specs.declared.answers.Answer.{Answer}
use Rattle.tt_bulk.specs.declared.answers.Answer.TheVariants as answers
use Rattle.tt_bulk.specs.Contents.{BufferContent, Free, Pending, Ready, Old, TwoBuffers}
use Rattle.tt_pipeline.specs.declared.entry.Entry.{Entry}
use Rattle.tt_pipeline.specs.declared.entry.Exchange.{Exchange}
use Rattle.tt_pipeline.specs.declared.entry.Exchange.TheVariants.{Ahead, Made}
use Rattle.multi_tt.specs.Translators.{Translator}
use Rattle.hub_class.specs.HubContent.{HubContent}
use Rattle.bus_wire.specs.Bus.{Bus}

-- ---- an answer

abbrev pub IsByteReply : Reply → Type 0
IsByteReply replies.Silent = Unit {0}
IsByteReply (replies.Bytes pid bytes) = AreBytes bytes
IsByteReply (replies.Hand pid) = Unit {0}

abbrev pub IsByteAnswer : Answer → Type 0
IsByteAnswer (answers.Bytes pid bytes) = AreBytes bytes
IsByteAnswer answers.Ack = Unit {0}
IsByteAnswer answers.Nak = Unit {0}
IsByteAnswer answers.Stall = Unit {0}

-- ---- a script

abbrev pub IsByteItem : Item → Type 0
IsByteItem (items.Bytes bytes) = AreBytes bytes
IsByteItem (items.Nak n) = Unit {0}
IsByteItem items.Nyet = Unit {0}
IsByteItem items.Stall = Unit {0}
IsByteItem (items.Request setup bytes) = AreBytes bytes
IsByteItem items.Epoch = Unit {0}

abbrev pub IsByteText : EpText → Type 0
IsByteText e = AllByRecursion IsByteItem e.items

abbrev pub IsByteCommand : Cmd → Type 0
IsByteCommand (commands.OpenEp desc) = Unit {0}
IsByteCommand (commands.Get name len by) = Unit {0}
IsByteCommand (commands.Put name bytes by) = AreBytes bytes
IsByteCommand (commands.Control name setup bytes) = AreBytes setup × AreBytes bytes
IsByteCommand (commands.Iso name count len seed) = Unit {0}
IsByteCommand (commands.Cancel name) = Unit {0}
IsByteCommand _ = Unit {0}

abbrev pub IsByteLine : Line → Type 0
IsByteLine (lines.Command cmd) = IsByteCommand cmd
IsByteLine (lines.Order event n) = Unit {0}
IsByteLine (lines.Micro n) = Unit {0}
IsByteLine (lines.Plug n) = Unit {0}
IsByteLine (lines.Unplug n) = Unit {0}

pub record IsByteScript (s : Script) : Type 0 where
  pub devices : AllByRecursion (λ (d : DeviceText). AllByRecursion IsByteText d.eps) s.devices
  pub lines : AllByRecursion (λ x. IsByteLine x.1) s.lines

-- ---- a device

abbrev pub IsByteRequest : KnownRequest → Type 0
IsByteRequest known = AreBytes known.reply

abbrev pub IsByteRole : Role → Type 0
IsByteRole (Sends s) = AllByRecursion IsByteItem s.items
IsByteRole (Takes t) = Unit {0}
IsByteRole (Controls c) = AllByRecursion IsByteRequest c.requests
IsByteRole (Streams s) = AllByRecursion AreBytes s.packets
IsByteRole Hears = Unit {0}

abbrev pub IsByteEndpoint : Endpoint → Type 0
IsByteEndpoint e = IsByteRole e.part

pub record IsByteDevice (d : Device) : Type 0 where
  pub each : AllByRecursion IsByteEndpoint d.endpoints

-- ---- a hub

abbrev pub IsByteBuffer : BufferContent → Type 0
IsByteBuffer Free = Unit {0}
IsByteBuffer (Pending taken silences) = Unit {0}
IsByteBuffer (Ready taken answer) = IsByteAnswer answer
IsByteBuffer (Old taken answer) = IsByteAnswer answer

-- what a transaction below that isn't made yet will send is told to nobody above
abbrev pub IsByteExchange : Exchange → Type 0
IsByteExchange (Ahead bytes) = Unit {0}
IsByteExchange (Made reply) = IsByteReply reply

abbrev pub IsByteEntry : Entry → Type 0
IsByteEntry e = IsByteExchange e.exchange

pub record AreByteBuffers (b : TwoBuffers) : Type 0 where
  pub first : IsByteBuffer b.first
  pub second : IsByteBuffer b.second

pub record IsByteTranslator (t : Translator) : Type 0 where
  pub bulk : AreByteBuffers t.bulk
  pub pipeline : AllByRecursion IsByteEntry t.pipeline

pub record IsByteHub (h : HubContent) : Type 0 where
  pub translators : AllByRecursion IsByteTranslator h.translators.all

-- ---- a bus

pub record IsByteBus (b : Bus) : Type 0 where
  pub devices : AllByRecursion IsByteDevice b.devices
  pub hubs : AllByRecursion IsByteHub b.hubs
