-- What a bus has to say is bytes, and stays so: whoever is asked, and at each beginning of a microframe.
use Rattle.std.proofs.Common.{ℕ, List, [], ◌∷◌, map, slice_get, Option, Some, None}
use Rattle.std.specs.List.{AllByRecursion}
use Rattle.std.proofs.lemmas.Bool.{cond_both}
use Rattle.law_common.proofs.Lists.{all_set, all_map}
use Rattle.usb_base.specs.declared.packets.Ask.{Ask}
use Rattle.usb_base.specs.declared.packets.Reply.{Reply}
use Rattle.script_types.specs.declared.scripts.Script.{Script}
use Rattle.script_types.specs.declared.devices.DeviceText.{DeviceText}
use Rattle.script_types.specs.declared.devices.HubText.{HubText}
use Rattle.endpoint_script.specs.Device.{Device, opening, begun, answered}
use Rattle.hub_class.specs.HubContent.{HubContent}
use Rattle.hub_class.specs.HubContent as hubs
use Rattle.hub_class.specs.EndpointZero.{hub_answered}
use Rattle.hub_class.proofs.Microframe.{work_keeps}
use Rattle.bus_wire.specs.declared.asked.Answerer.{Answerer}
use Rattle.bus_wire.specs.declared.asked.Answerer.TheVariants as answerers
use Rattle.bus_wire.specs.declared.asked.Asked.{Asked}
use Rattle.bus_wire.specs.declared.who_heard.WhoHeard.{WhoHeard}
use Rattle.bus_wire.specs.declared.who_heard.WhoHeard.TheVariants as rows
use Rattle.bus_wire.specs.WhoHeard.{asker_hears}
use Rattle.bus_wire.specs.Asking.{device_after, hub_after, translator_after, device_answer, hub_answer, translator_answer, put_at, changed_at}
use Rattle.bus_wire.specs.Below.{Below, Floor, below_at, asked_below, floor_answer, below_row, devices_after, below_reply_at, below_reply, below_after_at, below_after, floor_left, hubs_worked, floor_worked}
use Rattle.bus_wire.specs.Bus.{Fixed, Bus, opening_bus, floor_of, begins_anew, begun_at, begin_after, asked_of, answer_by, bus_row, changed_by, reply_at, reply_of, after_at, transact_after}
use Rattle.law_scripts.specs.byte_answers.Bytes.{IsByteReply, IsByteText, IsByteScript, IsByteDevice, IsByteHub, IsByteBus}
use Rattle.law_scripts.proofs.lemmas.byte_answers.Lists.{Holds, all_get}
use Rattle.law_scripts.proofs.lemmas.byte_answers.Devices.{answer_bytes, answered_bytes, acked_bytes, begun_bytes, device_opens}
use Rattle.law_scripts.proofs.lemmas.byte_answers.Hubs.{translator_bytes, translator_left, hub_bytes, hub_left, hub_acked_left, hub_opens, work_bytes}

-- ---- what is heard

heard_bytes : (row : WhoHeard) (answer : Reply) → IsByteReply answer → IsByteReply (asker_hears row answer)
heard_bytes rows.AnswerHeard answer h = h
heard_bytes rows.AckUnheard answer h = h
heard_bytes rows.AckHeard answer h = h
heard_bytes _ answer h = tt

device_bytes : (d : Option Device) (ask : Ask) (out : List ℕ) → Holds IsByteDevice d → IsByteReply (device_answer d ask out)
device_bytes None ask out h = tt
device_bytes (Some d) ask out h = answer_bytes d ask out h

hub_answer_bytes : (x : Option HubContent) (ask : Ask) (out : List ℕ) → IsByteReply (hub_answer x ask out)
hub_answer_bytes None ask out = tt
hub_answer_bytes (Some x) ask out = hub_bytes ask out x

translator_answer_bytes : (x : Option HubContent) (ask : Ask) → Holds IsByteHub x → IsByteReply (translator_answer x ask)
translator_answer_bytes None ask h = tt
translator_answer_bytes (Some x) ask h = translator_bytes ask x h

by_bytes : (b : Bus) (who : Answerer) (ask : Ask) (out : List ℕ) → IsByteBus b → IsByteReply (answer_by b who ask out)
by_bytes b (answerers.Device place) ask out h = device_bytes (slice_get b.devices place) ask out (all_get IsByteDevice b.devices place h.devices)
by_bytes b (answerers.Hub place) ask out h = hub_answer_bytes (slice_get b.hubs place) ask out
by_bytes b (answerers.Translator place stuff) ask out h =
    translator_answer_bytes (slice_get b.hubs place) ask (all_get IsByteHub b.hubs place h.hubs)
by_bytes b answerers.Nobody ask out h = tt

at_bytes : (fixed : Fixed) (b : Bus) (ask : Ask) (out : List ℕ) (e : Option Asked) → IsByteBus b → IsByteReply (reply_at fixed b ask out e)
at_bytes fixed b ask out None h = tt
at_bytes fixed b ask out (Some e) h = heard_bytes (bus_row fixed b e ask out) (answer_by b e.who ask out) (by_bytes b e.who ask out h)

pub reply_bytes : (fixed : Fixed) (b : Bus) (ask : Ask) (out : List ℕ) → IsByteBus b → IsByteReply (reply_of fixed b ask out)
reply_bytes fixed b ask out h = at_bytes fixed b ask out (asked_of fixed b ask) h

-- ---- what a transaction leaves

device_left : (row : WhoHeard) (ask : Ask) (out : List ℕ) (d : Device) → IsByteDevice d → IsByteDevice (device_after row ask out d)
device_left rows.SentUnheard ask out d h = h
device_left rows.AckHeard ask out d h = acked_bytes (answered d ask out) ask (answered_bytes d ask out h)
device_left _ ask out d h = answered_bytes d ask out h

hub_after_left : (row : WhoHeard) (ask : Ask) (out : List ℕ) (x : HubContent) → IsByteHub x → IsByteHub (hub_after row ask out x)
hub_after_left rows.SentUnheard ask out x h = h
hub_after_left rows.AckHeard ask out x h = hub_acked_left ask (hub_answered ask out x) (hub_left ask out x h)
hub_after_left _ ask out x h = hub_left ask out x h

translator_after_left : (row : WhoHeard) (ask : Ask) (out : List ℕ) (stuff : ℕ) (x : HubContent) → IsByteHub x
    → IsByteHub (translator_after row ask out stuff x)
translator_after_left rows.SentUnheard ask out stuff x h = h
translator_after_left _ ask out stuff x h = translator_left ask out stuff x h

put_left : {X : Type 0} (P : X → Type 0) (x : Option X) (place : ℕ) (f : X → X) (xs : List X) → ((y : X) → P y → P (f y)) → AllByRecursion P xs → Holds P x → AllByRecursion P (put_at x place f xs)
put_left P None place f xs g h k = h
put_left P (Some x) place f xs g h k = all_set P xs place (f x) h (g x k)

changed_left : {X : Type 0} (P : X → Type 0) (place : ℕ) (f : X → X) (xs : List X) → ((y : X) → P y → P (f y)) → AllByRecursion P xs → AllByRecursion P (changed_at place f xs)
changed_left P place f xs g h = put_left P (slice_get xs place) place f xs g h (all_get P xs place h)

changed_by_left : (row : WhoHeard) (who : Answerer) (ask : Ask) (out : List ℕ) (b : Bus) → IsByteBus b → IsByteBus (changed_by row who ask out b)
changed_by_left row (answerers.Device place) ask out b h =
    record { devices = changed_left IsByteDevice place (device_after row ask out) b.devices (device_left row ask out) h.devices; hubs = h.hubs }
changed_by_left row (answerers.Hub place) ask out b h =
    record { devices = h.devices; hubs = changed_left IsByteHub place (hub_after row ask out) b.hubs (hub_after_left row ask out) h.hubs }
changed_by_left row (answerers.Translator place stuff) ask out b h =
    record { devices = h.devices; hubs = changed_left IsByteHub place (translator_after row ask out stuff) b.hubs (translator_after_left row ask out stuff) h.hubs }
changed_by_left row answerers.Nobody ask out b h = h

at_left : (fixed : Fixed) (b : Bus) (ask : Ask) (out : List ℕ) (e : Option Asked) → IsByteBus b → IsByteBus (after_at fixed b ask out e)
at_left fixed b ask out None h = h
at_left fixed b ask out (Some e) h =
    let k = changed_by_left (bus_row fixed b e ask out) e.who ask out b h in
    record { devices = k.devices; hubs = k.hubs }

pub transact_bytes : (fixed : Fixed) (b : Bus) (ask : Ask) (out : List ℕ) → IsByteBus b → IsByteBus (transact_after fixed b ask out)
transact_bytes fixed b ask out h = at_left fixed b ask out (asked_of fixed b ask) h

-- ---- the buses below hubs

abbrev AreByteDevices : List Device → Type 0
AreByteDevices ds = AllByRecursion IsByteDevice ds

abbrev IsByteFloor : Below → Type 0
IsByteFloor w = AreByteDevices w.floor.devices

floor_bytes : (floor : Floor) (who : Answerer) (ask : Ask) (out : List ℕ) → AreByteDevices floor.devices → IsByteReply (floor_answer floor who ask out)
floor_bytes floor (answerers.Device place) ask out h = device_bytes (slice_get floor.devices place) ask out (all_get IsByteDevice floor.devices place h)
floor_bytes floor _ ask out h = tt

below_at_bytes : (w : Below) (ask : Ask) (out : List ℕ) (e : Option Asked) → IsByteFloor w → IsByteReply (below_reply_at w ask out e)
below_at_bytes w ask out None h = tt
below_at_bytes w ask out (Some e) h = heard_bytes (below_row w e ask out) (floor_answer w.floor e.who ask out) (floor_bytes w.floor e.who ask out h)

below_bytes : (w : Below) (ask : Ask) (out : List ℕ) → IsByteFloor w → IsByteReply (below_reply w ask out)
below_bytes w ask out h = below_at_bytes w ask out (asked_below w ask) h

devices_left : (row : WhoHeard) (who : Answerer) (ask : Ask) (out : List ℕ) (ds : List Device) → AreByteDevices ds → AreByteDevices (devices_after row who ask out ds)
devices_left row (answerers.Device place) ask out ds h = changed_left IsByteDevice place (device_after row ask out) ds (device_left row ask out) h
devices_left row _ ask out ds h = h

below_at_left : (w : Below) (ask : Ask) (out : List ℕ) (e : Option Asked) → IsByteFloor w → IsByteFloor (below_after_at w ask out e)
below_at_left w ask out None h = h
below_at_left w ask out (Some e) h = devices_left (below_row w e ask out) e.who ask out w.floor.devices h

below_left : (w : Below) (ask : Ask) (out : List ℕ) → IsByteFloor w → IsByteFloor (below_after w ask out)
below_left w ask out h = below_at_left w ask out (asked_below w ask) h

-- ---- the beginning of a microframe

floor_kept : (fixed : Fixed) (x : HubContent) (floor : Floor) → AreByteDevices floor.devices → AreByteDevices (floor_left fixed x floor).devices
floor_kept fixed x floor h = work_keeps below_reply below_after IsByteFloor below_left x (below_at fixed x floor) h

hubs_bytes : (fixed : Fixed) (frindex : ℕ) (xs : List HubContent) (floor : Floor) → AreByteDevices floor.devices → AllByRecursion IsByteHub xs → AllByRecursion IsByteHub (hubs_worked fixed frindex xs floor)
hubs_bytes fixed frindex [] floor p h = tt
hubs_bytes fixed frindex (x ∷ xs) floor p h = (
  work_bytes below_reply below_after IsByteFloor below_left below_bytes frindex x (below_at fixed x floor) p h.0,
  hubs_bytes fixed frindex xs (floor_left fixed x floor) (floor_kept fixed x floor p) h.1,
)

floor_worked_bytes : (fixed : Fixed) (xs : List HubContent) (floor : Floor) → AreByteDevices floor.devices → AreByteDevices (floor_worked fixed xs floor).devices
floor_worked_bytes fixed [] floor h = h
floor_worked_bytes fixed (x ∷ xs) floor h = floor_worked_bytes fixed xs (floor_left fixed x floor) (floor_kept fixed x floor h)

begun_at_bytes : (frindex : ℕ) (d : Device) → IsByteDevice d → IsByteDevice (begun_at frindex d)
begun_at_bytes frindex d h = cond_both (begins_anew d.speed frindex) (begun d) d IsByteDevice (λ _. begun_bytes d h) (λ _. h)

pub a_microframe_keeps_bytes : (fixed : Fixed) (frindex : ℕ) (b : Bus) → IsByteBus b → IsByteBus (begin_after fixed frindex b)
a_microframe_keeps_bytes fixed frindex b h = record {
  devices = all_map IsByteDevice IsByteDevice (begun_at frindex) (floor_worked fixed b.hubs (floor_of b)).devices (begun_at_bytes frindex) (floor_worked_bytes fixed b.hubs (floor_of b) h.devices);
  hubs = hubs_bytes fixed frindex b.hubs (floor_of b) h.devices h.hubs;
}

-- ---- the opening

always_hubs : (texts : List HubText) → AllByRecursion IsByteHub (map hubs.opening texts)
always_hubs [] = tt
always_hubs (text ∷ texts) = (hub_opens text, always_hubs texts)

pub opening_bytes : (s : Script) → IsByteScript s → IsByteBus (opening_bus s)
opening_bytes s h = record {
  devices = all_map (λ (d : DeviceText). AllByRecursion IsByteText d.eps) IsByteDevice opening s.devices device_opens h.devices;
  hubs = always_hubs s.hubs;
}
