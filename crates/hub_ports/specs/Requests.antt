-- The requests that a hub knows, by their setup bytes (USB 2.0, 9.3 and 11.24.2).
use Rattle.std.specs.Prelude.{ℕ, ◌+◌, ◌*◌, ◌/◌, ◌%◌, ◌==◌, Bool, ◌&&◌, nat_le, List, slice_index, Option, Some, None, if◌then◌else◌}
use Rattle.usb_base.specs.declared.packets.Dir.{Dir}
use Rattle.usb_base.specs.declared.packets.Dir.TheVariants as Directions
use Rattle.usb_base.specs.declared.packets.EpKind.{EpKind}
use Rattle.usb_base.specs.declared.packets.EpKind.TheVariants.{Control, Bulk}
use Rattle.hub_keys.specs.declared.key.Key.{Key}
use Rattle.hub_ports.specs.declared.requests.SetupFields.{SetupFields}
use Rattle.hub_ports.specs.declared.rows.ClassRequest.{ClassRequest}
use Rattle.hub_ports.specs.declared.rows.ClassRequest.TheVariants.{GetHubStatus, GetPortStatus, SetPortFeature, ClearPortFeature, ClearTtBuffer, ResetTt}
use Rattle.hub_ports.specs.declared.rows.HubRequest.{HubRequest}
use Rattle.hub_ports.specs.declared.rows.HubRequest.TheVariants.{HubStatus, PortStatus, ChangePort, ClearBuffer, ResetTranslator}
use Rattle.hub_ports.specs.declared.rows.PortChange.{PortChange}
use Rattle.hub_ports.specs.declared.rows.PortChange.TheVariants.{PowerOn, Reset, Disable, PowerOff, ForgetConnection, ForgetEnable, ForgetReset}

abbrev pub word_at : List ℕ → ℕ → ℕ
word_at setup i = slice_index setup i + 256 * slice_index setup (i + 1)

-- the fields of eight setup bytes
abbrev pub fields_of : List ℕ → SetupFields
fields_of setup = record {
  kind = slice_index setup 0;
  request = slice_index setup 1;
  value = slice_index setup 2 + 256 * slice_index setup 3;
  index = slice_index setup 4 + 256 * slice_index setup 5;
  length = slice_index setup 6 + 256 * slice_index setup 7;
}

-- bmRequestType and bRequest (table 11-15)
abbrev pub class_request : ℕ → ℕ → Option ClassRequest
class_request kind request =
    if kind == 160 && request == 0 then Some GetHubStatus else
    (if kind == 163 && request == 0 then Some GetPortStatus else
    (if kind == 35 && request == 3 then Some SetPortFeature else
    (if kind == 35 && request == 1 then Some ClearPortFeature else
    (if kind == 35 && request == 8 then Some ClearTtBuffer else
    (if kind == 35 && request == 9 then Some ResetTt else None)))))

-- wLength
abbrev pub length_of : ClassRequest → ℕ
length_of GetHubStatus = 4
length_of GetPortStatus = 4
length_of _ = 0

-- the features that are set and cleared (table 11-17)
abbrev pub set_feature : ℕ → Option PortChange
set_feature feature = if feature == 8 then Some PowerOn else (if feature == 4 then Some Reset else None)

abbrev pub clear_feature : ℕ → Option PortChange
clear_feature feature =
    if feature == 1 then Some Disable else
    (if feature == 8 then Some PowerOff else
    (if feature == 16 then Some ForgetConnection else
    (if feature == 17 then Some ForgetEnable else
    (if feature == 20 then Some ForgetReset else None))))

-- the type of an endpoint whose buffer can be cleared
abbrev pub buffer_kind : ℕ → Option EpKind
buffer_kind bits = if bits == 0 then Some Control else (if bits == 2 then Some Bulk else None)

abbrev pub buffer_direction : ℕ → Dir
buffer_direction bit = if bit == 0 then Directions.Out else Directions.In

abbrev pub key_with : ℕ → Option EpKind → Option Key
key_with value None = None
key_with value (Some kind) = Some (record { addr = value / 16 % 128; ep = value % 16; dir = buffer_direction (value / 32768); kind = kind })

-- wValue of ClearTTBuffer: bits 3:0 endpoint, 10:4 address, 12:11 type, 14:13 zero, 15 IN (11.24.2.3)
abbrev pub buffer_key : ℕ → Option Key
buffer_key value = if value / 8192 % 4 == 0 then key_with value (buffer_kind (value / 2048 % 4)) else None

-- wIndex: 0 for the hub, a port from 1 on; for a translator that of its port, and 1 where there is one for all ports
abbrev pub at_port : ℕ → ℕ → HubRequest → Option HubRequest
at_port ports index request = if nat_le 1 index && nat_le index ports then Some request else None

abbrev pub change_at : ℕ → ℕ → Option PortChange → Option HubRequest
change_at ports index None = None
change_at ports index (Some change) = at_port ports index (ChangePort index change)

-- how many translators a hub with so many ports has (11.14)
abbrev pub translators_of : Bool → ℕ → ℕ
translators_of multi ports = if multi then ports else 1

abbrev pub clear_at : ℕ → ℕ → Option Key → Option HubRequest
clear_at translators index None = None
clear_at translators index (Some key) = at_port translators index (ClearBuffer index key)

-- wValue and wIndex of each
abbrev pub request_by : ClassRequest → Bool → ℕ → ℕ → ℕ → Option HubRequest
request_by GetHubStatus multi ports value index = if value == 0 && index == 0 then Some HubStatus else None
request_by GetPortStatus multi ports value index = if value == 0 then at_port ports index (PortStatus index) else None
request_by SetPortFeature multi ports value index = change_at ports index (set_feature value)
request_by ClearPortFeature multi ports value index = change_at ports index (clear_feature value)
request_by ClearTtBuffer multi ports value index = clear_at (translators_of multi ports) index (buffer_key value)
request_by ResetTt multi ports value index = if value == 0 then at_port (translators_of multi ports) index (ResetTranslator index) else None

abbrev pub request_with : Option ClassRequest → Bool → ℕ → SetupFields → Option HubRequest
request_with None multi ports f = None
request_with (Some r) multi ports f = if f.length == length_of r then request_by r multi ports f.value f.index else None

-- the request of these fields, to a hub with so many ports, which has a translator for each or one for all; every other is stalled
abbrev pub request_of_fields : Bool → ℕ → SetupFields → Option HubRequest
request_of_fields multi ports f = request_with (class_request f.kind f.request) multi ports f

-- the request of these setup bytes
abbrev pub request_of : Bool → ℕ → List ℕ → Option HubRequest
request_of multi ports setup = request_of_fields multi ports (fields_of setup)
