-- Who hears a complete-split of the host (USB 2.0, 8.5, 11.14 and 11.20).
--     HasTranslator hubs hub port    the hub with this address has a translator for this port
--     CanBeHeard fixed b ask         the ask is a complete-split for an endpoint of the bus, by a translator of its
--     AsksFor fixed b q              the queue head is that of such an endpoint
--     IsHeardOn fixed b x            the endpoint so described stands on the bus, below a hub that has a translator for it, which it names
use Rattle.std.specs.Prelude.{◌≡◌, ℕ, ◌==◌, Bool, true, false, if◌then◌else◌, List, slice_get, Some}
use Rattle.std.specs.List.{position}
use Rattle.usb_base.specs.declared.packets.Ask.{Ask}
use Rattle.usb_base.specs.declared.endpoints.EpDesc.{EpDesc}
use Rattle.usb_base.specs.declared.packets.Split.TheVariants.{Complete}
use Rattle.usb_base.specs.declared.packets.Way.{Way}
use Rattle.usb_base.specs.declared.packets.Way.TheVariants as ways
use Rattle.multi_tt.specs.Translators.{Translator, translator_at}
use Rattle.hub_class.specs.HubContent.{HubContent}
use Rattle.bus_wire.specs.declared.seats.Seat.{Seat}
use Rattle.bus_wire.specs.declared.seats.TokenKind.{TokenKind}
use Rattle.bus_wire.specs.declared.seats.TokenKind.TheVariants as tokens
use Rattle.bus_wire.specs.Seats.{token_kind, place_for}
use Rattle.bus_wire.specs.Bus.{Bus, Fixed}
use Rattle.qh_qtd.specs.declared.queue_head.Qh.{Qh}
use Rattle.hc_copy.specs.Planning.{pid_at}
use Rattle.law_microframes.specs.time.Repeats.{asked_pid}

pub record HasTranslator (hubs : List HubContent) (hub port : ℕ) : Type 0 where
  pub place : ℕ
  pub found : position (λ h. h.address == hub) hubs ≡ Some place
  pub content : HubContent
  pub here : slice_get hubs place ≡ Some content
  pub translator : Translator
  pub serves : translator_at port content.translators ≡ Some translator

pub record HasNumber (b : Bus) (place : ℕ) : Type 0 where
  pub number : ℕ
  pub is : slice_get b.high place ≡ Some number

pub record CanBeHeard (fixed : Fixed) (b : Bus) (ask : Ask) : Type 0 where
  pub place : ℕ
  pub found : place_for fixed.seats ask.addr ask.ep (token_kind ask.pid) ≡ Some place
  pub seat : Seat
  pub there : slice_get fixed.seats place ≡ Some seat
  pub number : HasNumber b place
  pub hub : ℕ
  pub port : ℕ
  pub split : ask.split ≡ Complete hub port
  pub translator : HasTranslator b.hubs hub port

-- ---- an endpoint below a hub

abbrev pub token_of_way : Way → TokenKind
token_of_way ways.In = tokens.In
token_of_way ways.Out = tokens.Out
token_of_way ways.Ctl = tokens.Setup

abbrev pub is_control_way : Way → Bool
is_control_way ways.Ctl = true
is_control_way _ = false

-- .. and is told by the number of that translator: the port where the hub has one for each, else 0 (11.14)
abbrev pub number_of : Bool → ℕ → ℕ
number_of multi port = if multi then port else 0

-- the endpoint so described stands on the bus, below a hub that has a translator for its port
pub record IsHeardOn (fixed : Fixed) (b : Bus) (x : EpDesc) : Type 0 where
  pub place : ℕ
  pub found : place_for fixed.seats x.name.addr x.name.num (token_of_way x.name.way) ≡ Some place
  pub seat : Seat
  pub there : slice_get fixed.seats place ≡ Some seat
  pub number : HasNumber b place
  pub hub : ℕ
  pub behind : x.hub ≡ Some hub
  pub translator : HasTranslator b.hubs hub x.port
  pub served : x.tt ≡ number_of translator.content.translators.multi x.port

-- an endpoint below a hub that is no control endpoint
pub record IsBelowHub (x : EpDesc) : Type 0 where
  pub hub : ℕ
  pub behind : x.hub ≡ Some hub
  pub carries : is_control_way x.name.way ≡ false

-- ---- a queue head

-- the queue head of such an endpoint asks by its address, number and way, and names its hub and port
pub record AsksFor (fixed : Fixed) (b : Bus) (q : Qh) : Type 0 where
  pub desc : EpDesc
  pub heard : IsHeardOn fixed b desc
  pub inward : Bool
  pub pid : pid_at q.token.pid ≡ asked_pid inward
  pub way : token_of_way desc.name.way ≡ token_kind (asked_pid inward)
  pub addr : q.addr ≡ desc.name.addr
  pub ep : q.ep ≡ desc.name.num
  pub hub : q.hub ≡ heard.hub
  pub port : q.port ≡ desc.port
