-- What a request to a hub answers and does (USB 2.0, 11.24.2).
use Rattle.std.specs.Prelude.{ℕ, List, length, Option, Some, None}
use Rattle.hub_ports.specs.declared.rows.HubReply.{HubReply}
use Rattle.hub_ports.specs.declared.rows.HubReply.TheVariants.{Stall}
use Rattle.hub_ports.specs.declared.rows.HubRequest.{HubRequest}
use Rattle.hub_ports.specs.declared.rows.HubRequest.TheVariants.{HubStatus, PortStatus, ChangePort, ClearBuffer, ResetTranslator}
use Rattle.hub_ports.specs.Ports.{ports_changed, reply_of}
use Rattle.hub_ports.specs.Requests.{request_of}
use Rattle.multi_tt.specs.Translators.{changed_at}
use Rattle.multi_tt.specs.Translators as Translating
use Rattle.multi_tt.specs.Single.{cleared}
use Rattle.hub_class.specs.HubContent.{HubContent}

abbrev pub request_at : List ℕ → HubContent → Option HubRequest
request_at setup h = request_of h.translators.multi (length h.ports) setup

-- The effect of each request; those on a translator act on that of their port.
abbrev pub effect : HubRequest → HubContent → HubContent
effect HubStatus h = h
effect (PortStatus _) h = h
effect (ChangePort port change) h = record h { ports = ports_changed port change h.ports }
effect (ClearBuffer port key) h = record h { translators = changed_at port (cleared key) h.translators }
effect (ResetTranslator port) h = record h { translators = changed_at port (λ t. Translating.opening) h.translators }

abbrev pub effect_if : Option HubRequest → HubContent → HubContent
effect_if None h = h
effect_if (Some request) h = effect request h

abbrev pub reply_if : Option HubRequest → HubContent → HubReply
reply_if None h = Stall
reply_if (Some request) h = reply_of request h.ports

-- the hub after the request of these setup bytes; one that it doesn't know changes nothing
abbrev pub requested : List ℕ → HubContent → HubContent
requested setup h = effect_if (request_at setup h) h

-- what the request of these setup bytes answers; one that it doesn't know is stalled
abbrev pub request_answer : List ℕ → HubContent → HubReply
request_answer setup h = reply_if (request_at setup h) h
