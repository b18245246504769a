-- A new world feeds its queues: there are none.
use Rattle.std.proofs.Common.{◌≡◌, ◌≢◌, ℕ, ◌==◌, Bool, true, false, cond, List, map, slice_get, Option, Some, None, option_map, ap, refl, sym, subst, inl, inr, []}
use Rattle.std.specs.Prelude.{is_some}
use Rattle.std.proofs.lemmas.Bool.{eqb-true, false≢true}
use Rattle.script_types.specs.declared.scripts.Script.{Script}
use Rattle.bus_wire.specs.Bus.{opening_wired, opening_bus}
use Rattle.hc_core.specs.Controller.{content, new_control}
use Rattle.drv_table.specs.Opening.{opening}
use Rattle.drv_table.specs.Words.{opening_head}
use Rattle.law_structures.specs.lent_structures.Structures.{QueueHead, Element}
use Rattle.law_ring.specs.Hand.{Empty}
use Rattle.law_ring.specs.Told.{endpoint_of}
use Rattle.law_ring.specs.Bus.{Sender}
use Rattle.law_ring.specs.Pipes.{IsNotIn, IsElsewhere}
use Rattle.script_types.specs.declared.devices.EpText.{EpText}
use Rattle.script_types.specs.declared.devices.DeviceText.{DeviceText}
use Rattle.usb_base.specs.declared.packets.Way.{Way}
use Rattle.usb_base.specs.declared.packets.Way.TheVariants as Ways
use Rattle.usb_base.specs.declared.packets.EpKind.{EpKind}
use Rattle.usb_base.specs.declared.packets.EpKind.TheVariants as Kinds
use Rattle.endpoint_script.specs.declared.endpoint.Endpoint.{Endpoint}
use Rattle.endpoint_script.specs.Device.{Device, opened_part, opened_endpoint, endpoint_at, place_named, opening as opening_device}
use Rattle.bus_wire.specs.declared.seats.Owner.{Owner}
use Rattle.bus_wire.specs.declared.seats.Owner.TheVariants as Owners
use Rattle.bus_wire.specs.declared.seats.Seat.{Seat}
use Rattle.bus_wire.specs.declared.seats.TokenKind.TheVariants.{In}
use Rattle.bus_wire.specs.Seats.{place_for}
use Rattle.std.proofs.lemmas.Option.{same_Some, slice_get-map}
use Rattle.law_devices.specs.Senders.{sender_of_part, sender_of_endpoint, sender_of_device, sender_of_owner, sender_of_seat, sender_of_place, sender_of}
use Rattle.claims_base.specs.Controller.{opening_base}
use Rattle.law_driver_ring.specs.PartOpened.{opening_parts, is_head}
use Rattle.bus_world.specs.Rooms.{room_of_script}
use Rattle.law_queues.specs.shared_memory.Shared.{IsShared}
use Rattle.law_queues.proofs.lemmas.shared_memory.Sharing.{the_opening_is_shared}
use Rattle.law_controller.specs.controlled_streams.Unopened.{IsUntouched}
use Rattle.law_driver.proofs.lemmas.chained_transfers.Events.{new_driver_takes_asynchronous_turns}
use Rattle.law_world.proofs.lemmas.steps.lemmas.control_queues.Beside.{new_driver_controls}
use Rattle.law_world.specs.streams.Feeding.{left_of, streams_of}
use Rattle.law_world.specs.streams.FeedingLaws.{NewWorldFeeds}

not_in : IsNotIn (opening_parts 4096)
not_in a t here = by (a == 4096) here
  where
    by : (b : Bool) → cond b (Some (QueueHead opening_head)) None ≡ Some (Element t) → t.token.active ≡ true → t.token.pid ≢ 1
    by true f = absurd (cc)
    by false f = absurd (cc)

head_elsewhere : (s : Script) (n : ℕ) → is_head n ≡ true → IsElsewhere (streams_of s).stream opening_parts n (endpoint_of opening_head)
head_elsewhere s n on = subst (λ (i : ℕ). IsElsewhere (streams_of s).stream opening_parts i (endpoint_of opening_head)) (sym (eqb-true n 4096 on)) (record { queue = opening_head; head = refl; is = refl }, inr not_in)

-- ---- no sender has sent anything

Unsent : Option Sender → Type 0
Unsent o = (z : Sender) → o ≡ Some z → z.sends ≡ false

unsent_none : Unsent None
unfolding Unsent
unsent_none z is = absurd (cc)

unsent_part : (way : Way) (kind : EpKind) (text : EpText) → Unsent (sender_of_part (opened_part way kind text))
unfolding Unsent
unsent_part Ways.Ctl kind text z is = absurd (cc)
unsent_part Ways.In Kinds.Iso text z is = absurd (cc)
unsent_part Ways.In Kinds.Bulk text z is = ap (λ (s : Sender). s.sends) (sym (same_Some _ z is))
unsent_part Ways.In Kinds.Interrupt text z is = ap (λ (s : Sender). s.sends) (sym (same_Some _ z is))
unsent_part Ways.In Kinds.Control text z is = ap (λ (s : Sender). s.sends) (sym (same_Some _ z is))
unsent_part Ways.Out Kinds.Iso text z is = absurd (cc)
unsent_part Ways.Out Kinds.Bulk text z is = absurd (cc)
unsent_part Ways.Out Kinds.Interrupt text z is = absurd (cc)
unsent_part Ways.Out Kinds.Control text z is = absurd (cc)

unsent_endpoint : (o : Option EpText) → Unsent (sender_of_endpoint (option_map opened_endpoint o))
unsent_endpoint None = unsent_none
unsent_endpoint (Some text) = unsent_part text.desc.name.way text.desc.kind text

unsent_at : (eps : List EpText) (o : Option ℕ) → Unsent (sender_of_endpoint (endpoint_at (map opened_endpoint eps) o))
unsent_at eps None = unsent_none
unsent_at eps (Some place) = subst (λ (o : Option Endpoint). Unsent (sender_of_endpoint o)) (sym (slice_get-map opened_endpoint eps place)) (unsent_endpoint (slice_get eps place))

unsent_if : (b : Bool) (o : Option Sender) → Unsent o → Unsent (cond b o None)
unsent_if true o k = k
unsent_if false o k = unsent_none

unsent_device : (addr ep : ℕ) (o : Option DeviceText) → Unsent (sender_of_device addr ep (option_map opening_device o))
unsent_device addr ep None = unsent_none
unsent_device addr ep (Some text) =
    unsent_if (addr == (opening_device text).address) (sender_of_endpoint (endpoint_at (opening_device text).endpoints (place_named (opening_device text).endpoints ep Ways.In)))
    (unsent_at text.eps (place_named (opening_device text).endpoints ep Ways.In))

unsent_owner : (s : Script) (addr ep : ℕ) (o : Owner) → Unsent (sender_of_owner (opening_bus s) addr ep o)
unsent_owner s addr ep (Owners.High place) = subst (λ (o : Option Device). Unsent (sender_of_device addr ep o)) (sym (slice_get-map opening_device s.devices place)) (unsent_device addr ep (slice_get s.devices place))
unsent_owner s addr ep _ = unsent_none

unsent_seat : (s : Script) (addr ep : ℕ) (o : Option Seat) → Unsent (sender_of_seat (opening_bus s) addr ep o)
unsent_seat s addr ep None = unsent_none
unsent_seat s addr ep (Some seat) = unsent_owner s addr ep seat.owner

unsent_place : (s : Script) (addr ep : ℕ) (o : Option ℕ) → Unsent (sender_of_place (opening_wired s) addr ep o)
unsent_place s addr ep None = unsent_none
unsent_place s addr ep (Some place) = unsent_seat s addr ep (slice_get (opening_wired s).fixed.seats place)

untouched : (o : Option Sender) → Unsent o → is_some o ≡ true → IsUntouched (left_of o) o
unfolding Unsent
untouched None k on = absurd (false≢true on)
untouched (Some z) k on = record { sender = z; is = refl; left = refl; sends = k z refl }

pub new_world_feeds : NewWorldFeeds
new_world_feeds s fit =
    let k : IsShared opening_base is_head opening_parts Empty (content new_control (opening s.words (room_of_script s)).registers (opening s.words (room_of_script s)).memory) (opening s.words (room_of_script s)).driver =
    the_opening_is_shared s.words (room_of_script s) fit.least fit.most fit.whole_pages in
    record {
      working = record {
        operating = k.operating;
        streaming = record {
          on = record { run = k.operating.run; async_enable = k.operating.async_enable };
          ends = record {
            members = λ n on. absurd (false≢true on);
            on = λ n on. absurd (false≢true on);
            high = λ n on. absurd (false≢true on);
            apart = λ n i on other addr ep. absurd (false≢true on);
          };
          controlled = k.controlled;
          piped = record { pipes = λ n on. absurd (false≢true on); others = λ n on off. head_elsewhere s n on };
          right = λ n on. absurd (false≢true on);
        };
        place = k.place;
        driven = k.driven;
      };
      turns = new_driver_takes_asynchronous_turns s.words (room_of_script s);
      queues = record {
        met = record { head = refl; each = λ e x here. absurd (cc); only = λ n on. inl (eqb-true n 4096 on) };
        streams_are = record { each = λ e x here. absurd (cc); only = λ n on. absurd (false≢true on) };
        fed = record { dummies = λ e x here. absurd (cc); pieces = λ t i y x here. absurd (cc); publishes = λ b words is. absurd (cc) };
        last = record { dummies = λ e x here. absurd (cc); taken = λ b words t y x is. absurd (cc); sorted = λ b words t y x is. absurd (cc) };
        out_are = λ e x here. absurd (cc);
      };
      counted = λ n on. absurd (false≢true on);
      controls = new_driver_controls s.words (room_of_script s) opening_parts (λ n i. 0) (λ n. []);
      controls_apart = λ e x here. absurd (cc);
      unopened = λ addr ep on free. untouched (sender_of (opening_wired s) addr ep) (unsent_place s addr ep (place_for (opening_wired s).fixed.seats addr ep In)) on;
    }
