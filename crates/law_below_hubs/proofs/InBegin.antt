-- The work of hubs where a microframe begins is a few events of the pipe of an IN endpoint below one of them.
use Rattle.std.proofs.Common.{◌≡◌, ℕ, Bool, true, false, List, map, slice_get, Option, Some, None, if◌then◌else◌, refl, sym, subst, ap, ◌∙◌}
use Rattle.std.specs.Option.{option_map}
use Rattle.std.proofs.lemmas.Option.{same_Some}
use Rattle.law_devices.proofs.Common2.{named_begun}
use Rattle.endpoint_script.specs.declared.endpoint.Role.{Role}
use Rattle.endpoint_script.specs.Device.{Device, begun, endpoint_begun, part_begun}
use Rattle.bus_wire.specs.Fixed.{Fixed}
use Rattle.bus_wire.specs.Below.{floor_worked, Floor, Below}
use Rattle.bus_wire.specs.Bus.{begins_anew, begun_at, floor_of}
use Rattle.law_ring.specs.Bus.{Sender}
use Rattle.law_devices.specs.Senders.{sender_of_part, sender_of_device}
use Rattle.law_devices.proofs.Asking.{IsAtDevice, device_found, device_sender}
use Rattle.law_translated.specs.InPipes.{in_halves, Line, Works}
use Rattle.law_below_hubs.specs.Seated.{end_in}
use Rattle.law_below_hubs.specs.HubsKeys.{IsOfKind}
use Rattle.law_below_hubs.specs.InWork.{in_asked, in_answer, sender_of_line, ShowsSender, InWorkIsEvents, SameReceiving}
use Rattle.law_below_hubs.proofs.Raising.{slice_map}
use Rattle.law_below_hubs.proofs.Seating.{IsSeated, seated, seated_through}
use Rattle.law_below_hubs.proofs.InFollows.{in_follows}
use Rattle.law_below_hubs.proofs.HubsWork.{work_hubs}
use Rattle.hub_keys.specs.declared.key.Key.{Key}
use Rattle.law_translated.specs.Lift.{Way}
use Rattle.law_translated.specs.InPipes.Works.{unacknowledged, acknowledged, refuses, stalls}
use Rattle.law_translated.specs.KeyEvents.{Follows}
use Rattle.law_below_hubs.specs.Raised.{transacts_below}
use Rattle.law_below_hubs.specs.RightAsks.{Rightly}
use Rattle.usb_base.specs.declared.packets.Way.TheVariants as Ways
use Rattle.bus_wire.specs.declared.seats.TokenKind.TheVariants as Tokens
use Rattle.law_translated.specs.InPipes as Pipe

-- ---- devices begin anew

begun_by : (b : Bool) (d : Device) (addr ep : ℕ) (s : Sender) → IsAtDevice addr ep (Some d) s
    → sender_of_device addr ep (Some (if b then begun d else d)) ≡ Some s
begun_by true d addr ep s at =
    let same : at.device ≡ d = sym (same_Some d at.device at.is) in
    subst (λ (x : Device). sender_of_device addr ep (Some (begun x)) ≡ Some s) same
    (device_sender (begun at.device) addr ep at.at.place (endpoint_begun at.at.endpoint) at.address
    (named_begun ep Ways.In at.device.endpoints ∙ at.at.is)
    (slice_map endpoint_begun at.device.endpoints at.at.place ∙ ap (option_map endpoint_begun) at.at.here)
    ∙ ap (λ (p : Role). sender_of_part (part_begun p)) at.at.part.is ∙ ap (λ (x : Sender). Some x) (sym at.at.part.sender))
begun_by false d addr ep s at =
    ap (sender_of_device addr ep) at.is
    ∙ device_sender at.device addr ep at.at.place at.at.endpoint at.address at.at.is at.at.here
    ∙ ap sender_of_part at.at.part.is ∙ ap (λ (x : Sender). Some x) (sym at.at.part.sender)

begun_from : (frindex : ℕ) (o : Option Device) (addr ep : ℕ) (s : Sender) → sender_of_device addr ep o ≡ Some s
    → sender_of_device addr ep (option_map (begun_at frindex) o) ≡ Some s
begun_from frindex None addr ep s is = absurd cc
begun_from frindex (Some d) addr ep s is = begun_by (begins_anew d.speed frindex) d addr ep s (device_found addr ep (Some d) s is)

pub begun_sender : (fixed : Fixed) (frindex : ℕ) (devices : List Device) (addr ep : ℕ) (s : Sender)
    → end_in sender_of_device Tokens.In fixed devices addr ep ≡ Some s
    → end_in sender_of_device Tokens.In fixed (map (begun_at frindex) devices) addr ep ≡ Some s
begun_sender fixed frindex devices addr ep s is =
    let h : IsSeated sender_of_device Tokens.In fixed devices addr ep s =
    seated sender_of_device Tokens.In (λ addr ep. refl) fixed devices addr ep s is in
    seated_through sender_of_device Tokens.In (λ addr ep. refl) fixed devices (map (begun_at frindex) devices) addr ep s h
    ∙ ap (sender_of_device addr ep) (slice_map (begun_at frindex) devices h.n)
    ∙ begun_from frindex (slice_get devices h.n) addr ep s h.is

-- ---- the work below is the device's half alone

works_below : (s : Line) (a : Pipe.Ask) (r : Pipe.Reply) (t : Line) → Works s a r t → SameReceiving s t
works_below s _ _ _ (unacknowledged x rest left) = record { accepted = refl; expects = refl; going = refl }
works_below s _ _ _ (acknowledged x rest left) = record { accepted = refl; expects = refl; going = refl }
works_below s _ _ _ refuses = record { accepted = refl; expects = refl; going = refl }
works_below s _ _ _ stalls = record { accepted = refl; expects = refl; going = refl }

receiving_on : (l m t : Line) → SameReceiving l m → SameReceiving m t → SameReceiving l t
receiving_on l m t one two = record {
  accepted = two.accepted ∙ one.accepted;
  expects = two.expects ∙ one.expects;
  going = two.going ∙ one.going;
}

-- a bus below shows the line, whose host is as it was
record ShowsHost (fixed : Fixed) (k : Key) (first : Line) (w : Below) (l : Line) : Type 0 where
  shows : ShowsSender fixed k w l
  host : SameReceiving first l

host_follows : (fixed : Fixed) (k : Key) (way : Way) (first : Line)
    → Follows in_halves in_asked in_answer (Rightly (IsOfKind k) transacts_below) way k (ShowsSender fixed k)
    → Follows in_halves in_asked in_answer (Rightly (IsOfKind k) transacts_below) way k (ShowsHost fixed k first)
host_follows fixed k way first f = record {
  works = λ w l a r v own shows made on.
      let t = f.works w l a r v own shows.shows made on in
      (t.0, t.1, record { shows = t.2; host = receiving_on first l t.0 shows.host (works_below l (in_asked a) (in_answer r) t.0 t.1) });
  quiet = λ w l a r v own shows made off.
      let t = f.quiet w l a r v own shows.shows made off in
      (t.0, t.1, record { shows = t.2; host = subst (SameReceiving first) (sym t.1) shows.host });
  others = λ w l ask out r v apart shows made.
      record { shows = f.others w l ask out r v apart shows.shows made; host = shows.host };
  dead = f.dead;
}

-- ---- the law

record OnFloor (fixed : Fixed) (k : Key) (first : Line) (floor : Floor) (l : Line) : Type 0 where
  sender : end_in sender_of_device Tokens.In fixed floor.devices k.addr k.ep ≡ Some (sender_of_line l)
  host : SameReceiving first l

pub in_work_is_events : InWorkIsEvents
in_work_is_events way k hub place frindex s l u aside w inward has are is =
    let r = work_hubs in_halves in_asked in_answer w.fixed k way frindex (IsOfKind k) (ShowsHost w.fixed k l)
    (host_follows w.fixed k way l (in_follows w.fixed k inward way)) (OnFloor w.fixed k l)
    (λ h floor m on. record { shows = record { same = refl; sender = on.sender }; host = on.host })
    (λ v m shows. record {
      sender = sym (ap (λ (f : Fixed). end_in sender_of_device Tokens.In f v.floor.devices k.addr k.ep) shows.shows.same)
          ∙ shows.shows.sender;
      host = shows.host;
    })
    u aside hub place w.bus.hubs (floor_of w.bus) s l
    (record { sender = is; host = record { accepted = refl; expects = refl; going = refl } }) has are in
    record {
      line = r.line;
      slot = r.slot;
      host = r.on.host;
      sender = begun_sender w.fixed frindex (floor_worked w.fixed w.bus.hubs (floor_of w.bus)).devices k.addr k.ep
          (sender_of_line r.line) r.on.sender;
      has = r.has;
      right = r.are;
      run = r.run;
    }
