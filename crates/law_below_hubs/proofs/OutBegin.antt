-- The work of hubs where a microframe begins is a few events of the pipe of an OUT endpoint below one of them.
use Rattle.std.proofs.Common.{◌≡◌, ℕ, Bool, true, false, List, map, slice_get, Option, Some, None, if◌then◌else◌, refl, sym, subst, ap, ◌∙◌}
use Rattle.std.specs.Option.{option_map}
use Rattle.std.proofs.lemmas.Option.{same_Some}
use Rattle.law_devices.proofs.Common2.{named_begun}
use Rattle.usb_base.specs.declared.packets.Way.TheVariants as Ways
use Rattle.endpoint_script.specs.declared.endpoint.Role.{Role}
use Rattle.endpoint_script.specs.Device.{Device, begun, endpoint_begun, part_begun}
use Rattle.bus_wire.specs.declared.seats.TokenKind.TheVariants as Tokens
use Rattle.hub_keys.specs.declared.key.Key.{Key}
use Rattle.bus_wire.specs.Fixed.{Fixed}
use Rattle.bus_wire.specs.Below.{Floor, Below, floor_worked}
use Rattle.bus_wire.specs.Bus.{begins_anew, begun_at, floor_of}
use Rattle.law_ring.specs.OutBus.{Taker}
use Rattle.law_devices.specs.scripted_takers.Takers.{taker_of_part, taker_of_device}
use Rattle.law_devices.proofs.lemmas.scripted_takers.Asking as Takers
use Rattle.law_translated.specs.Lift.{Way}
use Rattle.law_translated.specs.OutPipes.{Line, Works, Quiet, out_halves}
use Rattle.law_translated.specs.OutPipes as Pipe
use Rattle.law_translated.specs.OutPipes.Works.{accepts, drops, refuses, stalls}
use Rattle.law_translated.specs.OutPipes.Quiet.{unheard, accepts_unheard}
use Rattle.law_translated.specs.KeyEvents.{Follows}
use Rattle.law_below_hubs.specs.Seated.{end_in}
use Rattle.law_below_hubs.specs.Raised.{transacts_below}
use Rattle.law_below_hubs.specs.RightAsks.{Rightly}
use Rattle.law_below_hubs.specs.OutWork.{IsPut, out_asked, out_answer, SameSending, taker_of_line, ShowsTaker, OutWorkIsEvents}
use Rattle.law_below_hubs.proofs.Raising.{slice_map}
use Rattle.law_below_hubs.proofs.Seating.{IsSeated, seated, seated_through}
use Rattle.law_below_hubs.proofs.OutFollows.{out_follows}
use Rattle.law_below_hubs.proofs.HubsWork.{work_hubs}

-- ---- devices begin anew

begun_by : (b : Bool) (d : Device) (addr ep : ℕ) (s : Taker) → Takers.IsAtDevice addr ep (Some d) s
    → taker_of_device addr ep (Some (if b then begun d else d)) ≡ Some s
begun_by true d addr ep s at =
    let same : at.device ≡ d = sym (same_Some d at.device at.is) in
    subst (λ (x : Device). taker_of_device addr ep (Some (begun x)) ≡ Some s) same
    (Takers.device_taker (begun at.device) addr ep at.at.place (endpoint_begun at.at.endpoint) at.address
    (named_begun ep Ways.Out at.device.endpoints ∙ at.at.is)
    (slice_map endpoint_begun at.device.endpoints at.at.place ∙ ap (option_map endpoint_begun) at.at.here)
    ∙ ap (λ (p : Role). taker_of_part (part_begun p)) at.at.part.is ∙ ap (λ (x : Taker). Some x) (sym at.at.part.taker))
begun_by false d addr ep s at =
    ap (taker_of_device addr ep) at.is
    ∙ Takers.device_taker at.device addr ep at.at.place at.at.endpoint at.address at.at.is at.at.here
    ∙ ap taker_of_part at.at.part.is ∙ ap (λ (x : Taker). Some x) (sym at.at.part.taker)

begun_from : (frindex : ℕ) (o : Option Device) (addr ep : ℕ) (s : Taker) → taker_of_device addr ep o ≡ Some s
    → taker_of_device addr ep (option_map (begun_at frindex) o) ≡ Some s
begun_from frindex None addr ep s is = absurd cc
begun_from frindex (Some d) addr ep s is = begun_by (begins_anew d.speed frindex) d addr ep s (Takers.device_found addr ep (Some d) s is)

pub begun_taker : (fixed : Fixed) (frindex : ℕ) (devices : List Device) (addr ep : ℕ) (s : Taker)
    → end_in taker_of_device Tokens.Out fixed devices addr ep ≡ Some s
    → end_in taker_of_device Tokens.Out fixed (map (begun_at frindex) devices) addr ep ≡ Some s
begun_taker fixed frindex devices addr ep s is =
    let h : IsSeated taker_of_device Tokens.Out fixed devices addr ep s =
    seated taker_of_device Tokens.Out (λ addr ep. refl) fixed devices addr ep s is in
    seated_through taker_of_device Tokens.Out (λ addr ep. refl) fixed devices (map (begun_at frindex) devices) addr ep s h
    ∙ ap (taker_of_device addr ep) (slice_map (begun_at frindex) devices h.n)
    ∙ begun_from frindex (slice_get devices h.n) addr ep s h.is

-- ---- the work below is the device's half alone

works_below : (s : Line) (a : Pipe.Ask) (r : Pipe.Reply) (t : Line) → Works s a r t → SameSending s t
works_below s _ _ _ (accepts b x same) = record { known = refl; rest = refl; sends = refl; going = refl }
works_below s _ _ _ (drops b x differs) = record { known = refl; rest = refl; sends = refl; going = refl }
works_below s _ _ _ (refuses b x) = record { known = refl; rest = refl; sends = refl; going = refl }
works_below s _ _ _ (stalls b x) = record { known = refl; rest = refl; sends = refl; going = refl }

quiet_below : (s : Line) (a : Pipe.Ask) (t : Line) → Quiet s a t → SameSending s t
quiet_below s _ _ (unheard b x) = record { known = refl; rest = refl; sends = refl; going = refl }
quiet_below s _ _ (accepts_unheard b x same) = record { known = refl; rest = refl; sends = refl; going = refl }

sending_on : (l m t : Line) → SameSending l m → SameSending m t → SameSending l t
sending_on l m t one two = record {
  known = two.known ∙ one.known;
  rest = two.rest ∙ one.rest;
  sends = two.sends ∙ one.sends;
  going = two.going ∙ one.going;
}

-- a bus below shows the line, whose host is as it was
record ShowsHost (fixed : Fixed) (k : Key) (first : Line) (w : Below) (l : Line) : Type 0 where
  shows : ShowsTaker fixed k w l
  host : SameSending first l

host_follows : (fixed : Fixed) (k : Key) (way : Way) (first : Line)
    → Follows out_halves out_asked out_answer (Rightly (IsPut k) transacts_below) way k (ShowsTaker fixed k)
    → Follows out_halves out_asked out_answer (Rightly (IsPut k) transacts_below) way k (ShowsHost fixed k first)
host_follows fixed k way first f = record {
  works = λ w l a r v own shows made on.
      let t = f.works w l a r v own shows.shows made on in
      (t.0, t.1, record { shows = t.2; host = sending_on first l t.0 shows.host (works_below l (out_asked a) (out_answer r) t.0 t.1) });
  quiet = λ w l a r v own shows made off.
      let t = f.quiet w l a r v own shows.shows made off in
      (t.0, t.1, record { shows = t.2; host = sending_on first l t.0 shows.host (quiet_below l (out_asked a) t.0 t.1) });
  others = λ w l ask out r v apart shows made.
      record { shows = f.others w l ask out r v apart shows.shows made; host = shows.host };
  dead = f.dead;
}

-- ---- the law

record OnFloor (fixed : Fixed) (k : Key) (first : Line) (floor : Floor) (l : Line) : Type 0 where
  taker : end_in taker_of_device Tokens.Out fixed floor.devices k.addr k.ep ≡ Some (taker_of_line l)
  host : SameSending first l

pub out_work_is_events : OutWorkIsEvents
out_work_is_events way k hub place frindex s l u aside w outward has are is =
    let r = work_hubs out_halves out_asked out_answer w.fixed k way frindex (IsPut k) (ShowsHost w.fixed k l)
    (host_follows w.fixed k way l (out_follows w.fixed k outward way)) (OnFloor w.fixed k l)
    (λ h floor m on. record { shows = record { same = refl; taker = on.taker }; host = on.host })
    (λ v m shows. record {
      taker = sym (ap (λ (f : Fixed). end_in taker_of_device Tokens.Out f v.floor.devices k.addr k.ep) shows.shows.same)
          ∙ shows.shows.taker;
      host = shows.host;
    })
    u aside hub place w.bus.hubs (floor_of w.bus) s l
    (record { taker = is; host = record { known = refl; rest = refl; sends = refl; going = refl } }) has are in
    record {
      line = r.line;
      slot = r.slot;
      host = r.on.host;
      taker = begun_taker w.fixed frindex (floor_worked w.fixed w.bus.hubs (floor_of w.bus)).devices k.addr k.ep
          (taker_of_line r.line) r.on.taker;
      has = r.has;
      right = r.are;
      run = r.run;
    }
