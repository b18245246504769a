-- What is known of the bus of a script stands before the first line, and after each transaction and each beginning of a microframe.
use Rattle.std.proofs.Common.{◌≡◌, ◌≢◌, ℕ, zero, suc, true, false, List, [], ◌∷◌, map, length, replicate, slice_get, Option, Some, None}
use Rattle.std.proofs.Common.{ap, refl, sym, ◌∙◌, ⊎_elim, inl, inr}
use Rattle.std.specs.Prelude.{is_some, ◌⊎◌}
use Rattle.std.specs.List.{AllByRecursion, list_any}
use Rattle.std.specs.Option.{option_map}
use Rattle.std.proofs.lemmas.Bool.{cases_eq}
use Rattle.std.proofs.lemmas.Option.{slice_get-map}
use Rattle.law_common.proofs.Lists.{all_map, nth_all}
use Rattle.usb_base.specs.declared.packets.Ask.{Ask}
use Rattle.usb_base.specs.declared.packets.EpKind.{EpKind}
use Rattle.usb_base.specs.declared.packets.EpKind.TheVariants as kinds
use Rattle.usb_base.specs.declared.packets.Split.{Split}
use Rattle.usb_base.specs.declared.packets.Split.TheVariants as splits
use Rattle.usb_base.specs.declared.packets.Way.{Way}
use Rattle.usb_base.specs.declared.packets.Way.TheVariants as ways
use Rattle.script_types.specs.declared.devices.DeviceText.{DeviceText}
use Rattle.script_types.specs.declared.devices.EpText.{EpText}
use Rattle.script_types.specs.declared.devices.HubText.{HubText}
use Rattle.script_types.specs.declared.scripts.Script.{Script}
use Rattle.dev_control.specs.declared.rows.StageToken.{StageToken}
use Rattle.dev_control.specs.declared.rows.StageToken.TheVariants as stages
use Rattle.dev_control.specs.Stages.{token_of}
use Rattle.endpoint_script.specs.declared.endpoint.Endpoint.{Endpoint}
use Rattle.endpoint_script.specs.Device.{opened_part, opened_endpoint, opening}
use Rattle.hub_class.specs.HubContent.{HubContent}
use Rattle.hub_class.specs.HubContent as Hubs
use Rattle.bus_wire.specs.Seats.{seats_of}
use Rattle.bus_wire.specs.Bus.{Bus, Wired, fixed_of, floor_of, opening_bus, asked_of, reply_of, transact_after}
use Rattle.bus_wire.specs.Bus.{is_allowed, begin_after}
use Rattle.claims_report.specs.ControlSides.{Device as Side}
use Rattle.law_devices.specs.Controls.{control_of}
use Rattle.claims_world.specs.Quiet.{is_nyet, IsHeardAbove, KeepsHandshakes}
use Rattle.law_request.specs.Host.{Endpoint as Own}
use Rattle.law_devices.specs.request_calls.Bus.{device_of, IsAskFor, IsAnswered}
use Rattle.law_devices.proofs.lemmas.scripted_requests.Asking.{a_scripted_bus_answers_by_stages}
use Rattle.law_devices.proofs.lemmas.scripted_requests.Beginning.{keeps_devices}
use Rattle.law_microframes.specs.due.repeats.Hearing.{HasNumber}
use Rattle.law_microframes.proofs.lemmas.due.lemmas.repeats.Alike.{AreAlike, worked_alike, asks_alike_at, at_alike, asks_keep_number}
use Rattle.law_reports.specs.quiet.Heard.{PartHasHandshakes, HasHandshakes, IsOfText, IsHeardBus}
use Rattle.law_reports.proofs.lemmas.quiet.Buses.{ask_keeps_texts, begin_keeps_texts}

-- ---- control endpoints stay

pub record IsThere {A : Type 0} (o : Option A) : Type 0 where
  pub value : A
  pub is : o ≡ Some value

pub there_is : {A : Type 0} (o : Option A) → is_some o ≡ true → IsThere o
there_is None some = absurd (cc)
there_is (Some x) some = record { value = x; is = refl }

pub is_there : {A : Type 0} (o : Option A) (x : A) → o ≡ Some x → is_some o ≡ true
is_there o x is = ap is_some is

no_plain_start : (hub port : ℕ) (part : _) → splits.Start hub port part ≡ splits.Plain → ⊥
no_plain_start hub port part e = cc

no_plain_complete : (hub port : ℕ) → splits.Complete hub port ≡ splits.Plain → ⊥
no_plain_complete hub port e = cc

split_is : (x : Split) → (x ≡ splits.Plain) ⊎ (x ≢ splits.Plain)
split_is splits.Plain = inl refl
split_is (splits.Start hub port part) = inr (no_plain_start hub port part)
split_is (splits.Complete hub port) = inr (no_plain_complete hub port)

token_is : (t : StageToken) → (t ≡ stages.Other) ⊎ (t ≢ stages.Other)
token_is stages.Other = inl refl
token_is stages.Setup = inr (λ e. cc)
token_is stages.In = inr (λ e. cc)
token_is stages.Out = inr (λ e. cc)
token_is stages.Ping = inr (λ e. cc)

asked_or_not : (addr num : ℕ) (ask : Ask) → IsAskFor addr num ask ⊎ (IsAskFor addr num ask → ⊥)
asked_or_not addr num ask =
    ⊎_elim
    (λ (plain : ask.split ≡ splits.Plain).
    ⊎_elim (λ (other : token_of ask.pid ≡ stages.Other). inr (λ (k : IsAskFor addr num ask). k.token other))
    (λ (token : token_of ask.pid ≢ stages.Other).
    ⊎_elim
    (λ (address : addr ≡ ask.addr).
    ⊎_elim (λ (number : num ≡ ask.ep). inl (record { plain = plain; token = token; address = address; number = number }))
    (λ (differs : num ≢ ask.ep). inr (λ (k : IsAskFor addr num ask). differs k.number)) (cases_eq num ask.ep))
    (λ (differs : addr ≢ ask.addr). inr (λ (k : IsAskFor addr num ask). differs k.address)) (cases_eq addr ask.addr))
    (token_is (token_of ask.pid)))
    (λ (split : ask.split ≢ splits.Plain). inr (λ (k : IsAskFor addr num ask). split k.plain)) (split_is ask.split)

own_of : ℕ → ℕ → Side → Own
own_of addr num d = record { addr = addr; num = num; max = 0; known = d.known }

side_is : (addr num : ℕ) (d : Side) → device_of (own_of addr num d) d.stages ≡ d
unfolding own_of
side_is addr num d = refl

module _ (w : Wired) (ask : Ask) (out : List ℕ) (addr num : ℕ) (d : Side) (is : control_of w addr num ≡ Some d) where
  abbrev next : Wired
  next = record w { bus = transact_after w.fixed w.bus ask out }

  asked_stays : IsAskFor addr num ask → is_some (control_of next addr num) ≡ true
  unfolding own_of
  asked_stays k =
      let a : IsAnswered (own_of addr num d) ask out d.stages (reply_of w.fixed w.bus ask out) (control_of next addr num) =
      a_scripted_bus_answers_by_stages.asked w ask out (reply_of w.fixed w.bus ask out) next (own_of addr num d) d.stages (refl, refl) k
      (is ∙ ap Some (sym (side_is addr num d))) in
      ap is_some a.left

  pub control_stays : is_some (control_of next addr num) ≡ true
  control_stays =
      ⊎_elim asked_stays
      (λ (other : IsAskFor addr num ask → ⊥).
      is_there (control_of next addr num) d
      (a_scripted_bus_answers_by_stages.others w ask out (reply_of w.fixed w.bus ask out) next addr num d (refl, refl) is other))
      (asked_or_not addr num ask)

control_begins : (w : Wired) (frindex addr num : ℕ) (d : Side) → control_of w addr num ≡ Some d
    → is_some (control_of (record w { bus = begin_after w.fixed frindex w.bus }) addr num) ≡ true
control_begins w frindex addr num d is =
    is_there _ d (keeps_devices w frindex (is_allowed w.fixed w.bus) (record w { bus = begin_after w.fixed frindex w.bus }) addr num d
    (refl, refl) is)

-- ---- each event

module _ (s : Script) (b : Bus) (k : IsHeardBus s b) where
  hubs_alike : (hs : List HubContent) → AreAlike b.hubs hs → (n : ℕ) (h : HubText) → slice_get s.hubs n ≡ Some h
      → (x : HubContent) × (slice_get hs n ≡ Some x) × (x.address ≡ h.addr)
  hubs_alike hs alike n h here =
      let was = k.hubs n h here in
      let now = at_alike b.hubs hs n was.0 alike was.1 in
      (now.0, now.1, now.2.address ∙ was.2)

  pub ask_keeps_bus : (ask : Ask) (out : List ℕ) → IsHeardBus s (transact_after (fixed_of s) b ask out)
  ask_keeps_bus ask out = record {
    numbers = λ place seat here. asks_keep_number (fixed_of s) b ask out place (k.numbers place seat here);
    hubs = hubs_alike _ (asks_alike_at (fixed_of s) b ask out (asked_of (fixed_of s) b ask));
    devices = ask_keeps_texts s (fixed_of s) b ask out k.devices;
    controls = λ addr num was.
        let d : IsThere (control_of (record { fixed = fixed_of s; bus = b }) addr num) = there_is _ (k.controls addr num was) in
        control_stays (record { fixed = fixed_of s; bus = b }) ask out addr num d.value d.is;
  }

  pub begin_keeps_bus : (frindex : ℕ) → IsHeardBus s (begin_after (fixed_of s) frindex b)
  begin_keeps_bus frindex = record {
    numbers = λ place seat here.
        let n : HasNumber b place = k.numbers place seat here in
        record { number = n.number; is = n.is };
    hubs = hubs_alike _ (worked_alike (fixed_of s) frindex b.hubs (floor_of b));
    devices = begin_keeps_texts s (fixed_of s) frindex b k.devices;
    controls = λ addr num was.
        let d : IsThere (control_of (record { fixed = fixed_of s; bus = b }) addr num) = there_is _ (k.controls addr num was) in
        control_begins (record { fixed = fixed_of s; bus = b }) frindex addr num d.value d.is;
  }

-- ---- before the first line

pub zeros : {A : Type 0} (xs : List A) (i : ℕ) (x : A) → slice_get xs i ≡ Some x → slice_get {X = ℕ} (replicate (length xs) 0) i ≡ Some 0
zeros [] i x here = absurd (cc)
zeros (y ∷ ys) zero x here = refl
zeros (y ∷ ys) (suc i) x here = zeros ys i x here

opened_part_has : (way : Way) (kind : EpKind) (t : EpText) → (kind ≡ kinds.Interrupt → list_any is_nyet t.items ≡ false)
    → kind ≡ kinds.Interrupt → PartHasHandshakes (opened_part way kind t)
opened_part_has ways.Ctl kind t none is = tt
opened_part_has ways.In kinds.Iso t none is = tt
opened_part_has ways.In kinds.Bulk t none is = tt
opened_part_has ways.In kinds.Control t none is = tt
opened_part_has ways.In kinds.Interrupt t none is = tt
opened_part_has ways.Out kinds.Iso t none is = tt
opened_part_has ways.Out kinds.Bulk t none is = none is
opened_part_has ways.Out kinds.Control t none is = none is
opened_part_has ways.Out kinds.Interrupt t none is = none is

endpoint_has : (t : EpText) → KeepsHandshakes t → HasHandshakes (opened_endpoint t)
endpoint_has t keeps kind high = opened_part_has t.desc.name.way t.desc.kind t (λ is. keeps is high) kind

descs_opened : (ts : List EpText) → map (λ (x : Endpoint). x.desc) (map opened_endpoint ts) ≡ map (λ (t : EpText). t.desc) ts
descs_opened [] = refl
descs_opened (t ∷ ts) = ap (λ (more : List _). t.desc ∷ more) (descs_opened ts)

module _ (s : Script) where
  opening_text : (n : ℕ) (t : DeviceText) → slice_get s.devices n ≡ Some t → AllByRecursion KeepsHandshakes t.eps → IsOfText s (opening t)
  opening_text n t here keeps = record {
    place = n;
    text = t;
    there = here;
    address = refl;
    descs = descs_opened t.eps;
    handshakes = all_map KeepsHandshakes HasHandshakes opened_endpoint t.eps endpoint_has keeps;
  }

  opening_texts : (ds : List DeviceText) → ((n : ℕ) (t : DeviceText) → slice_get ds n ≡ Some t → IsOfText s (opening t))
      → AllByRecursion (IsOfText s) (map opening ds)
  opening_texts [] each = tt
  opening_texts (d ∷ ds) each = (each zero d refl, opening_texts ds (λ n t here. each (suc n) t here))

  pub opening_keeps_bus : IsHeardAbove s → IsHeardBus s (opening_bus s)
  opening_keeps_bus heard = record {
    numbers = λ place seat here. record { number = 0; is = zeros (seats_of s) place seat here };
    hubs = λ n h here. (Hubs.opening h, slice_get-map Hubs.opening s.hubs n ∙ ap (option_map Hubs.opening) here, refl);
    devices = opening_texts s.devices
        (λ n t here. opening_text n t here
        (nth_all (λ (device : DeviceText). AllByRecursion KeepsHandshakes device.eps) s.devices n t heard.handshakes here));
    controls = λ addr num was. was;
  }
