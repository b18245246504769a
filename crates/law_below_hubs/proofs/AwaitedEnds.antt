-- The devices of endpoints below hubs are there throughout, and answer as a device at full or low speed may.
use Rattle.std.proofs.Common.{◌≡◌, ◌≢◌, ℕ, Bool, true, false, if◌then◌else◌, List, [], ◌∷◌, map, slice_get, Option, Some, None}
use Rattle.std.proofs.Common.{ap, refl, sym, subst, ◌∙◌, ⊎_elim, inl, inr}
use Rattle.std.specs.Prelude.{◌⊎◌, is_some}
use Rattle.std.specs.Option.{option_and_then, option_map}
use Rattle.std.proofs.lemmas.Bool.{cases_eq, eq-eqb, false≢true}
use Rattle.usb_base.specs.declared.packets.Ask.{Ask}
use Rattle.usb_base.specs.declared.packets.Dir.{Dir}
use Rattle.usb_base.specs.declared.packets.Dir.TheVariants as Directions
use Rattle.usb_base.specs.declared.packets.Pid.{Pid}
use Rattle.usb_base.specs.declared.packets.Pid.TheVariants as Pids
use Rattle.usb_base.specs.declared.packets.Reply.{Reply}
use Rattle.usb_base.specs.declared.packets.Reply.TheVariants.{Silent, Hand}
use Rattle.usb_base.specs.declared.packets.Speed.{Speed}
use Rattle.usb_base.specs.declared.packets.Speed.TheVariants.{High, Full, Low}
use Rattle.usb_base.specs.declared.packets.Split.{Split}
use Rattle.usb_base.specs.declared.packets.Split.TheVariants.{Plain, Start, Complete}
use Rattle.usb_base.specs.declared.packets.Way.TheVariants as Ways
use Rattle.script_types.specs.declared.devices.Item.{Item}
use Rattle.script_types.specs.declared.devices.Item.TheVariants as items
use Rattle.dev_control.specs.declared.rows.StageToken.TheVariants as Stage
use Rattle.dev_control.specs.Stages.{token_of, sequence_of}
use Rattle.endpoint_script.specs.declared.endpoint.Endpoint.{Endpoint}
use Rattle.endpoint_script.specs.declared.endpoint.Role.{Role}
use Rattle.endpoint_script.specs.declared.rows.TakeRow.{TakeRow}
use Rattle.endpoint_script.specs.declared.rows.TakeRow.TheVariants as rows
use Rattle.endpoint_script.specs.Device.{Device, place_named, or_else, place_for as place_in_device, endpoint_at, reply_from, part_reply}
use Rattle.endpoint_script.specs.Sending.{sent_reply, sending_reply}
use Rattle.endpoint_script.specs.Taking.{is_ping, take_row, row_reply, taking_reply}
use Rattle.bus_wire.specs.declared.asked.Answerer.{Answerer}
use Rattle.bus_wire.specs.declared.asked.Answerer.TheVariants as Answerers
use Rattle.bus_wire.specs.declared.asked.Asked.{Asked}
use Rattle.bus_wire.specs.declared.seats.Seat.{Seat}
use Rattle.bus_wire.specs.declared.seats.TokenKind.TheVariants as Tokens
use Rattle.bus_wire.specs.Asking.{device_answer}
use Rattle.bus_wire.specs.Below.{Below, hears_at, asked_below_at, asked_below, floor_answer, below_row, below_reply_at, below_reply}
use Rattle.bus_wire.specs.Bus.{Wired, begun_at}
use Rattle.bus_wire.specs.Fixed.{Fixed}
use Rattle.bus_wire.specs.Seats.{token_kind, place_for}
use Rattle.bus_wire.specs.WhoHeard.{asker_hears}
use Rattle.claims_report.specs.ControlSides.{Device as Side}
use Rattle.law_request.specs.Host.{Endpoint as Controlled}
use Rattle.law_devices.specs.request_calls.Bus.{IsAskFor, IsControlBus}
use Rattle.law_ring.specs.Bus.{Sender, IsStreamAsk, IsBus, HasAnswered}
use Rattle.law_ring.specs.OutBus.{Taker, IsOutAsk, IsOutBus, HasTaken}
use Rattle.law_devices.specs.Senders.{sender_of_device}
use Rattle.law_devices.specs.scripted_takers.Takers.{taker_of_device}
use Rattle.law_devices.specs.scripted_requests.Controls.{transacts_by}
use Rattle.law_devices.proofs.Asking.{IsAtDevice, device_found}
use Rattle.law_devices.proofs.lemmas.scripted_takers.Asking as Takers
use Rattle.law_below_hubs.specs.Awaited.{suits, IsTokenOf, of_in, of_out, of_setup, HasEnd, AnswersSuit}
use Rattle.law_below_hubs.specs.Raised.{transacts_below}
use Rattle.law_below_hubs.specs.Seated.{end_in}
use Rattle.law_below_hubs.specs.SeatedControls.{control_in, control_at, control_on}
use Rattle.law_below_hubs.proofs.AwaitedControls.{data_suits, reply_or, IsToken, by_setup, by_in, by_out, control_suits}
use Rattle.law_below_hubs.proofs.ControlBegin.{begun_control}
use Rattle.law_below_hubs.proofs.ControlBuses.{controls_on, controls_at}
use Rattle.law_below_hubs.proofs.HighBuses.{senders_above, takers_above}
use Rattle.law_below_hubs.proofs.InBegin.{begun_sender}
use Rattle.law_below_hubs.proofs.LowBuses.{all_senders_below, all_takers_below, asked_or_not}
use Rattle.law_below_hubs.proofs.Moves.{silence_heard}
use Rattle.law_below_hubs.proofs.OutBegin.{begun_taker}
use Rattle.law_below_hubs.proofs.Seating.{IsSeated, seated}

abbrev always : ℕ → ℕ → Bool
always addr ep = true

record IsThere {A : Type 0} (o : Option A) : Type 0 where
  value : A
  is : o ≡ Some value

there_is : {A : Type 0} (o : Option A) → is_some o ≡ true → IsThere o
there_is None some = absurd (cc)
there_is (Some x) some = record { value = x; is = refl }

is_there : {A : Type 0} (o : Option A) (x : A) → o ≡ Some x → is_some o ≡ true
is_there o x is = ap is_some is

split_is : (x : Split) → (x ≡ Plain) ⊎ (x ≢ Plain)
split_is Plain = inl refl
split_is (Start hub port part) = inr (λ e. cc)
split_is (Complete hub port) = inr (λ e. cc)

is_in : (pid : Pid) → (pid ≡ Pids.In) ⊎ (pid ≢ Pids.In)
is_in Pids.In = inl refl
is_in _ = inr (λ e. cc)

is_out : (pid : Pid) → (pid ≡ Pids.Out) ⊎ (pid ≢ Pids.Out)
is_out Pids.Out = inl refl
is_out _ = inr (λ e. cc)

-- ---- an endpoint stays on its bus

-- it is asked, or isn't
asked_in : (addr ep : ℕ) (ask : Ask) → (IsStreamAsk always ask × (ask.addr ≡ addr) × (ask.ep ≡ ep))
    ⊎ (IsStreamAsk always ask → (addr ≡ ask.addr) × (ep ≡ ask.ep) → ⊥)
asked_in addr ep ask =
    ⊎_elim
    (λ (plain : ask.split ≡ Plain).
    ⊎_elim
    (λ (token : ask.pid ≡ Pids.In).
    ⊎_elim
    (λ (a : ask.addr ≡ addr).
    ⊎_elim (λ (e : ask.ep ≡ ep). inl (record { plain = plain; token = token; on = refl }, a, e))
    (λ (differs : ask.ep ≢ ep). inr (λ k at. differs (sym at.1))) (cases_eq ask.ep ep))
    (λ (differs : ask.addr ≢ addr). inr (λ k at. differs (sym at.0))) (cases_eq ask.addr addr))
    (λ (other : ask.pid ≢ Pids.In). inr (λ (k : IsStreamAsk always ask) at. other k.token)) (is_in ask.pid))
    (λ (split : ask.split ≢ Plain). inr (λ (k : IsStreamAsk always ask) at. split k.plain)) (split_is ask.split)

asked_out : (addr ep : ℕ) (ask : Ask) → (IsOutAsk always ask × (ask.addr ≡ addr) × (ask.ep ≡ ep))
    ⊎ (IsOutAsk always ask → (addr ≡ ask.addr) × (ep ≡ ask.ep) → ⊥)
asked_out addr ep ask =
    ⊎_elim
    (λ (plain : ask.split ≡ Plain).
    ⊎_elim
    (λ (token : ask.pid ≡ Pids.Out).
    ⊎_elim
    (λ (a : ask.addr ≡ addr).
    ⊎_elim (λ (e : ask.ep ≡ ep). inl (record { plain = plain; token = token; on = refl }, a, e))
    (λ (differs : ask.ep ≢ ep). inr (λ k at. differs (sym at.1))) (cases_eq ask.ep ep))
    (λ (differs : ask.addr ≢ addr). inr (λ k at. differs (sym at.0))) (cases_eq ask.addr addr))
    (λ (other : ask.pid ≢ Pids.Out). inr (λ (k : IsOutAsk always ask) at. other k.token)) (is_out ask.pid))
    (λ (split : ask.split ≢ Plain). inr (λ (k : IsOutAsk always ask) at. split k.plain)) (split_is ask.split)

token_or : (pid : Pid) → (token_of pid ≡ Stage.Other) ⊎ (token_of pid ≢ Stage.Other)
token_or Pids.Setup = inr (λ e. cc)
token_or Pids.In = inr (λ e. cc)
token_or Pids.Out = inr (λ e. cc)
token_or Pids.Ping = inr (λ e. cc)
token_or _ = inl refl

asked_control : (addr num : ℕ) (ask : Ask) → IsAskFor addr num ask ⊎ (IsAskFor addr num ask → ⊥)
asked_control addr num ask =
    ⊎_elim
    (λ (plain : ask.split ≡ Plain).
    ⊎_elim (λ (other : token_of ask.pid ≡ Stage.Other). inr (λ (k : IsAskFor addr num ask). k.token other))
    (λ (token : token_of ask.pid ≢ Stage.Other).
    ⊎_elim
    (λ (a : addr ≡ ask.addr).
    ⊎_elim (λ (e : num ≡ ask.ep). inl (record { plain = plain; token = token; address = a; number = e }))
    (λ (differs : num ≢ ask.ep). inr (λ (k : IsAskFor addr num ask). differs k.number)) (cases_eq num ask.ep))
    (λ (differs : addr ≢ ask.addr). inr (λ (k : IsAskFor addr num ask). differs k.address)) (cases_eq addr ask.addr)) (token_or ask.pid))
    (λ (split : ask.split ≢ Plain). inr (λ (k : IsAskFor addr num ask). split k.plain)) (split_is ask.split)

module _ {W : Type 0} (transacts : W → Ask → List ℕ → Reply → W → Type 0) (w : W) (ask : Ask) (out : List ℕ) (reply : Reply) (v : W)
    (made : transacts w ask out reply v) (addr ep : ℕ) where
  sender_stays : (sender : W → ℕ → ℕ → Option Sender) → IsBus transacts always sender → is_some (sender w addr ep) ≡ true
      → is_some (sender v addr ep) ≡ true
  sender_stays sender bus some =
      let s : IsThere (sender w addr ep) = there_is (sender w addr ep) some in
      ⊎_elim
      (λ (k : IsStreamAsk always ask × (ask.addr ≡ addr) × (ask.ep ≡ ep)).
      let a : HasAnswered ask s.value reply (sender v ask.addr ask.ep) =
      bus.asked w ask out reply v s.value made k.0 (ap (λ (n : ℕ). sender w n ask.ep) k.1 ∙ ap (sender w addr) k.2 ∙ s.is) in
      is_there (sender v addr ep) a.sender
      (sym (ap (λ (n : ℕ). sender v n ask.ep) k.1 ∙ ap (sender v addr) k.2) ∙ a.is))
      (λ (other : IsStreamAsk always ask → (addr ≡ ask.addr) × (ep ≡ ask.ep) → ⊥).
      is_there (sender v addr ep) s.value (bus.others w ask out reply v addr ep s.value made refl s.is other)) (asked_in addr ep ask)

  taker_stays : (taker : W → ℕ → ℕ → Option Taker) → IsOutBus transacts always taker → is_some (taker w addr ep) ≡ true
      → is_some (taker v addr ep) ≡ true
  taker_stays taker bus some =
      let s : IsThere (taker w addr ep) = there_is (taker w addr ep) some in
      ⊎_elim
      (λ (k : IsOutAsk always ask × (ask.addr ≡ addr) × (ask.ep ≡ ep)).
      let a : HasTaken ask out s.value reply (taker v ask.addr ask.ep) =
      bus.asked w ask out reply v s.value made k.0 (ap (λ (n : ℕ). taker w n ask.ep) k.1 ∙ ap (taker w addr) k.2 ∙ s.is) in
      is_there (taker v addr ep) a.taker
      (sym (ap (λ (n : ℕ). taker v n ask.ep) k.1 ∙ ap (taker v addr) k.2) ∙ a.is))
      (λ (other : IsOutAsk always ask → (addr ≡ ask.addr) × (ep ≡ ask.ep) → ⊥).
      is_there (taker v addr ep) s.value (bus.others w ask out reply v addr ep s.value made refl s.is other)) (asked_out addr ep ask)

  control_stays : (control : W → ℕ → ℕ → Option Side) → IsControlBus transacts control → is_some (control w addr ep) ≡ true
      → is_some (control v addr ep) ≡ true
  control_stays control bus some =
      let s : IsThere (control w addr ep) = there_is (control w addr ep) some in
      let e : Controlled = record { addr = addr; num = ep; max = 0; known = s.value.known } in
      ⊎_elim
      (λ (k : IsAskFor addr ep ask).
      is_there (control v addr ep) _ (bus.asked w ask out reply v e s.value.stages made k s.is).left)
      (λ (other : IsAskFor addr ep ask → ⊥).
      is_there (control v addr ep) s.value (bus.others w ask out reply v addr ep s.value made s.is other))
      (asked_control addr ep ask)

pub ask_keeps_end : (control : Bool) (dir : Dir) (w : Wired) (ask : Ask) (out : List ℕ) (reply : Reply) (v : Wired) (addr ep : ℕ)
    → transacts_by w ask out reply v → HasEnd control dir w.fixed w.bus.devices addr ep → HasEnd control dir v.fixed v.bus.devices addr ep
ask_keeps_end false Directions.In w ask out reply v addr ep made some =
    sender_stays transacts_by w ask out reply v made addr ep (λ x a n. end_in sender_of_device Tokens.In x.fixed x.bus.devices a n)
    (senders_above always) some
ask_keeps_end false Directions.Out w ask out reply v addr ep made some =
    taker_stays transacts_by w ask out reply v made addr ep (λ x a n. end_in taker_of_device Tokens.Out x.fixed x.bus.devices a n)
    (takers_above always) some
ask_keeps_end true dir w ask out reply v addr ep made some =
    control_stays transacts_by w ask out reply v made addr ep control_at controls_at some

pub below_keeps_end : (control : Bool) (dir : Dir) (w : Below) (ask : Ask) (out : List ℕ) (reply : Reply) (v : Below) (addr ep : ℕ)
    → transacts_below w ask out reply v → HasEnd control dir w.fixed w.floor.devices addr ep
    → HasEnd control dir v.fixed v.floor.devices addr ep
below_keeps_end false Directions.In w ask out reply v addr ep made some =
    sender_stays transacts_below w ask out reply v made addr ep (λ x a n. end_in sender_of_device Tokens.In x.fixed x.floor.devices a n)
    (all_senders_below always) some
below_keeps_end false Directions.Out w ask out reply v addr ep made some =
    taker_stays transacts_below w ask out reply v made addr ep (λ x a n. end_in taker_of_device Tokens.Out x.fixed x.floor.devices a n)
    (all_takers_below always) some
below_keeps_end true dir w ask out reply v addr ep made some =
    control_stays transacts_below w ask out reply v made addr ep control_on controls_on some

pub begun_keeps_end : (control : Bool) (dir : Dir) (fixed : Fixed) (frindex : ℕ) (devices : List Device) (addr ep : ℕ)
    → HasEnd control dir fixed devices addr ep → HasEnd control dir fixed (map (begun_at frindex) devices) addr ep
begun_keeps_end false Directions.In fixed frindex devices addr ep some =
    let s : IsThere (end_in sender_of_device Tokens.In fixed devices addr ep) = there_is _ some in
    is_there _ s.value (begun_sender fixed frindex devices addr ep s.value s.is)
begun_keeps_end false Directions.Out fixed frindex devices addr ep some =
    let s : IsThere (end_in taker_of_device Tokens.Out fixed devices addr ep) = there_is _ some in
    is_there _ s.value (begun_taker fixed frindex devices addr ep s.value s.is)
begun_keeps_end true dir fixed frindex devices addr ep some =
    let s : IsThere (control_in fixed devices addr ep) = there_is _ some in
    is_there _ s.value (begun_control fixed frindex devices addr ep s.value s.is)

-- ---- what a device answers

sent_suits : (toggle : Bool) (xs : List Item) → suits Pids.In (sent_reply toggle xs) ≡ true
sent_suits toggle (items.Bytes bytes ∷ xs) = data_suits toggle bytes
sent_suits toggle [] = refl
sent_suits toggle (items.Nak n ∷ xs) = refl
sent_suits toggle (items.Stall ∷ xs) = refl
sent_suits toggle (items.Nyet ∷ xs) = refl
sent_suits toggle (items.Request setup bytes ∷ xs) = refl
sent_suits toggle (items.Epoch ∷ xs) = refl

-- NYET stands at high speed alone, and no translator takes it for an answer (8.5.1)
abbrev pub IsNyet : Reply → Type 0
IsNyet r = r ≡ Hand Pids.Nyet

abbrev SuitsOut : Reply → Type 0
SuitsOut r = IsNyet r ⊎ (suits Pids.Out r ≡ true)

last_suits : (speed : Speed) → SuitsOut (row_reply speed rows.TakesLast)
last_suits High = inl refl
last_suits Full = inr refl
last_suits Low = inr refl

row_suits : (speed : Speed) (row : TakeRow) → SuitsOut (row_reply speed row)
row_suits speed rows.Drops = inr refl
row_suits speed rows.Naks = inr refl
row_suits speed rows.IsFull = inr refl
row_suits speed rows.Stalls = inr refl
row_suits speed rows.Takes = inr refl
row_suits speed rows.TakesLast = last_suits speed
row_suits speed rows.HasRoom = inr refl

-- ---- who answers below

module _ (w : Below) (ask : Ask) (out : List ℕ) (place : ℕ) (seat : Seat) (n : ℕ)
    (found : place_for w.fixed.seats ask.addr ask.ep (token_kind ask.pid) ≡ Some place)
    (there : slice_get w.fixed.seats place ≡ Some seat)
    (who : (hears_at w seat.owner ≡ Answerers.Device n) ⊎ (hears_at w seat.owner ≡ Answerers.Nobody)) where
  abbrev IsHeard : Reply → Type 0
  IsHeard r = (r ≡ Silent) ⊎ (r ≡ device_answer (slice_get w.floor.devices n) ask out)

  by_who : (e : Asked) → (e.who ≡ Answerers.Device n) ⊎ (e.who ≡ Answerers.Nobody) → IsHeard (below_reply_at w ask out (Some e))
  by_who e (inl device) =
      ⊎_elim (λ (silent : asker_hears (below_row w e ask out) (floor_answer w.floor e.who ask out) ≡ Silent). inl silent)
      (λ (same : asker_hears (below_row w e ask out) (floor_answer w.floor e.who ask out) ≡ floor_answer w.floor e.who ask out).
      inr (same ∙ ap (λ (x : Answerer). floor_answer w.floor x ask out) device))
      (reply_or (below_row w e ask out) (floor_answer w.floor e.who ask out))
  by_who e (inr nobody) =
      inl (ap (λ (x : Answerer). asker_hears (below_row w e ask out) (floor_answer w.floor x ask out)) nobody
      ∙ silence_heard (below_row w e ask out))

  abbrev who_is : Answerer → Option Asked → Type 0
  who_is a None = Unit {0}
  who_is a (Some e) = e.who ≡ a

  packet_who : (o : Option ℕ)
      → who_is (hears_at w seat.owner) (option_map (λ (packet : ℕ). record
      { place = place; name = seat.name; packet = packet; who = hears_at w seat.owner }) o)
  packet_who None = tt
  packet_who (Some packet) = refl

  its_who : who_is (hears_at w seat.owner) (asked_below w ask)
  its_who =
      subst (who_is (hears_at w seat.owner))
      (sym (ap (option_and_then (asked_below_at w)) found
      ∙ ap (option_and_then
      (λ (seat : Seat). option_map
      (λ (packet : ℕ). record { place = place; name = seat.name; packet = packet; who = hears_at w seat.owner })
      (slice_get w.floor.numbers place))) there))
      (packet_who (slice_get w.floor.numbers place))

  by_asked : (o : Option Asked) → who_is (hears_at w seat.owner) o → IsHeard (below_reply_at w ask out o)
  by_asked None is = inl refl
  by_asked (Some e) is =
      by_who e (⊎_elim (λ (d : hears_at w seat.owner ≡ Answerers.Device n). inl (is ∙ d))
      (λ (none : hears_at w seat.owner ≡ Answerers.Nobody). inr (is ∙ none)) who)

  device_heard : IsHeard (below_reply w ask out)
  device_heard = by_asked (asked_below w ask) its_who

-- ---- the law

module _ (w : Below) (ask : Ask) (out : List ℕ) where
  sender_heard : ask.pid ≡ Pids.In → HasEnd false Directions.In w.fixed w.floor.devices ask.addr ask.ep → below_reply w ask out ≢ Silent
      → suits ask.pid (below_reply w ask out) ≡ true
  sender_heard token some answered =
      let s : IsThere (end_in sender_of_device Tokens.In w.fixed w.floor.devices ask.addr ask.ep) = there_is _ some in
      let h : IsSeated sender_of_device Tokens.In w.fixed w.floor.devices ask.addr ask.ep s.value =
      seated sender_of_device Tokens.In (λ addr ep. refl) w.fixed w.floor.devices ask.addr ask.ep s.value s.is in
      let at : IsAtDevice ask.addr ask.ep (slice_get w.floor.devices h.n) s.value =
      device_found ask.addr ask.ep (slice_get w.floor.devices h.n) s.value h.is in
      let answer : device_answer (slice_get w.floor.devices h.n) ask out ≡ sending_reply at.at.part.sending =
      ap (λ (o : Option Device). device_answer o ask out) at.is
      ∙ ap (λ (c : Bool). reply_from at.device.speed (endpoint_at at.device.endpoints
      (if c then place_in_device (token_of ask.pid) at.device.endpoints ask.ep else None)) ask out)
      (eq-eqb ask.addr at.device.address at.address)
      ∙ ap (λ (pid : Pid). reply_from at.device.speed (endpoint_at at.device.endpoints
      (place_in_device (token_of pid) at.device.endpoints ask.ep)) ask out) token
      ∙ ap (λ (o : Option ℕ). reply_from at.device.speed (endpoint_at at.device.endpoints (or_else o
      (place_named at.device.endpoints ask.ep Ways.Ctl))) ask out) at.at.is
      ∙ ap (λ (o : Option Endpoint). reply_from at.device.speed o ask out) at.at.here
      ∙ ap (λ (p : Role). part_reply at.device.speed p ask out) at.at.part.is in
      ⊎_elim (λ (silent : below_reply w ask out ≡ Silent). absurd (answered silent))
      (λ (is : below_reply w ask out ≡ device_answer (slice_get w.floor.devices h.n) ask out).
      ap (suits ask.pid) (is ∙ answer) ∙ ap (λ (pid : Pid). suits pid (sending_reply at.at.part.sending)) token
      ∙ sent_suits at.at.part.sending.toggle at.at.part.sending.items)
      (device_heard w ask out h.place h.seat h.n
      (ap (λ (pid : Pid). place_for w.fixed.seats ask.addr ask.ep (token_kind pid)) token ∙ h.found) h.there
      (asked_or_not w h.seat.owner h.n h.owner))

  taker_heard : ask.pid ≡ Pids.Out → HasEnd false Directions.Out w.fixed w.floor.devices ask.addr ask.ep → below_reply w ask out ≢ Silent
      → below_reply w ask out ≢ Hand Pids.Nyet → suits ask.pid (below_reply w ask out) ≡ true
  taker_heard token some answered known =
      let s : IsThere (end_in taker_of_device Tokens.Out w.fixed w.floor.devices ask.addr ask.ep) = there_is _ some in
      let h : IsSeated taker_of_device Tokens.Out w.fixed w.floor.devices ask.addr ask.ep s.value =
      seated taker_of_device Tokens.Out (λ addr ep. refl) w.fixed w.floor.devices ask.addr ask.ep s.value s.is in
      let at : Takers.IsAtDevice ask.addr ask.ep (slice_get w.floor.devices h.n) s.value =
      Takers.device_found ask.addr ask.ep (slice_get w.floor.devices h.n) s.value h.is in
      let answer : device_answer (slice_get w.floor.devices h.n) ask out ≡ taking_reply at.device.speed at.at.part.taking ask out =
      ap (λ (o : Option Device). device_answer o ask out) at.is
      ∙ ap (λ (c : Bool). reply_from at.device.speed (endpoint_at at.device.endpoints
      (if c then place_in_device (token_of ask.pid) at.device.endpoints ask.ep else None)) ask out)
      (eq-eqb ask.addr at.device.address at.address)
      ∙ ap (λ (pid : Pid). reply_from at.device.speed (endpoint_at at.device.endpoints
      (place_in_device (token_of pid) at.device.endpoints ask.ep)) ask out) token
      ∙ ap (λ (o : Option ℕ). reply_from at.device.speed (endpoint_at at.device.endpoints (or_else o
      (place_named at.device.endpoints ask.ep Ways.Ctl))) ask out) at.at.is
      ∙ ap (λ (o : Option Endpoint). reply_from at.device.speed o ask out) at.at.here
      ∙ ap (λ (p : Role). part_reply at.device.speed p ask out) at.at.part.is in
      ⊎_elim (λ (silent : below_reply w ask out ≡ Silent). absurd (answered silent))
      (λ (is : below_reply w ask out ≡ device_answer (slice_get w.floor.devices h.n) ask out).
      let whole : below_reply w ask out ≡ taking_reply at.device.speed at.at.part.taking ask out = is ∙ answer in
      ⊎_elim (λ (nyet : IsNyet (taking_reply at.device.speed at.at.part.taking ask out)). absurd (known (whole ∙ nyet)))
      (λ (fine : suits Pids.Out (taking_reply at.device.speed at.at.part.taking ask out) ≡ true).
      ap (λ (pid : Pid). suits pid (below_reply w ask out)) token ∙ ap (suits Pids.Out) whole ∙ fine)
      (row_suits at.device.speed (take_row (is_ping ask.pid) at.at.part.taking (sequence_of at.at.part.taking.toggle ask.toggle) _)))
      (device_heard w ask out h.place h.seat h.n
      (ap (λ (pid : Pid). place_for w.fixed.seats ask.addr ask.ep (token_kind pid)) token ∙ h.found) h.there
      (asked_or_not w h.seat.owner h.n h.owner))

-- ---- a control endpoint

control_heard : (w : Below) (ask : Ask) (out : List ℕ) → ask.split ≡ Plain → IsToken ask.pid
    → is_some (control_in w.fixed w.floor.devices ask.addr ask.ep) ≡ true
    → below_reply w ask out ≢ Silent → suits ask.pid (below_reply w ask out) ≡ true
control_heard w ask out plain token some answered =
    let s : IsThere (control_in w.fixed w.floor.devices ask.addr ask.ep) = there_is _ some in
    control_suits w ask out plain token s.value s.is answered

pub answers_suit : AnswersSuit
answers_suit false dir pid w ask out token (of_in is way) plain some answered known =
    ap (λ (p : Pid). suits p (below_reply w ask out)) (sym token)
    ∙ sender_heard w ask out (token ∙ is) (subst (λ (d : Dir). HasEnd false d w.fixed w.floor.devices ask.addr ask.ep) way some) answered
answers_suit false dir pid w ask out token (of_out is way) plain some answered known =
    ap (λ (p : Pid). suits p (below_reply w ask out)) (sym token)
    ∙ taker_heard w ask out (token ∙ is) (subst (λ (d : Dir). HasEnd false d w.fixed w.floor.devices ask.addr ask.ep) way some) answered
    known
answers_suit false dir pid w ask out token (of_setup on is way) plain some answered known = absurd (false≢true on)
answers_suit true dir pid w ask out token way plain some answered known =
    ap (λ (p : Pid). suits p (below_reply w ask out)) (sym token) ∙ control_heard w ask out (plain refl) (by way) some answered
  where
    by : IsTokenOf true pid dir → IsToken ask.pid
    by (of_in is way) = subst IsToken (sym (token ∙ is)) by_in
    by (of_out is way) = subst IsToken (sym (token ∙ is)) by_out
    by (of_setup on is way) = subst IsToken (sym (token ∙ is)) by_setup
