-- What the work of hubs, and the host's transactions with them and with devices, leave of the words of a bus.
use Rattle.std.proofs.Common.{◌≡◌, ℕ, zero, suc, Bool, true, false, List, [], ◌∷◌, map, slice_get, slice_set, Option, Some, None, ◌⊎◌, refl, sym, ap, inl, inr}
use Rattle.std.specs.Prelude.{◌==◌, ◌&&◌, unwrap_or, if◌then◌else◌}
use Rattle.std.specs.List.{AllByRecursion}
use Rattle.std.specs.Option.{option_map, option_and_then}
use Rattle.std.proofs.lemmas.Bool.{cases_Bool}
use Rattle.usb_base.specs.declared.packets.Ask.{Ask}
use Rattle.usb_base.specs.declared.packets.Reply.{Reply}
use Rattle.usb_base.specs.declared.packets.Split.{Split}
use Rattle.usb_base.specs.declared.packets.Split.TheVariants as splits
use Rattle.usb_base.specs.declared.packets.Way.{Way}
use Rattle.usb_base.specs.declared.packets.Way.TheVariants as ways
use Rattle.hub_keys.specs.Asks.{classic_of}
use Rattle.hub_keys.specs.Keys.{key_of}
use Rattle.hub_ports.specs.declared.rows.HubRequest.{HubRequest}
use Rattle.hub_ports.specs.declared.rows.HubRequest.TheVariants as requests
use Rattle.tt_pipeline.specs.Working.{budget}
use Rattle.multi_tt.specs.Translators.{Translator, opening, place_of, put_if, changed_place}
use Rattle.multi_tt.specs.Single.{is_buffered, started_by, started, completed_by, completed, cleared, room_left}
use Rattle.multi_tt.specs.Calls.{port_of}
use Rattle.hub_class.specs.HubContent.{HubContent}
use Rattle.hub_class.specs.EndpointZero.{suits, acts_on, row_at, acted_with, reply_under, hub_answered_at, hub_answered}
use Rattle.hub_class.specs.Requesting.{request_at, effect, effect_if}
use Rattle.hub_class.specs.Translating.{after_split}
use Rattle.hub_class.specs.Microframe.{wire_tried, translator_worked, wire_of_translator, translators_worked, wire_of_translators}
use Rattle.tt_bulk.specs.Work.{Turn, Tries, Rests, earlier_turn, later_turn}
use Rattle.dev_control.specs.Stages.{stages_after, stages_acked}
use Rattle.endpoint_script.specs.declared.endpoint.Endpoint.{Endpoint}
use Rattle.endpoint_script.specs.declared.endpoint.Role.{Role}
use Rattle.endpoint_script.specs.declared.endpoint.Role.TheVariants.{Sends, Takes, Controls, Streams, Hears}
use Rattle.endpoint_script.specs.Streaming.{Streaming, due_of}
use Rattle.endpoint_script.specs.Device.{Device, part_begun, part_answered, part_acked, endpoint_begun, endpoint_answered, endpoint_acked, endpoint_asked, begun, answered_at, answered_in, answered, acked_at, acked_in}
use Rattle.bus_wire.specs.declared.asked.Answerer.{Answerer}
use Rattle.bus_wire.specs.declared.asked.Answerer.TheVariants as Answerers
use Rattle.bus_wire.specs.declared.asked.Asked.{Asked}
use Rattle.bus_wire.specs.declared.seats.Owner.{Owner}
use Rattle.bus_wire.specs.declared.seats.Owner.TheVariants as Owners
use Rattle.bus_wire.specs.declared.seats.Seat.{Seat}
use Rattle.bus_wire.specs.declared.who_heard.WhoHeard.{WhoHeard}
use Rattle.bus_wire.specs.declared.who_heard.WhoHeard.TheVariants as heard
use Rattle.bus_wire.specs.Seats.{token_kind, place_for}
use Rattle.bus_wire.specs.WhoHeard.{asker_hears}
use Rattle.bus_wire.specs.Asking.{device_after, hub_after, translator_after, device_answer, put_at, changed_at as changed_in}
use Rattle.bus_wire.specs.Below.{Floor, Below, below_at, hears_at, asked_below_at, asked_below, floor_answer, below_row, devices_after, below_reply_at, below_reply, below_after_at, below_after, floor_left, hubs_worked, floor_worked}
use Rattle.bus_wire.specs.Bus.{Bus, Fixed, begun_at, floor_of, begin_after, asked_of, bus_row, changed_by, after_at, transact_after, begins_anew}
use Rattle.law_microframes.specs.due.repeats.Words.{inward_of, TranslatorSaysWords, HubSaysWords, FitsWay, HasItsWay, IsPlain, ArePlainBelow, BusSaysWords}
use Rattle.law_microframes.proofs.lemmas.due.lemmas.repeats.Lists.{all_get, all_set, all_mapped}
use Rattle.law_microframes.proofs.lemmas.due.lemmas.repeats.DeviceWords.{Word, silent_word, answer_word}
use Rattle.law_microframes.proofs.lemmas.due.lemmas.repeats.PipelineWords.{started_say, completed_say, worked_say, wire_holds, kept_say}

-- ---- devices

stream_same : (none : Bool) (s t : Streaming) → t.multi ≡ s.multi → (if none then s else t).multi ≡ s.multi
stream_same true s t e = refl
stream_same false s t e = e

answered_fits : (way : Way) (part : Role) (ask : Ask) (out : List ℕ) → FitsWay way part → FitsWay way (part_answered part ask out)
answered_fits ways.In (Sends s) ask out fits = tt
answered_fits ways.In (Streams s) ask out fits = rw (stream_same (due_of s == 0) s (record s { packets = _; used = _ }) refl) fits
answered_fits ways.In (Takes t) ask out fits = absurd fits
answered_fits ways.In (Controls c) ask out fits = absurd fits
answered_fits ways.In Hears ask out fits = absurd fits
answered_fits ways.Out (Takes t) ask out fits = tt
answered_fits ways.Out Hears ask out fits = tt
answered_fits ways.Out (Sends s) ask out fits = absurd fits
answered_fits ways.Out (Streams s) ask out fits = absurd fits
answered_fits ways.Out (Controls c) ask out fits = absurd fits
answered_fits ways.Ctl (Controls c) ask out fits = tt
answered_fits ways.Ctl (Sends s) ask out fits = absurd fits
answered_fits ways.Ctl (Streams s) ask out fits = absurd fits
answered_fits ways.Ctl (Takes t) ask out fits = absurd fits
answered_fits ways.Ctl Hears ask out fits = absurd fits

acked_fits : (way : Way) (part : Role) → FitsWay way part → FitsWay way (part_acked part)
acked_fits ways.In (Sends s) fits = tt
acked_fits way (Streams s) fits = fits
acked_fits way (Takes t) fits = fits
acked_fits way Hears fits = fits
acked_fits ways.Ctl (Controls c) fits = tt
acked_fits ways.In (Controls c) fits = absurd fits
acked_fits ways.Out (Controls c) fits = absurd fits
acked_fits ways.Out (Sends s) fits = absurd fits
acked_fits ways.Ctl (Sends s) fits = absurd fits

begun_fits : (way : Way) (part : Role) → FitsWay way part → FitsWay way (part_begun part)
begun_fits ways.In (Streams s) fits = fits
begun_fits ways.Out (Streams s) fits = absurd fits
begun_fits ways.Ctl (Streams s) fits = absurd fits
begun_fits way (Sends s) fits = fits
begun_fits way (Takes t) fits = fits
begun_fits way (Controls c) fits = fits
begun_fits way Hears fits = fits

answered_plain_by : (es : List Endpoint) (k : ℕ) (o : Option Endpoint) (ask : Ask) (out : List ℕ) → slice_get es k ≡ o
    → AllByRecursion HasItsWay es → AllByRecursion HasItsWay (answered_at es k o ask out)
answered_plain_by es k None ask out here all = all
answered_plain_by es k (Some e) ask out here all =
    all_set HasItsWay es k (endpoint_answered e ask out) all (answered_fits e.desc.name.way e.part ask out
    (all_get HasItsWay es k e all here))

answered_plain : (es : List Endpoint) (o : Option ℕ) (ask : Ask) (out : List ℕ) → AllByRecursion HasItsWay es
    → AllByRecursion HasItsWay (answered_in es o ask out)
answered_plain es None ask out all = all
answered_plain es (Some k) ask out all = answered_plain_by es k (slice_get es k) ask out refl all

acked_plain_by : (es : List Endpoint) (k : ℕ) (o : Option Endpoint) → slice_get es k ≡ o → AllByRecursion HasItsWay es
    → AllByRecursion HasItsWay (acked_at es k o)
acked_plain_by es k None here all = all
acked_plain_by es k (Some e) here all =
    all_set HasItsWay es k (endpoint_acked e) all (acked_fits e.desc.name.way e.part (all_get HasItsWay es k e all here))

acked_plain : (es : List Endpoint) (o : Option ℕ) → AllByRecursion HasItsWay es → AllByRecursion HasItsWay (acked_in es o)
acked_plain es None all = all
acked_plain es (Some k) all = acked_plain_by es k (slice_get es k) refl all

device_plain : (row : WhoHeard) (ask : Ask) (out : List ℕ) (d : Device) → IsPlain d → IsPlain (device_after row ask out d)
device_plain heard.SentUnheard ask out d plain = plain
device_plain heard.AckHeard ask out d plain =
    acked_plain (answered d ask out).endpoints (endpoint_asked (answered d ask out) ask)
    (answered_plain d.endpoints (endpoint_asked d ask) ask out plain)
device_plain _ ask out d plain = answered_plain d.endpoints (endpoint_asked d ask) ask out plain

begun_plain : (d : Device) → IsPlain d → IsPlain (begun d)
begun_plain d plain = all_mapped HasItsWay endpoint_begun d.endpoints (λ e fits. begun_fits e.desc.name.way e.part fits) plain

-- a device of which one is changed
changed_device : (ds : List Device) (place k : ℕ) (f : Device → Device) (d : Device) → slice_get (changed_in place f ds) k ≡ Some d
    → ((slice_get ds k ≡ Some d) ⊎ ((old : Device) × (slice_get ds k ≡ Some old) × (d ≡ f old)))
changed_device ds place k f d e = by (slice_get ds place) refl e
  where
    set_either : (xs : List Device) (i j : ℕ) (old y z : Device) → slice_get xs i ≡ Some old → slice_get (slice_set xs i y) j ≡ Some z
        → ((slice_get xs j ≡ Some z) ⊎ ((slice_get xs j ≡ Some old) × (z ≡ y)))
    set_either [] i j old y z here e = absurd cc
    set_either (x ∷ xs) zero zero old y z here e = inr (here, cc)
    set_either (x ∷ xs) zero (suc j) old y z here e = inl e
    set_either (x ∷ xs) (suc i) zero old y z here e = inl e
    set_either (x ∷ xs) (suc i) (suc j) old y z here e = set_either xs i j old y z here e

    by : (o : Option Device) → slice_get ds place ≡ o → slice_get (put_at o place f ds) k ≡ Some d
        → ((slice_get ds k ≡ Some d) ⊎ ((old : Device) × (slice_get ds k ≡ Some old) × (d ≡ f old)))
    by None here is = inl is
    by (Some old) here is =
        elim (set_either ds place k old (f old) d here is) [ inl same ↦ inl same | inr new ↦ inr (old, new.0, new.1) ]

devices_plain : (fixed : Fixed) (ds : List Device) (place : ℕ) (f : Device → Device) → ((d : Device) → IsPlain d → IsPlain (f d))
    → ArePlainBelow fixed ds → ArePlainBelow fixed (changed_in place f ds)
devices_plain fixed ds place f keeps plain at device hub port stuff seat d seated owned here =
    elim (changed_device ds place device f d here) [
      | inl same ↦ plain at device hub port stuff seat d seated owned same
      | inr (old, there, is) ↦ rw is (keeps old (plain at device hub port stuff seat old seated owned there))
    ]

-- ---- the bus below

abbrev PlainFloor : Fixed → Below → Type 0
PlainFloor fixed w = (w.fixed ≡ fixed) × ArePlainBelow fixed w.floor.devices

hears_word : (inward : Bool) (row : WhoHeard) (answer : Reply) → Word inward answer → Word inward (asker_hears row answer)
hears_word inward heard.SentUnheard answer word = silent_word inward
hears_word inward heard.NoAnswer answer word = silent_word inward
hears_word inward heard.AnswerUnheard answer word = silent_word inward
hears_word inward heard.AnswerHeard answer word = word
hears_word inward heard.AckUnheard answer word = word
hears_word inward heard.AckHeard answer word = word

device_word : (ask : Ask) (out : List ℕ) (o : Option Device) → ((d : Device) → o ≡ Some d → IsPlain d)
    → Word (inward_of ask.pid) (device_answer o ask out)
device_word ask out None plain = silent_word (inward_of ask.pid)
device_word ask out (Some d) plain = answer_word d ask out (plain d refl)

owner_word : (fixed : Fixed) (w : Below) (place : ℕ) (seat : Seat) (owner : Owner) (ask : Ask) (out : List ℕ) → PlainFloor fixed w
    → slice_get fixed.seats place ≡ Some seat → seat.owner ≡ owner
    → Word (inward_of ask.pid) (floor_answer w.floor (hears_at w owner) ask out)
owner_word fixed w place seat (Owners.High device) ask out plain here is = silent_word (inward_of ask.pid)
owner_word fixed w place seat (Owners.Hub at) ask out plain here is = silent_word (inward_of ask.pid)
owner_word fixed w place seat (Owners.Below device hub port stuff) ask out plain here is =
    elim (cases_Bool (hub == w.hub && unwrap_or (slice_get w.enabled port) false)) [
      | inl on ↦ rw on (device_word ask out (slice_get w.floor.devices device)
          (λ d there. plain.1 place device hub port stuff seat d here is there))
      | inr off ↦ rw off (silent_word (inward_of ask.pid))
    ]

seated : (fixed : Fixed) (w : Below) (ask : Ask) (out : List ℕ) (place : ℕ) (packet : Option ℕ) (o : Option Seat) → PlainFloor fixed w
    → slice_get fixed.seats place ≡ o
    → Word (inward_of ask.pid) (below_reply_at w ask out
    (option_and_then
    (λ seat. option_map (λ n. record { place = place; name = seat.name; packet = n; who = hears_at w seat.owner }) packet) o))
seated fixed w ask out place packet None plain here = silent_word (inward_of ask.pid)
seated fixed w ask out place None (Some seat) plain here = silent_word (inward_of ask.pid)
seated fixed w ask out place (Some n) (Some seat) plain here =
    hears_word (inward_of ask.pid) (below_row w (record { place = place; name = seat.name; packet = n; who = hears_at w seat.owner }) ask
    out) (floor_answer w.floor (hears_at w seat.owner) ask out)
    (owner_word fixed w place seat seat.owner ask out plain here refl)

placed : (fixed : Fixed) (w : Below) (ask : Ask) (out : List ℕ) (o : Option ℕ) → PlainFloor fixed w
    → Word (inward_of ask.pid) (below_reply_at w ask out (option_and_then (asked_below_at w) o))
placed fixed w ask out None plain = silent_word (inward_of ask.pid)
placed fixed w ask out (Some place) plain =
    seated fixed w ask out place (slice_get w.floor.numbers place) (slice_get w.fixed.seats place) plain
    (ap (λ (f : Fixed). slice_get f.seats place) (sym plain.0))

below_word : (fixed : Fixed) (w : Below) (ask : Ask) (out : List ℕ) → PlainFloor fixed w
    → Word (inward_of ask.pid) (below_reply w ask out)
below_word fixed w ask out plain = placed fixed w ask out (place_for w.fixed.seats ask.addr ask.ep (token_kind ask.pid)) plain

devices_keep : (fixed : Fixed) (row : WhoHeard) (who : Answerer) (ask : Ask) (out : List ℕ) (ds : List Device) → ArePlainBelow fixed ds
    → ArePlainBelow fixed (devices_after row who ask out ds)
devices_keep fixed row (Answerers.Device place) ask out ds plain =
    devices_plain fixed ds place (device_after row ask out) (λ d k. device_plain row ask out d k) plain
devices_keep fixed row (Answerers.Hub place) ask out ds plain = plain
devices_keep fixed row (Answerers.Translator place stuff) ask out ds plain = plain
devices_keep fixed row Answerers.Nobody ask out ds plain = plain

below_keeps_at : (fixed : Fixed) (w : Below) (ask : Ask) (out : List ℕ) (o : Option Asked) → PlainFloor fixed w
    → PlainFloor fixed (below_after_at w ask out o)
below_keeps_at fixed w ask out None plain = plain
below_keeps_at fixed w ask out (Some e) plain =
    (plain.0, devices_keep fixed (below_row w e ask out) e.who ask out w.floor.devices plain.1)

below_keeps : (fixed : Fixed) (w : Below) (ask : Ask) (out : List ℕ) → PlainFloor fixed w → PlainFloor fixed (below_after w ask out)
below_keeps fixed w ask out plain = below_keeps_at fixed w ask out (asked_below w ask) plain

-- ---- the work of hubs

module _ (fixed : Fixed) where
  tried_keeps : (turn : Turn) (w : Below) → PlainFloor fixed w → PlainFloor fixed (wire_tried below_reply below_after turn w)
  tried_keeps (Tries taken) w plain = below_keeps fixed w (classic_of taken.ask) taken.packet plain
  tried_keeps Rests w plain = plain

  translator_says : (frindex : ℕ) (t : Translator) (w : Below) → PlainFloor fixed w → TranslatorSaysWords t
      → TranslatorSaysWords (translator_worked below_reply below_after frindex t w)
  translator_says frindex t w plain all =
      kept_say frindex _ (worked_say (PlainFloor fixed) below_reply below_after (below_word fixed) (below_keeps fixed) budget t.pipeline
      w plain all)

  translator_leaves : (t : Translator) (w : Below) → PlainFloor fixed w
      → PlainFloor fixed (wire_of_translator below_reply below_after t w)
  translator_leaves t w plain =
      let between = wire_holds (PlainFloor fixed) below_reply below_after (below_word fixed) (below_keeps fixed) budget t.pipeline w
      plain in
      tried_keeps (later_turn (room_left t) t.bulk) _ (tried_keeps (earlier_turn (room_left t) t.bulk) _ between)

  translators_say : (frindex : ℕ) (ts : List Translator) (w : Below) → PlainFloor fixed w → AllByRecursion TranslatorSaysWords ts
      → AllByRecursion TranslatorSaysWords (translators_worked below_reply below_after frindex ts w)
  translators_say frindex [] w plain all = tt
  translators_say frindex (t ∷ ts) w plain all = (
    translator_says frindex t w plain all.0,
    translators_say frindex ts (wire_of_translator below_reply below_after t w)
        (translator_leaves t w plain) all.1,
  )

  translators_leave : (ts : List Translator) (w : Below) → PlainFloor fixed w
      → PlainFloor fixed (wire_of_translators below_reply below_after ts w)
  translators_leave [] w plain = plain
  translators_leave (t ∷ ts) w plain = translators_leave ts (wire_of_translator below_reply below_after t w) (translator_leaves t w plain)

  floor_plain : (h : HubContent) (floor : Floor) → ArePlainBelow fixed floor.devices
      → ArePlainBelow fixed (floor_left fixed h floor).devices
  floor_plain h floor plain = (translators_leave h.translators.all (below_at fixed h floor) (refl, plain)).1

  hubs_say : (frindex : ℕ) (hs : List HubContent) (floor : Floor) → ArePlainBelow fixed floor.devices → AllByRecursion HubSaysWords hs
      → AllByRecursion HubSaysWords (hubs_worked fixed frindex hs floor)
  hubs_say frindex [] floor plain all = tt
  hubs_say frindex (h ∷ hs) floor plain all = (
    translators_say frindex h.translators.all (below_at fixed h floor) (refl, plain) all.0,
    hubs_say frindex hs
        (floor_left fixed h floor) (floor_plain h floor plain) all.1,
  )

  floors_plain : (hs : List HubContent) (floor : Floor) → ArePlainBelow fixed floor.devices
      → ArePlainBelow fixed (floor_worked fixed hs floor).devices
  floors_plain [] floor plain = plain
  floors_plain (h ∷ hs) floor plain = floors_plain hs (floor_left fixed h floor) (floor_plain h floor plain)

  begun_if : (anew : Bool) (d : Device) → IsPlain d → IsPlain (if anew then begun d else d)
  begun_if true d plain = begun_plain d plain
  begun_if false d plain = plain

  mapped_device : (f : Device → Device) (ds : List Device) (k : ℕ) (d : Device) → slice_get (map f ds) k ≡ Some d
      → (old : Device) × (slice_get ds k ≡ Some old) × (d ≡ f old)
  mapped_device f [] k d e = absurd cc
  mapped_device f (x ∷ xs) zero d e = (x, refl, cc)
  mapped_device f (x ∷ xs) (suc k) d e = mapped_device f xs k d e

  pub begins_keep : (frindex : ℕ) (b : Bus) → BusSaysWords fixed b → BusSaysWords fixed (begin_after fixed frindex b)
  begins_keep frindex b says = record {
    hubs = hubs_say frindex b.hubs (floor_of b) says.devices says.hubs;
    devices = λ place device hub port stuff seat d seated owned here.
        let m = mapped_device (begun_at frindex) (floor_worked fixed b.hubs (floor_of b)).devices device d here in
        let old = floors_plain b.hubs (floor_of b) says.devices place device hub port stuff seat m.0 seated owned m.1 in
        rw m.2 (begun_if (begins_anew m.0.speed frindex) m.0 old);
  }

-- ---- the host's transactions

changed_says : (o : Option ℕ) (f : Translator → Translator) (ts : List Translator)
    → ((t : Translator) → TranslatorSaysWords t → TranslatorSaysWords (f t))
    → AllByRecursion TranslatorSaysWords ts → AllByRecursion TranslatorSaysWords (changed_place o f ts)
changed_says None f ts keeps all = all
changed_says (Some place) f ts keeps all = by (slice_get ts place) refl
  where
    by : (o : Option Translator) → slice_get ts place ≡ o → AllByRecursion TranslatorSaysWords (put_if o place f ts)
    by None here = all
    by (Some t) here = all_set TranslatorSaysWords ts place (f t) all (keeps t (all_get TranslatorSaysWords ts place t all here))

started_translator : (buffered : Bool) (ask : Ask) (out : List ℕ) (stuff : ℕ) (t : Translator) → TranslatorSaysWords t
    → TranslatorSaysWords (started_by buffered ask out stuff t)
started_translator true ask out stuff t all = all
started_translator false ask out stuff t all = started_say ask out stuff t.pipeline all

completed_translator : (buffered : Bool) (ask : Ask) (t : Translator) → TranslatorSaysWords t
    → TranslatorSaysWords (completed_by buffered ask t)
completed_translator true ask t all = all
completed_translator false ask t all = completed_say (key_of ask) t.pipeline all

split_says : (split : Split) (ask : Ask) (out : List ℕ) (stuff : ℕ) (h : HubContent) → HubSaysWords h
    → HubSaysWords (after_split split ask out stuff h)
split_says splits.Plain ask out stuff h all = all
split_says (splits.Start hub port part) ask out stuff h all =
    changed_says (place_of h.translators.multi (port_of ask.split)) (started ask out stuff) h.translators.all
    (λ t k. started_translator (is_buffered ask.kind) ask out stuff t k) all
split_says (splits.Complete hub port) ask out stuff h all =
    changed_says (place_of h.translators.multi (port_of ask.split)) (completed ask) h.translators.all
    (λ t k. completed_translator (is_buffered ask.kind) ask t k) all

effect_says : (request : HubRequest) (h : HubContent) → HubSaysWords h → HubSaysWords (effect request h)
effect_says requests.HubStatus h all = all
effect_says (requests.PortStatus port) h all = all
effect_says (requests.ChangePort port change) h all = all
effect_says (requests.ClearBuffer port key) h all =
    changed_says (place_of h.translators.multi port) (cleared key) h.translators.all (λ t k. k) all
effect_says (requests.ResetTranslator port) h all =
    changed_says (place_of h.translators.multi port) (λ t. opening) h.translators.all (λ t k. tt) all

effect_if_says : (o : Option HubRequest) (h : HubContent) → HubSaysWords h → HubSaysWords (effect_if o h)
effect_if_says None h all = all
effect_if_says (Some request) h all = effect_says request h all

acted_says : (o : Option (List ℕ)) (h : HubContent) → HubSaysWords h → HubSaysWords (acted_with o h)
acted_says None h all = all
acted_says (Some setup) h all = effect_if_says (request_at setup h) h all

zero_says : (is : Bool) (ask : Ask) (out : List ℕ) (h : HubContent) → HubSaysWords h
    → HubSaysWords (if is then hub_answered_at ask out h else h)
zero_says true ask out h all =
    acted_says (acts_on (row_at ask out h) h.control.request) (record h { control = stages_after (reply_under h) h.control ask out }) all
zero_says false ask out h all = all

acked_says : (is : Bool) (ask : Ask) (h : HubContent) → HubSaysWords h
    → HubSaysWords (if is then record h { control = stages_acked (reply_under h) h.control } else h)
acked_says true ask h all = all
acked_says false ask h all = all

answered_hub : (ask : Ask) (out : List ℕ) (h : HubContent) → HubSaysWords h → HubSaysWords (hub_answered ask out h)
answered_hub ask out h all = zero_says (suits ask h) ask out h all

hub_says : (row : WhoHeard) (ask : Ask) (out : List ℕ) (h : HubContent) → HubSaysWords h → HubSaysWords (hub_after row ask out h)
hub_says heard.SentUnheard ask out h all = all
hub_says heard.AckHeard ask out h all =
    acked_says (suits ask (hub_answered ask out h)) ask (hub_answered ask out h) (answered_hub ask out h all)
hub_says _ ask out h all = answered_hub ask out h all

translated_says : (row : WhoHeard) (ask : Ask) (out : List ℕ) (stuff : ℕ) (h : HubContent) → HubSaysWords h
    → HubSaysWords (translator_after row ask out stuff h)
translated_says heard.SentUnheard ask out stuff h all = all
translated_says _ ask out stuff h all = split_says ask.split ask out stuff h all

hubs_changed : (hs : List HubContent) (place : ℕ) (f : HubContent → HubContent) → ((h : HubContent) → HubSaysWords h → HubSaysWords (f h))
    → AllByRecursion HubSaysWords hs → AllByRecursion HubSaysWords (changed_in place f hs)
hubs_changed hs place f keeps all = by (slice_get hs place) refl
  where
    by : (o : Option HubContent) → slice_get hs place ≡ o → AllByRecursion HubSaysWords (put_at o place f hs)
    by None here = all
    by (Some h) here = all_set HubSaysWords hs place (f h) all (keeps h (all_get HubSaysWords hs place h all here))

changed_keeps : (fixed : Fixed) (row : WhoHeard) (who : Answerer) (ask : Ask) (out : List ℕ) (b : Bus) → BusSaysWords fixed b
    → BusSaysWords fixed (changed_by row who ask out b)
changed_keeps fixed row (Answerers.Device place) ask out b says = record {
  hubs = says.hubs;
  devices = devices_plain fixed b.devices place (device_after row ask out) (λ d k. device_plain row ask out d k) says.devices;
}
changed_keeps fixed row (Answerers.Hub place) ask out b says = record {
  hubs = hubs_changed b.hubs place (hub_after row ask out) (λ h k. hub_says row ask out h k) says.hubs;
  devices = says.devices;
}
changed_keeps fixed row (Answerers.Translator place stuff) ask out b says = record {
  hubs = hubs_changed b.hubs place (translator_after row ask out stuff) (λ h k. translated_says row ask out stuff h k) says.hubs;
  devices = says.devices;
}
changed_keeps fixed row Answerers.Nobody ask out b says = says

at_keeps : (fixed : Fixed) (b : Bus) (ask : Ask) (out : List ℕ) (o : Option Asked) → BusSaysWords fixed b
    → BusSaysWords fixed (after_at fixed b ask out o)
at_keeps fixed b ask out None says = says
at_keeps fixed b ask out (Some e) says =
    let c = changed_keeps fixed (bus_row fixed b e ask out) e.who ask out b says in
    record { hubs = c.hubs; devices = c.devices }

pub asks_keep_words : (fixed : Fixed) (b : Bus) (ask : Ask) (out : List ℕ) → BusSaysWords fixed b
    → BusSaysWords fixed (transact_after fixed b ask out)
asks_keep_words fixed b ask out says = at_keeps fixed b ask out (asked_of fixed b ask) says
