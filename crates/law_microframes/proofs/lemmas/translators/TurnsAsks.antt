-- A transaction of the host leaves what is told of the entries of a key, where it is no start of that key (USB 2.0, 11.14, 11.18 and 11.24).
use Rattle.std.proofs.Common.{◌≡◌, ℕ, zero, suc, Bool, true, false, List, [], ◌∷◌, slice_get, slice_set, Option, Some, None, refl, sym, ap, subst, ◌∙◌, if◌then◌else◌}
use Rattle.std.specs.Option.{option_map, option_and_then}
use Rattle.std.proofs.lemmas.Option.{same_Some}
use Rattle.usb_base.specs.declared.packets.Ask.{Ask}
use Rattle.usb_base.specs.declared.packets.DataPart.{DataPart}
use Rattle.usb_base.specs.declared.packets.Split.{Split}
use Rattle.usb_base.specs.declared.packets.Split.TheVariants as splits
use Rattle.hub_keys.specs.Keys.{key_of}
use Rattle.hub_keys.specs.declared.key.Key.{Key}
use Rattle.hub_ports.specs.declared.rows.HubRequest.{HubRequest}
use Rattle.hub_ports.specs.declared.rows.HubRequest.TheVariants as requests
use Rattle.tt_pipeline.specs.declared.entry.Entry.{Entry}
use Rattle.tt_pipeline.specs.Starting.{started as started_in}
use Rattle.multi_tt.specs.Translators.{Translator, opening as opening_translator, place_of, put_if, changed_place}
use Rattle.multi_tt.specs.Single.{is_buffered, started_by, started, completed_by, completed, cleared}
use Rattle.multi_tt.specs.Calls.{port_of}
use Rattle.hub_class.specs.HubContent.{HubContent}
use Rattle.hub_class.specs.EndpointZero.{suits, acts_on, row_at, acted_with, reply_under, hub_answered_at, hub_answered}
use Rattle.hub_class.specs.Requesting.{request_at, effect, effect_if}
use Rattle.hub_class.specs.Translating.{after_split}
use Rattle.dev_control.specs.Stages.{stages_after, stages_acked}
use Rattle.bus_wire.specs.declared.asked.Answerer.{Answerer}
use Rattle.bus_wire.specs.declared.asked.Answerer.TheVariants as Answerers
use Rattle.bus_wire.specs.declared.seats.Seat.{Seat}
use Rattle.bus_wire.specs.declared.who_heard.WhoHeard.{WhoHeard}
use Rattle.bus_wire.specs.declared.who_heard.WhoHeard.TheVariants as heard
use Rattle.bus_wire.specs.Seats.{token_kind, place_for}
use Rattle.bus_wire.specs.Asking.{hub_after, translator_after, put_at, changed_at as changed_in}
use Rattle.bus_wire.specs.Bus.{Bus, Fixed, hears, asked_at, bus_row, changed_by, after_at, transact_after}
use Rattle.law_microframes.specs.translators.Parts.{EachOf, Lacks, OtherStartsLeave, CompletesLeave}
use Rattle.law_microframes.specs.translators.Turns.{pipeline_for, OtherAsksLeave, LaterPartsLeave}
use Rattle.hc_iso.specs.declared.held.IsoTransaction.{IsoTransaction}
use Rattle.usb_base.specs.declared.packets.DataPart.TheVariants as parts
use Rattle.tt_pipeline.specs.Work.{asked_part}
use Rattle.law_microframes.specs.time.SitdParts.{position_of}
use Rattle.law_microframes.proofs.lemmas.translators.Parts.{enters, goes, part_of, still_left, completes_lack}
use Rattle.law_microframes.proofs.lemmas.translators.SitdStarts.{out_ask, out_transaction}
use Rattle.law_microframes.proofs.lemmas.translators.TurnsPipelines.{BesideIn, Beside, pipelines_beside}

module _ (P : Entry → Type 0) (k : Key) where
  abbrev In : List Translator → List Translator → Type 0
  In xs ys = BesideIn (λ es fs. EachOf P k es → EachOf P k fs) xs ys

  -- one hub beside what it becomes
  abbrev Hub : HubContent → HubContent → Type 0
  Hub x y = (x.address ≡ y.address) × ((x.translators.multi ≡ y.translators.multi) × In x.translators.all y.translators.all)

  abbrev Hubs : List HubContent → List HubContent → Type 0
  Hubs xs ys = Beside (λ es fs. EachOf P k es → EachOf P k fs) xs ys

  in_same : (ts : List Translator) → In ts ts
  in_same [] = tt
  in_same (t ∷ ts) = ((λ all. all), in_same ts)

  in_set : (ts : List Translator) (j : ℕ) (t u : Translator) → slice_get ts j ≡ Some t → (EachOf P k t.pipeline → EachOf P k u.pipeline)
      → In ts (slice_set ts j u)
  in_set [] j t u here one = absurd cc
  in_set (x ∷ xs) zero t u here one =
      ((λ all. one (subst (λ (o : Translator). EachOf P k o.pipeline) (same_Some x t here) all)), in_same xs)
  in_set (x ∷ xs) (suc j) t u here one = ((λ all. all), in_set xs j t u here one)

  in_changed : (o : Option ℕ) (f : Translator → Translator) (ts : List Translator)
      → ((t : Translator) → EachOf P k t.pipeline → EachOf P k (f t).pipeline) → In ts (changed_place o f ts)
  in_changed None f ts keeps = in_same ts
  in_changed (Some place) f ts keeps = by (slice_get ts place) refl
    where
      by : (o : Option Translator) → slice_get ts place ≡ o → In ts (put_if o place f ts)
      by None here = in_same ts
      by (Some t) here = in_set ts place t (f t) here (keeps t)

  hub_same : (h : HubContent) → Hub h h
  hub_same h = (refl, (refl, in_same h.translators.all))

  hubs_same : (hs : List HubContent) → Hubs hs hs
  hubs_same [] = tt
  hubs_same (h ∷ hs) = (refl, (refl, (in_same h.translators.all, hubs_same hs)))

  hubs_set : (hs : List HubContent) (i : ℕ) (h g : HubContent) → slice_get hs i ≡ Some h → Hub h g → Hubs hs (slice_set hs i g)
  hubs_set [] i h g here one = absurd cc
  hubs_set (x ∷ xs) zero h g here one =
      let is : Hub x g = subst (λ (z : HubContent). Hub z g) (sym (same_Some x h here)) one in
      (is.0, (is.1.0, (is.1.1, hubs_same xs)))
  hubs_set (x ∷ xs) (suc i) h g here one = (refl, (refl, (in_same x.translators.all, hubs_set xs i h g here one)))

  hubs_put : (hs : List HubContent) (place : ℕ) (f : HubContent → HubContent) → ((h : HubContent) → Hub h (f h))
      → Hubs hs (changed_in place f hs)
  hubs_put hs place f keeps = by (slice_get hs place) refl
    where
      by : (o : Option HubContent) → slice_get hs place ≡ o → Hubs hs (put_at o place f hs)
      by None here = hubs_same hs
      by (Some h) here = hubs_set hs place h (f h) here (keeps h)

  -- ---- a request to a hub

  effect_beside : (request : HubRequest) (h : HubContent) → Hub h (effect request h)
  effect_beside requests.HubStatus h = hub_same h
  effect_beside (requests.PortStatus port) h = hub_same h
  effect_beside (requests.ChangePort port change) h = hub_same h
  effect_beside (requests.ClearBuffer port key) h =
      (refl, (refl, in_changed (place_of h.translators.multi port) (cleared key) h.translators.all (λ t all. all)))
  effect_beside (requests.ResetTranslator port) h =
      (refl, (refl, in_changed (place_of h.translators.multi port) (λ t. opening_translator) h.translators.all (λ t all. tt)))

  effect_if_beside : (o : Option HubRequest) (h : HubContent) → Hub h (effect_if o h)
  effect_if_beside None h = hub_same h
  effect_if_beside (Some request) h = effect_beside request h

  acted_beside : (o : Option (List ℕ)) (h : HubContent) → Hub h (acted_with o h)
  acted_beside None h = hub_same h
  acted_beside (Some setup) h = effect_if_beside (request_at setup h) h

  zero_beside : (on : Bool) (ask : Ask) (out : List ℕ) (h : HubContent) → Hub h (if on then hub_answered_at ask out h else h)
  zero_beside true ask out h =
      acted_beside (acts_on (row_at ask out h) h.control.request) (record h { control = stages_after (reply_under h) h.control ask out })
  zero_beside false ask out h = hub_same h

  acked_beside : (on : Bool) (ask : Ask) (h g : HubContent) → Hub h g
      → Hub h (if on then record g { control = stages_acked (reply_under g) g.control } else g)
  acked_beside true ask h g is = is
  acked_beside false ask h g is = is

  hub_beside : (row : WhoHeard) (ask : Ask) (out : List ℕ) (h : HubContent) → Hub h (hub_after row ask out h)
  hub_beside heard.SentUnheard ask out h = hub_same h
  hub_beside heard.AckHeard ask out h =
      acked_beside (suits ask (hub_answered ask out h)) ask h (hub_answered ask out h) (zero_beside (suits ask h) ask out h)
  hub_beside _ ask out h = zero_beside (suits ask h) ask out h

  -- ---- a split transaction: a start of a bulk or control endpoint, or of another key, or a complete-split

  module _ (ask : Ask) (out : List ℕ)
      (starts : (hub port : ℕ) (part : DataPart) (stuff : ℕ) (es : List Entry) → ask.split ≡ splits.Start hub port part
      → is_buffered ask.kind ≡ false → EachOf P k es → EachOf P k (started_in ask out stuff es)) (completes : CompletesLeave P) where
    started_beside : (buffered : Bool) (stuff : ℕ) (t : Translator)
        → (buffered ≡ false → EachOf P k t.pipeline → EachOf P k (started_in ask out stuff t.pipeline))
        → EachOf P k t.pipeline → EachOf P k (started_by buffered ask out stuff t).pipeline
    started_beside true stuff t keeps all = all
    started_beside false stuff t keeps all = keeps refl all

    completed_beside : (buffered : Bool) (t : Translator) → EachOf P k t.pipeline → EachOf P k (completed_by buffered ask t).pipeline
    completed_beside true t all = all
    completed_beside false t all = completes k (key_of ask) t.pipeline all

    split_beside : (split : Split) (stuff : ℕ) (h : HubContent) → ask.split ≡ split → Hub h (after_split split ask out stuff h)
    split_beside splits.Plain stuff h is = hub_same h
    split_beside (splits.Start hub port part) stuff h is = (
      refl,
      (
        refl,
        in_changed (place_of h.translators.multi (port_of ask.split)) (started ask out stuff) h.translators.all
            (λ t all. started_beside (is_buffered ask.kind) stuff t (λ piped. starts hub port part stuff t.pipeline is piped) all),
      ),
    )
    split_beside (splits.Complete hub port) stuff h is = (
      refl,
      (
        refl,
        in_changed (place_of h.translators.multi (port_of ask.split)) (completed ask) h.translators.all
            (λ t all. completed_beside (is_buffered ask.kind) t all),
      ),
    )

    translated_beside : (row : WhoHeard) (stuff : ℕ) (h : HubContent) → Hub h (translator_after row ask out stuff h)
    translated_beside heard.SentUnheard stuff h = hub_same h
    translated_beside _ stuff h = split_beside ask.split stuff h refl

    module _ (fixed : Fixed) (b : Bus) where
      changed_beside : (row : WhoHeard) (who : Answerer) → Hubs b.hubs (changed_by row who ask out b).hubs
      changed_beside row (Answerers.Device place) = hubs_same b.hubs
      changed_beside row (Answerers.Hub place) = hubs_put b.hubs place (hub_after row ask out) (λ h. hub_beside row ask out h)
      changed_beside row (Answerers.Translator place stuff) =
          hubs_put b.hubs place (translator_after row ask out stuff) (λ h. translated_beside row stuff h)
      changed_beside row Answerers.Nobody = hubs_same b.hubs

      seated : (place : ℕ) (packet : Option ℕ) (o : Option Seat) → Hubs b.hubs (after_at fixed b ask out (option_and_then
          (λ seat. option_map (λ n. record { place = place; name = seat.name; packet = n; who = hears b ask.split seat.owner })
          packet) o)).hubs
      seated place packet None = hubs_same b.hubs
      seated place None (Some seat) = hubs_same b.hubs
      seated place (Some n) (Some seat) =
          changed_beside
          (bus_row fixed b (record { place = place; name = seat.name; packet = n; who = hears b ask.split seat.owner }) ask out)
          (hears b ask.split seat.owner)

      placed : (o : Option ℕ) → Hubs b.hubs (after_at fixed b ask out (option_and_then (asked_at fixed b ask.split) o)).hubs
      placed None = hubs_same b.hubs
      placed (Some place) = seated place (slice_get b.high place) (slice_get fixed.seats place)

      -- a transaction of the host
      pub asks_leave : (hub port : ℕ) → EachOf P k (pipeline_for b.hubs hub port)
          → EachOf P k (pipeline_for (transact_after fixed b ask out).hubs hub port)
      asks_leave hub port =
          pipelines_beside (λ es fs. EachOf P k es → EachOf P k fs) (λ all. all) b.hubs (transact_after fixed b ask out).hubs
          (placed (place_for fixed.seats ask.addr ask.ep (token_kind ask.pid))) hub port

pub other_asks_leave : (P : Entry → Type 0) → OtherStartsLeave P → CompletesLeave P → OtherAsksLeave P
other_asks_leave P starts completes k fixed b ask out other hub port all =
    asks_leave P k ask out (λ at place part stuff es is piped has. starts k ask out stuff es (other at place part is piped) has) completes
    fixed b hub port all

-- a part of an OUT that has another behind it, and one before it
middle_asks : (fixed : Fixed) (b : Bus) (ask : Ask) (out : List ℕ) → asked_part ask ≡ parts.Middle → (hub port : ℕ)
    → EachOf Lacks (key_of ask) (pipeline_for b.hubs hub port)
    → EachOf Lacks (key_of ask) (pipeline_for (transact_after fixed b ask out).hubs hub port)
middle_asks fixed b ask out middle hub port all =
    asks_leave Lacks (key_of ask) ask out (λ at place part stuff es is piped has. goes ask out stuff es middle has) completes_lack
    fixed b hub port all

-- the first part of one that has another behind it
pub begin_asks : (fixed : Fixed) (b : Bus) (ask : Ask) (out : List ℕ) → asked_part ask ≡ parts.Begin → (hub port : ℕ)
    → EachOf Lacks (key_of ask) (pipeline_for b.hubs hub port)
    → EachOf Lacks (key_of ask) (pipeline_for (transact_after fixed b ask out).hubs hub port)
begin_asks fixed b ask out first hub port all =
    asks_leave Lacks (key_of ask) ask out (λ at place part stuff es is piped has. enters ask out stuff es first has) completes_lack
    fixed b hub port all

pub later_parts_leave : LaterPartsLeave
later_parts_leave v most u reply fixed b out of active way some on hub port all =
    let is = out_transaction v way in
    let at = of.position active way in
    let middle = part_of false v (at ∙ ap (λ (c : Bool). position_of c v.t_count) some) (still_left v u reply way on) in
    subst (λ (z : IsoTransaction). EachOf Lacks (key_of z.ask) (pipeline_for (transact_after fixed b z.ask out).hubs hub port)) (sym is)
    (middle_asks fixed b (out_ask v) out middle hub port
    (subst (λ (z : IsoTransaction). EachOf Lacks (key_of z.ask) (pipeline_for b.hubs hub port)) is all))
