-- A transaction of the host for another endpoint than a hub's own leaves the entry of each other key in the pipelines of all translators
-- (USB 2.0, 11.14, 11.17 and 11.18).
use Rattle.std.proofs.Common.{◌≡◌, ◌≢◌, ℕ, zero, suc, ◌==◌, Bool, true, false, List, [], ◌∷◌, slice_get, slice_set, Option, Some, None}
use Rattle.std.proofs.Common.{ap, refl}
use Rattle.std.proofs.Common.{sym, subst, ◌∙◌}
use Rattle.std.specs.List.{find}
use Rattle.std.specs.Option.{option_map, option_map_or, option_and_then}
use Rattle.std.proofs.lemmas.Bool.{and_parts, eqb-true}
use Rattle.std.proofs.lemmas.Option.{same_Some}
use Rattle.usb_base.specs.declared.packets.Ask.{Ask}
use Rattle.usb_base.specs.declared.packets.Split.{Split}
use Rattle.usb_base.specs.declared.packets.Split.TheVariants as splits
use Rattle.hub_keys.specs.Keys.{key_of, is_same_key}
use Rattle.hub_keys.specs.declared.key.Key.{Key}
use Rattle.multi_tt.specs.Translators.{Translator, place_of, put_if, changed_place}
use Rattle.multi_tt.specs.Single.{is_buffered, started_by, started, completed_by, completed}
use Rattle.multi_tt.specs.Calls.{port_of}
use Rattle.hub_class.specs.HubContent.{HubContent}
use Rattle.hub_class.specs.Translating.{after_split}
use Rattle.bus_wire.specs.declared.asked.Answerer.{Answerer}
use Rattle.bus_wire.specs.declared.asked.Answerer.TheVariants as answerers
use Rattle.bus_wire.specs.declared.asked.Asked.{Asked}
use Rattle.bus_wire.specs.declared.seats.Owner.{Owner}
use Rattle.bus_wire.specs.declared.seats.Owner.TheVariants as owners
use Rattle.bus_wire.specs.declared.seats.Seat.{Seat}
use Rattle.bus_wire.specs.declared.who_heard.WhoHeard.{WhoHeard}
use Rattle.bus_wire.specs.declared.who_heard.WhoHeard.TheVariants as heard
use Rattle.bus_wire.specs.Asking.{translator_after, put_at, changed_at as changed_in}
use Rattle.bus_wire.specs.Bus.{Bus, Fixed, hears, hears_plain, stuff_of, asked_at, asked_of, bus_row, changed_by, after_at, transact_after}
use Rattle.bus_wire.specs.Seats.{token_kind, place_for, suits}
use Rattle.law_devices.proofs.Places.{position_passes}
use Rattle.law_translated.proofs.PipelineCalls.{other_start, other_complete}
use Rattle.law_microframes.specs.translators.Results.{Entry, has_key, pipeline_for}
use Rattle.law_microframes.proofs.lemmas.translators.TurnsPipelines.{BesideIn, Beside, pipelines_beside}
use Rattle.law_reports.proofs.lemmas.due_at_begin.Beside.{asked_place}

-- ---- hubs beside what they become, where one translator changes

module _ (R : List Entry → List Entry → Type 0) (same : (es : List Entry) → R es es) where
  in_same : (ts : List Translator) → BesideIn R ts ts
  in_same [] = tt
  in_same (t ∷ ts) = (same t.pipeline, in_same ts)

  in_set : (ts : List Translator) (j : ℕ) (t u : Translator) → slice_get ts j ≡ Some t → R t.pipeline u.pipeline
      → BesideIn R ts (slice_set ts j u)
  in_set [] j t u here one = absurd cc
  in_set (x ∷ xs) zero t u here one = (subst (λ (o : Translator). R o.pipeline u.pipeline) (sym (same_Some x t here)) one, in_same xs)
  in_set (x ∷ xs) (suc j) t u here one = (same x.pipeline, in_set xs j t u here one)

  pub in_changed : (o : Option ℕ) (f : Translator → Translator) (ts : List Translator) → ((t : Translator) → R t.pipeline (f t).pipeline)
      → BesideIn R ts (changed_place o f ts)
  in_changed None f ts keeps = in_same ts
  in_changed (Some place) f ts keeps = by (slice_get ts place) refl
    where
      by : (o : Option Translator) → slice_get ts place ≡ o → BesideIn R ts (put_if o place f ts)
      by None here = in_same ts
      by (Some t) here = in_set ts place t (f t) here (keeps t)

  abbrev pub Hub : HubContent → HubContent → Type 0
  Hub x y = (x.address ≡ y.address) × ((x.translators.multi ≡ y.translators.multi) × BesideIn R x.translators.all y.translators.all)

  pub hub_same : (h : HubContent) → Hub h h
  hub_same h = (refl, (refl, in_same h.translators.all))

  pub hubs_same : (hs : List HubContent) → Beside R hs hs
  hubs_same [] = tt
  hubs_same (h ∷ hs) = (refl, (refl, (in_same h.translators.all, hubs_same hs)))

  hubs_set : (hs : List HubContent) (i : ℕ) (h g : HubContent) → slice_get hs i ≡ Some h → Hub h g → Beside R hs (slice_set hs i g)
  hubs_set [] i h g here one = absurd cc
  hubs_set (x ∷ xs) zero h g here one =
      let is : Hub x g = subst (λ (z : HubContent). Hub z g) (sym (same_Some x h here)) one in
      (is.0, (is.1.0, (is.1.1, hubs_same xs)))
  hubs_set (x ∷ xs) (suc i) h g here one = (refl, (refl, (in_same x.translators.all, hubs_set xs i h g here one)))

  pub hubs_put : (hs : List HubContent) (place : ℕ) (f : HubContent → HubContent) → ((h : HubContent) → Hub h (f h))
      → Beside R hs (changed_in place f hs)
  hubs_put hs place f keeps = by (slice_get hs place) refl
    where
      by : (o : Option HubContent) → slice_get hs place ≡ o → Beside R hs (put_at o place f hs)
      by None here = hubs_same hs
      by (Some h) here = hubs_set hs place h (f h) here (keeps h)

-- ---- who is asked

-- the seat at the place of the endpoint that is asked
pub record IsSeatOf (fixed : Fixed) (b : Bus) (split : Split) (e : Asked) : Type 0 where
  pub seat : Seat
  pub there : slice_get fixed.seats e.place ≡ Some seat
  pub who : e.who ≡ hears b split seat.owner

module _ (fixed : Fixed) (b : Bus) (split : Split) where
  abbrev asked_with : ℕ → Seat → ℕ → Asked
  asked_with place seat packet = record { place = place; name = seat.name; packet = packet; who = hears b split seat.owner }

  of_packet : (place : ℕ) (seat : Seat) (o : Option ℕ) (e : Asked) → slice_get fixed.seats place ≡ Some seat
      → option_map (asked_with place seat) o ≡ Some e → IsSeatOf fixed b split e
  of_packet place seat None e there is = absurd cc
  of_packet place seat (Some packet) e there is =
      subst (λ (x : Asked). IsSeatOf fixed b split x) (same_Some (asked_with place seat packet) e is)
      (record { seat = seat; there = there; who = refl })

  of_seat : (place : ℕ) (o : Option Seat) (e : Asked) → slice_get fixed.seats place ≡ o
      → option_and_then (λ (seat : Seat). option_map (asked_with place seat) (slice_get b.high place)) o ≡ Some e → IsSeatOf fixed b split e
  of_seat place None e there is = absurd cc
  of_seat place (Some seat) e there is = of_packet place seat (slice_get b.high place) e there is

  pub of_place : (o : Option ℕ) (e : Asked) → option_and_then (asked_at fixed b split) o ≡ Some e → IsSeatOf fixed b split e
  of_place None e is = absurd cc
  of_place (Some place) e is = of_seat place (slice_get fixed.seats place) e refl is

-- a hub's own endpoint is asked by a plain ask of its seat
plain_hub : (owner : Owner) (n : ℕ) → hears_plain owner ≡ answerers.Hub n → owner ≡ owners.Hub n
plain_hub (owners.Hub p) n e = let same : p ≡ n = cc in ap owners.Hub same
plain_hub (owners.High p) n e = absurd cc
plain_hub (owners.Below p hub port stuff) n e = absurd cc

no_hub : (o : Option ℕ) (stuff n : ℕ) {P : Type 0}
    → option_map_or (λ (place : ℕ). answerers.Translator place stuff) o answerers.Nobody ≡ answerers.Hub n → P
no_hub None stuff n e = absurd cc
no_hub (Some place) stuff n e = absurd cc

its_hub : (b : Bus) (split : Split) (owner : Owner) (n : ℕ) → hears b split owner ≡ answerers.Hub n → owner ≡ owners.Hub n
its_hub b splits.Plain owner n e = plain_hub owner n e
its_hub b (splits.Start hub port part) owner n e = no_hub _ (stuff_of owner) n e
its_hub b (splits.Complete hub port) owner n e = no_hub _ (stuff_of owner) n e

-- endpoint 0 of a hub has number 0
abbrev pub AreHubsZero : Fixed → Type 0
AreHubsZero fixed =
    (place : ℕ) (seat : Seat) (n : ℕ) → slice_get fixed.seats place ≡ Some seat → seat.owner ≡ owners.Hub n → seat.name.num ≡ 0

-- ---- a transaction

module _ (k : Key) (fixed : Fixed) (b : Bus) (ask : Ask) (out : List ℕ) (apart : is_same_key (key_of ask) k ≡ false)
    (zeroes : AreHubsZero fixed) (numbered : ask.ep ≢ 0) where
  abbrev Left : List Entry → List Entry → Type 0
  Left es fs = find (has_key k) fs ≡ find (has_key k) es

  left_same : (es : List Entry) → find (has_key k) es ≡ find (has_key k) es
  left_same es = refl

  started_left : (buffered : Bool) (stuff : ℕ) (t : Translator) → Left t.pipeline (started_by buffered ask out stuff t).pipeline
  started_left true stuff t = refl
  started_left false stuff t = (other_start k ask out stuff t.pipeline apart).same

  completed_left : (buffered : Bool) (t : Translator) → Left t.pipeline (completed_by buffered ask t).pipeline
  completed_left true t = refl
  completed_left false t = (other_complete k (key_of ask) t.pipeline apart).same

  split_left : (split : Split) (stuff : ℕ) (h : HubContent) → Hub Left left_same h (after_split split ask out stuff h)
  split_left splits.Plain stuff h = hub_same Left left_same h
  split_left (splits.Start hub port part) stuff h = (
    refl,
    (
      refl,
      in_changed Left left_same (place_of h.translators.multi (port_of ask.split)) (started ask out stuff) h.translators.all
          (λ t. started_left (is_buffered ask.kind) stuff t),
    ),
  )
  split_left (splits.Complete hub port) stuff h = (
    refl,
    (
      refl,
      in_changed Left left_same (place_of h.translators.multi (port_of ask.split)) (completed ask) h.translators.all
          (λ t. completed_left (is_buffered ask.kind) t),
    ),
  )

  translated_left : (row : WhoHeard) (stuff : ℕ) (h : HubContent) → Hub Left left_same h (translator_after row ask out stuff h)
  translated_left heard.SentUnheard stuff h = hub_same Left left_same h
  translated_left _ stuff h = split_left ask.split stuff h

  changed_left : (row : WhoHeard) (who : Answerer) → ((n : ℕ) → who ≡ answerers.Hub n → ⊥)
      → Beside Left b.hubs (changed_by row who ask out b).hubs
  changed_left row (answerers.Device place) never = hubs_same Left left_same b.hubs
  changed_left row (answerers.Hub place) never = absurd (never place refl)
  changed_left row (answerers.Translator place stuff) never =
      hubs_put Left left_same b.hubs place (translator_after row ask out stuff) (λ h. translated_left row stuff h)
  changed_left row answerers.Nobody never = hubs_same Left left_same b.hubs

  -- no hub's own endpoint is asked
  never_hub : (e : Asked) → asked_of fixed b ask ≡ Some e → (n : ℕ) → e.who ≡ answerers.Hub n → ⊥
  never_hub e is n who =
      let found = asked_place fixed b ask.split (place_for fixed.seats ask.addr ask.ep (token_kind ask.pid)) e is in
      let s = of_place fixed b ask.split (place_for fixed.seats ask.addr ask.ep (token_kind ask.pid)) e is in
      let suited =
      position_passes (λ (v : Seat). suits v.name ask.addr ask.ep (token_kind ask.pid)) fixed.seats e.place s.seat found s.there in
      let one = and_parts (s.seat.name.addr == ask.addr) _ suited in
      let two = and_parts (s.seat.name.num == ask.ep) _ one.1 in
      numbered (sym (eqb-true s.seat.name.num ask.ep two.0)
      ∙ zeroes e.place s.seat n s.there (its_hub b ask.split s.seat.owner n (sym s.who ∙ who)))

  after_left : (o : Option Asked) → asked_of fixed b ask ≡ o → Beside Left b.hubs (after_at fixed b ask out o).hubs
  after_left None is = hubs_same Left left_same b.hubs
  after_left (Some e) is = changed_left (bus_row fixed b e ask out) e.who (never_hub e is)

  pub asks_leave_entry : (hub port : ℕ)
      → find (has_key k) (pipeline_for (transact_after fixed b ask out).hubs hub port) ≡ find (has_key k) (pipeline_for b.hubs hub port)
  asks_leave_entry hub port =
      pipelines_beside Left refl b.hubs (transact_after fixed b ask out).hubs (after_left (asked_of fixed b ask) refl) hub port
