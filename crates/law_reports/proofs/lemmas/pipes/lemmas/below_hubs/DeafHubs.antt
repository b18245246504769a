-- A hub hears no request where no endpoint of its own is opened.
use Rattle.std.proofs.Common.{◌≡◌, ℕ, zero, suc, ◌==◌, Bool, true, false, if◌then◌else◌, List, [], ◌∷◌, slice_get, slice_set, Option}
use Rattle.std.proofs.Common.{Some, None, ap, refl, sym, subst, ◌∙◌}
use Rattle.std.specs.Prelude.{◌&&◌}
use Rattle.std.specs.List.{AllByRecursion}
use Rattle.std.proofs.lemmas.Bool.{and_parts, eqb-true}
use Rattle.law_common.proofs.Lists.{nth_all}
use Rattle.usb_base.specs.declared.packets.EpKind.TheVariants as kinds
use Rattle.usb_base.specs.declared.packets.Ask.{Ask}
use Rattle.usb_base.specs.declared.packets.Dir.{Dir}
use Rattle.usb_base.specs.declared.packets.Dir.TheVariants as Directions
use Rattle.usb_base.specs.declared.packets.Split.{Split}
use Rattle.usb_base.specs.declared.packets.Split.TheVariants.{Plain, Start, Complete}
use Rattle.usb_base.specs.declared.packets.Way.TheVariants as ways
use Rattle.hub_keys.specs.Keys.{direction_of}
use Rattle.dev_control.specs.Stages.{token_of, stages_acked, stages_after}
use Rattle.hub_ports.specs.declared.rows.HubRequest.{HubRequest}
use Rattle.hub_ports.specs.declared.rows.HubRequest.TheVariants as hub_requests
use Rattle.hub_class.specs.HubContent.{HubContent}
use Rattle.hub_class.specs.Requesting.{effect_if, request_at}
use Rattle.hub_class.specs.EndpointZero.{is_token, reply_under, suits, acts_on, acted_with, row_at, hub_answered_at}
use Rattle.hub_class.specs.EndpointZero.{hub_answered, hub_acked}
use Rattle.hub_class.specs.Translating.{after_split}
use Rattle.bus_wire.specs.declared.asked.Answerer.{Answerer}
use Rattle.bus_wire.specs.declared.asked.Answerer.TheVariants as Answerers
use Rattle.bus_wire.specs.declared.asked.Asked.{Asked}
use Rattle.bus_wire.specs.declared.who_heard.WhoHeard.{WhoHeard}
use Rattle.bus_wire.specs.declared.who_heard.WhoHeard.TheVariants as heard
use Rattle.bus_wire.specs.Asking.{hub_after, translator_after, put_at}
use Rattle.bus_wire.specs.Below.{Floor, hubs_worked, floor_left}
use Rattle.bus_wire.specs.Bus.{Bus, Wired, Fixed, floor_of, asked_of, bus_row, changed_by, after_at}
use Rattle.law_below_hubs.specs.HostEvents.{told_key}
use Rattle.law_below_hubs.specs.HostOpens.{AsksNone}
use Rattle.law_below_hubs.specs.HostOuts.{IsOfOther}
use Rattle.transactions.specs.Calls.{Call}
use Rattle.hc_copy.specs.Planning.{transaction_of}
use Rattle.hc_copy.specs.Transacting.{call_in}
use Rattle.law_structures.specs.lent_structures.Structures.{StructureSets}
use Rattle.law_structures.proofs.lemmas.lent_structures.Altering.{found_queue}
use Rattle.law_ring.specs.Effects.{Asks}
use Rattle.law_ring.specs.Hand.{Hand}
use Rattle.law_ring.specs.Streams.StreamEffect.{same, aside, grows}
use Rattle.law_ring.specs.Told.{Endpoint as Told, endpoint_of}
use Rattle.law_controller.specs.frame_control.Joined.{BothStreamEffect, begun, moved}
use Rattle.law_below_hubs.proofs.HostAsks.{asks_other}
use Rattle.law_world.specs.steps.Streaming.{begins_by, transacts_by, wired}
use Rattle.law_world.specs.memory.Mixed.{Standing}
use Rattle.law_microframes.proofs.lemmas.visits.AskedHeads.{asked_is_near}
use Rattle.bus_world.specs.World.{World, controller_next}
use Rattle.law_reports.specs.lines.Lined.{in_hand, Lines}
use Rattle.law_reports.specs.pipes.Declared.{Sides}
use Rattle.law_reports.specs.pipes.Piped.{Heads, IsPiped}
use Rattle.law_reports.specs.pipes.puts.Paid.{Pays}
use Rattle.law_reports.specs.pipes.below_hubs.Behind.{Spots, IsBehind}
use Rattle.law_reports.specs.pipes.below_hubs.Controlled.{IsUnasked}
use Rattle.law_reports.specs.pipes.below_hubs.DeafLaws.{IsUnheard, NamesNone}
use Rattle.law_reports.proofs.lemmas.pipes.Controlled.{z}
use Rattle.law_reports.proofs.lemmas.pipes.lemmas.below_hubs.Asked.{asks_none, iso_beside}
use Rattle.law_reports.proofs.lemmas.pipes.lemmas.below_hubs.BehindControlled.{ask_ways}

abbrev IsNotFor : ℕ → Ask → Type 0
IsNotFor a ask = ask.addr ≡ a → ask.ep ≡ 0 → ⊥

-- ---- one hub

effect_address : (o : Option HubRequest) (h : HubContent) → (effect_if o h).address ≡ h.address
effect_address None h = refl
effect_address (Some hub_requests.HubStatus) h = refl
effect_address (Some (hub_requests.PortStatus port)) h = refl
effect_address (Some (hub_requests.ChangePort port change)) h = refl
effect_address (Some (hub_requests.ClearBuffer port key)) h = refl
effect_address (Some (hub_requests.ResetTranslator port)) h = refl

acted_address : (o : Option (List ℕ)) (h : HubContent) → (acted_with o h).address ≡ h.address
acted_address None h = refl
acted_address (Some setup) h = effect_address (request_at setup h) h

if_address : (b : Bool) (h new : HubContent) → new.address ≡ h.address → (if b then new else h).address ≡ h.address
if_address true h new its = its
if_address false h new its = refl

module _ (ask : Ask) where
  answered_address : (out : List ℕ) (h : HubContent) → (hub_answered ask out h).address ≡ h.address
  answered_address out h =
      if_address (suits ask h) h (hub_answered_at ask out h)
      (acted_address (acts_on (row_at ask out h) h.control.request)
      (record h { control = stages_after (reply_under h) h.control ask out }))

  acked_address : (h : HubContent) → (hub_acked ask h).address ≡ h.address
  acked_address h = if_address (suits ask h) h (record h { control = stages_acked (reply_under h) h.control }) refl

  pub address_after : (row : WhoHeard) (out : List ℕ) (h : HubContent) → (hub_after row ask out h).address ≡ h.address
  address_after heard.SentUnheard out h = refl
  address_after heard.NoAnswer out h = answered_address out h
  address_after heard.AnswerUnheard out h = answered_address out h
  address_after heard.AnswerHeard out h = answered_address out h
  address_after heard.AckUnheard out h = answered_address out h
  address_after heard.AckHeard out h = acked_address (hub_answered ask out h) ∙ answered_address out h

module _ (a : ℕ) (ask : Ask) where
  unless : IsNotFor a ask → (h new : HubContent) (b : Bool) → suits ask h ≡ b → new.address ≡ h.address → IsUnheard a h
      → IsUnheard a (if b then new else h)
  unless other h new false is keeps old = old
  unless other h new true is keeps old = λ same_one.
      let one = and_parts (ask.addr == h.address && ask.ep == 0) (is_token (token_of ask.pid)) is in
      let two = and_parts (ask.addr == h.address) (ask.ep == 0) one.0 in
      absurd (other (eqb-true ask.addr h.address two.0 ∙ sym keeps ∙ same_one) (eqb-true ask.ep 0 two.1))

  answered : IsNotFor a ask → (out : List ℕ) (h : HubContent) → IsUnheard a h → IsUnheard a (hub_answered ask out h)
  answered other out h old =
      unless other h (hub_answered_at ask out h) (suits ask h) refl
      (acted_address (acts_on (row_at ask out h) h.control.request)
      (record h { control = stages_after (reply_under h) h.control ask out })) old

  acked : IsNotFor a ask → (h : HubContent) → IsUnheard a h → IsUnheard a (hub_acked ask h)
  acked other h old = unless other h (record h { control = stages_acked (reply_under h) h.control }) (suits ask h) refl refl old

  asked : IsNotFor a ask → (row : WhoHeard) (out : List ℕ) (h : HubContent) → IsUnheard a h → IsUnheard a (hub_after row ask out h)
  asked other heard.SentUnheard out h old = old
  asked other heard.NoAnswer out h old = answered other out h old
  asked other heard.AnswerUnheard out h old = answered other out h old
  asked other heard.AnswerHeard out h old = answered other out h old
  asked other heard.AckUnheard out h old = answered other out h old
  asked other heard.AckHeard out h old = acked other (hub_answered ask out h) (answered other out h old)

  split_leaves : (split : Split) (out : List ℕ) (stuff : ℕ) (h : HubContent) → IsUnheard a h
      → IsUnheard a (after_split split ask out stuff h)
  split_leaves Plain out stuff h old = old
  split_leaves (Start hub port part) out stuff h old = old
  split_leaves (Complete hub port) out stuff h old = old

  translated : (row : WhoHeard) (out : List ℕ) (stuff : ℕ) (h : HubContent) → IsUnheard a h
      → IsUnheard a (translator_after row ask out stuff h)
  translated heard.SentUnheard out stuff h old = old
  translated heard.NoAnswer out stuff h old = split_leaves ask.split out stuff h old
  translated heard.AnswerUnheard out stuff h old = split_leaves ask.split out stuff h old
  translated heard.AnswerHeard out stuff h old = split_leaves ask.split out stuff h old
  translated heard.AckUnheard out stuff h old = split_leaves ask.split out stuff h old
  translated heard.AckHeard out stuff h old = split_leaves ask.split out stuff h old

-- ---- all hubs

module _ (P : HubContent → Type 0) where
  set_all : (hubs : List HubContent) (n : ℕ) (x : HubContent) → P x → AllByRecursion P hubs → AllByRecursion P (slice_set hubs n x)
  set_all [] n x new all = tt
  set_all (h ∷ hs) zero x new all = (new, all.1)
  set_all (h ∷ hs) (suc n) x new all = (all.0, set_all hs n x new all.1)

  put_all : (f : HubContent → HubContent) (n : ℕ) (hubs : List HubContent) (o : Option HubContent) → ((h : HubContent) → P h → P (f h))
      → slice_get hubs n ≡ o → AllByRecursion P hubs → AllByRecursion P (put_at o n f hubs)
  put_all f n hubs None each here all = all
  put_all f n hubs (Some h) each here all = set_all hubs n (f h) (each h (nth_all P hubs n h all here)) all

who_deaf : (a : ℕ) (ask : Ask) → IsNotFor a ask → (row : WhoHeard) (who : Answerer) (out : List ℕ) (b : Bus)
    → AllByRecursion (IsUnheard a) b.hubs → AllByRecursion (IsUnheard a) (changed_by row who ask out b).hubs
who_deaf a ask other row (Answerers.Device n) out b all = all
who_deaf a ask other row (Answerers.Hub n) out b all =
    put_all (IsUnheard a) (hub_after row ask out) n b.hubs (slice_get b.hubs n) (asked a ask other row out) refl all
who_deaf a ask other row (Answerers.Translator n stuff) out b all =
    put_all (IsUnheard a) (translator_after row ask out stuff) n b.hubs (slice_get b.hubs n) (translated a ask row out stuff) refl all
who_deaf a ask other row Answerers.Nobody out b all = all

after_deaf : (a : ℕ) (ask : Ask) → IsNotFor a ask → (fixed : Fixed) (b : Bus) (out : List ℕ) (o : Option Asked)
    → AllByRecursion (IsUnheard a) b.hubs → AllByRecursion (IsUnheard a) (after_at fixed b ask out o).hubs
after_deaf a ask other fixed b out None all = all
after_deaf a ask other fixed b out (Some e) all = who_deaf a ask other (bus_row fixed b e ask out) e.who out b all

worked_deaf : (a : ℕ) (fixed : Fixed) (frindex : ℕ) (hs : List HubContent) (floor : Floor) → AllByRecursion (IsUnheard a) hs
    → AllByRecursion (IsUnheard a) (hubs_worked fixed frindex hs floor)
worked_deaf a fixed frindex [] floor all = tt
worked_deaf a fixed frindex (h ∷ hs) floor all = ((λ at. all.0 at), worked_deaf a fixed frindex hs (floor_left fixed h floor) all.1)

event_deaf : {Beside : Ask → Type 0} (a : ℕ) (parts : StructureSets) (hand : Hand) (wire after : Wired) (now : StructureSets)
    (later : Hand) → ((ask : Ask) → Beside ask → IsNotFor a ask)
    → ((m : Asks transacts_by parts hand wire after later) → IsNotFor a (call_in (transaction_of m.kind m.copy.queue) m.out m.last).ask)
    → BothStreamEffect begins_by Beside transacts_by parts hand wire after now later → AllByRecursion (IsUnheard a) wire.bus.hubs
    → AllByRecursion (IsUnheard a) after.bus.hubs
event_deaf a parts hand wire after now later beside asks (begun index allowed begins told) all =
    subst (λ (v : Wired). AllByRecursion (IsUnheard a) v.bus.hubs) (sym begins.1)
    (worked_deaf a wire.fixed index wire.bus.hubs (floor_of wire.bus) all)
event_deaf a parts hand wire after now later beside asks (moved (same told quiet)) all =
    subst (λ (v : Wired). AllByRecursion (IsUnheard a) v.bus.hubs) (sym quiet) all
event_deaf a parts hand wire after now later beside asks (moved (aside told ask out reply is made)) all =
    subst (λ (v : Wired). AllByRecursion (IsUnheard a) v.bus.hubs) (sym made.1)
    (after_deaf a ask (beside ask is) wire.fixed wire.bus out (asked_of wire.fixed wire.bus ask) all)
event_deaf a parts hand wire after now later beside asks (moved (grows m each g)) all =
    let call : Call = call_in (transaction_of m.kind m.copy.queue) m.out m.last in
    subst (λ (v : Wired). AllByRecursion (IsUnheard a) v.bus.hubs) (sym m.made.1)
    (after_deaf a call.ask (asks m) wire.fixed wire.bus call.out (asked_of wire.fixed wire.bus call.ask) all)

-- ---- a world

abbrev zero_of : ℕ → Told
zero_of a = record { addr = a; ep = 0; speed = 0; max = 0; dtc = false; hub = 0; port = 0 }

both_ways : (a : ℕ) (ask : Ask) → IsOfOther (told_key kinds.Bulk Directions.In (zero_of a)) ask → IsOfOther
    (told_key kinds.Bulk Directions.Out (zero_of a)) ask
    → IsNotFor a ask
both_ways a ask inward outward = by (direction_of ask.pid) refl
  where
    by : (d : Dir) → direction_of ask.pid ≡ d → IsNotFor a ask
    by Directions.In is = inward is
    by Directions.Out is = outward is

module _ (fixed : Fixed) (x : Sides) (o : Spots) (s : Standing) (m : Lines) (h : Heads) (puts : ℕ → List ℕ) (w : World)
    (k : IsPiped fixed x s m h w) (pays : Pays fixed x s m puts w) (b : IsBehind fixed o s m puts w) (a : ℕ)
    (none : NamesNone a w.driver) where
  unasked_in : IsUnasked w.driver ways.In (zero_of a)
  unasked_in = record {
    data_apart = λ f v there is_met its addr num. none f v there addr num;
    control_apart = λ f v there is_met its addr num. none f v there addr num;
    iso_apart = λ f v there iso its addr num. none f v there addr num;
  }

  unasked_out : IsUnasked w.driver ways.Out (zero_of a)
  unasked_out = record {
    data_apart = λ f v there is_met its addr num. none f v there addr num;
    control_apart = λ f v there is_met its addr num. none f v there addr num;
    iso_apart = λ f v there iso its addr num. none f v there addr num;
  }

  asked_other : (dir : Dir) → AsksNone dir s.near s.parts (zero_of a) → (after : Wired) (later : Hand)
      → (t : Asks transacts_by s.parts (in_hand s) (wired fixed w) after later)
      → IsOfOther (told_key kinds.Bulk dir (zero_of a)) (call_in (transaction_of t.kind t.copy.queue) t.out t.last).ask
  asked_other dir asks after later t =
      let u = asks t.copy.at (asked_is_near s w k.mixed t.copy t.in_hand t.here t.works) in
      let is : u.0 ≡ endpoint_of t.copy.queue = u.1.is
      ∙ ap endpoint_of (found_queue (s.parts t.copy.at t.copy.at) u.1.queue t.copy.queue u.1.head t.here) in
      asks_other kinds.Bulk dir (s.parts t.copy.at) t.copy.at t.copy.queue t.kind t.out t.last
      (zero_of a) u.0 t.part_is t.here t.works is u.2

  pub controlled_deaf : AllByRecursion (IsUnheard a) (wired fixed w).bus.hubs
      → AllByRecursion (IsUnheard a) (wired fixed (controller_next fixed w)).bus.hubs
  controlled_deaf all =
      let ask_them = ask_ways fixed x o s m h puts w k pays b in
      event_deaf a s.parts (in_hand s) (wired fixed w) (wired fixed (controller_next fixed w)) _ _
      (λ ask iso.
      both_ways a ask (iso_beside fixed x s m h w k ask_them Directions.In (zero_of a) unasked_in ask iso)
      (iso_beside fixed x s m h w k ask_them Directions.Out (zero_of a) unasked_out ask iso))
      (λ t.
      both_ways a (call_in (transaction_of t.kind t.copy.queue) t.out t.last).ask
      (asked_other Directions.In (asks_none fixed x s m h w k ask_them Directions.In (zero_of a) unasked_in) _ _ t)
      (asked_other Directions.Out (asks_none fixed x s m h w k ask_them Directions.Out (zero_of a) unasked_out) _ _ t))
      (z fixed x s m h w k) all
