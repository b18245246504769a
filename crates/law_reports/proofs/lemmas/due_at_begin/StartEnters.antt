-- The start-split of an interrupt endpoint enters the pipeline of its translator, where it isn't lost (EHCI 1.0, 4.12.2.4; USB 2.0, 11.14
-- and 11.18).
use Rattle.std.proofs.Common.{◌≡◌, ◌≢◌, ℕ, ◌-◌, ◌<◌, Bool, true, false, if◌then◌else◌, List, [], ◌∷◌, ◌++◌, length, slice_get, slice_set}
use Rattle.std.proofs.Common.{Option, Some, None, ap, refl, sym, subst, ◌∙◌, arith}
use Rattle.std.specs.Prelude.{◌==◌, ◌||◌, nat_lt, unwrap_or}
use Rattle.std.specs.Option.{option_and_then, option_map, option_map_or}
use Rattle.std.specs.List.{find}
use Rattle.std.proofs.lemmas.Bool.{lt-ltb}
use Rattle.std.proofs.lemmas.Option.{same_Some}
use Rattle.usb_base.specs.Acknowledgement.{acknowledges}
use Rattle.usb_base.specs.declared.endpoints.EpDesc.{EpDesc}
use Rattle.usb_base.specs.declared.endpoints.EpName.{EpName}
use Rattle.usb_base.specs.declared.packets.Ask.{Ask}
use Rattle.usb_base.specs.declared.packets.DataPart.TheVariants as parts
use Rattle.usb_base.specs.declared.packets.Dir.{Dir}
use Rattle.usb_base.specs.declared.packets.EpKind.{EpKind}
use Rattle.usb_base.specs.declared.packets.EpKind.TheVariants.{Interrupt}
use Rattle.usb_base.specs.declared.packets.Pid.{Pid}
use Rattle.usb_base.specs.declared.packets.Pid.TheVariants as pids
use Rattle.usb_base.specs.declared.packets.Split.{Split}
use Rattle.usb_base.specs.declared.packets.Split.TheVariants.{Start}
use Rattle.usb_base.specs.declared.packets.Way.TheVariants as ways
use Rattle.hub_keys.specs.Keys.{key_of, direction_of}
use Rattle.hub_keys.specs.declared.key.Key.{Key}
use Rattle.tt_pipeline.specs.declared.entry.Entry.{Entry}
use Rattle.tt_pipeline.specs.declared.rows.StartRow.{StartRow}
use Rattle.tt_pipeline.specs.declared.rows.StartRow.TheVariants.{Enters, Forgotten}
use Rattle.tt_pipeline.specs.Starting.{has_key, is_there, without, row_of_part, start_row, after_start, started}
use Rattle.tt_pipeline.specs.Work.{part_at, brought_by, nothing_brought, fresh}
use Rattle.multi_tt.specs.Translators.{Translator, place_of, put_if, changed_place, translator_at}
use Rattle.multi_tt.specs.Single as single
use Rattle.hub_class.specs.HubContent.{HubContent}
use Rattle.hub_class.specs.Translating.{after_split, transacted}
use Rattle.qh_qtd.specs.declared.queue_head.Qh.{Qh}
use Rattle.drv_periodic_table.specs.Periodic.{dir_of}
use Rattle.transactions.specs.Asks.{start_split}
use Rattle.hc_copy.specs.declared.held.Transaction.{Transaction}
use Rattle.hc_copy.specs.Planning.{pid_at, queue_pipe, host_in, split_at, transaction_at}
use Rattle.hc_copy.specs.Transacting.{call_in}
use Rattle.hc_interrupt.specs.Turns.{planned}
use Rattle.bus_wire.specs.declared.asked.Answerer.{Answerer}
use Rattle.bus_wire.specs.declared.asked.Answerer.TheVariants as answerers
use Rattle.bus_wire.specs.declared.asked.Asked.{Asked}
use Rattle.bus_wire.specs.declared.seats.Seat.{Seat}
use Rattle.bus_wire.specs.declared.who_heard.WhoHeard.{WhoHeard}
use Rattle.bus_wire.specs.Asking.{losses_of, translator_after, put_at}
use Rattle.bus_wire.specs.Bus.{Bus, Fixed, stuff_of, hears, asked_at, asked_of, answer_by, bus_row, after_at, transact_after}
use Rattle.bus_wire.specs.Fates.{is_unheard}
use Rattle.bus_wire.specs.Seats.{token_kind, place_for}
use Rattle.bus_wire.specs.WhoHeard.{who_heard, packets_before, is_answer, left_by, later}
use Rattle.law_devices.proofs.Places.{set_here, position_set}
use Rattle.law_translated.proofs.Keys.{same_as_itself}
use Rattle.law_translated.proofs.PipelineCalls.{find_here, find_later, not_there}
use Rattle.law_microframes.specs.due.repeats.Hearing.{HasTranslator, token_of_way, IsHeardOn}
use Rattle.law_microframes.specs.time.DataQueues.{pid_of}
use Rattle.law_microframes.specs.translators.Results.{key_for, pipeline_for, IsNextHeard}
use Rattle.law_microframes.specs.translators.Rooms.{HasRoom}
use Rattle.law_reports.proofs.lemmas.due_at_begin.Answered.{its_token, its_direction, same_token, pipeline_is}
use Rattle.law_reports.proofs.lemmas.due_at_begin.EntryStages.{IsStaged, HasStaged}
use Rattle.law_reports.proofs.lemmas.due_at_begin.SplitHeads.{IsHeadOf}

-- ---- the pipeline

find_last : (k : Key) (es : List Entry) (e : Entry) → is_there k es ≡ false → has_key k e ≡ true → find (has_key k) (es ++ e ∷ []) ≡ Some e
find_last k [] e none on = find_here k e [] on
find_last k (x ∷ xs) e none on =
    let n = not_there k x xs none in find_later k x (xs ++ e ∷ []) n.0 ∙ find_last k xs e n.1 on

enters_by : (there short : Bool) → short ≡ true → (if there || short then Enters else Forgotten) ≡ Enters
enters_by true short is = refl
enters_by false true is = refl
enters_by false false is = absurd cc

module _ (ask : Ask) (bytes : List ℕ) (stuff : ℕ) (es : List Entry) (kind : ask.kind ≡ Interrupt) (room : HasRoom (key_of ask) es) where
  enters : start_row ask (length bytes) es ≡ Enters
  enters =
      ap (λ (k : EpKind). row_of_part (part_at k ask.pid ask.split) (key_of ask) (length bytes) es) kind
      ∙ enters_by (is_there (key_of ask) es) (nat_lt (length es) 256) (lt-ltb (length es) 256 room.few)

  fresh_staged : IsStaged 0 (fresh ask bytes stuff)
  fresh_staged = record {
    kind = kind;
    came = ap (λ (k : EpKind). (brought_by (part_at k ask.pid ask.split) (length bytes) nothing_brought).whole) kind;
    before = λ some. absurd (omega (arith, some));
    heard = λ some. absurd (omega (arith, some));
  }

  pub own_start : HasStaged 0 (key_of ask) (started ask bytes stuff es)
  own_start = record {
    entry = fresh ask bytes stuff;
    there =
        ap (λ (r : StartRow). find (has_key (key_of ask)) (after_start r ask bytes stuff es)) enters
        ∙ find_last (key_of ask) (without (key_of ask) es) (fresh ask bytes stuff) room.once (same_as_itself (key_of ask));
    staged = fresh_staged;
  }

-- ---- a hub

-- whom the ask changes, where nothing of it is lost
left_on : (unheard answer acked lost : Bool) (h g : HubContent) → left_by (who_heard false answer unheard acked lost) h g g ≡ g
left_on unheard false acked lost h g = refl
left_on true true acked lost h g = refl
left_on false true false lost h g = refl
left_on false true true true h g = refl
left_on false true true false h g = refl

no_loss : (a b : Bool) → a ≡ false → b ≡ false → (a || b) ≡ false
no_loss false false x y = refl
no_loss true b x y = absurd cc
no_loss false true x y = absurd cc

served_by : (o : Option ℕ) (ts : List Translator) (t : Translator) (f : Translator → Translator)
    → option_and_then (λ (place : ℕ). slice_get ts place) o ≡ Some t
    → option_and_then (λ (place : ℕ). slice_get (changed_place o f ts) place) o ≡ Some (f t)
served_by None ts t f is = absurd cc
served_by (Some j) ts t f is =
    ap (λ (u : Option Translator). slice_get (put_if u j f ts) j) is ∙ set_here ts j t (f t) is

-- ---- the start-split

abbrev start_of : Qh → Transaction
start_of q = transaction_at (start_split (queue_pipe Interrupt q)) (queue_pipe Interrupt q) (host_in q)

is_start : (q : Qh) → (q.eps == 2) ≡ false → q.token.split_state ≡ false → planned q ≡ start_of q
is_start q low unsplit =
    ap (λ (b : Bool). transaction_at (split_at b q.token.split_state (queue_pipe Interrupt q)) (queue_pipe Interrupt q) (host_in q)) low
    ∙ ap (λ (b : Bool). transaction_at (split_at false b (queue_pipe Interrupt q)) (queue_pipe Interrupt q) (host_in q)) unsplit

module _ (fixed : Fixed) (b : Bus) (x : EpDesc) (h : IsHeardOn fixed b x) (next : IsNextHeard fixed b x)
    (room : (key : Key) → HasRoom key (pipeline_for b.hubs h.hub x.port)) (kind : x.kind ≡ Interrupt) (one : x.name.way ≢ ways.Ctl)
    (q : Qh) (its : IsHeadOf x q) (pid : q.token.pid ≡ pid_of (dir_of x.name.way)) (out : List ℕ) (last : Bool) where
  abbrev its_ask : Ask
  its_ask = (call_in (start_of q) out last).ask

  abbrev its_out : List ℕ
  its_out = (call_in (start_of q) out last).out

  token_is : token_kind (pid_at q.token.pid) ≡ token_of_way x.name.way
  token_is = ap (λ (n : ℕ). token_kind (pid_at n)) pid ∙ its_token x.name.way one

  abbrev make : ℕ → ℕ → Dir → EpKind → Key
  make addr ep dir k = record { addr = addr; ep = ep; dir = dir; kind = k }

  key_is : key_of its_ask ≡ key_for x
  key_is =
      ap (λ (n : ℕ). make n q.ep (direction_of (pid_at q.token.pid)) Interrupt) its.addr
      ∙ ap (λ (n : ℕ). make x.name.addr n (direction_of (pid_at q.token.pid)) Interrupt) its.ep
      ∙ ap (λ (d : Dir). make x.name.addr x.name.num d Interrupt) (ap (λ (n : ℕ). direction_of (pid_at n)) pid ∙ its_direction x.name.way)
      ∙ ap (make x.name.addr x.name.num (dir_of x.name.way)) (sym kind)

  found : place_for fixed.seats its_ask.addr its_ask.ep (token_kind its_ask.pid) ≡ Some h.place
  found =
      ap (λ (n : ℕ). place_for fixed.seats n q.ep (token_kind (pid_at q.token.pid))) its.addr
      ∙ ap (λ (n : ℕ). place_for fixed.seats x.name.addr n (token_kind (pid_at q.token.pid))) its.ep
      ∙ ap (place_for fixed.seats x.name.addr x.name.num) token_is ∙ h.found

  split_is : its_ask.split ≡ Start h.hub x.port parts.All
  split_is =
      ap (λ (n : ℕ). Start n q.port parts.All) (its.hub ∙ ap (λ (o : Option ℕ). unwrap_or o 0) h.behind)
      ∙ ap (λ (n : ℕ). Start h.hub n parts.All) its.port

  -- ---- who is asked

  abbrev who : Answerer
  who = answerers.Translator h.translator.place (stuff_of h.seat.owner)

  abbrev asked : Asked
  asked = record { place = h.place; name = h.seat.name; packet = h.number.number; who = who }

  hears_is : hears b its_ask.split h.seat.owner ≡ who
  hears_is =
      ap (λ (s : Split). hears b s h.seat.owner) split_is
      ∙ ap (λ (o : Option ℕ). option_map_or (λ place. answerers.Translator place (stuff_of h.seat.owner)) o answerers.Nobody)
      h.translator.found

  abbrev with_who : Answerer → Option Asked
  with_who a = Some (record { place = h.place; name = h.seat.name; packet = h.number.number; who = a })

  asked_is : asked_of fixed b its_ask ≡ Some asked
  asked_is =
      ap (λ (o : Option ℕ). option_and_then (asked_at fixed b its_ask.split) o) found
      ∙ ap (λ (o : Option Seat). option_and_then (λ seat. option_map (λ packet. record
      { place = h.place; name = seat.name; packet = packet; who = hears b its_ask.split seat.owner }) (slice_get b.high h.place)) o) h.there
      ∙ ap (λ (o : Option ℕ). option_map (λ packet. record {
        place = h.place;
        name = h.seat.name;
        packet = packet;
        who = hears b its_ask.split h.seat.owner;
      }) o) h.number.is
      ∙ ap with_who hears_is

  -- ---- nothing is lost

  same_place : next.place ≡ h.place
  same_place =
      same_Some next.place h.place
      (sym next.asked ∙ ap (place_for fixed.seats x.name.addr x.name.num) (same_token x.name.way) ∙ h.found)

  same_seat : h.seat.name ≡ x.name
  same_seat =
      ap (λ (s : Seat). s.name)
      (same_Some h.seat next.seat (sym h.there ∙ ap (slice_get fixed.seats) (sym same_place) ∙ next.seated)) ∙ next.named

  same_packet : h.number.number ≡ next.packet
  same_packet = same_Some h.number.number next.packet (sym h.number.is ∙ ap (slice_get b.high) (sym same_place) ∙ next.next)

  good : (i : ℕ) → i < 2 → is_unheard fixed.fates h.seat.name false (later h.number.number i) ≡ false
  good i few =
      ap (λ (n : EpName). is_unheard fixed.fates n false (later h.number.number i)) same_seat
      ∙ ap (λ (n : ℕ). is_unheard fixed.fates x.name false (later n i)) same_packet ∙ next.none_lost i few

  few_sent : (p : Pid) (hub port n : ℕ) → n ≡ packets_before (record its_ask { split = Start hub port parts.All; pid = p }) → n - 1 < 2
  few_sent pids.Out hub port n is = omega (arith, is)
  few_sent pids.Setup hub port n is = omega (arith, is)
  few_sent _ hub port n is = omega (arith, is)

  none_lost : (losses_of fixed.fates false asked (packets_before its_ask)).sent ≡ false
  none_lost =
      no_loss _ _ (good 0 (omega arith))
      (good (packets_before its_ask - 1) (few_sent its_ask.pid q.hub q.port (packets_before its_ask) refl))

  abbrev row : WhoHeard
  row = bus_row fixed b asked its_ask its_out

  -- ---- what it leaves

  abbrev left : HubContent
  left = transacted its_ask its_out (stuff_of h.seat.owner) h.translator.content

  translator_is : translator_after row its_ask its_out (stuff_of h.seat.owner) h.translator.content ≡ left
  translator_is =
      ap (λ (c : Bool). left_by (who_heard c (is_answer (answer_by b who its_ask its_out))
      (losses_of fixed.fates false asked (packets_before its_ask)).answer (acknowledges its_ask (answer_by b who its_ask its_out))
      (losses_of fixed.fates false asked (packets_before its_ask)).acknowledgement) h.translator.content left left) none_lost
      ∙ left_on (losses_of fixed.fates false asked (packets_before its_ask)).answer (is_answer (answer_by b who its_ask its_out))
      (acknowledges its_ask (answer_by b who its_ask its_out)) (losses_of fixed.fates false asked (packets_before its_ask)).acknowledgement
      h.translator.content left

  abbrev set_hubs : HubContent → List HubContent
  set_hubs g = slice_set b.hubs h.translator.place g

  hubs_are : (transact_after fixed b its_ask its_out).hubs ≡ set_hubs left
  hubs_are =
      ap (λ (o : Option Asked). (after_at fixed b its_ask its_out o).hubs) asked_is
      ∙ ap (λ (o : Option HubContent). put_at o h.translator.place (translator_after row its_ask its_out (stuff_of h.seat.owner)) b.hubs)
      h.translator.here
      ∙ ap set_hubs translator_is

  abbrev new : Translator
  new = single.started its_ask its_out (stuff_of h.seat.owner) h.translator.translator

  same_address : left.address ≡ h.translator.content.address
  same_address = ap (λ (s : Split). (after_split s its_ask its_out (stuff_of h.seat.owner) h.translator.content).address) split_is

  serves : translator_at x.port left.translators ≡ Some new
  serves =
      ap (λ (s : Split). translator_at x.port (after_split s its_ask its_out (stuff_of h.seat.owner) h.translator.content).translators)
      split_is
      ∙ ap (λ (n : ℕ). translator_at x.port (record h.translator.content.translators {
        all = changed_place (place_of h.translator.content.translators.multi n) (single.started its_ask its_out (stuff_of h.seat.owner))
            h.translator.content.translators.all;
      })) its.port
      ∙ served_by (place_of h.translator.content.translators.multi x.port) h.translator.content.translators.all h.translator.translator
      (single.started its_ask its_out (stuff_of h.seat.owner)) h.translator.serves

  has_new : HasTranslator (set_hubs left) h.hub x.port
  has_new = record {
    place = h.translator.place;
    found = position_set (λ (y : HubContent). y.address == h.hub) b.hubs h.translator.place h.translator.content left h.translator.here
        (ap (λ (a : ℕ). a == h.hub) same_address) ∙ h.translator.found;
    content = left;
    here = set_here b.hubs h.translator.place h.translator.content left h.translator.here;
    translator = new;
    serves = serves;
  }

  its_room : HasRoom (key_of its_ask) h.translator.translator.pipeline
  its_room = subst (HasRoom (key_of its_ask)) (pipeline_is b.hubs h.hub x.port h.translator) (room (key_of its_ask))

  new_staged : HasStaged 0 (key_for x) new.pipeline
  new_staged =
      subst (λ (k : Key). HasStaged 0 k new.pipeline) key_is
      (own_start its_ask its_out (stuff_of h.seat.owner) h.translator.translator.pipeline refl its_room)

  entered : HasStaged 0 (key_for x) (pipeline_for (transact_after fixed b its_ask its_out).hubs h.hub x.port)
  unfolding has_new
  entered =
      subst (λ (hs : List HubContent). HasStaged 0 (key_for x) (pipeline_for hs h.hub x.port)) (sym hubs_are)
      (subst (HasStaged 0 (key_for x)) (sym (pipeline_is (set_hubs left) h.hub x.port has_new)) new_staged)

  pub start_enters : (q.eps == 2) ≡ false → q.token.split_state ≡ false
      → HasStaged 0 (key_for x) (pipeline_for (transact_after fixed b (call_in (planned q) out last).ask
      (call_in (planned q) out last).out).hubs h.hub x.port)
  start_enters low unsplit =
      subst (λ (t : Transaction). HasStaged 0 (key_for x) (pipeline_for (transact_after fixed b (call_in t out last).ask
      (call_in t out last).out).hubs h.hub x.port)) (sym (is_start q low unsplit)) entered
