-- Where nothing is asked of a control endpoint in the other direction, its hubs' work is events over both of its slots.
use Rattle.std.proofs.Common.{◌≡◌, ℕ, zero, suc, Bool, true, false, List, [], ◌∷◌, refl, sym, subst, ap, ◌∙◌, ◌⊎◌, inl, inr, ⊎_elim}
use Rattle.usb_base.specs.declared.packets.Ask.{Ask}
use Rattle.usb_base.specs.declared.packets.Dir.{Dir}
use Rattle.usb_base.specs.declared.packets.Dir.TheVariants as Directions
use Rattle.usb_base.specs.declared.packets.Pid.{Pid}
use Rattle.dev_control.specs.declared.rows.StageToken.TheVariants as Tokens
use Rattle.dev_control.specs.Stages.{token_of, is_read}
use Rattle.std.specs.Prelude.{◌≢◌, ◌&&◌}
use Rattle.hub_keys.specs.Asks.{classic_of}
use Rattle.hub_keys.specs.Keys.{key_of, is_same_key, direction_of}
use Rattle.hub_keys.specs.declared.key.Key.{Key}
use Rattle.hub_class.specs.HubContent.{HubContent}
use Rattle.hub_class.specs.Microframe.{wire_left, translators_worked}
use Rattle.multi_tt.specs.Translators.{Translator}
use Rattle.tt_bulk.specs.Contents.{Taken, BufferContent, Free, Pending, Ready, Old}
use Rattle.tt_pipeline.specs.declared.entry.Entry.{Entry}
use Rattle.tt_pipeline.specs.Starting.{is_there}
use Rattle.bus_wire.specs.Fixed.{Fixed}
use Rattle.bus_wire.specs.Below.{Floor, Below, below_at, below_reply, below_after, floor_left, hubs_worked}
use Rattle.bus_wire.specs.Bus.{floor_of}
use Rattle.claims_report.specs.Requests.{Request}
use Rattle.law_request.specs.Host.{Endpoint, has_data, data_token, status_token}
use Rattle.law_translated.specs.Lift.{Buffered, Empty, Asked, IsQuiet}
use Rattle.law_translated.specs.KeySlots.{KeySlot, slot_by, slot_in, slot_of, either_slot, AreEntries}
use Rattle.law_translated.specs.KeyLaws.{Has}
use Rattle.law_translated.specs.KeyHubs.{HaveNone, HasAt}
use Rattle.law_translated.specs.KeyEvents.{mapped}
use Rattle.law_translated.specs.KeySteps.{KeyTurn, Showing}
use Rattle.law_translated.specs.KeySteps.KeyTurn.{rests as turn_rests, works as turn_works, is_quiet as turn_is_quiet, gives_dead as turn_gives_dead}
use Rattle.law_translated.specs.KeySteps.Showing.{stays as shown_stays, shows as shown_shows}
use Rattle.law_translated.proofs.HubCalls.{none_work, hub_work}
use Rattle.law_translated.proofs.Keys.{same_as_itself}
use Rattle.law_translated.proofs.PipelineCalls.{not_there}
use Rattle.law_below_hubs.specs.Raised.{transacts_below}
use Rattle.law_below_hubs.specs.RightAsks.{IsRightIn, AreRightEntries, AreRight, AllRight}
use Rattle.law_below_hubs.specs.HubsKeys.{HubsHaveNone, HubsHave, AreRightHubs}
use Rattle.law_below_hubs.specs.ControlAsks.{IsRequestToken, IsRequestAsk}
use Rattle.law_below_hubs.specs.ControlAsks.IsRequestToken.{setup, data_stage, status}
use Rattle.law_below_hubs.specs.ControlWork.{control_call, control_answer, control_key, IsInTurn}
use Rattle.law_below_hubs.specs.ControlTurns.{turned, QuietIsInTurn, RequestWorkIsEvents}
use Rattle.law_below_hubs.proofs.InFollows.{key_is}
use Rattle.law_below_hubs.proofs.RightAsks.{works_rightly}
use Rattle.law_below_hubs.proofs.HubsWork.{hub_made}
use Rattle.law_below_hubs.proofs.ControlBegin.{control_work_is_events}

-- ---- one ask

in_is_token : (b : Bool) → token_of (data_token b) ≢ Tokens.Other
in_is_token true e = cc
in_is_token false e = cc

status_is_token : (b : Bool) → token_of (status_token b) ≢ Tokens.Other
status_is_token true e = cc
status_is_token false e = cc

token_known : (r : Request) (pid : Pid) → IsRequestToken r pid → token_of pid ≢ Tokens.Other
token_known r pid (setup is) e = let z = ap token_of (sym is) ∙ e in cc
token_known r pid (data_stage is) e = in_is_token (is_read r.setup) (ap token_of (sym is) ∙ e)
token_known r pid (status is) e = status_is_token (has_data r && is_read r.setup) (ap token_of (sym is) ∙ e)

one_or_other : (d dir : Dir) → (d ≡ dir) ⊎ (d ≡ turned dir)
one_or_other Directions.In Directions.In = inl refl
one_or_other Directions.Out Directions.Out = inl refl
one_or_other Directions.In Directions.Out = inr refl
one_or_other Directions.Out Directions.In = inr refl

module _ (e : Endpoint) (r : Request) (dir : Dir) where
  abbrev back : Key
  back = control_key e (turned dir)

  abbrev Request_asks : Ask → Type 0
  Request_asks = IsRequestAsk r e.addr e.num

  abbrev In_turn : Ask → Type 0
  In_turn = IsInTurn (control_key e dir)

  in_turn : (ask : Ask) → Request_asks (classic_of ask) → (key_of ask ≡ back → ⊥) → In_turn (classic_of ask)
  in_turn ask asks not_back addr ep =
      let q = asks addr ep in
      record {
        dir = ⊎_elim {C = direction_of ask.pid ≡ dir} (λ is. is)
            (λ other. absurd (not_back (key_is ask back addr ep other q.kind))) (one_or_other (direction_of ask.pid) dir);
        kind = q.kind;
        token = token_known r ask.pid q.token;
      }

-- a key has nothing that is asked for it: then what is asked is so, if all that isn't asked for it is
module _ (back : Key) (old new : Ask → Type 0)
    (turns : (ask : Ask) → old (classic_of ask) → (key_of ask ≡ back → ⊥) → new (classic_of ask)) where
  -- ---- one translator

  pending_is : (b : BufferContent) (a : Taken) (silences : ℕ) → b ≡ Pending a silences → key_of a.ask ≡ back → slot_in back b ≡ Asked a
  pending_is b a silences is own =
      ap (slot_in back) is
      ∙ ap (λ (x : Bool). slot_by x (Pending a silences))
      (subst (λ (c : Key). is_same_key (key_of a.ask) c ≡ true) own (same_as_itself (key_of a.ask)))

  buffer_turn : (b : BufferContent) → ((a : Taken) → slot_in back b ≡ Asked a → ⊥) → IsRightIn old b → IsRightIn new b
  buffer_turn Free none right = tt
  buffer_turn (Pending a silences) none right =
      turns a.ask right (λ own. none a (pending_is (Pending a silences) a silences refl own))
  buffer_turn (Ready a answer) none right = tt
  buffer_turn (Old a answer) none right = tt

  entries_turn : (es : List Entry) → is_there back es ≡ false → AreEntries back es → AreRightEntries old es
      → AreRightEntries new es
  entries_turn [] none are right = tt
  entries_turn (x ∷ es) none are right =
      let n = not_there back x es none in (
        turns x.ask right.0 (λ own.
            let on : is_same_key x.key back ≡ true =
            subst (λ (c : Key). is_same_key x.key c ≡ true) (are.0.key ∙ own) (same_as_itself x.key) in
            let z : true ≡ false = sym on ∙ n.0 in cc),
        entries_turn es n.1 are.2 right.1,
      )

  not_asked : (s : KeySlot) (a : Taken) → IsQuiet s → s ≡ Asked a → ⊥
  not_asked s a quiet is = subst (λ (x : KeySlot). IsQuiet x) is quiet

  second_asked : (x y : KeySlot) (a : Taken) → (x ≡ Empty) ⊎ (y ≡ Empty) → y ≡ Asked a → either_slot x y ≡ Asked a
  second_asked x y a (inl empty) is = ap (λ (z : KeySlot). either_slot z y) empty ∙ is
  second_asked x y a (inr empty) is = absurd (let z = sym empty ∙ is in cc)

  one_turn : (t : Translator) (s : KeySlot) → Has Buffered back t s → IsQuiet s → AreRight old t → AreRight new t
  one_turn t s has quiet right =
      let is : slot_of back t.bulk ≡ s = has.slot.is in
      record {
        first = buffer_turn t.bulk.first (λ a at. not_asked s a quiet
            (sym is ∙ ap (λ (x : KeySlot). either_slot x (slot_in back t.bulk.second)) at)) right.first;
        second = buffer_turn t.bulk.second (λ a at. not_asked s a quiet
            (sym is ∙ second_asked (slot_in back t.bulk.first) (slot_in back t.bulk.second) a has.keyed.once at)) right.second;
        entries = entries_turn t.pipeline has.keyed.none has.keyed.entries right.entries;
      }

  -- ---- all hubs

  none_turn : (ts : List Translator) → HaveNone Buffered back ts → AllRight old ts → AllRight new ts
  none_turn [] none right = tt
  none_turn (t ∷ ts) none right = (one_turn t Empty none.0 tt right.0, none_turn ts none.1 right.1)

  at_turn : (place : ℕ) (ts : List Translator) (s : KeySlot) → HasAt Buffered back place ts s → IsQuiet s → AllRight old ts
      → AllRight new ts
  at_turn place [] s has quiet right = tt
  at_turn zero (t ∷ ts) s has quiet right = (one_turn t s has.0 quiet right.0, none_turn ts has.1 right.1)
  at_turn (suc place) (t ∷ ts) s has quiet right = (one_turn t Empty has.0 tt right.0, at_turn place ts s has.1 quiet right.1)

  nones_turn : (hs : List HubContent) → HubsHaveNone Buffered back hs → AreRightHubs old hs → AreRightHubs new hs
  nones_turn [] none right = tt
  nones_turn (h ∷ hs) none right = (none_turn h.translators.all none.0 right.0, nones_turn hs none.1 right.1)

  pub hubs_turn : (hub place : ℕ) (hs : List HubContent) (s : KeySlot) → HubsHave Buffered back hub place hs s → IsQuiet s
      → AreRightHubs old hs → AreRightHubs new hs
  hubs_turn hub place [] s has quiet right = tt
  hubs_turn zero place (h ∷ hs) s has quiet right = (at_turn place h.translators.all s has.0 quiet right.0, nones_turn hs has.1 right.1)
  hubs_turn (suc hub) place (h ∷ hs) s has quiet right =
      (none_turn h.translators.all has.0 right.0, hubs_turn hub place hs s has.1 quiet right.1)

pub quiet_is_in_turn : QuietIsInTurn
quiet_is_in_turn e r dir hub place aside hubs has quiet right =
    hubs_turn (control_key e (turned dir)) (IsRequestAsk r e.addr e.num) (IsInTurn (control_key e dir)) (in_turn e r dir) hub place hubs
    aside has quiet right

-- ---- what the work leaves of a key that isn't asked

module _ (fixed : Fixed) (frindex : ℕ) (k : Key) where
  nothing_turned : (s : KeySlot) (before : Below) (new : KeySlot) (after : Below) → IsQuiet s
      → KeyTurn transacts_below Buffered s before new after → new ≡ s
  nothing_turned s before _ _ quiet turn_rests = refl
  nothing_turned s before _ _ quiet (turn_works a r after is made heard) = absurd (subst (λ (x : KeySlot). IsQuiet x) is quiet)
  nothing_turned s before _ _ quiet (turn_is_quiet a r after buffered is made silent) = refl
  nothing_turned s before _ _ quiet (turn_gives_dead a r after is made silent) = absurd (subst (λ (x : KeySlot). IsQuiet x) is quiet)

  nothing_shown : (made seen : KeySlot) → Showing Buffered made seen → seen ≡ made
  nothing_shown made _ shown_stays = refl
  nothing_shown made _ (shown_shows a r piped is) = absurd cc

  nones_stay : (hs : List HubContent) (floor : Floor) → HubsHaveNone Buffered k hs
      → HubsHaveNone Buffered k (hubs_worked fixed frindex hs floor)
  nones_stay [] floor none = tt
  nones_stay (h ∷ hs) floor none =
      let w : Below = below_at fixed h floor in (
        (none_work transacts_below Buffered k frindex h.translators.all w (wire_left below_reply below_after h w)
            (translators_worked below_reply below_after frindex h.translators.all w) none.0 (hub_made frindex h w)).none,
        nones_stay hs (floor_left fixed h floor) none.1,
      )

  pub quiet_stays : (hub place : ℕ) (hs : List HubContent) (floor : Floor) (s : KeySlot) → IsQuiet s → HubsHave Buffered k hub place hs s
      → HubsHave Buffered k hub place (hubs_worked fixed frindex hs floor) s
  quiet_stays hub place [] floor s quiet has = absurd has
  quiet_stays zero place (h ∷ hs) floor s quiet has =
      let w : Below = below_at fixed h floor in
      let v : Below = wire_left below_reply below_after h w in
      let all : List Translator = translators_worked below_reply below_after frindex h.translators.all w in
      let z = hub_work transacts_below Buffered k frindex place h.translators.all w v all s has.0 (hub_made frindex h w) in
      let t = z.work.turns in
      let same : z.slot ≡ s = z.work.leaves ∙ nothing_shown z.work.made z.work.seen z.work.shows
      ∙ nothing_turned s t.first z.work.made t.second quiet t.turn in
      (subst (λ (x : KeySlot). HasAt Buffered k place all x) same z.has, nones_stay hs (floor_left fixed h floor) has.1)
  quiet_stays (suc hub) place (h ∷ hs) floor s quiet has =
      let w : Below = below_at fixed h floor in (
        (none_work transacts_below Buffered k frindex h.translators.all w (wire_left below_reply below_after h w)
            (translators_worked below_reply below_after frindex h.translators.all w) has.0 (hub_made frindex h w)).none,
        quiet_stays hub place hs (floor_left fixed h floor) s quiet has.1,
      )

pub rights_stay : (right : Ask → Type 0) (fixed : Fixed) (frindex : ℕ) (hs : List HubContent) (floor : Floor) → AreRightHubs right hs
    → AreRightHubs right (hubs_worked fixed frindex hs floor)
rights_stay right fixed frindex [] floor are = tt
rights_stay right fixed frindex (h ∷ hs) floor are =
    let w : Below = below_at fixed h floor in (
      (works_rightly right transacts_below frindex h.translators.all w (wire_left below_reply below_after h w)
          (translators_worked below_reply below_after frindex h.translators.all w) are.0 (hub_made frindex h w)).leaves,
      rights_stay right fixed frindex hs (floor_left fixed h floor) are.1,
    )

-- ---- the law

pub request_work_is_events : RequestWorkIsEvents
request_work_is_events e r dir hub place frindex s aside l u w has other quiet right fits is =
    let x = control_work_is_events e r dir hub place frindex s l u (mapped control_call control_answer aside) w has
    (quiet_is_in_turn e r dir hub place aside w.bus.hubs other quiet right) fits is in
    record {
      line = x.line;
      works = x.works;
      slot = x.slot;
      control = x.control;
      has = x.has;
      other = quiet_stays w.fixed frindex (control_key e (turned dir)) hub place w.bus.hubs (floor_of w.bus) aside quiet other;
      right = rights_stay (IsRequestAsk r e.addr e.num) w.fixed frindex w.bus.hubs (floor_of w.bus) right;
      run = x.run;
    }
