-- A plain transaction takes nothing from a hub that hasn't heard last to clear a buffer or reset a translator.
use Rattle.std.proofs.Common.{◌≡◌, ◌≢◌, ℕ, zero, suc, ◌==◌, Bool, true, false, if◌then◌else◌, List, [], ◌∷◌, slice_get, Option, Some, None}
use Rattle.std.proofs.Common.{ap, refl, sym, subst, ◌∙◌, ⊎_elim, inl, inr}
use Rattle.std.specs.Prelude.{◌⊎◌, ◌&&◌, ◌||◌, slice_index}
use Rattle.std.specs.Option.{option_map_or}
use Rattle.std.proofs.lemmas.Bool.{cases_eq, false≢true}
use Rattle.std.proofs.lemmas.Option.{same_Some}
use Rattle.usb_base.specs.declared.packets.Ask.{Ask}
use Rattle.usb_base.specs.declared.packets.Split.{Split}
use Rattle.usb_base.specs.declared.packets.Split.TheVariants.{Plain}
use Rattle.hub_keys.specs.declared.key.Key.{Key}
use Rattle.dev_control.specs.declared.control.Request.{Request}
use Rattle.dev_control.specs.declared.rows.StageRow.{StageRow}
use Rattle.dev_control.specs.declared.rows.StageRow.TheVariants as rows
use Rattle.dev_control.specs.Stages.{Stages, setup_of, stages_acked, stages_after}
use Rattle.hub_ports.specs.declared.requests.SetupFields.{SetupFields}
use Rattle.hub_ports.specs.declared.rows.ClassRequest.{ClassRequest}
use Rattle.hub_ports.specs.declared.rows.ClassRequest.TheVariants as class
use Rattle.hub_ports.specs.declared.rows.HubRequest.{HubRequest}
use Rattle.hub_ports.specs.declared.rows.HubRequest.TheVariants as hub_requests
use Rattle.hub_ports.specs.declared.rows.PortChange.{PortChange}
use Rattle.hub_ports.specs.Requests.{fields_of, class_request, set_feature, clear_feature, change_at, at_port}
use Rattle.hub_ports.specs.Requests.{request_by, request_with}
use Rattle.multi_tt.specs.Translators.{Translators}
use Rattle.hub_class.specs.HubContent.{HubContent}
use Rattle.hub_class.specs.Requesting.{effect_if, requested}
use Rattle.hub_class.specs.EndpointZero.{reply_under, suits, unless_done, acts_on, acted_with, row_at, hub_answered_at, hub_answered}
use Rattle.bus_wire.specs.declared.asked.Answerer.{Answerer}
use Rattle.bus_wire.specs.declared.asked.Answerer.TheVariants as Answerers
use Rattle.bus_wire.specs.declared.asked.Asked.{Asked}
use Rattle.bus_wire.specs.declared.seats.Owner.{Owner}
use Rattle.bus_wire.specs.declared.seats.Owner.TheVariants as Owners
use Rattle.bus_wire.specs.declared.who_heard.WhoHeard.{WhoHeard}
use Rattle.bus_wire.specs.declared.who_heard.WhoHeard.TheVariants as heard
use Rattle.bus_wire.specs.Seats.{token_kind, place_for}
use Rattle.bus_wire.specs.Asking.{hub_after, put_at}
use Rattle.bus_wire.specs.Bus.{Bus, Wired, Fixed, hears, hears_plain, asked_of, bus_row, changed_by, after_at}
use Rattle.claims_world.specs.BelowStreams.{clears_translator, heard_clear}
use Rattle.law_devices.proofs.Asking.{who_place}
use Rattle.law_devices.proofs.Places.{set_here, set_beside}
use Rattle.law_translated.specs.KeySlots.{KeySlot}
use Rattle.law_translated.specs.KeyHubs.{HasAt}
use Rattle.law_below_hubs.specs.HostOuts.{its_way}
use Rattle.law_below_hubs.specs.HubsKeys.{HubsHave}
use Rattle.law_below_hubs.specs.PlainAsks.{PlainLeaves}
use Rattle.law_below_hubs.proofs.PlainAsks.{plain_asks_by_key}
use Rattle.law_reports.specs.pipes.below_hubs.InwardLaws.{SparedHubsKeepKeys}

-- ---- a request

abbrev Keeps : Option HubRequest → Type 0
Keeps o = (h : HubContent) → (effect_if o h).translators ≡ h.translators

abbrev IsHarmless : Option ClassRequest → Type 0
IsHarmless (Some class.ClearTtBuffer) = ⊥
IsHarmless (Some class.ResetTt) = ⊥
IsHarmless _ = Unit {0}

if_keeps : (b : Bool) (o : Option HubRequest) → Keeps o → Keeps (if b then o else None)
if_keeps true o keeps = keeps
if_keeps false o keeps = λ h. refl

change_keeps : (ports index : ℕ) (o : Option PortChange) → Keeps (change_at ports index o)
change_keeps ports index None = λ h. refl
change_keeps ports index (Some change) = if_keeps _ (Some (hub_requests.ChangePort index change)) (λ h. refl)

class_keeps : (r : ClassRequest) (multi : Bool) (ports value index : ℕ) → IsHarmless (Some r) → Keeps (request_by r multi ports value index)
class_keeps class.GetHubStatus multi ports value index harmless = if_keeps _ (Some hub_requests.HubStatus) (λ h. refl)
class_keeps class.GetPortStatus multi ports value index harmless =
    if_keeps _ (at_port ports index (hub_requests.PortStatus index)) (if_keeps _ (Some (hub_requests.PortStatus index)) (λ h. refl))
class_keeps class.SetPortFeature multi ports value index harmless = change_keeps ports index (set_feature value)
class_keeps class.ClearPortFeature multi ports value index harmless = change_keeps ports index (clear_feature value)
class_keeps class.ClearTtBuffer multi ports value index harmless = absurd harmless
class_keeps class.ResetTt multi ports value index harmless = absurd harmless

with_keeps : (o : Option ClassRequest) (multi : Bool) (ports : ℕ) (f : SetupFields) → IsHarmless o → Keeps (request_with o multi ports f)
with_keeps None multi ports f harmless = λ h. refl
with_keeps (Some r) multi ports f harmless =
    if_keeps _ (request_by r multi ports f.value f.index) (class_keeps r multi ports f.value f.index harmless)

pick : (a b c d e f : Bool) → e ≡ false → f ≡ false
    → IsHarmless (if a then Some class.GetHubStatus else
    (if b then Some class.GetPortStatus else
    (if c then Some class.SetPortFeature else
    (if d then Some class.ClearPortFeature else
    (if e then Some class.ClearTtBuffer else
    (if f then Some class.ResetTt else None))))))
pick true b c d e f none never = tt
pick false true c d e f none never = tt
pick false false true d e f none never = tt
pick false false false true e f none never = tt
pick false false false false false false none never = tt
pick false false false false true f none never = absurd (false≢true (sym none))
pick false false false false false true none never = absurd (false≢true (sym never))

parts : (a b c : Bool) → (a && (b || c)) ≡ false → ((a && b) ≡ false) × ((a && c) ≡ false)
parts false b c is = (refl, refl)
parts true false false is = (refl, refl)
parts true true c is = absurd (false≢true (sym is))
parts true false true is = absurd (false≢true (sym is))

request_keeps : (setup : List ℕ) (h : HubContent) → clears_translator setup ≡ false → (requested setup h).translators ≡ h.translators
request_keeps setup h is =
    let kind : ℕ = slice_index setup 0 in
    let request : ℕ = slice_index setup 1 in
    let off = parts (kind == 35) (request == 8) (request == 9) is in
    with_keeps (class_request kind request) _ _ (fields_of setup)
    (pick _ _ _ _ (kind == 35 && request == 8) (kind == 35 && request == 9) off.0 off.1) h

-- ---- what a hub acts on

acts : (r : StageRow) (u : Option Request) → (acts_on r u ≡ None) ⊎ (acts_on r u ≡ setup_of u)
acts r u = by r u
  where
    undone : (o : Option Request) → (unless_done o ≡ None) ⊎ (unless_done o ≡ setup_of o)
    undone None = inl refl
    undone (Some v) = by_done v.done
      where
        by_done : (b : Bool) → ((if b then None else Some v.setup) ≡ None) ⊎ ((if b then None else Some v.setup) ≡ Some v.setup)
        by_done true = inl refl
        by_done false = inr refl

    by : (q : StageRow) (o : Option Request) → (acts_on q o ≡ None) ⊎ (acts_on q o ≡ setup_of o)
    by rows.Acknowledges o = undone o
    by rows.Confirms o = undone o
    by (rows.Begins setup) o = inl refl
    by rows.Ignores o = inl refl
    by rows.Naks o = inl refl
    by rows.Sends o = inl refl
    by (rows.Takes to) o = inl refl
    by rows.Drops o = inl refl
    by rows.HasRoom o = inl refl
    by rows.Stalls o = inl refl

acted : (o u : Option (List ℕ)) (h x : HubContent) → (o ≡ None) ⊎ (o ≡ u)
    → ((setup : List ℕ) → u ≡ Some setup → clears_translator setup ≡ false) → x.translators ≡ h.translators
    → (acted_with o x).translators ≡ h.translators
acted None u h x which off same = same
acted (Some setup) u h x (inl none) off same = absurd cc
acted (Some setup) u h x (inr is) off same = request_keeps setup x (off setup (sym is)) ∙ same

abbrev option_clears : Option (List ℕ) → Bool
option_clears o = option_map_or clears_translator o false

harmless_setup : (u : Option Request) (setup : List ℕ)
    → option_clears (setup_of u) ≡ false → setup_of u ≡ Some setup → clears_translator setup ≡ false
harmless_setup u setup off is = subst (λ (o : Option (List ℕ)). option_clears o ≡ false) is off

module _ (h : HubContent) (off : heard_clear h ≡ false) where
  answered_by : (b : Bool) (ask : Ask) (out : List ℕ) → (if b then hub_answered_at ask out h else h).translators ≡ h.translators
  answered_by true ask out =
      acted (acts_on (row_at ask out h) h.control.request) (setup_of h.control.request) h
      (record h { control = stages_after (reply_under h) h.control ask out }) (acts (row_at ask out h) h.control.request)
      (λ setup is. harmless_setup h.control.request setup off is) refl
  answered_by false ask out = refl

  acked_by : (b : Bool) (c : Stages) (x : HubContent) → x.translators ≡ h.translators
      → (if b then record x { control = c } else x).translators ≡ h.translators
  acked_by true c x same = same
  acked_by false c x same = same

  pub asked_keeps : (row : WhoHeard) (ask : Ask) (out : List ℕ) → (hub_after row ask out h).translators ≡ h.translators
  asked_keeps heard.SentUnheard ask out = refl
  asked_keeps heard.NoAnswer ask out = answered_by (suits ask h) ask out
  asked_keeps heard.AnswerUnheard ask out = answered_by (suits ask h) ask out
  asked_keeps heard.AnswerHeard ask out = answered_by (suits ask h) ask out
  asked_keeps heard.AckUnheard ask out = answered_by (suits ask h) ask out
  asked_keeps heard.AckHeard ask out =
      let x : HubContent = hub_answered ask out h in
      acked_by (suits ask x) (stages_acked (reply_under x) x.control) x (answered_by (suits ask h) ask out)

-- ---- all hubs

record StillHas (i : ℕ) (h : HubContent) (hubs : List HubContent) : Type 0 where
  content : HubContent
  there : slice_get hubs i ≡ Some content
  same : content.translators ≡ h.translators

module _ (i : ℕ) (h : HubContent) (off : heard_clear h ≡ false) where
  put_keeps : (row : WhoHeard) (ask : Ask) (out : List ℕ) (n : ℕ) (hubs : List HubContent) (o : Option HubContent) → slice_get hubs n ≡ o
      → slice_get hubs i ≡ Some h → StillHas i h (put_at o n (hub_after row ask out) hubs)
  put_keeps row ask out n hubs None at here = record { content = h; there = here; same = refl }
  put_keeps row ask out n hubs (Some x) at here =
      ⊎_elim
      (λ (own : i ≡ n).
      let is : x ≡ h = same_Some x h (sym at ∙ ap (slice_get hubs) (sym own) ∙ here) in
      record {
        content = hub_after row ask out x;
        there = ap (λ (j : ℕ). slice_get (put_at (Some x) n (hub_after row ask out) hubs) j) own
            ∙ set_here hubs n x (hub_after row ask out x) at;
        same = ap (λ (y : HubContent). (hub_after row ask out y).translators) is ∙ asked_keeps h off row ask out;
      })
      (λ (differs : i ≢ n).
      record { content = h; there = set_beside hubs n i (hub_after row ask out x) differs ∙ here; same = refl })
      (cases_eq i n)

  no_translator : (owner : Owner) (n stuff : ℕ) {P : Type 0} → Answerers.Translator n stuff ≡ hears_plain owner → P
  no_translator (Owners.High place) n stuff e = absurd cc
  no_translator (Owners.Hub place) n stuff e = absurd cc
  no_translator (Owners.Below place hub port s) n stuff e = absurd cc

  who_keeps : (b : Bus) (row : WhoHeard) (who : Answerer) (owner : Owner) (ask : Ask) (out : List ℕ) → who ≡ hears_plain owner
      → slice_get b.hubs i ≡ Some h → StillHas i h (changed_by row who ask out b).hubs
  who_keeps b row (Answerers.Device n) owner ask out is here = record { content = h; there = here; same = refl }
  who_keeps b row (Answerers.Hub n) owner ask out is here = put_keeps row ask out n b.hubs (slice_get b.hubs n) refl here
  who_keeps b row (Answerers.Translator n stuff) owner ask out is here = no_translator owner n stuff is
  who_keeps b row Answerers.Nobody owner ask out is here = record { content = h; there = here; same = refl }

  after_keeps : (fixed : Fixed) (b : Bus) (ask : Ask) (out : List ℕ) (o : Option Asked) → ask.split ≡ Plain → asked_of fixed b ask ≡ o
      → slice_get b.hubs i ≡ Some h → StillHas i h (after_at fixed b ask out o).hubs
  after_keeps fixed b ask out None plain asked here = record { content = h; there = here; same = refl }
  after_keeps fixed b ask out (Some e) plain asked here =
      let w = who_place fixed b ask.split (place_for fixed.seats ask.addr ask.ep (token_kind ask.pid)) e asked in
      who_keeps b (bus_row fixed b e ask out) e.who w.owner ask out
      (w.is ∙ ap (λ (split : Split). hears b split w.owner) plain) here

-- ---- the key

module _ (k : Key) where
  record HasIt (i place : ℕ) (s : KeySlot) (hubs : List HubContent) : Type 0 where
    content : HubContent
    there : slice_get hubs i ≡ Some content
    has : HasAt (its_way k.kind) k place content.translators.all s

  its : (hubs : List HubContent) (i place : ℕ) (s : KeySlot) → HubsHave (its_way k.kind) k i place hubs s → HasIt i place s hubs
  its [] i place s has = absurd has
  its (h ∷ hs) zero place s has = record { content = h; there = refl; has = has.0 }
  its (h ∷ hs) (suc i) place s has = let r = its hs i place s has.1 in record { content = r.content; there = r.there; has = r.has }

  with_it : (hubs : List HubContent) (i place : ℕ) (s t : KeySlot) (h : HubContent) → HubsHave (its_way k.kind) k i place hubs t
      → slice_get hubs i ≡ Some h → HasAt (its_way k.kind) k place h.translators.all s → HubsHave (its_way k.kind) k i place hubs s
  with_it [] i place s t h has here it = absurd has
  with_it (x ∷ hs) zero place s t h has here it =
      (subst (λ (y : HubContent). HasAt (its_way k.kind) k place y.translators.all s) (sym (same_Some x h here)) it, has.1)
  with_it (x ∷ hs) (suc i) place s t h has here it = (has.0, with_it hs i place s t h has.1 here it)

pub spared_hubs_keep_keys : SparedHubsKeepKeys
spared_hubs_keep_keys v k wire after spared ask out reply made plain s has =
    let p : PlainLeaves (its_way k.kind) k v.hub v.place s after =
    plain_asks_by_key (its_way k.kind) k v.hub v.place wire ask out reply after s plain has made in
    let old : HasIt k v.hub v.place s wire.bus.hubs = its k wire.bus.hubs v.hub v.place s has in
    let still : StillHas v.hub old.content after.bus.hubs =
    subst (λ (z : Wired). StillHas v.hub old.content z.bus.hubs) (sym made.1)
    (after_keeps v.hub old.content (spared old.content old.there) wire.fixed wire.bus ask out (asked_of wire.fixed wire.bus ask) plain refl
    old.there) in
    with_it k after.bus.hubs v.hub v.place s p.slot still.content p.has still.there
    (subst (λ (ts : Translators). HasAt (its_way k.kind) k v.place ts.all s) (sym still.same) old.has)
