-- The host's plain transactions, key by key.
use Rattle.std.proofs.Common.{◌≡◌, inl, inr, ℕ, zero, suc, Bool, true, false, List, [], ◌∷◌, slice_get, Option, Some, None, if◌then◌else◌, refl, sym, subst, ap, ◌∙◌}
use Rattle.law_translated.proofs.Common.{later_at}
use Rattle.usb_base.specs.declared.packets.Ask.{Ask}
use Rattle.usb_base.specs.declared.packets.Split.{Split}
use Rattle.usb_base.specs.declared.packets.Split.TheVariants.{Plain}
use Rattle.hub_keys.specs.declared.key.Key.{Key}
use Rattle.dev_control.specs.Stages.{Stages, stages_acked, stages_after}
use Rattle.hub_ports.specs.declared.rows.HubRequest.{HubRequest}
use Rattle.hub_ports.specs.declared.rows.HubRequest.TheVariants.{HubStatus, PortStatus, ChangePort, ClearBuffer, ResetTranslator}
use Rattle.tt_bulk.specs.Rows.{is_cleared_by}
use Rattle.multi_tt.specs.Translators.{Translator, opening, place_of, put_if, changed_place}
use Rattle.multi_tt.specs.Single.{cleared}
use Rattle.hub_class.specs.HubContent.{HubContent}
use Rattle.hub_class.specs.Requesting.{effect, effect_if, request_at}
use Rattle.hub_class.specs.EndpointZero.{reply_under, suits, acts_on, acted_with, row_at, hub_answered_at, hub_answered}
use Rattle.bus_wire.specs.declared.asked.Answerer.{Answerer}
use Rattle.bus_wire.specs.declared.asked.Answerer.TheVariants as Answerers
use Rattle.bus_wire.specs.declared.asked.Asked.{Asked}
use Rattle.bus_wire.specs.declared.seats.Owner.{Owner}
use Rattle.bus_wire.specs.declared.seats.Owner.TheVariants as Owners
use Rattle.bus_wire.specs.declared.who_heard.WhoHeard.{WhoHeard}
use Rattle.bus_wire.specs.declared.who_heard.WhoHeard.TheVariants as Rows
use Rattle.bus_wire.specs.Fixed.{Fixed}
use Rattle.bus_wire.specs.Seats.{token_kind, place_for}
use Rattle.bus_wire.specs.Asking.{hub_after, put_at}
use Rattle.bus_wire.specs.Bus.{Bus, Wired, hears, hears_plain, asked_of, bus_row, changed_by, after_at}
use Rattle.law_devices.proofs.Asking.{who_place}
use Rattle.law_translated.specs.Lift.{Way, Buffered, Piped, Empty}
use Rattle.law_translated.specs.KeySlots.{KeySlot}
use Rattle.law_translated.specs.KeyLaws.{Has, cleared_slot}
use Rattle.law_translated.specs.KeyHubs.{HaveNone, HasAt}
use Rattle.law_translated.proofs.TranslatorCalls.{clear_by_key, reset_by_key}
use Rattle.law_below_hubs.specs.HubsKeys.{HubsHaveNone, HubsHave}
use Rattle.law_below_hubs.specs.PlainAsks.{LeftOrEmpty, PlainLeaves, PlainAsksByKey}
use Rattle.law_below_hubs.proofs.Splits.{put_later}

module _ (way : Way) (k : Key) where
  -- ---- one translator

  record IsLeft (s : KeySlot) (t : Translator) : Type 0 where
    slot : KeySlot
    has : Has way k t slot
    left : LeftOrEmpty s slot

  abbrev Empties : (Translator → Translator) → Type 0
  Empties f = (t : Translator) (s : KeySlot) → Has way k t s → IsLeft s (f t)

  stays_empty : (f : Translator → Translator) (t : Translator) → Empties f → Has way k t Empty → Has way k (f t) Empty
  stays_empty f t each has = let r = each t Empty has in subst (λ (x : KeySlot). Has way k (f t) x) (either r.slot r.left) r.has
    where
      either : (new : KeySlot) → LeftOrEmpty Empty new → new ≡ Empty
      either new (inl e) = e
      either new (inr e) = e

  none_put : (f : Translator → Translator) (q : ℕ) (all : List Translator) → Empties f → HaveNone way k all
      → HaveNone way k (put_if (slice_get all q) q f all)
  none_put f q [] each none = none
  none_put f zero (t ∷ ts) each none = (stays_empty f t each none.0, none.1)
  none_put f (suc q) (t ∷ ts) each none =
      subst (λ (xs : List Translator). HaveNone way k xs) (sym (later_at (slice_get ts q) q f t ts)) (none.0, none_put f q ts each none.1)

  record IsLeftAt (place : ℕ) (s : KeySlot) (all : List Translator) : Type 0 where
    slot : KeySlot
    has : HasAt way k place all slot
    left : LeftOrEmpty s slot

  at_put : (f : Translator → Translator) (q place : ℕ) (all : List Translator) (s : KeySlot) → Empties f → HasAt way k place all s
      → IsLeftAt place s (put_if (slice_get all q) q f all)
  at_put f q place [] s each has = absurd has
  at_put f zero zero (t ∷ ts) s each has = let r = each t s has.0 in record { slot = r.slot; has = (r.has, has.1); left = r.left }
  at_put f zero (suc place) (t ∷ ts) s each has = record { slot = s; has = (stays_empty f t each has.0, has.1); left = inl refl }
  at_put f (suc q) zero (t ∷ ts) s each has =
      subst (λ (xs : List Translator). IsLeftAt zero s xs) (sym (later_at (slice_get ts q) q f t ts))
      (record { slot = s; has = (has.0, none_put f q ts each has.1); left = inl refl })
  at_put f (suc q) (suc place) (t ∷ ts) s each has =
      let r = at_put f q place ts s each has.1 in
      subst (λ (xs : List Translator). IsLeftAt (suc place) s xs) (sym (later_at (slice_get ts q) q f t ts))
      (record { slot = r.slot; has = (has.0, r.has); left = r.left })

  at_changed : (f : Translator → Translator) (o : Option ℕ) (place : ℕ) (all : List Translator) (s : KeySlot) → Empties f
      → HasAt way k place all s
      → IsLeftAt place s (changed_place o f all)
  at_changed f None place all s each has = record { slot = s; has = has; left = inl refl }
  at_changed f (Some q) place all s each has = at_put f q place all s each has

  none_changed : (f : Translator → Translator) (o : Option ℕ) (all : List Translator) → Empties f → HaveNone way k all
      → HaveNone way k (changed_place o f all)
  none_changed f None all each none = none
  none_changed f (Some q) all each none = none_put f q all each none

  cut_left : (b : Bool) (s : KeySlot) → LeftOrEmpty s (if b then Empty else s)
  cut_left true s = inr refl
  cut_left false s = inl refl

  slot_left : (w : Way) (c : Key) (s : KeySlot) → LeftOrEmpty s (cleared_slot w c k s)
  slot_left Buffered c s = cut_left (is_cleared_by c k) s
  slot_left Piped c s = inl refl

  clear_empties : (c : Key) → Empties (cleared c)
  clear_empties c t s has = record { slot = cleared_slot way c k s; has = clear_by_key way c k t s has; left = slot_left way c s }

  reset_empties : Empties (λ t. opening)
  reset_empties t s has = record { slot = Empty; has = reset_by_key way k; left = inr refl }

  -- ---- one hub

  record Spares (h new : HubContent) : Type 0 where
    nones : HaveNone way k h.translators.all → HaveNone way k new.translators.all
    slots : (place : ℕ) (s : KeySlot) → HasAt way k place h.translators.all s → IsLeftAt place s new.translators.all

  same : (h : HubContent) → Spares h h
  same h = record { nones = λ none. none; slots = λ place s has. record { slot = s; has = has; left = inl refl } }

  effect_spares : (request : HubRequest) (h : HubContent) → Spares h (effect request h)
  effect_spares HubStatus h = same h
  effect_spares (PortStatus port) h = same h
  effect_spares (ChangePort port change) h =
      record { nones = λ none. none; slots = λ place s has. record { slot = s; has = has; left = inl refl } }
  effect_spares (ClearBuffer port c) h = record {
    nones = λ none. none_changed (cleared c) (place_of h.translators.multi port) h.translators.all (clear_empties c) none;
    slots = λ place s has. at_changed (cleared c) (place_of h.translators.multi port) place h.translators.all s (clear_empties c) has;
  }
  effect_spares (ResetTranslator port) h = record {
    nones = λ none. none_changed (λ t. opening) (place_of h.translators.multi port) h.translators.all reset_empties none;
    slots = λ place s has. at_changed (λ t. opening) (place_of h.translators.multi port) place h.translators.all s reset_empties has;
  }

  request_spares : (o : Option HubRequest) (h : HubContent) → Spares h (effect_if o h)
  request_spares None h = same h
  request_spares (Some request) h = effect_spares request h

  acted_spares : (o : Option (List ℕ)) (h : HubContent) → Spares h (acted_with o h)
  acted_spares None h = same h
  acted_spares (Some setup) h = request_spares (request_at setup h) h

  answered_by : (b : Bool) (ask : Ask) (out : List ℕ) (h : HubContent) → Spares h (if b then hub_answered_at ask out h else h)
  answered_by true ask out h =
      let r = acted_spares (acts_on (row_at ask out h) h.control.request)
      (record h { control = stages_after (reply_under h) h.control ask out }) in
      record { nones = λ none. r.nones none; slots = λ place s has. r.slots place s has }
  answered_by false ask out h = same h

  acked_by : (b : Bool) (c : Stages) (h x : HubContent) → Spares h x → Spares h (if b then record x { control = c } else x)
  acked_by true c h x r = record { nones = λ none. r.nones none; slots = λ place s has. r.slots place s has }
  acked_by false c h x r = r

  asked_spares : (ask : Ask) (out : List ℕ) (row : WhoHeard) (h : HubContent) → Spares h (hub_after row ask out h)
  asked_spares ask out Rows.SentUnheard h = same h
  asked_spares ask out Rows.NoAnswer h = answered_by (suits ask h) ask out h
  asked_spares ask out Rows.AnswerUnheard h = answered_by (suits ask h) ask out h
  asked_spares ask out Rows.AnswerHeard h = answered_by (suits ask h) ask out h
  asked_spares ask out Rows.AckUnheard h = answered_by (suits ask h) ask out h
  asked_spares ask out Rows.AckHeard h =
      let x : HubContent = hub_answered ask out h in
      acked_by (suits ask x) (stages_acked (reply_under x) x.control) h x (answered_by (suits ask h) ask out h)

  -- ---- all hubs

  record IsLeftOf (i place : ℕ) (s : KeySlot) (hubs : List HubContent) : Type 0 where
    slot : KeySlot
    has : HubsHave way k i place hubs slot
    left : LeftOrEmpty s slot

  none_hubs : (f : HubContent → HubContent) (j : ℕ) (hubs : List HubContent) → ((h : HubContent) → Spares h (f h)) → HubsHaveNone way k hubs
      → HubsHaveNone way k (put_at (slice_get hubs j) j f hubs)
  none_hubs f j [] each none = none
  none_hubs f zero (h ∷ hs) each none = ((each h).nones none.0, none.1)
  none_hubs f (suc j) (h ∷ hs) each none =
      subst (λ (xs : List HubContent). HubsHaveNone way k xs) (sym (put_later (slice_get hs j) j f h hs))
      (none.0, none_hubs f j hs each none.1)

  left_hub : (f : HubContent → HubContent) (j i place : ℕ) (hubs : List HubContent) (s : KeySlot) → ((h : HubContent) → Spares h (f h))
      → HubsHave way k i place hubs s → IsLeftOf i place s (put_at (slice_get hubs j) j f hubs)
  left_hub f j i place [] s each has = absurd has
  left_hub f zero zero place (h ∷ hs) s each has = let r =
      (each h).slots place s has.0 in record { slot = r.slot; has = (r.has, has.1); left = r.left }
  left_hub f zero (suc i) place (h ∷ hs) s each has = record { slot = s; has = ((each h).nones has.0, has.1); left = inl refl }
  left_hub f (suc j) zero place (h ∷ hs) s each has =
      subst (λ (xs : List HubContent). IsLeftOf zero place s xs) (sym (put_later (slice_get hs j) j f h hs))
      (record { slot = s; has = (has.0, none_hubs f j hs each has.1); left = inl refl })
  left_hub f (suc j) (suc i) place (h ∷ hs) s each has =
      let r = left_hub f j i place hs s each has.1 in
      subst (λ (xs : List HubContent). IsLeftOf (suc i) place s xs) (sym (put_later (slice_get hs j) j f h hs))
      (record { slot = r.slot; has = (has.0, r.has); left = r.left })

  no_translator : (owner : Owner) (n stuff : ℕ) {P : Type 0} → Answerers.Translator n stuff ≡ hears_plain owner → P
  no_translator (Owners.High place) n stuff e = absurd cc
  no_translator (Owners.Hub place) n stuff e = absurd cc
  no_translator (Owners.Below place hub port s) n stuff e = absurd cc

  who_left : (b : Bus) (row : WhoHeard) (who : Answerer) (owner : Owner) (ask : Ask) (out : List ℕ) (i place : ℕ) (s : KeySlot)
      → who ≡ hears_plain owner
      → HubsHave way k i place b.hubs s → IsLeftOf i place s (changed_by row who ask out b).hubs
  who_left b row (Answerers.Device n) owner ask out i place s is has = record { slot = s; has = has; left = inl refl }
  who_left b row (Answerers.Hub n) owner ask out i place s is has =
      left_hub (hub_after row ask out) n i place b.hubs s (asked_spares ask out row) has
  who_left b row (Answerers.Translator n stuff) owner ask out i place s is has = no_translator owner n stuff is
  who_left b row Answerers.Nobody owner ask out i place s is has = record { slot = s; has = has; left = inl refl }

  left_by : (fixed : Fixed) (b : Bus) (ask : Ask) (out : List ℕ) (i place : ℕ) (s : KeySlot) (o : Option Asked) → ask.split ≡ Plain
      → asked_of fixed b ask ≡ o
      → HubsHave way k i place b.hubs s → IsLeftOf i place s (after_at fixed b ask out o).hubs
  left_by fixed b ask out i place s None plain asked has = record { slot = s; has = has; left = inl refl }
  left_by fixed b ask out i place s (Some e) plain asked has =
      let w = who_place fixed b ask.split (place_for fixed.seats ask.addr ask.ep (token_kind ask.pid)) e asked in
      who_left b (bus_row fixed b e ask out) e.who w.owner ask out i place s
      (w.is ∙ ap (λ (split : Split). hears b split w.owner) plain) has

pub plain_asks_by_key : PlainAsksByKey
plain_asks_by_key way k i place w ask out reply v s plain has made =
    let r = left_by way k w.fixed w.bus ask out i place s (asked_of w.fixed w.bus ask) plain refl has in
    subst (λ (x : Wired). PlainLeaves way k i place s x) (sym made.1) (record { slot = r.slot; has = r.has; left = r.left })
