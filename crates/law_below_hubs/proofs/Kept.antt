-- What each transaction of the host keeps of the hubs.
use Rattle.std.proofs.Common.{◌≡◌, ℕ, zero, suc, Bool, true, false, List, [], ◌∷◌, slice_get, Option, Some, None, if◌then◌else◌, refl, sym, subst}
use Rattle.usb_base.specs.declared.packets.Ask.{Ask}
use Rattle.usb_base.specs.declared.packets.Split.{Split}
use Rattle.usb_base.specs.declared.packets.Split.TheVariants.{Plain, Start, Complete}
use Rattle.hub_keys.specs.Asks.{classic_of}
use Rattle.dev_control.specs.Stages.{Stages, stages_acked, stages_after}
use Rattle.hub_ports.specs.declared.rows.HubRequest.{HubRequest}
use Rattle.hub_ports.specs.declared.rows.HubRequest.TheVariants.{HubStatus, PortStatus, ChangePort, ClearBuffer, ResetTranslator}
use Rattle.multi_tt.specs.Translators.{Translator, opening, place_of, put_if, changed_place}
use Rattle.multi_tt.specs.Single.{started, completed, cleared}
use Rattle.multi_tt.specs.Calls.{port_of}
use Rattle.hub_class.specs.HubContent.{HubContent}
use Rattle.hub_class.specs.Requesting.{effect, effect_if, request_at}
use Rattle.hub_class.specs.EndpointZero.{reply_under, suits, acts_on, acted_with, row_at, hub_answered_at, hub_answered}
use Rattle.hub_class.specs.Translating.{after_split}
use Rattle.bus_wire.specs.declared.asked.Answerer.{Answerer}
use Rattle.bus_wire.specs.declared.asked.Answerer.TheVariants as Answerers
use Rattle.bus_wire.specs.declared.asked.Asked.{Asked}
use Rattle.bus_wire.specs.declared.who_heard.WhoHeard.{WhoHeard}
use Rattle.bus_wire.specs.declared.who_heard.WhoHeard.TheVariants as Rows
use Rattle.bus_wire.specs.Fixed.{Fixed}
use Rattle.bus_wire.specs.Asking.{hub_after, translator_after, put_at}
use Rattle.bus_wire.specs.Bus.{Bus, Wired, asked_of, bus_row, changed_by, after_at}
use Rattle.law_below_hubs.specs.RightAsks.{AreRight, AllRight, KeepsRight}
use Rattle.law_below_hubs.specs.HubsKeys.{AreRightHubs}
use Rattle.law_below_hubs.specs.Kept.{IfStart, TransactionsKeepRight}
use Rattle.law_below_hubs.proofs.RightAsks.{keeps_right}
use Rattle.law_below_hubs.proofs.Splits.{put_later}

module _ (right : Ask → Type 0) where
  k : KeepsRight right
  k = keeps_right right

  -- ---- one translator of a hub

  later_at : (o : Option Translator) (place : ℕ) (f : Translator → Translator) (t : Translator) (ts : List Translator)
      → put_if o (suc place) f (t ∷ ts) ≡ t ∷ put_if o place f ts
  later_at None place f t ts = refl
  later_at (Some x) place f t ts = refl

  put_right : (f : Translator → Translator) (place : ℕ) (all : List Translator)
      → ((t : Translator) → AreRight right t → AreRight right (f t)) → AllRight right all
      → AllRight right (put_if (slice_get all place) place f all)
  put_right f place [] each are = are
  put_right f zero (t ∷ ts) each are = (each t are.0, are.1)
  put_right f (suc place) (t ∷ ts) each are =
      subst (λ (xs : List Translator). AllRight right xs) (sym (later_at (slice_get ts place) place f t ts))
      (are.0, put_right f place ts each are.1)

  changed_right : (f : Translator → Translator) (o : Option ℕ) (all : List Translator)
      → ((t : Translator) → AreRight right t → AreRight right (f t)) → AllRight right all
      → AllRight right (changed_place o f all)
  changed_right f None all each are = are
  changed_right f (Some place) all each are = put_right f place all each are

  -- ---- one hub

  abbrev IsRight : HubContent → Type 0
  IsRight h = AllRight right h.translators.all

  split_right : (ask : Ask) (out : List ℕ) (stuff : ℕ) (h : HubContent) (split : Split) → IfStart split (right (classic_of ask))
      → IsRight h → IsRight (after_split split ask out stuff h)
  split_right ask out stuff h Plain put are = are
  split_right ask out stuff h (Start hub port part) put are =
      changed_right (started ask out stuff) (place_of h.translators.multi (port_of ask.split)) h.translators.all
      (λ t are. k.starts ask out stuff t put are) are
  split_right ask out stuff h (Complete hub port) put are =
      changed_right (completed ask) (place_of h.translators.multi (port_of ask.split)) h.translators.all
      (λ t are. k.completes ask t are) are

  translator_right : (ask : Ask) (out : List ℕ) (stuff : ℕ) (row : WhoHeard) (h : HubContent) → IfStart ask.split (right (classic_of ask))
      → IsRight h
      → IsRight (translator_after row ask out stuff h)
  translator_right ask out stuff Rows.SentUnheard h put are = are
  translator_right ask out stuff Rows.NoAnswer h put are = split_right ask out stuff h ask.split put are
  translator_right ask out stuff Rows.AnswerUnheard h put are = split_right ask out stuff h ask.split put are
  translator_right ask out stuff Rows.AnswerHeard h put are = split_right ask out stuff h ask.split put are
  translator_right ask out stuff Rows.AckUnheard h put are = split_right ask out stuff h ask.split put are
  translator_right ask out stuff Rows.AckHeard h put are = split_right ask out stuff h ask.split put are

  effect_right : (request : HubRequest) (h : HubContent) → IsRight h → IsRight (effect request h)
  effect_right HubStatus h are = are
  effect_right (PortStatus port) h are = are
  effect_right (ChangePort port change) h are = are
  effect_right (ClearBuffer port key) h are =
      changed_right (cleared key) (place_of h.translators.multi port) h.translators.all (λ t are. k.clears key t are) are
  effect_right (ResetTranslator port) h are =
      changed_right (λ t. opening) (place_of h.translators.multi port) h.translators.all (λ t are. k.opens) are

  request_right : (o : Option HubRequest) (h : HubContent) → IsRight h → IsRight (effect_if o h)
  request_right None h are = are
  request_right (Some request) h are = effect_right request h are

  acted_right : (o : Option (List ℕ)) (h : HubContent) → IsRight h → IsRight (acted_with o h)
  acted_right None h are = are
  acted_right (Some setup) h are = request_right (request_at setup h) h are

  answered_by : (b : Bool) (ask : Ask) (out : List ℕ) (h : HubContent) → IsRight h → IsRight (if b then hub_answered_at ask out h else h)
  answered_by true ask out h are =
      acted_right (acts_on (row_at ask out h) h.control.request) (record h { control = stages_after (reply_under h) h.control ask out }) are
  answered_by false ask out h are = are

  acked_by : (b : Bool) (c : Stages) (h : HubContent) → IsRight h → IsRight (if b then record h { control = c } else h)
  acked_by true c h are = are
  acked_by false c h are = are

  asked_right : (ask : Ask) (out : List ℕ) (row : WhoHeard) (h : HubContent) → IsRight h → IsRight (hub_after row ask out h)
  asked_right ask out Rows.SentUnheard h are = are
  asked_right ask out Rows.NoAnswer h are = answered_by (suits ask h) ask out h are
  asked_right ask out Rows.AnswerUnheard h are = answered_by (suits ask h) ask out h are
  asked_right ask out Rows.AnswerHeard h are = answered_by (suits ask h) ask out h are
  asked_right ask out Rows.AckUnheard h are = answered_by (suits ask h) ask out h are
  asked_right ask out Rows.AckHeard h are =
      let x : HubContent = hub_answered ask out h in
      acked_by (suits ask x) (stages_acked (reply_under x) x.control) x (answered_by (suits ask h) ask out h are)

  -- ---- all hubs

  hub_put : (f : HubContent → HubContent) (i : ℕ) (hubs : List HubContent) → ((h : HubContent) → IsRight h → IsRight (f h))
      → AreRightHubs right hubs
      → AreRightHubs right (put_at (slice_get hubs i) i f hubs)
  hub_put f i [] each are = are
  hub_put f zero (h ∷ hs) each are = (each h are.0, are.1)
  hub_put f (suc i) (h ∷ hs) each are =
      subst (λ (xs : List HubContent). AreRightHubs right xs) (sym (put_later (slice_get hs i) i f h hs)) (are.0, hub_put f i hs each are.1)

  who_right : (b : Bus) (row : WhoHeard) (who : Answerer) (ask : Ask) (out : List ℕ) → IfStart ask.split (right (classic_of ask))
      → AreRightHubs right b.hubs
      → AreRightHubs right (changed_by row who ask out b).hubs
  who_right b row (Answerers.Device n) ask out put are = are
  who_right b row (Answerers.Hub n) ask out put are = hub_put (hub_after row ask out) n b.hubs (λ h is. asked_right ask out row h is) are
  who_right b row (Answerers.Translator n stuff) ask out put are =
      hub_put (translator_after row ask out stuff) n b.hubs (λ h is. translator_right ask out stuff row h put is) are
  who_right b row Answerers.Nobody ask out put are = are

  right_by : (fixed : Fixed) (b : Bus) (ask : Ask) (out : List ℕ) (o : Option Asked) → IfStart ask.split (right (classic_of ask))
      → AreRightHubs right b.hubs
      → AreRightHubs right (after_at fixed b ask out o).hubs
  right_by fixed b ask out None put are = are
  right_by fixed b ask out (Some e) put are = who_right b (bus_row fixed b e ask out) e.who ask out put are

  pub transactions_keep_right : TransactionsKeepRight right
  transactions_keep_right w ask out reply v made put are =
      subst (λ (x : Wired). AreRightHubs right x.bus.hubs) (sym made.1)
      (right_by w.fixed w.bus ask out (asked_of w.fixed w.bus ask) put are)
