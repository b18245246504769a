-- No event changes whose a device of the bus is, where a hub stands, and that each endpoint has a number; and none is left a NYET that it
-- hadn't.
use Rattle.std.proofs.Common.{◌≡◌, ℕ, zero, suc, false, List, [], ◌∷◌, map, slice_get, slice_set, Option, Some}
use Rattle.std.proofs.Common.{None, ap, refl, sym, subst, ◌∙◌}
use Rattle.std.specs.Prelude.{nat_le}
use Rattle.std.specs.List.{AllByRecursion, list_any}
use Rattle.std.proofs.lemmas.Bool.{cond_both}
use Rattle.std.proofs.lemmas.Option.{same_Some}
use Rattle.law_common.proofs.Booleans.{or_both}
use Rattle.law_common.proofs.Lists.{all_map, all_set}
use Rattle.usb_base.specs.declared.endpoints.EpDesc.{EpDesc}
use Rattle.usb_base.specs.declared.packets.Ask.{Ask}
use Rattle.script_types.specs.declared.devices.Item.{Item}
use Rattle.script_types.specs.declared.devices.Item.TheVariants as items
use Rattle.script_types.specs.declared.scripts.Script.{Script}
use Rattle.endpoint_script.specs.declared.endpoint.Endpoint.{Endpoint}
use Rattle.endpoint_script.specs.declared.endpoint.Role.{Role}
use Rattle.endpoint_script.specs.declared.endpoint.Role.TheVariants.{Sends, Takes, Controls, Streams, Hears}
use Rattle.endpoint_script.specs.declared.rows.TakeRow.{TakeRow}
use Rattle.endpoint_script.specs.declared.rows.TakeRow.TheVariants as rows
use Rattle.endpoint_script.specs.Device.{Device, begun, part_begun, part_answered, part_acked, endpoint_begun, endpoint_answered, endpoint_acked}
use Rattle.endpoint_script.specs.Device.{endpoint_asked, answered_at, answered_in, answered, acked_at, acked_in, acked_by}
use Rattle.endpoint_script.specs.Items.{nak_given, nak_used, rest_of}
use Rattle.endpoint_script.specs.Taking.{Taking, taking_row, after_taking_row}
use Rattle.hub_class.specs.HubContent.{HubContent}
use Rattle.hub_class.proofs.Microframe.{work_keeps}
use Rattle.bus_wire.specs.declared.asked.Answerer.{Answerer}
use Rattle.bus_wire.specs.declared.asked.Answerer.TheVariants as answerers
use Rattle.bus_wire.specs.declared.asked.Asked.{Asked}
use Rattle.bus_wire.specs.declared.who_heard.WhoHeard.{WhoHeard}
use Rattle.bus_wire.specs.declared.who_heard.WhoHeard.TheVariants as heard
use Rattle.bus_wire.specs.Asking.{device_after, put_at, changed_at}
use Rattle.bus_wire.specs.Below.{Below, Floor, below_at, asked_below, below_row, devices_after, below_reply, below_after_at, below_after}
use Rattle.bus_wire.specs.Below.{floor_left, floor_worked}
use Rattle.bus_wire.specs.Bus.{Fixed, Bus, floor_of, begins_anew, begun_at, asked_of, bus_row, changed_by, after_at, transact_after, begin_after}
use Rattle.claims_world.specs.Quiet.{is_nyet}
use Rattle.law_devices.proofs.Lists.{Holds}
use Rattle.law_devices.proofs.lemmas.declared_controls.Places.{all_get}
use Rattle.law_reports.specs.quiet.Heard.{PartHasHandshakes, HasHandshakes, IsOfText}

-- ---- items

rest_quiet : (xs : List Item) → list_any is_nyet xs ≡ false → list_any is_nyet (rest_of xs) ≡ false
rest_quiet [] none = refl
rest_quiet (x ∷ xs) none = (or_both (is_nyet x) (list_any is_nyet xs) none).1

used_quiet : (n : ℕ) (xs : List Item) → list_any is_nyet xs ≡ false → list_any is_nyet (nak_used n xs) ≡ false
used_quiet n xs none = cond_both (nat_le n 1) xs _ (λ ys. list_any is_nyet ys ≡ false) (λ one. none) (λ more. none)

nak_quiet : (xs : List Item) → list_any is_nyet xs ≡ false → list_any is_nyet (nak_given xs) ≡ false
nak_quiet [] none = refl
nak_quiet (items.Nak n ∷ xs) none = used_quiet n xs none
nak_quiet (items.Bytes bytes ∷ xs) none = none
nak_quiet (items.Nyet ∷ xs) none = none
nak_quiet (items.Stall ∷ xs) none = none
nak_quiet (items.Request setup bytes ∷ xs) none = none
nak_quiet (items.Epoch ∷ xs) none = none

-- ---- an endpoint

row_quiet : (row : TakeRow) (out : List ℕ) (t : Taking) → list_any is_nyet t.items ≡ false
    → list_any is_nyet (after_taking_row row out t).items ≡ false
row_quiet rows.Drops out t none = none
row_quiet rows.Naks out t none = nak_quiet t.items none
row_quiet rows.IsFull out t none = none
row_quiet rows.Stalls out t none = none
row_quiet rows.Takes out t none = none
row_quiet rows.TakesLast out t none = rest_quiet t.items none
row_quiet rows.HasRoom out t none = none

part_answers : (p : Role) (ask : Ask) (out : List ℕ) → PartHasHandshakes p → PartHasHandshakes (part_answered p ask out)
part_answers (Sends s) ask out has = tt
part_answers (Takes t) ask out has = row_quiet (taking_row t ask out) out t has
part_answers (Controls c) ask out has = tt
part_answers (Streams s) ask out has = tt
part_answers Hears ask out has = tt

part_acks : (p : Role) → PartHasHandshakes p → PartHasHandshakes (part_acked p)
part_acks (Sends s) has = tt
part_acks (Takes t) has = has
part_acks (Controls c) has = tt
part_acks (Streams s) has = tt
part_acks Hears has = tt

part_begins : (p : Role) → PartHasHandshakes p → PartHasHandshakes (part_begun p)
part_begins (Sends s) has = tt
part_begins (Takes t) has = has
part_begins (Controls c) has = tt
part_begins (Streams s) has = tt
part_begins Hears has = tt

-- ---- the endpoints of a device

descs_set : (es : List Endpoint) (i : ℕ) (e new : Endpoint) → slice_get es i ≡ Some e → new.desc ≡ e.desc
    → map (λ (x : Endpoint). x.desc) (slice_set es i new) ≡ map (λ (x : Endpoint). x.desc) es
descs_set [] zero e new here same = refl
descs_set [] (suc i) e new here same = refl
descs_set (x ∷ xs) zero e new here same =
    ap (λ (d : EpDesc). d ∷ map (λ (y : Endpoint). y.desc) xs) (same ∙ ap (λ (y : Endpoint). y.desc) (sym (same_Some x e here)))
descs_set (x ∷ xs) (suc i) e new here same = ap (λ (more : List EpDesc). x.desc ∷ more) (descs_set xs i e new here same)

descs_begun : (es : List Endpoint) → map (λ (x : Endpoint). x.desc) (map endpoint_begun es) ≡ map (λ (x : Endpoint). x.desc) es
descs_begun [] = refl
descs_begun (x ∷ xs) = ap (λ (more : List EpDesc). x.desc ∷ more) (descs_begun xs)

-- these endpoints have the descriptions of those
record AreKept (es now : List Endpoint) : Type 0 where
  descs : map (λ (x : Endpoint). x.desc) now ≡ map (λ (x : Endpoint). x.desc) es
  handshakes : AllByRecursion HasHandshakes es → AllByRecursion HasHandshakes now

itself : (es : List Endpoint) → AreKept es es
itself es = record { descs = refl; handshakes = λ all. all }

answered_one : (es : List Endpoint) (i : ℕ) (o : Option Endpoint) (ask : Ask) (out : List ℕ) → slice_get es i ≡ o
    → AreKept es (answered_at es i o ask out)
answered_one es i None ask out here = itself es
answered_one es i (Some e) ask out here = record {
  descs = descs_set es i e (endpoint_answered e ask out) here refl;
  handshakes = λ all. all_set HasHandshakes es i (endpoint_answered e ask out) all
      (λ kind high. part_answers e.part ask out (subst (Holds HasHandshakes) here (all_get HasHandshakes es i all) kind high));
}

answered_kept : (es : List Endpoint) (o : Option ℕ) (ask : Ask) (out : List ℕ) → AreKept es (answered_in es o ask out)
answered_kept es None ask out = itself es
answered_kept es (Some i) ask out = answered_one es i (slice_get es i) ask out refl

acked_one : (es : List Endpoint) (i : ℕ) (o : Option Endpoint) → slice_get es i ≡ o → AreKept es (acked_at es i o)
acked_one es i None here = itself es
acked_one es i (Some e) here = record {
  descs = descs_set es i e (endpoint_acked e) here refl;
  handshakes = λ all. all_set HasHandshakes es i (endpoint_acked e) all
      (λ kind high. part_acks e.part (subst (Holds HasHandshakes) here (all_get HasHandshakes es i all) kind high));
}

acked_kept : (es : List Endpoint) (o : Option ℕ) → AreKept es (acked_in es o)
acked_kept es None = itself es
acked_kept es (Some i) = acked_one es i (slice_get es i) refl

-- ---- a device

module _ (s : Script) where
  text_kept : (d new : Device) → new.address ≡ d.address → AreKept d.endpoints new.endpoints → IsOfText s d → IsOfText s new
  text_kept d new address kept k = record {
    place = k.place;
    text = k.text;
    there = k.there;
    address = address ∙ k.address;
    descs = kept.descs ∙ k.descs;
    handshakes = kept.handshakes k.handshakes;
  }

  answered_text : (d : Device) (ask : Ask) (out : List ℕ) → IsOfText s d → IsOfText s (answered d ask out)
  answered_text d ask out k = text_kept d (answered d ask out) refl (answered_kept d.endpoints (endpoint_asked d ask) ask out) k

  acked_text : (d : Device) (ask : Ask) → IsOfText s d → IsOfText s (acked_by d ask)
  acked_text d ask k = text_kept d (acked_by d ask) refl (acked_kept d.endpoints (endpoint_asked d ask)) k

  asked_text : (row : WhoHeard) (ask : Ask) (out : List ℕ) (d : Device) → IsOfText s d → IsOfText s (device_after row ask out d)
  asked_text heard.SentUnheard ask out d k = k
  asked_text heard.NoAnswer ask out d k = answered_text d ask out k
  asked_text heard.AnswerUnheard ask out d k = answered_text d ask out k
  asked_text heard.AnswerHeard ask out d k = answered_text d ask out k
  asked_text heard.AckUnheard ask out d k = answered_text d ask out k
  asked_text heard.AckHeard ask out d k = acked_text (answered d ask out) ask (answered_text d ask out k)

  begun_text : (frindex : ℕ) (d : Device) → IsOfText s d → IsOfText s (begun_at frindex d)
  begun_text frindex d k =
      cond_both (begins_anew d.speed frindex) (begun d) d (IsOfText s)
      (λ anew. text_kept d (begun d) refl (record {
        descs = descs_begun d.endpoints;
        handshakes = λ all. all_map HasHandshakes HasHandshakes endpoint_begun d.endpoints
            (λ e has kind high. part_begins e.part (has kind high)) all;
      }) k)
      (λ goes_on. k)

  -- ---- those of a bus

  abbrev AreOfText : List Device → Type 0
  AreOfText ds = AllByRecursion (IsOfText s) ds

  put_text : (o : Option Device) (place : ℕ) (row : WhoHeard) (ask : Ask) (out : List ℕ) (ds : List Device) → Holds (IsOfText s) o
      → AreOfText ds → AreOfText (put_at o place (device_after row ask out) ds)
  put_text None place row ask out ds k all = all
  put_text (Some d) place row ask out ds k all =
      all_set (IsOfText s) ds place (device_after row ask out d) all (asked_text row ask out d k)

  changed_text : (place : ℕ) (row : WhoHeard) (ask : Ask) (out : List ℕ) (ds : List Device) → AreOfText ds
      → AreOfText (changed_at place (device_after row ask out) ds)
  changed_text place row ask out ds all = put_text (slice_get ds place) place row ask out ds (all_get (IsOfText s) ds place all) all

  by_text : (row : WhoHeard) (who : Answerer) (ask : Ask) (out : List ℕ) (b : Bus) → AreOfText b.devices
      → AreOfText (changed_by row who ask out b).devices
  by_text row (answerers.Device place) ask out b all = changed_text place row ask out b.devices all
  by_text row (answerers.Hub place) ask out b all = all
  by_text row (answerers.Translator place stuff) ask out b all = all
  by_text row answerers.Nobody ask out b all = all

  at_text : (fixed : Fixed) (b : Bus) (ask : Ask) (out : List ℕ) (o : Option Asked) → AreOfText b.devices
      → AreOfText (after_at fixed b ask out o).devices
  at_text fixed b ask out None all = all
  at_text fixed b ask out (Some e) all = by_text (bus_row fixed b e ask out) e.who ask out b all

  pub ask_keeps_texts : (fixed : Fixed) (b : Bus) (ask : Ask) (out : List ℕ) → AreOfText b.devices
      → AreOfText (transact_after fixed b ask out).devices
  ask_keeps_texts fixed b ask out all = at_text fixed b ask out (asked_of fixed b ask) all

  below_text : (row : WhoHeard) (who : Answerer) (ask : Ask) (out : List ℕ) (ds : List Device) → AreOfText ds
      → AreOfText (devices_after row who ask out ds)
  below_text row (answerers.Device place) ask out ds all = changed_text place row ask out ds all
  below_text row (answerers.Hub place) ask out ds all = all
  below_text row (answerers.Translator place stuff) ask out ds all = all
  below_text row answerers.Nobody ask out ds all = all

  below_at_text : (w : Below) (ask : Ask) (out : List ℕ) (o : Option Asked) → AreOfText w.floor.devices
      → AreOfText (below_after_at w ask out o).floor.devices
  below_at_text w ask out None all = all
  below_at_text w ask out (Some e) all = below_text (below_row w e ask out) e.who ask out w.floor.devices all

  left_text : (fixed : Fixed) (h : HubContent) (floor : Floor) → AreOfText floor.devices → AreOfText (floor_left fixed h floor).devices
  left_text fixed h floor all =
      work_keeps below_reply below_after (λ (w : Below). AreOfText w.floor.devices)
      (λ w ask out k. below_at_text w ask out (asked_below w ask) k) h (below_at fixed h floor) all

  worked_text : (fixed : Fixed) (hubs : List HubContent) (floor : Floor) → AreOfText floor.devices
      → AreOfText (floor_worked fixed hubs floor).devices
  worked_text fixed [] floor all = all
  worked_text fixed (h ∷ hs) floor all = worked_text fixed hs (floor_left fixed h floor) (left_text fixed h floor all)

  pub begin_keeps_texts : (fixed : Fixed) (frindex : ℕ) (b : Bus) → AreOfText b.devices → AreOfText (begin_after fixed frindex b).devices
  begin_keeps_texts fixed frindex b all =
      all_map (IsOfText s) (IsOfText s) (begun_at frindex) (floor_worked fixed b.hubs (floor_of b)).devices (begun_text frindex)
      (worked_text fixed b.hubs (floor_of b) all)
