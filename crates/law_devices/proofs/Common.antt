-- Lemmas that several files need.
use Rattle.std.proofs.Common.{◌≡◌, true, refl, ap, if◌then◌else◌, not, ◌==◌, ◌&&◌, ◌∙◌, Option, ℕ, Some, None, inr, inl, Bool, false, arith, ◌≤◌, List, map, ◌∷◌, subst, sym, []}
use Rattle.std.specs.Prelude.{◌⊎◌, find}
use Rattle.std.specs.Option.{option_map_or}
use Rattle.std.specs.List.{list_any}
use Rattle.std.proofs.lemmas.Bool.{cases_Bool, cond-true, cond-false}
use Rattle.std.proofs.lemmas.Option.{same_Some}
use Rattle.usb_base.specs.declared.packets.Way.{Way}
use Rattle.usb_base.specs.declared.packets.EpKind.{EpKind}
use Rattle.usb_base.specs.declared.endpoints.EpName.{EpName}
use Rattle.script_types.specs.declared.devices.EpText.{EpText}
use Rattle.endpoint_script.specs.Device.{or_else, is_way}
use Rattle.law_common.proofs.Booleans.{left_or, right_or}
use Rattle.bus_wire.specs.Fates.{is_same_way}
use Rattle.bus_wire.specs.declared.seats.Seat.{Seat}
use Rattle.bus_wire.specs.Seats.{seat_at}
use Rattle.claims_report.specs.Requests.{Request}
use Rattle.link_words.specs.declared.fields.ShortLink.{ShortLink}
use Rattle.qh_qtd.specs.declared.queue_head.Qh.{Qh}
use Rattle.qh_qtd.specs.declared.token.Token.{Token}
use Rattle.hc_copy.specs.Visits.{next_pointer}
use Rattle.script_world.specs.Draft.{same_way}
use Rattle.law_request.specs.Host.{Data, Status, Stage, Setup}
use Rattle.law_ring.specs.Front.{SameRest}
use Rattle.law_devices.specs.ring_requests.Laid.{comes, place_at}
use Rattle.law_devices.specs.declared_controls.Names.{IsNameOf}
use Rattle.law_devices.specs.ring_requests.Samples.{stand_at}
use Rattle.usb_base.specs.declared.packets.Way.TheVariants as way
use Rattle.usb_base.specs.declared.packets.EpKind.TheVariants as kinds
use Rattle.bus_wire.specs.declared.asked.Answerer.TheVariants as Answerers

pub ways_equal : (a b : Way) → same_way a b ≡ true → a ≡ b
ways_equal way.In way.In e = refl
ways_equal way.Out way.Out e = refl
ways_equal way.Ctl way.Ctl e = refl
ways_equal _ _ e = cc

pub pointer_still : (q r : Qh) → SameRest q r → next_pointer r ≡ next_pointer q
pointer_still q r same =
    ap (λ (t : Token). if not (t.total == 0) && not r.alternate.t then r.alternate else r.next) same.token
    ∙ ap (λ (l : ShortLink). if not (q.token.total == 0) && not l.t then l else r.next) same.alternate
    ∙ ap (λ (l : ShortLink). if not (q.token.total == 0) && not q.alternate.t then q.alternate else l) same.next

pub either_found : (o other : Option ℕ) (k : ℕ) → or_else o other ≡ Some k → (o ≡ Some k) ⊎ (other ≡ Some k)
either_found None other k e = inr e
either_found (Some i) other k e = inl e

pub same_way_is : (w : Way) → is_same_way w w ≡ true
same_way_is way.In = refl
same_way_is _ = refl

pub status_comes : (r : Request) (b : Bool) → comes r (if b then Data else Status) Status ≡ true
status_comes r true = refl
status_comes r false = refl

pub no_translator : (o : Option ℕ) (stuff n : ℕ)
    → option_map_or (λ (place : ℕ). Answerers.Translator place stuff) o Answerers.Nobody ≡ Answerers.Device n → ⊥
no_translator None stuff n e = cc
no_translator (Some k) stuff n e = cc

pub zero_by : (kind : EpKind) (name : EpName) → IsNameOf kind name → name.num ≡ 0 → name.way ≡ way.Ctl
zero_by kinds.Control name h e = h.way
zero_by _ name h e = absurd (omega (arith, h.least, e))

pub out_is : (v : Way) → same_way way.Out v ≡ true → v ≡ way.Out
out_is way.Out e = refl
out_is _ e = cc

pub out_way : (v : Way) → is_way v way.Out ≡ same_way v way.Out
out_way way.In = refl
out_way _ = refl

pub first_low : (s : Stage) → place_at (stand_at 0) s ≤ 128
first_low Setup = omega (arith)
first_low _ = omega (arith)

pub is_same : (q : Qh) → SameRest q q
is_same q = record { token = refl; current = refl; next = refl; alternate = refl }

pub any_here : (p : Seat → Bool) (k : ℕ) (es : List EpText) (r : EpText → Bool) (e : EpText) → find r es ≡ Some e → p (seat_at k e) ≡ true
    → list_any p (map (seat_at k) es) ≡ true
any_here p k [] r e found t = cc
any_here p k (x ∷ es) r e found t =
    elim (cases_Bool (r x)) [
      | inl y ↦ left_or (p (seat_at k x)) _ (subst (λ z. p (seat_at k z) ≡ true) (sym (same_Some x e (sym (cond-true _ _ _ y) ∙ found))) t)
      | inr y ↦ right_or (p (seat_at k x)) _ (any_here p k es r e (sym (cond-false _ _ _ y) ∙ found) t)
    ]
