-- The windows of a world are those that its queues tell: an isochronous transfer is no request, and each endpoint has its own name.
use Rattle.std.proofs.Common.{◌≡◌, ℕ, suc, ◌*◌, ◌==◌, ◌&&◌, not, Bool, true, false, List, map, slice_get, Option, Some}
use Rattle.std.proofs.Common.{None, option_map, ap, refl, sym, ◌∙◌, if◌then◌else◌}
use Rattle.std.specs.Prelude.{position, length, nat_lt, cond, [], ◌∷◌, ◌+◌}
use Rattle.std.specs.List.{prefix_len}
use Rattle.std.proofs.lemmas.List.{length-map}
use Rattle.std.proofs.lemmas.Bool.{false≢true}
use Rattle.std.proofs.lemmas.Option.{slice_get-map}
use Rattle.law_world.proofs.Common2.{queued_owner}
use Rattle.usb_base.specs.declared.endpoints.EpName.{EpName}
use Rattle.bus_wire.specs.Bus.{Fixed}
use Rattle.drv_table.specs.declared.content.Endpoint.{Endpoint}
use Rattle.drv_table.specs.declared.content.Sort.{Sort}
use Rattle.drv_table.specs.declared.content.Sort.TheVariants as sorts
use Rattle.drv_table.specs.declared.content.Transfer.{Transfer}
use Rattle.drv_table.specs.DriverContent.{DriverContent}
use Rattle.hc_copy.specs.declared.held.Held.{Held}
use Rattle.hc_core.specs.declared.controller.HcStep.{HcStep}
use Rattle.hc_core.specs.declared.controller.HcStep.TheVariants as steps
use Rattle.claims_driver.specs.Owners.{is_descriptor}
use Rattle.law_driver.specs.queued_drivers.Queued.{sort_of_queue, queued_transfer, queued_endpoint, queued}
use Rattle.law_driver.proofs.lemmas.queued_drivers.CommandFields.{name_same}
use Rattle.dev_control.specs.Stages.{Stages}
use Rattle.claims_report.specs.Controls.{is_at}
use Rattle.law_devices.specs.Controls.{control_of}
use Rattle.bus_world.specs.World.{World, controller_next}
use Rattle.claims_world.specs.Requests.{numbers_from, numbers_of, wired, is_request, is_setup_at, setup_at, endpoint_of, Windows}
use Rattle.claims_world.specs.Requests.{acted_with, acts_in, opened_by}
use Rattle.claims_world.specs.Requests.{begun_in, begun_by, stages_at, side_of, acted_by, after_event}
use Rattle.law_reports.specs.requests.HighAsking.{told_world}

-- ---- transfers

-- the first one that passes, where each passes as before
prefix_same : (p : Transfer → Bool) (f : Transfer → Transfer) (ts : List Transfer)
    → prefix_len (λ (y : Transfer). not (p y)) (map f ts) ≡ prefix_len (λ (y : Transfer). not (p (f y))) ts
prefix_same p f [] = refl
prefix_same p f (y ∷ ts) = ap (λ (n : ℕ). cond (not (p (f y))) (1 + n) 0) (prefix_same p f ts)

place_by : ℕ → ℕ → Option ℕ
place_by n size = cond (nat_lt n size) (Some n) None

place_same : (p : Transfer → Bool) (f : Transfer → Transfer) (ts : List Transfer)
    → position p (map f ts) ≡ position (λ (y : Transfer). p (f y)) ts
unfolding place_by
place_same p f ts =
    ap (λ (n : ℕ). place_by n (length (map f ts))) (prefix_same p f ts)
    ∙ ap (place_by (prefix_len (λ (y : Transfer). not (p (f y))) ts)) (length-map ts f)

off_by : (b : Bool) → (b && false) ≡ false
off_by true = refl
off_by false = refl

no_request : (sort : Sort) → is_descriptor sort ≡ true → is_request sort ≡ false
no_request sorts.Request on = absurd (false≢true on)
no_request _ on = refl

setup_same : (xs : List Endpoint) (a : ℕ) (y : Transfer) → is_setup_at a (queued_transfer xs y) ≡ is_setup_at a y
setup_same xs a y = by (is_descriptor y.sort) refl
  where
    by : (b : Bool) → is_descriptor y.sort ≡ b
        → is_setup_at a (if b then record y { sort = sort_of_queue (slice_get xs y.endpoint); reported = true; released = true } else y)
        ≡ is_setup_at a y
    by false is = refl
    by true is =
        off_by (is_request (sort_of_queue (slice_get xs y.endpoint)))
        ∙ sym (ap (λ (b : Bool). b && (not y.released && 32 * y.first == a)) (no_request y.sort is))

setup_told : (d : DriverContent) (a : ℕ) → setup_at (queued d) a ≡ setup_at d a
setup_told d a =
    place_same (is_setup_at a) (queued_transfer d.endpoints) d.transfers
    ∙ ap (λ (p : Transfer → Bool). position p d.transfers) (λ i y. setup_same d.endpoints a y i)

pub owner_told : (d : DriverContent) (t : ℕ) → endpoint_of (queued d) t ≡ endpoint_of d t
owner_told d t =
    ap (option_map (λ (y : Transfer). y.endpoint)) (slice_get-map (queued_transfer d.endpoints) d.transfers t)
    ∙ by (slice_get d.transfers t)
  where
    by : (o : Option Transfer) → option_map (λ (y : Transfer). y.endpoint) (option_map (queued_transfer d.endpoints) o)
        ≡ option_map (λ (y : Transfer). y.endpoint) o
    by None = refl
    by (Some y) = ap (λ (e : ℕ). Some e) (queued_owner d.endpoints y)

numbers_same : (xs : List Endpoint) (e n : ℕ) (ts : List Transfer) → numbers_from e n (map (queued_transfer xs) ts) ≡ numbers_from e n ts
numbers_same xs e n [] = refl
numbers_same xs e n (t ∷ ts) =
    ap (λ (o : ℕ). if o == e then n ∷ numbers_from e (suc n) (map (queued_transfer xs) ts)
    else numbers_from e (suc n) (map (queued_transfer xs) ts)) (queued_owner xs t)
    ∙ ap (λ (ns : List ℕ). if t.endpoint == e then n ∷ ns else ns) (numbers_same xs e (suc n) ts)

pub numbers_told : (d : DriverContent) (e : ℕ) → numbers_of (queued d) e ≡ numbers_of d e
numbers_told d e = numbers_same d.endpoints e 0 d.transfers

-- ---- what an event records

begun_told : (d : DriverContent) (o : Option Held) (kind : HcStep) → begun_in (queued d) o kind ≡ begun_in d o kind
begun_told d None kind = refl
begun_told d (Some h) steps.Transact = setup_told d h.queue_head.current
begun_told d (Some h) _ = refl

opened_told : (d : DriverContent) (o : Option ℕ) (before : ℕ → Option ℕ) (e : ℕ) → opened_by (queued d) o before e ≡ opened_by d o before e
opened_told d None before e = refl
opened_told d (Some t) before e = ap (λ (o : Option ℕ). if is_at e o then Some t else before e) (owner_told d t)

side_told : (fixed : Fixed) (w : World) (d : DriverContent) (e : ℕ)
    → side_of fixed w (slice_get (queued d).endpoints e) ≡ side_of fixed w (slice_get d.endpoints e)
side_told fixed w d e = ap (side_of fixed w) (slice_get-map queued_endpoint d.endpoints e) ∙ by (slice_get d.endpoints e)
  where
    by : (o : Option Endpoint) → side_of fixed w (option_map queued_endpoint o) ≡ side_of fixed w o
    by None = refl
    by (Some x) = ap (λ (n : EpName). stages_at (wired fixed w) n.addr n.num) (name_same x)

module _ (fixed : Fixed) (w : World) (v : Windows) where
  abbrev u : World
  u = told_world w

  begun_same : begun_by (told_world w) ≡ begun_by w
  begun_same = begun_told w.driver w.control.walk.held _

  acted_at : (e : ℕ) → acted_by fixed (told_world w) (controller_next fixed (told_world w)) e ≡ acted_by fixed w (controller_next fixed w) e
  acted_at e =
      ap (λ (o : Option Stages). acted_with o (side_of fixed (controller_next fixed w) (slice_get (queued w.driver).endpoints e)))
      (side_told fixed w w.driver e)
      ∙ ap (acted_with (side_of fixed w (slice_get w.driver.endpoints e))) (side_told fixed (controller_next fixed w) w.driver e)

  opened_same : opened_by (queued w.driver) (begun_by (told_world w)) v.opened ≡ opened_by w.driver (begun_by w) v.opened
  opened_same =
      λ i e. (ap (λ (o : Option ℕ). opened_by (queued w.driver) o v.opened e) begun_same ∙ opened_told w.driver (begun_by w) v.opened e) i

  acted_same : acted_by fixed (told_world w) (controller_next fixed (told_world w)) ≡ acted_by fixed w (controller_next fixed w)
  acted_same = λ i e. acted_at e i

  pub windows_told : after_event fixed (told_world w) v ≡ after_event fixed w v
  windows_told = λ i. record {
    opened = opened_same i;
    acts = λ t. acts_in (opened_same i) (acted_same i) t (v.acts t) (owner_told w.driver t i);
  }
