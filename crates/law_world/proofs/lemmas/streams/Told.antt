-- The queue heads of endpoints that are there, by the driver's content.
use Rattle.std.proofs.Common.{◌≡◌, ℕ, ◌*◌, ◌==◌, ◌&&◌, true, false, not, List, slice_get, Option, Some, ap, refl, sym, ◌∙◌}
use Rattle.std.proofs.lemmas.Bool.{eqb-true, eq-eqb, false≢true, true≢false, and_parts, and_from, not_from_false}
use Rattle.law_common.proofs.Booleans.{not_on, off_by}
use Rattle.law_world.proofs.Common2.{opens_is, opened_is}
use Rattle.usb_base.specs.declared.endpoints.EpDesc.{EpDesc}
use Rattle.usb_base.specs.declared.packets.EpKind.{EpKind}
use Rattle.usb_base.specs.declared.packets.EpKind.TheVariants as kinds
use Rattle.usb_base.specs.declared.packets.Way.{Way}
use Rattle.usb_base.specs.declared.packets.Way.TheVariants as ways
use Rattle.drv_table.specs.declared.content.Endpoint.{Endpoint}
use Rattle.drv_table.specs.declared.content.Command.{Command}
use Rattle.drv_table.specs.declared.content.Command.TheVariants as unfinished
use Rattle.drv_table.specs.DriverContent.{DriverContent}
use Rattle.law_driver.specs.endpoint_lives.Lives.{any_at}
use Rattle.law_driver.proofs.lemmas.endpoint_lives.Lives.{any_there, there_any}
use Rattle.law_driver_ring.specs.fed_queues.Places.{IsThere, HasThere}
use Rattle.drv_table.specs.Words.{is_control}
use Rattle.law_driver.specs.chained_transfers.Bulk.{IsDataWay}
use Rattle.claims_driver.specs.Scripts.{receives, comes_in}
use Rattle.law_driver.specs.AsynchronousScripts.{IsAsynchronous, IsKindOf}
use Rattle.claims_report.specs.Streams.{has_stream}
use Rattle.claims_world.specs.Requests.{opens}
use Rattle.law_world.specs.streams.Feeding.{there_of}

-- ---- one endpoint

is_there : (d : DriverContent) (x : Endpoint) → (not x.gone && not (opens d.command x.queue)) ≡ true → IsThere d x
is_there d x on =
    let both = and_parts (not x.gone) (not (opens d.command x.queue)) on in
    record { linked = λ is. false≢true (sym (not_on (opens d.command x.queue) both.1) ∙ opens_is d.command x.queue is); kept = not_on x.gone both.0 }

there_is : (d : DriverContent) (x : Endpoint) → IsThere d x → (not x.gone && not (opens d.command x.queue)) ≡ true
there_is d x k =
    and_from (not x.gone) (not (opens d.command x.queue)) (not_from_false x.gone k.kept)
    (not_from_false (opens d.command x.queue) (off_by (opens d.command x.queue) (λ on. k.linked (opened_is d.command x.queue on))))

queue_in : Option Command → ℕ
queue_in (Some (unfinished.Open queue)) = queue
queue_in _ = 0

-- ---- one of them

-- a bulk endpoint
pub record HasBulkThere (d : DriverContent) (n : ℕ) : Type 0 where
  pub has : HasThere d n
  pub stream : has_stream has.endpoint.desc.kind ≡ true

pub there_on : (d : DriverContent) (e : ℕ) (x : Endpoint) → slice_get d.endpoints e ≡ Some x → IsThere d x → has_stream x.desc.kind ≡ true → there_of d (32 * x.queue) ≡ true
there_on d e x here k stream =
    there_any (λ i z. (32 * x.queue == 32 * z.queue) && (has_stream z.desc.kind && (not z.gone && not (opens d.command z.queue)))) d.endpoints e x here
    (and_from (32 * x.queue == 32 * x.queue) (has_stream x.desc.kind && (not x.gone && not (opens d.command x.queue))) (eq-eqb (32 * x.queue) (32 * x.queue) refl)
    (and_from (has_stream x.desc.kind) (not x.gone && not (opens d.command x.queue)) stream (there_is d x k)))

pub there_by : (d : DriverContent) (n : ℕ) → HasBulkThere d n → there_of d n ≡ true
there_by d n h = ap (there_of d) h.has.at ∙ there_on d h.has.number h.has.endpoint h.has.here h.has.there h.stream

pub bulk_there : (d : DriverContent) (n : ℕ) → there_of d n ≡ true → HasBulkThere d n
bulk_there d n on =
    let r = any_there (λ e x. (n == 32 * x.queue) && (has_stream x.desc.kind && (not x.gone && not (opens d.command x.queue)))) d.endpoints on in
    let both = and_parts (n == 32 * r.endpoint.queue) (has_stream r.endpoint.desc.kind && (not r.endpoint.gone && not (opens d.command r.endpoint.queue))) r.is in
    let more = and_parts (has_stream r.endpoint.desc.kind) (not r.endpoint.gone && not (opens d.command r.endpoint.queue)) both.1 in
    record {
      has = record { number = r.number; endpoint = r.endpoint; here = r.here; there = is_there d r.endpoint more.1; at = eqb-true n (32 * r.endpoint.queue) both.0 };
      stream = more.0;
    }

pub has_there : (d : DriverContent) (n : ℕ) → there_of d n ≡ true → HasThere d n
has_there d n on = (bulk_there d n on).has

-- ---- those of two contents

-- where the endpoints and the command are the same
pub there_same : (d f : DriverContent) (n : ℕ) → f.endpoints ≡ d.endpoints → f.command ≡ d.command → there_of f n ≡ there_of d n
there_same d f n ends command =
    ap (λ (xs : List Endpoint). any_at (λ e x. (n == 32 * x.queue) && (has_stream x.desc.kind && (not x.gone && not (opens f.command x.queue)))) xs) ends
    ∙ ap (λ (c : Option Command). any_at (λ e x. (n == 32 * x.queue) && (has_stream x.desc.kind && (not x.gone && not (opens c x.queue)))) d.endpoints) command

-- where none was being opened_is
pub there_before : (d f : DriverContent) (n : ℕ) → f.endpoints ≡ d.endpoints → ((c : ℕ) → d.command ≡ Some (unfinished.Open c) → ⊥) → there_of f n ≡ true → there_of d n ≡ true
there_before d f n ends never on =
    let h = bulk_there f n on in
    there_by d n
    (record {
      has = record {
        number = h.has.number;
        endpoint = h.has.endpoint;
        here = ap (λ (xs : List Endpoint). slice_get xs h.has.number) (sym ends) ∙ h.has.here;
        there = record { linked = λ is. never h.has.endpoint.queue is; kept = h.has.there.kept };
        at = h.has.at;
      };
      stream = h.stream;
    })

-- ---- control endpoints

-- an endpoint is a control one, or has a stream of data one way
pub stream_kind : (desc : EpDesc) → IsAsynchronous desc → is_control desc.kind ≡ false → has_stream desc.kind ≡ true
stream_kind desc k off = by_way desc.name.way desc.kind k.kind off
  where
    by_way : (way : Way) (kind : EpKind) → IsKindOf way kind → is_control kind ≡ false → has_stream kind ≡ true
    by_way ways.Ctl kind is none = absurd (true≢false (sym (ap is_control is) ∙ none))
    by_way ways.In kind is none = ap has_stream is
    by_way ways.Out kind is none = ap has_stream is

pub control_way : (desc : EpDesc) → IsAsynchronous desc → is_control desc.kind ≡ true → desc.name.way ≡ ways.Ctl
control_way desc k on = by_way desc.name.way desc.kind k.kind on
  where
    by_way : (way : Way) (kind : EpKind) → IsKindOf way kind → is_control kind ≡ true → way ≡ ways.Ctl
    by_way ways.Ctl kind is some = refl
    by_way ways.In kind is some = absurd (false≢true (sym (ap is_control is) ∙ some))
    by_way ways.Out kind is some = absurd (false≢true (sym (ap is_control is) ∙ some))

pub data_way : (desc : EpDesc) → IsAsynchronous desc → is_control desc.kind ≡ false → IsDataWay desc.name.way
data_way desc k off = by_way desc.name.way desc.kind k.kind off
  where
    by_way : (way : Way) (kind : EpKind) → IsKindOf way kind → is_control kind ≡ false → IsDataWay way
    by_way ways.Ctl kind is none = absurd (true≢false (sym (ap is_control is) ∙ none))
    by_way ways.In kind is none = tt
    by_way ways.Out kind is none = tt

pub way_control : (desc : EpDesc) → IsAsynchronous desc → IsDataWay desc.name.way → is_control desc.kind ≡ false
way_control desc k one_way = by_way desc.name.way desc.kind k.kind one_way
  where
    by_way : (way : Way) (kind : EpKind) → IsKindOf way kind → IsDataWay way → is_control kind ≡ false
    by_way ways.Ctl kind is some = absurd some
    by_way ways.In kind is some = ap is_control is
    by_way ways.Out kind is some = ap is_control is

-- an IN endpoint has a stream of data, and so has an OUT one
pub stream_in : (desc : EpDesc) → IsAsynchronous desc → comes_in desc.name.way ≡ true → has_stream desc.kind ≡ true
stream_in desc k comes = by_way desc.name.way desc.kind k.kind comes
  where
    by_way : (way : Way) (kind : EpKind) → IsKindOf way kind → comes_in way ≡ true → has_stream kind ≡ true
    by_way ways.Ctl kind is on = absurd (false≢true on)
    by_way ways.In kind is on = ap has_stream is
    by_way ways.Out kind is on = absurd (false≢true on)

pub stream_out : (desc : EpDesc) → IsAsynchronous desc → receives desc.name.way ≡ false → has_stream desc.kind ≡ true
stream_out desc k goes = by_way desc.name.way desc.kind k.kind goes
  where
    by_way : (way : Way) (kind : EpKind) → IsKindOf way kind → receives way ≡ false → has_stream kind ≡ true
    by_way ways.Ctl kind is off = absurd (true≢false off)
    by_way ways.In kind is off = absurd (true≢false off)
    by_way ways.Out kind is off = ap has_stream is

pub out_way : (way : Way) → receives way ≡ false → IsDataWay way
out_way ways.Out off = tt
out_way _ off = absurd (true≢false off)

pub bulk_kind : (desc : EpDesc) → IsAsynchronous desc → is_control desc.kind ≡ false → desc.kind ≡ kinds.Bulk
bulk_kind desc k off = by_way desc.name.way desc.kind k.kind off
  where
    by_way : (way : Way) (kind : EpKind) → IsKindOf way kind → is_control kind ≡ false → kind ≡ kinds.Bulk
    by_way ways.Ctl kind is none = absurd (true≢false (sym (ap is_control is) ∙ none))
    by_way ways.In kind is none = is
    by_way ways.Out kind is none = is
