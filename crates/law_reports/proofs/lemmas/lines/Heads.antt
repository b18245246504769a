-- The queue heads whose bytes are counted, by the content of the driver.
use Rattle.std.proofs.Common.{◌≡◌, ℕ, ◌*◌, true, false, slice_get, Option, Some, ap, sym, subst, ◌∙◌}
use Rattle.std.proofs.lemmas.Bool.{false≢true}
use Rattle.std.proofs.lemmas.Option.{same_Some}
use Rattle.law_common.proofs.Numbers.{same_blocks}
use Rattle.law_world.proofs.Common.{no_control}
use Rattle.usb_base.specs.declared.endpoints.EpDesc.{EpDesc}
use Rattle.drv_table.specs.declared.content.Command.{Command}
use Rattle.drv_table.specs.declared.content.Command.TheVariants as unfinished
use Rattle.drv_table.specs.declared.content.Endpoint.{Endpoint}
use Rattle.drv_table.specs.DriverContent.{DriverContent}
use Rattle.drv_table.specs.Words.{is_control}
use Rattle.claims_driver.specs.Leaving.{HasOwners}
use Rattle.claims_report.specs.Streams.{has_stream}
use Rattle.law_driver.specs.chained_transfers.Asynchronous.{OnlyAsynchronous}
use Rattle.law_driver_ring.specs.fed_queues.Places.{IsThere}
use Rattle.law_queues.proofs.lemmas.publish_laws.Apart.{queue_placed, queues_same}
use Rattle.law_queues.specs.leaving_drivers.Before.{WasSame, UnlinksAtMost, IsAsBefore}
use Rattle.law_world.specs.streams.Feeding.{there_of}
use Rattle.law_world.proofs.lemmas.streams.Told.{HasBulkThere, there_by, bulk_there}

-- ---- one queue head is that of one endpoint

pub record IsTheOne (d : DriverContent) (e : ℕ) (x : Endpoint) : Type 0 where
  pub stream : has_stream x.desc.kind ≡ true
  pub there : IsThere d x

pub there_one : (d : DriverContent) (e : ℕ) (x : Endpoint) → HasOwners d → OnlyAsynchronous d → slice_get d.endpoints e ≡ Some x
    → x.gone ≡ false
    → there_of d (32 * x.queue) ≡ true → IsTheOne d e x
there_one d e x owners only here kept on =
    let b : HasBulkThere d (32 * x.queue) = bulk_there d (32 * x.queue) on in
    let same : e ≡ b.has.number =
    queues_same x.queue b.has.endpoint.queue e b.has.number (same_blocks x.queue b.has.endpoint.queue b.has.at)
    (queue_placed d owners e x here (only.endpoints e x here) kept)
    (queue_placed d owners b.has.number b.has.endpoint b.has.here (only.endpoints b.has.number b.has.endpoint b.has.here) b.has.there.kept)
    in
    let one : b.has.endpoint ≡ x = same_Some b.has.endpoint x (sym b.has.here ∙ ap (slice_get d.endpoints) (sym same) ∙ here) in
    record { stream = ap (λ (z : Endpoint). has_stream z.desc.kind) (sym one) ∙ b.stream; there = subst (IsThere d) one b.has.there }

-- that of a control endpoint is none of them
pub there_alone : (d : DriverContent) (e : ℕ) (x : Endpoint) → HasOwners d → OnlyAsynchronous d → slice_get d.endpoints e ≡ Some x
    → x.gone ≡ false
    → is_control x.desc.kind ≡ true → there_of d (32 * x.queue) ≡ true → ⊥
there_alone d e x owners only here kept control on =
    false≢true (sym (no_control x.desc.kind (there_one d e x owners only here kept on).stream) ∙ control)

-- nor is that of one that is being opened
pub there_opened : (d : DriverContent) (e : ℕ) (x : Endpoint) → HasOwners d → OnlyAsynchronous d → slice_get d.endpoints e ≡ Some x
    → x.gone ≡ false
    → d.command ≡ Some (unfinished.Open x.queue) → there_of d (32 * x.queue) ≡ true → ⊥
there_opened d e x owners only here kept opens on = (there_one d e x owners only here kept on).there.linked opens

-- ---- while an endpoint leaves

none_open : (c : Option Command) (q : ℕ) → UnlinksAtMost c → c ≡ Some (unfinished.Open q) → ⊥
none_open c q u is = subst UnlinksAtMost is u

pub before_there : (d f : DriverContent) (n : ℕ) → IsAsBefore d f → there_of f n ≡ true → there_of d n ≡ true
before_there d f n k on =
    let b : HasBulkThere f n = bulk_there f n on in
    let v : WasSame d b.has.number b.has.endpoint = k.ends b.has.number b.has.endpoint b.has.here in
    there_by d n
    (record {
      has = record {
        number = b.has.number;
        endpoint = v.endpoint;
        here = v.here;
        there = record { linked = λ is. none_open d.command v.endpoint.queue k.idle is; kept = sym v.gone ∙ b.has.there.kept };
        at = b.has.at ∙ ap (λ (q : ℕ). 32 * q) v.queue;
      };
      stream = ap (λ (c : EpDesc). has_stream c.kind) (sym v.desc) ∙ b.stream;
    })

-- ---- while one is opened

-- its queue head is none of those
pub opening_uncounted : (d : DriverContent) (q : ℕ) → d.command ≡ Some (unfinished.Open q) → there_of d (32 * q) ≡ true → ⊥
opening_uncounted d q opens on =
    let b : HasBulkThere d (32 * q) = bulk_there d (32 * q) on in
    b.has.there.linked (opens ∙ ap (λ (c : ℕ). Some (unfinished.Open c)) (same_blocks q b.has.endpoint.queue b.has.at))
