-- The endpoint of a queue of requests, and queues beside which structures change.
use Rattle.std.proofs.Common.{◌≡◌, ℕ, ◌*◌, Bool, true, false, slice_get, Option, Some, ap, refl, sym, ◌∙◌, ⊎_elim}
use Rattle.std.proofs.lemmas.Option.{same_Some}
use Rattle.law_common.proofs.Numbers.{same_blocks}
use Rattle.bus_wire.specs.Bus.{Fixed}
use Rattle.drv_table.specs.declared.content.Endpoint.{Endpoint}
use Rattle.drv_table.specs.Words.{head_block, is_control}
use Rattle.claims_driver.specs.Leaving.{HasOwners}
use Rattle.law_driver.specs.chained_transfers.Asynchronous.{OnlyAsynchronous}
use Rattle.law_driver_ring.specs.fed_queues.Places.{HasHead, AreMet}
use Rattle.law_structures.specs.lent_structures.Structures.{StructureSets}
use Rattle.law_queues.proofs.lemmas.publish_laws.Apart.{queue_placed, queues_same}
use Rattle.claims_report.specs.Requests.{Request}
use Rattle.claims_report.specs.ControlSides.{Device}
use Rattle.law_ring.specs.Hand.{Hand}
use Rattle.law_ring.specs.Sparing.{SameHand}
use Rattle.law_devices.specs.ring_requests.Resting.{SameSide}
use Rattle.bus_world.specs.World.{World}
use Rattle.law_world.specs.steps.Streaming.{Streams, Standing}
use Rattle.claims_world.specs.Requests.{Windows}
use Rattle.law_reports.specs.requests.driver_requests.Requests.{IsOfEndpoint}
use Rattle.law_reports.specs.requests.Courses.{Course, NoQueue, Asks, Rests, has_queue, IsCourse, have_queues, CoursesStand}
use Rattle.law_reports.specs.requests.Spared.{KeepsEndpoints}
use Rattle.law_reports.proofs.lemmas.requests.QueueChanging.{all_kept}
use Rattle.law_reports.proofs.lemmas.requests.Writing.{same_kept}
use Rattle.law_world.proofs.lemmas.streams.Heads.{not_head}
use Rattle.law_reports.specs.requests.Footing.{IsFooting}
use Rattle.law_reports.specs.requests.Asking.{Sides, Asking, IsMetControl, IsAskingWorld}

-- ---- the endpoint

pub record HasOwner (g : Sides) (w : World) (a : Asking) (n : ℕ) : Type 0 where
  pub number : ℕ
  pub endpoint : Endpoint
  pub control : IsMetControl g w.driver number endpoint
  pub at : n ≡ 32 * endpoint.queue
  pub is : (a.numbers n).endpoint ≡ number

-- what tells which endpoint has a queue head
pub record IsSeated (member : ℕ → Bool) (w : World) : Type 0 where
  pub owners : HasOwners w.driver
  pub only : OnlyAsynchronous w.driver
  pub met : AreMet w.driver member
  pub apart : (e f : ℕ) (z y : Endpoint) → slice_get w.driver.endpoints e ≡ Some z → is_control z.desc.kind ≡ true
      → slice_get w.driver.endpoints f ≡ Some y
      → y.desc.name.addr ≡ z.desc.name.addr → y.desc.name.num ≡ z.desc.name.num → e ≡ f

pub seated : (member : ℕ → Bool) (x : Streams) (s : Standing) (w : World) → IsFooting member x s w → IsSeated member w
seated member x s w f = record { owners = f.owners; only = f.turns.asynchronous; met = f.queues.met; apart = f.apart }

module _ (g : Sides) (fixed : Fixed) (member : ℕ → Bool) (s : Standing) (a : Asking) (v : Windows) (asks : ℕ → Request)
    (w : World) (f : IsSeated member w) (z : IsAskingWorld g fixed member s a v asks w) where
  -- two that are there at one place are one
  pub one_seated : (e i : ℕ) (y t : Endpoint) → slice_get w.driver.endpoints e ≡ Some y → slice_get w.driver.endpoints i ≡ Some t
      → y.gone ≡ false → t.gone ≡ false → y.queue ≡ t.queue → e ≡ i
  one_seated e i y t here there kept held same =
      queues_same y.queue t.queue e i same (queue_placed w.driver f.owners e y here (f.only.endpoints e y here) kept)
      (queue_placed w.driver f.owners i t there (f.only.endpoints i t there) held)

  pub owner_seated : (n : ℕ) → have_queues a.courses n ≡ true → HasOwner g w a n
  owner_seated n has =
      let o : IsOfEndpoint w.driver (a.numbers n).requests.endpoint n (a.numbers n).endpoint = (z.records.each n has).numbered.own.endpoint in
      ⊎_elim {C = HasOwner g w a n}
      (λ (head : n ≡ 32 * head_block). absurd (not_head w.driver (a.numbers n).endpoint o.own f.owners f.only o.here o.held (sym o.queue ∙ head)))
      (λ (h : HasHead w.driver n).
      let same : h.number ≡ (a.numbers n).endpoint =
      one_seated h.number (a.numbers n).endpoint h.endpoint o.own h.here o.here h.met.there.kept o.held (same_blocks h.endpoint.queue o.own.queue (sym h.at ∙ o.queue)) in
      let one : o.own ≡ h.endpoint = same_Some o.own h.endpoint (sym o.here ∙ ap (slice_get w.driver.endpoints) (sym same) ∙ h.here) in
      record {
        number = h.number;
        endpoint = h.endpoint;
        control = record { is = record { here = h.here; control = ap (λ (y : Endpoint). g.asks y.desc) (sym one) ∙ z.asked n o.own has o.here }; met = h.met };
        at = h.at;
        is = sym same;
      }) (f.met.only n (z.stand.members n has))

module _ (g : Sides) (fixed : Fixed) (member : ℕ → Bool) (x : Streams) (s : Standing) (a : Asking) (v : Windows) (asks : ℕ → Request)
    (w : World) (f : IsFooting member x s w) (z : IsAskingWorld g fixed member s a v asks w) where
  pub one_queue : (e i : ℕ) (y t : Endpoint) → slice_get w.driver.endpoints e ≡ Some y → slice_get w.driver.endpoints i ≡ Some t
      → y.gone ≡ false → t.gone ≡ false → y.queue ≡ t.queue → e ≡ i
  one_queue = one_seated g fixed member s a v asks w (seated member x s w f) z

  pub owner_of : (n : ℕ) → have_queues a.courses n ≡ true → HasOwner g w a n
  owner_of = owner_seated g fixed member s a v asks w (seated member x s w f) z

-- ---- structures beside the queues

module _ {W : Type 0} (device : W → ℕ → ℕ → Option Device) (parts now : StructureSets) (hand later : Hand) (wire : W) (side : (k : ℕ) → SameSide hand later k) (alike : SameHand hand later) where
  course_beside : (k : ℕ) (c : Course) → (has_queue c ≡ true → now k ≡ parts k) → IsCourse device parts hand wire k c
      → IsCourse device now later wire k c
  course_beside k NoQueue same z = tt
  course_beside k (Asks v b l) same z = same_kept device parts now hand later wire k (side k) alike (same refl) (Asks v b l) z
  course_beside k (Rests v b c) same z = same_kept device parts now hand later wire k (side k) alike (same refl) (Rests v b c) z

  pub stand_beside : (member : ℕ → Bool) (courses : ℕ → Course) → ((k : ℕ) → have_queues courses k ≡ true → now k ≡ parts k)
      → KeepsEndpoints member parts now → CoursesStand device member courses parts hand wire
      → CoursesStand device member courses now later wire
  stand_beside member courses same ends stand = all_kept device member courses parts now hand later wire (λ k. course_beside k (courses k) (same k)) ends stand
