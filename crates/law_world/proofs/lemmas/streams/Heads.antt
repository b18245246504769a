-- The queue heads of endpoints that the walk may meet: their qTDs stand in their order.
use Rattle.std.proofs.Common.{◌≡◌, ◌≢◌, ℕ, ◌*◌, Bool, true, false, not, ◌&&◌, if◌then◌else◌, List, slice_get, Some, ap, refl, sym, ◌∙◌, ⊎_elim}
use Rattle.std.proofs.lemmas.Bool.{cases_eq, eq-eqb, false≢true, false_from_ne_true, and_parts, not-true}
use Rattle.std.proofs.lemmas.Option.{same_Some}
use Rattle.law_common.proofs.Numbers.{other_number, same_blocks}
use Rattle.law_world.proofs.Common.{no_control}
use Rattle.bus_wire.specs.Bus.{Fixed}
use Rattle.drv_table.specs.declared.content.Endpoint.{Endpoint}
use Rattle.drv_table.specs.DriverContent.{DriverContent}
use Rattle.drv_table.specs.Words.{head_block, is_control}
use Rattle.claims_driver.specs.Owners.{Head, QueueHead as QueueOf}
use Rattle.claims_driver.specs.Leaving.{HasOwners}
use Rattle.law_structures.specs.lent_structures.Structures.{StructureSets}
use Rattle.law_ring.specs.Hand.{Hand}
use Rattle.law_ring.specs.Told.{Endpoint as Told}
use Rattle.law_ring.specs.Front.{LinksRise}
use Rattle.law_controller.specs.controlled_streams.Reported.{IsReported, AreReported}
use Rattle.law_driver.specs.chained_transfers.Bulk.{IsDataWay}
use Rattle.claims_driver.specs.Scripts.{comes_in}
use Rattle.law_driver.specs.AsynchronousScripts.{IsAsynchronous}
use Rattle.law_driver.specs.chained_transfers.Asynchronous.{OnlyAsynchronous}
use Rattle.claims_report.specs.Streams.{has_stream}
use Rattle.law_driver_ring.specs.fed_queues.Places.{IsThere, IsMet, HasHead, AreMet, HaveStreams}
use Rattle.law_queues.proofs.lemmas.publish_laws.Apart.{queue_placed, queues_same}
use Rattle.law_queues.specs.standing_fronts.Along.{LinksOfQueuesRise}
use Rattle.bus_world.specs.World.{World}
use Rattle.law_world.specs.steps.Streaming.{Streams, Standing}
use Rattle.law_world.specs.streams.Feeding.{heads_of, there_of, IsFeeding}
use Rattle.law_world.proofs.lemmas.streams.Told.{HasBulkThere, there_on, there_by, bulk_there, stream_kind, stream_in, way_control}

-- ---- by the walk's members

and_on : (b : Bool) → (b && true) ≡ b
and_on true = refl
and_on false = refl

pub head_of : (member : ℕ → Bool) (ends : ℕ → Told) (n : ℕ) → n ≢ 32 * head_block → (ends n).dtc ≡ false → heads_of member ends n ≡ member n
head_of member ends n differs own =
    ap (λ (b : Bool). if b then false else (member n && not (ends n).dtc)) (other_number n (32 * head_block) differs) ∙ ap (λ (b : Bool). member n && not b) own ∙ and_on (member n)

pub head_on : (member : ℕ → Bool) (ends : ℕ → Told) (n : ℕ) → heads_of member ends n ≡ true → (n ≢ 32 * head_block) × (member n ≡ true) × ((ends n).dtc ≡ false)
head_on member ends n on =
    ⊎_elim (λ (same : n ≡ 32 * head_block). absurd (false≢true (sym (ap (λ (b : Bool). if b then false else (member n && not (ends n).dtc)) (eq-eqb n (32 * head_block) same)) ∙ on)))
    (λ (differs : n ≢ 32 * head_block).
    let both = and_parts (member n) (not (ends n).dtc) (sym (ap (λ (b : Bool). if b then false else (member n && not (ends n).dtc)) (other_number n (32 * head_block) differs)) ∙ on) in
    (differs, both.0, not-true (ends n).dtc both.1)) (cases_eq n (32 * head_block))

-- ---- by the driver's endpoints

-- the queue head of an endpoint isn't the head of the ring
pub not_head : (d : DriverContent) (e : ℕ) (x : Endpoint) → HasOwners d → OnlyAsynchronous d → slice_get d.endpoints e ≡ Some x → x.gone ≡ false → 32 * x.queue ≢ 32 * head_block
not_head d e x owners only here kept same =
    never (sym (queue_placed d owners e x here (only.endpoints e x here) kept).owned ∙ ap owners.owner (same_blocks x.queue head_block same) ∙ owners.owned.each.head.owned)
  where
    never : QueueOf e ≡ Head → ⊥
    never is = cc

-- that of a control endpoint takes the toggle from each qTD
pub own_toggle : (d : DriverContent) (streams : ℕ → Bool) (ends : ℕ → Told) (e : ℕ) (x : Endpoint) → HaveStreams d streams ends → slice_get d.endpoints e ≡ Some x → IsMet d e x
    → (ends (32 * x.queue)).dtc ≡ is_control x.desc.kind
own_toggle d streams ends e x have here met = ap (λ (t : Told). t.dtc) (have.each e x here met).1

pub head_met : (d : DriverContent) (member streams : ℕ → Bool) (ends : ℕ → Told) (e : ℕ) (x : Endpoint) → HasOwners d → OnlyAsynchronous d → AreMet d member → HaveStreams d streams ends
    → slice_get d.endpoints e ≡ Some x → IsMet d e x → IsDataWay x.desc.name.way → heads_of member ends (32 * x.queue) ≡ true
head_met d member streams ends e x owners only met have here is one_way =
    head_of member ends (32 * x.queue) (not_head d e x owners only here is.there.kept)
    (own_toggle d streams ends e x have here is ∙ way_control x.desc (only.endpoints e x here).asynchronous one_way) ∙ met.each e x here is

pub head_is : (d : DriverContent) (member : ℕ → Bool) (ends : ℕ → Told) (n : ℕ) → AreMet d member → heads_of member ends n ≡ true → HasHead d n
head_is d member ends n met on =
    let all = head_on member ends n on in
    ⊎_elim (λ (head : n ≡ 32 * head_block). absurd (all.0 head)) (λ (h : HasHead d n). h) (met.only n all.1)

-- ---- in a world

module _ (fixed : Fixed) (member : ℕ → Bool) (x : Streams) (s : Standing) (w : World) (f : IsFeeding fixed member x s w) where
  described : (e : ℕ) (z : Endpoint) → slice_get w.driver.endpoints e ≡ Some z → IsAsynchronous z.desc
  described e z here = (f.turns.asynchronous.endpoints e z here).asynchronous

  pub queue_on : (e : ℕ) (z : Endpoint) → slice_get w.driver.endpoints e ≡ Some z → IsMet w.driver e z → IsDataWay z.desc.name.way → heads_of member x.endpoint (32 * z.queue) ≡ true
  queue_on e z here met = head_met w.driver member x.streams x.endpoint e z f.working.place.sound.owners f.turns.asynchronous f.queues.met f.queues.streams_are here met

  pub queue_reported : (e : ℕ) (z : Endpoint) → slice_get w.driver.endpoints e ≡ Some z → IsThere w.driver z → has_stream z.desc.kind ≡ true
      → IsReported (s.order (32 * z.queue)) (s.out (32 * z.queue)) s.hand s.parts (32 * z.queue) (s.acc (32 * z.queue)) (s.reported (32 * z.queue))
  queue_reported e z here there stream = f.counted (32 * z.queue) (there_on w.driver e z here there stream)

  -- links of each queue lead to later qTDs
  pub rising_there : (e : ℕ) (z : Endpoint) → slice_get w.driver.endpoints e ≡ Some z → IsThere w.driver z → LinksRise (s.order (32 * z.queue)) (s.parts (32 * z.queue))
  rising_there e z here there = f.controls.rises e z here there

  pub rising : LinksOfQueuesRise w.driver s.parts s.order
  rising e z here met = rising_there e z here met.there

  -- each queue head of a bulk endpoint that the walk may meet is that of one that is there, and so is each stream
  pub there_head : (n : ℕ) → (h : HasHead w.driver n) → has_stream h.endpoint.desc.kind ≡ true → there_of w.driver n ≡ true
  there_head n h stream = there_by w.driver n (record { has = record { number = h.number; endpoint = h.endpoint; here = h.here; there = h.met.there; at = h.at }; stream = stream })

  pub heads_are_there : (n : ℕ) → heads_of member x.endpoint n ≡ true → there_of w.driver n ≡ true
  heads_are_there n on =
      let h = head_is w.driver member x.endpoint n f.queues.met on in
      let off : is_control h.endpoint.desc.kind ≡ false =
      sym (own_toggle w.driver x.streams x.endpoint h.number h.endpoint f.queues.streams_are h.here h.met) ∙ ap (λ (i : ℕ). (x.endpoint i).dtc) (sym h.at) ∙ (head_on member x.endpoint n on).2 in
      there_head n h (stream_kind h.endpoint.desc (described h.number h.endpoint h.here) off)

  pub stream_on : (n : ℕ) → x.streams n ≡ true → there_of w.driver n ≡ true
  stream_on n on =
      let h = f.queues.streams_are.only n on in
      let comes : comes_in h.endpoint.desc.name.way ≡ true = sym (f.queues.streams_are.each h.number h.endpoint h.here h.met).0 ∙ ap x.streams (sym h.at) ∙ on in
      there_head n h (stream_in h.endpoint.desc (described h.number h.endpoint h.here) comes)

  -- none of these is the queue head of a control endpoint
  pub control_head : (e : ℕ) (z : Endpoint) → slice_get w.driver.endpoints e ≡ Some z → z.gone ≡ false → is_control z.desc.kind ≡ true → there_of w.driver (32 * z.queue) ≡ false
  control_head e z here kept control = false_from_ne_true (there_of w.driver (32 * z.queue)) never
    where
      never : there_of w.driver (32 * z.queue) ≡ true → ⊥
      never on =
          let b : HasBulkThere w.driver (32 * z.queue) = bulk_there w.driver (32 * z.queue) on in
          let owners = f.working.place.sound.owners in
          let same : e ≡ b.has.number =
          queues_same z.queue b.has.endpoint.queue e b.has.number (same_blocks z.queue b.has.endpoint.queue b.has.at)
          (queue_placed w.driver owners e z here (f.turns.asynchronous.endpoints e z here) kept)
          (queue_placed w.driver owners b.has.number b.has.endpoint b.has.here (f.turns.asynchronous.endpoints b.has.number b.has.endpoint b.has.here) b.has.there.kept) in
          let one : z ≡ b.has.endpoint = same_Some z b.has.endpoint (sym here ∙ ap (slice_get w.driver.endpoints) same ∙ b.has.here) in
          let off : is_control z.desc.kind ≡ false = no_control z.desc.kind (ap (λ (y : Endpoint). has_stream y.desc.kind) one ∙ b.stream) in
          false≢true (sym off ∙ control)

  pub control_streamless : (e : ℕ) (z : Endpoint) → slice_get w.driver.endpoints e ≡ Some z → z.gone ≡ false → is_control z.desc.kind ≡ true → x.streams (32 * z.queue) ≡ false
  control_streamless e z here kept control =
      false_from_ne_true (x.streams (32 * z.queue)) (λ on. false≢true (sym (control_head e z here kept control) ∙ stream_on (32 * z.queue) on))

  pub right_of : (order : ℕ → ℕ → ℕ) (out : ℕ → List ℕ) (hand : Hand) (parts : StructureSets) (acc : ℕ → List (List ℕ)) (reported : ℕ → List ℕ) → AreReported (there_of w.driver) order out hand parts acc reported
      → AreReported x.streams order out hand parts acc reported
  right_of order out hand parts acc reported counted n on = counted n (stream_on n on)
