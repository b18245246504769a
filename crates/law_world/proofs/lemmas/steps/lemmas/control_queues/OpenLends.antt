-- The lend of an accepted open leaves what stands of control queues, and each front.
use Rattle.std.proofs.Common.{◌≡◌, ◌≢◌, ℕ, ◌*◌, Bool, List, Some, None, ap, refl, sym, subst, ◌∙◌}
use Rattle.law_ring.proofs.Common.{none_some}
use Rattle.law_common.proofs.Numbers.{same_blocks}
use Rattle.law_world.proofs.Common2.{reach_beside}
use Rattle.word_mem.specs.Memory.{Mem}
use Rattle.drv_table.specs.declared.content.Command.TheVariants as unfinished
use Rattle.drv_table.specs.declared.content.Endpoint.{Endpoint}
use Rattle.drv_table.specs.DriverContent.{DriverContent}
use Rattle.claims_driver.specs.Leaving.{HasOwners}
use Rattle.claims_driver.specs.Owners.{views_of}
use Rattle.law_structures.specs.lent_structures.Structures.{QueueHead, Structures, StructureSets}
use Rattle.law_ring.specs.Front.{LinksRise}
use Rattle.law_ring.specs.Halted.{HaltStops}
use Rattle.law_ring.specs.Told.{Endpoint as Told}
use Rattle.law_driver_ring.specs.Inventory.{sorts_of, IsDriven}
use Rattle.law_driver.specs.chained_transfers.AsynchronousTurns.{AsynchronousTakesTurns}
use Rattle.law_driver_ring.specs.fed_queues.Places.{IsThere, IsMet}
use Rattle.law_queues.specs.mended_heads.Owed.{StalledQueue, IsOwed}
use Rattle.law_queues.specs.mended_heads.Waiting.{Waits}
use Rattle.law_queues.proofs.lemmas.mended_heads.Content.{any_one, alike_same}
use Rattle.law_queues.specs.publish_laws.Stores.{QueuesThen}
use Rattle.law_queues.specs.released_queues.Fronts.{StandsAt, FrontsStand}
use Rattle.law_queues.specs.standing_fronts.Along.{LinksOfQueuesRise}
use Rattle.law_queues.specs.standing_fronts.Reaching.{Reaches}
use Rattle.law_queues.specs.standing_fronts.Tails.{tail_of, TailsStand}
use Rattle.law_queues.specs.lent_fronts.Stands.{AreSorted}
use Rattle.law_queues.specs.open_laws.Lends.{parts_lent}
use Rattle.law_queues.specs.open_laws.Queues.{IsOpenToLend, parts_opened, open_lent}
use Rattle.law_queues.proofs.lemmas.open_laws.Lending.{to_lend, driver_is}
use Rattle.law_queues.proofs.lemmas.open_laws.LentQueues as lending
use Rattle.law_world.specs.steps.control_queues.Controls.{ControlsStand}
use Rattle.law_world.specs.steps.control_queues.Queues.{OpenLendIsWhole}
use Rattle.law_world.specs.steps.control_queues.Rows.{OpenLendKeepsControls}
use Rattle.law_world.proofs.lemmas.steps.lemmas.control_queues.Alike.{same_there, stand_by, mends_by}
use Rattle.law_world.proofs.lemmas.steps.lemmas.control_queues.NewFronts.{stands_beside}

module _ (d : DriverContent) (m : Mem) (member streams : ℕ → Bool) (ends : ℕ → Told) (parts : StructureSets) (order : ℕ → ℕ → ℕ) (out : ℕ → List ℕ) (owners : HasOwners d) (turns : AsynchronousTakesTurns d) (driven : IsDriven (views_of d) (sorts_of parts)) (stand : QueuesThen d member streams ends parts order out) (k : IsOpenToLend d m) where
  abbrev x : Endpoint
  x = k.endpoint

  abbrev n : ℕ
  n = 32 * k.endpoint.queue

  abbrev now : StructureSets
  now = parts_opened k parts

  abbrev f : DriverContent
  f = open_lent d m

  stays : (i : ℕ) → i ≢ n → now i ≡ parts i
  stays i differs = lending.stay d m member streams ends parts order out owners turns driven stand k i differs

  -- nothing was told of the new queue before
  none : (a : ℕ) → parts n a ≡ None
  none a = lending.none_told d m member streams ends parts order out owners turns driven stand k a

  apart : (y : Endpoint) → IsThere d y → 32 * y.queue ≢ n
  apart y there same = there.linked (k.command ∙ ap (λ (q : ℕ). Some (unfinished.Open q)) (sym (same_blocks y.queue x.queue same)))

  was_met : (e : ℕ) (y : Endpoint) → IsMet f e y → IsMet d e y
  was_met e y met = record { there = record { linked = met.there.linked; kept = met.there.kept }; near = met.near }

  waits_beside : (s : StalledQueue) → IsOwed d s → Waits s parts out → Waits s now out
  waits_beside s owed wait =
      let i = 32 * s.queue in
      let differs : i ≢ n = λ same. none_some (parts n n) (QueueHead wait.stands.head) (none n) (subst (λ (j : ℕ). parts j j ≡ Some (QueueHead wait.stands.head)) same wait.stands.here) in
      let is : now i ≡ parts i = stays i differs in
      record {
        stands = record {
          head = wait.stands.head;
          here = ap (λ (part : Structures). part i) is ∙ wait.stands.here;
          halted = wait.stands.halted;
          next = wait.stands.next;
          alternate = wait.stands.alternate;
        };
        published = λ a t among there. wait.published a t among (sym (ap (λ (part : Structures). part a) is) ∙ there);
      }

  pub lent_stands : ControlsStand d parts order out → ControlsStand f now order out
  lent_stands c =
      stand_by d f parts now order order out out (same_there d f refl (λ q is. is) refl refl)
      (λ i y here there r. subst (LinksRise (order (32 * y.queue))) (sym (stays (32 * y.queue) (apart y there))) r) (λ i y here there s. s)
      (λ i y here met s. subst (HaltStops (order (32 * y.queue)) (out (32 * y.queue)) (32 * y.queue)) (sym (stays (32 * y.queue) (apart y met.there))) s)
      (mends_by d f parts now order order out out (alike_same any_one d f refl refl refl) waits_beside c.mends) c

  pub lent_fronts : FrontsStand d parts order out → FrontsStand f now order out
  lent_fronts fronts e y here met =
      let q = 32 * y.queue in
      let was = was_met e y met in
      subst (λ (part : Structures). StandsAt f part (order q) (out q) e y) (sym (stays q (apart y was.there))) (stands_beside d f.book d.command 1 (parts q) (order q) (out q) e y (fronts e y here was))

  pub lent_reaches : (e : ℕ) (y : Endpoint) (c : ℕ) → 32 * y.queue ≢ n → Reaches d (parts (32 * y.queue)) (order (32 * y.queue)) (out (32 * y.queue)) e y c → Reaches f (now (32 * y.queue)) (order (32 * y.queue)) (out (32 * y.queue)) e y c
  lent_reaches e y c differs r =
      let q = 32 * y.queue in
      subst (λ (part : Structures). Reaches f part (order q) (out q) e y c) (sym (stays q differs)) (reach_beside d f.book d.command 1 (parts q) (order q) (out q) e y c r)

  pub lent_sorted : AreSorted d order out → AreSorted f order out
  lent_sorted sorted e y here met = sorted e y here (was_met e y met)

  pub lent_rising : LinksOfQueuesRise d parts order → LinksOfQueuesRise f now order
  lent_rising rising e y here met =
      let was = was_met e y met in
      subst (LinksRise (order (32 * y.queue))) (sym (stays (32 * y.queue) (apart y was.there))) (rising e y here was)

  pub lent_tails : TailsStand d parts order out → TailsStand f now order out
  lent_tails tails e y here met = let was = was_met e y met in lent_reaches e y (tail_of d e y) (apart y was.there) (tails e y here was)

pub open_lend_is_whole : OpenLendIsWhole
open_lend_is_whole d m member streams ends parts order out owners turns driven q k =
    let stand : QueuesThen d member streams ends parts order out = record { met = q.met; streams_are = q.streams_are; fed = q.fed; last = q.last; out_are = q.out_are } in
    let s = lending.open_lend_stands d m member streams ends parts order out owners turns driven stand k in
    record {
      queues = record { met = s.0.met; streams_are = s.0.streams_are; fed = s.0.fed; last = s.0.last; out_are = s.0.out_are };
      there = s.1;
      fronts = lent_fronts d m member streams ends parts order out owners turns driven stand k;
      sorted = lent_sorted d m member streams ends parts order out owners turns driven stand k;
      controls = lent_stands d m member streams ends parts order out owners turns driven stand k;
      rising = lent_rising d m member streams ends parts order out owners turns driven stand k;
      tails = lent_tails d m member streams ends parts order out owners turns driven stand k;
      reaches = λ e y c differs r. lent_reaches d m member streams ends parts order out owners turns driven stand k e y c differs r;
    }

-- where the ring is to lead to it
pub open_lend_keeps_controls : OpenLendKeepsControls
open_lend_keeps_controls base w hand p member streams ends parts order out k drives c =
    subst (λ (g : DriverContent). ControlsStand g (parts_lent parts k.ready) order out) (sym (driver_is base w hand p member streams ends parts order out k drives))
    (lent_stands p.driver p.memory member streams ends parts order out k.sound.owners k.turns drives.driven k.stand (to_lend k.ready) c)
