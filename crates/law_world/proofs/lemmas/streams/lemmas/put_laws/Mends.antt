-- The stores that a stalled control endpoint is owed leave what is told of OUT endpoints.
use Rattle.std.proofs.Common.{◌≡◌, ◌≢◌, ℕ, zero, suc, ◌+◌, ◌*◌, ◌/◌, false, List, slice_get, Some, ap, sym, subst, ◌∙◌, arith}
use Rattle.std.proofs.lemmas.Bool.{false≢true}
use Rattle.std.proofs.lemmas.Option.{same_Some}
use Rattle.law_world.proofs.Common2.{same_mend}
use Rattle.law_driver.proofs.Common.{out_way}
use Rattle.usb_base.specs.declared.packets.EpKind.{EpKind}
use Rattle.usb_base.specs.declared.packets.Way.{Way}
use Rattle.drv_table.specs.declared.content.Endpoint.{Endpoint}
use Rattle.drv_table.specs.declared.content.Mend.{Mend}
use Rattle.drv_table.specs.DriverContent.{DriverContent}
use Rattle.drv_table.specs.Parts.{Parts as DriverParts}
use Rattle.drv_table.specs.Words.{is_control}
use Rattle.claims_driver.specs.Leaving.{HasOwners}
use Rattle.claims_driver.specs.Scripts.{receives}
use Rattle.law_driver.specs.AsynchronousScripts.{IsKindOf}
use Rattle.law_driver.specs.chained_transfers.AsynchronousTurns.{AsynchronousTakesTurns}
use Rattle.law_structures.specs.lent_structures.Structures.{QueueHead, Structures, StructureSets}
use Rattle.law_structures.proofs.lemmas.lent_structures.Names.{put_beside}
use Rattle.law_ring.specs.Hand.{Hand}
use Rattle.law_driver_ring.specs.fed_queues.Places.{IsMet}
use Rattle.law_queues.specs.whole_sends.Whole.{AreSentWhole}
use Rattle.law_queues.specs.whole_sends.Laws.{IsStopped}
use Rattle.law_queues.proofs.lemmas.whole_sends.Keeping.{stale_ends_whole}
use Rattle.law_queues.proofs.lemmas.whole_sends.Walking.{with_hand}
use Rattle.law_queues.specs.mended_heads.Owed.{StalledQueue, store_by, IsOwed}
use Rattle.law_queues.specs.mended_heads.Mended.{mended, driver_mended, head_at, IsAtMend, next_of, parts_then, hand_then}
use Rattle.law_queues.proofs.lemmas.mended_heads.Row.{mend_row}
use Rattle.law_world.specs.streams.put_laws.Mends.{MendIsInHead, MendSends, MendStops}
use Rattle.law_world.proofs.lemmas.streams.lemmas.put_laws.Beside.{queue_owned, same_number}

-- ---- where it is stored

store_within : (q b made : ℕ) → (store_by q b made).at / 32 ≡ q
store_within q b zero = let e : (32 * q + 16) / 32 ≡ q = omega arith in e
store_within q b (suc zero) = let e : (32 * q + 20) / 32 ≡ q = omega arith in e
store_within q b (suc (suc n)) = let e : (32 * q + 24) / 32 ≡ q = omega arith in e

pub mend_is_in_head : MendIsInHead
mend_is_in_head p parts out k w row =
    let s : StalledQueue = k.stalled in
    let stands = k.are.wait.0.stands in
    record { block = s.queue; head = stands.head; here = stands.here; within = ap (λ (z : Mend). z.at / 32) (same_mend w (store_by s.queue s.onward s.made) (sym row ∙ k.row)) ∙ store_within s.queue s.onward s.made }

-- ---- OUT endpoints have queue heads of their own

no_control : (way : Way) (kind : EpKind) → IsKindOf way kind → receives way ≡ false → is_control kind ≡ false
no_control way kind is sends = ap is_control (subst (λ (w : Way). IsKindOf w kind) (out_way way sends) is)

module _ (p : DriverParts) (parts : StructureSets) (out : ℕ → List ℕ) (owners : HasOwners p.driver) (turns : AsynchronousTakesTurns p.driver) (k : IsAtMend p parts out) where
  abbrev d : DriverContent
  d = p.driver

  driver_is : (next_of p).driver ≡ driver_mended d
  driver_is = (mend_row p parts out k).driver

  was_there : (e : ℕ) (z : Endpoint) → slice_get (next_of p).driver.endpoints e ≡ Some z → slice_get d.endpoints e ≡ Some z
  was_there e z here = ap (λ (f : DriverContent). slice_get f.endpoints e) (sym driver_is) ∙ here

  apart : (e : ℕ) (z : Endpoint) → slice_get d.endpoints e ≡ Some z → z.gone ≡ false → receives z.desc.name.way ≡ false → 32 * z.queue ≢ 32 * k.stalled.queue
  apart e z here kept sends same =
      let o : IsOwed d k.stalled = k.are.owed.0 in
      let block : z.queue ≡ k.stalled.queue = omega (arith, same) in
      let number : e ≡ o.number =
      same_number e o.number (sym (queue_owned d e z owners turns here kept) ∙ ap owners.owner (block ∙ sym o.queue) ∙ queue_owned d o.number o.endpoint owners turns o.here o.kept) in
      let is : z ≡ o.endpoint = same_Some z o.endpoint (sym here ∙ ap (slice_get d.endpoints) number ∙ o.here) in
      false≢true (sym (no_control z.desc.name.way z.desc.kind (turns.asynchronous.endpoints e z here).asynchronous.kind sends) ∙ ap (λ (r : Endpoint). is_control r.desc.kind) is ∙ o.control)

  part_stays : (n : ℕ) → n ≢ 32 * k.stalled.queue → parts_then k n ≡ parts n
  part_stays n differs = put_beside parts (32 * k.stalled.queue) (32 * k.stalled.queue) (QueueHead (mended k.stalled (head_at k))) n differs

  pub sends_still : (hand : Hand) (order : ℕ → ℕ → ℕ) (e : ℕ) (z : Endpoint) → slice_get (next_of p).driver.endpoints e ≡ Some z → IsMet (next_of p).driver e z → receives z.desc.name.way ≡ false
      → (IsMet d e z → AreSentWhole (order (32 * z.queue)) (out (32 * z.queue)) hand (32 * z.queue) (parts (32 * z.queue)))
      → AreSentWhole (order (32 * z.queue)) (out (32 * z.queue)) (hand_then k hand) (32 * z.queue) (parts_then k (32 * z.queue))
  sends_still hand order e z here met sends sent =
      let n = 32 * z.queue in
      let is : IsMet (driver_mended d) e z = subst (λ (f : DriverContent). IsMet f e z) driver_is met in
      let before : IsMet d e z = record { there = record { linked = is.there.linked; kept = is.there.kept }; near = is.near } in
      let whole : AreSentWhole (order n) (out n) hand n (parts n) = sent before in
      subst (λ (part : Structures). AreSentWhole (order n) (out n) (hand_then k hand) n part) (sym (part_stays n (apart e z (was_there e z here) before.there.kept sends)))
      (with_hand (order n) (out n) hand (hand_then k hand) n (parts n) (stale_ends_whole (32 * k.stalled.queue) hand n whole.ends) whole)

  pub stopped_still : (e : ℕ) (z : Endpoint) → slice_get (next_of p).driver.endpoints e ≡ Some z → z.gone ≡ false → receives z.desc.name.way ≡ false → IsStopped parts (32 * z.queue) → IsStopped (parts_then k) (32 * z.queue)
  stopped_still e z here kept sends stopped =
      let n = 32 * z.queue in
      (stopped.0, ap (λ (part : Structures). part n) (part_stays n (apart e z (was_there e z here) kept sends)) ∙ stopped.1, stopped.2, stopped.3)

pub mend_sends : MendSends
mend_sends p parts hand order out owners turns k sent e z here met sends =
    sends_still p parts out owners turns k hand order e z here met sends (λ before. sent e z (was_there p parts out owners turns k e z here) before sends)

pub mend_stops : MendStops
mend_stops p parts out owners turns k ended e z cause here kept sends over =
    stopped_still p parts out owners turns k e z here kept sends (ended e z cause (was_there p parts out owners turns k e z here) kept sends over)
