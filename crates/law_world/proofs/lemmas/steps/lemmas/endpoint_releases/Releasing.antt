-- An endpoint's blocks are given back.
use Rattle.std.proofs.Common.{◌≡◌, ◌≢◌, ℕ, ◌==◌, ◌*◌, Bool, true, false, not, ◌&&◌, ◌||◌, if◌then◌else◌, List, map, set, slice_get, Option, Some, None, option_map, ap, refl, sym, subst, ◌∙◌, inl, inr}
use Rattle.std.specs.List.{AllByRecursion}
use Rattle.std.proofs.lemmas.Bool.{true≢false, eq-eqb}
use Rattle.std.proofs.lemmas.Option.{same_Some, slice_get-map}
use Rattle.law_common.proofs.Booleans.{or_true, held_is}
use Rattle.law_common.proofs.Lists.{set_here, set_there}
use Rattle.law_driver.proofs.Common.{ring_queue}
use Rattle.law_common.proofs.Numbers.{other_number}
use Rattle.word_mem.specs.Memory.{Mem}
use Rattle.word_mem.proofs.Holders.{has_block_from}
use Rattle.usb_base.specs.declared.packets.Reply.{Reply}
use Rattle.async_walk.specs.Rows.{WalkPlace, place}
use Rattle.mem_runs.specs.Book.{Holding, holding, slot_of, Stands}
use Rattle.mem_runs.specs.declared.slots.Slot.{Slot}
use Rattle.drv_table.specs.declared.content.Endpoint.{Endpoint}
use Rattle.drv_table.specs.declared.content.Transfer.{Transfer}
use Rattle.drv_table.specs.declared.content.QtdNote.{QtdNote}
use Rattle.drv_table.specs.Parts.{Parts as DriverParts}
use Rattle.drv_table.specs.Releases.{free_runs, free_endpoint, is_told, let_go, after_endpoint}
use Rattle.drv_table.specs.Kinds.{is_iso}
use Rattle.drv_table.specs.Rows.{after_driver_row}
use Rattle.claims_driver.specs.Owners.{SlotHas, EndpointRuns, TransferRuns, runs_of_endpoint, runs_of_transfer, endpoint_in, transfer_in, note_in, Views, views_of, IsQueueIn}
use Rattle.claims_driver.specs.Leaving.{HasOwners}
use Rattle.law_driver.proofs.lemmas.run_owners.Apart.{runs_apart}
use Rattle.law_driver.proofs.lemmas.run_owners.Released.{cancel_same}
use Rattle.law_driver.proofs.lemmas.run_owners.Freeing.{runs_freed}
use Rattle.law_driver.proofs.lemmas.run_owners.Leaves.{first_left}
use Rattle.law_structures.specs.lent_structures.Structures.{StructureSets, Tells}
use Rattle.law_ring.proofs.Returning.{fewer_are_told}
use Rattle.law_structures.specs.lent_structures.Sound.{IsMember}
use Rattle.law_ring.specs.Hand.{Copy, Hand, Empty, Copied, Settled, Stale}
use Rattle.claims_base.specs.Controller.{Base}
use Rattle.law_ring.specs.Ring.{IsCopied, IsInHand, IsRing}
use Rattle.law_driver_ring.specs.Inventory.{sorts_of, IsLent, IsDriven}
use Rattle.law_driver_ring.specs.Driven.{DrivesRing}
use Rattle.law_driver_ring.specs.Extents.{AreInRuns}
use Rattle.law_driver_ring.proofs.Blocks.{all_one}
use Rattle.law_driver_ring.proofs.Freeing.{IsLess, runs_less, HaveNone, all_told}
use Rattle.law_world.specs.steps.endpoint_releases.Released.{endpoint_blocks, without_queue, IsToLeave, endpoint_row, EndpointReleaseDrives, DueIsToLeave, QueuesDiffer}
use Rattle.law_world.proofs.lemmas.steps.lemmas.endpoint_releases.Blocks.{held_at, goes_with, transfers_go, none_goes, endpoint_is_runs}
use Rattle.law_world.proofs.lemmas.steps.lemmas.endpoint_releases.Owning.{EndpointGoes, queue_beside, queues_differ as views_differ, driven_without, extents_without}
use Rattle.law_world.proofs.lemmas.steps.lemmas.endpoint_releases.Homes.{home}

-- ---- the ring without a queue head that the walk doesn't meet

copy_beside : (member : ℕ → Bool) (parts : StructureSets) (n : ℕ) (c : Copy) → member n ≡ false → IsCopied member parts c → IsCopied member (without_queue parts n) c
copy_beside member parts n c off k = record {
  on = k.on;
  here = ap (λ part. part c.at) (queue_beside parts n c.at (λ same. true≢false (sym k.on ∙ ap member same ∙ off))) ∙ k.here;
  link = k.link;
  range = k.range;
}

hand_beside : (member : ℕ → Bool) (parts : StructureSets) (n : ℕ) (reply : Reply) (hand : Hand) → member n ≡ false → IsInHand member parts reply hand → IsInHand member (without_queue parts n) reply hand
hand_beside member parts n reply Empty off k = tt
hand_beside member parts n reply (Copied c) off k = copy_beside member parts n c off k
hand_beside member parts n reply (Settled c s) off k = (copy_beside member parts n c off k.0, k.1)
hand_beside member parts n reply (Stale m q) off k = k

ring_beside : (base : Base) (member : ℕ → Bool) (parts : StructureSets) (hand : Hand) (p : WalkPlace) (n : ℕ) (after : Mem) → IsRing base member parts hand p → member n ≡ false → Tells after (without_queue parts n) → IsRing base member (without_queue parts n) hand (record p { memory = after })
ring_beside base member parts hand p n after ring off told = record {
  tells = told;
  members = λ k on. subst (IsMember member k) (sym (queue_beside parts n k (λ same. true≢false (sym on ∙ ap member same ∙ off)))) (ring.members k on);
  registers = ring.registers;
  start = ring.start;
  cursor = record { to = ring.cursor.to; leads = ring.cursor.leads; on = ring.cursor.on };
  held = ring.held;
  in_hand = hand_beside member parts n p.walk.reply hand off ring.in_hand;
}

-- ---- what the driver has afterwards

-- a transfer that is still held is another endpoint's
one_back : (e : ℕ) (told b : Bool) (y : Transfer) (z : TransferRuns) → (y.endpoint == e) ≡ b → runs_of_transfer (if b then record y { reported = y.reported || told; released = true } else y) ≡ z → z.released ≡ false → (z.endpoint ≢ e) × (runs_of_transfer y ≡ z)
one_back e told true y z test is off = absurd (true≢false (ap (λ (r : TransferRuns). r.released) is ∙ off))
one_back e told false y z test is off =
    (λ same. true≢false (sym (eq-eqb y.endpoint e (ap (λ (r : TransferRuns). r.endpoint) is ∙ same)) ∙ test), is)

some_back : (e : ℕ) (told : Bool) (o : Option Transfer) (z : TransferRuns) → option_map runs_of_transfer (option_map (let_go e told) o) ≡ Some z → z.released ≡ false → (z.endpoint ≢ e) × (option_map runs_of_transfer o ≡ Some z)
some_back e told None z there off = absurd (cc)
some_back e told (Some y) z there off =
    let b = one_back e told (y.endpoint == e) y z refl (same_Some (runs_of_transfer (let_go e told y)) z there) off in
    (b.0, ap Some b.1)

-- and another endpoint's is as it was
some_on : (e : ℕ) (told : Bool) (o : Option Transfer) (z : TransferRuns) → option_map runs_of_transfer o ≡ Some z → z.endpoint ≢ e → (held_at e o ≡ false) × (option_map runs_of_transfer (option_map (let_go e told) o) ≡ Some z)
some_on e told None z there differs = absurd (cc)
some_on e told (Some y) z there differs =
    let is : runs_of_transfer y ≡ z = same_Some (runs_of_transfer y) z there in
    let test : (y.endpoint == e) ≡ false = other_number y.endpoint e (λ same. differs (ap (λ (r : TransferRuns). r.endpoint) (sym is) ∙ same)) in (
      ap (λ (b : Bool). b && not y.released) test,
      ap (λ (b : Bool). Some (runs_of_transfer (if b then record y { reported = y.reported || told; released = true } else y))) test ∙ there,
    )

lent_before : (now s : Slot) → IsLess now s → IsLent now → IsLent s
lent_before now s (inl same) lent = subst IsLent same lent
lent_before now s (inr empty) lent = absurd (subst IsLent empty lent)

module _ (p : DriverParts) (e : ℕ) (x : Endpoint) (leave : IsToLeave p.driver e x) (owners : HasOwners p.driver) where
  abbrev before : Holding
  before = holding p.driver.book p.memory

  abbrev blocks : List ℕ
  blocks = endpoint_blocks p.driver e x

  abbrev held : ℕ → Bool
  held t = held_at e (slice_get p.driver.transfers t)

  abbrev freed : Holding
  freed = free_endpoint p.driver e x before

  abbrev gone : Endpoint
  gone = record x { gone = true }

  abbrev views_now : Views
  views_now = views_of (after_endpoint p e (Some x)).driver

  after_is : after_driver_row (endpoint_row e) p ≡ after_endpoint p e (Some x)
  after_is = ap (after_endpoint p e) leave.here

  freed_is : freed ≡ free_runs before blocks
  freed_is = endpoint_is_runs p.driver e x before

  -- the endpoint, and all of its blocks
  queue_is : IsQueueIn (views_of p.driver) e (runs_of_endpoint x)
  queue_is = record { here = ap (option_map runs_of_endpoint) leave.here; queued = ap (λ (b : Bool). b || x.gone) leave.queued ∙ leave.held }

  they_go : AllByRecursion (λ c. goes_with e held (owners.owner c) ≡ true) blocks
  they_go = (
    ap (goes_with e held) (owners.owned.each.queue e (runs_of_endpoint x) queue_is.here queue_is.queued).owned ∙ eq-eqb e e refl,
    (
      ap (goes_with e held) (owners.owned.each.dummy e (runs_of_endpoint x) queue_is.here queue_is.queued).owned ∙ eq-eqb e e refl,
      transfers_go (slot_of p.driver.book.slots) owners.owner (note_in p.driver.notes) e held p.driver.transfers
          (λ t y there on.
          (t, ap (held_at e) there ∙ on, owners.owned.each.pieces t (runs_of_transfer y) (ap (option_map runs_of_transfer) there) (held_is (y.endpoint == e) y.released on))),
    ),
  )

  -- endpoints and transfers afterwards
  endpoints_are : (u : ℕ) → views_now.endpoint u ≡ endpoint_in (set p.driver.endpoints e gone) u
  endpoints_are u = ap (λ (xs : List Endpoint). endpoint_in (set xs e gone) u) (cancel_same p.driver p.memory e x).endpoints

  transfers_are : (t : ℕ) → views_now.transfer t ≡ option_map runs_of_transfer (option_map (let_go e (is_told x)) (slice_get p.driver.transfers t))
  transfers_are t =
      ap (λ (ts : List Transfer). transfer_in (map (let_go e (is_told x)) ts) t) (cancel_same p.driver p.memory e x).transfers
      ∙ ap (option_map runs_of_transfer) (slice_get-map (let_go e (is_told x)) p.driver.transfers t)

  other_endpoint : (u : ℕ) → u ≢ e → views_now.endpoint u ≡ endpoint_in p.driver.endpoints u
  other_endpoint u differs = endpoints_are u ∙ ap (option_map runs_of_endpoint) (set_there p.driver.endpoints e u gone differs)

  none_queued : (u : ℕ) (z : EndpointRuns) → IsQueueIn views_now u z → u ≢ e
  none_queued u z is same =
      let there : endpoint_in (set p.driver.endpoints e gone) e ≡ Some z = ap (endpoint_in (set p.driver.endpoints e gone)) (sym same) ∙ sym (endpoints_are u) ∙ is.here in
      let one : runs_of_endpoint gone ≡ z = same_Some (runs_of_endpoint gone) z (sym (ap (option_map runs_of_endpoint) (set_here p.driver.endpoints e x gone leave.here)) ∙ there) in
      true≢false (sym (or_true (is_iso x.desc.kind)) ∙ ap (λ (r : EndpointRuns). r.bare) one ∙ is.queued)

  goes : EndpointGoes (views_of p.driver) views_now owners.owner e (runs_of_endpoint x) held
  goes = record {
    owned = owners.owned.each;
    here = queue_is;
    slots = λ c lent.
        lent_before (slot_of (free_runs before blocks).book.slots c) (slot_of p.driver.book.slots c) (runs_less before blocks c) (subst (λ (g : Holding). IsLent (slot_of g.book.slots c)) freed_is lent);
    kept = λ c off. ap (λ (g : Holding). slot_of g.book.slots c) freed_is ∙ runs_freed before blocks c (none_goes owners.owner e held c blocks off they_go);
    notes = λ b. ap (λ (ns : List QtdNote). note_in ns b) (cancel_same p.driver p.memory e x).notes;
    back = λ u z is. let differs = none_queued u z is in (differs, record { here = sym (other_endpoint u differs) ∙ is.here; queued = is.queued });
    on = λ u z differs is. record { here = other_endpoint u differs ∙ is.here; queued = is.queued };
    transfer_back = λ t z there off. some_back e (is_told x) (slice_get p.driver.transfers t) z (sym (transfers_are t) ∙ there) off;
    transfer_on = λ t z there differs.
        let o = some_on e (is_told x) (slice_get p.driver.transfers t) z there differs in
        (o.0, transfers_are t ∙ o.1);
  }

  none_there : (parts : StructureSets) → Stands before → AreInRuns (views_of p.driver) parts → IsDriven (views_of p.driver) (sorts_of parts) → HaveNone before (without_queue parts (32 * x.queue)) blocks
  none_there parts stands lies driven c r among is n a u k found has inside =
      let h = home before (views_of p.driver) views_now owners.owner parts e (runs_of_endpoint x) held (λ i. refl) stands lies goes n a u k driven found has in
      let here : goes_with e held (owners.owner c) ≡ true = all_one (λ i. goes_with e held (owners.owner i) ≡ true) blocks c they_go among in
      runs_apart before h.at c k stands (λ same. true≢false (sym here ∙ ap (λ (i : ℕ). goes_with e held (owners.owner i)) same ∙ h.other)) h.has
      (subst (λ (s : Slot). SlotHas s k) (sym is) (has_block_from r k inside.from inside.below))

pub endpoint_release_drives : EndpointReleaseDrives
endpoint_release_drives base member parts hand w p e x drives owners stands lies leave off =
    let n = 32 * x.queue in
    let now = without_queue parts n in
    let view = goes p e x leave owners in
    let all = all_told (holding p.driver.book p.memory) now (endpoint_blocks p.driver e x) (none_there p e x leave owners parts stands lies drives.driven)
    (record { stands = stands; told = fewer_are_told p.memory parts n (λ a. true) drives.ring.tells }) in
    subst (λ (q : DriverParts). DrivesRing base member now hand (place w q.registers q.memory) q.driver × AreInRuns (views_of q.driver) now) (sym (after_is p e x leave owners)) (
      record {
        ring = ring_beside base member parts hand (place w p.registers p.memory) n (freed p e x leave owners).memory drives.ring off
            (subst (λ (g : Holding). Tells g.memory now) (sym (freed_is p e x leave owners)) all.told);
        driven = driven_without (views_of p.driver) (views_now p e x leave owners) owners.owner e (runs_of_endpoint x) (held p e x leave owners) view parts drives.driven;
      },
      extents_without (views_of p.driver) (views_now p e x leave owners) owners.owner e (runs_of_endpoint x) (held p e x leave owners) view parts lies,
    )

-- ---- which endpoint is due

pub due_is_to_leave : DueIsToLeave
due_is_to_leave p e owners due =
    let l = first_left e due.first owners.orderly in
    record {
      endpoint = l.endpoint;
      leaves = record { here = l.here; queued = ring_queue l.endpoint.desc.kind l.ring; held = l.gone; first = due.first; none_before = due.none_before };
      unlinked = l.linked;
    }

pub queues_differ : QueuesDiffer
queues_differ d e u x z owners is other differs = views_differ (views_of d) owners.owner e u x z owners.owned.each is other differs
