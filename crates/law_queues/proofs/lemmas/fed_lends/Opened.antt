-- An accepted open leaves what is fed: its endpoint has no transfer yet, and its queue head isn't met yet.
use Rattle.std.proofs.Common.{◌≡◌, ◌≢◌, ℕ, ◌*◌, ◌<◌, Bool, false, ◌||◌, List, [], ◌∷◌, ◌++◌, length, drop, get_or, slice_get, Option, Some, None, option_map, ap, sym, subst, ◌∙◌, ⊎_elim, inl, inr, refl, arith}
use Rattle.law_common.proofs.Lists.{push_there, drop_first, push_which}
use Rattle.law_queues.proofs.Common.{none_unpublished}
use Rattle.usb_base.specs.declared.endpoints.EpDesc.{EpDesc}
use Rattle.mem_runs.specs.Book.{Holding, holding, slot_of}
use Rattle.mem_runs.specs.declared.slots.Slot.{Slot}
use Rattle.drv_table.specs.declared.content.Endpoint.{Endpoint}
use Rattle.drv_table.specs.declared.content.Transfer.{Transfer}
use Rattle.drv_table.specs.declared.content.Command.{Command}
use Rattle.drv_table.specs.declared.content.Command.TheVariants as unfinished
use Rattle.drv_table.specs.DriverContent.{DriverContent}
use Rattle.drv_table.specs.Kinds.{is_iso}
use Rattle.drv_table.specs.Words.{head_block}
use Rattle.drv_table.specs.Accepting.{Offered, new_runs}
use Rattle.drv_table.specs.Offers.{new_endpoint, accepted_open}
use Rattle.claims_driver.specs.Owners.{QueueHead, Dummy, runs_of_endpoint, note_in}
use Rattle.law_driver.proofs.lemmas.run_owners.Runs.{placed_run}
use Rattle.law_driver.proofs.lemmas.run_owners.Taking.{runs_taken}
use Rattle.law_driver.proofs.lemmas.run_owners.Accepted.{fresh_differs}
use Rattle.law_driver_ring.proofs.Taken.{new_not_lent}
use Rattle.law_structures.specs.lent_structures.Structures.{StructureSets}
use Rattle.law_driver_ring.specs.Inventory.{IsLent}
use Rattle.law_ring.specs.Told.{Endpoint as Told}
use Rattle.law_driver.specs.chained_transfers.Out.{unpublished}
use Rattle.law_driver_ring.specs.fed_queues.Places.{IsMet, HasHead, IsThere}
use Rattle.law_queues.specs.fed_lends.Commands.{QueuesStand, OpenStands}
use Rattle.law_queues.proofs.lemmas.fed_lends.Fed.{bare_is}
use Rattle.law_queues.proofs.lemmas.fed_lends.Asked.{out_idle}

-- what an open leaves of the endpoints before it
record IsTakenIn (d : DriverContent) (slot : ℕ → Slot) (queue dummy : ℕ) : Type 0 where
  idle : d.command ≡ None
  within : (t : ℕ) (y : Transfer) → slice_get d.transfers t ≡ Some y → y.endpoint < length d.endpoints
  slots : (i : ℕ) (z : Endpoint) → slice_get d.endpoints i ≡ Some z → z.gone ≡ false → slot z.dummy ≡ slot_of d.book.slots z.dummy
  apart : (i : ℕ) (z : Endpoint) → slice_get d.endpoints i ≡ Some z → z.gone ≡ false → queue ≢ z.queue
  kept : IsLent (slot dummy) → ⊥

queue_in : Option Command → ℕ
queue_in (Some (unfinished.Open queue)) = queue
queue_in _ = 0

opened : (d : DriverContent) (desc : EpDesc) (g : Holding) (q dummy : ℕ) (member streams : ℕ → Bool) (ends : ℕ → Told) (parts : StructureSets) (order : ℕ → ℕ → ℕ) (out : ℕ → List ℕ)
    → IsTakenIn d (slot_of g.book.slots) q dummy → QueuesStand d member streams ends parts order out → QueuesStand (accepted_open d desc g q dummy).driver member streams ends parts order out
unfolding queue_in
opened d desc g q dummy member streams ends parts order out k old = record {
  met = record {
    head = old.met.head;
    each = λ i z here met. old.met.each i z (older i z here met.there.linked) (idle_met i z met);
    only = λ n on. ⊎_elim (λ (head : n ≡ 32 * head_block). inl head) (λ (one : HasHead d n). inr (headed n one)) (old.met.only n on);
  };
  streams_are = record {
    each = λ i z here met. old.streams_are.each i z (older i z here met.there.linked) (idle_met i z met);
    only = λ n on. headed n (old.streams_are.only n on);
  };
  fed = record {
    dummies = λ i z here alive lent.
        ⊎_elim (λ (was : slice_get d.endpoints i ≡ Some z). old.fed.dummies i z was alive (subst (λ (s : Slot). IsLent s) (k.slots i z was alive) lent))
        (λ (new : (i ≡ length d.endpoints) × (z ≡ new_endpoint desc q dummy)). absurd (k.kept (subst (λ (r : Endpoint). IsLent (slot_of g.book.slots r.dummy)) new.1 lent)))
        (push_which d.endpoints (new_endpoint desc q dummy) i z here);
    pieces = λ t i y z there held here from below.
        let none = none_unpublished d t y k.idle in
        old.fed.pieces t i y z there held (of_transfer t y z there here) (omega (arith, none)) below;
    publishes = λ b words is. cc;
  };
  last = record {
    dummies = λ i z here alive lent.
        ⊎_elim (λ (was : slice_get d.endpoints i ≡ Some z). old.last.dummies i z was alive (subst (λ (s : Slot). IsLent s) (k.slots i z was alive) lent))
        (λ (new : (i ≡ length d.endpoints) × (z ≡ new_endpoint desc q dummy)). absurd (k.kept (subst (λ (r : Endpoint). IsLent (slot_of g.book.slots r.dummy)) new.1 lent)))
        (push_which d.endpoints (new_endpoint desc q dummy) i z here);
    taken = λ b words t y z is. absurd (publishes_none b words is);
    sorted = λ b words t y z is. absurd (publishes_none b words is);
  };
  out_are = λ i z here met.
      old.out_are i z (older i z here met.linked) (idle_there z met.kept)
      ∙ out_idle (note_in d.notes) i d.command d.made d.transfers (λ m n. ap (λ (c : Option Command). unpublished c m n) k.idle)
      ∙ sym (out_idle (note_in d.notes) i (Some (unfinished.Open q)) 0 d.transfers (λ m n. refl));
}
  where
    never : (c : ℕ) → d.command ≡ Some (unfinished.Open c) → ⊥
    never c is = let e : ◌≡◌ {A = Option Command} None (Some (unfinished.Open c)) = sym k.idle ∙ is in cc

    idle_there : (z : Endpoint) → z.gone ≡ false → IsThere d z
    idle_there z kept = record { linked = never z.queue; kept = kept }

    idle_met : (i : ℕ) (z : Endpoint) → IsMet (accepted_open d desc g q dummy).driver i z → IsMet d i z
    idle_met i z met = record { there = idle_there z met.there.kept; near = met.near }

    publishes_none : (b : ℕ) (words : List ℕ) → (accepted_open d desc g q dummy).driver.command ≡ Some (unfinished.Publish b words) → ⊥
    publishes_none b words is = cc

    older : (i : ℕ) (z : Endpoint) → slice_get (d.endpoints ++ new_endpoint desc q dummy ∷ []) i ≡ Some z → (accepted_open d desc g q dummy).driver.command ≢ Some (unfinished.Open z.queue) → slice_get d.endpoints i ≡ Some z
    older i z here met =
        ⊎_elim (λ (was : slice_get d.endpoints i ≡ Some z). was)
        (λ (new : (i ≡ length d.endpoints) × (z ≡ new_endpoint desc q dummy)). absurd (met (ap (λ (r : Endpoint). Some (unfinished.Open r.queue)) (sym new.1))))
        (push_which d.endpoints (new_endpoint desc q dummy) i z here)

    headed : (n : ℕ) → HasHead d n → HasHead (accepted_open d desc g q dummy).driver n
    headed n one = record {
      number = one.number;
      endpoint = one.endpoint;
      here = push_there d.endpoints (new_endpoint desc q dummy) one.number one.endpoint one.here;
      met = record { there = record { linked = λ is. k.apart one.number one.endpoint one.here one.met.there.kept (ap queue_in is); kept = one.met.there.kept }; near = one.met.near };
      at = one.at;
    }

    of_transfer : (t : ℕ) (y : Transfer) (z : Endpoint) → slice_get d.transfers t ≡ Some y → slice_get (d.endpoints ++ new_endpoint desc q dummy ∷ []) y.endpoint ≡ Some z → slice_get d.endpoints y.endpoint ≡ Some z
    of_transfer t y z there here =
        ⊎_elim (λ (was : slice_get d.endpoints y.endpoint ≡ Some z). was)
        (λ (new : (y.endpoint ≡ length d.endpoints) × (z ≡ new_endpoint desc q dummy)). let w = k.within t y there in absurd (omega (arith, w, new.0)))
        (push_which d.endpoints (new_endpoint desc q dummy) y.endpoint z here)

pub open_stands : OpenStands
open_stands d m o member streams ends parts order out w stands shape owners owners_now lent turns old =
    let g = w.holding_after in
    let all = runs_taken (holding d.book m) g (2 ∷ 1 ∷ []) stands w.runs in
    let rs = all.blocks in
    let two : length rs ≡ 2 = all.are.long in
    let new : new_runs d g ≡ rs = ap (drop (length d.book.taken)) all.are.taken ∙ drop_first d.book.taken rs in
    let bare : (i : ℕ) (z : Endpoint) → slice_get d.endpoints i ≡ Some z → z.gone ≡ false → is_iso z.desc.kind || z.gone ≡ false =
    λ i z there kept. bare_is d i z turns.asynchronous there kept in
    let now : QueuesStand (accepted_open d w.desc g (get_or rs 0 0) (get_or rs 1 0)).driver member streams ends parts order out =
    opened d w.desc g (get_or rs 0 0) (get_or rs 1 0) member streams ends parts order out
    (record {
      idle = w.idle;
      within = owners.orderly.within;
      slots = λ i z there kept. all.are.old z.dummy (placed_run z.dummy (Dummy i) (owners.owned.each.dummy i (runs_of_endpoint z) (ap (option_map runs_of_endpoint) there) (bare i z there kept)));
      apart = λ i z there kept. fresh_differs 0 z.queue all.are (omega (arith, two)) (placed_run z.queue (QueueHead i) (owners.owned.each.queue i (runs_of_endpoint z) (ap (option_map runs_of_endpoint) there) (bare i z there kept)));
      kept = new_not_lent 1 w.runs all.are (omega (arith, two));
    }) old in
    subst (λ (f : Offered). QueuesStand f.driver member streams ends parts order out) (sym w.is)
    (subst (λ (ns : List ℕ). QueuesStand (accepted_open d w.desc g (get_or ns 0 0) (get_or ns 1 0)).driver member streams ends parts order out) (sym new) now)
