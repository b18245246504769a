-- The row that makes the next store that is owed.
use Rattle.std.proofs.Common.{◌≡◌, ◌≢◌, ℕ, zero, suc, ◌+◌, ◌*◌, ◌<◌, ◌≤◌, true, List, [], ◌∷◌, drop, slice_get, Option, Some, None, ap, refl, sym, subst, ◌∙◌, arith}
use Rattle.std.proofs.lemmas.Bool.Decides.{nat_tests}
use Rattle.std.proofs.lemmas.Option.{same_Some}
use Rattle.law_queues.proofs.Common.{queue_of}
use Rattle.law_common.proofs.Lists.{all_more}
use Rattle.law_driver.proofs.Common.{control_kind}
use Rattle.word_mem.specs.Memory.{Mem}
use Rattle.qh_qtd.specs.declared.qtd.Qtd.{Qtd}
use Rattle.qh_qtd.specs.declared.queue_head.Qh.{Qh}
use Rattle.async_walk.specs.Rows.{place}
use Rattle.mem_runs.specs.Book.{holding, Stands, IsAt, slot_of, can_store}
use Rattle.mem_runs.specs.declared.slots.Slot.{Slot}
use Rattle.mem_runs.specs.declared.slots.Slot.TheVariants.{Empty, Keeps, Lends}
use Rattle.drv_table.specs.declared.content.Mend.{Mend}
use Rattle.drv_table.specs.declared.rows.DriverRow.{DriverRow}
use Rattle.drv_table.specs.declared.rows.DriverRow.TheVariants as rows
use Rattle.drv_table.specs.DriverContent.{DriverContent}
use Rattle.drv_table.specs.Parts.{Parts as DriverParts}
use Rattle.drv_table.specs.Rows.{driver_row, after_driver_row}
use Rattle.drv_table.specs.Words.{to_qtd}
use Rattle.law_driver.specs.run_owners.Due.{IsDue}
use Rattle.claims_driver.specs.Leaving.{HasOwners}
use Rattle.claims_driver.specs.Owners.{QueueHead as OfEndpoint, HasRun, views_of}
use Rattle.law_driver.proofs.lemmas.run_owners.Reasons.{each_event_is_due}
use Rattle.law_driver.proofs.lemmas.run_owners.Runs.{placed_run}
use Rattle.claims_driver.specs.LentRuns.{AreLent}
use Rattle.law_driver.specs.chained_transfers.Chains.{AreChained}
use Rattle.law_driver.specs.chained_transfers.Turns.{AreInTurn}
use Rattle.law_structures.specs.lent_structures.Structures.{QueueHead, Element, StructureSets}
use Rattle.law_ring.specs.Order.{IsAmong}
use Rattle.law_ring.proofs.SparedSparing.{stale_hand_is_same}
use Rattle.law_driver_ring.specs.Inventory.{sorts_of, IsDriven}
use Rattle.law_driver_ring.specs.Driven.{DrivesRing}
use Rattle.law_driver_ring.proofs.Storing.{store_made}
use Rattle.law_queues.specs.mended_heads.Owed.{StalledQueue, store_by, store_due, IsOwed}
use Rattle.law_queues.specs.mended_heads.Waiting.{AreAllPublished, Waits, AreStalled, MendsStand}
use Rattle.law_queues.specs.mended_heads.Mended.{mended_by, mended, driver_mended, IsAtMend, head_at, parts_then, hand_then, MendIsDue, MendRow, MendKeepsMends, IsMendedWhole, LastMendEnds, MendLeavesRing, MendSparesHeads, MendSparesEndpoints, MendSparesElements, MendSparesHand, MendLeavesHalts}
use Rattle.law_queues.proofs.lemmas.mended_heads.Content.{all_both}
use Rattle.law_queues.proofs.lemmas.mended_heads.Groups.{first_left, rest_by, rest_left, rest_all, rest_apart}
use Rattle.law_queues.proofs.lemmas.mended_heads.Lent.{queue_placed, onward_there}
use Rattle.law_queues.proofs.lemmas.mended_heads.Mending.{keeps_endpoint, keeps_halted, stores_next, stores_alternate, last_leads, drives_by}
use Rattle.law_queues.proofs.lemmas.mended_heads.Parts.{here_now, head_beside, spares_head, endpoint_stays, element_was, spares_element, halts_stay}

-- ---- it is due

-- each of the three words lies in the run of the queue head
in_run : (s : Slot) (q b made : ℕ) → IsAt q s → HasRun s → can_store s (store_by q b made).at ≡ true
in_run Empty q b made at run = absurd run
in_run (Keeps r) q b zero at run = let low : 32 * r.first ≤ 32 * q + 16 = omega (arith, at.0) in let high : 32 * q + 16 < 32 * (r.first + r.blocks) = omega (arith, at.0, at.1) in grind (arith, nat_tests)
in_run (Keeps r) q b (suc zero) at run = let low : 32 * r.first ≤ 32 * q + 20 = omega (arith, at.0) in let high : 32 * q + 20 < 32 * (r.first + r.blocks) = omega (arith, at.0, at.1) in grind (arith, nat_tests)
in_run (Keeps r) q b (suc (suc n)) at run = let low : 32 * r.first ≤ 32 * q + 24 = omega (arith, at.0) in let high : 32 * q + 24 < 32 * (r.first + r.blocks) = omega (arith, at.0, at.1) in grind (arith, nat_tests)
in_run (Lends r) q b zero at run = let low : 32 * r.first ≤ 32 * q + 16 = omega (arith, at.0) in let high : 32 * q + 16 < 32 * (r.first + r.blocks) = omega (arith, at.0, at.1) in grind (arith, nat_tests)
in_run (Lends r) q b (suc zero) at run = let low : 32 * r.first ≤ 32 * q + 20 = omega (arith, at.0) in let high : 32 * q + 20 < 32 * (r.first + r.blocks) = omega (arith, at.0, at.1) in grind (arith, nat_tests)
in_run (Lends r) q b (suc (suc n)) at run = let low : 32 * r.first ≤ 32 * q + 24 = omega (arith, at.0) in let high : 32 * q + 24 < 32 * (r.first + r.blocks) = omega (arith, at.0, at.1) in grind (arith, nat_tests)

can_mend : (d : DriverContent) (m : Mem) (s : StalledQueue) → Stands (holding d.book m) → HasOwners d → IsOwed d s → can_store (slot_of d.book.slots s.queue) (store_due s).at ≡ true
can_mend d m s stands has k =
    let placed = queue_placed d has k.number k.endpoint k.here (control_kind k.endpoint.desc.kind k.control) k.kept in
    let run : HasRun (slot_of d.book.slots k.endpoint.queue) = placed_run k.endpoint.queue (OfEndpoint k.number) placed in
    let run_there : HasRun (slot_of d.book.slots s.queue) = subst (λ (q : ℕ). HasRun (slot_of d.book.slots q)) k.queue run in
    in_run (slot_of d.book.slots s.queue) s.queue s.onward s.made (stands.placed s.queue) run_there

none_first : (w : Mend) → ◌≡◌ {A = Option Mend} None (Some w) → ⊥
none_first w same = cc

at_mend : (p : DriverParts) (parts : StructureSets) (out : ℕ → List ℕ) (w : Mend) (ss : List StalledQueue) → driver_row p ≡ rows.Mend w → p.driver.command ≡ None → slice_get p.driver.mends 0 ≡ Some w → Stands (holding p.driver.book p.memory) → HasOwners p.driver
    → AreLent p.driver → AreChained (views_of p.driver) → AreInTurn p.driver → IsDriven (views_of p.driver) (sorts_of parts) → AreStalled p.driver parts out ss → IsAtMend p parts out
at_mend p parts out w [] row idle first stands has lent chained turns driven k =
    absurd (none_first w (ap (λ (ws : List Mend). slice_get ws 0) (sym k.mends) ∙ first))
at_mend p parts out w (s ∷ ss) row idle first stands has lent chained turns driven k =
    let is : store_due s ≡ w = same_Some (store_due s) w (sym (first_left s ss k.owed.0.some) ∙ ap (λ (ws : List Mend). slice_get ws 0) (sym k.mends) ∙ first) in
    record {
      stalled = s;
      others = ss;
      row = row ∙ ap rows.Mend (sym is);
      idle = idle;
      are = k;
      can = can_mend p.driver p.memory s stands has k.owed.0;
      onward = onward_there p.driver parts s has lent chained turns idle driven k.owed.0;
    }

pub mend_is_due : MendIsDue
mend_is_due p parts out w row stands has lent chained turns driven k =
    let due : (p.driver.command ≡ None) × (slice_get p.driver.mends 0 ≡ Some w) = subst (IsDue p) row (each_event_is_due p) in
    at_mend p parts out w k.queues row due.0 due.1 stands has lent chained turns driven k.are

-- ---- what stands after it

pub mend_row : MendRow
mend_row p parts out k =
    let w = store_due k.stalled in
    let can : can_store (slot_of p.driver.book.slots w.queue) w.at ≡ true = subst (λ (b : ℕ). can_store (slot_of p.driver.book.slots b) w.at ≡ true) (sym (queue_of k.stalled.queue k.stalled.onward k.stalled.made)) k.can in
    record {
      driver = ap (λ (row : DriverRow). (after_driver_row row p).driver) k.row;
      memory = ap (λ (row : DriverRow). (after_driver_row row p).memory) k.row ∙ store_made p.driver.book p.memory w.queue w.at w.value can;
      registers = ap (λ (row : DriverRow). (after_driver_row row p).registers) k.row;
    }

pub mend_leaves_ring : MendLeavesRing
mend_leaves_ring base member hand w p parts out k drives =
    let s = k.stalled in
    let h = k.are.wait.0.stands in
    subst (λ (row : DriverRow). DrivesRing base member (parts_then k) (hand_then k hand) (place w (after_driver_row row p).registers (after_driver_row row p).memory) (after_driver_row row p).driver) (sym k.row)
    (drives_by base member parts hand w p.registers p.memory p.driver s.queue s.onward s.made h.head k.are.owed.0.some drives k.can h.here h.halted h.next k.onward)

-- ---- the stores that are left

-- another queue waits as it did
module _ (p : DriverParts) (parts : StructureSets) (out : ℕ → List ℕ) (k : IsAtMend p parts out) where
  abbrev s : StalledQueue
  s = k.stalled

  abbrev n : ℕ
  n = 32 * s.queue

  abbrev head : Qh
  head = head_at k

  abbrev new : Qh
  new = mended s head

  abbrev here : parts n n ≡ Some (QueueHead head)
  here = k.are.wait.0.stands.here

  was_element : (m a : ℕ) (t : Qtd) → parts_then k m a ≡ Some (Element t) → parts m a ≡ Some (Element t)
  was_element m a t is = element_was parts n head new here m a t is

  published_still : (m : ℕ) → AreAllPublished (out m) (parts m) → AreAllPublished (out m) (parts_then k m)
  published_still m all a t among is = all a t among (was_element m a t is)

  other_waits : (r : StalledQueue) → r.queue ≢ s.queue → Waits r parts out → Waits r (parts_then k) out
  other_waits r differs w = record {
    stands = record {
      head = w.stands.head;
      here = head_beside parts n head new here (32 * r.queue) w.stands.head (λ same. differs (omega (arith, same))) w.stands.here;
      halted = w.stands.halted;
      next = w.stands.next;
      alternate = w.stands.alternate;
    };
    published = published_still (32 * r.queue) w.published;
  }

  own_waits : suc s.made < 3 → Waits (record s { made = suc s.made }) (parts_then k) out
  own_waits below = record {
    stands = record {
      head = new;
      here = here_now parts n head new here n refl;
      halted = keeps_halted s.onward s.made head below k.are.wait.0.stands.halted;
      next = λ some. stores_next s.onward s.made head k.are.wait.0.stands.next;
      alternate = λ some. stores_alternate s.onward s.made head (omega (arith, some)) k.are.wait.0.stands.alternate;
    };
    published = published_still n k.are.wait.0.published;
  }

  -- the content owes what it owed
  owed_then : (r : StalledQueue) → IsOwed p.driver r → IsOwed (driver_mended p.driver) r
  owed_then r o = record { number = o.number; endpoint = o.endpoint; here = o.here; control = o.control; kept = o.kept; going = o.going; queue = o.queue; onward = o.onward; some = o.some }

  own_owed : suc s.made < 3 → IsOwed (driver_mended p.driver) (record s { made = suc s.made })
  own_owed below = let o = k.are.owed.0 in record { number = o.number; endpoint = o.endpoint; here = o.here; control = o.control; kept = o.kept; going = o.going; queue = o.queue; onward = o.onward; some = below }

  stalled_then : AreStalled (driver_mended p.driver) (parts_then k) out (rest_by s.made s k.others)
  stalled_then = record {
    mends = ap (drop 1) k.are.mends ∙ rest_left s k.others k.are.owed.0.some;
    owed = rest_all (IsOwed (driver_mended p.driver)) s k.others s.made k.are.owed.0.some own_owed (all_more (IsOwed p.driver) (IsOwed (driver_mended p.driver)) k.others owed_then k.are.owed.1);
    wait = rest_all (λ (r : StalledQueue). Waits r (parts_then k) out) s k.others s.made k.are.owed.0.some own_waits
        (all_both (λ (r : StalledQueue). r.queue ≢ s.queue) (λ (r : StalledQueue). Waits r parts out) (λ (r : StalledQueue). Waits r (parts_then k) out) k.others other_waits k.are.apart.0 k.are.wait.1);
    apart = rest_apart s k.others s.made k.are.apart;
  }

pub mend_keeps_mends : MendKeepsMends
mend_keeps_mends p parts out k =
    subst (λ (d : DriverContent). MendsStand d (parts_then k) out) (sym (mend_row p parts out k).driver) (record { queues = rest_by k.stalled.made k.stalled k.others; are = stalled_then p parts out k })

-- ---- the last store

whole_by : (made : ℕ) (s : StalledQueue) (q : Qh) → made ≡ 2 → q.next ≡ to_qtd s.onward → IsMendedWhole s (mended_by s.onward made q)
whole_by (suc (suc n)) s q last next = record { active = refl; halted = refl; leads = last_leads s.onward n q next }
whole_by _ s q last next = absurd (omega (arith, last))

pub last_mend_ends : LastMendEnds
last_mend_ends p parts out k last = whole_by k.stalled.made k.stalled (head_at k) last (k.are.wait.0.stands.next (omega (arith, last)))

-- ---- what it leaves

pub mend_spares_heads : MendSparesHeads
mend_spares_heads p parts out k n differs = spares_head parts (32 * k.stalled.queue) (head_at k) (mended k.stalled (head_at k)) k.are.wait.0.stands.here n differs

pub mend_spares_endpoints : MendSparesEndpoints
mend_spares_endpoints p parts out k n x has =
    endpoint_stays parts (32 * k.stalled.queue) (head_at k) (mended k.stalled (head_at k)) k.are.wait.0.stands.here (keeps_endpoint k.stalled.onward k.stalled.made (head_at k)) n x has

pub mend_spares_elements : MendSparesElements
mend_spares_elements p parts out k n e = spares_element parts (32 * k.stalled.queue) (head_at k) (mended k.stalled (head_at k)) k.are.wait.0.stands.here n e

pub mend_spares_hand : MendSparesHand
mend_spares_hand hand p parts out k = stale_hand_is_same (32 * k.stalled.queue) hand

pub mend_leaves_halts : MendLeavesHalts
mend_leaves_halts order p parts out k n stops =
    halts_stay parts (32 * k.stalled.queue) (head_at k) (mended k.stalled (head_at k)) k.are.wait.0.stands.here (order n) (out n) n
    (λ same a t among is.
    k.are.wait.0.published a t (subst (λ (i : ℕ). IsAmong a (out i)) same among) (subst (λ (i : ℕ). parts i a ≡ Some (Element t)) same is)) stops
