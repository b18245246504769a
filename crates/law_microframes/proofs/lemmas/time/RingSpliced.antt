-- The two stores of the ring lead to a new queue head, or past one that leaves; and every other event of the driver leaves the ring.
use Rattle.std.proofs.Common.{◌≡◌, ◌≢◌, ℕ, suc, ◌+◌, ◌*◌, Bool, true, false, take, drop, slice_get, Option, Some, ap, refl, sym, subst, ◌∙◌, ⊎_elim}
use Rattle.std.proofs.lemmas.Bool.{false≢true, true≢false}
use Rattle.std.proofs.lemmas.Option.{same_Some}
use Rattle.law_driver.proofs.Common.{get_drop, stored_as}
use Rattle.law_driver_ring.proofs.Common.{head_link}
use Rattle.word_mem.specs.Memory.{Mem}
use Rattle.link_words.specs.Links.{link_read}
use Rattle.mem_runs.specs.Book.{holding, store, slot_of}
use Rattle.drv_table.specs.declared.content.Command.{Command}
use Rattle.drv_table.specs.declared.content.Command.TheVariants as unfinished
use Rattle.drv_table.specs.declared.content.Endpoint.{Endpoint}
use Rattle.drv_table.specs.declared.rows.DriverRow.{DriverRow}
use Rattle.drv_table.specs.declared.rows.DriverRow.TheVariants as rows
use Rattle.drv_table.specs.DriverContent.{DriverContent}
use Rattle.drv_table.specs.Words.{head_block, queue_head_link}
use Rattle.drv_table.specs.Accepting.{oldest_of}
use Rattle.drv_table.specs.Parts.{Parts}
use Rattle.drv_table.specs.Commands.{events_of, links}
use Rattle.drv_table.specs.Rows.{driver_row, after_driver_row}
use Rattle.law_driver.specs.run_owners.Due.{IsDue, IsNextOf, IsLinkOf}
use Rattle.claims_driver.specs.Leaving.{HasOwners}
use Rattle.law_driver.proofs.lemmas.run_owners.Laws.{events_keep_owners}
use Rattle.law_driver.proofs.lemmas.run_owners.Reasons.{each_event_is_due}
use Rattle.claims_driver.specs.Owners.{HasRun}
use Rattle.claims_driver.specs.Ring.{link_in}
use Rattle.law_driver.specs.ring_members.Words.{IsOpening, IsUnlinking}
use Rattle.law_driver.specs.in_place.InPlace.{IsSound}
use Rattle.law_driver.specs.ring_members.Links.{newest_from}
use Rattle.law_driver.proofs.lemmas.ring_members.Leaving.{link_at}
use Rattle.law_driver.proofs.lemmas.ring_members.Links.{LeadsTo, oldest_is}
use Rattle.law_driver.proofs.lemmas.ring_members.Placed.{in_ring_alive, stored_here, stored_there, head_run_there, queue_run}
use Rattle.law_driver.proofs.lemmas.ring_members.Events.{stands_as, open_store, unlink_store, chain_never, iso_never, unchain_never}
use Rattle.claims_driver.specs.Walk.{IsReached}
use Rattle.law_driver_ring.proofs.lemmas.walk_members.Driving.{Reaches, row_reach}
use Rattle.law_queues.specs.reached_rings.Reaching.{is_reached}
use Rattle.bus_world.specs.World.{World, driver_parts, driver_next}
use Rattle.law_world.specs.memory.Mixed.{Standing, IsMixedAt}
use Rattle.law_microframes.specs.visits.Ranks.{name_of, next_of}
use Rattle.law_microframes.specs.time.RingSplices.{IsJoined, OpenStoreJoins, IsPassed, PassesEndpoint, UnlinkStorePasses, EachRowLeavesReached, stores_ring, is_splice, RowsLeaveLinks}
use Rattle.law_microframes.proofs.lemmas.time.ReachedBefore.{row_back}
use Rattle.law_microframes.proofs.lemmas.time.RingWords.{publish_words, link_words, is_store, other_words}
use Rattle.law_microframes.proofs.lemmas.time.LinksFalling.{next_is, next_by, reached_on, same_links}
use Rattle.law_microframes.proofs.lemmas.time.RingSteps.{same_word, before_leads}

-- ---- the store of a command

not_linked : (c : Command) (o : Option Command) → o ≡ Some c → links c ≡ false → (why : Command) → o ≡ Some why → links why ≡ true → ⊥
not_linked c o is off why under on = false≢true (sym off ∙ ap links (same_Some c why (sym is ∙ under)) ∙ on)

record IsOwnStore (c : Command) (made b at v : ℕ) : Type 0 where
  next : slice_get (events_of c) made ≡ Some (rows.Store b at v)

-- where the command links no member, a store is its own
own_store : (p : Parts) (c : Command) (b at v : ℕ) → p.driver.command ≡ Some c → links c ≡ false → IsDue p (rows.Store b at v) → IsOwnStore c p.driver.made b at v
own_store p c b at v is off due =
    ⊎_elim
    (λ (next : IsNextOf p (rows.Store b at v)).
    subst (λ (x : Command). IsOwnStore x p.driver.made b at v) (same_Some next.command c (sym next.unfinished ∙ is)) (record { next = next.next }))
    (λ (why : IsLinkOf p (rows.Store b at v)). absurd (not_linked c p.driver.command is off why.command why.unfinished why.links)) due

module _ (s : Standing) (w : World) (k : IsMixedAt s w) where
  abbrev p : Parts
  p = driver_parts w

  abbrev d : DriverContent
  d = w.driver

  sound : IsSound w.memory w.driver
  sound = k.now.framed.place.sound

  due : IsDue (driver_parts w) (driver_row (driver_parts w))
  due = each_event_is_due (driver_parts w)

  memory_is : (b at v : ℕ) → driver_row (driver_parts w) ≡ rows.Store b at v → (driver_next w).memory ≡ store w.driver.book w.memory b at v
  memory_is b at v is = ap (λ (r : DriverRow). (after_driver_row r (driver_parts w)).memory) is

  stays_there : (b v c : ℕ) → 32 * c ≢ 32 * b → next_of (store w.driver.book w.memory b (32 * b) v) (32 * c) ≡ next_of w.memory (32 * c)
  stays_there b v c differs =
      next_by (store d.book w.memory b (32 * b) v) (32 * c) c refl
      ∙ ap (λ (x : ℕ). name_of (link_read x)) (stored_there d.book w.memory b v c (λ same. differs (ap (λ (i : ℕ). 32 * i) same))) ∙ sym (next_by w.memory (32 * c) c refl)

  stored : (b v to : ℕ) → HasRun (slot_of w.driver.book.slots b) → v ≡ queue_head_link to → next_of (store w.driver.book w.memory b (32 * b) v) (32 * b) ≡ Some (32 * to)
  stored b v to run is = next_is (store d.book w.memory b (32 * b) v) (32 * b) b to refl (stored_here (holding d.book w.memory) b v sound.stands sound.shape run ∙ is)

  pub joins : (queue b at v : ℕ) → w.driver.command ≡ Some (unfinished.Open queue) → driver_row (driver_parts w) ≡ rows.Store b at v → IsJoined w.memory (driver_next w).memory (32 * queue)
  joins queue b at v is row =
      let own : IsOwnStore (unfinished.Open queue) d.made b at v = own_store p (unfinished.Open queue) b at v is refl (subst (IsDue p) row due) in
      let t = open_store queue d.made b at v own.next in
      let o : IsOpening (link_in w.memory) d.endpoints queue = stands_as (link_in w.memory) d (unfinished.Open queue) is sound.ring in
      subst (λ (m : Mem). IsJoined w.memory m (32 * queue)) (sym (memory_is b at v row))
      (stored_as (λ (m : Mem). IsJoined w.memory m (32 * queue)) d.book w.memory b head_block at (32 * head_block) v (queue_head_link queue) t.1.0.0 t.1.0.1 t.1.1
      (record {
        led = same_word w.memory queue head_block (o.link ∙ sym (head_link (link_in w.memory) head_block o.older o.ring));
        leads = stored head_block (queue_head_link queue) queue (head_run_there d sound.owners) refl;
        others = λ c differs. stays_there head_block (queue_head_link queue) c differs;
      }))

  run_before : (e : ℕ) → HasRun (slot_of w.driver.book.slots (oldest_of (drop (suc e) w.driver.endpoints)))
  run_before e =
      ⊎_elim (λ (h : oldest_of (drop (suc e) d.endpoints) ≡ head_block). subst (λ (i : ℕ). HasRun (slot_of d.book.slots i)) (sym h) (head_run_there d sound.owners))
      (λ (l : LeadsTo (drop (suc e) d.endpoints) (oldest_of (drop (suc e) d.endpoints))).
      let at : slice_get d.endpoints (suc e + l.number) ≡ Some l.endpoint = sym (get_drop d.endpoints (suc e) l.number) ∙ l.here in
      subst (λ (i : ℕ). HasRun (slot_of d.book.slots i)) l.queue
      (queue_run d (suc e + l.number) l.endpoint sound.owners at (in_ring_alive d (suc e + l.number) l.endpoint sound.owners.orderly at l.linked)))
      (oldest_is (drop (suc e) d.endpoints))

  pub passes : (e f link b at v : ℕ) → w.driver.command ≡ Some (unfinished.Unlink e f link) → driver_row (driver_parts w) ≡ rows.Store b at v
      → PassesEndpoint w.driver w.memory (driver_next w).memory e (32 * f)
  passes e f link b at v is row =
      let own : IsOwnStore (unfinished.Unlink e f link) d.made b at v = own_store p (unfinished.Unlink e f link) b at v is refl (subst (IsDue p) row due) in
      let t = unlink_store e f link d.made b at v own.next in
      let u : IsUnlinking (link_in w.memory) d.endpoints e f link = stands_as (link_in w.memory) d (unfinished.Unlink e f link) is sound.ring in
      let x : Endpoint = u.endpoint in
      let to : ℕ = newest_from head_block (take e d.endpoints) in
      let own_leads : next_of w.memory (32 * x.queue) ≡ Some (32 * to)
      = next_is w.memory (32 * x.queue) x.queue to refl (link_at (link_in w.memory) head_block d.endpoints e x u.here u.linked u.ring) in
      let run : HasRun (slot_of d.book.slots f) = subst (λ (i : ℕ). HasRun (slot_of d.book.slots i)) (sym u.from) (run_before e) in
      record {
        endpoint = x;
        here = u.here;
        passed = subst (λ (m : Mem). IsPassed w.memory m (32 * f) (32 * x.queue)) (sym (memory_is b at v row))
            (stored_as (λ (m : Mem). IsPassed w.memory m (32 * f) (32 * x.queue)) d.book w.memory b f at (32 * f) v link t.1.0.0 t.1.0.1 t.1.1
            (record {
              led = next_is w.memory (32 * f) f x.queue refl (ap (link_in w.memory) u.from ∙ before_leads (link_in w.memory) head_block d.endpoints e x u.here u.linked u.ring);
              leads = stored f link to run u.over ∙ sym own_leads;
              others = λ c differs. stays_there f link c differs;
            }));
      }

  -- ---- whom the walk may reach

  forth : Reaches w.driver w.registers.doorbell (driver_next w).driver (driver_next w).registers.doorbell
  forth = row_reach (driver_row (driver_parts w)) p due k.walking.bell

  back : Reaches (driver_next w).driver (driver_next w).registers.doorbell w.driver w.registers.doorbell
  back = row_back (driver_row (driver_parts w)) p due k.walking.bell

  pub same_reached : (n : ℕ) → is_reached (driver_next w).driver (driver_next w).registers.doorbell n ≡ is_reached w.driver w.registers.doorbell n
  same_reached n =
      both_ways (is_reached (driver_next w).driver (driver_next w).registers.doorbell n) (is_reached w.driver w.registers.doorbell n)
      (reached_on (driver_next w).driver w.driver (driver_next w).registers.doorbell w.registers.doorbell back n)
      (reached_on w.driver (driver_next w).driver w.registers.doorbell (driver_next w).registers.doorbell forth n)
    where
      both_ways : (a b : Bool) → (a ≡ true → b ≡ true) → (b ≡ true → a ≡ true) → a ≡ b
      both_ways true b on off = sym (on refl)
      both_ways false true on off = off refl
      both_ways false false on off = refl

  -- ---- the links

  abbrev Words : DriverRow → Type 0
  Words row = (b : ℕ) → IsReached w.driver w.registers.doorbell b → link_in (after_driver_row row (driver_parts w)).memory b ≡ link_in w.memory b

  own_words : (c : Command) (b at v : ℕ) → w.driver.command ≡ Some c → slice_get (events_of c) w.driver.made ≡ Some (rows.Store b at v) → stores_ring w.driver.command ≡ false
      → Words (rows.Store b at v)
  own_words (unfinished.Publish f words) b at v is next off = λ q reached. publish_words p w.registers.doorbell f words b at v q is next sound reached
  own_words unfinished.Chain b at v is next off = absurd (chain_never w.driver.made b at v next)
  own_words (unfinished.Iso e t count) b at v is next off = absurd (iso_never e t count w.driver.made b at v next)
  own_words (unfinished.Unchain e) b at v is next off = absurd (unchain_never e w.driver.made b at v next)
  own_words _ b at v is next off = absurd (true≢false (ap stores_ring (sym is) ∙ off))

  other : (row : DriverRow) → driver_row (driver_parts w) ≡ row → is_store row ≡ false → IsDue (driver_parts w) row → Words row
  other row is off row_due = λ b reached.
      other_words row p off row_due sound k.walking.bell (subst (λ (r : DriverRow). HasOwners (after_driver_row r p).driver) is (events_keep_owners p sound.owners)) b
      (row_reach row p row_due k.walking.bell b reached)

  words_by : (row : DriverRow) → driver_row (driver_parts w) ≡ row → IsDue (driver_parts w) row → is_splice w.driver.command row ≡ false → Words row
  words_by (rows.Store b at v) is row_due off =
      ⊎_elim (λ (next : IsNextOf (driver_parts w) (rows.Store b at v)). own_words next.command b at v next.unfinished next.next off)
      (λ (why : IsLinkOf (driver_parts w) (rows.Store b at v)). λ q reached. link_words p w.registers.doorbell b at v q why sound reached) row_due
  words_by row is row_due off = other row is refl row_due

  pub links_stay : is_splice w.driver.command (driver_row (driver_parts w)) ≡ false → (n : ℕ) → is_reached w.driver w.registers.doorbell n ≡ true
      → next_of (driver_next w).memory n ≡ next_of w.memory n
  links_stay off n on =
      same_links w.memory (driver_next w).memory w.driver w.registers.doorbell (words_by (driver_row (driver_parts w)) refl due off) n on

pub open_store_joins : OpenStoreJoins
open_store_joins s w queue b at v k is row = joins s w k queue b at v is row

pub unlink_store_passes : UnlinkStorePasses
unlink_store_passes s w e f link b at v k is row = passes s w k e f link b at v is row

pub each_row_leaves_reached : EachRowLeavesReached
each_row_leaves_reached s w k n = same_reached s w k n

pub rows_leave_links : RowsLeaveLinks
rows_leave_links s w k off n on = links_stay s w k off n on
