-- Each event of the driver leaves the fields of its iTDs.
use Rattle.std.proofs.Common.{◌≡◌, ℕ, zero, suc, ◌+◌, ◌*◌, ◌/◌, ◌<◌, ◌≤◌, Bool, true, false, List, [], ◌∷◌, ◌++◌, drop, slice_get, slice_index, Option, Some, None, option_map, ap, refl, sym, subst, ◌∙◌, ⊎_elim, arith}
use Rattle.std.specs.Prelude.{◌⊎◌}
use Rattle.std.specs.List.{AllByRecursion}
use Rattle.std.proofs.lemmas.Option.{same_Some}
use Rattle.word_mem.specs.Memory.{Mem, word_at}
use Rattle.word_mem.specs.Views.{words_in}
use Rattle.word_mem.proofs.Words.{words_in_same}
use Rattle.mem_runs.specs.Book.{Holding, holding}
use Rattle.itd_sitd.specs.Itd.{itd_at}
use Rattle.drv_periodic_table.specs.declared.content.Removed.{Removed}
use Rattle.drv_periodic_table.specs.declared.content.Removed.TheVariants as removed
use Rattle.drv_periodic_table.specs.Periodic.{note_at}
use Rattle.drv_table.specs.declared.content.Endpoint.{Endpoint}
use Rattle.drv_table.specs.declared.content.Mend.{Mend}
use Rattle.drv_table.specs.declared.content.Sort.{Sort}
use Rattle.drv_table.specs.declared.content.Transfer.{Transfer}
use Rattle.drv_table.specs.declared.rows.DriverRow.{DriverRow}
use Rattle.drv_table.specs.declared.rows.DriverRow.TheVariants as rows
use Rattle.drv_table.specs.DriverContent.{DriverContent}
use Rattle.drv_table.specs.Parts.{Parts}
use Rattle.drv_table.specs.Releases.{is_told, cancel_told, after_transfer, freed_by, after_endpoint}
use Rattle.drv_table.specs.FrameChoice.{linked_by}
use Rattle.drv_table.specs.Removals.{after_descriptor, after_placed, after_removed}
use Rattle.drv_table.specs.Rows.{driver_row, after_driver_row}
use Rattle.law_driver.specs.run_owners.Due.{IsDue}
use Rattle.claims_driver.specs.Owners.{DescriptorRuns, is_descriptor}
use Rattle.law_driver.proofs.lemmas.run_owners.Reasons.{each_event_is_due}
use Rattle.law_driver.proofs.lemmas.run_owners.Stays.{advanced, framed, lent, unlinks, harvest_stays}
use Rattle.law_admission.proofs.Events.{either}
use Rattle.law_driver_ring.specs.Inventory.{OfQueueHead, sort_of, sorts_of}
use Rattle.law_structures.specs.lent_structures.Structures.{StructureSets}
use Rattle.law_queues.specs.mended_heads.Owed.{StalledQueue, mends_at, all_left, IsOwed}
use Rattle.law_queues.specs.mended_heads.Waiting.{Waits}
use Rattle.law_driver.specs.queued_drivers.Queued.{queued}
use Rattle.bus_world.specs.World.{World, driver_parts, driver_next}
use Rattle.law_world.specs.memory.Mixed.{Standing, IsMixedAt, IsMixedWorld}
use Rattle.law_microframes.specs.visits.DescriptorFields.{itd_in, HaveItdFields, IsMendedAt, DriverKeepsItdFields}
use Rattle.law_microframes.proofs.lemmas.visits.BelongSeen.{Seen, IsSeenIn, seen_there, row_seen}
use Rattle.law_microframes.proofs.lemmas.visits.BelongQueues.{not_owned}
use Rattle.law_microframes.proofs.lemmas.visits.BelongItds.{IsStill}
use Rattle.law_microframes.proofs.lemmas.visits.BelongRows.{itd_words_stay}
use Rattle.law_microframes.proofs.lemmas.visits.BelongTold.{WasThere, Reports, were}

-- ---- all words but the first are the same

apart_link : (w v : ℕ) (rest : List ℕ) → IsStill (itd_at (w ∷ rest)) (itd_at (v ∷ rest))
unfolding itd_at
apart_link w v rest = record { longest = refl; multi = refl; active = λ u on. on }

first_apart : (ws : List ℕ) (a : ℕ) → words_in ws a 16 ≡ slice_index ws (a / 4) ∷ words_in ws (a + 4) 15
unfolding words_in
first_apart ws a = refl

words_still : (m new : Mem) (b : ℕ) → ((i : ℕ) → 1 ≤ i → i < 16 → word_at new (32 * b + 4 * i) ≡ word_at m (32 * b + 4 * i)) → IsStill (itd_in m b) (itd_in new b)
words_still m new b same =
    let rest : words_in new.words (32 * b + 4) 15 ≡ words_in m.words (32 * b + 4) 15 =
    words_in_same m.words new.words (32 * b + 4) 15
    (λ k below.
    let e : 32 * b + 4 * (k + 1) ≡ 32 * b + 4 + 4 * k = omega arith in
    subst (λ (a : ℕ). word_at new a ≡ word_at m a) e (same (k + 1) (omega arith) (omega (arith, below)))) in
    subst (λ (ws : List ℕ). IsStill (itd_at ws) (itd_in new b)) (sym (first_apart m.words (32 * b)))
    (subst (λ (ws : List ℕ). IsStill (itd_at (slice_index m.words (32 * b / 4) ∷ words_in m.words (32 * b + 4) 15)) (itd_at ws)) (sym (first_apart new.words (32 * b)))
    (subst (λ (ws : List ℕ). IsStill (itd_at (slice_index m.words (32 * b / 4) ∷ words_in m.words (32 * b + 4) 15)) (itd_at (slice_index new.words (32 * b / 4) ∷ ws))) (sym rest)
    (apart_link (slice_index m.words (32 * b / 4)) (slice_index new.words (32 * b / 4)) (words_in m.words (32 * b + 4) 15))))

-- ---- which descriptor one is stays

abbrev Split : DriverContent → ℕ → Bool
Split d b = (note_at d.periodic.notes b).split

told : (d : DriverContent) (m : Mem) (e : ℕ) (x : Endpoint) (b : ℕ) → Split (cancel_told d m e x) b ≡ Split d b
told d m e x b = either (λ (f : DriverContent). Split f b) (is_told x) _ d (Split d b) refl refl

transfer_split : (p : Parts) (t : ℕ) (o : Option Transfer) (h : Holding) (b : ℕ) → Split (after_transfer p t o h).driver b ≡ Split p.driver b
transfer_split p t None h b = refl
transfer_split p t (Some x) h b = refl

endpoint_split : (p : Parts) (e : ℕ) (o : Option Endpoint) (b : ℕ) → Split (after_endpoint p e o).driver b ≡ Split p.driver b
endpoint_split p e None b = refl
endpoint_split p e (Some x) b = told p.driver p.memory e x b

descriptor_split : (p : Parts) (t : ℕ) (o : Option Transfer) (b : ℕ) → Split (after_descriptor p t o).driver b ≡ Split p.driver b
descriptor_split p t None b = refl
descriptor_split p t (Some x) b = refl

placed_split : (p : Parts) (e : ℕ) (o : Option Endpoint) (b : ℕ) → Split (after_placed p e o).driver b ≡ Split p.driver b
placed_split p e None b = refl
placed_split p e (Some x) b = told p.driver p.memory e x b

removed_split : (p : Parts) (what : Removed) (b : ℕ) → Split (after_removed p what).driver b ≡ Split p.driver b
removed_split p (removed.Descriptor t) b = descriptor_split p t (slice_get p.driver.transfers t) b
removed_split p (removed.Endpoint e) b = placed_split p e (slice_get p.driver.endpoints e) b

row_split : (row : DriverRow) (p : Parts) (b : ℕ) → Split (after_driver_row row p).driver b ≡ Split p.driver b
row_split rows.Lend p b = ap (λ (r : DescriptorRuns). r.split) ((lent p.driver p.memory).same.buffers b)
row_split (rows.Store q at v) p b = ap (λ (r : DescriptorRuns). r.split) ((advanced p.driver).same.buffers b)
row_split (rows.ReleaseTransfer t) p b = transfer_split p t (slice_get p.driver.transfers t) (freed_by p.driver (holding p.driver.book p.memory) (slice_get p.driver.transfers t)) b
row_split (rows.ReleaseEndpoint e) p b = endpoint_split p e (slice_get p.driver.endpoints e) b
row_split rows.Frames p b = ap (λ (r : DescriptorRuns). r.split) ((framed p.driver p.registers.frame_index p.driver.command).same.buffers b)
row_split rows.LendDescriptors p b = ap (λ (r : DescriptorRuns). r.split) ((lent p.driver (linked_by p.driver p.memory p.driver.command)).same.buffers b)
row_split (rows.Unlink t) p b = ap (λ (r : DescriptorRuns). r.split) ((unlinks p t (slice_get p.driver.transfers t)).same.buffers b)
row_split (rows.ReleaseRemoved what) p b = removed_split p what b
row_split (rows.Harvest e t found) p b =
    ap (λ (r : DescriptorRuns). r.split) ((harvest_stays p.driver p.memory e t found (slice_get p.driver.endpoints e) (slice_get p.driver.transfers t) refl refl).same.buffers b)
row_split _ p b = refl

-- ---- a queue head that is owed a store stands where no descriptor does

record IsStalledOf (parts : StructureSets) (out : ℕ → List ℕ) (w : Mend) : Type 0 where
  stalled : StalledQueue
  waits : Waits stalled parts out
  queue : stalled.queue ≡ w.queue

first_stalled : (parts : StructureSets) (out : ℕ → List ℕ) (d : DriverContent) (ss : List StalledQueue) (w : Mend) → AllByRecursion (IsOwed d) ss → AllByRecursion (λ s. Waits s parts out) ss
    → slice_get (all_left ss) 0 ≡ Some w → IsStalledOf parts out w
first_stalled parts out d [] w owed waits is = absurd (cc)
first_stalled parts out d (s ∷ ss) w owed waits is = by s.made owed.0.some is
  where
    by : (n : ℕ) → n < 3 → slice_get (drop n (mends_at s.queue s.onward) ++ all_left ss) 0 ≡ Some w → IsStalledOf parts out w
    by zero small at = record { stalled = s; waits = waits.0; queue = ap (λ (v : Mend). v.queue) (same_Some _ w at) }
    by (suc zero) small at = record { stalled = s; waits = waits.0; queue = ap (λ (v : Mend). v.queue) (same_Some _ w at) }
    by (suc (suc zero)) small at = record { stalled = s; waits = waits.0; queue = ap (λ (v : Mend). v.queue) (same_Some _ w at) }
    by (suc (suc (suc n))) small at = absurd (omega (arith, small))

module _ (s : Standing) (w : World) (k : IsMixedAt s w) where
  pub not_mended : (t : ℕ) (y : Transfer) → slice_get w.driver.transfers t ≡ Some y → is_descriptor y.sort ≡ true → y.released ≡ false
      → IsMendedAt (driver_parts w) y.first → ⊥
  not_mended t y there sort held at =
      let d = w.driver in
      let f = k.now.framed in
      let stand = k.queues.controls.mends in
      let due : IsDue (driver_parts w) (rows.Mend at.mend) = subst (IsDue (driver_parts w)) at.row (each_event_is_due (driver_parts w)) in
      let i : IsStalledOf s.parts s.out at.mend = first_stalled s.parts s.out (queued d) stand.queues at.mend stand.are.owed stand.are.wait (ap (λ (ms : List Mend). slice_get ms 0) (sym stand.are.mends) ∙ due.1) in
      let n = 32 * i.stalled.queue in
      let here : sorts_of s.parts n n ≡ Some OfQueueHead = ap (option_map sort_of) i.waits.stands.here in
      not_owned d f.place.sound.owners s.descs s.parts f.driven f.described t y n n n OfQueueHead there sort held (ap (λ (q : ℕ). 32 * q) (i.queue ∙ at.queue)) refl refl (f.driven.only n n OfQueueHead here)

-- ---- what an iTD was before the event

pub record HadItd (w : World) (t : ℕ) (z : Transfer) : Type 0 where
  pub before : Transfer
  pub there : slice_get w.driver.transfers t ≡ Some before
  pub sort : is_descriptor before.sort ≡ true
  pub held : before.released ≡ false
  pub split : (note_at w.driver.periodic.notes before.first).split ≡ false
  pub endpoint : z.endpoint ≡ before.endpoint
  pub told : z.reported ≡ true → (before.reported ≡ true) ⊎ Reports (driver_row (driver_parts w)) before.endpoint
  pub still : IsStill (itd_in w.memory before.first) (itd_in (driver_next w).memory z.first)

pub had_itd : (w : World) (t : ℕ) (z : Transfer) → IsMixedWorld w → slice_get (driver_next w).driver.transfers t ≡ Some z → is_descriptor z.sort ≡ true → z.released ≡ false
    → (note_at (driver_next w).driver.periodic.notes z.first).split ≡ false → HadItd w t z
had_itd w t z mixed after sort held split =
    let s = mixed.standing in
    let k = mixed.mixed in
    let d = w.driver in
    let parts = driver_parts w in
    let row = driver_row parts in
    let b : WasThere (Reports row) d.transfers t z = were row parts t z after in
    let y = b.before in
    let first : z.first ≡ y.first = b.was.first in
    let sort_before : is_descriptor y.sort ≡ true = ap (λ (o : Sort). is_descriptor o) (sym b.was.sort) ∙ sort in
    let held_before : y.released ≡ false = b.was.held held in
    let split_before : (note_at d.periodic.notes y.first).split ≡ false = ap (λ (i : ℕ). (note_at d.periodic.notes i).split) (sym first) ∙ sym (row_split row parts z.first) ∙ split in
    let same : (i : ℕ) → 1 ≤ i → i < 16 → word_at (driver_next w).memory (32 * y.first + 4 * i) ≡ word_at w.memory (32 * y.first + 4 * i) = λ i later small.
    ⊎_elim (λ (word : word_at (driver_next w).memory (32 * y.first + 4 * i) ≡ word_at w.memory (32 * y.first + 4 * i)). word)
    (λ (at : IsMendedAt parts y.first). absurd (not_mended s w k t y b.there sort_before held_before at))
    (itd_words_stay parts t i y z k.now.framed.place b.there sort_before held_before split_before after sort held first split later small) in
    record {
      before = y;
      there = b.there;
      sort = sort_before;
      held = held_before;
      split = split_before;
      endpoint = b.was.endpoint;
      told = λ on. b.was.told held on;
      still = subst (λ (i : ℕ). IsStill (itd_in w.memory y.first) (itd_in (driver_next w).memory i)) (sym first) (words_still w.memory (driver_next w).memory y.first same);
    }

pub driver_keeps_itd_fields : DriverKeepsItdFields
driver_keeps_itd_fields w mixed have t z v p after sort held split here placed =
    let d = w.driver in
    let parts = driver_parts w in
    let b = had_itd w t z mixed after sort held split in
    let y = b.before in
    let of : IsSeenIn d.endpoints z.endpoint v = seen_there (driver_next w).driver.endpoints d.endpoints z.endpoint v (sym (row_seen z.endpoint (driver_row parts) parts)) here in
    let x = of.endpoint in
    let here_before : slice_get d.endpoints y.endpoint ≡ Some x = ap (slice_get d.endpoints) (sym b.endpoint) ∙ of.here in
    let h : HaveItdFields (itd_in w.memory y.first) x.desc p = have t y x p b.there b.sort b.held b.split here_before (ap (λ (e : Seen). e.placement) of.same ∙ placed) in
    let desc = ap (λ (e : Seen). e.desc) of.same in
    record {
      speed = ap (λ e. e.speed) (sym desc) ∙ h.speed;
      longest = b.still.longest ∙ h.longest ∙ ap (λ e. e.max) desc;
      multi = b.still.multi ∙ h.multi ∙ ap (λ e. e.multi) desc;
      own = λ u small on. h.own u small (b.still.active u on);
    }
