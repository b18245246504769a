-- Each iTD that was harvested stays served over an event of the driver: what it reports next was served then.
use Rattle.std.proofs.Common.{◌≡◌, ◌≢◌, ℕ, zero, suc, ◌+◌, ◌*◌, ◌/◌, ◌<◌, Bool, true, false, List, [], ◌∷◌, set, slice_get, slice_index, Option, Some, ap, refl, sym, subst, ◌∙◌, ⊎_elim, inl, inr, arith, if◌then◌else◌}
use Rattle.std.specs.Prelude.{◌⊎◌}
use Rattle.std.specs.List.{list_any}
use Rattle.std.proofs.lemmas.Bool.{false≢true, or_parts, cases_eq, not-true}
use Rattle.std.proofs.lemmas.Option.{same_Some}
use Rattle.law_common.proofs.Lists.{set_there}
use Rattle.law_driver.proofs.Common.{waits_is}
use Rattle.word_mem.specs.Memory.{Mem}
use Rattle.word_mem.specs.Views.{words_in}
use Rattle.itd_sitd.specs.Slot.{slot_at}
use Rattle.itd_sitd.specs.Itd.{slot_of, itd_at}
use Rattle.bandwidth.specs.Placements.{below}
use Rattle.drv_periodic_table.specs.Periodic.{note_at}
use Rattle.drv_periodic_table.specs.Descriptors.{slot_in, sitd_in, itd_is_active, is_served, errors_in}
use Rattle.drv_table.specs.declared.content.Endpoint.{Endpoint}
use Rattle.drv_table.specs.declared.content.Sort.{Sort}
use Rattle.drv_table.specs.declared.content.Sort.TheVariants as sorts
use Rattle.drv_table.specs.declared.content.Transfer.{Transfer}
use Rattle.drv_table.specs.declared.rows.DriverRow.{DriverRow}
use Rattle.drv_table.specs.declared.rows.DriverRow.TheVariants as rows
use Rattle.drv_table.specs.declared.rows.Found.{Found}
use Rattle.drv_table.specs.declared.rows.Found.TheVariants as founds
use Rattle.drv_table.specs.DriverContent.{DriverContent, waits_for}
use Rattle.drv_table.specs.Kinds.{is_iso}
use Rattle.drv_table.specs.Harvesting.{found_of, served, harvested_as, after_harvest}
use Rattle.drv_table.specs.Rows.{driver_row, after_driver_row}
use Rattle.law_driver.specs.run_owners.Due.{IsDue, IsHarvestDue}
use Rattle.claims_driver.specs.Owners.{is_descriptor}
use Rattle.law_driver.proofs.lemmas.run_owners.Reasons.{each_event_is_due}
use Rattle.bus_world.specs.World.{World, driver_parts, driver_next}
use Rattle.law_world.specs.memory.Mixed.{IsMixedWorld}
use Rattle.law_microframes.specs.visits.DescriptorFields.{itd_in, IsServed, HarvestedAreServed, DriverKeepsItds}
use Rattle.law_microframes.proofs.lemmas.visits.BelongItds.{off_still}
use Rattle.law_microframes.proofs.lemmas.visits.BelongTold.{Reports}
use Rattle.law_microframes.proofs.lemmas.visits.BelongItdRows.{HadItd, had_itd, driver_keeps_itd_fields}

-- ---- a descriptor that is served

word_of_slot : (ws : List ℕ) (a b : ℕ) → a ≡ b → slot_at (slice_index ws (a / 4)) ≡ slot_at (slice_index ws (b / 4))
word_of_slot ws a b same = ap (λ (i : ℕ). slot_at (slice_index ws (i / 4))) same

slot_is : (m : Mem) (b u : ℕ) → u < 8 → slot_of u (itd_in m b) ≡ slot_in m b u
unfolding itd_at words_in
slot_is m b zero small = word_of_slot m.words _ (32 * b + 4 + 4 * 0) (omega arith)
slot_is m b (suc zero) small = word_of_slot m.words _ (32 * b + 4 + 4 * 1) (omega arith)
slot_is m b (suc (suc zero)) small = word_of_slot m.words _ (32 * b + 4 + 4 * 2) (omega arith)
slot_is m b (suc (suc (suc zero))) small = word_of_slot m.words _ (32 * b + 4 + 4 * 3) (omega arith)
slot_is m b (suc (suc (suc (suc zero)))) small = word_of_slot m.words _ (32 * b + 4 + 4 * 4) (omega arith)
slot_is m b (suc (suc (suc (suc (suc zero))))) small = word_of_slot m.words _ (32 * b + 4 + 4 * 5) (omega arith)
slot_is m b (suc (suc (suc (suc (suc (suc zero)))))) small = word_of_slot m.words _ (32 * b + 4 + 4 * 6) (omega arith)
slot_is m b (suc (suc (suc (suc (suc (suc (suc zero))))))) small = word_of_slot m.words _ (32 * b + 4 + 4 * 7) (omega arith)
slot_is m b (suc (suc (suc (suc (suc (suc (suc (suc u)))))))) small = absurd (omega (arith, small))

any_none : (test : ℕ → Bool) (xs : List ℕ) (i x : ℕ) → list_any test xs ≡ false → slice_get xs i ≡ Some x → test x ≡ false
any_none test [] i x none here = absurd (cc)
any_none test (y ∷ xs) zero x none here = ap test (sym (same_Some y x here)) ∙ (or_parts (test y) (list_any test xs) none).0
any_none test (y ∷ xs) (suc i) x none here = any_none test xs i x (or_parts (test y) (list_any test xs) none).1 here

below_eight : (u : ℕ) → u < 8 → slice_get (below 8) u ≡ Some u
below_eight (suc (suc (suc (suc (suc (suc (suc (suc u)))))))) small = absurd (omega (arith, small))
below_eight _ small = refl

served_is : (d : DriverContent) (m : Mem) (b : ℕ) → (note_at d.periodic.notes b).split ≡ false → is_served (note_at d.periodic.notes b) m b ≡ true → IsServed (itd_in m b)
served_is d m b split served u small =
    let off : itd_is_active m b ≡ false = subst (λ (c : Bool). (if c then (sitd_in m b).active else itd_is_active m b) ≡ false) split (not-true _ served) in
    ap (λ s. s.active) (slot_is m b u small) ∙ any_none (λ (i : ℕ). (slot_in m b i).active) (below 8) u u off (below_eight u small)

-- ---- a harvest of a descriptor

sort_is : (o : Sort) → is_descriptor o ≡ true → o ≡ sorts.Descriptor
sort_is sorts.Descriptor is = refl
sort_is _ is = absurd (false≢true is)

module _ (d : DriverContent) (m : Mem) (e v t : ℕ) (x : Endpoint) (y z : Transfer) (there : slice_get d.transfers v ≡ Some y) where
  -- whose it is after it: as it was, or it is the one that was served
  abbrev Result : Type 0
  Result = (slice_get d.transfers t ≡ Some z) ⊎ ((t ≡ v) × (is_served (note_at d.periodic.notes y.first) m y.first ≡ true))

  waited : (found : Found) (waits : Bool) → waits_for e y ≡ waits → slice_get (after_harvest d m e v found (Some x) (Some y)).transfers t ≡ Some z
      → slice_get (if waits then served (harvested_as d m e v x y found) e else d).transfers t ≡ Some z
  waited found waits is at = subst (λ (c : Bool). slice_get (if c then served (harvested_as d m e v x y found) e else d).transfers t ≡ Some z) is at

  by_served : (b : Bool) → is_served (note_at d.periodic.notes y.first) m y.first ≡ b → (waits : Bool) → waits_for e y ≡ waits
      → slice_get (after_harvest d m e v (if b then founds.Served (errors_in (note_at d.periodic.notes y.first) m y.first) else founds.Active) (Some x) (Some y)).transfers t ≡ Some z → Result
  by_served b is false waits at = inl (waited (if b then founds.Served (errors_in (note_at d.periodic.notes y.first) m y.first) else founds.Active) false waits at)
  by_served false is true waits at = inl (waited founds.Active true waits at)
  by_served true is true waits at =
      let now : slice_get (set d.transfers v (record y { reported = true })) t ≡ Some z = waited (founds.Served (errors_in (note_at d.periodic.notes y.first) m y.first)) true waits at in
      ⊎_elim {C = (slice_get d.transfers t ≡ Some z) ⊎ ((t ≡ v) × (is_served (note_at d.periodic.notes y.first) m y.first ≡ true))}
      (λ (own : t ≡ v). inr (own, is)) (λ (other : t ≢ v). inl (sym (set_there d.transfers v t (record y { reported = true }) other) ∙ now)) (cases_eq t v)

-- ---- each event

served_after : (w : World) → (mixed : IsMixedWorld w) → HarvestedAreServed w.driver w.memory → (t : ℕ) (z : Transfer) → (b : HadItd w t z) → slice_get (driver_next w).driver.transfers t ≡ Some z → z.reported ≡ true
    → (row : DriverRow) → driver_row (driver_parts w) ≡ row → Reports row b.before.endpoint → IsServed (itd_in w.memory b.before.first)
served_after w mixed old t z b after reported (rows.Harvest e v found) is same =
    let d = w.driver in
    let parts = driver_parts w in
    let orderly = mixed.mixed.now.framed.place.sound.owners.orderly in
    let y = b.before in
    let due : IsHarvestDue parts e v found = subst (IsDue parts) is (each_event_is_due parts) in
    let a = due.transfer in
    let at_endpoint : a.endpoint ≡ e = (waits_is e a due.waits).0 in
    let iso : is_iso due.endpoint.desc.kind ≡ true = sym (orderly.sorts t y due.endpoint b.there (ap (slice_get d.endpoints) same ∙ due.here)) ∙ b.sort in
    let sort : a.sort ≡ sorts.Descriptor = sort_is a.sort (orderly.sorts v a due.endpoint due.there (ap (slice_get d.endpoints) at_endpoint ∙ due.here) ∙ iso) in
    let tells = due.tells ∙ ap (found_of d w.memory a) sort in
    let now = subst (λ (row : DriverRow). slice_get (after_driver_row row parts).driver.transfers t ≡ Some z) is after in
    let here = subst (λ (o : Option Transfer). slice_get (after_harvest d w.memory e v found (Some due.endpoint) o).transfers t ≡ Some z) due.there
    (subst (λ (o : Option Endpoint). slice_get (after_harvest d w.memory e v found o (slice_get d.transfers v)).transfers t ≡ Some z) due.here now) in
    ⊎_elim {C = IsServed (itd_in w.memory b.before.first)}
    (λ (was : slice_get d.transfers t ≡ Some z). old t y b.there b.sort (ap (λ (c : Transfer). c.reported) (same_Some y z (sym b.there ∙ was)) ∙ reported) b.held b.split)
    (λ (served : (t ≡ v) × (is_served (note_at d.periodic.notes a.first) w.memory a.first ≡ true)).
    let own : a ≡ y = same_Some a y (sym due.there ∙ ap (slice_get d.transfers) (sym served.0) ∙ b.there) in
    served_is d w.memory y.first b.split (subst (λ (c : Transfer). is_served (note_at d.periodic.notes c.first) w.memory c.first ≡ true) own served.1))
    (by_served d w.memory e v t due.endpoint a z due.there (is_served (note_at d.periodic.notes a.first) w.memory a.first) refl (waits_for e a) refl
    (subst (λ (f : Found). slice_get (after_harvest d w.memory e v f (Some due.endpoint) (Some a)).transfers t ≡ Some z) tells here))
served_after w mixed old t z b after reported _ is same = absurd same

driver_keeps_served : (w : World) → IsMixedWorld w → HarvestedAreServed w.driver w.memory → HarvestedAreServed (driver_next w).driver (driver_next w).memory
driver_keeps_served w mixed old t z after sort reported held split u small =
    let b = had_itd w t z mixed after sort held split in
    let before : IsServed (itd_in w.memory b.before.first) =
    ⊎_elim {C = IsServed (itd_in w.memory b.before.first)} (λ (was : b.before.reported ≡ true). old t b.before b.there b.sort was b.held b.split)
    (λ (is : Reports (driver_row (driver_parts w)) b.before.endpoint). served_after w mixed old t z b after reported (driver_row (driver_parts w)) refl is) (b.told reported) in
    off_still (itd_in w.memory b.before.first) (itd_in (driver_next w).memory z.first) u b.still (before u small)

pub driver_keeps_itds : DriverKeepsItds
driver_keeps_itds w mixed old = record { fields = driver_keeps_itd_fields w mixed old.fields; served = driver_keeps_served w mixed old.served }
