-- A descriptor is given back, with its buffer.
use Rattle.std.proofs.Common.{◌≡◌, ◌≢◌, ℕ, ◌*◌, ◌≤◌, Bool, true, false, List, ◌∷◌, slice_get, Option, Some, None, if◌then◌else◌, option_map, inl, inr, ap, refl, sym, subst, ◌∙◌, not, ◌&&◌, arith}
use Rattle.std.specs.Prelude.{◌==◌}
use Rattle.std.proofs.lemmas.Bool.{true≢false, eqb-true, eq-eqb}
use Rattle.std.proofs.lemmas.Option.{same_Some}
use Rattle.law_common.proofs.Lists.{set_here, set_there}
use Rattle.law_common.proofs.Booleans.{owed_by}
use Rattle.mem_runs.specs.Book.{Holding, holding, slot_of}
use Rattle.mem_runs.specs.declared.slots.Slot.{Slot}
use Rattle.drv_periodic_table.specs.declared.content.Removed.TheVariants as removed
use Rattle.drv_table.specs.declared.content.Transfer.{Transfer}
use Rattle.drv_table.specs.Parts.{Parts}
use Rattle.drv_table.specs.Removals.{after_descriptor}
use Rattle.drv_table.specs.Releases.{free_runs}
use Rattle.claims_driver.specs.Owners.{Owner, Buffer, IsPlaced, TransferRuns, Views, is_descriptor, runs_of_transfer, descriptor_in, IsDescribed, views_of, IsOneOf}
use Rattle.claims_driver.specs.Leaving.{times, transfers_in, owes, HasOwners}
use Rattle.law_driver.proofs.lemmas.run_owners.Freeing.{descriptor_freed}
use Rattle.law_structures.specs.lent_structures.Structures.{StructureSets}
use Rattle.law_driver_ring.specs.Inventory.{IsLent}
use Rattle.law_driver_ring.proofs.Blocks.{all_one}
use Rattle.law_driver_ring.proofs.Freeing.{IsLess, runs_less}
use Rattle.law_controller.specs.frame_control.Both.{RunsBoth}
use Rattle.law_descriptors.specs.Both.{both}
use Rattle.law_descriptors.specs.PartLaws.{IsDescribing}
use Rattle.law_descriptors.specs.Told.{IsToldBy, with_memory, as_parts}
use Rattle.law_descriptors.specs.Meeting.{met}
use Rattle.law_descriptors.specs.Returned.{IsGivenBack}
use Rattle.law_descriptors.specs.Given.{without_owners, begins_at, ReleaseTold, ReleaseRunsBoth}
use Rattle.law_descriptors.proofs.Owned.{descriptor_owner, is_described}
use Rattle.law_descriptors.proofs.Returning.{transfer_counts, descriptors_are_unmet}
use Rattle.law_descriptors.proofs.GivenViews.{goes_with, DescriptorsGo, told_without}
use Rattle.law_descriptors.proofs.GivenTold.{IsGoneRun, freed_told, runs_without}

pub lent_before : (now s : Slot) → IsLess now s → IsLent now → IsLent s
lent_before now s (inl same) lent = subst IsLent same lent
lent_before now s (inr empty) lent = absurd (subst IsLent empty lent)

-- the run of a descriptor, or of its buffer, is that of its transfer
pub gone_run : (v : Views) (owner : ℕ → Owner) (gone : ℕ → Bool) (t b : ℕ) (y : TransferRuns) (c : ℕ) → v.transfer t ≡ Some y → y.isochronous ≡ true → gone t ≡ true
    → IsDescribed v.slot owner (v.descriptor b) t b
    → IsOneOf c (b ∷ (v.descriptor b).buffer) → IsGoneRun v owner gone c
gone_run v owner gone t b y c here iso goes is (inl same) = record {
  number = t;
  goes = goes;
  owned = ap (λ (i : ℕ). descriptor_owner v.transfer (owner i)) same ∙ ap (descriptor_owner v.transfer) is.descriptor.owned;
}
gone_run v owner gone t b y c here iso goes is (inr among) = record {
  number = t;
  goes = goes;
  owned = ap (descriptor_owner v.transfer) (all_one (λ i. IsPlaced v.slot owner i (Buffer t)) (v.descriptor b).buffer c is.buffers among).owned
      ∙ ap (λ (x : Bool). if x then Some t else None) (ap is_described here ∙ iso);
}

module _ (p : Parts) (t : ℕ) (y : Transfer) (has : HasOwners p.driver) (why : IsGivenBack p (removed.Descriptor t)) (here : slice_get p.driver.transfers t ≡ Some y) where
  abbrev v : Views
  v = views_of p.driver

  abbrev h : Holding
  h = holding p.driver.book p.memory

  abbrev blocks : List ℕ
  blocks = y.first ∷ (descriptor_in p.driver.periodic.notes y.first).buffer

  abbrev after : Parts
  after = after_descriptor p t (Some y)

  abbrev w : Views
  w = views_of after.driver

  abbrev gone : ℕ → Bool
  gone u = u == t

  its_count : 1 ≤ times t (transfers_in p.driver.periodic.removals)
  its_count = transfer_counts t p.driver.periodic.removals 0 why.due.removal why.due.first why.due.is

  sort_is : is_descriptor y.sort ≡ true
  sort_is = let counts = its_count in has.orderly.unlinked t y (omega (arith, counts)) here

  held_is : y.released ≡ false
  held_is =
      let most = has.orderly.harvests t in
      let owes_it : owes (slice_get p.driver.transfers t) ≡ (if y.reported && not y.released then 1 else 0) = ap owes here in
      let counts = its_count in
      (owed_by y.reported y.released (omega (arith, counts, most, owes_it))).1

  there : v.transfer t ≡ Some (runs_of_transfer y)
  there = ap (option_map runs_of_transfer) here

  described : IsDescribed v.slot has.owner (v.descriptor y.first) t y.first
  described = has.owned.each.described t (runs_of_transfer y) there sort_is held_is

  now_gone : (u : ℕ) (z : TransferRuns) → u ≡ t → w.transfer u ≡ Some z → (z.isochronous ≡ true) × (z.released ≡ true)
  now_gone u z same at =
      let is : runs_of_transfer (record y { released = true }) ≡ z =
      same_Some (runs_of_transfer (record y { released = true })) z
      (sym (ap (option_map runs_of_transfer) (set_here p.driver.transfers t y (record y { released = true }) here)) ∙ ap w.transfer (sym same) ∙ at) in
      (ap (λ (r : TransferRuns). r.isochronous) (sym is) ∙ sort_is, ap (λ (r : TransferRuns). r.released) (sym is))

  others_differ : (u : ℕ) → gone u ≡ false → u ≢ t
  others_differ u off same = true≢false (sym (eq-eqb u t same) ∙ off)

  pub goes : DescriptorsGo v w has.owner gone (begins_at y.first)
  goes = record {
    owned = has.owned.each;
    each = λ u on.
        let same : u ≡ t = eqb-true u t on in
        record { transfer = runs_of_transfer y; here = ap v.transfer same ∙ there; isochronous = sort_is; held = held_is; now = λ z at. now_gone u z same at };
    others = λ u off. ap (option_map runs_of_transfer) (set_there p.driver.transfers t u (record y { released = true }) (others_differ u off));
    lent = λ c lent. lent_before (slot_of (free_runs h blocks).book.slots c) (slot_of p.driver.book.slots c) (runs_less h blocks c) lent;
    kept = λ c off. descriptor_freed (slot_of p.driver.book.slots) has.owner (goes_with gone) p.driver.periodic.notes h t y.first c off (λ split. eq-eqb t t refl) (eq-eqb t t refl) described;
    endpoints = λ e. refl;
    notes = λ b. refl;
    descriptors = λ b. refl;
    named = λ u z at on.
        let is : runs_of_transfer y ≡ z = same_Some (runs_of_transfer y) z (sym there ∙ ap v.transfer (sym (eqb-true u t on)) ∙ at) in
        eq-eqb (32 * z.first) (32 * y.first) (ap (λ (r : TransferRuns). 32 * r.first) (sym is));
    back = λ n on. record { number = t; transfer = runs_of_transfer y; here = there; goes = eq-eqb t t refl; name = eqb-true n (32 * y.first) on };
  }

  pub told_on : (descs parts : StructureSets) → IsToldBy v descs parts → IsToldBy w (without_owners descs (begins_at y.first)) parts
  told_on descs parts told = told_without v w has.owner gone (begins_at y.first) goes descs parts told

  pub run_gone : (c : ℕ) → IsOneOf c blocks → IsGoneRun v has.owner gone c
  run_gone c among = gone_run v has.owner gone t y.first (runs_of_transfer y) c there sort_is (eq-eqb t t refl) described among

pub release_told : ReleaseTold
release_told p t y descs parts has why here told =
    subst (λ (o : Option Transfer). IsToldBy (views_of (after_descriptor p t o).driver) (without_owners descs (begins_at y.first)) parts) (sym here) (told_on p t y has why here descs parts told)

pub release_runs_both : ReleaseRunsBoth
release_runs_both base member recent descs parts hand frame c index d t y has listed stands are why here told runs =
    let p : Parts = as_parts c d in
    let k : IsDescribing d descs parts = record { owners = has; driven = told.driven; described = told.described } in
    let go = goes p t y has why here in
    subst (λ (o : Option Transfer). RunsBoth base member (met (after_descriptor p t o).driver recent) (both (without_owners descs (begins_at y.first)) parts) hand frame
    (with_memory c (after_descriptor p t o).memory)) (sym here)
    (runs_without d c.memory descs parts k told.extents stands (views_of (after_descriptor p t (Some y)).driver) (gone p t y has why here) (begins_at y.first) go base member (met d recent) hand
    frame c
    (after_descriptor p t (Some y)).memory runs
    (freed_told d c.memory descs parts k told.extents stands (views_of (after_descriptor p t (Some y)).driver) (gone p t y has why here) (begins_at y.first) go (blocks p t y has why here)
    (run_gone p t y has why here) runs.ring.tells)
    (λ n on. ap (met d recent) (eqb-true n (32 * y.first) on) ∙ descriptors_are_unmet p recent index t y has listed are why here))
