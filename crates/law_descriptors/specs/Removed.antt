-- What was unlinked from the frame list and may still be met (EHCI 1.0, 2.3.4, 4.6 and 4.7).
--     IsRemovedAt xs ts n what         what was removed has a structure at byte address n
--     IsRemovedSince, IsUnchainedNow   it was removed, and no later frame was read; or an unfinished command unlinks it
use Rattle.std.specs.Prelude.{◌≡◌, ℕ, ◌*◌, true, false, List, slice_get, Option, Some}
use Rattle.drv_periodic_table.specs.declared.content.Removal.{Removal}
use Rattle.drv_periodic_table.specs.declared.content.Removed.{Removed}
use Rattle.drv_periodic_table.specs.declared.content.Removed.TheVariants as removed
use Rattle.drv_table.specs.declared.content.Command.{Command}
use Rattle.drv_table.specs.declared.content.Command.TheVariants as unfinished
use Rattle.drv_table.specs.declared.content.Endpoint.{Endpoint}
use Rattle.drv_table.specs.declared.content.Transfer.{Transfer}
use Rattle.drv_table.specs.DriverContent.{waits_for}
use Rattle.drv_table.specs.Kinds.{is_iso}
use Rattle.claims_driver.specs.Owners.{is_descriptor}
use Rattle.claims_driver.specs.Unlinked.{IsOpenAt}

-- a transfer's descriptor; the queue head of an interrupt endpoint; or a descriptor that waited at an isochronous endpoint
pub data IsRemovedAt (xs : List Endpoint) (ts : List Transfer) (n : ℕ) : Removed → Type 0 where
  a_descriptor : (t : ℕ) (y : Transfer) → slice_get ts t ≡ Some y → n ≡ 32 * y.first → IsRemovedAt xs ts n (removed.Descriptor t)
  a_queue : (e : ℕ) (x : Endpoint) → slice_get xs e ≡ Some x → is_iso x.desc.kind ≡ false → n ≡ 32 * x.queue → IsRemovedAt xs ts n (removed.Endpoint e)
  a_waiting : (e t : ℕ) (x : Endpoint) (y : Transfer) → slice_get xs e ≡ Some x → is_iso x.desc.kind ≡ true → slice_get ts t ≡ Some y → is_descriptor y.sort ≡ true
      → waits_for e y ≡ true → n ≡ 32 * y.first → IsRemovedAt xs ts n (removed.Endpoint e)

pub record IsRemovedSince (xs : List Endpoint) (ts : List Transfer) (rs : List Removal) (index n : ℕ) : Type 0 where
  pub place : ℕ
  pub removal : Removal
  pub here : slice_get rs place ≡ Some removal
  pub what : IsRemovedAt xs ts n removal.what
  pub within : IsOpenAt index removal.boundary

pub record IsUnchainedNow (xs : List Endpoint) (ts : List Transfer) (o : Option Command) (n : ℕ) : Type 0 where
  pub endpoint : ℕ
  pub command : o ≡ Some (unfinished.Unchain endpoint)
  pub what : IsRemovedAt xs ts n (removed.Endpoint endpoint)
