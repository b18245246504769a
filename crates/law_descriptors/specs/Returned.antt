-- What is given back (EHCI 1.0, 2.3.4 and 4.6): a descriptor that was unlinked, once two readings of FRINDEX had different frame numbers.
--     IsGivenBack p what      what was removed first is given back next
--     DescriptorsAreUnmet     the descriptor that is given back next isn't met
--     WaitingAreUnmet         nor is one that waits at an isochronous endpoint which is given back next, with all that it still had in its frames
use Rattle.std.specs.Prelude.{◌≡◌, ℕ, ◌*◌, true, slice_get, Option, Some, None}
use Rattle.drv_chains.specs.Boundary.{is_seen}
use Rattle.drv_periodic_table.specs.declared.content.Removed.{Removed}
use Rattle.drv_periodic_table.specs.declared.content.Removed.TheVariants as removed
use Rattle.drv_table.specs.declared.content.Endpoint.{Endpoint}
use Rattle.drv_table.specs.declared.content.Transfer.{Transfer}
use Rattle.drv_table.specs.DriverContent.{waits_for}
use Rattle.drv_table.specs.Parts.{Parts}
use Rattle.drv_table.specs.Kinds.{is_iso}
use Rattle.claims_driver.specs.Owners.{is_descriptor}
use Rattle.law_driver.specs.run_owners.Due.{IsRemovalDue}
use Rattle.claims_driver.specs.Leaving.{HasOwners}
use Rattle.law_driver.specs.listed_members.Members.{IsListed}
use Rattle.law_frames.specs.Met.{Kind}
use Rattle.law_descriptors.specs.Meeting.{met}
use Rattle.law_descriptors.specs.Recent.{AreRecent}

pub record IsGivenBack (p : Parts) (what : Removed) : Type 0 where
  pub due : IsRemovalDue p what
  pub seen : is_seen due.removal.boundary ≡ true

abbrev pub DescriptorsAreUnmet : Type 0
DescriptorsAreUnmet = (p : Parts) (recent : ℕ → Option Kind) (index t : ℕ) (y : Transfer) → HasOwners p.driver → IsListed p.driver → AreRecent p.driver index recent
    → IsGivenBack p (removed.Descriptor t) → slice_get p.driver.transfers t ≡ Some y → met p.driver recent (32 * y.first) ≡ None

abbrev pub WaitingAreUnmet : Type 0
WaitingAreUnmet = (p : Parts) (recent : ℕ → Option Kind) (index e t : ℕ) (x : Endpoint) (y : Transfer) → HasOwners p.driver → IsListed p.driver → AreRecent p.driver index recent
    → IsGivenBack p (removed.Endpoint e) → slice_get p.driver.endpoints e ≡ Some x → is_iso x.desc.kind ≡ true → slice_get p.driver.transfers t ≡ Some y → is_descriptor y.sort ≡ true
    → waits_for e y ≡ true → met p.driver recent (32 * y.first) ≡ None
