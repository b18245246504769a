-- What is recent stays recent through the rows that unlink and give back (EHCI 1.0, 2.3.4, 4.6 and 4.7).
--     also n kind recent       .. and one of this kind at n
--     UnlinkIsRecent           the descriptor that a row unlinks is recent from then on
--     UnchainIsRecent          where the command that unlinks the members of an endpoint is finished, what it unlinked is what was removed last
--     ReleaseLeavesRecent      a descriptor is given back
use Rattle.std.specs.Prelude.{◌≡◌, ℕ, ◌*◌, ◌==◌, true, slice_get, Option, Some, if◌then◌else◌}
use Rattle.drv_periodic_table.specs.declared.content.Removed.TheVariants as removed
use Rattle.drv_table.specs.declared.content.Endpoint.{Endpoint}
use Rattle.drv_table.specs.declared.content.Transfer.{Transfer}
use Rattle.drv_table.specs.declared.content.Command.TheVariants as unfinished
use Rattle.drv_table.specs.declared.rows.DriverRow.TheVariants as rows
use Rattle.drv_table.specs.DriverContent.{DriverContent}
use Rattle.drv_table.specs.Parts.{Parts}
use Rattle.drv_table.specs.Rows.{after_driver_row}
use Rattle.drv_table.specs.Commands.{finished}
use Rattle.law_frames.specs.Met.{Kind}
use Rattle.law_descriptors.specs.Recent.{AreRecent}
use Rattle.law_descriptors.specs.Returned.{IsGivenBack}

abbrev pub also : ℕ → Kind → (ℕ → Option Kind) → ℕ → Option Kind
also n kind recent i = if i == n then Some kind else recent i

abbrev pub UnlinkIsRecent : Type 0
UnlinkIsRecent = (p : Parts) (recent : ℕ → Option Kind) (index t : ℕ) (y : Transfer) (kind : Kind) → slice_get p.driver.transfers t ≡ Some y → AreRecent p.driver index recent
    → AreRecent (after_driver_row (rows.Unlink t) p).driver index (also (32 * y.first) kind recent)

abbrev pub UnchainIsRecent : Type 0
UnchainIsRecent = (d : DriverContent) (recent : ℕ → Option Kind) (index e : ℕ) (x : Endpoint) → d.command ≡ Some (unfinished.Unchain e) → slice_get d.endpoints e ≡ Some x → x.chained ≡ true
    → AreRecent d index recent → AreRecent (finished d (unfinished.Unchain e)) index recent

abbrev pub ReleaseLeavesRecent : Type 0
ReleaseLeavesRecent = (p : Parts) (recent : ℕ → Option Kind) (index t : ℕ) (y : Transfer) → IsGivenBack p (removed.Descriptor t) → slice_get p.driver.transfers t ≡ Some y
    → AreRecent p.driver index recent
    → AreRecent (after_driver_row (rows.ReleaseRemoved (removed.Descriptor t)) p).driver index recent
