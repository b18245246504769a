-- What the driver's lists of what leaves tell of the run so far (EHCI 1.0, 2.3.2, 2.3.4, 4.6 and 4.8.2).
--     HasLeft s k e           before event k endpoint e left the ring
--     HasRung s k e           .. and the doorbell was rung since then
--     HasBoundary s at k b    since event `at` FRINDEX was read so, as the boundary tells
--     HasGone s k r           before event k this was unlinked from the frame list, and FRINDEX was read so since then
--     IsHistory s k d         so it is of each that waits, that is rung or cleared, and of each removal; once Async Advance was heard, of each that is rung
--     ScriptsGiveBackLast     the clause `releases` of every script
--     KeptToLentStaysUntouched, ScriptsLeaveWhatIsBack
--                             what is given back is left alone until it is lent again, where words of Lent blocks alone are touched: in the
--                             run of each script that fits
use Rattle.std.specs.Prelude.{◌≡◌, ◌≢◌, ℕ, suc, ◌<◌}
use Rattle.std.specs.List.{AllByRecursion}
use Rattle.script_types.specs.declared.scripts.Script.{Script}
use Rattle.drv_chains.specs.Boundary.{frame_number}
use Rattle.drv_chains.specs.declared.boundary.Boundary.{Boundary}
use Rattle.drv_chains.specs.declared.boundary.Boundary.TheVariants.{Unread, Since, Seen}
use Rattle.drv_periodic_table.specs.declared.content.Removal.{Removal}
use Rattle.drv_table.specs.declared.content.Bell.TheVariants as bells
use Rattle.drv_table.specs.declared.rows.DriverRow.TheVariants as rows
use Rattle.drv_table.specs.DriverContent.{DriverContent}
use Rattle.bus_world.specs.Budgets.{moment}
use Rattle.claims_world.specs.Releases.{Does, LeavesRing, IsUnlinkedAt, Reads, HeardAdvance, GivesBackLast, StaysUntouched}
use Rattle.claims_world.specs.Lent.{KeepsToLentThroughout}
use Rattle.script_fits.specs.Fits.{IsFit}

pub record HasLeft (s : Script) (k e : ℕ) : Type 0 where
  pub unlinking : ℕ
  pub left : LeavesRing (moment s unlinking).world.driver.endpoints (moment s (suc unlinking)).world.driver.endpoints e
  pub one : unlinking < k

pub record HasRung (s : Script) (k e : ℕ) : Type 0 where
  pub ringing : ℕ
  pub left : HasLeft s ringing e
  pub rang : Does s ringing rows.RingBell
  pub two : ringing < k

pub record HasRead (s : Script) (at k frame : ℕ) : Type 0 where
  pub first : ℕ
  pub n : ℕ
  pub read : Reads s first n
  pub number : frame_number n ≡ frame
  pub one : at < first
  pub two : first < k

pub record HasReadTwo (s : Script) (at k : ℕ) : Type 0 where
  pub second : ℕ
  pub m : ℕ
  pub frame : ℕ
  pub read : HasRead s at second frame
  pub again : Reads s second m
  pub differ : frame ≢ frame_number m
  pub three : second < k

abbrev pub HasBoundary : Script → ℕ → ℕ → Boundary → Type 0
HasBoundary s at k Unread = Unit {0}
HasBoundary s at k (Since frame) = HasRead s at k frame
HasBoundary s at k Seen = HasReadTwo s at k

pub record HasGone (s : Script) (k : ℕ) (r : Removal) : Type 0 where
  pub unlinking : ℕ
  pub left : IsUnlinkedAt s unlinking r.what
  pub boundary : HasBoundary s unlinking k r.boundary
  pub one : unlinking < k

pub record IsHistory (s : Script) (k : ℕ) (d : DriverContent) : Type 0 where
  pub waiting : AllByRecursion (HasLeft s k) d.waiting
  pub rung : AllByRecursion (HasRung s k) d.rung
  pub heard : d.bell ≡ bells.Heard → AllByRecursion (λ e. HeardAdvance s e k) d.rung
  pub cleared : AllByRecursion (λ e. HeardAdvance s e k) d.cleared
  pub removals : AllByRecursion (HasGone s k) d.periodic.removals

abbrev pub ScriptsGiveBackLast : Type 0
ScriptsGiveBackLast = (s : Script) → GivesBackLast s

abbrev pub KeptToLentStaysUntouched : Type 0
KeptToLentStaysUntouched = (s : Script) → KeepsToLentThroughout s → StaysUntouched s

abbrev pub ScriptsLeaveWhatIsBack : Type 0
ScriptsLeaveWhatIsBack = (s : Script) → IsFit s → StaysUntouched s
