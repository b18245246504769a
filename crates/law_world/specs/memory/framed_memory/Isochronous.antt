-- What a driver has of isochronous endpoints (EHCI 1.0, 3.3, 3.4, 4.6 and 4.7; USB 2.0, 5.6), beside a controller that walks a ring and the frames.
--     IsFramesCommand command    the unfinished command has isochronous descriptors, or unlinks the members of an endpoint
--     AreNumbered d              the numbers of each endpoint fit their fields (USB 2.0, 8.3.2; EHCI 1.0, 3.3.3 and 3.4.2)
--     LeavingHaveEnded d         an endpoint whose members the unfinished command unlinks, and one that has left its frames and is still to be given back, has ended
--     AreAwaiting d m            the descriptors of the unfinished command are written in runs that the driver alone may touch, until they are lent
use Rattle.std.specs.Prelude.{◌≡◌, ◌≢◌, ℕ, ◌<◌, slice_get, Option, Some, None, unwrap_or}
use Rattle.usb_base.specs.declared.endpoints.EpDesc.{EpDesc}
use Rattle.word_mem.specs.Memory.{Mem}
use Rattle.drv_periodic_table.specs.declared.content.Removal.{Removal}
use Rattle.drv_periodic_table.specs.declared.content.Removed.TheVariants as removed
use Rattle.drv_table.specs.declared.content.Endpoint.{Endpoint}
use Rattle.drv_table.specs.declared.content.Command.{Command}
use Rattle.drv_table.specs.declared.content.Command.TheVariants as unfinished
use Rattle.drv_table.specs.DriverContent.{DriverContent}
use Rattle.law_descriptors.specs.Written.{DescriptorsAwaitLend}

-- ---- the driver's content

abbrev pub IsFramesCommand : Option Command → Type 0
IsFramesCommand None = Unit {0}
IsFramesCommand (Some (unfinished.Iso e t count)) = Unit {0}
IsFramesCommand (Some (unfinished.Unchain e)) = Unit {0}
IsFramesCommand _ = ⊥

pub record NumbersFit (x : EpDesc) : Type 0 where
  pub addr : x.name.addr < 128
  pub num : x.name.num < 16
  pub hub : unwrap_or x.hub 0 < 128

abbrev pub AreNumbered : DriverContent → Type 0
AreNumbered d = (e : ℕ) (x : Endpoint) → slice_get d.endpoints e ≡ Some x → NumbersFit x.desc

pub record LeavingHaveEnded (d : DriverContent) : Type 0 where
  pub unchained : (e : ℕ) (x : Endpoint) → d.command ≡ Some (unfinished.Unchain e) → slice_get d.endpoints e ≡ Some x → x.ended ≢ None
  pub removed_ended : (i e : ℕ) (r : Removal) (x : Endpoint) → slice_get d.periodic.removals i ≡ Some r → r.what ≡ removed.Endpoint e → slice_get d.endpoints e ≡ Some x
      → x.ended ≢ None

-- ---- what a command has still to lend

pub record AwaitsLend (d : DriverContent) (m : Mem) (e t : ℕ) : Type 0 where
  pub endpoint : Endpoint
  pub here : slice_get d.endpoints e ≡ Some endpoint
  pub await : DescriptorsAwaitLend d m t endpoint.desc

-- its own events are two: it gets its frames, and lends
abbrev pub AreAwaiting : DriverContent → Mem → Type 0
AreAwaiting d m = (e t count : ℕ) → d.command ≡ Some (unfinished.Iso e t count) → d.made < 2 → AwaitsLend d m e t
