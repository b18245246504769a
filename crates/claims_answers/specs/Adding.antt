-- What an accepted command adds to what a driver has, and that it changes no other endpoint or transfer (EHCI 1.0, 3.3 to 3.5, 4.6 to 4.8
-- and 4.10; USB 2.0, 5.5 to 5.8).
--     standings d              of each endpoint its description, its end, and whether it was cancelled and given back
--     bytes_asked cmd          as many bytes as the command moves
--     IsUnbegun y              nothing of the transfer is read, told or given back
--     AddsEndpoint d x new     an open adds one endpoint of this description
--     AddsTransfer d cmd new   a get, a put or a request is one transfer, whose qTDs have these bytes
--     AddsDescriptors ..       isochronous transfers are so many, each with the slots of its endpoint
--     Cancels d n new          a cancel ends its endpoint, if it didn't end before
--     IsAdded d cmd new        what stands once the command is accepted
use Rattle.std.specs.List.{AllByRecursion, sum_by}
use Rattle.std.specs.Prelude.{◌≡◌, ℕ, ◌≤◌, Bool, true, false, List, [], ◌∷◌, ◌++◌, length, map, slice_get, slice_set, Option, Some, None}
use Rattle.usb_base.specs.declared.commands.Cmd.{Cmd}
use Rattle.usb_base.specs.declared.commands.Cmd.TheVariants as commands
use Rattle.usb_base.specs.declared.endpoints.EndCause.{EndCause}
use Rattle.usb_base.specs.declared.endpoints.EndCause.TheVariants as causes
use Rattle.usb_base.specs.declared.endpoints.EpDesc.{EpDesc}
use Rattle.drv_table.specs.declared.content.Endpoint.{Endpoint}
use Rattle.drv_table.specs.declared.content.Sort.{Sort}
use Rattle.drv_table.specs.declared.content.Sort.TheVariants as sorts
use Rattle.drv_table.specs.declared.content.Transfer.{Transfer}
use Rattle.drv_table.specs.DriverContent.{DriverContent}
use Rattle.drv_table.specs.Harvests.{note_at}
use Rattle.claims_answers.specs.Refusals.{number_for, data_bytes, slot_of, slots_bytes}
use Rattle.claims_answers.specs.Telling.{qtds_of}

-- ---- endpoints

pub record Standing : Type 0 where
  pub desc : EpDesc
  pub ended : Option EndCause
  pub cancelled : Bool
  pub gone : Bool

abbrev pub standing_of : Endpoint → Standing
standing_of x = record { desc = x.desc; ended = x.ended; cancelled = x.cancelled; gone = x.gone }

abbrev pub standings : DriverContent → List Standing
standings d = map standing_of d.endpoints

abbrev pub opened_as : EpDesc → Standing
opened_as x = record { desc = x; ended = None; cancelled = false; gone = false }

pub record AddsEndpoint (d : DriverContent) (x : EpDesc) (new : DriverContent) : Type 0 where
  pub endpoints : standings new ≡ standings d ++ opened_as x ∷ []
  pub transfers : new.transfers ≡ d.transfers

abbrev pub ended_by : Option EndCause → Option EndCause
ended_by None = Some causes.Cancel
ended_by (Some cause) = Some cause

pub record Cancels (d : DriverContent) (n : ℕ) (new : DriverContent) : Type 0 where
  pub endpoint : Endpoint
  pub here : slice_get d.endpoints n ≡ Some endpoint
  pub endpoints : standings new
      ≡ slice_set (standings d) n (record (standing_of endpoint) { cancelled = true; ended = ended_by endpoint.ended })
  pub transfers : new.transfers ≡ d.transfers

-- ---- transfers

pub record IsUnbegun (y : Transfer) : Type 0 where
  pub place : y.place ≡ y.first
  pub untold : y.reported ≡ false
  pub held : y.released ≡ false

-- SETUP and status move none of the bytes that a line tells (USB 2.0, 8.5.3)
abbrev pub bytes_asked : Cmd → ℕ
bytes_asked (commands.Get name len by) = len
bytes_asked (commands.Put name bytes by) = length bytes
bytes_asked (commands.Control name setup bytes) = data_bytes setup
bytes_asked _ = 0

abbrev pub sort_asked : Cmd → Sort
sort_asked (commands.Get name len by) = sorts.Get
sort_asked (commands.Put name bytes by) = sorts.Put
sort_asked (commands.Control name setup bytes) = sorts.Request
sort_asked _ = sorts.Descriptor

pub record AddsTransfer (d : DriverContent) (cmd : Cmd) (new : DriverContent) : Type 0 where
  pub transfer : Transfer
  pub added : new.transfers ≡ d.transfers ++ transfer ∷ []
  pub endpoint : transfer.endpoint ≡ number_for d cmd
  pub of : Endpoint
  pub here : slice_get d.endpoints transfer.endpoint ≡ Some of
  pub sort : transfer.sort ≡ sort_asked cmd
  pub most : transfer.most ≡ bytes_asked cmd
  pub unbegun : IsUnbegun transfer
  pub left : transfer.left ≡ transfer.qtds
  pub some : 1 ≤ transfer.qtds
  pub bytes : sum_by (λ b. (note_at new.notes b).told) (qtds_of new.notes transfer.first transfer.qtds) ≡ bytes_asked cmd
  pub endpoints : standings new ≡ standings d

-- ---- isochronous transfers

-- it is one of the endpoint n, with slots of `len` bytes where it sends
pub record IsDescriptorFor (n : ℕ) (x : Endpoint) (len : ℕ) (y : Transfer) : Type 0 where
  pub endpoint : y.endpoint ≡ n
  pub sort : y.sort ≡ sorts.Descriptor
  pub most : y.most ≡ slots_bytes x (slot_of x len)
  pub unbegun : IsUnbegun y

pub record AddsDescriptors (d : DriverContent) (n count len : ℕ) (new : DriverContent) : Type 0 where
  pub endpoint : Endpoint
  pub here : slice_get d.endpoints n ≡ Some endpoint
  pub more : List Transfer
  pub added : new.transfers ≡ d.transfers ++ more
  pub many : length more ≡ count
  pub each : AllByRecursion (IsDescriptorFor n endpoint len) more
  pub endpoints : standings new ≡ standings d

-- ---- any command

-- no clear, and nothing of a root port or a disk, is accepted
abbrev pub IsAdded : DriverContent → Cmd → DriverContent → Type 0
IsAdded d (commands.OpenEp x) new = AddsEndpoint d x new
IsAdded d (commands.Get name len by) new = AddsTransfer d (commands.Get name len by) new
IsAdded d (commands.Put name bytes by) new = AddsTransfer d (commands.Put name bytes by) new
IsAdded d (commands.Control name setup bytes) new = AddsTransfer d (commands.Control name setup bytes) new
IsAdded d (commands.Iso name count len seed) new = AddsDescriptors d (number_for d (commands.Iso name count len seed)) count len new
IsAdded d (commands.Cancel name) new = Cancels d (number_for d (commands.Cancel name)) new
IsAdded d _ new = ⊥
