-- What stands in the frame list (EHCI 1.0, 4.6 and 4.7), told by the driver's endpoints and transfers: queue heads of interrupt endpoints
-- that are in their frames, and of isochronous endpoints each descriptor that waits in its frame.
--     Framed                   an endpoint: whether it is in its frames, and its queue head and placement
--     framed_in xs e           endpoint e of these
--     Placed                   a descriptor: its endpoint, its block, and whether it waits for its harvest in a frame
--     placed_in xs ts t        the descriptor of transfer t, where it has one
--     is_among t ts            transfer t is one of these
--     LinksWaiting d           each descriptor that waits in a frame is linked
use Rattle.std.specs.List.{list_any}
use Rattle.std.specs.Prelude.{◌≡◌, ℕ, Bool, ◌==◌, true, ◌&&◌, not, false, List, slice_get, Option, Some, if◌then◌else◌, None}
use Rattle.std.specs.Prelude.{option_and_then, option_map}
use Rattle.drv_chains.specs.declared.members.Member.{Member}
use Rattle.drv_members.specs.Members.{is_linked}
use Rattle.bandwidth.specs.declared.placements.Placement.{Placement}
use Rattle.drv_periodic_table.specs.Periodic.{PeriodicContent, descriptor_member}
use Rattle.drv_table.specs.declared.content.Endpoint.{Endpoint}
use Rattle.drv_table.specs.declared.content.Transfer.{Transfer}
use Rattle.drv_table.specs.DriverContent.{DriverContent}
use Rattle.drv_table.specs.Kinds.{is_iso}
use Rattle.claims_driver.specs.Owners.{is_descriptor}

pub record Framed : Type 0 where
  pub chained : Bool
  pub isochronous : Bool
  pub queue : ℕ
  pub placement : Option Placement

abbrev pub framed_of : Endpoint → Framed
framed_of x = record { chained = x.chained; isochronous = is_iso x.desc.kind; queue = x.queue; placement = x.placement }

abbrev pub framed_in : List Endpoint → ℕ → Option Framed
framed_in xs e = option_map framed_of (slice_get xs e)

abbrev pub is_chained : Option Framed → Bool
is_chained None = false
is_chained (Some x) = x.chained

pub record Placed : Type 0 where
  pub endpoint : ℕ
  pub block : ℕ
  pub waits : Bool

abbrev pub placed_of : List Endpoint → Transfer → Option Placed
placed_of xs y =
    if is_descriptor y.sort
    then Some (record { endpoint = y.endpoint; block = y.first; waits = not y.reported && is_chained (framed_in xs y.endpoint) })
    else None

abbrev pub placed_in : List Endpoint → List Transfer → ℕ → Option Placed
placed_in xs ts t = option_and_then (placed_of xs) (slice_get ts t)

abbrev pub is_among : ℕ → List ℕ → Bool
is_among t ts = list_any (λ u. u == t) ts

-- ---- which descriptors stand there

abbrev pub member_of : PeriodicContent → Placed → Member
member_of q y = descriptor_member q.notes y.block

-- where no command is unfinished, a descriptor that waits in a frame is linked
abbrev pub LinksWaiting : DriverContent → Type 0
LinksWaiting d =
    (t : ℕ) (x : Endpoint) (y : Transfer) → d.command ≡ None → slice_get d.transfers t ≡ Some y → is_descriptor y.sort ≡ true
    → slice_get d.endpoints y.endpoint ≡ Some x → x.chained ≡ true → y.reported ≡ false
    → is_linked d.periodic.list.members.schedule (descriptor_member d.periodic.notes y.first) ≡ true
