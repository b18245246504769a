-- The plan is what the driver's endpoints have (USB 2.0, 5.11.3; EHCI 1.0, 4.6 and 4.7).
--     planned n xs          the placements of these endpoints, numbered from n on, in their order, but of those that were given back
--     IsPlanned d           the plan has the placements of the driver's endpoints, and no others
--     IsEndpointOf d y      what is placed is that of an endpoint which wasn't given back
use Rattle.std.specs.Prelude.{◌≡◌, ℕ, suc, Bool, true, false, List, [], ◌∷◌, ◌++◌, slice_get, Option, Some, None}
use Rattle.usb_base.specs.declared.endpoints.EpDesc.{EpDesc}
use Rattle.bandwidth.specs.declared.placements.Placement.{Placement}
use Rattle.bandwidth.specs.declared.placements.Placed.{Placed}
use Rattle.drv_periodic_table.specs.Periodic.{want_of}
use Rattle.drv_table.specs.declared.content.Endpoint.{Endpoint}
use Rattle.drv_table.specs.DriverContent.{DriverContent}

abbrev pub placed_by : ℕ → EpDesc → Bool → Option Placement → List Placed
placed_by n x true p = []
placed_by n x false None = []
placed_by n x false (Some p) = record { want = want_of n x; placement = p } ∷ []

abbrev pub planned : ℕ → List Endpoint → List Placed
planned n [] = []
planned n (x ∷ xs) = placed_by n x.desc x.gone x.placement ++ planned (suc n) xs

abbrev pub IsPlanned : DriverContent → Type 0
IsPlanned d = d.periodic.plan.placed ≡ planned 0 d.endpoints

pub record IsEndpointOf (d : DriverContent) (y : Placed) : Type 0 where
  pub endpoint : Endpoint
  pub here : slice_get d.endpoints y.want.id ≡ Some endpoint
  pub kept : endpoint.gone ≡ false
  pub placement : endpoint.placement ≡ Some y.placement
  pub want : y.want ≡ want_of y.want.id endpoint.desc
