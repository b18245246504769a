-- The frames of isochronous descriptors that wait for their harvest (EHCI 1.0, 4.6 and 4.7): those of an endpoint stand one period after the other in
-- frames of its placement, and span no more than the frame list has.
--     mark e y                the block of a descriptor that waits for endpoint e
--     waiting_from view e a n those of n transfers from number a on, in their order
--     waiting_of d e, frames_of d e     the descriptors of endpoint e that wait, and the frames of those that have theirs
--     IsStepped d e p         they stand in step, in frames of the placement, and are harvested in their order
--     AreStepped d            so do those of each isochronous endpoint in its frames
--     AreInFrames d           both, of the driver's content
--     ArePlaces ps            each placement of the plan is a place, of the period that was asked
use Rattle.std.specs.Prelude.{◌≡◌, ℕ, zero, suc, ◌*◌, ◌<◌, ◌≤◌, ◌==◌, ◌&&◌, true, List, [], ◌∷◌, length, map, slice_get, Option, Some, None, option_and_then, unwrap_or, if◌then◌else◌}
use Rattle.std.specs.List.{AllByRecursion}
use Rattle.bandwidth.specs.declared.placements.Placement.{Placement}
use Rattle.bandwidth.specs.declared.placements.Placed.{Placed as Counted}
use Rattle.bandwidth.specs.Placements.{frame_period, IsPlace}
use Rattle.bandwidth.specs.Sums.{is_active}
use Rattle.drv_periodic_table.specs.declared.content.DescriptorNote.{DescriptorNote}
use Rattle.drv_periodic_table.specs.Periodic.{note_at}
use Rattle.drv_table.specs.declared.content.Endpoint.{Endpoint}
use Rattle.drv_table.specs.DriverContent.{DriverContent}
use Rattle.claims_driver.specs.FrameListMembers.{Framed, framed_in, Placed, placed_in}
use Rattle.law_driver.specs.iso_frames.Steps.{AreInStep}
use Rattle.claims_driver.specs.DueMembers.{framed_to}

abbrev pub mark : ℕ → Option Placed → Option ℕ
mark e None = None
mark e (Some y) = if y.endpoint == e && y.waits then Some y.block else None

abbrev pub before : Option ℕ → List ℕ → List ℕ
before None bs = bs
before (Some b) bs = b ∷ bs

unfoldable pub waiting_from : (ℕ → Option Placed) → ℕ → ℕ → ℕ → List ℕ
waiting_from view e a zero = []
waiting_from view e a (suc n) = before (mark e (view a)) (waiting_from view e (suc a) n)

abbrev pub waiting_of : DriverContent → ℕ → List ℕ
waiting_of d e = waiting_from (placed_in d.endpoints d.transfers) e 0 (length d.transfers)

abbrev pub frame_in : List DescriptorNote → ℕ → ℕ
frame_in notes b = (note_at notes b).frame

abbrev pub frames_of : DriverContent → ℕ → List ℕ
frames_of d e = map (frame_in d.periodic.notes) (waiting_from (placed_in d.endpoints d.transfers) e 0 (framed_to d.command d.made (length d.transfers)))

abbrev pub next_in : List Endpoint → ℕ → Option ℕ
next_in xs e = option_and_then (λ x. x.next) (slice_get xs e)

-- up to where no descriptor of the endpoint waits
abbrev pub next_of : DriverContent → ℕ → ℕ
next_of d e = unwrap_or (next_in d.endpoints e) (length d.transfers)

pub record IsStepped (d : DriverContent) (e : ℕ) (p : Placement) : Type 0 where
  pub steps : AreInStep p (frames_of d e)
  pub active : AllByRecursion (λ f. is_active p f ≡ true) (frames_of d e)
  pub few : length (waiting_of d e) * frame_period p.period ≤ 1024
  pub bound : next_of d e ≤ length d.transfers
  pub next : (u : ℕ) → u < next_of d e → mark e (placed_in d.endpoints d.transfers u) ≡ None

abbrev pub AreStepped : DriverContent → Type 0
AreStepped d =
    (e : ℕ) (x : Framed) (p : Placement) → framed_in d.endpoints e ≡ Some x → x.isochronous ≡ true → x.chained ≡ true → x.placement ≡ Some p → IsStepped d e p

pub record HasPlace (y : Counted) : Type 0 where
  pub place : IsPlace y.placement
  pub period : y.placement.period ≡ y.want.period

abbrev pub ArePlaces : List Counted → Type 0
ArePlaces ps = AllByRecursion HasPlace ps

pub record AreInFrames (d : DriverContent) : Type 0 where
  pub places : ArePlaces d.periodic.plan.placed
  pub stepped : AreStepped d
