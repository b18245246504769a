-- A descriptor that has its frame, and whose endpoint is in its frames, has a frame of its endpoint's placement (EHCI 1.0, 4.6 and 4.7).
use Rattle.std.proofs.Common.{◌≡◌, ℕ, ◌<◌, ◌&&◌, not, Bool, true, false, cond, length, slice_get, Option, Some, None, option_map, refl, ap, ◌∙◌, arith}
use Rattle.std.specs.Prelude.{option_and_then}
use Rattle.bandwidth.specs.declared.placements.Placement.{Placement}
use Rattle.bandwidth.specs.Sums.{is_active}
use Rattle.drv_periodic_table.specs.Periodic.{note_at}
use Rattle.drv_table.specs.declared.content.Endpoint.{Endpoint}
use Rattle.drv_table.specs.declared.content.Transfer.{Transfer}
use Rattle.drv_table.specs.DriverContent.{DriverContent}
use Rattle.drv_table.specs.Kinds.{is_iso}
use Rattle.claims_driver.specs.Owners.{is_descriptor}
use Rattle.claims_driver.specs.FrameListMembers.{Placed, placed_of, placed_in, framed_of, framed_in, is_chained}
use Rattle.law_driver.specs.iso_frames.Frames.{mark, frame_in, IsStepped, AreInFrames}
use Rattle.claims_driver.specs.DueMembers.{framed_to}
use Rattle.law_driver.proofs.lemmas.iso_frames.Due.{in_waiting}
use Rattle.law_driver.proofs.lemmas.iso_frames.Waiting.{mark_is}

pub chained_active : (d : DriverContent) (t : ℕ) (y : Transfer) (x : Endpoint) (p : Placement) → AreInFrames d → slice_get d.transfers t ≡ Some y → is_descriptor y.sort ≡ true → y.reported ≡ false
    → slice_get d.endpoints y.endpoint ≡ Some x → is_iso x.desc.kind ≡ true → x.placement ≡ Some p → x.chained ≡ true → t < framed_to d.command d.made (length d.transfers)
    → is_active p (note_at d.periodic.notes y.first).frame ≡ true
chained_active d t y x p frames there sort untold here iso placed chained low =
    let e : ℕ = y.endpoint in
    let its : Placed = record { endpoint = y.endpoint; block = y.first; waits = not y.reported && is_chained (framed_in d.endpoints y.endpoint) } in
    let st : IsStepped d e p = frames.stepped e (framed_of x) p (ap (option_map framed_of) here) iso chained placed in
    let at : placed_in d.endpoints d.transfers t ≡ Some its
    = ap (λ (o : Option Transfer). option_and_then (placed_of d.endpoints) o) there ∙ ap (λ (b : Bool). cond b (Some its) None) sort in
    let waits : its.waits ≡ true
    = ap (λ (b : Bool). not b && is_chained (framed_in d.endpoints y.endpoint)) untold ∙ ap (λ (o : Option Endpoint). is_chained (option_map framed_of o)) here ∙ chained in
    in_waiting (λ f. is_active p f ≡ true) (placed_in d.endpoints d.transfers) (frame_in d.periodic.notes) e 0 (framed_to d.command d.made (length d.transfers)) t y.first (omega arith)
    (omega (arith, low)) (ap (mark e) at ∙ mark_is e its refl waits) st.active
