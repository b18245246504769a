-- The frames of the keyboard's queue head, once it was unlinked.
use Rattle.std.proofs.Common.{◌≡◌, ℕ, zero, suc, ◌*◌, true, [], ◌∷◌, slice_get, Some, ap, refl, sym, subst, ◌∙◌, arith}
use Rattle.std.proofs.lemmas.Bool.{false≢true}
use Rattle.std.proofs.lemmas.Option.{same_Some}
use Rattle.bandwidth.specs.declared.placements.Placement.{Placement}
use Rattle.bandwidth.specs.Sums.{is_active}
use Rattle.drv_periodic_table.specs.declared.content.Removed.{Removed}
use Rattle.drv_periodic_table.specs.declared.content.Removed.TheVariants as removed
use Rattle.drv_table.specs.declared.content.Endpoint.{Endpoint}
use Rattle.drv_table.specs.declared.content.Transfer.{Transfer}
use Rattle.claims_world.specs.Visits.{WasOfFrame, of_descriptor, of_queue_head, of_waiting, IsUnlinkedNow, since}
use Rattle.law_world.specs.memory.Samples.{keyboard_place}
use Rattle.law_microframes.specs.worked_visits.Samples.{unlinked_keyboard, its_removal, without_keyboard}

its : (e : ℕ) (x : Endpoint) → slice_get (unlinked_keyboard ∷ []) e ≡ Some x → unlinked_keyboard ≡ x
its zero x here = same_Some unlinked_keyboard x here
its (suc e) x here = absurd (cc)

no_transfer : (t : ℕ) (y : Transfer) → slice_get without_keyboard.transfers t ≡ Some y → ⊥
no_transfer t y here = cc

only : (what : Removed) (frame n : ℕ) → WasOfFrame without_keyboard frame n what → (n ≡ 4160) × (is_active keyboard_place frame ≡ true)
only _ frame n (of_descriptor t y there sort at framed) = absurd (no_transfer t y there)
only _ frame n (of_queue_head e x p here kind placed at active) =
    let own : unlinked_keyboard ≡ x = its e x here in
    let place : keyboard_place ≡ p = same_Some keyboard_place p (ap (λ (z : Endpoint). z.placement) own ∙ placed) in
    (at ∙ ap (λ (z : Endpoint). 32 * z.queue) (sym own), subst (λ (q : Placement). is_active q frame ≡ true) (sym place) active)
only _ frame n (of_waiting e t y there sort waits at framed) = absurd (no_transfer t y there)

pub own_frame : WasOfFrame without_keyboard 128 4160 (removed.Endpoint 0)
own_frame = of_queue_head 0 unlinked_keyboard keyboard_place refl refl refl refl refl

pub other_frame : WasOfFrame without_keyboard 129 4160 (removed.Endpoint 0) → ⊥
other_frame was = false≢true (only (removed.Endpoint 0) 129 4160 was).1

pub other_place : WasOfFrame without_keyboard 128 4192 (removed.Endpoint 0) → ⊥
other_place was = let at = (only (removed.Endpoint 0) 128 4192 was).0 in omega (arith, at)

pub unlinked_now : IsUnlinkedNow without_keyboard 1026 (removed.Endpoint 0)
unlinked_now = since 0 its_removal refl refl
