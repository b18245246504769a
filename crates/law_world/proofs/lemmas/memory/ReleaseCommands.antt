-- An accepted command leaves those that wait, are rung or cleared, and the bell; a cancel with nothing to unlink takes its endpoint out of the frames.
use Rattle.std.proofs.Common.{◌≡◌, ℕ, Bool, true, false, List, [], ◌∷◌, slice_get, Option, Some, None, Result, Ok, Err, cond, unwrap_or}
use Rattle.std.proofs.Common.{is_some, ap, refl, sym, subst, ◌∙◌}
use Rattle.std.specs.Prelude.{IfOk, option_and_then, if◌then◌else◌}
use Rattle.std.specs.List.{AllByRecursion}
use Rattle.usb_base.specs.declared.commands.Cmd.{Cmd}
use Rattle.usb_base.specs.declared.commands.Cmd.TheVariants as commands
use Rattle.usb_base.specs.declared.endpoints.EndCause.TheVariants as causes
use Rattle.usb_base.specs.declared.endpoints.EpName.{EpName}
use Rattle.usb_base.specs.declared.reports.OfferError.{OfferError}
use Rattle.usb_base.specs.declared.reports.OfferError.TheVariants as errors
use Rattle.word_mem.specs.Memory.{Mem}
use Rattle.bandwidth.specs.declared.placements.Placement.{Placement}
use Rattle.drv_periodic_table.specs.declared.content.Removal.{Removal}
use Rattle.drv_periodic_table.specs.declared.content.Removed.TheVariants as removed
use Rattle.drv_table.specs.declared.content.Bell.{Bell}
use Rattle.drv_table.specs.declared.content.Endpoint.{Endpoint}
use Rattle.drv_table.specs.Accepting.{Offered}
use Rattle.drv_table.specs.CancelOffers.{cancelled_by, endpoint_members, offered_cancel}
use Rattle.drv_table.specs.Commands.{removal_of}
use Rattle.drv_table.specs.DriverContent.{DriverContent, busy, endpoint_of}
use Rattle.drv_table.specs.Offers.{offered, offered_next}
use Rattle.law_footprints.specs.Footprint.{offer_footprint, merged_driver}
use Rattle.law_footprints.proofs.Accepted.{accept_frame}
use Rattle.claims_world.specs.Releases.{LeavesFrames}
use Rattle.law_world.proofs.lemmas.memory.ReleaseRows.{cancelled_out}

module _ (d : DriverContent) (m : Mem) (cmd : Cmd) (o : Offered) (is : offered d m cmd ≡ Ok o) where
  -- a field that no command touches
  same : {X : Type 0} (get : DriverContent → X) → get (merged_driver (offer_footprint cmd) d o.driver) ≡ get d → get o.driver ≡ get d
  same get kept = ap get (accept_frame d m cmd o is) ∙ kept

waiting_kept : (cmd : Cmd) (d new : DriverContent) → (merged_driver (offer_footprint cmd) d new).waiting ≡ d.waiting
waiting_kept (commands.OpenEp x) d new = refl
waiting_kept _ d new = refl

rung_kept : (cmd : Cmd) (d new : DriverContent) → (merged_driver (offer_footprint cmd) d new).rung ≡ d.rung
rung_kept (commands.OpenEp x) d new = refl
rung_kept _ d new = refl

cleared_kept : (cmd : Cmd) (d new : DriverContent) → (merged_driver (offer_footprint cmd) d new).cleared ≡ d.cleared
cleared_kept (commands.OpenEp x) d new = refl
cleared_kept _ d new = refl

bell_kept : (cmd : Cmd) (d new : DriverContent) → (merged_driver (offer_footprint cmd) d new).bell ≡ d.bell
bell_kept (commands.OpenEp x) d new = refl
bell_kept _ d new = refl

pub waiting_same : (d : DriverContent) (m : Mem) (cmd : Cmd) (o : Offered) → offered d m cmd ≡ Ok o → o.driver.waiting ≡ d.waiting
waiting_same d m cmd o is = same d m cmd o is (λ x. x.waiting) (waiting_kept cmd d o.driver)

pub rung_same : (d : DriverContent) (m : Mem) (cmd : Cmd) (o : Offered) → offered d m cmd ≡ Ok o → o.driver.rung ≡ d.rung
rung_same d m cmd o is = same d m cmd o is (λ x. x.rung) (rung_kept cmd d o.driver)

pub cleared_same : (d : DriverContent) (m : Mem) (cmd : Cmd) (o : Offered) → offered d m cmd ≡ Ok o → o.driver.cleared ≡ d.cleared
cleared_same d m cmd o is = same d m cmd o is (λ x. x.cleared) (cleared_kept cmd d o.driver)

pub bell_same : (d : DriverContent) (m : Mem) (cmd : Cmd) (o : Offered) → offered d m cmd ≡ Ok o → o.driver.bell ≡ d.bell
bell_same d m cmd o is = same d m cmd o is (λ x. x.bell) (bell_kept cmd d o.driver)

-- ---- what left the frame list

module _ (Q : Removal → Type 0) (d : DriverContent) (m : Mem) (o : Offered)
    (new : (e : ℕ) → LeavesFrames d.endpoints o.driver.endpoints e → Q (removal_of (removed.Endpoint e)))
    (all : AllByRecursion Q d.periodic.removals) where
  abbrev Kept : DriverContent → Type 0
  Kept x = AllByRecursion Q x.periodic.removals

  ok_is : (x : Offered) → ◌≡◌ {A = Result Offered OfferError} (Ok x) (Ok o) → x ≡ o
  ok_is x same = subst (λ (r : Result Offered OfferError). IfOk r (λ y. x ≡ y)) same refl

  cancel_placed : (e : ℕ) (x : Endpoint) (p : Option Placement) → slice_get d.endpoints e ≡ Some x → cancelled_by d e x p ≡ o.driver
      → Kept (cancelled_by d e x p)
  cancel_placed e x None here is = all
  cancel_placed e x (Some p) here is =
      cancelled_out Q d e x (endpoint_members d e x p) here
      (λ l. new e (subst (λ (y : DriverContent). LeavesFrames d.endpoints y.endpoints e) is l)) all

  cancelled_one : (e : ℕ) (x : Endpoint) (b : Bool) → slice_get d.endpoints e ≡ Some x
      → cond b (Err (errors.Closed causes.Cancel)) (Ok (record { driver = cancelled_by d e x x.placement; memory = m })) ≡ Ok o
      → Kept o.driver
  cancelled_one e x true here f = absurd (cc)
  cancelled_one e x false here f =
      let is : cancelled_by d e x x.placement ≡ o.driver = ap (λ (y : Offered). y.driver) (ok_is _ f) in
      subst Kept is (cancel_placed e x x.placement here is)

  cancelled_at : (e : ℕ) (q : Option Endpoint) → slice_get d.endpoints e ≡ q → offered_cancel d m e q ≡ Ok o → Kept o.driver
  cancelled_at e None here f = absurd (cc)
  cancelled_at e (Some x) here f = cancelled_one e x x.cancelled here f

  cancelled_named : (q : Option ℕ) → offered_cancel d m (unwrap_or q 0) (option_and_then (λ e. slice_get d.endpoints e) q) ≡ Ok o
      → Kept o.driver
  cancelled_named None f = absurd (cc)
  cancelled_named (Some e) f = cancelled_at e (slice_get d.endpoints e) refl f

  cancel_offered : (name : EpName) (b : Bool) → cond b (Err errors.Busy) (offered_next d m (commands.Cancel name)) ≡ Ok o → Kept o.driver
  cancel_offered name true f = absurd (cc)
  cancel_offered name false f = cancelled_named (endpoint_of d name) f

removals_kept : (cmd : Cmd) (d new : DriverContent) → (offer_footprint cmd).removals ≡ false
    → (merged_driver (offer_footprint cmd) d new).periodic.removals ≡ d.periodic.removals
removals_kept cmd d new is = ap (λ (b : Bool). cond b new.periodic.removals d.periodic.removals) is

pub removals_offered : (Q : Removal → Type 0) (d : DriverContent) (m : Mem) (cmd : Cmd) (o : Offered) → offered d m cmd ≡ Ok o
    → ((e : ℕ) → LeavesFrames d.endpoints o.driver.endpoints e → Q (removal_of (removed.Endpoint e)))
    → AllByRecursion Q d.periodic.removals → AllByRecursion Q o.driver.periodic.removals
removals_offered Q d m (commands.Cancel name) o is new all = cancel_offered Q d m o new all name (busy d) is
removals_offered Q d m cmd o is new all =
    subst (AllByRecursion Q) (sym (same d m cmd o is (λ x. x.periodic.removals) (removals_kept cmd d o.driver refl))) all
