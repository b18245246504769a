-- Lemmas that several files need.
use Rattle.std.proofs.Common.{Bool, Result, if◌then◌else◌, true, false, Option, Some, Err, None, ℕ, slice_get, ◌∷◌, ◌≡◌, zero, suc, []}
use Rattle.std.specs.Prelude.{IfOk}
use Rattle.usb_base.specs.declared.reports.OfferError.{OfferError}
use Rattle.usb_base.specs.declared.endpoints.EndCause.{EndCause}
use Rattle.bandwidth.specs.declared.placements.Placement.{Placement}
use Rattle.drv_table.specs.Accepting.{Offered}
use Rattle.law_admission.specs.Worked.{each_microframe}
use Rattle.usb_base.specs.declared.reports.OfferError.TheVariants as errors

pub or_else : (P : Offered → Type 0) (b : Bool) (x y : Result Offered OfferError) → IfOk x P → IfOk y P → IfOk (if b then x else y) P
or_else P true x y one two = one
or_else P false x y one two = two

pub refused_again : (P : Offered → Type 0) (c : Option EndCause)
    → IfOk (elim c [ Some cause ↦ Err (errors.Closed cause) | None ↦ Err errors.AlreadyOpen ]) P
refused_again P None = tt
refused_again P (Some cause) = tt

pub in_one : (i : ℕ) (p : Placement) → slice_get (each_microframe ∷ []) i ≡ Some p → p ≡ each_microframe
in_one zero p e = cc
in_one (suc i) p e = absurd (cc)
