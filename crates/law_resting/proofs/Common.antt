-- Lemmas that several files need.
use Rattle.std.proofs.Common.{ℕ, Option, ◌≡◌, None, refl, Some, Bool, cond, set, false, ◌++◌, ◌∷◌, true, [], List, drop, suc, zero}
use Rattle.drv_periodic.specs.declared.work.Work.{Work}
use Rattle.drv_table.specs.DriverContent.{DriverContent}
use Rattle.drv_table.specs.declared.content.Endpoint.{Endpoint}
use Rattle.drv_table.specs.Commands.{leave_frames, no_command, removal_of}
use Rattle.drv_table.specs.declared.content.Transfer.{Transfer}
use Rattle.drv_periodic_table.specs.declared.content.Removed.TheVariants as removed

pub unchained_command : (d : DriverContent) (e : ℕ) (o : Option Endpoint) → (leave_frames (no_command d) e o).command ≡ None
unchained_command d e None = refl
unchained_command d e (Some x) =
    elim x.chained as (λ (b : Bool).
    (cond b (record (no_command d) {
      endpoints = set d.endpoints e (record x { chained = false });
      periodic = record d.periodic
          { removals = d.periodic.removals ++ removal_of (removed.Endpoint e) ∷ [] };
    }) (no_command d)).command ≡ None)
    [ true ↦ refl | false ↦ refl ]

pub no_work_is : (w : Work) → ◌≡◌ {A = Option Work} None (Some w) → ⊥
no_work_is w is = cc

pub drop_set : (xs : List Transfer) (k : ℕ) (z : Transfer) → drop (suc k) (set xs k z) ≡ drop (suc k) xs
drop_set [] k z = refl
drop_set (x ∷ xs) zero z = refl
drop_set (x ∷ xs) (suc k) z = drop_set xs k z
