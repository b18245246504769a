-- A command that is accepted leaves content and registers agreed on the doorbell.
use Rattle.std.proofs.Common.{◌≡◌, ℕ, Bool, true, false, cond, slice_get, Option, Some, None, Ok, sym, subst, refl}
use Rattle.std.specs.Prelude.{is_none}
use Rattle.usb_base.specs.declared.commands.Cmd.{Cmd}
use Rattle.word_mem.specs.Memory.{Mem}
use Rattle.op_registers.specs.RegisterFile.{RegisterFile}
use Rattle.drv_table.specs.declared.content.Command.TheVariants as unfinished
use Rattle.drv_table.specs.declared.content.Endpoint.{Endpoint}
use Rattle.drv_table.specs.DriverContent.{DriverContent}
use Rattle.drv_table.specs.Commands.{leave_frames, no_command, or_finished}
use Rattle.drv_table.specs.Accepting.{Offered}
use Rattle.drv_table.specs.Offers.{offered}
use Rattle.drv_table.specs.CancelOffers.{endpoint_members, with_cancel}
use Rattle.law_driver.specs.run_owners.Accepts.{Accepts, opens, chains, places, transfers, describes, cancels, unchains}
use Rattle.law_driver.proofs.lemmas.run_owners.Commands.{each_command_has_its_reason}
use Rattle.claims_driver.specs.Walk.{IsBellIn}
use Rattle.law_driver_ring.proofs.lemmas.walk_members.Ringing.{SameBell, bell_kept}

either_bell : (d x y : DriverContent) (b : Bool) → SameBell d x → SameBell d y → SameBell d (cond b x y)
either_bell d x y true one two = one
either_bell d x y false one two = two

framed_bell : (d : DriverContent) (e : ℕ) (o : Option Endpoint) → SameBell d (leave_frames (no_command d) e o)
framed_bell d e None = record { bell = refl; rung = refl }
framed_bell d e (Some x) = either_bell d _ (no_command d) x.chained (record { bell = refl; rung = refl }) (record { bell = refl; rung = refl })

unchained_bell : (d : DriverContent) (e : ℕ) → SameBell d (or_finished d (unfinished.Unchain e))
unchained_bell d e = either_bell d _ d (is_none d.periodic.list.work) (framed_bell d e (slice_get d.endpoints e)) (record { bell = refl; rung = refl })

same_of : (d : DriverContent) (o p : Offered) → o ≡ p → SameBell d p.driver → SameBell d o.driver
same_of d o p is same = subst (λ (f : Offered). SameBell d f.driver) (sym is) same

accepted_bell : (d : DriverContent) (m : Mem) (o : Offered) → Accepts d m o → SameBell d o.driver
accepted_bell d m o (opens why) = same_of d o _ why.is (record { bell = refl; rung = refl })
accepted_bell d m o (chains why) = same_of d o _ why.is (record { bell = refl; rung = refl })
accepted_bell d m o (places why) = same_of d o _ why.is (record { bell = refl; rung = refl })
accepted_bell d m o (transfers why) = same_of d o _ why.is (record { bell = refl; rung = refl })
accepted_bell d m o (describes why) = same_of d o _ why.is (record { bell = refl; rung = refl })
accepted_bell d m o (cancels why) = same_of d o _ why.is (record { bell = refl; rung = refl })
accepted_bell d m o (unchains why) =
    let e = with_cancel d why.number why.endpoint (endpoint_members d why.number why.endpoint why.placement) in
    let s = unchained_bell e why.number in
    same_of d o _ why.is (record { bell = s.bell; rung = s.rung })

pub command_keeps_bell : (d : DriverContent) (m : Mem) (cmd : Cmd) (o : Offered) (r : RegisterFile) → offered d m cmd ≡ Ok o → IsBellIn d r → IsBellIn o.driver r
command_keeps_bell d m cmd o r is old = bell_kept d o.driver r (accepted_bell d m o (each_command_has_its_reason d m cmd o is)) old
