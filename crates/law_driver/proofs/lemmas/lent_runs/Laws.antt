-- The laws, in the form in which they are stated.
use Rattle.std.proofs.Common.{◌≡◌, ℕ, zero, suc, ◌/◌, set, replicate, slice_get, Some, None, Ok, ap, sym, ◌∙◌, refl}
use Rattle.std.proofs.lemmas.Bool.{false≢true}
use Rattle.law_driver.proofs.Common.{lent_by, lends_keeps}
use Rattle.usb_base.specs.declared.commands.Cmd.{Cmd}
use Rattle.word_mem.specs.Memory.{Mem}
use Rattle.word_mem.specs.Runs.{Run}
use Rattle.word_mem.specs.declared.blocks.BlockState.TheVariants.{Lent}
use Rattle.word_mem.proofs.Holders.{has_block_is}
use Rattle.mem_runs.specs.Book.{holding, Stands, slot_of}
use Rattle.mem_runs.specs.declared.slots.Slot.{Slot}
use Rattle.mem_runs.specs.declared.slots.Slot.TheVariants.{Empty, Keeps, Lends}
use Rattle.mem_runs.proofs.Standing.{lends_all}
use Rattle.drv_table.specs.declared.content.Reserve.{Reserve}
use Rattle.drv_table.specs.DriverContent.{DriverContent}
use Rattle.drv_table.specs.Accepting.{Offered}
use Rattle.drv_table.specs.Offers.{offered}
use Rattle.drv_table.specs.Opening.{list_run, head_run, opening}
use Rattle.claims_driver.specs.Owners.{Owner, HasRun, SlotHas, IsPlaced}
use Rattle.law_driver.proofs.lemmas.run_owners.Runs.{placed_run}
use Rattle.law_driver.proofs.lemmas.run_owners.Commands.{each_command_has_its_reason}
use Rattle.claims_driver.specs.LentRuns.{begins_in, AreLent, IsLent}
use Rattle.law_driver.proofs.lemmas.lent_runs.Slots.{set_keeps, empty_keeps}
use Rattle.law_driver.proofs.lemmas.lent_runs.Offering.{accepted_lent}
use Rattle.law_driver.proofs.lemmas.lent_runs.Goes.{idle_none}

none_kept : (k b : ℕ) (r : Run) → slot_of (replicate k Empty) b ≡ Keeps r → ⊥
none_kept zero b r is = empty_keeps r is
none_kept (suc k) zero r is = empty_keeps r is
none_kept (suc k) (suc b) r is = none_kept k b r is

pub opening_runs_are_lent : (n : ℕ) (room : Reserve) → AreLent (opening n room).driver
opening_runs_are_lent n room =
    let k = n / 8 in
    record {
      kept = λ b r is.
          absurd (none_kept k b r
          (set_keeps (replicate k Empty) 0 b (Lends list_run) r (lends_keeps list_run)
          (set_keeps (set (replicate k Empty) 0 (Lends list_run)) 128 b (Lends head_run) r (lends_keeps head_run) is)));
      lent = λ off. refl;
    }

pub commands_keep_them : (d : DriverContent) (m : Mem) (cmd : Cmd) (o : Offered) → AreLent d → offered d m cmd ≡ Ok o → AreLent o.driver
commands_keep_them d m cmd o old is = accepted_lent d m o (each_command_has_its_reason d m cmd o is) old

pub all_are_lent_between_commands : (d : DriverContent) (b : ℕ) → d.command ≡ None → AreLent d → HasRun (slot_of d.book.slots b) → IsLent (slot_of d.book.slots b)
all_are_lent_between_commands d b idle old run =
    lent_by (slot_of d.book.slots b) run (λ r is. false≢true (sym (ap (begins_in b) (idle_none d idle old)) ∙ old.kept b r is))

block_lent : (d : DriverContent) (m : Mem) (b k : ℕ) (s : Slot) → Stands (holding d.book m) → slot_of d.book.slots b ≡ s → IsLent s → SlotHas s k → slice_get m.states k ≡ Some Lent
block_lent d m b k Empty stands there lent has = absurd has
block_lent d m b k (Keeps r) stands there lent has = absurd lent
block_lent d m b k (Lends r) stands there lent has =
    let inside = has_block_is r k has in
    lends_all (holding d.book m) b r stands there k inside.from inside.below

pub owned_lent : (d : DriverContent) (m : Mem) (owner : ℕ → Owner) (b k : ℕ) (o : Owner) → Stands (holding d.book m) → d.command ≡ None → AreLent d → IsPlaced (slot_of d.book.slots) owner b o → SlotHas (slot_of d.book.slots b) k → slice_get m.states k ≡ Some Lent
owned_lent d m owner b k o stands idle old placed has =
    block_lent d m b k (slot_of d.book.slots b) stands refl (all_are_lent_between_commands d b idle old (placed_run b o placed)) has
