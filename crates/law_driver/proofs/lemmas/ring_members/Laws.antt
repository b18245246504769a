-- The laws, in the form in which they are stated.
use Rattle.std.proofs.Common.{◌≡◌, ℕ, Option, None, Ok, subst}
use Rattle.usb_base.specs.declared.commands.Cmd.{Cmd}
use Rattle.word_mem.specs.Memory.{Mem}
use Rattle.drv_table.specs.declared.content.Command.{Command}
use Rattle.drv_table.specs.DriverContent.{DriverContent}
use Rattle.drv_table.specs.Accepting.{Offered}
use Rattle.drv_table.specs.Offers.{offered}
use Rattle.drv_table.specs.Words.{head_block}
use Rattle.law_driver.proofs.lemmas.run_owners.Commands.{each_command_has_its_reason}
use Rattle.claims_driver.specs.Ring.{members, IsChain}
use Rattle.law_driver.specs.ring_members.Words.{StandsFor, IsRing}
use Rattle.law_driver.specs.ring_members.Ring.{KeepsRing}
use Rattle.law_driver.proofs.lemmas.ring_members.Links.{ring_is_read}
use Rattle.law_driver.proofs.lemmas.ring_members.Accepted.{accepted_ring}

pub commands_keep_the_ring : (d : DriverContent) (m : Mem) (cmd : Cmd) (o : Offered) → offered d m cmd ≡ Ok o → KeepsRing d m o
commands_keep_the_ring d m cmd o is stands shape has old =
    accepted_ring d m o (each_command_has_its_reason d m cmd o is) stands shape has old

-- where no command is unfinished, the words lead from the head through each queue head in the ring, the newest first, and back
pub the_ring_is_read : (word : ℕ → ℕ) (d : DriverContent) → d.command ≡ None → IsRing word d → IsChain word head_block (members d.endpoints)
the_ring_is_read word d idle old = ring_is_read word d.endpoints (subst (λ (o : Option Command). StandsFor word d.endpoints d.transfers o) idle old.ring)
