-- Any accepted command leaves the frame list standing.
use Rattle.std.proofs.Common.{◌≡◌, Ok, inl, inr}
use Rattle.usb_base.specs.declared.commands.Cmd.{Cmd}
use Rattle.word_mem.specs.Memory.{Mem}
use Rattle.drv_table.specs.DriverContent.{DriverContent}
use Rattle.drv_table.specs.Accepting.{Offered}
use Rattle.drv_table.specs.Offers.{offered}
use Rattle.law_driver.specs.run_owners.Accepts.{Accepts, opens, chains, places, transfers, describes, cancels, unchains}
use Rattle.law_driver.proofs.lemmas.run_owners.Commands.{each_command_has_its_reason}
use Rattle.law_frame_list.proofs.lemmas.list_commands.Commanding.{opens_and_cancels_keep_it_standing}
use Rattle.law_frame_list.specs.list_opens.Kept.{KeepsList}
use Rattle.law_frame_list.proofs.lemmas.list_opens.Linked.{opens_of_interrupt_endpoints_keep_it_standing}
use Rattle.law_frame_list.proofs.lemmas.list_opens.Sending.{transfers_keep_it_standing}
use Rattle.law_frame_list.proofs.lemmas.list_opens.Described.{descriptors_keep_it_standing}

accepted_stands : (d : DriverContent) (m : Mem) (o : Offered) → Accepts d m o → KeepsList d m o
accepted_stands d m o (opens why) stands shape has listed old = opens_and_cancels_keep_it_standing d m o (inl why) stands has listed old
accepted_stands d m o (chains why) stands shape has listed old =
    opens_of_interrupt_endpoints_keep_it_standing d m o why stands shape has listed old
accepted_stands d m o (places why) stands shape has listed old =
    opens_and_cancels_keep_it_standing d m o (inr (inl why)) stands has listed old
accepted_stands d m o (transfers why) stands shape has listed old = transfers_keep_it_standing d m o why stands shape has listed old
accepted_stands d m o (describes why) stands shape has listed old = descriptors_keep_it_standing d m o why stands shape has listed old
accepted_stands d m o (cancels why) stands shape has listed old =
    opens_and_cancels_keep_it_standing d m o (inr (inr (inl why))) stands has listed old
accepted_stands d m o (unchains why) stands shape has listed old =
    opens_and_cancels_keep_it_standing d m o (inr (inr (inr why))) stands has listed old

pub commands_keep_it_standing : (d : DriverContent) (m : Mem) (cmd : Cmd) (o : Offered) → offered d m cmd ≡ Ok o → KeepsList d m o
commands_keep_it_standing d m cmd o is stands shape has listed old =
    accepted_stands d m o (each_command_has_its_reason d m cmd o is) stands shape has listed old
