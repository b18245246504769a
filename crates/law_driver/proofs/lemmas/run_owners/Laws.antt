-- The laws, in the form in which they are stated.
use Rattle.std.proofs.Common.{◌≡◌, ◌≢◌, ℕ, Ok, ap, sym, ◌∙◌}
use Rattle.usb_base.specs.declared.commands.Cmd.{Cmd}
use Rattle.word_mem.specs.Memory.{Mem}
use Rattle.mem_runs.specs.Book.{Holding, holding, Stands}
use Rattle.drv_table.specs.DriverContent.{DriverContent}
use Rattle.drv_table.specs.Accepting.{Offered}
use Rattle.drv_table.specs.Offers.{offered}
use Rattle.drv_table.specs.Parts.{Parts}
use Rattle.drv_table.specs.Rows.{driver_row, after_driver_row}
use Rattle.law_driver.specs.run_owners.Accepts.{Accepts, opens, chains, places, transfers, describes, cancels, unchains}
use Rattle.claims_driver.specs.Owners.{Owner, IsOwned}
use Rattle.law_driver.specs.run_owners.Owners.{ShareNoBlock}
use Rattle.claims_driver.specs.Leaving.{HasOwners}
use Rattle.law_driver.proofs.lemmas.run_owners.Commands.{each_command_has_its_reason}
use Rattle.law_driver.proofs.lemmas.run_owners.Accepted.{open_owned, chain_owned, place_owned, cancel_owned, unchain_owned}
use Rattle.law_driver.proofs.lemmas.run_owners.Described.{describe_owned}
use Rattle.law_driver.proofs.lemmas.run_owners.Transferred.{transfer_owned}
use Rattle.law_driver.proofs.lemmas.run_owners.Ordered.{accepted_orderly}
use Rattle.law_driver.proofs.lemmas.run_owners.Rows.{row_owned, row_orderly}
use Rattle.law_driver.proofs.lemmas.run_owners.Apart.{runs_apart}

accepted_owned : (d : DriverContent) (m : Mem) (o : Offered) → Stands (holding d.book m) → Accepts d m o → (old : HasOwners d) → (mine : ℕ → Owner) × IsOwned o.driver mine
accepted_owned d m o stands (opens why) old = open_owned d m old.owner o stands why old.owned
accepted_owned d m o stands (transfers why) old = transfer_owned d m old.owner o stands why old.orderly old.owned
accepted_owned d m o stands (chains why) old = chain_owned d m old.owner o stands why old.owned
accepted_owned d m o stands (places why) old = (old.owner, place_owned d m old.owner o why old.owned)
accepted_owned d m o stands (describes why) old = describe_owned d m old.owner o stands why old.owned
accepted_owned d m o stands (unchains why) old = (old.owner, unchain_owned d m old.owner o why old.owned)
accepted_owned d m o stands (cancels why) old = (old.owner, cancel_owned d m old.owner o why old.owned)

pub commands_keep_owners : (d : DriverContent) (m : Mem) (cmd : Cmd) (o : Offered) → Stands (holding d.book m) → HasOwners d → offered d m cmd ≡ Ok o → HasOwners o.driver
commands_keep_owners d m cmd o stands old is =
    let why = each_command_has_its_reason d m cmd o is in
    let now = accepted_owned d m o stands why old in
    record { owner = now.0; owned = now.1; orderly = accepted_orderly d m o why old.orderly }

pub events_keep_owners : (p : Parts) → HasOwners p.driver → HasOwners (after_driver_row (driver_row p) p).driver
events_keep_owners p old =
    record { owner = old.owner; owned = row_owned p old.owner old.orderly old.owned; orderly = row_orderly p old.orderly }

-- structures of different owners share no block
pub owners_share_no_block : (h : Holding) (owner : ℕ → Owner) (o q : Owner) → Stands h → o ≢ q → ShareNoBlock h owner o q
owners_share_no_block h owner o q stands differ b c k one two has also =
    runs_apart h b c k stands (λ same. differ (sym one.owned ∙ ap owner (sym same) ∙ two.owned)) has also
