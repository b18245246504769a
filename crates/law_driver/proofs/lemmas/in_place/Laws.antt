-- All that the laws below say of commands and events, together.
use Rattle.std.proofs.Common.{◌≡◌, Ok}
use Rattle.usb_base.specs.declared.commands.Cmd.{Cmd}
use Rattle.word_mem.specs.Memory.{Mem}
use Rattle.drv_table.specs.DriverContent.{DriverContent}
use Rattle.drv_table.specs.Accepting.{Offered}
use Rattle.drv_table.specs.Offers.{offered, IsOffered}
use Rattle.drv_table.specs.Parts.{Parts}
use Rattle.drv_table.specs.Rows.{driver_row, after_driver_row}
use Rattle.law_driver.proofs.lemmas.run_owners.Commands.{each_command_has_its_reason}
use Rattle.law_driver.proofs.lemmas.run_owners.Laws.{commands_keep_owners, events_keep_owners}
use Rattle.law_driver.proofs.lemmas.lent_runs.Offering.{accepted_lent}
use Rattle.law_driver.proofs.lemmas.lent_runs.Goes.{events_keep_them}
use Rattle.law_driver.proofs.lemmas.listed_members.Accepted.{commands_keep_the_list}
use Rattle.law_driver.proofs.lemmas.listed_members.Events.{events_keep_the_list}
use Rattle.law_driver.proofs.lemmas.listed_queues.Commands.{accepted_queues}
use Rattle.law_driver.proofs.lemmas.listed_queues.Rows.{events_keep_queue_heads}
use Rattle.law_driver.proofs.lemmas.ring_members.Accepted.{accepted_ring}
use Rattle.law_driver.proofs.lemmas.ring_members.Events.{events_keep_the_ring}
use Rattle.law_driver.proofs.lemmas.queue_head_words.Accepted.{accepted_fixed}
use Rattle.law_driver.proofs.lemmas.queue_head_words.Events.{events_keep_the_fixed_words}
use Rattle.law_driver.specs.in_place.InPlace.{IsInPlace}
use Rattle.law_driver.proofs.lemmas.in_place.Rows.{event_good}
use Rattle.law_driver.proofs.lemmas.in_place.Offers.{accepted_good}

pub commands_keep_all_in_place : (d : DriverContent) (m : Mem) (cmd : Cmd) (o : Offered) → IsOffered d.room cmd → IsInPlace m d → offered d m cmd ≡ Ok o → IsInPlace o.memory o.driver
commands_keep_all_in_place d m cmd o room old is =
    let why = each_command_has_its_reason d m cmd o is in
    let s = old.sound in
    let good = accepted_good d m o why (record { stands = s.stands; shape = s.shape }) in
    record {
      sound = record {
        stands = good.stands;
        shape = good.shape;
        owners = commands_keep_owners d m cmd o s.stands s.owners is;
        listed = commands_keep_the_list d m cmd o s.stands s.owners room s.listed is;
        ring = accepted_ring d m o why s.stands s.shape s.owners s.ring;
      };
      lent = accepted_lent d m o why old.lent;
      queues = accepted_queues d m cmd o s.stands s.owners room s.listed old.queues is;
      fixed = accepted_fixed d m o why s.stands s.shape s.owners old.fixed;
    }

pub events_keep_all_in_place : (p : Parts) → IsInPlace p.memory p.driver → IsInPlace (after_driver_row (driver_row p) p).memory (after_driver_row (driver_row p) p).driver
events_keep_all_in_place p old =
    let s = old.sound in
    let good = event_good p (record { stands = s.stands; shape = s.shape }) in
    record {
      sound = record {
        stands = good.stands;
        shape = good.shape;
        owners = events_keep_owners p s.owners;
        listed = events_keep_the_list p s.owners s.listed;
        ring = events_keep_the_ring p s;
      };
      lent = events_keep_them p old.lent;
      queues = events_keep_queue_heads p s.owners s.listed old.queues;
      fixed = events_keep_the_fixed_words p s old.fixed;
    }
