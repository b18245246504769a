-- What the frames of a driver stand on, of its content alone: kept by each command and each event.
use Rattle.std.proofs.Common.{◌≡◌, ℕ, ◌∷◌, Option, Some, None, Ok, refl}
use Rattle.law_common.proofs.Lists.{all_more}
use Rattle.usb_base.specs.declared.commands.Cmd.{Cmd}
use Rattle.usb_base.specs.declared.endpoints.EpName.{EpName}
use Rattle.usb_base.specs.declared.reports.OfferError.{OfferError}
use Rattle.word_mem.specs.Memory.{Mem}
use Rattle.mem_runs.specs.Book.{holding, Stands}
use Rattle.drv_chains.specs.declared.members.Member.{Member}
use Rattle.drv_table.specs.declared.content.Reserve.{Reserve}
use Rattle.drv_table.specs.declared.content.Command.{Command}
use Rattle.drv_table.specs.declared.content.Command.TheVariants as unfinished
use Rattle.drv_table.specs.DriverContent.{DriverContent}
use Rattle.drv_table.specs.Accepting.{Offered}
use Rattle.drv_table.specs.Offers.{offered, IsOffered}
use Rattle.drv_table.specs.Opening.{opening}
use Rattle.drv_table.specs.Parts.{Parts}
use Rattle.drv_table.specs.Rows.{driver_row, after_driver_row}
use Rattle.claims_driver.specs.Leaving.{HasOwners}
use Rattle.law_driver.proofs.lemmas.run_owners.Laws.{commands_keep_owners, events_keep_owners}
use Rattle.law_driver.specs.listed_members.Members.{IsWaitingOf, IsUnderWay, IsListed}
use Rattle.law_driver.specs.listed_queues.Queues.{HasQueues}
use Rattle.law_driver.proofs.lemmas.listed_members.Schedules.{same_members}
use Rattle.law_driver.proofs.lemmas.listed_members.Stays.{moved, same_queue}
use Rattle.law_driver.proofs.lemmas.listed_members.Opening.{opening_list_has_its_members}
use Rattle.law_driver.proofs.lemmas.listed_members.Accepted.{commands_keep_the_list}
use Rattle.law_driver.proofs.lemmas.listed_members.Events.{events_keep_the_list}
use Rattle.law_driver.proofs.lemmas.listed_queues.Commands.{opening_has_queue_heads, accepted_queues}
use Rattle.law_driver.proofs.lemmas.listed_queues.Rows.{events_keep_queue_heads}
use Rattle.law_driver.specs.planned_endpoints.Planned.{IsPlanned}
use Rattle.law_driver.proofs.lemmas.planned_endpoints.Laws.{opening_plan_is_of_its_endpoints, commands_keep_the_plan, events_keep_the_plan}
use Rattle.law_driver.specs.ordered_list.Ordered.{IsOrdered}
use Rattle.law_driver.proofs.lemmas.ordered_list.Commands.{opening_list_is_in_order, commands_keep_the_order}
use Rattle.law_driver.proofs.lemmas.ordered_list.Events.{events_keep_the_order}
use Rattle.law_driver.specs.iso_frames.Frames.{AreInFrames}
use Rattle.law_driver.proofs.lemmas.iso_frames.Due.{opening_frames, commands_keep_the_frames, events_keep_the_frames}
use Rattle.bus_world.specs.World.{refused_line}

pub record IsWhole (d : DriverContent) : Type 0 where
  pub owners : HasOwners d
  pub listed : IsListed d
  pub queues : HasQueues d
  pub planned : IsPlanned d
  pub ordered : IsOrdered d
  pub frames : AreInFrames d

pub opening_whole : (n : ℕ) (room : Reserve) → HasOwners (opening n room).driver → IsWhole (opening n room).driver
opening_whole n room owners = record {
  owners = owners;
  listed = opening_list_has_its_members n room;
  queues = opening_has_queue_heads n room;
  planned = opening_plan_is_of_its_endpoints n room;
  ordered = opening_list_is_in_order n room;
  frames = opening_frames n room;
}

pub command_whole : (d : DriverContent) (m : Mem) (cmd : Cmd) (o : Offered) → Stands (holding d.book m) → IsOffered d.room cmd → IsWhole d → offered d m cmd ≡ Ok o → IsWhole o.driver
command_whole d m cmd o stands room h is = record {
  owners = commands_keep_owners d m cmd o stands h.owners is;
  listed = commands_keep_the_list d m cmd o stands h.owners room h.listed is;
  queues = accepted_queues d m cmd o stands h.owners room h.listed h.queues is;
  planned = commands_keep_the_plan d m cmd o h.planned is;
  ordered = commands_keep_the_order d m cmd o h.ordered is;
  frames = commands_keep_the_frames d m cmd o stands h.owners h.planned room h.frames is;
}

pub event_whole : (p : Parts) → IsWhole p.driver → IsWhole (after_driver_row (driver_row p) p).driver
event_whole p h = record {
  owners = events_keep_owners p h.owners;
  listed = events_keep_the_list p h.owners h.listed;
  queues = events_keep_queue_heads p h.owners h.listed h.queues;
  planned = events_keep_the_plan p h.owners h.planned;
  ordered = events_keep_the_order p h.ordered;
  frames = events_keep_the_frames p h.owners h.listed h.planned h.frames;
}

-- ---- a line of the report more

refused_listed : (d : DriverContent) (n : ℕ) (name : EpName) (why : OfferError) → IsListed d → IsListed (refused_line d n name why)
refused_listed d n name why old = record {
  list = record {
    list = old.list.list;
    members = same_members (same_queue d g (λ i x h. h)) (λ m s. moved d g m s s.here (λ on. on) (λ waits on. on) refl) (λ m s. moved g d m s s.here (λ on. on) (λ waits on. on) refl) old.list.members;
    frames = old.list.frames;
    many = old.list.many;
    room = old.list.room;
    kept = old.list.kept;
  };
  way = by d.command old.way;
}
  where
    g : DriverContent
    g = refused_line d n name why

    waiting : (e first : ℕ) (m : Member) → IsWaitingOf d e first m → IsWaitingOf g e first m
    waiting e first m w = record { number = w.number; placed = w.placed; here = w.here; later = w.later; endpoint = w.endpoint; waits = w.waits; is = w.is }

    by : (c : Option Command) → IsUnderWay d c → IsUnderWay g c
    by None way = way
    by (Some (unfinished.Open queue)) way = way
    by (Some (unfinished.Publish b words)) way = way
    by (Some (unfinished.Unlink e b link)) way = way
    by (Some unfinished.Chain) way = way
    by (Some (unfinished.Iso e first count)) way =
        record { links = way.links; all = way.all; each = way.each; members = all_more (IsWaitingOf d e first) (IsWaitingOf g e first) d.periodic.queued (waiting e first) way.members; once = way.once }
    by (Some (unfinished.Unchain e)) way = record {
      work = way.work;
      begun = way.begun;
      removes = way.removes;
      endpoint = way.endpoint;
      here = way.here;
      cancelled = way.cancelled;
      framed = way.framed;
      at = way.at;
      leaving = record {
        descriptors = λ iso. let l = way.leaving.descriptors iso in (all_more (IsWaitingOf d e 0) (IsWaitingOf g e 0) (way.work.member ∷ d.periodic.queued) (waiting e 0) l.0, l.1);
        queue = way.leaving.queue;
      };
    }

pub refused_whole : (d : DriverContent) (n : ℕ) (name : EpName) (why : OfferError) → IsWhole d → IsWhole (refused_line d n name why)
refused_whole d n name why h = record {
  owners = record { owner = h.owners.owner; owned = record { each = h.owners.owned.each; sizes = h.owners.owned.sizes; as_many = h.owners.owned.as_many }; orderly = h.owners.orderly };
  listed = refused_listed d n name why h.listed;
  queues = record { each = h.queues.each; many = h.queues.many; room = h.queues.room; leaving = h.queues.leaving };
  planned = h.planned;
  ordered = h.ordered;
  frames = record {
    places = h.frames.places;
    stepped = λ e x p here iso chained placed. let s = h.frames.stepped e x p here iso chained placed in record { steps = s.steps; active = s.active; few = s.few; bound = s.bound; next = s.next };
  };
}
