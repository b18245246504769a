-- A refusal that becomes a line of the report leaves everything in place.
use Rattle.std.proofs.Common.{ℕ, List, Option, Some}
use Rattle.law_common.proofs.Lists.{all_more}
use Rattle.usb_base.specs.declared.endpoints.EpName.{EpName}
use Rattle.usb_base.specs.declared.reports.OfferError.{OfferError}
use Rattle.word_mem.specs.Memory.{Mem}
use Rattle.drv_chains.specs.declared.members.QueueHead.{QueueHead as Queue}
use Rattle.drv_chains.specs.declared.members.Member.{Member}
use Rattle.drv_chains.specs.declared.members.Member.TheVariants.{Once}
use Rattle.drv_chains.specs.declared.members.Descriptor.{Descriptor}
use Rattle.drv_table.specs.declared.content.Command.{Command}
use Rattle.drv_table.specs.declared.content.Command.TheVariants as unfinished
use Rattle.drv_table.specs.DriverContent.{DriverContent}
use Rattle.claims_driver.specs.Leaving.{HasOwners}
use Rattle.claims_driver.specs.LentRuns.{AreLent}
use Rattle.claims_driver.specs.FrameListMembers.{Framed}
use Rattle.law_driver.specs.listed_members.Members.{IsStanding, IsQueueOf, IsWaitingOf, IsDescribing, AreLeaving, IsUnchaining, IsUnderWay, IsListed}
use Rattle.law_driver.specs.listed_queues.Queues.{HasQueues}
use Rattle.law_driver.specs.ring_members.Words.{IsRing}
use Rattle.claims_driver.specs.InPlace.{AreFixed}
use Rattle.law_driver.specs.in_place.InPlace.{IsInPlace}
use Rattle.bus_world.specs.World.{refused_line}

module _ (d : DriverContent) (line : ℕ) (name : EpName) (why : OfferError) where
  abbrev after : DriverContent
  after = refused_line d line name why

  refused_owners : HasOwners d → HasOwners after
  refused_owners old = record {
    owner = old.owner;
    owned = record { each = old.owned.each; sizes = old.owned.sizes; as_many = old.owned.as_many };
    orderly = old.orderly;
  }

  -- ---- the frame list

  queue_same : (q : Queue) → IsQueueOf d q → IsQueueOf after q
  queue_same q s = record { number = s.number; framed = s.framed; here = s.here; chained = s.chained; queued = s.queued; place = s.place; placed = s.placed; is = s.is; valid = s.valid }

  standing_same : (m : Member) → IsStanding d m → IsStanding after m
  standing_same m s = record { number = s.number; placed = s.placed; here = s.here; stands = s.stands; is = s.is }

  standing_back : (m : Member) → IsStanding after m → IsStanding d m
  standing_back m s = record { number = s.number; placed = s.placed; here = s.here; stands = s.stands; is = s.is }

  waiting_same : (e first : ℕ) (m : Member) → IsWaitingOf d e first m → IsWaitingOf after e first m
  waiting_same e first m s = record { number = s.number; placed = s.placed; here = s.here; later = s.later; endpoint = s.endpoint; waits = s.waits; is = s.is }

  describing_same : (e first count : ℕ) → IsDescribing d e first count → IsDescribing after e first count
  describing_same e first count s = record {
    links = s.links;
    all = s.all;
    each = s.each;
    members = all_more (IsWaitingOf d e first) (IsWaitingOf after e first) d.periodic.queued (waiting_same e first) s.members;
    once = s.once;
  }

  leaving_same : (e : ℕ) (x : Framed) (ms : List Member) → AreLeaving d e x ms → AreLeaving after e x ms
  leaving_same e x ms s = record {
    descriptors = λ isochronous. let both = s.descriptors isochronous in (all_more (IsWaitingOf d e 0) (IsWaitingOf after e 0) ms (waiting_same e 0) both.0, both.1);
    queue = s.queue;
  }

  unchaining_same : (e : ℕ) → IsUnchaining d e → IsUnchaining after e
  unchaining_same e s = record {
    work = s.work;
    begun = s.begun;
    removes = s.removes;
    endpoint = s.endpoint;
    here = s.here;
    cancelled = s.cancelled;
    framed = s.framed;
    at = s.at;
    leaving = leaving_same e s.framed _ s.leaving;
  }

  way_same : (c : Option Command) → IsUnderWay d c → IsUnderWay after c
  way_same (Some (unfinished.Iso e first count)) way = describing_same e first count way
  way_same (Some (unfinished.Unchain e)) way = unchaining_same e way
  way_same _ way = way

  refused_listed : IsListed d → IsListed after
  refused_listed old = record {
    list = record {
      list = old.list.list;
      members = record {
        queues = all_more (IsQueueOf d) (IsQueueOf after) d.periodic.list.members.schedule.queues queue_same old.list.members.queues;
        descriptors = all_more (λ (k : Descriptor). IsStanding d (Once k)) (λ (k : Descriptor). IsStanding after (Once k)) d.periodic.list.members.schedule.descriptors (λ k. standing_same (Once k)) old.list.members.descriptors;
        each = λ m s. old.list.members.each m (standing_back m s);
      };
      frames = old.list.frames;
      many = old.list.many;
      room = old.list.room;
      kept = old.list.kept;
    };
    way = way_same d.command old.way;
  }

  -- ---- the others

  refused_ring : (word : ℕ → ℕ) → IsRing word d → IsRing word after
  refused_ring word old = record { ring = old.ring; leaving = old.leaving; mends = old.mends; kept = old.kept }

  refused_lent : AreLent d → AreLent after
  refused_lent old = record { kept = old.kept; lent = old.lent }

  refused_queues : HasQueues d → HasQueues after
  refused_queues old = record { each = old.each; many = old.many; room = old.room; leaving = old.leaving }

  refused_fixed : (m : Mem) → AreFixed m d → AreFixed m after
  refused_fixed m old = record { each = old.each; head = old.head }

  pub refused_in_place : (m : Mem) → IsInPlace m d → IsInPlace m (refused_line d line name why)
  refused_in_place m old = record {
    sound = record {
      stands = old.sound.stands;
      shape = old.sound.shape;
      owners = refused_owners old.sound.owners;
      listed = refused_listed old.sound.listed;
      ring = refused_ring _ old.sound.ring;
    };
    lent = refused_lent old.lent;
    queues = refused_queues old.queues;
    fixed = refused_fixed m old.fixed;
  }
