-- Accepted commands of endpoints with queues, beside both walks: they take runs that are kept, and write in these alone.
use Rattle.std.proofs.Common.{◌≡◌, ℕ, ◌-◌, Bool, true, List, [], ◌∷◌, length, take, slice_get, slice_index, Option, Some, Ok, ap, refl, sym, subst, ◌∙◌}
use Rattle.std.specs.Prelude.{is_some}
use Rattle.law_descriptors.proofs.Common.{unchained_book}
use Rattle.law_driver_ring.proofs.Common.{leaves_itself}
use Rattle.law_common.proofs.Lists.{still_there}
use Rattle.law_world.proofs.Common.{met_alike}
use Rattle.usb_base.specs.declared.commands.Cmd.{Cmd}
use Rattle.word_mem.specs.Memory.{Mem}
use Rattle.mem_runs.specs.Book.{Book, slot_of}
use Rattle.drv_chains.specs.declared.members.Member.{Member}
use Rattle.drv_periodic_table.specs.Periodic.{is_periodic}
use Rattle.drv_table.specs.declared.content.Endpoint.{Endpoint}
use Rattle.drv_table.specs.declared.content.Command.TheVariants as unfinished
use Rattle.drv_table.specs.DriverContent.{DriverContent}
use Rattle.drv_table.specs.Accepting.{Offered, new_runs}
use Rattle.drv_table.specs.Offers.{IsOffered, offered, new_endpoint, new_transfer, with_queued}
use Rattle.drv_table.specs.CancelOffers.{first_end, accepted_cancel, endpoint_members, with_cancel, accepted_unchain}
use Rattle.claims_driver.specs.Owners.{views_of}
use Rattle.law_driver.specs.run_owners.Accepts.{opens, transfers, cancels, unchains, Opens, Transfers, Cancels, Unchains}
use Rattle.law_driver.proofs.lemmas.run_owners.Stays.{endpoint_stays, or_done}
use Rattle.hc_core.specs.Controller.{Content, walk_place}
use Rattle.async_walk.specs.Rows.{place}
use Rattle.law_structures.specs.lent_structures.Structures.{StructureSets}
use Rattle.law_structures.specs.lent_structures.Changes.{Leaves}
use Rattle.law_ring.specs.Hand.{Hand}
use Rattle.claims_base.specs.Controller.{Base}
use Rattle.law_driver_ring.specs.Driven.{DrivesRing}
use Rattle.law_driver_ring.proofs.Commanding.{open_drives, transfer_drives, cancel_drives}
use Rattle.law_driver_ring.specs.Inventory.{sorts_of, IsDriven}
use Rattle.law_driver_ring.specs.Extents.{AreInRuns}
use Rattle.law_driver_ring.proofs.Opens.{cancel_views}
use Rattle.law_driver_ring.proofs.Viewing.{SameViews, driven_views}
use Rattle.law_driver_ring.proofs.Offered.{opens_leave}
use Rattle.law_driver_ring.proofs.Sending.{transfer_leaves}
use Rattle.law_queues.proofs.lemmas.commanded_queues.Extending.{extents_open, extents_asked}
use Rattle.law_driver.proofs.lemmas.in_place.Laws.{commands_keep_all_in_place}
use Rattle.law_driver.proofs.lemmas.iso_frames.Due.{commands_keep_the_frames}
use Rattle.law_frame_list.proofs.lemmas.list_driver.Rows.{commands_keep_the_list}
use Rattle.law_driver.proofs.lemmas.planned_endpoints.Laws.{commands_keep_the_plan}
use Rattle.law_frames.specs.Met.{Kind}
use Rattle.law_frames.specs.FrameHand.{FrameHand}
use Rattle.law_controller.proofs.lemmas.frame_stores.Beside.{rest_leaves_both}
use Rattle.law_descriptors.specs.Both.{both}
use Rattle.law_descriptors.specs.Told.{IsToldBy, with_memory}
use Rattle.law_descriptors.specs.Meeting.{standing, met}
use Rattle.law_descriptors.specs.Recent.{AreRecent}
use Rattle.law_descriptors.proofs.Others.{commands_describe}
use Rattle.law_descriptors.proofs.Chained.{commands_leave_chained}
use Rattle.law_descriptors.proofs.Queued.{commands_link_queued}
use Rattle.law_descriptors.proofs.Rings.{ring_is_of_queues}
use Rattle.law_world.specs.memory.framed_memory.Framed.{IsFramed}
use Rattle.law_world.specs.memory.framed_memory.Now.{IsFramedNow}
use Rattle.law_world.proofs.lemmas.memory.lemmas.framed_memory.StillStanding.{IsThereStill, pushed_still, set_still, recent_still, unchain_stands, unchain_recent_still}
use Rattle.law_world.proofs.lemmas.memory.lemmas.framed_memory.Lending.{runs_alike}
use Rattle.law_world.specs.memory.framed_memory.QueueRows.{OpenKeepsNow, TransferKeepsNow, CancelKeepsNow, UnchainKeepsNow}
use Rattle.law_world.proofs.lemmas.memory.lemmas.framed_memory.Moving.{alike_extents}

-- ---- an endpoint's members are to be unlinked: the driver's runs and queues are told as before

unchained_views : (d : DriverContent) (e : ℕ) (x : Endpoint) (ms : List Member) → slice_get d.endpoints e ≡ Some x → SameViews (views_of d) (views_of (accepted_unchain d e x ms))
unchained_views d e x ms here =
    let f : DriverContent = with_cancel d e x ms in
    let done = (or_done f (unfinished.Unchain e)).same in
    record {
      slot = λ c. ap (λ (k : Book). slot_of k.slots c) (unchained_book f e);
      endpoint = λ i. done.endpoints i ∙ endpoint_stays d e x (record x { cancelled = true; ended = first_end x.ended }) here refl i;
      transfer = done.transfers;
      note = done.notes;
    }

-- ---- what the acceptance leaves

pub record AcceptsBeside (d : DriverContent) (m : Mem) (o : Offered) (descs parts : StructureSets) (recent : ℕ → Option Kind) (index : ℕ) : Type 0 where
  pub leaves : Leaves m o.memory
  pub told : IsToldBy (views_of o.driver) descs parts
  pub same : (n : ℕ) → standing o.driver n ≡ standing d n
  pub recent_are : AreRecent o.driver index recent

module _ (base : Base) (member : ℕ → Bool) (recent : ℕ → Option Kind) (descs parts : StructureSets) (hand : Hand) (frame : FrameHand) (c : Content) (d : DriverContent) (cmd : Cmd) (o : Offered) (k : IsFramedNow base member recent descs parts hand frame c d) where
  ring_driven : DrivesRing base member parts hand (place c.control.walk c.registers c.memory) d
  ring_driven = record {
    ring = ring_is_of_queues d descs parts base member hand (walk_place c) (record { owners = k.framed.place.sound.owners; driven = k.framed.driven; described = k.framed.described }) k.framed.runs.ring;
    driven = k.framed.driven;
  }

  opened : Opens d c.memory o → AcceptsBeside d c.memory o descs parts recent c.registers.frame_index
  opened why =
      let sound = k.framed.place.sound in
      let drives : DrivesRing base member parts hand (place c.control.walk c.registers o.memory) o.driver
      = open_drives base member parts hand c.control.walk c.registers c.memory d o why sound.owners sound.stands ring_driven in
      let new : Endpoint = new_endpoint why.desc (slice_index (new_runs d why.holding_after) 0) (slice_index (new_runs d why.holding_after) 1) in
      record {
        leaves = opens_leave d c.memory o why sound.stands sound.shape;
        told = record {
          driven = drives.driven;
          extents = extents_open d c.memory o parts why sound.stands sound.owners drives.driven k.framed.extents;
          described = commands_describe d c.memory o descs (opens why) sound.stands k.framed.described;
        };
        same = λ n. ap (λ (f : Offered). standing f.driver n) why.is;
        recent_are = recent_still d o.driver recent c.registers.frame_index why.idle
            (λ e x at. subst (λ (f : Offered). IsThereStill f.driver.endpoints e x) (sym why.is) (pushed_still d.endpoints (new ∷ []) e x at))
            (λ t y at. ap (λ (f : Offered). slice_get f.driver.transfers t) why.is ∙ at) (ap (λ (f : Offered). f.driver.periodic.removals) why.is) k.recent_are;
      }

  asked : Transfers d c.memory o → AcceptsBeside d c.memory o descs parts recent c.registers.frame_index
  asked why =
      let sound = k.framed.place.sound in
      let drives : DrivesRing base member parts hand (place c.control.walk c.registers o.memory) o.driver
      = transfer_drives base member parts hand c.control.walk c.registers c.memory d o why sound.owners sound.stands ring_driven in
      let dummy : ℕ = slice_index (take (length why.asked.stages) (new_runs d why.holding_after)) (length why.asked.stages - 1) in
      record {
        leaves = transfer_leaves d c.memory o why sound.owners sound.stands sound.shape;
        told = record {
          driven = drives.driven;
          extents = extents_asked d c.memory o parts why sound.stands sound.owners drives.driven k.framed.extents;
          described = commands_describe d c.memory o descs (transfers why) sound.stands k.framed.described;
        };
        same = λ n. ap (λ (f : Offered). standing f.driver n) why.is;
        recent_are = recent_still d o.driver recent c.registers.frame_index why.idle
            (λ e x at.
            subst (λ (f : Offered). IsThereStill f.driver.endpoints e x) (sym why.is)
            (set_still d.endpoints why.number why.endpoint (with_queued why.endpoint dummy (length d.transfers)) why.here refl refl e x at))
            (λ t y at.
            subst (λ (f : Offered). slice_get f.driver.transfers t ≡ Some y) (sym why.is) (still_there d.transfers (new_transfer why.number why.asked why.endpoint.dummy ∷ []) t y at))
            (ap (λ (f : Offered). f.driver.periodic.removals) why.is) k.recent_are;
      }

  cancelled : Cancels d c.memory o → AcceptsBeside d c.memory o descs parts recent c.registers.frame_index
  cancelled why =
      let sound = k.framed.place.sound in
      let x : Endpoint = why.endpoint in
      let drives : DrivesRing base member parts hand (place c.control.walk c.registers o.memory) o.driver = cancel_drives base member parts hand c.control.walk c.registers c.memory d o why ring_driven in
      let views : SameViews (views_of d) (views_of (accepted_cancel d why.number x)) = cancel_views d why.number x why.here in
      record {
        leaves = subst (λ (f : Offered). Leaves c.memory f.memory) (sym why.is) (leaves_itself c.memory sound.shape);
        told = record {
          driven = drives.driven;
          extents = subst (λ (f : Offered). AreInRuns (views_of f.driver) parts) (sym why.is) (alike_extents (views_of d) (views_of (accepted_cancel d why.number x)) parts views k.framed.extents);
          described = commands_describe d c.memory o descs (cancels why) sound.stands k.framed.described;
        };
        same = λ n. ap (λ (f : Offered). standing f.driver n) why.is;
        recent_are = recent_still d o.driver recent c.registers.frame_index why.idle
            (λ e z at.
            subst (λ (f : Offered). IsThereStill f.driver.endpoints e z) (sym why.is)
            (set_still d.endpoints why.number x (record x { cancelled = true; ended = first_end x.ended }) why.here refl refl e z at))
            (λ t y at. ap (λ (f : Offered). slice_get f.driver.transfers t) why.is ∙ at) (ap (λ (f : Offered). f.driver.periodic.removals) why.is) k.recent_are;
      }

  -- an endpoint that isn't cancelled is in its frames
  unchained : Unchains d c.memory o → AcceptsBeside d c.memory o descs parts recent c.registers.frame_index
  unchained why =
      let sound = k.framed.place.sound in
      let e : ℕ = why.number in
      let x : Endpoint = why.endpoint in
      let ms : List Member = endpoint_members d e x why.placement in
      let f : DriverContent = accepted_unchain d e x ms in
      let periodic : is_periodic x.desc.kind ≡ true = sym (sound.owners.orderly.steady e x why.here).placed ∙ ap is_some why.placed in
      let views : SameViews (views_of d) (views_of f) = unchained_views d e x ms why.here in
      record {
        leaves = subst (λ (g : Offered). Leaves c.memory g.memory) (sym why.is) (leaves_itself c.memory sound.shape);
        told = record {
          driven = subst (λ (g : Offered). IsDriven (views_of g.driver) (sorts_of parts)) (sym why.is) (driven_views (views_of d) (views_of f) (sorts_of parts) views k.framed.driven);
          extents = subst (λ (g : Offered). AreInRuns (views_of g.driver) parts) (sym why.is) (alike_extents (views_of d) (views_of f) parts views k.framed.extents);
          described = commands_describe d c.memory o descs (unchains why) sound.stands k.framed.described;
        };
        same = λ n. ap (λ (g : Offered). standing g.driver n) why.is ∙ unchain_stands d e x ms n;
        recent_are = subst (λ (g : Offered). AreRecent g.driver c.registers.frame_index recent) (sym why.is)
            (unchain_recent_still d e x ms recent c.registers.frame_index why.idle why.here (sound.listed.list.kept e x why.here periodic why.fresh) k.recent_are);
      }

  pub accepted : AcceptsBeside d c.memory o descs parts recent c.registers.frame_index → IsOffered d.room cmd → offered d c.memory cmd ≡ Ok o
      → IsFramedNow base member recent descs parts hand frame (with_memory c o.memory) o.driver
  accepted s room is =
      let f : IsFramed base member (met d recent) descs parts hand frame c d = k.framed in
      let sound = f.place.sound in
      record {
        framed = record {
          operating = f.operating;
          start = f.start;
          aligned = record { frame = f.aligned.frame; ring = f.aligned.ring; start = f.aligned.start };
          runs = runs_alike base member (met d recent) (met o.driver recent) (both descs parts) hand frame (with_memory c o.memory) (met_alike d o.driver recent s.same)
              (rest_leaves_both base member (met d recent) (both descs parts) hand frame c o.memory f.runs s.leaves);
          place = commands_keep_all_in_place d c.memory cmd o room f.place is;
          list = commands_keep_the_list d c.memory cmd o is sound f.list;
          driven = s.told.driven;
          described = s.told.described;
          extents = s.told.extents;
        };
        recent_are = s.recent_are;
        apart = λ n kind on. s.same n ∙ k.apart n kind on;
        chained = commands_leave_chained d c.memory cmd o sound.owners sound.listed is;
        queued = commands_link_queued d c.memory cmd o sound.listed is;
        planned = commands_keep_the_plan d c.memory cmd o k.planned is;
        in_frames = commands_keep_the_frames d c.memory cmd o sound.stands sound.owners k.planned room k.in_frames is;
      }

pub open_keeps_now : OpenKeepsNow
open_keeps_now base member recent descs parts hand frame c d cmd o k why room is =
    accepted base member recent descs parts hand frame c d cmd o k (opened base member recent descs parts hand frame c d cmd o k why) room is

pub transfer_keeps_now : TransferKeepsNow
transfer_keeps_now base member recent descs parts hand frame c d cmd o k why room is =
    accepted base member recent descs parts hand frame c d cmd o k (asked base member recent descs parts hand frame c d cmd o k why) room is

pub cancel_keeps_now : CancelKeepsNow
cancel_keeps_now base member recent descs parts hand frame c d cmd o k why room is =
    accepted base member recent descs parts hand frame c d cmd o k (cancelled base member recent descs parts hand frame c d cmd o k why) room is

pub unchain_keeps_now : UnchainKeepsNow
unchain_keeps_now base member recent descs parts hand frame c d cmd o k why room is =
    accepted base member recent descs parts hand frame c d cmd o k (unchained base member recent descs parts hand frame c d cmd o k why) room is
