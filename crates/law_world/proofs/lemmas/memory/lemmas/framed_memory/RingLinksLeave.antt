-- The queue head before a cancelled endpoint's leads past it, beside both walks.
use Rattle.std.proofs.Common.{◌≡◌, ℕ, zero, suc, ◌*◌, Bool, false, Option, Some, None, inl, ap, refl, sym, subst, ◌∙◌, ⊎_elim}
use Rattle.law_world.proofs.Common.{not_opened}
use Rattle.word_mem.specs.Memory.{Mem}
use Rattle.async_walk.specs.Rows.{place}
use Rattle.drv_table.specs.declared.content.Endpoint.{Endpoint}
use Rattle.drv_table.specs.declared.content.Command.{Command}
use Rattle.drv_table.specs.declared.content.Command.TheVariants as unfinished
use Rattle.drv_table.specs.declared.rows.DriverRow.{DriverRow}
use Rattle.drv_table.specs.declared.rows.DriverRow.TheVariants as rows
use Rattle.drv_table.specs.DriverContent.{DriverContent}
use Rattle.drv_table.specs.Parts.{Parts}
use Rattle.drv_table.specs.Rows.{row_for, driver_row, after_driver_row}
use Rattle.drv_table.specs.Commands.{command_row}
use Rattle.drv_table.specs.Words.{to_queue_head, queue_head_link}
use Rattle.law_driver.specs.in_place.InPlace.{IsSound}
use Rattle.law_driver.proofs.lemmas.ring_members.Placed.{linked_alive}
use Rattle.law_driver.proofs.lemmas.endpoint_lives.Lives.{linked_met}
use Rattle.hc_core.specs.Controller.{Content, walk_place}
use Rattle.law_structures.specs.lent_structures.Structures.{StructureSets}
use Rattle.law_ring.specs.Hand.{Hand}
use Rattle.claims_base.specs.Controller.{Base}
use Rattle.law_driver_ring.specs.Driven.{DrivesRing}
use Rattle.law_world.specs.steps.unlinked_streams.Unlinks.{IsAtUnlink, driver_then, parts_unlinked, hand_unlinked, MeetsRing}
use Rattle.law_world.proofs.lemmas.steps.lemmas.unlinked_streams.Passing.{row_is, driver_is, unlink_leaves_ring}
use Rattle.law_world.proofs.lemmas.steps.lemmas.unlinked_streams.Standing.{unlink_stands}
use Rattle.law_queues.specs.shared_memory.Shared.{parts_of}
use Rattle.law_frames.specs.Met.{Kind}
use Rattle.law_frames.specs.FrameHand.{FrameHand}
use Rattle.law_descriptors.specs.Removed.{IsRemovedSince, IsUnchainedNow}
use Rattle.law_descriptors.specs.Recent.{AreRecent}
use Rattle.law_world.specs.memory.framed_memory.Now.{IsFramedNow, FramedNext}
use Rattle.law_world.proofs.lemmas.memory.lemmas.framed_memory.StillStanding.{recent_still, set_still}
use Rattle.law_world.specs.memory.framed_memory.Ring.{UnlinkNow, UnlinkIsDue}
use Rattle.law_world.proofs.lemmas.memory.lemmas.framed_memory.RingLinks.{ring_now, link_stored}
use Rattle.law_world.proofs.lemmas.memory.lemmas.framed_memory.Steps.{StaysMet}

-- ---- what is recent

unlink_unchain : (o : Option Command) (e b link i : ℕ) → o ≡ Some (unfinished.Unlink e b link) → o ≡ Some (unfinished.Unchain i) → ⊥
unlink_unchain o e b link i one two = cc

-- no members of the frame list are unlinked
idle_recent : (d : DriverContent) (recent : ℕ → Option Kind) (index e b link : ℕ) → d.command ≡ Some (unfinished.Unlink e b link) → AreRecent d index recent → AreRecent (record d { command = None }) index recent
idle_recent d recent index e b link command are n kind on =
    ⊎_elim (λ (s : IsRemovedSince d.endpoints d.transfers d.periodic.removals index n). inl s)
    (λ (now : IsUnchainedNow d.endpoints d.transfers d.command n). absurd (unlink_unchain d.command e b link now.endpoint command now.command)) (are n kind on)

-- ---- the store

module _ (base : Base) (member : ℕ → Bool) (recent : ℕ → Option Kind) (descs parts : StructureSets) (hand : Hand) (frame : FrameHand) (c : Content) (d : DriverContent) (i : IsFramedNow base member recent descs parts hand frame c d) (k : IsAtUnlink d member parts) where
  abbrev p : Parts
  p = parts_of c d

  abbrev row : DriverRow
  row = rows.Store k.before (32 * k.before) (queue_head_link k.after)

  abbrev now : StructureSets
  now = parts_unlinked parts k.before k.queue k.after

  abbrev later : Hand
  later = hand_unlinked hand k.before k.after

  abbrev f : DriverContent
  f = (after_driver_row row p).driver

  abbrev after : Mem
  after = (after_driver_row row p).memory

  abbrev left : Endpoint
  left = record k.endpoint { linked = false }

  is : driver_row p ≡ row
  is = row_is p member parts k

  f_is : f ≡ driver_then d k.number k.endpoint
  f_is = ap (λ (r : DriverRow). (after_driver_row r p).driver) (sym is) ∙ driver_is p member parts k

  drives : DrivesRing base member now later (place c.control.walk c.registers after) f
  drives =
      subst (λ (r : DriverRow). DrivesRing base member now later (place c.control.walk (after_driver_row r p).registers (after_driver_row r p).memory) (after_driver_row r p).driver) is
      (unlink_leaves_ring base c.control.walk hand p member parts k (ring_now base member recent descs parts hand frame c d i))

  recent_then : AreRecent (driver_then d k.number k.endpoint) c.registers.frame_index recent
  recent_then =
      recent_still (record d { command = None }) (driver_then d k.number k.endpoint) recent c.registers.frame_index refl
      (set_still d.endpoints k.number k.endpoint left k.here refl refl) (λ t y there. there) refl
      (idle_recent d recent c.registers.frame_index k.number k.before (queue_head_link k.after) k.command i.recent_are)

  stays : StaysMet recent c.registers.frame_index d f
  stays = subst (StaysMet recent c.registers.frame_index d) (sym f_is) (record { stands = λ a. refl; recent_are = recent_then })

  pub passed_now : FramedNext base member recent descs now later frame c d
  passed_now =
      link_stored base member recent descs parts hand frame c d k.before (queue_head_link k.after) (to_queue_head k.after) k.queue i k.met k.head k.can is drives stays

pub unlink_now : UnlinkNow
unlink_now base member recent descs parts hand frame c d i k = passed_now base member recent descs parts hand frame c d i k

-- ---- the row tells

-- it is the only event of the command
none_made : (e b link n : ℕ) → command_row (unfinished.Unlink e b link) n ≡ rows.Store b (32 * b) link → n ≡ 0
none_made e b link zero is = refl
none_made e b link (suc n) is = absurd (cc)

pub unlink_is_due : UnlinkIsDue
unlink_is_due base member recent descs parts hand frame c d e b link i command is met =
    let p : Parts = parts_of c d in
    let sound : IsSound c.memory d = i.framed.place.sound in
    let ring : DrivesRing base member parts hand (walk_place c) d = ring_now base member recent descs parts hand frame c d i in
    let made : d.made ≡ 0 = none_made e b link d.made (sym (ap (row_for p) command) ∙ is) in
    let meets : MeetsRing d member
    = record {
      head = met.head;
      each = λ j y here on.
          met.each j y here
          (record {
            there = record { linked = λ same. not_opened d.command e b link y.queue command same; kept = (linked_alive d j y sound.owners.orderly here on).1 };
            near = linked_met d j y on;
          });
    } in
    unlink_stands d c.memory member parts e b link command made sound ring.ring.tells meets ring.ring.members
