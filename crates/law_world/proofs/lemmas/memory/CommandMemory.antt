-- Memory stays framed where an isochronous endpoint is opened, and where descriptors are taken on, whatever other endpoints the driver has.
use Rattle.std.proofs.Common.{◌≡◌, ℕ, Bool, [], ◌∷◌, Option, Ok, ap, refl, sym, subst}
use Rattle.law_driver_ring.proofs.Common.{leaves_itself}
use Rattle.usb_base.specs.declared.commands.Cmd.{Cmd}
use Rattle.drv_table.specs.DriverContent.{DriverContent}
use Rattle.drv_table.specs.Accepting.{Offered}
use Rattle.drv_table.specs.Offers.{IsOffered, offered, placed_endpoint, accepted_iso}
use Rattle.claims_driver.specs.Owners.{views_of}
use Rattle.law_driver.specs.run_owners.Accepts.{places, Places, Describes}
use Rattle.hc_core.specs.Controller.{Content}
use Rattle.law_structures.specs.lent_structures.Structures.{StructureSets}
use Rattle.law_structures.specs.lent_structures.Changes.{Leaves}
use Rattle.law_ring.specs.Hand.{Hand}
use Rattle.claims_base.specs.Controller.{Base}
use Rattle.law_driver_ring.specs.Inventory.{sorts_of, IsDriven}
use Rattle.law_driver_ring.specs.Extents.{AreInRuns}
use Rattle.law_frames.specs.Met.{Kind}
use Rattle.law_frames.specs.FrameHand.{FrameHand}
use Rattle.law_descriptors.specs.Told.{IsToldBy, with_memory}
use Rattle.law_descriptors.specs.Meeting.{standing}
use Rattle.law_descriptors.specs.Recent.{AreRecent}
use Rattle.law_descriptors.proofs.CommandAccepting.{describes_told, describes_leaves}
use Rattle.law_descriptors.proofs.Others.{commands_describe}
use Rattle.law_world.specs.memory.framed_memory.Now.{IsFramedNow}
use Rattle.law_world.proofs.lemmas.memory.lemmas.framed_memory.Now.{told_now}
use Rattle.law_world.proofs.lemmas.memory.lemmas.framed_memory.Placing.{placed_driven, placed_extents}
use Rattle.law_world.proofs.lemmas.memory.lemmas.framed_memory.StillStanding.{pushed_still, recent_still, described_stands, described_recent}
use Rattle.law_world.proofs.lemmas.memory.lemmas.framed_memory.QueueAccepting.{AcceptsBeside, accepted}

module _ (base : Base) (member : ℕ → Bool) (recent : ℕ → Option Kind) (descs parts : StructureSets) (hand : Hand) (frame : FrameHand) (c : Content) (d : DriverContent) (cmd : Cmd) (o : Offered) (k : IsFramedNow base member recent descs parts hand frame c d) where
  told : IsToldBy (views_of d) descs parts
  told = told_now base member recent descs parts hand frame c d k

  placed : Places d c.memory o → AcceptsBeside d c.memory o descs parts recent c.registers.frame_index
  placed why =
      let sound = k.framed.place.sound in
      record {
        leaves = subst (λ (f : Offered). Leaves c.memory f.memory) (sym why.is) (leaves_itself c.memory sound.shape);
        told = record {
          driven = subst (λ (f : Offered). IsDriven (views_of f.driver) (sorts_of parts)) (sym why.is) (placed_driven d why.desc why.placement why.isochronous (sorts_of parts) told.driven);
          extents = subst (λ (f : Offered). AreInRuns (views_of f.driver) parts) (sym why.is) (placed_extents d why.desc why.placement why.isochronous parts told.extents);
          described = commands_describe d c.memory o descs (places why) sound.stands told.described;
        };
        same = λ n. ap (λ (f : Offered). standing f.driver n) why.is;
        recent_are = subst (λ (f : Offered). AreRecent f.driver c.registers.frame_index recent) (sym why.is)
            (recent_still d (accepted_iso d why.desc why.placement) recent c.registers.frame_index why.idle
            (pushed_still d.endpoints (placed_endpoint why.desc why.placement 0 0 ∷ [])) (λ t y there. there) refl k.recent_are);
      }

  described : Describes d c.memory o → AcceptsBeside d c.memory o descs parts recent c.registers.frame_index
  described why =
      let sound = k.framed.place.sound in
      record {
        leaves = describes_leaves d c.memory o why sound.stands sound.shape;
        told = describes_told d c.memory o descs parts why sound.stands told;
        same = described_stands d c.memory o why sound.stands sound.owners sound.listed;
        recent_are = described_recent d c.memory o why recent c.registers.frame_index k.recent_are;
      }

  pub placed_now : Places d c.memory o → IsOffered d.room cmd → offered d c.memory cmd ≡ Ok o → IsFramedNow base member recent descs parts hand frame (with_memory c o.memory) o.driver
  placed_now why room is = accepted base member recent descs parts hand frame c d cmd o k (placed why) room is

  pub described_now : Describes d c.memory o → IsOffered d.room cmd → offered d c.memory cmd ≡ Ok o → IsFramedNow base member recent descs parts hand frame (with_memory c o.memory) o.driver
  described_now why room is = accepted base member recent descs parts hand frame c d cmd o k (described why) room is
