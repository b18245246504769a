-- Standings whose queues are the same, and a queue that is told no more: what steps of a world with endpoints of every kind are made of.
use Rattle.std.proofs.Common.{◌≡◌, ◌≢◌, ℕ, ◌==◌, ◌&&◌, not, Bool, true, false, Option, ap, refl, sym, subst, ◌∙◌}
use Rattle.std.proofs.lemmas.Bool.{true≢false}
use Rattle.drv_table.specs.DriverContent.{DriverContent}
use Rattle.claims_base.specs.Controller.{Base, opening_base}
use Rattle.law_structures.specs.lent_structures.Structures.{StructureSets}
use Rattle.law_ring.specs.Told.{Endpoint as Told}
use Rattle.law_driver_ring.specs.fed_queues.Places.{HasHead, AreMet, HaveStreams}
use Rattle.law_driver.specs.queued_drivers.Rows.{QueuesAlike}
use Rattle.law_driver.proofs.lemmas.listed_members.Unchaining.{elsewhere_on}
use Rattle.law_driver.proofs.lemmas.queued_drivers.RowFrames.{queues_same}
use Rattle.law_frames.specs.FrameHand.{FrameHand}
use Rattle.law_frames.specs.Met.{Kind}
use Rattle.law_descriptors.specs.Both.{both, parts_now}
use Rattle.law_descriptors.specs.ListRows.{IsStoredIn, an_element, a_link}
use Rattle.bus_world.specs.World.{World}
use Rattle.law_world.specs.memory.Mixed.{Standing, IsMixedWorld}
use Rattle.law_world.specs.memory.Steps.{FrameStays, same_frame, linked_frame, same_hand, AreTold, AreStill, IsMixedNext}
use Rattle.law_world.proofs.lemmas.memory.Alike.{same_itself, queues_stored}

pub mixed_world : (s : Standing) (w new : World) → IsMixedNext s w new → IsMixedWorld new
mixed_world s w new k = record { standing = k.standing; mixed = k.mixed }

-- ---- the same is told

pub told_same : (s : Standing) (recent : ℕ → Option Kind) (descs : StructureSets) → AreTold s (record s { recent = recent; descs = descs })
told_same s recent descs = record { parts = λ n. same_itself n (s.parts n); hand = same_hand; frame = same_frame }

pub still_same : (s : Standing) → AreStill s s
still_same s = record { near = refl; streams = refl; ends = refl; order = refl; out = refl; told = told_same s s.recent s.descs }

-- an element of the frame list is stored, or the link of a structure
frame_stays : (base : Base) (parts : StructureSets) (frame : FrameHand) (at v : ℕ) (now : StructureSets) (later : FrameHand)
    → IsStoredIn base parts frame at v now later → FrameStays frame later
frame_stays base parts frame at v now later (an_element k list below place is later_is) = subst (FrameStays frame) (sym later_is) same_frame
frame_stays base parts frame at v now later (a_link s here has is later_is) = subst (FrameStays frame) (sym later_is) (linked_frame at _)

pub told_stored : (s : Standing) (recent : ℕ → Option Kind) (descs : StructureSets) (at v : ℕ) (now : StructureSets) (later : FrameHand)
    → IsStoredIn opening_base (both s.descs s.parts) s.frame at v now later
    → AreTold s (record s { recent = recent; descs = descs; parts = parts_now s.descs s.parts now; frame = later })
told_stored s recent descs at v now later stored = record {
  parts = queues_stored opening_base s.descs s.parts s.frame at v now later stored;
  hand = same_hand;
  frame = frame_stays opening_base (both s.descs s.parts) s.frame at v now later stored;
}

-- ---- the same driver

pub queues_are : (d f : DriverContent) → d ≡ f → QueuesAlike d f
queues_are d f is = subst (QueuesAlike d) is (queues_same d)

-- ---- one queue is told no more

-- that is met no more already
pub near_without : (near : ℕ → Bool) (n : ℕ) → near n ≡ false → (m : ℕ) → near m ≡ (near m && not (m == n))
near_without near n off m = by (near m) refl
  where
    by : (b : Bool) → near m ≡ b → b ≡ (b && not (m == n))
    by false is = refl
    by true is = sym (elsewhere_on m n (λ same. true≢false (sym is ∙ ap near same ∙ off)))

-- those with streams are met
pub streams_within : (d : DriverContent) (near streams : ℕ → Bool) (ends : ℕ → Told) → AreMet d near → HaveStreams d streams ends → (m : ℕ)
    → streams m ≡ (streams m && near m)
streams_within d near streams ends met have m = by (streams m) refl
  where
    by : (b : Bool) → streams m ≡ b → b ≡ (b && near m)
    by false is = refl
    by true is = let h : HasHead d m = have.only m is in sym (ap near h.at ∙ met.each h.number h.endpoint h.here h.met)
