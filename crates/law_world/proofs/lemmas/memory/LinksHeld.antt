-- At each moment of a script all links are as they should be, and while the doorbell is pending one batch is rung.
use Rattle.std.proofs.Common.{ℕ, zero, suc, List, [], ◌∷◌, ◌++◌, sym, subst}
use Rattle.script_types.specs.declared.scripts.Event.TheVariants as events
use Rattle.script_types.specs.declared.scripts.Script.{Script}
use Rattle.script_text.specs.Faults.{Spells}
use Rattle.word_mem.specs.Memory.{Mem}
use Rattle.drv_table.specs.DriverContent.{DriverContent}
use Rattle.bus_wire.specs.Bus.{Fixed, fixed_of}
use Rattle.bus_world.specs.Budgets.{moment}
use Rattle.bus_world.specs.Orders.{Left, Events, Microframes, Answer, Command, OrderedWorld, tick_at, ticks}
use Rattle.bus_world.specs.World.{World, controller_parts}
use Rattle.claims_base.specs.Controller.{opening_base}
use Rattle.claims_driver.specs.Walk.{IsBellIn}
use Rattle.claims_world.specs.Links.{AreLeft, HoldsLinks}
use Rattle.law_descriptors.specs.RowLaws.{HasFrames}
use Rattle.law_world.specs.memory.Links.{HoldsLiveLinks, MixedHoldsLinks, AreOut, HasCleared, TextsKeepLinks}
use Rattle.law_world.specs.memory.Mixed.{Standing, IsMixedWorld}
use Rattle.law_world.specs.memory.Owners.{EndsActive}
use Rattle.law_world.proofs.lemmas.memory.FrameLeads.{element_ends, member_ends}
use Rattle.law_world.proofs.lemmas.memory.FrameOnce.{texts_leave_frames_leading}
use Rattle.law_world.proofs.lemmas.memory.LeftCommands.{command_keeps_cleared, controller_keeps_cleared}
use Rattle.law_world.proofs.lemmas.memory.LeftLinks.{driver_keeps_cleared}
use Rattle.law_world.proofs.lemmas.memory.LetGo.{moment_then}
use Rattle.law_world.proofs.lemmas.memory.OneBatch.{one_batch}
use Rattle.law_world.proofs.lemmas.memory.OwnMoments.{ends_active}
use Rattle.law_world.proofs.lemmas.memory.RingLeads.{live_leads, left_leads}
use Rattle.law_world.proofs.lemmas.memory.Together.{texts_stay_mixed}
use Rattle.law_world.proofs.lemmas.memory.lemmas.framed_memory.Now.{now_has_frames}

pub mixed_holds_links : MixedHoldsLinks
mixed_holds_links = λ w k.
    let s : Standing = k.standing in
    let frames : HasFrames w.memory w.driver
    = now_has_frames opening_base s.member s.recent s.descs s.parts s.hand s.frame (controller_parts w) w.driver k.mixed.now in
    record {
      ring = live_leads w.memory w.driver k.mixed.now.framed.place.sound.ring.ring;
      left = left_leads s w k.mixed;
      elements = element_ends w.memory w.driver frames;
      members = member_ends w.memory w.driver frames;
    }

-- ---- those that left the ring, along a run

all_left : (m : Mem) (d : DriverContent) (fs es : List ℕ) → AreOut m d fs es → AreLeft m d fs → AreLeft m d (es ++ fs)
all_left m d fs [] out rest = rest
all_left m d fs (e ∷ es) out rest = (out.0.left, all_left m d fs es out.1 rest)

module _ (fixed : Fixed) (w : World) (k : IsMixedWorld w) (ends : EndsActive w.control) (cleared : HasCleared w) where
  by_orders : (orders : List Left) → HasCleared (tick_at fixed w orders).world
  by_orders (Events events.C (suc n) ∷ rest) = controller_keeps_cleared fixed w k ends cleared
  by_orders (Events events.D (suc n) ∷ rest) = driver_keeps_cleared w k cleared
  by_orders (Microframes (suc n) ∷ rest) = controller_keeps_cleared fixed w k ends cleared
  by_orders (Answer ended n ∷ rest) = driver_keeps_cleared w k cleared
  by_orders (Command n cmd ∷ rest) = command_keeps_cleared w n cmd k cleared
  by_orders _ = cleared

module _ (text : List ℕ) (s : Script) (spelled : Spells text s) where
  has_cleared : (k : ℕ) → HasCleared (moment s k).world
  unfolding ticks
  has_cleared zero = tt
  has_cleared (suc k) =
      subst (λ (q : OrderedWorld). HasCleared q.world) (sym (moment_then s k))
      (by_orders (fixed_of s) (moment s k).world (texts_stay_mixed text s spelled k) (ends_active text s spelled k) (has_cleared k)
      (moment s k).orders)

  bell : (k : ℕ) → IsBellIn (moment s k).world.driver (moment s k).world.registers
  bell k = (texts_stay_mixed text s spelled k).mixed.walking.bell

  holds : (k : ℕ) → HoldsLinks (moment s k).world.memory (moment s k).world.driver
  holds k =
      let w : World = (moment s k).world in
      let h : HoldsLiveLinks w.memory w.driver = mixed_holds_links w (texts_stay_mixed text s spelled k) in
      record {
        ring = h.ring;
        left = all_left w.memory w.driver (w.driver.rung ++ w.driver.waiting) w.driver.cleared (has_cleared k) h.left;
        elements = h.elements;
        members = h.members;
      }

pub texts_keep_links : TextsKeepLinks
texts_keep_links = λ text s spelled. record {
  moments = λ k. record { links = holds text s spelled k; batch = one_batch s (bell text s spelled) k };
  left_frames = texts_leave_frames_leading text s spelled;
}
