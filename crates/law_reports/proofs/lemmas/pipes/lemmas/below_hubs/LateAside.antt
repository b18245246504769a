-- A host that waits too long: what the walk does with its queue head stays so at an event of the driver or a command, and a link in the
-- frame stays out where it was out.
use Rattle.std.proofs.Common.{◌≡◌, ◌≢◌, ℕ, ◌%◌, ◌<◌, ◌⊎◌, Bool, true, false, not}
use Rattle.std.proofs.Common.{List, Option, Some, ⊎_elim, inl, inr, ap, refl, sym, subst, ◌∙◌}
use Rattle.drv_chains.specs.Chains.{Schedule}
use Rattle.drv_chains.specs.Stores.{is_made}
use Rattle.drv_members.specs.Members.{is_linked}
use Rattle.drv_periodic.specs.declared.work.Work.{Work}
use Rattle.hc_core.specs.Controller.{Control}
use Rattle.periodic_walk.specs.Walk.{held_address}
use Rattle.bus_wire.specs.Bus.{Fixed}
use Rattle.bus_world.specs.World.{World}
use Rattle.claims_driver.specs.FrameWords.{made_of}
use Rattle.claims_world.specs.Visits.{IsInChain, begins, frame_in, HasVisited}
use Rattle.law_descriptors.proofs.Leading.{led_linked}
use Rattle.law_world.specs.memory.Mixed.{Standing, IsMixedAt}
use Rattle.law_microframes.specs.visits.Visited.{LinksNot, StandsIn, IsToCome, GoesBack}
use Rattle.law_microframes.proofs.Common.{in_list}
use Rattle.law_microframes.proofs.lemmas.due.Linked.{in_chain_shown}
use Rattle.law_microframes.proofs.lemmas.visits.NoneLeftWorlds.{in_chain_stands}
use Rattle.law_reports.specs.pipes.Declared.{Sides}
use Rattle.law_reports.specs.pipes.below_hubs.InwardLaws.{WaitsAt}
use Rattle.law_reports.specs.pipes.below_hubs.Late.{IsHeldAt, IsAtFirst, IsLeftBehind, MissesFrame}

-- what stands in the frame, and isn't being linked, is linked in it
pub chain_back : (s t : Standing) (w new : World) (f n : ℕ) → IsMixedAt s w → IsMixedAt t new → f < 1024 → LinksNot w n
    → (StandsIn new.driver f n → StandsIn w.driver f n) → IsInChain new f n → IsInChain w f n
chain_back s t w new f n k l low off stood led =
    let h : StandsIn w.driver f n = stood (in_chain_stands t new f n l low led) in
    subst (IsInChain w f) h.at
    (in_chain_shown s w f h.member k low (led_linked w.driver.periodic.list.members.schedule w.driver.periodic.list.work h.member h.linked)
    h.in_frame (λ v is same. shows h v is same v.removes refl))
  where
    shows : (h : StandsIn w.driver f n) (v : Work) → w.driver.periodic.list.work ≡ Some v → v.member ≡ h.member → (b : Bool) → v.removes ≡ b
        → is_made w.driver.periodic.list.members.schedule v.member (made_of w.driver.periodic.list.members.schedule v) f ≡ not v.removes
    shows h v is same true removes = h.stays v is removes same ∙ sym (ap not removes)
    shows h v is same false adds = absurd (off v is adds (sym h.at ∙ ap begins (sym same)))

module _ (fixed : Fixed) (x : Sides) (b w new : World) (vs : List ℕ) (n : ℕ) (s t : Standing) (k : IsMixedAt s w) (l : IsMixedAt t new)
    (same : new.control ≡ w.control) (back : GoesBack w new) (late : WaitsAt fixed x w n) (off : LinksNot w n) where
  led_back : IsInChain new (frame_in new.control.frame.index) n → IsInChain w (frame_in w.control.frame.index) n
  led_back led =
      chain_back s t w new (frame_in w.control.frame.index) n k l (in_list w.control.frame.index) off (back.stood n off)
      (subst (λ (c : Control). IsInChain new (frame_in c.frame.index) n) same led)

  held_on : IsHeldAt w n → IsHeldAt new n
  held_on h = record {
    part = ap (λ (c : Control). c.part) same ∙ h.part;
    held = h.held;
    in_hand = ap (λ (c : Control). c.frame.hand) same ∙ h.in_hand;
    at = h.at;
    unsettled = h.unsettled;
  }

  first_on : IsAtFirst fixed x b w vs n → IsAtFirst fixed x b new vs n
  first_on f = record {
    linked = λ led.
        subst (λ (c : Control). IsInChain b (frame_in c.frame.index) n) (sym same) (f.linked (led_back led));
    visited = λ was.
        ⊎_elim {C = IsHeldAt new n ⊎ (WaitsAt fixed x new n → ⊥)} (λ (held : IsHeldAt w n). inl (held_on held))
        (λ (never : WaitsAt fixed x w n → ⊥). absurd (never late)) (f.visited was);
  }

  behind_on : IsLeftBehind w n → IsLeftBehind new n
  behind_on p = record {
    unlinked = λ led. p.unlinked (led_back led);
    unreached = λ came. p.unreached (back.came n off came);
    unheld = λ part held.
        p.unheld (sym (ap (λ (c : Control). c.part) same) ∙ part) (sym (ap (λ (c : Control). held_address c.frame.hand) same) ∙ held);
  }

  pub aside_misses : MissesFrame fixed x b w vs n → MissesFrame fixed x b new vs n
  aside_misses m = record {
    first = λ zero. first_on (m.first (sym (ap (λ (c : Control). c.frame.index % 8) same) ∙ zero));
    later = λ some. behind_on (m.later (λ zero. some (ap (λ (c : Control). c.frame.index % 8) same ∙ zero)));
  }
