-- What is told of the isochronous OUTs below hubs before the first line, and after a microframe's end and an event in which the controller
-- does nothing: no copy is in hand as it ends (EHCI 1.0, 4.4 and 4.12.3).
use Rattle.std.proofs.Common.{◌≡◌, ◌⊎◌, ℕ, zero, suc, true, List, [], ◌∷◌, length, map, replicate, slice_get, Option, Some, None, ap, sym, subst, ⊎_elim, inl, inr, if◌then◌else◌}
use Rattle.std.specs.Prelude.{◌==◌, position}
use Rattle.script_types.specs.declared.devices.HubText.{HubText}
use Rattle.hub_keys.specs.declared.key.Key.{Key}
use Rattle.tt_pipeline.specs.declared.entry.Entry.{Entry}
use Rattle.multi_tt.specs.Translators.{opening as opening_translator, place_of}
use Rattle.hub_class.specs.HubContent as Hubs
use Rattle.link_words.specs.declared.kinds.Link.{Link}
use Rattle.drv_table.specs.declared.content.Transfer.{Transfer}
use Rattle.hc_core.specs.declared.controller.ControllerRow.{ControllerRow}
use Rattle.hc_core.specs.declared.controller.ControllerRow.TheVariants as rows
use Rattle.periodic_walk.specs.Walk.{over_at}
use Rattle.periodic_walk.specs.declared.state.Hand.{Hand}
use Rattle.claims_base.specs.Controller.{Base}
use Rattle.bus_wire.specs.Bus.{Fixed}
use Rattle.bus_world.specs.World.{World, controller_parts, controller_row, turned_by, with_turned}
use Rattle.law_world.specs.memory.Mixed.{IsMixedWorld}
use Rattle.law_microframes.specs.translators.Parts.{EachOf, IsEven}
use Rattle.claims_world.specs.Gaps.{pipeline_in}
use Rattle.law_microframes.specs.translators.Turns.{entries_at, entries_of_hub, entries_by, pipeline_for, IsInHand, BroughtPart, OutsGoOn, EndKeepsOuts, IdleKeepsOuts, NewOutsGoOn}
use Rattle.law_microframes.proofs.lemmas.visits.VisitControlling.{past_over}

-- ---- before the first line

-- no translator has an entry
module _ (P : Entry → Type 0) (k : Key) where
  none_in : (n j : ℕ) → EachOf P k (pipeline_in (replicate n opening_translator) j)
  none_in zero zero = tt
  none_in zero (suc j) = tt
  none_in (suc n) zero = tt
  none_in (suc n) (suc j) = none_in n j

  none_of : (h : HubText) (o : Option ℕ) → EachOf P k (entries_at o (Hubs.opening h))
  none_of h None = tt
  none_of h (Some j) = none_in (if h.multi then length h.attached else 1) j

  none_at : (hs : List HubText) (i port : ℕ) → EachOf P k (entries_of_hub (slice_get (map Hubs.opening hs) i) port)
  none_at [] zero port = tt
  none_at [] (suc i) port = tt
  none_at (h ∷ hs) zero port = none_of h (place_of h.multi port)
  none_at (h ∷ hs) (suc i) port = none_at hs i port

  none_by : (hs : List HubText) (o : Option ℕ) (port : ℕ) → EachOf P k (entries_by (map Hubs.opening hs) o port)
  none_by hs None port = tt
  none_by hs (Some i) port = none_at hs i port

  none_yet : (hs : List HubText) (hub port : ℕ) → EachOf P k (pipeline_for (map Hubs.opening hs) hub port)
  none_yet hs hub port = none_by hs (position (λ x. x.address == hub) (map Hubs.opening hs)) port

none_there : (i : ℕ) (y : Transfer) → ◌≡◌ {A = Option Transfer} (slice_get [] i) (Some y) → ⊥
none_there i y is = cc

pub new_outs_go_on : NewOutsGoOn
new_outs_go_on s = record {
  there = λ i now out. absurd (none_there i.number i.transfer i.there);
  held = λ h on is. absurd (cc);
  came = λ k hub port kind dir. inl (none_yet IsEven k s.hubs hub port);
  read = λ n u on way. absurd (let h = u.hand.held in cc);
}

-- ---- nothing in hand

pub nothing_held : (o : Option Hand) (link : Link) (h : Hand) → over_at o link ≡ true → o ≡ Some h → ⊥
nothing_held None link h over is = cc
nothing_held (Some k) link h over is = cc

none_in_hand : (w : World) (n : ℕ) → IsMixedWorld w → controller_row w ≡ rows.End → IsInHand w.control n → ⊥
none_in_hand w n mixed row hand =
    let enabled = ap (λ (x : Base). x.periodic_enable) mixed.mixed.now.framed.runs.ring.registers in
    let over = past_over w.registers.run w.registers w.control.frame w.control.part rows.End row tt enabled hand.part in
    nothing_held w.control.frame.hand w.control.frame.cursor _ over hand.held

by_end : (fixed : Fixed) (start w : World) (vs : List ℕ) → IsMixedWorld w → controller_row w ≡ rows.End → OutsGoOn start w vs
    → OutsGoOn start (with_turned w (turned_by fixed rows.End (controller_parts w) w.bus)) vs
by_end fixed start w vs mixed row k = record {
  there = λ i now out. k.there (record {
    number = i.number;
    transfer = i.transfer;
    endpoint = i.endpoint;
    placement = i.placement;
    there = i.there;
    sort = i.sort;
    held = i.held;
    split = i.split;
    here = i.here;
    placed = i.placed;
  }) now (λ hand. none_in_hand w _ mixed row hand);
  held = λ h on is. absurd (cc);
  came = λ j hub port kind dir.
      ⊎_elim {C = EachOf IsEven j (pipeline_for w.bus.hubs hub port)
      ⊎ BroughtPart start (with_turned w (turned_by fixed rows.End (controller_parts w) w.bus)) vs j} inl
      (λ (m : BroughtPart start w vs j).
      inr (record {
        at = m.at;
        of = m.of;
        seen = m.seen;
        asked = λ u. absurd (let h = u.hand.part in cc);
      })) (k.came j hub port kind dir);
  read = λ n u on way. absurd (let h = u.hand.part in cc);
}

pub end_keeps_outs : EndKeepsOuts
end_keeps_outs fixed start w vs mixed row k =
    subst (λ (r : ControllerRow). OutsGoOn start (with_turned w (turned_by fixed r (controller_parts w) w.bus)) vs) (sym row)
    (by_end fixed start w vs mixed row k)

by_idle : (fixed : Fixed) (start w : World) (vs : List ℕ) → OutsGoOn start w vs
    → OutsGoOn start (with_turned w (turned_by fixed rows.Idle (controller_parts w) w.bus)) vs
by_idle fixed start w vs k = k

pub idle_keeps_outs : IdleKeepsOuts
idle_keeps_outs fixed start w vs row k =
    subst (λ (r : ControllerRow). OutsGoOn start (with_turned w (turned_by fixed r (controller_parts w) w.bus)) vs) (sym row)
    (by_idle fixed start w vs k)
