-- An event of the ring's walk goes on with what is told of the isochronous OUTs below hubs: it starts none of them, and has none in hand
-- (EHCI 1.0, 4.8 and 4.12.3; USB 2.0, 11.14).
use Rattle.std.proofs.Common.{◌≡◌, ℕ, Bool, true, false, List, Option, Some, None, refl, sym, ap, subst, ◌∙◌, inl, inr, ◌⊎◌, ⊎_elim}
use Rattle.law_microframes.proofs.Common.{ring_no}
use Rattle.hub_keys.specs.declared.key.Key.{Key}
use Rattle.itd_sitd.specs.declared.sitd.Sitd.{Sitd}
use Rattle.multi_tt.specs.Single.{is_buffered}
use Rattle.hc_copy.specs.declared.held.Held.{Held}
use Rattle.hc_copy.specs.declared.held.Transaction.{Transaction}
use Rattle.hc_copy.specs.Buffer.{Reading, sending}
use Rattle.hc_copy.specs.Transacting.{call_in}
use Rattle.async_walk.specs.declared.rows.WalkRow.{WalkRow}
use Rattle.async_walk.specs.declared.rows.WalkRow.TheVariants as walks
use Rattle.async_walk.specs.Rows.{WalkPlace, event_row, at_event}
use Rattle.drv_periodic_table.specs.Descriptors.{sitd_in}
use Rattle.hc_core.specs.declared.controller.ControllerRow.{ControllerRow}
use Rattle.hc_core.specs.declared.controller.ControllerRow.TheVariants as rows
use Rattle.hc_core.specs.declared.controller.MicroframePart.TheVariants.{Periodic, Asynchronous}
use Rattle.hc_core.specs.Controller.{entered, walk_place, walk_step}
use Rattle.tt_pipeline.specs.declared.entry.Entry.{Entry}
use Rattle.claims_base.specs.Controller.{Base}
use Rattle.bus_wire.specs.Bus.{Bus, Fixed}
use Rattle.bus_world.specs.World.{World, controller_parts, controller_row, controller_next, sent_by, sends_by, walk_by, turned_by, with_turned}
use Rattle.claims_world.specs.Visits.{frame_in, visits_after}
use Rattle.law_world.specs.memory.Mixed.{IsMixedWorld}
use Rattle.law_microframes.specs.time.SitdFields.{SplitTransfer}
use Rattle.law_microframes.specs.translators.Parts.{EachOf, Lacks, IsEven}
use Rattle.law_microframes.specs.translators.Turns.{pipeline_for, EntriesAre, IsInHand, IsOfKey, BroughtPart, OutsGoOn, OtherAsksLeave}
use Rattle.law_microframes.proofs.lemmas.visits.ReasonParts.{InPart, row_in}
use Rattle.law_microframes.proofs.lemmas.visits.VisitControlling.{past_over}
use Rattle.law_microframes.proofs.lemmas.translators.Parts.{completes_lack, completes_even, other_starts}
use Rattle.law_microframes.proofs.lemmas.translators.TurnsAsks.{other_asks_leave}
use Rattle.law_microframes.proofs.lemmas.translators.TurnsEnds.{nothing_held}
use Rattle.law_microframes.proofs.lemmas.translators.TurnsMemory.{kin_entries, memory_kin}
use Rattle.law_microframes.proofs.lemmas.translators.Worlds.{IsBufferedRow, event_buffered, index_after, index_by}

-- ---- the bus

module _ (P : Entry → Type 0) (leave : OtherAsksLeave P) (fixed : Fixed) (k : Key) (hub port : ℕ) where
  abbrev Of : Bus → Type 0
  Of b = EachOf P k (pipeline_for b.hubs hub port)

  sent_leaves : (sent : Bool) (t : Transaction) (h : Held) (bytes : List ℕ) (p : WalkPlace) (b : Bus) → is_buffered t.pipe.kind ≡ true
      → Of b → Of (sent_by fixed sent t h bytes p b).bus
  sent_leaves true t h bytes p b buffered all =
      leave k fixed b (call_in t bytes false).ask (call_in t bytes false).out
      (λ at place part split piped. absurd (both buffered piped)) hub port all
    where
      both : {c : Bool} → c ≡ true → c ≡ false → ⊥
      both one two = cc
  sent_leaves false t h bytes p b buffered all = all

  sends_leave : (t : Transaction) (p : WalkPlace) (o : Option Held) (b : Bus) → is_buffered t.pipe.kind ≡ true → Of b
      → Of (sends_by fixed t p o b).bus
  sends_leave t p None b buffered all = all
  sends_leave t p (Some h) b buffered all =
      let read : Reading = sending t h.queue_head p.memory in
      sent_leaves read.all t h read.bytes (record p { memory = read.memory }) b buffered all

  walk_leaves : (row : WalkRow) (p : WalkPlace) (b : Bus) → IsBufferedRow row → Of b → Of (walk_by fixed row p b).bus
  walk_leaves (walks.Transact t) p b buffered all = sends_leave t p p.walk.held b buffered all
  walk_leaves _ p b buffered all = all

  pub walked_leaves : (p : WalkPlace) (b : Bus) → Of b → Of (walk_by fixed (event_row p) (at_event p) b).bus
  walked_leaves p b all = walk_leaves (event_row p) (at_event p) b (event_buffered p) all

-- ---- a world

-- the rows of the ring
abbrev pub IsRing : ControllerRow → Type 0
IsRing rows.Enter = Unit {0}
IsRing rows.Go = Unit {0}
IsRing _ = ⊥

module _ (fixed : Fixed) (start w : World) (vs : List ℕ) (mixed : IsMixedWorld w) (outs : OutsGoOn start w vs) where
  abbrev new : World
  new = controller_next fixed w

  abbrev by : ControllerRow → World
  by r = with_turned w (turned_by fixed r (controller_parts w) w.bus)

  none_then : (r : ControllerRow) → IsRing r → (by r).control.part ≡ Periodic → ⊥
  none_then rows.Enter ring on = ring_no (walk_step (entered (controller_parts w))) on
  none_then rows.Go ring on = ring_no (walk_step (controller_parts w)) on
  none_then rows.Idle ring on = ring
  none_then rows.Begin ring on = ring
  none_then rows.Frame ring on = ring
  none_then rows.End ring on = ring

  none_now : (r : ControllerRow) → IsRing r → controller_row w ≡ r → (n : ℕ) → IsInHand w.control n → ⊥
  none_now rows.Enter ring row n hand =
      let enabled = ap (λ (x : Base). x.periodic_enable) mixed.mixed.now.framed.runs.ring.registers in
      let over = past_over w.registers.run w.registers w.control.frame w.control.part rows.Enter row tt enabled hand.part in
      nothing_held w.control.frame.hand w.control.frame.cursor _ over hand.held
  none_now rows.Go ring row n hand =
      let part : w.control.part ≡ Asynchronous = subst (λ (r : ControllerRow). InPart r w.control.part) row (row_in w) in
      absurd (let e = sym part ∙ hand.part in cc)
  none_now rows.Idle ring row n hand = ring
  none_now rows.Begin ring row n hand = ring
  none_now rows.Frame ring row n hand = ring
  none_now rows.End ring row n hand = ring

  leaves : (P : Entry → Type 0) → OtherAsksLeave P → (k : Key) (hub port : ℕ) (r : ControllerRow) → IsRing r
      → EachOf P k (pipeline_for w.bus.hubs hub port) → EachOf P k (pipeline_for (by r).bus.hubs hub port)
  leaves P leave k hub port rows.Enter ring all = walked_leaves P leave fixed k hub port (walk_place (entered (controller_parts w))) w.bus all
  leaves P leave k hub port rows.Go ring all = walked_leaves P leave fixed k hub port (walk_place (controller_parts w)) w.bus all
  leaves P leave k hub port rows.Idle ring all = absurd ring
  leaves P leave k hub port rows.Begin ring all = absurd ring
  leaves P leave k hub port rows.Frame ring all = absurd ring
  leaves P leave k hub port rows.End ring all = absurd ring

  same_visits : (r : ControllerRow) → IsRing r → visits_after r (controller_parts w) vs ≡ vs
  same_visits rows.Enter ring = refl
  same_visits rows.Go ring = refl
  same_visits rows.Idle ring = absurd ring
  same_visits rows.Begin ring = absurd ring
  same_visits rows.Frame ring = absurd ring
  same_visits rows.End ring = absurd ring

  same_index : (r : ControllerRow) → IsRing r → index_by r w.registers.frame_index ≡ w.registers.frame_index
  same_index rows.Enter ring = refl
  same_index rows.Go ring = refl
  same_index rows.Idle ring = absurd ring
  same_index rows.Begin ring = absurd ring
  same_index rows.Frame ring = absurd ring
  same_index rows.End ring = absurd ring

  module _ (r : ControllerRow) (ring : IsRing r) (row : controller_row w ≡ r) where
    is_new : with_turned w (turned_by fixed r (controller_parts w) w.bus) ≡ controller_next fixed w
    is_new = ap (λ (x : ControllerRow). with_turned w (turned_by fixed x (controller_parts w) w.bus)) (sym row)

    index : (controller_next fixed w).registers.frame_index ≡ w.registers.frame_index
    index = index_after fixed w ∙ ap (λ (x : ControllerRow). index_by x w.registers.frame_index) row ∙ same_index r ring

    gone : (controller_next fixed w).control.part ≡ Periodic → ⊥
    gone on = none_then r ring (ap (λ (x : World). x.control.part) is_new ∙ on)

    hubs_leave : (P : Entry → Type 0) → OtherAsksLeave P → (k : Key) (hub port : ℕ) → EachOf P k (pipeline_for w.bus.hubs hub port)
        → EachOf P k (pipeline_for (controller_next fixed w).bus.hubs hub port)
    hubs_leave P leave k hub port all =
        subst (λ (x : World). EachOf P k (pipeline_for x.bus.hubs hub port)) is_new (leaves P leave k hub port r ring all)

    there_then : (i : SplitTransfer w.driver) → EntriesAre Lacks w.bus.hubs (sitd_in w.memory i.transfer.first)
        → EntriesAre Lacks (controller_next fixed w).bus.hubs (sitd_in (controller_next fixed w).memory i.transfer.first)
    there_then i all =
        let x : Sitd = sitd_in w.memory i.transfer.first in
        kin_entries Lacks new.bus.hubs x (sitd_in new.memory i.transfer.first)
        (memory_kin fixed mixed.standing w mixed.mixed i x (λ _ on. refl) (λ hand. absurd (none_now r ring row _ hand)) (λ hand. gone hand.part))
        (λ on way some.
        hubs_leave Lacks (other_asks_leave Lacks (other_starts Lacks) completes_lack) _ x.hub x.port (all on way some))

    came_then : (k : Key) (hub port : ℕ) → EachOf IsEven k (pipeline_for w.bus.hubs hub port) ⊎ BroughtPart start w vs k
        → EachOf IsEven k (pipeline_for (controller_next fixed w).bus.hubs hub port) ⊎ BroughtPart start (controller_next fixed w) vs k
    came_then k hub port was =
        ⊎_elim {C = EachOf IsEven k (pipeline_for new.bus.hubs hub port) ⊎ BroughtPart start new vs k}
        (λ (even : EachOf IsEven k (pipeline_for w.bus.hubs hub port)).
        inl (hubs_leave IsEven (other_asks_leave IsEven (other_starts IsEven) completes_even) k hub port even))
        (λ (m : BroughtPart start w vs k).
        inr (record {
          at = m.at;
          of = subst (λ (f : ℕ). IsOfKey start w.driver f m.at k) (ap frame_in (sym index)) m.of;
          seen = m.seen;
          asked = λ q. gone q.hand.part;
        })) was

    pub ring_goes_on : OutsGoOn start (controller_next fixed w) (visits_after (controller_row w) (controller_parts w) vs)
    ring_goes_on =
        subst (OutsGoOn start new)
        (sym (ap (λ (x : ControllerRow). visits_after x (controller_parts w) vs) row ∙ same_visits r ring))
        (record {
          there = λ i now out. there_then i (outs.there i (now ∙ ap frame_in index) (none_now r ring row _));
          held = λ h on is. absurd (gone on);
          came = λ k hub port iso dir. came_then k hub port (outs.came k hub port iso dir);
          read = λ n q on way. absurd (gone q.hand.part);
        })
