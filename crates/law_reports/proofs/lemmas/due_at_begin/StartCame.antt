-- Once the walk of the frames is over in the microframe of a start-split that was due, it has come to its translator: where it isn't lost,
-- and the hub hasn't heard to clear a buffer or to reset a translator in this microframe (EHCI 1.0, 4.12.2.4; USB 2.0, 11.18 and 11.24.2).
use Rattle.std.proofs.Common.{◌≡◌, ◌≢◌, ℕ, ◌*◌, ◌≤◌, false, List, [], ◌∷◌, slice_get, Some, ap, refl, sym, subst, ◌∙◌}
use Rattle.std.specs.List.{AllByRecursion}
use Rattle.std.specs.Prelude.{◌==◌}
use Rattle.std.proofs.lemmas.Option.{same_Some}
use Rattle.usb_base.specs.declared.endpoints.EpDesc.{EpDesc}
use Rattle.usb_base.specs.declared.packets.EpKind.TheVariants as kinds
use Rattle.usb_base.specs.declared.packets.EpKind.TheVariants.{Interrupt}
use Rattle.usb_base.specs.declared.packets.Way.{Way}
use Rattle.usb_base.specs.declared.packets.Way.TheVariants as ways
use Rattle.script_types.specs.declared.scripts.Script.{Script}
use Rattle.script_text.specs.Faults.{Spells}
use Rattle.hub_class.specs.HubContent.{HubContent}
use Rattle.qh_qtd.specs.declared.queue_head.Qh.{Qh}
use Rattle.drv_table.specs.declared.content.Endpoint.{Endpoint}
use Rattle.hc_copy.specs.Transacting.{call_in}
use Rattle.hc_interrupt.specs.Turns.{planned}
use Rattle.hc_core.specs.declared.controller.ControllerRow.{ControllerRow}
use Rattle.hc_core.specs.declared.controller.ControllerRow.TheVariants as rows
use Rattle.bus_wire.specs.Bus.{Bus, fixed_of, transact_after}
use Rattle.bus_world.specs.Budgets.{moment}
use Rattle.bus_world.specs.World.{World, controller_row, controller_next}
use Rattle.claims_world.specs.BelowStreams.{heard_clear, IsSparedAt}
use Rattle.claims_world.specs.DueAtBegin.{begun, IsUncancelled}
use Rattle.claims_world.specs.QueuesMade.{QueueMade, queues_made, HasMade}
use Rattle.claims_world.specs.SoFar.{so_far}
use Rattle.claims_world.specs.SplitFrames.{HasCome}
use Rattle.claims_world.specs.SplitsAtBegin.{IsStartDue}
use Rattle.claims_world.specs.Visits.{IsPastFrames, began}
use Rattle.claims_world.specs.WithinLoad.{repeats}
use Rattle.law_driver.specs.queued_drivers.Queued.{IsOfWay}
use Rattle.law_world.specs.memory.Mixed.{Standing, IsMixedWorld}
use Rattle.law_world.specs.streams.Left.{AreNamed}
use Rattle.law_microframes.specs.translators.Results.{HasAnswer, IsNextHeard, complete_answer, key_for, pipeline_for}
use Rattle.law_microframes.specs.visits.Belonging.{HeadsHaveFields}
use Rattle.law_microframes.proofs.lemmas.due.Turning.{in_periodic}
use Rattle.law_reports.specs.lines.Lined.{Lines}
use Rattle.law_reports.specs.pipes.Declared.{Sides, sides_of}
use Rattle.law_reports.specs.pipes.Piped.{Heads, IsPiped}
use Rattle.law_reports.proofs.lemmas.due_at_begin.Asking.{BusGoes}
use Rattle.law_reports.proofs.lemmas.due_at_begin.EntryEvents.{past_stage, apart_stage}
use Rattle.law_reports.proofs.lemmas.due_at_begin.EntryKept.{AreSpared}
use Rattle.law_reports.proofs.lemmas.due_at_begin.EntryStages.{HasStaged}
use Rattle.law_reports.proofs.lemmas.due_at_begin.HubSeats.{hubs_are_zero}
use Rattle.law_reports.proofs.lemmas.due_at_begin.Moments.{IsKnown, known_at}
use Rattle.law_reports.proofs.lemmas.due_at_begin.ResultDue.{answer_beside}
use Rattle.law_reports.proofs.lemmas.due_at_begin.SplitDue.{IsUnsplit, IsStartedWaiting, start_on}
use Rattle.law_reports.proofs.lemmas.due_at_begin.SplitMoments.{IsDueOf}
use Rattle.law_reports.proofs.lemmas.due_at_begin.SplitRuns.{are_known, splits_are_left}
use Rattle.law_reports.proofs.lemmas.due_at_begin.SplitStages.{Brings}
use Rattle.law_reports.proofs.lemmas.due_at_begin.StartEnters.{start_enters}
use Rattle.law_reports.proofs.lemmas.due_at_begin.StartedMoments.{found_started}
use Rattle.law_reports.proofs.lemmas.due_at_begin.WrittenMoments.{since_at}

-- ---- hubs that are spared

pub spared_of : (hub : ℕ) (x : EpDesc) → x.hub ≡ Some hub → (hs : List HubContent)
    → AllByRecursion (λ (h : HubContent). Some h.address ≡ x.hub → heard_clear h ≡ false) hs → AreSpared hub hs
spared_of hub x behind [] all = tt
spared_of hub x behind (h ∷ hs) all = ((λ own. all.0 (ap Some own ∙ sym behind)), spared_of hub x behind hs all.1)

-- ---- a start-split that is heard

pub record IsStartHeard (s : Script) (b : World) (e q : ℕ) : Type 0 where
  pub due : IsStartDue (fixed_of s) b e q
  pub hub : ℕ
  pub behind : due.split.there.endpoint.desc.hub ≡ Some hub
  pub heard : IsNextHeard (fixed_of s) b.bus due.split.there.endpoint.desc
  pub spared : (j : ℕ) → begun s j ≡ b → IsSparedAt s due.split.there.endpoint.desc j

module _ (text : List ℕ) (s : Script) (spelled : Spells text s) where
  abbrev Its : (b : World) (e q : ℕ) → IsStartHeard s b e q → EpDesc
  Its b e q d = d.due.split.there.endpoint.desc

  abbrev Heard : (b : World) (e q : ℕ) → IsStartHeard s b e q → Bus → Type 0
  Heard b e q d c = IsNextHeard (fixed_of s) c d.due.split.there.endpoint.desc

  abbrev Entered : (b : World) (e q : ℕ) → IsStartHeard s b e q → Bus → Type 0
  Entered b e q d c =
      HasStaged 0 (key_for d.due.split.there.endpoint.desc) (pipeline_for c.hubs d.hub d.due.split.there.endpoint.desc.port)

  abbrev Made : (b : World) (e q : ℕ) → IsStartHeard s b e q → QueueMade → Type 0
  Made b e q d = IsStartedWaiting d.due.works (32 * q) b.control.frame.index

  -- ---- its transaction

  module _ (b : World) (k : IsMixedWorld b) (heads : HeadsHaveFields b.driver b.memory) (e q : ℕ) (d : IsStartHeard s b e q) where
    abbrev x : EpDesc
    x = d.due.split.there.endpoint.desc

    one_way : d.due.split.there.endpoint.desc.name.way ≢ ways.Ctl
    one_way is =
        control_off (subst (λ (way : Way). IsOfWay way d.due.split.there.endpoint.desc.kind) is
        (k.mixed.turns.kinds_fit e d.due.split.there.endpoint d.due.split.there.here))
      where
        control_off : d.due.split.there.endpoint.desc.kind ≡ kinds.Control → ⊥
        control_off other = let never : kinds.Interrupt ≡ kinds.Control = sym d.due.split.there.kind ∙ other in cc

    brings : (v : Qh) → IsUnsplit v → Brings (fixed_of s) (Its b e q d) (Heard b e q d) (Entered b e q d) v
    brings v unsplit u same its pid c hears room has out last =
        subst (λ (n : ℕ). HasStaged 0 (key_for x) (pipeline_for (transact_after (fixed_of s) c (call_in (planned u) out last).ask
        (call_in (planned u) out last).out).hubs n x.port))
        (same_Some hears.hub d.hub (sym hears.behind ∙ d.behind))
        (start_enters (fixed_of s) c x hears has (λ key. room hears.hub x.port key) d.due.split.there.kind one_way u its pid out last
        (ap (λ (n : ℕ). n == 2) same.eps ∙ unsplit.low) (ap (λ t. t.split_state) same.token ∙ unsplit.unsplit))

    comes : (i : IsDueOf (fixed_of s) b e q (Its b e q d) (Heard b e q d) (Made b e q d))
        × Brings (fixed_of s) (Its b e q d) (Heard b e q d) (Entered b e q d) i.queue
    comes = let n = start_on (fixed_of s) b k heads e q d.due (Heard b e q d) d.heard in (n.0, brings n.0.queue n.1)

  -- ---- until then

  heard_beside : (sides : Sides) (at : Standing) (lines : Lines) (hs : Heads) (w : World) → IsPiped (fixed_of s) sides at lines hs w
      → AreNamed w.driver → (b : World) (e q : ℕ) (d : IsStartHeard s b e q) (z : Endpoint) → slice_get w.driver.endpoints e ≡ Some z
      → z.desc.kind ≡ Interrupt → z.desc ≡ Its b e q d → (c : Bus) → BusGoes (fixed_of s) w e c → Heard b e q d w.bus → Heard b e q d c
  heard_beside sides at lines hs w piped named b e q d z here kind same c goes had =
      let was : IsNextHeard (fixed_of s) w.bus z.desc = subst (IsNextHeard (fixed_of s) w.bus) (sym same) had in
      let answer : HasAnswer (fixed_of s) w.bus z.desc (complete_answer (key_for z.desc) (pipeline_for w.bus.hubs d.hub z.desc.port)) =
      record { hub = d.hub; behind = ap (λ (y : EpDesc). y.hub) same ∙ d.behind; answer = refl; heard = was } in
      subst (IsNextHeard (fixed_of s) c) same
      (answer_beside (fixed_of s) (hubs_are_zero s) sides at lines hs w piped named e z here kind _ c goes answer).heard

  -- ---- from then on

  module _ (k e q : ℕ) (d : IsStartHeard s (begun s k) e q) (off : IsUncancelled (moment s k).world.driver e)
      (made : HasMade (Made (begun s k) e q d) (queues_made s k)) where
    abbrev w : World
    w = (moment s k).world

    abbrev its_desc : EpDesc
    its_desc = d.due.split.there.endpoint.desc

    known : IsKnown (fixed_of s) (sides_of s) (began s k) (moment s k).world (so_far s k)
    known = known_at text s spelled k

    spared : AreSpared d.hub (moment s k).world.bus.hubs
    spared = spared_of d.hub d.due.split.there.endpoint.desc d.behind (moment s k).world.bus.hubs (d.spared k refl)

    frame_entered : controller_row (moment s k).world ≡ rows.Frame → Entered (begun s k) e q d (moment s k).world.bus
        → Entered (begun s k) e q d (controller_next (fixed_of s) (moment s k).world).bus
    frame_entered row had =
        let o = since_at text s spelled k e q d.due.split.placement d.due.split.there d.due.split.active off in
        let f = found_started d.due.works (32 * q) (begun s k).control.frame.index (queues_made s k) made in
        let l = o.left f.queue f.left in
        let same : o.frames.endpoint.desc ≡ its_desc = o.same d.due.split.there.endpoint d.due.split.there.here in
        let g = known.followed in
        let there : HasStaged 0 (key_for o.frames.endpoint.desc) (pipeline_for w.bus.hubs d.hub o.frames.endpoint.desc.port) =
        subst (λ (y : EpDesc). HasStaged 0 (key_for y) (pipeline_for w.bus.hubs d.hub y.port)) (sym same) had in
        subst (λ (y : EpDesc). HasStaged 0 (key_for y) (pipeline_for (controller_next (fixed_of s) w).bus.hubs d.hub y.port)) same
        (apart_stage (fixed_of s) (sides_of s) g.standing g.lines g.heads w g.followed.piped known.heads known.sends row e q
        d.due.split.placement o.frames (hubs_are_zero s) (are_known text s spelled k).named 0 d.hub o.frames.endpoint.desc.port spared
        (λ a is at. l.out (in_periodic (fixed_of s) w row) (is ∙ ap Some (sym at))) there)

    goes_entered : controller_row (moment s k).world ≢ rows.Begin → Entered (begun s k) e q d (moment s k).world.bus
        → Entered (begun s k) e q d (controller_next (fixed_of s) (moment s k).world).bus
    goes_entered begins had = by (controller_row w) refl
      where
        past : controller_row (moment s k).world ≢ rows.Frame
            → Entered (begun s k) e q d (controller_next (fixed_of s) (moment s k).world).bus
        past frames =
            past_stage 0 (key_for its_desc) (fixed_of s) d.hub its_desc.port w spared begins frames had

        by : (r : ControllerRow) → controller_row (moment s k).world ≡ r
            → Entered (begun s k) e q d (controller_next (fixed_of s) (moment s k).world).bus
        by rows.Frame row = frame_entered row had
        by rows.Begin row = absurd (begins row)
        by rows.Idle row = past (λ is. let never : rows.Idle ≡ rows.Frame = sym row ∙ is in cc never)
        by rows.Enter row = past (λ is. let never : rows.Enter ≡ rows.Frame = sym row ∙ is in cc never)
        by rows.Go row = past (λ is. let never : rows.Go ≡ rows.Frame = sym row ∙ is in cc never)
        by rows.End row = past (λ is. let never : rows.End ≡ rows.Frame = sym row ∙ is in cc never)

  -- ---- once the walk of the frames is over

  pub start_has_come : (k e q : ℕ) → IsPastFrames (moment s k).world → repeats s k ≤ 4000000 → (d : IsStartHeard s (begun s k) e q)
      → IsUncancelled (moment s k).world.driver e → HasCome (moment s k).world.bus d.due.split.there.endpoint.desc
  start_has_come k e q past few d off =
      let l : Entered (begun s k) e q d (moment s k).world.bus =
      (splits_are_left text s spelled (IsStartHeard s) Its Heard Entered Made
      (λ b mixed heads sends x y due. comes b mixed heads x y due) heard_beside
      (λ j x y due on made begins left. goes_entered j x y due on made begins left) (λ x y due. cc due.due.split.there.here) k e q past few
      d off).1 in
      record {
        entry = l.entry;
        is = record { hub = d.hub; behind = d.behind; there = l.there };
        kind = l.staged.kind;
        whole = l.staged.came;
      }
