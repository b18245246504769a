-- An endpoint that is in its frames is there after an event of the driver, and after a command, unless it is cancelled then (EHCI 1.0,
-- 4.6).
use Rattle.std.proofs.Common.{◌≡◌, ◌≢◌, ℕ, ◌+◌, ◌*◌, Bool, true, false, cond, List, [], ◌∷◌, ◌++◌, length, slice_get}
use Rattle.std.proofs.Common.{Option, Some}
use Rattle.std.proofs.Common.{None, Result, Ok, Err, is_none, ap, refl, sym, subst, ◌∙◌, ⊎_elim, arith}
use Rattle.std.proofs.lemmas.Option.{same_Some}
use Rattle.std.proofs.lemmas.List.{length-append}
use Rattle.law_common.proofs.Lists.{some_below, push_which}
use Rattle.law_resting.proofs.Common.{unchained_command}
use Rattle.usb_base.specs.declared.commands.Cmd.{Cmd}
use Rattle.usb_base.specs.declared.endpoints.EpDesc.{EpDesc}
use Rattle.usb_base.specs.declared.endpoints.EpName.{EpName}
use Rattle.usb_base.specs.declared.packets.EpKind.TheVariants.{Interrupt}
use Rattle.usb_base.specs.declared.reports.OfferError.{OfferError}
use Rattle.drv_periodic.specs.declared.work.Work.{Work}
use Rattle.bandwidth.specs.declared.placements.Placement.{Placement}
use Rattle.drv_periodic_table.specs.Periodic.{is_periodic, queue_member}
use Rattle.drv_table.specs.declared.content.Command.{Command}
use Rattle.drv_table.specs.declared.content.Command.TheVariants as unfinished
use Rattle.drv_table.specs.declared.content.Endpoint.{Endpoint}
use Rattle.drv_table.specs.Accepting.{Offered}
use Rattle.drv_table.specs.CancelOffers.{endpoint_members, with_cancel}
use Rattle.drv_table.specs.Commands.{no_command, leave_frames}
use Rattle.drv_table.specs.DriverContent.{DriverContent}
use Rattle.drv_table.specs.Kinds.{is_iso}
use Rattle.drv_table.specs.Offers.{offered}
use Rattle.drv_table.specs.Rows.{driver_row}
use Rattle.bus_world.specs.World.{World, driver_parts, driver_next, commanded, commanded_by, name_in}
use Rattle.claims_world.specs.Coming.{IsInItsFrames}
use Rattle.claims_world.specs.DueAtBegin.{IsUncancelled}
use Rattle.law_driver.specs.run_owners.Accepts.{Accepts, Chains, opens, chains, places, transfers, describes, cancels, unchains}
use Rattle.law_driver.proofs.lemmas.run_owners.Commands.{each_command_has_its_reason}
use Rattle.law_frames.specs.Met.{AQueue}
use Rattle.law_world.specs.memory.Mixed.{IsChainToLend, IsChainThere, IsUnderWay, IsMixedWorld}
use Rattle.law_microframes.specs.visits.Belonging.{a_queue, BelongsTo}
use Rattle.law_microframes.proofs.lemmas.visits.BelongCommands.{command_keeps_placed}
use Rattle.law_microframes.proofs.lemmas.visits.BelongKeeps.{driver_keeps_placed}
use Rattle.law_microframes.proofs.lemmas.visits.BelongQueues.{alive, belongs_by}
use Rattle.law_microframes.proofs.lemmas.visits.BelongSeen.{IsSeenIn, seen_there, row_seen}
use Rattle.law_reports.proofs.lemmas.pipes.Across.{row_command, row_ends}
use Rattle.law_reports.proofs.lemmas.pipes.Names.{same_number}
use Rattle.law_reports.proofs.lemmas.due_at_begin.Idle.{member_queue, is_idle, chain_goes}
use Rattle.law_reports.proofs.lemmas.due_at_begin.Reached.{its_kind}
use Rattle.law_reports.proofs.lemmas.due_at_begin.Uncancelled.{IsAt, step_back, accepted_back, accepted_at}

-- in its frames still, as it was described
pub record IsStillIn (w : World) (e q : ℕ) (p : Placement) (desc : EpDesc) : Type 0 where
  pub frames : IsInItsFrames w.driver e q p
  pub same : frames.endpoint.desc ≡ desc

module _ (w : World) (k : IsMixedWorld w) (e q : ℕ) (p : Placement) (i : IsInItsFrames w.driver e q p) where
  belongs : BelongsTo w.driver (32 * q)
  belongs =
      belongs_by w.driver k.mixed.now.framed.place.sound.owners k.mixed.now.planned (32 * q) e i.endpoint i.here
      (alive w.driver k.mixed.now.framed.place.sound.owners e i.endpoint i.here i.chained) (ap is_periodic i.kind)
      (a_queue i.kind (ap (λ (b : ℕ). 32 * b) (sym i.queue)))

  -- where it is placed still
  module _ (later : World) (l : IsMixedWorld later) (z : Endpoint) (here : slice_get later.driver.endpoints e ≡ Some z)
      (kept : z.gone ≡ false) (desc : z.desc ≡ i.endpoint.desc) (queue : z.queue ≡ i.endpoint.queue) (placed : z.placement ≡ Some p)
      (off : IsUncancelled later.driver e)
      (chain_off : (v : Work) → later.driver.command ≡ Some unfinished.Chain → later.driver.periodic.list.work ≡ Some v
      → v.member ≢ queue_member q p) where
    kind : z.desc.kind ≡ Interrupt
    kind = ap (λ (x : EpDesc). x.kind) desc ∙ i.kind

    its_queue : z.queue ≡ q
    its_queue = queue ∙ i.queue

    pub still_in : IsStillIn later e q p i.endpoint.desc
    still_in = record {
      frames = record {
        endpoint = z;
        here = here;
        chained = l.mixed.now.framed.place.sound.listed.list.kept e z here (ap is_periodic kind) (off z here);
        kind = kind;
        queue = its_queue;
        placed = placed;
        idle = is_idle later l e q p z here kind kept its_queue (off z here) chain_off;
      };
      same = desc;
    }

  placed_as : (b : Placement) → i.endpoint.placement ≡ Some b → b ≡ p
  placed_as b is = same_Some b p (sym is ∙ i.placed)

-- ---- an event of the driver

pub driver_uncancelled : (w : World) (e : ℕ) → IsUncancelled (driver_next w).driver e → IsUncancelled w.driver e
driver_uncancelled w e off x here =
    let row = driver_row (driver_parts w) in
    let at : IsSeenIn (driver_next w).driver.endpoints e x =
    seen_there w.driver.endpoints (driver_next w).driver.endpoints e x (row_seen e row (driver_parts w)) here in
    step_back w.driver.endpoints (driver_next w).driver.endpoints (row_ends row (driver_parts w)) e x at.endpoint here at.here
    (off at.endpoint at.here)

module _ (w : World) (k : IsMixedWorld w) (e q : ℕ) (p : Placement) where
  pub driver_in_frames : (l : IsMixedWorld (driver_next w)) (i : IsInItsFrames w.driver e q p) → IsUncancelled (driver_next w).driver e
      → IsStillIn (driver_next w) e q p i.endpoint.desc
  driver_in_frames l i off =
      let b : BelongsTo w.driver (32 * q) = belongs w k e q p i in
      let st = driver_keeps_placed k.standing w (32 * q) AQueue k.mixed (its_kind w k e q p i)
      (belongs_by w.driver k.mixed.now.framed.place.sound.owners k.mixed.now.planned (32 * q) e i.endpoint i.here
      (alive w.driver k.mixed.now.framed.place.sound.owners e i.endpoint i.here i.chained) (ap is_periodic i.kind)
      (a_queue i.kind (ap (λ (c : ℕ). 32 * c) (sym i.queue)))) in
      still_in w k e q p i (driver_next w) l st.endpoint st.here st.kept st.desc st.queue
      (st.placed ∙ ap Some (placed_as w k e q p i _
      (belongs_by w.driver k.mixed.now.framed.place.sound.owners k.mixed.now.planned (32 * q) e i.endpoint i.here
      (alive w.driver k.mixed.now.framed.place.sound.owners e i.endpoint i.here i.chained) (ap is_periodic i.kind)
      (a_queue i.kind (ap (λ (c : ℕ). 32 * c) (sym i.queue)))).placed)) off chain_off
    where
      none_chain : ◌≡◌ {A = Option Command} None (Some unfinished.Chain) → ⊥
      none_chain is = cc

      chain_off : (v : Work) → (driver_next w).driver.command ≡ Some unfinished.Chain
          → (driver_next w).driver.periodic.list.work ≡ Some v → v.member ≢ queue_member q p
      chain_off v command is same =
          ⊎_elim
          (λ (stays : (driver_next w).driver.command ≡ w.driver.command).
          let u = chain_goes w k (sym stays ∙ command) v command is in
          i.idle u.0 u.1.0 (u.1.1 ∙ same))
          (λ (ends : (driver_next w).driver.command ≡ None). none_chain (sym ends ∙ command))
          (row_command (driver_row (driver_parts w)) (driver_parts w))

-- ---- a command

choose_command : (b : Bool) (f g : DriverContent) → f.command ≡ None → g.command ≡ None → (cond b f g).command ≡ None
choose_command true f g one other = one
choose_command false f g one other = other

no_chain : (b : Bool) (g : DriverContent) (e : ℕ) → g.command ≡ Some (unfinished.Unchain e)
    → (cond b (leave_frames (no_command g) e (slice_get g.endpoints e)) g).command ≡ Some unfinished.Chain → ⊥
no_chain true g e is chain =
    let never : ◌≡◌ {A = Option Command} None (Some unfinished.Chain) =
    sym (unchained_command g e (slice_get g.endpoints e)) ∙ chain in
    cc never
no_chain false g e is chain =
    let never : ◌≡◌ {A = Option Command} (Some (unfinished.Unchain e)) (Some unfinished.Chain) = sym is ∙ chain in cc never

module _ (w : World) (k : IsMixedWorld w) (n : ℕ) (name : EpName) (e q : ℕ) (p : Placement) (i : IsInItsFrames w.driver e q p) (o : Offered)
    (l : IsMixedWorld (commanded_by w n name (Ok o))) (z : Endpoint) (here : slice_get o.driver.endpoints e ≡ Some z)
    (kept : z.gone ≡ false) (kind : z.desc.kind ≡ Interrupt) (queue : z.queue ≡ q) where
  newest_off : (why : Chains w.driver w.memory o) (v : Work) → o.driver.command ≡ Some unfinished.Chain
      → o.driver.periodic.list.work ≡ Some v → v.member ≢ queue_member q p
  newest_off why v command is same =
      ⊎_elim
      (λ (t : IsChainToLend o.driver o.memory).
      let work = t.ready.links t.work t.begun in
      let one : t.work ≡ v = same_Some t.work v (sym t.begun ∙ is) in
      let at : 32 * t.ready.endpoint.queue ≡ 32 * z.queue =
      member_queue t.ready.endpoint.queue q t.ready.place p
      (sym (ap (λ (x : Work). x.member) work) ∙ ap (λ (x : Work). x.member) one ∙ same)
      ∙ ap (λ (b : ℕ). 32 * b) (sym queue) in
      let ends : o.driver.endpoints ≡ w.driver.endpoints ++ _ ∷ [] = ap (λ (g : Offered). g.driver.endpoints) why.is in
      let long : length o.driver.endpoints ≡ length w.driver.endpoints + 1 =
      ap length ends ∙ length-append w.driver.endpoints (_ ∷ []) in
      let newest = t.newest in
      let low = some_below w.driver.endpoints e i.endpoint i.here in
      ⊎_elim
      (λ (was : slice_get w.driver.endpoints t.ready.number ≡ Some t.ready.endpoint).
      let less = some_below w.driver.endpoints t.ready.number t.ready.endpoint was in omega (arith, less, newest, long))
      (λ (new : (t.ready.number ≡ length w.driver.endpoints) × (t.ready.endpoint ≡ _)).
      let number : t.ready.number ≡ e =
      same_number o.driver l.mixed.now.framed.place.sound.owners t.ready.number e t.ready.endpoint z t.ready.here here
      (ap (λ (x : Endpoint). x.gone) new.1, ap (λ (x : Endpoint). is_iso x.desc.kind) new.1 ∙ why.queued) (kept, ap is_iso kind) at in
      let at_end = new.0 in
      omega (arith, number, at_end, low))
      (push_which w.driver.endpoints _ t.ready.number t.ready.endpoint
      (ap (λ (xs : List Endpoint). slice_get xs t.ready.number) (sym ends) ∙ t.ready.here)))
      (λ (t : IsChainThere o.driver l.standing.member l.standing.recent l.standing.parts).
      let made : 0 ≡ 1 = sym (ap (λ (g : Offered). g.driver.made) why.is) ∙ t.lent.made in omega (arith, made))
      (subst (IsUnderWay o.driver o.memory l.standing.member l.standing.recent l.standing.parts) command l.mixed.under_way)

  command_is : (c : Command) → o.driver.command ≡ Some c → o.driver.command ≡ Some unfinished.Chain → c ≡ unfinished.Chain
  command_is c is chain = same_Some c unfinished.Chain (sym is ∙ chain)

  pub accepted_off : Accepts w.driver w.memory o → (v : Work) → o.driver.command ≡ Some unfinished.Chain
      → o.driver.periodic.list.work ≡ Some v → v.member ≢ queue_member q p
  accepted_off (opens why) v chain is same =
      let never = command_is _ (ap (λ (g : Offered). g.driver.command) why.is) chain in cc never
  accepted_off (chains why) v chain is same = newest_off why v chain is same
  accepted_off (places why) v chain is same =
      let never : ◌≡◌ {A = Option Command} None (Some unfinished.Chain) =
      sym why.idle ∙ sym (ap (λ (g : Offered). g.driver.command) why.is) ∙ chain in cc never
  accepted_off (transfers why) v chain is same =
      let never = command_is _ (ap (λ (g : Offered). g.driver.command) why.is) chain in cc never
  accepted_off (describes why) v chain is same =
      let never = command_is _ (ap (λ (g : Offered). g.driver.command) why.is) chain in cc never
  accepted_off (cancels why) v chain is same =
      let never = command_is _ (ap (λ (g : Offered). g.driver.command) why.is) chain in cc never
  accepted_off (unchains why) v chain is same =
      let g : DriverContent =
      with_cancel w.driver why.number why.endpoint (endpoint_members w.driver why.number why.endpoint why.placement) in
      no_chain (is_none g.periodic.list.work) g why.number refl (sym (ap (λ (f : Offered). f.driver.command) why.is) ∙ chain)

module _ (w : World) (n : ℕ) (cmd : Cmd) (e : ℕ) where
  uncancelled_by : (r : Result Offered OfferError) → offered w.driver w.memory cmd ≡ r
      → IsUncancelled (commanded_by w n (name_in cmd) r).driver e → IsUncancelled w.driver e
  uncancelled_by (Err why) is off x here = off x here
  uncancelled_by (Ok o) is off x here =
      let why : Accepts w.driver w.memory o = each_command_has_its_reason w.driver w.memory cmd o is in
      let at : IsAt o.driver.endpoints e = accepted_at w.driver w.memory o why e x here in
      accepted_back w.driver w.memory o why e x at.endpoint here at.here (off at.endpoint at.here)

  pub command_uncancelled : IsUncancelled (commanded w n cmd).driver e → IsUncancelled w.driver e
  command_uncancelled off = uncancelled_by (offered w.driver w.memory cmd) refl off

module _ (w : World) (k : IsMixedWorld w) (n : ℕ) (cmd : Cmd) (e q : ℕ) (p : Placement) where
  chain_off_by : (i : IsInItsFrames w.driver e q p) (r : Result Offered OfferError) → offered w.driver w.memory cmd ≡ r
      → IsMixedWorld (commanded_by w n (name_in cmd) r) → (z : Endpoint)
      → slice_get (commanded_by w n (name_in cmd) r).driver.endpoints e ≡ Some z → z.gone ≡ false → z.desc.kind ≡ Interrupt → z.queue ≡ q
      → (v : Work) → (commanded_by w n (name_in cmd) r).driver.command ≡ Some unfinished.Chain
      → (commanded_by w n (name_in cmd) r).driver.periodic.list.work ≡ Some v → v.member ≢ queue_member q p
  chain_off_by i (Err why) is l z here kept of_kind queue v chain work same = i.idle v work same
  chain_off_by i (Ok o) is l z here kept of_kind queue v chain work same =
      accepted_off w k n (name_in cmd) e q p i o l z here kept of_kind queue (each_command_has_its_reason w.driver w.memory cmd o is) v
      chain
      work same

  pub command_in_frames : (l : IsMixedWorld (commanded w n cmd)) (i : IsInItsFrames w.driver e q p)
      → IsUncancelled (commanded w n cmd).driver e
      → IsStillIn (commanded w n cmd) e q p i.endpoint.desc
  command_in_frames l i off =
      let st = command_keeps_placed w n cmd (32 * q) k
      (belongs_by w.driver k.mixed.now.framed.place.sound.owners k.mixed.now.planned (32 * q) e i.endpoint i.here
      (alive w.driver k.mixed.now.framed.place.sound.owners e i.endpoint i.here i.chained) (ap is_periodic i.kind)
      (a_queue i.kind (ap (λ (c : ℕ). 32 * c) (sym i.queue)))) in
      still_in w k e q p i (commanded w n cmd) l st.endpoint st.here st.kept st.desc st.queue
      (st.placed ∙ ap Some (placed_as w k e q p i _
      (belongs_by w.driver k.mixed.now.framed.place.sound.owners k.mixed.now.planned (32 * q) e i.endpoint i.here
      (alive w.driver k.mixed.now.framed.place.sound.owners e i.endpoint i.here i.chained) (ap is_periodic i.kind)
      (a_queue i.kind (ap (λ (c : ℕ). 32 * c) (sym i.queue)))).placed)) off
      (chain_off_by i (offered w.driver w.memory cmd) refl l st.endpoint st.here st.kept (ap (λ (x : EpDesc). x.kind) st.desc ∙ i.kind)
      (st.queue ∙ i.queue))
