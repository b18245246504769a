-- What is being linked in the frame list isn't a queue head whose host waits for complete-splits: while it is linked, its queue is new
-- (EHCI 1.0, 3.6, 4.6 and 4.12.2).
use Rattle.std.proofs.Common.{◌≡◌, ◌≢◌, ℕ, zero, suc, ◌*◌, ◌/◌, ◌-◌, Bool, true, false, cond, is_none, List, ◌++◌, length, slice_get}
use Rattle.std.proofs.Common.{Option, Some, None, option_map, Result, Ok, Err, ap, refl, sym, subst, ◌∙◌, ⊎_elim, inr, arith}
use Rattle.std.specs.Prelude.{◌⊎◌, ◌&&◌, ◌==◌, not}
use Rattle.std.proofs.lemmas.Bool.{and_parts, true≢false, false≢true}
use Rattle.std.proofs.lemmas.Option.{same_Some}
use Rattle.law_common.proofs.Numbers.{zero_one}
use Rattle.law_resting.proofs.Common.{no_work_is}
use Rattle.usb_base.specs.declared.commands.Cmd.{Cmd}
use Rattle.usb_base.specs.declared.reports.OfferError.{OfferError}
use Rattle.script_types.specs.declared.scripts.Script.{Script}
use Rattle.script_text.specs.Faults.{Spells}
use Rattle.script_fits.proofs.Texts.{spelled_fits}
use Rattle.bandwidth.specs.declared.placements.Placement.{Placement}
use Rattle.drv_chains.specs.declared.members.Member.{Member}
use Rattle.drv_periodic.specs.declared.work.Work.{Work}
use Rattle.drv_periodic.specs.Periodic.{begun}
use Rattle.drv_periodic_table.specs.Periodic.{note_at, queue_member}
use Rattle.drv_table.specs.Accepting.{Offered}
use Rattle.drv_table.specs.CancelOffers.{endpoint_members, with_cancel}
use Rattle.drv_table.specs.Commands.{no_command, leave_frames}
use Rattle.drv_table.specs.declared.content.Command.{Command}
use Rattle.drv_table.specs.declared.content.Command.TheVariants as unfinished
use Rattle.drv_table.specs.declared.content.Endpoint.{Endpoint}
use Rattle.drv_table.specs.DriverContent.{DriverContent}
use Rattle.drv_table.specs.Offers.{offered}
use Rattle.drv_table.specs.Rows.{driver_row}
use Rattle.drv_table.specs.Words.{head_block}
use Rattle.qh_qtd.specs.declared.queue_head.Qh.{Qh}
use Rattle.bus_wire.specs.Bus.{Fixed}
use Rattle.bus_world.specs.Budgets.{moment}
use Rattle.bus_world.specs.Orders.{Left, Command as Ordered}
use Rattle.bus_world.specs.World.{World, driver_parts, driver_next, commanded_by, commanded, name_in}
use Rattle.claims_driver.specs.Leaving.{HasOwners}
use Rattle.claims_driver.specs.Owners.{Owner, Head, QueueHead as QueueHeadOf, Described, runs_of_endpoint, views_of}
use Rattle.claims_world.specs.Visits.{begins}
use Rattle.law_driver.specs.listed_members.Members.{IsUnderWay as IsLinking, IsWaitingOf}
use Rattle.law_driver.specs.queued_drivers.Queued.{queue_of, queued_command, queued}
use Rattle.law_driver.specs.run_owners.Accepts.{Accepts, Chains, opens, chains, places, transfers, describes, cancels, unchains}
use Rattle.law_driver.proofs.lemmas.listed_members.Standing.{descriptor_placed}
use Rattle.law_descriptors.proofs.ListUnlinks.{name_block}
use Rattle.law_driver.proofs.lemmas.run_owners.Commands.{each_command_has_its_reason}
use Rattle.law_driver_ring.specs.Inventory.{Sort, OfQueueHead, IsDriverOwned, the_list, the_head}
use Rattle.law_driver_ring.specs.Inventory.{a_queue, a_dummy, a_piece, a_buffer, sort_of}
use Rattle.law_driver_ring.proofs.LendOpening.{two_lent}
use Rattle.law_driver_ring.proofs.LendOwning.{none_there}
use Rattle.law_queues.specs.open_laws.Queues.{IsOpenThere}
use Rattle.law_structures.specs.lent_structures.Structures.{Structure, QueueHead}
use Rattle.law_below_hubs.specs.HostEvents.{hand_host}
use Rattle.law_scripts.proofs.lemmas.script_bytes.Texts.{a_text_spells_bytes}
use Rattle.law_world.specs.memory.Laws.{OpensMixed}
use Rattle.law_world.specs.memory.Mixed.{IsChainToLend, IsChainThere, IsUnderWay, Standing, IsMixedAt, IsMixedWorld}
use Rattle.law_world.proofs.lemmas.memory.Carrying.{KeepsCarried, carrying, NextIsOffered, next_is_offered}
use Rattle.law_world.proofs.lemmas.memory.ChainReady.{last}
use Rattle.law_world.proofs.lemmas.memory.CommandKeeping.{command_keeps_mixed}
use Rattle.law_world.proofs.lemmas.memory.FittingTexts.{texts_open_fitting}
use Rattle.law_world.proofs.lemmas.memory.Texts.{texts_fit}
use Rattle.law_world.proofs.lemmas.memory.Together.{texts_stay_mixed}
use Rattle.law_microframes.specs.visits.Visited.{LinksNot}
use Rattle.law_microframes.proofs.lemmas.due.FetchedKinds.{begins_there}
use Rattle.law_microframes.proofs.lemmas.visits.VisitTexts.{lines_fit}
use Rattle.law_reports.specs.lines.Lined.{in_hand, Lines}
use Rattle.law_reports.specs.pipes.Declared.{Sides}
use Rattle.law_reports.specs.pipes.Piped.{Heads, asked_as, IsOpening, IsNewHead, IsPiped}
use Rattle.law_reports.specs.pipes.below_hubs.Inward.{is_late_host, may_be_late}
use Rattle.law_reports.specs.pipes.below_hubs.InwardLaws.{WaitsAt}
use Rattle.law_reports.proofs.lemmas.due_at_begin.Idle.{chain_goes, chain_keeps_ends}
use Rattle.law_reports.proofs.lemmas.pipes.Across.{row_command}
use Rattle.law_reports.proofs.lemmas.pipes.Names.{WasQueued, was_queued, queue_same, kept_as}
use Rattle.law_reports.proofs.lemmas.pipes.NewHeads.{made_once}
use Rattle.law_resting.proofs.Common.{unchained_command}
use Rattle.law_driver.proofs.lemmas.chained_transfers.Staying.{linked_stands_alive}
use Rattle.bus_wire.specs.Bus.{fixed_of}

-- ---- an open links the queue head of the newest endpoint

abbrev newest : DriverContent → ℕ
newest d = queue_of (slice_get d.endpoints (length d.endpoints - 1))

abbrev LinksNewest : DriverContent → Type 0
LinksNewest d = (v : Work) → d.command ≡ Some unfinished.Chain → d.periodic.list.work ≡ Some v
    → (p : Placement) × (v.member ≡ queue_member (newest d) p)

none_chain : ◌≡◌ {A = Option Command} None (Some unfinished.Chain) → ⊥
none_chain is = cc

driver_links : (w : World) → IsMixedWorld w → LinksNewest w.driver → LinksNewest (driver_next w).driver
driver_links w k old v chain work =
    ⊎_elim {C = (p : Placement) × (v.member ≡ queue_member (newest (driver_next w).driver) p)}
    (λ (stays : (driver_next w).driver.command ≡ w.driver.command).
    let u = chain_goes w k (sym stays ∙ chain) v chain work in
    let was = old u.0 (sym stays ∙ chain) u.1.0 in
    let ends : (driver_next w).driver.endpoints ≡ w.driver.endpoints = chain_keeps_ends w (sym stays ∙ chain) in
    (was.0, sym u.1.1 ∙ was.1 ∙ ap (λ (xs : List Endpoint). queue_member (queue_of (slice_get xs (length xs - 1))) was.0) (sym ends)))
    (λ (ends : (driver_next w).driver.command ≡ None). absurd (none_chain (sym ends ∙ chain)))
    (row_command (driver_row (driver_parts w)) (driver_parts w))

no_chain : (b : Bool) (g : DriverContent) (e : ℕ) → g.command ≡ Some (unfinished.Unchain e)
    → (cond b (leave_frames (no_command g) e (slice_get g.endpoints e)) g).command ≡ Some unfinished.Chain → ⊥
no_chain true g e is chain = none_chain (sym (unchained_command g e (slice_get g.endpoints e)) ∙ chain)
no_chain false g e is chain =
    let never : ◌≡◌ {A = Option Command} (Some (unfinished.Unchain e)) (Some unfinished.Chain) = sym is ∙ chain in cc never

-- a queue head's member
its_name : (x : Member) (q : ℕ) (p : Placement) → x ≡ queue_member q p → begins x ≡ 32 * q
its_name x q p is = ap begins is ∙ begins_there q

module _ (w : World) (o : Offered) (l : IsMixedWorld (record w { driver = o.driver; memory = o.memory })) where
  newly : (why : Chains w.driver w.memory o) → LinksNewest o.driver
  newly why v command is =
      ⊎_elim {C = (p : Placement) × (v.member ≡ queue_member (newest o.driver) p)}
      (λ (t : IsChainToLend o.driver o.memory).
      let work = t.ready.links v is in (
        t.ready.place,
        ap (λ (x : Work). x.member) work
            ∙ ap (λ (z : Option Endpoint). queue_member (queue_of z) t.ready.place)
            (sym (last o.driver o.memory l.mixed.now.framed.place.sound.owners t.ready t.newest)),
      ))
      (λ (t : IsChainThere o.driver l.standing.member l.standing.recent l.standing.parts).
      let made : 0 ≡ 1 = sym (ap (λ (g : Offered). g.driver.made) why.is) ∙ t.lent.made in absurd (zero_one made))
      (subst (IsUnderWay o.driver o.memory l.standing.member l.standing.recent l.standing.parts) command l.mixed.under_way)

  command_is : (c : Command) → o.driver.command ≡ Some c → o.driver.command ≡ Some unfinished.Chain → c ≡ unfinished.Chain
  command_is c is chain = same_Some c unfinished.Chain (sym is ∙ chain)

  accepted : Accepts w.driver w.memory o → LinksNewest o.driver
  accepted (chains why) v chain is = newly why v chain is
  accepted (opens why) v chain is =
      absurd (let never = command_is _ (ap (λ (g : Offered). g.driver.command) why.is) chain in cc never)
  accepted (places why) v chain is =
      absurd (none_chain (sym why.idle ∙ sym (ap (λ (g : Offered). g.driver.command) why.is) ∙ chain))
  accepted (transfers why) v chain is =
      absurd (let never = command_is _ (ap (λ (g : Offered). g.driver.command) why.is) chain in cc never)
  accepted (describes why) v chain is =
      absurd (let never = command_is _ (ap (λ (g : Offered). g.driver.command) why.is) chain in cc never)
  accepted (cancels why) v chain is =
      absurd (let never = command_is _ (ap (λ (g : Offered). g.driver.command) why.is) chain in cc never)
  accepted (unchains why) v chain is =
      let g : DriverContent =
      with_cancel w.driver why.number why.endpoint (endpoint_members w.driver why.number why.endpoint why.placement) in
      absurd (no_chain (is_none g.periodic.list.work) g why.number refl (sym (ap (λ (f : Offered). f.driver.command) why.is) ∙ chain))

command_by : (w : World) (n : ℕ) (cmd : Cmd) (r : Result Offered OfferError) → offered w.driver w.memory cmd ≡ r
    → IsMixedWorld (commanded_by w n (name_in cmd) r) → LinksNewest w.driver → LinksNewest (commanded_by w n (name_in cmd) r).driver
command_by w n cmd (Ok o) is l old = accepted w o l (each_command_has_its_reason w.driver w.memory cmd o is)
command_by w n cmd (Err why) is l old = old

abbrev KnownLinks : World → List Left → ℕ → Type 0
KnownLinks w orders z = IsMixedWorld w × NextIsOffered w orders

keeps_links : (fixed : Fixed) → KeepsCarried (λ f w z. z) fixed KnownLinks (λ w z. LinksNewest w.driver)
keeps_links fixed = record {
  controller = λ w orders z known old. old;
  driver = λ w orders z known old. driver_links w known.0 old;
  command = λ w n cmd rest z known old.
      command_by w n cmd (offered w.driver w.memory cmd) refl (command_keeps_mixed w n cmd known.1.0 known.1.1 known.0) old;
}

texts_link_newest : (text : List ℕ) (s : Script) → Spells text s → (k : ℕ) → LinksNewest (moment s k).world.driver
texts_link_newest text s spelled k =
    carrying {X = ℕ} (λ f w z. z) KnownLinks (λ w z. LinksNewest w.driver) s 0 (keeps_links (fixed_of s))
    (λ j. (
      texts_stay_mixed text s spelled j,
      next_is_offered s (spelled_fits text s spelled)
          (lines_fit s.lines (texts_fit text s spelled) (texts_open_fitting text s spelled)) j,
    ))
    (λ v chain is. absurd (none_chain chain)) k

-- ---- whose host waits

pub record HasLateHead (s : Standing) (n : ℕ) : Type 0 where
  pub queue : Qh
  pub head : s.parts n n ≡ Some (QueueHead queue)
  pub slow : (queue.eps == 2) ≡ false
  pub late : is_late_host (hand_host (in_hand s) n queue) ≡ true

not_off : (b : Bool) → not b ≡ true → b ≡ false
not_off true on = absurd (false≢true on)
not_off false on = refl

pub late_head : (s : Standing) (n : ℕ) → may_be_late (in_hand s) n (s.parts n n) ≡ true → HasLateHead s n
late_head s n late = by (s.parts n n) refl late
  where
    by : (o : Option Structure) → s.parts n n ≡ o → may_be_late (in_hand s) n o ≡ true → HasLateHead s n
    by (Some (QueueHead q)) is on =
        let both = and_parts (not (q.eps == 2)) (is_late_host (hand_host (in_hand s) n q)) on in
        record { queue = q; head = is; slow = not_off (q.eps == 2) both.0; late = both.1 }
    by _ is on = absurd (false≢true on)

-- the owner of its block
data HeadOwner (owner : ℕ → Owner) (n : ℕ) : Type 0 where
  of_ring : n ≡ 32 * head_block → owner head_block ≡ Head → HeadOwner owner n
  of_endpoint : (e b : ℕ) → n ≡ 32 * b → owner b ≡ QueueHeadOf e → HeadOwner owner n

head_owner : (d : DriverContent) (has : HasOwners d) (n a : ℕ) (k : Sort) → k ≡ OfQueueHead → IsDriverOwned (views_of d) n a k
    → HeadOwner has.owner n
head_owner d has _ _ _ is the_list = absurd cc
head_owner d has _ _ _ is the_head = of_ring refl has.owned.each.head.owned
head_owner d has _ _ _ is (a_queue e x here lent) = of_endpoint e x.queue refl (has.owned.each.queue e x here.here here.queued).owned
head_owner d has _ _ _ is (a_dummy e x here lent) = absurd cc
head_owner d has _ _ _ is (a_piece t b y x here piece lent) = absurd cc
head_owner d has _ _ _ is (a_buffer t b c cs y x here piece first lent) = absurd cc

head_described : (split : Bool) (t : ℕ) → Head ≡ Described split t → ⊥
head_described split t is = cc

queue_described : (e : ℕ) (split : Bool) (t : ℕ) → QueueHeadOf e ≡ Described split t → ⊥
queue_described e split t is = cc

same_block : (a b : ℕ) → 32 * a ≡ 32 * b → a ≡ b
same_block a b is = omega (arith, is)

module _ (fixed : Fixed) (x : Sides) (w : World) (n : ℕ) (late : WaitsAt fixed x w n) (links : LinksNewest w.driver) where
  abbrev s : Standing
  s = late.standing

  mixed : IsMixedAt late.standing w
  mixed = late.piped.mixed

  owners : HasOwners w.driver
  owners = mixed.now.framed.place.sound.owners

  h : HasLateHead late.standing n
  h = late_head late.standing n late.late

  module _ (v : Work) (under : w.driver.periodic.list.work ≡ Some v) (adds : v.removes ≡ false) (same : n ≡ begins v.member) where
    idle : w.driver.periodic.list.work ≡ None → ⊥
    idle none = no_work_is v (sym none ∙ under)

    -- a descriptor has its own block
    not_described : (e first : ℕ) → IsWaitingOf w.driver e first v.member → ⊥
    not_described e first u =
        by _ u.number (descriptor_placed w.driver u.number u.placed owners u.here (inr u.waits)).owned
        (head_owner w.driver owners n n OfQueueHead refl (mixed.now.framed.driven.only n n OfQueueHead (ap (option_map sort_of) h.head)))
      where
        at : n ≡ 32 * u.placed.block
        at = same ∙ ap begins (sym u.is)
            ∙ ap (λ (b : ℕ). 32 * b) (name_block (note_at w.driver.periodic.notes u.placed.block) u.placed.block)

        by : (split : Bool) (t : ℕ) → owners.owner u.placed.block ≡ Described split t → HeadOwner owners.owner n → ⊥
        by split t described (of_ring head ring) =
            head_described split t (sym ring ∙ ap owners.owner (same_block head_block u.placed.block (sym head ∙ at)) ∙ described)
        by split t described (of_endpoint f b head own) =
            queue_described f split t (sym own ∙ ap owners.owner (same_block b u.placed.block (sym head ∙ at)) ∙ described)

    -- it is to be lent still
    to_lend : IsChainToLend w.driver w.memory → ⊥
    to_lend t =
        let at : n ≡ 32 * t.ready.endpoint.queue =
        same ∙ its_name v.member t.ready.endpoint.queue t.ready.place (ap (λ (z : Work). z.member) (t.ready.links v under)) in
        none_head
        (sym (none_there (views_of w.driver) _ owners.owner t.ready.number (runs_of_endpoint t.ready.endpoint) s.parts
        (32 * t.ready.endpoint.queue)
        (two_lent w.driver w.memory t.ready.number (runs_of_endpoint t.ready.endpoint) _ t.ready.opened owners)
        mixed.now.framed.driven)
        ∙ ap (λ (i : ℕ). s.parts i i) (sym at) ∙ h.head)
      where
        none_head : ◌≡◌ {A = Option Structure} None (Some (QueueHead h.queue)) → ⊥
        none_head is = cc

    -- .. or is new
    is_new : w.driver.command ≡ Some unfinished.Chain → (at : IsOpenThere (queued w.driver) late.standing.parts) → ⊥
    is_new chain at =
        let its : WasQueued w.driver.endpoints at.number at.endpoint = was_queued w.driver.endpoints at.number at.endpoint at.here in
        let y : Endpoint = its.endpoint in
        let queue_is : at.endpoint.queue ≡ y.queue = ap (λ (z : Endpoint). z.queue) its.is ∙ queue_same y in
        let alive : at.endpoint.gone ≡ false =
        linked_stands_alive at.endpoint (mixed.turns.turns.asynchronous.endpoints at.number at.endpoint at.here) at.fresh in
        let kept = kept_as y (sym (ap (λ (z : Endpoint). z.gone) its.is) ∙ alive) in
        let opening : IsOpening w.driver y =
        record { kept = kept.0; queue = kept.1; command = at.command ∙ ap (λ (q : ℕ). Some (unfinished.Open q)) queue_is } in
        let fresh : IsNewHead late.standing (32 * y.queue) (asked_as y.desc) =
        late.piped.new_heads at.number y its.here opening (made_once late.standing w mixed at) in
        let is = links v chain under in
        let one : newest w.driver ≡ y.queue =
        open_queue (sym (ap (queued_command w.driver.endpoints) chain) ∙ opening.command) in
        let there : n ≡ 32 * y.queue = same ∙ its_name v.member (newest w.driver) is.0 is.1 ∙ ap (λ (q : ℕ). 32 * q) one in
        waits_off
        (subst (λ (i : ℕ). (q : Qh) → s.parts i i ≡ Some (QueueHead q) → (hand_host (in_hand s) i q).waiting ≡ false) (sym there)
        fresh.starts h.queue h.head)
      where
        open_queue : {a b : ℕ} → ◌≡◌ {A = Option Command} (Some (unfinished.Open a)) (Some (unfinished.Open b)) → a ≡ b
        open_queue is = cc

        waits_off : (hand_host (in_hand s) n h.queue).waiting ≡ false → ⊥
        waits_off off =
            let both = and_parts (hand_host (in_hand s) n h.queue).active
            ((hand_host (in_hand s) n h.queue).waiting && not (hand_host (in_hand s) n h.queue).halted) h.late in
            let inner = and_parts (hand_host (in_hand s) n h.queue).waiting (not (hand_host (in_hand s) n h.queue).halted) both.1 in
            true≢false (sym inner.0 ∙ off)

    by_command : (c : Option Command) → w.driver.command ≡ c → IsLinking w.driver c
        → IsUnderWay w.driver w.memory late.standing.member late.standing.recent late.standing.parts c → ⊥
    by_command None is way u = idle way.work
    by_command (Some (unfinished.Open b)) is way u = idle way.work
    by_command (Some (unfinished.Publish b words)) is way u = idle way.work
    by_command (Some (unfinished.Unlink e b link)) is way u = idle way.work
    by_command (Some unfinished.Chain) is way u =
        ⊎_elim (λ (t : IsChainToLend w.driver w.memory). to_lend t)
        (λ (t : IsChainThere w.driver late.standing.member late.standing.recent late.standing.parts). is_new is t.there) u
    by_command (Some (unfinished.Iso e t count)) is way u =
        not_described e t (mixed.now.queued e t count v is under).1
    by_command (Some (unfinished.Unchain e)) is way u =
        true≢false (sym (ap (λ (z : Work). z.removes) (same_Some v way.work (sym under ∙ way.begun)) ∙ way.removes) ∙ adds)

    linked_isnt_late : ⊥
    linked_isnt_late = by_command w.driver.command refl mixed.now.framed.place.sound.listed.way mixed.under_way

  pub waits_unlinked : LinksNot w n
  waits_unlinked v under adds same = linked_isnt_late v under adds same

pub late_links_not : (text : List ℕ) (s : Script) → Spells text s → (x : Sides) (k n : ℕ) → WaitsAt (fixed_of s) x (moment s k).world n
    → LinksNot (moment s k).world n
late_links_not text s spelled x k n late =
    waits_unlinked (fixed_of s) x (moment s k).world n late (texts_link_newest text s spelled k)
