-- No store links or unlinks the queue head of an endpoint that is in its frames and isn't cancelled (EHCI 1.0, 4.6): what an unfinished
-- command links or unlinks is of another endpoint.
use Rattle.std.proofs.Common.{◌≡◌, ◌≢◌, ℕ, zero, suc, ◌+◌, ◌*◌, ◌/◌, Bool, true, false, cond, nat_lt, List, [], ◌∷◌, slice_get}
use Rattle.std.proofs.Common.{Option, Some, None, is_none, option_map, ap, refl, sym, subst, ◌∙◌, ⊎_elim}
use Rattle.std.specs.Prelude.{nat_le}
use Rattle.std.proofs.lemmas.Bool.{cases_Bool, true≢false}
use Rattle.std.proofs.lemmas.Option.{same_Some}
use Rattle.law_world.proofs.Common.{none_some}
use Rattle.law_resting.proofs.Common.{no_work_is}
use Rattle.usb_base.specs.declared.packets.EpKind.TheVariants.{Interrupt}
use Rattle.drv_chains.specs.declared.members.Member.{Member}
use Rattle.drv_chains.specs.Chains.{id_of}
use Rattle.drv_periodic.specs.declared.work.Store.{Store}
use Rattle.drv_periodic.specs.declared.work.Work.{Work}
use Rattle.drv_periodic.specs.Periodic.{Periodic, is_more, next_store, members_after, after_work, after_store}
use Rattle.bandwidth.specs.declared.placements.Placement.{Placement}
use Rattle.drv_periodic_table.specs.Linking.{with_first, begun_next}
use Rattle.drv_periodic_table.specs.Periodic.{PeriodicContent, queue_member}
use Rattle.drv_table.specs.declared.content.Command.{Command}
use Rattle.drv_table.specs.declared.content.Command.TheVariants as unfinished
use Rattle.drv_table.specs.declared.content.Endpoint.{Endpoint}
use Rattle.drv_table.specs.declared.rows.DriverRow.{DriverRow}
use Rattle.drv_table.specs.declared.rows.DriverRow.TheVariants as rows
use Rattle.drv_table.specs.Commands.{link_row, command_row, no_command, list_after, linked_on, advanced_by, advance}
use Rattle.drv_table.specs.DriverContent.{DriverContent}
use Rattle.drv_table.specs.Kinds.{is_iso}
use Rattle.drv_table.specs.Parts.{Parts}
use Rattle.drv_table.specs.Rows.{row_for, driver_row, after_driver_row}
use Rattle.claims_driver.specs.FrameListMembers.{Framed, framed_of}
use Rattle.law_driver.specs.listed_members.Members.{IsWaitingOf, IsUnchaining, IsUnderWay}
use Rattle.bus_world.specs.World.{World, driver_parts, driver_next}
use Rattle.law_world.specs.memory.Mixed.{IsMixedWorld}
use Rattle.law_microframes.proofs.lemmas.due.FetchedKinds.{begins_there}
use Rattle.law_microframes.proofs.lemmas.visits.BelongQueues.{alive}
use Rattle.law_reports.proofs.lemmas.pipes.Names.{same_number}

-- ---- members

pub member_queue : (a b : ℕ) (p r : Placement) → queue_member a p ≡ queue_member b r → 32 * a ≡ 32 * b
member_queue a b p r same =
    sym (begins_there a) ∙ ap (λ (x : Member). 32 * (id_of x / 32)) same ∙ begins_there b

not_waiting : (w : World) (e first q : ℕ) (p : Placement) (x : Member) → IsWaitingOf w.driver e first x → x ≡ queue_member q p → ⊥
not_waiting w e first q p x waits same = let never = waits.is ∙ same in cc never

first_is : (x y : Member) (xs : List Member) → (x ∷ xs) ≡ (y ∷ []) → x ≡ y
first_is x y xs same = cc

-- ---- by the command

module _ (w : World) (k : IsMixedWorld w) (e q : ℕ) (p : Placement) (z : Endpoint) (here : slice_get w.driver.endpoints e ≡ Some z)
    (kind : z.desc.kind ≡ Interrupt) (kept : z.gone ≡ false) (queue : z.queue ≡ q) (off : z.cancelled ≡ false)
    (chain_off : (v : Work) → w.driver.command ≡ Some unfinished.Chain → w.driver.periodic.list.work ≡ Some v → v.member ≢ queue_member q p)
  where
    way : IsUnderWay w.driver w.driver.command
    way = k.mixed.now.framed.place.sound.listed.way

    none_works : w.driver.periodic.list.work ≡ None → (v : Work) → w.driver.periodic.list.work ≡ Some v → ⊥
    none_works none v is = let never : ◌≡◌ {A = Option Work} None (Some v) = sym none ∙ is in cc never

    leaves_other : (f : ℕ) → w.driver.command ≡ Some (unfinished.Unchain f) → IsUnchaining w.driver f → (v : Work)
        → w.driver.periodic.list.work ≡ Some v → v.member ≡ queue_member q p → ⊥
    leaves_other f command u v is same =
        let work : u.work.member ≡ queue_member q p = ap (λ (x : Work). x.member) (same_Some u.work v (sym u.begun ∙ is)) ∙ same in
        let framed : u.framed ≡ framed_of u.endpoint =
        same_Some u.framed (framed_of u.endpoint) (sym u.at ∙ ap (option_map framed_of) u.here) in
        ⊎_elim
        (λ (iso : u.framed.isochronous ≡ true).
        not_waiting w f 0 q p u.work.member ((u.leaving.descriptors iso).0).0 work)
        (λ (queued : u.framed.isochronous ≡ false).
        let l = u.leaving.queue queued in
        let member : u.work.member ≡ queue_member u.framed.queue l.0 = first_is u.work.member _ w.driver.periodic.queued l.1.1 in
        let at : 32 * u.endpoint.queue ≡ 32 * z.queue =
        ap (λ (x : Framed). 32 * x.queue) (sym framed) ∙ member_queue u.framed.queue q l.0 p (sym member ∙ work)
        ∙ ap (λ (b : ℕ). 32 * b) (sym queue) in
        let alive_is : u.endpoint.gone ≡ false =
        alive w.driver k.mixed.now.framed.place.sound.owners f u.endpoint u.here (k.mixed.now.chained f u.endpoint command u.here) in
        let one : f ≡ e =
        same_number w.driver k.mixed.now.framed.place.sound.owners f e u.endpoint z u.here here
        (alive_is, ap (λ (x : Framed). x.isochronous) (sym framed) ∙ queued) (kept, ap is_iso kind) at in
        let its : u.endpoint ≡ z = same_Some u.endpoint z (sym u.here ∙ ap (slice_get w.driver.endpoints) one ∙ here) in
        true≢false (sym u.cancelled ∙ ap (λ (x : Endpoint). x.cancelled) its ∙ off)) (cases_Bool u.framed.isochronous)

    by_command : (c : Option Command) → w.driver.command ≡ c → IsUnderWay w.driver c → (v : Work) → w.driver.periodic.list.work ≡ Some v
        → v.member ≡ queue_member q p → ⊥
    by_command None command under v is same = none_works under.work v is
    by_command (Some (unfinished.Open b)) command under v is same = none_works under.work v is
    by_command (Some (unfinished.Publish b words)) command under v is same = none_works under.work v is
    by_command (Some (unfinished.Unlink f b link)) command under v is same = none_works under.work v is
    by_command (Some unfinished.Chain) command under v is same = chain_off v command is same
    by_command (Some (unfinished.Iso f t count)) command under v is same =
        not_waiting w f t q p v.member (k.mixed.now.queued f t count v command is).1 same
    by_command (Some (unfinished.Unchain f)) command under v is same = leaves_other f command under v is same

    pub is_idle : (v : Work) → w.driver.periodic.list.work ≡ Some v → v.member ≢ queue_member q p
    is_idle v is same = by_command w.driver.command refl way v is same

-- ---- an open goes on with the member that it links

record HasSame (d : DriverContent) (v : Work) : Type 0 where
  work : Work
  is : d.periodic.list.work ≡ Some work
  member : work.member ≡ v.member

abbrev Goes : DriverContent → DriverContent → Type 0
Goes d f = (v : Work) → f.command ≡ Some unfinished.Chain → f.periodic.list.work ≡ Some v → HasSame d v

itself_goes : (d : DriverContent) → Goes d d
itself_goes d v command is = record { work = v; is = is; member = refl }

begun_none : (b removes : Bool) (r : PeriodicContent) → cond b (with_first removes r []) r ≡ r
begun_none true removes r = refl
begun_none false removes r = refl

more_work : (b : Bool) (l : Periodic) (u v : Work)
    → (cond b (record l { work = Some (record u { made = u.made + 1 }) })
    (record { list = l.list; members = members_after l.members u; work = None })).work
    ≡ Some v → u.member ≡ v.member
more_work true l u v is = ap (λ (x : Work). x.member) (same_Some (record u { made = u.made + 1 }) v is)
more_work false l u v is = absurd (no_work_is v is)

module _ (d : DriverContent) (command : d.command ≡ Some unfinished.Chain) (queued : d.periodic.queued ≡ []) where
  abbrev started : PeriodicContent
  started = record d.periodic { list = list_after d unfinished.Chain }

  abbrev left : DriverContent
  left = record d { made = 1; periodic = begun_next false started }

  stored : (o : Option Work) → d.periodic.list.work ≡ o → (v : Work) → (after_work d.periodic.list o).work ≡ Some v → HasSame d v
  stored None at v is = absurd (no_work_is v (sym at ∙ is))
  stored (Some u) at v is =
      record { work = u; is = at; member = more_work (is_more d.periodic.list.members.schedule u) d.periodic.list u v is }

  by_list : (b : Bool) (v : Work) → (cond b d.periodic.list (after_store d.periodic.list)).work ≡ Some v → HasSame d v
  by_list true v is = record { work = v; is = is; member = refl }
  by_list false v is = stored d.periodic.list.work refl v is

  started_is : begun_next false started ≡ started
  started_is =
      ap (λ (ms : List Member). cond (is_none started.list.work) (with_first false started ms) started) queued
      ∙ begun_none (is_none started.list.work) false started

  by_end : (b : Bool) → Goes d (cond b (no_command left) left)
  by_end true v chain is = absurd (none_some unfinished.Chain chain)
  by_end false v chain is =
      by_list (nat_lt d.made 1) v (ap (λ (r : PeriodicContent). r.list.work) (sym started_is) ∙ is)

  by_made : (b : Bool) → Goes d (cond b (record d { made = suc d.made }) (linked_on d unfinished.Chain))
  by_made true = itself_goes d
  by_made false = by_end (is_none (begun_next false started).list.work)

  advance_goes : Goes d (advance d)
  advance_goes = subst (λ (o : Option Command). Goes d (advanced_by d o)) (sym command) (by_made (nat_lt (suc d.made) 1))

abbrev IsChainRow : DriverRow → Type 0
IsChainRow rows.Lend = Unit {0}
IsChainRow (rows.Store b at v) = Unit {0}
IsChainRow rows.Rest = Unit {0}
IsChainRow _ = ⊥

link_is : (o : Option Store) → IsChainRow (link_row o)
link_is None = tt
link_is (Some s) = tt

own_is : (n : ℕ) → IsChainRow (command_row unfinished.Chain n)
own_is zero = tt
own_is (suc n) = tt

chain_row_is : (b : Bool) (o : Option Store) (n : ℕ) → IsChainRow (cond b (link_row o) (command_row unfinished.Chain n))
chain_row_is true o n = link_is o
chain_row_is false o n = own_is n

row_goes : (r : DriverRow) (parts : Parts) → IsChainRow r → parts.driver.command ≡ Some unfinished.Chain → parts.driver.periodic.queued ≡ []
    → Goes parts.driver (after_driver_row r parts).driver
row_goes rows.Lend parts is command queued =
    λ v chain work.
    let h : HasSame (record parts.driver { book = _ }) v =
    advance_goes (record parts.driver { book = _ }) command queued v chain work in
    record { work = h.work; is = h.is; member = h.member }
row_goes (rows.Store b at v) parts is command queued = advance_goes parts.driver command queued
row_goes rows.Rest parts is command queued = itself_goes parts.driver
row_goes _ parts is command queued = absurd is

pub chain_goes : (w : World) → IsMixedWorld w → w.driver.command ≡ Some unfinished.Chain → (v : Work)
    → (driver_next w).driver.command ≡ Some unfinished.Chain → (driver_next w).driver.periodic.list.work ≡ Some v
    → (u : Work) × ((w.driver.periodic.list.work ≡ Some u) × (u.member ≡ v.member))
chain_goes w k command v chain work =
    let d : DriverContent = w.driver in
    let under : IsUnderWay w.driver (Some unfinished.Chain) =
    subst (IsUnderWay w.driver) command k.mixed.now.framed.place.sound.listed.way in
    let is : IsChainRow (driver_row (driver_parts w)) =
    subst (λ (o : Option Command). IsChainRow (row_for (driver_parts w) o)) (sym command)
    (chain_row_is (nat_le 1 d.made) (next_store d.periodic.list) d.made) in
    let h : HasSame w.driver v = row_goes (driver_row (driver_parts w)) (driver_parts w) is command under.1 v chain work in
    (h.work, (h.is, h.member))

-- .. and takes no endpoint in, nor lets one go
module _ (d : DriverContent) (command : d.command ≡ Some unfinished.Chain) where
  abbrev chain_started : PeriodicContent
  chain_started = record d.periodic { list = list_after d unfinished.Chain }

  abbrev chain_left : DriverContent
  chain_left = record d { made = 1; periodic = begun_next false chain_started }

  end_ends : (b : Bool) → (cond b (no_command chain_left) chain_left).endpoints ≡ d.endpoints
  end_ends true = refl
  end_ends false = refl

  made_ends : (b : Bool) → (cond b (record d { made = suc d.made }) (linked_on d unfinished.Chain)).endpoints ≡ d.endpoints
  made_ends true = refl
  made_ends false = end_ends (is_none (begun_next false chain_started).list.work)

  advance_ends : (advance d).endpoints ≡ d.endpoints
  advance_ends =
      subst (λ (o : Option Command). (advanced_by d o).endpoints ≡ d.endpoints) (sym command) (made_ends (nat_lt (suc d.made) 1))

row_ends_stay : (r : DriverRow) (parts : Parts) → IsChainRow r → parts.driver.command ≡ Some unfinished.Chain
    → (after_driver_row r parts).driver.endpoints ≡ parts.driver.endpoints
row_ends_stay rows.Lend parts is command = advance_ends (record parts.driver { book = _ }) command
row_ends_stay (rows.Store b at v) parts is command = advance_ends parts.driver command
row_ends_stay rows.Rest parts is command = refl
row_ends_stay _ parts is command = absurd is

pub chain_keeps_ends : (w : World) → w.driver.command ≡ Some unfinished.Chain → (driver_next w).driver.endpoints ≡ w.driver.endpoints
chain_keeps_ends w command =
    let is : IsChainRow (driver_row (driver_parts w)) =
    subst (λ (o : Option Command). IsChainRow (row_for (driver_parts w) o)) (sym command)
    (chain_row_is (nat_le 1 w.driver.made) (next_store w.driver.periodic.list) w.driver.made) in
    row_ends_stay (driver_row (driver_parts w)) (driver_parts w) is command
