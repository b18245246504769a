-- The visits go on with each event of the driver by which it links or unlinks members of its frame list.
use Rattle.std.proofs.Common.{◌≡◌, ℕ, ◌*◌, ◌/◌, Bool, true, false, nat_eq, if◌then◌else◌, List, Option, Some, None, ⊎_elim, ap, refl, sym, subst, ◌∙◌}
use Rattle.std.specs.Prelude.{◌==◌, nat_lt, option_and_then}
use Rattle.std.proofs.lemmas.Bool.{true≢false, and_parts, eqb-true, cases_Bool}
use Rattle.std.proofs.lemmas.Option.{same_Some}
use Rattle.law_world.proofs.Common2.{next_led}
use Rattle.law_descriptors.proofs.Common.{chain_unchain, leaves_it, also_here, gone}
use Rattle.law_common.proofs.Booleans.{or_both}
use Rattle.law_common.proofs.Numbers.{same_blocks}
use Rattle.drv_chains.specs.declared.members.Member.{Member}
use Rattle.drv_chains.specs.declared.members.Member.TheVariants.{Once, Each}
use Rattle.drv_chains.specs.Chains.{Schedule, id_of}
use Rattle.drv_members.specs.Members.{is_linked, is_that, is_this, without_member}
use Rattle.drv_members.specs.Ranks.{is_named, is_called}
use Rattle.drv_periodic.specs.declared.work.Work.{Work}
use Rattle.drv_periodic.specs.declared.work.Store.{Store}
use Rattle.drv_periodic.specs.Periodic.{Periodic, store_of, after_store}
use Rattle.drv_periodic_table.specs.Periodic.{PeriodicContent, queue_member}
use Rattle.drv_periodic_table.specs.Linking.{begun_next}
use Rattle.drv_table.specs.declared.content.Command.TheVariants as unfinished
use Rattle.drv_table.specs.declared.rows.DriverRow.{DriverRow}
use Rattle.drv_table.specs.DriverContent.{DriverContent}
use Rattle.drv_table.specs.Commands.{removes_members, advance}
use Rattle.drv_table.specs.Rows.{driver_row, after_driver_row}
use Rattle.law_driver.specs.run_owners.Due.{IsLinkOf}
use Rattle.claims_base.specs.Controller.{opening_base}
use Rattle.claims_driver.specs.FrameWords.{IsInOrder, HasMember}
use Rattle.law_frame_words.proofs.lemmas.frame_words.Order.{store_in_order}
use Rattle.law_frame_list.proofs.lemmas.list_steps.Stepping.{goes_on_list}
use Rattle.law_frames.specs.Met.{Kind}
use Rattle.law_descriptors.specs.Both.{both}
use Rattle.claims_driver.specs.Unlinked.{is_led, led_by, led, led_in}
use Rattle.law_descriptors.specs.Meeting.{kind_of, standing, or_recent, met}
use Rattle.law_descriptors.specs.Growing.{IsLeftOut}
use Rattle.law_descriptors.specs.Recent.{AreRecent}
use Rattle.law_descriptors.specs.Staying.{also}
use Rattle.law_descriptors.specs.ListRows.{leaves_now, recent_with, Comes, ComesFirst}
use Rattle.law_descriptors.specs.RowLaws.{HasFrames}
use Rattle.law_descriptors.proofs.Finding.{IsMemberAt}
use Rattle.law_descriptors.proofs.Leading.{none_made, led_linked}
use Rattle.law_descriptors.proofs.ListRecent.{link_recent}
use Rattle.law_descriptors.proofs.Queued.{descriptors_come_first, leaving_come_first}
use Rattle.bus_world.specs.World.{World, driver_parts, controller_parts, driver_next}
use Rattle.law_world.specs.memory.framed_memory.Chained.{IsChainLent}
use Rattle.law_world.specs.memory.framed_memory.NowRows.{FramedLinked}
use Rattle.law_world.proofs.lemmas.memory.lemmas.framed_memory.ChainedLent.{chain_comes_first}
use Rattle.law_world.proofs.lemmas.memory.lemmas.framed_memory.Now.{now_has_frames}
use Rattle.law_world.specs.memory.Mixed.{Standing, IsMixedAt}
use Rattle.claims_world.specs.Visits.{begins}
use Rattle.law_microframes.specs.visits.Visited.{NewIsFirst, IsGoneOn, VisitsGoOnAt}
use Rattle.law_microframes.proofs.lemmas.visits.DriverGoesOn.{IsListSpread, member_stands}
use Rattle.law_microframes.proofs.lemmas.visits.LinkSteps.{ListStep, IsMetThere}
use Rattle.law_microframes.proofs.lemmas.visits.LeftFresh.{queue_fresh}
use Rattle.law_microframes.proofs.lemmas.visits.NewFirst.{next_first, store_first}
use Rattle.law_microframes.proofs.lemmas.visits.ListGoesOn.{store_goes_on, member_comes}
use Rattle.law_microframes.proofs.lemmas.visits.OwnSteps.{next_half, next_kept, stored_half}

-- ---- what leaves, and what was unlinked stays so

pub also_met : (n i : ℕ) (kind one : Kind) (left : ℕ → Option Kind) → left i ≡ Some one → IsMetThere (also n kind left) i
also_met n i kind one left is = by (i == n) refl
  where
    by : (b : Bool) → (i == n) ≡ b → IsMetThere (also n kind left) i
    by true same = record { kind = kind; is = ap (λ (b : Bool). if b then Some kind else left i) same }
    by false differs = record { kind = one; is = ap (λ (b : Bool). if b then Some kind else left i) differs ∙ is }

pub with_met : (q : PeriodicContent) (o : Option Member) (left : ℕ → Option Kind) (n : ℕ) (kind : Kind) → left n ≡ Some kind → IsMetThere (recent_with q o left) n
with_met q None left n kind is = record { kind = kind; is = is }
with_met q (Some m) left n kind is = also_met (32 * (id_of m / 32)) n (kind_of q m) kind left is

pub leaver_met : (q : PeriodicContent) (p : Periodic) (w : Work) (x : Member) (left : ℕ → Option Kind) → p.work ≡ Some w → IsLeftOut p w x → IsMetThere (recent_with q (leaves_now p) left) (begins x)
leaver_met q p w x left under out = record {
  kind = kind_of q w.member;
  is = ap (λ (o : Option Member). recent_with q o left (begins x)) (leaves_it p w x under out)
      ∙ also_here (begins w.member) (begins x) (kind_of q w.member) left (ap (λ (n : ℕ). 32 * (n / 32)) (eqb-true (id_of x) (id_of w.member) out.is));
}

-- ---- one that isn't linked yet doesn't stand

unled_off : (d : DriverContent) (x : Work) → IsListSpread d → d.periodic.list.work ≡ Some x → is_led x ≡ false → is_linked d.periodic.list.members.schedule x.member ≡ true → standing d (begins x.member) ≡ None
unled_off d x spread under off on = by (standing d (begins x.member)) refl
  where
    s : Schedule
    s = d.periodic.list.members.schedule

    led_is : led d ≡ without_member s x.member
    led_is = ap (led_by s) under ∙ ap (λ (b : Bool). if b then s else without_member s x.member) off

    by : (o : Option Kind) → standing d (begins x.member) ≡ o → o ≡ None
    by None is = refl
    by (Some kind) is =
        let at : IsMemberAt (led d) (begins x.member) = member_stands d (begins x.member) kind is in
        let same : at.member ≡ x.member
        = spread.once at.member x.member (led_linked s d.periodic.list.work at.member at.linked) on (same_blocks (id_of at.member / 32) (id_of x.member / 32) at.begins) in
        absurd (true≢false (sym (ap (λ (t : Schedule). is_linked t x.member) (sym led_is) ∙ ap (is_linked (led d)) (sym same) ∙ at.linked) ∙ gone s x.member))

none_of_both : (o r : Option Kind) → o ≡ None → r ≡ None → or_recent o r ≡ None
none_of_both o r one two = ap (λ (x : Option Kind). or_recent x r) one ∙ two

-- ---- a store of a command

pub record HasWay (p : Periodic) : Type 0 where
  pub work : Work
  pub under : p.work ≡ Some work

pub has_way : (p : Periodic) (st : Store) (o : Option Work) → p.work ≡ o → option_and_then (λ x. store_of p.list p.members.schedule x) o ≡ Some st → HasWay p
has_way p st None under is = absurd (cc)
has_way p st (Some x) under is = record { work = x; under = under }

module _ (s : Standing) (w : World) (k : IsMixedAt s w) (start : World) (vs : List ℕ) (v : VisitsGoOnAt s start w vs) (why : IsLinkOf (driver_parts w) (driver_row (driver_parts w)))
    (e : FramedLinked opening_base s.member s.recent s.descs s.parts s.hand s.frame (controller_parts w) w.driver why.store)
    (comes : ComesFirst s.member s.recent (both s.descs s.parts) w.driver w.driver.periodic.list)
    (left_fresh : (x : Work) → w.driver.periodic.list.work ≡ Some x → x.removes ≡ false → x.made ≡ 0 → v.visits.left (begins x.member) ≡ None) where
  abbrev d : DriverContent
  d = w.driver

  abbrev p : Periodic
  p = w.driver.periodic.list

  frames : HasFrames w.memory w.driver
  frames = now_has_frames opening_base s.member s.recent s.descs s.parts s.hand s.frame (controller_parts w) w.driver k.now

  way : HasWay w.driver.periodic.list
  way = has_way w.driver.periodic.list why.store w.driver.periodic.list.work refl why.next

  driver_is : (driver_next w).driver ≡ advance w.driver
  driver_is = ap (λ (r : DriverRow). (after_driver_row r (driver_parts w)).driver) why.is

  list_is : (driver_next w).driver.periodic.list ≡ (begun_next (removes_members why.command) (record w.driver.periodic { list = after_store w.driver.periodic.list })).list
  list_is = ap (λ (f : DriverContent). f.periodic.list) driver_is ∙ goes_on_list w.driver why.command why.unfinished why.links why.late

  ordered : IsInOrder (after_store w.driver.periodic.list)
  ordered = store_in_order w.driver.periodic.list frames.list.order

  step : ListStep w.memory (driver_next w).memory w.driver (driver_next w).driver w.driver.periodic.list way.work why.store
  step = record {
    list = refl;
    members = refl;
    order = frames.list.order;
    words = frames.list.words;
    under = way.under;
    next = why.next;
    before = refl;
    after = ap led_in list_is ∙ next_led (removes_members why.command) (record w.driver.periodic { list = after_store w.driver.periodic.list }) ordered.kept;
    frames = frames;
    frames_then = e.event.frames;
    work = λ adds. way.under;
    same = λ x is. same_Some x way.work (sym is ∙ way.under);
    goes = λ x is. list_is
        ∙ next_kept (removes_members why.command) (record w.driver.periodic { list = after_store w.driver.periodic.list }) x is;
    half = λ x is adds made.
        stored_half w.driver.periodic.list way.work x way.under
        (next_half (removes_members why.command) (record w.driver.periodic { list = after_store w.driver.periodic.list }) x (sym (ap (λ (q : Periodic). q.work) list_is) ∙ is) adds made) adds;
  }

  abbrev later : ℕ → Option Kind
  later = recent_with w.driver.periodic (leaves_now w.driver.periodic.list) v.visits.left

  left_are : AreRecent (driver_next w).driver (driver_next w).registers.frame_index later
  left_are =
      subst (λ (r : DriverRow). AreRecent (after_driver_row r (driver_parts w)).driver (after_driver_row r (driver_parts w)).registers.frame_index later) (sym why.is)
      (link_recent w.memory w.driver v.visits.left w.registers.frame_index why.command why.unfinished why.links why.late frames.listed k.now.chained v.visits.left_are)

  stays_left : (n : ℕ) (kind : Kind) → v.visits.left n ≡ Some kind → IsMetThere later n
  stays_left n kind is = with_met w.driver.periodic (leaves_now w.driver.periodic.list) v.visits.left n kind is

  leaves : (x : Member) → is_linked (led w.driver) x ≡ true → IsLeftOut w.driver.periodic.list way.work x → IsMetThere later (begins x)
  leaves x on out = leaver_met w.driver.periodic w.driver.periodic.list way.work x v.visits.left way.under out

  first_then : NewIsFirst w.driver.periodic.list → NewIsFirst (driver_next w).driver.periodic.list
  first_then old =
      subst NewIsFirst (sym list_is) (next_first (removes_members why.command) (record w.driver.periodic { list = after_store w.driver.periodic.list }) (store_first w.driver.periodic.list old))

  pub link_visits : IsGoneOn start w (driver_next w) vs
  link_visits =
      ⊎_elim
      (λ (on : is_led way.work ≡ true).
      store_goes_on s w k start vs v w.driver.periodic.list way.work why.store step e.event.now e.event.frame_later e.event.stored e.event.runs.ring.tells later left_are stays_left leaves first_then on)
      (λ (off : is_led way.work ≡ false).
      let parted = or_both way.work.removes (nat_lt 0 way.work.made) off in
      let zero : way.work.made ≡ 0 = none_made way.work.made parted.1 in
      let c : Comes s.member s.recent (both s.descs s.parts) (begins way.work.member) (kind_of w.driver.periodic way.work.member) = comes way.work way.under parted.0 zero in
      let linked : is_linked w.driver.periodic.list.members.schedule way.work.member ≡ true = on_way w.driver.periodic.list.members.schedule w.driver.periodic.list.work way.work way.under frames.list.order.member in
      let unled : standing w.driver (begins way.work.member) ≡ None = unled_off w.driver way.work frames.spread way.under off linked in
      member_comes s w k start vs v w.driver.periodic.list way.work why.store step e.event.now e.event.frame_later e.event.stored e.event.runs.ring.tells later left_are stays_left leaves first_then parted.0 zero
      c.part (none_of_both (standing w.driver (begins way.work.member)) (s.recent (begins way.work.member)) unled c.fresh)
      (none_of_both (standing w.driver (begins way.work.member)) (v.visits.left (begins way.work.member)) unled (left_fresh way.work way.under parted.0 zero)))
      (cases_Bool (is_led way.work))
    where
      on_way : (t : Schedule) (o : Option Work) (x : Work) → o ≡ Some x → HasMember t o → is_linked t x.member ≡ true
      on_way t o x is has = (subst (HasMember t) is has).1

-- ---- by the command

module _ (s : Standing) (w : World) (k : IsMixedAt s w) (left : ℕ → Option Kind) (are : AreRecent w.driver w.registers.frame_index left) where
  -- descriptors are to be linked
  pub described_first : (e t count : ℕ) → w.driver.command ≡ Some (unfinished.Iso e t count) → ComesFirst s.member left (both s.descs s.parts) w.driver w.driver.periodic.list
  described_first e t count is =
      descriptors_come_first opening_base s.member (met w.driver s.recent) left s.descs s.parts s.hand s.frame (controller_parts w) w.driver w.registers.frame_index e t count k.now.framed.runs
      k.now.framed.described are k.now.framed.place.sound.owners k.now.framed.place.lent k.now.queued is

  pub unchained_first : (e : ℕ) → w.driver.command ≡ Some (unfinished.Unchain e) → ComesFirst s.member left (both s.descs s.parts) w.driver w.driver.periodic.list
  unchained_first e is = leaving_come_first s.member left (both s.descs s.parts) w.driver e k.now.framed.place.sound.listed is

module _ (s : Standing) (w : World) (k : IsMixedAt s w) (start : World) (vs : List ℕ) (v : VisitsGoOnAt s start w vs) (why : IsLinkOf (driver_parts w) (driver_row (driver_parts w)))
    (e : FramedLinked opening_base s.member s.recent s.descs s.parts s.hand s.frame (controller_parts w) w.driver why.store) where
  pub described_visits : (f t count : ℕ) → w.driver.command ≡ Some (unfinished.Iso f t count) → IsGoneOn start w (driver_next w) vs
  described_visits f t count is =
      link_visits s w k start vs v why e (described_first s w k s.recent k.now.recent_are f t count is)
      (λ x under adds zero. (described_first s w k v.visits.left v.visits.left_are f t count is x under adds zero).fresh)

  pub unchained_visits : (f : ℕ) → w.driver.command ≡ Some (unfinished.Unchain f) → IsGoneOn start w (driver_next w) vs
  unchained_visits f is =
      link_visits s w k start vs v why e (unchained_first s w k s.recent k.now.recent_are f is)
      (λ x under adds zero. (unchained_first s w k v.visits.left v.visits.left_are f is x under adds zero).fresh)

  pub chained_visits : IsChainLent w.driver s.member s.recent s.parts → IsGoneOn start w (driver_next w) vs
  chained_visits t =
      link_visits s w k start vs v why e (chain_comes_first opening_base s.member s.recent s.descs s.parts s.hand s.frame (controller_parts w) w.driver k.now t) left_fresh
    where
      left_fresh : (x : Work) → w.driver.periodic.list.work ≡ Some x → x.removes ≡ false → x.made ≡ 0 → v.visits.left (begins x.member) ≡ None
      left_fresh x under adds zero =
          let same : x.member ≡ queue_member t.endpoint.queue t.place = ap (λ (y : Work). y.member) (same_Some x t.work (sym under ∙ t.under_way)) ∙ t.links in
          let frames = now_has_frames opening_base s.member s.recent s.descs s.parts s.hand s.frame (controller_parts w) w.driver k.now in
          let linked : is_linked w.driver.periodic.list.members.schedule x.member ≡ true = (subst (HasMember w.driver.periodic.list.members.schedule) under frames.list.order.member).1 in
          ap (λ (m : Member). v.visits.left (begins m)) same
          ∙ queue_fresh w.driver v.visits.left w.registers.frame_index _ k.now.framed.place.sound.owners frames.listed (ap (is_linked w.driver.periodic.list.members.schedule) (sym same) ∙ linked)
          (λ f other. chain_unchain w.driver.command f t.command other) v.visits.left_are
