-- Right behind the last store that unlinks a member its link leads to the end of the frame, or to a member that is live.
use Rattle.std.proofs.Common.{◌≡◌, ◌≢◌, ℕ, ◌+◌, ◌*◌, ◌/◌, ◌<◌, ◌≤◌, Bool, true, false, List, [], ◌∷◌, slice_get}
use Rattle.std.proofs.Common.{is_none, ◌&&◌, Option, Some, None, if◌then◌else◌, ap, refl, sym, subst, ◌∙◌, ⊎_elim, arith}
use Rattle.std.specs.Prelude.{option_and_then}
use Rattle.std.specs.List.{AllByRecursion, list_any}
use Rattle.std.proofs.lemmas.Bool.{true≢false, eqb-true, cases_Bool, and_parts}
use Rattle.std.proofs.lemmas.Option.{same_Some}
use Rattle.law_world.proofs.Common2.{next_led}
use Rattle.law_descriptors.proofs.Common.{way_by}
use Rattle.law_frame_words.proofs.Common.{that_itself, this_itself}
use Rattle.law_common.proofs.Booleans.{either_if}
use Rattle.law_common.proofs.Lists.{nth_all}
use Rattle.word_mem.specs.Memory.{Mem, word_at}
use Rattle.mem_runs.specs.Book.{slot_of, can_store, store}
use Rattle.drv_chains.specs.declared.members.Descriptor.{Descriptor}
use Rattle.drv_chains.specs.declared.members.Member.{Member}
use Rattle.drv_chains.specs.declared.members.Member.TheVariants.{Once, Each}
use Rattle.drv_chains.specs.declared.members.Predecessor.{Predecessor}
use Rattle.drv_chains.specs.declared.members.Predecessor.TheVariants.{Element as AtElement, After}
use Rattle.drv_chains.specs.Chains.{Schedule, id_of, successor}
use Rattle.drv_chains.specs.Stores.{is_word}
use Rattle.drv_members.specs.Members.{IsKept, Members, is_linked, without_member, with_schedule, frame_of, is_member}
use Rattle.drv_periodic.specs.declared.work.Work.{Work}
use Rattle.drv_periodic.specs.declared.work.Store.{Store}
use Rattle.drv_periodic.specs.Periodic.{Periodic, address_of, link_to, words_of, value_of, next_store, store_of, after_work, after_store}
use Rattle.drv_periodic.specs.Periodic.{is_more}
use Rattle.drv_periodic.specs.Periodic.{members_after, removing}
use Rattle.drv_periodic.specs.Periodic.{begun as begun_work}
use Rattle.drv_periodic_table.specs.Linking.{unlinking, may_unlink, begun_next, with_first}
use Rattle.drv_periodic_table.specs.Periodic.{PeriodicContent, descriptor_member}
use Rattle.drv_table.specs.declared.content.Command.{Command}
use Rattle.drv_table.specs.declared.content.Command.TheVariants as unfinished
use Rattle.drv_table.specs.declared.content.Transfer.{Transfer}
use Rattle.drv_table.specs.declared.rows.DriverRow.{DriverRow}
use Rattle.drv_table.specs.declared.rows.DriverRow.TheVariants as rows
use Rattle.drv_table.specs.DriverContent.{DriverContent}
use Rattle.drv_table.specs.Commands.{removes_members}
use Rattle.drv_table.specs.Parts.{Parts}
use Rattle.drv_table.specs.Removals.{after_unlink, stored_link}
use Rattle.drv_table.specs.Rows.{driver_row, after_driver_row}
use Rattle.bus_world.specs.World.{World, driver_parts, controller_parts, driver_next}
use Rattle.claims_base.specs.Controller.{opening_base}
use Rattle.law_driver.specs.listed_members.Members.{IsUnderWay}
use Rattle.claims_driver.specs.FrameWords.{Begun, StandsBy, is_at, made_of}
use Rattle.claims_driver.specs.Ring.{link_in}
use Rattle.claims_driver.specs.Unlinked.{led_in, led}
use Rattle.claims_world.specs.Links.{EndsOrLeads, ends, leads}
use Rattle.law_descriptors.proofs.Growing.{stores_keep_members}
use Rattle.law_descriptors.proofs.Leading.{led_linked}
use Rattle.law_descriptors.proofs.ListRows.{unlinking_led}
use Rattle.law_descriptors.specs.Growing.{IsLeftOut}
use Rattle.law_descriptors.specs.RowLaws.{HasFrames}
use Rattle.law_driver.proofs.lemmas.ring_members.Events.{begun_members}
use Rattle.law_driver.proofs.lemmas.run_owners.Reasons.{each_event_is_due}
use Rattle.law_driver.specs.run_owners.Due.{IsDue, IsLinkOf, IsUnlinkDue}
use Rattle.law_frame_list.proofs.lemmas.list_closed.Chained.{still_linked, successor_is, other_words}
use Rattle.law_frame_list.proofs.lemmas.list_steps.Stepping.{goes_on_list}
use Rattle.law_frame_list.specs.list_closed.Closed.{IsNext}
use Rattle.law_frame_words.proofs.lemmas.frame_words.Begins.{remove_stands}
use Rattle.law_frame_words.proofs.lemmas.frame_words.Decoded.{IsWordOf}
use Rattle.law_frame_words.proofs.lemmas.frame_words.InChains.{words_in}
use Rattle.law_frame_words.proofs.lemmas.frame_words.Order.{store_in_order}
use Rattle.law_world.specs.memory.Mixed.{Standing, IsMixedAt}
use Rattle.law_world.proofs.lemmas.memory.FrameFlips.{LedThen, same, a_link, an_unlink, row_led, successor_apart}
use Rattle.law_world.proofs.lemmas.memory.LinkWords.{NextWord, next_word, stored_off}
use Rattle.law_world.proofs.lemmas.memory.lemmas.framed_memory.Now.{now_has_frames}

itself_word : (x : Member) → is_word (After x) (After x) ≡ true
itself_word (Once c) = that_itself c
itself_word (Each q) = this_itself q

-- the members to which a word may lead once the last store is made
led_out : (p : Periodic) (w : Work) → p.work ≡ Some w → is_more p.members.schedule w ≡ false → w.removes ≡ true
    → led_in (after_store p) ≡ without_member p.members.schedule w.member
led_out p w under last removes =
    ap (λ (o : Option Work). led_in (after_work p o)) under
    ∙ ap (λ (b : Bool). led_in (if b then record p { work = Some (record w { made = w.made + 1 }) }
    else record { list = p.list; members = members_after p.members w; work = None })) last
    ∙ ap (λ (b : Bool). (if b then with_schedule p.members (without_member p.members.schedule w.member) else p.members).schedule) removes

schedule_out : (p : Periodic) (w : Work) → p.work ≡ Some w → is_more p.members.schedule w ≡ false → w.removes ≡ true
    → (after_store p).members.schedule ≡ without_member p.members.schedule w.member
schedule_out p w under last removes =
    ap (λ (o : Option Work). (after_work p o).members.schedule) under
    ∙ ap (λ (b : Bool). (if b then record p { work = Some (record w { made = w.made + 1 }) }
    else record { list = p.list; members = members_after p.members w; work = None }).members.schedule) last
    ∙ ap (λ (b : Bool). (if b then with_schedule p.members (without_member p.members.schedule w.member) else p.members).schedule) removes

-- while an unlinking is begun, the command unlinks
unchains_by : (d : DriverContent) (o : Option Command) → IsUnderWay d o → (w : Work) → d.periodic.list.work ≡ Some w → w.removes ≡ true
    → (c : Command) → o ≡ Some c → removes_members c ≡ true
unchains_by d None way w under removes c is = absurd (cc)
unchains_by d (Some (unfinished.Open q)) way w under removes c is = absurd (cc (way.work, under))
unchains_by d (Some (unfinished.Publish b words)) way w under removes c is = absurd (cc (way.work, under))
unchains_by d (Some (unfinished.Unlink e b link)) way w under removes c is = absurd (cc (way.work, under))
unchains_by d (Some unfinished.Chain) way w under removes c is = absurd (true≢false (sym removes ∙ way.0 w under))
unchains_by d (Some (unfinished.Iso e t count)) way w under removes c is = absurd (true≢false (sym removes ∙ way.links w under))
unchains_by d (Some (unfinished.Unchain e)) way w under removes c is =
    ap removes_members (sym (same_Some (unfinished.Unchain e) c is))

first_members : (q : PeriodicContent) (ms : List Member) → (with_first true q ms).list.members ≡ q.list.members
first_members q [] = refl
first_members q (x ∷ xs) = (begun_members q.list x).1

pub next_members : (q : PeriodicContent) → (begun_next true q).list.members ≡ q.list.members
next_members q =
    either_if (λ (r : PeriodicContent). r.list.members ≡ q.list.members) (is_none q.list.work) (with_first true q q.queued) q
    (λ e. first_members q q.queued) (λ e. refl)

-- why a member is unlinked: the unfinished command does it, or it is the first of the descriptors that were harvested
pub data IsUnlinkedFor (d : DriverContent) (work : Work) : Type 0 where
  by_command : d.periodic.list.work ≡ Some work → IsUnlinkedFor d work
  once_harvested : (t : ℕ) (y : Transfer) → slice_get d.periodic.unlinks 0 ≡ Some t → slice_get d.transfers t ≡ Some y
      → work.member ≡ descriptor_member d.periodic.notes y.first → IsUnlinkedFor d work

module _ (s : Standing) (w : World) (k : IsMixedAt s w) (x : Member) (on : is_linked (led w.driver) x ≡ true)
    (out : is_linked (led (driver_next w).driver) x ≡ false) where
  abbrev p : Parts
  p = driver_parts w

  abbrev d : DriverContent
  d = w.driver

  abbrev m : Mem
  m = w.memory

  abbrev list : Periodic
  list = w.driver.periodic.list

  abbrev schedule : Schedule
  schedule = w.driver.periodic.list.members.schedule

  frames : HasFrames w.memory w.driver
  frames = now_has_frames opening_base s.member s.recent s.descs s.parts s.hand s.frame (controller_parts w) w.driver k.now

  kept : IsKept w.driver.periodic.list.members.schedule
  kept = frames.list.order.kept

  linked : is_linked w.driver.periodic.list.members.schedule x ≡ true
  linked = led_linked schedule list.work x on

  -- ---- which store it is

  row_of : IsDue (driver_parts w) (driver_row (driver_parts w))
  row_of = each_event_is_due p

  -- the store is the last of this work
  pub record IsLast : Type 0 where
    pub work : Work
    pub leaves : IsLeftOut w.driver.periodic.list work x
    pub cause : IsUnlinkedFor w.driver work
    pub way : is_linked w.driver.periodic.list.members.schedule work.member ≡ true
    pub begun : Begun w.driver.periodic.list.list w.driver.periodic.list.members.schedule work (word_at w.memory)
    pub led_then : led (driver_next w).driver ≡ without_member w.driver.periodic.list.members.schedule work.member
    pub members_then : (driver_next w).driver.periodic.list.members.schedule
        ≡ without_member w.driver.periodic.list.members.schedule work.member
    pub under : (c : Command) → w.driver.command ≡ Some c → removes_members c ≡ true
    pub memory : (driver_next w).memory
        ≡ stored_link w.driver.book w.memory (store_of w.driver.periodic.list.list w.driver.periodic.list.members.schedule work)

  -- ---- a store of a command

  module _ (why : IsLinkOf (driver_parts w) (driver_row (driver_parts w))) where
    n : NextWord w.driver.periodic.list why.store
    n = next_word list why.store list.work refl why.next

    led_next : led (driver_next w).driver ≡ led_in (after_store w.driver.periodic.list)
    led_next =
        ap (λ (r : DriverRow). led (after_driver_row r p).driver) why.is
        ∙ ap led_in (goes_on_list d why.command why.unfinished why.links why.late)
        ∙ next_led (removes_members why.command) (record d.periodic { list = after_store list })
        (store_in_order list frames.list.order).kept

    leaves_it : IsLeftOut w.driver.periodic.list n.work x
    leaves_it =
        ⊎_elim
        (λ (still : is_linked (led_in (after_store list)) x ≡ true).
        absurd (true≢false (sym still ∙ ap (λ (z : Schedule). is_linked z x) (sym led_next) ∙ out)))
        (λ (o : IsLeftOut list n.work x). o) (stores_keep_members list n.work x n.under_way on)

    removes : removes_members why.command ≡ true
    removes = unchains_by d d.command frames.listed.way n.work n.under_way leaves_it.removes why.command why.unfinished

    abbrev then_content : PeriodicContent
    then_content = record w.driver.periodic { list = after_store w.driver.periodic.list }

    of_link : IsLast
    of_link = record {
      work = n.work;
      leaves = leaves_it;
      cause = by_command n.under_way;
      way = way_by schedule list.work n.work n.under_way frames.list.order.member;
      begun = subst (λ (o : Option Work). StandsBy list.list schedule o (word_at m)) n.under_way frames.list.words;
      led_then = led_next ∙ led_out list n.work n.under_way leaves_it.last leaves_it.removes;
      members_then =
          ap (λ (r : DriverRow). (after_driver_row r p).driver.periodic.list.members.schedule) why.is
          ∙ ap (λ (l : Periodic). l.members.schedule) (goes_on_list d why.command why.unfinished why.links why.late)
          ∙ ap (λ (b : Bool). (begun_next b then_content).list.members.schedule) removes
          ∙ ap (λ (ms : Members). ms.schedule) (next_members then_content)
          ∙ schedule_out list n.work n.under_way leaves_it.last leaves_it.removes;
      under = λ c is. ap removes_members (same_Some c why.command (sym is ∙ why.unfinished)) ∙ removes;
      memory =
          ap (λ (r : DriverRow). (after_driver_row r p).memory) why.is
          ∙ ap (stored_link d.book m)
          (sym why.next ∙ ap (λ (o : Option Work). option_and_then (store_of list.list schedule) o) n.under_way);
    }

  -- ---- the one store that unlinks a descriptor

  module _ (t : ℕ) (is : driver_row (driver_parts w) ≡ rows.Unlink t) (y : Transfer) (there : slice_get w.driver.transfers t ≡ Some y) where
    abbrev leaving : Periodic → Type 0
    leaving r = (led (driver_next w).driver ≡ led_in (after_store r))
        × (((driver_next w).driver.periodic.list.members.schedule ≡ (after_store r).members.schedule)
        × ((driver_next w).memory ≡ stored_link w.driver.book w.memory (next_store r)))

    abbrev this : Member
    this = descriptor_member w.driver.periodic.notes y.first

    done : leaving (unlinking w.driver.periodic.list (descriptor_member w.driver.periodic.notes y.first))
    done = (
      ap (λ (r : DriverRow). led (after_driver_row r p).driver) is ∙ ap (λ (o : Option Transfer). led (after_unlink p t o).driver) there,
      (
        ap (λ (r : DriverRow). (after_driver_row r p).driver.periodic.list.members.schedule) is
            ∙ ap (λ (o : Option Transfer). (after_unlink p t o).driver.periodic.list.members.schedule) there,
        ap (λ (r : DriverRow). (after_driver_row r p).memory) is ∙ ap (λ (o : Option Transfer). (after_unlink p t o).memory) there,
      ),
    )

    unlink_due : IsUnlinkDue (driver_parts w) t
    unlink_due = subst (IsDue p) is row_of

    none_begun : w.driver.periodic.list.work ≡ None
    none_begun = (subst (IsUnderWay d) unlink_due.idle frames.listed.way).work

    of_removing : (c : Descriptor) → Once c ≡ descriptor_member w.driver.periodic.notes y.first → c.frame < 1024
        → may_unlink w.driver.periodic.list (Once c) ≡ true → leaving (unlinking w.driver.periodic.list (Once c)) → IsLast
    of_removing c own small may old =
        let r : Periodic = removing list (Once c) in
        let v : Work = begun_work (Once c) true in
        let eq : unlinking list (Once c) ≡ r = ap (λ (b : Bool). if b then removing list (Once c) else list) may in
        let after : leaving r = subst leaving eq old in
        let here : is_linked (led_in r) x ≡ true
        = ap (λ (z : Periodic). is_linked (led_in z) x) (sym eq)
        ∙ ap (λ (z : Schedule). is_linked z x) (unlinking_led list (Once c)) ∙ on in
        let gone : is_linked (led_in (after_store r)) x ≡ false = ap (λ (z : Schedule). is_linked z x) (sym after.0) ∙ out in
        let both = and_parts (is_none list.work) (is_member (Once c) && is_linked schedule (Once c)) may in
        let linked_too = (and_parts (is_member (Once c)) (is_linked schedule (Once c)) both.1).1 in
        let o : IsLeftOut r v x = ⊎_elim {C = IsLeftOut r v x}
        (λ (still : is_linked (led_in (after_store r)) x ≡ true). absurd (true≢false (sym still ∙ gone))) (λ (o : IsLeftOut r v x). o)
        (stores_keep_members r v x refl here) in
        record {
          work = v;
          leaves = record { removes = refl; last = o.last; is = o.is };
          cause = once_harvested t y unlink_due.first there own;
          way = linked_too;
          begun = remove_stands list (Once c) (word_at m) kept small linked_too none_begun frames.list.words;
          led_then = after.0 ∙ led_out r v refl o.last refl;
          members_then = after.1.0 ∙ schedule_out r v refl o.last refl;
          under = λ c is. let bad = sym unlink_due.idle ∙ is in absurd (cc);
          memory = after.1.1;
        }

    of_none : may_unlink w.driver.periodic.list (descriptor_member w.driver.periodic.notes y.first) ≡ false → ⊥
    of_none none =
        let eq : unlinking list this ≡ list = ap (λ (b : Bool). if b then removing list this else list) none in
        true≢false (sym on ∙ sym (ap (λ (z : Schedule). is_linked z x)
        (done.0 ∙ ap (λ (z : Periodic). led_in (after_store z)) eq ∙ ap (λ (o : Option Work). led_in (after_work list o)) none_begun))
        ∙ out)

    of_unlink : IsLast
    of_unlink =
        ⊎_elim {C = IsLast} (λ (may : may_unlink list this ≡ true). of_removing _ refl (frames.listed.list.frames y.first) may done)
        (λ (none : may_unlink list this ≡ false). absurd (of_none none)) (cases_Bool (may_unlink list this))

  unlinks_none : (t : ℕ) → driver_row (driver_parts w) ≡ rows.Unlink t → slice_get w.driver.transfers t ≡ None → ⊥
  unlinks_none t is there =
      true≢false (sym on ∙ sym (ap (λ (z : Schedule). is_linked z x)
      (ap (λ (r : DriverRow). led (after_driver_row r p).driver) is ∙ ap (λ (o : Option Transfer). led (after_unlink p t o).driver) there))
      ∙ out)

  unlinks_by : (t : ℕ) → driver_row (driver_parts w) ≡ rows.Unlink t → (o : Option Transfer) → slice_get w.driver.transfers t ≡ o → IsLast
  unlinks_by t is None there = absurd (unlinks_none t is there)
  unlinks_by t is (Some y) there = of_unlink t is y there

  last_by : LedThen (driver_parts w) (driver_row (driver_parts w)) → IsLast
  last_by (same is) = absurd (true≢false (sym on ∙ ap (λ (z : Schedule). is_linked z x) (sym is) ∙ out))
  last_by (a_link why) = of_link why
  last_by (an_unlink t is) = unlinks_by t is (slice_get d.transfers t) refl

  pub last_store : IsLast
  last_store = last_by (row_led p kept (driver_row p) row_of)

  -- ---- where it leads

  pub itself : x ≡ last_store.work.member
  itself =
      frames.spread.once x last_store.work.member linked last_store.way
      (ap (λ (n : ℕ). n / 32) (eqb-true (id_of x) (id_of last_store.work.member) last_store.leaves.is))

  led_after : led (driver_next w).driver ≡ without_member w.driver.periodic.list.members.schedule x
  led_after = last_store.led_then ∙ ap (without_member schedule) (sym itself)

  value_is : value_of w.driver.periodic.list.members.schedule last_store.work
      ≡ link_to (successor w.driver.periodic.list.members.schedule x (frame_of x))
  value_is =
      ap (λ (b : Bool). if b then link_to (successor schedule last_store.work.member (frame_of last_store.work.member))
      else id_of last_store.work.member) last_store.leaves.removes
      ∙ ap (λ (y : Member). link_to (successor schedule y (frame_of y))) (sym itself)

  own_by : (b : Bool)
      → list_any (is_at w.driver.periodic.list.list (address_of w.driver.periodic.list.list (After x)))
      (made_of w.driver.periodic.list.members.schedule last_store.work) ≡ b
      → (if b then value_of w.driver.periodic.list.members.schedule last_store.work
      else last_store.begun.before (address_of w.driver.periodic.list.list (After x)))
      ≡ link_to (successor w.driver.periodic.list.members.schedule x (frame_of x))
  own_by true is = value_is
  own_by false is =
      ap (λ (y : Member). last_store.begun.before (address_of list.list (After y))) itself ∙ last_store.begun.own
      ∙ ap (λ (y : Member). link_to (successor schedule y (frame_of y))) (sym itself)

  own_word : word_at w.memory (id_of x / 32 * 32) ≡ link_to (successor w.driver.periodic.list.members.schedule x (frame_of x))
  own_word =
      last_store.begun.since (id_of x / 32 * 32)
      ∙ own_by (list_any (is_at list.list (address_of list.list (After x))) (made_of schedule last_store.work)) refl

  leads_by : (o : Option Member) → successor w.driver.periodic.list.members.schedule x (frame_of x) ≡ o
      → EndsOrLeads (driver_next w).driver (link_to o)
  leads_by None is = ends refl
  leads_by (Some y) is =
      let next : IsNext schedule (frame_of x) (Some y)
      = subst (IsNext schedule (frame_of x)) is (successor_is schedule x (frame_of x) kept) in
      leads y
      (ap (λ (z : Schedule). is_linked z y) led_after
      ∙ still_linked schedule x y (successor_apart schedule x y (frame_of x) kept is) next.0) refl

  -- ---- .. and it is as before

  word_off : (word : Predecessor) → IsWordOf w.driver.periodic.list.members.schedule word → is_word word (After x) ≡ false
      → address_of 0 word / 4 ≢ 8 * (id_of x / 32)
  word_off (AtElement f) of apart at =
      ⊎_elim (λ (low : id_of x / 32 < list.list). let first = frames.listed.list.list in omega (arith, low, first))
      (λ (far : list.list + 128 ≤ id_of x / 32). omega (arith, far, of, at)) (frames.spread.apart x linked)
  word_off (After y) of apart at =
      let block : id_of y / 32 ≡ id_of x / 32 = omega (arith, at) in
      let one : y ≡ x = frames.spread.once y x of linked block in
      true≢false (sym (itself_word x) ∙ ap (λ (z : Member). is_word (After z) (After x)) (sym one) ∙ apart)

  stays_by : (o : Option Store) → store_of w.driver.periodic.list.list w.driver.periodic.list.members.schedule last_store.work ≡ o
      → link_in (stored_link w.driver.book w.memory o) (id_of x / 32) ≡ link_in w.memory (id_of x / 32)
  stays_by None is = refl
  stays_by (Some st) is =
      let r : Periodic = record list { work = Some last_store.work } in
      let n : NextWord r st = next_word r st (Some last_store.work) refl is in
      let this : x ≡ n.work.member = itself ∙ ap (λ (v : Work). v.member) (same_Some last_store.work n.work n.under_way) in
      let all = words_in schedule n.work.member kept in
      let others = subst (λ (y : Member). AllByRecursion (λ v. is_word v (After y) ≡ false) (words_of schedule n.work)) (sym this)
      (other_words schedule n.work.member) in
      let at : st.at ≡ address_of 0 n.word
      = ap (λ (z : Store). z.at) (sym n.is) ∙ ap (λ (l : ℕ). address_of l n.word) frames.listed.list.list in
      stored_off m (can_store (slot_of d.book.slots st.block) st.at) st.at st.value (id_of x / 32)
      (λ bad. word_off n.word (nth_all (IsWordOf schedule) (words_of schedule n.work) n.work.made n.word all n.here)
      (nth_all (λ v. is_word v (After x) ≡ false) (words_of schedule n.work) n.work.made n.word others n.here)
      (ap (λ (a : ℕ). a / 4) (sym at) ∙ bad))

  pub member_leads : EndsOrLeads (driver_next w).driver (link_in (driver_next w).memory (id_of x / 32))
  member_leads =
      let stays : link_in (driver_next w).memory (id_of x / 32) ≡ link_in m (id_of x / 32)
      = ap (λ (z : Mem). link_in z (id_of x / 32)) last_store.memory
      ∙ stays_by (store_of list.list schedule last_store.work) refl in
      let turned : 32 * (id_of x / 32) ≡ id_of x / 32 * 32 = omega arith in
      subst (EndsOrLeads (driver_next w).driver) (sym (stays ∙ ap (word_at m) turned ∙ own_word))
      (leads_by (successor schedule x (frame_of x)) refl)

  -- ---- and it is out of the list

  pub schedule_gone : is_linked (driver_next w).driver.periodic.list.members.schedule x ≡ false
  schedule_gone = ap (λ (z : Schedule). is_linked z x) (last_store.members_then ∙ sym last_store.led_then) ∙ out

  -- ---- the command, if one is unfinished, unlinks

  pub unlinking_now : (c : Command) → w.driver.command ≡ Some c → removes_members c ≡ true
  unlinking_now = last_store.under
