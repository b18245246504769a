-- The visits go on with a store of the frame list: where a member comes by it, and where it goes on or leaves.
use Rattle.std.proofs.Common.{◌≡◌, ◌≢◌, ℕ, ◌+◌, ◌*◌, ◌<◌, ◌⊎◌, inl, inr, Bool, true, false, List, [], ◌∷◌, Option, Some, None, ⊎_elim, ap, refl, sym, subst, ◌∙◌, arith}
use Rattle.std.specs.List.{AllByRecursion}
use Rattle.std.specs.Prelude.{◌||◌, nat_lt, if◌then◌else◌}
use Rattle.std.proofs.lemmas.Bool.{false≢true, ne_eqb, eq-eqb, cases_eq}
use Rattle.drv_chains.specs.declared.members.Descriptor.{Descriptor}
use Rattle.drv_chains.specs.declared.members.QueueHead.{QueueHead}
use Rattle.drv_chains.specs.declared.members.Member.{Member}
use Rattle.drv_chains.specs.declared.members.Member.TheVariants.{Once, Each}
use Rattle.drv_chains.specs.declared.members.Predecessor.TheVariants.{Element}
use Rattle.drv_chains.specs.Chains.{Schedule, stands_in}
use Rattle.drv_chains.proofs.Linking.{weaken}
use Rattle.drv_members.specs.Members.{Members, is_linked}
use Rattle.drv_periodic.specs.declared.work.Work.{Work}
use Rattle.drv_periodic.specs.declared.work.Store.{Store}
use Rattle.drv_periodic.specs.Periodic.{Periodic, address_of, after_store}
use Rattle.drv_table.specs.DriverContent.{DriverContent}
use Rattle.drv_table.specs.Rows.{driver_row}
use Rattle.claims_driver.specs.FrameWords.{HasMember}
use Rattle.link_words.specs.Links.{link_read}
use Rattle.claims_base.specs.Controller.{opening_base}
use Rattle.qh_qtd.specs.declared.queue_head.Qh.{Qh}
use Rattle.law_structures.specs.lent_structures.Structures.{QueueHead as QueueHeadAt, StructureSets, Tells}
use Rattle.drv_periodic_table.specs.Periodic.{PeriodicContent}
use Rattle.law_frames.specs.Met.{Kind, IsMetAs}
use Rattle.law_frames.specs.FrameHand.{FrameHand}
use Rattle.law_descriptors.specs.Both.{both}
use Rattle.claims_driver.specs.Unlinked.{is_led, led, led_in}
use Rattle.law_descriptors.specs.Meeting.{kind_of, standing, or_recent, met}
use Rattle.law_descriptors.specs.Growing.{IsLeftOut}
use Rattle.law_descriptors.specs.Recent.{AreRecent}
use Rattle.law_descriptors.specs.ListRows.{HasPart, IsStoredIn}
use Rattle.law_descriptors.proofs.Finding.{IsMemberAt}
use Rattle.law_descriptors.proofs.Growing.{stores_keep_members}
use Rattle.law_descriptors.proofs.Returning.{none_some}
use Rattle.bus_world.specs.World.{World, controller_parts, driver_parts, driver_next}
use Rattle.law_world.specs.memory.Mixed.{Standing, IsMixedAt}
use Rattle.law_world.proofs.lemmas.memory.lemmas.framed_memory.Now.{begins_there}
use Rattle.law_microframes.specs.visits.Ranks.{name_of, next_of}
use Rattle.claims_world.specs.Visits.{IsInChain, begins, frame_in, HasVisited}
use Rattle.law_microframes.specs.visits.Belonging.{IsQueueAt, IsStillAt}
use Rattle.law_microframes.specs.visits.Visited.{link_ahead, IsNext, WasVisited, IsActiveAs, IsFramedAs, IsFirstIn, NewIsFirst, GoesAhead, IsToCome, LeavesNoneOut, LinksNot, GoesBack, VisitsGoOn, IsGoneOn, VisitsGoOnAt}
use Rattle.law_microframes.proofs.lemmas.visits.DriverGoesOn.{IsListSpread, IsMetStill, linked_stands, member_stands, met_still, standing_is_met, left_is_met, visited_still, active_still, were_active_still, were_framed_still}
use Rattle.law_microframes.proofs.lemmas.visits.InFrames.{linked_active, row_back}
use Rattle.law_microframes.proofs.lemmas.visits.LinkSteps.{ListStep, IsMetThere, its as its_way, all_led, name_kept, then_name, name_is_kept, name_away, same_ranked, first_ranked, still_kept, old_height, old_who, kept_then, height_then, who_then}
use Rattle.law_microframes.specs.visits.OneDescriptor.{IsActiveDescriptor, IsAloneAs}
use Rattle.law_microframes.proofs.lemmas.visits.ActiveBefore.{driver_before, part_before, driver_no_queue}
use Rattle.law_microframes.proofs.lemmas.visits.ActiveStands.{scheduled_is_alone, part_is_lent}
use Rattle.law_microframes.proofs.lemmas.visits.FramedThere.{driver_framed, lent_stays_framed, linked_framed}
use Rattle.law_microframes.proofs.lemmas.visits.OneDescriptor.{lent_framed}
use Rattle.law_microframes.proofs.lemmas.visits.AheadStores.{IsQueue, is_queue, ahead_then, still_ahead, either_ahead, closed_then}
use Rattle.law_microframes.proofs.lemmas.visits.ToldLinks.{HasOwn, own_met, own_part, table_apart, other_links, link_here}
use Rattle.law_microframes.proofs.lemmas.visits.NoneLeftStores.{stood, spared, way_spliced, way_back}

-- a queue head is there
record IsHeadAt (parts : StructureSets) (n : ℕ) : Type 0 where
  head : Qh
  here : parts n n ≡ Some (QueueHeadAt head)

no_queue : (x : Descriptor) (q : QueueHead) → Once x ≡ Each q → ⊥
no_queue x q same = cc

head_part : (q : PeriodicContent) (parts : StructureSets) (n : ℕ) (x : Member) → HasPart n (parts n) (kind_of q x) → (r : QueueHead) → x ≡ Each r → IsHeadAt parts n
head_part q parts n (Each x) part r same = record { head = part.part_is.queue; here = part.part_is.here }
head_part q parts n (Once x) part r same = absurd (no_queue x r same)

head_met : (met : ℕ → Option Kind) (q : PeriodicContent) (parts : StructureSets) (n : ℕ) (x : Member) → IsMetAs met n (parts n) (kind_of q x) → (r : QueueHead) → x ≡ Each r → IsHeadAt parts n
head_met met q parts n (Each x) part r same = record { head = part.part_is.queue; here = part.part_is.here }
head_met met q parts n (Once x) part r same = absurd (no_queue x r same)

module _ (s : Standing) (w : World) (k : IsMixedAt s w) (start : World) (vs : List ℕ) (v : VisitsGoOnAt s start w vs) (p : Periodic) (way : Work) (st : Store)
    (step : ListStep w.memory (driver_next w).memory w.driver (driver_next w).driver p way st) (now : StructureSets) (frame_later : FrameHand)
    (stored : IsStoredIn opening_base (both s.descs s.parts) s.frame st.at st.value now frame_later) (after : Tells (driver_next w).memory now) (later : ℕ → Option Kind)
    (left_are : AreRecent (driver_next w).driver (driver_next w).registers.frame_index later) (gone : (n : ℕ) (kind : Kind) → v.visits.left n ≡ Some kind → IsMetThere later n)
    (out : (x : Member) → is_linked (led w.driver) x ≡ true → IsLeftOut p way x → IsMetThere later (begins x))
    (first_then : NewIsFirst w.driver.periodic.list → NewIsFirst (driver_next w).driver.periodic.list) where
  abbrev d : DriverContent
  d = w.driver

  abbrev new : DriverContent
  new = (driver_next w).driver

  abbrev kept : ℕ → Bool
  kept = v.visits.kept

  abbrev frame : ℕ
  frame = frame_in w.control.frame.index

  abbrev parts : StructureSets
  parts = both s.descs s.parts

  told : Tells w.memory (both s.descs s.parts)
  told = k.now.framed.runs.ring.tells

  own_kept : (n : ℕ) → v.visits.kept n ≡ true → HasOwn (both s.descs s.parts) n
  own_kept n on = let there = v.within n on in own_met (met w.driver s.recent) (both s.descs s.parts) n there.0 (k.now.framed.runs.members n there.0 there.1)

  links : (n : ℕ) → v.visits.kept n ≡ true → n ≢ st.at → next_of (driver_next w).memory n ≡ next_of w.memory n
  links n on differs = other_links w.memory (driver_next w).memory (both s.descs s.parts) now opening_base s.frame frame_later st.at st.value stored told after n (own_kept n on) differs

  here : v.visits.kept st.at ≡ true → next_of (driver_next w).memory st.at ≡ name_of (link_read st.value)
  here on = link_here w.memory (driver_next w).memory (both s.descs s.parts) now opening_base s.frame frame_later st.at st.value stored told after (own_kept st.at on)

  in_list : (n i : ℕ) → HasOwn (both s.descs s.parts) n → i < 1024 → n ≡ address_of p.list (Element i) → ⊥
  in_list n i own low at =
      table_apart w.memory (both s.descs s.parts) opening_base n i told k.now.framed.runs.list own low
      (at ∙ ap (λ (l : ℕ). 32 * l + 4 * i) step.list
      ∙ ap (λ (b : ℕ). b + 4 * i) (sym (begins_there opening_base s.member s.recent s.descs s.parts s.hand s.frame (controller_parts w) w.driver k.now)))

  beside : (i : ℕ) → i < 1024 → st.at ≡ address_of p.list (Element i) → v.visits.kept st.at ≡ true → ⊥
  beside i low at on = in_list st.at i (own_kept st.at on) low at

  -- ---- what was visited is met still

  new_spread : IsListSpread (driver_next w).driver
  new_spread = step.frames_then.spread

  stood_on : (n : ℕ) (kind : Kind) → standing w.driver n ≡ Some kind → IsMetStill (driver_next w).driver later n
  stood_on n kind is =
      let x : IsMemberAt (led w.driver) n = member_stands w.driver n kind is in
      ⊎_elim
      (λ (still : is_linked (led_in (after_store p)) x.member ≡ true).
      standing_is_met (driver_next w).driver later n
      (record {
        kind = kind_of (driver_next w).driver.periodic x.member;
        is = ap (standing (driver_next w).driver) (sym x.begins)
            ∙ linked_stands (driver_next w).driver x.member new_spread (ap (λ (t : Schedule). is_linked t x.member) step.after ∙ still);
      }))
      (λ (left : IsLeftOut p way x.member).
      let there : IsMetThere later n = subst (IsMetThere later) x.begins (out x.member x.linked left) in
      left_is_met (driver_next w).driver later n there.kind there.is)
      (stores_keep_members p way x.member step.under (ap (λ (t : Schedule). is_linked t x.member) step.before ∙ x.linked))

  met_on : (n : ℕ) (kind : Kind) → met w.driver v.visits.left n ≡ Some kind → IsMetStill (driver_next w).driver later n
  met_on n kind is =
      met_still w.driver (driver_next w).driver v.visits.left later n kind is (stood_on n)
      (λ kind gone_is. let there : IsMetThere later n = gone n kind gone_is in left_is_met (driver_next w).driver later n there.kind there.is)

  -- ---- whose queue head it is

  placed_back : (n : ℕ) (b : IsQueueAt (driver_next w).driver n) → IsStillAt b w.driver
  placed_back n b = row_back (driver_row (driver_parts w)) (driver_parts w) k.now.planned n b

  -- ---- to which the walk may go on

  module _ (own_link : next_of (driver_next w).memory (begins way.member) ≡ next_of w.memory (begins way.member))
      (queue : (q : QueueHead) → way.member ≡ Each q → IsHeadAt (both s.descs s.parts) (begins way.member)) where
    abbrev ahead : ℕ → Bool
    ahead =
        ahead_then w.memory (driver_next w).memory w.driver (driver_next w).driver p way st step v.visits.kept v.visits.goes.ahead v.visits.goes.are_kept v.visits.goes.closed links here own_link

    new_first : way.removes ≡ false → IsFirstIn p.members.schedule way.member
    new_first adds = subst (λ (ms : Members). IsFirstIn ms.schedule way.member) (sym step.members) (v.visits.goes.first way (step.work adds) adds)

    its_queue : way.removes ≡ false → v.visits.goes.ahead st.at ≡ true → IsQueue way.member
    its_queue adds on =
        is_queue w.memory (driver_next w).memory w.driver (driver_next w).driver p way st step (new_first adds) (λ i low at. beside i low at (v.visits.goes.are_kept st.at on))

    none_new : (e f : ℕ) → way.removes ≡ false → v.visits.goes.ahead st.at ≡ true → IsActiveDescriptor (driver_next w).driver (driver_next w).memory e f (begins way.member) → ⊥
    none_new e f adds on active =
        let q : IsQueue way.member = its_queue adds on in
        let h : IsHeadAt (both s.descs s.parts) (begins way.member) = queue q.queue q.is in
        driver_no_queue s w k e f (begins way.member) h.head h.here active

    old_then : (e f n : ℕ) → ahead n ≡ true → IsActiveDescriptor (driver_next w).driver (driver_next w).memory e f n → IsActiveDescriptor start.driver start.memory e f n
    old_then e f n on active =
        ⊎_elim (λ (old : v.visits.goes.ahead n ≡ true).
        let there = v.within n (v.visits.goes.are_kept n old) in
        v.visits.goes.old e f n old (driver_before s w k e f n there.0 there.1 active))
        (λ (it : (n ≡ begins way.member) × ((way.removes ≡ false) × (v.visits.goes.ahead st.at ≡ true))).
        absurd (none_new e f it.1.0 it.1.1 (subst (λ (i : ℕ). IsActiveDescriptor (driver_next w).driver (driver_next w).memory e f i) it.0 active)))
        (either_ahead w.memory (driver_next w).memory w.driver (driver_next w).driver p way st step v.visits.kept v.visits.goes.ahead v.visits.goes.are_kept v.visits.goes.closed links here own_link n on)

    goes_ahead : (kept_on : ℕ → Bool) → ((n : ℕ) → v.visits.kept n ≡ true → kept_on n ≡ true) → (way.removes ≡ false → kept_on (begins way.member) ≡ true) → GoesAhead start (driver_next w) kept_on
    goes_ahead kept_on keeps name_kept = record {
      ahead = ahead;
      are_kept = λ n on.
          ⊎_elim (λ (old : v.visits.goes.ahead n ≡ true). keeps n (v.visits.goes.are_kept n old))
          (λ (it : (n ≡ begins way.member) × ((way.removes ≡ false) × (v.visits.goes.ahead st.at ≡ true))). subst (λ (i : ℕ). kept_on i ≡ true) (sym it.0) (name_kept it.1.0))
          (either_ahead w.memory (driver_next w).memory w.driver (driver_next w).driver p way st step v.visits.kept v.visits.goes.ahead v.visits.goes.are_kept v.visits.goes.closed links here own_link n on);
      closed = closed_then w.memory (driver_next w).memory w.driver (driver_next w).driver p way st step v.visits.kept v.visits.goes.ahead v.visits.goes.are_kept v.visits.goes.closed links here own_link;
      next = λ j part is.
          still_ahead w.memory (driver_next w).memory w.driver (driver_next w).driver p way st step v.visits.kept v.visits.goes.ahead v.visits.goes.are_kept v.visits.goes.closed links here own_link j
          (v.visits.goes.next j part is);
      first = first_then v.visits.goes.first;
      old = old_then;
    }

  -- ---- what is active stands in its frame alone

  alone_still : (n : ℕ) → v.visits.kept n ≡ true → IsAloneAs (driver_next w).driver (driver_next w).memory n (v.visits.who n)
  alone_still n on e f g a stands = let there = v.within n on in v.visits.alone n on e f g (driver_before s w k e f n there.0 there.1 a) stands

  framed_on : (n : ℕ) → v.visits.kept n ≡ true → IsFramedAs (driver_next w).driver n (v.visits.who n)
  framed_on n on = let there = v.left_within n on in driver_framed s w k v.visits.left n there.0 (v.visits.who n) v.visits.left_are there.1
      (v.visits.framed n on)

  -- ---- none is left out

  frame_low : frame_in w.control.frame.index < 1024
  frame_low = omega arith

  none_stored : next_of (driver_next w).memory (begins way.member) ≡ next_of w.memory (begins way.member)
      → ((n : ℕ) → IsInChain start (frame_in w.control.frame.index) n → (n ≢ begins way.member) ⊎ (is_led way ≡ true))
      → LeavesNoneOut start (driver_next w).memory (driver_next w).driver w.control later vs
  none_stored own_link known = record {
    were_met = λ n led.
        (let there = v.visits.none.were_met n led in
        let still : IsMetStill (driver_next w).driver later n = met_on n there.0 there.1 in
        (still.kind, still.is));
    each = λ n led stands.
        ⊎_elim {C = HasVisited n vs ⊎ IsToCome (driver_next w).memory w.control n} (λ (seen : HasVisited n vs). inl seen)
        (λ (t : IsToCome w.memory w.control n).
        inr (record {
          periodic = t.periodic;
          leads = way_spliced w.memory (driver_next w).memory w.driver
              (driver_next w).driver p way st step v.visits.kept v.visits.height v.visits.who v.visits.ranked links here beside own_link
              frame n
              frame_low (spared w.memory (driver_next w).memory w.driver (driver_next w).driver p way st step frame n stands)
              (name_of (link_ahead w.control.frame.hand w.control.frame.cursor))
              (λ a is. (let next = v.visits.behind.next a t.periodic is in (next.is_kept, next.stands))) t.leads;
        })) (v.visits.none.each n led
        (stood w.memory (driver_next w).memory w.driver (driver_next w).driver p way st step frame n (known n led) stands));
  }

  -- ---- and back

  removal_is_led : way.removes ≡ true → is_led way ≡ true
  removal_is_led removes = ap (λ (b : Bool). b || nat_lt 0 way.made) removes

  store_back : next_of (driver_next w).memory (begins way.member) ≡ next_of w.memory (begins way.member) → GoesBack w (driver_next w)
  store_back own_link = record {
    came = λ n off t. record {
      periodic = t.periodic;
      leads = way_back w.memory (driver_next w).memory w.driver (driver_next w).driver p way st step v.visits.kept v.visits.height
          v.visits.who v.visits.ranked links here own_link frame n frame_low (λ adds. off way (step.work adds) adds)
          (name_of (link_ahead w.control.frame.hand w.control.frame.cursor))
          (λ a is. (let next = v.visits.behind.next a t.periodic is in (next.is_kept, next.stands))) t.leads;
    };
    stood = λ n off stands.
        stood w.memory (driver_next w).memory w.driver (driver_next w).driver p way st step frame n (known n off way.removes refl) stands;
  }
    where
      known : (n : ℕ) → LinksNot w n → (b : Bool) → way.removes ≡ b → (n ≢ begins way.member) ⊎ (is_led way ≡ true)
      known n off false adds = inl (off way (step.work adds) adds)
      known n off true removes = inr (removal_is_led removes)

  -- ---- a member goes on to be linked, or leaves

  head_on : is_led way ≡ true → (q : QueueHead) → way.member ≡ Each q → IsHeadAt (both s.descs s.parts) (begins way.member)
  head_on on =
      let linked : is_linked (led w.driver) way.member ≡ true
      = ap (λ (t : Schedule). is_linked t way.member) (all_led w.memory (driver_next w).memory w.driver (driver_next w).driver p way st step on)
      ∙ (its_way w.memory (driver_next w).memory w.driver (driver_next w).driver p way st step).1 in
      head_met (met w.driver s.recent) w.driver.periodic (both s.descs s.parts) (begins way.member) way.member
      (k.now.framed.runs.members (begins way.member) (kind_of w.driver.periodic way.member)
      (ap (λ (o : Option Kind). or_recent o (s.recent (begins way.member))) (linked_stands w.driver way.member step.frames.spread linked)))

  store_visits : is_led way ≡ true → VisitsGoOn start (driver_next w) vs
  store_visits on = record {
    left = later;
    left_are = left_are;
    kept = v.visits.kept;
    height = v.visits.height;
    who = v.visits.who;
    ranked = same_ranked w.memory (driver_next w).memory w.driver (driver_next w).driver p way st step v.visits.kept v.visits.height v.visits.who v.visits.ranked links here beside on;
    behind = record {
      once = v.visits.behind.once;
      were = weaken (WasVisited w.driver v.visits.left v.visits.who frame) (WasVisited (driver_next w).driver later v.visits.who frame)
          (λ x was. visited_still w.driver (driver_next w).driver v.visits.left later v.visits.who frame x (met_on x) was) vs v.visits.behind.were;
      next = v.visits.behind.next;
    };
    active = λ n on. active_still w.driver (driver_next w).driver n (v.visits.who n) (placed_back n) (v.visits.active n on);
    were_active = were_active_still w.driver (driver_next w).driver v.visits.left v.visits.who frame vs (λ n was. placed_back n) v.visits.behind.were v.visits.were_active;
    goes = goes_ahead
        (then_name w.memory (driver_next w).memory w.driver (driver_next w).driver p way st step v.visits.kept v.visits.height v.visits.who v.visits.ranked links here beside on) (head_on on) v.visits.kept
        (λ n there. there)
        (λ adds. name_kept w.memory (driver_next w).memory w.driver (driver_next w).driver p way st step v.visits.kept v.visits.height v.visits.who v.visits.ranked links here beside on);
    alone = alone_still;
    none = none_stored
        (then_name w.memory (driver_next w).memory w.driver
        (driver_next w).driver p way st step v.visits.kept v.visits.height v.visits.who v.visits.ranked links here beside on)
        (λ n led. inr on);
    framed = λ n on. framed_on n on;
    were_framed = were_framed_still w.driver (driver_next w).driver v.visits.left v.visits.who frame vs
        (λ n kind is. driver_framed s w k v.visits.left n kind (v.visits.who n) v.visits.left_are is) v.visits.behind.were
        v.visits.were_framed;
  }

  pub store_goes_on : is_led way ≡ true → IsGoneOn start w (driver_next w) vs
  store_goes_on on = record {
    visits = store_visits on;
    back = store_back
        (then_name w.memory (driver_next w).memory w.driver (driver_next w).driver p way st step v.visits.kept v.visits.height v.visits.who
        v.visits.ranked links here beside on);
  }

  -- ---- a member comes

  module _ (adds : way.removes ≡ false) (zero_made : way.made ≡ 0) (part : HasPart (begins way.member) (both s.descs s.parts (begins way.member)) (kind_of w.driver.periodic way.member)) (unmet : met w.driver s.recent (begins way.member) ≡ None)
      (unvisited : met w.driver v.visits.left (begins way.member) ≡ None) where
    abbrev name : ℕ
    name = begins way.member

    own : HasOwn (both s.descs s.parts) (begins way.member)
    own = own_part (both s.descs s.parts) (begins way.member) (kind_of w.driver.periodic way.member) part

    fresh_by : (b : Bool) → v.visits.kept (begins way.member) ≡ b → b ≡ false
    fresh_by false is = refl
    fresh_by true is = let there = v.within (begins way.member) is in absurd (none_some there.0 (sym unmet ∙ there.1))

    fresh : v.visits.kept (begins way.member) ≡ false
    fresh = fresh_by (v.visits.kept (begins way.member)) refl

    away : begins way.member ≢ st.at
    away same =
        name_away w.memory (driver_next w).memory w.driver (driver_next w).driver p way st step (λ i low at. in_list (begins way.member) i own low (same ∙ at)) same

    own_link : next_of (driver_next w).memory (begins way.member) ≡ next_of w.memory (begins way.member)
    own_link = other_links w.memory (driver_next w).memory (both s.descs s.parts) now opening_base s.frame frame_later st.at st.value stored told after (begins way.member) own away

    other_visited : (x : ℕ) → WasVisited w.driver v.visits.left v.visits.who frame x → x ≢ begins way.member
    other_visited x was same = none_some was.kind (sym unvisited ∙ ap (met w.driver v.visits.left) (sym same) ∙ was.is_met)

    other_kept : (x : ℕ) → v.visits.kept x ≡ true → x ≢ begins way.member
    other_kept x on same = false≢true (sym fresh ∙ ap v.visits.kept (sym same) ∙ on)

    abbrev kept_on : ℕ → Bool
    kept_on =
        kept_then w.memory (driver_next w).memory w.driver (driver_next w).driver p way st step v.visits.kept v.visits.height v.visits.who v.visits.ranked links here beside adds zero_made fresh own_link

    abbrev height_on : ℕ → ℕ
    height_on =
        height_then w.memory (driver_next w).memory w.driver (driver_next w).driver p way st step v.visits.kept v.visits.height v.visits.who v.visits.ranked links here beside adds zero_made fresh own_link

    abbrev who_on : ℕ → Member
    who_on =
        who_then w.memory (driver_next w).memory w.driver (driver_next w).driver p way st step v.visits.kept v.visits.height v.visits.who v.visits.ranked links here beside adds zero_made fresh own_link

    keeps : (n : ℕ) → v.visits.kept n ≡ true → kept_on n ≡ true
    keeps =
        still_kept w.memory (driver_next w).memory w.driver (driver_next w).driver p way st step v.visits.kept v.visits.height v.visits.who v.visits.ranked links here beside adds zero_made fresh own_link

    heights : (n : ℕ) → n ≢ begins way.member → height_on n ≡ 2 * v.visits.height n
    heights =
        old_height w.memory (driver_next w).memory w.driver (driver_next w).driver p way st step v.visits.kept v.visits.height v.visits.who v.visits.ranked links here beside adds zero_made fresh own_link

    whos : (n : ℕ) → n ≢ begins way.member → who_on n ≡ v.visits.who n
    whos =
        old_who w.memory (driver_next w).memory w.driver (driver_next w).driver p way st step v.visits.kept v.visits.height v.visits.who v.visits.ranked links here beside adds zero_made fresh own_link

    below_on : (j : ℕ) (us : List ℕ) → v.visits.kept j ≡ true → AllByRecursion (WasVisited w.driver v.visits.left v.visits.who frame) us → AllByRecursion (λ x. v.visits.height j < v.visits.height x) us
        → AllByRecursion (λ x. height_on j < height_on x) us
    below_on j [] on were below = tt
    below_on j (x ∷ xs) on were below =
        (twice (height_on j) (height_on x) (v.visits.height j) (v.visits.height x) (heights j (other_kept j on)) (heights x (other_visited x were.0)) below.0, below_on j xs on were.1 below.1)
      where
        twice : (a b c e : ℕ) → a ≡ 2 * c → b ≡ 2 * e → c < e → a < b
        twice a b c e one two less = omega (arith, one, two, less)

    visited_on : (x : ℕ) → WasVisited w.driver v.visits.left v.visits.who frame x → WasVisited (driver_next w).driver later who_on frame x
    visited_on x was =
        let still : IsMetStill (driver_next w).driver later x = met_on x was.kind was.is_met in
        let same : who_on x ≡ v.visits.who x = whos x (other_visited x was) in
        record { kind = still.kind; is_met = still.is; named = ap begins same ∙ was.named; stands = ap (stands_in frame) same ∙ was.stands }

    -- the new member is that of its endpoint
    its : is_linked w.driver.periodic.list.members.schedule way.member ≡ true
    its = ap (λ (ms : Members). is_linked ms.schedule way.member) (sym step.members) ∙ (subst (HasMember p.members.schedule) step.under step.order.member).1

    name_active : IsActiveAs (driver_next w).driver (begins way.member) way.member
    name_active =
        active_still w.driver (driver_next w).driver (begins way.member) way.member (placed_back (begins way.member))
        (linked_active w.driver k.now.framed.place.sound.owners k.now.framed.place.sound.listed (begins way.member) way.member its refl)

    other_active : (n : ℕ) → n ≢ begins way.member → IsActiveAs w.driver n (v.visits.who n) → IsActiveAs (driver_next w).driver n (who_on n)
    other_active n other active =
        subst (IsActiveAs (driver_next w).driver n) (sym (whos n other)) (active_still w.driver (driver_next w).driver n (v.visits.who n) (placed_back n) active)

    was_kept : (n : ℕ) → n ≢ begins way.member → kept_on n ≡ true → v.visits.kept n ≡ true
    was_kept n other on = sym (ap (λ (b : Bool). b || v.visits.kept n) (ne_eqb n (begins way.member) other)) ∙ on

    new_who : who_on (begins way.member) ≡ way.member
    new_who = ap (λ (b : Bool). if b then way.member else v.visits.who (begins way.member)) (eq-eqb (begins way.member) (begins way.member) refl)

    active_on : (n : ℕ) → kept_on n ≡ true → IsActiveAs (driver_next w).driver n (who_on n)
    active_on n on =
        ⊎_elim (λ (same : n ≡ begins way.member).
        subst (λ (i : ℕ). IsActiveAs (driver_next w).driver i (who_on i)) (sym same) (subst (IsActiveAs (driver_next w).driver (begins way.member)) (sym new_who) name_active))
        (λ (differs : n ≢ begins way.member). other_active n differs (v.visits.active n (was_kept n differs on))) (cases_eq n (begins way.member))

    name_alone : IsAloneAs (driver_next w).driver (driver_next w).memory (begins way.member) way.member
    name_alone e f g a stands = scheduled_is_alone s w way.member k its e f g (part_before s w k e f (begins way.member) (kind_of w.driver.periodic way.member) part a) stands

    alone_on : (n : ℕ) → kept_on n ≡ true → IsAloneAs (driver_next w).driver (driver_next w).memory n (who_on n)
    alone_on n on =
        ⊎_elim {C = IsAloneAs (driver_next w).driver (driver_next w).memory n (who_on n)} (λ (same : n ≡ begins way.member).
        subst (λ (i : ℕ). IsAloneAs (driver_next w).driver (driver_next w).memory i (who_on i)) (sym same)
        (subst (IsAloneAs (driver_next w).driver (driver_next w).memory (begins way.member)) (sym new_who) name_alone))
        (λ (differs : n ≢ begins way.member).
        subst (IsAloneAs (driver_next w).driver (driver_next w).memory n) (sym (whos n differs)) (alone_still n (was_kept n differs on))) (cases_eq n (begins way.member))

    were_active_on : (us : List ℕ) → AllByRecursion (WasVisited w.driver v.visits.left v.visits.who frame) us → AllByRecursion (λ x. IsActiveAs w.driver x (v.visits.who x)) us
        → AllByRecursion (λ x. IsActiveAs (driver_next w).driver x (who_on x)) us
    were_active_on [] were all = tt
    were_active_on (x ∷ xs) were all = (other_active x (other_visited x were.0) all.0, were_active_on xs were.1 all.1)

    name_framed : IsFramedAs (driver_next w).driver (begins way.member) way.member
    name_framed =
        lent_stays_framed s w k (begins way.member) way.member
        (λ t y there sort held at.
        lent_framed w.driver w.memory t y k.awaiting there
        (part_is_lent s w (begins way.member) t y k there sort held at (kind_of w.driver.periodic way.member) part))
        (linked_framed w.driver k.now.framed.place.sound.owners k.now.framed.place.sound.listed (begins way.member) way.member its refl)

    framed_then : (n : ℕ) → kept_on n ≡ true → IsFramedAs (driver_next w).driver n (who_on n)
    framed_then n on =
        ⊎_elim {C = IsFramedAs (driver_next w).driver n (who_on n)} (λ (same : n ≡ begins way.member).
        subst (λ (i : ℕ). IsFramedAs (driver_next w).driver i (who_on i)) (sym same)
        (subst (IsFramedAs (driver_next w).driver (begins way.member)) (sym new_who) name_framed))
        (λ (differs : n ≢ begins way.member). subst (IsFramedAs (driver_next w).driver n) (sym (whos n differs))
        (framed_on n (was_kept n differs on))) (cases_eq n (begins way.member))

    were_framed_on : (us : List ℕ) → AllByRecursion (WasVisited w.driver v.visits.left v.visits.who frame) us
        → AllByRecursion (λ x. IsFramedAs w.driver x (v.visits.who x)) us
        → AllByRecursion (λ x. IsFramedAs (driver_next w).driver x (who_on x)) us
    were_framed_on [] were all = tt
    were_framed_on (x ∷ xs) were all = (
      subst (IsFramedAs (driver_next w).driver x) (sym (whos x (other_visited x were.0)))
          (driver_framed s w k v.visits.left x were.0.kind (v.visits.who x) v.visits.left_are were.0.is_met all.0),
      were_framed_on xs were.1 all.1,
    )

    member_visits : VisitsGoOn start (driver_next w) vs
    member_visits = record {
      left = later;
      left_are = left_are;
      kept = kept_on;
      height = height_on;
      who = who_on;
      ranked = first_ranked w.memory (driver_next w).memory w.driver (driver_next w).driver p way st step v.visits.kept v.visits.height v.visits.who v.visits.ranked links here beside adds zero_made fresh own_link;
      behind = record {
        once = v.visits.behind.once;
        were = weaken (WasVisited w.driver v.visits.left v.visits.who frame) (WasVisited (driver_next w).driver later who_on frame) visited_on vs v.visits.behind.were;
        next = λ j part is.
            (let n : IsNext v.visits.kept v.visits.height v.visits.who frame vs j = v.visits.behind.next j part is in
            record {
              is_kept = keeps j n.is_kept;
              stands = ap (stands_in frame) (whos j (other_kept j n.is_kept)) ∙ n.stands;
              below = below_on j vs n.is_kept v.visits.behind.were n.below;
            });
      };
      active = active_on;
      were_active = were_active_on vs v.visits.behind.were v.visits.were_active;
      goes = goes_ahead own_link (head_part w.driver.periodic (both s.descs s.parts) (begins way.member) way.member part) kept_on keeps
          (λ adds. name_is_kept w.memory (driver_next w).memory w.driver (driver_next w).driver p way st step v.visits.kept v.visits.height v.visits.who v.visits.ranked links here beside adds zero_made fresh own_link);
      alone = alone_on;
      framed = framed_then;
      were_framed = were_framed_on vs v.visits.behind.were v.visits.were_framed;
      none = none_stored own_link
          (λ n led. inl (λ same.
          (let there = v.visits.none.were_met n led in none_some there.0
          (sym unvisited ∙ ap (met w.driver v.visits.left) (sym same) ∙ there.1))));
    }

    pub member_comes : IsGoneOn start w (driver_next w) vs
    member_comes = record { visits = member_visits; back = store_back own_link }
