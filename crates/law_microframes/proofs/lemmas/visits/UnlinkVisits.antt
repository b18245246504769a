-- The visits go on with the store that unlinks a harvested descriptor.
use Rattle.std.proofs.Common.{◌≡◌, ℕ, ◌*◌, ◌/◌, ◌⊎◌, Bool, true, false, inl, inr, if◌then◌else◌, List, slice_get, Option, Some, None, ⊎_elim, ap, refl, sym, subst, ◌∙◌}
use Rattle.std.specs.Prelude.{◌&&◌, ◌||◌, nat_lt, is_none}
use Rattle.std.proofs.lemmas.Bool.{true≢false, and_parts, eq-eqb, eqb-true}
use Rattle.std.proofs.lemmas.Option.{same_Some}
use Rattle.law_driver.proofs.Common.{is_one}
use Rattle.word_mem.specs.Memory.{word_at}
use Rattle.drv_chains.specs.declared.members.Member.{Member}
use Rattle.drv_chains.specs.Chains.{id_of}
use Rattle.drv_members.specs.Members.{is_member, is_linked}
use Rattle.drv_periodic.specs.declared.work.Work.{Work}
use Rattle.drv_periodic.specs.Periodic.{Periodic, begun, removing, after_store}
use Rattle.drv_periodic_table.specs.Linking.{may_unlink, unlinking}
use Rattle.drv_periodic_table.specs.Periodic.{note_at, descriptor_member}
use Rattle.drv_table.specs.declared.content.Transfer.{Transfer}
use Rattle.drv_table.specs.declared.rows.DriverRow.{DriverRow}
use Rattle.drv_table.specs.declared.rows.DriverRow.TheVariants as rows
use Rattle.drv_table.specs.Removals.{after_unlink, descriptor_leaving}
use Rattle.drv_table.specs.Rows.{driver_row, after_driver_row}
use Rattle.law_driver.specs.listed_members.Members.{IsUnderWay}
use Rattle.law_driver.specs.run_owners.Due.{IsDue, IsUnlinkDue}
use Rattle.claims_base.specs.Controller.{opening_base}
use Rattle.law_driver.proofs.lemmas.run_owners.Reasons.{each_event_is_due}
use Rattle.claims_driver.specs.FrameWords.{IsInOrder, StandFor}
use Rattle.law_frame_words.proofs.lemmas.frame_words.Begins.{remove_stands}
use Rattle.law_frames.specs.Met.{Kind}
use Rattle.law_descriptors.specs.Meeting.{kind_of_descriptor}
use Rattle.claims_driver.specs.Unlinked.{led, led_in}
use Rattle.law_descriptors.specs.Growing.{IsLeftOut}
use Rattle.law_descriptors.specs.Recent.{AreRecent}
use Rattle.law_descriptors.specs.RowLaws.{HasFrames}
use Rattle.law_descriptors.specs.Staying.{also}
use Rattle.law_descriptors.proofs.ListRows.{unlinking_led}
use Rattle.law_descriptors.proofs.ListUnlinks.{name_block}
use Rattle.law_structures.specs.lent_structures.Structures.{Tells}
use Rattle.law_descriptors.proofs.RowStaying.{unlink_is_recent}
use Rattle.law_descriptors.proofs.Returning.{none_some}
use Rattle.bus_world.specs.World.{World, driver_parts, controller_parts, driver_next}
use Rattle.law_world.specs.memory.framed_memory.NowRows.{FramedUnlinked}
use Rattle.law_world.proofs.lemmas.memory.lemmas.framed_memory.Now.{now_has_frames}
use Rattle.law_world.proofs.lemmas.memory.lemmas.framed_memory.NowRows.{unlink_keeps_now}
use Rattle.law_world.specs.memory.Mixed.{Standing, IsMixedAt}
use Rattle.claims_world.specs.Visits.{begins}
use Rattle.law_microframes.specs.visits.Visited.{NewIsFirst, IsGoneOn, VisitsGoOnAt}
use Rattle.law_microframes.proofs.lemmas.visits.NewFirst.{store_first, unlinking_first}
use Rattle.law_microframes.proofs.lemmas.visits.LinkSteps.{ListStep, IsMetThere}
use Rattle.law_microframes.proofs.lemmas.visits.ListGoesOn.{store_goes_on}
use Rattle.law_microframes.proofs.lemmas.visits.OwnSteps.{stored_half}
use Rattle.law_microframes.proofs.lemmas.visits.RowVisits.{HasWay, has_way, also_met}

-- ---- it begins to leave

record Leaving (l : Periodic) (m : Member) (word : ℕ → ℕ) (p : Periodic) : Type 0 where
  list : p.list ≡ l.list
  members : p.members ≡ l.members
  order : IsInOrder p
  words : StandFor p word
  work : (x : Work) → p.work ≡ Some x → (l.work ≡ Some x) ⊎ (x ≡ begun m true)

leaving : (l : Periodic) (m : Member) (word : ℕ → ℕ) → IsInOrder l → StandFor l word → Leaving l m word (unlinking l m)
leaving l m word order stands = by (may_unlink l m) refl
  where
    idle : (o : Option Work) → is_none o ≡ true → o ≡ None
    idle None is = refl
    idle (Some x) is = absurd (cc)

    by : (b : Bool) → may_unlink l m ≡ b → Leaving l m word (if b then removing l m else l)
    by false off = record { list = refl; members = refl; order = order; words = stands; work = λ x is. inl is }
    by true on =
        let both = and_parts (is_none l.work) (is_member m && is_linked l.members.schedule m) on in
        let its = and_parts (is_member m) (is_linked l.members.schedule m) both.1 in
        record {
          list = refl;
          members = refl;
          order = record { kept = order.kept; member = (is_one m its.0, its.1) };
          words = remove_stands l m word order.kept (is_one m its.0) its.1 (idle l.work both.0) stands;
          work = λ x is. inr (sym (same_Some (begun m true) x is));
        }

module _ (s : Standing) (w : World) (k : IsMixedAt s w) (start : World) (vs : List ℕ) (v : VisitsGoOnAt s start w vs) (t : ℕ) (y : Transfer) (is : driver_row (driver_parts w) ≡ rows.Unlink t)
    (there : slice_get w.driver.transfers t ≡ Some y) where
  abbrev p : Periodic
  p = descriptor_leaving w.driver y

  abbrev m : Member
  m = descriptor_member w.driver.periodic.notes y.first

  u : FramedUnlinked opening_base s.member s.recent s.descs s.parts s.hand s.frame (controller_parts w) w.driver t y
  u = unlink_keeps_now opening_base s.member s.recent s.descs s.parts s.hand s.frame (controller_parts w) w.driver t y k.now is there

  frames : HasFrames w.memory w.driver
  frames = now_has_frames opening_base s.member s.recent s.descs s.parts s.hand s.frame (controller_parts w) w.driver k.now

  due : IsUnlinkDue (driver_parts w) t
  due = subst (IsDue (driver_parts w)) is (each_event_is_due (driver_parts w))

  none : w.driver.periodic.list.work ≡ None
  none = (subst (IsUnderWay w.driver) due.idle frames.listed.way).work

  l : Leaving w.driver.periodic.list m (word_at w.memory) (descriptor_leaving w.driver y)
  l = leaving w.driver.periodic.list m (word_at w.memory) frames.list.order frames.list.words

  way : HasWay (descriptor_leaving w.driver y)
  way = has_way (descriptor_leaving w.driver y) u.event.store (descriptor_leaving w.driver y).work refl u.event.next

  way_is : way.work ≡ begun m true
  way_is =
      ⊎_elim (λ (old : w.driver.periodic.list.work ≡ Some way.work). absurd (none_some way.work (sym none ∙ old))) (λ (new : way.work ≡ begun m true). new)
      (l.work way.work way.under)

  removes : way.work.removes ≡ true
  removes = ap (λ (x : Work). x.removes) way_is

  list_is : (driver_next w).driver.periodic.list ≡ after_store (descriptor_leaving w.driver y)
  list_is =
      ap (λ (r : DriverRow). (after_driver_row r (driver_parts w)).driver.periodic.list) is
      ∙ ap (λ (o : Option Transfer). (after_unlink (driver_parts w) t o).driver.periodic.list) there

  step : ListStep w.memory (driver_next w).memory w.driver (driver_next w).driver (descriptor_leaving w.driver y) way.work u.event.store
  step = record {
    list = l.list;
    members = l.members;
    order = l.order;
    words = l.words;
    under = way.under;
    next = u.event.next;
    before = unlinking_led w.driver.periodic.list m;
    after = ap led_in list_is;
    frames = frames;
    frames_then = subst (λ (r : DriverRow). HasFrames (after_driver_row r (driver_parts w)).memory (after_driver_row r (driver_parts w)).driver) (sym is) u.event.stored.frames;
    work = λ adds. absurd (true≢false (sym removes ∙ adds));
    same = λ x is. absurd (none_some x (sym none ∙ is));
    goes = λ x is. list_is;
    half = λ x half_is adds made. stored_half (descriptor_leaving w.driver y) way.work x way.under (sym (ap (λ (q : Periodic). q.work) list_is) ∙ half_is) adds;
  }

  abbrev kind : Kind
  kind = kind_of_descriptor (note_at w.driver.periodic.notes y.first).split

  abbrev later : ℕ → Option Kind
  later = also (32 * y.first) kind v.visits.left

  left_are : AreRecent (driver_next w).driver (driver_next w).registers.frame_index later
  left_are =
      subst (λ (r : DriverRow). AreRecent (after_driver_row r (driver_parts w)).driver (after_driver_row r (driver_parts w)).registers.frame_index later) (sym is)
      (subst (λ (o : Option Transfer). AreRecent (after_unlink (driver_parts w) t o).driver (after_unlink (driver_parts w) t o).registers.frame_index later) (sym there)
      (subst (λ (o : Option Transfer). AreRecent (after_unlink (driver_parts w) t o).driver w.registers.frame_index later) there
      (unlink_is_recent (driver_parts w) v.visits.left w.registers.frame_index t y kind there v.visits.left_are)))

  here : (n : ℕ) → n ≡ 32 * y.first → IsMetThere later n
  here n at = record { kind = kind; is = ap (λ (b : Bool). if b then Some kind else v.visits.left n) (eq-eqb n (32 * y.first) at) }

  leaves : (x : Member) → is_linked (led w.driver) x ≡ true → IsLeftOut (descriptor_leaving w.driver y) way.work x → IsMetThere later (begins x)
  leaves x on out =
      here (begins x)
      (ap (λ (i : ℕ). 32 * (i / 32)) (eqb-true (id_of x) (id_of way.work.member) out.is ∙ ap (λ (z : Work). id_of z.member) way_is)
      ∙ ap (λ (b : ℕ). 32 * b) (name_block (note_at w.driver.periodic.notes y.first) y.first))

  first_then : NewIsFirst w.driver.periodic.list → NewIsFirst (driver_next w).driver.periodic.list
  first_then old = subst NewIsFirst (sym list_is) (store_first (descriptor_leaving w.driver y) (unlinking_first w.driver.periodic.list m old))

  pub unlink_visits : IsGoneOn start w (driver_next w) vs
  unlink_visits =
      store_goes_on s w k start vs v (descriptor_leaving w.driver y) way.work u.event.store step u.event.stored.now u.event.stored.frame_later u.event.stored.stored
      (subst (λ (r : DriverRow). Tells (after_driver_row r (driver_parts w)).memory u.event.stored.now) (sym is) u.event.stored.runs.ring.tells) later left_are
      (λ n kind on. also_met (32 * y.first) n _ kind v.visits.left on) leaves first_then
      (ap (λ (b : Bool). b || nat_lt 0 way.work.made) removes)
