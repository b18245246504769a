-- Which descriptors an event of the driver puts into the frame list: the first of those that its command still has to link.
use Rattle.std.proofs.Common.{◌≡◌, ℕ, suc, Bool, true, false, not, ◌&&◌, nat_lt, if◌then◌else◌, List, [], ◌∷◌, length, slice_get}
use Rattle.std.proofs.Common.{is_none, Option, Some, None, ap, refl, sym, ◌∙◌, ⊎_elim, inl, inr, take, drop, ◌⊎◌}
use Rattle.std.proofs.lemmas.Bool.{and_parts, eqb-true}
use Rattle.law_world.proofs.Common2.{done_none}
use Rattle.law_common.proofs.Booleans.{not_on, either_if}
use Rattle.law_frame_list.proofs.Common.{frames_first}
use Rattle.mem_runs.specs.Book.{holding, lend_taken}
use Rattle.drv_chains.specs.declared.members.Descriptor.{Descriptor}
use Rattle.drv_chains.specs.declared.members.Member.{Member}
use Rattle.drv_chains.specs.declared.members.Member.TheVariants.{Once}
use Rattle.drv_chains.specs.Chains.{Schedule, id_of, has_name, is_the}
use Rattle.drv_members.specs.Members.{IsKept, is_member, Members, is_linked, takes, has_room, with_member}
use Rattle.drv_periodic.specs.declared.work.Work.{Work}
use Rattle.drv_periodic.specs.Periodic.{Periodic, after_store, after_work, inserting, removing, is_more}
use Rattle.drv_periodic_table.specs.Linking.{may_link, may_unlink, linking, unlinking, begun, with_first, begun_next}
use Rattle.drv_periodic_table.specs.Periodic.{PeriodicContent, descriptor_member}
use Rattle.drv_table.specs.declared.content.Command.{Command}
use Rattle.drv_table.specs.declared.content.Command.TheVariants as unfinished
use Rattle.drv_table.specs.declared.content.Transfer.{Transfer}
use Rattle.drv_table.specs.declared.rows.DriverRow.{DriverRow}
use Rattle.drv_table.specs.declared.rows.DriverRow.TheVariants as rows
use Rattle.drv_table.specs.DriverContent.{DriverContent}
use Rattle.drv_table.specs.Commands.{events_of, links, removes_members, finished, or_finished}
use Rattle.drv_table.specs.Commands.{list_after, linked_on, advanced_by}
use Rattle.drv_table.specs.FrameChoice.{with_notes, framed_notes, placement_at, framed_by, linked_by}
use Rattle.drv_table.specs.Parts.{Parts}
use Rattle.drv_table.specs.Removals.{after_unlink}
use Rattle.drv_table.specs.Rows.{after_driver_row}
use Rattle.law_driver.specs.run_owners.Due.{IsDue}
use Rattle.law_footprints.proofs.Fields.{command_stays, list_stays}
use Rattle.law_footprints.specs.Footprint.{footprint}
use Rattle.law_frame_list.proofs.lemmas.list_closed.Chained.{still_linked}
use Rattle.law_frame_words.proofs.lemmas.frame_words.Begins.{out_again}
use Rattle.law_frame_words.proofs.lemmas.frame_words.InChains.{fewer_in}
use Rattle.law_world.proofs.lemmas.memory.FrameFlips.{ended_list, finished_list}

-- descriptor k stands in this list
abbrev Stands : Periodic → Descriptor → Type 0
Stands l k = is_linked l.members.schedule (Once k) ≡ true

-- ---- a member is begun

linked_back : (s : Schedule) (m : Member) (k : Descriptor) (b : Bool) → IsKept s → has_name s (id_of m) ≡ false
    → is_linked (with_member s m) (Once k) ≡ true → is_the m (Once k) ≡ b → (is_linked s (Once k) ≡ true) ⊎ (k.id ≡ id_of m)
linked_back s m k true kept new on is = inr (eqb-true k.id (id_of m) is)
linked_back s m k false kept new on is =
    inl (ap (λ (z : Schedule). is_linked z (Once k)) (sym (out_again s m kept new)) ∙ still_linked (with_member s m) m (Once k) is on)

linking_back : (l : Periodic) (m : Member) (k : Descriptor) → IsKept l.members.schedule → Stands (linking l m) k
    → Stands l k ⊎ (k.id ≡ id_of m)
linking_back l m k kept =
    either_if (λ (r : Periodic). Stands r k → Stands l k ⊎ (k.id ≡ id_of m)) (may_link l m) (inserting l m) l
    (λ e on.
    let both = and_parts (is_none l.work) (takes l.members m) e in
    let one = and_parts (is_member m) (not (has_name l.members.schedule (id_of m)) && has_room l.members m) both.1 in
    let new = and_parts (not (has_name l.members.schedule (id_of m))) (has_room l.members m) one.1 in
    linked_back l.members.schedule m k (is_the m (Once k)) kept (not_on (has_name l.members.schedule (id_of m)) new.0) on refl)
    (λ e on. inl on)

unlinking_back : (l : Periodic) (m : Member) (k : Descriptor) → Stands (unlinking l m) k → Stands l k
unlinking_back l m k =
    either_if (λ (r : Periodic). Stands r k → Stands l k) (may_unlink l m) (removing l m) l (λ e on. on) (λ e on. on)

-- ---- a store is made

stored_back : (l : Periodic) (k : Descriptor) (o : Option Work) → Stands (after_work l o) k → Stands l k
stored_back l k None = λ on. on
stored_back l k (Some w) =
    either_if (λ (r : Periodic). Stands r k → Stands l k) (is_more l.members.schedule w) _ _ (λ e on. on)
    (λ e. either_if (λ (ms : Members). is_linked ms.schedule (Once k) ≡ true → Stands l k) w.removes _ _
    (λ e on. fewer_in l.members.schedule w.member (Once k) on) (λ e on. on))

-- ---- the next member's turn

-- one that stands then stood before, or it is the first of those that are still to be linked
pub data Comes (l : Periodic) (queued : List Member) (removes : Bool) (k : Descriptor) : Type 0 where
  stood : is_linked l.members.schedule (Once k) ≡ true → Comes l queued removes k
  comes : (m : Member) (ms : List Member) → queued ≡ m ∷ ms → removes ≡ false → k.id ≡ id_of m → Comes l queued removes k

begun_comes : (removes : Bool) (l : Periodic) (m : Member) (ms : List Member) (k : Descriptor) → IsKept l.members.schedule
    → Stands (begun removes l m) k → Comes l (m ∷ ms) removes k
begun_comes true l m ms k kept on = stood (unlinking_back l m k on)
begun_comes false l m ms k kept on =
    ⊎_elim {C = Comes l (m ∷ ms) false k} (λ (was : Stands l k). stood was) (λ (is : k.id ≡ id_of m). comes m ms refl refl is)
    (linking_back l m k kept on)

first_comes : (removes : Bool) (q : PeriodicContent) (ms : List Member) (k : Descriptor) → IsKept q.list.members.schedule
    → Stands (with_first removes q ms).list k → Comes q.list ms removes k
first_comes removes q [] k kept on = stood on
first_comes removes q (m ∷ ms) k kept on = begun_comes removes q.list m ms k kept on

next_comes : (removes : Bool) (q : PeriodicContent) (k : Descriptor) → IsKept q.list.members.schedule
    → Stands (begun_next removes q).list k → Comes q.list q.queued removes k
next_comes removes q k kept =
    either_if (λ (r : PeriodicContent). Stands r.list k → Comes q.list q.queued removes k) (is_none q.list.work)
    (with_first removes q q.queued) q (λ e on. first_comes removes q q.queued k kept on) (λ e on. stood on)

-- ---- an event of the command

pub data ComesBy (d : DriverContent) (l : Periodic) (queued : List Member) (k : Descriptor) : Type 0 where
  was : is_linked l.members.schedule (Once k) ≡ true → ComesBy d l queued k
  linked_now : (c : Command) → d.command ≡ Some c → removes_members c ≡ false → (m : Member) (ms : List Member) → queued ≡ m ∷ ms
      → k.id ≡ id_of m → ComesBy d l queued k

pub record AreKeptThen (l : Periodic) : Type 0 where
  pub now : IsKept l.members.schedule
  pub later : IsKept (after_store l).members.schedule

module _ (d g : DriverContent) (k : Descriptor) (kept : AreKeptThen g.periodic.list) where
  listed_comes : (c : Command) → d.command ≡ Some c → Comes (list_after g c) g.periodic.queued (removes_members c) k
      → ComesBy d g.periodic.list g.periodic.queued k
  listed_comes c is (stood on) =
      was (either_if (λ (l : Periodic). Stands l k → Stands g.periodic.list k) (nat_lt g.made (length (events_of c))) g.periodic.list
      (after_store g.periodic.list) (λ e here. here) (λ e here. stored_back g.periodic.list k g.periodic.list.work here) on)
  listed_comes c is (comes m ms queued links same) = linked_now c is links m ms queued same

  linked_comes : (c : Command) → d.command ≡ Some c → Stands (linked_on g c).periodic.list k
      → ComesBy d g.periodic.list g.periodic.queued k
  linked_comes c is on =
      let q : PeriodicContent = record g.periodic { list = list_after g c } in
      let h : DriverContent = record g { made = length (events_of c); periodic = begun_next (removes_members c) q } in
      listed_comes c is
      (next_comes (removes_members c) q k
      (either_if (λ (l : Periodic). IsKept l.members.schedule) (nat_lt g.made (length (events_of c))) g.periodic.list
      (after_store g.periodic.list) (λ e. kept.now) (λ e. kept.later))
      (ap (λ (l : Periodic). is_linked l.members.schedule (Once k)) (sym (ended_list h c)) ∙ on))

  by_command : (o : Option Command) → d.command ≡ o → Stands (advanced_by g o).periodic.list k
      → ComesBy d g.periodic.list g.periodic.queued k
  by_command None is = λ on. was on
  by_command (Some c) is =
      either_if (λ (f : DriverContent). Stands f.periodic.list k → ComesBy d g.periodic.list g.periodic.queued k)
      (nat_lt (suc g.made) (length (events_of c))) _ _ (λ e on. was on)
      (λ e. either_if (λ (f : DriverContent). Stands f.periodic.list k → ComesBy d g.periodic.list g.periodic.queued k) (links c)
      (linked_on g c) (finished g c) (λ e on. linked_comes c is on)
      (λ e on. was (ap (λ (l : Periodic). is_linked l.members.schedule (Once k)) (sym (finished_list g c)) ∙ on)))

-- ---- each row

module _ (p : Parts) (kept : AreKeptThen p.driver.periodic.list) (k : Descriptor) where
  abbrev d : DriverContent
  d = p.driver

  abbrev Goal : DriverRow → Type 0
  Goal row = is_linked (after_driver_row row p).driver.periodic.list.members.schedule (Once k) ≡ true
      → ComesBy p.driver p.driver.periodic.list p.driver.periodic.queued k

  quiet : (row : DriverRow) → (footprint row p.driver.command).list ≡ false → Goal row
  quiet row misses on =
      was (ap (λ (l : Periodic). is_linked l.members.schedule (Once k)) (sym (list_stays row p p.driver.command refl misses)) ∙ on)

  framed_by_first : (n made : ℕ) (c : Command) → made ≡ p.driver.made → slice_get (events_of c) made ≡ Some rows.Frames
      → p.driver.command ≡ Some c → is_linked (framed_by p.driver n (Some c)).periodic.list.members.schedule (Once k) ≡ true
      → Stands p.driver.periodic.list k
  framed_by_first n made (unfinished.Iso e t count) at next is on =
      let g : DriverContent = with_notes d n (take count (drop t d.transfers)) (framed_notes d n e t count (placement_at d e)) in
      let zero_made : d.made ≡ 0 = sym at ∙ frames_first e t count made next in
      ap (λ (i : ℕ). is_linked (if nat_lt (suc i) 2 then record g { made = suc d.made }
      else linked_on g (unfinished.Iso e t count)).periodic.list.members.schedule (Once k)) (sym zero_made)
      ∙ ap (λ (o : Option Command). is_linked (advanced_by g o).periodic.list.members.schedule (Once k)) (sym is) ∙ on
  framed_by_first n made (unfinished.Open queue) at next is on = on
  framed_by_first n made (unfinished.Publish b words) at next is on = on
  framed_by_first n made (unfinished.Unlink e b link) at next is on = on
  framed_by_first n made unfinished.Chain at next is on = on
  framed_by_first n made (unfinished.Unchain e) at next is on = on

  unlinked_back : (t : ℕ) (o : Option Transfer) → Stands (after_unlink p t o).driver.periodic.list k → Stands p.driver.periodic.list k
  unlinked_back t None on = on
  unlinked_back t (Some y) on =
      let l : Periodic = unlinking d.periodic.list (descriptor_member d.periodic.notes y.first) in
      unlinking_back d.periodic.list (descriptor_member d.periodic.notes y.first) k (stored_back l k l.work on)

  pub row_comes : (row : DriverRow) → IsDue p row → Goal row
  row_comes rows.Lend due on =
      by_command d (record d { book = (lend_taken (holding d.book p.memory)).book }) k kept d.command refl on
  row_comes (rows.Store b at v) due on = by_command d d k kept d.command refl on
  row_comes rows.LendDescriptors due on =
      by_command d (record d { book = (lend_taken (holding d.book (linked_by d p.memory d.command))).book }) k kept d.command refl on
  row_comes rows.Frames due on =
      was (framed_by_first p.registers.frame_index d.made due.command refl due.next due.unfinished
      (ap (λ (o : Option Command). is_linked (framed_by d p.registers.frame_index o).periodic.list.members.schedule (Once k))
      (sym due.unfinished) ∙ on))
  row_comes (rows.Unlink t) due on = was (unlinked_back t (slice_get d.transfers t) on)
  row_comes row due on = quiet row refl on

-- ---- the command stays, or none is unfinished

not_finished : (d : DriverContent) (c e : Command) (A : Type 0) → (finished d c).command ≡ Some e → A
not_finished d c e A is = let none : None ≡ Some e = sym (done_none d c) ∙ is in absurd (cc)

advanced_command : (g : DriverContent) (o : Option Command) (e : Command) → g.command ≡ o → (advanced_by g o).command ≡ Some e → o ≡ Some e
advanced_command g None e same = λ is. sym same ∙ is
advanced_command g (Some c) e same =
    either_if (λ (f : DriverContent). f.command ≡ Some e → Some c ≡ Some e) (nat_lt (suc g.made) (length (events_of c))) _ _
    (λ on is. sym same ∙ is)
    (λ on. either_if (λ (f : DriverContent). f.command ≡ Some e → Some c ≡ Some e) (links c) (linked_on g c) (finished g c)
    (λ on. by_end (record g {
      made = length (events_of c);
      periodic = begun_next (removes_members c) (record g.periodic { list = list_after g c });
    }) same)
    (λ on. not_finished g c e (Some c ≡ Some e)))
  where
    by_end : (h : DriverContent) → h.command ≡ Some c → (or_finished h c).command ≡ Some e → Some c ≡ Some e
    by_end h same =
        either_if (λ (f : DriverContent). f.command ≡ Some e → Some c ≡ Some e) (is_none h.periodic.list.work) (finished h c) h
        (λ on. not_finished h c e (Some c ≡ Some e)) (λ on is. sym same ∙ is)

framed_command : (d : DriverContent) (n : ℕ) (o : Option Command) (e : Command) → d.command ≡ o → (framed_by d n o).command ≡ Some e
    → o ≡ Some e
framed_command d n (Some (unfinished.Iso e t count)) f same is =
    let g : DriverContent = with_notes d n (take count (drop t d.transfers)) (framed_notes d n e t count (placement_at d e)) in
    sym same ∙ advanced_command g d.command f refl is
framed_command d n None f same is = sym same ∙ is
framed_command d n (Some (unfinished.Open queue)) f same is = sym same ∙ is
framed_command d n (Some (unfinished.Publish b words)) f same is = sym same ∙ is
framed_command d n (Some (unfinished.Unlink e b link)) f same is = sym same ∙ is
framed_command d n (Some unfinished.Chain) f same is = sym same ∙ is
framed_command d n (Some (unfinished.Unchain e)) f same is = sym same ∙ is

pub row_command : (p : Parts) (e : Command) (row : DriverRow) → (after_driver_row row p).driver.command ≡ Some e → p.driver.command ≡ Some e
row_command p e rows.Lend is =
    advanced_command (record p.driver { book = (lend_taken (holding p.driver.book p.memory)).book }) p.driver.command e refl is
row_command p e (rows.Store b at v) is = advanced_command p.driver p.driver.command e refl is
row_command p e rows.LendDescriptors is =
    advanced_command
    (record p.driver { book = (lend_taken (holding p.driver.book (linked_by p.driver p.memory p.driver.command))).book })
    p.driver.command e refl is
row_command p e rows.Frames is = framed_command p.driver p.registers.frame_index p.driver.command e refl is
row_command p e row is = sym (command_stays row p p.driver.command refl refl) ∙ is
