-- No event of the driver writes a word of the controller, and no command does.
use Rattle.std.proofs.Common.{◌≡◌, ◌≢◌, ℕ, zero, suc, ◌+◌, ◌*◌, ◌/◌, ◌%◌, ◌≤◌, Bool, true, false, List, length, get_or, slice_get}
use Rattle.std.proofs.Common.{Option, Some, None, Result, Ok, Err, ap, refl, sym, subst, ◌∙◌, arith, ⊎_elim, inl, inr}
use Rattle.std.specs.Prelude.{◌⊎◌}
use Rattle.law_world.proofs.Common.{in_first}
use Rattle.law_driver_ring.proofs.Common.{places_below, partly_idle}
use Rattle.law_world.proofs.Common2.{same_mend}
use Rattle.usb_base.specs.declared.commands.Cmd.{Cmd}
use Rattle.usb_base.specs.declared.reports.OfferError.{OfferError}
use Rattle.word_mem.specs.Memory.{Mem, word_at, reaches}
use Rattle.word_mem.proofs.Frames.{lent_if_reached}
use Rattle.op_registers.specs.RegisterFile.{RegisterFile}
use Rattle.mem_runs.specs.Book.{Holding, holding, Stands, lend_taken, store}
use Rattle.drv_periodic.specs.declared.work.Store.{Store}
use Rattle.drv_periodic.specs.Periodic.{next_store}
use Rattle.drv_periodic_table.specs.declared.content.Removed.{Removed}
use Rattle.drv_periodic_table.specs.declared.content.Removed.TheVariants as removed
use Rattle.drv_table.specs.declared.content.Command.{Command}
use Rattle.drv_table.specs.declared.content.Command.TheVariants as unfinished
use Rattle.drv_table.specs.declared.content.Endpoint.{Endpoint}
use Rattle.drv_table.specs.declared.content.Mend.{Mend}
use Rattle.drv_table.specs.declared.content.Transfer.{Transfer}
use Rattle.drv_table.specs.declared.rows.DriverRow.{DriverRow}
use Rattle.drv_table.specs.declared.rows.DriverRow.TheVariants as rows
use Rattle.drv_table.specs.Accepting.{Offered}
use Rattle.drv_table.specs.Commands.{events_of}
use Rattle.drv_table.specs.Offers.{offered}
use Rattle.drv_table.specs.Parts.{Parts}
use Rattle.drv_table.specs.Releases.{freed_by, after_transfer, after_endpoint}
use Rattle.drv_table.specs.Removals.{stored_link, descriptor_leaving, after_unlink, after_descriptor, after_placed, after_removed}
use Rattle.drv_table.specs.Rows.{driver_row, after_driver_row}
use Rattle.drv_table.specs.Words.{head_block, queue_head_link}
use Rattle.claims_base.specs.Controller.{Base, opening_base}
use Rattle.claims_driver.specs.Leaving.{HasOwners}
use Rattle.law_driver.specs.run_owners.Due.{IsDue, IsNextOf, IsLinkOf, IsUnlinkDue}
use Rattle.law_driver.proofs.lemmas.run_owners.Commands.{each_command_has_its_reason}
use Rattle.law_driver.proofs.lemmas.run_owners.Orders.{IsOwed}
use Rattle.law_driver.proofs.lemmas.run_owners.Reasons.{each_event_is_due}
use Rattle.law_driver.proofs.lemmas.ring_members.Freed.{LeavesRest, lent_words, rest_qtds, rest_endpoint, rest_descriptor, rest_placed}
use Rattle.hc_core.specs.Controller.{Content, content}
use Rattle.law_structures.specs.lent_structures.Structures.{QueueHead, Element, StructureSets, Tells}
use Rattle.law_structures.specs.lent_structures.Changes.{Leaves}
use Rattle.law_frames.specs.Met.{Kind}
use Rattle.law_controller.specs.frame_control.Both.{RunsBoth}
use Rattle.law_driver_ring.specs.Linked.{head_at}
use Rattle.law_driver_ring.specs.Published.{partly, place_in}
use Rattle.law_driver_ring.proofs.PartSlots.{found_lent, lent_has}
use Rattle.law_queues.specs.fed_lends.ToLend.{IsToBeLent}
use Rattle.law_queues.specs.mended_heads.Mended.{IsAtMend}
use Rattle.law_queues.specs.mended_heads.Owed.{store_due}
use Rattle.law_queues.specs.mended_heads.Waiting.{StandsHalted}
use Rattle.law_world.specs.steps.unlinked_streams.Unlinks.{IsAtUnlink}
use Rattle.law_descriptors.specs.Both.{both}
use Rattle.law_descriptors.specs.Lent.{IsLending}
use Rattle.law_descriptors.specs.ListRows.{ComesFirst}
use Rattle.law_descriptors.specs.Meeting.{met}
use Rattle.law_descriptors.specs.PartLaws.{IsDescribing}
use Rattle.law_descriptors.specs.Told.{IsToldBy}
use Rattle.law_descriptors.proofs.Lends.{lend_leaves}
use Rattle.law_descriptors.proofs.Telling.{queue_found}
use Rattle.bus_world.specs.World.{World, driver_parts, controller_parts, driver_next, commanded, commanded_by, name_in}
use Rattle.claims_driver.specs.Owners.{views_of}
use Rattle.law_driver.specs.in_place.InPlace.{IsInPlace}
use Rattle.claims_world.specs.Owners.{IsControllers, LeavesControllers}
use Rattle.law_world.specs.memory.Mixed.{IsChainToLend, IsChainThere, IsUnderWay, Standing, IsMixedAt, IsMixedWorld}
use Rattle.law_world.specs.memory.Owners.{IsToldOwn, DriverLeavesControllers, CommandLeavesControllers}
use Rattle.law_world.specs.memory.framed_memory.Isochronous.{AwaitsLend}
use Rattle.law_world.specs.memory.framed_memory.Ring.{IsHeadMet}
use Rattle.law_world.proofs.lemmas.memory.lemmas.framed_memory.ChainedLent.{chain_comes_first}
use Rattle.law_world.proofs.lemmas.memory.lemmas.framed_memory.Lending.{lending}
use Rattle.law_world.proofs.lemmas.memory.lemmas.framed_memory.Now.{told_now}
use Rattle.law_world.proofs.lemmas.memory.lemmas.framed_memory.NowRows.{unlink_keeps_now, link_keeps_now}
use Rattle.law_world.proofs.lemmas.memory.lemmas.framed_memory.RingLinksLeave.{unlink_is_due}
use Rattle.law_world.proofs.lemmas.memory.lemmas.framed_memory.RingLinksMet.{head_is_met}
use Rattle.law_world.proofs.lemmas.memory.Driving.{driver_keeps_mixed}
use Rattle.law_world.proofs.lemmas.memory.FrameLends.{lends_iso}
use Rattle.law_world.proofs.lemmas.memory.FrameRows.{unlinked_there}
use Rattle.law_world.proofs.lemmas.memory.LeavesLent.{leaves_lent}
use Rattle.law_world.proofs.lemmas.memory.Mend.{mend_there}
use Rattle.law_world.proofs.lemmas.memory.PublishStored.{IsPublishPlace, publish_place}
use Rattle.law_world.proofs.lemmas.memory.OwnTold.{runs_tell_owners}
use Rattle.law_world.proofs.lemmas.memory.OwnStores.{told_reached, IsStoreIn, store_leaves, element_off, halted_off, link_store, list_store}
use Rattle.law_world.proofs.lemmas.memory.OwnFreed.{freed_leaves}

-- ---- what is given back

rest_back : (h g : Holding) → LeavesRest h g → (at : ℕ) → reaches g.memory at ≡ true → word_at g.memory at ≡ word_at h.memory at
rest_back h g rest at there =
    let l = found_lent g (at / 32) rest.stands (lent_if_reached g.memory at there) in rest.words l.at at (lent_has g.book.slots (at / 32) l)

-- registers stay, and the words of what is Lent afterwards
record Frees (p q : Parts) : Type 0 where
  registers : q.registers ≡ p.registers
  back : (at : ℕ) → reaches q.memory at ≡ true → word_at q.memory at ≡ word_at p.memory at

frees_itself : (p : Parts) → Frees p p
frees_itself p = record { registers = refl; back = λ at there. refl }

module _ (p : Parts) (place : IsInPlace p.memory p.driver) where
  abbrev h : Holding
  h = holding p.driver.book p.memory

  transfer_frees : (t : ℕ) (o : Option Transfer) → Frees p (after_transfer p t o (freed_by p.driver (holding p.driver.book p.memory) o))
  transfer_frees t None = frees_itself p
  transfer_frees t (Some x) = record {
    registers = refl;
    back = rest_back h _ (rest_qtds p.driver.notes h x.first x.qtds place.sound.stands place.sound.shape);
  }

  endpoint_frees : (e : ℕ) (o : Option Endpoint) → Frees p (after_endpoint p e o)
  endpoint_frees e None = frees_itself p
  endpoint_frees e (Some x) = record {
    registers = refl;
    back = rest_back h _
        (rest_endpoint p.driver e x h place.sound.stands place.sound.shape);
  }

  descriptor_frees : (t : ℕ) (o : Option Transfer) → Frees p (after_descriptor p t o)
  descriptor_frees t None = frees_itself p
  descriptor_frees t (Some x) = record {
    registers = refl;
    back = rest_back h _ (rest_descriptor p.driver.periodic.notes h x.first place.sound.stands place.sound.shape);
  }

  placed_frees : (e : ℕ) (o : Option Endpoint) → Frees p (after_placed p e o)
  placed_frees e None = frees_itself p
  placed_frees e (Some x) = record {
    registers = refl;
    back = rest_back h _
        (rest_placed p.driver e x h place.sound.stands place.sound.shape);
  }

  removed_frees : (what : Removed) → Frees p (after_removed p what)
  removed_frees (removed.Descriptor t) = descriptor_frees t (slice_get p.driver.transfers t)
  removed_frees (removed.Endpoint e) = placed_frees e (slice_get p.driver.endpoints e)

-- ---- where a row stores

same_store : (b c at to v u : ℕ) → rows.Store b at v ≡ rows.Store c to u → at ≡ to
same_store b c at to v u is = cc is

same_row : (r q : DriverRow) → Some r ≡ Some q → r ≡ q
same_row r q is = cc is

same_before : (e b link f c to : ℕ) → Some (unfinished.Unlink e b link) ≡ Some (unfinished.Unlink f c to) → b ≡ c
same_before e b link f c to is = cc is

module _ (s : Standing) (w : World) (k : IsMixedAt s w) where
  abbrev p : Parts
  p = driver_parts w

  abbrev c : Content
  c = controller_parts w

  abbrev all : StructureSets
  all = both s.descs s.parts

  runs : RunsBoth opening_base s.member (met w.driver s.recent) (both s.descs s.parts) s.hand s.frame (controller_parts w)
  runs = k.now.framed.runs

  tells : Tells w.memory (both s.descs s.parts)
  tells = runs.ring.tells

  owners : HasOwners w.driver
  owners = k.now.framed.place.sound.owners

  own_told : (at : ℕ) → IsControllers (controller_parts w) at → IsToldOwn (both s.descs s.parts) at
  own_told at own = runs_tell_owners opening_base s.member (met w.driver s.recent) (both s.descs s.parts) s.hand s.frame
      (controller_parts w) runs at own

  -- what is told of the queues is told of all
  told_by : IsToldBy (views_of w.driver) s.descs s.parts
  told_by = told_now opening_base s.member s.recent s.descs s.parts s.hand s.frame (controller_parts w) w.driver k.now

  describing : IsDescribing w.driver s.descs s.parts
  describing = record { owners = owners; driven = told_by.driven; described = told_by.described }

  -- ---- what is Lent stays

  lent_leaves : (m : Mem) → Leaves w.memory m → LeavesControllers (controller_parts w) m
  lent_leaves m leaves at low changed own = changed (leaves.words at (told_reached w.memory all at tells (own_told at own)))

  same_leaves : (m : Mem) → m.words ≡ w.memory.words → LeavesControllers (controller_parts w) m
  same_leaves m same at low changed own = changed (ap (λ ws. get_or ws (at / 4) 0) same)

  -- ---- a word is stored

  stored : (b st v : ℕ) → IsStoreIn (both s.descs s.parts) st → LeavesControllers (controller_parts w) (store w.driver.book w.memory b st v)
  stored b st v x at low changed own = store_leaves w.driver.book w.memory all b st v tells x at low changed (own_told at own)

  head_store : IsStoreIn (both s.descs s.parts) head_at
  head_store =
      let m : IsHeadMet s.member s.parts = head_is_met opening_base s.member s.recent s.descs s.parts s.hand s.frame
      (controller_parts w) w.driver k.now k.ring in
      link_store w.memory all head_at head_at (QueueHead m.queue) tells
      (queue_found w.driver s.descs s.parts describing head_at head_at (QueueHead m.queue) m.here) tt

  unlink_store : (e before link : ℕ) → w.driver.command ≡ Some (unfinished.Unlink e before link)
      → driver_row (driver_parts w) ≡ rows.Store before (32 * before) link → IsStoreIn (both s.descs s.parts) (32 * before)
  unlink_store e before link command row =
      let u : IsAtUnlink w.driver s.member s.parts =
      unlink_is_due opening_base s.member s.recent s.descs s.parts s.hand s.frame
      (controller_parts w) w.driver e before link k.now command row k.ring in
      let one : before ≡ u.before = same_before e before link u.number u.before (queue_head_link u.after) (sym command ∙ u.command) in
      subst (λ (b : ℕ). IsStoreIn (both s.descs s.parts) (32 * b)) (sym one)
      (link_store w.memory all (32 * u.before) (32 * u.before) (QueueHead u.queue) tells
      (queue_found w.driver s.descs s.parts describing (32 * u.before) (32 * u.before) (QueueHead u.queue) u.head) tt)

  publish_store : (b : ℕ) (words : List ℕ) (c : ℕ) (to v : ℕ) → w.driver.command ≡ Some (unfinished.Publish b words) → 1 ≤ w.driver.made
      → driver_row (driver_parts w) ≡ rows.Store c to v → IsStoreIn (both s.descs s.parts) to
  publish_store b words c to v command made row =
      let g : IsPublishPlace w s.parts b = publish_place s w b words k command made in
      let low = g.low in
      let few = places_below g.number low in
      let is : 32 * b + 4 * place_in g.number ≡ to = same_store b c (32 * b + 4 * place_in g.number) to _ v (sym g.row ∙ row) in
      record {
        owner = g.owner;
        name = 32 * b;
        structure = Element (partly g.qtd g.number);
        here = queue_found w.driver s.descs s.parts describing g.owner (32 * b) (Element (partly g.qtd g.number)) g.here;
        has = omega (arith, few, is);
        not_own = λ at on same. element_off at (32 * b) (Element (partly g.qtd g.number)) (partly g.qtd g.number) refl
            (partly_idle g.qtd g.number low);
      }

  -- the store of the command's own
  own_store : (command : Command) (made b to v : ℕ) → w.driver.command ≡ Some command → w.driver.made ≡ made
      → slice_get (events_of command) made ≡ Some (rows.Store b to v)
      → driver_row (driver_parts w) ≡ rows.Store b to v → IsStoreIn (both s.descs s.parts) to
  own_store (unfinished.Open queue) zero b to v command made is row = absurd (cc is)
  own_store (unfinished.Open queue) (suc zero) b to v command made is row =
      let one : head_at ≡ to = same_store head_block b head_at to (queue_head_link queue) v (same_row _ _ is) in
      subst (IsStoreIn (both s.descs s.parts)) one head_store
  own_store (unfinished.Open queue) (suc (suc n)) b to v command made is row = absurd (cc is)
  own_store (unfinished.Publish c words) zero b to v command made is row = absurd (cc is)
  own_store (unfinished.Publish c words) (suc n) b to v command made is row = publish_store c words b to v command (omega (arith, made)) row
  own_store (unfinished.Unlink e before link) zero b to v command made is row =
      let same : rows.Store before (32 * before) link ≡ rows.Store b to v = same_row _ _ is in
      let one : 32 * before ≡ to = same_store before b (32 * before) to link v same in
      subst (IsStoreIn (both s.descs s.parts)) one (unlink_store e before link command (row ∙ sym same))
  own_store (unfinished.Unlink e before link) (suc n) b to v command made is row = absurd (cc is)
  own_store unfinished.Chain zero b to v command made is row = absurd (cc is)
  own_store unfinished.Chain (suc n) b to v command made is row = absurd (cc is)
  own_store (unfinished.Iso e t count) zero b to v command made is row = absurd (cc is)
  own_store (unfinished.Iso e t count) (suc zero) b to v command made is row = absurd (cc is)
  own_store (unfinished.Iso e t count) (suc (suc n)) b to v command made is row = absurd (cc is)
  own_store (unfinished.Unchain e) made_now b to v command made is row = absurd (cc is)

  -- one of the frame list, behind them
  comes_first : (command : Command) → w.driver.command ≡ Some command → 1 ≤ w.driver.made → command ≡ unfinished.Chain
      → ComesFirst s.member s.recent (both s.descs s.parts) w.driver w.driver.periodic.list
  comes_first command is made chain =
      ⊎_elim (λ (t : IsChainToLend w.driver w.memory). absurd (let none = t.ready.made in omega (arith, made, none)))
      (λ (t : IsChainThere w.driver s.member s.recent s.parts).
      chain_comes_first opening_base s.member s.recent s.descs s.parts s.hand s.frame (controller_parts w) w.driver k.now t.lent)
      (subst (IsUnderWay w.driver w.memory s.member s.recent s.parts) (is ∙ ap (λ (x : Command). Some x) chain) k.under_way)

  late_chain : (command : Command) (made : ℕ) → length (events_of command) ≤ made → command ≡ unfinished.Chain → 1 ≤ made
  late_chain command made late chain = let long : length (events_of command) ≡ 1 = ap (λ (x : Command). length (events_of x)) chain in
      omega (arith, late, long)

  link_row_store : (b to v : ℕ) → driver_row (driver_parts w) ≡ rows.Store b to v → IsLinkOf (driver_parts w) (rows.Store b to v)
      → IsStoreIn (both s.descs s.parts) to
  link_row_store b to v row link =
      let why : IsLinkOf (driver_parts w) (driver_row (driver_parts w)) = subst (IsLinkOf (driver_parts w)) (sym row) link in
      let e = link_keeps_now opening_base s.member s.recent s.descs s.parts s.hand s.frame (controller_parts w) w.driver k.now why
      (λ chain. comes_first why.command why.unfinished (late_chain why.command w.driver.made why.late chain) chain) in
      let one : why.store.at ≡ to = same_store why.store.block b why.store.at to why.store.value v (sym why.is ∙ row) in
      subst (IsStoreIn (both s.descs s.parts)) one
      (list_store w.memory opening_base all s.frame why.store.at why.store.value e.event.now e.event.frame_later tells e.event.stored)

  store_row : (b to v : ℕ) → driver_row (driver_parts w) ≡ rows.Store b to v → IsDue (driver_parts w) (rows.Store b to v)
      → IsStoreIn (both s.descs s.parts) to
  store_row b to v row due =
      ⊎_elim (λ (own : IsNextOf (driver_parts w)
      (rows.Store b to v)). own_store own.command w.driver.made b to v own.unfinished refl own.next row)
      (λ (link : IsLinkOf (driver_parts w) (rows.Store b to v)). link_row_store b to v row link) due

  -- what a stalled queue head is owed
  mend_store : (m : Mend) → driver_row (driver_parts w) ≡ rows.Mend m → IsStoreIn (both s.descs s.parts) m.at
  mend_store m row =
      let a : IsAtMend (driver_parts w) s.parts s.out = mend_there s w k m row in
      let x : StandsHalted a.stalled (s.parts (32 * a.stalled.queue)) = (a.are.wait.0).stands in
      let one : store_due a.stalled ≡ m = same_mend (store_due a.stalled) m (sym a.row ∙ row) in
      subst (λ (n : Mend). IsStoreIn (both s.descs s.parts) n.at) one
      (record {
        owner = 32 * a.stalled.queue;
        name = 32 * a.stalled.queue;
        structure = QueueHead x.head;
        here = queue_found w.driver s.descs s.parts describing (32 * a.stalled.queue) (32 * a.stalled.queue) (QueueHead x.head) x.here;
        has = inl (in_first a.stalled.queue a.stalled.onward a.stalled.made);
        not_own = λ at on same. halted_off at (32 * a.stalled.queue) (QueueHead x.head) x.head refl x.halted;
      })

  -- a harvested descriptor is unlinked
  unlinked : (t : ℕ) → driver_row (driver_parts w) ≡ rows.Unlink t → IsUnlinkDue (driver_parts w) t
      → LeavesControllers (controller_parts w) (after_unlink (driver_parts w) t (slice_get w.driver.transfers t)).memory
  unlinked t row due =
      let at : IsOwed w.driver.transfers t = unlinked_there (driver_parts w) t owners due in
      let u = unlink_keeps_now opening_base s.member s.recent s.descs s.parts s.hand s.frame
      (controller_parts w) w.driver t at.transfer k.now row at.there in
      let st : Store = u.event.store in
      let is : (after_unlink (driver_parts w) t
      (slice_get w.driver.transfers t)).memory ≡ store w.driver.book w.memory st.block st.at st.value =
      ap (λ (o : Option Transfer). (after_unlink (driver_parts w) t o).memory) at.there
      ∙ ap (λ (o : Option Store). stored_link w.driver.book w.memory o) u.event.next in
      subst (LeavesControllers (controller_parts w)) (sym is)
      (stored st.block st.at st.value
      (list_store w.memory opening_base all s.frame st.at st.value u.event.stored.now u.event.stored.frame_later tells
      u.event.stored.stored))

  -- ---- descriptors are lent

  descriptors_leave : driver_row (driver_parts w) ≡ rows.LendDescriptors → IsNextOf (driver_parts w) rows.LendDescriptors
      → LeavesControllers (controller_parts w) (after_driver_row rows.LendDescriptors (driver_parts w)).memory
  descriptors_leave row due =
      let iso = lends_iso due.command w.driver.made due.next in
      let made : w.driver.made ≡ 1 = iso.at in
      let command : w.driver.command ≡ Some (unfinished.Iso iso.endpoint iso.first iso.count) = due.unfinished
      ∙ ap (λ (x : Command). Some x) iso.is in
      let a : AwaitsLend w.driver w.memory iso.endpoint iso.first = k.awaiting iso.endpoint iso.first iso.count command
      (omega (arith, made)) in
      let l : IsLending (driver_parts w) iso.first a.endpoint.desc =
      lending opening_base s.member s.recent s.descs s.parts s.hand s.frame
      (controller_parts w) w.driver iso.endpoint iso.first iso.count k.now a command made row in
      lent_leaves (after_driver_row rows.LendDescriptors (driver_parts w)).memory (lend_leaves (driver_parts w) iso.first a.endpoint.desc l)

  -- ---- what is given back has none of the controller's words

  freed : Frees (driver_parts w) (after_driver_row (driver_row (driver_parts w)) (driver_parts w))
      → LeavesControllers (controller_parts w) (driver_next w).memory
  freed f =
      let new : IsMixedWorld (driver_next w) = driver_keeps_mixed w (record { standing = s; mixed = k }) in
      let t : Standing = new.standing in
      let same : controller_parts (driver_next w) ≡ record (controller_parts w) { memory = (driver_next w).memory } =
      ap (λ (r : RegisterFile). content w.control r (driver_next w).memory) f.registers in
      freed_leaves opening_base t.member (met (driver_next w).driver t.recent) (both t.descs t.parts) t.hand t.frame (controller_parts w)
      (driver_next w).memory
      (subst (λ (x : Content). RunsBoth opening_base t.member (met (driver_next w).driver t.recent)
      (both t.descs t.parts) t.hand t.frame x) same
      new.mixed.now.framed.runs) f.back

  freed_row : (row : DriverRow) → driver_row (driver_parts w) ≡ row → Frees (driver_parts w) (after_driver_row row (driver_parts w))
      → LeavesControllers (controller_parts w) (driver_next w).memory
  freed_row row is f = freed (subst (λ (r : DriverRow). Frees (driver_parts w) (after_driver_row r (driver_parts w))) (sym is) f)

  -- ---- each row

  next_is : (row : DriverRow) → driver_row (driver_parts w) ≡ row → LeavesControllers (controller_parts w)
      (after_driver_row row (driver_parts w)).memory
      → LeavesControllers (controller_parts w) (driver_next w).memory
  next_is row is leaves = subst (λ (r : DriverRow). LeavesControllers (controller_parts w) (after_driver_row r (driver_parts w)).memory)
      (sym is) leaves

  place : IsInPlace w.memory w.driver
  place = k.now.framed.place

  by_row : (row : DriverRow) → driver_row (driver_parts w) ≡ row → IsDue (driver_parts w) row
      → LeavesControllers (controller_parts w) (driver_next w).memory
  by_row rows.Lend is due =
      next_is rows.Lend is (same_leaves (after_driver_row rows.Lend (driver_parts w)).memory (lent_words (holding w.driver.book w.memory)))
  by_row (rows.Store b to v) is due = next_is (rows.Store b to v) is (stored b to v (store_row b to v is due))
  by_row (rows.Mend m) is due = next_is (rows.Mend m) is (stored m.queue m.at m.value (mend_store m is))
  by_row rows.LendDescriptors is due = next_is rows.LendDescriptors is (descriptors_leave is due)
  by_row (rows.Unlink t) is due = next_is (rows.Unlink t) is (unlinked t is due)
  by_row (rows.ReleaseTransfer t) is due = freed_row (rows.ReleaseTransfer t) is
      (transfer_frees (driver_parts w) place t (slice_get w.driver.transfers t))
  by_row (rows.ReleaseEndpoint e) is due = freed_row (rows.ReleaseEndpoint e) is
      (endpoint_frees (driver_parts w) place e (slice_get w.driver.endpoints e))
  by_row (rows.ReleaseRemoved what) is due = freed_row (rows.ReleaseRemoved what) is (removed_frees (driver_parts w) place what)
  by_row row is due = next_is row is (same_leaves (after_driver_row row (driver_parts w)).memory refl)

  -- ---- a command

  accepted : (line : ℕ) (cmd : Cmd) (r : Result Offered OfferError) → offered w.driver w.memory cmd ≡ r
      → LeavesControllers (controller_parts w) (commanded_by w line (name_in cmd) r).memory
  accepted line cmd (Ok o) is = lent_leaves o.memory (leaves_lent w.driver w.memory o
      (each_command_has_its_reason w.driver w.memory cmd o is) place)
  accepted line cmd (Err why) is = same_leaves w.memory refl

pub driver_leaves_controllers : DriverLeavesControllers
driver_leaves_controllers = λ w k. by_row k.standing w k.mixed (driver_row (driver_parts w)) refl (each_event_is_due (driver_parts w))

pub command_leaves_controllers : CommandLeavesControllers
command_leaves_controllers = λ w line cmd k. accepted k.standing w k.mixed line cmd (offered w.driver w.memory cmd) refl
