-- The visits go on with each event of the driver that stores nothing of its frame list.
use Rattle.std.proofs.Common.{◌≡◌, ◌≢◌, ℕ, zero, suc, ◌+◌, ◌*◌, ◌/◌, ◌≤◌, ◌<◌, ◌⊎◌, Bool, true, false, inl, inr, cond, if◌then◌else◌, List, length, slice_get, Option, Some, None, ⊎_elim, ap, refl, sym, subst, ◌∙◌, arith}
use Rattle.std.specs.Prelude.{◌||◌, slice_index, nat_lt, option_map, drop, take}
use Rattle.std.proofs.lemmas.Bool.{false≢true, lt-ltb, and_parts}
use Rattle.std.proofs.lemmas.List.{get_or-set_other}
use Rattle.std.proofs.lemmas.Option.{same_Some, slice_get-map}
use Rattle.law_descriptors.proofs.Common.{removed_again, no_unchain}
use Rattle.law_common.proofs.Lists.{some_below}
use Rattle.word_mem.specs.Memory.{Mem, word_at, reaches, with_word}
use Rattle.link_words.specs.Links.{link_read}
use Rattle.mem_runs.specs.Book.{Book, Holding, holding, slot_of, store, can_store, lend_taken}
use Rattle.drv_chains.specs.Chains.{Schedule, id_of}
use Rattle.drv_members.specs.Members.{is_linked, without_member}
use Rattle.drv_periodic.specs.declared.work.Work.{Work}
use Rattle.drv_periodic_table.specs.declared.content.Removal.{Removal}
use Rattle.drv_periodic_table.specs.Periodic.{read_again}
use Rattle.drv_table.specs.declared.content.Command.{Command}
use Rattle.drv_table.specs.declared.content.Command.TheVariants as unfinished
use Rattle.drv_table.specs.declared.content.Endpoint.{Endpoint}
use Rattle.drv_table.specs.declared.content.Mend.{Mend}
use Rattle.drv_table.specs.declared.content.Transfer.{Transfer}
use Rattle.drv_table.specs.declared.rows.DriverRow.{DriverRow}
use Rattle.drv_table.specs.declared.rows.DriverRow.TheVariants as rows
use Rattle.drv_table.specs.DriverContent.{DriverContent}
use Rattle.drv_table.specs.Parts.{Parts}
use Rattle.drv_table.specs.Commands.{events_of, no_command, store_order, advanced_by}
use Rattle.drv_table.specs.FrameChoice.{with_notes, framed_notes, framed_by, placement_at, linked_by}
use Rattle.drv_table.specs.Rows.{driver_row, after_driver_row}
use Rattle.law_driver.specs.ring_members.Words.{IsMending}
use Rattle.law_driver.specs.run_owners.Due.{IsDue, IsNextOf}
use Rattle.claims_base.specs.Controller.{opening_base}
use Rattle.law_driver.proofs.lemmas.ring_members.Events.{first_mend}
use Rattle.law_driver.proofs.lemmas.ring_members.Freed.{lent_words}
use Rattle.law_driver.proofs.lemmas.run_owners.Reasons.{each_event_is_due}
use Rattle.claims_driver.specs.FrameWords.{HasMember}
use Rattle.law_frames.specs.Met.{Kind}
use Rattle.claims_driver.specs.Unlinked.{is_led, led_by, led}
use Rattle.law_descriptors.specs.Removed.{IsRemovedSince, IsUnchainedNow}
use Rattle.law_descriptors.specs.Meeting.{met}
use Rattle.law_descriptors.specs.Recent.{AreRecent}
use Rattle.law_descriptors.specs.RowLaws.{HasFrames}
use Rattle.bus_world.specs.World.{World, driver_parts, controller_parts, with_parts, driver_next}
use Rattle.law_world.proofs.lemmas.memory.Driving.{driver_keeps_mixed}
use Rattle.law_world.proofs.lemmas.memory.lemmas.framed_memory.Now.{now_has_frames}
use Rattle.law_world.specs.memory.Mixed.{Standing, IsMixedAt, IsMixedWorld}
use Rattle.law_microframes.specs.visits.OneDescriptor.{IsActiveDescriptor}
use Rattle.law_microframes.specs.visits.Ranks.{name_of, next_of}
use Rattle.law_microframes.specs.visits.Visited.{IsFramedAs, IsGoneOn, VisitsGoOnAt}
use Rattle.law_microframes.proofs.lemmas.visits.ActiveBefore.{driver_before}
use Rattle.law_microframes.proofs.lemmas.visits.DriverGoesOn.{IsListSpread, LeavesMembers, gone_on}
use Rattle.law_microframes.proofs.lemmas.visits.FramedThere.{driver_framed}
use Rattle.law_microframes.proofs.lemmas.visits.InFrames.{row_back}
use Rattle.law_microframes.proofs.lemmas.visits.LeftOwned.{has_name, own_store}
use Rattle.law_microframes.proofs.lemmas.visits.ToldLinks.{HasOwn, own_met}
use Rattle.drv_table.specs.Words.{head_block, queue_head_link}
use Rattle.law_structures.specs.lent_structures.Structures.{Structure, QueueHead, Isochronous, SplitIsochronous, Holds}
use Rattle.law_structures.specs.lent_structures.Changes.{Leaves}
use Rattle.law_controller.specs.frame_stores.Stores.{HasLink}
use Rattle.law_descriptors.specs.Both.{both}
use Rattle.law_descriptors.specs.Lent.{IsLending}
use Rattle.law_descriptors.proofs.Lends.{lend_leaves}
use Rattle.law_descriptors.proofs.lemmas.descriptor_links.Links.{descriptors_are_given_links}
use Rattle.law_world.specs.memory.framed_memory.Isochronous.{AwaitsLend}
use Rattle.law_microframes.proofs.lemmas.visits.OwnSteps.{same_list, own_leaves, own_recent}

-- ---- a reading of FRINDEX

-- one whose removals were read once more
read_recent : (d f : DriverContent) (left : ℕ → Option Kind) (index : ℕ) → f.endpoints ≡ d.endpoints → f.transfers ≡ d.transfers → f.command ≡ d.command → f.periodic.removals ≡ read_again index d.periodic.removals
    → AreRecent d index left → AreRecent f index left
read_recent d f left index ends ts command removals are n kind on =
    ⊎_elim (λ (since : IsRemovedSince d.endpoints d.transfers d.periodic.removals index n).
    inl (subst (λ (xs : List Endpoint). IsRemovedSince xs f.transfers f.periodic.removals index n) (sym ends)
    (subst (λ (us : List Transfer). IsRemovedSince d.endpoints us f.periodic.removals index n) (sym ts)
    (subst (λ (rs : List Removal). IsRemovedSince d.endpoints d.transfers rs index n) (sym removals) (removed_again d.endpoints d.transfers d.periodic.removals index n since)))))
    (λ (now : IsUnchainedNow d.endpoints d.transfers d.command n).
    inr (subst (λ (xs : List Endpoint). IsUnchainedNow xs f.transfers f.command n) (sym ends)
    (subst (λ (us : List Transfer). IsUnchainedNow d.endpoints us f.command n) (sym ts) (subst (λ (o : Option Command). IsUnchainedNow d.endpoints d.transfers o n) (sym command) now)))) (are n kind on)

-- ---- the commands with events of their own

no_events : (c : Command) (n : ℕ) (row : DriverRow) → slice_get (events_of c) n ≡ Some row → (e : ℕ) → c ≡ unfinished.Unchain e → ⊥
no_events c n row next e is = absent n (ap (λ (x : Command). slice_get (events_of x) n) (sym is) ∙ next)
  where
    absent : (n : ℕ) → slice_get (events_of (unfinished.Unchain e)) n ≡ Some row → ⊥
    absent n there = cc

not_unchain : (o : Option Command) (c : Command) → o ≡ Some c → ((e : ℕ) → c ≡ unfinished.Unchain e → ⊥) → (e : ℕ) → o ≡ Some (unfinished.Unchain e) → ⊥
not_unchain o c one never e two = never e (same_Some c (unfinished.Unchain e) (sym one ∙ two))

pub no_unfinished : (o : Option Command) → o ≡ None → (e : ℕ) → o ≡ Some (unfinished.Unchain e) → ⊥
no_unfinished o none e some = cc

record IsIso (c : Command) : Type 0 where
  endpoint : ℕ
  first : ℕ
  count : ℕ
  is : c ≡ unfinished.Iso endpoint first count

abbrev is_iso_own : DriverRow → Bool
is_iso_own rows.Frames = true
is_iso_own rows.LendDescriptors = true
is_iso_own _ = false

stores_only : (b : ℕ) (words : List ℕ) (o : Option ℕ) (row : DriverRow) → option_map (λ i. rows.Store b (32 * b + 4 * i) (slice_index words i)) o ≡ Some row → is_iso_own row ≡ true → ⊥
stores_only b words None row is on = absurd (cc)
stores_only b words (Some i) row is on = false≢true (ap is_iso_own (same_Some (rows.Store b (32 * b + 4 * i) (slice_index words i)) row is) ∙ on)

-- such an event is one of a command with descriptors
iso_own : (c : Command) (n : ℕ) (row : DriverRow) → slice_get (events_of c) n ≡ Some row → is_iso_own row ≡ true → IsIso c
iso_own (unfinished.Open queue) (suc zero) row is on = absurd (false≢true (ap is_iso_own (same_Some (rows.Store head_block (32 * head_block) (queue_head_link queue)) row is) ∙ on))
iso_own (unfinished.Open queue) (suc (suc n)) row is on = absurd (cc)
iso_own (unfinished.Publish b words) (suc n) row is on =
    absurd (stores_only b words (slice_get store_order n) row (sym (slice_get-map (λ i. rows.Store b (32 * b + 4 * i) (slice_index words i)) store_order n) ∙ is) on)
iso_own (unfinished.Unlink e b link) zero row is on = absurd (false≢true (ap is_iso_own (same_Some (rows.Store b (32 * b) link) row is) ∙ on))
iso_own (unfinished.Unlink e b link) (suc n) row is on = absurd (cc)
iso_own unfinished.Chain (suc n) row is on = absurd (cc)
iso_own (unfinished.Iso e t count) n row is on = record { endpoint = e; first = t; count = count; is = refl }
iso_own (unfinished.Unchain e) n row is on = absurd (cc)
iso_own _ zero row is on = absurd (false≢true (ap is_iso_own (same_Some rows.Lend row is) ∙ on))

iso_frames : (c : Command) (n : ℕ) → slice_get (events_of c) n ≡ Some rows.Frames → IsIso c
iso_frames c n is = iso_own c n rows.Frames is refl

iso_lends : (c : Command) (n : ℕ) → slice_get (events_of c) n ≡ Some rows.LendDescriptors → IsIso c
iso_lends c n is = iso_own c n rows.LendDescriptors is refl

own_reached : (m : Mem) (n : ℕ) (t : Structure) → Holds m n t → HasLink t → reaches m n ≡ true
own_reached m n (QueueHead q) h has = (and_parts (reaches m n) (reaches m (n + 32)) h.lent).0
own_reached m n (Isochronous x) h has = (and_parts (reaches m n) (reaches m (n + 32)) h.lent).0
own_reached m n (SplitIsochronous x) h has = h.lent
own_reached m n _ h has = absurd has

-- a store that is owed to a stalled endpoint is none of a link
mend_left : (k : Book) (m : Mem) (w : Mend) (b : ℕ) → IsMending w → word_at (store k m w.queue w.at w.value) (32 * b) ≡ word_at m (32 * b)
mend_left k m w b mending = by (can_store (slot_of k.slots w.queue) w.at)
  where
    apart : 32 * b / 4 ≢ w.at / 4
    apart same =
        ⊎_elim (λ (one : w.at ≡ 32 * w.queue + 16). omega (arith, one, same))
        (λ (rest : (w.at ≡ 32 * w.queue + 20) ⊎ (w.at ≡ 32 * w.queue + 24)).
        ⊎_elim (λ (one : w.at ≡ 32 * w.queue + 20). omega (arith, one, same)) (λ (one : w.at ≡ 32 * w.queue + 24). omega (arith, one, same)) rest) mending

    by : (can : Bool) → word_at (cond can (with_word m w.at w.value) m) (32 * b) ≡ word_at m (32 * b)
    by true = get_or-set_other m.words (w.at / 4) (32 * b / 4) w.value 0 apart
    by false = refl

module _ (s : Standing) (w : World) (k : IsMixedAt s w) (start : World) (vs : List ℕ) (v : VisitsGoOnAt s start w vs) where
  abbrev d : DriverContent
  d = w.driver

  abbrev p : Parts
  p = driver_parts w

  abbrev next_by : DriverRow → World
  next_by row = with_parts w (after_driver_row row (driver_parts w))

  frames : HasFrames w.memory w.driver
  frames = now_has_frames opening_base s.member s.recent s.descs s.parts s.hand s.frame (controller_parts w) w.driver k.now

  mixed_next : IsMixedWorld (driver_next w)
  mixed_next = driver_keeps_mixed w (record { standing = s; mixed = k })

  spread_next : IsListSpread (driver_next w).driver
  spread_next =
      let n : Standing = mixed_next.standing in
      (now_has_frames opening_base n.member n.recent n.descs n.parts n.hand n.frame (controller_parts (driver_next w)) (driver_next w).driver mixed_next.mixed.now).spread

  pub half_led : (x : Work) → w.driver.periodic.list.work ≡ Some x → x.removes ≡ false → 1 ≤ x.made → is_linked (led w.driver) x.member ≡ true
  half_led x under adds made =
      let t : Schedule = w.driver.periodic.list.members.schedule in
      let on : is_led x ≡ true = ap (λ (b : Bool). b || nat_lt 0 x.made) adds ∙ lt-ltb 0 x.made (omega (arith, made)) in
      ap (λ (z : Schedule). is_linked z x.member) (ap (led_by t) under ∙ ap (λ (b : Bool). if b then t else without_member t x.member) on)
      ∙ (subst (HasMember t) under frames.list.order.member).1

  pub elsewhere : (row : DriverRow) → driver_row (driver_parts w) ≡ row → LeavesMembers w.driver (next_by row).driver
      → ((n : ℕ) → v.visits.kept n ≡ true → next_of (next_by row).memory n ≡ next_of w.memory n) → AreRecent (next_by row).driver (next_by row).registers.frame_index v.visits.left
      → IsGoneOn start w (driver_next w) vs
  elsewhere row is leaves links are =
      subst (λ (r : DriverRow). IsGoneOn start w (next_by r) vs) (sym is)
      (gone_on start w (next_by row) vs v.visits frames.spread (subst (λ (r : DriverRow). IsListSpread (next_by r).driver) is spread_next) half_led
      (record {
        leaves = leaves;
        links = links;
        left_are = are;
        control = refl;
        kept_stay = λ n on. row_back row (driver_parts w) k.now.planned n;
        met_stay = λ n kind on. row_back row (driver_parts w) k.now.planned n;
        kept_framed = λ n x on.
            subst (λ (r : DriverRow). IsFramedAs w.driver n x → IsFramedAs (next_by r).driver n x) is
            (let there = v.left_within n on in driver_framed s w k v.visits.left n there.0 x v.visits.left_are there.1);
        met_framed = λ n kind x on.
            subst (λ (r : DriverRow). IsFramedAs w.driver n x → IsFramedAs (next_by r).driver n x) is
            (driver_framed s w k v.visits.left n kind x v.visits.left_are on);
        starts_none = λ e f n on.
            subst (λ (r : DriverRow). IsActiveDescriptor (next_by r).driver (next_by r).memory e f n → IsActiveDescriptor w.driver w.memory e f n) is
            (let there = v.within n on in driver_before s w k e f n there.0 there.1);
      }))

  -- ---- registers

  pub rest_visits : driver_row (driver_parts w) ≡ rows.Rest → IsGoneOn start w (driver_next w) vs
  rest_visits is =
      subst (λ (r : DriverRow). IsGoneOn start w (next_by r) vs) (sym is)
      (record { visits = v.visits; back = record { came = λ n off t. t; stood = λ n off h. h } })

  pub status_visits : (heard : Bool) → driver_row (driver_parts w) ≡ rows.ReadStatus heard → IsGoneOn start w (driver_next w) vs
  status_visits heard is = elsewhere (rows.ReadStatus heard) is (same_list w.driver (next_by (rows.ReadStatus heard)).driver refl) (λ n on. refl) v.visits.left_are

  pub cleared_visits : driver_row (driver_parts w) ≡ rows.ClearAdvance → IsGoneOn start w (driver_next w) vs
  cleared_visits is = elsewhere rows.ClearAdvance is (same_list w.driver (next_by rows.ClearAdvance).driver refl) (λ n on. refl) v.visits.left_are

  pub doorbell_visits : driver_row (driver_parts w) ≡ rows.RingBell → IsGoneOn start w (driver_next w) vs
  doorbell_visits is = elsewhere rows.RingBell is (same_list w.driver (next_by rows.RingBell).driver refl) (λ n on. refl) v.visits.left_are

  pub frame_read_visits : (n : ℕ) → driver_row (driver_parts w) ≡ rows.ReadFrame n → IsGoneOn start w (driver_next w) vs
  frame_read_visits n is =
      let due : IsDue (driver_parts w) (rows.ReadFrame n) = subst (IsDue (driver_parts w)) is (each_event_is_due (driver_parts w)) in
      elsewhere (rows.ReadFrame n) is (same_list w.driver (next_by (rows.ReadFrame n)).driver refl) (λ n on. refl)
      (read_recent w.driver (next_by (rows.ReadFrame n)).driver v.visits.left w.registers.frame_index refl refl refl (ap (λ (i : ℕ). read_again i w.driver.periodic.removals) due.1) v.visits.left_are)

  -- ---- what is owed to a stalled endpoint

  pub mend_visits : (x : Mend) → driver_row (driver_parts w) ≡ rows.Mend x → IsGoneOn start w (driver_next w) vs
  mend_visits x is =
      let due : IsDue (driver_parts w) (rows.Mend x) = subst (IsDue (driver_parts w)) is (each_event_is_due (driver_parts w)) in
      let mending : IsMending x = first_mend w.driver.mends x due.1 k.now.framed.place.sound.ring.mends in
      elsewhere (rows.Mend x) is (same_list w.driver (next_by (rows.Mend x)).driver refl)
      (λ n on.
      subst (λ (i : ℕ). next_of (store w.driver.book w.memory x.queue x.at x.value) i ≡ next_of w.memory i) (v.visits.ranked.named n on)
      (ap (λ (i : ℕ). name_of (link_read i)) (mend_left w.driver.book w.memory x (id_of (v.visits.who n) / 32) mending))) v.visits.left_are

  -- ---- the unfinished command's own events

  own_row : (row : DriverRow) (g : DriverContent) → driver_row (driver_parts w) ≡ row → (next : IsNextOf (driver_parts w) row) → g.periodic.list ≡ w.driver.periodic.list → g.made ≡ w.driver.made
      → (next_by row).driver ≡ advanced_by g w.driver.command → (next_by row).registers.frame_index ≡ w.registers.frame_index → AreRecent (no_command g) w.registers.frame_index v.visits.left
      → ((n : ℕ) → v.visits.kept n ≡ true → next_of (next_by row).memory n ≡ next_of w.memory n) → IsGoneOn start w (driver_next w) vs
  own_row row g is next list made driver_is index are links =
      let c : Command = next.command in
      let never : (e : ℕ) → c ≡ unfinished.Unchain e → ⊥ = no_events c w.driver.made row next.next in
      let then_is : (next_by row).driver ≡ advanced_by g (Some c) = driver_is ∙ ap (advanced_by g) next.unfinished in
      let low : g.made < length (events_of c) = subst (λ (i : ℕ). i < length (events_of c)) (sym made) (some_below (events_of c) w.driver.made row next.next) in
      elsewhere row is (subst (LeavesMembers w.driver) (sym then_is) (own_leaves w.driver g c list low frames.list.order.kept)) links
      (subst (λ (i : ℕ). AreRecent (next_by row).driver i v.visits.left) (sym index)
      (subst (λ (f : DriverContent). AreRecent f w.registers.frame_index v.visits.left) (sym then_is) (own_recent g c never v.visits.left w.registers.frame_index are)))

  stays : (row : DriverRow) → IsNextOf (driver_parts w) row → (e : ℕ) → w.driver.command ≡ Some (unfinished.Unchain e) → ⊥
  stays row next = not_unchain w.driver.command next.command next.unfinished (no_events next.command w.driver.made row next.next)

  dropped : (row : DriverRow) → IsNextOf (driver_parts w) row → AreRecent (no_command w.driver) w.registers.frame_index v.visits.left
  dropped row next = no_unchain w.driver v.visits.left w.registers.frame_index (stays row next) v.visits.left_are

  pub lend_visits : driver_row (driver_parts w) ≡ rows.Lend → IsGoneOn start w (driver_next w) vs
  lend_visits is =
      let next : IsNextOf (driver_parts w) rows.Lend = subst (IsDue (driver_parts w)) is (each_event_is_due (driver_parts w)) in
      let h : Holding = lend_taken (holding w.driver.book w.memory) in
      own_row rows.Lend (record w.driver { book = h.book }) is next refl refl refl refl (dropped rows.Lend next)
      (λ n on. ap (λ (ws : List ℕ). next_of (record h.memory { words = ws }) n) (lent_words (holding w.driver.book w.memory)))

  pub store_visits : (b at x : ℕ) → driver_row (driver_parts w) ≡ rows.Store b at x → IsNextOf (driver_parts w) (rows.Store b at x) → IsGoneOn start w (driver_next w) vs
  store_visits b at x is next =
      let sound = k.now.framed.place.sound in
      own_row (rows.Store b at x) w.driver is next refl refl refl refl (dropped (rows.Store b at x) next)
      (λ n on.
      let there = v.left_within n on in
      own_store (driver_parts w) sound next.command b at x n next.unfinished next.next
      (has_name w.driver v.visits.left w.registers.frame_index sound.owners sound.listed (stays (rows.Store b at x) next) v.visits.left_are n there.0 there.1))

  -- ---- descriptors get their frames

  abbrev noted_by : ℕ → ℕ → ℕ → DriverContent
  noted_by e t count =
      with_notes w.driver w.registers.frame_index (take count (drop t w.driver.transfers)) (framed_notes w.driver w.registers.frame_index e t count (placement_at w.driver e))

  pub frames_visits : driver_row (driver_parts w) ≡ rows.Frames → IsGoneOn start w (driver_next w) vs
  frames_visits is =
      let next : IsNextOf (driver_parts w) rows.Frames = subst (IsDue (driver_parts w)) is (each_event_is_due (driver_parts w)) in
      let i : IsIso next.command = iso_frames next.command w.driver.made next.next in
      own_row rows.Frames (noted_by i.endpoint i.first i.count) is next refl refl
      (ap (λ (o : Option Command). framed_by w.driver w.registers.frame_index o) (next.unfinished ∙ ap (λ (c : Command). Some c) i.is)) refl
      (read_recent (no_command w.driver) (no_command (noted_by i.endpoint i.first i.count)) v.visits.left w.registers.frame_index refl refl refl refl (dropped rows.Frames next)) (λ n on. refl)

  -- ---- .. and are lent

  pub described_lent_visits : driver_row (driver_parts w) ≡ rows.LendDescriptors → IsGoneOn start w (driver_next w) vs
  described_lent_visits is =
      let next : IsNextOf (driver_parts w) rows.LendDescriptors = subst (IsDue (driver_parts w)) is (each_event_is_due (driver_parts w)) in
      let i : IsIso next.command = iso_lends next.command w.driver.made next.next in
      let command : w.driver.command ≡ Some (unfinished.Iso i.endpoint i.first i.count) = next.unfinished ∙ ap (λ (c : Command). Some c) i.is in
      let low : w.driver.made < 2
      = subst (λ (c : Command). w.driver.made < length (events_of c)) i.is (some_below (events_of next.command) w.driver.made rows.LendDescriptors next.next) in
      let a : AwaitsLend w.driver w.memory i.endpoint i.first = k.awaiting i.endpoint i.first i.count command low in
      let sound = k.now.framed.place.sound in
      let lending : IsLending (driver_parts w) i.first a.endpoint.desc
      = record { await = a.await; links = descriptors_are_given_links w.driver sound.listed frames.list.order; owners = sound.owners; stands = sound.stands; shape = sound.shape } in
      let leaves : Leaves w.memory (next_by rows.LendDescriptors).memory = lend_leaves (driver_parts w) i.first a.endpoint.desc lending in
      own_row rows.LendDescriptors (record w.driver { book = (lend_taken (holding w.driver.book (linked_by w.driver w.memory w.driver.command))).book }) is next refl refl refl refl (dropped rows.LendDescriptors next)
      (λ n on.
      let there = v.within n on in
      let own : HasOwn (both s.descs s.parts) n = own_met (met w.driver s.recent) (both s.descs s.parts) n there.0 (k.now.framed.runs.members n there.0 there.1) in
      ap (λ (x : ℕ). name_of (link_read x)) (leaves.words n (own_reached w.memory n own.structure (k.now.framed.runs.ring.tells.each n n own.structure own.here) own.link)))
