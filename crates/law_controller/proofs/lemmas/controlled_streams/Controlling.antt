-- Each event of the controller over a ring.
use Rattle.std.proofs.Common.{◌≡◌, ◌≢◌, ℕ, ◌+◌, ◌*◌, ◌/◌, ◌%◌, ◌^◌, ◌<◌, Bool, true, false, not, ◌&&◌, if◌then◌else◌, List, length, get_or, slice_index, Some, ap, refl, sym, subst, ◌∙◌, arith}
use Rattle.law_controller.proofs.Common.{element_low as low, over_not_periodic, asynchronous_not_periodic as entered_part, asynchronous_not_periodic, copied_in_hand, periodic_not_asynchronous, over_apart, table_apart, later_empty}
use Rattle.law_common.proofs.Booleans.{and_false}
use Rattle.usb_base.specs.declared.packets.Ask.{Ask}
use Rattle.usb_base.specs.declared.packets.Reply.{Reply}
use Rattle.word_mem.specs.Memory.{word_at, reaches}
use Rattle.word_mem.proofs.Words.{get_or-words_in}
use Rattle.link_words.specs.Links.{link_read, is_end}
use Rattle.op_registers.specs.RegisterFile.{RegisterFile, levels_of}
use Rattle.op_registers.specs.Events.{after_begin, next_index}
use Rattle.hc_copy.specs.Overlay.{advanced}
use Rattle.hc_copy.specs.WriteBack.{moved_by}
use Rattle.async_walk.specs.declared.state.WalkStep.{WalkStep}
use Rattle.async_walk.specs.declared.state.WalkStep.TheVariants as walks
use Rattle.async_walk.specs.Rows.{WalkPlace}
use Rattle.periodic_walk.specs.Walk.{is_over}
use Rattle.hc_core.specs.declared.controller.MicroframePart.{MicroframePart}
use Rattle.hc_core.specs.declared.controller.MicroframePart.TheVariants.{Over, Periodic, Asynchronous}
use Rattle.hc_core.specs.declared.controller.ControllerRow.{ControllerRow}
use Rattle.hc_core.specs.declared.controller.ControllerRow.TheVariants as rows
use Rattle.hc_core.specs.Controller.{Content, microframe_row, part_row, enter_row, ring_row, element_address, begun_at, began, time_of, begun_control, entered, walk_place, walk_step, part_after, Walks, HasRow}
use Rattle.law_structures.specs.lent_structures.Structures.{QueueHead, Table, HoldsTable, Structures as StructurePart, StructureSets}
use Rattle.law_structures.proofs.lemmas.lent_structures.Names.{put_beside}
use Rattle.law_structures.proofs.lemmas.lent_structures.Found.{back_beside}
use Rattle.law_ring.specs.Hand.{Copy, Settlement, settled_queue_of, Hand, Empty, Settled}
use Rattle.claims_base.specs.Controller.{Base, base_of}
use Rattle.law_ring.specs.Ring.{IsCopied, IsSettled, IsInHand, IsRing}
use Rattle.law_ring.specs.Effects.{received_into, Effect, reads, passes, ends, takes, makes, writes_back, AreBytesHeard}
use Rattle.law_ring.proofs.Ringing.{ring_at, cursor_same}
use Rattle.law_ring.specs.Streams.{Streams}
use Rattle.law_ring.proofs.StreamEvents.{each_event_moves_one_stream}
use Rattle.law_controller.specs.controlled_streams.Control.{IsOn, AreEmpty, IsFrameless, off, empty, IsControlled, a_microframe, a_step, Controls}

-- ---- the element of a frame

-- an element of the frame list is read
pub element_reached : (base : Base) (member : ℕ → Bool) (parts : StructureSets) (hand : Hand) (c : Content) (i : ℕ) → IsControlled base member parts hand c → i < 1024 → reaches c.memory (base.periodic_list_base + 4 * i) ≡ true
element_reached base member parts hand c i k below =
    let h : HoldsTable c.memory base.periodic_list_base k.list.words = k.ring.tells.each base.periodic_list_base base.periodic_list_base (Table k.list.words) k.list.here in
    h.lent i (let size = k.list.size in omega (arith, below, size))

pub element_word : (base : Base) (member : ℕ → Bool) (parts : StructureSets) (hand : Hand) (c : Content) (i : ℕ) → (k : IsControlled base member parts hand c) → i < 1024 → word_at c.memory (base.periodic_list_base + 4 * i) ≡ slice_index k.list.words i
element_word base member parts hand c i k below =
    let h : HoldsTable c.memory base.periodic_list_base k.list.words = k.ring.tells.each base.periodic_list_base base.periodic_list_base (Table k.list.words) k.list.here in
    sym (get_or-words_in c.memory.words base.periodic_list_base (length k.list.words) i (let size = k.list.size in omega (arith, below, size))) ∙ ap (λ ws. get_or ws i 0) h.words

-- the address of the element of the frame whose microframe begins
abbrev stepped : Content → Content
stepped c = record c { registers = after_begin c.registers }

element_of : RegisterFile → ℕ
element_of r = r.frame_index / 8 % 2 ^ levels_of r.list_size

element_at : (base : Base) (member : ℕ → Bool) (parts : StructureSets) (hand : Hand) (c : Content) → IsControlled base member parts hand c → element_address (stepped c).registers ≡ base.periodic_list_base + 4 * element_of (stepped c).registers
unfolding element_of
element_at base member parts hand c k = ap (λ (b : Base). b.periodic_list_base + 4 * element_of (stepped c).registers) k.ring.registers

element_low : (r : RegisterFile) → element_of r < 1024
unfolding element_of
element_low r = low r.list_size (r.frame_index / 8)

-- ---- a microframe begins

abbrev begun_content : Bool → Content → Content
begun_content allowed c = record (stepped c) {
  control = begun_control (word_at c.memory (element_address (stepped c).registers)) (stepped c).registers.frame_index (time_of allowed) c.control;
}

began_is : (base : Base) (member : ℕ → Bool) (parts : StructureSets) (hand : Hand) (c : Content) (allowed : Bool) → IsControlled base member parts hand c → began allowed c ≡ begun_content allowed c
began_is base member parts hand c allowed k =
    ap (λ (b : Bool). begun_at b allowed (stepped c))
    (ap (reaches c.memory) (element_at base member parts hand c k) ∙ element_reached base member parts hand c (element_of (stepped c).registers) k (element_low (stepped c).registers))

begun_over : (base : Base) (member : ℕ → Bool) (parts : StructureSets) (hand : Hand) (c : Content) (allowed : Bool) → (k : IsControlled base member parts hand c) → AreEmpty k.list.words → is_over (begun_content allowed c).control.frame ≡ true
begun_over base member parts hand c allowed k none =
    ap (λ (w : ℕ). is_end (link_read w)) (ap (word_at c.memory) (element_at base member parts hand c k) ∙ element_word base member parts hand c (element_of (stepped c).registers) k (element_low (stepped c).registers))
    ∙ ap is_end (none (element_of (stepped c).registers) (element_low (stepped c).registers))

begun_frameless : (base : Base) (member : ℕ → Bool) (parts : StructureSets) (hand : Hand) (c : Content) (allowed : Bool) → (k : IsControlled base member parts hand c) → IsFrameless base k.list.words c → IsFrameless base k.list.words (begun_content allowed c)
begun_frameless base member parts hand c allowed k (off is) = off is
begun_frameless base member parts hand c allowed k (empty none before) = empty none (λ part. begun_over base member parts hand c allowed k none)

entered_frameless : (base : Base) (words : List ℕ) (c : Content) → IsFrameless base words c → IsFrameless base words (entered c)
entered_frameless base words c (off is) = off is
entered_frameless base words c (empty none before) = empty none (λ part. absurd (entered_part part))

begun_ring : (base : Base) (member : ℕ → Bool) (parts : StructureSets) (hand : Hand) (c : Content) (allowed : Bool) → IsControlled base member parts hand c → c.control.part ≡ Over → IsControlled base member parts hand (begun_content allowed c)
begun_ring base member parts hand c allowed k over = record {
  ring = ring_at base member parts hand hand (walk_place c) (walk_place (begun_content allowed c)) k.ring refl refl
      (cursor_same member (walk_place c) (walk_place (begun_content allowed c)) refl refl k.ring.cursor) k.ring.held k.ring.in_hand;
  between = λ part. k.between (λ same. over_apart c.control.part over same);
  list = k.list;
  frameless = begun_frameless base member parts hand c allowed k k.frameless;
}

-- ---- an event of the ring's walk

settled_in_hand : (base : Base) (member : ℕ → Bool) (parts : StructureSets) (hand : Hand) (p : WalkPlace) (c : Copy) (s : Settlement) → IsRing base member parts hand p → hand ≡ Settled c s → IsCopied member parts c
settled_in_hand base member parts hand p c s k is = let both : IsCopied member parts c × IsSettled c.queue p.walk.reply s = subst (IsInHand member parts p.walk.reply) is k.in_hand in both.0

apart_of : (member : ℕ → Bool) (parts : StructureSets) (c : Copy) (n : ℕ) (ws : List ℕ) → IsCopied member parts c → parts n n ≡ Some (Table ws) → n ≢ c.at
apart_of member parts c n ws k here same = table_apart (parts n n) c.queue ws (ap (λ (i : ℕ). parts i i) same ∙ k.here) here

-- so a table stays
list_kept : {W : Type 0} (transacts : W → Ask → List ℕ → Reply → W → Type 0) (base : Base) (member : ℕ → Bool) (parts : StructureSets) (hand : Hand) (p : WalkPlace) (wire after : W) (now : StructureSets) (later : Hand) (kind : WalkStep) (n : ℕ) (ws : List ℕ) → IsRing base member parts hand p → Effect transacts parts hand wire after now later kind → parts n n ≡ Some (Table ws) → now n n ≡ Some (Table ws)
list_kept transacts base member parts hand p wire after now later _ n ws k (reads r same quiet) here = ap (λ (x : StructureSets). x n n) same ∙ here
list_kept transacts base member parts hand p wire after now later _ n ws k (passes r same quiet) here = ap (λ (x : StructureSets). x n n) same ∙ here
list_kept transacts base member parts hand p wire after now later _ n ws k (ends r same quiet) here = ap (λ (x : StructureSets). x n n) same ∙ here
list_kept transacts base member parts hand p wire after now later _ n ws k (makes r same) here = ap (λ (x : StructureSets). x n n) same ∙ here
list_kept transacts base member parts hand p wire after now later _ n ws k (takes r quiet) here =
    ap (λ (x : StructureSets). x n n) r.now_is
    ∙ ap (λ (part : StructurePart). part n) (put_beside parts r.copy.at r.copy.at (QueueHead (advanced r.copy.queue r.element r.qtd)) n (apart_of member parts r.copy n ws (copied_in_hand base member parts hand p r.copy k r.in_hand) here)) ∙ here
list_kept transacts base member parts hand p wire after now later _ n ws k (writes_back r quiet) here =
    ap (λ (x : StructureSets). x n n) r.now_is
    ∙ ap (λ (part : StructurePart). part n)
    (back_beside parts r.copy.at r.copy.at r.copy.queue (settled_queue_of r.copy r.settled) (moved_by r.settled.outcome) r.settled.got (received_into (parts r.copy.at) r.copy.queue r.element r.settled.got) r.element n
    (apart_of member parts r.copy n ws (settled_in_hand base member parts hand p r.copy r.settled k r.in_hand) here)) ∙ here

-- the part goes on, or nothing is in hand any more
still_part : (p : MicroframePart) → p ≡ Asynchronous → p ≢ Asynchronous → ⊥
still_part p is differs = differs is

not_periodic : (kind : WalkStep) (part : MicroframePart) → part ≡ part_after Asynchronous kind → part ≡ Periodic → ⊥
not_periodic walks.Ended part is same = over_not_periodic (sym is ∙ same)
not_periodic walks.Fault part is same = over_not_periodic (sym is ∙ same)
not_periodic _ part is same = asynchronous_not_periodic (sym is ∙ same)

frameless_after : (base : Base) (words : List ℕ) (c new : Content) (kind : WalkStep) → new.control.part ≡ part_after Asynchronous kind → IsFrameless base words c → IsFrameless base words new
frameless_after base words c new kind is (off none) = off none
frameless_after base words c new kind is (empty none before) = empty none (λ part. absurd (not_periodic kind new.control.part is part))

-- the event of the walk over a ring, from the contents at which it begins
walked : {W : Type 0} (begins : W → ℕ → Bool → W → Type 0) (transacts : W → Ask → List ℕ → Reply → W → Type 0) (base : Base) (member : ℕ → Bool) (parts : StructureSets) (hand : Hand) (c : Content) (wire : W) (new : Content) (after : W) → IsControlled base member parts hand c → AreBytesHeard transacts wire after → Walks transacts c wire new after → Controls begins transacts base member parts hand wire after new
walked begins transacts base member parts hand c wire new after k heard walk =
    let s : Streams transacts base member parts hand wire after (walk_place new) (walk_step c) = each_event_moves_one_stream transacts base member parts hand (walk_place c) wire (walk_place new) after k.ring heard walk.walked in
    let h = s.happens in
    record {
      now = h.now;
      later = h.later;
      controlled = record {
        ring = h.ring;
        between = λ over. later_empty transacts parts hand wire after h.now h.later (walk_step c) new.control.part h.effect walk.part over;
        list = record { words = k.list.words; here = list_kept transacts base member parts hand (walk_place c) wire after h.now h.later (walk_step c) base.periodic_list_base k.list.words k.ring h.effect k.list.here; size = k.list.size };
        frameless = frameless_after base k.list.words c new (walk_step c) walk.part k.frameless;
      };
      effect = a_step (record { kind = walk_step c; effect = h.effect; streams = s.streams });
    }

-- the asynchronous part begins
enters : (base : Base) (member : ℕ → Bool) (parts : StructureSets) (hand : Hand) (c : Content) → IsControlled base member parts hand c → hand ≡ Empty → IsControlled base member parts Empty (entered c)
enters base member parts hand c k nothing = record {
  ring = ring_at base member parts hand Empty (walk_place c) (walk_place (entered c)) k.ring refl refl
      (cursor_same member (walk_place c) (walk_place (entered c)) refl refl k.ring.cursor) refl tt;
  between = λ over. refl;
  list = k.list;
  frameless = entered_frameless base k.list.words c k.frameless;
}

-- ---- each row

-- the row is told by the part
part_says : (base : Base) (member : ℕ → Bool) (parts : StructureSets) (hand : Hand) (c : Content) → IsControlled base member parts hand c → IsOn base → microframe_row c.registers c.control ≡ part_row c.registers c.control.frame c.control.part
part_says base member parts hand c k on = ap (λ (b : Bool). if b then part_row c.registers c.control.frame c.control.part else rows.Idle) (ap (λ (b : Base). b.run) k.ring.registers ∙ on.run)

no_frame : (base : Base) (words : List ℕ) (c : Content) → base_of c.registers ≡ base → IsFrameless base words c → c.control.part ≡ Periodic → (c.registers.periodic_enable && not (is_over c.control.frame)) ≡ false
no_frame base words c same (off is) part = ap (λ (b : Bool). b && not (is_over c.control.frame)) (ap (λ (b : Base). b.periodic_enable) same ∙ is)
no_frame base words c same (empty none over) part = ap (λ (b : Bool). c.registers.periodic_enable && not b) (over part) ∙ and_false c.registers.periodic_enable

periodic_row : (base : Base) (member : ℕ → Bool) (parts : StructureSets) (hand : Hand) (c : Content) → IsControlled base member parts hand c → IsOn base → c.control.part ≡ Periodic → part_row c.registers c.control.frame Periodic ≡ rows.Enter
periodic_row base member parts hand c k on part =
    ap (λ (b : Bool). if b then rows.Frame else enter_row c.registers.async_enable) (no_frame base k.list.words c k.ring.registers k.frameless part)
    ∙ ap enter_row (ap (λ (b : Base). b.async_enable) k.ring.registers ∙ on.async_enable)

by_part : {W : Type 0} (begins : W → ℕ → Bool → W → Type 0) (transacts : W → Ask → List ℕ → Reply → W → Type 0) (base : Base) (member : ℕ → Bool) (parts : StructureSets) (hand : Hand) (c : Content) (wire : W) (new : Content) (after : W) (part : MicroframePart) → c.control.part ≡ part → IsControlled base member parts hand c → IsOn base → AreBytesHeard transacts wire after → HasRow begins transacts (part_row c.registers c.control.frame part) c wire new after → Controls begins transacts base member parts hand wire after new
by_part begins transacts base member parts hand c wire new after Over part k on heard row =
    let is = row.contents ∙ began_is base member parts hand c row.allowed k in
    subst (Controls begins transacts base member parts hand wire after) (sym is)
    (record {
      now = parts;
      later = hand;
      controlled = begun_ring base member parts hand c row.allowed k part;
      effect = a_microframe (record { index = next_index c.registers.frame_index; allowed = row.allowed; asked = row.asked; parts_stay = refl; hand_stays = refl });
    })
by_part begins transacts base member parts hand c wire new after Periodic part k on heard row =
    let nothing = k.between (λ same. periodic_not_asynchronous (sym part ∙ same)) in
    subst (λ (h : Hand). Controls begins transacts base member parts h wire after new) (sym nothing)
    (walked begins transacts base member parts Empty (entered c) wire new after (enters base member parts hand c k nothing) heard
    (subst (λ (r : ControllerRow). HasRow begins transacts r c wire new after) (periodic_row base member parts hand c k on part) row))
by_part begins transacts base member parts hand c wire new after Asynchronous part k on heard row =
    walked begins transacts base member parts hand c wire new after k heard
    (subst (λ (r : ControllerRow). HasRow begins transacts r c wire new after) (ap ring_row (ap (λ (b : Base). b.async_enable) k.ring.registers ∙ on.async_enable)) row)

pub each_event_of_the_controller : {W : Type 0} (begins : W → ℕ → Bool → W → Type 0) (transacts : W → Ask → List ℕ → Reply → W → Type 0) (base : Base) (member : ℕ → Bool) (parts : StructureSets) (hand : Hand) (c : Content) (wire : W) (new : Content) (after : W) → IsControlled base member parts hand c → IsOn base → AreBytesHeard transacts wire after → HasRow begins transacts (microframe_row c.registers c.control) c wire new after → Controls begins transacts base member parts hand wire after new
each_event_of_the_controller begins transacts base member parts hand c wire new after k on heard row =
    by_part begins transacts base member parts hand c wire new after c.control.part refl k on heard
    (subst (λ (r : ControllerRow). HasRow begins transacts r c wire new after) (part_says base member parts hand c k on) row)
