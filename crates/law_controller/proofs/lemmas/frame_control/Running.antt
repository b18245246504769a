-- Each event of the controller over a ring and the frames.
use Rattle.std.proofs.Common.{◌≡◌, ◌≢◌, ℕ, ◌+◌, ◌*◌, ◌/◌, ◌%◌, ◌^◌, ◌<◌, Bool, true, false, not, ◌&&◌, if◌then◌else◌, List, length, get_or, slice_index, Option, Some, None, ap, refl, sym, subst, ◌∙◌, ⊎_elim, inl, inr, arith}
use Rattle.std.proofs.lemmas.Bool.{and_parts, true≢false}
use Rattle.law_controller.proofs.Common.{element_low as low, over_not_periodic, asynchronous_not_periodic, periodic_not_asynchronous, table_head, over_apart, later_empty}
use Rattle.law_frames.proofs.Common.{none_some}
use Rattle.usb_base.specs.declared.packets.Ask.{Ask}
use Rattle.usb_base.specs.declared.packets.Reply.{Reply}
use Rattle.word_mem.specs.Memory.{Mem, word_at, reaches}
use Rattle.word_mem.proofs.Words.{get_or-words_in}
use Rattle.link_words.specs.declared.kinds.Link.{Link}
use Rattle.link_words.specs.Links.{link_read}
use Rattle.itd_sitd.specs.declared.itd.Itd.{Itd}
use Rattle.itd_sitd.specs.declared.sitd.Sitd.{Sitd}
use Rattle.op_registers.specs.RegisterFile.{RegisterFile, levels_of}
use Rattle.op_registers.specs.Events.{after_begin, next_index}
use Rattle.async_walk.specs.declared.state.WalkStep.{WalkStep}
use Rattle.async_walk.specs.declared.state.WalkStep.TheVariants as walks
use Rattle.async_walk.specs.Walk.{Walk}
use Rattle.periodic_walk.specs.declared.state.Hand.{Hand as Held}
use Rattle.periodic_walk.specs.Walk.{Walk as FrameWalk, over_at, is_over}
use Rattle.hc_core.specs.declared.controller.MicroframePart.{MicroframePart}
use Rattle.hc_core.specs.declared.controller.MicroframePart.TheVariants.{Over, Periodic, Asynchronous}
use Rattle.hc_core.specs.declared.controller.ControllerRow.{ControllerRow}
use Rattle.hc_core.specs.declared.controller.ControllerRow.TheVariants as rows
use Rattle.hc_core.specs.Controller.{Control, Content, microframe_row, part_row, enter_row, ring_row, element_address, begun_at, began, time_of, begun_control, entered, frame_place, walk_place, frame_step, walk_step, part_after, WalksFrame, Walks, HasRow}
use Rattle.law_structures.specs.lent_structures.Structures.{Structure, Table, Isochronous, SplitIsochronous, HoldsTable, Structures, StructureSets, Tells}
use Rattle.law_structures.specs.lent_structures.Sound.{IsMember}
use Rattle.law_ring.specs.Hand.{Hand, Empty}
use Rattle.claims_base.specs.Controller.{Base, base_of}
use Rattle.law_ring.specs.Ring.{IsInHand, IsRing}
use Rattle.law_ring.specs.Effects.{AreBytesHeard}
use Rattle.law_ring.proofs.Ringing.{ring_at, cursor_same}
use Rattle.law_ring.specs.Streams.{Streams}
use Rattle.law_ring.proofs.StreamEvents.{each_event_moves_one_stream}
use Rattle.law_controller.specs.controlled_streams.Control.{IsOn, FrameList, a_microframe, a_step}
use Rattle.law_frames.specs.Met.{Kind, AQueue, AnItd, ASitd, LeadsTo, IsMetQueue, IsMetItd, IsMetSitd, IsMetAs}
use Rattle.law_frames.specs.FrameHand.{FrameHand, Nothing, OfQueue, OfSettled, OfItd, OfSitd, frame_held}
use Rattle.law_frames.specs.Frame.{IsFrameWalk}
use Rattle.law_frames.specs.FrameEffects.{FrameHappens}
use Rattle.law_frames.specs.FrameEffects as effects
use Rattle.law_frames.specs.FrameSteps.{EventHappens}
use Rattle.law_controller.specs.frame_control.Both.{AreMet, AreApart, RunsBoth, BothEffect, of_ring, of_frame, ControlsBoth}
use Rattle.law_frames.proofs.Leaving.{frame_leaves}
use Rattle.law_controller.proofs.lemmas.frame_control.Staying.{ring_leaves}

-- ---- parts of a microframe

-- after an event of the ring's walk it isn't the periodic part
not_periodic : (kind : WalkStep) (part : MicroframePart) → part ≡ part_after Asynchronous kind → part ≢ Periodic
not_periodic walks.Ended part is same = over_not_periodic (sym is ∙ same)
not_periodic walks.Fault part is same = over_not_periodic (sym is ∙ same)
not_periodic _ part is same = asynchronous_not_periodic (sym is ∙ same)

-- ---- whose parts are beside

table_no_itd : (o : Option Structure) (ws : List ℕ) (v : Itd) → o ≡ Some (Table ws) → o ≡ Some (Isochronous v) → ⊥
table_no_itd o ws v table itd = cc

table_no_sitd : (o : Option Structure) (ws : List ℕ) (v : Sitd) → o ≡ Some (Table ws) → o ≡ Some (SplitIsochronous v) → ⊥
table_no_sitd o ws v table sitd = cc

-- a table is no structure of a queue head of the ring, and none of one that is met
table_beside_ring : (member : ℕ → Bool) (parts : StructureSets) (n : ℕ) (ws : List ℕ) → ((a : ℕ) → member a ≡ true → IsMember member a (parts a)) → parts n n ≡ Some (Table ws) → (a : ℕ) → member a ≡ true → n ≢ a
table_beside_ring member parts n ws members here a on same = table_head (parts n n) ws (members a on).queue here (ap (λ (i : ℕ). parts i i) same ∙ (members a on).here)

table_beside_met : (met : ℕ → Option Kind) (parts : StructureSets) (n : ℕ) (ws : List ℕ) → AreMet met parts → parts n n ≡ Some (Table ws) → (a : ℕ) (kind : Kind) → met a ≡ Some kind → n ≢ a
table_beside_met met parts n ws members here a AQueue on same =
    let k : IsMetQueue met a (parts a) = members a AQueue on in
    table_head (parts n n) ws k.part_is.queue here (ap (λ (i : ℕ). parts i i) same ∙ k.part_is.here)
table_beside_met met parts n ws members here a AnItd on same =
    let k : IsMetItd met a (parts a) = members a AnItd on in
    table_no_itd (parts n n) ws k.itd here (ap (λ (i : ℕ). parts i i) same ∙ k.here)
table_beside_met met parts n ws members here a ASitd on same =
    let k : IsMetSitd met a (parts a) = members a ASitd on in
    table_no_sitd (parts n n) ws k.sitd here (ap (λ (i : ℕ). parts i i) same ∙ k.here)

member_beside_met : (member : ℕ → Bool) (met : ℕ → Option Kind) (n : ℕ) → AreApart member met → member n ≡ true → (a : ℕ) (kind : Kind) → met a ≡ Some kind → n ≢ a
member_beside_met member met n apart on a kind met_is same = true≢false (sym on ∙ ap member same ∙ apart a kind met_is)

met_beside_ring : (member : ℕ → Bool) (met : ℕ → Option Kind) (n : ℕ) (kind : Kind) → AreApart member met → met n ≡ Some kind → (a : ℕ) → member a ≡ true → n ≢ a
met_beside_ring member met n kind apart on a member_is same = true≢false (sym member_is ∙ sym (ap member same) ∙ apart n kind on)

abbrev list_stays : (base : Base) (parts now : StructureSets) → FrameList parts base → now base.periodic_list_base ≡ parts base.periodic_list_base → FrameList now base
list_stays base parts now k same = record { words = k.words; here = ap (λ (part : Structures). part base.periodic_list_base) same ∙ k.here; size = k.size }

-- ---- an event of the ring's walk

-- .. from the contents at which it begins; there is nothing in the frames' hand
ring_goes : {W : Type 0} (begins : W → ℕ → Bool → W → Type 0) (transacts : W → Ask → List ℕ → Reply → W → Type 0) (base : Base) (member : ℕ → Bool) (met : ℕ → Option Kind) (parts : StructureSets) (hand : Hand) (frame before : FrameHand) (c : Content) (old : Control) (wire : W) (new : Content) (after : W)
    → before ≡ Nothing → RunsBoth base member met parts hand frame c → AreBytesHeard transacts wire after
    → Walks transacts c wire new after → ControlsBoth begins transacts base member met parts hand before old wire after new
ring_goes begins transacts base member met parts hand frame before c old wire new after free k heard walk =
    let s : Streams transacts base member parts hand wire after (walk_place new) (walk_step c) = each_event_moves_one_stream transacts base member parts hand (walk_place c) wire (walk_place new) after k.ring heard walk.walked in
    let h = s.happens in
    let over : new.control.part ≢ Periodic = not_periodic (walk_step c) new.control.part walk.part in
    let stays : (n : ℕ) → ((a : ℕ) → member a ≡ true → n ≢ a) → h.now n ≡ parts n = λ n. ring_leaves transacts base member parts hand (walk_place c) wire after h.now h.later (walk_step c) n k.ring h.effect in
    record {
      now = h.now;
      later = h.later;
      frame_later = Nothing;
      runs = record {
        ring = h.ring;
        between = λ differs. later_empty transacts parts hand wire after h.now h.later (walk_step c) new.control.part h.effect walk.part differs;
        list = list_stays base parts h.now k.list (stays base.periodic_list_base (table_beside_ring member parts base.periodic_list_base k.list.words k.ring.members k.list.here));
        elements = k.elements;
        members = λ n kind on. subst (λ (part : Structures). IsMetAs met n part kind) (sym (stays n (met_beside_ring member met n kind k.apart on))) (k.members n kind on);
        apart = k.apart;
        walk = λ part. absurd (over part);
        outside = λ part. refl;
      };
      effect = of_ring (a_step (record { kind = walk_step c; effect = h.effect; streams = s.streams })) (free, refl);
    }

-- the asynchronous part begins, whatever was in the frames' hand
enters : (base : Base) (member : ℕ → Bool) (met : ℕ → Option Kind) (parts : StructureSets) (hand : Hand) (frame : FrameHand) (c : Content) → RunsBoth base member met parts hand frame c → RunsBoth base member met parts Empty Nothing (entered c)
enters base member met parts hand frame c k = record {
  ring = ring_at base member parts hand Empty (walk_place c) (walk_place (entered c)) k.ring refl refl
      (cursor_same member (walk_place c) (walk_place (entered c)) refl refl k.ring.cursor) refl tt;
  between = λ over. refl;
  list = k.list;
  elements = k.elements;
  members = k.members;
  apart = k.apart;
  walk = λ part. absurd (asynchronous_not_periodic part);
  outside = λ part. refl;
}

-- ---- an event of the walk of the frames

later_nothing : {W : Type 0} (transacts : W → Ask → List ℕ → Reply → W → Type 0) (parts : StructureSets) (w : FrameWalk) (hand : FrameHand) (wire after : W) (now : StructureSets) (later : FrameHand) (kind : WalkStep) (part : MicroframePart) → effects.FrameEffect transacts parts w hand wire after now later kind → part ≡ part_after Periodic kind → part ≢ Periodic → later ≡ Nothing
later_nothing transacts parts w hand wire after now later _ part (effects.fetches none r same quiet) is over = absurd (over is)
later_nothing transacts parts w hand wire after now later _ part (effects.passes r nothing same quiet) is over = absurd (over is)
later_nothing transacts parts w hand wire after now later _ part (effects.ends none nothing same quiet) is over = nothing
later_nothing transacts parts w hand wire after now later _ part (effects.takes r quiet) is over = absurd (over is)
later_nothing transacts parts w hand wire after now later _ part (effects.makes r same) is over = absurd (over is)
later_nothing transacts parts w hand wire after now later _ part (effects.writes r quiet) is over = absurd (over is)

-- the ring is as it was, at the same place of its walk, with nothing in hand
ring_rests : (base : Base) (member : ℕ → Bool) (parts now : StructureSets) (hand : Hand) (c new : Content) → IsRing base member parts hand (walk_place c) → hand ≡ Empty → new.control.walk ≡ c.control.walk → base_of new.registers ≡ base_of c.registers
    → Tells new.memory now → ((n : ℕ) → member n ≡ true → now n ≡ parts n) → IsRing base member now hand (walk_place new)
ring_rests base member parts now hand c new k nothing same registers tells stays = record {
  tells = tells;
  members = λ n on. subst (IsMember member n) (sym (stays n on)) (k.members n on);
  registers = registers ∙ k.registers;
  start = k.start;
  cursor = cursor_same member (walk_place c) (walk_place new) registers (ap (λ (w : Walk). w.cursor) same) k.cursor;
  held = ap (λ (w : Walk). w.held) same ∙ k.held;
  in_hand = subst (IsInHand member now new.control.walk.reply) (sym nothing) tt;
}

frames_go : {W : Type 0} (begins : W → ℕ → Bool → W → Type 0) (transacts : W → Ask → List ℕ → Reply → W → Type 0) (base : Base) (member : ℕ → Bool) (met : ℕ → Option Kind) (parts : StructureSets) (hand : Hand) (frame : FrameHand) (c : Content) (wire : W) (new : Content) (after : W)
    → EventHappens transacts met parts frame → RunsBoth base member met parts hand frame c → c.control.part ≡ Periodic
    → c.registers.periodic_enable ≡ true → AreBytesHeard transacts wire after → WalksFrame transacts c wire new after
    → ControlsBoth begins transacts base member met parts hand frame c.control wire after new
frames_go begins transacts base member met parts hand frame c wire new after law k part enabled heard walk =
    let at : IsFrameWalk met parts frame (frame_place c) = k.walk part in
    let h : FrameHappens transacts met parts frame wire after (frame_place c) (frame_place new) (frame_step c) =
    law (frame_place c) wire (frame_place new) after (record { tells = k.ring.tells; members = k.members; walk = at }) heard walk.walked in
    let nothing : hand ≡ Empty = k.between (λ same. periodic_not_asynchronous (sym part ∙ same)) in
    let stays : (n : ℕ) → ((a : ℕ) (kind : Kind) → met a ≡ Some kind → n ≢ a) → h.now n ≡ parts n =
    λ n. frame_leaves transacts met parts c.control.frame frame wire after h.now h.later (frame_step c) n at.in_hand h.effect in
    record {
      now = h.now;
      later = hand;
      frame_later = h.later;
      runs = record {
        ring = ring_rests base member parts h.now hand c new k.ring nothing walk.ring h.registers h.frame.tells (λ n on. stays n (member_beside_met member met n k.apart on));
        between = λ differs. nothing;
        list = list_stays base parts h.now k.list (stays base.periodic_list_base (table_beside_met met parts base.periodic_list_base k.list.words k.members k.list.here));
        elements = k.elements;
        members = h.frame.members;
        apart = k.apart;
        walk = λ on. h.frame.walk;
        outside = ⊎_elim (λ (over : new.control.part ≢ Periodic). later_nothing transacts parts c.control.frame frame wire after h.now
            h.later (frame_step c) new.control.part h.effect walk.part over)
            (λ (off : base.periodic_enable ≡ false). absurd
            (true≢false (sym enabled ∙ ap (λ (b : Base). b.periodic_enable) k.ring.registers ∙ off)));
      };
      effect = of_frame (record { part = part; kind = frame_step c; effect = h.effect; nothing = nothing; hand_stays = refl });
    }

-- ---- a microframe begins

element_of : RegisterFile → ℕ
element_of r = r.frame_index / 8 % 2 ^ levels_of r.list_size

element_at : (r : RegisterFile) (base : Base) → base_of r ≡ base → element_address r ≡ base.periodic_list_base + 4 * element_of r
unfolding element_of
element_at r base is = ap (λ (b : Base). b.periodic_list_base + 4 * element_of r) is

element_low : (r : RegisterFile) → element_of r < 1024
unfolding element_of
element_low r = low r.list_size (r.frame_index / 8)

table_there : (m : Mem) (parts : StructureSets) (base : Base) → Tells m parts → (k : FrameList parts base) → HoldsTable m base.periodic_list_base k.words
table_there m parts base told k = told.each base.periodic_list_base base.periodic_list_base (Table k.words) k.here

-- an element of the frame list is read
element_reached : (m : Mem) (parts : StructureSets) (base : Base) (i : ℕ) → Tells m parts → FrameList parts base → i < 1024 → reaches m (base.periodic_list_base + 4 * i) ≡ true
element_reached m parts base i told k below = (table_there m parts base told k).lent i (let size = k.size in omega (arith, below, size))

element_word : (m : Mem) (parts : StructureSets) (base : Base) (i : ℕ) → Tells m parts → (k : FrameList parts base) → i < 1024 → word_at m (base.periodic_list_base + 4 * i) ≡ slice_index k.words i
element_word m parts base i told k below =
    sym (get_or-words_in m.words base.periodic_list_base (length k.words) i (let size = k.size in omega (arith, below, size))) ∙ ap (λ ws. get_or ws i 0) (table_there m parts base told k).words

abbrev stepped : Content → Content
stepped c = record c { registers = after_begin c.registers }

abbrev begun_content : Bool → Content → Content
begun_content allowed c = record (stepped c) {
  control = begun_control (word_at c.memory (element_address (stepped c).registers)) (stepped c).registers.frame_index (time_of allowed) c.control;
}

began_is : (base : Base) (member : ℕ → Bool) (met : ℕ → Option Kind) (parts : StructureSets) (hand : Hand) (frame : FrameHand) (c : Content) (allowed : Bool) → RunsBoth base member met parts hand frame c → began allowed c ≡ begun_content allowed c
began_is base member met parts hand frame c allowed k =
    ap (λ (b : Bool). begun_at b allowed (stepped c))
    (ap (reaches c.memory) (element_at (stepped c).registers base k.ring.registers) ∙ element_reached c.memory parts base (element_of (stepped c).registers) k.ring.tells k.list (element_low (stepped c).registers))

begun_leads : (base : Base) (member : ℕ → Bool) (met : ℕ → Option Kind) (parts : StructureSets) (hand : Hand) (frame : FrameHand) (c : Content) → RunsBoth base member met parts hand frame c → LeadsTo met (link_read (word_at c.memory (element_address (stepped c).registers)))
begun_leads base member met parts hand frame c k =
    let i = element_of (stepped c).registers in
    let low : i < 1024 = element_low (stepped c).registers in
    let word : word_at c.memory (element_address (stepped c).registers) ≡ slice_index k.list.words i =
    ap (word_at c.memory) (element_at (stepped c).registers base k.ring.registers) ∙ element_word c.memory parts base i k.ring.tells k.list low in
    subst (λ (w : ℕ). LeadsTo met (link_read w)) (sym word) (k.elements i low)

begun_runs : (base : Base) (member : ℕ → Bool) (met : ℕ → Option Kind) (parts : StructureSets) (hand : Hand) (frame : FrameHand) (c : Content) (allowed : Bool) → RunsBoth base member met parts hand frame c → c.control.part ≡ Over → RunsBoth base member met parts hand Nothing (begun_content allowed c)
begun_runs base member met parts hand frame c allowed k over = record {
  ring = ring_at base member parts hand hand (walk_place c) (walk_place (begun_content allowed c)) k.ring refl refl
      (cursor_same member (walk_place c) (walk_place (begun_content allowed c)) refl refl k.ring.cursor) k.ring.held k.ring.in_hand;
  between = λ part. k.between (λ same. over_apart c.control.part over same);
  list = k.list;
  elements = k.elements;
  members = k.members;
  apart = k.apart;
  walk = λ part. record { cursor = begun_leads base member met parts hand frame c k; held = refl; in_hand = tt };
  outside = λ part. refl;
}

-- ---- each row

-- the row is told by the part
part_says : (base : Base) (c : Content) → base_of c.registers ≡ base → IsOn base → microframe_row c.registers c.control ≡ part_row c.registers c.control.frame c.control.part
part_says base c registers on = ap (λ (b : Bool). if b then part_row c.registers c.control.frame c.control.part else rows.Idle) (ap (λ (b : Base). b.run) registers ∙ on.run)

ring_on : (base : Base) (r : RegisterFile) → base_of r ≡ base → IsOn base → r.async_enable ≡ true
ring_on base r registers on = ap (λ (b : Base). b.async_enable) registers ∙ on.async_enable

-- where the chain is over, or the periodic schedule is off, the frames have nothing in hand
over_nothing : (frame : FrameHand) (o : Option Held) (l : Link) → o ≡ frame_held frame → over_at o l ≡ true → frame ≡ Nothing
over_nothing Nothing o l is over = refl
over_nothing (OfQueue c count) o l is over = absurd (true≢false (sym over ∙ ap (λ (h : Option Held). over_at h l) is))
over_nothing (OfSettled c s count) o l is over = absurd (true≢false (sym over ∙ ap (λ (h : Option Held). over_at h l) is))
over_nothing (OfItd c) o l is over = absurd (true≢false (sym over ∙ ap (λ (h : Option Held). over_at h l) is))
over_nothing (OfSitd c) o l is over = absurd (true≢false (sym over ∙ ap (λ (h : Option Held). over_at h l) is))

over_free : (base : Base) (member : ℕ → Bool) (met : ℕ → Option Kind) (parts : StructureSets) (hand : Hand) (frame : FrameHand)
    (c : Content) → RunsBoth base member met parts hand frame c → c.control.part ≡ Periodic
    → (b : Bool) → c.registers.periodic_enable ≡ b → (c.registers.periodic_enable && not (is_over c.control.frame)) ≡ false
    → frame ≡ Nothing
over_free base member met parts hand frame c k part false off is = k.outside
    (inr (sym (ap (λ (b : Base). b.periodic_enable) k.ring.registers) ∙ off))
over_free base member met parts hand frame c k part true on is =
    over_nothing frame c.control.frame.hand c.control.frame.cursor (k.walk part).held (by (is_over c.control.frame) refl)
  where
    by : (b : Bool) → is_over c.control.frame ≡ b → is_over c.control.frame ≡ true
    by true over = over
    by false over = absurd (true≢false (ap (λ (x : Bool). true && not x) (sym over) ∙ ap
        (λ (x : Bool). x && not (is_over c.control.frame)) (sym on) ∙ is))

-- in the periodic part, by whether its chain goes on
by_chain : {W : Type 0} (begins : W → ℕ → Bool → W → Type 0) (transacts : W → Ask → List ℕ → Reply → W → Type 0) (base : Base) (member : ℕ → Bool) (met : ℕ → Option Kind) (parts : StructureSets) (hand : Hand) (frame : FrameHand) (c : Content) (wire : W) (new : Content) (after : W) (goes : Bool)
    → (c.registers.periodic_enable && not (is_over c.control.frame)) ≡ goes → EventHappens transacts met parts frame
    → RunsBoth base member met parts hand frame c → IsOn base → c.control.part ≡ Periodic → AreBytesHeard transacts wire after
    → HasRow begins transacts (if goes then rows.Frame else enter_row c.registers.async_enable) c wire new after → ControlsBoth begins transacts base member met parts hand frame c.control wire after new
by_chain begins transacts base member met parts hand frame c wire new after true is law k on part heard row =
    frames_go begins transacts base member met parts hand frame c wire new after law k part
    (and_parts c.registers.periodic_enable (not (is_over c.control.frame)) is).0 heard row
by_chain begins transacts base member met parts hand frame c wire new after false is law k on part heard row =
    let nothing : hand ≡ Empty = k.between (λ same. periodic_not_asynchronous (sym part ∙ same)) in
    subst (λ (h : Hand). ControlsBoth begins transacts base member met parts h frame c.control wire after new) (sym nothing)
    (ring_goes begins transacts base member met parts Empty Nothing frame (entered c) c.control wire new after
    (over_free base member met parts hand frame c k part c.registers.periodic_enable refl is)
    (enters base member met parts hand frame c k) heard
    (subst (λ (r : ControllerRow). HasRow begins transacts r c wire new after) (ap enter_row (ring_on base c.registers k.ring.registers on)) row))

by_part : {W : Type 0} (begins : W → ℕ → Bool → W → Type 0) (transacts : W → Ask → List ℕ → Reply → W → Type 0) (base : Base) (member : ℕ → Bool) (met : ℕ → Option Kind) (parts : StructureSets) (hand : Hand) (frame : FrameHand) (c : Content) (wire : W) (new : Content) (after : W) (part : MicroframePart)
    → c.control.part ≡ part → EventHappens transacts met parts frame → RunsBoth base member met parts hand frame c → IsOn base → AreBytesHeard transacts wire after
    → HasRow begins transacts (part_row c.registers c.control.frame part) c wire new after → ControlsBoth begins transacts base member met parts hand frame c.control wire after new
by_part begins transacts base member met parts hand frame c wire new after Over part law k on heard row =
    let is = row.contents ∙ began_is base member met parts hand frame c row.allowed k in
    subst (ControlsBoth begins transacts base member met parts hand frame c.control wire after) (sym is)
    (record {
      now = parts;
      later = hand;
      frame_later = Nothing;
      runs = begun_runs base member met parts hand frame c row.allowed k part;
      effect = of_ring (a_microframe (record {
        index = next_index c.registers.frame_index;
        allowed = row.allowed;
        asked =
            row.asked;
        parts_stay = refl;
        hand_stays = refl;
      }))
          (k.outside (inl (λ same. over_not_periodic (sym part ∙ same))), refl);
    })
by_part begins transacts base member met parts hand frame c wire new after Periodic part law k on heard row =
    by_chain begins transacts base member met parts hand frame c wire new after
    (c.registers.periodic_enable && not (is_over c.control.frame)) refl law k on part heard row
by_part begins transacts base member met parts hand frame c wire new after Asynchronous part law k on heard row =
    ring_goes begins transacts base member met parts hand frame frame c c.control wire new after
    (k.outside (inl (λ same. asynchronous_not_periodic (sym part ∙ same)))) k heard
    (subst (λ (r : ControllerRow). HasRow begins transacts r c wire new after) (ap ring_row (ring_on base c.registers k.ring.registers on)) row)

pub each_event_of_the_controller_over_both : {W : Type 0} (begins : W → ℕ → Bool → W → Type 0) (transacts : W → Ask → List ℕ → Reply → W → Type 0) (base : Base) (member : ℕ → Bool) (met : ℕ → Option Kind) (parts : StructureSets) (hand : Hand) (frame : FrameHand) (c : Content) (wire : W) (new : Content) (after : W)
    → EventHappens transacts met parts frame → RunsBoth base member met parts hand frame c → IsOn base → AreBytesHeard transacts wire after → HasRow begins transacts (microframe_row c.registers c.control) c wire new after → ControlsBoth begins transacts base member met parts hand frame c.control wire after new
each_event_of_the_controller_over_both begins transacts base member met parts hand frame c wire new after law k on heard row =
    by_part begins transacts base member met parts hand frame c wire new after c.control.part refl law k on heard
    (subst (λ (r : ControllerRow). HasRow begins transacts r c wire new after) (part_says base c k.ring.registers on) row)

-- ---- what neither walk meets

pub what_neither_walk_meets_stays : {W : Type 0} (begins : W → ℕ → Bool → W → Type 0) (transacts : W → Ask → List ℕ → Reply → W → Type 0) (base : Base) (member : ℕ → Bool) (met : ℕ → Option Kind) (parts : StructureSets) (hand : Hand) (frame : FrameHand) (c : Content) (wire after : W) (now : StructureSets) (later : Hand) (frame_later : FrameHand) (n : ℕ)
    → RunsBoth base member met parts hand frame c → BothEffect begins transacts parts c.control hand frame wire after now later frame_later → member n ≡ false → met n ≡ None → now n ≡ parts n
what_neither_walk_meets_stays begins transacts base member met parts hand frame c wire after now later frame_later n k (of_ring (a_microframe e) nothing) no_member none = ap (λ (x : StructureSets). x n) e.parts_stay
what_neither_walk_meets_stays begins transacts base member met parts hand frame c wire after now later frame_later n k (of_ring (a_step e) nothing) no_member none =
    ring_leaves transacts base member parts hand (walk_place c) wire after now later e.kind n k.ring e.effect (λ a on same. true≢false (sym on ∙ sym (ap member same) ∙ no_member))
what_neither_walk_meets_stays begins transacts base member met parts hand frame c wire after now later frame_later n k (of_frame e)
    no_member none =
    frame_leaves transacts met parts c.control.frame frame wire after now frame_later e.kind n (k.walk e.part).in_hand e.effect (λ a kind on same. none_some kind (sym none ∙ ap met same ∙ on))
