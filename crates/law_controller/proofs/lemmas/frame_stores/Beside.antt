-- A ring and the frames beside it, under a driver's stores, lends and returns of runs.
use Rattle.std.proofs.Common.{◌≡◌, ◌≢◌, ℕ, ◌+◌, ◌*◌, ◌/◌, ◌%◌, ◌^◌, ◌<◌, Bool, true, false, List, [], length, set, slice_index, Option, Some, None, ap, refl, sym, subst, ◌∙◌, ⊎_elim, arith}
use Rattle.std.proofs.lemmas.Bool.{cases_eq}
use Rattle.std.proofs.lemmas.Option.{same_Some}
use Rattle.std.proofs.lemmas.List.{get_or-set_same, get_or-set_other, length-set}
use Rattle.law_controller.proofs.Common.{over_not_periodic, table_apart, frame_at, none_table, word_there, over_not_asynchronous, element_low}
use Rattle.law_common.proofs.Numbers.{streamed_apart}
use Rattle.usb_base.specs.declared.packets.Reply.{Reply}
use Rattle.word_mem.specs.Memory.{Mem, with_word, word_at, reaches}
use Rattle.link_words.specs.declared.fields.LinkBits.{LinkBits}
use Rattle.link_words.specs.Layout.{word_of, IsWordInRange}
use Rattle.link_words.specs.Fields.{link_rows}
use Rattle.link_words.specs.Links.{link_of, link_read, link_fields, IsLinkWord}
use Rattle.op_registers.specs.RegisterFile.{RegisterFile, levels_of}
use Rattle.op_registers.specs.Events.{after_begin}
use Rattle.async_walk.specs.Rows.{WalkPlace}
use Rattle.hc_core.specs.declared.controller.MicroframePart.TheVariants.{Over, Periodic}
use Rattle.hc_core.specs.Controller.{Content, element_address, begun_at, began, time_of, begun_control, frame_place, walk_place}
use Rattle.law_structures.specs.lent_structures.Structures.{Structure, Table, HoldsTable, Structures, StructureSets, put, without, Holds, Has, Tells}
use Rattle.law_structures.specs.lent_structures.Changes.{Leaves, IsNew}
use Rattle.law_structures.proofs.lemmas.lent_structures.Names.{put_beside, put_same, put_else, without_beside, without_else}
use Rattle.law_structures.proofs.lemmas.lent_structures.Telling.{rest_is_told, new_is_told, another_is_told, fewer_are_told}
use Rattle.law_structures.proofs.lemmas.lent_structures.Writing.{word_put_table}
use Rattle.law_structures.specs.lent_structures.Sound.{IsMember}
use Rattle.law_ring.specs.Hand.{Copy, Hand, Empty, Copied, Settled, Stale}
use Rattle.claims_base.specs.Controller.{Base, base_of}
use Rattle.law_ring.specs.Ring.{IsCopied, IsInHand, IsRing}
use Rattle.law_ring.proofs.Ringing.{ring_at, cursor_same}
use Rattle.law_controller.specs.controlled_streams.Control.{FrameList}
use Rattle.law_frames.specs.Met.{Kind, LeadsTo, IsMetAs}
use Rattle.law_frames.specs.FrameHand.{FrameHand, Nothing}
use Rattle.law_controller.specs.frame_control.Both.{LeadToMet, AreMet, AreApart, RunsBoth}
use Rattle.law_controller.specs.frame_stores.Stores.{HasLink, linked, frame_linked, KeepsMet, LeavesMet, LeavesMembers, IsMetFurther, AreMetAmong, IsFrameAmong}
use Rattle.law_controller.proofs.lemmas.frame_stores.Linking.{link_told, all_met_linked, link_store_leaves_frame, fields_range, fields_word, fields_lead}
use Rattle.law_controller.proofs.lemmas.frame_stores.Framing.{other_parts_leave_frame, unmet_parts_leave_frame, met_left, kept_left, leaves_put, leaves_unmet, leaves_without, table_unmet, all_met_further, more_are_met, leads_further, all_met_among, fewer_are_met}

-- ---- the ring, where it is left

copy_left : (member : ℕ → Bool) (parts now : StructureSets) (c : Copy) → LeavesMembers member parts now → IsCopied member parts c → IsCopied member now c
copy_left member parts now c stays k =
    record { on = k.on; here = ap (λ (part : Structures). part c.at) (stays c.at k.on) ∙ k.here; link = k.link; range = k.range }

in_hand_left : (member : ℕ → Bool) (parts now : StructureSets) (reply : Reply) (hand : Hand) → LeavesMembers member parts now → IsInHand member parts reply hand → IsInHand member now reply hand
in_hand_left member parts now reply Empty stays k = tt
in_hand_left member parts now reply (Copied c) stays k = copy_left member parts now c stays k
in_hand_left member parts now reply (Settled c s) stays k = (copy_left member parts now c stays k.0, k.1)
in_hand_left member parts now reply (Stale n q) stays k = k

pub other_owners_leave_ring : (base : Base) (member : ℕ → Bool) (parts now : StructureSets) (hand : Hand) (p : WalkPlace) (after : Mem) → IsRing base member parts hand p → Tells after now → LeavesMembers member parts now → IsRing base member now hand (record p { memory = after })
other_owners_leave_ring base member parts now hand p after k told stays = record {
  tells = told;
  members = λ n on. subst (IsMember member n) (sym (stays n on)) (k.members n on);
  registers = k.registers;
  start = k.start;
  cursor = record { to = k.cursor.to; leads = k.cursor.leads; on = k.cursor.on };
  held = k.held;
  in_hand = in_hand_left member parts now p.walk.reply hand stays k.in_hand;
}

pub members_put : (member : ℕ → Bool) (parts : StructureSets) (n a : ℕ) (s : Structure) → member n ≡ false → LeavesMembers member parts (put parts n a s)
members_put member parts n a s off i on = put_beside parts n a s i (streamed_apart member n i off on)

members_without : (member : ℕ → Bool) (parts : StructureSets) (n a : ℕ) → member n ≡ false → LeavesMembers member parts (without parts n a)
members_without member parts n a off i on = without_beside parts n a i (streamed_apart member n i off on)

-- ---- other structures change

pub other_parts_leave_both : (base : Base) (member : ℕ → Bool) (met : ℕ → Option Kind) (parts now : StructureSets) (hand : Hand) (frame : FrameHand) (c : Content) (after : Mem) → RunsBoth base member met parts hand frame c → Tells after now → LeavesMembers member parts now → AreMet met now → KeepsMet met parts now → now base.periodic_list_base base.periodic_list_base ≡ parts base.periodic_list_base base.periodic_list_base → RunsBoth base member met now hand frame (record c { memory = after })
other_parts_leave_both base member met parts now hand frame c after k told stays members keeps list = record {
  ring = other_owners_leave_ring base member parts now hand (walk_place c) after k.ring told stays;
  between = k.between;
  list = record { words = k.list.words; here = list ∙ k.list.here; size = k.list.size };
  elements = k.elements;
  members = members;
  apart = k.apart;
  walk = λ part. (other_parts_leave_frame met parts now frame (frame_place c) after (frame_at base member met parts hand frame c k part) told members keeps).walk;
  outside = k.outside;
}

pub unmet_parts_leave_both : (base : Base) (member : ℕ → Bool) (met : ℕ → Option Kind) (parts now : StructureSets) (hand : Hand) (frame : FrameHand) (c : Content) (after : Mem) → RunsBoth base member met parts hand frame c → Tells after now → LeavesMembers member parts now → LeavesMet met parts now → now base.periodic_list_base base.periodic_list_base ≡ parts base.periodic_list_base base.periodic_list_base → RunsBoth base member met now hand frame (record c { memory = after })
unmet_parts_leave_both base member met parts now hand frame c after k told stays left list =
    other_parts_leave_both base member met parts now hand frame c after k told stays (met_left met parts now left k.members) (kept_left met parts now left) list

pub rest_leaves_both : (base : Base) (member : ℕ → Bool) (met : ℕ → Option Kind) (parts : StructureSets) (hand : Hand) (frame : FrameHand) (c : Content) (after : Mem) → RunsBoth base member met parts hand frame c → Leaves c.memory after → RunsBoth base member met parts hand frame (record c { memory = after })
rest_leaves_both base member met parts hand frame c after k left =
    unmet_parts_leave_both base member met parts parts hand frame c after k (rest_is_told c.memory after parts left k.ring.tells) (λ n on. refl) (λ n kind on. refl) refl

table_put : (parts : StructureSets) (n a : ℕ) (s : Structure) (b : ℕ) (words : List ℕ) → parts n a ≡ None → parts b b ≡ Some (Table words) → put parts n a s b b ≡ parts b b
table_put parts n a s b words none here =
    ⊎_elim (λ (owner : b ≡ n).
    ap (λ (j : ℕ). put parts n a s j j) owner
    ∙ put_else parts n a s n (λ (same : n ≡ a). none_table (parts n n) words (ap (parts n) same ∙ none) (ap (λ (j : ℕ). parts j j) (sym owner) ∙ here))
    ∙ ap (λ (j : ℕ). parts j j) (sym owner))
    (λ (differs : b ≢ n). ap (λ (part : Structures). part b) (put_beside parts n a s b differs)) (cases_eq b n)

table_without : (parts : StructureSets) (n a b : ℕ) (words : List ℕ) → ((ws : List ℕ) → parts n a ≡ Some (Table ws) → ⊥) → parts b b ≡ Some (Table words) → without parts n a b b ≡ parts b b
table_without parts n a b words other here =
    ⊎_elim (λ (owner : b ≡ n).
    ap (λ (j : ℕ). without parts n a j j) owner
    ∙ without_else parts n a n (λ (same : n ≡ a). other words (ap (parts n) (sym same) ∙ ap (λ (j : ℕ). parts j j) (sym owner) ∙ here))
    ∙ ap (λ (j : ℕ). parts j j) (sym owner))
    (λ (differs : b ≢ n). ap (λ (part : Structures). part b) (without_beside parts n a b differs)) (cases_eq b n)

pub lend_leaves_both : (base : Base) (member : ℕ → Bool) (met : ℕ → Option Kind) (parts : StructureSets) (hand : Hand) (frame : FrameHand) (c : Content) (n a : ℕ) (s : Structure) (after : Mem) → RunsBoth base member met parts hand frame c → Leaves c.memory after → IsNew c.memory after a s → parts n a ≡ None → member n ≡ false → met n ≡ None → RunsBoth base member met (put parts n a s) hand frame (record c { memory = after })
lend_leaves_both base member met parts hand frame c n a s after k left fresh none off unmet =
    unmet_parts_leave_both base member met parts (put parts n a s) hand frame c after k
    (new_is_told c.memory after parts n a s k.ring.tells left fresh)
    (members_put member parts n a s off) (leaves_unmet met parts n a s unmet) (table_put parts n a s base.periodic_list_base k.list.words none k.list.here)

pub another_leaves_both : (base : Base) (member : ℕ → Bool) (met : ℕ → Option Kind) (parts : StructureSets) (hand : Hand) (frame : FrameHand) (c : Content) (n a : ℕ) (s : Structure) → RunsBoth base member met parts hand frame c → Holds c.memory a s → ((b k i : ℕ) (u : Structure) → Has a s b → parts k i ≡ Some u → Has i u b → ⊥) → parts n a ≡ None → member n ≡ false → met n ≡ None → RunsBoth base member met (put parts n a s) hand frame c
another_leaves_both base member met parts hand frame c n a s k holds apart none off unmet =
    unmet_parts_leave_both base member met parts (put parts n a s) hand frame c c.memory k
    (another_is_told c.memory parts n a s k.ring.tells holds apart)
    (members_put member parts n a s off) (leaves_unmet met parts n a s unmet) (table_put parts n a s base.periodic_list_base k.list.words none k.list.here)

pub strangers_leave_both : (base : Base) (member : ℕ → Bool) (met : ℕ → Option Kind) (parts : StructureSets) (hand : Hand) (frame : FrameHand) (c : Content) (n a : ℕ) → RunsBoth base member met parts hand frame c → member n ≡ false → met n ≡ None → ((words : List ℕ) → parts n a ≡ Some (Table words) → ⊥) → RunsBoth base member met (without parts n a) hand frame c
strangers_leave_both base member met parts hand frame c n a k off unmet other =
    unmet_parts_leave_both base member met parts (without parts n a) hand frame c c.memory k
    (fewer_are_told c.memory parts n a k.ring.tells)
    (members_without member parts n a off) (leaves_without met parts n a unmet) (table_without parts n a base.periodic_list_base k.list.words other k.list.here)

-- ---- stores

no_table : (s : Structure) (words : List ℕ) → HasLink s → s ≡ Table words → ⊥
no_table s words has is = subst HasLink is has

-- a structure with a link isn't the frame list
list_apart : (parts : StructureSets) (b n : ℕ) (s : Structure) (words : List ℕ) → parts b b ≡ Some (Table words) → parts n n ≡ Some s → HasLink s → b ≢ n
list_apart parts b n s words table here has same =
    no_table s words has (same_Some s (Table words) (sym here ∙ ap (λ (j : ℕ). parts j j) (sym same) ∙ table))

pub link_store_leaves_both : (base : Base) (member : ℕ → Bool) (met : ℕ → Option Kind) (parts : StructureSets) (hand : Hand) (frame : FrameHand) (c : Content) (n : ℕ) (s : Structure) (l : LinkBits) → RunsBoth base member met parts hand frame c → parts n n ≡ Some s → HasLink s → IsWordInRange link_rows l → member n ≡ false → ((kind : Kind) → met n ≡ Some kind → LeadsTo met (link_of l)) → RunsBoth base member met (put parts n n (linked l s)) hand (frame_linked n l frame) (record c { memory = with_word c.memory n (word_of link_rows l) })
link_store_leaves_both base member met parts hand frame c n s l k here has range off link =
    let now : StructureSets = put parts n n (linked l s) in
    let after : Mem = with_word c.memory n (word_of link_rows l) in
    record {
      ring = other_owners_leave_ring base member parts now hand (walk_place c) after k.ring (link_told c.memory parts n n s l k.ring.tells here has range) (members_put member parts n n (linked l s) off);
      between = k.between;
      list = record {
        words = k.list.words;
        here = ap (λ (part : Structures). part base.periodic_list_base) (put_beside parts n n (linked l s) base.periodic_list_base (list_apart parts base.periodic_list_base n s k.list.words k.list.here here has)) ∙ k.list.here;
        size = k.list.size;
      };
      elements = k.elements;
      members = all_met_linked met parts n s l here link k.members;
      apart = k.apart;
      walk = λ part. (link_store_leaves_frame met parts frame (frame_place c) n s l (frame_at base member met parts hand frame c k part) here has range link).walk;
      outside = λ part. ap (frame_linked n l) (k.outside part);
    }

pub link_word_leaves_both : (base : Base) (member : ℕ → Bool) (met : ℕ → Option Kind) (parts : StructureSets) (hand : Hand) (frame : FrameHand) (c : Content) (n : ℕ) (s : Structure) (v : ℕ) → RunsBoth base member met parts hand frame c → parts n n ≡ Some s → HasLink s → IsLinkWord v → member n ≡ false → ((kind : Kind) → met n ≡ Some kind → LeadsTo met (link_read v)) → RunsBoth base member met (put parts n n (linked (link_fields (link_read v)) s)) hand (frame_linked n (link_fields (link_read v)) frame) (record c { memory = with_word c.memory n v })
link_word_leaves_both base member met parts hand frame c n s v k here has is off link =
    let l : LinkBits = link_fields (link_read v) in
    subst (λ (w : ℕ). RunsBoth base member met (put parts n n (linked l s)) hand (frame_linked n l frame) (record c { memory = with_word c.memory n w })) (fields_word v is)
    (link_store_leaves_both base member met parts hand frame c n s l k here has (fields_range v) off (λ kind on. fields_lead met v (link kind on)))

table_off : (member : ℕ → Bool) (parts : StructureSets) (n : ℕ) (words : List ℕ) → ((i : ℕ) → member i ≡ true → IsMember member i (parts i)) → parts n n ≡ Some (Table words) → member n ≡ true → ⊥
table_off member parts n words members here on = let m = members n on in table_apart (parts n n) m.queue words m.here here

table_members : (member : ℕ → Bool) (parts : StructureSets) (n : ℕ) (words : List ℕ) (s : Structure) → ((i : ℕ) → member i ≡ true → IsMember member i (parts i)) → parts n n ≡ Some (Table words) → LeavesMembers member parts (put parts n n s)
table_members member parts n words s members here i on = put_beside parts n n s i (λ same. table_off member parts n words members here (ap member (sym same) ∙ on))

element_stored : (met : ℕ → Option Kind) (words : List ℕ) (k v : ℕ) → k < length words → LeadsTo met (link_read v) → LeadToMet met words → LeadToMet met (set words k v)
element_stored met words k v low leads elements i below =
    ⊎_elim (λ (same : i ≡ k).
    let is : slice_index (set words k v) i ≡ v = ap (slice_index (set words k v)) same ∙ get_or-set_same words k v 0 low in
    subst (λ (w : ℕ). LeadsTo met (link_read w)) (sym is) leads)
    (λ (differs : i ≢ k).
    let is : slice_index (set words k v) i ≡ slice_index words i = get_or-set_other words k i v 0 differs in
    subst (λ (w : ℕ). LeadsTo met (link_read w)) (sym is) (elements i below)) (cases_eq i k)

-- one list stands there
abbrev words_in_table : Structure → List ℕ
words_in_table (Table words) = words
words_in_table s = []

same_words : (base : Base) (parts : StructureSets) → (one other : FrameList parts base) → one.words ≡ other.words
same_words base parts one other = ap words_in_table (same_Some (Table one.words) (Table other.words) (sym one.here ∙ other.here))

listed_elements : (base : Base) (met : ℕ → Option Kind) (parts : StructureSets) → (one other : FrameList parts base) → LeadToMet met one.words → LeadToMet met other.words
listed_elements base met parts one other elements = subst (LeadToMet met) (same_words base parts one other) elements

pub list_store_leaves_both : (base : Base) (member : ℕ → Bool) (met : ℕ → Option Kind) (parts : StructureSets) (hand : Hand) (frame : FrameHand) (c : Content) (k v : ℕ) → RunsBoth base member met parts hand frame c → (list : FrameList parts base) → k < 1024 → LeadsTo met (link_read v) → RunsBoth base member met (put parts base.periodic_list_base base.periodic_list_base (Table (set list.words k v))) hand frame (record c { memory = with_word c.memory (base.periodic_list_base + 4 * k) v })
list_store_leaves_both base member met parts hand frame c k v runs list low leads =
    let b : ℕ = base.periodic_list_base in
    let words : List ℕ = list.words in
    let new : Structure = Table (set words k v) in
    let now : StructureSets = put parts b b new in
    let after : Mem = with_word c.memory (b + 4 * k) v in
    let size : length words ≡ 1024 = list.size in
    let below : k < length words = omega (arith, low, size) in
    let told : Tells after now = word_put_table c.memory parts b b words k v runs.ring.tells list.here below in
    let left : LeavesMet met parts now = leaves_put met parts b b new (λ kind on. table_unmet met parts b words kind runs.members list.here on) in
    record {
      ring = other_owners_leave_ring base member parts now hand (walk_place c) after runs.ring told (table_members member parts b words new runs.ring.members list.here);
      between = runs.between;
      list = record { words = set words k v; here = put_same parts b b new; size = length-set words k v ∙ size };
      elements = element_stored met words k v below leads (listed_elements base met parts runs.list list runs.elements);
      members = met_left met parts now left runs.members;
      apart = runs.apart;
      walk = λ part. (unmet_parts_leave_frame met parts now frame (frame_place c) after (frame_at base member met parts hand frame c runs part) told left).walk;
      outside = runs.outside;
    }

-- what leaves the ring leaves the frames beside it
pub ring_store_leaves_both : (base : Base) (member wider : ℕ → Bool) (met : ℕ → Option Kind) (parts now : StructureSets) (hand later : Hand) (frame : FrameHand) (c : Content) (after : Mem) → RunsBoth base member met parts hand frame c → IsRing base wider now later (record (walk_place c) { memory = after }) → (hand ≡ Empty → later ≡ Empty) → AreApart wider met → LeavesMet met parts now → now base.periodic_list_base ≡ parts base.periodic_list_base → RunsBoth base wider met now later frame (record c { memory = after })
ring_store_leaves_both base member wider met parts now hand later frame c after k ring quiet apart left list = record {
  ring = ring;
  between = λ part. quiet (k.between part);
  list = record { words = k.list.words; here = ap (λ (part : Structures). part base.periodic_list_base) list ∙ k.list.here; size = k.list.size };
  elements = k.elements;
  members = met_left met parts now left k.members;
  apart = apart;
  walk = λ part. (unmet_parts_leave_frame met parts now frame (frame_place c) after (frame_at base member met parts hand frame c k part) ring.tells left).walk;
  outside = k.outside;
}

-- ---- more or fewer are met

abbrev AreNewBoth : (ℕ → Bool) → (ℕ → Option Kind) → (ℕ → Option Kind) → StructureSets → Type 0
AreNewBoth member met wider parts = (n : ℕ) (kind : Kind) → wider n ≡ Some kind → met n ≡ None → (member n ≡ false) × IsMetAs wider n (parts n) kind

apart_at : (member : ℕ → Bool) (met wider : ℕ → Option Kind) (parts : StructureSets) (n : ℕ) (kind : Kind) (o : Option Kind) → AreNewBoth member met wider parts → AreApart member met → wider n ≡ Some kind → met n ≡ o → member n ≡ false
apart_at member met wider parts n kind None comes apart on is = (comes n kind on is).0
apart_at member met wider parts n kind (Some k) comes apart on is = apart n k is

pub more_are_met_beside_ring : (base : Base) (member : ℕ → Bool) (met wider : ℕ → Option Kind) (parts : StructureSets) (hand : Hand) (frame : FrameHand) (c : Content) → RunsBoth base member met parts hand frame c → IsMetFurther met wider → ((n : ℕ) (kind : Kind) → wider n ≡ Some kind → met n ≡ None → (member n ≡ false) × IsMetAs wider n (parts n) kind) → RunsBoth base member wider parts hand frame c
more_are_met_beside_ring base member met wider parts hand frame c k more comes = record {
  ring = k.ring;
  between = k.between;
  list = k.list;
  elements = λ i below. leads_further met wider (link_read (slice_index k.list.words i)) more (k.elements i below);
  members = all_met_further met wider parts more (λ n kind on none. (comes n kind on none).1) k.members;
  apart = λ n kind on. apart_at member met wider parts n kind (met n) comes k.apart on refl;
  walk = λ part. (more_are_met met wider parts frame (frame_place c) (frame_at base member met parts hand frame c k part) more (λ n kind on none. (comes n kind on none).1)).walk;
  outside = k.outside;
}

pub fewer_are_met_both : (base : Base) (member : ℕ → Bool) (met narrow : ℕ → Option Kind) (parts : StructureSets) (hand : Hand) (frame : FrameHand) (c : Content) → RunsBoth base member met parts hand frame c → IsMetFurther narrow met → AreMetAmong narrow parts → (list : FrameList parts base) → LeadToMet narrow list.words → (c.control.part ≡ Periodic → IsFrameAmong narrow frame (frame_place c)) → RunsBoth base member narrow parts hand frame c
fewer_are_met_both base member met narrow parts hand frame c k fewer closed list elements among = record {
  ring = k.ring;
  between = k.between;
  list = list;
  elements = elements;
  members = all_met_among met narrow parts fewer closed k.members;
  apart = λ n kind on. k.apart n kind (fewer n kind on);
  walk = λ part. (fewer_are_met met narrow parts frame (frame_place c) (frame_at base member met parts hand frame c k part) fewer closed (among part)).walk;
  outside = k.outside;
}

pub fewer_are_met_outside : (base : Base) (member : ℕ → Bool) (met narrow : ℕ → Option Kind) (parts : StructureSets) (hand : Hand) (frame : FrameHand) (c : Content) → RunsBoth base member met parts hand frame c → c.control.part ≢ Periodic → IsMetFurther narrow met → AreMetAmong narrow parts → (list : FrameList parts base) → LeadToMet narrow list.words → RunsBoth base member narrow parts hand frame c
fewer_are_met_outside base member met narrow parts hand frame c k outside fewer closed list elements =
    fewer_are_met_both base member met narrow parts hand frame c k fewer closed list elements (λ part. absurd (outside part))

-- ---- a microframe begins

abbrev stepped : Content → Content
stepped c = record c { registers = after_begin c.registers }

abbrev element_of : RegisterFile → ℕ
element_of r = r.frame_index / 8 % 2 ^ levels_of r.list_size

abbrev element_place : Base → Content → ℕ
element_place base c = base.periodic_list_base + 4 * element_of (stepped c).registers

element_at : (base : Base) (c : Content) → base_of c.registers ≡ base → element_address (stepped c).registers ≡ element_place base c
element_at base c is = ap (λ (b : Base). b.periodic_list_base + 4 * element_of (stepped c).registers) is

table_there : (m : Mem) (base : Base) (parts : StructureSets) → Tells m parts → (list : FrameList parts base) → HoldsTable m base.periodic_list_base list.words
table_there m base parts told list = told.each base.periodic_list_base base.periodic_list_base (Table list.words) list.here

reached_there : (m : Mem) (base : Base) (parts : StructureSets) (i : ℕ) → Tells m parts → (list : FrameList parts base) → i < 1024 → reaches m (base.periodic_list_base + 4 * i) ≡ true
reached_there m base parts i told list below = (table_there m base parts told list).lent i (let size = list.size in omega (arith, below, size))

begun_content : Bool → Content → Content
begun_content allowed c = record (stepped c) {
  control = begun_control (word_at c.memory (element_address (stepped c).registers)) (stepped c).registers.frame_index (time_of allowed) c.control;
}

began_is : (base : Base) (parts : StructureSets) (c : Content) (allowed : Bool) → Tells c.memory parts → base_of c.registers ≡ base → FrameList parts base → began allowed c ≡ begun_content allowed c
unfolding begun_content
began_is base parts c allowed told is list =
    ap (λ (b : Bool). begun_at b allowed (stepped c))
    (ap (reaches c.memory) (element_at base c is) ∙ reached_there c.memory base parts (element_of (stepped c).registers) told list (element_low c.registers.list_size ((stepped c).registers.frame_index / 8)))

begun_at_element : (base : Base) (narrow : ℕ → Option Kind) (parts : StructureSets) (c : Content) → Tells c.memory parts → base_of c.registers ≡ base → (list : FrameList parts base) → LeadToMet narrow list.words → LeadsTo narrow (link_read (word_at c.memory (element_address (stepped c).registers)))
begun_at_element base narrow parts c told is list elements =
    let i : ℕ = element_of (stepped c).registers in
    let low : i < 1024 = element_low c.registers.list_size ((stepped c).registers.frame_index / 8) in
    let word : word_at c.memory (element_address (stepped c).registers) ≡ slice_index list.words i = ap (word_at c.memory) (element_at base c is) ∙ word_there c.memory base parts i told list low in
    subst (λ (w : ℕ). LeadsTo narrow (link_read w)) (sym word) (elements i low)

pub begin_is_at_element : (base : Base) (narrow : ℕ → Option Kind) (parts : StructureSets) (c : Content) (allowed : Bool) → Tells c.memory parts → base_of c.registers ≡ base → (list : FrameList parts base) → LeadToMet narrow list.words → IsFrameAmong narrow Nothing (frame_place (began allowed c))
unfolding begun_content
begin_is_at_element base narrow parts c allowed told is list elements =
    subst (λ (x : Content). IsFrameAmong narrow Nothing (frame_place x)) (sym (began_is base parts c allowed told is list))
    (record { cursor = begun_at_element base narrow parts c told is list elements; in_hand = tt })

-- the walk is at the link of an element, with nothing in hand
begun_both : (base : Base) (member : ℕ → Bool) (met : ℕ → Option Kind) (parts : StructureSets) (hand : Hand) (c : Content) (allowed : Bool) → IsRing base member parts hand (walk_place c) → hand ≡ Empty → (list : FrameList parts base) → LeadToMet met list.words → AreMet met parts → AreApart member met → RunsBoth base member met parts hand Nothing (begun_content allowed c)
unfolding begun_content
begun_both base member met parts hand c allowed ring nothing list elements members apart = record {
  ring = ring_at base member parts hand hand (walk_place c) (walk_place (begun_content allowed c)) ring refl refl
      (cursor_same member (walk_place c) (walk_place (begun_content allowed c)) refl refl ring.cursor) ring.held ring.in_hand;
  between = λ part. nothing;
  list = list;
  elements = elements;
  members = members;
  apart = apart;
  walk = λ part. record { cursor = begun_at_element base met parts c ring.tells ring.registers list elements; held = refl; in_hand = tt };
  outside = λ part. refl;
}

pub begin_meets_fewer : (base : Base) (member : ℕ → Bool) (met narrow : ℕ → Option Kind) (parts : StructureSets) (hand : Hand) (frame : FrameHand) (c : Content) (allowed : Bool) → RunsBoth base member met parts hand frame c → c.control.part ≡ Over → IsMetFurther narrow met → AreMetAmong narrow parts → (list : FrameList parts base) → LeadToMet narrow list.words → RunsBoth base member narrow parts hand Nothing (began allowed c)
begin_meets_fewer base member met narrow parts hand frame c allowed runs over fewer closed list elements =
    let k : RunsBoth base member narrow parts hand frame c = fewer_are_met_outside base member met narrow parts hand frame c runs (λ part. over_not_periodic (sym over ∙ part)) fewer closed list elements in
    subst (RunsBoth base member narrow parts hand Nothing) (sym (began_is base parts c allowed runs.ring.tells runs.ring.registers list))
    (begun_both base member narrow parts hand c allowed k.ring (runs.between (λ part. over_not_asynchronous (sym over ∙ part))) list elements k.members k.apart)
