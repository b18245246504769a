-- What rows of the driver leave of the frames: readings, and stores of the frame list.
use Rattle.std.proofs.Common.{◌≡◌, ℕ, ◌+◌, ◌*◌, ◌<◌, Bool, true, false, inl, inr, List, set, length, Option, Some, refl, subst, ◌∙◌, arith}
use Rattle.std.specs.Prelude.{slice_set}
use Rattle.std.proofs.lemmas.List.{get_or-set_same, length-set}
use Rattle.law_driver_ring.proofs.Common.{cleared_base, rung_same}
use Rattle.law_descriptors.proofs.Common.{removed_again}
use Rattle.word_mem.specs.Memory.{Mem, with_word}
use Rattle.link_words.specs.declared.fields.LinkBits.{LinkBits}
use Rattle.link_words.specs.Links.{link_of, link_read, link_fields, IsLinkWord}
use Rattle.drv_table.specs.declared.rows.DriverRow.TheVariants as rows
use Rattle.drv_table.specs.DriverContent.{DriverContent}
use Rattle.op_registers.specs.RegisterFile.{RegisterFile}
use Rattle.hc_core.specs.Controller.{Content, frame_place, walk_place}
use Rattle.law_structures.specs.lent_structures.Structures.{Structure, Table, Isochronous, SplitIsochronous, StructureSets, put, Tells}
use Rattle.law_structures.proofs.lemmas.lent_structures.Names.{put_same}
use Rattle.law_structures.proofs.lemmas.lent_structures.Writing.{word_put_table}
use Rattle.law_ring.specs.Hand.{Hand}
use Rattle.claims_base.specs.Controller.{Base, base_of}
use Rattle.law_ring.proofs.Ringing.{ring_at, cursor_same}
use Rattle.law_driver_ring.specs.Driven.{IsOperating}
use Rattle.law_controller.specs.controlled_streams.Control.{FrameList}
use Rattle.law_frames.specs.Met.{Kind, LeadsTo, IsMetAs}
use Rattle.law_frames.specs.FrameHand.{FrameHand}
use Rattle.law_frames.specs.Frame.{IsFrameWalk}
use Rattle.law_controller.specs.frame_control.Both.{RunsBoth}
use Rattle.law_controller.specs.frame_stores.Stores.{HasLink, linked, frame_linked}
use Rattle.law_controller.proofs.lemmas.frame_stores.Framing.{leads_further}
use Rattle.law_controller.proofs.lemmas.frame_stores.Linking.{link_told, fields_range, fields_word, stored_link_leads}
use Rattle.law_controller.proofs.lemmas.frame_stores.Beside.{more_are_met_beside_ring, list_store_leaves_both, link_word_leaves_both}
use Rattle.law_descriptors.specs.Described.{HasDescriptor}
use Rattle.law_descriptors.specs.Meeting.{kind_of_descriptor, standing, met}
use Rattle.law_descriptors.specs.Both.{both}
use Rattle.law_descriptors.specs.Recent.{DrivesFrames, content_after}
use Rattle.law_descriptors.specs.RowLaws.{HasFrames}
use Rattle.law_descriptors.specs.Rows.{DrivesAfter, IsMetBeside}
use Rattle.law_descriptors.proofs.Closing.{standing_are_closed, list_leads_to_standing, standing_met}

-- ---- readings

-- the walks go by few of the registers
both_registers : (base : Base) (member : ℕ → Bool) (met : ℕ → Option Kind) (parts : StructureSets) (hand : Hand) (frame : FrameHand) (c : Content) (r : RegisterFile) → RunsBoth base member met parts hand frame c
    → base_of r ≡ base_of c.registers → RunsBoth base member met parts hand frame (record c { registers = r })
both_registers base member met parts hand frame c r k same = record {
  ring = ring_at base member parts hand hand (walk_place c) (walk_place (record c { registers = r })) k.ring refl same
      (cursor_same member (walk_place c) (walk_place (record c { registers = r })) same refl k.ring.cursor) k.ring.held k.ring.in_hand;
  between = k.between;
  list = k.list;
  elements = k.elements;
  members = k.members;
  apart = k.apart;
  walk = λ part. let w : IsFrameWalk met parts frame (frame_place c) = k.walk part in record { cursor = w.cursor; held = w.held; in_hand = w.in_hand };
  outside = k.outside;
}

pub read_frame_drives : (base : Base) (member : ℕ → Bool) (recent : ℕ → Option Kind) (descs parts : StructureSets) (hand : Hand) (frame : FrameHand) (c : Content) (d : DriverContent) → DrivesFrames base member recent descs parts hand frame c d → DrivesAfter (rows.ReadFrame c.registers.frame_index) base member recent descs parts hand frame c d
read_frame_drives base member recent descs parts hand frame c d k = record {
  runs = k.runs;
  recent_are = λ n kind on. elim (k.recent_are n kind on) [
    | inl since ↦ inl (removed_again d.endpoints d.transfers d.periodic.removals c.registers.frame_index n since)
    | inr now ↦ inr now
  ];
  described = k.described;
}

pub read_status_drives : (base : Base) (member : ℕ → Bool) (recent : ℕ → Option Kind) (descs parts : StructureSets) (hand : Hand) (frame : FrameHand) (c : Content) (d : DriverContent) (heard : Bool) → DrivesFrames base member recent descs parts hand frame c d → DrivesAfter (rows.ReadStatus heard) base member recent descs parts hand frame c d
read_status_drives base member recent descs parts hand frame c d heard k = record {
  runs = k.runs;
  recent_are = k.recent_are;
  described = k.described;
}

pub advance_drives : (base : Base) (member : ℕ → Bool) (recent : ℕ → Option Kind) (descs parts : StructureSets) (hand : Hand) (frame : FrameHand) (c : Content) (d : DriverContent) → DrivesFrames base member recent descs parts hand frame c d → DrivesAfter rows.ClearAdvance base member recent descs parts hand frame c d
advance_drives base member recent descs parts hand frame c d k = record {
  runs = both_registers base member (met d recent) (both descs parts) hand frame c (content_after rows.ClearAdvance c d).registers k.runs (cleared_base c.registers);
  recent_are = k.recent_are;
  described = k.described;
}

pub bell_drives : (base : Base) (member : ℕ → Bool) (recent : ℕ → Option Kind) (descs parts : StructureSets) (hand : Hand) (frame : FrameHand) (c : Content) (d : DriverContent) → IsOperating base → DrivesFrames base member recent descs parts hand frame c d → DrivesAfter rows.RingBell base member recent descs parts hand frame c d
bell_drives base member recent descs parts hand frame c d on k = record {
  runs = both_registers base member (met d recent) (both descs parts) hand frame c (content_after rows.RingBell c d).registers k.runs (rung_same base c.registers on k.runs.ring.registers);
  recent_are = k.recent_are;
  described = k.described;
}

-- ---- stores

-- the list leads among those that stand once it was stored
element_led : (base : Base) (parts : StructureSets) (m : Mem) (d : DriverContent) (k v : ℕ) → Tells m parts → base.periodic_list_base ≡ 32 * d.periodic.list.list → HasFrames (with_word m (base.periodic_list_base + 4 * k) v) d → (list : FrameList parts base) → k < 1024 → LeadsTo (standing d) (link_read v)
element_led base parts m d k v told is frames list low =
    let b : ℕ = base.periodic_list_base in
    let below : k < length list.words = (let size = list.size in omega (arith, low, size)) in
    let words : List ℕ = set list.words k v in
    let now : StructureSets = put parts b b (Table words) in
    let after : Tells (with_word m (b + 4 * k) v) now = word_put_table m parts b b list.words k v told list.here below in
    let there : FrameList now base = record { words = words; here = put_same parts b b (Table words); size = length-set list.words k v ∙ list.size } in
    subst (λ (w : ℕ). LeadsTo (standing d) (link_read w)) (get_or-set_same list.words k v 0 below)
    (list_leads_to_standing (with_word m (b + 4 * k) v) d now base frames after is there k low)

pub element_store_meets : (base : Base) (member : ℕ → Bool) (recent later : ℕ → Option Kind) (parts : StructureSets) (hand : Hand) (frame : FrameHand) (c : Content) (d new : DriverContent) (k v : ℕ) → RunsBoth base member (met d recent) parts hand frame c → IsMetBeside member (met d recent) (met new later) parts → base.periodic_list_base ≡ 32 * new.periodic.list.list → HasFrames (with_word c.memory (base.periodic_list_base + 4 * k) v) new → (list : FrameList parts base) → k < 1024 → RunsBoth base member (met new later) (put parts base.periodic_list_base base.periodic_list_base (Table (slice_set list.words k v))) hand frame (record c { memory = with_word c.memory (base.periodic_list_base + 4 * k) v })
element_store_meets base member recent later parts hand frame c d new k v runs beside is frames list low =
    list_store_leaves_both base member (met new later) parts hand frame c k v (more_are_met_beside_ring base member (met d recent) (met new later) parts hand frame c runs beside.further beside.sound) list low
    (leads_further (standing new) (met new later) (link_read v) (standing_met new later) (element_led base parts c.memory new k v runs.ring.tells is frames list low))

link_led : (parts : StructureSets) (m : Mem) (d : DriverContent) (n v : ℕ) (s : Structure) (kind : Kind) → Tells m parts → HasFrames (with_word m n v) d → parts n n ≡ Some s → HasLink s → IsLinkWord v → standing d n ≡ Some kind → LeadsTo (standing d) (link_read v)
link_led parts m d n v s kind told frames here has is on =
    let l : LinkBits = link_fields (link_read v) in
    let now : StructureSets = put parts n n (linked l s) in
    let after : Tells (with_word m n v) now
    = subst (λ (w : ℕ). Tells (with_word m n w) now) (fields_word v is) (link_told m parts n n s l told here has (fields_range v)) in
    subst (LeadsTo (standing d)) (stored_link_leads (link_read v) s has) (standing_are_closed (with_word m n v) d now frames after n kind (linked l s) on (put_same parts n n (linked l s)))

pub link_store_meets : (base : Base) (member : ℕ → Bool) (recent later : ℕ → Option Kind) (parts : StructureSets) (hand : Hand) (frame : FrameHand) (c : Content) (d new : DriverContent) (n v : ℕ) (s : Structure) (kind : Kind) → RunsBoth base member (met d recent) parts hand frame c → IsMetBeside member (met d recent) (met new later) parts → HasFrames (with_word c.memory n v) new → parts n n ≡ Some s → HasLink s → IsLinkWord v → member n ≡ false → standing new n ≡ Some kind → RunsBoth base member (met new later) (put parts n n (linked (link_fields (link_read v)) s)) hand (frame_linked n (link_fields (link_read v)) frame) (record c { memory = with_word c.memory n v })
link_store_meets base member recent later parts hand frame c d new n v s kind runs beside frames here has is off on =
    link_word_leaves_both base member (met new later) parts hand frame c n s v (more_are_met_beside_ring base member (met d recent) (met new later) parts hand frame c runs beside.further beside.sound) here has is off
    (λ k met_there. leads_further (standing new) (met new later) (link_read v) (standing_met new later) (link_led parts c.memory new n v s kind runs.ring.tells frames here has is on))

-- ---- descriptors

pub standing_descriptors_are_met : (m : Mem) (d : DriverContent) (recent : ℕ → Option Kind) (parts : StructureSets) (n : ℕ) (split : Bool) → HasFrames m d → Tells m parts → standing d n ≡ Some (kind_of_descriptor split) → HasDescriptor split (parts n) n → IsMetAs (met d recent) n (parts n) (kind_of_descriptor split)
standing_descriptors_are_met m d recent parts n true frames told on k = record {
  sitd = k.sitd;
  here = k.here;
  link = leads_further (standing d) (met d recent) (link_of k.sitd.link) (standing_met d recent) (standing_are_closed m d parts frames told n (kind_of_descriptor true) (SplitIsochronous k.sitd) on k.here);
  bytes = k.bytes;
}
standing_descriptors_are_met m d recent parts n false frames told on k = record {
  itd = k.itd;
  here = k.here;
  link = leads_further (standing d) (met d recent) (link_of k.itd.link) (standing_met d recent) (standing_are_closed m d parts frames told n (kind_of_descriptor false) (Isochronous k.itd) on k.here);
  slots = k.slots;
}
