-- The frames where other structures change, come and go, and where more or fewer are met.
use Rattle.std.proofs.Common.{◌≡◌, ◌≢◌, ℕ, ◌+◌, ◌*◌, ◌<◌, List, length, set, Option, Some, None, ap, refl, sym, subst, ◌∙◌, ⊎_elim}
use Rattle.std.proofs.lemmas.Bool.{cases_eq}
use Rattle.std.proofs.lemmas.Option.{same_Some}
use Rattle.law_ring.proofs.Common.{none_some}
use Rattle.usb_base.specs.declared.packets.Reply.{Reply}
use Rattle.word_mem.specs.Memory.{Mem, with_word}
use Rattle.link_words.specs.declared.kinds.Link.{Link}
use Rattle.link_words.specs.declared.kinds.Link.TheVariants as links
use Rattle.qh_qtd.specs.declared.qtd.Qtd.{Qtd}
use Rattle.periodic_walk.specs.Place.{FramePlace}
use Rattle.law_structures.specs.lent_structures.Structures.{Structure, QueueHead, Element, Table, Isochronous, SplitIsochronous, Structures, StructureSets, with_structure, put, without_structure, without, Holds, Has, Tells}
use Rattle.law_structures.specs.lent_structures.Changes.{Leaves, IsNew}
use Rattle.law_structures.proofs.lemmas.lent_structures.Names.{put_beside, put_else, without_here, without_beside, without_else}
use Rattle.law_structures.proofs.lemmas.lent_structures.Telling.{new_is_told, another_is_told, fewer_are_told}
use Rattle.law_structures.proofs.lemmas.lent_structures.Writing.{word_put_table}
use Rattle.law_frames.specs.Met.{Kind, AQueue, AnItd, ASitd, LeadsTo, IsMetAs}
use Rattle.law_frames.specs.FrameHand.{FrameHand, Nothing, OfQueue, OfSettled, OfItd, OfSitd}
use Rattle.law_frames.specs.Frame.{IsInFrame, IsFrame}
use Rattle.law_controller.specs.frame_control.Both.{AreMet}
use Rattle.law_controller.specs.frame_stores.Stores.{KeepsMet, LeavesMet, IsMetFurther, AreMetAmong, IsFrameHandAmong, IsFrameAmong}
use Rattle.law_controller.proofs.lemmas.frame_stores.Linking.{met_but_one, met_put}

-- ---- where each that is met is as it was

in_hand_kept : (met : ℕ → Option Kind) (parts now : StructureSets) (got : List ℕ) (reply : Reply) (hand : FrameHand) → KeepsMet met parts now → IsInFrame met parts got reply hand → IsInFrame met now got reply hand
in_hand_kept met parts now got reply Nothing keeps k = tt
in_hand_kept met parts now got reply (OfQueue c made) keeps k = record { on = k.on; here = keeps c.at AQueue k.on ∙ k.here; link = k.link; range = k.range }
in_hand_kept met parts now got reply (OfSettled c s made) keeps k =
    (record { on = k.0.on; here = keeps c.at AQueue k.0.on ∙ k.0.here; link = k.0.link; range = k.0.range }, k.1)
in_hand_kept met parts now got reply (OfItd c) keeps k = record {
  on = k.on;
  here = keeps c.held.at AnItd k.on ∙ k.here;
  link = k.link;
  same = k.same;
  held = k.held;
  slot = k.slot;
  count = k.count;
  small = k.small;
  begun = k.begun;
}
in_hand_kept met parts now got reply (OfSitd c) keeps k =
    record { on = k.on; here = keeps c.held.at ASitd k.on ∙ k.here; link = k.link; range = k.range; turn = k.turn }

pub other_parts_leave_frame : (met : ℕ → Option Kind) (parts now : StructureSets) (hand : FrameHand) (p : FramePlace) (after : Mem) → IsFrame met parts hand p → Tells after now → AreMet met now → KeepsMet met parts now → IsFrame met now hand (record p { memory = after })
other_parts_leave_frame met parts now hand p after k told members keeps = record {
  tells = told;
  members = members;
  walk = record { cursor = k.walk.cursor; held = k.walk.held; in_hand = in_hand_kept met parts now p.walk.got p.walk.reply hand keeps k.walk.in_hand };
}

pub met_left : (met : ℕ → Option Kind) (parts now : StructureSets) → LeavesMet met parts now → AreMet met parts → AreMet met now
met_left met parts now stays members n kind on = subst (λ (part : Structures). IsMetAs met n part kind) (sym (stays n kind on)) (members n kind on)

pub kept_left : (met : ℕ → Option Kind) (parts now : StructureSets) → LeavesMet met parts now → KeepsMet met parts now
kept_left met parts now stays n kind on = ap (λ (part : Structures). part n) (stays n kind on)

pub unmet_parts_leave_frame : (met : ℕ → Option Kind) (parts now : StructureSets) (hand : FrameHand) (p : FramePlace) (after : Mem) → IsFrame met parts hand p → Tells after now → LeavesMet met parts now → IsFrame met now hand (record p { memory = after })
unmet_parts_leave_frame met parts now hand p after k told stays =
    other_parts_leave_frame met parts now hand p after k told (met_left met parts now stays k.members) (kept_left met parts now stays)

-- ---- structures come and go

-- what stands at the address of one that is met
pub record IsThere (part : Structures) (n : ℕ) : Type 0 where
  pub structure : Structure
  pub here : part n ≡ Some structure
  pub no_table : (words : List ℕ) → structure ≢ Table words
  pub no_element : (t : Qtd) → structure ≢ Element t

pub there : (met : ℕ → Option Kind) (n : ℕ) (part : Structures) (kind : Kind) → IsMetAs met n part kind → IsThere part n
there met n part AQueue m = record { structure = QueueHead m.part_is.queue; here = m.part_is.here; no_table = λ words e. cc; no_element = λ t e. cc }
there met n part AnItd m = record { structure = Isochronous m.itd; here = m.here; no_table = λ words e. cc; no_element = λ t e. cc }
there met n part ASitd m = record { structure = SplitIsochronous m.sitd; here = m.here; no_table = λ words e. cc; no_element = λ t e. cc }

pub apart_from_none : (met : ℕ → Option Kind) (parts : StructureSets) (n a : ℕ) (kind : Kind) → AreMet met parts → met n ≡ Some kind → parts n a ≡ None → n ≢ a
apart_from_none met parts n a kind members on none same =
    let is = there met n (parts n) kind (members n kind on) in
    none_some (parts n n) is.structure (ap (parts n) same ∙ none) is.here

pub keeps_put : (met : ℕ → Option Kind) (parts : StructureSets) (n a : ℕ) (s : Structure) → ((kind : Kind) → met n ≡ Some kind → n ≢ a) → KeepsMet met parts (put parts n a s)
keeps_put met parts n a s apart i kind on =
    ⊎_elim (λ (owner : i ≡ n).
    ap (λ (j : ℕ). put parts n a s j j) owner ∙ put_else parts n a s n (apart kind (ap met (sym owner) ∙ on)) ∙ ap (λ (j : ℕ). parts j j) (sym owner))
    (λ (differs : i ≢ n). ap (λ (part : Structures). part i) (put_beside parts n a s i differs)) (cases_eq i n)

keeps_without : (met : ℕ → Option Kind) (parts : StructureSets) (n a : ℕ) → ((kind : Kind) → met n ≡ Some kind → n ≢ a) → KeepsMet met parts (without parts n a)
keeps_without met parts n a apart i kind on =
    ⊎_elim (λ (owner : i ≡ n).
    ap (λ (j : ℕ). without parts n a j j) owner ∙ without_else parts n a n (apart kind (ap met (sym owner) ∙ on)) ∙ ap (λ (j : ℕ). parts j j) (sym owner))
    (λ (differs : i ≢ n). ap (λ (part : Structures). part i) (without_beside parts n a i differs)) (cases_eq i n)

pub lend_leaves_frame : (met : ℕ → Option Kind) (parts : StructureSets) (hand : FrameHand) (p : FramePlace) (n a : ℕ) (s : Structure) (after : Mem) → IsFrame met parts hand p → Leaves p.memory after → IsNew p.memory after a s → parts n a ≡ None → ((kind : Kind) → met n ≡ Some kind → IsMetAs met n (with_structure (parts n) a s) kind) → IsFrame met (put parts n a s) hand (record p { memory = after })
lend_leaves_frame met parts hand p n a s after k left fresh none owes =
    other_parts_leave_frame met parts (put parts n a s) hand p after k (new_is_told p.memory after parts n a s k.tells left fresh) (met_put met parts n a s owes k.members)
    (keeps_put met parts n a s (λ kind on. apart_from_none met parts n a kind k.members on none))

pub another_leaves_frame : (met : ℕ → Option Kind) (parts : StructureSets) (hand : FrameHand) (p : FramePlace) (n a : ℕ) (s : Structure) → IsFrame met parts hand p → Holds p.memory a s → ((b k c : ℕ) (u : Structure) → Has a s b → parts k c ≡ Some u → Has c u b → ⊥) → parts n a ≡ None → ((kind : Kind) → met n ≡ Some kind → IsMetAs met n (with_structure (parts n) a s) kind) → IsFrame met (put parts n a s) hand p
another_leaves_frame met parts hand p n a s k holds apart none owes =
    other_parts_leave_frame met parts (put parts n a s) hand p p.memory k (another_is_told p.memory parts n a s k.tells holds apart) (met_put met parts n a s owes k.members)
    (keeps_put met parts n a s (λ kind on. apart_from_none met parts n a kind k.members on none))

pub fewer_leave_frame : (met : ℕ → Option Kind) (parts : StructureSets) (hand : FrameHand) (p : FramePlace) (n a : ℕ) → IsFrame met parts hand p → ((kind : Kind) → met n ≡ Some kind → (n ≢ a) × IsMetAs met n (without_structure (parts n) a) kind) → IsFrame met (without parts n a) hand p
fewer_leave_frame met parts hand p n a k owes =
    other_parts_leave_frame met parts (without parts n a) hand p p.memory k (fewer_are_told p.memory parts n a k.tells)
    (met_but_one met parts (without parts n a) n (without_beside parts n a)
    (λ kind on. subst (λ (part : Structures). IsMetAs met n part kind) (sym (without_here parts n a)) (owes kind on).1) k.members)
    (keeps_without met parts n a (λ kind on. (owes kind on).0))

unmet : (o : Option Kind) (kind : Kind) → o ≡ None → o ≡ Some kind → ⊥
unmet o kind none some = cc

pub strangers_leave_frame : (met : ℕ → Option Kind) (parts : StructureSets) (hand : FrameHand) (p : FramePlace) (n a : ℕ) → IsFrame met parts hand p → met n ≡ None → IsFrame met (without parts n a) hand p
strangers_leave_frame met parts hand p n a k none =
    fewer_leave_frame met parts hand p n a k (λ kind on. absurd (unmet (met n) kind none on))

pub leaves_put : (met : ℕ → Option Kind) (parts : StructureSets) (n a : ℕ) (s : Structure) → ((kind : Kind) → met n ≡ Some kind → ⊥) → LeavesMet met parts (put parts n a s)
leaves_put met parts n a s none i kind on = put_beside parts n a s i (λ same. none kind (ap met (sym same) ∙ on))

pub leaves_without : (met : ℕ → Option Kind) (parts : StructureSets) (n a : ℕ) → met n ≡ None → LeavesMet met parts (without parts n a)
leaves_without met parts n a none i kind on = without_beside parts n a i (λ same. unmet (met n) kind none (ap met (sym same) ∙ on))

pub leaves_unmet : (met : ℕ → Option Kind) (parts : StructureSets) (n a : ℕ) (s : Structure) → met n ≡ None → LeavesMet met parts (put parts n a s)
leaves_unmet met parts n a s none = leaves_put met parts n a s (λ kind on. unmet (met n) kind none on)

-- ---- a word of a table

two_there : (o : Option Structure) (s t : Structure) → o ≡ Some s → o ≡ Some t → s ≡ t
two_there o s t one other = same_Some s t (sym one ∙ other)

pub table_unmet : (met : ℕ → Option Kind) (parts : StructureSets) (n : ℕ) (words : List ℕ) (kind : Kind) → AreMet met parts → parts n n ≡ Some (Table words) → met n ≡ Some kind → ⊥
table_unmet met parts n words kind members here on =
    let is = there met n (parts n) kind (members n kind on) in
    is.no_table words (two_there (parts n n) is.structure (Table words) is.here here)

pub table_store_leaves_frame : (met : ℕ → Option Kind) (parts : StructureSets) (hand : FrameHand) (p : FramePlace) (n : ℕ) (words : List ℕ) (k v : ℕ) → IsFrame met parts hand p → parts n n ≡ Some (Table words) → k < length words → IsFrame met (put parts n n (Table (set words k v))) hand (record p { memory = with_word p.memory (n + 4 * k) v })
table_store_leaves_frame met parts hand p n words k v frame here below =
    unmet_parts_leave_frame met parts (put parts n n (Table (set words k v))) hand p (with_word p.memory (n + 4 * k) v) frame
    (word_put_table p.memory parts n n words k v frame.tells here below)
    (leaves_put met parts n n (Table (set words k v)) (λ kind on. table_unmet met parts n words kind frame.members here on))

-- ---- more are met

pub leads_further : (met wider : ℕ → Option Kind) (link : Link) → IsMetFurther met wider → LeadsTo met link → LeadsTo wider link
leads_further met wider links.End more leads = tt
leads_further met wider (links.Itd a) more leads = more a AnItd leads
leads_further met wider (links.Qh a) more leads = more a AQueue leads
leads_further met wider (links.Sitd a) more leads = more a ASitd leads
leads_further met wider (links.Fstn a) more leads = leads

met_further : (met wider : ℕ → Option Kind) (n : ℕ) (part : Structures) (kind : Kind) → IsMetFurther met wider → IsMetAs met n part kind → IsMetAs wider n part kind
met_further met wider n part AQueue more m = record { part_is = m.part_is; link = leads_further met wider _ more m.link }
met_further met wider n part AnItd more m = record { itd = m.itd; here = m.here; link = leads_further met wider _ more m.link; slots = m.slots }
met_further met wider n part ASitd more m = record { sitd = m.sitd; here = m.here; link = leads_further met wider _ more m.link; bytes = m.bytes }

abbrev AreNewMet : (ℕ → Option Kind) → (ℕ → Option Kind) → StructureSets → Type 0
AreNewMet met wider parts = (n : ℕ) (kind : Kind) → wider n ≡ Some kind → met n ≡ None → IsMetAs wider n (parts n) kind

more_at : (met wider : ℕ → Option Kind) (parts : StructureSets) (n : ℕ) (kind : Kind) (o : Option Kind) → IsMetFurther met wider → AreNewMet met wider parts → AreMet met parts → wider n ≡ Some kind → met n ≡ o → IsMetAs wider n (parts n) kind
more_at met wider parts n kind None more comes members on is = comes n kind on is
more_at met wider parts n kind (Some k) more comes members on is =
    let same : k ≡ kind = same_Some k kind (sym (more n k is) ∙ on) in
    subst (λ (x : Kind). IsMetAs wider n (parts n) x) same (met_further met wider n (parts n) k more (members n k is))

pub all_met_further : (met wider : ℕ → Option Kind) (parts : StructureSets) → IsMetFurther met wider → ((n : ℕ) (kind : Kind) → wider n ≡ Some kind → met n ≡ None → IsMetAs wider n (parts n) kind) → AreMet met parts → AreMet wider parts
all_met_further met wider parts more comes members n kind on = more_at met wider parts n kind (met n) more comes members on refl

in_hand_further : (met wider : ℕ → Option Kind) (parts : StructureSets) (got : List ℕ) (reply : Reply) (hand : FrameHand) → IsMetFurther met wider → IsInFrame met parts got reply hand → IsInFrame wider parts got reply hand
in_hand_further met wider parts got reply Nothing more k = tt
in_hand_further met wider parts got reply (OfQueue c made) more k =
    record { on = more c.at AQueue k.on; here = k.here; link = leads_further met wider _ more k.link; range = k.range }
in_hand_further met wider parts got reply (OfSettled c s made) more k =
    (record { on = more c.at AQueue k.0.on; here = k.0.here; link = leads_further met wider _ more k.0.link; range = k.0.range }, k.1)
in_hand_further met wider parts got reply (OfItd c) more k = record {
  on = more c.held.at AnItd k.on;
  here = k.here;
  link = leads_further met wider _ more k.link;
  same = k.same;
  held = k.held;
  slot = k.slot;
  count = k.count;
  small = k.small;
  begun = k.begun;
}
in_hand_further met wider parts got reply (OfSitd c) more k =
    record { on = more c.held.at ASitd k.on; here = k.here; link = leads_further met wider _ more k.link; range = k.range; turn = k.turn }

pub more_are_met : (met wider : ℕ → Option Kind) (parts : StructureSets) (hand : FrameHand) (p : FramePlace) → IsFrame met parts hand p → IsMetFurther met wider → ((n : ℕ) (kind : Kind) → wider n ≡ Some kind → met n ≡ None → IsMetAs wider n (parts n) kind) → IsFrame wider parts hand p
more_are_met met wider parts hand p k more comes = record {
  tells = k.tells;
  members = all_met_further met wider parts more comes k.members;
  walk = record {
    cursor = leads_further met wider p.walk.cursor more k.walk.cursor;
    held = k.walk.held;
    in_hand = in_hand_further met wider parts p.walk.got p.walk.reply hand more k.walk.in_hand;
  };
}

-- ---- fewer are met

met_among : (met narrow : ℕ → Option Kind) (parts : StructureSets) (n : ℕ) (kind : Kind) → narrow n ≡ Some kind → AreMetAmong narrow parts → IsMetAs met n (parts n) kind → IsMetAs narrow n (parts n) kind
met_among met narrow parts n AQueue on among m =
    record { part_is = m.part_is; link = among n AQueue (QueueHead m.part_is.queue) on m.part_is.here }
met_among met narrow parts n AnItd on among m = record { itd = m.itd; here = m.here; link = among n AnItd (Isochronous m.itd) on m.here; slots = m.slots }
met_among met narrow parts n ASitd on among m = record { sitd = m.sitd; here = m.here; link = among n ASitd (SplitIsochronous m.sitd) on m.here; bytes = m.bytes }

pub all_met_among : (met narrow : ℕ → Option Kind) (parts : StructureSets) → IsMetFurther narrow met → AreMetAmong narrow parts → AreMet met parts → AreMet narrow parts
all_met_among met narrow parts fewer among members n kind on = met_among met narrow parts n kind on among (members n kind (fewer n kind on))

in_hand_among : (met narrow : ℕ → Option Kind) (parts : StructureSets) (got : List ℕ) (reply : Reply) (hand : FrameHand) → IsFrameHandAmong narrow hand → IsInFrame met parts got reply hand → IsInFrame narrow parts got reply hand
in_hand_among met narrow parts got reply Nothing among k = tt
in_hand_among met narrow parts got reply (OfQueue c made) among k = record { on = among.0; here = k.here; link = among.1; range = k.range }
in_hand_among met narrow parts got reply (OfSettled c s made) among k = (record { on = among.0; here = k.0.here; link = among.1; range = k.0.range }, k.1)
in_hand_among met narrow parts got reply (OfItd c) among k = record {
  on = among.0;
  here = k.here;
  link = among.1;
  same = k.same;
  held = k.held;
  slot = k.slot;
  count = k.count;
  small = k.small;
  begun = k.begun;
}
in_hand_among met narrow parts got reply (OfSitd c) among k = record { on = among.0; here = k.here; link = among.1; range = k.range; turn = k.turn }

pub fewer_are_met : (met narrow : ℕ → Option Kind) (parts : StructureSets) (hand : FrameHand) (p : FramePlace) → IsFrame met parts hand p → IsMetFurther narrow met → AreMetAmong narrow parts → IsFrameAmong narrow hand p → IsFrame narrow parts hand p
fewer_are_met met narrow parts hand p k fewer closed among = record {
  tells = k.tells;
  members = all_met_among met narrow parts fewer closed k.members;
  walk = record { cursor = among.cursor; held = k.walk.held; in_hand = in_hand_among met narrow parts p.walk.got p.walk.reply hand among.in_hand k.walk.in_hand };
}
