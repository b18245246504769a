-- Each qTD of a queue with a transfer more is sound and has a buffer of its own, and the transfer's first qTD can be published.
use Rattle.std.proofs.Common.{◌≡◌, ◌≢◌, ℕ, ◌*◌, ◌⊎◌, List, [], ◌∷◌, ◌++◌, take, Option, Some, None, ap, refl, sym, subst, ◌∙◌, ⊎_elim, inl, inr}
use Rattle.law_structures.proofs.Common.{element_is}
use Rattle.mem_runs.specs.declared.slots.Slot.{Slot}
use Rattle.drv_table.specs.declared.content.QtdNote.{QtdNote}
use Rattle.drv_table.specs.declared.content.Stage.{Stage}
use Rattle.drv_table.specs.Words.{dummy_qtd}
use Rattle.drv_table.specs.Harvests.{note_at}
use Rattle.drv_table.specs.Offers.{is_last}
use Rattle.word_mem.specs.Memory.{Mem}
use Rattle.qh_qtd.specs.declared.qtd.Qtd.{Qtd}
use Rattle.claims_driver.specs.Owners.{Owner, EndpointRuns, TransferRuns, Views}
use Rattle.law_structures.specs.lent_structures.Structures.{Structure, Element, Buffer, StructureSets}
use Rattle.law_structures.specs.lent_structures.Sound.{buffer_name, IsSoundElement, AreOwn}
use Rattle.law_ring.specs.Stores.{IsUnnamed}
use Rattle.law_driver_ring.specs.Published.{IsPublishable}
use Rattle.law_driver_ring.specs.Written.{AreAllApart, next_blocks, buffer_blocks, last_block, AreNoted}
use Rattle.law_driver_ring.specs.Pieces.{stage_qtd, qtd_items, buffer_items, lent_items, IsNewQtd, AreStanding, AreBuffered, NamesRun, NamesLent}
use Rattle.law_driver_ring.proofs.Lists.{IsOneOf, one_left, one_right, apart_right}
use Rattle.law_driver_ring.proofs.Lots.{Lot, items, NamesOne, IsItem, item_left, item_right, item_either, all_found}
use Rattle.law_driver_ring.proofs.TransferOwning.{lent_on}
use Rattle.law_driver_ring.proofs.Pieces.{all_standing, all_buffered, no_qtd, last_stands, first_stands, stage_sound, new_sound, name_of, names_in, stage_alone, new_alone}
use Rattle.law_driver_ring.proofs.Joining.{IsJoining, joined_parts, none_before, same_places, item_here, zero_not_taken, zero_no_buffer, lent_no_new}

pub record IsChain (slot : ℕ → Slot) (notes : List QtdNote) (dummy : ℕ) (s : Stage) (ss : List Stage) (b : ℕ) (after : Mem) (taken : List ℕ) (ls : List Lot) : Type 0 where
  pub noted : AreNoted slot notes (s ∷ ss) b
  pub ends : last_block notes (s ∷ ss) b ≡ dummy
  pub taken_is : taken ≡ next_blocks notes (s ∷ ss) b ++ buffer_blocks notes (s ∷ ss) b
  pub items : items ls ≡ lent_items after notes dummy s ss b

-- what goes into it
pub record Joins (v w : Views) (owner : ℕ → Owner) (t : ℕ) (y : TransferRuns) (x : EndpointRuns) (taken : List ℕ) (after : Mem) (parts : StructureSets) (ls : List Lot) (notes : List QtdNote) (s : Stage) (ss : List Stage) : Type 0 where
  pub joining : IsJoining v w owner t y x taken after parts ls
  pub chain : IsChain v.slot notes x.dummy s ss y.first after taken ls

-- ---- what stands

piece_here : {v w : Views} {owner : ℕ → Owner} {t : ℕ} {y : TransferRuns} {x : EndpointRuns} {taken : List ℕ} {after : Mem} {parts : StructureSets} {ls : List Lot} {notes : List QtdNote} {s : Stage} {ss : List Stage} → Joins v w owner t y x taken after parts ls notes s ss → (a : ℕ) (u : Structure) → IsItem (lent_items after notes x.dummy s ss y.first) a u → joined_parts parts x ls (32 * x.queue) a ≡ Some u
piece_here {v = v} {w = w} {owner = owner} {t = t} {y = y} {x = x} {taken = taken} {after = after} {parts = parts} {ls = ls} k a u there =
    item_here v w owner t y x taken after parts ls a u k.joining (subst (λ is. IsItem is a u) (sym k.chain.items) there)

pub standing : {v w : Views} {owner : ℕ → Owner} {t : ℕ} {y : TransferRuns} {x : EndpointRuns} {taken : List ℕ} {after : Mem} {parts : StructureSets} {ls : List Lot} {notes : List QtdNote} {s : Stage} {ss : List Stage} → Joins v w owner t y x taken after parts ls notes s ss → AreStanding (joined_parts parts x ls (32 * x.queue)) notes x.dummy ss (note_at notes y.first).next
standing {y = y} {x = x} {after = after} {parts = parts} {ls = ls} {notes = notes} {s = s} {ss = ss} k =
    all_standing (joined_parts parts x ls (32 * x.queue)) notes x.dummy ss (note_at notes y.first).next
    (λ a u there. piece_here k a u (item_left (qtd_items notes x.dummy ss (note_at notes y.first).next) (buffer_items after notes x.dummy (s ∷ ss) y.first) a u there))

pub buffered : {v w : Views} {owner : ℕ → Owner} {t : ℕ} {y : TransferRuns} {x : EndpointRuns} {taken : List ℕ} {after : Mem} {parts : StructureSets} {ls : List Lot} {notes : List QtdNote} {s : Stage} {ss : List Stage} → Joins v w owner t y x taken after parts ls notes s ss → AreBuffered (joined_parts parts x ls (32 * x.queue)) notes x.dummy (s ∷ ss) y.first
buffered {y = y} {x = x} {after = after} {parts = parts} {ls = ls} {notes = notes} {s = s} {ss = ss} k =
    all_buffered after (joined_parts parts x ls (32 * x.queue)) notes x.dummy (s ∷ ss) y.first
    (λ a u there. piece_here k a u (item_right (qtd_items notes x.dummy ss (note_at notes y.first).next) (buffer_items after notes x.dummy (s ∷ ss) y.first) a u there))

pub dummy_stands : {v w : Views} {owner : ℕ → Owner} {t : ℕ} {y : TransferRuns} {x : EndpointRuns} {taken : List ℕ} {after : Mem} {parts : StructureSets} {ls : List Lot} {notes : List QtdNote} {s : Stage} {ss : List Stage} → Joins v w owner t y x taken after parts ls notes s ss → joined_parts parts x ls (32 * x.queue) (32 * x.dummy) ≡ Some (Element dummy_qtd)
dummy_stands {y = y} {x = x} {parts = parts} {ls = ls} {notes = notes} {ss = ss} k =
    ap (λ (c : ℕ). joined_parts parts x ls (32 * x.queue) (32 * c)) (sym k.chain.ends) ∙ last_stands (joined_parts parts x ls (32 * x.queue)) notes x.dummy ss (note_at notes y.first).next (standing k)

-- a qTD of the part stood there before, or is a new one
pub element_case : {v w : Views} {owner : ℕ → Owner} {t : ℕ} {y : TransferRuns} {x : EndpointRuns} {taken : List ℕ} {after : Mem} {parts : StructureSets} {ls : List Lot} {notes : List QtdNote} {s : Stage} {ss : List Stage} → Joins v w owner t y x taken after parts ls notes s ss → (a : ℕ) (u : Qtd) → joined_parts parts x ls (32 * x.queue) a ≡ Some (Element u) → (parts (32 * x.queue) a ≡ Some (Element u)) ⊎ IsItem (qtd_items notes x.dummy ss (note_at notes y.first).next) a (Element u)
element_case {y = y} {x = x} {after = after} {parts = parts} {ls = ls} {notes = notes} {s = s} {ss = ss} k a u there =
    let qtds = qtd_items notes x.dummy ss (note_at notes y.first).next in
    let buffers = buffer_items after notes x.dummy (s ∷ ss) y.first in
    ⊎_elim
    (λ (new : (32 * x.queue ≡ 32 * x.queue) × IsItem (items ls) a (Element u)).
    ⊎_elim (λ (qtd : IsItem qtds a (Element u)). inr qtd) (λ (buffer : IsItem buffers a (Element u)). absurd (no_qtd after notes x.dummy (s ∷ ss) y.first a u buffer))
    (item_either qtds buffers a (Element u) (subst (λ is. IsItem is a (Element u)) k.chain.items new.1)))
    (λ (old : parts (32 * x.queue) a ≡ Some (Element u)). inl old)
    (all_found parts (32 * x.queue) (items ls) (32 * x.queue) a (Element u) there)

pub elements_sound : {v w : Views} {owner : ℕ → Owner} {t : ℕ} {y : TransferRuns} {x : EndpointRuns} {taken : List ℕ} {after : Mem} {parts : StructureSets} {ls : List Lot} {notes : List QtdNote} {s : Stage} {ss : List Stage} → Joins v w owner t y x taken after parts ls notes s ss → (a : ℕ) (u : Qtd) → joined_parts parts x ls (32 * x.queue) a ≡ Some (Element u) → (parts (32 * x.queue) a ≡ Some (Element u)) ⊎ IsSoundElement (joined_parts parts x ls (32 * x.queue)) u
elements_sound {y = y} {x = x} {parts = parts} {ls = ls} {notes = notes} {ss = ss} k a u there =
    let b = (note_at notes y.first).next in
    ⊎_elim (λ (old : parts (32 * x.queue) a ≡ Some (Element u)). inl old)
    (λ (new : IsItem (qtd_items notes x.dummy ss b) a (Element u)).
    inr (new_sound (joined_parts parts x ls (32 * x.queue)) notes x.dummy ss b a u (standing k) (buffered k).1 (record { qtd = dummy_qtd; here = dummy_stands k }) new))
    (element_case k a u there)

-- ---- names

-- the buffer of a new qTD begins in a run that was taken
new_name : {v w : Views} {owner : ℕ → Owner} {t : ℕ} {y : TransferRuns} {x : EndpointRuns} {taken : List ℕ} {after : Mem} {parts : StructureSets} {ls : List Lot} {notes : List QtdNote} {s : Stage} {ss : List Stage} → Joins v w owner t y x taken after parts ls notes s ss → (a : ℕ) (u : Qtd) → IsItem (qtd_items notes x.dummy ss (note_at notes y.first).next) a (Element u) → (buffer_name u ≡ 0) ⊎ NamesOne taken (buffer_name u)
new_name {v = v} {y = y} {x = x} {taken = taken} {notes = notes} {s = s} {ss = ss} k a u there =
    let note = note_at notes y.first in
    let cs = take note.runs note.buffer in
    let rest = buffer_blocks notes ss note.next in
    ⊎_elim (λ (none : buffer_name u ≡ 0). inl none)
    (λ (one : NamesOne rest (buffer_name u)).
    inr (record { at = one.at; one = subst (IsOneOf one.at) (sym k.chain.taken_is) (one_right one.at (next_blocks notes (s ∷ ss) y.first) (cs ++ rest) (one_right one.at cs rest one.one)); is = one.is }))
    (names_in v.slot notes x.dummy ss note.next a u k.chain.noted.1 there)

first_name : {v w : Views} {owner : ℕ → Owner} {t : ℕ} {y : TransferRuns} {x : EndpointRuns} {taken : List ℕ} {after : Mem} {parts : StructureSets} {ls : List Lot} {notes : List QtdNote} {s : Stage} {ss : List Stage} → Joins v w owner t y x taken after parts ls notes s ss → (buffer_name (stage_qtd notes s y.first x.dummy (is_last ss)) ≡ 0) ⊎ NamesOne taken (buffer_name (stage_qtd notes s y.first x.dummy (is_last ss)))
first_name {v = v} {y = y} {x = x} {taken = taken} {notes = notes} {s = s} {ss = ss} k =
    let note = note_at notes y.first in
    let cs = take note.runs note.buffer in
    let rest = buffer_blocks notes ss note.next in
    let u = stage_qtd notes s y.first x.dummy (is_last ss) in
    ⊎_elim (λ (none : buffer_name u ≡ 0). inl none)
    (λ (one : NamesOne cs (buffer_name u)).
    inr (record { at = one.at; one = subst (IsOneOf one.at) (sym k.chain.taken_is) (one_right one.at (next_blocks notes (s ∷ ss) y.first) (cs ++ rest) (one_left one.at cs rest one.one)); is = one.is }))
    (name_of v.slot notes s y.first x.dummy (is_last ss) k.chain.noted.0)

-- each name is 0, or lies in a run that is lent now
taken_lent : {v w : Views} {owner : ℕ → Owner} {t : ℕ} {y : TransferRuns} {x : EndpointRuns} {taken : List ℕ} {after : Mem} {parts : StructureSets} {ls : List Lot} {notes : List QtdNote} {s : Stage} {ss : List Stage} → Joins v w owner t y x taken after parts ls notes s ss → (name : ℕ) → NamesOne taken name → NamesRun w.slot name
taken_lent k name one = record { block = one.at; is = one.is; lent = k.joining.on.lent one.at one.one }

pub names_lent : {v w : Views} {owner : ℕ → Owner} {t : ℕ} {y : TransferRuns} {x : EndpointRuns} {taken : List ℕ} {after : Mem} {parts : StructureSets} {ls : List Lot} {notes : List QtdNote} {s : Stage} {ss : List Stage} → Joins v w owner t y x taken after parts ls notes s ss → NamesLent w.slot (joined_parts parts x ls (32 * x.queue))
names_lent {v = v} {w = w} {owner = owner} {t = t} {y = y} {x = x} {taken = taken} {parts = parts} {notes = notes} {ss = ss} k a u there =
    ⊎_elim
    (λ (old : parts (32 * x.queue) a ≡ Some (Element u)).
    ⊎_elim (λ (none : buffer_name u ≡ 0). inl none)
    (λ (run : NamesRun v.slot (buffer_name u)). inr (record { block = run.block; is = run.is; lent = lent_on v w owner t y x taken run.block k.joining.on run.lent })) (k.joining.names a u old))
    (λ (new : IsItem (qtd_items notes x.dummy ss (note_at notes y.first).next) a (Element u)).
    ⊎_elim (λ (none : buffer_name u ≡ 0). inl none) (λ (one : NamesOne taken (buffer_name u)). inr (taken_lent k (buffer_name u) one)) (new_name k a u new))
    (element_case k a u there)

-- ---- no two have one buffer

-- one that stood before, and a new one
old_and_new : {v w : Views} {owner : ℕ → Owner} {t : ℕ} {y : TransferRuns} {x : EndpointRuns} {taken : List ℕ} {after : Mem} {parts : StructureSets} {ls : List Lot} {notes : List QtdNote} {s : Stage} {ss : List Stage} → Joins v w owner t y x taken after parts ls notes s ss → (name other : ℕ) → (name ≡ 0) ⊎ NamesRun v.slot name → (other ≡ 0) ⊎ NamesOne taken other → name ≡ other → name ≢ 0 → ⊥
old_and_new {v = v} {w = w} {owner = owner} {t = t} {y = y} {x = x} {taken = taken} k name other old new same some =
    ⊎_elim (λ (none : name ≡ 0). some none)
    (λ (run : NamesRun v.slot name). ⊎_elim (λ (none : other ≡ 0). some (same ∙ none)) (λ (one : NamesOne taken other). lent_no_new v w owner t y x taken name other k.joining.on run one same) new) old

-- a buffer of a qTD that stood before stood before too
old_buffer : {v w : Views} {owner : ℕ → Owner} {t : ℕ} {y : TransferRuns} {x : EndpointRuns} {taken : List ℕ} {after : Mem} {parts : StructureSets} {ls : List Lot} {notes : List QtdNote} {s : Stage} {ss : List Stage} → Joins v w owner t y x taken after parts ls notes s ss → (name : ℕ) → (name ≡ 0) ⊎ NamesRun v.slot name → joined_parts parts x ls (32 * x.queue) name ≡ parts (32 * x.queue) name
old_buffer {v = v} {w = w} {owner = owner} {t = t} {y = y} {x = x} {taken = taken} {after = after} {parts = parts} {ls = ls} k name old =
    ⊎_elim
    (λ (none : name ≡ 0).
    ap (joined_parts parts x ls (32 * x.queue)) none
    ∙ same_places v w owner t y x taken after parts ls (32 * x.queue) 0 k.joining (zero_not_taken v w owner t y x taken k.joining.on) ∙ ap (parts (32 * x.queue)) (sym none))
    (λ (run : NamesRun v.slot name).
    ap (joined_parts parts x ls (32 * x.queue)) run.is
    ∙ same_places v w owner t y x taken after parts ls (32 * x.queue) run.block k.joining (λ one. k.joining.on.kept run.block one run.lent) ∙ ap (parts (32 * x.queue)) (sym run.is))
    old

pub joined_own : {v w : Views} {owner : ℕ → Owner} {t : ℕ} {y : TransferRuns} {x : EndpointRuns} {taken : List ℕ} {after : Mem} {parts : StructureSets} {ls : List Lot} {notes : List QtdNote} {s : Stage} {ss : List Stage} → Joins v w owner t y x taken after parts ls notes s ss → AreOwn (parts (32 * x.queue)) → AreOwn (joined_parts parts x ls (32 * x.queue))
joined_own {v = v} {w = w} {owner = owner} {t = t} {y = y} {x = x} {taken = taken} {after = after} {parts = parts} {ls = ls} {notes = notes} {s = s} {ss = ss} k own a b u z pages i bs one two same there =
    let n = 32 * x.queue in
    let first = note_at notes y.first in
    let qtds = qtd_items notes x.dummy ss first.next in
    let some : buffer_name u ≢ 0 = λ none. zero_no_buffer v w owner t y x taken after parts ls n i pages bs k.joining (ap (joined_parts parts x ls n) (sym none) ∙ there) in
    ⊎_elim
    (λ (old : parts n a ≡ Some (Element u)).
    ⊎_elim
    (λ (also : parts n b ≡ Some (Element z)).
    own a b u z pages i bs old also same (sym (old_buffer k (buffer_name u) (k.joining.names a u old)) ∙ there))
    (λ (new : IsItem qtds b (Element z)). absurd (old_and_new k (buffer_name u) (buffer_name z) (k.joining.names a u old) (new_name k b z new) same some))
    (element_case k b z two))
    (λ (new : IsItem qtds a (Element u)).
    ⊎_elim
    (λ (old : parts n b ≡ Some (Element z)).
    absurd (old_and_new k (buffer_name z) (buffer_name u) (k.joining.names b z old) (new_name k a u new) (sym same) (λ none. some (same ∙ none))))
    (λ (also : IsItem qtds b (Element z)).
    new_alone v.slot notes x.dummy ss first.next a b u z k.chain.noted.1
    (apart_right (take first.runs first.buffer) (buffer_blocks notes ss first.next) (apart_right (next_blocks notes (s ∷ ss) y.first) (buffer_blocks notes (s ∷ ss) y.first) (subst AreAllApart k.chain.taken_is k.joining.apart)))
    new also same some)
    (element_case k b z two))
    (element_case k a u one)

-- ---- the first qTD

-- no other qTD of the part has its buffer
first_unnamed : {v w : Views} {owner : ℕ → Owner} {t : ℕ} {y : TransferRuns} {x : EndpointRuns} {taken : List ℕ} {after : Mem} {parts : StructureSets} {ls : List Lot} {notes : List QtdNote} {s : Stage} {ss : List Stage} → Joins v w owner t y x taken after parts ls notes s ss → IsUnnamed (joined_parts parts x ls (32 * x.queue)) (32 * y.first) (stage_qtd notes s y.first x.dummy (is_last ss))
first_unnamed {v = v} {w = w} {owner = owner} {t = t} {y = y} {x = x} {taken = taken} {after = after} {parts = parts} {ls = ls} {notes = notes} {s = s} {ss = ss} k b z differs there same buffer =
    let n = 32 * x.queue in
    let u = stage_qtd notes s y.first x.dummy (is_last ss) in
    let some : buffer_name u ≢ 0 = λ none. zero_no_buffer v w owner t y x taken after parts ls n buffer.start buffer.pages buffer.bytes k.joining (ap (joined_parts parts x ls n) (sym none) ∙ buffer.here) in
    ⊎_elim
    (λ (old : parts n b ≡ Some (Element z)). old_and_new k (buffer_name z) (buffer_name u) (k.joining.names b z old) (first_name k) same (λ none. some (sym same ∙ none)))
    (λ (new : IsItem (qtd_items notes x.dummy ss (note_at notes y.first).next) b (Element z)).
    stage_alone v.slot notes s x.dummy ss y.first b (is_last ss) z k.chain.noted
    (apart_right (next_blocks notes (s ∷ ss) y.first) (buffer_blocks notes (s ∷ ss) y.first) (subst AreAllApart k.chain.taken_is k.joining.apart)) new (sym same) (λ none. some (sym same ∙ none)))
    (element_case k b z there)

blank_unnamed : {v w : Views} {owner : ℕ → Owner} {t : ℕ} {y : TransferRuns} {x : EndpointRuns} {taken : List ℕ} {after : Mem} {parts : StructureSets} {ls : List Lot} {notes : List QtdNote} {s : Stage} {ss : List Stage} → Joins v w owner t y x taken after parts ls notes s ss → IsUnnamed (joined_parts parts x ls (32 * x.queue)) (32 * y.first) dummy_qtd
blank_unnamed {v = v} {w = w} {owner = owner} {t = t} {y = y} {x = x} {taken = taken} {after = after} {parts = parts} {ls = ls} k b z differs there same buffer =
    zero_no_buffer v w owner t y x taken after parts ls (32 * x.queue) buffer.start buffer.pages buffer.bytes k.joining buffer.here

pub first_publishable : {v w : Views} {owner : ℕ → Owner} {t : ℕ} {y : TransferRuns} {x : EndpointRuns} {taken : List ℕ} {after : Mem} {parts : StructureSets} {ls : List Lot} {notes : List QtdNote} {s : Stage} {ss : List Stage} → Joins v w owner t y x taken after parts ls notes s ss → IsPublishable (joined_parts parts x ls (32 * x.queue)) (32 * y.first) (stage_qtd notes s y.first x.dummy (is_last ss))
first_publishable {y = y} {x = x} {parts = parts} {ls = ls} {notes = notes} {s = s} {ss = ss} k =
    let now = joined_parts parts x ls (32 * x.queue) in
    record {
      sound = stage_sound now notes s y.first x.dummy (is_last ss) (first_stands now notes x.dummy ss (note_at notes y.first).next (standing k)) (record { qtd = dummy_qtd; here = dummy_stands k }) (buffered k).0;
      own = first_unnamed k;
      blank = blank_unnamed k;
    }

-- ---- for those who go on from here

item_new : (notes : List QtdNote) (dummy : ℕ) (ss : List Stage) (b a : ℕ) (u : Qtd) → IsItem (qtd_items notes dummy ss b) a (Element u) → IsNewQtd notes dummy ss b a u
item_new notes dummy [] b a u (inl here) = (here.0, element_is u dummy_qtd here.1)
item_new notes dummy [] b a u (inr none) = absurd none
item_new notes dummy (s ∷ ss) b a u (inl here) = inl (here.0, element_is u (stage_qtd notes s b dummy (is_last ss)) here.1)
item_new notes dummy (s ∷ ss) b a u (inr there) = inr (item_new notes dummy ss (note_at notes b).next a u there)

new_named : (notes : List QtdNote) (dummy : ℕ) (ss : List Stage) (b a : ℕ) (u : Qtd) → IsNewQtd notes dummy ss b a u → NamesOne (b ∷ next_blocks notes ss b) a
new_named notes dummy [] b a u here = record { at = b; one = inl refl; is = here.0 }
new_named notes dummy (s ∷ ss) b a u (inl here) = record { at = b; one = inl refl; is = here.0 }
new_named notes dummy (s ∷ ss) b a u (inr there) = let n = new_named notes dummy ss (note_at notes b).next a u there in record { at = n.at; one = inr n.one; is = n.is }

pub elements_known : {v w : Views} {owner : ℕ → Owner} {t : ℕ} {y : TransferRuns} {x : EndpointRuns} {taken : List ℕ} {after : Mem} {parts : StructureSets} {ls : List Lot} {notes : List QtdNote} {s : Stage} {ss : List Stage} → Joins v w owner t y x taken after parts ls notes s ss → (a : ℕ) (u : Qtd) → joined_parts parts x ls (32 * x.queue) a ≡ Some (Element u) → (parts (32 * x.queue) a ≡ Some (Element u)) ⊎ IsNewQtd notes x.dummy ss (note_at notes y.first).next a u
elements_known {y = y} {x = x} {parts = parts} {notes = notes} {ss = ss} k a u there =
    ⊎_elim (λ (old : parts (32 * x.queue) a ≡ Some (Element u)). inl old)
    (λ (new : IsItem (qtd_items notes x.dummy ss (note_at notes y.first).next) a (Element u)). inr (item_new notes x.dummy ss (note_at notes y.first).next a u new)) (element_case k a u there)

pub none_there : {v w : Views} {owner : ℕ → Owner} {t : ℕ} {y : TransferRuns} {x : EndpointRuns} {taken : List ℕ} {after : Mem} {parts : StructureSets} {ls : List Lot} {notes : List QtdNote} {s : Stage} {ss : List Stage} → Joins v w owner t y x taken after parts ls notes s ss → (a : ℕ) (u : Qtd) → IsNewQtd notes x.dummy ss (note_at notes y.first).next a u → parts (32 * x.queue) a ≡ None
none_there {v = v} {w = w} {owner = owner} {t = t} {y = y} {x = x} {taken = taken} {after = after} {parts = parts} {ls = ls} {notes = notes} {s = s} {ss = ss} k a u there =
    let named = new_named notes x.dummy ss (note_at notes y.first).next a u there in
    let one = subst (IsOneOf named.at) (sym k.chain.taken_is) (one_left named.at (next_blocks notes (s ∷ ss) y.first) (buffer_blocks notes (s ∷ ss) y.first) named.one) in
    by_case (parts (32 * x.queue) a) refl (λ z here. none_before v w owner t y x taken after parts ls (32 * x.queue) named.at z k.joining one (ap (parts (32 * x.queue)) (sym named.is) ∙ here))
  where
    by_case : (o : Option Structure) → parts (32 * x.queue) a ≡ o → ((z : Structure) → parts (32 * x.queue) a ≡ Some z → ⊥) → o ≡ None
    by_case None is never = refl
    by_case (Some z) is never = absurd (never z is)

pub buffers_stay : {v w : Views} {owner : ℕ → Owner} {t : ℕ} {y : TransferRuns} {x : EndpointRuns} {taken : List ℕ} {after : Mem} {parts : StructureSets} {ls : List Lot} {notes : List QtdNote} {s : Stage} {ss : List Stage} → Joins v w owner t y x taken after parts ls notes s ss → (a : ℕ) (u : Qtd) → parts (32 * x.queue) a ≡ Some (Element u) → joined_parts parts x ls (32 * x.queue) (buffer_name u) ≡ parts (32 * x.queue) (buffer_name u)
buffers_stay k a u there = old_buffer k (buffer_name u) (k.joining.names a u there)

pub none_at_zero : {v w : Views} {owner : ℕ → Owner} {t : ℕ} {y : TransferRuns} {x : EndpointRuns} {taken : List ℕ} {after : Mem} {parts : StructureSets} {ls : List Lot} {notes : List QtdNote} {s : Stage} {ss : List Stage} → Joins v w owner t y x taken after parts ls notes s ss → (pages : List ℕ) (i : ℕ) (bs : List ℕ) → joined_parts parts x ls (32 * x.queue) 0 ≡ Some (Buffer pages i bs) → ⊥
none_at_zero {v = v} {w = w} {owner = owner} {t = t} {y = y} {x = x} {taken = taken} {after = after} {parts = parts} {ls = ls} k pages i bs there =
    zero_no_buffer v w owner t y x taken after parts ls (32 * x.queue) i pages bs k.joining there
