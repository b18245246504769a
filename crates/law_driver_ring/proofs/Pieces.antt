-- What the structures of a transfer are to one another: their links lead on, each has its buffer, and no two have one.
use Rattle.std.proofs.Common.{◌≡◌, ◌≢◌, ℕ, zero, suc, ◌*◌, ◌<◌, ◌≤◌, ◌⊎◌, Bool, List, [], ◌∷◌, ◌++◌, length, take, get_or, Some, ap, refl, sym, subst, ◌∙◌, ⊎_elim, inl, inr, arith}
use Rattle.std.proofs.lemmas.Bool.{cases_lt, true≢false}
use Rattle.law_structures.proofs.Common.{element_is}
use Rattle.word_mem.specs.Memory.{Mem}
use Rattle.mem_bytes.specs.Bytes.{bytes_at}
use Rattle.mem_bytes.proofs.Loads.{length-bytes_at}
use Rattle.link_words.specs.Links.{qtd_link_of}
use Rattle.qh_qtd.specs.declared.qtd.Qtd.{Qtd}
use Rattle.mem_runs.specs.declared.slots.Slot.{Slot}
use Rattle.drv_table.specs.declared.content.Alternate.{Alternate}
use Rattle.drv_table.specs.declared.content.Alternate.TheVariants as alternates
use Rattle.drv_table.specs.declared.content.QtdNote.{QtdNote}
use Rattle.drv_table.specs.declared.content.Stage.{Stage}
use Rattle.drv_table.specs.Words.{dummy_qtd, alternate_link}
use Rattle.drv_table.specs.Harvests.{note_at}
use Rattle.drv_table.specs.Offers.{is_last}
use Rattle.law_structures.specs.lent_structures.Structures.{Structure, Element, Buffer, Structures}
use Rattle.law_structures.specs.lent_structures.Sound.{IsElement, LeadsOn, element_pages, buffer_name, HasBuffer, IsSoundElement}
use Rattle.law_ring.specs.Together.{Item}
use Rattle.law_driver_ring.specs.Written.{AreAllApart, buffer_blocks, last_block, IsStageNoted, AreNoted}
use Rattle.law_driver_ring.specs.Pieces.{stage_qtd, with_buffer, qtd_items, buffer_items, AreStanding, AreBuffered}
use Rattle.law_driver_ring.proofs.Lists.{one_left, one_right, at_one, apart_right, apart_halves}
use Rattle.law_driver_ring.proofs.Buffers.{take_same, name_at}
use Rattle.law_driver_ring.proofs.Lots.{NamesOne, IsItem}

-- ---- they stand in a part that has each of them

pub all_standing : (part : Structures) (notes : List QtdNote) (dummy : ℕ) (ss : List Stage) (b : ℕ) → ((a : ℕ) (u : Structure) → IsItem (qtd_items notes dummy ss b) a u → part a ≡ Some u) → AreStanding part notes dummy ss b
all_standing part notes dummy [] b has = has (32 * b) (Element dummy_qtd) (inl (refl, refl))
all_standing part notes dummy (s ∷ ss) b has = (
  has (32 * b) (Element (stage_qtd notes s b dummy (is_last ss))) (inl (refl, refl)),
  all_standing part notes dummy ss (note_at notes b).next (λ a u there. has a u (inr there)),
)

-- the buffer of a qTD that asks for n bytes, and what comes after it
has_its : (m : Mem) (part : Structures) (t : Qtd) (n : ℕ) (is : List Item) → ((a : ℕ) (u : Structure) → IsItem (with_buffer m t n is) a u → part a ≡ Some u) → 0 < n → HasBuffer part t n
has_its m part t zero is has some = absurd (omega (arith, some))
has_its m part t (suc n) is has some = record {
  bytes = bytes_at m (element_pages t) t.offset (suc n);
  here = has (buffer_name t) (Buffer (element_pages t) t.offset (bytes_at m (element_pages t) t.offset (suc n))) (inl (refl, refl));
  size = length-bytes_at m (element_pages t) t.offset (suc n);
}

after_its : (m : Mem) (t : Qtd) (n : ℕ) (is : List Item) (a : ℕ) (u : Structure) → IsItem is a u → IsItem (with_buffer m t n is) a u
after_its m t zero is a u there = there
after_its m t (suc n) is a u there = inr there

pub all_buffered : (m : Mem) (part : Structures) (notes : List QtdNote) (dummy : ℕ) (ss : List Stage) (b : ℕ) → ((a : ℕ) (u : Structure) → IsItem (buffer_items m notes dummy ss b) a u → part a ≡ Some u) → AreBuffered part notes dummy ss b
all_buffered m part notes dummy [] b has = tt
all_buffered m part notes dummy (s ∷ ss) b has =
    let t = stage_qtd notes s b dummy (is_last ss) in
    let rest = buffer_items m notes dummy ss (note_at notes b).next in (
      λ some. has_its m part t s.long rest has some,
      all_buffered m part notes dummy ss (note_at notes b).next (λ a u there. has a u (after_its m t s.long rest a u there)),
    )

-- no buffer is a qTD
pub no_qtd : (m : Mem) (notes : List QtdNote) (dummy : ℕ) (ss : List Stage) (b a : ℕ) (t : Qtd) → IsItem (buffer_items m notes dummy ss b) a (Element t) → ⊥
no_qtd m notes dummy [] b a t there = there
no_qtd m notes dummy (s ∷ ss) b a t there =
    no_its m (stage_qtd notes s b dummy (is_last ss)) s.long (buffer_items m notes dummy ss (note_at notes b).next) there (λ rest. no_qtd m notes dummy ss (note_at notes b).next a t rest)
  where
    no_its : (m : Mem) (v : Qtd) (n : ℕ) (is : List Item) → IsItem (with_buffer m v n is) a (Element t) → (IsItem is a (Element t) → ⊥) → ⊥
    no_its m v zero is there rest = rest there
    no_its m v (suc n) is (inl here) rest = different here.1
      where
        different : Element t ≡ Buffer (element_pages v) v.offset (bytes_at m (element_pages v) v.offset (suc n)) → ⊥
        different same = cc
    no_its m v (suc n) is (inr there) rest = rest there

-- ---- they are sound

pub first_stands : (part : Structures) (notes : List QtdNote) (dummy : ℕ) (ss : List Stage) (b : ℕ) → AreStanding part notes dummy ss b → IsElement part (32 * b)
first_stands part notes dummy [] b stand = record { qtd = dummy_qtd; here = stand }
first_stands part notes dummy (s ∷ ss) b stand = record { qtd = stage_qtd notes s b dummy (is_last ss); here = stand.0 }

pub last_stands : (part : Structures) (notes : List QtdNote) (dummy : ℕ) (ss : List Stage) (b : ℕ) → AreStanding part notes dummy ss b → part (32 * last_block notes ss b) ≡ Some (Element dummy_qtd)
last_stands part notes dummy [] b stand = stand
last_stands part notes dummy (s ∷ ss) b stand = last_stands part notes dummy ss (note_at notes b).next stand.1

alternate_leads : (part : Structures) (a : Alternate) (next dummy : ℕ) → IsElement part (32 * next) → IsElement part (32 * dummy) → LeadsOn part (qtd_link_of (alternate_link a next dummy))
alternate_leads part alternates.Nowhere next dummy on end = tt
alternate_leads part alternates.Dummy next dummy on end = end
alternate_leads part alternates.Next next dummy on end = on

pub stage_sound : (part : Structures) (notes : List QtdNote) (s : Stage) (b dummy : ℕ) (last : Bool) → IsElement part (32 * (note_at notes b).next) → IsElement part (32 * dummy) → (0 < s.long → HasBuffer part (stage_qtd notes s b dummy last) s.long) → IsSoundElement part (stage_qtd notes s b dummy last)
stage_sound part notes s b dummy last next end buffer = record {
  next = next;
  alternate = alternate_leads part s.alternate (note_at notes b).next dummy next end;
  work = λ on. record { goes_on = refl; start = refl; buffer = buffer };
}

dummy_sound : (part : Structures) → IsSoundElement part dummy_qtd
dummy_sound part = record { next = tt; alternate = tt; work = λ on. absurd (true≢false (sym on)) }

pub new_sound : (part : Structures) (notes : List QtdNote) (dummy : ℕ) (ss : List Stage) (b a : ℕ) (t : Qtd) → AreStanding part notes dummy ss b → AreBuffered part notes dummy ss b → IsElement part (32 * dummy) → IsItem (qtd_items notes dummy ss b) a (Element t) → IsSoundElement part t
new_sound part notes dummy [] b a t stand buffered end (inl here) = subst (IsSoundElement part) (sym (element_is t dummy_qtd here.1)) (dummy_sound part)
new_sound part notes dummy [] b a t stand buffered end (inr none) = absurd none
new_sound part notes dummy (s ∷ ss) b a t stand buffered end (inl here) =
    subst (IsSoundElement part) (sym (element_is t (stage_qtd notes s b dummy (is_last ss)) here.1))
    (stage_sound part notes s b dummy (is_last ss) (first_stands part notes dummy ss (note_at notes b).next stand.1) end buffered.0)
new_sound part notes dummy (s ∷ ss) b a t stand buffered end (inr there) = new_sound part notes dummy ss (note_at notes b).next a t stand.1 buffered.1 end there

-- ---- their names

-- a qTD's buffer begins in one of its runs, or it has none
pub name_of : (slot : ℕ → Slot) (notes : List QtdNote) (s : Stage) (b dummy : ℕ) (last : Bool) → IsStageNoted slot (note_at notes b) s → (buffer_name (stage_qtd notes s b dummy last) ≡ 0) ⊎ NamesOne (take (note_at notes b).runs (note_at notes b).buffer) (buffer_name (stage_qtd notes s b dummy last))
name_of slot notes s b dummy last noted =
    let note = note_at notes b in
    let cs = take note.runs note.buffer in
    ⊎_elim
    (λ (some : 0 < length cs).
    inr (record { at = get_or cs 0 0; one = at_one cs 0 some; is = name_at note.buffer ∙ ap (λ (c : ℕ). 32 * c) (sym (take_same note.runs note.buffer 0 some)) }))
    (λ (none : length cs ≤ 0). inl (name_at note.buffer ∙ ap (λ (c : ℕ). 32 * c) (first_zero note.runs note.buffer none noted.rest)))
    (cases_lt 0 (length cs))
  where
    first_zero : (k : ℕ) (xs : List ℕ) → length (take k xs) ≤ 0 → ((j : ℕ) → k ≤ j → get_or xs j 0 ≡ 0) → get_or xs 0 0 ≡ 0
    first_zero zero xs none rest = rest 0 (omega arith)
    first_zero (suc k) [] none rest = refl
    first_zero (suc k) (x ∷ xs) none rest = absurd (omega (arith, none))

pub names_in : (slot : ℕ → Slot) (notes : List QtdNote) (dummy : ℕ) (ss : List Stage) (b a : ℕ) (t : Qtd) → AreNoted slot notes ss b → IsItem (qtd_items notes dummy ss b) a (Element t) → (buffer_name t ≡ 0) ⊎ NamesOne (buffer_blocks notes ss b) (buffer_name t)
names_in slot notes dummy [] b a t noted (inl here) = inl (ap buffer_name (element_is t dummy_qtd here.1))
names_in slot notes dummy [] b a t noted (inr none) = absurd none
names_in slot notes dummy (s ∷ ss) b a t noted (inl here) =
    let note = note_at notes b in
    let cs = take note.runs note.buffer in
    let rest = buffer_blocks notes ss note.next in
    let v = stage_qtd notes s b dummy (is_last ss) in
    let same : buffer_name t ≡ buffer_name v = ap buffer_name (element_is t v here.1) in
    ⊎_elim (λ (none : buffer_name v ≡ 0). inl (same ∙ none))
    (λ (one : NamesOne cs (buffer_name v)). inr (record { at = one.at; one = one_left one.at cs rest one.one; is = same ∙ one.is }))
    (name_of slot notes s b dummy (is_last ss) noted.0)
names_in slot notes dummy (s ∷ ss) b a t noted (inr there) =
    let note = note_at notes b in
    let cs = take note.runs note.buffer in
    let rest = buffer_blocks notes ss note.next in
    ⊎_elim (λ (none : buffer_name t ≡ 0). inl none)
    (λ (one : NamesOne rest (buffer_name t)). inr (record { at = one.at; one = one_right one.at cs rest one.one; is = one.is }))
    (names_in slot notes dummy ss note.next a t noted.1 there)

-- no two have one buffer
two_names : (xs ys : List ℕ) (n k : ℕ) → AreAllApart (xs ++ ys) → NamesOne xs n → NamesOne ys k → n ≡ k → ⊥
two_names xs ys n k apart one two same = apart_halves xs ys one.at two.at apart one.one two.one (let e = one.is in let f = two.is in omega (arith, e, f, same))

-- one qTD and those after it
pub stage_alone : (slot : ℕ → Slot) (notes : List QtdNote) (s : Stage) (dummy : ℕ) (ss : List Stage) (b a : ℕ) (last : Bool) (t : Qtd) → AreNoted slot notes (s ∷ ss) b → AreAllApart (buffer_blocks notes (s ∷ ss) b) → IsItem (qtd_items notes dummy ss (note_at notes b).next) a (Element t) → buffer_name (stage_qtd notes s b dummy last) ≡ buffer_name t → buffer_name t ≢ 0 → ⊥
stage_alone slot notes s dummy ss b a last t noted apart there same some =
    let note = note_at notes b in
    let cs = take note.runs note.buffer in
    let rest = buffer_blocks notes ss note.next in
    let v = stage_qtd notes s b dummy last in
    ⊎_elim (λ (none : buffer_name v ≡ 0). some (sym same ∙ none))
    (λ (one : NamesOne cs (buffer_name v)).
    ⊎_elim (λ (none : buffer_name t ≡ 0). some none) (λ (two : NamesOne rest (buffer_name t)). two_names cs rest (buffer_name v) (buffer_name t) apart one two same)
    (names_in slot notes dummy ss note.next a t noted.1 there))
    (name_of slot notes s b dummy last noted.0)

pub new_alone : (slot : ℕ → Slot) (notes : List QtdNote) (dummy : ℕ) (ss : List Stage) (b a c : ℕ) (t u : Qtd) → AreNoted slot notes ss b → AreAllApart (buffer_blocks notes ss b) → IsItem (qtd_items notes dummy ss b) a (Element t) → IsItem (qtd_items notes dummy ss b) c (Element u) → buffer_name t ≡ buffer_name u → buffer_name t ≢ 0 → a ≡ c
new_alone slot notes dummy [] b a c t u noted apart (inl one) (inl two) same some = one.0 ∙ sym two.0
new_alone slot notes dummy [] b a c t u noted apart (inr none) two same some = absurd none
new_alone slot notes dummy [] b a c t u noted apart one (inr none) same some = absurd none
new_alone slot notes dummy (s ∷ ss) b a c t u noted apart (inl one) (inl two) same some = one.0 ∙ sym two.0
new_alone slot notes dummy (s ∷ ss) b a c t u noted apart (inl one) (inr two) same some =
    let v = stage_qtd notes s b dummy (is_last ss) in
    absurd (stage_alone slot notes s dummy ss b c (is_last ss) u noted apart two (sym (ap buffer_name (element_is t v one.1)) ∙ same) (λ e. some (same ∙ e)))
new_alone slot notes dummy (s ∷ ss) b a c t u noted apart (inr one) (inl two) same some =
    let v = stage_qtd notes s b dummy (is_last ss) in
    absurd (stage_alone slot notes s dummy ss b a (is_last ss) t noted apart one (sym (ap buffer_name (element_is u v two.1)) ∙ sym same) some)
new_alone slot notes dummy (s ∷ ss) b a c t u noted apart (inr one) (inr two) same some =
    let note = note_at notes b in
    let cs = take note.runs note.buffer in
    new_alone slot notes dummy ss note.next a c t u noted.1 (apart_right cs (buffer_blocks notes ss note.next) apart) one two same some
