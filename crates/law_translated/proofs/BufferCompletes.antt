-- A complete-split and a clear over two buffers, by what each has and whose it is (USB 2.0, 11.17.1 and 11.24.2.3).
use Rattle.std.proofs.Common.{◌≡◌, inl, inr, Bool, true, false, if◌then◌else◌, refl, sym, subst, ap, ◌∙◌}
use Rattle.hub_keys.specs.declared.key.Key.{Key}
use Rattle.hub_keys.specs.Keys.{key_of, is_same_key}
use Rattle.tt_bulk.specs.declared.rows.BufferIndex.{BufferIndex}
use Rattle.tt_bulk.specs.declared.rows.BufferIndex.TheVariants.{First, Second}
use Rattle.tt_bulk.specs.declared.rows.Stand.{Stand}
use Rattle.tt_bulk.specs.declared.rows.Stand.TheVariants as Stands
use Rattle.tt_bulk.specs.declared.rows.CompleteRow.{CompleteRow}
use Rattle.tt_bulk.specs.declared.rows.CompleteRow.TheVariants.{Waits, Gives, Unknown}
use Rattle.tt_bulk.specs.Answers.{reply_of}
use Rattle.tt_bulk.specs.Contents.{Taken, BufferContent, Free, Pending, Ready, Old, TwoBuffers}
use Rattle.tt_bulk.specs.Rows.{stand_of, complete_row, complete_row_of, complete_reply, once_given, after_complete, complete_answer, completed, is_cleared_by, cleared_buffer, cleared}
use Rattle.law_translated.specs.Lift.{Buffered, Empty, Asked, There, Told, told}
use Rattle.law_translated.specs.KeySlots.{KeySlot, is_own, slot_by, slot_in, either_slot, slot_of, IsOnce}
use Rattle.law_translated.specs.KeySteps.{given_reply}
use Rattle.law_translated.proofs.Keys.{same_key}
use Rattle.law_translated.proofs.BufferStarts.{stand_by, stand_is, Once, Whose, IsK, IsAsk, IsNone, of_k, of_ask, HasWhose, whose_of}

-- ---- a complete-split of the key

abbrev CompleteBy : BufferContent → Bool → BufferContent → Bool → TwoBuffers → Type 0
CompleteBy x bx y by w =
    (complete_reply (complete_row (stand_by bx x) (stand_by by y)) w ≡ given_reply Buffered (either_slot (slot_by bx x) (slot_by by y)))
    × (either_slot (slot_by bx (after_complete (complete_row (stand_by bx x) (stand_by by y)) w).first)
    (slot_by by (after_complete (complete_row (stand_by bx x) (stand_by by y)) w).second)
    ≡ told (either_slot (slot_by bx x) (slot_by by y)))
    × Once (slot_by bx (after_complete (complete_row (stand_by bx x) (stand_by by y)) w).first)
    (slot_by by (after_complete (complete_row (stand_by bx x) (stand_by by y)) w).second)

complete_by : (x : BufferContent) (bx : Bool) (y : BufferContent) (by : Bool) (latest : BufferIndex) → Once (slot_by bx x) (slot_by by y)
    → CompleteBy x bx y by (record { first = x; second = y; latest = latest })
complete_by Free bx Free by latest once = (refl, refl, inl refl)
complete_by Free bx (Pending t2 n2) true latest once = (refl, refl, inl refl)
complete_by Free bx (Pending t2 n2) false latest once = (refl, refl, inl refl)
complete_by Free bx (Ready t2 a2) true latest once = (refl, refl, inl refl)
complete_by Free bx (Ready t2 a2) false latest once = (refl, refl, inl refl)
complete_by Free bx (Old t2 a2) true latest once = (refl, refl, inl refl)
complete_by Free bx (Old t2 a2) false latest once = (refl, refl, inl refl)
complete_by (Pending t1 n1) true Free by latest once = (refl, refl, inr refl)
complete_by (Pending t1 n1) true (Pending t2 n2) true latest once = elim once [ inl e ↦ absurd (cc) | inr e ↦ absurd (cc) ]
complete_by (Pending t1 n1) true (Pending t2 n2) false latest once = (refl, refl, inr refl)
complete_by (Pending t1 n1) true (Ready t2 a2) true latest once = elim once [ inl e ↦ absurd (cc) | inr e ↦ absurd (cc) ]
complete_by (Pending t1 n1) true (Ready t2 a2) false latest once = (refl, refl, inr refl)
complete_by (Pending t1 n1) true (Old t2 a2) true latest once = elim once [ inl e ↦ absurd (cc) | inr e ↦ absurd (cc) ]
complete_by (Pending t1 n1) true (Old t2 a2) false latest once = (refl, refl, inr refl)
complete_by (Pending t1 n1) false Free by latest once = (refl, refl, inl refl)
complete_by (Pending t1 n1) false (Pending t2 n2) true latest once = (refl, refl, inl refl)
complete_by (Pending t1 n1) false (Pending t2 n2) false latest once = (refl, refl, inl refl)
complete_by (Pending t1 n1) false (Ready t2 a2) true latest once = (refl, refl, inl refl)
complete_by (Pending t1 n1) false (Ready t2 a2) false latest once = (refl, refl, inl refl)
complete_by (Pending t1 n1) false (Old t2 a2) true latest once = (refl, refl, inl refl)
complete_by (Pending t1 n1) false (Old t2 a2) false latest once = (refl, refl, inl refl)
complete_by (Ready t1 a1) true Free by latest once = (refl, refl, inr refl)
complete_by (Ready t1 a1) true (Pending t2 n2) true latest once = elim once [ inl e ↦ absurd (cc) | inr e ↦ absurd (cc) ]
complete_by (Ready t1 a1) true (Pending t2 n2) false latest once = (refl, refl, inr refl)
complete_by (Ready t1 a1) true (Ready t2 a2) true latest once = elim once [ inl e ↦ absurd (cc) | inr e ↦ absurd (cc) ]
complete_by (Ready t1 a1) true (Ready t2 a2) false latest once = (refl, refl, inr refl)
complete_by (Ready t1 a1) true (Old t2 a2) true latest once = elim once [ inl e ↦ absurd (cc) | inr e ↦ absurd (cc) ]
complete_by (Ready t1 a1) true (Old t2 a2) false latest once = (refl, refl, inr refl)
complete_by (Ready t1 a1) false Free by latest once = (refl, refl, inl refl)
complete_by (Ready t1 a1) false (Pending t2 n2) true latest once = (refl, refl, inl refl)
complete_by (Ready t1 a1) false (Pending t2 n2) false latest once = (refl, refl, inl refl)
complete_by (Ready t1 a1) false (Ready t2 a2) true latest once = (refl, refl, inl refl)
complete_by (Ready t1 a1) false (Ready t2 a2) false latest once = (refl, refl, inl refl)
complete_by (Ready t1 a1) false (Old t2 a2) true latest once = (refl, refl, inl refl)
complete_by (Ready t1 a1) false (Old t2 a2) false latest once = (refl, refl, inl refl)
complete_by (Old t1 a1) true Free by latest once = (refl, refl, inr refl)
complete_by (Old t1 a1) true (Pending t2 n2) true latest once = elim once [ inl e ↦ absurd (cc) | inr e ↦ absurd (cc) ]
complete_by (Old t1 a1) true (Pending t2 n2) false latest once = (refl, refl, inr refl)
complete_by (Old t1 a1) true (Ready t2 a2) true latest once = elim once [ inl e ↦ absurd (cc) | inr e ↦ absurd (cc) ]
complete_by (Old t1 a1) true (Ready t2 a2) false latest once = (refl, refl, inr refl)
complete_by (Old t1 a1) true (Old t2 a2) true latest once = elim once [ inl e ↦ absurd (cc) | inr e ↦ absurd (cc) ]
complete_by (Old t1 a1) true (Old t2 a2) false latest once = (refl, refl, inr refl)
complete_by (Old t1 a1) false Free by latest once = (refl, refl, inl refl)
complete_by (Old t1 a1) false (Pending t2 n2) true latest once = (refl, refl, inl refl)
complete_by (Old t1 a1) false (Pending t2 n2) false latest once = (refl, refl, inl refl)
complete_by (Old t1 a1) false (Ready t2 a2) true latest once = (refl, refl, inl refl)
complete_by (Old t1 a1) false (Ready t2 a2) false latest once = (refl, refl, inl refl)
complete_by (Old t1 a1) false (Old t2 a2) true latest once = (refl, refl, inl refl)
complete_by (Old t1 a1) false (Old t2 a2) false latest once = (refl, refl, inl refl)

given_own : (k : Key) (b : BufferContent) → slot_in k (once_given b) ≡ slot_by (is_own k b) (once_given b)
given_own k Free = refl
given_own k (Pending t n) = refl
given_own k (Ready t a) = refl
given_own k (Old t a) = refl

first_own : (k : Key) (row : CompleteRow) (w : TwoBuffers)
    → slot_in k (after_complete row w).first ≡ slot_by (is_own k w.first) (after_complete row w).first
first_own k Waits w = refl
first_own k (Gives First) w = given_own k w.first
first_own k (Gives Second) w = refl
first_own k Unknown w = refl

second_own : (k : Key) (row : CompleteRow) (w : TwoBuffers)
    → slot_in k (after_complete row w).second ≡ slot_by (is_own k w.second) (after_complete row w).second
second_own k Waits w = refl
second_own k (Gives First) w = refl
second_own k (Gives Second) w = given_own k w.second
second_own k Unknown w = refl

row_is : (k : Key) (w : TwoBuffers)
    → complete_row_of k w ≡ complete_row (stand_by (is_own k w.first) w.first) (stand_by (is_own k w.second) w.second)
row_is k w =
    ap (λ (s : Stand). complete_row s (stand_of k w.second)) (stand_is k w.first)
    ∙ ap (λ (s : Stand). complete_row (stand_by (is_own k w.first) w.first) s) (stand_is k w.second)

-- what a complete-split of the key answers and leaves
pub record IsCompleted (k : Key) (w : TwoBuffers) : Type 0 where
  pub answer : complete_answer k w ≡ given_reply Buffered (slot_of k w)
  pub after : slot_of k (completed k w) ≡ told (slot_of k w)
  pub once : IsOnce k (completed k w)

pub own_complete : (k : Key) (w : TwoBuffers) → IsOnce k w → IsCompleted k w
own_complete k w once =
    let row : CompleteRow = complete_row (stand_by (is_own k w.first) w.first) (stand_by (is_own k w.second) w.second) in
    let is : complete_row_of k w ≡ row = row_is k w in
    let r : CompleteBy w.first (is_own k w.first) w.second (is_own k w.second) w =
    complete_by w.first (is_own k w.first) w.second (is_own k w.second) w.latest once in
    let e1 : slot_in k (completed k w).first ≡ slot_by (is_own k w.first) (after_complete row w).first =
    first_own k (complete_row_of k w) w ∙ ap (λ (x : CompleteRow). slot_by (is_own k w.first) (after_complete x w).first) is in
    let e2 : slot_in k (completed k w).second ≡ slot_by (is_own k w.second) (after_complete row w).second =
    second_own k (complete_row_of k w) w ∙ ap (λ (x : CompleteRow). slot_by (is_own k w.second) (after_complete x w).second) is in
    record {
      answer = ap (λ (x : CompleteRow). complete_reply x w) is ∙ r.0;
      after = ap (λ (z : KeySlot). either_slot z (slot_in k (completed k w).second)) e1
          ∙ (ap (λ (z : KeySlot). either_slot (slot_by (is_own k w.first) (after_complete row w).first) z) e2 ∙ r.1);
      once = subst (λ (z : KeySlot). Once (slot_in k (completed k w).first) z) (sym e2)
          (subst (λ (z : KeySlot). Once z (slot_by (is_own k w.second) (after_complete row w).second)) (sym e1) r.2);
    }

-- ---- a complete-split of another key

-- a buffer gives a result to its own key alone
not_first : (x : BufferContent) (s : Stand) → complete_row (stand_by false x) s ≡ Gives First → ⊥
not_first Free Stands.Pending h = absurd cc
not_first Free Stands.Ready h = absurd cc
not_first Free Stands.Old h = absurd cc
not_first Free Stands.Free h = absurd cc
not_first Free Stands.Spare h = absurd cc
not_first Free Stands.Busy h = absurd cc
not_first (Pending t n) Stands.Pending h = absurd cc
not_first (Pending t n) Stands.Ready h = absurd cc
not_first (Pending t n) Stands.Old h = absurd cc
not_first (Pending t n) Stands.Free h = absurd cc
not_first (Pending t n) Stands.Spare h = absurd cc
not_first (Pending t n) Stands.Busy h = absurd cc
not_first (Ready t a) Stands.Pending h = absurd cc
not_first (Ready t a) Stands.Ready h = absurd cc
not_first (Ready t a) Stands.Old h = absurd cc
not_first (Ready t a) Stands.Free h = absurd cc
not_first (Ready t a) Stands.Spare h = absurd cc
not_first (Ready t a) Stands.Busy h = absurd cc
not_first (Old t a) Stands.Pending h = absurd cc
not_first (Old t a) Stands.Ready h = absurd cc
not_first (Old t a) Stands.Old h = absurd cc
not_first (Old t a) Stands.Free h = absurd cc
not_first (Old t a) Stands.Spare h = absurd cc
not_first (Old t a) Stands.Busy h = absurd cc

not_second : (s : Stand) (y : BufferContent) → complete_row s (stand_by false y) ≡ Gives Second → ⊥
not_second Stands.Pending Free h = absurd cc
not_second Stands.Ready Free h = absurd cc
not_second Stands.Old Free h = absurd cc
not_second Stands.Free Free h = absurd cc
not_second Stands.Spare Free h = absurd cc
not_second Stands.Busy Free h = absurd cc
not_second Stands.Pending (Pending t n) h = absurd cc
not_second Stands.Ready (Pending t n) h = absurd cc
not_second Stands.Old (Pending t n) h = absurd cc
not_second Stands.Free (Pending t n) h = absurd cc
not_second Stands.Spare (Pending t n) h = absurd cc
not_second Stands.Busy (Pending t n) h = absurd cc
not_second Stands.Pending (Ready t a) h = absurd cc
not_second Stands.Ready (Ready t a) h = absurd cc
not_second Stands.Old (Ready t a) h = absurd cc
not_second Stands.Free (Ready t a) h = absurd cc
not_second Stands.Spare (Ready t a) h = absurd cc
not_second Stands.Busy (Ready t a) h = absurd cc
not_second Stands.Pending (Old t a) h = absurd cc
not_second Stands.Ready (Old t a) h = absurd cc
not_second Stands.Old (Old t a) h = absurd cc
not_second Stands.Free (Old t a) h = absurd cc
not_second Stands.Spare (Old t a) h = absurd cc
not_second Stands.Busy (Old t a) h = absurd cc

-- what is given to another key leaves what the key has
given_other : (k : Key) (b : BufferContent) → is_own k b ≡ false → slot_in k (once_given b) ≡ slot_in k b
given_other k Free h = refl
given_other k (Pending t n) h = refl
given_other k (Ready t a) h = ap (λ (o : Bool). if o then Told t (reply_of a) else Empty) h
    ∙ sym (ap (λ (o : Bool). if o then There t (reply_of a) else Empty) h)
given_other k (Old t a) h = refl

-- .. since a buffer is one key's
first_apart : (k a : Key) (w : TwoBuffers) (o : Bool) → is_same_key a k ≡ false → is_own a w.first ≡ o → complete_row_of a w ≡ Gives First
    → is_own k w.first ≡ false
first_apart k a w true apart on is = ends (whose_of k a w.first apart)
  where
    ends : HasWhose k a w.first → is_own k w.first ≡ false
    ends h = by_whose h.whose h.k_is h.ask_is
      where
        by_whose : (z : Whose) → is_own k w.first ≡ of_k z → is_own a w.first ≡ of_ask z → is_own k w.first ≡ false
        by_whose IsK e f = absurd (let z : true ≡ false = sym on ∙ f in cc)
        by_whose IsAsk e f = e
        by_whose IsNone e f = e
first_apart k a w false apart on is =
    absurd (not_first w.first (stand_of a w.second)
    (subst (λ (s : Stand). complete_row s (stand_of a w.second) ≡ Gives First)
    (stand_is a w.first ∙ ap (λ (o : Bool). stand_by o w.first) on) is))

second_apart : (k a : Key) (w : TwoBuffers) (o : Bool) → is_same_key a k ≡ false → is_own a w.second ≡ o
    → complete_row_of a w ≡ Gives Second → is_own k w.second ≡ false
second_apart k a w true apart on is = ends (whose_of k a w.second apart)
  where
    ends : HasWhose k a w.second → is_own k w.second ≡ false
    ends h = by_whose h.whose h.k_is h.ask_is
      where
        by_whose : (z : Whose) → is_own k w.second ≡ of_k z → is_own a w.second ≡ of_ask z → is_own k w.second ≡ false
        by_whose IsK e f = absurd (let z : true ≡ false = sym on ∙ f in cc)
        by_whose IsAsk e f = e
        by_whose IsNone e f = e
second_apart k a w false apart on is =
    absurd (not_second (stand_of a w.first) w.second
    (subst (λ (s : Stand). complete_row (stand_of a w.first) s ≡ Gives Second)
    (stand_is a w.second ∙ ap (λ (o : Bool). stand_by o w.second) on) is))

-- both slots are as they were
pub record AreSame (k : Key) (old new : TwoBuffers) : Type 0 where
  pub first : slot_in k new.first ≡ slot_in k old.first
  pub second : slot_in k new.second ≡ slot_in k old.second

pub other_complete : (k a : Key) (w : TwoBuffers) → is_same_key a k ≡ false → AreSame k w (completed a w)
other_complete k a w apart = by_row (complete_row_of a w) refl
  where
    by_row : (row : CompleteRow) → complete_row_of a w ≡ row → AreSame k w (after_complete row w)
    by_row Waits is = record { first = refl; second = refl }
    by_row (Gives First) is = record { first = given_other k w.first (first_apart k a w (is_own a w.first) apart refl is); second = refl }
    by_row (Gives Second) is =
        record { first = refl; second = given_other k w.second (second_apart k a w (is_own a w.second) apart refl is) }
    by_row Unknown is = record { first = refl; second = refl }

pub same_slot : (k : Key) (old new : TwoBuffers) → AreSame k old new → slot_of k new ≡ slot_of k old
same_slot k old new s =
    ap (λ (z : KeySlot). either_slot z (slot_in k new.second)) s.first ∙ ap (λ (z : KeySlot). either_slot (slot_in k old.first) z) s.second

pub same_once : (k : Key) (old new : TwoBuffers) → AreSame k old new → IsOnce k old → IsOnce k new
same_once k old new s (inl e) = inl (s.first ∙ e)
same_once k old new s (inr e) = inr (s.second ∙ e)

-- ---- a clear

cut_same : (k : Key) (b : BufferContent) (cut : Bool) → slot_in k (if cut then Free else b) ≡ (if cut then Empty else slot_in k b)
cut_same k b true = refl
cut_same k b false = refl

cut_none : (k : Key) (b : BufferContent) (cut other : Bool) → slot_in k b ≡ Empty
    → slot_in k (if cut then Free else b) ≡ (if other then Empty else slot_in k b)
cut_none k b true true e = refl
cut_none k b true false e = sym e
cut_none k b false true e = e
cut_none k b false false e = refl

cut_taken : (c k : Key) (t : Taken) (b : BufferContent) (own : Bool) → is_same_key (key_of t.ask) k ≡ own
    → (own ≡ false → slot_in k b ≡ Empty)
    → slot_in k (if is_cleared_by c (key_of t.ask) then Free else b) ≡ (if is_cleared_by c k then Empty else slot_in k b)
cut_taken c k t b true on none =
    ap (λ (z : Key). slot_in k (if is_cleared_by c z then Free else b)) (same_key (key_of t.ask) k on) ∙ cut_same k b (is_cleared_by c k)
cut_taken c k t b false on none = cut_none k b (is_cleared_by c (key_of t.ask)) (is_cleared_by c k) (none refl)

none_or_empty : (cut : Bool) (s : KeySlot) → s ≡ Empty → s ≡ (if cut then Empty else s)
none_or_empty true s e = e
none_or_empty false s e = refl

cleared_slot : (c k : Key) (b : BufferContent) → slot_in k (cleared_buffer c b) ≡ (if is_cleared_by c k then Empty else slot_in k b)
cleared_slot c k Free = none_or_empty (is_cleared_by c k) (slot_in k Free) refl
cleared_slot c k (Pending t n) =
    cut_taken c k t (Pending t n) (is_same_key (key_of t.ask) k) refl (λ off. ap (λ (own : Bool). if own then Asked t else Empty) off)
cleared_slot c k (Ready t a) =
    cut_taken c k t (Ready t a) (is_same_key (key_of t.ask) k) refl
    (λ off. ap (λ (own : Bool). if own then There t (reply_of a) else Empty) off)
cleared_slot c k (Old t a) =
    cut_taken c k t (Old t a) (is_same_key (key_of t.ask) k) refl
    (λ off. ap (λ (own : Bool). if own then Told t (reply_of a) else Empty) off)

either_cut : (cut : Bool) (x y : KeySlot)
    → either_slot (if cut then Empty else x) (if cut then Empty else y) ≡ (if cut then Empty else either_slot x y)
either_cut true x y = refl
either_cut false x y = refl

pub clear_slot : (c k : Key) (w : TwoBuffers) → slot_of k (cleared c w) ≡ (if is_cleared_by c k then Empty else slot_of k w)
clear_slot c k w =
    ap (λ (z : KeySlot). either_slot z (slot_in k (cleared c w).second)) (cleared_slot c k w.first)
    ∙ (ap (λ (z : KeySlot). either_slot (if is_cleared_by c k then Empty else slot_in k w.first) z) (cleared_slot c k w.second)
    ∙ either_cut (is_cleared_by c k) (slot_in k w.first) (slot_in k w.second))

empty_if : (cut : Bool) (x : KeySlot) → x ≡ Empty → (if cut then Empty else x) ≡ Empty
empty_if true x e = refl
empty_if false x e = e

pub clear_first : (c k : Key) (w : TwoBuffers) → slot_in k w.first ≡ Empty → slot_in k (cleared c w).first ≡ Empty
clear_first c k w e = cleared_slot c k w.first ∙ empty_if (is_cleared_by c k) (slot_in k w.first) e

pub clear_second : (c k : Key) (w : TwoBuffers) → slot_in k w.second ≡ Empty → slot_in k (cleared c w).second ≡ Empty
clear_second c k w e = cleared_slot c k w.second ∙ empty_if (is_cleared_by c k) (slot_in k w.second) e

pub clear_once : (c k : Key) (w : TwoBuffers) → IsOnce k w → IsOnce k (cleared c w)
clear_once c k w (inl e) = inl (clear_first c k w e)
clear_once c k w (inr e) = inr (clear_second c k w e)
