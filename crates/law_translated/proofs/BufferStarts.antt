-- A start-split over two buffers, by what each has and whose it is (USB 2.0, 11.17.1).
use Rattle.std.proofs.Common.{◌≡◌, ℕ, ◌⊎◌, inl, inr, Bool, true, false, List, if◌then◌else◌, refl, sym, subst, ap, ◌∙◌}
use Rattle.usb_base.specs.declared.packets.Ask.{Ask}
use Rattle.usb_base.specs.declared.packets.Reply.{Reply}
use Rattle.hub_keys.specs.declared.key.Key.{Key}
use Rattle.hub_keys.specs.Keys.{key_of, is_same_key}
use Rattle.tt_bulk.specs.declared.rows.BufferIndex.TheVariants.{First, Second}
use Rattle.tt_bulk.specs.declared.rows.Stand.{Stand}
use Rattle.tt_bulk.specs.declared.rows.Stand.TheVariants as Stands
use Rattle.tt_bulk.specs.declared.rows.StartRow.{StartRow}
use Rattle.tt_bulk.specs.declared.rows.StartRow.TheVariants.{Repeated, Takes, Full}
use Rattle.tt_bulk.specs.Answers.{reply_of}
use Rattle.tt_bulk.specs.Contents.{Taken, BufferContent, Free, Pending, Ready, Old, TwoBuffers}
use Rattle.tt_bulk.specs.Rows.{stand_of, start_row, start_row_of, start_reply, after_start, start_answer, started}
use Rattle.law_translated.specs.Lift.{Buffered, Empty, Asked}
use Rattle.law_translated.specs.KeySlots.{KeySlot, is_own, slot_by, slot_in, either_slot, slot_of, IsOnce}
use Rattle.law_translated.specs.KeySteps.{OwnStart, OtherStart}
use Rattle.law_translated.specs.KeySteps.OwnStart.{starts, repeats, is_full}
use Rattle.law_translated.specs.KeySteps.OtherStart.{stays, forgets}
use Rattle.law_translated.proofs.Keys.{same_as_itself, not_both}

-- ---- a buffer, by whether it is the key's

abbrev pub stand_by : Bool → BufferContent → Stand
stand_by own Free = Stands.Free
stand_by own (Pending t n) = if own then Stands.Pending else Stands.Busy
stand_by own (Ready t a) = if own then Stands.Ready else Stands.Busy
stand_by own (Old t a) = if own then Stands.Old else Stands.Spare

pub stand_is : (k : Key) (b : BufferContent) → stand_of k b ≡ stand_by (is_own k b) b
stand_is k Free = refl
stand_is k (Pending t n) = refl
stand_is k (Ready t a) = refl
stand_is k (Old t a) = refl

row_is : (k : Key) (w : TwoBuffers)
    → start_row_of k w ≡ start_row (stand_by (is_own k w.first) w.first) (stand_by (is_own k w.second) w.second)
row_is k w =
    ap (λ (s : Stand). start_row s (stand_of k w.second)) (stand_is k w.first)
    ∙ ap (λ (s : Stand). start_row (stand_by (is_own k w.first) w.first) s) (stand_is k w.second)

-- the slots of the key that starts, and of another one, after the row
abbrev own_first : StartRow → Taken → KeySlot → KeySlot
own_first Repeated t s = s
own_first (Takes First) t s = Asked t
own_first (Takes Second) t s = s
own_first Full t s = s

abbrev own_second : StartRow → Taken → KeySlot → KeySlot
own_second Repeated t s = s
own_second (Takes First) t s = s
own_second (Takes Second) t s = Asked t
own_second Full t s = s

abbrev other_first : StartRow → KeySlot → KeySlot
other_first Repeated s = s
other_first (Takes First) s = Empty
other_first (Takes Second) s = s
other_first Full s = s

abbrev other_second : StartRow → KeySlot → KeySlot
other_second Repeated s = s
other_second (Takes First) s = s
other_second (Takes Second) s = Empty
other_second Full s = s

abbrev pub Once : KeySlot → KeySlot → Type 0
Once x y = (x ≡ Empty) ⊎ (y ≡ Empty)

abbrev StartBy : BufferContent → Bool → BufferContent → Bool → Taken → Type 0
StartBy x bx y by t =
    OwnStart Buffered t (either_slot (slot_by bx x) (slot_by by y)) (start_reply (start_row (stand_by bx x) (stand_by by y)))
    (either_slot (own_first (start_row (stand_by bx x) (stand_by by y)) t (slot_by bx x))
    (own_second (start_row (stand_by bx x) (stand_by by y)) t (slot_by by y)))
    × Once (own_first (start_row (stand_by bx x) (stand_by by y)) t (slot_by bx x))
    (own_second (start_row (stand_by bx x) (stand_by by y)) t (slot_by by y))

start_by : (x : BufferContent) (bx : Bool) (y : BufferContent) (by : Bool) (t : Taken) → Once (slot_by bx x) (slot_by by y)
    → StartBy x bx y by t
start_by Free bx Free by t once = (starts tt, inr refl)
start_by Free bx (Pending t2 n2) true t once = (repeats refl (λ q. q), inl refl)
start_by Free bx (Pending t2 n2) false t once = (starts tt, inr refl)
start_by Free bx (Ready t2 a2) true t once = (repeats refl (λ q. q), inl refl)
start_by Free bx (Ready t2 a2) false t once = (starts tt, inr refl)
start_by Free bx (Old t2 a2) true t once = (starts tt, inl refl)
start_by Free bx (Old t2 a2) false t once = (starts tt, inr refl)
start_by (Pending t1 n1) true Free by t once = (repeats refl (λ q. q), inr refl)
start_by (Pending t1 n1) true (Pending t2 n2) true t once = elim once [ inl e ↦ absurd (cc) | inr e ↦ absurd (cc) ]
start_by (Pending t1 n1) true (Pending t2 n2) false t once = (repeats refl (λ q. q), inr refl)
start_by (Pending t1 n1) true (Ready t2 a2) true t once = elim once [ inl e ↦ absurd (cc) | inr e ↦ absurd (cc) ]
start_by (Pending t1 n1) true (Ready t2 a2) false t once = (repeats refl (λ q. q), inr refl)
start_by (Pending t1 n1) true (Old t2 a2) true t once = elim once [ inl e ↦ absurd (cc) | inr e ↦ absurd (cc) ]
start_by (Pending t1 n1) true (Old t2 a2) false t once = (repeats refl (λ q. q), inr refl)
start_by (Pending t1 n1) false Free by t once = (starts tt, inl refl)
start_by (Pending t1 n1) false (Pending t2 n2) true t once = (repeats refl (λ q. q), inl refl)
start_by (Pending t1 n1) false (Pending t2 n2) false t once = (is_full refl refl, inl refl)
start_by (Pending t1 n1) false (Ready t2 a2) true t once = (repeats refl (λ q. q), inl refl)
start_by (Pending t1 n1) false (Ready t2 a2) false t once = (is_full refl refl, inl refl)
start_by (Pending t1 n1) false (Old t2 a2) true t once = (starts tt, inl refl)
start_by (Pending t1 n1) false (Old t2 a2) false t once = (starts tt, inl refl)
start_by (Ready t1 a1) true Free by t once = (repeats refl (λ q. q), inr refl)
start_by (Ready t1 a1) true (Pending t2 n2) true t once = elim once [ inl e ↦ absurd (cc) | inr e ↦ absurd (cc) ]
start_by (Ready t1 a1) true (Pending t2 n2) false t once = (repeats refl (λ q. q), inr refl)
start_by (Ready t1 a1) true (Ready t2 a2) true t once = elim once [ inl e ↦ absurd (cc) | inr e ↦ absurd (cc) ]
start_by (Ready t1 a1) true (Ready t2 a2) false t once = (repeats refl (λ q. q), inr refl)
start_by (Ready t1 a1) true (Old t2 a2) true t once = elim once [ inl e ↦ absurd (cc) | inr e ↦ absurd (cc) ]
start_by (Ready t1 a1) true (Old t2 a2) false t once = (repeats refl (λ q. q), inr refl)
start_by (Ready t1 a1) false Free by t once = (starts tt, inl refl)
start_by (Ready t1 a1) false (Pending t2 n2) true t once = (repeats refl (λ q. q), inl refl)
start_by (Ready t1 a1) false (Pending t2 n2) false t once = (is_full refl refl, inl refl)
start_by (Ready t1 a1) false (Ready t2 a2) true t once = (repeats refl (λ q. q), inl refl)
start_by (Ready t1 a1) false (Ready t2 a2) false t once = (is_full refl refl, inl refl)
start_by (Ready t1 a1) false (Old t2 a2) true t once = (starts tt, inl refl)
start_by (Ready t1 a1) false (Old t2 a2) false t once = (starts tt, inl refl)
start_by (Old t1 a1) true Free by t once = (starts tt, inr refl)
start_by (Old t1 a1) true (Pending t2 n2) true t once = elim once [ inl e ↦ absurd (cc) | inr e ↦ absurd (cc) ]
start_by (Old t1 a1) true (Pending t2 n2) false t once = (starts tt, inr refl)
start_by (Old t1 a1) true (Ready t2 a2) true t once = elim once [ inl e ↦ absurd (cc) | inr e ↦ absurd (cc) ]
start_by (Old t1 a1) true (Ready t2 a2) false t once = (starts tt, inr refl)
start_by (Old t1 a1) true (Old t2 a2) true t once = elim once [ inl e ↦ absurd (cc) | inr e ↦ absurd (cc) ]
start_by (Old t1 a1) true (Old t2 a2) false t once = (starts tt, inr refl)
start_by (Old t1 a1) false Free by t once = (starts tt, inl refl)
start_by (Old t1 a1) false (Pending t2 n2) true t once = (repeats refl (λ q. q), inl refl)
start_by (Old t1 a1) false (Pending t2 n2) false t once = (starts tt, inr refl)
start_by (Old t1 a1) false (Ready t2 a2) true t once = (repeats refl (λ q. q), inl refl)
start_by (Old t1 a1) false (Ready t2 a2) false t once = (starts tt, inr refl)
start_by (Old t1 a1) false (Old t2 a2) true t once = (starts tt, inl refl)
start_by (Old t1 a1) false (Old t2 a2) false t once = (starts tt, inr refl)

-- a buffer is of the key k, of the start's, or of neither
pub data Whose : Type 0 where
  IsK : Whose
  IsAsk : Whose
  IsNone : Whose

abbrev pub of_k : Whose → Bool
of_k IsK = true
of_k IsAsk = false
of_k IsNone = false

abbrev pub of_ask : Whose → Bool
of_ask IsK = false
of_ask IsAsk = true
of_ask IsNone = false

abbrev OtherBy : BufferContent → Whose → BufferContent → Whose → Type 0
OtherBy x wx y wy =
    OtherStart Buffered (either_slot (slot_by (of_k wx) x) (slot_by (of_k wy) y))
    (either_slot (other_first (start_row (stand_by (of_ask wx) x) (stand_by (of_ask wy) y)) (slot_by (of_k wx) x))
    (other_second (start_row (stand_by (of_ask wx) x) (stand_by (of_ask wy) y)) (slot_by (of_k wy) y)))
    × Once (other_first (start_row (stand_by (of_ask wx) x) (stand_by (of_ask wy) y)) (slot_by (of_k wx) x))
    (other_second (start_row (stand_by (of_ask wx) x) (stand_by (of_ask wy) y)) (slot_by (of_k wy) y))

other_by : (x : BufferContent) (wx : Whose) (y : BufferContent) (wy : Whose) → Once (slot_by (of_k wx) x) (slot_by (of_k wy) y)
    → OtherBy x wx y wy
other_by Free wx Free wy once = (stays, inl refl)
other_by Free wx (Pending t2 n2) IsK once = (stays, inl refl)
other_by Free wx (Pending t2 n2) IsAsk once = (stays, inl refl)
other_by Free wx (Pending t2 n2) IsNone once = (stays, inl refl)
other_by Free wx (Ready t2 a2) IsK once = (stays, inl refl)
other_by Free wx (Ready t2 a2) IsAsk once = (stays, inl refl)
other_by Free wx (Ready t2 a2) IsNone once = (stays, inl refl)
other_by Free wx (Old t2 a2) IsK once = (stays, inl refl)
other_by Free wx (Old t2 a2) IsAsk once = (stays, inl refl)
other_by Free wx (Old t2 a2) IsNone once = (stays, inl refl)
other_by (Pending t1 n1) IsK Free wy once = (stays, inr refl)
other_by (Pending t1 n1) IsK (Pending t2 n2) IsK once = elim once [ inl e ↦ absurd (cc) | inr e ↦ absurd (cc) ]
other_by (Pending t1 n1) IsK (Pending t2 n2) IsAsk once = (stays, inr refl)
other_by (Pending t1 n1) IsK (Pending t2 n2) IsNone once = (stays, inr refl)
other_by (Pending t1 n1) IsK (Ready t2 a2) IsK once = elim once [ inl e ↦ absurd (cc) | inr e ↦ absurd (cc) ]
other_by (Pending t1 n1) IsK (Ready t2 a2) IsAsk once = (stays, inr refl)
other_by (Pending t1 n1) IsK (Ready t2 a2) IsNone once = (stays, inr refl)
other_by (Pending t1 n1) IsK (Old t2 a2) IsK once = elim once [ inl e ↦ absurd (cc) | inr e ↦ absurd (cc) ]
other_by (Pending t1 n1) IsK (Old t2 a2) IsAsk once = (stays, inr refl)
other_by (Pending t1 n1) IsK (Old t2 a2) IsNone once = (stays, inr refl)
other_by (Pending t1 n1) IsAsk Free wy once = (stays, inl refl)
other_by (Pending t1 n1) IsAsk (Pending t2 n2) IsK once = (stays, inl refl)
other_by (Pending t1 n1) IsAsk (Pending t2 n2) IsAsk once = (stays, inl refl)
other_by (Pending t1 n1) IsAsk (Pending t2 n2) IsNone once = (stays, inl refl)
other_by (Pending t1 n1) IsAsk (Ready t2 a2) IsK once = (stays, inl refl)
other_by (Pending t1 n1) IsAsk (Ready t2 a2) IsAsk once = (stays, inl refl)
other_by (Pending t1 n1) IsAsk (Ready t2 a2) IsNone once = (stays, inl refl)
other_by (Pending t1 n1) IsAsk (Old t2 a2) IsK once = (stays, inl refl)
other_by (Pending t1 n1) IsAsk (Old t2 a2) IsAsk once = (stays, inl refl)
other_by (Pending t1 n1) IsAsk (Old t2 a2) IsNone once = (stays, inl refl)
other_by (Pending t1 n1) IsNone Free wy once = (stays, inl refl)
other_by (Pending t1 n1) IsNone (Pending t2 n2) IsK once = (stays, inl refl)
other_by (Pending t1 n1) IsNone (Pending t2 n2) IsAsk once = (stays, inl refl)
other_by (Pending t1 n1) IsNone (Pending t2 n2) IsNone once = (stays, inl refl)
other_by (Pending t1 n1) IsNone (Ready t2 a2) IsK once = (stays, inl refl)
other_by (Pending t1 n1) IsNone (Ready t2 a2) IsAsk once = (stays, inl refl)
other_by (Pending t1 n1) IsNone (Ready t2 a2) IsNone once = (stays, inl refl)
other_by (Pending t1 n1) IsNone (Old t2 a2) IsK once = (forgets t2 (reply_of a2) refl refl, inl refl)
other_by (Pending t1 n1) IsNone (Old t2 a2) IsAsk once = (stays, inl refl)
other_by (Pending t1 n1) IsNone (Old t2 a2) IsNone once = (stays, inl refl)
other_by (Ready t1 a1) IsK Free wy once = (stays, inr refl)
other_by (Ready t1 a1) IsK (Pending t2 n2) IsK once = elim once [ inl e ↦ absurd (cc) | inr e ↦ absurd (cc) ]
other_by (Ready t1 a1) IsK (Pending t2 n2) IsAsk once = (stays, inr refl)
other_by (Ready t1 a1) IsK (Pending t2 n2) IsNone once = (stays, inr refl)
other_by (Ready t1 a1) IsK (Ready t2 a2) IsK once = elim once [ inl e ↦ absurd (cc) | inr e ↦ absurd (cc) ]
other_by (Ready t1 a1) IsK (Ready t2 a2) IsAsk once = (stays, inr refl)
other_by (Ready t1 a1) IsK (Ready t2 a2) IsNone once = (stays, inr refl)
other_by (Ready t1 a1) IsK (Old t2 a2) IsK once = elim once [ inl e ↦ absurd (cc) | inr e ↦ absurd (cc) ]
other_by (Ready t1 a1) IsK (Old t2 a2) IsAsk once = (stays, inr refl)
other_by (Ready t1 a1) IsK (Old t2 a2) IsNone once = (stays, inr refl)
other_by (Ready t1 a1) IsAsk Free wy once = (stays, inl refl)
other_by (Ready t1 a1) IsAsk (Pending t2 n2) IsK once = (stays, inl refl)
other_by (Ready t1 a1) IsAsk (Pending t2 n2) IsAsk once = (stays, inl refl)
other_by (Ready t1 a1) IsAsk (Pending t2 n2) IsNone once = (stays, inl refl)
other_by (Ready t1 a1) IsAsk (Ready t2 a2) IsK once = (stays, inl refl)
other_by (Ready t1 a1) IsAsk (Ready t2 a2) IsAsk once = (stays, inl refl)
other_by (Ready t1 a1) IsAsk (Ready t2 a2) IsNone once = (stays, inl refl)
other_by (Ready t1 a1) IsAsk (Old t2 a2) IsK once = (stays, inl refl)
other_by (Ready t1 a1) IsAsk (Old t2 a2) IsAsk once = (stays, inl refl)
other_by (Ready t1 a1) IsAsk (Old t2 a2) IsNone once = (stays, inl refl)
other_by (Ready t1 a1) IsNone Free wy once = (stays, inl refl)
other_by (Ready t1 a1) IsNone (Pending t2 n2) IsK once = (stays, inl refl)
other_by (Ready t1 a1) IsNone (Pending t2 n2) IsAsk once = (stays, inl refl)
other_by (Ready t1 a1) IsNone (Pending t2 n2) IsNone once = (stays, inl refl)
other_by (Ready t1 a1) IsNone (Ready t2 a2) IsK once = (stays, inl refl)
other_by (Ready t1 a1) IsNone (Ready t2 a2) IsAsk once = (stays, inl refl)
other_by (Ready t1 a1) IsNone (Ready t2 a2) IsNone once = (stays, inl refl)
other_by (Ready t1 a1) IsNone (Old t2 a2) IsK once = (forgets t2 (reply_of a2) refl refl, inl refl)
other_by (Ready t1 a1) IsNone (Old t2 a2) IsAsk once = (stays, inl refl)
other_by (Ready t1 a1) IsNone (Old t2 a2) IsNone once = (stays, inl refl)
other_by (Old t1 a1) IsK Free wy once = (stays, inr refl)
other_by (Old t1 a1) IsK (Pending t2 n2) IsK once = elim once [ inl e ↦ absurd (cc) | inr e ↦ absurd (cc) ]
other_by (Old t1 a1) IsK (Pending t2 n2) IsAsk once = (stays, inr refl)
other_by (Old t1 a1) IsK (Pending t2 n2) IsNone once = (forgets t1 (reply_of a1) refl refl, inl refl)
other_by (Old t1 a1) IsK (Ready t2 a2) IsK once = elim once [ inl e ↦ absurd (cc) | inr e ↦ absurd (cc) ]
other_by (Old t1 a1) IsK (Ready t2 a2) IsAsk once = (stays, inr refl)
other_by (Old t1 a1) IsK (Ready t2 a2) IsNone once = (forgets t1 (reply_of a1) refl refl, inl refl)
other_by (Old t1 a1) IsK (Old t2 a2) IsK once = elim once [ inl e ↦ absurd (cc) | inr e ↦ absurd (cc) ]
other_by (Old t1 a1) IsK (Old t2 a2) IsAsk once = (stays, inr refl)
other_by (Old t1 a1) IsK (Old t2 a2) IsNone once = (forgets t1 (reply_of a1) refl refl, inl refl)
other_by (Old t1 a1) IsAsk Free wy once = (stays, inl refl)
other_by (Old t1 a1) IsAsk (Pending t2 n2) IsK once = (stays, inl refl)
other_by (Old t1 a1) IsAsk (Pending t2 n2) IsAsk once = (stays, inl refl)
other_by (Old t1 a1) IsAsk (Pending t2 n2) IsNone once = (stays, inl refl)
other_by (Old t1 a1) IsAsk (Ready t2 a2) IsK once = (stays, inl refl)
other_by (Old t1 a1) IsAsk (Ready t2 a2) IsAsk once = (stays, inl refl)
other_by (Old t1 a1) IsAsk (Ready t2 a2) IsNone once = (stays, inl refl)
other_by (Old t1 a1) IsAsk (Old t2 a2) IsK once = (stays, inl refl)
other_by (Old t1 a1) IsAsk (Old t2 a2) IsAsk once = (stays, inl refl)
other_by (Old t1 a1) IsAsk (Old t2 a2) IsNone once = (stays, inl refl)
other_by (Old t1 a1) IsNone Free wy once = (stays, inl refl)
other_by (Old t1 a1) IsNone (Pending t2 n2) IsK once = (stays, inl refl)
other_by (Old t1 a1) IsNone (Pending t2 n2) IsAsk once = (stays, inl refl)
other_by (Old t1 a1) IsNone (Pending t2 n2) IsNone once = (stays, inl refl)
other_by (Old t1 a1) IsNone (Ready t2 a2) IsK once = (stays, inl refl)
other_by (Old t1 a1) IsNone (Ready t2 a2) IsAsk once = (stays, inl refl)
other_by (Old t1 a1) IsNone (Ready t2 a2) IsNone once = (stays, inl refl)
other_by (Old t1 a1) IsNone (Old t2 a2) IsK once = (stays, inl refl)
other_by (Old t1 a1) IsNone (Old t2 a2) IsAsk once = (stays, inl refl)
other_by (Old t1 a1) IsNone (Old t2 a2) IsNone once = (stays, inl refl)

-- ---- a start of the key

first_is : (row : StartRow) (t : Taken) (w : TwoBuffers)
    → slot_in (key_of t.ask) (after_start row t w).first ≡ own_first row t (slot_in (key_of t.ask) w.first)
first_is Repeated t w = refl
first_is (Takes First) t w = ap (λ (b : Bool). if b then Asked t else Empty) (same_as_itself (key_of t.ask))
first_is (Takes Second) t w = refl
first_is Full t w = refl

second_is : (row : StartRow) (t : Taken) (w : TwoBuffers)
    → slot_in (key_of t.ask) (after_start row t w).second ≡ own_second row t (slot_in (key_of t.ask) w.second)
second_is Repeated t w = refl
second_is (Takes First) t w = refl
second_is (Takes Second) t w = ap (λ (b : Bool). if b then Asked t else Empty) (same_as_itself (key_of t.ask))
second_is Full t w = refl

pub own_start : (ask : Ask) (bytes : List ℕ) (stuff : ℕ) (w : TwoBuffers) → IsOnce (key_of ask) w
    → OwnStart Buffered (record { ask = ask; packet = bytes; stuff = stuff }) (slot_of (key_of ask) w) (start_answer ask w)
    (slot_of (key_of ask) (started ask bytes stuff w))
    × IsOnce (key_of ask) (started ask bytes stuff w)
own_start ask bytes stuff w once =
    let t : Taken = record { ask = ask; packet = bytes; stuff = stuff } in
    let k : Key = key_of ask in
    let row : StartRow = start_row (stand_by (is_own k w.first) w.first) (stand_by (is_own k w.second) w.second) in
    let is : start_row_of k w ≡ row = row_is k w in
    let r : StartBy w.first (is_own k w.first) w.second (is_own k w.second) t =
    start_by w.first (is_own k w.first) w.second (is_own k w.second) t once in
    let e1 : slot_in k (started ask bytes stuff w).first ≡ own_first row t (slot_in k w.first) =
    first_is (start_row_of k w) t w ∙ ap (λ (x : StartRow). own_first x t (slot_in k w.first)) is in
    let e2 : slot_in k (started ask bytes stuff w).second ≡ own_second row t (slot_in k w.second) =
    second_is (start_row_of k w) t w ∙ ap (λ (x : StartRow). own_second x t (slot_in k w.second)) is in (
      subst (λ (z : Reply). OwnStart Buffered t (slot_of k w) z (slot_of k (started ask bytes stuff w))) (ap start_reply (sym is))
          (subst (λ (z : KeySlot). OwnStart Buffered t (slot_of k w) (start_reply row)
          (either_slot (slot_in k (started ask bytes stuff w).first) z)) (sym e2)
          (subst (λ (z : KeySlot). OwnStart Buffered t (slot_of k w) (start_reply row)
          (either_slot z (own_second row t (slot_in k w.second)))) (sym e1) r.0)),
      subst (λ (z : KeySlot). Once (slot_in k (started ask bytes stuff w).first) z) (sym e2)
          (subst (λ (z : KeySlot). Once z (own_second row t (slot_in k w.second))) (sym e1) r.1),
    )

-- ---- a start of another key

pub record HasWhose (k a : Key) (b : BufferContent) : Type 0 where
  pub whose : Whose
  pub k_is : is_own k b ≡ of_k whose
  pub ask_is : is_own a b ≡ of_ask whose

whose_key : (k a c : Key) (x y : Bool) → is_same_key a k ≡ false → is_same_key c k ≡ x → is_same_key c a ≡ y
    → (w : Whose) × (is_same_key c k ≡ of_k w) × (is_same_key c a ≡ of_ask w)
whose_key k a c true true apart on at = not_both k a c apart on at
whose_key k a c true false apart on at = (IsK, on, at)
whose_key k a c false true apart on at = (IsAsk, on, at)
whose_key k a c false false apart on at = (IsNone, on, at)

whose_taken : (k a : Key) (t : Taken) → is_same_key a k ≡ false
    → (w : Whose) × (is_same_key (key_of t.ask) k ≡ of_k w) × (is_same_key (key_of t.ask) a ≡ of_ask w)
whose_taken k a t apart = whose_key k a (key_of t.ask) (is_same_key (key_of t.ask) k) (is_same_key (key_of t.ask) a) apart refl refl

pub whose_of : (k a : Key) (b : BufferContent) → is_same_key a k ≡ false → HasWhose k a b
whose_of k a Free apart = record { whose = IsNone; k_is = refl; ask_is = refl }
whose_of k a (Pending t n) apart = let z = whose_taken k a t apart in record { whose = z.0; k_is = z.1; ask_is = z.2 }
whose_of k a (Ready t r) apart = let z = whose_taken k a t apart in record { whose = z.0; k_is = z.1; ask_is = z.2 }
whose_of k a (Old t r) apart = let z = whose_taken k a t apart in record { whose = z.0; k_is = z.1; ask_is = z.2 }

other_first_is : (k : Key) (row : StartRow) (t : Taken) (w : TwoBuffers) → is_same_key (key_of t.ask) k ≡ false
    → slot_in k (after_start row t w).first ≡ other_first row (slot_in k w.first)
other_first_is k Repeated t w apart = refl
other_first_is k (Takes First) t w apart = ap (λ (b : Bool). if b then Asked t else Empty) apart
other_first_is k (Takes Second) t w apart = refl
other_first_is k Full t w apart = refl

other_second_is : (k : Key) (row : StartRow) (t : Taken) (w : TwoBuffers) → is_same_key (key_of t.ask) k ≡ false
    → slot_in k (after_start row t w).second ≡ other_second row (slot_in k w.second)
other_second_is k Repeated t w apart = refl
other_second_is k (Takes First) t w apart = refl
other_second_is k (Takes Second) t w apart = ap (λ (b : Bool). if b then Asked t else Empty) apart
other_second_is k Full t w apart = refl

abbrev OtherRows : BufferContent → BufferContent → Bool → Bool → Bool → Bool → Type 0
OtherRows x y kx ky ax ay =
    OtherStart Buffered (either_slot (slot_by kx x) (slot_by ky y))
    (either_slot (other_first (start_row (stand_by ax x) (stand_by ay y)) (slot_by kx x))
    (other_second (start_row (stand_by ax x) (stand_by ay y)) (slot_by ky y)))
    × Once (other_first (start_row (stand_by ax x) (stand_by ay y)) (slot_by kx x))
    (other_second (start_row (stand_by ax x) (stand_by ay y)) (slot_by ky y))

other_rows : (k a : Key) (x y : BufferContent) → is_same_key a k ≡ false → Once (slot_in k x) (slot_in k y)
    → OtherRows x y (is_own k x) (is_own k y) (is_own a x) (is_own a y)
other_rows k a x y apart once =
    let hx : HasWhose k a x = whose_of k a x apart in
    let hy : HasWhose k a y = whose_of k a y apart in
    let once_by : Once (slot_by (of_k hx.whose) x) (slot_by (of_k hy.whose) y) =
    subst (λ (b : Bool). Once (slot_by (of_k hx.whose) x) (slot_by b y)) hy.k_is
    (subst (λ (b : Bool). Once (slot_by b x) (slot_by (is_own k y) y)) hx.k_is once) in
    let r : OtherBy x hx.whose y hy.whose = other_by x hx.whose y hy.whose once_by in
    subst (λ (b : Bool). OtherRows x y (is_own k x) (is_own k y) (is_own a x) b) (sym hy.ask_is)
    (subst (λ (b : Bool). OtherRows x y (is_own k x) (is_own k y) b (of_ask hy.whose)) (sym hx.ask_is)
    (subst (λ (b : Bool). OtherRows x y (is_own k x) b (of_ask hx.whose) (of_ask hy.whose)) (sym hy.k_is)
    (subst (λ (b : Bool). OtherRows x y b (of_k hy.whose) (of_ask hx.whose) (of_ask hy.whose)) (sym hx.k_is) r)))

pub other_start : (k : Key) (ask : Ask) (bytes : List ℕ) (stuff : ℕ) (w : TwoBuffers) → is_same_key (key_of ask) k ≡ false → IsOnce k w
    → OtherStart Buffered (slot_of k w) (slot_of k (started ask bytes stuff w)) × IsOnce k (started ask bytes stuff w)
other_start k ask bytes stuff w apart once =
    let t : Taken = record { ask = ask; packet = bytes; stuff = stuff } in
    let a : Key = key_of ask in
    let row : StartRow = start_row (stand_by (is_own a w.first) w.first) (stand_by (is_own a w.second) w.second) in
    let is : start_row_of a w ≡ row = row_is a w in
    let r = other_rows k a w.first w.second apart once in
    let e1 : slot_in k (started ask bytes stuff w).first ≡ other_first row (slot_in k w.first) =
    other_first_is k (start_row_of a w) t w apart ∙ ap (λ (x : StartRow). other_first x (slot_in k w.first)) is in
    let e2 : slot_in k (started ask bytes stuff w).second ≡ other_second row (slot_in k w.second) =
    other_second_is k (start_row_of a w) t w apart ∙ ap (λ (x : StartRow). other_second x (slot_in k w.second)) is in (
      subst (λ (z : KeySlot). OtherStart Buffered (slot_of k w) (either_slot (slot_in k (started ask bytes stuff w).first) z)) (sym e2)
          (subst (λ (z : KeySlot). OtherStart Buffered (slot_of k w) (either_slot z (other_second row (slot_in k w.second)))) (sym e1) r.0),
      subst (λ (z : KeySlot). Once (slot_in k (started ask bytes stuff w).first) z) (sym e2)
          (subst (λ (z : KeySlot). Once z (other_second row (slot_in k w.second))) (sym e1) r.1),
    )

-- ---- a key that neither buffer has

pub record HasNeither (k : Key) (w : TwoBuffers) : Type 0 where
  pub first : slot_in k w.first ≡ Empty
  pub second : slot_in k w.second ≡ Empty

empty_first : (row : StartRow) (s : KeySlot) → s ≡ Empty → other_first row s ≡ Empty
empty_first Repeated s e = e
empty_first (Takes First) s e = refl
empty_first (Takes Second) s e = e
empty_first Full s e = e

empty_second : (row : StartRow) (s : KeySlot) → s ≡ Empty → other_second row s ≡ Empty
empty_second Repeated s e = e
empty_second (Takes First) s e = e
empty_second (Takes Second) s e = refl
empty_second Full s e = e

pub neither_start : (k : Key) (ask : Ask) (bytes : List ℕ) (stuff : ℕ) (w : TwoBuffers) → is_same_key (key_of ask) k ≡ false
    → HasNeither k w
    → HasNeither k (started ask bytes stuff w)
neither_start k ask bytes stuff w apart h =
    let t : Taken = record { ask = ask; packet = bytes; stuff = stuff } in
    let row : StartRow = start_row_of (key_of ask) w in
    record {
      first = other_first_is k row t w apart ∙ empty_first row (slot_in k w.first) h.first;
      second = other_second_is k row t w apart ∙ empty_second row (slot_in k w.second) h.second;
    }
