-- What a translator has of one key (USB 2.0, 11.17 and 11.18), as a slot of the machine with a translator between host and device.
--     way_of kind             how transactions of this kind go; isochronous ones have no slot
--     slot_in, slot_of        what a buffer has of a key, and what two buffers have
--     entry_slot, slot_at     what an entry of the pipeline has, and what the pipeline has of a key
--     HasSlot way k t s       this is what the translator has of the key
--     IsKeyed way k t         it has the key once, and in its own half
use Rattle.std.specs.Prelude.{◌≡◌, ◌⊎◌, ℕ, Bool, true, false, List, [], ◌∷◌, length, nat_le, Option, Some, None, if◌then◌else◌}
use Rattle.std.specs.List.{find}
use Rattle.usb_base.specs.declared.packets.EpKind.{EpKind}
use Rattle.usb_base.specs.declared.packets.EpKind.TheVariants.{Control, Iso, Bulk, Interrupt}
use Rattle.usb_base.specs.declared.packets.Reply.{Reply}
use Rattle.hub_keys.specs.declared.key.Key.{Key}
use Rattle.hub_keys.specs.Keys.{key_of, is_same_key}
use Rattle.tt_bulk.specs.Answers.{reply_of}
use Rattle.tt_bulk.specs.Contents.{Taken, BufferContent, Free, Pending, Ready, Old, TwoBuffers}
use Rattle.tt_pipeline.specs.declared.entry.Brought.{Brought}
use Rattle.tt_pipeline.specs.declared.entry.Entry.{Entry}
use Rattle.tt_pipeline.specs.declared.entry.Exchange.{Exchange}
use Rattle.tt_pipeline.specs.declared.entry.Exchange.TheVariants.{Ahead, Made}
use Rattle.tt_pipeline.specs.Answers.{result_of}
use Rattle.tt_pipeline.specs.Starting.{has_key, is_there}
use Rattle.tt_pipeline.specs.Work.{called_for, nothing_brought}
use Rattle.multi_tt.specs.Translators.{Translator}
use Rattle.law_translated.specs.Lift.{Way, Buffered, Piped, Slot, Empty, Asked, Hidden, There, Told}

-- an ask is the start that was taken with its bytes, an answer what a complete-split is answered with
abbrev pub KeySlot : Type 0
KeySlot = Slot Taken Reply

-- bulk and control go into the buffers, interrupt into the pipeline
abbrev pub way_of : EpKind → Option Way
way_of Bulk = Some Buffered
way_of Control = Some Buffered
way_of Interrupt = Some Piped
way_of Iso = None

-- ---- the two buffers

abbrev pub is_own : Key → BufferContent → Bool
is_own k Free = false
is_own k (Pending taken silences) = is_same_key (key_of taken.ask) k
is_own k (Ready taken answer) = is_same_key (key_of taken.ask) k
is_own k (Old taken answer) = is_same_key (key_of taken.ask) k

-- what a buffer has of a key, by whether it is the key's
abbrev pub slot_by : Bool → BufferContent → KeySlot
slot_by own Free = Empty
slot_by own (Pending taken silences) = if own then Asked taken else Empty
slot_by own (Ready taken answer) = if own then There taken (reply_of answer) else Empty
slot_by own (Old taken answer) = if own then Told taken (reply_of answer) else Empty

abbrev pub slot_in : Key → BufferContent → KeySlot
slot_in k b = slot_by (is_own k b) b

-- the first, or the second where that is empty
abbrev pub either_slot : KeySlot → KeySlot → KeySlot
either_slot Empty y = y
either_slot (Asked a) y = Asked a
either_slot (Hidden a r) y = Hidden a r
either_slot (There a r) y = There a r
either_slot (Told a r) y = Told a r

abbrev pub slot_of : Key → TwoBuffers → KeySlot
slot_of k w = either_slot (slot_in k w.first) (slot_in k w.second)

-- not both buffers have the key
abbrev pub IsOnce : Key → TwoBuffers → Type 0
IsOnce k w = (slot_in k w.first ≡ Empty) ⊎ (slot_in k w.second ≡ Empty)

-- ---- the pipeline

-- a result that was made, by whether all of its byte-times are worked, and whether it was told
abbrev pub shown : Bool → Bool → Taken → Reply → KeySlot
shown false is_told a r = Hidden a r
shown true false a r = There a r
shown true true a r = Told a r

-- The entry notes neither that a complete-split was answered with its result nor, once its transaction is made, which bytes that sent: so
-- both are read off the host.
abbrev pub exchange_slot : Bool → List ℕ → Exchange → Entry → KeySlot
exchange_slot is_told packet (Ahead sent) e = Asked (record { ask = e.ask; packet = sent; stuff = e.stuff })
exchange_slot is_told packet (Made reply) e =
    shown (nat_le (called_for e) e.done) is_told (record { ask = e.ask; packet = packet; stuff = e.stuff }) (result_of reply)

abbrev pub entry_slot : Bool → List ℕ → Entry → KeySlot
entry_slot is_told packet e = exchange_slot is_told packet e.exchange e

abbrev pub slot_if : Bool → List ℕ → Option Entry → KeySlot
slot_if is_told packet None = Empty
slot_if is_told packet (Some e) = entry_slot is_told packet e

abbrev pub slot_at : Bool → List ℕ → Key → List Entry → KeySlot
slot_at is_told packet k es = slot_if is_told packet (find (has_key k) es)

-- no two entries are the key's
abbrev pub IsOnceBy : Bool → Type 0 → Type 0 → Type 0
IsOnceBy true here later = here
IsOnceBy false here later = later

abbrev pub IsOnceIn : Key → List Entry → Type 0
IsOnceIn k [] = Unit {0}
IsOnceIn k (e ∷ es) = IsOnceBy (has_key k e) (is_there k es ≡ false) (IsOnceIn k es)

-- an entry stands where its start put it
pub record IsOfAsk (e : Entry) : Type 0 where
  pub key : e.key ≡ key_of e.ask

-- what a start that comes whole has brought
abbrev pub all_at_once : ℕ → Brought
all_at_once n = record { parts = 0; bytes = n; whole = true }

-- so far nothing is worked of what came: it came in this microframe or the one before
pub record IsNew (e : Entry) : Type 0 where
  pub heard : e.heard ≡ nothing_brought
  pub done : e.done ≡ 0
  pub ahead : (sent : List ℕ) × (e.exchange ≡ Ahead sent)
  pub before : (e.before ≡ nothing_brought) ⊎ (e.before ≡ e.came)

-- all that came is worked
pub record IsWorking (e : Entry) : Type 0 where
  pub before : e.before ≡ e.came
  pub heard : e.heard ≡ e.came

abbrev pub IsAllSent : ℕ → Exchange → Type 0
IsAllSent n (Ahead sent) = length sent ≡ n
IsAllSent n (Made reply) = Unit {0}

-- an interrupt's start comes whole, with all bytes that its transaction sends
pub record IsWhole (e : Entry) : Type 0 where
  pub kind : e.ask.kind ≡ Interrupt
  pub came : e.came ≡ all_at_once e.came.bytes
  pub sent : IsAllSent e.came.bytes e.exchange
  pub age : IsNew e ⊎ IsWorking e

-- each entry stands where its start put it, and the key's is an interrupt's
abbrev pub IfOwn : Bool → Type 0 → Type 0
IfOwn true P = P
IfOwn false P = Unit {0}

abbrev pub AreEntries : Key → List Entry → Type 0
AreEntries k [] = Unit {0}
AreEntries k (e ∷ es) = IsOfAsk e × IfOwn (has_key k e) (IsWhole e) × AreEntries k es

-- ---- a translator

-- what it has of a key that goes this way
abbrev pub slot_for : Way → Bool → List ℕ → Key → Translator → KeySlot
slot_for Buffered is_told packet k t = slot_of k t.bulk
slot_for Piped is_told packet k t = slot_at is_told packet k t.pipeline

pub record HasSlot (way : Way) (k : Key) (t : Translator) (s : KeySlot) : Type 0 where
  pub is_told : Bool
  pub packet : List ℕ
  pub is : slot_for way is_told packet k t ≡ s

-- it has the key at most once, and only in the half in which it goes
pub record InBuffers (k : Key) (t : Translator) : Type 0 where
  pub once : IsOnce k t.bulk
  pub entries : AreEntries k t.pipeline
  pub none : is_there k t.pipeline ≡ false

pub record InPipeline (k : Key) (t : Translator) : Type 0 where
  pub once : IsOnceIn k t.pipeline
  pub entries : AreEntries k t.pipeline
  pub first : slot_in k t.bulk.first ≡ Empty
  pub second : slot_in k t.bulk.second ≡ Empty

abbrev pub IsKeyed : Way → Key → Translator → Type 0
IsKeyed Buffered k t = InBuffers k t
IsKeyed Piped k t = InPipeline k t
