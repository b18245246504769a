-- Worked slots: what translators have of the keys of three bulk IN endpoints and of three interrupt IN ones.
use Rattle.std.specs.Prelude.{ℕ, false, List, [], ◌∷◌}
use Rattle.usb_base.specs.declared.packets.Ask.{Ask}
use Rattle.usb_base.specs.declared.packets.Pid.TheVariants as Pids
use Rattle.usb_base.specs.declared.packets.Reply.{Reply}
use Rattle.usb_base.specs.declared.packets.Reply.TheVariants.{Bytes, Hand}
use Rattle.hub_keys.specs.Keys.{key_of}
use Rattle.tt_bulk.specs.Contents.{Taken, TwoBuffers}
use Rattle.tt_bulk.specs.Contents as Buffers
use Rattle.tt_bulk.specs.Rows.{started}
use Rattle.tt_bulk.specs.Worked.{in_1, in_2, of_ask, heard_data, pending, old, both}
use Rattle.tt_pipeline.specs.declared.entry.Entry.{Entry}
use Rattle.tt_pipeline.specs.Work.{fresh}
use Rattle.tt_pipeline.specs.Worked.{interrupt_in, three, three_stuffed, after_more}
use Rattle.multi_tt.specs.Translators.{Translator}
use Rattle.law_translated.specs.Lift.{Buffered, Piped, Asked, Told}
use Rattle.law_translated.specs.KeySlots.{KeySlot, slot_of, IsOnce, slot_at, IsOnceIn}
use Rattle.law_translated.specs.KeySteps.{OwnStart}
use Rattle.law_translated.specs.KeyLaws.{Has}

abbrev pub with_buffers : TwoBuffers → Translator
with_buffers w = record { bulk = w; pipeline = [] }

abbrev pub with_entries : List Entry → Translator
with_entries es = record { bulk = Buffers.opening; pipeline = es }

-- the second buffer was told, the first isn't answered
abbrev pub one_told : TwoBuffers
one_told = both (pending in_1) (old in_2)

-- each has its own of them
pub record EachHasItsOwn : Type 0 where
  pub first : Has Buffered (key_of in_1) (with_buffers one_told) (Asked (of_ask in_1))
  pub second : Has Buffered (key_of in_2) (with_buffers one_told) (Told (of_ask in_2) heard_data)

-- Two buffers with one key, as no call makes them: a start that is repeated says ACK, though what the key has was told.
abbrev pub twice : TwoBuffers
twice = both (old in_1) (pending in_1)

pub record TwiceBreaks : Type 0 where
  pub not_once : IsOnce (key_of in_1) twice → ⊥
  pub not_told : OwnStart Buffered (of_ask in_1) (slot_of (key_of in_1) twice) (Hand Pids.Ack)
      (slot_of (key_of in_1) (started in_1 [] 0 twice)) → ⊥

-- ---- the pipeline

abbrev pub third_in : Ask
third_in = interrupt_in 3 8

abbrev pub of_start : ℕ → Taken
of_start stuff = record { ask = third_in; packet = []; stuff = stuff }

abbrev pub seven : Reply
seven = Bytes Pids.Data0 (7 ∷ [])

-- what the third of three interrupts has, with stuffed bits, after some microframes in which each device that is asked sends a byte
abbrev pub third_after : ℕ → ℕ → KeySlot
third_after stuff n = slot_at false [] (key_of third_in) (after_more n seven (three_stuffed stuff))

abbrev pub ThirdHasItsOwn : Type 0
ThirdHasItsOwn = Has Piped (key_of third_in) (with_entries three) (Asked (of_start 0))

-- two entries of one key, as no call makes them
abbrev pub TwoEntriesBreak : Type 0
TwoEntriesBreak = IsOnceIn (key_of third_in) (fresh third_in [] 0 ∷ fresh third_in [] 0 ∷ []) → ⊥
