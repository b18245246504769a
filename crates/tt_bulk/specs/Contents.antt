-- What a translator's buffers have in them (USB 2.0, 11.17).
use Rattle.std.specs.Prelude.{ℕ, List}
use Rattle.usb_base.specs.declared.packets.Ask.{Ask}
use Rattle.tt_bulk.specs.declared.answers.Answer.{Answer}
use Rattle.tt_bulk.specs.declared.rows.BufferIndex.{BufferIndex}
use Rattle.tt_bulk.specs.declared.rows.BufferIndex.TheVariants.{First, Second}
use Rattle.tt_bulk.specs.declared.rows.Stage.{Stage}
use Rattle.tt_bulk.specs.declared.rows.Stage.TheVariants as Stages

-- a start-split that was taken, with the bytes that it carried
pub record Taken : Type 0 where
  pub ask : Ask
  pub packet : List ℕ
  pub stuff : ℕ  -- how many bytes in 36 stuffed bits make it longer (7.1.9)

pub data BufferContent : Type 0 where
  Free : BufferContent
  Pending : Taken → ℕ → BufferContent  -- the transaction isn't answered yet, and was met by this many silences
  Ready : Taken → Answer → BufferContent  -- its result, which no complete-split has asked for
  Old : Taken → Answer → BufferContent  -- its result, which was given

pub record TwoBuffers : Type 0 where
  pub first : BufferContent
  pub second : BufferContent
  pub latest : BufferIndex  -- the one that took its packet last

-- both are free
abbrev pub opening : TwoBuffers
opening = record { first = Free; second = Free; latest = Second }

-- what a buffer has at this stage
abbrev pub content_at : Stage → Taken → ℕ → Answer → BufferContent
content_at Stages.Free _ _ _ = Free
content_at Stages.Pending taken silences _ = Pending taken silences
content_at Stages.Ready taken _ answer = Ready taken answer
content_at Stages.Old taken _ answer = Old taken answer

abbrev pub buffer_content : BufferIndex → TwoBuffers → BufferContent
buffer_content First w = w.first
buffer_content Second w = w.second

abbrev pub with_place : BufferIndex → BufferContent → TwoBuffers → TwoBuffers
with_place First b w = record w { first = b }
with_place Second b w = record w { second = b }
