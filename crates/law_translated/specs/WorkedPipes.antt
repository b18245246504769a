-- Worked pipes: what each event leaves, one after the other.
use Rattle.std.specs.Prelude.{◌≡◌, true, [], ◌∷◌}
use Rattle.std.specs.List.{concat}
use Rattle.claims_base.specs.Prefix.{IsPrefix}
use Rattle.law_translated.specs.Lift.{Buffered, Piped, Idle, Waits, Late, Empty, Asked, Hidden, There, Told, IsSpared, Passes, Holds}
use Rattle.law_translated.specs.InPipes.{Line, InSplit, In, Spared, in_halves, in_claims}
use Rattle.law_translated.specs.OutPipes.{Ack, Stall, out_halves, out_claims}
use Rattle.law_translated.specs.Samples.{one, two, three, packets, in_split, in_at, in_opened, first, second, third, out_at, out_opened, out_put, out_ended, put_one}

-- ---- IN through a pipeline

-- two packets in two frames
abbrev pub TwoFrames : Type 0
TwoFrames = Passes in_halves Piped in_opened (
    in_at 0 0 Waits (Asked In)
    ∷ in_at 1 0 Waits (Hidden In first)
    ∷ in_at 1 0 Waits (There In first)
    ∷ in_at 1 1 Idle (Told In first)
    ∷ in_at 1 1 Idle Empty
    ∷ in_at 1 1 Waits (Asked In)
    ∷ in_at 2 1 Waits (Hidden In second)
    ∷ in_at 2 1 Waits (There In second)
    ∷ in_at 2 2 Idle (Told In second)
    ∷ [])

-- a start that the translator doesn't hear: the last complete-split gets NYET, and the next frame's start brings the packet
abbrev pub LostStart : Type 0
LostStart = Passes in_halves Piped in_opened (
    in_at 0 0 Waits Empty
    ∷ in_at 0 0 Idle Empty
    ∷ in_at 0 0 Waits (Asked In)
    ∷ in_at 1 0 Waits (Hidden In first)
    ∷ in_at 1 0 Waits (There In first)
    ∷ in_at 1 1 Idle (Told In first)
    ∷ [])

-- an acknowledgement that the device doesn't hear: it sends the packet again, which the host drops
abbrev pub LostAcknowledgement : Type 0
LostAcknowledgement = Passes in_halves Piped in_opened (
    in_at 0 0 Waits (Asked In)
    ∷ in_at 0 0 Waits (Hidden In first)
    ∷ in_at 0 0 Waits (There In first)
    ∷ in_at 0 1 Idle (Told In first)
    ∷ in_at 0 1 Idle Empty
    ∷ in_at 0 1 Waits (Asked In)
    ∷ in_at 1 1 Waits (Hidden In first)
    ∷ in_at 1 1 Waits (There In first)
    ∷ in_at 1 1 Idle (Told In first)
    ∷ [])

-- the last answer of a frame isn't heard, and the frame ends: the host waits for what is gone
abbrev pub LostAnswer : Type 0
LostAnswer = Passes in_halves Piped in_opened (
    in_at 0 0 Waits (Asked In)
    ∷ in_at 1 0 Waits (Hidden In first)
    ∷ in_at 1 0 Waits (There In first)
    ∷ in_at 1 0 Waits (Told In first)
    ∷ in_at 1 0 Late Empty
    ∷ [])

-- a result that isn't there at the last complete-split, where the host gives up
abbrev pub given_up : InSplit
given_up = in_at 1 0 Idle (Hidden In first)

-- the host takes the third packet, and nothing before it
abbrev pub third_alone : Line
third_alone = record { left = []; sends = true; accepted = three ∷ []; expects = true; going = true }

-- The device has moved on, so the host drops the second packet as a repeat: the stream is broken.
pub record LateResultBreaks : Type 0 where
  pub comes : Passes in_halves Piped in_opened (in_at 0 0 Waits (Asked In) ∷ in_at 1 0 Waits (Hidden In first) ∷ [])
  pub not_empty : Hidden In first ≡ Empty → ⊥  -- so `gives_up` doesn't lead to the next one
  pub apart : Holds in_halves (in_claims packets) Piped given_up → ⊥
  pub after : Passes in_halves Piped given_up (
      in_at 1 0 Idle Empty
      ∷ in_at 1 0 Waits (Asked In)
      ∷ in_at 2 0 Waits (Hidden In second)
      ∷ in_at 2 0 Waits (There In second)
      ∷ in_at 2 0 Idle (Told In second)
      ∷ in_at 2 0 Idle Empty
      ∷ in_at 2 0 Waits (Asked In)
      ∷ in_at 3 0 Waits (Hidden In third)
      ∷ in_at 3 0 Waits (There In third)
      ∷ in_split third_alone Idle (Told In third)
      ∷ [])
  pub broken : IsPrefix (concat third_alone.accepted) (concat packets) → ⊥

-- ---- IN through a buffer

-- an ACK of a start that the host doesn't hear: it starts again, and the transaction is made once
abbrev pub RepeatedStart : Type 0
RepeatedStart = Passes in_halves Buffered in_opened (
    in_at 0 0 Idle (Asked In)
    ∷ in_at 1 0 Idle (There In first)
    ∷ in_at 1 0 Waits (There In first)
    ∷ in_at 1 1 Idle (Told In first)
    ∷ [])

-- a result that the host doesn't hear is told again
abbrev pub ToldAgain : Type 0
ToldAgain = Passes in_halves Buffered in_opened (
    in_at 0 0 Waits (Asked In)
    ∷ in_at 1 0 Waits (There In first)
    ∷ in_at 1 0 Waits (Told In first)
    ∷ in_at 1 1 Idle (Told In first)
    ∷ [])

-- .. unless another key's start has taken the buffer
abbrev pub TakenOver : Type 0
TakenOver = Passes in_halves Buffered in_opened (
    in_at 0 0 Waits (Asked In)
    ∷ in_at 1 0 Waits (There In first)
    ∷ in_at 1 0 Waits (Told In first)
    ∷ in_at 1 0 Late Empty
    ∷ [])

-- a buffer that is cleared before its transaction is made
abbrev pub ClearedBefore : Type 0
ClearedBefore = Passes in_halves Buffered in_opened (
    in_at 0 0 Idle (Asked In)
    ∷ in_at 0 0 Idle Empty
    ∷ in_at 0 0 Waits (Asked In)
    ∷ in_at 1 0 Waits (There In first)
    ∷ in_at 1 1 Idle (Told In first)
    ∷ [])

-- One that is cleared after the device has moved on, while the host would ask once more, breaks the stream.
pub record ClearBreaks : Type 0 where
  pub comes : Passes in_halves Buffered in_opened (in_at 0 0 Idle (Asked In) ∷ in_at 1 0 Idle (There In first) ∷ [])
  pub not_spared : IsSpared Spared (There In first) Idle → ⊥
  pub apart : Holds in_halves (in_claims packets) Buffered (in_at 1 0 Idle Empty) → ⊥
  pub after : Passes in_halves Buffered (in_at 1 0 Idle Empty) (
      in_at 1 0 Waits (Asked In)
      ∷ in_at 2 0 Waits (There In second)
      ∷ in_at 2 0 Idle (Told In second)
      ∷ in_at 2 0 Waits (Asked In)
      ∷ in_at 3 0 Waits (There In third)
      ∷ in_split third_alone Idle (Told In third)
      ∷ [])
  pub broken : IsPrefix (concat third_alone.accepted) (concat packets) → ⊥

-- ---- IN without a translator

-- an acknowledgement that the device doesn't hear
abbrev pub PlainRepeat : Type 0
PlainRepeat = Passes in_halves Buffered in_opened (in_at 0 1 Idle Empty ∷ in_at 1 1 Idle Empty ∷ in_at 2 2 Idle Empty ∷ [])

-- ---- OUT

abbrev pub ThreePuts : Type 0
ThreePuts = Passes out_halves Buffered out_opened (out_put (one ∷ []) ∷ out_put (one ∷ two ∷ []) ∷ out_at 0 0 Idle Empty ∷ [])

-- the translator doesn't hear the device's ACK, and sends the packet again
abbrev pub RepeatedPacket : Type 0
RepeatedPacket = Passes out_halves Buffered (out_at 0 0 Idle Empty) (
    out_at 0 0 Waits (Asked put_one)
    ∷ out_at 0 1 Waits (Asked put_one)
    ∷ out_at 0 1 Waits (There put_one Ack)
    ∷ out_at 1 1 Idle (Told put_one Ack)
    ∷ [])

-- a clear of what the device has: the host starts again, and the device drops the repeat
abbrev pub ClearedTaken : Type 0
ClearedTaken = Passes out_halves Buffered (out_at 0 0 Idle Empty) (
    out_at 0 0 Idle (Asked put_one)
    ∷ out_at 0 1 Idle (There put_one Ack)
    ∷ out_at 0 1 Idle Empty
    ∷ out_at 0 1 Waits (Asked put_one)
    ∷ out_at 0 1 Waits (There put_one Ack)
    ∷ out_at 1 1 Idle (Told put_one Ack)
    ∷ [])

-- the third silence ends a pipe whose packet the device has
abbrev pub ThirdSilence : Type 0
ThirdSilence = Passes out_halves Buffered (out_at 0 0 Idle Empty) (
    out_at 0 0 Waits (Asked put_one)
    ∷ out_at 0 1 Waits (Asked put_one)
    ∷ out_at 0 1 Waits (There put_one Stall)
    ∷ out_ended 0 1 Idle (Told put_one Stall)
    ∷ [])

-- a cancelled pipe whose buffer works on: the device takes the packet that was to be sent next
abbrev pub WorksOn : Type 0
WorksOn = Passes out_halves Buffered (out_at 0 0 Idle Empty) (
    out_at 0 0 Waits (Asked put_one)
    ∷ out_ended 0 0 Waits (Asked put_one)
    ∷ out_ended 0 1 Waits (There put_one Ack)
    ∷ [])

-- a start that a pipeline doesn't hear, where an entry was told before in this frame: the host would hear the old ACK for the next packet
abbrev pub StaleEntry : Type 0
StaleEntry = Holds out_halves out_claims Piped (out_at 1 1 Waits (Told put_one Ack)) → ⊥
