-- Worked requests: what each event leaves, one after the other.
use Rattle.std.specs.Prelude.{ℕ, Bool, true, false, List, [], ◌∷◌}
use Rattle.law_translated.specs.Lift.{Buffered, Wait, Idle, Waits, Slot, Empty, Asked, There, Told, Split, at_rest, Passes}
use Rattle.law_translated.specs.OutPipes.{Line as Pipe}
use Rattle.law_translated.specs.Requests as requests
use Rattle.law_translated.specs.Reads as reads
use Rattle.law_translated.specs.Writes as writes

abbrev pub split : {S A R : Type 0} → S → Wait → Slot A R → Slot A R → Split S A R
split line wait here aside = record { line = line; wait = wait; here = here; aside = aside }

-- ---- a request without data

abbrev pub request_line : requests.Stage → Bool → Bool → Bool → ℕ → requests.Line
request_line stage going has acted acts = record { stage = stage; going = going; has = has; acted = acted; acts = acts }

-- the answers in the buffers: to the SETUP, and to the status
abbrev pub setup_told : Slot requests.Token requests.Reply
setup_told = Told requests.Setup requests.Ack

abbrev pub status_told : Slot requests.Token requests.Reply
status_told = Told requests.Status requests.Ack

-- the translator doesn't hear the answer to the status, and asks again: the device acts once
abbrev pub RepeatedStatus : Type 0
RepeatedStatus = Passes requests.request_halves Buffered (at_rest (requests.request_opening false false)) (
    split (request_line requests.AtSetup true false false 0) Waits (Asked requests.Setup) Empty
    ∷ split (request_line requests.AtSetup true true false 0) Waits (There requests.Setup requests.Ack) Empty
    ∷ split (request_line requests.AtStatus true true false 0) Idle setup_told Empty
    ∷ split (request_line requests.AtStatus true true false 0) Idle Empty setup_told
    ∷ split (request_line requests.AtStatus true true false 0) Waits (Asked requests.Status) setup_told
    ∷ split (request_line requests.AtStatus true true true 1) Waits (Asked requests.Status) setup_told
    ∷ split (request_line requests.AtStatus true true true 1) Waits (There requests.Status requests.Ack) setup_told
    ∷ split (request_line requests.Done true true true 1) Idle status_told setup_told
    ∷ [])

-- the host is cancelled while its status is in the buffer: the device acts after it
abbrev pub ActsAfterTheEnd : Type 0
ActsAfterTheEnd =
    Passes requests.request_halves Buffered
    (split (request_line requests.AtStatus true true false 0) Waits (Asked requests.Status) setup_told) (
    split (request_line requests.AtStatus false true false 0) Waits (Asked requests.Status) setup_told
    ∷ split (request_line requests.AtStatus false true true 1) Waits (There requests.Status requests.Ack) setup_told
    ∷ [])

-- ---- a read of one packet, which is short

abbrev pub one_packet : List (List ℕ)
one_packet = (7 ∷ 8 ∷ []) ∷ []

abbrev pub always : List ℕ → Bool
always x = true

abbrev pub read_line : reads.Stage → List (List ℕ) → Bool → List (List ℕ) → Bool → Bool → ℕ → reads.Line
read_line stage accepted has left turned acted acts = record {
  stage = stage;
  going = true;
  accepted = accepted;
  expects = turned;
  has = has;
  left = left;
  sends = turned;
  acted = acted;
  acts = acts;
}

abbrev pub read_opening : reads.Line
read_opening = read_line reads.AtSetup [] false [] false false 0

-- the packet is on the way: the device knows it to be taken
abbrev pub read_sent : reads.Line
read_sent = record (read_line reads.AtData [] true [] true false 0) { expects = false }

abbrev pub bytes : reads.Reply
bytes = reads.Bytes false (7 ∷ 8 ∷ [])

pub record ReadComesTrue : Type 0 where
  pub begins : reads.IsNew one_packet always read_opening
  pub only : reads.OnlyLast one_packet always
  pub passes : Passes (reads.read_halves one_packet always) Buffered (at_rest read_opening) (
      split read_opening Waits (Asked reads.Setup) Empty
      ∷ split (read_line reads.AtSetup [] true one_packet false false 0) Waits (There reads.Setup reads.Ack) Empty
      ∷ split (read_line reads.AtData [] true one_packet false false 0) Idle (Told reads.Setup reads.Ack) Empty
      ∷ split (read_line reads.AtData [] true one_packet false false 0) Idle Empty (Told reads.Setup reads.Ack)
      ∷ split (read_line reads.AtData [] true one_packet false false 0) Waits (Asked reads.Data) (Told reads.Setup reads.Ack)
      ∷ split read_sent Waits (There reads.Data bytes) (Told reads.Setup reads.Ack)
      ∷ split (read_line reads.AtStatus one_packet true [] true false 0) Idle (Told reads.Data bytes) (Told reads.Setup reads.Ack)
      ∷ split (read_line reads.AtStatus one_packet true [] true false 0) Idle (Told reads.Setup reads.Ack) (Told reads.Data bytes)
      ∷ split (read_line reads.AtStatus one_packet true [] true false 0) Waits (Asked reads.Status) (Told reads.Data bytes)
      ∷ split (read_line reads.AtStatus one_packet true [] true true 1) Waits (There reads.Status reads.Ack) (Told reads.Data bytes)
      ∷ split (read_line reads.Done one_packet true [] true true 1) Idle (Told reads.Status reads.Ack) (Told reads.Data bytes)
      ∷ [])

-- two packets, the first of which is short already: the host ends the data stage there, and the read isn't whole
abbrev pub two_packets : List (List ℕ)
two_packets = (7 ∷ []) ∷ (8 ∷ []) ∷ []

abbrev pub half_read : reads.Line
half_read = read_line reads.Done ((7 ∷ []) ∷ []) true ((8 ∷ []) ∷ []) true true 1

pub record ShortPacketBreaks : Type 0 where
  pub not_last : reads.OnlyLast two_packets always → ⊥
  pub passes : Passes (reads.read_halves two_packets always) Buffered (at_rest read_opening) (
      at_rest (read_line reads.AtData [] true two_packets false false 0)
      ∷ at_rest (read_line reads.AtStatus ((7 ∷ []) ∷ []) true ((8 ∷ []) ∷ []) true false 0)
      ∷ at_rest half_read
      ∷ [])
  pub wrong : reads.IsRight two_packets always half_read → ⊥

-- ---- a write of one packet

abbrev pub write_pipe : List (List ℕ) → List (List ℕ) → List (List ℕ) → Bool → Bool → Pipe
write_pipe known rest taken sends expects =
    record { known = known; rest = rest; sends = sends; taken = taken; expects = expects; going = true }

abbrev pub write_line : writes.Stage → Pipe → Bool → Bool → ℕ → writes.Line
write_line stage pipe has acted acts = record { stage = stage; pipe = pipe; has = has; acted = acted; acts = acts }

-- before the SETUP, in the data stage, where the packet is taken, and where the host knows that
abbrev pub no_pipe : Pipe
no_pipe = write_pipe [] [] [] false false

abbrev pub begun_pipe : Pipe
begun_pipe = write_pipe [] one_packet [] false false

abbrev pub taken_pipe : Pipe
taken_pipe = write_pipe [] one_packet one_packet false true

abbrev pub known_pipe : Pipe
known_pipe = write_pipe one_packet [] one_packet true true

abbrev pub write_data : writes.Token
write_data = writes.Data false (7 ∷ 8 ∷ [])

-- SETUP and data go out by one buffer; the status comes in by the other
abbrev pub WriteComesTrue : Type 0
WriteComesTrue = Passes (writes.write_halves one_packet) Buffered (at_rest (write_line writes.AtSetup no_pipe false false 0)) (
    split (write_line writes.AtSetup no_pipe false false 0) Waits (Asked writes.Setup) Empty
    ∷ split (write_line writes.AtSetup no_pipe true false 0) Waits (There writes.Setup writes.Ack) Empty
    ∷ split (write_line writes.AtData begun_pipe true false 0) Idle (Told writes.Setup writes.Ack) Empty
    ∷ split (write_line writes.AtData begun_pipe true false 0) Waits (Asked write_data) Empty
    ∷ split (write_line writes.AtData taken_pipe true false 0) Waits (There write_data writes.Ack) Empty
    ∷ split (write_line writes.AtStatus known_pipe true false 0) Idle (Told write_data writes.Ack) Empty
    ∷ split (write_line writes.AtStatus known_pipe true false 0) Idle Empty (Told write_data writes.Ack)
    ∷ split (write_line writes.AtStatus known_pipe true false 0) Waits (Asked writes.Status) (Told write_data writes.Ack)
    ∷ split (write_line writes.AtStatus known_pipe true true 1) Waits (There writes.Status writes.Ack) (Told write_data writes.Ack)
    ∷ split (write_line writes.Done known_pipe true true 1) Idle (Told writes.Status writes.Ack) (Told write_data writes.Ack)
    ∷ [])

-- an act from before the request's first transaction is one too many
pub record OldActBreaks : Type 0 where
  pub passes : Passes (writes.write_halves one_packet) Buffered (at_rest (write_line writes.AtSetup no_pipe false false 1)) (
      at_rest (write_line writes.AtData begun_pipe true false 1)
      ∷ at_rest (write_line writes.AtStatus known_pipe true false 1)
      ∷ at_rest (write_line writes.Done known_pipe true true 2)
      ∷ [])
  pub wrong : writes.IsRight one_packet (write_line writes.Done known_pipe true true 2) → ⊥
