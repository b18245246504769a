-- A pipe between a sender and a receiver over a bus that loses packets: data with an alternating toggle, each
-- answered by an acknowledgement (USB 2.0, 8.6).
use Rattle.std.specs.Prelude.{◌≡◌, ℕ, ◌+◌, ◌%◌, ◌==◌, ◌⊎◌, Bool, true, false, not, List, [], ◌∷◌, ◌++◌, length, take, slice_get, Option, Some, None, if◌then◌else◌}

pub record Pipe (A : Type 0) : Type 0 where
  pub known : ℕ  -- how many packets the sender knows to be accepted
  pub sends : Bool  -- the sender's toggle
  pub accepted : List A  -- the packets that the receiver accepted, in order
  pub expects : Bool  -- the receiver's toggle

-- Who heard what in one transaction.
pub data Hearing : Type 0 where
  Unheard : Hearing  -- no data reached the receiver, or it refused them with nothing changed
  Heard : Bool → Hearing  -- the data reached the receiver, which acknowledged them; was that heard?

-- the pipe before the first packet
abbrev pub opening : {A : Type 0} → Pipe A
opening = record { known = 0; sends = false; accepted = []; expects = false }

-- two toggles are alike
abbrev pub alike : Bool → Bool → Bool
alike true b = b
alike false b = not b

-- The receiver takes a packet with the toggle that it expects, and drops one with the other.
abbrev pub received : {A : Type 0} → A → Pipe A → Pipe A
received x w = if alike w.sends w.expects then record w { accepted = w.accepted ++ x ∷ []; expects = not w.expects } else w

-- The sender goes on to its next packet where it heard the acknowledgement.
abbrev pub acknowledged : {A : Type 0} → Bool → Pipe A → Pipe A
acknowledged heard w = if heard then record w { known = w.known + 1; sends = not w.sends } else w

-- The sender sends the packet after those that it knows to be accepted, where there is one.
abbrev pub sent : {A : Type 0} → Bool → Option A → Pipe A → Pipe A
sent heard None w = w
sent heard (Some x) w = acknowledged heard (received x w)

-- the pipe after one transaction
abbrev pub after : {A : Type 0} → List A → Pipe A → Hearing → Pipe A
after packets w Unheard = w
after packets w (Heard heard) = sent heard (slice_get packets w.known) w

-- the pipe after several, in order
abbrev pub after_all : {A : Type 0} → List A → Pipe A → List Hearing → Pipe A
after_all packets w [] = w
after_all packets w (h ∷ hs) = after_all packets (after packets w h) hs

-- a toggle after n packets
abbrev pub toggle_after : ℕ → Bool
toggle_after n = n % 2 == 1

-- The receiver's count is the sender's, or one more.
abbrev pub IsNear : ℕ → ℕ → Type 0
IsNear q p = (p ≡ q) ⊎ (p ≡ q + 1)

-- The two sides agree: the receiver's count is the sender's known count or one more, each toggle is the parity of its
-- count, and what was accepted is the first packets, each once and in order.
pub record PipeAgrees {A : Type 0} (packets : List A) (w : Pipe A) : Type 0 where
  pub near : IsNear w.known (length w.accepted)
  pub sends_parity : w.sends ≡ toggle_after w.known
  pub expects_parity : w.expects ≡ toggle_after (length w.accepted)
  pub in_order : w.accepted ≡ take (length w.accepted) packets
