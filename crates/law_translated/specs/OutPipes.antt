-- A bulk or interrupt OUT pipe, plain, through a buffer or through the pipeline of a translator: how its two ends stand to each other
-- (USB 2.0, 8.6, 11.17 and 11.18; EHCI 1.0, 4.12). What is said holds after the pipe's end too, since a buffer works on.
--     Line              the host's side and the device's
--     out_halves        what they do in the two halves of a transaction
--     out_claims        how their packets stand
use Rattle.std.specs.Prelude.{◌≡◌, ◌⊎◌, ℕ, Bool, true, false, not, List, [], ◌∷◌, ◌++◌, length}
use Rattle.std.specs.List.{concat}
use Rattle.law_pipe.specs.Pipe.{alike, toggle_after}
use Rattle.claims_base.specs.Prefix.{IsPrefix}
use Rattle.law_translated.specs.Lift.{Way, Buffered, Piped, Split, at_rest, Halves, Step, Run, Claims, Holds, IsStranded}

-- a packet with its toggle
pub data Ask : Type 0 where
  Out : Bool → List ℕ → Ask

-- what the asker hears
pub data Reply : Type 0 where
  Ack : Reply  -- at high speed NYET too, where it is the ACK of this packet (8.5.1)
  Nak : Reply
  Stall : Reply  -- the device's, or a buffer's after the third silence
  Err : Reply  -- a pipeline's after a silence

pub record Line : Type 0 where
  pub known : List (List ℕ)  -- the packets that the host knows to be taken, in order
  pub rest : List (List ℕ)  -- those that it still has to send
  pub sends : Bool  -- its toggle
  pub taken : List (List ℕ)  -- the packets that the device took, in order
  pub expects : Bool  -- its toggle
  pub going : Bool  -- the host hasn't halted or cancelled the endpoint

-- nothing was put
abbrev pub out_opening : Line
out_opening = record { known = []; rest = []; sends = false; taken = []; expects = false; going = true }

-- ---- the two halves

-- it is the packet that the host sends next
pub record IsNext (s : Line) (t : Bool) (x : List ℕ) : Type 0 where
  pub parity : t ≡ s.sends
  pub later : List (List ℕ)
  pub rest : s.rest ≡ x ∷ later

abbrev pub Is : Line → Ask → Type 0
Is s (Out t x) = IsNext s t x

-- an error of the host, its end, or one more packet to send
pub data Alone (s : Line) : Line → Type 0 where
  errs : Alone s s
  ends : Alone s (record s { going = false })
  puts : (x : List ℕ) → Alone s (record s { rest = s.rest ++ x ∷ [] })

abbrev pub with_taken : List ℕ → Line → Line
with_taken x s = record s { taken = s.taken ++ x ∷ []; expects = not s.expects }

-- the device takes a packet with the toggle that it expects, or refuses it, and drops one with the other, which it acknowledges
pub data Works (s : Line) : Ask → Reply → Line → Type 0 where
  accepts : (t : Bool) (x : List ℕ) → alike t s.expects ≡ true → Works s (Out t x) Ack (with_taken x s)
  drops : (t : Bool) (x : List ℕ) → alike t s.expects ≡ false → Works s (Out t x) Ack s
  refuses : (t : Bool) (x : List ℕ) → Works s (Out t x) Nak s
  stalls : (t : Bool) (x : List ℕ) → Works s (Out t x) Stall s

pub data Quiet (s : Line) : Ask → Line → Type 0 where
  unheard : (t : Bool) (x : List ℕ) → Quiet s (Out t x) s
  accepts_unheard : (t : Bool) (x : List ℕ) → alike t s.expects ≡ true → Quiet s (Out t x) (with_taken x s)

abbrev pub with_known : List ℕ → List (List ℕ) → Line → Line
with_known x later s = record s { known = s.known ++ x ∷ []; rest = later; sends = not s.sends }

pub data Hears (s : Line) : Ask → Reply → Line → Type 0 where
  learns : (t : Bool) (x : List ℕ) (later : List (List ℕ)) → s.rest ≡ x ∷ later → Hears s (Out t x) Ack (with_known x later s)
  waits : (t : Bool) (x : List ℕ) → Hears s (Out t x) Nak s
  stops : (t : Bool) (x : List ℕ) → Hears s (Out t x) Stall (record s { going = false })
  fails : (t : Bool) (x : List ℕ) → Hears s (Out t x) Err s

-- a lost answer only has the packet sent again
abbrev pub Spared : Ask → Reply → Type 0
Spared a r = Unit {0}

abbrev pub dead : Way → Reply
dead Buffered = Stall
dead Piped = Err

abbrev pub out_halves : Halves Line Ask Reply
out_halves = record { Is = Is; Alone = Alone; Works = Works; Quiet = Quiet; Hears = Hears; Spared = Spared; dead = dead }

-- ---- how they stand

-- the device took besides what the host knows the packet that the host sends next
pub record IsAhead (s : Line) : Type 0 where
  pub next : List ℕ
  pub later : List (List ℕ)
  pub rest : s.rest ≡ next ∷ later
  pub taken : s.taken ≡ s.known ++ next ∷ []

-- the device took what the host knows, or is one ahead; each toggle is the parity of its count
pub record Agrees (s : Line) : Type 0 where
  pub near : (s.taken ≡ s.known) ⊎ IsAhead s
  pub sends_parity : s.sends ≡ toggle_after (length s.known)
  pub expects_parity : s.expects ≡ toggle_after (length s.taken)

abbrev pub IfAck : Reply → Type 0 → Type 0
IfAck Ack P = P
IfAck Nak P = Unit {0}
IfAck Stall P = Unit {0}
IfAck Err P = Unit {0}

pub record Answered (s : Line) (a : Ask) (r : Reply) : Type 0 where
  pub is : Is s a
  pub agrees : Agrees s
  pub ahead : IfAck r (IsAhead s)

abbrev pub out_claims : Claims Line Ask Reply
out_claims = record { Stands = Agrees; Answered = Answered; Gone = Agrees }

-- ---- what is said of a pipe

abbrev pub OutSplit : Type 0
OutSplit = Split Line Ask Reply

-- each event keeps how its ends stand
abbrev pub KeepsPipe : Type 0
KeepsPipe = (way : Way) (x y : OutSplit) → Step out_halves way x y → Holds out_halves out_claims way x → Holds out_halves out_claims way y

-- they stand so after whatever events, and the bytes that the device took begin what was put
pub record OutAgrees (way : Way) (x : OutSplit) : Type 0 where
  pub holds : Holds out_halves out_claims way x
  pub agrees : Agrees x.line
  pub begins : IsPrefix (concat x.line.taken) (concat (x.line.known ++ x.line.rest))

abbrev pub PipeAgrees : Type 0
PipeAgrees = (way : Way) (x : OutSplit) → Run out_halves way (at_rest out_opening) x → OutAgrees way x

-- a host whose result is gone moves nothing any more
pub record MovesNothing (x y : OutSplit) : Type 0 where
  pub stranded : IsStranded y
  pub known : y.line.known ≡ x.line.known
  pub taken : y.line.taken ≡ x.line.taken

abbrev pub StrandedOnlyEnds : Type 0
StrandedOnlyEnds = (way : Way) (x y : OutSplit) → Run out_halves way x y → IsStranded x → MovesNothing x y
