-- A bulk or interrupt IN pipe, plain, through a buffer or through the pipeline of a translator: how its two ends stand to each other
-- (USB 2.0, 8.6, 11.17 and 11.18; EHCI 1.0, 4.12).
--     Line             the device's side and the host's
--     in_halves        what they do in the two halves of a transaction
--     in_claims        how their counts stand
use Rattle.std.specs.Prelude.{◌≡◌, ◌⊎◌, ℕ, ◌+◌, Bool, true, false, not, List, [], ◌∷◌, ◌++◌, length, take, drop, slice_get, Some}
use Rattle.std.specs.List.{concat}
use Rattle.law_pipe.specs.Pipe.{alike, toggle_after}
use Rattle.claims_base.specs.Prefix.{IsPrefix}
use Rattle.law_translated.specs.Lift.{Way, Buffered, Piped, Split, at_rest, Halves, Step, Run, Claims, Holds, IsStranded}

pub data Ask : Type 0 where
  In : Ask

-- what the asker hears
pub data Reply : Type 0 where
  Data : Bool → List ℕ → Reply  -- a packet with this toggle
  Nak : Reply
  Stall : Reply  -- the device's, or a buffer's after the third silence
  Err : Reply  -- a pipeline's after a silence

pub record Line : Type 0 where
  pub left : List (List ℕ)  -- the packets that the device doesn't know to be taken
  pub sends : Bool  -- its toggle
  pub accepted : List (List ℕ)  -- the packets that the host took, in order
  pub expects : Bool  -- its toggle
  pub going : Bool  -- the host hasn't halted or cancelled the endpoint

-- nothing has moved
abbrev pub in_opening : List (List ℕ) → Line
in_opening packets = record { left = packets; sends = false; accepted = []; expects = false; going = true }

-- ---- the two halves

abbrev pub Is : Line → Ask → Type 0
Is s a = Unit {0}

-- an error of the host, or its end
pub data Alone (s : Line) : Line → Type 0 where
  errs : Alone s s
  ends : Alone s (record s { going = false })

-- the device sends its packet, and hears the acknowledgement or doesn't
pub data Works (s : Line) : Ask → Reply → Line → Type 0 where
  unacknowledged : (x : List ℕ) (rest : List (List ℕ)) → s.left ≡ x ∷ rest → Works s In (Data s.sends x) s
  acknowledged : (x : List ℕ) (rest : List (List ℕ)) → s.left ≡ x ∷ rest
      → Works s In (Data s.sends x) (record s { left = rest; sends = not s.sends })
  refuses : Works s In Nak s
  stalls : Works s In Stall s

abbrev pub Quiet : Line → Ask → Line → Type 0
Quiet s a t = t ≡ s

-- the host takes a packet with the toggle that it expects, unless that is longer than it can take, and drops one with the other
pub data Hears (s : Line) : Ask → Reply → Line → Type 0 where
  takes : (t : Bool) (x : List ℕ) → s.going ≡ true → alike t s.expects ≡ true
      → Hears s In (Data t x) (record s { accepted = s.accepted ++ x ∷ []; expects = not s.expects })
  is_long : (t : Bool) (x : List ℕ) → alike t s.expects ≡ true → Hears s In (Data t x) (record s { going = false })
  drops : (t : Bool) (x : List ℕ) → alike t s.expects ≡ false → Hears s In (Data t x) s
  waits : Hears s In Nak s
  stops : Hears s In Stall (record s { going = false })
  fails : Hears s In Err s

-- no answer matters but data, which the device may know to be taken
abbrev pub Spared : Ask → Reply → Type 0
Spared a (Data t x) = ⊥
Spared a Nak = Unit {0}
Spared a Stall = Unit {0}
Spared a Err = Unit {0}

abbrev pub dead : Way → Reply
dead Buffered = Stall
dead Piped = Err

abbrev pub in_halves : Halves Line Ask Reply
in_halves = record { Is = Is; Alone = Alone; Works = Works; Quiet = Quiet; Hears = Hears; Spared = Spared; dead = dead }

-- ---- how they stand: the host took p packets, and the device knows of q

-- no bytes that the host hasn't heard are on the way: the device sends the next packet, or repeats the last
abbrev pub IsNear : ℕ → ℕ → Type 0
IsNear p q = (q ≡ p) ⊎ (q + 1 ≡ p)

-- bytes that the host hasn't heard: packet c, which is the next one or a repeat of the last, and was acknowledged or not
pub record IsUnheard (packets : List (List ℕ)) (toggle : Bool) (x : List ℕ) (p q : ℕ) : Type 0 where
  pub c : ℕ
  pub packet : slice_get packets c ≡ Some x
  pub parity : toggle ≡ toggle_after c
  pub host : (c ≡ p) ⊎ (c + 1 ≡ p)
  pub device : (q ≡ c) ⊎ (q ≡ c + 1)

-- the host waits for a result that is gone from the translator
abbrev pub IsGone : ℕ → ℕ → Type 0
IsGone p q = (q + 1 ≡ p) ⊎ ((q ≡ p) ⊎ (q ≡ p + 1))

-- Each toggle is the parity of its count, and the host's packets are the first ones. How the counts stand is said while the host goes on.
pub record Counts (packets : List (List ℕ)) (so : ℕ → ℕ → Type 0) (s : Line) : Type 0 where
  pub known : ℕ
  pub count : known + length s.left ≡ length packets
  pub left : s.left ≡ drop known packets
  pub sends_parity : s.sends ≡ toggle_after known
  pub expects_parity : s.expects ≡ toggle_after (length s.accepted)
  pub in_order : s.accepted ≡ take (length s.accepted) packets
  pub stand : s.going ≡ true → so (length s.accepted) known

abbrev pub Answered : List (List ℕ) → Line → Ask → Reply → Type 0
Answered packets s a (Data t x) = Counts packets (λ p q. IsUnheard packets t x p q) s
Answered packets s a Nak = Counts packets IsNear s
Answered packets s a Stall = Counts packets IsNear s
Answered packets s a Err = Counts packets IsNear s

abbrev pub in_claims : List (List ℕ) → Claims Line Ask Reply
in_claims packets = record { Stands = Counts packets IsNear; Answered = Answered packets; Gone = Counts packets IsGone }

-- ---- what is said of a pipe

abbrev pub InSplit : Type 0
InSplit = Split Line Ask Reply

-- each event keeps how its ends stand
abbrev pub KeepsPipe : List (List ℕ) → Type 0
KeepsPipe packets = (way : Way) (x y : InSplit) → Step in_halves way x y → Holds in_halves (in_claims packets) way x
    → Holds in_halves (in_claims packets) way y

-- they stand so after whatever events, and the bytes that the host took begin the stream
pub record InAgrees (packets : List (List ℕ)) (way : Way) (x : InSplit) : Type 0 where
  pub holds : Holds in_halves (in_claims packets) way x
  pub begins : IsPrefix (concat x.line.accepted) (concat packets)

abbrev pub PipeAgrees : List (List ℕ) → Type 0
PipeAgrees packets = (way : Way) (x : InSplit) → Run in_halves way (at_rest (in_opening packets)) x → InAgrees packets way x

-- a host whose result is gone moves nothing any more
pub record MovesNothing (x y : InSplit) : Type 0 where
  pub stranded : IsStranded y
  pub accepted : y.line.accepted ≡ x.line.accepted
  pub left : y.line.left ≡ x.line.left

abbrev pub StrandedOnlyEnds : Type 0
StrandedOnlyEnds = (way : Way) (x y : InSplit) → Run in_halves way x y → IsStranded x → MovesNothing x y
