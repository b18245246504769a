-- A control write behind a hub (USB 2.0, 8.5.3 and 11.17): its SETUP, its data OUT, its status IN, through the two buffers of a
-- translator, one for each direction. Its data stage is an OUT pipe of its own. Toggles are counted from the first data packet.
--     Line              the host's stage, the pipe of the data stage, and the device
--     write_halves      what they do in the two halves of a transaction
--     write_claims      how they stand, by the stage
use Rattle.std.specs.Prelude.{◌≡◌, ◌⊎◌, ℕ, ◌+◌, Bool, true, false, List, [], ◌∷◌, ◌++◌, if◌then◌else◌}
use Rattle.std.specs.List.{concat}
use Rattle.law_pipe.specs.Pipe.{alike}
use Rattle.claims_base.specs.Prefix.{IsPrefix}
use Rattle.law_translated.specs.OutPipes.{Line as Pipe, IsNext, IsAhead, Agrees, with_taken, with_known}
use Rattle.law_translated.specs.Lift.{Way, Split, at_rest, Halves, Step, Run, Claims, Holds}

pub data Token : Type 0 where
  Setup : Token
  Data : Bool → List ℕ → Token  -- a data packet with its toggle
  Status : Token

-- what the asker hears: of the status Ack is its empty data packet
pub data Reply : Type 0 where
  Ack : Reply
  Nak : Reply
  Stall : Reply

pub data Stage : Type 0 where
  AtSetup : Stage
  AtData : Stage
  AtStatus : Stage
  Done : Stage

pub record Line : Type 0 where
  pub stage : Stage  -- of the host; it stays where the host halts
  pub pipe : Pipe  -- what the host sent and the device took in the data stage
  pub has : Bool  -- the device has this request under way
  pub acted : Bool  -- .. and acted on it
  pub acts : ℕ  -- how often it acted since the request's first transaction

abbrev pub IsData : Pipe → Token → Type 0
IsData p Setup = ⊥
IsData p (Data t x) = IsNext p t x
IsData p Status = ⊥

abbrev pub token_at : Stage → Pipe → Token → Type 0
token_at AtSetup p a = a ≡ Setup
token_at AtData p a = IsData p a
token_at AtStatus p a = a ≡ Status
token_at Done p a = ⊥

abbrev pub Is : Line → Token → Type 0
Is s a = token_at s.stage s.pipe a

pub data Alone (s : Line) : Line → Type 0 where
  goes_or_ends : (b : Bool) → Alone s (record s { pipe = record s.pipe { going = b } })

-- the device takes each SETUP, and has no data of the request yet
abbrev pub emptied : Pipe → Pipe
emptied p = record p { taken = []; expects = false }

abbrev pub begun : Line → Line
begun s = record s { pipe = emptied s.pipe; has = true; acted = false }

abbrev pub took : List ℕ → Line → Line
took x s = record s { pipe = with_taken x s.pipe }

-- it acts at the first status that it answers
abbrev pub confirmed : Line → Line
confirmed s = record s { acted = true; acts = if s.acted then s.acts else s.acts + 1 }

pub data Works (s : Line) : Token → Reply → Line → Type 0 where
  takes : Works s Setup Ack (begun s)
  accepts : (t : Bool) (x : List ℕ) → alike t s.pipe.expects ≡ true → Works s (Data t x) Ack (took x s)
  drops : (t : Bool) (x : List ℕ) → alike t s.pipe.expects ≡ false → Works s (Data t x) Ack s
  confirms : Works s Status Ack (confirmed s)
  refuses : (a : Token) → Works s a Nak s
  stalls : (a : Token) → Works s a Stall s

pub data Quiet (s : Line) : Token → Line → Type 0 where
  unheard : (a : Token) → Quiet s a s
  takes_unheard : Quiet s Setup (begun s)
  accepts_unheard : (t : Bool) (x : List ℕ) → alike t s.pipe.expects ≡ true → Quiet s (Data t x) (took x s)
  confirms_unheard : Quiet s Status (confirmed s)

-- a lost answer only has the token sent again
abbrev pub Spared : Token → Reply → Type 0
Spared a r = Unit {0}

-- the packets of the data stage
module _ (packets : List (List ℕ)) where
  -- the host's side at the first data packet
  abbrev pub opened : Pipe → Pipe
  opened p = record p { known = []; rest = packets; sends = false }

  abbrev pub learned : List ℕ → List (List ℕ) → Line → Line
  learned x later s = record s { pipe = with_known x later s.pipe }

  pub data Hears (s : Line) : Token → Reply → Line → Type 0 where
    begins : Hears s Setup Ack (record s { stage = AtData; pipe = opened s.pipe })
    learns : (t : Bool) (x y : List ℕ) (later : List (List ℕ)) → s.pipe.rest ≡ x ∷ y ∷ later
        → Hears s (Data t x) Ack (learned x (y ∷ later) s)
    learns_last : (t : Bool) (x : List ℕ) → s.pipe.rest ≡ x ∷ [] → Hears s (Data t x) Ack (record (learned x [] s) { stage = AtStatus })
    ends : Hears s Status Ack (record s { stage = Done })
    waits : (a : Token) → Hears s a Nak s
    halts : (a : Token) → Hears s a Stall (record s { pipe = record s.pipe { going = false } })

  abbrev pub write_halves : Halves Line Token Reply
  write_halves = record { Is = Is; Alone = Alone; Works = Works; Quiet = Quiet; Hears = Hears; Spared = Spared; dead = λ way. Stall }

  -- ---- how they stand

  -- in the data stage
  pub record InData (s : Line) : Type 0 where
    pub has : s.has ≡ true
    pub acted : s.acted ≡ false
    pub acts : s.acts ≡ 0
    pub whole : s.pipe.known ++ s.pipe.rest ≡ packets
    pub agrees : Agrees s.pipe

  -- .. with the ACK of a packet on the way
  pub record IsTaken (s : Line) : Type 0 where
    pub data_stage : InData s
    pub ahead : IsAhead s.pipe

  -- all data were taken, and the device acted or hasn't yet
  pub record AtEnd (s : Line) : Type 0 where
    pub has : s.has ≡ true
    pub taken : s.pipe.taken ≡ packets
    pub acts : ((s.acted ≡ false) × (s.acts ≡ 0)) ⊎ ((s.acted ≡ true) × (s.acts ≡ 1))

  pub record HasActed (s : Line) : Type 0 where
    pub has : s.has ≡ true
    pub taken : s.pipe.taken ≡ packets
    pub acted : s.acted ≡ true
    pub acts : s.acts ≡ 1

  -- the device has the request, and no data of it
  pub record HasBegun (s : Line) : Type 0 where
    pub acts : s.acts ≡ 0
    pub has : s.has ≡ true
    pub acted : s.acted ≡ false
    pub none : s.pipe.taken ≡ []
    pub expects : s.pipe.expects ≡ false

  abbrev pub StandsAt : Stage → Line → Type 0
  StandsAt AtSetup s = s.acts ≡ 0
  StandsAt AtData s = InData s
  StandsAt AtStatus s = AtEnd s
  StandsAt Done s = (s.acts ≡ 1) × (s.pipe.taken ≡ packets)

  abbrev pub AnsweredAt : Stage → Reply → Line → Type 0
  AnsweredAt AtSetup Ack s = HasBegun s
  AnsweredAt AtSetup Nak s = s.acts ≡ 0
  AnsweredAt AtSetup Stall s = s.acts ≡ 0
  AnsweredAt AtData Ack s = IsTaken s
  AnsweredAt AtData Nak s = InData s
  AnsweredAt AtData Stall s = InData s
  AnsweredAt AtStatus Ack s = HasActed s
  AnsweredAt AtStatus Nak s = AtEnd s
  AnsweredAt AtStatus Stall s = AtEnd s
  AnsweredAt Done r s = ⊥

  -- The window is right: the device acted at most once, and once where the request is done; it took all data there. Where the SETUP's ACK
  -- was
  -- heard, what it took begins the data.
  pub record IsRight (s : Line) : Type 0 where
    pub once : (s.acts ≡ 0) ⊎ (s.acts ≡ 1)
    pub done : s.stage ≡ Done → (s.acts ≡ 1) × (s.pipe.taken ≡ packets)
    pub begins : (s.stage ≡ AtSetup → ⊥) → IsPrefix (concat s.pipe.taken) (concat packets)

  abbrev pub write_claims : Claims Line Token Reply
  write_claims = record { Stands = λ s. StandsAt s.stage s; Answered = λ s a r. Is s a × AnsweredAt s.stage r s; Gone = IsRight }

  -- ---- what is said of a window

  abbrev pub KeepsWrite : Type 0
  KeepsWrite = (way : Way) (x y : Split Line Token Reply) → Step write_halves way x y → Holds write_halves write_claims way x
      → Holds write_halves write_claims way y

  -- whatever happens, from a line on which the host is at its SETUP, whatever the device was left as
  abbrev pub WriteIsRight : Type 0
  WriteIsRight = (way : Way) (s : Line) (x : Split Line Token Reply) → s.stage ≡ AtSetup → s.acts ≡ 0 → Run write_halves way (at_rest s) x
      → IsRight x.line
