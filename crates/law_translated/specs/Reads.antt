-- A control read behind a hub (USB 2.0, 8.5.3 and 11.17): its SETUP, its data IN, its status OUT, through the two buffers of a
-- translator, one for each direction. Toggles are counted from the first data packet.
--     Line              the host's stage and data, and the device's
--     read_halves       what they do in the two halves of a transaction
--     read_claims       how they stand, by the stage
use Rattle.std.specs.Prelude.{◌≡◌, ◌⊎◌, ℕ, ◌+◌, Bool, true, false, not, List, [], ◌∷◌, ◌++◌, length, take, drop, slice_get, Some, if◌then◌else◌}
use Rattle.law_pipe.specs.Pipe.{alike, toggle_after}
use Rattle.law_translated.specs.InPipes.{IsNear, IsUnheard}
use Rattle.law_translated.specs.Lift.{Way, Split, at_rest, Halves, Step, Run, Claims, Holds}

pub data Token : Type 0 where
  Setup : Token
  Data : Token
  Status : Token

-- what the asker hears
pub data Reply : Type 0 where
  Ack : Reply
  Nak : Reply
  Stall : Reply
  Bytes : Bool → List ℕ → Reply  -- a data packet with this toggle

pub data Stage : Type 0 where
  AtSetup : Stage
  AtData : Stage
  AtStatus : Stage
  Done : Stage

pub record Line : Type 0 where
  pub stage : Stage  -- of the host; it stays where the host halts
  pub going : Bool  -- the host goes on
  pub accepted : List (List ℕ)  -- the packets that it took, in order
  pub expects : Bool  -- its toggle
  pub has : Bool  -- the device has this request under way
  pub left : List (List ℕ)  -- the packets that it doesn't know to be taken
  pub sends : Bool  -- its toggle
  pub acted : Bool  -- it acted on the request
  pub acts : ℕ  -- how often it acted since the request's first transaction

abbrev pub token_at : Stage → Token → Type 0
token_at AtSetup a = a ≡ Setup
token_at AtData a = a ≡ Data
token_at AtStatus a = a ≡ Status
token_at Done a = ⊥

abbrev pub Is : Line → Token → Type 0
Is s a = token_at s.stage a

pub data Alone (s : Line) : Line → Type 0 where
  goes_or_ends : (b : Bool) → Alone s (record s { going = b })

-- the device acts at the first status that it answers
abbrev pub confirmed : Line → Line
confirmed s = record s { acted = true; acts = if s.acted then s.acts else s.acts + 1 }

-- no answer matters but data, which the device may know to be taken
abbrev pub Spared : Token → Reply → Type 0
Spared a Ack = Unit {0}
Spared a Nak = Unit {0}
Spared a Stall = Unit {0}
Spared a (Bytes t x) = ⊥

-- the packets of the reply, and which of them is shorter than the maximum, or the last that was asked for
module _ (packets : List (List ℕ)) (short : List ℕ → Bool) where
  -- the device takes each SETUP, and begins the reply
  abbrev pub begun : Line → Line
  begun s = record s { has = true; left = packets; sends = false; acted = false }

  pub data Works (s : Line) : Token → Reply → Line → Type 0 where
    takes : Works s Setup Ack (begun s)
    unacknowledged : (x : List ℕ) (rest : List (List ℕ)) → s.left ≡ x ∷ rest → Works s Data (Bytes s.sends x) s
    acknowledged : (x : List ℕ) (rest : List (List ℕ)) → s.left ≡ x ∷ rest
        → Works s Data (Bytes s.sends x) (record s { left = rest; sends = not s.sends })
    confirms : Works s Status Ack (confirmed s)
    refuses : (a : Token) → Works s a Nak s
    stalls : (a : Token) → Works s a Stall s

  pub data Quiet (s : Line) : Token → Line → Type 0 where
    unheard : (a : Token) → Quiet s a s
    takes_unheard : Quiet s Setup (begun s)
    confirms_unheard : Quiet s Status (confirmed s)

  -- a short packet ends the data stage
  pub data Hears (s : Line) : Token → Reply → Line → Type 0 where
    begins : Hears s Setup Ack (record s { stage = AtData; accepted = []; expects = false })
    gets : (t : Bool) (x : List ℕ) → alike t s.expects ≡ true → short x ≡ false
        → Hears s Data (Bytes t x) (record s { accepted = s.accepted ++ x ∷ []; expects = not s.expects })
    gets_last : (t : Bool) (x : List ℕ) → alike t s.expects ≡ true → short x ≡ true
        → Hears s Data (Bytes t x) (record s { stage = AtStatus; accepted = s.accepted ++ x ∷ []; expects = not s.expects })
    drops : (t : Bool) (x : List ℕ) → alike t s.expects ≡ false → Hears s Data (Bytes t x) s
    ends : Hears s Status Ack (record s { stage = Done })
    waits : (a : Token) → Hears s a Nak s
    halts : (a : Token) → Hears s a Stall (record s { going = false })

  abbrev pub read_halves : Halves Line Token Reply
  read_halves = record { Is = Is; Alone = Alone; Works = Works; Quiet = Quiet; Hears = Hears; Spared = Spared; dead = λ way. Stall }

  -- the last packet alone is short
  abbrev pub OnlyLast : Type 0
  OnlyLast = (n : ℕ) (x : List ℕ) → slice_get packets n ≡ Some x → short x ≡ true → n + 1 ≡ length packets

  -- ---- how they stand

  -- in the data stage: the host took p packets, and the device knows of q
  pub record InData (so : ℕ → ℕ → Type 0) (s : Line) : Type 0 where
    pub has : s.has ≡ true
    pub acted : s.acted ≡ false
    pub acts : s.acts ≡ 0
    pub known : ℕ
    pub left : s.left ≡ drop known packets
    pub sends_parity : s.sends ≡ toggle_after known
    pub expects_parity : s.expects ≡ toggle_after (length s.accepted)
    pub in_order : s.accepted ≡ take (length s.accepted) packets
    pub stand : so (length s.accepted) known

  -- all data came, and the device acted or hasn't yet
  pub record AtEnd (s : Line) : Type 0 where
    pub whole : s.accepted ≡ packets
    pub acts : ((s.acted ≡ false) × (s.acts ≡ 0)) ⊎ ((s.acted ≡ true) × (s.acts ≡ 1))

  pub record HasActed (s : Line) : Type 0 where
    pub whole : s.accepted ≡ packets
    pub acted : s.acted ≡ true
    pub acts : s.acts ≡ 1

  pub record IsNew (s : Line) : Type 0 where
    pub acts : s.acts ≡ 0
    pub none : s.accepted ≡ []

  pub record HasBegun (s : Line) : Type 0 where
    pub new : IsNew s
    pub has : s.has ≡ true
    pub left : s.left ≡ packets
    pub sends : s.sends ≡ false
    pub acted : s.acted ≡ false

  abbrev pub StandsAt : Stage → Line → Type 0
  StandsAt AtSetup s = IsNew s
  StandsAt AtData s = InData IsNear s
  StandsAt AtStatus s = AtEnd s
  StandsAt Done s = (s.acts ≡ 1) × (s.accepted ≡ packets)

  abbrev pub AnsweredAt : Stage → Reply → Line → Type 0
  AnsweredAt AtSetup Ack s = HasBegun s
  AnsweredAt AtSetup Nak s = IsNew s
  AnsweredAt AtSetup Stall s = IsNew s
  AnsweredAt AtSetup (Bytes t x) s = ⊥
  AnsweredAt AtData Ack s = ⊥
  AnsweredAt AtData Nak s = InData IsNear s
  AnsweredAt AtData Stall s = InData IsNear s
  AnsweredAt AtData (Bytes t x) s = InData (λ p q. IsUnheard packets t x p q) s
  AnsweredAt AtStatus Ack s = HasActed s
  AnsweredAt AtStatus Nak s = AtEnd s
  AnsweredAt AtStatus Stall s = AtEnd s
  AnsweredAt AtStatus (Bytes t x) s = ⊥
  AnsweredAt Done r s = ⊥

  -- the window is right: the device acted at most once, and once where the request is done; the data are whole there, and begin the reply
  -- before
  pub record IsRight (s : Line) : Type 0 where
    pub once : (s.acts ≡ 0) ⊎ (s.acts ≡ 1)
    pub done : s.stage ≡ Done → (s.acts ≡ 1) × (s.accepted ≡ packets)
    pub begins : s.accepted ≡ take (length s.accepted) packets

  abbrev pub read_claims : Claims Line Token Reply
  read_claims = record { Stands = λ s. StandsAt s.stage s; Answered = λ s a r. Is s a × AnsweredAt s.stage r s; Gone = IsRight }

  -- ---- what is said of a window

  abbrev pub KeepsRead : Type 0
  KeepsRead = OnlyLast → (way : Way) (x y : Split Line Token Reply) → Step read_halves way x y → Holds read_halves read_claims way x
      → Holds read_halves read_claims way y

  -- whatever happens, from a line on which the host is at its SETUP
  abbrev pub ReadIsRight : Type 0
  ReadIsRight =
      OnlyLast → (way : Way) (s : Line) (x : Split Line Token Reply) → s.stage ≡ AtSetup → IsNew s → Run read_halves way (at_rest s) x
      → IsRight x.line
