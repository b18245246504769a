-- A control request without data behind a hub (USB 2.0, 8.5.3 and 11.17): its SETUP, and its status, which is an IN. The device acts
-- where it first answers the status.
--     Line              the host's stage, and the device
--     request_halves    what they do in the two halves of a transaction
--     request_claims    how they stand, by the stage
use Rattle.std.specs.Prelude.{◌≡◌, ℕ, ◌+◌, ◌⊎◌, Bool, true, false, if◌then◌else◌}
use Rattle.law_translated.specs.Lift.{Way, Split, at_rest, Halves, Step, Run, Claims, Holds}

pub data Token : Type 0 where
  Setup : Token
  Status : Token

-- what the asker hears: of the status Ack is its empty data packet
pub data Reply : Type 0 where
  Ack : Reply
  Nak : Reply
  Stall : Reply

pub data Stage : Type 0 where
  AtSetup : Stage
  AtStatus : Stage
  Done : Stage

pub record Line : Type 0 where
  pub stage : Stage  -- of the host; it stays where the host halts
  pub going : Bool  -- the host goes on
  pub has : Bool  -- the device has this request under way
  pub acted : Bool  -- .. and acted on it
  pub acts : ℕ  -- how often it acted since the request's first transaction

-- before the request's first transaction, whatever the device was left as
abbrev pub request_opening : Bool → Bool → Line
request_opening has acted = record { stage = AtSetup; going = true; has = has; acted = acted; acts = 0 }

-- ---- the two halves

abbrev pub token_at : Stage → Token → Type 0
token_at AtSetup a = a ≡ Setup
token_at AtStatus a = a ≡ Status
token_at Done a = ⊥

abbrev pub Is : Line → Token → Type 0
Is s a = token_at s.stage a

pub data Alone (s : Line) : Line → Type 0 where
  goes_or_ends : (b : Bool) → Alone s (record s { going = b })

-- the device takes each SETUP, and acts at the first status that it answers
abbrev pub begun : Line → Line
begun s = record s { has = true; acted = false }

abbrev pub confirmed : Line → Line
confirmed s = record s { acted = true; acts = if s.acted then s.acts else s.acts + 1 }

pub data Works (s : Line) : Token → Reply → Line → Type 0 where
  takes : Works s Setup Ack (begun s)
  confirms : s.has ≡ true → Works s Status Ack (confirmed s)
  refuses : Works s Status Nak s
  stalls : Works s Status Stall s

pub data Quiet (s : Line) : Token → Line → Type 0 where
  unheard : (a : Token) → Quiet s a s
  takes_unheard : Quiet s Setup (begun s)
  confirms_unheard : s.has ≡ true → Quiet s Status (confirmed s)

abbrev pub next : Stage → Stage
next AtSetup = AtStatus
next AtStatus = Done
next Done = Done

pub data Hears (s : Line) : Token → Reply → Line → Type 0 where
  goes_on : (a : Token) → Hears s a Ack (record s { stage = next s.stage })
  waits : (a : Token) → Hears s a Nak s
  halts : (a : Token) → Hears s a Stall (record s { going = false })

-- a lost answer only has the token sent again
abbrev pub Spared : Token → Reply → Type 0
Spared a r = Unit {0}

abbrev pub request_halves : Halves Line Token Reply
request_halves = record { Is = Is; Alone = Alone; Works = Works; Quiet = Quiet; Hears = Hears; Spared = Spared; dead = λ way. Stall }

-- ---- how they stand

pub record HasRequest (s : Line) : Type 0 where
  pub has : s.has ≡ true
  pub acts : ((s.acted ≡ false) × (s.acts ≡ 0)) ⊎ ((s.acted ≡ true) × (s.acts ≡ 1))

-- the device has the request, and acted on it
pub record HasActed (s : Line) : Type 0 where
  pub has : s.has ≡ true
  pub acted : s.acted ≡ true
  pub acts : s.acts ≡ 1

abbrev pub StandsAt : Stage → Line → Type 0
StandsAt AtSetup s = s.acts ≡ 0
StandsAt AtStatus s = HasRequest s
StandsAt Done s = s.acts ≡ 1

abbrev pub AnsweredAt : Stage → Reply → Line → Type 0
AnsweredAt AtSetup Ack s = (s.acts ≡ 0) × (s.has ≡ true) × (s.acted ≡ false)
AnsweredAt AtSetup Nak s = s.acts ≡ 0
AnsweredAt AtSetup Stall s = s.acts ≡ 0
AnsweredAt AtStatus Ack s = HasActed s
AnsweredAt AtStatus Nak s = HasRequest s
AnsweredAt AtStatus Stall s = HasRequest s
AnsweredAt Done r s = ⊥

-- the window is right: the device acted at most once, and once where the request is done
pub record IsRight (s : Line) : Type 0 where
  pub once : (s.acts ≡ 0) ⊎ (s.acts ≡ 1)
  pub done : s.stage ≡ Done → s.acts ≡ 1

abbrev pub request_claims : Claims Line Token Reply
request_claims = record { Stands = λ s. StandsAt s.stage s; Answered = λ s a r. AnsweredAt s.stage r s; Gone = IsRight }

-- ---- what is said of a window

abbrev pub RequestSplit : Type 0
RequestSplit = Split Line Token Reply

abbrev pub KeepsWindow : Type 0
KeepsWindow = (way : Way) (x y : RequestSplit) → Step request_halves way x y → Holds request_halves request_claims way x
    → Holds request_halves request_claims way y

-- whatever happens, and whatever the device was left as
abbrev pub WindowIsRight : Type 0
WindowIsRight = (way : Way) (has acted : Bool) (x : RequestSplit) → Run request_halves way (at_rest (request_opening has acted)) x
    → IsRight x.line
