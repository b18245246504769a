-- What there is to do at the queue head of an interrupt endpoint, in the microframe f of FRINDEX (EHCI 1.0, 2.3.4, 4.10 and 4.12.2).
--     microframe_of f        the microframe of its frame
--     tag_of f               the frame, as the five bits of a frame tag tell it
--     waits q                a split transaction was started, and complete-splits come (4.12.2.4, Do-Complete)
--     is_missed f q          a microframe of it was missed
--     turn_of f q            what there is to do
--     planned q              its next transaction
--     is_last_of f q         that is the last complete-split of its frame
use Rattle.std.specs.Prelude.{ℕ, ◌/◌, ◌%◌, Bool, true, false, not, ◌&&◌, ◌||◌, ◌==◌, if◌then◌else◌}
use Rattle.usb_base.specs.declared.packets.EpKind.TheVariants.{Interrupt}
use Rattle.qh_qtd.specs.declared.queue_head.Qh.{Qh}
use Rattle.hc_masks.specs.Masks.{has, is_after_first, is_last, lacks}
use Rattle.hc_copy.specs.declared.held.Transaction.{Transaction}
use Rattle.hc_copy.specs.declared.held.Visit.{Visit}
use Rattle.hc_copy.specs.declared.held.Visit.TheVariants as visits
use Rattle.hc_copy.specs.Visits.{visit_of}
use Rattle.hc_copy.specs.Planning.{transaction_of}
use Rattle.hc_interrupt.specs.declared.turns.Turn.{Turn}
use Rattle.hc_interrupt.specs.declared.turns.Turn.TheVariants.{Rest, Work, Miss, Take}

abbrev pub microframe_of : ℕ → ℕ
microframe_of f = f % 8

abbrev pub tag_of : ℕ → ℕ
tag_of f = f / 8 % 32

-- ---- in Do-Complete

-- below high speed, in Do-Complete, and its overlay is active and not halted
abbrev pub waits : Qh → Bool
waits q = not (q.eps == 2) && (q.token.split_state && (q.token.active && not q.token.halted))

-- The three tests of each visit in Do-Complete (4.12.2.4.1): the split transaction began in another frame; it can't have begun in this
-- one, which its microframe comes after only; or a microframe of the C-mask before this one has had no complete-split.
abbrev pub is_missed : ℕ → Qh → Bool
is_missed f q = not (q.frame_tag == tag_of f) || (not (is_after_first q.smask (microframe_of f)) || lacks q.cmask q.c_prog (microframe_of f))

-- by whether one was missed, and whether this microframe stands in the C-mask
abbrev pub complete_turn : Bool → Bool → Turn
complete_turn true _ = Miss
complete_turn false true = Work
complete_turn false false = Rest

-- ---- each turn

-- else it works in the microframes of its S-mask (4.10)
abbrev pub start_turn : Visit → Turn
start_turn visits.Rest = Rest
start_turn visits.Work = Work
start_turn (visits.Take link) = Take link

abbrev pub turn_of : ℕ → Qh → Turn
turn_of f q =
    if waits q then complete_turn (is_missed f q) (has q.cmask (microframe_of f))
    else start_turn (visit_of (has q.smask (microframe_of f)) q)

-- ---- the transaction

abbrev pub planned : Qh → Transaction
planned q = transaction_of Interrupt q

abbrev pub is_last_of : ℕ → Qh → Bool
is_last_of f q = is_last q.cmask (microframe_of f)
