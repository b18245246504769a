-- What there is to do at a queue head.
use Rattle.std.proofs.Common.{◌≡◌, ℕ, Bool, true, false, if◌then◌else◌, refl}
use Rattle.link_words.specs.Links.{qtd_link_of}
use Rattle.qh_qtd.specs.declared.queue_head.Qh.{Qh}
use Rattle.hc_masks.specs.Masks.{has}
use Rattle.hc_copy.specs.Visits.{next_pointer, visit_at, visit_of}
use Rattle.hc_interrupt.specs.declared.turns.Turn.{Turn}
use Rattle.hc_interrupt.specs.declared.turns.Turn.TheVariants as turns
use Rattle.hc_interrupt.specs.Turns.{microframe_of, waits, is_missed, complete_turn, start_turn, turn_of}
use Rattle.law_frames.proofs.QueueBacks.{waits_active}

pub data TurnOf (x : Qh) : Turn → Type 0 where
  rests : TurnOf x turns.Rest
  works : x.token.active ≡ true → TurnOf x turns.Work
  goes_on : x.token.halted ≡ false → x.token.active ≡ false → TurnOf x (turns.Take (qtd_link_of (next_pointer x)))
  misses : TurnOf x turns.Miss

start_found : (x : Qh) (may halted active : Bool) → x.token.halted ≡ halted → x.token.active ≡ active → TurnOf x (start_turn (visit_at may halted active (qtd_link_of (next_pointer x))))
start_found x false halted active h a = rests
start_found x true true active h a = rests
start_found x true false true h a = works a
start_found x true false false h a = goes_on h a

-- a complete-split comes, or one was missed
complete_found : (x : Qh) (missed has_it : Bool) → x.token.active ≡ true → TurnOf x (complete_turn missed has_it)
complete_found x true has_it on = misses
complete_found x false true on = works on
complete_found x false false on = rests

found_at : (f : ℕ) (x : Qh) (b : Bool) → waits x ≡ b → TurnOf x (if b then complete_turn (is_missed f x) (has x.cmask (microframe_of f)) else start_turn (visit_of (has x.smask (microframe_of f)) x))
found_at f x true is = complete_found x (is_missed f x) (has x.cmask (microframe_of f)) (waits_active x is)
found_at f x false is = start_found x (has x.smask (microframe_of f)) x.token.halted x.token.active refl refl

pub turn_found : (f : ℕ) (x : Qh) → TurnOf x (turn_of f x)
turn_found f x = found_at f x (waits x) refl
