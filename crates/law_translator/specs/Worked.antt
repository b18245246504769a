-- Plans and their runs, for worked rows.
use Rattle.std.specs.Prelude.{ℕ, ◌==◌, if◌then◌else◌, List, [], ◌∷◌, replicate}
use Rattle.usb_base.specs.declared.packets.DataPart.TheVariants.{Begin, End}
use Rattle.usb_base.specs.declared.packets.Pid.TheVariants.{Data0}
use Rattle.usb_base.specs.declared.packets.Ask.{Ask}
use Rattle.usb_base.specs.declared.packets.Reply.{Reply}
use Rattle.usb_base.specs.declared.packets.Reply.TheVariants.{Bytes}
use Rattle.hub_keys.specs.Keys.{key_of}
use Rattle.tt_pipeline.specs.Answers.{complete_answer}
use Rattle.tt_pipeline.specs.Work.{aged, fresh}
use Rattle.tt_pipeline.specs.Answers.{complete_answer}
use Rattle.tt_pipeline.specs.Worked.{interrupt_in, iso_in, iso_out}
use Rattle.law_translator.specs.Frames.{Event, Start, Work, Replan, Frame, entries_of, run, opening}
use Rattle.claims_world.specs.Plans.{Plan}

-- three interrupts in microframe 0, of 77, 77 and 34 byte-times: 188 in all
abbrev pub full_plan : Plan
full_plan = record {
  keys = key_of (interrupt_in 1 64) ∷ key_of (interrupt_in 2 64) ∷ key_of (interrupt_in 3 21) ∷ [];
  first = λ k. 0;
  times = λ k. if k.ep == 3 then 34 else 77;
}

-- their starts, and a microframe
abbrev pub starts_of : ℕ → List Event → List Event
starts_of stuff events =
    Start (interrupt_in 1 64) [] stuff ∷ Start (interrupt_in 2 64) [] stuff ∷ Start (interrupt_in 3 21) [] stuff ∷ Work [] ∷ events

abbrev pub full_starts : List Event
full_starts = starts_of 0 []

-- and a second one, in which each device answers
abbrev pub run_of : ℕ → List Event
run_of stuff = starts_of stuff (Work (replicate 3 (Bytes Data0 (7 ∷ []))) ∷ [])

abbrev pub full_run : List Event
full_run = run_of 0

-- what the host hears of a key after a run
abbrev pub heard_from : List Event → Frame → Ask → Reply
heard_from events frame ask = complete_answer (key_of ask) (entries_of (run events frame).watched)

abbrev pub heard_after : List Event → Ask → Reply
heard_after events ask = heard_from events (opening full_plan) ask

-- with stuffed bits, of 89, 89 and 39 byte-times, and a third microframe
abbrev pub stuffed_run : List Event
stuffed_run = starts_of 6 (Work (replicate 3 (Bytes Data0 (7 ∷ []))) ∷ Work [] ∷ [])

-- a fourth interrupt is placed in microframe 1 while the frame goes on, and starts there
abbrev pub more_plan : ℕ → Plan
more_plan first = record {
  keys = key_of (interrupt_in 1 64) ∷ key_of (interrupt_in 2 64) ∷ key_of (interrupt_in 3 21) ∷ key_of (interrupt_in 4 64) ∷ [];
  first = λ k. if k.ep == 4 then 1 else first;
  times = λ k. if k.ep == 3 then 34 else 77;
}

abbrev pub replanned_run : List Event
replanned_run =
    starts_of 0 (Replan (more_plan 0) ∷ Start (interrupt_in 4 64) [] 0 ∷ Work [] ∷ Work (replicate 4 (Bytes Data0 (7 ∷ []))) ∷ [])

-- the same three of 77 byte-times each: 231 in all
abbrev pub too_full : Plan
too_full = record { keys = full_plan.keys; first = λ k. 0; times = λ k. 77 }

abbrev pub too_full_run : List Event
too_full_run =
    Start (interrupt_in 1 64) [] 0 ∷ Start (interrupt_in 2 64) [] 0 ∷ Start (interrupt_in 3 64) [] 0 ∷ Work [] ∷ Work [] ∷ []

-- a frame in which an isochronous IN of the last one was kept
abbrev pub kept_over : Frame
kept_over = record {
  plan = full_plan;
  now = 0;
  watched = record { entry = aged (aged (fresh (iso_in 4 1023) [] 0)); gaps = 0 } ∷ [];
}

-- an isochronous IN of 200 bytes in microframes 1 and 2
abbrev pub in_plan : Plan
in_plan = record { keys = key_of (iso_in 1 200) ∷ []; first = λ k. 1; times = λ k. 209 }

abbrev pub in_run : List Event
in_run = Work [] ∷ Start (iso_in 1 200) [] 0 ∷ Work [] ∷ Work (Bytes Data0 (replicate 200 5) ∷ []) ∷ Work [] ∷ []

-- an isochronous OUT of 400 bytes in microframes 1 to 3
abbrev pub out_plan : Plan
out_plan = record { keys = key_of (iso_out Begin 1) ∷ []; first = λ k. 1; times = λ k. 409 }

-- its middle part is lost
abbrev pub out_run : List Event
out_run =
    Work [] ∷ Start (iso_out Begin 1) (replicate 188 1) 0 ∷ Work [] ∷ Work []
    ∷ Start (iso_out End 1) (replicate 24 3) 0 ∷ Work [] ∷ Work [] ∷ []
