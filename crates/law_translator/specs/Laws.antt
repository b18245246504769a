-- What is stated of runs of a translator's pipeline (USB 2.0, 11.18).
--     KeepsUpWithPlans     over each run whose starts follow a plan that fits, each entry has had what is laid for it
--     KeepsUpWithBits      with stuffed bits it has had it one microframe later
--     AnswersInTime        the results are there by the last complete-splits
--     AnswersStay          the work of a microframe leaves each answer that is there
--     IsFunctional         a wire answers and changes by functions of its content
--     WorksByFunctions     over such a wire the work is a function of its content too
use Rattle.std.specs.Prelude.{◌≡◌, ℕ, List}
use Rattle.usb_base.specs.declared.packets.Ask.{Ask}
use Rattle.usb_base.specs.declared.packets.Reply.{Reply}
use Rattle.tt_pipeline.specs.Working.{budget, Works, entries_after, wire_worked}
use Rattle.tt_pipeline.specs.declared.entry.Entry.{Entry}
use Rattle.law_translator.specs.Frames.{Event, worked_all, run, opening}
use Rattle.law_translator.specs.Plans.{Fits}
use Rattle.claims_world.specs.Plans.{Plan}
use Rattle.law_translator.specs.Premises.{FairAll, AllStay}
use Rattle.claims_world.specs.KeepsUp.{AllKeepUp, AllKeepUpStuffed}
use Rattle.claims_world.specs.Answered.{AllAnswered}

abbrev pub KeepsUpWithPlans : Type 0
KeepsUpWithPlans = (plan : Plan) → Fits plan → (events : List Event) → FairAll 0 events (opening plan)
    → AllKeepUp (run events (opening plan)).plan (run events (opening plan)).now (run events (opening plan)).watched

abbrev pub KeepsUpWithBits : Type 0
KeepsUpWithBits = (plan : Plan) → Fits plan → (events : List Event) → FairAll 6 events (opening plan)
    → AllKeepUpStuffed (run events (opening plan)).plan (run events (opening plan)).now (run events (opening plan)).watched

-- with at most so many stuffed bits in 36, so many microframes after the last laid one
abbrev pub AnswersInTime : ℕ → ℕ → Type 0
AnswersInTime most late = (plan : Plan) → Fits plan → (events : List Event) → FairAll most events (opening plan)
    → AllAnswered late (run events (opening plan)).plan (run events (opening plan)).now (run events (opening plan)).watched

abbrev pub AnswersStay : Type 0
AnswersStay = (plan : Plan) → Fits plan → (events : List Event) → FairAll 6 events (opening plan) → (replies : List Reply)
    → AllStay (run events (opening plan)).watched (worked_all budget replies (run events (opening plan)).watched)

abbrev pub IsFunctional : {W : Type 0} → (W → Ask → List ℕ → Reply → W → Type 0) → (W → Ask → List ℕ → Reply) → (W → Ask → List ℕ → W) → Type 0
IsFunctional {W} transacts reply_of wire_after =
    (w : W) → (ask : Ask) → (out : List ℕ) → (reply : Reply) → (v : W) → transacts w ask out reply v
    → (reply ≡ reply_of w ask out) × (v ≡ wire_after w ask out)

abbrev pub WorksByFunctions : {W : Type 0} → (W → Ask → List ℕ → Reply → W → Type 0) → Type 0
WorksByFunctions {W} transacts =
    (reply_of : W → Ask → List ℕ → Reply) → (wire_after : W → Ask → List ℕ → W) → IsFunctional transacts reply_of wire_after
    → (room : ℕ) → (es : List Entry) → (before : W) → (after : W) → (new : List Entry) → Works transacts room es before after new
    → (new ≡ entries_after reply_of wire_after room es before) × (after ≡ wire_worked reply_of wire_after room es before)
