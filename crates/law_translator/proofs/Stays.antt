-- An interrupt's answer that is there stays there.
use Rattle.std.proofs.Common.{◌≡◌, ℕ, ◌-◌, ◌≤◌, Bool, true, false, if◌then◌else◌, List, [], ◌∷◌, refl, ap, arith}
use Rattle.std.specs.Prelude.{nat_le}
use Rattle.std.proofs.lemmas.Bool.{leb-true, le-leb}
use Rattle.law_common.proofs.Booleans.{and_none}
use Rattle.usb_base.specs.declared.packets.EpKind.TheVariants.{Interrupt}
use Rattle.usb_base.specs.declared.packets.Reply.{Reply}
use Rattle.tt_pipeline.specs.declared.entry.Brought.{Brought}
use Rattle.tt_pipeline.specs.declared.entry.Entry.{Entry}
use Rattle.tt_pipeline.specs.declared.entry.Exchange.{Exchange}
use Rattle.tt_pipeline.specs.declared.entry.Exchange.TheVariants.{Ahead, Made}
use Rattle.tt_pipeline.specs.declared.rows.AnswerRow.TheVariants.{NotYet, Result}
use Rattle.hub_keys.specs.Asks.{stuffed}
use Rattle.tt_pipeline.specs.Answers.{answer_row, answer_of, result_at, row_at}
use Rattle.tt_pipeline.specs.Work.{called, called_for, is_due, is_ahead, moved, answered}
use Rattle.tt_pipeline.specs.Working.{used_at, first_reply, later_replies}
use Rattle.law_translator.specs.Plans.{Fits}
use Rattle.claims_world.specs.Plans.{Plan}
use Rattle.law_translator.specs.Frames.{Event, worked_one, worked_all, run, opening}
use Rattle.claims_world.specs.Watched.{Watched}
use Rattle.law_translator.specs.Premises.{FairAll, Stays, AllStay}
use Rattle.law_translator.proofs.Owing.{Grew, same, more, Coming, not_both}
use Rattle.law_translator.proofs.Work.{All}
use Rattle.law_translator.proofs.KeepsStuffed.{stuffed_keeps_all, stuffed_opening}

is_made : (x : Exchange) (e : Entry) → row_at x e ≡ Result → is_ahead x ≡ false
is_made (Ahead sent) e h = absurd cc
is_made (Made reply) e h = refl

only : (b : Bool) → (if b then Result else NotYet) ≡ Result → b ≡ true
only true h = refl
only false h = absurd cc

worked_out : (x : Exchange) (e : Entry) → e.ask.kind ≡ Interrupt → row_at x e ≡ Result → nat_le (called_for e) e.done ≡ true
worked_out (Ahead sent) e kind h = absurd cc
worked_out (Made reply) e kind h = rw kind (only _ (rw kind at h))

there : (x : Exchange) (e : Entry) → is_ahead x ≡ false → e.ask.kind ≡ Interrupt → nat_le (called_for e) e.done ≡ true
    → row_at x e ≡ Result
there (Ahead sent) e made kind all = absurd cc
there (Made reply) e made kind all = let all' = rw kind at all in rw (kind, all') refl

unchanged : (a b : Brought) (p : Plan) (w : Watched) (g : ℕ) → a.whole ≡ true → Grew p w.entry.key w.entry.ask a b g → b ≡ a
unchanged a b p w g whole (same is) = is
unchanged a b p w g whole (more lacked _ _ _) = absurd (not_both a whole lacked)

stay_moved : (b : Bool) (reply : Reply) (m e : Entry) → b ≡ false → answer_row m ≡ Result → answer_row e ≡ Result
    → m.exchange ≡ e.exchange → (answer_row (answered b reply m) ≡ Result) × (answer_of (answered b reply m) ≡ answer_of e)
stay_moved true reply m e off row before alike = absurd cc
stay_moved false reply m e off row before alike =
    (row, rw (row, before) (ap (λ (x : Exchange). result_at x) alike))

stay_one : (p : Plan) (now room : ℕ) (reply : Reply) (w : Watched) → Coming 6 p now w → Stays w (worked_one room reply w)
stay_one p now room reply w o = λ kind whole row.
    let m : Entry = moved room w.entry in
    let made : is_ahead w.entry.exchange ≡ false = is_made w.entry.exchange w.entry row in
    let b : w.entry.before ≡ w.entry.heard = unchanged w.entry.heard w.entry.before p w _ whole o.grew in
    let c : called_for m ≡ called_for w.entry = ap (λ (x : Brought). stuffed (called w.entry.ask x) w.entry.stuff) b in
    let le : called_for w.entry ≤ w.entry.done = leb-true _ _ (worked_out w.entry.exchange w.entry kind row) in
    let all : nat_le (called_for m) m.done ≡ true = le-leb _ _ (omega arith) in
    stay_moved (is_due m) reply m w.entry (and_none (is_ahead w.entry.exchange) _ made) (there w.entry.exchange m made kind all) row refl

stay_all : (p : Plan) (now room : ℕ) (replies : List Reply) (ws : List Watched) → All (Coming 6 p now) ws
    → AllStay ws (worked_all room replies ws)
stay_all p now room replies [] owe = tt
stay_all p now room replies (w ∷ ws) owe =
    (stay_one p now room (first_reply replies) w owe.0, stay_all p now (room - used_at room w.entry) (later_replies replies) ws owe.1)

pub answers_stay : (plan : Plan) → Fits plan → (events : List Event) → FairAll 6 events (opening plan) → (replies : List Reply)
    → AllStay (run events (opening plan)).watched (worked_all 188 replies (run events (opening plan)).watched)
answers_stay plan fits events fair replies =
    stay_all _ _ 188 replies _ (stuffed_keeps_all events (opening plan) (stuffed_opening plan fits) fair).comes
