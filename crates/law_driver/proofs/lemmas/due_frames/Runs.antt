-- Each move of a run keeps the frame list and the plan in step, so they are at each moment.
use Rattle.std.proofs.Common.{◌≡◌, ℕ, ◌%◌, ◌≤◌, List, [], ◌∷◌, Result, Ok, Err, refl}
use Rattle.usb_base.specs.declared.commands.Cmd.{Cmd}
use Rattle.usb_base.specs.declared.reports.OfferError.{OfferError}
use Rattle.word_mem.specs.Memory.{Mem}
use Rattle.drv_table.specs.declared.content.Reserve.{Reserve}
use Rattle.drv_table.specs.DriverContent.{DriverContent}
use Rattle.drv_table.specs.Accepting.{Offered}
use Rattle.drv_table.specs.Offers.{offered, IsOffered}
use Rattle.drv_table.specs.Opening.{opening}
use Rattle.drv_table.specs.Parts.{Parts}
use Rattle.law_admission.proofs.Budgets.{opening_keeps_budgets, commands_keep_budgets, events_keep_budgets}
use Rattle.law_driver.proofs.lemmas.planned_endpoints.Laws.{opening_plan_is_of_its_endpoints, commands_keep_the_plan, events_keep_the_plan}
use Rattle.law_driver.proofs.lemmas.planned_endpoints.Due.{queue_heads_of_a_frame_are_due, a_frame_has_all_queue_heads_that_are_due}
use Rattle.law_driver.proofs.lemmas.ordered_list.Commands.{opening_list_is_in_order, commands_keep_the_order}
use Rattle.law_driver.proofs.lemmas.ordered_list.Events.{events_keep_the_order}
use Rattle.law_driver.specs.in_place.Run.{Move, Offer, Event, Controller, accepted, moved, IsAllowed, run, AreAllowed}
use Rattle.law_driver.proofs.lemmas.in_place.Laws.{commands_keep_all_in_place, events_keep_all_in_place}
use Rattle.law_driver.proofs.lemmas.in_place.Elsewhere.{the_controller_keeps_all_in_place}
use Rattle.law_driver.proofs.lemmas.in_place.Opened.{opening_is_in_place}
use Rattle.law_driver.specs.due_frames.Scheduled.{IsScheduled, StandsForPlan, StaysScheduled}

abbrev IsOn : Parts → Type 0
IsOn p = IsScheduled p.memory p.driver

answered : (p : Parts) (cmd : Cmd) (r : Result Offered OfferError) → IsOffered p.driver.room cmd → offered p.driver p.memory cmd ≡ r → IsOn p → IsOn (accepted p r)
answered p cmd (Ok o) ok is h = record {
  place = commands_keep_all_in_place p.driver p.memory cmd o ok h.place is;
  ordered = commands_keep_the_order p.driver p.memory cmd o h.ordered is;
  planned = commands_keep_the_plan p.driver p.memory cmd o h.planned is;
  budgets = commands_keep_budgets p.driver p.memory cmd o ok h.budgets is;
}
answered p cmd (Err why) ok is h = h

move_kept : (p : Parts) (move : Move) → IsAllowed p move → IsOn p → IsOn (moved p move)
move_kept p (Offer cmd) ok h = answered p cmd (offered p.driver p.memory cmd) ok refl h
move_kept p Event ok h = record {
  place = events_keep_all_in_place p h.place;
  ordered = events_keep_the_order p h.ordered;
  planned = events_keep_the_plan p h.place.sound.owners h.planned;
  budgets = events_keep_budgets p h.budgets;
}
move_kept p (Controller registers memory) ok h = record {
  place = the_controller_keeps_all_in_place p.driver p.memory memory ok h.place;
  ordered = h.ordered;
  planned = h.planned;
  budgets = h.budgets;
}

run_kept : (p : Parts) (moves : List Move) → AreAllowed p moves → IsOn p → IsOn (run p moves)
unfolding run AreAllowed
run_kept p [] ok h = h
run_kept p (move ∷ moves) ok h = run_kept (moved p move) moves ok.1 (move_kept p move ok.0 h)

pub a_frame_stands_for_the_plan : (m : Mem) (d : DriverContent) (f : ℕ) → IsScheduled m d → StandsForPlan d f
a_frame_stands_for_the_plan m d f h = record {
  due = queue_heads_of_a_frame_are_due d f h.place.sound.owners h.place.sound.listed h.planned h.ordered;
  all = a_frame_has_all_queue_heads_that_are_due d f h.place.sound.owners h.place.queues h.ordered;
  fits = h.budgets.fits;
}

pub frames_stand_for_the_plan_at_each_moment : (n : ℕ) (room : Reserve) (moves : List Move) (f : ℕ) → 2048 ≤ n → n ≤ 262144 → n % 1024 ≡ 0 → StaysScheduled (opening n room) moves f
frames_stand_for_the_plan_at_each_moment n room moves f least most pages ok =
    let end : Parts = run (opening n room) moves in
    a_frame_stands_for_the_plan end.memory end.driver f
    (run_kept (opening n room) moves ok (record {
      place = opening_is_in_place n room least most pages;
      ordered = opening_list_is_in_order n room;
      planned = opening_plan_is_of_its_endpoints n room;
      budgets = opening_keeps_budgets n room;
    }))
