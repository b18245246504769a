-- An event over both walks leaves a driver.
use Rattle.std.proofs.Common.{ℕ, Bool, List}
use Rattle.usb_base.specs.declared.packets.Ask.{Ask}
use Rattle.usb_base.specs.declared.packets.Reply.{Reply}
use Rattle.law_driver.proofs.lemmas.in_place.Elsewhere.{the_controller_keeps_all_in_place}
use Rattle.law_descriptors.specs.frame_keeps.Leaving.{LeavesStructures}
use Rattle.law_descriptors.proofs.lemmas.kept_frames.Both.{events_leave_words}
use Rattle.law_descriptors.specs.list_beside.Laws.{EventsLeaveDriver}
use Rattle.law_descriptors.proofs.lemmas.list_beside.Linking.{list_is_kept, written_elsewhere}

pub events_leave_driver : {W : Type 0} (begins : W → ℕ → Bool → W → Type 0) (transacts : W → Ask → List ℕ → Reply → W → Type 0) → EventsLeaveDriver begins transacts
events_leave_driver begins transacts base member met parts all hand frame c d wire new after k told aligned row e =
    let leaves : LeavesStructures all c.memory new.memory = events_leave_words begins transacts base member met all hand frame c wire new after k aligned row e in
    let elsewhere = written_elsewhere base parts all c.memory new.memory d told leaves in
    record { elsewhere = elsewhere; place = the_controller_keeps_all_in_place d c.memory new.memory elsewhere told.place; list = list_is_kept base parts all c.memory new.memory d told leaves }
