-- The whole: at the opening, after each event and after each accepted command.
use Rattle.std.proofs.Common.{◌≡◌, ℕ, ◌%◌, ◌≤◌, true, false, slice_get, Option, Some, Ok, inl, inr, ap, refl, ◌∙◌}
use Rattle.std.specs.Prelude.{not, is_some}
use Rattle.std.proofs.lemmas.Bool.{false≢true}
use Rattle.usb_base.specs.declared.commands.Cmd.{Cmd}
use Rattle.word_mem.specs.Memory.{Mem}
use Rattle.drv_table.specs.declared.content.Reserve.{Reserve}
use Rattle.drv_table.specs.declared.content.Command.{Command}
use Rattle.drv_table.specs.declared.content.Command.TheVariants as unfinished
use Rattle.drv_table.specs.declared.rows.DriverRow.{DriverRow}
use Rattle.drv_table.specs.declared.rows.DriverRow.TheVariants as rows
use Rattle.drv_table.specs.DriverContent.{DriverContent}
use Rattle.drv_table.specs.Opening.{opening}
use Rattle.drv_table.specs.Accepting.{Offered}
use Rattle.drv_table.specs.Offers.{offered}
use Rattle.drv_table.specs.Parts.{Parts}
use Rattle.drv_table.specs.Rows.{driver_row, after_driver_row}
use Rattle.drv_table.specs.Commands.{events_of, links}
use Rattle.law_driver.specs.run_owners.Due.{IsDue}
use Rattle.law_driver.proofs.lemmas.run_owners.Commands.{each_command_has_its_reason}
use Rattle.law_driver.proofs.lemmas.run_owners.Reasons.{each_event_is_due}
use Rattle.law_driver.specs.in_place.InPlace.{IsSound}
use Rattle.law_driver.proofs.lemmas.ring_members.Events.{chain_never, iso_never, unchain_never}
use Rattle.law_driver.specs.iso_frames.Frames.{AreInFrames}
use Rattle.claims_driver.specs.DueMembers.{HasOneEach}
use Rattle.law_driver.proofs.lemmas.iso_frames.Due.{an_endpoint_has_one_descriptor_a_frame}
use Rattle.claims_driver.specs.FrameWords.{ListStands}
use Rattle.law_frame_list.specs.list_driver.Keeping.{KeepsItsList}
use Rattle.law_frame_list.proofs.lemmas.list_stands.Listing.{a_new_list_stands}
use Rattle.law_frame_list.specs.list_aside.Elsewhere.{links_now, is_elsewhere}
use Rattle.law_frame_list.proofs.lemmas.list_aside.Elsewhere.{events_elsewhere_keep_it_standing}
use Rattle.law_frame_list.specs.list_steps.Steps.{IsLinkingStep}
use Rattle.law_frame_list.proofs.lemmas.list_steps.Stepping.{steps_of_interrupt_endpoints_keep_it_standing}
use Rattle.law_frame_list.proofs.lemmas.list_rows.Mending.{mends_keep_it_standing}
use Rattle.law_frame_list.proofs.lemmas.list_rows.Owed.{opening_aside, event_aside, command_aside}
use Rattle.law_frame_list.proofs.lemmas.list_rows.Unlinked.{unlinks_keep_it_standing}
use Rattle.law_frame_list.proofs.lemmas.list_queued.Linked.{link_stands}
use Rattle.law_frame_list.proofs.lemmas.list_queued.Lent.{lend_stands}
use Rattle.law_frame_list.proofs.lemmas.list_opens.Commands.{commands_keep_it_standing}
use Rattle.law_frame_list.proofs.lemmas.list_driver.Queueing.{AreQueued, event_to_link, event_leading, accepted_queued}

abbrev Stays : Parts → Type 0
Stays p = ListStands (after_driver_row (driver_row p) p).memory (after_driver_row (driver_row p) p).driver

-- ---- a store

elsewhere : (p : Parts) (r : DriverRow) → driver_row p ≡ r → is_elsewhere p.driver.command r ≡ true → IsSound p.memory p.driver → KeepsItsList p.memory p.driver → Stays p
elsewhere p r is on sound old = events_elsewhere_keep_it_standing p (ap (is_elsewhere p.driver.command) is ∙ on) sound old.list

-- of a command that links nothing
aside_store : (p : Parts) (c : Command) (b at v : ℕ) → driver_row p ≡ rows.Store b at v → p.driver.command ≡ Some c → links c ≡ false → IsSound p.memory p.driver → KeepsItsList p.memory p.driver → Stays p
aside_store p c b at v is command off sound old = elsewhere p (rows.Store b at v) is (ap (λ (o : Option Command). not (links_now o)) command ∙ ap not off) sound old

next_stored : (p : Parts) (c : Command) (b at v : ℕ) → driver_row p ≡ rows.Store b at v → p.driver.command ≡ Some c → slice_get (events_of c) p.driver.made ≡ Some (rows.Store b at v) → IsSound p.memory p.driver → KeepsItsList p.memory p.driver → Stays p
next_stored p (unfinished.Open q) b at v is here there sound old = aside_store p (unfinished.Open q) b at v is here refl sound old
next_stored p (unfinished.Publish a words) b at v is here there sound old = aside_store p (unfinished.Publish a words) b at v is here refl sound old
next_stored p (unfinished.Unlink e a link) b at v is here there sound old = aside_store p (unfinished.Unlink e a link) b at v is here refl sound old
next_stored p unfinished.Chain b at v is here there sound old = absurd (chain_never p.driver.made b at v there)
next_stored p (unfinished.Iso e t n) b at v is here there sound old = absurd (iso_never e t n p.driver.made b at v there)
next_stored p (unfinished.Unchain e) b at v is here there sound old = absurd (unchain_never e p.driver.made b at v there)

-- of the frame list
link_stored : (p : Parts) (c : Command) → IsLinkingStep p c → IsSound p.memory p.driver → HasOneEach p.driver → KeepsItsList p.memory p.driver → Stays p
link_stored p unfinished.Chain step sound one old = steps_of_interrupt_endpoints_keep_it_standing p unfinished.Chain step (inl refl) sound.stands sound.shape sound.owners sound.listed old.list
link_stored p (unfinished.Iso e t n) step sound one old = link_stands p e t n step sound one old.leading old.list
link_stored p (unfinished.Unchain e) step sound one old = steps_of_interrupt_endpoints_keep_it_standing p (unfinished.Unchain e) step (inr (e, refl)) sound.stands sound.shape sound.owners sound.listed old.list
link_stored p _ step sound one old = absurd (false≢true step.links)

stored : (p : Parts) (b at v : ℕ) → driver_row p ≡ rows.Store b at v → IsDue p (rows.Store b at v) → IsSound p.memory p.driver → HasOneEach p.driver → KeepsItsList p.memory p.driver → Stays p
stored p b at v is (inl next) sound one old = next_stored p next.command b at v is next.unfinished next.next sound old
stored p b at v is (inr link) sound one old = link_stored p link.command (record { unfinished = link.unfinished; links = link.links; late = link.late }) sound one old

-- ---- any row

row_stands : (p : Parts) (r : DriverRow) → driver_row p ≡ r → IsDue p r → IsSound p.memory p.driver → HasOneEach p.driver → KeepsItsList p.memory p.driver → Stays p
row_stands p (rows.Store b at v) is due sound one old = stored p b at v is due sound one old
row_stands p (rows.Mend w) is due sound one old = mends_keep_it_standing p w is sound old.mends old.list
row_stands p rows.LendDescriptors is due sound one old = lend_stands p is sound one old.to_link old.list
row_stands p (rows.Unlink t) is due sound one old = unlinks_keep_it_standing p t is sound old.list
row_stands p row is due sound one old = elsewhere p row is refl sound old

pub events_keep_the_list : (p : Parts) → IsSound p.memory p.driver → AreInFrames p.driver → KeepsItsList p.memory p.driver → KeepsItsList (after_driver_row (driver_row p) p).memory (after_driver_row (driver_row p) p).driver
events_keep_the_list p sound frames old =
    let one : HasOneEach p.driver = an_endpoint_has_one_descriptor_a_frame p.driver sound.owners sound.listed frames in
    record {
      list = row_stands p (driver_row p) refl (each_event_is_due p) sound one old;
      mends = event_aside p sound.owners old.mends;
      to_link = event_to_link p sound.listed old.to_link;
      leading = event_leading p sound one old.list old.to_link old.leading;
    }

pub commands_keep_the_list : (d : DriverContent) (m : Mem) (cmd : Cmd) (o : Offered) → offered d m cmd ≡ Ok o → IsSound m d → KeepsItsList m d → KeepsItsList o.memory o.driver
commands_keep_the_list d m cmd o is sound old =
    let q : AreQueued o.memory o.driver = accepted_queued d m o (each_command_has_its_reason d m cmd o is) sound.listed in
    record {
      list = commands_keep_it_standing d m cmd o is sound.stands sound.shape sound.owners sound.listed old.list;
      mends = command_aside d m cmd o is old.mends;
      to_link = q.to_link;
      leading = q.leading;
    }

pub a_new_driver_keeps_its_list : (n : ℕ) (room : Reserve) → 2048 ≤ n → n ≤ 262144 → n % 1024 ≡ 0 → KeepsItsList (opening n room).memory (opening n room).driver
a_new_driver_keeps_its_list n room many few whole = record {
  list = a_new_list_stands n room many few whole;
  mends = opening_aside n room;
  to_link = λ e f c is made. absurd (false≢true (ap is_some is));
  leading = λ e f c is made. absurd (false≢true (ap is_some is));
}
