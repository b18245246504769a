-- What stands of control queues is left by the controller, by commands and by rows that touch no structure.
use Rattle.std.proofs.Common.{◌≡◌, ℕ, ◌*◌, Bool, true, false, ◌||◌, ◌==◌, List, [], ◌∷◌, ◌++◌, length, slice_get, Some, None, ap, refl, sym, subst, ◌∙◌, ⊎_elim}
use Rattle.std.proofs.lemmas.Bool.{false≢true}
use Rattle.law_world.proofs.Common2.{idle_there}
use Rattle.law_queues.proofs.Common.{none_open}
use Rattle.law_common.proofs.Booleans.{less_met}
use Rattle.law_common.proofs.Lists.{push_which}
use Rattle.usb_base.specs.declared.commands.Cmd.{Cmd}
use Rattle.usb_base.specs.declared.commands.Cmd.TheVariants as commands
use Rattle.usb_base.specs.declared.endpoints.EpDesc.{EpDesc}
use Rattle.usb_base.specs.declared.packets.Ask.{Ask}
use Rattle.usb_base.specs.declared.packets.Reply.{Reply}
use Rattle.word_mem.specs.Memory.{Mem}
use Rattle.link_words.specs.Links.{qtd_link_of}
use Rattle.qh_qtd.specs.declared.qtd.Qtd.{Qtd}
use Rattle.mem_runs.specs.Book.{Holding}
use Rattle.drv_table.specs.declared.content.Command.TheVariants as unfinished
use Rattle.drv_table.specs.declared.content.Endpoint.{Endpoint}
use Rattle.drv_table.specs.declared.rows.DriverRow.{DriverRow}
use Rattle.drv_table.specs.declared.rows.DriverRow.TheVariants as rows
use Rattle.drv_table.specs.DriverContent.{DriverContent}
use Rattle.drv_table.specs.Accepting.{Offered}
use Rattle.drv_table.specs.Offers.{new_endpoint, with_queued, accepted_open}
use Rattle.drv_table.specs.CancelOffers.{first_end, accepted_cancel}
use Rattle.drv_table.specs.Parts.{Parts}
use Rattle.drv_table.specs.Rows.{driver_row, after_driver_row}
use Rattle.law_driver.specs.endpoint_lives.Lives.{is_one_of}
use Rattle.law_driver.specs.run_owners.Accepts.{Opens, Transfers, Cancels}
use Rattle.law_driver.specs.chained_transfers.Asynchronous.{AcceptsAsynchronous}
use Rattle.law_driver.proofs.lemmas.chained_transfers.Accepting.{asynchronous_command_is_accepted}
use Rattle.law_structures.specs.lent_structures.Structures.{Structures, StructureSets}
use Rattle.law_ring.specs.Front.{LinksRise, HasFront}
use Rattle.law_ring.specs.Halted.{HaltStops}
use Rattle.law_ring.proofs.Walking.{walk_keeps_halts}
use Rattle.hc_core.specs.Controller.{walk_place}
use Rattle.law_controller.specs.controlled_streams.Control.{ControlEffect, a_microframe, a_step}
use Rattle.law_controller.specs.controlled_streams.Kept.{Keeps}
use Rattle.law_controller.proofs.lemmas.controlled_streams.Events.{control_keeps}
use Rattle.law_queues.specs.mended_heads.Standing.{is_beside}
use Rattle.law_queues.specs.mended_heads.Waiting.{MendsStand}
use Rattle.law_queues.proofs.lemmas.mended_heads.Content.{any_one, OwesAlike, alike_same, owed_on}
use Rattle.law_queues.proofs.lemmas.mended_heads.Standing.{new_driver_owes_none, walk_keeps_mends, stand_on, keeps_same, commands_keep_mends, rows_keep_mends}
use Rattle.law_world.specs.steps.control_queues.Beside.{NewDriverControls, ControllerKeepsControls, SameKeepControls, CommandsKeepControls, touches_none, SilentKeepsControls}
use Rattle.law_world.proofs.lemmas.steps.lemmas.control_queues.Alike.{ThereAlike, near_there, same_there, told_alike, stand_by, stand_still}

pub new_driver_controls : NewDriverControls
new_driver_controls n room parts order out = record {
  rises = λ e x here there. absurd (cc);
  sorted = λ e x here there. absurd (cc);
  stops = λ e x here met. absurd (cc);
  mends = new_driver_owes_none n room parts out;
}

-- ---- the controller

-- it changes no link
rises_still : (order : ℕ → ℕ) (part now : Structures) → Keeps part now → LinksRise order part → LinksRise order now
rises_still order part now keeps r = record {
  next = λ a u b is to. let was = keeps.alters.element_before a u is in r.next a was.qtd b was.here (ap (λ (t : Qtd). qtd_link_of t.next) (sym was.after.is) ∙ to);
  alternate = λ a u b is to. let was = keeps.alters.element_before a u is in r.alternate a was.qtd b was.here (ap (λ (t : Qtd). qtd_link_of t.alternate) (sym was.after.is) ∙ to);
}

pub controller_keeps_controls : {W : Type 0} (begins : W → ℕ → Bool → W → Type 0) (transacts : W → Ask → List ℕ → Reply → W → Type 0) → ControllerKeepsControls begins transacts
controller_keeps_controls begins transacts base member parts hand c wire after now later d order out controlled effect fronts k =
    let keeps = control_keeps begins transacts base member parts hand c wire after now later controlled effect in
    stand_by d d parts now order order out out (λ i x here there. record { endpoint = x; here = here; there = there; queue = refl; met = λ m. m })
    (λ i x here there r. rises_still (order (32 * x.queue)) (parts (32 * x.queue)) (now (32 * x.queue)) (keeps (32 * x.queue)) r) (λ i x here there s. s)
    (λ i x here met s. stops effect (order (32 * x.queue)) (fronts i x here met).front (out (32 * x.queue)) (32 * x.queue) (fronts i x here met).has s) (mends effect) k
  where
    stops : ControlEffect begins transacts parts hand wire after now later → (f : ℕ → ℕ) (front : ℕ) (es : List ℕ) (n : ℕ) → HasFront f front es n (parts n) → HaltStops f es n (parts n) → HaltStops f es n (now n)
    stops (a_microframe b) f front es n has s = subst (λ (ps : StructureSets). HaltStops f es n (ps n)) (sym b.parts_stay) s
    stops (a_step w) f front es n has s =
        walk_keeps_halts transacts member parts hand (walk_place c).walk.reply wire after now later w.kind f front es n controlled.ring.members controlled.ring.in_hand w.effect has s

    mends : ControlEffect begins transacts parts hand wire after now later → MendsStand d now out
    mends (a_microframe b) = subst (λ (ps : StructureSets). MendsStand d ps out) (sym b.parts_stay) k.mends
    mends (a_step w) = walk_keeps_mends transacts member parts hand (walk_place c).walk.reply wire after now later w.kind d out controlled.ring.members controlled.ring.in_hand w.effect k.mends

-- ---- contents alike

pub same_keep_controls : SameKeepControls
same_keep_controls d f parts order out ends transfers mends command waiting rung k =
    let alike : OwesAlike any_one d f = alike_same any_one d f mends ends transfers in
    stand_still d f parts order out (same_there d f ends (λ q is. command ∙ is) waiting rung)
    (stand_on d f parts parts out out mends (λ s owed. owed_on any_one d f s alike.owed owed tt) (λ s owed. keeps_same parts out (32 * s.queue)) k.mends) k

-- ---- commands

opened_there : (d : DriverContent) (desc : EpDesc) (h : Holding) (queue dummy : ℕ) → d.command ≡ None → ThereAlike d (accepted_open d desc h queue dummy).driver
opened_there d desc h queue dummy idle i x here there =
    let new = new_endpoint desc queue dummy in
    ⊎_elim
    (λ (was : slice_get d.endpoints i ≡ Some x).
    let t = idle_there d x idle there.kept in
    record { endpoint = x; here = was; there = t; queue = refl; met = λ m. record { there = t; near = m.near } })
    (λ (is : (i ≡ length d.endpoints) × (x ≡ new)). absurd (there.linked (ap (λ (y : Endpoint). Some (unfinished.Open y.queue)) (sym is.1))))
    (push_which d.endpoints new i x here)

open_alike : (d : DriverContent) (m : Mem) (o : Offered) → Opens d m o → ThereAlike d o.driver
open_alike d m o w = subst (λ (q : Offered). ThereAlike d q.driver) (sym w.is) (opened_there d w.desc w.holding_after _ _ w.idle)

asked_alike : (d : DriverContent) (m : Mem) (o : Offered) → Transfers d m o → ThereAlike d o.driver
asked_alike d m o w =
    subst (λ (q : Offered). ThereAlike d q.driver) (sym w.is) (told_alike d _ w.number w.endpoint (with_queued w.endpoint _ (length d.transfers)) w.here refl refl refl refl (λ q is. absurd (none_open q (sym w.idle ∙ is))) refl refl)

cancelled_alike : (d : DriverContent) (m : Mem) (o : Offered) → Cancels d m o → ThereAlike d o.driver
cancelled_alike d m o w =
    subst (λ (q : Offered). ThereAlike d q.driver) (sym w.is)
    (told_alike d (accepted_cancel d w.number w.endpoint) w.number w.endpoint (record w.endpoint { cancelled = true; ended = first_end w.endpoint.ended }) w.here refl refl refl refl (λ q is. absurd (none_open q (sym w.idle ∙ is))) refl refl)

accepted_alike : (d : DriverContent) (m : Mem) (o : Offered) (cmd : Cmd) → AcceptsAsynchronous d m o cmd → ThereAlike d o.driver
accepted_alike d m o (commands.OpenEp desc) why = open_alike d m o why.opens
accepted_alike d m o (commands.Get name len by) why = asked_alike d m o why.transfers
accepted_alike d m o (commands.Put name bytes by) why = asked_alike d m o why.transfers
accepted_alike d m o (commands.Control name setup bytes) why = asked_alike d m o why.transfers
accepted_alike d m o (commands.Cancel name) why = cancelled_alike d m o why
accepted_alike d m o _ why = absurd why

pub commands_keep_controls : CommandsKeepControls
commands_keep_controls d m cmd o parts order out only opens is k =
    stand_still d o.driver parts order out (accepted_alike d m o cmd (asynchronous_command_is_accepted d m cmd o only opens is)) (commands_keep_mends d m cmd o parts out is k.mends) k

-- ---- rows

pub joined : (e : ℕ) (xs ys : List ℕ) → is_one_of e (xs ++ ys) ≡ (is_one_of e ys || is_one_of e xs)
joined e [] ys = or_false (is_one_of e ys)
  where
    or_false : (b : Bool) → b ≡ (b || false)
    or_false true = refl
    or_false false = refl
joined e (x ∷ xs) ys = ap (λ (b : Bool). (e == x) || b) (joined e xs ys) ∙ moved (e == x) (is_one_of e ys) (is_one_of e xs)
  where
    moved : (a b c : Bool) → (a || (b || c)) ≡ (b || (a || c))
    moved true true c = refl
    moved true false c = refl
    moved false b c = refl

silent_there : (row : DriverRow) (p : Parts) → touches_none row ≡ true → ThereAlike p.driver (after_driver_row row p).driver
silent_there rows.ClearAdvance p silent =
    near_there p.driver (after_driver_row rows.ClearAdvance p).driver refl (λ q is. is) (λ i x on. less_met x.linked (is_one_of i p.driver.waiting) (is_one_of i p.driver.rung) on)
silent_there rows.RingBell p silent =
    near_there p.driver (after_driver_row rows.RingBell p).driver refl (λ q is. is) (λ i x on. ap (λ (b : Bool). x.linked || b) (sym (joined i p.driver.rung p.driver.waiting)) ∙ on)
silent_there (rows.ReadStatus heard) p silent = same_there p.driver (after_driver_row (rows.ReadStatus heard) p).driver refl (λ q is. is) refl refl
silent_there (rows.ReadFrame n) p silent = same_there p.driver (after_driver_row (rows.ReadFrame n) p).driver refl (λ q is. is) refl refl
silent_there rows.Rest p silent = same_there p.driver p.driver refl (λ q is. is) refl refl
silent_there _ p silent = absurd (false≢true silent)

silent_beside : (row : DriverRow) → touches_none row ≡ true → is_beside row ≡ true
silent_beside (rows.Mend w) silent = absurd (false≢true silent)
silent_beside (rows.Harvest e t found) silent = absurd (false≢true silent)
silent_beside _ silent = refl

pub silent_keeps_controls : SilentKeepsControls
silent_keeps_controls p parts order out silent k =
    stand_still p.driver (after_driver_row (driver_row p) p).driver parts order out (silent_there (driver_row p) p silent)
    (rows_keep_mends p parts parts out out (silent_beside (driver_row p) silent) (λ s owed. keeps_same parts out (32 * s.queue)) k.mends) k
