-- A command, accepted or refused, leaves closed what has left: an endpoint more is in the ring, and no other leaves it yet.
use Rattle.std.proofs.Common.{◌≡◌, ℕ, zero, suc, Bool, List, [], ◌∷◌, ◌++◌, length, take, drop, slice_get, Option, Some, None, Result, Ok, Err, ap, sym, subst, ◌∙◌, ⊎_elim, inl, inr, refl}
use Rattle.std.specs.Prelude.{◌⊎◌}
use Rattle.std.proofs.lemmas.Bool.{true≢false}
use Rattle.std.proofs.lemmas.Option.{same_Some}
use Rattle.std.specs.List.{concat}
use Rattle.usb_base.specs.declared.commands.Cmd.{Cmd}
use Rattle.usb_base.specs.declared.commands.Cmd.TheVariants as commands
use Rattle.usb_base.specs.declared.endpoints.EpName.{EpName}
use Rattle.usb_base.specs.declared.reports.OfferError.{OfferError}
use Rattle.word_mem.specs.Memory.{Mem}
use Rattle.bus_wire.specs.Bus.{Fixed}
use Rattle.law_devices.specs.scripted_takers.Takers.{taker_of}
use Rattle.drv_table.specs.declared.content.Endpoint.{Endpoint}
use Rattle.drv_table.specs.declared.content.QtdNote.{QtdNote}
use Rattle.drv_table.specs.declared.content.Command.{Command}
use Rattle.drv_table.specs.declared.content.Command.TheVariants as unfinished
use Rattle.drv_table.specs.DriverContent.{DriverContent}
use Rattle.drv_table.specs.Accepting.{Offered, new_runs}
use Rattle.drv_table.specs.Offers.{offered, new_endpoint, accepted_open, accepted_transfer, with_queued, note_stages}
use Rattle.law_driver.specs.endpoint_lives.Lives.{may_meet}
use Rattle.law_driver.proofs.lemmas.endpoint_lives.Lives.{linked_met}
use Rattle.law_driver.specs.run_owners.Accepts.{Opens, Transfers}
use Rattle.law_driver.specs.AsynchronousScripts.{OpensAsynchronous}
use Rattle.law_driver.specs.chained_transfers.Asynchronous.{AcceptsAsynchronous}
use Rattle.law_driver.specs.chained_transfers.AsynchronousTurns.{AsynchronousTakesTurns}
use Rattle.law_driver.proofs.lemmas.chained_transfers.Accepting.{asynchronous_command_is_accepted}
use Rattle.law_driver.proofs.lemmas.chained_transfers.Rows.{set_which}
use Rattle.law_queues.specs.leaving_drivers.Told.{told_to}
use Rattle.law_queues.proofs.lemmas.leaving_drivers.Leaving.{cancel_is_as_before}
use Rattle.law_queues.proofs.lemmas.leaving_drivers.Owing.{commands_owe_met}
use Rattle.law_queues.proofs.lemmas.leaving_drivers.Telling.{refusals_tell_nothing, commands_only_tell}
use Rattle.law_world.proofs.lemmas.steps.lemmas.controlled_walks.Worlds.{command_keeps_walking}
use Rattle.bus_world.specs.World.{World, name_in, refused_line, commanded_by, commanded}
use Rattle.law_world.specs.steps.Streaming.{Streams, Standing, wired}
use Rattle.law_world.specs.streams.Feeding.{IsFeeding}
use Rattle.claims_world.specs.Memory.{IsWalking}
use Rattle.claims_base.specs.Prefix.{IsPrefix}
use Rattle.claims_world.specs.Streams.{IsToldTaken}
use Rattle.law_world.specs.streams.taken_reports.Laws.{bytes_taken}
use Rattle.law_world.specs.streams.Left.{IsLeft}
use Rattle.law_world.specs.streams.LeftLaws.{OpensNamed, CommandKeepsLeft}
use Rattle.law_world.proofs.lemmas.streams.Names.{command_named}
use Rattle.law_world.proofs.lemmas.streams.Unmet.{UnmetStay, OpenedIsMet, unmet_before, closed_ins, closed_outs, still_shut}

-- ---- an accepted command

push_which : {X : Type 0} (xs : List X) (x : X) (n : ℕ) (z : X) → slice_get (xs ++ x ∷ []) n ≡ Some z → (slice_get xs n ≡ Some z) ⊎ (z ≡ x)
push_which [] x zero z here = inr (sym (same_Some x z here))
push_which [] x (suc n) z here = absurd (cc)
push_which (y ∷ ys) x zero z here = inl here
push_which (y ∷ ys) x (suc n) z here = push_which ys x n z here

open_unmet : (d : DriverContent) (m : Mem) (o : Offered) → Opens d m o → UnmetStay d o.driver
open_unmet d m o why = subst (λ (g : Offered). UnmetStay d g.driver) (sym why.is) (now _ _)
  where
    now : (queue dummy : ℕ) → UnmetStay d (accepted_open d why.desc why.holding_after queue dummy).driver
    now queue dummy e z here off =
        let f = (accepted_open d why.desc why.holding_after queue dummy).driver in
        ⊎_elim (λ (was : slice_get d.endpoints e ≡ Some z). record { endpoint = z; here = was; desc = refl; queue = refl; gone = refl; unmet = off })
        (λ (new : z ≡ new_endpoint why.desc queue dummy). absurd (true≢false (sym (linked_met f e z (ap (λ (x : Endpoint). x.linked) new)) ∙ off)))
        (push_which d.endpoints (new_endpoint why.desc queue dummy) e z here)

-- a get, a put or a request
moved_unmet : (d : DriverContent) (m : Mem) (o : Offered) → Transfers d m o → UnmetStay d o.driver
moved_unmet d m o w = subst (λ (g : Offered). UnmetStay d g.driver) (sym w.is) (now _ notes)
  where
    notes : List QtdNote
    notes =
        let n = length w.asked.stages in
        note_stages d.notes w.asked.stages w.endpoint.dummy (take n (new_runs d w.holding_after)) (drop n (new_runs d w.holding_after))

    now : (dummy : ℕ) (notes : List QtdNote) → UnmetStay d (accepted_transfer d w.number w.endpoint w.asked w.holding_after dummy notes).driver
    now dummy notes i z here off =
        let e = w.number in
        let x = w.endpoint in
        let b = with_queued x dummy (length d.transfers) in
        ⊎_elim
        (λ (own : (i ≡ e) × (z ≡ b)).
        record {
          endpoint = x;
          here = ap (slice_get d.endpoints) own.0 ∙ w.here;
          desc = ap (λ (r : Endpoint). r.desc) own.1;
          queue = ap (λ (r : Endpoint). r.queue) own.1;
          gone = ap (λ (r : Endpoint). r.gone) own.1;
          unmet = ap (may_meet d i) (sym own.1) ∙ off;
        })
        (λ (other : slice_get d.endpoints i ≡ Some z). record { endpoint = z; here = other; desc = refl; queue = refl; gone = refl; unmet = off })
        (set_which d.endpoints e i x b z w.here here)

unmet_as : (d : DriverContent) (m : Mem) (o : Offered) (cmd : Cmd) → AcceptsAsynchronous d m o cmd → AsynchronousTakesTurns d → UnmetStay d o.driver
unmet_as d m o (commands.OpenEp x) why turns = open_unmet d m o why.opens
unmet_as d m o (commands.Get name len by) why turns = moved_unmet d m o why.transfers
unmet_as d m o (commands.Put name bytes by) why turns = moved_unmet d m o why.transfers
unmet_as d m o (commands.Control name setup bytes) why turns = moved_unmet d m o why.transfers
unmet_as d m o (commands.Cancel name) why turns = let b = cancel_is_as_before d m o turns why in unmet_before d o.driver b.0 b.1
unmet_as d m o _ why turns = absurd why

-- no command is unfinished where one is accepted
none_opened : (d : DriverContent) → d.command ≡ None → OpenedIsMet d
none_opened d idle e x here kept is = let a : ◌≡◌ {A = Option Command} None (Some (unfinished.Open x.queue)) = sym idle ∙ is in absurd (cc)

idle_as : (d : DriverContent) (m : Mem) (o : Offered) (cmd : Cmd) → AcceptsAsynchronous d m o cmd → d.command ≡ None
idle_as d m o (commands.OpenEp x) why = why.opens.idle
idle_as d m o (commands.Get name len by) why = why.transfers.idle
idle_as d m o (commands.Put name bytes by) why = why.transfers.idle
idle_as d m o (commands.Control name setup bytes) why = why.transfers.idle
idle_as d m o (commands.Cancel name) why = why.idle
idle_as d m o _ why = absurd why

-- ---- a refusal

refused_unmet : (d : DriverContent) (line : ℕ) (name : EpName) (why : OfferError) → UnmetStay d (refused_line d line name why)
refused_unmet d line name why e z here off = record { endpoint = z; here = here; desc = refl; queue = refl; gone = refl; unmet = off }

refused_told : (d : DriverContent) (line : ℕ) (name : EpName) (why : OfferError) (other : EpName) → told_to d other ≡ told_to (refused_line d line name why) other
refused_told d line name why other = sym (refusals_tell_nothing d (refused_line d line name why) _ refl refl refl other)

pub unmet_by : (w : World) (line : ℕ) (cmd : Cmd) (r : Result Offered OfferError) → OpensAsynchronous cmd → AsynchronousTakesTurns w.driver → offered w.driver w.memory cmd ≡ r
    → UnmetStay w.driver (commanded_by w line (name_in cmd) r).driver
unmet_by w line cmd (Ok o) only turns is = unmet_as w.driver w.memory o cmd (asynchronous_command_is_accepted w.driver w.memory cmd o turns.asynchronous only is) turns
unmet_by w line cmd (Err why) only turns is = refused_unmet w.driver line (name_in cmd) why

pub command_unmet : (w : World) (line : ℕ) (cmd : Cmd) → OpensAsynchronous cmd → AsynchronousTakesTurns w.driver → UnmetStay w.driver (commanded w line cmd).driver
command_unmet w line cmd only turns = unmet_by w line cmd (offered w.driver w.memory cmd) only turns refl

-- ---- either

commanded_left : (fixed : Fixed) (takes : ℕ → ℕ → Bool) (packets : ℕ → ℕ → List (List ℕ)) (acc : ℕ → List (List ℕ)) (member : ℕ → Bool) (x : Streams) (s : Standing) (w : World) (line : ℕ)
    (cmd : Cmd) (r : Result Offered OfferError) → OpensAsynchronous cmd → OpensNamed cmd → IsFeeding fixed member x s w → IsWalking (commanded_by w line (name_in cmd) r) → IsLeft fixed takes packets acc w
    → offered w.driver w.memory cmd ≡ r → IsLeft fixed takes packets acc (commanded_by w line (name_in cmd) r)
commanded_left fixed takes packets acc member x s w line cmd (Ok o) only named f walking old is =
    let d = w.driver in
    let why = asynchronous_command_is_accepted d w.memory cmd o f.turns.asynchronous only is in
    let unmet = unmet_as d w.memory o cmd why f.turns in
    let opened = none_opened d (idle_as d w.memory o cmd why) in
    let gone = commands_only_tell d w.memory cmd o f.turns only is in
    record {
      named = command_named d w.memory cmd o f.turns only named is old.named;
      walking = walking;
      owed = commands_owe_met d w.memory cmd o f.working.place.sound.owners f.turns only is old.owed;
      closed_ins = closed_ins d o.driver unmet opened gone packets acc old.closed_ins;
      closed_outs = closed_outs d o.driver unmet opened gone taker_of acc (wired fixed w) old.closed_outs;
      shut = still_shut d o.driver takes unmet old.shut;
    }
commanded_left fixed takes packets acc member x s w line cmd (Err why) only named f walking old is =
    let d = w.driver in
    let r = refused_line d line (name_in cmd) why in
    record {
      named = old.named;
      walking = walking;
      owed = old.owed;
      closed_ins = record {
        left = λ e z here comes there off. old.closed_ins.left e z here comes (record { linked = there.linked; kept = there.kept }) off;
        gone = λ e z here comes is.
            subst (λ (bytes : List ℕ). IsPrefix bytes (concat (packets z.desc.name.addr z.desc.name.num)))
            (refused_told d line (name_in cmd) why z.desc.name) (old.closed_ins.gone e z here comes is);
      };
      closed_outs = record {
        left = λ e z here goes there off. old.closed_outs.left e z here goes (record { linked = there.linked; kept = there.kept }) off;
        gone = λ e z here goes is.
            subst (λ (bytes : List ℕ). IsToldTaken bytes (bytes_taken (taker_of (wired fixed w) z.desc.name.addr z.desc.name.num)))
            (refused_told d line (name_in cmd) why z.desc.name) (old.closed_outs.gone e z here goes is);
      };
      shut = still_shut d r takes (refused_unmet d line (name_in cmd) why) old.shut;
    }

pub command_keeps_left : CommandKeepsLeft
command_keeps_left fixed takes member x s w line cmd only fits named room f old =
    commanded_left fixed takes x.packets s.acc member x s w line cmd (offered w.driver w.memory cmd) only named f (command_keeps_walking w line cmd fits old.walking) old refl
