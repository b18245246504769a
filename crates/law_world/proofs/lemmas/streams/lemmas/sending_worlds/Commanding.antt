-- A command leaves a world with what its driver has still to send: one that is refused changes no endpoint, transfer or note, and an accepted put is one more.
use Rattle.std.proofs.Common.{◌≡◌, ◌≢◌, ℕ, Bool, true, List, get_or, length, slice_get, Option, Some, None, Result, Ok, Err, ap, refl, sym, ◌∙◌, ⊎_elim, inl, inr, subst, ◌⊎◌}
use Rattle.std.specs.List.{concat}
use Rattle.std.proofs.lemmas.Option.{slice_get_within}
use Rattle.law_common.proofs.Lists.{push_which}
use Rattle.usb_base.specs.declared.commands.Cmd.{Cmd}
use Rattle.usb_base.specs.declared.endpoints.EpName.{EpName}
use Rattle.usb_base.specs.declared.reports.OfferError.{OfferError}
use Rattle.word_mem.specs.Memory.{Mem}
use Rattle.bus_wire.specs.Bus.{Fixed}
use Rattle.drv_table.specs.declared.content.Endpoint.{Endpoint}
use Rattle.drv_table.specs.DriverContent.{DriverContent}
use Rattle.drv_table.specs.Accepting.{Offered, new_runs}
use Rattle.drv_table.specs.Offers.{new_endpoint, offered, IsOffered}
use Rattle.law_driver.specs.run_owners.Accepts.{Opens, Transfers}
use Rattle.law_structures.specs.lent_structures.Structures.{StructureSets}
use Rattle.law_driver.specs.AsynchronousScripts.{OpensAsynchronous}
use Rattle.law_driver.specs.chained_transfers.Asynchronous.{AcceptsAsynchronous}
use Rattle.law_driver.specs.chained_transfers.AsynchronousTurns.{AsynchronousTakesTurns}
use Rattle.law_driver.proofs.lemmas.chained_transfers.Accepting.{asynchronous_command_is_accepted}
use Rattle.law_driver.proofs.lemmas.endpoint_lives.Lives.{told_some}
use Rattle.law_driver_ring.specs.fed_queues.Places.{IsThere}
use Rattle.law_queues.proofs.lemmas.fed_lends.Asked.{set_which}
use Rattle.law_driver_ring.specs.walk_members.Reached.{OpensNumbered}
use Rattle.law_scripts.specs.byte_answers.Bytes.{IsByteCommand}
use Rattle.law_ring.specs.OutBus.{Taker}
use Rattle.law_devices.specs.scripted_takers.Takers.{taker_of}
use Rattle.bus_world.specs.World.{World, name_in, refused_line, commanded_by, commanded}
use Rattle.law_world.specs.steps.Streaming.{Streams, Standing, wired}
use Rattle.law_world.specs.streams.put_laws.HeldPuts.{HoldsPuts, puts_then}
use Rattle.law_world.proofs.lemmas.streams.lemmas.put_laws.Commanding.{command_holds_puts}
use Rattle.law_world.specs.streams.put_laws.Sent.{SentStand}
use Rattle.law_world.proofs.lemmas.streams.lemmas.put_laws.SentAlike.{accepted_sends}
use Rattle.law_world.specs.streams.put_laws.TakenPuts.{puts_of}
use Rattle.law_world.proofs.lemmas.streams.lemmas.put_laws.Steps.{then_before}
use Rattle.law_world.specs.streams.put_laws.Owed.{Owes}
use Rattle.law_world.specs.streams.put_laws.OwedLaws.{KeepsPuts}
use Rattle.law_world.specs.streams.put_laws.OwedTaken.{TakenBegin, EndedAreStopped}
use Rattle.law_world.proofs.lemmas.streams.lemmas.put_laws.Commands.{command_owes}
use Rattle.law_world.proofs.lemmas.streams.lemmas.put_laws.Rests.{prefix_to, puts_kept}
use Rattle.law_world.proofs.lemmas.streams.lemmas.put_laws.Same.{alike_owes}
use Rattle.law_world.proofs.lemmas.streams.lemmas.put_laws.TakenRows.{command_taken}
use Rattle.law_world.specs.streams.Whole.{IsWhole}
use Rattle.law_world.proofs.lemmas.streams.Commanding.{whole_commanded, OpensToOnce}
use Rattle.law_world.specs.streams.sending_worlds.Sending.{IsSending, HaveLeftTakers}
use Rattle.law_world.specs.streams.sending_worlds.WorldLaws.{CommandKeepsSending}
use Rattle.usb_base.specs.declared.commands.Cmd.TheVariants as commands
use Rattle.law_world.specs.streams.LeftLaws.{OpensNamed}
use Rattle.law_world.proofs.lemmas.streams.FedCommands.{unmet_by}
use Rattle.law_world.proofs.lemmas.streams.lemmas.sending_worlds.SentLeaving.{cancel_keeps_sent}
use Rattle.law_world.proofs.lemmas.streams.lemmas.sending_worlds.Each.{takers_stay, sent_of, has_of}

-- ---- a refusal

module _ (d : DriverContent) (line : ℕ) (name : EpName) (why : OfferError) (m : Mem) (puts now reported : ℕ → List ℕ) (keeps : KeepsPuts d puts now) where
  abbrev f : DriverContent
  f = refused_line d line name why

  pub refused_held : HoldsPuts d m puts → HoldsPuts f m now
  refused_held held = record { each = λ t y there put kept. held.each t y there put kept ∙ sym (keeps t (slice_get_within d.transfers t y there)) }

  pub refused_owes : AsynchronousTakesTurns d → HoldsPuts d m puts → Owes d m puts reported → Owes f m now reported
  refused_owes turns held owes =
      alike_owes d f m m puts now reported turns (record { endpoints = refl; transfers = refl; notes = refl }) (λ x meets. record { linked = meets.linked; kept = meets.kept }) (λ x is. is) keeps held (refused_held held) owes

  pub refused_begin : {W : Type 0} (taker : W → ℕ → ℕ → Option Taker) (wire : W) → TakenBegin taker d puts wire → TakenBegin taker f now wire
  refused_begin taker wire begin e z s here life sends is =
      prefix_to s.taken (concat (puts_of d puts e)) (concat (puts_of f now e)) (sym (ap concat (puts_kept puts now e d.transfers keeps)))
      (begin e z s here (⊎_elim (λ (gone : z.gone ≡ true). inl gone) (λ (there : IsThere f z). inr (record { linked = there.linked; kept = there.kept })) life) sends is)

refused_sending : (fixed : Fixed) (takes : ℕ → ℕ → Bool) (member : ℕ → Bool) (x : Streams) (s : Standing) (puts now : ℕ → List ℕ) (w : World) (line : ℕ) (name : EpName) (why : OfferError) → KeepsPuts w.driver puts now
    → IsWhole fixed takes member x s (commanded_by w line name (Err why)) → HaveLeftTakers fixed (commanded_by w line name (Err why)) → IsSending fixed takes member x s puts w → IsSending fixed takes member x s now (commanded_by w line name (Err why))
refused_sending fixed takes member x s puts now w line name why keeps whole left k =
    let d = w.driver in
    record {
      whole = whole;
      sent = λ e z here met sends. k.sent e z here (record { there = record { linked = met.there.linked; kept = met.there.kept }; near = met.near }) sends;
      ended = k.ended;
      held = refused_held d line name why w.memory puts now s.reported keeps k.held;
      owes = refused_owes d line name why w.memory puts now s.reported keeps k.whole.feeding.turns k.held k.owes;
      begin = refused_begin d line name why w.memory puts now s.reported keeps taker_of (wired fixed w) k.begin;
      left_takers = left;
    }

-- ---- an accepted command

none_some : {X : Type 0} (x : X) → ◌≡◌ {A = Option X} None (Some x) → ⊥
none_some x is = cc

-- by which no endpoint leaves
abbrev IsNoCancel : Cmd → Type 0
IsNoCancel (commands.Cancel name) = ⊥
IsNoCancel _ = Unit {0}

-- it opens an endpoint, or is a get, a put or a request of one
comes_to : (d : DriverContent) (m : Mem) (o : Offered) (cmd : Cmd) → IsNoCancel cmd → AcceptsAsynchronous d m o cmd → Opens d m o ⊎ Transfers d m o
comes_to d m o (commands.OpenEp desc) kept k = inl k.opens
comes_to d m o (commands.Get name len by) kept k = inr k.transfers
comes_to d m o (commands.Put name bytes by) kept k = inr k.transfers
comes_to d m o (commands.Control name setup bytes) kept k = inr k.transfers
comes_to d m o (commands.Cancel name) kept k = absurd kept
comes_to d m o _ kept k = absurd k

-- an endpoint that is opened or asked goes on
pub accepted_ended : (d : DriverContent) (m : Mem) (o : Offered) (parts : StructureSets) → Opens d m o ⊎ Transfers d m o → EndedAreStopped d parts → EndedAreStopped o.driver parts
accepted_ended d m o parts (inl opened) ended e z cause here kept sends over =
    let why : Opens d m o = opened in
    let new : Endpoint = new_endpoint why.desc (get_or (new_runs d why.holding_after) 0 0) (get_or (new_runs d why.holding_after) 1 0) in
    ⊎_elim (λ (was : slice_get d.endpoints e ≡ Some z). ended e z cause was kept sends over)
    (λ (own : (e ≡ length d.endpoints) × (z ≡ new)). absurd (none_some cause (ap (λ (y : Endpoint). y.ended) (sym own.1) ∙ (told_some z cause over).ended)))
    (push_which d.endpoints new e z (ap (λ (g : Offered). slice_get g.driver.endpoints e) (sym why.is) ∙ here))
accepted_ended d m o parts (inr asked) ended e z cause here kept sends over =
    let why : Transfers d m o = asked in
    ⊎_elim (λ (own : (e ≡ why.number) × (z ≡ _)). absurd (none_some cause (sym why.goes_on ∙ ap (λ (y : Endpoint). y.ended) (sym own.1) ∙ (told_some z cause over).ended)))
    (λ (other : (e ≢ why.number) × (slice_get d.endpoints e ≡ Some z)). ended e z cause other.1 kept sends over)
    (set_which d.endpoints why.number e why.endpoint _ z why.here (ap (λ (g : Offered). slice_get g.driver.endpoints e) (sym why.is) ∙ here))

module _ (fixed : Fixed) (takes : ℕ → ℕ → Bool) (member : ℕ → Bool) (x : Streams) (s : Standing) (puts : ℕ → List ℕ) (w : World) (cmd : Cmd) (o : Offered) (k : IsSending fixed takes member x s puts w) (kept : IsNoCancel cmd) (only : OpensAsynchronous cmd) (offer : offered w.driver w.memory cmd ≡ Ok o) where
  abbrev d : DriverContent
  d = w.driver

  abbrev now : ℕ → List ℕ
  now = puts_then w.driver cmd puts

  accepted : Opens w.driver w.memory o ⊎ Transfers w.driver w.memory o
  accepted = comes_to d w.memory o cmd kept (asynchronous_command_is_accepted d w.memory cmd o k.whole.feeding.turns.asynchronous only
      offer)

  sent_then : SentStand o.driver s.order s.out s.hand s.parts
  sent_then = accepted_sends d w.memory o s.hand s.parts s.order s.out accepted k.sent

  ended_then : EndedAreStopped o.driver s.parts
  ended_then = accepted_ended d w.memory o s.parts accepted k.ended

  held_then : IsOffered w.driver.room cmd → IsByteCommand cmd → HoldsPuts o.driver o.memory now
  held_then room bytes =
      let feeding = k.whole.feeding in
      let place = feeding.working.place in
      let tells = feeding.working.streaming.controlled.ring.tells in
      command_holds_puts d w.memory cmd o s.parts puts only room bytes offer place.sound.owners place.lent place.sound.stands feeding.turns tells feeding.queues.fed k.held

  owes_then : HoldsPuts o.driver o.memory now → Owes o.driver o.memory now s.reported
  owes_then still =
      let feeding = k.whole.feeding in
      let sound = feeding.working.place.sound in
      command_owes d w.memory cmd o puts now s.reported only offer sound.owners sound.stands feeding.turns (then_before d cmd puts) k.held still k.owes

  begin_then : TakenBegin taker_of o.driver now (wired fixed w)
  begin_then = command_taken taker_of d w.memory cmd o puts now (wired fixed w) k.whole.feeding.turns only offer (then_before d cmd puts) k.begin

accepted_sending : (fixed : Fixed) (takes : ℕ → ℕ → Bool) (member : ℕ → Bool) (x : Streams) (s : Standing) (puts : ℕ → List ℕ) (w : World) (line : ℕ) (name : EpName) (cmd : Cmd) (o : Offered) → IsNoCancel cmd → OpensAsynchronous cmd → IsByteCommand cmd → IsOffered w.driver.room cmd
    → offered w.driver w.memory cmd ≡ Ok o → IsWhole fixed takes member x s (commanded_by w line name (Ok o)) → HaveLeftTakers fixed (commanded_by w line name (Ok o)) → IsSending fixed takes member x s puts w
    → IsSending fixed takes member x s (puts_then w.driver cmd puts) (commanded_by w line name (Ok o))
accepted_sending fixed takes member x s puts w line name cmd o kept only bytes room offer whole left k =
    let held = held_then fixed takes member x s puts w cmd o k kept only offer room bytes in
    record {
      whole = whole;
      sent = sent_then fixed takes member x s puts w cmd o k kept only offer;
      ended = ended_then fixed takes member x s puts w cmd o k kept only offer;
      held = held;
      owes = owes_then fixed takes member x s puts w cmd o k kept only offer held;
      begin = begin_then fixed takes member x s puts w cmd o k kept only offer;
      left_takers = left;
    }

-- ---- either

same_wire : (fixed : Fixed) (w : World) (line : ℕ) (name : EpName) (r : Result Offered OfferError) → wired fixed (commanded_by w line name r) ≡ wired fixed w
same_wire fixed w line name (Ok o) = refl
same_wire fixed w line name (Err why) = refl

left_by : (fixed : Fixed) (takes : ℕ → ℕ → Bool) (member : ℕ → Bool) (x : Streams) (s : Standing) (puts : ℕ → List ℕ) (w : World) (line : ℕ) (cmd : Cmd) (r : Result Offered OfferError) → OpensAsynchronous cmd
    → offered w.driver w.memory cmd ≡ r → IsSending fixed takes member x s puts w → HaveLeftTakers fixed (commanded_by w line (name_in cmd) r)
left_by fixed takes member x s puts w line cmd r only is k =
    takers_stay fixed takes member x s puts w k (commanded_by w line (name_in cmd) r) (unmet_by w line cmd r only k.whole.feeding.turns is)
    (same_wire fixed w line (name_in cmd) r)

by_offer : (fixed : Fixed) (takes : ℕ → ℕ → Bool) (member : ℕ → Bool) (x : Streams) (s : Standing) (puts : ℕ → List ℕ) (w : World) (line : ℕ) (cmd : Cmd) (r : Result Offered OfferError) → IsNoCancel cmd → OpensAsynchronous cmd → IsByteCommand cmd → IsOffered w.driver.room cmd
    → offered w.driver w.memory cmd ≡ r → IsWhole fixed takes member x s (commanded_by w line (name_in cmd) r) → IsSending fixed takes member x s puts w
    → IsSending fixed takes member x s (puts_then w.driver cmd puts) (commanded_by w line (name_in cmd) r)
by_offer fixed takes member x s puts w line cmd (Err why) kept only bytes room is whole k =
    refused_sending fixed takes member x s puts (puts_then w.driver cmd puts) w line (name_in cmd) why (then_before w.driver cmd puts) whole
    (left_by fixed takes member x s puts w line cmd (Err why) only is k) k
by_offer fixed takes member x s puts w line cmd (Ok o) kept only bytes room is whole k =
    accepted_sending fixed takes member x s puts w line (name_in cmd) cmd o kept only bytes room is whole (left_by fixed takes member x s puts w line cmd (Ok o) only is k) k

-- ---- a cancel

cancel_sending : (fixed : Fixed) (takes : ℕ → ℕ → Bool) (member : ℕ → Bool) (x : Streams) (s : Standing) (puts : ℕ → List ℕ) (w : World) (line : ℕ) (name : EpName) → IsOffered w.driver.room (commands.Cancel name)
    → IsWhole fixed takes member x s (commanded w line (commands.Cancel name)) → IsSending fixed takes member x s puts w
    → IsSending fixed takes member x s (puts_then w.driver (commands.Cancel name) puts) (commanded w line (commands.Cancel name))
cancel_sending fixed takes member x s puts w line name room whole k =
    let then = cancel_keeps_sent fixed member x s puts w line name room k.whole.feeding (sent_of fixed takes member x s puts w k) in
    record {
      whole = whole;
      sent = then.sent;
      ended = then.ended;
      held = then.held;
      owes = then.owes;
      begin = then.begin;
      left_takers = left_by fixed takes member x s puts w line (commands.Cancel name) (offered w.driver w.memory (commands.Cancel name)) tt refl k;
    }

-- ---- each command

by_kind : (cmd : Cmd) → IsNoCancel cmd ⊎ ((name : EpName) × (cmd ≡ commands.Cancel name))
by_kind (commands.Cancel name) = inr (name, refl)
by_kind _ = inl tt

pub sending_commanded : (fixed : Fixed) (takes : ℕ → ℕ → Bool) (member : ℕ → Bool) (x : Streams) (s : Standing) (puts : ℕ → List ℕ) (w : World) (line : ℕ) (cmd : Cmd) → OpensAsynchronous cmd
    → OpensToOnce x.stream takes w cmd → OpensNumbered cmd → OpensNamed cmd → IsByteCommand cmd → IsOffered w.driver.room cmd → IsSending fixed takes member x s puts w
    → IsSending fixed takes member x s (puts_then w.driver cmd puts) (commanded w line cmd)
sending_commanded fixed takes member x s puts w line cmd only to fits named bytes room k =
    let whole : IsWhole fixed takes member x s (commanded w line cmd) = whole_commanded fixed takes member x s w line cmd only to fits named room k.whole in
    ⊎_elim (λ (kept : IsNoCancel cmd). by_offer fixed takes member x s puts w line cmd (offered w.driver w.memory cmd) kept only bytes room refl whole k)
    (λ (cancels : (name : EpName) × (cmd ≡ commands.Cancel name)).
    subst (λ (c : Cmd). IsSending fixed takes member x s (puts_then w.driver c puts) (commanded w line c)) (sym cancels.1)
    (cancel_sending fixed takes member x s puts w line cancels.0 (subst (IsOffered w.driver.room) cancels.1 room) (subst (λ (c : Cmd). IsWhole fixed takes member x s (commanded w line c)) cancels.1 whole) k))
    (by_kind cmd)

pub command_keeps_sending : CommandKeepsSending
command_keeps_sending fixed takes member x s puts w line cmd only to fits named bytes room k =
    has_of fixed takes member x s (puts_then w.driver cmd puts) (commanded w line cmd) (sending_commanded fixed takes member x s puts w line cmd only to fits named bytes room k)
