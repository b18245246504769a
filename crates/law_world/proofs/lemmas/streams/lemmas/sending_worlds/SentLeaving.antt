-- What is sent of puts stays where a cancel is accepted or refused, the doorbell is rung and read, and Async Advance is cleared.
use Rattle.std.proofs.Common.{◌≡◌, ℕ, true, List, slice_get, Some, Result, Ok, Err, ap, refl, sym, subst, ◌∙◌, ⊎_elim, inl, inr}
use Rattle.std.specs.List.{concat}
use Rattle.std.proofs.lemmas.Bool.{false≢true}
use Rattle.usb_base.specs.declared.commands.Cmd.TheVariants as commands
use Rattle.usb_base.specs.declared.endpoints.EpName.{EpName}
use Rattle.usb_base.specs.declared.reports.OfferError.{OfferError}
use Rattle.word_mem.specs.Memory.{Mem, word_at}
use Rattle.bus_wire.specs.Bus.{Fixed}
use Rattle.drv_table.specs.declared.content.Endpoint.{Endpoint}
use Rattle.drv_table.specs.declared.content.Transfer.{Transfer}
use Rattle.drv_table.specs.declared.rows.DriverRow.{DriverRow}
use Rattle.drv_table.specs.declared.rows.DriverRow.TheVariants as rows
use Rattle.drv_table.specs.DriverContent.{DriverContent}
use Rattle.drv_table.specs.Accepting.{Offered}
use Rattle.drv_table.specs.Offers.{offered}
use Rattle.drv_table.specs.Parts.{Parts}
use Rattle.drv_table.specs.Rows.{driver_row, after_driver_row}
use Rattle.law_driver.specs.run_owners.Accepts.{Cancels}
use Rattle.law_devices.specs.scripted_takers.Takers.{taker_of}
use Rattle.law_driver_ring.specs.Driven.{is_quiet}
use Rattle.law_driver.specs.chained_transfers.AsynchronousTurns.{AsynchronousTakesTurns}
use Rattle.law_driver.proofs.lemmas.chained_transfers.Accepting.{asynchronous_command_is_accepted}
use Rattle.law_driver_ring.specs.fed_queues.Places.{IsThere}
use Rattle.law_queues.specs.leaving_drivers.Before.{IsAsBefore, NearFewer}
use Rattle.law_queues.proofs.lemmas.leaving_drivers.Alike.{near_fewer}
use Rattle.law_queues.proofs.lemmas.leaving_drivers.Leaving.{cancel_is_as_before, clear_is_as_before}
use Rattle.law_queues.proofs.lemmas.leaving_drivers.Clearing.{clear_finds}
use Rattle.law_world.specs.streams.put_laws.HeldPuts.{HoldsPuts}
use Rattle.law_world.proofs.lemmas.streams.lemmas.put_laws.HeldAlike.{same_holds}
use Rattle.law_world.proofs.lemmas.streams.lemmas.put_laws.SentAlike.{quiet_sends}
use Rattle.law_world.specs.streams.put_laws.Owed.{Owes}
use Rattle.law_world.specs.streams.put_laws.OwedLaws.{TellsAlike}
use Rattle.law_world.proofs.lemmas.streams.lemmas.put_laws.Same.{alike_owes}
use Rattle.law_world.specs.streams.put_laws.OwedTaken.{TakenBegin, EndedAreStopped}
use Rattle.law_world.specs.streams.put_laws.TakenPuts.{puts_from}
use Rattle.law_world.proofs.lemmas.streams.lemmas.put_laws.Rests.{prefix_to}
use Rattle.law_world.proofs.lemmas.streams.lemmas.left_puts.Leaving.{leave_holds_puts, leave_owes, leave_sends, leave_stops, a_leave_keeps_what_was_taken}
use Rattle.bus_world.specs.World.{World, driver_parts, with_parts, refused_line, commanded_by}
use Rattle.law_world.specs.steps.Streaming.{Standing, wired}
use Rattle.law_world.specs.streams.FeedingLaws.{is_still}
use Rattle.law_world.specs.streams.sending_worlds.LeavingSent.{IsSent, CancelKeepsSent, StillKeepsSent, ClearKeepsSent}

-- ---- a step of a leave that stores nothing

step_keeps : (fixed : Fixed) (s : Standing) (puts : ℕ → List ℕ) (w v : World) → AsynchronousTakesTurns w.driver → IsAsBefore w.driver v.driver → NearFewer w.driver v.driver
    → ((at : ℕ) → word_at v.memory at ≡ word_at w.memory at) → v.bus ≡ w.bus → IsSent fixed puts s w → IsSent fixed puts s v
step_keeps fixed s puts w v turns b near same bus k =
    let held = leave_holds_puts w.driver v.driver w.memory v.memory puts b same k.held in
    record {
      sent = leave_sends w.driver v.driver s.hand s.parts s.order s.out b near k.sent;
      ended = leave_stops w.driver v.driver s.parts b k.ended;
      held = held;
      owes = leave_owes w.driver v.driver w.memory v.memory puts s.reported turns b k.held held k.owes;
      begin = a_leave_keeps_what_was_taken taker_of w.driver v.driver puts (wired fixed v) b
          (subst (λ u. TakenBegin taker_of w.driver puts (record { fixed = fixed; bus = u })) (sym bus) k.begin);
    }

-- ---- the same endpoints, transfers and notes

module _ (d f : DriverContent) (m : Mem) (puts : ℕ → List ℕ) (tells : TellsAlike d f) (command : f.command ≡ d.command) where
  there_was : (x : Endpoint) → IsThere f x → IsThere d x
  there_was x there = record { linked = λ opens. there.linked (command ∙ opens); kept = there.kept }

  alike_held : HoldsPuts d m puts → HoldsPuts f m puts
  alike_held k = same_holds d f m m puts tells.transfers tells.notes (λ at. refl) k

  alike_owed : (reported : ℕ → List ℕ) → AsynchronousTakesTurns d → HoldsPuts d m puts → Owes d m puts reported → Owes f m puts reported
  alike_owed reported turns held owes = alike_owes d f m m puts puts reported turns tells there_was (λ x opens. sym command ∙ opens) (λ t low. refl) held (alike_held held) owes

  here_was : (e : ℕ) (x : Endpoint) → slice_get f.endpoints e ≡ Some x → slice_get d.endpoints e ≡ Some x
  here_was e x here = ap (λ (xs : List Endpoint). slice_get xs e) (sym tells.endpoints) ∙ here

  alike_taken : (fixed : Fixed) (w : World) → TakenBegin taker_of d puts (wired fixed w) → TakenBegin taker_of f puts (wired fixed w)
  alike_taken fixed w begin e z s here life sends is =
      prefix_to s.taken (concat (puts_from puts e 0 d.transfers)) (concat (puts_from puts e 0 f.transfers)) (ap (λ (ts : List Transfer). concat (puts_from puts e 0 ts)) (sym tells.transfers))
      (begin e z s (here_was e z here) (⊎_elim (λ (gone : z.gone ≡ true). inl gone) (λ (there : IsThere f z). inr (there_was z there)) life) sends is)

  alike_stops : (s : Standing) → EndedAreStopped d s.parts → EndedAreStopped f s.parts
  alike_stops s ended e z cause here alive sends over = ended e z cause (here_was e z here) alive sends over

-- ---- a cancel

refusal_keeps : (fixed : Fixed) (s : Standing) (puts : ℕ → List ℕ) (w : World) (line : ℕ) (name : EpName) (why : OfferError) → AsynchronousTakesTurns w.driver → IsSent fixed puts s w
    → IsSent fixed puts s (commanded_by w line name (Err why))
refusal_keeps fixed s puts w line name why turns k =
    let d = w.driver in
    let f = refused_line d line name why in
    let tells : TellsAlike d f = record { endpoints = refl; transfers = refl; notes = refl } in
    record {
      sent = λ e z here met sends. k.sent e z here (record { there = record { linked = met.there.linked; kept = met.there.kept }; near = met.near }) sends;
      ended = k.ended;
      held = alike_held d f w.memory puts tells refl k.held;
      owes = alike_owed d f w.memory puts tells refl s.reported turns k.held k.owes;
      begin = alike_taken d f w.memory puts tells refl fixed w k.begin;
    }

cancel_by : (fixed : Fixed) (s : Standing) (puts : ℕ → List ℕ) (w : World) (line : ℕ) (name : EpName) (r : Result Offered OfferError) → AsynchronousTakesTurns w.driver
    → offered w.driver w.memory (commands.Cancel name) ≡ r → IsSent fixed puts s w → IsSent fixed puts s (commanded_by w line name r)
cancel_by fixed s puts w line name (Ok o) turns is k =
    let why : Cancels w.driver w.memory o =
    asynchronous_command_is_accepted w.driver w.memory (commands.Cancel name) o turns.asynchronous tt is in
    let b = cancel_is_as_before w.driver w.memory o turns why in
    step_keeps fixed s puts w (commanded_by w line name (Ok o)) turns b.0 (near_fewer w.driver o.driver b.1) (λ at. ap (λ (g : Offered). word_at g.memory at) why.is) refl k
cancel_by fixed s puts w line name (Err why) turns is k = refusal_keeps fixed s puts w line name why turns k

pub cancel_keeps_sent : CancelKeepsSent
cancel_keeps_sent fixed member x s puts w line name room f k = cancel_by fixed s puts w line name (offered w.driver w.memory (commands.Cancel name)) f.turns refl k

-- ---- rows that store nothing and leave the ring as it is

-- of the row: it stores nothing, and the content tells the same
record Leaves (p : Parts) (row : DriverRow) : Type 0 where
  pub quiet : is_quiet row ≡ true
  pub tells : TellsAlike p.driver (after_driver_row row p).driver
  pub command : (after_driver_row row p).driver.command ≡ p.driver.command
  pub memory : (after_driver_row row p).memory ≡ p.memory

still_leaves : (p : Parts) (row : DriverRow) → is_still row ≡ true → Leaves p row
still_leaves p rows.RingBell still = record { quiet = refl; tells = record { endpoints = refl; transfers = refl; notes = refl }; command = refl; memory = refl }
still_leaves p (rows.ReadStatus heard) still = record { quiet = refl; tells = record { endpoints = refl; transfers = refl; notes = refl }; command = refl; memory = refl }
still_leaves p (rows.ReadFrame n) still = record { quiet = refl; tells = record { endpoints = refl; transfers = refl; notes = refl }; command = refl; memory = refl }
still_leaves p rows.Rest still = record { quiet = refl; tells = record { endpoints = refl; transfers = refl; notes = refl }; command = refl; memory = refl }
still_leaves p _ still = absurd (false≢true still)

pub still_keeps_sent : StillKeepsSent
still_keeps_sent fixed member x s puts w still f k =
    let p = driver_parts w in
    let d = w.driver in
    let q = after_driver_row (driver_row p) p in
    let l = still_leaves p (driver_row p) still in
    record {
      sent = quiet_sends p s.hand s.parts s.order s.out s.out l.quiet f.turns.asynchronous (λ e z a here met among. among) k.sent;
      ended = alike_stops d q.driver w.memory puts l.tells l.command s k.ended;
      held = subst (λ (m : Mem). HoldsPuts q.driver m puts) (sym l.memory) (alike_held d q.driver w.memory puts l.tells l.command k.held);
      owes = subst (λ (m : Mem). Owes q.driver m puts s.reported) (sym l.memory) (alike_owed d q.driver w.memory puts l.tells l.command s.reported f.turns k.held k.owes);
      begin = alike_taken d q.driver w.memory puts l.tells l.command fixed w k.begin;
    }

-- ---- the clear

pub clear_keeps_sent : ClearKeepsSent
clear_keeps_sent fixed member x s puts w is f k =
    let p = driver_parts w in
    let b = clear_is_as_before p (clear_finds p is).idle in
    subst (λ (row : DriverRow). IsSent fixed puts s (with_parts w (after_driver_row row p))) (sym is)
    (step_keeps fixed s puts w (with_parts w (after_driver_row rows.ClearAdvance p)) f.turns b.0 b.1 (λ at. refl) refl k)
