-- What is known of endpoints that have left is known still, along the rows of the driver by which none leaves and none is given back.
use Rattle.std.proofs.Common.{◌≡◌, ◌≢◌, ℕ, ◌*◌, ◌==◌, Bool, true, false, if◌then◌else◌, List, [], Option, Some, None, ap, sym, subst, ◌∙◌, inl, refl}
use Rattle.std.proofs.lemmas.Bool.{false≢true}
use Rattle.std.specs.List.{concat}
use Rattle.law_world.proofs.Common.{no_command}
use Rattle.drv_table.specs.declared.content.Command.{Command}
use Rattle.drv_table.specs.declared.rows.DriverRow.{DriverRow}
use Rattle.drv_table.specs.declared.rows.DriverRow.TheVariants as rows
use Rattle.drv_table.specs.Rows.{driver_row}
use Rattle.law_driver.specs.run_owners.Due.{IsDue}
use Rattle.law_driver.proofs.lemmas.run_owners.Reasons.{each_event_is_due}
use Rattle.bus_wire.specs.Bus.{Fixed}
use Rattle.bus_world.specs.World.{World, driver_parts, driver_next}
use Rattle.law_world.specs.steps.Streaming.{Streams, Standing}
use Rattle.law_world.specs.streams.FeedingLaws.{is_still}
use Rattle.law_world.specs.streams.Left.{IsLeft}
use Rattle.claims_base.specs.Prefix.{IsPrefix}
use Rattle.claims_world.specs.Streams.{IsToldTaken}
use Rattle.law_controller.specs.controlled_streams.Opened.{with_none}
use Rattle.law_world.specs.streams.Whole.{IsWhole, HasWhole}
use Rattle.law_world.proofs.lemmas.streams.FedRows.{told_once, row_keeps_left}
use Rattle.law_world.proofs.lemmas.streams.Fewer.{are_same}

-- where each stream is open still
pub whole_of : (fixed : Fixed) (takes : ℕ → ℕ → Bool) (member : ℕ → Bool) (x : Streams) (s : Standing) (w : World) → IsWhole fixed takes member x s w → HasWhole fixed takes x.stream x.packets w
whole_of fixed takes member x s w k = record {
  member = member;
  streams = x.streams;
  endpoint = x.endpoint;
  standing = s;
  ins = x.stream;
  outs = takes;
  whole = k;
  ins_stay = λ addr ep on. inl on;
  outs_stay = λ addr ep on. inl on;
  ins_were = are_same x.stream;
  outs_were = are_same takes;
}

-- ---- what was moved of a queue that is new

nothing_begins : (b : Bool) (xs : List (List ℕ)) (bs : List ℕ) → IsPrefix (concat xs) bs → IsPrefix (concat (if b then [] else xs)) bs
nothing_begins true xs bs k = (bs, refl)
nothing_begins false xs bs k = k

nothing_taken : (b : Bool) (xs : List (List ℕ)) (o : Option (List ℕ)) → IsToldTaken (concat xs) o → IsToldTaken (concat (if b then [] else xs)) o
nothing_taken true xs None k = refl
nothing_taken true xs (Some bs) k = (bs, refl)
nothing_taken false xs o k = k

pub begun_left : (fixed : Fixed) (takes : ℕ → ℕ → Bool) (packets : ℕ → ℕ → List (List ℕ)) (acc : ℕ → List (List ℕ)) (w : World) (n : ℕ) → IsLeft fixed takes packets acc w
    → IsLeft fixed takes packets (with_none acc n) w
begun_left fixed takes packets acc w n k = record {
  walking = k.walking;
  owed = k.owed;
  closed_ins = record {
    left = λ e z here comes there off. nothing_begins (32 * z.queue == n) (acc (32 * z.queue)) _ (k.closed_ins.left e z here comes there off);
    gone = k.closed_ins.gone;
  };
  closed_outs = record {
    left = λ e z here goes there off. nothing_taken (32 * z.queue == n) (acc (32 * z.queue)) _ (k.closed_outs.left e z here goes there off);
    gone = k.closed_outs.gone;
  };
  shut = k.shut;
  named = k.named;
}

-- ---- along the rows

module _ (fixed : Fixed) (takes : ℕ → ℕ → Bool) (member : ℕ → Bool) (x : Streams) (s : Standing) (w : World) (k : IsWhole fixed takes member x s w) where
  -- a row that is neither
  pub row_left : (row : DriverRow) → driver_row (driver_parts w) ≡ row → row ≢ rows.ClearAdvance → ((e : ℕ) → row ≢ rows.ReleaseEndpoint e) → IsLeft fixed takes x.packets s.acc (driver_next w)
  row_left row is clears releases = row_keeps_left fixed takes member x s w (λ same. clears (sym is ∙ same)) (λ e same. releases e (sym is ∙ same)) (told_once w.driver s.hand s.parts s.reported k.told) k.feeding k.left

  -- .. one that stores no word and reads no token
  pub still_left : is_still (driver_row (driver_parts w)) ≡ true → IsLeft fixed takes x.packets s.acc (driver_next w)
  still_left still =
      row_left (driver_row (driver_parts w)) refl (λ same. false≢true (sym (ap is_still same) ∙ still)) (λ e same. false≢true (sym (ap is_still same) ∙ still))

  -- .. and one while a command is unfinished
  pub busy_left : (c : Command) → w.driver.command ≡ Some c → IsLeft fixed takes x.packets s.acc (driver_next w)
  busy_left c busy =
      let due : IsDue (driver_parts w) (driver_row (driver_parts w)) = each_event_is_due (driver_parts w) in
      row_left (driver_row (driver_parts w)) refl
      (λ same. let is : IsDue (driver_parts w) rows.ClearAdvance = subst (IsDue (driver_parts w)) same due in no_command w.driver.command c is.0 busy)
      (λ e same. let is : IsDue (driver_parts w) (rows.ReleaseEndpoint e) = subst (IsDue (driver_parts w)) same due in no_command w.driver.command c is.idle busy)
