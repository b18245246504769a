-- The bytes of a put are those of its command.
use Rattle.std.proofs.Common.{◌≡◌, ℕ, ◌<◌, ◌≤◌, Bool, true, false, cond, nat_lt, List, [], length, slice_get, Option, Some, None, Result, Ok, Err, unwrap_or, ap, refl, sym, subst, ◌∙◌, arith}
use Rattle.std.specs.Prelude.{option_and_then, is_some}
use Rattle.std.specs.List.{AllByRecursion}
use Rattle.std.proofs.lemmas.Bool.Decides.{nat_tests}
use Rattle.law_driver.proofs.Common.{ok_is}
use Rattle.law_common.proofs.Booleans.{and_right}
use Rattle.usb_base.specs.declared.endpoints.EndCause.{EndCause}
use Rattle.usb_base.specs.declared.commands.Cmd.{Cmd}
use Rattle.usb_base.specs.declared.commands.Cmd.TheVariants as commands
use Rattle.usb_base.specs.declared.reports.OfferError.{OfferError}
use Rattle.usb_base.specs.declared.reports.OfferError.TheVariants as errors
use Rattle.usb_base.specs.declared.packets.Way.{Way}
use Rattle.usb_base.specs.declared.packets.Way.TheVariants as ways
use Rattle.word_mem.specs.Memory.{Mem, word_at}
use Rattle.mem_runs.specs.Book.{Holding, holding, Stands}
use Rattle.drv_table.specs.declared.content.Command.{Command}
use Rattle.drv_table.specs.declared.content.Endpoint.{Endpoint}
use Rattle.drv_table.specs.declared.content.Sort.{Sort}
use Rattle.drv_table.specs.declared.content.Sort.TheVariants as sorts
use Rattle.drv_table.specs.DriverContent.{DriverContent, is_same_way, endpoint_of}
use Rattle.drv_table.specs.Accepting.{Offered, take_runs}
use Rattle.drv_table.specs.Offers.{Asked, taken_transfer, open_transfer, found_transfer, is_queued, takes_get, takes_put, offered_next, IsOffered}
use Rattle.drv_table.specs.IsoOffers.{offered_iso}
use Rattle.drv_table.specs.Kinds.{is_iso}
use Rattle.drv_table.specs.Words.{needs}
use Rattle.claims_driver.specs.Leaving.{HasOwners}
use Rattle.law_driver.specs.chained_transfers.Accepted.{move_of, IsAsked}
use Rattle.law_driver.specs.chained_transfers.Bulk.{IsDataWay, sort_by}
use Rattle.claims_driver.specs.Scripts.{receives}
use Rattle.law_driver.specs.chained_transfers.Asynchronous.{StandsAsynchronous, OnlyAsynchronous, AcceptsAsynchronous}
use Rattle.law_driver.specs.chained_transfers.AsynchronousTurns.{AsynchronousTakesTurns}
use Rattle.law_driver.proofs.lemmas.chained_transfers.Accepting.{asynchronous_command_is_accepted}
use Rattle.law_driver.proofs.lemmas.chained_transfers.BulkAndControl.{not_iso}
use Rattle.law_driver.proofs.lemmas.chained_transfers.Ways.{sort_queued, same_in, same_out, stages_short, stages_some}
use Rattle.claims_driver.specs.LentRuns.{AreLent}
use Rattle.law_structures.specs.lent_structures.Structures.{StructureSets, Tells}
use Rattle.law_driver_ring.specs.fed_queues.Fed.{AreFed}
use Rattle.law_scripts.specs.byte_answers.Bytes.{IsByteCommand}
use Rattle.law_world.specs.streams.put_laws.HeldPuts.{HoldsPuts, with_put, puts_then}
use Rattle.law_world.specs.streams.put_laws.HeldLaws.{CommandHoldsPuts}
use Rattle.law_world.proofs.lemmas.streams.lemmas.put_laws.HeldAccepted.{open_holds_puts, get_holds_puts, put_holds_puts}
use Rattle.law_world.proofs.lemmas.streams.lemmas.put_laws.HeldAlike.{same_holds}

-- a get or put of an endpoint of this way, in qTDs of so many bytes
record IsAskedAs (d : DriverContent) (m : Mem) (o : Offered) (way : Way) (by : ℕ) (bytes : List ℕ) : Type 0 where
  asked : IsAsked d m o
  way_is : asked.transfers.endpoint.desc.name.way ≡ way
  by_is : asked.by ≡ by
  bytes_are : asked.bytes ≡ bytes

module _ (d : DriverContent) (m : Mem) (o : Offered) (idle : d.command ≡ None) (bulk : OnlyAsynchronous d) where
  -- ---- a get or a put

  module _ (way : Way) (most by : ℕ) (bytes : List ℕ) (goes : IsDataWay way) (whole : way ≡ ways.Out → length bytes ≡ most) where
    abbrev a : Asked
    a = move_of way most by bytes

    taken_as : (e : ℕ) (x : Endpoint) (r : Result Holding OfferError) → slice_get d.endpoints e ≡ Some x → x.ended ≡ None → is_iso x.desc.kind ≡ false → x.desc.name.way ≡ way → most ≤ 20480 → take_runs (holding d.book m) (needs a.stages) ≡ r
        → taken_transfer d e x a r ≡ Ok o → IsAskedAs d m o way by bytes
    taken_as e x (Err why) here ended queued at few is f = absurd (cc)
    taken_as e x (Ok h) here ended queued at few is f = record {
      asked = record {
        most = most;
        by = by;
        bytes = bytes;
        transfers = record {
          number = e;
          endpoint = x;
          asked = a;
          holding_after = h;
          idle = idle;
          here = here;
          goes_on = ended;
          queued = queued;
          sort = sort_queued way;
          short = stages_short way most by few;
          some = stages_some way most by;
          runs = is;
          is = ok_is _ o f;
        };
        way = subst (λ (w : Way). IsDataWay w) (sym at) goes;
        asked = ap (λ (w : Way). move_of w most by bytes) (sym at);
        whole = λ out. whole (sym at ∙ out);
      };
      way_is = at;
      by_is = refl;
      bytes_are = refl;
    }

    long_as : (e : ℕ) (x : Endpoint) (b : Bool) → slice_get d.endpoints e ≡ Some x → x.ended ≡ None → is_iso x.desc.kind ≡ false → x.desc.name.way ≡ way → nat_lt 20480 most ≡ b
        → cond b (Err errors.TooLong) (taken_transfer d e x a (take_runs (holding d.book m) (needs a.stages))) ≡ Ok o → IsAskedAs d m o way by bytes
    long_as e x true here ended queued at is f = absurd (cc)
    long_as e x false here ended queued at is f =
        let low : most ≤ 20480 = grind (arith, nat_tests) in
        taken_as e x (take_runs (holding d.book m) (needs a.stages)) here ended queued at low refl f

    ended_as : (e : ℕ) (x : Endpoint) (c : Option EndCause) → slice_get d.endpoints e ≡ Some x → x.ended ≡ c → is_iso x.desc.kind ≡ false → x.desc.name.way ≡ way → open_transfer d m e x a c ≡ Ok o → IsAskedAs d m o way by bytes
    ended_as e x (Some cause) here ended queued at f = absurd (cc)
    ended_as e x None here ended queued at f = long_as e x (nat_lt 20480 most) here ended queued at refl f

    module _ (takes : Endpoint → Bool) (fits : (x : Endpoint) → StandsAsynchronous x → takes x ≡ true → x.desc.name.way ≡ way) where
      takes_one : (e : ℕ) (x : Endpoint) (b : Bool) → slice_get d.endpoints e ≡ Some x → takes x ≡ b → cond b (open_transfer d m e x a x.ended) (Err errors.NoEndpoint) ≡ Ok o → IsAskedAs d m o way by bytes
      takes_one e x false here is f = absurd (cc)
      takes_one e x true here is f = let s = bulk.endpoints e x here in ended_as e x x.ended here refl (not_iso x.desc s.asynchronous) (fits x s is) f

      found_as : (e : ℕ) (q : Option Endpoint) → slice_get d.endpoints e ≡ q → found_transfer d m takes a e q ≡ Ok o → IsAskedAs d m o way by bytes
      found_as e None here f = absurd (cc)
      found_as e (Some x) here f = takes_one e x (takes x) here refl f

      named_as : (q : Option ℕ) → found_transfer d m takes a (unwrap_or q 0) (option_and_then (λ e. slice_get d.endpoints e) q) ≡ Ok o → IsAskedAs d m o way by bytes
      named_as None f = absurd (cc)
      named_as (Some e) f = found_as e (slice_get d.endpoints e) refl f

  gets_in : (x : Endpoint) → StandsAsynchronous x → takes_get x ≡ true → x.desc.name.way ≡ ways.In
  gets_in x s is = same_in x.desc.name.way (and_right (is_queued x.desc.kind) (is_same_way x.desc.name.way ways.In) is)

  puts_out : (x : Endpoint) → StandsAsynchronous x → takes_put x ≡ true → x.desc.name.way ≡ ways.Out
  puts_out x s is = same_out x.desc.name.way (and_right (is_queued x.desc.kind) (is_same_way x.desc.name.way ways.Out) is)

  -- ---- what no endpoint takes

  iso_at : (b : Bool) (r : Result Offered OfferError) → b ≡ false → cond b r (Err errors.NoEndpoint) ≡ Ok o → ⊥
  iso_at false r off f = cc
  iso_at true r off f = cc

  iso_found : (e n len seed : ℕ) (q : Option Endpoint) → slice_get d.endpoints e ≡ q → offered_iso d m e n len seed q ≡ Ok o → ⊥
  iso_found e n len seed None here f = cc
  iso_found e n len seed (Some x) here f = iso_at (is_iso x.desc.kind) _ (not_iso x.desc (bulk.endpoints e x here).asynchronous) f

  iso_named : (n len seed : ℕ) (q : Option ℕ) → offered_iso d m (unwrap_or q 0) n len seed (option_and_then (λ e. slice_get d.endpoints e) q) ≡ Ok o → ⊥
  iso_named n len seed None f = cc
  iso_named n len seed (Some e) f = iso_found e n len seed (slice_get d.endpoints e) refl f

  -- ---- each command

  module _ (parts : StructureSets) (puts : ℕ → List ℕ) (owners : HasOwners d) (lent : AreLent d) (stands : Stands (holding d.book m)) (turns : AsynchronousTakesTurns d) (tells : Tells m parts) (fed : AreFed d parts) (held : HoldsPuts d m puts) where
    next_holds : (cmd : Cmd) → IsOffered d.room cmd → IsByteCommand cmd → AcceptsAsynchronous d m o cmd → offered_next d m cmd ≡ Ok o → HoldsPuts o.driver o.memory (puts_then d cmd puts)
    next_holds (commands.OpenEp x) room small why f = open_holds_puts d m o parts puts why.opens stands turns tells fed held
    next_holds (commands.Get name len by) room small why f =
        let k : IsAskedAs d m o ways.In by [] = named_as ways.In len by [] tt (λ out. absurd (in_out out)) takes_get gets_in (endpoint_of d name) f in
        get_holds_puts d m o parts puts k.asked.transfers (λ put. no_put (sym (ap (λ (a : Asked). a.sort) k.asked.asked ∙ ap sort_by k.way_is) ∙ put)) owners stands turns tells fed held
      where
        in_out : ways.In ≡ ways.Out → ⊥
        in_out e = cc

        no_put : ◌≡◌ {A = Sort} sorts.Get sorts.Put → ⊥
        no_put e = cc
    next_holds (commands.Put name bytes by) room small why f =
        let k : IsAskedAs d m o ways.Out by bytes = named_as ways.Out (length bytes) by bytes tt (λ out. refl) takes_put puts_out (endpoint_of d name) f in
        let some = room.0 in
        subst (λ (bs : List ℕ). HoldsPuts o.driver o.memory (with_put puts (length d.transfers) bs)) k.bytes_are
        (put_holds_puts d m o parts puts k.asked (ap receives k.way_is) (let by_is = k.by_is in omega (arith, some, by_is)) (subst (AllByRecursion (λ b. b < 256)) (sym k.bytes_are) small) owners lent stands turns tells fed held)
    next_holds (commands.Control name setup bytes) room small why f =
        get_holds_puts d m o parts puts why.transfers (λ put. no_put (sym (ap (λ (a : Asked). a.sort) why.asked) ∙ put)) owners stands turns tells fed held
      where
        no_put : ◌≡◌ {A = Sort} sorts.Request sorts.Put → ⊥
        no_put e = cc
    next_holds (commands.Iso name count len seed) room small why f = absurd (iso_named count len seed (endpoint_of d name) f)
    next_holds (commands.Cancel name) room small why f =
        same_holds d o.driver m o.memory puts (ap (λ (g : Offered). g.driver.transfers) why.is) (ap (λ (g : Offered). g.driver.notes) why.is) (λ at. ap (λ (g : Offered). word_at g.memory at) why.is) held
    next_holds _ room small why f = absurd why

busy_holds : (d : DriverContent) (m : Mem) (cmd : Cmd) (o : Offered) (parts : StructureSets) (puts : ℕ → List ℕ) (c : Option Command) → d.command ≡ c → IsOffered d.room cmd → IsByteCommand cmd → AcceptsAsynchronous d m o cmd
    → cond (is_some c) (Err errors.Busy) (offered_next d m cmd) ≡ Ok o → HasOwners d → AreLent d → Stands (holding d.book m) → AsynchronousTakesTurns d → Tells m parts → AreFed d parts → HoldsPuts d m puts → HoldsPuts o.driver o.memory (puts_then d cmd puts)
busy_holds d m cmd o parts puts (Some c) is room small why f owners lent stands turns tells fed held = absurd (cc)
busy_holds d m cmd o parts puts None is room small why f owners lent stands turns tells fed held = next_holds d m o is turns.asynchronous parts puts owners lent stands turns tells fed held cmd room small why f

pub command_holds_puts : CommandHoldsPuts
command_holds_puts d m cmd o parts puts only room small f owners lent stands turns tells fed held =
    busy_holds d m cmd o parts puts d.command refl room small (asynchronous_command_is_accepted d m cmd o turns.asynchronous only f) f owners lent stands turns tells fed held
