-- A command that is refused is one line more of the report.
use Rattle.std.proofs.Common.{ℕ, Bool, List, length, Option, Some, Err, refl, inl, inr, ⊎_elim}
use Rattle.std.specs.Prelude.{◌≤◌}
use Rattle.usb_base.specs.declared.endpoints.EpName.{EpName}
use Rattle.usb_base.specs.declared.reports.OfferError.{OfferError}
use Rattle.usb_base.specs.declared.reports.Report.{Report}
use Rattle.usb_base.specs.declared.reports.What.TheVariants.{Refused}
use Rattle.word_mem.specs.Memory.{Mem}
use Rattle.bus_wire.specs.Bus.{Fixed}
use Rattle.drv_table.specs.declared.content.Command.{Command}
use Rattle.drv_table.specs.declared.content.Command.TheVariants as unfinished
use Rattle.drv_table.specs.DriverContent.{DriverContent}
use Rattle.law_structures.specs.lent_structures.Structures.{StructureSets}
use Rattle.law_queues.specs.fed_lends.ToLend.{IsToBeLent}
use Rattle.law_queues.specs.open_laws.Lends.{IsOpenReady}
use Rattle.law_queues.specs.open_laws.Opens.{IsOpenLent}
use Rattle.law_queues.proofs.lemmas.commanded_queues.Tails.{reaches_alike}
use Rattle.law_queues.proofs.lemmas.harvest_laws.Standing.{refused_is_told}
use Rattle.bus_world.specs.World.{World, refused_line, commanded_by}
use Rattle.law_world.specs.steps.Streaming.{Streams, Standing}
use Rattle.law_world.specs.streams.Feeding.{IsFeeding}
use Rattle.law_queues.specs.standing_fronts.Tails.{tail_of}
use Rattle.law_world.specs.streams.Tails.{IsUnderWay}
use Rattle.law_world.specs.streams.Left.{IsLeft}
use Rattle.law_world.specs.streams.Whole.{IsWhole}

module _ (d : DriverContent) (line : ℕ) (name : EpName) (why : OfferError) (m : Mem) where
  abbrev f : DriverContent
  f = refused_line d line name why

  ready : IsOpenReady d m → IsOpenReady f m
  ready k = record {
    number = k.number;
    endpoint = k.endpoint;
    here = k.here;
    command = k.command;
    made = k.made;
    fresh = k.fresh;
    none = k.none;
    link = k.link;
    opened = record {
      here = k.opened.here;
      taken = k.opened.taken;
      queue_kept = k.opened.queue_kept;
      dummy_kept = k.opened.dummy_kept;
      no_transfer = k.opened.no_transfer;
      queue_words = k.opened.queue_words;
      dummy_words = k.opened.dummy_words;
      range = k.opened.range;
    };
  }

  lent : (member : ℕ → Bool) (parts : StructureSets) → IsOpenLent d member parts → IsOpenLent f member parts
  lent member parts k = record { number = k.number; endpoint = k.endpoint; here = k.here; command = k.command; made = k.made; fresh = k.fresh; unmet = k.unmet; none = k.none; link = k.link; part = k.part }

  to_be_lent : (b : ℕ) (words : List ℕ) → IsToBeLent d m b words → IsToBeLent f m b words
  to_be_lent b words k =
      let r = k.awaits in
      record {
        number = k.number;
        transfer = k.transfer;
        endpoint = k.endpoint;
        stage = k.stage;
        further = k.further;
        command = k.command;
        made = k.made;
        newest = k.newest;
        there = k.there;
        here = k.here;
        going = k.going;
        first = k.first;
        place = k.place;
        left = k.left;
        fresh = k.fresh;
        awaits = record {
          here = r.here;
          qtds = r.qtds;
          first = r.first;
          taken = r.taken;
          apart = r.apart;
          ends = r.ends;
          qtds_kept = r.qtds_kept;
          noted = r.noted;
          words = r.words;
          short = r.short;
          pids = r.pids;
        };
        stages = k.stages;
        sort = k.sort;
        are = k.are;
      }

  under_way : (member : ℕ → Bool) (parts : StructureSets) (c : Option Command) → IsUnderWay d m member parts c → IsUnderWay f m member parts c
  under_way member parts (Some (unfinished.Open queue)) k = ⊎_elim (λ (r : IsOpenReady d m). inl (ready r)) (λ (l : IsOpenLent d member parts). inr (lent member parts l)) k
  under_way member parts (Some (unfinished.Publish b words)) k = ⊎_elim (λ (g : IsToBeLent d m b words). inl (to_be_lent b words g)) (λ (made : 1 ≤ d.made). inr made) k
  under_way member parts (Some (unfinished.Unlink e b link)) k = k
  under_way member parts _ k = tt

pub refused_whole : (fixed : Fixed) (takes : ℕ → ℕ → Bool) (member : ℕ → Bool) (x : Streams) (s : Standing) (w : World) (line : ℕ) (name : EpName) (why : OfferError)
    → IsFeeding fixed member x s (commanded_by w line name (Err why)) → IsLeft fixed takes x.packets s.acc (commanded_by w line name (Err why)) → IsWhole fixed takes member x s w
    → IsWhole fixed takes member x s (commanded_by w line name (Err why))
refused_whole fixed takes member x s w line name why feeding left k =
    let d = w.driver in
    let row : Report = record { name = name; what = Refused line why; from = length d.store; len = 0 } in
    record {
      feeding = feeding;
      under_way = under_way d line name why w.memory member s.parts d.command k.under_way;
      names = k.names;
      senders = k.senders;
      takers = k.takers;
      controls_apart = k.controls_apart;
      taking = record { ends = k.taking.ends; piped = k.taking.piped; untaken = k.taking.untaken };
      runs = k.runs;
      tails = λ e z here met.
          reaches_alike d (refused_line d line name why) s.parts s.order s.out e (tail_of d e z) z z refl refl
          (λ h u y at there held. record { transfer = y; here = there; endpoint = refl; released = refl; qtds = refl; left = refl; places = λ j most. refl })
          (k.tails e z here (record { there = record { linked = met.there.linked; kept = met.there.kept }; near = met.near }));
      told = refused_is_told d (refused_line d line name why) s.hand s.parts s.reported row refl refl refl refl refl refl refl refl refl k.told;
      bytes = k.bytes;
      left = left;
    }
