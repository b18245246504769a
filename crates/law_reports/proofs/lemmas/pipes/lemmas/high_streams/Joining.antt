-- Where the pipes of a world agree, what was moved of each endpoint at high speed begins its packets, or what its device took.
use Rattle.std.proofs.Common.{◌≡◌, ℕ, ◌*◌, Bool, true, false, List, slice_get, Option, Some, None, ap, refl, sym, subst, ◌∙◌}
use Rattle.std.specs.Prelude.{◌&&◌, ◌||◌}
use Rattle.std.specs.List.{concat}
use Rattle.std.proofs.lemmas.Bool.{and_from}
use Rattle.law_driver.proofs.Common.{out_way, in_way}
use Rattle.law_world.proofs.Common.{empty_prefix, named_in}
use Rattle.usb_base.specs.declared.endpoints.EpName.{EpName}
use Rattle.usb_base.specs.declared.packets.Way.{Way}
use Rattle.usb_base.specs.declared.packets.Way.TheVariants as ways
use Rattle.script_types.specs.declared.scripts.Script.{Script}
use Rattle.endpoint_script.specs.Items.{packets_of}
use Rattle.claims_base.specs.Prefix.{IsPrefix}
use Rattle.bus_wire.specs.Bus.{fixed_of, opening_wired}
use Rattle.claims_report.specs.Streams.{items_of, told_in, has_stream}
use Rattle.law_queues.specs.told_endpoints.Telling.{lines_in}
use Rattle.claims_driver.specs.Scripts.{receives, comes_in}
use Rattle.claims_world.specs.Streams.{report_of, IsToldTaken}
use Rattle.drv_table.specs.declared.content.Endpoint.{Endpoint}
use Rattle.drv_table.specs.Words.{is_high}
use Rattle.law_ring.specs.Bus.{Sender}
use Rattle.law_ring.specs.OutBus.{Taker}
use Rattle.law_devices.specs.Senders.{sender_of}
use Rattle.law_devices.specs.opening_senders.Own.{HasOwnDevices}
use Rattle.law_devices.specs.scripted_takers.Takers.{taker_of}
use Rattle.law_devices.proofs.lemmas.opening_senders.Opening.{opening_sends}
use Rattle.law_driver.specs.queued_drivers.Queued.{queued_endpoint, queued}
use Rattle.law_driver_ring.specs.fed_queues.Places.{IsThere}
use Rattle.law_world.specs.steps.Streaming.{wired}
use Rattle.law_world.specs.streams.Feeding.{left_of}
use Rattle.law_world.specs.streams.taken_reports.Laws.{bytes_taken}
use Rattle.law_world.proofs.lemmas.streams.lemmas.taken_reports.Turning.{run_keeps_seats}
use Rattle.law_world.specs.memory.Mixed.{Standing}
use Rattle.law_reports.specs.lines.Lined.{Lines}
use Rattle.law_reports.specs.pipes.Declared.{sides_of, IsDeclaredBy}
use Rattle.law_reports.specs.pipes.Piped.{Heads, HasTakenAtLeast, IsPiped, IsFollowed}
use Rattle.law_reports.proofs.lemmas.pipes.Begun.{ins_begun, outs_begun}
use Rattle.law_reports.proofs.lemmas.pipes.FollowedMoments.{texts_are_followed}
use Rattle.bus_world.specs.Budgets.{moment}
use Rattle.bus_world.specs.Opening.{opening_world}
use Rattle.bus_world.specs.Orders.{at_place, orders_of}
use Rattle.bus_world.specs.World.{World}
use Rattle.law_reports.specs.pipes.high_streams.Reports.{IsHigh, HasHighReport}
use Rattle.claims_world.specs.HighStreams.{AreHighInStreams, AreHighTakenStreams}
use Rattle.law_reports.specs.pipes.high_streams.Names.{HasItsNames}
use Rattle.law_reports.specs.pipes.high_streams.Keeping.{PipedInsBegin, PipedOutsBegin, IsPipedThroughout, PipedKeepHigh, TextsKeepHigh}
use Rattle.law_reports.proofs.lemmas.pipes.lemmas.high_streams.Names.{texts_have_names}
use Rattle.law_reports.proofs.lemmas.pipes.lemmas.high_streams.Opened.{moments_are_opened}
use Rattle.law_reports.proofs.lemmas.pipes.lemmas.high_streams.Reporting.{high_reports_are_right, high_reports_are_taken}

-- ---- the packets of a name

packets_begin : (s : Script) (name : EpName) (xs : List ℕ) → HasOwnDevices s → name.way ≡ ways.In
    → IsPrefix xs (concat ((sides_of s).packets name.addr name.num)) → IsPrefix xs (concat (packets_of (items_of s name)))
packets_begin s name xs own way k = by (sender_of (opening_wired s) name.addr name.num) refl
  where
    by : (o : Option Sender) → sender_of (opening_wired s) name.addr name.num ≡ o → IsPrefix xs (concat (packets_of (items_of s name)))
    by None is =
        empty_prefix xs (concat (packets_of (items_of s name)))
        (subst (λ (o : Option Sender). IsPrefix xs (concat (left_of o))) is k)
    by (Some x) is =
        subst (λ (n : EpName). IsPrefix xs (concat (packets_of (items_of s n)))) (named_in name way)
        (subst (λ (ps : List (List ℕ)). IsPrefix xs (concat ps)) (opening_sends s name.addr name.num x own is)
        (subst (λ (o : Option Sender). IsPrefix xs (concat (left_of o))) is k))

neither : (a b : Bool) → (a || b) ≡ false → a ≡ false
neither true b is = is
neither false b is = refl

-- ---- a world

module _ (s : Script) (t : Standing) (m : Lines) (h : Heads) (w : World) (f : IsFollowed (fixed_of s) (sides_of s) t m h w) where
  abbrev k : IsPiped (fixed_of s) (sides_of s) t m h w
  k = f.piped

  module _ (e : ℕ) (y : Endpoint) (here : slice_get w.driver.endpoints e ≡ Some y) (high : IsHigh s y.desc) where
    is_claimed : (has_stream y.desc.kind && is_high y.desc.speed) ≡ true
    is_claimed = and_from (has_stream y.desc.kind) (is_high y.desc.speed) high.stream (ap is_high high.speed)

    -- ---- data come in

    module _ (comes : comes_in y.desc.name.way ≡ true) where
      way : y.desc.name.way ≡ ways.In
      way = in_way y.desc.name.way comes

      sends : (sides_of s).sends y.desc.name.addr y.desc.name.num ≡ true
      sends = subst (λ (v : Way). IsDeclaredBy (sides_of s) y.desc v) way (k.declared e y here) ∙ is_claimed

      pub there_in : HasOwnDevices s → IsThere (queued w.driver) (queued_endpoint y)
          → IsPrefix (concat (m.acc (32 * y.queue))) (concat (packets_of (items_of s y.desc.name)))
      there_in own there =
          packets_begin s y.desc.name (concat (m.acc (32 * y.queue))) own way
          (ins_begun (fixed_of s) (sides_of s) t m h w f.piped f.left_ins e y here way sends there)

      pub gone_in : HasOwnDevices s → y.gone ≡ true
          → IsPrefix (told_in w.driver.store (lines_in y.desc.name w.driver.reports)) (concat (packets_of (items_of s y.desc.name)))
      gone_in own gone =
          packets_begin s y.desc.name (told_in w.driver.store (lines_in y.desc.name w.driver.reports)) own way
          (f.left_ins.gone e y here way sends gone)

    -- ---- data leave the host

    module _ (leaves : receives y.desc.name.way ≡ false) where
      out : y.desc.name.way ≡ ways.Out
      out = out_way y.desc.name.way leaves

      takes : (sides_of s).takes y.desc.name.addr y.desc.name.num ≡ true
      takes = subst (λ (v : Way). IsDeclaredBy (sides_of s) y.desc v) out (k.declared e y here) ∙ is_claimed

      abbrev o : Option Taker
      o = taker_of (wired (fixed_of s) w) y.desc.name.addr y.desc.name.num

      begun : (z : Option Taker) (bytes : List ℕ) → HasTakenAtLeast z bytes → IsToldTaken bytes (bytes_taken z)
      begun z bytes b = subst (λ (v : Option Taker). IsToldTaken bytes (bytes_taken v)) (sym b.is) b.begins

      pub there_out : IsThere (queued w.driver) (queued_endpoint y) → IsToldTaken (concat (m.acc (32 * y.queue))) (bytes_taken o)
      there_out there =
          begun o (concat (m.acc (32 * y.queue)))
          (outs_begun (fixed_of s) (sides_of s) t m h w f.piped f.left_outs e y here out takes there)

      pub gone_out : y.gone ≡ true → IsToldTaken (told_in w.driver.store (lines_in y.desc.name w.driver.reports)) (bytes_taken o)
      gone_out gone =
          begun o (told_in w.driver.store (lines_in y.desc.name w.driver.reports)) (f.left_outs.gone e y here out takes gone)

pub piped_ins_begin : PipedInsBegin
piped_ins_begin s t m h w own f = record {
  there = λ e y here high comes there. there_in s t m h w f e y here high comes own there;
  gone = λ e y here high comes gone. gone_in s t m h w f e y here high comes own gone;
}

pub piped_outs_begin : PipedOutsBegin
piped_outs_begin s t m h w f = record {
  there = λ e y here high leaves there. there_out s t m h w f e y here high leaves there;
  gone = λ e y here high leaves gone. gone_out s t m h w f e y here high leaves gone;
}

-- ---- each moment

module _ (s : Script) (names : HasItsNames s) (all : IsPipedThroughout s) (i : ℕ) where
  abbrev v : World
  v = (moment s i).world

  abbrev report_at : HasHighReport s (moment s i).world
  report_at = record {
    told = record {
      standing = (all i).standing;
      lines = (all i).lines;
      mixed = (all i).followed.piped.mixed;
      telling = (all i).followed.piped.telling;
      going = (all i).followed.piped.going;
    };
    opened = moments_are_opened s names.fit i;
    once = names.once;
    fits = names.ways;
    seated = run_keeps_seats s (fixed_of s) (at_place (opening_world s) (orders_of s.lines)) i names.seated;
  }

  pub ins_at : AreHighInStreams s (report_of (fixed_of s) (moment s i).world)
  ins_at =
      high_reports_are_right s (moment s i).world report_at
      (piped_ins_begin s (all i).standing (all i).lines (all i).heads (moment s i).world names.own (all i).followed)

  pub taken_at : AreHighTakenStreams s (report_of (fixed_of s) (moment s i).world)
  taken_at =
      high_reports_are_taken s (moment s i).world report_at
      (piped_outs_begin s (all i).standing (all i).lines (all i).heads (moment s i).world (all i).followed)

pub piped_keep_high : PipedKeepHigh
piped_keep_high s names all = record { ins = ins_at s names all; taken = taken_at s names all }

pub texts_keep_high : TextsKeepHigh
texts_keep_high text s spelled = piped_keep_high s (texts_have_names text s spelled) (texts_are_followed text s spelled)
