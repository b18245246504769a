-- Each event of the driver leaves what is known of those that left.
use Rattle.std.proofs.Common.{◌≡◌, ◌≢◌, ℕ, true, List, [], slice_get, Some, ap, refl, sym, subst, ◌∙◌}
use Rattle.std.specs.List.{concat}
use Rattle.std.proofs.lemmas.Bool.{and_parts}
use Rattle.std.proofs.lemmas.Option.{same_Some}
use Rattle.law_world.proofs.Common.{begins_both}
use Rattle.usb_base.specs.declared.packets.Way.TheVariants as ways
use Rattle.bus_wire.specs.Bus.{Fixed}
use Rattle.claims_base.specs.Prefix.{IsPrefix}
use Rattle.claims_report.specs.Streams.{has_stream}
use Rattle.drv_table.specs.declared.content.Endpoint.{Endpoint}
use Rattle.drv_table.specs.Words.{is_high}
use Rattle.law_devices.specs.scripted_takers.Takers.{taker_of}
use Rattle.law_world.specs.steps.Outs.{IsUntaken}
use Rattle.law_world.specs.steps.Streaming.{wired}
use Rattle.law_queues.specs.leaving_drivers.Told.{told_to}
use Rattle.law_world.specs.memory.Mixed.{Standing, IsMixedAt}
use Rattle.law_world.specs.memory.Steps.{IsMixedNext}
use Rattle.law_world.specs.memory.Steps.{QueueStep, stays, harvests, returns, lends, stores, mends, begins, opens, unlinks, narrows, goes}
use Rattle.law_world.specs.memory.pipe_steps.Laws.{IsNoOpening}
use Rattle.law_world.proofs.lemmas.memory.Driving.{driver_tells_step}
use Rattle.law_reports.specs.lines.Lined.{in_hand, Lines}
use Rattle.law_reports.specs.lines.TellingLaws.{IsTellingNext}
use Rattle.law_reports.proofs.lemmas.lines.Driven.{driver_keeps_telling}
use Rattle.law_reports.proofs.lemmas.lines.IsoGoing.{told_apart}
use Rattle.bus_world.specs.World.{World, driver_next}
use Rattle.law_reports.specs.pipes.Declared.{Sides, IsDeclaredBy}
use Rattle.law_reports.specs.pipes.Piped.{Heads, IsOpening, IsUnused, HasTakenAtLeast, HasBegun, IsPiped, IsFollowed, HasFollowed}
use Rattle.law_reports.specs.pipes.FollowedLaws.{DriverKeepsFollowed}
use Rattle.law_reports.proofs.lemmas.pipes.Begun.{ins_begun, outs_begun}
use Rattle.law_reports.proofs.lemmas.pipes.Driven.{heads_left, driven}
use Rattle.law_reports.proofs.lemmas.pipes.Followed.{unmet_then, gone_then, unmet_opened, gone_returned}
use Rattle.law_reports.proofs.lemmas.pipes.Leaving.{IsNoReturn}
use Rattle.law_reports.proofs.lemmas.pipes.Names.{name_is}
use Rattle.law_reports.proofs.lemmas.pipes.Opened.{heads_opened, opened_piped}

in_way : ways.In ≢ ways.Ctl
in_way e = cc

out_way : ways.Out ≢ ways.Ctl
out_way e = cc

pub in_less : (x : Sides) (addr ep : ℕ) (bytes more : List ℕ) → IsPrefix bytes more → IsPrefix more (concat (x.packets addr ep))
    → IsPrefix bytes (concat (x.packets addr ep))
in_less x addr ep bytes more front all = begins_both bytes more (concat (x.packets addr ep)) front all

module _ (fixed : Fixed) (x : Sides) (s : Standing) (m : Lines) (h : Heads) (w : World) (f : IsFollowed fixed x s m h w) where
  abbrev k : IsPiped fixed x s m h w
  k = f.piped

  abbrev InBegun : ℕ → ℕ → List ℕ → Type 0
  InBegun = HasBegun x (wired fixed w) ways.In

  abbrev OutBegun : ℕ → ℕ → List ℕ → Type 0
  OutBegun = HasBegun x (wired fixed w) ways.Out

  out_less : (addr ep : ℕ) (bytes more : List ℕ) → IsPrefix bytes more → HasTakenAtLeast (taker_of (wired fixed w) addr ep) more
      → HasTakenAtLeast (taker_of (wired fixed w) addr ep) bytes
  out_less addr ep bytes more front all =
      record { taker = all.taker; is = all.is; begins = begins_both bytes more all.taker.taken front all.begins }

  ins_stream : (e : ℕ) (y : Endpoint) → slice_get w.driver.endpoints e ≡ Some y → y.desc.name.way ≡ ways.In
      → x.sends y.desc.name.addr y.desc.name.num ≡ true → has_stream y.desc.kind ≡ true
  ins_stream e y here is on =
      (and_parts (has_stream y.desc.kind) (is_high y.desc.speed) (sym (subst (IsDeclaredBy x y.desc) is (k.declared e y here)) ∙ on)).0

  outs_stream : (e : ℕ) (y : Endpoint) → slice_get w.driver.endpoints e ≡ Some y → y.desc.name.way ≡ ways.Out
      → x.takes y.desc.name.addr y.desc.name.num ≡ true → has_stream y.desc.kind ≡ true
  outs_stream e y here is on =
      (and_parts (has_stream y.desc.kind) (is_high y.desc.speed) (sym (subst (IsDeclaredBy x y.desc) is (k.declared e y here)) ∙ on)).0

  in_none : (addr ep : ℕ) → IsPrefix [] (concat (x.packets addr ep))
  in_none addr ep = (concat (x.packets addr ep), refl)

  ins_new : (e : ℕ) (y : Endpoint) → slice_get w.driver.endpoints e ≡ Some y → y.desc.name.way ≡ ways.In
      → x.sends y.desc.name.addr y.desc.name.num ≡ true → IsOpening w.driver y → InBegun y.desc.name.addr y.desc.name.num []
  ins_new e y here is on opening = in_none y.desc.name.addr y.desc.name.num

  -- no other endpoint has its name
  unused : (e : ℕ) (y : Endpoint) → slice_get w.driver.endpoints e ≡ Some y → y.desc.name.way ≡ ways.Out → IsOpening w.driver y
      → IsUnused w.driver ways.Out y.desc.name.addr y.desc.name.num
  unused e y here is opening i v there its same also =
      let one : i ≡ e = told_apart w.driver (in_hand s) s.parts m.reported k.telling.told i e v y there here
      (name_is v.desc.name y.desc.name same also (its ∙ sym is)) in
      subst (IsOpening w.driver) (same_Some y v (sym here ∙ ap (slice_get w.driver.endpoints) (sym one) ∙ there)) opening

  outs_new : (e : ℕ) (y : Endpoint) → slice_get w.driver.endpoints e ≡ Some y → y.desc.name.way ≡ ways.Out
      → x.takes y.desc.name.addr y.desc.name.num ≡ true → IsOpening w.driver y → OutBegun y.desc.name.addr y.desc.name.num []
  outs_new e y here is on opening =
      let u : IsUntaken (taker_of (wired fixed w) y.desc.name.addr y.desc.name.num) =
      k.fresh_outs y.desc.name.addr y.desc.name.num on (unused e y here is opening) in
      record { taker = u.taker; is = u.is; begins = (u.taker.taken, refl) }

  -- ---- a step

  module _ (t : Standing) (step : QueueStep s w (driver_next w) t) (mixed : IsMixedAt t (driver_next w))
      (next : IsTellingNext s m w (driver_next w) t step) where
    left_by : (other : IsNoOpening step)
        → ((e : ℕ) (z : Endpoint) → slice_get (driver_next w).driver.endpoints e ≡ Some z → z.desc.name.way ≡ ways.In
        → x.sends z.desc.name.addr z.desc.name.num ≡ true → z.gone ≡ true
        → InBegun z.desc.name.addr z.desc.name.num (told_to (driver_next w).driver z.desc.name))
        → ((e : ℕ) (z : Endpoint) → slice_get (driver_next w).driver.endpoints e ≡ Some z → z.desc.name.way ≡ ways.Out
        → x.takes z.desc.name.addr z.desc.name.num ≡ true → z.gone ≡ true
        → OutBegun z.desc.name.addr z.desc.name.num (told_to (driver_next w).driver z.desc.name)) → HasFollowed fixed x (driver_next w)
    left_by other gone_ins gone_outs = record {
      standing = t;
      lines = next.lines;
      heads = heads_left fixed x s m h w k t;
      followed = record {
        piped = driven fixed x s m h w k t step other mixed next;
        left_ins = record {
          unmet = λ e z here is on there off.
              unmet_then fixed x s m h w k ways.In x.sends InBegun in_way (in_less x) ins_stream
              (ins_begun fixed x s m h w k f.left_ins) ins_new f.left_ins t step next.lines next.after other e z here is on there;
          gone = gone_ins;
        };
        left_outs = record {
          unmet = λ e z here is on there off.
              unmet_then fixed x s m h w k ways.Out x.takes OutBegun out_way out_less outs_stream
              (outs_begun fixed x s m h w k f.left_outs) outs_new f.left_outs t step next.lines next.after other e z here is on there;
          gone = gone_outs;
        };
      };
    }

    left_on : IsNoOpening step → IsNoReturn step → HasFollowed fixed x (driver_next w)
    left_on other stay =
        left_by other
        (gone_then fixed x s m h w k ways.In x.sends InBegun in_way (in_less x) ins_stream (ins_begun fixed x s m h w k f.left_ins)
        ins_new f.left_ins t step stay)
        (gone_then fixed x s m h w k ways.Out x.takes OutBegun out_way out_less outs_stream (outs_begun fixed x s m h w k f.left_outs)
        outs_new f.left_outs t step stay)

  by_step : (t : Standing) (step : QueueStep s w (driver_next w) t) → IsMixedAt t (driver_next w)
      → IsTellingNext s m w (driver_next w) t step → HasFollowed fixed x (driver_next w)
  by_step t (opens at _ alike opened) mixed next = record {
    standing = t;
    lines = next.lines;
    heads = heads_opened fixed x s m h w k at t alike opened mixed next;
    followed = record {
      piped = opened_piped fixed x s m h w k at t alike opened mixed next;
      left_ins = record {
        unmet = λ e z here is on there off.
            unmet_opened fixed x s m h w k ways.In x.sends InBegun in_way (in_less x) ins_stream
            (ins_begun fixed x s m h w k f.left_ins) ins_new f.left_ins t (opens at t alike opened) next.lines at next.after e z here is on
            there;
        gone = gone_then fixed x s m h w k ways.In x.sends InBegun in_way (in_less x) ins_stream
            (ins_begun fixed x s m h w k f.left_ins) ins_new f.left_ins t (opens at t alike opened) tt;
      };
      left_outs = record {
        unmet = λ e z here is on there off.
            unmet_opened fixed x s m h w k ways.Out x.takes OutBegun out_way out_less outs_stream
            (outs_begun fixed x s m h w k f.left_outs) outs_new f.left_outs t (opens at t alike opened) next.lines at next.after e z here is
            on there;
        gone = gone_then fixed x s m h w k ways.Out x.takes OutBegun out_way out_less outs_stream
            (outs_begun fixed x s m h w k f.left_outs) outs_new f.left_outs t (opens at t alike opened) tt;
      };
    };
  }
  by_step t (goes e y d _ back is) mixed next =
      left_by t (goes e y d t back is) mixed next tt
      (gone_returned fixed x s m h w k ways.In x.sends InBegun in_way (in_less x) ins_stream (ins_begun fixed x s m h w k f.left_ins)
      ins_new f.left_ins t (goes e y d t back is) e y d back is mixed)
      (gone_returned fixed x s m h w k ways.Out x.takes OutBegun out_way out_less outs_stream
      (outs_begun fixed x s m h w k f.left_outs) outs_new f.left_outs t (goes e y d t back is) e y d back is mixed)
  by_step t (stays _ none still) mixed next = left_on t (stays t none still) mixed next tt tt
  by_step t (harvests e u found due later row out) mixed next = left_on t (harvests e u found due later row out) mixed next tt tt
  by_step t (returns u y v row r) mixed next = left_on t (returns u y v row r) mixed next tt tt
  by_step t (lends b words get order out row behind) mixed next = left_on t (lends b words get order out row behind) mixed next tt tt
  by_step t (stores b words g is) mixed next = left_on t (stores b words g is) mixed next tt tt
  by_step t (mends at row) mixed next = left_on t (mends at row) mixed next tt tt
  by_step t (begins at row alike) mixed next = left_on t (begins at row alike) mixed next tt tt
  by_step t (unlinks at row) mixed next = left_on t (unlinks at row) mixed next tt tt
  by_step t (narrows member near row are fewer) mixed next = left_on t (narrows member near row are fewer) mixed next tt tt

pub driver_keeps_followed : DriverKeepsFollowed
driver_keeps_followed fixed x w f =
    let n : IsMixedNext f.standing w (driver_next w) = driver_tells_step f.standing w f.followed.piped.mixed in
    by_step fixed x f.standing f.lines f.heads w f.followed n.standing n.step n.mixed
    (driver_keeps_telling f.standing f.lines w n.standing n.step f.followed.piped.mixed n.mixed f.followed.piped.telling
    f.followed.piped.going)
