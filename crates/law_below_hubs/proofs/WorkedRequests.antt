-- A worked read below a hub, with a packet lost on each bus.
use Rattle.std.proofs.Common.{◌≡◌, ◌≤◌, false, [], ap, refl, sym, ◌∙◌, inl, inr, subst, arith}
use Rattle.usb_base.specs.declared.packets.Dir.{Dir}
use Rattle.usb_base.specs.declared.packets.Dir.TheVariants as Directions
use Rattle.usb_base.specs.declared.packets.Pid.TheVariants as Pids
use Rattle.hub_keys.specs.Keys.{direction_of}
use Rattle.law_request.specs.Host.{Host, token_at, is_over}
use Rattle.law_translated.specs.Lift.{Idle, Empty, Asked, Buffered, IsQuiet}
use Rattle.law_translated.specs.KeySlots.{KeySlot}
use Rattle.law_translated.specs.KeyEvents.{mapped}
use Rattle.law_translated.specs.Windows.{goes_on as goes_on_line}
use Rattle.law_below_hubs.specs.ControlAsks.IsRequestToken.{setup as setup_token}
use Rattle.law_below_hubs.specs.ControlTurns.{turned}
use Rattle.law_below_hubs.specs.ControlWork.{control_call, control_answer, control_key}
use Rattle.law_below_hubs.specs.HostIns.{starts}
use Rattle.law_below_hubs.specs.HubsKeys.{HubsHave}
use Rattle.law_below_hubs.specs.HostRequests.{goes_on}
use Rattle.law_below_hubs.specs.WorkedControl.{own, reading, taken, setup, both_asked}
use Rattle.law_below_hubs.specs.WorkedRequests.{HubRestsFirst, AnswerIsLost, IsAfterMicroframe, WorksFirst, LossHeard, ActedOnce}
use Rattle.law_below_hubs.specs.WorkedRequests.{BothAskedBreaks, first, answer_lost, erred}
use Rattle.law_below_hubs.proofs.RequestBeside.{begin_leaves_request}

none_there : (dir : Dir) → HubsHave Buffered (control_key own dir) 0 0 first.bus.hubs Empty
none_there Directions.In = (
  (
    record {
      slot = record { is_told = false; packet = []; is = refl };
      keyed = record { once = inl refl; entries = tt; none = refl };
    },
    tt,
  ),
  tt,
)
none_there Directions.Out = (
  (
    record {
      slot = record { is_told = false; packet = []; is = refl };
      keyed = record { once = inl refl; entries = tt; none = refl };
    },
    tt,
  ),
  tt,
)

pub hub_rests_first : HubRestsFirst
hub_rests_first = record {
  slots = λ dir. Empty;
  has = none_there;
  quiet = λ dir. tt;
  right = λ r. ((record { first = tt; second = tt; entries = tt }, tt), tt);
  max = refl;
  device = refl;
}

pub answer_is_lost : AnswerIsLost
answer_is_lost = record {
  side = record {
    line = goes_on_line erred;
    wait = Idle;
    dir = Directions.Out;
    slot = Asked (taken Pids.Setup Pids.Data0 setup);
    aside = Empty;
    is_line = goes_on refl;
    is_wait = starts;
    faces = λ on. refl;
    idle = λ over no_error. cc;
    acted = refl;
    has = (
      (
        record {
          slot = record { is_told = false; packet = []; is = refl };
          keyed = record { once = inr refl; entries = tt; none = refl };
        },
        tt,
      ),
      tt,
    );
    other = (
      (
        record {
          slot = record { is_told = false; packet = []; is = refl };
          keyed = record { once = inr refl; entries = tt; none = refl };
        },
        tt,
      ),
      tt,
    );
    right = ((record { first = λ addr num. record { kind = refl; token = setup_token refl }; second = tt; entries = tt }, tt), tt);
    device = refl;
    holds = record {
      at = (
        record { on = refl; asks = refl },
        record { host_max = refl; device_max = refl; stage = record { moved = refl; left = refl; acts = refl } },
      );
      aside = tt;
    };
  };
  stands = record { host_max = refl; device_max = refl; stage = record { moved = refl; left = refl; acts = refl } };
  within = inl refl;
}

pub is_after_microframe : IsAfterMicroframe
is_after_microframe =
    begin_leaves_request own reading 0 0 1 answer_lost erred [] (record { setup = refl; bytes = λ write. absurd cc })
    (let room : 64 ≤ 1024 = omega (arith) in room) answer_is_lost

pub works_first : WorksFirst
works_first = record {
  below = refl;
  toggles = refl;
  address = refl;
  number = refl;
  goes_on = refl;
  pid = refl;
  side = refl;
}

pub loss_heard : LossHeard
loss_heard = refl

pub acted_once : ActedOnce
acted_once = refl

-- ---- what breaks it

pub both_asked_breaks : BothAskedBreaks
both_asked_breaks l is o =
    let faces : o.side.dir ≡ Directions.Out =
    o.side.faces (ap (λ (h : Host). is_over h.stage) is) ∙ ap (λ (h : Host). direction_of (token_at reading h.stage)) is in
    let there : HubsHave Buffered (control_key own Directions.In) 0 0 both_asked.bus.hubs o.side.aside =
    subst (λ (d : Dir). HubsHave Buffered (control_key own (turned d)) 0 0 both_asked.bus.hubs o.side.aside) faces o.side.other in
    let same : Asked (taken Pids.In Pids.Data1 []) ≡ o.side.aside = there.0.0.slot.is in
    subst (λ (s : KeySlot). IsQuiet (mapped control_call control_answer s)) (sym same) o.side.holds.aside
