-- What a worked host below a hub waits for.
use Rattle.std.proofs.Common.{◌≡◌, inl, false, [], refl, sym, subst, Some}
use Rattle.usb_base.specs.declared.packets.Pid.TheVariants as Pids
use Rattle.usb_base.specs.declared.packets.Reply.TheVariants.{Hand, Bytes}
use Rattle.law_translated.specs.Lift.{Empty, Asked, There, Told}
use Rattle.law_translated.specs.KeySlots.{KeySlot}
use Rattle.law_below_hubs.specs.Awaited.{StandsAs}
use Rattle.law_below_hubs.specs.WorkedAwaited.{NoneAwaited, StartAwaited, ResultAwaited, UnstartedBreaks, RequestAwaited, OtherTokenBreaks}
use Rattle.law_below_hubs.specs.WorkedControl as Controls
use Rattle.law_below_hubs.specs.WorkedPut.{taken}
use Rattle.law_below_hubs.proofs.WorkedControl.{setup_comes_true, data_come_true}
use Rattle.law_below_hubs.proofs.WorkedPut.{start_is_taken, result_is_there}

pub none_awaited : NoneAwaited
none_awaited = record {
  slot = Empty;
  has = (
    (
      record {
        slot = record { is_told = false; packet = []; is = refl };
        keyed = record { once = inl refl; entries = tt; none = refl };
      },
      tt,
    ),
    tt,
  );
  stands = tt;
  ends = refl;
}

pub start_awaited : StartAwaited
start_awaited = record { slot = Asked taken; has = start_is_taken.has; stands = refl; ends = refl }

pub result_awaited : ResultAwaited
result_awaited = record { slot = There taken (Hand Pids.Ack); has = result_is_there.has; stands = refl; ends = refl }

pub unstarted_breaks : UnstartedBreaks
unstarted_breaks k = by k.slot (sym k.has.0.0.slot.is) k.stands
  where
    by : (s : KeySlot) → s ≡ Empty → StandsAs (Some Pids.Out) s → ⊥
    by s is stands = subst (StandsAs (Some Pids.Out)) is stands

-- ---- a control endpoint

pub request_awaited : RequestAwaited
request_awaited = record {
  setup = record {
    slot = Asked (Controls.taken Pids.Setup Pids.Data0 Controls.setup);
    has = setup_comes_true.before;
    stands = refl;
    ends = refl;
  };
  aside = record { slot = Empty; has = setup_comes_true.aside; stands = tt; ends = refl };
  answer = record {
    slot = There (Controls.taken Pids.Setup Pids.Data0 Controls.setup) (Hand Pids.Ack);
    has = setup_comes_true.after;
    stands = refl;
    ends = refl;
  };
  told = record {
    slot = Told (Controls.taken Pids.Setup Pids.Data0 Controls.setup) (Hand Pids.Ack);
    has = data_come_true.aside;
    stands = tt;
    ends = refl;
  };
  data_stage = record {
    slot = There (Controls.taken Pids.In Pids.Data1 []) (Bytes Pids.Data1 Controls.reply);
    has = data_come_true.after;
    stands = refl;
    ends = refl;
  };
}

pub other_token_breaks : OtherTokenBreaks
other_token_breaks k = by k.slot (sym k.has.0.0.slot.is) k.stands
  where
    setup_out : Pids.Setup ≡ Pids.Out → ⊥
    setup_out e = cc

    by : (s : KeySlot) → s ≡ Asked (Controls.taken Pids.Setup Pids.Data0 Controls.setup) → StandsAs (Some Pids.Out) s → ⊥
    by s is stands = setup_out (subst (StandsAs (Some Pids.Out)) is stands)
