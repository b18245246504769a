-- Worked puts below a hub.
use Rattle.std.proofs.Common.{◌≡◌, Bool, true, false, [], inr, refl}
use Rattle.usb_base.specs.declared.packets.Pid.TheVariants as Pids
use Rattle.toggle_error.specs.Columns.{expected_pid}
use Rattle.law_below_hubs.specs.WorkedPut.{StartIsTaken, ResultIsThere, NoToggleBreaks}

pub start_is_taken : StartIsTaken
start_is_taken = record {
  has = (
    (
      record {
        slot = record { is_told = false; packet = []; is = refl };
        keyed = record { once = inr refl; entries = tt; none = refl };
      },
      tt,
    ),
    tt,
  );
  right = (
    (
      record {
        first = record { kind = λ dir addr ep. refl; packet = λ dir addr ep. record { token = refl; second = false; toggle = refl } };
        second = tt;
        entries = tt;
      },
      tt,
    ),
    tt,
  );
  taker = refl;
}

pub result_is_there : ResultIsThere
result_is_there = record {
  has = (
    (
      record {
        slot = record { is_told = false; packet = []; is = refl };
        keyed = record { once = inr refl; entries = tt; none = refl };
      },
      tt,
    ),
    tt,
  );
  taker = refl;
}

no_toggle : (b : Bool) → Pids.Mdata ≡ expected_pid b → ⊥
no_toggle true e = cc
no_toggle false e = cc

pub no_toggle_breaks : NoToggleBreaks
no_toggle_breaks put = let p = put.packet refl refl refl in no_toggle p.second p.toggle
