-- A worked read of a control endpoint below a hub.
use Rattle.std.proofs.Common.{◌≡◌, ap, false, [], inl, inr, refl}
use Rattle.usb_base.specs.declared.packets.Pid.TheVariants as Pids
use Rattle.transactions.specs.Calls.{Call}
use Rattle.law_below_hubs.specs.ControlAsks.IsRequestToken.{setup, data_stage, status}
use Rattle.law_below_hubs.specs.WorkedControl.{SetupComesTrue, DataComeTrue, StatusComesTrue, HostHears, OtherKindBreaks, NoHubHears, SetupIsInTurn, DataAreInTurn, OutOfTurnBreaks, TooLongBreaks, SetupStands, WrongAskBreaks}

pub setup_comes_true : SetupComesTrue
setup_comes_true = record {
  before = (
    (
      record {
        slot = record { is_told = false; packet = []; is = refl };
        keyed = record { once = inr refl; entries = tt; none = refl };
      },
      tt,
    ),
    tt,
  );
  aside = (
    (
      record {
        slot = record { is_told = false; packet = []; is = refl };
        keyed = record { once = inr refl; entries = tt; none = refl };
      },
      tt,
    ),
    tt,
  );
  right = ((record { first = λ addr num. record { kind = refl; token = setup refl }; second = tt; entries = tt }, tt), tt);
  unset = refl;
  after = (
    (
      record {
        slot = record { is_told = false; packet = []; is = refl };
        keyed = record { once = inr refl; entries = tt; none = refl };
      },
      tt,
    ),
    tt,
  );
  stages = refl;
}

pub data_come_true : DataComeTrue
data_come_true = record {
  before = (
    (
      record {
        slot = record { is_told = false; packet = []; is = refl };
        keyed = record { once = inl refl; entries = tt; none = refl };
      },
      tt,
    ),
    tt,
  );
  aside = (
    (
      record {
        slot = record { is_told = false; packet = []; is = refl };
        keyed = record { once = inr refl; entries = tt; none = refl };
      },
      tt,
    ),
    tt,
  );
  right = ((record { first = tt; second = λ addr num. record { kind = refl; token = data_stage refl }; entries = tt }, tt), tt);
  after = (
    (
      record {
        slot = record { is_told = false; packet = []; is = refl };
        keyed = record { once = inl refl; entries = tt; none = refl };
      },
      tt,
    ),
    tt,
  );
  stages = refl;
}

pub status_comes_true : StatusComesTrue
status_comes_true = record {
  before = (
    (
      record {
        slot = record { is_told = false; packet = []; is = refl };
        keyed = record { once = inr refl; entries = tt; none = refl };
      },
      tt,
    ),
    tt,
  );
  right = ((record { first = λ addr num. record { kind = refl; token = status refl }; second = tt; entries = tt }, tt), tt);
  after = (
    (
      record {
        slot = record { is_told = false; packet = []; is = refl };
        keyed = record { once = inr refl; entries = tt; none = refl };
      },
      tt,
    ),
    tt,
  );
  stages = refl;
}

pub host_hears : HostHears
host_hears = refl

pub other_kind_breaks : OtherKindBreaks
other_kind_breaks = record {
  wrong = λ right. let e = (right.0.0.first refl refl).kind in absurd cc;
  none = (
    (
      record {
        slot = record { is_told = false; packet = []; is = refl };
        keyed = record { once = inr refl; entries = tt; none = refl };
      },
      tt,
    ),
    tt,
  );
  stages = refl;
}

pub no_hub_hears : NoHubHears
no_hub_hears = record {
  silent = refl;
  none = (
    (
      record {
        slot = record { is_told = false; packet = []; is = refl };
        keyed = record { once = inr refl; entries = tt; none = refl };
      },
      tt,
    ),
    tt,
  );
  stages = refl;
}

pub setup_is_in_turn : SetupIsInTurn
setup_is_in_turn = record {
  right = ((record { first = λ addr num. record { dir = refl; kind = refl; token = λ other. cc }; second = tt; entries = tt }, tt), tt);
  fits = refl;
  control = refl;
}

pub data_are_in_turn : DataAreInTurn
data_are_in_turn = record {
  right = ((record { first = tt; second = λ addr num. record { dir = refl; kind = refl; token = λ other. cc }; entries = tt }, tt), tt);
  fits = refl;
  control = refl;
}

pub out_of_turn_breaks : OutOfTurnBreaks
out_of_turn_breaks right = let e = (right.0.0.second refl refl).dir in absurd cc

pub too_long_breaks : TooLongBreaks
too_long_breaks fits = absurd cc

pub setup_stands : SetupStands
setup_stands = record {
  is = record { setup = refl; bytes = λ write. absurd cc };
  holds = record {
    at = (
      record { on = refl; asks = refl },
      record { host_max = refl; device_max = refl; stage = record { moved = refl; left = refl; acts = refl } },
    );
    aside = tt;
  };
}

pub wrong_ask_breaks : WrongAskBreaks
wrong_ask_breaks holds = let e : Pids.In ≡ Pids.Setup = ap (λ (call : Call). call.ask.pid) holds.at.0.asks in absurd cc
