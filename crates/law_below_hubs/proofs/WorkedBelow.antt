-- Worked starts below a hub.
use Rattle.std.proofs.Common.{false, [], inr, refl}
use Rattle.law_below_hubs.specs.WorkedBelow.{StartIsTaken, ResultIsThere, OtherKindBreaks, NamesTheHub}

pub start_is_taken : StartIsTaken
start_is_taken = record {
  has = (
    (
      record {
        slot = record { is_told = false; packet = []; is = refl };
        keyed = record { once = inr refl; entries = tt; none = refl };
      },
      tt,
    ),
    tt,
  );
  right = ((record { first = λ dir addr ep. refl; second = tt; entries = tt }, tt), tt);
  sender = refl;
}

pub result_is_there : ResultIsThere
result_is_there = record {
  has = (
    (
      record {
        slot = record { is_told = false; packet = []; is = refl };
        keyed = record { once = inr refl; entries = tt; none = refl };
      },
      tt,
    ),
    tt,
  );
  sender = refl;
}

pub other_kind_breaks : OtherKindBreaks
other_kind_breaks right = let e = right.0.0.first refl refl refl in absurd cc

pub names_the_hub : NamesTheHub
names_the_hub = record {
  at = record { found = refl; content = _; there = refl; place_is = refl };
  none = (
    (
      record {
        slot = record { is_told = false; packet = []; is = refl };
        keyed = record { once = inr refl; entries = tt; none = refl };
      },
      tt,
    ),
    tt,
  );
  no_hub = λ at. let f = at.found in absurd cc;
}
