-- Worked slots of keys.
use Rattle.std.proofs.Common.{false, [], inl, inr, refl}
use Rattle.law_translated.specs.KeySteps.OwnStart.{repeats}
use Rattle.law_translated.specs.WorkedSlots.{EachHasItsOwn, TwiceBreaks, ThirdHasItsOwn, TwoEntriesBreak}

pub each_has_its_own : EachHasItsOwn
each_has_its_own = record {
  first = record {
    slot = record { is_told = false; packet = []; is = refl };
    keyed = record { once = inr refl; entries = tt; none = refl };
  };
  second = record {
    slot = record { is_told = false; packet = []; is = refl };
    keyed = record { once = inl refl; entries = tt; none = refl };
  };
}

pub twice_breaks : TwiceBreaks
twice_breaks = record {
  not_once = λ h. elim h [ inl e ↦ absurd (cc) | inr e ↦ absurd (cc) ];
  not_told = λ s. elim s [
    | repeats way busy ↦ busy tt
  ];
}

pub third_has_its_own : ThirdHasItsOwn
third_has_its_own = record {
  slot = record { is_told = false; packet = []; is = refl };
  keyed = record {
    once = refl;
    entries = (
      record { key = refl },
      tt,
      (
        record { key = refl },
        tt,
        (
          record { key = refl },
          record {
            kind = refl;
            came = refl;
            sent = refl;
            age = inl (record { heard = refl; done = refl; ahead = ([], refl); before = inl refl });
          },
          tt,
        ),
      ),
    );
    first = refl;
    second = refl;
  };
}

pub two_entries_break : TwoEntriesBreak
two_entries_break once = absurd cc
