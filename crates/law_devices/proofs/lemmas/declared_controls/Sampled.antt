-- The sample script has what the laws say.
use Rattle.std.proofs.Common.{refl, arith, [], ◌∷◌}
use Rattle.law_devices.specs.Samples.{second}
use Rattle.law_devices.specs.declared_controls.Opened.{OpensControls}
use Rattle.law_devices.specs.declared_controls.Names.{HasItsName, NamesEndpoints}
use Rattle.law_devices.specs.declared_controls.Requests.{IsAsked, AsksRequests}
use Rattle.law_devices.specs.declared_controls.Samples.{zero, reading, writing, beside_bulk}
use Rattle.law_devices.proofs.lemmas.declared_controls.Names.{hub_named}

-- the hub's endpoint isn't one of a device
pub sample_opens : OpensControls beside_bulk
sample_opens = ((λ _ _ _. refl), ((λ e _ _. cc), ((λ _ _ e. cc), (tt, (tt, tt)))))

zero_named : HasItsName zero
zero_named = record { name = record { number = refl; way = refl }; most = λ _. omega arith; high = λ _ _. refl }

second_named : HasItsName second
second_named = record { name = record { least = omega arith; most = omega arith; way = λ e. cc }; most = λ e. cc; high = λ e _. cc }

pub sample_names : NamesEndpoints beside_bulk
sample_names = record {
  declared = ((zero_named, (second_named, tt)), tt);
  opened = (zero_named, (second_named, (hub_named 4, (tt, (tt, tt)))));
}

reads : IsAsked zero.name reading []
reads = record {
  zero = record { number = refl; way = refl };
  whole = record {
    request = record { setup = refl; bytes = λ e. cc };
    read = λ _. refl;
    setup_bytes = (omega arith, (omega arith, (omega arith, (omega arith, (omega arith, (omega arith, (omega arith, (omega arith, tt))))))));
    data_bytes = tt;
  };
}

writes : IsAsked zero.name writing (5 ∷ 6 ∷ [])
writes = record {
  zero = record { number = refl; way = refl };
  whole = record {
    request = record { setup = refl; bytes = λ _. refl };
    read = λ e. cc;
    setup_bytes = (omega arith, (omega arith, (omega arith, (omega arith, (omega arith, (omega arith, (omega arith, (omega arith, tt))))))));
    data_bytes = (omega arith, (omega arith, tt));
  };
}

pub sample_requests : AsksRequests beside_bulk
sample_requests = (tt, (tt, (tt, (reads, (writes, tt)))))
