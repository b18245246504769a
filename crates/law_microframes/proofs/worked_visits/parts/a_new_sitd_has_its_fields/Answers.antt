use Rattle.std.specs.Prelude.{[]}
use Rattle.std.proofs.Common.{refl, arith}
use Rattle.drv_periodic_table.specs.Descriptors.{new_sitd}
use Rattle.law_microframes.specs.time.SitdFields.{HaveSitdFields}
use Rattle.law_microframes.specs.worked_visits.Samples.{placed_speaker, speaker_desc}
use Rattle.law_microframes.proofs.worked_visits.parts.a_new_sitd_has_its_fields.Goals as goal

pub returns-clause-fields : goal.returns-clause-fields
returns-clause-fields c = record {
  classic = refl;
  has = record {
    way = refl;
    named = (refl, (refl, (refl, refl)));
    smask = refl;
    cmask = refl;
    prog = omega arith;
    parts = record { fits = λ on. omega arith; count = λ on out. refl; within = λ on out. omega arith; position = λ on out. refl };
  };
}

pub returns-clause-other : goal.returns-clause-other
returns-clause-other c = λ (is : HaveSitdFields (new_sitd speaker_desc 0x07 0 400 []) speaker_desc placed_speaker.placement). absurd
    (let same = is.has.smask in omega (arith, same))

pub returns-clause-longer : goal.returns-clause-longer
returns-clause-longer c = λ (is : HaveSitdFields (new_sitd speaker_desc 0x0E 0 401 []) speaker_desc placed_speaker.placement). absurd
    (let many = is.has.parts.fits refl in omega (arith, many))
