-- The worked rows of what a command adds.
use Rattle.std.proofs.Common.{◌≡◌, [], ◌∷◌, refl, ap, ◌∙◌, arith}
use Rattle.std.specs.List.{sum_by}
use Rattle.drv_table.specs.declared.content.Transfer.{Transfer}
use Rattle.drv_table.specs.Harvests.{note_at}
use Rattle.claims_answers.specs.Telling.{qtds_of}
use Rattle.law_footprints.specs.Worked.{a_get, working}
use Rattle.law_reports.specs.answers.Adding.{added_with, AGetAddsItsBytes, NoBytesAddedIsWrong, NothingAddedIsWrong}

pub a_get_adds_its_bytes : AGetAddsItsBytes
a_get_adds_its_bytes room = record {
  transfer = record a_get { first = 0; place = 0 };
  added = refl;
  endpoint = refl;
  of = working;
  here = refl;
  sort = refl;
  most = refl;
  unbegun = record { place = refl; untold = refl; held = refl };
  left = refl;
  some = omega arith;
  bytes = refl;
  endpoints = refl;
}

second : (a b c : Transfer) → a ∷ b ∷ [] ≡ a ∷ c ∷ [] → b ≡ c
second a b c is = cc

pub no_bytes_added_is_wrong : NoBytesAddedIsWrong
no_bytes_added_is_wrong room most adds =
    let same = second a_get (record a_get { first = 0; place = 0; most = most }) adds.transfer adds.added in
    let notes = (added_with room 0 most).notes in
    let none : 0 ≡ 512 = ap (λ (y : Transfer). sum_by (λ b. (note_at notes b).told) (qtds_of notes y.first y.qtds)) same ∙ adds.bytes in
    omega (arith, none)

one_two : (a b : Transfer) → a ∷ [] ≡ a ∷ b ∷ [] → ⊥
one_two a b is = cc

pub nothing_added_is_wrong : NothingAddedIsWrong
nothing_added_is_wrong room adds = one_two a_get adds.transfer adds.added
