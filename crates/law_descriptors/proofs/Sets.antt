-- What stands at a name once descriptors are lent: their own structures, or what stood there.
use Rattle.std.proofs.Common.{◌≡◌, ◌≢◌, ℕ, zero, suc, ◌*◌, ◌⊎◌, ◌==◌, Bool, true, false, List, [], ◌∷◌, ◌++◌, take, slice_get, Some, if◌then◌else◌, ap, refl, sym, subst, ◌∙◌, inl, inr, ⊎_elim, arith}
use Rattle.std.proofs.lemmas.Bool.{eq-eqb, eqb-true}
use Rattle.std.proofs.lemmas.Option.{same_Some}
use Rattle.law_common.proofs.Numbers.{other_number}
use Rattle.usb_base.specs.declared.endpoints.EpDesc.{EpDesc}
use Rattle.word_mem.specs.Memory.{Mem}
use Rattle.drv_periodic_table.specs.declared.content.DescriptorNote.{DescriptorNote}
use Rattle.drv_periodic_table.specs.Periodic.{note_at}
use Rattle.drv_table.specs.declared.content.Transfer.{Transfer}
use Rattle.law_structures.specs.lent_structures.Structures.{Structure, Structures, StructureSets}
use Rattle.law_driver_ring.specs.Written.{AreAllApart}
use Rattle.law_driver_ring.proofs.Lists.{IsOneOf, one_left, one_right, one_either, each_of, apart_left, apart_right}
use Rattle.law_descriptors.specs.Written.{runs_of}
use Rattle.law_descriptors.specs.Lent.{descriptor_with, buffer_part, descriptor_part, lent_descs}

-- ---- the runs of one of them

abbrev pub its_runs : List DescriptorNote → ℕ → List ℕ
its_runs notes b = b ∷ take (note_at notes b).runs (note_at notes b).buffer

-- are among those of all
pub runs_among : (notes : List DescriptorNote) (ys : List Transfer) (i : ℕ) (y : Transfer) (c : ℕ) → slice_get ys i ≡ Some y → IsOneOf c (its_runs notes y.first) → IsOneOf c (runs_of notes ys)
runs_among notes [] i y c there one = absurd (cc)
runs_among notes (z ∷ ys) zero y c there one =
    let same : IsOneOf c (its_runs notes z.first) = subst (λ (w : Transfer). IsOneOf c (its_runs notes w.first)) (sym (same_Some z y there)) one in
    one_left c (its_runs notes z.first) (runs_of notes ys) same
runs_among notes (z ∷ ys) (suc i) y c there one = one_right c (its_runs notes z.first) (runs_of notes ys) (runs_among notes ys i y c there one)

-- each run is one of somebody's
pub record IsRunOf (notes : List DescriptorNote) (ys : List Transfer) (c : ℕ) : Type 0 where
  pub index : ℕ
  pub transfer : Transfer
  pub here : slice_get ys index ≡ Some transfer
  pub one : IsOneOf c (its_runs notes transfer.first)

pub run_of : (notes : List DescriptorNote) (ys : List Transfer) (c : ℕ) → IsOneOf c (runs_of notes ys) → IsRunOf notes ys c
run_of notes [] c one = absurd one
run_of notes (z ∷ ys) c (inl is) = record { index = 0; transfer = z; here = refl; one = inl is }
run_of notes (z ∷ ys) c (inr there) =
    ⊎_elim (λ (mine : IsOneOf c (take (note_at notes z.first).runs (note_at notes z.first).buffer)). record { index = 0; transfer = z; here = refl; one = inr mine })
    (λ (rest : IsOneOf c (runs_of notes ys)). let r = run_of notes ys c rest in record { index = suc r.index; transfer = r.transfer; here = r.here; one = r.one })
    (one_either c (take (note_at notes z.first).runs (note_at notes z.first).buffer) (runs_of notes ys) there)

pub runs_apart_at : (notes : List DescriptorNote) (ys : List Transfer) (i : ℕ) (y : Transfer) → slice_get ys i ≡ Some y → AreAllApart (runs_of notes ys) → AreAllApart (its_runs notes y.first)
runs_apart_at notes [] i y there apart = absurd (cc)
runs_apart_at notes (z ∷ ys) zero y there apart =
    subst (λ (w : Transfer). AreAllApart (its_runs notes w.first)) (same_Some z y there) (apart_left (its_runs notes z.first) (runs_of notes ys) apart)
runs_apart_at notes (z ∷ ys) (suc i) y there apart = runs_apart_at notes ys i y there (apart_right (its_runs notes z.first) (runs_of notes ys) apart)

-- ---- a descriptor's structures

pub part_found : (m : Mem) (x : EpDesc) (note : DescriptorNote) (b l a : ℕ) (s : Structure) → descriptor_part m x note b l a ≡ Some s
    → ((a ≡ 32 * b) × (s ≡ descriptor_with x note l)) ⊎ (buffer_part m note (take note.runs note.buffer) a ≡ Some s)
part_found m x note b l a s found = by (a == 32 * b) refl found
  where
    by : (t : Bool) → (a == 32 * b) ≡ t → (if t then Some (descriptor_with x note l) else buffer_part m note (take note.runs note.buffer) a) ≡ Some s
        → ((a ≡ 32 * b) × (s ≡ descriptor_with x note l)) ⊎ (buffer_part m note (take note.runs note.buffer) a ≡ Some s)
    by true e is = inl (eqb-true a (32 * b) e, sym (same_Some (descriptor_with x note l) s is))
    by false e is = inr is

-- ---- all of them

module _ (m : Mem) (x : EpDesc) (notes : List DescriptorNote) (link : ℕ → ℕ) (descs : StructureSets) where
  abbrev now : List Transfer → StructureSets
  now ys = lent_descs m x notes link ys descs

  abbrev own : ℕ → Structures
  own b = descriptor_part m x (note_at notes b) b (link b)

  pub set_old : (ys : List Transfer) (n : ℕ) → ((i : ℕ) (y : Transfer) → slice_get ys i ≡ Some y → n ≢ 32 * y.first) → now ys n ≡ descs n
  set_old [] n differ = refl
  set_old (y ∷ ys) n differ =
      ap (λ (t : Bool). if t then own y.first else now ys n) (other_number n (32 * y.first) (differ 0 y refl)) ∙ set_old ys n (λ i z there. differ (suc i) z there)

  pub set_new : (ys : List Transfer) (i : ℕ) (y : Transfer) → slice_get ys i ≡ Some y → AreAllApart (runs_of notes ys) → now ys (32 * y.first) ≡ own y.first
  set_new [] i y there apart = absurd (cc)
  set_new (z ∷ ys) zero y there apart =
      subst (λ (w : Transfer). now (z ∷ ys) (32 * w.first) ≡ own w.first) (same_Some z y there)
      (ap (λ (t : Bool). if t then own z.first else now ys (32 * z.first)) (eq-eqb (32 * z.first) (32 * z.first) refl))
  set_new (z ∷ ys) (suc i) y there apart =
      ap (λ (t : Bool). if t then own z.first else now ys (32 * y.first))
      (other_number (32 * y.first) (32 * z.first)
      (λ same.
      each_of (λ (c : ℕ). c ≢ z.first) y.first (take (note_at notes z.first).runs (note_at notes z.first).buffer ++ runs_of notes ys) apart.0
      (one_right y.first (take (note_at notes z.first).runs (note_at notes z.first).buffer) (runs_of notes ys) (runs_among notes ys i y y.first there (inl refl)))
      (let e : y.first ≡ z.first = omega (arith, same) in e)))
      ∙ set_new ys i y there (apart_right (its_runs notes z.first) (runs_of notes ys) apart)

  -- one of the new ones is there
  pub record IsNewAt (ys : List Transfer) (n a : ℕ) (s : Structure) : Type 0 where
    pub index : ℕ
    pub transfer : Transfer
    pub here : slice_get ys index ≡ Some transfer
    pub owner : n ≡ 32 * transfer.first
    pub found : own transfer.first a ≡ Some s

  later : (z : Transfer) (ys : List Transfer) (n a : ℕ) (s : Structure) → IsNewAt ys n a s ⊎ (descs n a ≡ Some s) → IsNewAt (z ∷ ys) n a s ⊎ (descs n a ≡ Some s)
  later z ys n a s (inl k) = inl (record { index = suc k.index; transfer = k.transfer; here = k.here; owner = k.owner; found = k.found })
  later z ys n a s (inr there) = inr there

  pub set_found : (ys : List Transfer) (n a : ℕ) (s : Structure) → now ys n a ≡ Some s → IsNewAt ys n a s ⊎ (descs n a ≡ Some s)
  set_found [] n a s found = inr found
  set_found (y ∷ ys) n a s found = by (n == 32 * y.first) refl found (λ is. set_found ys n a s is)
    where
      by : (t : Bool) → (n == 32 * y.first) ≡ t → (if t then own y.first else now ys n) a ≡ Some s → (now ys n a ≡ Some s → IsNewAt ys n a s ⊎ (descs n a ≡ Some s)) → IsNewAt (y ∷ ys) n a s ⊎ (descs n a ≡ Some s)
      by true e is rest = inl (record { index = 0; transfer = y; here = refl; owner = eqb-true n (32 * y.first) e; found = is })
      by false e is rest = later y ys n a s (rest is)
