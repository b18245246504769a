-- A harvest leaves what tells the buffers of puts: of notes it writes only how much was moved, and of transfers how far they were read.
use Rattle.std.proofs.Common.{◌≡◌, ℕ, zero, suc, ◌-◌, Bool, true, false, cond, List, [], ◌∷◌, ◌++◌, length, set, slice_get, Option, Some, None, refl, ◌∙◌}
use Rattle.usb_base.specs.declared.endpoints.EpName.{EpName}
use Rattle.usb_base.specs.declared.endpoints.EndCause.{EndCause}
use Rattle.usb_base.specs.declared.reports.What.{What}
use Rattle.word_mem.specs.Memory.{Mem}
use Rattle.drv_table.specs.declared.content.Endpoint.{Endpoint}
use Rattle.drv_table.specs.declared.content.QtdNote.{QtdNote}
use Rattle.drv_table.specs.declared.content.Transfer.{Transfer}
use Rattle.drv_table.specs.declared.rows.Found.{Found}
use Rattle.drv_table.specs.declared.rows.Found.TheVariants as founds
use Rattle.drv_table.specs.DriverContent.{DriverContent, waits_for}
use Rattle.drv_table.specs.Harvests.{note_at, noted, is_stall, end_of}
use Rattle.drv_table.specs.Harvesting.{served, told_with, behind_one, behind, mends_of, after_end, harvested_as, after_harvest}
use Rattle.law_world.proofs.lemmas.streams.lemmas.put_laws.HeldAlike.{note_itself, WereThere, was_itself, were_set, SameNotes, noted_same}

-- both are told alike
pub record Likes (d f : DriverContent) : Type 0 where
  pub transfers : WereThere d.transfers f.transfers
  pub notes : SameNotes d.notes f.notes

likes_itself : (d : DriverContent) → Likes d d
likes_itself d = record { transfers = λ t y here. was_itself d.transfers t y here; notes = λ b. note_itself (note_at d.notes b) }

likes_both : (d e f : DriverContent) → Likes d e → Likes e f → Likes d f
likes_both d e f one two = record {
  transfers = λ t y here.
      let later = two.transfers t y here in
      let first = one.transfers t later.transfer later.there in
      record {
        transfer = first.transfer;
        there = first.there;
        first = later.first ∙ first.first;
        qtds = later.qtds ∙ first.qtds;
        sort = later.sort ∙ first.sort;
        released = later.released ∙ first.released;
      };
  notes = λ b.
      let later = two.notes b in
      let first = one.notes b in
      record { next = later.next ∙ first.next; buffer = later.buffer ∙ first.buffer; told = later.told ∙ first.told };
}

either : (d e f : DriverContent) (b : Bool) → Likes d e → Likes d f → Likes d (cond b e f)
either d e f true one two = one
either d e f false one two = two

-- a transfer is reported
reported_like : (d : DriverContent) (t : ℕ) (y : Transfer) → slice_get d.transfers t ≡ Some y → WereThere d.transfers (set d.transfers t (record y { reported = true }))
reported_like d t y there = were_set d.transfers t y (record y { reported = true }) there refl refl refl refl

same_notes : (notes : List QtdNote) → SameNotes notes notes
same_notes notes b = note_itself (note_at notes b)

-- ---- requests behind a stalled one

one_like : (d : DriverContent) (e : ℕ) (name : EpName) (k : ℕ) (o : Option Transfer) → slice_get d.transfers k ≡ o → Likes d (behind_one d e name k o)
one_like d e name k None there = likes_itself d
one_like d e name k (Some y) there = either d _ d (waits_for e y) (record { transfers = reported_like d k y there; notes = same_notes d.notes }) (likes_itself d)

behind_like : (d : DriverContent) (e : ℕ) (name : EpName) (k n : ℕ) → Likes d (behind d e name k n)
unfolding behind
behind_like d e name k zero = likes_itself d
behind_like d e name k (suc n) =
    let one = behind_one d e name k (slice_get d.transfers k) in
    likes_both d one (behind one e name (suc k) n) (one_like d e name k (slice_get d.transfers k) refl) (behind_like one e name (suc k) n)

-- ---- the end of a transfer

told_like : (d : DriverContent) (m : Mem) (t : ℕ) (y : Transfer) (what : What) (name : EpName) (n : ℕ) → slice_get d.transfers t ≡ Some y → Likes d (told_with d m t y what name (noted d.notes y.place n))
told_like d m t y what name n there = record { transfers = reported_like d t y there; notes = noted_same d.notes y.place n }

end_like : (d : DriverContent) (e t : ℕ) (x : Endpoint) (stall : Bool) (o : Option EndCause) → Likes d (after_end d e t x stall o)
end_like d e t x stall (Some cause) = record { transfers = λ u y here. was_itself d.transfers u y here; notes = same_notes d.notes }
end_like d e t x true None =
    let f : DriverContent = record d { harvested = d.harvested ++ t ∷ []; endpoints = set d.endpoints e (record x { next = None }); mends = d.mends ++ mends_of x } in
    likes_both d f (behind f e x.desc.name (suc t) (length d.transfers - suc t)) (record { transfers = λ u y here. was_itself d.transfers u y here; notes = same_notes d.notes })
    (behind_like f e x.desc.name (suc t) (length d.transfers - suc t))
end_like d e t x false None = record { transfers = λ u y here. was_itself d.transfers u y here; notes = same_notes d.notes }

-- ---- what was read

read_like : (d : DriverContent) (m : Mem) (e t : ℕ) (x : Endpoint) (y : Transfer) (found : Found) → slice_get d.transfers t ≡ Some y → Likes d (harvested_as d m e t x y found)
read_like d m e t x y founds.Active there = likes_itself d
read_like d m e t x y (founds.Moved n) there = record {
  transfers = were_set d.transfers t y (record y { place = (note_at d.notes y.place).next; left = y.left - 1 }) there refl refl refl refl;
  notes = noted_same d.notes y.place n;
}
read_like d m e t x y (founds.Served errors) there = record { transfers = reported_like d t y there; notes = same_notes d.notes }
read_like d m e t x y (founds.Ended n what) there =
    let f = told_with d m t y what x.desc.name (noted d.notes y.place n) in
    likes_both d f (after_end f e t x (is_stall what) (end_of x.desc.kind what)) (told_like d m t y what x.desc.name n there) (end_like f e t x (is_stall what) (end_of x.desc.kind what))

served_like : (d f : DriverContent) (e : ℕ) → Likes d f → Likes d (served f e)
served_like d f e k = record { transfers = k.transfers; notes = k.notes }

pub harvest_like : (d : DriverContent) (m : Mem) (e t : ℕ) (found : Found) (o : Option Endpoint) (q : Option Transfer) → slice_get d.transfers t ≡ q → Likes d (after_harvest d m e t found o q)
harvest_like d m e t found None q there = likes_itself d
harvest_like d m e t found (Some x) None there = likes_itself d
harvest_like d m e t found (Some x) (Some y) there =
    either d (served (harvested_as d m e t x y found) e) d (waits_for e y) (served_like d (harvested_as d m e t x y found) e (read_like d m e t x y found there)) (likes_itself d)
