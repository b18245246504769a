-- What is as before of the queues: which of them are there, which are met, and what is out of them.
use Rattle.std.proofs.Common.{◌≡◌, ◌≢◌, ℕ, suc, ◌*◌, Bool, true, false, nat_eq, cond, List, [], ◌∷◌, ◌++◌, length, slice_get, Option, Some, None, ap, sym, ◌∙◌, refl}
use Rattle.law_queues.proofs.Common.{not_open}
use Rattle.drv_table.specs.declared.content.Endpoint.{Endpoint}
use Rattle.drv_table.specs.declared.content.Transfer.{Transfer}
use Rattle.drv_table.specs.declared.content.QtdNote.{QtdNote}
use Rattle.drv_table.specs.declared.content.Command.{Command}
use Rattle.drv_table.specs.declared.content.Command.TheVariants as unfinished
use Rattle.drv_table.specs.DriverContent.{DriverContent}
use Rattle.claims_driver.specs.Owners.{NoteRuns, note_in}
use Rattle.law_driver.specs.chained_transfers.Out.{unpublished, out_of_transfer, if_last, out_of, out_now, out_all}
use Rattle.law_driver_ring.specs.fed_queues.Fed.{unpublished_of}
use Rattle.law_driver_ring.specs.fed_queues.Places.{IsThere, IsMet, HasHead, HasThere}
use Rattle.law_queues.specs.leaving_drivers.Before.{WasSame, UnlinksAtMost, IsAsBefore, NearSame, NearFewer}

-- ---- both ways

pub back : (d f : DriverContent) → IsAsBefore d f → IsAsBefore f d
back d f b = record {
  book = sym b.book;
  notes = sym b.notes;
  transfers = sym b.transfers;
  harvested = sym b.harvested;
  reports = sym b.reports;
  store = sym b.store;
  idle = b.idle_now;
  idle_now = b.idle;
  ends = b.ends_now;
  ends_now = b.ends;
}

pub near_back : (d f : DriverContent) → NearSame d f → NearSame f d
near_back d f near e x z was now = sym (near e z x now was)

pub near_fewer : (d f : DriverContent) → NearSame d f → NearFewer d f
near_fewer d f near e x z was now on = sym (near e x z was now) ∙ on

-- ---- commands

pub not_publish : (o : Option Command) (b : ℕ) (words : List ℕ) → UnlinksAtMost o → o ≢ Some (unfinished.Publish b words)
not_publish None b words may is = cc
not_publish (Some (unfinished.Unlink e c link)) b words may is = cc
not_publish _ b words may is = may

-- ---- one endpoint

-- it is there, if its blocks weren't given back
pub there_by : (d : DriverContent) (x : Endpoint) → UnlinksAtMost d.command → x.gone ≡ false → IsThere d x
there_by d x may kept = record { linked = not_open d.command x.queue may; kept = kept }

pub there_before : (d f : DriverContent) (i : ℕ) (z : Endpoint) (w : WasSame d i z) → IsAsBefore d f → IsThere f z → IsThere d w.endpoint
there_before d f i z w b t = there_by d w.endpoint b.idle (sym w.gone ∙ t.kept)

pub met_before : (d f : DriverContent) (i : ℕ) (z : Endpoint) (w : WasSame d i z) → slice_get f.endpoints i ≡ Some z → IsAsBefore d f → NearFewer d f → IsMet f i z → IsMet d i w.endpoint
met_before d f i z w here b near m = record { there = there_before d f i z w b m.there; near = near i w.endpoint z w.here here m.near }

-- ---- queue heads

pub there_now : (d f : DriverContent) (n : ℕ) → IsAsBefore d f → HasThere d n → HasThere f n
there_now d f n b h =
    let w = b.ends_now h.number h.endpoint h.here in
    record {
      number = h.number;
      endpoint = w.endpoint;
      here = w.here;
      there = there_before f d h.number h.endpoint w (back d f b) h.there;
      at = h.at ∙ ap (λ (q : ℕ). 32 * q) w.queue;
    }

pub head_now : (d f : DriverContent) (n : ℕ) → IsAsBefore d f → NearSame d f → HasHead d n → HasHead f n
head_now d f n b near h =
    let w = b.ends_now h.number h.endpoint h.here in
    record {
      number = h.number;
      endpoint = w.endpoint;
      here = w.here;
      met = met_before f d h.number h.endpoint w h.here (back d f b) (near_fewer f d (near_back d f near)) h.met;
      at = h.at ∙ ap (λ (q : ℕ). 32 * q) w.queue;
    }

-- ---- what is out

unpublished_none : (o : Option Command) (made n : ℕ) → UnlinksAtMost o → unpublished o made n ≡ 0
unpublished_none None made n may = refl
unpublished_none (Some (unfinished.Unlink e b link)) made n may = refl
unpublished_none _ made n may = absurd may

out_none : (note : ℕ → NoteRuns) (e : ℕ) (o : Option Command) (made : ℕ) (ts : List Transfer) → UnlinksAtMost o → out_of note e o made ts ≡ out_of note e None 0 ts
out_none note e o made [] may = refl
out_none note e o made (y ∷ ys) may =
    ap (λ (n : ℕ). out_of_transfer note e (if_last ys n) y ++ out_of note e o made ys) (unpublished_none o made y.qtds may)
    ∙ ap (λ (zs : List ℕ). out_of_transfer note e (if_last ys 0) y ++ zs) (out_none note e o made ys may)

-- all that is out
pub out_is_all : (d : DriverContent) (e : ℕ) → UnlinksAtMost d.command → out_now d e ≡ out_all d e
out_is_all d e may = out_none (note_in d.notes) e d.command d.made d.transfers may

pub out_before : (d f : DriverContent) (e : ℕ) → IsAsBefore d f → out_now f e ≡ out_now d e
out_before d f e b =
    out_is_all f e b.idle_now ∙ ap (λ (notes : List QtdNote). out_of (note_in notes) e None 0 f.transfers) b.notes ∙ ap (λ (ts : List Transfer). out_of (note_in d.notes) e None 0 ts) b.transfers
    ∙ sym (out_is_all d e b.idle)

pub all_published : (d : DriverContent) (t : ℕ) (y : Transfer) → UnlinksAtMost d.command → unpublished_of d t y ≡ 0
all_published d t y may = by (nat_eq (suc t) (length d.transfers))
  where
    by : (b : Bool) → cond b (unpublished d.command d.made y.qtds) 0 ≡ 0
    by true = unpublished_none d.command d.made y.qtds may
    by false = refl
