-- What a transaction, a miss and a write-back leave of a siTD is of the same endpoint, and in parts.
use Rattle.std.proofs.Common.{◌≡◌, ℕ, ◌<◌, Bool, true, false, refl, ◌∙◌}
use Rattle.std.specs.Prelude.{if◌then◌else◌}
use Rattle.std.proofs.lemmas.Bool.{false≢true}
use Rattle.usb_base.specs.declared.packets.Reply.{Reply}
use Rattle.link_words.specs.declared.fields.LinkBits.{LinkBits}
use Rattle.itd_sitd.specs.declared.sitd.Sitd.{Sitd}
use Rattle.hc_masks.proofs.Room.{with_bit_small}
use Rattle.hc_iso.specs.declared.held.SitdTurn.TheVariants as turns
use Rattle.hc_iso.specs.declared.held.SplitHeard.{SplitHeard}
use Rattle.hc_iso.specs.declared.held.SplitHeard.TheVariants as heards
use Rattle.hc_iso.specs.Sitd.{sitd_turn, sitd_after, after_split_heard, after_complete, after_start, after_part, heard_by, in_after, missed_sitd, moved_sitd}
use Rattle.law_microframes.specs.time.SitdFields.{SitdName, IsSitdNamed, IsSitdAs, SitdsAreStable}
use Rattle.law_microframes.proofs.lemmas.time.SitdParts.{parts_stay}

-- the fields that no event changes, and the marks
pub record IsSitdStill (v w : Sitd) : Type 0 where
  pub way : w.dir_in ≡ v.dir_in
  pub smask : w.smask ≡ v.smask
  pub cmask : w.cmask ≡ v.cmask
  pub named : (w.addr ≡ v.addr) × ((w.ep ≡ v.ep) × ((w.hub ≡ v.hub) × (w.port ≡ v.port)))
  pub prog : v.c_prog < 256 → w.c_prog < 256

part_still : (v : Sitd) (u : ℕ) → u < 8 → IsSitdStill v (after_part u v)
unfolding after_part
part_still v u low = record { way = refl; smask = refl; cmask = refl; named = (refl, (refl, (refl, refl))); prog = λ small. with_bit_small v.c_prog u small low }

start_still : (v : Sitd) → IsSitdStill v (after_start v)
unfolding after_start
start_still v = record { way = refl; smask = refl; cmask = refl; named = (refl, (refl, (refl, refl))); prog = λ small. small }

heard_still : (v : Sitd) (heard : SplitHeard) → IsSitdStill v (after_split_heard heard v)
heard_still v (heards.Data last n) = record { way = refl; smask = refl; cmask = refl; named = (refl, (refl, (refl, refl))); prog = λ small. small }
heard_still v heards.Later = record { way = refl; smask = refl; cmask = refl; named = (refl, (refl, (refl, refl))); prog = λ small. small }
heard_still v heards.TooLong = record { way = refl; smask = refl; cmask = refl; named = (refl, (refl, (refl, refl))); prog = λ small. small }
heard_still v heards.Error = record { way = refl; smask = refl; cmask = refl; named = (refl, (refl, (refl, refl))); prog = λ small. small }
heard_still v heards.Wrong = record { way = refl; smask = refl; cmask = refl; named = (refl, (refl, (refl, refl))); prog = λ small. small }

complete_still : (v : Sitd) (u : ℕ) (heard : SplitHeard) → u < 8 → IsSitdStill v (after_complete u heard v)
unfolding after_complete
complete_still v u heard low =
    let h = heard_still v heard in
    record {
      way = h.way;
      smask = h.smask;
      cmask = h.cmask;
      named = h.named;
      prog =
          λ small. with_bit_small (after_split_heard heard v).c_prog u (h.prog small) low;
    }

in_still : (v : Sitd) (u : ℕ) (reply : Reply) (split : Bool) → u < 8
    → IsSitdStill v (if split then after_complete u (heard_by u v reply) v else after_start v)
in_still v u reply true low = complete_still v u (heard_by u v reply) low
in_still v u reply false low = start_still v

pub after_still : (v : Sitd) (u : ℕ) (reply : Reply) (way : Bool) → u < 8
    → IsSitdStill v (if way then in_after u reply v else after_part u v)
after_still v u reply true low = in_still v u reply v.split_state low
after_still v u reply false low = part_still v u low

named_by : (x : SitdName) (v w : Sitd) → (w.addr ≡ v.addr) × ((w.ep ≡ v.ep) × ((w.hub ≡ v.hub) × (w.port ≡ v.port))) → IsSitdNamed x v
    → IsSitdNamed x w
named_by x v w still k = (still.0 ∙ k.0, (still.1.0 ∙ k.1.0, (still.1.1.0 ∙ k.1.1.0, still.1.1.1 ∙ k.1.1.1)))

module _ (way : SitdName) (s c n : ℕ) where
  linked : (v : Sitd) (link : LinkBits) → IsSitdAs way s c n v → IsSitdAs way s c n (record v { link = link })
  linked v link k = record {
    way = k.way;
    named = k.named;
    smask = k.smask;
    cmask = k.cmask;
    prog = k.prog;
    parts = record { fits = k.parts.fits; count = k.parts.count; within = k.parts.within; position = k.parts.position };
  }

  worked : (v : Sitd) (u : ℕ) (reply : Reply) → IsSitdAs way s c n v → u < 8 → sitd_turn u v ≡ turns.Work
      → IsSitdAs way s c n (sitd_after u reply v)
  worked v u reply k low turn =
      let still = after_still v u reply v.dir_in low in
      record {
        way = still.way ∙ k.way;
        named = named_by way v (sitd_after u reply v) still.named k.named;
        smask = still.smask ∙ k.smask;
        cmask = still.cmask ∙ k.cmask;
        prog = still.prog k.prog;
        parts = parts_stay v n u reply k.parts k.prog low turn;
      }

  moved : (v : Sitd) (m : ℕ) → IsSitdAs way s c n v → IsSitdAs way s c n (moved_sitd m v)
  unfolding moved_sitd
  moved v m k = record {
    way = k.way;
    named = k.named;
    smask = k.smask;
    cmask = k.cmask;
    prog = k.prog;
    parts = record { fits = k.parts.fits; count = k.parts.count; within = k.parts.within; position = k.parts.position };
  }

  missed : (v : Sitd) → IsSitdAs way s c n v → IsSitdAs way s c n (missed_sitd v)
  unfolding missed_sitd
  missed v k = record {
    way = k.way;
    named = k.named;
    smask = k.smask;
    cmask = k.cmask;
    prog = k.prog;
    parts = record { fits = λ on. absurd (false≢true on); count = λ on. absurd (false≢true on); within = λ on. absurd (false≢true on); position = λ on. absurd (false≢true on) };
  }

pub sitds_are_stable : SitdsAreStable
sitds_are_stable way s c n =
    record { linked = linked way s c n; worked = worked way s c n; moved = moved way s c n; missed = missed way s c n }
